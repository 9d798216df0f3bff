-- The language of rules: what a rule does, as data. In its trees the parameter number k is the rule's own variable number k.
-- So an impl's header and clauses stand in a rule as they were declared: the impl's parameters are its first variables. A goal
-- and its environment hold no parameters.
use Rattle.std.specs.Prelude.{ℕ, suc, Bool, List, [], ◌∷◌, map}
use Rattle.ir_trees.specs.declared.ir.heads.Head.{Head}
use Rattle.ir_trees.specs.declared.ir.heads.Head.TheVariants as H
use Rattle.ir_trees.specs.declared.ir.kinds.GoalSource.{GoalSource}
use Rattle.ir_trees.specs.declared.ir.kinds.GoalSource.TheVariants as G
use Rattle.ir_trees.specs.Syntax.Trees.{Kind, Forest, none, tree, Tree}
use Rattle.ir_trees.specs.Declarations.Worlds.{Reference, kinds_of}
use Rattle.candidate_eval.specs.declared.eval.source.CandidateSource.{CandidateSource}
use Rattle.candidate_eval.specs.Outcomes.Certainties.{Certainty}
use Rattle.candidate_eval.specs.Judges.States.{Env}

-- A bound that may match a target: placeholders for these kinds and then fresh variables for those, which the match alone
-- names; two rows that are equated; and the term that it gives.
pub record Match : Type 0 where
  pub entered : List Kind
  pub instantiated : List Kind
  pub left : Forest
  pub right : Forest
  pub term : Tree

-- How one of some matches is picked.
pub data Pick : Type 0 where
  -- with what is pending; none refuses; the goals of the one are evaluated
  Upcast : Pick
  -- with nothing pending; none is ambiguous, and so is the one whose equation is refused
  Require : Pick

pub data Step : Type 0 where
  -- fresh variables of these kinds become the next of the rule's variables
  fresh : List Kind → Step
  -- placeholders of a fresh universe do
  enter : List Kind → Step
  -- two rows of trees are equated, and the goals that this leaves become pending
  equate : Forest → Forest → Step
  -- quick rejection: the trees may unify with the second ones, which stand under a binder
  quick : Forest → Forest → Step
  -- a goal becomes pending
  add : GoalSource → Tree → Step
  -- what is pending is evaluated
  settle : Step
  -- Of the bounds that match, each tried in a probe, the only one is equated, and its term becomes the next of the rule's
  -- variables. Two or more end the rule with ambiguity.
  pick : Pick → List Match → Step
  -- the type must still be a general variable
  still_general : Tree → Step
  -- other crates must be free to write impls of the reference
  unknowable : Reference → Step

-- What is asked for in the end.
pub data Ending : Type 0 where
  -- a response of this source, with at most this certainty
  ask : CandidateSource → Certainty → Ending
  -- one with the source and the certainty that characterisation of the clause finds
  characterise : Tree → Ending

-- Whether it applies is known before it runs: a condition on the goal's trees and on what is declared.
pub record Rule : Type 0 where
  pub env : Env
  pub applies : Bool
  pub steps : List Step
  pub ending : Ending

-- names for the rule's variables from that number on, one for each kind
abbrev pub names : ℕ → List Kind → Forest
names n [] = none
names n (k ∷ ks) = tree (H.Param n) none (names (suc n) ks)

-- a tree with the head whose children are the rule's first variables
abbrev pub named_tree : Head → Forest → Tree
named_tree h below = record { head = h; children = names 0 (kinds_of below) }

-- clauses become pending goals, one after the other
abbrev pub nested : List Tree → List Step
nested cs = map (add G.ImplWhereBound) cs

abbrev pub nested_misc : List Tree → List Step
nested_misc cs = map (add G.Misc) cs

-- no bound matches
abbrev pub refuse : Step
refuse = pick Upcast []
