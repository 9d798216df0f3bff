-- Two numbers that meet again: what is asked of their trees before they are passed over.
use Rattle.std.specs.Prelude.{◌≡◌, ◌&&◌, ◌||◌, ℕ, Bool, false, None, List}
use Rattle.ir_trees.specs.declared.ir.heads.Head.{Head}
use Rattle.ir_trees.specs.declared.ir.kinds.GenericArg.{GenericArg}
use Rattle.ir_trees.specs.Instantiation.Folds.{arg_tree}
use Rattle.ir_trees.specs.Syntax.Nodes.{tree_at}
use Rattle.ir_trees.specs.Syntax.Trees.{Forest, none, tree, Tree, variable_number}
use Rattle.ir_trees.specs.Unification.Substitutions.{alone}
use Rattle.candidate_eval.specs.Judges.Soundness.{is_region}
use Rattle.candidate_eval.specs.Judges.States.{State, is_some, resolved_tree}
use Rattle.rounds_judge.specs.Aliases.Listed.{Listing, normalized_tree}
use Rattle.rounds_judge.specs.Equations.Active.{IsStill, stirs}
use Rattle.rounds_judge.specs.Equations.Opening.{readied}
use Rattle.rounds_judge.specs.Equations.Scopes.{has_binder, has_variables}
use Rattle.candidate_rounds.specs.Evaluators.Inferences.{Inference, kept_at}
use Rattle.candidate_rounds.specs.Evaluators.Known.{rigid_otherwise}
use Rattle.candidate_rounds.specs.Table.Goals.{Each}

-- What stirs at whatever state these variables are of: see `stirs`.

abbrev pub stirs_where : Inference → Head → Forest → Bool
stirs_where s h below = (has_binder h && has_variables below) || (is_region h && is_some (kept_at s h))

abbrev pub stirs_in : Inference → Forest → Bool
stirs_in s none = false
stirs_in s (tree h below rest) = stirs_where s h below || (stirs_in s below || stirs_in s rest)

abbrev pub tree_stirs : Inference → Tree → Bool
tree_stirs s t = stirs_where s t.head t.children || stirs_in s t.children

-- Nothing stirs in the trees of these numbers.
abbrev pub AreStill : Inference → List Tree → List ℕ → Type 0
AreStill s ts ns = Each (λ n. tree_stirs s (tree_at ts n) ≡ false) ns

-- The third tree has the root of the first one, and nothing stirs in any.
pub record KeepsState (s : Inference) (t u v : Tree) : Type 0 where
  pub root : v.head ≡ t.head
  pub standing : tree_stirs s t ≡ false
  pub valued : tree_stirs s u ≡ false
  pub listed : tree_stirs s v ≡ false

-- The first of two arguments is the tree with all values put in, and the second is that with the types of these pairs in the place of their
-- aliases.
pub record ArePutIn (ts : List Tree) (pairs : List (Tree × Tree)) (S : State) (t : Tree) (p : GenericArg × GenericArg) : Type 0 where
  pub resolved : arg_tree ts p.0 ≡ resolved_tree S t
  pub listed : arg_tree ts p.1 ≡ normalized_tree (rigid_otherwise pairs) (arg_tree ts p.0)

-- The second tree is the first with all values put in, and the types of these pairs in the place of their aliases. It has the root of the
-- first one, which is no variable; and nothing stirs, however much of that is put in.
pub record IsReadyAt (pairs : List (Tree × Tree)) (S : State) (t v : Tree) : Type 0 where
  pub ready : v ≡ normalized_tree (rigid_otherwise pairs) (resolved_tree S t)
  pub root : v.head ≡ t.head
  pub no_variable : variable_number t.head ≡ None
  pub standing : stirs S (alone t) ≡ false
  pub valued : stirs S (alone (resolved_tree S t)) ≡ false
  pub listed : stirs S (alone v) ≡ false

-- What is below the second tree is what is below the first with all values and listed types put in, and nothing stirs below it.
pub record IsReady (l : Listing) (S : State) (t v : Tree) : Type 0 where
  pub below : readied l S t.children ≡ v.children
  pub still : IsStill l S t.children
