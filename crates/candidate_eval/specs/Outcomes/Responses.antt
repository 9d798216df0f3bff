-- What an evaluator answers to a goal, and what that says of the variables.
use Rattle.std.specs.Prelude.{ℕ, suc, Bool, true, false, ◌&&◌, List, [], ◌∷◌}
use Rattle.ir_trees.specs.Syntax.Trees.{Forest, none, tree, Tree, is_number}
use Rattle.candidate_eval.specs.declared.eval.source.CandidateSource.{CandidateSource}
use Rattle.candidate_eval.specs.declared.eval.variable.CanonicalVar.{CanonicalVar}
use Rattle.candidate_eval.specs.Outcomes.Certainties.{Certainty}

-- The values of the root variables, with what is left open in them numbered from 0 in the order in which it first occurs; the
-- variables that are left, in that order; the outlives constraints; and how sure the answer is.
pub record Response : Type 0 where
  pub vars : List CanonicalVar
  pub values : Forest
  pub regions : List Tree
  pub certainty : Certainty

-- A way in which a goal may be proved, and what it comes to.
pub record Candidate : Type 0 where
  pub source : CandidateSource
  pub result : Response

-- The values are the variables from number n on, each its own.
abbrev pub are_open : ℕ → Forest → Bool
are_open n none = true
are_open n (tree h below rest) = is_number n h && are_open (suc n) rest

-- No root variable has got a value, and no two have become one: since variables are numbered by first occurrence, each root
-- variable is the one of its own number.
abbrev pub has_only_region_constraints : Response → Bool
has_only_region_constraints r = are_open 0 r.values

abbrev pub is_empty : {X : Type 0} → List X → Bool
is_empty [] = true
is_empty (x ∷ xs) = false

-- And no region constraint was found.
abbrev pub has_no_inference_or_external_constraints : Response → Bool
has_no_inference_or_external_constraints r = has_only_region_constraints r && is_empty r.regions
