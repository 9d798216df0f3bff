-- Where two equal trees that meet may change the state, or leave other trees than those below them.
use Rattle.std.specs.Prelude.{◌≡◌, Bool, false, ◌&&◌, ◌||◌}
use Rattle.ir_trees.specs.declared.ir.heads.Head.{Head}
use Rattle.ir_trees.specs.Syntax.Trees.{Forest, none, tree, is_alias}
use Rattle.candidate_eval.specs.Interface.Evaluators.{root_value}
use Rattle.candidate_eval.specs.Judges.Soundness.{has_value, is_region}
use Rattle.candidate_eval.specs.Judges.States.{State, is_some, resolved}
use Rattle.rounds_judge.specs.Aliases.Listed.{Listing}
use Rattle.rounds_judge.specs.Equations.Opening.{readied}
use Rattle.rounds_judge.specs.Equations.Scopes.{has_binder, has_variables}

-- A binder, which is entered, with a fresh universe where it has variables; an alias, which may be listed; or a variable of types or
-- constants with a value, which comes in its place.
abbrev pub is_active : State → Head → Bool
is_active S h = has_binder h || (is_alias h || is_some (root_value S h))

-- Where two trees that meet may change the state, though they are one once all values and listed types are put in: a binder with variables,
-- which have a fresh universe; or a region variable with a value, since regions are made equal as they stand.

abbrev pub stirs_at : State → Head → Forest → Bool
stirs_at S h below = (has_binder h && has_variables below) || (is_region h && has_value S h)

abbrev pub stirs : State → Forest → Bool
stirs S none = false
stirs S (tree h below rest) = stirs_at S h below || (stirs S below || stirs S rest)

-- There is no such place in the trees: not as they stand, not with all values put in, and not with listed types in the place of their
-- aliases, too.
pub record IsStill (l : Listing) (S : State) (ts : Forest) : Type 0 where
  pub standing : stirs S ts ≡ false
  pub valued : stirs S (resolved S ts) ≡ false
  pub ready : stirs S (readied l S ts) ≡ false

-- Two rows that are one with all values and listed types put in, and in which nothing stirs.
pub record AreOne (l : Listing) (S : State) (left right : Forest) : Type 0 where
  pub left_is_still : IsStill l S left
  pub right_is_still : IsStill l S right
  pub same : readied l S left ≡ readied l S right
