-- Normal forms.
use Rattle.std.specs.Prelude.{◌&&◌, Option, Some, length, if◌then◌else◌}
use Rattle.std.specs.Option.{unwrap_or}
use Rattle.ir_trees.specs.declared.ir.heads.VariableSort.TheVariants.{General}
use Rattle.ir_trees.specs.Syntax.Trees.{Tree, is_alias, is_type}
use Rattle.candidate_eval.specs.declared.eval.variable.VariableKind.TheVariants.{Term}
use Rattle.candidate_eval.specs.Judges.States.{Env, State, resolved_tree, variable, with_fresh}
use Rattle.rounds_judge.specs.Aliases.Listed.{Listing, listed}
use Rattle.rounds_judge.specs.Equations.Opening.{are_open}

-- a listed alias is its type
abbrev pub type_or_itself : Listing → Tree → Tree
type_or_itself l t = if is_alias t.head then unwrap_or (listed l t) t else t

-- What may be any type is a fresh variable.
abbrev pub open_form : State → Tree × State
open_form S = (variable (Term General) (length S.variables), with_fresh S (Term General))

-- The tree with all values put in; if it is then a listed alias, its type, and if it is an open alias of a type, a fresh variable. It is
-- never refused.
abbrev pub normal_form : Listing → State → Tree → Tree × State
normal_form l S t = if are_open l S && (is_alias t.head && is_type t.head) then open_form S else (t, S)

abbrev pub normalized : Listing → State → Env → Tree → Option (Tree × State)
normalized l S e t = Some (normal_form l S (type_or_itself l (resolved_tree S t)))
