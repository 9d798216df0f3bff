-- The parameters of a definition, as they are kept.
use Rattle.std.specs.Prelude.{Bool, true, false, List, replicate}
use Rattle.ir_trees.specs.declared.ir.kinds.VarKind.{VarKind}
use Rattle.ir_trees.specs.declared.ir.kinds.VarKind.TheVariants as V
use Rattle.ir_trees.specs.declared.ir.kinds.GenericArg.{GenericArg}
use Rattle.ir_trees.specs.declared.ir.kinds.GenericArg.TheVariants as A
use Rattle.ir_trees.specs.declared.decl.definition.Parameters.{Parameters}
use Rattle.ir_trees.specs.declared.decl.definition.Parameters.TheVariants as P

-- Their kinds in order.
abbrev pub kinds_of : Parameters → List VarKind
kinds_of (P.Types n) = replicate n V.Ty
kinds_of (P.Kinds v) = v.items

abbrev pub is_type_kind : VarKind → Bool
is_type_kind V.Ty = true
is_type_kind _ = false

abbrev pub is_type_arg : GenericArg → Bool
is_type_arg (A.Ty _) = true
is_type_arg _ = false
