use Rattle.std.proofs.Common.{sym, ap}
use Rattle.ir_trees.specs.Syntax.Kinds.{ty_head}
use Rattle.ir_trees.proofs.ir.kinds.TyKind.head.Goals as goal

pub returns-in-Bool : goal.returns-in-Bool
returns-in-Bool c = sym (ap ty_head c.in-Bool.is)

pub returns-in-Char : goal.returns-in-Char
returns-in-Char c = sym (ap ty_head c.in-Char.is)

pub returns-in-Int : goal.returns-in-Int
returns-in-Int c = sym (ap ty_head c.in-Int.is)

pub returns-in-Uint : goal.returns-in-Uint
returns-in-Uint c = sym (ap ty_head c.in-Uint.is)

pub returns-in-Float : goal.returns-in-Float
returns-in-Float c = sym (ap ty_head c.in-Float.is)

pub returns-in-Str : goal.returns-in-Str
returns-in-Str c = sym (ap ty_head c.in-Str.is)

pub returns-in-Never : goal.returns-in-Never
returns-in-Never c = sym (ap ty_head c.in-Never.is)

pub returns-in-Adt : goal.returns-in-Adt
returns-in-Adt c = sym (ap ty_head c.in-Adt.is)

pub returns-in-Foreign : goal.returns-in-Foreign
returns-in-Foreign c = sym (ap ty_head c.in-Foreign.is)

pub returns-in-Array : goal.returns-in-Array
returns-in-Array c = sym (ap ty_head c.in-Array.is)

pub returns-in-Slice : goal.returns-in-Slice
returns-in-Slice c = sym (ap ty_head c.in-Slice.is)

pub returns-in-RawPtr : goal.returns-in-RawPtr
returns-in-RawPtr c = sym (ap ty_head c.in-RawPtr.is)

pub returns-in-Ref : goal.returns-in-Ref
returns-in-Ref c = sym (ap ty_head c.in-Ref.is)

pub returns-in-FnDef : goal.returns-in-FnDef
returns-in-FnDef c = sym (ap ty_head c.in-FnDef.is)

pub returns-in-FnPtr : goal.returns-in-FnPtr
returns-in-FnPtr c = sym (ap ty_head c.in-FnPtr.is)

pub returns-in-UnsafeBinder : goal.returns-in-UnsafeBinder
returns-in-UnsafeBinder c = sym (ap ty_head c.in-UnsafeBinder.is)

pub returns-in-Dynamic : goal.returns-in-Dynamic
returns-in-Dynamic c = sym (ap ty_head c.in-Dynamic.is)

pub returns-in-Closure : goal.returns-in-Closure
returns-in-Closure c = sym (ap ty_head c.in-Closure.is)

pub returns-in-Tuple : goal.returns-in-Tuple
returns-in-Tuple c = sym (ap ty_head c.in-Tuple.is)

pub returns-in-Alias : goal.returns-in-Alias
returns-in-Alias c = sym (ap ty_head c.in-Alias.is)

pub returns-in-Param : goal.returns-in-Param
returns-in-Param c = sym (ap ty_head c.in-Param.is)

pub returns-in-Placeholder : goal.returns-in-Placeholder
returns-in-Placeholder c = sym (ap ty_head c.in-Placeholder.is)

pub returns-in-Bound : goal.returns-in-Bound
returns-in-Bound c = sym (ap ty_head c.in-Bound.is)

pub returns-in-Error : goal.returns-in-Error
returns-in-Error c = sym (ap ty_head c.in-Error.is)
