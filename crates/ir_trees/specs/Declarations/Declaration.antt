-- One definition, as it was declared.
use Rattle.std.specs.Prelude.{List}
use Rattle.ir_trees.specs.declared.ir.kinds.VarKind.{VarKind}
use Rattle.ir_trees.specs.declared.decl.definition.CrateId.{CrateId}
use Rattle.ir_trees.specs.declared.decl.definition.DefinitionKind.{DefinitionKind}

pub record Declaration : Type 0 where
  pub crate : CrateId
  -- the kinds of its parameters; of a trait's and of its items', those after `Self`
  pub parameters : List VarKind
  pub kind : DefinitionKind
