-- What a refused declaration is among the faults of a line.
use Rattle.ir_trees.specs.declared.decl.fault.DeclFault.{DeclFault}
use Rattle.ir_trees.specs.declared.decl.fault.DeclFault.TheVariants as F
use Rattle.ir_trees.specs.declared.ir.stop.Stop.TheVariants as S
use Rattle.assembly_notation.specs.declared.faults.Fault.{Fault}
use Rattle.assembly_notation.specs.declared.faults.Fault.TheVariants.{Declarations, Stop}

abbrev pub fault_of : DeclFault → Fault
fault_of F.Memory = Stop S.Memory
fault_of f = Declarations f
