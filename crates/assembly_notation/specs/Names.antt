-- What is wrong with a word that has to be a name.
use Rattle.assembly_notation.specs.declared.faults.Fault.{Fault}
use Rattle.assembly_notation.specs.declared.faults.Fault.TheVariants.{ShortLine, UnknownName}

-- No word was left, or it names nothing of the kind.
abbrev pub IsNoName : Fault → Type 0
IsNoName ShortLine = Unit {0}
IsNoName (UnknownName _) = Unit {0}
IsNoName _ = ⊥
