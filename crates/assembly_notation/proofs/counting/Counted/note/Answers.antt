use Rattle.std.proofs.Common.{sym, subst}
use Rattle.assembly_notation.specs.Spelling.{AreCounted}
use Rattle.assembly_notation.proofs.Spelling.{noted-anyway}
use Rattle.assembly_notation.proofs.counting.Counted.note.Goals as goal

pub returns : goal.returns
returns c = λ ts a q.
    let old = c.self.inside.words.entries in
    noted-anyway ts c.args.number c.args.words c.insert.result old c.insert.new.self.entries c.insert.ensures.entries c.insert.ensures.err (subst (AreCounted ts) (sym c.self.view_is) a) q
