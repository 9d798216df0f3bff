use Rattle.std.proofs.Common.{sym, ◌∙◌}
use Rattle.ir_trees.specs.declared.ir.heads.Flag.TheVariants as F
use Rattle.candidate_rounds.proofs.Table.Cleanness.{without-mark}
use Rattle.candidate_rounds.proofs.rounds.cleanness.ErrorRegionMark.may_stand.Goals as goal

pub returns : goal.returns
returns c = λ t a n. without-mark t (sym (a F.Error) ∙ (sym c.has.ensures ∙ n))
