use Rattle.std.proofs.Common.{reverse, sym, ◌∙◌}
use Rattle.ir_trees.specs.declared.ir.heads.Flag.TheVariants as F
use Rattle.candidate_rounds.proofs.Resolution.Quiet.{placed_at-quiet}
use Rattle.candidate_rounds.proofs.rounds.values.PlacingPureFolderCx.may_answer.Goals as goal

pub returns : goal.returns
returns c = λ ts d t are off. placed_at-quiet (reverse c.args.self.now.universes.now) d t (sym (are F.RegionBound) ∙ (sym c.has.ensures ∙ off))
