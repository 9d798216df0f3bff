use Rattle.std.proofs.Common.{◌<◌, ℕ, length, subst, sym}
use Rattle.candidate_assembly.proofs.Rules.Characterizing.{arg-below}
use Rattle.candidate_assembly.proofs.assembly.characterize.said_by_itself.Goals as goal

pub head-requires : goal.head-requires
head-requires c =
    subst (λ (n : ℕ). n < length c.args.cx.now.trees) (sym c.number.ensures) (arg-below c.args.cx.now.trees c.args.arg c.requires)
