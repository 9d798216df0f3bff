use Rattle.std.proofs.Common.{ℕ, ap, ◌∙◌}
use Rattle.std.specs.Prelude.{nat_eq}
use Rattle.std.specs.Int.{bit_at}
use Rattle.std.proofs.lemmas.Nat.Bits.{shr_and_one}
use Rattle.ir_trees.proofs.ir.heads.Marks.has.Goals as goal

pub returns : goal.returns
returns c =
    ap (λ (x : ℕ). nat_eq x 1) (shr_and_one c.args.self.bits c.place.result ∙ ap (bit_at c.args.self.bits) c.place.ensures.is)
