use Rattle.std.proofs.Common.{[], ◌∷◌, ap, rules}
use Rattle.candidate_rounds.proofs.Obligations.Noting.{arg-listed}
use Rattle.assembly_text.proofs.printing.last_of.Goals as goal

pub mk_args-requires : goal.mk_args-requires
mk_args-requires c = ap (λ k. k ∷ []) (arg-listed c.args.cx.now.trees c.args-values.result.now c.in-Some.place _ (search rules) c.args-values.ensures.fits)
