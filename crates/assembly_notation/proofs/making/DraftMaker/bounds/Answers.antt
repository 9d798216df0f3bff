use Rattle.assembly_notation.proofs.Giving.{given_grows}
use Rattle.assembly_notation.proofs.making.DraftMaker.bounds.Goals as goal

pub invariant_of-self : goal.invariant_of-self
invariant_of-self c = record { given_fits = given_grows _ _ _ c.mk_preds.ensures.made.kept c.args.self.now.given_fits; alias_is_noted = c.args.self.now.alias_is_noted }
