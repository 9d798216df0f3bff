use Rattle.assembly_notation.proofs.Giving.{given_grows}
use Rattle.assembly_notation.proofs.Lacking.{or-right}
use Rattle.assembly_notation.proofs.making.DraftMaker.ty.Goals as goal

pub invariant_of-self : goal.invariant_of-self
invariant_of-self c = record {
  given_fits = given_grows _ _ _ c.mk_ty.ensures.made.kept c.args.self.now.given_fits;
  alias_is_noted = or-right c.args.self.now.has_alias _;
}
