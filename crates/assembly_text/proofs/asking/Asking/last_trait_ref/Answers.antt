use Rattle.assembly_text.proofs.Giving.{declared_grows}
use Rattle.assembly_text.proofs.asking.Asking.last_trait_ref.Goals as goal

pub invariant_of-self : goal.invariant_of-self
invariant_of-self c = record { given_is_declared = declared_grows _ _ _ c.read_trait_ref.ensures.grows c.args.self.now.given_is_declared }
