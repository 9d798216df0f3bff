use Rattle.candidate_assembly.proofs.Objects.BoundClauses.{trait-args-there}
use Rattle.candidate_assembly.proofs.assembly.dyn_bounds.bound_args.Goals as goal

pub args-requires : goal.args-requires
args-requires c = trait-args-there c.args.cx.now.trees c.args.bound c.in-Trait.trait_ref c.requires c.in-Trait.is
