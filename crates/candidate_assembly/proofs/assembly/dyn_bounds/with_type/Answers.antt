use Rattle.std.proofs.Common.{rules, ◌≡◌, ◌∷◌}
use Rattle.ir_trees.specs.declared.ir.kinds.GenericArg.TheVariants as G
use Rattle.candidate_assembly.proofs.Objects.BoundClauses.{type-before}
use Rattle.candidate_assembly.proofs.assembly.dyn_bounds.with_type.Goals as goal

pub returns-clause-forest : goal.returns-clause-forest
returns-clause-forest c =
    let items : c.extend_from_slice.new.self.items ≡ G.Ty c.args.ty ∷ c.bound_args.result.now = search rules in
    type-before c.args.cx.now.trees c.args.ty c.bound_args.result.now c.extend_from_slice.new.self.items _ c.requires.ty c.bound_args.ensures.forest items
