use Rattle.std.proofs.Common.{ap, sym, ◌∙◌, Some, [], ◌∷◌}
use Rattle.ir_trees.specs.Declarations.Context.{world}
use Rattle.ir_trees.specs.Declarations.Worlds.{TraitSort, joined, parameters}
use Rattle.ir_trees.specs.Syntax.Trees.{TypeKind}
use Rattle.ir_trees.specs.Syntax.Words.{args_forest}
use Rattle.projection_goals.proofs.Changing.{fit-here, reference-here}
use Rattle.projection_goals.proofs.kind.reference.Goals as goal

pub returns-clause-fit : goal.returns-clause-fit
returns-clause-fit c =
    let now = c.args.cx.now in
    ap (λ n. joined (Some (TypeKind ∷ [])) (parameters (world now) TraitSort n)) c.trait_of.ensures ∙ fit-here now c.args.env c.args.predicate c.requires

pub returns-clause-is : goal.returns-clause-is
returns-clause-is c =
    let now = c.args.cx.now in
    ap (λ n. record { trait = n; arguments = args_forest now.trees c.args.predicate.alias.args }) c.trait_of.ensures ∙ sym (reference-here now c.args.env c.args.predicate c.requires)
