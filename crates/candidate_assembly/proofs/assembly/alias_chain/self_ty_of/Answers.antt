use Rattle.std.proofs.Common.{sym, ap, ◌∙◌}
use Rattle.ir_trees.specs.Syntax.Trees.{Tree}
use Rattle.candidate_eval.specs.Dynamic.ObjectRequirements.{first_tree}
use Rattle.candidate_eval.proofs.Dynamic.ObjectCandidates.{first-is}
use Rattle.candidate_eval.proofs.Dynamic.Replacing.{first-fits}
use Rattle.candidate_assembly.proofs.Aliases.AliasChains.{alias-tree, projection-first}
use Rattle.candidate_assembly.proofs.assembly.alias_chain.self_ty_of.Goals as goal

pub unreachable-requires : goal.unreachable-requires
unreachable-requires c = projection-first c.args.cx.now c.args.alias c.args-2.result.now c.requires.alias c.requires.projection c.args-2.ensures.fits c.args-2.ensures.tree (sym c.first_type.ensures ∙ c.in-None.is)

pub returns-clause-sort : goal.returns-clause-sort
returns-clause-sort c = first-fits c.args.cx.now.trees c.args-2.result.now c.in-Some.ty c.args-2.ensures.fits (sym c.first_type.ensures ∙ c.in-Some.is)

pub returns-clause-tree : goal.returns-clause-tree
returns-clause-tree c =
    first-is c.args.cx.now.trees c.args-2.result.now _ c.in-Some.ty c.args-2.ensures.fits c.args-2.ensures.tree (sym c.first_type.ensures ∙ c.in-Some.is)
    ∙ sym (ap (λ (t : Tree). first_tree t.children) (alias-tree c.args.cx.now.trees c.args.alias c.requires.alias.args))
