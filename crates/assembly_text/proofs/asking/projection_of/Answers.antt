use Rattle.std.proofs.Common.{◌≡◌, false, refl, rules, sym, ◌∙◌, ap, subst}
use Rattle.ir_trees.specs.declared.ir.kinds.TyKind.TheVariants as TK
use Rattle.ir_trees.specs.Declarations.Context.{world}
use Rattle.ir_trees.specs.Declarations.References.{ArgumentsFit, Takes}
use Rattle.ir_trees.specs.Syntax.Trees.{is_param, tree_holds}
use Rattle.ir_trees.specs.Syntax.Words.{IsArgs, kind_tree}
use Rattle.candidate_assembly.proofs.Aliases.AliasChains.{alias-tree}
use Rattle.candidate_rounds.specs.Table.Normalizing.{trait_predicate}
use Rattle.assembly_text.proofs.asking.projection_of.Goals as goal

pub returns : goal.returns
returns c =
    let now = c.args.cx.now in
    let alias = c.in-Alias.alias in
    let is : c.kind-kind.result ≡ TK.Alias alias = search rules in
    let sort : IsArgs now.trees alias.args = search rules in
    let takes : Takes (world now) (kind_tree now.trees c.kind-kind.result) = search rules in
    let of : c.trait_predicate.result.trait_ref ≡ (trait_predicate now alias).trait_ref = search rules in
    let fits : ArgumentsFit now c.trait_predicate.result.trait_ref = search rules in
    let tree = alias-tree now.trees alias sort in
    let bare : tree_holds is_param (kind_tree now.trees (TK.Alias alias)) ≡ false =
    ap (λ k. tree_holds is_param (kind_tree now.trees k)) (sym is) ∙ (ap (tree_holds is_param) c.kind-kind.ensures.tree ∙ c.requires.no_param refl) in
    record {
      projection = search rules;
      sort = sort;
      fits = subst (Takes (world now)) (ap (kind_tree now.trees) is ∙ tree) takes refl;
      reference_fits = subst (ArgumentsFit now) of fits;
      no_param = sym (ap (tree_holds is_param) tree) ∙ bare;
    }
