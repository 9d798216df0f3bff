use Rattle.std.proofs.Common.{ap, sym, ◌∙◌}
use Rattle.ir_trees.specs.Syntax.Words.{ty_tree}
use Rattle.candidate_assembly.specs.Rules.BuiltinRules.{is_set}
use Rattle.candidate_assembly.proofs.Objects.BoundClauses.{compatible-is, compatible-with, no-principal}
use Rattle.candidate_assembly.proofs.assembly.dyn_bounds.is_dyn_compatible.Goals as goal

pub returns-in_default : goal.returns-in_default
returns-in_default c =
    let cx = c.args.cx.now in
    let o = c.principal.result in
    no-principal cx o c.in_default.not-Some ∙ compatible-is cx (ty_tree cx.trees c.args.ty) c.dyn_parts.result.0 o c.dyn_parts.ensures.bounds c.principal.ensures

pub returns-in-Some-trait_flags : goal.returns-in-Some-trait_flags
returns-in-Some-trait_flags c =
    let cx = c.args.cx.now in
    let o = c.principal.result in
    ap (is_set (λ f. f.dyn_compatible)) (sym c.in-Some-trait_flags.is ∙ c.trait_flags.ensures)
    ∙ (sym (ap (compatible-with cx) c.in-Some.is) ∙ compatible-is cx (ty_tree cx.trees c.args.ty) c.dyn_parts.result.0 o c.dyn_parts.ensures.bounds c.principal.ensures)

pub returns-in-None : goal.returns-in-None
returns-in-None c =
    let cx = c.args.cx.now in
    let o = c.principal.result in
    ap (is_set (λ f. f.dyn_compatible)) (sym c.in-None.is ∙ c.trait_flags.ensures)
    ∙ (sym (ap (compatible-with cx) c.in-Some.is) ∙ compatible-is cx (ty_tree cx.trees c.args.ty) c.dyn_parts.result.0 o c.dyn_parts.ensures.bounds c.principal.ensures)
