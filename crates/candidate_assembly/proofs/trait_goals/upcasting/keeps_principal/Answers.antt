use Rattle.std.proofs.Common.{Option, subst}
use Rattle.ir_trees.specs.declared.ir.kinds.TraitId.{TraitId}
use Rattle.ir_trees.specs.Syntax.Words.{preds_forest, ty_tree}
use Rattle.candidate_assembly.specs.Rules.DynBounds.{principal_in}
use Rattle.candidate_assembly.proofs.Upcasting.UpcastParts.{IsPrincipal, keeps-none, keeps-not, keeps-same, principal-read}
use Rattle.candidate_assembly.proofs.trait_goals.upcasting.keeps_principal.Goals as goal

pub returns-in_default-None : goal.returns-in_default-None
returns-in_default-None c =
    let h = preds_forest c.args.cx.now.trees c.dyn_parts-2.result.0 in
    let from = ty_tree c.args.cx.now.trees c.args.from in
    let to = ty_tree c.args.cx.now.trees c.args.to in
    let q = principal-read to h c.principal-2.result c.dyn_parts-2.ensures.bounds c.principal-2.ensures in
    keeps-none (principal_in from) (principal_in to) (subst (λ (o : Option TraitId). IsPrincipal o (principal_in to)) c.in_default-None.is-1 q)

pub returns-in-None-Some : goal.returns-in-None-Some
returns-in-None-Some c =
    let f = preds_forest c.args.cx.now.trees c.dyn_parts.result.0 in
    let h = preds_forest c.args.cx.now.trees c.dyn_parts-2.result.0 in
    let from = ty_tree c.args.cx.now.trees c.args.from in
    let to = ty_tree c.args.cx.now.trees c.args.to in
    let p = principal-read from f c.principal.result c.dyn_parts.ensures.bounds c.principal.ensures in
    let q = principal-read to h c.principal-2.result c.dyn_parts-2.ensures.bounds c.principal-2.ensures in
    keeps-not c.in-None-Some.field-0-1 (principal_in from) (principal_in to) (subst (λ (o : Option TraitId). IsPrincipal o (principal_in from)) c.in-None-Some.is-0 p) (subst (λ (o : Option TraitId). IsPrincipal o (principal_in to)) c.in-None-Some.is-1 q)

pub returns-in-Some-Some : goal.returns-in-Some-Some
returns-in-Some-Some c =
    let f = preds_forest c.args.cx.now.trees c.dyn_parts.result.0 in
    let h = preds_forest c.args.cx.now.trees c.dyn_parts-2.result.0 in
    let from = ty_tree c.args.cx.now.trees c.args.from in
    let to = ty_tree c.args.cx.now.trees c.args.to in
    let p = principal-read from f c.principal.result c.dyn_parts.ensures.bounds c.principal.ensures in
    let q = principal-read to h c.principal-2.result c.dyn_parts-2.ensures.bounds c.principal-2.ensures in
    keeps-same c.in-Some-Some.source c.in-Some-Some.target (principal_in from) (principal_in to) (subst (λ (o : Option TraitId). IsPrincipal o (principal_in from)) c.in-Some-Some.is-0 p) (subst (λ (o : Option TraitId). IsPrincipal o (principal_in to)) c.in-Some-Some.is-1 q)
