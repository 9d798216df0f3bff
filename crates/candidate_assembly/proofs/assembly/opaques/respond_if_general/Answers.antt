use Rattle.std.proofs.Common.{refl, ◌∙◌}
use Rattle.std.proofs.lemmas.Result.{IfErr-weaker}
use Rattle.ir_trees.specs.Syntax.Trees.{TypeKind}
use Rattle.ir_trees.specs.Syntax.Words.{ty_tree}
use Rattle.ir_trees.proofs.Syntax.Rows.{kind-of}
use Rattle.candidate_eval.proofs.Interface.Accounts.{by-stop, reaches}
use Rattle.candidate_assembly.proofs.Rules.PureFolder.{responds-so}
use Rattle.candidate_assembly.proofs.Calls.Keeping.{itself-here}
use Rattle.candidate_assembly.proofs.Opaques.OpaqueRules.{general-refused, general-told, still-is}
use Rattle.candidate_assembly.proofs.Calls.Stepping.{evaluator-own}
use Rattle.candidate_assembly.proofs.assembly.opaques.respond_if_general.Goals as goal

pub returns-then-not-is_ty_var-clause-told : goal.returns-then-not-is_ty_var-clause-told
returns-then-not-is_ty_var-clause-told g c =
    let E = g.E.EvalCtxt in
    let first = c.args.ecx.now in
    let ts = (g.E.Build.context first).trees in
    let t = ty_tree ts c.args.ty in
    let found = still-is c.cx.result.now (g.E.Build.context first) c.cx.ensures (E.state first) c.kind.result t c.shallow_resolve-resolved.result c.is_ty_var.result (kind-of ts c.args.ty.0 TypeKind refl c.requires) c.is_ty_var.ensures c.kind.ensures.tree
    (c.shallow_resolve-resolved.ensures.tree ∙ g.met.E.EvalCtxt.resolves first t) in
    general-refused ts (E.judge (E.fixed first)) (E.state first) t c.args.certainty (found ∙ c.if-not-is_ty_var.true)

pub returns-clause-told : goal.returns-clause-told
returns-clause-told g c =
    let E = g.E.EvalCtxt in
    let first = c.args.ecx.now in
    let ts = (g.E.Build.context first).trees in
    let t = ty_tree ts c.args.ty in
    let found = still-is c.cx.result.now (g.E.Build.context first) c.cx.ensures (E.state first) c.kind.result t c.shallow_resolve-resolved.result c.is_ty_var.result (kind-of ts c.args.ty.0 TypeKind refl c.requires) c.is_ty_var.ensures c.kind.ensures.tree
    (c.shallow_resolve-resolved.ensures.tree ∙ g.met.E.EvalCtxt.resolves first t) in
    let r = c.evaluate_added_goals_and_make_canonical_response in
    general-told (g.E.Build.context r.new.self).trees (E.judge (E.fixed first)) (E.state first) t c.args.certainty r.result (found ∙ c.if-not-is_ty_var.false)
    (responds-so (g.E.Build.context r.new.self).trees r.result _ r.ensures.sort r.ensures.ok r.ensures.refused
    (IfErr-weaker r.result _ _ (λ e h. by-stop e (λ s x. evaluator-own s (g.met.E.EvalCtxt.stops_itself _ _ _ s x)) h) r.ensures.cause))

pub returns-clause-cause : goal.returns-clause-cause
returns-clause-cause g c =
    let E = g.E.EvalCtxt in
    let r = c.evaluate_added_goals_and_make_canonical_response in
    itself-here E.fixed g.E.Build.context E.state E.stops r.result _ (reaches r.ensures.kept) r.ensures.cause
