use Rattle.std.proofs.Common.{◌≡◌, refl, sym, ap, subst, ◌∙◌, None, Some, Err}
use Rattle.std.proofs.lemmas.Result.{err_from_is_err_and}
use Rattle.ir_trees.specs.Declarations.Context.{Context}
use Rattle.ir_trees.specs.Validity.WellFormed.{IsWellFormedTable}
use Rattle.ir_trees.specs.Syntax.Trees.{Tree}
use Rattle.ir_trees.specs.Syntax.Words.{env_forest, ty_tree}
use Rattle.candidate_eval.specs.Interface.Accounts.{by_stop}
use Rattle.candidate_eval.specs.Judges.States.{Env}
use Rattle.candidate_assembly.specs.Goals.Kinds.{self_type}
use Rattle.candidate_eval.specs.Interface.Accounts as question
use Rattle.candidate_assembly.proofs.Lists.AssembledSteps.{held-in, normal-form-stands, normal-listed, normalizing-stopped, refused-listed, stop-handed}
use Rattle.candidate_assembly.proofs.Calls.Keeping.{goal-kept}
use Rattle.candidate_assembly.proofs.Lists.OneTrivial.{one-listed-of}
use Rattle.candidate_assembly.proofs.assembly.candidates.assemble_and_evaluate_candidates.Goals as goal

pub returns-in-Err-NoSolution-clause-assembled : goal.returns-in-Err-NoSolution-clause-assembled
returns-in-Err-NoSolution-clause-assembled g c =
    let E = g.E.EvalCtxt in
    let K = g.G.GoalKind in
    let old = c.args.ecx.now in
    let mid = c.structurally_normalize_ty.new.self in
    let d = K.kind.seen (g.E.Build.context old).trees c.args.env c.args.predicate in
    let self-is : ty_tree (g.E.Build.context old).trees c.self_ty-self_ty.result ≡ self_type K.kind.rules (g.E.Build.context old) d
    = subst (λ (x : Context). ty_tree x.trees c.self_ty-self_ty.result ≡ self_type K.kind.rules x (K.kind.seen x.trees c.args.env c.args.predicate)) c.cx-2.ensures c.self_ty-self_ty.ensures.tree in
    let J = E.judge (E.fixed old) in
    let why = c.in-Err-NoSolution.ensures in
    let normal-is : J.normalized (E.state old) (K.kind.rules.env_of d) (self_type K.kind.rules (g.E.Build.context old) d) ≡ None
    = subst (λ (e : Env). J.normalized (E.state old) e (self_type K.kind.rules (g.E.Build.context old) d) ≡ None) (sym (g.met.G.GoalKind.env_given (g.E.Build.context old).trees c.args.env c.args.predicate))
    (subst (λ (t : Tree). J.normalized (E.state old) (env_forest (g.E.Build.context old).trees c.args.env) t ≡ None) self-is (why.refused c.in-Err-NoSolution.field-0-is)) in
    refused-listed (λ f. (g.met.E.EvalCtxt.lawful f).alike_judged_alike) old mid d c.args.from why.kept _ c.new-in-Err-NoSolution.ensures.items normal-is (why.rests c.in-Err-NoSolution.field-0-is)

pub returns-in-Err-Stop-clause-assembled : goal.returns-in-Err-Stop-clause-assembled
returns-in-Err-Stop-clause-assembled g c =
    let E = g.E.EvalCtxt in
    let K = g.G.GoalKind in
    let old = c.args.ecx.now in
    let mid = c.structurally_normalize_ty.new.self in
    let d = K.kind.seen (g.E.Build.context old).trees c.args.env c.args.predicate in
    let why = c.in-Err-Stop.ensures in
    normalizing-stopped (λ f. (g.met.E.EvalCtxt.lawful f).alike_judged_alike) old mid d c.args.from why.kept c.in-Err-Stop.stop _ (ap Err c.in-Err-Stop.stop-is) (question.normalize (env_forest (g.E.Build.context old).trees c.args.env) (ty_tree (g.E.Build.context old).trees c.self_ty-self_ty.result)) g.met.E.EvalCtxt.stops_itself why.undone
    (subst (by_stop (E.stops mid (E.state old) (question.normalize (env_forest (g.E.Build.context old).trees c.args.env) (ty_tree (g.E.Build.context old).trees c.self_ty-self_ty.result)))) c.in-Err-Stop.field-0-is why.cause)

pub assemble_for_normal-requires-clause-goal : goal.assemble_for_normal-requires-clause-goal
assemble_for_normal-requires-clause-goal g c =
    let grows = c.in-Ok.ensures.kept.grows in
    goal-kept grows (g.met.G.GoalKind.stays (g.E.Build.context c.args.ecx.now) (g.E.Build.context c.structurally_normalize_ty.new.self) c.args.env c.args.predicate grows c.requires.goal) c.requires.goal

pub assemble_for_normal-requires-clause-stands : goal.assemble_for_normal-requires-clause-stands
assemble_for_normal-requires-clause-stands g c =
    let E = g.E.EvalCtxt in
    let K = g.G.GoalKind in
    let old = c.args.ecx.now in
    let mid = c.structurally_normalize_ty.new.self in
    let d = K.kind.seen (g.E.Build.context old).trees c.args.env c.args.predicate in
    let self-is : ty_tree (g.E.Build.context old).trees c.self_ty-self_ty.result ≡ self_type K.kind.rules (g.E.Build.context old) d
    = subst (λ (x : Context). ty_tree x.trees c.self_ty-self_ty.result ≡ self_type K.kind.rules x (K.kind.seen x.trees c.args.env c.args.predicate)) c.cx-2.ensures c.self_ty-self_ty.ensures.tree in
    let J = E.judge (E.fixed old) in
    let says = g.met.G.GoalKind.stays (g.E.Build.context old) (g.E.Build.context mid) c.args.env c.args.predicate c.in-Ok.ensures.kept.grows c.requires.goal in
    let normal-is : J.normalized (E.state old) (K.kind.rules.env_of d) (self_type K.kind.rules (g.E.Build.context old) d) ≡ Some (ty_tree (g.E.Build.context mid).trees c.in-Ok.ty, E.state mid)
    = subst (λ (e : Env). J.normalized (E.state old) e (self_type K.kind.rules (g.E.Build.context old) d) ≡ Some (ty_tree (g.E.Build.context mid).trees c.in-Ok.ty, E.state mid)) (sym (g.met.G.GoalKind.env_given (g.E.Build.context old).trees c.args.env c.args.predicate))
    (subst (λ (t : Tree). J.normalized (E.state old) (env_forest (g.E.Build.context old).trees c.args.env) t ≡ Some (ty_tree (g.E.Build.context mid).trees c.in-Ok.ty, E.state mid)) self-is c.in-Ok.ensures.ok) in
    normal-form-stands K.kind.rules K.kind.bounds g.met.G.GoalKind.laws.change J (g.met.E.EvalCtxt.lawful (E.fixed old)).normal_forms (E.state old) (E.state mid) (g.E.Build.context old) d (K.kind.seen (g.E.Build.context mid).trees c.args.env c.args.predicate) (ty_tree (g.E.Build.context mid).trees c.in-Ok.ty) says.seen c.requires.stands normal-is

pub returns-in_err-candidates-clause-assembled : goal.returns-in_err-candidates-clause-assembled
returns-in_err-candidates-clause-assembled g c =
    let E = g.E.EvalCtxt in
    let K = g.G.GoalKind in
    let old = c.args.ecx.now in
    let mid = c.structurally_normalize_ty.new.self in
    let d = K.kind.seen (g.E.Build.context old).trees c.args.env c.args.predicate in
    let self-is : ty_tree (g.E.Build.context old).trees c.self_ty-self_ty.result ≡ self_type K.kind.rules (g.E.Build.context old) d
    = subst (λ (x : Context). ty_tree x.trees c.self_ty-self_ty.result ≡ self_type K.kind.rules x (K.kind.seen x.trees c.args.env c.args.predicate)) c.cx-2.ensures c.self_ty-self_ty.ensures.tree in
    let J = E.judge (E.fixed old) in
    let says = g.met.G.GoalKind.stays (g.E.Build.context old) (g.E.Build.context mid) c.args.env c.args.predicate c.in-Ok.ensures.kept.grows c.requires.goal in
    let normal-is : J.normalized (E.state old) (K.kind.rules.env_of d) (self_type K.kind.rules (g.E.Build.context old) d) ≡ Some (ty_tree (g.E.Build.context mid).trees c.in-Ok.ty, E.state mid)
    = subst (λ (e : Env). J.normalized (E.state old) e (self_type K.kind.rules (g.E.Build.context old) d) ≡ Some (ty_tree (g.E.Build.context mid).trees c.in-Ok.ty, E.state mid)) (sym (g.met.G.GoalKind.env_given (g.E.Build.context old).trees c.args.env c.args.predicate))
    (subst (λ (t : Tree). J.normalized (E.state old) (env_forest (g.E.Build.context old).trees c.args.env) t ≡ Some (ty_tree (g.E.Build.context mid).trees c.in-Ok.ty, E.state mid)) self-is c.in-Ok.ensures.ok) in
    let p = err_from_is_err_and c.from_residual.result c.from_residual.ensures.1 in
    rw (p.1 ∙ ap Err p.2) (normal-listed (λ f. (g.met.E.EvalCtxt.lawful f).alike_judged_alike) old mid d c.args.from c.in-Ok.ensures.kept c.assemble_for_normal.new.ecx (K.kind.seen (g.E.Build.context mid).trees c.args.env c.args.predicate) (ty_tree (g.E.Build.context mid).trees c.in-Ok.ty) (Err c.in_err-candidates.field-0.0)
    (subst IsWellFormedTable c.cx.ensures c.recall_well_formed_table.ensures)
    (λ x. g.met.G.GoalKind.laws.stay.reference (g.E.Build.context old) (g.E.Build.context mid) (subst IsWellFormedTable c.cx.ensures c.recall_well_formed_table.ensures) c.in-Ok.ensures.kept.grows x) says.seen normal-is (stop-handed c.in_err-candidates.field-0.0 c.in_err-candidates.ensures))

pub returns-clause-assembled : goal.returns-clause-assembled
returns-clause-assembled g c =
    let E = g.E.EvalCtxt in
    let K = g.G.GoalKind in
    let old = c.args.ecx.now in
    let mid = c.structurally_normalize_ty.new.self in
    let d = K.kind.seen (g.E.Build.context old).trees c.args.env c.args.predicate in
    let self-is : ty_tree (g.E.Build.context old).trees c.self_ty-self_ty.result ≡ self_type K.kind.rules (g.E.Build.context old) d
    = subst (λ (x : Context). ty_tree x.trees c.self_ty-self_ty.result ≡ self_type K.kind.rules x (K.kind.seen x.trees c.args.env c.args.predicate)) c.cx-2.ensures c.self_ty-self_ty.ensures.tree in
    let J = E.judge (E.fixed old) in
    let says = g.met.G.GoalKind.stays (g.E.Build.context old) (g.E.Build.context mid) c.args.env c.args.predicate c.in-Ok.ensures.kept.grows c.requires.goal in
    let normal-is : J.normalized (E.state old) (K.kind.rules.env_of d) (self_type K.kind.rules (g.E.Build.context old) d) ≡ Some (ty_tree (g.E.Build.context mid).trees c.in-Ok.ty, E.state mid)
    = subst (λ (e : Env). J.normalized (E.state old) e (self_type K.kind.rules (g.E.Build.context old) d) ≡ Some (ty_tree (g.E.Build.context mid).trees c.in-Ok.ty, E.state mid)) (sym (g.met.G.GoalKind.env_given (g.E.Build.context old).trees c.args.env c.args.predicate))
    (subst (λ (t : Tree). J.normalized (E.state old) (env_forest (g.E.Build.context old).trees c.args.env) t ≡ Some (ty_tree (g.E.Build.context mid).trees c.in-Ok.ty, E.state mid)) self-is c.in-Ok.ensures.ok) in
    normal-listed (λ f. (g.met.E.EvalCtxt.lawful f).alike_judged_alike) old mid d c.args.from c.in-Ok.ensures.kept c.assemble_for_normal.new.ecx (K.kind.seen (g.E.Build.context mid).trees c.args.env c.args.predicate) (ty_tree (g.E.Build.context mid).trees c.in-Ok.ty) _
    (subst IsWellFormedTable c.cx.ensures c.recall_well_formed_table.ensures)
    (λ x. g.met.G.GoalKind.laws.stay.reference (g.E.Build.context old) (g.E.Build.context mid) (subst IsWellFormedTable c.cx.ensures c.recall_well_formed_table.ensures) c.in-Ok.ensures.kept.grows x) says.seen normal-is (held-in (λ r. r.0.items) c.in_ok-candidates.candidates _ refl c.in_ok-candidates.ensures)

-- one candidate at most is trivial

pub returns-in-Err-NoSolution-clause-trivial : goal.returns-in-Err-NoSolution-clause-trivial
returns-in-Err-NoSolution-clause-trivial g c =
    let old = c.args.ecx.now in
    one-listed-of old c.structurally_normalize_ty.new.self (g.G.GoalKind.kind.seen (g.E.Build.context old).trees c.args.env c.args.predicate) c.args.from _ (g.met.G.GoalKind.laws.adds (g.E.Build.context old)) (returns-in-Err-NoSolution-clause-assembled g c)

pub returns-in-Err-Stop-clause-trivial : goal.returns-in-Err-Stop-clause-trivial
returns-in-Err-Stop-clause-trivial g c =
    let old = c.args.ecx.now in
    one-listed-of old c.structurally_normalize_ty.new.self (g.G.GoalKind.kind.seen (g.E.Build.context old).trees c.args.env c.args.predicate) c.args.from _ (g.met.G.GoalKind.laws.adds (g.E.Build.context old)) (returns-in-Err-Stop-clause-assembled g c)

pub returns-in_err-candidates-clause-trivial : goal.returns-in_err-candidates-clause-trivial
returns-in_err-candidates-clause-trivial g c =
    let old = c.args.ecx.now in
    one-listed-of old c.assemble_for_normal.new.ecx (g.G.GoalKind.kind.seen (g.E.Build.context old).trees c.args.env c.args.predicate) c.args.from _ (g.met.G.GoalKind.laws.adds (g.E.Build.context old)) (returns-in_err-candidates-clause-assembled g c)

pub returns-clause-trivial : goal.returns-clause-trivial
returns-clause-trivial g c =
    let old = c.args.ecx.now in
    one-listed-of old c.assemble_for_normal.new.ecx (g.G.GoalKind.kind.seen (g.E.Build.context old).trees c.args.env c.args.predicate) c.args.from _ (g.met.G.GoalKind.laws.adds (g.E.Build.context old)) (returns-clause-assembled g c)
