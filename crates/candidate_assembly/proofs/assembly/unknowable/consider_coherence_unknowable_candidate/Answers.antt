use Rattle.std.proofs.Common.{◌≡◌, ap, subst, sym, ◌∙◌}
use Rattle.std.proofs.lemmas.Result.{err_from_is_err_and}
use Rattle.ir_trees.specs.Declarations.Context.{Context}
use Rattle.ir_trees.specs.Declarations.References.{reference_of}
use Rattle.ir_trees.specs.Syntax.Trees.{holds, is_param}
use Rattle.ir_trees.specs.Validity.WellFormed.{IsWellFormedTable}
use Rattle.ir_trees.specs.Syntax.Words.{IsArgs, env_forest}
use Rattle.ir_trees.proofs.Growth.Kept.{args-kept}
use Rattle.candidate_eval.specs.declared.eval.context.ProbeKind.TheVariants.{Kept}
use Rattle.candidate_eval.specs.Interface.Accounts as question
use Rattle.candidate_eval.proofs.Dynamic.Objects.{env-kept}
use Rattle.candidate_assembly.specs.Rules.Unknowable.{UnknowableJudged}
use Rattle.candidate_assembly.proofs.Calls.Causes.{answered-stop}
use Rattle.candidate_assembly.proofs.Calls.ToldSome.{some-in-probe, some-not-begun}
use Rattle.candidate_assembly.proofs.Goals.TraitClauses.{fit-kept}
use Rattle.candidate_assembly.proofs.Lists.Unknowing.{reference-fits, reference-free, unknowable-begun}
use Rattle.candidate_assembly.proofs.Calls.Using.{considers-some-using}
use Rattle.candidate_assembly.proofs.assembly.unknowable.consider_coherence_unknowable_candidate.Goals as goal

pub returns-in_err-probe : goal.returns-in_err-probe
returns-in_err-probe g c =
    let E = g.E.EvalCtxt in
    let G = g.G.GoalKind in
    let why = c.in_err-probe.ensures in
    let old = g.E.Build.context c.args.ecx.now in
    let goal = G.kind.seen old.trees c.args.env c.args.predicate in
    let s = c.in_err-probe.field-0.0 in
    some-not-begun g.met.E.EvalCtxt.stops_itself (λ f. (g.met.E.EvalCtxt.lawful f).alike_judged_alike) c.args.ecx.now c.begin_probe.new.self (question.begin_probe Kept)
    (UnknowableJudged (E.judge (E.fixed c.args.ecx.now)) old (E.state c.args.ecx.now) (G.kind.rules.env_of goal) (G.kind.rules.reference_of old goal)) c.from_residual.result s
    (answered-stop c.from_residual.result s (err_from_is_err_and c.from_residual.result c.from_residual.ensures.1)) why.fixed why.grows why.faults why.stopped why.cause

pub try_unknowable-answer-requires-clause-env : goal.try_unknowable-answer-requires-clause-env
try_unknowable-answer-requires-clause-env g c = (env-kept (g.E.Build.context c.args.ecx.now) (g.E.Build.context c.begin_probe.new.self) c.args.env c.begin_probe.ensures.grows c.requires.goal.env).0

pub try_unknowable-answer-requires-clause-args : goal.try_unknowable-answer-requires-clause-args
try_unknowable-answer-requires-clause-args g c =
    let old = g.E.Build.context c.args.ecx.now in
    let r = c.trait_ref-trait_ref.result in
    let sort : IsArgs old.trees r.args = subst (λ (x : Context). IsArgs x.trees r.args) c.cx-2.ensures c.trait_ref-trait_ref.ensures.sort in
    (args-kept old (g.E.Build.context c.begin_probe.new.self) r.args c.begin_probe.ensures.grows sort).0

pub try_unknowable-answer-requires-clause-fit : goal.try_unknowable-answer-requires-clause-fit
try_unknowable-answer-requires-clause-fit g c =
    let G = g.G.GoalKind in
    let old = g.E.Build.context c.args.ecx.now in
    let goal = G.kind.seen old.trees c.args.env c.args.predicate in
    let r = c.trait_ref-trait_ref.result in
    let is : reference_of old.trees r ≡ G.kind.rules.reference_of old goal
    = subst (λ (x : Context). reference_of x.trees r ≡ G.kind.rules.reference_of x (G.kind.seen x.trees c.args.env c.args.predicate)) c.cx-2.ensures c.trait_ref-trait_ref.ensures.is in
    let sort : IsArgs old.trees r.args = subst (λ (x : Context). IsArgs x.trees r.args) c.cx-2.ensures c.trait_ref-trait_ref.ensures.sort in
    fit-kept old (g.E.Build.context c.begin_probe.new.self) r c.begin_probe.ensures.grows sort (reference-fits old r (G.kind.rules.reference_of old goal) is c.requires.goal.fit)

pub try_unknowable-answer-requires-clause-free : goal.try_unknowable-answer-requires-clause-free
try_unknowable-answer-requires-clause-free g c =
    let G = g.G.GoalKind in
    let old = g.E.Build.context c.args.ecx.now in
    let goal = G.kind.seen old.trees c.args.env c.args.predicate in
    let r = c.trait_ref-trait_ref.result in
    let is : reference_of old.trees r ≡ G.kind.rules.reference_of old goal
    = subst (λ (x : Context). reference_of x.trees r ≡ G.kind.rules.reference_of x (G.kind.seen x.trees c.args.env c.args.predicate)) c.cx-2.ensures c.trait_ref-trait_ref.ensures.is in
    let sort : IsArgs old.trees r.args = subst (λ (x : Context). IsArgs x.trees r.args) c.cx-2.ensures c.trait_ref-trait_ref.ensures.sort in
    let free = g.met.G.GoalKind.laws.change.reference_holds is_param old goal c.requires.goal.no_parameter in
    ap (holds is_param) (args-kept old (g.E.Build.context c.begin_probe.new.self) r.args c.begin_probe.ensures.grows sort).1 ∙ reference-free old r (G.kind.rules.reference_of old goal) is free

pub returns : goal.returns
returns g c =
    let E = g.E.EvalCtxt in
    let G = g.G.GoalKind in
    let old = g.E.Build.context c.args.ecx.now in
    let goal = G.kind.seen old.trees c.args.env c.args.predicate in
    let r = c.trait_ref-trait_ref.result in
    let is : reference_of old.trees r ≡ G.kind.rules.reference_of old goal
    = subst (λ (x : Context). reference_of x.trees r ≡ G.kind.rules.reference_of x (G.kind.seen x.trees c.args.env c.args.predicate)) c.cx-2.ensures c.trait_ref-trait_ref.ensures.is in
    let sort : IsArgs old.trees r.args = subst (λ (x : Context). IsArgs x.trees r.args) c.cx-2.ensures c.trait_ref-trait_ref.ensures.sort in
    let first = c.args.ecx.now in
    let middle = c.begin_probe.new.self in
    let mid = g.E.Build.context middle in
    let ran = c.try_unknowable-answer in
    let end = c.end_probe-usages.ensures in
    let began = c.in_ok-probe.ensures in
    let table : IsWellFormedTable old = subst IsWellFormedTable c.cx.ensures c.recall_well_formed_table.ensures in
    considers-some-using first c.end_probe-usages.new.self _ c.end_probe-usages.result ran.result c.with_head_usages.result c.with_head_usages.ensures
    (some-in-probe first middle ran.new.ecx c.end_probe-usages.new.self
    (UnknowableJudged (E.judge (E.fixed middle)) mid (E.state middle) (env_forest mid.trees c.args.env) (reference_of mid.trees r))
    (UnknowableJudged (E.judge (E.fixed first)) old (E.state first) (G.kind.rules.env_of goal) (G.kind.rules.reference_of old goal)) ran.result
    began.fixed began.ok.1 began.grows began.faults ran.ensures.kept end.fixed end.grows end.faults end.left end.closed
    (unknowable-begun (E.judge (E.fixed first)) (E.judge (E.fixed middle)) old mid (E.state first) (E.state middle) (G.kind.rules.env_of goal) (env_forest mid.trees c.args.env) r (G.kind.rules.reference_of old goal) table began.grows
    (ap E.judge began.fixed) began.ok.0 ((env-kept old mid c.args.env began.grows c.requires.goal.env).1 ∙ sym (g.met.G.GoalKind.env_given old.trees c.args.env c.args.predicate)) is
    (reference-fits old r (G.kind.rules.reference_of old goal) is c.requires.goal.fit) sort)
    ran.ensures.told ran.ensures.cause)
