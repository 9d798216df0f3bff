use Rattle.std.proofs.Common.{rules, ◌≡◌, ◌∙◌, ◌∷◌, Bool, true, false, refl, subst, sym}
use Rattle.std.specs.Prelude.{if◌then◌else◌}
use Rattle.ir_trees.specs.Declarations.Context.{Context}
use Rattle.ir_trees.specs.Syntax.Words.{env_forest}
use Rattle.candidate_eval.specs.declared.eval.certainty.Certainty.{Certainty}
use Rattle.candidate_eval.specs.declared.eval.source.CandidateSource.TheVariants as source
use Rattle.candidate_eval.specs.Derivations.Judging.{Refused, run, start}
use Rattle.candidate_assembly.specs.Answers.Closures.{AfterWith, InProbe, TellsWith, not_tried}
use Rattle.candidate_assembly.specs.Answers.Telling.{Told}
use Rattle.candidate_assembly.specs.Goals.Kinds.{steps_judged}
use Rattle.candidate_assembly.proofs.Calls.Considering.{told-refused}
use Rattle.projection_goals.specs.Normalizing.{impl_part, normalizes_goal}
use Rattle.projection_goals.proofs.ImplSteps.{part-certain}
use Rattle.projection_goals.proofs.impls.consider_impl.Goals as goal

pub returns-then-not-applies_by-clause-tried : goal.returns-then-not-applies_by-clause-tried
returns-then-not-applies_by-clause-tried g c =
    let E = g.E.EvalCtxt in
    let first = c.args.ecx.now in
    let says = subst (λ (x : Context). c.applies_by.result ≡ (impl_part x (E.state first).mode (normalizes_goal x.trees c.args.env c.args.predicate) c.args.of).applies) c.cx.ensures (c.applies_by.ensures c.args.env (E.state first).mode) in
    let no : c.applies_by.result ≡ false = search rules in
    not_tried first (sym says ∙ no) refl

pub returns-then-not-applies_by-clause-told : goal.returns-then-not-applies_by-clause-told
returns-then-not-applies_by-clause-told g c = λ k tells.
    let E = g.E.EvalCtxt in
    let first = c.args.ecx.now in
    let old = g.E.Build.context first in
    let part = impl_part old (E.state first).mode (normalizes_goal old.trees c.args.env c.args.predicate) c.args.of in
    let says = subst (λ (x : Context). c.applies_by.result ≡ (impl_part x (E.state first).mode (normalizes_goal x.trees c.args.env c.args.predicate) c.args.of).applies) c.cx.ensures (c.applies_by.ensures c.args.env (E.state first).mode) in
    let no : c.applies_by.result ≡ false = search rules in
    told-refused old.trees _ (if part.applies then steps_judged (E.judge (E.fixed first)) (env_forest old.trees c.args.env) (E.state first) (source.Impl c.args.of) part.steps k else Refused) refl
    (subst (λ b. (if b then steps_judged (E.judge (E.fixed first)) (env_forest old.trees c.args.env) (E.state first) (source.Impl c.args.of) part.steps k else Refused) ≡ Refused) (sym (sym says ∙ no)) refl)

pub probe_impl-requires-clause-applies : goal.probe_impl-requires-clause-applies
probe_impl-requires-clause-applies g c =
    let E = g.E.EvalCtxt in
    let first = c.args.ecx.now in
    let says = subst (λ (x : Context). c.applies_by.result ≡ (impl_part x (E.state first).mode (normalizes_goal x.trees c.args.env c.args.predicate) c.args.of).applies) c.cx.ensures (c.applies_by.ensures c.args.env (E.state first).mode) in
    let yes : c.applies_by.result ≡ true = search rules in
    sym says ∙ yes

pub returns-clause-tried : goal.returns-clause-tried
returns-clause-tried g c =
    let E = g.E.EvalCtxt in
    let first = c.args.ecx.now in
    let old = g.E.Build.context first in
    let asked = normalizes_goal old.trees c.args.env c.args.predicate in
    let part = impl_part old (E.state first).mode asked c.args.of in
    let says = subst (λ (x : Context). c.applies_by.result ≡ (impl_part x (E.state first).mode (normalizes_goal x.trees c.args.env c.args.predicate) c.args.of).applies) c.cx.ensures (c.applies_by.ensures c.args.env (E.state first).mode) in
    let yes : c.applies_by.result ≡ true = search rules in
    let P : Bool → Certainty → Type 0 =
    λ b k. InProbe E.fixed E.state E.probes g.E.Build.context E.stops b
    (λ x. AfterWith E.fixed E.state E.probes g.E.Build.context E.stops g.F.FnOnce c.args.then x k (run (E.judge (E.fixed first)) (env_forest old.trees c.args.env) (start (E.state first)) part.steps)) (source.Impl c.args.of) first c.probe_impl.result c.probe_impl.new.ecx in
    subst (λ b. P b part.certainty) (sym (sym says ∙ yes)) (subst (λ k. P true k) (sym (part-certain old (E.state first).mode asked c.args.of)) c.probe_impl.ensures.tried)

pub returns-clause-told : goal.returns-clause-told
returns-clause-told g c = λ k tells.
    let E = g.E.EvalCtxt in
    let first = c.args.ecx.now in
    let old = g.E.Build.context first in
    let asked = normalizes_goal old.trees c.args.env c.args.predicate in
    let part = impl_part old (E.state first).mode asked c.args.of in
    let says = subst (λ (x : Context). c.applies_by.result ≡ (impl_part x (E.state first).mode (normalizes_goal x.trees c.args.env c.args.predicate) c.args.of).applies) c.cx.ensures (c.applies_by.ensures c.args.env (E.state first).mode) in
    let yes : c.applies_by.result ≡ true = search rules in
    let sure = subst (λ z. TellsWith E.fixed E.state E.probes g.E.Build.context E.stops g.F.FnOnce c.args.then first (E.state first ∷ E.probes first) z k) (part-certain old (E.state first).mode asked c.args.of) tells in
    subst (λ b. Told (g.E.Build.context c.probe_impl.new.ecx).trees c.probe_impl.result (if b then steps_judged (E.judge (E.fixed first)) (env_forest old.trees c.args.env) (E.state first) (source.Impl c.args.of) part.steps k else Refused))
    (sym (sym says ∙ yes)) (c.probe_impl.ensures.told k sure)
