use Rattle.std.proofs.Common.{rules, ◌≡◌, Bool, true, false, List, refl, subst, sym}
use Rattle.ir_trees.specs.Syntax.Words.{env_forest}
use Rattle.candidate_eval.specs.Derivations.Judging.{run, start}
use Rattle.candidate_eval.specs.Derivations.Rules.{Step}
use Rattle.candidate_eval.specs.declared.eval.certainty.Certainty.{Certainty}
use Rattle.candidate_eval.specs.declared.eval.source.CandidateSource.TheVariants as source
use Rattle.candidate_assembly.specs.Answers.Closures.{AfterWith, InProbe, not_tried}
use Rattle.candidate_assembly.specs.Goals.TraitGoals.{impl_part_at, trait_goal}
use Rattle.candidate_assembly.proofs.Rules.ImplSteps.{part-steps}
use Rattle.candidate_assembly.proofs.trait_goals.impls.consider_impl.Goals as goal

pub returns-in_default-clause-tried : goal.returns-in_default-clause-tried
returns-in_default-clause-tried g c =
    let E = g.E.EvalCtxt in
    let first = c.args.ecx.now in
    let old = g.E.Build.context first in
    let no : (impl_part_at old (E.state first).mode (trait_goal old.trees c.args.env c.args.predicate) c.args.of).applies ≡ false = search rules in
    not_tried first no refl

pub returns-clause-tried : goal.returns-clause-tried
returns-clause-tried g c =
    let E = g.E.EvalCtxt in
    let first = c.args.ecx.now in
    let old = g.E.Build.context first in
    let asked = trait_goal old.trees c.args.env c.args.predicate in
    let part = impl_part_at old (E.state first).mode asked c.args.of in
    let certainty = c.in-Some.certainty in
    let yes : part.applies ≡ true = search rules in
    let certain : part.certainty ≡ certainty = search rules in
    let steps = part-steps old (E.state first).mode asked c.args.of yes in
    let P : Bool → Certainty → List Step → Type 0 =
    λ b k xs. InProbe E.fixed E.state E.probes g.E.Build.context E.stops b
    (λ x. AfterWith E.fixed E.state E.probes g.E.Build.context E.stops g.F.FnOnce c.args.then x k (run (E.judge (E.fixed first)) (env_forest old.trees c.args.env) (start (E.state first)) xs)) (source.Impl c.args.of) first c.probe_impl.result c.probe_impl.new.ecx in
    subst (λ b. P b part.certainty part.steps) (sym yes) (subst (λ k. P true k part.steps) (sym certain) (subst (λ xs. P true certainty xs) (sym steps) c.probe_impl.ensures.tried))
