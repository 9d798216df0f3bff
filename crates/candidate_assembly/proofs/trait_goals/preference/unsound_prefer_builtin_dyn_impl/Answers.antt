use Rattle.std.proofs.Common.{ap, sym, not, ◌∙◌, ◌≡◌, List, subst, true, false}
use Rattle.ir_trees.specs.Declarations.Context.{Context}
use Rattle.candidate_eval.specs.declared.eval.response.Candidate.{Candidate}
use Rattle.candidate_eval.specs.Outcomes.ResponseTrees.{AreCandidates, candidates_of}
use Rattle.candidate_assembly.specs.Answers.Assembled.{is_coherence}
use Rattle.candidate_assembly.specs.Answers.Preference.{object_wins}
use Rattle.candidate_assembly.specs.Answers.Sources.{is_impl}
use Rattle.candidate_assembly.proofs.Answers.Preferring.{fit-kept, objects-lose, objects-stay, objects-win}
use Rattle.candidate_assembly.proofs.trait_goals.preference.unsound_prefer_builtin_dyn_impl.Goals as goal

pub returns-then-is_coherence-clause-list : goal.returns-then-is_coherence-clause-list
returns-then-is_coherence-clause-list g c = objects-stay _ _ (sym (c.is_coherence.ensures ∙ ap is_coherence c.typing_mode.ensures) ∙ c.if-is_coherence.true)

pub object_wins-requires : goal.object_wins-requires
object_wins-requires g c =
    subst (λ (e : Context). AreCandidates e.trees c.as_slice.result.now) (sym c.cx.ensures)
    (subst (AreCandidates (g.E.Build.context c.args.ecx.now).trees) (sym c.as_slice.ensures.value) c.requires)

pub returns-then-object_wins-clause-fit : goal.returns-then-object_wins-clause-fit
returns-then-object_wins-clause-fit g c = fit-kept (λ s. not (is_impl s)) _ c.args.candidates.now.items c.remove.new.candidates.items c.remove.ensures c.requires

pub returns-then-object_wins-clause-list : goal.returns-then-object_wins-clause-list
returns-then-object_wins-clause-list g c =
    let context = g.E.Build.context c.args.ecx.now in
    let wins : object_wins (candidates_of context.trees c.args.candidates.now.items) ≡ true =
    ap (λ (e : Context). object_wins (candidates_of e.trees c.args.candidates.now.items)) (sym c.cx.ensures)
    ∙ (ap (λ (xs : List Candidate). object_wins (candidates_of c.cx.result.now.trees xs)) (sym c.as_slice.ensures.value) ∙ (sym c.object_wins.ensures ∙ c.if-object_wins.true)) in
    objects-win _ context.trees c.args.candidates.now.items c.remove.new.candidates.items
    (sym (c.is_coherence.ensures ∙ ap is_coherence c.typing_mode.ensures) ∙ c.if-is_coherence.false) wins c.remove.ensures

pub returns-else-object_wins-clause-list : goal.returns-else-object_wins-clause-list
returns-else-object_wins-clause-list g c =
    let context = g.E.Build.context c.args.ecx.now in
    let loses : object_wins (candidates_of context.trees c.args.candidates.now.items) ≡ false =
    ap (λ (e : Context). object_wins (candidates_of e.trees c.args.candidates.now.items)) (sym c.cx.ensures)
    ∙ (ap (λ (xs : List Candidate). object_wins (candidates_of c.cx.result.now.trees xs)) (sym c.as_slice.ensures.value) ∙ (sym c.object_wins.ensures ∙ c.if-object_wins.false)) in
    objects-lose _ _ (sym (c.is_coherence.ensures ∙ ap is_coherence c.typing_mode.ensures) ∙ c.if-is_coherence.false) loses
