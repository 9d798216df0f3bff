-- What is answered where other crates may write impls.
use Rattle.std.proofs.Common.{◌≡◌, false, List, [], ◌∷◌, Some, Result, Ok, Err, map, refl, sym, ap, subst, ◌∙◌}
use Rattle.std.proofs.lemmas.List.Elements.{All-nil, All-tail}
use Rattle.ir_trees.specs.declared.ir.kinds.Clause.{Clause}
use Rattle.ir_trees.specs.declared.ir.kinds.GoalSource.TheVariants.{Misc}
use Rattle.ir_trees.specs.declared.ir.kinds.ParamEnv.{ParamEnv}
use Rattle.ir_trees.specs.declared.ir.kinds.PredicatePolarity.TheVariants.{Positive}
use Rattle.ir_trees.specs.declared.ir.kinds.TraitPredicate.{TraitPredicate}
use Rattle.ir_trees.specs.declared.ir.kinds.TraitRef.{TraitRef}
use Rattle.ir_trees.specs.declared.ir.kinds.Vars.{Vars}
use Rattle.ir_trees.specs.declared.ir.stop.Stop.{Stop}
use Rattle.ir_trees.specs.Declarations.Context.{Context, Grows, world}
use Rattle.ir_trees.specs.Hierarchy.Elaboration.{IsElaboration}
use Rattle.ir_trees.specs.Instantiation.Folding.{substituted}
use Rattle.ir_trees.specs.Declarations.References.{ArgumentsFit, reference_of}
use Rattle.ir_trees.specs.Syntax.Trees.{TypeKind, Forest, Tree, holds, is_param, none, tree_holds}
use Rattle.ir_trees.specs.Validity.WellFormed.{IsWellFormedTable}
use Rattle.ir_trees.specs.Syntax.Words.{ClauseListFits, IsArgs, IsVars, args_forest, binder_tree, clause_kind_tree, clause_tree, env_forest, vars_tree}
use Rattle.ir_trees.specs.Declarations.Worlds.{Reference, TraitSort, joined, kinds_of, parameters}
use Rattle.ir_trees.proofs.Instantiation.Folding.{substituted-nothing}
use Rattle.ir_trees.proofs.Growth.Kept.{args-kept}
use Rattle.candidate_eval.specs.declared.coherence.Conflict.{Conflict}
use Rattle.candidate_eval.specs.declared.coherence.Conflict.TheVariants as K
use Rattle.candidate_eval.specs.declared.coherence.OrphanStop.TheVariants as O
use Rattle.candidate_eval.specs.declared.eval.refusal.NoSolutionOrStop.{NoSolutionOrStop}
use Rattle.candidate_eval.specs.declared.eval.refusal.NoSolutionOrStop.TheVariants as N
use Rattle.candidate_eval.specs.declared.eval.response.Candidate.{Candidate}
use Rattle.candidate_eval.specs.declared.eval.source.CandidateSource.TheVariants.{CoherenceUnknowable}
use Rattle.candidate_eval.specs.Interface.Accounts.{Account, by_stop}
use Rattle.candidate_eval.specs.Interface.Accounts.StopsSomehow.{asking}
use Rattle.candidate_eval.specs.Knowability.Answers.{KnownResult, knowledge_of}
use Rattle.candidate_eval.specs.Outcomes.Certainties.{AMBIGUOUS}
use Rattle.candidate_eval.specs.Interface.Evaluators.{with_goals_of}
use Rattle.candidate_eval.specs.Derivations.Judging.{At, Judged, Over, Reached, Refused, Stopped, asked, by_knowledge, comes_to, concluded, continued, go_on, judge_knows, judged, run, start, step}
use Rattle.candidate_eval.specs.Interface.Knowing.{StopsKnowing, is_evaluator_stop}
use Rattle.candidate_eval.specs.Knowability.Normalizer.{IsTold}
use Rattle.candidate_eval.specs.Dynamic.ObjectRequirements.{goals_in, trait_fact}
use Rattle.candidate_eval.specs.Knowability.Orphan.{Checked, Knowability}
use Rattle.candidate_eval.specs.Dynamic.Replacing.{without_first}
use Rattle.candidate_eval.specs.Derivations.Rules.{Ending, ask, nested_misc, unknowable}
use Rattle.candidate_eval.specs.Judges.States.{Env, Judge, State}
use Rattle.candidate_assembly.specs.Laws.BuiltinLaws.{takes_declared}
use Rattle.candidate_assembly.proofs.Objects.SuperLaws.{elaboration_back}
use Rattle.candidate_assembly.specs.Answers.Telling.{HaveNoParameter, StopsOfItself, Told, ToldSome}
use Rattle.candidate_assembly.specs.Rules.Unknowable.{UnknowableJudged, known, positive_clause, unknowable_rule, unknown}
use Rattle.candidate_assembly.proofs.Calls.Causes.{memory-here, somehow-here}
use Rattle.candidate_assembly.proofs.Calls.Considering.{not-both}
use Rattle.candidate_assembly.proofs.Rules.Flat.{flat-comes}
use Rattle.candidate_assembly.proofs.Calls.ToldSome.{some-error, some-told}
use Rattle.candidate_assembly.proofs.Unsizing.UnsizingClauses.{made-to-hold}

-- The step.

abbrev conflicting : Conflict → KnownResult (Unit {0})
conflicting x = Ok (Err x)

module _ (J : Judge) (e : Env) (S T : State) (r : Reference) (free : holds is_param r.arguments ≡ false) where
  abbrev Says : KnownResult (Unit {0}) → Type 0
  Says a = IsTold is_evaluator_stop a → judge_knows J e S r ≡ record { answer = knowledge_of a; after = T }

  abbrev at-reference : Forest → Reached
  at-reference ts =
      let x : Reference = record { trait = r.trait; arguments = ts } in
      let k = judge_knows J e S x in
      by_knowledge (start S) k.after k.answer

  -- It comes to what the check says, since the judge says the same.
  step-knows : (a : KnownResult (Unit {0})) → IsTold is_evaluator_stop a → Says a → step J e (start S) (unknowable r) ≡ by_knowledge (start S) T (knowledge_of a)
  step-knows a told says =
      let plain : at-reference (substituted none 0 r.arguments) ≡ at-reference r.arguments = ap at-reference (substituted-nothing none 0 r.arguments free) in
      plain ∙ ap (λ (k : Checked State (Knowability (Unit {0}))). by_knowledge (start S) k.after k.answer) (says told)

  pub conflict-reaches : (a : KnownResult (Unit {0})) (x : Conflict) → a ≡ Ok (Err x) → Says a → step J e (start S) (unknowable r) ≡ At (start T)
  conflict-reaches a x is says = step-knows a (λ s own n. let z : conflicting x ≡ Err (O.Stop s) = sym is ∙ n in absurd cc) says ∙ (ap (λ k. by_knowledge (start S) T (knowledge_of k)) is ∙ of x)
    where
      of : (x : Conflict) → by_knowledge (start S) T (knowledge_of (conflicting x)) ≡ At (start T)
      of K.Upstream = refl
      of K.Downstream = refl

  pub known-refuses : (a : KnownResult (Unit {0})) → a ≡ Ok (Ok tt) → Says a → step J e (start S) (unknowable r) ≡ Over Refused
  known-refuses a is says = step-knows a (λ s own n. let z : Ok (Ok tt) ≡ Err (O.Stop s) = sym is ∙ n in absurd cc) says ∙ ap (λ k. by_knowledge (start S) T (knowledge_of k)) is

  pub failure-refuses : (a : KnownResult (Unit {0})) → a ≡ Err (O.Normalize tt) → Says a → step J e (start S) (unknowable r) ≡ Over Refused
  failure-refuses a is says = step-knows a (λ s own n. let z : Err (O.Normalize tt) ≡ Err (O.Stop s) = sym is ∙ n in absurd cc) says ∙ ap (λ k. by_knowledge (start S) T (knowledge_of k)) is

  pub stop-stops : (a : KnownResult (Unit {0})) (s : Stop) → a ≡ Err (O.Stop s) → Says a → is_evaluator_stop s ≡ false → step J e (start S) (unknowable r) ≡ Over (Stopped s)
  stop-stops a s is says other = step-knows a told says ∙ ap (λ k. by_knowledge (start S) T (knowledge_of k)) is
    where
      told : IsTold is_evaluator_stop a
      told t own n =
          let z : Err (O.Stop s) ≡ Err (O.Stop t) = sym is ∙ n in
          let same : s ≡ t = cc in
          not-both (is_evaluator_stop t) own (ap is_evaluator_stop (sym same) ∙ other)

-- Why the check stops: of the walk's own reasons nothing is to be said.
pub knowing-stops : {E X : Type 0} (fixed : E → X) (context : E → Context) (state : E → State) (stops : Account E) (first last : E) (s : Stop) → StopsKnowing fixed context state stops first last s
    → StopsOfItself fixed context state stops first last s
knowing-stops fixed context state stops first last _ StopsKnowing.no_memory = memory-here refl
knowing-stops fixed context state stops first last _ StopsKnowing.too_deep = λ own. absurd cc
knowing-stops fixed context state stops first last _ StopsKnowing.unnameable = λ own. absurd cc
knowing-stops fixed context state stops first last s (StopsKnowing.accounted x) = somehow-here (asking x)

-- The answer.

module _ (J : Judge) (c : Context) (S : State) (e : Env) (r : Reference) where
  -- The step ends the rule.
  pub unknowable-over : (ts : List Tree) (a : Result Candidate NoSolutionOrStop) (x : NoSolutionOrStop) → a ≡ Err x → (x ≡ N.NoSolution → step J e (start S) (unknowable r) ≡ Over Refused)
      → by_stop (λ s. is_evaluator_stop s ≡ false → step J e (start S) (unknowable r) ≡ Over (Stopped s)) x → ToldSome ts (UnknowableJudged J c S e r) a
  unknowable-over ts a x is refused stopped = some-error ts (UnknowableJudged J c S e r) a x is (λ n. over Refused (refused n)) (of x stopped)
    where
      over : (j : Judged) → step J e (start S) (unknowable r) ≡ Over j → UnknowableJudged J c S e r j
      over j h = known (ap (λ z. go_on z (λ q. run J e q [])) h)

      of : (x : NoSolutionOrStop) → by_stop (λ s. is_evaluator_stop s ≡ false → step J e (start S) (unknowable r) ≡ Over (Stopped s)) x → by_stop (λ s. is_evaluator_stop s ≡ false → UnknowableJudged J c S e r (Stopped s)) x
      of N.NoSolution h = tt
      of (N.Stop s) h = λ other. over (Stopped s) (h other)

  -- It goes on, and what is implied becomes pending.
  pub unknowable-told : (ts us : List Tree) (env : ParamEnv) (T : State) (xs ys : List Clause) (a : Result Candidate NoSolutionOrStop) → step J e (start S) (unknowable r) ≡ At (start T) → env_forest us env ≡ e
      → IsElaboration c (positive_clause r ∷ []) (map (clause_tree us) xs) → HaveNoParameter us xs → ys ≡ without_first xs
      → Told ts a (asked J (with_goals_of us T Misc (goals_in env ys)) CoherenceUnknowable AMBIGUOUS) → ToldSome ts (UnknowableJudged J c S e r) a
  unknowable-told ts us env T xs ys a goes same implied free are told =
      some-told ts (UnknowableJudged J c S e r) a (judged J S (unknowable_rule e r (map (clause_tree us) xs))) (unknown (map (clause_tree us) xs) implied) (subst (λ j. Told ts a j) (sym comes) told)
    where
      end : Ending
      end = ask CoherenceUnknowable AMBIGUOUS

      others : (zs : List Clause) → without_first (map (clause_tree us) zs) ≡ map (clause_tree us) (without_first zs)
      others [] = refl
      others (z ∷ zs) = refl

      others-free : (zs : List Clause) → HaveNoParameter us zs → HaveNoParameter us (without_first zs)
      others-free [] h = All-nil (λ (x : Clause). tree_holds is_param (clause_tree us x) ≡ false)
      others-free (z ∷ zs) h = All-tail (λ (x : Clause). tree_holds is_param (clause_tree us x) ≡ false) z zs h

      comes : judged J S (unknowable_rule e r (map (clause_tree us) xs)) ≡ asked J (with_goals_of us T Misc (goals_in env ys)) CoherenceUnknowable AMBIGUOUS
      comes =
          let steps = nested_misc (without_first (map (clause_tree us) xs)) in
          ap (λ z. continued J end (go_on z (λ q. run J e q steps)) (λ q. concluded J e end q.state)) goes
          ∙ ap (λ (cs : List Tree). comes_to J e (start T) (nested_misc cs) end) (others xs)
          ∙ ap (λ (z : Env). comes_to J z (start T) (nested_misc (map (clause_tree us) (without_first xs))) end) (sym same)
          ∙ flat-comes J us env Misc CoherenceUnknowable AMBIGUOUS T none (without_first xs) (others-free xs free)
          ∙ ap (λ (zs : List Clause). asked J (with_goals_of us T Misc (goals_in env zs)) CoherenceUnknowable AMBIGUOUS) (sym are)

-- Clauses of a context, but for the first.
pub others-fit : (ts : List Tree) (xs : List Clause) → ClauseListFits ts xs → ClauseListFits ts (without_first xs)
others-fit ts [] h = h
others-fit ts (x ∷ xs) h = cc

-- What a reference's clause implies in a context that has grown is what it implied in the one before.
pub implied-back : (old new : Context) → IsWellFormedTable old → Grows old new → (r : TraitRef) → ArgumentsFit old r → IsArgs old.trees r.args → (ys : List Tree) → IsElaboration new (positive_clause (reference_of new.trees r) ∷ []) ys
    → IsElaboration old (positive_clause (reference_of old.trees r) ∷ []) ys
implied-back old new t g r fit i ys e =
    let args = args_forest old.trees r.args in
    let same : positive_clause (reference_of new.trees r) ≡ positive_clause (reference_of old.trees r)
    = ap (λ (ts : Forest). let x : Reference = record { trait = r.def_id.0; arguments = ts } in positive_clause x) (args-kept old new r.args g i).1 in
    let there : IsElaboration new (positive_clause (reference_of old.trees r) ∷ []) ys = subst (λ (t : Tree). IsElaboration new (t ∷ []) ys) same e in
    (elaboration_back old new t g (positive_clause (reference_of old.trees r) ∷ []) ys (takes_declared old t r.def_id.0 (kinds_of args) fit, tt) there).0

abbrev positive : TraitRef → TraitPredicate
positive r = record { trait_ref = r; polarity = Positive }

-- the clause that says that a reference holds, as it was made
pub positive-made : (old mid : Context) (v : Vars) (r : TraitRef) (t : Tree) → Grows old mid → IsArgs old.trees r.args → vars_tree mid.trees v ≡ binder_tree [] → IsVars mid.trees v
    → t ≡ clause_kind_tree mid.trees (trait_fact v (positive r)) → t ≡ positive_clause (reference_of old.trees r)
positive-made old mid v r t g i e k is =
    let there = args-kept old mid r.args g i in
    is ∙ made-to-hold mid v (positive r) (args_forest old.trees r.args) e k there.0 refl there.1

-- What is answered where the context has grown is an answer of the context before.
unknowable-back : (J : Judge) (old new : Context) → IsWellFormedTable old → Grows old new → (S : State) (e : Env) (r : TraitRef) → ArgumentsFit old r → IsArgs old.trees r.args → (j : Judged)
    → UnknowableJudged J new S e (reference_of new.trees r) j → UnknowableJudged J old S e (reference_of old.trees r) j
unknowable-back J old new t g S e r fit i j h =
    let referring : Forest → Reference = λ ts. record { trait = r.def_id.0; arguments = ts } in
    back j (subst (λ (ts : Forest). UnknowableJudged J new S e (referring ts) j) (args-kept old new r.args g i).1 h)
  where
    back : (j : Judged) → UnknowableJudged J new S e (reference_of old.trees r) j → UnknowableJudged J old S e (reference_of old.trees r) j
    back j (known h) = known h
    back _ (unknown implied h) =
        unknown implied (elaboration_back old new t g (positive_clause (reference_of old.trees r) ∷ []) implied (takes_declared old t r.def_id.0 (kinds_of (args_forest old.trees r.args)) fit, tt) h).0

-- where the probe began
pub unknowable-begun : (J J' : Judge) (old new : Context) (S T : State) (e f : Env) (r : TraitRef) (x : Reference) → IsWellFormedTable old → Grows old new → J' ≡ J → T ≡ S → f ≡ e → reference_of old.trees r ≡ x → ArgumentsFit old r → IsArgs old.trees r.args
    → (j : Judged) → UnknowableJudged J' new T f (reference_of new.trees r) j → UnknowableJudged J old S e x j
unknowable-begun J J' old new S T e f r x t g judge state env is fit i j h =
    let judged-same : UnknowableJudged J new T f (reference_of new.trees r) j = subst (λ (K : Judge). UnknowableJudged K new T f (reference_of new.trees r) j) judge h in
    let state-same : UnknowableJudged J new S f (reference_of new.trees r) j = subst (λ (U : State). UnknowableJudged J new U f (reference_of new.trees r) j) state judged-same in
    let env-same : UnknowableJudged J new S e (reference_of new.trees r) j = subst (λ (d : Env). UnknowableJudged J new S d (reference_of new.trees r) j) env state-same in
    subst (λ (y : Reference). UnknowableJudged J old S e y j) is (unknowable-back J old new t g S e r fit i j env-same)

-- a reference that is the one of a goal

pub reference-fits : (c : Context) (r : TraitRef) (x : Reference) → reference_of c.trees r ≡ x → joined (Some (TypeKind ∷ [])) (parameters (world c) TraitSort x.trait) ≡ Some (kinds_of x.arguments) → ArgumentsFit c r
reference-fits c r x is fit = subst (λ (y : Reference). joined (Some (TypeKind ∷ [])) (parameters (world c) TraitSort y.trait) ≡ Some (kinds_of y.arguments)) (sym is) fit

pub reference-free : (c : Context) (r : TraitRef) (x : Reference) → reference_of c.trees r ≡ x → holds is_param x.arguments ≡ false → holds is_param (args_forest c.trees r.args) ≡ false
reference-free c r x is free = ap (λ (y : Reference). holds is_param y.arguments) is ∙ free
