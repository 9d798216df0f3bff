-- What a refusal in coherence says of a goal that leaves nothing open: its list is empty, so the rule on what is unknowable was refused.
use Rattle.std.proofs.Common.{◌≡◌, ◌++◌, true, false, Option, Some, None, List, [], ◌∷◌, Result, refl, sym, ◌∙◌, ap, subst, append_assoc}
use Rattle.std.specs.Prelude.{option_map}
use Rattle.std.proofs.lemmas.List.{append-nil}
use Rattle.ir_trees.specs.declared.ir.kinds.GoalSource.TheVariants.{Misc}
use Rattle.ir_trees.specs.declared.ir.kinds.ParamEnv.{ParamEnv}
use Rattle.ir_trees.specs.declared.ir.kinds.TraitPredicate.{TraitPredicate}
use Rattle.ir_trees.specs.Declarations.Context.{Context, world}
use Rattle.ir_trees.specs.Hierarchy.Elaboration.{IsElaboration}
use Rattle.ir_trees.specs.Syntax.Trees.{Kind, TypeKind, Forest, none, tree, Tree, holds, is_alias, is_param, kind_of}
use Rattle.ir_trees.specs.Validity.WellFormed.{IsWellFormedTable}
use Rattle.ir_trees.specs.Declarations.Worlds.{IsOf, TraitSort, World, joined, kinds_of, parameters}
use Rattle.ir_trees.proofs.Instantiation.Folding.{fold-nothing, substituted-nothing}
use Rattle.ir_trees.proofs.Kinding.References.{is-reference}
use Rattle.candidate_eval.specs.declared.eval.certainty.Certainty.{Certainty}
use Rattle.candidate_eval.specs.declared.eval.mode.TypingMode.{TypingMode}
use Rattle.candidate_eval.specs.declared.eval.refusal.NoSolutionOrStop.{NoSolutionOrStop}
use Rattle.candidate_eval.specs.declared.eval.response.CanonicalResponse.{CanonicalResponse}
use Rattle.candidate_eval.specs.declared.eval.source.CandidateSource.{CandidateSource}
use Rattle.candidate_eval.specs.declared.eval.source.CandidateSource.TheVariants as Source
use Rattle.candidate_eval.specs.Interface.Accounts.{Account}
use Rattle.candidate_eval.specs.Outcomes.Certainties.{AMBIGUOUS}
use Rattle.candidate_eval.specs.Derivations.ImplRules.{TraitGoal}
use Rattle.candidate_eval.specs.Derivations.Judging.{Judged, Refused, Over, answered, asked, by_knowledge, comes_to, concluded, continued, go_on, judge_knows, reference_at, run, start, step}
use Rattle.candidate_eval.specs.Judges.Lawful.{Lawful, is_type_or_constant}
use Rattle.candidate_eval.specs.Outcomes.Merging.{Merge, merged}
use Rattle.candidate_eval.specs.Dynamic.ObjectRequirements.{first_tree}
use Rattle.candidate_eval.specs.Knowability.Orphan.{Checked, Knowability, Knowable, Upstream, Downstream, Unknown, plain_knowability}
use Rattle.candidate_eval.specs.Knowability.Orphan as Orphan
use Rattle.candidate_eval.specs.Dynamic.Replacing.{without_first}
use Rattle.candidate_eval.specs.Outcomes.Responses.{Candidate, Response}
use Rattle.candidate_eval.specs.Derivations.Rules.{Ending, ask, nested_misc, unknowable}
use Rattle.candidate_eval.specs.Judges.Soundness.{IsResolved, has_value}
use Rattle.candidate_eval.specs.Judges.States.{Env, Judge, Pending, State, added, resolved, value_at, with_pending}
use Rattle.candidate_eval.proofs.Marks.Holds.{holds_parts}
use Rattle.candidate_eval.proofs.Outcomes.Responding.{not-refused}
use Rattle.candidate_eval.proofs.Knowability.Safety.{open_world}
use Rattle.candidate_assembly.specs.declared.assembly.opaques.AssembleCandidatesFrom.TheVariants.{All}
use Rattle.candidate_assembly.specs.declared.assembly.merging.TraitGoalProvenVia.{TraitGoalProvenVia}
use Rattle.candidate_assembly.specs.declared.assembly.merging.TraitGoalProvenVia.TheVariants as Via
use Rattle.candidate_assembly.specs.Answers.Assembled.{Assembled, OfNormalSelfType, IsAssembled, alone, is_coherence, knowable, normal, others, outside, refused as none_normal, resolved_goal, stops as unknowable_stops, variable}
use Rattle.candidate_assembly.specs.Laws.BuiltinLaws.{nodes_fit, takes_declared}
use Rattle.candidate_assembly.specs.Answers.CoherentRefusals.{IsCoherentRefusal, IsPlainGoal, RefusesCoherently, by_headers, by_implied, pending_clauses}
use Rattle.candidate_assembly.specs.Goals.Kinds.{IsGoal, self_type}
use Rattle.candidate_assembly.specs.Answers.Listing.{Listed, Lists, listed, together}
use Rattle.candidate_assembly.specs.Answers.Listing as Listing
use Rattle.candidate_assembly.specs.Rules.Opaques.{by_opaques, hidden_behind, variable_answers}
use Rattle.candidate_assembly.specs.Answers.Preference.{Proved, answer_by, class_of, mode_of, preferred, proved, unmerged}
use Rattle.candidate_assembly.specs.Laws.SuperLaws.{Each}
use Rattle.candidate_assembly.specs.Answers.TraitAnswers.{Computes, IsTraitAnswer, Refused as Rejected, answer_of, or_refused}
use Rattle.candidate_assembly.specs.Goals.TraitGoals.{arguments_held, trait_goal, types_held, with_first, with_self_type}
use Rattle.candidate_assembly.specs.Goals.TraitRules.{trait_bounds, trait_rules}
use Rattle.candidate_assembly.specs.Rules.Unknowable.{UnknowableJudged, known, positive_clause, unknown}
use Rattle.candidate_assembly.proofs.Calls.Causes.{so-err}
use Rattle.candidate_assembly.proofs.Rules.Flat.{nothing-put}
use Rattle.candidate_assembly.proofs.Refusals.ImpliedFree.{HasNone, all-free}
use Rattle.candidate_assembly.proofs.Refusals.ResolvedViews.{itself, judge-plainly, no-value, plainly-unrefused}

-- Answers that aren't there.

none-is-some : {A : Type 0} (o : Option A) (a : A) → o ≡ None → o ≡ Some a → ⊥
none-is-some None a e f = absurd cc
none-is-some (Some b) a e f = absurd cc

pub same-inside : {A : Type 0} (a b : A) → Some a ≡ Some b → a ≡ b
same-inside a b e = cc

not-mapped : {A B : Type 0} (f : A → B) (o : Option A) (a : A) → o ≡ Some a → option_map f o ≡ None → ⊥
not-mapped f None a e h = absurd cc
not-mapped f (Some b) a e h = absurd cc

pub none-answered : (s : CandidateSource) (o : Option Response) → answered s o ≡ Refused → o ≡ None
none-answered s None e = refl
none-answered s (Some r) e = absurd cc

one-listed : (s : CandidateSource) (o : Option Response) (r : Response) → o ≡ Some r → together (listed (answered s o)) (Lists []) ≡ Lists [] → ⊥
one-listed s None r e h = absurd cc
one-listed s (Some q) r e h = absurd cc

none-proved : (o : Option Proved) → Rejected ≡ or_refused o → o ≡ None
none-proved None e = refl
none-proved (Some p) e = absurd cc

-- Trees with all values put in stay.
pub resolved-stays : (S : State) (ts : Forest) → IsResolved S ts → resolved S ts ≡ ts
resolved-stays S ts r = fold-nothing (λ d t. value_at S t.head) (has_value S) (λ d t e. no-value (value_at S t.head) e) 0 ts r

-- A reference's arguments begin with its self type.

takes-self : (ts : Forest) (o : Option (List Kind)) → joined (Some (TypeKind ∷ [])) o ≡ Some (kinds_of ts) → with_first (first_tree ts) ts ≡ ts
takes-self none None e = absurd cc
takes-self none (Some ks) e = absurd cc
takes-self (tree h below rest) o e = refl

first-kind : (k : Kind) (ks : List Kind) (o : Option (List Kind)) → joined (Some (TypeKind ∷ [])) o ≡ Some (k ∷ ks) → k ≡ TypeKind
first-kind k ks None e = absurd cc
first-kind k ks (Some js) e = cc

self-is-normal : (J : Judge) → Lawful J → (S : State) (e : Env) (ts : Forest) (o : Option (List Kind)) → joined (Some (TypeKind ∷ [])) o ≡ Some (kinds_of ts) → IsResolved S ts → holds is_alias ts ≡ false
    → J.normalized S e (first_tree ts) ≡ Some (first_tree ts, S)
self-is-normal J law S e none None f r a = absurd cc
self-is-normal J law S e none (Some ks) f r a = absurd cc
self-is-normal J law S e (tree h below rest) o f r a =
    let p = holds_parts (has_value S) h below rest r in
    let q = holds_parts is_alias h below rest a in
    itself J law e S h below (ap is_type_or_constant (first-kind (kind_of h) (kinds_of rest) o f)) p.here p.under q.here

-- Clauses become pending one after the other.
nested-asked : (J : Judge) (e : Env) (source : CandidateSource) (certainty : Certainty) (S : State) (ts : List Tree) → Each HasNone ts
    → comes_to J e (start S) (nested_misc ts) (ask source certainty) ≡ asked J (with_pending S (S.pending ++ pending_clauses e ts)) source certainty
nested-asked J e source certainty S [] f = ap (λ ps. asked J (with_pending S ps) source certainty) (sym (append-nil S.pending))
nested-asked J e source certainty S (t ∷ ts) f =
    let pending : Tree → Pending = λ u. record { source = Misc; goal = record { env = e; clause = u } } in
    ap (λ u. comes_to J e (start (added S (pending u))) (nested_misc ts) (ask source certainty)) (nothing-put none t f.0)
    ∙ (nested-asked J e source certainty (added S (pending t)) ts f.1
    ∙ ap (λ ps. asked J (with_pending S ps) source certainty) (append_assoc S.pending (pending t ∷ []) (pending_clauses e ts)))

others-free : (ts : List Tree) → Each HasNone ts → Each HasNone (without_first ts)
others-free [] f = tt
others-free (t ∷ ts) f = f.1

module _ (J : Judge) (law : Lawful J) (c : Context) (S : State) (g : TraitGoal) (plain : IsPlainGoal S g) (there : IsOf (world c) g.reference) where
  abbrev self : Tree
  self = first_tree g.reference.arguments

  abbrev env : Env
  env = resolved S g.env

  abbrev takes : Option (List Kind)
  takes = parameters (world c) TraitSort g.reference.trait

  -- The list is empty: where it isn't, there is an answer.

  none-unmerged : (xs : List Candidate) → unmerged J S xs ≡ None → xs ≡ []
  none-unmerged [] e = refl
  none-unmerged (x ∷ xs) e =
      let a = law.responses.empty_is_answered (with_pending S []) AMBIGUOUS refl in
      absurd (not-mapped (λ (r : Response). let p : Proved = (r, None) in p) (J.responded (with_pending S []) AMBIGUOUS) a.response a.is e)

  none-merged : (xs : List Candidate) (m : Option Merge) → Rejected ≡ or_refused (proved J S (class_of xs Via.Misc) m) → xs ≡ []
  none-merged xs None e = none-unmerged xs (none-proved (unmerged J S xs) e)
  none-merged xs (Some m) e = absurd cc

  pub list-empty : (l : Listed) → Rejected ≡ answer_of J c S g.reference.trait l → l ≡ Lists []
  list-empty (Listing.Stops s) e = absurd cc
  list-empty (Lists xs) e =
      let P : TypingMode → Type 0 = λ m. Rejected ≡ or_refused (answer_by J S (preferred c m (mode_of c g.reference.trait) xs)) in
      ap Lists (none-merged xs (merged xs) (subst P plain.in_coherence e))

  -- The self type is normal, so the list is made at the state itself.
  pub normal-here : (l : Listed) (T : State) → IsAssembled trait_rules trait_bounds c J S g All l T → (T ≡ S) × OfNormalSelfType trait_rules trait_bounds c J S g self All l
  normal-here _ _ (none_normal e) = absurd (none-is-some (J.normalized S g.env self) (self, S) e (self-is-normal J law S g.env g.reference.arguments takes there.takes plain.is_resolved plain.no_alias))
  normal-here l T (normal {t = t} e f) =
      let both : (t, T) ≡ (self, S) = same-inside (t, T) (self, S) (sym e ∙ self-is-normal J law S g.env g.reference.arguments takes there.takes plain.is_resolved plain.no_alias) in
      (ap (λ p. p.1) both, subst (λ (p : Tree × State). OfNormalSelfType trait_rules trait_bounds c J p.1 g p.0 All l) both f)

  -- It isn't that of a variable.
  not-variable : (h : TraitGoal) → variable_answers trait_rules J c S h All ≡ Lists [] → ⊥
  not-variable h e =
      let P : TypingMode → Type 0 = λ m. by_opaques trait_rules J c S h All (hidden_behind J S (self_type trait_rules c h) m) ≡ Lists [] in
      let a = law.responses.empty_is_answered S AMBIGUOUS plain.nothing_pending in
      one-listed _ (J.responded S AMBIGUOUS) a.response a.is (subst P plain.in_coherence e)

  pub others-here : (l : Listed) → OfNormalSelfType trait_rules trait_bounds c J S g self All l → l ≡ Lists [] → Assembled trait_rules trait_bounds c J S (resolved_goal trait_rules trait_bounds c S (with_self_type g self)) All l
  others-here _ (variable e) n = absurd (not-variable (with_self_type g self) n)
  others-here l (others e a) n = a

  -- So what is unknowable was refused.
  not-alone : (h : TraitGoal) (l : Listed) → Assembled trait_rules trait_bounds c J S h All l → l ≡ Lists [] → UnknowableJudged J c S h.env h.reference Refused
  not-alone h l (outside e k) n = let f : is_coherence S.mode ≡ true = ap is_coherence plain.in_coherence in absurd cc
  not-alone h _ (alone e u) n = absurd cc
  not-alone h _ (unknowable_stops e u) n = absurd cc
  not-alone h l (knowable e u k) n = u

  pub same-arguments : resolved S (with_first self g.reference.arguments) ≡ g.reference.arguments
  same-arguments = ap (resolved S) (takes-self g.reference.arguments takes there.takes) ∙ resolved-stays S g.reference.arguments plain.is_resolved

  pub unknowable-refused : (U : State) → IsTraitAnswer J c S g U Rejected → UnknowableJudged J c S env g.reference Refused
  unknowable-refused U a =
      let n = normal-here a.listed a.list.left a.list.assembled in
      let empty = list-empty a.listed (subst (λ (T : State). Rejected ≡ answer_of J c T g.reference.trait a.listed) n.0 a.answer) in
      let Q : Forest → Type 0 = λ ts. UnknowableJudged J c S env (record { trait = g.reference.trait; arguments = ts }) Refused in
      subst Q same-arguments (not-alone (resolved_goal trait_rules trait_bounds c S (with_self_type g self)) a.listed (others-here a.listed n.1 empty) empty)

  -- What is known of the reference, plainly.

  module _ (table : IsWellFormedTable c) (free : holds is_param g.reference.arguments ≡ false) (declared : J.world ≡ world c) where
    abbrev knowledge : Knowability (Unit {0})
    knowledge = plain_knowability J.world J.local_crate J.limits.orphan_walk g.reference

    knows-plainly : judge_knows J env S (reference_at (start S) g.reference) ≡ record { answer = knowledge; after = S }
    knows-plainly =
        ap (λ ts. judge_knows J env S (record { trait = g.reference.trait; arguments = ts })) (substituted-nothing none 0 g.reference.arguments free)
        ∙ judge-plainly J law env S J.world J.local_crate J.limits.orphan_walk g.reference plain.is_resolved plain.no_alias

    step-is : step J env (start S) (unknowable g.reference) ≡ by_knowledge (start S) S knowledge
    step-is = ap (λ (k : Checked State (Knowability (Unit {0}))). by_knowledge (start S) k.after k.answer) knows-plainly

    no-headers : knowledge ≡ Knowable → IsCoherentRefusal J c S g
    no-headers e =
        by_headers (open_world (world c) J.local_crate J.limits.orphan_walk g.reference there plain.no_alias
        (ap (λ (w : World). plain_knowability w J.local_crate J.limits.orphan_walk g.reference) (sym declared) ∙ e))

    by-known : (k : Knowability (Unit {0})) → knowledge ≡ k → go_on (by_knowledge (start S) S k) (λ q. run J env q []) ≡ Over Refused → IsCoherentRefusal J c S g
    by-known Knowable e h = no-headers e
    by-known Upstream e h = absurd cc
    by-known Downstream e h = absurd cc
    by-known (Unknown (Orphan.Refused x)) e h = absurd (plainly-unrefused J.world J.local_crate J.limits.orphan_walk g.reference x e)
    by-known (Unknown (Orphan.Stopped s)) e h = absurd cc

    abbrev end : Ending
    end = ask Source.CoherenceUnknowable AMBIGUOUS

    -- Where other crates may write impls, what is implied was asked for.
    implied-refused : (implied : List Tree) → IsElaboration c (positive_clause g.reference ∷ []) implied → comes_to J env (start S) (nested_misc (without_first implied)) end ≡ Refused → IsCoherentRefusal J c S g
    implied-refused implied is e =
        let ts = without_first implied in
        let whole = all-free c table (positive_clause g.reference) implied (takes_declared c table g.reference.trait (kinds_of g.reference.arguments) there.takes) free is in
        let none-is = none-answered Source.CoherenceUnknowable (J.responded (with_pending S (S.pending ++ pending_clauses env ts)) AMBIGUOUS) (sym (nested-asked J env Source.CoherenceUnknowable AMBIGUOUS S ts (others-free implied whole)) ∙ e) in
        let refuses = subst (λ (ps : List Pending). J.responded (with_pending S (ps ++ pending_clauses env ts)) AMBIGUOUS ≡ None) plain.nothing_pending none-is in
        by_implied (record {
          implied = implied;
          elaboration = is;
          some = λ z. not-refused J law S AMBIGUOUS (subst (λ (us : List Tree). J.responded (with_pending S (pending_clauses env us)) AMBIGUOUS ≡ None) z refuses);
          refused = refuses;
        })

    by-unknown : (implied : List Tree) → IsElaboration c (positive_clause g.reference ∷ []) implied → (k : Knowability (Unit {0})) → knowledge ≡ k
        → continued J end (go_on (by_knowledge (start S) S k) (λ q. run J env q (nested_misc (without_first implied)))) (λ q. concluded J env end q.state) ≡ Refused → IsCoherentRefusal J c S g
    by-unknown implied is Knowable e h = no-headers e
    by-unknown implied is Upstream e h = implied-refused implied is h
    by-unknown implied is Downstream e h = implied-refused implied is h
    by-unknown implied is (Unknown (Orphan.Refused x)) e h = absurd (plainly-unrefused J.world J.local_crate J.limits.orphan_walk g.reference x e)
    by-unknown implied is (Unknown (Orphan.Stopped s)) e h = absurd cc

    by-unknowable : (j : Judged) → UnknowableJudged J c S env g.reference j → j ≡ Refused → IsCoherentRefusal J c S g
    by-unknowable _ (known {j} h) n =
        by-known knowledge refl (sym (ap (λ z. go_on z (λ q. run J env q [])) step-is) ∙ (h ∙ ap Over n))
    by-unknowable _ (unknown implied is) n =
        by-unknown implied is knowledge refl (sym (ap (λ z. continued J end (go_on z (λ q. run J env q (nested_misc (without_first implied)))) (λ q. concluded J env end q.state)) step-is) ∙ n)

    pub refused-coherently : (U : State) → IsTraitAnswer J c S g U Rejected → IsCoherentRefusal J c S g
    refused-coherently U a = by-unknowable Refused (unknowable-refused U a) refl

-- So a call that computes what the goal comes to refuses it for these reasons alone.
pub computes-refused : {E X : Type 0} {fixed : E → X} {judge : X → Judge} {state : E → State} {probes : E → List State} {context : E → Context} {stops : Account E} → ((f : X) → Lawful (judge f)) → (old new : E) (e : ParamEnv) (p : TraitPredicate)
    (r : Result (CanonicalResponse × Option TraitGoalProvenVia) NoSolutionOrStop) → (judge (fixed old)).world ≡ world (context old) → IsWellFormedTable (context old) → IsGoal trait_rules arguments_held types_held trait_goal (context old) e p
    → Computes fixed judge state probes context stops old new (trait_goal (context old).trees e p) r → RefusesCoherently (judge (fixed old)) (context old) (state old) (trait_goal (context old).trees e p) r
computes-refused {fixed = fixed} {judge = judge} {state = state} {context = context} law old new e p r declared table goal h =
    let c = context old in
    let there = is-reference c p.trait_ref (nodes_fit c table) goal.arguments goal.fit in
    so-err r (λ x answer n plain. refused-coherently (judge (fixed old)) (law (fixed old)) c (state old) (trait_goal c.trees e p) plain there table goal.no_parameter declared (state new) (answer n)) h.refused
