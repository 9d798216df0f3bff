-- Of the candidates for a goal of a trait one at most wins over all others: the language's own rule alone gives such a one, and a goal has
-- one of these at most.
use Rattle.std.proofs.Common.{◌≡◌, ◌+◌, arith, refl, ap, subst, sym, ℕ, suc, Bool, true, false, Option, Some, None, List, [], ◌∷◌, ◌++◌, map}
use Rattle.std.specs.Prelude.{cond, not, if◌then◌else◌}
use Rattle.std.specs.List.{count_by, filter, flat_map}
use Rattle.std.proofs.lemmas.List.Sums.{count_by-le-length, sum_by-append}
use Rattle.ir_trees.specs.declared.decl.contents.AliasBoundKind.{AliasBoundKind}
use Rattle.ir_trees.specs.Declarations.Context.{Context}
use Rattle.ir_trees.specs.Unification.Impls.{blanket_impls, relevant_impls}
use Rattle.ir_trees.specs.Syntax.Trees.{Tree}
use Rattle.candidate_eval.specs.declared.eval.source.CandidateSource.{CandidateSource}
use Rattle.candidate_eval.specs.declared.eval.source.CandidateSource.TheVariants as Source
use Rattle.candidate_eval.specs.declared.eval.source.ParamEnvSource.TheVariants.{NonGlobal, Global}
use Rattle.candidate_eval.specs.declared.eval.source.BuiltinImplSource.TheVariants as Builtin
use Rattle.candidate_eval.specs.declared.eval.certainty.Certainty.{Certainty}
use Rattle.candidate_eval.specs.declared.eval.certainty.Certainty.TheVariants.{Yes, Maybe}
use Rattle.candidate_eval.specs.declared.eval.certainty.MaybeCause.TheVariants.{Ambiguity}
use Rattle.candidate_eval.specs.declared.eval.certainty.OpaqueTypesJank.TheVariants.{ErrorIfRigidSelfTy}
use Rattle.candidate_eval.specs.Outcomes.Certainties.{AMBIGUOUS}
use Rattle.candidate_eval.specs.Derivations.Characterization as Walks
use Rattle.candidate_eval.specs.Derivations.Judging.{Place, Judged, Gives, Refused, Stopped, Reached, At, Ambiguous, Over, answered, at_if, by_fault, by_finding, by_knowledge, concluded, continued, equated_at, go_on, judge_knows, judged, matched, matched_and_settled, matches, picked, reached, reference_at, run, settled_at, source_of, start, step, taken}
use Rattle.candidate_eval.specs.Knowability.Orphan as Orphans
use Rattle.candidate_eval.specs.Dynamic.Required.{each_of}
use Rattle.candidate_eval.specs.Outcomes.Responses.{Candidate, Response}
use Rattle.candidate_eval.specs.Derivations.Rules.{Match, Pick, Upcast, Require, Step, fresh, enter, equate, quick, add, settle, pick, still_general, unknowable, Ending, ask, characterise, Rule}
use Rattle.candidate_eval.specs.Judges.States.{Env, Judge, State}
use Rattle.candidate_assembly.specs.declared.assembly.opaques.AssembleCandidatesFrom.{AssembleCandidatesFrom}
use Rattle.candidate_assembly.specs.declared.assembly.opaques.AssembleCandidatesFrom.TheVariants.{All, EnvAndBounds}
use Rattle.candidate_assembly.specs.declared.trait_goals.unsizing_rows.UnsizingRow.TheVariants as R
use Rattle.candidate_assembly.specs.Rules.AliasBounds.{Chain, ChainEnd, Link, Done, Misplaced, AtVariable, TooLong, alias_bounds, bound_rules, chain_answers, end_answers, link, link_rules, variable_rule}
use Rattle.candidate_assembly.specs.Answers.Assembled.{OneTrivial, HasOneTrivial, is_trivial, Assembled, OfNormalSelfType, AfterWhereBounds, IfUnsizing, IsAssembled, AllKnown, ThenImplsAndObjects, ThenUnsizing, alone, asked as was_asked, by_clauses, by_objects, everything, followed, impl_rule, impl_rules, knowable, language_rules, left_out, named_rules, normal, not_asked, others, outside, refused as none_normal, resolved_goal, rule_name, stopped as impls_stopped, stops as unknowable_stops, trait_of, variable, where_rule, where_rules, HaveOtherSources, AddsOthers}
use Rattle.candidate_assembly.specs.Rules.DynBounds.{bound_said, bounds_in, is_principal}
use Rattle.candidate_assembly.specs.Goals.KindBounds.{KindBounds, UnsizingList, no_target, refused as none_unsized, rules as by_rules}
use Rattle.candidate_assembly.specs.Goals.Kinds.{BuiltinRule, KindRules, self_type}
use Rattle.candidate_assembly.specs.Answers.Listing.{GoesOn, Listed, Lists, Stops, after_list, all_answers, answers, answers_at, lists, listed, stops, together}
use Rattle.candidate_assembly.specs.Rules.ObjectBounds.{ObjectJudged, ObjectList, ObjectsAnswer, OwnClause, answer, none_left, nothing, numbered, one, own_clause, own_clauses, rejected, required, stopped as object_stopped, unknown, unmatched}
use Rattle.candidate_assembly.specs.Rules.Opaques.{ambiguous_rule, bounds_said, by_opaques, hidden_behind, open_impl_rules, open_rule_of, opaque_rules, or_rigid, non_default_impls, variable_answers}
use Rattle.candidate_assembly.specs.Answers.Telling.{asking_rule}
use Rattle.candidate_assembly.specs.Goals.TraitRules.{trait_bounds, trait_rules}
use Rattle.candidate_assembly.specs.Laws.UnsizingSources.{trait_adds}

-- How many of the candidates win over all others; none of a list does.

abbrev pub trivials : List Candidate → ℕ
trivials xs = count_by (λ (x : Candidate). is_trivial x.source) xs

abbrev pub HasNoTrivial : Listed → Type 0
HasNoTrivial (Lists xs) = trivials xs ≡ 0
HasNoTrivial (Stops s) = Unit {0}

joined : (xs ys : List Candidate) → trivials (xs ++ ys) ≡ trivials xs + trivials ys
joined xs ys = sum_by-append (λ (x : Candidate). cond (is_trivial x.source) 1 0) xs ys

none_together : (a b : Listed) → HasNoTrivial a → HasNoTrivial b → HasNoTrivial (together a b)
none_together (Stops s) b h k = tt
none_together (Lists xs) (Stops s) h k = tt
none_together (Lists xs) (Lists ys) h k = omega (arith, joined xs ys, h, k)

one_after_none : (a b : Listed) → HasNoTrivial a → HasOneTrivial b → HasOneTrivial (together a b)
one_after_none (Stops s) b h k = tt
one_after_none (Lists xs) (Stops s) h k = tt
one_after_none (Lists xs) (Lists ys) h k = omega (arith, joined xs ys, h, k)

none_after_one : (a b : Listed) → HasOneTrivial a → HasNoTrivial b → HasOneTrivial (together a b)
none_after_one (Stops s) b h k = tt
none_after_one (Lists xs) (Stops s) h k = tt
none_after_one (Lists xs) (Lists ys) h k = omega (arith, joined xs ys, h, k)

none_is_one : (l : Listed) → HasNoTrivial l → HasOneTrivial l
none_is_one (Stops s) h = tt
none_is_one (Lists xs) h = omega (arith, h)

-- A rule whose ending has another source gives none.

answered_other : (s : CandidateSource) (r : Option Response) → is_trivial s ≡ false → HasNoTrivial (listed (answered s r))
answered_other s None h = refl
answered_other s (Some r) h = ap (λ b. 0 + cond b 1 0) h

finding_other : (J : Judge) (w : Walks.Walk) → HasNoTrivial (listed (by_finding J w))
finding_other J (Walks.Goes S) = answered_other (Source.ParamEnv Global) (J.responded S Yes) refl
finding_other J (Walks.Finds S c) = answered_other (Source.ParamEnv NonGlobal) (J.responded S c) refl
finding_other J Walks.Refuses = refl
finding_other J (Walks.Stops s) = tt

concluded_other : (J : Judge) (e : Env) (end : Ending) (S : State) → is_trivial (source_of end) ≡ false → HasNoTrivial (listed (concluded J e end S))
concluded_other J e (ask s c) S h = answered_other s (J.responded S c) h
concluded_other J e (characterise c) S h = finding_other J (Walks.characterization J e S c)

-- Steps that end a rule give no candidate at all.

abbrev pub GivesNone : Judged → Type 0
GivesNone (Gives x) = ⊥
GivesNone Refused = Unit {0}
GivesNone (Stopped s) = Unit {0}

none_given : (j : Judged) → GivesNone j → HasNoTrivial (listed j)
none_given (Gives x) h = absurd h
none_given Refused h = refl
none_given (Stopped s) h = tt

abbrev pub EndsWithout : Reached → Type 0
EndsWithout (Over j) = GivesNone j
EndsWithout (At p) = Unit {0}
EndsWithout (Ambiguous S) = Unit {0}

reached_ends : (o : Option Place) → EndsWithout (reached Refused o)
reached_ends None = tt
reached_ends (Some p) = tt

if_ends : (p : Place) (b : Bool) → EndsWithout (at_if p b)
if_ends p true = tt
if_ends p false = tt

taken_ends : (k : Pick) (p : Place) (t : Tree) (o : Option Place) → EndsWithout (taken k p t o)
taken_ends Upcast p t None = tt
taken_ends Upcast p t (Some q) = tt
taken_ends Require p t None = tt
taken_ends Require p t (Some q) = tt

picked_ends : (J : Judge) (e : Env) (k : Pick) (p : Place) (ms : List Match) → EndsWithout (picked J e k p ms)
picked_ends J e Upcast p [] = tt
picked_ends J e Upcast p (m ∷ []) = taken_ends Upcast p m.term (matched_and_settled J e p m)
picked_ends J e Upcast p (m ∷ n ∷ ms) = tt
picked_ends J e Require p [] = tt
picked_ends J e Require p (m ∷ []) = taken_ends Require p m.term (matched J e p m)
picked_ends J e Require p (m ∷ n ∷ ms) = tt

fault_ends : (f : Orphans.Fault (Unit {0})) → GivesNone (by_fault f)
fault_ends (Orphans.Fault.Refused e) = tt
fault_ends (Orphans.Fault.Stopped s) = tt

knowledge_ends : (p : Place) (S : State) (k : Orphans.Knowability (Unit {0})) → EndsWithout (by_knowledge p S k)
knowledge_ends p S Orphans.Knowable = tt
knowledge_ends p S Orphans.Upstream = tt
knowledge_ends p S Orphans.Downstream = tt
knowledge_ends p S (Orphans.Unknown f) = fault_ends f

step_ends : (J : Judge) (e : Env) (p : Place) (s : Step) → EndsWithout (step J e p s)
step_ends J e p (fresh ks) = tt
step_ends J e p (enter ks) = tt
step_ends J e p (equate a b) = reached_ends (equated_at J e p a b)
step_ends J e p (quick a b) = if_ends p _
step_ends J e p (add s c) = tt
step_ends J e p settle = reached_ends (settled_at J p)
step_ends J e p (pick k ms) = picked_ends J e k p (filter (matches J e k p) ms)
step_ends J e p (still_general t) = if_ends p _
step_ends J e p (unknowable r) = let k = judge_knows J e p.state (reference_at p r) in knowledge_ends p k.after k.answer

goes_on_ends : (r : Reached) (k : Place → Reached) → EndsWithout r → ((p : Place) → EndsWithout (k p)) → EndsWithout (go_on r k)
goes_on_ends (At p) k h next = next p
goes_on_ends (Ambiguous S) k h next = tt
goes_on_ends (Over j) k h next = h

pub run_ends : (J : Judge) (e : Env) (p : Place) (steps : List Step) → EndsWithout (run J e p steps)
run_ends J e p [] = tt
run_ends J e p (s ∷ ss) = goes_on_ends (step J e p s) (λ q. run J e q ss) (step_ends J e p s) (λ q. run_ends J e q ss)

continued_other : (J : Judge) (end : Ending) (r : Reached) (k : Place → Judged) → is_trivial (source_of end) ≡ false → EndsWithout r
    → ((p : Place) → HasNoTrivial (listed (k p))) → HasNoTrivial (listed (continued J end r k))
continued_other J end (At p) k h ends next = next p
continued_other J end (Ambiguous S) k h ends next = answered_other (source_of end) (J.responded S AMBIGUOUS) h
continued_other J end (Over j) k h ends next = none_given j ends

if_other : (b : Bool) (j : Judged) → HasNoTrivial (listed j) → HasNoTrivial (listed (if b then j else Refused))
if_other true j h = h
if_other false j h = refl

pub judged_other : (J : Judge) (S : State) (r : Rule) → is_trivial (source_of r.ending) ≡ false → HasNoTrivial (listed (judged J S r))
judged_other J S r h =
    if_other r.applies (continued J r.ending (run J r.env (start S) r.steps) (λ q. concluded J r.env r.ending q.state))
    (continued_other J r.ending (run J r.env (start S) r.steps) (λ q. concluded J r.env r.ending q.state) h
    (run_ends J r.env (start S) r.steps) (λ q. concluded_other J r.env r.ending q.state h))

-- Rules whose endings have other sources.

pub answers_others : (J : Judge) (S : State) (rs : List Rule) → HaveOtherSources rs → HasNoTrivial (answers J S rs)
answers_others J S [] h = refl
answers_others J S (r ∷ rs) h =
    none_together (listed (judged J S r)) (answers J S rs) (judged_other J S r h.0) (answers_others J S rs h.1)

others_joined : (xs ys : List Rule) → HaveOtherSources xs → HaveOtherSources ys → HaveOtherSources (xs ++ ys)
others_joined [] ys h k = k
others_joined (x ∷ xs) ys h k = (h.0, others_joined xs ys h.1 k)

others_each : {X : Type 0} (f : X → Rule) (xs : List X) → ((x : X) → is_trivial (source_of (f x).ending) ≡ false) → HaveOtherSources (map f xs)
others_each f [] h = tt
others_each f (x ∷ xs) h = (h x, others_each f xs h)

others_of_all : {X : Type 0} (f : X → List Rule) (xs : List X) → ((x : X) → HaveOtherSources (f x)) → HaveOtherSources (flat_map f xs)
others_of_all f [] h = tt
others_of_all f (x ∷ xs) h = others_joined (f x) (flat_map f xs) (h x) (others_of_all f xs h)

-- an answer that a rule of the language asks for at once
asking_other : (J : Judge) (S : State) (e : Env) (sure : Certainty) → HasNoTrivial (answers J S (asking_rule e true sure ∷ []))
asking_other J S e sure = answers_others J S (asking_rule e true sure ∷ []) (refl, tt)

-- The same of an object's own clauses.

abbrev HaveOtherClauses : List OwnClause → Type 0
HaveOtherClauses [] = Unit {0}
HaveOtherClauses (o ∷ os) = (is_trivial o.source ≡ false) × HaveOtherClauses os

numbered_others : (n : ℕ) (ts : List Tree) → HaveOtherClauses (numbered n ts)
numbered_others n [] = tt
numbered_others n (t ∷ ts) = (refl, numbered_others (suc n) ts)

clauses_others : (f : Tree → Tree) (bs : List Tree) (os : List OwnClause) → HaveOtherClauses os
    → HaveOtherClauses (map (λ b. own_clause (Source.BuiltinImpl Builtin.Misc) (f b)) bs ++ os)
clauses_others f [] os h = h
clauses_others f (b ∷ bs) os h = (refl, clauses_others f bs os h)

own_others : (t : Tree) (supers : List Tree) → HaveOtherClauses (own_clauses t supers)
own_others t supers =
    clauses_others (bound_said t) (filter (λ b. not (is_principal b.head)) (bounds_in t)) (numbered 0 supers) (numbered_others 0 supers)

-- A rule gives one candidate at most.
one_judged : (j : Judged) → HasOneTrivial (together (listed j) (Lists []))
one_judged (Gives x) = count_by-le-length (λ (y : Candidate). is_trivial y.source) (x ∷ [])
one_judged Refused = omega arith
one_judged (Stopped s) = tt

module _ {G : Type 0} (K : KindRules G) (B : KindBounds G) (J : Judge) (c : Context) (adds : AddsOthers B c) where
  -- bounds of aliases

  link_other : (g : G) (b : AliasBoundKind) (S : State) (t : Tree) → HasNoTrivial (answers_at J (link_rules K B.additional c g (link b S t)))
  link_other g b S t =
      answers_others J S (bound_rules K c g b t ++ B.additional c g t)
      (others_joined (bound_rules K c g b t) (B.additional c g t) (others_each _ (alias_bounds c b t) (λ x. refl)) (adds.additional g t))

  end_other : (g : G) (end : ChainEnd) → HasNoTrivial (end_answers K J g end)
  end_other g Done = refl
  end_other g Misplaced = refl
  end_other g TooLong = tt
  end_other g (AtVariable S) = answers_others J S (variable_rule K g ∷ []) (refl, tt)

  links_other : (g : G) (ls : List Link) → HasNoTrivial (all_answers J (map (link_rules K B.additional c g) ls))
  links_other g [] = refl
  links_other g (l ∷ ls) =
      none_together (answers_at J (link_rules K B.additional c g l)) (all_answers J (map (link_rules K B.additional c g) ls)) (link_other g l.bounds l.state l.alias) (links_other g ls)

  aliases_other : (g : G) (ch : Chain) → HasNoTrivial (chain_answers K B.additional J c g ch)
  aliases_other g ch = none_together (all_answers J (map (link_rules K B.additional c g) ch.links)) (end_answers K J g ch.end) (links_other g ch.links) (end_other g ch.end)

  -- objects

  object_other : (S : State) (g : G) (o : OwnClause) {j : Judged} → is_trivial o.source ≡ false → ObjectJudged K J c S g o j → HasNoTrivial (listed j)
  object_other S g o h (rejected e) = refl
  object_other S g o h (unmatched {j = j} T a p e) = none_given j (subst EndsWithout e (run_ends J (K.env_of g) (start T) (K.match_steps g o.clause)))
  object_other S g o h (required T U p goals a q e k) = answered_other o.source _ h
  object_other S g o h (unknown T U p a q e k) = answered_other o.source _ h

  objects_other : (S : State) (g : G) (os : List OwnClause) {l : Listed} → HaveOtherClauses os → ObjectsAnswer K J c S g os l → HasNoTrivial l
  objects_other S g [] h none_left = refl
  objects_other S g (o ∷ os) h (one {j = j} {l = rest} here more) =
      none_together (listed j) rest (object_other S g o h.0 here) (objects_other S g os h.1 more)
  objects_other S g (o ∷ os) h (object_stopped here) = tt

  object_list_other : (S : State) (g : G) {l : Listed} → ObjectList K J c S g l → HasNoTrivial l
  object_list_other S g (nothing e) = refl
  object_list_other S g (answer supers e s a) =
      objects_other S g (own_clauses (self_type K c g) supers) (own_others (self_type K c g) supers) a

  -- impls and unsizing

  impls_other : (S : State) (g : G) → HasNoTrivial (answers J S (impl_rules K c S.mode g))
  impls_other S g =
      answers_others J S (impl_rules K c S.mode g)
      (others_each (impl_rule K c S.mode g) (non_default_impls c (relevant_impls c (trait_of K c g) (self_type K c g))) (λ n. refl))

  unsizing_list_other : (S : State) (g : G) {l : Listed} → UnsizingList K B J c S g l → HasNoTrivial l
  unsizing_list_other S g (no_target e) = refl
  unsizing_list_other S g (none_unsized T t a e) = refl
  unsizing_list_other S g (by_rules {u = u} {U = U} T supers t a e s f) =
      answers_others J U (B.unsizing_rules c supers g u) (adds.unsizing supers g u)

  unsizing_other : (S : State) (g : G) {l : Listed} → IfUnsizing K B c J S g l → HasNoTrivial l
  unsizing_other S g (not_asked e) = refl
  unsizing_other S g (was_asked e u) = unsizing_list_other S g u

  -- where-bounds
  where_other : (S : State) (g : G) → HasNoTrivial (answers J S (where_rules K c g))
  where_other S g = answers_others J S (where_rules K c g) (others_each (where_rule K c g) (each_of (K.env_of g)) (λ t. refl))

  -- the language's rule
  language_one : (S : State) (g : G) (o : Option BuiltinRule) → HasOneTrivial (answers J S (named_rules K c g o))
  language_one S g None = omega arith
  language_one S g (Some r) = one_judged (judged J S (K.builtin_rule r c g))

  -- All that is known, one part after the other.

  with_impls_one : (S : State) (g : G) (xs : List Candidate) {l : Listed} → HasOneTrivial (Lists xs) → ThenImplsAndObjects K B c J S g xs l → HasOneTrivial l
  with_impls_one S g xs h (left_out e) = h
  with_impls_one S g xs h (impls_stopped e s) = tt
  with_impls_one S g xs h (followed {l = l} e o) =
      none_after_one (Lists xs) (together (answers J S (impl_rules K c S.mode g)) l) h
      (none_together (answers J S (impl_rules K c S.mode g)) l (impls_other S g) (object_list_other S g o))

  -- what goes on from a list of which P holds
  following_one : (P : Listed → Type 0) {R : List Candidate → Listed → Type 0} {a l : Listed} → P a → ((xs : List Candidate) → P (Lists xs) → R xs l → HasOneTrivial l) → GoesOn R a l → HasOneTrivial l
  following_one P h next stops = tt
  following_one P h next (lists {xs = xs} r) = next xs h r

  with_unsizing_one : (S : State) (g : G) (xs : List Candidate) {l : Listed} → HasOneTrivial (Lists xs) → ThenUnsizing K B c J S g xs l → HasOneTrivial l
  with_unsizing_one S g xs h w =
      following_one HasOneTrivial (none_after_one (Lists xs) w.unsized h (unsizing_other S g w.by_unsizing))
      (λ ys k r. with_impls_one S g ys k r) w.further

  further_one : (S : State) (g : G) (xs : List Candidate) (from : AssembleCandidatesFrom) {l : Listed} → HasNoTrivial (Lists xs) → AfterWhereBounds K B c J S g xs from l → HasOneTrivial l
  further_one S g xs All h (everything w) =
      following_one HasOneTrivial (one_after_none (Lists xs) (answers J S (language_rules K c g)) h (language_one S g (rule_name K c g)))
      (λ ys k r. with_unsizing_one S g ys k r) w
  further_one S g xs EnvAndBounds h (by_clauses e) = none_is_one (Lists xs) h
  further_one S g xs EnvAndBounds h (by_objects {l = l} e o) =
      none_is_one (together (Lists xs) l) (none_together (Lists xs) l h (object_list_other S g o))

  known_one : (S : State) (g : G) (from : AssembleCandidatesFrom) {l : Listed} → AllKnown K B c J S g from l → HasOneTrivial l
  known_one S g from k =
      following_one HasNoTrivial
      (none_together k.by_aliases (answers J S (where_rules K c g)) (subst HasNoTrivial (sym k.chain.is) (aliases_other g k.chain.aliases)) (where_other S g))
      (λ xs h r. further_one S g xs from h r) k.further

  assembled_one : (S : State) (g : G) (from : AssembleCandidatesFrom) {l : Listed} → Assembled K B c J S g from l → HasOneTrivial l
  assembled_one S g from (outside e k) = known_one S g from k
  assembled_one S g from (alone {x = x} e u) = count_by-le-length (λ (y : Candidate). is_trivial y.source) (x ∷ [])
  assembled_one S g from (unknowable_stops e u) = tt
  assembled_one S g from (knowable e u k) = known_one S g from k

  -- a general variable

  open_other : (S : State) (g : G) (from : AssembleCandidatesFrom) → HaveOtherSources (open_impl_rules K J c S.mode g from)
  open_other S g EnvAndBounds = tt
  open_other S g All = others_each (open_rule_of K c S.mode g) (non_default_impls c (blanket_impls c (K.reference_of c g).trait)) (λ n. refl)

  said_other : (g : G) (t : Tree) → HaveOtherSources (opaque_rules K c g t)
  said_other g t = others_each (ambiguous_rule K c g) (bounds_said c (self_type K c g) t) (λ x. refl)

  rigid_other : (S : State) (g : G) (l : Listed) → HasNoTrivial l → HasNoTrivial (after_list l (or_rigid K J c S g))
  rigid_other S g (Stops s) h = tt
  rigid_other S g (Lists []) h =
      asking_other J S (K.env_of g) (Maybe (record { cause = Ambiguity; opaque_types_jank = ErrorIfRigidSelfTy }))
  rigid_other S g (Lists (x ∷ xs)) h = h

  opaques_other : (S : State) (g : G) (from : AssembleCandidatesFrom) (ts : List Tree) → HasNoTrivial (by_opaques K J c S g from ts)
  opaques_other S g from [] = asking_other J S (K.env_of g) AMBIGUOUS
  opaques_other S g from (t ∷ ts) =
      let said = flat_map (opaque_rules K c g) (t ∷ ts) in
      let open_rules = open_impl_rules K J c S.mode g from in
      rigid_other S g (answers J S (said ++ open_rules))
      (answers_others J S (said ++ open_rules)
      (others_joined said open_rules (others_of_all (opaque_rules K c g) (t ∷ ts) (said_other g)) (open_other S g from)))

  -- The whole list.

  normal_one : (S : State) (g : G) (t : Tree) (from : AssembleCandidatesFrom) {l : Listed} → OfNormalSelfType K B c J S g t from l → HasOneTrivial l
  normal_one S g t from (variable e) =
      none_is_one (variable_answers K J c S (K.with_self_type g t) from)
      (opaques_other S (K.with_self_type g t) from (hidden_behind J S (self_type K c (K.with_self_type g t)) S.mode))
  normal_one S g t from (others e a) = assembled_one S (resolved_goal K B c S (K.with_self_type g t)) from a

  pub one_trivial_of : (S T : State) (g : G) (from : AssembleCandidatesFrom) (l : Listed) → IsAssembled K B c J S g from l T → HasOneTrivial l
  one_trivial_of S T g from l (none_normal e) = omega arith
  one_trivial_of S T g from l (normal {t = t} e f) = normal_one T g t from f

-- One candidate at most wins over all others, whatever judges and whatever is declared.
pub one_trivial : (J : Judge) (c : Context) → OneTrivial J c
one_trivial J c S T g from l a = one_trivial_of trait_rules trait_bounds J c (trait_adds c) S T g from l a
