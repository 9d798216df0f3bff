-- A sure answer of a projection under a derived table: it is rigid, or that of one rule whose nested goals have derivations.
use Rattle.std.proofs.Common.{◌≡◌, ℕ, true, false, IfOk, Option, Some, None, List, [], ◌∷◌, Result, Ok, Err, refl, sym, ◌∙◌, ap, subst}
use Rattle.std.specs.List.{All, Contains}
use Rattle.std.proofs.lemmas.List.Elements.{All-contains, All-contains_itself, All-nil}
use Rattle.ir_trees.specs.declared.decl.limits.Limits.{Limits}
use Rattle.ir_trees.specs.declared.ir.heads.Head.TheVariants as H
use Rattle.ir_trees.specs.declared.ir.kinds.AliasKind.TheVariants as AK
use Rattle.ir_trees.specs.declared.ir.kinds.ParamEnv.{ParamEnv}
use Rattle.ir_trees.specs.declared.ir.kinds.TyKind.TheVariants as TK
use Rattle.ir_trees.specs.Declarations.Context.{Context, Grows, world}
use Rattle.ir_trees.specs.Declarations.Worlds.{World}
use Rattle.ir_trees.specs.Syntax.Trees.{Tree}
use Rattle.ir_trees.specs.Syntax.Words.{args_forest, env_forest, kind_tree, ty_tree}
use Rattle.ir_trees.specs.Unification.Substitutions.{alone}
use Rattle.ir_trees.specs.Validity.WellFormed.{IsWellFormedTable}
use Rattle.ir_trees.proofs.Growth.Kept.{args-kept, grows-trans}
use Rattle.candidate_eval.specs.declared.eval.certainty.Certainty.TheVariants.{Yes}
use Rattle.candidate_eval.specs.declared.eval.mode.TypingMode.{TypingMode}
use Rattle.candidate_eval.specs.declared.eval.refusal.NoSolutionOrStop.{NoSolutionOrStop}
use Rattle.candidate_eval.specs.declared.eval.response.Candidate.{Candidate as OfNumbers}
use Rattle.candidate_eval.specs.declared.eval.response.CanonicalResponse.{CanonicalResponse}
use Rattle.candidate_eval.specs.Derivations.Judging.{judged}
use Rattle.candidate_eval.specs.Dynamic.ObjectRequirements.{first_tree}
use Rattle.candidate_eval.specs.Interface.Evaluators.{accepted}
use Rattle.candidate_eval.specs.Interface.Shown.{view}
use Rattle.candidate_eval.specs.Judges.Lawful.{Lawful}
use Rattle.candidate_eval.specs.Knowability.Orphan.{is_general}
use Rattle.candidate_eval.specs.Judges.Modes.{is_coherence}
use Rattle.candidate_eval.specs.Judges.Soundness.{universes}
use Rattle.candidate_eval.specs.Judges.States.{Env, Judge, State, next, resolved, resolved_tree, with_pending}
use Rattle.candidate_eval.specs.Outcomes.Certainties.{AMBIGUOUS}
use Rattle.candidate_eval.specs.Outcomes.Merging.{Merge, merged}
use Rattle.candidate_eval.specs.Outcomes.Responses.{Candidate, Response}
use Rattle.candidate_eval.specs.Outcomes.ResponseTrees.{candidate_of, response_of}
use Rattle.candidate_assembly.specs.declared.assembly.merging.TraitGoalProvenVia.TheVariants as W
use Rattle.candidate_assembly.specs.declared.assembly.opaques.AssembleCandidatesFrom.{AssembleCandidatesFrom}
use Rattle.candidate_assembly.specs.declared.assembly.specialization.AllowInferenceConstraints.TheVariants as Allow
use Rattle.candidate_assembly.specs.Answers.Assembled.{IsAssembled, has_where_bound, is_of_environment, normal, refused}
use Rattle.candidate_assembly.specs.Answers.AssembledCalls.{IsLeftAlike, before, normal as left_normal}
use Rattle.candidate_assembly.specs.Answers.Listing.{Listed, Lists}
use Rattle.candidate_assembly.specs.Answers.MergedKinds.{come_to, floundered, only_where_bounds, or_floundered, response_in}
use Rattle.candidate_assembly.specs.Answers.MergedKinds.AfterAssumptions.{are_merged, is_ambiguous, is_rigid as left_rigid}
use Rattle.candidate_assembly.specs.Answers.MergedKinds.AfterList.{assembled}
use Rattle.candidate_assembly.specs.Answers.Preference.{by}
use Rattle.candidate_assembly.specs.Answers.Shown.{AfterList, Answers, IsAnsweredBy}
use Rattle.candidate_assembly.specs.Answers.Specialization.{scanned, unspecialized}
use Rattle.candidate_assembly.specs.Answers.SureAnswers.{AnswersAfter, AnswersGranted, IsProvedWith}
use Rattle.candidate_assembly.specs.Answers.Telling.{Told, asking_rule}
use Rattle.candidate_assembly.specs.Answers.TraitAnswers.{IsOfOne}
use Rattle.candidate_assembly.specs.Goals.KindShown.{IsGoal}
use Rattle.candidate_assembly.specs.Goals.Kinds.{self_type}
use Rattle.candidate_assembly.specs.Goals.TraitGoals.{with_first}
use Rattle.candidate_assembly.specs.Laws.BuiltinLaws.{nodes_fit}
use Rattle.candidate_assembly.specs.Laws.Given.{IsCounted}
use Rattle.candidate_assembly.specs.Laws.SuperLaws.{IsFitting, arguments_fit}
use Rattle.candidate_assembly.proofs.Objects.SuperLaws.{first_fits}
use Rattle.candidate_assembly.proofs.Aliases.AliasChains.{alias-tree}
use Rattle.candidate_assembly.proofs.Answers.SureAnswers.{ask-sure, list-proves}
use Rattle.candidate_assembly.proofs.Answers.Winners.{by-all, either, merged-of-one, scanned-all}
use Rattle.projection_goals.specs.declared.kind.NormalizesTo.{NormalizesTo}
use Rattle.projection_goals.specs.Closures.{always, answers_rigid}
use Rattle.projection_goals.specs.Equations.{equal_by, rigid_response}
use Rattle.projection_goals.specs.Normalizing.{NormalizesGoal, normalizes_bounds, normalizes_goal, normalizes_kind, normalizes_rules}
use Rattle.projection_goals.specs.NormalizingLaws.{normalizes_goal_stays}
use Rattle.projection_goals.specs.Rows.{as-many-resolved, first-resolved}
use Rattle.derivations.specs.DerivedTables.{AreDerived, ByDeclared, TableIsClean, TableIsDerived}
use Rattle.derivations.proofs.Declared.{derived_parts, read_derived}
use Rattle.derivations.proofs.Fitting.{ListedFit, normal_fits}
use Rattle.derivations.proofs.Rounds.{resolved_first}
use Rattle.derivations.proofs.Sharing.{facts_derive}
use Rattle.rounds_judge.specs.Aliases.Listed.{Listing}
use Rattle.rounds_judge.specs.Obligations.Granted.{facts_in}
use Rattle.rounds_judge.specs.Aliases.Normalizing.{normalized}
use Rattle.rounds_judge.specs.Aliases.WellListed.{well_listed}
use Rattle.rounds_judge.specs.Table.GoalTable.{GoalTable, may_be_asked, well_entered}
use Rattle.rounds_judge.specs.Table.Keys.{Key, every, start_of}
use Rattle.rounds_judge.proofs.Aliases.WellListed.{all-listed}
use Rattle.rounds_judge.proofs.Lawfulness.JudgeLaws.{known_normal}
use Rattle.rounds_judge.proofs.Lawfulness.TableLawful.{table_keeps_the_laws}
use Rattle.rounds_judge.specs.Table.TableJudge.{table_judge}
use Rattle.candidate_rounds.specs.Evaluators.Interface.{Fixed, fixed, judge_of}
use Rattle.candidate_rounds.specs.Evaluators.Known.{Evaluator, IsGiven, listing, state}
use Rattle.candidate_rounds.specs.Table.DerivedNormals.{GrantedIsDerived, IsSureNormal, SureIsDerived, as_type, by_rule, is_rigid, where_asked}
use Rattle.candidate_rounds.specs.Table.Goals.{Via}
use Rattle.candidate_rounds.specs.Table.Normalizing.{rounds_shown, term_goal, with_term}
use Rattle.candidate_rounds.specs.Table.Running.{judged_by, with_table}
use Rattle.candidate_rounds.proofs.Table.KeysStand.{listed-fit}
use Rattle.candidate_rounds.proofs.Table.Normalizing.{After, Keeping, keeping-of}
use Rattle.candidate_rounds.proofs.Table.NormalsGranted.{NormalStands, normal_goal, rigid-granted, sure-granted, term-stands-there}

-- What candidates come to, if it is sure, is the response of one of them.

module _ (J : Judge) (law : Lawful J) (S : State) where
  not-floundered : (xs : List Candidate) (r : Response) → floundered J S xs ≡ Some r → r.certainty ≡ Yes → ⊥
  not-floundered [] r e sure = absurd cc
  not-floundered (x ∷ xs) r e sure = let no : AMBIGUOUS ≡ Yes = law.responses.yes_was_asked (with_pending S []) AMBIGUOUS r e sure in absurd cc

  of-one : (xs : List Candidate) (o : Option Merge) (r : Response) → merged xs ≡ o → or_floundered J S xs o ≡ Some r → r.certainty ≡ Yes → IsOfOne xs r
  of-one xs None r e f sure = absurd (not-floundered xs r f sure)
  of-one xs (Some m) r e f sure = let is : m.response ≡ r = cc in subst (IsOfOne xs) is (merged-of-one xs m e)

  pub come-to-one : (xs : List Candidate) (r : Response) → come_to J S xs ≡ Some r → r.certainty ≡ Yes → IsOfOne xs r
  come-to-one xs r e sure = of-one xs (merged xs) r refl e sure

-- Those that stay are of the list.

kept-all : (P : Candidate → Type 0) (xs : List Candidate) → All P xs → All P (only_where_bounds xs)
kept-all P xs h = either P (has_where_bound xs) (by is_of_environment xs) xs (by-all P is_of_environment xs h) h

unspecialized-all : (P : Candidate → Type 0) (c : Context) (m : TypingMode) (xs : List Candidate) → All P xs → All P (unspecialized c m Allow.Yes xs)
unspecialized-all P c m xs h = either P (is_coherence m) xs (scanned c Allow.Yes [] xs) h (scanned-all P c Allow.Yes [] xs (All-nil P) h)

one-of-list : (xs ys : List Candidate) (r : Response) → ((P : Candidate → Type 0) → All P xs → All P ys) → IsOfOne ys r → IsOfOne xs r
one-of-list xs ys r f h = record { candidate = h.candidate; listed = All-contains (Contains xs) ys h.candidate (f (Contains xs) (All-contains_itself xs)) h.listed; response = h.response }

-- What is granted by a derived table is derived.

module _ {W : Type 0} (w : World) (local : ℕ) (limits : Limits) (l : Listing) (opaques : List Tree) (T : GoalTable W) (d : Context) (derived : AreDerived d l T) where
  pub granted-derived : GrantedIsDerived d l (table_judge w local limits l opaques T)
  granted-derived S g a = record {
    universe = a.universe;
    is_fresh = a.is_fresh;
    derivation = facts_derive d l T derived (universes S) (resolved S g.env) g.clause.head (resolved S (facts_in a.universe g.clause)) a.facts;
  }

-- A sure answer rests on one of the two.

-- The judge of each evaluator keeps the laws.
law : (f : Fixed) → Lawful (judge_of f)
law f = table_keeps_the_laws f.world f.local_crate f.limits f.listing f.opaques f.table

-- What a sure response leaves pending is granted after the state at which the goal was asked: one by a rule, and the rigid one.
pub record IsGrantedAfter (J : Judge) (c : Context) (S : State) (g : NormalizesGoal) : Type 0 where
  pub proved : (r : Response) (p : IsProvedWith (AnswersGranted J) normalizes_rules normalizes_bounds J c S g r) → AnswersAfter J S every (where_asked p.proved_by) r
  pub rigid : (at : State) → IsLeftAlike J S g.env (self_type normalizes_rules c g) at → (last : State) → accepted J at g.env (alone (first_tree g.term)) (alone (as_type g)) ≡ Some last
      → (r : Response) → J.responded last Yes ≡ Some r → r.certainty ≡ Yes → AnswersAfter J S every last r

-- An equation that was accepted, and what is answered then.
equal-parts : (J : Judge) (S : State) (e : Env) (x y : Tree) (r : Response) → equal_by J S e x y ≡ Some r → (T : State) × (accepted J S e (alone x) (alone y) ≡ Some T) × (J.responded T Yes ≡ Some r)
equal-parts J S e x y r is = at (accepted J S e (alone x) (alone y)) refl is
  where
    at : (o : Option State) → accepted J S e (alone x) (alone y) ≡ o → next o (λ T. J.responded T Yes) ≡ Some r → (T : State) × (accepted J S e (alone x) (alone y) ≡ Some T) × (J.responded T Yes ≡ Some r)
    at None was h = absurd cc
    at (Some T) was h = (T, was, h)

module _ (env : ParamEnv) (goal : NormalizesTo) (x : Evaluator) (granted : IsGrantedAfter (judge_of (fixed x)) x.context (state x) (normalizes_goal x.context.trees env goal)) where
  abbrev Given : Type 0
  Given = Result CanonicalResponse NoSolutionOrStop

  abbrev g : NormalizesGoal
  g = normalizes_goal x.context.trees env goal

  abbrev Rests : Evaluator → CanonicalResponse → Type 0
  Rests y r = IsSureNormal (judge_of (fixed x)) x.context (state x) g (response_of y.context.trees r)

  -- of a list, whose candidates each rest on one rule
  of-candidate : (y : Evaluator) (from : AssembleCandidatesFrom) (T : State) (xs : List Candidate) (r : Response)
      → IsAssembled normalizes_rules normalizes_bounds x.context (judge_of (fixed x)) (state x) g from (Lists xs) T → IsOfOne xs r → r.certainty ≡ Yes
      → IsSureNormal (judge_of (fixed x)) x.context (state x) g r
  of-candidate y from T xs r listed one sure =
      let J = judge_of (fixed x) in
      let P = λ (c : Candidate). c.result.certainty ≡ Yes → IsProvedWith (AnswersGranted J) normalizes_rules normalizes_bounds J x.context (state x) g c.result in
      let all : All P xs = list-proves normalizes_rules normalizes_bounds J (law (fixed x)) x.context (state x) T g from (Lists xs) listed in
      let p = All-contains P xs one.candidate all one.listed (ap (λ (q : Response). q.certainty) one.response ∙ sure) in
      subst (IsSureNormal J x.context (state x) g) one.response (by_rule (record { proved = p; granted = granted.proved one.candidate.result p }))

  -- the rigid response, by the goal's trees
  abbrev rigid_of : Judge → State → NormalizesGoal → Option Response
  rigid_of J S h = equal_by J S h.env (first_tree h.term) (as_type h)

  rigid-before : (z y : Evaluator) (r : CanonicalResponse) → Keeping x z → IsGoal normalizes_kind x.context env goal → goal.alias.kind ≡ AK.Projection
      → rigid_response (view rounds_shown z) env goal ≡ Some (response_of y.context.trees r) → rigid_of (judge_of (fixed x)) (state z) g ≡ Some (response_of y.context.trees r)
  rigid-before z y r kept valid projection e =
      let stays = normalizes_goal_stays x.context z.context env goal kept.grows valid in
      let args = (args-kept x.context z.context goal.alias.args kept.grows valid.arguments).0 in
      let seen = normalizes_goal z.context.trees env goal in
      let type : kind_tree z.context.trees (TK.Alias goal.alias) ≡ as_type seen = alias-tree z.context.trees goal.alias args ∙ ap (λ k. record { head = H.Alias k goal.alias.id; children = args_forest z.context.trees goal.alias.args }) projection in
      let here : rigid_of (judge_of (fixed z)) (state z) seen ≡ Some (response_of y.context.trees r) =
      sym (ap (λ t. equal_by (judge_of (fixed z)) (state z) (env_forest z.context.trees env) (ty_tree z.context.trees goal.term) t) type) ∙ e in
      subst (λ (p : Fixed × NormalizesGoal). rigid_of (judge_of p.0) (state z) p.1 ≡ Some (response_of y.context.trees r)) (λ i. (kept.fixed_same i, stays.seen i)) here

  -- where candidates come to a sure response, at an evaluator that answers by the same judge
  of-coming : (z y : Evaluator) (from : AssembleCandidatesFrom) (T : State) (xs ys : List Candidate) (r : CanonicalResponse) → fixed z ≡ fixed x
      → IsAssembled normalizes_rules normalizes_bounds x.context (judge_of (fixed x)) (state x) g from (Lists xs) T → ((P : Candidate → Type 0) → All P xs → All P ys)
      → come_to (judge_of (fixed z)) (state z) ys ≡ Some (response_of y.context.trees r) → r.certainty ≡ Yes → Rests y r
  of-coming z y from T xs ys r same listed stay comes sure =
      of-candidate y from T xs (response_of y.context.trees r) listed (one-of-list xs ys (response_of y.context.trees r) stay (come-to-one (judge_of (fixed z)) (law (fixed z)) (state z) ys (response_of y.context.trees r) comes sure)) sure

  -- the state that listing leaves
  left-alike : (from : AssembleCandidatesFrom) (T U : State) (l : Listed) → IsAssembled normalizes_rules normalizes_bounds x.context (judge_of (fixed x)) (state x) g from l T
      → (judge_of (fixed x)).alike T U → IsLeftAlike (judge_of (fixed x)) (state x) g.env (self_type normalizes_rules x.context g) U
  left-alike from T U l (refused e) a = before a
  left-alike from T U l (normal e h) a = left_normal e a

  -- whose closures answer so
  of-assumptions : (z y : Evaluator) (from : AssembleCandidatesFrom) (T : State) (xs : List Candidate) (r : CanonicalResponse) → Keeping x z
      → IsAssembled normalizes_rules normalizes_bounds x.context (judge_of (fixed x)) (state x) g from (Lists xs) T → (judge_of (fixed x)).alike T (state z) → After env goal z xs (Ok r) y → IsGoal normalizes_kind x.context env goal → goal.alias.kind ≡ AK.Projection → r.certainty ≡ Yes → Rests y r
  of-assumptions z y from T xs r kept listed alike (left_rigid empty m) valid projection sure =
      let a : Answers rounds_shown m.shown.now m.left.now (λ V. rigid_response V env goal) (Ok r) = m.met in
      let ok : rigid_response (view rounds_shown z) env goal ≡ Some (response_of y.context.trees r) =
      subst (λ (p : Evaluator × Evaluator). rigid_response (view rounds_shown p.0) env goal ≡ Some (response_of p.1.context.trees r)) (λ i. (m.shows i, m.leaves i)) a.ok in
      let J = judge_of (fixed x) in
      let left = left-alike from T (state z) (Lists xs) listed alike in
      let p = equal-parts J (state z) g.env (first_tree g.term) (as_type g) (response_of y.context.trees r) (rigid-before z y r kept valid projection ok) in
      is_rigid (record { at = state z; alike = left; last = p.0; equated = p.1; responded = p.2; granted = granted.rigid (state z) left p.0 p.1 (response_of y.context.trees r) p.2 sure })
  of-assumptions z y from T xs r kept listed alike (is_ambiguous some m) valid projection sure = absurd (let p : None ≡ Some (Ok r) = sym m.met.0 in cc)
  of-assumptions z y from T xs r kept listed alike (are_merged {x = v} some m combined) valid projection sure =
      let same : v ≡ z = sym m.leaves ∙ m.met.1 ∙ m.shows in
      of-coming v y from T xs (only_where_bounds xs) r (ap fixed same ∙ kept.fixed_same) listed (λ P h. kept-all P xs h) combined.ok sure

  of-list : (y : Evaluator) (from : AssembleCandidatesFrom) (R : Evaluator → List Candidate → Given → Evaluator → Type 0) (r : CanonicalResponse)
      → ((z : Evaluator) (xs : List Candidate) (T : State) → Keeping x z → IsAssembled normalizes_rules normalizes_bounds x.context (judge_of (fixed x)) (state x) g from (Lists xs) T → (judge_of (fixed x)).alike T (state z) → R z xs (Ok r) y → Rests y r)
      → AfterList rounds_shown normalizes_kind x env goal from R (Ok r) y → Rests y r
  of-list y from R r f (assembled {xs = xs} {x = z} kept p after) = f z xs p.left (keeping-of x z kept) p.assembled p.alike after

  unproved : (y : Evaluator) (r : CanonicalResponse) (a : Result OfNumbers NoSolutionOrStop) → Ok r ≡ response_in a → Told y.context.trees a (judged (judge_of (fixed x)) (state x) (asking_rule g.env true AMBIGUOUS)) → r.certainty ≡ Yes → ⊥
  unproved y r (Ok c) e told sure =
      let same : r ≡ c.result = cc in
      let no : AMBIGUOUS ≡ Yes =
      ask-sure (judge_of (fixed x)) (law (fixed x)) (state x) (asking_rule g.env true AMBIGUOUS) (candidate_of y.context.trees c) _ AMBIGUOUS refl told.ok (sym (ap (λ (q : CanonicalResponse). q.certainty) same) ∙ sure) in
      absurd cc
  unproved y r (Err e) f told sure = absurd cc

  pub sure-rests : (y : Evaluator) (way : Option Via) (r : CanonicalResponse) → IsGoal normalizes_kind x.context env goal → goal.alias.kind ≡ AK.Projection
      → IsAnsweredBy rounds_shown (always None) tt (answers_rigid rounds_shown env goal) tt normalizes_kind x env goal way (Ok r) y → r.certainty ≡ Yes → Rests y r
  sure-rests y None r valid projection p sure = absurd (unproved y r p.answer p.response p.considers.told sure)
  sure-rests y (Some W.Misc) r valid projection p sure =
      of-list y _ _ r
      (λ z xs T kept listed alike a.
      let ys = unspecialized z.context (state z).mode Allow.Yes (only_where_bounds xs) in
      of-coming z y _ T xs ys r kept.fixed_same listed (λ P h. unspecialized-all P z.context (state z).mode (only_where_bounds xs) (kept-all P xs h)) a.ok sure) p
  sure-rests y (Some W.ParamEnv) r valid projection p sure = of-list y _ _ r (λ z xs T kept listed alike a. of-assumptions z y _ T xs r kept listed alike a valid projection sure) p
  sure-rests y (Some W.AliasBound) r valid projection p sure = of-list y _ _ r (λ z xs T kept listed alike a. of-assumptions z y _ T xs r kept listed alike a valid projection sure) p

-- The self type of the goal of a key, in normal form and with all values put in, fits what is declared, if the arguments do and each listed type.
module _ (f : Fixed) (w : World) (listed : ListedFit w (well_listed f.listing)) (m : TypingMode) (k : Key) (c : Context) where
  abbrev S : State
  S = start_of m k

  normal-self-fits : (g : NormalizesGoal) → IsFitting w (first_tree g.arguments) → (u : Tree) (T : State) → is_general u.head ≡ false → (judge_of f).normalized S g.env (first_tree g.arguments) ≡ Some (u, T)
      → IsFitting w (first_tree (normal_goal c T g u).arguments)
  normal-self-fits g fits u T known is =
      let l = well_listed f.listing in
      let t = first_tree g.arguments in
      let n = known_normal l S T g.env t u known is in
      let there = subst (λ R. normalized l S g.env t ≡ Some (u, R)) (sym n.state) is in
      let own = normal_fits w l listed S g.env t u (subst (IsFitting w) (sym (resolved_first m k g.arguments)) fits) there in
      let changed = with_first u g.arguments in
      let same : first_tree (normal_goal c T g u).arguments ≡ u =
      ap first_tree (as-many-resolved T changed g.term) ∙ (first-resolved T changed ∙ (ap (λ R. resolved_tree R u) (sym n.state) ∙ resolved_first m k (alone u))) in
      subst (IsFitting w) (sym same) own

-- So does the answer under a derived table, and what it rests on is derived.

module _ (r x y : Evaluator) (T : GoalTable Via) (k : Key) (item : ℕ) (given : IsGiven r.context.trees r.normal.pairs r.opaques) (table : TableIsDerived r.context (listing r) T) (grows : Grows r.context x.context)
    (same : judged_by x ≡ with_table (fixed r) T) (begins : state x ≡ start_of r.mode (with_term k)) (env : ParamEnv) (goal : NormalizesTo) (says : normalizes_goal x.context.trees env goal ≡ term_goal item k)
    (asked : may_be_asked k ≡ true) (well : IsWellFormedTable x.context) (few : IsCounted x.context) (own : IsGiven x.context.trees x.normal.pairs x.opaques) where
  granted-here : ByDeclared x.context (λ d. TableIsClean (listing r) T → GrantedIsDerived d (listing r) (judge_of (with_table (fixed r) T)))
  granted-here =
      let f = fixed r in
      let q = derived_parts r.context (listing r) T table in
      let is : well_listed (listing r) ≡ listing r = all-listed (listing r) given.listing in
      record {
        declared = q.declared;
        grows = grows-trans q.declared r.context x.context q.grows grows;
        well_formed = q.well_formed;
        holds = λ clean.
            let read = subst (λ (l : Listing). AreDerived q.declared l (well_entered T)) (sym is) (read_derived q.declared (listing r) T (q.holds clean)) in
            subst (λ (l : Listing). GrantedIsDerived q.declared l (judge_of (with_table f T))) is (granted-derived f.world f.local_crate f.limits (well_listed (listing r)) f.opaques (well_entered T) q.declared read);
      }

  -- The goal stands at its start, so that what it leaves pending is granted.
  after-start : IsGoal normalizes_kind x.context env goal → IsGrantedAfter (judge_of (fixed x)) x.context (state x) (normalizes_goal x.context.trees env goal)
  after-start valid =
      let c = x.context in
      let w = world c in
      let f = fixed x in
      let seen = normalizes_goal c.trees env goal in
      let is : well_listed f.listing ≡ listing x = all-listed (listing x) own.listing in
      let listed = subst (ListedFit w) (sym is) (listed-fit c (nodes_fit c well) x.normal.pairs own.types) in
      let self = first_fits w seen.arguments (arguments_fit c well goal.alias.args valid.arguments) in
      let stands = subst (λ (q : State × NormalizesGoal). NormalStands q.0 every q.1) (λ i. (sym begins i, sym says i)) (term-stands-there r.mode k item asked) in
      record {
        proved = λ a p.
            let normal = subst (λ S. (judge_of f).normalized S seen.env (first_tree seen.arguments) ≡ Some (p.normal, p.at)) begins p.is_normal in
            let fits = normal-self-fits f w listed r.mode (with_term k) c seen self p.normal p.at p.is_known normal in
            sure-granted (judge_of f) (law f) c well few (state x) every seen stands a p fits;
        rigid = λ at like last is a responded sure. rigid-granted (judge_of f) (law f) (state x) every seen stands at like last is a responded sure;
      }

  pub answer-sure : (way : Option Via) (a : Result CanonicalResponse NoSolutionOrStop) → IsGoal normalizes_kind x.context env goal → goal.alias.kind ≡ AK.Projection
      → IsAnsweredBy rounds_shown (always None) tt (answers_rigid rounds_shown env goal) tt normalizes_kind x env goal way a y → IfOk a (λ p. SureIsDerived r T k item (response_of y.context.trees p))
  answer-sure way (Ok p) valid projection h = λ sure. record {
    context = x.context;
    grows = grows;
    rests = subst (λ (q : Fixed × State × NormalizesGoal). IsSureNormal (judge_of q.0) x.context q.1 q.2 (response_of y.context.trees p)) (λ i. (same i, begins i, says i)) (sure-rests env goal x (after-start valid) y way p valid projection h sure);
    derived = granted-here;
  }
  answer-sure way (Err e) valid projection h = tt
