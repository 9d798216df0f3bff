-- A sure answer rests on one rule of the goal: so does each candidate of the list that is sure.
use Rattle.std.proofs.Common.{◌≡◌, ℕ, zero, suc, Bool, true, false, not, Option, Some, None, List, [], ◌∷◌, ◌++◌, map, Result, refl, sym, ◌∙◌, ap, subst}
use Rattle.std.specs.Prelude.{All, ◌||◌, IfOk, nat_lt, if◌then◌else◌}
use Rattle.std.specs.List.{Contains, flat_map}
use Rattle.std.proofs.lemmas.List.Elements.{All-append, All-cons, All-contains, All-contains_itself, All-head, All-map, All-nil, All-tail, All-weaker}
use Rattle.ir_trees.specs.declared.decl.contents.AliasBoundKind.{AliasBoundKind}
use Rattle.ir_trees.specs.declared.ir.heads.Head.{Head}
use Rattle.ir_trees.specs.Declarations.Context.{Context}
use Rattle.ir_trees.specs.Unification.Impls.{blanket_impls, relevant_impls}
use Rattle.ir_trees.specs.Instantiation.Opening.{opened}
use Rattle.ir_trees.specs.Unification.Substitutions.{alone as just}
use Rattle.ir_trees.specs.Hierarchy.Supers.{after_first}
use Rattle.ir_trees.specs.declared.ir.stop.Stop.TheVariants.{ConstDepth}
use Rattle.ir_trees.specs.Syntax.Trees.{Forest, Kind, TypeKind, ConstantKind, RegionKind, none, tree, Tree, holds, kind_of}
use Rattle.ir_trees.specs.Declarations.Worlds.{Reference}
use Rattle.candidate_eval.specs.declared.eval.certainty.Certainty.{Certainty}
use Rattle.candidate_eval.specs.declared.eval.certainty.Certainty.TheVariants.{Yes, Maybe}
use Rattle.candidate_eval.specs.declared.eval.certainty.MaybeCause.TheVariants.{Ambiguity}
use Rattle.candidate_eval.specs.declared.eval.certainty.OpaqueTypesJank.TheVariants.{ErrorIfRigidSelfTy}
use Rattle.candidate_eval.specs.declared.eval.refusal.NoSolutionOrStop.{NoSolutionOrStop}
use Rattle.candidate_eval.specs.declared.eval.response.CanonicalResponse.{CanonicalResponse}
use Rattle.candidate_eval.specs.declared.eval.source.CandidateSource.{CandidateSource}
use Rattle.candidate_eval.specs.declared.eval.source.CandidateSource.TheVariants as Source
use Rattle.candidate_eval.specs.declared.eval.source.ParamEnvSource.TheVariants.{Global, NonGlobal}
use Rattle.candidate_eval.specs.Interface.Accounts.{Account}
use Rattle.candidate_eval.specs.Outcomes.Certainties.{AMBIGUOUS, certainty_and}
use Rattle.candidate_eval.specs.Derivations.Characterization.{Group, Loose, Bounded, Walk, Goes, Finds, Refuses, and_then, characterization, each, each_group, group_at, groups, in_normal_form, is_any_bound, is_any_variable, is_of_interest, is_placeholder, is_root_placeholder, looked, most_visits, too_deep, visited, visited_as}
use Rattle.candidate_eval.specs.Derivations.Characterization as Walks
use Rattle.candidate_eval.specs.Derivations.ImplRules.{TraitGoal}
use Rattle.candidate_eval.specs.Derivations.Judging.{Judged, Gives, Refused, Stopped, Reached, At, Ambiguous, Over, answered, asked, by_finding, concluded, continued, judged, run, source_of, start}
use Rattle.candidate_eval.specs.Judges.Lawful.{Lawful}
use Rattle.candidate_eval.specs.Dynamic.Required.{each_of}
use Rattle.candidate_eval.specs.Outcomes.ResponseTrees.{response_of}
use Rattle.candidate_eval.specs.Outcomes.Responses.{Candidate, Response}
use Rattle.candidate_eval.specs.Derivations.Rules.{Ending, Rule, ask, characterise, unknowable}
use Rattle.candidate_eval.specs.Judges.States.{Env, Judge, State, resolved_tree}
use Rattle.candidate_assembly.specs.declared.assembly.opaques.AssembleCandidatesFrom.{AssembleCandidatesFrom}
use Rattle.candidate_assembly.specs.declared.assembly.opaques.AssembleCandidatesFrom.TheVariants.{All as FromAll, EnvAndBounds}
use Rattle.candidate_assembly.specs.declared.assembly.merging.TraitGoalProvenVia.{TraitGoalProvenVia}
use Rattle.candidate_assembly.specs.Rules.AliasBounds.{Chain, ChainComes, ChainEnd, Done, IsChain, Misplaced, AtVariable, TooLong, at_opaque, at_projection, end_answers, has_bounds, is_opaque, is_projection, link, link_rules, no_alias, no_normal_form, one_too_many, variable_rule}
use Rattle.candidate_assembly.specs.Answers.Assembled.{Assembled, OfNormalSelfType, AfterWhereBounds, IfUnsizing, IsAssembled, AllKnown, ThenImplsAndObjects, ThenUnsizing, alone, asked as was_asked, by_clauses, by_objects, everything, followed, impl_rule, impl_rules, knowable, language_rules, left_out, named_rules, normal, not_asked, others, outside, refused as none_normal, resolved_goal, rule_name, stopped as impls_stopped, stops as unknowable_stops, trait_of, variable, where_rule, where_rules}
use Rattle.candidate_assembly.specs.Rules.DynBounds.{ArePrincipalSupers}
use Rattle.candidate_assembly.specs.Goals.KindBounds.{KindBounds, no_target, refused as none_unsized, rules as by_rules}
use Rattle.candidate_assembly.specs.Goals.Kinds.{BuiltinRule, KindRules, self_type}
use Rattle.candidate_assembly.specs.Answers.Listing.{GoesOn, Listed, Lists, after_list, all_answers, answers, answers_at, lists, listed, stops, together}
use Rattle.candidate_assembly.specs.Answers.Listing as Listing
use Rattle.candidate_assembly.specs.Rules.ObjectBounds.{ObjectJudged, ObjectList, ObjectsAnswer, OwnClause, answer, has_own_clauses, nested_goals, none_left, nothing, one, own_clauses, rejected, required, stopped as object_stopped, unknown, unmatched}
use Rattle.candidate_assembly.proofs.Lists.Trivials.{EndsWithout, GivesNone, run_ends}
use Rattle.candidate_assembly.specs.Rules.Opaques.{ambiguous_rule, bounds_said, by_opaques, hidden_behind, open_impl_rules, open_rule_of, opaque_rules, or_rigid, non_default_impls}
use Rattle.candidate_assembly.specs.Answers.SureAnswers.{AnswersGranted, IsOnChain, IsProvedBy, IsProvedWith, IsRuleOf, RuleGrants, asked_at, walked_to, by_bound, by_clause, by_impl, by_language, by_object, by_rule, by_unsizing, first, further}
use Rattle.candidate_assembly.specs.Answers.Telling.{asking_rule}
use Rattle.candidate_assembly.specs.Answers.TraitAnswers.{Answered, Computes, IsTraitAnswer, ListsOne}
use Rattle.candidate_assembly.specs.Goals.TraitRules.{trait_bounds, trait_rules}
use Rattle.candidate_assembly.specs.Rules.Unknowable.{UnknowableJudged, known, unknown as may_be_written, unknowable_rule}
use Rattle.candidate_assembly.proofs.Calls.Causes.{so-ok}
use Rattle.candidate_assembly.proofs.Answers.Winners.{yes_by_one}

-- A walk over a clause leaves what is pending.

abbrev pub Leaves : State → Walk → Type 0
Leaves S (Goes T) = T.pending ≡ S.pending
Leaves S (Finds T c) = T.pending ≡ S.pending
Leaves S Refuses = Unit {0}
Leaves S (Walks.Stops s) = Unit {0}

leaves-from : (S T : State) (w : Walk) → T.pending ≡ S.pending → Leaves T w → Leaves S w
leaves-from S T (Goes U) e h = h ∙ e
leaves-from S T (Finds U c) e h = h ∙ e
leaves-from S T Refuses e h = tt
leaves-from S T (Walks.Stops s) e h = tt

and-then-leaves : (S : State) (w : Walk) (k : State → Walk) → Leaves S w → ((T : State) → Leaves T (k T)) → Leaves S (and_then w k)
and-then-leaves S (Goes T) k h next = leaves-from S T (k T) h (next T)
and-then-leaves S (Finds T c) k h next = h
and-then-leaves S Refuses k h next = tt
and-then-leaves S (Walks.Stops s) k h next = tt

-- so does a visit to each tree
abbrev VisitLeaves : (State → Tree → Walk) → Type 0
VisitLeaves visit = (S : State) (t : Tree) → Leaves S (visit S t)

each-leaves : (visit : State → Tree → Walk) → VisitLeaves visit → (S : State) (ts : Forest) → Leaves S (each visit S ts)
each-leaves visit h S none = refl
each-leaves visit h S (tree head below rest) =
    and-then-leaves S (visit S (record { head = head; children = below })) (λ T. each visit T rest) (h S (record { head = head; children = below })) (λ T. each-leaves visit h T rest)

group-pending : (S : State) (g : Group) → (group_at S g).0.pending ≡ S.pending
group-pending S (Loose ts) = refl
group-pending S (Bounded [] ts) = refl
group-pending S (Bounded (k ∷ ks) ts) = refl

groups-leave : (visit : State → Tree → Walk) → VisitLeaves visit → (S : State) (gs : List Group) → Leaves S (each_group visit S gs)
groups-leave visit h S [] = refl
groups-leave visit h S (g ∷ gs) =
    let at = group_at S g in
    and-then-leaves S (each visit at.0 at.1) (λ T. each_group visit T gs)
    (leaves-from S at.0 (each visit at.0 at.1) (group-pending S g) (each-leaves visit h at.0 at.1))
    (λ T. groups-leave visit h T gs)

if-leaves : (S : State) (b : Bool) (v w : Walk) → Leaves S v → Leaves S w → Leaves S (if b then v else w)
if-leaves S true v w h k = h
if-leaves S false v w h k = k

looked-leaves : (deeper : State → Tree → Walk) → VisitLeaves deeper → (b : Bool) → VisitLeaves (looked deeper b)
looked-leaves deeper h b S t =
    let below = each_group deeper S (groups t.head t.children) in
    let deep = if b then Finds S too_deep else below in
    let plain = if not (holds is_of_interest (just t)) then Goes S else deep in
    let open_one = if is_any_variable t.head then Finds S AMBIGUOUS else plain in
    let rigid = if is_placeholder t.head then Goes S else open_one in
    if-leaves S (is_root_placeholder t.head) (Finds S Yes) rigid refl
    (if-leaves S (is_placeholder t.head) (Goes S) open_one refl
    (if-leaves S (is_any_variable t.head) (Finds S AMBIGUOUS) plain refl
    (if-leaves S (not (holds is_of_interest (just t))) (Goes S) deep refl
    (if-leaves S b (Finds S too_deep) below refl (groups-leave deeper h S (groups t.head t.children))))))

module _ (J : Judge) (law : Lawful J) (e : Env) where
  normal-leaves : (S : State) (t : Tree) (k : State → Tree → Walk) → VisitLeaves k → Leaves S (in_normal_form (J.normalized S e t) k)
  normal-leaves S t k h = at (J.normalized S e t) refl
    where
      at : (o : Option (Tree × State)) → J.normalized S e t ≡ o → Leaves S (in_normal_form o k)
      at None is = tt
      at (Some n) is = leaves-from S n.1 (k n.1 n.0) (law.normal_forms.normalizing_keeps_pending S n.1 e t n.0 is) (h n.1 n.0)

  -- a part by its kind, where deeper visits leave what is pending
  part-leaves : (n level depth : ℕ) → ((l d : ℕ) → VisitLeaves (visited J e n l d)) → (S : State) (t : Tree) (k : Kind) → Leaves S (visited_as J e (visited J e n) level depth S t k)
  part-leaves n level depth h S t TypeKind =
      normal-leaves S t (looked (visited J e n (suc level) depth) (nat_lt J.limits.recursion level)) (looked-leaves (visited J e n (suc level) depth) (h (suc level) depth) (nat_lt J.limits.recursion level))
  part-leaves n level depth h S t ConstantKind =
      if-leaves S (nat_lt depth J.limits.const_depth) (in_normal_form (J.normalized S e t) (looked (visited J e n level (suc depth)) false)) (Walks.Stops ConstDepth)
      (normal-leaves S t (looked (visited J e n level (suc depth)) false) (looked-leaves (visited J e n level (suc depth)) (h level (suc depth)) false)) tt
  part-leaves n level depth h S t RegionKind =
      let head = (resolved_tree S t).head in
      if-leaves S (is_root_placeholder head || is_any_variable head) (Finds S Yes) (Goes S) refl refl
  part-leaves n level depth h S t _ = refl

  visited-leaves : (n level depth : ℕ) → VisitLeaves (visited J e n level depth)
  visited-leaves zero level depth S t = tt
  visited-leaves (suc n) level depth S t = part-leaves n level depth (λ l d. visited-leaves n l d) S t (kind_of t.head)

  pub characterized-leaves : (S : State) (c : Tree) → Leaves S (characterization J e S c)
  characterized-leaves S c =
      let parts = opened none (after_first c.children) in
      if-leaves S (holds is_any_bound c.children) (Finds S Yes) (each (visited J e (most_visits J) 1 0) S parts) refl
      (each-leaves (visited J e (most_visits J) 1 0) (visited-leaves (most_visits J) 1 0) S parts)

-- Of a rule.

no-more : AMBIGUOUS ≡ Yes → ⊥
no-more e = absurd cc

module _ (J : Judge) (law : Lawful J) where
  -- A sure candidate is a sure response, for which Yes was asked.
  pub asked-sure : (S : State) (s : CandidateSource) (c : Certainty) (x : Candidate) → asked J S s c ≡ Gives x → x.result.certainty ≡ Yes → (J.responded S c ≡ Some x.result) × (c ≡ Yes)
  asked-sure S s c x given sure = at (J.responded S c) refl given
    where
      at : (o : Option Response) → J.responded S c ≡ o → answered s o ≡ Gives x → (J.responded S c ≡ Some x.result) × (c ≡ Yes)
      at None is g = absurd cc
      at (Some r) is g =
          let same : r ≡ x.result = cc in
          let response = is ∙ ap (λ (y : Response). Some y) same in
          (response, law.responses.yes_was_asked S c x.result response sure)

  granted-at : (S : State) (s : CandidateSource) (c : Certainty) (x : Candidate) → asked J S s c ≡ Gives x → x.result.certainty ≡ Yes → AnswersGranted J S x.result
  granted-at S s c x given sure =
      let a = asked-sure S s c x given sure in
      let is = subst (λ (d : Certainty). J.responded S d ≡ Some x.result) a.1 a.0 in
      record { responded = is; granted = λ L sound fits goals. law.responses.yes_is_granted S L Yes x.result sound fits goals is sure }

  never-ambiguous : (S : State) (s : CandidateSource) (x : Candidate) → asked J S s AMBIGUOUS ≡ Gives x → x.result.certainty ≡ Yes → ⊥
  never-ambiguous S s x given sure = no-more (asked-sure S s AMBIGUOUS x given sure).1

  -- where the response was asked for
  abbrev AskedAfter : Env → Ending → State → Candidate → Type 0
  AskedAfter e end S x = (last : State) × (asked_at J e end S ≡ Some last) × (last.pending ≡ S.pending) × AnswersGranted J last x.result

  concluded-sure : (e : Env) (end : Ending) (S : State) (x : Candidate) → concluded J e end S ≡ Gives x → x.result.certainty ≡ Yes → AskedAfter e end S x
  concluded-sure e (ask s c) S x given sure = (S, refl, refl, granted-at S s c x given sure)
  concluded-sure e (characterise c) S x given sure = at (characterization J e S c) refl (characterized-leaves J law e S c) given
    where
      at : (w : Walk) → characterization J e S c ≡ w → Leaves S w → by_finding J w ≡ Gives x → AskedAfter e (characterise c) S x
      at (Goes T) is kept g = (T, ap walked_to is, kept, granted-at T (Source.ParamEnv Global) Yes x g sure)
      at (Finds T d) is kept g = (T, ap walked_to is, kept, granted-at T (Source.ParamEnv NonGlobal) d x g sure)
      at Refuses is kept g = absurd cc
      at (Walks.Stops s) is kept g = absurd cc

  -- what a rule asks for that is sure
  pub ask-sure : (S : State) (r : Rule) (x : Candidate) (s : CandidateSource) (d : Certainty) → r.ending ≡ ask s d → judged J S r ≡ Gives x → x.result.certainty ≡ Yes → d ≡ Yes
  ask-sure S r x s d is given sure = at r.applies given
    where
      steps : (o : Reached) → EndsWithout o → continued J r.ending o (λ q. concluded J r.env r.ending q.state) ≡ Gives x → d ≡ Yes
      steps (At p) ends g = (asked-sure p.state s d x (sym (ap (λ (end : Ending). concluded J r.env end p.state) is) ∙ g) sure).1
      steps (Ambiguous T) ends g = absurd (never-ambiguous T (source_of r.ending) x g sure)
      steps (Over j) ends g = absurd (subst GivesNone g ends)

      at : (b : Bool) → (if b then continued J r.ending (run J r.env (start S) r.steps) (λ q. concluded J r.env r.ending q.state) else Refused) ≡ Gives x → d ≡ Yes
      at true g = steps (run J r.env (start S) r.steps) (run_ends J r.env (start S) r.steps) g
      at false g = absurd cc

  pub rule-grants : (S : State) (r : Rule) (x : Candidate) → judged J S r ≡ Gives x → x.result.certainty ≡ Yes → RuleGrants (AnswersGranted J) J S r x
  rule-grants S r x given sure = at r.applies refl given
    where
      steps : (o : Reached) → run J r.env (start S) r.steps ≡ o → EndsWithout o → r.applies ≡ true → continued J r.ending o (λ q. concluded J r.env r.ending q.state) ≡ Gives x → RuleGrants (AnswersGranted J) J S r x
      steps (At p) is ends applies g =
          let a = concluded-sure r.env r.ending p.state x g sure in
          record { applies = applies; gives = given; place = p; reached = is; last = a.0; asked = a.1; pending = a.2; granted = a.3 }
      steps (Ambiguous T) is ends applies g = absurd (never-ambiguous T (source_of r.ending) x g sure)
      steps (Over j) is ends applies g = absurd (subst GivesNone g ends)

      at : (b : Bool) → r.applies ≡ b → (if b then continued J r.ending (run J r.env (start S) r.steps) (λ q. concluded J r.env r.ending q.state) else Refused) ≡ Gives x → RuleGrants (AnswersGranted J) J S r x
      at true applies g = steps (run J r.env (start S) r.steps) refl (run_ends J r.env (start S) r.steps) applies g
      at false applies g = absurd cc

-- Of a list.

abbrev EachListed : (Candidate → Type 0) → Listed → Type 0
EachListed P (Lists xs) = All P xs
EachListed P (Listing.Stops s) = Unit {0}

module _ (P : Candidate → Type 0) where
  each-together : (a b : Listed) → EachListed P a → EachListed P b → EachListed P (together a b)
  each-together (Listing.Stops s) b h k = tt
  each-together (Lists xs) (Listing.Stops s) h k = tt
  each-together (Lists xs) (Lists ys) h k = All-append P xs ys h k

  none-listed : EachListed P (Lists [])
  none-listed = All-nil P

  none-given : (j : Judged) → GivesNone j → EachListed P (listed j)
  none-given (Gives x) h = absurd h
  none-given Refused h = none-listed
  none-given (Stopped s) h = tt

  each-answer : (J : Judge) (S : State) (rs : List Rule) → All (λ (r : Rule). EachListed P (listed (judged J S r))) rs → EachListed P (answers J S rs)
  each-answer J S [] h = none-listed
  each-answer J S (r ∷ rs) h =
      each-together (listed (judged J S r)) (answers J S rs) (All-head (λ (q : Rule). EachListed P (listed (judged J S q))) r rs h)
      (each-answer J S rs (All-tail (λ (q : Rule). EachListed P (listed (judged J S q))) r rs h))

  -- of rules, each of which is one that gives such candidates
  each-rule : (J : Judge) (S : State) (rs : List Rule) → ((r : Rule) → Contains rs r → EachListed P (listed (judged J S r))) → EachListed P (answers J S rs)
  each-rule J S rs h = each-answer J S rs (All-weaker (Contains rs) (λ (r : Rule). EachListed P (listed (judged J S r))) h rs (All-contains_itself rs))

  -- what goes on from a list
  each-following : {R : List Candidate → Listed → Type 0} {a l : Listed} → EachListed P a → ((xs : List Candidate) → EachListed P (Lists xs) → R xs l → EachListed P l) → GoesOn R a l → EachListed P l
  each-following h next stops = tt
  each-following h next (lists {xs = xs} r) = next xs h r

-- What holds of all rules of some lists.
each-of-all : {A : Type 0} (Q : Rule → Type 0) (f : A → List Rule) (xs : List A) → ((x : A) → All Q (f x)) → All Q (flat_map f xs)
each-of-all Q f [] h = All-nil Q
each-of-all Q f (x ∷ xs) h = All-append Q (f x) (flat_map f xs) (h x) (each-of-all Q f xs h)

each-mapped : {A : Type 0} (Q : Rule → Type 0) (f : A → Rule) (xs : List A) → ((x : A) → Q (f x)) → All Q (map f xs)
each-mapped Q f [] h = All-nil Q
each-mapped Q f (x ∷ xs) h = All-cons Q (f x) (map f xs) (h x) (each-mapped Q f xs h)

-- a rule of a list that is made of others
module _ {A : Type 0} (f : A → Rule) (P : Rule → Type 0) where
  each-made : (xs : List A) → ((x : A) → Contains xs x → P (f x)) → (r : Rule) → Contains (map f xs) r → P r
  each-made xs h r there = All-contains P (map f xs) r (All-map P f xs (All-weaker (Contains xs) (λ (x : A). P (f x)) h xs (All-contains_itself xs))) there

-- a projection has bounds
pub projection-has : (h : Head) → is_projection h ≡ true → has_bounds h ≡ true
projection-has h e = ap (λ b. b || is_opaque h) e

module _ {G : Type 0} (K : KindRules G) (B : KindBounds G) (J : Judge) (law : Lawful J) (c : Context) (S : State) (g : G) where
  abbrev Proved : Candidate → Type 0
  Proved x = x.result.certainty ≡ Yes → IsProvedBy K B J c S g (AnswersGranted J) x

  rule-proves : (r : Rule) (T : State) → IsRuleOf K B J c S g r T → EachListed Proved (listed (judged J T r))
  rule-proves r T is = at (judged J T r) refl
    where
      at : (j : Judged) → judged J T r ≡ j → EachListed Proved (listed j)
      at (Gives x) e = All-cons Proved x [] (λ sure. by_rule is (rule-grants J law T r x e sure)) (All-nil Proved)
      at Refused e = All-nil Proved
      at (Stopped s) e = tt

  -- A rule that asks for less is never sure.
  weak-rule : (T : State) (r : Rule) (s : CandidateSource) (d : Certainty) → r.ending ≡ ask s d → (d ≡ Yes → ⊥) → EachListed Proved (listed (judged J T r))
  weak-rule T r s d is weak = at (judged J T r) refl
    where
      at : (j : Judged) → judged J T r ≡ j → EachListed Proved (listed j)
      at (Gives x) e = All-cons Proved x [] (λ sure. absurd (weak (ask-sure J law T r x s d is e sure))) (All-nil Proved)
      at Refused e = All-nil Proved
      at (Stopped t) e = tt

  where-proves : EachListed Proved (answers J S (where_rules K c g))
  where-proves = each-rule Proved J S (where_rules K c g) (each-made (where_rule K c g) (λ r. EachListed Proved (listed (judged J S r))) (each_of (K.env_of g)) (λ t there. rule-proves (where_rule K c g t) S (by_clause t there)))

  impls-prove : EachListed Proved (answers J S (impl_rules K c S.mode g))
  impls-prove =
      let ns = non_default_impls c (relevant_impls c (trait_of K c g) (self_type K c g)) in
      each-rule Proved J S (impl_rules K c S.mode g) (each-made (impl_rule K c S.mode g) (λ r. EachListed Proved (listed (judged J S r))) ns (λ n there. rule-proves (impl_rule K c S.mode g n) S (by_impl n there)))

  named-proves : (o : Option BuiltinRule) → rule_name K c g ≡ o → EachListed Proved (answers J S (named_rules K c g o))
  named-proves None e = All-nil Proved
  named-proves (Some n) e = each-answer Proved J S (K.builtin_rule n c g ∷ []) (All-cons (λ (r : Rule). EachListed Proved (listed (judged J S r))) (K.builtin_rule n c g) [] (rule-proves (K.builtin_rule n c g) S (by_language n e)) (All-nil (λ (r : Rule). EachListed Proved (listed (judged J S r)))))

  -- bounds of aliases

  link-proves : (b : AliasBoundKind) (T : State) (t : Tree) → IsOnChain K B J c S g b T t → has_bounds t.head ≡ true → EachListed Proved (answers_at J (link_rules K B.additional c g (link b T t)))
  link-proves b T t on has = each-rule Proved J T (link_rules K B.additional c g (link b T t)).rules (λ r there. rule-proves r T (by_bound b t on has there))

  end-proves : (end : ChainEnd) → EachListed Proved (end_answers K J g end)
  end-proves Done = All-nil Proved
  end-proves Misplaced = All-nil Proved
  end-proves TooLong = tt
  end-proves (AtVariable T) = each-answer Proved J T (variable_rule K g ∷ []) (All-cons (λ (r : Rule). EachListed Proved (listed (judged J T r))) (variable_rule K g) [] (weak-rule T (variable_rule K g) _ AMBIGUOUS refl no-more) (All-nil (λ (r : Rule). EachListed Proved (listed (judged J T r)))))

  opaque-has : (h : Head) → is_opaque h ≡ true → has_bounds h ≡ true
  opaque-has h e = at (is_projection h) e
    where
      at : (b : Bool) → is_opaque h ≡ true → (b || is_opaque h) ≡ true
      at true f = refl
      at false f = f

  links-prove : {n : ℕ} {b : AliasBoundKind} {T : State} {t : Tree} {ch : Chain} → IsOnChain K B J c S g b T t → IsChain J (K.env_of g) n b T t ch
      → EachListed Proved (all_answers J (map (link_rules K B.additional c g) ch.links))
  links-prove on (no_alias e) = All-nil Proved
  links-prove on (one_too_many e) = All-nil Proved
  links-prove {b = b} {T = T} {t = t} on (at_opaque e) =
      each-together Proved (answers_at J (link_rules K B.additional c g (link b T t))) (Lists []) (link-proves b T t on (opaque-has t.head e)) (All-nil Proved)
  links-prove {b = b} {T = T} {t = t} on (no_normal_form U e a no-form) =
      each-together Proved (answers_at J (link_rules K B.additional c g (link b T t))) (Lists []) (link-proves b T t on (projection-has t.head e)) (All-nil Proved)
  links-prove {b = b} {T = T} {t = t} on (at_projection {U = V} {u = u} {rest = rest} U e a is more) =
      each-together Proved (answers_at J (link_rules K B.additional c g (link b T t))) (all_answers J (map (link_rules K B.additional c g) rest.links)) (link-proves b T t on (projection-has t.head e))
      (links-prove (further b T U t on e a is) more)

  aliases-prove : (l : Listed) → ChainComes K B.additional J c g S l → EachListed Proved l
  aliases-prove l k =
      let ch = k.aliases in
      subst (EachListed Proved) (sym k.is)
      (each-together Proved (all_answers J (map (link_rules K B.additional c g) ch.links)) (end_answers K J g ch.end) (links-prove (first k.alike) k.is_chain) (end-proves ch.end))

  -- an object's own clauses

  object-proves : (supers : List Tree) (o : OwnClause) (j : Judged) → has_own_clauses c (K.reference_of c g).trait (self_type K c g) ≡ true → ArePrincipalSupers c (self_type K c g) supers
      → Contains (own_clauses (self_type K c g) supers) o → ObjectJudged K J c S g o j → EachListed Proved (listed j)
  object-proves supers o j has are there (rejected e) = All-nil Proved
  object-proves supers o j has are there (unmatched T a p e) = none-given Proved j (subst EndsWithout e (run_ends J (K.env_of g) (start T) (K.match_steps g o.clause)))
  object-proves supers o j has are there (required T U p goals a passed e k) = at (J.responded (nested_goals U goals) Yes) refl
    where
      at : (r : Option Response) → J.responded (nested_goals U goals) Yes ≡ r → EachListed Proved (listed (answered o.source r))
      at None is = All-nil Proved
      at (Some r) is = All-cons Proved (record { source = o.source; result = r }) [] (λ sure. by_object (record {
        supers = supers;
        own = o;
        has_own = has;
        are_supers = are;
        is_own = there;
        source = refl;
        before = T;
        alike = a;
        passed = passed;
        place = p;
        matched = e;
        goals = goals;
        last = U;
        are_asked = k;
        granted = record { responded = is; granted = λ L sound fits of_state. law.responses.yes_is_granted (nested_goals U goals) L Yes r sound fits of_state is sure };
      })) (All-nil Proved)
  object-proves supers o j has are there (unknown T U p a passed e k) = at (J.responded U AMBIGUOUS) refl
    where
      at : (r : Option Response) → J.responded U AMBIGUOUS ≡ r → EachListed Proved (listed (answered o.source r))
      at None is = All-nil Proved
      at (Some r) is = All-cons Proved (record { source = o.source; result = r }) [] (λ sure. absurd (no-more (law.responses.yes_was_asked U AMBIGUOUS r is sure))) (All-nil Proved)

  objects-prove : (supers : List Tree) (os : List OwnClause) (l : Listed) → has_own_clauses c (K.reference_of c g).trait (self_type K c g) ≡ true → ArePrincipalSupers c (self_type K c g) supers
      → All (Contains (own_clauses (self_type K c g) supers)) os → ObjectsAnswer K J c S g os l → EachListed Proved l
  objects-prove supers [] l has are there none_left = All-nil Proved
  objects-prove supers (o ∷ os) l has are there (one {j = j} {l = rest} here more) =
      each-together Proved (listed j) rest (object-proves supers o j has are (All-head (Contains (own_clauses (self_type K c g) supers)) o os there) here)
      (objects-prove supers os rest has are (All-tail (Contains (own_clauses (self_type K c g) supers)) o os there) more)
  objects-prove supers (o ∷ os) l has are there (object_stopped here) = tt

  object-list-proves : (l : Listed) → ObjectList K J c S g l → EachListed Proved l
  object-list-proves l (nothing e) = All-nil Proved
  object-list-proves l (answer supers has are a) = objects-prove supers (own_clauses (self_type K c g) supers) l has are (All-contains_itself (own_clauses (self_type K c g) supers)) a

  -- unsizing

  unsizing-proves : (l : Listed) → IfUnsizing K B c J S g l → EachListed Proved l
  unsizing-proves l (not_asked e) = All-nil Proved
  unsizing-proves l (was_asked e (no_target t)) = All-nil Proved
  unsizing-proves l (was_asked e (none_unsized T t a n)) = All-nil Proved
  unsizing-proves l (was_asked e (by_rules {t = t} {u = u} {U = U} T supers target a n are fit)) =
      each-rule Proved J U (B.unsizing_rules c supers g u) (λ r there. rule-proves r U (by_unsizing t u T supers e target a n are fit there))

  -- All that is known, one part after the other.

  impls-added : (xs : List Candidate) (l : Listed) → All Proved xs → ThenImplsAndObjects K B c J S g xs l → EachListed Proved l
  impls-added xs l h (left_out e) = h
  impls-added xs l h (impls_stopped e s) = tt
  impls-added xs l h (followed {l = os} e o) =
      each-together Proved (Lists xs) (together (answers J S (impl_rules K c S.mode g)) os) h
      (each-together Proved (answers J S (impl_rules K c S.mode g)) os impls-prove (object-list-proves os o))

  unsizing-added : (xs : List Candidate) (l : Listed) → All Proved xs → ThenUnsizing K B c J S g xs l → EachListed Proved l
  unsizing-added xs l h w =
      each-following Proved (each-together Proved (Lists xs) w.unsized h (unsizing-proves w.unsized w.by_unsizing)) (λ ys k r. impls-added ys l k r) w.further

  more-added : (xs : List Candidate) (from : AssembleCandidatesFrom) (l : Listed) → All Proved xs → AfterWhereBounds K B c J S g xs from l → EachListed Proved l
  more-added xs FromAll l h (everything w) =
      each-following Proved (each-together Proved (Lists xs) (answers J S (language_rules K c g)) h (named-proves (rule_name K c g) refl)) (λ ys k r. unsizing-added ys l k r) w
  more-added xs EnvAndBounds l h (by_clauses e) = h
  more-added xs EnvAndBounds l h (by_objects {l = os} e o) = each-together Proved (Lists xs) os h (object-list-proves os o)

  known-proves : (from : AssembleCandidatesFrom) (l : Listed) → AllKnown K B c J S g from l → EachListed Proved l
  known-proves from l k =
      each-following Proved
      (each-together Proved k.by_aliases (answers J S (where_rules K c g)) (aliases-prove k.by_aliases k.chain) where-proves)
      (λ xs h r. more-added xs from l h r) k.further

  -- What other crates may write says nothing sure.
  unknowable-proves : (e : Env) (r : Reference) (j : Judged) → UnknowableJudged J c S e r j → EachListed Proved (listed j)
  unknowable-proves e r j (known is) = none-given Proved j (subst EndsWithout is (run_ends J e (start S) (unknowable r ∷ [])))
  unknowable-proves e r j (may_be_written implied is) = weak-rule S (unknowable_rule e r implied) _ AMBIGUOUS refl no-more

  assembled-proves : (from : AssembleCandidatesFrom) (l : Listed) → Assembled K B c J S g from l → EachListed Proved l
  assembled-proves from l (outside e k) = known-proves from l k
  assembled-proves from l (alone {x = x} e u) = unknowable-proves (K.env_of g) (K.reference_of c g) (Gives x) u
  assembled-proves from l (unknowable_stops e u) = tt
  assembled-proves from l (knowable e u k) = known-proves from l k

-- Of the goal of a general variable no candidate is sure.

weaker : (c : Certainty) → certainty_and c AMBIGUOUS ≡ Yes → ⊥
weaker Yes e = absurd cc
weaker (Maybe a) e = absurd cc

module _ {G : Type 0} (K : KindRules G) (J : Judge) (law : Lawful J) (c : Context) (S : State) (g : G) (P : Candidate → Type 0) where
  abbrev Sure : Candidate → Type 0
  Sure x = x.result.certainty ≡ Yes → P x

  abbrev GivesUnsure : Rule → Type 0
  GivesUnsure r = EachListed Sure (listed (judged J S r))

  unsure-rule : (r : Rule) (s : CandidateSource) (d : Certainty) → r.ending ≡ ask s d → (d ≡ Yes → ⊥) → GivesUnsure r
  unsure-rule r s d is weak = at (judged J S r) refl
    where
      at : (j : Judged) → judged J S r ≡ j → EachListed Sure (listed j)
      at (Gives x) e = All-cons Sure x [] (λ sure. absurd (weak (ask-sure J law S r x s d is e sure))) (All-nil Sure)
      at Refused e = All-nil Sure
      at (Stopped t) e = tt

  one-unsure : (r : Rule) (s : CandidateSource) (d : Certainty) → r.ending ≡ ask s d → (d ≡ Yes → ⊥) → EachListed Sure (answers J S (r ∷ []))
  one-unsure r s d is weak = each-answer Sure J S (r ∷ []) (All-cons GivesUnsure r [] (unsure-rule r s d is weak) (All-nil GivesUnsure))

  open-unsure : (from : AssembleCandidatesFrom) → All GivesUnsure (open_impl_rules K J c S.mode g from)
  open-unsure EnvAndBounds = All-nil GivesUnsure
  open-unsure FromAll =
      each-mapped GivesUnsure (open_rule_of K c S.mode g) (non_default_impls c (blanket_impls c (K.reference_of c g).trait))
      (λ n. unsure-rule (open_rule_of K c S.mode g n) _ (certainty_and (K.impl_part c S.mode g n).certainty AMBIGUOUS) refl (weaker (K.impl_part c S.mode g n).certainty))

  said-unsure : (t : Tree) → All GivesUnsure (opaque_rules K c g t)
  said-unsure t = each-mapped GivesUnsure (ambiguous_rule K c g) (bounds_said c (self_type K c g) t) (λ x. unsure-rule (ambiguous_rule K c g x) _ AMBIGUOUS refl no-more)

  rigid-unsure : (l : Listed) → EachListed Sure l → EachListed Sure (after_list l (or_rigid K J c S g))
  rigid-unsure (Listing.Stops s) h = tt
  rigid-unsure (Lists []) h =
      one-unsure (asking_rule (K.env_of g) true (Maybe (record { cause = Ambiguity; opaque_types_jank = ErrorIfRigidSelfTy }))) _ (Maybe (record { cause = Ambiguity; opaque_types_jank = ErrorIfRigidSelfTy })) refl (λ e. absurd cc)
  rigid-unsure (Lists (x ∷ xs)) h = h

  opaques-unsure : (from : AssembleCandidatesFrom) (ts : List Tree) → EachListed Sure (by_opaques K J c S g from ts)
  opaques-unsure from [] = one-unsure (asking_rule (K.env_of g) true AMBIGUOUS) _ AMBIGUOUS refl no-more
  opaques-unsure from (t ∷ ts) =
      let said = flat_map (opaque_rules K c g) (t ∷ ts) in
      let open_ones = open_impl_rules K J c S.mode g from in
      rigid-unsure (answers J S (said ++ open_ones))
      (each-answer Sure J S (said ++ open_ones) (All-append GivesUnsure said open_ones (each-of-all GivesUnsure (opaque_rules K c g) (t ∷ ts) said-unsure) (open-unsure from)))

-- The whole list.

module _ {G : Type 0} (K : KindRules G) (B : KindBounds G) (J : Judge) (law : Lawful J) (c : Context) where
  -- A sure candidate of the list is that of one rule.
  abbrev IsProvedOf : State → G → Candidate → Type 0
  IsProvedOf S g x = IsProvedWith (AnswersGranted J) K B J c S g x.result

  normal-proves : (S T : State) (g : G) (t : Tree) (from : AssembleCandidatesFrom) (l : Listed) → J.normalized S (K.env_of g) (self_type K c g) ≡ Some (t, T) → OfNormalSelfType K B c J T g t from l
      → EachListed (λ x. x.result.certainty ≡ Yes → IsProvedOf S g x) l
  normal-proves S T g t from l is (variable e) =
      opaques-unsure K J law c T (K.with_self_type g t) (IsProvedOf S g) from (hidden_behind J T (self_type K c (K.with_self_type g t)) T.mode)
  normal-proves S T g t from l is (others e a) = each-listed l (assembled-proves K B J law c T (resolved_goal K B c T (K.with_self_type g t)) from l a)
    where
      each-listed : (m : Listed) → EachListed (λ x. x.result.certainty ≡ Yes → IsProvedBy K B J c T (resolved_goal K B c T (K.with_self_type g t)) (AnswersGranted J) x) m
          → EachListed (λ x. x.result.certainty ≡ Yes → IsProvedOf S g x) m
      each-listed (Listing.Stops s) h = tt
      each-listed (Lists xs) h =
          All-weaker (λ x. x.result.certainty ≡ Yes → IsProvedBy K B J c T (resolved_goal K B c T (K.with_self_type g t)) (AnswersGranted J) x) (λ x. x.result.certainty ≡ Yes → IsProvedOf S g x)
          (λ x k sure. record { normal = t; at = T; is_normal = is; is_known = e; candidate = x; proved_by = k sure; response = refl }) xs h

  pub list-proves : (S T : State) (g : G) (from : AssembleCandidatesFrom) (l : Listed) → IsAssembled K B c J S g from l T → EachListed (λ x. x.result.certainty ≡ Yes → IsProvedOf S g x) l
  list-proves S T g from l (none_normal e) = All-nil (λ (x : Candidate). x.result.certainty ≡ Yes → IsProvedOf S g x)
  list-proves S T g from l (normal {t = t} e f) = normal-proves S T g t from l e f

-- What a sure answer of a goal of a trait rests on, by the law of responses alone: all is granted where the values make sense of the state at
-- which the rule asks.
abbrev pub IsProvedThere : Judge → Context → State → TraitGoal → Response → Type 0
IsProvedThere J c S g r = IsProvedWith (AnswersGranted J) trait_rules trait_bounds J c S g r

-- A sure answer is that of one rule.
pub yes-is-proved : (J : Judge) → Lawful J → (c : Context) (S : State) (g : TraitGoal) (U : State) (r : Response) (v : Option TraitGoalProvenVia) → IsTraitAnswer J c S g U (Answered (r, v)) → r.certainty ≡ Yes
    → IsProvedThere J c S g r
yes-is-proved J law c S g U r v a sure =
    of-list a.listed (yes_by_one J law c S g U r v a sure) (list-proves trait_rules trait_bounds J law c S a.list.left g FromAll a.listed a.list.assembled)
  where
    of-list : (l : Listed) → ListsOne l r → EachListed (λ x. x.result.certainty ≡ Yes → IsProvedThere J c S g x.result) l → IsProvedThere J c S g r
    of-list (Listing.Stops s) found h = absurd found
    of-list (Lists xs) found h =
        subst (IsProvedThere J c S g) found.response
        (All-contains (λ (x : Candidate). x.result.certainty ≡ Yes → IsProvedThere J c S g x.result) xs found.candidate h found.listed
        (ap (λ (q : Response). q.certainty) found.response ∙ sure))

-- What the call answers says so.
module _ {E X : Type 0} {fixed : E → X} {judge : X → Judge} {state : E → State} {probes : E → List State} {context : E → Context} {stops : Account E} where
  pub computes-proved : ((f : X) → Lawful (judge f)) → (old new : E) (g : TraitGoal) (r : Result (CanonicalResponse × Option TraitGoalProvenVia) NoSolutionOrStop)
      → Computes fixed judge state probes context stops old new g r → IfOk r (λ a. a.0.certainty ≡ Yes → IsProvedThere (judge (fixed old)) (context old) (state old) g (response_of (context new).trees a.0))
  computes-proved law old new g r h =
      so-ok r (λ a t sure. yes-is-proved (judge (fixed old)) (law (fixed old)) (context old) (state old) g (state new) (response_of (context new).trees a.0) a.1 t sure) h.ok
