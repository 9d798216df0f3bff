-- What a refusal in coherence says of declared impls: the list is empty, so the rule of each was refused; and where the impl overlaps the
-- goal, its equation has a solution, so it was accepted.
use Rattle.std.proofs.Common.{◌≡◌, ◌++◌, ◌+◌, ◌&&◌, ℕ, Bool, true, false, not, Option, Some, None, List, [], ◌∷◌, map, Result, refl, sym, ap, subst, ◌∙◌, append_assoc}
use Rattle.std.specs.Prelude.{All, IfSome, if◌then◌else◌}
use Rattle.std.specs.List.{Contains, filter}
use Rattle.std.specs.Option.{unwrap_or}
use Rattle.std.proofs.lemmas.List.{append-nil}
use Rattle.std.proofs.lemmas.List.Elements.{All-cons, All-contains, All-head, All-nil, All-tail}
use Rattle.ir_trees.specs.declared.decl.contents.ImplId.{ImplId}
use Rattle.ir_trees.specs.declared.ir.heads.Head.{Head}
use Rattle.ir_trees.specs.declared.ir.heads.Head.TheVariants as H
use Rattle.ir_trees.specs.declared.ir.heads.ConstHead.TheVariants as C
use Rattle.ir_trees.specs.declared.ir.kinds.Clause.{Clause}
use Rattle.ir_trees.specs.declared.ir.kinds.GoalSource.{GoalSource}
use Rattle.ir_trees.specs.declared.ir.kinds.GoalSource.TheVariants.{ImplWhereBound, Misc}
use Rattle.ir_trees.specs.declared.ir.kinds.ParamEnv.{ParamEnv}
use Rattle.ir_trees.specs.declared.ir.kinds.TraitPredicate.{TraitPredicate}
use Rattle.ir_trees.specs.declared.ir.unify.RightSide.TheVariants as R
use Rattle.ir_trees.specs.Declarations.Context.{Context, world}
use Rattle.ir_trees.specs.Declarations.Contents.{Impl}
use Rattle.ir_trees.specs.Instantiation.Folding.{put, substituted, substituted_tree}
use Rattle.ir_trees.specs.Unification.Impls.{first_type, impls_of, is_relevant, may_be_for, listed_type, relevant_impls, self_type as impl_type}
use Rattle.ir_trees.specs.Declarations.Lookups.{maybe}
use Rattle.ir_trees.specs.Unification.Substitutions.{Overlap, Universes, is_made}
use Rattle.ir_trees.specs.Syntax.Trees.{Forest, Kind, TypeKind, none, tree, Tree, binders_of, erase, holds, is_alias, is_param, is_type, is_type_kind, kind_of}
use Rattle.ir_trees.specs.Unification.Unify.{IsFilled, may_unify, stands_for_any, stands_for_any_on_right, trees_may_unify}
use Rattle.ir_trees.specs.Validity.WellFormed.{ImplIsGiven, IsWellFormedTable}
use Rattle.ir_trees.specs.Syntax.Words.{clause_tree}
use Rattle.ir_trees.specs.Declarations.Worlds.{IsOf, Reference, joined, kinds_of, parameters, TraitSort}
use Rattle.ir_trees.proofs.Instantiation.Folding.{substituted-nothing}
use Rattle.ir_context.proofs.Validity.Given.{impl_given}
use Rattle.ir_context.proofs.Validity.ListedImpls.{impl_is_listed}
use Rattle.ir_trees.proofs.Unification.MayUnify.{list_rejected}
use Rattle.ir_trees.proofs.Kinding.References.{is-reference}
use Rattle.candidate_eval.specs.declared.eval.certainty.Certainty.{Certainty}
use Rattle.candidate_eval.specs.declared.eval.refusal.NoSolutionOrStop.{NoSolutionOrStop}
use Rattle.candidate_eval.specs.declared.eval.response.CanonicalResponse.{CanonicalResponse}
use Rattle.candidate_eval.specs.declared.eval.source.CandidateSource.TheVariants as Source
use Rattle.candidate_eval.specs.Interface.Accounts.{Account}
use Rattle.candidate_eval.specs.Derivations.ImplRules.{TraitGoal, impl_certainty, impl_steps, or_yes}
use Rattle.candidate_eval.specs.Derivations.Judging.{Gives, Judged, Place, Stopped, Refused, comes_to, concluded, continued, go_on, judged, reached, run, start, with_goals}
use Rattle.candidate_eval.specs.Judges.Lawful.{AreSides, Lawful, Solves}
use Rattle.candidate_eval.specs.Dynamic.ObjectRequirements.{first_tree}
use Rattle.candidate_eval.specs.Outcomes.Responses.{Candidate}
use Rattle.candidate_eval.specs.Derivations.Rules.{Ending, Rule, Step, add, ask, nested, nested_misc}
use Rattle.candidate_eval.specs.Judges.Soundness.{Live, universes}
use Rattle.candidate_eval.specs.Judges.States.{Env, Judge, Pending, State, fresh_variables, is_some, next, resolved, with_fresh_variables, with_pending}
use Rattle.candidate_assembly.specs.declared.assembly.opaques.AssembleCandidatesFrom.{AssembleCandidatesFrom}
use Rattle.candidate_assembly.specs.declared.assembly.opaques.AssembleCandidatesFrom.TheVariants.{All as FromAll}
use Rattle.candidate_assembly.specs.declared.assembly.merging.TraitGoalProvenVia.{TraitGoalProvenVia}
use Rattle.candidate_assembly.specs.Answers.Assembled.{Assembled, AfterWhereBounds, AllKnown, ThenImplsAndObjects, ThenUnsizing, alone, by_clauses, by_objects, everything, followed, impl_rule, impl_rules, is_coherence, knowable, leaves_out, left_out, outside, resolved_goal, stopped as impls_stopped, stops as unknowable_stops}
use Rattle.candidate_assembly.specs.Laws.BuiltinLaws.{nodes_fit}
use Rattle.candidate_assembly.specs.Answers.CoherentRefusals.{IsPlainGoal}
use Rattle.candidate_assembly.specs.Goals.KindBounds.{KindBounds}
use Rattle.candidate_assembly.specs.Goals.Kinds.{IsGoal, KindRules, rule_of_part}
use Rattle.candidate_assembly.specs.Answers.KnownImpls.{Concerns, HasLeafyValues, ImplWasRefused, KnownWereRefused, RefusesImpls, goals_at, header_at, header_of, impl_goals, kinds_of_impl}
use Rattle.candidate_assembly.specs.Answers.Listing.{GoesOn, Listed, Lists, answers, lists, listed, stops, together}
use Rattle.candidate_assembly.specs.Answers.Listing as Listing
use Rattle.candidate_assembly.specs.Rules.Opaques.{is_default_impl, non_default_impls}
use Rattle.candidate_assembly.specs.Goals.Standing.{GoalIsValid}
use Rattle.candidate_assembly.specs.Laws.SuperLaws.{arguments_fit}
use Rattle.candidate_assembly.specs.Answers.TraitAnswers.{Computes, IsTraitAnswer, Refused as Rejected, answer_of}
use Rattle.candidate_assembly.specs.Goals.TraitGoals.{arguments_held, impl_part, no_impl, trait_goal, types_held, with_self_type}
use Rattle.candidate_assembly.specs.Goals.TraitRules.{trait_bounds, trait_rules}
use Rattle.candidate_assembly.proofs.Calls.Causes.{so-err}
use Rattle.candidate_assembly.proofs.Refusals.CoherentRefusals.{list-empty, none-answered, normal-here, others-here, resolved-stays, same-arguments}
use Rattle.candidate_assembly.proofs.Refusals.KnownFresh.{fits-still, fresh-all, fresher, leaves-still, resolved-still, sound-still, trees-still, wider}
use Rattle.candidate_assembly.proofs.Refusals.KnownHeaders.{fits-leaves, header-bare, header-closed, header-known, header-leaves, header-new, header-no-alias, header-resolved, header-trees}
use Rattle.candidate_assembly.proofs.Refusals.KnownSolutions.{combined, combined-solves, new-apply, old-apply}
use Rattle.candidate_assembly.proofs.Refusals.PlainLeaves.{leafy}

-- Lists that are empty.

first-empty : (xs ys : List Candidate) → xs ++ ys ≡ [] → xs ≡ []
first-empty [] ys e = refl
first-empty (x ∷ xs) ys e = absurd cc

second-empty : (xs ys : List Candidate) → xs ++ ys ≡ [] → ys ≡ []
second-empty [] ys e = e
second-empty (x ∷ xs) ys e = absurd cc

both-empty : (a b : Listed) → together a b ≡ Lists [] → (a ≡ Lists []) × (b ≡ Lists [])
both-empty (Lists xs) (Lists ys) e =
    let whole : xs ++ ys ≡ [] = cc in
    (ap Lists (first-empty xs ys whole), ap Lists (second-empty xs ys whole))
both-empty (Lists xs) (Listing.Stops s) e = absurd cc
both-empty (Listing.Stops s) b e = absurd cc

none-listed : (j : Judged) → listed j ≡ Lists [] → j ≡ Refused
none-listed (Gives x) e = absurd cc
none-listed Refused e = refl
none-listed (Stopped s) e = absurd cc

each-refused : {A : Type 0} (J : Judge) (S : State) (f : A → Rule) (xs : List A) → answers J S (map f xs) ≡ Lists [] → All (λ x. judged J S (f x) ≡ Refused) xs
each-refused J S f [] e = All-nil (λ x. judged J S (f x) ≡ Refused)
each-refused J S f (x ∷ xs) e =
    let both = both-empty (listed (judged J S (f x))) (answers J S (map f xs)) e in
    All-cons (λ y. judged J S (f y) ≡ Refused) x xs (none-listed (judged J S (f x)) both.0) (each-refused J S f xs both.1)

-- what is said of all that pass a test, of one that passes it
all-filtered : {A : Type 0} (P : A → Type 0) (test : A → Bool) (xs : List A) → All P (filter test xs) → All (λ x. test x ≡ true → P x) xs
all-filtered P test [] h = All-nil (λ x. test x ≡ true → P x)
all-filtered P test (x ∷ xs) h = at (test x) refl h (all-filtered P test xs)
  where
    at : (b : Bool) → test x ≡ b → All P (if b then x ∷ filter test xs else filter test xs) → (All P (filter test xs) → All (λ y. test y ≡ true → P y) xs) → All (λ y. test y ≡ true → P y) (x ∷ xs)
    at true e h more = All-cons (λ y. test y ≡ true → P y) x xs (λ _. All-head P x (filter test xs) h) (more (All-tail P x (filter test xs) h))
    at false e h more = All-cons (λ y. test y ≡ true → P y) x xs (λ f. absurd cc) (more h)

-- Where the list of a goal is empty in coherence, no impl gave a candidate.
module _ {G : Type 0} (K : KindRules G) (B : KindBounds G) (J : Judge) (c : Context) (S : State) (g : G) (here : is_coherence S.mode ≡ true) where
  abbrev None-given : Type 0
  None-given = answers J S (impl_rules K c S.mode g) ≡ Lists []

  none-left-out : (xs : List Candidate) → leaves_out S.mode xs ≡ true → ⊥
  none-left-out xs e = absurd cc

  with-impls : (xs : List Candidate) (l : Listed) → ThenImplsAndObjects K B c J S g xs l → l ≡ Lists [] → None-given
  with-impls xs _ (left_out e) n = absurd (none-left-out xs e)
  with-impls xs _ (impls_stopped e s) n = absurd cc
  with-impls xs _ (followed {l} e o) n =
      (both-empty (answers J S (impl_rules K c S.mode g)) l (both-empty (Lists xs) (together (answers J S (impl_rules K c S.mode g)) l) n).1).0

  with-unsizing : (xs : List Candidate) (l : Listed) → ThenUnsizing K B c J S g xs l → l ≡ Lists [] → None-given
  with-unsizing xs l w n = at (together (Lists xs) w.unsized) l w.further n
    where
      at : (a l : Listed) → GoesOn (ThenImplsAndObjects K B c J S g) a l → l ≡ Lists [] → None-given
      at _ _ stops n = absurd cc
      at _ l (lists {xs} h) n = with-impls xs l h n

  further-on : (xs : List Candidate) (from : AssembleCandidatesFrom) (l : Listed) → AfterWhereBounds K B c J S g xs from l → from ≡ FromAll → l ≡ Lists [] → None-given
  further-on xs _ l (everything h) f n = at _ l h n
    where
      at : (a l : Listed) → GoesOn (ThenUnsizing K B c J S g) a l → l ≡ Lists [] → None-given
      at _ _ stops n = absurd cc
      at _ l (lists {xs} h) n = with-unsizing xs l h n
  further-on xs _ _ (by_clauses h) f n = absurd cc
  further-on xs _ _ (by_objects h o) f n = absurd cc

  known-on : (l : Listed) → AllKnown K B c J S g FromAll l → l ≡ Lists [] → None-given
  known-on l k n = at _ l k.further n
    where
      at : (a l : Listed) → GoesOn (λ xs. AfterWhereBounds K B c J S g xs FromAll) a l → l ≡ Lists [] → None-given
      at _ _ stops n = absurd cc
      at _ l (lists {xs} h) n = further-on xs FromAll l h refl n

  pub none-given : (l : Listed) → Assembled K B c J S g FromAll l → l ≡ Lists [] → None-given
  none-given l (outside e k) n = absurd cc
  none-given _ (alone e u) n = absurd cc
  none-given _ (unknowable_stops e u) n = absurd cc
  none-given l (knowable e u k) n = known-on l k n

-- A header that overlaps the goal passes quick rejection: it has a common instance with the goal, in which what is put for a parameter
-- stands in its place.

itself-fills : (mark : Head → Bool) (ts : Forest) → IsFilled mark ts ts
itself-fills mark none = tt
itself-fills mark (tree h below rest) = ((λ _. (refl, itself-fills mark below)), itself-fills mark rest)

none-put : (F : Forest) (d : ℕ) (h : Head) → stands_for_any_on_right R.Header h ≡ false → put F d h ≡ None
none-put F d (H.Param i) e = absurd cc
none-put F d (H.Const (C.Param i)) e = absurd cc
none-put F d _ e = refl

put-fills : (F : Forest) (d : ℕ) (ts : Forest) → IsFilled (stands_for_any_on_right R.Header) ts (substituted F d ts)
put-fills F d none = tt
put-fills F d (tree h below rest) =
    let under = put-fills F (d + binders_of h) below in
    ((λ m. at (put F d h) (none-put F d h m) under), put-fills F d rest)
  where
    at : (o : Option Tree) → o ≡ None → IsFilled (stands_for_any_on_right R.Header) below (substituted F (d + binders_of h) below)
        → let it = unwrap_or o (record { head = h; children = substituted F (d + binders_of h) below }) in (it.head ≡ h) × IsFilled (stands_for_any_on_right R.Header) below it.children
    at None e under = (refl, under)
    at (Some t) e under = absurd cc

passes-quickly : (u v : Universes) (a b : Reference) (F header : Forest) → b.arguments ≡ substituted F 0 header → Overlap u v a b → may_unify R.Header a.arguments header ≡ true
passes-quickly u v a b F header e o = at (may_unify R.Header a.arguments header) refl
  where
    at : (x : Bool) → may_unify R.Header a.arguments header ≡ x → may_unify R.Header a.arguments header ≡ true
    at true f = f
    at false f =
        absurd ((list_rejected R.Header a.arguments header (may_unify R.Header a.arguments header) refl f).apart u v (record {
          first = a.arguments;
          second = b.arguments;
          first_is = itself-fills stands_for_any a.arguments;
          second_is = subst (IsFilled (stands_for_any_on_right R.Header) header) (sym e) (put-fills F 0 header);
          first_values = o.left;
          second_values = o.right;
          first_allowed = o.left_allowed;
          second_allowed = o.right_allowed;
          common = o.common;
        }))

-- so does its self type
type-first : (o : Option (List Kind)) (g : Head) (below rest : Forest) → joined (Some (TypeKind ∷ [])) o ≡ Some (kinds_of (tree g below rest)) → is_type g ≡ true
type-first None g below rest e = absurd cc
type-first (Some ks) g below rest e = let same : TypeKind ≡ kind_of g = cc in ap is_type_kind (sym same)

and-left : (a b : Bool) → (a && b) ≡ true → a ≡ true
and-left true b e = refl
and-left false b e = absurd cc

none-kinds : (o : Option (List Kind)) → joined (Some (TypeKind ∷ [])) o ≡ Some (kinds_of none) → ⊥
none-kinds None e = absurd cc
none-kinds (Some ks) e = absurd cc

may-be-for : (o : Option (List Kind)) (args header : Forest) → joined (Some (TypeKind ∷ [])) o ≡ Some (kinds_of header) → may_unify R.Header args header ≡ true → may_be_for (first_tree args) (first_type header) ≡ true
may-be-for o args none k e = absurd (none-kinds o k)
may-be-for o none (tree g b s) k e = absurd cc
may-be-for o (tree h a r) (tree g b s) k e =
    ap (λ x. may_be_for (record { head = h; children = a }) (if x then Some (record { head = g; children = b }) else None)) (type-first o g b s k)
    ∙ and-left (trees_may_unify R.Header (record { head = h; children = a }) (record { head = g; children = b })) (may_unify R.Header r s) e

-- Clauses of an impl become pending, with the variables in the place of its parameters.
module _ (J : Judge) (e : Env) (c : Context) (S : State) (i : Impl) where
  abbrev F : Forest
  F = fresh_variables S (kinds_of_impl i)

  abbrev place : State → Place
  place U = record { state = U; locals = F }

  nested-run : (U : State) (source : GoalSource) (xs : List Clause) (rest : List Step)
      → run J e (place U) (map (add source) (map (clause_tree c.trees) xs) ++ rest) ≡ run J e (place (with_pending U (U.pending ++ goals_at c S e source i xs))) rest
  nested-run U source [] rest = ap (λ ps. run J e (place (with_pending U ps)) rest) (sym (append-nil U.pending))
  nested-run U source (x ∷ xs) rest =
      let p : Pending = record { source = source; goal = record { env = e; clause = substituted_tree F (clause_tree c.trees x) } } in
      nested-run (with_pending U (U.pending ++ p ∷ [])) source xs rest
      ∙ ap (λ ps. run J e (place (with_pending U ps)) rest) (append_assoc U.pending (p ∷ []) (goals_at c S e source i xs))

  abbrev conditions : List Step
  conditions = nested (map (clause_tree c.trees) i.wheres) ++ nested_misc (map (clause_tree c.trees) i.super_outlives)

  conditions-run : (U : State) → run J e (place U) conditions ≡ run J e (place (with_pending U (U.pending ++ impl_goals c S e i))) []
  conditions-run U =
      nested-run U ImplWhereBound i.wheres (nested_misc (map (clause_tree c.trees) i.super_outlives))
      ∙ (ap (run J e (place (with_pending U (U.pending ++ goals_at c S e ImplWhereBound i i.wheres)))) (sym (append-nil (nested_misc (map (clause_tree c.trees) i.super_outlives))))
      ∙ (nested-run (with_pending U (U.pending ++ goals_at c S e ImplWhereBound i i.wheres)) Misc i.super_outlives []
      ∙ ap (λ ps. run J e (place (with_pending U ps)) []) (append_assoc U.pending (goals_at c S e ImplWhereBound i i.wheres) (goals_at c S e Misc i i.super_outlives))))

module _ (J : Judge) (law : Lawful J) (c : Context) (table : IsWellFormedTable c) (S : State) (g : TraitGoal) (plain : IsPlainGoal S g) (there : IsOf (world c) g.reference) (free : holds is_param g.reference.arguments ≡ false) where
  abbrev self : Tree
  self = first_tree g.reference.arguments

  abbrev env : Env
  env = resolved S g.env

  -- the goal as its rules see it
  abbrev seen : TraitGoal
  seen = record { env = env; reference = g.reference; polarity = g.polarity }

  -- The rules of impls were refused.

  none-served : (U : State) → IsTraitAnswer J c S g U Rejected → answers J S (impl_rules trait_rules c S.mode seen) ≡ Lists []
  none-served U a =
      let n = normal-here J law c S g plain there a.listed a.list.left a.list.assembled in
      let empty = list-empty J law c S g plain there a.listed (subst (λ (T : State). Rejected ≡ answer_of J c T g.reference.trait a.listed) n.0 a.answer) in
      let all =
      none-given trait_rules trait_bounds J c S (resolved_goal trait_rules trait_bounds c S (with_self_type g self)) (ap is_coherence plain.in_coherence) a.listed (others-here J law c S g plain there a.listed n.1 empty) empty in
      subst (λ ts. answers J S (impl_rules trait_rules c S.mode (record { env = env; reference = record { trait = g.reference.trait; arguments = ts }; polarity = g.polarity })) ≡ Lists []) (same-arguments J law c S g plain there) all

  module _ (n : ImplId) (i : Impl) (certainty : Certainty) (concerns : Concerns c S g n i certainty) where
    abbrev args : Forest
    args = g.reference.arguments

    abbrev ks : List Kind
    ks = kinds_of_impl i

    abbrev header : Forest
    header = header_of c i

    abbrev filled : Forest
    filled = substituted (fresh_variables S ks) 0 header

    abbrev before : State
    before = with_fresh_variables S ks

    abbrev end : Ending
    end = ask (Source.Impl n) certainty

    given : ImplIsGiven c i
    given = subst (λ (o : Option Impl). IfSome o (ImplIsGiven c)) concerns.is (impl_given c table n)

    -- it stands in the list of the goal's trait
    in-list : Contains (impls_of c g.reference.trait) n
    in-list = subst (λ (k : ℕ). Contains (impls_of c k) n) (sym concerns.overlap.same_trait) (impl_is_listed c table n i concerns.is)

    quickly : may_unify R.Header args header ≡ true
    quickly = passes-quickly (universes S) (λ v. S.newest_universe) g.reference (header_at c S i) (fresh_variables S ks) header refl concerns.overlap

    relevant : is_relevant c self n ≡ true
    relevant =
        ap (λ o. may_be_for self (impl_type c.trees o)) concerns.is
        ∙ (ap (λ k. may_be_for self (listed_type k header)) given.header.list ∙ may-be-for (parameters (world c) TraitSort i.trait_ref.def_id.0) args header given.header.fit quickly)

    proper : not (is_default_impl c n) ≡ true
    proper = ap (λ o. not (maybe false (λ (x : Impl). x.is_default) o)) concerns.is ∙ ap not concerns.not_default

    abbrev WasRefused : ImplId → Type 0
    WasRefused m = judged J S (impl_rule trait_rules c S.mode seen m) ≡ Refused

    rule-refused : answers J S (impl_rules trait_rules c S.mode seen) ≡ Lists [] → WasRefused n
    rule-refused e =
        let all = each-refused J S (impl_rule trait_rules c S.mode seen) (non_default_impls c (relevant_impls c g.reference.trait self)) e in
        let each = all-filtered WasRefused (λ m. not (is_default_impl c m)) (relevant_impls c g.reference.trait self) all in
        let those = all-filtered (λ m. not (is_default_impl c m) ≡ true → WasRefused m) (is_relevant c self) (impls_of c g.reference.trait) each in
        All-contains (λ m. is_relevant c self m ≡ true → not (is_default_impl c m) ≡ true → WasRefused m) (impls_of c g.reference.trait) n those in-list relevant proper

    -- So were its steps.

    steps-refused : WasRefused n → comes_to J env (start S) (impl_steps c.trees seen.reference.arguments i) end ≡ Refused
    steps-refused e =
        let P : Option Impl → Type 0 = λ o. judged J S (rule_of_part env (Source.Impl n) (maybe no_impl (impl_part c.trees S.mode seen) o)) ≡ Refused in
        let Q : Bool → Option Certainty → Type 0 = λ b o. (if b && is_some o then comes_to J env (start S) (impl_steps c.trees seen.reference.arguments i) (ask (Source.Impl n) (or_yes o)) else Refused) ≡ Refused in
        let first : Q (may_unify R.Header args header) (impl_certainty S.mode g.polarity i.polarity) = subst P concerns.is e in
        subst (Q true) concerns.serves (subst (λ b. Q b (impl_certainty S.mode g.polarity i.polarity)) quickly first)

    -- what comes after the equation
    abbrev after_equation : Option (List Pending × State) → Judged
    after_equation o =
        continued J end (go_on (reached Refused (next o (λ q. Some (with_goals (place J env c S i before) q)))) (λ q. run J env q (conditions J env c S i))) (λ q. concluded J env end q.state)

    equation-refused : comes_to J env (start S) (impl_steps c.trees seen.reference.arguments i) end ≡ Refused → after_equation (J.equated before env args filled) ≡ Refused
    equation-refused e = subst (λ ts. after_equation (J.equated before env ts filled) ≡ Refused) (substituted-nothing (fresh_variables S ks) 0 args free) e

    -- The equation has a solution.

    module _ (h : HasLeafyValues S g) where
      abbrev T : State
      T = fresher S ks

      abbrev M : Live
      M = wider S h.live

      bare : holds is_made header ≡ false
      bare = header-bare c table n i concerns.is

      sides : AreSides T M args filled
      sides = record {
        sound = sound-still S h.live ks h.sound;
        fits = fits-still S h.live ks h.fits;
        left = trees-still S h.live ks args h.trees;
        right = header-trees S h.live ks header bare (header-closed c table n i concerns.is given.header.list);
        left_has_no_alias = ap (holds is_alias) (resolved-stays T args (resolved-still S h.live ks args h.trees.known plain.is_resolved)) ∙ plain.no_alias;
        right_has_no_alias = ap (holds is_alias) (resolved-stays T filled (header-resolved S h.live ks header bare)) ∙ header-no-alias S h.live ks header bare concerns.no_alias;
        left_has_leaves = fits-leaves (world c) args there.fits;
        right_has_leaves = header-leaves S h.live ks header bare (fits-leaves (world c) header (arguments_fit c table i.trait_ref.args given.header.list));
        values_have_leaves = leaves-still S h.live ks h.leaves;
      }

      solves : (o : Overlap (universes S) (λ v. S.newest_universe) g.reference (header_at c S i)) → Solves T M args filled (combined S h.live ks h.sound o.left o.right o.left_allowed o.right_allowed)
      solves o = record {
        solution = combined-solves S h.live ks h.sound o.left o.right o.left_allowed o.right_allowed;
        equal =
            ap erase (old-apply S h.live ks h.sound o.left o.right o.left_allowed o.right_allowed args h.trees.known plain.is_resolved)
            ∙ (o.common ∙ sym (ap erase (new-apply S h.live ks h.sound o.left o.right o.left_allowed o.right_allowed filled (header-known S h.live ks header bare) (header-new S h.live ks header bare))));
      }

      not-refused : J.equated before env args filled ≡ None → ⊥
      not-refused e =
          let o = concerns.overlap in
          law.equations.refused_has_no_solution T M env args filled sides (subst (λ U. J.equated U env args filled ≡ None) (fresh-all S ks) e)
          (combined S h.live ks h.sound o.left o.right o.left_allowed o.right_allowed) (solves o)

      -- so it was accepted, and what was pending then was refused
      by-equation : (o : Option (List Pending × State)) → J.equated before env args filled ≡ o → after_equation o ≡ Refused → ImplWasRefused J c S g i certainty
      by-equation None e f = absurd (not-refused e)
      by-equation (Some q) e f =
          let kept = law.equations.equating_keeps_pending before q.1 env args filled q.0 e ∙ (ap (λ (U : State). U.pending) (fresh-all S ks) ∙ plain.nothing_pending) in
          let asks = ap (λ r. continued J end r (λ p. concluded J env end p.state)) (sym (conditions-run J env c S i (with_pending q.1 (q.1.pending ++ q.0)))) ∙ f in
          let refused = none-answered (Source.Impl n) (J.responded (with_pending q.1 ((q.1.pending ++ q.0) ++ impl_goals c S env i)) certainty) asks in
          record {
            after = q.1;
            left = q.0;
            accepted = e;
            refused = subst (λ (ps : List Pending). J.responded (with_pending q.1 ((ps ++ q.0) ++ impl_goals c S env i)) certainty ≡ None) kept refused;
          }

  pub known-refused : (U : State) → IsTraitAnswer J c S g U Rejected → HasLeafyValues S g → KnownWereRefused J c S g
  known-refused U a h n i certainty concerns =
      let steps = steps-refused n i certainty concerns (rule-refused n i certainty concerns (none-served U a)) in
      by-equation n i certainty concerns h (J.equated (with_fresh_variables S (kinds_of_impl i)) env g.reference.arguments (header_at c S i).arguments) refl (equation-refused n i certainty concerns steps)

-- So a call that computes what the goal comes to refuses it only where each was.
pub computes-known : {E X : Type 0} {fixed : E → X} {judge : X → Judge} {state : E → State} {probes : E → List State} {context : E → Context} {stops : Account E} → ((f : X) → Lawful (judge f)) → (old new : E) (e : ParamEnv) (p : TraitPredicate)
    (r : Result (CanonicalResponse × Option TraitGoalProvenVia) NoSolutionOrStop) → IsWellFormedTable (context old) → IsGoal trait_rules arguments_held types_held trait_goal (context old) e p
    → GoalIsValid trait_rules (state old) (trait_goal (context old).trees e p) → Computes fixed judge state probes context stops old new (trait_goal (context old).trees e p) r → RefusesImpls (judge (fixed old)) (context old) (state old) (trait_goal (context old).trees e p) r
computes-known {fixed = fixed} {judge = judge} {state = state} {context = context} law old new e p r table goal stands h =
    let c = context old in
    let there = is-reference c p.trait_ref (nodes_fit c table) goal.arguments goal.fit in
    so-err r (λ x answer n plain. known-refused (judge (fixed old)) (law (fixed old)) c table (state old) (trait_goal c.trees e p) plain there goal.no_parameter (state new) (answer n) (leafy (state old) (trait_goal c.trees e p) stands plain.is_resolved)) h.refused
