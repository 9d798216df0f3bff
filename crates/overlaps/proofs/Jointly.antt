-- Goals that can't hold together: more of them, of earlier evaluators, and by what a call leaves.
use Rattle.std.proofs.Common.{◌≡◌, ◌<◌, inl, inr, ℕ, zero, suc, arith, append_assoc, length, slice_index_or, List, [], ◌∷◌, ◌++◌, Bool, true, false, Option, Some, None, Result, Ok, Err, IfOk, map, refl, sym, ap, subst, ◌∙◌}
use Rattle.std.specs.List.{Contains}
use Rattle.std.proofs.lemmas.List.{get_or-map, map-append}
use Rattle.std.proofs.lemmas.List.Elements.{Contains-append_cases, Contains-append_left, Contains-append_right, Contains-get_or, Contains-push_cases}
use Rattle.ir_trees.specs.declared.ir.kinds.Clause.{Clause}
use Rattle.ir_trees.specs.declared.ir.kinds.ProjectionPredicate.{ProjectionPredicate}
use Rattle.ir_trees.specs.declared.ir.kinds.TraitId.{TraitId}
use Rattle.ir_trees.specs.declared.ir.kinds.TraitPredicate.{TraitPredicate}
use Rattle.ir_trees.specs.declared.ir.kinds.TyKind.{TyKind}
use Rattle.ir_trees.specs.declared.ir.stop.Stop.{Stop}
use Rattle.ir_trees.specs.Declarations.Context.{Context, Grows}
use Rattle.ir_trees.specs.Syntax.Trees.{Forest, Kind, Tree, none, skip, tree}
use Rattle.ir_trees.specs.Syntax.Words.{args_forest, clause_tree, env_forest, kind_tree, ty_tree}
use Rattle.ir_trees.specs.Unification.Substitutions.{alone}
use Rattle.ir_trees.proofs.Growth.Kept.{grows-refl, grows-trans}
use Rattle.candidate_eval.specs.Dynamic.ObjectRequirements.{arguments_of, trait_said}
use Rattle.candidate_eval.specs.Derivations.Characterization.{bound_kinds}
use Rattle.candidate_eval.specs.Interface.Evaluators.{accepted, pending_of, pendings_of, with_rigid}
use Rattle.candidate_eval.specs.Judges.States.{Env, Pending, State, added, with_pending}
use Rattle.candidate_eval.specs.declared.eval.certainty.Certainty.{Certainty}
use Rattle.candidate_rounds.specs.Evaluators.Interface.{Fixed, fixed, judge_of}
use Rattle.candidate_rounds.specs.Evaluators.Known.{Each, Evaluator, state}
use Rattle.candidate_rounds.specs.Table.Trying.{IsProjection, projection_of}
use Rattle.candidate_rounds.proofs.Obligations.Projecting.{alias-is, term-is}
use Rattle.candidate_rounds.proofs.Obligations.Gathering.{each-index}
use Rattle.candidate_rounds.proofs.Obligations.Evaluating.{goal-kept, goals-kept, pending-kept, pendings-kept}
use Rattle.candidate_rounds.proofs.Table.Running.{length-map}
use Rattle.candidate_rounds.proofs.Snapshots.Knowing.{each-append}
use Rattle.overlaps.proofs.Staying.{known-refl, known-then}
use Rattle.overlaps.proofs.Stopping.{later-known, later-then}
use Rattle.overlaps.specs.Apart.{aside}
use Rattle.overlaps.specs.Goals.{WasRefused}
use Rattle.overlaps.specs.PartTraits.{IsOfInstances, RestsOnPart, SpeaksOfNoPart, trait_spoken_of}
use Rattle.overlaps.specs.Refused.{ClauseWasRefused, RefusesInstances, StaysBesideKnown, goal_alone}
use Rattle.overlaps.specs.Stopping.{IsLater}
use Rattle.overlaps.specs.Together.{AreLeft, AreLeftOfAll, CannotHold, GoalIsRefused, IsNormalAt, IsNormalUnder, IsObligation, IsTried, Obligation, RefusesEntered, SaysOfProjection, StandsIn, below, beside, entered, entered_clause, for_placeholders, here, next_type, no_type, no_type_as_said, one_is_refused, one_is_settled, one_is_unsettled, one_with_values, other_type, pending_at, pendings_at, same_type, with_alone, with_clause, with_its_type, with_type, with_values}

-- each of the goals is among the others
abbrev pub Among : List Pending → List Pending → Type 0
Among ps qs = (x : Pending) → Contains ps x → Contains qs x

none-there : (x : Pending) → Contains [] x → ⊥
none-there x (k, l, e) = omega arith

pub among-after : (xs ps qs : List Pending) → Among ps qs → Among (xs ++ ps) (xs ++ qs)
among-after xs ps qs s x h =
    elim (Contains-append_cases xs ps x h) [ inl a ↦ Contains-append_left xs qs x a | inr b ↦ Contains-append_right xs qs x (s x b) ]

-- both rows are among these
pub among-both : (xs ps qs : List Pending) → Among xs qs → Among ps qs → Among (xs ++ ps) qs
among-both xs ps qs a b x h = elim (Contains-append_cases xs ps x h) [ inl c ↦ a x c | inr c ↦ b x c ]

pub among-left : (xs ys : List Pending) → Among xs (xs ++ ys)
among-left xs ys x h = Contains-append_left xs ys x h

pub among-right : (xs ys : List Pending) → Among ys (xs ++ ys)
among-right xs ys x h = Contains-append_right xs ys x h

pub among-one : (p : Pending) (qs : List Pending) → Contains qs p → Among (p ∷ []) qs
among-one p qs c x h = elim (Contains-push_cases [] p x h) [ inl a ↦ absurd (none-there x a) | inr e ↦ subst (Contains qs) e c ]

-- More goals can't, either.
pub with-more : {r : Evaluator} {S : State} {ps : List Pending} (qs : List Pending) → Among ps qs → CannotHold r S ps → CannotHold r S qs
with-more qs s (one_is_refused p c h) = one_is_refused p (s p c) h
with-more {S = S} {ps = ps} qs s (one_with_values p c h) =
    let v = with_values S p ∷ [] in
    one_with_values p (s p c) (with-more (v ++ qs) (among-after v ps qs s) h)
with-more {S = S} {ps = ps} qs s (for_placeholders p c h) =
    let v = with_clause p (entered_clause S p.goal.clause) ∷ [] in
    for_placeholders p (s p c) (with-more (v ++ qs) (among-after v ps qs s) h)
with-more qs s (one_is_unsettled p by c k l e) = one_is_unsettled p by (s p c) k l e
with-more {ps = ps} qs s (one_is_settled p by x T c k l e h) = one_is_settled p by x T (s p c) k l e (with-more (T.pending ++ qs) (among-after T.pending ps qs s) h)
with-more qs s (no_type p t c i n) = no_type p t (s p c) i n
with-more {S = S} {ps = ps} qs s (with_its_type p t T c i n h) =
    let v = with_type t (next_type S) p ∷ [] in
    with_its_type p t T (s p c) i n (with-more (T.pending ++ (v ++ qs)) (among-after T.pending (v ++ ps) (v ++ qs) (among-after v ps qs s)) h)
with-more qs s (no_type_as_said p t u c i n) = no_type_as_said p t u (s p c) i n
with-more qs s (other_type p t u T by c i n l e) = other_type p t u T by (s p c) i n l e
with-more {ps = ps} qs s (same_type p t u T U by c i n l e h) = same_type p t u T U by (s p c) i n l e (with-more (U.pending ++ qs) (among-after U.pending ps qs s) h)

-- What is said of a later evaluator is so of an earlier one.

pub normal-earlier : {r s : Evaluator} {S : State} {e : Env} {t : Tree} {o : Option State} → IsLater r s → IsNormalUnder s S e t o → IsNormalUnder r S e t o
normal-earlier l n = record {
  by = n.by;
  later = later-then l n.later;
  stands = n.stands;
  env = n.env;
  under = n.under;
  alias = n.alias;
  is = n.is;
  effort = n.effort;
  table = n.table;
  trees = n.trees;
  response = n.response;
  trait_holds = n.trait_holds;
  comes = n.comes;
  sure = n.sure;
  of_instances = n.of_instances;
  gives = n.gives;
}

refused-earlier : {r s : Evaluator} {S : State} {p : Pending} → IsLater r s → GoalIsRefused s S p → GoalIsRefused r S p
refused-earlier {r} {s} l h = record {
  no_env = h.no_env;
  by = h.by;
  later = later-then l h.later;
  context = h.context;
  grows = grows-trans r.context s.context h.context l.grows h.grows;
  refused = h.refused;
}

speaks-earlier : {r s : Evaluator} (t : Tree) → IsLater r s → SpeaksOfNoPart s.context t → SpeaksOfNoPart r.context t
speaks-earlier {r} {s} t l h = λ of is.
    let no = h of (ap (λ (c : Context). trait_spoken_of c t.head) l.grows.same ∙ is) in
    record { later = no.later; grows = grows-trans r.context s.context no.later l.grows no.grows; never = no.never }

pub cannot-earlier : {r s : Evaluator} → IsLater r s → {S : State} {ps : List Pending} → CannotHold s S ps → CannotHold r S ps
cannot-earlier l (one_is_refused p c h) = one_is_refused p c (refused-earlier l h)
cannot-earlier l (one_with_values p c h) = one_with_values p c (cannot-earlier l h)
cannot-earlier l (for_placeholders p c h) = for_placeholders p c (cannot-earlier l h)
cannot-earlier l (one_is_unsettled p by c i k e) = one_is_unsettled p by c (speaks-earlier p.goal.clause l i) (later-then l k) e
cannot-earlier l (one_is_settled p by x T c i k e h) = one_is_settled p by x T c (speaks-earlier p.goal.clause l i) (later-then l k) e (cannot-earlier l h)
cannot-earlier l (no_type p t c i n) = no_type p t c i (normal-earlier l n)
cannot-earlier l (with_its_type p t T c i n h) = with_its_type p t T c i (normal-earlier l n) (cannot-earlier l h)
cannot-earlier l (no_type_as_said p t u c i n) = no_type_as_said p t u c i (normal-earlier l n)
cannot-earlier l (other_type p t u T by c i n k e) = other_type p t u T by c i (normal-earlier l n) (later-then l k) e
cannot-earlier l (same_type p t u T U by c i n k e h) = same_type p t u T U by c i (normal-earlier l n) (later-then l k) e (cannot-earlier l h)

-- Goals by their numbers

pub pendings-more : (ts : List Tree) (xs ys : List Obligation) → pendings_of ts (xs ++ ys) ≡ pendings_of ts xs ++ pendings_of ts ys
pendings-more ts xs ys = map-append (λ (g : Obligation). pending_of ts g.0 g.1) xs ys

pub one-there : (old new : Evaluator) (g : Obligation) → IsLater old new → IsObligation old.context.trees g → pending_at new g ≡ pending_at old g
one-there old new g l i = pending-kept old.context new.context g.0 g.1 l.grows i

pub all-there : (old new : Evaluator) (gs : List Obligation) → IsLater old new → Each (IsObligation old.context.trees) gs → pendings_at new gs ≡ pendings_at old gs
all-there old new gs l i = pendings-kept old.context new.context gs l.grows i

pub obligations-there : (old new : Evaluator) (gs : List Obligation) → IsLater old new → Each (IsObligation old.context.trees) gs → Each (IsObligation new.context.trees) gs
obligations-there old new gs l i = goals-kept old.context new.context gs l.grows i

-- What is left, where a call added these goals and left that state, from which the goals at hand can't hold together if they can't with these.
pub left-by : (old new : Evaluator) (g : Obligation) (before after : List Obligation) (extra : List Pending) → IsLater old new → Each (IsObligation old.context.trees) before
    → Each (IsObligation new.context.trees) after → (state new).pending ≡ [] → pendings_at new after ≡ pendings_at new before ++ extra
    → ((ps : List Pending) → Contains ps (pending_at old g) → CannotHold old (state new) (extra ++ ps) → CannotHold old (state old) ps) → AreLeft old new g before after
left-by old new g before after extra l b fit quiet is rule = record {
  fit = fit;
  none_pending = quiet;
  follows = λ ps there h.
      let bs = pendings_at old before in
      let all : pendings_at new after ≡ bs ++ extra = is ∙ ap (λ (xs : List Pending). xs ++ extra) (all-there old new before l b) in
      let k : CannotHold old (state new) ((bs ++ extra) ++ ps) = cannot-earlier l (subst (λ (xs : List Pending). CannotHold new (state new) (xs ++ ps)) all h) in
      let into : Among ((bs ++ extra) ++ ps) (extra ++ (bs ++ ps))
      = among-both (bs ++ extra) ps (extra ++ (bs ++ ps))
      (among-both bs extra (extra ++ (bs ++ ps)) (λ x c. Contains-append_right extra (bs ++ ps) x (Contains-append_left bs ps x c)) (among-left extra (bs ++ ps)))
      (λ x c. Contains-append_right extra (bs ++ ps) x (Contains-append_right bs ps x c)) in
      rule (bs ++ ps) (Contains-append_right bs ps (pending_at old g) there) (with-more (extra ++ (bs ++ ps)) into k);
}

-- The goal is left as it is.
pub left-as-is : (old new : Evaluator) (g : Obligation) (before after : List Obligation) → IsLater old new → state new ≡ state old → (state old).pending ≡ [] → IsObligation old.context.trees g
    → Each (IsObligation old.context.trees) before → after ≡ before ++ g ∷ [] → AreLeft old new g before after
left-as-is old new g before after l same quiet i b is =
    let fit : Each (IsObligation new.context.trees) (before ++ g ∷ [])
    = each-append (IsObligation new.context.trees) before g (obligations-there old new before l b) (goal-kept old.context new.context g.1 l.grows i) in
    left-by old new g before after (pending_at old g ∷ []) l b (subst (Each (IsObligation new.context.trees)) (sym is) fit) (ap (λ (S : State). S.pending) same ∙ quiet)
    (ap (pendings_at new) is ∙ (pendings-more new.context.trees before (g ∷ []) ∙ ap (λ (p : Pending). pendings_at new before ++ p ∷ []) (one-there old new g l i)))
    (λ ps there h. with-more ps (among-both (pending_at old g ∷ []) ps ps (among-one (pending_at old g) ps there) (λ x c. c)) (subst (λ (S : State). CannotHold old S (pending_at old g ∷ ps)) same h))

-- The goal was put to what is left, and nothing else was done.
pub kept-tried : (old new : Evaluator) (g : Obligation) (before after : List Obligation) (r : Result Bool Stop) → IsLater old new → state new ≡ state old → (state old).pending ≡ []
    → IsObligation old.context.trees g → Each (IsObligation old.context.trees) before → IfOk r (λ b. b ≡ false) → IfOk r (λ _. after ≡ before ++ g ∷ []) → IfOk r (IsTried old new g before after)
kept-tried old new g before after (Ok true) l same quiet i b e is =
    let clash : true ≡ false = e in
    absurd cc
kept-tried old new g before after (Ok false) l same quiet i b e is = left-as-is old new g before after l same quiet i b is
kept-tried old new g before after (Err s) l same quiet i b e is = tt

-- It was tried by a call that began where the state was the same.
pub tried-later : (old mid new : Evaluator) (g : Obligation) (before after : List Obligation) (b : Bool) → IsLater old mid → state mid ≡ state old → IsObligation old.context.trees g
    → Each (IsObligation old.context.trees) before → IsTried mid new g before after b → IsTried old new g before after b
tried-later old mid new g before after true l same i b h =
    let p = one-there old mid g l i in
    λ ps there. subst (λ (S : State). CannotHold old S ps) same (cannot-earlier l (h ps (subst (Contains ps) (sym p) there)))
tried-later old mid new g before after false l same i b h =
    let p = one-there old mid g l i in
    let bs = all-there old mid before l b in
    record {
      fit = h.fit;
      none_pending = h.none_pending;
      follows = λ ps there k.
          subst (λ (q : State × List Pending). CannotHold old q.0 (q.1 ++ ps)) (λ n. (same n, bs n)) (cannot-earlier l (h.follows ps (subst (Contains ps) (sym p) there) k));
    }

-- It was tried with all values put in.
pub tried-with-values : (old mid new : Evaluator) (g h : Obligation) (before after : List Obligation) (b : Bool) → IsLater old mid → state mid ≡ state old
    → Each (IsObligation old.context.trees) before → pending_at mid h ≡ with_values (state old) (pending_at old g) → IsTried mid new h before after b → IsTried old new g before after b
tried-with-values old mid new g h before after true l same b is t =
    λ ps there.
    let p = with_values (state old) (pending_at old g) in
    let here = Contains-append_left (p ∷ []) ps p (0, omega arith, refl) in
    one_with_values (pending_at old g) there (subst (λ (S : State). CannotHold old S (p ∷ ps)) same (cannot-earlier l (t (p ∷ ps) (subst (Contains (p ∷ ps)) (sym is) here))))
tried-with-values old mid new g h before after false l same b is t = record {
  fit = t.fit;
  none_pending = t.none_pending;
  follows = λ ps there k.
      let p = with_values (state old) (pending_at old g) in
      let left = pendings_at new after in
      let bs = pendings_at old before in
      let here = Contains-append_left (p ∷ []) ps p (0, omega arith, refl) in
      let more = with-more (left ++ p ∷ ps) (among-after left ps (p ∷ ps) (among-right (p ∷ []) ps)) k in
      let at = subst (λ (q : State × List Pending). CannotHold old q.0 (q.1 ++ p ∷ ps)) (λ n. (same n, all-there old mid before l b n)) (cannot-earlier l (t.follows (p ∷ ps) (subst (Contains (p ∷ ps)) (sym is) here) more)) in
      let into : Among (bs ++ p ∷ ps) (p ∷ (bs ++ ps))
      = among-both bs (p ∷ ps) (p ∷ (bs ++ ps)) (λ x c. Contains-append_right (p ∷ []) (bs ++ ps) x (Contains-append_left bs ps x c))
      (among-after (p ∷ []) ps (bs ++ ps) (among-right bs ps)) in
      one_with_values (pending_at old g) (Contains-append_right bs ps (pending_at old g) there) (with-more (p ∷ (bs ++ ps)) into at);
}

-- A goal of a trait is refused.
pub refused-tried : (old mid new : Evaluator) (g : Obligation) (p : TraitPredicate) → IsLater old mid → state mid ≡ state old → IsLater mid new → env_forest old.context.trees g.1.param_env ≡ none
    → trait_said (clause_tree old.context.trees g.1.predicate).head ≡ Some (p.trait_ref.def_id, p.polarity)
    → arguments_of (clause_tree old.context.trees g.1.predicate) ≡ args_forest mid.context.trees p.trait_ref.args → RefusesInstances mid new p → (ps : List Pending) → Contains ps (pending_at old g)
    → CannotHold old (state old) ps
refused-tried old mid new g p l same k empty said fits h = λ ps there.
    one_is_refused (pending_at old g) there
    (record {
      no_env = empty;
      by = new;
      later = later-then l k;
      context = h.refuses.context;
      grows = grows-trans old.context mid.context h.refuses.context l.grows h.refuses.earlier;
      refused = record {
        goal = record { env = none; reference = record { trait = p.trait_ref.def_id.0; arguments = args_forest mid.context.trees p.trait_ref.args }; polarity = p.polarity };
        says = said;
        arguments = sym fits;
        no_environment = refl;
        refused = subst (λ (S : State). WasRefused (judge_of (fixed new)) h.refuses.context S (goal_alone mid.context.trees p)) same h.refuses.refused;
        of_instances = h.of_instances;
      };
    })

rigid-quiet : (S : State) (ks : List Kind) → (with_rigid S ks).pending ≡ S.pending
rigid-quiet S [] = refl
rigid-quiet S (k ∷ ks) = refl

-- What a goal says under its binder is refused for placeholders.
pub entered-tried : (old new : Evaluator) (g : Obligation) → IsLater old new → env_forest old.context.trees g.1.param_env ≡ none → RefusesEntered old new (clause_tree old.context.trees g.1.predicate)
    → (ps : List Pending) → Contains ps (pending_at old g) → CannotHold old (state old) ps
entered-tried old new g l empty h = λ ps there.
    let p = pending_at old g in
    let q = with_clause p (entered_clause (state old) p.goal.clause) in
    for_placeholders p there
    (one_is_refused q (Contains-append_left (q ∷ []) ps q (0, omega arith, refl))
    (record { no_env = empty; by = new; later = l; context = h.context; grows = h.earlier; refused = h.refused }))

-- Nothing is pending where a binder was entered and nothing was.
pub quiet-entered : (S T : State) (t : Tree) → T ≡ entered S t → S.pending ≡ [] → T.pending ≡ []
quiet-entered S T t is quiet = ap (λ (U : State). U.pending) is ∙ (rigid-quiet S (bound_kinds t.children) ∙ quiet)

-- A clause was refused once its binder was entered.
pub entered-refused : (old mid new : Evaluator) (t : Tree) (x : Clause) (p : TraitPredicate) → Grows old.context mid.context → state mid ≡ entered (state old) t
    → clause_tree mid.context.trees x ≡ entered_clause (state old) t → trait_said (clause_tree mid.context.trees x).head ≡ Some (p.trait_ref.def_id, p.polarity)
    → arguments_of (clause_tree mid.context.trees x) ≡ args_forest mid.context.trees p.trait_ref.args → RefusesInstances mid new p → RefusesEntered old new t
entered-refused old mid new t x p g stands is said fits h = record {
  context = h.refuses.context;
  earlier = grows-trans old.context mid.context h.refuses.context g h.refuses.earlier;
  refused = record {
    goal = goal_alone mid.context.trees p;
    says = subst (λ (y : Tree). trait_said y.head ≡ Some (p.trait_ref.def_id, p.polarity)) is said;
    arguments = sym fits ∙ ap arguments_of is;
    no_environment = refl;
    refused = subst (λ (S : State). WasRefused (judge_of (fixed new)) h.refuses.context S (goal_alone mid.context.trees p)) stands h.refuses.refused;
    of_instances = h.of_instances;
  };
}

-- The same where a probe has begun and ended.
pub entered-probed : (old began ran new : Evaluator) (t : Tree) → began.context ≡ old.context → state began ≡ state old → fixed new ≡ fixed ran → RefusesEntered began ran t → RefusesEntered old new t
entered-probed old began ran new t cx same f h =
    let z = sym f in
    record {
      context = h.context;
      earlier = subst (λ (c : Context). Grows c h.context) cx h.earlier;
      refused = subst (λ (q : Fixed × State). ClauseWasRefused (judge_of q.0) h.context (entered q.1 t) (entered_clause q.1 t)) (λ i. (z i, same i)) h.refused;
    }

-- A goal alone is settled: it is refused, or what stays of it is left.

alone-added : (S : State) (p : Pending) → S.pending ≡ [] → added S p ≡ with_alone S p
alone-added S p e = ap (λ (ps : List Pending). with_pending S (ps ++ p ∷ [])) e

pub unsettled : (old at : Evaluator) (g : Obligation) → SpeaksOfNoPart old.context (clause_tree old.context.trees g.1.predicate) → IsLater old at → (state old).pending ≡ [] → state at ≡ added (state old) (pending_at old g) → (judge_of (fixed at)).settled (state at) ≡ None
    → (ps : List Pending) → Contains ps (pending_at old g) → CannotHold old (state old) ps
unsettled old at g speaks l quiet is refused = λ ps there.
    one_is_unsettled (pending_at old g) at there speaks l (subst (λ (S : State). (judge_of (fixed at)).settled S ≡ None) (is ∙ alone-added (state old) (pending_at old g) quiet) refused)

pub settled-left : (old at done new : Evaluator) (g : Obligation) (before after : List Obligation) (x : Certainty) → SpeaksOfNoPart old.context (clause_tree old.context.trees g.1.predicate)
    → IsLater old at → IsLater old new → (state old).pending ≡ []
    → state at ≡ added (state old) (pending_at old g) → (judge_of (fixed at)).settled (state at) ≡ Some (x, state done) → state new ≡ aside (state done) → Each (IsObligation old.context.trees) before
    → Each (IsObligation new.context.trees) after → pendings_at new after ≡ pendings_at new before ++ (state done).pending → AreLeft old new g before after
settled-left old at done new g before after x speaks l m quiet is so aside-then b fit left =
    left-by old new g before after (state done).pending m b fit (ap (λ (S : State). S.pending) aside-then) left
    (λ ps there h.
    one_is_settled (pending_at old g) at x (state done) there speaks l
    (subst (λ (S : State). (judge_of (fixed at)).settled S ≡ Some (x, state done)) (is ∙ alone-added (state old) (pending_at old g) quiet) so)
    (subst (λ (S : State). CannotHold old S ((state done).pending ++ ps)) aside-then h))

-- A projection in the goal's clause has its type, and what is left is the goal with it, and what giving it left.
pub typed-left : (old mid new : Evaluator) (g h : Obligation) (before after : List Obligation) (t : Tree) → IsLater old new → StandsIn t (alone (clause_tree old.context.trees g.1.predicate))
    → IsNormalAt old (state old) t (Some (state mid)) → state new ≡ aside (state mid) → pending_at new h ≡ with_type t (next_type (state old)) (pending_at old g)
    → Each (IsObligation old.context.trees) before → Each (IsObligation new.context.trees) after → pendings_at new after ≡ pendings_at new (before ++ h ∷ []) ++ (state mid).pending
    → AreLeft old new g before after
typed-left old mid new g h before after t l stands normal aside-then is b fit left =
    let p = with_type t (next_type (state old)) (pending_at old g) in
    let more : pendings_at new after ≡ pendings_at new before ++ p ∷ (state mid).pending
    = left
    ∙ (ap (λ (xs : List Pending). xs ++ (state mid).pending) (pendings-more new.context.trees before (h ∷ []))
    ∙ (append_assoc (pendings_at new before) (pending_at new h ∷ []) (state mid).pending ∙ ap (λ (q : Pending). pendings_at new before ++ q ∷ (state mid).pending) is)) in
    left-by old new g before after (p ∷ (state mid).pending) l b fit (ap (λ (S : State). S.pending) aside-then) more
    (λ ps there k.
    let into : Among (p ∷ ((state mid).pending ++ ps)) ((state mid).pending ++ p ∷ ps)
    = among-both (p ∷ []) ((state mid).pending ++ ps) ((state mid).pending ++ p ∷ ps) (λ x c. Contains-append_right (state mid).pending (p ∷ ps) x (among-left (p ∷ []) ps x c))
    (among-after (state mid).pending ps (p ∷ ps) (among-right (p ∷ []) ps)) in
    with_its_type (pending_at old g) t (state mid) there stands normal (with-more ((state mid).pending ++ p ∷ ps) into (subst (λ (S : State). CannotHold old S (p ∷ ((state mid).pending ++ ps))) aside-then k)))

-- A projection is made equal to what the goal's clause says that it is.
pub equal-left : (old at done new : Evaluator) (g : Obligation) (before after : List Obligation) (t u : Tree) → IsLater old at → IsLater old new → SaysOfProjection (clause_tree old.context.trees g.1.predicate) t u
    → IsNormalAt old (state old) t (Some (state at)) → accepted (judge_of (fixed at)) (state at) none (alone (next_type (state old))) (alone u) ≡ Some (state done) → state new ≡ aside (state done)
    → Each (IsObligation old.context.trees) before → Each (IsObligation new.context.trees) after → pendings_at new after ≡ pendings_at new before ++ (state done).pending → AreLeft old new g before after
equal-left old at done new g before after t u l m said normal equal aside-then b fit left =
    left-by old new g before after (state done).pending m b fit (ap (λ (S : State). S.pending) aside-then) left
    (λ ps there h.
    same_type (pending_at old g) t u (state at) (state done) at there said normal l equal (subst (λ (S : State). CannotHold old S ((state done).pending ++ ps)) aside-then h))

-- Goals one after the other

-- So far these were taken up, of all that were there at first, and these are left.
pub record TriedSoFar (old now : Evaluator) (goals left : List Obligation) : Type 0 where
  pub stays : StaysBesideKnown old now
  pub fit : Each (IsObligation now.context.trees) left
  pub none_pending : (state now).pending ≡ []
  pub follows : CannotHold now (state now) (pendings_at now left ++ pendings_at old goals) → CannotHold old (state old) (pendings_at old goals)

pub none-tried : (old : Evaluator) (goals left : List Obligation) → left ≡ [] → (state old).pending ≡ [] → TriedSoFar old old goals left
none-tried old goals left e quiet = record {
  stays = known-refl old;
  fit = subst (Each (IsObligation old.context.trees)) (sym e) tt;
  none_pending = quiet;
  follows = λ h. subst (λ (xs : List Obligation). CannotHold old (state old) (pendings_at old xs ++ pendings_at old goals)) e h;
}

-- one of the goals is among them, also where it is read later
goal-there : (old now : Evaluator) (goals : List Obligation) (i : ℕ) (d : Obligation) → IsLater old now → Each (IsObligation old.context.trees) goals → i < length goals
    → Contains (pendings_at old goals) (pending_at now (slice_index_or goals i d))
goal-there old now goals i d l fit lt =
    let g = slice_index_or goals i d in
    let f : Obligation → Pending = λ x. pending_at old x in
    subst (Contains (pendings_at old goals)) (sym (one-there old now g l (each-index (IsObligation old.context.trees) goals i d fit lt)))
    (subst (Contains (map f goals)) (get_or-map f goals i d (f d) lt) (Contains-get_or (map f goals) i (f d) (subst (λ n. i < n) (sym (length-map f goals)) lt)))

pub one-tried : (old now new : Evaluator) (goals left after : List Obligation) (i : ℕ) (d : Obligation) → TriedSoFar old now goals left → StaysBesideKnown now new → Each (IsObligation old.context.trees) goals
    → i < length goals → AreLeft now new (slice_index_or goals i d) left after → TriedSoFar old new goals after
one-tried old now new goals left after i d so k fit lt h =
    let there = goal-there old now goals i d (later-known so.stays) fit lt in
    record {
      stays = known-then so.stays k;
      fit = h.fit;
      none_pending = h.none_pending;
      follows = λ c. so.follows (h.follows (pendings_at old goals) there c);
    }

pub one-fails : (old now : Evaluator) (goals left : List Obligation) (i : ℕ) (d : Obligation) → TriedSoFar old now goals left → Each (IsObligation old.context.trees) goals → i < length goals
    → ((ps : List Pending) → Contains ps (pending_at now (slice_index_or goals i d)) → CannotHold now (state now) ps) → CannotHold old (state old) (pendings_at old goals)
one-fails old now goals left i d so fit lt h =
    let there = goal-there old now goals i d (later-known so.stays) fit lt in
    let ps = pendings_at now left ++ pendings_at old goals in
    so.follows (h ps (Contains-append_right (pendings_at now left) (pendings_at old goals) (pending_at now (slice_index_or goals i d)) there))

pub all-tried : (old now : Evaluator) (goals left : List Obligation) → TriedSoFar old now goals left → AreLeftOfAll old now goals left
all-tried old now goals left so = record {
  fit = so.fit;
  none_pending = so.none_pending;
  follows = λ h. so.follows (with-more (pendings_at now left ++ pendings_at old goals) (among-left (pendings_at now left) (pendings_at old goals)) h);
}

-- The goals are the ones at hand after some passes.
pub record PassedSoFar (old now : Evaluator) (goals left : List Obligation) : Type 0 where
  pub stays : StaysBesideKnown old now
  pub all : AreLeftOfAll old now goals left

pub none-passed : (old : Evaluator) (goals : List Obligation) → Each (IsObligation old.context.trees) goals → (state old).pending ≡ [] → PassedSoFar old old goals goals
none-passed old goals fit quiet = record { stays = known-refl old; all = record { fit = fit; none_pending = quiet; follows = λ h. h } }

pub one-passed : (old now new : Evaluator) (goals left after : List Obligation) → PassedSoFar old now goals left → StaysBesideKnown now new → AreLeftOfAll now new left after → PassedSoFar old new goals after
one-passed old now new goals left after so k h = record {
  stays = known-then so.stays k;
  all = record { fit = h.fit; none_pending = h.none_pending; follows = λ c. so.all.follows (h.follows c) };
}

-- Where a tree stands

-- it is the tree of that place
pub stands-at : (t : Tree) (n : ℕ) (f rest : Forest) → skip n f ≡ tree t.head t.children rest → StandsIn t f
stands-at t zero f rest e = subst (StandsIn t) (sym e) here
stands-at t (suc n) none rest e = absurd cc
stands-at t (suc n) (tree h c f) rest e = beside {u = record { head = h; children = c }} (stands-at t n f rest e)

-- it stands below one that stands there
pub stands-below : {t u : Tree} {f : Forest} → StandsIn t u.children → StandsIn u f → StandsIn t f
stands-below {u = u} h here = below {u = u} h
stands-below h (below {u = v} k) = below {u = v} (stands-below h k)
stands-below h (beside {u = v} k) = beside {u = v} (stands-below h k)

-- A probe that was open meanwhile changes nothing of a refusal.
pub predicate-probed : (old began ran new : Evaluator) (p : TraitPredicate) → began.context ≡ old.context → state began ≡ state old → fixed new ≡ fixed ran → RefusesInstances began ran p
    → RefusesInstances old new p
predicate-probed old began ran new p cx same f h =
    let z = sym f in
    record {
      refuses = record {
        context = h.refuses.context;
        earlier = subst (λ (c : Context). Grows c h.refuses.context) cx h.refuses.earlier;
        refused = subst (λ (q : Fixed × State × Context). WasRefused (judge_of q.0) h.refuses.context q.1 (goal_alone q.2.trees p)) (λ i. (z i, same i, cx i)) h.refuses.refused;
      };
      of_instances = subst (λ (c : Context). IsOfInstances h.refuses.context p.trait_ref.def_id (args_forest c.trees p.trait_ref.args)) cx h.of_instances;
    }

-- What was asked of the clause where the call began.
pub speaks-of-none : (c : Context) (x : Tree) → ((t : TraitId) → trait_spoken_of c x.head ≡ Some t → RestsOnPart c t → ⊥) → SpeaksOfNoPart c x
speaks-of-none c x h = λ t is. record { later = c; grows = grows-refl c; never = h t is }

-- What a clause says of a projection, as it is read.
pub said-as-read : (c : Context) (x : Tree) (p : ProjectionPredicate) (k : TyKind) → projection_of p ≡ k → IsProjection c x p → SaysOfProjection x (kind_tree c.trees k) (ty_tree c.trees p.term)
said-as-read c x p k e h = record {
  item = p.projection_term.def_id;
  head_is = h.head;
  projection_is = sym (alias-is c x p h ∙ ap (kind_tree c.trees) e);
  term_is = sym (term-is c x p h);
}
