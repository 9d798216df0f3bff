-- What is found of two impls, over an earlier context, and by the calls that find it.
use Rattle.std.proofs.Common.{◌≡◌, ℕ, Bool, false, true, Option, None, Some, [], Result, Ok, Err, IfErr, IfOk, inl, inr, refl, sym, ap, subst, ◌∙◌}
use Rattle.std.specs.Prelude.{IfSome}
use Rattle.ir_trees.specs.declared.decl.contents.ImplId.{ImplId}
use Rattle.ir_trees.specs.declared.ir.stop.Stop.{Stop}
use Rattle.ir_trees.specs.Declarations.Context.{Context, Grows}
use Rattle.ir_trees.specs.Declarations.Contents.{Impl}
use Rattle.ir_trees.specs.Declarations.Lookups.{maybe}
use Rattle.ir_trees.proofs.Growth.Kept.{grows-trans}
use Rattle.candidate_assembly.proofs.Rules.ImplSteps.{impl-same}
use Rattle.overlaps.specs.Allowed.{lists}
use Rattle.overlaps.specs.declared.instance.CommonInstance.{CommonInstance}
use Rattle.overlaps.specs.declared.overlap.Overlap.{Overlap}
use Rattle.overlaps.specs.declared.overlap.Overlap.TheVariants as O
use Rattle.overlaps.specs.declared.overlap.WhereClause.{WhereClause}
use Rattle.assembly_notation.specs.declared.given.Given.{Given}
use Rattle.assembly_text.specs.declared.comparing.Found.{Found}
use Rattle.assembly_text.specs.declared.comparing.Found.TheVariants as found
use Rattle.assembly_text.specs.Together.{IsApart}
use Rattle.assembly_text.specs.Specializing.{AreThose, HasNothing, IsAnswerOf, IsFoundOf, IsFoundSpecial, IsInstanceOr, IsInstanceUnless, IsInstanceUnlessApart, IsNegatedClause, IsNotOneBy, IsNotOtherBy, IsNotSpecial, IsOneBy, IsOtherBy, IsPairStop, IsSpecial, IsSpecialAlone, IsSpecialOfThem, NoneIfUsed, NoneSpecializesAlone, anyway, as_declared, by_answer, by_clauses, by_line, by_negation, each_special, is_declared_special, neither_special, one_unsaid, other_not_special, other_special, other_unsaid, overlap_stopped, special_unsaid, test_stopped_there}
use Rattle.candidate_rounds.specs.declared.rounds.effort.Effort.{Effort}

module _ (a b : Context) (w : Grows a b) (g : Given) where
  pub special-before : (s t : ImplId) → IsSpecial b g s t → IsSpecial a g s t
  special-before s t h = record { context = h.context; last = h.last; grows = grows-trans a b h.context w h.grows; tested = h.tested }

  pub not-special-before : (s t : ImplId) → IsNotSpecial b g s t → IsNotSpecial a g s t
  not-special-before s t h = record { context = h.context; last = h.last; grows = grows-trans a b h.context w h.grows; other = h.other; isnt = h.isnt; tested = h.tested }

  pub said-before : (v : Bool) (s t : ImplId) → is_declared_special b s t ≡ v → is_declared_special a s t ≡ v
  said-before v s t e = ap (λ (o : Option Impl). lists (maybe [] (λ (i : Impl). i.specializes) o) t) (sym (impl-same a b s w)) ∙ e

  alone-before : (l : Bool) (s t : ImplId) → IsSpecialAlone b g l s t → IsSpecialAlone a g l s t
  alone-before l s t h = record { special = special-before s t h.special; back = not-special-before t s h.back; line = λ e. said-before true s t (h.line e) }

  pub them-before : (l : Bool) (i j s t : ImplId) → IsSpecialOfThem b g l i j s t → IsSpecialOfThem a g l i j s t
  them-before l i j s t h = record { those = h.those; special = alone-before l s t h.special }

  -- what is found of the second test, behind the first one

  pub one-of-them : (l : Bool) (i j : ImplId) (p : ImplId × ImplId) → IsSpecial a g i j → IsOneBy b g l i j p → IsSpecialOfThem a g l i j p.0 p.1
  one-of-them l i j p h k = subst (λ (q : ImplId × ImplId). IsSpecialOfThem a g l i j q.0 q.1) (sym k.those) (record {
    those = inl (refl, refl);
    special = record { special = h; back = not-special-before j i k.back; line = λ e. said-before true i j (k.line e) };
  })

  pub other-of-them : (l : Bool) (i j : ImplId) (p : ImplId × ImplId) → IsNotSpecial a g i j → IsOtherBy b g l i j p → IsSpecialOfThem a g l i j p.0 p.1
  other-of-them l i j p h k = subst (λ (q : ImplId × ImplId). IsSpecialOfThem a g l i j q.0 q.1) (sym k.those) (record {
    those = inr (refl, refl);
    special = record { special = special-before j i k.special; back = h; line = λ e. said-before true j i (k.line e) };
  })

  -- the same where neither does alone

  none-before : (l : Bool) (i j : ImplId) → NoneSpecializesAlone b g l i j → NoneSpecializesAlone a g l i j
  none-before l i j (each_special h k) = each_special (special-before i j h) (special-before j i k)
  none-before l i j (neither_special h k) = neither_special (not-special-before i j h) (not-special-before j i k)
  none-before l i j (special_unsaid s t those h k asked e) = special_unsaid s t those (special-before s t h) (not-special-before t s k) asked (said-before false s t e)

  pub none-of-one : (l : Bool) (i j : ImplId) → IsSpecial a g i j → IsNotOneBy b g l i j → NoneSpecializesAlone a g l i j
  none-of-one l i j h (other_special k) = each_special h (special-before j i k)
  none-of-one l i j h (one_unsaid k asked e) = special_unsaid i j (inl (refl, refl)) h (not-special-before j i k) asked (said-before false i j e)

  pub none-of-other : (l : Bool) (i j : ImplId) → IsNotSpecial a g i j → IsNotOtherBy b g l i j → NoneSpecializesAlone a g l i j
  none-of-other l i j h (other_not_special k) = neither_special h (not-special-before j i k)
  none-of-other l i j h (other_unsaid k asked e) = special_unsaid j i (inr (refl, refl)) (special-before j i k) h asked (said-before false j i e)

  none-used-before : (i j : ImplId) → NoneIfUsed b g i j → NoneIfUsed a g i j
  none-used-before i j h e = none-before false i j (h e)

  answer-before : (effort : Effort) (i j : ImplId) (o : Overlap) → IsAnswerOf b g effort i j o → IsAnswerOf a g effort i j o
  answer-before effort i j o (as_declared c last v h) = as_declared c last (grows-trans a b c w v) h
  answer-before effort i j o (anyway c last v h) = anyway c last (grows-trans a b c w v) h

  negated-before : (i j : ImplId) (v : WhereClause) → IsNegatedClause b g i j v → IsNegatedClause a g i j v
  negated-before i j v h = record { asked = h.asked; context = h.context; last = h.last; grows = grows-trans a b h.context w h.grows; answered = h.answered }

  apart-before : (i j : ImplId) → IsApart b g i j → IsApart a g i j
  apart-before i j h = record { context = h.context; last = h.last; grows = grows-trans a b h.context w h.grows; answered = h.answered }

  nothing-before : (effort : Effort) (i j : ImplId) → HasNothing b g effort i j → HasNothing a g effort i j
  nothing-before effort i j (by_answer o h k) = by_answer o (answer-before effort i j o h) k
  nothing-before effort i j (by_line s t h) = by_line s t (them-before true i j s t h)
  nothing-before effort i j (by_clauses x h k) = by_clauses x (answer-before effort i j (O.May x) h) (apart-before i j k)
  nothing-before effort i j (by_negation x v h k) = by_negation x v (answer-before effort i j (O.May x) h) (negated-before i j v k)

  found-special-before : (i j s t : ImplId) → IsFoundSpecial b g i j s t → IsFoundSpecial a g i j s t
  found-special-before i j s t h = record { feature = h.feature; special = them-before _ i j s t h.special }

  pub found-before : (effort : Effort) (i j : ImplId) (x : Found) → IsFoundOf b g effort i j x → IsFoundOf a g effort i j x
  found-before effort i j found.Nothing h = nothing-before effort i j h
  found-before effort i j (found.Instance x) (h, k) = (answer-before effort i j (O.May x) h, none-used-before i j k)
  found-before effort i j (found.Specializes s t) h = found-special-before i j s t h

  pub stop-before : (s : Stop) → IsPairStop b g s → IsPairStop a g s
  stop-before s (overlap_stopped c last v h) = overlap_stopped c last (grows-trans a b c w v) h
  stop-before s (test_stopped_there c last v h) = test_stopped_there c last (grows-trans a b c w v) h

  -- the instance that was answered, or one that specialises the other one, or nothing, since a where clause is known not to hold

  pub or-before : (i j : ImplId) (x : CommonInstance) (f : Found) → IsInstanceOr b g i j x f → IsInstanceUnless a g i j x f
  or-before i j x found.Nothing k = absurd k
  or-before i j x (found.Instance y) (e, k) = (e, none-used-before i j k)
  or-before i j x (found.Specializes s t) k = found-special-before i j s t k

  -- the same, or nothing, since their where clauses can't hold together

  pub unless-before : (i j : ImplId) (x : CommonInstance) (f : Found) → IsInstanceUnless b g i j x f → IsInstanceUnlessApart a g i j x f
  unless-before i j x found.Nothing k = inr (k.0, negated-before i j k.0 k.1)
  unless-before i j x (found.Instance y) (e, k) = (e, none-used-before i j k)
  unless-before i j x (found.Specializes s t) k = found-special-before i j s t k

  nothing-found : (effort : Effort) (i j : ImplId) (x : CommonInstance) → IsAnswerOf a g effort i j (O.May x) → IsInstanceUnlessApart b g i j x found.Nothing → HasNothing a g effort i j
  nothing-found effort i j x h (inl k) = by_clauses x h (apart-before i j k)
  nothing-found effort i j x h (inr k) = by_negation x k.0 h (negated-before i j k.0 k.1)

  pub instance-found : (effort : Effort) (i j : ImplId) (x : CommonInstance) → IsAnswerOf a g effort i j (O.May x) → (f : Found) → IsInstanceUnlessApart b g i j x f → IsFoundOf a g effort i j f
  instance-found effort i j x h found.Nothing k = nothing-found effort i j x h k
  instance-found effort i j x h (found.Instance y) (e, k) = (subst (λ (z : CommonInstance). IsAnswerOf a g effort i j (O.May z)) (sym e) h, none-used-before i j k)
  instance-found effort i j x h (found.Specializes s t) k = found-special-before i j s t k

  -- the same of what is found, if anything is

  pub ones-of-them : (l : Bool) (i j : ImplId) → IsSpecial a g i j → (o : Option (ImplId × ImplId)) → IfSome o (IsOneBy b g l i j) → IfSome o (λ p. IsSpecialOfThem a g l i j p.0 p.1)
  ones-of-them l i j h None k = tt
  ones-of-them l i j h (Some p) k = one-of-them l i j p h k

  pub others-of-them : (l : Bool) (i j : ImplId) → IsNotSpecial a g i j → (o : Option (ImplId × ImplId)) → IfSome o (IsOtherBy b g l i j) → IfSome o (λ p. IsSpecialOfThem a g l i j p.0 p.1)
  others-of-them l i j h None k = tt
  others-of-them l i j h (Some p) k = other-of-them l i j p h k

-- What a call has answered.

pub ok-value : {A : Type 0} (P : A → Type 0) (r : Result A Stop) (x : A) → r ≡ Ok x → IfOk r P → P x
ok-value P r x e h = subst (λ q. IfOk q P) e h

pub err-value : {A : Type 0} (P : Stop → Type 0) (r : Result A Stop) (s : Stop) → r ≡ Err s → IfErr r P → P s
err-value P r s e h = subst (λ q. IfErr q P) e h
