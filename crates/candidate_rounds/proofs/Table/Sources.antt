-- By which sources steps hold: the table of those that are named, the candidates over it, and which of them a step says there is.
use Rattle.std.proofs.Common.{◌≡◌, ◌⊎◌, inl, inr, ◌≤◌, ◌<◌, ◌+◌, ℕ, zero, suc, Bool, true, false, Option, Some, None, List, [], ◌∷◌, ◌++◌, length, map, take, slice_get, slice_index_or, if◌then◌else◌, is_some, MatchOption, IfSome, refl, sym, ◌∙◌, ap, subst, arith}
use Rattle.std.specs.List.{Contains, fold}
use Rattle.std.proofs.lemmas.Bool.{cases_lt}
use Rattle.std.proofs.lemmas.List.{map-append}
use Rattle.std.proofs.lemmas.List.Elements.{All-contains}
use Rattle.std.proofs.lemmas.List.Sums.{fold_push}
use Rattle.ir_trees.specs.declared.ir.heads.ListHead.TheVariants as L
use Rattle.ir_trees.specs.declared.ir.kinds.Args.{Args}
use Rattle.ir_trees.specs.declared.ir.kinds.Clause.{Clause}
use Rattle.ir_trees.specs.Declarations.Context.{Context}
use Rattle.ir_trees.specs.Syntax.Nodes.{Extends}
use Rattle.ir_trees.specs.Syntax.Table.{AreDistinct}
use Rattle.ir_trees.specs.Syntax.Trees.{ArgumentsKind, ClauseKind, Tree, tree_holds}
use Rattle.derivations.specs.Clean.{is_error_region}
use Rattle.ir_trees.specs.Syntax.Words.{ClauseListFits, IsClause, clause_tree}
use Rattle.ir_context.proofs.Growth.One.{list-one, number-one}
use Rattle.candidate_eval.specs.declared.eval.certainty.Certainty.TheVariants.{Yes}
use Rattle.candidate_eval.specs.declared.eval.response.Candidate.{Candidate as OfNumbers}
use Rattle.candidate_eval.specs.declared.eval.response.CanonicalResponse.{CanonicalResponse}
use Rattle.candidate_eval.specs.declared.eval.source.CandidateSource.{CandidateSource}
use Rattle.candidate_eval.specs.Outcomes.Responses.{Candidate, Response}
use Rattle.candidate_eval.specs.Outcomes.ResponseTrees.{AreCandidates, IsCopy, IsResponse, candidate_of, candidates_of, response_of}
use Rattle.rounds_judge.specs.Table.GoalTable.{GoalTable, is_entered, may_be_asked}
use Rattle.rounds_judge.specs.Table.Keys.{Key}
use Rattle.candidate_rounds.specs.declared.rounds.derivation.DerivationStep.{DerivationStep}
use Rattle.candidate_rounds.specs.declared.rounds.goals.GoalKey.{GoalKey}
use Rattle.candidate_rounds.specs.Evaluators.Known.{Evaluator, table_of}
use Rattle.candidate_rounds.specs.Table.Goals.{Each, IsTraitGoal, Via, key_seen}
use Rattle.candidate_rounds.specs.Table.Running.{IsOnlyPlaceOf, StaysBesideTable}
use Rattle.candidate_rounds.specs.Table.Sources.{AreAt, AreBySource, AreFoundBy, AreListedBy, AreNotListed, IsBySource, IsNotBySource, IsTableAt, OneIsNotBySource, WereBySource, candidate_said, found_listed, found_none, goal_has_error, goal_not_asked, no_step, not_among, not_listed, step_not_asked, with_step}
use Rattle.candidate_rounds.specs.Table.Steps.{IsListed, IsStep, IsSureBy, IsSureOfOne, no_goals, step_entry}
use Rattle.candidate_rounds.proofs.Snapshots.Knowing.{clause-stays, each-get}
use Rattle.candidate_rounds.proofs.Table.Finding.{copy-sees, get-same, only-entered}
use Rattle.candidate_rounds.proofs.Table.Running.{get-there, stays-trans}
use Rattle.candidate_rounds.proofs.Table.StepStops.{AssumedSoFar}
use Rattle.candidate_rounds.proofs.Table.Steps.{HoldSoFar, contains-map, each-take, got-there, listed-before, none-there, step-stays, take-more, yes-sees}
use Rattle.candidate_rounds.proofs.Table.Tabled.{key-sees, response-sees}

-- A step that is entered, or whose goal is there.

place-there : (T : GoalTable Via) (k : Key) (o : Option ℕ) → MatchOption o (is_entered T k ≡ false) (IsOnlyPlaceOf T k) → is_some o ≡ true → is_entered T k ≡ true
place-there T k (Some n) h e = only-entered T k n h
place-there T k None h e = absurd cc

pub with-step-there : (ts : List Tree) (T U : GoalTable Via) (s : DerivationStep) (k : Key) (o : Option ℕ) → k ≡ key_seen ts s.key → MatchOption o (is_entered T k ≡ false) (IsOnlyPlaceOf T k) → is_some o ≡ true → U ≡ T → U ≡ with_step ts T s
with-step-there ts T U s k o q h e u = u ∙ sym (ap (λ (b : Bool). if b then T else T ++ step_entry ts s ∷ []) (ap (is_entered T) (sym q) ∙ place-there T k o h e))

place-missing : (T : GoalTable Via) (k : Key) (o : Option ℕ) → MatchOption o (is_entered T k ≡ false) (IsOnlyPlaceOf T k) → is_some o ≡ false → is_entered T k ≡ false
place-missing T k (Some n) h e = absurd cc
place-missing T k None h e = h

pub with-step-new : (ts : List Tree) (T U : GoalTable Via) (s : DerivationStep) (k : Key) (o : Option ℕ) → k ≡ key_seen ts s.key → MatchOption o (is_entered T k ≡ false) (IsOnlyPlaceOf T k) → is_some o ≡ false
    → U ≡ T ++ step_entry ts s ∷ [] → U ≡ with_step ts T s
with-step-new ts T U s k o q h e u = u ∙ sym (ap (λ (b : Bool). if b then T else T ++ step_entry ts s ∷ []) (ap (is_entered T) (sym q) ∙ place-missing T k o h e))

-- What the steps of these places say, so far.

pub index-there : {A : Type 0} (xs : List A) (i : ℕ) (d : A) → i < length xs → slice_get xs i ≡ Some (slice_index_or xs i d)
index-there [] i d l = absurd (omega (arith, l))
index-there (x ∷ xs) zero d l = refl
index-there (x ∷ xs) (suc i) d l = index-there xs i d (omega (arith, l))

none-at : (ts : List Tree) (ss : List DerivationStep) (places : List ℕ) (T : GoalTable Via) → T ≡ [] → IsTableAt ts ss (take 0 places) T
none-at ts ss places T e = record { named = []; are_at = refl; table = e }

at-more : (ss : List DerivationStep) (places : List ℕ) (named : List DerivationStep) (n : ℕ) (s : DerivationStep) → AreAt ss places named → slice_get ss n ≡ Some s → AreAt ss (places ++ n ∷ []) (named ++ s ∷ [])
at-more ss places named n s h g = map-append (slice_get ss) places (n ∷ []) ∙ ((λ i. h i ++ g i ∷ []) ∙ sym (map-append Some named (s ∷ [])))

one-more-at : (ts : List Tree) (ss : List DerivationStep) (places : List ℕ) (i n : ℕ) (s : DerivationStep) (T U : GoalTable Via) → slice_get places i ≡ Some n → slice_get ss n ≡ Some s
    → IsTableAt ts ss (take i places) T → U ≡ with_step ts T s → IsTableAt ts ss (take (i + 1) places) U
one-more-at ts ss places i n s T U there g h q = record {
  named = h.named ++ s ∷ [];
  are_at = subst (λ ps. AreAt ss ps (h.named ++ s ∷ [])) (sym (take-more places i n there)) (at-more ss (take i places) h.named n s h.are_at g);
  table = q ∙ (ap (λ V. with_step ts V s) h.table ∙ sym (fold_push (with_step ts) [] h.named s));
}

-- What is entered so far is just what the steps say of the places that were gone over.
pub record NamedSoFar (r s : Evaluator) (ss : List DerivationStep) (places : List ℕ) (i : ℕ) : Type 0 where
  pub assumed : AssumedSoFar r s ss i
  pub at : IsTableAt r.context.trees ss (take i places) (table_of s)

pub none-named : (r s : Evaluator) (ss : List DerivationStep) (places : List ℕ) → s ≡ record r { goals = no_goals } → AssumedSoFar r s ss 0 → NamedSoFar r s ss places 0
none-named r s ss places e h = record { assumed = h; at = none-at r.context.trees ss places (table_of s) (ap table_of e) }

pub one-more-named : (r s t : Evaluator) (ss : List DerivationStep) (places : List ℕ) (i n : ℕ) (x : DerivationStep) → slice_get places i ≡ Some n → slice_get ss n ≡ Some x → NamedSoFar r s ss places i
    → AssumedSoFar r t ss (i + 1) → table_of t ≡ with_step s.context.trees (table_of s) x → NamedSoFar r t ss places (i + 1)
one-more-named r s t ss places i n x there g h k q = record {
  assumed = k;
  at = one-more-at r.context.trees ss places i n x (table_of s) (table_of t) there g h.at
      (subst (λ ts. table_of t ≡ with_step ts (table_of s) x) (ap (λ (y : Evaluator). y.context.trees) h.assumed.entered.same) q);
}

-- Steps at places are among the steps.
at-each : (P : DerivationStep → Type 0) (ss : List DerivationStep) (places : List ℕ) (named : List DerivationStep) → AreAt ss places named → Each P ss → Each P named
at-each P ss [] [] e h = tt
at-each P ss [] (x ∷ xs) e h = absurd cc
at-each P ss (n ∷ ns) [] e h = absurd cc
at-each P ss (n ∷ ns) (x ∷ xs) e h =
    let g : slice_get ss n ≡ Some x = cc in
    let r : AreAt ss ns xs = cc in
    (each-get P ss n x h g, at-each P ss ns xs r h)

-- Numbers have their trees still.

module _ (ts us : List Tree) (x : Extends ts us) where
  with-step-sees : (T : GoalTable Via) (s : DerivationStep) → IsStep ts s → with_step us T s ≡ with_step ts T s
  with-step-sees T s i =
      let k = key-sees ts us x s.key i.goal.goal in
      let y = yes-sees ts us x s.key s.response i.goal i.response in
      λ n. if is_entered T (k n) then T else T ++ y n ∷ []

  table-by-sees : (ss : List DerivationStep) → Each (IsStep ts) ss → (T : GoalTable Via) → fold (with_step us) T ss ≡ fold (with_step ts) T ss
  table-by-sees [] h T = refl
  table-by-sees (s ∷ ss) h T = ap (λ U. fold (with_step us) U ss) (with-step-sees T s h.0) ∙ table-by-sees ss h.1 (with_step ts T s)

  said-sees : (s : DerivationStep) → IsStep ts s → candidate_said us s ≡ candidate_said ts s
  said-sees s i = let q = response-sees ts us x s.response i.response in λ n. record { source = s.source; result = q n }

  not-listed-sees : (ss : List DerivationStep) (places : List ℕ) (k : GoalKey) → Each (IsStep ts) ss → IsTraitGoal ts k.goal → AreNotListed us ss places k → AreNotListed ts ss places k
  not-listed-sees ss places k are goal (no_step n c g) = no_step n c g
  not-listed-sees ss places k are goal (step_not_asked n s c g m) =
      let i = each-get (IsStep ts) ss n s are g in
      step_not_asked n s c g (subst (λ y. may_be_asked y ≡ false) (key-sees ts us x s.key i.goal.goal) m)
  not-listed-sees ss places k are goal (goal_not_asked m) = goal_not_asked (subst (λ y. may_be_asked y ≡ false) (key-sees ts us x k goal.goal) m)
  not-listed-sees ss places k are goal (goal_has_error m) = goal_has_error (subst (λ (t : Tree). tree_holds is_error_region t ≡ true) (clause-stays ts us k.goal.predicate x goal.goal.1) m)

-- What is so for one evaluator is so for one before it, from which all stayed but the table.
module _ (r s : Evaluator) (x : StaysBesideTable r s) where
  listed-by-before : (ss : List DerivationStep) (places : List ℕ) (k : GoalKey) (xs : List Candidate) → Each (IsStep r.context.trees) ss → IsTraitGoal r.context.trees k.goal → AreListedBy s ss places k xs → AreListedBy r ss places k xs
  listed-by-before ss places k xs are goal h =
      let ts = r.context.trees in
      let us = s.context.trees in
      let e = h.entered in
      let q = key-sees ts us x.grows.kept k goal.goal in
      record {
        table = h.table;
        entered = record { named = e.named; are_at = e.are_at; table = e.table ∙ table-by-sees ts us x.grows.kept e.named (at-each (IsStep ts) ss places e.named e.are_at are) [] };
        asked = subst (λ y. may_be_asked y ≡ true) q h.asked;
        list = listed-before r s x h.table h.table refl (key_seen us k) (key_seen ts k) q xs h.list;
      }

  pub by-source-before : (before : List DerivationStep) (t : DerivationStep) → Each (IsStep r.context.trees) before → IsStep r.context.trees t → IsBySource s before t → IsBySource r before t
  by-source-before before t are i h = record {
    candidates = h.candidates;
    listed = listed-by-before before t.nested.items t.key h.candidates are i.goal h.listed;
    among = subst (Contains h.candidates) (said-sees r.context.trees s.context.trees x.grows.kept t i) h.among;
    sure = h.sure;
  }

  not-by-source-before : (before : List DerivationStep) (t : DerivationStep) → Each (IsStep r.context.trees) before → IsStep r.context.trees t → IsNotBySource s before t → IsNotBySource r before t
  not-by-source-before before t are i (not_listed h) = not_listed (not-listed-sees r.context.trees s.context.trees x.grows.kept before t.nested.items t.key are i.goal h)
  not-by-source-before before t are i (not_among xs h never) =
      not_among xs (listed-by-before before t.nested.items t.key xs are i.goal h)
      (λ sure in_list. never sure (subst (Contains xs) (sym (said-sees r.context.trees s.context.trees x.grows.kept t i)) in_list))

  pub sources-before : (ss : List DerivationStep) → Each (IsStep r.context.trees) ss → AreBySource s ss → AreBySource r ss
  sources-before ss are h = λ place t g. by-source-before (take place ss) t (each-take (IsStep r.context.trees) ss place are) (each-get (IsStep r.context.trees) ss place t are g) (h place t g)

  pub refused-before : (ss : List DerivationStep) → Each (IsStep r.context.trees) ss → OneIsNotBySource s ss → OneIsNotBySource r ss
  refused-before ss are h = record {
    place = h.place;
    step = h.step;
    there = h.there;
    refused = not-by-source-before (take h.place ss) h.step (each-take (IsStep r.context.trees) ss h.place are) (each-get (IsStep r.context.trees) ss h.place h.step are h.there) h.refused;
  }

-- A response has one number for each of its parts.

clauses-one : (ts : List Tree) → AreDistinct ts → (xs ys : List Clause) → ClauseListFits ts xs → ClauseListFits ts ys → map (clause_tree ts) xs ≡ map (clause_tree ts) ys → xs ≡ ys
clauses-one ts one [] [] f g e = refl
clauses-one ts one [] (y ∷ ys) f g e = absurd cc
clauses-one ts one (x ∷ xs) [] f g e = absurd cc
clauses-one ts one (x ∷ xs) (y ∷ ys) f g e =
    let i : IsClause ts x = cc in
    let j : IsClause ts y = cc in
    let f_rest : ClauseListFits ts xs = cc in
    let g_rest : ClauseListFits ts ys = cc in
    let head : clause_tree ts x ≡ clause_tree ts y = cc in
    let rest : map (clause_tree ts) xs ≡ map (clause_tree ts) ys = cc in
    let same : x ≡ y = ap (λ n. let c : Clause = record { 0 = n } in c) (number-one ts ClauseKind x.0 y.0 refl one i j head) in
    λ n. same n ∷ clauses-one ts one xs ys f_rest g_rest rest n

pub copy-from : (ts : List Tree) → AreDistinct ts → (a b : CanonicalResponse) → IsResponse ts a → IsResponse ts b → response_of ts a ≡ response_of ts b → IsCopy a b
copy-from ts one a b i j e = record {
  vars = sym (ap (λ (x : Response). x.vars) e);
  values = sym (ap (λ n. let v : Args = record { 0 = n } in v) (list-one ts ArgumentsKind L.Args a.values.0 b.values.0 refl refl one i.values j.values (ap (λ (x : Response). x.values) e)));
  regions = sym (clauses-one ts one a.regions.items b.regions.items i.regions j.regions (ap (λ (x : Response). x.regions) e));
  certainty = sym (ap (λ (x : Response). x.certainty) e);
}

-- The candidates over what is named, and the one that a step says there is.

from-map : {A B : Type 0} (f : A → B) (xs : List A) (y : B) (k : ℕ) → k < length (map f xs) → slice_index_or (map f xs) k y ≡ y → (x : A) × (slice_get xs k ≡ Some x) × (f x ≡ y)
from-map f [] y k l e = absurd (omega (arith, l))
from-map f (x ∷ xs) y zero l e = (x, refl, e)
from-map f (x ∷ xs) y (suc k) l e = from-map f xs y k (omega (arith, l)) e

pub found-source : (r n : Evaluator) → StaysBesideTable r n → (before : List DerivationStep) (s : DerivationStep) → IsStep r.context.trees s → (xs : List OfNumbers)
    → AreFoundBy r n before s.nested.items s.key xs → IsSureOfOne xs s.source s.response → IsBySource r before s
found-source r n x before s i xs (found_none h) one = absurd (none-there one.candidate one.listed)
found-source r n x before s i xs (found_listed h) one =
    let ts = r.context.trees in
    let us = n.context.trees in
    let c = one.candidate in
    let copy : response_of us s.response ≡ response_of us c.result = copy-sees us c.result s.response one.is.response in
    let seen : response_of us s.response ≡ response_of ts s.response = response-sees ts us x.grows.kept s.response i.response in
    let same : candidate_of us c ≡ candidate_said ts s = λ j. record { source = one.is.source j; result = (sym copy ∙ seen) j } in
    record {
      candidates = candidates_of us xs;
      listed = h;
      among = subst (Contains (candidates_of us xs)) same (contains-map (candidate_of us) xs c one.listed);
      sure = one.is.response.certainty ∙ one.is.sure;
    }

pub found-refused : (r n : Evaluator) → StaysBesideTable r n → AreDistinct n.context.trees → (before : List DerivationStep) (s : DerivationStep) → IsStep r.context.trees s → IsStep n.context.trees s → (xs : List OfNumbers) → AreCandidates n.context.trees xs
    → AreFoundBy r n before s.nested.items s.key xs → (IsSureOfOne xs s.source s.response → ⊥) → IsNotBySource r before s
found-refused r n x distinct before s i j xs fit (found_none h) never = not_listed h
found-refused r n x distinct before s i j xs fit (found_listed h) never = not_among (candidates_of us xs) h (λ sure in_list. never (one in_list.0 sure (from-map (candidate_of us) xs (candidate_said ts s) in_list.0 in_list.1 in_list.2)))
  where
    ts : List Tree
    ts = r.context.trees

    us : List Tree
    us = n.context.trees

    one : (k : ℕ) → s.response.certainty ≡ Yes → (c : OfNumbers) × (slice_get xs k ≡ Some c) × (candidate_of us c ≡ candidate_said ts s) → IsSureOfOne xs s.source s.response
    one k sure p =
        let c = p.0 in
        let listed = got-there xs k c p.1 in
        let seen : response_of us s.response ≡ response_of ts s.response = response-sees ts us x.grows.kept s.response i.response in
        let same : response_of us c.result ≡ response_of us s.response = ap (λ (y : Candidate). y.result) p.2 ∙ sym seen in
        let copy = copy-from us distinct c.result s.response (All-contains (λ (y : OfNumbers). IsResponse us y.result) xs c fit listed) j.response same in
        record { candidate = c; listed = listed; is = record { source = ap (λ (y : Candidate). y.source) p.2; sure = sym copy.certainty ∙ sure; response = copy } }

-- Candidates that are gone over.

-- none so far
abbrev pub NoneSoFar : List OfNumbers → CandidateSource → CanonicalResponse → ℕ → Type 0
NoneSoFar xs way r i = (k : ℕ) (x : OfNumbers) → k < i → slice_get xs k ≡ Some x → IsSureBy way r x → ⊥

pub none-yet : (xs : List OfNumbers) (way : CandidateSource) (r : CanonicalResponse) → NoneSoFar xs way r 0
none-yet xs way r k x l g h = absurd (omega (arith, l))

pub none-more : (xs : List OfNumbers) (way : CandidateSource) (r : CanonicalResponse) (i : ℕ) (y : OfNumbers) → slice_get xs i ≡ Some y → (IsSureBy way r y → ⊥) → NoneSoFar xs way r i → NoneSoFar xs way r (i + 1)
none-more xs way r i y there never h k x l g is = at (cases_lt k i)
  where
    at : (k < i) ⊎ (i ≤ k) → ⊥
    at (inl b) = h k x b g is
    at (inr b) =
        let e : k ≡ i = omega (arith, b, l) in
        never (subst (IsSureBy way r) (get-same xs i x y (ap (slice_get xs) (sym e) ∙ g) there) is)

pub none-of-all : (xs : List OfNumbers) (way : CandidateSource) (r : CanonicalResponse) (n : ℕ) → length xs ≤ n → NoneSoFar xs way r n → IsSureOfOne xs way r → ⊥
none-of-all xs way r n l h one =
    let k = one.listed.0 in
    let b = one.listed.1 in
    h k one.candidate (omega (arith, l, b)) (get-there xs k one.candidate b (sym one.listed.2)) one.is

-- Steps that are gone over.

pub record CheckedSoFar (r s : Evaluator) (ss : List DerivationStep) (n : ℕ) : Type 0 where
  pub hold : HoldSoFar r s ss n
  pub sources : (k : ℕ) (t : DerivationStep) → k < n → slice_get ss k ≡ Some t → IsBySource r (take k ss) t

pub none-checked : (r s : Evaluator) (ss : List DerivationStep) → HoldSoFar r s ss 0 → CheckedSoFar r s ss 0
none-checked r s ss h = record { hold = h; sources = λ k t l g. absurd (omega (arith, l)) }

pub one-more-checked : (r s t : Evaluator) (ss : List DerivationStep) (n : ℕ) → Each (IsStep r.context.trees) ss → CheckedSoFar r s ss n → HoldSoFar r t ss (n + 1)
    → ((x : DerivationStep) → slice_get ss n ≡ Some x → IsBySource s (take n ss) x) → CheckedSoFar r t ss (n + 1)
one-more-checked r s t ss n are h hold one = record {
  hold = hold;
  sources = λ k x l g. at k x g (cases_lt k n) l;
}
  where
    here : (x : DerivationStep) → slice_get ss n ≡ Some x → IsBySource r (take n ss) x
    here x g = by-source-before r s h.hold.stays (take n ss) x (each-take (IsStep r.context.trees) ss n are) (each-get (IsStep r.context.trees) ss n x are g) (one x g)

    at : (k : ℕ) (x : DerivationStep) → slice_get ss k ≡ Some x → (k < n) ⊎ (n ≤ k) → k < n + 1 → IsBySource r (take k ss) x
    at k x g (inl b) l = h.sources k x b g
    at k x g (inr b) l =
        let e : n ≡ k = omega (arith, b, l) in
        subst (λ m. IsBySource r (take m ss) x) e (here x (ap (slice_get ss) e ∙ g))

pub all-checked : (r s : Evaluator) (ss : List DerivationStep) (n : ℕ) → length ss ≤ n → CheckedSoFar r s ss n → AreBySource r ss
all-checked r s ss n l h place t g = let b = below-length ss place t g in h.sources place t (omega (arith, l, b)) g
  where
    below-length : (xs : List DerivationStep) (i : ℕ) (x : DerivationStep) → slice_get xs i ≡ Some x → i < length xs
    below-length [] i x e = absurd cc
    below-length (y ∷ xs) zero x e = omega arith
    below-length (y ∷ xs) (suc i) x e = let k = below-length xs i x e in omega (arith, k)

-- One step that is checked.

pub step-by-source : (r n : Evaluator) → StaysBesideTable r n → (ss : List DerivationStep) (i : ℕ) (s : DerivationStep) → slice_get ss i ≡ Some s → Each (IsStep r.context.trees) ss → (xs : List OfNumbers)
    → AreFoundBy r n (take i ss) s.nested.items s.key xs → IsSureOfOne xs s.source s.response → (t : DerivationStep) → slice_get ss i ≡ Some t → IsBySource r (take i ss) t
step-by-source r n x ss i s there are xs found one t g = subst (IsBySource r (take i ss)) (get-same ss i s t there g) (found-source r n x (take i ss) s (each-get (IsStep r.context.trees) ss i s are there) xs found one)

pub step-refused : (r n : Evaluator) → StaysBesideTable r n → AreDistinct n.context.trees → (ss : List DerivationStep) (i : ℕ) (s : DerivationStep) → slice_get ss i ≡ Some s → Each (IsStep r.context.trees) ss → (xs : List OfNumbers) → AreCandidates n.context.trees xs
    → AreFoundBy r n (take i ss) s.nested.items s.key xs → (IsSureOfOne xs s.source s.response → ⊥) → OneIsNotBySource r ss
step-refused r n x distinct ss i s there are xs fit found never =
    let is = each-get (IsStep r.context.trees) ss i s are there in
    record { place = i; step = s; there = there; refused = found-refused r n x distinct (take i ss) s is (step-stays r.context.trees n.context.trees x.grows.kept s is) xs fit found never }

-- What is found of an evaluator with other goals.

pub found-here : (r s n : Evaluator) (ss : List DerivationStep) (places : List ℕ) (k : GoalKey) (xs : List OfNumbers) → StaysBesideTable r s → s.context ≡ r.context → IsTableAt r.context.trees ss places (table_of s)
    → may_be_asked (key_seen r.context.trees k) ≡ true → IsListed s (table_of s) (key_seen s.context.trees k) (candidates_of n.context.trees xs) → AreFoundBy r n ss places k xs
found-here r s n ss places k xs x same at asked listed =
    let key : key_seen s.context.trees k ≡ key_seen r.context.trees k = ap (λ (c : Context). key_seen c.trees k) same in
    found_listed (record { table = table_of s; entered = at; asked = asked; list = listed-before r s x (table_of s) (table_of s) refl (key_seen s.context.trees k) (key_seen r.context.trees k) key (candidates_of n.context.trees xs) listed })

-- The steps that are answered are by their sources for an evaluator before.
pub were-by-source : (r m n : Evaluator) (ss : List DerivationStep) → StaysBesideTable r m → StaysBesideTable m n → Each (IsStep m.context.trees) ss → AreBySource m ss → WereBySource r n ss
were-by-source r m n ss g h are by = record { middle = m; since = g; until = h; are = are; sources = by }

pub were-since : (r s n : Evaluator) (ss : List DerivationStep) → StaysBesideTable r s → WereBySource s n ss → WereBySource r n ss
were-since r s n ss x h = record { middle = h.middle; since = stays-trans x h.since; until = h.until; are = h.are; sources = h.sources }

pub were-until : (r n t : Evaluator) (ss : List DerivationStep) → StaysBesideTable n t → WereBySource r n ss → WereBySource r t ss
were-until r n t ss x h = record { middle = h.middle; since = h.since; until = stays-trans h.until x; are = h.are; sources = h.sources }

pub some-imply : {A : Type 0} (o : Option A) (P Q : A → Type 0) → ((x : A) → P x → Q x) → IfSome o P → IfSome o Q
some-imply None P Q f h = tt
some-imply (Some x) P Q f h = f x h
