-- The answer of an equation is most general, and a refused equation has no solution.
use Rattle.std.proofs.Common.{◌≡◌, ◌≤◌, ◌<◌, ℕ, zero, suc, Bool, true, false, not, Option, Some, None, List, [], ◌∷◌, ◌++◌, get_or, refl, sym, ap, subst, ◌∙◌, arith, if◌then◌else◌}
use Rattle.std.specs.Option.{unwrap_or, option_map}
use Rattle.std.proofs.lemmas.Option.{slice_get_within}
use Rattle.std.proofs.lemmas.List.Elements.{All-cons, All-head, All-nil}
use Rattle.ir_trees.specs.declared.ir.heads.Head.{Head}
use Rattle.ir_trees.specs.declared.ir.heads.Head.TheVariants as H
use Rattle.ir_trees.specs.declared.ir.heads.Variable.{Variable}
use Rattle.ir_trees.specs.Syntax.Trees.{Forest, none, tree, Tree, erase, erased_head, holds}
use Rattle.ir_trees.specs.Instantiation.Folding.{leaf}
use Rattle.ir_trees.specs.Unification.Substitutions.{Substitution, IsAllowed, IsAllowedBinding, lookup, apply, alone}
use Rattle.candidate_eval.specs.declared.eval.variable.VariableKind.TheVariants.{Term}
use Rattle.candidate_eval.specs.Judges.States.{State, VariableInfo, value_in, value_at, resolved, has_kind}
use Rattle.candidate_eval.specs.Judges.Alike.{info}
use Rattle.candidate_eval.specs.Judges.Soundness.{Live, IsSound, IsSolution, AgreesOn, Within, IsLater, AreLeaves, is_strange, has_value, universes, universe_in, is_variable_above, variable_tree}
use Rattle.candidate_eval.specs.Judges.Lawful.{HasLeafValues, AreSides, Solves, IsKept}
use Rattle.candidate_eval.proofs.Marks.Holds.{holds_parts}
use Rattle.rounds_judge.specs.Aliases.Listed.{Listing}
use Rattle.rounds_judge.specs.Equations.Equating.{Pair, Visit, Done, Refused, Left, visited, looked, count_unbound, size_of_pairs, enough, looks, equated}
use Rattle.rounds_judge.specs.Equations.Standing.{IsListing, PairStands, Stands, IsPlain, ArePlain, IsSolvedBy, SolvesAll}
use Rattle.rounds_judge.proofs.States.Later.{has_info, kind_there, no_value, value_as_is, later_itself}
use Rattle.rounds_judge.proofs.Equations.Looks.{looked_keeps, visited_stands, visited_later, start_stands}
use Rattle.rounds_judge.proofs.States.Bound.{same_sort_itself}
use Rattle.rounds_judge.proofs.Equations.Ends.{visited_less}
use Rattle.rounds_judge.proofs.Unifiers.Putting.{put_in, assigned, valued_is, erased_row}
use Rattle.rounds_judge.proofs.Equations.Offered.{is_unknown}
use Rattle.rounds_judge.proofs.Unifiers.Solving.{value_under, IsMet, made, made_is, kind_is}
use Rattle.rounds_judge.proofs.Unifiers.Carrying.{Equals, Solved, Carried, look_carries}
use Rattle.rounds_judge.proofs.Equations.Staying.{Plainly, look_stays}
use Rattle.rounds_judge.proofs.Unifiers.Closing.{EndEqual, looked_closes}
use Rattle.rounds_judge.proofs.Unifiers.Further.{lookup_allowed, lookup_append, allowed_append, instance_of, instance_fits, instance_closed, instance_low, apply_agree, Choice, chosen, lookup_chosen, chosen_allowed}

-- A solution solves the state, so far as what counts says.
pub solution_met : (S : State) (L : Live) (s : Substitution) → IsSolution S L s → IsMet S L s
solution_met S L s h = record { allowed = λ v k. lookup_allowed (universes S) s h.allowed v; extends = h.extends }

-- All looks

pub looked_carries : (l : Listing) → IsListing l → (L : Live) (s : Substitution) (n : ℕ) (S U : State) (ps : List Pair) → Stands S L ps → ArePlain S L ps → Solved S L ps s → looked l n S ps ≡ Some U → IsMet U L s
looked_carries l listing L s zero S U ps st pl so e = cc
looked_carries l listing L s (suc n) S U ps st pl so e =
    at (visited l S ps) refl (λ T more st pl so e. looked_carries l listing L s n T U more st pl so e) (look_stays l listing S L ps st pl) (look_carries l listing S L ps s st pl so) e
  where
    at : (V : Visit) → visited l S ps ≡ V → ((T : State) (more : List Pair) → Stands T L more → ArePlain T L more → Solved T L more s → looked l n T more ≡ Some U → IsMet U L s)
        → Plainly L V → Carried L s V → elim V [ Done ↦ Some S | Refused ↦ None | Left T more ↦ looked l n T more ] ≡ Some U → IsMet U L s
    at Done f ih p c e = let same : S ≡ U = cc in subst (λ U. IsMet U L s) same so.met
    at Refused f ih p c e = absurd c
    at (Left T more) f ih p c e = ih T more (visited_stands l listing L S T ps more st f) p c e

pub refused_unsolved : (l : Listing) → IsListing l → (L : Live) (s : Substitution) (n : ℕ) (S : State) (ps : List Pair) → looks l S ps ≤ n → Stands S L ps → ArePlain S L ps → Solved S L ps s → looked l n S ps ≡ None → ⊥
refused_unsolved l listing L s zero S ps enough_looks st pl so e = none_there (count_unbound S.variables) (size_of_pairs l S ps) enough_looks
  where
    none_there : (u n : ℕ) → enough u n ≤ 0 → ⊥
    none_there zero n h = omega (arith, h)
    none_there (suc u) n h = omega (arith, h)
refused_unsolved l listing L s (suc n) S ps enough_looks st pl so e =
    at (visited l S ps) refl (λ T more en st pl so e. refused_unsolved l listing L s n T more en st pl so e) (look_stays l listing S L ps st pl) (look_carries l listing S L ps s st pl so) e
  where
    fewer : (a b : ℕ) → a < b → b ≤ suc n → a ≤ n
    fewer a b f g = omega (arith, f, g)

    at : (V : Visit) → visited l S ps ≡ V → ((T : State) (more : List Pair) → looks l T more ≤ n → Stands T L more → ArePlain T L more → Solved T L more s → looked l n T more ≡ None → ⊥)
        → Plainly L V → Carried L s V → ◌≡◌ {A = Option State} (elim V [ Done ↦ Some S | Refused ↦ None | Left T more ↦ looked l n T more ]) None → ⊥
    at Done f ih p c e = cc
    at Refused f ih p c e = c
    at (Left T more) f ih p c e =
        ih T more (fewer (looks l T more) (looks l S ps) (visited_less l listing L S T ps more st f) enough_looks) (visited_stands l listing L S T ps more st f) p c e

-- Substitutions that say the same of what counts make the same of its trees.
pub agree_made : (S : State) (L : Live) (s r : Substitution) → AgreesOn S L s r → (ts : Forest) → holds (is_strange S L) ts ≡ false → made r ts ≡ made s ts
agree_made S L s r agrees none k = refl
agree_made S L s r agrees (tree h a q) k =
    let p = holds_parts (is_strange S L) h a q k in
    at h p.here (agree_made S L s r agrees a p.under) (agree_made S L s r agrees q p.others)
  where
    at : (h : Head) → is_strange S L h ≡ false → made r a ≡ made s a → made r q ≡ made s q → made r (tree h a q) ≡ made s (tree h a q)
    at (H.Infer v) k below rest =
        let i = has_info (L v.number) (Term v.sort) (info S v.number) k in
        let kind : i.0.kind ≡ Term v.sort = kind_is i.0 v.sort (sym (ap (has_kind (Term v.sort)) i.1) ∙ kind_there (L v.number) (Term v.sort) (info S v.number) k) in
        erased_row (value_under r v) (value_under s v) (put_in (assigned r) q) (put_in (assigned s) q) (agrees v i.0 i.2 i.1 kind) rest
    at h k below rest = ap (λ f. tree (erased_head h) f (made r q)) below ∙ ap (tree (erased_head h) (made s a)) rest

-- What solves the state, so far as what counts says, is made a solution of all that counts in a wider way.
module _ (S T : State) (L M : Live) (later : IsLater S T L) (within : Within S L M) (sound : IsSound T L) (wide : IsSound T M) (leafy : HasLeafValues T L) (s : Substitution) (m : IsMet T L s) where
  -- what counts gets what it had
  abbrev own_choice : Choice
  own_choice v i = if L v.number then Some (value_under s v) else None

  abbrev base : Substitution
  base = chosen own_choice 0 T.variables

  -- and what has a value gets that
  abbrev value_choice : Choice
  value_choice v i = if M v.number then option_map (instance_of base) i.value else None

  abbrev further : Substitution
  further = chosen value_choice 0 T.variables ++ base

  base_own : (v : Variable) (i : VariableInfo) (o : Tree) → L v.number ≡ true → info T v.number ≡ Some i → i.kind ≡ Term v.sort → lookup base v o ≡ value_under s v
  base_own v i o c there kind =
      lookup_chosen own_choice T v i o there kind ∙ ap (λ b. unwrap_or (if b then Some (value_under s v) else None) o) c

  further_is : (v : Variable) (i : VariableInfo) (o : Tree) → info T v.number ≡ Some i → i.kind ≡ Term v.sort → lookup further v o ≡ unwrap_or (value_choice v i) (lookup base v o)
  further_is v i o there kind = lookup_append (chosen value_choice 0 T.variables) base v o ∙ lookup_chosen value_choice T v i (lookup base v o) there kind

  further_valued : (v : Variable) (i : VariableInfo) (t o : Tree) → M v.number ≡ true → info T v.number ≡ Some i → i.kind ≡ Term v.sort → i.value ≡ Some t → lookup further v o ≡ instance_of base t
  further_valued v i t o c there kind value =
      further_is v i o there kind ∙ ap (λ b. unwrap_or (if b then option_map (instance_of base) i.value else None) (lookup base v o)) c
      ∙ ap (λ x. unwrap_or (option_map (instance_of base) x) (lookup base v o)) value

  further_free : (v : Variable) (i : VariableInfo) (o : Tree) → info T v.number ≡ Some i → i.kind ≡ Term v.sort → i.value ≡ None → lookup further v o ≡ lookup base v o
  further_free v i o there kind value =
      further_is v i o there kind ∙ ap (λ x. unwrap_or (if M v.number then option_map (instance_of base) x else None) (lookup base v o)) value ∙ at (M v.number)
    where
      at : (b : Bool) → unwrap_or (if b then None else None) (lookup base v o) ≡ lookup base v o
      at true = refl
      at false = refl

  -- it is allowed

  known_own : (v : Variable) (i : VariableInfo) → L v.number ≡ true → info T v.number ≡ Some i → i.kind ≡ Term v.sort → is_unknown T L (H.Infer v) ≡ false
  known_own v i c there kind = rw (c, there, kind) (ap not (same_sort_itself v.sort))

  base_allowed : IsAllowed (universes T) base
  base_allowed = chosen_allowed own_choice (universes T) T (λ i v t there kind c. at i v t there kind (L v.number) refl c)
    where
      at : (i : VariableInfo) (v : Variable) (t : Tree) → info T v.number ≡ Some i → i.kind ≡ Term v.sort → (b : Bool) → L v.number ≡ b → (if b then Some (value_under s v) else None) ≡ Some t
          → IsAllowedBinding (universes T) (record { variable = v; value = t })
      at i v t there kind true c e =
          let same : value_under s v ≡ t = cc in
          subst (λ t. IsAllowedBinding (universes T) (record { variable = v; value = t })) same (m.allowed v (known_own v i c there kind))
      at i v t there kind false c e = cc

  instance_allowed : (i : VariableInfo) (v : Variable) (t : Tree) → M v.number ≡ true → info T v.number ≡ Some i → i.kind ≡ Term v.sort → i.value ≡ Some t
      → IsAllowedBinding (universes T) (record { variable = v; value = instance_of base t })
  instance_allowed i v t c there kind value =
      let ok = wide.allowed v.sort v.number i t c there value kind in
      let same : universe_in (info T v.number) ≡ i.universe = ap universe_in there in
      record {
        fits = instance_fits (universes T) base base_allowed v.sort t.head (apply base t.children) ok.fits;
        is_closed = instance_closed (universes T) base base_allowed 0 (alone t) ok.is_closed;
        in_universe = instance_low (universes T) base base_allowed (universe_in (info T v.number)) (alone t) ok.in_universe
            (subst (λ u. holds (is_variable_above (universes T) u) (erase (alone t)) ≡ false) (sym same) (wide.no_higher v.number i t c there value));
      }

  values_allowed : IsAllowed (universes T) (chosen value_choice 0 T.variables)
  values_allowed = chosen_allowed value_choice (universes T) T (λ i v t there kind c. at i v t there kind (M v.number) refl i.value refl c)
    where
      at : (i : VariableInfo) (v : Variable) (t : Tree) → info T v.number ≡ Some i → i.kind ≡ Term v.sort → (b : Bool) → M v.number ≡ b → (x : Option Tree) → i.value ≡ x
          → (if b then option_map (instance_of base) x else None) ≡ Some t → IsAllowedBinding (universes T) (record { variable = v; value = t })
      at i v t there kind true c (Some y) value e =
          let same : instance_of base y ≡ t = cc in
          subst (λ t. IsAllowedBinding (universes T) (record { variable = v; value = t })) same (instance_allowed i v y c there kind value)
      at i v t there kind true c None value e = cc
      at i v t there kind false c x value e = cc

  -- it extends the values

  free_agree : (v : Variable) → is_strange T M (H.Infer v) ≡ false → has_value T (H.Infer v) ≡ false → (o : Tree) → lookup further v o ≡ lookup base v o
  free_agree v k none_there o =
      let i = has_info (M v.number) (Term v.sort) (info T v.number) k in
      let there : has_kind (Term v.sort) (info T v.number) ≡ true = kind_there (M v.number) (Term v.sort) (info T v.number) k in
      let kind : i.0.kind ≡ Term v.sort = kind_is i.0 v.sort (sym (ap (has_kind (Term v.sort)) i.1) ∙ there) in
      further_free v i.0 o i.1 kind (sym (ap value_in i.1) ∙ sym (value_as_is T (Term v.sort) v.number there) ∙ no_value (value_at T (H.Infer v)) none_there)

  further_extends : (v : Variable) (i : VariableInfo) (t : Tree) → M v.number ≡ true → info T v.number ≡ Some i → i.kind ≡ Term v.sort → i.value ≡ Some t
      → erase (apply further (variable_tree v)) ≡ erase (apply further (alone t))
  further_extends v i t c there kind value =
      ap (λ (x : Tree). erase (alone x)) (further_valued v i t (leaf (H.Infer v)) c there kind value)
      ∙ sym (ap erase (apply_agree (is_strange T M) (has_value T) further base free_agree (alone t) (wide.known v.number i t c there value) (wide.is_resolved v.number i t c there value)))

  -- it says the same of what counted

  base_made : (ts : Forest) → holds (is_strange T L) ts ≡ false → made base ts ≡ made s ts
  base_made ts k = agree_made T L s base (λ v i c there kind. ap (λ (x : Tree). erase (alone x)) (base_own v i (leaf (H.Infer v)) c there kind)) ts k

  agrees : AgreesOn S L s further
  agrees v i c there kind =
      let n = later.infos v.number i there in
      at n.now n.there (n.kind ∙ kind) n.now.value refl
    where
      at : (j : VariableInfo) → info T v.number ≡ Some j → j.kind ≡ Term v.sort → (x : Option Tree) → j.value ≡ x → erase (apply further (variable_tree v)) ≡ erase (apply s (variable_tree v))
      at j now kind None value =
          ap (λ (x : Tree). erase (alone x)) (further_free v j (leaf (H.Infer v)) now kind value ∙ base_own v j (leaf (H.Infer v)) c now kind)
      at j now kind (Some t) value =
          let l : AreLeaves (alone t) = leafy v.number j t c now value in
          ap (λ (x : Tree). erase (alone x)) (further_valued v j t (leaf (H.Infer v)) (within v.number (slice_get_within S.variables v.number i there) c) now kind value)
          ∙ made_is base (alone t) l ∙ base_made (alone t) (sound.known v.number j t c now value) ∙ sym (made_is s (alone t) l)
          ∙ sym (m.extends v j t c now kind value)

  pub kept : IsKept S T L M s
  kept = record {
    further = further;
    solution = record { allowed = allowed_append (universes T) (chosen value_choice 0 T.variables) base values_allowed base_allowed; extends = further_extends };
    agrees = agrees;
  }

-- Each sound state has a solution: where nothing counts nothing is asked of one, and that makes one of all that counts.

abbrev nothing_counts : Live
nothing_counts n = false

sound_of_none : (S : State) → IsSound S nothing_counts
sound_of_none S = record { allowed = λ s n i t c. cc; no_higher = λ n i t c. cc; is_resolved = λ n i t c. cc; known = λ n i t c. cc; universes = λ n i c. cc }

pub has_solution : (S : State) (L : Live) → IsSound S L → (s : Substitution) × IsSolution S L s
has_solution S L wide =
    let none_there : IsSolution S nothing_counts [] = record { allowed = tt; extends = λ v i t c. cc } in
    let k = kept S S nothing_counts L (later_itself S nothing_counts (sound_of_none S)) (λ n less c. cc) (sound_of_none S) wide (λ n i t c. cc) [] (solution_met S nothing_counts [] none_there) in
    (k.further, k.solution)

-- One look

pub solves_all : (S : State) (L : Live) (ps : List Pair) (s : Substitution) → ArePlain S L ps → SolvesAll S L ps s → Solved S L ps s
solves_all S L ps s pl h = record { met = solution_met S L s h.solution; equal = λ k d lt. at (get_or ps k d) (pl.pairs k d lt) (h.equal k d lt) }
  where
    at : (p : Pair) → IsPlain S p → IsSolvedBy s p → Equals s p
    at p pl e = sym (made_is s p.left pl.left_has_leaves) ∙ e ∙ made_is s p.right pl.right_has_leaves

-- Where a look refuses, nothing solves all.
pub look_refuses : (l : Listing) → IsListing l → (S : State) (L : Live) (ps : List Pair) (s : Substitution) → Stands S L ps → ArePlain S L ps → visited l S ps ≡ Refused → SolvesAll S L ps s → ⊥
look_refuses l listing S L ps s st pl e h = subst (Carried L s) e (look_carries l listing S L ps s st pl (solves_all S L ps s pl h))

-- What solved all before a look is, but for what doesn't count, what solves all after it.
pub record StillSolved (S T : State) (L : Live) (more : List Pair) (s : Substitution) : Type 0 where
  pub further : Substitution
  pub solves : SolvesAll T L more further
  pub agrees : AgreesOn S L s further

pub look_solves : (l : Listing) → IsListing l → (S T : State) (L : Live) (ps more : List Pair) (s : Substitution) → Stands S L ps → ArePlain S L ps → visited l S ps ≡ Left T more → SolvesAll S L ps s
    → StillSolved S T L more s
look_solves l listing S T L ps more s st pl e h =
    let so : Solved T L more s = subst (Carried L s) e (look_carries l listing S L ps s st pl (solves_all S L ps s pl h)) in
    let plain : ArePlain T L more = subst (Plainly L) e (look_stays l listing S L ps st pl) in
    let after = visited_stands l listing L S T ps more st e in
    let k = kept T T L L (later_itself T L after.sound) (λ n lt c. c) after.sound after.sound plain.values s so.met in
    record {
      further = k.further;
      solves = record { solution = k.solution; equal = λ n d lt. at k (get_or more n d) (after.pairs n d lt) (plain.pairs n d lt) (so.equal n d lt) };
      agrees = λ v i c there kind. let n = (visited_later l listing L S T ps more st e).infos v.number i there in k.agrees v n.now c n.there (n.kind ∙ kind);
    }
  where
    at : (k : IsKept T T L L s) → (p : Pair) → PairStands T L p → IsPlain T p → Equals s p → IsSolvedBy k.further p
    at k p a pl e =
        made_is k.further p.left pl.left_has_leaves ∙ agree_made T L s k.further k.agrees p.left a.left ∙ e
        ∙ sym (agree_made T L s k.further k.agrees p.right a.right) ∙ sym (made_is k.further p.right pl.right_has_leaves)

-- Two rows of trees

module _ (l : Listing) (listing : IsListing l) (S : State) (L : Live) (a b : Forest) (sides : AreSides S L a b) where
  abbrev start : Pair
  start = record { scope = []; left = a; right = b }

  starts : Stands S L (start ∷ [])
  starts = start_stands S L a b sides.sound sides.fits sides.left sides.right

  plain : ArePlain S L (start ∷ [])
  plain = record {
    pairs = All-cons (IsPlain S) start [] (record {
      left_has_no_alias = sides.left_has_no_alias;
      right_has_no_alias = sides.right_has_no_alias;
      left_has_leaves = sides.left_has_leaves;
      right_has_leaves = sides.right_has_leaves;
    }) (All-nil (IsPlain S));
    values = sides.values_have_leaves;
  }

  solved : (s : Substitution) → Solves S L a b s → Solved S L (start ∷ []) s
  solved s h = record {
    met = solution_met S L s h.solution;
    equal = All-cons (Equals s) start [] (sym (made_is s a sides.left_has_leaves) ∙ h.equal ∙ made_is s b sides.right_has_leaves) (All-nil (Equals s));
  }

  -- The state in which both are equal makes them equal.
  pub equated_equal : (T : State) → equated l S a b ≡ Some T → erase (resolved T a) ≡ erase (resolved T b)
  equated_equal T e =
      let i = looked_closes l listing L (looks l S (start ∷ [])) S T (start ∷ []) starts plain e in
      ap erase (valued_is (value_at T) a) ∙ All-head (EndEqual T) start [] i.equal ∙ sym (ap erase (valued_is (value_at T) b))

  -- What solves the equation is kept there.
  pub equated_general : (T : State) (M : Live) → equated l S a b ≡ Some T → Within S L M → IsSound T M → (s : Substitution) → Solves S L a b s → IsKept S T L M s
  equated_general T M e within wide s h =
      let n : ℕ = looks l S (start ∷ []) in
      let k = looked_keeps l listing L n S T (start ∷ []) starts e in
      kept S T L M k.later within k.sound wide (looked_closes l listing L n S T (start ∷ []) starts plain e).values s
      (looked_carries l listing L s n S T (start ∷ []) starts plain (solved s h) e)

  -- Rows that can't be made equal have no solution.
  pub unequated_unsolved : equated l S a b ≡ None → (s : Substitution) → Solves S L a b s → ⊥
  unequated_unsolved e s h =
      let n : ℕ = looks l S (start ∷ []) in
      refused_unsolved l listing L s n S (start ∷ []) (omega arith) starts plain (solved s h) e
