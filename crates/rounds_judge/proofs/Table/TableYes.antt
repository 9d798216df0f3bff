-- A goal to which a Yes of the table was given is granted at every later state.
use Rattle.std.proofs.Math.Nat.{le_trans}
use Rattle.std.proofs.Common.{◌≡◌, ◌≤◌, ◌<◌, ℕ, suc, Bool, true, false, ◌&&◌, ◌++◌, List, [], ◌∷◌, length, map, Option, Some, None, arith, refl, sym, ap, subst, if◌then◌else◌}
use Rattle.std.specs.List.{Contains}
use Rattle.std.proofs.lemmas.Bool.{and_parts}
use Rattle.std.proofs.lemmas.Option.{slice_get_within}
use Rattle.ir_trees.specs.Syntax.Trees.{Forest, none, tree, join, holds, is_number}
use Rattle.ir_trees.proofs.Instantiation.Folding.{begin}
use Rattle.candidate_eval.specs.contracts.eval.variable.CanonicalVarPartialEq.TheImpl as variable
use Rattle.candidate_eval.specs.declared.eval.variable.CanonicalVar.{CanonicalVar}
use Rattle.candidate_eval.specs.Judges.Alike.{info}
use Rattle.candidate_eval.specs.Derivations.ImplRules.{TraitGoal}
use Rattle.candidate_eval.specs.Outcomes.Responses.{Response}
use Rattle.candidate_eval.specs.Judges.Soundness.{Live, IsSound, ValuesFit, IsLater, is_strange, universes, universe_in}
use Rattle.candidate_eval.specs.Judges.States.{State, VariableInfo, Values, valued, valued_tree, value_at, resolved, next}
use Rattle.rounds_judge.specs.Equations.Binding.{numbered}
use Rattle.rounds_judge.specs.Equations.Equating.{equated}
use Rattle.rounds_judge.specs.Table.GoalTable.{Entry, GoalTable, verdict_in, may_be_given}
use Rattle.rounds_judge.specs.Table.Keys.{Key, same_key, key_at, numbers_at, goal_trees, over_trees}
use Rattle.rounds_judge.specs.Aliases.Listed.{Listing}
use Rattle.rounds_judge.specs.Obligations.Responding.{renumbered, open_variable}
use Rattle.rounds_judge.specs.Equations.Standing.{IsListing}
use Rattle.rounds_judge.specs.Aliases.Congruence.{Same}
use Rattle.rounds_judge.specs.Table.TableGranted.{answered, IsGrantedByYes}
use Rattle.rounds_judge.specs.Table.TableSettling.{own_variable, with_open, named_at, lift_to, translation, variables_row, is_bare, are_bare, ready_for, given}
use Rattle.rounds_judge.specs.Table.Verdicts.{Verdict, Yes}
use Rattle.rounds_judge.proofs.Aliases.Equated.{equated_equal}
use Rattle.rounds_judge.proofs.States.Later.{later_along, fits_later, resolved_known}
use Rattle.rounds_judge.proofs.Equations.Looks.{SoundLater, regions_keep}
use Rattle.rounds_judge.proofs.Obligations.Renumbering.{is_missing, all_seen}
use Rattle.rounds_judge.proofs.Obligations.Settling.{lead_equated}
use Rattle.rounds_judge.proofs.Table.TableAnswers.{IsLow, AreLow, value, value_allowed, answered_same}
use Rattle.rounds_judge.proofs.Table.TableFresh.{AreNumbersOf, CountsNew, new_info, one_longer, new_there, lead_open, lead_named, numbers_later, own, with_new_universes, lead_ready, ready_numbers}
use Rattle.rounds_judge.proofs.Table.TableGiving.{all_own, row_known, values_known, values_strange}
use Rattle.rounds_judge.proofs.Table.TableKeys.{key_is, variable_is}
use Rattle.rounds_judge.proofs.Table.TableSettled.{ReadsWell, apart, key_numbers, key_low}

-- The entry whose verdict is read

record IsEntered {W : Type 0} (K : GoalTable W) (k : Key) (v : Verdict W) : Type 0 where
  entry : Entry W
  entered : Contains K entry
  verdict : entry.verdict ≡ Some v
  key : entry.key ≡ k

is_entered : {W : Type 0} (K : GoalTable W) (k : Key) (v : Verdict W) → verdict_in K k ≡ Some v → IsEntered K k v
is_entered [] k v e = cc
is_entered {W} (x ∷ xs) k v e = at (same_key x.key k) refl (is_entered xs k v) e
  where
    further : (a b : ℕ) → a < b → suc a < suc b
    further a b h = omega (arith, h)

    at : (b : Bool) → same_key x.key k ≡ b → (verdict_in xs k ≡ Some v → IsEntered xs k v) → (if b then x.verdict else verdict_in xs k) ≡ Some v → IsEntered (x ∷ xs) k v
    at true s f e = record { entry = x; entered = (0, omega arith, refl); verdict = e; key = key_is x.key k s }
    at false s f e = let i = f e in record { entry = i.entry; entered = (suc i.entered.0, further i.entered.0 (length xs) i.entered.1, i.entered.2); verdict = i.verdict; key = i.key }

-- Universes of what stands for the variables that are left open

low_later : (S T : State) (L : Live) (c : CanonicalVar) (n : ℕ) → IsLater S T L → IsLow S c n → IsLow T c n
low_later S T L c n later x = record {
  within = let longer = later.longer in let less = x.within in omega (arith, longer, less);
  low = le_trans (later.universes n x.within) x.low;
}

lows_later : (S T : State) (L : Live) (cs : List CanonicalVar) (ns : List ℕ) → IsLater S T L → AreLow S cs ns → AreLow T cs ns
lows_later S T L [] [] later a = tt
lows_later S T L (c ∷ cs) (n ∷ ns) later a = (low_later S T L c n later a.0, lows_later S T L cs ns later a.1)
lows_later S T L [] (n ∷ ns) later a = absurd a
lows_later S T L (c ∷ cs) [] later a = absurd a

abbrev OwnLow : State → List CanonicalVar → List (Option ℕ) → Type 0
OwnLow S [] [] = Unit {0}
OwnLow S (c ∷ cs) (Some n ∷ os) = IsLow S c n × OwnLow S cs os
OwnLow S (c ∷ cs) (None ∷ os) = OwnLow S cs os
OwnLow S _ _ = ⊥

module _ (S : State) where
  key_lows : (L : Live) (ns : List ℕ) → AreNumbersOf S L (map (λ n. open_variable (info S n)) ns) ns → AreLow S (map (λ n. open_variable (info S n)) ns) ns
  key_lows L [] a = tt
  key_lows L (n ∷ ns) a = (record { within = slice_get_within S.variables n a.0.entry a.0.there; low = at (info S n) }, key_lows L ns a.1)
    where
      at : (o : Option VariableInfo) → universe_in o ≤ (open_variable o).universe
      at None = omega arith
      at (Some i) = omega arith

  own_low : (vs : List CanonicalVar) (ns : List ℕ) (ts : Forest) (j : ℕ) (c : CanonicalVar) → AreLow S vs ns → (n : ℕ) → own_variable vs ns ts j c ≡ Some n → IsLow S c n
  own_low (v ∷ vs) (m ∷ ms) (tree h below rest) j c a n e =
      at (is_number j h && variable.eq-value.it v c) refl (λ f. own_low vs ms rest j c a.1 n f) e
    where
      at : (b : Bool) → (is_number j h && variable.eq-value.it v c) ≡ b → (own_variable vs ms rest j c ≡ Some n → IsLow S c n)
          → (if b then Some m else own_variable vs ms rest j c) ≡ Some n → IsLow S c n
      at true f ih e =
          let is : v ≡ c = variable_is v c (and_parts (is_number j h) (variable.eq-value.it v c) f).1 in
          subst (IsLow S c) (let same : m ≡ n = cc in same) (subst (λ x. IsLow S x m) is a.0)
      at false f ih e = ih e
  own_low [] [] ts j c a n e = cc
  own_low (v ∷ vs) (m ∷ ms) none j c a n e = cc
  own_low [] (m ∷ ms) ts j c a n e = absurd a
  own_low (v ∷ vs) [] ts j c a n e = absurd a

  all_own_low : (vs : List CanonicalVar) (ns : List ℕ) (ts : Forest) → AreLow S vs ns → (j : ℕ) (cs : List CanonicalVar) → OwnLow S cs (numbered (own_variable vs ns ts) j cs)
  all_own_low vs ns ts a j [] = tt
  all_own_low vs ns ts a j (c ∷ cs) = at (own_variable vs ns ts j c) refl (all_own_low vs ns ts a (suc j) cs)
    where
      at : (o : Option ℕ) → own_variable vs ns ts j c ≡ o → OwnLow S cs (numbered (own_variable vs ns ts) (suc j) cs) → OwnLow S (c ∷ cs) (o ∷ numbered (own_variable vs ns ts) (suc j) cs)
      at None e more = more
      at (Some n) e more = (own_low vs ns ts j c a n e, more)

own_low_later : (S T : State) (L : Live) (cs : List CanonicalVar) (os : List (Option ℕ)) → IsLater S T L → OwnLow S cs os → OwnLow T cs os
own_low_later S T L [] [] later a = tt
own_low_later S T L (c ∷ cs) (Some n ∷ os) later a = (low_later S T L c n later a.0, own_low_later S T L cs os later a.1)
own_low_later S T L (c ∷ cs) (None ∷ os) later a = own_low_later S T L cs os later a
own_low_later S T L [] (o ∷ os) later a = absurd a
own_low_later S T L (c ∷ cs) [] later a = absurd a

named_lows : (S : State) (L : Live) (cs : List CanonicalVar) (os : List (Option ℕ)) → IsSound S L → OwnLow S cs os → AreLow (named_at S cs os).0 cs (named_at S cs os).1
named_lows S L [] [] sound a = tt
named_lows S L (c ∷ cs) (Some n ∷ os) sound a = (low_later S (named_at S cs os).0 L c n (lead_named S L cs os sound).later a.0, named_lows S L cs os sound a.1)
named_lows S L (c ∷ cs) (None ∷ os) sound a =
    let R : State = with_open S c in
    let first = lead_open S c L sound in
    let here : IsLow R c (length S.variables) = record {
      within = let longer = one_longer (new_info S c) S.variables in omega (arith, longer);
      low = let is = ap universe_in (new_there (new_info S c) S.variables) in omega (arith, is);
    } in (
      low_later R (named_at R cs os).0 L c (length S.variables) (lead_named R L cs os first.sound).later here,
      named_lows R L cs os first.sound (own_low_later S R L cs os first.later a),
    )
named_lows S L [] (o ∷ os) sound a = absurd a
named_lows S L (c ∷ cs) [] sound a = absurd a

-- Rows, one after another

valued_join : (v : Values) (a b : Forest) → valued v (join a b) ≡ join (valued v a) (valued v b)
valued_join v none b = refl
valued_join v (tree h below rest) b = ap (begin (valued_tree v (record { head = h; children = below }))) (valued_join v rest b)

bare_apart : (a b : Forest) → are_bare (join a b) ≡ true → (are_bare a ≡ true) × (are_bare b ≡ true)
bare_apart none b e = (refl, e)
bare_apart (tree h below rest) b e =
    let p = and_parts (is_bare h below) (are_bare below && are_bare (join rest b)) e in
    let q = and_parts (are_bare below) (are_bare (join rest b)) p.1 in
    let r = bare_apart rest b q.1 in
    (rw (p.0, q.0, r.0) refl, r.1)

-- What was given

module _ {W : Type 0} (K : GoalTable W) (reads : ReadsWell K) (l : Listing) (listing : IsListing l) (T : State) (M : Live) (sound_there : IsSound T M) (fits_there : ValuesFit T M)
    (S : State) (sound : IsSound S M) (fits : ValuesFit S M) (new : CountsNew S M) (g : TraitGoal) (known : holds (is_strange S M) (goal_trees g) ≡ false) (bare : are_bare (resolved S (goal_trees g)) ≡ true)
    (r : Response) (w : Option W) (read : verdict_in K (key_at S g) ≡ Some (Yes r w)) where
  abbrev k : Key
  k = key_at S g

  abbrev ns : List ℕ
  ns = numbers_at S g

  abbrev begun : State × List ℕ
  begun = ready_for S k ns r

  abbrev says : Values
  says = translation (lift_to begun.0 k r) begun.1

  abbrev row : Forest
  row = variables_row k.variables ns

  abbrev values : Forest
  values = valued says r.values

  ok : may_be_given k r ≡ true
  ok = reads k r w read

  numbers : AreNumbersOf S M k.variables ns
  numbers = key_numbers S M sound g known

  first : SoundLater S M begun.0
  first = lead_ready S M k ns r sound

  named : AreNumbersOf begun.0 M r.vars begun.1
  named = ready_numbers S M k ns r sound new (all_own S M k.variables ns r.values numbers 0 r.vars)

  lows : AreLow begun.0 r.vars begun.1
  lows = lows_later (named_at S r.vars (own S M k ns r sound)).0 begun.0 M r.vars begun.1 (with_new_universes S M k ns r sound).later
      (named_lows S M r.vars (own S M k ns r sound) sound (all_own_low S k.variables ns r.values (key_lows S M ns numbers) 0 r.vars))

  resolved_join : resolved S (goal_trees g) ≡ join (resolved S g.env) (resolved S g.reference.arguments)
  resolved_join = valued_join (value_at S) g.env g.reference.arguments

  bare_parts : (are_bare (resolved S g.env) ≡ true) × (are_bare (resolved S g.reference.arguments) ≡ true)
  bare_parts = bare_apart (resolved S g.env) (resolved S g.reference.arguments) (subst (λ ts. are_bare ts ≡ true) resolved_join bare)

  seen_parts : (holds (is_missing ns) (resolved S g.env) ≡ false) × (holds (is_missing ns) (resolved S g.reference.arguments) ≡ false)
  seen_parts = apart (is_missing ns) (resolved S g.env) (resolved S g.reference.arguments) (subst (λ ts. holds (is_missing ns) ts ≡ false) resolved_join (all_seen [] (resolved S (goal_trees g))))

  known_parts : (holds (is_strange S M) g.env ≡ false) × (holds (is_strange S M) g.reference.arguments ≡ false)
  known_parts = apart (is_strange S M) g.env g.reference.arguments known

  pub given_granted : (q : State) → given l S k ns r ≡ Some q → IsLater q T M → IsGrantedByYes K l (universes T) (over_trees (resolved T) g)
  given_granted q e after = at (equated l begun.0 row values) refl e
    where
      at : (o : Option State) → equated l begun.0 row values ≡ o → next o (λ R. Some (record R { regions = R.regions ++ map (valued_tree says) r.regions })) ≡ Some q
          → IsGrantedByYes K l (universes T) (over_trees (resolved T) g)
      at None f e = cc
      at (Some R) f e =
          let left = row_known begun.0 M k.variables ns (numbers_later S begun.0 M k.variables ns first.later numbers) in
          let right = values_known k r ok begun.0 M begun.1 named (let low = key_low S M sound g known in let newest = first.later.newest in omega (arith, newest, low)) in
          let fits_begun = fits_later first.later fits in
          let second = lead_equated l listing begun.0 R M row values first.sound fits_begun left right f in
          let R_third : State = record R { regions = R.regions ++ map (valued_tree says) r.regions } in
          let third = regions_keep R M (R.regions ++ map (valued_tree says) r.regions) second.sound in
          let is : R_third ≡ q = cc in
          let from_third : IsLater R_third T M = subst (λ q. IsLater q T M) (sym is) after in
          let from_second : IsLater R T M = later_along R R_third T M M second.sound (λ n l c. c) third.later from_third in
          let from_first : IsLater begun.0 T M = later_along begun.0 R T M M first.sound (λ n l c. c) second.later from_second in
          let later : IsLater S T M = later_along S begun.0 T M M sound (λ n l c. c) first.later from_first in
          let rows = equated_equal l listing T M fits_there begun.0 R row values first.sound fits_begun left right f from_second in
          let of = numbers_later begun.0 T M r.vars begun.1 from_first named in
          let low = lows_later begun.0 T M r.vars begun.1 from_first lows in
          let strange = values_strange k r ok in
          let entry = is_entered K k (Yes r w) read in
          let same = answered_same l listing T M sound_there fits_there k r (lift_to begun.0 k r) refl begun.1 strange of S ns rows M in
          let env = same (resolved S g.env) bare_parts.0 (resolved_known S M sound g.env known_parts.0) seen_parts.0 in
          let arguments = same (resolved S g.reference.arguments) bare_parts.1 (resolved_known S M sound g.reference.arguments known_parts.1) seen_parts.1 in
          let v = value l listing T M sound_there fits_there k r (lift_to begun.0 k r) refl begun.1 strange of in
          record {
            entry = entry.entry;
            entered = entry.entered;
            response = r;
            way = w;
            is_yes = entry.verdict;
            values = v;
            allowed = value_allowed l listing T M sound_there fits_there k r (lift_to begun.0 k r) refl begun.1 strange of low;
            same_trait = ap (λ (k : Key). k.goal.reference.trait) entry.key;
            same_polarity = ap (λ (k : Key). k.goal.polarity) entry.key;
            env = subst (λ (k : Key). Same l (answered r v k.goal.env) (resolved T g.env)) (sym entry.key) (subst (Same l (answered r v (renumbered ns (resolved S g.env)))) (later.values g.env known_parts.0) env);
            arguments = subst (λ (k : Key). Same l (answered r v k.goal.reference.arguments) (resolved T g.reference.arguments)) (sym entry.key)
                (subst (Same l (answered r v (renumbered ns (resolved S g.reference.arguments)))) (later.values g.reference.arguments known_parts.1) arguments);
          }
