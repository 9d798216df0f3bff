-- Two allowed substitutions, one for a state's trees and one for trees of fresh variables, put together: a solution of the state with the
-- fresh variables.
use Rattle.std.proofs.Common.{◌≡◌, ℕ, Bool, true, false, Option, Some, None, refl, sym, ap, subst, ◌∙◌, nat_lt}
use Rattle.std.specs.Prelude.{List, length}
use Rattle.std.specs.Option.{unwrap_or}
use Rattle.std.proofs.lemmas.Bool.{lt-ltb}
use Rattle.std.proofs.lemmas.Option.{slice_get_within}
use Rattle.ir_trees.specs.declared.ir.heads.Head.TheVariants as H
use Rattle.ir_trees.specs.declared.ir.heads.Variable.{Variable}
use Rattle.ir_trees.specs.Instantiation.Folding.{leaf}
use Rattle.ir_trees.specs.Unification.Substitutions.{IsAllowed, IsAllowedBinding, Substitution, Universes, alone, apply, is_placeholder_above, lookup}
use Rattle.ir_trees.specs.Syntax.Trees.{Forest, Kind, Tree, erase, holds}
use Rattle.ir_trees.proofs.Unification.Instances.{same_sort_is}
use Rattle.candidate_eval.specs.declared.eval.variable.VariableKind.{VariableKind}
use Rattle.candidate_eval.specs.declared.eval.variable.VariableKind.TheVariants.{Term, Region}
use Rattle.candidate_eval.specs.Judges.Alike.{info}
use Rattle.candidate_eval.specs.Judges.Soundness.{IsResolved, IsSolution, IsSound, Live, has_value, is_strange, is_variable_above, universe_in, universes}
use Rattle.candidate_eval.specs.Judges.States.{State, VariableInfo, has_kind, is_some, same_kind, value_at, value_in}
use Rattle.candidate_assembly.proofs.Refusals.KnownFresh.{fresher, info-kept, new-universe, old-info, valued-old, wider}
use Rattle.candidate_assembly.proofs.Refusals.KnownHeaders.{is_old}
use Rattle.candidate_assembly.proofs.Refusals.KnownInstances.{Choice, apply_agree, chosen, chosen_allowed, found, found_allowed, instance_closed, instance_fits, instance_low, instance_of, lookup_chosen, lookup_found}
use Rattle.candidate_assembly.proofs.Goals.Standing.{counted, kind-there}

-- Kinds and values of variables.

kind-same : (j k : VariableKind) → same_kind j k ≡ true → j ≡ k
kind-same (Term s) (Term t) e = ap Term (same_sort_is s t e)
kind-same Region Region e = refl
kind-same (Term s) Region e = absurd cc
kind-same Region (Term t) e = absurd cc

-- what is there of a variable that counts, with its kind
term-there : (S : State) (L : Live) (v : Variable) → is_strange S L (H.Infer v) ≡ false → (i : VariableInfo) × (info S v.number ≡ Some i) × (L v.number ≡ true) × (i.kind ≡ Term v.sort)
term-there S L v e =
    let i = counted (L v.number) (Term v.sort) (info S v.number) e in
    (i.0, i.1, i.2, kind-same i.0.kind (Term v.sort) (sym (ap (has_kind (Term v.sort)) i.1) ∙ kind-there (L v.number) (Term v.sort) (info S v.number) e))

is-none : (o : Option Tree) → is_some o ≡ false → o ≡ None
is-none None e = refl
is-none (Some t) e = absurd cc

value-none : (S : State) (L : Live) (v : Variable) (i : VariableInfo) → is_strange S L (H.Infer v) ≡ false → has_value S (H.Infer v) ≡ false → info S v.number ≡ Some i → i.value ≡ None
value-none S L v i k r e =
    let there = kind-there (L v.number) (Term v.sort) (info S v.number) k in
    sym (ap value_in e) ∙ (sym (rw there refl) ∙ is-none (value_at S (H.Infer v)) r)

same-universe : (u w : Universes) (v : Variable) (t : Tree) → u v ≡ w v → IsAllowedBinding u (record { variable = v; value = t }) → IsAllowedBinding w (record { variable = v; value = t })
same-universe u w v t e ok = record { fits = ok.fits; is_closed = ok.is_closed; in_universe = subst (λ n. holds (is_placeholder_above n) (erase (alone t)) ≡ false) e ok.in_universe }

module _ (S : State) (L : Live) (ks : List Kind) (sound : IsSound S L) (p q : Substitution) (left_ok : IsAllowed (universes S) p) (right_ok : IsAllowed (λ v. S.newest_universe) q) where
  abbrev T : State
  T = fresher S ks

  abbrev M : Live
  M = wider S L

  abbrev N : ℕ
  N = length S.variables

  -- an old variable gets the first one's instance of its value, if it counts and has one, and else what the first one holds; a fresh one
  -- what the second holds
  abbrev picked : Variable → Bool → Bool → Option Tree → Option Tree
  picked v true true (Some t) = Some (instance_of p t)
  picked v true true None = found p v
  picked v true false o = found p v
  picked v false c o = found q v

  abbrev choice : Choice
  choice v i = picked v (nat_lt v.number N) (L v.number) i.value

  abbrev pub combined : Substitution
  combined = chosen choice 0 T.variables

  -- Trees of the old state.

  old-lookup : (v : Variable) → is_strange S L (H.Infer v) ≡ false → has_value S (H.Infer v) ≡ false → (o : Tree) → lookup combined v o ≡ lookup p v o
  old-lookup v k r o =
      let i = term-there S L v k in
      let less = lt-ltb v.number N (slice_get_within S.variables v.number i.0 i.1) in
      lookup_chosen choice T v i.0 o (info-kept S L ks v.number i.0 i.1) i.3
      ∙ (ap (λ b. unwrap_or (picked v b (L v.number) i.0.value) o) less
      ∙ (ap (λ b. unwrap_or (picked v true b i.0.value) o) i.2
      ∙ (ap (λ x. unwrap_or (picked v true true x) o) (value-none S L v i.0 k r i.1) ∙ sym (lookup_found p v o))))

  pub old-apply : (ts : Forest) → holds (is_strange S L) ts ≡ false → IsResolved S ts → apply combined ts ≡ apply p ts
  old-apply ts k r = apply_agree (is_strange S L) (has_value S) combined p old-lookup ts k r

  -- Trees of fresh variables.

  new-lookup : (v : Variable) → is_strange T M (H.Infer v) ≡ false → is_old N (H.Infer v) ≡ false → (o : Tree) → lookup combined v o ≡ lookup q v o
  new-lookup v k n o =
      let i = term-there T M v k in
      lookup_chosen choice T v i.0 o i.1 i.3 ∙ (ap (λ b. unwrap_or (picked v b (L v.number) i.0.value) o) n ∙ sym (lookup_found q v o))

  pub new-apply : (ts : Forest) → holds (is_strange T M) ts ≡ false → holds (is_old N) ts ≡ false → apply combined ts ≡ apply q ts
  new-apply ts k n = apply_agree (is_strange T M) (is_old N) combined q new-lookup ts k n

  -- It is allowed.

  instance-allowed : (v : Variable) (i : VariableInfo) (t : Tree) → L v.number ≡ true → info S v.number ≡ Some i → i.kind ≡ Term v.sort → i.value ≡ Some t
      → IsAllowedBinding (universes S) (record { variable = v; value = instance_of p t })
  instance-allowed v i t c there kind value =
      let ok = sound.allowed v.sort v.number i t c there value kind in
      let same : universe_in (info S v.number) ≡ i.universe = ap universe_in there in
      record {
        fits = instance_fits (universes S) p left_ok v.sort t.head (apply p t.children) ok.fits;
        is_closed = instance_closed (universes S) p left_ok 0 (alone t) ok.is_closed;
        in_universe = instance_low (universes S) p left_ok (universe_in (info S v.number)) (alone t) ok.in_universe
            (subst (λ u. holds (is_variable_above (universes S) u) (erase (alone t)) ≡ false) (sym same) (sound.no_higher v.number i t c there value));
      }

  picked-allowed : (v : Variable) (i : VariableInfo) (t : Tree) → info T v.number ≡ Some i → i.kind ≡ Term v.sort → (b c : Bool) (o : Option Tree) → nat_lt v.number N ≡ b → L v.number ≡ c → i.value ≡ o
      → picked v b c o ≡ Some t → IsAllowedBinding (universes T) (record { variable = v; value = t })
  picked-allowed v i t there kind true c o l d value e =
      let early = old-info S L ks v.number i there l in
      same-universe (universes S) (universes T) v t (ap universe_in (early ∙ sym there)) (old c o d value e)
    where
      old : (c : Bool) (o : Option Tree) → L v.number ≡ c → i.value ≡ o → picked v true c o ≡ Some t → IsAllowedBinding (universes S) (record { variable = v; value = t })
      old true (Some y) d value e =
          let same : instance_of p y ≡ t = cc in
          subst (λ x. IsAllowedBinding (universes S) (record { variable = v; value = x })) same (instance-allowed v i y d (old-info S L ks v.number i there l) kind value)
      old true None d value e = found_allowed (universes S) p v t left_ok e
      old false o d value e = found_allowed (universes S) p v t left_ok e
  picked-allowed v i t there kind false c o l d value e =
      same-universe (λ _. S.newest_universe) (universes T) v t (sym (ap universe_in there ∙ new-universe S L ks v.number i there l)) (found_allowed (λ _. S.newest_universe) q v t right_ok e)

  combined-allowed : IsAllowed (universes T) combined
  combined-allowed = chosen_allowed choice (universes T) T (λ i v t there kind e. picked-allowed v i t there kind (nat_lt v.number N) (L v.number) i.value refl refl refl e)

  -- It solves the state.

  pub combined-solves : IsSolution T M combined
  combined-solves = record { allowed = combined-allowed; extends = extends }
    where
      extends : (v : Variable) (i : VariableInfo) (t : Tree) → M v.number ≡ true → info T v.number ≡ Some i → i.kind ≡ Term v.sort → i.value ≡ Some t
          → erase (apply combined (alone (leaf (H.Infer v)))) ≡ erase (apply combined (alone t))
      extends v i t now there kind value =
          let old = valued-old S L ks v.number i t now there value in
          let o : Tree = leaf (H.Infer v) in
          let less = lt-ltb v.number N (slice_get_within S.variables v.number i old.1) in
          let is : lookup combined v o ≡ instance_of p t =
          lookup_chosen choice T v i o there kind
          ∙ (ap (λ b. unwrap_or (picked v b (L v.number) i.value) o) less
          ∙ (ap (λ b. unwrap_or (picked v true b i.value) o) old.0 ∙ ap (λ x. unwrap_or (picked v true true x) o) value)) in
          ap (λ (x : Tree). erase (alone x)) is ∙ sym (ap erase (old-apply (alone t) (sound.known v.number i t old.0 old.1 value) (sound.is_resolved v.number i t old.0 old.1 value)))
