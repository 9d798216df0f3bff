-- A judge sees resolved trees without aliases as they stand, so it knows of a resolved reference what is known plainly, and changes nothing.
use Rattle.std.proofs.Common.{◌≡◌, ℕ, zero, suc, Bool, true, false, List, [], ◌∷◌, ◌++◌, map, Option, Some, None, refl, ap, sym, ◌∙◌, subst}
use Rattle.std.specs.Option.{unwrap_or}
use Rattle.std.specs.Prelude.{if◌then◌else◌}
use Rattle.std.proofs.lemmas.List.{map-append}
use Rattle.ir_trees.specs.declared.ir.heads.Head.{Head}
use Rattle.ir_trees.specs.declared.ir.heads.Head.TheVariants as H
use Rattle.ir_trees.specs.Syntax.Trees.{Kind, TypeKind, Forest, none, tree, Tree, holds, is_alias, is_type, is_type_kind, kind_of}
use Rattle.ir_trees.specs.Declarations.Worlds.{Reference, World}
use Rattle.candidate_eval.specs.declared.coherence.InCrate.{InCrate}
use Rattle.candidate_eval.specs.declared.coherence.InCrate.TheVariants.{Local, Remote}
use Rattle.candidate_eval.specs.declared.coherence.OrphanCheckMode.TheVariants.{Proper}
use Rattle.candidate_eval.specs.Derivations.Judging.{judge_view, seen_of}
use Rattle.candidate_eval.specs.Judges.Lawful.{Lawful, is_type_or_constant}
use Rattle.candidate_eval.specs.Knowability.Orphan.{Answer, Checked, Class, CrateTest, Faulty, IsBroken, IsEmpty, IsLocal, IsNonLocal, IsSkipped, IsUncovered, Item, Knowability, NonLocalInput, Passes, Refused, Seen, Sees, Sight, Step, Stopped, UncoveredInput, Unknown, View, Viewed, bare_knowledge, by_proper_check, by_remote_check, class_of, crate_test, decided, decides, decides_again, entries, entry, first_step, frontier, is_fundamental, is_general, is_local, judged, knowability, left, local_or_fundamental, looked, or_empty, orphan_answer, over, plain, plain_knowability, second, unless_general, view, visit, walked}
use Rattle.candidate_eval.specs.Judges.Soundness.{IsResolved, has_value}
use Rattle.candidate_eval.specs.Judges.States.{Env, Judge, State, is_some, resolved_root, root_value, value_at}
use Rattle.candidate_eval.proofs.Marks.Holds.{holds_parts}
use Rattle.candidate_eval.proofs.Knowability.Lowering.{plain_knowledge}
use Rattle.candidate_eval.proofs.Marks.Marking.{unmarked}
use Rattle.candidate_eval.proofs.Knowability.Resolved.{all-resolved}

abbrev U : Type 0
U = Unit {0}

-- The steps of a walk that leaves the state as it was are those of the plain walk.

module _ {S : Type 0} (s : S) where
  abbrev kept : Step U U → Step S U
  kept x = record { item = x.item; after = s }

  abbrev kept-answer : {A : Type 0} → Checked U A → Checked S A
  kept-answer c = record { answer = c.answer; after = s }

  left-kept : (xs : List (Step U U)) → left s (map kept xs) ≡ s
  left-kept [] = refl
  left-kept (x ∷ xs) = left-kept xs

  empty-kept : (xs : List (Step U U)) → or_empty s (map kept xs) ≡ map kept (or_empty {E = U} tt xs)
  empty-kept [] = refl
  empty-kept (x ∷ xs) = refl

  abbrev some-kept : Option (Step U U) → Option (Step S U)
  some-kept None = None
  some-kept (Some x) = Some (kept x)

  first-if : (b : Bool) (x : Step U U) (o : Option (Step S U)) (u : Option (Step U U)) → o ≡ some-kept u → (if b then Some (kept x) else o) ≡ some-kept (if b then Some x else u)
  first-if true x o u e = refl
  first-if false x o u e = e

  first-kept : (test : Class U → Bool) (k : Item U → Class U) (xs : List (Step U U)) → first_step test k (map kept xs) ≡ some-kept (first_step test k xs)
  first-kept test k [] = refl
  first-kept test k (x ∷ xs) = first-if (test (k x.item)) x (first_step test k (map kept xs)) (first_step test k xs) (first-kept test k xs)

  entries-kept : (b : Bool) (k : Item U → Class U) (xs : List (Step U U)) → entries b k (map kept xs) ≡ entries b k xs
  entries-kept b k [] = refl
  entries-kept b k (x ∷ xs) = ap (λ es. entry b (k x.item) ++ es) (entries-kept false k xs)

  module _ (k : Item U → Class U) (f : S → List (Step S U)) (p : U → List (Step U U)) (same : f s ≡ map kept (p tt)) where
    second-some : (t : Tree) (o : Option (Step U U)) → second k t s (map kept (p tt)) (some-kept o) ≡ kept-answer (second k t tt (p tt) o)
    second-some t None = ap (λ (z : S). let c : Checked S (Answer U) = record { answer = UncoveredInput t None; after = z } in c) (left-kept (p tt))
    second-some t (Some x) = refl

    second-kept : (t : Tree) → second k t s (f s) (first_step decides_again k (f s)) ≡ kept-answer (second k t tt (p tt) (first_step decides_again k (p tt)))
    second-kept t =
        ap (λ xs. second k t s xs (first_step decides_again k xs)) same
        ∙ (ap (second k t s (map kept (p tt))) (first-kept decides_again k (p tt))
        ∙ second-some t (first_step decides_again k (p tt)))

    decided-kept : (c : Class U) → decided k f s c ≡ kept-answer (decided k p tt c)
    decided-kept (IsUncovered t) = second-kept t
    decided-kept (IsLocal t) = refl
    decided-kept (IsBroken f) = refl
    decided-kept (IsNonLocal t) = refl
    decided-kept IsSkipped = refl
    decided-kept IsEmpty = refl

    judged-some : (o : Option (Step U U)) → judged k f s (map kept (p tt)) (some-kept o) ≡ kept-answer (judged k p tt (p tt) o)
    judged-some None =
        ap (λ es. let c : Checked S (Answer U) = record { answer = NonLocalInput es; after = left s (map kept (p tt)) } in c) (entries-kept true k (p tt))
        ∙ ap (λ (z : S). let c : Checked S (Answer U) = record { answer = NonLocalInput (entries true k (p tt)); after = z } in c) (left-kept (p tt))
    judged-some (Some x) = decided-kept (k x.item)

    judged-kept : judged k f s (f s) (first_step decides k (f s)) ≡ kept-answer (judged k p tt (p tt) (first_step decides k (p tt)))
    judged-kept =
        ap (λ xs. judged k f s xs (first_step decides k xs)) same
        ∙ (ap (judged k f s (map kept (p tt))) (first-kept decides k (p tt))
        ∙ judged-some (first_step decides k (p tt)))

  -- Each type among the trees is seen as it stands.
  abbrev AreSeen : View S U → Forest → Type 0
  AreSeen see none = Unit {0}
  AreSeen see (tree h below rest) =
      let t : Tree = record { head = h; children = below } in
      (is_type h ≡ true → see s t ≡ record { seen = Sees t; after = s }) × AreSeen see below × AreSeen see rest

  module _ (see : View S U) (w : World) (test : CrateTest) where
    adt-kept : (a b : Bool) (t : Tree) (xs : List (Step S U)) (ys : List (Step U U)) → xs ≡ map kept ys
        → (if a then record { item = Viewed t; after = s } ∷ [] else (if b then or_empty s xs else record { item = Viewed t; after = s } ∷ []))
        ≡ map kept (if a then record { item = Viewed t; after = tt } ∷ [] else (if b then or_empty {E = U} tt ys else record { item = Viewed t; after = tt } ∷ []))
    adt-kept true b t xs ys h = refl
    adt-kept false true t xs ys h = ap (or_empty s) h ∙ empty-kept ys
    adt-kept false false t xs ys h = refl

    walked-kept : (deep : S → Forest → List (Step S U)) (plainly : U → Forest → List (Step U U)) (h : Head) (below : Forest) → deep s below ≡ map kept (plainly tt below)
        → walked w test deep s h below ≡ map kept (walked w test plainly tt h below)
    walked-kept deep plainly (H.Ref m) below same = same
    walked-kept deep plainly (H.Adt i) below same = adt-kept (is_local w test i.0) (is_fundamental w i.0) (record { head = H.Adt i; children = below }) (deep s below) (plainly tt below) same
    walked-kept deep plainly h below same = refl

    visit-kept : (h : Head) (below : Forest) → (let t : Tree = record { head = h; children = below } in see s t ≡ record { seen = Sees t; after = s })
        → ((n : ℕ) → over (visit w test see n) s below ≡ map kept (over (visit {E = U} w test plain n) tt below))
        → (n : ℕ) → visit w test see n s (record { head = h; children = below }) ≡ map kept (visit {E = U} w test plain n tt (record { head = h; children = below }))
    visit-kept h below sees deeper zero = refl
    visit-kept h below sees deeper (suc n) =
        ap (λ (x : Sight S U). looked w test (over (visit w test see n)) x.after x.seen) sees
        ∙ walked-kept (over (visit w test see n)) (over (visit {E = U} w test plain n)) h below (deeper n)

    over-if : (b : Bool) (xs : List (Step S U)) (ys : List (Step U U)) (rest : S → List (Step S U)) (others : List (Step U U)) → (b ≡ true → xs ≡ map kept ys) → rest s ≡ map kept others
        → (if b then xs ++ rest (left s xs) else rest s) ≡ map kept (if b then ys ++ others else others)
    over-if true xs ys rest others h r =
        ap (λ zs. zs ++ rest (left s zs)) (h refl)
        ∙ (ap (λ (z : S). map kept ys ++ rest z) (left-kept ys)
        ∙ (ap (λ zs. map kept ys ++ zs) r
        ∙ sym (map-append kept ys others)))
    over-if false xs ys rest others h r = r

    over-kept : (ts : Forest) → AreSeen see ts → (n : ℕ) → over (visit w test see n) s ts ≡ map kept (over (visit {E = U} w test plain n) tt ts)
    over-kept none a n = refl
    over-kept (tree h below rest) a n =
        let t : Tree = record { head = h; children = below } in
        over-if (is_type h) (visit w test see n s t) (visit w test plain n tt t) (λ z. over (visit w test see n) z rest) (over (visit {E = U} w test plain n) tt rest)
        (λ e. visit-kept h below (a.0 e) (over-kept below a.1) n) (over-kept rest a.2 n)

  check-kept : (see : View S U) (w : World) (c : ℕ) (m : InCrate) (limit : ℕ) (ts : Forest) → AreSeen see ts
      → orphan_answer w c m see limit s ts ≡ kept-answer (orphan_answer {E = U} w c m plain limit tt ts)
  check-kept see w c m limit ts a =
      let test = crate_test m c in
      judged-kept (class_of w test m) (λ x. frontier w test see limit x ts) (λ x. frontier {E = U} w test plain limit x ts) (over-kept see w test ts a limit)

  remote-kept : (own : Bool) (f : S → Checked S (Answer U)) (p : U → Checked U (Answer U)) → f s ≡ kept-answer (p tt) → (a : Answer U)
      → by_remote_check own f s a ≡ kept-answer (by_remote_check own p tt a)
  remote-kept own f p h Passes = refl
  remote-kept own f p h (Faulty x) = refl
  remote-kept true f p h (NonLocalInput es) = refl
  remote-kept false f p h (NonLocalInput es) = ap by_proper_check h
  remote-kept true f p h (UncoveredInput t o) = refl
  remote-kept false f p h (UncoveredInput t o) = ap by_proper_check h

  -- what may be known is what may be known plainly, and nothing changes
  pub seen-plainly : (see : View S U) (w : World) (c limit : ℕ) (r : Reference) → AreSeen see r.arguments
      → knowability w c see limit s r ≡ record { answer = plain_knowability w c limit r; after = s }
  seen-plainly see w c limit r a =
      let own = local_or_fundamental w c r.trait in
      let remote : Checked U (Answer U) = orphan_answer {E = U} w c Remote plain limit tt r.arguments in
      let proper : S → Checked S (Answer U) = λ t. orphan_answer w c (Local Proper) see limit t r.arguments in
      ap (λ (x : Checked S (Answer U)). by_remote_check own proper x.after x.answer) (check-kept see w c Remote limit r.arguments a)
      ∙ remote-kept own proper (λ t. orphan_answer {E = U} w c (Local Proper) plain limit t r.arguments) (check-kept see w c (Local Proper) limit r.arguments a) remote.answer

-- The judge sees a resolved tree without an alias as it stands.

pub no-value : (o : Option Tree) → is_some o ≡ false → o ≡ None
no-value None e = refl
no-value (Some t) e = absurd cc

no-root : (S : State) (h : Head) → has_value S h ≡ false → root_value S h ≡ None
no-root S (H.Infer v) e = no-value (value_at S (H.Infer v)) e
no-root S _ e = refl

pub root-stays : (S : State) (t : Tree) → has_value S t.head ≡ false → resolved_root S t ≡ t
root-stays S t e = ap (λ (o : Option Tree). unwrap_or o t) (no-root S t.head e)

type-fits : (k : Kind) → is_type_kind k ≡ true → is_type_or_constant k ≡ true
type-fits TypeKind e = refl
type-fits _ e = absurd cc

either-way : (s : Seen U) (b : Bool) → (if b then s else s) ≡ s
either-way s true = refl
either-way s false = refl

module _ (J : Judge) (law : Lawful J) (e : Env) (S : State) where
  -- a type is its own normal form
  pub itself : (h : Head) (below : Forest) → is_type_or_constant (kind_of h) ≡ true → has_value S h ≡ false → holds (has_value S) below ≡ false → is_alias h ≡ false
      → (let t : Tree = record { head = h; children = below } in J.normalized S e t ≡ Some (t, S))
  itself h below k v w a = law.normal_forms.rigid_is_normal S e (record { head = h; children = below }) (unmarked (has_value S) h below none v w refl) k a

  sees : (h : Head) (below : Forest) → is_type h ≡ true → has_value S h ≡ false → holds (has_value S) below ≡ false → is_alias h ≡ false
      → (let t : Tree = record { head = h; children = below } in judge_view J e S t ≡ record { seen = Sees t; after = S })
  sees h below k v w a =
      let t : Tree = record { head = h; children = below } in
      let look : Tree → Sight State U = λ u. record { seen = unless_general u (seen_of S (J.normalized S e u)).seen; after = (seen_of S (J.normalized S e u)).after } in
      ap look (root-stays S t v)
      ∙ (ap (λ n. let x : Sight State U = record { seen = unless_general t (seen_of S n).seen; after = (seen_of S n).after } in x) (itself h below (type-fits (kind_of h) k) v w a)
      ∙ ap (λ z. let x : Sight State U = record { seen = z; after = S } in x) (either-way (Sees t) (is_general h)))

  all-seen : (ts : Forest) → IsResolved S ts → holds is_alias ts ≡ false → AreSeen S (judge_view J e) ts
  all-seen none r a = tt
  all-seen (tree h below rest) r a =
      let p = holds_parts (has_value S) h below rest r in
      let q = holds_parts is_alias h below rest a in
      (λ k. sees h below k p.here p.under q.here, all-seen below p.under q.under, all-seen rest p.others q.others)

  -- so it knows what is known plainly
  pub judge-plainly : (w : World) (c limit : ℕ) (r : Reference) → IsResolved S r.arguments → holds is_alias r.arguments ≡ false
      → knowability w c (judge_view J e) limit S r ≡ record { answer = plain_knowability w c limit r; after = S }
  judge-plainly w c limit r s a = seen-plainly S (judge_view J e) w c limit r (all-seen r.arguments s a)

-- Plainly nothing is refused: a normaliser that answers its input has nothing to refuse with.

abbrev IsRefused : Knowability U → Type 0
IsRefused (Unknown (Refused x)) = U
IsRefused _ = ⊥

none-to-refuse : (k : Knowability ⊥) → IsRefused (bare_knowledge k) → ⊥
none-to-refuse (Unknown (Refused x)) e = absurd x
none-to-refuse (Unknown (Stopped z)) e = e
none-to-refuse _ e = e

pub plainly-unrefused : (w : World) (c limit : ℕ) (r : Reference) (x : Unit {0}) → plain_knowability w c limit r ≡ Unknown (Refused x) → ⊥
plainly-unrefused w c limit r x e =
    let k = plain_knowledge {S = U} ⊥ w c limit (λ z t. t) tt r (all-resolved r.arguments) in
    none-to-refuse (knowability {S = U} {E = ⊥} w c (view (λ z t. t) plain) limit tt r).answer (subst IsRefused (sym (k ∙ e)) tt)
