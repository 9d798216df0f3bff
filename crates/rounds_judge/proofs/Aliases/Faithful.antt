-- What the laws don't say of the judge: sides of accepted equations and normal forms are equal modulo the listed pairs, and
-- with nothing listed only regions differ in what is equal.
use Rattle.std.proofs.Common.{◌≡◌, ◌<◌, ℕ, true, false, not, ◌&&◌, nat_lt, length, List, [], Some, arith, refl, sym, ap, subst, ◌∙◌, if◌then◌else◌}
use Rattle.std.proofs.Math.Nat.{le_trans}
use Rattle.std.proofs.lemmas.Bool.{and_parts, ltb-true, lt-ltb}
use Rattle.std.proofs.lemmas.Option.{slice_get_within}
use Rattle.ir_trees.specs.declared.ir.heads.Head.{Head}
use Rattle.ir_trees.specs.declared.ir.heads.Head.TheVariants as H
use Rattle.ir_trees.specs.declared.ir.heads.ConstHead.TheVariants as C
use Rattle.ir_trees.specs.declared.ir.kinds.RegionKind.TheVariants as R
use Rattle.ir_trees.specs.Syntax.Trees.{Forest, none, tree, Tree, erased_head, holds}
use Rattle.ir_trees.specs.Unification.Substitutions.{alone}
use Rattle.candidate_eval.specs.declared.eval.variable.VariableKind.{VariableKind}
use Rattle.candidate_eval.specs.declared.eval.variable.VariableKind.TheVariants.{Term, Region}
use Rattle.candidate_eval.specs.Judges.Alike.{info}
use Rattle.candidate_eval.specs.Judges.States.{Env, State, Pending, resolved, resolved_tree, has_kind}
use Rattle.candidate_eval.specs.Knowability.Orphan.{is_general}
use Rattle.candidate_eval.specs.Judges.Soundness.{Live, IsSound, ValuesFit, IsLater, Within, Follows, AreTreesOf, is_strange, is_region}
use Rattle.candidate_eval.proofs.Marks.Holds.{holds_imply}
use Rattle.rounds_judge.specs.Aliases.Listed.{Listing}
use Rattle.rounds_judge.specs.Equations.Standing.{IsListing}
use Rattle.rounds_judge.specs.Equations.Equating.{equated, without_goals}
use Rattle.rounds_judge.specs.Aliases.Congruence.{Same, SameTree, same, heads, regions, pair, back, along}
use Rattle.rounds_judge.specs.Aliases.Normalizing.{type_or_itself, normalized}
use Rattle.rounds_judge.proofs.States.Later.{later_along, later_itself, strange_stays, has_info, kind_there, counted, fits_fewer}
use Rattle.rounds_judge.proofs.Unifiers.EquatingLaws.{no_goals}
use Rattle.rounds_judge.proofs.Aliases.Congruent.{same_to}
use Rattle.rounds_judge.proofs.Aliases.Equated.{listed_same, equated_equal}
use Rattle.rounds_judge.proofs.Obligations.Settling.{lead_equated}
use Rattle.rounds_judge.proofs.Lawfulness.JudgeLaws.{IsAsItIs, WhichType, is_type, itself, which_type, known_normal}

-- Only those that count of the variables that a state has

abbrev there : State → Live → Live
there S L n = nat_lt n (length S.variables) && L n

there_within : (S : State) (L M : Live) → Within S L M → (T : State) → Within T (there S L) M
there_within S L M within T n less e =
    let p = and_parts (nat_lt n (length S.variables)) (L n) e in
    within n (ltb-true n (length S.variables) p.0) p.1

module _ (S : State) (L : Live) where
  counted_there : (n : ℕ) (k : VariableKind) → not (L n && has_kind k (info S n)) ≡ false → not (there S L n && has_kind k (info S n)) ≡ false
  counted_there n k e =
      let i = has_info (L n) k (info S n) e in
      counted (there S L n) (has_kind k (info S n)) (rw (lt-ltb n (length S.variables) (slice_get_within S.variables n i.0 i.1), i.2) refl) (kind_there (L n) k (info S n) e)

  strange_there : (h : Head) → is_strange S L h ≡ false → is_strange S (there S L) h ≡ false
  strange_there (H.Infer v) e = counted_there v.number (Term v.sort) e
  strange_there (H.Region (R.Var n)) e = counted_there n Region e
  strange_there (H.Placeholder p) e = e
  strange_there (H.Const (C.Placeholder p)) e = e
  strange_there (H.Region (R.Placeholder p)) e = e
  strange_there _ e = refl

  known_there : (ts : Forest) → holds (is_strange S L) ts ≡ false → holds (is_strange S (there S L)) ts ≡ false
  known_there ts e = holds_imply (is_strange S L) (is_strange S (there S L)) strange_there ts e

  counts : (n : ℕ) → there S L n ≡ true → L n ≡ true
  counts n e = (and_parts (nat_lt n (length S.variables)) (L n) e).1

  sound_there : IsSound S L → IsSound S (there S L)
  sound_there h = record {
    allowed = λ s n i t c. h.allowed s n i t (counts n c);
    no_higher = λ n i t c. h.no_higher n i t (counts n c);
    is_resolved = λ n i t c. h.is_resolved n i t (counts n c);
    known = λ n i t c e v. known_there (alone t) (h.known n i t (counts n c) e v);
    universes = λ n i c. h.universes n i (counts n c);
  }

-- the values of what counted before, at the last of three states
fits_last : (S T U : State) (L : Live) (f : Follows S T L) → Follows T U f.live → ValuesFit U (there S L)
fits_last S T U L f g n c =
    let less = ltb-true n (length S.variables) (and_parts (nat_lt n (length S.variables)) (L n) c).0 in
    g.fits n (g.within n (le_trans less f.later.longer) (f.within n less (counts S L n c)))

later_fewer : (S T : State) (L M : Live) → IsSound S L → Within S L M → IsLater S T M → IsLater S T L
later_fewer S T L M sound within a = record {
  longer = a.longer;
  infos = a.infos;
  no_root = a.no_root;
  universes = a.universes;
  fits = a.fits;
  values = λ ts k. a.values ts (holds_imply (is_strange S L) (is_strange S M) (strange_stays S S L M within (later_itself S L sound)) ts k);
  newest = a.newest;
  mode = a.mode;
}

-- After an accepted equation in which no alias is open both sides are equal at every state that follows.
pub rigid_sides_equal : (l : Listing) → IsListing l → (S R U : State) (L : Live) (a b : Forest) (gs : List Pending) → IsSound S L → ValuesFit S L → AreTreesOf S L a → AreTreesOf S L b
    → without_goals (equated l S a b) ≡ Some (gs, R) → (f : Follows S R L) → Follows R U f.live → Same l (resolved U a) (resolved U b)
rigid_sides_equal l listing S R U L a b gs sound fits left right e f g =
    let M : Live = there S L in
    let sound_few = sound_there S L sound in
    let fits_few = fits_fewer S M L (counts S L) fits in
    let left_few : AreTreesOf S M a = record { known = known_there S L a left.known; is_closed = left.is_closed } in
    let right_few : AreTreesOf S M b = record { known = known_there S L b right.known; is_closed = right.is_closed } in
    let n = no_goals (equated l S a b) gs R e in
    let lead = lead_equated l listing S R M a b sound_few fits_few left_few right_few n.is in
    equated_equal l listing U M (fits_last S R U L f g) S R a b sound_few fits_few left_few right_few n.is (later_fewer R U M f.live lead.sound (there_within S L f.live f.within R) g.later)

-- A normal form that is the tree itself or its type is equal to what was normalised, at every state that follows.
pub as_it_is_equal : (l : Listing) → IsListing l → (S R U : State) (L : Live) (t n : Tree) → IsSound S L → ValuesFit S L → AreTreesOf S L (alone t) → IsAsItIs l S R t n
    → (f : Follows S R L) → Follows R U f.live → SameTree l (resolved_tree U t) (resolved_tree U n)
as_it_is_equal l listing S R U L t n sound fits a m f g =
    let values = (later_along S R U L f.live sound f.within f.later g.later).values in
    subst (λ n. SameTree l (resolved_tree U t) (resolved_tree U n)) m.tree
    (same_to l (resolved U (resolved S (alone t))) (resolved U (alone (type_or_itself l (resolved_tree S t)))) (resolved U (alone t)) (resolved U (alone (type_or_itself l (resolved_tree S t)))) (values (alone t) a.known) refl
    (at (type_or_itself l (resolved_tree S t)) (which_type l (resolved_tree S t))))
  where
    at : (u : Tree) → WhichType l (resolved_tree S t) u → Same l (resolved U (alone (resolved_tree S t))) (resolved U (alone u))
    at _ (is_type u e) = listed_same l listing U (there S L) (fits_last S R U L f g) (resolved_tree S t) u e
    at _ itself = same (resolved U (alone (resolved_tree S t)))

abbrev pub nothing_listed : Listing
nothing_listed = record { pairs = []; is_open = false }

-- So is one that is no general variable.
pub normal_equal : (l : Listing) → IsListing l → (S R U : State) (L : Live) (e : Env) (t n : Tree) → IsSound S L → ValuesFit S L → AreTreesOf S L (alone t) → is_general n.head ≡ false → normalized l S e t ≡ Some (n, R)
    → (f : Follows S R L) → Follows R U f.live → SameTree l (resolved_tree U t) (resolved_tree U n)
normal_equal l listing S R U L e t n sound fits a known h f g = as_it_is_equal l listing S R U L t n sound fits a (known_normal l S R e t n known h) f g

-- trees with one region in the place of each
abbrev bare : Forest → Forest
bare none = none
bare (tree h below rest) = tree (erased_head h) (if is_region h then none else bare below) (bare rest)

-- With nothing listed, what is equal differs in regions alone.
pub regions_alone : (a b : Forest) → Same nothing_listed a b → bare a ≡ bare b
regions_alone _ _ (same ts) = refl
regions_alone _ _ (heads h {a = a} {b = b} {r = r} {s = s} e f) = ap (λ x. tree (erased_head h) (if is_region h then none else x) (bare r)) (regions_alone a b e) ∙ ap (tree (erased_head h) (if is_region h then none else bare b)) (regions_alone r s f)
regions_alone _ _ (regions g h a b {r = r} {s = s} e f x) = one g a (bare r) e ∙ sym (one h b (bare r) f) ∙ ap (tree (erased_head h) (if is_region h then none else bare b)) (regions_alone r s x)
  where
    one : (h : Head) (below rest : Forest) → is_region h ≡ true → tree (erased_head h) (if is_region h then none else bare below) rest ≡ tree (H.Region R.Static) none rest
    one (H.Region k) below rest e = refl
    one _ below rest e = cc
regions_alone _ _ (pair t u {r = r} {s = s} c x) = absurd (no_less c.is_among.0 c.is_among.1)
  where
    no_less : (k : ℕ) → k < 0 → ⊥
    no_less k h = omega (arith, h)
regions_alone _ _ (back {a = a} {b = b} e) = sym (regions_alone a b e)
regions_alone _ _ (along {a = a} {b = b} {c = c} e f) = regions_alone a b e ∙ regions_alone b c f
