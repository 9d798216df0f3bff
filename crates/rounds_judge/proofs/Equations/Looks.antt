-- Looks keep a state sound, and lead on.
use Rattle.std.proofs.Common.{◌≡◌, ◌≤◌, ℕ, zero, suc, ◌+◌, Bool, true, false, ◌&&◌, List, [], ◌∷◌, ◌++◌, Option, Some, None, length, refl, sym, ap, subst, ◌∙◌, arith, if◌then◌else◌}
use Rattle.std.specs.List.{All}
use Rattle.std.proofs.lemmas.List.Elements.{All-head, All-tail, All-cons, All-nil, All-weaker}
use Rattle.std.proofs.Math.Nat.{le_trans}
use Rattle.ir_trees.specs.declared.ir.heads.Head.{Head}
use Rattle.ir_trees.specs.declared.ir.heads.Head.TheVariants as H
use Rattle.ir_trees.specs.declared.ir.heads.Builtin.TheVariants as B
use Rattle.ir_trees.specs.declared.ir.heads.PartHead.TheVariants as P
use Rattle.ir_trees.specs.declared.ir.heads.Variable.{Variable}
use Rattle.ir_trees.specs.Syntax.Trees.{Forest, none, tree, Tree, holds, binders_of}
use Rattle.ir_trees.specs.Syntax.Binders.{escapes}
use Rattle.ir_trees.specs.Unification.Substitutions.{alone}
use Rattle.ir_trees.specs.Unification.Unify.{same_head}
use Rattle.ir_trees.proofs.Syntax.Equal.{head_is}
use Rattle.candidate_eval.specs.Judges.States.{State, with_universe}
use Rattle.candidate_eval.specs.Judges.Soundness.{Live, IsSound, ValuesFit, IsLater, Follows, AreTreesOf, is_strange, is_region}
use Rattle.candidate_eval.proofs.Marks.Holds.{holds_parts}
use Rattle.rounds_judge.specs.Aliases.Listed.{Listing, current}
use Rattle.rounds_judge.specs.Equations.Scopes.{Scope, placed_tree, has_binder, has_variables, entered, scope_below}
use Rattle.rounds_judge.specs.Equations.Binding.{may_take, bound}
use Rattle.rounds_judge.specs.Equations.Equating.{Pair, Visit, Done, Refused, Left, outlives, value_for, offered, with_equal_regions, matched, first_of, met, visited, looked, looks, equated}
use Rattle.rounds_judge.specs.Equations.Standing.{IsListing, PairStands, Stands}
use Rattle.rounds_judge.proofs.States.Marks.{whole, escape_parts, escape_whole}
use Rattle.rounds_judge.proofs.States.Later.{known_later, later_along, later_itself, later_raised, sound_raised, fits_later}
use Rattle.rounds_judge.proofs.States.Bound.{CanTake, bound_sound, bound_later, length_bound}
use Rattle.rounds_judge.proofs.Equations.Current.{current_known, current_rests, current_closed, can_take}

-- What a look comes to

-- the same state and pairs
pub same_left : (P : State → List Pair → Type 0) (R T : State) (rest more : List Pair) → Left R rest ≡ Left T more → P R rest → P T more
same_left P R T rest more e p =
    let s : R ≡ T = cc in
    let m : rest ≡ more = cc in
    subst (P T) m (subst (λ S. P S rest) s p)

-- Two trees as they are at a state meet: what holds of each state and the pairs that are left holds of what comes.
module _ (l : Listing) (S : State) (us : Scope) (x y : Tree) (others : List Pair) (P : State → List Pair → Type 0)
    (takes_left : (v : Variable) → x.head ≡ H.Infer v → may_take S v (value_for l S us y) ≡ true → P (bound S v (value_for l S us y)) others)
    (takes_right : (v : Variable) → y.head ≡ H.Infer v → may_take S v (value_for l S us x) ≡ true → P (bound S v (value_for l S us x)) others)
    (regions : is_region x.head && is_region y.head ≡ true → P (with_equal_regions S (placed_tree us x) (placed_tree us y)) others)
    (enters : is_region x.head && is_region y.head ≡ false → same_head x.head y.head ≡ true
    → P (entered S x.head x.children) (record { scope = scope_below S us x.head x.children; left = x.children; right = y.children } ∷ others)) where
  offers : (h : Head) (t : Tree) (w : Visit) → ((v : Variable) → h ≡ H.Infer v → may_take S v (value_for l S us t) ≡ true → P (bound S v (value_for l S us t)) others)
      → offered l S us h t others ≡ Some w → (T : State) (rest : List Pair) → w ≡ Left T rest → P T rest
  offers (H.Infer v) t w f e T rest g = at (may_take S v (value_for l S us t)) refl e
    where
      at : (b : Bool) → may_take S v (value_for l S us t) ≡ b → (if b then Some (Left (bound S v (value_for l S us t)) others) else None) ≡ Some w → P T rest
      at true m e =
          let is : Left (bound S v (value_for l S us t)) others ≡ w = cc in
          same_left P (bound S v (value_for l S us t)) T others rest (is ∙ g) (f v refl m)
      at false m e = cc
  offers _ t w f e T rest g = cc

  matches : (T : State) (rest : List Pair) → matched S us x y others ≡ Left T rest → P T rest
  matches T rest e = at (is_region x.head && is_region y.head) refl e
    where
      inner : (b : Bool) → same_head x.head y.head ≡ b → is_region x.head && is_region y.head ≡ false
          → (if b then Left (entered S x.head x.children) (record { scope = scope_below S us x.head x.children; left = x.children; right = y.children } ∷ others) else Refused) ≡ Left T rest → P T rest
      inner true h n e =
          same_left P (entered S x.head x.children) T (record { scope = scope_below S us x.head x.children; left = x.children; right = y.children } ∷ others) rest e (enters n h)
      inner false h n e = cc

      at : (b : Bool) → is_region x.head && is_region y.head ≡ b
          → (if b then Left (with_equal_regions S (placed_tree us x) (placed_tree us y)) others
          else (if same_head x.head y.head then Left (entered S x.head x.children) (record { scope = scope_below S us x.head x.children; left = x.children; right = y.children } ∷ others) else Refused)) ≡ Left T rest → P T rest
      at true n e = same_left P (with_equal_regions S (placed_tree us x) (placed_tree us y)) T others rest e (regions n)
      at false n e = inner (same_head x.head y.head) refl n e

  pub meets : (T : State) (rest : List Pair) → met l S us x y others ≡ Left T rest → P T rest
  meets T rest e = at (offered l S us x.head y others) (offered l S us y.head x others) refl refl e
    where
      at : (o p : Option Visit) → offered l S us x.head y others ≡ o → offered l S us y.head x others ≡ p → first_of o p (matched S us x y others) ≡ Left T rest → P T rest
      at (Some w) p f g e = offers x.head y w takes_left f T rest e
      at None (Some w) f g e = offers y.head x w takes_right g T rest e
      at None None f g e = matches T rest e

-- Regions that were made equal change only what is recorded of regions.

abbrev pub with_regions : State → List Tree → State
with_regions S rs = record S { regions = rs }

pub only_regions : (S : State) (r s : Tree) → (rs : List Tree) × (with_equal_regions S r s ≡ with_regions S rs)
only_regions S r s = at (same_head r.head s.head)
  where
    at : (b : Bool) → (rs : List Tree) × ((if b then S else with_regions S (S.regions ++ outlives r s ∷ outlives s r ∷ [])) ≡ with_regions S rs)
    at true = (S.regions, refl)
    at false = (S.regions ++ outlives r s ∷ outlives s r ∷ [], refl)

-- What a value, regions and a fresh universe leave as it is stays: what is pending does, and how many variables there are.

module _ {X : Type 0} (what : State → X) (by_value : (S : State) (v : Variable) (t : Tree) → what (bound S v t) ≡ what S) (by_regions : (S : State) (rs : List Tree) → what (with_regions S rs) ≡ what S)
    (by_universe : (S : State) → what (with_universe S) ≡ what S) where
  entered_stays : (S : State) (h : Head) (below : Forest) → what (entered S h below) ≡ what S
  entered_stays S h below = at (has_binder h && has_variables below)
    where
      at : (b : Bool) → what (if b then with_universe S else S) ≡ what S
      at true = by_universe S
      at false = refl

  visited_stays : (l : Listing) (S T : State) (ps rest : List Pair) → visited l S ps ≡ Left T rest → what T ≡ what S
  visited_stays l S T [] rest e = cc
  visited_stays l S T (p ∷ more) rest e = rows p.left p.right e
    where
      rows : (a b : Forest) → visited l S (record { scope = p.scope; left = a; right = b } ∷ more) ≡ Left T rest → what T ≡ what S
      rows none none e = same_left (λ R ps. what R ≡ what S) S T more rest e refl
      rows none (tree g b s) e = cc
      rows (tree h a r) none e = cc
      rows (tree h a r) (tree g b s) e =
          meets l S p.scope (current l S (record { head = h; children = a })) (current l S (record { head = g; children = b })) (record { scope = p.scope; left = r; right = s } ∷ more)
          (λ R ps. what R ≡ what S) (λ v i m. by_value S v (value_for l S p.scope (current l S (record { head = g; children = b })))) (λ v i m. by_value S v (value_for l S p.scope (current l S (record { head = h; children = a }))))
          (λ n. let o = only_regions S (placed_tree p.scope (current l S (record { head = h; children = a }))) (placed_tree p.scope (current l S (record { head = g; children = b }))) in ap what o.1 ∙ by_regions S o.0)
          (λ n i. entered_stays S (current l S (record { head = h; children = a })).head (current l S (record { head = h; children = a })).children) T rest e

  looked_stays : (l : Listing) (n : ℕ) (S T : State) (ps : List Pair) → looked l n S ps ≡ Some T → what T ≡ what S
  looked_stays l zero S T ps e = cc
  looked_stays l (suc n) S T ps e = at (visited l S ps) refl (λ R rest. looked_stays l n R T rest) e
    where
      at : (w : Visit) → visited l S ps ≡ w → ((R : State) (rest : List Pair) → looked l n R rest ≡ Some T → what T ≡ what R)
          → elim w [ Done ↦ Some S | Refused ↦ None | Left R more ↦ looked l n R more ] ≡ Some T → what T ≡ what S
      at Done f ih e = ap what (let is : T ≡ S = cc in is)
      at Refused f ih e = cc
      at (Left R rest) f ih e = ih R rest e ∙ visited_stays l S R ps rest f

-- What a look keeps

pub record Keeps (S : State) (L : Live) (T : State) (rest : List Pair) : Type 0 where
  pub stands : Stands T L rest
  pub later : IsLater S T L

module _ (S T : State) (L : Live) (later : IsLater S T L) where
  pair_later : (p : Pair) → PairStands S L p → PairStands T L p
  pair_later p a = record {
    left = known_later S T L L (λ n l c. c) later p.left a.left;
    right = known_later S T L L (λ n l c. c) later p.right a.right;
    left_closed = a.left_closed;
    right_closed = a.right_closed;
    universes = All-weaker (λ u. u ≤ S.newest_universe) (λ u. u ≤ T.newest_universe) (λ u h. le_trans h later.newest) p.scope a.universes;
  }

  pub pairs_later : (ps : List Pair) → All (PairStands S L) ps → All (PairStands T L) ps
  pairs_later ps a = All-weaker (PairStands S L) (PairStands T L) pair_later ps a

-- sound, and later
pub record SoundLater (S : State) (L : Live) (T : State) : Type 0 where
  pub sound : IsSound T L
  pub later : IsLater S T L

pub regions_keep : (S : State) (L : Live) (rs : List Tree) → IsSound S L → SoundLater S L (with_regions S rs)
regions_keep S L rs h =
    let l : IsLater S S L = later_itself S L h in
    record {
      sound = record { allowed = h.allowed; no_higher = h.no_higher; is_resolved = h.is_resolved; known = h.known; universes = h.universes };
      later = record { longer = l.longer; infos = l.infos; no_root = l.no_root; universes = l.universes; fits = l.fits; values = l.values; newest = l.newest; mode = l.mode };
    }

-- more universes
pub universes_keep : (S : State) (L : Live) (newest : ℕ) → S.newest_universe ≤ newest → IsSound S L → SoundLater S L (record S { newest_universe = newest })
universes_keep S L newest more sound = record { sound = sound_raised S L sound newest more; later = later_raised S L sound newest more }

entered_keeps : (S : State) (L : Live) (h : Head) (below : Forest) → IsSound S L → SoundLater S L (entered S h below)
entered_keeps S L h below sound = at (has_binder h && has_variables below)
  where
    at : (b : Bool) → SoundLater S L (if b then with_universe S else S)
    at true = universes_keep S L (suc S.newest_universe) (omega arith) sound
    at false = record { sound = sound; later = later_itself S L sound }

-- one binder more, or none
scope_length : (h : Head) (u : ℕ) (us : Scope) → length (if has_binder h then u ∷ us else us) ≡ length us + binders_of h
scope_length h u us = at h
  where
    one : suc (length us) ≡ length us + 1
    one = omega arith

    no_more : length us ≡ length us + 0
    no_more = omega arith

    at : (h : Head) → length (if has_binder h then u ∷ us else us) ≡ length us + binders_of h
    at (H.Builtin (B.FnPtr k)) = one
    at (H.Builtin B.UnsafeBinder) = one
    at (H.Part (P.Pred k)) = one
    at (H.Part (P.Clause k)) = one
    at (H.Part P.Sig) = one
    at _ = no_more

scope_universes : (R : State) (h : Head) (us : Scope) → All (λ u. u ≤ R.newest_universe) us → All (λ u. u ≤ R.newest_universe) (if has_binder h then R.newest_universe ∷ us else us)
scope_universes R h us a = at (has_binder h)
  where
    at : (b : Bool) → All (λ u. u ≤ R.newest_universe) (if b then R.newest_universe ∷ us else us)
    at true = All-cons (λ u. u ≤ R.newest_universe) R.newest_universe us (omega arith) a
    at false = a

module _ (l : Listing) (listing : IsListing l) (L : Live) where
  -- A pair that two trees begin, at a state at which all stands.
  module _ (S : State) (us : Scope) (h g : Head) (a r b s : Forest) (more : List Pair)
      (st : Stands S L (record { scope = us; left = tree h a r; right = tree g b s } ∷ more)) where
    abbrev first_pair : Pair
    first_pair = record { scope = us; left = tree h a r; right = tree g b s }

    abbrev x : Tree
    x = current l S (record { head = h; children = a })

    abbrev y : Tree
    y = current l S (record { head = g; children = b })

    abbrev others : List Pair
    others = record { scope = us; left = r; right = s } ∷ more

    here : PairStands S L first_pair
    here = All-head (PairStands S L) first_pair more st.pairs

    pub left_known : holds (is_strange S L) (alone (record { head = h; children = a })) ≡ false
    left_known = let p = holds_parts (is_strange S L) h a r here.left in whole (is_strange S L) h a none p.here p.under refl

    pub right_known : holds (is_strange S L) (alone (record { head = g; children = b })) ≡ false
    right_known = let p = holds_parts (is_strange S L) g b s here.right in whole (is_strange S L) g b none p.here p.under refl

    left_closed : escapes (length us) (alone (record { head = h; children = a })) ≡ false
    left_closed = let p = escape_parts (length us) h a r here.left_closed in escape_whole (length us) h a none p.here p.under refl

    right_closed : escapes (length us) (alone (record { head = g; children = b })) ≡ false
    right_closed = let p = escape_parts (length us) g b s here.right_closed in escape_whole (length us) g b none p.here p.under refl

    pub x_known : holds (is_strange S L) (alone x) ≡ false
    x_known = current_known l listing S L st.sound (record { head = h; children = a }) left_known

    pub y_known : holds (is_strange S L) (alone y) ≡ false
    y_known = current_known l listing S L st.sound (record { head = g; children = b }) right_known

    x_closed : escapes (length us) (alone x) ≡ false
    x_closed = current_closed l listing S L st.sound st.fits (length us) (record { head = h; children = a }) left_known left_closed

    y_closed : escapes (length us) (alone y) ≡ false
    y_closed = current_closed l listing S L st.sound st.fits (length us) (record { head = g; children = b }) right_known right_closed

    pub others_stand : All (PairStands S L) others
    others_stand = All-cons (PairStands S L) (record { scope = us; left = r; right = s }) more (record {
      left = (holds_parts (is_strange S L) h a r here.left).others;
      right = (holds_parts (is_strange S L) g b s here.right).others;
      left_closed = (escape_parts (length us) h a r here.left_closed).others;
      right_closed = (escape_parts (length us) g b s here.right_closed).others;
      universes = here.universes;
    }) (All-tail (PairStands S L) first_pair more st.pairs)

    -- each variable that gets a value may take it
    pub left_takes : (v : Variable) → x.head ≡ H.Infer v → may_take S v (value_for l S us y) ≡ true → CanTake S L v (value_for l S us y)
    left_takes v i m =
        can_take l listing S L st.sound us here.universes x y v x_known (current_rests l listing S L st.sound (record { head = h; children = a }) left_known) i y_known m

    pub right_takes : (v : Variable) → y.head ≡ H.Infer v → may_take S v (value_for l S us x) ≡ true → CanTake S L v (value_for l S us x)
    right_takes v i m =
        can_take l listing S L st.sound us here.universes y x v y_known (current_rests l listing S L st.sound (record { head = g; children = b }) right_known) i x_known m

    later_keeps : (T : State) → SoundLater S L T → Keeps S L T others
    later_keeps T k = record { stands = record { sound = k.sound; fits = fits_later k.later st.fits; pairs = pairs_later S T L k.later others others_stand }; later = k.later }

    bound_keeps : (v : Variable) (t : Tree) → CanTake S L v t → Keeps S L (bound S v t) others
    bound_keeps v t can = later_keeps (bound S v t) (record { sound = bound_sound S L v t can st.sound; later = bound_later S L v t can st.sound })

    enters_keep : same_head x.head y.head ≡ true → Keeps S L (entered S x.head x.children) (record { scope = scope_below S us x.head x.children; left = x.children; right = y.children } ∷ others)
    enters_keep e =
        let R : State = entered S x.head x.children in
        let k = later_keeps R (entered_keeps S L x.head x.children st.sound) in
        let p : Pair = record { scope = scope_below S us x.head x.children; left = x.children; right = y.children } in
        let below : PairStands R L p = record {
          left = known_later S R L L (λ n l c. c) k.later x.children (holds_parts (is_strange S L) x.head x.children none x_known).under;
          right = known_later S R L L (λ n l c. c) k.later y.children (holds_parts (is_strange S L) y.head y.children none y_known).under;
          left_closed = subst (λ n. escapes n x.children ≡ false) (sym (scope_length x.head R.newest_universe us)) (escape_parts (length us) x.head x.children none x_closed).under;
          right_closed = subst (λ n. escapes n y.children ≡ false) (ap (λ k. length us + binders_of k) (sym (head_is x.head y.head e)) ∙ sym (scope_length x.head R.newest_universe us)) (escape_parts (length us) y.head y.children none y_closed).under;
          universes = scope_universes R x.head us (All-weaker (λ u. u ≤ S.newest_universe) (λ u. u ≤ R.newest_universe) (λ u h. le_trans h k.later.newest) us here.universes);
        } in
        record { stands = record { sound = k.stands.sound; fits = k.stands.fits; pairs = All-cons (PairStands R L) p others below k.stands.pairs }; later = k.later }

    met_keeps : (T : State) (rest : List Pair) → met l S us x y others ≡ Left T rest → Keeps S L T rest
    met_keeps T rest e =
        meets l S us x y others (Keeps S L) (λ v i m. bound_keeps v (value_for l S us y) (left_takes v i m)) (λ v i m. bound_keeps v (value_for l S us x) (right_takes v i m))
        (λ n. let o = only_regions S (placed_tree us x) (placed_tree us y) in subst (λ R. Keeps S L R others) (sym o.1) (later_keeps (with_regions S o.0) (regions_keep S L o.0 st.sound)))
        (λ n i. enters_keep i) T rest e

  pub visited_keeps : (S T : State) (ps rest : List Pair) → Stands S L ps → visited l S ps ≡ Left T rest → Keeps S L T rest
  visited_keeps S T [] rest st e = cc
  visited_keeps S T (p ∷ more) rest st e = rows p.left p.right st e
    where
      rows : (a b : Forest) → Stands S L (record { scope = p.scope; left = a; right = b } ∷ more) → visited l S (record { scope = p.scope; left = a; right = b } ∷ more) ≡ Left T rest → Keeps S L T rest
      rows none none st e =
          same_left (Keeps S L) S T more rest e
          (record { stands = record { sound = st.sound; fits = st.fits; pairs = All-tail (PairStands S L) (record { scope = p.scope; left = none; right = none }) more st.pairs }; later = later_itself S L st.sound })
      rows none (tree g b s) st e = cc
      rows (tree h a r) none st e = cc
      rows (tree h a r) (tree g b s) st e = met_keeps S p.scope h g a r b s more st T rest e

  -- One look keeps all that stands.
  pub visited_stands : (S T : State) (ps rest : List Pair) → Stands S L ps → visited l S ps ≡ Left T rest → Stands T L rest
  visited_stands S T ps rest st e = (visited_keeps S T ps rest st e).stands

  pub visited_later : (S T : State) (ps rest : List Pair) → Stands S L ps → visited l S ps ≡ Left T rest → IsLater S T L
  visited_later S T ps rest st e = (visited_keeps S T ps rest st e).later

  -- The state that looks end at is sound and follows.
  pub looked_keeps : (n : ℕ) (S T : State) (ps : List Pair) → Stands S L ps → looked l n S ps ≡ Some T → SoundLater S L T
  looked_keeps zero S T ps st e = cc
  looked_keeps (suc n) S T ps st e = at (visited l S ps) refl (λ R rest stands e. looked_keeps n R T rest stands e) e
    where
      at : (w : Visit) → visited l S ps ≡ w → ((R : State) (rest : List Pair) → Stands R L rest → looked l n R rest ≡ Some T → SoundLater R L T)
          → elim w [ Done ↦ Some S | Refused ↦ None | Left R more ↦ looked l n R more ] ≡ Some T → SoundLater S L T
      at Done f ih e = subst (SoundLater S L) (let is : S ≡ T = cc in is) (record { sound = st.sound; later = later_itself S L st.sound })
      at Refused f ih e = cc
      at (Left R rest) f ih e =
          let k = visited_keeps S R ps rest st f in
          let m = ih R rest k.stands e in
          record { sound = m.sound; later = later_along S R T L L st.sound (λ n l c. c) k.later m.later }

  pub looked_follows : (n : ℕ) (S T : State) (ps : List Pair) → Stands S L ps → looked l n S ps ≡ Some T → Follows S T L
  looked_follows n S T ps st e =
      let k = looked_keeps n S T ps st e in
      record { live = L; within = λ n l c. c; sound = k.sound; fits = fits_later k.later st.fits; later = k.later }

-- Two rows of trees at the start

pub start_stands : (S : State) (L : Live) (a b : Forest) → IsSound S L → ValuesFit S L → AreTreesOf S L a → AreTreesOf S L b → Stands S L (record { scope = []; left = a; right = b } ∷ [])
start_stands S L a b sound fits left right =
    let p : Pair = record { scope = []; left = a; right = b } in
    let stands : PairStands S L p = record { left = left.known; right = right.known; left_closed = left.is_closed; right_closed = right.is_closed; universes = All-nil (λ u. u ≤ S.newest_universe) } in
    record { sound = sound; fits = fits; pairs = All-cons (PairStands S L) p [] stands (All-nil (PairStands S L)) }

-- The state in which both are equal follows, and what is pending stays.
pub equated_follows : (l : Listing) → IsListing l → (S T : State) (L : Live) (a b : Forest) → IsSound S L → ValuesFit S L → AreTreesOf S L a → AreTreesOf S L b → equated l S a b ≡ Some T → Follows S T L
equated_follows l listing S T L a b sound fits left right e =
    let ps : List Pair = record { scope = []; left = a; right = b } ∷ [] in
    looked_follows l listing L (looks l S ps) S T ps (start_stands S L a b sound fits left right) e

pub equated_pending : (l : Listing) (S T : State) (a b : Forest) → equated l S a b ≡ Some T → T.pending ≡ S.pending
equated_pending l S T a b e =
    let ps : List Pair = record { scope = []; left = a; right = b } ∷ [] in
    looked_stays (λ (R : State). R.pending) (λ S v t. refl) (λ S rs. refl) (λ S. refl) l (looks l S ps) S T ps e

-- No variable goes away.
pub equated_variables : (l : Listing) (S T : State) (a b : Forest) → equated l S a b ≡ Some T → length T.variables ≡ length S.variables
equated_variables l S T a b e =
    let ps : List Pair = record { scope = []; left = a; right = b } ∷ [] in
    looked_stays (λ (R : State). length R.variables) length_bound (λ S rs. refl) (λ S. refl) l (looks l S ps) S T ps e
