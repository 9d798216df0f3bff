-- What a look offers to a variable: the other tree, with all values put in, and with placeholders for the regions that the binders around it bind.
use Rattle.std.proofs.Common.{◌≡◌, ◌≤◌, ◌<◌, ℕ, zero, suc, ◌+◌, ◌-◌, Bool, true, false, not, ◌&&◌, Option, Some, None, List, [], ◌∷◌, length, slice_get, nat_le, refl, sym, ap, subst, ◌∙◌, arith, if◌then◌else◌}
use Rattle.std.specs.Option.{unwrap_or}
use Rattle.std.specs.List.{All}
use Rattle.std.proofs.lemmas.Bool.{leb-true, leb-false}
use Rattle.std.proofs.lemmas.List.Elements.{All-head, All-tail}
use Rattle.ir_trees.specs.declared.ir.heads.Head.{Head}
use Rattle.ir_trees.specs.declared.ir.heads.Head.TheVariants as H
use Rattle.ir_trees.specs.declared.ir.kinds.BoundVar.{BoundVar}
use Rattle.ir_trees.specs.declared.ir.kinds.Placeholder.{Placeholder}
use Rattle.ir_trees.specs.declared.ir.kinds.RegionKind.{RegionKind}
use Rattle.ir_trees.specs.declared.ir.kinds.RegionKind.TheVariants as R
use Rattle.ir_trees.specs.Syntax.Trees.{Forest, none, tree, Tree, erase, erased_head, holds, is_alias, binders_of}
use Rattle.ir_trees.specs.Syntax.Binders.{is_beyond, escapes}
use Rattle.ir_trees.specs.Instantiation.Folding.{fold, leaf}
use Rattle.ir_trees.specs.Unification.Substitutions.{alone}
use Rattle.ir_trees.specs.Hierarchy.Elaboration.{same_tree}
use Rattle.ir_context.proofs.Hierarchy.Elaboration.{tree_is}
use Rattle.ir_trees.proofs.Instantiation.Folding.{begin, fold-nothing}
use Rattle.candidate_eval.specs.declared.eval.variable.VariableKind.TheVariants.{Term, Region}
use Rattle.candidate_eval.specs.Judges.States.{State, Values, value_at, resolved, resolved_tree, has_kind}
use Rattle.candidate_eval.specs.Judges.Alike.{info}
use Rattle.candidate_eval.specs.Judges.Soundness.{Live, IsSound, ValuesFit, AreLeaves, is_leaf, is_region, is_strange}
use Rattle.candidate_eval.specs.Judges.Lawful.{HasLeafValues}
use Rattle.candidate_eval.specs.Interface.Evaluators.{root_value}
use Rattle.rounds_judge.specs.Aliases.Listed.{Listing, listed, listed_in, normalized_tree}
use Rattle.rounds_judge.specs.Equations.Scopes.{Scope, placed_head, placed_region, placed_tree}
use Rattle.rounds_judge.specs.Equations.Equating.{value_for}
use Rattle.rounds_judge.specs.Equations.Standing.{IsListed, IsListing}
use Rattle.rounds_judge.proofs.States.Marks.{whole, escape_parts, escape_whole, fold_marked, holds_to}
use Rattle.rounds_judge.proofs.States.Later.{resolved_known, resolved_closed}
use Rattle.rounds_judge.proofs.Unifiers.Putting.{put_in, nowhere, absorbed, fold_leaves}
use Rattle.rounds_judge.proofs.Equations.Sides.{Side, Absorbs, IsQuiet, resolved_leaves, resolved_absorbed}

-- Placeholders for bound regions

abbrev pub placed : Scope → ℕ → Forest → Forest
placed us d ts = fold (λ e t. placed_head us e t.head) d ts

data PlacedAs (h : Head) (u : Tree) : Type 0 where
  placed_as : (v : BoundVar) (p : Placeholder) → h ≡ H.Region (R.Bound v) → leaf (H.Region (R.Placeholder p)) ≡ u → PlacedAs h u

which_placed : (us : Scope) (d : ℕ) (h : Head) (u : Tree) → placed_head us d h ≡ Some u → PlacedAs h u
which_placed us d (H.Region r) u e = at r e
  where
    by : (v : BoundVar) (o : Option ℕ) → placed_region v o ≡ Some u → PlacedAs (H.Region (R.Bound v)) u
    by v None e = cc
    by v (Some n) e = placed_as v (record { universe = n; index = v.index }) refl (let same : leaf (H.Region (R.Placeholder (record { universe = n; index = v.index }))) ≡ u = cc in same)

    here : (v : BoundVar) (b : Bool) → (if b then placed_region v (slice_get us (v.depth - d)) else None) ≡ Some u → PlacedAs (H.Region (R.Bound v)) u
    here v true e = by v (slice_get us (v.depth - d)) e
    here v false e = cc

    at : (r : RegionKind) → placed_head us d (H.Region r) ≡ Some u → PlacedAs (H.Region r) u
    at (R.Bound v) e = here v (nat_le d v.depth) e
    at _ e = cc
which_placed us d _ u e = cc

pub placed_absorbed : (us : Scope) (w : Values) → IsQuiet w → (d : ℕ) (ts : Forest) → AreLeaves ts → erase (put_in w (placed us d ts)) ≡ erase (put_in w ts)
placed_absorbed us w q d ts l = absorbed (λ e t. placed_head us e t.head) w (λ h. false) (λ e t u m f. says t.head u (which_placed us e t.head u f)) d ts (nowhere ts) l
  where
    says : (h : Head) (u : Tree) → PlacedAs h u → (is_leaf h ≡ true) × (erase (put_in w (alone u)) ≡ erase (put_in w (tree h none none)))
    says h u (placed_as v p e f) =
        let one : erase (put_in w (tree (H.Region (R.Placeholder p)) none none)) ≡ tree (H.Region R.Static) none none = ap (λ o. erase (alone (unwrap_or o (leaf (H.Region (R.Placeholder p)))))) (q.placeholder p) in
        let two : erase (put_in w (tree (H.Region (R.Bound v)) none none)) ≡ tree (H.Region R.Static) none none = ap (λ o. erase (alone (unwrap_or o (leaf (H.Region (R.Bound v)))))) (q.bound v) in
        (ap is_leaf e, ap (λ t. erase (put_in w (alone t))) (sym f) ∙ one ∙ sym two ∙ ap (λ h. erase (put_in w (tree h none none))) (sym e))

pub placed_leaves : (us : Scope) (d : ℕ) (ts : Forest) → AreLeaves ts → AreLeaves (placed us d ts)
placed_leaves us d ts l = fold_leaves (λ e t. placed_head us e t.head) (λ h. false) (λ e t u m f. says t.head u (which_placed us e t.head u f)) d ts (nowhere ts) l
  where
    says : (h : Head) (u : Tree) → PlacedAs h u → AreLeaves (alone u)
    says h u (placed_as v p e f) = subst (λ t. AreLeaves (alone t)) f (λ is. refl, tt, tt)

-- a mark that no placeholder of a region bears
pub placed_marked : (us : Scope) (mark : Head → Bool) → ((p : Placeholder) → mark (H.Region (R.Placeholder p)) ≡ false) → (d : ℕ) (ts : Forest) → holds mark ts ≡ false → holds mark (placed us d ts) ≡ false
placed_marked us mark m d ts e = fold_marked (λ e t. placed_head us e t.head) mark mark mark (λ e t a b f. a) (λ e t u a b f. says t.head u (which_placed us e t.head u f)) d ts e e
  where
    says : (h : Head) (u : Tree) → PlacedAs h u → holds mark (alone u) ≡ false
    says h u (placed_as v p e f) = subst (λ t. holds mark (alone t) ≡ false) f (whole mark (H.Region (R.Placeholder p)) none none (m p) refl refl)

pub binders_erased : (h : Head) → binders_of (erased_head h) ≡ binders_of h
binders_erased (H.Region r) = refl
binders_erased h = refl

missing : {A : Type 0} (xs : List A) (n : ℕ) → slice_get xs n ≡ None → n < length xs → ⊥
missing [] n e lt = omega (arith, lt)
missing (x ∷ xs) zero e lt = let clash : Some x ≡ None = e in cc
missing (x ∷ xs) (suc n) e lt = missing xs n e (omega (arith, lt))

-- a bound region that stays is bound by the tree itself
bound_within : (us : Scope) (d : ℕ) (v : BoundVar) → placed_head us d (H.Region (R.Bound v)) ≡ None → is_beyond (d + length us) (H.Region (R.Bound v)) ≡ false → nat_le d v.depth ≡ false
bound_within us d v p b = at (nat_le d v.depth) refl p
  where
    less : d ≤ v.depth → v.depth < d + length us → v.depth - d < length us
    less a b = omega (arith, a, b)

    by : (o : Option ℕ) → slice_get us (v.depth - d) ≡ o → nat_le d v.depth ≡ true → placed_region v o ≡ None → true ≡ false
    by None f t g = absurd (missing us (v.depth - d) f (less (leb-true d v.depth t) (leb-false (d + length us) v.depth b)))
    by (Some n) f t g = cc

    at : (x : Bool) → nat_le d v.depth ≡ x → (if x then placed_region v (slice_get us (v.depth - d)) else None) ≡ None → x ≡ false
    at false t g = refl
    at true t g = by (slice_get us (v.depth - d)) refl t g

stays_bound : (us : Scope) (d : ℕ) (h : Head) → placed_head us d h ≡ None → is_beyond (d + length us) h ≡ false → is_beyond d (erased_head h) ≡ false → is_beyond d h ≡ false
stays_bound us d (H.Region r) p b e = at r p b
  where
    at : (r : RegionKind) → placed_head us d (H.Region r) ≡ None → is_beyond (d + length us) (H.Region r) ≡ false → is_beyond d (H.Region r) ≡ false
    at (R.Bound v) p b = bound_within us d v p b
    at _ p b = refl
stays_bound us d h p b e = e

-- what escapes from no tree of the scope, and from none once regions are erased, is placed
pub placed_closed : (us : Scope) (d : ℕ) (ts : Forest) → escapes (d + length us) ts ≡ false → escapes d (erase (placed us d ts)) ≡ false → escapes d (placed us d ts) ≡ false
placed_closed us d none e f = refl
placed_closed us d (tree h a r) e f =
    let p = escape_parts (d + length us) h a r e in
    let it : Tree = unwrap_or (placed_head us d h) (record { head = h; children = placed us (d + binders_of h) a }) in
    let q = escape_parts d (erased_head it.head) (erase it.children) (erase (placed us d r)) f in
    at (placed_head us d h) refl p.here (placed_closed us (d + binders_of h) a (subst (λ n. escapes n a ≡ false) (swap (length us) (binders_of h)) p.under)) (placed_closed us d r p.others q.others) q.here q.under
  where
    swap : (n b : ℕ) → d + n + b ≡ d + b + n
    swap n b = omega arith

    at : (o : Option Tree) → placed_head us d h ≡ o → is_beyond (d + length us) h ≡ false
        → (escapes (d + binders_of h) (erase (placed us (d + binders_of h) a)) ≡ false → escapes (d + binders_of h) (placed us (d + binders_of h) a) ≡ false)
        → escapes d (placed us d r) ≡ false
        → (let it : Tree = unwrap_or o (record { head = h; children = placed us (d + binders_of h) a }) in is_beyond d (erased_head it.head) ≡ false)
        → (let it : Tree = unwrap_or o (record { head = h; children = placed us (d + binders_of h) a }) in escapes (d + binders_of (erased_head it.head)) (erase it.children) ≡ false)
        → escapes d (begin (unwrap_or o (record { head = h; children = placed us (d + binders_of h) a })) (placed us d r)) ≡ false
    at None g b under others here lower =
        escape_whole d h (placed us (d + binders_of h) a) (placed us d r) (stays_bound us d h g b here)
        (under (subst (λ n. escapes (d + n) (erase (placed us (d + binders_of h) a)) ≡ false) (binders_erased h) lower)) others
    at (Some u) g b under others here lower = by (which_placed us d h u g)
      where
        by : PlacedAs h u → escapes d (begin u (placed us d r)) ≡ false
        by (placed_as v p x y) = subst (λ t. escapes d (begin t (placed us d r)) ≡ false) y (escape_whole d (H.Region (R.Placeholder p)) none (placed us d r) refl refl others)

-- Listed types

none_lists : (ps : List (Tree × Tree)) → All IsListed ps → (t : Tree) → is_alias t.head ≡ false → listed_in ps t ≡ None
none_lists [] ok t n = refl
none_lists (p ∷ ps) ok t n = at (none_lists ps (All-tail IsListed p ps ok) t n) (same_tree p.0 t) refl
  where
    at : listed_in ps t ≡ None → (b : Bool) → same_tree p.0 t ≡ b → (if b then Some p.1 else listed_in ps t) ≡ None
    at rest false e = rest
    at rest true e = absurd (let clash : true ≡ false = sym (All-head IsListed p ps ok).is_alias ∙ ap (λ (x : Tree). is_alias x.head) (tree_is p.0 t e) ∙ n in cc)

pub no_listed : (l : Listing) → IsListing l → (t : Tree) → is_alias t.head ≡ false → listed l t ≡ None
no_listed l ok t n = none_lists l.pairs ok t n

abbrev first : Forest → Tree
first none = leaf (H.Region R.Static)
first (tree h a r) = record { head = h; children = a }

same_alone : (a b : Tree) → alone a ≡ alone b → a ≡ b
same_alone a b e = ap first e

pub normal_already : (l : Listing) → IsListing l → (t : Tree) → holds is_alias (alone t) ≡ false → normalized_tree l t ≡ t
normal_already l ok t n = same_alone (normalized_tree l t) t (fold-nothing (λ d u. listed l u) is_alias (λ d u m. no_listed l ok u m) 0 (alone t) n)

-- The value

-- a variable that doesn't count or is of another kind
abbrev pub is_unknown : State → Live → Head → Bool
is_unknown S L (H.Infer v) = not (L v.number && has_kind (Term v.sort) (info S v.number))
is_unknown S L (H.Region (R.Var n)) = not (L n && has_kind Region (info S n))
is_unknown S L _ = false

pub less_unknown : (S : State) (L : Live) (h : Head) → is_strange S L h ≡ false → is_unknown S L h ≡ false
less_unknown S L (H.Infer v) e = e
less_unknown S L (H.Region r) e = at r e
  where
    at : (r : RegionKind) → is_strange S L (H.Region r) ≡ false → is_unknown S L (H.Region r) ≡ false
    at (R.Var n) e = e
    at _ e = refl
less_unknown S L _ e = refl

-- What is offered for a tree whose variable has no value.
pub record IsOffered (S : State) (L : Live) (us : Scope) (y t : Tree) : Type 0 where
  pub known : holds (is_unknown S L) (alone t) ≡ false
  pub leaves : AreLeaves (alone t)
  pub no_alias : holds is_alias (alone t) ≡ false
  pub same : (w : Values) → Absorbs w S L → IsQuiet w → erase (put_in w (alone t)) ≡ erase (put_in w (alone y))
  pub is_closed : escapes 0 (erase (alone t)) ≡ false → escapes 0 (alone t) ≡ false
  pub head : is_region y.head ≡ false → t.head ≡ y.head

module _ (l : Listing) (listing : IsListing l) (S : State) (L : Live) (us : Scope) (sound : IsSound S L) (fits : ValuesFit S L) (leafy : HasLeafValues S L) where
  value_is : (y : Tree) → holds is_alias (resolved S (alone y)) ≡ false → value_for l S us y ≡ placed_tree us (resolved_tree S y)
  value_is y n = ap (placed_tree us) (normal_already l listing (resolved_tree S y) n)

  no_values : (h : Head) → is_region h ≡ false → root_value S h ≡ None → value_at S h ≡ None
  no_values (H.Infer v) n e = e
  no_values (H.Region r) n e = cc
  no_values h n e = refl

  no_places : (h : Head) → is_region h ≡ false → placed_head us 0 h ≡ None
  no_places (H.Region r) n = cc
  no_places h n = refl

  head_stays : (y : Tree) → root_value S y.head ≡ None → is_region y.head ≡ false → (placed_tree us (resolved_tree S y)).head ≡ y.head
  head_stays y e n =
      let z : Tree = record { head = y.head; children = fold (λ d u. value_at S u.head) (0 + binders_of y.head) y.children } in
      let same : resolved_tree S y ≡ z = ap (λ o. unwrap_or o z) (no_values y.head n e) in
      ap (λ (t : Tree). (placed_tree us t).head) same
      ∙ ap (λ o. let t : Tree = unwrap_or o (record { head = y.head; children = placed us (0 + binders_of y.head) z.children }) in t.head) (no_places y.head n)

  pub offered_for : (y : Tree) → Side S L us (alone y) → root_value S y.head ≡ None → IsOffered S L us y (value_for l S us y)
  offered_for y s free = subst (IsOffered S L us y) (sym (value_is y s.no_alias)) (record {
    known = placed_marked us (is_unknown S L) (λ p. refl) 0 (resolved S (alone y)) (holds_to (is_strange S L) (is_strange S L) (is_unknown S L) (λ h a b. less_unknown S L h a) (resolved S (alone y)) known known);
    leaves = placed_leaves us 0 (resolved S (alone y)) leaves;
    no_alias = placed_marked us is_alias (λ p. refl) 0 (resolved S (alone y)) s.no_alias;
    same = λ w a q. placed_absorbed us w q 0 (resolved S (alone y)) leaves ∙ resolved_absorbed S L w a (alone y) s.known s.leaves;
    is_closed = λ e. placed_closed us 0 (resolved S (alone y)) (resolved_closed S L fits (0 + length us) (alone y) s.known (subst (λ n. escapes n (alone y) ≡ false) (no_more (length us)) s.is_closed)) e;
    head = head_stays y free;
  })
    where
      known : holds (is_strange S L) (resolved S (alone y)) ≡ false
      known = resolved_known S L sound (alone y) s.known

      leaves : AreLeaves (resolved S (alone y))
      leaves = resolved_leaves S L leafy (alone y) s.known s.leaves

      no_more : (n : ℕ) → n ≡ 0 + n
      no_more n = omega arith
