-- Two rows that are one once all values and listed types are put in, and in which nothing stirs: each look there leaves the state, and so
-- they are passed over.
use Rattle.std.proofs.Common.{◌≡◌, ◌+◌, ◌&&◌, ◌||◌, ℕ, Bool, true, false, Option, Some, None, List, [], ◌∷◌, ◌++◌, refl, sym, ◌∙◌, ap, subst, if◌then◌else◌}
use Rattle.std.specs.Option.{unwrap_or}
use Rattle.std.proofs.lemmas.Bool.{or_parts}
use Rattle.ir_trees.specs.declared.ir.heads.Head.{Head}
use Rattle.ir_trees.specs.declared.ir.heads.Head.TheVariants as H
use Rattle.ir_trees.specs.declared.ir.kinds.RegionKind.TheVariants as R
use Rattle.ir_trees.specs.Syntax.Trees.{Forest, none, tree, Tree, is_alias, binders_of, variable_number}
use Rattle.ir_trees.specs.Instantiation.Folding.{fold}
use Rattle.ir_trees.specs.Unification.Substitutions.{alone}
use Rattle.ir_trees.specs.Unification.Unify.{same_head}
use Rattle.ir_trees.proofs.Instantiation.Folding.{fold-nothing}
use Rattle.ir_trees.proofs.Syntax.Equal.{head_itself}
use Rattle.candidate_eval.specs.Interface.Evaluators.{root_value}
use Rattle.candidate_eval.specs.Judges.States.{State, value_at, resolved, resolved_tree, with_universe}
use Rattle.candidate_eval.specs.Judges.Soundness.{IsResolved, has_value, is_region}
use Rattle.candidate_eval.proofs.Marks.Holds.{holds_parts}
use Rattle.rounds_judge.specs.Aliases.Listed.{Listing, listed, listed_at, normalized_tree, current}
use Rattle.rounds_judge.specs.Equations.Active.{AreOne, IsStill, stirs, stirs_at}
use Rattle.rounds_judge.specs.Equations.Opening.{readied}
use Rattle.rounds_judge.specs.Equations.Scopes.{Scope, placed_head, placed_tree, scope_below, entered, has_binder, has_variables}
use Rattle.rounds_judge.specs.Equations.Equating.{Pair, Visit, Refused, Left, first_of, matched, met, offered, outlives, unified, visited, with_equal_regions}
use Rattle.rounds_judge.specs.Equations.Standing.{AreResolved, IsListing}
use Rattle.rounds_judge.proofs.States.Later.{no_value, resolved_stays}
use Rattle.rounds_judge.proofs.States.Marks.{same_depth}
use Rattle.rounds_judge.proofs.Equations.Current.{listed_no_alias, listed_resolved, root_at, root_free}
use Rattle.rounds_judge.proofs.Equations.Offered.{no_listed, placed}
use Rattle.rounds_judge.proofs.Equations.Passing.{offered-itself}
use Rattle.rounds_judge.proofs.Equations.Stepping.{unified-left}

-- What stirs nowhere

record Unstirred (S : State) (h : Head) (below rest : Forest) : Type 0 where
  here : stirs_at S h below ≡ false
  under : stirs S below ≡ false
  others : stirs S rest ≡ false

unstirred : (S : State) (h : Head) (below rest : Forest) → stirs S (tree h below rest) ≡ false → Unstirred S h below rest
unstirred S h below rest e =
    let p = or_parts (stirs_at S h below) (stirs S below || stirs S rest) e in
    let q = or_parts (stirs S below) (stirs S rest) p.1 in
    record { here = p.0; under = q.0; others = q.1 }

-- a root without a value, at which nothing stirs, stays where values are put in
unvalued : (S : State) (h : Head) (below : Forest) → stirs_at S h below ≡ false → root_value S h ≡ None → value_at S h ≡ None
unvalued S (H.Infer v) below e f = f
unvalued S (H.Region r) below e f = no_value (value_at S (H.Region r)) e
unvalued S _ below e f = refl

module _ (l : Listing) (listing : IsListing l) (S : State) where
  -- the tree with all values and listed types put in
  abbrev ready_tree : Tree → Tree
  ready_tree t = normalized_tree l (resolved_tree S t)

  -- listed types look at trees alone, so under how many binders they are put in is all one
  listed_depth : (d e : ℕ) (ts : Forest) → fold (λ d u. listed l u) d ts ≡ fold (λ d u. listed l u) e ts
  listed_depth d e none = refl
  listed_depth d e (tree h below rest) = rw (listed_depth (d + binders_of h) (e + binders_of h) below, listed_depth d e rest) refl

  -- What a tree is at the state, and what that and what stands below it are with all put in.
  record IsAt (t x : Tree) : Type 0 where
    head : x.head ≡ (ready_tree t).head
    below : readied l S x.children ≡ (ready_tree t).children
    still : IsStill l S x.children
    here : has_binder x.head && has_variables x.children ≡ false
    free : root_value S x.head ≡ None

  no_variables : (h : Head) (below : Forest) → stirs_at S h below ≡ false → has_binder h && has_variables below ≡ false
  no_variables h below e = (or_parts (has_binder h && has_variables below) (is_region h && has_value S h) e).0

  -- a listed type
  at_type : (t u : Tree) → listed l (resolved_tree S t) ≡ Some u → stirs S (alone (ready_tree t)) ≡ false → IsAt t u
  at_type t u e n =
      let x = resolved_tree S t in
      let is : ready_tree t ≡ u = ap (λ o. unwrap_or o (record { head = x.head; children = fold (λ d u. listed l u) (0 + binders_of x.head) x.children })) e in
      let r = (holds_parts (has_value S) u.head u.children none (listed_resolved l listing x u e S)) in
      let n_alias = (holds_parts is_alias u.head u.children none (listed_no_alias l listing x u e)).under in
      let same : resolved S u.children ≡ u.children = resolved_stays S u.children r.under in
      let whole : readied l S u.children ≡ u.children =
      ap (fold (λ d u. listed l u) 0) same ∙ fold-nothing (λ d u. listed l u) is_alias (λ d u m. no_listed l listing u m) 0 u.children n_alias in
      let k = unstirred S u.head u.children none (subst (λ (t : Tree). stirs S (alone t) ≡ false) is n) in
      record {
        head = sym (ap (λ (t : Tree). t.head) is);
        below = whole ∙ sym (ap (λ (t : Tree). t.children) is);
        still = record { standing = k.under; valued = ap (stirs S) same ∙ k.under; ready = ap (stirs S) whole ∙ k.under };
        here = no_variables u.head u.children k.here;
        free = root_free S u.head r.here;
      }

  -- the tree itself, which isn't listed
  at_itself : (t : Tree) → listed l (resolved_tree S t) ≡ None → value_at S t.head ≡ None → root_value S t.head ≡ None → IsStill l S (alone t) → IsAt t t
  at_itself t e v free still =
      let inner = fold (λ d u. value_at S u.head) (0 + binders_of t.head) t.children in
      let x : Tree = record { head = t.head; children = inner } in
      let is_x : resolved_tree S t ≡ x = ap (λ o. unwrap_or o x) v in
      let y : Tree = record { head = t.head; children = fold (λ d u. listed l u) (0 + binders_of t.head) inner } in
      let is_y : ready_tree t ≡ y = ap (λ (u : Tree). normalized_tree l u) is_x ∙ ap (λ o. unwrap_or o y) (sym (ap (listed l) is_x) ∙ e) in
      let valued : inner ≡ resolved S t.children = same_depth (value_at S) (0 + binders_of t.head) 0 t.children in
      let ready : y.children ≡ readied l S t.children = listed_depth (0 + binders_of t.head) 0 inner ∙ ap (fold (λ d u. listed l u) 0) valued in
      let a = unstirred S t.head t.children none still.standing in
      let b = unstirred S t.head inner none (subst (λ (t : Tree). stirs S (alone t) ≡ false) is_x still.valued) in
      let c = unstirred S t.head y.children none (subst (λ (t : Tree). stirs S (alone t) ≡ false) is_y still.ready) in
      record {
        head = sym (ap (λ (t : Tree). t.head) is_y);
        below = sym ready ∙ sym (ap (λ (t : Tree). t.children) is_y);
        still = record { standing = a.under; valued = sym (ap (stirs S) valued) ∙ b.under; ready = sym (ap (stirs S) ready) ∙ c.under };
        here = no_variables t.head t.children a.here;
        free = free;
      }

  -- A tree that is no variable, and keeps its head where values and listed types are put in: what is below it then.
  pub ready_below : (t : Tree) → variable_number t.head ≡ None → (ready_tree t).head ≡ t.head → IsStill l S (alone t) → IsStill l S t.children × (readied l S t.children ≡ (ready_tree t).children)
  ready_below t n same still =
      let k = at_itself t (not_listed (listed l (resolved_tree S t)) refl) (no_value_at t.head n) (no_root t.head n) still in (k.still, k.below)
    where
      no_value_at : (h : Head) → variable_number h ≡ None → value_at S h ≡ None
      no_value_at (H.Infer v) e = cc
      no_value_at (H.Region (R.Var i)) e = cc
      no_value_at _ e = refl

      no_root : (h : Head) → variable_number h ≡ None → root_value S h ≡ None
      no_root (H.Infer v) e = cc
      no_root _ e = refl

      root : (resolved_tree S t).head ≡ t.head
      root = ap (λ o. let u : Tree = unwrap_or o (record { head = t.head; children = fold (λ d u. value_at S u.head) (0 + binders_of t.head) t.children }) in u.head) (no_value_at t.head n)

      not_listed : (o : Option Tree) → listed l (resolved_tree S t) ≡ o → listed l (resolved_tree S t) ≡ None
      not_listed None e = e
      not_listed (Some u) e =
          let x = resolved_tree S t in
          let is : ready_tree t ≡ u = ap (λ o. unwrap_or o (record { head = x.head; children = fold (λ d u. listed l u) (0 + binders_of x.head) x.children })) e in
          let none_there = (holds_parts is_alias u.head u.children none (listed_no_alias l listing x u e)).here in
          no_listed l listing x (ap is_alias (root ∙ sym same) ∙ (ap (λ (t : Tree). is_alias t.head) is ∙ none_there))

  -- so is a tree that has no value
  at_free : (t : Tree) → root_value S t.head ≡ None → IsStill l S (alone t) → IsAt t (listed_at l S t)
  at_free t free still = by (listed l (resolved_tree S t)) refl
    where
      k : Unstirred S t.head t.children none
      k = unstirred S t.head t.children none still.standing

      v : value_at S t.head ≡ None
      v = unvalued S t.head t.children k.here free

      root : (resolved_tree S t).head ≡ t.head
      root = ap (λ o. let u : Tree = unwrap_or o (record { head = t.head; children = fold (λ d u. value_at S u.head) (0 + binders_of t.head) t.children }) in u.head) v

      either : (b : Bool) → (if b then t else t) ≡ t
      either true = refl
      either false = refl

      by : (o : Option Tree) → listed l (resolved_tree S t) ≡ o → IsAt t (if is_alias t.head then unwrap_or o t else t)
      by None e = subst (IsAt t) (sym (either (is_alias t.head))) (at_itself t e v free still)
      by (Some u) e = at (is_alias t.head) refl
        where
          at : (b : Bool) → is_alias t.head ≡ b → IsAt t (if b then u else t)
          at true a = at_type t u e still.ready
          at false a = absurd (let clash : None ≡ Some u = sym (no_listed l listing (resolved_tree S t) (ap is_alias root ∙ a)) ∙ e in cc)

  module _ (values : AreResolved S) where
    -- and a value
    at_value : (t x : Tree) → root_value S t.head ≡ Some x → IsStill l S (alone t) → IsAt t (listed_at l S x)
    at_value t x e still =
        let v = root_at S t.head x e in
        let is : resolved_tree S t ≡ x = ap (λ o. unwrap_or o (record { head = t.head; children = fold (λ d u. value_at S u.head) (0 + binders_of t.head) t.children })) v in
        let r : IsResolved S (alone x) = values t.head x v in
        let same : resolved S (alone x) ≡ alone x = resolved_stays S (alone x) r in
        let both : resolved S (alone x) ≡ resolved S (alone t) = same ∙ sym (ap alone is) in
        let standing : stirs S (alone x) ≡ false = subst (λ (u : Tree). stirs S (alone u) ≡ false) is still.valued in
        let k = at_free x (root_free S x.head (holds_parts (has_value S) x.head x.children none r).here) (record {
          standing = standing;
          valued = ap (stirs S) same ∙ standing;
          ready = ap (λ ts. stirs S (fold (λ d u. listed l u) 0 ts)) both ∙ still.ready;
        }) in
        let one : ready_tree x ≡ ready_tree t = ap (λ ts. first_tree (fold (λ d u. listed l u) 0 ts)) both in
        record { head = k.head ∙ ap (λ (u : Tree). u.head) one; below = k.below ∙ ap (λ (u : Tree). u.children) one; still = k.still; here = k.here; free = k.free }
      where
        first_tree : Forest → Tree
        first_tree none = t
        first_tree (tree h a r) = record { head = h; children = a }

    at_current : (t : Tree) → IsStill l S (alone t) → IsAt t (current l S t)
    at_current t still = by (root_value S t.head) refl
      where
        by : (o : Option Tree) → root_value S t.head ≡ o → IsAt t (listed_at l S (unwrap_or o t))
        by None e = at_free t e still
        by (Some x) e = at_value t x e still

-- Two trees with one head meet, which is of no variable with a value

same_root : (us : Scope) (x y : Tree) → x.head ≡ y.head → (placed_tree us x).head ≡ (placed_tree us y).head
same_root us x y e = by (placed_head us 0 x.head) refl (sym (ap (placed_head us 0) e))
  where
    at : Option Tree → Tree → Head
    at o t = let u : Tree = unwrap_or o (record { head = t.head; children = placed us (0 + binders_of t.head) t.children }) in u.head

    by : (o : Option Tree) → placed_head us 0 x.head ≡ o → placed_head us 0 y.head ≡ placed_head us 0 x.head → (placed_tree us x).head ≡ (placed_tree us y).head
    by None f g = ap (λ o. at o x) f ∙ (e ∙ sym (ap (λ o. at o y) (g ∙ f)))
    by (Some w) f g = ap (λ o. at o x) f ∙ sym (ap (λ o. at o y) (g ∙ f))

regions_stay : (S : State) (r s : Tree) → r.head ≡ s.head → with_equal_regions S r s ≡ S
regions_stay S r s e = ap (λ b. if b then S else record S { regions = S.regions ++ outlives r s ∷ outlives s r ∷ [] }) (ap (same_head r.head) (sym e) ∙ head_itself r.head)

module _ (l : Listing) (listing : IsListing l) (S : State) (us : Scope) (x y : Tree) (e : y.head ≡ x.head) (free : root_value S x.head ≡ None) (here : has_binder x.head && has_variables x.children ≡ false) where
  -- what is looked at next below them
  abbrev below_both : Pair
  below_both = record { scope = scope_below S us x.head x.children; left = x.children; right = y.children }

  abbrev next_pairs : List Pair → List Pair
  next_pairs more = if is_region x.head then more else below_both ∷ more

  not_taken : (h : Head) (t : Tree) (more : List Pair) → t.head ≡ h → root_value S h ≡ None → offered l S us h t more ≡ None
  not_taken h t more f g = subst (λ k. offered l S us k t more ≡ None) f (offered-itself l listing S us t.head t.children more (ap (root_value S) f ∙ g))

  matched_below : (more : List Pair) → matched S us x y more ≡ Left S (next_pairs more)
  matched_below more =
      ap (λ h. if is_region x.head && is_region h then Left (with_equal_regions S (placed_tree us x) (placed_tree us y)) more else (if same_head x.head h then Left (entered S x.head x.children) (below_both ∷ more) else Refused)) e
      ∙ at (with_equal_regions S (placed_tree us x) (placed_tree us y)) (is_region x.head) (same_head x.head x.head) (has_binder x.head && has_variables x.children)
      (regions_stay S (placed_tree us x) (placed_tree us y) (same_root us x y (sym e))) (head_itself x.head) here
    where
      at : (T : State) (b c d : Bool) → T ≡ S → c ≡ true → d ≡ false
          → ◌≡◌ {A = Visit} (if b && b then Left T more else (if c then Left (if d then with_universe S else S) (below_both ∷ more) else Refused)) (Left S (if b then more else below_both ∷ more))
      at T true c d f g h = ap (λ T. Left T more) f
      at T false true false f g h = refl
      at T false false d f g h = cc
      at T false true true f g h = cc

  met_below : (more : List Pair) → met l S us x y more ≡ Left S (next_pairs more)
  met_below more =
      ap (λ o. first_of o (offered l S us y.head x more) (matched S us x y more)) (not_taken x.head y more e free)
      ∙ (ap (λ o. first_of None o (matched S us x y more)) (not_taken y.head x more (sym e) (ap (root_value S) e ∙ free)) ∙ matched_below more)

-- Rows

module _ (l : Listing) (listing : IsListing l) (S : State) (values : AreResolved S) where
  record AreStill (h : Head) (a r : Forest) : Type 0 where
    first : IsStill l S (tree h a none)
    others : IsStill l S r

  are_still : (h : Head) (a r : Forest) → IsStill l S (tree h a r) → AreStill h a r
  are_still h a r k =
      let t : Tree = record { head = h; children = a } in
      let x = resolved_tree S t in
      let y = normalized_tree l x in
      let p = unstirred S h a r k.standing in
      let q = unstirred S x.head x.children (resolved S r) k.valued in
      let w = unstirred S y.head y.children (readied l S r) k.ready in
      record {
        first = record { standing = rw (p.here, p.under) refl; valued = rw (q.here, q.under) refl; ready = rw (w.here, w.under) refl };
        others = record { standing = p.others; valued = q.others; ready = w.others };
      }

  repeated : (P : List Pair → Type 0) → ((ps qs : List Pair) → visited l S ps ≡ Left S qs → P qs → P ps)
      → (all : Forest) (us : Scope) (f g : Forest) (more : List Pair) → IsStill l S f → IsStill l S g → readied l S f ≡ all → readied l S g ≡ all → P more → P (record { scope = us; left = f; right = g } ∷ more)
  repeated P back none us none none more i j d e p = back (record { scope = us; left = none; right = none } ∷ more) more refl p
  repeated P back none us none (tree k b s) more i j d e p = cc
  repeated P back none us (tree h a r) g more i j d e p = cc
  repeated P back (tree o c q) us none g more i j d e p = cc
  repeated P back (tree o c q) us (tree h a r) none more i j d e p = cc
  repeated P back (tree o c q) us (tree h a r) (tree k b s) more i j d e p =
      let t : Tree = record { head = h; children = a } in
      let u : Tree = record { head = k; children = b } in
      let x = current l S t in
      let y = current l S u in
      let still_left = are_still h a r i in
      let still_right = are_still k b s j in
      let at_left = at_current l listing S values t still_left.first in
      let at_right = at_current l listing S values u still_right.first in
      let rest : List Pair = record { scope = us; left = r; right = s } ∷ more in
      let one : y.head ≡ x.head = at_right.head ∙ (first_head e ∙ sym (at_left.head ∙ first_head d)) in
      back (record { scope = us; left = tree h a r; right = tree k b s } ∷ more) (if is_region x.head then rest else below_both l listing S us x y one at_left.free at_left.here ∷ rest)
      (met_below l listing S us x y one at_left.free at_left.here rest)
      (at (is_region x.head) (below_both l listing S us x y one at_left.free at_left.here)
      (λ z. repeated P back c (scope_below S us x.head x.children) x.children y.children rest at_left.still at_right.still (at_left.below ∙ first_below d) (at_right.below ∙ first_below e) z)
      (repeated P back q us r s more still_left.others still_right.others (first_rest d) (first_rest e) p))
    where
      head_of : Forest → Head
      head_of none = o
      head_of (tree h a r) = h

      below_of : Forest → Forest
      below_of none = none
      below_of (tree h a r) = a

      rest_of : Forest → Forest
      rest_of none = none
      rest_of (tree h a r) = r

      first_head : {v : Tree} {z : Forest} → tree v.head v.children z ≡ tree o c q → v.head ≡ o
      first_head f = ap head_of f

      first_below : {v : Tree} {z : Forest} → tree v.head v.children z ≡ tree o c q → v.children ≡ c
      first_below f = ap below_of f

      first_rest : {v : Tree} {z : Forest} → tree v.head v.children z ≡ tree o c q → z ≡ q
      first_rest f = ap rest_of f

      at : (b : Bool) (n : Pair) {rest : List Pair} → (P rest → P (n ∷ rest)) → P rest → P (if b then rest else n ∷ rest)
      at true n f z = z
      at false n f z = f z

  -- What is kept where a look leaves the state is kept where the rows are passed over.
  pub passed-one : (P : List Pair → Type 0) → ((ps qs : List Pair) → visited l S ps ≡ Left S qs → P qs → P ps)
      → (us : Scope) (f g : Forest) (more : List Pair) → AreOne l S f g → P more → P (record { scope = us; left = f; right = g } ∷ more)
  passed-one P back us f g more k p = repeated P back (readied l S g) us f g more k.left_is_still k.right_is_still k.same refl p

  -- What is unified is what comes after such rows.
  pub unified-one : (us : Scope) (f g : Forest) (more : List Pair) → AreOne l S f g → unified l S (record { scope = us; left = f; right = g } ∷ more) ≡ unified l S more
  unified-one us f g more k = passed-one (λ ps. unified l S ps ≡ unified l S more) (λ ps qs v k. unified-left l listing S S ps qs values v ∙ k) us f g more k refl
