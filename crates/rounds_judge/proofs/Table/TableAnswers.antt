-- A key's trees, with what a Yes says put in and then with what stands for the variables that it leaves open, are those of the goal that asked.
use Rattle.std.proofs.Common.{◌≡◌, ◌≤◌, ◌<◌, ℕ, zero, suc, Bool, true, false, not, ◌&&◌, ◌==◌, ◌||◌, nat_lt, List, [], ◌∷◌, length, slice_get, slice_index_or, map, Option, Some, None, arith, refl, sym, ap, subst, ◌∙◌, if◌then◌else◌}
use Rattle.std.specs.Option.{unwrap_or, option_map}
use Rattle.std.proofs.lemmas.Bool.{eqb-true, lt-leb}
use Rattle.ir_trees.specs.declared.ir.heads.ConstHead.TheVariants as C
use Rattle.ir_trees.specs.declared.ir.heads.Head.{Head}
use Rattle.ir_trees.specs.declared.ir.heads.Head.TheVariants as H
use Rattle.ir_trees.specs.declared.ir.heads.Variable.{Variable}
use Rattle.ir_trees.specs.declared.ir.heads.VariableSort.{VariableSort}
use Rattle.ir_trees.specs.declared.ir.heads.VariableSort.TheVariants as V
use Rattle.ir_trees.specs.declared.ir.kinds.Placeholder.{Placeholder}
use Rattle.ir_trees.specs.declared.ir.kinds.RegionKind.TheVariants as R
use Rattle.ir_trees.specs.Instantiation.Folding.{leaf}
use Rattle.ir_trees.specs.Unification.Substitutions.{alone, fits_sort}
use Rattle.ir_trees.specs.Syntax.Binders.{escapes}
use Rattle.ir_trees.specs.Syntax.Trees.{Forest, none, tree, Tree, holds}
use Rattle.ir_trees.proofs.Instantiation.Folding.{begin}
use Rattle.candidate_eval.specs.declared.eval.variable.CanonicalVar.{CanonicalVar}
use Rattle.candidate_eval.specs.declared.eval.variable.VariableKind.{VariableKind}
use Rattle.candidate_eval.specs.declared.eval.variable.VariableKind.TheVariants.{Term, Region}
use Rattle.candidate_eval.specs.Judges.Alike.{info}
use Rattle.candidate_eval.specs.Judges.Instances.{instance, tree_number, answer_values, is_of_universe, IsAllowedInto, response_universes, universe_or_root}
use Rattle.candidate_eval.specs.Outcomes.Responses.{Response}
use Rattle.candidate_eval.specs.Judges.Soundness.{Live, IsSound, ValuesFit, is_strange, is_region, universes, universe_in}
use Rattle.candidate_eval.specs.Judges.States.{State, Values, variable, valued, valued_tree, value_at, value_as, resolved, resolved_tree, has_kind, same_kind}
use Rattle.candidate_eval.proofs.Marks.Holds.{holds_parts}
use Rattle.rounds_judge.specs.Aliases.Congruence.{Same, SameTree, same, heads, regions, pair, back, along}
use Rattle.rounds_judge.specs.Table.GoalTable.{left_by, is_foreign}
use Rattle.rounds_judge.specs.Table.Keys.{Key, root_of, newest_of}
use Rattle.rounds_judge.specs.Aliases.Listed.{Listing}
use Rattle.rounds_judge.specs.Obligations.Responding.{is_seen, place_of, renumbering, renumbered_regions, renumbered, open_variable}
use Rattle.rounds_judge.specs.Equations.Standing.{IsListing}
use Rattle.rounds_judge.specs.Table.TableSettling.{Lift, lifted, lifted_leaf, translation, variables_row, is_bare, are_bare}
use Rattle.rounds_judge.proofs.Aliases.Congruent.{same_to, same_begin, region_value}
use Rattle.rounds_judge.proofs.Aliases.Equated.{same_join}
use Rattle.rounds_judge.proofs.States.Later.{has_info, kind_there, later_itself, value_as_of}
use Rattle.rounds_judge.proofs.States.Marks.{whole, valued_node}
use Rattle.rounds_judge.proofs.Obligations.Renumbering.{is_missing}
use Rattle.rounds_judge.proofs.Obligations.Responding.{number_valued, number_marked}
use Rattle.rounds_judge.proofs.Table.TableFresh.{AreNumbersOf}
use Rattle.rounds_judge.proofs.Table.TableGiving.{number_at}
use Rattle.rounds_judge.proofs.Table.TableGranting.{plain, on_variables, further, kind_is, still_allowed}

-- Members of equal rows are equal.

module _ (l : Listing) where
  abbrev pub SameOption : Option Tree → Option Tree → Type 0
  SameOption None None = Unit {0}
  SameOption (Some t) (Some u) = SameTree l t u
  SameOption _ _ = ⊥

  option_itself : (o : Option Tree) → SameOption o o
  option_itself None = tt
  option_itself (Some t) = same (alone t)

  option_back : (o p : Option Tree) → SameOption o p → SameOption p o
  option_back None None e = tt
  option_back (Some t) (Some u) e = back e
  option_back None (Some u) e = absurd e
  option_back (Some t) None e = absurd e

  option_along : (o p q : Option Tree) → SameOption o p → SameOption p q → SameOption o q
  option_along None None None e f = tt
  option_along (Some t) (Some u) (Some v) e f = along e f
  option_along None (Some u) q e f = absurd e
  option_along (Some t) None q e f = absurd e
  option_along None None (Some v) e f = absurd f
  option_along (Some t) (Some u) None e f = absurd f

  pub member_same : (a b : Forest) → Same l a b → (j : ℕ) → SameOption (tree_number a j) (tree_number b j)
  member_same _ _ (same ts) j = option_itself (tree_number ts j)
  member_same _ _ (heads h {a = a} {b = b} {r = r} {s = s} e f) zero = heads h e (same none)
  member_same _ _ (heads h {a = a} {b = b} {r = r} {s = s} e f) (suc j) = member_same r s f j
  member_same _ _ (regions g h a b {r = r} {s = s} e f x) zero = regions g h a b e f (same none)
  member_same _ _ (regions g h a b {r = r} {s = s} e f x) (suc j) = member_same r s x j
  member_same _ _ (pair t u {r = r} {s = s} c x) zero = pair t u c (same none)
  member_same _ _ (pair t u {r = r} {s = s} c x) (suc j) = member_same r s x j
  member_same _ _ (back {a = a} {b = b} e) j = option_back (tree_number a j) (tree_number b j) (member_same a b e j)
  member_same _ _ (along {a = a} {b = b} {c = c} e f) j = option_along (tree_number a j) (tree_number b j) (tree_number c j) (member_same a b e j) (member_same b c f j)

-- The variable of a number that was seen stands at its place.

row_at : (f : ℕ → CanonicalVar) (ns : List ℕ) (n : ℕ) → is_seen ns n ≡ true → tree_number (variables_row (map f ns) ns) (place_of ns n) ≡ Some (variable (f n).kind n)
row_at f [] n e = cc
row_at f (m ∷ ms) n e = at (m == n) refl (row_at f ms n) e
  where
    at : (b : Bool) → (m == n) ≡ b → (is_seen ms n ≡ true → tree_number (variables_row (map f ms) ms) (place_of ms n) ≡ Some (variable (f n).kind n)) → b || is_seen ms n ≡ true
        → tree_number (variables_row (map f (m ∷ ms)) (m ∷ ms)) (if b then 0 else suc (place_of ms n)) ≡ Some (variable (f n).kind n)
    at true g ih e = ap (λ n. Some (variable (f n).kind n)) (eqb-true m n g)
    at false g ih e = ih e

-- Numbers of variables of no universe above those of what is left open

pub record IsLow (S : State) (c : CanonicalVar) (n : ℕ) : Type 0 where
  pub within : n < length S.variables
  pub low : universe_in (info S n) ≤ c.universe

abbrev pub AreLow : State → List CanonicalVar → List ℕ → Type 0
AreLow S [] [] = Unit {0}
AreLow S (c ∷ cs) (n ∷ ns) = IsLow S c n × AreLow S cs ns
AreLow S _ _ = ⊥

low_at : (T : State) (cs : List CanonicalVar) (ns : List ℕ) → AreLow T cs ns → (k : VariableKind) (j : ℕ) → has_kind k (slice_get (map root_of cs) j) ≡ true
    → universe_in (info T (slice_index_or ns j 0)) ≤ universe_or_root (slice_get cs j)
low_at T [] [] a k j e = cc
low_at T (c ∷ cs) (n ∷ ns) a k zero e = a.0.low
low_at T (c ∷ cs) (n ∷ ns) a k (suc j) e = low_at T cs ns a.1 k j e
low_at T [] (n ∷ ns) a k j e = absurd a
low_at T (c ∷ cs) [] a k j e = absurd a

is_not : (b : Bool) → not b ≡ false → b ≡ true
is_not true e = refl
is_not false e = cc

-- What stands for the variables that are left open

module _ (l : Listing) (listing : IsListing l) (T : State) (M : Live) (sound : IsSound T M) (fits : ValuesFit T M) (k : Key) (r : Response) (x : Lift) (above : x.above ≡ newest_of k) (names : List ℕ) (ok : holds (is_foreign (left_by k r)) r.values ≡ false)
    (of : AreNumbersOf T M r.vars names) where
  abbrev named : Variable → Tree
  named v = leaf (H.Infer (record { sort = v.sort; number = slice_index_or names v.number 0 }))

  abbrev is_left : Variable → Bool
  is_left v = has_kind (Term v.sort) (slice_get (map root_of r.vars) v.number)

  abbrev pub first_value : Variable → Tree
  first_value v = if is_left v then named v else plain v.sort

  abbrev unknown : Variable → Bool
  unknown v = is_strange T M (H.Infer v)

  abbrev pub value : Variable → Tree
  value v = further l listing T unknown first_value v

  abbrev one : Values
  one = instance (λ v. Some (value v))

  named_known : (v : Variable) → is_left v ≡ true → is_strange T M (named v).head ≡ false
  named_known v e = number_at T M r.vars names of (Term v.sort) v.number e

  value_is : (v : Variable) → is_left v ≡ true → value v ≡ resolved_tree T (named v)
  value_is v e = ap (further_by v) e ∙ ap (λ b. if b then plain v.sort else resolved_tree T (named v)) (whole (on_variables unknown) (named v).head none none (named_known v e) refl refl)
    where
      further_by : Variable → Bool → Tree
      further_by v b = further l listing T unknown (λ w. if b then named v else plain v.sort) v

  given_same : (ts : Forest) → holds (is_foreign (left_by k r)) ts ≡ false → Same l (valued one ts) (resolved T (valued (translation x names) ts))
  given_same none e = same none
  given_same (tree h a b) e = let p = holds_parts (is_foreign (left_by k r)) h a b e in node h p.here (given_same a p.under) (given_same b p.others)
    where
      X : Forest
      X = valued one b

      Y : Forest
      Y = resolved T (valued (translation x names) b)

      -- what nothing stands for
      stays : (h : Head) → one h ≡ None → translation x names h ≡ None → value_at T h ≡ None → Same l (valued one a) (resolved T (valued (translation x names) a)) → Same l X Y
          → Same l (valued one (tree h a b)) (resolved T (valued (translation x names) (tree h a b)))
      stays h e f g under others =
          same_to l (tree h (valued one a) X) (tree h (resolved T (valued (translation x names) a)) Y) (valued one (tree h a b)) (resolved T (valued (translation x names) (tree h a b)))
          (sym (valued_node one h a b ∙ ap (λ o. begin (unwrap_or o (record { head = h; children = valued one a })) X) e))
          (sym (ap (resolved T) (valued_node (translation x names) h a b ∙ ap (λ o. begin (unwrap_or o (record { head = h; children = valued (translation x names) a })) (valued (translation x names) b)) f)
          ∙ valued_node (value_at T) h (valued (translation x names) a) (valued (translation x names) b)
          ∙ ap (λ o. begin (unwrap_or o (record { head = h; children = resolved T (valued (translation x names) a) })) Y) g))
          (heads h under others)

      -- a placeholder of a universe that the key has stays
      unlifted : (p : Placeholder) (head : Placeholder → Head) → nat_lt (newest_of k) p.universe ≡ false → lifted_leaf x p head ≡ None
      unlifted p head e = ap (λ (c : Bool). if c then Some (leaf (head (lifted x p))) else None) (subst (λ u. nat_lt u p.universe ≡ false) (sym above) e)

      node : (h : Head) → is_foreign (left_by k r) h ≡ false → Same l (valued one a) (resolved T (valued (translation x names) a)) → Same l (valued one b) (resolved T (valued (translation x names) b))
          → Same l (valued one (tree h a b)) (resolved T (valued (translation x names) (tree h a b)))
      node (H.Infer v) e under others =
          same_to l (begin (value v) X) (begin (resolved_tree T (named v)) Y) (valued one (tree (H.Infer v) a b)) (resolved T (valued (translation x names) (tree (H.Infer v) a b)))
          (sym (valued_node one (H.Infer v) a b)) (sym (ap (resolved T) (valued_node (translation x names) (H.Infer v) a b)))
          (subst (λ t. Same l (begin t X) (begin (resolved_tree T (named v)) Y)) (sym (value_is v (is_not (is_left v) e))) (same_begin l (resolved_tree T (named v)) X Y others))
      node (H.Region (R.Var n)) e under others =
          let m : ℕ = slice_index_or names n 0 in
          let known = number_at T M r.vars names of Region n (is_not (has_kind Region (slice_get (map root_of r.vars) n)) e) in
          same_to l (tree (H.Region (R.Var n)) (valued one a) X) (begin (resolved_tree T (leaf (H.Region (R.Var m)))) Y) (valued one (tree (H.Region (R.Var n)) a b)) (resolved T (valued (translation x names) (tree (H.Region (R.Var n)) a b)))
          (sym (valued_node one (H.Region (R.Var n)) a b)) (sym (ap (resolved T) (valued_node (translation x names) (H.Region (R.Var n)) a b)))
          (regions (H.Region (R.Var n)) (resolved_tree T (leaf (H.Region (R.Var m)))).head (valued one a) (resolved_tree T (leaf (H.Region (R.Var m)))).children refl (by m (value_as T Region m) refl known) others)
        where
          by : (m : ℕ) (o : Option Tree) → value_as T Region m ≡ o → is_strange T M (H.Region (R.Var m)) ≡ false → is_region (unwrap_or o (leaf (H.Region (R.Var m)))).head ≡ true
          by m None f k = refl
          by m (Some v) f k = region_value l T M fits m v k (value_as_of T Region m v f)
      node (H.Region (R.Placeholder p)) e under others = by (nat_lt x.above p.universe)
        where
          by : (c : Bool) → Same l (valued one (tree (H.Region (R.Placeholder p)) a b))
              (resolved T (begin (unwrap_or (if c then Some (leaf (H.Region (R.Placeholder (lifted x p)))) else None) (record { head = H.Region (R.Placeholder p); children = valued (translation x names) a })) (valued (translation x names) b)))
          by true = regions (H.Region (R.Placeholder p)) (H.Region (R.Placeholder (lifted x p))) (valued one a) none refl refl others
          by false = heads (H.Region (R.Placeholder p)) under others
      node (H.Placeholder p) e under others = stays (H.Placeholder p) refl (unlifted p H.Placeholder e) refl under others
      node (H.Const (C.Placeholder p)) e under others = stays (H.Const (C.Placeholder p)) refl (unlifted p (λ q. H.Const (C.Placeholder q)) e) refl under others
      node h e under others = stays h refl refl refl under others

  -- The instance is allowed.

  pub value_allowed : AreLow T r.vars names → IsAllowedInto (response_universes r) (universes T) (λ v. Some (value v))
  value_allowed low = still_allowed l listing T T M M sound fits (λ n h c. c) (later_itself T M sound) first_value (response_universes r) first
    where
      some_is : (P : Tree → Type 0) (v : Variable) (t : Tree) → Some (first_value v) ≡ Some t → P (first_value v) → P t
      some_is P v t e x = subst P (let is : first_value v ≡ t = cc in is) x

      fits_first : (v : Variable) (b : Bool) → fits_sort v.sort (if b then named v else plain v.sort).head ≡ true
      fits_first v true = at v.sort (slice_index_or names v.number 0)
        where
          at : (s : VariableSort) (n : ℕ) → fits_sort s (H.Infer (record { sort = s; number = n })) ≡ true
          at V.General n = refl
          at V.Integer n = refl
          at V.Floating n = refl
          at V.Constant n = refl
      fits_first v false = at v.sort
        where
          at : (s : VariableSort) → fits_sort s (plain s).head ≡ true
          at V.General = refl
          at V.Integer = refl
          at V.Floating = refl
          at V.Constant = refl

      closed_first : (v : Variable) (b : Bool) → escapes 0 (alone (if b then named v else plain v.sort)) ≡ false
      closed_first v true = refl
      closed_first v false = at v.sort
        where
          at : (s : VariableSort) → escapes 0 (alone (plain s)) ≡ false
          at V.General = refl
          at V.Integer = refl
          at V.Floating = refl
          at V.Constant = refl

      low_first : (v : Variable) (n : ℕ) → response_universes r v < n → (b : Bool) → is_left v ≡ b → holds (is_of_universe (universes T) n) (alone (if b then named v else plain v.sort)) ≡ false
      low_first v n less true e =
          let h = low_at T r.vars names low (Term v.sort) v.number e in
          whole (is_of_universe (universes T) n) (named v).head none none (lt-leb n (universe_in (info T (slice_index_or names v.number 0))) (omega (arith, h, less))) refl refl
      low_first v n less false e = at v.sort
        where
          at : (s : VariableSort) → holds (is_of_universe (universes T) n) (alone (plain s)) ≡ false
          at V.General = refl
          at V.Integer = refl
          at V.Floating = refl
          at V.Constant = refl

      first : IsAllowedInto (response_universes r) (universes T) (λ v. Some (first_value v))
      first = record {
        fits = λ v t e. some_is (λ t. fits_sort v.sort t.head ≡ true) v t e (fits_first v (is_left v));
        is_closed = λ v t e. some_is (λ t. escapes 0 (alone t) ≡ false) v t e (closed_first v (is_left v));
        in_universe = λ v t n e less. some_is (λ t. holds (is_of_universe (universes T) n) (alone t) ≡ false) v t e (low_first v n less (is_left v) refl);
        stays = λ v e. absurd (let clash : Some (first_value v) ≡ None = e in cc);
      }

  -- The goal's trees

  module _ (S : State) (ns : List ℕ) (rows : Same l (resolved T (variables_row (map (λ n. open_variable (info S n)) ns) ns)) (resolved T (valued (translation x names) r.values))) where
    record Found (c : VariableKind) (n : ℕ) : Type 0 where
      there : Tree
      is : tree_number r.values (place_of ns n) ≡ Some there
      equal : SameTree l (valued_tree one there) (resolved_tree T (variable c n))

    found : (c : VariableKind) (n : ℕ) → is_seen ns n ≡ true → (open_variable (info S n)).kind ≡ c → Found c n
    found c n seen kind = by (tree_number r.values j) refl
        (subst (λ o. SameOption l o (option_map (resolved_tree T) (option_map (valued_tree (translation x names)) (tree_number r.values j)))) left
        (subst (SameOption l (tree_number (resolved T row) j)) right (member_same l (resolved T row) (resolved T (valued (translation x names) r.values)) rows j)))
      where
        j : ℕ
        j = place_of ns n

        row : Forest
        row = variables_row (map (λ n. open_variable (info S n)) ns) ns

        left : tree_number (resolved T row) j ≡ Some (resolved_tree T (variable c n))
        left = number_valued (value_at T) row j ∙ ap (option_map (resolved_tree T)) (row_at (λ n. open_variable (info S n)) ns n seen) ∙ ap (λ k. Some (resolved_tree T (variable k n))) kind

        right : tree_number (resolved T (valued (translation x names) r.values)) j ≡ option_map (resolved_tree T) (option_map (valued_tree (translation x names)) (tree_number r.values j))
        right = number_valued (value_at T) (valued (translation x names) r.values) j ∙ ap (option_map (resolved_tree T)) (number_valued (translation x names) r.values j)

        by : (o : Option Tree) → tree_number r.values j ≡ o → SameOption l (Some (resolved_tree T (variable c n))) (option_map (resolved_tree T) (option_map (valued_tree (translation x names)) o)) → Found c n
        by None e s = absurd s
        by (Some x) e s = record { there = x; is = e; equal = along (given_same (alone x) (number_marked (is_foreign (left_by k r)) r.values j x ok e)) (back s) }

    module _ (L : Live) where
      kind_of_number : (c : VariableKind) (n : ℕ) → not (L n && has_kind c (info S n)) ≡ false → (open_variable (info S n)).kind ≡ c
      kind_of_number c n e =
          let i = has_info (L n) c (info S n) e in
          ap (λ o. (open_variable o).kind) i.1 ∙ kinds_are i.0.kind c (ap (has_kind c) (sym i.1) ∙ kind_there (L n) c (info S n) e)
        where
          kinds_are : (i k : VariableKind) → same_kind i k ≡ true → i ≡ k
          kinds_are i (Term s) e = kind_is i s e
          kinds_are Region Region e = refl
          kinds_are (Term s) Region e = cc

      abbrev pub Said : Forest → Type 0
      Said ts = Same l (valued one (valued (answer_values r) (renumbered ns ts))) (resolved T ts)

      bare_is : (b c d : Bool) → b && (c && d) ≡ true → (b ≡ true) × (c ≡ true) × (d ≡ true)
      bare_is true true true e = (refl, refl, refl)
      bare_is true true false e = cc
      bare_is true false d e = cc
      bare_is false c d e = cc

      pub answered_same : (ts : Forest) → are_bare ts ≡ true → holds (is_strange S L) ts ≡ false → holds (is_missing ns) ts ≡ false → Said ts
      answered_same none b e m = same none
      answered_same (tree h a rest) b e m =
          let p = holds_parts (is_strange S L) h a rest e in
          let q = holds_parts (is_missing ns) h a rest m in
          let c = bare_is (is_bare h a) (are_bare a) (are_bare rest) b in
          node h a c.0 p.here q.here (answered_same a c.1 p.under q.under) (answered_same rest c.2 p.others q.others)
        where
          node : (h : Head) (a : Forest) → is_bare h a ≡ true → is_strange S L h ≡ false → is_missing ns h ≡ false → Said a → Said rest → Said (tree h a rest)
          node (H.Infer v) none b e m under others =
              let f = found (Term v.sort) v.number (is_not (is_seen ns v.number) m) (kind_of_number (Term v.sort) v.number e) in
              subst (λ o. Same l (valued one (begin (unwrap_or o (leaf (H.Infer (record { sort = v.sort; number = place_of ns v.number })))) (valued (answer_values r) (renumbered ns rest)))) (resolved T (tree (H.Infer v) none rest))) (sym f.is)
              (same_join l (alone (valued_tree one f.there)) (alone (resolved_tree T (variable (Term v.sort) v.number))) (valued one (valued (answer_values r) (renumbered ns rest))) (resolved T rest) f.equal others)
          node (H.Infer v) (tree g x y) b e m under others = cc
          node (H.Region (R.Var n)) a b e m under others =
              let f = found Region n (is_not (is_seen ns n) m) (kind_of_number Region n e) in
              subst (λ o. Same l (valued one (begin (unwrap_or o (record { head = H.Region (R.Var (place_of ns n)); children = valued (answer_values r) (renumbered ns a) })) (valued (answer_values r) (renumbered ns rest)))) (resolved T (tree (H.Region (R.Var n)) a rest))) (sym f.is)
              (same_join l (alone (valued_tree one f.there)) (alone (resolved_tree T (record { head = H.Region (R.Var n); children = a }))) (valued one (valued (answer_values r) (renumbered ns rest))) (resolved T rest)
              (along f.equal (below (value_as T Region n))) others)
            where
              below : (o : Option Tree) → Same l (alone (unwrap_or o (leaf (H.Region (R.Var n))))) (alone (unwrap_or o (record { head = H.Region (R.Var n); children = resolved T a })))
              below None = regions (H.Region (R.Var n)) (H.Region (R.Var n)) none (resolved T a) refl refl (same none)
              below (Some t) = same (alone t)
          node h a b e m under others =
              same_to l (tree h (valued one (valued (answer_values r) (renumbered ns a))) (valued one (valued (answer_values r) (renumbered ns rest)))) (tree h (resolved T a) (resolved T rest))
              (valued one (valued (answer_values r) (renumbered ns (tree h a rest)))) (resolved T (tree h a rest))
              (sym (ap (λ ts. valued one (valued (answer_values r) (renumbered_regions ns ts))) (valued_node (instance (renumbering ns)) h a rest)
              ∙ ap (valued one) (valued_node (answer_values r) h (renumbered ns a) (renumbered ns rest))
              ∙ valued_node one h (valued (answer_values r) (renumbered ns a)) (valued (answer_values r) (renumbered ns rest))))
              (sym (valued_node (value_at T) h a rest)) (heads h under others)
