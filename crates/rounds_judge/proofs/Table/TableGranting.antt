-- What is granted with a table stays granted.
use Rattle.std.proofs.Common.{◌≡◌, ◌≤◌, ◌<◌, ℕ, ◌+◌, Bool, true, false, ◌||◌, Option, Some, None, arith, refl, sym, ap, subst, ◌∙◌, if◌then◌else◌}
use Rattle.std.specs.Option.{unwrap_or}
use Rattle.std.proofs.lemmas.Bool.{leb-false, lt-leb, ltb-false}
use Rattle.std.proofs.lemmas.Option.{slice_get_within}
use Rattle.ir_trees.specs.declared.ir.heads.Head.{Head}
use Rattle.ir_trees.specs.declared.ir.heads.Head.TheVariants as H
use Rattle.ir_trees.specs.declared.ir.heads.ConstHead.TheVariants as C
use Rattle.ir_trees.specs.declared.ir.heads.PartHead.TheVariants as P
use Rattle.ir_trees.specs.declared.ir.heads.ClauseHead.TheVariants as Cl
use Rattle.ir_trees.specs.declared.ir.heads.Variable.{Variable}
use Rattle.ir_trees.specs.declared.ir.heads.Builtin.TheVariants as B
use Rattle.ir_trees.specs.declared.ir.heads.VariableSort.{VariableSort}
use Rattle.ir_trees.specs.declared.ir.heads.VariableSort.TheVariants as V
use Rattle.ir_trees.specs.declared.ir.kinds.FloatTy.TheVariants as F
use Rattle.ir_trees.specs.declared.ir.kinds.UintTy.TheVariants as U
use Rattle.ir_trees.specs.Syntax.Binders.{escapes}
use Rattle.ir_trees.specs.Instantiation.Folding.{leaf}
use Rattle.ir_trees.specs.Unification.Substitutions.{alone, fits_sort, is_placeholder_above}
use Rattle.ir_trees.specs.Hierarchy.Supers.{after_first}
use Rattle.ir_trees.specs.Syntax.Trees.{Forest, none, tree, Tree, join, holds, erased_head, binders_of}
use Rattle.ir_trees.proofs.Instantiation.Folding.{begin}
use Rattle.ir_trees.proofs.Unification.Instances.{same_sort_is}
use Rattle.candidate_eval.specs.declared.eval.variable.VariableKind.{VariableKind}
use Rattle.candidate_eval.specs.declared.eval.variable.VariableKind.TheVariants.{Term, Region}
use Rattle.candidate_eval.specs.Judges.Alike.{info}
use Rattle.candidate_eval.specs.Derivations.Characterization.{bound_kinds}
use Rattle.candidate_eval.specs.Derivations.ImplRules.{TraitGoal}
use Rattle.candidate_eval.specs.Judges.Instances.{instance, answer_values, is_of_universe, IsAllowedInto, response_universes}
use Rattle.candidate_eval.specs.Outcomes.Responses.{Response}
use Rattle.candidate_eval.specs.Judges.Soundness.{Live, IsSound, ValuesFit, IsLater, Within, Follows, GoalIsOf, universes, universe_in, is_strange, is_region, is_variable_above, fits_kind}
use Rattle.candidate_eval.specs.Judges.States.{State, Goal, Values, VariableInfo, valued, valued_tree, value_at, resolved, same_kind, has_kind}
use Rattle.candidate_eval.proofs.Marks.Holds.{holds_parts, holds_imply}
use Rattle.rounds_judge.specs.Aliases.Congruence.{Same, same, heads, regions, pair, back, along}
use Rattle.rounds_judge.specs.Table.GoalTable.{GoalTable}
use Rattle.rounds_judge.specs.Table.Keys.{over_trees, trait_goal_of}
use Rattle.rounds_judge.specs.Aliases.Listed.{Listing}
use Rattle.rounds_judge.specs.Equations.Standing.{IsListing, is_made}
use Rattle.rounds_judge.specs.Obligations.Granted.{FactsGranted}
use Rattle.rounds_judge.specs.Table.TableGranted.{answered, IsGrantedByYes, FactsGrantedWith, IsGrantedWith}
use Rattle.rounds_judge.proofs.States.Bound.{fits_through}
use Rattle.rounds_judge.proofs.Aliases.Congruent.{same_to, same_begin, same_instance, terms_of, without_regions, listed_pair, is_stray, strange_stray, stray_later, resolved_stray}
use Rattle.rounds_judge.proofs.Obligations.Granting.{facts_known, facts_resolved, fresh_for_later, goal_known, opened_stray, resolved_further}
use Rattle.rounds_judge.proofs.States.Later.{strange_stays, has_info, kind_there, value_closed, value_there}
use Rattle.rounds_judge.proofs.Obligations.Opening.{opens}
use Rattle.rounds_judge.proofs.States.Marks.{whole, holds_erased, holds_to, fold_marked, escape_parts, escape_whole, fold_closed_among, valued_node}

-- Trees without what stands below regions: no equality modulo the listed pairs sees it.

abbrev pub below_of : Head → Forest → Forest
below_of h ts = if is_region h then none else ts

abbrev pub pruned : Forest → Forest
pruned none = none
pruned (tree h below rest) = tree h (below_of h (pruned below)) (pruned rest)

abbrev pub pruned_tree : Tree → Tree
pruned_tree t = record { head = t.head; children = below_of t.head (pruned t.children) }

if_false : (b : Bool) (mark : Head → Bool) (ts : Forest) → holds mark ts ≡ false → holds mark (if b then none else ts) ≡ false
if_false true mark ts e = refl
if_false false mark ts e = e

pruned_marked : (mark : Head → Bool) (ts : Forest) → holds mark ts ≡ false → holds mark (pruned ts) ≡ false
pruned_marked mark none e = refl
pruned_marked mark (tree h below rest) e =
    let p = holds_parts mark h below rest e in
    whole mark h (below_of h (pruned below)) (pruned rest) p.here (if_false (is_region h) mark (pruned below) (pruned_marked mark below p.under)) (pruned_marked mark rest p.others)

if_closed : (b : Bool) (n : ℕ) (ts : Forest) → escapes n ts ≡ false → escapes n (if b then none else ts) ≡ false
if_closed true n ts e = refl
if_closed false n ts e = e

pruned_closed : (n : ℕ) (ts : Forest) → escapes n ts ≡ false → escapes n (pruned ts) ≡ false
pruned_closed n none e = refl
pruned_closed n (tree h below rest) e =
    let p = escape_parts n h below rest e in
    escape_whole n h (below_of h (pruned below)) (pruned rest) p.here (if_closed (is_region h) (n + binders_of h) (pruned below) (pruned_closed (n + binders_of h) below p.under)) (pruned_closed n rest p.others)

-- Marks of variables of types and constants

abbrev pub on_variables : (Variable → Bool) → Head → Bool
on_variables mark (H.Infer v) = mark v
on_variables mark _ = false

module _ (mark : Variable → Bool) where
  abbrev on : Head → Bool
  on = on_variables mark

  unmade : (h : Head) → is_made h ≡ false → on h ≡ false
  unmade (H.Infer v) e = cc
  unmade _ e = refl

  no_region : (h : Head) → is_region h ≡ true → on h ≡ false
  no_region (H.Region r) e = refl
  no_region _ e = cc

  module _ (l : Listing) (listing : IsListing l) where
    -- what is equal has the same variables
    same_marked : (a b : Forest) → Same l a b → holds on (pruned a) ≡ holds on (pruned b)
    same_marked _ _ (same ts) = refl
    same_marked _ _ (heads h {a = a} {b = b} {r = r} {s = s} e f) = under (is_region h) (same_marked a b e) (same_marked r s f)
      where
        under : (x : Bool) → holds on (pruned a) ≡ holds on (pruned b) → holds on (pruned r) ≡ holds on (pruned s)
            → (on h || (holds on (if x then none else pruned a) || holds on (pruned r))) ≡ (on h || (holds on (if x then none else pruned b) || holds on (pruned s)))
        under true e f = ap (λ x. on h || x) f
        under false e f = rw (e, f) refl
    same_marked _ _ (regions g h a b {r = r} {s = s} e f x) = rw (no_region g e, no_region h f, e, f) (same_marked r s x)
    same_marked _ _ (pair t u {r = r} {s = s} c x) =
        let p : Tree × Tree = (t, u) in
        let f = listed_pair l listing p c.is_among in
        let a = holds_parts on p.0.head p.0.children none (holds_imply is_made on unmade (alone p.0) f.alias.not_made) in
        let b = holds_parts on p.1.head p.1.children none (holds_imply is_made on unmade (alone p.1) f.type.not_made) in
        rw (a.here, b.here, if_false (is_region p.0.head) on (pruned p.0.children) (pruned_marked on p.0.children a.under), if_false (is_region p.1.head) on (pruned p.1.children) (pruned_marked on p.1.children b.under))
        (same_marked r s x)
    same_marked _ _ (back {a = a} {b = b} e) = sym (same_marked a b e)
    same_marked _ _ (along {a = a} {b = b} {c = c} e f) = same_marked a b e ∙ same_marked b c f

module _ (l : Listing) where
  same_pruned : (ts : Forest) → Same l ts (pruned ts)
  same_pruned none = same none
  same_pruned (tree h below rest) = at (is_region h) refl (same_pruned below) (same_pruned rest)
    where
      at : (b : Bool) → is_region h ≡ b → Same l below (pruned below) → Same l rest (pruned rest) → Same l (tree h below rest) (tree h (if b then none else pruned below) (pruned rest))
      at true e x y = regions h h below none e e y
      at false e x y = heads h x y

  same_cut : (t : Tree) (r : Forest) → Same l (begin t r) (begin (pruned_tree t) r)
  same_cut t r = at (is_region t.head) refl (same_pruned t.children)
    where
      at : (b : Bool) → is_region t.head ≡ b → Same l t.children (pruned t.children) → Same l (begin t r) (tree t.head (if b then none else pruned t.children) r)
      at true e x = regions t.head t.head t.children none e e (same r)
      at false e x = heads t.head x (same r)

-- something plain of each sort
abbrev pub plain : VariableSort → Tree
plain V.General = leaf H.Error
plain V.Integer = leaf (H.Builtin (B.Uint U.U8))
plain V.Floating = leaf (H.Builtin (B.Float F.F32))
plain V.Constant = leaf (H.Const C.Error)

-- Of some values of a key's variables, those that stand where a state knows what they mention, with the state's values put in.

module _ (l : Listing) (listing : IsListing l) (U : State) (strange : Variable → Bool) (values : Variable → Tree) where
  abbrev pub terms : Values
  terms = instance (terms_of U)

  abbrev pub is_unknown : Variable → Bool
  is_unknown v = holds (on_variables strange) (pruned (alone (values v)))

  abbrev pub put : Variable → Tree
  put v = valued_tree terms (pruned_tree (values v))

  abbrev pub further : Variable → Tree
  further v = if is_unknown v then plain v.sort else put v

  abbrev pub one : (Variable → Tree) → Values
  one f = instance (λ v. Some (f v))

  known_further : (v : Variable) → is_unknown v ≡ false → further v ≡ put v
  known_further v e = ap (λ b. if b then plain v.sort else put v) e

  -- put in one after the other, or at once
  pub twice : (ts : Forest) → holds (on_variables strange) (pruned (valued (one values) ts)) ≡ false → Same l (valued terms (valued (one values) ts)) (valued (one further) ts)
  twice none e = same none
  twice (tree h a r) e = node h (subst (λ ts. holds (on_variables strange) (pruned ts) ≡ false) (valued_node (one values) h a r) e) (λ e. twice a e) (λ e. twice r e)
    where
      to : (h : Head) (x y : Tree) → valued terms (valued (one values) (tree h a r)) ≡ begin x (valued terms (valued (one values) r)) → valued (one further) (tree h a r) ≡ begin y (valued (one further) r)
          → Same l (begin x (valued terms (valued (one values) r))) (begin y (valued (one further) r)) → Same l (valued terms (valued (one values) (tree h a r))) (valued (one further) (tree h a r))
      to h x y e f s = same_to l (begin x (valued terms (valued (one values) r))) (begin y (valued (one further) r)) (valued terms (valued (one values) (tree h a r))) (valued (one further) (tree h a r)) (sym e) (sym f) s

      node : (h : Head) → holds (on_variables strange) (pruned (begin (unwrap_or (one values h) (record { head = h; children = valued (one values) a })) (valued (one values) r))) ≡ false
          → (holds (on_variables strange) (pruned (valued (one values) a)) ≡ false → Same l (valued terms (valued (one values) a)) (valued (one further) a))
          → (holds (on_variables strange) (pruned (valued (one values) r)) ≡ false → Same l (valued terms (valued (one values) r)) (valued (one further) r))
          → Same l (valued terms (valued (one values) (tree h a r))) (valued (one further) (tree h a r))
      node (H.Infer v) e under others =
          let p = holds_parts (on_variables strange) (values v).head (below_of (values v).head (pruned (values v).children)) (pruned (valued (one values) r)) e in
          let known : is_unknown v ≡ false = whole (on_variables strange) (values v).head (below_of (values v).head (pruned (values v).children)) none p.here p.under refl in
          let first : Same l (begin (valued_tree terms (values v)) (valued terms (valued (one values) r))) (begin (put v) (valued terms (valued (one values) r))) =
          same_instance l listing (terms_of U) (begin (values v) (valued (one values) r)) (begin (pruned_tree (values v)) (valued (one values) r)) (same_cut l (values v) (valued (one values) r)) in
          to (H.Infer v) (valued_tree terms (values v)) (further v) (ap (valued terms) (valued_node (one values) (H.Infer v) a r)) (valued_node (one further) (H.Infer v) a r)
          (subst (λ t. Same l (begin (valued_tree terms (values v)) (valued terms (valued (one values) r))) (begin t (valued (one further) r))) (sym (known_further v known))
          (along first (same_begin l (put v) (valued terms (valued (one values) r)) (valued (one further) r) (others p.others))))
      node (H.Region g) e under others =
          let p = holds_parts (on_variables strange) (H.Region g) none (pruned (valued (one values) r)) e in
          to (H.Region g) (record { head = H.Region g; children = valued terms (valued (one values) a) }) (record { head = H.Region g; children = valued (one further) a })
          (ap (valued terms) (valued_node (one values) (H.Region g) a r) ∙ valued_node terms (H.Region g) (valued (one values) a) (valued (one values) r)) (valued_node (one further) (H.Region g) a r)
          (regions (H.Region g) (H.Region g) (valued terms (valued (one values) a)) (valued (one further) a) refl refl (others p.others))
      node h e under others =
          let p = holds_parts (on_variables strange) h (pruned (valued (one values) a)) (pruned (valued (one values) r)) e in
          to h (record { head = h; children = valued terms (valued (one values) a) }) (record { head = h; children = valued (one further) a })
          (ap (valued terms) (valued_node (one values) h a r) ∙ valued_node terms h (valued (one values) a) (valued (one values) r)) (valued_node (one further) h a r)
          (heads h (under p.under) (others p.others))

pub kind_is : (k : VariableKind) (s : VariableSort) → same_kind k (Term s) ≡ true → k ≡ Term s
kind_is (Term r) s e = ap Term (same_sort_is r s e)
kind_is Region s e = cc

-- The same at a state that follows, where these are values that were allowed.

module _ (l : Listing) (listing : IsListing l) (S T : State) (L M : Live) (sound : IsSound T M) (fits : ValuesFit T M) (within : Within S L M) (later : IsLater S T L) where
  abbrev pub strange : Variable → Bool
  strange v = is_strange S L (H.Infer v)

  counts_there : (w : Variable) → strange w ≡ false → is_strange T M (H.Infer w) ≡ false
  counts_there w k = strange_stays S T L M within later (H.Infer w) k

  pub universe_falls : (w : Variable) → strange w ≡ false → universes T w ≤ universes S w
  universe_falls w k =
      let i = has_info (L w.number) (Term w.sort) (info S w.number) k in
      later.universes w.number (slice_get_within S.variables w.number i.0 i.1)

  -- what is known of a variable that counts and has a value
  record IsValued (w : Variable) (x : Tree) : Type 0 where
    entry : VariableInfo
    there : info T w.number ≡ Some entry
    live : M w.number ≡ true
    kind : entry.kind ≡ Term w.sort
    value : entry.value ≡ Some x

  is_valued : (w : Variable) (x : Tree) → strange w ≡ false → value_at T (H.Infer w) ≡ Some x → IsValued w x
  is_valued w x k e =
      let c = counts_there w k in
      let i = has_info (M w.number) (Term w.sort) (info T w.number) c in
      record {
        entry = i.0;
        there = i.1;
        live = i.2;
        kind = kind_is i.0.kind w.sort (ap (has_kind (Term w.sort)) (sym i.1) ∙ kind_there (M w.number) (Term w.sort) (info T w.number) c);
        value = value_there T (Term w.sort) w.number i.0 x i.1 e;
      }

  pub value_fits : (w : Variable) (x : Tree) → strange w ≡ false → value_at T (H.Infer w) ≡ Some x → fits_sort w.sort x.head ≡ true
  value_fits w x k e =
      let v = is_valued w x k e in
      subst (λ kind. fits_kind kind x.head ≡ true) v.kind ((fits w.number v.live).kind v.entry x v.there v.value)

  pub value_low : (w : Variable) (x : Tree) (n : ℕ) → strange w ≡ false → universes S w < n → value_at T (H.Infer w) ≡ Some x → holds (is_of_universe (universes T) n) (alone x) ≡ false
  value_low w x n k less e =
      let v = is_valued w x k e in
      let falls = universe_falls w k in
      let own : universes T w ≡ v.entry.universe = ap universe_in v.there in
      let placeholders = sound.allowed w.sort w.number v.entry x v.live v.there v.value v.kind in
      let variables = sound.no_higher w.number v.entry x v.live v.there v.value in
      holds_to (λ h. is_placeholder_above (universes T w) (erased_head h)) (λ h. is_variable_above (universes T) v.entry.universe (erased_head h)) (is_of_universe (universes T) n)
      (low (universes T w) v.entry.universe (omega (arith, falls, less)) (omega (arith, falls, less, own))) (alone x)
      (sym (holds_erased (is_placeholder_above (universes T w)) (alone x)) ∙ placeholders.in_universe) (sym (holds_erased (is_variable_above (universes T) v.entry.universe) (alone x)) ∙ variables)
    where
      low : (u m : ℕ) → u < n → m < n → (h : Head) → is_placeholder_above u (erased_head h) ≡ false → is_variable_above (universes T) m (erased_head h) ≡ false → is_of_universe (universes T) n h ≡ false
      low u m a b (H.Placeholder p) x y = let less = ltb-false u p.universe x in lt-leb n p.universe (omega (arith, a, less))
      low u m a b (H.Const (C.Placeholder p)) x y = let less = ltb-false u p.universe x in lt-leb n p.universe (omega (arith, a, less))
      low u m a b (H.Infer v) x y = let less = ltb-false m (universes T v) y in lt-leb n (universes T v) (omega (arith, b, less))
      low u m a b _ x y = refl

  -- A known tree with the state's values put in

  abbrev put_in : Tree → Tree
  put_in t = valued_tree (instance (terms_of T)) t

  put_fits : (s : VariableSort) (t : Tree) → on_variables strange t.head ≡ false → fits_sort s t.head ≡ true → fits_sort s (put_in t).head ≡ true
  put_fits s t = at t.head t.children
    where
      variable : (w : Variable) (below : Forest) → strange w ≡ false → fits_sort s (H.Infer w) ≡ true → (o : Option Tree) → value_at T (H.Infer w) ≡ o
          → fits_sort s (unwrap_or o (record { head = H.Infer w; children = below })).head ≡ true
      variable w below k e None f = e
      variable w below k e (Some x) f = fits_through s w x.head e (value_fits w x k f)

      at : (h : Head) (below : Forest) → on_variables strange h ≡ false → fits_sort s h ≡ true → fits_sort s (put_in (record { head = h; children = below })).head ≡ true
      at (H.Infer w) below k e = variable w (valued (instance (terms_of T)) below) k e (value_at T (H.Infer w)) refl
      at h below k e = e

  term_closed : (h : Head) (x : Tree) → on_variables strange h ≡ false → instance (terms_of T) h ≡ Some x → escapes 0 (alone x) ≡ false
  term_closed (H.Infer w) x k e = value_closed T M fits (H.Infer w) x (counts_there w k) e
  term_closed _ x k e = cc

  put_closed : (t : Tree) → holds (on_variables strange) (alone t) ≡ false → escapes 0 (alone t) ≡ false → escapes 0 (alone (put_in t)) ≡ false
  put_closed t k e = fold_closed_among (λ d t. instance (terms_of T) t.head) (on_variables strange) (λ d t u m f. term_closed t.head u m f) 0 0 (alone t) k e

  put_low : (n : ℕ) (t : Tree) → holds (on_variables strange) (alone t) ≡ false → holds (is_of_universe (universes S) n) (alone t) ≡ false → holds (is_of_universe (universes T) n) (alone (put_in t)) ≡ false
  put_low n t k e =
      fold_marked (λ d t. instance (terms_of T) t.head) (on_variables strange) (is_of_universe (universes S) n) (is_of_universe (universes T) n)
      (λ d t a b f. stays_low t.head a b) (λ d t u a b f. term_low t.head u a b f) 0 (alone t) k e
    where
      stays_low : (h : Head) → on_variables strange h ≡ false → is_of_universe (universes S) n h ≡ false → is_of_universe (universes T) n h ≡ false
      stays_low (H.Infer w) k e =
          let falls = universe_falls w k in
          let less = leb-false n (universes S w) e in
          lt-leb n (universes T w) (omega (arith, falls, less))
      stays_low (H.Placeholder p) k e = e
      stays_low (H.Const (C.Placeholder p)) k e = e
      stays_low _ k e = refl

      term_low : (h : Head) (x : Tree) → on_variables strange h ≡ false → is_of_universe (universes S) n h ≡ false → instance (terms_of T) h ≡ Some x → holds (is_of_universe (universes T) n) (alone x) ≡ false
      term_low (H.Infer w) x k e f = value_low w x n k (leb-false n (universes S w) e) f
      term_low _ x k e f = cc

  -- Allowed values are allowed further on.

  module _ (values : Variable → Tree) (u : Variable → ℕ) (allowed : IsAllowedInto u (universes S) (λ v. Some (values v))) where
    abbrev pub later_value : Variable → Tree
    later_value v = further l listing T strange values v

    abbrev value_or_plain : Variable → Bool → Tree
    value_or_plain v b = if b then plain v.sort else put_in (pruned_tree (values v))

    any_fits : (v : Variable) (b : Bool) → holds (on_variables strange) (pruned (alone (values v))) ≡ b → fits_sort v.sort (value_or_plain v b).head ≡ true
    any_fits v true e = at v.sort
      where
        at : (s : VariableSort) → fits_sort s (plain s).head ≡ true
        at V.General = refl
        at V.Integer = refl
        at V.Floating = refl
        at V.Constant = refl
    any_fits v false e =
        put_fits v.sort (pruned_tree (values v)) (holds_parts (on_variables strange) (values v).head (below_of (values v).head (pruned (values v).children)) none e).here (allowed.fits v (values v) refl)

    any_closed : (v : Variable) (b : Bool) → holds (on_variables strange) (pruned (alone (values v))) ≡ b → escapes 0 (alone (value_or_plain v b)) ≡ false
    any_closed v true e = at v.sort
      where
        at : (s : VariableSort) → escapes 0 (alone (plain s)) ≡ false
        at V.General = refl
        at V.Integer = refl
        at V.Floating = refl
        at V.Constant = refl
    any_closed v false e = put_closed (pruned_tree (values v)) e (pruned_closed 0 (alone (values v)) (allowed.is_closed v (values v) refl))

    any_low : (v : Variable) (n : ℕ) → u v < n → (b : Bool) → holds (on_variables strange) (pruned (alone (values v))) ≡ b → holds (is_of_universe (universes T) n) (alone (value_or_plain v b)) ≡ false
    any_low v n less true e = at v.sort
      where
        at : (s : VariableSort) → holds (is_of_universe (universes T) n) (alone (plain s)) ≡ false
        at V.General = refl
        at V.Integer = refl
        at V.Floating = refl
        at V.Constant = refl
    any_low v n less false e =
        put_low n (pruned_tree (values v)) e (pruned_marked (is_of_universe (universes S) n) (alone (values v)) (allowed.in_universe v (values v) n refl less))

    given_value : (P : Tree → Type 0) (v : Variable) (t : Tree) → Some (later_value v) ≡ Some t → P (later_value v) → P t
    given_value P v t e x = subst P (let is : later_value v ≡ t = cc in is) x

    pub still_allowed : IsAllowedInto u (universes T) (λ v. Some (later_value v))
    still_allowed = record {
      fits = λ v t e. given_value (λ t. fits_sort v.sort t.head ≡ true) v t e (any_fits v (holds (on_variables strange) (pruned (alone (values v)))) refl);
      is_closed = λ v t e. given_value (λ t. escapes 0 (alone t) ≡ false) v t e (any_closed v (holds (on_variables strange) (pruned (alone (values v)))) refl);
      in_universe = λ v t n e less. given_value (λ t. holds (is_of_universe (universes T) n) (alone t) ≡ false) v t e (any_low v n less (holds (on_variables strange) (pruned (alone (values v)))) refl);
      stays = λ v e. absurd (let clash : Some (later_value v) ≡ None = e in cc);
    }

  -- What is equal to trees that are known stays so.

  pub still_same : (r : Response) (values : Variable → Tree) (ts us : Forest) → holds (is_stray S L) us ≡ false → Same l (answered r values ts) us
      → Same l (answered r (further l listing T strange values) ts) (resolved T us)
  still_same r values ts us k s =
      let ys : Forest = valued (answer_values r) ts in
      let known : holds (on_variables strange) (pruned (answered r values ts)) ≡ false =
      same_marked strange l listing (answered r values ts) us s ∙ pruned_marked (on_variables strange) us (holds_imply (is_stray S L) (on_variables strange) stray_on us k) in
      let there : holds (is_stray T M) us ≡ false = holds_to (is_stray S L) (is_stray S L) (is_stray T M) (λ h e f. stray_later S T L M within later h e) us k k in
      along (back (twice l listing T strange values ys known))
      (along (same_instance l listing (terms_of T) (answered r values ts) us s) (back (without_regions l T M fits us there)))
    where
      stray_on : (h : Head) → is_stray S L h ≡ false → on_variables strange h ≡ false
      stray_on (H.Infer v) e = e
      stray_on _ e = refl

-- A goal that is granted

module _ {W : Type 0} (K : GoalTable W) (l : Listing) (listing : IsListing l) (S T : State) (L M : Live) (sound : IsSound S L) (fits : ValuesFit S L) (sound_there : IsSound T M) (fits_there : ValuesFit T M)
    (within : Within S L M) (later : IsLater S T L) where
  yes_stays : (g : TraitGoal) → holds (is_stray S L) g.env ≡ false → holds (is_stray S L) g.reference.arguments ≡ false → IsGrantedByYes K l (universes S) g
      → IsGrantedByYes K l (universes T) (over_trees (resolved T) g)
  yes_stays g k m a = record {
    entry = a.entry;
    entered = a.entered;
    response = a.response;
    way = a.way;
    is_yes = a.is_yes;
    values = further l listing T (strange l listing S T L M sound_there fits_there within later) a.values;
    allowed = still_allowed l listing S T L M sound_there fits_there within later a.values (response_universes a.response) a.allowed;
    same_trait = a.same_trait;
    same_polarity = a.same_polarity;
    env = still_same l listing S T L M sound_there fits_there within later a.response a.values a.entry.key.goal.env g.env k a.env;
    arguments = still_same l listing S T L M sound_there fits_there within later a.response a.values a.entry.key.goal.reference.arguments g.reference.arguments m a.arguments;
  }

  stay_equal : (h : Head) (ts : Forest) → holds (is_stray S L) ts ≡ false → FactsGranted l h ts → FactsGranted l h (resolved T ts)
  stay_equal h ts m a = facts_resolved l listing T M fits_there h ts (holds_to (is_stray S L) (is_stray S L) (is_stray T M) (λ h e f. stray_later S T L M within later h e) ts m m) a

  facts_stay : (h : Head) (e ts : Forest) → holds (is_stray S L) e ≡ false → holds (is_stray S L) ts ≡ false → FactsGrantedWith K l (universes S) e h ts
      → FactsGrantedWith K l (universes T) (resolved T e) h (resolved T ts)
  facts_stay (H.Part (P.Clause (Cl.Trait i p))) e ts k m a = yes_stays (trait_goal_of e i p ts) k m a
  facts_stay (H.Part (P.Clause (Cl.Projection i))) e ts k m a = stay_equal (H.Part (P.Clause (Cl.Projection i))) ts m a
  facts_stay (H.Part (P.Clause Cl.AliasRelate)) e ts k m a = stay_equal (H.Part (P.Clause Cl.AliasRelate)) ts m a
  facts_stay (H.Part (P.Clause Cl.ConstEquate)) e ts k m a = stay_equal (H.Part (P.Clause Cl.ConstEquate)) ts m a
  facts_stay (H.Part (P.Clause Cl.TypeOutlives)) e ts k m a = tt
  facts_stay (H.Part (P.Clause Cl.RegionOutlives)) e ts k m a = tt
  facts_stay _ e ts k m a = absurd a

  still_granted : (g : Goal) → GoalIsOf S L g → IsGrantedWith K l S g → IsGrantedWith K l T g
  still_granted g of a =
      let ks = bound_kinds g.clause.children in
      let fs : Forest = after_first g.clause.children in
      let known = facts_known S L g of in
      let env : holds (is_stray S L) (resolved S g.env) ≡ false = resolved_stray S L sound g.env (holds_imply (is_strange S L) (is_stray S L) (strange_stray S L) g.env of.env.known) in
      let facts : holds (is_stray S L) (resolved S (opens a.universe ks 0 fs)) ≡ false = resolved_stray S L sound (opens a.universe ks 0 fs) (opened_stray S L a.universe ks fs known) in
      record {
        universe = a.universe;
        is_fresh = fresh_for_later S T L later ks a.universe (join g.env fs) (goal_known S L g of) a.is_fresh;
        facts = subst (λ e. FactsGrantedWith K l (universes T) e g.clause.head (resolved T (opens a.universe ks 0 fs))) (later.values g.env of.env.known)
            (subst (FactsGrantedWith K l (universes T) (resolved T (resolved S g.env)) g.clause.head) (resolved_further S T L M sound fits fits_there within later a.universe ks fs known)
            (facts_stay g.clause.head (resolved S g.env) (resolved S (opens a.universe ks 0 fs)) env facts a.facts));
      }

-- What is granted stays so at every state that follows.
pub granted_stays : {W : Type 0} (K : GoalTable W) (l : Listing) → IsListing l → (S T : State) (L : Live) (g : Goal) → IsSound S L → ValuesFit S L → GoalIsOf S L g → Follows S T L
    → IsGrantedWith K l S g → IsGrantedWith K l T g
granted_stays K l listing S T L g sound fits of f a = still_granted K l listing S T L f.live sound fits f.sound f.fits f.within f.later g of a
