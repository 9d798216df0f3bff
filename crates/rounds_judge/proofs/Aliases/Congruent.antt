-- Equality modulo listed pairs stays where values are put in.
use Rattle.std.proofs.Common.{◌≡◌, ℕ, Bool, true, false, Option, Some, None, refl, sym, ap, subst, ◌∙◌}
use Rattle.std.specs.Option.{unwrap_or}
use Rattle.std.specs.List.{Contains}
use Rattle.std.proofs.lemmas.List.Elements.{All-contains}
use Rattle.ir_trees.specs.declared.ir.heads.Head.{Head}
use Rattle.ir_trees.specs.declared.ir.heads.Head.TheVariants as H
use Rattle.ir_trees.specs.declared.ir.kinds.RegionKind.TheVariants as R
use Rattle.ir_trees.specs.Syntax.Trees.{Forest, none, tree, Tree, holds}
use Rattle.ir_trees.specs.Unification.Substitutions.{alone}
use Rattle.ir_trees.proofs.Instantiation.Folding.{begin, fold-nothing}
use Rattle.candidate_eval.specs.declared.eval.variable.VariableKind.{VariableKind}
use Rattle.candidate_eval.specs.declared.eval.variable.VariableKind.TheVariants.{Term, Region}
use Rattle.candidate_eval.specs.Judges.States.{State, VariableInfo, Values, valued, valued_tree, value_in, value_of, value_at, resolved, has_kind, same_kind, value_as}
use Rattle.candidate_eval.specs.Judges.Alike.{info}
use Rattle.candidate_eval.specs.Judges.Instances.{Instance, instance}
use Rattle.candidate_eval.specs.Judges.Soundness.{Live, IsSound, ValuesFit, IsLater, Within, is_strange, is_region, fits_kind}
use Rattle.candidate_eval.proofs.Marks.Holds.{holds_parts, holds_imply}
use Rattle.rounds_judge.specs.Aliases.Listed.{Listing}
use Rattle.rounds_judge.specs.Equations.Standing.{IsListing, IsFixed, IsListed, is_made}
use Rattle.rounds_judge.specs.Aliases.Congruence.{AreListed, Same, same, heads, regions, pair, back, along}
use Rattle.rounds_judge.proofs.States.Marks.{valued_node, fold_marked}
use Rattle.rounds_judge.proofs.States.Later.{has_info, kind_there, value_known, strange_stays, value_as_of}

module _ (l : Listing) where
  pub same_to : (a b c d : Forest) → a ≡ c → b ≡ d → Same l a b → Same l c d
  same_to a b c d e f s = subst (Same l c) f (subst (λ x. Same l x b) e s)

  -- the same tree, and then rows that are equal
  pub same_begin : (t : Tree) (r s : Forest) → Same l r s → Same l (begin t r) (begin t s)
  same_begin t r s e = heads t.head (same t.children) e

  -- two heads with their children, and the rest
  pub same_nodes : (v w : Values) (h g : Head) (a b r s : Forest)
      → Same l (begin (unwrap_or (v h) (record { head = h; children = valued v a })) (valued v r)) (begin (unwrap_or (w g) (record { head = g; children = valued w b })) (valued w s))
      → Same l (valued v (tree h a r)) (valued w (tree g b s))
  same_nodes v w h g a b r s e =
      same_to (begin (unwrap_or (v h) (record { head = h; children = valued v a })) (valued v r)) (begin (unwrap_or (w g) (record { head = g; children = valued w b })) (valued w s))
      (valued v (tree h a r)) (valued w (tree g b s)) (sym (valued_node v h a r)) (sym (valued_node w g b s)) e

  -- one value, or none: equal below is equal
  pub same_node : (v : Values) (h : Head) (a b r s : Forest) → Same l (valued v a) (valued v b) → Same l (valued v r) (valued v s) → Same l (valued v (tree h a r)) (valued v (tree h b s))
  same_node v h a b r s e f = same_nodes v v h h a b r s (at (v h))
    where
      at : (o : Option Tree) → Same l (begin (unwrap_or o (record { head = h; children = valued v a })) (valued v r)) (begin (unwrap_or o (record { head = h; children = valued v b })) (valued v s))
      at None = heads h e f
      at (Some t) = same_begin t (valued v r) (valued v s) f

-- Trees that hold no variable stay.

pub fixed_stays : (v : Values) → ((h : Head) → is_made h ≡ false → v h ≡ None) → (t : Tree) → IsFixed t → valued_tree v t ≡ t
fixed_stays v free t f = ap (first_or t) (fold-nothing (λ d u. v u.head) is_made (λ d u e. free u.head e) 0 (alone t) f.not_made)
  where
    first_or : Tree → Forest → Tree
    first_or t none = t
    first_or t (tree h below rest) = record { head = h; children = below }

instance_free : (i : Instance) (h : Head) → is_made h ≡ false → instance i h ≡ None
instance_free i (H.Infer v) e = cc
instance_free i _ e = refl

instance_region : (i : Instance) (h : Head) → is_region h ≡ true → instance i h ≡ None
instance_region i (H.Region r) e = refl
instance_region i _ e = cc

pub listed_pair : (l : Listing) → IsListing l → (p : Tree × Tree) → Contains l.pairs p → IsListed p
listed_pair l listing p c = All-contains IsListed l.pairs p listing c

-- it has no error, so that it counts
pub pair_counts : (l : Listing) → IsListing l → (p : Tree × Tree) → Contains l.pairs p → AreListed l p.0 p.1
pair_counts l listing p c =
    let f = listed_pair l listing p c in
    record { is_among = c; alias_has_no_error = f.alias.no_error; type_has_no_error = f.type.no_error }

module _ (l : Listing) (listing : IsListing l) (i : Instance) where
  -- Values of types and constants keep what is equal.
  pub same_instance : (a b : Forest) → Same l a b → Same l (valued (instance i) a) (valued (instance i) b)
  same_instance _ _ (same ts) = same (valued (instance i) ts)
  same_instance _ _ (heads h {a = a} {b = b} {r = r} {s = s} e f) = same_node l (instance i) h a b r s (same_instance a b e) (same_instance r s f)
  same_instance _ _ (regions g h a b {r = r} {s = s} e f x) =
      same_nodes l (instance i) (instance i) g h a b r s
      (same_to l (tree g (valued (instance i) a) (valued (instance i) r)) (tree h (valued (instance i) b) (valued (instance i) s))
      (begin (unwrap_or (instance i g) (record { head = g; children = valued (instance i) a })) (valued (instance i) r)) (begin (unwrap_or (instance i h) (record { head = h; children = valued (instance i) b })) (valued (instance i) s))
      (ap (λ o. begin (unwrap_or o (record { head = g; children = valued (instance i) a })) (valued (instance i) r)) (sym (instance_region i g e)))
      (ap (λ o. begin (unwrap_or o (record { head = h; children = valued (instance i) b })) (valued (instance i) s)) (sym (instance_region i h f)))
      (regions g h (valued (instance i) a) (valued (instance i) b) e f (same_instance r s x)))
  same_instance _ _ (pair t u {r = r} {s = s} c x) =
      let p : Tree × Tree = (t, u) in
      let f = listed_pair l listing p c.is_among in
      same_to l (begin p.0 (valued (instance i) r)) (begin p.1 (valued (instance i) s)) (begin (valued_tree (instance i) p.0) (valued (instance i) r)) (begin (valued_tree (instance i) p.1) (valued (instance i) s))
      (ap (λ t. begin t (valued (instance i) r)) (sym (fixed_stays (instance i) (instance_free i) p.0 f.alias))) (ap (λ t. begin t (valued (instance i) s)) (sym (fixed_stays (instance i) (instance_free i) p.1 f.type)))
      (pair t u c (same_instance r s x))
  same_instance _ _ (back {a = a} {b = b} e) = back (same_instance a b e)
  same_instance _ _ (along {a = a} {b = b} {c = c} e f) = along (same_instance a b e) (same_instance b c f)

-- Variables that count, whatever the placeholders

abbrev pub is_stray : State → Live → Head → Bool
is_stray S L (H.Infer v) = is_strange S L (H.Infer v)
is_stray S L (H.Region (R.Var n)) = is_strange S L (H.Region (R.Var n))
is_stray S L _ = false

pub strange_stray : (S : State) (L : Live) (h : Head) → is_strange S L h ≡ false → is_stray S L h ≡ false
strange_stray S L (H.Infer v) e = e
strange_stray S L (H.Region (R.Var n)) e = e
strange_stray S L _ e = refl

pub stray_strange : (S : State) (L : Live) (h : Head) (t : Tree) → value_at S h ≡ Some t → is_stray S L h ≡ false → is_strange S L h ≡ false
stray_strange S L (H.Infer v) t f e = e
stray_strange S L (H.Region (R.Var n)) t f e = e
stray_strange S L _ t f e = cc

pub stray_later : (S T : State) (L M : Live) → Within S L M → IsLater S T L → (h : Head) → is_stray S L h ≡ false → is_stray T M h ≡ false
stray_later S T L M within later (H.Infer v) e = strange_stays S T L M within later (H.Infer v) e
stray_later S T L M within later (H.Region (R.Var n)) e = strange_stays S T L M within later (H.Region (R.Var n)) e
stray_later S T L M within later _ e = refl

pub resolved_stray : (S : State) (L : Live) → IsSound S L → (ts : Forest) → holds (is_stray S L) ts ≡ false → holds (is_stray S L) (resolved S ts) ≡ false
resolved_stray S L sound ts e =
    fold_marked (λ d t. value_at S t.head) (is_stray S L) (is_stray S L) (is_stray S L) (λ d t a b f. a)
    (λ d t u a b f. holds_imply (is_strange S L) (is_stray S L) (strange_stray S L) (alone u) (value_known S L sound t.head u (stray_strange S L t.head u f a) f)) 0 ts e e

-- the values of type and constant variables
abbrev pub terms_of : State → Instance
terms_of S v = value_at S (H.Infer v)

module _ (l : Listing) (T : State) (M : Live) (fits : ValuesFit T M) where
  pub region_value : (n : ℕ) (t : Tree) → is_strange T M (H.Region (R.Var n)) ≡ false → value_of T n ≡ Some t → is_region t.head ≡ true
  region_value n t e v =
      let i = has_info (M n) Region (info T n) e in
      let kind = kind_there (M n) Region (info T n) e in
      fitting i.0 (ap (has_kind Region) (sym i.1) ∙ kind) ((fits n i.2).kind i.0 t i.1 (sym (ap value_in i.1) ∙ v))
    where
      region_kind : (k : VariableKind) (h : Head) → same_kind k Region ≡ true → fits_kind k h ≡ true → is_region h ≡ true
      region_kind Region h e f = f
      region_kind (Term s) h e f = cc

      fitting : (i : VariableInfo) → same_kind i.kind Region ≡ true → fits_kind i.kind t.head ≡ true → is_region t.head ≡ true
      fitting i e f = region_kind i.kind t.head e f

  -- values of regions make no difference
  pub without_regions : (ts : Forest) → holds (is_stray T M) ts ≡ false → Same l (resolved T ts) (valued (instance (terms_of T)) ts)
  without_regions none e = same none
  without_regions (tree h a r) e =
      let p = holds_parts (is_stray T M) h a r e in
      same_nodes l (value_at T) (instance (terms_of T)) h h a a r r (node h p.here (without_regions a p.under) (without_regions r p.others))
    where
      node : (h : Head) → is_stray T M h ≡ false → Same l (resolved T a) (valued (instance (terms_of T)) a) → Same l (resolved T r) (valued (instance (terms_of T)) r)
          → Same l (begin (unwrap_or (value_at T h) (record { head = h; children = resolved T a })) (resolved T r)) (begin (unwrap_or (instance (terms_of T) h) (record { head = h; children = valued (instance (terms_of T)) a })) (valued (instance (terms_of T)) r))
      node (H.Infer v) e under others = at (value_at T (H.Infer v))
        where
          at : (o : Option Tree) → Same l (begin (unwrap_or o (record { head = H.Infer v; children = resolved T a })) (resolved T r)) (begin (unwrap_or o (record { head = H.Infer v; children = valued (instance (terms_of T)) a })) (valued (instance (terms_of T)) r))
          at None = heads (H.Infer v) under others
          at (Some t) = same_begin l t (resolved T r) (valued (instance (terms_of T)) r) others
      node (H.Region (R.Var n)) e under others = at (value_as T Region n) refl
        where
          at : (o : Option Tree) → value_as T Region n ≡ o → Same l (begin (unwrap_or o (record { head = H.Region (R.Var n); children = resolved T a })) (resolved T r)) (tree (H.Region (R.Var n)) (valued (instance (terms_of T)) a) (valued (instance (terms_of T)) r))
          at None f = heads (H.Region (R.Var n)) under others
          at (Some t) f = regions t.head (H.Region (R.Var n)) t.children (valued (instance (terms_of T)) a) (region_value n t e (value_as_of T Region n t f)) refl others
      node h e under others = heads h under others

  -- What is equal stays so where the values of a state are put in.
  pub same_resolved : IsListing l → (a b : Forest) → holds (is_stray T M) a ≡ false → holds (is_stray T M) b ≡ false → Same l a b → Same l (resolved T a) (resolved T b)
  same_resolved listing a b e f s = along (without_regions a e) (along (same_instance l listing (terms_of T) a b s) (back (without_regions b f)))
