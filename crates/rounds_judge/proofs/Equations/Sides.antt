-- A side that holds no alias once values are put in: what a look finds at its root, and what it offers to a variable.
use Rattle.std.proofs.Common.{◌≡◌, Bool, true, false, Option, Some, None, length, refl, sym, ap, subst, ◌∙◌, arith, if◌then◌else◌}
use Rattle.std.specs.Option.{unwrap_or}
use Rattle.ir_trees.specs.declared.ir.heads.Head.{Head}
use Rattle.ir_trees.specs.declared.ir.heads.Head.TheVariants as H
use Rattle.ir_trees.specs.declared.ir.heads.ConstHead.{ConstHead}
use Rattle.ir_trees.specs.declared.ir.heads.ConstHead.TheVariants as C
use Rattle.ir_trees.specs.declared.ir.heads.Variable.{Variable}
use Rattle.ir_trees.specs.declared.ir.kinds.BoundVar.{BoundVar}
use Rattle.ir_trees.specs.declared.ir.kinds.Placeholder.{Placeholder}
use Rattle.ir_trees.specs.declared.ir.kinds.RegionKind.{RegionKind}
use Rattle.ir_trees.specs.declared.ir.kinds.RegionKind.TheVariants as R
use Rattle.ir_trees.specs.Syntax.Trees.{Forest, none, tree, Tree, erase, holds, is_alias}
use Rattle.ir_trees.specs.Syntax.Binders.{escapes}
use Rattle.ir_trees.specs.Instantiation.Folding.{fold}
use Rattle.ir_trees.specs.Unification.Substitutions.{alone}
use Rattle.candidate_eval.specs.declared.eval.variable.VariableKind.TheVariants.{Term, Region}
use Rattle.candidate_eval.specs.Judges.States.{State, Values, value_at, resolved, resolved_tree}
use Rattle.candidate_eval.specs.Judges.Alike.{info}
use Rattle.candidate_eval.specs.Judges.Soundness.{Live, IsSound, ValuesFit, AreLeaves, is_leaf, is_strange, has_value}
use Rattle.candidate_eval.specs.Judges.Lawful.{HasLeafValues}
use Rattle.candidate_eval.specs.Interface.Evaluators.{root_value, resolved_root}
use Rattle.candidate_eval.proofs.Marks.Holds.{holds_parts}
use Rattle.rounds_judge.specs.Aliases.Listed.{Listing, listed, current}
use Rattle.rounds_judge.specs.Equations.Scopes.{Scope}
use Rattle.rounds_judge.proofs.States.Marks.{whole, escapes_on, escape_parts, escape_whole}
use Rattle.rounds_judge.proofs.States.Later.{has_info, no_value, value_there, value_known, value_resolved, value_closed, resolved_stays}
use Rattle.rounds_judge.proofs.Unifiers.Putting.{put_in, absorbed, fold_leaves}

-- What is known of a row of a pair.
pub record Side (S : State) (L : Live) (us : Scope) (ts : Forest) : Type 0 where
  pub known : holds (is_strange S L) ts ≡ false
  pub is_closed : escapes (length us) ts ≡ false
  pub leaves : AreLeaves ts
  pub no_alias : holds is_alias (resolved S ts) ≡ false

pub first_side : (S : State) (L : Live) (us : Scope) (h : Head) (a r : Forest) → Side S L us (tree h a r) → Side S L us (tree h a none)
first_side S L us h a r s =
    let k = holds_parts (is_strange S L) h a r s.known in
    let c = escape_parts (length us) h a r s.is_closed in
    let it : Tree = resolved_tree S (record { head = h; children = a }) in
    let n = holds_parts is_alias it.head it.children (resolved S r) s.no_alias in
    record {
      known = whole (is_strange S L) h a none k.here k.under refl;
      is_closed = escape_whole (length us) h a none c.here c.under refl;
      leaves = (s.leaves.0, s.leaves.1, tt);
      no_alias = whole is_alias it.head it.children none n.here n.under refl;
    }

pub other_sides : (S : State) (L : Live) (us : Scope) (h : Head) (a r : Forest) → Side S L us (tree h a r) → Side S L us r
other_sides S L us h a r s =
    let k = holds_parts (is_strange S L) h a r s.known in
    let c = escape_parts (length us) h a r s.is_closed in
    let it : Tree = resolved_tree S (record { head = h; children = a }) in
    let n = holds_parts is_alias it.head it.children (resolved S r) s.no_alias in
    record { known = k.others; is_closed = c.others; leaves = s.leaves.2; no_alias = n.others }

-- Values that come to the same as their variables, once `w` is put in.
abbrev pub Absorbs : Values → State → Live → Type 0
Absorbs w S L = (h : Head) (t : Tree) → is_strange S L h ≡ false → value_at S h ≡ Some t → erase (put_in w (alone t)) ≡ erase (put_in w (tree h none none))

-- Nothing is put for bound regions and placeholders of regions.
pub record IsQuiet (w : Values) : Type 0 where
  pub bound : (v : BoundVar) → w (H.Region (R.Bound v)) ≡ None
  pub placeholder : (p : Placeholder) → w (H.Region (R.Placeholder p)) ≡ None

pub valued_leaf : (S : State) (h : Head) (t : Tree) → value_at S h ≡ Some t → is_leaf h ≡ true
valued_leaf S (H.Infer v) t e = refl
valued_leaf S (H.Region r) t e = at r
  where
    at : (r : RegionKind) → is_leaf (H.Region r) ≡ true
    at (R.Var n) = refl
    at _ = refl
valued_leaf S _ t e = cc

-- Values are leaves

pub value_leaves : (S : State) (L : Live) → HasLeafValues S L → (h : Head) (t : Tree) → is_strange S L h ≡ false → value_at S h ≡ Some t → AreLeaves (alone t)
value_leaves S L leafy (H.Infer v) t e f = let i = has_info (L v.number) (Term v.sort) (info S v.number) e in leafy v.number i.0 t i.2 i.1 (value_there S (Term v.sort) v.number i.0 t i.1 f)
value_leaves S L leafy (H.Region (R.Var n)) t e f = let i = has_info (L n) Region (info S n) e in leafy n i.0 t i.2 i.1 (value_there S Region n i.0 t i.1 f)
value_leaves S L leafy _ t e f = cc

pub resolved_leaves : (S : State) (L : Live) → HasLeafValues S L → (ts : Forest) → holds (is_strange S L) ts ≡ false → AreLeaves ts → AreLeaves (resolved S ts)
resolved_leaves S L leafy ts k l = fold_leaves (λ d t. value_at S t.head) (is_strange S L) (λ d t u m e. value_leaves S L leafy t.head u m e) 0 ts k l

pub resolved_absorbed : (S : State) (L : Live) (w : Values) → Absorbs w S L → (ts : Forest) → holds (is_strange S L) ts ≡ false → AreLeaves ts → erase (put_in w (resolved S ts)) ≡ erase (put_in w ts)
resolved_absorbed S L w a ts k l = absorbed (λ d t. value_at S t.head) w (is_strange S L) (λ d t u m e. (valued_leaf S t.head u e, a t.head u m e)) 0 ts k l

-- The root

pub record Rooted (S : State) (L : Live) (us : Scope) (x y : Tree) : Type 0 where
  pub side : Side S L us (alone y)
  pub free : root_value S y.head ≡ None
  pub resolves : resolved S (alone y) ≡ resolved S (alone x)

-- what is found comes to the same
pub rooted_same : (S : State) (L : Live) (us : Scope) (w : Values) → Absorbs w S L → (x y : Tree) → Side S L us (alone x) → Rooted S L us x y → erase (put_in w (alone y)) ≡ erase (put_in w (alone x))
rooted_same S L us w a x y s r =
    sym (resolved_absorbed S L w a (alone y) r.side.known r.side.leaves) ∙ ap (λ ts. erase (put_in w ts)) r.resolves ∙ resolved_absorbed S L w a (alone x) s.known s.leaves

module _ (S : State) (L : Live) (us : Scope) (sound : IsSound S L) (fits : ValuesFit S L) (leafy : HasLeafValues S L) where
  value_rooted : (v : Variable) (a : Forest) (t : Tree) → Side S L us (tree (H.Infer v) a none) → value_at S (H.Infer v) ≡ Some t → Rooted S L us (record { head = H.Infer v; children = a }) t
  value_rooted v a t s e =
      let k = holds_parts (is_strange S L) (H.Infer v) a none s.known in
      let r = value_resolved S L sound (H.Infer v) t k.here e in
      let same : resolved S (alone t) ≡ resolved S (tree (H.Infer v) a none) =
      resolved_stays S (alone t) r ∙ ap (λ o. alone (unwrap_or o (record { head = H.Infer v; children = fold (λ d u. value_at S u.head) 0 a }))) (sym e) in
      record {
        side = record {
          known = value_known S L sound (H.Infer v) t k.here e;
          is_closed = escapes_on 0 (length us) (alone t) (omega arith) (value_closed S L fits (H.Infer v) t k.here e);
          leaves = value_leaves S L leafy (H.Infer v) t k.here e;
          no_alias = ap (holds is_alias) same ∙ s.no_alias;
        };
        free = no_root t.head (holds_parts (has_value S) t.head t.children none r).here;
        resolves = same;
      }
    where
      no_root : (h : Head) → has_value S h ≡ false → root_value S h ≡ None
      no_root (H.Infer w) e = no_value (value_at S (H.Infer w)) e
      no_root h e = refl

  rooted : (x : Tree) → Side S L us (alone x) → Rooted S L us x (resolved_root S x)
  rooted x s = at x.head x.children s
    where
      at : (h : Head) (a : Forest) → Side S L us (tree h a none) → Rooted S L us (record { head = h; children = a }) (resolved_root S (record { head = h; children = a }))
      at (H.Infer v) a s = by (value_at S (H.Infer v)) refl
        where
          by : (o : Option Tree) → value_at S (H.Infer v) ≡ o → Rooted S L us (record { head = H.Infer v; children = a }) (unwrap_or o (record { head = H.Infer v; children = a }))
          by None e = record { side = s; free = e; resolves = refl }
          by (Some t) e = value_rooted v a t s e
      at h a s = record { side = s; free = refl; resolves = refl }

  -- what stands there is no alias
  alias_shows : (h : Head) (a : Forest) → is_alias h ≡ true → holds is_alias (resolved S (tree h a none)) ≡ true
  alias_shows (H.Alias k d) a e = refl
  alias_shows (H.Const c) a e = at c e
    where
      at : (c : ConstHead) → is_alias (H.Const c) ≡ true → holds is_alias (resolved S (tree (H.Const c) a none)) ≡ true
      at (C.Unevaluated d) e = refl
      at _ e = cc
  alias_shows _ a e = cc

  pub no_alias_there : (x : Tree) → holds is_alias (resolved S (alone x)) ≡ false → is_alias x.head ≡ false
  no_alias_there x n = at (is_alias x.head) refl
    where
      at : (b : Bool) → is_alias x.head ≡ b → b ≡ false
      at false e = refl
      at true e = sym (alias_shows x.head x.children e) ∙ n

  pub found : (l : Listing) (x : Tree) → Side S L us (alone x) → Rooted S L us x (current l S x)
  found l x s =
      let r = rooted x s in
      subst (Rooted S L us x) (sym (ap (λ b. if b then unwrap_or (listed l (resolved_tree S (resolved_root S x))) (resolved_root S x) else resolved_root S x) (no_alias_there (resolved_root S x) r.side.no_alias))) r
