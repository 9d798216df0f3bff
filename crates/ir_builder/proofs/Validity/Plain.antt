-- What is plain is not misplaced, and no bound variable escapes from it.
use Rattle.std.proofs.Common.{◌≡◌, ℕ, ◌+◌, ◌<◌, ◌≤◌, List, length, get_or, drop, Bool, true, false, Option, Some, None, slice_get, refl, arith}
use Rattle.std.specs.Prelude.{◌||◌, nat_le}
use Rattle.std.specs.List.{list_any}
use Rattle.std.proofs.lemmas.Bool.{leb-false}
use Rattle.ir_trees.proofs.Instantiation.Folding.{or-left, or-right}
use Rattle.ir_trees.proofs.Validity.Misplacing.{any_on, any_past}
use Rattle.ir_trees.specs.declared.ir.heads.Head.{Head}
use Rattle.ir_trees.specs.declared.ir.heads.Head.TheVariants as H
use Rattle.ir_trees.specs.declared.ir.heads.ConstHead.TheVariants as CH
use Rattle.ir_trees.specs.declared.ir.heads.ListHead.{ListHead}
use Rattle.ir_trees.specs.declared.ir.kinds.TyKind.{TyKind}
use Rattle.ir_trees.specs.declared.ir.kinds.TyKind.TheVariants as T
use Rattle.ir_trees.specs.declared.ir.kinds.Pattern.TheVariants as Pat
use Rattle.ir_trees.specs.declared.ir.kinds.ConstKind.TheVariants as C
use Rattle.ir_trees.specs.declared.ir.kinds.RegionKind.TheVariants as R
use Rattle.ir_trees.specs.declared.ir.kinds.VarKind.{VarKind}
use Rattle.ir_trees.specs.declared.ir.kinds.VarKind.TheVariants as V
use Rattle.ir_trees.specs.declared.ir.node.Node.{Node}
use Rattle.ir_trees.specs.declared.ir.node.Node.TheVariants as N
use Rattle.ir_trees.specs.declared.decl.misplaced.Misplaced.TheVariants as M
use Rattle.ir_trees.specs.declared.decl.held.Held.{Held}
use Rattle.ir_trees.specs.Syntax.Binders.{is_beyond, escapes, tree_escapes}
use Rattle.ir_trees.specs.Syntax.Trees.{Forest, none, tree, Tree, holds, tree_holds, binders_of}
use Rattle.ir_trees.specs.Syntax.Kinds.{ty_head}
use Rattle.ir_trees.specs.Syntax.Nodes.{tree_at, head_of}
use Rattle.ir_trees.specs.Declarations.Declaration.{Declaration}
use Rattle.ir_trees.specs.Declarations.Contents.{Impl}
use Rattle.ir_trees.specs.Validity.Misplaced.{is_misplaced, kinds_of_owner, held_misplaces, held_escapes}
use Rattle.ir_builder.specs.Calls.Plain.{is_doubtful, is_type, ty_is_plain, node_is_plain, TreeIsPlain, HeldIsPlain, AllArePlain}

-- a list is never doubtful
pub plain-list : (ks : List VarKind) (l : ListHead) → is_doubtful ks (H.List l) ≡ false
plain-list ks l = refl

plain-param : (ks : List VarKind) (i : ℕ) (o : Option VarKind) → slice_get ks i ≡ o → is_type o ≡ true → is_doubtful ks (H.Param i) ≡ false
plain-param ks i (Some V.Ty) s e = rw s refl
plain-param ks i (Some V.Const) s e = absurd cc
plain-param ks i (Some V.Region) s e = absurd cc
plain-param ks i None s e = absurd cc

plain-type : (ks : List VarKind) (k : TyKind) → ty_is_plain ks k ≡ true → is_doubtful ks (ty_head k) ≡ false
plain-type ks (T.Param i) e = plain-param ks i (slice_get ks i) refl e
plain-type ks (T.Placeholder _) e = absurd cc
plain-type ks (T.Bound _) e = absurd cc
plain-type ks (T.Infer _) e = absurd cc
plain-type ks T.Bool e = refl
plain-type ks T.Char e = refl
plain-type ks (T.Int _) e = refl
plain-type ks (T.Uint _) e = refl
plain-type ks (T.Float _) e = refl
plain-type ks T.Str e = refl
plain-type ks T.Never e = refl
plain-type ks (T.Adt _ _) e = refl
plain-type ks (T.Foreign _) e = refl
plain-type ks (T.Array _ _) e = refl
plain-type ks (T.Slice _) e = refl
plain-type ks (T.Pat _ Pat.NotNull) e = refl
plain-type ks (T.Pat _ (Pat.Range _ _)) e = refl
plain-type ks (T.RawPtr _ _) e = refl
plain-type ks (T.Ref _ _ _) e = refl
plain-type ks (T.FnDef _ _) e = refl
plain-type ks (T.FnPtr _) e = refl
plain-type ks (T.UnsafeBinder _) e = refl
plain-type ks (T.Dynamic _ _) e = refl
plain-type ks (T.Closure _ _) e = refl
plain-type ks (T.Tuple _) e = refl
plain-type ks (T.Alias _) e = refl
plain-type ks T.Error e = refl

pub plain-node : (ks : List VarKind) (d : Node) → node_is_plain ks d ≡ true → is_doubtful ks (head_of d) ≡ false
plain-node ks (N.Ty k) e = plain-type ks k e
plain-node ks (N.Region R.Static) e = refl
plain-node ks (N.Region R.Error) e = absurd cc
plain-node ks (N.Region (R.Bound _)) e = absurd cc
plain-node ks (N.Region (R.Placeholder _)) e = absurd cc
plain-node ks (N.Region (R.Var _)) e = absurd cc
plain-node ks (N.Const (C.Value _)) e = refl
plain-node ks (N.Const (C.Param _)) e = absurd cc
plain-node ks (N.Const (C.Placeholder _)) e = absurd cc
plain-node ks (N.Const (C.Bound _)) e = absurd cc
plain-node ks (N.Const (C.Infer _)) e = absurd cc
plain-node ks (N.Const (C.Unevaluated _ _)) e = absurd cc
plain-node ks (N.Const C.Error) e = absurd cc
plain-node ks (N.Args _) e = refl
plain-node ks (N.Preds _) e = refl
plain-node ks (N.Clauses _) e = refl
plain-node ks (N.Pred _) e = refl
plain-node ks (N.Clause _) e = refl
plain-node ks (N.Sig _) e = refl
plain-node ks (N.Vars _) e = refl
plain-node ks (N.Var _) e = refl

-- where nothing has the one mark, nothing has a mark that only such heads have
weaker : (p q : Head → Bool) → ((h : Head) → p h ≡ false → q h ≡ false) → (f : Forest) → holds p f ≡ false → holds q f ≡ false
weaker p q w none e = refl
weaker p q w (tree h below rest) e =
    let inner = or-right (p h) (holds p below || holds p rest) e in
    rw (w h (or-left (p h) (holds p below || holds p rest) e))
    (rw (weaker p q w below (or-left (holds p below) (holds p rest) inner)) (weaker p q w rest (or-right (holds p below) (holds p rest) inner)))

tree-weaker : (p q : Head → Bool) → ((h : Head) → p h ≡ false → q h ≡ false) → (t : Tree) → tree_holds p t ≡ false → tree_holds q t ≡ false
tree-weaker p q w t e =
    rw (w t.head (or-left (p t.head) (holds p t.children) e)) (weaker p q w t.children (or-right (p t.head) (holds p t.children) e))

not-below : (n : ℕ) → nat_le 0 n ≡ false → ⊥
not-below n e = let l = leb-false 0 n e in omega (arith, l)

-- what is no bound variable is none beyond any binders
never-beyond : (n : ℕ) (h : Head) → is_beyond 0 h ≡ false → is_beyond n h ≡ false
never-beyond n (H.Bound v) e = absurd (not-below v.depth e)
never-beyond n (H.Const (CH.Bound v)) e = absurd (not-below v.depth e)
never-beyond n (H.Region (R.Bound v)) e = absurd (not-below v.depth e)
never-beyond n (H.Builtin _) e = refl
never-beyond n (H.Ref _) e = refl
never-beyond n (H.Adt _) e = refl
never-beyond n (H.Foreign _) e = refl
never-beyond n H.Dynamic e = refl
never-beyond n (H.FnDef _) e = refl
never-beyond n (H.Closure _ _) e = refl
never-beyond n (H.Param _) e = refl
never-beyond n (H.Alias _ _) e = refl
never-beyond n (H.Placeholder _) e = refl
never-beyond n (H.Infer _) e = refl
never-beyond n H.Error e = refl
never-beyond n (H.Const (CH.Value _)) e = refl
never-beyond n (H.Const (CH.Param _)) e = refl
never-beyond n (H.Const (CH.Placeholder _)) e = refl
never-beyond n (H.Const (CH.Unevaluated _)) e = refl
never-beyond n (H.Const CH.Error) e = refl
never-beyond n (H.Region R.Static) e = refl
never-beyond n (H.Region R.Error) e = refl
never-beyond n (H.Region (R.Placeholder _)) e = refl
never-beyond n (H.Region (R.Var _)) e = refl
never-beyond n (H.Part _) e = refl
never-beyond n (H.List _) e = refl

closed : (n : ℕ) (f : Forest) → holds (is_beyond 0) f ≡ false → escapes n f ≡ false
closed n none e = refl
closed n (tree h below rest) e =
    let p = is_beyond 0 in
    let inner = or-right (p h) (holds p below || holds p rest) e in
    rw (never-beyond n h (or-left (p h) (holds p below || holds p rest) e))
    (rw (closed (n + binders_of h) below (or-left (holds p below) (holds p rest) inner)) (closed n rest (or-right (holds p below) (holds p rest) inner)))

pub plain_tree : (ks : List VarKind) (t : Tree) → tree_holds (is_doubtful ks) t ≡ false → TreeIsPlain t (Some ks)
plain_tree ks t e = record {
  past = tree-weaker (is_doubtful ks) (is_misplaced M.Past ks) (λ h d. or-left (is_misplaced M.Past ks h) (is_misplaced M.Stray ks h || is_beyond 0 h) d) t e;
  stray = tree-weaker (is_doubtful ks) (is_misplaced M.Stray ks) (λ h d. or-left (is_misplaced M.Stray ks h) (is_beyond 0 h) (or-right (is_misplaced M.Past ks h) (is_misplaced M.Stray ks h || is_beyond 0 h) d)) t e;
  closed = λ n. at n (tree-weaker (is_doubtful ks) (is_beyond 0) (λ h d. or-right (is_misplaced M.Stray ks h) (is_beyond 0 h) (or-right (is_misplaced M.Past ks h) (is_misplaced M.Stray ks h || is_beyond 0 h) d)) t e);
}
  where
    at : (n : ℕ) → tree_holds (is_beyond 0) t ≡ false → tree_escapes n t ≡ false
    at n b = rw (never-beyond n t.head (or-left (is_beyond 0 t.head) (holds (is_beyond 0) t.children) b))
        (closed (n + binders_of t.head) t.children (or-right (is_beyond 0 t.head) (holds (is_beyond 0) t.children) b))

pub plain_held : (ts : List Tree) (ds : List Declaration) (is : List Impl) (h : Held) → TreeIsPlain (tree_at ts h.number) (kinds_of_owner ds is h.owner) → HeldIsPlain ts ds is h
plain_held ts ds is h p = record { past = p.past; stray = p.stray; closed = p.closed _ }

-- what is held before the place is plain
pub record NoneUpTo (ts : List Tree) (ds : List Declaration) (is : List Impl) (hs : List Held) (i : ℕ) : Type 0 where
  pub past : list_any (held_misplaces M.Past ts ds is) hs ≡ list_any (held_misplaces M.Past ts ds is) (drop i hs)
  pub stray : list_any (held_misplaces M.Stray ts ds is) hs ≡ list_any (held_misplaces M.Stray ts ds is) (drop i hs)
  pub closed : list_any (held_escapes ts) hs ≡ list_any (held_escapes ts) (drop i hs)

pub none_yet : (ts : List Tree) (ds : List Declaration) (is : List Impl) (hs : List Held) → NoneUpTo ts ds is hs 0
none_yet ts ds is hs = record { past = refl; stray = refl; closed = refl }

pub one_more : (ts : List Tree) (ds : List Declaration) (is : List Impl) (hs : List Held) (i : ℕ) (h : Held) → i < length hs → h ≡ get_or hs i h → HeldIsPlain ts ds is h
    → NoneUpTo ts ds is hs i → NoneUpTo ts ds is hs (i + 1)
one_more ts ds is hs i h l e p n = record {
  past = any_on (held_misplaces M.Past ts ds is) hs i h l e p.past n.past;
  stray = any_on (held_misplaces M.Stray ts ds is) hs i h l e p.stray n.stray;
  closed = any_on (held_escapes ts) hs i h l e p.closed n.closed;
}

pub all_plain : (ts : List Tree) (ds : List Declaration) (is : List Impl) (hs : List Held) (i : ℕ) → length hs ≤ i → NoneUpTo ts ds is hs i → AllArePlain ts ds is hs
all_plain ts ds is hs i l n = record {
  past = any_past (held_misplaces M.Past ts ds is) hs i l n.past;
  stray = any_past (held_misplaces M.Stray ts ds is) hs i l n.stray;
  closed = any_past (held_escapes ts) hs i l n.closed;
}
