-- What may stand in a declaration, told from the node alone in most cases.
use Rattle.std.specs.Prelude.{◌≡◌, ℕ, Bool, true, false, ◌||◌, List, Option, Some, slice_get}
use Rattle.std.specs.List.{list_any}
use Rattle.ir_trees.specs.declared.ir.heads.Head.{Head}
use Rattle.ir_trees.specs.declared.ir.kinds.TyKind.{TyKind}
use Rattle.ir_trees.specs.declared.ir.kinds.TyKind.TheVariants as T
use Rattle.ir_trees.specs.declared.ir.kinds.ConstKind.TheVariants as C
use Rattle.ir_trees.specs.declared.ir.kinds.RegionKind.TheVariants as R
use Rattle.ir_trees.specs.declared.ir.kinds.VarKind.{VarKind}
use Rattle.ir_trees.specs.declared.ir.kinds.VarKind.TheVariants as V
use Rattle.ir_trees.specs.declared.ir.node.Node.{Node}
use Rattle.ir_trees.specs.declared.ir.node.Node.TheVariants as N
use Rattle.ir_trees.specs.declared.decl.misplaced.Misplaced.TheVariants as M
use Rattle.ir_trees.specs.declared.decl.held.Held.{Held}
use Rattle.ir_trees.specs.Syntax.Binders.{is_beyond, tree_escapes}
use Rattle.ir_trees.specs.Syntax.Trees.{Tree}
use Rattle.ir_trees.specs.Declarations.Declaration.{Declaration}
use Rattle.ir_trees.specs.Declarations.Contents.{Impl}
use Rattle.ir_trees.specs.Validity.Misplaced.{is_misplaced, tree_misplaces, held_misplaces, held_escapes}

-- Where the parameters are of these kinds: it may not stand there, or is a bound variable.
abbrev pub is_doubtful : List VarKind → Head → Bool
is_doubtful ks h = is_misplaced M.Past ks h || (is_misplaced M.Stray ks h || is_beyond 0 h)

abbrev pub is_type : Option VarKind → Bool
is_type (Some V.Ty) = true
is_type _ = false

-- a type whose root is no variable, and no parameter but a type among these
abbrev pub ty_is_plain : List VarKind → TyKind → Bool
ty_is_plain ks (T.Param i) = is_type (slice_get ks i)
ty_is_plain ks (T.Placeholder _) = false
ty_is_plain ks (T.Bound _) = false
ty_is_plain ks (T.Infer _) = false
ty_is_plain ks _ = true

-- such a type, a static region, a number, or no argument
abbrev pub node_is_plain : List VarKind → Node → Bool
node_is_plain ks (N.Ty kind) = ty_is_plain ks kind
node_is_plain ks (N.Region R.Static) = true
node_is_plain ks (N.Region _) = false
node_is_plain ks (N.Const (C.Value _)) = true
node_is_plain ks (N.Const _) = false
node_is_plain ks _ = true

-- nothing in the tree is misplaced, and no bound variable stands in it, whichever binders it stands under
pub record TreeIsPlain (t : Tree) (ks : Option (List VarKind)) : Type 0 where
  pub past : tree_misplaces M.Past t ks ≡ false
  pub stray : tree_misplaces M.Stray t ks ≡ false
  pub closed : (n : ℕ) → tree_escapes n t ≡ false

-- nothing is misplaced in what is held, and no bound variable escapes from it
pub record HeldIsPlain (ts : List Tree) (ds : List Declaration) (is : List Impl) (h : Held) : Type 0 where
  pub past : held_misplaces M.Past ts ds is h ≡ false
  pub stray : held_misplaces M.Stray ts ds is h ≡ false
  pub closed : held_escapes ts h ≡ false

-- the same of all that is held
pub record AllArePlain (ts : List Tree) (ds : List Declaration) (is : List Impl) (hs : List Held) : Type 0 where
  pub past : list_any (held_misplaces M.Past ts ds is) hs ≡ false
  pub stray : list_any (held_misplaces M.Stray ts ds is) hs ≡ false
  pub closed : list_any (held_escapes ts) hs ≡ false
