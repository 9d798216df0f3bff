-- What may not stand in a declaration.
use Rattle.std.specs.Prelude.{Bool, true, false, not, List, ◌∷◌, Option, Some, None, slice_get, cond}
use Rattle.ir_trees.specs.declared.ir.heads.Head.{Head}
use Rattle.ir_trees.specs.declared.ir.heads.Head.TheVariants as H
use Rattle.ir_trees.specs.declared.ir.heads.ConstHead.TheVariants as C
use Rattle.ir_trees.specs.declared.ir.kinds.RegionKind.TheVariants as R
use Rattle.ir_trees.specs.declared.ir.kinds.VarKind.{VarKind}
use Rattle.ir_trees.specs.declared.ir.kinds.VarKind.TheVariants as V
use Rattle.ir_trees.specs.declared.ir.node.Node.{Node}
use Rattle.ir_trees.specs.declared.ir.node.Node.TheVariants as N
use Rattle.ir_trees.specs.declared.decl.misplaced.Misplaced.{Misplaced}
use Rattle.ir_trees.specs.declared.decl.misplaced.Misplaced.TheVariants as M
use Rattle.ir_trees.specs.declared.decl.held.Held.{Held}
use Rattle.ir_trees.specs.declared.decl.held.HeldSort.{HeldSort}
use Rattle.ir_trees.specs.declared.decl.held.HeldSort.TheVariants as S
use Rattle.ir_trees.specs.declared.decl.held.Owner.{Owner}
use Rattle.ir_trees.specs.declared.decl.held.Owner.TheVariants as O
use Rattle.ir_trees.specs.declared.decl.definition.DefinitionKind.{DefinitionKind}
use Rattle.ir_trees.specs.declared.decl.definition.DefinitionKind.TheVariants as D
use Rattle.ir_trees.specs.Syntax.Trees.{Kind, TypeKind, BinderKind, ArgumentsKind, ClauseKind, Tree, tree_holds}
use Rattle.ir_trees.specs.Syntax.Nodes.{tree_at, kind_at}
use Rattle.ir_trees.specs.Syntax.Binders.{tree_escapes}
use Rattle.ir_trees.specs.Declarations.Declaration.{Declaration}
use Rattle.ir_trees.specs.Declarations.Contents.{Impl}

-- whether a node of the kind is what is held
abbrev pub is_held_kind : HeldSort → Kind → Bool
is_held_kind S.Ty TypeKind = true
is_held_kind S.Args ArgumentsKind = true
is_held_kind S.Clause ClauseKind = true
is_held_kind S.Vars BinderKind = true
is_held_kind _ _ = false

abbrev pub is_held_node : HeldSort → Node → Bool
is_held_node S.Ty (N.Ty _) = true
is_held_node S.Args (N.Args _) = true
is_held_node S.Clause (N.Clause _) = true
is_held_node S.Vars (N.Vars _) = true
is_held_node _ _ = false

-- the number is that of no such node
abbrev pub is_not_given : List Tree → Held → Bool
is_not_given ts h = not (is_held_kind h.sort (kind_at ts h.number))

-- whether the parameters of a definition are counted from `Self` on
abbrev pub has_self : DefinitionKind → Bool
has_self (D.Trait flags n) = true
has_self (D.Assoc of kind sized n) = true
has_self _ = false

abbrev pub with_self : Bool → List VarKind → List VarKind
with_self true ks = V.Ty ∷ ks
with_self false ks = ks

abbrev pub is_same_kind : VarKind → VarKind → Bool
is_same_kind V.Ty V.Ty = true
is_same_kind V.Const V.Const = true
is_same_kind V.Region V.Region = true
is_same_kind _ _ = false

-- a parameter that isn't there, and one that is of another kind than is asked for
abbrev pub parameter_misplaced : Misplaced → VarKind → Option VarKind → Bool
parameter_misplaced M.Past k None = true
parameter_misplaced M.Past k (Some j) = false
parameter_misplaced M.Stray k None = false
parameter_misplaced M.Stray k (Some j) = not (is_same_kind k j)

abbrev pub is_stray : Misplaced → Bool
is_stray M.Past = false
is_stray M.Stray = true

-- Where the parameters are of these kinds: past them, a parameter with a higher number; stray, one of another kind, a
-- variable or a placeholder.
abbrev pub is_misplaced : Misplaced → List VarKind → Head → Bool
is_misplaced m ks (H.Param i) = parameter_misplaced m V.Ty (slice_get ks i)
is_misplaced m ks (H.Const (C.Param i)) = parameter_misplaced m V.Const (slice_get ks i)
is_misplaced m ks (H.Infer v) = is_stray m
is_misplaced m ks (H.Placeholder p) = is_stray m
is_misplaced m ks (H.Const (C.Placeholder p)) = is_stray m
is_misplaced m ks (H.Region (R.Placeholder p)) = is_stray m
is_misplaced m ks (H.Region (R.Var v)) = is_stray m
is_misplaced m ks _ = false

abbrev pub kinds_of_declared : Option Declaration → Option (List VarKind)
kinds_of_declared None = None
kinds_of_declared (Some d) = Some (with_self (has_self d.kind) d.parameters)

abbrev pub kinds_of_impl : Option Impl → Option (List VarKind)
kinds_of_impl None = None
kinds_of_impl (Some i) = Some i.parameters

-- the kinds of the parameters that what the owner holds may name
abbrev pub kinds_of_owner : List Declaration → List Impl → Owner → Option (List VarKind)
kinds_of_owner ds is (O.Definition i) = kinds_of_declared (slice_get ds i)
kinds_of_owner ds is (O.Impl i) = kinds_of_impl (slice_get is i)

abbrev pub tree_misplaces : Misplaced → Tree → Option (List VarKind) → Bool
tree_misplaces m t None = false
tree_misplaces m t (Some ks) = tree_holds (is_misplaced m ks) t

-- such a thing stands in what is held
abbrev pub held_misplaces : Misplaced → List Tree → List Declaration → List Impl → Held → Bool
held_misplaces m ts ds is h = tree_misplaces m (tree_at ts h.number) (kinds_of_owner ds is h.owner)

-- a bound variable stands in it that neither it nor the declaration binds
abbrev pub held_escapes : List Tree → Held → Bool
held_escapes ts h = tree_escapes (cond h.under_binder 1 0) (tree_at ts h.number)
