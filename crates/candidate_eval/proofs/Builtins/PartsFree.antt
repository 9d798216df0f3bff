-- The types that a cell of the tables asks about bear no mark that the type bears nowhere: no parameter, and no variable from a number on.
use Rattle.std.proofs.Common.{◌≡◌, ◌+◌, ℕ, List, [], ◌∷◌, ◌++◌, Bool, true, false, Option, Some, None, All, map, refl, sym, ◌∙◌, ap, subst, arith}
use Rattle.std.specs.Prelude.{◌==◌, IfSome, if◌then◌else◌, option_map, slice_get}
use Rattle.std.specs.List.{list_any}
use Rattle.std.specs.Option.{unwrap_or}
use Rattle.std.proofs.lemmas.List.Elements.{All-cons, All-head, All-nil, All-tail, All-weaker}
use Rattle.std.proofs.lemmas.Option.{slice_get-map}
use Rattle.ir_trees.specs.declared.decl.contents.Sizedness.{Sizedness}
use Rattle.ir_trees.specs.declared.decl.contents.Sizedness.TheVariants as S
use Rattle.ir_trees.specs.declared.decl.definition.AssocKind.{AssocKind}
use Rattle.ir_trees.specs.declared.decl.definition.AssocKind.TheVariants as A
use Rattle.ir_trees.specs.declared.decl.definition.DefinitionKind.{DefinitionKind}
use Rattle.ir_trees.specs.declared.decl.definition.DefinitionKind.TheVariants as D
use Rattle.ir_trees.specs.declared.ir.heads.Builtin.{Builtin}
use Rattle.ir_trees.specs.declared.ir.heads.Builtin.TheVariants as B
use Rattle.ir_trees.specs.declared.ir.heads.ConstHead.{ConstHead}
use Rattle.ir_trees.specs.declared.ir.heads.ConstHead.TheVariants as C
use Rattle.ir_trees.specs.declared.ir.heads.Head.{Head}
use Rattle.ir_trees.specs.declared.ir.heads.Head.TheVariants as H
use Rattle.ir_trees.specs.declared.ir.heads.Variable.{Variable}
use Rattle.ir_trees.specs.declared.ir.heads.VariableSort.{VariableSort}
use Rattle.ir_trees.specs.declared.ir.heads.VariableSort.TheVariants as V
use Rattle.ir_trees.specs.declared.ir.kinds.AliasId.{AliasId}
use Rattle.ir_trees.specs.declared.ir.kinds.AliasKind.{AliasKind}
use Rattle.ir_trees.specs.declared.ir.kinds.AliasKind.TheVariants as AK
use Rattle.ir_trees.specs.declared.ir.kinds.BoundVar.{BoundVar}
use Rattle.ir_trees.specs.declared.ir.kinds.RegionKind.TheVariants as R
use Rattle.ir_trees.specs.declared.ir.kinds.Ty.{Ty}
use Rattle.ir_trees.specs.declared.ir.kinds.VarKind.{VarKind}
use Rattle.ir_trees.specs.Declarations.Contents.{AdtContents}
use Rattle.ir_trees.specs.Declarations.Context.{Context, assoc_sort, definition_of, parameter_kind, sort_of, world}
use Rattle.ir_trees.specs.Declarations.Declaration.{Declaration}
use Rattle.ir_trees.specs.Declarations.Declaring.{adt_at, adt_place, place_of}
use Rattle.ir_trees.specs.Instantiation.Folding.{argument, fold, put, shift_tree, substituted_tree}
use Rattle.ir_trees.specs.Instantiation.Folds.{node}
use Rattle.ir_trees.specs.Validity.Held.{adt_held, definitions_held, held_type, held_types, impls_held, option_held}
use Rattle.ir_trees.specs.Declarations.Lookups.{adt_flags, constraint, definition, hidden_type, maybe}
use Rattle.ir_trees.specs.Validity.Misplaced.{has_self, kinds_of_declared, kinds_of_owner, with_self}
use Rattle.ir_trees.specs.Instantiation.Owned.{is_numbered, is_unsolved}
use Rattle.ir_trees.specs.Declarations.References.{Takes}
use Rattle.ir_trees.specs.Unification.Substitutions.{alone}
use Rattle.ir_trees.specs.Syntax.Trees.{Kind, Forest, none, tree, Tree, binders_of, holds, is_param, is_type, tree_holds, variable_number}
use Rattle.ir_trees.specs.Validity.WellFormed.{IsWellFormedTable}
use Rattle.ir_trees.specs.Syntax.Words.{ty_tree}
use Rattle.ir_trees.specs.Declarations.Worlds.{AdtSort, OpaqueSort, kinds_of, parameters, parameters_of, sort_number}
use Rattle.ir_trees.proofs.Instantiation.Folding.{begin, by_head, or-left, or-right}
use Rattle.ir_context.proofs.Instantiation.Declared.{hidden_is_closed}
use Rattle.ir_context.proofs.Instantiation.Owned.{none-stray}
use Rattle.ir_context.proofs.Validity.WellFormed.{any-of, any-right, definition-passes}
use Rattle.candidate_eval.specs.declared.structural.Column.{Column}
use Rattle.candidate_eval.specs.declared.structural.Column.TheVariants as Co
use Rattle.candidate_eval.specs.Derivations.Mentions.{IsBelow, is_at_least, is_from}
use Rattle.candidate_eval.specs.Builtins.Tables.{Asks, Cell, Excluded, Parts, Refused, alias_row, always, builtin_row, bytes, cell, cells, field_types, first_of, is_manually_drop, is_phantom, last_of, nothing, optional, row, row_of, types_of, unsized, variable_row, with_args}
use Rattle.candidate_eval.proofs.Marks.Holds.{holds_imply, holds_parts, or_false}
use Rattle.candidate_eval.proofs.Marks.Marking.{alone-unmarked, argument-unmarked, shift-unmarked, unmarked}

of-alone : (mark : Head → Bool) (t : Tree) → holds mark (alone t) ≡ false → tree_holds mark t ≡ false
of-alone mark t e = let p = holds_parts mark t.head t.children none e in rw (p.here, p.under) refl

abbrev Unmarked : (Head → Bool) → Tree → Type 0
Unmarked mark t = tree_holds mark t ≡ false

-- Arguments without the mark, put into trees whose heads bear none but where a parameter stands.
module _ (mark other : Head → Bool) (ty : (v : BoundVar) → mark (H.Bound v) ≡ false) (constant : (v : BoundVar) → mark (H.Const (C.Bound v)) ≡ false) (region : (v : BoundVar) → mark (H.Region (R.Bound v)) ≡ false)
    (error : mark H.Error ≡ false) (stays : (h : Head) → other h ≡ false → is_param h ≡ false → mark h ≡ false) (args : Forest) (given : holds mark args ≡ false) where
  abbrev HasNoMark : Option Tree → Head → Type 0
  HasNoMark None h = mark h ≡ false
  HasNoMark (Some u) h = holds mark (alone u) ≡ false

  put-unmarked : (d i : ℕ) → holds mark (alone (shift_tree d (argument args i))) ≡ false
  put-unmarked d i = shift-unmarked mark ty constant region d (argument args i) (argument-unmarked mark args i error given)

  head-unmarked : (d : ℕ) (h : Head) → other h ≡ false → HasNoMark (put args d h) h
  head-unmarked d (H.Param i) e = put-unmarked d i
  head-unmarked d (H.Const c) e = at c e
    where
      at : (c : ConstHead) → other (H.Const c) ≡ false → HasNoMark (put args d (H.Const c)) (H.Const c)
      at (C.Param i) e = put-unmarked d i
      at c e = stays (H.Const c) e refl
  head-unmarked d h e = stays h e refl

  filled-unmarked : (d : ℕ) (ts : Forest) → holds other ts ≡ false → holds mark (fold (by_head (put args)) d ts) ≡ false
  filled-unmarked d none e = refl
  filled-unmarked d (tree h below rest) e =
      let p = holds_parts other h below rest e in
      at (put args d h) (head-unmarked d h p.here) (filled-unmarked (d + binders_of h) below p.under) (filled-unmarked d rest p.others)
    where
      at : (o : Option Tree) → HasNoMark o h → holds mark (fold (by_head (put args)) (d + binders_of h) below) ≡ false → holds mark (fold (by_head (put args)) d rest) ≡ false
          → holds mark (begin (unwrap_or o (node h (fold (by_head (put args)) (d + binders_of h) below))) (fold (by_head (put args)) d rest)) ≡ false
      at None n under others = unmarked mark h (fold (by_head (put args)) (d + binders_of h) below) (fold (by_head (put args)) d rest) n under others
      at (Some u) n under others =
          let p = holds_parts mark u.head u.children none n in
          unmarked mark u.head u.children (fold (by_head (put args)) d rest) p.here p.under others

  pub substituted-unmarked : (t : Tree) → tree_holds other t ≡ false → tree_holds mark (substituted_tree args t) ≡ false
  substituted-unmarked t e = of-alone mark (substituted_tree args t) (filled-unmarked 0 (alone t) (alone-unmarked other t e))

-- Types among trees without the mark.

types-unmarked : (mark : Head → Bool) (ts : Forest) → holds mark ts ≡ false → All (Unmarked mark) (types_of ts)
types-unmarked mark none e = All-nil (Unmarked mark)
types-unmarked mark (tree h below rest) e =
    let p = holds_parts mark h below rest e in
    at (is_type h) (rw (p.here, p.under) refl) (types-unmarked mark rest p.others)
  where
    here : Tree
    here = record { head = h; children = below }

    at : (b : Bool) → Unmarked mark here → All (Unmarked mark) (types_of rest) → All (Unmarked mark) (if b then here ∷ types_of rest else types_of rest)
    at true n all = All-cons (Unmarked mark) here (types_of rest) n all
    at false n all = all

first-unmarked : (mark : Head → Bool) (ts : Forest) → holds mark ts ≡ false → All (Unmarked mark) (first_of ts)
first-unmarked mark none e = All-nil (Unmarked mark)
first-unmarked mark (tree h below rest) e = let p = holds_parts mark h below rest e in at (is_type h) (rw (p.here, p.under) refl)
  where
    here : Tree
    here = record { head = h; children = below }

    at : (b : Bool) → Unmarked mark here → All (Unmarked mark) (if b then here ∷ [] else [])
    at true n = All-cons (Unmarked mark) here [] n (All-nil (Unmarked mark))
    at false n = All-nil (Unmarked mark)

last-of-all : {X : Type 0} (P : X → Type 0) (xs : List X) → All P xs → All P (last_of xs)
last-of-all P [] all = all
last-of-all P (x ∷ []) all = all
last-of-all P (x ∷ (y ∷ ys)) all = last-of-all P (y ∷ ys) (All-tail P x (y ∷ ys) all)

-- The cells, of types without the mark, where what is declared may have it nowhere but in parameters.
module _ (c : Context) (mark : Head → Bool) (builtin : (b : Builtin) → mark (H.Builtin b) ≡ false) (Closed : Ty → Type 0)
    (put-in : (args : Forest) (x : Ty) → holds mark args ≡ false → Closed x → Unmarked mark (substituted_tree args (ty_tree c.trees x))) where
  abbrev CellUnmarked : Cell → Type 0
  CellUnmarked (Asks p) = All (Unmarked mark) p.types
  CellUnmarked Excluded = Unit {0}
  CellUnmarked Refused = Unit {0}

  -- what is declared of a type with that head is closed
  abbrev pub AreClosed : Head → Type 0
  AreClosed (H.Adt i) = All Closed (maybe [] (λ a. a.fields) (adt_at c i.0)) × ((s : Sizedness) → All Closed (optional (maybe None (constraint s) (adt_at c i.0))))
  AreClosed (H.Alias AK.Opaque i) = All Closed (optional (hidden_type (definition c i.0)))
  AreClosed _ = Unit {0}

  with-unmarked : (args : Forest) (xs : List Ty) → holds mark args ≡ false → All Closed xs → All (Unmarked mark) (with_args c args xs)
  with-unmarked args [] e all = All-nil (Unmarked mark)
  with-unmarked args (x ∷ xs) e all =
      All-cons (Unmarked mark) (substituted_tree args (ty_tree c.trees x)) (with_args c args xs) (put-in args x e (All-head Closed x xs all)) (with-unmarked args xs e (All-tail Closed x xs all))

  nothing-unmarked : All (Unmarked mark) []
  nothing-unmarked = All-nil (Unmarked mark)

  bytes-unmarked : All (Unmarked mark) (bytes ∷ [])
  bytes-unmarked = All-cons (Unmarked mark) bytes [] (rw (builtin B.Slice) (rw (builtin (B.Uint _)) refl)) nothing-unmarked

  unsized-unmarked : (s : Sizedness) → CellUnmarked (unsized s)
  unsized-unmarked S.Sized = tt
  unsized-unmarked S.MetaSized = nothing-unmarked

  builtin-unmarked : (o : Column) (b : Builtin) (below : Forest) → holds mark below ≡ false → CellUnmarked (cell o (builtin_row b below))
  builtin-unmarked Co.Auto B.Str below e = bytes-unmarked
  builtin-unmarked (Co.Sizedness s) B.Str below e = unsized-unmarked s
  builtin-unmarked Co.Auto B.Slice below e = types-unmarked mark below e
  builtin-unmarked Co.Destruct B.Slice below e = types-unmarked mark below e
  builtin-unmarked (Co.Sizedness s) B.Slice below e = unsized-unmarked s
  builtin-unmarked Co.Auto B.Array below e = types-unmarked mark below e
  builtin-unmarked Co.Destruct B.Array below e = types-unmarked mark below e
  builtin-unmarked Co.Auto (B.Pat _) below e = types-unmarked mark below e
  builtin-unmarked Co.CopyClone (B.Pat _) below e = types-unmarked mark below e
  builtin-unmarked Co.Destruct (B.Pat _) below e = types-unmarked mark below e
  builtin-unmarked Co.Auto (B.RawPtr _) below e = types-unmarked mark below e
  builtin-unmarked Co.Auto B.Tuple below e = types-unmarked mark below e
  builtin-unmarked (Co.Sizedness s) B.Tuple below e = last-of-all (Unmarked mark) (types_of below) (types-unmarked mark below e)
  builtin-unmarked Co.CopyClone B.Tuple below e = types-unmarked mark below e
  builtin-unmarked Co.Destruct B.Tuple below e = types-unmarked mark below e
  builtin-unmarked Co.Auto B.UnsafeBinder below e = types-unmarked mark below e
  builtin-unmarked (Co.Sizedness s) B.UnsafeBinder below e = types-unmarked mark below e
  builtin-unmarked Co.CopyClone (B.FnPtr _) below e = nothing-unmarked
  builtin-unmarked Co.Destruct B.UnsafeBinder below e = tt
  builtin-unmarked Co.Auto _ below e = nothing-unmarked
  builtin-unmarked (Co.Sizedness s) _ below e = nothing-unmarked
  builtin-unmarked Co.CopyClone _ below e = tt
  builtin-unmarked Co.Destruct _ below e = nothing-unmarked

  quiet : (o : Column) → CellUnmarked (cell o (cells nothing (always nothing) nothing nothing))
  quiet Co.Auto = nothing-unmarked
  quiet (Co.Sizedness s) = nothing-unmarked
  quiet Co.CopyClone = nothing-unmarked
  quiet Co.Destruct = nothing-unmarked

  variable-unmarked : (o : Column) (v : VariableSort) → CellUnmarked (cell o (variable_row v))
  variable-unmarked Co.Auto V.Integer = tt
  variable-unmarked Co.Auto V.Floating = tt
  variable-unmarked Co.Auto _ = tt
  variable-unmarked (Co.Sizedness s) V.Integer = nothing-unmarked
  variable-unmarked (Co.Sizedness s) V.Floating = nothing-unmarked
  variable-unmarked (Co.Sizedness s) _ = tt
  variable-unmarked Co.CopyClone V.Integer = tt
  variable-unmarked Co.CopyClone V.Floating = tt
  variable-unmarked Co.CopyClone _ = tt
  variable-unmarked Co.Destruct V.Integer = nothing-unmarked
  variable-unmarked Co.Destruct V.Floating = nothing-unmarked
  variable-unmarked Co.Destruct _ = tt

  owned-unmarked : (i : ℕ) (below : Forest) → holds mark below ≡ false → All Closed (maybe [] (λ a. a.fields) (adt_at c i)) → (b : Bool)
      → All (Unmarked mark) (if b then first_of below else field_types c i below)
  owned-unmarked i below e fields true = first-unmarked mark below e
  owned-unmarked i below e fields false = with-unmarked below (maybe [] (λ a. a.fields) (adt_at c i)) e fields

  dropped-unmarked : (i : ℕ) (below : Forest) → holds mark below ≡ false → All Closed (maybe [] (λ a. a.fields) (adt_at c i)) → (b : Bool)
      → All (Unmarked mark) (if b then [] else field_types c i below)
  dropped-unmarked i below e fields true = nothing-unmarked
  dropped-unmarked i below e fields false = with-unmarked below (maybe [] (λ a. a.fields) (adt_at c i)) e fields

  alias-unmarked : (o : Column) (k : AliasKind) (i : AliasId) (below : Forest) → AreClosed (H.Alias k i) → holds mark below ≡ false → CellUnmarked (cell o (alias_row c k i.0 below))
  alias-unmarked Co.Auto AK.Opaque i below hidden e = with-unmarked below (optional (hidden_type (definition c i.0))) e hidden
  alias-unmarked (Co.Sizedness s) AK.Opaque i below hidden e = tt
  alias-unmarked Co.CopyClone AK.Opaque i below hidden e = tt
  alias-unmarked Co.Destruct AK.Opaque i below hidden e = tt
  alias-unmarked Co.Auto _ i below hidden e = tt
  alias-unmarked (Co.Sizedness s) _ i below hidden e = tt
  alias-unmarked Co.CopyClone _ i below hidden e = tt
  alias-unmarked Co.Destruct _ i below hidden e = tt

  head-cell : (o : Column) (h : Head) (below : Forest) → AreClosed h → holds mark below ≡ false → CellUnmarked (cell o (row c h below))
  head-cell o (H.Builtin b) below a e = builtin-unmarked o b below e
  head-cell o (H.FnDef i) below a e = quiet o
  head-cell o H.Error below a e = quiet o
  head-cell o (H.Infer v) below a e = variable-unmarked o v.sort
  head-cell o (H.Alias k i) below a e = alias-unmarked o k i below a e
  head-cell Co.Auto (H.Adt i) below a e = owned-unmarked i.0 below e a.0 (is_phantom (adt_flags (definition c i.0)))
  head-cell (Co.Sizedness s) (H.Adt i) below a e = with-unmarked below (optional (maybe None (constraint s) (adt_at c i.0))) e (a.1 s)
  head-cell Co.CopyClone (H.Adt i) below a e = tt
  head-cell Co.Destruct (H.Adt i) below a e = dropped-unmarked i.0 below e a.0 (is_manually_drop (adt_flags (definition c i.0)))
  head-cell Co.Auto (H.Ref m) below a e = types-unmarked mark below e
  head-cell (Co.Sizedness s) (H.Ref m) below a e = nothing-unmarked
  head-cell Co.CopyClone (H.Ref m) below a e = tt
  head-cell Co.Destruct (H.Ref m) below a e = nothing-unmarked
  head-cell Co.Auto (H.Closure i k) below a e = last-of-all (Unmarked mark) (types_of below) (types-unmarked mark below e)
  head-cell (Co.Sizedness s) (H.Closure i k) below a e = nothing-unmarked
  head-cell Co.CopyClone (H.Closure i k) below a e = last-of-all (Unmarked mark) (types_of below) (types-unmarked mark below e)
  head-cell Co.Destruct (H.Closure i k) below a e = last-of-all (Unmarked mark) (types_of below) (types-unmarked mark below e)
  head-cell Co.Auto (H.Foreign i) below a e = nothing-unmarked
  head-cell (Co.Sizedness s) (H.Foreign i) below a e = tt
  head-cell Co.CopyClone (H.Foreign i) below a e = tt
  head-cell Co.Destruct (H.Foreign i) below a e = tt
  head-cell Co.Auto H.Dynamic below a e = tt
  head-cell (Co.Sizedness s) H.Dynamic below a e = unsized-unmarked s
  head-cell Co.CopyClone H.Dynamic below a e = tt
  head-cell Co.Destruct H.Dynamic below a e = tt
  head-cell Co.Auto _ below a e = tt
  head-cell (Co.Sizedness s) _ below a e = tt
  head-cell Co.CopyClone _ below a e = tt
  head-cell Co.Destruct _ below a e = tt

  pub parts-unmarked : (o : Column) (t : Tree) (p : Parts) → AreClosed t.head → tree_holds mark t ≡ false → cell o (row_of c t) ≡ Asks p → All (λ u. tree_holds mark u ≡ false) p.types
  parts-unmarked o t p a e is = subst CellUnmarked is (head-cell o t.head t.children a (or_false (mark t.head) (holds mark t.children) e).1)

-- No parameter.

no-mark : (ts : Forest) → holds (λ _. false) ts ≡ false
no-mark none = refl
no-mark (tree h below rest) = rw (no-mark below) (no-mark rest)

pub put-parameterless : (args : Forest) (t : Tree) → holds is_param args ≡ false → tree_holds is_param (substituted_tree args t) ≡ false
put-parameterless args t e = substituted-unmarked is_param (λ _. false) (λ v. refl) (λ v. refl) (λ v. refl) refl (λ h o p. p) args e t (no-mark t.children)

pub parts-parameterless : (c : Context) (o : Column) (t : Tree) (p : Parts) → tree_holds is_param t ≡ false → cell o (row_of c t) ≡ Asks p → All (λ u. tree_holds is_param u ≡ false) p.types
parts-parameterless c o t p e is =
    parts-unmarked c is_param (λ b. refl) (λ _. Unit {0}) (λ args x g _. put-parameterless args (ty_tree c.trees x) g) o t p (closed t.head) e is
  where
    any : (xs : List Ty) → All (λ _. Unit {0}) xs
    any xs = λ k d l. tt

    closed : (h : Head) → AreClosed c is_param (λ b. refl) (λ _. Unit {0}) (λ args x g _. put-parameterless args (ty_tree c.trees x) g) h
    closed (H.Adt i) = (any (maybe [] (λ a. a.fields) (adt_at c i.0)), λ s. any (optional (maybe None (constraint s) (adt_at c i.0))))
    closed (H.Alias AK.Opaque i) = any (optional (hidden_type (definition c i.0)))
    closed (H.Alias _ i) = tt
    closed _ = tt

-- No variable stands in what is declared.

unsolved-free : (mark : Head → Bool) (t : Tree) → holds mark t.children ≡ false → mark t.head ≡ false → ((v : Variable) → mark (H.Infer v) ≡ true) → ((n : ℕ) → mark (H.Region (R.Var n)) ≡ true)
    → tree_holds is_unsolved t ≡ false
unsolved-free mark t under here-not terms regions = of-alone is_unsolved t (holds_imply mark is_unsolved here (alone t) (unmarked mark t.head t.children none here-not under refl))
  where
    here : (h : Head) → mark h ≡ false → is_unsolved h ≡ false
    here (H.Infer v) n = let z : true ≡ false = sym (terms v) ∙ n in absurd cc
    here (H.Region (R.Var k)) n = let z : true ≡ false = sym (regions k) ∙ n in absurd cc
    here _ n = refl

each-held : {X : Type 0} (f : X → Bool) (held : Ty → X) (xs : List Ty) → list_any f (map held xs) ≡ false → All (λ x. f (held x) ≡ false) xs
each-held f held [] e = All-nil (λ x. f (held x) ≡ false)
each-held f held (x ∷ xs) e = let p = or_false (f (held x)) (list_any f (map held xs)) e in All-cons (λ y. f (held y) ≡ false) x xs p.0 (each-held f held xs p.1)

abbrev IsClosed : Context → Ty → Type 0
IsClosed c x = tree_holds is_unsolved (ty_tree c.trees x) ≡ false

each-option : (w : _) (f : _) (o : Option Ty) → list_any f (option_held w o) ≡ false → All (λ x. f (held_type w x) ≡ false) (optional o)
each-option w f None e = All-nil (λ x. f (held_type w x) ≡ false)
each-option w f (Some x) e = All-cons (λ y. f (held_type w y) ≡ false) x [] (or-left (f (held_type w x)) false e) (All-nil (λ y. f (held_type w y) ≡ false))

abbrev AdtHas : (Ty → Type 0) → AdtContents → Type 0
AdtHas P a = All P a.fields × All P (optional a.sized) × All P (optional a.meta_sized)

each-of-adt : (w : _) (f : _) (a : AdtContents) → list_any f (adt_held w a) ≡ false → AdtHas (λ x. f (held_type w x) ≡ false) a
each-of-adt w f a e =
    let rest = any-right f (held_types w a.fields) (option_held w a.sized ++ option_held w a.meta_sized) e in (
      each-held f (held_type w) a.fields (any-of f (held_types w a.fields) (option_held w a.sized ++ option_held w a.meta_sized) e),
      each-option w f a.sized (any-of f (option_held w a.sized) (option_held w a.meta_sized) rest),
      each-option w f a.meta_sized (any-right f (option_held w a.sized) (option_held w a.meta_sized) rest),
    )

adt-has-closed : (c : Context) (w : _) (f : _) (a : AdtContents) → list_any f (adt_held w a) ≡ false → ((x : Ty) → f (held_type w x) ≡ false → IsClosed c x) → AdtHas (IsClosed c) a
adt-has-closed c w f a e closed =
    let all = each-of-adt w f a e in
    let weaker = All-weaker (λ x. f (held_type w x) ≡ false) (IsClosed c) closed in
    (weaker a.fields all.0, weaker (optional a.sized) all.1, weaker (optional a.meta_sized) all.2)

-- What a data type holds, where nothing that is held is so, and what is not so among parameters of some kinds is closed.
adt-owned : (c : Context) (f : _) → list_any f (definitions_held c.contents 0 c.declarations) ≡ false
    → ((w : _) (ks : List VarKind) (x : Ty) → kinds_of_owner c.declarations c.contents.impls w ≡ Some ks → f (held_type w x) ≡ false → IsClosed c x)
    → (n : ℕ) (ks : List Kind) → parameters (world c) AdtSort n ≡ Some ks → (a : AdtContents) → adt_at c n ≡ Some a → AdtHas (IsClosed c) a
adt-owned c f none-is closed n ks p a s = of (slice_get c.declarations n) refl
  where
    there : (o : Option Declaration) → slice_get c.declarations n ≡ o → parameters_of AdtSort (option_map definition_of o) ≡ Some ks
    there o q = sym (ap (parameters_of AdtSort) (slice_get-map definition_of c.declarations n ∙ ap (option_map definition_of) q)) ∙ p

    other : (d : Declaration) → slice_get c.declarations n ≡ Some d → sort_number (sort_of d.kind) == 0 ≡ false → AdtHas (IsClosed c) a
    other d q e =
        let z : None ≡ Some ks = sym (ap (λ (b : Bool). if b then Some (map parameter_kind d.parameters) else None) e) ∙ there (Some d) q in
        absurd cc

    kinds : (d : Declaration) → slice_get c.declarations n ≡ Some d → (y : DefinitionKind) → d.kind ≡ y → AdtHas (IsClosed c) a
    kinds d q (D.Adt h g k) i =
        let at : slice_get c.contents.adts k ≡ Some a =
        sym (ap (λ (o : Option Declaration). slice_get c.contents.adts (place_of adt_place o)) q ∙ ap (λ (y : DefinitionKind). slice_get c.contents.adts (adt_place y)) i) ∙ s in
        let own = definition-passes f c.contents 0 c.declarations n n d none-is q (omega arith) in
        let here = rw (i, at) at own in
        adt-has-closed c _ f a here (λ x e. closed _ (with_self (has_self d.kind) d.parameters) x (ap kinds_of_declared q) e)
    kinds d q (D.Trait _ _) i = other d q (ap (λ (y : DefinitionKind). sort_number (sort_of y) == 0) i)
    kinds d q D.Foreign i = other d q (ap (λ (y : DefinitionKind). sort_number (sort_of y) == 0) i)
    kinds d q (D.Assoc _ a _ _) i = other d q (ap (λ (y : DefinitionKind). sort_number (sort_of y) == 0) i ∙ assoc a)
      where
        assoc : (k : AssocKind) → sort_number (assoc_sort k) == 0 ≡ false
        assoc A.Type = refl
        assoc A.Const = refl
    kinds d q (D.Alias _) i = other d q (ap (λ (y : DefinitionKind). sort_number (sort_of y) == 0) i)
    kinds d q (D.Opaque _ _) i = other d q (ap (λ (y : DefinitionKind). sort_number (sort_of y) == 0) i)
    kinds d q (D.Function _ _) i = other d q (ap (λ (y : DefinitionKind). sort_number (sort_of y) == 0) i)
    kinds d q (D.Closure _) i = other d q (ap (λ (y : DefinitionKind). sort_number (sort_of y) == 0) i)

    of : (o : Option Declaration) → slice_get c.declarations n ≡ o → AdtHas (IsClosed c) a
    of None q = let z : None ≡ Some ks = there None q in absurd cc
    of (Some d) q = kinds d q d.kind refl

adt-closed : (c : Context) → IsWellFormedTable c → (n : ℕ) (ks : List Kind) → parameters (world c) AdtSort n ≡ Some ks → (a : AdtContents) → adt_at c n ≡ Some a → AdtHas (IsClosed c) a
adt-closed c t =
    adt-owned c _ (any-of _ (definitions_held c.contents 0 c.declarations) (impls_held 0 c.contents.impls) (none-stray c t))
    (λ w ks x owner e. let none-is = rw owner at e in unsolved-free _ (ty_tree c.trees x) (or-right _ _ none-is) (or-left _ _ none-is) (λ v. refl) (λ n. refl))

-- Nor in the type that an opaque type hides.

abbrev OpaqueIsClosed : Context → ℕ → Type 0
OpaqueIsClosed c n = All (IsClosed c) (optional (hidden_type (definition c n)))

opaque-closed : (c : Context) → IsWellFormedTable c → (n : ℕ) (args : Forest) → parameters (world c) OpaqueSort n ≡ Some (kinds_of args) → OpaqueIsClosed c n
opaque-closed c t n args p = of (hidden_type (definition c n)) (hidden_is_closed c t n args p (hidden_type (definition c n)) refl)
  where
    of : (o : Option Ty) → IfSome o (IsClosed c) → All (IsClosed c) (optional o)
    of None e = All-nil (IsClosed c)
    of (Some x) e = All-cons (IsClosed c) x [] e (All-nil (IsClosed c))

from-unsolved : (n : ℕ) (h : Head) → is_unsolved h ≡ false → is_param h ≡ false → is_from n h ≡ false
from-unsolved n h e p = at (variable_number h) e
  where
    at : (o : Option ℕ) → is_numbered o ≡ false → is_at_least n o ≡ false
    at None e = refl
    at (Some m) e = absurd cc

pub put-below : (n : ℕ) (args : Forest) (t : Tree) → IsBelow n args → tree_holds is_unsolved t ≡ false → tree_holds (is_from n) (substituted_tree args t) ≡ false
put-below n args t e u = substituted-unmarked (is_from n) is_unsolved (λ v. refl) (λ v. refl) (λ v. refl) refl (from-unsolved n) args e t u

pub parts-below : (n : ℕ) (c : Context) (o : Column) (t : Tree) (p : Parts) → IsWellFormedTable c → Takes (world c) t → IsBelow n (alone t) → cell o (row_of c t) ≡ Asks p
    → All (λ u. IsBelow n (alone u)) p.types
parts-below n c o t p w takes e is =
    All-weaker (λ u. tree_holds (is_from n) u ≡ false) (λ u. IsBelow n (alone u)) (λ u f. alone-unmarked (is_from n) u f) p.types
    (parts-unmarked c (is_from n) (λ b. refl) (IsClosed c) (λ args x g u. put-below n args (ty_tree c.trees x) g u) o t p (closed t.head t.children takes) (of-alone (is_from n) t e) is)
  where
    closed : (h : Head) (below : Forest) → Takes (world c) (node h below) → AreClosed c (is_from n) (λ b. refl) (IsClosed c) (λ args x g u. put-below n args (ty_tree c.trees x) g u) h
    closed (H.Adt i) below takes = of (adt_at c i.0) refl
      where
        of : (o : Option AdtContents) → adt_at c i.0 ≡ o → All (IsClosed c) (maybe [] (λ a. a.fields) o) × ((s : Sizedness) → All (IsClosed c) (optional (maybe None (constraint s) o)))
        of None q = (All-nil (IsClosed c), λ s. All-nil (IsClosed c))
        of (Some a) q =
            let all = adt-closed c w i.0 (kinds_of below) (takes refl) a q in
            (all.0, λ s. sized s all.1 all.2)
          where
            sized : (s : Sizedness) → All (IsClosed c) (optional a.sized) → All (IsClosed c) (optional a.meta_sized) → All (IsClosed c) (optional (constraint s a))
            sized S.Sized one other = one
            sized S.MetaSized one other = other
    closed (H.Alias AK.Opaque i) below takes = opaque-closed c w i.0 below (takes refl)
    closed (H.Alias _ i) below takes = tt
    closed _ below takes = tt
