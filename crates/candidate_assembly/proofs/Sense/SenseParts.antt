-- What a cell of the tables asks about a type of a state, and what that type is called with: trees of the state, under one binder.
use Rattle.std.proofs.Common.{◌≡◌, ◌+◌, ◌≤◌, ℕ, zero, suc, Bool, true, false, Option, Some, None, List, [], ◌∷◌, length, refl, ap, subst, arith, if◌then◌else◌}
use Rattle.std.specs.List.{All}
use Rattle.std.specs.Prelude.{◌&&◌, not}
use Rattle.std.proofs.lemmas.List.Elements.{All-cons, All-head, All-nil, All-tail}
use Rattle.ir_trees.specs.declared.decl.contents.Sizedness.{Sizedness}
use Rattle.ir_trees.specs.declared.decl.contents.Sizedness.TheVariants as Size
use Rattle.ir_trees.specs.declared.ir.heads.Builtin.{Builtin}
use Rattle.ir_trees.specs.declared.ir.heads.Builtin.TheVariants as B
use Rattle.ir_trees.specs.declared.ir.heads.Head.{Head}
use Rattle.ir_trees.specs.declared.ir.heads.Head.TheVariants as H
use Rattle.ir_trees.specs.declared.ir.heads.VariableSort.{VariableSort}
use Rattle.ir_trees.specs.declared.ir.heads.VariableSort.TheVariants as V
use Rattle.ir_trees.specs.declared.ir.kinds.AliasId.{AliasId}
use Rattle.ir_trees.specs.declared.ir.kinds.AliasKind.{AliasKind}
use Rattle.ir_trees.specs.declared.ir.kinds.AliasKind.TheVariants as AK
use Rattle.ir_trees.specs.declared.ir.kinds.Binder.{Binder}
use Rattle.ir_trees.specs.declared.ir.kinds.ClosureKind.{ClosureKind}
use Rattle.ir_trees.specs.declared.ir.kinds.ClosureKind.TheVariants as C
use Rattle.ir_trees.specs.declared.ir.kinds.FnSig.{FnSig}
use Rattle.ir_trees.specs.declared.ir.kinds.Ty.{Ty}
use Rattle.ir_trees.specs.Syntax.Binders.{escapes}
use Rattle.ir_trees.specs.Declarations.Contents.{AdtContents}
use Rattle.ir_trees.specs.Declarations.Context.{Context}
use Rattle.ir_trees.specs.Declarations.Declaring.{adt_at, no_place}
use Rattle.ir_trees.specs.Declarations.Lookups.{adt_flags, constraint, definition, fn_flags, fn_sig, hidden_type, maybe}
use Rattle.ir_trees.specs.Instantiation.Folding.{argument, substituted_tree}
use Rattle.ir_trees.specs.Unification.Substitutions.{alone}
use Rattle.ir_trees.specs.Syntax.Trees.{Forest, Kind, Tree, binders_of, holds, is_type, none, tree}
use Rattle.ir_trees.specs.Validity.WellFormed.{IsWellFormedTable}
use Rattle.ir_trees.specs.Syntax.Words.{ty_tree}
use Rattle.candidate_eval.specs.declared.structural.Column.{Column}
use Rattle.candidate_eval.specs.declared.structural.Column.TheVariants as Co
use Rattle.candidate_eval.specs.Builtins.Callable.{Callable, Calls, CalledWith, all_but_first, all_but_last, calls, closure_calls, extends, fn_ptr_calls, function_signature, head_calls, instance_calls, is_unknown, last_but_one, last_tree, pointer_callable, signature_callable, tuple_of, declared_signature}
use Rattle.candidate_eval.specs.Builtins.Callable as Calling
use Rattle.candidate_eval.specs.Builtins.Tables.{Asks, Cell, Excluded, Parts, Refused, alias_row, builtin_row, bytes, cell, constraint_types, field_types, first_of, hidden_types, is_manually_drop, is_phantom, last_of, optional, row, row_of, types_of, unsized, variable_row, with_args}
use Rattle.candidate_eval.specs.Judges.Soundness.{AreTreesOf, Live, is_strange}
use Rattle.candidate_eval.specs.Judges.States.{State}
use Rattle.candidate_eval.proofs.Marks.Closed.{binder-one, closed, closed-on, closed-parts, last-closed}
use Rattle.candidate_eval.proofs.Marks.Holds.{holds_parts}
use Rattle.candidate_eval.proofs.Marks.Marking.{argument-unmarked, but-last-unmarked, last-unmarked, unmarked}
use Rattle.candidate_assembly.specs.Laws.CallMarks.{signature-declared}
use Rattle.candidate_assembly.proofs.Refusals.KnownHeaders.{filled-closed, filled-unmarked}
use Rattle.candidate_assembly.proofs.Sense.SenseDeclared.{IsBare, TypeIsBare, adt-bare, hidden-bare, signature-bare}
use Rattle.candidate_assembly.proofs.Sense.SenseKinds.{declared-trees}
use Rattle.candidate_assembly.proofs.Sense.SenseNames.{named-closed, named-known}
use Rattle.candidate_eval.specs.Derivations.Naming.{named_tree}

-- The types that a cell asks about are such trees, where the types among the children are, and what is declared for them.
module _ (c : Context) (Q : Tree → Type 0) (bytes-are : Q bytes) where
  abbrev pub CellHas : Cell → Type 0
  CellHas (Asks p) = All Q p.types
  CellHas Excluded = Unit {0}
  CellHas Refused = Unit {0}

  -- what is declared of a type with that head, for its children as arguments
  abbrev pub DeclaresFor : Head → Forest → Type 0
  DeclaresFor (H.Adt i) below = All Q (field_types c i.0 below) × ((s : Sizedness) → All Q (constraint_types c i.0 below s))
  DeclaresFor (H.Alias AK.Opaque i) below = All Q (hidden_types c i.0 below)
  DeclaresFor _ below = Unit {0}

  none-asked : All Q []
  none-asked = All-nil Q

  last-among : (xs : List Tree) → All Q xs → All Q (last_of xs)
  last-among [] all = all
  last-among (x ∷ []) all = all
  last-among (x ∷ (y ∷ ys)) all = last-among (y ∷ ys) (All-tail Q x (y ∷ ys) all)

  first-among : (ts : Forest) → All Q (types_of ts) → All Q (first_of ts)
  first-among none all = none-asked
  first-among (tree h below rest) all = at (is_type h) all
    where
      here : Tree
      here = record { head = h; children = below }

      at : (b : Bool) → All Q (if b then here ∷ types_of rest else types_of rest) → All Q (if b then here ∷ [] else [])
      at true a = All-cons Q here [] (All-head Q here (types_of rest) a) none-asked
      at false a = none-asked

  bytes-among : All Q (bytes ∷ [])
  bytes-among = All-cons Q bytes [] bytes-are none-asked

  unsized-has : (s : Sizedness) → CellHas (unsized s)
  unsized-has Size.Sized = tt
  unsized-has Size.MetaSized = none-asked

  builtin-has : (o : Column) (b : Builtin) (below : Forest) → All Q (types_of below) → CellHas (cell o (builtin_row b below))
  builtin-has Co.Auto B.Str below a = bytes-among
  builtin-has (Co.Sizedness s) B.Str below a = unsized-has s
  builtin-has Co.Auto B.Slice below a = a
  builtin-has Co.Destruct B.Slice below a = a
  builtin-has (Co.Sizedness s) B.Slice below a = unsized-has s
  builtin-has Co.Auto B.Array below a = a
  builtin-has Co.Destruct B.Array below a = a
  builtin-has Co.Auto (B.Pat _) below a = a
  builtin-has Co.CopyClone (B.Pat _) below a = a
  builtin-has Co.Destruct (B.Pat _) below a = a
  builtin-has Co.Auto (B.RawPtr _) below a = a
  builtin-has Co.Auto B.Tuple below a = a
  builtin-has (Co.Sizedness s) B.Tuple below a = last-among (types_of below) a
  builtin-has Co.CopyClone B.Tuple below a = a
  builtin-has Co.Destruct B.Tuple below a = a
  builtin-has Co.Auto B.UnsafeBinder below a = a
  builtin-has (Co.Sizedness s) B.UnsafeBinder below a = a
  builtin-has Co.CopyClone (B.FnPtr _) below a = none-asked
  builtin-has Co.Destruct B.UnsafeBinder below a = tt
  builtin-has Co.Auto _ below a = none-asked
  builtin-has (Co.Sizedness s) _ below a = none-asked
  builtin-has Co.CopyClone _ below a = tt
  builtin-has Co.Destruct _ below a = none-asked

  nothing-has : (o : Column) (below : Forest) (i : _) → CellHas (cell o (row c (H.FnDef i) below))
  nothing-has Co.Auto below i = none-asked
  nothing-has (Co.Sizedness s) below i = none-asked
  nothing-has Co.CopyClone below i = none-asked
  nothing-has Co.Destruct below i = none-asked

  error-has : (o : Column) (below : Forest) → CellHas (cell o (row c H.Error below))
  error-has Co.Auto below = none-asked
  error-has (Co.Sizedness s) below = none-asked
  error-has Co.CopyClone below = none-asked
  error-has Co.Destruct below = none-asked

  variable-has : (o : Column) (v : VariableSort) → CellHas (cell o (variable_row v))
  variable-has Co.Auto V.Integer = tt
  variable-has Co.Auto V.Floating = tt
  variable-has Co.Auto _ = tt
  variable-has (Co.Sizedness s) V.Integer = none-asked
  variable-has (Co.Sizedness s) V.Floating = none-asked
  variable-has (Co.Sizedness s) _ = tt
  variable-has Co.CopyClone V.Integer = tt
  variable-has Co.CopyClone V.Floating = tt
  variable-has Co.CopyClone _ = tt
  variable-has Co.Destruct V.Integer = none-asked
  variable-has Co.Destruct V.Floating = none-asked
  variable-has Co.Destruct _ = tt

  either-of : (xs ys : List Tree) → All Q xs → All Q ys → (b : Bool) → All Q (if b then xs else ys)
  either-of xs ys p q true = p
  either-of xs ys p q false = q

  alias-has : (o : Column) (k : AliasKind) (i : AliasId) (below : Forest) → DeclaresFor (H.Alias k i) below → CellHas (cell o (alias_row c k i.0 below))
  alias-has Co.Auto AK.Opaque i below hidden = hidden
  alias-has (Co.Sizedness s) AK.Opaque i below hidden = tt
  alias-has Co.CopyClone AK.Opaque i below hidden = tt
  alias-has Co.Destruct AK.Opaque i below hidden = tt
  alias-has Co.Auto _ i below hidden = tt
  alias-has (Co.Sizedness s) _ i below hidden = tt
  alias-has Co.CopyClone _ i below hidden = tt
  alias-has Co.Destruct _ i below hidden = tt

  pub head-has : (o : Column) (h : Head) (below : Forest) → DeclaresFor h below → All Q (types_of below) → CellHas (cell o (row c h below))
  head-has o (H.Builtin b) below d a = builtin-has o b below a
  head-has o (H.FnDef i) below d a = nothing-has o below i
  head-has o H.Error below d a = error-has o below
  head-has o (H.Infer v) below d a = variable-has o v.sort
  head-has o (H.Alias k i) below d a = alias-has o k i below d
  head-has Co.Auto (H.Adt i) below d a = either-of (first_of below) (field_types c i.0 below) (first-among below a) d.0 (is_phantom (adt_flags (definition c i.0)))
  head-has (Co.Sizedness s) (H.Adt i) below d a = d.1 s
  head-has Co.CopyClone (H.Adt i) below d a = tt
  head-has Co.Destruct (H.Adt i) below d a = either-of [] (field_types c i.0 below) none-asked d.0 (is_manually_drop (adt_flags (definition c i.0)))
  head-has Co.Auto (H.Ref m) below d a = a
  head-has (Co.Sizedness s) (H.Ref m) below d a = none-asked
  head-has Co.CopyClone (H.Ref m) below d a = tt
  head-has Co.Destruct (H.Ref m) below d a = none-asked
  head-has Co.Auto (H.Closure i k) below d a = last-among (types_of below) a
  head-has (Co.Sizedness s) (H.Closure i k) below d a = none-asked
  head-has Co.CopyClone (H.Closure i k) below d a = last-among (types_of below) a
  head-has Co.Destruct (H.Closure i k) below d a = last-among (types_of below) a
  head-has Co.Auto (H.Foreign i) below d a = none-asked
  head-has (Co.Sizedness s) (H.Foreign i) below d a = tt
  head-has Co.CopyClone (H.Foreign i) below d a = tt
  head-has Co.Destruct (H.Foreign i) below d a = tt
  head-has Co.Auto H.Dynamic below d a = tt
  head-has (Co.Sizedness s) H.Dynamic below d a = unsized-has s
  head-has Co.CopyClone H.Dynamic below d a = tt
  head-has Co.Destruct H.Dynamic below d a = tt
  head-has Co.Auto _ below d a = tt
  head-has (Co.Sizedness s) _ below d a = tt
  head-has Co.CopyClone _ below d a = tt
  head-has Co.Destruct _ below d a = tt

pub but-last-closed : (n : ℕ) (ts : Forest) → escapes n ts ≡ false → escapes n (all_but_last ts) ≡ false
but-last-closed n none e = refl
but-last-closed n (tree h below none) e = refl
but-last-closed n (tree h below (tree g inner rest)) e =
    let p = closed-parts n h below (tree g inner rest) e in
    closed n h below (all_but_last (tree g inner rest)) p.here p.under (but-last-closed n (tree g inner rest) p.others)

-- Trees of the state, under one binder.
pub record AreUnderOne (S : State) (L : Live) (ts : Forest) : Type 0 where
  pub known : holds (is_strange S L) ts ≡ false
  pub is_closed : escapes 1 ts ≡ false

abbrev pub IsUnderOne : State → Live → Tree → Type 0
IsUnderOne S L t = AreUnderOne S L (alone t)

module _ (S : State) (L : Live) where
  pub under-one : (ts : Forest) → AreTreesOf S L ts → AreUnderOne S L ts
  under-one ts a = record { known = a.known; is_closed = closed-on 0 1 ts (omega arith) a.is_closed }

  -- what stands below a head
  pub below-head : (t : Tree) → AreTreesOf S L (alone t) → AreUnderOne S L t.children
  below-head t a =
      let p = holds_parts (is_strange S L) t.head t.children none a.known in
      let q = closed-parts 0 t.head t.children none a.is_closed in
      let few = binder-one t.head in
      record { known = p.under; is_closed = closed-on (0 + binders_of t.head) 1 t.children (omega (arith, few)) q.under }

  -- below one that binds nothing
  pub below-plain : (t : Tree) → binders_of t.head ≡ 0 → AreTreesOf S L (alone t) → AreTreesOf S L t.children
  below-plain t e a =
      let p = holds_parts (is_strange S L) t.head t.children none a.known in
      let q = closed-parts 0 t.head t.children none a.is_closed in
      record { known = p.under; is_closed = subst (λ n. escapes n t.children ≡ false) (ap (λ n. 0 + n) e) q.under }

  types-under : (ts : Forest) → AreUnderOne S L ts → All (IsUnderOne S L) (types_of ts)
  types-under none a = All-nil (IsUnderOne S L)
  types-under (tree h below rest) a =
      let p = holds_parts (is_strange S L) h below rest a.known in
      let q = closed-parts 1 h below rest a.is_closed in
      at (is_type h) (record { known = unmarked (is_strange S L) h below none p.here p.under refl; is_closed = closed 1 h below none q.here q.under refl })
      (types-under rest (record { known = p.others; is_closed = q.others }))
    where
      here : Tree
      here = record { head = h; children = below }

      at : (b : Bool) → IsUnderOne S L here → All (IsUnderOne S L) (types_of rest) → All (IsUnderOne S L) (if b then here ∷ types_of rest else types_of rest)
      at true n all = All-cons (IsUnderOne S L) here (types_of rest) n all
      at false n all = all

  -- What is declared, with trees of the state for its parameters, is of the state.

  pub put-trees : (args : Forest) (t : Tree) → AreTreesOf S L args → IsBare t → AreTreesOf S L (alone (substituted_tree args t))
  put-trees args t a b =
      let d = declared-trees S L (alone t) b.bare b.is_closed in
      record {
        known = filled-unmarked (is_strange S L) refl (λ v. refl) (λ v. refl) (λ v. refl) args a.known (is_strange S L) (λ h z. z) (alone t) d.known;
        is_closed = filled-closed args a.is_closed 0 0 (alone t) d.is_closed;
      }

  -- With names for the variables of the binder they are of the state.
  pub named-of : (ks : List Kind) (t : Tree) → IsUnderOne S L t → AreTreesOf S L (alone (named_tree 0 ks t))
  named-of ks t a = record { known = named-known 0 ks S L 0 (alone t) a.known; is_closed = named-closed 0 ks 0 (alone t) a.is_closed }

  module _ (c : Context) (w : IsWellFormedTable c) where
    with-args-under : (args : Forest) (xs : List Ty) → AreTreesOf S L args → All (TypeIsBare c w) xs → All (IsUnderOne S L) (with_args c args xs)
    with-args-under args [] a all = All-nil (IsUnderOne S L)
    with-args-under args (x ∷ xs) a all =
        let u = substituted_tree args (ty_tree c.trees x) in
        All-cons (IsUnderOne S L) u (with_args c args xs) (under-one (alone u) (put-trees args (ty_tree c.trees x) a (All-head (TypeIsBare c w) x xs all))) (with-args-under args xs a (All-tail (TypeIsBare c w) x xs all))

    module _ (few : length c.contents.adts ≤ no_place) where
      fields-under : (n : ℕ) (args : Forest) → AreTreesOf S L args → All (IsUnderOne S L) (field_types c n args)
      fields-under n args a = of (adt_at c n) refl
        where
          of : (o : Option AdtContents) → adt_at c n ≡ o → All (IsUnderOne S L) (with_args c args (maybe [] (λ x. x.fields) o))
          of None q = All-nil (IsUnderOne S L)
          of (Some x) q = with-args-under args x.fields a (adt-bare c w few n x q).fields

      constraints-under : (n : ℕ) (args : Forest) (s : Sizedness) → AreTreesOf S L args → All (IsUnderOne S L) (constraint_types c n args s)
      constraints-under n args s a = of (adt_at c n) refl
        where
          of : (o : Option AdtContents) → adt_at c n ≡ o → All (IsUnderOne S L) (with_args c args (optional (maybe None (constraint s) o)))
          of None q = All-nil (IsUnderOne S L)
          of (Some x) q = with-args-under args (optional (constraint s x)) a ((adt-bare c w few n x q).constraints s)

      declares : (t : Tree) → AreTreesOf S L (alone t) → DeclaresFor c (IsUnderOne S L) (record { known = refl; is_closed = refl }) t.head t.children
      declares t a = of t.head refl
        where
          of : (h : Head) → t.head ≡ h → DeclaresFor c (IsUnderOne S L) (record { known = refl; is_closed = refl }) h t.children
          of (H.Adt i) e = let args = below-plain t (ap binders_of e) a in (fields-under i.0 t.children args, λ s. constraints-under i.0 t.children s args)
          of (H.Alias AK.Opaque i) e = with-args-under t.children (optional (hidden_type (definition c i.0))) (below-plain t (ap binders_of e) a) (hidden-bare c w i.0)
          of (H.Alias _ i) e = tt
          of _ e = tt

      -- Parts.
      pub parts-under : (o : Column) (t : Tree) (p : Parts) → AreTreesOf S L (alone t) → cell o (row_of c t) ≡ Asks p → All (IsUnderOne S L) p.types
      parts-under o t p a e =
          subst (CellHas c (IsUnderOne S L) (record { known = refl; is_closed = refl })) e
          (head-has c (IsUnderOne S L) (record { known = refl; is_closed = refl }) o t.head t.children (declares t a) (types-under t.children (below-head t a)))

      -- the last field, if there is one
      pub fields-of : (n : ℕ) (args : Forest) → AreTreesOf S L args → All (IsUnderOne S L) (field_types c n args)
      fields-of n args a = fields-under n args a

    -- What is called.

    pub record CallIsUnder (s : Callable) : Type 0 where
      pub inputs : IsUnderOne S L s.inputs
      pub output : IsUnderOne S L s.output

    argument-under : (ts : Forest) (i : ℕ) → AreUnderOne S L ts → IsUnderOne S L (argument ts i)
    argument-under ts i a = record { known = argument-unmarked (is_strange S L) ts i refl a.known; is_closed = of ts i a.is_closed }
      where
        of : (ts : Forest) (i : ℕ) → escapes 1 ts ≡ false → escapes 1 (alone (argument ts i)) ≡ false
        of none i e = refl
        of (tree h below rest) zero e = let p = closed-parts 1 h below rest e in closed 1 h below none p.here p.under refl
        of (tree h below rest) (suc i) e = of rest i (closed-parts 1 h below rest e).others

    after-under : (ts : Forest) → AreUnderOne S L ts → AreUnderOne S L (all_but_first ts)
    after-under none a = a
    after-under (tree h below rest) a = record { known = (holds_parts (is_strange S L) h below rest a.known).others; is_closed = (closed-parts 1 h below rest a.is_closed).others }

    signature-under : (t : Tree) → AreTreesOf S L (alone t) → CallIsUnder (signature_callable t)
    signature-under t a = record { inputs = argument-under t.children 1 (below-head t a); output = argument-under t.children 2 (below-head t a) }

    pointer-under : (below : Forest) → AreUnderOne S L below → CallIsUnder (pointer_callable below)
    pointer-under below a =
        let ts = all_but_first below in
        let b = after-under below a in
        let most = all_but_last ts in
        record {
          inputs = record {
            known = unmarked (is_strange S L) (H.Builtin B.Tuple) most none refl (but-last-unmarked (is_strange S L) ts b.known) refl;
            is_closed = closed 1 (H.Builtin B.Tuple) most none refl (but-last-closed 1 ts b.is_closed) refl;
          };
          output = record { known = last-unmarked (is_strange S L) ts refl b.known; is_closed = last-closed 1 ts b.is_closed };
        }

    last-but-one : (ts : Forest) → AreTreesOf S L ts → AreTreesOf S L (alone (last_but_one ts))
    last-but-one none a = record { known = refl; is_closed = refl }
    last-but-one (tree h below none) a = record { known = refl; is_closed = refl }
    last-but-one (tree h below (tree g b none)) a =
        let p = holds_parts (is_strange S L) h below (tree g b none) a.known in
        let q = closed-parts 0 h below (tree g b none) a.is_closed in
        record { known = unmarked (is_strange S L) h below none p.here p.under refl; is_closed = closed 0 h below none q.here q.under refl }
    last-but-one (tree h below (tree g b (tree f d rest))) a =
        last-but-one (tree g b (tree f d rest))
        (record { known = (holds_parts (is_strange S L) h below (tree g b (tree f d rest)) a.known).others; is_closed = (closed-parts 0 h below (tree g b (tree f d rest)) a.is_closed).others })

    same-call : (s t : Callable) → CalledWith s ≡ CalledWith t → CallIsUnder s → CallIsUnder t
    same-call s t e h = let same : s ≡ t = cc in subst CallIsUnder same h

    called-if : (b : Bool) (s t : Callable) → (if b then CalledWith s else Calling.Refused) ≡ CalledWith t → CallIsUnder s → CallIsUnder t
    called-if true s t e h = same-call s t e h
    called-if false s t e h = absurd cc

    closure-call : (k : Option ClosureKind) (asked : ClosureKind) (s t : Callable) → closure_calls k asked s ≡ CalledWith t → CallIsUnder s → CallIsUnder t
    closure-call (Some k) asked s t e h = called-if (extends k asked) s t e h
    closure-call None C.FnOnce s t e h = same-call s t e h
    closure-call None C.Fn s t e h = absurd cc
    closure-call None C.FnMut s t e h = absurd cc

    pointer-call : (b : Builtin) (below : Forest) (s : Callable) → AreUnderOne S L below → fn_ptr_calls b below ≡ CalledWith s → CallIsUnder s
    pointer-call (B.FnPtr f) below s a e = called-if (f.safe && (f.rust_abi && not f.variadic)) (pointer_callable below) s e (pointer-under below a)
    pointer-call _ below s a e = absurd cc

    instance-call : (i : ℕ) (args : Forest) (o : Option (Binder FnSig)) (s : Callable) → function_signature c i ≡ o → AreTreesOf S L args → instance_calls c.trees args o ≡ CalledWith s → CallIsUnder s
    instance-call i args None s q a e = absurd cc
    instance-call i args (Some g) s q a e =
        let t = substituted_tree args (declared_signature c.trees g) in
        same-call (signature_callable t) s e
        (signature-under t (put-trees args (declared_signature c.trees g) a (signature-bare c w i g (signature-declared c.trees (fn_flags (definition c i)) (fn_sig (definition c i)) g q))))

    head-call : (asked : ClosureKind) (t : Tree) (h : Head) → t.head ≡ h → (s : Callable) → AreTreesOf S L (alone t) → head_calls c asked h t.children ≡ CalledWith s → CallIsUnder s
    head-call asked t (H.FnDef i) is s a e = instance-call i.0 t.children (function_signature c i.0) s refl (below-plain t (ap binders_of is) a) e
    head-call asked t (H.Builtin b) is s a e = pointer-call b t.children s (below-head t a) e
    head-call asked t (H.Closure i k) is s a e =
        closure-call k asked (signature_callable (last_but_one t.children)) s e (signature-under (last_but_one t.children) (last-but-one t.children (below-plain t (ap binders_of is) a)))
    head-call asked t _ is s a e = absurd cc

    pub call-under : (asked : ClosureKind) (t : Tree) (s : Callable) → AreTreesOf S L (alone t) → calls c asked t ≡ CalledWith s → CallIsUnder s
    call-under asked t s a e = of (is_unknown t.head) e
      where
        of : (b : Bool) → (if b then Calling.Excluded else head_calls c asked t.head t.children) ≡ CalledWith s → CallIsUnder s
        of true e = absurd cc
        of false e = head-call asked t t.head refl s a e
