-- What can be called with what: no mark stands in that where none stands in what is called, nor in what is declared of functions.
use Rattle.std.proofs.Common.{◌≡◌, ℕ, Bool, true, false, List, Option, Some, None, refl, subst}
use Rattle.std.specs.Prelude.{◌&&◌, if◌then◌else◌, not}
use Rattle.ir_trees.specs.declared.decl.definition.FnFlags.{FnFlags}
use Rattle.ir_trees.specs.declared.ir.heads.Builtin.{Builtin}
use Rattle.ir_trees.specs.declared.ir.heads.Builtin.TheVariants as B
use Rattle.ir_trees.specs.declared.ir.heads.Head.{Head}
use Rattle.ir_trees.specs.declared.ir.heads.Head.TheVariants as H
use Rattle.ir_trees.specs.declared.ir.kinds.Binder.{Binder}
use Rattle.ir_trees.specs.declared.ir.kinds.ClosureKind.{ClosureKind}
use Rattle.ir_trees.specs.declared.ir.kinds.ClosureKind.TheVariants as C
use Rattle.ir_trees.specs.declared.ir.kinds.FnSig.{FnSig}
use Rattle.ir_trees.specs.Declarations.Context.{Context}
use Rattle.ir_trees.specs.Instantiation.Folding.{substituted_tree}
use Rattle.ir_trees.specs.Declarations.Lookups.{definition, fn_flags, fn_sig}
use Rattle.ir_trees.specs.Syntax.Trees.{Forest, none, tree, Tree, holds, tree_holds}
use Rattle.candidate_eval.specs.Builtins.Callable.{Callable, CalledWith, Excluded, Refused, all_but_first, all_but_last, calls, can_be_called, closure_calls, declared_signature, extends, fn_ptr_calls, function_signature, head_calls, instance_calls, is_unknown, last_but_one, pointer_callable, signature_callable, signature_if_callable, tuple_of}
use Rattle.candidate_eval.proofs.Marks.Holds.{holds_parts}
use Rattle.candidate_eval.proofs.Marks.Marking.{alone-unmarked, argument-unmarked, but-last-unmarked, last-unmarked}
use Rattle.ir_trees.proofs.Instantiation.Folding.{or-right}
use Rattle.ir_context.proofs.Instantiation.Owned.{or-none}
use Rattle.ir_trees.specs.Unification.Substitutions.{alone}

-- the mark stands neither in the inputs nor in the output
pub record BearsNo (mark : Head → Bool) (s : Callable) : Type 0 where
  pub inputs : holds mark (alone s.inputs) ≡ false
  pub output : holds mark (alone s.output) ≡ false

-- a function that can be called has the signature that it is declared with
pub signature-declared : (ts : List Tree) (f : Option FnFlags) (o : Option (Binder FnSig)) (s : Binder FnSig) → signature_if_callable ts f o ≡ Some s → o ≡ Some s
signature-declared ts (Some f) (Some g) s e = of (can_be_called ts f g.value) e
  where
    of : (b : Bool) → (if b then Some g else None) ≡ Some s → Some g ≡ Some s
    of true e = e
    of false e = absurd cc
signature-declared ts (Some f) None s e = absurd cc
signature-declared ts None o s e = absurd cc

module _ (mark : Head → Bool) (error : mark H.Error ≡ false) (tuple : mark (H.Builtin B.Tuple) ≡ false) where
  below-unmarked : (t : Tree) → tree_holds mark t ≡ false → holds mark t.children ≡ false
  below-unmarked t e = or-right (mark t.head) (holds mark t.children) e

  after-first : (ts : Forest) → holds mark ts ≡ false → holds mark (all_but_first ts) ≡ false
  after-first none e = refl
  after-first (tree h below rest) e = (holds_parts mark h below rest e).others

  last-but-one : (ts : Forest) → holds mark ts ≡ false → tree_holds mark (last_but_one ts) ≡ false
  last-but-one none e = or-none (mark H.Error) (holds mark none) error refl
  last-but-one (tree h below none) e = or-none (mark H.Error) (holds mark none) error refl
  last-but-one (tree h below (tree g b none)) e = let p = holds_parts mark h below (tree g b none) e in or-none (mark h) (holds mark below) p.here p.under
  last-but-one (tree h below (tree g b (tree f d rest))) e = last-but-one (tree g b (tree f d rest)) (holds_parts mark h below (tree g b (tree f d rest)) e).others

  -- a signature, as of a closure, and a function pointer

  signature-unmarked : (t : Tree) → tree_holds mark t ≡ false → BearsNo mark (signature_callable t)
  signature-unmarked t e = record {
    inputs = argument-unmarked mark t.children 1 error (below-unmarked t e);
    output = argument-unmarked mark t.children 2 error (below-unmarked t e);
  }

  pointer-unmarked : (below : Forest) → holds mark below ≡ false → BearsNo mark (pointer_callable below)
  pointer-unmarked below e =
      let ts = all_but_first below in
      let ins = but-last-unmarked mark ts (after-first below e) in
      record {
        inputs = alone-unmarked mark (tuple_of (all_but_last ts)) (or-none (mark (H.Builtin B.Tuple)) (holds mark (all_but_last ts)) tuple ins);
        output = last-unmarked mark ts error (after-first below e);
      }

  same-unmarked : (s t : Callable) → CalledWith s ≡ CalledWith t → BearsNo mark s → BearsNo mark t
  same-unmarked s t e h = let same : s ≡ t = cc in subst (BearsNo mark) same h

  called-if : (b : Bool) (s t : Callable) → (if b then CalledWith s else Refused) ≡ CalledWith t → BearsNo mark s → BearsNo mark t
  called-if true s t e h = same-unmarked s t e h
  called-if false s t e h = absurd cc

  closure-unmarked : (k : Option ClosureKind) (asked : ClosureKind) (s t : Callable) → closure_calls k asked s ≡ CalledWith t → BearsNo mark s → BearsNo mark t
  closure-unmarked (Some k) asked s t e h = called-if (extends k asked) s t e h
  closure-unmarked None C.FnOnce s t e h = same-unmarked s t e h
  closure-unmarked None C.Fn s t e h = absurd cc
  closure-unmarked None C.FnMut s t e h = absurd cc

  pointer-calls : (b : Builtin) (below : Forest) (s : Callable) → holds mark below ≡ false → fn_ptr_calls b below ≡ CalledWith s → BearsNo mark s
  pointer-calls (B.FnPtr f) below s e h = called-if (f.safe && (f.rust_abi && not f.variadic)) (pointer_callable below) s h (pointer-unmarked below e)
  pointer-calls _ below s e h = absurd cc

  -- a declared function, where arguments that bear no mark are put into its signature
  module _ (c : Context)
      (put-in : (args : Forest) (i : ℕ) (g : Binder FnSig) → holds mark args ≡ false → fn_sig (definition c i) ≡ Some g → tree_holds mark (substituted_tree args (declared_signature c.trees g)) ≡ false) where
    instance-unmarked : (i : ℕ) (args : Forest) (o : Option (Binder FnSig)) (s : Callable) → function_signature c i ≡ o → holds mark args ≡ false → instance_calls c.trees args o ≡ CalledWith s → BearsNo mark s
    instance-unmarked i args None s q e h = absurd cc
    instance-unmarked i args (Some g) s q e h =
        let t = substituted_tree args (declared_signature c.trees g) in
        same-unmarked (signature_callable t) s h (signature-unmarked t (put-in args i g e (signature-declared c.trees (fn_flags (definition c i)) (fn_sig (definition c i)) g q)))

    head-unmarked : (asked : ClosureKind) (h : Head) (below : Forest) (s : Callable) → holds mark below ≡ false → head_calls c asked h below ≡ CalledWith s → BearsNo mark s
    head-unmarked asked (H.FnDef i) below s e h = instance-unmarked i.0 below (function_signature c i.0) s refl e h
    head-unmarked asked (H.Builtin b) below s e h = pointer-calls b below s e h
    head-unmarked asked (H.Closure i k) below s e h =
        closure-unmarked k asked (signature_callable (last_but_one below)) s h (signature-unmarked (last_but_one below) (last-but-one below e))
    head-unmarked asked _ below s e h = absurd cc

    pub call-unmarked : (asked : ClosureKind) (t : Tree) (s : Callable) → tree_holds mark t ≡ false → calls c asked t ≡ CalledWith s → BearsNo mark s
    call-unmarked asked t s e h = of (is_unknown t.head) h
      where
        of : (b : Bool) → (if b then Excluded else head_calls c asked t.head t.children) ≡ CalledWith s → BearsNo mark s
        of true h = absurd cc
        of false h = head-unmarked asked t.head t.children s (below-unmarked t e) h
