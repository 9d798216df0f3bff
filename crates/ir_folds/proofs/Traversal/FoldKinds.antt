-- A fold keeps kinds, so what is made again takes its children.
use Rattle.std.proofs.Common.{◌≡◌, ℕ, List, [], ◌∷◌, ◌++◌, Option, Some, None, Result, refl, sym, ◌∙◌, ap, subst}
use Rattle.std.specs.Prelude.{option_map}
use Rattle.std.specs.Fn.{Mut}
use Rattle.std.specs.Borrow.{MutBor}
use Rattle.ir_trees.specs.declared.ir.kinds.GenericArg.{GenericArg}
use Rattle.ir_trees.specs.declared.ir.stop.Stop.{Stop}
use Rattle.ir_trees.specs.Syntax.Trees.{Kind, Forest, none, tree, Tree, kind_of, row, put}
use Rattle.ir_trees.specs.Syntax.Kinds.{arg_number, arg_kind}
use Rattle.ir_trees.specs.Declarations.Worlds.{World, Fits, child_kinds, kinds_of}
use Rattle.ir_trees.specs.Declarations.References.{Takes, AllTake, FitsAmong}
use Rattle.ir_trees.specs.Declarations.Context.{Context}
use Rattle.ir_trees.specs.Instantiation.Folds.{arg_tree, node, IsOfKind, Asks, FoldsBy, ended, made, replaced, opened, passed}
use Rattle.ir_trees.proofs.Syntax.Members.{arg-there}
use Rattle.ir_trees.proofs.Syntax.Rows.{kind-of}

pub take-push : (w : World) (ts : List Tree) (t : Tree) → AllTake w ts → Takes w t → AllTake w (ts ++ t ∷ [])
take-push w [] t a k = (k, tt)
take-push w (u ∷ ts) t a k = (a.0, take-push w ts t a.1 k)

-- a tree that fits takes other children of the same kinds
pub takes-again : (w : World) (t : Tree) (inner : Forest) → FitsAmong w t → kinds_of inner ≡ kinds_of t.children → Takes w (node t.head inner)
takes-again w t inner f k =
    λ l.
    let single : row t none ≡ tree t.head t.children none = ap (λ b. put b t none) l in
    let fits : Fits w (tree t.head t.children none) = subst (Fits w) single f in
    ap (child_kinds w t.head) k ∙ (fits.0 ∙ ap Some (sym k))

module _ {M Rest F : Type 0} (context : M → Context) (others : M → Rest)
    (g : Mut F (MutBor M × (GenericArg × (ℕ × Unit {0}))) (Result (Option GenericArg) Stop × (MutBor M × Unit {0}))) where
  asked-kind : {s e : F × M} {d : ℕ} {t u : Tree} → Asks context others g s d t (Some u) e → kind_of u.head ≡ kind_of t.head
  asked-kind {s} {e} {d} {t} {u} a = at a.answer a.seen a.of_kind
    where
      at : (o : Option GenericArg) → option_map (arg_tree (context e.1).trees) o ≡ Some u → IsOfKind (context e.1).trees a.of o → kind_of u.head ≡ kind_of t.head
      at None q k = absurd cc
      at (Some y) q k =
          let is : arg_tree (context e.1).trees y ≡ u = cc in
          ap (λ (x : Tree). kind_of x.head) (sym is)
          ∙ (kind-of (context e.1).trees (arg_number y) (arg_kind y) (arg-there y) k.0
          ∙ (k.1
          ∙ (sym (kind-of (context s.1).trees (arg_number a.of) (arg_kind a.of) (arg-there a.of) a.is)
          ∙ ap (λ (x : Tree). kind_of x.head) a.tree)))

  pub folds-kinds : {s e : F × M} {d : ℕ} {ts us : Forest} → FoldsBy context others g s d ts us e → kinds_of us ≡ kinds_of ts
  folds-kinds ended = refl
  folds-kinds (made i p) = folds-kinds p
  folds-kinds (replaced {h = h} {g = j} {rest = rest} {us = us} a i p) =
      ap (λ (k : Kind). k ∷ kinds_of us) (asked-kind i) ∙ ap (λ (ks : List Kind). kind_of h ∷ ks) (folds-kinds p)
  folds-kinds (opened {h = h} a i p r) = ap (λ (ks : List Kind). kind_of h ∷ ks) (folds-kinds r)
  folds-kinds (passed {h = h} a p r) = ap (λ (ks : List Kind). kind_of h ∷ ks) (folds-kinds r)
