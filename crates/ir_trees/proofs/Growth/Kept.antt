-- What a growing context keeps.
use Rattle.std.proofs.Common.{◌≡◌, ℕ, ◌<◌, List, [], ◌∷◌, ◌++◌, length, refl, sym, ◌∙◌, ap, append_assoc}
use Rattle.std.proofs.lemmas.List.{append-nil}
use Rattle.ir_trees.specs.declared.ir.kinds.Ty.{Ty}
use Rattle.ir_trees.specs.declared.ir.kinds.Args.{Args}
use Rattle.ir_trees.specs.declared.ir.kinds.Preds.{Preds}
use Rattle.ir_trees.specs.Syntax.Trees.{Tree, TypeKind, ArgumentsKind, PredicatesKind}
use Rattle.ir_trees.specs.Syntax.Nodes.{tree_at, kind_at, Extends}
use Rattle.ir_trees.specs.Declarations.Context.{Context, Grows, HasFaultsOf, world}
use Rattle.ir_trees.specs.Syntax.Words.{IsTy, IsArgs, IsPreds, ty_tree, args_forest, preds_forest}
use Rattle.ir_trees.specs.declared.ir.kinds.TraitRef.{TraitRef}
use Rattle.ir_trees.specs.Declarations.References.{ArgumentsFit}
use Rattle.ir_trees.proofs.Syntax.Lists.{below_kind, kind_at-append, tree_at-append}

pub number-kept : (old new : List Tree) (n : ℕ) → Extends old new → n < length old
    → (kind_at new n ≡ kind_at old n) × (tree_at new n ≡ tree_at old n)
number-kept old new n e h = (
  ap (λ (ts : List Tree). kind_at ts n) e.is ∙ kind_at-append old e.added n h,
  ap (λ (ts : List Tree). tree_at ts n) e.is ∙ tree_at-append old e.added n h,
)

-- a type stays a type, with its tree
pub ty-kept : (old new : Context) (t : Ty) → Grows old new → IsTy old.trees t
    → IsTy new.trees t × (ty_tree new.trees t ≡ ty_tree old.trees t)
ty-kept old new t g h =
    let k = number-kept old.trees new.trees t.0 g.kept (below_kind old.trees t.0 TypeKind refl h) in
    (k.0 ∙ h, k.1)

-- a list stays a list, with its members
pub args-kept : (old new : Context) (a : Args) → Grows old new → IsArgs old.trees a
    → IsArgs new.trees a × (args_forest new.trees a ≡ args_forest old.trees a)
args-kept old new a g h =
    let k = number-kept old.trees new.trees a.0 g.kept (below_kind old.trees a.0 ArgumentsKind refl h) in
    (k.0 ∙ h, ap (λ (t : Tree). t.children) k.1)

-- a list of bounds stays one, with its members
pub preds-kept : (old new : Context) (p : Preds) → Grows old new → IsPreds old.trees p
    → IsPreds new.trees p × (preds_forest new.trees p ≡ preds_forest old.trees p)
preds-kept old new p g h =
    let k = number-kept old.trees new.trees p.0 g.kept (below_kind old.trees p.0 PredicatesKind refl h) in
    (k.0 ∙ h, ap (λ (t : Tree). t.children) k.1)

pub faults-same : (old new : Context) → new.delayed_bugs ≡ old.delayed_bugs → HasFaultsOf old new
faults-same old new e = record { added = []; is = e ∙ sym (append-nil old.delayed_bugs) }

pub grows-refl : (c : Context) → Grows c c
grows-refl c = record { same = refl; kept = record { added = []; is = sym (append-nil c.trees) }; faults = faults-same c c refl }

faults-trans : (a b c : Context) → HasFaultsOf a b → HasFaultsOf b c → HasFaultsOf a c
faults-trans a b c g h = record { added = g.added ++ h.added; is = h.is ∙ (ap (λ (fs : List (List ℕ)). fs ++ h.added) g.is ∙ append_assoc a.delayed_bugs g.added h.added) }

pub grows-trans : (a b c : Context) → Grows a b → Grows b c → Grows a c
grows-trans a b c g h = record {
  same = h.same ∙ ap (λ (x : Context). let y : Context = record x { trees = c.trees; delayed_bugs = c.delayed_bugs } in y) g.same;
  kept = record { added = g.kept.added ++ h.kept.added; is = h.kept.is ∙ (ap (λ (ts : List Tree). ts ++ h.kept.added) g.kept.is ∙ append_assoc a.trees g.kept.added h.kept.added) };
  faults = faults-trans a b c g.faults h.faults;
}

-- a fault more is put off
pub faults-grow : (c : Context) (f : List ℕ) → Grows c (record c { delayed_bugs = c.delayed_bugs ++ f ∷ [] })
faults-grow c f = record { same = refl; kept = record { added = []; is = sym (append-nil c.trees) }; faults = record { added = f ∷ []; is = refl } }

pub world-kept : (old new : Context) → Grows old new → (world new ≡ world old) × (new.local ≡ old.local)
world-kept old new g = (ap world g.same, ap (λ (c : Context). c.local) g.same)

-- the arguments of a reference still fit its trait
pub header-kept : (old new : Context) (r : TraitRef) → Grows old new → IsArgs old.trees r.args → ArgumentsFit old r → ArgumentsFit new r
header-kept old new r g a f =
    let w = (world-kept old new g).0 in
    let args = (args-kept old new r.args g a).1 in
    rw (w, args) f

-- so do the limits
pub limits-kept : (old new : Context) → Grows old new → new.limits ≡ old.limits
limits-kept old new g = ap (λ (c : Context). c.limits) g.same
