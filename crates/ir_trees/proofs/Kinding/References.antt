-- References of a context: they stay such, and what is made of fitting trees fits.
use Rattle.std.proofs.Common.{◌≡◌, ℕ, zero, suc, ◌<◌, List, [], ◌∷◌, ◌++◌, length, get_or, take, Bool, true, false, Some, refl, sym, ◌∙◌, ap, subst, arith}
use Rattle.std.specs.Prelude.{Result, Ok, Err, IsErr, IfOk, IfErr, map}
use Rattle.ir_trees.specs.declared.ir.kinds.VarKind.{VarKind}
use Rattle.ir_trees.specs.declared.ir.kinds.Args.{Args}
use Rattle.ir_trees.specs.declared.ir.kinds.TraitRef.{TraitRef}
use Rattle.ir_trees.specs.declared.ir.kinds.Binder.{Binder}
use Rattle.ir_trees.specs.declared.ir.kinds.ClosureSig.{ClosureSig}
use Rattle.ir_trees.specs.declared.ir.node.Node.{Node}
use Rattle.ir_trees.specs.declared.ir.stop.Stop.{Stop}
use Rattle.ir_trees.specs.declared.ir.heads.Head.{Head}
use Rattle.ir_trees.specs.Syntax.Trees.{Kind, TypeKind, BinderKind, VariableKind, Forest, none, tree, Tree, is_list, is_list_kind, put, row, join}
use Rattle.ir_trees.specs.Syntax.Kinds.{numbers}
use Rattle.ir_trees.specs.Syntax.Nodes.{rows, node_of, node_tree, head_of, children_of, tree_at, kind_at, trees_at}
use Rattle.ir_trees.specs.Declarations.Worlds.{World, Reference, IsOf, Fits, child_kinds, kinds_of, parameters, TraitSort, joined, all_of}
use Rattle.ir_trees.specs.Declarations.Context.{Context, Grows, world}
use Rattle.ir_trees.specs.Syntax.Words.{IsArgs, args_forest, var_kind_tree, SigFits, sig_kind_tree}
use Rattle.ir_trees.specs.Declarations.References.{reference_of, IsReference, Takes, AllTake, FitsAmong, AllFit, IsWellFormed}
use Rattle.ir_trees.proofs.Growth.Kept.{args-kept, world-kept}
use Rattle.ir_trees.proofs.Syntax.Rows.{join-none, row-list, row-single, kind-of}
use Rattle.ir_trees.specs.Syntax.Trees.{there}

-- a reference of a context stays one
pub reference-kept : (old new : Context) (r : TraitRef) → Grows old new → IsArgs old.trees r.args → IsReference old r → IsReference new r
reference-kept old new r g i there =
    let same : reference_of new.trees r ≡ reference_of old.trees r =
    ap (λ (x : Forest). let y : Reference = record { trait = r.def_id.0; arguments = x } in y) (args-kept old new r.args g i).1 in
    subst (λ (w : World). IsOf w (reference_of new.trees r)) (sym (world-kept old new g).0)
    (subst (λ (x : Reference). IsOf (world old) x) (sym same) there)

fits-join : (w : World) (a b : Forest) → Fits w a → Fits w b → Fits w (join a b)
fits-join w none b f g = g
fits-join w (tree h below rest) b f g = (f.0, f.1, fits-join w rest b f.2 g)

fits-put : (w : World) (l : Bool) (t : Tree) (rest : Forest) → Fits w (put l t none) → Fits w rest → Fits w (put l t rest)
fits-put w true t rest f g = fits-join w t.children rest (subst (Fits w) (join-none t.children) f) g
fits-put w false t rest f g = (f.0, f.1, g)

rows-fit : (w : World) (ts : List Tree) → AllFit w ts → Fits w (rows ts)
rows-fit w [] f = tt
rows-fit w (t ∷ ts) f = fits-put w (is_list t.head) t (rows ts) f.0 (rows-fit w ts f.1)

-- what is made of trees that fit, and takes them as its children, fits
pub made-fits : (w : World) (h : Head) (ts : List Tree) → AllFit w ts → Takes w (node_of h ts) → FitsAmong w (node_of h ts)
made-fits w h ts f e = at (is_list h) refl
  where
    at : (b : Bool) → is_list h ≡ b → Fits w (put b (node_of h ts) none)
    at true l = subst (Fits w) (sym (join-none (rows ts))) (rows-fit w ts f)
    at false l = (e l, rows-fit w ts f, tt)

pub fit-at : (w : World) (ts : List Tree) → AllFit w ts → (n : ℕ) → FitsAmong w (tree_at ts n)
fit-at w [] f n = (refl, tt, tt)
fit-at w (t ∷ ts) f zero = f.0
fit-at w (t ∷ ts) f (suc n) = fit-at w ts f.1 n

all-at : (w : World) (ts : List Tree) → AllFit w ts → (ks : List ℕ) → AllFit w (trees_at ts ks)
all-at w ts f [] = tt
all-at w ts f (k ∷ ks) = (fit-at w ts f k, all-at w ts f ks)

fit-push : (w : World) (ts : List Tree) (t : Tree) → AllFit w ts → FitsAmong w t → AllFit w (ts ++ t ∷ [])
fit-push w [] t f g = (g, tt)
fit-push w (u ∷ ts) t f g = (f.0, fit-push w ts t f.1 g)

-- what holds at all holds where a call succeeds
pub if-ok : {A B X : Type 0} (r : Result A B) → X → IfOk r (λ _. X)
if-ok (Ok a) x = x
if-ok (Err e) x = tt

-- what holds of a result where there is one
pub no-result : {A B : Type 0} (r : Result A B) (P : A → Type 0) → IsErr r → IfOk r P
no-result (Ok a) P e = absurd cc
no-result (Err x) P e = tt

-- a node more, or none
pub added-fits : (w : World) (old new : List Tree) (d : Node) (r : Result ℕ Stop)
    → IfOk r (λ _. new ≡ old ++ node_tree old d ∷ []) → IfErr r (λ _. new ≡ old)
    → AllFit w old → Takes w (node_tree old d) → AllFit w new
added-fits w old new d (Ok n) e u f k =
    subst (AllFit w) (sym e) (fit-push w old (node_tree old d) f
    (made-fits w (head_of d) (trees_at old (numbers (children_of d))) (all-at w old f (numbers (children_of d))) k))
added-fits w old new d (Err s) e u f k = subst (AllFit w) (sym u) f

pub take-at : {X : Type 0} (w : World) (f : X → Tree) (xs : List X) (i : ℕ) (d : X) → AllTake w (map f xs) → i < length xs → Takes w (f (get_or xs i d))
take-at w f [] i d a h = absurd (omega arith)
take-at w f (x ∷ xs) zero d a h = a.0
take-at w f (x ∷ xs) (suc i) d a h = take-at w f xs i d a.1 (omega arith)

variable-kinds : (ks : List VarKind) → all_of VariableKind (kinds_of (rows (map var_kind_tree ks))) ≡ kinds_of (rows (map var_kind_tree ks))
variable-kinds [] = refl
variable-kinds (k ∷ ks) = ap (λ (l : List Kind). VariableKind ∷ l) (variable-kinds ks)

-- the variables of a binder take their kinds
pub variables-take : (w : World) (h : Head) (ts : List Tree) (ks : List VarKind) → ts ≡ map var_kind_tree ks
    → child_kinds w h (kinds_of (rows ts)) ≡ Some (all_of VariableKind (kinds_of (rows ts))) → Takes w (node_of h ts)
variables-take w h ts ks e c =
    λ l. c ∙ ap Some (ap (λ (us : List Tree). all_of VariableKind (kinds_of (rows us))) e
    ∙ (variable-kinds ks ∙ ap (λ (us : List Tree). kinds_of (rows us)) (sym e)))

pub row-kinds : (ts : List Tree) (n : ℕ) (k : Kind) (f : Forest) → there k ≡ true → is_list_kind k ≡ false → kind_at ts n ≡ k
    → kinds_of (row (tree_at ts n) f) ≡ k ∷ kinds_of f
row-kinds ts n k f h l e = ap kinds_of (row-single ts n k f h l e) ∙ ap (λ (j : Kind). j ∷ kinds_of f) (kind-of ts n k h e)

-- a signature that fits takes its children
pub signature-takes : (w : World) (ts : List Tree) (b : Binder ClosureSig) → SigFits ts b → Takes w (sig_kind_tree ts b)
signature-takes w ts b f =
    let vars : kind_at ts b.vars.0 ≡ BinderKind = cc in
    let inputs : kind_at ts b.value.inputs.0 ≡ TypeKind = cc in
    let output : kind_at ts b.value.output.0 ≡ TypeKind = cc in
    let last = row-kinds ts b.value.output.0 TypeKind none refl refl output in
    let two = row-kinds ts b.value.inputs.0 TypeKind (row (tree_at ts b.value.output.0) none) refl refl inputs in
    let three = row-kinds ts b.vars.0 BinderKind (row (tree_at ts b.value.inputs.0) (row (tree_at ts b.value.output.0) none)) refl refl vars in
    λ l. ap Some (sym (three ∙ (ap (λ (ks : List Kind). BinderKind ∷ ks) two ∙ ap (λ (ks : List Kind). BinderKind ∷ TypeKind ∷ ks) last)))

-- the members of a list of a well-formed context fit what it declares
pub args-fit : (c : Context) (a : Args) → IsWellFormed c → IsArgs c.trees a → Fits (world c) (args_forest c.trees a)
args-fit c a f i =
    let members : row (tree_at c.trees a.0) none ≡ join (tree_at c.trees a.0).children none =
    row-list c.trees a.0 _ none refl refl i in
    subst (Fits (world c)) (members ∙ join-none (tree_at c.trees a.0).children) (fit-at (world c) c.trees f a.0)

-- so what takes its arguments is a reference
pub is-reference : (c : Context) (r : TraitRef) → IsWellFormed c → IsArgs c.trees r.args
    → joined (Some (TypeKind ∷ [])) (parameters (world c) TraitSort r.def_id.0) ≡ Some (kinds_of (reference_of c.trees r).arguments)
    → IsReference c r
is-reference c r f i e = record { takes = e; fits = args-fit c r.args f i }

-- fewer trees that fit
pub fit-take : (w : World) (n : ℕ) (ts : List Tree) → AllFit w ts → AllFit w (take n ts)
fit-take w zero ts f = tt
fit-take w (suc n) [] f = tt
fit-take w (suc n) (t ∷ ts) f = (f.0, fit-take w n ts f.1)
