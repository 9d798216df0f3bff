-- The type of the last field of a structure.
use Rattle.std.proofs.Common.{◌≡◌, ℕ, ◌-◌, ◌≤◌, List, [], ◌∷◌, length, map, Some, None, refl, sym, ap, ◌∙◌, slice_index_or, arith}
use Rattle.ir_trees.specs.declared.ir.kinds.AdtId.{AdtId}
use Rattle.ir_trees.specs.declared.ir.kinds.Args.{Args}
use Rattle.ir_trees.specs.declared.ir.kinds.Ty.{Ty}
use Rattle.ir_trees.specs.Declarations.Context.{Context, Grows, world}
use Rattle.ir_trees.specs.Declarations.Contents.{AdtContents}
use Rattle.ir_trees.specs.Declarations.Declaring.{adt_at}
use Rattle.ir_trees.specs.Instantiation.Folding.{substituted_tree}
use Rattle.ir_trees.specs.Declarations.Lookups.{maybe}
use Rattle.ir_trees.specs.Syntax.Nodes.{error_tree}
use Rattle.ir_trees.specs.Syntax.Trees.{Forest, Tree}
use Rattle.ir_trees.specs.Validity.WellFormed.{TypesFit}
use Rattle.ir_trees.specs.Syntax.Words.{IsArgs, args_forest, ty_tree}
use Rattle.ir_trees.specs.Declarations.Worlds.{AdtSort, World, kinds_of, parameters}
use Rattle.ir_trees.proofs.Growth.Kept.{args-kept, world-kept}
use Rattle.candidate_eval.specs.Dynamic.Replacing.{first_or}
use Rattle.candidate_eval.specs.Builtins.Tables.{last_of, optional}
use Rattle.candidate_eval.proofs.Builtins.Types.{types_kept}
use Rattle.candidate_assembly.specs.Rules.Unsizing.{tail_of}

at-place : (d x : Ty) (xs : List Ty) → slice_index_or (x ∷ xs) (length xs) d ∷ [] ≡ last_of (x ∷ xs)
at-place d x [] = refl
at-place d x (y ∷ ys) = at-place d y ys

pub last-at : (d : Ty) (xs : List Ty) → 1 ≤ length xs → slice_index_or xs (length xs - 1) d ∷ [] ≡ last_of xs
last-at d [] l = absurd (omega (arith, l))
last-at d (x ∷ xs) l =
    let place : length (x ∷ xs) - 1 ≡ length xs = omega arith in
    ap (λ (k : ℕ). slice_index_or (x ∷ xs) k d ∷ []) place ∙ at-place d x xs

last-mapped : {X Y : Type 0} (f : X → Y) (xs : List X) → last_of (map f xs) ≡ map f (last_of xs)
last-mapped f [] = refl
last-mapped f (x ∷ []) = refl
last-mapped f (x ∷ (y ∷ ys)) = last-mapped f (y ∷ ys)

abbrev fields : Context → ℕ → List Ty
fields c n = maybe [] (λ (a : AdtContents). a.fields) (adt_at c n)

pub tail-there : (c : Context) (n : ℕ) (args : Forest) (t : Ty) → optional (Some t) ≡ last_of (fields c n) → tail_of c n args ≡ substituted_tree args (ty_tree c.trees t)
tail-there c n args t e =
    let put = λ (x : Ty). substituted_tree args (ty_tree c.trees x) in
    ap (first_or error_tree) (last-mapped put (fields c n) ∙ ap (map put) (sym e))

pub no-tail : (c : Context) (n : ℕ) (args : Forest) → optional None ≡ last_of (fields c n) → tail_of c n args ≡ error_tree
no-tail c n args e =
    let put = λ (x : Ty). substituted_tree args (ty_tree c.trees x) in
    ap (first_or error_tree) (last-mapped put (fields c n) ∙ ap (map put) (sym e))

-- Where a context has grown, it is the same.

put-kept : (old new : List Tree) (args : Forest) (xs : List Ty) → map (ty_tree new) xs ≡ map (ty_tree old) xs
    → map (λ t. substituted_tree args (ty_tree new t)) xs ≡ map (λ t. substituted_tree args (ty_tree old t)) xs
put-kept old new args [] e = refl
put-kept old new args (x ∷ xs) e =
    let here : ty_tree new x ≡ ty_tree old x = cc in
    let rest : map (ty_tree new) xs ≡ map (ty_tree old) xs = cc in
    ap (λ t. substituted_tree args t ∷ map (λ t. substituted_tree args (ty_tree new t)) xs) here
    ∙ ap (λ ts. substituted_tree args (ty_tree old x) ∷ ts) (put-kept old new args xs rest)

pub tail-kept : (old new : Context) (n : ℕ) (a : Args) → Grows old new → IsArgs old.trees a → TypesFit old.trees (maybe [] (λ (x : AdtContents). x.fields) (adt_at old n))
    → tail_of new n (args_forest new.trees a) ≡ tail_of old n (args_forest old.trees a)
tail-kept old new n a g i fit =
    let args = args_forest old.trees a in
    ap (tail_of new n) (args-kept old new a g i).1
    ∙ (ap (λ (c : Context). first_or error_tree (last_of (map (λ t. substituted_tree args (ty_tree new.trees t)) (fields c n)))) g.same
    ∙ ap (λ ts. first_or error_tree (last_of ts)) (put-kept old.trees new.trees args (fields old n) (types_kept old.trees new.trees (fields old n) g.kept fit).1))

-- arguments that a data type takes are such still where a context has grown
pub adt-fits-still : (old new : Context) (i : AdtId) (a : Args) → Grows old new → IsArgs old.trees a → parameters (world old) AdtSort i.0 ≡ Some (kinds_of (args_forest old.trees a))
    → parameters (world new) AdtSort i.0 ≡ Some (kinds_of (args_forest new.trees a))
adt-fits-still old new i a g k f =
    ap (λ (w : World). parameters w AdtSort i.0) (world-kept old new g).0 ∙ (f ∙ ap (λ (t : Forest). Some (kinds_of t)) (sym (args-kept old new a g k).1))
