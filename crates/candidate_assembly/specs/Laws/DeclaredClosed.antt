-- What is declared of traits and functions mentions no variable: a trait's super clauses and where clauses, a function's signature.
use Rattle.std.proofs.Common.{◌≡◌, ◌==◌, ℕ, Bool, true, false, List, [], ◌∷◌, Option, Some, None, All, map, refl, sym, ◌∙◌, ap, arith}
use Rattle.std.specs.Prelude.{if◌then◌else◌, option_map, slice_get}
use Rattle.std.specs.List.{list_any}
use Rattle.std.proofs.lemmas.List.Elements.{All-cons, All-nil, All-weaker}
use Rattle.std.proofs.lemmas.Option.{slice_get-map}
use Rattle.ir_trees.specs.declared.decl.definition.AssocKind.{AssocKind}
use Rattle.ir_trees.specs.declared.decl.definition.AssocKind.TheVariants as A
use Rattle.ir_trees.specs.declared.decl.definition.DefinitionKind.{DefinitionKind}
use Rattle.ir_trees.specs.declared.decl.definition.DefinitionKind.TheVariants as D
use Rattle.ir_trees.specs.declared.ir.heads.Head.{Head}
use Rattle.ir_trees.specs.declared.ir.heads.Head.TheVariants as H
use Rattle.ir_trees.specs.declared.ir.heads.Variable.{Variable}
use Rattle.ir_trees.specs.declared.ir.kinds.Binder.{Binder}
use Rattle.ir_trees.specs.declared.ir.kinds.Clause.{Clause}
use Rattle.ir_trees.specs.declared.ir.kinds.FnSig.{FnSig}
use Rattle.ir_trees.specs.declared.ir.kinds.RegionKind.TheVariants as R
use Rattle.ir_trees.specs.declared.ir.kinds.VarKind.{VarKind}
use Rattle.ir_trees.specs.Declarations.Contents.{TraitContents}
use Rattle.ir_trees.specs.Declarations.Context.{Context, assoc_sort, definition_of, parameter_kind, sort_of, world}
use Rattle.ir_trees.specs.Declarations.Declaration.{Declaration}
use Rattle.ir_trees.specs.Declarations.Declaring.{place_of, trait_at, trait_place}
use Rattle.ir_trees.specs.Validity.Held.{definitions_held, held_clause, held_clauses, held_sig, impls_held, trait_held}
use Rattle.ir_trees.specs.Declarations.Lookups.{definition, fn_sig, kind_of_declared, maybe}
use Rattle.ir_trees.specs.Validity.Misplaced.{has_self, kinds_of_declared, kinds_of_owner, with_self}
use Rattle.ir_trees.specs.Syntax.Nodes.{tree_at}
use Rattle.ir_trees.specs.Instantiation.Owned.{is_unsolved}
use Rattle.ir_trees.specs.Hierarchy.Supers.{supers_at}
use Rattle.ir_trees.specs.Syntax.Trees.{Kind, Forest, none, Tree, holds, is_list, put, row, tree_holds}
use Rattle.ir_trees.specs.Validity.WellFormed.{IsWellFormedTable}
use Rattle.ir_trees.specs.Syntax.Words.{args_forest, clause_tree, ty_tree, vars_tree}
use Rattle.ir_trees.specs.Declarations.Worlds.{TraitSort, parameters, parameters_of, sort_number}
use Rattle.ir_trees.proofs.Instantiation.Folding.{or-left, or-right}
use Rattle.ir_context.proofs.Instantiation.Owned.{none-stray, or-none}
use Rattle.ir_trees.proofs.Syntax.Splits.{holds-join}
use Rattle.ir_context.proofs.Validity.WellFormed.{any-of, any-right, definition-passes}
use Rattle.candidate_eval.specs.Builtins.Callable.{declared_signature, tuple_of}
use Rattle.candidate_eval.proofs.Marks.Holds.{holds_imply, or_false}
use Rattle.candidate_eval.proofs.Marks.Marking.{unmarked}

-- no variable stands in a tree without the mark, where variables bear it
unsolved-free : (mark : Head → Bool) (t : Tree) → holds mark t.children ≡ false → mark t.head ≡ false → ((v : Variable) → mark (H.Infer v) ≡ true) → ((n : ℕ) → mark (H.Region (R.Var n)) ≡ true)
    → tree_holds is_unsolved t ≡ false
unsolved-free mark t under here-not terms regions = or-none (is_unsolved t.head) (holds is_unsolved t.children) (here t.head here-not) (holds_imply mark is_unsolved here t.children under)
  where
    here : (h : Head) → mark h ≡ false → is_unsolved h ≡ false
    here (H.Infer v) n = let z : true ≡ false = sym (terms v) ∙ n in absurd cc
    here (H.Region (R.Var k)) n = let z : true ≡ false = sym (regions k) ∙ n in absurd cc
    here _ n = refl

-- a tree before others, or its children where it is a list

put-unmarked : (mark : Head → Bool) (b : Bool) (t : Tree) (rest : Forest) → tree_holds mark t ≡ false → holds mark rest ≡ false → holds mark (put b t rest) ≡ false
put-unmarked mark true t rest e f = holds-join mark t.children rest ∙ or-none (holds mark t.children) (holds mark rest) (or-right (mark t.head) (holds mark t.children) e) f
put-unmarked mark false t rest e f = let p = or_false (mark t.head) (holds mark t.children) e in unmarked mark t.head t.children rest p.0 p.1 f

row-unmarked : (mark : Head → Bool) (t : Tree) (rest : Forest) → tree_holds mark t ≡ false → holds mark rest ≡ false → holds mark (row t rest) ≡ false
row-unmarked mark t rest e f = put-unmarked mark (is_list t.head) t rest e f

each-held : {X : Type 0} (f : X → Bool) (held : Clause → X) (xs : List Clause) → list_any f (map held xs) ≡ false → All (λ x. f (held x) ≡ false) xs
each-held f held [] e = All-nil (λ x. f (held x) ≡ false)
each-held f held (x ∷ xs) e = let p = or_false (f (held x)) (list_any f (map held xs)) e in All-cons (λ y. f (held y) ≡ false) x xs p.0 (each-held f held xs p.1)

-- none of them is so
abbrev NoneIs : {X : Type 0} → (X → Bool) → List X → Type 0
NoneIs f [] = Unit {0}
NoneIs f (x ∷ xs) = (f x ≡ false) × NoneIs f xs

none-is-so : {X : Type 0} (f : X → Bool) (xs : List X) → list_any f xs ≡ false → NoneIs f xs
none-is-so f [] e = tt
none-is-so f (x ∷ xs) e = let p = or_false (f x) (list_any f xs) e in (p.0, none-is-so f xs p.1)

-- Super clauses and where clauses of traits.

abbrev pub IsClosed : Context → Clause → Type 0
IsClosed c x = tree_holds is_unsolved (clause_tree c.trees x) ≡ false

-- what isn't so among all that a trait holds
clauses-have : (c : Context) (w : _) (f : _) (a : TraitContents) → list_any f (trait_held w a) ≡ false → ((x : Clause) → f (held_clause w x) ≡ false → IsClosed c x) → All (IsClosed c) a.supers × All (IsClosed c) a.wheres
clauses-have c w f a e closed =
    let supers = each-held f (held_clause w) a.supers (any-of f (held_clauses w a.supers) (held_clauses w a.wheres) e) in
    let wheres = each-held f (held_clause w) a.wheres (any-right f (held_clauses w a.supers) (held_clauses w a.wheres) e) in
    (All-weaker (λ x. f (held_clause w x) ≡ false) (IsClosed c) closed a.supers supers, All-weaker (λ x. f (held_clause w x) ≡ false) (IsClosed c) closed a.wheres wheres)

-- What a trait holds, where nothing that is held is so, and what is not so among parameters of some kinds is closed.
trait-owned : (c : Context) (f : _) → list_any f (definitions_held c.contents 0 c.declarations) ≡ false
    → ((w : _) (ks : List VarKind) (x : Clause) → kinds_of_owner c.declarations c.contents.impls w ≡ Some ks → f (held_clause w x) ≡ false → IsClosed c x)
    → (n : ℕ) (ks : List Kind) → parameters (world c) TraitSort n ≡ Some ks → (a : TraitContents) → trait_at c n ≡ Some a → All (IsClosed c) a.supers × All (IsClosed c) a.wheres
trait-owned c f none-is closed n ks p a s = of (slice_get c.declarations n) refl
  where
    there : (o : Option Declaration) → slice_get c.declarations n ≡ o → parameters_of TraitSort (option_map definition_of o) ≡ Some ks
    there o q = sym (ap (parameters_of TraitSort) (slice_get-map definition_of c.declarations n ∙ ap (option_map definition_of) q)) ∙ p

    other : (d : Declaration) → slice_get c.declarations n ≡ Some d → sort_number (sort_of d.kind) == 2 ≡ false → All (IsClosed c) a.supers × All (IsClosed c) a.wheres
    other d q e =
        let z : None ≡ Some ks = sym (ap (λ (b : Bool). if b then Some (map parameter_kind d.parameters) else None) e) ∙ there (Some d) q in
        absurd cc

    kinds : (d : Declaration) → slice_get c.declarations n ≡ Some d → (y : DefinitionKind) → d.kind ≡ y → All (IsClosed c) a.supers × All (IsClosed c) a.wheres
    kinds d q (D.Trait g k) i =
        let at : slice_get c.contents.traits k ≡ Some a =
        sym (ap (λ (o : Option Declaration). slice_get c.contents.traits (place_of trait_place o)) q ∙ ap (λ (y : DefinitionKind). slice_get c.contents.traits (trait_place y)) i) ∙ s in
        let own = definition-passes f c.contents 0 c.declarations n n d none-is q (omega arith) in
        let here = rw (i, at) at own in
        clauses-have c _ f a here (λ x e. closed _ (with_self (has_self d.kind) d.parameters) x (ap kinds_of_declared q) e)
    kinds d q (D.Adt _ _ _) i = other d q (ap (λ (y : DefinitionKind). sort_number (sort_of y) == 2) i)
    kinds d q D.Foreign i = other d q (ap (λ (y : DefinitionKind). sort_number (sort_of y) == 2) i)
    kinds d q (D.Assoc _ a _ _) i = other d q (ap (λ (y : DefinitionKind). sort_number (sort_of y) == 2) i ∙ assoc a)
      where
        assoc : (k : AssocKind) → sort_number (assoc_sort k) == 2 ≡ false
        assoc A.Type = refl
        assoc A.Const = refl
    kinds d q (D.Alias _) i = other d q (ap (λ (y : DefinitionKind). sort_number (sort_of y) == 2) i)
    kinds d q (D.Opaque _ _) i = other d q (ap (λ (y : DefinitionKind). sort_number (sort_of y) == 2) i)
    kinds d q (D.Function _ _) i = other d q (ap (λ (y : DefinitionKind). sort_number (sort_of y) == 2) i)
    kinds d q (D.Closure _) i = other d q (ap (λ (y : DefinitionKind). sort_number (sort_of y) == 2) i)

    of : (o : Option Declaration) → slice_get c.declarations n ≡ o → All (IsClosed c) a.supers × All (IsClosed c) a.wheres
    of None q = let z : None ≡ Some ks = there None q in absurd cc
    of (Some d) q = kinds d q d.kind refl

trait-closed : (c : Context) → IsWellFormedTable c → (n : ℕ) (ks : List Kind) → parameters (world c) TraitSort n ≡ Some ks → (a : TraitContents) → trait_at c n ≡ Some a → All (IsClosed c) a.supers × All (IsClosed c) a.wheres
trait-closed c t =
    trait-owned c _ (any-of _ (definitions_held c.contents 0 c.declarations) (impls_held 0 c.contents.impls) (none-stray c t))
    (λ w ks x owner e. let none-is = rw owner at e in unsolved-free _ (clause_tree c.trees x) (or-right _ _ none-is) (or-left _ _ none-is) (λ v. refl) (λ n. refl))

pub wheres-closed : (c : Context) → IsWellFormedTable c → (n : ℕ) (ks : List Kind) → parameters (world c) TraitSort n ≡ Some ks → All (IsClosed c) (maybe [] (λ a. a.wheres) (trait_at c n))
wheres-closed c t n ks p = of (trait_at c n) refl
  where
    of : (o : Option TraitContents) → trait_at c n ≡ o → All (IsClosed c) (maybe [] (λ a. a.wheres) o)
    of None q = All-nil (IsClosed c)
    of (Some a) q = (trait-closed c t n ks p a q).1

pub supers-closed : (c : Context) → IsWellFormedTable c → (n : ℕ) (ks : List Kind) → parameters (world c) TraitSort n ≡ Some ks → All (IsClosed c) (supers_at (trait_at c n))
supers-closed c t n ks p = of (trait_at c n) refl
  where
    of : (o : Option TraitContents) → trait_at c n ≡ o → All (IsClosed c) (supers_at o)
    of None q = All-nil (IsClosed c)
    of (Some a) q = (trait-closed c t n ks p a q).0

-- Signatures of functions.

abbrev pub IsClosedSignature : Context → Binder FnSig → Type 0
IsClosedSignature c s = tree_holds is_unsolved (declared_signature c.trees s) ≡ false

-- a signature is closed by its parts
signature-parts : (c : Context) (s : Binder FnSig) → tree_holds is_unsolved (vars_tree c.trees s.vars) ≡ false → holds is_unsolved (args_forest c.trees s.value.inputs) ≡ false
    → tree_holds is_unsolved (ty_tree c.trees s.value.output) ≡ false → IsClosedSignature c s
signature-parts c s vars inputs output =
    let ins = tuple_of (args_forest c.trees s.value.inputs) in
    let out = row (ty_tree c.trees s.value.output) none in
    row-unmarked is_unsolved (vars_tree c.trees s.vars) (row ins out) vars (row-unmarked is_unsolved ins out inputs (row-unmarked is_unsolved (ty_tree c.trees s.value.output) none output refl))

signature-held : (w : _) (f : _) (s : Binder FnSig) → list_any f (held_sig w s) ≡ false → NoneIs f (held_sig w s)
signature-held w f s e = none-is-so f (held_sig w s) e

function-owned : (c : Context) (f : _) → list_any f (definitions_held c.contents 0 c.declarations) ≡ false
    → ((w : _) (ks : List VarKind) (s : Binder FnSig) → kinds_of_owner c.declarations c.contents.impls w ≡ Some ks → NoneIs f (held_sig w s) → IsClosedSignature c s)
    → (n : ℕ) (s : Binder FnSig) → fn_sig (definition c n) ≡ Some s → IsClosedSignature c s
function-owned c f none-is closed n s e = of (slice_get c.declarations n) refl
  where
    kinds : (d : Declaration) → slice_get c.declarations n ≡ Some d → (y : DefinitionKind) → d.kind ≡ y → fn_sig (Some y) ≡ Some s → IsClosedSignature c s
    kinds d q (D.Function flags g) i same =
        let it : g ≡ s = cc in
        let own = definition-passes f c.contents 0 c.declarations n n d none-is q (omega arith) in
        let here = rw (i, it) at own in
        closed _ (with_self (has_self d.kind) d.parameters) s (ap kinds_of_declared q) (signature-held _ f s here)
    kinds d q (D.Adt _ _ _) i same = absurd cc
    kinds d q (D.Trait _ _) i same = absurd cc
    kinds d q D.Foreign i same = absurd cc
    kinds d q (D.Assoc _ _ _ _) i same = absurd cc
    kinds d q (D.Alias _) i same = absurd cc
    kinds d q (D.Opaque _ _) i same = absurd cc
    kinds d q (D.Closure _) i same = absurd cc

    of : (o : Option Declaration) → slice_get c.declarations n ≡ o → IsClosedSignature c s
    of None q = let z : None ≡ Some s = sym (ap (λ (y : Option Declaration). fn_sig (kind_of_declared y)) q) ∙ e in absurd cc
    of (Some d) q = kinds d q d.kind refl (sym (ap (λ (y : Option Declaration). fn_sig (kind_of_declared y)) q) ∙ e)

pub signature-closed : (c : Context) → IsWellFormedTable c → (n : ℕ) (s : Binder FnSig) → fn_sig (definition c n) ≡ Some s → IsClosedSignature c s
signature-closed c t =
    function-owned c _ (any-of _ (definitions_held c.contents 0 c.declarations) (impls_held 0 c.contents.impls) (none-stray c t))
    (λ w ks s owner e.
    let first = e.0 in
    let second = e.1.0 in
    let third = e.1.1.0 in
    let vars = rw owner at first in
    let inputs = rw owner at second in
    let output = rw owner at third in
    let ins = tree_at c.trees s.value.inputs.0 in
    signature-parts c s (unsolved-free _ (vars_tree c.trees s.vars) (or-right _ _ vars) (or-left _ _ vars) (λ v. refl) (λ n. refl))
    (or-right (is_unsolved ins.head) (holds is_unsolved ins.children) (unsolved-free _ ins (or-right _ _ inputs) (or-left _ _ inputs) (λ v. refl) (λ n. refl)))
    (unsolved-free _ (ty_tree c.trees s.value.output) (or-right _ _ output) (or-left _ _ output) (λ v. refl) (λ n. refl)))
