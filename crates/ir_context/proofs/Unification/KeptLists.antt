-- What is listed stays so while nodes are made.
use Rattle.std.proofs.Common.{◌≡◌, ℕ, zero, suc, ◌≤◌, Bool, List, [], ◌∷◌, length, take, drop, Option, Vec, Global, refl, sym, ◌∙◌, ap, subst, arith}
use Rattle.std.specs.Prelude.{min, slice_get, if◌then◌else◌}
use Rattle.std.proofs.Math.Seq.{take-length}
use Rattle.std.proofs.lemmas.List.{take-append-le, take-append-drop, length-take}
use Rattle.indexmap.specs.IndexMap.{IndexMap, get}
use Rattle.std.specs.Option.{option_map_or}
use Rattle.ir_trees.specs.Declarations.Declaration.{Declaration}
use Rattle.ir_trees.specs.Declarations.Declaring.{place, trait_place}
use Rattle.ir_trees.specs.declared.ir.classes.ImplClass.{ImplClass}
use Rattle.ir_trees.specs.declared.decl.contents.ImplId.{ImplId}
use Rattle.ir_trees.specs.declared.decl.heads.ImplList.{ImplList}
use Rattle.ir_trees.specs.Syntax.Nodes.{Extends, kind_at}
use Rattle.ir_trees.specs.Syntax.Trees.{ArgumentsKind, Tree}
use Rattle.ir_trees.specs.Declarations.Contents.{Impl, TraitContents}
use Rattle.ir_trees.specs.Declarations.Context.{Context, world}
use Rattle.ir_trees.specs.Declarations.Worlds.{World}
use Rattle.ir_trees.specs.Syntax.Words.{args_forest}
use Rattle.ir_trees.specs.Validity.Faults.{ImplsFit}
use Rattle.ir_trees.specs.Validity.WellFormed.{IsWellFormedContext, IsWellFormedTable}
use Rattle.ir_trees.specs.Unification.ImplClasses.{is_listed, places}
use Rattle.ir_trees.specs.Unification.Impls.{impls_of, listed_type, self_type}
use Rattle.ir_trees.specs.Unification.ImplLists.{AreListed, impl_is_in, list_of, listed_at, own_impls, same_list}
use Rattle.ir_trees.proofs.Growth.Kept.{number-kept}
use Rattle.ir_trees.proofs.Syntax.Lists.{below_kind}

-- over the declared nodes alone
pub listed-finished : {S : Type 0} (m : IndexMap ImplList (Vec (ℕ × ImplId) Global) S) (ts : List Tree) (traits : List TraitContents) (impls : List Impl) (n : ℕ) → n ≡ length ts
    → AreListed m ts traits impls → AreListed m (take n ts) traits impls
listed-finished m ts traits impls n e l = subst (λ us. AreListed m us traits impls) (sym (ap (λ k. take k ts) e ∙ take-length ts)) l

pub listed-grown : {S : Type 0} (m : IndexMap ImplList (Vec (ℕ × ImplId) Global) S) (ts us : List Tree) (traits : List TraitContents) (impls : List Impl) (n : ℕ) → n ≤ length ts
    → Extends ts us → AreListed m (take n ts) traits impls → AreListed m (take n us) traits impls
listed-grown m ts us traits impls n t e l =
    let same : take n us ≡ take n ts = ap (take n) e.is ∙ take-append-le n ts e.added t in
    subst (λ vs. AreListed m vs traits impls) (sym same) l

pub listed-cut : {S : Type 0} (m : IndexMap ImplList (Vec (ℕ × ImplId) Global) S) (ts : List Tree) (traits : List TraitContents) (impls : List Impl) (n k : ℕ) → n ≤ length ts → n ≤ k
    → AreListed m (take n ts) traits impls → AreListed m (take n (take k ts)) traits impls
listed-cut m ts traits impls n k t e l =
    let count : length (take k ts) ≡ min k (length ts) = length-take k ts in
    let enough : n ≤ length (take k ts) = omega (arith, count, t, e) in
    let same : take n ts ≡ take n (take k ts) = ap (take n) (sym (take-append-drop k ts)) ∙ take-append-le n (take k ts) (drop k ts) enough in
    subst (λ vs. AreListed m vs traits impls) same l

-- What an impl is for keeps its tree.
self-kept : (w : World) (old new : List Tree) (impls : List Impl) (n : ℕ) → Extends old new → ImplsFit w old impls → self_type new (slice_get impls n) ≡ self_type old (slice_get impls n)
self-kept w old new [] n e f = refl
self-kept w old new (i ∷ is) zero e f =
    let k = number-kept old new i.trait_ref.args.0 e (below_kind old i.trait_ref.args.0 ArgumentsKind refl f.0.given) in
    ap (λ j. listed_type j (args_forest new i.trait_ref.args)) k.0 ∙ ap (λ (t : Tree). listed_type (kind_at old i.trait_ref.args.0) t.children) k.1
self-kept w old new (i ∷ is) (suc n) e f = self-kept w old new is n e f.1

same-places : {X : Type 0} (f g : X → Bool) (n : ℕ) (xs : List X) → ((x : X) → f x ≡ g x) → places f n xs ≡ places g n xs
same-places f g n [] e = refl
same-places {X = X} f g n (x ∷ xs) e = by (same-places f g (suc n) xs e)
  where
    by : places f (suc n) xs ≡ places g (suc n) xs → (if f x then (n, x) ∷ places f (suc n) xs else places f (suc n) xs) ≡ (if g x then (n, x) ∷ places g (suc n) xs else places g (suc n) xs)
    by rest = ap (λ (b : Bool). if b then (n, x) ∷ places f (suc n) xs else places f (suc n) xs) (e x) ∙ ap (λ ys. if g x then (n, x) ∷ ys else ys) rest

-- what is listed, over all nodes of the context
pub listed-there : {S : Type 0} (m : IndexMap ImplList (Vec (ℕ × ImplId) Global) S) (c : Context) (l : ImplList) → IsWellFormedContext c
    → AreListed m (take c.declared_nodes c.trees) c.contents.traits c.contents.impls → listed_at m l ≡ list_of c.trees c.contents.traits c.contents.impls l
unfolding IsWellFormedTable AreListed
listed-there m c l w a =
    let old = take c.declared_nodes c.trees in
    let e : Extends old c.trees = record { added = drop c.declared_nodes c.trees; is = sym (take-append-drop c.declared_nodes c.trees) } in
    a l ∙ same-places (impl_is_in old c.contents.impls l.class) (impl_is_in c.trees c.contents.impls l.class) 0 (own_impls c.contents.traits l.of)
    (λ i. ap (is_listed l.class) (sym (self-kept (world c) old c.trees c.contents.impls i.0 e w.declared.arguments.impls)))

-- the list of a trait, by its number
pub trait-list : {S : Type 0} (m : IndexMap ImplList (Vec (ℕ × ImplId) Global) S) (u v : Context) (of n : ℕ) (k : ImplClass) (ds : List Declaration) (o : Option (Vec (ℕ × ImplId) Global))
    → u ≡ v → IsWellFormedContext (record u { delayed_bugs = [] }) → AreListed m (take u.declared_nodes u.trees) u.contents.traits u.contents.impls → ds ≡ u.declarations
    → n ≡ place trait_place ds of → o ≡ get same_list m (record { of = n; class = k })
    → option_map_or (λ w. w.items) o [] ≡ places (impl_is_in v.trees v.contents.impls k) 0 (impls_of v of)
trait-list m u v of n k ds o e w a d p q =
    let c : Context = record u { delayed_bugs = [] } in
    let here : n ≡ place trait_place u.declarations of = p ∙ ap (λ xs. place trait_place xs of) d in
    let all = listed-there m c (record { of = n; class = k }) w a in
    let own = ap (λ i. places (impl_is_in u.trees u.contents.impls k) 0 (own_impls u.contents.traits i)) here in
    ap (λ x. option_map_or (λ w. w.items) x []) q
    ∙ (all ∙ (own ∙ ap (λ (x : Context). places (impl_is_in x.trees x.contents.impls k) 0 (impls_of x of)) e))
