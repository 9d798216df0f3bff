-- What a declaration holds has an argument for each of its parameters, wherever the arguments fit the declaration.
use Rattle.std.proofs.Common.{◌≡◌, ℕ, zero, suc, ◌<◌, List, [], ◌∷◌, ◌++◌, Bool, true, false, Option, Some, None, refl, sym, ◌∙◌, ap, subst, arith}
use Rattle.std.specs.Prelude.{not, ◌||◌, ◌&&◌, map, slice_get, nat_lt}
use Rattle.ir_trees.specs.declared.ir.heads.Head.{Head}
use Rattle.ir_trees.specs.declared.ir.heads.Head.TheVariants as H
use Rattle.ir_trees.specs.declared.ir.heads.ConstHead.TheVariants as C
use Rattle.ir_trees.specs.declared.ir.kinds.VarKind.{VarKind}
use Rattle.ir_trees.specs.declared.ir.kinds.VarKind.TheVariants as V
use Rattle.ir_trees.specs.declared.decl.misplaced.Misplaced.TheVariants as M
use Rattle.ir_trees.specs.Declarations.Context.{parameter_kind}
use Rattle.ir_trees.specs.Syntax.Trees.{TypeKind, Forest, none, tree, Tree, kind_of, count, holds, tree_holds, is_type, is_type_kind}
use Rattle.ir_trees.specs.Declarations.Worlds.{kinds_of}
use Rattle.ir_trees.specs.Unification.Substitutions.{is_constant_kind}
use Rattle.ir_trees.specs.Instantiation.Folding.{argument, lacks_argument}
use Rattle.std.proofs.lemmas.Bool.{lt-ltb}
use Rattle.ir_trees.specs.Validity.Misplaced.{is_misplaced, parameter_misplaced}
use Rattle.std.specs.Prelude.{◌≤◌, length, get_or, ◌==◌, if◌then◌else◌, option_map, All, IfSome}
use Rattle.std.specs.List.{list_any}
use Rattle.std.proofs.lemmas.Option.{slice_get-map, slice_get_past, slice_get_within, slice_get-get_or, get_or_from_slice_get}
use Rattle.ir_trees.specs.declared.ir.kinds.Clause.{Clause}
use Rattle.ir_trees.specs.declared.ir.kinds.Ty.{Ty}
use Rattle.ir_trees.specs.declared.ir.kinds.TraitRef.{TraitRef}
use Rattle.ir_trees.specs.declared.decl.definition.TraitFlags.{TraitFlags}
use Rattle.ir_trees.specs.declared.decl.definition.AdtFlags.{AdtFlags}
use Rattle.ir_trees.specs.declared.decl.definition.AdtShape.{AdtShape}
use Rattle.ir_trees.specs.declared.decl.contents.Sizedness.{Sizedness}
use Rattle.ir_trees.specs.declared.decl.contents.Sizedness.TheVariants as Z
use Rattle.ir_trees.specs.declared.decl.definition.DefinitionKind.{DefinitionKind}
use Rattle.ir_trees.specs.declared.decl.definition.DefinitionKind.TheVariants as D
use Rattle.ir_trees.specs.declared.decl.held.Held.{Held}
use Rattle.ir_trees.specs.declared.decl.held.HeldSort.TheVariants as HS
use Rattle.ir_trees.specs.declared.decl.definition.FnFlags.{FnFlags}
use Rattle.ir_trees.specs.declared.ir.kinds.Binder.{Binder}
use Rattle.ir_trees.specs.declared.ir.kinds.FnSig.{FnSig}
use Rattle.ir_context.specs.Instantiation.Signatures.{SignatureHas}
use Rattle.ir_trees.specs.declared.decl.held.Owner.{Owner}
use Rattle.ir_trees.specs.declared.decl.held.Owner.TheVariants as O
use Rattle.ir_trees.specs.declared.decl.misplaced.Misplaced.{Misplaced}
use Rattle.ir_trees.specs.Declarations.Declaration.{Declaration}
use Rattle.ir_trees.specs.Declarations.Declaring.{no_place, place_of, adt_place, trait_place, adt_at, trait_at}
use Rattle.ir_trees.specs.Declarations.Contents.{AdtContents, TraitContents}
use Rattle.ir_trees.specs.Declarations.Lookups.{maybe, constraint, fn_sig, hidden_type, kind_of_declared, definition}
use Rattle.ir_trees.specs.Declarations.Context.{Context, world, definition_of, sort_of}
use Rattle.ir_trees.specs.Declarations.Worlds.{DefinitionSort, AdtSort, FunctionSort, OpaqueSort, TraitSort, parameters, parameters_of, joined, sort_number}
use Rattle.ir_trees.specs.Validity.Held.{held_type, held_types, option_held, adt_held, held_clause, held_clauses, trait_held, if_there, definition_held, definitions_held, impls_held}
use Rattle.ir_trees.specs.Validity.Misplaced.{held_misplaces, tree_misplaces, kinds_of_owner, kinds_of_declared, with_self, has_self}
use Rattle.ir_trees.specs.Validity.Faults.{all_that_is_held}
use Rattle.ir_trees.specs.Declarations.References.{ArgumentsFit}
use Rattle.ir_trees.specs.Validity.WellFormed.{IsWellFormedTable, TypesFit}
use Rattle.ir_trees.specs.Syntax.Words.{IsTy, IsClause, ClauseListFits, args_forest, clause_tree, ty_tree}
use Rattle.ir_trees.specs.Hierarchy.Supers.{supers_at}
use Rattle.ir_trees.specs.Syntax.Nodes.{tree_at}
use Rattle.ir_context.proofs.Validity.WellFormed.{any-of, any-right, definition-passes}
use Rattle.ir_trees.proofs.Instantiation.Folding.{or-left, or-right}
use Rattle.ir_context.proofs.Hierarchy.Listing.{listed_clause}
use Rattle.ir_context.proofs.Hierarchy.Walking.{all_supers_fit}

-- there is an argument for each parameter, of its kind
argument-there : (args : Forest) (ks : List VarKind) (i : ℕ) (k : VarKind) → kinds_of args ≡ map parameter_kind ks → slice_get ks i ≡ Some k
    → (i < count args) × (kind_of (argument args i).head ≡ parameter_kind k)
argument-there args [] i k e s = absurd cc
argument-there none (j ∷ ks) i k e s = absurd cc
argument-there (tree h below rest) (j ∷ ks) zero k e s =
    let same : j ≡ k = cc in
    (omega arith, cc)
argument-there (tree h below rest) (j ∷ ks) (suc i) k e s =
    let others : kinds_of rest ≡ map parameter_kind ks = cc in
    let r = argument-there rest ks i k others s in
    (omega (arith, r.0), r.1)

pub or-none : (a b : Bool) → a ≡ false → b ≡ false → a || b ≡ false
or-none a b e f = rw e f

type-has : (args : Forest) (ks : List VarKind) (i : ℕ) → kinds_of args ≡ map parameter_kind ks → parameter_misplaced M.Past V.Ty (slice_get ks i) ≡ false
    → parameter_misplaced M.Stray V.Ty (slice_get ks i) ≡ false → not (nat_lt i (count args) && is_type (argument args i).head) ≡ false
type-has args ks i e past stray = of (slice_get ks i) refl
  where
    of : (o : Option VarKind) → slice_get ks i ≡ o → not (nat_lt i (count args) && is_type (argument args i).head) ≡ false
    of None q = let t = sym (ap (parameter_misplaced M.Past V.Ty) q) ∙ past in absurd cc
    of (Some V.Ty) q = let t = argument-there args ks i V.Ty e q in rw (lt-ltb i (count args) t.0) (ap (λ k. not (is_type_kind k)) t.1)
    of (Some V.Const) q = let t = sym (ap (parameter_misplaced M.Stray V.Ty) q) ∙ stray in absurd cc
    of (Some V.Region) q = let t = sym (ap (parameter_misplaced M.Stray V.Ty) q) ∙ stray in absurd cc

const-has : (args : Forest) (ks : List VarKind) (i : ℕ) → kinds_of args ≡ map parameter_kind ks → parameter_misplaced M.Past V.Const (slice_get ks i) ≡ false
    → parameter_misplaced M.Stray V.Const (slice_get ks i) ≡ false → not (nat_lt i (count args) && is_constant_kind (kind_of (argument args i).head)) ≡ false
const-has args ks i e past stray = of (slice_get ks i) refl
  where
    of : (o : Option VarKind) → slice_get ks i ≡ o → not (nat_lt i (count args) && is_constant_kind (kind_of (argument args i).head)) ≡ false
    of None q = let t = sym (ap (parameter_misplaced M.Past V.Const) q) ∙ past in absurd cc
    of (Some V.Const) q = let t = argument-there args ks i V.Const e q in rw (lt-ltb i (count args) t.0) (ap (λ k. not (is_constant_kind k)) t.1)
    of (Some V.Ty) q = let t = sym (ap (parameter_misplaced M.Stray V.Const) q) ∙ stray in absurd cc
    of (Some V.Region) q = let t = sym (ap (parameter_misplaced M.Stray V.Const) q) ∙ stray in absurd cc

pub head-has : (args : Forest) (ks : List VarKind) (h : Head) → kinds_of args ≡ map parameter_kind ks → is_misplaced M.Past ks h ≡ false → is_misplaced M.Stray ks h ≡ false
    → lacks_argument args h ≡ false
head-has args ks (H.Param i) e past stray = type-has args ks i e past stray
head-has args ks (H.Const (C.Param i)) e past stray = const-has args ks i e past stray
head-has args ks _ e past stray = refl

pub owned-list : (args : Forest) (ks : List VarKind) (ts : Forest) → kinds_of args ≡ map parameter_kind ks → holds (is_misplaced M.Past ks) ts ≡ false
    → holds (is_misplaced M.Stray ks) ts ≡ false → holds (lacks_argument args) ts ≡ false
owned-list args ks none e past stray = refl
owned-list args ks (tree h below rest) e past stray =
    let p = or-right _ _ past in
    let s = or-right _ _ stray in
    or-none _ _ (head-has args ks h e (or-left _ _ past) (or-left _ _ stray))
    (or-none _ _ (owned-list args ks below e (or-left _ _ p) (or-left _ _ s)) (owned-list args ks rest e (or-right _ _ p) (or-right _ _ s)))

pub owned-tree : (args : Forest) (ks : List VarKind) (t : Tree) → kinds_of args ≡ map parameter_kind ks → tree_holds (is_misplaced M.Past ks) t ≡ false
    → tree_holds (is_misplaced M.Stray ks) t ≡ false → tree_holds (lacks_argument args) t ≡ false
owned-tree args ks t e past stray =
    or-none _ _ (head-has args ks t.head e (or-left _ _ past) (or-left _ _ stray))
    (owned-list args ks t.children e (or-right _ _ past) (or-right _ _ stray))

-- A super clause of a trait has an argument for each parameter, among the arguments of a reference to the trait.

-- the first kinds that a trait's reference has, and then its own
trait-kinds : (c : Context) (r : TraitRef) (d : Declaration) (flags : TraitFlags) (p : ℕ) → slice_get c.declarations r.def_id.0 ≡ Some d → d.kind ≡ D.Trait flags p → ArgumentsFit c r
    → kinds_of (args_forest c.trees r.args) ≡ map parameter_kind (V.Ty ∷ d.parameters)
trait-kinds c r d flags p e k f =
    let w : parameters (world c) TraitSort r.def_id.0 ≡ Some (map parameter_kind d.parameters) =
    ap (parameters_of TraitSort) (slice_get-map definition_of c.declarations r.def_id.0 ∙ ap (option_map definition_of) e)
    ∙ ap (λ (x : DefinitionKind). if sort_number (sort_of x) == 2 then Some (map parameter_kind d.parameters) else None) k in
    let whole : Some (TypeKind ∷ map parameter_kind d.parameters) ≡ Some (kinds_of (args_forest c.trees r.args)) =
    sym (ap (joined (Some (TypeKind ∷ []))) w) ∙ f in
    cc

clause-at : (f : Held → Bool) (o : Owner) (xs : List Clause) (k : ℕ) (x : Clause) → k < length xs → x ≡ get_or xs k x → list_any f (held_clauses o xs) ≡ false → f (held_clause o x) ≡ false
clause-at f o [] k x l e n = absurd (omega (arith, l))
clause-at f o (y ∷ ys) zero x l e n = ap (λ (z : Clause). f (held_clause o z)) e ∙ or-left _ _ n
clause-at f o (y ∷ ys) (suc k) x l e n = clause-at f o ys k x (omega (arith, l)) e (or-right _ _ n)

abbrev pub NoneMisplaced : Misplaced → Context → Type 0
NoneMisplaced m c = list_any (held_misplaces m c.trees c.declarations c.contents.impls) (all_that_is_held c) ≡ false

pub none-past-them : (c : Context) → IsWellFormedTable c → NoneMisplaced M.Past c
unfolding IsWellFormedTable
none-past-them c t = or-right _ _ (or-right _ _ t.parameters)

pub none-stray : (c : Context) → IsWellFormedTable c → NoneMisplaced M.Stray c
unfolding IsWellFormedTable
none-stray c t = or-left _ _ t.kinds

pub super_has_arguments : (c : Context) → IsWellFormedTable c → length c.contents.traits ≤ no_place → (r : TraitRef) → ArgumentsFit c r → (a : TraitContents)
    → trait_at c r.def_id.0 ≡ Some a → (k : ℕ) (x : Clause) → k < length a.supers → x ≡ get_or a.supers k x
    → tree_holds (lacks_argument (args_forest c.trees r.args)) (clause_tree c.trees x) ≡ false
super_has_arguments c t l r f a s k x b e = of (slice_get c.declarations r.def_id.0) refl
  where
    n : ℕ
    n = r.def_id.0

    Goal : Type 0
    Goal = tree_holds (lacks_argument (args_forest c.trees r.args)) (clause_tree c.trees x) ≡ false

    none-past : (j : ℕ) → slice_get c.contents.traits no_place ≡ Some a → Goal
    none-past j q = let z = sym (slice_get_past c.contents.traits no_place l) ∙ q in absurd cc

    found : (d : Declaration) → slice_get c.declarations n ≡ Some d → (g : TraitFlags) (p : ℕ) → d.kind ≡ D.Trait g p → slice_get c.contents.traits p ≡ Some a → Goal
    found d q g p i at =
        let o = O.Definition n in
        let h = held_clause o x in
        let ks = V.Ty ∷ d.parameters in
        let all : (m : Misplaced) → NoneMisplaced m c → tree_holds (is_misplaced m ks) (clause_tree c.trees x) ≡ false =
        λ m z.
        let test = held_misplaces m c.trees c.declarations c.contents.impls in
        let mine = any-of test (definitions_held c.contents 0 c.declarations) (impls_held 0 c.contents.impls) z in
        let own = subst (λ (y : DefinitionKind). list_any test (definition_held c.contents n y) ≡ false) i (definition-passes test c.contents 0 c.declarations n n d mine q (omega arith)) in
        let supers = subst (λ (y : Option TraitContents). list_any test (if_there (trait_held o) y) ≡ false) at own in
        let here : test h ≡ false = clause-at test o a.supers k x b e (any-of test (held_clauses o a.supers) (held_clauses o a.wheres) supers) in
        let kinds : kinds_of_owner c.declarations c.contents.impls o ≡ Some ks =
        ap kinds_of_declared q ∙ ap (λ (y : DefinitionKind). Some (with_self (has_self y) d.parameters)) i in
        sym (ap (tree_misplaces m (clause_tree c.trees x)) kinds) ∙ here in
        owned-tree (args_forest c.trees r.args) ks (clause_tree c.trees x) (trait-kinds c r d g p q i f) (all M.Past (none-past-them c t)) (all M.Stray (none-stray c t))

    kinds : (d : Declaration) → slice_get c.declarations n ≡ Some d → (y : DefinitionKind) → d.kind ≡ y → slice_get c.contents.traits (trait_place y) ≡ Some a → Goal
    kinds d q (D.Trait g p) i at = found d q g p i at
    kinds d q (D.Adt _ _ _) i at = none-past 0 at
    kinds d q D.Foreign i at = none-past 0 at
    kinds d q (D.Assoc _ _ _ _) i at = none-past 0 at
    kinds d q (D.Alias _) i at = none-past 0 at
    kinds d q (D.Opaque _ _) i at = none-past 0 at
    kinds d q (D.Function _ _) i at = none-past 0 at
    kinds d q (D.Closure _) i at = none-past 0 at

    of : (o : Option Declaration) → slice_get c.declarations n ≡ o → Goal
    of None q = none-past 0 (sym (ap (λ (y : Option Declaration). slice_get c.contents.traits (place_of trait_place y)) q) ∙ s)
    of (Some d) q = kinds d q d.kind refl (sym (ap (λ (y : Option Declaration). slice_get c.contents.traits (place_of trait_place y)) q) ∙ s)

-- the super clause in that place, if there is one
pub super_clause_fits : (c : Context) → IsWellFormedTable c → length c.contents.traits ≤ no_place → (r : TraitRef) → ArgumentsFit c r → (k : ℕ)
    → IfSome (slice_get (supers_at (trait_at c r.def_id.0)) k) (λ x. IsClause c.trees x × (tree_holds (lacks_argument (args_forest c.trees r.args)) (clause_tree c.trees x) ≡ false))
super_clause_fits c t l r f k = of (trait_at c r.def_id.0) refl
  where
    Fits : Clause → Type 0
    Fits x = IsClause c.trees x × (tree_holds (lacks_argument (args_forest c.trees r.args)) (clause_tree c.trees x) ≡ false)

    there : (a : TraitContents) → trait_at c r.def_id.0 ≡ Some a → (o : Option Clause) → slice_get a.supers k ≡ o → IfSome o Fits
    there a s None e = tt
    there a s (Some x) e =
        let fit : ClauseListFits c.trees a.supers = subst (λ (o : Option TraitContents). ClauseListFits c.trees (supers_at o)) s (all_supers_fit c t l r.def_id.0) in
        let low = slice_get_within a.supers k x e in
        let is = sym (get_or_from_slice_get a.supers k x x e) in
        (listed_clause c.trees a.supers k x fit low is, super_has_arguments c t l r f a s k x low is)

    of : (o : Option TraitContents) → trait_at c r.def_id.0 ≡ o → IfSome (slice_get (supers_at o) k) Fits
    of None e = tt
    of (Some a) e = there a e (slice_get a.supers k) refl

-- What a definition holds has an argument for each parameter, among arguments of the kinds of its parameters.

-- arguments that fit a definition of the sort have the kinds of its parameters
sort-kinds : (c : Context) (s : DefinitionSort) (n : ℕ) (args : Forest) (d : Declaration) → parameters (world c) s n ≡ Some (kinds_of args) → slice_get c.declarations n ≡ Some d
    → sort_number (sort_of d.kind) == sort_number s ≡ true → kinds_of args ≡ map parameter_kind d.parameters
sort-kinds c s n args d p e k =
    let w : parameters (world c) s n ≡ Some (map parameter_kind d.parameters) =
    ap (parameters_of s) (slice_get-map definition_of c.declarations n ∙ ap (option_map definition_of) e)
    ∙ ap (λ (b : Bool). if b then Some (map parameter_kind d.parameters) else None) k in
    let whole : Some (kinds_of args) ≡ Some (map parameter_kind d.parameters) = sym p ∙ w in
    cc

-- whatever no held thing of the definition does, this one doesn't
abbrev IsHeld : Context → ℕ → DefinitionKind → Held → Type 0
IsHeld c n y h = (f : Held → Bool) → list_any f (definition_held c.contents n y) ≡ false → f h ≡ false

held-has : (c : Context) → IsWellFormedTable c → (n : ℕ) (d : Declaration) → slice_get c.declarations n ≡ Some d → (y : DefinitionKind) → d.kind ≡ y → has_self y ≡ false → (args : Forest)
    → kinds_of args ≡ map parameter_kind d.parameters → (h : Held) → h.owner ≡ O.Definition n → IsHeld c n y h → tree_holds (lacks_argument args) (tree_at c.trees h.number) ≡ false
held-has c t n d q y i s args k h o own =
    let all : (m : Misplaced) → NoneMisplaced m c → tree_holds (is_misplaced m d.parameters) (tree_at c.trees h.number) ≡ false =
    λ m z.
    let test = held_misplaces m c.trees c.declarations c.contents.impls in
    let mine = any-of test (definitions_held c.contents 0 c.declarations) (impls_held 0 c.contents.impls) z in
    let there = subst (λ (x : DefinitionKind). list_any test (definition_held c.contents n x) ≡ false) i (definition-passes test c.contents 0 c.declarations n n d mine q (omega arith)) in
    let kinds : kinds_of_owner c.declarations c.contents.impls h.owner ≡ Some d.parameters =
    ap (kinds_of_owner c.declarations c.contents.impls) o
    ∙ (ap kinds_of_declared q ∙ (ap (λ (x : DefinitionKind). Some (with_self (has_self x) d.parameters)) i ∙ ap (λ (b : Bool). Some (with_self b d.parameters)) s)) in
    sym (ap (tree_misplaces m (tree_at c.trees h.number)) kinds) ∙ own test there in
    owned-tree args d.parameters (tree_at c.trees h.number) k (all M.Past (none-past-them c t)) (all M.Stray (none-stray c t))

abbrev HoldsType : ℕ → AdtContents → Ty → Type 0
HoldsType n a x = (f : Held → Bool) → list_any f (adt_held (O.Definition n) a) ≡ false → f (held_type (O.Definition n) x) ≡ false

adt-type : (c : Context) → IsWellFormedTable c → length c.contents.adts ≤ no_place → (n : ℕ) (args : Forest) → parameters (world c) AdtSort n ≡ Some (kinds_of args) → (a : AdtContents)
    → adt_at c n ≡ Some a → (x : Ty) → HoldsType n a x → tree_holds (lacks_argument args) (ty_tree c.trees x) ≡ false
adt-type c t l n args p a s x own = of (slice_get c.declarations n) refl
  where
    Goal : Type 0
    Goal = tree_holds (lacks_argument args) (ty_tree c.trees x) ≡ false

    none-past : (j : ℕ) → slice_get c.contents.adts no_place ≡ Some a → Goal
    none-past j q = let z = sym (slice_get_past c.contents.adts no_place l) ∙ q in absurd cc

    found : (d : Declaration) → slice_get c.declarations n ≡ Some d → (h : AdtShape) (g : AdtFlags) (k : ℕ) → d.kind ≡ D.Adt h g k → slice_get c.contents.adts k ≡ Some a → Goal
    found d q h g k i at =
        let o = O.Definition n in
        let kinds = sort-kinds c AdtSort n args d p q (ap (λ (y : DefinitionKind). sort_number (sort_of y) == 0) i) in
        held-has c t n d q (D.Adt h g k) i refl args kinds (held_type o x) refl
        (λ f e. own f (subst (λ (y : Option AdtContents). list_any f (if_there (adt_held o) y) ≡ false) at e))

    kinds : (d : Declaration) → slice_get c.declarations n ≡ Some d → (y : DefinitionKind) → d.kind ≡ y → slice_get c.contents.adts (adt_place y) ≡ Some a → Goal
    kinds d q (D.Adt h g k) i at = found d q h g k i at
    kinds d q (D.Trait _ _) i at = none-past 0 at
    kinds d q D.Foreign i at = none-past 0 at
    kinds d q (D.Assoc _ _ _ _) i at = none-past 0 at
    kinds d q (D.Alias _) i at = none-past 0 at
    kinds d q (D.Opaque _ _) i at = none-past 0 at
    kinds d q (D.Function _ _) i at = none-past 0 at
    kinds d q (D.Closure _) i at = none-past 0 at

    of : (o : Option Declaration) → slice_get c.declarations n ≡ o → Goal
    of None q = none-past 0 (sym (ap (λ (y : Option Declaration). slice_get c.contents.adts (place_of adt_place y)) q) ∙ s)
    of (Some d) q = kinds d q d.kind refl (sym (ap (λ (y : Option Declaration). slice_get c.contents.adts (place_of adt_place y)) q) ∙ s)

type-at : (f : Held → Bool) (o : Owner) (xs : List Ty) (k : ℕ) (x : Ty) → Some x ≡ slice_get xs k → list_any f (held_types o xs) ≡ false → f (held_type o x) ≡ false
type-at f o [] k x e n = absurd cc
type-at f o (y ∷ ys) zero x e n = let same : x ≡ y = cc in ap (λ (z : Ty). f (held_type o z)) same ∙ or-left _ _ n
type-at f o (y ∷ ys) (suc k) x e n = type-at f o ys k x e (or-right _ _ n)

field_has_arguments : (c : Context) → IsWellFormedTable c → length c.contents.adts ≤ no_place → (n : ℕ) (args : Forest) → parameters (world c) AdtSort n ≡ Some (kinds_of args)
    → (k : ℕ) (x : Ty) → Some x ≡ slice_get (maybe [] (λ (a : AdtContents). a.fields) (adt_at c n)) k
    → tree_holds (lacks_argument args) (ty_tree c.trees x) ≡ false
field_has_arguments c t l n args p k x e = of (adt_at c n) refl
  where
    there : Some x ≡ slice_get (maybe [] (λ (a : AdtContents). a.fields) (adt_at c n)) k
    there = e

    of : (o : Option AdtContents) → adt_at c n ≡ o → tree_holds (lacks_argument args) (ty_tree c.trees x) ≡ false
    of None q = let z : Some x ≡ None = there ∙ ap (λ (y : Option AdtContents). slice_get (maybe [] (λ (a : AdtContents). a.fields) y) k) q in absurd cc
    of (Some a) q =
        let z : Some x ≡ slice_get a.fields k = there ∙ ap (λ (y : Option AdtContents). slice_get (maybe [] (λ (b : AdtContents). b.fields) y) k) q in
        adt-type c t l n args p a q x (λ f g. type-at f (O.Definition n) a.fields k x z (any-of f (held_types (O.Definition n) a.fields) (option_held (O.Definition n) a.sized ++ option_held (O.Definition n) a.meta_sized) g))

pub fields_have_arguments : (c : Context) → IsWellFormedTable c → length c.contents.adts ≤ no_place → (n : ℕ) (args : Forest) → parameters (world c) AdtSort n ≡ Some (kinds_of args)
    → (xs : List Ty) → xs ≡ maybe [] (λ (a : AdtContents). a.fields) (adt_at c n) → All (λ t. tree_holds (lacks_argument args) (ty_tree c.trees t) ≡ false) xs
fields_have_arguments c t l n args p xs e = λ k d b.
    field_has_arguments c t l n args p k (get_or xs k d) (sym (slice_get-get_or xs k d b) ∙ ap (λ (ys : List Ty). slice_get ys k) e)

option-at : (f : Held → Bool) (o : Owner) (y : Option Ty) (x : Ty) → Some x ≡ y → list_any f (option_held o y) ≡ false → f (held_type o x) ≡ false
option-at f o None x e n = absurd cc
option-at f o (Some y) x e n = let same : x ≡ y = cc in ap (λ (z : Ty). f (held_type o z)) same ∙ or-left _ _ n

constraint-at : (f : Held → Bool) (o : Owner) (a : AdtContents) (z : Sizedness) (x : Ty) → Some x ≡ constraint z a → list_any f (adt_held o a) ≡ false → f (held_type o x) ≡ false
constraint-at f o a z x e n = of z e
  where
    both : list_any f (option_held o a.sized ++ option_held o a.meta_sized) ≡ false
    both = any-right f (held_types o a.fields) (option_held o a.sized ++ option_held o a.meta_sized) n

    of : (y : Sizedness) → Some x ≡ constraint y a → f (held_type o x) ≡ false
    of Z.Sized i = option-at f o a.sized x i (any-of f (option_held o a.sized) (option_held o a.meta_sized) both)
    of Z.MetaSized i = option-at f o a.meta_sized x i (any-right f (option_held o a.sized) (option_held o a.meta_sized) both)

pub constraint_has_arguments : (c : Context) → IsWellFormedTable c → length c.contents.adts ≤ no_place → (n : ℕ) (args : Forest) → parameters (world c) AdtSort n ≡ Some (kinds_of args)
    → (z : Sizedness) (x : Ty) → Some x ≡ maybe None (constraint z) (adt_at c n) → tree_holds (lacks_argument args) (ty_tree c.trees x) ≡ false
constraint_has_arguments c t l n args p z x e = of (adt_at c n) refl
  where
    of : (o : Option AdtContents) → adt_at c n ≡ o → tree_holds (lacks_argument args) (ty_tree c.trees x) ≡ false
    of None q = let y : Some x ≡ None = e ∙ ap (maybe None (constraint z)) q in absurd cc
    of (Some a) q = adt-type c t l n args p a q x (λ f g. constraint-at f (O.Definition n) a z x (e ∙ ap (maybe None (constraint z)) q) g)

pub hidden_has_arguments : (c : Context) → IsWellFormedTable c → (n : ℕ) (args : Forest) → parameters (world c) OpaqueSort n ≡ Some (kinds_of args)
    → (x : Ty) → Some x ≡ hidden_type (definition c n) → tree_holds (lacks_argument args) (ty_tree c.trees x) ≡ false
hidden_has_arguments c t n args p x e = of (slice_get c.declarations n) refl
  where
    Goal : Type 0
    Goal = tree_holds (lacks_argument args) (ty_tree c.trees x) ≡ false

    kinds : (d : Declaration) → slice_get c.declarations n ≡ Some d → (y : DefinitionKind) → d.kind ≡ y → Some x ≡ hidden_type (Some y) → Goal
    kinds d q (D.Opaque hidden k) i same =
        let o = O.Definition n in
        let it : x ≡ hidden = cc in
        held-has c t n d q (D.Opaque hidden k) i refl args (sort-kinds c OpaqueSort n args d p q (ap (λ (y : DefinitionKind). sort_number (sort_of y) == 6) i)) (held_type o x) refl
        (λ f g. ap (λ (z : Ty). f (held_type o z)) it ∙ or-left _ _ g)
    kinds d q (D.Adt _ _ _) i same = absurd cc
    kinds d q (D.Trait _ _) i same = absurd cc
    kinds d q D.Foreign i same = absurd cc
    kinds d q (D.Assoc _ _ _ _) i same = absurd cc
    kinds d q (D.Alias _) i same = absurd cc
    kinds d q (D.Function _ _) i same = absurd cc
    kinds d q (D.Closure _) i same = absurd cc

    of : (o : Option Declaration) → slice_get c.declarations n ≡ o → Goal
    of None q = let z : Some x ≡ None = e ∙ ap (λ (y : Option Declaration). hidden_type (kind_of_declared y)) q in absurd cc
    of (Some d) q = kinds d q d.kind refl (e ∙ ap (λ (y : Option Declaration). hidden_type (kind_of_declared y)) q)

first-held : (f : Held → Bool) (x y z : Held) → list_any f (x ∷ y ∷ z ∷ []) ≡ false → f x ≡ false
first-held f x y z e = or-left (f x) (list_any f (y ∷ z ∷ [])) e

second-held : (f : Held → Bool) (x y z : Held) → list_any f (x ∷ y ∷ z ∷ []) ≡ false → f y ≡ false
second-held f x y z e = or-left (f y) (list_any f (z ∷ [])) (or-right (f x) (list_any f (y ∷ z ∷ [])) e)

third-held : (f : Held → Bool) (x y z : Held) → list_any f (x ∷ y ∷ z ∷ []) ≡ false → f z ≡ false
third-held f x y z e = or-left (f z) false (or-right (f y) (list_any f (z ∷ [])) (or-right (f x) (list_any f (y ∷ z ∷ [])) e))

pub sig_has_arguments : (c : Context) → IsWellFormedTable c → (n : ℕ) (args : Forest) → parameters (world c) FunctionSort n ≡ Some (kinds_of args)
    → (o : Option (Binder FnSig)) → o ≡ fn_sig (definition c n) → IfSome o (SignatureHas c.trees args)
sig_has_arguments c t n args p None e = tt
sig_has_arguments c t n args p (Some s) e = of (slice_get c.declarations n) refl
  where
    Goal : Type 0
    Goal = SignatureHas c.trees args s

    found : (d : Declaration) → slice_get c.declarations n ≡ Some d → (flags : FnFlags) (g : Binder FnSig) → d.kind ≡ D.Function flags g → SignatureHas c.trees args g
    found d q flags g i =
        let o = O.Definition n in
        let kinds = sort-kinds c FunctionSort n args d p q (ap (λ (y : DefinitionKind). sort_number (sort_of y) == 7) i) in
        let v : Held = record { owner = o; sort = HS.Vars; number = g.vars.0; under_binder = false } in
        let x : Held = record { owner = o; sort = HS.Args; number = g.value.inputs.0; under_binder = true } in
        let y : Held = record { owner = o; sort = HS.Ty; number = g.value.output.0; under_binder = true } in
        record {
          vars = held-has c t n d q (D.Function flags g) i refl args kinds v refl (λ f l. first-held f v x y l);
          inputs = held-has c t n d q (D.Function flags g) i refl args kinds x refl (λ f l. second-held f v x y l);
          output = held-has c t n d q (D.Function flags g) i refl args kinds y refl (λ f l. third-held f v x y l);
        }

    kinds : (d : Declaration) → slice_get c.declarations n ≡ Some d → (y : DefinitionKind) → d.kind ≡ y → Some s ≡ fn_sig (Some y) → Goal
    kinds d q (D.Function flags g) i same =
        let it : s ≡ g = cc in
        subst (SignatureHas c.trees args) (sym it) (found d q flags g i)
    kinds d q (D.Adt _ _ _) i same = absurd cc
    kinds d q (D.Trait _ _) i same = absurd cc
    kinds d q D.Foreign i same = absurd cc
    kinds d q (D.Assoc _ _ _ _) i same = absurd cc
    kinds d q (D.Alias _) i same = absurd cc
    kinds d q (D.Opaque _ _) i same = absurd cc
    kinds d q (D.Closure _) i same = absurd cc

    of : (o : Option Declaration) → slice_get c.declarations n ≡ o → Goal
    of None q = let z : Some s ≡ None = e ∙ ap (λ (y : Option Declaration). fn_sig (kind_of_declared y)) q in absurd cc
    of (Some d) q = kinds d q d.kind refl (e ∙ ap (λ (y : Option Declaration). fn_sig (kind_of_declared y)) q)

-- a type of a list that fits is a type
pub listed_type : (ts : List Tree) (xs : List Ty) (k : ℕ) (x : Ty) → TypesFit ts xs → Some x ≡ slice_get xs k → IsTy ts x
listed_type ts [] k x f e = absurd cc
listed_type ts (y ∷ ys) zero x f e =
    let same : x ≡ y = cc in
    let here : IsTy ts y = cc in
    subst (IsTy ts) (sym same) here
listed_type ts (y ∷ ys) (suc k) x f e = let rest : TypesFit ts ys = cc in listed_type ts ys k x rest e
