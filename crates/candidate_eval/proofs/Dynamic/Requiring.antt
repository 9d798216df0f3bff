-- What an object has to fulfil, over a context that grows.
use Rattle.std.proofs.Common.{◌≡◌, ℕ, List, [], ◌∷◌, ◌++◌, Bool, true, false, Option, Some, None, refl, sym, ◌∙◌, ap, subst, append_assoc}
use Rattle.std.specs.Prelude.{map, slice_get, option_map, IfSome, not, ◌&&◌, if◌then◌else◌, ◌==◌}
use Rattle.std.specs.List.{flat_map}
use Rattle.std.proofs.lemmas.List.{append-nil, map-append}
use Rattle.std.proofs.lemmas.List.Concat.{flat_map_single}
use Rattle.std.proofs.lemmas.Option.{slice_get-map}
use Rattle.ir_trees.specs.declared.decl.definition.AssocKind.TheVariants as A
use Rattle.ir_trees.specs.declared.decl.definition.DefinitionKind.{DefinitionKind}
use Rattle.ir_trees.specs.declared.decl.definition.DefinitionKind.TheVariants as D
use Rattle.ir_trees.specs.declared.ir.heads.Head.{Head}
use Rattle.ir_trees.specs.declared.ir.heads.Head.TheVariants as H
use Rattle.ir_trees.specs.declared.ir.heads.PartHead.TheVariants as P
use Rattle.ir_trees.specs.declared.ir.heads.ClauseHead.TheVariants as Cl
use Rattle.ir_trees.specs.declared.ir.kinds.Args.{Args}
use Rattle.ir_trees.specs.declared.ir.kinds.AssocId.{AssocId}
use Rattle.ir_trees.specs.declared.ir.kinds.Clause.{Clause}
use Rattle.ir_trees.specs.declared.ir.kinds.PredicatePolarity.TheVariants as Polarity
use Rattle.ir_trees.specs.declared.ir.kinds.TraitRef.{TraitRef}
use Rattle.ir_trees.specs.Declarations.Contents.{Bounds, TraitContents}
use Rattle.ir_trees.specs.Declarations.Context.{Context, Grows, world, definition_of, parameter_kind, sort_of}
use Rattle.ir_trees.specs.Declarations.Declaration.{Declaration}
use Rattle.ir_trees.specs.Declarations.Declaring.{bounds_at, bounds_place, place_of, trait_at, trait_place}
use Rattle.ir_trees.specs.Hierarchy.Elaboration.{SuperClauses, Elaborates, ended, step, IsElaboration, implied, implied_by, super_clauses, unlisted}
use Rattle.ir_trees.specs.Instantiation.Folding.{lacks_argument, substituted_tree}
use Rattle.ir_trees.specs.Validity.Held.{definition_held}
use Rattle.ir_trees.specs.Declarations.Lookups.{assoc_kind, kind_of_declared, maybe, requires_sized_self}
use Rattle.ir_trees.specs.Declarations.References.{ArgumentsFit, IsWellFormed, FitsAmong}
use Rattle.ir_trees.specs.Hierarchy.Supers.{supers_at}
use Rattle.ir_trees.specs.Hierarchy.Supertraits.{head_trait}
use Rattle.ir_trees.specs.Syntax.Trees.{Kind, TypeKind, BinderKind, Forest, Tree, tree_holds}
use Rattle.ir_trees.specs.Validity.WellFormed.{IsWellFormedTable, AreGiven}
use Rattle.ir_trees.specs.Syntax.Words.{IsArgs, IsClause, ClauseListFits, args_forest, clause_tree}
use Rattle.ir_trees.specs.Declarations.Worlds.{World, TraitSort, joined, kinds_of, parameters, parameters_of, sort_number}
use Rattle.ir_context.proofs.Validity.Given.{definition_given, non_self_bounds_fit, self_bounds_fit, supers_fit}
use Rattle.ir_folds.proofs.Instantiation.Joining.{clause-kept}
use Rattle.ir_trees.proofs.Growth.Kept.{args-kept, grows-trans, world-kept}
use Rattle.ir_context.proofs.Hierarchy.Listing.{clauses_kept}
use Rattle.ir_trees.proofs.Kinding.References.{fit-at}
use Rattle.candidate_eval.specs.declared.objects.required.Declared.{Declared}
use Rattle.candidate_eval.specs.declared.objects.required.Declared.TheVariants as W
use Rattle.candidate_eval.specs.Dynamic.Required.{AreRequirements, bounds_of_items, declared_at, declared_trees, is_required, is_type_item, item_bounds, items_of, non_self_bounds, required_bounds, self_bounds, with_arguments}

-- A clause with arguments put in

pub all_there : (args : Forest) (t : Tree) → tree_holds (lacks_argument args) t ≡ false → substituted_tree args t ≡ with_arguments args t
all_there args t e = rw e refl

-- What is declared stays

declared-same : (start now : Context) (of : Declared) → Grows start now → declared_at now of ≡ declared_at start of
declared-same start now (W.SuperClauses i) g = ap (λ (c : Context). supers_at (trait_at c i.0)) g.same
declared-same start now (W.SelfBounds i) g = ap (λ (c : Context). self_bounds c i.0) g.same
declared-same start now (W.NonSelfBounds i) g = ap (λ (c : Context). non_self_bounds c i.0) g.same

trees-stay : (start now : Context) (of : Declared) → Grows start now → ClauseListFits start.trees (declared_at start of) → declared_trees now of ≡ declared_trees start of
trees-stay start now of g f = ap (map (clause_tree now.trees)) (declared-same start now of g) ∙ (clauses_kept start.trees now.trees (declared_at start of) g.kept f).1

pub declared_stays : (start now : Context) (of : Declared) (a : Args) → Grows start now → IsArgs start.trees a → ClauseListFits start.trees (declared_at start of)
    → map (with_arguments (args_forest now.trees a)) (declared_trees now of) ≡ map (with_arguments (args_forest start.trees a)) (declared_trees start of)
declared_stays start now of a g i f =
    ap (λ (x : Forest). map (with_arguments x) (declared_trees now of)) (args-kept start now a g i).1 ∙ ap (map (with_arguments (args_forest start.trees a))) (trees-stay start now of g f)

-- one clause, with the arguments put in
abbrev pub clause_with : List Tree → Args → Clause → List Tree
clause_with ts a x = with_arguments (args_forest ts a) (clause_tree ts x) ∷ []

pub clause_stays : (start now : Context) (a : Args) (x : Clause) → Grows start now → IsArgs start.trees a → IsClause start.trees x
    → with_arguments (args_forest now.trees a) (clause_tree now.trees x) ≡ with_arguments (args_forest start.trees a) (clause_tree start.trees x)
clause_stays start now a x g i j =
    ap (λ (f : Forest). with_arguments f (clause_tree now.trees x)) (args-kept start now a g i).1 ∙ ap (with_arguments (args_forest start.trees a)) (clause-kept start now x g j).1

pub declared_read : (c d : Context) (of : Declared) (xs ys : List Clause) → d ≡ c → ys ≡ xs → xs ≡ declared_at d of → ClauseListFits d.trees xs → (ys ≡ declared_at c of) × ClauseListFits c.trees ys
declared_read c d of xs ys q s e f = (s ∙ (e ∙ ap (λ (x : Context). declared_at x of) q), rw s (subst (λ (x : Context). ClauseListFits x.trees xs) q f))

pub all_declared : (c : Context) (a : Args) (of : Declared) (xs : List Clause) → xs ≡ declared_at c of → flat_map (clause_with c.trees a) xs ≡ map (with_arguments (args_forest c.trees a)) (declared_trees c of)
all_declared c a of xs e =
    flat_map_single (λ (x : Clause). with_arguments (args_forest c.trees a) (clause_tree c.trees x)) xs
    ∙ (sym (map-map xs) ∙ ap (λ (ys : List Clause). map (with_arguments (args_forest c.trees a)) (map (clause_tree c.trees) ys)) e)
  where
    map-map : (ys : List Clause) → map (with_arguments (args_forest c.trees a)) (map (clause_tree c.trees) ys) ≡ map (λ (x : Clause). with_arguments (args_forest c.trees a) (clause_tree c.trees x)) ys
    map-map [] = refl
    map-map (y ∷ ys) = ap (λ (us : List Tree). with_arguments (args_forest c.trees a) (clause_tree c.trees y) ∷ us) (map-map ys)

-- What a definition holds is there

held : (c : Context) (n : ℕ) (d : Declaration) → IsWellFormedTable c → slice_get c.declarations n ≡ Some d → AreGiven c (definition_held c.contents n d.kind)
held c n d t q = subst (λ (o : Option Declaration). IfSome (kind_of_declared o) (λ k. AreGiven c (definition_held c.contents n k))) q (definition_given c t n)

-- The bounds of an associated type are clauses.

abbrev BoundsAre : List Tree → Option Bounds → Type 0
BoundsAre ts o = ClauseListFits ts (maybe [] (λ (b : Bounds). b.self_bounds) o) × ClauseListFits ts (maybe [] (λ (b : Bounds). b.non_self_bounds) o)

abbrev item-required : Option DefinitionKind → Bool
item-required k = is_type_item (assoc_kind k) && not (requires_sized_self k)

bounds-of : (c : Context) (n : ℕ) (k : DefinitionKind) → item-required (Some k) ≡ true → AreGiven c (definition_held c.contents n k) → BoundsAre c.trees (slice_get c.contents.bounds (bounds_place k))
bounds-of c n (D.Assoc i A.Type sized p) r g = of (slice_get c.contents.bounds p) refl
  where
    of : (o : Option Bounds) → slice_get c.contents.bounds p ≡ o → BoundsAre c.trees o
    of None q = (refl, refl)
    of (Some b) q = let there = rw q at g in (self_bounds_fit c _ b there, non_self_bounds_fit c _ b there)
bounds-of c n (D.Assoc of A.Const sized p) r g = absurd cc
bounds-of c n (D.Adt _ _ _) r g = absurd cc
bounds-of c n (D.Trait _ _) r g = absurd cc
bounds-of c n D.Foreign r g = absurd cc
bounds-of c n (D.Alias _) r g = absurd cc
bounds-of c n (D.Opaque _ _) r g = absurd cc
bounds-of c n (D.Function _ _) r g = absurd cc
bounds-of c n (D.Closure _) r g = absurd cc

pub item_bounds_fit : (c : Context) (i : AssocId) → IsWellFormedTable c → is_required c i ≡ true → ClauseListFits c.trees (self_bounds c i.0) × ClauseListFits c.trees (non_self_bounds c i.0)
item_bounds_fit c i t r = of (slice_get c.declarations i.0) refl
  where
    of : (o : Option Declaration) → slice_get c.declarations i.0 ≡ o → BoundsAre c.trees (bounds_at c i.0)
    of None q = let no : false ≡ true = sym (ap (λ (o : Option Declaration). item-required (kind_of_declared o)) q) ∙ r in absurd cc
    of (Some d) q =
        subst (λ (o : Option Declaration). BoundsAre c.trees (slice_get c.contents.bounds (place_of bounds_place o))) (sym q)
        (bounds-of c i.0 d.kind (sym (ap (λ (o : Option Declaration). item-required (kind_of_declared o)) q) ∙ r) (held c i.0 d t q))

-- So they stay, and with them those of all items.

item-stays : (start now : Context) (i : AssocId) → IsWellFormedTable start → Grows start now → is_required start i ≡ true → item_bounds now i ≡ item_bounds start i
item-stays start now i t g r =
    let f = item_bounds_fit start i t r in
    let own = ap (λ (c : Context). map (clause_tree now.trees) (self_bounds c i.0)) g.same ∙ (clauses_kept start.trees now.trees (self_bounds start i.0) g.kept f.0).1 in
    let others = ap (λ (c : Context). map (clause_tree now.trees) (non_self_bounds c i.0)) g.same ∙ (clauses_kept start.trees now.trees (non_self_bounds start i.0) g.kept f.1).1 in
    ap (λ (ts : List Tree). ts ++ map (clause_tree now.trees) (non_self_bounds now i.0)) own ∙ ap (λ (ts : List Tree). map (clause_tree start.trees) (self_bounds start i.0) ++ ts) others

one-stays : (start now : Context) (i : AssocId) (is : List AssocId) → IsWellFormedTable start → Grows start now → (b : Bool) → is_required start i ≡ b → bounds_of_items now is ≡ bounds_of_items start is
    → bounds_of_items now (i ∷ is) ≡ bounds_of_items start (i ∷ is)
one-stays start now i is t g true r others =
    let same = ap (λ (c : Context). is_required c i) g.same in
    rw (same ∙ r, r) (ap (λ (ts : List Tree). ts ++ bounds_of_items now is) (item-stays start now i t g r) ∙ ap (λ (ts : List Tree). item_bounds start i ++ ts) others)
one-stays start now i is t g false r others =
    let same = ap (λ (c : Context). is_required c i) g.same in
    rw (same ∙ r, r) others

pub items_stay : (start now : Context) (is : List AssocId) → IsWellFormedTable start → Grows start now → bounds_of_items now is ≡ bounds_of_items start is
items_stay start now [] t g = refl
items_stay start now (i ∷ is) t g = one-stays start now i is t g (is_required start i) refl (items_stay start now is t g)

pub required_stays : (start now : Context) (i : ℕ) → IsWellFormedTable start → Grows start now → required_bounds now i ≡ required_bounds start i
required_stays start now i t g = ap (λ (c : Context). bounds_of_items now (items_of c i)) g.same ∙ items_stay start now (items_of start i) t g

-- One item

pub both_bounds : (old mid : Context) (i : AssocId) (a : Args) (before between : List Clause) → IsWellFormedTable old → is_required old i ≡ true → IsArgs old.trees a → Grows old mid
    → map (clause_tree mid.trees) between ≡ map (clause_tree old.trees) before ++ map (with_arguments (args_forest old.trees a)) (declared_trees old (W.SelfBounds (record { 0 = i.0 })))
    → map (clause_tree mid.trees) between ++ map (with_arguments (args_forest mid.trees a)) (declared_trees mid (W.NonSelfBounds (record { 0 = i.0 })))
    ≡ map (clause_tree old.trees) before ++ map (with_arguments (args_forest old.trees a)) (item_bounds old i)
both_bounds old mid i a before between t r h g first =
    let f = with_arguments (args_forest old.trees a) in
    let own = map (clause_tree old.trees) (self_bounds old i.0) in
    let others = map (clause_tree old.trees) (non_self_bounds old i.0) in
    let start = map (clause_tree old.trees) before in
    let stays = declared_stays old mid (W.NonSelfBounds (record { 0 = i.0 })) a g h (item_bounds_fit old i t r).1 in
    ap (λ (ts : List Tree). map (clause_tree mid.trees) between ++ ts) stays
    ∙ (ap (λ (ts : List Tree). ts ++ map f others) first
    ∙ (append_assoc start (map f own) (map f others) ∙ ap (λ (ts : List Tree). start ++ ts) (sym (map-append f own others))))

pub required_now : (c d : Context) (i : AssocId) (b x : Bool) → d ≡ c → b ≡ is_required d i → b ≡ x → is_required c i ≡ x
required_now c d i b x q e f = ap (λ (y : Context). is_required y i) (sym q) ∙ (sym e ∙ f)

-- the bounds of an item, with the arguments put in, if an object has it
abbrev pub item_with : Context → Forest → AssocId → List Tree
item_with c args i = map (with_arguments args) (bounds_of_items c (i ∷ []))

pub item_there : (start now : Context) (a : Args) (i : AssocId) → IsWellFormedTable start → Grows start now → IsArgs start.trees a → is_required now i ≡ true
    → map (with_arguments (args_forest now.trees a)) (item_bounds now i) ≡ item_with start (args_forest start.trees a) i
item_there start now a i t g h r =
    let own : bounds_of_items now (i ∷ []) ≡ item_bounds now i = rw r (append-nil (item_bounds now i)) in
    ap (λ (f : Forest). map (with_arguments f) (item_bounds now i)) (args-kept start now a g h).1
    ∙ ap (map (with_arguments (args_forest start.trees a))) (sym own ∙ items_stay start now (i ∷ []) t g)

pub item_left : (start now : Context) (args : Forest) (i : AssocId) → Grows start now → is_required now i ≡ false → item_with start args i ≡ []
item_left start now args i g r = let none = sym (ap (λ (c : Context). is_required c i) g.same) ∙ r in rw none refl

pub all_items : (c : Context) (args : Forest) (is : List AssocId) → flat_map (item_with c args) is ≡ map (with_arguments args) (bounds_of_items c is)
all_items c args [] = refl
all_items c args (i ∷ is) =
    ap (λ (us : List Tree). item_with c args i ++ us) (all_items c args is)
    ∙ (sym (map-append (with_arguments args) (bounds_of_items c (i ∷ [])) (bounds_of_items c is))
    ∙ ap (map (with_arguments args)) (joined-items (is_required c i) refl))
  where
    joined-items : (b : Bool) → is_required c i ≡ b → bounds_of_items c (i ∷ []) ++ bounds_of_items c is ≡ bounds_of_items c (i ∷ is)
    joined-items true q = rw q (ap (λ (us : List Tree). us ++ bounds_of_items c is) (append-nil (item_bounds c i)))
    joined-items false q = rw q refl

-- The super clauses of a declared trait are clauses.

abbrev SupersAre : List Tree → Option TraitContents → Type 0
SupersAre ts o = ClauseListFits ts (supers_at o)

abbrev parameters-if : DefinitionKind → List Kind → Option (List Kind)
parameters-if k ps = if sort_number (sort_of k) == 2 then Some ps else None

supers-of : (c : Context) (n : ℕ) (k : DefinitionKind) (ps ks : List Kind) → parameters-if k ps ≡ Some ks → AreGiven c (definition_held c.contents n k)
    → SupersAre c.trees (slice_get c.contents.traits (trait_place k))
supers-of c n (D.Trait flags p) ps ks e g = of (slice_get c.contents.traits p) refl
  where
    of : (o : Option TraitContents) → slice_get c.contents.traits p ≡ o → SupersAre c.trees o
    of None q = refl
    of (Some a) q = let there = rw q at g in supers_fit c _ a there
supers-of c n (D.Assoc of A.Type sized p) ps ks e g = absurd cc
supers-of c n (D.Assoc of A.Const sized p) ps ks e g = absurd cc
supers-of c n (D.Adt _ _ _) ps ks e g = absurd cc
supers-of c n D.Foreign ps ks e g = absurd cc
supers-of c n (D.Alias _) ps ks e g = absurd cc
supers-of c n (D.Opaque _ _) ps ks e g = absurd cc
supers-of c n (D.Function _ _) ps ks e g = absurd cc
supers-of c n (D.Closure _) ps ks e g = absurd cc

trait-supers : (c : Context) (i : ℕ) (ks : List Kind) → IsWellFormedTable c → parameters (world c) TraitSort i ≡ Some ks → SupersAre c.trees (trait_at c i)
trait-supers c i ks t p = of (slice_get c.declarations i) refl
  where
    there : parameters_of TraitSort (option_map definition_of (slice_get c.declarations i)) ≡ Some ks
    there = sym (ap (parameters_of TraitSort) (slice_get-map definition_of c.declarations i)) ∙ p

    of : (o : Option Declaration) → slice_get c.declarations i ≡ o → SupersAre c.trees (trait_at c i)
    of None q = let no : None ≡ Some ks = sym (ap (λ (o : Option Declaration). parameters_of TraitSort (option_map definition_of o)) q) ∙ there in absurd cc
    of (Some d) q =
        subst (λ (o : Option Declaration). SupersAre c.trees (slice_get c.contents.traits (place_of trait_place o))) (sym q)
        (supers-of c i d.kind (map parameter_kind d.parameters) ks (sym (ap (λ (o : Option Declaration). parameters_of TraitSort (option_map definition_of o)) q) ∙ there) (held c i d t q))

supers-stay : (start now : Context) (i : ℕ) (ks : List Kind) → IsWellFormedTable start → Grows start now → parameters (world start) TraitSort i ≡ Some ks → super_clauses now i ≡ super_clauses start i
supers-stay start now i ks t g p =
    ap (λ (c : Context). map (clause_tree now.trees) (supers_at (trait_at c i))) g.same ∙ (clauses_kept start.trees now.trees (supers_at (trait_at start i)) g.kept (trait-supers start i ks t p)).1

-- What a clause implies stays: it names a trait that is declared.

pub record IsParameters (w : World) (i : ℕ) : Type 0 where
  pub kinds : List Kind
  pub are : parameters w TraitSort i ≡ Some kinds

trait-parameters : (w : World) (i : ℕ) (o : Option (List Kind)) (ks : List Kind) → parameters w TraitSort i ≡ o → joined (Some (BinderKind ∷ [])) (joined (Some (TypeKind ∷ [])) o) ≡ Some ks → IsParameters w i
trait-parameters w i None ks e j = absurd cc
trait-parameters w i (Some ps) ks e j = record { kinds = ps; are = e }

abbrev IsStill : SuperClauses → SuperClauses → Tree → Type 0
IsStill s r t = implied_by s t ≡ implied_by r t

implied-stays : (start mid : Context) (t : Tree) → IsWellFormedTable start → Grows start mid → FitsAmong (world start) t → IsStill (super_clauses mid) (super_clauses start) t
implied-stays start mid t w g f = of t.head refl
  where
    Goal : Type 0
    Goal = IsStill (super_clauses mid) (super_clauses start) t

    nothing : head_trait t.head ≡ None → Goal
    nothing e = rw e refl

    named : (i : ℕ) → head_trait t.head ≡ Some i → IsParameters (world start) i → Goal
    named i e p = rw e (ap (map (implied t)) (supers-stay start mid i p.kinds w g p.are))

    of : (h : Head) → t.head ≡ h → Goal
    of (H.Part (P.Clause (Cl.Trait i Polarity.Positive))) e =
        let fits : FitsAmong (world start) (record { head = H.Part (P.Clause (Cl.Trait i Polarity.Positive)); children = t.children }) =
        subst (λ (x : Head). let u : Tree = record { head = x; children = t.children } in FitsAmong (world start) u) e f in
        named i.0 (ap head_trait e) (trait-parameters (world start) i.0 (parameters (world start) TraitSort i.0) (kinds_of t.children) refl fits.0)
    of (H.Part (P.Clause (Cl.Trait i Polarity.Negative))) e = nothing (ap head_trait e)
    of (H.Part (P.Clause (Cl.Projection i))) e = nothing (ap head_trait e)
    of (H.Part (P.Clause Cl.TypeOutlives)) e = nothing (ap head_trait e)
    of (H.Part (P.Clause Cl.RegionOutlives)) e = nothing (ap head_trait e)
    of (H.Part (P.Clause Cl.AliasRelate)) e = nothing (ap head_trait e)
    of (H.Part (P.Clause Cl.ConstEquate)) e = nothing (ap head_trait e)
    of (H.Part (P.Pred _)) e = nothing (ap head_trait e)
    of (H.Part P.Sig) e = nothing (ap head_trait e)
    of (H.Part P.Vars) e = nothing (ap head_trait e)
    of (H.Part (P.Var _)) e = nothing (ap head_trait e)
    of (H.Builtin _) e = nothing (ap head_trait e)
    of (H.Ref _) e = nothing (ap head_trait e)
    of (H.Adt _) e = nothing (ap head_trait e)
    of (H.Foreign _) e = nothing (ap head_trait e)
    of H.Dynamic e = nothing (ap head_trait e)
    of (H.FnDef _) e = nothing (ap head_trait e)
    of (H.Closure _ _) e = nothing (ap head_trait e)
    of (H.Param _) e = nothing (ap head_trait e)
    of (H.Alias _ _) e = nothing (ap head_trait e)
    of (H.Placeholder _) e = nothing (ap head_trait e)
    of (H.Bound _) e = nothing (ap head_trait e)
    of (H.Infer _) e = nothing (ap head_trait e)
    of H.Error e = nothing (ap head_trait e)
    of (H.Const _) e = nothing (ap head_trait e)
    of (H.Region _) e = nothing (ap head_trait e)
    of (H.List _) e = nothing (ap head_trait e)

abbrev AreStill : SuperClauses → SuperClauses → List Tree → Type 0
AreStill s r [] = Unit {0}
AreStill s r (t ∷ ts) = IsStill s r t × AreStill s r ts

all-still : (start mid last : Context) (xs : List Clause) → IsWellFormedTable start → Grows start mid → Grows start last → IsWellFormed last
    → AreStill (super_clauses mid) (super_clauses start) (map (clause_tree last.trees) xs)
all-still start mid last [] t g h w = tt
all-still start mid last (x ∷ xs) t g h w =
    let fits : FitsAmong (world start) (clause_tree last.trees x) = subst (λ (v : World). FitsAmong v (clause_tree last.trees x)) (world-kept start last h).0 (fit-at (world last) last.trees w x.0) in
    (implied-stays start mid (clause_tree last.trees x) t g fits, all-still start mid last xs t g h w)

first-still : (s r : SuperClauses) (ts us : List Tree) → AreStill s r (ts ++ us) → AreStill s r ts
first-still s r [] us a = tt
first-still s r (t ∷ ts) us a = (a.0, first-still s r ts us a.1)

last-still : (s r : SuperClauses) (ts us : List Tree) → AreStill s r (ts ++ us) → AreStill s r us
last-still s r [] us a = a
last-still s r (t ∷ ts) us a = last-still s r ts us a.1

both-still : (s r : SuperClauses) (ts us : List Tree) → AreStill s r ts → AreStill s r us → AreStill s r (ts ++ us)
both-still s r [] us a b = b
both-still s r (t ∷ ts) us a b = (a.0, both-still s r ts us a.1 b)

-- What is walked and what is left are in the whole list.
walk-still : {s : SuperClauses} (r : SuperClauses) {walked left all : List Tree} → Elaborates s walked left all → AreStill s r all → AreStill s r walked × AreStill s r left
walk-still r ended a = (a, tt)
walk-still {s} r {walked} (step {left = left} {t = t} e) a =
    let b = walk-still r e a in
    let here = last-still s r walked (t ∷ []) b.0 in
    (first-still s r walked (t ∷ []) b.0, (here.0, first-still s r left (unlisted (walked ++ t ∷ left) (implied_by s t)) b.1))

-- So the elaboration is the same by either.
elaborates-still : {s : SuperClauses} (r : SuperClauses) {walked left all : List Tree} → Elaborates s walked left all → AreStill s r all → Elaborates r walked left all
elaborates-still r ended a = ended
elaborates-still {s} r {walked} (step {left = left} {all = all} {t = t} e) a =
    let b = walk-still r (step e) a in
    step (subst (λ (ts : List Tree). Elaborates r (walked ++ t ∷ []) (left ++ unlisted (walked ++ t ∷ left) ts) all) b.1.0 (elaborates-still r e a))

pub are_requirements : (start mid last new : Context) (i : ℕ) (a : Args) (supers all list : List Clause) → IsWellFormedTable start → IsWellFormed last → Grows start mid → Grows mid last → IsArgs start.trees a
    → map (clause_tree mid.trees) supers ≡ map (with_arguments (args_forest start.trees a)) (super_clauses start i)
    → IsElaboration mid (map (clause_tree mid.trees) supers) (map (clause_tree last.trees) all)
    → map (clause_tree new.trees) list ≡ map (clause_tree last.trees) all ++ map (with_arguments (args_forest last.trees a)) (required_bounds last i)
    → AreRequirements start i (args_forest start.trees a) (map (clause_tree new.trees) list)
are_requirements start mid last new i a supers all list t w g h k first walk rest =
    let far = grows-trans start mid last g h in
    let args = args_forest start.trees a in
    let whole = map (clause_tree last.trees) all in
    record {
      supers = whole;
      elaborated =
          subst (λ (ts : List Tree). IsElaboration start ts whole) first
          (elaborates-still (super_clauses start) walk (all-still start mid last all t g far w));
      are =
          rest
          ∙ (ap (λ (f : Forest). whole ++ map (with_arguments f) (required_bounds last i)) (args-kept start last a far k).1
          ∙ ap (λ (ts : List Tree). whole ++ map (with_arguments args) ts) (required_stays start last i t far));
    }

-- Requirements of a context that has grown are those of the one at the start, where the trait is declared.

pub declared-parameters : (start now : Context) (r : TraitRef) → Grows start now → ArgumentsFit now r → IsParameters (world start) r.def_id.0
declared-parameters start now r g f = at (parameters (world start) TraitSort r.def_id.0) refl
  where
    at : (o : Option (List Kind)) → parameters (world start) TraitSort r.def_id.0 ≡ o → IsParameters (world start) r.def_id.0
    at None e =
        let same : joined (Some (TypeKind ∷ [])) (parameters (world start) TraitSort r.def_id.0) ≡ Some (kinds_of (args_forest now.trees r.args)) =
        ap (λ (w : World). joined (Some (TypeKind ∷ [])) (parameters w TraitSort r.def_id.0)) (sym (world-kept start now g).0) ∙ f in
        let z = sym (ap (joined (Some (TypeKind ∷ []))) e) ∙ same in absurd cc
    at (Some ks) e = record { kinds = ks; are = e }

pub requirements-back : (start now last : Context) (i : ℕ) (args : Forest) (items : List Clause) → IsWellFormedTable start → IsWellFormed last → Grows start now → Grows start last → IsParameters (world start) i
    → AreRequirements now i args (map (clause_tree last.trees) items) → AreRequirements start i args (map (clause_tree last.trees) items)
requirements-back start now last i args items t w g h p r =
    let all = subst (AreStill (super_clauses now) (super_clauses start)) r.are (all-still start now last items t g h w) in
    record {
      supers = r.supers;
      elaborated =
          elaborates-still (super_clauses start) (subst (λ (ts : List Tree). IsElaboration now (map (with_arguments args) ts) r.supers) (supers-stay start now i p.kinds t g p.are) r.elaborated)
          (first-still (super_clauses now) (super_clauses start) r.supers (map (with_arguments args) (required_bounds now i)) all);
      are = r.are ∙ ap (λ (ts : List Tree). r.supers ++ map (with_arguments args) ts) (required_stays start now i t g);
    }
