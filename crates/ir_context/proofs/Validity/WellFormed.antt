-- What holds of finished declarations, and stays while nodes are made.
use Rattle.std.proofs.Common.{◌≡◌, ℕ, zero, suc, ◌+◌, ◌≤◌, List, [], ◌∷◌, ◌++◌, length, take, drop, Bool, false, Option, Some, None, refl, sym, ◌∙◌, ap, subst, arith}
use Rattle.std.specs.Prelude.{not, ◌||◌, map, slice_get, min}
use Rattle.std.specs.List.{list_any}
use Rattle.std.proofs.Math.Seq.{take-length}
use Rattle.std.proofs.lemmas.List.{take-append-le, take-append-drop, length-append, length-take}
use Rattle.std.proofs.lemmas.List.Folds.{list_any-append}
use Rattle.ir_trees.specs.declared.ir.kinds.Clause.{Clause}
use Rattle.ir_trees.specs.declared.decl.definition.DefinitionKind.{DefinitionKind}
use Rattle.ir_trees.specs.declared.decl.definition.DefinitionKind.TheVariants as D
use Rattle.ir_trees.specs.declared.decl.held.Held.{Held}
use Rattle.ir_trees.specs.declared.decl.held.Owner.{Owner}
use Rattle.ir_trees.specs.declared.decl.held.Owner.TheVariants as O
use Rattle.ir_trees.specs.declared.decl.misplaced.Misplaced.{Misplaced}
use Rattle.ir_trees.specs.declared.decl.misplaced.Misplaced.TheVariants as M
use Rattle.ir_trees.specs.Declarations.Declaration.{Declaration}
use Rattle.ir_trees.specs.Declarations.Contents.{TraitContents, Impl, Contents}
use Rattle.ir_trees.specs.Declarations.Limits.{has_bad_limit}
use Rattle.ir_trees.specs.Declarations.Context.{Context, world, is_unknown, lacks_trait, has_wrong_arity}
use Rattle.ir_trees.specs.Syntax.Trees.{Tree, ArgumentsKind}
use Rattle.ir_trees.specs.Syntax.Nodes.{tree_at, Extends}
use Rattle.ir_trees.specs.Syntax.Binders.{tree_escapes}
use Rattle.std.specs.Prelude.{cond}
use Rattle.ir_trees.specs.Validity.Held.{impls_held, held_clause, held_clauses, trait_held, definition_held, definitions_held, if_there}
use Rattle.ir_trees.specs.Validity.Misplaced.{is_held_kind, is_not_given, held_misplaces, held_escapes, tree_misplaces, kinds_of_owner}
use Rattle.ir_trees.specs.Hierarchy.Supertraits.{Names, IsRanked, IsAcyclic, supers_in, named_supers, clause_supertrait, head_trait}
use Rattle.ir_trees.specs.Hierarchy.Supers.{supers_at, supers_of, is_no_super, is_super_clause, has_wrong_super}
use Rattle.ir_trees.specs.Declarations.References.{AllFit}
use Rattle.ir_trees.specs.Declarations.Names.{names_unknown}
use Rattle.ir_trees.specs.Validity.Faults.{all_that_is_held, declarations_misname, nodes_misname, contents_misname, has_unknown_id, has_wrong_parameters, unsizes_past, AllArgumentsFit, ImplFits, ImplsFit, has_wrong_kind, has_wrong_value, lacks_tail, item_has_wrong_arity, all_items}
use Rattle.ir_trees.specs.Validity.ListedImpls.{ListsImpls}
use Rattle.ir_trees.specs.Validity.WellFormed.{IsWellFormedTable, IsWellFormedContext, declared_part}
use Rattle.ir_trees.specs.Declarations.Worlds.{World, kinds_of}
use Rattle.ir_trees.specs.Validity.Faults.{IsFaultless}
use Rattle.ir_context.proofs.Validity.Faults.{faultless}
use Rattle.ir_trees.proofs.Instantiation.Folding.{or-left, or-right}
use Rattle.ir_trees.proofs.Syntax.Lists.{below_kind}
use Rattle.ir_trees.proofs.Growth.Kept.{number-kept}
use Rattle.ir_trees.proofs.Kinding.References.{fit-take}
use Rattle.ir_trees.proofs.Validity.Misplacing.{given_below}

nothing-misnamed : (c : Context) → declarations_misname c ≡ false → c.contents.misnamed ≡ false
nothing-misnamed c e =
    or-left c.contents.misnamed
    (is_unknown c.crates c.local
    || (list_any (λ (d : Declaration). is_unknown c.crates d.crate) c.declarations || list_any (λ (d : Declaration). lacks_trait c.declarations d.kind) c.declarations))
    e

-- declarations that were looked through
table-of-all : (c : Context) → ListsImpls c.declarations c.contents.traits c.contents.impls c.contents.misnamed → has_unknown_id c ≡ false
    → has_wrong_parameters c ≡ false → AllArgumentsFit c → has_wrong_kind c ≡ false → IsAcyclic c
    → list_any (λ d. lacks_tail c.contents d.kind) c.declarations ≡ false → list_any (item_has_wrong_arity c.declarations c.contents.lang_items) all_items ≡ false → has_bad_limit c.limits ≡ false
    → IsWellFormedTable c
unfolding IsWellFormedTable ListsImpls
table-of-all c l u p a k z t i b =
    let rest = or-right (declarations_misname c) (contents_misname c || nodes_misname c) u in
    let nodes = or-right (contents_misname c) (nodes_misname c) rest in
    let named = or-left (declarations_misname c) (contents_misname c || nodes_misname c) u in
    record {
      definitions = named;
      impls = or-left (contents_misname c) (nodes_misname c) rest;
      listed = l (nothing-misnamed c named);
      given = or-left (list_any (is_not_given c.trees) (all_that_is_held c)) (list_any (λ t. names_unknown (length c.declarations) t.head) c.trees) nodes;
      parameters = p;
      arguments = a;
      kinds = k;
      supertraits = z;
      tails = t;
      items = i;
      limits = b;
    }

pub nothing_wrong : (c : Context) → ListsImpls c.declarations c.contents.traits c.contents.impls c.contents.misnamed → has_unknown_id c ≡ false
    → has_wrong_parameters c ≡ false → AllArgumentsFit c → has_wrong_kind c ≡ false → IsAcyclic c
    → list_any (λ d. lacks_tail c.contents d.kind) c.declarations ≡ false → list_any (item_has_wrong_arity c.declarations c.contents.lang_items) all_items ≡ false → has_bad_limit c.limits ≡ false
    → IsFaultless c × IsWellFormedTable c
nothing_wrong c l u p a k z t i b = (faultless c u p a k z t i b, table-of-all c l u p a k z t i b)

-- however many of its nodes are said to be declared
pub declared_all : (c : Context) (n : ℕ) → IsWellFormedTable c → IsWellFormedTable (record c { declared_nodes = n })
unfolding IsWellFormedTable
declared_all c n t = record {
  definitions = t.definitions;
  impls = t.impls;
  listed = t.listed;
  given = t.given;
  parameters = t.parameters;
  arguments = record { nodes = t.arguments.nodes; impls = t.arguments.impls };
  kinds = t.kinds;
  supertraits = record { rank = t.supertraits.rank; falls = t.supertraits.falls };
  tails = t.tails;
  items = t.items;
  limits = t.limits;
}

-- finished declarations make a context of theirs alone
pub finished : (c : Context) → c.declared_nodes ≡ length c.trees → IsWellFormedTable c → IsWellFormedContext c
unfolding IsWellFormedTable
finished c e t = record {
  nodes = t.arguments.nodes;
  declared = subst (λ (us : List Tree). let d : Context = record c { trees = us } in IsWellFormedTable d) (sym (ap (λ (n : ℕ). take n c.trees) e ∙ take-length c.trees)) t;
  there = omega (arith, e);
}

-- A context with more nodes

pub grown_context : (c : Context) (ts : List Tree) → IsWellFormedContext c → Extends c.trees ts → AllFit (world c) ts → IsWellFormedContext (record c { trees = ts })
grown_context c ts w e f =
    let same : take c.declared_nodes ts ≡ take c.declared_nodes c.trees = ap (take c.declared_nodes) e.is ∙ take-append-le c.declared_nodes c.trees e.added w.there in
    let longer : length ts ≡ length c.trees + length e.added = ap length e.is ∙ length-append c.trees e.added in
    record {
      nodes = f;
      declared = subst (λ (us : List Tree). let d : Context = record c { trees = us } in IsWellFormedTable d) (sym same) w.declared;
      there = omega (arith, longer, w.there);
    }

-- What is held keeps its tree

any-kept : (ts : List Tree) (f g : Held → Bool) (hs : List Held) → list_any (is_not_given ts) hs ≡ false → ((h : Held) → is_not_given ts h ≡ false → f h ≡ g h) → list_any f hs ≡ list_any g hs
any-kept ts f g [] n s = refl
any-kept ts f g (h ∷ hs) n s =
    let here = s h (or-left (is_not_given ts h) (list_any (is_not_given ts) hs) n) in
    let rest = any-kept ts f g hs (or-right (is_not_given ts h) (list_any (is_not_given ts) hs) n) s in
    ap (λ (b : Bool). b || list_any f hs) here ∙ ap (λ (b : Bool). g h || b) rest

given-kept : (old new : List Tree) → Extends old new → (h : Held) → is_not_given old h ≡ false → is_not_given new h ≡ is_not_given old h
given-kept old new e h n = ap (λ k. not (is_held_kind h.sort k)) (number-kept old new h.number e (given_below old h n)).0

tree-kept : (old new : List Tree) → Extends old new → (h : Held) → is_not_given old h ≡ false → tree_at new h.number ≡ tree_at old h.number
tree-kept old new e h n = (number-kept old new h.number e (given_below old h n)).1

misplaced-kept : (m : Misplaced) (old new : List Tree) (c : Context) → Extends old new → list_any (is_not_given old) (all_that_is_held c) ≡ false
    → list_any (held_misplaces m new c.declarations c.contents.impls) (all_that_is_held c) ≡ list_any (held_misplaces m old c.declarations c.contents.impls) (all_that_is_held c)
misplaced-kept m old new c e n =
    any-kept old (held_misplaces m new c.declarations c.contents.impls) (held_misplaces m old c.declarations c.contents.impls) (all_that_is_held c) n
    (λ h g. ap (λ (t : Tree). tree_misplaces m t (kinds_of_owner c.declarations c.contents.impls h.owner)) (tree-kept old new e h g))

escapes-kept : (old new : List Tree) (hs : List Held) → Extends old new → list_any (is_not_given old) hs ≡ false → list_any (held_escapes new) hs ≡ list_any (held_escapes old) hs
escapes-kept old new hs e n = any-kept old (held_escapes new) (held_escapes old) hs n (λ h g. ap (λ (t : Tree). tree_escapes (cond h.under_binder 1 0) t) (tree-kept old new e h g))

-- Super clauses are held

clauses-kept : (old new : List Tree) (o : Owner) (xs : List Clause) → Extends old new → list_any (is_not_given old) (held_clauses o xs) ≡ false
    → list_any (is_no_super new) xs ≡ list_any (is_no_super old) xs
clauses-kept old new o [] e n = refl
clauses-kept old new o (x ∷ xs) e n =
    let h = held_clause o x in
    let here : is_no_super new x ≡ is_no_super old x = ap (λ (t : Tree). not (is_super_clause t)) (tree-kept old new e h (or-left (is_not_given old h) (list_any (is_not_given old) (held_clauses o xs)) n)) in
    let rest = clauses-kept old new o xs e (or-right (is_not_given old h) (list_any (is_not_given old) (held_clauses o xs)) n) in
    ap (λ (b : Bool). b || list_any (is_no_super new) xs) here ∙ ap (λ (b : Bool). is_no_super old x || b) rest

pub any-of : (f : Held → Bool) (xs ys : List Held) → list_any f (xs ++ ys) ≡ false → list_any f xs ≡ false
any-of f xs ys n = or-left (list_any f xs) (list_any f ys) (sym (list_any-append f xs ys) ∙ n)

pub any-right : (f : Held → Bool) (xs ys : List Held) → list_any f (xs ++ ys) ≡ false → list_any f ys ≡ false
any-right f xs ys n = or-right (list_any f xs) (list_any f ys) (sym (list_any-append f xs ys) ∙ n)

supers-kept : (old new : List Tree) (o : Owner) (t : Option TraitContents) → Extends old new → list_any (is_not_given old) (if_there (trait_held o) t) ≡ false
    → list_any (is_no_super new) (supers_at t) ≡ list_any (is_no_super old) (supers_at t)
supers-kept old new o None e n = refl
supers-kept old new o (Some t) e n = clauses-kept old new o t.supers e (any-of (is_not_given old) (held_clauses o t.supers) (held_clauses o t.wheres) n)

super-kept : (old new : List Tree) (c : Contents) (i : ℕ) (k : DefinitionKind) → Extends old new → list_any (is_not_given old) (definition_held c i k) ≡ false
    → has_wrong_super new c k ≡ has_wrong_super old c k
super-kept old new c i (D.Adt _ _ _) e n = refl
super-kept old new c i (D.Trait flags p) e n = supers-kept old new (O.Definition i) (slice_get c.traits p) e n
super-kept old new c i D.Foreign e n = refl
super-kept old new c i (D.Assoc _ _ _ _) e n = refl
super-kept old new c i (D.Alias _) e n = refl
super-kept old new c i (D.Opaque _ _) e n = refl
super-kept old new c i (D.Function _ _) e n = refl
super-kept old new c i (D.Closure _) e n = refl

all-supers-kept : (old new : List Tree) (c : Contents) (i : ℕ) (ds : List Declaration) → Extends old new → list_any (is_not_given old) (definitions_held c i ds) ≡ false
    → list_any (λ d. has_wrong_super new c d.kind) ds ≡ list_any (λ d. has_wrong_super old c d.kind) ds
all-supers-kept old new c i [] e n = refl
all-supers-kept old new c i (d ∷ ds) e n =
    let here = super-kept old new c i d.kind e (any-of (is_not_given old) (definition_held c i d.kind) (definitions_held c (suc i) ds) n) in
    let rest = all-supers-kept old new c (suc i) ds e (any-right (is_not_given old) (definition_held c i d.kind) (definitions_held c (suc i) ds) n) in
    ap (λ (b : Bool). b || list_any (λ (x : Declaration). has_wrong_super new c x.kind) ds) here ∙ ap (λ (b : Bool). has_wrong_super old c d.kind || b) rest

-- a test that nothing passes that is held is passed by nothing that one definition holds
pub definition-passes : (f : Held → Bool) (c : Contents) (i : ℕ) (ds : List Declaration) (n j : ℕ) (d : Declaration) → list_any f (definitions_held c i ds) ≡ false
    → slice_get ds n ≡ Some d → j ≡ n + i → list_any f (definition_held c j d.kind) ≡ false
definition-passes f c i [] n j d g e q = absurd cc
definition-passes f c i (x ∷ xs) zero j d g e q =
    let same : d ≡ x = cc in
    let at : j ≡ i = omega (arith, q) in
    ap (λ (y : Declaration). list_any f (definition_held c j y.kind)) same
    ∙ (ap (λ (m : ℕ). list_any f (definition_held c m x.kind)) at ∙ any-of f (definition_held c i x.kind) (definitions_held c (suc i) xs) g)
definition-passes f c i (x ∷ xs) (suc n) j d g e q =
    definition-passes f c (suc i) xs n j d (any-right f (definition_held c i x.kind) (definitions_held c (suc i) xs) g) e (omega (arith, q))

-- Supertraits stay

names-kept : (old new : List Tree) (o : Owner) (xs : List Clause) → Extends old new → list_any (is_not_given old) (held_clauses o xs) ≡ false
    → map (clause_supertrait new) xs ≡ map (clause_supertrait old) xs
names-kept old new o [] e n = refl
names-kept old new o (x ∷ xs) e n =
    let h = held_clause o x in
    let here : clause_supertrait new x ≡ clause_supertrait old x = ap (λ (t : Tree). head_trait t.head) (tree-kept old new e h (or-left (is_not_given old h) (list_any (is_not_given old) (held_clauses o xs)) n)) in
    let rest = names-kept old new o xs e (or-right (is_not_given old h) (list_any (is_not_given old) (held_clauses o xs)) n) in
    ap (λ (y : Option ℕ). y ∷ map (clause_supertrait new) xs) here ∙ ap (λ (ys : List (Option ℕ)). clause_supertrait old x ∷ ys) rest

supers-named : (old new : List Tree) (o : Owner) (t : Option TraitContents) → Extends old new → list_any (is_not_given old) (if_there (trait_held o) t) ≡ false
    → map (clause_supertrait new) (supers_at t) ≡ map (clause_supertrait old) (supers_at t)
supers-named old new o None e n = refl
supers-named old new o (Some t) e n = names-kept old new o t.supers e (any-of (is_not_given old) (held_clauses o t.supers) (held_clauses o t.wheres) n)

kind-named : (old new : List Tree) (c : Contents) (i : ℕ) (k : DefinitionKind) → Extends old new → list_any (is_not_given old) (definition_held c i k) ≡ false
    → map (clause_supertrait new) (supers_of c k) ≡ map (clause_supertrait old) (supers_of c k)
kind-named old new c i (D.Trait flags p) e n = supers-named old new (O.Definition i) (slice_get c.traits p) e n
kind-named old new c i (D.Adt _ _ _) e n = refl
kind-named old new c i D.Foreign e n = refl
kind-named old new c i (D.Assoc _ _ _ _) e n = refl
kind-named old new c i (D.Alias _) e n = refl
kind-named old new c i (D.Opaque _ _) e n = refl
kind-named old new c i (D.Function _ _) e n = refl
kind-named old new c i (D.Closure _) e n = refl

supertraits-kept : (old new : List Tree) (c : Contents) (ds : List Declaration) → Extends old new → list_any (is_not_given old) (definitions_held c 0 ds) ≡ false
    → (i : ℕ) → named_supers new ds c i ≡ named_supers old ds c i
supertraits-kept old new c ds e n i = of (slice_get ds i) refl
  where
    of : (o : Option Declaration) → slice_get ds i ≡ o → named_supers new ds c i ≡ named_supers old ds c i
    of None q = rw q refl
    of (Some d) q = rw q (kind-named old new c i d.kind e (definition-passes (is_not_given old) c 0 ds i i d n q (omega arith)))

ranked-kept : (f g : Names) → ((i : ℕ) → f i ≡ g i) → IsRanked g → IsRanked f
ranked-kept f g same r = record {
  rank = r.rank;
  falls = λ i j d. r.falls i j (record { place = d.place; named = ap (λ (xs : List (Option ℕ)). slice_get xs d.place) (sym (same i)) ∙ d.named });
}

-- Headers keep their arguments

impl-kept : (w : World) (old new : List Tree) (i : Impl) → Extends old new → ImplFits w old i → ImplFits w new i
impl-kept w old new i e f =
    let k = number-kept old new i.trait_ref.args.0 e (below_kind old i.trait_ref.args.0 ArgumentsKind refl f.given) in
    record {
      given = k.0 ∙ f.given;
      takes = f.takes ∙ sym (ap (λ (t : Tree). Some (kinds_of t.children)) k.1);
    }

impls-kept : (w : World) (old new : List Tree) (is : List Impl) → Extends old new → ImplsFit w old is → ImplsFit w new is
impls-kept w old new [] e f = tt
impls-kept w old new (i ∷ is) e f = (impl-kept w old new i e f.0, impls-kept w old new is e f.1)

-- Nothing is wrong with the declarations of a context, over all its nodes.
pub table_stays : (c : Context) → IsWellFormedContext c → IsWellFormedTable c
unfolding IsWellFormedTable
table_stays c w =
    let old = take c.declared_nodes c.trees in
    let e : Extends old c.trees = record { added = drop c.declared_nodes c.trees; is = sym (take-append-drop c.declared_nodes c.trees) } in
    let hs = all_that_is_held c in
    let t = w.declared in
    let held = any-of (is_not_given old) (definitions_held c.contents 0 c.declarations) (impls_held 0 c.contents.impls) t.given in
    let arity = list_any (λ (d : Declaration). has_wrong_arity d.kind d.parameters) c.declarations in
    let past = list_any (unsizes_past c.contents) c.declarations in
    let supers : list_any (λ (d : Declaration). has_wrong_super c.trees c.contents d.kind) c.declarations ≡ list_any (λ (d : Declaration). has_wrong_super old c.contents d.kind) c.declarations =
    all-supers-kept old c.trees c.contents 0 c.declarations e held in
    let strays = list_any (held_misplaces M.Stray old c.declarations c.contents.impls) hs in
    let values = list_any (has_wrong_value c.declarations) c.contents.impls in
    record {
      definitions = t.definitions;
      impls = t.impls;
      listed = t.listed;
      given = any-kept old (is_not_given c.trees) (is_not_given old) hs t.given (given-kept old c.trees e) ∙ t.given;
      parameters = ap (λ (b : Bool). arity || (past || b)) (misplaced-kept M.Past old c.trees c e t.given) ∙ t.parameters;
      arguments = record { nodes = w.nodes; impls = impls-kept (world c) old c.trees c.contents.impls e t.arguments.impls };
      kinds =
          ap (λ (b : Bool). b || (list_any (held_escapes c.trees) hs || (list_any (λ (d : Declaration). has_wrong_super c.trees c.contents d.kind) c.declarations || values)))
          (misplaced-kept M.Stray old c.trees c e t.given)
          ∙ (ap (λ (b : Bool). strays || (b || (list_any (λ (d : Declaration). has_wrong_super c.trees c.contents d.kind) c.declarations || values))) (escapes-kept old c.trees hs e t.given)
          ∙ (ap (λ (b : Bool). strays || (list_any (held_escapes old) hs || (b || values))) supers ∙ t.kinds));
      supertraits = ranked-kept (supers_in c) (supers_in (declared_part c)) (supertraits-kept old c.trees c.contents c.declarations e held) t.supertraits;
      tails = t.tails;
      items = t.items;
      limits = t.limits;
    }

pub table_of : (c : Context) → IsWellFormedContext (record c { delayed_bugs = [] }) → IsWellFormedTable c
unfolding IsWellFormedTable
table_of c w =
    let t = table_stays (record c { delayed_bugs = [] }) w in
    record {
      definitions = t.definitions;
      impls = t.impls;
      listed = t.listed;
      given = t.given;
      parameters = t.parameters;
      arguments = record { nodes = t.arguments.nodes; impls = t.arguments.impls };
      kinds = t.kinds;
      supertraits = record { rank = t.supertraits.rank; falls = t.supertraits.falls };
      tails = t.tails;
      items = t.items;
      limits = t.limits;
    }

-- a context that is cut back to no fewer nodes than are declared
pub cut_context : (c : Context) (n : ℕ) → IsWellFormedContext c → c.declared_nodes ≤ n → IsWellFormedContext (record c { trees = take n c.trees })
cut_context c n w l =
    let d = c.declared_nodes in
    let count : length (take n c.trees) ≡ min n (length c.trees) = length-take n c.trees in
    let enough : d ≤ length (take n c.trees) = omega (arith, count, l, w.there) in
    let same : take d c.trees ≡ take d (take n c.trees) =
    ap (take d) (sym (take-append-drop n c.trees)) ∙ take-append-le d (take n c.trees) (drop n c.trees) enough in
    record {
      nodes = fit-take (world c) n c.trees w.nodes;
      declared = subst (λ (us : List Tree). let e : Context = record c { trees = us } in IsWellFormedTable e) same w.declared;
      there = enough;
    }

-- no declared limit is 0
pub limits-good : (c : Context) → IsWellFormedTable c → has_bad_limit c.limits ≡ false
unfolding IsWellFormedTable
limits-good c t = t.limits
