-- Elaborations and supertraits in a context that has grown are those of the one before.
use Rattle.std.proofs.Common.{◌≡◌, ℕ, Bool, true, false, Option, Some, None, List, [], ◌∷◌, ◌++◌, map, refl, sym, ap, subst, ◌∙◌}
use Rattle.std.specs.List.{filter}
use Rattle.std.specs.Prelude.{IfSome, ◌&&◌, if◌then◌else◌}
use Rattle.ir_trees.specs.declared.ir.heads.ClauseHead.TheVariants as Cl
use Rattle.ir_trees.specs.declared.ir.heads.Head.{Head}
use Rattle.ir_trees.specs.declared.ir.heads.Head.TheVariants as H
use Rattle.ir_trees.specs.declared.ir.heads.PartHead.TheVariants as P
use Rattle.ir_trees.specs.declared.ir.heads.PredHead.TheVariants as PH
use Rattle.ir_trees.specs.declared.ir.kinds.Args.{Args}
use Rattle.ir_trees.specs.declared.ir.kinds.Clause.{Clause}
use Rattle.ir_trees.specs.declared.ir.kinds.PredicatePolarity.TheVariants as Polarity
use Rattle.ir_trees.specs.Declarations.Context.{Context, Grows, world}
use Rattle.ir_trees.specs.Declarations.Declaring.{trait_at}
use Rattle.ir_trees.specs.Hierarchy.Elaboration.{AreSupertraits, Elaborates, IsElaboration, ended, implied, implied_by, lists, step, super_clauses, supers_if, trait_of, unlisted}
use Rattle.ir_trees.specs.Declarations.References.{FitsAmong}
use Rattle.ir_trees.specs.Hierarchy.Supers.{supers_at}
use Rattle.ir_trees.specs.Hierarchy.Supertraits.{head_trait}
use Rattle.ir_trees.specs.Syntax.Trees.{Kind, TypeKind, BinderKind, Forest, none, tree, Tree}
use Rattle.ir_trees.specs.Validity.WellFormed.{IsWellFormedTable}
use Rattle.ir_trees.specs.Syntax.Words.{IsArgs, args_forest, clause_tree}
use Rattle.ir_trees.specs.Declarations.Worlds.{Fits, TraitSort, World, child_kinds, joined, kinds_of, parameters}
use Rattle.ir_trees.proofs.Kinding.References.{fit-at}
use Rattle.candidate_eval.specs.Builtins.Callable.{all_but_last}
use Rattle.candidate_eval.specs.Dynamic.ObjectRequirements.{first_tree}
use Rattle.candidate_eval.specs.Dynamic.Required.{each_of}
use Rattle.candidate_eval.proofs.Outcomes.Responding.{clauses-kept}
use Rattle.candidate_assembly.specs.Laws.BuiltinLaws.{nodes_fit}
use Rattle.candidate_assembly.specs.Rules.DynBounds.{ArePrincipalSupers, AreSupersOf, bound_said, bounds_in, clause_head_by, first_listed, is_dynamic, is_principal, principal_in}
use Rattle.candidate_assembly.specs.Laws.Given.{AllIsGiven, TraitIsGiven, declared_trait}
use Rattle.candidate_assembly.specs.Rules.Unsizing.{AreSupersIf, AreUnsizingSupers}
use Rattle.candidate_assembly.specs.Laws.SuperLaws.{Each, NamesGiven, IsNamed, NameGiven, TakesThem, TakeTheirs, IsFitting, arguments_fit}

either_way : {A : Type 0} (P : A → Type 0) (b : Bool) (x y : A) → P x → P y → P (if b then x else y)
either_way P true x y p q = p
either_way P false x y p q = q

pub filtered_each : (P : Tree → Type 0) (test : Tree → Bool) (ts : List Tree) → Each P ts → Each P (filter test ts)
filtered_each P test [] a = tt
filtered_each P test (t ∷ ts) a = let rest = filtered_each P test ts a.1 in either_way (Each P) (test t) (t ∷ filter test ts) (filter test ts) (a.0, rest) rest

pub each_of_both : (P : Tree → Type 0) (ts us : List Tree) → Each P ts → Each P us → Each P (ts ++ us)
each_of_both P [] us a b = b
each_of_both P (t ∷ ts) us a b = (a.0, each_of_both P ts us a.1 b)

pub unlisted_each : (P : Tree → Type 0) (seen ts : List Tree) → Each P ts → Each P (unlisted seen ts)
unlisted_each P seen [] a = tt
unlisted_each P seen (t ∷ ts) a =
    either_way (Each P) (lists seen t) (unlisted seen ts) (t ∷ unlisted (seen ++ t ∷ []) ts) (unlisted_each P seen ts a.1) (a.0, unlisted_each P (seen ++ t ∷ []) ts a.1)

-- where all is given, so is this
pub all_name_given : (c : Context) → AllIsGiven c → (ts : List Tree) → NameGiven c ts
all_name_given c a [] = tt
all_name_given c a (t ∷ ts) = (of (trait_of t.head), all_name_given c a ts)
  where
    of : (o : Option ℕ) → IfSome o (TraitIsGiven c)
    of None = tt
    of (Some n) = a.traits n

-- and where a tree fits the world, since it speaks of a trait that is declared
module _ (c : Context) (t : IsWellFormedTable c) where
  parameters-given : (n : ℕ) (o : Option (List Kind)) (ks : List Kind) → parameters (world c) TraitSort n ≡ o → joined (Some (BinderKind ∷ [])) o ≡ Some ks → TraitIsGiven c n
  parameters-given n None ks q e = absurd cc
  parameters-given n (Some ps) ks q e = declared_trait c t n ps q

  clause-given : (n : ℕ) (o : Option (List Kind)) (ks : List Kind) → parameters (world c) TraitSort n ≡ o → joined (Some (BinderKind ∷ [])) (joined (Some (TypeKind ∷ [])) o) ≡ Some ks → TraitIsGiven c n
  clause-given n None ks q e = absurd cc
  clause-given n (Some ps) ks q e = declared_trait c t n ps q

  fitting-names : (h : Head) (below : Forest) → (let u : Tree = record { head = h; children = below } in FitsAmong (world c) u) → NamesGiven c h
  fitting-names (H.Part (P.Clause (Cl.Trait i p))) below f = clause-given i.0 (parameters (world c) TraitSort i.0) (kinds_of below) refl f.0
  fitting-names _ below f = tt

  pub declared_name : (xs : List Clause) → NameGiven c (map (clause_tree c.trees) xs)
  declared_name [] = tt
  declared_name (x ∷ xs) =
      let u = clause_tree c.trees x in
      (fitting-names u.head u.children (fit-at (world c) c.trees (nodes_fit c t) x.0), declared_name xs)

  -- of a bound, the clause that says the same of a type
  pub said_names : (h : Head) (ks : List Kind) → child_kinds (world c) h ks ≡ Some ks → NamesGiven c (clause_head_by h)
  said_names (H.Part (P.Pred (PH.Trait i))) ks e = parameters-given i.0 (parameters (world c) TraitSort i.0) ks refl e
  said_names (H.Part (P.Pred (PH.AutoTrait i))) ks e = parameters-given i.0 (parameters (world c) TraitSort i.0) ks refl e
  said_names (H.Part (P.Clause (Cl.Trait i p))) ks e = clause-given i.0 (parameters (world c) TraitSort i.0) ks refl e
  said_names _ ks e = tt

  -- what it implies has the heads of super clauses
  implied-name : (u : Tree) (xs : List Clause) → NameGiven c (map (implied u) (map (clause_tree c.trees) xs))
  implied-name u [] = tt
  implied-name u (x ∷ xs) = let all = declared_name (x ∷ xs) in (all.0, implied-name u xs)

module _ (old new : Context) (t : IsWellFormedTable old) (g : Grows old new) where
  pub super_clauses_stay : (n : ℕ) → TraitIsGiven old n → super_clauses new n ≡ super_clauses old n
  super_clauses_stay n f =
      ap (λ (c : Context). map (clause_tree new.trees) (supers_at (trait_at c n))) g.same ∙ (clauses-kept old new (supers_at (trait_at old n)) g f.supers).1

  held-trait : (h : Head) → NamesGiven old h → IfSome (head_trait h) (TraitIsGiven old)
  held-trait (H.Part (P.Clause (Cl.Trait i Polarity.Positive))) f = f
  held-trait _ f = tt

  implied-same : (u : Tree) (o : Option ℕ) → IfSome o (TraitIsGiven old) → map (implied u) (supers_if (super_clauses new) o) ≡ map (implied u) (supers_if (super_clauses old) o)
  implied-same u None f = refl
  implied-same u (Some n) f = ap (map (implied u)) (super_clauses_stay n f)

  implied-given : (u : Tree) (o : Option ℕ) → NameGiven old (map (implied u) (supers_if (super_clauses old) o))
  implied-given u None = tt
  implied-given u (Some n) = implied-name old t u (supers_at (trait_at old n))

  walk-back : {walked left all : List Tree} → Elaborates (super_clauses new) walked left all → NameGiven old walked → NameGiven old left
      → Elaborates (super_clauses old) walked left all × NameGiven old all
  walk-back ended a b = (ended, a)
  walk-back {walked} (step {left = left} {all = all} {t = u} e) a b =
      let same : implied_by (super_clauses new) u ≡ implied_by (super_clauses old) u = implied-same u (head_trait u.head) (held-trait u.head b.0) in
      let more = subst (NameGiven old) (sym same) (implied-given u (head_trait u.head)) in
      let seen = walked ++ u ∷ left in
      let rest = each_of_both (IsNamed old) left (unlisted seen (implied_by (super_clauses new) u)) b.1 (unlisted_each (IsNamed old) seen (implied_by (super_clauses new) u) more) in
      let r = walk-back e (each_of_both (IsNamed old) walked (u ∷ []) a (b.0, tt)) rest in
      (step (subst (λ (ts : List Tree). Elaborates (super_clauses old) (walked ++ u ∷ []) (left ++ unlisted seen ts) all) same r.0), r.1)

  -- An elaboration, and that its clauses speak of what is given.
  pub elaboration_back : (xs ys : List Tree) → NameGiven old xs → IsElaboration new xs ys → IsElaboration old xs ys × NameGiven old ys
  elaboration_back xs ys f e = walk-back e tt (unlisted_each (IsNamed old) [] xs f)

  pub supertraits_back : (u : Tree) (ts : List Tree) → NamesGiven old u.head → AreSupertraits new u ts → AreSupertraits old u ts × NameGiven old ts
  supertraits_back u ts f s =
      let r = elaboration_back (u ∷ []) s.all (f, tt) s.elaborated in
      (record { all = s.all; elaborated = r.0; are = s.are }, subst (NameGiven old) (sym s.are) (filtered_each (IsNamed old) _ s.all r.1))

-- The bounds of a type that fits take the children that they have.

each-takes : (w : World) (ts : Forest) → Fits w ts → TakeTheirs w (each_of ts)
each-takes w none f = tt
each-takes w (tree h below rest) f = (f.0, each-takes w rest f.2)

most-fit : (w : World) (ts : Forest) → Fits w ts → Fits w (all_but_last ts)
most-fit w none f = tt
most-fit w (tree h below none) f = tt
most-fit w (tree h below (tree k under rest)) f = (f.0, f.1, most-fit w (tree k under rest) f.2)

pub bounds_take : (w : World) (t : Tree) → Fits w t.children → TakeTheirs w (bounds_in t)
bounds_take w t f = each-takes w (all_but_last t.children) (most-fit w t.children f)

first-names : (c : Context) → IsWellFormedTable c → (bs : List Tree) → TakeTheirs (world c) bs → IfSome (first_listed bs) (λ b. NamesGiven c (clause_head_by b.head))
first-names c t [] a = tt
first-names c t (b ∷ bs) a = said_names c t b.head (kinds_of b.children) a.0

-- So the supertraits of a `dyn` type's principal are the same.

principal-back : (old new : Context) → IsWellFormedTable old → Grows old new → (type : Tree) (o : Option Tree) (ts : List Tree) → IfSome o (λ b. NamesGiven old (clause_head_by b.head))
    → AreSupersOf new type o ts → AreSupersOf old type o ts × NameGiven old ts
principal-back old new t g type None ts f s = (s, subst (NameGiven old) (sym s) tt)
principal-back old new t g type (Some b) ts f s = supertraits_back old new t g (bound_said type b) ts f s

pub principal_supers_back : (old new : Context) → IsWellFormedTable old → Grows old new → (type : Tree) → Fits (world old) type.children → (ts : List Tree)
    → ArePrincipalSupers new type ts → ArePrincipalSupers old type ts × NameGiven old ts
principal_supers_back old new t g type f ts s =
    principal-back old new t g type (principal_in type) ts
    (first-names old t (filter (λ b. is_principal b.head) (bounds_in type)) (filtered_each (TakesThem (world old)) (λ b. is_principal b.head) (bounds_in type) (bounds_take (world old) type f))) s

pub unsizing_supers_back : (old new : Context) → IsWellFormedTable old → Grows old new → (from to : Tree) → Fits (world old) from.children → (ts : List Tree)
    → AreUnsizingSupers new from to ts → AreUnsizingSupers old from to ts
unsizing_supers_back old new t g from to f ts s = of (is_dynamic from.head && is_dynamic to.head) s
  where
    of : (b : Bool) → AreSupersIf b new from ts → AreSupersIf b old from ts
    of false s = s
    of true s = (principal_supers_back old new t g from f ts s).0

-- A row that fits has a first tree that does.

pub first_fits : (w : World) (ts : Forest) → Fits w ts → IsFitting w (first_tree ts)
first_fits w none f = record { takes = refl; below = tt }
first_fits w (tree h below rest) f = record { takes = f.0; below = f.1 }

-- So are the supertraits that unsizing asks for, where the type is the first of the context's arguments.
pub first_supers_back : (old new : Context) → IsWellFormedTable old → Grows old new → (a : Args) → IsArgs old.trees a → (to : Tree) (ts : List Tree)
    → AreUnsizingSupers new (first_tree (args_forest old.trees a)) to ts → AreUnsizingSupers old (first_tree (args_forest old.trees a)) to ts
first_supers_back old new t g a i to ts s =
    let f = first_fits (world old) (args_forest old.trees a) (arguments_fit old t a i) in
    unsizing_supers_back old new t g (first_tree (args_forest old.trees a)) to f.below ts s
