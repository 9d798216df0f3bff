-- The auto traits that the source of an upcast has.
use Rattle.std.proofs.Common.{◌≡◌, ◌==◌, ◌&&◌, ℕ, Bool, true, false, Option, Some, None, List, [], ◌∷◌, ◌++◌, arith, map, refl, sym, ap, ◌∙◌}
use Rattle.std.specs.Prelude.{if◌then◌else◌, ◌||◌}
use Rattle.std.specs.List.{filter, flat_map, list_any}
use Rattle.std.proofs.lemmas.List.Folds.{list_any-append}
use Rattle.ir_trees.specs.declared.ir.heads.ClauseHead.TheVariants as Cl
use Rattle.ir_trees.specs.declared.ir.heads.Head.{Head}
use Rattle.ir_trees.specs.declared.ir.heads.Head.TheVariants as H
use Rattle.ir_trees.specs.declared.ir.heads.PartHead.TheVariants as P
use Rattle.ir_trees.specs.declared.ir.kinds.Clause.{Clause}
use Rattle.ir_trees.specs.declared.ir.kinds.Pred.{Pred}
use Rattle.ir_trees.specs.Declarations.Context.{Context}
use Rattle.ir_trees.specs.Hierarchy.Elaboration.{number_listed, trait_of, traits_among, with_number}
use Rattle.ir_trees.specs.Syntax.Trees.{Tree}
use Rattle.ir_trees.specs.Syntax.Words.{clause_tree, pred_tree}
use Rattle.candidate_assembly.specs.Rules.BuiltinRules.{flag_of_trait, is_of_trait}
use Rattle.candidate_assembly.specs.Rules.DynBounds.{auto_of}
use Rattle.candidate_assembly.specs.Rules.Unsizing.{autos}
use Rattle.candidate_assembly.specs.Calls.Upcasting.{names_auto}

number-is : (m n : ℕ) → (m == n) ≡ true → m ≡ n
number-is m n e = grind (arith, e)

-- by bounds
pub bounds-list : (n : ℕ) (ts : List Tree) (xs : List Pred) → number_listed (flat_map (λ b. auto_of b.head) (map (pred_tree ts) xs)) n ≡ list_any (λ p. names_auto n (pred_tree ts p)) xs
bounds-list n ts [] = refl
bounds-list n ts (x ∷ xs) =
    list_any-append (λ m. m == n) (auto_of (pred_tree ts x).head) (flat_map (λ b. auto_of b.head) (map (pred_tree ts) xs))
    ∙ ap (λ b. names_auto n (pred_tree ts x) || b) (bounds-list n ts xs)

-- by supertraits

kept-list : (f : ℕ → Bool) (n : ℕ) (xs : List ℕ) → number_listed (filter f xs) n ≡ (f n && number_listed xs n)
kept-list f n [] = nothing (f n)
  where
    nothing : (b : Bool) → false ≡ (b && false)
    nothing true = refl
    nothing false = refl
kept-list f n (x ∷ xs) = at (f x) (x == n) refl refl (kept-list f n xs)
  where
    both : (b c : Bool) → b ≡ true → (true || c) ≡ (b && true)
    both true c e = refl
    both false c e = cc

    neither : (a b : Bool) → b ≡ false → a ≡ (b && a) → a ≡ (b && true)
    neither a true e m = cc
    neither true false e m = cc
    neither false false e m = refl

    at : (b here : Bool) → f x ≡ b → (x == n) ≡ here → number_listed (filter f xs) n ≡ (f n && number_listed xs n)
        → number_listed (if b then x ∷ filter f xs else filter f xs) n ≡ (f n && (here || number_listed xs n))
    at true true e h more = ap (λ z. z || number_listed (filter f xs) n) h ∙ both (f n) (number_listed (filter f xs) n) (sym (ap f (number-is x n h)) ∙ e)
    at true false e h more = ap (λ z. z || number_listed (filter f xs) n) h ∙ more
    at false true e h more = neither (number_listed (filter f xs) n) (f n) (sym (ap f (number-is x n h)) ∙ e) (dropped (f n) (number_listed (filter f xs) n) (number_listed xs n) more (sym (ap f (number-is x n h)) ∙ e))
      where
        dropped : (b a d : Bool) → a ≡ (b && d) → b ≡ false → a ≡ (b && a)
        dropped true a d m e = cc
        dropped false a d m e = m
    at false false e h more = more

abbrev same : Option ℕ → ℕ → Bool
same None n = false
same (Some m) n = m == n

or-again : (a b c : Bool) → ((a || b) || c) ≡ (a || (b || c))
or-again true b c = refl
or-again false b c = refl

added-list : (ns : List ℕ) (o : Option ℕ) (n : ℕ) → number_listed (with_number ns o) n ≡ (number_listed ns n || same o n)
added-list ns None n = none (number_listed ns n)
  where
    none : (b : Bool) → b ≡ (b || false)
    none true = refl
    none false = refl
added-list ns (Some m) n = at (number_listed ns m) refl
  where
    pushed : number_listed (ns ++ m ∷ []) n ≡ (number_listed ns n || (m == n))
    pushed = list_any-append (λ k. k == n) ns (m ∷ []) ∙ ap (λ b. number_listed ns n || b) (last (m == n))
      where
        last : (b : Bool) → (b || false) ≡ b
        last true = refl
        last false = refl

    found-or : (a b : Bool) → a ≡ true → a ≡ (a || b)
    found-or true b h = refl
    found-or false b h = cc

    none : (b : Bool) → b ≡ (b || false)
    none true = refl
    none false = refl

    there : (b : Bool) → (m == n) ≡ b → number_listed ns m ≡ true → number_listed ns n ≡ (number_listed ns n || b)
    there true e h = found-or (number_listed ns n) true (sym (ap (number_listed ns) (number-is m n e)) ∙ h)
    there false e h = none (number_listed ns n)

    at : (b : Bool) → number_listed ns m ≡ b → number_listed (if b then ns else ns ++ m ∷ []) n ≡ (number_listed ns n || (m == n))
    at true h = there (m == n) refl h
    at false h = pushed

traits-list : (n : ℕ) (ts : List Tree) (ns : List ℕ) (xs : List Clause) → number_listed (traits_among ns (map (clause_tree ts) xs)) n ≡ (number_listed ns n || list_any (λ x. is_of_trait n (clause_tree ts x).head) xs)
traits-list n ts ns [] = none (number_listed ns n)
  where
    none : (b : Bool) → b ≡ (b || false)
    none true = refl
    none false = refl
traits-list n ts ns (x ∷ xs) =
    let t = clause_tree ts x in
    traits-list n ts (with_number ns (trait_of t.head)) xs
    ∙ (ap (λ b. b || list_any (λ x. is_of_trait n (clause_tree ts x).head) xs) (added-list ns (trait_of t.head) n)
    ∙ (or-again (number_listed ns n) (same (trait_of t.head) n) (list_any (λ x. is_of_trait n (clause_tree ts x).head) xs)
    ∙ ap (λ b. number_listed ns n || (b || list_any (λ x. is_of_trait n (clause_tree ts x).head) xs)) (speaks t.head)))
  where
    speaks : (h : Head) → same (trait_of h) n ≡ is_of_trait n h
    speaks (H.Part (P.Clause (Cl.Trait i p))) = refl
    speaks (H.Part (P.Clause _)) = refl
    speaks (H.Part _) = refl
    speaks _ = refl

pub autos-list : (c : Context) (n : ℕ) (supers : List Clause) (sources : List Pred) → number_listed (autos c (map (clause_tree c.trees) supers) (map (pred_tree c.trees) sources)) n
    ≡ (list_any (λ p. names_auto n (pred_tree c.trees p)) sources || (flag_of_trait (λ f. f.auto) c n && list_any (λ x. is_of_trait n (clause_tree c.trees x).head) supers))
autos-list c n supers sources =
    let own = flat_map (λ b. auto_of b.head) (map (pred_tree c.trees) sources) in
    let of = traits_among [] (map (clause_tree c.trees) supers) in
    list_any-append (λ m. m == n) own (filter (flag_of_trait (λ f. f.auto) c) of)
    ∙ (ap (λ b. b || number_listed (filter (flag_of_trait (λ f. f.auto) c) of) n) (bounds-list n c.trees sources)
    ∙ ap (λ b. list_any (λ p. names_auto n (pred_tree c.trees p)) sources || b) (kept-list (flag_of_trait (λ f. f.auto) c) n of ∙ ap (λ b. flag_of_trait (λ f. f.auto) c n && b) (traits-list n c.trees [] supers)))

-- The answers, by their parts.

pub by-bound : (a b : Bool) → a ≡ true → true ≡ (a || b)
by-bound true b h = refl
by-bound false b h = cc

pub by-supertrait : (a f b : Bool) → a ≡ false → f ≡ true → b ≡ (a || (f && b))
by-supertrait true f b h i = cc
by-supertrait false true b h i = refl
by-supertrait false false b h i = cc

pub by-none : (a f b : Bool) → a ≡ false → f ≡ false → false ≡ (a || (f && b))
by-none true f b h i = cc
by-none false true b h i = cc
by-none false false b h i = refl
