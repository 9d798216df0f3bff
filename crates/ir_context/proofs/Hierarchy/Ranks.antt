-- Finished declarations rank their traits, so that all clauses have an elaboration over them.
use Rattle.std.proofs.Common.{◌≡◌, ℕ, suc, ◌<◌, ◌≤◌, List, [], ◌∷◌, length, Option, Some, None, refl, sym, ◌∙◌, ap, subst}
use Rattle.std.specs.Prelude.{map, slice_get}
use Rattle.std.proofs.lemmas.Option.{slice_get_past}
use Rattle.ir_trees.specs.declared.ir.kinds.Clause.{Clause}
use Rattle.ir_trees.specs.declared.decl.definition.DefinitionKind.{DefinitionKind}
use Rattle.ir_trees.specs.declared.decl.definition.DefinitionKind.TheVariants as D
use Rattle.ir_trees.specs.Declarations.Declaration.{Declaration}
use Rattle.ir_trees.specs.Declarations.Declaring.{no_place, place_of, trait_place, trait_at}
use Rattle.ir_trees.specs.Declarations.Contents.{TraitContents}
use Rattle.ir_trees.specs.Declarations.Context.{Context}
use Rattle.ir_trees.specs.Syntax.Trees.{Tree}
use Rattle.ir_trees.specs.Hierarchy.Supers.{supers_at, supers_of}
use Rattle.ir_trees.specs.Hierarchy.Supertraits.{head_trait, clause_supertrait, declared_supers, supers_in, IsAcyclic}
use Rattle.ir_trees.specs.Hierarchy.Elaboration.{super_clauses, IsLower, AreLower, IsRank, unlisted, IsElaboration}
use Rattle.ir_trees.specs.Validity.WellFormed.{IsWellFormedTable}
use Rattle.ir_trees.specs.Syntax.Words.{clause_tree}
use Rattle.ir_context.proofs.Hierarchy.Elaboration.{has_elaboration}

lower-all : (ts : List Tree) (rank : ℕ → ℕ) (n : ℕ) (xs : List Clause) → ((k j : ℕ) → slice_get (map (clause_supertrait ts) xs) k ≡ Some (Some j) → rank j < n)
    → AreLower rank n (map (clause_tree ts) xs)
lower-all ts rank n [] f = tt
lower-all ts rank n (x ∷ xs) f = (here (head_trait (clause_tree ts x).head) refl, lower-all ts rank n xs (λ k j e. f (suc k) j e))
  where
    here : (o : Option ℕ) → head_trait (clause_tree ts x).head ≡ o → IsLower rank n (head_trait (clause_tree ts x).head)
    here None q = subst (IsLower rank n) (sym q) tt
    here (Some j) q = subst (IsLower rank n) (sym q) (f 0 j (ap (λ (o : Option ℕ). Some o) q))

no-traits : (c : Context) (n : ℕ) (rank : ℕ → ℕ) → length c.contents.traits ≤ no_place
    → AreLower rank n (map (clause_tree c.trees) (supers_at (slice_get c.contents.traits no_place)))
no-traits c n rank l = subst (λ (t : Option TraitContents). AreLower rank n (map (clause_tree c.trees) (supers_at t))) (sym (slice_get_past c.contents.traits no_place l)) tt

pub ranked_clauses : (c : Context) → length c.contents.traits ≤ no_place → (a : IsAcyclic c) → IsRank (super_clauses c) a.rank
ranked_clauses c l a = record { lower = lower }
  where
    Lower : ℕ → Option TraitContents → Type 0
    Lower i t = AreLower a.rank (a.rank i) (map (clause_tree c.trees) (supers_at t))

    kinds : (i : ℕ) (d : Declaration) → slice_get c.declarations i ≡ Some d → (k : DefinitionKind) → d.kind ≡ k → Lower i (slice_get c.contents.traits (trait_place k))
    kinds i d q (D.Trait flags p) e =
        let named : supers_in c i ≡ map (clause_supertrait c.trees) (supers_at (slice_get c.contents.traits p)) =
        ap (λ (o : Option Declaration). map (clause_supertrait c.trees) (declared_supers c.contents o)) q
        ∙ ap (λ (k : DefinitionKind). map (clause_supertrait c.trees) (supers_of c.contents k)) e in
        lower-all c.trees a.rank (a.rank i) (supers_at (slice_get c.contents.traits p))
        (λ k j s. a.falls i j (record { place = k; named = ap (λ (xs : List (Option ℕ)). slice_get xs k) named ∙ s }))
    kinds i d q (D.Adt _ _ _) e = no-traits c (a.rank i) a.rank l
    kinds i d q D.Foreign e = no-traits c (a.rank i) a.rank l
    kinds i d q (D.Assoc _ _ _ _) e = no-traits c (a.rank i) a.rank l
    kinds i d q (D.Alias _) e = no-traits c (a.rank i) a.rank l
    kinds i d q (D.Opaque _ _) e = no-traits c (a.rank i) a.rank l
    kinds i d q (D.Function _ _) e = no-traits c (a.rank i) a.rank l
    kinds i d q (D.Closure _) e = no-traits c (a.rank i) a.rank l

    of : (i : ℕ) (o : Option Declaration) → slice_get c.declarations i ≡ o → Lower i (trait_at c i)
    of i None q = subst (λ (o : Option Declaration). Lower i (slice_get c.contents.traits (place_of trait_place o))) (sym q) (no-traits c (a.rank i) a.rank l)
    of i (Some d) q = subst (λ (o : Option Declaration). Lower i (slice_get c.contents.traits (place_of trait_place o))) (sym q) (kinds i d q d.kind refl)

    lower : (i : ℕ) → AreLower a.rank (a.rank i) (super_clauses c i)
    lower i = of i (slice_get c.declarations i) refl

-- Over finished declarations every list of clauses has its elaboration.
pub elaborated : (c : Context) → IsWellFormedTable c → length c.contents.traits ≤ no_place → (ts : List Tree) → (all : List Tree) × IsElaboration c ts all
unfolding IsWellFormedTable
elaborated c t l ts =
    let e = has_elaboration (super_clauses c) t.supertraits.rank (ranked_clauses c l t.supertraits) [] (unlisted [] ts) in
    (e.all, e.elaborates)
