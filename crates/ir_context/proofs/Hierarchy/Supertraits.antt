-- What a clause names, and that a table with ranks has no cycle.
use Rattle.std.proofs.Common.{◌≡◌, ℕ, zero, suc, ◌<◌, ◌≤◌, List, [], ◌∷◌, length, Bool, false, Option, Some, None, IsTrue, ◌↔◌, refl, ◌∙◌, ap, arith}
use Rattle.std.specs.Prelude.{map, slice_get}
use Rattle.std.specs.Option.{option_map}
use Rattle.std.proofs.lemmas.Option.{slice_get_past, slice_get-map}
use Rattle.ir_trees.specs.declared.ir.heads.Head.{Head}
use Rattle.ir_trees.specs.declared.ir.heads.Head.TheVariants as H
use Rattle.ir_trees.specs.declared.ir.heads.PartHead.TheVariants as P
use Rattle.ir_trees.specs.declared.ir.heads.ClauseHead.{ClauseHead}
use Rattle.ir_trees.specs.declared.ir.kinds.Clause.{Clause}
use Rattle.ir_trees.specs.declared.ir.kinds.Binder.{Binder}
use Rattle.ir_trees.specs.declared.ir.kinds.ClauseKind.{ClauseKind}
use Rattle.ir_trees.specs.Syntax.Trees.{Tree, kind_of, ClauseKind as OfClause}
use Rattle.ir_trees.specs.Syntax.Kinds.{clause_head}
use Rattle.ir_trees.specs.Syntax.Nodes.{tree_at, kind_at}
use Rattle.ir_trees.specs.Syntax.Words.{IsClause, clause_kind_tree, clause_tree}
use Rattle.ir_trees.specs.Declarations.Declaration.{Declaration}
use Rattle.ir_trees.specs.Declarations.Contents.{Contents}
use Rattle.ir_trees.specs.Hierarchy.Supertraits.{Names, IsSupertrait, direct, further, IsCyclic, IsRanked, head_trait, clause_trait, clause_supertrait, declared_supers, named_supers}

-- the rank falls along each path
rank-falls : (names : Names) (r : IsRanked names) {i j : ℕ} → IsSupertrait names i j → r.rank j < r.rank i
rank-falls names r (direct d) = r.falls _ _ d
rank-falls names r (further d rest) = omega (arith, r.falls _ _ d, rank-falls names r rest)

-- so where there are ranks no trait is its own supertrait
pub ranked_has_no_cycle : (names : Names) → IsRanked names → IsCyclic names → ⊥
ranked_has_no_cycle names r c = omega (arith, rank-falls names r c.1)

-- what is no clause names no trait
head-names-none : (h : Head) → (kind_of h ≡ OfClause → ⊥) → head_trait h ≡ None
head-names-none (H.Part (P.Clause c)) n = absurd (n refl)
head-names-none (H.Part (P.Pred c)) n = refl
head-names-none (H.Part P.Sig) n = refl
head-names-none (H.Part P.Vars) n = refl
head-names-none (H.Part (P.Var k)) n = refl
head-names-none _ n = refl

tree-names-none : (ts : List Tree) (i : ℕ) → (kind_at ts i ≡ OfClause → ⊥) → head_trait (tree_at ts i).head ≡ None
tree-names-none [] i n = refl
tree-names-none (t ∷ ts) zero n = head-names-none t.head n
tree-names-none (t ∷ ts) (suc i) n = tree-names-none ts i n

pub no_clause_names_none : (ts : List Tree) (x : Clause) (b : Bool) → IsTrue b ↔ IsClause ts x → b ≡ false → clause_supertrait ts x ≡ None
no_clause_names_none ts x b r e = tree-names-none ts x.0 (λ k. let t : IsTrue b = r.1 k in cc)

-- and a clause the trait of its head
pub clause_names : (ts : List Tree) (x : Clause) (b : Binder ClauseKind) (h : ClauseHead) → clause_kind_tree ts b ≡ clause_tree ts x → h ≡ clause_head b
    → clause_trait h ≡ clause_supertrait ts x
clause_names ts x b h e g = ap clause_trait g ∙ ap (λ (t : Tree). head_trait t.head) e

-- what is no definition has no super clauses
pub no_names_past : (ts : List Tree) (ds : List Declaration) (c : Contents) (i : ℕ) → length ds ≤ i → named_supers ts ds c i ≡ []
no_names_past ts ds c i h = ap (λ (d : Option Declaration). map (clause_supertrait ts) (declared_supers c d)) (slice_get_past ds i h)

-- what the super clause in a place names
pub named_at : (ts : List Tree) (ds : List Declaration) (c : Contents) (i k : ℕ) (x : Clause) (e : Option ℕ) → slice_get (declared_supers c (slice_get ds i)) k ≡ Some x
    → clause_supertrait ts x ≡ e → slice_get (named_supers ts ds c i) k ≡ Some e
named_at ts ds c i k x e h g =
    slice_get-map (clause_supertrait ts) (declared_supers c (slice_get ds i)) k
    ∙ (ap (option_map (clause_supertrait ts)) h ∙ ap (λ (o : Option ℕ). Some o) g)

pub named_none : (ts : List Tree) (ds : List Declaration) (c : Contents) (i k : ℕ) → slice_get (declared_supers c (slice_get ds i)) k ≡ None
    → slice_get (named_supers ts ds c i) k ≡ None
named_none ts ds c i k h =
    slice_get-map (clause_supertrait ts) (declared_supers c (slice_get ds i)) k ∙ ap (option_map (clause_supertrait ts)) h
