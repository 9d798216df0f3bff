-- Which traits are supertraits of a trait, and when one is its own.
use Rattle.std.specs.Prelude.{◌≡◌, ℕ, ◌<◌, Bool, List, [], map, Option, Some, None, slice_get}
use Rattle.std.specs.Bool.{MatchBool}
use Rattle.ir_trees.specs.declared.ir.heads.Head.{Head}
use Rattle.ir_trees.specs.declared.ir.heads.Head.TheVariants as H
use Rattle.ir_trees.specs.declared.ir.heads.PartHead.TheVariants as P
use Rattle.ir_trees.specs.declared.ir.heads.ClauseHead.{ClauseHead}
use Rattle.ir_trees.specs.declared.ir.heads.ClauseHead.TheVariants as Cl
use Rattle.ir_trees.specs.declared.ir.kinds.PredicatePolarity.TheVariants as Polarity
use Rattle.ir_trees.specs.declared.ir.kinds.Clause.{Clause}
use Rattle.ir_trees.specs.Syntax.Trees.{Tree}
use Rattle.ir_trees.specs.Syntax.Nodes.{tree_at}
use Rattle.ir_trees.specs.Declarations.Declaration.{Declaration}
use Rattle.ir_trees.specs.Declarations.Contents.{Contents}
use Rattle.ir_trees.specs.Declarations.Context.{Context}
use Rattle.ir_trees.specs.Hierarchy.Supers.{supers_of}

-- the trait that a clause says to hold; any other clause makes no trait a supertrait, also a projection
abbrev pub clause_trait : ClauseHead → Option ℕ
clause_trait (Cl.Trait t Polarity.Positive) = Some t.0
clause_trait _ = None

abbrev pub head_trait : Head → Option ℕ
head_trait (H.Part (P.Clause c)) = clause_trait c
head_trait _ = None

-- the trait that the clause's tree makes a supertrait
abbrev pub clause_supertrait : List Tree → Clause → Option ℕ
clause_supertrait ts x = head_trait (tree_at ts x.0).head

abbrev pub declared_supers : Contents → Option Declaration → List Clause
declared_supers c None = []
declared_supers c (Some d) = supers_of c d.kind

-- what each super clause of a definition makes a supertrait, one after the other; only a trait has some
abbrev pub named_supers : List Tree → List Declaration → Contents → ℕ → List (Option ℕ)
named_supers ts ds c i = map (clause_supertrait ts) (declared_supers c (slice_get ds i))

abbrev pub Names : Type 0
Names = ℕ → List (Option ℕ)

-- By what each trait's super clauses name: some super clause of the one names the other.
pub record IsDirectSupertrait (names : Names) (of super : ℕ) : Type 0 where
  pub place : ℕ
  pub named : slice_get (names of) place ≡ Some (Some super)

-- One or more such steps lead from the one to the other.
pub data IsSupertrait (names : Names) : ℕ → ℕ → Type 0 where
  direct : {i j : ℕ} → IsDirectSupertrait names i j → IsSupertrait names i j
  further : {i j k : ℕ} → IsDirectSupertrait names i j → IsSupertrait names j k → IsSupertrait names i k

-- Some trait is its own supertrait.
abbrev pub IsCyclic : Names → Type 0
IsCyclic names = (i : ℕ) × IsSupertrait names i i

-- Each has a number, its rank, that is lower for each of its direct supertraits.
pub record IsRanked (names : Names) : Type 0 where
  pub rank : ℕ → ℕ
  pub falls : (of super : ℕ) → IsDirectSupertrait names of super → rank super < rank of

-- whether some trait is its own supertrait, as a test says it
abbrev pub SaysCyclic : Names → Bool → Type 0
SaysCyclic names cyclic = MatchBool cyclic (IsCyclic names) (IsRanked names)

abbrev pub supers_in : Context → Names
supers_in c = named_supers c.trees c.declarations c.contents

abbrev pub HasSupertraitCycle : Context → Type 0
HasSupertraitCycle c = IsCyclic (supers_in c)

abbrev pub IsAcyclic : Context → Type 0
IsAcyclic c = IsRanked (supers_in c)
