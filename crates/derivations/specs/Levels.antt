-- Derivations by levels: what is one is listed, or is an alias with a type of which it is derived, a level below, that the alias is the type.
use Rattle.std.specs.Prelude.{◌≡◌, ◌⊎◌, ℕ, zero, suc}
use Rattle.ir_trees.specs.declared.ir.heads.ClauseHead.TheVariants as Cl
use Rattle.ir_trees.specs.declared.ir.heads.Head.{Head}
use Rattle.ir_trees.specs.declared.ir.heads.Head.TheVariants as H
use Rattle.ir_trees.specs.declared.ir.heads.PartHead.TheVariants as P
use Rattle.ir_trees.specs.declared.ir.kinds.AssocId.{AssocId}
use Rattle.ir_trees.specs.Declarations.Context.{Context}
use Rattle.ir_trees.specs.Syntax.Trees.{Forest, Tree}
use Rattle.ir_trees.specs.Unification.Substitutions.{Universes}
use Rattle.candidate_eval.specs.Derivations.ImplRules.{TraitGoal}
use Rattle.candidate_eval.specs.Judges.States.{Env}
use Rattle.rounds_judge.specs.Aliases.Congruence.{AreListed}
use Rattle.rounds_judge.specs.Aliases.Listed.{Listing}
use Rattle.rounds_judge.specs.Obligations.Settling.{alias_of, term_of}
use Rattle.derivations.specs.Derivations.{DerivationModulo, ListedPairs, Pairs}

-- An alias and a type of which it is derived that the one is the other.
pub record IsDerivedType (d : Context) (l : Listing) (E : Pairs) (w : Universes) (e : Env) (t s : Tree) : Type 0 where
  pub item : AssocId
  pub facts : Forest
  pub derivation : DerivationModulo d l E w e (H.Part (P.Clause (Cl.Projection item))) facts
  pub alias : alias_of item facts ≡ t
  pub type : term_of facts ≡ s

abbrev pub AreOneBelow : Context → Listing → Pairs → Pairs
AreOneBelow d l E w e t s = AreListed l t s ⊎ IsDerivedType d l E w e t s

abbrev pub PairsAt : Context → Listing → ℕ → Pairs
PairsAt d l zero = ListedPairs l
PairsAt d l (suc n) = AreOneBelow d l (PairsAt d l n)

-- the head of a clause that says what the goal of a projection does, as tables have it
abbrev pub said_of_type : TraitGoal → Head
said_of_type g = H.Part (P.Clause (Cl.Projection (record { 0 = g.reference.trait })))
