-- Facts that are vouched for without a table of goals, and what is fresh for a goal under a binder.
use Rattle.std.specs.Prelude.{◌≡◌, ℕ, ◌<◌, false, List, [], ◌∷◌}
use Rattle.ir_trees.specs.declared.ir.heads.Head.{Head}
use Rattle.ir_trees.specs.declared.ir.heads.Head.TheVariants as H
use Rattle.ir_trees.specs.declared.ir.heads.PartHead.TheVariants as P
use Rattle.ir_trees.specs.declared.ir.heads.ClauseHead.TheVariants as Cl
use Rattle.ir_trees.specs.Syntax.Trees.{Kind, Forest, Tree, holds}
use Rattle.ir_trees.specs.Hierarchy.Supers.{after_first}
use Rattle.ir_trees.specs.Instantiation.Opening.{opened}
use Rattle.ir_trees.specs.Unification.Substitutions.{Universes}
use Rattle.candidate_eval.specs.Judges.States.{placeholders}
use Rattle.candidate_eval.specs.Derivations.Characterization.{bound_kinds}
use Rattle.candidate_eval.specs.Judges.Instances.{is_of_universe}
use Rattle.rounds_judge.specs.Aliases.Listed.{Listing}
use Rattle.rounds_judge.specs.Aliases.Congruence.{SameTree}
use Rattle.rounds_judge.specs.Obligations.Settling.{alias_of, first_fact, term_of}

-- The facts of a clause, by its head: a projection whose sides are equal, two trees that are, and all that outlives.
abbrev pub FactsGranted : Listing → Head → Forest → Type 0
FactsGranted l (H.Part (P.Clause (Cl.Projection i))) ts = SameTree l (alias_of i ts) (term_of ts)
FactsGranted l (H.Part (P.Clause Cl.AliasRelate)) ts = SameTree l (first_fact ts) (term_of ts)
FactsGranted l (H.Part (P.Clause Cl.ConstEquate)) ts = SameTree l (first_fact ts) (term_of ts)
FactsGranted l (H.Part (P.Clause Cl.TypeOutlives)) ts = Unit {0}
FactsGranted l (H.Part (P.Clause Cl.RegionOutlives)) ts = Unit {0}
FactsGranted l _ ts = ⊥

-- The universe is above the root, and above those of all variables and placeholders that the trees mention.
pub record IsFresh (u : Universes) (n : ℕ) (ts : Forest) : Type 0 where
  pub above_root : 0 < n
  pub unmentioned : holds (is_of_universe u n) ts ≡ false

-- A binder's variables need a fresh universe; no variables, no universe.
abbrev pub IsFreshFor : Universes → List Kind → ℕ → Forest → Type 0
IsFreshFor u [] n ts = Unit {0}
IsFreshFor u (k ∷ ks) n ts = IsFresh u n ts

-- the facts, with placeholders of that universe for what the binder binds
abbrev pub facts_in : ℕ → Tree → Forest
facts_in n c = opened (placeholders n 0 (bound_kinds c.children)) (after_first c.children)
