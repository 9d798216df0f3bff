-- What a judge has to grant and to equate, so that what its rules come to is derived modulo pairs.
use Rattle.std.proofs.Common.{◌≡◌, ℕ, List, Some, false}
use Rattle.ir_trees.specs.declared.decl.limits.Limits.{Limits}
use Rattle.ir_trees.specs.Declarations.Context.{Context}
use Rattle.ir_trees.specs.Declarations.Worlds.{World}
use Rattle.ir_trees.specs.Hierarchy.Supers.{after_first}
use Rattle.ir_trees.specs.Syntax.Trees.{Forest, Tree, join}
use Rattle.ir_trees.specs.Unification.Substitutions.{Universes, alone}
use Rattle.candidate_eval.specs.Derivations.Characterization.{bound_kinds}
use Rattle.candidate_eval.specs.Judges.Instances.{Instance, IsAllowedInto}
use Rattle.candidate_eval.specs.Judges.Lawful.{AreGranted, Lawful}
use Rattle.candidate_eval.specs.Judges.Soundness.{AreTreesOf, Follows, GoalsAreOf, IsSound, Live, ValuesFit, universes}
use Rattle.candidate_eval.specs.Judges.States.{Env, Goal, Judge, Pending, State, resolved}
use Rattle.candidate_eval.specs.Knowability.Orphan.{is_general}
use Rattle.rounds_judge.specs.Aliases.Congruence.{SameBy}
use Rattle.rounds_judge.specs.Aliases.Listed.{Listing}
use Rattle.rounds_judge.specs.Equations.Standing.{IsListing}
use Rattle.rounds_judge.specs.Obligations.Granted.{IsFreshFor, facts_in}
use Rattle.rounds_judge.specs.Table.GoalTable.{GoalTable}
use Rattle.rounds_judge.specs.Table.TableJudge.{table_judge}
use Rattle.rounds_judge.proofs.Aliases.Faithful.{normal_equal}
use Rattle.rounds_judge.proofs.Lawfulness.OpenSides.{sides_equal}
use Rattle.derivations.specs.Derivations.{DerivationModulo, ListedPairs, Pairs}
use Rattle.derivations.specs.DerivedTables.{AreDerived}
use Rattle.derivations.proofs.Closing.{ClosesUnder, listed_closes}
use Rattle.derivations.proofs.Sharing.{ArePairs, facts_derive, listed_pairs}

-- A goal's facts are derived at a state.
pub record IsDerivedThere (d : Context) (l : Listing) (E : Pairs) (S : State) (g : Goal) : Type 0 where
  pub universe : ℕ
  pub is_fresh : IsFreshFor (universes S) (bound_kinds g.clause.children) universe (join g.env (after_first g.clause.children))
  pub facts : DerivationModulo d l E (universes S) (resolved S g.env) g.clause.head (resolved S (facts_in universe g.clause))

-- A normal form is a tree of a state that follows. Unless it is a general variable it is one with what was normalised.
pub record IsNormalBy (E : Pairs) (S : State) (L : Live) (e : Env) (t : Tree) (R : State) (u : Tree) : Type 0 where
  pub follows : Follows S R L
  pub tree : AreTreesOf R follows.live (alone u)
  pub equal : is_general u.head ≡ false → (U : State) → Follows R U follows.live → SameBy (E (universes U) (resolved U e)) (resolved U (alone t)) (resolved U (alone u))

-- What is granted is derived. The sides of an equation are one where what it leaves is granted, and so are a tree and its normal form.
pub record Backs (J : Judge) (d : Context) (l : Listing) (E : Pairs) : Type 0 where
  pub pairs : ArePairs l E
  pub closes : (u w : Universes) (o : Instance) → IsAllowedInto u w o → ClosesUnder E u w o
  pub alike : (S T : State) → J.alike S T → T ≡ S
  pub granted : (S : State) (g : Goal) → J.granted S g → IsDerivedThere d l E S g
  pub equated : (S R U : State) (L : Live) (e : Env) (a b : Forest) (gs : List Pending) → IsSound S L → ValuesFit S L → AreTreesOf S L e → AreTreesOf S L a → AreTreesOf S L b
      → (f : Follows S R L) → GoalsAreOf R f.live gs → Follows R U f.live → AreGranted J U gs → J.equated S e a b ≡ Some (gs, R) → SameBy (E (universes U) (resolved U e)) (resolved U a) (resolved U b)
  pub normal : (S R : State) (L : Live) (e : Env) (t u : Tree) → IsSound S L → ValuesFit S L → AreTreesOf S L e → AreTreesOf S L (alone t) → J.normalized S e t ≡ Some (u, R) → IsNormalBy E S L e t R u

-- The judge by a table of which each Yes is derived does so modulo the listed pairs.
pub table_backs : {W : Type 0} (world : World) (local : ℕ) (limits : Limits) (l : Listing) (opaques : List Tree) (T : GoalTable W) → IsListing l → Lawful (table_judge world local limits l opaques T) → (d : Context) → AreDerived d l T
    → Backs (table_judge world local limits l opaques T) d l (ListedPairs l)
table_backs world local limits l opaques T listing law d derived = record {
  pairs = listed_pairs l;
  closes = λ u w o allowed. listed_closes l listing u w o;
  alike = λ S R is. is;
  granted = λ S g is. record { universe = is.universe; is_fresh = is.is_fresh; facts = facts_derive d l T derived (universes S) (resolved S g.env) g.clause.head (resolved S (facts_in is.universe g.clause)) is.facts };
  equated = λ S R U L e a b gs sound fits env left right f of after all is. sides_equal T l listing S R U L e a b gs sound fits env left right f of after all is;
  normal = λ S R L e t u sound fits env tree is.
      let n = law.normal_forms.normalizing_follows S R L e t u sound fits env tree is in
      record { follows = n.follows; tree = n.tree; equal = λ known U f. normal_equal l listing S R U L e t u sound fits tree known is n.follows f };
}
