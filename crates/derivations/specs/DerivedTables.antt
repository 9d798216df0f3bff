-- Tables of goals of which each Yes is derived.
use Rattle.std.specs.Prelude.{Option, Some}
use Rattle.std.specs.List.{All, Contains}
use Rattle.ir_trees.specs.declared.ir.heads.Head.{Head}
use Rattle.ir_trees.specs.declared.ir.heads.Variable.{Variable}
use Rattle.ir_trees.specs.Declarations.Context.{Context, Grows}
use Rattle.ir_trees.specs.Unification.Substitutions.{Universes, alone}
use Rattle.ir_trees.specs.Syntax.Trees.{Tree}
use Rattle.ir_trees.specs.Validity.WellFormed.{IsWellFormedTable}
use Rattle.candidate_eval.specs.Derivations.ImplRules.{TraitGoal}
use Rattle.candidate_eval.specs.Judges.Instances.{IsAllowedInto, response_universes}
use Rattle.candidate_eval.specs.Outcomes.Responses.{Response}
use Rattle.rounds_judge.specs.Table.GoalTable.{Entry, GoalTable}
use Rattle.rounds_judge.specs.Table.Keys.{Key}
use Rattle.rounds_judge.specs.Aliases.Listed.{Listing}
use Rattle.rounds_judge.specs.Table.TableGranted.{answered}
use Rattle.rounds_judge.specs.Table.Verdicts.{Verdict, Yes}
use Rattle.derivations.specs.Clean.{IsClean}
use Rattle.derivations.specs.Derivations.{DerivationModulo, ListedPairs, Pairs, said_by}

-- The key's goal, with the values that the response gives, and each allowed instance of it is derived modulo these pairs, where goals say this.
abbrev pub YesIsDerivedAs : (TraitGoal → Head) → Context → Listing → Pairs → Key → Response → Type 0
YesIsDerivedAs says d l E k r =
    (w : Universes) (values : Variable → Tree) → IsAllowedInto (response_universes r) w (λ v. Some (values v))
    → DerivationModulo d l E w (answered r values k.goal.env) (says k.goal) (answered r values k.goal.reference.arguments)

abbrev pub VerdictIsDerivedAs : {W : Type 0} → (TraitGoal → Head) → Context → Listing → Pairs → Key → Option (Verdict W) → Type 0
VerdictIsDerivedAs says d l E k (Some (Yes r way)) = YesIsDerivedAs says d l E k r
VerdictIsDerivedAs says d l E k _ = Unit {0}

-- Each Yes that the table holds is.
abbrev pub AreDerivedAs : {W : Type 0} → (TraitGoal → Head) → Context → Listing → Pairs → GoalTable W → Type 0
AreDerivedAs {W} says d l E T = (e : Entry W) → Contains T e → VerdictIsDerivedAs says d l E e.key e.verdict

-- Goals of traits.
abbrev pub AreDerivedModulo : {W : Type 0} → Context → Listing → Pairs → GoalTable W → Type 0
AreDerivedModulo = AreDerivedAs said_by

-- Modulo the listed pairs.

abbrev pub YesIsDerived : Context → Listing → Key → Response → Type 0
YesIsDerived d l = YesIsDerivedAs said_by d l (ListedPairs l)

abbrev pub VerdictIsDerived : {W : Type 0} → Context → Listing → Key → Option (Verdict W) → Type 0
VerdictIsDerived d l = VerdictIsDerivedAs said_by d l (ListedPairs l)

abbrev pub AreDerived : {W : Type 0} → Context → Listing → GoalTable W → Type 0
AreDerived d l = AreDerivedModulo d l (ListedPairs l)

-- No error of regions stands in a listed type.
abbrev pub ListedAreClean : Listing → Type 0
ListedAreClean l = All (λ (p : Tree × Tree). IsClean (alone p.1)) l.pairs

-- Nor in the arguments of a goal that was asked. Derivations are read without any, so they are of tables that have none.
pub record TableIsClean {W : Type 0} (l : Listing) (T : GoalTable W) : Type 0 where
  pub listed : ListedAreClean l
  pub keys : (e : Entry W) → Contains T e → IsClean e.key.goal.reference.arguments

-- Something holds of what is declared: of a context from which this one grew, and in which all that is declared stands already.
pub record ByDeclared (c : Context) (P : Context → Type 0) : Type 0 where
  pub declared : Context
  pub grows : Grows declared c
  pub well_formed : IsWellFormedTable declared
  pub holds : P declared

-- Each Yes of the table is derived by what is declared, where no error of regions stands in its goals and in what is listed. It is opaque: a
-- tactic reads each part of a fact that it can see into, and few proofs need one.
unfoldable pub TableIsDerived : {W : Type 0} → Context → Listing → GoalTable W → Type 0
TableIsDerived c l T = ByDeclared c (λ d. TableIsClean l T → AreDerived d l T)

-- And the verdict of a goal by the table, if it is a Yes.
unfoldable pub AnswerIsDerived : {W : Type 0} → Context → Listing → GoalTable W → Key → Option (Verdict W) → Type 0
AnswerIsDerived c l T k v = ByDeclared c (λ d. TableIsClean l T → VerdictIsDerived d l k v)

-- Each Yes of the table is derived so whatever stands in its other goals, where no error of regions stands in what is listed.
unfoldable pub EachIsDerived : {W : Type 0} → Context → Listing → GoalTable W → Type 0
EachIsDerived c l T = ByDeclared c (λ d. ListedAreClean l → AreDerived d l T)
