-- What an object candidate asks for, as the data of a rule: a list of picks, of which the terms become the rule's next variables.
use Rattle.std.specs.Prelude.{◌≡◌, ◌≤◌, ℕ, suc, ◌+◌, false, List, [], ◌∷◌, ◌++◌, map, length}
use Rattle.std.specs.List.{All, filter, flat_map}
use Rattle.ir_trees.specs.Syntax.Binders.{escapes}
use Rattle.ir_trees.specs.Unification.Substitutions.{alone}
use Rattle.ir_trees.specs.Syntax.Trees.{Forest, Tree, count, holds, is_param, join}
use Rattle.candidate_eval.specs.Outcomes.Certainties.{AMBIGUOUS}
use Rattle.candidate_eval.specs.Derivations.Characterization.{bound_kinds}
use Rattle.candidate_eval.specs.Derivations.Judging.{Place, comes_to, asked, put_in_tree, source_of}
use Rattle.candidate_eval.specs.Derivations.Mentions.{IsBelow, StepsBelow, EndingBelow}
use Rattle.candidate_eval.specs.Derivations.Naming.{named_clause, names_from, row_of}
use Rattle.candidate_eval.specs.Dynamic.Objects.{Projection, arguments_in, is_about, term_in}
use Rattle.candidate_eval.specs.Dynamic.Replacing.{Finds, filled_clause, own_projection, projections}
use Rattle.candidate_eval.specs.Derivations.Rules.{Match, Require, Step, pick, Ending}
use Rattle.candidate_eval.specs.Judges.States.{Env, State, Judge}

-- A bound as what may match a projection, where so many of the rule's variables are there: fresh variables for those of its binder, both
-- rows of arguments, and its term.
abbrev pub match_of : ℕ → Projection → Tree → Match
match_of first p c = record {
  entered = [];
  instantiated = bound_kinds c.children;
  left = arguments_in (named_clause first c);
  right = p.arguments;
  term = term_in (named_clause first c);
}

-- those of the bounds that are about the same associated type
abbrev pub matches_of : ℕ → List Tree → Projection → List Match
matches_of first bounds p = map (match_of first p) (filter (λ c. is_about p.item c.head) bounds)

-- One pick for each projection, in their order; each adds one to the rule's variables.
abbrev pub picks_of : ℕ → List Tree → List Projection → List Step
picks_of first bounds [] = []
picks_of first bounds (p ∷ ps) = pick Require (matches_of first bounds p) ∷ picks_of (suc first) bounds ps

-- the projections in clauses, in their order
abbrev pub projections_in : Finds → List Tree → List Projection
projections_in f cs = flat_map (λ c. projections f c.children) cs

-- the clauses with names for the terms, from that number on
abbrev pub named_clauses : Finds → ℕ → List Tree → List Tree
named_clauses f first [] = []
named_clauses f first (c ∷ cs) =
    let n = length (projections f c.children) in
    filled_clause f (names_from first n) c ∷ named_clauses f (first + n) cs

-- A tree of which a rule may speak: no name of a rule stands in it, and it mentions the first n variables alone.
pub record IsRuleTree (n : ℕ) (t : Tree) : Type 0 where
  pub no_parameter : holds is_param (alone t) ≡ false
  pub below : IsBelow n (alone t)

-- What is asked for makes up a rule at a state, where the rule's variables stand for these trees. From no bound escapes a bound variable.
pub record IsRuleAt (S : State) (ls : Forest) (n : ℕ) (e : Env) (bs cs : List Tree) : Type 0 where
  pub env : IsBelow n e
  pub bounds : All (IsRuleTree n) bs
  pub closed : All (λ b. escapes 0 (alone b) ≡ false) bs
  pub required : All (IsRuleTree n) cs
  pub there : n ≤ length S.variables
  pub locals : IsBelow (length S.variables) ls

abbrev pub place_at : State → Forest → Place
place_at S ls = record { state = S; locals = ls }

-- What the picks and then any steps come to from the first state is what those steps come to from the last, where the terms are the
-- rule's next variables. And the goals are the clauses with the terms for their names.
pub record IsAskedByRule (J : Judge) (e : Env) (object : Tree) (bounds : List Tree) (S : State) (required replaced : List Tree) (T : State) : Type 0 where
  pub terms : List Tree
  pub comes : (n : ℕ) (ls : Forest) → IsRuleAt S ls n e bounds required → (more : List Step) (end : Ending) → StepsBelow n more → EndingBelow n end
      → comes_to J e (place_at S ls) (picks_of (count ls) bounds (projections_in (own_projection object bounds) required) ++ more) end ≡ comes_to J e (place_at T (join ls (row_of terms))) more end
  pub goals : (n : ℕ) (ls : Forest) → IsRuleAt S ls n e bounds required
      → map (put_in_tree (place_at T (join ls (row_of terms)))) (named_clauses (own_projection object bounds) (count ls) required) ≡ replaced

-- Where too little is known the rule ends with ambiguity at the state that is left, whatever its steps are.
abbrev pub IsUnknownByRule : Judge → Env → Tree → List Tree → State → List Tree → State → Type 0
IsUnknownByRule J e object bounds S required T =
    (n : ℕ) (ls : Forest) → IsRuleAt S ls n e bounds required → (more : List Step) (end : Ending) → StepsBelow n more → EndingBelow n end
    → comes_to J e (place_at S ls) (picks_of (count ls) bounds (projections_in (own_projection object bounds) required) ++ more) end ≡ asked J T (source_of end) AMBIGUOUS
