-- What a response says is given with a new variable that stands for the type of a projection.
use Rattle.std.proofs.Common.{◌≡◌, ℕ, suc, List, [], ◌∷◌, ◌++◌, map, length, refl, sym, ◌∙◌, ap, subst}
use Rattle.ir_trees.specs.declared.ir.heads.VariableSort.TheVariants.{General}
use Rattle.ir_trees.specs.declared.ir.stop.Stop.{Stop}
use Rattle.ir_trees.specs.Syntax.Trees.{Tree}
use Rattle.candidate_eval.specs.declared.eval.variable.CanonicalVar.{CanonicalVar}
use Rattle.candidate_eval.specs.declared.eval.variable.VariableKind.TheVariants.{Term}
use Rattle.candidate_eval.specs.Derivations.ImplRules.{TraitGoal}
use Rattle.candidate_eval.specs.Judges.Alike.{info}
use Rattle.candidate_eval.specs.Judges.States.{State}
use Rattle.candidate_eval.specs.Outcomes.Responses.{Response}
use Rattle.rounds_judge.specs.Aliases.Listed.{Listing}
use Rattle.rounds_judge.specs.Obligations.Responding.{open_variable}
use Rattle.rounds_judge.specs.Table.Keys.{Key, key_at, newest_of, numbers_at}
use Rattle.rounds_judge.specs.Table.TableSettling.{given, with_open}
use Rattle.candidate_rounds.specs.declared.rounds.goals.GoalKey.{GoalKey}
use Rattle.candidate_rounds.specs.Evaluators.Stopping.{IsGivingStop}
use Rattle.candidate_rounds.specs.Table.Goals.{goal_seen, key_seen}
use Rattle.candidate_rounds.specs.Table.Normalizing.{term_variable, with_term}
use Rattle.candidate_rounds.specs.Table.Projected.{IsGivingNormalStop, normal_given, with_normal}

-- The key with the variable, by its numbers.
pub term-seen : (ts : List Tree) (k kn : GoalKey) (n : ℕ) → n ≡ newest_of (key_seen ts k) → kn.goal ≡ k.goal → kn.variables.items ≡ k.variables.items ++ record { kind = Term General; universe = n } ∷ []
    → key_seen ts kn ≡ with_term (key_seen ts k)
term-seen ts k kn n newest same more =
    let vs = more ∙ ap (λ u. k.variables.items ++ record { kind = Term General; universe = u } ∷ []) newest in
    λ j. record { goal = goal_seen ts (same j); variables = vs j }

-- It has as many variables as there are numbers of them.

one-more : {A : Type 0} (f : ℕ → A) (ns : List ℕ) (n : ℕ) (x : A) → length (ns ++ n ∷ []) ≡ length (map f ns ++ x ∷ [])
one-more f [] n x = refl
one-more f (m ∷ ns) n x = ap suc (one-more f ns n x)

pub term-numbers : (S : State) (g : TraitGoal) (ns : List ℕ) (vs : List CanonicalVar) → ns ≡ numbers_at S g ++ length S.variables ∷ [] → vs ≡ (with_term (key_at S g)).variables → length ns ≡ length vs
term-numbers S g ns vs e f = ap (λ (x : List ℕ). length x) e ∙ (one-more (λ n. open_variable (info S n)) (numbers_at S g) (length S.variables) (term_variable (key_at S g)) ∙ ap (λ (x : List CanonicalVar). length x) (sym f))

-- The response is given at the state that has the variable, by what is the same there.
module _ (l m : Listing) (S T : State) (g : TraitGoal) (k : Key) (ns : List ℕ) (a b : Response) (i : m ≡ l) (t : T ≡ with_open S (term_variable (key_at S g))) (e : k ≡ with_term (key_at S g))
    (n : ns ≡ numbers_at S g ++ length S.variables ∷ []) (same : b ≡ a) where
  pub normal-given : given m T k ns b ≡ with_normal l S g a
  normal-given = λ j. given (i j) (t j) (e j) (n j) (same j)

  pub normal-stop : (ts : List Tree) (s : Stop) → IsGivingStop ts m T k ns b s → IsGivingNormalStop ts l S g a s
  normal-stop ts s h = normal_given (subst (λ (x : Listing × State × Key × List ℕ × Response). IsGivingStop ts x.0 x.1 x.2 x.3 x.4 s) (λ j. (i j, t j, e j, n j, same j)) h)
