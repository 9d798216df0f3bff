-- Keys with the same numbers.
use Rattle.std.specs.Prelude.{◌≡◌, ℕ, Bool, true, List, ◌++◌, nat_eq}
use Rattle.std.specs.Ordering.{on, eq_of_both}
use Rattle.std.specs.Cmp.{IsPartialEquivalence, IsEquivalence, unsigned_Decides, nat_eq_equiv, and_equiv, on_equiv, partial_equiv_from_equiv}
use Rattle.std.specs.Cmp.Lexicographic.{pointwise, lists_equiv}
use Rattle.std.specs.Hash.{HashWrites, u32, and-Alike, first_alike, on_Alike, same_Alike}
use Rattle.candidate_eval.specs.declared.eval.variable.CanonicalVar.{CanonicalVar}
use Rattle.candidate_eval.specs.contracts.eval.variable.CanonicalVarPartialEq.TheImpl.{eq-value}
use Rattle.candidate_eval.specs.contracts.eval.variable.CanonicalVarEq.TheImpl.Laws.{laws-law}
use Rattle.candidate_rounds.specs.declared.rounds.goals.GoalKey.{GoalKey}

abbrev pub clause_number : GoalKey → ℕ
clause_number k = k.goal.predicate.0

abbrev pub env_number : GoalKey → ℕ
env_number k = k.goal.param_env.0

abbrev pub variables_of : GoalKey → List CanonicalVar
variables_of k = k.variables.items

-- The clauses and the environments have one number each, and the variables are of the same kinds and universes.
abbrev pub same_numbers : GoalKey → GoalKey → Bool
same_numbers = eq_of_both (on clause_number nat_eq) (eq_of_both (on env_number nat_eq) (on variables_of (pointwise eq-value.it)))

pub same_numbers_equiv : IsEquivalence same_numbers
same_numbers_equiv = and_equiv (on_equiv clause_number nat_eq_equiv) (and_equiv (on_equiv env_number nat_eq_equiv) (on_equiv variables_of (lists_equiv laws-law)))

pub same_numbers_per : IsPartialEquivalence same_numbers
same_numbers_per = partial_equiv_from_equiv same_numbers_equiv

abbrev pub numbers_input : GoalKey → HashWrites
numbers_input k = u32 (clause_number k) ++ u32 (env_number k)

-- equal keys are fed alike
pub numbers_alike : (a b : GoalKey) → same_numbers a b ≡ true → numbers_input a ≡ numbers_input b
numbers_alike =
    (and-Alike (on_Alike clause_number (same_Alike u32 unsigned_Decides)) (first_alike (on variables_of (pointwise eq-value.it)) (on_Alike env_number (same_Alike u32 unsigned_Decides)))).fed
