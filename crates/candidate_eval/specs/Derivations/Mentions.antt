-- Which variables trees and rules mention.
use Rattle.std.specs.Prelude.{◌≡◌, ℕ, Bool, false, nat_le, Option, Some, None, List, [], ◌∷◌}
use Rattle.ir_trees.specs.declared.ir.heads.Head.{Head}
use Rattle.ir_trees.specs.Syntax.Trees.{Forest, holds, variable_number}
use Rattle.ir_trees.specs.Unification.Substitutions.{alone}
use Rattle.candidate_eval.specs.Derivations.Rules.{Match, Step, fresh, enter, equate, quick, add, settle, pick, still_general, unknowable, Ending, ask, characterise, Rule}

abbrev pub is_at_least : ℕ → Option ℕ → Bool
is_at_least n None = false
is_at_least n (Some m) = nat_le n m

-- a variable with that number or a higher one
abbrev pub is_from : ℕ → Head → Bool
is_from n h = is_at_least n (variable_number h)

-- The trees mention no other variables than the first n.
abbrev pub IsBelow : ℕ → Forest → Type 0
IsBelow n ts = holds (is_from n) ts ≡ false

abbrev pub MatchesBelow : ℕ → List Match → Type 0
MatchesBelow n [] = Unit {0}
MatchesBelow n (m ∷ ms) = IsBelow n m.left × IsBelow n m.right × IsBelow n (alone m.term) × MatchesBelow n ms

abbrev pub StepBelow : ℕ → Step → Type 0
StepBelow n (fresh ks) = Unit {0}
StepBelow n (enter ks) = Unit {0}
StepBelow n (equate a b) = IsBelow n a × IsBelow n b
StepBelow n (quick a b) = IsBelow n a × IsBelow n b
StepBelow n (add s c) = IsBelow n (alone c)
StepBelow n settle = Unit {0}
StepBelow n (pick k ms) = MatchesBelow n ms
StepBelow n (still_general t) = IsBelow n (alone t)
StepBelow n (unknowable r) = IsBelow n r.arguments

abbrev pub StepsBelow : ℕ → List Step → Type 0
StepsBelow n [] = Unit {0}
StepsBelow n (s ∷ ss) = StepBelow n s × StepsBelow n ss

abbrev pub EndingBelow : ℕ → Ending → Type 0
EndingBelow n (ask s c) = Unit {0}
EndingBelow n (characterise c) = IsBelow n (alone c)

-- The rule mentions no other variables than the first n.
pub record RuleBelow (n : ℕ) (r : Rule) : Type 0 where
  pub env : IsBelow n r.env
  pub steps : StepsBelow n r.steps
  pub ending : EndingBelow n r.ending
