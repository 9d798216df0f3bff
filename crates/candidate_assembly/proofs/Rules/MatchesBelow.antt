-- The rules of clauses that goals of traits are matched with mention no other variables than the goal and the clause.
use Rattle.std.proofs.Common.{ℕ, suc, All, List, [], ◌∷◌, ◌++◌, arith}
use Rattle.ir_trees.specs.Declarations.Context.{Context}
use Rattle.ir_trees.specs.Unification.Substitutions.{alone}
use Rattle.ir_trees.specs.Syntax.Trees.{Tree}
use Rattle.ir_trees.specs.Syntax.Words.{clause_tree}
use Rattle.candidate_eval.specs.declared.eval.certainty.Certainty.{Certainty}
use Rattle.candidate_eval.specs.declared.eval.source.CandidateSource.{CandidateSource}
use Rattle.candidate_eval.specs.Derivations.ImplRules.{TraitGoal}
use Rattle.candidate_eval.specs.Derivations.Mentions.{IsBelow, RuleBelow, StepsBelow}
use Rattle.candidate_eval.specs.Derivations.Rules.{Step, ask, characterise, settle}
use Rattle.candidate_assembly.specs.Goals.Kinds.{match_rule}
use Rattle.candidate_assembly.specs.Laws.Matching.{match_below}
use Rattle.candidate_assembly.specs.Rules.Requirements.{Requirement, requirement_steps}
use Rattle.candidate_assembly.specs.Goals.TraitGoals.{match_trait}
use Rattle.candidate_assembly.specs.Goals.TraitRules.{trait_rules}

pub steps-joined : (n : ℕ) (xs ys : List Step) → StepsBelow n xs → StepsBelow n ys → StepsBelow n (xs ++ ys)
steps-joined n [] ys h k = k
steps-joined n (x ∷ xs) ys h k = (h.0, steps-joined n xs ys h.1 k)

-- of a clause of the environment
pub where-bound-below : (n : ℕ) (ctx : Context) (g : TraitGoal) (c : Tree) → IsBelow n g.env → IsBelow n g.reference.arguments → IsBelow n (alone c)
    → RuleBelow n (match_rule trait_rules ctx g c (settle ∷ []) (characterise c))
where-bound-below n ctx g c e a h = record { env = e; steps = steps-joined n (match_trait g c) (settle ∷ []) (match_below n g c a h) (tt, tt); ending = h }

-- of what a rule requires besides
requirements-below : (n : ℕ) (ts : List Tree) (rs : List Requirement) → All (λ r. IsBelow n (alone (clause_tree ts r.1))) rs → StepsBelow n (requirement_steps ts rs)
requirements-below n ts [] h = tt
requirements-below n ts (r ∷ rs) h = (h 0 r (omega arith), requirements-below n ts rs (λ k d l. h (suc k) d (omega (arith, l))))

-- of a clause that implies the goal where requirements hold
pub implied-below : (n : ℕ) (ctx : Context) (g : TraitGoal) (c : Tree) (ts : List Tree) (rs : List Requirement) (source : CandidateSource) (sure : Certainty) → IsBelow n g.env → IsBelow n g.reference.arguments → IsBelow n (alone c)
    → All (λ r. IsBelow n (alone (clause_tree ts r.1))) rs → RuleBelow n (match_rule trait_rules ctx g c (requirement_steps ts rs) (ask source sure))
implied-below n ctx g c ts rs source sure e a h below = record { env = e; steps = steps-joined n (match_trait g c) (requirement_steps ts rs) (match_below n g c a h) (requirements-below n ts rs below); ending = tt }
