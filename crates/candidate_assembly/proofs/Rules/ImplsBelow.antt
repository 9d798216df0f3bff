-- The rule of an impl mentions no other variables than the goal: what is declared mentions none.
use Rattle.std.proofs.Common.{ℕ}
use Rattle.ir_trees.specs.declared.decl.contents.ImplId.{ImplId}
use Rattle.ir_trees.specs.Declarations.Context.{Context}
use Rattle.ir_trees.specs.Validity.WellFormed.{IsWellFormedTable}
use Rattle.candidate_eval.specs.declared.eval.mode.TypingMode.{TypingMode}
use Rattle.candidate_eval.specs.declared.eval.source.CandidateSource.{CandidateSource}
use Rattle.candidate_eval.specs.Derivations.ImplRules.{TraitGoal}
use Rattle.candidate_eval.specs.Derivations.Mentions.{IsBelow, RuleBelow}
use Rattle.candidate_assembly.specs.Laws.ImplLaws.{impl_steps_below}
use Rattle.candidate_assembly.specs.Goals.Kinds.{rule_of_part}
use Rattle.candidate_assembly.specs.Goals.TraitGoals.{impl_part_at}

pub impl-rule-below : (c : Context) → IsWellFormedTable c → (n : ℕ) (m : TypingMode) (g : TraitGoal) (source : CandidateSource) (of : ImplId) → IsBelow n g.env → IsBelow n g.reference.arguments
    → RuleBelow n (rule_of_part g.env source (impl_part_at c m g of))
impl-rule-below c t n m g source of e a = record { env = e; steps = impl_steps_below c t n m g of a; ending = tt }
