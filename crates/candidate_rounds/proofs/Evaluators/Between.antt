-- What holds of an evaluator between calls, taken apart and put together.
use Rattle.std.proofs.Common.{ℕ, List}
use Rattle.ir_trees.specs.Declarations.Context.{Context}
use Rattle.ir_trees.specs.declared.ir.kinds.AliasTy.{AliasTy}
use Rattle.candidate_rounds.specs.Table.Goals.{Goals}
use Rattle.candidate_rounds.specs.Evaluators.Inferences.{Inference}
use Rattle.candidate_rounds.specs.Evaluators.Known.{EvaluatorParts, IsEvaluator, NormalForms}

pub parts : {c : Context} {s : Inference} {ks : List ℕ} {ns : NormalForms} {os : List AliasTy} {gs : Goals} → IsEvaluator c s ks ns os gs → EvaluatorParts c s ks ns os gs
unfolding IsEvaluator
parts h = h

pub of-parts : {c : Context} {s : Inference} {ks : List ℕ} {ns : NormalForms} {os : List AliasTy} {gs : Goals} → EvaluatorParts c s ks ns os gs → IsEvaluator c s ks ns os gs
unfolding IsEvaluator
of-parts h = h
