-- What may be relied on where a goal holds.
use Rattle.ir_trees.specs.declared.ir.kinds.ParamEnv.{ParamEnv}
use Rattle.ir_trees.specs.declared.ir.kinds.TraitPredicate.{TraitPredicate}
use Rattle.ir_trees.specs.Declarations.Context.{Context, Grows}
use Rattle.candidate_eval.specs.Outcomes.Responses.{Response}
use Rattle.candidate_assembly.specs.Goals.TraitGoals.{trait_goal}
use Rattle.derivations.specs.DerivedTables.{YesIsDerived}
use Rattle.candidate_rounds.specs.Evaluators.Known.{Evaluator, listing, state}
use Rattle.rounds_judge.specs.Table.Keys.{key_at}

-- The goal of a predicate, at what the evaluator knows, has a derivation by what is declared, with the values that a response gives; and so
-- has each allowed instance of it.
pub record HasDerivation (r : Evaluator) (env : ParamEnv) (p : TraitPredicate) : Type 0 where
  pub declared : Context
  pub grows : Grows declared r.context
  pub response : Response
  pub derived : YesIsDerived declared (listing r) (key_at (state r) (trait_goal r.context.trees env p)) response
