use Rattle.std.proofs.Common.{◌≡◌, subst, ◌∙◌}
use Rattle.ir_trees.specs.Syntax.Words.{args_forest, env_forest}
use Rattle.ir_trees.specs.declared.ir.kinds.Args.{Args}
use Rattle.ir_trees.specs.declared.ir.kinds.ParamEnv.{ParamEnv}
use Rattle.candidate_eval.specs.Derivations.ImplRules.{TraitGoal}
use Rattle.ir_trees.specs.declared.ir.kinds.PredicatePolarity.TheVariants.{Positive}
use Rattle.candidate_rounds.specs.Calls.Standing.{is_strange_to}
use Rattle.candidate_rounds.specs.Calls.Starting.{stand}
use Rattle.candidate_rounds.specs.Evaluators.Known.{Evaluator, members_of}
use Rattle.candidate_rounds.proofs.Evaluators.Between.{parts}
use Rattle.candidate_rounds.proofs.Table.Standing.{arguments-stand, env-stands, stands-by, stands-valid}
use Rattle.candidate_rounds.proofs.rounds.Rounds.list_stands_here.Goals as goal

-- a goal with that environment and those arguments
abbrev goal-of : Evaluator → ParamEnv → Args → TraitGoal
goal-of r e a = record { env = env_forest r.context.trees e; reference = record { trait = 0; arguments = args_forest r.context.trees a }; polarity = Positive }

pub returns-then-stands-clause-stands : goal.returns-then-stands-clause-stands
returns-then-stands-clause-stands c = λ t.
    let r = c.args.self.now in
    let g = goal-of r c.args.param_env c.args.list in
    let view = c.self.view_is in
    let env = subst (λ (x : Evaluator). c.stands.result ≡ stand (is_strange_to x.inference) (members_of x.context.trees c.args.param_env.0)) view c.stands.ensures in
    let args = subst (λ (x : Evaluator). c.stands-then-stands.result ≡ stand (is_strange_to x.inference) (members_of x.context.trees c.args.list.0)) view c.stands-then-stands.ensures in
    stands-valid r.context.trees r.mode r.inference r.marks g (parts c.recall_well_kept.ensures).consistent
    (stands-by r.context.trees r.mode r.inference g c.stands.result c.stands-then-stands.result env c.if-stands.true args t)

pub returns-then-stands-clause-all : goal.returns-then-stands-clause-all
returns-then-stands-clause-all c = λ e.
    let r = c.args.self.now in
    let g = goal-of r c.args.param_env c.args.list in
    subst (λ (x : Evaluator). c.stands-then-stands.result ≡ stand (is_strange_to x.inference) (members_of x.context.trees c.args.list.0)) c.self.view_is c.stands-then-stands.ensures
    ∙ arguments-stand r.context.trees r.mode r.inference g e

pub returns-else-stands-clause-all : goal.returns-else-stands-clause-all
returns-else-stands-clause-all c = λ e.
    let r = c.args.self.now in
    let g = goal-of r c.args.param_env c.args.list in
    subst (λ (x : Evaluator). c.stands.result ≡ stand (is_strange_to x.inference) (members_of x.context.trees c.args.param_env.0)) c.self.view_is c.stands.ensures
    ∙ env-stands r.context.trees r.mode r.inference g e
