use Rattle.std.proofs.Common.{sym, ◌∙◌}
use Rattle.std.proofs.lemmas.Result.{err_from_is_err_and}
use Rattle.ir_trees.specs.Instantiation.Folds.{arg_tree}
use Rattle.ir_trees.specs.Syntax.Words.{env_forest}
use Rattle.ir_trees.specs.Unification.Substitutions.{alone}
use Rattle.candidate_eval.proofs.Dynamic.Objects.{env-kept}
use Rattle.candidate_eval.specs.Interface.Evaluators.{pendings_of}
use Rattle.candidate_rounds.specs.Evaluators.Known.{listing, state}
use Rattle.candidate_rounds.specs.Evaluators.Stopping.{IsEquationStop, IsOpeningStop, as_it_is}
use Rattle.candidate_rounds.proofs.Equations.Leading.{list-stops, rigid-none, singles-cause, singles-ok, singles-refused}
use Rattle.candidate_rounds.proofs.Evaluators.Between.{parts}
use Rattle.candidate_rounds.proofs.Evaluators.Going.{goes-trans}
use Rattle.candidate_rounds.proofs.Stops.SettlingStops.{refusal-passed, stop-becomes}
use Rattle.candidate_rounds.proofs.rounds.Rounds.equation.Goals as goal

pub returns-in_err-equate-clause-refused : goal.returns-in_err-equate-clause-refused
returns-in_err-equate-clause-refused c =
    let old = c.args.self.now in
    let ts = old.context.trees in
    let p = err_from_is_err_and c.from_residual.result c.from_residual.ensures.1 in
    rw p.1 (λ n. rigid-none old (env_forest ts c.args.env) (alone (arg_tree ts c.args.a)) (alone (arg_tree ts c.args.b)) (sym c.opens_aliases.ensures ∙ c.if-not-opens_aliases.true) (c.in_err-equate.ensures.refused (sym p.2 ∙ n)))

pub returns-in_err-equate-clause-cause : goal.returns-in_err-equate-clause-cause
returns-in_err-equate-clause-cause c =
    let old = c.args.self.now in
    let ts = old.context.trees in
    let us = c.equate.new.self.context.trees in
    refusal-passed (IsOpeningStop us (listing old) (state old) (env_forest ts c.args.env) (alone (arg_tree ts c.args.a)) (alone (arg_tree ts c.args.b))) (IsEquationStop us (listing old) (state old) (alone (arg_tree ts c.args.a)) (alone (arg_tree ts c.args.b)))
    c.from_residual.result c.in_err-equate.field-0.0 c.from_residual.ensures.1 c.in_err-equate.ensures.cause (λ s k. as_it_is k)

pub returns-in_err-a-clause-cause : goal.returns-in_err-a-clause-cause
returns-in_err-a-clause-cause c =
    let old = c.args.self.now in
    let ts = old.context.trees in
    stop-becomes (IsOpeningStop c.singles.new.self.context.trees (listing old) (state old) (env_forest ts c.args.env) (alone (arg_tree ts c.args.a)) (alone (arg_tree ts c.args.b)))
    c.from_residual-in_err-a.result c.in_err-a.field-0.0 c.from_residual-in_err-a.ensures.1
    (list-stops old (env_forest ts c.args.env) c.args.a c.args.b c.singles.new.self.context.trees _ (sym c.opens_aliases.ensures ∙ c.if-not-opens_aliases.false) c.in_err-a.ensures.cause)

pub equation_of_args-requires-clause-env : goal.equation_of_args-requires-clause-env
equation_of_args-requires-clause-env c = (env-kept c.args.self.now.context c.singles.new.self.context c.args.env c.singles.ensures.goes.0 c.requires.env).0

pub returns-clause-goes : goal.returns-clause-goes
returns-clause-goes c = goes-trans c.args.self.now c.singles.new.self c.equation_of_args.new.self c.singles.ensures.goes c.equation_of_args.ensures.goes

pub returns-clause-ok : goal.returns-clause-ok
returns-clause-ok c =
    let new = c.equation_of_args.new.self in
    singles-ok c.args.self.now c.singles.new.self c.args.env c.args.a c.args.b c.in_ok-a.a c.in_ok-a.b (parts c.recall_well_kept.ensures).given c.requires.env c.singles.ensures.goes c.singles.ensures.state c.in_ok-a.ensures.left.1 c.in_ok-a.ensures.right.1
    c.equation_of_args.result (λ v. pendings_of new.context.trees v.items) (state new) c.equation_of_args.ensures.ok

pub returns-clause-refused : goal.returns-clause-refused
returns-clause-refused c =
    singles-refused c.args.self.now c.singles.new.self c.args.env c.args.a c.args.b c.in_ok-a.a c.in_ok-a.b (parts c.recall_well_kept.ensures).given c.requires.env c.singles.ensures.goes c.singles.ensures.state c.in_ok-a.ensures.left.1 c.in_ok-a.ensures.right.1
    c.equation_of_args.result c.equation_of_args.ensures.refused

pub returns-clause-cause : goal.returns-clause-cause
returns-clause-cause c =
    singles-cause c.args.self.now c.singles.new.self c.args.env c.args.a c.args.b c.in_ok-a.a c.in_ok-a.b (parts c.recall_well_kept.ensures).given c.requires.env c.singles.ensures.goes c.singles.ensures.state c.in_ok-a.ensures.left.1 c.in_ok-a.ensures.right.1
    c.equation_of_args.result c.equation_of_args.new.self.context.trees c.equation_of_args.ensures.cause
