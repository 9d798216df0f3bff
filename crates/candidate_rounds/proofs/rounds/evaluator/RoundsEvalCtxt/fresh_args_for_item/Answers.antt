use Rattle.std.proofs.Common.{ap, arith, inl, inr, length, subst, sym, ◌∙◌}
use Rattle.std.proofs.lemmas.Result.{err_from_is_err_and}
use Rattle.std.proofs.lemmas.List.{length-map}
use Rattle.ir_trees.specs.Declarations.Context.{Context, Grows, parameter_kind}
use Rattle.ir_trees.specs.Syntax.Words.{IsArgs, args_forest}
use Rattle.candidate_eval.specs.Interface.Evaluators.{NoFault}
use Rattle.candidate_rounds.specs.Evaluators.Known.{Evaluator, state, info_of}
use Rattle.candidate_rounds.proofs.Resolution.Leafing.{variables-are}
use Rattle.candidate_rounds.proofs.Evaluators.Exits.{given-trans}
use Rattle.candidate_rounds.proofs.Evaluators.Interface.{keeps-all, keeps-going, keeps-refl}
use Rattle.candidate_rounds.proofs.Evaluators.Between.{parts}
use Rattle.candidate_rounds.proofs.Evaluators.Going.{goes-refl, goes-trans}
use Rattle.candidate_rounds.proofs.rounds.evaluator.RoundsEvalCtxt.fresh_args_for_item.Goals as goal

pub returns-clause-trees : goal.returns-clause-trees
returns-clause-trees c =
    let n = c.in_ok-first.ensures.number in
    let m = length-map c.self.inside.inference.variables (info_of c.self.inside.cx.trees) in
    let k = ap (λ (e : Evaluator). length (state e).variables) c.self.view_is in
    ap (λ (x : Context). args_forest x.trees c.in_ok-args.args) c.in_ok-add_variables.ensures.context
    ∙ (c.in_ok-args.ensures.trees ∙ variables-are (state c.args.self.now) c.in_ok-first.first 0 c.args.kinds.now (omega (arith, n, m, k)))

pub returns-in_err-first-clause-cause : goal.returns-in_err-first-clause-cause
returns-in_err-first-clause-cause c =
    let m = length-map c.self.inside.inference.variables (info_of c.self.inside.cx.trees) in
    let r = err_from_is_err_and c.from_residual.result c.from_residual.ensures.1 in
    let k = ap (λ (e : Evaluator). length (state e).variables) c.self.view_is in
    let more = c.in_err-first.ensures.cause.1 in
    let kinds = length-map c.args.kinds.now parameter_kind in
    rw r.1 (inl (inr (r.2 ∙ c.in_err-first.ensures.cause.0, omega (arith, m, k, more, kinds))))

pub returns-in_err-add_variables-clause-given : goal.returns-in_err-add_variables-clause-given
returns-in_err-add_variables-clause-given c = given-trans c.args.self.now c.make_leaves.new.self c.add_variables.new.self c.make_leaves.ensures.given c.add_variables.ensures.given

pub returns-clause-given : goal.returns-clause-given
returns-clause-given c = given-trans c.args.self.now c.make_leaves.new.self c.add_variables.new.self c.make_leaves.ensures.given c.add_variables.ensures.given

pub returns-clause-sort : goal.returns-clause-sort
returns-clause-sort c = subst (λ (x : Context). IsArgs x.trees c.in_ok-args.args) (sym c.add_variables.ensures.context) c.in_ok-args.ensures.sort

pub returns-in_err-first-clause-kept : goal.returns-in_err-first-clause-kept
returns-in_err-first-clause-kept c = keeps-refl c.args.self.now

pub returns-in_err-args-clause-kept : goal.returns-in_err-args-clause-kept
returns-in_err-args-clause-kept c = keeps-going c.args.self.now c.make_leaves.new.self c.make_leaves.ensures.goes c.recall_well_kept.ensures

pub returns-in_err-add_variables-clause-kept : goal.returns-in_err-add_variables-clause-kept
returns-in_err-add_variables-clause-kept c =
    keeps-all c.args.self.now c.add_variables.new.self (subst (Grows c.args.self.now.context) (sym c.add_variables.ensures.context) c.make_leaves.ensures.grows)
    (given-trans c.args.self.now c.make_leaves.new.self c.add_variables.new.self c.make_leaves.ensures.given c.add_variables.ensures.given) (parts c.recall_well_kept.ensures).given (parts c.recall_well_kept.ensures).tabled (c.add_variables.ensures.probes ∙ c.make_leaves.ensures.probes)
    (subst (NoFault c.args.self.now.context) (sym c.add_variables.ensures.context) c.make_leaves.ensures.faults)

pub returns-clause-kept : goal.returns-clause-kept
returns-clause-kept c =
    keeps-all c.args.self.now c.add_variables.new.self (subst (Grows c.args.self.now.context) (sym c.add_variables.ensures.context) c.make_leaves.ensures.grows)
    (given-trans c.args.self.now c.make_leaves.new.self c.add_variables.new.self c.make_leaves.ensures.given c.add_variables.ensures.given) (parts c.recall_well_kept.ensures).given (parts c.recall_well_kept.ensures).tabled (c.add_variables.ensures.probes ∙ c.make_leaves.ensures.probes)
    (subst (NoFault c.args.self.now.context) (sym c.add_variables.ensures.context) c.make_leaves.ensures.faults)

pub returns-in_err-first-clause-goes : goal.returns-in_err-first-clause-goes
returns-in_err-first-clause-goes c = goes-refl c.args.self.now

pub returns-in_err-add_variables-clause-goes : goal.returns-in_err-add_variables-clause-goes
returns-in_err-add_variables-clause-goes c = goes-trans c.args.self.now c.make_leaves.new.self c.add_variables.new.self c.make_leaves.ensures.goes c.add_variables.ensures.goes

pub returns-clause-goes : goal.returns-clause-goes
returns-clause-goes c = goes-trans c.args.self.now c.make_leaves.new.self c.add_variables.new.self c.make_leaves.ensures.goes c.add_variables.ensures.goes
