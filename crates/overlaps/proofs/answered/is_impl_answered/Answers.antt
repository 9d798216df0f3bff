use Rattle.std.proofs.Common.{List, Option, ℕ, sym, subst, ◌∙◌}
use Rattle.std.specs.Prelude.{IfSome}
use Rattle.ir_trees.specs.declared.ir.kinds.Clause.{Clause}
use Rattle.ir_trees.specs.Instantiation.Owned.{ClausesAreOwned}
use Rattle.ir_trees.specs.Syntax.Words.{args_forest, env_forest}
use Rattle.candidate_eval.specs.Judges.States.{Env}
use Rattle.candidate_rounds.specs.Evaluators.Known.{state, sure_of}
use Rattle.overlaps.specs.Answered.{AllHold}
use Rattle.overlaps.specs.Uncertain.{HoldsNotAt}
use Rattle.overlaps.proofs.Uncertainty.{some-holds-not}
use Rattle.overlaps.proofs.answered.is_impl_answered.Goals as goal

pub first_unanswered-requires-clause-locals : goal.first_unanswered-requires-clause-locals
first_unanswered-requires-clause-locals c = c.requires.open.0

pub first_unanswered-requires-clause-clauses : goal.first_unanswered-requires-clause-clauses
first_unanswered-requires-clause-clauses c =
    let ts = c.args.rounds.now.context.trees in
    subst (ClausesAreOwned ts (args_forest ts c.args.of.now.locals)) (sym c.as_slice.ensures.value) c.requires.open.2

pub returns-in-None-clause-hold : goal.returns-in-None-clause-hold
returns-in-None-clause-hold c = λ e.
    let r = c.args.rounds.now in
    let ts = r.context.trees in
    let f = c.requires.empty in
    let xs = c.as_slice.ensures.value in
    subst (λ (q : Env × List Clause). AllHold q.0 ts (sure_of r) (state r) (args_forest ts c.args.of.now.locals) q.1) (λ i. (f i, xs i)) (c.in_ok-open.ensures.hold c.in-None.is)

pub returns-in-Some-clause-uncertain : goal.returns-in-Some-clause-uncertain
returns-in-Some-clause-uncertain c = λ no.
    let r = c.args.rounds.now in
    let ts = r.context.trees in
    let f = c.requires.empty in
    let xs = c.as_slice.ensures.value in
    some-holds-not c.in_ok-open.open _ _ c.in-Some.is
    (subst (λ (q : Env × List Clause). IfSome c.in_ok-open.open (HoldsNotAt q.0 r.context (sure_of r) (state r) (args_forest ts c.args.of.now.locals) q.1)) (λ i. (f i, xs i)) c.in_ok-open.ensures.uncertain)
