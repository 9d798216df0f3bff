use Rattle.std.proofs.Common.{subst, ◌∙◌}
use Rattle.std.proofs.lemmas.Result.{err_from_is_err_and}
use Rattle.ir_trees.specs.Syntax.Trees.{Forest}
use Rattle.ir_trees.specs.Syntax.Words.{args_forest}
use Rattle.candidate_eval.specs.Judges.States.{State}
use Rattle.rounds_judge.specs.Aliases.Listed.{Listing}
use Rattle.candidate_rounds.specs.Evaluators.Known.{listing, state}
use Rattle.candidate_rounds.specs.Evaluators.Stopping.{IsReadyStop, right_readied}
use Rattle.candidate_rounds.proofs.Equations.OpenSides.{list-kept, readied-there}
use Rattle.candidate_rounds.proofs.Evaluators.Between.{parts}
use Rattle.candidate_rounds.proofs.Evaluators.Going.{goes-listing, goes-trans}
use Rattle.candidate_rounds.proofs.rounds.Rounds.both_readied.Goals as goal

pub readied-requires-2 : goal.readied-requires-2
readied-requires-2 c = (list-kept c.args.self.now.context c.readied.new.self.context c.args.b c.readied.ensures.goes.0 c.requires.right).0

pub returns-in_err-b-clause-goes : goal.returns-in_err-b-clause-goes
returns-in_err-b-clause-goes c = goes-trans c.args.self.now c.readied.new.self c.readied-2.new.self c.readied.ensures.goes c.readied-2.ensures.goes

pub returns-in_err-b-clause-cause : goal.returns-in_err-b-clause-cause
returns-in_err-b-clause-cause c =
    let old = c.args.self.now in
    let mid = c.readied.new.self in
    let p = err_from_is_err_and c.from_residual-in_err-b.result c.from_residual-in_err-b.ensures.1 in
    let l = goes-listing old mid c.readied.ensures.goes (parts c.recall_well_kept.ensures).given in
    let b = (list-kept old.context mid.context c.args.b c.readied.ensures.goes.0 c.requires.right).1 in
    let s = c.readied.ensures.state in
    let P : Listing × (State × Forest) → Type 0 = λ q. IsReadyStop c.readied-2.new.self.context.trees q.0 q.1.0 q.1.1 c.in_err-b.field-0.0 in
    rw (p.1, p.2) (right_readied (subst P (λ i. (l i, (s i, b i))) c.in_err-b.ensures.cause))

pub returns-clause-left : goal.returns-clause-left
returns-clause-left c =
    let k = list-kept c.readied.new.self.context c.readied-2.new.self.context c.in_ok-a.a c.readied-2.ensures.goes.0 c.in_ok-a.ensures.sort in
    (k.0, k.1 ∙ c.in_ok-a.ensures.tree)

pub returns-clause-right : goal.returns-clause-right
returns-clause-right c =
    let old = c.args.self.now in
    let mid = c.readied.new.self in
    let l = goes-listing old mid c.readied.ensures.goes (parts c.recall_well_kept.ensures).given in
    let b = (list-kept old.context mid.context c.args.b c.readied.ensures.goes.0 c.requires.right).1 in
    (c.in_ok-b.ensures.sort, c.in_ok-b.ensures.tree ∙ readied-there (listing old) (listing mid) (state old) (state mid) (args_forest old.context.trees c.args.b) (args_forest mid.context.trees c.args.b) l c.readied.ensures.state b)
