use Rattle.std.proofs.Common.{IfOk, subst}
use Rattle.std.proofs.lemmas.Result.{IfOk-weaker}
use Rattle.ir_trees.specs.declared.decl.contents.ImplId.{ImplId}
use Rattle.candidate_rounds.specs.Evaluators.Known.{state}
use Rattle.overlaps.specs.Apart.{aside}
use Rattle.overlaps.specs.Reasons.{HasOpenClausesAt}
use Rattle.overlaps.proofs.OpenClauses.{clauses-fit}
use Rattle.overlaps.proofs.reasons.open_clauses.Goals as goal

pub returns-clause-lists : goal.returns-clause-lists
returns-clause-lists c =
    let old = c.args.rounds.now in
    let new = c.open_aside.new.rounds in
    subst (λ (p : ImplId × ImplId). IfOk c.open_aside.result (λ v. HasOpenClausesAt old new (aside (state old)) p.0 p.1 v.items)) c.in_order-pair.ensures c.open_aside.ensures.lists

pub returns-clause-sorts : goal.returns-clause-sorts
returns-clause-sorts c =
    let old = c.args.rounds.now in
    let new = c.open_aside.new.rounds in
    let p = c.in_order-pair.result in
    IfOk-weaker c.open_aside.result _ _ (λ v h. clauses-fit old new (aside (state old)) p.0 p.1 v.items h) c.open_aside.ensures.lists
