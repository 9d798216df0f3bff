use Rattle.std.proofs.Common.{[], List, sym, subst, ◌∙◌}
use Rattle.ir_trees.proofs.Growth.Kept.{grows-trans}
use Rattle.candidate_eval.proofs.Dynamic.Objects.{env-kept}
use Rattle.candidate_rounds.specs.Evaluators.Known.{state}
use Rattle.overlaps.specs.Reasons.{ListsAll, here_at, open_impl}
use Rattle.overlaps.specs.Stopping.{IsOverlapStop}
use Rattle.overlaps.specs.declared.reasons.OpenClause.{OpenClause}
use Rattle.overlaps.proofs.Pairs.{pair-later}
use Rattle.overlaps.proofs.OpenClauses.{fixed-kept, lists-before, lists-there}
use Rattle.overlaps.proofs.PureFolder.{StaysAsAsked}
use Rattle.overlaps.proofs.Staying.{stays-trans}
use Rattle.overlaps.proofs.Stopping.{later-steps, passed-on, stop-later}
use Rattle.overlaps.proofs.reasons.open_where_equal.Goals as goal

pub add_open_clauses-requires-clause-env : goal.add_open_clauses-requires-clause-env
add_open_clauses-requires-clause-env c = (env-kept _ _ c.args.env c.refused_clause.ensures.stays.grows c.requires.env).0

pub add_open_clauses-requires-clause-open : goal.add_open_clauses-requires-clause-open
add_open_clauses-requires-clause-open c = (pair-later _ _ c.args.pair.now c.refused_clause.ensures.stays.grows c.requires.pair).0

pub add_open_clauses-requires-2-clause-env : goal.add_open_clauses-requires-2-clause-env
add_open_clauses-requires-2-clause-env c = (env-kept _ _ c.args.env (grows-trans _ _ _ c.refused_clause.ensures.stays.grows c.add_open_clauses.ensures.stays.grows) c.requires.env).0

pub add_open_clauses-requires-2-clause-open : goal.add_open_clauses-requires-2-clause-open
add_open_clauses-requires-2-clause-open c = (pair-later _ _ c.args.pair.now (grows-trans _ _ _ c.refused_clause.ensures.stays.grows c.add_open_clauses.ensures.stays.grows) c.requires.pair).1

pub returns-clause-stays : goal.returns-clause-stays
returns-clause-stays c = stays-trans c.refused_clause.ensures.stays (stays-trans c.add_open_clauses.ensures.stays c.add_open_clauses-2.ensures.stays)

pub returns-in_err-add_open_clauses-clause-stays : goal.returns-in_err-add_open_clauses-clause-stays
returns-in_err-add_open_clauses-clause-stays c = stays-trans c.refused_clause.ensures.stays c.add_open_clauses.ensures.stays

pub returns-in_err-add_open_clauses-2-clause-stays : goal.returns-in_err-add_open_clauses-2-clause-stays
returns-in_err-add_open_clauses-2-clause-stays c = stays-trans c.refused_clause.ensures.stays (stays-trans c.add_open_clauses.ensures.stays c.add_open_clauses-2.ensures.stays)

pub returns-in_err-refused_clause-clause-cause : goal.returns-in_err-refused_clause-clause-cause
returns-in_err-refused_clause-clause-cause c = passed-on (IsOverlapStop c.args.rounds.now c.refused_clause.new.rounds) c.from_residual.result c.in_err-refused_clause.field-0.0 c.from_residual.ensures.1 (c.in_err-refused_clause.ensures.cause)

pub returns-in_err-add_open_clauses-clause-cause : goal.returns-in_err-add_open_clauses-clause-cause
returns-in_err-add_open_clauses-clause-cause c = passed-on (IsOverlapStop c.args.rounds.now c.add_open_clauses.new.rounds) c.from_residual-in_err-add_open_clauses.result c.in_err-add_open_clauses.field-0.0 c.from_residual-in_err-add_open_clauses.ensures.1 (stop-later (later-steps c.refused_clause.ensures.stays) c.in_err-add_open_clauses.ensures.cause)

pub returns-in_err-add_open_clauses-2-clause-cause : goal.returns-in_err-add_open_clauses-2-clause-cause
returns-in_err-add_open_clauses-2-clause-cause c = passed-on (IsOverlapStop c.args.rounds.now c.add_open_clauses-2.new.rounds) c.from_residual-in_err-add_open_clauses-2.result c.in_err-add_open_clauses-2.field-0.0 c.from_residual-in_err-add_open_clauses-2.ensures.1 (stop-later (later-steps (stays-trans c.refused_clause.ensures.stays c.add_open_clauses.ensures.stays)) c.in_err-add_open_clauses-2.ensures.cause)

pub returns-clause-lists : goal.returns-clause-lists
returns-clause-lists c =
    let old = c.args.rounds.now in
    let mid = c.refused_clause.new.rounds in
    let one = c.add_open_clauses.new.rounds in
    let new = c.add_open_clauses-2.new.rounds in
    let p = c.args.pair.now in
    let env = c.args.env in
    let between = c.add_open_clauses.new.list.items in
    let first = c.refused_clause.ensures.stays in
    let k1 : StaysAsAsked mid one = record { stays = c.add_open_clauses.ensures.stays; table = c.add_open_clauses.ensures.table } in
    let k2 : StaysAsAsked one new = record { stays = c.add_open_clauses-2.ensures.stays; table = c.add_open_clauses-2.ensures.table } in
    let f1 = fixed-kept k1 in
    let f2 = fixed-kept k2 in
    let g2 = grows-trans old.context mid.context one.context first.grows k1.stays.grows in
    let e1 = (env-kept _ _ env first.grows c.requires.env).1 ∙ c.requires.empty in
    let e2 = (env-kept _ _ env g2 c.requires.env).1 ∙ c.requires.empty in
    let there = subst (λ (xs : List OpenClause). ListsAll (here_at mid env) one.context.trees (open_impl mid.context.trees p.first) xs between) c.new-list.ensures.items c.in_ok-add_open_clauses.ensures.adds in
    record {
      between = between;
      of_first = lists-there old new p.first one.context new.context [] between k2.stays.grows
          (lists-before old mid new env p.first [] between one.context.trees first.grows first.state_same (sym (f2 ∙ f1)) e1 c.requires.pair.0 there);
      of_second = lists-before old one new env p.second between c.add_open_clauses-2.new.list.items new.context.trees g2 (k1.stays.state_same ∙ first.state_same) (sym f2) e2 c.requires.pair.1
          c.in_ok-add_open_clauses-2.ensures.adds;
    }
