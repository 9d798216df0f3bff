use Rattle.std.proofs.Common.{◌∙◌, IfOk, ap, subst}
use Rattle.ir_trees.specs.declared.decl.contents.ImplId.{ImplId}
use Rattle.candidate_rounds.specs.Evaluators.Known.{state, sure_of, table_of}
use Rattle.overlaps.specs.Allowed.{allowance_of_ordered}
use Rattle.overlaps.specs.Apart.{OfDeclared, aside}
use Rattle.overlaps.specs.Asked.{OfClause, WereAsked, WereAskedBefore, WhereMay}
use Rattle.overlaps.specs.Found.{IsFoundAt}
use Rattle.overlaps.specs.Uncertain.{ImplsAreUncertain, WhereUncertain}
use Rattle.overlaps.proofs.overlap.impls_overlap.Goals as goal

pub returns-clause-is : goal.returns-clause-is
returns-clause-is c =
    let old = c.args.rounds.now in
    let new = c.overlap_of_ordered.new.rounds in
    subst (λ (p : ImplId × ImplId). IfOk c.overlap_of_ordered.result (IsFoundAt old (aside (state old)) new p.0 p.1)) c.in_order-pair.ensures c.overlap_of_ordered.ensures.is

pub returns-clause-allowed : goal.returns-clause-allowed
returns-clause-allowed c = λ w e.
    c.overlap_of_ordered.ensures.allowed w (ap (λ (p : ImplId × ImplId). allowance_of_ordered c.args.rounds.now.context p.0 p.1) c.in_order-pair.ensures ∙ e)

pub returns-clause-asked : goal.returns-clause-asked
returns-clause-asked c =
    let old = c.args.rounds.now in
    let new = c.overlap_of_ordered.new.rounds in
    subst (λ (p : ImplId × ImplId). IfOk c.overlap_of_ordered.result (WhereMay (OfDeclared old.context p.0 p.1 (WereAsked old (aside (state old)) c.args.effort (table_of new))))) c.in_order-pair.ensures
    c.overlap_of_ordered.ensures.asked

pub returns-clause-before : goal.returns-clause-before
returns-clause-before c =
    let old = c.args.rounds.now in
    subst (λ (p : ImplId × ImplId). IfOk c.overlap_of_ordered.result (OfClause (λ w. OfDeclared old.context p.0 p.1 (WereAskedBefore old (aside (state old)) c.args.effort p.0 p.1 w)))) c.in_order-pair.ensures
    c.overlap_of_ordered.ensures.before

pub returns-clause-uncertain : goal.returns-clause-uncertain
returns-clause-uncertain c =
    let old = c.args.rounds.now in
    let new = c.overlap_of_ordered.new.rounds in
    subst (λ (p : ImplId × ImplId). IfOk c.overlap_of_ordered.result (WhereUncertain (OfDeclared old.context p.0 p.1 (ImplsAreUncertain old (aside (state old)) (sure_of new))))) c.in_order-pair.ensures
    c.overlap_of_ordered.ensures.uncertain
