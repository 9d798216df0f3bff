use Rattle.std.proofs.Common.{◌∙◌, arith}
use Rattle.ir_trees.proofs.Growth.Kept.{grows-trans}
use Rattle.candidate_rounds.proofs.Obligations.Gathering.{if-ok-then}
use Rattle.candidate_rounds.proofs.Table.Naming.{all-own, one-more-own, own-stop}
use Rattle.candidate_rounds.proofs.rounds.giving.own_row.Goals as goal

pub loop-i-preserved : goal.loop-i-preserved
loop-i-preserved c = (
  one-more-own c.args.cx.now c.loop-i.cx c.variable.new.cx c.args.variables.now c.args.numbers.now c.loop-i.i c.loop-i.list.items c.push.new.self.items c.in_ok-variable.field-0 _ _ c.loop-i.invariant.0
      (let a = c.loop-i-test.true in let e = c.requires in omega (arith, a, e)) c.loop-i-test.true c.variable.ensures.grows c.in_ok-variable.ensures.sort c.in_ok-variable.ensures.tree c.in_ok-push.ensures.items,
  c.variable.ensures.faults ∙ c.loop-i.invariant.1,
)

pub returns-clause-trees : goal.returns-clause-trees
returns-clause-trees c =
    if-ok-then c.mk_arg_list.result _ _ (λ a e. e ∙ all-own c.args.cx.now c.loop-i.cx c.args.variables.now c.args.numbers.now c.loop-i.i c.loop-i.list.items c.loop-i.invariant.0 c.loop-i-test.false) c.mk_arg_list.ensures.tree

pub returns-clause-cause : goal.returns-clause-cause
returns-clause-cause c =
    own-stop c.args.cx.now c.loop-i.cx c.mk_arg_list.new.self c.args.variables.now c.args.numbers.now c.loop-i.i c.loop-i.list.items c.mk_arg_list.result c.loop-i.invariant.0 c.loop-i-test.false c.mk_arg_list.ensures.cause c.mk_arg_list.ensures.unchanged

pub returns-in_err-variable-clause-grows : goal.returns-in_err-variable-clause-grows
returns-in_err-variable-clause-grows c = grows-trans _ _ _ c.loop-i.invariant.0.grows c.variable.ensures.grows

pub returns-in_err-push-clause-grows : goal.returns-in_err-push-clause-grows
returns-in_err-push-clause-grows c = grows-trans _ _ _ c.loop-i.invariant.0.grows c.variable.ensures.grows

pub returns-clause-grows : goal.returns-clause-grows
returns-clause-grows c = grows-trans _ _ _ c.loop-i.invariant.0.grows c.mk_arg_list.ensures.kept
