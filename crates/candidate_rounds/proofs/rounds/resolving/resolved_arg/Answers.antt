use Rattle.std.proofs.Common.{◌∙◌, ap, length, subst}
use Rattle.std.specs.Prelude.{IfErr}
use Rattle.ir_trees.specs.Instantiation.Folding.{IsSubstStop}
use Rattle.ir_trees.specs.Instantiation.Folds.{arg_tree}
use Rattle.ir_trees.specs.Syntax.Trees.{Forest}
use Rattle.ir_trees.proofs.Syntax.Members.{arg-row}
use Rattle.candidate_eval.specs.Judges.States.{resolved}
use Rattle.candidate_rounds.specs.Evaluators.Known.{state_of}
use Rattle.candidate_rounds.proofs.Resolution.Alone.{lone-resolved, lone-sort}
use Rattle.candidate_rounds.proofs.rounds.resolving.resolved_arg.Goals as goal

pub returns-in-Some-clause-sort : goal.returns-in-Some-clause-sort
returns-in-Some-clause-sort c =
    rw c.unwrap_or.ensures (lone-sort c.args.cx.now.trees c.args.inference.now c.args.arg c.in-Some.lone c.value.result c.in-Some.ensures c.value.ensures c.requires.arg c.requires.known c.requires.kinds)

pub returns-in-Some-clause-tree : goal.returns-in-Some-clause-tree
returns-in-Some-clause-tree c = λ m.
    ap (arg_tree c.args.cx.now.trees) c.unwrap_or.ensures ∙ lone-resolved c.args.cx.now.trees c.args.inference.now c.args.arg c.in-Some.lone c.value.result c.in-Some.ensures c.value.ensures m

pub returns-clause-cause : goal.returns-clause-cause
returns-clause-cause c = λ m.
    let S = state_of c.args.cx.now.trees m c.args.inference.now in
    subst (λ (ts : Forest). IfErr c.resolved.result (λ s. IsSubstStop (length c.resolved.new.cx.trees) (resolved S ts) s)) (arg-row c.args.arg (arg_tree c.args.cx.now.trees c.args.arg)) (c.resolved.ensures.cause m)
