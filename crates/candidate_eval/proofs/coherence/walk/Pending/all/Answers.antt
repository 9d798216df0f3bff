use Rattle.std.proofs.Common.{◌<◌, ℕ, sym, ◌∙◌, ap, subst}
use Rattle.ir_trees.specs.Syntax.Trees.{count}
use Rattle.ir_trees.proofs.Syntax.Members.{count-members}
use Rattle.candidate_eval.specs.declared.coherence.walk.Pending.{Pending}
use Rattle.candidate_eval.proofs.coherence.walk.Pending.all.Goals as goal

pub returns-clause-is : goal.returns-clause-is
returns-clause-is c =
    let e = sym (count-members c.args.cx.now.trees c.args-2.result.now c.args-2.ensures.fits) ∙ ap count c.args-2.ensures.tree in
    ap (λ (n : ℕ). let p : Pending = record { args = c.args.args; next = 0; end = n; levels = c.args.levels } in p) e

pub returns-clause-small : goal.returns-clause-small
returns-clause-small c =
    let e = sym (count-members c.args.cx.now.trees c.args-2.result.now c.args-2.ensures.fits) ∙ ap count c.args-2.ensures.tree in
    subst (λ (n : ℕ). n < 18446744073709551616) e c.args-2.type_inv.0
