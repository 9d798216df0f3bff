use Rattle.std.proofs.Common.{sym}
use Rattle.ir_trees.specs.Syntax.Words.{vars_tree}
use Rattle.assembly_notation.specs.Spelling.{binder_words}
use Rattle.assembly_notation.proofs.Printed.{adds-both, adds-as, adds-space, some-bound}
use Rattle.assembly_notation.proofs.types.Scope+Cx.print_binder.Goals as goal

pub returns-in_ok-push : goal.returns-in_ok-push
returns-in_ok-push c =
    let t = vars_tree c.args.self.now.maker.trees c.args.vars in
    adds-as 1 (binder_words t.children) _ _ (sym (some-bound c.args.self.now.maker.trees c.vars-count.result.now t c.vars-count.ensures.fits c.vars-count.ensures.tree c.if-count-gt0.true))
    (adds-both 0 1 _ _ _ c.in_ok-print_count.ensures (adds-space _ _ c.in_ok-push.ensures.bytes))
