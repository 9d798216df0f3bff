use Rattle.ir_trees.specs.Syntax.Words.{ty_tree}
use Rattle.assembly_notation.specs.Spelling.{first_spaces}
use Rattle.assembly_notation.proofs.Printed.{first-few, prints-first}
use Rattle.assembly_notation.proofs.types.Scope+Cx.print_type.Goals as goal

pub returns : goal.returns
returns c =
    let ts = c.args.self.now.maker.trees in
    prints-first (ty_tree ts c.args.ty) (first_spaces ts c.kind.result) c.in_ok-has_few_words.field-0 _ _ _ c.in_ok-has_few_words.ensures c.if-branch.false
    c.in_ok-print_head.ensures (first-few ts c.kind.result) c.in_ok-push_str.ensures.bytes
