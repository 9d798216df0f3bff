use Rattle.std.proofs.Common.{subst, ◌≡◌, ◌∙◌, ℕ, arith}
use Rattle.ir_trees.specs.Syntax.Binders.{tree_escapes}
use Rattle.ir_trees.specs.Syntax.Nodes.{tree_at}
use Rattle.ir_trees.proofs.Syntax.Escapes.{members-escape}
use Rattle.ir_trees.proofs.Syntax.Lists.{below_kind}
use Rattle.ir_trees.proofs.ir.trees.Trees.has_escaping_bound_vars.Goals as goal

pub number_escapes-requires : goal.number_escapes-requires
number_escapes-requires g c = record { inside = rw c.number.ensures (below_kind _ _ (g.N.Numbered.kind c.args.of) (g.met.N.Numbered.is_there c.args.of) c.requires); room = omega arith }

pub returns-clause-list : goal.returns-clause-list
returns-clause-list g c = λ list.
    let ts = g.Self.Trees.trees c.args.self.now in
    subst (λ (n : ℕ). c.number_escapes.result ≡ tree_escapes 0 (tree_at ts n)) c.number.ensures c.number_escapes.ensures
    ∙ members-escape ts (g.N.Numbered.number_of c.args.of) (g.N.Numbered.kind c.args.of) (g.met.N.Numbered.is_there c.args.of) list c.requires
