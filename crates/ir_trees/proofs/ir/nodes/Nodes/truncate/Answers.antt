use Rattle.std.proofs.Common.{◌∙◌, [], List, take, ap, subst, sym, arith}
use Rattle.ir_trees.specs.Syntax.Table.{Row, trees_after, AreRows, AreDistinct}
use Rattle.ir_trees.proofs.Growth.Distinct.{distinct-front}
use Rattle.ir_trees.proofs.Growth.Growing.{front-trees, front-rows}
use Rattle.ir_trees.proofs.ir.nodes.Nodes.truncate.Goals as goal

pub returns : goal.returns
returns c =
    ap (trees_after []) c.truncate.ensures.entries
    ∙ (front-trees c.self.inside.rows.entries c.args.len ∙ ap (take c.args.len) c.self.view_is)

pub invariant_of-self : goal.invariant_of-self
invariant_of-self c =
    let rs = c.self.inside.rows.entries in
    let P : List Row → Type 0 = AreRows [] in
    let Q : List Row → Type 0 = λ us. AreDistinct (trees_after [] us) in
    let front = subst AreDistinct (sym (front-trees rs c.args.len)) (distinct-front (trees_after [] rs) c.args.len c.self.invariant.2) in (
      subst P (sym c.truncate.ensures.entries) (front-rows [] rs c.args.len c.self.invariant.0),
      omega (arith, c.truncate.ensures.len, c.self.invariant.1),
      subst Q (sym c.truncate.ensures.entries) front,
    )
