use Rattle.std.proofs.Common.{ap, sym, ◌∙◌}
use Rattle.ir_trees.specs.Syntax.Binders.{escapes}
use Rattle.ir_trees.specs.Syntax.Kinds.{arg_number}
use Rattle.ir_trees.specs.Syntax.Nodes.{tree_at}
use Rattle.ir_trees.specs.Unification.Substitutions.{alone}
use Rattle.candidate_rounds.proofs.Equations.Assigning.{escapes-alone}
use Rattle.candidate_rounds.proofs.Equations.OpenParts.{region-is, term-closed}
use Rattle.candidate_rounds.proofs.rounds.opening.closed_term.Goals as goal

pub returns-in-Region : goal.returns-in-Region
returns-in-Region c =
    let ts = c.args.cx.now.trees in
    region-is ts c.in_ok-arg.arg c.in-Region.field-0 (tree_at ts c.args.number) c.in-Region.is c.in_ok-arg.ensures.1 (ap (tree_at ts) c.in_ok-arg.ensures.0)

pub returns : goal.returns
returns c =
    let ts = c.args.cx.now.trees in
    let is = ap (tree_at ts) c.in_ok-arg.ensures.0 in (
      c.in_ok-arg.ensures.1,
      is,
      term-closed ts c.in_ok-arg.arg (tree_at ts c.args.number) c.in_ok-arg.ensures.1 is c.in_default.not-Region
          (ap (λ u. escapes 0 (alone u)) (sym is) ∙ escapes-alone (tree_at ts (arg_number c.in_ok-arg.arg)) ∙ sym c.has_escaping_bound_vars.ensures.is ∙ c.if-has_escaping_bound_vars.false),
    )
