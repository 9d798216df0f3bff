use Rattle.std.proofs.Common.{ap, sym, ◌∙◌}
use Rattle.ir_trees.specs.Syntax.Words.{vars_tree}
use Rattle.candidate_eval.specs.Builtins.Asked.{variables}
use Rattle.candidate_eval.specs.Derivations.Characterization.{binder_kinds}
use Rattle.candidate_eval.proofs.Dynamic.Objects.{variables-read}
use Rattle.candidate_assembly.proofs.trait_goals.parts.kinds_under.Goals as goal

pub returns-in_ok-variable_kinds-in-Binder-clause-kinds : goal.returns-in_ok-variable_kinds-in-Binder-clause-kinds
returns-in_ok-variable_kinds-in-Binder-clause-kinds c =
    let ts = c.args.cx.now.trees in
    variables-read c.in_ok-variable_kinds-in-Binder.field-0.items (vars_tree ts c.in-Binder.vars).children c.in_ok-variable_kinds-in-Binder.ensures ∙ ap (λ u. binder_kinds (variables ts u)) (sym c.in-Binder.is)
