use Rattle.std.proofs.Common.{sym, subst, ◌∙◌}
use Rattle.candidate_rounds.specs.Evaluators.Leaking.{CantName}
use Rattle.candidate_rounds.specs.Evaluators.Leaking.CantName.{older, other, static}
use Rattle.candidate_rounds.proofs.Leaking.{placeholder-other}
use Rattle.candidate_rounds.proofs.rounds.leaking.cant_name.Goals as goal

pub returns-in-Static-clause-yes : goal.returns-in-Static-clause-yes
returns-in-Static-clause-yes c = λ _. subst (CantName c.args.universes.now c.args.placeholder) (sym c.in-Static.is) static

pub returns-in-Placeholder-clause-yes : goal.returns-in-Placeholder-clause-yes
returns-in-Placeholder-clause-yes c = λ e.
    subst (CantName c.args.universes.now c.args.placeholder) (sym c.in-Placeholder.is) (other c.in-Placeholder.other (placeholder-other c.in-Placeholder.other c.args.placeholder (sym c.ne.ensures ∙ e)))

pub returns-in-Var-clause-yes : goal.returns-in-Var-clause-yes
returns-in-Var-clause-yes c = λ e.
    let w = c.is_older.ensures.yes e in
    subst (CantName c.args.universes.now c.args.placeholder) (sym c.in-Var.is) (older c.in-Var.number w.0 (sym c.universe_at.ensures ∙ w.1) w.2)
