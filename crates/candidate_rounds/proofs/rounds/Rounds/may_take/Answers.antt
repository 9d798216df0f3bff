use Rattle.std.proofs.Common.{◌&&◌, ap, sym, ◌∙◌}
use Rattle.ir_trees.specs.Instantiation.Folds.{arg_tree}
use Rattle.ir_trees.specs.Unification.Substitutions.{fits_sort}
use Rattle.candidate_rounds.specs.Calls.Assigning.{allows}
use Rattle.candidate_rounds.proofs.Equations.Assigning.{may-entry}
use Rattle.rounds_judge.specs.Equations.Binding.{may_take}
use Rattle.candidate_rounds.specs.Evaluators.Known.{Evaluator, state}
use Rattle.candidate_rounds.proofs.rounds.Rounds.may_take.Goals as goal

pub returns-then-not-is_same_kind : goal.returns-then-not-is_same_kind
returns-then-not-is_same_kind c =
    let m = c.self.inside.mode in
    let t = arg_tree c.self.inside.cx.trees c.args.value in
    sym (may-entry c.self.inside.cx.trees m c.self.inside.inference c.args.variable t c.in-Some.entry (sym c.entry.ensures ∙ c.in-Some.is)
    ∙ ap (λ b. b && (fits_sort c.args.variable.sort t.head && allows c.args.variable.number c.in-Some.entry.universe t)) (sym c.is_same_kind.ensures ∙ c.if-not-is_same_kind.true))
    ∙ ap (λ (e : Evaluator). may_take (state e) c.args.variable (arg_tree e.context.trees c.args.value)) c.self.view_is

pub returns-then-not-fits_sort : goal.returns-then-not-fits_sort
returns-then-not-fits_sort c =
    let m = c.self.inside.mode in
    let t = arg_tree c.self.inside.cx.trees c.args.value in
    sym (may-entry c.self.inside.cx.trees m c.self.inside.inference c.args.variable t c.in-Some.entry (sym c.entry.ensures ∙ c.in-Some.is)
    ∙ (ap (λ b. b && (fits_sort c.args.variable.sort t.head && allows c.args.variable.number c.in-Some.entry.universe t)) (sym c.is_same_kind.ensures ∙ c.if-not-is_same_kind.false)
    ∙ ap (λ b. b && allows c.args.variable.number c.in-Some.entry.universe t) (sym c.fits_sort.ensures ∙ c.if-not-fits_sort.true)))
    ∙ ap (λ (e : Evaluator). may_take (state e) c.args.variable (arg_tree e.context.trees c.args.value)) c.self.view_is

pub returns : goal.returns
returns c =
    let m = c.self.inside.mode in
    let t = arg_tree c.self.inside.cx.trees c.args.value in
    sym (may-entry c.self.inside.cx.trees m c.self.inside.inference c.args.variable t c.in-Some.entry (sym c.entry.ensures ∙ c.in-Some.is)
    ∙ (ap (λ b. b && (fits_sort c.args.variable.sort t.head && allows c.args.variable.number c.in-Some.entry.universe t)) (sym c.is_same_kind.ensures ∙ c.if-not-is_same_kind.false)
    ∙ (ap (λ b. b && allows c.args.variable.number c.in-Some.entry.universe t) (sym c.fits_sort.ensures ∙ c.if-not-fits_sort.false)
    ∙ sym c.is_allowed.ensures)))
    ∙ ap (λ (e : Evaluator). may_take (state e) c.args.variable (arg_tree e.context.trees c.args.value)) c.self.view_is
