use Rattle.std.proofs.Common.{◌≡◌, ◌==◌, ◌∙◌, List, ap, length, refl, subst, sym, true}
use Rattle.ir_trees.specs.declared.ir.kinds.GenericArg.{GenericArg}
use Rattle.std.specs.Prelude.{IfErr, IfOk}
use Rattle.ir_trees.specs.Instantiation.Folding.{Answers, IsSubstStop, fold}
use Rattle.ir_trees.specs.Syntax.Words.{args_forest}
use Rattle.rounds_judge.specs.Aliases.OpenParts.{opened}
use Rattle.candidate_rounds.specs.Calls.Opening.{IsOpenedBy, opened_pairs}
use Rattle.candidate_rounds.specs.Evaluators.Known.{Evaluator}
use Rattle.candidate_rounds.proofs.Equations.OpenVariables.{none-opened, opened-are}
use Rattle.candidate_rounds.proofs.Evaluators.Interface.{made-same}
use Rattle.candidate_rounds.proofs.Snapshots.ResolvedValues.{evaluator-grown}
use Rattle.candidate_rounds.proofs.rounds.Rounds.opened.Goals as goal

pub invariant_of-self : goal.invariant_of-self
invariant_of-self c = evaluator-grown _ _ _ _ _ _ _ c.fold_answers.ensures.grows c.self.invariant

pub returns-clause-state : goal.returns-clause-state
returns-clause-state c = made-same c.self.view_is c.fold_answers.ensures.grows c.fold_answers.ensures.rest c.self.invariant

pub returns-clause-tree : goal.returns-clause-tree
returns-clause-tree c =
    let i = c.self.inside in
    let x = c.fold_answers.new.make.trees in
    let by = c.args.by.now in
    let P : Answers → Type 0 = λ f. IfOk c.fold_answers.result (λ y. args_forest x y ≡ fold f 0 (args_forest i.cx.trees c.args.list)) in
    let Q : Evaluator → Type 0 = λ e. IfOk c.fold_answers.result (λ y. args_forest x y ≡ opened (opened_pairs e.context.trees by) (args_forest e.context.trees c.args.list)) in
    let paired = subst (λ (e : Evaluator). IsOpenedBy e.context.trees by) (sym c.self.view_is) c.requires.by in
    subst Q c.self.view_is (subst P (opened-are i.cx.trees by.parts.items by.variables.items paired) (c.fold_answers.ensures.list refl))

pub returns-clause-cause : goal.returns-clause-cause
returns-clause-cause c =
    let i = c.self.inside in
    let n = length c.fold_answers.new.make.trees in
    let by = c.args.by.now in
    let P : Answers → Type 0 = λ f. IfErr c.fold_answers.result (λ s. IsSubstStop n (fold f 0 (args_forest i.cx.trees c.args.list)) s) in
    let Q : Evaluator → Type 0 = λ e. IfErr c.fold_answers.result (λ s. IsSubstStop n (opened (opened_pairs e.context.trees by) (args_forest e.context.trees c.args.list)) s) in
    let paired = subst (λ (e : Evaluator). IsOpenedBy e.context.trees by) (sym c.self.view_is) c.requires.by in
    subst Q c.self.view_is (subst P (opened-are i.cx.trees by.parts.items by.variables.items paired) c.fold_answers.ensures.cause)

pub returns-then-is_empty-clause-tree : goal.returns-then-is_empty-clause-tree
returns-then-is_empty-clause-tree c =
    let by = c.args.by.now in
    let none : (length by.parts.items == 0) ≡ true = ap (λ (xs : List GenericArg). length xs == 0) (sym c.as_slice.ensures.value) ∙ (sym c.is_empty.ensures ∙ c.if-is_empty.true) in
    none-opened _ by.parts.items by.variables.items _ none
