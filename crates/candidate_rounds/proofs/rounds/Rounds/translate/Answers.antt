use Rattle.std.proofs.Common.{◌≡◌, reverse, subst, ◌∙◌, ap}
use Rattle.std.specs.Prelude.{IfOk}
use Rattle.ir_trees.specs.Syntax.Nodes.{tree_at}
use Rattle.candidate_eval.specs.Judges.States.{valued, valued_tree}
use Rattle.candidate_rounds.specs.Calls.Giving.{translation_of}
use Rattle.candidate_rounds.specs.Evaluators.Known.{Evaluator, GoesOn, state}
use Rattle.candidate_rounds.proofs.Evaluators.Between.{parts}
use Rattle.candidate_rounds.proofs.Evaluators.Going.{goes-context}
use Rattle.candidate_rounds.proofs.Snapshots.Knowing.{state-stays}
use Rattle.candidate_rounds.proofs.Snapshots.ResolvedValues.{evaluator-grown}
use Rattle.candidate_rounds.proofs.rounds.Rounds.translate.Goals as goal

pub invariant_of-self : goal.invariant_of-self
invariant_of-self g c =
    let i = c.self.inside in
    evaluator-grown i.cx c.fold_answers.new.make i.inference (reverse i.probes.items) (record { pairs = i.normal.items; is_open = i.opens }) i.opaques.items i.goals c.fold_answers.ensures.grows c.self.invariant

pub returns-clause-state : goal.returns-clause-state
returns-clause-state g c =
    let i = c.self.inside in
    state-stays i.cx.trees c.fold_answers.new.make.trees i.mode i.inference c.fold_answers.ensures.grows.kept (parts c.self.invariant).consistent.known ∙ ap state c.self.view_is

pub returns-clause-goes : goal.returns-clause-goes
returns-clause-goes g c =
    let i = c.self.inside in
    let v : Evaluator = record { context = i.cx; mode = i.mode; normal = record { pairs = i.normal.items; is_open = i.opens }; opaques = i.opaques.items; goals = i.goals; inference = i.inference; marks = reverse i.probes.items } in
    subst (λ (e : Evaluator). GoesOn e (record v { context = c.fold_answers.new.make })) c.self.view_is (goes-context v c.fold_answers.new.make c.fold_answers.ensures.grows c.fold_answers.ensures.rest)

pub returns-clause-tree : goal.returns-clause-tree
returns-clause-tree g c =
    let number = g.N.Numbered.number_of in
    let v = translation_of c.args.translation.now in
    let P : Evaluator → Type 0 = λ e. IfOk c.fold_answers.result (λ x. tree_at c.fold_answers.new.make.trees (number x) ≡ valued_tree v (tree_at e.context.trees (number c.args.value))) in
    subst P c.self.view_is c.fold_answers.ensures.tree

pub returns-clause-list : goal.returns-clause-list
returns-clause-list g c = λ list.
    let number = g.N.Numbered.number_of in
    let v = translation_of c.args.translation.now in
    let P : Evaluator → Type 0 = λ e. IfOk c.fold_answers.result (λ x. (tree_at c.fold_answers.new.make.trees (number x)).children ≡ valued v (tree_at e.context.trees (number c.args.value)).children) in
    subst P c.self.view_is (c.fold_answers.ensures.list list)
