use Rattle.std.proofs.Common.{◌≡◌, true, [], map, ap, sym, subst, ◌∙◌}
use Rattle.std.specs.List.{All}
use Rattle.std.proofs.lemmas.List.Elements.{All-nil}
use Rattle.ir_trees.specs.Syntax.Trees.{Tree, kind_of}
use Rattle.candidate_eval.specs.Judges.Lawful.{is_type_or_constant}
use Rattle.std.proofs.lemmas.Result.{err_from_is_err_and}
use Rattle.ir_trees.specs.Syntax.Kinds.{arg_kind}
use Rattle.ir_trees.specs.Syntax.Words.{ListFits, args_forest, list_forest}
use Rattle.candidate_eval.specs.Interface.Evaluators.{kinds_listed}
use Rattle.candidate_eval.specs.Interface.Noting.{IsNotingStop, refused_note}
use Rattle.candidate_eval.specs.Judges.States.{fresh_variables, with_fresh_variables}
use Rattle.rounds_judge.specs.Aliases.OpenParts.{kinds_of, paired, with_parts}
use Rattle.candidate_rounds.specs.Calls.Opening.{AreArgs, parts_of, trees_of}
use Rattle.candidate_rounds.specs.Evaluators.Known.{Evaluator, state}
use Rattle.candidate_rounds.specs.Evaluators.Stopping.{parts_noted}
use Rattle.candidate_rounds.proofs.Equations.OpenVariables.{args-kept, args-terms, kinds-same, parts-terms, trees-kept, variables-paired, variables-stop}
use Rattle.candidate_rounds.proofs.rounds.Rounds.opening.Goals as goal

pub returns-in_err-parts-clause-cause : goal.returns-in_err-parts-clause-cause
returns-in_err-parts-clause-cause c =
    let p = err_from_is_err_and c.from_residual.result c.from_residual.ensures.1 in
    rw (p.1, p.2) (parts_noted (subst (λ (e : Evaluator). IsNotingStop e.context.trees c.in_err-parts.field-0.0) c.self.view_is c.in_err-parts.ensures.cause))

pub returns-in_err-kinds-clause-cause : goal.returns-in_err-kinds-clause-cause
returns-in_err-kinds-clause-cause c =
    let p = err_from_is_err_and c.from_residual-in_err-kinds.result c.from_residual-in_err-kinds.ensures.1 in
    rw (p.1, p.2) (parts_noted (subst (IsNotingStop _) (sym c.in_err-kinds.ensures.cause) refused_note))

pub returns-in_err-list-clause-cause : goal.returns-in_err-list-clause-cause
returns-in_err-list-clause-cause c =
    let p = err_from_is_err_and c.from_residual-in_err-list.result c.from_residual-in_err-list.ensures.1 in
    let old = c.args.self.now in
    let parts = c.in_ok-parts.ensures.are ∙ ap (λ (e : Evaluator). parts_of e.context.trees c.args.a c.args.b) c.self.view_is in
    let kinds =
    kinds-same c.self.inside.cx.trees c.in_ok-parts.parts.items c.as_slice.result.now c.in_ok-kinds.kinds.items c.as_slice-2.result.now (parts_of old.context.trees c.args.a c.args.b) c.in_ok-parts.ensures.fit parts
    c.as_slice.ensures.value c.in_ok-kinds.ensures.are c.as_slice-2.ensures.value in
    rw (p.1, p.2) (variables-stop c.fresh_args_for_item.new.self.context.trees (state old) (parts_of old.context.trees c.args.a c.args.b) (kinds_listed c.as_slice-2.result.now) c.in_err-list.field-0.0 kinds c.in_err-list.ensures.cause)

pub returns-in_err-variables-clause-cause : goal.returns-in_err-variables-clause-cause
returns-in_err-variables-clause-cause c =
    let p = err_from_is_err_and c.from_residual-in_err-variables.result c.from_residual-in_err-variables.ensures.1 in
    rw (p.1, p.2) (parts_noted refused_note)

-- the kinds of the variables are those of the parts
part-kinds : (c : goal.After-drop-kinds-2) → kinds_listed c.as_slice-2.result.now ≡ kinds_of (parts_of c.args.self.now.context.trees c.args.a c.args.b)
part-kinds c =
    let parts = c.in_ok-parts.ensures.are ∙ ap (λ (e : Evaluator). parts_of e.context.trees c.args.a c.args.b) c.self.view_is in
    kinds-same c.self.inside.cx.trees c.in_ok-parts.parts.items c.as_slice.result.now c.in_ok-kinds.kinds.items c.as_slice-2.result.now (parts_of c.args.self.now.context.trees c.args.a c.args.b) c.in_ok-parts.ensures.fit parts
    c.as_slice.ensures.value c.in_ok-kinds.ensures.are c.as_slice-2.ensures.value

-- the variables by their trees
variables-are : (c : goal.After-drop-kinds-2) → list_forest c.fresh_args_for_item.new.self.context.trees c.in_ok-variables.variables.items ≡ fresh_variables (state c.args.self.now) (kinds_listed c.as_slice-2.result.now)
variables-are c =
    let new = c.fresh_args_for_item.new.self in
    let list = subst (λ (e : Evaluator). list_forest e.context.trees c.args-2.result.now ≡ args_forest e.context.trees c.in_ok-list.list) c.self-2.view_is c.args-2.ensures.tree in
    ap (list_forest new.context.trees) c.in_ok-variables.ensures.items ∙ (list ∙ c.in_ok-list.ensures.trees)

pub returns-clause-paired : goal.returns-clause-paired
returns-clause-paired c =
    let old = c.args.self.now in
    let new = c.fresh_args_for_item.new.self in
    let parts = c.in_ok-parts.parts.items in
    let fit = subst (λ (e : Evaluator). AreArgs e.context.trees parts) c.self.view_is c.in_ok-parts.ensures.fit in
    let there = args-kept old.context new.context parts c.in_ok-list.ensures.goes.0 fit in
    let fits = subst (ListFits new.context.trees) (sym c.in_ok-variables.ensures.items) (subst (λ (e : Evaluator). ListFits e.context.trees c.args-2.result.now) c.self-2.view_is c.args-2.ensures.fits) in
    let terms = args-terms c.self.inside.cx.trees parts c.in_ok-parts.ensures.fit
    (subst (All (λ (p : Tree). is_type_or_constant (kind_of p.head) ≡ true)) (sym c.in_ok-parts.ensures.are)
    (parts-terms (with_parts [] (args_forest c.self.inside.cx.trees c.args.a)) (args_forest c.self.inside.cx.trees c.args.b)
    (parts-terms [] (args_forest c.self.inside.cx.trees c.args.a) (All-nil (λ (p : Tree). is_type_or_constant (kind_of p.head) ≡ true))))) in
    let kinds = ap kinds_listed c.as_slice-2.ensures.value ∙ (c.in_ok-kinds.ensures.are ∙ ap (map arg_kind) c.as_slice.ensures.value) in
    variables-paired new.context.trees parts c.in_ok-variables.variables.items (state old) there terms fits (variables-are c ∙ ap (fresh_variables (state old)) kinds)

pub returns-clause-is : goal.returns-clause-is
returns-clause-is c =
    let old = c.args.self.now in
    let new = c.fresh_args_for_item.new.self in
    let parts = c.in_ok-parts.parts.items in
    let fit = subst (λ (e : Evaluator). AreArgs e.context.trees parts) c.self.view_is c.in_ok-parts.ensures.fit in
    let are = subst (λ (e : Evaluator). trees_of e.context.trees parts ≡ parts_of e.context.trees c.args.a c.args.b) c.self.view_is c.in_ok-parts.ensures.are in
    let left = trees-kept old.context new.context parts c.in_ok-list.ensures.goes.0 fit ∙ are in
    let right = variables-are c ∙ ap (fresh_variables (state old)) (part-kinds c) in
    λ i. paired (left i) (right i)

pub returns-clause-state : goal.returns-clause-state
returns-clause-state c = c.in_ok-list.ensures.made ∙ ap (with_fresh_variables (state c.args.self.now)) (part-kinds c)
