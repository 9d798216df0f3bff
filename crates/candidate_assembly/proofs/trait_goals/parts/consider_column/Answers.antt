use Rattle.std.proofs.Common.{rules, ◌≡◌, true, false, map, ap, subst, sym, ◌∙◌}
use Rattle.std.proofs.lemmas.Result.{err_from_is_err_and}
use Rattle.ir_trees.specs.Declarations.Context.{Context}
use Rattle.ir_trees.specs.Syntax.Trees.{Tree, is_param, tree_holds}
use Rattle.ir_trees.specs.Syntax.Words.{args_forest, ty_tree}
use Rattle.candidate_eval.specs.Interface.Evaluators.{kinds_listed}
use Rattle.candidate_eval.specs.Derivations.Characterization.{binder_kinds}
use Rattle.candidate_eval.specs.Builtins.Asked.{variables}
use Rattle.candidate_eval.specs.Derivations.Judging.{judged}
use Rattle.candidate_eval.specs.Dynamic.ObjectRequirements.{first_tree}
use Rattle.candidate_eval.specs.Builtins.Tables.{cell, row_of}
use Rattle.candidate_eval.proofs.Interface.Probing.{made}
use Rattle.candidate_assembly.specs.Rules.BuiltinRules.{entered_rule, parts_rule}
use Rattle.candidate_assembly.specs.Goals.TraitGoals.{trait_goal}
use Rattle.candidate_assembly.proofs.Calls.Causes.{answered-error, answered-stop, memory-here}
use Rattle.candidate_assembly.proofs.Calls.Considering.{considers-after, not-given, not-made}
use Rattle.candidate_assembly.proofs.Calls.Keeping.{trait-goal-kept}
use Rattle.candidate_assembly.proofs.Rules.PartsTold.{all-types, first-parameterless, rule-of-cell}
use Rattle.candidate_assembly.proofs.Calls.Stepping.{memory-own}
use Rattle.candidate_eval.proofs.Builtins.PartsFree.{parts-parameterless}
use Rattle.candidate_eval.specs.Interface.Unmade.IsUnmade.{of_cell}
use Rattle.ir_trees.proofs.Growth.Kept.{grows-refl}
use Rattle.candidate_assembly.proofs.trait_goals.parts.consider_column.Goals as goal

pub returns-in_err-parts : goal.returns-in_err-parts
returns-in_err-parts g c =
    let E = g.E.EvalCtxt in
    let first = c.args.ecx.now in
    let old = g.E.Build.context first in
    let now = trait_goal old.trees c.args.env c.args.predicate in
    let rule = λ (t : Tree). parts_rule now c.args.applies c.args.source (cell c.args.column (row_of old t)) in
    let is = subst (λ (x : Context). ty_tree x.trees c.self_ty-ty.result ≡ first_tree (args_forest x.trees c.args.predicate.trait_ref.args)) c.cx.ensures c.self_ty-ty.ensures.tree in
    let r = g.met.E.EvalCtxt.by_rest first c.constituents.new.make c.constituents.ensures.rest in
    let e = c.in_err-parts.field-0.0 in
    not-given (λ f. (g.met.E.EvalCtxt.lawful f).alike_judged_alike) first c.constituents.new.make (rule (first_tree (args_forest old.trees c.args.predicate.trait_ref.args))) c.from_residual.result e
    (answered-error c.from_residual.result e (err_from_is_err_and c.from_residual.result c.from_residual.ensures.1)) (made r c.constituents.ensures.grows) r.1
    (λ n. ap (λ t. judged (E.judge (E.fixed first)) (E.state first) (rule t)) (sym is) ∙ ap (λ x. judged (E.judge (E.fixed first)) (E.state first) (parts_rule now c.args.applies c.args.source x)) (c.in_err-parts.ensures.refused n))
    (λ s q. of_cell old c.args.column c.self_ty-ty.result.0 (grows-refl old) c.constituents.ensures.grows (c.in_err-parts.ensures.cause s q))

pub returns-in_err-kinds : goal.returns-in_err-kinds
returns-in_err-kinds g c =
    let E = g.E.EvalCtxt in
    let first = c.args.ecx.now in
    let old = g.E.Build.context first in
    let now = trait_goal old.trees c.args.env c.args.predicate in
    let r = g.met.E.EvalCtxt.by_rest first c.constituents.new.make c.constituents.ensures.rest in
    let s = c.in_err-kinds.field-0.0 in
    let m = c.in_err-kinds.ensures.cause in
    not-made (λ f. (g.met.E.EvalCtxt.lawful f).alike_judged_alike) first c.constituents.new.make (parts_rule now c.args.applies c.args.source (cell c.args.column (row_of old (first_tree now.reference.arguments)))) c.from_residual-in_err-kinds.result s
    (answered-stop c.from_residual-in_err-kinds.result s (err_from_is_err_and c.from_residual-in_err-kinds.result c.from_residual-in_err-kinds.ensures.1)) (memory-own s m) (made r c.constituents.ensures.grows) r.1 (memory-here m)

pub probe_parts-requires-clause-goal : goal.probe_parts-requires-clause-goal
probe_parts-requires-clause-goal g c = (trait-goal-kept (g.E.Build.context c.args.ecx.now) _ c.args.env c.args.predicate c.constituents.ensures.grows c.requires.goal).0

pub probe_parts-requires-clause-free : goal.probe_parts-requires-clause-free
probe_parts-requires-clause-free g c =
    let old = g.E.Build.context c.args.ecx.now in
    let mid = g.E.Build.context c.constituents.new.make in
    let is = subst (λ (x : Context). ty_tree x.trees c.self_ty-ty.result ≡ first_tree (args_forest x.trees c.args.predicate.trait_ref.args)) c.cx.ensures c.self_ty-ty.ensures.tree in
    let free : tree_holds is_param (ty_tree old.trees c.self_ty-ty.result) ≡ false = ap (tree_holds is_param) is ∙ first-parameterless (args_forest old.trees c.args.predicate.trait_ref.args) c.requires.goal.no_parameter in
    rw c.as_slice-types.ensures.value (all-types mid.trees c.in_ok-parts.parts.types.items (parts-parameterless old c.args.column (ty_tree old.trees c.self_ty-ty.result) _ free c.in_ok-parts.ensures.types))

pub returns : goal.returns
returns g c =
    let E = g.E.EvalCtxt in
    let first = c.args.ecx.now in
    let middle = c.constituents.new.make in
    let old = g.E.Build.context first in
    let mid = g.E.Build.context middle in
    let now = trait_goal old.trees c.args.env c.args.predicate in
    let there = trait_goal mid.trees c.args.env c.args.predicate in
    let parts = c.in_ok-parts.parts in
    let is = subst (λ (x : Context). ty_tree x.trees c.self_ty-ty.result ≡ first_tree (args_forest x.trees c.args.predicate.trait_ref.args)) c.cx.ensures c.self_ty-ty.ensures.tree in
    let r = g.met.E.EvalCtxt.by_rest first middle c.constituents.ensures.rest in
    let applies : c.args.applies ≡ true = search rules in
    let asks = ap (λ t. cell c.args.column (row_of old t)) (sym is) ∙ c.in_ok-parts.ensures.types in
    let kinds = subst (λ (x : Context). kinds_listed c.in_ok-kinds.kinds.items ≡ binder_kinds (variables x.trees parts.under)) c.cx-2.ensures c.in_ok-kinds.ensures.kinds in
    considers-after first middle c.probe_parts.new.ecx (parts_rule now c.args.applies c.args.source (cell c.args.column (row_of old (first_tree now.reference.arguments)))) (entered_rule there true c.args.source (kinds_listed c.in_ok-kinds.kinds.items) (map (ty_tree mid.trees) parts.types.items))
    c.probe_parts.result (made r c.constituents.ensures.grows) r.1
    (rule-of-cell now there c.args.applies c.args.source (cell c.args.column (row_of old (first_tree now.reference.arguments))) mid.trees parts c.in_ok-kinds.kinds.items (trait-goal-kept old mid c.args.env c.args.predicate c.constituents.ensures.grows c.requires.goal).1
    applies asks kinds)
    (rw (c.as_slice.ensures.value, c.as_slice-types.ensures.value) at c.probe_parts.ensures)
