use Rattle.std.proofs.Common.{rules, ◌≡◌, true, false, ap, subst, sym, ◌∙◌}
use Rattle.std.specs.Prelude.{◌&&◌, not}
use Rattle.std.proofs.lemmas.Result.{err_from_is_err_and}
use Rattle.ir_trees.specs.Declarations.Context.{Context}
use Rattle.ir_trees.specs.Declarations.References.{reference_of}
use Rattle.ir_trees.specs.Syntax.Words.{args_forest}
use Rattle.candidate_eval.specs.Dynamic.ObjectRequirements.{first_tree}
use Rattle.candidate_eval.specs.Builtins.Tables.{cell, row_of}
use Rattle.candidate_eval.specs.declared.structural.Column.TheVariants as C
use Rattle.candidate_assembly.specs.Rules.BuiltinRules.{ambiguous_rule, auto_refused, auto_rule, is_numeric_variable, misc, parts_rule, positive, self_of}
use Rattle.candidate_assembly.specs.Goals.TraitGoals.{trait_goal}
use Rattle.candidate_assembly.proofs.Rules.PureFolder.{rejected-at-once}
use Rattle.candidate_assembly.proofs.Rules.AutoTraits.{auto-ambiguous, auto-is, auto-known, auto-negative, not-refused}
use Rattle.candidate_assembly.proofs.Calls.Causes.{answered-stop}
use Rattle.candidate_assembly.proofs.Calls.Considering.{considers-same, not-made-here}
use Rattle.candidate_assembly.proofs.Goals.SelfTypes.{first-is-type}
use Rattle.candidate_assembly.proofs.trait_goals.auto_traits.consider_auto_trait.Goals as goal

pub returns-then-not-is_positive : goal.returns-then-not-is_positive
returns-then-not-is_positive g c =
    let E = g.E.EvalCtxt in
    let first = c.args.ecx.now in
    let old = g.E.Build.context first in
    let now = trait_goal old.trees c.args.env c.args.predicate in
    rejected-at-once (λ f. (g.met.E.EvalCtxt.lawful f).alike_judged_alike) first (auto_rule old now)
    (auto-negative (E.judge (E.fixed first)) (E.state first) old now (sym c.is_positive.ensures ∙ c.if-not-is_positive.true))

pub returns-then-matches : goal.returns-then-matches
returns-then-matches g c =
    let old = g.E.Build.context c.args.ecx.now in
    let now = trait_goal old.trees c.args.env c.args.predicate in
    let is = subst (λ (x : Context). c.self_head-head.result ≡ (first_tree (args_forest x.trees c.args.predicate.trait_ref.args)).head) c.cx.ensures c.self_head-head.ensures in
    let numeric : is_numeric_variable c.self_head-head.result ≡ true = search rules in
    considers-same c.args.ecx.now c.consider_unconditional.new.ecx (auto_rule old now) (ambiguous_rule now true) c.consider_unconditional.result
    (ap (ambiguous_rule now) (sym c.if-not-is_positive.false ∙ c.is_positive.ensures) ∙ auto-ambiguous old now (ap is_numeric_variable (sym is) ∙ numeric)) c.consider_unconditional.ensures

pub returns-in_err-refused : goal.returns-in_err-refused
returns-in_err-refused g c =
    let E = g.E.EvalCtxt in
    let old = g.E.Build.context c.args.ecx.now in
    not-made-here (λ f. (g.met.E.EvalCtxt.lawful f).alike_judged_alike) c.args.ecx.now (auto_rule old (trait_goal old.trees c.args.env c.args.predicate)) c.from_residual.result c.in_err-refused.field-0.0
    (answered-stop c.from_residual.result c.in_err-refused.field-0.0 (err_from_is_err_and c.from_residual.result c.from_residual.ensures.1)) c.in_err-refused.ensures.cause

pub consider_column-requires-clause-known : goal.consider_column-requires-clause-known
consider_column-requires-clause-known g c = λ applies.
    let old = g.E.Build.context c.args.ecx.now in
    let now = trait_goal old.trees c.args.env c.args.predicate in
    let is = subst (λ (x : Context). c.self_head-head.result ≡ (first_tree (args_forest x.trees c.args.predicate.trait_ref.args)).head) c.cx.ensures c.self_head-head.ensures in
    let refused = subst (λ (x : Context). c.in_ok-refused.refused ≡ auto_refused x (reference_of x.trees c.args.predicate.trait_ref) c.self_head-head.result) c.cx-2.ensures c.in_ok-refused.ensures.refused in
    let numeric : is_numeric_variable c.self_head-head.result ≡ false = search rules in
    auto-known old now.reference (self_of now) (first-is-type old c.args.predicate.trait_ref c.requires.goal.fit) c.requires.typed (ap is_numeric_variable (sym is) ∙ numeric)
    (ap (auto_refused old now.reference) (sym is) ∙ (sym refused ∙ not-refused true c.in_ok-refused.refused applies))

pub returns : goal.returns
returns g c =
    let old = g.E.Build.context c.args.ecx.now in
    let now = trait_goal old.trees c.args.env c.args.predicate in
    let is = subst (λ (x : Context). c.self_head-head.result ≡ (first_tree (args_forest x.trees c.args.predicate.trait_ref.args)).head) c.cx.ensures c.self_head-head.ensures in
    let refused = subst (λ (x : Context). c.in_ok-refused.refused ≡ auto_refused x (reference_of x.trees c.args.predicate.trait_ref) c.self_head-head.result) c.cx-2.ensures c.in_ok-refused.ensures.refused in
    let numeric : is_numeric_variable c.self_head-head.result ≡ false = search rules in
    let applies = not c.in_ok-refused.refused in
    considers-same c.args.ecx.now c.consider_column.new.ecx (auto_rule old now) (parts_rule now applies misc (cell C.Auto (row_of old (self_of now)))) c.consider_column.result
    (auto-is old now applies (ap is_numeric_variable (sym is) ∙ numeric)
    (ap (λ b. b && applies) (sym c.if-not-is_positive.false ∙ c.is_positive.ensures) ∙ ap (λ b. positive now && not b) (refused ∙ ap (auto_refused old now.reference) is))) c.consider_column.ensures
