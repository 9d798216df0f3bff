use Rattle.std.proofs.Common.{◌≡◌, Err, ap, refl, subst, sym, ◌∙◌}
use Rattle.ir_trees.specs.declared.ir.heads.Flag.TheVariants.{Error}
use Rattle.ir_trees.specs.Declarations.Context.{Context}
use Rattle.ir_trees.specs.Syntax.Flags.{mark}
use Rattle.ir_trees.specs.Syntax.Trees.{holds, join}
use Rattle.ir_trees.proofs.Growth.Kept.{grows-refl}
use Rattle.candidate_eval.specs.declared.eval.refusal.NoSolutionOrStop.TheVariants.{NoSolution}
use Rattle.candidate_assembly.proofs.Calls.Considering.{considers-same, not-given}
use Rattle.projection_goals.specs.declared.named.NamedType.TheVariants as N
use Rattle.projection_goals.specs.LanguageTypes.{equal_rule}
use Rattle.projection_goals.specs.Normalizing.{goal_of_trait, normalizes_goal, normalizes_rules}
use Rattle.projection_goals.proofs.LanguageRules.{refused-unheld}
use Rattle.projection_goals.proofs.language.consider_error.Goals as goal

pub returns-then-not-holds_error : goal.returns-then-not-holds_error
returns-then-not-holds_error g c =
    let E = g.E.EvalCtxt in
    let first = c.args.ecx.now in
    let old = g.E.Build.context first in
    let now = normalizes_goal old.trees c.args.env c.args.predicate in
    let held = holds (mark Error) (join now.arguments now.term) in
    let read = subst (λ (x : Context). c.holds_error.result ≡ holds (mark Error) (normalizes_rules.trees_of (normalizes_goal x.trees c.args.env c.args.predicate))) c.cx.ensures c.holds_error.ensures in
    not-given (λ f. (g.met.E.EvalCtxt.lawful f).alike_judged_alike) first first (equal_rule (goal_of_trait old now) now.term held N.Error) (Err NoSolution) NoSolution refl
    (record { fixed_same = refl; probes_same = refl; grows = grows-refl old; faults = refl }) refl
    (λ n. refused-unheld (E.judge (E.fixed first)) (E.state first) (goal_of_trait old now) now.term held N.Error (sym read ∙ c.if-not-holds_error.true)) (λ s q. absurd cc)

pub returns : goal.returns
returns g c =
    let first = c.args.ecx.now in
    let old = g.E.Build.context first in
    let now = normalizes_goal old.trees c.args.env c.args.predicate in
    let held = holds (mark Error) (join now.arguments now.term) in
    let read = subst (λ (x : Context). c.holds_error.result ≡ holds (mark Error) (normalizes_rules.trees_of (normalizes_goal x.trees c.args.env c.args.predicate))) c.cx.ensures c.holds_error.ensures in
    considers-same first c.probe_type.new.ecx (equal_rule (goal_of_trait old now) now.term held N.Error) _ c.probe_type.result
    (ap (λ b. equal_rule (goal_of_trait old now) now.term b N.Error) (sym (sym read ∙ c.if-not-holds_error.false))) c.probe_type.ensures
