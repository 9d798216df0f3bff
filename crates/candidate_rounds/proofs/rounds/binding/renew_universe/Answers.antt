use Rattle.std.proofs.Common.{◌≡◌, ◌≤◌, [], inl, inr, sym, subst, ◌∙◌, arith}
use Rattle.candidate_rounds.specs.declared.rounds.inference.Entry.{Entry}
use Rattle.candidate_rounds.specs.Evaluators.Inferences.{lower}
use Rattle.ir_trees.specs.Instantiation.Folds.{arg_tree}
use Rattle.candidate_rounds.proofs.Equations.Assigning.{get-below, some-is, holds-lower, call-holds, universe-stays, universe-lowered, renewed-call}
use Rattle.candidate_rounds.proofs.Evaluators.Going.{further-lower, further-call}
use Rattle.candidate_rounds.proofs.Equations.Renewing.{universe-is}
use Rattle.candidate_rounds.proofs.rounds.binding.renew_universe.Goals as goal

pub returns-in_default-clause-renewed : goal.returns-in_default-clause-renewed
returns-in_default-clause-renewed c = λ m. universe-stays c.args.cx.now.trees m c.args.inference.now c.args.number c.args.universe (arg_tree c.args.cx.now.trees c.args.value) (λ e g. absurd (c.in_default.not-Some e (c.entry.ensures ∙ g)))

pub returns-then-entry-universe-clause-renewed : goal.returns-then-entry-universe-clause-renewed
returns-then-entry-universe-clause-renewed c = λ m. universe-stays c.args.cx.now.trees m c.args.inference.now c.args.number c.args.universe (arg_tree c.args.cx.now.trees c.args.value)
    (λ e g. let same : c.in-Some.entry ≡ e = some-is (sym c.in-Some.is ∙ (c.entry.ensures ∙ g)) in inr (subst (λ (d : Entry). d.universe ≤ c.args.universe) same c.if-entry-universe.true))

pub returns-then-not-mentions-clause-renewed : goal.returns-then-not-mentions-clause-renewed
returns-then-not-mentions-clause-renewed c = λ m. universe-stays c.args.cx.now.trees m c.args.inference.now c.args.number c.args.universe (arg_tree c.args.cx.now.trees c.args.value)
    (λ e g. inl (sym c.mentions.ensures ∙ c.if-not-mentions.true))

pub lower-requires : goal.lower-requires
lower-requires c = get-below c.args.inference.now.variables c.args.number c.in-Some.entry (sym c.entry.ensures ∙ c.in-Some.is)

pub returns-clause-further : goal.returns-clause-further
returns-clause-further c = further-call c.args.inference.now c.lower.new.self (lower c.args.inference.now c.args.number c.args.universe) c.lower.result (further-lower c.args.inference.now c.args.number c.args.universe) c.lower.ensures.lowered c.lower.ensures.unchanged

pub returns-clause-consistent : goal.returns-clause-consistent
returns-clause-consistent c = call-holds c.args.cx.now.trees c.args.inference.now c.lower.new.self (lower c.args.inference.now c.args.number c.args.universe) [] c.lower.result c.requires.consistent (holds-lower c.args.cx.now.trees c.args.inference.now [] c.args.number c.args.universe c.requires.consistent (let l = universe-is c.args.cx.now.trees c.args.inference.now c.args.number c.in-Some.entry c.requires.consistent (sym c.entry.ensures ∙ c.in-Some.is) in omega (arith, l, c.if-entry-universe.false))) c.lower.ensures.lowered c.lower.ensures.unchanged

pub returns-clause-renewed : goal.returns-clause-renewed
returns-clause-renewed c = λ m. renewed-call c.args.cx.now.trees m c.lower.new.self (lower c.args.inference.now c.args.number c.args.universe) _ c.lower.result
    (universe-lowered c.args.cx.now.trees m c.args.inference.now c.args.number c.args.universe (arg_tree c.args.cx.now.trees c.args.value) c.in-Some.entry (sym c.entry.ensures ∙ c.in-Some.is) (omega (arith, c.if-entry-universe.false)) (sym c.mentions.ensures ∙ c.if-not-mentions.false)) c.lower.ensures.lowered
