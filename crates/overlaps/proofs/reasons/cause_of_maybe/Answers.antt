use Rattle.std.proofs.Common.{◌≡◌, true, false, sym, subst, ◌∙◌}
use Rattle.ir_trees.specs.Declarations.Context.{Context}
use Rattle.ir_trees.specs.Syntax.Trees.{holds, is_alias}
use Rattle.ir_trees.specs.Syntax.Words.{args_forest}
use Rattle.overlaps.specs.Reasons.{by_alias, by_conflict, by_nothing_else}
use Rattle.overlaps.proofs.Staying.{stays-refl}
use Rattle.overlaps.proofs.reasons.cause_of_maybe.Goals as goal

pub returns-then-has_alias-clause-stays : goal.returns-then-has_alias-clause-stays
returns-then-has_alias-clause-stays c = stays-refl c.args.rounds.now

pub returns-then-has_alias-clause-is : goal.returns-then-has_alias-clause-is
returns-then-has_alias-clause-is c =
    by_alias (subst (λ (x : Context). holds is_alias (args_forest x.trees c.args.trait_ref.args) ≡ true) c.cx.ensures (sym c.has_alias.ensures ∙ c.if-has_alias.true))

pub returns-then-not-is_in_coherence-clause-stays : goal.returns-then-not-is_in_coherence-clause-stays
returns-then-not-is_in_coherence-clause-stays c = stays-refl c.args.rounds.now

pub returns-then-not-is_in_coherence-clause-is : goal.returns-then-not-is_in_coherence-clause-is
returns-then-not-is_in_coherence-clause-is c =
    by_nothing_else (subst (λ (x : Context). holds is_alias (args_forest x.trees c.args.trait_ref.args) ≡ false) c.cx.ensures (sym c.has_alias.ensures ∙ c.if-has_alias.false))
    (λ m. absurd (c.is_in_coherence.ensures.no c.if-not-is_in_coherence.true m))

pub returns-in-Some-clause-is : goal.returns-in-Some-clause-is
returns-in-Some-clause-is c =
    by_conflict c.in-Some.conflict (subst (λ (x : Context). holds is_alias (args_forest x.trees c.args.trait_ref.args) ≡ false) c.cx.ensures (sym c.has_alias.ensures ∙ c.if-has_alias.false))
    (c.is_in_coherence.ensures.yes c.if-not-is_in_coherence.false) (sym c.in_ok-conflict.ensures.is ∙ c.in-Some.is)

pub returns-in-None-clause-is : goal.returns-in-None-clause-is
returns-in-None-clause-is c =
    by_nothing_else (subst (λ (x : Context). holds is_alias (args_forest x.trees c.args.trait_ref.args) ≡ false) c.cx.ensures (sym c.has_alias.ensures ∙ c.if-has_alias.false))
    (λ m. sym c.in_ok-conflict.ensures.is ∙ c.in-None.is)
