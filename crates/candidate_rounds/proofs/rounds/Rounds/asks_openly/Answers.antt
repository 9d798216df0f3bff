use Rattle.std.proofs.Common.{◌≡◌, inl, inr, length, refl, sym, subst, ◌∙◌}
use Rattle.std.proofs.lemmas.Result.{err_from_is_err_and}
use Rattle.ir_trees.specs.Instantiation.Folding.{IsSubstStop}
use Rattle.ir_trees.specs.Syntax.Trees.{Forest, holds, is_alias}
use Rattle.ir_trees.specs.Syntax.Words.{args_forest}
use Rattle.candidate_eval.specs.Judges.States.{resolved}
use Rattle.rounds_judge.specs.Equations.Opening.{are_open}
use Rattle.candidate_rounds.specs.Evaluators.Known.{listing, state}
use Rattle.candidate_rounds.specs.Evaluators.Stopping.{resolved_side}
use Rattle.candidate_rounds.proofs.Equations.OpenSides.{asked-right, if-err, if-ok, list-kept}
use Rattle.candidate_rounds.proofs.rounds.Rounds.asks_openly.Goals as goal

pub returns-in_err-has_alias-clause-cause : goal.returns-in_err-has_alias-clause-cause
returns-in_err-has_alias-clause-cause c = λ e.
    let p = err_from_is_err_and c.from_residual.result c.from_residual.ensures.1 in
    rw (p.1, p.2) (resolved_side _ (sym c.opens_aliases.ensures ∙ c.if-not-opens_aliases.false) (inl refl) c.in_err-has_alias.ensures.cause)

pub has_alias-requires-2 : goal.has_alias-requires-2
has_alias-requires-2 c = (list-kept c.args.self.now.context c.has_alias.new.self.context c.args.b c.has_alias.ensures.goes.0 c.requires.right).0

pub returns-clause-is : goal.returns-clause-is
returns-clause-is c =
    let old = c.args.self.now in
    let mid = c.has_alias.new.self in
    let b = (list-kept old.context mid.context c.args.b c.has_alias.ensures.goes.0 c.requires.right).1 in
    let s = c.has_alias.ensures.state in
    let A = holds is_alias (resolved (state old) (args_forest old.context.trees c.args.a)) in
    let B = holds is_alias (resolved (state old) (args_forest old.context.trees c.args.b)) in
    let opens : are_open (listing old) (state old) ≡ _ = sym c.opens_aliases.ensures ∙ c.if-not-opens_aliases.false in
    let none = sym c.in_ok-has_alias.ensures.is ∙ c.if-branch.false in
    if-ok c.has_alias-2.result _ _ (λ x k. k ∙ ((λ i. holds is_alias (resolved (s i) (b i))) ∙ asked-right (are_open (listing old) (state old)) A B opens none)) c.has_alias-2.ensures.is

pub returns-clause-cause : goal.returns-clause-cause
returns-clause-cause c = λ e.
    let old = c.args.self.now in
    let mid = c.has_alias.new.self in
    let b = (list-kept old.context mid.context c.args.b c.has_alias.ensures.goes.0 c.requires.right).1 in
    let s = c.has_alias.ensures.state in
    let n = length c.has_alias-2.new.self.context.trees in
    if-err c.has_alias-2.result _ _
    (λ x k. resolved_side _ (sym c.opens_aliases.ensures ∙ c.if-not-opens_aliases.false) (inr refl) (subst (λ (f : Forest). IsSubstStop n f x) (λ i. resolved (s i) (b i)) k)) c.has_alias-2.ensures.cause
