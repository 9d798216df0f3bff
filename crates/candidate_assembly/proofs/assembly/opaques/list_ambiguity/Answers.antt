use Rattle.std.proofs.Common.{true, Err, ap, refl, ◌∙◌}
use Rattle.std.proofs.lemmas.Result.{err_from_is_err_and}
use Rattle.ir_trees.specs.Syntax.Words.{env_forest}
use Rattle.candidate_eval.specs.declared.eval.certainty.Certainty.TheVariants.{Maybe}
use Rattle.candidate_assembly.specs.Answers.Telling.{asking_rule}
use Rattle.candidate_assembly.proofs.Aliases.AliasChains.{told-as}
use Rattle.candidate_assembly.proofs.Lists.Listing.{one-listed}
use Rattle.candidate_assembly.proofs.Opaques.OpaqueAnswers.{from-none, none-there}
use Rattle.candidate_assembly.proofs.Opaques.OpaqueLists.{lists-as, stops-as}
use Rattle.candidate_assembly.proofs.assembly.opaques.list_ambiguity.Goals as goal

pub returns-in_err-push_considered : goal.returns-in_err-push_considered
returns-in_err-push_considered g c =
    let E = g.E.EvalCtxt in
    let first = c.args.ecx.now in
    let old = g.E.Build.context first in
    let none = c.new-candidates.ensures.items in
    let p = err_from_is_err_and c.from_residual.result c.from_residual.ensures.1 in
    let call = c.forced_ambiguity-answer in
    stops-as first call.new.ecx (E.state first) c.in_err-push_considered.field-0.0 c.from_residual.result (p.1 ∙ ap Err p.2) (λ e. e ∙ from-none old.trees _ _ none)
    (one-listed (λ f. (g.met.E.EvalCtxt.lawful f).alike_judged_alike) first call.new.ecx _ c.push_considered.new.candidates.items (asking_rule (env_forest old.trees c.args.env) true (Maybe c.args.maybe)) call.result _ (none-there old.trees _ none) call.ensures c.in_err-push_considered.ensures)

pub returns : goal.returns
returns g c =
    let E = g.E.EvalCtxt in
    let first = c.args.ecx.now in
    let old = g.E.Build.context first in
    let none = c.new-candidates.ensures.items in
    let call = c.forced_ambiguity-answer in
    told-as first call.new.ecx (E.state first) _ (λ l e. e ∙ from-none old.trees _ _ none)
    (lists-as first call.new.ecx (E.state first) _ _ refl
    (one-listed (λ f. (g.met.E.EvalCtxt.lawful f).alike_judged_alike) first call.new.ecx _ c.push_considered.new.candidates.items (asking_rule (env_forest old.trees c.args.env) true (Maybe c.args.maybe)) call.result _ (none-there old.trees _ none) call.ensures c.in_ok-push_considered.ensures))
