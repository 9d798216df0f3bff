use Rattle.std.proofs.Common.{[], List, Err, ap, subst, ◌∙◌, refl}
use Rattle.std.proofs.lemmas.Result.{err_from_is_err_and}
use Rattle.ir_trees.specs.Syntax.Words.{ty_tree}
use Rattle.candidate_eval.specs.declared.eval.response.Candidate.{Candidate}
use Rattle.candidate_assembly.specs.Goals.TraitGoals.{trait_goal}
use Rattle.candidate_assembly.specs.Rules.Unsizing.{IsUnsizedTo}
use Rattle.candidate_assembly.proofs.Unsizing.UnsizedRows.{listed-as}
use Rattle.candidate_assembly.proofs.Unsizing.UnsizedTargets.{handed-list, handed-stop}
use Rattle.candidate_assembly.proofs.trait_goals.unsizing_rows.unsize_to.Goals as goal

pub returns-in_err-unsize_by_row : goal.returns-in_err-unsize_by_row
returns-in_err-unsize_by_row g c =
    let E = g.E.EvalCtxt in
    let first = c.args.ecx.now in
    let old = g.E.Build.context first in
    let goal = trait_goal old.trees c.args.env c.args.predicate in
    let to = ty_tree old.trees c.args.target in
    let p = err_from_is_err_and c.from_residual.result c.from_residual.ensures.1 in
    handed-stop first c.unsize_by_row.new.ecx (E.state first) _ _ (IsUnsizedTo (E.judge (E.fixed first)) old (E.state first) goal to []) c.in_err-unsize_by_row.field-0.0 c.from_residual.result (p.1 ∙ ap Err p.2)
    (listed-as first c.unsize_by_row.new.ecx (E.state first) _ _ _ (λ l x. subst (λ (b : List Candidate). IsUnsizedTo (E.judge (E.fixed first)) old (E.state first) goal to b l) c.new-candidates.ensures.items x) _ c.in_err-unsize_by_row.ensures)

pub returns : goal.returns
returns g c =
    let E = g.E.EvalCtxt in
    let first = c.args.ecx.now in
    let old = g.E.Build.context first in
    let goal = trait_goal old.trees c.args.env c.args.predicate in
    let to = ty_tree old.trees c.args.target in
    handed-list first c.unsize_by_row.new.ecx (E.state first) c.unsize_by_row.new.candidates.items (IsUnsizedTo (E.judge (E.fixed first)) old (E.state first) goal to []) c.unsize_by_row.new.candidates refl
    (listed-as first c.unsize_by_row.new.ecx (E.state first) _ _ _ (λ l x. subst (λ (b : List Candidate). IsUnsizedTo (E.judge (E.fixed first)) old (E.state first) goal to b l) c.new-candidates.ensures.items x) _ c.in_ok-unsize_by_row.ensures)
