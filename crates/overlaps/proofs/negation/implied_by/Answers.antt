use Rattle.std.proofs.Common.{◌≡◌, ◌∷◌, [], List, ap, subst, ◌∙◌}
use Rattle.std.specs.Prelude.{map}
use Rattle.std.proofs.lemmas.Result.{IfErr-weaker, IfOk-weaker}
use Rattle.ir_trees.specs.Hierarchy.Elaboration.{IsElaboration}
use Rattle.ir_trees.specs.Syntax.Trees.{Tree}
use Rattle.ir_trees.specs.Syntax.Words.{args_forest, clause_tree}
use Rattle.candidate_eval.specs.Interface.Accounts.StopsSomehow.{making}
use Rattle.candidate_eval.specs.Interface.Unmade.IsUnmade.{of_elaboration}
use Rattle.candidate_eval.proofs.Interface.Probing.{made, then}
use Rattle.overlaps.proofs.negation.implied_by.Goals as goal

pub returns-clause-kept : goal.returns-clause-kept
returns-clause-kept g c = then c.with_values.ensures.kept (made (g.met.E.EvalCtxt.by_rest c.with_values.new.ecx c.elaborate.new.make c.elaborate.ensures.rest) c.elaborate.ensures.grows)

pub returns-clause-same : goal.returns-clause-same
returns-clause-same g c = (g.met.E.EvalCtxt.by_rest c.with_values.new.ecx c.elaborate.new.make c.elaborate.ensures.rest).1 ∙ c.with_values.ensures.same

pub returns-clause-are : goal.returns-clause-are
returns-clause-are g c =
    let mid = g.E.Build.context c.with_values.new.ecx in
    let new = g.E.Build.context c.elaborate.new.make in
    let is = c.in_ok-clause.ensures.tree in
    IfOk-weaker c.elaborate.result _ _
    (λ v h. record {
      later = mid;
      grows = c.with_values.ensures.kept.grows;
      elaborated = subst (λ (t : Tree). IsElaboration mid (t ∷ []) (map (clause_tree new.trees) v.items)) is h;
    })
    c.elaborate.ensures.list

pub returns-clause-cause : goal.returns-clause-cause
returns-clause-cause g c =
    IfErr-weaker c.elaborate.result _ _
    (λ s x. making (of_elaboration (g.E.Build.context c.with_values.new.ecx) (c.in_ok-clause.clause ∷ []) c.with_values.ensures.kept.grows c.elaborate.ensures.grows x)) c.elaborate.ensures.cause
