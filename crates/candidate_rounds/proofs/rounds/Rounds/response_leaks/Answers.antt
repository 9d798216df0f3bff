use Rattle.std.proofs.Common.{◌≡◌, ℕ, List, map, subst, sym, ◌∙◌, ap}
use Rattle.std.proofs.lemmas.Result.{IfOk-weaker}
use Rattle.ir_trees.specs.declared.ir.kinds.Clause.{Clause}
use Rattle.ir_trees.specs.Syntax.Trees.{Tree}
use Rattle.ir_trees.specs.Syntax.Words.{ClauseListFits, IsClause, clause_tree}
use Rattle.candidate_eval.specs.declared.eval.variable.CanonicalVar.{CanonicalVar}
use Rattle.candidate_rounds.specs.Evaluators.Known.{Evaluator}
use Rattle.candidate_rounds.specs.Evaluators.Leaking.{IsRecorded, RegionsLeak}
use Rattle.candidate_rounds.specs.Table.Goals.{Each}
use Rattle.candidate_rounds.proofs.Leaking.{each-clause}
use Rattle.candidate_rounds.proofs.rounds.Rounds.response_leaks.Goals as goal

pub regions_leak-requires : goal.regions_leak-requires
regions_leak-requires c =
    let ts = c.self.inside.cx.trees in
    let xs = c.args.response.now.regions.items in
    subst (Each (IsClause ts)) (sym c.as_slice-3.ensures.value) (each-clause ts xs (subst (λ (e : Evaluator). ClauseListFits e.context.trees xs) (sym c.self.view_is) c.requires.regions))

pub returns-clause-no : goal.returns-clause-no
returns-clause-no c =
    let r = c.args.response.now in
    let ts : c.self.inside.cx.trees ≡ c.args.self.now.context.trees = ap (λ (e : Evaluator). e.context.trees) c.self.view_is in
    let rs : c.as_slice-3.result.now ≡ r.regions.items = c.as_slice-3.ensures.value in
    let us : c.as_slice-2.result.now ≡ map (λ (x : CanonicalVar). x.universe) r.vars.items
    = c.as_slice-2.ensures.value ∙ (c.in_ok-universes.ensures.are ∙ ap (map (λ (x : CanonicalVar). x.universe)) c.as_slice.ensures.value) in
    IfOk-weaker c.regions_leak.result _ _
    (λ b h e leak. h e (subst (λ (q : List Tree × List Clause × List ℕ). RegionsLeak (IsRecorded (map (clause_tree q.0) q.1)) 0 q.2) (λ i. (sym ts i, sym rs i, sym us i)) leak))
    c.regions_leak.ensures.no
