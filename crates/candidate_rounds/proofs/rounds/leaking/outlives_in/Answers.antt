use Rattle.std.proofs.Common.{◌≡◌, sym, ◌∙◌, ap, rules}
use Rattle.ir_trees.specs.Syntax.Words.{IsRegion, IsVars, clause_kind_tree}
use Rattle.candidate_rounds.proofs.Equations.Recording.{said}
use Rattle.candidate_rounds.proofs.Leaking.{says-outlives}
use Rattle.candidate_rounds.proofs.rounds.leaking.outlives_in.Goals as goal

pub returns-in-RegionOutlives-clause-says : goal.returns-in-RegionOutlives-clause-says
returns-in-RegionOutlives-clause-says c =
    let ts = c.args.cx.now.trees in
    let vs = c.clause.result.vars in
    let a = c.in-RegionOutlives.longer in
    let b = c.in-RegionOutlives.shorter in
    let is : c.clause.result ≡ said vs a b = λ i. record { vars = vs; value = c.in-RegionOutlives.is i } in
    let v : IsVars ts vs = search rules in
    let first : IsRegion ts a = search rules in
    let second : IsRegion ts b = search rules in
    says-outlives ts _ vs a b _ _ v first second c.region_kind.ensures.tree c.region_kind-in-RegionOutlives.ensures.tree (ap (clause_kind_tree ts) (sym is) ∙ c.clause.ensures.tree)
