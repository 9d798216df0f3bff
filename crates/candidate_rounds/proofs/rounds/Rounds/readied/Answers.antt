use Rattle.std.proofs.Common.{Result, Ok, Err, length, subst}
use Rattle.std.specs.Prelude.{IfErr}
use Rattle.ir_trees.specs.declared.ir.stop.Stop.{Stop}
use Rattle.ir_trees.specs.Instantiation.Folding.{IsSubstStop, fold}
use Rattle.ir_trees.specs.Syntax.Trees.{Forest}
use Rattle.rounds_judge.specs.Aliases.Listed.{Listing, listed}
use Rattle.candidate_rounds.specs.Evaluators.Stopping.{types_put}
use Rattle.candidate_rounds.proofs.Evaluators.Between.{parts}
use Rattle.candidate_rounds.proofs.Evaluators.Going.{goes-listing, goes-trans}
use Rattle.candidate_rounds.proofs.rounds.Rounds.readied.Goals as goal

if-err : {A : Type 0} (r : Result A Stop) (P Q : Stop → Type 0) → ((s : Stop) → P s → Q s) → IfErr r P → IfErr r Q
if-err (Ok x) P Q f p = tt
if-err (Err s) P Q f p = f s p

pub returns-clause-goes : goal.returns-clause-goes
returns-clause-goes c =
    goes-trans c.args.self.now c.resolve_args_if_possible.new.self c.with_listed_types.new.self c.resolve_args_if_possible.ensures.goes c.with_listed_types.ensures.goes

pub returns-clause-cause : goal.returns-clause-cause
returns-clause-cause c =
    let old = c.args.self.now in
    let n = length c.with_listed_types.new.self.context.trees in
    let l = goes-listing old c.resolve_args_if_possible.new.self c.resolve_args_if_possible.ensures.goes (parts c.recall_well_kept.ensures).given in
    let P : Listing × Forest → Stop → Type 0 = λ p s. IsSubstStop n (fold (λ d u. listed p.0 u) 0 p.1) s in
    if-err c.with_listed_types.result _ _ (λ s k. types_put k) (subst (λ p. IfErr c.with_listed_types.result (P p)) (λ i. (l i, c.in_ok-resolved.ensures.tree i)) c.with_listed_types.ensures.cause)
