use Rattle.std.proofs.Common.{[], false, ap, map, reverse, subst, sym}
use Rattle.candidate_rounds.specs.Evaluators.Inferences.{Inference}
use Rattle.candidate_rounds.specs.Evaluators.Known.{IsEvaluator, NormalForms, info_of, state_of}
use Rattle.candidate_rounds.proofs.Snapshots.ResolvedValues.{evaluator-begins, nothing_known}
use Rattle.candidate_rounds.proofs.Evaluators.Following.{new-fits, new-is-sound}
use Rattle.candidate_rounds.proofs.rounds.Rounds.over.Goals as goal

pub returns-clause-sound : goal.returns-clause-sound
returns-clause-sound c = λ L.
    let none = ap (λ (i : Inference). map (info_of c.args.cx.trees) i.variables) c.new-2.ensures in
    (new-is-sound (state_of c.args.cx.trees c.args.mode c.new-2.result) L none, new-fits (state_of c.args.cx.trees c.args.mode c.new-2.result) L none)

pub invariant_of-result : goal.invariant_of-result
invariant_of-result c =
    let x = c.args.cx in
    let ns : NormalForms = record { pairs = c.args.normal.items; is_open = c.args.opens } in
    let os = c.args.opaques.items in
    subst (λ g. IsEvaluator x c.new-2.result (reverse c.new-3.result.items) ns os g) (sym c.new.ensures)
    (subst (λ i. IsEvaluator x i (reverse c.new-3.result.items) ns os (record { table = []; asked = []; asks = false })) (sym c.new-2.ensures)
    (subst (λ xs. IsEvaluator x nothing_known (reverse xs) ns os (record { table = []; asked = []; asks = false })) (sym c.new-3.ensures.items) (evaluator-begins x ns os c.recall_well_formed_table.ensures c.requires)))
