use Rattle.std.proofs.Common.{IfErr, OnOk, sym, subst}
use Rattle.candidate_assembly.specs.Goals.TraitGoals.{trait_goal}
use Rattle.candidate_rounds.specs.declared.rounds.effort.Effort.{Effort}
use Rattle.candidate_rounds.specs.Evaluators.Known.{state, table_of}
use Rattle.candidate_rounds.specs.Table.Efforts.{IsEffort, IsLeftBy, Runs}
use Rattle.candidate_rounds.specs.Table.Running.{computing}
use Rattle.rounds_judge.specs.Table.Keys.{key_at}
use Rattle.candidate_rounds.proofs.rounds.Rounds.run_by.Goals as goal

pub run-requires-clause-some : goal.run-requires-clause-some
run-requires-clause-some c = subst IsEffort c.in-Rounds.is c.requires.some

pub returns-in-Rounds-clause-ran : goal.returns-in-Rounds-clause-ran
returns-in-Rounds-clause-ran c =
    let r = c.args.self.now in
    let k = key_at (state r) (trait_goal r.context.trees c.args.param_env c.args.predicate) in
    subst (λ (e : Effort). OnOk c.run.result (Runs (computing r) k e (table_of r) (table_of c.run.new.self))) (sym c.in-Rounds.is) c.run.ensures.ran

pub returns-in-Rounds-clause-stopped : goal.returns-in-Rounds-clause-stopped
returns-in-Rounds-clause-stopped c =
    let r = c.args.self.now in
    let n = c.run.new.self in
    let g = trait_goal r.context.trees c.args.param_env c.args.predicate in
    subst (λ (e : Effort). IfErr c.run.result (λ s. IsLeftBy n.context.trees r g e (table_of r) (table_of n) s)) (sym c.in-Rounds.is) c.run.ensures.stopped

pub returns-in-AsNeeded-clause-ran : goal.returns-in-AsNeeded-clause-ran
returns-in-AsNeeded-clause-ran c =
    let r = c.args.self.now in
    let k = key_at (state r) (trait_goal r.context.trees c.args.param_env c.args.predicate) in
    subst (λ (e : Effort). OnOk c.run_settled.result (Runs (computing r) k e (table_of r) (table_of c.run_settled.new.self))) (sym c.in-AsNeeded.is) c.run_settled.ensures.settled

pub returns-in-AsNeeded-clause-stopped : goal.returns-in-AsNeeded-clause-stopped
returns-in-AsNeeded-clause-stopped c =
    let r = c.args.self.now in
    let n = c.run_settled.new.self in
    let g = trait_goal r.context.trees c.args.param_env c.args.predicate in
    subst (λ (e : Effort). IfErr c.run_settled.result (λ s. IsLeftBy n.context.trees r g e (table_of r) (table_of n) s)) (sym c.in-AsNeeded.is) c.run_settled.ensures.stopped
