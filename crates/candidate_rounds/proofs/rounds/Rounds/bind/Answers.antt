use Rattle.std.proofs.Common.{◌≡◌, true, None, OnOk, reverse, sym, subst}
use Rattle.ir_trees.specs.Instantiation.Folds.{arg_tree}
use Rattle.ir_trees.specs.Unification.Substitutions.{alone}
use Rattle.candidate_eval.specs.declared.eval.mode.TypingMode.{TypingMode}
use Rattle.candidate_eval.specs.Judges.Soundness.{IsResolved}
use Rattle.candidate_eval.specs.Judges.States.{value_of}
use Rattle.rounds_judge.specs.Equations.Binding.{bound, may_take}
use Rattle.candidate_rounds.specs.Evaluators.Known.{Evaluator, GoesOn, state, state_of}
use Rattle.candidate_rounds.proofs.Equations.Assigning.{holds-marks}
use Rattle.rounds_judge.proofs.Equations.Ending.{CanGet}
use Rattle.candidate_rounds.proofs.Snapshots.Knowing.{given-grown}
use Rattle.candidate_rounds.proofs.Snapshots.ResolvedValues.{can-get, derived-grown, resolved-bound, resolved-further, resolved-grown}
use Rattle.candidate_rounds.proofs.Evaluators.Between.{of-parts, parts}
use Rattle.candidate_rounds.proofs.Evaluators.Going.{goes-both}
use Rattle.candidate_rounds.proofs.Table.Tabled.{tabled-grown}
use Rattle.candidate_rounds.proofs.rounds.Rounds.bind.Goals as goal

pub invariant_of-self : goal.invariant_of-self
invariant_of-self c =
    let i = c.self.inside in
    let us = c.bind_in.new.cx.trees in
    let ks = reverse i.probes.items in
    let v = c.args.variable in
    let x = arg_tree i.cx.trees c.args.value in
    let may = subst (λ (e : Evaluator). may_take (state e) v (arg_tree e.context.trees c.args.value) ≡ true) (sym c.self.view_is) c.requires.may in
    let free = subst (λ (e : Evaluator). value_of (state e) v.number ≡ None) (sym c.self.view_is) c.requires.free in
    let whole = subst (λ (e : Evaluator). IsResolved (state e) (alone (arg_tree e.context.trees c.args.value))) (sym c.self.view_is) c.requires.resolved in
    let can : (m : TypingMode) → CanGet (state_of i.cx.trees m i.inference) v x = λ m. can-get (state_of i.cx.trees m i.inference) v x may free whole in
    let consistent = (parts c.self.invariant).consistent in
    of-parts (record {
      consistent = holds-marks us i.inference c.bind_in.new.inference ks consistent.marks c.bind_in.ensures.further c.bind_in.ensures.consistent;
      resolved =
          resolved-further us i.inference c.bind_in.new.inference ks consistent.marks c.bind_in.ensures.further
          (resolved-bound i.cx.trees us i.inference c.bind_in.new.inference v x c.bind_in.result (parts c.self.invariant).resolved.now can c.bind_in.ensures.grows.kept consistent.known c.bind_in.ensures.bound c.bind_in.ensures.undone)
          (resolved-grown i.cx.trees us i.inference ks c.bind_in.ensures.grows.kept consistent.known (parts c.self.invariant).resolved);
      given = given-grown i.cx.trees us i.normal.items i.opaques.items c.bind_in.ensures.grows.kept (parts c.self.invariant).given;
      tabled = tabled-grown i.cx.trees us c.bind_in.ensures.grows.kept i.goals (parts c.self.invariant).tabled;
      derived = derived-grown i.cx c.bind_in.new.cx (record { pairs = i.normal.items; is_open = i.opens }) i.goals c.bind_in.ensures.grows (parts c.self.invariant).given.types (parts c.self.invariant).tabled (parts c.self.invariant).derived;
    })

pub returns-clause-bound : goal.returns-clause-bound
returns-clause-bound c =
    let i = c.self.inside in
    subst (λ (e : Evaluator). OnOk c.bind_in.result (state_of c.bind_in.new.cx.trees i.mode c.bind_in.new.inference ≡ bound (state e) c.args.variable (arg_tree e.context.trees c.args.value))) c.self.view_is
    (c.bind_in.ensures.bound i.mode)

pub bind_in-requires-clause-consistent : goal.bind_in-requires-clause-consistent
bind_in-requires-clause-consistent c =
    let k = (parts c.self.invariant).consistent in
    record { known = k.known; marks = tt; tidy = k.tidy }

pub returns-clause-goes : goal.returns-clause-goes
returns-clause-goes c =
    let i = c.self.inside in
    let v : Evaluator = record { context = i.cx; mode = i.mode; normal = record { pairs = i.normal.items; is_open = i.opens }; opaques = i.opaques.items; goals = i.goals; inference = i.inference; marks = reverse i.probes.items } in
    subst (λ (e : Evaluator). GoesOn e (record v { context = c.bind_in.new.cx; inference = c.bind_in.new.inference })) c.self.view_is
    (goes-both v c.bind_in.new.cx c.bind_in.new.inference c.bind_in.ensures.grows c.bind_in.ensures.faults c.bind_in.ensures.further)
