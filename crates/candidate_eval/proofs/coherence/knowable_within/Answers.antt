use Rattle.std.proofs.Common.{◌≡◌, true, false, Ok, Err, sym, ◌∙◌, ap}
use Rattle.std.proofs.lemmas.Result.{err_from_is_err_and}
use Rattle.ir_trees.specs.Declarations.Context.{Context, world}
use Rattle.ir_trees.specs.Declarations.References.{reference_of}
use Rattle.ir_trees.proofs.Growth.Kept.{args-kept}
use Rattle.candidate_eval.specs.Knowability.Orphan.{view, local_or_fundamental}
use Rattle.candidate_eval.proofs.Frontier.Causes.{left-same, left-then, normalizer-left, function-left}
use Rattle.candidate_eval.proofs.Interface.Stops.{check-ends, answers-alike, check-stops, stops-check}
use Rattle.candidate_eval.proofs.Knowability.Knows.{own-kept, knows-stop, knows-downstream, knows-own, knows-locally, local-passes, local-fails, local-stops}
use Rattle.candidate_eval.proofs.coherence.knowable_within.Goals as goal

pub check-requires-2-clause-args : goal.check-requires-2-clause-args
check-requires-2-clause-args g c = (args-kept _ _ c.args.trait_ref.args c.check.ensures.calls.grows c.requires.args).0

pub check-requires-2-clause-normaliser : goal.check-requires-2-clause-normaliser
check-requires-2-clause-normaliser g c = normalizer-left g.C.Build.context g.F.FnMut c.in_ok-check.ensures.calls (check-ends _) c.requires.normaliser

pub returns-in_err-check-2-clause-answer : goal.returns-in_err-check-2-clause-answer
returns-in_err-check-2-clause-answer g c = record {
  at = λ d h told.
      let p = err_from_is_err_and c.from_residual-in_err-check-2.result c.from_residual-in_err-check-2.ensures.1 in
      let see = view (λ s u. g.C.InferCtxtLike.resolved s.1 u) d.normal in
      let c1 = g.C.Build.context c.check.new.infcx in
      let later = function-left g.C.Build.context g.F.FnMut c.in_ok-check.ensures.calls (check-ends _) g.C.InferCtxtLike.seen g.C.InferCtxtLike.resolved d h in
      let own : local_or_fundamental (world c1) c1.local.0 c.args.trait_ref.def_id.0 ≡ false =
      ap (λ (x : Context). local_or_fundamental (world x) x.local.0 c.args.trait_ref.def_id.0) (sym c.cx.ensures)
      ∙ (sym c.trait_ref_is_local_or_fundamental.ensures ∙ c.if-trait_ref_is_local_or_fundamental.false) in
      let e = knows-locally (g.C.Build.context c.args.infcx.now) c1 c.check.ensures.calls.grows see c.args.levels
      (d.stands (c.args.normalize.now, c.args.infcx.now)) (d.stands (c.check.new.normalize, c.check.new.infcx)) (d.stands (c.check-2.new.normalize, c.check-2.new.infcx))
      c.args.trait_ref c.requires.args (g.C.Build.context c.check-2.new.infcx).trees c.in_ok-check.field-0 (Err c.in_err-check-2.field-0.0)
      (sym c.is_ok-passes_remote.ensures.value ∙ c.if-passes_remote.false) own
      (c.in_ok-check.ensures.answer.at d h (λ z o. check-ends _ z)) (c.in_err-check-2.ensures.answer.at d later (λ z o x. told z o (check-stops _ _ _ p.1 p.2 z x))) in
      rw (p.1, p.2) (record { answer = ap (λ x. x.answer) e ∙ local-stops (g.C.Build.context c.check-2.new.infcx).trees c.in_err-check-2.field-0.0; last = c.check-2.new.normalize; leaves = ap (λ x. x.after) e });
}

pub returns-then-passes_proper-clause-answer : goal.returns-then-passes_proper-clause-answer
returns-then-passes_proper-clause-answer g c = record {
  at = λ d h told.
      let see = view (λ s u. g.C.InferCtxtLike.resolved s.1 u) d.normal in
      let c1 = g.C.Build.context c.check.new.infcx in
      let later = function-left g.C.Build.context g.F.FnMut c.in_ok-check.ensures.calls (check-ends _) g.C.InferCtxtLike.seen g.C.InferCtxtLike.resolved d h in
      let own : local_or_fundamental (world c1) c1.local.0 c.args.trait_ref.def_id.0 ≡ false =
      ap (λ (x : Context). local_or_fundamental (world x) x.local.0 c.args.trait_ref.def_id.0) (sym c.cx.ensures)
      ∙ (sym c.trait_ref_is_local_or_fundamental.ensures ∙ c.if-trait_ref_is_local_or_fundamental.false) in
      let e = knows-locally (g.C.Build.context c.args.infcx.now) c1 c.check.ensures.calls.grows see c.args.levels
      (d.stands (c.args.normalize.now, c.args.infcx.now)) (d.stands (c.check.new.normalize, c.check.new.infcx)) (d.stands (c.check-2.new.normalize, c.check-2.new.infcx))
      c.args.trait_ref c.requires.args (g.C.Build.context c.check-2.new.infcx).trees c.in_ok-check.field-0 (Ok c.in_ok-check-2.field-0)
      (sym c.is_ok-passes_remote.ensures.value ∙ c.if-passes_remote.false) own
      (c.in_ok-check.ensures.answer.at d h (λ z o. check-ends _ z)) (c.in_ok-check-2.ensures.answer.at d later (λ z o. check-ends _ z)) in
      record { answer = ap (λ x. x.answer) e ∙ local-passes (g.C.Build.context c.check-2.new.infcx).trees c.in_ok-check-2.field-0 (sym c.is_ok-passes_proper.ensures.value ∙ c.if-passes_proper.true); last = c.check-2.new.normalize; leaves = ap (λ x. x.after) e };
}

pub returns-else-passes_proper-clause-answer : goal.returns-else-passes_proper-clause-answer
returns-else-passes_proper-clause-answer g c = record {
  at = λ d h told.
      let see = view (λ s u. g.C.InferCtxtLike.resolved s.1 u) d.normal in
      let c1 = g.C.Build.context c.check.new.infcx in
      let later = function-left g.C.Build.context g.F.FnMut c.in_ok-check.ensures.calls (check-ends _) g.C.InferCtxtLike.seen g.C.InferCtxtLike.resolved d h in
      let own : local_or_fundamental (world c1) c1.local.0 c.args.trait_ref.def_id.0 ≡ false =
      ap (λ (x : Context). local_or_fundamental (world x) x.local.0 c.args.trait_ref.def_id.0) (sym c.cx.ensures)
      ∙ (sym c.trait_ref_is_local_or_fundamental.ensures ∙ c.if-trait_ref_is_local_or_fundamental.false) in
      let e = knows-locally (g.C.Build.context c.args.infcx.now) c1 c.check.ensures.calls.grows see c.args.levels
      (d.stands (c.args.normalize.now, c.args.infcx.now)) (d.stands (c.check.new.normalize, c.check.new.infcx)) (d.stands (c.check-2.new.normalize, c.check-2.new.infcx))
      c.args.trait_ref c.requires.args (g.C.Build.context c.check-2.new.infcx).trees c.in_ok-check.field-0 (Ok c.in_ok-check-2.field-0)
      (sym c.is_ok-passes_remote.ensures.value ∙ c.if-passes_remote.false) own
      (c.in_ok-check.ensures.answer.at d h (λ z o. check-ends _ z)) (c.in_ok-check-2.ensures.answer.at d later (λ z o. check-ends _ z)) in
      record { answer = ap (λ x. x.answer) e ∙ local-fails (g.C.Build.context c.check-2.new.infcx).trees c.in_ok-check-2.field-0 (sym c.is_ok-passes_proper.ensures.value ∙ c.if-passes_proper.false); last = c.check-2.new.normalize; leaves = ap (λ x. x.after) e };
}

pub returns-in_err-check-2-clause-calls : goal.returns-in_err-check-2-clause-calls
returns-in_err-check-2-clause-calls g c =
    let p = err_from_is_err_and c.from_residual-in_err-check-2.result c.from_residual-in_err-check-2.ensures.1 in
    left-then g.C.Build.context g.F.FnMut c.in_ok-check.ensures.calls (check-ends _)
    (check-stops _ _ _ p.1 p.2) (stops-check _ _ _ p.1 p.2) c.in_err-check-2.ensures.calls

pub returns-then-passes_proper-clause-calls : goal.returns-then-passes_proper-clause-calls
returns-then-passes_proper-clause-calls g c =
    left-then g.C.Build.context g.F.FnMut c.in_ok-check.ensures.calls (check-ends _)
    (answers-alike _ _) (answers-alike _ _) c.in_ok-check-2.ensures.calls

pub returns-else-passes_proper-clause-calls : goal.returns-else-passes_proper-clause-calls
returns-else-passes_proper-clause-calls g c =
    left-then g.C.Build.context g.F.FnMut c.in_ok-check.ensures.calls (check-ends _)
    (answers-alike _ _) (answers-alike _ _) c.in_ok-check-2.ensures.calls

pub returns-in_err-check-clause-calls : goal.returns-in_err-check-clause-calls
returns-in_err-check-clause-calls g c =
    let p = err_from_is_err_and c.from_residual.result c.from_residual.ensures.1 in
    left-same g.C.Build.context g.F.FnMut c.args.levels _ _ _ _ _ _
    (check-stops _ _ _ p.1 p.2) (stops-check _ _ _ p.1 p.2) c.in_err-check.ensures.calls

pub returns-then-passes_remote-clause-calls : goal.returns-then-passes_remote-clause-calls
returns-then-passes_remote-clause-calls g c = left-same g.C.Build.context g.F.FnMut c.args.levels _ _ _ _ _ _ (answers-alike _ _) (answers-alike _ _) c.in_ok-check.ensures.calls

pub returns-then-trait_ref_is_local_or_fundamental-clause-calls : goal.returns-then-trait_ref_is_local_or_fundamental-clause-calls
returns-then-trait_ref_is_local_or_fundamental-clause-calls g c =
    left-same g.C.Build.context g.F.FnMut c.args.levels _ _ _ _ _ _ (answers-alike _ _) (answers-alike _ _) c.in_ok-check.ensures.calls

pub returns-in_err-check-clause-answer : goal.returns-in_err-check-clause-answer
returns-in_err-check-clause-answer g c = record {
  at = λ d h told.
      let c0 = g.C.Build.context c.args.infcx.now in
      let c1 = g.C.Build.context c.check.new.infcx in
      let p = err_from_is_err_and c.from_residual.result c.from_residual.ensures.1 in
      let e = knows-stop (world c0) c0.local.0 c.args.levels (view (λ s u. g.C.InferCtxtLike.resolved s.1 u) d.normal) (d.stands (c.args.normalize.now, c.args.infcx.now))
      (d.stands (c.check.new.normalize, c.check.new.infcx)) (reference_of c0.trees c.args.trait_ref) c1.trees
      c.in_err-check.field-0.0 (c.in_err-check.ensures.answer.at d h (λ z o x. told z o (check-stops _ _ _ p.1 p.2 z x))) in
      rw (p.1, p.2) (record { answer = ap (λ x. x.answer) e; last = c.check.new.normalize; leaves = ap (λ x. x.after) e });
}

pub returns-then-passes_remote-clause-answer : goal.returns-then-passes_remote-clause-answer
returns-then-passes_remote-clause-answer g c = record {
  at = λ d h told.
      let c0 = g.C.Build.context c.args.infcx.now in
      let c1 = g.C.Build.context c.check.new.infcx in
      let e = knows-downstream (world c0) c0.local.0 c.args.levels (view (λ s u. g.C.InferCtxtLike.resolved s.1 u) d.normal) (d.stands (c.args.normalize.now, c.args.infcx.now))
      (d.stands (c.check.new.normalize, c.check.new.infcx)) (reference_of c0.trees c.args.trait_ref) c1.trees
      c.in_ok-check.field-0 (sym c.is_ok-passes_remote.ensures.value ∙ c.if-passes_remote.true) (c.in_ok-check.ensures.answer.at d h (λ z o. check-ends _ z)) in
      record { answer = ap (λ x. x.answer) e; last = c.check.new.normalize; leaves = ap (λ x. x.after) e };
}

pub returns-then-trait_ref_is_local_or_fundamental-clause-answer : goal.returns-then-trait_ref_is_local_or_fundamental-clause-answer
returns-then-trait_ref_is_local_or_fundamental-clause-answer g c = record {
  at = λ d h told.
      let c0 = g.C.Build.context c.args.infcx.now in
      let c1 = g.C.Build.context c.check.new.infcx in
      let own : local_or_fundamental (world c1) c1.local.0 c.args.trait_ref.def_id.0 ≡ true =
      ap (λ (x : Context). local_or_fundamental (world x) x.local.0 c.args.trait_ref.def_id.0) (sym c.cx.ensures)
      ∙ (sym c.trait_ref_is_local_or_fundamental.ensures ∙ c.if-trait_ref_is_local_or_fundamental.true) in
      let e = knows-own (world c0) c0.local.0 c.args.levels (view (λ s u. g.C.InferCtxtLike.resolved s.1 u) d.normal) (d.stands (c.args.normalize.now, c.args.infcx.now))
      (d.stands (c.check.new.normalize, c.check.new.infcx)) (reference_of c0.trees c.args.trait_ref) c1.trees
      c.in_ok-check.field-0 (sym c.is_ok-passes_remote.ensures.value ∙ c.if-passes_remote.false) (own-kept c0 c1 c.check.ensures.calls.grows c.args.trait_ref.def_id.0 true own)
      (c.in_ok-check.ensures.answer.at d h (λ z o. check-ends _ z)) in
      record { answer = ap (λ x. x.answer) e; last = c.check.new.normalize; leaves = ap (λ x. x.after) e };
}
