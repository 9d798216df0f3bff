use Rattle.std.proofs.Common.{Ok, Err, refl}
use Rattle.ir_trees.specs.Syntax.Trees.{Tree}
use Rattle.ir_trees.specs.Syntax.Words.{args_forest}
use Rattle.ir_trees.proofs.Growth.Kept.{args-kept, ty-kept}
use Rattle.candidate_eval.specs.declared.coherence.OrphanStop.TheVariants as O
use Rattle.candidate_eval.specs.Knowability.Answers.{second_answer}
use Rattle.candidate_eval.specs.Knowability.Orphan.{Answer, Checked, view}
use Rattle.candidate_eval.proofs.Frontier.Causes.{left-same, left-then, normalizer-left, function-left}
use Rattle.candidate_eval.proofs.Interface.Stops.{walk-goes-on, local-ends, uncovered-ends, local-is-no-stop, uncovered-is-no-stop, broken-stops, walk-stops, stops-walk, second-ends, second-stops, stops-second, check-ends}
use Rattle.candidate_eval.proofs.Frontier.Checks.{passed-checked, local-checked, broken-checked, only-list, passes-no-list, uncovered-no-list, stop-no-list, uncovered-checked}
use Rattle.candidate_eval.proofs.coherence.check.Goals as goal

pub first_local_ty-requires-clause-args : goal.first_local_ty-requires-clause-args
first_local_ty-requires-clause-args g c = (args-kept _ _ c.args.trait_ref.args c.visit_args.ensures.calls.grows c.requires.args).0

pub first_local_ty-requires-clause-normaliser : goal.first_local_ty-requires-clause-normaliser
first_local_ty-requires-clause-normaliser g c =
    let first = rw c.in-Err-Uncovered.field-0-is at c.in-Err-Uncovered.ensures in
    normalizer-left g.C.Build.context g.F.FnMut first.calls (uncovered-ends _ _ refl) c.requires.normaliser

pub returns-in-Ok-first_local_ty-clause-types : goal.returns-in-Ok-first_local_ty-clause-types
returns-in-Ok-first_local_ty-clause-types g c =
    let first = rw c.in-Err-Uncovered.field-0-is at c.in-Err-Uncovered.ensures in
    ((ty-kept _ _ c.in-Err-Uncovered.uncovered c.first_local_ty.ensures.calls.grows first.exit).0, c.in-Ok-first_local_ty.ensures.types)

pub returns-in-Ok-first_local_ty-clause-answer : goal.returns-in-Ok-first_local_ty-clause-answer
returns-in-Ok-first_local_ty-clause-answer g c = record {
  at = λ d h told.
      let see = view (λ s u. g.C.InferCtxtLike.resolved s.1 u) d.normal in
      let last = g.C.Build.context c.first_local_ty.new.infcx in
      let first = rw c.in-Err-Uncovered.field-0-is at c.in-Err-Uncovered.ensures in
      let later = function-left g.C.Build.context g.F.FnMut first.calls (uncovered-ends _ _ refl) g.C.InferCtxtLike.seen g.C.InferCtxtLike.resolved d h in
      let checked : Tree → Checked (g.row.F.Denot × g.C.InferCtxtLike.Seen) (Answer g.row.E.Denot) =
      λ t. record { answer = second_answer last.trees t (Ok c.in-Ok-first_local_ty.local_ty); after = d.stands (c.first_local_ty.new.normalize, c.first_local_ty.new.infcx) } in
      let e = uncovered-checked (g.C.Build.context c.args.infcx.now) (g.C.Build.context c.visit_args.new.infcx) last
      c.visit_args.ensures.calls.grows c.first_local_ty.ensures.calls.grows c.args.in_crate see c.args.levels c.args.trait_ref.args c.requires.args
      (d.stands (c.args.normalize.now, c.args.infcx.now)) (d.stands (c.visit_args.new.normalize, c.visit_args.new.infcx)) c.in-Err-Uncovered.uncovered first.exit
      (first.outcome d h (λ z o. uncovered-is-no-stop _ z)) checked
      (λ t. c.in-Ok-first_local_ty.ensures.answer d later (λ z o. second-ends _ z) t) in
      e;
}

pub returns-in-Err-Uncovered-clause-answer : goal.returns-in-Err-Uncovered-clause-answer
returns-in-Err-Uncovered-clause-answer g c = record {
  at = λ d h told.
      let see = view (λ s u. g.C.InferCtxtLike.resolved s.1 u) d.normal in
      let last = g.C.Build.context c.first_local_ty.new.infcx in
      let first = rw c.in-Err-Uncovered.field-0-is at c.in-Err-Uncovered.ensures in
      let later = function-left g.C.Build.context g.F.FnMut first.calls (uncovered-ends _ _ refl) g.C.InferCtxtLike.seen g.C.InferCtxtLike.resolved d h in
      let checked : Tree → Checked (g.row.F.Denot × g.C.InferCtxtLike.Seen) (Answer g.row.E.Denot) =
      λ t. record { answer = second_answer last.trees t (Err c.in-Err.stop); after = d.stands (c.first_local_ty.new.normalize, c.first_local_ty.new.infcx) } in
      let e = uncovered-checked (g.C.Build.context c.args.infcx.now) (g.C.Build.context c.visit_args.new.infcx) last
      c.visit_args.ensures.calls.grows c.first_local_ty.ensures.calls.grows c.args.in_crate see c.args.levels c.args.trait_ref.args c.requires.args
      (d.stands (c.args.normalize.now, c.args.infcx.now)) (d.stands (c.visit_args.new.normalize, c.visit_args.new.infcx)) c.in-Err-Uncovered.uncovered first.exit
      (first.outcome d h (λ z o. uncovered-is-no-stop _ z)) checked
      (λ t. c.in-Err.ensures.answer d later (λ z o x. told z o (second-stops _ z x)) t) in
      e;
}

pub returns-in-Ok-first_local_ty-clause-calls : goal.returns-in-Ok-first_local_ty-clause-calls
returns-in-Ok-first_local_ty-clause-calls g c =
    let first = rw c.in-Err-Uncovered.field-0-is at c.in-Err-Uncovered.ensures in
    left-then g.C.Build.context g.F.FnMut first.calls (uncovered-ends _ _ refl)
    (λ s e. absurd (second-ends _ s e)) (λ s e. absurd (check-ends _ s e)) c.in-Ok-first_local_ty.ensures.calls

pub returns-in-Err-Uncovered-clause-calls : goal.returns-in-Err-Uncovered-clause-calls
returns-in-Err-Uncovered-clause-calls g c =
    let first = rw c.in-Err-Uncovered.field-0-is at c.in-Err-Uncovered.ensures in
    left-then g.C.Build.context g.F.FnMut first.calls (uncovered-ends _ _ refl)
    (second-stops _) (stops-second _) c.in-Err.ensures.calls

pub returns-in-Ok-clause-calls : goal.returns-in-Ok-clause-calls
returns-in-Ok-clause-calls g c = left-same g.C.Build.context g.F.FnMut c.args.levels _ _ _ _ _ _ (λ s e. absurd (walk-goes-on _ s e)) (λ s e. absurd (check-ends _ s e)) c.in-Ok.ensures.calls

pub returns-in-Err-Local-clause-calls : goal.returns-in-Err-Local-clause-calls
returns-in-Err-Local-clause-calls g c =
    left-same g.C.Build.context g.F.FnMut c.args.levels _ _ _ _ _ _
    (λ s e. absurd (local-ends _ _ c.in-Err-Local.field-0-is s e)) (λ s e. absurd (check-ends _ s e)) c.in-Err-Local.ensures.calls

pub returns-clause-calls : goal.returns-clause-calls
returns-clause-calls g c =
    let i = c.in-Err-Broken.field-0-is in
    left-same g.C.Build.context g.F.FnMut c.args.levels _ _ _ _ _ _ (walk-stops _ _ i) (stops-walk _ _ i) c.in-Err-Broken.ensures.calls

pub returns-in-Ok-clause-answer : goal.returns-in-Ok-clause-answer
returns-in-Ok-clause-answer g c = record {
  at = λ d h told.
      passed-checked (g.C.Build.context c.args.infcx.now) c.args.in_crate (view (λ s u. g.C.InferCtxtLike.resolved s.1 u) d.normal) c.args.levels
      (args_forest (g.C.Build.context c.args.infcx.now).trees c.args.trait_ref.args) (d.stands (c.args.normalize.now, c.args.infcx.now))
      (d.stands (c.visit_args.new.normalize, c.visit_args.new.infcx)) (g.C.Build.context c.visit_args.new.infcx).trees
      _ _ refl refl c.new.ensures.items (c.in-Ok.ensures.outcome d h);
}

pub returns-in-Err-Local-clause-answer : goal.returns-in-Err-Local-clause-answer
returns-in-Err-Local-clause-answer g c = record {
  at = λ d h told.
      let first = rw c.in-Err-Local.field-0-is at c.in-Err-Local.ensures in
      local-checked (g.C.Build.context c.args.infcx.now) c.args.in_crate (view (λ s u. g.C.InferCtxtLike.resolved s.1 u) d.normal) c.args.levels
      (args_forest (g.C.Build.context c.args.infcx.now).trees c.args.trait_ref.args) (d.stands (c.args.normalize.now, c.args.infcx.now))
      (d.stands (c.visit_args.new.normalize, c.visit_args.new.infcx)) (g.C.Build.context c.visit_args.new.infcx).trees
      _ (first.outcome d h (λ z o. local-is-no-stop _ z));
}

pub returns-clause-answer : goal.returns-clause-answer
returns-clause-answer g c = record {
  at = λ d h told.
      let first = rw c.in-Err-Broken.field-0-is at c.in-Err-Broken.ensures in
      broken-checked (g.C.Build.context c.args.infcx.now) c.args.in_crate (view (λ s u. g.C.InferCtxtLike.resolved s.1 u) d.normal) c.args.levels
      (args_forest (g.C.Build.context c.args.infcx.now).trees c.args.trait_ref.args) (d.stands (c.args.normalize.now, c.args.infcx.now))
      (d.stands (c.visit_args.new.normalize, c.visit_args.new.infcx)) (g.C.Build.context c.visit_args.new.infcx).trees
      c.in-Err-Broken.stop (first.outcome d h (λ z o x. told z o (broken-stops _ z x)));
}

pub returns-in-Ok-clause-types : goal.returns-in-Ok-clause-types
returns-in-Ok-clause-types g c = c.in-Ok.ensures.recorded

pub returns-in-Err-Local-clause-types : goal.returns-in-Err-Local-clause-types
returns-in-Err-Local-clause-types g c = tt

pub returns-in-Err-Uncovered-clause-types : goal.returns-in-Err-Uncovered-clause-types
returns-in-Err-Uncovered-clause-types g c = tt

pub returns-clause-types : goal.returns-clause-types
returns-clause-types g c = tt

pub returns-in-Ok-clause-covers : goal.returns-in-Ok-clause-covers
returns-in-Ok-clause-covers g c = λ m e. e

pub returns-in-Err-Local-clause-covers : goal.returns-in-Err-Local-clause-covers
returns-in-Err-Local-clause-covers g c = λ m e. e

pub returns-in-Err-Uncovered-clause-covers : goal.returns-in-Err-Uncovered-clause-covers
returns-in-Err-Uncovered-clause-covers g c = λ m e. e

pub returns-clause-covers : goal.returns-clause-covers
returns-clause-covers g c = λ m e. e

pub returns-in-Ok-first_local_ty-clause-covers : goal.returns-in-Ok-first_local_ty-clause-covers
returns-in-Ok-first_local_ty-clause-covers g c =
    let first = rw c.in-Err-Uncovered.field-0-is at c.in-Err-Uncovered.ensures in
    λ m e. first.covers c.in-Err-Uncovered.uncovered m refl

pub returns-in-Ok-clause-first_input_once : goal.returns-in-Ok-clause-first_input_once
returns-in-Ok-clause-first_input_once g c = λ l e. only-list _ l (c.in-Ok.ensures.firsts.once _) e

pub returns-in-Err-Local-clause-first_input_once : goal.returns-in-Err-Local-clause-first_input_once
returns-in-Err-Local-clause-first_input_once g c = λ l e. absurd (passes-no-list l e)

pub returns-in-Ok-first_local_ty-clause-first_input_once : goal.returns-in-Ok-first_local_ty-clause-first_input_once
returns-in-Ok-first_local_ty-clause-first_input_once g c = λ l e. absurd (uncovered-no-list _ _ l e)

pub returns-in-Err-Uncovered-clause-first_input_once : goal.returns-in-Err-Uncovered-clause-first_input_once
returns-in-Err-Uncovered-clause-first_input_once g c = λ l e. absurd (stop-no-list (g.C.Build.context c.first_local_ty.new.infcx).trees (O.Stop c.in-Err.stop) l e)

pub returns-clause-first_input_once : goal.returns-clause-first_input_once
returns-clause-first_input_once g c = λ l e. absurd (stop-no-list (g.C.Build.context c.visit_args.new.infcx).trees c.in-Err-Broken.stop l e)
