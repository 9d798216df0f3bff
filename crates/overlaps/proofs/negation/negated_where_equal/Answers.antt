use Rattle.std.proofs.Common.{◌∙◌}
use Rattle.std.proofs.lemmas.Result.{IfOk-weaker}
use Rattle.ir_trees.proofs.Growth.Kept.{args-kept, grows-trans}
use Rattle.candidate_eval.proofs.Dynamic.Objects.{env-kept}
use Rattle.candidate_assembly.proofs.Calls.Causes.{so-err}
use Rattle.candidate_rounds.specs.Evaluators.Known.{sure_of}
use Rattle.overlaps.proofs.Negated.{negated-from, some-weaker}
use Rattle.overlaps.proofs.Pairs.{pair-later}
use Rattle.overlaps.proofs.Staying.{known-beside, known-kept, known-then}
use Rattle.overlaps.proofs.Stopping.{later-kept, later-then, passed-on, stop-later}
use Rattle.overlaps.specs.Stopping.{IsOverlapStop}
use Rattle.overlaps.proofs.negation.negated_where_equal.Goals as goal

pub plug-requires-clause-locals : goal.plug-requires-clause-locals
plug-requires-clause-locals c = c.requires.pair.0.0

pub returns-in_err-plug-clause-stays : goal.returns-in_err-plug-clause-stays
returns-in_err-plug-clause-stays c = known-kept c.plug.ensures.kept

pub plug-requires-2-clause-env : goal.plug-requires-2-clause-env
plug-requires-2-clause-env c = (env-kept _ _ c.args.env c.plug.ensures.kept.grows c.requires.env).0

pub plug-requires-2-clause-empty : goal.plug-requires-2-clause-empty
plug-requires-2-clause-empty c = (env-kept _ _ c.args.env c.plug.ensures.kept.grows c.requires.env).1 ∙ c.requires.empty

pub plug-requires-2-clause-locals : goal.plug-requires-2-clause-locals
plug-requires-2-clause-locals c = (args-kept _ _ c.args.pair.now.second.locals c.plug.ensures.kept.grows c.requires.pair.1.0).0

pub plug-requires-2-clause-placeholders : goal.plug-requires-2-clause-placeholders
plug-requires-2-clause-placeholders c = (args-kept _ _ c.args.placeholders.1 c.plug.ensures.kept.grows c.requires.second).0

pub returns-in_err-plug-2-clause-stays : goal.returns-in_err-plug-2-clause-stays
returns-in_err-plug-2-clause-stays c = known-then (known-kept c.plug.ensures.kept) (known-kept c.plug-2.ensures.kept)

pub returns-in_err-plug-2-clause-cause : goal.returns-in_err-plug-2-clause-cause
returns-in_err-plug-2-clause-cause c = passed-on (IsOverlapStop c.args.rounds.now c.plug-2.new.rounds) c.from_residual-in_err-plug-2.result c.in_err-plug-2.field-0.0 c.from_residual-in_err-plug-2.ensures.1 (stop-later (later-kept c.plug.ensures.kept) c.in_err-plug-2.ensures.cause)

pub negated_under-requires-clause-pair : goal.negated_under-requires-clause-pair
negated_under-requires-clause-pair c =
    pair-later c.args.rounds.now.context c.plug-2.new.rounds.context c.args.pair.now (grows-trans _ _ _ c.plug.ensures.kept.grows c.plug-2.ensures.kept.grows) c.requires.pair

pub returns-clause-stays : goal.returns-clause-stays
returns-clause-stays c = known-then (known-then (known-kept c.plug.ensures.kept) (known-kept c.plug-2.ensures.kept)) (known-beside c.negated_under.ensures.stays)

pub returns-clause-negated : goal.returns-clause-negated
returns-clause-negated c =
    IfOk-weaker c.negated_under.result _ _
    (some-weaker (negated-from c.args.rounds.now c.plug.new.rounds c.plug-2.new.rounds c.args.pair.now c.args.placeholders (sure_of c.negated_under.new.rounds) c.plug.ensures.kept.grows c.plug-2.ensures.kept.grows c.plug.ensures.kept.fixed_same
    c.in_ok-plug.ensures.plugs c.in_ok-plug-2.ensures.plugs c.requires.pair c.requires.second))
    c.negated_under.ensures.negated

pub returns-clause-cause : goal.returns-clause-cause
returns-clause-cause c = so-err c.negated_under.result (λ s k. stop-later (later-then (later-kept c.plug.ensures.kept) (later-kept c.plug-2.ensures.kept)) k) c.negated_under.ensures.cause
