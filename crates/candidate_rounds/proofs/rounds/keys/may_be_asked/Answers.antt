use Rattle.std.proofs.Common.{◌∙◌, ◌&&◌, ap, sym}
use Rattle.candidate_rounds.specs.Calls.Starting.{stand}
use Rattle.candidate_rounds.proofs.Table.Keying.{asked-not, asked-seen, strange}
use Rattle.candidate_rounds.proofs.rounds.keys.may_be_asked.Goals as goal

pub returns-then-env-clause-is : goal.returns-then-env-clause-is
returns-then-env-clause-is c =
    sym (ap (λ b. b && c.stands.result) c.if-env.true)
    ∙ asked-seen c.args.cx.now.trees c.args.key.now c.in_ok-newest_of.field-0 c.as_slice.result.now c.stands-env.result c.in_ok-newest_of.ensures.newest c.stands.result
    c.as_slice.ensures.value c.stands-env.ensures (c.stands.ensures ∙ ap (stand (strange c.in_ok-newest_of.field-0 c.as_slice.result.now)) c.arguments.ensures.trees)

pub returns-else-env-clause-is : goal.returns-else-env-clause-is
returns-else-env-clause-is c =
    asked-not c.args.cx.now.trees c.args.key.now c.in_ok-newest_of.field-0 c.as_slice.result.now c.stands-env.result c.in_ok-newest_of.ensures.newest
    c.as_slice.ensures.value c.stands-env.ensures c.if-env.false
