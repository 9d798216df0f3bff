use Rattle.std.proofs.Common.{◌≡◌, None, Ok, Some, rules, subst}
use Rattle.candidate_rounds.specs.Evaluators.Known.{table_of}
use Rattle.candidate_rounds.specs.Table.Normalized.{IsNormalized}
use Rattle.assembly_text.specs.Normalizing.IsNormalOf.{is_normal}
use Rattle.assembly_text.proofs.solving.normal_after.Goals as goal

pub returns-in-Some-clause-is : goal.returns-in-Some-clause-is
returns-in-Some-clause-is c =
    let is : c.normalize.result ≡ Ok (Some c.in-Some.response) = search rules in
    let last = c.normalize.new.self in
    is_normal (Some c.in-Some.response)
    (subst (IsNormalized last.context.trees c.args.rounds.now c.args.env c.args.alias c.args.effort (table_of last)) is c.normalize.ensures.normalized)

pub returns-in-None-clause-is : goal.returns-in-None-clause-is
returns-in-None-clause-is c =
    let is : c.normalize.result ≡ Ok None = search rules in
    let last = c.normalize.new.self in
    is_normal None
    (subst (IsNormalized last.context.trees c.args.rounds.now c.args.env c.args.alias c.args.effort (table_of last)) is c.normalize.ensures.normalized)
