use Rattle.std.proofs.Common.{◌∙◌, ap}
use Rattle.candidate_eval.specs.Builtins.Tables.{optional}
use Rattle.candidate_eval.proofs.Builtins.Types.{members_given, last_given, first_given, if_ok}
use Rattle.candidate_eval.proofs.structural.making.listed.Goals as goal

pub returns-in-Members-clause-sort : goal.returns-in-Members-clause-sort
returns-in-Members-clause-sort c = if_ok c.types_among.result (λ v e. (members_given _ c.in-Members.list c.args-in-Members.result.now _ c.args-in-Members.ensures.fits c.args-in-Members.ensures.tree e).0) c.types_among.ensures

pub returns-in-Members-clause-trees : goal.returns-in-Members-clause-trees
returns-in-Members-clause-trees c =
    rw c.in-Members.is
    (if_ok c.types_among.result (λ v e. (members_given _ c.in-Members.list c.args-in-Members.result.now _ c.args-in-Members.ensures.fits c.args-in-Members.ensures.tree e).1) c.types_among.ensures)

pub returns-in-LastMember-clause-sort : goal.returns-in-LastMember-clause-sort
returns-in-LastMember-clause-sort c =
    if_ok c.at_most_one-in-LastMember.result (λ v e. (last_given _ c.in-LastMember.list c.args-in-LastMember.result.now _ _ c.args-in-LastMember.ensures.fits c.args-in-LastMember.ensures.tree c.last_type.ensures e).0)
    c.at_most_one-in-LastMember.ensures

pub returns-in-LastMember-clause-trees : goal.returns-in-LastMember-clause-trees
returns-in-LastMember-clause-trees c =
    rw c.in-LastMember.is
    (if_ok c.at_most_one-in-LastMember.result (λ v e. (last_given _ c.in-LastMember.list c.args-in-LastMember.result.now _ _ c.args-in-LastMember.ensures.fits c.args-in-LastMember.ensures.tree c.last_type.ensures e).1)
    c.at_most_one-in-LastMember.ensures)

pub returns-in-FirstArgument-clause-trees : goal.returns-in-FirstArgument-clause-trees
returns-in-FirstArgument-clause-trees c =
    rw c.in-FirstArgument.is
    (if_ok c.at_most_one-in-FirstArgument.result
    (λ v e. (first_given _ c.in-FirstArgument.list c.args-in-FirstArgument.result.now _ c.args-in-FirstArgument.ensures.fits c.args-in-FirstArgument.ensures.tree (e ∙ ap optional c.first_type.ensures)).1)
    c.at_most_one-in-FirstArgument.ensures)
