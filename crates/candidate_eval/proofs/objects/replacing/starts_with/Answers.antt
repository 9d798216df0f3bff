use Rattle.std.proofs.Common.{sym, ◌∙◌}
use Rattle.candidate_eval.proofs.Dynamic.Replacing.{first-fits, starts-other, starts-typed}
use Rattle.candidate_eval.proofs.objects.replacing.starts_with.Goals as goal

pub same-requires-clause-a : goal.same-requires-clause-a
same-requires-clause-a c = first-fits c.args.cx.now.trees c.args-2.result.now c.in-Some.first c.args-2.ensures.fits (sym c.first_type.ensures ∙ c.in-Some.is)

pub returns-in-Some : goal.returns-in-Some
returns-in-Some c =
    starts-typed c.args.cx.now.trees c.args-2.result.now _ c.in-Some.first c.args.ty c.same.result c.args-2.ensures.fits c.args-2.ensures.tree (sym c.first_type.ensures ∙ c.in-Some.is) c.same.ensures

pub returns-in-None : goal.returns-in-None
returns-in-None c =
    starts-other c.args.cx.now.trees c.args-2.result.now _ c.args.ty c.args-2.ensures.fits c.args-2.ensures.tree (sym c.first_type.ensures ∙ c.in-None.is) c.requires.ty
