use Rattle.ir_trees.specs.declared.ir.kinds.TyKind.TheVariants as TK
use Rattle.candidate_eval.specs.Interface.Accounts.StopsSomehow.{making}
use Rattle.candidate_eval.proofs.Interface.Probing.{made}
use Rattle.candidate_eval.proofs.Interface.Unmade.{type-unmade}
use Rattle.candidate_assembly.proofs.Calls.Causes.{so-err}
use Rattle.candidate_assembly.proofs.Opaques.SaidBounds.{alias-fits, alias-takes}
use Rattle.projection_goals.proofs.Rigid.{bounded-alias}
use Rattle.projection_goals.proofs.proving.alias_type.Goals as goal

pub mk_ty-requires-clause-fits : goal.mk_ty-requires-clause-fits
mk_ty-requires-clause-fits g c = alias-fits _ c.args.goal.alias (bounded-alias _ c.args.env c.args.goal c.requires.goal c.requires.projection)

pub mk_ty-requires-clause-takes : goal.mk_ty-requires-clause-takes
mk_ty-requires-clause-takes g c = λ strict. alias-takes _ c.args.goal.alias (bounded-alias _ c.args.env c.args.goal c.requires.goal c.requires.projection)

pub returns-clause-kept : goal.returns-clause-kept
returns-clause-kept g c = made (g.met.E.EvalCtxt.by_rest c.args.ecx.now c.mk_ty.new.self c.mk_ty.ensures.rest) c.mk_ty.ensures.made.kept

pub returns-clause-same : goal.returns-clause-same
returns-clause-same g c = (g.met.E.EvalCtxt.by_rest c.args.ecx.now c.mk_ty.new.self c.mk_ty.ensures.rest).1

pub returns-clause-cause : goal.returns-clause-cause
returns-clause-cause g c =
    so-err c.mk_ty.result (λ s x. making (type-unmade (TK.Alias c.args.goal.alias) c.mk_ty.ensures.made.kept x)) c.mk_ty.ensures.made.cause
