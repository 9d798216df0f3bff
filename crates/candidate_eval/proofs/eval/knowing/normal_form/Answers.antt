use Rattle.ir_trees.specs.Syntax.Words.{env_forest, ty_tree}
use Rattle.candidate_eval.specs.Interface.Accounts.{Question}
use Rattle.candidate_eval.proofs.Interface.Knowing.{stopped-as-judged}
use Rattle.candidate_eval.proofs.eval.knowing.normal_form.Goals as goal

pub returns-in-Err-Stop : goal.returns-in-Err-Stop
returns-in-Err-Stop g c =
    let E = g.E.EvalCtxt in
    let why : E.stops c.structurally_normalize_ty.new.self (E.state c.args.ecx.now) (Question.normalize (env_forest (g.E.Build.context c.args.ecx.now).trees c.args.env) (ty_tree (g.E.Build.context c.args.ecx.now).trees c.args.ty)) c.in-Err-Stop.stop
    = rw c.in-Err-Stop.field-0-is at c.in-Err-Stop.ensures.cause in
    stopped-as-judged g.E.Build.context E.fixed E.probes E.state E.judge E.stops _ _ c.args.env c.args.ty c.in-Err-Stop.stop c.structurally_normalize_ty.ensures.kept (g.met.E.EvalCtxt.stops_itself _ _ _ _ why) why
