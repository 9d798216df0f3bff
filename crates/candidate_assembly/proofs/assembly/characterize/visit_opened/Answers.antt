use Rattle.std.proofs.Common.{Err, None, ap, arith, false, refl, subst, ◌∙◌, ◌≡◌, ℕ}
use Rattle.ir_trees.specs.Declarations.Context.{Context}
use Rattle.ir_trees.specs.Instantiation.Folds.{is_asked}
use Rattle.ir_trees.specs.Instantiation.Opening.{opened_tree}
use Rattle.ir_trees.specs.Syntax.Kinds.{arg_number}
use Rattle.ir_trees.specs.Syntax.Nodes.{tree_at}
use Rattle.ir_trees.specs.Syntax.Trees.{Forest, Tree}
use Rattle.ir_trees.specs.Syntax.Words.{args_forest, env_forest}
use Rattle.candidate_eval.specs.declared.eval.refusal.NoSolutionOrStop.TheVariants as N
use Rattle.candidate_eval.specs.Interface.Unmade.AreValues.{members}
use Rattle.candidate_eval.specs.Interface.Unmade.IsMade.{under_binder}
use Rattle.candidate_eval.specs.Interface.Unmade.IsUnmade.{of_trees}
use Rattle.candidate_eval.proofs.Dynamic.Objects.{env-kept}
use Rattle.candidate_eval.proofs.Interface.Probing.{made}
use Rattle.candidate_assembly.specs.Calls.Characterizing.{Leads, rank}
use Rattle.candidate_assembly.proofs.Rules.Characterizing.{few-later, found-here, later-visit, leads-error, leads-later, making-walk, nothing-done, unasked-opened, visits}
use Rattle.ir_trees.proofs.Growth.Kept.{grows-refl}
use Rattle.candidate_assembly.proofs.assembly.characterize.visit_opened.Goals as goal

pub returns-in_default : goal.returns-in_default
returns-in_default g c =
    let E = g.E.EvalCtxt in
    let a = c.args.ecx.now in
    let ts = (g.E.Build.context a).trees in
    let other : is_asked (tree_at ts c.args.number).head ≡ false =
    subst (λ (x : Context). is_asked (tree_at x.trees c.args.number).head ≡ false) c.cx.ensures c.in_default.ensures in
    found-here E.fixed E.probes g.E.Build.context E.state E.stops None (nothing-done E.fixed E.probes g.E.Build.context E.state E.stops a)
    (unasked-opened (E.judge (E.fixed a)) (env_forest ts c.args.env) c.args.nesting.types c.args.nesting.constants c.requires.types c.requires.constants (E.state a) (args_forest ts c.args.values) (tree_at ts c.args.number) other)

pub returns-in_err-arg : goal.returns-in_err-arg
returns-in_err-arg g c =
    let E = g.E.EvalCtxt in
    let r = g.met.E.EvalCtxt.by_rest c.args.ecx.now c.replace_bound_vars.new.make c.replace_bound_vars.ensures.rest in
    let s = c.in_err-arg.field-0.0 in
    leads-error E.fixed E.probes g.E.Build.context E.state E.stops E.judge _ _ (N.Stop s) c.from_residual.result c.from_residual.ensures.1
    (making-walk E.fixed E.probes g.E.Build.context E.state E.stops s (Err (N.Stop s)) refl (made r c.replace_bound_vars.ensures.grows)
    (of_trees (g.E.Build.context c.args.ecx.now) (grows-refl _) c.replace_bound_vars.ensures.grows (under_binder (arg_number c.in-Some.arg) (members c.args.values.0)) c.in_err-arg.ensures.cause))

pub visit-requires-clause-env : goal.visit-requires-clause-env
visit-requires-clause-env g c = (env-kept _ _ c.args.env c.replace_bound_vars.ensures.grows c.requires.env).0

pub visit-requires-clause-types : goal.visit-requires-clause-types
visit-requires-clause-types g c =
    let E = g.E.EvalCtxt in
    let r = g.met.E.EvalCtxt.by_rest c.args.ecx.now c.replace_bound_vars.new.make c.replace_bound_vars.ensures.rest in
    (few-later E.fixed E.probes g.E.Build.context E.state E.stops E.judge c.args.nesting.types c.args.nesting.constants (made r c.replace_bound_vars.ensures.grows) (c.requires.types, c.requires.constants)).0

pub visit-requires-clause-constants : goal.visit-requires-clause-constants
visit-requires-clause-constants g c =
    let E = g.E.EvalCtxt in
    let r = g.met.E.EvalCtxt.by_rest c.args.ecx.now c.replace_bound_vars.new.make c.replace_bound_vars.ensures.rest in
    (few-later E.fixed E.probes g.E.Build.context E.state E.stops E.judge c.args.nesting.types c.args.nesting.constants (made r c.replace_bound_vars.ensures.grows) (c.requires.types, c.requires.constants)).1

pub returns : goal.returns
returns g c =
    let E = g.E.EvalCtxt in
    let a = c.args.ecx.now in
    let b = c.replace_bound_vars.new.make in
    let r = g.met.E.EvalCtxt.by_rest a b c.replace_bound_vars.ensures.rest in
    let kept = made r c.replace_bound_vars.ensures.grows in
    let ts = (g.E.Build.context a).trees in
    let opens : ℕ → Tree = λ n. opened_tree (args_forest ts c.args.values) (tree_at ts n) in
    let tree : tree_at (g.E.Build.context b).trees (arg_number c.in_ok-arg.arg) ≡ opens c.args.number = c.in_ok-arg.ensures.tree ∙ ap opens c.in-Some.ensures.0 in
    let clauses = env_forest ts c.args.env in
    let same : env_forest (g.E.Build.context b).trees c.args.env ≡ clauses = (env-kept _ _ c.args.env c.replace_bound_vars.ensures.grows c.requires.env).1 in
    leads-later E.fixed E.probes g.E.Build.context E.state E.stops E.judge clauses (rank c.args.nesting) (rank c.args.nesting) c.visit.new.ecx c.visit.result (omega arith) kept
    (later-visit E.fixed E.probes g.E.Build.context E.state E.stops E.judge clauses c.args.nesting.types c.args.nesting.constants (opens c.args.number) _ kept r.1 tree)
    (subst (λ (e : Forest). Leads E.fixed E.probes g.E.Build.context E.state E.stops E.judge e (rank c.args.nesting) b c.visit.new.ecx (visits E.fixed E.probes g.E.Build.context E.state E.stops E.judge e c.args.nesting.types c.args.nesting.constants b (E.state b) (tree_at (g.E.Build.context b).trees (arg_number c.in_ok-arg.arg))) c.visit.result) same c.visit.ensures)
