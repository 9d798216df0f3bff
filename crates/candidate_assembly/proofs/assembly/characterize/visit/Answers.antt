use Rattle.std.proofs.Common.{ap, arith, false, ltb-false, nat_lt, refl, subst, sym, ◌+◌, ◌<◌, ◌∙◌, ◌≡◌, ◌≤◌}
use Rattle.ir_trees.specs.Declarations.Context.{Context}
use Rattle.ir_trees.specs.declared.decl.limits.Limits.{Limits}
use Rattle.ir_trees.specs.Syntax.Nodes.{tree_at}
use Rattle.ir_trees.specs.Syntax.Trees.{RegionKind, Tree}
use Rattle.ir_trees.specs.Syntax.Words.{env_forest, region_tree, ty_tree}
use Rattle.ir_trees.proofs.Syntax.Lists.{below_kind}
use Rattle.candidate_eval.specs.Derivations.Characterization.{in_normal_form, looked, region_seen}
use Rattle.candidate_assembly.specs.Calls.Characterizing.{rank, visited_at}
use Rattle.candidate_assembly.proofs.Rules.Characterizing.{constant-begins, constant-ends, depth-walk, few-later, found-here, leads-ended, leads-error, leads-later, none-refused, normal-looked, normal-refused, nothing-done, region-begins, type-begins}
use Rattle.candidate_assembly.proofs.assembly.characterize.visit.Goals as goal

pub returns-in_err-structurally_normalize_ty-in-Ty : goal.returns-in_err-structurally_normalize_ty-in-Ty
returns-in_err-structurally_normalize_ty-in-Ty g c =
    let E = g.E.EvalCtxt in
    let a = c.args.ecx.now in
    let clauses = env_forest (g.E.Build.context a).trees c.args.env in
    let e = c.in_err-structurally_normalize_ty-in-Ty in
    let walk = type-begins E.fixed E.probes g.E.Build.context E.state E.stops E.judge clauses c.args.nesting.types c.args.nesting.constants a c.requires.types c.requires.constants c.args.arg c.requires.arg c.in-Ty.ty c.in-Ty.is in
    leads-error E.fixed E.probes g.E.Build.context E.state E.stops E.judge clauses _ e.field-0.0 c.from_residual.result c.from_residual.ensures.1
    (normal-refused E.fixed E.probes g.E.Build.context E.state E.stops _ e.field-0.0 (λ s x. g.met.E.EvalCtxt.stops_itself _ _ _ s x) c.structurally_normalize_ty.ensures.kept
    (λ r. none-refused _ _ walk (e.ensures.refused r)) e.ensures.cause)

pub look-requires-clause-types : goal.look-requires-clause-types
look-requires-clause-types g c = λ e.
    let E = g.E.EvalCtxt in
    let a = c.args.ecx.now in
    let limits : c.limits-limits.result ≡ (E.judge (E.fixed a)).limits = c.limits-limits.ensures.is ∙ (ap (λ (x : Context). x.limits) c.cx.ensures ∙ sym (g.met.E.EvalCtxt.walks a)) in
    let l : c.args.nesting.types ≤ c.limits-limits.result.recursion = ltb-false c.limits-limits.result.recursion c.args.nesting.types e in
    let k : c.args.nesting.types + 1 ≤ (E.judge (E.fixed a)).limits.recursion + 1 = subst (λ (x : Limits). c.args.nesting.types + 1 ≤ x.recursion + 1) limits (omega (arith, l)) in
    (few-later E.fixed E.probes g.E.Build.context E.state E.stops E.judge (c.args.nesting.types + 1) c.args.nesting.constants c.structurally_normalize_ty.ensures.kept (k, c.requires.constants)).0

pub look-requires-clause-constants : goal.look-requires-clause-constants
look-requires-clause-constants g c =
    let E = g.E.EvalCtxt in
    (few-later E.fixed E.probes g.E.Build.context E.state E.stops E.judge c.args.nesting.types c.args.nesting.constants c.structurally_normalize_ty.ensures.kept (c.requires.types, c.requires.constants)).1

pub returns-in_ok-structurally_normalize_ty-in-Ty : goal.returns-in_ok-structurally_normalize_ty-in-Ty
returns-in_ok-structurally_normalize_ty-in-Ty g c =
    let E = g.E.EvalCtxt in
    let a = c.args.ecx.now in
    let ts = (g.E.Build.context a).trees in
    let limits : c.limits-limits.result ≡ (E.judge (E.fixed a)).limits = c.limits-limits.ensures.is ∙ (ap (λ (x : Context). x.limits) c.cx.ensures ∙ sym (g.met.E.EvalCtxt.walks a)) in
    let clauses = env_forest ts c.args.env in
    let walk = type-begins E.fixed E.probes g.E.Build.context E.state E.stops E.judge clauses c.args.nesting.types c.args.nesting.constants a c.requires.types c.requires.constants c.args.arg c.requires.arg c.in-Ty.ty c.in-Ty.is in
    let J = E.judge (E.fixed a) in
    let deeper = visited_at J clauses (c.args.nesting.types + 1) c.args.nesting.constants in
    let normal = J.normalized (E.state a) clauses (ty_tree ts c.in-Ty.ty) in
    let types : c.args.nesting.types ≤ c.limits-limits.result.recursion + 1 = subst (λ (l : Limits). c.args.nesting.types ≤ l.recursion + 1) (sym limits) c.requires.types in
    let constants : c.args.nesting.constants ≤ c.limits-limits.result.const_depth = subst (λ (l : Limits). c.args.nesting.constants ≤ l.const_depth) (sym limits) c.requires.constants in
    leads-later E.fixed E.probes g.E.Build.context E.state E.stops E.judge clauses _ _ c.look.new.ecx c.look.result (omega (arith, types, constants)) c.structurally_normalize_ty.ensures.kept
    (normal-looked E.fixed E.probes g.E.Build.context E.state E.stops E.judge clauses (c.args.nesting.types + 1) c.args.nesting.constants (nat_lt c.limits-limits.result.recursion c.args.nesting.types) _ _ c.structurally_normalize_ty.ensures.kept
    (walk ∙ ap (λ (l : Limits). in_normal_form normal (looked deeper (nat_lt l.recursion c.args.nesting.types))) (sym limits)) c.in_ok-structurally_normalize_ty-in-Ty.ensures.ok) (c.look.ensures clauses)

pub returns-in-Const : goal.returns-in-Const
returns-in-Const g c =
    let E = g.E.EvalCtxt in
    let a = c.args.ecx.now in
    let limits : c.limits-limits.result ≡ (E.judge (E.fixed a)).limits = c.limits-limits.ensures.is ∙ (ap (λ (x : Context). x.limits) c.cx.ensures ∙ sym (g.met.E.EvalCtxt.walks a)) in
    let deep : (E.judge (E.fixed a)).limits.const_depth ≤ c.args.nesting.constants = subst (λ (l : Limits). l.const_depth ≤ c.args.nesting.constants) limits c.if-nesting-limits.true in
    depth-walk E.fixed E.probes g.E.Build.context E.state E.stops (constant-ends E.fixed E.probes g.E.Build.context E.state E.stops E.judge _ c.args.nesting.types c.args.nesting.constants a c.requires.types c.requires.constants c.args.arg c.requires.arg c.in-Const.field-0 c.in-Const.is deep)

pub returns-in_err-structurally_normalize_const-in-Const-2 : goal.returns-in_err-structurally_normalize_const-in-Const-2
returns-in_err-structurally_normalize_const-in-Const-2 g c =
    let E = g.E.EvalCtxt in
    let a = c.args.ecx.now in
    let clauses = env_forest (g.E.Build.context a).trees c.args.env in
    let limits : c.limits-limits.result ≡ (E.judge (E.fixed a)).limits = c.limits-limits.ensures.is ∙ (ap (λ (x : Context). x.limits) c.cx.ensures ∙ sym (g.met.E.EvalCtxt.walks a)) in
    let below : c.args.nesting.constants < c.limits-limits.result.const_depth = omega (arith, c.if-nesting-limits.false) in
    let small : c.args.nesting.constants < (E.judge (E.fixed a)).limits.const_depth = subst (λ (l : Limits). c.args.nesting.constants < l.const_depth) limits below in
    let e = c.in_err-structurally_normalize_const-in-Const-2 in
    let walk = constant-begins E.fixed E.probes g.E.Build.context E.state E.stops E.judge clauses c.args.nesting.types c.args.nesting.constants a c.requires.types c.requires.constants c.args.arg c.requires.arg c.in-Const-2.constant c.in-Const-2.is small in
    leads-error E.fixed E.probes g.E.Build.context E.state E.stops E.judge clauses _ e.field-0.0 (c.from_residual-in_err-structurally_normalize_const-in-Const-2).result (c.from_residual-in_err-structurally_normalize_const-in-Const-2).ensures.1
    (normal-refused E.fixed E.probes g.E.Build.context E.state E.stops _ e.field-0.0 (λ s x. g.met.E.EvalCtxt.stops_itself _ _ _ s x) c.structurally_normalize_const.ensures.kept
    (λ r. none-refused _ _ walk (e.ensures.refused r)) e.ensures.cause)

pub look-requires-in-Const-2-clause-types : goal.look-requires-in-Const-2-clause-types
look-requires-in-Const-2-clause-types g c = λ e.
    let E = g.E.EvalCtxt in
    (few-later E.fixed E.probes g.E.Build.context E.state E.stops E.judge c.args.nesting.types c.args.nesting.constants c.structurally_normalize_const.ensures.kept (c.requires.types, c.requires.constants)).0

pub look-requires-in-Const-2-clause-constants : goal.look-requires-in-Const-2-clause-constants
look-requires-in-Const-2-clause-constants g c =
    let E = g.E.EvalCtxt in
    let a = c.args.ecx.now in
    let limits : c.limits-limits.result ≡ (E.judge (E.fixed a)).limits = c.limits-limits.ensures.is ∙ (ap (λ (x : Context). x.limits) c.cx.ensures ∙ sym (g.met.E.EvalCtxt.walks a)) in
    let below : c.args.nesting.constants < c.limits-limits.result.const_depth = omega (arith, c.if-nesting-limits.false) in
    let small : c.args.nesting.constants + 1 ≤ (E.judge (E.fixed a)).limits.const_depth = subst (λ (l : Limits). c.args.nesting.constants + 1 ≤ l.const_depth) limits (omega (arith, below)) in
    (few-later E.fixed E.probes g.E.Build.context E.state E.stops E.judge c.args.nesting.types (c.args.nesting.constants + 1) c.structurally_normalize_const.ensures.kept (c.requires.types, small)).1

pub returns-in_ok-structurally_normalize_const-in-Const-2 : goal.returns-in_ok-structurally_normalize_const-in-Const-2
returns-in_ok-structurally_normalize_const-in-Const-2 g c =
    let E = g.E.EvalCtxt in
    let a = c.args.ecx.now in
    let clauses = env_forest (g.E.Build.context a).trees c.args.env in
    let limits : c.limits-limits.result ≡ (E.judge (E.fixed a)).limits = c.limits-limits.ensures.is ∙ (ap (λ (x : Context). x.limits) c.cx.ensures ∙ sym (g.met.E.EvalCtxt.walks a)) in
    let below : c.args.nesting.constants < c.limits-limits.result.const_depth = omega (arith, c.if-nesting-limits.false) in
    let small : c.args.nesting.constants < (E.judge (E.fixed a)).limits.const_depth = subst (λ (l : Limits). c.args.nesting.constants < l.const_depth) limits below in
    let types : c.args.nesting.types ≤ c.limits-limits.result.recursion + 1 = subst (λ (l : Limits). c.args.nesting.types ≤ l.recursion + 1) (sym limits) c.requires.types in
    let walk = constant-begins E.fixed E.probes g.E.Build.context E.state E.stops E.judge clauses c.args.nesting.types c.args.nesting.constants a c.requires.types c.requires.constants c.args.arg c.requires.arg c.in-Const-2.constant c.in-Const-2.is small in
    leads-later E.fixed E.probes g.E.Build.context E.state E.stops E.judge clauses _ _ c.look-in-Const-2.new.ecx c.look-in-Const-2.result (omega (arith, types, below)) c.structurally_normalize_const.ensures.kept
    (normal-looked E.fixed E.probes g.E.Build.context E.state E.stops E.judge clauses c.args.nesting.types (c.args.nesting.constants + 1) false _ _ c.structurally_normalize_const.ensures.kept walk c.in_ok-structurally_normalize_const-in-Const-2.ensures.ok) (c.look-in-Const-2.ensures clauses)

pub head-requires : goal.head-requires
head-requires g c =
    let E = g.E.EvalCtxt in
    let inside = below_kind (g.E.Build.context c.args.ecx.now).trees c.eager_resolve_region-value.result.0 RegionKind refl c.eager_resolve_region-value.ensures.sort in
    rw c.cx-in-Region.ensures inside

pub returns-in-Region : goal.returns-in-Region
returns-in-Region g c =
    let E = g.E.EvalCtxt in
    let a = c.args.ecx.now in
    let ts = (g.E.Build.context a).trees in
    let value = c.eager_resolve_region-value in
    let head : c.head.result ≡ (region_tree ts value.result).head = c.head.ensures ∙ ap (λ (x : Context). (tree_at x.trees value.result.0).head) c.cx-in-Region.ensures in
    rw c.ended.ensures
    (leads-ended E.fixed E.probes g.E.Build.context E.state E.stops E.judge (env_forest ts c.args.env) (rank c.args.nesting) c.found_in_region-found.result
    (found-here E.fixed E.probes g.E.Build.context E.state E.stops c.found_in_region-found.result (nothing-done E.fixed E.probes g.E.Build.context E.state E.stops a)
    (region-begins E.fixed E.probes g.E.Build.context E.state E.stops E.judge (env_forest ts c.args.env) c.args.nesting.types c.args.nesting.constants a c.requires.types c.requires.constants c.args.arg c.requires.arg c.in-Region.region c.in-Region.is
    ∙ (ap (λ (t : Tree). region_seen (E.state a) t.head) (sym value.ensures.tree) ∙ (ap (region_seen (E.state a)) (sym head) ∙ c.found_in_region-found.ensures (E.state a))))))
