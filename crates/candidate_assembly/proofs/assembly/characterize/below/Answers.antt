use Rattle.std.proofs.Common.{ap, arith, ◌∙◌, ◌≡◌}
use Rattle.ir_trees.specs.Declarations.Context.{Context}
use Rattle.ir_trees.specs.Syntax.Nodes.{tree_at}
use Rattle.ir_trees.specs.Syntax.Trees.{binders_of}
use Rattle.candidate_assembly.specs.Calls.Characterizing.{visited_at}
use Rattle.candidate_assembly.proofs.Rules.Characterizing.{leads-later, many-groups, nothing-done, one-group}
use Rattle.candidate_assembly.proofs.assembly.characterize.below.Goals as goal

pub returns-then-binders-gt0 : goal.returns-then-binders-gt0
returns-then-binders-gt0 g c = λ e.
    let E = g.E.EvalCtxt in
    let a = c.args.ecx.now in
    let ts = (g.E.Build.context a).trees in
    let visit = visited_at (E.judge (E.fixed a)) e c.args.nesting.types c.args.nesting.constants in
    let binders : c.binders.result ≡ binders_of (tree_at ts c.args.number).head =
    c.binders.ensures.is ∙ ap binders_of (c.head.ensures ∙ ap (λ (x : Context). (tree_at x.trees c.args.number).head) c.cx.ensures) in
    leads-later E.fixed E.probes g.E.Build.context E.state E.stops E.judge e _ _ c.below_binder.new.ecx c.below_binder.result (omega arith) (nothing-done E.fixed E.probes g.E.Build.context E.state E.stops a)
    (one-group visit (E.state a) (tree_at ts c.args.number) c.binders.result binders c.if-binders-gt0.true) (c.below_binder.ensures e)

pub returns : goal.returns
returns g c = λ e.
    let E = g.E.EvalCtxt in
    let a = c.args.ecx.now in
    let ts = (g.E.Build.context a).trees in
    let visit = visited_at (E.judge (E.fixed a)) e c.args.nesting.types c.args.nesting.constants in
    let binders : c.binders.result ≡ binders_of (tree_at ts c.args.number).head =
    c.binders.ensures.is ∙ ap binders_of (c.head.ensures ∙ ap (λ (x : Context). (tree_at x.trees c.args.number).head) c.cx.ensures) in
    record {
      kept = nothing-done E.fixed E.probes g.E.Build.context E.state E.stops a;
      parts = record {
        number = c.requires.number;
        place = omega arith;
        values = tt;
        types = c.requires.types;
        constants = c.requires.constants;
      };
      less = omega arith;
      is = many-groups visit (E.state a) (tree_at ts c.args.number) c.binders.result binders c.if-binders-gt0.false;
    }
