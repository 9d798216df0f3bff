use Rattle.std.proofs.Common.{None, ap, arith, false, subst, sym, ◌∙◌, ◌≡◌, ℕ}
use Rattle.ir_trees.specs.declared.ir.heads.Head.TheVariants as H
use Rattle.ir_trees.specs.Declarations.Context.{Context}
use Rattle.ir_trees.specs.Instantiation.Folds.{is_asked}
use Rattle.ir_trees.specs.Syntax.Nodes.{tree_at}
use Rattle.ir_trees.specs.Syntax.Words.{env_forest}
use Rattle.candidate_assembly.specs.Calls.Characterizing.{visited_at}
use Rattle.candidate_assembly.proofs.Rules.Characterizing.{a-part, found-here, leads-later, no-part, nothing-done, unasked}
use Rattle.candidate_assembly.proofs.assembly.characterize.visit_part.Goals as goal

pub returns-in-Part : goal.returns-in-Part
returns-in-Part g c =
    let E = g.E.EvalCtxt in
    let a = c.args.ecx.now in
    let ts = (g.E.Build.context a).trees in
    let clauses = env_forest ts c.args.env in
    let visit = visited_at (E.judge (E.fixed a)) clauses c.args.nesting.types c.args.nesting.constants in
    let part : (tree_at ts c.args.number).head ≡ H.Part c.in-Part.field-0 = sym (c.in-Part.ensures ∙ ap (λ (x : Context). (tree_at x.trees c.args.number).head) c.cx.ensures) in
    leads-later E.fixed E.probes g.E.Build.context E.state E.stops E.judge clauses _ _ c.below_binder.new.ecx c.below_binder.result (omega arith) (nothing-done E.fixed E.probes g.E.Build.context E.state E.stops a) (a-part visit (E.state a) (tree_at ts c.args.number) c.in-Part.field-0 part) (c.below_binder.ensures clauses)

pub returns-in-Some : goal.returns-in-Some
returns-in-Some g c =
    let E = g.E.EvalCtxt in
    let a = c.args.ecx.now in
    let ts = (g.E.Build.context a).trees in
    let clauses = env_forest ts c.args.env in
    let visit = visited_at (E.judge (E.fixed a)) clauses c.args.nesting.types c.args.nesting.constants in
    let head : c.head.result ≡ (tree_at ts c.args.number).head = c.head.ensures ∙ ap (λ (x : Context). (tree_at x.trees c.args.number).head) c.cx.ensures in
    let single = no-part visit (E.state a) (tree_at ts c.args.number) (λ p e. c.in_default.not-Part p (head ∙ e)) in
    leads-later E.fixed E.probes g.E.Build.context E.state E.stops E.judge clauses _ _ c.visit.new.ecx c.visit.result (omega arith) (nothing-done E.fixed E.probes g.E.Build.context E.state E.stops a)
    (single ∙ ap (λ (n : ℕ). visit (E.state a) (tree_at ts n)) (sym c.in-Some.ensures.0)) c.visit.ensures

pub returns-in-None : goal.returns-in-None
returns-in-None g c =
    let E = g.E.EvalCtxt in
    let a = c.args.ecx.now in
    let ts = (g.E.Build.context a).trees in
    let visit = visited_at (E.judge (E.fixed a)) (env_forest ts c.args.env) c.args.nesting.types c.args.nesting.constants in
    let head : c.head.result ≡ (tree_at ts c.args.number).head = c.head.ensures ∙ ap (λ (x : Context). (tree_at x.trees c.args.number).head) c.cx.ensures in
    let single = no-part visit (E.state a) (tree_at ts c.args.number) (λ p e. c.in_default.not-Part p (head ∙ e)) in
    let other : is_asked (tree_at ts c.args.number).head ≡ false = subst (λ (x : Context). is_asked (tree_at x.trees c.args.number).head ≡ false) c.cx-2.ensures c.in-None.ensures in
    found-here E.fixed E.probes g.E.Build.context E.state E.stops None (nothing-done E.fixed E.probes g.E.Build.context E.state E.stops a)
    (single ∙ unasked (E.judge (E.fixed a)) (env_forest ts c.args.env) c.args.nesting.types c.args.nesting.constants c.requires.types c.requires.constants (E.state a) (tree_at ts c.args.number) other)
