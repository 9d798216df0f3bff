use Rattle.std.proofs.Common.{None, Some, ap, arith, refl, subst, sym, ◌∙◌, ◌≡◌, ℕ}
use Rattle.ir_trees.specs.Declarations.Context.{Context}
use Rattle.ir_trees.specs.Instantiation.Folds.{arg_tree}
use Rattle.ir_trees.specs.Syntax.Nodes.{tree_at}
use Rattle.candidate_assembly.specs.declared.assembly.characterize.Said.TheVariants.{Found, Nothing, Parts}
use Rattle.candidate_eval.specs.Derivations.Characterization.{each_group, groups, looked}
use Rattle.candidate_assembly.specs.Calls.Characterizing.{unless_said, visited_at}
use Rattle.candidate_assembly.proofs.Rules.Characterizing.{arg-below, found-here, leads-later, nothing-done}
use Rattle.candidate_assembly.proofs.assembly.characterize.look.Goals as goal

pub below-requires-clause-number : goal.below-requires-clause-number
below-requires-clause-number g c =
    let inside = arg-below (g.E.Build.context c.args.ecx.now).trees c.args.arg c.requires.arg in
    rw c.number.ensures inside

pub below-requires-clause-types : goal.below-requires-clause-types
below-requires-clause-types g c = c.requires.types (c.in-Parts.ensures.shallow refl)

pub returns-in-Parts : goal.returns-in-Parts
returns-in-Parts g c = λ e.
    let E = g.E.EvalCtxt in
    let a = c.args.ecx.now in
    let ts = (g.E.Build.context a).trees in
    let visit = visited_at (E.judge (E.fixed a)) e c.args.nesting.types c.args.nesting.constants in
    let says = subst (λ (x : Context). looked visit c.args.is_too_deep (E.state a) (arg_tree x.trees c.args.arg) ≡ unless_said Parts (E.state a) (each_group visit (E.state a) (groups (arg_tree x.trees c.args.arg).head (arg_tree x.trees c.args.arg).children)))
    c.cx.ensures (c.in-Parts.ensures.says visit (E.state a)) in
    leads-later E.fixed E.probes g.E.Build.context E.state E.stops E.judge e _ _ c.below.new.ecx c.below.result (omega arith) (nothing-done E.fixed E.probes g.E.Build.context E.state E.stops a)
    (says ∙ ap (λ (n : ℕ). each_group visit (E.state a) (groups (tree_at ts n).head (tree_at ts n).children)) (sym c.number.ensures)) (c.below.ensures e)

pub returns-in-Found : goal.returns-in-Found
returns-in-Found g c = λ e.
    let E = g.E.EvalCtxt in
    let a = c.args.ecx.now in
    let visit = visited_at (E.judge (E.fixed a)) e c.args.nesting.types c.args.nesting.constants in
    let says = subst (λ (x : Context). looked visit c.args.is_too_deep (E.state a) (arg_tree x.trees c.args.arg) ≡ unless_said (Found c.in-Found.certainty) (E.state a) (each_group visit (E.state a) (groups (arg_tree x.trees c.args.arg).head (arg_tree x.trees c.args.arg).children)))
    c.cx.ensures (c.in-Found.ensures.says visit (E.state a)) in
    found-here E.fixed E.probes g.E.Build.context E.state E.stops (Some c.in-Found.certainty) (nothing-done E.fixed E.probes g.E.Build.context E.state E.stops a) says

pub returns-in-Nothing : goal.returns-in-Nothing
returns-in-Nothing g c = λ e.
    let E = g.E.EvalCtxt in
    let a = c.args.ecx.now in
    let visit = visited_at (E.judge (E.fixed a)) e c.args.nesting.types c.args.nesting.constants in
    let says = subst (λ (x : Context). looked visit c.args.is_too_deep (E.state a) (arg_tree x.trees c.args.arg) ≡ unless_said Nothing (E.state a) (each_group visit (E.state a) (groups (arg_tree x.trees c.args.arg).head (arg_tree x.trees c.args.arg).children)))
    c.cx.ensures (c.in-Nothing.ensures.says visit (E.state a)) in
    found-here E.fixed E.probes g.E.Build.context E.state E.stops None (nothing-done E.fixed E.probes g.E.Build.context E.state E.stops a) says
