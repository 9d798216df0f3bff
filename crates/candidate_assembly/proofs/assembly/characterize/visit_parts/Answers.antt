use Rattle.std.proofs.Common.{◌≡◌, ◌+◌, ◌<◌, ◌++◌, ◌∷◌, [], List, None, Some, Ok, Err, arith, refl, rules, subst, sym}
use Rattle.ir_trees.specs.Syntax.Nodes.{tree_at}
use Rattle.ir_trees.specs.Syntax.Trees.{Forest}
use Rattle.ir_trees.specs.Syntax.Words.{env_forest}
use Rattle.candidate_eval.specs.Derivations.Characterization.{Walk}
use Rattle.candidate_eval.proofs.Dynamic.Objects.{env-kept}
use Rattle.candidate_eval.proofs.Frontier.Weights.{less-back}
use Rattle.candidate_assembly.specs.declared.assembly.characterize.Parts.{Parts}
use Rattle.candidate_assembly.specs.Calls.Characterizing.{LeadsBelow, Walks, first_visited, parts_visited, rank_of, visited_at}
use Rattle.candidate_assembly.proofs.Rules.Characterizing.{env-later, passed-on, values-later}
use Rattle.candidate_assembly.proofs.Rules.PartsVisited.{AreVisited, fewer-below, from-first, left_of, left_of_all, one-fewer, parts-back, parts-begun, parts-below, parts-end, parts-error, parts-found, parts-next, parts-refused, parts-wide, places_left}
use Rattle.candidate_assembly.proofs.assembly.characterize.visit_parts.Goals as goal

pub loop-here-init : goal.loop-here-init
loop-here-init g c =
    let E = g.E.EvalCtxt in
    let first = c.args.ecx.now in
    let clauses = env_forest (g.E.Build.context first).trees c.args.env in
    let whole = parts_visited (E.judge (E.fixed first)) clauses (g.E.Build.context first).trees c.args.parts (E.state first) in
    let begun : AreVisited E.fixed E.probes g.E.Build.context E.state E.stops E.judge clauses first whole [] c.args.parts first = parts-begun E.fixed E.probes g.E.Build.context E.state E.stops E.judge clauses first whole c.args.parts c.requires.parts refl in
    subst (λ (ps : List Parts). AreVisited E.fixed E.probes g.E.Build.context E.state E.stops E.judge clauses first whole ps c.args.parts first) (sym c.new-waiting.ensures.items) begun

pub returns-then-here : goal.returns-then-here
returns-then-here g c =
    let E = g.E.EvalCtxt in
    let first = c.args.ecx.now in
    let clauses = env_forest (g.E.Build.context first).trees c.args.env in
    let whole = parts_visited (E.judge (E.fixed first)) clauses (g.E.Build.context first).trees c.args.parts (E.state first) in
    parts-wide E.fixed E.probes g.E.Build.context E.state E.stops E.judge clauses first whole c.loop-here.waiting.items c.loop-here.here c.loop-here.ecx c.loop-here.invariant (omega (arith, c.if-here.true))

pub visit_first-requires-clause-env : goal.visit_first-requires-clause-env
visit_first-requires-clause-env g c =
    let E = g.E.EvalCtxt in
    let first = c.args.ecx.now in
    let clauses = env_forest (g.E.Build.context first).trees c.args.env in
    let whole = parts_visited (E.judge (E.fixed first)) clauses (g.E.Build.context first).trees c.args.parts (E.state first) in
    env-later c.args.env (from-first E.fixed E.probes g.E.Build.context E.state E.stops E.judge clauses first whole c.loop-here.invariant).grows c.requires.env

pub visit_first-requires-clause-values : goal.visit_first-requires-clause-values
visit_first-requires-clause-values g c =
    let E = g.E.EvalCtxt in
    let here = c.loop-here.invariant in
    values-later E.fixed E.probes g.E.Build.context E.state E.stops c.loop-here.here.values here.kept here.parts.values

pub returns-in_err-visited : goal.returns-in_err-visited
returns-in_err-visited g c =
    let E = g.E.EvalCtxt in
    let first = c.args.ecx.now in
    let clauses = env_forest (g.E.Build.context first).trees c.args.env in
    let whole = parts_visited (E.judge (E.fixed first)) clauses (g.E.Build.context first).trees c.args.parts (E.state first) in
    let now = c.loop-here.ecx in
    let parts = c.loop-here.here in
    let kept = from-first E.fixed E.probes g.E.Build.context E.state E.stops E.judge clauses first whole c.loop-here.invariant in
    let same : env_forest (g.E.Build.context now).trees c.args.env ≡ clauses = (env-kept _ _ c.args.env kept.grows c.requires.env).1 in
    let visited : Forest → Walk = λ e. first_visited (visited_at (E.judge (E.fixed now)) e parts.nesting.types parts.nesting.constants) (g.E.Build.context now).trees parts.values (E.state now) (tree_at (g.E.Build.context now).trees c.in-Some.child) in
    let x = c.in_err-visited.field-0.0 in
    passed-on E.fixed E.probes g.E.Build.context E.state E.stops x c.from_residual.result c.from_residual.ensures.1
    (parts-error E.fixed E.probes g.E.Build.context E.state E.stops E.judge clauses first whole c.loop-here.waiting.items c.loop-here.here c.loop-here.ecx c.loop-here.invariant
    c.cx.result.now c.in-Some.child c.cx.ensures c.in-Some.ensures.1 c.visit_first.new.ecx x
    (subst (λ (e : Forest). Walks E.fixed E.probes g.E.Build.context E.state E.stops now c.visit_first.new.ecx (visited e) (Err x)) same c.in_err-visited.ensures))

pub loop-here-preserved-in-Nothing : goal.loop-here-preserved-in-Nothing
loop-here-preserved-in-Nothing g c =
    let E = g.E.EvalCtxt in
    let first = c.args.ecx.now in
    let clauses = env_forest (g.E.Build.context first).trees c.args.env in
    let whole = parts_visited (E.judge (E.fixed first)) clauses (g.E.Build.context first).trees c.args.parts (E.state first) in
    let now = c.loop-here.ecx in
    let parts = c.loop-here.here in
    let kept = from-first E.fixed E.probes g.E.Build.context E.state E.stops E.judge clauses first whole c.loop-here.invariant in
    let same : env_forest (g.E.Build.context now).trees c.args.env ≡ clauses = (env-kept _ _ c.args.env kept.grows c.requires.env).1 in
    let visited : Forest → Walk = λ e. first_visited (visited_at (E.judge (E.fixed now)) e parts.nesting.types parts.nesting.constants) (g.E.Build.context now).trees parts.values (E.state now) (tree_at (g.E.Build.context now).trees c.in-Some.child) in
    let told = rw c.in-Nothing.is at c.in_ok-visited.ensures in
    parts-next E.fixed E.probes g.E.Build.context E.state E.stops E.judge clauses first whole c.loop-here.waiting.items c.loop-here.here c.loop-here.ecx c.loop-here.invariant
    c.cx.result.now c.in-Some.child c.cx.ensures c.in-Some.ensures.1 c.visit_first.new.ecx
    (subst (λ (e : Forest). Walks E.fixed E.probes g.E.Build.context E.state E.stops now c.visit_first.new.ecx (visited e) (Ok None)) same told)

pub returns-in-Found : goal.returns-in-Found
returns-in-Found g c =
    let E = g.E.EvalCtxt in
    let first = c.args.ecx.now in
    let clauses = env_forest (g.E.Build.context first).trees c.args.env in
    let whole = parts_visited (E.judge (E.fixed first)) clauses (g.E.Build.context first).trees c.args.parts (E.state first) in
    let now = c.loop-here.ecx in
    let parts = c.loop-here.here in
    let kept = from-first E.fixed E.probes g.E.Build.context E.state E.stops E.judge clauses first whole c.loop-here.invariant in
    let same : env_forest (g.E.Build.context now).trees c.args.env ≡ clauses = (env-kept _ _ c.args.env kept.grows c.requires.env).1 in
    let visited : Forest → Walk = λ e. first_visited (visited_at (E.judge (E.fixed now)) e parts.nesting.types parts.nesting.constants) (g.E.Build.context now).trees parts.values (E.state now) (tree_at (g.E.Build.context now).trees c.in-Some.child) in
    let told = rw c.in-Found.is at c.in_ok-visited.ensures in
    parts-found E.fixed E.probes g.E.Build.context E.state E.stops E.judge clauses first whole c.loop-here.waiting.items c.loop-here.here c.loop-here.ecx c.loop-here.invariant
    c.cx.result.now c.in-Some.child c.cx.ensures c.in-Some.ensures.1 c.visit_first.new.ecx c.in-Found.certainty
    (subst (λ (e : Forest). Walks E.fixed E.probes g.E.Build.context E.state E.stops now c.visit_first.new.ecx (visited e) (Ok (Some c.in-Found.certainty))) same told)

pub returns-then-is_err : goal.returns-then-is_err
returns-then-is_err g c =
    let E = g.E.EvalCtxt in
    let first = c.args.ecx.now in
    let clauses = env_forest (g.E.Build.context first).trees c.args.env in
    let whole = parts_visited (E.judge (E.fixed first)) clauses (g.E.Build.context first).trees c.args.parts (E.state first) in
    let now = c.loop-here.ecx in
    let parts = c.loop-here.here in
    let kept = from-first E.fixed E.probes g.E.Build.context E.state E.stops E.judge clauses first whole c.loop-here.invariant in
    let same : env_forest (g.E.Build.context now).trees c.args.env ≡ clauses = (env-kept _ _ c.args.env kept.grows c.requires.env).1 in
    let visited : Forest → Walk = λ e. first_visited (visited_at (E.judge (E.fixed now)) e parts.nesting.types parts.nesting.constants) (g.E.Build.context now).trees parts.values (E.state now) (tree_at (g.E.Build.context now).trees c.in-Some.child) in
    let told = rw c.in-Below.is at c.in_ok-visited.ensures in
    let q = c.in-Below.below in
    parts-refused E.fixed E.probes g.E.Build.context E.state E.stops E.judge clauses first whole c.loop-here.waiting.items c.loop-here.here c.loop-here.ecx c.loop-here.invariant
    c.cx.result.now c.in-Some.child c.cx.ensures c.in-Some.ensures.1 c.visit_first.new.ecx (rank_of parts) q
    (subst (λ (e : Forest). LeadsBelow E.fixed E.probes g.E.Build.context E.state E.stops E.judge e (rank_of parts) now c.visit_first.new.ecx (visited e) q) same told)

pub loop-here-preserved-in-Below : goal.loop-here-preserved-in-Below
loop-here-preserved-in-Below g c =
    let E = g.E.EvalCtxt in
    let first = c.args.ecx.now in
    let clauses = env_forest (g.E.Build.context first).trees c.args.env in
    let whole = parts_visited (E.judge (E.fixed first)) clauses (g.E.Build.context first).trees c.args.parts (E.state first) in
    let now = c.loop-here.ecx in
    let parts = c.loop-here.here in
    let kept = from-first E.fixed E.probes g.E.Build.context E.state E.stops E.judge clauses first whole c.loop-here.invariant in
    let same : env_forest (g.E.Build.context now).trees c.args.env ≡ clauses = (env-kept _ _ c.args.env kept.grows c.requires.env).1 in
    let visited : Forest → Walk = λ e. first_visited (visited_at (E.judge (E.fixed now)) e parts.nesting.types parts.nesting.constants) (g.E.Build.context now).trees parts.values (E.state now) (tree_at (g.E.Build.context now).trees c.in-Some.child) in
    let told = rw c.in-Below.is at c.in_ok-visited.ensures in
    let q = c.in-Below.below in
    let others : Parts = record parts { place = parts.place + 1 } in
    let pushed : c.push.new.self.items ≡ c.loop-here.waiting.items ++ others ∷ [] = search rules in
    subst (λ (ps : List Parts). AreVisited E.fixed E.probes g.E.Build.context E.state E.stops E.judge clauses first whole ps q c.visit_first.new.ecx) (sym pushed)
    (parts-below E.fixed E.probes g.E.Build.context E.state E.stops E.judge clauses first whole c.loop-here.waiting.items c.loop-here.here c.loop-here.ecx c.loop-here.invariant
    c.cx.result.now c.in-Some.child c.cx.ensures c.in-Some.ensures.1 c.visit_first.new.ecx (rank_of parts) q
    (subst (λ (e : Forest). LeadsBelow E.fixed E.probes g.E.Build.context E.state E.stops E.judge e (rank_of parts) now c.visit_first.new.ecx (visited e) q) same told))

pub returns-in_default-pop : goal.returns-in_default-pop
returns-in_default-pop g c =
    let E = g.E.EvalCtxt in
    let first = c.args.ecx.now in
    let clauses = env_forest (g.E.Build.context first).trees c.args.env in
    let whole = parts_visited (E.judge (E.fixed first)) clauses (g.E.Build.context first).trees c.args.parts (E.state first) in
    parts-end E.fixed E.probes g.E.Build.context E.state E.stops E.judge clauses first whole c.loop-here.waiting.items c.loop-here.here c.loop-here.ecx c.loop-here.invariant c.cx.result.now c.cx.ensures c.in_default.ensures (search rules)

pub loop-here-preserved : goal.loop-here-preserved
loop-here-preserved g c =
    let E = g.E.EvalCtxt in
    let first = c.args.ecx.now in
    let clauses = env_forest (g.E.Build.context first).trees c.args.env in
    let whole = parts_visited (E.judge (E.fixed first)) clauses (g.E.Build.context first).trees c.args.parts (E.state first) in
    parts-back E.fixed E.probes g.E.Build.context E.state E.stops E.judge clauses first whole c.loop-here.waiting.items c.loop-here.here c.loop-here.ecx c.loop-here.invariant c.cx.result.now c.cx.ensures c.in_default.ensures c.pop.new.self.items c.in-Some-pop.next (search rules)

pub loop-here-smaller-in-Nothing : goal.loop-here-smaller-in-Nothing
loop-here-smaller-in-Nothing g c = one-fewer c.loop-here.waiting.items c.loop-here.here (omega (arith, c.if-here.false))

pub loop-here-smaller-in-Below : goal.loop-here-smaller-in-Below
loop-here-smaller-in-Below g c =
    let told = rw c.in-Below.is at c.in_ok-visited.ensures in
    let parts = c.loop-here.here in
    let others : Parts = record parts { place = parts.place + 1 } in
    let pushed : c.push.new.self.items ≡ c.loop-here.waiting.items ++ others ∷ [] = search rules in
    subst (λ (ps : List Parts). left_of c.in-Below.below + left_of_all ps < left_of parts + left_of_all c.loop-here.waiting.items) (sym pushed)
    (fewer-below c.loop-here.waiting.items parts c.in-Below.below (omega (arith, c.if-here.false)) told.less)

pub loop-here-smaller : goal.loop-here-smaller
loop-here-smaller g c = less-back places_left rank_of c.loop-here.waiting.items c.pop.new.self.items c.loop-here.here c.in-Some-pop.next (search rules)
