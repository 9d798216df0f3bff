use Rattle.std.proofs.Common.{◌≡◌, ◌+◌, ◌<◌, List, [], ◌∷◌, ◌++◌, None, Result, Err, arith, refl, sym, ◌∙◌, ap, subst, rules}
use Rattle.std.proofs.lemmas.Result.{err_from_is_err_and}
use Rattle.ir_trees.specs.Declarations.Context.{Context}
use Rattle.ir_trees.specs.Syntax.Words.{IsArgs, args_forest}
use Rattle.ir_trees.proofs.Growth.Kept.{args-kept}
use Rattle.candidate_eval.specs.declared.coherence.walk.EarlyExit.{EarlyExit}
use Rattle.candidate_eval.specs.declared.coherence.walk.Pending.{Pending}
use Rattle.candidate_eval.specs.declared.coherence.walk.Walk.{Walk}
use Rattle.candidate_eval.specs.Calls.Visits.{Visits, the_list}
use Rattle.candidate_eval.proofs.Frontier.ListVisits.{may-visit-next}
use Rattle.candidate_eval.proofs.Frontier.Lists.{type-at}
use Rattle.candidate_eval.proofs.Frontier.Loops.{index-below}
use Rattle.candidate_eval.proofs.Frontier.Waiting.{AreVisitedWithin, within-first, within-all, within-back, within-skipped, within-visited, within-broken, within-below, within-refused, left_of, left_of_all, one-fewer, fewer-below, members_left, levels_left}
use Rattle.candidate_eval.proofs.Frontier.Weights.{less-back}
use Rattle.candidate_eval.proofs.coherence.walk.visit_args.Goals as goal

pub loop-list-init : goal.loop-list-init
loop-list-init g c =
    let W : g.row.F.Denot → g.row.C.Denot → Walk → Result (Unit {0}) (EarlyExit g.row.E.Denot) → Type 0 =
    λ f i w r. Visits g.C.Build.context g.C.InferCtxtLike.seen g.C.InferCtxtLike.resolved g.F.FnMut (the_list (args_forest (g.C.Build.context c.args.infcx.now).trees c.args.args)) c.args.levels c.args.normalize.now c.args.infcx.now c.args.walk.now f i w r in
    let P : Pending → Type 0 = λ p. AreVisitedWithin g.C.Build.context g.C.InferCtxtLike.seen g.C.InferCtxtLike.resolved g.F.FnMut W [] p c.args.normalize.now c.args.infcx.now c.args.walk.now in
    let begun : AreVisitedWithin g.C.Build.context g.C.InferCtxtLike.seen g.C.InferCtxtLike.resolved g.F.FnMut W [] _ c.args.normalize.now c.args.infcx.now c.args.walk.now =
    within-first g.C.Build.context g.C.InferCtxtLike.seen g.C.InferCtxtLike.resolved g.F.FnMut W c.args.normalize.now c.args.infcx.now c.args.walk.now c.args.args c.args.levels _ c.requires.may c.requires.args refl (λ f i w r v. v) in
    let Q : List Pending → Type 0 = λ ps. AreVisitedWithin g.C.Build.context g.C.InferCtxtLike.seen g.C.InferCtxtLike.resolved g.F.FnMut W ps c.all-list.result c.args.normalize.now c.args.infcx.now c.args.walk.now in
    subst Q (sym c.new-outer.ensures.items) (subst P (sym (rw c.cx.ensures at c.all-list.ensures.is)) begun)

pub args-requires : goal.args-requires
args-requires g c =
    let here = c.loop-list.invariant in
    let P : Context → Type 0 = λ x. IsArgs x.trees c.loop-list.list.args in
    subst P (sym c.cx-then-list.ensures) (args-kept _ _ c.loop-list.list.args here.visited.grows here.sort).0

pub bounds-args-list : goal.bounds-args-list
bounds-args-list g c =
    let ensures = rw c.cx-then-list.ensures at c.args-then-list.ensures in
    let here = c.loop-list.invariant in
    let below = index-below (g.C.Build.context here.c0) (g.C.Build.context c.loop-list.infcx) c.loop-list.list.args c.args-then-list.result.now c.loop-list.list.next _
    here.visited.grows here.sort ensures.fits ensures.tree here.end_is c.if-list.true in
    below

pub visit_type-requires-clause-ty : goal.visit_type-requires-clause-ty
visit_type-requires-clause-ty g c =
    let ensures = rw c.cx-then-list.ensures at c.args-then-list.ensures in
    let here = c.loop-list.invariant in
    let below = index-below (g.C.Build.context here.c0) (g.C.Build.context c.loop-list.infcx) c.loop-list.list.args c.args-then-list.result.now c.loop-list.list.next _
    here.visited.grows here.sort ensures.fits ensures.tree here.end_is c.if-list.true in
    (type-at (g.C.Build.context c.loop-list.infcx).trees c.args-then-list.result.now c.loop-list.list.next _ c.in-Ty.ty ensures.fits below c.in-Ty.is).0

pub visit_type-requires-clause-may : goal.visit_type-requires-clause-may
visit_type-requires-clause-may g c =
    let here = c.loop-list.invariant in
    may-visit-next g.C.Build.context g.C.InferCtxtLike.seen g.C.InferCtxtLike.resolved g.F.FnMut c.loop-list.list.levels c.loop-list.list.args here.f0 here.c0 here.start here.may
    c.loop-list.list.next c.loop-list.normalize c.loop-list.infcx c.loop-list.walk here.visited

pub returns-in_err-down : goal.returns-in_err-down
returns-in_err-down g c =
    let ensures = rw c.cx-then-list.ensures at c.args-then-list.ensures in
    let here = c.loop-list.invariant in
    let below = index-below (g.C.Build.context here.c0) (g.C.Build.context c.loop-list.infcx) c.loop-list.list.args c.args-then-list.result.now c.loop-list.list.next _
    here.visited.grows here.sort ensures.fits ensures.tree here.end_is c.if-list.true in
    let W : g.row.F.Denot → g.row.C.Denot → Walk → Result (Unit {0}) (EarlyExit g.row.E.Denot) → Type 0 =
    λ f i w r. Visits g.C.Build.context g.C.InferCtxtLike.seen g.C.InferCtxtLike.resolved g.F.FnMut (the_list (args_forest (g.C.Build.context c.args.infcx.now).trees c.args.args)) c.args.levels c.args.normalize.now c.args.infcx.now c.args.walk.now f i w r in
    let p = err_from_is_err_and c.from_residual.result c.from_residual.ensures.1 in
    subst (λ (r : Result (Unit {0}) (EarlyExit g.row.E.Denot)). W c.visit_type.new.normalize c.visit_type.new.infcx c.visit_type.new.walk r) (sym (p.1 ∙ ap Err p.2))
    (within-broken g.C.Build.context g.C.InferCtxtLike.seen g.C.InferCtxtLike.resolved g.F.FnMut W c.loop-list.outer.items c.loop-list.list c.loop-list.normalize c.loop-list.infcx c.loop-list.walk c.loop-list.invariant
    c.if-list.true c.args-then-list.result.now _ ensures.fits ensures.tree below c.in-Ty.ty c.in-Ty.is c.visit_type.new.normalize c.visit_type.new.infcx c.visit_type.new.walk c.in_err-down.field-0.0 c.in_err-down.ensures)

pub returns-then-is_err : goal.returns-then-is_err
returns-then-is_err g c =
    let ensures = rw c.cx-then-list.ensures at c.args-then-list.ensures in
    let here = c.loop-list.invariant in
    let below = index-below (g.C.Build.context here.c0) (g.C.Build.context c.loop-list.infcx) c.loop-list.list.args c.args-then-list.result.now c.loop-list.list.next _
    here.visited.grows here.sort ensures.fits ensures.tree here.end_is c.if-list.true in
    let W : g.row.F.Denot → g.row.C.Denot → Walk → Result (Unit {0}) (EarlyExit g.row.E.Denot) → Type 0 =
    λ f i w r. Visits g.C.Build.context g.C.InferCtxtLike.seen g.C.InferCtxtLike.resolved g.F.FnMut (the_list (args_forest (g.C.Build.context c.args.infcx.now).trees c.args.args)) c.args.levels c.args.normalize.now c.args.infcx.now c.args.walk.now f i w r in
    let down = rw c.in-Some.is at c.in_ok-down.ensures in
    subst (λ (w : Walk). W c.visit_type.new.normalize c.visit_type.new.infcx w _) (sym down.0)
    (within-refused g.C.Build.context g.C.InferCtxtLike.seen g.C.InferCtxtLike.resolved g.F.FnMut W c.loop-list.outer.items c.loop-list.list c.loop-list.normalize c.loop-list.infcx c.loop-list.walk c.loop-list.invariant
    c.if-list.true c.args-then-list.result.now _ ensures.fits ensures.tree below c.in-Ty.ty c.in-Ty.is c.visit_type.new.normalize c.visit_type.new.infcx c.visit_type.new.walk
    c.in-Some.args c.in-Some.levels down.1)

pub loop-list-preserved-in-Some : goal.loop-list-preserved-in-Some
loop-list-preserved-in-Some g c =
    let ensures = rw c.cx-then-list.ensures at c.args-then-list.ensures in
    let here = c.loop-list.invariant in
    let below = index-below (g.C.Build.context here.c0) (g.C.Build.context c.loop-list.infcx) c.loop-list.list.args c.args-then-list.result.now c.loop-list.list.next _
    here.visited.grows here.sort ensures.fits ensures.tree here.end_is c.if-list.true in
    let W : g.row.F.Denot → g.row.C.Denot → Walk → Result (Unit {0}) (EarlyExit g.row.E.Denot) → Type 0 =
    λ f i w r. Visits g.C.Build.context g.C.InferCtxtLike.seen g.C.InferCtxtLike.resolved g.F.FnMut (the_list (args_forest (g.C.Build.context c.args.infcx.now).trees c.args.args)) c.args.levels c.args.normalize.now c.args.infcx.now c.args.walk.now f i w r in
    let down = rw c.in-Some.is at c.in_ok-down.ensures in
    let F = c.visit_type.new.normalize in
    let I = c.visit_type.new.infcx in
    let there = within-below g.C.Build.context g.C.InferCtxtLike.seen g.C.InferCtxtLike.resolved g.F.FnMut W c.loop-list.outer.items c.loop-list.list c.loop-list.normalize c.loop-list.infcx c.loop-list.walk c.loop-list.invariant
    c.if-list.true c.args-then-list.result.now _ ensures.fits ensures.tree below c.in-Ty.ty c.in-Ty.is c.visit_type.new.normalize c.visit_type.new.infcx c.visit_type.new.walk
    c.in-Some.args c.in-Some.levels down.1 _ refl in
    let pushed : c.put_aside.new.outer.items ≡ c.loop-list.outer.items ++ record { args = c.loop-list.list.args; next = c.loop-list.list.next + 1; end = c.loop-list.list.end; levels = c.loop-list.list.levels } ∷ [] = search rules in
    subst (λ (w : Walk). AreVisitedWithin g.C.Build.context g.C.InferCtxtLike.seen g.C.InferCtxtLike.resolved g.F.FnMut W c.put_aside.new.outer.items c.all-list-in-Some.result F I w) (sym down.0)
    (subst (λ (ps : List Pending). AreVisitedWithin g.C.Build.context g.C.InferCtxtLike.seen g.C.InferCtxtLike.resolved g.F.FnMut W ps c.all-list-in-Some.result F I c.loop-list.walk) (sym pushed)
    (subst (λ (q : Pending). AreVisitedWithin g.C.Build.context g.C.InferCtxtLike.seen g.C.InferCtxtLike.resolved g.F.FnMut W (c.loop-list.outer.items ++ record { args = c.loop-list.list.args; next = c.loop-list.list.next + 1; end = c.loop-list.list.end; levels = c.loop-list.list.levels } ∷ []) q F I c.loop-list.walk) (sym (rw c.cx-in-Some.ensures at c.all-list-in-Some.ensures.is)) there))

pub loop-list-preserved-in_default-down : goal.loop-list-preserved-in_default-down
loop-list-preserved-in_default-down g c =
    let ensures = rw c.cx-then-list.ensures at c.args-then-list.ensures in
    let here = c.loop-list.invariant in
    let below = index-below (g.C.Build.context here.c0) (g.C.Build.context c.loop-list.infcx) c.loop-list.list.args c.args-then-list.result.now c.loop-list.list.next _
    here.visited.grows here.sort ensures.fits ensures.tree here.end_is c.if-list.true in
    let W : g.row.F.Denot → g.row.C.Denot → Walk → Result (Unit {0}) (EarlyExit g.row.E.Denot) → Type 0 =
    λ f i w r. Visits g.C.Build.context g.C.InferCtxtLike.seen g.C.InferCtxtLike.resolved g.F.FnMut (the_list (args_forest (g.C.Build.context c.args.infcx.now).trees c.args.args)) c.args.levels c.args.normalize.now c.args.infcx.now c.args.walk.now f i w r in
    let none : c.in_ok-down.down ≡ None = search rules in
    let down = rw none at c.in_ok-down.ensures in
    within-visited g.C.Build.context g.C.InferCtxtLike.seen g.C.InferCtxtLike.resolved g.F.FnMut W c.loop-list.outer.items c.loop-list.list c.loop-list.normalize c.loop-list.infcx c.loop-list.walk c.loop-list.invariant
    c.if-list.true c.args-then-list.result.now _ ensures.fits ensures.tree below c.in-Ty.ty c.in-Ty.is c.visit_type.new.normalize c.visit_type.new.infcx c.visit_type.new.walk down.0 down.1 down.2

pub loop-list-preserved-in_default : goal.loop-list-preserved-in_default
loop-list-preserved-in_default g c =
    let ensures = rw c.cx-then-list.ensures at c.args-then-list.ensures in
    let here = c.loop-list.invariant in
    let below = index-below (g.C.Build.context here.c0) (g.C.Build.context c.loop-list.infcx) c.loop-list.list.args c.args-then-list.result.now c.loop-list.list.next _
    here.visited.grows here.sort ensures.fits ensures.tree here.end_is c.if-list.true in
    let W : g.row.F.Denot → g.row.C.Denot → Walk → Result (Unit {0}) (EarlyExit g.row.E.Denot) → Type 0 =
    λ f i w r. Visits g.C.Build.context g.C.InferCtxtLike.seen g.C.InferCtxtLike.resolved g.F.FnMut (the_list (args_forest (g.C.Build.context c.args.infcx.now).trees c.args.args)) c.args.levels c.args.normalize.now c.args.infcx.now c.args.walk.now f i w r in
    within-skipped g.C.Build.context g.C.InferCtxtLike.seen g.C.InferCtxtLike.resolved g.F.FnMut W c.loop-list.outer.items c.loop-list.list c.loop-list.normalize c.loop-list.infcx c.loop-list.walk c.loop-list.invariant
    c.if-list.true c.args-then-list.result.now _ ensures.fits ensures.tree below c.in_default.not-Ty

pub returns-in_default-pop : goal.returns-in_default-pop
returns-in_default-pop g c =
    let W : g.row.F.Denot → g.row.C.Denot → Walk → Result (Unit {0}) (EarlyExit g.row.E.Denot) → Type 0 =
    λ f i w r. Visits g.C.Build.context g.C.InferCtxtLike.seen g.C.InferCtxtLike.resolved g.F.FnMut (the_list (args_forest (g.C.Build.context c.args.infcx.now).trees c.args.args)) c.args.levels c.args.normalize.now c.args.infcx.now c.args.walk.now f i w r in
    let here = c.loop-list.invariant in
    within-all g.C.Build.context g.C.InferCtxtLike.seen g.C.InferCtxtLike.resolved g.F.FnMut W c.loop-list.outer.items c.loop-list.list c.loop-list.normalize c.loop-list.infcx c.loop-list.walk c.loop-list.invariant (omega (arith, here.within, c.if-list.false)) (search rules)

pub loop-list-preserved : goal.loop-list-preserved
loop-list-preserved g c =
    let W : g.row.F.Denot → g.row.C.Denot → Walk → Result (Unit {0}) (EarlyExit g.row.E.Denot) → Type 0 =
    λ f i w r. Visits g.C.Build.context g.C.InferCtxtLike.seen g.C.InferCtxtLike.resolved g.F.FnMut (the_list (args_forest (g.C.Build.context c.args.infcx.now).trees c.args.args)) c.args.levels c.args.normalize.now c.args.infcx.now c.args.walk.now f i w r in
    let here = c.loop-list.invariant in
    within-back g.C.Build.context g.C.InferCtxtLike.seen g.C.InferCtxtLike.resolved g.F.FnMut W c.loop-list.outer.items c.loop-list.list c.loop-list.normalize c.loop-list.infcx c.loop-list.walk c.loop-list.invariant (omega (arith, here.within, c.if-list.false)) c.pop.new.self.items c.in-Some-pop.pending (search rules)

pub loop-list-smaller-in_default-down : goal.loop-list-smaller-in_default-down
loop-list-smaller-in_default-down g c = one-fewer c.loop-list.outer.items c.loop-list.list c.if-list.true

pub loop-list-smaller-in_default : goal.loop-list-smaller-in_default
loop-list-smaller-in_default g c = one-fewer c.loop-list.outer.items c.loop-list.list c.if-list.true

pub loop-list-smaller : goal.loop-list-smaller
loop-list-smaller g c = less-back members_left levels_left c.loop-list.outer.items c.pop.new.self.items c.loop-list.list c.in-Some-pop.pending (search rules)

pub loop-list-smaller-in-Some : goal.loop-list-smaller-in-Some
loop-list-smaller-in-Some g c =
    let down = rw c.in-Some.is at c.in_ok-down.ensures in
    let ensures = rw c.cx-in-Some.ensures at c.all-list-in-Some.ensures in
    let pushed : c.put_aside.new.outer.items ≡ c.loop-list.outer.items ++ record { args = c.loop-list.list.args; next = c.loop-list.list.next + 1; end = c.loop-list.list.end; levels = c.loop-list.list.levels } ∷ [] = search rules in
    subst (λ (ps : List Pending). left_of c.all-list-in-Some.result + left_of_all ps < left_of c.loop-list.list + left_of_all c.loop-list.outer.items) (sym pushed)
    (subst (λ (q : Pending). left_of q + left_of_all (c.loop-list.outer.items ++ record { args = c.loop-list.list.args; next = c.loop-list.list.next + 1; end = c.loop-list.list.end; levels = c.loop-list.list.levels } ∷ []) < left_of c.loop-list.list + left_of_all c.loop-list.outer.items) (sym ensures.is)
    (fewer-below c.loop-list.outer.items c.loop-list.list _ c.in-Some.levels c.in-Some.args c.if-list.true ensures.small down.1.less))

pub offset_bounds-args-list : goal.offset_bounds-args-list
offset_bounds-args-list g c =
    let ensures = rw c.cx-then-list.ensures at c.args-then-list.ensures in
    let here = c.loop-list.invariant in
    let below = index-below (g.C.Build.context here.c0) (g.C.Build.context c.loop-list.infcx) c.loop-list.list.args c.args-then-list.result.now c.loop-list.list.next _
    here.visited.grows here.sort ensures.fits ensures.tree here.end_is c.if-list.true in
    omega (arith, below, c.args-then-list.type_inv.1)
