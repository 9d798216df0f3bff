use Rattle.std.proofs.Common.{Ok, Err, refl, sym, ◌∙◌, ap, subst}
use Rattle.std.proofs.lemmas.Result.{err_from_is_err_and}
use Rattle.ir_trees.specs.Syntax.Words.{ty_tree}
use Rattle.candidate_eval.specs.declared.coherence.table.Shape.TheVariants as Sh
use Rattle.candidate_eval.specs.declared.coherence.walk.Walk.{Walk}
use Rattle.candidate_eval.specs.Calls.Exits.{IsTaken, broken_by}
use Rattle.candidate_eval.specs.Calls.Shapes.{IsShape}
use Rattle.candidate_eval.specs.Calls.Visits.{Visits, the_type}
use Rattle.candidate_eval.proofs.Frontier.Descent.{down-begun, down-deep, down-nothing, down-error, down-item, down-exit, down-target, down-arguments}
use Rattle.candidate_eval.proofs.coherence.walk.visit_type.Goals as goal

pub loop-left-init : goal.loop-left-init
loop-left-init g c = record {
  same = refl;
  comes = down-begun g.C.Build.context g.C.InferCtxtLike.seen g.C.InferCtxtLike.resolved g.F.FnMut c.args.normalize.now c.args.infcx.now c.args.walk.now c.args.ty c.args.levels c.requires.ty c.requires.may;
}

pub returns-in_err-view : goal.returns-in_err-view
returns-in_err-view g c =
    let p = err_from_is_err_and c.from_residual.result c.from_residual.ensures.1 in
    let there = down-nothing g.C.Build.context g.C.InferCtxtLike.seen g.C.InferCtxtLike.resolved g.F.FnMut (ty_tree (g.C.Build.context c.args.infcx.now).trees c.args.ty) c.args.levels c.args.normalize.now c.args.infcx.now c.args.walk.now
    c.loop-left.normalize c.loop-left.infcx c.loop-left.target c.loop-left.left c.loop-left.invariant.comes c.loop-left-test.true c.view_of.new.normalize c.view_of.new.infcx c.view_of.ensures.grows c.in_err-view.field-0.0 c.in_err-view.ensures.call c.in_err-view.ensures.view in
    let P : Walk → Type 0 = λ w. Visits g.C.Build.context g.C.InferCtxtLike.seen g.C.InferCtxtLike.resolved g.F.FnMut (the_type (ty_tree (g.C.Build.context c.args.infcx.now).trees c.args.ty)) c.args.levels
    c.args.normalize.now c.args.infcx.now c.args.walk.now c.view_of.new.normalize c.view_of.new.infcx w (Err (broken_by c.in_err-view.field-0.0)) in
    down-error g.C.Build.context g.C.InferCtxtLike.seen g.C.InferCtxtLike.resolved g.F.FnMut (ty_tree (g.C.Build.context c.args.infcx.now).trees c.args.ty) c.args.levels c.args.normalize.now c.args.infcx.now c.args.walk.now c.view_of.new.normalize c.view_of.new.infcx c.loop-left.walk c.from_residual.result p.0 _ p.1 p.2
    (subst P (sym c.loop-left.invariant.same) there)

pub returns-in_err-outcome-in-Item : goal.returns-in_err-outcome-in-Item
returns-in_err-outcome-in-Item g c =
    let p = err_from_is_err_and c.from_residual-in_err-outcome-in-Item.result c.from_residual-in_err-outcome-in-Item.ensures.1 in
    let same = c.loop-left.invariant.same in
    let S : Walk → Type 0 = λ w. IsShape (g.C.Build.context c.view_of.new.infcx) w.in_crate (ty_tree (g.C.Build.context c.view_of.new.infcx).trees c.in_ok-view.view) (Sh.Item c.in-Item.class) in
    let T : Walk → Type 0 = λ w. IsTaken w c.take-outcome.new.self c.in-Item.class c.in_ok-view.view (Err c.in_err-outcome-in-Item.field-0.0) in
    down-error g.C.Build.context g.C.InferCtxtLike.seen g.C.InferCtxtLike.resolved g.F.FnMut (ty_tree (g.C.Build.context c.args.infcx.now).trees c.args.ty) c.args.levels c.args.normalize.now c.args.infcx.now c.args.walk.now c.view_of.new.normalize c.view_of.new.infcx _ c.from_residual-in_err-outcome-in-Item.result p.0 _ p.1 p.2
    (down-exit g.C.Build.context g.C.InferCtxtLike.seen g.C.InferCtxtLike.resolved g.F.FnMut (ty_tree (g.C.Build.context c.args.infcx.now).trees c.args.ty) c.args.levels c.args.normalize.now c.args.infcx.now c.args.walk.now
    c.loop-left.normalize c.loop-left.infcx c.loop-left.target c.loop-left.left c.loop-left.invariant.comes c.loop-left-test.true c.view_of.new.normalize c.view_of.new.infcx c.view_of.ensures.grows c.in_ok-view.view c.in_ok-view.ensures.sort c.in_ok-view.ensures.call c.in_ok-view.ensures.view
    c.in-Item.class (subst S same (rw c.cx.ensures at c.in-Item.ensures)) c.take-outcome.new.self c.in_err-outcome-in-Item.field-0.0
    (c.take-outcome.ensures.same.in_crate ∙ ap (λ (w : Walk). w.in_crate) same) (c.take-outcome.ensures.same.seeks_local ∙ ap (λ (w : Walk). w.seeks_local) same)
    (subst T same c.in_err-outcome-in-Item.ensures.taken))

pub returns-in-Item : goal.returns-in-Item
returns-in-Item g c =
    let same = c.loop-left.invariant.same in
    let S : Walk → Type 0 = λ w. IsShape (g.C.Build.context c.view_of.new.infcx) w.in_crate (ty_tree (g.C.Build.context c.view_of.new.infcx).trees c.in_ok-view.view) (Sh.Item c.in-Item.class) in
    let T : Walk → Type 0 = λ w. IsTaken {E = g.row.E.Denot} w c.take-outcome.new.self c.in-Item.class c.in_ok-view.view (Ok tt) in
    let there = down-item g.C.Build.context g.C.InferCtxtLike.seen g.C.InferCtxtLike.resolved g.F.FnMut (ty_tree (g.C.Build.context c.args.infcx.now).trees c.args.ty) c.args.levels c.args.normalize.now c.args.infcx.now c.args.walk.now
    c.loop-left.normalize c.loop-left.infcx c.loop-left.target c.loop-left.left c.loop-left.invariant.comes c.loop-left-test.true c.view_of.new.normalize c.view_of.new.infcx c.view_of.ensures.grows c.in_ok-view.view c.in_ok-view.ensures.sort c.in_ok-view.ensures.call c.in_ok-view.ensures.view
    c.in-Item.class (subst S same (rw c.cx.ensures at c.in-Item.ensures)) c.take-outcome.new.self
    (c.take-outcome.ensures.same.in_crate ∙ ap (λ (w : Walk). w.in_crate) same) (c.take-outcome.ensures.same.seeks_local ∙ ap (λ (w : Walk). w.seeks_local) same)
    (subst T same c.in_ok-outcome-in-Item.ensures.taken) in
    (there.0, refl, there.1)

pub loop-left-preserved : goal.loop-left-preserved
loop-left-preserved g c =
    let same = c.loop-left.invariant.same in
    let S : Walk → Type 0 = λ w. IsShape (g.C.Build.context c.view_of.new.infcx) w.in_crate (ty_tree (g.C.Build.context c.view_of.new.infcx).trees c.in_ok-view.view) (Sh.Target c.in-Target.next) in
    record {
      same = same;
      comes = down-target g.C.Build.context g.C.InferCtxtLike.seen g.C.InferCtxtLike.resolved g.F.FnMut (ty_tree (g.C.Build.context c.args.infcx.now).trees c.args.ty) c.args.levels c.args.normalize.now c.args.infcx.now c.args.walk.now
          c.loop-left.normalize c.loop-left.infcx c.loop-left.target c.loop-left.left c.loop-left.invariant.comes c.loop-left-test.true c.view_of.new.normalize c.view_of.new.infcx c.view_of.ensures.grows c.in_ok-view.view c.in_ok-view.ensures.sort c.in_ok-view.ensures.call c.in_ok-view.ensures.view
          c.in-Target.next (subst S same (rw c.cx.ensures at c.in-Target.ensures));
    }

pub returns-in-Arguments : goal.returns-in-Arguments
returns-in-Arguments g c =
    let same = c.loop-left.invariant.same in
    let S : Walk → Type 0 = λ w. IsShape (g.C.Build.context c.view_of.new.infcx) w.in_crate (ty_tree (g.C.Build.context c.view_of.new.infcx).trees c.in_ok-view.view) (Sh.Arguments c.in-Arguments.args) in (
      same,
      down-arguments g.C.Build.context g.C.InferCtxtLike.seen g.C.InferCtxtLike.resolved g.F.FnMut (ty_tree (g.C.Build.context c.args.infcx.now).trees c.args.ty) c.args.levels c.args.normalize.now c.args.infcx.now c.args.walk.now
          c.loop-left.normalize c.loop-left.infcx c.loop-left.target c.loop-left.left c.loop-left.invariant.comes c.loop-left-test.true c.view_of.new.normalize c.view_of.new.infcx c.view_of.ensures.grows c.in_ok-view.view c.in_ok-view.ensures.sort c.in_ok-view.ensures.call c.in_ok-view.ensures.view
          c.in-Arguments.args (subst S same (rw c.cx.ensures at c.in-Arguments.ensures)),
    )

pub returns : goal.returns
returns g c =
    let there = down-deep g.C.Build.context g.C.InferCtxtLike.seen g.C.InferCtxtLike.resolved g.F.FnMut (ty_tree (g.C.Build.context c.args.infcx.now).trees c.args.ty) c.args.levels c.args.normalize.now c.args.infcx.now c.args.walk.now
    c.loop-left.normalize c.loop-left.infcx c.loop-left.target c.loop-left.left c.loop-left.invariant.comes c.loop-left-test.false in
    subst (λ (w : Walk). Visits g.C.Build.context g.C.InferCtxtLike.seen g.C.InferCtxtLike.resolved g.F.FnMut (the_type (ty_tree (g.C.Build.context c.args.infcx.now).trees c.args.ty)) c.args.levels
    c.args.normalize.now c.args.infcx.now c.args.walk.now c.loop-left.normalize c.loop-left.infcx w _) (sym c.loop-left.invariant.same) there
