use Rattle.std.proofs.Common.{◌≡◌, Some, slice_get, subst, sym, ◌∙◌}
use Rattle.ir_trees.specs.Declarations.Context.{Context}
use Rattle.ir_trees.specs.Instantiation.Folds.{arg_tree}
use Rattle.ir_trees.specs.Syntax.Trees.{Forest, Tree}
use Rattle.ir_trees.specs.Syntax.Words.{IsArgs, args_forest}
use Rattle.ir_trees.proofs.Growth.Kept.{args-kept}
use Rattle.candidate_eval.proofs.Dynamic.Objects.{env-kept}
use Rattle.candidate_eval.proofs.Interface.Probing.{then}
use Rattle.candidate_eval.specs.Dynamic.Required.{each_of}
use Rattle.candidate_rounds.specs.Evaluators.Interface.{Fixed, fixed, judge_of}
use Rattle.candidate_rounds.specs.Evaluators.Known.{state}
use Rattle.overlaps.specs.Negated.{MayBePlugged, no_more}
use Rattle.overlaps.proofs.Negated.{plugged-next}
use Rattle.overlaps.proofs.Staying.{keeps-refl}
use Rattle.overlaps.proofs.Stopping.{later-kept, passed-on, stop-later}
use Rattle.overlaps.specs.Stopping.{IsOverlapStop}
use Rattle.overlaps.proofs.negation.plug.Goals as goal

pub loop-place-init : goal.loop-place-init
loop-place-init c = (keeps-refl c.args.rounds.now, no_more)

pub pair_at-requires-clause-first : goal.pair_at-requires-clause-first
pair_at-requires-clause-first c = subst (λ (x : Context). IsArgs x.trees c.args.locals) (sym c.cx-in-loop-place.ensures) (args-kept _ _ c.args.locals c.loop-place.invariant.0.grows c.requires.locals).0

pub pair_at-requires-clause-second : goal.pair_at-requires-clause-second
pair_at-requires-clause-second c = subst (λ (x : Context). IsArgs x.trees c.args.placeholders) (sym c.cx-in-loop-place.ensures) (args-kept _ _ c.args.placeholders c.loop-place.invariant.0.grows c.requires.placeholders).0

pub plug_one-requires-clause-env : goal.plug_one-requires-clause-env
plug_one-requires-clause-env c = (env-kept _ _ c.args.env c.loop-place.invariant.0.grows c.requires.env).0

pub plug_one-requires-clause-empty : goal.plug_one-requires-clause-empty
plug_one-requires-clause-empty c = (env-kept _ _ c.args.env c.loop-place.invariant.0.grows c.requires.env).1 ∙ c.requires.empty

pub returns-in_err-plug_one-clause-kept : goal.returns-in_err-plug_one-clause-kept
returns-in_err-plug_one-clause-kept c = then c.loop-place.invariant.0 c.plug_one.ensures.kept

pub returns-in_err-plug_one-clause-cause : goal.returns-in_err-plug_one-clause-cause
returns-in_err-plug_one-clause-cause c = passed-on (IsOverlapStop c.args.rounds.now c.plug_one.new.rounds) c.from_residual.result c.in_err-plug_one.field-0.0 c.from_residual.ensures.1 (stop-later (later-kept c.loop-place.invariant.0) c.in_err-plug_one.ensures.cause)

pub loop-place-preserved : goal.loop-place-preserved
loop-place-preserved c =
    let old = c.args.rounds.now in
    let here = c.loop-place.rounds in
    let so = c.loop-place.invariant in
    let x : Context → Tree = λ d. arg_tree d.trees c.in-Some.local in
    let name : Context → Tree = λ d. arg_tree d.trees c.in-Some.placeholder in
    let seen = c.cx-in-loop-place.ensures in
    let l = (args-kept old.context here.context c.args.locals so.0.grows c.requires.locals).1 in
    let p = (args-kept old.context here.context c.args.placeholders so.0.grows c.requires.placeholders).1 in (
      then so.0 c.plug_one.ensures.kept,
      plugged-next (judge_of (fixed old)) (state old) (state here) (state c.plug_one.new.rounds) (args_forest old.context.trees c.args.locals) (args_forest old.context.trees c.args.placeholders) c.loop-place.place
          (x here.context) (name here.context) so.1
          (subst (λ (f : Forest). slice_get (each_of f) c.loop-place.place ≡ Some (x here.context)) l
          (subst (λ (d : Context). slice_get (each_of (args_forest d.trees c.args.locals)) c.loop-place.place ≡ Some (x d)) seen c.in-Some.ensures.one))
          (subst (λ (f : Forest). slice_get (each_of f) c.loop-place.place ≡ Some (name here.context)) p
          (subst (λ (d : Context). slice_get (each_of (args_forest d.trees c.args.placeholders)) c.loop-place.place ≡ Some (name d)) seen c.in-Some.ensures.other))
          (subst (λ (z : Fixed). MayBePlugged (judge_of z) (state here) (x here.context) (name here.context) (state c.plug_one.new.rounds)) so.0.fixed_same c.in_ok-plug_one.ensures.plugs),
    )
