use Rattle.std.proofs.Common.{◌≡◌, ◌++◌, ◌∷◌, true, [], refl, sym, ◌∙◌, ap, subst, arith}
use Rattle.ir_trees.specs.Syntax.Trees.{ArgumentsKind}
use Rattle.ir_trees.proofs.Syntax.Lists.{below_kind}
use Rattle.candidate_rounds.specs.declared.rounds.equating.Frame.{Frame}
use Rattle.candidate_rounds.specs.Calls.Frames.{AreFrames, pairs_of}
use Rattle.candidate_rounds.proofs.Stops.EquatingStops.{question, each-stop}
use Rattle.ir_trees.specs.Syntax.Words.{args_forest}
use Rattle.candidate_rounds.specs.Evaluators.Known.{listing, state}
use Rattle.candidate_rounds.specs.Evaluators.Stopping.{IsEquationStop, IsUnifyingStop, begun, not_begun}
use Rattle.candidate_rounds.proofs.rounds.Rounds.equate_below.Goals as goal

pub unify-requires : goal.unify-requires
unify-requires c =
    let ts = c.args.self.now.context.trees in
    let left = below_kind ts c.args.a.0 ArgumentsKind refl c.requires.left in
    let right = below_kind ts c.args.b.0 ArgumentsKind refl c.requires.right in
    let frame : Frame = record { left = c.args.a.0; right = c.args.b.0; place = 0; binders = 0; are_lists = true } in
    let frames : c.push.new.self.frames.items ≡ frame ∷ [] = c.in_ok-push.ensures.frames ∙ ap (λ fs. fs ++ frame ∷ []) c.new-rest.ensures.frames in
    let first : AreFrames ts [] (frame ∷ []) = (((left, right, λ e. (c.requires.left, c.requires.right)), tt), (omega arith, tt)) in
    subst (λ us. AreFrames ts us c.push.new.self.frames.items) (sym (c.push.ensures.universes ∙ c.new-rest.ensures.universes)) (subst (AreFrames ts []) (sym frames) first)

pub returns-in_err-push-clause-cause : goal.returns-in_err-push-clause-cause
returns-in_err-push-clause-cause c =
    let old = c.args.self.now in
    let a = args_forest old.context.trees c.args.a in
    let b = args_forest old.context.trees c.args.b in
    question _ c.from_residual.result _ c.from_residual.ensures.1
    (subst (λ s. IsEquationStop old.context.trees (listing old) (state old) a b s) (sym c.in_err-push.ensures.cause) not_begun)

pub returns-clause-cause : goal.returns-clause-cause
returns-clause-cause c =
    let old = c.args.self.now in
    let ts = old.context.trees in
    let frame : Frame = record { left = c.args.a.0; right = c.args.b.0; place = 0; binders = 0; are_lists = true } in
    let frames : c.push.new.self.frames.items ≡ frame ∷ [] = c.in_ok-push.ensures.frames ∙ ap (λ fs. fs ++ frame ∷ []) c.new-rest.ensures.frames in
    let universes = c.push.ensures.universes ∙ c.new-rest.ensures.universes in
    let all = ap (λ us. pairs_of ts us c.push.new.self.frames.items) universes ∙ ap (pairs_of ts []) frames in
    each-stop _ _ c.unify.result (λ s k. begun (subst (λ ps. IsUnifyingStop c.unify.new.self.context.trees (listing old) s (state old) ps) all k)) c.unify.ensures.cause
