use Rattle.std.proofs.Common.{rules, ◌≡◌, false, refl, sym, ap, subst, ◌∙◌}
use Rattle.ir_trees.specs.Declarations.Context.{Context}
use Rattle.ir_trees.specs.Syntax.Trees.{Tree, is_param, tree_holds}
use Rattle.ir_trees.specs.Syntax.Words.{IsTy, ty_tree}
use Rattle.ir_trees.proofs.Growth.Kept.{ty-kept}
use Rattle.candidate_eval.specs.declared.eval.source.CandidateSource.TheVariants.{Impl}
use Rattle.candidate_eval.specs.Outcomes.Certainties.{AMBIGUOUS, certainty_and}
use Rattle.candidate_eval.specs.Derivations.Judging.{judged, run, start}
use Rattle.candidate_eval.specs.Interface.Evaluators.{Keeps}
use Rattle.candidate_assembly.specs.Goals.Kinds.{self_type}
use Rattle.candidate_assembly.specs.Rules.Opaques.{open_impl_rule, responded_if_general}
use Rattle.candidate_assembly.specs.Answers.Telling.{Told}
use Rattle.candidate_assembly.proofs.Calls.Quieting.{any-kept, quiet-kept, tried-quiet-with}
use Rattle.candidate_assembly.proofs.Opaques.OpaqueRules.{general-as-step, general-at, tree-free}
use Rattle.candidate_assembly.proofs.assembly.opaques.consider_blanket_impl.Goals as goal

pub consider_impl_candidate-requires-clause-callable : goal.consider_impl_candidate-requires-clause-callable
consider_impl_candidate-requires-clause-callable g c =
    let E = g.E.EvalCtxt in
    let context = g.E.Build.context in
    let old = context c.args.ecx.now in
    let self = c.self_ty-self_ty.result in
    let sort : IsTy old.trees self = subst (λ (x : Context). IsTy x.trees self) c.cx.ensures c.self_ty-self_ty.ensures.sort in
    record {
      may = λ x a k p e. subst (λ z. IsTy (context z).trees self) (sym e) (ty-kept old (context x) self k.grows sort).0;
      keeps = λ x a r y k is.
          let kept : Keeps E.fixed E.probes context x y = search rules in
          any-kept kept;
      cause = λ x a r y k is. search rules;
    }

pub returns : goal.returns
returns g c =
    let E = g.E.EvalCtxt in
    let K = g.G.GoalKind in
    let context = g.E.Build.context in
    let first = c.args.ecx.now in
    let old = context first in
    let J = E.judge (E.fixed first) in
    let S = E.state first in
    let seen = K.kind.seen old.trees c.args.env c.args.predicate in
    let part = K.kind.rules.impl_part old S.mode seen c.args.of in
    let self = c.self_ty-self_ty.result in
    let t = ty_tree old.trees self in
    let sure = certainty_and part.certainty AMBIGUOUS in
    let sort : IsTy old.trees self = subst (λ (x : Context). IsTy x.trees self) c.cx.ensures c.self_ty-self_ty.ensures.sort in
    let is : t ≡ self_type K.kind.rules old seen = subst (λ (x : Context). ty_tree x.trees self ≡ self_type K.kind.rules x (K.kind.seen x.trees c.args.env c.args.predicate)) c.cx.ensures c.self_ty-self_ty.ensures.tree in
    let free : tree_holds is_param t ≡ false
    = ap (tree_holds is_param) is ∙ tree-free (self_type K.kind.rules old seen) (g.met.G.GoalKind.laws.change.self_type_holds is_param old seen refl c.requires.goal.no_parameter) in
    let call = c.consider_impl_candidate in
    let told = call.ensures.told (responded_if_general J t sure) (record {
      at = λ x r y same called.
          general-at E.fixed E.judge E.state context first called.shown.now x called.left.now y self sure r called.shows called.leaves same.fixed_same (ty-kept old (context x) self same.grows sort).1 called.met.1.1.0;
    }) in
    record {
      kept = quiet-kept call.ensures.kept
          (tried-quiet-with part.certainty (run J (K.kind.rules.env_of seen) (start S) part.steps) first call.result call.new.ecx
          (λ x r y keeps met.
          let kept : Keeps E.fixed E.probes context x y = search rules in
          kept.faults)
          call.ensures.tried);
      alike = call.ensures.alike;
      told = subst (λ j. Told (context call.new.ecx).trees call.result j)
          (general-as-step J S (K.kind.rules.env_of seen) (Impl c.args.of) part t sure free ∙ ap (λ (u : Tree). judged J S (open_impl_rule (K.kind.rules.env_of seen) c.args.of u part)) is) told;
      cause = call.ensures.cause;
    }
