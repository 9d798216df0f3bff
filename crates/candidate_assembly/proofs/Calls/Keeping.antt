-- What stays while a context grows, in probes and from one call to the next.
use Rattle.std.proofs.Common.{◌≡◌, true, refl, sym, ap, subst, ◌∙◌, [], ◌∷◌, Some, Result, Ok, Err, IfErr, List}
use Rattle.ir_trees.specs.declared.ir.heads.Head.{Head}
use Rattle.ir_trees.specs.declared.ir.kinds.Args.{Args}
use Rattle.ir_trees.specs.declared.ir.kinds.ParamEnv.{ParamEnv}
use Rattle.ir_trees.specs.declared.ir.kinds.TraitPredicate.{TraitPredicate}
use Rattle.ir_trees.specs.declared.ir.kinds.Ty.{Ty}
use Rattle.ir_trees.specs.declared.ir.stop.Stop.{Stop}
use Rattle.ir_trees.specs.Syntax.Binders.{escapes}
use Rattle.ir_trees.specs.Declarations.Context.{Context, Grows, world}
use Rattle.ir_trees.specs.Declarations.Contents.{Contents}
use Rattle.ir_trees.specs.Syntax.Trees.{TypeKind, Forest, Tree, holds, is_param}
use Rattle.ir_trees.specs.Syntax.Words.{IsArgs, IsParamEnv, args_forest, env_forest}
use Rattle.ir_trees.specs.Declarations.Worlds.{Reference, World, TraitSort, joined, kinds_of, parameters}
use Rattle.ir_trees.proofs.Growth.Kept.{args-kept, grows-trans, world-kept}
use Rattle.candidate_eval.specs.declared.eval.certainty.Certainty.{Certainty}
use Rattle.candidate_eval.specs.declared.eval.refusal.NoSolutionOrStop.{NoSolutionOrStop}
use Rattle.candidate_eval.specs.declared.eval.response.Candidate.{Candidate}
use Rattle.candidate_eval.specs.declared.eval.response.CanonicalResponse.{CanonicalResponse}
use Rattle.candidate_eval.specs.Interface.Accounts.{Account, Question, Reaches, StopsSomehow, by_stop}
use Rattle.candidate_eval.specs.Interface.Accounts.StopsSomehow.{asking}
use Rattle.candidate_eval.specs.Interface.Evaluators.{IsEvaluatorStop, Keeps, NoFault}
use Rattle.candidate_eval.specs.Derivations.ImplRules.{TraitGoal}
use Rattle.candidate_eval.specs.Derivations.Judging.{judged}
use Rattle.candidate_eval.specs.Interface.Knowing.{is_evaluator_stop}
use Rattle.candidate_eval.specs.Derivations.Rules.{Rule}
use Rattle.candidate_eval.specs.Judges.States.{Env, Judge, State}
use Rattle.candidate_eval.proofs.Interface.Accounts.{accounted-here, by-stop, somehow-later, somehow-within}
use Rattle.candidate_eval.proofs.Dynamic.Objects.{env-kept}
use Rattle.candidate_eval.proofs.Interface.Probing.{alike-probe, keeps-probe}
use Rattle.candidate_eval.proofs.Builtins.Types.{types_kept}
use Rattle.candidate_assembly.specs.Answers.Closures.{KeepsIn, Responds}
use Rattle.candidate_assembly.specs.Goals.Kinds.{IsGoal, KindRules, SaysTheSame}
use Rattle.candidate_assembly.specs.Answers.Telling.{Considers, StopsOfItself, Told}
use Rattle.candidate_assembly.specs.Goals.TraitGoals.{arguments_held, fits, trait_goal, types_held}
use Rattle.candidate_assembly.specs.Goals.TraitRules.{trait_rules}
use Rattle.candidate_assembly.proofs.Calls.Stepping.{somehow-own, told-kept}

-- Goals.

-- a goal that says the same is a goal still
pub goal-kept : {G P : Type 0} {K : KindRules G} {arguments : P → Args} {types : P → List Ty} {seen : List Tree → ParamEnv → P → G} {old new : Context} {env : ParamEnv} {p : P} → Grows old new
    → SaysTheSame K seen old new env p → IsGoal K arguments types seen old env p → IsGoal K arguments types seen new env p
goal-kept {K = K} {arguments = arguments} {types = types} {seen = seen} {old = old} {new = new} {env = env} {p = p} grows s h =
    let reference : K.reference_of new (seen new.trees env p) ≡ K.reference_of old (seen old.trees env p) = ap (K.reference_of new) s.seen ∙ s.reference in
    record {
      env = (env-kept old new env grows h.env).0;
      arguments = (args-kept old new (arguments p) grows h.arguments).0;
      types = (types_kept old.trees new.trees (types p) grows.kept h.types).0;
      fit = ap (λ (w : World). joined (Some (TypeKind ∷ [])) (parameters w TraitSort (K.reference_of new (seen new.trees env p)).trait)) (world-kept old new grows).0
          ∙ (ap (λ (r : Reference). joined (Some (TypeKind ∷ [])) (parameters (world old) TraitSort r.trait)) reference
          ∙ (h.fit ∙ ap (λ (r : Reference). Some (kinds_of r.arguments)) (sym reference)));
      no_parameter = ap (λ g. holds is_param (K.trees_of g)) s.seen ∙ h.no_parameter;
      is_closed = ap (λ g. escapes 0 (K.trees_of g)) s.seen ∙ h.is_closed;
    }

abbrev goal-with : TraitPredicate → Env → Forest → TraitGoal
goal-with p e a = record { env = e; reference = record { trait = p.trait_ref.def_id.0; arguments = a }; polarity = p.polarity }

same-fits : (old new : Context) (g : TraitGoal) → new.contents ≡ old.contents → (h : Head) → fits new g h ≡ fits old g h
same-fits old new g e h = ap (λ (x : Contents). fits (record old { contents = x }) g h) e

pub trait-goal-says : (old new : Context) (env : ParamEnv) (p : TraitPredicate) → Grows old new → IsParamEnv old.trees env → IsArgs old.trees p.trait_ref.args → SaysTheSame trait_rules trait_goal old new env p
trait-goal-says old new env p grows e a = record {
  seen = ap (λ z. goal-with p z (args_forest new.trees p.trait_ref.args)) (env-kept old new env grows e).1 ∙ ap (goal-with p (env_forest old.trees env)) (args-kept old new p.trait_ref.args grows a).1;
  reference = refl;
  fits = same-fits old new (trait_goal old.trees env p) (ap (λ (c : Context). c.contents) grows.same);
}

pub trait-goal-kept : (old new : Context) (env : ParamEnv) (p : TraitPredicate) → Grows old new → IsGoal trait_rules arguments_held types_held trait_goal old env p
    → IsGoal trait_rules arguments_held types_held trait_goal new env p × (trait_goal new.trees env p ≡ trait_goal old.trees env p)
trait-goal-kept old new env p grows h =
    let s = trait-goal-says old new env p grows h.env h.arguments in
    (goal-kept grows s h, s.seen)

-- Calls.

module _ {E X : Type 0} {fixed : E → X} {probes : E → List State} {context : E → Context} where
  -- An evaluator that keeps what a later one has keeps what the first one had, but for the open probes.
  pub keeps-in : {old began x : E} {S : State} → fixed began ≡ fixed old → probes began ≡ S ∷ probes old → Grows (context old) (context began)
      → KeepsIn fixed probes context began (probes began) x → KeepsIn fixed probes context old (S ∷ probes old) x
  keeps-in {old} {began} {x} f p g k = record { fixed_same = k.fixed_same ∙ f; probes_are = k.probes_are ∙ p; grows = grows-trans (context old) (context began) (context x) g k.grows }

  -- What a call keeps, with the probes that were open before it.
  pub keeps-open : {old x : E} → Keeps fixed probes context old x → KeepsIn fixed probes context old (probes old) x
  keeps-open k = record { fixed_same = k.fixed_same; probes_are = k.probes_same; grows = k.grows }

-- The evaluator's own stops, and those of later calls.
module _ {E X : Type 0} (fixed : E → X) (context : E → Context) (state : E → State) (stops : Account E) where
  pub itself-here : {a b : E} {A : Type 0} (r : Result A NoSolutionOrStop) (q : Question) → Reaches fixed context a b → IfErr r (by_stop (stops b (state a) q))
      → IfErr r (by_stop (StopsOfItself fixed context state stops a b))
  itself-here (Ok x) q t h = tt
  itself-here (Err e) q t h = by-stop e (λ s x own. asking (accounted-here q t x)) h

  pub itself-later : {a b : E} (l : E) {A : Type 0} (r : Result A NoSolutionOrStop) → Reaches fixed context a b → IfErr r (by_stop (StopsOfItself fixed context state stops b l))
      → IfErr r (by_stop (StopsOfItself fixed context state stops a l))
  itself-later l (Ok x) t h = tt
  itself-later l (Err e) t h = by-stop e (λ s x own. somehow-later t (x own)) h

  pub itself-within : {a b l m : E} {A : Type 0} (r : Result A NoSolutionOrStop) → Reaches fixed context a b → IfErr r (by_stop (StopsOfItself fixed context state stops b l)) → Reaches fixed context l m
      → IfErr r (by_stop (StopsOfItself fixed context state stops a m))
  itself-within (Ok x) t h u = tt
  itself-within (Err e) t h u = by-stop e (λ s x own. somehow-within t (x own) u) h

  pub somehow-itself : (a l : E) (e : NoSolutionOrStop) → by_stop (StopsSomehow fixed context state stops a l) e → by_stop (StopsOfItself fixed context state stops a l) e
  somehow-itself a l e h = by-stop e (λ s x own. x) h

  pub somehow-is-own : (a l : E) (itself : (x : E) (S : State) (q : Question) (s : Stop) → stops x S q s → IsEvaluatorStop s) (e : NoSolutionOrStop) → by_stop (StopsSomehow fixed context state stops a l) e
      → by_stop (λ s. is_evaluator_stop s ≡ true) e
  somehow-is-own a l itself e h = by-stop e (somehow-own itself) h

-- A closure that asks for the response answers what the first judge says, where it was called with an evaluator that keeps what is fixed.
pub responds-at : {E X : Type 0} (fixed : E → X) (judge : X → Judge) (state : E → State) (context : E → Context) (first shown x left y : E) (c : Certainty) (r : Result CanonicalResponse NoSolutionOrStop)
    → shown ≡ x → left ≡ y → fixed x ≡ fixed first → Responds (context left).trees r ((judge (fixed shown)).responded (state shown) c) → Responds (context y).trees r ((judge (fixed first)).responded (state x) c)
responds-at fixed judge state context first shown x left y c r shows leaves same h =
    subst (λ z. Responds (context z).trees r ((judge (fixed first)).responded (state x) c)) leaves
    (subst (λ f. Responds (context left).trees r ((judge f).responded (state x) c)) same (subst (λ z. Responds (context left).trees r ((judge (fixed z)).responded (state z) c)) shows h))

-- A rule in a probe: what is told of it is told at the state at which the probe began, with the rule as it is there.
module _ {E X : Type 0} (fixed : E → X) (judge : X → Judge) (state : E → State) (probes : E → List State) (context : E → Context) (stops : Account E) where
  pub in-probe : (old began ran new : E) (r s : Rule) (x : Result Candidate NoSolutionOrStop)
      → fixed began ≡ fixed old → state began ≡ state old → probes began ≡ state old ∷ probes old → Grows (context old) (context began) → NoFault (context old) (context began)
      → Keeps fixed probes context began ran → fixed new ≡ fixed ran → Grows (context ran) (context new) → NoFault (context ran) (context new)
      → ((T : State) (others : List State) → probes ran ≡ T ∷ others → probes new ≡ others)
      → ((T : State) (others : List State) → probes ran ≡ T ∷ others → (judge (fixed ran)).alike T (state new))
      → s ≡ r → Told (context ran).trees x (judged (judge (fixed began)) (state began) s) → IfErr x (by_stop (StopsOfItself fixed context state stops began ran))
      → Considers fixed judge state probes context stops old new r x
  in-probe old began ran new r s x f same p g n k ends grows m left closed is told cause = record {
    kept = keeps-probe fixed probes context old began ran new (state old) f g n p k ends grows m left;
    alike = alike-probe fixed probes judge state old began ran new f p k.fixed_same k.probes_same closed;
    told = told-kept (context ran) (context new) x (judged (judge (fixed old)) (state old) r) grows
        (subst (λ j. Told (context ran).trees x j) (ap (λ z. judged (judge z) (state began) s) f ∙ (ap (λ z. judged (judge (fixed old)) z s) same ∙ ap (judged (judge (fixed old)) (state old)) is)) told);
    cause = itself-within fixed context state stops x (record { same = f; grows = g }) cause (record { same = ends; grows = grows });
  }
