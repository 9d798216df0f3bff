-- The response where a projection is rigid, from one call to the next.
use Rattle.std.proofs.Common.{◌≡◌, ◌∙◌, ap, sym, subst, Option, Some, List, Result, Ok, Err, IfOk, refl, [], ◌∷◌}
use Rattle.std.specs.Prelude.{⊤}
use Rattle.std.specs.Borrow.{MutBor}
use Rattle.std.specs.Fn.{Once}
use Rattle.ir_trees.specs.declared.ir.kinds.AliasKind.{AliasKind}
use Rattle.ir_trees.specs.declared.ir.kinds.AliasKind.TheVariants as AK
use Rattle.ir_trees.specs.declared.ir.kinds.ParamEnv.{ParamEnv}
use Rattle.ir_trees.specs.declared.ir.kinds.TyKind.TheVariants as TK
use Rattle.ir_trees.specs.declared.ir.stop.Stop.{Stop}
use Rattle.ir_trees.specs.Declarations.Context.{Context, Grows, world}
use Rattle.ir_trees.specs.Declarations.Worlds.{AssociatedTypeSort, joined, kinds_of, parameters}
use Rattle.ir_trees.specs.Syntax.Trees.{TypeKind}
use Rattle.ir_trees.specs.Syntax.Words.{args_forest, env_forest, kind_tree, ty_tree}
use Rattle.candidate_eval.specs.declared.eval.refusal.NoSolutionOrStop.{NoSolutionOrStop}
use Rattle.candidate_eval.specs.declared.eval.refusal.NoSolutionOrStop.TheVariants as N
use Rattle.candidate_eval.specs.declared.eval.response.CanonicalResponse.{CanonicalResponse}
use Rattle.candidate_eval.specs.Interface.Accounts.{Account, StopsSomehow}
use Rattle.candidate_eval.specs.Interface.Evaluators.{Keeps}
use Rattle.candidate_eval.specs.Outcomes.ResponseTrees.{IsResponse, response_of}
use Rattle.candidate_eval.specs.Outcomes.Responses.{Response}
use Rattle.candidate_eval.specs.Judges.States.{Judge, State}
use Rattle.candidate_eval.proofs.Interface.Accounts.{reaches, somehow-later}
use Rattle.candidate_eval.proofs.Interface.Probing.{then}
use Rattle.candidate_eval.proofs.Outcomes.Responding.{response-fits, response-kept}
use Rattle.candidate_assembly.specs.Answers.MergedKinds.{Answers}
use Rattle.candidate_assembly.specs.Calls.AliasChains.{IsBoundedAlias}
use Rattle.candidate_assembly.specs.Goals.KindShown.{IsGoal}
use Rattle.candidate_assembly.proofs.Calls.Causes.{caused, so-err, so-ok}
use Rattle.projection_goals.specs.declared.kind.NormalizesTo.{NormalizesTo}
use Rattle.projection_goals.specs.Equations.{equal_by}
use Rattle.projection_goals.specs.Normalizing.{normalizes_kind}
use Rattle.projection_goals.specs.NormalizingLaws.{alike-takes, takes-alike}
use Rattle.projection_goals.proofs.Changing.{fit-here}

-- The projection of a goal is a type.
pub bounded-alias : (c : Context) (env : ParamEnv) (p : NormalizesTo) → IsGoal normalizes_kind c env p → p.alias.kind ≡ AK.Projection → IsBoundedAlias c p.alias
bounded-alias c env p h k = of p.alias.kind k
  where
    takes : joined (Some (TypeKind ∷ [])) (parameters (world c) AssociatedTypeSort p.alias.id.0) ≡ Some (kinds_of (args_forest c.trees p.alias.args))
    takes = ap (joined (Some (TypeKind ∷ []))) (alike-takes _ _ (takes-alike c p.alias.id.0 _ h.fit)) ∙ fit-here c env p h

    of : (kind : AliasKind) → kind ≡ AK.Projection → IsBoundedAlias c (record { kind = kind; id = p.alias.id; args = p.alias.args })
    of AK.Projection e = record { args = h.arguments; fit = takes; has = refl }
    of _ e = absurd cc

module _ {E X : Type 0} {fixed : E → X} {judge : X → Judge} {state : E → State} {probes : E → List State} {context : E → Context} {stops : Account E} where
  -- a stop before anything is answered
  pub answers-stopped : (old new : E) (r : Result CanonicalResponse NoSolutionOrStop) (s : Stop) (o : Option Response) → r ≡ Err (N.Stop s) → Keeps fixed probes context old new
      → (judge (fixed old)).alike (state old) (state new) → StopsSomehow fixed context state stops old new s → Answers fixed judge state probes context stops old new o r
  answers-stopped old new r s o is kept alike cause =
      subst (λ (x : Result CanonicalResponse NoSolutionOrStop). Answers fixed judge state probes context stops old new o x) (sym is)
      (record { kept = kept; alike = alike; fits = tt; ok = tt; refused = λ n. absurd cc; cause = cause })

  -- an answer at an evaluator that has what the first one has is one there
  pub answers-later : (old mid new : E) (r : Result CanonicalResponse NoSolutionOrStop) (o u : Option Response) → Keeps fixed probes context old mid → state mid ≡ state old → u ≡ o
      → Answers fixed judge state probes context stops mid new u r → Answers fixed judge state probes context stops old new o r
  answers-later old mid new r o u kept same is a = record {
    kept = then kept a.kept;
    alike = subst (λ (x : X). (judge x).alike (state old) (state new)) kept.fixed_same (subst (λ (S : State). (judge (fixed mid)).alike S (state new)) same a.alike);
    fits = a.fits;
    ok = so-ok r (λ x e. sym is ∙ e) a.ok;
    refused = so-err r (λ e f n. sym is ∙ f n) a.refused;
    cause = caused r (λ s x. somehow-later (reaches kept) x) a.cause;
  }

-- a response stays where the context grows
pub fits-later : (old new : Context) (r : Result CanonicalResponse NoSolutionOrStop) → Grows old new → IfOk r (λ x. IsResponse old.trees x) → IfOk r (λ x. IsResponse new.trees x)
fits-later old new r grows f = so-ok r (λ x h. response-fits old new x grows h) f

pub responds-later : (old new : Context) (r : Result CanonicalResponse NoSolutionOrStop) (o : Option Response) → Grows old new → IfOk r (λ x. IsResponse old.trees x) → IfOk r (λ x. o ≡ Some (response_of old.trees x))
    → IfOk r (λ x. o ≡ Some (response_of new.trees x))
responds-later old new (Ok x) o grows f e = e ∙ ap Some (sym (response-kept old new x grows f))
responds-later old new (Err e) o grows f i = tt

-- What the closure says that answers as where a projection is rigid, by the parts of what an evaluator shows.

module _ {E X : Type 0} (fixed : E → X) (judge : X → Judge) (state : E → State) (probes : E → List State) (context : E → Context) (stops : Account E) (env : ParamEnv) (p : NormalizesTo) where
  abbrev pub rigid-at : E → Option Response
  rigid-at x = let ts = (context x).trees in equal_by (judge (fixed x)) (state x) (env_forest ts env) (ty_tree ts p.term) (kind_tree ts (TK.Alias p.alias))

  abbrev pub rigid-closure : Once (Unit {0}) (MutBor E × Unit {0}) (Result CanonicalResponse NoSolutionOrStop × (MutBor E × Unit {0}))
  rigid-closure = record { pre = λ f a. ⊤; post = λ f a b. Answers fixed judge state probes context stops a.0.now b.1.0.now (rigid-at a.0.now) b.0 }
