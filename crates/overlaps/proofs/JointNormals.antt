-- What normalising a projection says of it, by earlier contexts.
use Rattle.std.proofs.Common.{◌≡◌, ◌++◌, ◌∷◌, [], ℕ, List, true, Option, Some, None, Result, Ok, Err, IfOk, IfErr, refl, sym, ap, subst, ◌∙◌}
use Rattle.std.specs.Prelude.{IfSome}
use Rattle.ir_trees.specs.declared.ir.kinds.AliasKind.TheVariants as AK
use Rattle.ir_trees.specs.declared.ir.kinds.AliasTy.{AliasTy}
use Rattle.ir_trees.specs.declared.ir.kinds.Clause.{Clause}
use Rattle.ir_trees.specs.declared.ir.kinds.GenericArg.TheVariants as GA
use Rattle.ir_trees.specs.declared.ir.kinds.ParamEnv.{ParamEnv}
use Rattle.ir_trees.specs.declared.ir.kinds.TraitPredicate.{TraitPredicate}
use Rattle.ir_trees.specs.declared.ir.kinds.Ty.{Ty}
use Rattle.ir_trees.specs.declared.ir.kinds.TyKind.TheVariants as K
use Rattle.ir_trees.specs.declared.ir.node.Node.TheVariants as N
use Rattle.ir_trees.specs.declared.ir.stop.Stop.{Stop}
use Rattle.ir_trees.specs.Declarations.Context.{Context, Grows, world}
use Rattle.ir_trees.specs.Declarations.References.{Takes}
use Rattle.ir_trees.specs.Declarations.Worlds.{World, alias_kinds, kinds_of}
use Rattle.ir_trees.specs.Syntax.Nodes.{node_tree}
use Rattle.ir_trees.specs.Syntax.Trees.{Forest, Tree, is_alias, none as no_trees}
use Rattle.ir_trees.specs.Syntax.Words.{IsArgs, IsClause, IsParamEnv, IsTy, KindFits, args_forest, clause_tree, env_forest, kind_tree, ty_tree}
use Rattle.ir_trees.specs.Unification.Substitutions.{alone}
use Rattle.ir_trees.proofs.Growth.Kept.{args-kept, grows-refl, grows-trans, ty-kept, world-kept}
use Rattle.ir_context.proofs.Instantiation.Declared.{alias_fits}
use Rattle.ir_folds.proofs.Instantiation.Joining.{clause-kept}
use Rattle.ir_trees.proofs.Syntax.Lists.{node_tree-append}
use Rattle.candidate_eval.specs.declared.eval.certainty.Certainty.TheVariants.{Yes}
use Rattle.candidate_eval.specs.declared.eval.response.CanonicalResponse.{CanonicalResponse}
use Rattle.candidate_eval.specs.Derivations.ImplRules.{TraitGoal}
use Rattle.candidate_eval.specs.Interface.Evaluators.{HasTree, accepted, arguments_accepted}
use Rattle.candidate_eval.specs.Judges.States.{Env, State}
use Rattle.candidate_eval.specs.Outcomes.ResponseTrees.{response_of}
use Rattle.candidate_eval.proofs.Dynamic.Objects.{env-kept}
use Rattle.candidate_assembly.specs.Goals.KindShown.{IsGoal, trait_kind}
use Rattle.candidate_assembly.specs.Goals.TraitGoals.{trait_goal}
use Rattle.candidate_assembly.specs.Rules.Opaques.{with_type_for}
use Rattle.candidate_assembly.proofs.Calls.Keeping.{trait-goal-kept, trait-goal-says}
use Rattle.candidate_rounds.specs.Evaluators.Interface.{Fixed, Rest, fixed, judge_of, rest}
use Rattle.candidate_rounds.specs.Evaluators.Known.{Each, Evaluator, listing, state, sure_of, table_of}
use Rattle.candidate_rounds.specs.Table.Normalized.{IsNormalized}
use Rattle.candidate_rounds.specs.Table.Normalizing.{IsProjection, goal_of_trait, trait_predicate}
use Rattle.candidate_rounds.specs.Table.Projected.{with_normal}
use Rattle.candidate_rounds.proofs.Snapshots.Knowing.{each-append}
use Rattle.rounds_judge.specs.Aliases.Listed.{Listing}
use Rattle.rounds_judge.specs.Table.GoalTable.{may_be_asked}
use Rattle.rounds_judge.specs.Table.Keys.{key_at}
use Rattle.overlaps.proofs.Jointly.{obligations-there, one-there, typed-left}
use Rattle.overlaps.proofs.Staying.{known-made, known-then}
use Rattle.overlaps.proofs.Stopping.{later-known, later-steps, later-then, step-stop}
use Rattle.overlaps.specs.Apart.{aside}
use Rattle.overlaps.specs.PartTraits.{HaveVariable, RestsOnPart}
use Rattle.overlaps.specs.Refused.{StaysBesideKnown, StaysBesideSteps}
use Rattle.overlaps.specs.Stopping.{IsLater, IsOverlapStop, step_normalizing}
use Rattle.overlaps.specs.Together.{AreLeft, CameOf, HasYes, IsGivenAs, IsNormalAt, IsNormalUnder, IsObligation, IsOfProjection, IsProjectedAs, IsProjectionType, Obligation, StandsIn, gives_at, next_type, pending_at, pendings_at, with_type}
use Rattle.overlaps.specs.declared.together.ProjectionType.{ProjectionType}
use Rattle.overlaps.specs.declared.together.ProjectionType.TheVariants as P
use Rattle.candidate_rounds.specs.declared.rounds.effort.Effort.{Effort}

pub alias-args : (ts : List Tree) (a : AliasTy) → KindFits ts (K.Alias a) → IsArgs ts a.args
alias-args ts a f = cc

pub alias-tree-kept : (old new : Context) (a : AliasTy) → Grows old new → KindFits old.trees (K.Alias a) → kind_tree new.trees (K.Alias a) ≡ kind_tree old.trees (K.Alias a)
alias-tree-kept old new a g f = ap (λ (ts : List Tree). node_tree ts (N.Ty (K.Alias a))) g.kept.is ∙ node_tree-append old.trees g.kept.added (N.Ty (K.Alias a)) f

pub projection-goal-kept : (old new : Context) (e : ParamEnv) (a : AliasTy) → Grows old new → IsParamEnv old.trees e → IsArgs old.trees a.args → goal_of_trait new e a ≡ goal_of_trait old e a
projection-goal-kept old new e a g x y =
    let p : trait_predicate new a ≡ trait_predicate old a = ap (λ (c : Context). trait_predicate c a) g.same in
    ap (trait_goal new.trees e) p ∙ (trait-goal-says old new e (trait_predicate old a) g x y).seen

listed-later : {r s : Evaluator} → IsLater r s → listing s ≡ listing r
listed-later l = ap (λ (f : Fixed). f.listing) l.fixed_same

-- A sure response that came of normalising the projection says what it is.
pub normal-at : (old mid : Evaluator) (env : ParamEnv) (a : AliasTy) (response : CanonicalResponse) (known : Option State) → StaysBesideSteps old mid → IsParamEnv old.context.trees env
    → KindFits old.context.trees (K.Alias a) → CameOf old mid env a response → response.certainty ≡ Yes → gives_at mid env a response ≡ known
    → IsNormalUnder old (state old) (env_forest old.context.trees env) (kind_tree old.context.trees (K.Alias a)) known
normal-at old mid env a response known stays env-fits fits came sure gives =
    let by = came.by in
    let g = came.later.grows in
    let args = alias-args old.context.trees a fits in
    let l : listing mid ≡ listing by = listed-later (later-steps stays) ∙ sym (listed-later came.later) in
    let q : goal_of_trait mid.context env a ≡ goal_of_trait by.context env a
    = projection-goal-kept old.context mid.context env a stays.grows env-fits args ∙ sym (projection-goal-kept old.context by.context env a g env-fits args) in
    let s = stays.state_same in
    record {
      by = by;
      later = came.later;
      stands = came.stands;
      env = env;
      under = (env-kept old.context by.context env g env-fits).1;
      alias = a;
      is = alias-tree-kept old.context by.context a g fits;
      effort = came.effort;
      table = table_of mid;
      trees = mid.context.trees;
      response = response;
      trait_holds = subst (λ (S : State). HasYes (sure_of by) (key_at S (goal_of_trait by.context env a))) came.stands came.trait_holds;
      comes = came.comes;
      sure = sure;
      of_instances = came.of_instances;
      gives = subst (λ (x : Listing × State × TraitGoal). with_normal x.0 x.1 x.2 (response_of mid.context.trees response) ≡ known) (λ i. (l i, s i, q i)) gives;
    }

predicate-kept : (c d : Context) (a : AliasTy) → Grows c d → trait_predicate d a ≡ trait_predicate c a
predicate-kept c d a g = ap (λ (y : Context). trait_predicate y a) g.same

-- A projection stays one.
pub projection-kept : (c d : Context) (e : ParamEnv) (a : AliasTy) → Grows c d → IsProjection c e a → IsProjection d e a
projection-kept c d e a g h =
    let args = args-kept c d a.args g h.goal.arguments in
    record {
      projection = h.projection;
      fits = ap (λ (w : World). alias_kinds w a.kind a.id.0) (world-kept c d g).0 ∙ (h.fits ∙ ap (λ (ts : Forest). Some (kinds_of ts)) (sym args.1));
      goal = subst (IsGoal trait_kind d e) (sym (predicate-kept c d a g)) (trait-goal-kept c d e (trait_predicate c a) g h.goal).0;
    }

-- It is one where its arguments fit and its trait's goal is one.
pub projection-later : (c d : Context) (e : ParamEnv) (a : AliasTy) (p : TraitPredicate) → Grows c d → KindFits c.trees (K.Alias a) → a.kind ≡ AK.Projection → Takes (world c) (kind_tree c.trees (K.Alias a))
    → p ≡ trait_predicate c a → IsGoal trait_kind d e p → IsProjection d e a
projection-later c d e a p g fits is takes by goal =
    let sort = alias-args c.trees a fits in
    let args = args-kept c d a.args g sort in
    record {
      projection = is;
      fits = ap (λ (w : World). alias_kinds w a.kind a.id.0) (world-kept c d g).0 ∙ (alias_fits c a sort takes ∙ ap (λ (ts : Forest). Some (kinds_of ts)) (sym args.1));
      goal = subst (IsGoal trait_kind d e) (by ∙ sym (predicate-kept c d a g)) goal;
    }

-- that its trait's goal may be asked
pub asked-later : (c d : Context) (S : State) (e : ParamEnv) (a : AliasTy) (p : TraitPredicate) → Grows c d → p ≡ trait_predicate c a → may_be_asked (key_at S (trait_goal d.trees e p)) ≡ true
    → may_be_asked (key_at S (goal_of_trait d e a)) ≡ true
asked-later c d S e a p g by h = subst (λ (q : TraitPredicate). may_be_asked (key_at S (trait_goal d.trees e q)) ≡ true) (by ∙ sym (predicate-kept c d a g)) h

-- The key of its trait's goal is the same later on, where the state stays.
pub trait-key-later : (r s : Evaluator) (old : Context) (e : ParamEnv) (a : AliasTy) (p : TraitPredicate) → StaysBesideSteps r s → Grows old s.context → p ≡ trait_predicate old a
    → IsGoal trait_kind r.context e p → key_at (state r) (trait_goal r.context.trees e p) ≡ key_at (state s) (goal_of_trait s.context e a)
trait-key-later r s old e a p stays grows by h =
    let goal : trait_goal r.context.trees e p ≡ goal_of_trait s.context e a
    = sym (trait-goal-kept r.context s.context e p stays.grows h).1 ∙ ap (λ (q : TraitPredicate). trait_goal s.context.trees e q) (by ∙ sym (predicate-kept old s.context a grows)) in
    let stands = stays.state_same in
    λ i. key_at (sym stands i) (goal i)

-- What normalising it answers, and why it stops.

pub came-of : (old by new : Evaluator) (e : ParamEnv) (a : AliasTy) (n : Effort) (r : Result (Option CanonicalResponse) Stop) → StaysBesideSteps old by
    → HasYes (sure_of by) (key_at (state by) (goal_of_trait by.context e a)) → IsOfProjection by.context e a → IsNormalized new.context.trees by e a n (table_of new) r
    → IfOk r (λ o. IfSome o (CameOf old new e a))
came-of old by new e a n (Ok (Some x)) stays holds is h = record { by = by; later = later-steps stays; stands = stays.state_same; effort = n; trait_holds = holds; comes = h; of_instances = is }
came-of old by new e a n (Ok None) stays holds is h = tt
came-of old by new e a n (Err s) stays holds is h = tt

-- What was asked of the projection's trait.
pub of-projection : (c d : Context) (e : ParamEnv) (a : AliasTy) (p : TraitPredicate) → Grows c d → p ≡ trait_predicate c a
    → (HaveVariable (args_forest d.trees p.trait_ref.args) → RestsOnPart d p.trait_ref.def_id → ⊥) → IsOfProjection d e a
of-projection c d e a p g is never = λ some.
    let same : p ≡ trait_predicate d a = is ∙ sym (predicate-kept c d a g) in
    record {
      later = d;
      grows = grows-refl d;
      never = subst (λ (q : TraitPredicate). HaveVariable (args_forest d.trees q.trait_ref.args) → RestsOnPart d q.trait_ref.def_id → ⊥) same never some;
    }

pub normalizing-stop : (old by new : Evaluator) (e : ParamEnv) (a : AliasTy) (n : Effort) (r : Result (Option CanonicalResponse) Stop) → IsLater old by
    → Grows by.context new.context → IsProjection by.context e a → IsNormalized new.context.trees by e a n (table_of new) r → IfErr r (IsOverlapStop old new)
normalizing-stop old by new e a n (Ok o) l g p h = tt
normalizing-stop old by new e a n (Err s) l g p h = step-stop l (step_normalizing e a n g.kept p h)

pub still-projection : (c d : Context) (e : ParamEnv) (a : AliasTy) (r : Result (Option CanonicalResponse) Stop) → Grows c d → IsProjection c e a → IfOk r (λ o. IfSome o (λ _. IsProjection d e a))
still-projection c d e a (Ok (Some x)) g h = projection-kept c d e a g h
still-projection c d e a (Ok None) g h = tt
still-projection c d e a (Err s) g h = tt

-- What a response says of it that is given.
pub projected-as : (old mid new : Evaluator) (env : ParamEnv) (a : AliasTy) (response : CanonicalResponse) → StaysBesideSteps old mid → IsParamEnv old.context.trees env
    → KindFits old.context.trees (K.Alias a) → CameOf old mid env a response → (t : ProjectionType) → IsGivenAs mid new env a response t
    → IsProjectedAs old new (env_forest old.context.trees env) (kind_tree old.context.trees (K.Alias a)) t
projected-as old mid new env a response stays fits alias came P.Open h = h ∙ stays.state_same
projected-as old mid new env a response stays fits alias came P.Impossible h = normal-at old mid env a response None stays fits alias came h.0 h.1
projected-as old mid new env a response stays fits alias came (P.Type t) h =
    (normal-at old mid env a response (Some (state new)) stays fits alias came h.0 h.1, subst (λ (S : State). HasTree new.context.trees t (next_type S)) stays.state_same h.2)

-- A goal whose projection has its type
module _ (old mid : Evaluator) (g : Obligation) (type : Ty) (a : AliasTy) (stays : StaysBesideKnown old mid) (fit : IsObligation old.context.trees g) (is : IsProjectionType old.context.trees type a) where
  pub alias-here : is_alias (ty_tree mid.context.trees type).head ≡ true
  alias-here = subst (λ (t : Tree). is_alias t.head ≡ true) (is.is ∙ sym (ty-kept old.context mid.context type stays.grows is.sort).1) refl

  pub typed-goal : (made : Evaluator) (ty : Ty) (x : Clause) → Grows mid.context made.context → HasTree mid.context.trees ty (next_type (state old)) → IsClause made.context.trees x
      → clause_tree made.context.trees x ≡ with_type_for (ty_tree mid.context.trees type) (ty_tree mid.context.trees ty) (clause_tree mid.context.trees g.1.predicate)
      → IsObligation made.context.trees (g.0, record { param_env = g.1.param_env; predicate = x })
      × (pending_at made (g.0, record { param_env = g.1.param_env; predicate = x }) ≡ with_type (ty_tree old.context.trees type) (next_type (state old)) (pending_at old g))
  typed-goal made ty x grows has sort tree =
      let env = env-kept old.context made.context g.1.param_env (grows-trans old.context mid.context made.context stays.grows grows) fit.0 in
      let one = (ty-kept old.context mid.context type stays.grows is.sort).1 in
      let clause = (clause-kept old.context mid.context g.1.predicate stays.grows fit.1).1 in
      let e : clause_tree made.context.trees x ≡ with_type_for (ty_tree old.context.trees type) (next_type (state old)) (clause_tree old.context.trees g.1.predicate)
      = tree ∙ (λ i. with_type_for (one i) (has.1 i) (clause i)) in
      ((env.0, sort), λ i. record { source = g.0; goal = record { env = env.1 i; clause = e i } })

  module _ (made : Evaluator) (ty : Ty) (x : Clause) (before pushed : List Obligation) (grows : Grows mid.context made.context) (same : rest made ≡ rest mid)
      (normal : IsNormalAt old (state old) (kind_tree old.context.trees (K.Alias a)) (Some (state mid)) × HasTree mid.context.trees ty (next_type (state old)))
      (sort : IsClause made.context.trees x)
      (tree : clause_tree made.context.trees x ≡ with_type_for (ty_tree mid.context.trees type) (ty_tree mid.context.trees ty) (clause_tree mid.context.trees g.1.predicate))
      (b : Each (IsObligation old.context.trees) before) (push : pushed ≡ before ++ (g.0, record { param_env = g.1.param_env; predicate = x }) ∷ []) where
    -- the goals with it are goals
    pub pushed-fit : Each (IsObligation made.context.trees) pushed
    pushed-fit =
        let h : Obligation = (g.0, record { param_env = g.1.param_env; predicate = x }) in
        let l : IsLater old made = later-known (known-then stays (known-made grows same)) in
        subst (Each (IsObligation made.context.trees)) (sym push) (each-append (IsObligation made.context.trees) before h (obligations-there old made before l b) (typed-goal made ty x grows normal.1 sort tree).0)

    -- and they are left, with what giving the type left
    pub put-left : (new : Evaluator) (after : List Obligation) → IsLater made new → StandsIn (ty_tree old.context.trees type) (alone (clause_tree old.context.trees g.1.predicate)) → state new ≡ aside (state made)
        → Each (IsObligation new.context.trees) after → pendings_at new after ≡ pendings_at new pushed ++ (state made).pending → AreLeft old new g before after
    put-left new after l stands aside-then fits left =
        let h : Obligation = (g.0, record { param_env = g.1.param_env; predicate = x }) in
        let s : state made ≡ state mid = ap (λ (r : Rest). r.state) same in
        let typed = typed-goal made ty x grows normal.1 sort tree in
        let later : IsLater old new = later-then (later-known (known-then stays (known-made grows same))) l in
        let n = subst (λ (t : Tree). IsNormalAt old (state old) t (Some (state mid))) is.is normal.0 in
        typed-left old mid new g h before after (ty_tree old.context.trees type) later stands n (aside-then ∙ ap (λ (S : State). aside S) s) (one-there made new h l typed.0 ∙ typed.1) b fits
        (left ∙ (λ i. pendings_at new (push i) ++ (s i).pending))

-- What is said of the variable for its type and of a term, by the trees before.

pub equal-under : (old at : Evaluator) (env : ParamEnv) (ty term : Ty) (o : Option State) → Grows old.context at.context → IsParamEnv old.context.trees env
    → HasTree at.context.trees ty (next_type (state old)) → IsTy old.context.trees term
    → arguments_accepted (judge_of (fixed at)) (state at) at.context.trees env (GA.Ty ty) (GA.Ty term) ≡ o
    → accepted (judge_of (fixed at)) (state at) (env_forest old.context.trees env) (alone (next_type (state old))) (alone (ty_tree old.context.trees term)) ≡ o
equal-under old at env ty term o g fits has sort h =
    let e = (env-kept old.context at.context env g fits).1 in
    let t = (ty-kept old.context at.context term g sort).1 in
    subst (λ (q : Env × Tree × Tree). accepted (judge_of (fixed at)) (state at) q.0 (alone q.1) (alone q.2) ≡ o) (λ i. (e i, has.1 i, t i)) h

pub equal-as : (old at : Evaluator) (env : ParamEnv) (ty term : Ty) (o : Option State) → Grows old.context at.context → IsParamEnv old.context.trees env → env_forest old.context.trees env ≡ no_trees
    → HasTree at.context.trees ty (next_type (state old)) → IsTy old.context.trees term
    → arguments_accepted (judge_of (fixed at)) (state at) at.context.trees env (GA.Ty ty) (GA.Ty term) ≡ o
    → accepted (judge_of (fixed at)) (state at) no_trees (alone (next_type (state old))) (alone (ty_tree old.context.trees term)) ≡ o
equal-as old at env ty term o g fits empty has sort h =
    subst (λ (e : Env). accepted (judge_of (fixed at)) (state at) e (alone (next_type (state old))) (alone (ty_tree old.context.trees term)) ≡ o) empty (equal-under old at env ty term o g fits has sort h)
