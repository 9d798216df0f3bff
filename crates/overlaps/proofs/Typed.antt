-- Where clauses in which projections get their types, said of earlier evaluators, and of one clause after the other.
use Rattle.std.proofs.Common.{◌≡◌, ◌≤◌, ◌+◌, ◌++◌, ◌==◌, ℕ, Bool, true, List, [], ◌∷◌, Some, drop, length, map, refl, sym, ap, subst, ◌∙◌}
use Rattle.std.proofs.lemmas.List.{drop_all}
use Rattle.ir_trees.specs.declared.ir.kinds.AliasTy.{AliasTy}
use Rattle.ir_trees.specs.declared.ir.kinds.Clause.{Clause}
use Rattle.ir_trees.specs.declared.ir.kinds.Goal.{Goal}
use Rattle.ir_trees.specs.declared.ir.kinds.GoalSource.{GoalSource}
use Rattle.ir_trees.specs.declared.ir.kinds.ParamEnv.{ParamEnv}
use Rattle.ir_trees.specs.declared.ir.kinds.Ty.{Ty}
use Rattle.ir_trees.specs.declared.ir.kinds.TyKind.TheVariants as K
use Rattle.ir_trees.specs.Declarations.Context.{Context, Grows}
use Rattle.ir_trees.specs.Syntax.Trees.{Tree}
use Rattle.ir_trees.specs.Syntax.Words.{IsClause, IsParamEnv, args_forest, clause_tree, env_forest, kind_tree, ty_tree}
use Rattle.ir_trees.specs.Unification.Substitutions.{alone}
use Rattle.ir_trees.proofs.Growth.Kept.{grows-trans, ty-kept}
use Rattle.ir_folds.proofs.Instantiation.Joining.{clause-kept}
use Rattle.candidate_eval.specs.Interface.Evaluators.{HasTree, accepted, pendings_of}
use Rattle.candidate_eval.specs.Judges.States.{Env, State, resolved_tree, with_pending}
use Rattle.candidate_eval.proofs.Dynamic.Objects.{env-kept}
use Rattle.candidate_assembly.specs.Rules.Opaques.{with_type_for}
use Rattle.candidate_assembly.proofs.Opaques.OpaqueAnswers.{empty-is}
use Rattle.candidate_rounds.specs.Evaluators.Interface.{Rest, fixed, judge_of, rest}
use Rattle.candidate_rounds.specs.Evaluators.Known.{Each, Evaluator, state, sure_of}
use Rattle.candidate_rounds.specs.Table.Goals.{Via}
use Rattle.candidate_rounds.proofs.Snapshots.Knowing.{each-append}
use Rattle.rounds_judge.specs.Table.GoalTable.{GoalTable}
use Rattle.overlaps.specs.Answered.{Holds}
use Rattle.overlaps.specs.Refused.{StaysBesideKnown, StaysBesideSteps}
use Rattle.overlaps.specs.Specialized.{AreTakenUp, HoldBy, HoldsAsSaid, HoldsAt, IsFoundOfLeft, IsFoundWhereEqual, IsLeft, IsTakenUp, IsTypedAs, IsTypedBy, Left, as_it_is, clauses_with, one_is_as_said, one_is_left, one_is_typed, trees_of, what_is_left, with_its_type, with_values}
use Rattle.overlaps.specs.Stopping.{IsLater}
use Rattle.overlaps.specs.declared.opening.Opened.{Opened}
use Rattle.overlaps.specs.declared.specializing.Specialization.{Specialization}
use Rattle.overlaps.specs.declared.specializing.Specialization.TheVariants as answer
use Rattle.overlaps.specs.Together.{IsNormalUnder, IsProjectionType, SaysOfProjection, StandsIn, next_type}
use Rattle.overlaps.proofs.Jointly.{normal-earlier}
use Rattle.overlaps.proofs.PureFolder.{StaysSure, sure-then}
use Rattle.overlaps.proofs.Staying.{known-refl, known-then}
use Rattle.overlaps.proofs.Stopping.{later-known, later-then}

-- What is said of a later evaluator is so of an earlier one.

pub typed-earlier : {r s : Evaluator} {e : Env} {S T : State} {x y : Tree} → IsLater r s → IsTypedAs s e S x T y → IsTypedAs r e S x T y
typed-earlier l as_it_is = as_it_is
typed-earlier l (with_values h) = with_values (typed-earlier l h)
typed-earlier l (with_its_type p stands n quiet h) = with_its_type p stands (normal-earlier l n) quiet (typed-earlier l h)

pub typed-then : {r : Evaluator} {e : Env} {S T U : State} {x y z : Tree} → IsTypedAs r e S x T y → IsTypedAs r e T y U z → IsTypedAs r e S x U z
typed-then as_it_is k = k
typed-then (with_values h) k = with_values (typed-then h k)
typed-then (with_its_type p stands n quiet h) k = with_its_type p stands n quiet (typed-then h k)

pub hold-by-earlier : {r s : Evaluator} {e : Env} {T : GoalTable Via} {S : State} {left xs : List Tree} → IsLater r s → HoldBy s e T S left xs → HoldBy r e T S left xs
hold-by-earlier l (what_is_left all) = what_is_left all
hold-by-earlier l (one_is_left h) = one_is_left (hold-by-earlier l h)
hold-by-earlier l (one_is_typed t h) = one_is_typed (typed-earlier l t) (hold-by-earlier l h)
hold-by-earlier l (one_is_as_said p u by said n k e quiet h) = one_is_as_said p u by said (normal-earlier l n) (later-then l k) e quiet (hold-by-earlier l h)

-- Nothing was pending where no goal was taken.
pub quiet-state : (old new : Evaluator) (ts : List Tree) (goals : List (GoalSource × Goal Clause)) (b : Bool) → pendings_of ts goals ≡ (state old).pending → state new ≡ with_pending (state old) [] → b ≡ (length goals == 0) → b ≡ true
    → ((state old).pending ≡ []) × (state new ≡ state old)
quiet-state old new ts goals b are made is e =
    let none : goals ≡ [] = empty-is goals (sym is ∙ e) in
    let quiet : (state old).pending ≡ [] = sym are ∙ ap (pendings_of ts) none in
    (quiet, made ∙ ap (with_pending (state old)) (sym quiet))

-- A clause as it is, with all values put in.
pub resolved-typed : (old new : Evaluator) (e : Env) (x : Tree) (y : Clause) → state new ≡ state old → clause_tree new.context.trees y ≡ resolved_tree (state old) x → IsTypedBy old new e x y
resolved-typed old new e x y same is =
    let s = sym same in
    let t = sym is in
    with_values (subst (λ (q : State × Tree). IsTypedAs old e (state old) (resolved_tree (state old) x) q.0 q.1) (λ i. (s i, t i)) as_it_is)

pub same-typed : (old new : Evaluator) (e : Env) (x : Clause) → Grows old.context new.context → IsClause old.context.trees x → state new ≡ state old → IsTypedBy old new e (clause_tree old.context.trees x) x
same-typed old new e x g fit same =
    let s = sym same in
    let t = sym (clause-kept old.context new.context x g fit).1 in
    subst (λ (q : State × Tree). IsTypedAs old e (state old) (clause_tree old.context.trees x) q.0 q.1) (λ i. (s i, t i)) as_it_is

-- The type of a projection stands in its place, and all values are put in.
pub projection-typed : (old at q made new : Evaluator) (e : Env) (type : Ty) (a : AliasTy) (ty : Ty) (x y z : Clause) → StaysBesideKnown old at → StaysBesideKnown at q → IsClause old.context.trees x → IsProjectionType old.context.trees type a
    → StandsIn (ty_tree old.context.trees type) (alone (clause_tree old.context.trees x))
    → IsNormalUnder old (state old) e (kind_tree old.context.trees (K.Alias a)) (Some (state at)) × HasTree at.context.trees ty (next_type (state old)) → ((state at).pending ≡ []) × (state q ≡ state at)
    → clause_tree made.context.trees y ≡ with_type_for (ty_tree q.context.trees type) (ty_tree q.context.trees ty) (clause_tree q.context.trees x) → state made ≡ state q
    → clause_tree new.context.trees z ≡ resolved_tree (state made) (clause_tree made.context.trees y) → state new ≡ state made → IsTypedBy old new e (clause_tree old.context.trees x) z
projection-typed old at q made new e type a ty x y z stays more fit is stands normal quiet put m resolved n =
    let g = grows-trans old.context at.context q.context stays.grows more.grows in
    let one = (ty-kept old.context q.context type g is.sort).1 in
    let two = (ty-kept at.context q.context ty more.grows normal.1.0).1 ∙ normal.1.1 in
    let three = (clause-kept old.context q.context x g fit).1 in
    let w = with_type_for (ty_tree old.context.trees type) (next_type (state old)) (clause_tree old.context.trees x) in
    let tree : clause_tree made.context.trees y ≡ w = put ∙ (λ i. with_type_for (one i) (two i) (three i)) in
    let same = m ∙ quiet.1 in
    let z-tree : clause_tree new.context.trees z ≡ resolved_tree (state at) w = resolved ∙ (λ i. resolved_tree (same i) (tree i)) in
    let s = sym (n ∙ same) in
    let t = sym z-tree in
    with_its_type (ty_tree old.context.trees type) stands (subst (λ (u : Tree). IsNormalUnder old (state old) e u (Some (state at))) is.is normal.0) quiet.0
    (with_values (subst (λ (v : State × Tree). IsTypedAs old e (state at) (resolved_tree (state at) w) v.0 v.1) (λ i. (s i, t i)) as_it_is))

-- What is left is that later on.

pub left-kept : (c d : Context) (ls : List Left) → Grows c d → Each (IsLeft c.trees) ls → Each (IsLeft d.trees) ls × (trees_of d.trees ls ≡ trees_of c.trees ls)
left-kept c d [] g fit = (tt, refl)
left-kept c d (l ∷ ls) g fit =
    let here = clause-kept c d l.1 g fit.0 in
    let others = left-kept c d ls g fit.1 in
    let e = here.1 in
    let es = others.1 in
    ((here.0, others.0), λ i. e i ∷ es i)

each-mapped : {A B : Type 0} (P : B → Type 0) (f : A → B) (xs : List A) → Each (λ x. P (f x)) xs → Each P (map f xs)
each-mapped P f [] h = tt
each-mapped P f (x ∷ xs) h = (h.0, each-mapped P f xs h.1)

trees-more : (ts : List Tree) (ls : List Left) (l : Left) → trees_of ts (ls ++ l ∷ []) ≡ trees_of ts ls ++ clause_tree ts l.1 ∷ []
trees-more ts [] l = refl
trees-more ts (x ∷ ls) l = ap (λ (us : List Tree). clause_tree ts x.1 ∷ us) (trees-more ts ls l)

-- A clause gets the type of a projection.
pub step-typed : (old now new : Evaluator) (env : Env) (x y : Tree) (z : Clause) → IsLater old now → IsTypedAs old env (state old) x (state now) y → IsTypedBy now new env y z → IsTypedBy old new env x z
step-typed old now new env x y z l h k = typed-then h (typed-earlier l k)

pub step-typed-under : (old now new : Evaluator) (env : ParamEnv) (x y z : Clause) → StaysBesideKnown old now → IsParamEnv old.context.trees env
    → IsTypedBy old now (env_forest old.context.trees env) (clause_tree old.context.trees x) y → IsTypedBy now new (env_forest now.context.trees env) (clause_tree now.context.trees y) z
    → IsTypedBy old new (env_forest old.context.trees env) (clause_tree old.context.trees x) z
step-typed-under old now new env x y z stays fit h k =
    let E = (env-kept old.context now.context env stays.grows fit).1 in
    let t = clause_tree now.context.trees y in
    step-typed old now new (env_forest old.context.trees env) (clause_tree old.context.trees x) t z (later-known stays) h (subst (λ (e : Env). IsTypedBy now new e t z) E k)

pub rest-state : (r s : Evaluator) → rest s ≡ rest r → state s ≡ state r
rest-state r s e = ap (λ (x : Rest). x.state) e

-- A clause with types is left.
pub left-taken : (old mid : Evaluator) (env : Env) (x : Tree) (y : Left) (before after : List Left) → StaysBesideKnown old mid → Each (IsLeft old.context.trees) before → IsLeft mid.context.trees y
    → IsTypedBy old mid env x y.1 → after ≡ before ++ y ∷ [] → IsTakenUp old mid env x before after
left-taken old mid env x y before after stays fit sort typed is =
    let kept = left-kept old.context mid.context before stays.grows fit in
    let ts = mid.context.trees in
    let trees : trees_of ts after ≡ trees_of old.context.trees before ++ clause_tree ts y.1 ∷ []
    = ap (trees_of ts) is ∙ (trees-more ts before y ∙ ap (λ (us : List Tree). us ++ clause_tree ts y.1 ∷ []) kept.1) in
    record {
      fit = subst (Each (IsLeft ts)) (sym is) (each-append (IsLeft ts) before y kept.0 sort);
      follows = λ T xs h. one_is_typed typed (one_is_left (hold-by-earlier (later-known stays) (subst (λ (us : List Tree). HoldBy mid env T (state mid) us xs) trees h)));
    }

-- What a clause with types says of a projection holds.
pub said-taken : (old mid new : Evaluator) (env : Env) (x : Tree) (y : Clause) (projection term : Tree) (before : List Left) → StaysBesideKnown old mid → StaysBesideKnown mid new → Each (IsLeft old.context.trees) before
    → IsTypedBy old mid env x y → SaysOfProjection (clause_tree mid.context.trees y) projection term
    → ((z : Tree) (T : GoalTable Via) (left xs : List Tree) → SaysOfProjection z projection term → HoldBy new env T (state new) left xs → HoldBy mid env T (state mid) left (z ∷ xs))
    → IsTakenUp old new env x before before
said-taken old mid new env x y projection term before stays more fit typed said holds =
    let kept = left-kept old.context new.context before (known-then stays more).grows fit in
    let trees = kept.1 in
    record {
      fit = kept.0;
      follows = λ T xs h.
          one_is_typed typed
          (hold-by-earlier (later-known stays)
          (holds (clause_tree mid.context.trees y) T (trees_of old.context.trees before) xs said (subst (λ (us : List Tree). HoldBy new env T (state new) us xs) trees h)));
    }

pub said-taken-under : (old mid new : Evaluator) (env : ParamEnv) (x : Tree) (y : Clause) (projection term : Tree) (before : List Left) → StaysBesideKnown old mid → StaysBesideKnown mid new → IsParamEnv old.context.trees env
    → Each (IsLeft old.context.trees) before → IsTypedBy old mid (env_forest old.context.trees env) x y → SaysOfProjection (clause_tree mid.context.trees y) projection term
    → HoldsAsSaid mid new (env_forest mid.context.trees env) projection term → IsTakenUp old new (env_forest old.context.trees env) x before before
said-taken-under old mid new env x y projection term before stays more e fit typed said holds =
    let E = (env-kept old.context mid.context env stays.grows e).1 in
    said-taken old mid new (env_forest old.context.trees env) x y projection term before stays more fit typed said (subst (λ (f : Env). HoldsAsSaid mid new f projection term) E holds)

-- A projection has a type, and is made equal to the term.
pub said-holds : (old at done new : Evaluator) (env : Env) (projection term : Tree) → StaysBesideKnown old at → StaysBesideKnown old new → IsNormalUnder old (state old) env projection (Some (state at))
    → accepted (judge_of (fixed at)) (state at) env (alone (next_type (state old))) (alone term) ≡ Some (state done) → (state done).pending ≡ [] → state new ≡ state done
    → (x : Tree) (T : GoalTable Via) (left xs : List Tree) → SaysOfProjection x projection term → HoldBy new env T (state new) left xs → HoldBy old env T (state old) left (x ∷ xs)
said-holds old at done new env projection term stays all normal equal quiet same x T left xs said h =
    one_is_as_said projection term at said normal (later-known stays) equal quiet (subst (λ (S : State). HoldBy old env T S left xs) same (hold-by-earlier (later-known all) h))

-- One clause after the other

-- Of the clauses so many were taken up, and these are left in their place.
pub record TakenSoFar (old now : Evaluator) (env : Env) (clauses : List Clause) (left : List Left) (n : ℕ) : Type 0 where
  pub stays : StaysBesideKnown old now
  pub fit : Each (IsLeft now.context.trees) left
  pub follows : (T : GoalTable Via) → HoldBy now env T (state now) (trees_of now.context.trees left) (map (clause_tree old.context.trees) (drop n clauses))
      → HoldBy old env T (state old) [] (map (clause_tree old.context.trees) clauses)

pub none-taken : (old : Evaluator) (env : Env) (clauses : List Clause) (left : List Left) → left ≡ [] → TakenSoFar old old env clauses left 0
none-taken old env clauses left is = record {
  stays = known-refl old;
  fit = subst (Each (IsLeft old.context.trees)) (sym is) tt;
  follows = λ T h. subst (λ (ls : List Left). HoldBy old env T (state old) (trees_of old.context.trees ls) (map (clause_tree old.context.trees) clauses)) is h;
}

pub one-taken : (old now new : Evaluator) (env : Env) (clauses : List Clause) (x : Clause) (left after : List Left) (n : ℕ) → TakenSoFar old now env clauses left n → StaysBesideKnown now new
    → drop n clauses ≡ x ∷ drop (n + 1) clauses → clause_tree now.context.trees x ≡ clause_tree old.context.trees x → IsTakenUp now new env (clause_tree now.context.trees x) left after
    → TakenSoFar old new env clauses after (n + 1)
one-taken old now new env clauses x left after n so stays split same h =
    let ts = old.context.trees in
    let others = map (clause_tree ts) (drop (n + 1) clauses) in
    let is : clause_tree now.context.trees x ∷ others ≡ map (clause_tree ts) (drop n clauses)
    = ap (λ (t : Tree). t ∷ others) same ∙ ap (map (clause_tree ts)) (sym split) in
    record {
      stays = known-then so.stays stays;
      fit = h.fit;
      follows = λ T k. so.follows T (subst (HoldBy now env T (state now) (trees_of now.context.trees left)) is (h.follows T others k));
    }

pub one-taken-under : (old now new : Evaluator) (env : ParamEnv) (clauses : List Clause) (x : Clause) (left after : List Left) (n : ℕ) → TakenSoFar old now (env_forest old.context.trees env) clauses left n
    → StaysBesideKnown now new → IsParamEnv old.context.trees env → IsClause old.context.trees x → drop n clauses ≡ x ∷ drop (n + 1) clauses
    → IsTakenUp now new (env_forest now.context.trees env) (clause_tree now.context.trees x) left after → TakenSoFar old new (env_forest old.context.trees env) clauses after (n + 1)
one-taken-under old now new env clauses x left after n so stays e fit split h =
    let E = (env-kept old.context now.context env so.stays.grows e).1 in
    let same = (clause-kept old.context now.context x so.stays.grows fit).1 in
    one-taken old now new (env_forest old.context.trees env) clauses x left after n so stays split same (subst (λ (f : Env). IsTakenUp now new f (clause_tree now.context.trees x) left after) E h)

pub all-taken : (old now : Evaluator) (env : Env) (clauses : List Clause) (left : List Left) (n : ℕ) → TakenSoFar old now env clauses left n → length clauses ≤ n
    → AreTakenUp old now env (map (clause_tree old.context.trees) clauses) left
all-taken old now env clauses left n so end =
    let none : map (clause_tree old.context.trees) (drop n clauses) ≡ [] = ap (map (clause_tree old.context.trees)) (drop_all n clauses end) in
    record {
      fit = so.fit;
      follows = λ T h. so.follows T (subst (HoldBy now env T (state now) (trees_of now.context.trees left)) (sym none) h);
    }

-- So many of those that are left hold.
pub record HeldSoFar (old now : Evaluator) (env : Env) (left : List Left) (n : ℕ) : Type 0 where
  pub asked : StaysSure old now
  pub follows : Each (λ l. HoldsAt old env (clause_tree old.context.trees l.1)) (drop n left) → Each (λ l. HoldsAt old env (clause_tree old.context.trees l.1)) left

pub one-held : (old now new : Evaluator) (env : ParamEnv) (left : List Left) (x : Left) (n : ℕ) → HeldSoFar old now (env_forest old.context.trees env) left n → StaysBesideSteps now new → sure_of new ≡ sure_of now
    → IsParamEnv old.context.trees env → IsLeft old.context.trees x → drop n left ≡ x ∷ drop (n + 1) left → HoldsAt now (env_forest now.context.trees env) (clause_tree now.context.trees x.1)
    → HeldSoFar old new (env_forest old.context.trees env) left (n + 1)
one-held old now new env left x n so stays table e fit split h =
    let g = so.asked.stays.grows in
    let E = (env-kept old.context now.context env g e).1 in
    let s = so.asked.stays.state_same in
    let t = so.asked.sure in
    let tree = (clause-kept old.context now.context x.1 g fit).1 in
    let here : HoldsAt old (env_forest old.context.trees env) (clause_tree old.context.trees x.1)
    = subst (λ (q : Env × GoalTable Via × State × Tree). Holds q.0 q.1 q.2 (resolved_tree q.2 q.3)) (λ i. (E i, t i, s i, tree i)) h in
    record {
      asked = sure-then so.asked stays table;
      follows = λ others. so.follows (subst (Each (λ (l : Left). HoldsAt old (env_forest old.context.trees env) (clause_tree old.context.trees l.1))) (sym split) (here, others));
    }

pub all-held : (old now : Evaluator) (env : Env) (left : List Left) (n : ℕ) → HeldSoFar old now env left n → length left ≤ n → Each (λ l. HoldsAt old env (clause_tree old.context.trees l.1)) left
all-held old now env left n so end = so.follows (subst (Each (λ (l : Left). HoldsAt old env (clause_tree old.context.trees l.1))) (sym (drop_all n left end)) tt)

-- What is found of those that are left, by an earlier evaluator, where some were run.
pub found-left : (old ran new : Evaluator) (env : ParamEnv) (left : List Left) → StaysBesideSteps old ran → sure_of new ≡ sure_of ran → IsParamEnv old.context.trees env → Each (IsLeft old.context.trees) left
    → Each (λ l. HoldsAt ran (env_forest ran.context.trees env) (clause_tree ran.context.trees l.1)) left
    → Each (λ l. Holds (env_forest old.context.trees env) (sure_of new) (state old) (resolved_tree (state old) (clause_tree old.context.trees l.1))) left
found-left old ran new env [] stays table e fit h = tt
found-left old ran new env (l ∷ ls) stays table e fit h =
    let E = (env-kept old.context ran.context env stays.grows e).1 in
    let t = sym table in
    let s = stays.state_same in
    let tree = (clause-kept old.context ran.context l.1 stays.grows fit.0).1 in
    (subst (λ (q : Env × GoalTable Via × State × Tree). Holds q.0 q.1 q.2 (resolved_tree q.2 q.3)) (λ i. (E i, t i, s i, tree i)) h.0, found-left old ran new env ls stays table e fit.1 h.1)

-- All clauses were taken up, and what is found of those that are left is found of all.
pub found-where-left : (old mid taken : Evaluator) (env : ParamEnv) (T : GoalTable Via) (o : Opened) (xs : List Clause) (left : List Left) → StaysBesideKnown old mid → state mid ≡ state old → IsParamEnv old.context.trees env
    → map (clause_tree mid.context.trees) xs ≡ clauses_with old.context.trees (args_forest old.context.trees o.locals) o.wheres.items
    → AreTakenUp mid taken (env_forest mid.context.trees env) (map (clause_tree mid.context.trees) xs) left → Grows mid.context taken.context → (x : Specialization)
    → IsFoundOfLeft taken (env_forest taken.context.trees env) T left x → IsFoundWhereEqual old (env_forest old.context.trees env) T o x
found-where-left old mid taken env T o xs left stays same e is all g answer.Specializes h =
    let first = env-kept old.context mid.context env stays.grows e in
    let E = first.1 in
    let F : env_forest taken.context.trees env ≡ env_forest mid.context.trees env = (env-kept mid.context taken.context env g first.0).1 in
    let f = env_forest mid.context.trees env in
    let held : Each (λ l. Holds f T (state taken) (resolved_tree (state taken) (clause_tree taken.context.trees l.1))) left
    = subst (λ (y : Env). Each (λ (l : Left). Holds y T (state taken) (resolved_tree (state taken) (clause_tree taken.context.trees l.1))) left) F h in
    let trees : Each (λ x. Holds f T (state taken) (resolved_tree (state taken) x)) (trees_of taken.context.trees left)
    = each-mapped (λ (x : Tree). Holds f T (state taken) (resolved_tree (state taken) x)) (λ (l : Left). clause_tree taken.context.trees l.1) left held in
    let k : HoldBy old f T (state mid) [] (map (clause_tree mid.context.trees) xs) = hold-by-earlier (later-known stays) (all.follows T (what_is_left trees)) in
    subst (λ (q : Env × State × List Tree). HoldBy old q.0 T q.1 [] q.2) (λ i. (E i, same i, is i)) k
found-where-left old mid taken env T o xs left stays same e is all g answer.Unlike h = absurd h
found-where-left old mid taken env T o xs left stays same e is all g answer.NoInstance h = tt
found-where-left old mid taken env T o xs left stays same e is all g (answer.Unanswered n) h = tt
