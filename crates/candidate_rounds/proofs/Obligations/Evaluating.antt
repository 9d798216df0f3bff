-- Pending goals are evaluated: what the parts come to.
use Rattle.std.proofs.Common.{IfOk, Err, Ok, Result, ◌≡◌, ◌≤◌, ◌<◌, ◌+◌, ◌-◌, ℕ, zero, suc, Bool, true, false, ◌&&◌, ◌||◌, ◌⊎◌, inl, inr, List, [], ◌∷◌, ◌++◌, length, map, take, drop, slice_index_or, append_assoc, Option, Some, None, IfSome, if◌then◌else◌, refl, sym, ◌∙◌, ap, subst, arith}
use Rattle.std.specs.Option.{option_map, option_to_list}
use Rattle.std.proofs.lemmas.List.{append-nil, length-append, map-append}
use Rattle.ir_trees.specs.declared.ir.heads.Head.{Head}
use Rattle.ir_trees.specs.declared.ir.heads.Head.TheVariants as H
use Rattle.ir_trees.specs.declared.ir.heads.PartHead.TheVariants as P
use Rattle.ir_trees.specs.declared.ir.heads.ClauseHead.{ClauseHead}
use Rattle.ir_trees.specs.declared.ir.heads.ClauseHead.TheVariants as Cl
use Rattle.ir_trees.specs.declared.ir.kinds.Clause.{Clause}
use Rattle.ir_trees.specs.declared.ir.kinds.GenericArg.{GenericArg}
use Rattle.ir_trees.specs.declared.ir.kinds.Goal.{Goal}
use Rattle.ir_trees.specs.declared.ir.kinds.GoalSource.{GoalSource}
use Rattle.ir_trees.specs.declared.ir.kinds.ProjectionPredicate.{ProjectionPredicate}
use Rattle.ir_trees.specs.declared.ir.kinds.VarKind.{VarKind}
use Rattle.ir_trees.specs.Declarations.Context.{Context, Grows}
use Rattle.ir_trees.specs.Instantiation.Folds.{arg_tree}
use Rattle.ir_trees.specs.Syntax.Nodes.{rows}
use Rattle.ir_trees.specs.Unification.Substitutions.{alone}
use Rattle.ir_trees.specs.Hierarchy.Supers.{after_first}
use Rattle.ir_trees.specs.Syntax.Trees.{Kind, ClausesKind, Forest, Tree, holds, tree_holds}
use Rattle.ir_trees.specs.Syntax.Words.{IsParamEnv, clause_tree, env_forest, kind_tree, ty_tree, var_kind_tree}
use Rattle.ir_folds.proofs.Instantiation.Joining.{clause-kept}
use Rattle.ir_trees.proofs.Growth.Made.{kind_at-grows}
use Rattle.candidate_eval.specs.Derivations.Characterization.{binder_kinds, bound_kinds}
use Rattle.candidate_eval.specs.Interface.Evaluators.{IsGoal, kinds_listed, pending_of, pendings_of}
use Rattle.candidate_eval.specs.Derivations.ImplRules.{TraitGoal}
use Rattle.candidate_eval.specs.Judges.States.{Env, Pending, State, added, next, resolved, resolved_tree, with_pending}
use Rattle.candidate_rounds.specs.declared.rounds.inference.Change.TheVariants as C
use Rattle.candidate_rounds.specs.declared.rounds.inference.Entry.{Entry}
use Rattle.rounds_judge.specs.Equations.Equating.{equated, without_goals}
use Rattle.rounds_judge.specs.Equations.Opening.{are_open}
use Rattle.candidate_rounds.specs.Evaluators.Inferences.{Inference, begin_pending}
use Rattle.candidate_rounds.specs.Table.Goals.{Reads, Via}
use Rattle.candidate_rounds.specs.Evaluators.Known.{Each, Evaluator, GoesOn, IsChange, IsConsistent, IsEvaluator, info_of, reads, state}
use Rattle.rounds_judge.specs.Aliases.Listed.{Listing, listed}
use Rattle.rounds_judge.specs.Obligations.Settling.{Outcome, alias_of, before, certainty_of, first_fact, has_unlisted, related, gave_a_value, got_a_value, instance_of, instantiated, projected, stays, term_of, with_certainty, with_facts, with_staying}
use Rattle.rounds_judge.specs.Table.GoalTable.{verdict_in}
use Rattle.rounds_judge.specs.Table.Keys.{Key, goal_trees, key_at, numbers_at, trait_goal_of}
use Rattle.rounds_judge.specs.Table.TableSettling.{all_by, are_bare, given, pass_by, passes_by, settled_with, tried_as_with, tried_by, tried_trait}
use Rattle.rounds_judge.specs.Table.Verdicts.{Verdict, Yes, Maybe, Refused}
use Rattle.candidate_rounds.specs.Table.Trying.{IsProjection, IsRelation, answered, answered_by, answered_related, answered_trait, answered_verdict, evaluated_as, left_of, projection_of, second_if_bound, try_of, entries_gave, got_one}
use Rattle.candidate_rounds.proofs.Evaluators.Going.{goes-reads, goes-trans}
use Rattle.candidate_rounds.proofs.Snapshots.Holding.{tidy-now}
use Rattle.candidate_rounds.proofs.Snapshots.Knowing.{each-append, each-imply, tree-stays}
use Rattle.candidate_rounds.proofs.Snapshots.Probing.{holds-after}
use Rattle.candidate_rounds.proofs.Obligations.Projecting.{alias-is, term-is, term-joined}
use Rattle.candidate_rounds.proofs.Snapshots.Undoing.{drop-beyond, drop-one, undo-pending}

-- An alias for which no type is listed, and one for which one is.

pub not-listed : (l m : Listing) (S T : State) (a t r : Tree) → m ≡ l → T ≡ S → r ≡ resolved_tree S a → listed m r ≡ None → answered l S a t ≡ Some (false, T)
not-listed l m S T a t r i j e n =
    ap (answered_by l S t) (ap (listed l) (sym e) ∙ (ap (λ k. listed k r) (sym i) ∙ n)) ∙ ap (λ U. Some (false, U)) (sym j)

by-same : {l m : Listing} {S T : State} {t s : Tree} → l ≡ m → S ≡ T → t ≡ s → (o : Option Tree) → answered_by l S t o ≡ answered_by m T s o
by-same x y z o = λ i. answered_by (x i) (y i) (z i) o

-- what is listed answers for the alias
pub alias-answered : (l m : Listing) (S T : State) (a t r u s : Tree) → m ≡ l → T ≡ S → r ≡ resolved_tree S a → s ≡ t → listed m r ≡ Some u → answered l S a t ≡ answered_by m T s (Some u)
alias-answered l m S T a t r u s i j e f n =
    ap (answered_by l S t) (ap (listed l) (sym e) ∙ (ap (λ k. listed k r) (sym i) ∙ n)) ∙ by-same (sym i) (sym j) (sym f) (Some u)

pub answers-alike : {F : Type 0} (q : Result Bool F) (x y : Option (Bool × State)) (T : State) → x ≡ y → IfOk q (λ b. y ≡ Some (b, T)) → IfOk q (λ b. x ≡ Some (b, T))
answers-alike (Ok b) x y T e k = e ∙ k
answers-alike (Err f) x y T e k = tt

-- A listed type: the goal stays, or both are made equal.

stays-if : (l : Listing) (S : State) (t u : Tree) (b : Bool) → are_open l S && has_unlisted l S (alone t) ≡ b
    → answered_by l S t (Some u) ≡ (if b then Some (false, S) else next (equated l S (alone u) (alone t)) (λ U. Some (true, U)))
stays-if l S t u b e = ap (λ b. if b then Some (false, S) else next (equated l S (alone u) (alone t)) (λ U. Some (true, U))) e

pub listed-stays : (l : Listing) (S T : State) (t u : Tree) → are_open l S && has_unlisted l S (alone t) ≡ true → T ≡ S → answered_by l S t (Some u) ≡ Some (false, T)
listed-stays l S T t u e j = stays-if l S t u true e ∙ ap (λ U. Some (false, U)) (sym j)

listed-tried : (l m : Listing) (S T : State) (t u s v : Tree) → are_open l S && has_unlisted l S (alone t) ≡ false → m ≡ l → T ≡ S → s ≡ t → v ≡ u
    → answered_by l S t (Some u) ≡ next (equated m T (alone v) (alone s)) (λ U. Some (true, U))
listed-tried l m S T t u s v e i j f g = stays-if l S t u false e ∙ ap (λ (o : Option State). next o (λ U. Some (true, U))) (λ x. equated (sym i x) (sym j x) (alone (sym g x)) (alone (sym f x)))

pub listed-equal : (l m : Listing) (S T U : State) (t u s v : Tree) → are_open l S && has_unlisted l S (alone t) ≡ false → m ≡ l → T ≡ S → s ≡ t → v ≡ u
    → equated m T (alone v) (alone s) ≡ Some U → answered_by l S t (Some u) ≡ Some (true, U)
listed-equal l m S T U t u s v e i j f g q = listed-tried l m S T t u s v e i j f g ∙ ap (λ (o : Option State). next o (λ V. Some (true, V))) q

pub listed-refused : (l m : Listing) (S T : State) (t u s v : Tree) → are_open l S && has_unlisted l S (alone t) ≡ false → m ≡ l → T ≡ S → s ≡ t → v ≡ u
    → equated m T (alone v) (alone s) ≡ None → answered_by l S t (Some u) ≡ None
listed-refused l m S T t u s v e i j f g q = listed-tried l m S T t u s v e i j f g ∙ ap (λ (o : Option State). next o (λ V. Some (true, V))) q

pub answered-same : (l m : Listing) (S T : State) (a b t s : Tree) → m ≡ l → T ≡ S → b ≡ a → s ≡ t → answered m T b s ≡ answered l S a t
answered-same l m S T a b t s i j e f =
    ap (λ k. answered k T b s) i ∙ (ap (λ U. answered l U b s) j ∙ (ap (λ x. answered l S x s) e ∙ ap (answered l S a) f))

-- Two trees that are to be one.

or-false : (b : Bool) → b || false ≡ b
or-false true = refl
or-false false = refl

pub holds-alone : (mark : Head → Bool) (t : Tree) → tree_holds mark t ≡ holds mark (alone t)
holds-alone mark t = ap (λ b. mark t.head || b) (sym (or-false (holds mark t.children)))

pub unlisted-same : (l m : Listing) (S T : State) (t s : Tree) → m ≡ l → T ≡ S → s ≡ t → has_unlisted m T (alone s) ≡ has_unlisted l S (alone t)
unlisted-same l m S T t s i j e = ap (λ k. has_unlisted k T (alone s)) i ∙ (ap (λ U. has_unlisted l U (alone s)) j ∙ ap (λ x. has_unlisted l S (alone x)) e)

module _ (l : Listing) (S : State) (t u : Tree) where
  related-if : (b c : Bool) → has_unlisted l S (alone t) ≡ b → has_unlisted l S (alone u) ≡ c
      → answered_related l S t u ≡ (if b || c then Some (false, S) else next (equated l S (alone t) (alone u)) (λ U. Some (true, U)))
  related-if b c e f = ap (λ x. if x then Some (false, S) else next (equated l S (alone t) (alone u)) (λ U. Some (true, U))) (ap (λ x. x || has_unlisted l S (alone u)) e ∙ ap (λ x. b || x) f)

  pub first-unlisted : (T : State) → T ≡ S → has_unlisted l S (alone t) ≡ true → answered_related l S t u ≡ Some (false, T)
  first-unlisted T j e = related-if true (has_unlisted l S (alone u)) e refl ∙ ap (λ V. Some (false, V)) (sym j)

  pub second-unlisted : (T : State) → T ≡ S → has_unlisted l S (alone t) ≡ false → has_unlisted l S (alone u) ≡ true → answered_related l S t u ≡ Some (false, T)
  second-unlisted T j e f = related-if false true e f ∙ ap (λ V. Some (false, V)) (sym j)

  module _ (m : Listing) (T : State) (s v : Tree) (i : m ≡ l) (j : T ≡ S) (a : s ≡ t) (b : v ≡ u) (e : has_unlisted l S (alone t) ≡ false) (f : has_unlisted l S (alone u) ≡ false) where
    both-listed : answered_related l S t u ≡ next (equated m T (alone s) (alone v)) (λ U. Some (true, U))
    both-listed =
        related-if false false e f
        ∙ ap (λ (o : Option State). next o (λ U. Some (true, U)))
        (ap (λ k. equated k S (alone t) (alone u)) (sym i) ∙ (ap (λ V. equated m V (alone t) (alone u)) (sym j)
        ∙ (ap (λ x. equated m T (alone x) (alone u)) (sym a) ∙ ap (λ x. equated m T (alone s) (alone x)) (sym b))))

    pub related-equal : (U : State) → equated m T (alone s) (alone v) ≡ Some U → answered_related l S t u ≡ Some (true, U)
    related-equal U q = both-listed ∙ ap (λ (o : Option State). next o (λ V. Some (true, V))) q

    pub related-refused : equated m T (alone s) (alone v) ≡ None → answered_related l S t u ≡ None
    related-refused q = both-listed ∙ ap (λ (o : Option State). next o (λ V. Some (true, V))) q

-- A goal by its instance: whether nothing stays of it.

abbrev pub outcome : Pending → Bool × State → Outcome
outcome p q = Some ((if q.0 then [] else p ∷ []), q.1)

-- what was done, and nothing stays
done-by : (p : Pending) (o : Option State) → without_goals o ≡ next (next o (λ T. Some (true, T))) (outcome p)
done-by p None = refl
done-by p (Some T) = refl

stays-or-done : (l : Listing) (S : State) (p : Pending) (b : Bool) (o : Option State)
    → (if b then stays S p else without_goals o) ≡ next (if b then Some (false, S) else next o (λ T. Some (true, T))) (outcome p)
stays-or-done l S p true o = refl
stays-or-done l S p false o = done-by p o

projected-by : (l : Listing) (S : State) (p : Pending) (t : Tree) (o : Option Tree) → projected l S p t o ≡ next (answered_by l S t o) (outcome p)
projected-by l S p t None = refl
projected-by l S p t (Some u) = stays-or-done l S p (are_open l S && has_unlisted l S (alone t)) (equated l S (alone u) (alone t))

related-by : (l : Listing) (S : State) (p : Pending) (t u : Tree) → related l S p t u ≡ next (answered_related l S t u) (outcome p)
related-by l S p t u = stays-or-done l S p (has_unlisted l S (alone t) || has_unlisted l S (alone u)) (equated l S (alone t) (alone u))

verdict-by : (l : Listing) (S : State) (p : Pending) (k : Key) (ns : List ℕ) (o : Option (Verdict Via)) → tried_by l S p k ns o ≡ next (answered_verdict l S k ns o) (outcome p)
verdict-by l S p k ns None = refl
verdict-by l S p k ns (Some Refused) = refl
verdict-by l S p k ns (Some (Maybe r w)) = refl
verdict-by l S p k ns (Some (Yes r w)) = done-by p (given l S k ns r)

trait-by : (q : Reads) (S : State) (p : Pending) (g : TraitGoal) → tried_trait q.table q.listing S p g ≡ next (answered_trait q S g) (outcome p)
trait-by q S p g = at (are_bare (resolved S (goal_trees g)))
  where
    at : (b : Bool) → (if b then tried_by q.listing S p (key_at S g) (numbers_at S g) (verdict_in q.table (key_at S g)) else stays S p)
        ≡ next (if b then answered_verdict q.listing S (key_at S g) (numbers_at S g) (verdict_in q.table (key_at S g)) else Some (false, S)) (outcome p)
    at true = verdict-by q.listing S p (key_at S g) (numbers_at S g) (verdict_in q.table (key_at S g))
    at false = refl

tried-by : (q : Reads) (S : State) (p : Pending) (ts : Forest) (h : Head) → tried_as_with q.table q.listing S p ts h ≡ next (evaluated_as q S p.goal.env p.goal.clause ts h) (outcome p)
tried-by q S p ts (H.Part (P.Clause (Cl.Trait i w))) = trait-by q S p (trait_goal_of p.goal.env i w ts)
tried-by q S p ts (H.Part (P.Clause (Cl.Projection i))) = projected-by q.listing S p (term_of ts) (listed q.listing (resolved_tree S (alias_of i ts)))
tried-by q S p ts (H.Part (P.Clause Cl.AliasRelate)) = related-by q.listing S p (first_fact ts) (term_of ts)
tried-by q S p ts (H.Part (P.Clause Cl.ConstEquate)) = related-by q.listing S p (first_fact ts) (term_of ts)
tried-by q S p ts (H.Part (P.Clause Cl.TypeOutlives)) = refl
tried-by q S p ts (H.Part (P.Clause Cl.RegionOutlives)) = refl
tried-by q S p ts _ = refl

-- The instance of a goal, by the kinds of the variables of its binder.

pub instance-made : (p : Pending) (ks : List VarKind) (bs : List Kind) (ts : Forest) (e : Env) (c : Tree) → kinds_listed ks ≡ bs → e ≡ p.goal.env
    → c ≡ second_if_bound ks p.goal.clause (with_facts p.goal.clause ts) → (let q : Pending = record { source = p.source; goal = record { env = e; clause = c } } in q) ≡ instance_of p bs ts
instance-made p ks bs ts e c k i j = at ks j ∙ ap (λ xs. instance_of p xs ts) k
  where
    at : (ks : List VarKind) → c ≡ second_if_bound ks p.goal.clause (with_facts p.goal.clause ts)
        → (let q : Pending = record { source = p.source; goal = record { env = e; clause = c } } in q) ≡ instance_of p (kinds_listed ks) ts
    at [] j = λ n. record { source = p.source; goal = record { env = i n; clause = j n } }
    at (k ∷ ks) j = λ n. record { source = p.source; goal = record { env = i n; clause = j n } }

evaluated-same : (q r : Reads) (S T : State) (e f : Env) (c d x y : Tree) → r ≡ q → T ≡ S → f ≡ e → d ≡ c → y ≡ x
    → evaluated_as r T f d (after_first y.children) y.head ≡ evaluated_as q S e c (after_first x.children) x.head
evaluated-same q r S T e f c d x y i j a b g =
    ap (λ k. evaluated_as k T f d (after_first y.children) y.head) i
    ∙ (ap (λ U. evaluated_as q U f d (after_first y.children) y.head) j
    ∙ (ap (λ z. evaluated_as q S z d (after_first y.children) y.head) a
    ∙ (ap (λ t. evaluated_as q S e t (after_first y.children) y.head) b
    ∙ ap (λ (t : Tree). evaluated_as q S e c (after_first t.children) t.head) g)))

module _ (q r : Reads) (S T : State) (p : Pending) (ks : List VarKind) (env : Env) (x d : Tree) (i : r ≡ q) (k : kinds_listed ks ≡ bound_kinds p.goal.clause.children)
    (j : T ≡ (instantiated S p.goal.clause).0) (a : env ≡ p.goal.env) (f : x ≡ with_facts p.goal.clause (instantiated S p.goal.clause).1)
    (e : d ≡ second_if_bound ks p.goal.clause (with_facts p.goal.clause (instantiated S p.goal.clause).1)) where
  abbrev pub left_goal : Pending
  left_goal = instance_of p (bound_kinds p.goal.clause.children) (instantiated S p.goal.clause).1

  tried-so : try_of q S p ≡ next (evaluated_as r T env d (after_first x.children) x.head) (outcome left_goal)
  tried-so =
      let made = instance-made p ks (bound_kinds p.goal.clause.children) (instantiated S p.goal.clause).1 env d k a e in
      tried-by q (instantiated S p.goal.clause).0 left_goal (instantiated S p.goal.clause).1 p.goal.clause.head
      ∙ ap (λ o. next o (outcome left_goal))
      (sym (evaluated-same q r (instantiated S p.goal.clause).0 T left_goal.goal.env env left_goal.goal.clause d (with_facts p.goal.clause (instantiated S p.goal.clause).1) x i j
      (ap (λ (g : Pending). g.goal.env) made) (ap (λ (g : Pending). g.goal.clause) made) f))

  pub tried-done : (U : State) (b : Bool) → b ≡ true → evaluated_as r T env d (after_first x.children) x.head ≡ Some (b, U) → try_of q S p ≡ Some ([], U)
  tried-done U b t h = tried-so ∙ (ap (λ o. next o (outcome left_goal)) h ∙ ap (λ c. outcome left_goal (c, U)) t)

  pub tried-stays : (U : State) (b : Bool) (g : Pending) → b ≡ false → g ≡ left_goal → evaluated_as r T env d (after_first x.children) x.head ≡ Some (b, U) → try_of q S p ≡ Some (g ∷ [], U)
  tried-stays U b g t m h = tried-so ∙ (ap (λ o. next o (outcome left_goal)) h ∙ (ap (λ c. outcome left_goal (c, U)) t ∙ ap (λ (r : Pending). Some (r ∷ [], U)) (sym m)))

  pub tried-refused : evaluated_as r T env d (after_first x.children) x.head ≡ None → try_of q S p ≡ None
  tried-refused h = tried-so ∙ ap (λ o. next o (outcome left_goal)) h

-- The clause that is left of a goal, and its kinds.

pub kinds-of-variables : (ks : List VarKind) → binder_kinds (rows (map var_kind_tree ks)) ≡ kinds_listed ks
kinds-of-variables [] = refl
kinds-of-variables (k ∷ ks) = ap (λ js. kinds_listed (k ∷ []) ++ js) (kinds-of-variables ks)

pub second-holds : {A : Type 0} (P : A → Type 0) (ks : List VarKind) (a b : A) → P a → P b → P (second_if_bound ks a b)
second-holds P [] a b x y = x
second-holds P (k ∷ ks) a b x y = y

pub second-tree : (ts : List Tree) (ks : List VarKind) (a b : Clause) (s t : Tree) → clause_tree ts a ≡ s → clause_tree ts b ≡ t → clause_tree ts (second_if_bound ks a b) ≡ second_if_bound ks s t
second-tree ts [] a b s t x y = x
second-tree ts (k ∷ ks) a b s t x y = y

-- Goals are goals still, and mean the same.

pub env-kept : (a b : Context) (g : Goal Clause) → Grows a b → IsParamEnv a.trees g.param_env → env_forest b.trees g.param_env ≡ env_forest a.trees g.param_env
env-kept a b g x i = ap (λ (t : Tree). t.children) (tree-stays a.trees b.trees g.param_env.0 ClausesKind x.kept refl i)

pub goal-kept : (a b : Context) (g : Goal Clause) → Grows a b → IsGoal a.trees g → IsGoal b.trees g
goal-kept a b g x i = (kind_at-grows a b g.param_env.0 ClausesKind x refl i.0, (clause-kept a b g.predicate x i.1).0)

pub pending-kept : (a b : Context) (f : GoalSource) (g : Goal Clause) → Grows a b → IsGoal a.trees g → pending_of b.trees f g ≡ pending_of a.trees f g
pending-kept a b f g x i =
    let e = env-kept a b g x i.0 in
    let c = (clause-kept a b g.predicate x i.1).1 in
    λ n. record { source = f; goal = record { env = e n; clause = c n } }

-- Goals with their sources, one after another.

abbrev pub Sourced : Type 0
Sourced = GoalSource × Goal Clause

pub goals-kept : (a b : Context) (gs : List Sourced) → Grows a b → Each (λ g. IsGoal a.trees g.1) gs → Each (λ g. IsGoal b.trees g.1) gs
goals-kept a b gs x e = each-imply (λ (g : Sourced). IsGoal a.trees g.1) (λ g. IsGoal b.trees g.1) gs (λ g i. goal-kept a b g.1 x i) e

pub pendings-kept : (a b : Context) (gs : List Sourced) → Grows a b → Each (λ g. IsGoal a.trees g.1) gs → pendings_of b.trees gs ≡ pendings_of a.trees gs
pendings-kept a b [] x e = refl
pendings-kept a b (g ∷ gs) x e = ap (λ p. p ∷ pendings_of b.trees gs) (pending-kept a b g.0 g.1 x e.0) ∙ ap (λ ps. pending_of a.trees g.0 g.1 ∷ ps) (pendings-kept a b gs x e.1)

each-two : {A : Type 0} (P : A → Type 0) (xs ys : List A) → Each P xs → Each P ys → Each P (xs ++ ys)
each-two P [] ys a b = b
each-two P (x ∷ xs) ys a b = (a.0, each-two P xs ys a.1 b)

before-twice : (xs ys : List Pending) (o : Outcome) → before xs (before ys o) ≡ before (xs ++ ys) o
before-twice xs ys None = refl
before-twice xs ys (Some q) = ap (λ (ps : List Pending). Some (ps, q.1)) (sym (append_assoc xs ys q.0))

pub record TriesSoFar (old now : Evaluator) (gs : List Sourced) (i : ℕ) (staying : List Sourced) : Type 0 where
  pub goes : GoesOn old now
  pub fit : Each (λ g. IsGoal now.context.trees g.1) staying
  pub is : all_by (try_of (reads old)) (state old) (pendings_of old.context.trees gs) ≡ before (pendings_of now.context.trees staying) (all_by (try_of (reads old)) (state now) (pendings_of old.context.trees (drop i gs)))

no-tries-is : (o : Outcome) → o ≡ before [] o
no-tries-is None = refl
no-tries-is (Some q) = refl

pub no-tries : (old : Evaluator) (gs xs : List Sourced) → xs ≡ [] → GoesOn old old → TriesSoFar old old gs 0 xs
no-tries old gs xs e g = subst (TriesSoFar old old gs 0) (sym e) (record { goes = g; fit = tt; is = no-tries-is _ })

left-pendings : (ts : List Tree) (o : Option Sourced) → left_of ts o ≡ pendings_of ts (option_to_list o)
left-pendings ts None = refl
left-pendings ts (Some g) = refl

left-each : (ts : List Tree) (o : Option Sourced) → IfSome o (λ g. IsGoal ts g.1) → Each (λ g. IsGoal ts g.1) (option_to_list o)
left-each ts None i = tt
left-each ts (Some g) i = (i, tt)

module _ (old now new : Evaluator) (gs : List Sourced) (i : ℕ) (d : Sourced) (staying : List Sourced) (kept : IsEvaluator old.context old.inference old.marks old.normal old.opaques old.goals) (fits : Each (λ g. IsGoal old.context.trees g.1) gs)
    (a : TriesSoFar old now gs i staying) (l : i < length gs) (fit : IsGoal old.context.trees (slice_index_or gs i d).1) where
  rest-is : (T : State) → all_by (try_of (reads old)) T (pendings_of old.context.trees (drop i gs))
      ≡ next (try_of (reads now) T (pending_of now.context.trees (slice_index_or gs i d).0 (slice_index_or gs i d).1)) (λ q. before q.0 (all_by (try_of (reads old)) q.1 (pendings_of old.context.trees (drop (suc i) gs))))
  rest-is T =
      ap (λ xs. all_by (try_of (reads old)) T (pendings_of old.context.trees xs)) (drop-one gs i d l)
      ∙ (ap (λ p. next (try_of (reads old) T p) (λ q. before q.0 (all_by (try_of (reads old)) q.1 (pendings_of old.context.trees (drop (suc i) gs))))) (sym (pending-kept old.context now.context (slice_index_or gs i d).0 (slice_index_or gs i d).1 a.goes.0 fit))
      ∙ ap (λ m. next (try_of m T (pending_of now.context.trees (slice_index_or gs i d).0 (slice_index_or gs i d).1)) (λ q. before q.0 (all_by (try_of (reads old)) q.1 (pendings_of old.context.trees (drop (suc i) gs))))) (sym (goes-reads old now a.goes kept)))

  pub one-more-try : (o : Option Sourced) (made : List Sourced) → GoesOn now new → IfSome o (λ g. IsGoal new.context.trees g.1)
      → try_of (reads now) (state now) (pending_of now.context.trees (slice_index_or gs i d).0 (slice_index_or gs i d).1) ≡ Some (left_of new.context.trees o, state new)
      → made ≡ staying ++ option_to_list o → TriesSoFar old new gs (i + 1) made
  one-more-try o made g s t m = subst (TriesSoFar old new gs (i + 1)) (sym m) (record {
    goes = goes-trans old now new a.goes g;
    fit = each-two (λ (x : Sourced). IsGoal new.context.trees x.1) staying (option_to_list o) (goals-kept now.context new.context staying g.0 a.fit) (left-each new.context.trees o s);
    is =
        a.is
        ∙ (ap (before (pendings_of now.context.trees staying)) (rest-is (state now) ∙ ap (λ r. next r (λ q. before q.0 (all_by (try_of (reads old)) q.1 (pendings_of old.context.trees (drop (suc i) gs))))) t)
        ∙ (before-twice (pendings_of now.context.trees staying) (left_of new.context.trees o) (all_by (try_of (reads old)) (state new) (pendings_of old.context.trees (drop (suc i) gs)))
        ∙ (ap (λ ps. before ps (all_by (try_of (reads old)) (state new) (pendings_of old.context.trees (drop (suc i) gs)))) joined
        ∙ ap (λ n. before (pendings_of new.context.trees (staying ++ option_to_list o)) (all_by (try_of (reads old)) (state new) (pendings_of old.context.trees (drop n gs)))) next-one)));
  })
    where
      next-one : suc i ≡ i + 1
      next-one = omega arith

      joined : pendings_of now.context.trees staying ++ left_of new.context.trees o ≡ pendings_of new.context.trees (staying ++ option_to_list o)
      joined =
          ap (λ ps. ps ++ left_of new.context.trees o) (sym (pendings-kept now.context new.context staying g.0 a.fit))
          ∙ (ap (λ ps. pendings_of new.context.trees staying ++ ps) (left-pendings new.context.trees o)
          ∙ sym (map-append (λ (x : Sourced). pending_of new.context.trees x.0 x.1) staying (option_to_list o)))

  pub try-refused : try_of (reads now) (state now) (pending_of now.context.trees (slice_index_or gs i d).0 (slice_index_or gs i d).1) ≡ None → all_by (try_of (reads old)) (state old) (pendings_of old.context.trees gs) ≡ None
  try-refused t = a.is ∙ ap (before (pendings_of now.context.trees staying)) (rest-is (state now) ∙ ap (λ r. next r (λ q. before q.0 (all_by (try_of (reads old)) q.1 (pendings_of old.context.trees (drop (suc i) gs))))) t)

pub all-tried : (old now : Evaluator) (gs : List Sourced) (i : ℕ) (staying : List Sourced) → TriesSoFar old now gs i staying → length gs ≤ i
    → all_by (try_of (reads old)) (state old) (pendings_of old.context.trees gs) ≡ Some (pendings_of now.context.trees staying, state now)
all-tried old now gs i staying a l =
    a.is
    ∙ (ap (λ xs. before (pendings_of now.context.trees staying) (all_by (try_of (reads old)) (state now) (pendings_of old.context.trees xs))) (drop-beyond gs i l)
    ∙ ap (λ (ps : List Pending). Some (ps, state now)) (append-nil (pendings_of now.context.trees staying)))

-- Goals become pending, one after another, where none was.

take-one : {A : Type 0} (xs : List A) (i : ℕ) (d : A) → i < length xs → take (suc i) xs ≡ take i xs ++ slice_index_or xs i d ∷ []
take-one [] i d l = absurd (omega (arith, l))
take-one (x ∷ xs) zero d l = refl
take-one (x ∷ xs) (suc i) d l = ap (λ ys. x ∷ ys) (take-one xs i d (omega (arith, l)))

pub take-more : {A : Type 0} (xs : List A) (i : ℕ) (d : A) → i < length xs → take (i + 1) xs ≡ take i xs ++ slice_index_or xs i d ∷ []
take-more xs i d l = let next-one : i + 1 ≡ suc i = omega arith in ap (λ n. take n xs) next-one ∙ take-one xs i d l

pub take-all : {A : Type 0} (xs : List A) (i : ℕ) → length xs ≤ i → take i xs ≡ xs
take-all [] zero l = refl
take-all [] (suc i) l = refl
take-all (x ∷ xs) zero l = absurd (omega (arith, l))
take-all (x ∷ xs) (suc i) l = ap (λ ys. x ∷ ys) (take-all xs i (omega (arith, l)))

pub record PendingSoFar (old now : Evaluator) (gs : List Sourced) (i : ℕ) : Type 0 where
  pub goes : GoesOn old now
  pub context : now.context ≡ old.context
  pub state_is : state now ≡ with_pending (state old) (pendings_of old.context.trees (take i gs))

pub one-more-pending : (old now new : Evaluator) (gs : List Sourced) (i : ℕ) (d : Sourced) → PendingSoFar old now gs i → i < length gs → GoesOn now new → new.context ≡ now.context
    → state new ≡ added (state now) (pending_of now.context.trees (slice_index_or gs i d).0 (slice_index_or gs i d).1) → PendingSoFar old new gs (i + 1)
one-more-pending old now new gs i d a l g c s = record {
  goes = goes-trans old now new a.goes g;
  context = c ∙ a.context;
  state_is =
      s
      ∙ (ap (λ (x : Context). added (state now) (pending_of x.trees (slice_index_or gs i d).0 (slice_index_or gs i d).1)) a.context
      ∙ (ap (λ S. added S (pending_of old.context.trees (slice_index_or gs i d).0 (slice_index_or gs i d).1)) a.state_is
      ∙ ap (with_pending (state old)) (sym (ap (pendings_of old.context.trees) (take-more gs i d l) ∙ map-append (λ (x : Sourced). pending_of old.context.trees x.0 x.1) (take i gs) (slice_index_or gs i d ∷ [])))));
}

pub all-pending : (old now : Evaluator) (gs : List Sourced) (i : ℕ) → PendingSoFar old now gs i → length gs ≤ i → state now ≡ with_pending (state old) (pendings_of old.context.trees gs)
all-pending old now gs i a l = a.state_is ∙ ap (λ xs. with_pending (state old) (pendings_of old.context.trees xs)) (take-all gs i l)

-- None is pending from now on.
pub holds-aside : (ts : List Tree) (s : Inference) (ks : List ℕ) → IsConsistent ts s ks → IsConsistent ts (begin_pending s (length s.goals)) ks
holds-aside ts s ks h =
    holds-after ts s (begin_pending s (length s.goals)) ks h (undo-pending s (length s.goals)) (length-append s.trail (C.Pending s.first_pending ∷ []) ∙ omega arith)
    (record { values = h.known.values; regions = h.known.regions; goals = h.known.goals; changes = each-append (IsChange ts) s.trail _ h.known.changes tt })
    (let t = tidy-now ts s ks h in record { pending = omega arith; kinds = t.kinds; room = t.room; universes = t.universes })

-- All goals, once.

pub passed : (q : Reads) (S T U : State) (ps qs : List Pending) → ps ≡ S.pending → all_by (try_of q) S ps ≡ Some (qs, T) → U ≡ with_pending T qs → pass_by (try_of q) S ≡ Some U
passed r S T U ps qs e t u = ap (λ xs. next (all_by (try_of r) S xs) (λ q. Some (with_staying q))) (sym e) ∙ (ap (λ o. next o (λ q. Some (with_staying q))) t ∙ ap (λ V. Some V) (sym u))

pub pass-refused : (q : Reads) (S : State) (ps : List Pending) → ps ≡ S.pending → all_by (try_of q) S ps ≡ None → pass_by (try_of q) S ≡ None
pass-refused r S ps e t = ap (λ xs. next (all_by (try_of r) S xs) (λ q. Some (with_staying q))) (sym e) ∙ ap (λ o. next o (λ q. Some (with_staying q))) t

-- Several times.

pub record PassesSoFar (old now : Evaluator) (most i : ℕ) : Type 0 where
  pub goes : GoesOn old now
  pub is : passes_by (try_of (reads old)) most (state old) ≡ passes_by (try_of (reads old)) (most - i) (state now)

module _ (old now : Evaluator) (most i : ℕ) (kept : IsEvaluator old.context old.inference old.marks old.normal old.opaques old.goals) (a : PassesSoFar old now most i) (l : i < most) where
  abbrev again : State → Option State
  again T = if gave_a_value (state now).variables T.variables then passes_by (try_of (reads old)) (most - (i + 1)) T else Some T

  this-pass : passes_by (try_of (reads old)) most (state old) ≡ next (pass_by (try_of (reads now)) (state now)) again
  this-pass =
      let n : most - i ≡ suc (most - (i + 1)) = omega (arith, l) in
      a.is
      ∙ (ap (λ k. passes_by (try_of (reads old)) k (state now)) n
      ∙ ap (λ m. next (pass_by (try_of m) (state now)) again) (sym (goes-reads old now a.goes kept)))

  pub one-more-pass : (new : Evaluator) → GoesOn now new → pass_by (try_of (reads now)) (state now) ≡ Some (state new) → gave_a_value (state now).variables (state new).variables ≡ true → PassesSoFar old new most (i + 1)
  one-more-pass new g p c = record {
    goes = goes-trans old now new a.goes g;
    is =
        this-pass
        ∙ (ap (λ o. next o again) p
        ∙ ap (λ b. if b then passes_by (try_of (reads old)) (most - (i + 1)) (state new) else Some (state new)) c);
  }

  pub last-pass : (T : State) → pass_by (try_of (reads now)) (state now) ≡ Some T → gave_a_value (state now).variables T.variables ≡ false → passes_by (try_of (reads old)) most (state old) ≡ Some T
  last-pass T p c =
      this-pass
      ∙ (ap (λ o. next o again) p
      ∙ ap (λ b. if b then passes_by (try_of (reads old)) (most - (i + 1)) T else Some T) c)

  pub passes-refused : pass_by (try_of (reads now)) (state now) ≡ None → passes_by (try_of (reads old)) most (state old) ≡ None
  passes-refused p = this-pass ∙ ap (λ o. next o again) p

pub no-passes : (old : Evaluator) (most : ℕ) → GoesOn old old → PassesSoFar old old most 0
no-passes old most g = record { goes = g; is = (let n : most ≡ most - 0 = omega arith in ap (λ k. passes_by (try_of (reads old)) k (state old)) n) }

pub all-passes : (old now : Evaluator) (most i : ℕ) → PassesSoFar old now most i → most ≤ i → passes_by (try_of (reads old)) most (state old) ≡ Some (state now)
all-passes old now most i a l = let n : most - i ≡ 0 = omega (arith, l) in a.is ∙ ap (λ k. passes_by (try_of (reads old)) k (state now)) n

pub settled-by : (q : Reads) (S T : State) → passes_by (try_of q) 8 S ≡ Some T → settled_with q.table q.listing S ≡ Some (certainty_of T.pending, T)
settled-by q S T e = ap (λ (o : Option State). next o (λ U. Some (with_certainty U))) e

pub settled-refused : (q : Reads) (S : State) → passes_by (try_of q) 8 S ≡ None → settled_with q.table q.listing S ≡ None
settled-refused q S e = ap (λ (o : Option State). next o (λ U. Some (with_certainty U))) e

-- Variables that got values.

pub gave-same : (ts us : List Tree) (es fs : List Entry) → entries_gave es fs ≡ gave_a_value (map (info_of ts) es) (map (info_of us) fs)
gave-same ts us [] fs = refl
gave-same ts us (e ∷ es) [] = refl
gave-same ts us (e ∷ es) (f ∷ fs) = at e.value f.value (gave-same ts us es fs)
  where
    at : (v w : Option GenericArg) → entries_gave es fs ≡ gave_a_value (map (info_of ts) es) (map (info_of us) fs)
        → got_one v w || entries_gave es fs ≡ got_a_value (option_map (arg_tree ts) v) (option_map (arg_tree us) w) || gave_a_value (map (info_of ts) es) (map (info_of us) fs)
    at None None e = e
    at None (Some w) e = refl
    at (Some v) None e = e
    at (Some v) (Some w) e = e

-- What is said of the entries that were kept is said of the states.
pub gave-of-states : (a b : Evaluator) (es : List Entry) (r x : Bool) → es ≡ a.inference.variables → r ≡ entries_gave es b.inference.variables → r ≡ x → gave_a_value (state a).variables (state b).variables ≡ x
gave-of-states a b es r x e g i = sym (gave-same a.context.trees b.context.trees a.inference.variables b.inference.variables) ∙ (ap (λ fs. entries_gave fs b.inference.variables) (sym e) ∙ (sym g ∙ i))

pub record GaveSoFar (es fs : List Entry) (i : ℕ) : Type 0 where
  pub is : entries_gave (drop i es) (drop i fs) ≡ entries_gave es fs

one-compared : (es fs : List Entry) (i : ℕ) (d e : Entry) → i < length es → i < length fs
    → entries_gave (drop i es) (drop i fs) ≡ got_one (slice_index_or es i d).value (slice_index_or fs i e).value || entries_gave (drop (suc i) es) (drop (suc i) fs)
one-compared es fs i d e l m =
    ap (λ xs. entries_gave xs (drop i fs)) (drop-one es i d l) ∙ ap (λ ys. entries_gave (slice_index_or es i d ∷ drop (suc i) es) ys) (drop-one fs i e m)

pub gave-here : (es fs : List Entry) (i : ℕ) (d e : Entry) → GaveSoFar es fs i → i < length es → i < length fs → got_one (slice_index_or es i d).value (slice_index_or fs i e).value ≡ true → true ≡ entries_gave es fs
gave-here es fs i d e a l m g = sym (ap (λ b. b || entries_gave (drop (suc i) es) (drop (suc i) fs)) g) ∙ (sym (one-compared es fs i d e l m) ∙ a.is)

pub one-more-compared : (es fs : List Entry) (i : ℕ) (d e : Entry) → GaveSoFar es fs i → i < length es → i < length fs → got_one (slice_index_or es i d).value (slice_index_or fs i e).value ≡ false → GaveSoFar es fs (i + 1)
one-more-compared es fs i d e a l m g = record {
  is =
      (let s : i + 1 ≡ suc i = omega arith in
      ap (λ k. entries_gave (drop k es) (drop k fs)) s
      ∙ (sym (ap (λ b. b || entries_gave (drop (suc i) es) (drop (suc i) fs)) g) ∙ (sym (one-compared es fs i d e l m) ∙ a.is)));
}

pub gave-begun : (es fs : List Entry) → GaveSoFar es fs 0
gave-begun es fs = record { is = refl }

no-more : (xs ys : List Entry) → (xs ≡ []) ⊎ (ys ≡ []) → entries_gave xs ys ≡ false
no-more xs ys (inl e) = ap (λ zs. entries_gave zs ys) e
no-more [] ys (inr e) = refl
no-more (x ∷ xs) ys (inr e) = ap (λ zs. entries_gave (x ∷ xs) zs) e

pub none-left : (es fs : List Entry) (i : ℕ) → GaveSoFar es fs i → length es ≤ i → false ≡ entries_gave es fs
none-left es fs i a l = sym (no-more (drop i es) (drop i fs) (inl (drop-beyond es i l))) ∙ a.is

pub none-after : (es fs : List Entry) (i : ℕ) → GaveSoFar es fs i → length fs ≤ i → false ≡ entries_gave es fs
none-after es fs i a l = sym (no-more (drop i es) (drop i fs) (inr (drop-beyond fs i l))) ∙ a.is

-- A projection that is evaluated is its alias answered with its term.
pub projection-evaluated : (q : Reads) (S : State) (e : Env) (t : Tree) (c : Context) (x : Tree) (p : ProjectionPredicate) → IsProjection c x p
    → answered q.listing S (kind_tree c.trees (projection_of p)) (ty_tree c.trees p.term) ≡ evaluated_as q S e t (after_first x.children) x.head
projection-evaluated q S e t c x p r =
    sym
    (ap (evaluated_as q S e t (after_first x.children)) r.head
    ∙ (ap (λ a. answered q.listing S a (term_of (after_first x.children))) (alias-is c x p r) ∙ ap (answered q.listing S (kind_tree c.trees (projection_of p))) (term-is c x p r)))

-- Two arguments that are evaluated as one are answered as they are.
pub relation-evaluated : (q : Reads) (S : State) (e : Env) (t : Tree) (c : Context) (x : Tree) (h : ClauseHead) (a b : GenericArg) → IsRelation c x h a b
    → ((ts : Forest) → evaluated_as q S e t ts (H.Part (P.Clause h)) ≡ answered_related q.listing S (first_fact ts) (term_of ts))
    → answered_related q.listing S (arg_tree c.trees a) (arg_tree c.trees b) ≡ evaluated_as q S e t (after_first x.children) x.head
relation-evaluated q S e t c x h a b r says =
    sym
    (ap (evaluated_as q S e t (after_first x.children)) r.head
    ∙ (says (after_first x.children)
    ∙ (ap (λ ts. answered_related q.listing S (first_fact ts) (term_of ts)) r.facts
    ∙ ap (answered_related q.listing S (arg_tree c.trees a)) (term-joined (alone (arg_tree c.trees a)) (arg_tree c.trees b)))))
