-- Clauses that were asked and stay, said of earlier evaluators.
use Rattle.std.proofs.Common.{◌≡◌, ◌==◌, ◌+◌, ◌||◌, arith, ℕ, zero, suc, Bool, true, false, List, [], ◌∷◌, Some, None, Result, Ok, Err, IfOk, length, slice_get, refl, sym, ap, subst, ◌∙◌}
use Rattle.std.proofs.lemmas.Bool.{eq-eqb}
use Rattle.ir_trees.specs.declared.ir.heads.Flag.TheVariants as flag
use Rattle.ir_trees.specs.declared.ir.heads.ListHead.TheVariants as L
use Rattle.ir_trees.specs.declared.ir.kinds.Args.{Args}
use Rattle.ir_trees.specs.declared.ir.kinds.Clause.{Clause}
use Rattle.ir_trees.specs.declared.ir.kinds.ParamEnv.{ParamEnv}
use Rattle.ir_trees.specs.declared.ir.kinds.TraitPredicate.{TraitPredicate}
use Rattle.ir_trees.specs.declared.ir.kinds.TraitRef.{TraitRef}
use Rattle.ir_trees.specs.Declarations.Context.{Context, Grows, world}
use Rattle.ir_trees.specs.Declarations.References.{ArgumentsFit}
use Rattle.ir_trees.specs.Declarations.Worlds.{World, TraitSort, joined, kinds_of, parameters}
use Rattle.ir_trees.specs.Instantiation.Folding.{substituted_tree}
use Rattle.ir_trees.specs.Syntax.Flags.{mark}
use Rattle.ir_trees.specs.Syntax.Table.{AreDistinct}
use Rattle.ir_trees.specs.Syntax.Trees.{ArgumentsKind, Forest, Kind, TypeKind, none, Tree, holds}
use Rattle.ir_trees.specs.Syntax.Words.{ClauseListFits, IsArgs, IsParamEnv, args_forest, clause_tree, env_forest}
use Rattle.ir_trees.proofs.Growth.Kept.{args-kept, grows-refl}
use Rattle.ir_context.proofs.Growth.One.{list-one}
use Rattle.ir_folds.proofs.Instantiation.Joining.{clause-kept}
use Rattle.candidate_eval.specs.declared.eval.mode.TypingMode.TheVariants.{Coherence}
use Rattle.candidate_eval.specs.Derivations.ImplRules.{TraitGoal}
use Rattle.candidate_eval.specs.Dynamic.ObjectRequirements.{arguments_of, trait_said}
use Rattle.candidate_eval.specs.Judges.States.{State, resolved, resolved_tree}
use Rattle.candidate_assembly.specs.Goals.TraitGoals.{trait_goal}
use Rattle.candidate_assembly.proofs.Calls.Keeping.{trait-goal-says}
use Rattle.candidate_rounds.specs.Calls.Standing.{stands_at}
use Rattle.candidate_rounds.specs.Evaluators.Interface.{Fixed, fixed, judge_of}
use Rattle.candidate_rounds.specs.Evaluators.Known.{Evaluator, state, table_of}
use Rattle.candidate_rounds.specs.Table.Goals.{Via}
use Rattle.candidate_rounds.specs.Table.Running.{computing, with_table}
use Rattle.rounds_judge.specs.Table.GoalTable.{GoalTable}
use Rattle.rounds_judge.specs.Table.Keys.{key_at}
use Rattle.candidate_rounds.specs.Table.Efforts.{Runs}
use Rattle.overlaps.specs.PartTraits.{HaveVariable}
use Rattle.overlaps.specs.Asked.{AllStay, BothStay, ClauseStays, FirstStay, ImplStays, StayBefore, DecidesNothing, GoalStays, IsNotRefused, SoManyStay, StaysHere, WasRun, WasTried, says_nothing, asks, decides_nothing, ran_there, stands_not, stands_nowhere, was_run, was_tried, none_asked, one_asked, before_of_first, before_of_second}
use Rattle.overlaps.specs.Refused.{AreOpen, IsOpen, StaysBesideSteps, clause_at, goal_alone}
use Rattle.overlaps.specs.Stopping.{IsLater}
use Rattle.overlaps.specs.declared.opening.Opened.{Opened}
use Rattle.overlaps.specs.declared.opening.Pair.{Pair}
use Rattle.overlaps.specs.declared.overlap.WhereClause.{WhereClause}
use Rattle.overlaps.proofs.Refusing.{goal-is-alone, got-fits, instance-kept}
use Rattle.overlaps.proofs.Staying.{stays-trans}
use Rattle.overlaps.proofs.Stopping.{later-steps, later-then}
use Rattle.candidate_rounds.specs.declared.rounds.effort.Effort.{Effort}

-- two things that hold where it is answered
pub both-ok : {A E : Type 0} (r : Result A E) (P Q : A → Type 0) → IfOk r P → IfOk r Q → IfOk r (λ a. P a × Q a)
both-ok (Ok a) P Q p q = (p, q)
both-ok (Err e) P Q p q = tt

-- a variable of types stands in the trees, or one of constants

pub type-variable : (f : Forest) → holds (mark flag.TyInfer) f ≡ true → HaveVariable f
type-variable f e = ap (λ b. b || holds (mark flag.ConstInfer) f) e

pub constant-variable : (f : Forest) → holds (mark flag.ConstInfer) f ≡ true → HaveVariable f
constant-variable f e = ap (λ b. holds (mark flag.TyInfer) f || b) e ∙ either (holds (mark flag.TyInfer) f)
  where
    either : (b : Bool) → b || true ≡ true
    either true = refl
    either false = refl

-- equal lists of arguments have one number
args-one : (ts : List Tree) (a b : Args) → AreDistinct ts → IsArgs ts a → IsArgs ts b → args_forest ts a ≡ args_forest ts b → a ≡ b
args-one ts a b one i j e = ap (λ n. let v : Args = record { 0 = n } in v) (list-one ts ArgumentsKind L.Args a.0 b.0 refl refl one i j e)

-- A list whose number isn't that of the list with all values put in has another one for its members then.
pub isnt-resolved : (old now : Context) (S : State) (a all : Args) (b : Bool) → Grows old now → AreDistinct now.trees → IsArgs old.trees a → IsArgs now.trees all
    → args_forest now.trees all ≡ resolved S (args_forest old.trees a) → b ≡ (all.0 == a.0) → b ≡ false → resolved S (args_forest old.trees a) ≡ args_forest old.trees a → ⊥
isnt-resolved old now S a all b g one i j tree tests isnt e =
    let kept = args-kept old now a g i in
    let same = args-one now.trees all a one j kept.0 (tree ∙ (e ∙ sym kept.1)) in
    let equal = eq-eqb all.0 a.0 (ap (λ (x : Args). x.0) same) in
    let clash : true ≡ false = sym equal ∙ (sym tests ∙ isnt) in
    absurd cc

-- Arguments that fit do so by a context that has grown.
pub arguments-fit-kept : (old new : Context) (r : TraitRef) → Grows old new → IsArgs old.trees r.args → ArgumentsFit old r → ArgumentsFit new r
arguments-fit-kept old new r grows a fit =
    let w : world new ≡ world old = ap world grows.same in
    subst (λ (ks : List Kind). joined (Some (TypeKind ∷ [])) (parameters (world new) TraitSort r.def_id.0) ≡ Some ks) (ap kinds_of (sym (args-kept old new r.args grows a).1))
    (subst (λ (x : World). joined (Some (TypeKind ∷ [])) (parameters x TraitSort r.def_id.0) ≡ Some (kinds_of (args_forest old.trees r.args))) (sym w) fit)

-- What stays of an earlier evaluator, for the same state and tables

run-earlier : (old mid : Evaluator) (S : State) (effort : Effort) (g : TraitGoal) (T U : GoalTable Via) → IsLater old mid → WasRun mid S effort g T U → WasRun old S effort g T U
run-earlier old mid S effort g T U l h = record {
  before = h.before;
  later = later-then l h.later;
  stands = h.stands;
  ran = h.ran;
  context = h.context;
  grows = h.grows;
  not_refused = subst (λ (f : Fixed). IsNotRefused (judge_of f) h.context S g) (ap (λ f. with_table f U) l.fixed_same) h.not_refused;
}

tried-earlier : (old mid : Evaluator) (S : State) (effort : Effort) (g : TraitGoal) (T U : GoalTable Via) → IsLater old mid → WasTried mid S effort g T U → WasTried old S effort g T U
tried-earlier old mid S effort g T U l (ran_there h) = ran_there (record { before = h.before; later = later-then l h.later; stands = h.stands; ran = h.ran })
tried-earlier old mid S effort g T U l (stands_nowhere n e) = stands_nowhere n e

goal-earlier : (old mid : Evaluator) (S : State) (effort : Effort) (g : TraitGoal) (T U : GoalTable Via) → IsLater old mid → GoalStays mid S effort g T U → GoalStays old S effort g T U
goal-earlier old mid S effort g T U l (decides_nothing m d e) = decides_nothing m d e
goal-earlier old mid S effort g T U l (was_run h) = was_run (run-earlier old mid S effort g T U l h)
goal-earlier old mid S effort g T U l (was_tried n h) = was_tried n (tried-earlier old mid S effort g T U l h)

clause-earlier : (old mid : Evaluator) (S : State) (effort : Effort) (t : Tree) (T U : GoalTable Via) → IsLater old mid → ClauseStays mid S effort t T U → ClauseStays old S effort t T U
clause-earlier old mid S effort t T U l (says_nothing n e) = says_nothing n e
clause-earlier old mid S effort t T U l (asks g a h) = asks g a (goal-earlier old mid S effort g T U l h)

-- The goal of a predicate

-- It doesn't stand where a later context says so.
pub stands-not : (old mid : Evaluator) (env : ParamEnv) (p : TraitPredicate) (b : Bool) → Grows old.context mid.context → state mid ≡ state old → IsParamEnv old.context.trees env
    → IsArgs old.context.trees p.trait_ref.args → b ≡ false → ArgumentsFit old.context p.trait_ref
    → (ArgumentsFit mid.context p.trait_ref → stands_at (state mid) (trait_goal mid.context.trees env p) ≡ true → b ≡ true) → DecidesNothing (state old) (trait_goal old.context.trees env p)
stands-not old mid env p b grows same e a isnt fit all =
    stands_not
    (λ t.
    let s = sym same in
    let g = sym (trait-goal-says old.context mid.context env p grows e a).seen in
    let there : stands_at (state mid) (trait_goal mid.context.trees env p) ≡ true = subst (λ (q : State × TraitGoal). stands_at q.0 q.1 ≡ true) (λ i. (s i, g i)) t in
    let yes = all (arguments-fit-kept old.context mid.context p.trait_ref grows a fit) there in
    let clash : true ≡ false = sym yes ∙ isnt in
    absurd cc)

pub predicate-undecided : (old new : Evaluator) (env : ParamEnv) (p : TraitPredicate) (effort : Effort) → table_of new ≡ table_of old → IsParamEnv old.context.trees env → IsArgs old.context.trees p.trait_ref.args
    → env_forest old.context.trees env ≡ none → (state old).mode ≡ Coherence → DecidesNothing (state old) (trait_goal old.context.trees env p)
    → GoalStays old (state old) effort (goal_alone old.context.trees p) (table_of old) (table_of new)
predicate-undecided old new env p effort t e a empty m d =
    decides_nothing m (subst (DecidesNothing (state old)) (goal-is-alone old.context old.context env p (grows-refl old.context) e a empty) d) t

pub predicate-run : (old begun ran new : Evaluator) (env : ParamEnv) (p : TraitPredicate) (effort : Effort) → StaysBesideSteps old begun → table_of begun ≡ table_of old → StaysBesideSteps begun ran
    → fixed new ≡ fixed ran → IsParamEnv old.context.trees env → IsArgs old.context.trees p.trait_ref.args → env_forest old.context.trees env ≡ none
    → Runs (computing begun) (key_at (state begun) (trait_goal begun.context.trees env p)) effort (table_of begun) (table_of ran)
    → IsNotRefused (judge_of (fixed ran)) ran.context (state ran) (trait_goal ran.context.trees env p)
    → GoalStays old (state old) effort (goal_alone old.context.trees p) (table_of old) (table_of new)
predicate-run old begun ran new env p effort stays t more f e a empty run h =
    let all = stays-trans stays more in
    let s = stays.state_same in
    let w = all.state_same in
    let g = goal-is-alone old.context begun.context env p stays.grows e a empty in
    let k = goal-is-alone old.context ran.context env p all.grows e a empty in
    let u : table_of ran ≡ table_of new = sym (ap (λ (x : Fixed). x.table) f) in
    let z : with_table (fixed ran) (table_of ran) ≡ with_table (fixed old) (table_of new) = ap (λ x. with_table x (table_of ran)) all.fixed_same ∙ ap (with_table (fixed old)) u in
    was_run (record {
      before = begun;
      later = later-steps stays;
      stands = s;
      ran = subst (λ (q : State × TraitGoal × GoalTable Via × GoalTable Via). Runs (computing begun) (key_at q.0 q.1) effort q.2 q.3) (λ i. (s i, g i, t i, u i)) run;
      context = ran.context;
      grows = more.grows;
      not_refused = subst (λ (q : Fixed × State × TraitGoal). IsNotRefused (judge_of q.0) ran.context q.1 q.2) (λ i. (z i, w i, k i)) h;
    })

-- It was run where it stands, whatever it comes to; or it doesn't stand.

pub predicate-tried : (old begun new : Evaluator) (env : ParamEnv) (p : TraitPredicate) (effort : Effort) → StaysBesideSteps old begun → table_of begun ≡ table_of old
    → IsParamEnv old.context.trees env → IsArgs old.context.trees p.trait_ref.args → env_forest old.context.trees env ≡ none
    → Runs (computing begun) (key_at (state begun) (trait_goal begun.context.trees env p)) effort (table_of begun) (table_of new)
    → WasTried old (state old) effort (goal_alone old.context.trees p) (table_of old) (table_of new)
predicate-tried old begun new env p effort stays t e a empty run =
    let s = stays.state_same in
    let g = goal-is-alone old.context begun.context env p stays.grows e a empty in
    ran_there (record {
      before = begun;
      later = later-steps stays;
      stands = s;
      ran = subst (λ (q : State × TraitGoal × GoalTable Via). Runs (computing begun) (key_at q.0 q.1) effort q.2 (table_of new)) (λ i. (s i, g i, t i)) run;
    })

pub predicate-not-tried : (old new : Evaluator) (env : ParamEnv) (p : TraitPredicate) (effort : Effort) (b : Bool) → table_of new ≡ table_of old → IsParamEnv old.context.trees env
    → IsArgs old.context.trees p.trait_ref.args → env_forest old.context.trees env ≡ none → b ≡ false
    → (stands_at (state old) (trait_goal old.context.trees env p) ≡ true → b ≡ true)
    → WasTried old (state old) effort (goal_alone old.context.trees p) (table_of old) (table_of new)
predicate-not-tried old new env p effort b t e a empty isnt all =
    stands_nowhere
    (λ h.
    let g = goal-is-alone old.context old.context env p (grows-refl old.context) e a empty in
    let yes = all (subst (λ (x : TraitGoal). stands_at (state old) x ≡ true) (sym g) h) in
    let clash : true ≡ false = sym yes ∙ isnt in
    absurd cc)
    t

-- A clause with all values put in: it says nothing of a trait, or the predicate is what it says.

pub clause-silent : (old mid : Evaluator) (t : Tree) (x : Clause) (effort : Effort) → table_of mid ≡ table_of old → clause_tree mid.context.trees x ≡ resolved_tree (state old) t
    → trait_said (clause_tree mid.context.trees x).head ≡ None → ClauseStays old (state old) effort (resolved_tree (state old) t) (table_of old) (table_of mid)
clause-silent old mid t x effort u is silent = says_nothing (ap (λ (v : Tree). trait_said v.head) (sym is) ∙ silent) u

pub clause-asked : (old mid : Evaluator) (t : Tree) (x : Clause) (p : TraitPredicate) (effort : Effort) (U : GoalTable Via) → IsLater old mid → state mid ≡ state old → table_of mid ≡ table_of old
    → clause_tree mid.context.trees x ≡ resolved_tree (state old) t → trait_said (clause_tree mid.context.trees x).head ≡ Some (p.trait_ref.def_id, p.polarity)
    → arguments_of (clause_tree mid.context.trees x) ≡ args_forest mid.context.trees p.trait_ref.args → GoalStays mid (state mid) effort (goal_alone mid.context.trees p) (table_of mid) U
    → ClauseStays old (state old) effort (resolved_tree (state old) t) (table_of old) U
clause-asked old mid t x p effort U l s u is said fits h =
    asks (goal_alone mid.context.trees p)
    (record {
      says = ap (λ (v : Tree). trait_said v.head) (sym is) ∙ said;
      arguments = sym fits ∙ ap arguments_of is;
      under = refl;
    })
    (goal-earlier old mid (state old) effort (goal_alone mid.context.trees p) (table_of old) U l
    (subst (λ (q : State × GoalTable Via). GoalStays mid q.0 effort (goal_alone mid.context.trees p) q.1 U) (λ i. (s i, u i)) h))

-- A probe that was open meanwhile changes nothing of it.
pub clause-probed : (old began ran new : Evaluator) (effort : Effort) (t : Tree) → IsLater old began → fixed began ≡ fixed old → state began ≡ state old → fixed new ≡ fixed ran
    → ClauseStays began (state began) effort (resolved_tree (state began) t) (table_of began) (table_of ran)
    → ClauseStays old (state old) effort (resolved_tree (state old) t) (table_of old) (table_of new)
clause-probed old began ran new effort t l f s n h =
    let u : table_of began ≡ table_of old = ap (λ (x : Fixed). x.table) f in
    let v : table_of ran ≡ table_of new = sym (ap (λ (x : Fixed). x.table) n) in
    clause-earlier old began (state old) effort (resolved_tree (state old) t) (table_of old) (table_of new) l
    (subst (λ (q : State × GoalTable Via × GoalTable Via). ClauseStays began q.0 effort (resolved_tree q.0 t) q.1 q.2) (λ i. (s i, u i, v i)) h)

-- Several clauses

-- one more, asked by a later evaluator
pub one-more : (old mid : Evaluator) (effort : Effort) (locals : Args) (xs : List Clause) (n : ℕ) (x : Clause) (T U : GoalTable Via) → StaysBesideSteps old mid → IsArgs old.context.trees locals
    → ClauseListFits old.context.trees xs → SoManyStay old (state old) effort (args_forest old.context.trees locals) xs T n (table_of mid) → slice_get xs n ≡ Some x
    → StaysHere mid (state mid) effort (args_forest mid.context.trees locals) x (table_of mid) U → SoManyStay old (state old) effort (args_forest old.context.trees locals) xs T (n + 1) U
one-more old mid effort locals xs n x T U stays a fit before is h =
    let e = instance-kept old.context mid.context locals x stays.grows a (got-fits old.context.trees xs n x fit is) in
    let s = stays.state_same in
    let next : suc n ≡ n + 1 = omega (arith) in
    subst (λ k. SoManyStay old (state old) effort (args_forest old.context.trees locals) xs T k U) next
    (one_asked x before is
    (clause-earlier old mid (state old) effort (clause_at old.context (state old) (args_forest old.context.trees locals) x) (table_of mid) U (later-steps stays)
    (subst (λ (q : State × Tree). ClauseStays mid q.0 effort (resolved_tree q.0 q.1) (table_of mid) U) (λ i. (s i, e i)) h)))

-- the trees of the clauses are those of an earlier context
abbrev pub AreClausesOf : Context → Context → List Clause → Type 0
AreClausesOf old new xs = (n : ℕ) (x : Clause) → slice_get xs n ≡ Some x → clause_tree new.trees x ≡ clause_tree old.trees x

pub clauses-kept : (old new : Context) (xs : List Clause) → Grows old new → ClauseListFits old.trees xs → AreClausesOf old new xs
clauses-kept old new xs g fit = λ n x is. (clause-kept old new x g (got-fits old.trees xs n x fit is)).1

-- Clauses of which an earlier evaluator has the trees stay of it, for the same state and tables.
pub so-many-said : (old mid : Evaluator) (S : State) (effort : Effort) (locals : Forest) (xs : List Clause) (T : GoalTable Via) (n : ℕ) (U : GoalTable Via) → IsLater old mid
    → AreClausesOf old.context mid.context xs → SoManyStay mid S effort locals xs T n U → SoManyStay old S effort locals xs T n U
so-many-said old mid S effort locals xs T zero U l same none_asked = none_asked
so-many-said old mid S effort locals xs T (suc n) V l same (one_asked {U = U} x before is h) =
    let e = ap (substituted_tree locals) (same n x is) in
    one_asked x (so-many-said old mid S effort locals xs T n U l same before) is
    (clause-earlier old mid S effort (clause_at old.context S locals x) U V l (subst (λ (t : Tree). ClauseStays mid S effort (resolved_tree S t) U V) e h))

-- Those of an open impl, and of both
impl-earlier : (old mid : Evaluator) (S : State) (effort : Effort) (o : Opened) (T U : GoalTable Via) → IsLater old mid → IsOpen old.context.trees o → ImplStays mid S effort o T U → ImplStays old S effort o T U
impl-earlier old mid S effort o T U l known h =
    let xs = o.wheres.items in
    let ls = args_forest old.context.trees o.locals in
    so-many-said old mid S effort ls xs T (length xs) U l (clauses-kept old.context mid.context xs l.grows known.2.fit)
    (subst (λ (f : Forest). AllStay mid S effort f xs T U) (args-kept old.context mid.context o.locals l.grows known.0).1 h)

pub both-earlier : (old mid : Evaluator) (S : State) (effort : Effort) (p : Pair) (T U : GoalTable Via) → IsLater old mid → AreOpen old.context.trees p → BothStay mid S effort p T U → BothStay old S effort p T U
both-earlier old mid S effort p T U l known h = record {
  between = h.between;
  first = impl-earlier old mid S effort p.first T h.between l known.0 h.first;
  second = impl-earlier old mid S effort p.second h.between U l known.1 h.second;
}

-- as many as there are before one
first-earlier : (old mid : Evaluator) (S : State) (effort : Effort) (o : Opened) (T : GoalTable Via) (n : ℕ) → IsLater old mid → IsOpen old.context.trees o
    → FirstStay mid S effort (args_forest mid.context.trees o.locals) o.wheres.items T n → FirstStay old S effort (args_forest old.context.trees o.locals) o.wheres.items T n
first-earlier old mid S effort o T n l known (U, h) = (
  U,
  so-many-said old mid S effort (args_forest old.context.trees o.locals) o.wheres.items T n U l (clauses-kept old.context mid.context o.wheres.items l.grows known.2.fit)
      (subst (λ (f : Forest). SoManyStay mid S effort f o.wheres.items T n U) (args-kept old.context mid.context o.locals l.grows known.0).1 h),
)

-- the second asked by a later evaluator
pub both-stay : (old mid new : Evaluator) (effort : Effort) (p : Pair) → StaysBesideSteps old mid → AreOpen old.context.trees p → ImplStays old (state old) effort p.first (table_of old) (table_of mid)
    → ImplStays mid (state mid) effort p.second (table_of mid) (table_of new) → BothStay old (state old) effort p (table_of old) (table_of new)
both-stay old mid new effort p stays open-pair first second =
    let T = table_of mid in
    record {
      between = T;
      first = first;
      second =
          impl-earlier old mid (state old) effort p.second T (table_of new) (later-steps stays) open-pair.1
          (subst (λ (S : State). ImplStays mid S effort p.second T (table_of new)) stays.state_same second);
    }

-- Clauses of the second one as far as that one, asked by a later evaluator behind all of the first
pub before-of-second : (old mid : Evaluator) (effort : Effort) (p : Pair) (w : WhereClause) → StaysBesideSteps old mid → AreOpen old.context.trees p → w.of ≡ p.second.of
    → ImplStays old (state old) effort p.first (table_of old) (table_of mid) → FirstStay mid (state mid) effort (args_forest mid.context.trees p.second.locals) p.second.wheres.items (table_of mid) w.number
    → StayBefore old (state old) effort p (table_of old) w
before-of-second old mid effort p w stays open-pair of first second =
    before_of_second (table_of mid) of first
    (subst (λ (S : State). FirstStay old S effort (args_forest old.context.trees p.second.locals) p.second.wheres.items (table_of mid) w.number) stays.state_same
    (first-earlier old mid (state mid) effort p.second (table_of mid) w.number (later-steps stays) open-pair.1 second))

pub before-earlier : (old mid : Evaluator) (S : State) (effort : Effort) (p : Pair) (T : GoalTable Via) (w : WhereClause) → IsLater old mid → AreOpen old.context.trees p → StayBefore mid S effort p T w
    → StayBefore old S effort p T w
before-earlier old mid S effort p T w l known (before_of_first of h) = before_of_first of (first-earlier old mid S effort p.first T w.number l known.0 h)
before-earlier old mid S effort p T w l known (before_of_second U of first h) =
    before_of_second U of (impl-earlier old mid S effort p.first T U l known.0 first) (first-earlier old mid S effort p.second U w.number l known.1 h)
