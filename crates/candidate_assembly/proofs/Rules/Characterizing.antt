-- Characterisation: walks, one after the other.
use Rattle.std.proofs.Common.{Bool, Err, List, None, Ok, Option, Result, Some, [], ap, arith, false, length, max, nat_eq, nat_lt, refl, subst, suc, sym, true, ℕ, ◌+◌, ◌-◌, ◌<◌, ◌||◌, ◌∙◌, ◌∷◌, ◌≡◌, ◌≤◌}
use Rattle.std.specs.Prelude.{IfErr, IfSome, if◌then◌else◌}
use Rattle.std.specs.Option.{unwrap_or}
use Rattle.std.specs.Result.{IsErrAnd}
use Rattle.ir_trees.specs.declared.ir.heads.Head.{Head}
use Rattle.ir_trees.specs.declared.ir.heads.Head.TheVariants as H
use Rattle.ir_trees.specs.declared.ir.heads.ConstHead.TheVariants as C
use Rattle.ir_trees.specs.declared.ir.heads.PartHead.{PartHead}
use Rattle.ir_trees.specs.declared.ir.kinds.Args.{Args}
use Rattle.ir_trees.specs.declared.ir.kinds.Clause.{Clause}
use Rattle.ir_trees.specs.declared.ir.kinds.Const.{Const}
use Rattle.ir_trees.specs.declared.ir.kinds.GenericArg.{GenericArg}
use Rattle.ir_trees.specs.declared.ir.kinds.GenericArg.TheVariants as A
use Rattle.ir_trees.specs.declared.ir.kinds.ParamEnv.{ParamEnv}
use Rattle.ir_trees.specs.declared.ir.kinds.Region.{Region}
use Rattle.ir_trees.specs.declared.ir.kinds.RegionKind.TheVariants as R
use Rattle.ir_trees.specs.declared.ir.kinds.Ty.{Ty}
use Rattle.ir_trees.specs.declared.ir.stop.Stop.{Stop}
use Rattle.ir_trees.specs.declared.ir.stop.Stop.TheVariants.{Memory, NodesFull, ConstDepth}
use Rattle.ir_trees.specs.Declarations.Context.{Context, Grows}
use Rattle.ir_trees.specs.Instantiation.Folding.{fold}
use Rattle.ir_trees.specs.Instantiation.Folds.{IsArg, arg_tree, is_asked, is_asked_kind}
use Rattle.ir_trees.specs.Syntax.Kinds.{arg_number, arg_kind, arg_there}
use Rattle.ir_trees.specs.Syntax.Nodes.{tree_at}
use Rattle.ir_trees.specs.Instantiation.Opening.{opened, opened_tree, opened_head}
use Rattle.ir_trees.specs.Hierarchy.Supers.{after_first}
use Rattle.ir_trees.specs.Syntax.Trees.{ClauseKind, ConstantKind, Forest, Kind, RegionKind, Tree, TypeKind, binders_of, count, holds, kind_of, none, skip, tree, tree_holds}
use Rattle.ir_trees.specs.Syntax.Words.{IsArgs, IsClause, IsParamEnv, args_forest, clause_tree, const_tree, region_tree, ty_tree}
use Rattle.ir_folds.proofs.Traversal.FoldSteps.{extends-length}
use Rattle.ir_trees.proofs.Growth.Kept.{grows-refl, number-kept, args-kept}
use Rattle.ir_trees.proofs.Syntax.Lists.{below_kind, kind_of-tree_at}
use Rattle.candidate_eval.specs.declared.eval.certainty.Certainty.{Certainty}
use Rattle.candidate_eval.specs.declared.eval.certainty.Certainty.TheVariants.{Yes}
use Rattle.candidate_eval.specs.declared.eval.refusal.NoSolutionOrStop.{NoSolutionOrStop}
use Rattle.candidate_eval.specs.declared.eval.refusal.NoSolutionOrStop.TheVariants as N
use Rattle.candidate_eval.specs.declared.eval.source.CandidateSource.TheVariants as Source
use Rattle.candidate_eval.specs.declared.eval.source.ParamEnvSource.{ParamEnvSource}
use Rattle.candidate_eval.specs.Interface.Accounts.{Account, Question, Reaches, StopsSomehow, by_stop}
use Rattle.candidate_eval.specs.Interface.Accounts.StopsSomehow.{making, asking}
use Rattle.candidate_eval.specs.Derivations.Characterization.{Walk, Goes, Finds, Refuses, Stops, Loose, Bounded, characterization, is_any_bound, most_visits, and_then, each, each_group, each_group_of, group_of, groups, in_normal_form, looked, region_seen, under_binder, bound_kinds, visited, visited_as}
use Rattle.candidate_eval.specs.Interface.Evaluators.{Keeps, IsMakingStop, IsEvaluatorStop, rigid, with_rigid}
use Rattle.candidate_eval.specs.Derivations.Judging.{Judged, Refused, asked, by_finding}
use Rattle.candidate_eval.specs.Interface.Knowing.{is_evaluator_stop}
use Rattle.candidate_eval.specs.Judges.States.{Env, State, Judge, resolved_tree}
use Rattle.candidate_eval.proofs.Interface.Accounts.{accounted-here, by-stop, reaches, somehow-later}
use Rattle.candidate_eval.proofs.Interface.Knowing.{own-stops}
use Rattle.candidate_eval.proofs.Dynamic.Objects.{env-kept}
use Rattle.candidate_eval.proofs.Interface.Probing.{keeps-trans}
use Rattle.candidate_assembly.specs.declared.assembly.characterize.Visited.{Visited}
use Rattle.candidate_assembly.specs.declared.assembly.characterize.Visited.TheVariants as V
use Rattle.candidate_assembly.specs.Calls.Characterizing.{HasFewConstants, HasFewTypes, Leads, Tells, Walks, ended, first_visited, found, group_visited, rest_visited, visited_at}
use Rattle.candidate_assembly.specs.Answers.Sources.{answer_of}
use Rattle.candidate_eval.specs.Interface.Unmade.{IsUnmade}
use Rattle.candidate_eval.proofs.Interface.Unmade.{unmade-making, wide-later}
use Rattle.candidate_eval.proofs.Interface.StopKinds.{child-beyond}

-- an argument has a number of the context
pub arg-below : (ts : List Tree) (a : GenericArg) → IsArg ts a → arg_number a < length ts
arg-below ts a h = below_kind ts (arg_number a) (arg_kind a) (arg_there a) h

true-false : true ≡ false → ⊥
true-false e = cc

one-more : (n : ℕ) → suc n ≡ n + 1
one-more n = omega arith

lt-true : (i n : ℕ) → i < n → nat_lt i n ≡ true
lt-true i n h = grind (arith, h)

lt-false : (i n : ℕ) → n ≤ i → nat_lt i n ≡ false
lt-false i n h = grind (arith, h)

-- One visit.

abbrev most : Judge → ℕ
most J = J.limits.recursion + J.limits.const_depth + 3

left-below : (J : Judge) (m n : ℕ) → HasFewTypes J m → HasFewConstants J n → most J - (m + n) ≡ suc (most J - (m + 1 + n))
left-below J m n a b = omega (arith, a, b)

visit-begins : (J : Judge) (e : Env) (m n : ℕ) → HasFewTypes J m → HasFewConstants J n → (S : State) (t : Tree)
    → visited_at J e m n S t ≡ visited_as J e (visited J e (most J - (m + 1 + n))) m n S t (kind_of t.head)
unfolding visited_at
visit-begins J e m n a b S t = ap (λ (x : ℕ). visited J e x m n S t) (left-below J m n a b)

of-kind : (J : Judge) (e : Env) (m n : ℕ) (k : Kind) → HasFewTypes J m → HasFewConstants J n → (S : State) (t : Tree) → kind_of t.head ≡ k
    → visited_at J e m n S t ≡ visited_as J e (visited J e (most J - (m + 1 + n))) m n S t k
of-kind J e m n k a b S t h = visit-begins J e m n a b S t ∙ ap (λ (x : Kind). visited_as J e (visited J e (most J - (m + 1 + n))) m n S t x) h

other-kind : (J : Judge) (e : Env) (deeper : ℕ → ℕ → State → Tree → Walk) (m n : ℕ) (S : State) (t : Tree) (k : Kind) → is_asked_kind k ≡ false
    → visited_as J e deeper m n S t k ≡ Goes S
other-kind J e deeper m n S t TypeKind h = absurd cc
other-kind J e deeper m n S t ConstantKind h = absurd cc
other-kind J e deeper m n S t RegionKind h = absurd cc
other-kind J e deeper m n S t _ h = refl

-- what is no type, constant or region says nothing
pub unasked : (J : Judge) (e : Env) (m n : ℕ) → HasFewTypes J m → HasFewConstants J n → (S : State) (t : Tree) → is_asked t.head ≡ false → visited_at J e m n S t ≡ Goes S
unasked J e m n a b S t h = visit-begins J e m n a b S t ∙ other-kind J e (visited J e (most J - (m + 1 + n))) m n S t (kind_of t.head) h

unasked-stays : (values : Forest) (d : ℕ) (h : Head) → is_asked h ≡ false → opened_head values d h ≡ None
unasked-stays values d (H.Bound v) a = absurd cc
unasked-stays values d (H.Const (C.Bound v)) a = absurd cc
unasked-stays values d (H.Region (R.Bound v)) a = absurd cc
unasked-stays values d _ a = refl

-- opened or not
pub unasked-opened : (J : Judge) (e : Env) (m n : ℕ) → HasFewTypes J m → HasFewConstants J n → (S : State) (values : Forest) (t : Tree) → is_asked t.head ≡ false
    → visited_at J e m n S (opened_tree values t) ≡ Goes S
unasked-opened J e m n a b S values t h =
    let below = fold (λ d u. opened_head values d u.head) (0 + binders_of t.head) t.children in
    let it : Option Tree → Tree = λ o. unwrap_or o (record { head = t.head; children = below }) in
    ap (λ (o : Option Tree). visited_at J e m n S (it o)) (unasked-stays values 0 t.head h) ∙ unasked J e m n a b S (record { head = t.head; children = below }) h

-- a type: its normal form is looked at
pub a-type : (J : Judge) (e : Env) (m n : ℕ) → HasFewTypes J m → HasFewConstants J n → (S : State) (t : Tree) → kind_of t.head ≡ TypeKind
    → visited_at J e m n S t ≡ in_normal_form (J.normalized S e t) (looked (visited_at J e (m + 1) n) (nat_lt J.limits.recursion m))
unfolding visited_at
a-type J e m n a b S t h =
    let left = most J - (m + 1 + n) in
    of-kind J e m n TypeKind a b S t h
    ∙ ap (λ (x : ℕ). in_normal_form (J.normalized S e t) (looked (visited J e left x n) (nat_lt J.limits.recursion m))) (one-more m)

-- a constant: so is its normal form, where not too many are nested
a-constant : (J : Judge) (e : Env) (m n : ℕ) → HasFewTypes J m → HasFewConstants J n → (S : State) (t : Tree) → kind_of t.head ≡ ConstantKind
    → visited_at J e m n S t ≡ (if nat_lt n J.limits.const_depth then in_normal_form (J.normalized S e t) (looked (visited_at J e m (n + 1)) false) else Stops ConstDepth)
unfolding visited_at
a-constant J e m n a b S t h =
    let left = most J - (m + 1 + n) in
    let same : left ≡ most J - (m + (n + 1)) = omega arith in
    let by : ℕ → ℕ → Walk = λ y z. if nat_lt n J.limits.const_depth then in_normal_form (J.normalized S e t) (looked (visited J e y m z) false) else Stops ConstDepth in
    of-kind J e m n ConstantKind a b S t h
    ∙ (ap (λ (x : ℕ). by x (suc n)) same ∙ ap (λ (x : ℕ). by (most J - (m + (n + 1))) x) (one-more n))

pub an-allowed-constant : (J : Judge) (e : Env) (m n : ℕ) → HasFewTypes J m → n < J.limits.const_depth → (S : State) (t : Tree) → kind_of t.head ≡ ConstantKind
    → visited_at J e m n S t ≡ in_normal_form (J.normalized S e t) (looked (visited_at J e m (n + 1)) false)
an-allowed-constant J e m n a b S t h =
    a-constant J e m n a (omega (arith, b)) S t h
    ∙ ap (λ (x : Bool). if x then in_normal_form (J.normalized S e t) (looked (visited_at J e m (n + 1)) false) else Stops ConstDepth) (lt-true n J.limits.const_depth b)

pub a-deep-constant : (J : Judge) (e : Env) (m n : ℕ) → HasFewTypes J m → HasFewConstants J n → J.limits.const_depth ≤ n → (S : State) (t : Tree) → kind_of t.head ≡ ConstantKind
    → visited_at J e m n S t ≡ Stops ConstDepth
a-deep-constant J e m n a b d S t h =
    a-constant J e m n a b S t h
    ∙ ap (λ (x : Bool). if x then in_normal_form (J.normalized S e t) (looked (visited_at J e m (n + 1)) false) else Stops ConstDepth) (lt-false n J.limits.const_depth d)

-- a region
pub a-region : (J : Judge) (e : Env) (m n : ℕ) → HasFewTypes J m → HasFewConstants J n → (S : State) (t : Tree) → kind_of t.head ≡ RegionKind
    → visited_at J e m n S t ≡ region_seen S (resolved_tree S t).head
a-region J e m n a b S t h = of-kind J e m n RegionKind a b S t h

-- a refused normal form
pub none-refused : {w : Walk} (o : Option (Tree × State)) (k : State → Tree → Walk) → w ≡ in_normal_form o k → o ≡ None → w ≡ Refuses
none-refused o k e n = e ∙ ap (λ (x : Option (Tree × State)). in_normal_form x k) n

-- A clause.

clause-unbound : (h : Head) → kind_of h ≡ ClauseKind → is_any_bound h ≡ false
clause-unbound (H.Bound v) e = absurd cc
clause-unbound (H.Const (C.Bound v)) e = absurd cc
clause-unbound (H.Region (R.Bound v)) e = absurd cc
clause-unbound _ e = refl

below-clause : (c : Tree) (b : Bool) → kind_of c.head ≡ ClauseKind → b ≡ tree_holds is_any_bound c → holds is_any_bound c.children ≡ b
below-clause c b k e = sym (e ∙ ap (λ (x : Bool). x || holds is_any_bound c.children) (clause-unbound c.head k))

pub with-bound : (J : Judge) (e : Env) (S : State) (c : Tree) (b : Bool) → kind_of c.head ≡ ClauseKind → b ≡ tree_holds is_any_bound c → b ≡ true
    → characterization J e S c ≡ Finds S Yes
with-bound J e S c b k h t =
    ap (λ (x : Bool). if x then Finds S Yes else each (visited J e (most_visits J) 1 0) S (opened none (after_first c.children))) (below-clause c b k h ∙ t)

pub without-bound : (J : Judge) (e : Env) (S : State) (c : Tree) (b : Bool) → kind_of c.head ≡ ClauseKind → b ≡ tree_holds is_any_bound c → b ≡ false
    → characterization J e S c ≡ each (visited_at J e 1 0) S (opened none (after_first c.children))
unfolding visited_at
without-bound J e S c b k h t =
    let ts = opened none (after_first c.children) in
    let all : most_visits J ≡ most J - (1 + 0) = omega arith in
    ap (λ (x : Bool). if x then Finds S Yes else each (visited J e (most_visits J) 1 0) S ts) (below-clause c b k h ∙ t)
    ∙ ap (λ (n : ℕ). each (visited J e n 1 0) S ts) all

pub clause-there : (ts : List Tree) (c : Clause) → IsClause ts c → (c.0 < length ts) × (kind_of (clause_tree ts c).head ≡ ClauseKind)
clause-there ts c h =
    let l = below_kind ts c.0 ClauseKind refl h in
    (l, sym (kind_of-tree_at ts c.0 l) ∙ h)

-- Rows.

-- the next of a row of opened trees
opened-next : (visit : State → Tree → Walk) (S : State) (values : Forest) (t : Tree) (parts : Forest) (place : ℕ)
    → skip place parts ≡ tree t.head t.children (skip (suc place) parts)
    → each visit S (opened values (skip place parts)) ≡ and_then (visit S (opened_tree values t)) (λ T. each visit T (opened values (skip (place + 1) parts)))
opened-next visit S values t parts place e =
    ap (λ (ts : Forest). each visit S (opened values ts)) e
    ∙ ap (λ (n : ℕ). and_then (visit S (opened_tree values t)) (λ T. each visit T (opened values (skip n parts)))) (one-more place)

groups-next : (visit : State → Tree → Walk) (S : State) (t : Tree) (parts : Forest) (place : ℕ)
    → skip place parts ≡ tree t.head t.children (skip (suc place) parts)
    → each_group visit S (each_group_of (skip place parts)) ≡ and_then (group_visited visit S (group_of t.head t.children)) (λ T. each_group visit T (each_group_of (skip (place + 1) parts)))
groups-next visit S t parts place e =
    ap (λ (ts : Forest). each_group visit S (each_group_of ts)) e
    ∙ ap (λ (n : ℕ). and_then (group_visited visit S (group_of t.head t.children)) (λ T. each_group visit T (each_group_of (skip n parts)))) (one-more place)

after-first : (ts : Forest) → after_first ts ≡ skip 1 ts
after-first none = refl
after-first (tree h below rest) = refl

pub opened-begins : (visit : State → Tree → Walk) (S : State) (values parts : Forest)
    → each visit S (opened values (after_first parts)) ≡ each visit S (opened values (skip 1 parts))
opened-begins visit S values parts = ap (λ (ts : Forest). each visit S (opened values ts)) (after-first parts)

-- nothing comes after it
pub then-goes : (w : Walk) → and_then w (λ T. Goes T) ≡ w
then-goes (Goes S) = refl
then-goes (Finds S c) = refl
then-goes Refuses = refl
then-goes (Stops s) = refl

-- the trees under a binder, at the state with its placeholders
pub at-binder : (visit : State → Tree → Walk) (S : State) (ks : List Kind) (ts : Forest)
    → group_visited visit S (Bounded ks ts) ≡ each visit (with_rigid S ks) (opened (rigid S ks) ts)
at-binder visit S [] ts = refl
at-binder visit S (k ∷ ks) ts = refl

alone-group : (h : Head) (below : Forest) → ((p : PartHead) → h ≡ H.Part p → ⊥) → group_of h below ≡ Loose (tree h below none)
alone-group (H.Part p) below other = absurd (other p refl)
alone-group _ below other = refl

-- what has no binder of its own
pub no-part : (visit : State → Tree → Walk) (S : State) (t : Tree) → ((p : PartHead) → t.head ≡ H.Part p → ⊥) → group_visited visit S (group_of t.head t.children) ≡ visit S t
no-part visit S t other = ap (group_visited visit S) (alone-group t.head t.children other) ∙ then-goes (visit S t)

-- a part that has a binder of its own
pub a-part : (visit : State → Tree → Walk) (S : State) (t : Tree) (p : PartHead) → t.head ≡ H.Part p
    → group_visited visit S (group_of t.head t.children) ≡ group_visited visit S (under_binder t.children)
a-part visit S t p e = ap (λ (h : Head). group_visited visit S (group_of h t.children)) e

no-zero : (n : ℕ) → 0 < n → nat_eq n 0 ≡ false
no-zero n h = grind (arith, h)

is-zero : (n : ℕ) → n ≤ 0 → nat_eq n 0 ≡ true
is-zero n h = grind (arith, h)

-- what binds has one group, all else one for each part
pub one-group : (visit : State → Tree → Walk) (S : State) (t : Tree) (n : ℕ) → n ≡ binders_of t.head → 0 < n
    → each_group visit S (groups t.head t.children) ≡ group_visited visit S (under_binder t.children)
one-group visit S t n e l =
    let under = under_binder t.children in
    ap (λ (b : Bool). each_group visit S (if b then each_group_of t.children else under ∷ [])) (ap (λ (x : ℕ). nat_eq x 0) (sym e) ∙ no-zero n l)
    ∙ then-goes (group_visited visit S under)

pub many-groups : (visit : State → Tree → Walk) (S : State) (t : Tree) (n : ℕ) → n ≡ binders_of t.head → n ≤ 0
    → each_group visit S (groups t.head t.children) ≡ each_group visit S (each_group_of (skip 0 t.children))
many-groups visit S t n e l =
    ap (λ (b : Bool). each_group visit S (if b then each_group_of t.children else under_binder t.children ∷ [])) (ap (λ (x : ℕ). nat_eq x 0) (sym e) ∙ is-zero n l)

-- what stands there is of the kind that the argument's type says
kind-there : (ts : List Tree) (a : GenericArg) → IsArg ts a → kind_of (arg_tree ts a).head ≡ arg_kind a
kind-there ts a h = sym (kind_of-tree_at ts (arg_number a) (arg-below ts a h)) ∙ h

-- no part is left
no-rest : (visit : State → Tree → Walk) (ts : List Tree) (values : Option Args) (S : State) → rest_visited visit ts values S none ≡ Goes S
no-rest visit ts None S = refl
no-rest visit ts (Some values) S = refl

-- walks that follow walks
pub then-then : (w : Walk) (k l : State → Walk) → and_then (and_then w k) l ≡ and_then w (λ T. and_then (k T) l)
then-then (Goes S) k l = refl
then-then (Finds S c) k l = refl
then-then Refuses k l = refl
then-then (Stops s) k l = refl

-- Stops.

making-own : (s : Stop) → IsMakingStop s → is_evaluator_stop s ≡ true
making-own Memory m = refl
making-own NodesFull m = refl
making-own _ m = absurd m

-- Walks over an evaluator.
module _ {E F : Type 0} (fixed : E → F) (probes : E → List State) (context : E → Context) (state : E → State) (stops : Account E) where
  abbrev WalksTo : E → E → Walk → Result (Option Certainty) NoSolutionOrStop → Type 0
  WalksTo = Walks fixed probes context state stops

  abbrev KeptTo : E → E → Type 0
  KeptTo = Keeps fixed probes context

  pub nothing-done : (a : E) → KeptTo a a
  nothing-done a = record { fixed_same = refl; probes_same = refl; grows = grows-refl (context a); faults = refl }

  retold : {w u : Walk} (S : State) (r : Result (Option Certainty) NoSolutionOrStop) → w ≡ u → Tells u S r → Tells w S r
  retold S r e t = subst (λ (x : Walk). Tells x S r) (sym e) t

  abbrev Accounts : E → E → NoSolutionOrStop → Type 0
  Accounts a b = by_stop (λ s. is_evaluator_stop s ≡ true → StopsSomehow fixed context state stops a b s)

  cause-later : {a b : E} (c : E) (r : Result (Option Certainty) NoSolutionOrStop) → Reaches fixed context a b → IfErr r (Accounts b c) → IfErr r (Accounts a c)
  cause-later d (Ok x) g c = tt
  cause-later d (Err e) g c = by-stop e (λ s f o. somehow-later g (f o)) c

  -- the walk of a later call
  pub walked-later : {a b c : E} {w u : Walk} (r : Result (Option Certainty) NoSolutionOrStop) → KeptTo a b → w ≡ u → WalksTo b c u r → WalksTo a c w r
  walked-later {c = c} r k e v = record { kept = keeps-trans fixed probes context _ _ _ k v.kept; told = retold _ r e v.told; cause = cause-later c r (reaches k) v.cause }

  -- what was found with no call
  pub found-here : {a b : E} {w : Walk} (f : Option Certainty) → KeptTo a b → w ≡ found f (state b) → WalksTo a b w (Ok f)
  found-here f k e = record { kept = k; told = e; cause = tt }

  -- a refusal, or a stop of the evaluator
  pub normal-refused : {a b : E} {w : Walk} (q : Question) (e : NoSolutionOrStop) → ((s : Stop) → stops b (state a) q s → IsEvaluatorStop s) → KeptTo a b
      → (e ≡ N.NoSolution → w ≡ Refuses) → by_stop (stops b (state a) q) e → WalksTo a b w (Err e)
  normal-refused q N.NoSolution law k refused c = record { kept = k; told = refused refl; cause = tt }
  normal-refused q (N.Stop s) law k refused c = record {
    kept = k;
    told = λ o. absurd (true-false (sym (own-stops s (law s c)) ∙ o));
    cause = λ o. asking (accounted-here q (reaches k) c);
  }

  -- an error that is handed on
  pub passed-on : {a b : E} {w : Walk} (e : NoSolutionOrStop) (r : Result (Option Certainty) NoSolutionOrStop) → IsErrAnd r (λ x. x ≡ e) → WalksTo a b w (Err e) → WalksTo a b w r
  passed-on e (Ok x) i h = absurd i
  passed-on {a} {b} {w} e (Err x) i h = subst (λ (y : NoSolutionOrStop). WalksTo a b w (Err y)) (sym i) h

  -- a stop of its own
  pub own-walk : {a b : E} {w : Walk} (s : Stop) → KeptTo a b → is_evaluator_stop s ≡ true → StopsSomehow fixed context state stops a b s → WalksTo a b w (Err (N.Stop s))
  own-walk s k o c = record { kept = k; told = λ p. absurd (true-false (sym o ∙ p)); cause = λ p. c }

  pub making-walk : {a b : E} {w : Walk} (s : Stop) (r : Result (Option Certainty) NoSolutionOrStop) → IsErrAnd r (λ e. e ≡ N.Stop s) → KeptTo a b → IsUnmade (context a) (context b) s → WalksTo a b w r
  making-walk s r i k m = passed-on (N.Stop s) r i (own-walk s k (making-own s (unmade-making m)) (making m))

  -- more places were visited than can be counted
  pub wide-walk : {a b : E} {w : Walk} (number place : ℕ) → KeptTo a b → number < length (context a).trees → 18446744073709551615 ≤ place
      → place ≤ max 1 (count (tree_at (context a).trees number).children) → WalksTo a b w (Err (N.Stop NodesFull))
  wide-walk {a} number place k l m f =
      own-walk NodesFull k refl (making (IsUnmade.wide_node (wide-later k.grows (record { number = number; inside = l; wide = omega (arith, m, f) }))))

  -- a part of a node at a later call is one of it
  pub place-there : {first now : E} (cx : Context) (number place child : ℕ) → cx ≡ context now → KeptTo first now → number < length (context first).trees
      → skip place (tree_at cx.trees number).children ≡ tree (tree_at cx.trees child).head (tree_at cx.trees child).children (skip (suc place) (tree_at cx.trees number).children)
      → suc place ≤ count (tree_at (context first).trees number).children
  place-there {first} {now} cx number place child c k l there =
      let stays = (number-kept (context first).trees (context now).trees number k.grows.kept l).1 in
      let beyond : suc place ≤ count (tree_at cx.trees number).children = child-beyond place (tree_at cx.trees number).children _ _ _ there in
      let here : suc place ≤ count (tree_at (context now).trees number).children = subst (λ (x : Context). suc place ≤ count (tree_at x.trees number).children) c beyond in
      subst (λ (t : Tree). suc place ≤ count t.children) stays here

  pub asking-walk : {a b : E} {w : Walk} (q : Question) (s : Stop) (r : Result (Option Certainty) NoSolutionOrStop) → ((s : Stop) → stops b (state a) q s → IsEvaluatorStop s)
      → IsErrAnd r (λ e. e ≡ N.Stop s) → KeptTo a b → stops b (state a) q s → WalksTo a b w r
  asking-walk q s r law i k c = passed-on (N.Stop s) r i (own-walk s k (own-stops s (law s c)) (asking (accounted-here q (reaches k) c)))

  -- One step of several.

  -- what ends the walks, of which this is the first
  pub ends-walk : {a b c : E} {w v : Walk} (k : State → Walk) (r : Result (Option Certainty) NoSolutionOrStop) → KeptTo a b → w ≡ and_then v k → ((S : State) → Tells v S r → Tells (and_then v k) S r) → WalksTo b c v r
      → WalksTo a c w r
  ends-walk {c = c} k r kept e o s = record { kept = keeps-trans fixed probes context _ _ _ kept s.kept; told = retold _ r e (o (state c) s.told); cause = cause-later c r (reaches kept) s.cause }

  pub found-ends : (v : Walk) (k : State → Walk) (x : Certainty) (S : State) → Tells v S (Ok (Some x)) → Tells (and_then v k) S (Ok (Some x))
  found-ends v k x S t = ap (λ (w : Walk). and_then w k) t

  pub error-ends : (v : Walk) (k : State → Walk) (x : NoSolutionOrStop) (S : State) → Tells v S (Err x) → Tells (and_then v k) S (Err x)
  error-ends v k N.NoSolution S t = ap (λ (w : Walk). and_then w k) t
  error-ends v k (N.Stop s) S t = λ p. ap (λ (w : Walk). and_then w k) (t p)

  -- A call that leads to what stands below.

  abbrev LeadsTo : (F → Judge) → Env → ℕ → E → E → Walk → Result Visited NoSolutionOrStop → Type 0
  LeadsTo = Leads fixed probes context state stops

  -- an error that is handed on
  pub leads-error : {a b : E} {w : Walk} (judge : F → Judge) (e : Env) (n : ℕ) (x : NoSolutionOrStop) (r : Result Visited NoSolutionOrStop) → IsErrAnd r (λ y. y ≡ x) → WalksTo a b w (Err x) → LeadsTo judge e n a b w r
  leads-error judge e n x (Ok v) i h = absurd i
  leads-error {a} {b} {w} judge e n x (Err y) i h = subst (λ (z : NoSolutionOrStop). WalksTo a b w (Err z)) (sym i) h

  -- what a later call leads to
  pub leads-later : {a b : E} {w u : Walk} (judge : F → Judge) (e : Env) (m n : ℕ) (c : E) (r : Result Visited NoSolutionOrStop) → m ≤ n → KeptTo a b → w ≡ u → LeadsTo judge e m b c u r → LeadsTo judge e n a c w r
  leads-later judge e m n c (Ok (V.Found x)) l k i v = walked-later (Ok (Some x)) k i v
  leads-later judge e m n c (Ok V.Nothing) l k i v = walked-later (Ok None) k i v
  leads-later judge e m n c (Ok (V.Below p)) l k i v = record { kept = keeps-trans fixed probes context _ _ _ k v.kept; parts = v.parts; less = omega (arith, l, v.less); is = i ∙ v.is }
  leads-later judge e m n c (Err x) l k i v = walked-later (Err x) k i v

  -- a visit that has ended
  pub leads-ended : {a b : E} {w : Walk} (judge : F → Judge) (e : Env) (n : ℕ) (f : Option Certainty) → WalksTo a b w (Ok f) → LeadsTo judge e n a b w (Ok (ended f))
  leads-ended judge e n None v = v
  leads-ended judge e n (Some c) v = v

  -- The same visits at a later call.
  module _ (judge : F → Judge) (e : Env) (m n : ℕ) where
    abbrev pub visits : E → State → Tree → Walk
    visits a = visited_at (judge (fixed a)) e m n

    pub same-visits : {a b : E} → KeptTo a b → visits b ≡ visits a
    same-visits {a} {b} k = ap (λ (x : F). visited_at (judge x) e m n) k.fixed_same

    -- the next of a row
    pub next-visited : {first now : E} {w : Walk} (cx : Context) (number : ℕ) (values : Option Args) (place child : ℕ) → cx ≡ context now → KeptTo first now
        → IfSome values (IsArgs (context first).trees) → number < length (context first).trees
        → w ≡ rest_visited (visits first) (context first).trees values (state now) (skip place (tree_at (context first).trees number).children)
        → skip place (tree_at cx.trees number).children ≡ tree (tree_at cx.trees child).head (tree_at cx.trees child).children (skip (suc place) (tree_at cx.trees number).children)
        → w ≡ and_then (first_visited (visits now) (context now).trees values (state now) (tree_at (context now).trees child))
        (λ T. rest_visited (visits first) (context first).trees values T (skip (place + 1) (tree_at (context first).trees number).children))
    next-visited {first} {now} {w} cx number None place child c k v l so there =
        let t = tree_at (context now).trees child in
        let parts = (tree_at (context first).trees number).children in
        let rest : State → Walk = λ T. each_group (visits first) T (each_group_of (skip (place + 1) parts)) in
        let stays = (number-kept (context first).trees (context now).trees number k.grows.kept l).1 in
        let here : skip place (tree_at (context now).trees number).children ≡ tree t.head t.children (skip (suc place) (tree_at (context now).trees number).children) =
        subst (λ (x : Context). skip place (tree_at x.trees number).children ≡ tree (tree_at x.trees child).head (tree_at x.trees child).children (skip (suc place) (tree_at x.trees number).children)) c there in
        let first_row : skip place parts ≡ tree t.head t.children (skip (suc place) parts) =
        subst (λ (x : Tree). skip place x.children ≡ tree t.head t.children (skip (suc place) x.children)) stays here in
        so ∙ (groups-next (visits first) (state now) t parts place first_row
        ∙ ap (λ (f : State → Tree → Walk). and_then (group_visited f (state now) (group_of t.head t.children)) rest) (sym (same-visits k)))
    next-visited {first} {now} {w} cx number (Some values) place child c k v l so there =
        let t = tree_at (context now).trees child in
        let parts = (tree_at (context first).trees number).children in
        let vs = args_forest (context first).trees values in
        let rest : State → Walk = λ T. each (visits first) T (opened vs (skip (place + 1) parts)) in
        let stays = (number-kept (context first).trees (context now).trees number k.grows.kept l).1 in
        let here : skip place (tree_at (context now).trees number).children ≡ tree t.head t.children (skip (suc place) (tree_at (context now).trees number).children) =
        subst (λ (x : Context). skip place (tree_at x.trees number).children ≡ tree (tree_at x.trees child).head (tree_at x.trees child).children (skip (suc place) (tree_at x.trees number).children)) c there in
        let first_row : skip place parts ≡ tree t.head t.children (skip (suc place) parts) =
        subst (λ (x : Tree). skip place x.children ≡ tree t.head t.children (skip (suc place) x.children)) stays here in
        let as_before : visits now (state now) (opened_tree (args_forest (context now).trees values) t) ≡ visits first (state now) (opened_tree vs t) =
        ap (λ (f : State → Tree → Walk). f (state now) (opened_tree (args_forest (context now).trees values) t)) (same-visits k)
        ∙ ap (λ (x : Forest). visits first (state now) (opened_tree x t)) (args-kept (context first) (context now) values k.grows v).1 in
        so ∙ (opened-next (visits first) (state now) vs t parts place first_row ∙ ap (λ (x : Walk). and_then x rest) (sym as_before))

    -- nothing is left of a row
    pub none-visited : {first now : E} {w : Walk} (cx : Context) (number : ℕ) (values : Option Args) (place : ℕ) → cx ≡ context now → KeptTo first now → number < length (context first).trees
        → w ≡ rest_visited (visits first) (context first).trees values (state now) (skip place (tree_at (context first).trees number).children)
        → skip place (tree_at cx.trees number).children ≡ none → w ≡ Goes (state now)
    none-visited {first} {now} cx number values place c k l so there =
        let stays = (number-kept (context first).trees (context now).trees number k.grows.kept l).1 in
        let here : skip place (tree_at (context now).trees number).children ≡ none = subst (λ (x : Context). skip place (tree_at x.trees number).children ≡ none) c there in
        let row : skip place (tree_at (context first).trees number).children ≡ none = subst (λ (x : Tree). skip place x.children ≡ none) stays here in
        so ∙ (ap (λ (ts : Forest). rest_visited (visits first) (context first).trees values (state now) ts) row ∙ no-rest (visits first) (context first).trees values (state now))

    -- a tree at a later call, the state being the same
    pub later-visit : {a b : E} (t u : Tree) → KeptTo a b → state b ≡ state a → u ≡ t → visits a (state a) t ≡ visits b (state b) u
    later-visit {a} {b} t u k s i =
        ap (λ (x : Tree). visits a (state a) x) (sym i)
        ∙ (ap (λ (S : State). visits a S u) (sym s) ∙ ap (λ (f : State → Tree → Walk). f (state b) u) (sym (same-visits k)))

    -- trees under a binder, after placeholders were made for its variables
    pub under-placeholders : {a b : E} (number : ℕ) (values : Args) (ks : List Kind) → KeptTo a b → number < length (context a).trees
        → ks ≡ bound_kinds (tree_at (context a).trees number).children → args_forest (context b).trees values ≡ rigid (state a) ks → state b ≡ with_rigid (state a) ks
        → group_visited (visits a) (state a) (under_binder (tree_at (context a).trees number).children)
        ≡ each (visits b) (state b) (opened (args_forest (context b).trees values) (skip 1 (tree_at (context b).trees number).children))
    under-placeholders {a} {b} number values ks k l kinds trees made =
        let below = (tree_at (context a).trees number).children in
        let vs = args_forest (context b).trees values in
        ap (λ (x : List Kind). group_visited (visits a) (state a) (Bounded x (after_first below))) (sym kinds)
        ∙ (at-binder (visits a) (state a) ks (after_first below)
        ∙ (ap (λ (S : State). each (visits a) S (opened (rigid (state a) ks) (after_first below))) (sym made)
        ∙ (ap (λ (x : Forest). each (visits a) (state b) (opened x (after_first below))) (sym trees)
        ∙ (ap (λ (t : Tree). each (visits a) (state b) (opened vs (after_first t.children))) (sym (number-kept (context a).trees (context b).trees number k.grows.kept l).1)
        ∙ (ap (λ (f : State → Tree → Walk). each f (state b) (opened vs (after_first (tree_at (context b).trees number).children))) (sym (same-visits k))
        ∙ opened-begins (visits b) (state b) vs (tree_at (context b).trees number).children)))))

    -- the parts of a clause, with an empty list of values
    pub with-none : {a b : E} (number : ℕ) (values : Args) → KeptTo a b → number < length (context a).trees
        → args_forest (context b).trees values ≡ none → state b ≡ state a
        → each (visits a) (state a) (opened none (after_first (tree_at (context a).trees number).children))
        ≡ each (visits b) (state b) (opened (args_forest (context b).trees values) (skip 1 (tree_at (context b).trees number).children))
    with-none {a} {b} number values k l trees same =
        let below = (tree_at (context a).trees number).children in
        let vs = args_forest (context b).trees values in
        ap (λ (S : State). each (visits a) S (opened none (after_first below))) (sym same)
        ∙ (ap (λ (x : Forest). each (visits a) (state b) (opened x (after_first below))) (sym trees)
        ∙ (ap (λ (t : Tree). each (visits a) (state b) (opened vs (after_first t.children))) (sym (number-kept (context a).trees (context b).trees number k.grows.kept l).1)
        ∙ (ap (λ (f : State → Tree → Walk). each f (state b) (opened vs (after_first (tree_at (context b).trees number).children))) (sym (same-visits k))
        ∙ opened-begins (visits b) (state b) vs (tree_at (context b).trees number).children)))

    -- a normal form, in the context that it came in
    pub normal-looked : {a b : E} {w : Walk} (is_too_deep : Bool) (o : Option (Tree × State)) (t : Tree) → KeptTo a b
        → w ≡ in_normal_form o (looked (visits a) is_too_deep) → o ≡ Some (t, state b) → w ≡ looked (visits b) is_too_deep (state b) t
    normal-looked {a} {b} deep o t k h i =
        h ∙ (ap (λ (x : Option (Tree × State)). in_normal_form x (looked (visits a) deep)) i
        ∙ ap (λ (f : State → Tree → Walk). looked f deep (state b) t) (sym (same-visits k)))

    -- How a visit begins, by the sort of the part.
    module _ (a : E) (few : HasFewTypes (judge (fixed a)) m) (small : HasFewConstants (judge (fixed a)) n) (x : GenericArg) (given : IsArg (context a).trees x) where
      pub type-begins : (t : Ty) → x ≡ A.Ty t
          → visits a (state a) (arg_tree (context a).trees x)
          ≡ in_normal_form ((judge (fixed a)).normalized (state a) e (ty_tree (context a).trees t)) (looked (visited_at (judge (fixed a)) e (m + 1) n) (nat_lt (judge (fixed a)).limits.recursion m))
      type-begins t i =
          let T = ty_tree (context a).trees t in
          let same : arg_tree (context a).trees x ≡ T = ap (arg_tree (context a).trees) i in
          let there : IsArg (context a).trees (A.Ty t) = subst (IsArg (context a).trees) i given in
          ap (λ (u : Tree). visits a (state a) u) same ∙ a-type (judge (fixed a)) e m n few small (state a) T (kind-there (context a).trees (A.Ty t) there)

      pub constant-begins : (t : Const) → x ≡ A.Const t → n < (judge (fixed a)).limits.const_depth
          → visits a (state a) (arg_tree (context a).trees x)
          ≡ in_normal_form ((judge (fixed a)).normalized (state a) e (const_tree (context a).trees t)) (looked (visited_at (judge (fixed a)) e m (n + 1)) false)
      constant-begins t i l =
          let T = const_tree (context a).trees t in
          let same : arg_tree (context a).trees x ≡ T = ap (arg_tree (context a).trees) i in
          let there : IsArg (context a).trees (A.Const t) = subst (IsArg (context a).trees) i given in
          ap (λ (u : Tree). visits a (state a) u) same ∙ an-allowed-constant (judge (fixed a)) e m n few l (state a) T (kind-there (context a).trees (A.Const t) there)

      pub constant-ends : (t : Const) → x ≡ A.Const t → (judge (fixed a)).limits.const_depth ≤ n → visits a (state a) (arg_tree (context a).trees x) ≡ Stops ConstDepth
      constant-ends t i l =
          let T = const_tree (context a).trees t in
          let same : arg_tree (context a).trees x ≡ T = ap (arg_tree (context a).trees) i in
          let there : IsArg (context a).trees (A.Const t) = subst (IsArg (context a).trees) i given in
          ap (λ (u : Tree). visits a (state a) u) same ∙ a-deep-constant (judge (fixed a)) e m n few small l (state a) T (kind-there (context a).trees (A.Const t) there)

      pub region-begins : (r : Region) → x ≡ A.Region r
          → visits a (state a) (arg_tree (context a).trees x) ≡ region_seen (state a) (resolved_tree (state a) (region_tree (context a).trees r)).head
      region-begins r i =
          let T = region_tree (context a).trees r in
          let same : arg_tree (context a).trees x ≡ T = ap (arg_tree (context a).trees) i in
          let there : IsArg (context a).trees (A.Region r) = subst (IsArg (context a).trees) i given in
          ap (λ (u : Tree). visits a (state a) u) same ∙ a-region (judge (fixed a)) e m n few small (state a) T (kind-there (context a).trees (A.Region r) there)

  -- constants are nested too deep
  pub depth-walk : {a : E} {w : Walk} → w ≡ Stops ConstDepth → WalksTo a a w (Err (N.Stop ConstDepth))
  depth-walk {a} e = record { kept = nothing-done a; told = λ o. e; cause = λ o. absurd (true-false (sym o)) }

  -- what is fixed has the limits that it had
  pub few-later : {a b : E} (J : F → Judge) (m n : ℕ) → KeptTo a b → HasFewTypes (J (fixed a)) m × HasFewConstants (J (fixed a)) n
      → HasFewTypes (J (fixed b)) m × HasFewConstants (J (fixed b)) n
  few-later J m n k h = subst (λ (x : F). HasFewTypes (J x) m × HasFewConstants (J x) n) (sym k.fixed_same) h

  -- lists of values are lists of a later context
  pub values-later : {a b : E} (values : Option Args) → KeptTo a b → IfSome values (IsArgs (context a).trees) → IfSome values (IsArgs (context b).trees)
  values-later None k h = tt
  values-later {a} {b} (Some v) k h = (args-kept (context a) (context b) v k.grows h).0

  -- numbers of a context are numbers of a later one
  pub number-later : {a b : E} (n : ℕ) → KeptTo a b → n < length (context a).trees → n < length (context b).trees
  number-later {a} {b} n k l = let longer = extends-length (context a).trees (context b).trees k.grows.kept in omega (arith, l, longer)

-- Environments.

abbrev pub env-later : {a b : Context} (e : ParamEnv) → Grows a b → IsParamEnv a.trees e → IsParamEnv b.trees e
env-later {a} {b} e g h = (env-kept a b e g h).0

-- What an error says.

pub refusal-told : (w : Walk) (S : State) (e : NoSolutionOrStop) → Tells w S (Err e) → e ≡ N.NoSolution → w ≡ Refuses
refusal-told w S e t r = subst (λ (x : NoSolutionOrStop). Tells w S (Err x)) r t

pub stop-told : (w : Walk) (S : State) (e : NoSolutionOrStop) (s : Stop) → Tells w S (Err e) → e ≡ N.Stop s → is_evaluator_stop s ≡ false → w ≡ Stops s
stop-told w S e s t r = subst (λ (x : NoSolutionOrStop). Tells w S (Err x)) r t

abbrev asked-by : Judge → Option ((ParamEnvSource × Certainty) × State) → Judged
asked-by J None = Refused
asked-by J (Some p) = asked J p.1 (Source.ParamEnv p.0.0) p.0.1

-- The answer is what a rule asks the judge for.
pub answer-asked : (J : Judge) (w : Walk) (x : ParamEnvSource × Certainty) (S : State) → answer_of w ≡ Some (x, S) → by_finding J w ≡ asked J S (Source.ParamEnv x.0) x.1
answer-asked J (Goes T) x S e = ap (asked-by J) e
answer-asked J (Finds T c) x S e = ap (asked-by J) e
answer-asked J Refuses x S e = absurd cc
answer-asked J (Stops s) x S e = absurd cc
