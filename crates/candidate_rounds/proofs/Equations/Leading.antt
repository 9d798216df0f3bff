-- An equation and the goals that it leaves: of two arguments as of lists of one, and with the goals pending.
use Rattle.std.proofs.Common.{◌⊎◌, inl, inr, arith, ◌≡◌, ◌<◌, ◌≤◌, ◌+◌, ℕ, Bool, true, false, ◌&&◌, List, [], ◌∷◌, ◌++◌, append_assoc, length, take, slice_index_or, Option, Some, None, Result, Ok, Err, OnOk, refl, ap, sym, subst, ◌∙◌}
use Rattle.std.specs.Prelude.{IfErr, IfOk}
use Rattle.std.proofs.lemmas.List.{append-nil, map-append}
use Rattle.ir_trees.specs.declared.ir.kinds.Args.{Args}
use Rattle.ir_trees.specs.declared.ir.kinds.GenericArg.{GenericArg}
use Rattle.ir_trees.specs.declared.ir.kinds.ParamEnv.{ParamEnv}
use Rattle.ir_trees.specs.declared.ir.kinds.Ty.{Ty}
use Rattle.ir_trees.specs.declared.ir.stop.Stop.{Stop}
use Rattle.ir_trees.specs.declared.ir.kinds.GenericArg.TheVariants as G
use Rattle.ir_trees.specs.Declarations.Context.{Context, Grows}
use Rattle.ir_trees.specs.declared.ir.heads.VariableSort.TheVariants.{General}
use Rattle.ir_trees.specs.Instantiation.Folding.{few_numbers, high_tree, no_memory}
use Rattle.ir_trees.specs.Instantiation.Folds.{IsArg, arg_tree}
use Rattle.ir_trees.specs.Syntax.Kinds.{arg_kind, arg_number}
use Rattle.ir_trees.specs.Syntax.Trees.{ConstantKind, Forest, RegionKind, Tree, TypeKind, heights, is_alias, is_type, is_type_kind, kind_of, none}
use Rattle.ir_trees.specs.Syntax.Words.{IsMkStop, IsParamEnv, IsTy, args_forest, env_forest, list_forest, ty_tree}
use Rattle.ir_trees.specs.Unification.Substitutions.{alone}
use Rattle.candidate_eval.specs.declared.eval.refusal.NoSolutionOrStop.{NoSolutionOrStop}
use Rattle.candidate_eval.specs.Interface.Accounts.{if_refused, if_stopped}
use Rattle.candidate_eval.specs.Interface.Evaluators.{pending_of, pendings_of, with_left}
use Rattle.ir_trees.proofs.Syntax.Rows.{kind-of}
use Rattle.candidate_eval.specs.declared.eval.variable.VariableKind.TheVariants.{Term}
use Rattle.candidate_eval.specs.Interface.Evaluators.{NoFault}
use Rattle.candidate_eval.proofs.Dynamic.Objects.{env-kept}
use Rattle.candidate_eval.specs.Judges.States.{Env, Pending, State, added, next, variable, with_pending}
use Rattle.rounds_judge.specs.Aliases.Listed.{Listing}
use Rattle.rounds_judge.specs.Equations.Equating.{equated, without_goals}
use Rattle.rounds_judge.specs.Equations.Opening.{are_open, equation, has_alias}
use Rattle.candidate_rounds.specs.Evaluators.Following.{FollowsEquation}
use Rattle.candidate_rounds.proofs.Evaluators.Following.{equation-follows}
use Rattle.candidate_rounds.specs.Evaluators.Inferences.{Inference, IsFurther}
use Rattle.candidate_rounds.specs.Evaluators.Interface.{led_to}
use Rattle.candidate_rounds.specs.Evaluators.Known.{Evaluator, GoesOn, IsGiven, KeepsGiven, listing, state}
use Rattle.candidate_rounds.specs.Evaluators.Stopping.{IsEquationStop, IsOpeningStop, IsTreeStop, as_it_is, side_listed}
use Rattle.candidate_rounds.proofs.Equations.OpenSides.{as-it-stands}
use Rattle.candidate_rounds.proofs.Evaluators.Going.{goes-listing, goes-refl, goes-trans}
use Rattle.candidate_rounds.proofs.Obligations.Noting.{arg-row}
use Rattle.candidate_rounds.proofs.Obligations.Evaluating.{Sourced, take-all, take-more}

-- Goals that become pending, one after the other.

pub record LeftSoFar (old now : Evaluator) (gs : List Sourced) (i : ℕ) : Type 0 where
  pub goes : GoesOn old now
  pub context : now.context ≡ old.context
  pub state_is : state now ≡ with_left (pendings_of old.context.trees (take i gs), state old)

pub none-left : (old : Evaluator) (gs : List Sourced) → LeftSoFar old old gs 0
none-left old gs = record { goes = goes-refl old; context = refl; state_is = ap (with_pending (state old)) (sym (append-nil (state old).pending)) }

pub one-more-left : (old now new : Evaluator) (gs : List Sourced) (i : ℕ) (d : Sourced) → LeftSoFar old now gs i → i < length gs → GoesOn now new → new.context ≡ now.context
    → state new ≡ added (state now) (pending_of now.context.trees (slice_index_or gs i d).0 (slice_index_or gs i d).1) → LeftSoFar old new gs (i + 1)
one-more-left old now new gs i d a l g c s =
    let p : Context → Pending = λ x. pending_of x.trees (slice_index_or gs i d).0 (slice_index_or gs i d).1 in
    let before = (state old).pending in
    let ps = pendings_of old.context.trees (take i gs) in
    record {
      goes = goes-trans old now new a.goes g;
      context = c ∙ a.context;
      state_is =
          s
          ∙ (ap (λ (x : Context). added (state now) (p x)) a.context
          ∙ (ap (λ S. added S (p old.context)) a.state_is
          ∙ ap (with_pending (state old)) (append_assoc before ps (p old.context ∷ [])
          ∙ ap (λ xs. before ++ xs) (sym (ap (pendings_of old.context.trees) (take-more gs i d l) ∙ map-append (λ (x : Sourced). pending_of old.context.trees x.0 x.1) (take i gs) (slice_index_or gs i d ∷ []))))));
    }

pub all-left : (old now : Evaluator) (gs : List Sourced) (i : ℕ) → LeftSoFar old now gs i → length gs ≤ i → state now ≡ with_left (pendings_of old.context.trees gs, state old)
all-left old now gs i a l = a.state_is ∙ ap (λ xs. with_left (pendings_of old.context.trees xs, state old)) (take-all gs i l)

-- Aliases that are rigid: an equation leaves no goal.

not-asked : (o b : Bool) → o ≡ false → o && b ≡ false
not-asked o b e = rw e refl

module _ (r : Evaluator) (e : Env) (a b : Forest) (closed : are_open (listing r) (state r) ≡ false) where
  pub rigid : equation (listing r) (state r) e a b ≡ without_goals (equated (listing r) (state r) a b)
  rigid = as-it-stands (listing r) (state r) e a b (not-asked (are_open (listing r) (state r)) (has_alias (state r) a b) closed)

  pub rigid-some : (T : State) → equated (listing r) (state r) a b ≡ Some T → equation (listing r) (state r) e a b ≡ Some ([], T)
  rigid-some T h = rigid ∙ ap without_goals h

  pub rigid-none : equated (listing r) (state r) a b ≡ None → equation (listing r) (state r) e a b ≡ None
  rigid-none h = rigid ∙ ap without_goals h

  pub rigid-led : (T : State) → equated (listing r) (state r) a b ≡ Some T → led_to r e a b ≡ Some T
  rigid-led T h = ap (λ (o : Option (List Pending × State)). next o (λ q. Some (with_left q))) (rigid-some T h) ∙ ap (λ ps. Some (with_pending T ps)) (append-nil T.pending)

  pub rigid-unled : equated (listing r) (state r) a b ≡ None → led_to r e a b ≡ None
  rigid-unled h = ap (λ (o : Option (List Pending × State)). next o (λ q. Some (with_left q))) (rigid-none h)

  -- of what a call answers

  pub on-led : {A F : Type 0} (q : Result A F) (T : State) → OnOk q (equated (listing r) (state r) a b ≡ Some T) → OnOk q (led_to r e a b ≡ Some T)
  on-led (Ok x) T h = rigid-led T h
  on-led (Err x) T h = tt

  pub if-unled : {A : Type 0} (q : Result A NoSolutionOrStop) → IfErr q (if_refused (equated (listing r) (state r) a b ≡ None)) → IfErr q (if_refused (led_to r e a b ≡ None))
  if-unled (Ok x) h = tt
  if-unled (Err x) h = λ n. rigid-unled (h n)

  pub follows-rigidly : {A F : Type 0} (given : IsGiven r.context.trees r.normal.pairs r.opaques) (q : Result A F) (T : State) → OnOk q (equated (listing r) (state r) a b ≡ Some T) → OnOk q (FollowsEquation (state r) T a b)
  follows-rigidly given (Ok x) T h =
      subst (λ (U : State). FollowsEquation (state r) U a b) (ap (with_pending T) (append-nil T.pending)) (equation-follows r e a b [] T given (rigid-some T h))
  follows-rigidly given (Err x) T h = tt

  pub if-opening : {A : Type 0} (q : Result A NoSolutionOrStop) (ts : List Tree) → IfErr q (if_stopped (λ s. IsEquationStop ts (listing r) (state r) a b s)) → IfErr q (if_stopped (λ s. IsOpeningStop ts (listing r) (state r) e a b s))
  if-opening (Ok x) ts h = tt
  if-opening (Err x) ts h = λ s n. as_it_is (h s n)

-- where goals are left, they are pending then
pub with-goals : (r : Evaluator) (e : Env) (a b : Forest) (gs : List Pending) (T : State) → equation (listing r) (state r) e a b ≡ Some (gs, T) → led_to r e a b ≡ Some (with_left (gs, T))
with-goals r e a b gs T h = ap (λ (o : Option (List Pending × State)). next o (λ q. Some (with_left q))) h

pub without-goals : (r : Evaluator) (e : Env) (a b : Forest) → equation (listing r) (state r) e a b ≡ None → led_to r e a b ≡ None
without-goals r e a b h = ap (λ (o : Option (List Pending × State)). next o (λ q. Some (with_left q))) h

-- Two arguments, once lists of one were made of them.

module _ (old mid : Evaluator) (env : ParamEnv) (a b : GenericArg) (p q : Args) (given : IsGiven old.context.trees old.normal.pairs old.opaques) (environment : IsParamEnv old.context.trees env) (goes : GoesOn old mid)
    (same : state mid ≡ state old) (left : args_forest mid.context.trees p ≡ alone (arg_tree old.context.trees a)) (right : args_forest mid.context.trees q ≡ alone (arg_tree old.context.trees b)) where
  abbrev E : Env
  E = env_forest old.context.trees env

  abbrev A : Forest
  A = alone (arg_tree old.context.trees a)

  abbrev B : Forest
  B = alone (arg_tree old.context.trees b)

  abbrev E_mid : Env
  E_mid = env_forest mid.context.trees env

  abbrev A_mid : Forest
  A_mid = args_forest mid.context.trees p

  abbrev B_mid : Forest
  B_mid = args_forest mid.context.trees q

  listing_same : listing mid ≡ listing old
  listing_same = goes-listing old mid goes given

  env_same : E_mid ≡ E
  env_same = (env-kept old.context mid.context env goes.0 environment).1

  equation_same : equation (listing mid) (state mid) E_mid A_mid B_mid ≡ equation (listing old) (state old) E A B
  equation_same = λ i. equation (listing_same i) (same i) (env_same i) (left i) (right i)

  led_same : led_to mid E_mid A_mid B_mid ≡ led_to old E A B
  led_same = ap (λ (o : Option (List Pending × State)). next o (λ q. Some (with_left q))) equation_same

  stops_same : (ts : List Tree) (s : Stop) → IsOpeningStop ts (listing mid) (state mid) E_mid A_mid B_mid s → IsOpeningStop ts (listing old) (state old) E A B s
  stops_same ts s k = subst (λ (z : Listing × (State × (Env × (Forest × Forest)))). IsOpeningStop ts z.0 z.1.0 z.1.1.0 z.1.1.1.0 z.1.1.1.1 s) (λ i. (listing_same i, (same i, (env_same i, (left i, right i))))) k

  -- of what a call answers

  pub singles-ok : {R F : Type 0} (r : Result R F) (f : R → List Pending) (T : State) → IfOk r (λ v. equation (listing mid) (state mid) E_mid A_mid B_mid ≡ Some (f v, T)) → IfOk r (λ v. equation (listing old) (state old) E A B ≡ Some (f v, T))
  singles-ok (Ok v) f T k = sym equation_same ∙ k
  singles-ok (Err x) f T k = tt

  pub singles-refused : {R : Type 0} (r : Result R NoSolutionOrStop) → IfErr r (if_refused (equation (listing mid) (state mid) E_mid A_mid B_mid ≡ None)) → IfErr r (if_refused (equation (listing old) (state old) E A B ≡ None))
  singles-refused (Ok v) k = tt
  singles-refused (Err x) k = λ n. sym equation_same ∙ k n

  pub singles-led : {R F : Type 0} (r : Result R F) (T : State) → OnOk r (led_to mid E_mid A_mid B_mid ≡ Some T) → OnOk r (led_to old E A B ≡ Some T)
  singles-led (Ok v) T k = sym led_same ∙ k
  singles-led (Err x) T k = tt

  pub singles-follow : {R F : Type 0} (r : Result R F) (T : State) → OnOk r (FollowsEquation (state mid) T A_mid B_mid) → OnOk r (FollowsEquation (state old) T A B)
  singles-follow (Ok v) T k = subst (λ (z : State × (Forest × Forest)). FollowsEquation z.0 T z.1.0 z.1.1) (λ i. (same i, (left i, right i))) k
  singles-follow (Err x) T k = tt

  pub singles-unled : {R : Type 0} (r : Result R NoSolutionOrStop) → IfErr r (if_refused (led_to mid E_mid A_mid B_mid ≡ None)) → IfErr r (if_refused (led_to old E A B ≡ None))
  singles-unled (Ok v) k = tt
  singles-unled (Err x) k = λ n. sym led_same ∙ k n

  pub singles-cause : {R : Type 0} (r : Result R NoSolutionOrStop) (ts : List Tree)
      → IfErr r (if_stopped (λ s. IsOpeningStop ts (listing mid) (state mid) E_mid A_mid B_mid s)) → IfErr r (if_stopped (λ s. IsOpeningStop ts (listing old) (state old) E A B s))
  singles-cause (Ok v) ts k = tt
  singles-cause (Err x) ts k = λ s n. stops_same ts s (k s n)

-- A list of one

pub list-one : (ts : List Tree) (x : GenericArg) → IsArg ts x → list_forest ts (x ∷ []) ≡ alone (arg_tree ts x)
list-one ts x i = arg-row ts x none i

pub one-unmade : {A : Type 0} (old new : Context) (x : GenericArg) (r : Result A Stop) → IsArg old.trees x → IfErr r (λ s. IsMkStop old.trees (heights (list_forest old.trees (x ∷ []))) s) → IfErr r (λ _. new ≡ old)
    → IfErr r (λ s. IsTreeStop new.trees (arg_tree old.trees x) s)
one-unmade old new x (Ok v) i k e = tt
one-unmade old new x (Err s) i (inl m) e = subst (IsTreeStop new.trees (arg_tree old.trees x)) (sym m) no_memory
one-unmade old new x (Err s) i (inr (f, inl n)) e =
    let same : length new.trees ≡ 4294967295 = ap (λ (c : Context). length c.trees) e ∙ n in
    subst (IsTreeStop new.trees (arg_tree old.trees x)) (sym f) (few_numbers (omega (arith, same)))
one-unmade old new x (Err s) i (inr (f, inr h)) e =
    let high : 1024 < heights (alone (arg_tree old.trees x)) = subst (λ (y : Forest). 1024 < heights y) (list-one old.trees x i) h in
    subst (IsTreeStop new.trees (arg_tree old.trees x)) (sym f) (high_tree high)

-- A variable of types

pub variable-type : (ts : List Tree) (x : GenericArg) (n : ℕ) → IsArg ts x → arg_tree ts x ≡ variable (Term General) n → arg_kind x ≡ TypeKind
variable-type ts (G.Ty t) n i e = refl
variable-type ts (G.Const t) n i e = let clash : ConstantKind ≡ TypeKind = sym (kind-of ts t.0 ConstantKind refl i) ∙ ap (λ (u : Tree). kind_of u.head) e in cc
variable-type ts (G.Region t) n i e = let clash : RegionKind ≡ TypeKind = sym (kind-of ts t.0 RegionKind refl i) ∙ ap (λ (u : Tree). kind_of u.head) e in cc

pub goes-with : (old new : Evaluator) → Grows old.context new.context → KeepsGiven old new → new.mode ≡ old.mode → new.marks ≡ old.marks → NoFault old.context new.context → (t : Inference) → IsFurther old.inference t → new.inference ≡ t → GoesOn old new
goes-with old new g k m n f t h e = (g, k, m, n, subst (IsFurther old.inference) (sym e) h, f)

pub sort-of-type : (ts : List Tree) (x : GenericArg) (t : Ty) → IsArg ts x → arg_kind x ≡ TypeKind → t.0 ≡ arg_number x → IsTy ts t
sort-of-type ts (G.Ty u) t i k e = subst (λ (n : ℕ). IsTy ts (record { 0 = n })) (sym e) i
sort-of-type ts (G.Const u) t i k e = absurd cc
sort-of-type ts (G.Region u) t i k e = absurd cc

-- an alias of a type is a type
pub alias-type : (ts : List Tree) (t : Ty) (o b : Bool) → IsTy ts t → o ≡ true → b ≡ is_alias (ty_tree ts t).head → b ≡ (o && (is_alias (ty_tree ts t).head && is_type (ty_tree ts t).head))
alias-type ts t o b i e f =
    let sort : is_type (ty_tree ts t).head ≡ true = ap is_type_kind (kind-of ts t.0 TypeKind refl i) in
    f ∙ rw (e, sort) (sym (and-true (is_alias (ty_tree ts t).head)))
  where
    and-true : (x : Bool) → x && true ≡ x
    and-true true = refl
    and-true false = refl

pub list-stops : (r : Evaluator) (e : Env) (a b : GenericArg) (ts : List Tree) (s : Stop) → are_open (listing r) (state r) ≡ true → IsTreeStop ts (arg_tree r.context.trees a) s ⊎ IsTreeStop ts (arg_tree r.context.trees b) s
    → IsOpeningStop ts (listing r) (state r) e (alone (arg_tree r.context.trees a)) (alone (arg_tree r.context.trees b)) s
list-stops r e a b ts s o (inl k) = side_listed (alone (arg_tree r.context.trees a)) o (inl refl) k
list-stops r e a b ts s o (inr k) = side_listed (alone (arg_tree r.context.trees b)) o (inr refl) k
