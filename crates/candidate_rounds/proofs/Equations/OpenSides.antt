-- Both sides of an equation, opened one after the other while nodes are made.
use Rattle.std.proofs.Common.{◌≡◌, Bool, true, false, ◌&&◌, ◌||◌, if◌then◌else◌, List, [], Option, Some, None, Result, Ok, Err, ap, sym, subst, ◌∙◌}
use Rattle.std.specs.Prelude.{IfErr, IfOk}
use Rattle.ir_trees.specs.declared.ir.kinds.Args.{Args}
use Rattle.ir_trees.specs.declared.ir.stop.Stop.{Stop}
use Rattle.ir_trees.specs.Declarations.Context.{Context, Grows}
use Rattle.ir_trees.specs.Syntax.Trees.{ArgumentsKind, Forest, Tree}
use Rattle.ir_trees.specs.Syntax.Words.{IsArgs, IsParamEnv, args_forest, env_forest}
use Rattle.std.proofs.Common.{refl}
use Rattle.ir_trees.specs.declared.ir.kinds.ParamEnv.{ParamEnv}
use Rattle.candidate_eval.specs.declared.eval.refusal.NoSolutionOrStop.{NoSolutionOrStop}
use Rattle.candidate_eval.specs.Interface.Accounts.{if_refused, if_stopped}
use Rattle.candidate_eval.specs.Interface.Evaluators.{pendings_of}
use Rattle.candidate_eval.proofs.Dynamic.Objects.{env-kept}
use Rattle.candidate_eval.specs.Judges.States.{Env, Pending, State, next}
use Rattle.rounds_judge.specs.Aliases.Listed.{Listing}
use Rattle.rounds_judge.specs.Aliases.OpenParts.{all_to_be, opened, with_parts}
use Rattle.rounds_judge.specs.Equations.Equating.{equated, without_goals}
use Rattle.rounds_judge.specs.Equations.Opening as states
use Rattle.rounds_judge.specs.Equations.Opening.{are_open, equated_openly, equation, has_alias, opened_by, opening, readied}
use Rattle.candidate_rounds.specs.Calls.Opening.{asks_openly, AreOpened, IsOpenedBy, opened_at, opened_pairs}
use Rattle.candidate_rounds.specs.declared.rounds.opening.Opened.{Opened}
use Rattle.candidate_rounds.specs.declared.rounds.opening.Sides.{Sides}
use Rattle.candidate_rounds.specs.Evaluators.Known.{Evaluator, GoesOn, IsGiven, listing, state}
use Rattle.candidate_rounds.specs.Evaluators.Stopping.{IsEquationStop, IsOpeningStop, IsSidesStop, as_it_is, sides_equated, sides_opened}
use Rattle.candidate_rounds.proofs.Equations.OpenVariables.{paired-extend, pairs-extend}
use Rattle.candidate_rounds.proofs.Evaluators.Going.{goes-listing, goes-trans, number-stays}

-- a list stays as nodes are made
pub list-kept : (a b : Context) (x : Args) → Grows a b → IsArgs a.trees x → IsArgs b.trees x × (args_forest b.trees x ≡ args_forest a.trees x)
list-kept a b x g i = let k = number-stays a b x.0 ArgumentsKind g refl i in (k.0, ap (λ (t : Tree). t.children) k.1)

-- so do open parts and what stands in their places
pub opened-kept : (a b : Context) (o : Opened) → Grows a b → IsOpenedBy a.trees o → IsOpenedBy b.trees o × (opened_pairs b.trees o ≡ opened_pairs a.trees o)
opened-kept a b o g k = (paired-extend a.trees b.trees o.parts.items o.variables.items g.kept k, pairs-extend a.trees b.trees o.parts.items o.variables.items g.kept k)

-- what comes of a side at a state that is as one before
pub readied-there : (l m : Listing) (S T : State) (a b : Forest) → m ≡ l → T ≡ S → b ≡ a → readied m T b ≡ readied l S a
readied-there l m S T a b x y z = λ i. readied (x i) (y i) (z i)

pub if-err : {A E : Type 0} (r : Result A E) (P Q : E → Type 0) → ((s : E) → P s → Q s) → IfErr r P → IfErr r Q
if-err (Ok x) P Q f p = tt
if-err (Err s) P Q f p = f s p

-- The equation of both sides once they are opened

module _ (old mid now : Evaluator) (env : ParamEnv) (a b p q : Args) (x : Sides) (given : IsGiven old.context.trees old.normal.pairs old.opaques) (environment : IsParamEnv old.context.trees env) (first : GoesOn old mid)
    (same : state mid ≡ state old) (left : args_forest mid.context.trees p ≡ readied (listing old) (state old) (args_forest old.context.trees a))
    (right : args_forest mid.context.trees q ≡ readied (listing old) (state old) (args_forest old.context.trees b)) (second : GoesOn mid now)
    (are : AreOpened now.context.trees (env_forest mid.context.trees env) (args_forest mid.context.trees p) (args_forest mid.context.trees q) (opened_at mid mid.context.trees p q) x)
    (opened_state : state now ≡ (opened_at mid mid.context.trees p q).state) where
  abbrev l : Listing
  l = listing old

  abbrev S : State
  S = state old

  abbrev E : Env
  E = env_forest old.context.trees env

  abbrev A : Forest
  A = args_forest old.context.trees a

  abbrev B : Forest
  B = args_forest old.context.trees b

  abbrev o : states.Opened
  o = opening l S A B

  opening_same : opened_at mid mid.context.trees p q ≡ o
  opening_same = λ i. opened_by (same i) (with_parts (with_parts [] (left i)) (right i))

  pub listing_there : listing now ≡ l
  listing_there = goes-listing old now (goes-trans old mid now first second) given

  pub state_there : state now ≡ o.state
  state_there = opened_state ∙ ap (λ (y : states.Opened). y.state) opening_same

  pub left_there : args_forest now.context.trees x.left ≡ opened o.pairs (readied l S A)
  left_there = are.left ∙ (λ i. opened (opening_same i).pairs (left i))

  pub right_there : args_forest now.context.trees x.right ≡ opened o.pairs (readied l S B)
  right_there = are.right ∙ (λ i. opened (opening_same i).pairs (right i))

  pub goals_there : pendings_of now.context.trees x.goals.items ≡ all_to_be E o.pairs
  goals_there = are.goals ∙ (λ i. all_to_be ((env-kept old.context mid.context env first.0 environment).1 i) (opening_same i).pairs)

  abbrev answer : Option State
  answer = equated l o.state (opened o.pairs (readied l S A)) (opened o.pairs (readied l S B))

  answer_there : equated (listing now) (state now) (args_forest now.context.trees x.left) (args_forest now.context.trees x.right) ≡ answer
  answer_there = λ i. equated (listing_there i) (state_there i) (left_there i) (right_there i)

  pub openly_some : (T : State) (gs : List Pending) → equated (listing now) (state now) (args_forest now.context.trees x.left) (args_forest now.context.trees x.right) ≡ Some T
      → gs ≡ pendings_of now.context.trees x.goals.items → equated_openly l S E A B ≡ Some (gs, T)
  openly_some T gs e g =
      ap (λ (r : Option State). next r (λ (T : State). Some (all_to_be E o.pairs, T))) (sym answer_there ∙ e) ∙ ap (λ (hs : List Pending). Some (hs, T)) (sym (g ∙ goals_there))

  pub openly_none : equated (listing now) (state now) (args_forest now.context.trees x.left) (args_forest now.context.trees x.right) ≡ None → equated_openly l S E A B ≡ None
  openly_none e = ap (λ (r : Option State). next r (λ (T : State). Some (all_to_be E o.pairs, T))) (sym answer_there ∙ e)

  pub openly_stops : (ts : List Tree) (s : Stop) → are_open l S ≡ true → IsEquationStop ts (listing now) (state now) (args_forest now.context.trees x.left) (args_forest now.context.trees x.right) s → IsOpeningStop ts l S E A B s
  openly_stops ts s e k = sides_equated e (subst (λ (z : Listing × (State × (Forest × Forest))). IsEquationStop ts z.0 z.1.0 z.1.1.0 z.1.1.1 s) (λ i. (listing_there i, (state_there i, (left_there i, right_there i)))) k)

-- why they weren't opened
module _ (old mid : Evaluator) (env : ParamEnv) (a b p q : Args) (first : GoesOn old mid) (same : state mid ≡ state old) (left : args_forest mid.context.trees p ≡ readied (listing old) (state old) (args_forest old.context.trees a))
    (right : args_forest mid.context.trees q ≡ readied (listing old) (state old) (args_forest old.context.trees b)) where
  pub opened_stops : (ts : List Tree) (s : Stop) → are_open (listing old) (state old) ≡ true
      → IsSidesStop ts (args_forest mid.context.trees p) (args_forest mid.context.trees q) (opened_at mid mid.context.trees p q) (state mid) s
      → IsOpeningStop ts (listing old) (state old) (env_forest old.context.trees env) (args_forest old.context.trees a) (args_forest old.context.trees b) s
  opened_stops ts s e k =
      sides_opened e
      (subst (λ (z : Forest × (Forest × (states.Opened × State))). IsSidesStop ts z.0 z.1.0 z.1.1.0 z.1.1.1 s)
      (λ i. (left i, (right i, (opened_by (same i) (with_parts (with_parts [] (left i)) (right i)), same i)))) k)

pub if-ok : {A E : Type 0} (r : Result A E) (P Q : A → Type 0) → ((a : A) → P a → Q a) → IfOk r P → IfOk r Q
if-ok (Ok x) P Q f p = f x p
if-ok (Err s) P Q f p = tt

-- whether an alias stands there, once none does on the left
pub asked-right : (o p q : Bool) → o ≡ true → p ≡ false → q ≡ o && (p || q)
asked-right o p q e f = rw (e, f) refl

-- not asked openly, and asked
pub as-it-stands : (l : Listing) (S : State) (E : Env) (a b : Forest) → asks_openly l S a b ≡ false → equation l S E a b ≡ without_goals (equated l S a b)
as-it-stands l S E a b e = ap (λ (c : Bool). if c then equated_openly l S E a b else without_goals (equated l S a b)) e

pub opened-there : (l : Listing) (S : State) (E : Env) (a b : Forest) → asks_openly l S a b ≡ true → equation l S E a b ≡ equated_openly l S E a b
opened-there l S E a b e = ap (λ (c : Bool). if c then equated_openly l S E a b else without_goals (equated l S a b)) e

pub asked-open : (o q : Bool) → o && q ≡ true → o ≡ true
asked-open true q e = refl
asked-open false q e = absurd cc

-- An equation, after it was asked whether aliases are open and one stands there

module _ (old mid : Evaluator) (env : ParamEnv) (a b : Args) (given : IsGiven old.context.trees old.normal.pairs old.opaques) (environment : IsParamEnv old.context.trees env) (left : IsArgs old.context.trees a)
    (right : IsArgs old.context.trees b) (goes : GoesOn old mid) (same : state mid ≡ state old) where
  abbrev env_old : Env
  env_old = env_forest old.context.trees env

  abbrev left_old : Forest
  left_old = args_forest old.context.trees a

  abbrev right_old : Forest
  right_old = args_forest old.context.trees b

  abbrev env_mid : Env
  env_mid = env_forest mid.context.trees env

  abbrev left_mid : Forest
  left_mid = args_forest mid.context.trees a

  abbrev right_mid : Forest
  right_mid = args_forest mid.context.trees b

  listing_same : listing mid ≡ listing old
  listing_same = goes-listing old mid goes given

  env_same : env_mid ≡ env_old
  env_same = (env-kept old.context mid.context env goes.0 environment).1

  left_same : left_mid ≡ left_old
  left_same = (list-kept old.context mid.context a goes.0 left).1

  right_same : right_mid ≡ right_old
  right_same = (list-kept old.context mid.context b goes.0 right).1

  pub open_still : asks_openly (listing old) (state old) left_old right_old ≡ true → are_open (listing mid) (state mid) ≡ true
  open_still e = (λ i. are_open (listing_same i) (same i)) ∙ asked-open (are_open (listing old) (state old)) (has_alias (state old) left_old right_old) e

  openly_same : equated_openly (listing mid) (state mid) env_mid left_mid right_mid ≡ equated_openly (listing old) (state old) env_old left_old right_old
  openly_same = λ i. equated_openly (listing_same i) (same i) (env_same i) (left_same i) (right_same i)

  pub asked_is : (r : Option (List Pending × State)) → asks_openly (listing old) (state old) left_old right_old ≡ true → equated_openly (listing mid) (state mid) env_mid left_mid right_mid ≡ r
      → equation (listing old) (state old) env_old left_old right_old ≡ r
  asked_is r e k = opened-there (listing old) (state old) env_old left_old right_old e ∙ (sym openly_same ∙ k)

  pub asked_stops : (ts : List Tree) (s : Stop) → IsOpeningStop ts (listing mid) (state mid) env_mid left_mid right_mid s → IsOpeningStop ts (listing old) (state old) env_old left_old right_old s
  asked_stops ts s k =
      subst (λ (z : Listing × (State × (Env × (Forest × Forest)))). IsOpeningStop ts z.0 z.1.0 z.1.1.0 z.1.1.1.0 z.1.1.1.1 s) (λ i. (listing_same i, (same i, (env_same i, (left_same i, right_same i))))) k

  equated_same : equated (listing mid) (state mid) left_mid right_mid ≡ equated (listing old) (state old) left_old right_old
  equated_same = λ i. equated (listing_same i) (same i) (left_same i) (right_same i)

  pub rigid_is : (r : Option State) → asks_openly (listing old) (state old) left_old right_old ≡ false → equated (listing mid) (state mid) left_mid right_mid ≡ r
      → equation (listing old) (state old) env_old left_old right_old ≡ without_goals r
  rigid_is r e k = as-it-stands (listing old) (state old) env_old left_old right_old e ∙ ap without_goals (sym equated_same ∙ k)

  pub rigid_stops : (ts : List Tree) (s : Stop) → IsEquationStop ts (listing mid) (state mid) left_mid right_mid s → IsOpeningStop ts (listing old) (state old) env_old left_old right_old s
  rigid_stops ts s k = as_it_is (subst (λ (z : Listing × (State × (Forest × Forest))). IsEquationStop ts z.0 z.1.0 z.1.1.0 z.1.1.1 s) (λ i. (listing_same i, (same i, (left_same i, right_same i)))) k)

  -- of what a call answers

  pub asked_ok : {A F : Type 0} (r : Result A F) (f : A → List Pending) (T : State) → asks_openly (listing old) (state old) left_old right_old ≡ true
      → IfOk r (λ v. equated_openly (listing mid) (state mid) env_mid left_mid right_mid ≡ Some (f v, T)) → IfOk r (λ v. equation (listing old) (state old) env_old left_old right_old ≡ Some (f v, T))
  asked_ok (Ok v) f T e k = asked_is (Some (f v, T)) e k
  asked_ok (Err x) f T e k = tt

  pub asked_refused : {A : Type 0} (r : Result A NoSolutionOrStop) → asks_openly (listing old) (state old) left_old right_old ≡ true
      → IfErr r (if_refused (equated_openly (listing mid) (state mid) env_mid left_mid right_mid ≡ None)) → IfErr r (if_refused (equation (listing old) (state old) env_old left_old right_old ≡ None))
  asked_refused (Ok v) e k = tt
  asked_refused (Err x) e k = λ n. asked_is None e (k n)

  pub asked_cause : {A : Type 0} (r : Result A NoSolutionOrStop) (ts : List Tree)
      → IfErr r (if_stopped (λ s. IsOpeningStop ts (listing mid) (state mid) env_mid left_mid right_mid s)) → IfErr r (if_stopped (λ s. IsOpeningStop ts (listing old) (state old) env_old left_old right_old s))
  asked_cause (Ok v) ts k = tt
  asked_cause (Err x) ts k = λ s n. asked_stops ts s (k s n)
