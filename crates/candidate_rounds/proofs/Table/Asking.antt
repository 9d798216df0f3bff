-- A goal of a trait that is looked up in the table: what each finding comes to.
use Rattle.std.proofs.Common.{◌≡◌, ℕ, Bool, true, false, ◌||◌, Option, Some, None, List, [], ◌∷◌, if◌then◌else◌, Result, refl, sym, ◌∙◌, ap, subst}
use Rattle.std.specs.Prelude.{IsErrAnd}
use Rattle.ir_trees.specs.declared.ir.stop.Stop.{Stop}
use Rattle.ir_trees.specs.declared.ir.stop.Stop.TheVariants.{Memory}
use Rattle.candidate_eval.specs.declared.eval.refusal.NoSolutionOrStop.{NoSolutionOrStop}
use Rattle.candidate_eval.specs.declared.eval.refusal.NoSolutionOrStop.TheVariants as refusal
use Rattle.ir_trees.specs.declared.ir.heads.Head.{Head}
use Rattle.ir_trees.specs.declared.ir.heads.Head.TheVariants as H
use Rattle.ir_trees.specs.declared.ir.heads.PartHead.TheVariants as P
use Rattle.ir_trees.specs.declared.ir.heads.ClauseHead.TheVariants as Cl
use Rattle.ir_trees.specs.declared.ir.kinds.PredicatePolarity.{PredicatePolarity}
use Rattle.ir_trees.specs.declared.ir.kinds.TraitId.{TraitId}
use Rattle.ir_trees.specs.Syntax.Trees.{Forest, Tree}
use Rattle.candidate_eval.specs.Derivations.ImplRules.{TraitGoal}
use Rattle.candidate_eval.specs.Dynamic.ObjectRequirements.{trait_said}
use Rattle.candidate_eval.specs.Outcomes.Responses.{Response}
use Rattle.candidate_eval.specs.Judges.States.{Env, State, is_some, next, resolved}
use Rattle.candidate_rounds.specs.Calls.Found.{IsOpen, IsReadYes}
use Rattle.candidate_rounds.specs.Table.Goals.{Reads, Via, goal_by, goal_said}
use Rattle.candidate_rounds.specs.Evaluators.Stopping.{Held, IsGivingStop, IsTraitStop, key_memory, of_giving, of_key}
use Rattle.candidate_rounds.proofs.Stops.SettlingStops.{IfStops, growth-becomes}
use Rattle.candidate_rounds.specs.Table.Trying.{answered_trait, answered_verdict, evaluated_as}
use Rattle.rounds_judge.specs.Table.GoalTable.{GoalTable, is_entered, may_be_read, verdict_in, well_entered}
use Rattle.rounds_judge.specs.Table.Keys.{Key, goal_trees, key_at, numbers_at, same_key}
use Rattle.rounds_judge.specs.Table.TableSettling.{are_bare, given}
use Rattle.rounds_judge.specs.Table.Verdicts.{Verdict, Yes, Maybe, Refused}

-- Of a goal that the table doesn't have nothing is read.
pub not-entered : (T : GoalTable Via) (k : Key) → is_entered T k ≡ false → verdict_in (well_entered T) k ≡ None
not-entered [] k e = refl
not-entered (x ∷ xs) k e =
    let p = or-parts (same_key x.key k) (is_entered xs k) e in
    at (may_be_read x.key x.verdict) p.0 (not-entered xs k p.1)
  where
    or-parts : (a b : Bool) → a || b ≡ false → (a ≡ false) × (b ≡ false)
    or-parts true b h = absurd (let clash : true ≡ false = h in cc)
    or-parts false b h = (refl, h)

    at : (b : Bool) → same_key x.key k ≡ false → verdict_in (well_entered xs) k ≡ None → verdict_in (if b then x ∷ well_entered xs else well_entered xs) k ≡ None
    at true s n = ap (λ b. if b then x.verdict else verdict_in (well_entered xs) k) s ∙ n
    at false s n = n

open-stays : (q : Reads) (S : State) (k : Key) (ns : List ℕ) (v : Option (Verdict Via)) → IsOpen v → answered_verdict q.listing S k ns v ≡ Some (false, S)
open-stays q S k ns None o = refl
open-stays q S k ns (Some (Maybe r w)) o = refl
open-stays q S k ns (Some (Yes r w)) o = absurd o
open-stays q S k ns (Some Refused) o = absurd o

module _ (q r : Reads) (S T : State) (g : TraitGoal) (k : Key) (ns : List ℕ) (i : r ≡ q) (j : T ≡ S) (e : k ≡ key_at S g) (m : ns ≡ numbers_at S g)
    (b : are_bare (resolved S (goal_trees g)) ≡ true) where
  asked-so : answered_trait q S g ≡ answered_verdict r.listing T k ns (verdict_in r.table k)
  asked-so =
      ap (λ x. if x then answered_verdict q.listing S (key_at S g) (numbers_at S g) (verdict_in q.table (key_at S g)) else Some (false, S)) b
      ∙ (ap (λ x. answered_verdict q.listing S x (numbers_at S g) (verdict_in q.table x)) (sym e)
      ∙ (ap (λ x. answered_verdict q.listing S k x (verdict_in q.table k)) (sym m)
      ∙ (ap (λ x. answered_verdict q.listing x k ns (verdict_in q.table k)) (sym j)
      ∙ ap (λ (x : Reads). answered_verdict x.listing T k ns (verdict_in x.table k)) (sym i))))

  pub asked-missing : (U : State) → U ≡ T → verdict_in r.table k ≡ None → answered_trait q S g ≡ Some (false, U)
  asked-missing U u n = asked-so ∙ (ap (answered_verdict r.listing T k ns) n ∙ ap (λ V. Some (false, V)) (sym u))

  pub asked-open : IsOpen (verdict_in r.table k) → answered_trait q S g ≡ Some (false, T)
  asked-open o = asked-so ∙ open-stays r T k ns (verdict_in r.table k) o

  pub asked-refused : verdict_in r.table k ≡ Some Refused → answered_trait q S g ≡ None
  asked-refused n = asked-so ∙ ap (answered_verdict r.listing T k ns) n

  pub asked-given : (a : Response) (U : State) → IsReadYes r.table k a → given r.listing T k ns a ≡ Some U → answered_trait q S g ≡ Some (true, U)
  asked-given a U y h = asked-so ∙ (ap (answered_verdict r.listing T k ns) y.read ∙ ap (λ (o : Option State). next o (λ V. Some (true, V))) h)

  pub asked-not-given : (a : Response) → IsReadYes r.table k a → given r.listing T k ns a ≡ None → answered_trait q S g ≡ None
  asked-not-given a y h = asked-so ∙ (ap (answered_verdict r.listing T k ns) y.read ∙ ap (λ (o : Option State). next o (λ V. Some (true, V))) h)

-- An instance of a trait is looked up.

pub trait-evaluated : (q : Reads) (S : State) (e : Env) (c : Tree) (ts : Forest) (h : Head) (i : TraitId) (p : PredicatePolarity) → h ≡ H.Part (P.Clause (Cl.Trait i p))
    → answered_trait q S (goal_by e h ts) ≡ evaluated_as q S e c ts h
trait-evaluated q S e c ts h i p is = subst (λ (x : Head). answered_trait q S (goal_by e x ts) ≡ evaluated_as q S e c ts x) (sym is) refl

pub says-trait : (h : Head) (i : TraitId) (p : PredicatePolarity) → h ≡ H.Part (P.Clause (Cl.Trait i p)) → is_some (trait_said h) ≡ true
says-trait h i p is = ap (λ (x : Head). is_some (trait_said x)) is

-- Why what a Yes says wasn't read, or wasn't given.

pub unread-stop : {A : Type 0} (h : Held) (q : Reads) (S : State) (e : Env) (c : Tree) (r : Result A NoSolutionOrStop) (x : Stop) → IsErrAnd r (λ f. f ≡ refusal.Stop x) → x ≡ Memory → IfStops r (IsTraitStop h q S e c)
unread-stop h q S e c r x f m = growth-becomes (IsTraitStop h q S e c) r x f m (of_key key_memory)

pub giving-stop : (h : Held) (q r : Reads) (S T : State) (e : Env) (c : Tree) (k : Key) (ns : List ℕ) (a : Response) (s : Stop) → r ≡ q → T ≡ S → k ≡ key_at S (goal_said e c) → ns ≡ numbers_at S (goal_said e c)
    → IsReadYes r.table k a → IsGivingStop h.trees r.listing T k ns a s → IsTraitStop h q S e c s
giving-stop h q r S T e c k ns a s i j f g y stop =
    of_giving a y.way
    (subst (λ x. verdict_in q.table x ≡ Some (Yes a y.way)) f (subst (λ (x : Reads). verdict_in x.table k ≡ Some (Yes a y.way)) i y.read))
    (subst (λ x. IsGivingStop h.trees q.listing S x (numbers_at S (goal_said e c)) a s) f
    (subst (λ x. IsGivingStop h.trees q.listing S k x a s) g
    (subst (λ x. IsGivingStop h.trees q.listing x k ns a s) j (subst (λ (x : Reads). IsGivingStop h.trees x.listing T k ns a s) i stop))))
