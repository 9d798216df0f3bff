-- What is asked of a normaliser, a closure that may change a context, and what is known of its calls.
use Rattle.std.specs.Prelude.{◌≡◌, refl, Bool, false, ◌<◌, ◌^◌, List, [], ◌∷◌, length, Result, Ok, Err, IfOk, ℕ, ◌⊎◌, ◌≤◌, true}
use Rattle.std.specs.Fn.{Mut, Called}
use Rattle.std.specs.Borrow.{MutBor}
use Rattle.ir_trees.specs.declared.ir.kinds.Ty.{Ty}
use Rattle.ir_trees.specs.declared.ir.stop.Stop.{Stop}
use Rattle.ir_trees.specs.declared.ir.stop.Stop.TheVariants.{Memory, WalkDepth, Unnameable}
use Rattle.ir_trees.specs.Syntax.Trees.{Tree}
use Rattle.ir_trees.specs.Declarations.Context.{Context, Grows}
use Rattle.ir_trees.specs.Syntax.Words.{IsTy, ty_tree}
use Rattle.candidate_eval.specs.declared.coherence.NormalizeErr.{NormalizeErr}
use Rattle.candidate_eval.specs.declared.coherence.NormalizeErr.TheVariants as N
use Rattle.candidate_eval.specs.declared.coherence.OrphanStop.{OrphanStop}
use Rattle.candidate_eval.specs.declared.coherence.OrphanStop.TheVariants as O
use Rattle.candidate_eval.specs.Knowability.Orphan.{Fault, Refused, Stopped, Seen, Sees, Fails, View, plain, is_unnameable}

-- what an answer shows, in the context that the call leaves
abbrev pub shown_fault : {E : Type 0} → NormalizeErr E → Fault E
shown_fault (N.Failed e) = Refused e
shown_fault (N.Stop s) = Stopped s

abbrev pub shown : {E : Type 0} → List Tree → Result Ty (NormalizeErr E) → Seen E
shown ts (Ok t) = Sees (ty_tree ts t)
shown ts (Err e) = Fails (shown_fault e)

-- Which stops of a normaliser a description leaves open. A refused growth always is, since no definition sees it.
abbrev pub Untold : Type 0
Untold = Stop → Bool

abbrev pub refused_growth : Untold
refused_growth Memory = true
refused_growth _ = false

abbrev pub any_stop : Untold
any_stop s = true

abbrev pub IsUntold : Untold → Stop → Type 0
IsUntold u s = u s ≡ true

-- the answer of a normaliser, or the result of a check, is no stop that is left open
abbrev pub IsToldAnswer : {E : Type 0} → Untold → Result Ty (NormalizeErr E) → Type 0
IsToldAnswer u r = (s : Stop) → IsUntold u s → r ≡ Err (N.Stop s) → ⊥

abbrev pub IsTold : {A E : Type 0} → Untold → Result A (OrphanStop E) → Type 0
IsTold u r = (s : Stop) → IsUntold u s → r ≡ Err (O.Stop s) → ⊥

-- The result is the stop.
abbrev pub StopsWith : {A E : Type 0} → Result A (OrphanStop E) → Stop → Type 0
StopsWith r s = r ≡ Err (O.Stop s)

-- A description of a normaliser, whose state is itself and what is seen of the context: what is left open, which state stands
-- for it and a context (so that nodes that it makes needn't count), and what it answers and leaves there.
pub record Description (F C V E : Type 0) : Type 0 where
  pub untold : Untold
  pub refused : IsUntold untold Memory
  pub stands : F × C → F × V
  pub normal : View (F × V) E

-- where itself and what is seen stand for it and a context
abbrev pub exactly : {F C V E : Type 0} → (C → V) → (u : Untold) → IsUntold u Memory → View (F × V) E → Description F C V E
exactly shows u e normal = record { untold = u; refused = e; stands = λ s. (s.0, shows s.1); normal = normal }

-- A call: the normaliser and the context that it finds, the type, the answer, and what is left of the two.
pub record Call (F C E : Type 0) : Type 0 where
  pub by : F
  pub before : C
  pub type : Ty
  pub answer : Result Ty (NormalizeErr E)
  pub next : F
  pub after : C

-- It answers the stop.
abbrev pub Answers : {F C E : Type 0} → Stop → Call F C E → Type 0
Answers s k = k.answer ≡ Err (N.Stop s)

-- None of the calls answers a stop.
abbrev pub NoneStops : {F C E : Type 0} → List (Call F C E) → Type 0
NoneStops [] = Unit {0}
NoneStops (k ∷ ks) = ((s : Stop) → Answers s k → ⊥) × NoneStops ks

-- None but the last does: after a stop no call is made.
abbrev pub EndsAtStop : {F C E : Type 0} → List (Call F C E) → Type 0
EndsAtStop [] = Unit {0}
EndsAtStop (k ∷ ks) = ((s : Stop) → Answers s k → ks ≡ []) × EndsAtStop ks

-- The last of the calls is such.
abbrev pub LastIs : {F C E : Type 0} → (Call F C E → Type 0) → List (Call F C E) → Type 0
LastIs P [] = ⊥
LastIs P (k ∷ []) = P k
LastIs P (k ∷ l ∷ ks) = LastIs P (l ∷ ks)

module _ {C F E : Type 0} (context : C → Context) (g : Mut F (MutBor C × (Ty × Unit {0})) (Result Ty (NormalizeErr E) × (MutBor C × Unit {0}))) where
  -- Called as f at a context c and a type, the normaliser may answer r, and is then d with the context f'.
  pub record Normalizes (f : F) (c : C) (t : Ty) (r : Result Ty (NormalizeErr E)) (f' : F) (c' : C) : Type 0 where
    pub lent : MutBor C
    pub lends : lent.now ≡ c
    pub left : MutBor C
    pub called : Called g f (lent, (t, tt)) (r, (left, tt)) f'
    pub leaves : left.now ≡ c'

  -- The call may be made, at a type of its context.
  pub record IsMade (k : Call F C E) : Type 0 where
    pub at_type : IsTy (context k.before).trees k.type
    pub call : Normalizes k.by k.before k.type k.answer k.next k.after

  -- Such calls lead from one normaliser and context to another.
  abbrev pub Lead : F → C → List (Call F C E) → F → C → Type 0
  Lead f c [] f' c' = (f' ≡ f) × (c' ≡ c)
  Lead f c (k ∷ ks) f' c' = (k.by ≡ f) × (k.before ≡ c) × IsMade k × Lead k.next k.after ks f' c'

  -- Such calls lead there, none of which answers a stop: there a further call may come.
  pub record IsReached (f : F) (c : C) (f' : F) (c' : C) : Type 0 where
    pub calls : List (Call F C E)
    pub lead : Lead f c calls f' c'
    pub none : NoneStops calls

  -- From here on it may be called: where its calls lead from here, in a context that keeps the numbers of this one.
  pub record MayNormalize (f0 : F) (c0 : C) : Type 0 where
    pub at : (f : F) (c : C) (t : Ty) (lent : MutBor C) → lent.now ≡ c → IsReached f0 c0 f c → Grows (context c0) (context c)
        → IsTy (context c).trees t → t.0 < 2 ^ 32 → g.pre f (lent, (t, tt))

  -- There it keeps the numbers itself, and answers a type of the context.
  pub record KeepsNumbers (f0 : F) (c0 : C) : Type 0 where
    pub at : (f : F) (c : C) (t : Ty) (r : Result Ty (NormalizeErr E)) (f' : F) (c' : C) → IsReached f0 c0 f c → Grows (context c0) (context c)
        → IsTy (context c).trees t → t.0 < 2 ^ 32 → Normalizes f c t r f' c'
        → Grows (context c) (context c') × IfOk r (λ u. IsTy (context c').trees u)

  -- From here on it is a normaliser that a walk can use: both.
  pub record IsNormalizer (f0 : F) (c0 : C) : Type 0 where
    pub callable : MayNormalize f0 c0
    pub keeps : KeepsNumbers f0 c0

  -- There its answers and effects, but for what is left open, are functions of the tree and of the state that stands for it
  -- and the context; what is seen there gives variables the same values.
  pub record IsFunction {V : Type 0} (shows : C → V) (resolve : V → Tree → Tree) (d : Description F C V E) (f0 : F) (c0 : C) : Type 0 where
    pub at : (f : F) (c : C) (t : Ty) (r : Result Ty (NormalizeErr E)) (f' : F) (c' : C) → IsReached f0 c0 f c → Grows (context c0) (context c)
        → IsTy (context c).trees t → t.0 < 2 ^ 32 → Normalizes f c t r f' c' → IsToldAnswer d.untold r
        → d.normal (d.stands (f, c)) (ty_tree (context c).trees t) ≡ record { seen = shown (context c').trees r; after = d.stands (f', c') }
    pub values : (f : F) (c : C) (t : Tree) → IsReached f0 c0 f c → Grows (context c0) (context c) → resolve (d.stands (f, c)).1 t ≡ resolve (shows c) t

  -- It answers its input, and changes nothing, unless it stops.
  abbrev pub IsPlain : {V : Type 0} → (C → V) → (V → Tree → Tree) → F → C → Type 0
  IsPlain shows resolve f0 c0 = IsFunction shows resolve (exactly shows any_stop refl plain) f0 c0

  -- It answers a type that stands in no header, or any type at one.
  pub record SeesUnnameable (k : Call F C E) : Type 0 where
    pub seen : Ty
    pub answers : k.answer ≡ Ok seen
    pub is : (is_unnameable (ty_tree (context k.after).trees seen).head ≡ true) ⊎ (is_unnameable (ty_tree (context k.before).trees k.type).head ≡ true)

  -- By these calls a walk stops so: for want of memory after any, for its depth after so many at least (a visit makes one,
  -- and those that it stands in one each), else by what the last of them does.
  abbrev pub IsStopCause : ℕ → List (Call F C E) → Stop → Type 0
  IsStopCause levels calls s =
      (s ≡ Memory) ⊎ (((s ≡ WalkDepth) × (levels ≤ length calls)) ⊎ (((s ≡ Unnameable) × LastIs SeesUnnameable calls) ⊎ LastIs (Answers s) calls))

  -- What is left keeps the numbers. Calls at types of their contexts lead to it; none but the last answers a stop, and a stop
  -- of the last is the result; where the result is a stop, they are its cause.
  pub record IsLeftByCalls (levels : ℕ) (f : F) (c : C) (f' : F) (c' : C) (stops : Stop → Type 0) : Type 0 where
    pub grows : Grows (context c) (context c')
    pub calls : List (Call F C E)
    pub lead : Lead f c calls f' c'
    pub ends : EndsAtStop calls
    pub passed_on : (s : Stop) → LastIs (Answers s) calls → stops s
    pub cause : (s : Stop) → stops s → IsStopCause levels calls s

  -- The same of a check, which keeps the normaliser that is left.
  pub record IsChangedByCalls {A : Type 0} (levels : ℕ) (f : F) (c c' : C) (result : Result A (OrphanStop E)) : Type 0 where
    pub last : F
    pub left : IsLeftByCalls levels f c last c' (StopsWith result)

  -- A view was taken by one call.
  pub record IsViewed (f : F) (c : C) (view : Result Ty (NormalizeErr E)) (f' : F) (c' : C) : Type 0 where
    pub call : Call F C E
    pub lead : Lead f c (call ∷ []) f' c'
    pub stops : (s : Stop) → Answers s call → view ≡ Err (N.Stop s)
    pub stopped : (s : Stop) → view ≡ Err (N.Stop s) → Answers s call
    pub unnameable : (u : Ty) → view ≡ Ok u → is_unnameable (ty_tree (context c').trees u).head ≡ true → SeesUnnameable call
