-- Rounds and steps over a table of goals. What a goal comes to is known by a relation: whoever computes goals says what it is.
use Rattle.std.specs.Prelude.{◌≡◌, ◌≤◌, ◌<◌, ◌⊎◌, ℕ, zero, suc, true, false, List, [], ◌∷◌, ◌++◌, map}
use Rattle.rounds_judge.specs.Table.GoalTable.{Entry, GoalTable, AreNew, verdict_in, entered_in, unanswered, with_verdict}
use Rattle.rounds_judge.specs.Table.Keys.{Key}
use Rattle.rounds_judge.specs.Table.Verdicts.{Answer, verdict_of, is_final}

-- What the goal of a key comes to at its fresh state, for a judge that reads this table.
abbrev pub PureFolder : Type 0 → Type 1
PureFolder W = GoalTable W → Key → Answer W → Type 0

-- What may stay as it is where goals of a table are computed: what is final, in a round, and in a step any entry.

abbrev pub Stays : Type 0 → Type 1
Stays W = Entry W → Type 0

abbrev pub IsFinalEntry : {W : Type 0} → Stays W
IsFinalEntry e = is_final e.verdict ≡ true

abbrev pub AnyEntry : {W : Type 0} → Stays W
AnyEntry e = Unit {0}

-- Entries, and what is made of them by the table that is read: some stay, and all else isn't final and is computed.
pub data Writes {W : Type 0} (P : Stays W) (A : PureFolder W) (T : GoalTable W) : GoalTable W → GoalTable W → Type 0 where
  nothing : Writes P A T [] []
  stays : (e : Entry W) {es fs : GoalTable W} → P e → Writes P A T es fs → Writes P A T (e ∷ es) (e ∷ fs)
  computed : (e : Entry W) (a : Answer W) {es fs : GoalTable W} → is_final e.verdict ≡ false → A T e.key a → Writes P A T es fs
      → Writes P A T (e ∷ es) (with_verdict e (verdict_of a) ∷ fs)

-- Goals of the table are computed by the table that was left last, and then written. Goals that were first asked meanwhile come after
-- them, with no verdict.
pub record IsWriting {W : Type 0} (P : Stays W) (A : PureFolder W) (T U : GoalTable W) : Type 0 where
  pub written : GoalTable W
  pub writes : Writes P A T T written
  pub asked : List Key
  pub are_new : AreNew T asked
  pub is : U ≡ written ++ map unanswered asked

-- One round: all goals that aren't final are computed.
abbrev pub IsRound : {W : Type 0} → PureFolder W → GoalTable W → GoalTable W → Type 0
IsRound A T U = IsWriting IsFinalEntry A T U

-- One step: some of them are. It isn't said which, nor that any is.
abbrev pub IsStep : {W : Type 0} → PureFolder W → GoalTable W → GoalTable W → Type 0
IsStep A T U = IsWriting AnyEntry A T U

-- A round that leaves the table as it was. By the same table each further one may come to the same, however many are left.
abbrev pub IsStill : {W : Type 0} → PureFolder W → GoalTable W → Type 0
IsStill A T = IsRound A T T

-- The table isn't as it was.
abbrev pub Changes : {W : Type 0} → GoalTable W → GoalTable W → Type 0
Changes T U = U ≡ T → ⊥

-- At most so many rounds: until the goal is final, or one leaves the table as it was. Each other round changes it.
pub data Rounds {W : Type 0} (A : PureFolder W) (k : Key) : ℕ → GoalTable W → GoalTable W → Type 0 where
  used_up : {T : GoalTable W} → is_final (verdict_in T k) ≡ false → Rounds A k zero T T
  enough : (n : ℕ) {T : GoalTable W} → is_final (verdict_in T k) ≡ true → Rounds A k n T T
  still : {n : ℕ} {T : GoalTable W} → is_final (verdict_in T k) ≡ false → IsStill A T → Rounds A k (suc n) T T
  round : {n : ℕ} {T U V : GoalTable W} → is_final (verdict_in T k) ≡ false → IsRound A T U → Changes T U → Rounds A k n U V → Rounds A k (suc n) T V

-- A run: the goal is entered, and rounds are done. Its answer is the goal's verdict in the table that is left.
abbrev pub IsRun : {W : Type 0} → PureFolder W → Key → ℕ → GoalTable W → GoalTable W → Type 0
IsRun A k n T U = Rounds A k n (entered_in T k) U

-- So many steps, each while the goal isn't final.
pub data Steps {W : Type 0} (A : PureFolder W) (k : Key) : ℕ → GoalTable W → GoalTable W → Type 0 where
  no_step : {T : GoalTable W} → Steps A k zero T T
  one_more : {n : ℕ} {T U V : GoalTable W} → Steps A k n T U → is_final (verdict_in U k) ≡ false → IsStep A U V → Steps A k (suc n) T V

-- at most so many
pub record StepsWithin {W : Type 0} (A : PureFolder W) (k : Key) (most : ℕ) (T U : GoalTable W) : Type 0 where
  pub count : ℕ
  pub within : count ≤ most
  pub steps : Steps A k count T U

-- No step is needed: the goal is final, or a round of all goals leaves the table as it is.
abbrev pub IsAtRest : {W : Type 0} → PureFolder W → Key → GoalTable W → Type 0
IsAtRest A k T = (is_final (verdict_in T k) ≡ true) ⊎ IsStill A T

-- Steps until no more is needed, or at most so many.
pub record Settles {W : Type 0} (A : PureFolder W) (k : Key) (most : ℕ) (T U : GoalTable W) : Type 0 where
  pub done : StepsWithin A k most T U
  pub ends : done.count < most → IsAtRest A k U

-- A run until the table is settled for the goal, which is entered. Which goals a step computes isn't said.
abbrev pub IsSettled : {W : Type 0} → PureFolder W → Key → ℕ → GoalTable W → GoalTable W → Type 0
IsSettled A k most T U = Settles A k most (entered_in T k) U

-- as many steps as such a run does
abbrev pub most_steps : ℕ
most_steps = 65535
