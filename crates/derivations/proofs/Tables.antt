-- A round or a step keeps a table of which each Yes is derived, if what a goal comes to by such a table is derived.
use Rattle.std.proofs.Common.{Some, List, [], ◌∷◌, map, sym, subst}
use Rattle.std.specs.List.{All, Contains}
use Rattle.std.proofs.lemmas.List.Elements.{All-append, All-cons, All-contains, All-contains_itself, All-head, All-nil, All-tail, All-weaker, Contains-append_left}
use Rattle.ir_trees.specs.Declarations.Context.{Context}
use Rattle.rounds_judge.specs.Table.GoalTable.{Entry, GoalTable, unanswered, with_verdict}
use Rattle.rounds_judge.specs.Table.Keys.{Key}
use Rattle.rounds_judge.specs.Aliases.Listed.{Listing}
use Rattle.rounds_judge.specs.Table.Rounds.{IsWriting, PureFolder, Stays, Writes, computed, nothing, stays}
use Rattle.rounds_judge.specs.Table.Verdicts.{Answer, verdict_of}
use Rattle.derivations.specs.DerivedTables.{AreDerived, TableIsClean, VerdictIsDerived}
use Rattle.derivations.specs.Clean.{IsClean}
use Rattle.derivations.proofs.Declared.{as_derived, as_each}

module _ {W : Type 0} (d : Context) (l : Listing) (A : PureFolder W) (Good : Key → Type 0)
    (one : (T : GoalTable W) → AreDerived d l T → (k : Key) (a : Answer W) → Good k → A T k a → VerdictIsDerived d l k (Some (verdict_of a))) where
  abbrev IsGood : Entry W → Type 0
  IsGood e = Good e.key

  abbrev IsDerived : Entry W → Type 0
  IsDerived e = VerdictIsDerived d l e.key e.verdict

  -- all keys of a table are such that their goals may be computed
  abbrev pub KeysAre : GoalTable W → Type 0
  KeysAre T = All IsGood T

  written_derived : {P : Stays W} (T : GoalTable W) → AreDerived d l T → {es fs : GoalTable W} → Writes P A T es fs → KeysAre es → All IsDerived es → All IsDerived fs
  written_derived T h nothing good derived = All-nil IsDerived
  written_derived T h (stays e {es = es} {fs = fs} f w) good derived =
      All-cons IsDerived e fs (All-head IsDerived e es derived) (written_derived T h w (All-tail IsGood e es good) (All-tail IsDerived e es derived))
  written_derived T h (computed e a {es = es} {fs = fs} f x w) good derived =
      let new = with_verdict e (verdict_of a) in
      All-cons IsDerived new fs (one T h e.key a (All-head IsGood e es good) x) (written_derived T h w (All-tail IsGood e es good) (All-tail IsDerived e es derived))

  none_answered : (ks : List Key) → All IsDerived (map unanswered ks)
  none_answered [] = All-nil IsDerived
  none_answered (k ∷ ks) = All-cons IsDerived (unanswered k) (map unanswered ks) tt (none_answered ks)

  -- One round or step does.
  pub round_derives : {P : Stays W} (T U : GoalTable W) → IsWriting P A T U → KeysAre T → AreDerived d l T → AreDerived d l U
  round_derives T U r good h =
      as_derived d l U (subst (All IsDerived) (sym r.is) (All-append IsDerived r.written (map unanswered r.asked) (written_derived T h r.writes good (as_each d l T h)) (none_answered r.asked)))

-- What a round or a step leaves has all keys that were there, so where it is clean what was there is.
module _ {W : Type 0} (l : Listing) (A : PureFolder W) where
  abbrev IsCleanEntry : Entry W → Type 0
  IsCleanEntry e = IsClean e.key.goal.reference.arguments

  kept_clean : {P : Stays W} (T : GoalTable W) → {es fs : GoalTable W} → Writes P A T es fs → All IsCleanEntry fs → All IsCleanEntry es
  kept_clean T nothing all = All-nil IsCleanEntry
  kept_clean T (stays e {es = es} {fs = fs} f w) all = All-cons IsCleanEntry e es (All-head IsCleanEntry e fs all) (kept_clean T w (All-tail IsCleanEntry e fs all))
  kept_clean T (computed e a {es = es} {fs = fs} f x w) all =
      let new = with_verdict e (verdict_of a) in
      All-cons IsCleanEntry e es (All-head IsCleanEntry new fs all) (kept_clean T w (All-tail IsCleanEntry new fs all))

  pub round_clean : {P : Stays W} (T U : GoalTable W) → IsWriting P A T U → TableIsClean l U → TableIsClean l T
  round_clean T U r x =
      let there : (e : Entry W) → Contains r.written e → IsCleanEntry e = λ e h. x.keys e (subst (λ es. Contains es e) (sym r.is) (Contains-append_left r.written (map unanswered r.asked) e h)) in
      let all = kept_clean T r.writes (All-weaker (Contains r.written) IsCleanEntry there r.written (All-contains_itself r.written)) in
      record { listed = x.listed; keys = λ e h. All-contains IsCleanEntry T e all h }
