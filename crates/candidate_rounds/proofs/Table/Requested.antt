-- Which goals are asked for, where nodes were made meanwhile.
use Rattle.std.proofs.Common.{◌≡◌, ◌&&◌, ◌++◌, ◌∷◌, [], Bool, true, false, not, if◌then◌else◌, refl, sym, ◌∙◌, ap}
use Rattle.ir_trees.specs.Declarations.Context.{Grows}
use Rattle.candidate_rounds.specs.Calls.Requesting.{asked_of, is_requested, requested, requested_at}
use Rattle.candidate_rounds.specs.Evaluators.Known.{Evaluator, IsEvaluator, table_of}
use Rattle.candidate_rounds.specs.Table.Goals.{Goals, keys_seen, table_seen}
use Rattle.candidate_rounds.proofs.Evaluators.Between.{parts}
use Rattle.candidate_rounds.proofs.Table.Tabled.{keys-see, table-parts, tabled-sees}
use Rattle.rounds_judge.specs.Table.GoalTable.{is_entered}
use Rattle.rounds_judge.specs.Table.Keys.{Key}

module _ (r s : Evaluator) (h : IsEvaluator r.context r.inference r.marks r.normal r.opaques r.goals) (g : Grows r.context s.context) (e : s.goals ≡ r.goals) where
  table-same : table_of s ≡ table_of r
  table-same = ap (λ (x : Goals). table_seen s.context.trees x.table) e ∙ tabled-sees r.context.trees s.context.trees g.kept r.goals (parts h).tabled

  asked-same : asked_of s ≡ asked_of r
  asked-same = ap (λ (x : Goals). keys_seen s.context.trees x.asked) e ∙ keys-see r.context.trees s.context.trees g.kept r.goals.asked (table-parts (parts h).tabled).keys

  pub requested-same : (k m : Key) → k ≡ m → requested_at s k ≡ requested_at r m
  requested-same k m q = λ i. requested (e i).asks (table-same i) (asked-same i) (q i)

  -- what the table has isn't asked for
  pub none-requested : (k m : Key) → k ≡ m → is_entered (table_of s) k ≡ true → asked_of s ≡ requested_at r m
  none-requested k m q n =
      let off : is_requested s.goals.asks (table_of s) (asked_of s) k ≡ false = not-asked s.goals.asks (is_entered (table_of s) k) _ n in
      ap (λ b. if b then asked_of s ++ k ∷ [] else asked_of s) (sym off) ∙ requested-same k m q
    where
      not-asked : (a b c : Bool) → b ≡ true → a && (not b && c) ≡ false
      not-asked false b c t = refl
      not-asked true b c t = ap (λ x. not x && c) t

-- a goal that isn't given stays
pub given-not : {A : Type 0} → true ≡ false → A
given-not e = absurd cc
