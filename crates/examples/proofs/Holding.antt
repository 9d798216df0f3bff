-- A goal that a table has as a Yes has a derivation.
use Rattle.std.proofs.Common.{◌≡◌, Bool, true, false, not, Option, Some, refl, sym, subst}
use Rattle.ir_trees.specs.declared.ir.kinds.ParamEnv.{ParamEnv}
use Rattle.ir_trees.specs.declared.ir.kinds.TraitPredicate.{TraitPredicate}
use Rattle.ir_trees.specs.Declarations.Context.{Context}
use Rattle.candidate_assembly.specs.Goals.KindShown.{IsGoal, trait_kind}
use Rattle.candidate_assembly.specs.Goals.TraitGoals.{trait_goal}
use Rattle.candidate_assembly.proofs.Calls.Keeping.{trait-goal-kept}
use Rattle.candidate_eval.specs.Outcomes.Responses.{Response}
use Rattle.derivations.specs.DerivedTables.{AnswerIsDerived, ByDeclared, TableIsClean, VerdictIsDerived, YesIsDerived}
use Rattle.candidate_rounds.specs.Evaluators.Known.{Evaluator, listing, state}
use Rattle.candidate_rounds.specs.Table.Running.{StaysBesideTable}
use Rattle.rounds_judge.specs.Aliases.Listed.{Listing}
use Rattle.rounds_judge.specs.Table.GoalTable.{GoalTable}
use Rattle.rounds_judge.specs.Table.Keys.{Key, key_at}
use Rattle.rounds_judge.specs.Table.Verdicts.{Verdict, Yes}
use Rattle.examples.specs.Holds.{HasDerivation}

pub not-true : (b : Bool) → not b ≡ true → b ≡ false
not-true true e = cc
not-true false e = refl

answer-parts : {W : Type 0} (c : Context) (l : Listing) (T : GoalTable W) (k : Key) (v : Option (Verdict W)) → AnswerIsDerived c l T k v → ByDeclared c (λ d. TableIsClean l T → VerdictIsDerived d l k v)
unfolding AnswerIsDerived
answer-parts c l T k v h = h

pub yes-derived : {W : Type 0} (m z : Evaluator) (env : ParamEnv) (p : TraitPredicate) (T : GoalTable W) (x : Response) (way : Option W) → StaysBesideTable m z → IsGoal trait_kind m.context env p → TableIsClean (listing z) T
    → AnswerIsDerived z.context (listing z) T (key_at (state m) (trait_goal m.context.trees env p)) (Some (Yes x way)) → HasDerivation z env p
yes-derived m z env p T x way stays goal clean h =
    let k = key_at (state m) (trait_goal m.context.trees env p) in
    let d = answer-parts z.context (listing z) T k (Some (Yes x way)) h in
    let same : trait_goal z.context.trees env p ≡ trait_goal m.context.trees env p = (trait-goal-kept m.context z.context env p stays.grows goal).1 in
    let keys : key_at (state z) (trait_goal z.context.trees env p) ≡ k = (λ i. key_at (stays.state_same i) (same i)) in
    record { declared = d.declared; grows = d.grows; response = x; derived = subst (λ (k : Key). YesIsDerived d.declared (listing z) k x) (sym keys) (d.holds clean) }
