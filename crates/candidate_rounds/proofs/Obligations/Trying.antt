-- What evaluates a goal, one part after another.
use Rattle.std.proofs.Common.{◌≡◌, ℕ, List, [], ◌∷◌, length, Result, Ok, Err, OnErr, OnOk, refl, sym, ◌∙◌, ap, subst}
use Rattle.std.proofs.lemmas.List.{map-append}
use Rattle.ir_trees.specs.declared.ir.kinds.Clause.{Clause}
use Rattle.ir_trees.specs.declared.ir.kinds.VarKind.{VarKind}
use Rattle.ir_trees.specs.declared.ir.stop.Stop.{Stop}
use Rattle.ir_trees.specs.Instantiation.Opening.{opened_clause}
use Rattle.ir_trees.specs.Hierarchy.Supers.{after_first}
use Rattle.ir_trees.specs.Syntax.Trees.{Kind, Tree}
use Rattle.ir_trees.specs.Syntax.Words.{clause_tree}
use Rattle.ir_trees.proofs.Growth.Kept.{grows-refl}
use Rattle.candidate_eval.specs.declared.eval.mode.TypingMode.{TypingMode}
use Rattle.candidate_eval.specs.Derivations.Characterization.{Bounded, bound_kinds, group_at}
use Rattle.candidate_eval.specs.Interface.Evaluators.{kinds_listed, rigid, with_rigid}
use Rattle.candidate_eval.specs.Judges.States.{State}
use Rattle.candidate_rounds.specs.Evaluators.Inferences.{Inference, back_to, record_region}
use Rattle.candidate_rounds.specs.Evaluators.Known.{Evaluator, GoesOn, HasResolvedValues, IsKnown, state_of}
use Rattle.rounds_judge.specs.Obligations.Settling.{instantiated, recorded, with_facts}
use Rattle.candidate_rounds.proofs.Evaluators.Going.{goes-back, goes-undone}
use Rattle.candidate_rounds.proofs.Snapshots.ResolvedValues.{resolved-with}

-- What is known is taken back to what it was: all that is kept has gone on, and what is known is the same.

pub taken-back : (old mid new : Evaluator) (n : ℕ) → n ≡ length old.inference.trail → GoesOn old mid → new ≡ record mid { inference = back_to n mid.inference } → GoesOn old new × (new.inference ≡ old.inference)
taken-back old mid new n e g u =
    subst (λ (x : Evaluator). GoesOn old x × (x.inference ≡ old.inference)) (sym u)
    (goes-undone old mid (record mid { inference = back_to n mid.inference }) g (grows-refl mid.context) refl (refl, refl, refl, refl) refl refl (ap (λ k. back_to k mid.inference) e))

pub resolved-again : (old mid : Evaluator) (n : ℕ) → n ≡ length old.inference.trail → GoesOn old mid → IsKnown old.context.trees old.inference → HasResolvedValues old.context.trees old.inference
    → HasResolvedValues mid.context.trees (back_to n mid.inference)
resolved-again old mid n e g k h =
    let back : back_to n mid.inference ≡ old.inference = ap (λ m. back_to m mid.inference) e ∙ goes-back old mid g in
    subst (HasResolvedValues mid.context.trees) (sym back) (resolved-with old.context.trees mid.context.trees old.inference g.0.kept k h)

-- What holds where a call stopped or was refused.
pub on-err : {A E P : Type 0} (r : Result A E) → P → OnErr r P
on-err (Ok a) p = tt
on-err (Err e) p = p

-- What holds where a call ended well.
pub on-ok : {A P : Type 0} (r : Result A Stop) → P → OnOk r P
on-ok (Ok a) p = p
on-ok (Err e) p = tt

-- A region constraint is recorded.
pub state-region : (ts : List Tree) (mode : TypingMode) (s : Inference) (c : Clause) → state_of ts mode (record_region s c) ≡ recorded (state_of ts mode s) (clause_tree ts c)
state-region ts mode s c = ap (λ rs. record (state_of ts mode s) { regions = rs }) (map-append (clause_tree ts) s.regions _)

-- An instance of a clause, by the kinds of its variables.

pub instantiated-state : (S : State) (c : Tree) (ks : List VarKind) → kinds_listed ks ≡ bound_kinds c.children → with_rigid S (kinds_listed ks) ≡ (instantiated S c).0
instantiated-state S c ks e = ap (with_rigid S) e ∙ at (bound_kinds c.children)
  where
    at : (ks : List Kind) → with_rigid S ks ≡ (group_at S (Bounded ks (after_first c.children))).0
    at [] = refl
    at (k ∷ ks) = refl

pub instantiated-tree : (S : State) (c : Tree) (ks : List VarKind) → kinds_listed ks ≡ bound_kinds c.children → opened_clause (rigid S (kinds_listed ks)) c ≡ with_facts c (instantiated S c).1
instantiated-tree S c ks e = ap (λ js. opened_clause (rigid S js) c) e ∙ at (bound_kinds c.children)
  where
    at : (ks : List Kind) → opened_clause (rigid S ks) c ≡ with_facts c (group_at S (Bounded ks (after_first c.children))).1
    at [] = refl
    at (k ∷ ks) = refl
