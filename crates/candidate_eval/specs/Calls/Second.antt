-- The second walk of an uncovered view.
use Rattle.std.specs.Prelude.{◌≡◌, ℕ, Option, Result, Err}
use Rattle.std.specs.Fn.{Mut}
use Rattle.std.specs.Borrow.{MutBor}
use Rattle.ir_trees.specs.declared.ir.kinds.Args.{Args}
use Rattle.ir_trees.specs.declared.ir.kinds.Ty.{Ty}
use Rattle.ir_trees.specs.declared.ir.stop.Stop.{Stop}
use Rattle.ir_trees.specs.Declarations.Context.{Context}
use Rattle.ir_trees.specs.Syntax.Trees.{Forest, Tree}
use Rattle.ir_trees.specs.Syntax.Words.{args_forest}
use Rattle.candidate_eval.specs.declared.coherence.NormalizeErr.{NormalizeErr}
use Rattle.candidate_eval.specs.Knowability.Answers.{second_answer}
use Rattle.candidate_eval.specs.Knowability.Calls.{IfDescribed}
use Rattle.candidate_eval.specs.Knowability.Normalizer.{IsUntold}
use Rattle.candidate_eval.specs.Knowability.Orphan.{InCrate, View, view, Checked, Answer, decides_again, first_step, second}
use Rattle.candidate_eval.specs.Calls.Walk.{Setting, setting, classes, list_steps}

-- What is checked for the uncovered view `t` by the second frontier, begun at `s`.
abbrev pub IsSecond : {S E : Type 0} → Setting → View S E → ℕ → S → Forest → Tree → Checked S (Answer E) → Type 0
IsSecond p see n s args t checked =
    second (classes p) t s (list_steps p see n s args) (first_step decides_again (classes p) (list_steps p see n s args)) ≡ checked

module _ {C F V E : Type 0} (context : C → Context) (shows : C → V) (resolve : V → Tree → Tree) (g : Mut F (MutBor C × (Ty × Unit {0})) (Result Ty (NormalizeErr E) × (MutBor C × Unit {0}))) where
  -- What a second walk finds of the types of a list, with so many levels, unless its stop is left open, is what is checked for any uncovered view.
  abbrev pub FindsAsDefined : ℕ → F → C → InCrate → Args → Result (Option Ty) Stop → F → C → Type 0
  FindsAsDefined levels f c m args result f' c' =
      IfDescribed context shows resolve g f c (λ d. ((s : Stop) → IsUntold d.untold s → result ≡ Err s → ⊥) → (t : Tree)
      → IsSecond (setting (context c) m) (view (λ s u. resolve s.1 u) d.normal) levels (d.stands (f, c))
      (args_forest (context c).trees args) t (record { answer = second_answer (context c').trees t result; after = d.stands (f', c') }))
