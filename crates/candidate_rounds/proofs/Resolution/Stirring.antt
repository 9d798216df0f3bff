-- Walks that look for what stirs, and what they find said of a state.
use Rattle.std.proofs.Common.{◌≡◌, ℕ, suc, ◌+◌, Bool, true, false, List, Option, Some, None, refl, sym, ◌∙◌, ap, arith}
use Rattle.std.specs.Prelude.{◌&&◌, ◌||◌}
use Rattle.std.specs.Option.{option_map}
use Rattle.ir_trees.specs.declared.ir.heads.Head.{Head}
use Rattle.ir_trees.specs.Instantiation.Folds.{arg_tree}
use Rattle.ir_trees.specs.Syntax.Nodes.{tree_at}
use Rattle.ir_trees.specs.Syntax.Trees.{Forest, none, tree, Tree, skip}
use Rattle.ir_trees.specs.Unification.Substitutions.{alone}
use Rattle.candidate_eval.specs.declared.eval.mode.TypingMode.{TypingMode}
use Rattle.candidate_eval.specs.Judges.States.{is_some}
use Rattle.candidate_eval.specs.Judges.Soundness.{is_region}
use Rattle.rounds_judge.specs.Equations.Active.{stirs, stirs_at}
use Rattle.rounds_judge.specs.Equations.Scopes.{has_binder, has_variables}
use Rattle.candidate_rounds.specs.Calls.Repeating.{stirs_in, stirs_where, tree_stirs}
use Rattle.candidate_rounds.specs.Evaluators.Inferences.{Inference, kept_at}
use Rattle.candidate_rounds.specs.Evaluators.Known.{state_of}
use Rattle.candidate_rounds.proofs.Resolution.Resolving.{kept-tree}

none-of : (a b c : Bool) → a || b ≡ false → c ≡ false → a || (b || c) ≡ false
none-of true b c e f = cc
none-of false true c e f = cc
none-of false false c e f = f

-- One child after the other.

module _ (s : Inference) where
  -- nothing stirs in them, if nothing does from that place on
  abbrev pub IsStillTo : Forest → ℕ → Type 0
  IsStillTo below place = stirs_in s (skip place below) ≡ false → stirs_in s below ≡ false

  pub next-still : (ts : List Tree) (below : Forest) (place child : ℕ) → IsStillTo below place
      → skip place below ≡ tree (tree_at ts child).head (tree_at ts child).children (skip (suc place) below) → tree_stirs s (tree_at ts child) ≡ false → IsStillTo below (place + 1)
  next-still ts below place child to at e = λ rest.
      let j : place + 1 ≡ suc place = omega arith in
      let t = tree_at ts child in
      to (ap (stirs_in s) at ∙ none-of (stirs_where s t.head t.children) (stirs_in s t.children) (stirs_in s (skip (suc place) below)) e (sym (ap (λ k. stirs_in s (skip k below)) j) ∙ rest))

  pub none-stirs : (t : Tree) (place : ℕ) → IsStillTo t.children place → skip place t.children ≡ none → stirs_where s t.head t.children ≡ false → tree_stirs s t ≡ false
  none-stirs t place to end e = rw (e, to (ap (stirs_in s) end)) refl

-- What is kept of a variable's value is what the state says.

module _ (ts : List Tree) (m : TypingMode) (s : Inference) where
  mapped : {A B : Type 0} (f : A → B) (o : Option A) → is_some (option_map f o) ≡ is_some o
  mapped f None = refl
  mapped f (Some a) = refl

  stirs-where : (h : Head) (below : Forest) → stirs_where s h below ≡ stirs_at (state_of ts m s) h below
  stirs-where h below = ap (λ b. (has_binder h && has_variables below) || (is_region h && b)) (sym (mapped (arg_tree ts) (kept_at s h)) ∙ ap is_some (kept-tree ts m s h))

  stirs-in : (a : Forest) → stirs_in s a ≡ stirs (state_of ts m s) a
  stirs-in none = refl
  stirs-in (tree h below rest) = rw (stirs-where h below, stirs-in below, stirs-in rest) refl

  pub still-at : (t : Tree) → tree_stirs s t ≡ false → stirs (state_of ts m s) (alone t) ≡ false
  still-at t e = sym (stirs-in (alone t)) ∙ none-of (stirs_where s t.head t.children) (stirs_in s t.children) false e refl
