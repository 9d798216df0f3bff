-- What puts something in the place of variables, or of regions that are bound, leaves what has none as it is.
use Rattle.std.proofs.Common.{◌≡◌, ℕ, ◌+◌, Bool, false, List, Option, None, refl, sym, ◌∙◌, ap}
use Rattle.std.specs.Option.{option_map, unwrap_or}
use Rattle.ir_trees.specs.declared.ir.heads.Flag.TheVariants as F
use Rattle.ir_trees.specs.declared.ir.heads.Head.{Head}
use Rattle.ir_trees.specs.declared.ir.heads.Head.TheVariants as H
use Rattle.ir_trees.specs.declared.ir.heads.Variable.{Variable}
use Rattle.ir_trees.specs.declared.ir.heads.VariableSort.{VariableSort}
use Rattle.ir_trees.specs.declared.ir.heads.VariableSort.TheVariants as V
use Rattle.ir_trees.specs.declared.ir.kinds.RegionKind.{RegionKind}
use Rattle.ir_trees.specs.declared.ir.kinds.RegionKind.TheVariants as R
use Rattle.ir_trees.specs.Instantiation.Folding.{Answers, fold, fold_tree}
use Rattle.ir_trees.specs.Instantiation.Folds.{arg_tree, is_asked, is_asked_kind}
use Rattle.ir_trees.specs.Instantiation.Owned.{is_unsolved}
use Rattle.ir_trees.specs.Syntax.Flags.{mark}
use Rattle.ir_trees.specs.Syntax.Trees.{Forest, Tree, binders_of, holds, sort_kind, tree_holds}
use Rattle.ir_trees.proofs.Instantiation.Folding.{fold-nothing, or-left, or-right}
use Rattle.candidate_eval.specs.declared.eval.mode.TypingMode.TheVariants.{PostAnalysis}
use Rattle.candidate_eval.specs.Judges.States.{State, resolved, resolved_tree, value_at}
use Rattle.rounds_judge.specs.Equations.Binding.{single}
use Rattle.rounds_judge.specs.Equations.Scopes.{placed_head, placed_tree}
use Rattle.rounds_judge.specs.Obligations.Responding.{renumbered, renumbered_tree}
use Rattle.candidate_rounds.specs.Calls.PureFolder.{kept_answers}
use Rattle.candidate_rounds.specs.Calls.Gathered.{renumbered_at}
use Rattle.candidate_rounds.specs.Evaluators.Inferences.{Inference, kept_at}
use Rattle.candidate_rounds.specs.Evaluators.Known.{state_of}
use Rattle.candidate_rounds.proofs.Obligations.Anew.{fold-is, fold-tree-is}
use Rattle.candidate_rounds.proofs.Resolution.Resolving.{kept-tree}

-- a fold that answers at marked heads alone
module _ (f : Answers) (mark : Head → Bool) (none : (d : ℕ) (t : Tree) → mark t.head ≡ false → f d t ≡ None) where
  quiet-tree : (d : ℕ) (t : Tree) → tree_holds mark t ≡ false → fold_tree f d t ≡ t
  quiet-tree d t e =
      let kept : Tree = record { head = t.head; children = fold f (d + binders_of t.head) t.children } in
      ap (λ (o : Option Tree). unwrap_or o kept) (none d t (or-left (mark t.head) (holds mark t.children) e))
      ∙ ap (λ (b : Forest). let u : Tree = record { head = t.head; children = b } in u)
      (fold-nothing f mark none (d + binders_of t.head) t.children (or-right (mark t.head) (holds mark t.children) e))

  quiet : (t : Tree) → tree_holds mark t ≡ false → (t ≡ fold_tree f 0 t) × (t.children ≡ fold f 0 t.children)
  quiet t e = (sym (quiet-tree 0 t e), sym (fold-nothing f mark none 0 t.children (or-right (mark t.head) (holds mark t.children) e)))

value-none : (S : State) (h : Head) → is_unsolved h ≡ false → value_at S h ≡ None
value-none S (H.Infer v) e = absurd cc
value-none S (H.Region r) e = at r e
  where
    at : (k : RegionKind) → is_unsolved (H.Region k) ≡ false → value_at S (H.Region k) ≡ None
    at (R.Var n) f = absurd cc
    at _ f = refl
value-none S _ e = refl

number-none : (ns : List ℕ) (t : Tree) → is_unsolved t.head ≡ false → renumbered_at ns t ≡ None
number-none ns t e = at t.head e
  where
    at : (h : Head) → is_unsolved h ≡ false → renumbered_at ns (record { head = h; children = t.children }) ≡ None
    at (H.Infer v) f = absurd cc
    at (H.Region r) f = below r f
      where
        below : (k : RegionKind) → is_unsolved (H.Region k) ≡ false → renumbered_at ns (record { head = H.Region k; children = t.children }) ≡ None
        below (R.Var n) g = absurd cc
        below _ g = refl
    at _ f = refl

place-none : (us : List ℕ) (d : ℕ) (h : Head) → mark F.RegionBound h ≡ false → placed_head us d h ≡ None
place-none us d (H.Region r) e = at r e
  where
    at : (k : RegionKind) → mark F.RegionBound (H.Region k) ≡ false → placed_head us d (H.Region k) ≡ None
    at (R.Bound v) f = absurd cc
    at _ f = refl
place-none us d _ e = refl

single-none : (v : Variable) (w : Tree) (h : Head) → is_unsolved h ≡ false → single v w h ≡ None
single-none v w (H.Infer u) e = absurd cc
single-none v w _ e = refl

kept-none : (ts : List Tree) (s : Inference) (h : Head) → is_unsolved h ≡ false → option_map (arg_tree ts) (kept_at s h) ≡ None
kept-none ts s h e = kept-tree ts PostAnalysis s h ∙ value-none (state_of ts PostAnalysis s) h e

-- What isn't asked about is no variable.

unasked : (h : Head) → is_asked h ≡ false → is_unsolved h ≡ false
unasked (H.Infer v) e = absurd (at v.sort e)
  where
    at : (s : VariableSort) → is_asked_kind (sort_kind s) ≡ false → ⊥
    at V.General e = cc
    at V.Integer e = cc
    at V.Floating e = cc
    at V.Constant e = cc
unasked (H.Region r) e = cc
unasked _ e = refl

pub kept-unasked : (ts : List Tree) (s : Inference) (d : ℕ) (t : Tree) → is_asked t.head ≡ false → kept_answers ts s d t ≡ None
kept-unasked ts s d t e = kept-none ts s t.head (unasked t.head e)

pub single-unasked : (v : Variable) (w : Tree) (h : Head) → is_asked h ≡ false → single v w h ≡ None
single-unasked v w h e = single-none v w h (unasked h e)

pub renumbered-unasked : (ns : List ℕ) (t : Tree) → is_asked t.head ≡ false → renumbered_at ns t ≡ None
renumbered-unasked ns t e = number-none ns t (unasked t.head e)

-- under however many binders

pub kept-quiet : (ts : List Tree) (s : Inference) (d : ℕ) (t : Tree) → tree_holds is_unsolved t ≡ false → fold_tree (kept_answers ts s) d t ≡ t
kept-quiet ts s d t e = quiet-tree (kept_answers ts s) is_unsolved (λ _ u. kept-none ts s u.head) d t e

pub single-quiet : (v : Variable) (w : Tree) (d : ℕ) (t : Tree) → tree_holds is_unsolved t ≡ false → fold_tree (λ _ u. single v w u.head) d t ≡ t
single-quiet v w d t e = quiet-tree (λ _ u. single v w u.head) is_unsolved (λ _ u. single-none v w u.head) d t e

pub renumbered-quiet : (ns : List ℕ) (d : ℕ) (t : Tree) → tree_holds is_unsolved t ≡ false → fold_tree (λ _ u. renumbered_at ns u) d t ≡ t
renumbered-quiet ns d t e = quiet-tree (λ _ u. renumbered_at ns u) is_unsolved (λ _ u. number-none ns u) d t e

pub placed_at-quiet : (us : List ℕ) (d : ℕ) (t : Tree) → tree_holds (mark F.RegionBound) t ≡ false → fold_tree (λ c u. placed_head us c u.head) d t ≡ t
placed_at-quiet us d t e = quiet-tree (λ c u. placed_head us c u.head) (mark F.RegionBound) (λ c u. place-none us c u.head) d t e

-- under none

pub resolved-quiet : (S : State) (t : Tree) → tree_holds is_unsolved t ≡ false → (t ≡ resolved_tree S t) × (t.children ≡ resolved S t.children)
resolved-quiet S t e = quiet (λ _ u. value_at S u.head) is_unsolved (λ _ u. value-none S u.head) t e

pub numbered-quiet : (ns : List ℕ) (t : Tree) → tree_holds is_unsolved t ≡ false → (t ≡ renumbered_tree ns t) × (t.children ≡ renumbered ns t.children)
numbered-quiet ns t e =
    let q = quiet (λ _ u. renumbered_at ns u) is_unsolved (λ _ u. number-none ns u) t e in
    (q.0 ∙ fold-tree-is ns t, q.1 ∙ fold-is ns 0 t.children)

pub placed-quiet : (us : List ℕ) (t : Tree) → tree_holds (mark F.RegionBound) t ≡ false → t ≡ placed_tree us t
placed-quiet us t e = sym (placed_at-quiet us 0 t e)
