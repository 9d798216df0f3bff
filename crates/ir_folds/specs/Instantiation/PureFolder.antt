-- Folds by answers that are a function: what a part of one answers, why it stops, and what is noted of numbers.
use Rattle.std.specs.Prelude.{◌≡◌, ℕ, ◌+◌, ◌<◌, List, [], ◌∷◌, length, Option, Some, None, Result, IfOk, IfErr, option_map}
use Rattle.ir_folds.specs.declared.decl.answering.Place.{Place}
use Rattle.ir_trees.specs.declared.ir.heads.Head.{Head}
use Rattle.ir_trees.specs.declared.ir.kinds.GenericArg.{GenericArg}
use Rattle.ir_trees.specs.declared.ir.stop.Stop.{Stop}
use Rattle.ir_trees.specs.declared.ir.stop.Stop.TheVariants.{Memory, NodesFull}
use Rattle.ir_trees.specs.Declarations.Context.{Context, Grows}
use Rattle.ir_trees.specs.Syntax.Trees.{Forest, none, tree, Tree, heights, row}
use Rattle.ir_trees.specs.Syntax.Nodes.{tree_at, kind_at}
use Rattle.ir_trees.specs.Unification.Substitutions.{alone}
use Rattle.ir_trees.specs.Instantiation.Folding.{Answers, fold, fold_tree, most_bounds}
use Rattle.ir_trees.specs.Instantiation.Folds.{IsOfKind, arg_tree}

-- What may be said of why trees were not made: of memory, of too few numbers, of trees that are too high; and what is said of
-- a part is said of the whole.
pub record IsCause (C : ℕ → Forest → Stop → Type 0) : Type 0 where
  pub of_memory : (given : ℕ) (made : Forest) → C given made Memory
  pub of_numbers : (given : ℕ) (made : Forest) → 4294967295 < given + (most_bounds made + 1) → C given made NodesFull
  pub of_height : (given : ℕ) (made : Forest) → 1024 < heights made → C given made NodesFull
  pub of_below : (given : ℕ) (h : Head) (below rest : Forest) (x : Stop) → C given below x → C given (tree h below rest) x
  pub of_rest : (given : ℕ) (h : Head) (below rest : Forest) (x : Stop) → C given rest x → C given (tree h below rest) x
  pub of_first : (given : ℕ) (h : Head) (below rest : Forest) (x : Stop) → C given (tree h below none) x → C given (tree h below rest) x

-- it is said of an answer, if there is one
abbrev pub SaidOfAnswer : (ℕ → Forest → Stop → Type 0) → ℕ → Option Tree → Stop → Type 0
SaidOfAnswer C given None s = ⊥
SaidOfAnswer C given (Some t) s = C given (alone t) s

-- a stop in the place of an answer is said of it
abbrev pub AnswerHasCause : {A : Type 0} → (ℕ → Forest → Stop → Type 0) → ℕ → Option Tree → Result A Stop → Type 0
AnswerHasCause C given o result = IfErr result (λ s. SaidOfAnswer C given o s)

-- A part of a fold may answer what the whole fold makes of a tree. It answers nothing where the function doesn't.
abbrev pub MayAnswer : Answers → ℕ → Tree → Option Tree → Type 0
MayAnswer a d t None = a d t ≡ None
MayAnswer a d t (Some u) = u ≡ fold_tree a d t

-- a number that stands for the fold of another's tree under so many binders
pub record IsFoldOf (a : Answers) (ts : List Tree) (of : Place) (n : ℕ) : Type 0 where
  pub inside : of.number < length ts
  pub there : n < length ts
  pub kind : kind_at ts n ≡ kind_at ts of.number
  pub tree : tree_at ts n ≡ fold_tree a of.binders (tree_at ts of.number)

-- all that is noted
abbrev pub AreFolds : Answers → List Tree → List (Place × ℕ) → Type 0
AreFolds a ts [] = Unit {0}
AreFolds a ts (e ∷ es) = IsFoldOf a ts e.0 e.1 × AreFolds a ts es

module _ {M Rest : Type 0} (context : M → Context) (others : M → Rest) (a : Answers) (C : ℕ → Forest → Stop → Type 0) where
  -- What came of a part of a fold under so many binders, and what is noted then: an answer for it, or why there is none.
  pub record PartComesTo (s : M) (x : GenericArg) (d : ℕ) (result : Result (Option GenericArg) Stop) (e : M) (es : List (Place × ℕ)) : Type 0 where
    pub grows : Grows (context s) (context e)
    pub rest : others e ≡ others s
    pub kind : IfOk result (λ o. IsOfKind (context e).trees x o)
    pub answer : IfOk result (λ o. MayAnswer a d (arg_tree (context s).trees x) (option_map (arg_tree (context e).trees) o))
    pub noted : AreFolds a (context e).trees es
    pub cause : IfErr result (λ z. C (length (context e).trees) (alone (fold_tree a d (arg_tree (context s).trees x))) z)

  -- What came of a number under so many binders: that of its fold, or why there is none.
  pub record NumberComesTo (s : M) (d n : ℕ) (result : Result ℕ Stop) (e : M) : Type 0 where
    pub grows : Grows (context s) (context e)
    pub rest : others e ≡ others s
    pub sort : IfOk result (λ k. kind_at (context e).trees k ≡ kind_at (context s).trees n)
    pub tree : IfOk result (λ k. tree_at (context e).trees k ≡ fold_tree a d (tree_at (context s).trees n))
    pub cause : IfErr result (λ z. C (length (context e).trees) (fold a d (row (tree_at (context s).trees n) none)) z)

  -- the same, and what is noted then
  pub record NotesNumber (s : M) (d n : ℕ) (result : Result ℕ Stop) (e : M) (es : List (Place × ℕ)) : Type 0 where
    pub number : NumberComesTo s d n result e
    pub noted : AreFolds a (context e).trees es
