-- What makes sense at a state, and the states that come after it.
use Rattle.std.specs.Prelude.{◌≡◌, ℕ, ◌<◌, ◌≤◌, Bool, true, false, not, ◌&&◌, ◌||◌, nat_lt, Option, Some, None, List, length}
use Rattle.std.specs.List.{All}
use Rattle.ir_trees.specs.declared.ir.heads.Head.{Head}
use Rattle.ir_trees.specs.declared.ir.heads.Head.TheVariants as H
use Rattle.ir_trees.specs.declared.ir.heads.ConstHead.TheVariants as C
use Rattle.ir_trees.specs.declared.ir.heads.Variable.{Variable}
use Rattle.ir_trees.specs.declared.ir.heads.VariableSort.{VariableSort}
use Rattle.ir_trees.specs.declared.ir.kinds.RegionKind.TheVariants as R
use Rattle.ir_trees.specs.Syntax.Trees.{Forest, none, tree, Tree, erase, holds, variable_number}
use Rattle.ir_trees.specs.Syntax.Binders.{escapes}
use Rattle.ir_trees.specs.Instantiation.Folding.{leaf}
use Rattle.ir_trees.specs.Unification.Substitutions.{Universes, Substitution, IsAllowed, IsAllowedBinding, alone, apply, fits_sort}
use Rattle.candidate_eval.specs.declared.eval.variable.VariableKind.{VariableKind}
use Rattle.candidate_eval.specs.declared.eval.variable.VariableKind.TheVariants.{Term, Region}
use Rattle.candidate_eval.specs.Judges.States.{State, VariableInfo, Goal, Pending, has_kind, value_at, resolved, is_some}
use Rattle.candidate_eval.specs.Judges.Alike.{info}

abbrev pub universe_in : Option VariableInfo → ℕ
universe_in None = 0
universe_in (Some i) = i.universe

-- the universe of each variable
abbrev pub universes : State → Universes
universes S v = universe_in (info S v.number)

-- a variable of a universe above that one
abbrev pub is_variable_above : Universes → ℕ → Head → Bool
is_variable_above universe u (H.Infer v) = nat_lt u (universe v)
is_variable_above universe u _ = false

-- a variable that has a value
abbrev pub has_value : State → Head → Bool
has_value S h = is_some (value_at S h)

-- All values are put in.
abbrev pub IsResolved : State → Forest → Type 0
IsResolved S ts = holds (has_value S) ts ≡ false

-- Some of a state's variables, by their numbers: those that count. What a closed probe left behind may be left out.
abbrev pub Live : Type 0
Live = ℕ → Bool

-- a variable that doesn't count or is of another kind; a placeholder of a universe that the state doesn't have
abbrev pub is_strange : State → Live → Head → Bool
is_strange S L (H.Infer v) = not (L v.number && has_kind (Term v.sort) (info S v.number))
is_strange S L (H.Region (R.Var n)) = not (L n && has_kind Region (info S n))
is_strange S L (H.Placeholder p) = nat_lt S.newest_universe p.universe
is_strange S L (H.Const (C.Placeholder p)) = nat_lt S.newest_universe p.universe
is_strange S L (H.Region (R.Placeholder p)) = nat_lt S.newest_universe p.universe
is_strange S L _ = false

-- Trees of the state, from which no bound variable escapes.
pub record AreTreesOf (S : State) (L : Live) (ts : Forest) : Type 0 where
  pub known : holds (is_strange S L) ts ≡ false
  pub is_closed : escapes 0 ts ≡ false

abbrev pub is_region : Head → Bool
is_region (H.Region r) = true
is_region _ = false

-- a variable or a region
abbrev pub is_leaf : Head → Bool
is_leaf h = is_some (variable_number h) || is_region h

-- Variables and regions have no children, as in all trees that are well formed.
abbrev pub AreLeaves : Forest → Type 0
AreLeaves none = Unit {0}
AreLeaves (tree h below rest) = (is_leaf h ≡ true → below ≡ none) × AreLeaves below × AreLeaves rest

-- What is asked of the values of a state's variables, where the variables count.
abbrev pub OfValues : State → Live → (ℕ → VariableInfo → Tree → Type 0) → Type 0
OfValues S L P = (n : ℕ) (i : VariableInfo) (t : Tree) → L n ≡ true → info S n ≡ Some i → i.value ≡ Some t → P n i t

-- The values of what counts make sense.
pub record IsSound (S : State) (L : Live) : Type 0 where
  -- a value is allowed for its variable
  pub allowed : (s : VariableSort) → OfValues S L (λ n i t. i.kind ≡ Term s → IsAllowedBinding (universes S) (record { variable = record { sort = s; number = n }; value = t }))
  -- it holds no variable of a universe above its own
  pub no_higher : OfValues S L (λ n i t. holds (is_variable_above (universes S) i.universe) (erase (alone t)) ≡ false)
  -- nor one that has a value
  pub is_resolved : OfValues S L (λ n i t. IsResolved S (alone t))
  -- nor anything that isn't the state's
  pub known : OfValues S L (λ n i t. holds (is_strange S L) (alone t) ≡ false)
  -- and no variable is of a universe that the state doesn't have
  pub universes : (n : ℕ) (i : VariableInfo) → L n ≡ true → info S n ≡ Some i → i.universe ≤ S.newest_universe

abbrev pub variable_tree : Variable → Forest
variable_tree v = alone (leaf (H.Infer v))

-- An allowed substitution that extends the values of what counts, each variable in its own kind.
pub record IsSolution (S : State) (L : Live) (s : Substitution) : Type 0 where
  pub allowed : IsAllowed (universes S) s
  pub extends : (v : Variable) (i : VariableInfo) (t : Tree) → L v.number ≡ true → info S v.number ≡ Some i → i.kind ≡ Term v.sort → i.value ≡ Some t
      → erase (apply s (variable_tree v)) ≡ erase (apply s (alone t))

-- Both substitutions say the same of what counts, each variable in its own kind.
abbrev pub AgreesOn : State → Live → Substitution → Substitution → Type 0
AgreesOn S L s t =
    (v : Variable) (i : VariableInfo) → L v.number ≡ true → info S v.number ≡ Some i → i.kind ≡ Term v.sort
    → erase (apply t (variable_tree v)) ≡ erase (apply s (variable_tree v))

-- Of the variables that the state has, those that count in the first way count in the second.
abbrev pub Within : State → Live → Live → Type 0
Within S L M = (n : ℕ) → n < length S.variables → L n ≡ true → M n ≡ true

-- a value is a tree of its variable's sort; that of a region variable is a region
abbrev pub fits_kind : VariableKind → Head → Bool
fits_kind (Term s) h = fits_sort s h
fits_kind Region h = is_region h

-- If the variable has a value, it is of the variable's kind, and no bound variable escapes from it.
pub record FitsVariable (o : Option VariableInfo) : Type 0 where
  pub kind : (i : VariableInfo) (t : Tree) → o ≡ Some i → i.value ≡ Some t → fits_kind i.kind t.head ≡ true
  pub is_closed : (i : VariableInfo) (t : Tree) → o ≡ Some i → i.value ≡ Some t → escapes 0 (alone t) ≡ false

-- the values of what counts do
abbrev pub ValuesFit : State → Live → Type 0
ValuesFit S L = (n : ℕ) → L n ≡ true → FitsVariable (info S n)

-- The variable is there still, of its kind, and a root if it was one.
pub record Stays (i : VariableInfo) (o : Option VariableInfo) : Type 0 where
  pub now : VariableInfo
  pub there : o ≡ Some now
  pub kind : now.kind ≡ i.kind
  pub is_root : now.is_root ≡ i.is_root

-- A state that comes after another.
pub record IsLater (S T : State) (L : Live) : Type 0 where
  -- no variable goes away, and each keeps its kind and whether it is a root
  pub longer : length S.variables ≤ length T.variables
  pub infos : (n : ℕ) (i : VariableInfo) → info S n ≡ Some i → Stays i (info T n)
  -- new variables are no roots
  pub no_root : (n : ℕ) (j : VariableInfo) → info S n ≡ None → info T n ≡ Some j → j.is_root ≡ false
  -- a variable's universe may fall, since binding lowers it
  pub universes : (n : ℕ) → n < length S.variables → universe_in (info T n) ≤ universe_in (info S n)
  -- where a variable's value fitted before, or it had none, its value fits
  pub fits : (n : ℕ) → FitsVariable (info S n) → FitsVariable (info T n)
  -- of what counts, the values are those of the earlier state, or more
  pub values : (ts : Forest) → holds (is_strange S L) ts ≡ false → resolved T (resolved S ts) ≡ resolved T ts
  -- the newest universe doesn't fall
  pub newest : S.newest_universe ≤ T.newest_universe
  pub mode : T.mode ≡ S.mode

-- A state that comes after another and is sound, and whose values fit. What counted there counts, and maybe more.
pub record Follows (S T : State) (L : Live) : Type 0 where
  pub live : Live
  pub within : Within S L live
  pub sound : IsSound T live
  pub fits : ValuesFit T live
  pub later : IsLater S T L

-- A goal of what counts.
pub record GoalIsOf (S : State) (L : Live) (g : Goal) : Type 0 where
  pub env : AreTreesOf S L g.env
  pub clause : AreTreesOf S L (alone g.clause)

abbrev pub GoalsAreOf : State → Live → List Pending → Type 0
GoalsAreOf S L ps = All (λ (p : Pending). GoalIsOf S L p.goal) ps
