-- Variables that get values.
use Rattle.std.specs.Prelude.{ℕ, suc, Bool, not, ◌&&◌, ◌==◌, min, Some, None, List, [], ◌∷◌, if◌then◌else◌}
use Rattle.std.specs.Option.{option_map}
use Rattle.ir_trees.specs.declared.ir.heads.Head.TheVariants as H
use Rattle.ir_trees.specs.declared.ir.heads.Variable.{Variable}
use Rattle.ir_trees.specs.Syntax.Trees.{Tree, erase, holds, is_number}
use Rattle.ir_trees.specs.Syntax.Binders.{escapes}
use Rattle.ir_trees.specs.Unification.Substitutions.{alone, fits_sort, is_placeholder_above, same_variable}
use Rattle.candidate_eval.specs.declared.eval.variable.VariableKind.TheVariants.{Term}
use Rattle.candidate_eval.specs.Judges.States.{State, VariableInfo, Values, valued_tree, has_kind}
use Rattle.candidate_eval.specs.Judges.Alike.{info}
use Rattle.candidate_eval.specs.Judges.Soundness.{universe_in}

abbrev pub occurs : ℕ → Tree → Bool
occurs n t = holds (is_number n) (alone t)

-- The variable is the state's, and it may get the tree as its value: the tree is of its sort, doesn't hold it, is closed, and, with its
-- regions erased, names no placeholder of a universe above the variable's.
abbrev pub may_take : State → Variable → Tree → Bool
may_take S v t =
    has_kind (Term v.sort) (info S v.number)
    && (fits_sort v.sort t.head
    && (not (occurs v.number t)
    && (not (escapes 0 (alone t)) && not (holds (is_placeholder_above (universe_in (info S v.number))) (erase (alone t))))))

-- the one variable's value, where the variable stands in its own sort
abbrev pub single : Variable → Tree → Values
single v t (H.Infer w) = if same_variable v w then Some t else None
single v t _ = None

-- What a variable of number m is, once that variable, of universe u, has the value: it has the value itself, or the value is
-- put in its own; and what stands in the value is of no universe above u.
abbrev pub info_after : Variable → ℕ → Tree → ℕ → VariableInfo → VariableInfo
info_after v u t m i =
    record i {
      universe = if occurs m t then min i.universe u else i.universe;
      value = if m == v.number then Some t else option_map (valued_tree (single v t)) i.value;
    }

-- each member, told its number
abbrev pub numbered : {A B : Type 0} → (ℕ → A → B) → ℕ → List A → List B
numbered f n [] = []
numbered f n (x ∷ xs) = f n x ∷ numbered f (suc n) xs

-- The state in which the variable has the value, which holds no variable with a value.
abbrev pub bound : State → Variable → Tree → State
bound S v t = record S { variables = numbered (info_after v (universe_in (info S v.number)) t) 0 S.variables }
