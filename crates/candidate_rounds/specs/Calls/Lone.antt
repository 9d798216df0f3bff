-- Variables and types without children that are neither bound nor placeholders.
use Rattle.std.specs.Prelude.{◌≡◌, ◌==◌, ℕ, Bool, true, false, Option, Some, None}
use Rattle.ir_trees.specs.declared.ir.heads.Builtin.TheVariants as B
use Rattle.ir_trees.specs.declared.ir.heads.Head.{Head}
use Rattle.ir_trees.specs.declared.ir.heads.Head.TheVariants as H
use Rattle.ir_trees.specs.declared.ir.heads.Variable.{Variable}
use Rattle.ir_trees.specs.declared.ir.kinds.GenericArg.{GenericArg}
use Rattle.ir_trees.specs.Syntax.Trees.{none, Tree}
use Rattle.candidate_eval.specs.declared.eval.variable.VariableKind.TheVariants.{Term}
use Rattle.candidate_rounds.specs.declared.rounds.resolving.Lone.{Lone}
use Rattle.candidate_rounds.specs.declared.rounds.resolving.Lone.TheVariants as L
use Rattle.candidate_rounds.specs.Evaluators.Inferences.{Inference, kept_value}

abbrev pub is_plain : Head → Bool
is_plain (H.Builtin B.Bool) = true
is_plain (H.Builtin B.Char) = true
is_plain (H.Builtin (B.Int w)) = true
is_plain (H.Builtin (B.Uint w)) = true
is_plain (H.Builtin (B.Float w)) = true
is_plain (H.Builtin B.Str) = true
is_plain (H.Builtin B.Never) = true
is_plain _ = false

abbrev pub is_lone : Head → Bool
is_lone (H.Infer v) = true
is_lone h = is_plain h

-- it is of the head
abbrev pub IsOfHead : Head → Lone → Type 0
IsOfHead h (L.Variable v) = h ≡ H.Infer v
IsOfHead h L.Plain = is_plain h ≡ true

abbrev pub IsLone : Tree → Lone → Type 0
IsLone t l = IsOfHead t.head l × (t.children ≡ none)

abbrev pub is_variable : Lone → Bool
is_variable (L.Variable v) = true
is_variable L.Plain = false

-- the number of the variable that it is
abbrev pub lone_number : Lone → Option ℕ
lone_number (L.Variable v) = Some v.number
lone_number L.Plain = None

-- whether it is the variable of that number
abbrev pub has_number : ℕ → Lone → Bool
has_number n (L.Variable v) = v.number == n
has_number n L.Plain = false

-- the value of the variable that it is
abbrev pub lone_value : Inference → Lone → Option GenericArg
lone_value s (L.Variable v) = kept_value s (Term v.sort) v.number
lone_value s L.Plain = None

-- the variable of types or constants that is at the root
abbrev pub infer_at : Head → Option Variable
infer_at (H.Infer v) = Some v
infer_at _ = None
