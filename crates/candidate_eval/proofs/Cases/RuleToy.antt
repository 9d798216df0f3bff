-- A small judge, to compute answers to rules on: equations put values to variables, without an occurs check; goals stay pending,
-- but for outlives goals.
use Rattle.std.proofs.Common.{◌≡◌, ℕ, zero, suc, Bool, true, false, cond, List, [], ◌∷◌, Option, Some, None, get_or, set}
use Rattle.std.specs.Prelude.{◌==◌}
use Rattle.ir_trees.specs.declared.ir.heads.Head.{Head}
use Rattle.ir_trees.specs.declared.ir.heads.Head.TheVariants as H
use Rattle.ir_trees.specs.declared.ir.heads.Builtin.TheVariants as B
use Rattle.ir_trees.specs.declared.ir.heads.PartHead.TheVariants as P
use Rattle.ir_trees.specs.declared.ir.heads.ClauseHead.TheVariants as Cl
use Rattle.ir_trees.specs.declared.ir.heads.VariableSort.TheVariants as V
use Rattle.ir_trees.specs.declared.ir.kinds.UintTy.TheVariants as U
use Rattle.ir_trees.specs.declared.ir.kinds.PredicatePolarity.TheVariants as Polarity
use Rattle.ir_trees.specs.Syntax.Trees.{Forest, none, tree, Tree, join}
use Rattle.ir_trees.specs.Unification.Substitutions.{alone}
use Rattle.ir_trees.specs.Instantiation.Folding.{leaf}
use Rattle.ir_trees.specs.Unification.Unify.{same_head}
use Rattle.ir_trees.specs.Declarations.Worlds.{World}
use Rattle.candidate_eval.specs.declared.eval.mode.TypingMode.{TypingMode}
use Rattle.candidate_eval.specs.declared.eval.variable.VariableKind.TheVariants.{Term}
use Rattle.candidate_eval.specs.Outcomes.Certainties.{Certainty, Yes, AMBIGUOUS, certainty_and}
use Rattle.candidate_eval.specs.Judges.States.{State, Judge, VariableInfo, Pending, resolved, resolved_tree, next}

-- Equations.

abbrev pub no_info : VariableInfo
no_info = record { kind = Term V.General; universe = 0; value = None; is_root = false }

abbrev pub valued : Tree → VariableInfo → VariableInfo
valued t i = record i { value = Some t }

abbrev pub bound_to : State → ℕ → Tree → State
bound_to S n t = record S { variables = set S.variables n (valued t (get_or S.variables n no_info)) }

abbrev pub bind_first : State → Tree → Tree → Head → Head → Option State → Option State
bind_first S x y (H.Infer v) (H.Infer w) other = cond (v.number == w.number) (Some S) (Some (bound_to S v.number y))
bind_first S x y (H.Infer v) g other = Some (bound_to S v.number y)
bind_first S x y h (H.Infer w) other = Some (bound_to S w.number x)
bind_first S x y h g other = other

abbrev pub unified : ℕ → State → Forest → Forest → Option State
unified zero S a b = None
unified (suc n) S none none = Some S
unified (suc n) S (tree h a r) (tree g b s) =
    let x = resolved_tree S (record { head = h; children = a }) in
    let y = resolved_tree S (record { head = g; children = b }) in
    next (bind_first S x y x.head y.head (cond (same_head x.head y.head) (unified n S x.children y.children) None)) (λ T. unified n T r s)
unified (suc n) S none (tree g b s) = None
unified (suc n) S (tree h a r) none = None

-- Responses: the values of the root variables as they stand.

abbrev pub stays_open : Head → Bool
stays_open (H.Part (P.Clause Cl.TypeOutlives)) = false
stays_open (H.Part (P.Clause Cl.RegionOutlives)) = false
stays_open _ = true

abbrev pub certainty_of : List Pending → Certainty → Certainty
certainty_of [] c = c
certainty_of (p ∷ ps) c = cond (stays_open p.goal.clause.head) (certainty_and c AMBIGUOUS) (certainty_of ps c)

abbrev pub var : ℕ → Tree
var n = leaf (H.Infer (record { sort = V.General; number = n }))

abbrev pub root_values : List VariableInfo → ℕ → Forest
root_values [] n = none
root_values (i ∷ is) n = join (cond i.is_root (alone (var n)) none) (root_values is (suc n))

-- it goes down two types where it characterises
abbrev pub judge : World → Judge
judge w = record {
  world = w;
  local_crate = 0;
  limits = record { orphan_walk = 256; alias_chain = 64; const_depth = 128; recursion = 2 };
  alike = λ S T. T ≡ S;
  alike_in = λ n S ls T us. (T ≡ S) × (us ≡ ls);
  granted = λ S g. Unit {0};
  equated = λ S e a b. next (unified 50 S a b) (λ T. Some ([], T));
  normalized = λ S e t. Some (resolved_tree S t, S);
  settled = λ S. Some (certainty_of S.pending Yes, S);
  responded = λ S c. Some (record { vars = []; values = resolved S (root_values S.variables 0); regions = S.regions; certainty = certainty_of S.pending c });
  opaques = λ S t. [];
}

abbrev pub root : VariableInfo
root = record { kind = Term V.General; universe = 0; value = None; is_root = true }

abbrev pub roots : ℕ → List VariableInfo
roots zero = []
roots (suc n) = root ∷ roots n

-- a state with so many root variables
abbrev pub start_with : TypingMode → ℕ → State
start_with m n = record { newest_universe = 0; variables = roots n; regions = []; pending = []; mode = m }

-- Trees.

abbrev pub u8 : Tree
u8 = leaf (H.Builtin (B.Uint U.U8))

abbrev pub u16 : Tree
u16 = leaf (H.Builtin (B.Uint U.U16))

abbrev pub slice : Tree → Tree
slice t = record { head = H.Builtin B.Slice; children = tree t.head t.children none }

abbrev pub param : ℕ → Tree
param n = leaf (H.Param n)

abbrev pub rigid : ℕ → Tree
rigid n = leaf (H.Placeholder (record { universe = 0; index = n }))

abbrev pub rigid_above : ℕ → Tree
rigid_above u = leaf (H.Placeholder (record { universe = u; index = 0 }))

abbrev pub bound : Tree
bound = leaf (H.Bound (record { depth = 0; index = 0 }))

-- the clause that the trait of that number holds of the type, under an empty binder
abbrev pub meets : ℕ → Tree → Tree
meets i t = record {
  head = H.Part (P.Clause (Cl.Trait (record { 0 = i }) Polarity.Positive));
  children = tree (H.Part P.Vars) none (tree t.head t.children none);
}
