-- What the normalisers of the tests see.
use Rattle.std.specs.Prelude.{Bool, true, false, if◌then◌else◌}
use Rattle.ir_trees.specs.declared.ir.heads.Builtin.TheVariants as B
use Rattle.ir_trees.specs.declared.ir.heads.Head.{Head}
use Rattle.ir_trees.specs.declared.ir.heads.Head.TheVariants as H
use Rattle.ir_trees.specs.declared.ir.kinds.Mutability.TheVariants as M
use Rattle.ir_trees.specs.declared.ir.kinds.RegionKind.TheVariants as R
use Rattle.ir_trees.specs.declared.ir.kinds.TraitRef.{TraitRef}
use Rattle.ir_trees.specs.declared.ir.kinds.UintTy.{UintTy}
use Rattle.ir_trees.specs.declared.ir.kinds.UintTy.TheVariants as U
use Rattle.ir_trees.specs.Declarations.Context.{Context, world}
use Rattle.ir_trees.specs.Syntax.Trees.{none, tree, Tree}
use Rattle.ir_trees.specs.Syntax.Words.{args_forest}
use Rattle.ir_trees.specs.declared.ir.stop.Stop.TheVariants.{Memory, NodesFull}
use Rattle.candidate_eval.specs.Knowability.Calls.{depth_limit}
use Rattle.candidate_eval.specs.Knowability.Normalizer.{Untold}
use Rattle.candidate_eval.specs.declared.coherence.InCrate.{InCrate}
use Rattle.candidate_eval.specs.Knowability.Orphan.{Seen, Answer, view, stateless, orphan_answer}

abbrev pub is_byte_width : UintTy → Bool
is_byte_width U.U8 = true
is_byte_width _ = false

abbrev pub is_byte : Head → Bool
is_byte (H.Builtin (B.Uint w)) = is_byte_width w
is_byte _ = false

-- the `&'static` type of the type
abbrev pub reference_to : Tree → Tree
reference_to t = record { head = H.Ref M.Not; children = tree (H.Region R.Static) none (tree t.head t.children none) }

-- `&'static u8` for `u8`, and any other type for itself
abbrev pub referenced : Tree → Tree
referenced t = if is_byte t.head then reference_to t else t

-- The check of a reference of the context by what is seen at each tree, where nothing has a value.
abbrev pub check_by : {E : Type 0} → (Tree → Seen E) → Context → InCrate → TraitRef → Answer E
check_by look c m r =
    (orphan_answer (world c) c.local.0 m (view (λ s t. t) (stateless look)) (depth_limit c) (let s : Unit {0} = tt in s) (args_forest c.trees r.args)).answer

-- the stops of a call that makes a node
abbrev pub refused_node : Untold
refused_node Memory = true
refused_node NodesFull = true
refused_node _ = false
