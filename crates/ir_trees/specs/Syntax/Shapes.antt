-- Nodes with one head over the same numbers.
use Rattle.std.specs.Prelude.{◌≡◌, ℕ, Bool, true, List, ◌++◌, nat_eq}
use Rattle.std.specs.Ordering.{on, eq_of_both}
use Rattle.std.specs.Cmp.{IsPartialEquivalence, IsEquivalence, unsigned_Decides, nat_eq_equiv, and_equiv, on_equiv, partial_equiv_from_equiv}
use Rattle.std.specs.Cmp.Lexicographic.{pointwise, lists_equiv}
use Rattle.std.specs.Hash.{HashWrites, slice, u32, and-Alike, on_Alike, items_Alike, same_Alike}
use Rattle.ir_trees.specs.declared.ir.node.Node.{Node}
use Rattle.ir_trees.specs.declared.ir.heads.Head.{Head}
use Rattle.ir_trees.specs.Syntax.Kinds.{numbers}
use Rattle.ir_trees.specs.Syntax.Nodes.{head_of, children_of}
use Rattle.ir_trees.specs.contracts.ir.heads.HeadPartialEq.TheImpl.{eq-value}
use Rattle.ir_trees.specs.contracts.ir.heads.HeadEq.TheImpl.Laws.{laws-law}
use Rattle.ir_trees.specs.contracts.ir.heads.HeadHash.TheImpl.{hash_input-value}
use Rattle.ir_trees.specs.contracts.ir.heads.HeadHash.TheImpl.Laws.{respects_eq-law}

abbrev pub child_numbers : Node → List ℕ
child_numbers d = numbers (children_of d)

abbrev pub same_head : Head → Head → Bool
same_head = eq-value.it

abbrev pub same_shape : Node → Node → Bool
same_shape = eq_of_both (on head_of same_head) (on child_numbers (pointwise nat_eq))

pub same_shape_equiv : IsEquivalence same_shape
same_shape_equiv = and_equiv (on_equiv head_of laws-law) (on_equiv child_numbers (lists_equiv nat_eq_equiv))

pub same_shape_per : IsPartialEquivalence same_shape
same_shape_per = partial_equiv_from_equiv same_shape_equiv

abbrev pub head_input : Head → HashWrites
head_input = hash_input-value.it

abbrev pub shape_input : Node → HashWrites
shape_input d = head_input (head_of d) ++ slice u32 (child_numbers d)

-- equal nodes are fed alike
pub shape_alike : (a b : Node) → same_shape a b ≡ true → shape_input a ≡ shape_input b
shape_alike = (and-Alike (on_Alike head_of (record { fed = respects_eq-law })) (on_Alike child_numbers (items_Alike (same_Alike u32 unsigned_Decides)))).fed
