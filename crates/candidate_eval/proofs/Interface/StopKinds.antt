-- Stops of what makes nodes.
use Rattle.std.proofs.Common.{◌≡◌, ◌<◌, ◌≤◌, ℕ, zero, suc, List, Result, Ok, Err, IsErrAnd, length, inl, inr, arith, sym, subst}
use Rattle.std.specs.Prelude.{IfErr}
use Rattle.ir_trees.specs.declared.ir.stop.Stop.{Stop}
use Rattle.ir_trees.specs.declared.ir.stop.Stop.TheVariants.{Memory, NodesFull}
use Rattle.ir_trees.specs.Hierarchy.Elaboration.{IsElaborationStop, IsInstanceStop, IsRenumberStop, SuperClauses}
use Rattle.ir_trees.specs.declared.ir.heads.Head.{Head}
use Rattle.ir_trees.specs.Syntax.Nodes.{tree_at}
use Rattle.ir_trees.specs.Instantiation.Folding.{IsSubstStop}
use Rattle.ir_trees.specs.Syntax.Trees.{Forest, none, tree, Tree, count, skip}
use Rattle.candidate_eval.specs.Interface.Evaluators.{IsEvaluatorStop, IsMakingStop}
use Rattle.candidate_eval.specs.Interface.Noting.{IsNotingStop}

-- of trees with something put in, of instances, of elaborations

pub subst_making : (given : ℕ) (made : Forest) (s : Stop) → IsSubstStop given made s → IsMakingStop s
subst_making given made _ IsSubstStop.no_memory = tt
subst_making given made _ (IsSubstStop.few_numbers l) = tt
subst_making given made _ (IsSubstStop.high_tree l) = tt
subst_making given made _ (IsSubstStop.far_variable e) = tt

-- where there was one, an evaluator's own
pub subst_stop : {A : Type 0} (given : ℕ) (made : Forest) (r : Result A Stop) → IfErr r (λ s. IsSubstStop given made s) → IfErr r IsEvaluatorStop
subst_stop given made (Ok v) h = tt
subst_stop given made (Err _) IsSubstStop.no_memory = tt
subst_stop given made (Err _) (IsSubstStop.few_numbers l) = tt
subst_stop given made (Err _) (IsSubstStop.high_tree l) = tt
subst_stop given made (Err _) (IsSubstStop.far_variable e) = tt

renumber_making : (given : ℕ) (made : Forest) (s : Stop) → IsRenumberStop given made s → IsMakingStop s
renumber_making given made s (IsRenumberStop.unput c) = subst_making given made s c
renumber_making given made _ (IsRenumberStop.high_variable e) = tt

instance_making : (given : ℕ) (made : Tree) (s : Stop) → IsInstanceStop given made s → IsMakingStop s
instance_making given made s (inl c) = renumber_making given _ s c
instance_making given made s (inr c) = subst IsMakingStop (sym c.0) tt

pub elaboration_making : (supers : SuperClauses) (start : List Tree) (given : ℕ) (s : Stop) → IsElaborationStop supers start given s → IsMakingStop s
elaboration_making supers start given _ IsElaborationStop.no_memory = tt
elaboration_making supers start given s (IsElaborationStop.unmade {u = u} i c) = instance_making given u s c

-- of lists of what stands below nodes
pub noting_making : (ts : List Tree) (s : Stop) → IsNotingStop ts s → IsMakingStop s
noting_making ts _ IsNotingStop.refused_note = tt
noting_making ts _ (IsNotingStop.at_wide_node w) = tt

-- a list that didn't grow
pub growth_noted : {A : Type 0} (ts : List Tree) (r : Result A Stop) → IsErrAnd r (λ e. e ≡ Memory) → IfErr r (IsNotingStop ts)
growth_noted ts (Ok v) k = tt
growth_noted ts (Err e) k = subst (IsNotingStop ts) (sym k) IsNotingStop.refused_note

-- Places below a node: one more is there than the place of a child; and where all that can be counted are children, the node is wide.

pub child-beyond : (n : ℕ) (ts : Forest) (h : Head) (a r : Forest) → skip n ts ≡ tree h a r → suc n ≤ count ts
child-beyond zero none h a r e = absurd cc
child-beyond zero (tree g b q) h a r e = omega arith
child-beyond (suc n) none h a r e = absurd cc
child-beyond (suc n) (tree g b q) h a r e = let l = child-beyond n q h a r e in omega (arith, l)

pub wide-node : (ts : List Tree) (n place : ℕ) → n < length ts → place ≤ count (tree_at ts n).children → 18446744073709551615 ≤ place → IsNotingStop ts NodesFull
wide-node ts n place l f m = IsNotingStop.at_wide_node (record { number = n; inside = l; wide = omega (arith, f, m) })
