-- What can be called with what: no parameter stands in that where none stands in what is called.
use Rattle.std.proofs.Common.{◌≡◌, false, refl}
use Rattle.ir_trees.specs.declared.ir.kinds.ClosureKind.{ClosureKind}
use Rattle.ir_trees.specs.Declarations.Context.{Context}
use Rattle.ir_trees.specs.Unification.Substitutions.{alone}
use Rattle.ir_trees.specs.Syntax.Trees.{none, Tree, holds, is_param, tree_holds}
use Rattle.candidate_eval.specs.Builtins.Callable.{Callable, CalledWith, calls, declared_signature}
use Rattle.candidate_eval.proofs.Marks.Holds.{holds_parts}
use Rattle.candidate_eval.proofs.Builtins.PartsFree.{put-parameterless}
use Rattle.candidate_assembly.specs.Laws.CallMarks.{call-unmarked}

-- no parameter stands in the inputs and in the output
pub record IsFree (s : Callable) : Type 0 where
  pub inputs : tree_holds is_param s.inputs ≡ false
  pub output : tree_holds is_param s.output ≡ false

of-alone : (t : Tree) → holds is_param (alone t) ≡ false → tree_holds is_param t ≡ false
of-alone t e = let p = holds_parts is_param t.head t.children none e in rw (p.here, p.under) refl

pub call-free : (c : Context) (asked : ClosureKind) (t : Tree) (s : Callable) → tree_holds is_param t ≡ false → calls c asked t ≡ CalledWith s → IsFree s
call-free c asked t s e h =
    let free = call-unmarked is_param refl refl c (λ args i g a q. put-parameterless args (declared_signature c.trees g) a) asked t s e h in
    record { inputs = of-alone s.inputs free.inputs; output = of-alone s.output free.output }
