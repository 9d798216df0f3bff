-- What is known where the goal of a key is computed.
use Rattle.std.specs.Prelude.{ℕ, Bool, true, not, ◌&&◌, None, List, [], map}
use Rattle.ir_trees.specs.declared.ir.heads.Head.{Head}
use Rattle.ir_trees.specs.Syntax.Binders.{escapes}
use Rattle.ir_trees.specs.Syntax.Trees.{Forest, holds, is_param}
use Rattle.candidate_eval.specs.declared.eval.variable.CanonicalVar.{CanonicalVar}
use Rattle.candidate_rounds.specs.declared.rounds.inference.Entry.{Entry}
use Rattle.candidate_rounds.specs.Evaluators.Inferences.{Inference}

-- The key's variables are there, all of them roots, and nothing else is known.

abbrev pub root_variable : CanonicalVar → Entry
root_variable v = record { kind = v.kind; universe = v.universe; value = None; is_root = true }

abbrev pub started : ℕ → List CanonicalVar → Inference
started u vs = record { newest_universe = u; variables = map root_variable vs; regions = []; goals = []; first_pending = 0; first_open = 4294967295; end_open = 0; trail = [] }

-- These are closed trees, without parameters and without the mark.
abbrev pub stand : (Head → Bool) → Forest → Bool
stand mark f = not (holds mark f) && (not (escapes 0 f) && not (holds is_param f))
