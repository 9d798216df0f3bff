-- The judge of an evaluator that works in rounds, by the table that the last round left.
use Rattle.std.specs.Prelude.{◌≡◌, ℕ, List, [], if◌then◌else◌}
use Rattle.ir_trees.specs.Syntax.Trees.{Tree}
use Rattle.ir_trees.specs.declared.decl.limits.Limits.{Limits}
use Rattle.ir_trees.specs.Declarations.Worlds.{World}
use Rattle.candidate_eval.specs.Knowability.Orphan.{is_general}
use Rattle.candidate_eval.specs.Judges.States.{State, Judge, resolved_tree}
use Rattle.rounds_judge.specs.Equations.Opening.{equation}
use Rattle.rounds_judge.specs.Table.GoalTable.{GoalTable}
use Rattle.rounds_judge.specs.Aliases.Listed.{Listing}
use Rattle.rounds_judge.specs.Aliases.Normalizing.{normalized}
use Rattle.rounds_judge.specs.Table.TableGranted.{IsGrantedWith}
use Rattle.rounds_judge.specs.Table.TableSettling.{settled_with, responded_with}

-- any of the opaque types may be hidden behind a general variable
abbrev pub hidden_behind : List Tree → State → Tree → List Tree
hidden_behind os S t = if is_general (resolved_tree S t).head then os else []

-- A world, a local crate, where walks end, the listed aliases, the opaque types, and a table of goals. Probes leave the state as it was,
-- so states are alike where they are equal.
abbrev pub table_judge : {W : Type 0} → World → ℕ → Limits → Listing → List Tree → GoalTable W → Judge
table_judge w local limits l os T = record {
  world = w;
  local_crate = local;
  limits = limits;
  alike = λ S U. U ≡ S;
  alike_in = λ n S ls U us. (U ≡ S) × (us ≡ ls);
  granted = IsGrantedWith T l;
  equated = equation l;
  normalized = normalized l;
  settled = settled_with T l;
  responded = responded_with T l;
  opaques = hidden_behind os;
}
