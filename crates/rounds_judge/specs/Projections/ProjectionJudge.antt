-- The judge of an evaluator that works in rounds, by the tables of goals of traits and of projections that the last round left.
use Rattle.std.specs.Prelude.{◌≡◌, ℕ, List}
use Rattle.ir_trees.specs.declared.decl.limits.Limits.{Limits}
use Rattle.ir_trees.specs.Declarations.Worlds.{World}
use Rattle.ir_trees.specs.Syntax.Trees.{Tree}
use Rattle.candidate_eval.specs.Judges.States.{Judge}
use Rattle.rounds_judge.specs.Aliases.Listed.{Listing}
use Rattle.rounds_judge.specs.Equations.Opening.{equation}
use Rattle.rounds_judge.specs.Projections.ProjectionGoals.{ProjectionTables}
use Rattle.rounds_judge.specs.Projections.ProjectionGranted.{IsGrantedBy}
use Rattle.rounds_judge.specs.Projections.ProjectionNormalizing.{normalized_by}
use Rattle.rounds_judge.specs.Projections.ProjectionSettling.{responded_by_tables, settled_by_tables}
use Rattle.rounds_judge.specs.Table.GoalTable.{GoalTable}
use Rattle.rounds_judge.specs.Table.TableJudge.{hidden_behind}

-- As the judge by a table of goals of traits, but that an alias which is open is what the tables say that it is.
abbrev pub projection_judge : {W : Type 0} → World → ℕ → Limits → Listing → List Tree → ProjectionTables W → GoalTable W → Judge
projection_judge w local limits l os Q T = record {
  world = w;
  local_crate = local;
  limits = limits;
  alike = λ S U. U ≡ S;
  alike_in = λ n S ls U us. (U ≡ S) × (us ≡ ls);
  granted = IsGrantedBy Q T l;
  equated = equation l;
  normalized = normalized_by Q l;
  settled = settled_by_tables Q T l;
  responded = responded_by_tables Q T l;
  opaques = hidden_behind os;
}
