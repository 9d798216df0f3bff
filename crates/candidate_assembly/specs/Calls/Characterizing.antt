-- What calls say that characterise a clause of the environment.
use Rattle.std.specs.Prelude.{◌≡◌, ℕ, ◌+◌, ◌-◌, ◌*◌, ◌≤◌, ◌<◌, max, true, false, Option, Some, None, Result, Ok, Err, IfErr, IfSome, List, length, if◌then◌else◌}
use Rattle.ir_trees.specs.declared.ir.heads.Head.{Head}
use Rattle.ir_trees.specs.Declarations.Context.{Context}
use Rattle.ir_trees.specs.declared.ir.kinds.Args.{Args}
use Rattle.ir_trees.specs.Instantiation.Opening.{opened, opened_tree}
use Rattle.ir_trees.specs.Syntax.Nodes.{tree_at}
use Rattle.ir_trees.specs.Syntax.Trees.{Forest, Tree, count, skip}
use Rattle.ir_trees.specs.Syntax.Words.{IsArgs, args_forest}
use Rattle.candidate_eval.specs.declared.eval.refusal.NoSolutionOrStop.{NoSolutionOrStop}
use Rattle.candidate_eval.specs.declared.eval.refusal.NoSolutionOrStop.TheVariants as N
use Rattle.candidate_assembly.specs.declared.assembly.characterize.Nesting.{Nesting}
use Rattle.candidate_assembly.specs.declared.assembly.characterize.Parts.{Parts}
use Rattle.candidate_assembly.specs.declared.assembly.characterize.Visited.{Visited}
use Rattle.candidate_assembly.specs.declared.assembly.characterize.Visited.TheVariants as V
use Rattle.candidate_assembly.specs.declared.assembly.characterize.Said.{Said}
use Rattle.candidate_assembly.specs.declared.assembly.characterize.Said.TheVariants as Says
use Rattle.candidate_eval.specs.Interface.Accounts.{Account, StopsSomehow, by_stop}
use Rattle.candidate_eval.specs.declared.eval.certainty.Certainty.{Certainty}
use Rattle.candidate_eval.specs.declared.eval.certainty.Certainty.TheVariants.{Yes}
use Rattle.candidate_eval.specs.Outcomes.Certainties.{AMBIGUOUS}
use Rattle.candidate_eval.specs.Derivations.Characterization.{Walk, Goes, Finds, Refuses, Stops, Group, group_at, group_of, each, each_group, each_group_of, visited, is_root_placeholder, is_placeholder, is_any_variable}
use Rattle.candidate_eval.specs.Interface.Evaluators.{Keeps}
use Rattle.candidate_eval.specs.Interface.Knowing.{is_evaluator_stop}
use Rattle.candidate_eval.specs.Judges.States.{Env, State, Judge}

-- what a head says by itself
abbrev pub said_by_head : Head → Said
said_by_head h =
    if is_root_placeholder h then Says.Found Yes
    else (if is_placeholder h then Says.Nothing
    else (if is_any_variable h then Says.Found AMBIGUOUS else Says.Parts))

-- a walk that found that, if anything
abbrev pub found : Option Certainty → State → Walk
found None S = Goes S
found (Some c) S = Finds S c

-- what is said, else the walk over the parts
abbrev pub unless_said : Said → State → Walk → Walk
unless_said (Says.Found c) S w = Finds S c
unless_said Says.Nothing S w = Goes S
unless_said Says.Parts S w = w

-- A visit of a part that stands in so many types, itself counted, and in so many constants: as many visits may still be nested in it as
-- the definition gives the first one, less one for each of these.
unfoldable pub visited_at : Judge → Env → ℕ → ℕ → State → Tree → Walk
visited_at J e types constants = visited J e (J.limits.recursion + J.limits.const_depth + 3 - (types + constants)) types constants

-- the same by how deep a part stands
abbrev pub visit_at : Judge → Env → Nesting → State → Tree → Walk
visit_at J e n = visited_at J e n.types n.constants

-- No more types and constants are nested than the limits allow, and one type more.
abbrev pub HasFewTypes : Judge → ℕ → Type 0
HasFewTypes J types = types ≤ J.limits.recursion + 1

abbrev pub HasFewConstants : Judge → ℕ → Type 0
HasFewConstants J constants = constants ≤ J.limits.const_depth

-- the trees of a group, one after the other
abbrev pub group_visited : (State → Tree → Walk) → State → Group → Walk
group_visited visit S g = each visit (group_at S g).0 (group_at S g).1

-- what a visit comes to that has ended
abbrev pub ended : Option Certainty → Visited
ended None = V.Nothing
ended (Some c) = V.Found c

-- a part as it stands; a part as it stands, or with values in the place of what is bound; and the first of such parts
abbrev pub part_visited : (State → Tree → Walk) → State → Tree → Walk
part_visited visit S t = group_visited visit S (group_of t.head t.children)

abbrev pub first_visited : (State → Tree → Walk) → List Tree → Option Args → State → Tree → Walk
first_visited visit ts None S t = part_visited visit S t
first_visited visit ts (Some values) S t = visit S (opened_tree (args_forest ts values) t)

abbrev pub first_of_parts : (Nesting → State → Tree → Walk) → List Tree → Parts → State → Tree → Walk
first_of_parts visit ts p = first_visited (visit p.nesting) ts p.values

-- parts of a node from a place on, one after the other
abbrev pub rest_visited : (State → Tree → Walk) → List Tree → Option Args → State → Forest → Walk
rest_visited visit ts None S parts = each_group visit S (each_group_of parts)
rest_visited visit ts (Some values) S parts = each visit S (opened (args_forest ts values) parts)

abbrev pub parts_visited : Judge → Env → List Tree → Parts → State → Walk
parts_visited J e ts p S = rest_visited (visited_at J e p.nesting.types p.nesting.constants) ts p.values S (skip p.place (tree_at ts p.number).children)

-- How much deeper parts may stand: what stands below others has less.
abbrev pub rank : Nesting → ℕ
rank n = 2 * (131073 - (n.types + n.constants))

abbrev pub by_values : Option Args → ℕ
by_values None = 1
by_values (Some values) = 0

abbrev pub rank_of : Parts → ℕ
rank_of p = rank p.nesting + by_values p.values

-- Parts that may be visited.
pub record AreParts (J : Judge) (ts : List Tree) (p : Parts) : Type 0 where
  pub number : p.number < length ts
  pub place : p.place ≤ max 1 (count (tree_at ts p.number).children)
  pub values : IfSome p.values (IsArgs ts)
  pub types : HasFewTypes J p.nesting.types
  pub constants : HasFewConstants J p.nesting.constants

-- The result is what the walk comes to, unless it is a stop that no walk has.
abbrev pub Tells : Walk → State → Result (Option Certainty) NoSolutionOrStop → Type 0
Tells w S (Ok f) = w ≡ found f S
Tells w S (Err N.NoSolution) = w ≡ Refuses
Tells w S (Err (N.Stop s)) = is_evaluator_stop s ≡ false → w ≡ Stops s

module _ {E F : Type 0} (fixed : E → F) (probes : E → List State) (context : E → Context) (state : E → State) (stops : Account E) where
  -- A call over an evaluator walks so: it keeps what calls keep, its result is the walk's, and its other stops are accounted for.
  pub record Walks (old new : E) (w : Walk) (r : Result (Option Certainty) NoSolutionOrStop) : Type 0 where
    pub kept : Keeps fixed probes context old new
    pub told : Tells w (state new) r
    pub cause : IfErr r (by_stop (λ s. is_evaluator_stop s ≡ true → StopsSomehow fixed context state stops old new s))

  -- It walks so, or leaves parts that say it, which stand deeper.
  pub record LeadsBelow (judge : F → Judge) (e : Env) (bound : ℕ) (old new : E) (w : Walk) (p : Parts) : Type 0 where
    pub kept : Keeps fixed probes context old new
    pub parts : AreParts (judge (fixed new)) (context new).trees p
    pub less : rank_of p < bound
    pub is : w ≡ parts_visited (judge (fixed new)) e (context new).trees p (state new)

  abbrev pub Leads : (F → Judge) → Env → ℕ → E → E → Walk → Result Visited NoSolutionOrStop → Type 0
  Leads judge e bound old new w (Ok (V.Found c)) = Walks old new w (Ok (Some c))
  Leads judge e bound old new w (Ok V.Nothing) = Walks old new w (Ok None)
  Leads judge e bound old new w (Ok (V.Below p)) = LeadsBelow judge e bound old new w p
  Leads judge e bound old new w (Err x) = Walks old new w (Err x)
