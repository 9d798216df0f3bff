-- Goals of traits as a table of goals knows them: by a key, in which nothing is of one state alone.
use Rattle.std.specs.Prelude.{ℕ, Bool, true, ◌&&◌, ◌==◌, max, None, List, [], ◌∷◌, map}
use Rattle.std.specs.Cmp.Lexicographic.{pointwise}
use Rattle.ir_trees.specs.contracts.ir.kinds.PredicatePolarityPartialEq.TheImpl as polarity
use Rattle.ir_trees.specs.declared.ir.heads.Head.{Head}
use Rattle.ir_trees.specs.declared.ir.heads.Head.TheVariants as H
use Rattle.ir_trees.specs.declared.ir.heads.ConstHead.TheVariants as C
use Rattle.ir_trees.specs.declared.ir.kinds.PredicatePolarity.{PredicatePolarity}
use Rattle.ir_trees.specs.declared.ir.kinds.RegionKind.TheVariants as R
use Rattle.ir_trees.specs.declared.ir.kinds.TraitId.{TraitId}
use Rattle.ir_trees.specs.Hierarchy.Elaboration.{same_forest}
use Rattle.ir_trees.specs.Syntax.Trees.{Forest, none, tree, join}
use Rattle.candidate_eval.specs.contracts.eval.variable.CanonicalVarPartialEq.TheImpl as variable
use Rattle.candidate_eval.specs.declared.eval.mode.TypingMode.{TypingMode}
use Rattle.candidate_eval.specs.declared.eval.variable.CanonicalVar.{CanonicalVar}
use Rattle.candidate_eval.specs.Judges.Alike.{info}
use Rattle.candidate_eval.specs.Derivations.ImplRules.{TraitGoal}
use Rattle.candidate_eval.specs.Judges.Soundness.{Live}
use Rattle.candidate_eval.specs.Judges.States.{Env, State, VariableInfo, resolved}
use Rattle.rounds_judge.specs.Obligations.Responding.{with_numbers, renumbered, open_variable}

-- A goal whose variables are numbered from 0 in the order in which they first occur, and what each of them is.
pub record Key : Type 0 where
  pub goal : TraitGoal
  pub variables : List CanonicalVar

-- the goal that a trait holds, or doesn't, of these trees
abbrev pub trait_goal_of : Env → TraitId → PredicatePolarity → Forest → TraitGoal
trait_goal_of e i p ts = record { env = e; reference = record { trait = i.0; arguments = ts }; polarity = p }

-- All trees of a goal, the environment first; and the goal with others in their place.

abbrev pub goal_trees : TraitGoal → Forest
goal_trees g = join g.env g.reference.arguments

abbrev pub over_trees : (Forest → Forest) → TraitGoal → TraitGoal
over_trees f g = record { env = f g.env; reference = record { trait = g.reference.trait; arguments = f g.reference.arguments }; polarity = g.polarity }

-- The key of a goal at a state: all values are put in, and the variables that are left are numbered anew.

abbrev pub numbers_at : State → TraitGoal → List ℕ
numbers_at S g = with_numbers [] (resolved S (goal_trees g))

abbrev pub key_at : State → TraitGoal → Key
key_at S g = record {
  goal = over_trees (λ ts. renumbered (numbers_at S g) (resolved S ts)) g;
  variables = map (λ n. open_variable (info S n)) (numbers_at S g);
}

-- Keys are the same where all their parts are.

abbrev pub same_goal : TraitGoal → TraitGoal → Bool
same_goal g h =
    g.reference.trait == h.reference.trait
    && (polarity.eq-value.it g.polarity h.polarity && (same_forest g.env h.env && same_forest g.reference.arguments h.reference.arguments))

abbrev pub same_key : Key → Key → Bool
same_key k m = same_goal k.goal m.goal && pointwise variable.eq-value.it k.variables m.variables

-- The greatest universe of a key: that of a variable, or of a placeholder; the root, where it has none.

abbrev pub universe_named : Head → ℕ
universe_named (H.Placeholder p) = p.universe
universe_named (H.Const (C.Placeholder p)) = p.universe
universe_named (H.Region (R.Placeholder p)) = p.universe
universe_named _ = 0

abbrev pub greatest_named : Forest → ℕ
greatest_named none = 0
greatest_named (tree h below rest) = max (universe_named h) (max (greatest_named below) (greatest_named rest))

abbrev pub greatest_of : List CanonicalVar → ℕ
greatest_of [] = 0
greatest_of (v ∷ vs) = max v.universe (greatest_of vs)

abbrev pub newest_of : Key → ℕ
newest_of k = max (greatest_named (goal_trees k.goal)) (greatest_of k.variables)

-- A state of which nothing is known but that it has these variables, all of them roots.

abbrev pub root_of : CanonicalVar → VariableInfo
root_of v = record { kind = v.kind; universe = v.universe; value = None; is_root = true }

abbrev pub fresh_state : TypingMode → ℕ → List CanonicalVar → State
fresh_state m u vs = record { newest_universe = u; variables = map root_of vs; regions = []; pending = []; mode = m }

-- The state at which the goal of a key is computed.
abbrev pub start_of : TypingMode → Key → State
start_of m k = fresh_state m (newest_of k) k.variables

-- all variables count
abbrev pub every : Live
every n = true
