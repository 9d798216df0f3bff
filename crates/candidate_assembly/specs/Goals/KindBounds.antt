-- What a kind of goals says besides its rules.
use Rattle.std.specs.Prelude.{◌≡◌, Option, Some, None, List, []}
use Rattle.ir_trees.specs.Declarations.Context.{Context, world}
use Rattle.ir_trees.specs.Declarations.Worlds.{Fits}
use Rattle.ir_trees.specs.Syntax.Trees.{Forest, Tree}
use Rattle.candidate_eval.specs.Derivations.Rules.{Rule}
use Rattle.candidate_eval.specs.Judges.States.{Env, State, Judge}
use Rattle.candidate_assembly.specs.Goals.Kinds.{KindRules, self_type}
use Rattle.candidate_assembly.specs.Answers.Listing.{Listed, Lists, answers}
use Rattle.candidate_assembly.specs.Rules.BuiltinRules.{pair_of}
use Rattle.candidate_assembly.specs.Rules.Unsizing.{AreUnsizingSupers}

-- What a kind of goals adds at an alias.
abbrev pub Additional : Type 0 → Type 0
Additional G = Context → G → Tree → List Rule

-- The goal with another environment and other trees; what the kind adds at an alias; the type that a goal unsizes to, and the rules for
-- that one's normal form.
pub record KindBounds (G : Type 0) : Type 0 where
  pub with_trees : G → Env → Forest → G
  pub additional : Additional G
  pub unsizing_target : G → Option Tree
  pub unsizing_rules : Context → List Tree → G → Tree → List Rule

-- The candidates by unsizing. The target's normal form is asked for at a state alike this one, and the rules are judged at what that leaves;
-- with a refused normal form there are none. Both types take the children that they have.
module _ {G : Type 0} (K : KindRules G) (B : KindBounds G) (J : Judge) (c : Context) where
  pub data UnsizingList (S : State) (g : G) : Listed → Type 0 where
    no_target : B.unsizing_target g ≡ None → UnsizingList S g (Lists [])
    refused : {t : Tree} (T : State) → B.unsizing_target g ≡ Some t → J.alike S T → J.normalized T (K.env_of g) t ≡ None → UnsizingList S g (Lists [])
    rules : {t u : Tree} {U : State} (T : State) (supers : List Tree) → B.unsizing_target g ≡ Some t → J.alike S T
        → J.normalized T (K.env_of g) t ≡ Some (u, U) → AreUnsizingSupers c (self_type K c g) u supers
        → Fits (world c) (pair_of (self_type K c g) u) → UnsizingList S g (answers J U (B.unsizing_rules c supers g u))
