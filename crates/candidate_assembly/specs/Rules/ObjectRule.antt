-- What a clause of a `dyn` type comes to is what the judge says to one rule.
use Rattle.std.specs.Prelude.{◌≡◌, true, List, length}
use Rattle.ir_trees.specs.Declarations.Context.{Context}
use Rattle.ir_trees.specs.Syntax.Trees.{Forest, Tree, count}
use Rattle.candidate_eval.specs.Derivations.Characterization.{bound_kinds}
use Rattle.candidate_eval.specs.Derivations.Judging.{At, Judged, Place, judged, made_fresh}
use Rattle.candidate_eval.specs.Dynamic.ObjectRequirements.{first_tree, fresh_arguments}
use Rattle.candidate_eval.specs.Dynamic.ObjectRules.{IsRuleAt}
use Rattle.candidate_eval.specs.Dynamic.Required.{AreRequirements, own_bounds}
use Rattle.candidate_eval.specs.Judges.States.{Env, Judge, State}
use Rattle.candidate_assembly.specs.Goals.Kinds.{KindRules, passes}
use Rattle.candidate_assembly.specs.Rules.ObjectBounds.{OwnClause, match_at, object_bounds, object_rule, reference_by, trait_by, width}

-- What is asked at a state for a clause: the object is the first of the arguments that an instance of the clause has there, and it has to
-- fulfil all that an object of the clause's trait has to, with these arguments.
pub record IsRequired (c : Context) (T : State) (clause object : Tree) (required : List Tree) : Type 0 where
  pub object_is : object ≡ first_tree (fresh_arguments T (reference_by c clause))
  pub are : AreRequirements c (trait_by c clause.head) (fresh_arguments T (reference_by c clause)) required

-- the place with the variables of that instance
abbrev pub instance_place : Place → Tree → Place
instance_place p clause = made_fresh p (bound_kinds clause.children)

-- It makes up a rule after a match: the match made the clause's variables and no others; and neither what is required nor what the object's
-- bounds say holds a parameter, which a rule would read as one of its variables, or a variable that isn't there.
pub record MakesUpRule (e : Env) (p : Place) (clause object : Tree) (bounds : Forest) (required : List Tree) : Type 0 where
  pub matched : count p.locals ≡ width clause
  pub trees : (let q = instance_place p clause in IsRuleAt q.state q.locals (length q.state.variables) e (own_bounds object bounds) required)

module _ {G : Type 0} (K : KindRules G) (J : Judge) (c : Context) (S : State) (g : G) where
  -- The clause is matched at a state, and then something is required.
  pub record IsAskedAfter (T : State) (o : OwnClause) (p : Place) : Type 0 where
    pub asks : K.asks_of_objects ≡ true
    pub passed : passes K c g o.clause ≡ true
    pub matched : match_at K J c S g T o ≡ At p

  -- What is answered to a clause is what the judge says to the clause's rule at a state alike this one, for the object and what is required of
  -- it where the clause is matched, wherever that makes up a rule.
  pub record IsJudgedByRule (o : OwnClause) (j : Judged) : Type 0 where
    pub at : State
    pub alike : J.alike S at
    pub object : Tree
    pub required : List Tree
    pub are_required : (p : Place) → IsAskedAfter at o p → IsRequired c p.state o.clause object required
    pub is : ((p : Place) → IsAskedAfter at o p → MakesUpRule (K.env_of g) p o.clause object (object_bounds K c g) required)
        → j ≡ judged J at (object_rule K c g o object required)
