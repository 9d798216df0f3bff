-- What calls say that consider an object's own bounds.
use Rattle.std.specs.Prelude.{◌≡◌, ℕ, suc, Bool, false, true, not, Result, IfErr, List, [], ◌∷◌, map}
use Rattle.std.specs.List.{All, filter}
use Rattle.ir_trees.specs.declared.ir.kinds.Binder.{Binder}
use Rattle.ir_trees.specs.declared.ir.kinds.Clause.{Clause}
use Rattle.ir_trees.specs.declared.ir.kinds.TraitRef.{TraitRef}
use Rattle.ir_trees.specs.Declarations.Context.{Context}
use Rattle.ir_trees.specs.Syntax.Trees.{Forest, Tree, holds, is_param}
use Rattle.ir_trees.specs.Syntax.Words.{IsArgs, IsClause, IsVars, args_forest, clause_kind_tree, clause_tree}
use Rattle.candidate_eval.specs.declared.eval.certainty.Certainty.TheVariants.{Yes}
use Rattle.candidate_eval.specs.declared.eval.refusal.NoSolutionOrStop.{NoSolutionOrStop}
use Rattle.candidate_eval.specs.declared.eval.response.Candidate.{Candidate}
use Rattle.candidate_eval.specs.declared.eval.source.BuiltinImplSource.TheVariants.{Misc, Object}
use Rattle.candidate_eval.specs.declared.eval.source.CandidateSource.{CandidateSource}
use Rattle.candidate_eval.specs.declared.eval.source.CandidateSource.TheVariants.{BuiltinImpl}
use Rattle.candidate_eval.specs.Interface.Accounts.{Account, by_stop}
use Rattle.candidate_eval.specs.Outcomes.Certainties.{AMBIGUOUS}
use Rattle.candidate_eval.specs.Interface.Evaluators.{Keeps}
use Rattle.candidate_eval.specs.Derivations.Judging.{Judged, asked}
use Rattle.candidate_eval.specs.Dynamic.ObjectRequirements.{reference_clause}
use Rattle.candidate_eval.specs.Judges.States.{Env, Goal, Judge, State}
use Rattle.candidate_assembly.specs.Rules.DynBounds.{ArePrincipalSupers, bound_said, is_principal}
use Rattle.candidate_assembly.specs.Goals.Kinds.{KindRules, compared_arguments}
use Rattle.candidate_assembly.specs.Answers.Listing.{Listed, after_these}
use Rattle.candidate_assembly.specs.Rules.ObjectBounds.{AreAskedIf, AreUnknownIf, ObjectList, ObjectsAnswer, OwnClause, nested_goals, own_clause, own_clauses, reference_by, speaks_of_trait, trait_by}
use Rattle.candidate_assembly.specs.Answers.Telling.{StopsOfItself}
use Rattle.candidate_assembly.specs.Answers.ObjectAnswers.{ToldOf}

-- Where the clause was matched: what is required of the object becomes pending, if the kind asks for that, and the response is asked for;
-- where too little is known of what is required, it is ambiguous.
pub data IsAskedOfObject (asks : Bool) (J : Judge) (e : Env) (c : Context) (S : State) (n : ℕ) (reference : Tree) (bounds : Forest) (source : CandidateSource) : Judged → Type 0 where
  known : (T : State) (goals : List Goal) → AreAskedIf asks J e c S n reference bounds goals T → IsAskedOfObject asks J e c S n reference bounds source (asked J (nested_goals T goals) source Yes)
  vague : (T : State) → AreUnknownIf asks J e c S n reference bounds T → IsAskedOfObject asks J e c S n reference bounds source (asked J T source AMBIGUOUS)

-- A call does so at the state. Of the state that it leaves nothing is said, as it is called in a probe.
pub record AsksOfObject {E X : Type 0} (fixed : E → X) (judge : X → Judge) (state : E → State) (probes : E → List State) (context : E → Context) (stops : Account E)
    (old new : E) (asks : Bool) (e : Env) (of : Binder TraitRef) (bounds : Forest) (source : CandidateSource) (answer : Result Candidate NoSolutionOrStop) : Type 0 where
  pub kept : Keeps fixed probes context old new
  pub told : ToldOf (context new).trees (IsAskedOfObject asks (judge (fixed old)) e (context old) (state old) of.value.def_id.0 (clause_kind_tree (context old).trees (reference_clause of)) bounds source) answer
  pub cause : IfErr answer (by_stop (StopsOfItself fixed context state stops old new))

-- The reference by a clause, as numbers of the context.
pub record IsReferenceBy (c : Context) (t : Tree) (r : Binder TraitRef) : Type 0 where
  pub vars : IsVars c.trees r.vars
  pub args : IsArgs c.trees r.value.args
  pub trait : r.value.def_id.0 ≡ trait_by c t.head
  pub arguments : args_forest c.trees r.value.args ≡ compared_arguments t
  pub tree : clause_kind_tree c.trees (reference_clause r) ≡ reference_by c t

-- Clauses of a context, each with its source.

abbrev pub own_clause_of : List Tree → CandidateSource × Clause → OwnClause
own_clause_of ts x = own_clause x.0 (clause_tree ts x.1)

-- a clause that an object's own bounds may give: it speaks of a trait, and no parameter stands in it
pub record IsOwnClause (ts : List Tree) (x : CandidateSource × Clause) : Type 0 where
  pub clause : IsClause ts x.1
  pub speaks : speaks_of_trait (clause_tree ts x.1).head ≡ true
  pub free : holds is_param (clause_tree ts x.1).children ≡ false

-- what bounds say of a type, but for the principal
abbrev pub bound_clauses : Tree → List Tree → List OwnClause
bound_clauses type bs = map (λ b. own_clause (BuiltinImpl Misc) (bound_said type b)) (filter (λ b. not (is_principal b.head)) bs)

-- clauses with the numbers from that one on, as those of an object's traits
abbrev pub numbered_from : ℕ → List Clause → List (CandidateSource × Clause)
numbered_from n [] = []
numbered_from n (x ∷ xs) = (BuiltinImpl (Object n), x) ∷ numbered_from (suc n) xs

-- All that the bounds of a type give.
pub record AreOwnClauses (c now : Context) (type : Tree) (xs : List (CandidateSource × Clause)) : Type 0 where
  pub supers : List Tree
  pub are_supers : ArePrincipalSupers c type supers
  pub are : map (own_clause_of now.trees) xs ≡ own_clauses type supers
  pub each : All (IsOwnClause now.trees) xs

-- A list that the candidates by clauses follow; and one that those by all own bounds of an object do.

pub record ObjectsFollow {G : Type 0} (K : KindRules G) (J : Judge) (c : Context) (S : State) (g : G) (before : List Candidate) (os : List OwnClause) (l : Listed) : Type 0 where
  pub by_clauses : Listed
  pub answers : ObjectsAnswer K J c S g os by_clauses
  pub is : l ≡ after_these c.trees before by_clauses

pub record ObjectFollows {G : Type 0} (K : KindRules G) (J : Judge) (c : Context) (S : State) (g : G) (before : List Candidate) (l : Listed) : Type 0 where
  pub by_bounds : Listed
  pub list : ObjectList K J c S g by_bounds
  pub is : l ≡ after_these c.trees before by_bounds
