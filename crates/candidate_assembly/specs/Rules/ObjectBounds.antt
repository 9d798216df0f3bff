-- Candidates by an object's own bounds: what the bounds of a `dyn` type say of it, and the rule that each gives.
use Rattle.std.specs.Prelude.{◌≡◌, ℕ, suc, Bool, true, false, not, ◌&&◌, ◌||◌, ◌+◌, Some, List, [], ◌∷◌, ◌++◌, length, map, if◌then◌else◌}
use Rattle.std.specs.List.{filter}
use Rattle.ir_trees.specs.declared.decl.contents.LangItem.TheVariants as L
use Rattle.ir_trees.specs.declared.ir.heads.ClauseHead.TheVariants as Cl
use Rattle.ir_trees.specs.declared.ir.heads.Head.{Head}
use Rattle.ir_trees.specs.declared.ir.heads.Head.TheVariants as H
use Rattle.ir_trees.specs.declared.ir.heads.PartHead.TheVariants as P
use Rattle.ir_trees.specs.declared.ir.kinds.GoalSource.TheVariants.{ImplWhereBound}
use Rattle.ir_trees.specs.declared.ir.kinds.PredicatePolarity.TheVariants as Pol
use Rattle.ir_trees.specs.declared.ir.stop.Stop.{Stop}
use Rattle.ir_trees.specs.Declarations.Context.{Context, world}
use Rattle.ir_trees.specs.Hierarchy.Elaboration.{first_children}
use Rattle.ir_trees.specs.Declarations.Lookups.{assoc_trait, definition}
use Rattle.ir_trees.specs.Hierarchy.Supers.{after_first}
use Rattle.ir_trees.specs.Syntax.Trees.{TypeKind, Forest, tree, Tree}
use Rattle.ir_trees.specs.Declarations.Worlds.{TraitSort, joined, kinds_of, parameters}
use Rattle.candidate_eval.specs.declared.eval.certainty.Certainty.TheVariants.{Yes}
use Rattle.candidate_eval.specs.declared.eval.source.BuiltinImplSource.TheVariants.{Misc, Object}
use Rattle.candidate_eval.specs.declared.eval.source.CandidateSource.{CandidateSource}
use Rattle.candidate_eval.specs.declared.eval.source.CandidateSource.TheVariants.{BuiltinImpl}
use Rattle.candidate_eval.specs.Outcomes.Certainties.{AMBIGUOUS}
use Rattle.candidate_eval.specs.Builtins.Callable.{all_but_last}
use Rattle.candidate_eval.specs.Derivations.Characterization.{bound_kinds}
use Rattle.candidate_eval.specs.Derivations.Judging.{Place, Judged, Refused, Stopped, Reached, At, Over, asked, run, start}
use Rattle.candidate_eval.specs.Dynamic.ObjectRequirements.{AreAsked, AreUnknown}
use Rattle.candidate_eval.specs.Dynamic.ObjectRules.{named_clauses, picks_of, projections_in}
use Rattle.candidate_eval.specs.Dynamic.Replacing.{Finds, own_projection}
use Rattle.candidate_eval.specs.Dynamic.Required.{own_bounds}
use Rattle.candidate_eval.specs.Derivations.Rules.{Step, fresh, nested, Rule, ask}
use Rattle.candidate_eval.specs.Judges.States.{Env, State, Goal, Judge, with_pending}
use Rattle.candidate_assembly.specs.Rules.DynBounds.{ArePrincipalSupers, bound_said, bounds_in, is_compatible, is_dynamic, is_principal, principal_in}
use Rattle.candidate_assembly.specs.Goals.Kinds.{KindRules, arguments_by, compared_arguments, match_rule, passes, self_type}
use Rattle.candidate_assembly.specs.Answers.Listing.{Listed, Lists, Stops, listed, together}
use Rattle.candidate_assembly.specs.Goals.Projections.{trait_number}
use Rattle.candidate_assembly.specs.Goals.TraitGoals.{is_item}

-- A clause of a `dyn` type, and the source of the candidate that it gives.
pub record OwnClause : Type 0 where
  pub source : CandidateSource
  pub clause : Tree

abbrev pub own_clause : CandidateSource → Tree → OwnClause
own_clause s t = record { source = s; clause = t }

abbrev pub numbered : ℕ → List Tree → List OwnClause
numbered n [] = []
numbered n (t ∷ ts) = own_clause (BuiltinImpl (Object n)) t ∷ numbered (suc n) ts

-- What its projection bounds and auto traits say, in their order; then the supertraits of its principal, each by its number.
abbrev pub own_clauses : Tree → List Tree → List OwnClause
own_clauses t supers = map (λ b. own_clause (BuiltinImpl Misc) (bound_said t b)) (filter (λ b. not (is_principal b.head)) (bounds_in t)) ++ numbered 0 supers

-- Sizedness isn't had by a bound; and objects of a trait of which none may be made meet nothing.

abbrev pub is_sizedness : Context → ℕ → Bool
is_sizedness c n = is_item c L.Sized n || is_item c L.MetaSized n

abbrev pub has_own_clauses : Context → ℕ → Tree → Bool
has_own_clauses c of t = not (is_sizedness c of) && (is_dynamic t.head && is_compatible c (principal_in t))

-- the trait that a clause speaks of, be it the one whose associated type it names
abbrev pub trait_by : Context → Head → ℕ
trait_by c (H.Part (P.Clause (Cl.Trait i p))) = i.0
trait_by c (H.Part (P.Clause (Cl.Projection i))) = trait_number (assoc_trait (definition c i.0))
trait_by c _ = 0

-- that a trait holds, or doesn't, or what an associated type of one is
abbrev pub speaks_of_trait : Head → Bool
speaks_of_trait (H.Part (P.Clause (Cl.Trait i p))) = true
speaks_of_trait (H.Part (P.Clause (Cl.Projection i))) = true
speaks_of_trait _ = false

-- The clause's arguments are those that this trait takes.
abbrev pub HasArguments : Context → Tree → Type 0
HasArguments c t = joined (Some (TypeKind ∷ [])) (parameters (world c) TraitSort (trait_by c t.head)) ≡ Some (kinds_of (compared_arguments t))

-- The rule of a clause as data: it is matched, and then instantiated once more; what is required of the instance's object is asked of it,
-- where each projection of the object's own is the term that one of its bounds picks. Where that is too little known, so is the answer. A kind
-- of goals may ask for nothing after the match.

abbrev pub finds_of : Tree → Forest → Finds
finds_of object bounds = own_projection object (own_bounds object bounds)

-- what is required of an object with these bounds, where so many of the rule's variables are there
abbrev pub required_steps : Tree → Forest → ℕ → List Tree → List Step
required_steps object bounds n required =
    let finds = finds_of object bounds in
    picks_of n (own_bounds object bounds) (projections_in finds required) ++ nested (named_clauses finds n required)

-- how many variables an instance of the clause has
abbrev pub width : Tree → ℕ
width t = length (bound_kinds t.children)

-- the bounds that a goal's self type has as an object
abbrev pub object_bounds : {G : Type 0} → KindRules G → Context → G → Forest
object_bounds K c g = all_but_last (self_type K c g).children

abbrev pub object_rule : {G : Type 0} → KindRules G → Context → G → OwnClause → Tree → List Tree → Rule
object_rule K c g o object required =
    let further = fresh (bound_kinds o.clause.children) ∷ required_steps object (object_bounds K c g) (width o.clause + width o.clause) required in
    match_rule K c g o.clause (if K.asks_of_objects then further else []) (ask o.source Yes)

-- That the clause's trait holds, with the clause's arguments under its binder. What an object of that trait has to fulfil is asked of this
-- one.
abbrev pub reference_by : Context → Tree → Tree
reference_by c t = record {
  head = H.Part (P.Clause (Cl.Trait (record { 0 = trait_by c t.head }) Pol.Positive));
  children = tree (H.Part P.Vars) (first_children t.children) (arguments_by t.head (after_first t.children));
}

abbrev pub nested_goals : State → List Goal → State
nested_goals S gs = with_pending S (S.pending ++ map (λ (x : Goal). record { source = ImplWhereBound; goal = x }) gs)

-- What a kind of goals asks of an object: all that an object of the trait has to fulfil, or nothing.
module _ (asks : Bool) (J : Judge) (e : Env) (c : Context) (S : State) (n : ℕ) (reference : Tree) (bounds : Forest) where
  pub data AreAskedIf : List Goal → State → Type 0 where
    all_asked : {goals : List Goal} {T : State} → asks ≡ true → AreAsked J e c S n reference bounds goals T → AreAskedIf goals T
    none_asked : asks ≡ false → AreAskedIf [] S

  abbrev pub AreUnknownIf : State → Type 0
  AreUnknownIf T = (asks ≡ true) × AreUnknown J e c S n reference bounds T

-- What is answered to a clause, tried in a probe at a state alike this one: nothing where it isn't matched; else what is required of an
-- instance becomes pending, if the kind asks for that. The projections of the object's own are its bounds' terms; where that is too little
-- known, so is the answer.
module _ {G : Type 0} (K : KindRules G) (J : Judge) (c : Context) (S : State) (g : G) where
  abbrev pub match_at : State → OwnClause → Reached
  match_at T o = run J (K.env_of g) (start T) (K.match_steps g o.clause)

  pub data ObjectJudged (o : OwnClause) : Judged → Type 0 where
    rejected : passes K c g o.clause ≡ false → ObjectJudged o Refused
    unmatched : {j : Judged} (T : State) → J.alike S T → passes K c g o.clause ≡ true → match_at T o ≡ Over j → ObjectJudged o j
    required : (T U : State) (p : Place) (goals : List Goal) → J.alike S T → passes K c g o.clause ≡ true → match_at T o ≡ At p
        → AreAskedIf K.asks_of_objects J (K.env_of g) c p.state (trait_by c o.clause.head) (reference_by c o.clause) (object_bounds K c g) goals U
        → ObjectJudged o (asked J (nested_goals U goals) o.source Yes)
    unknown : (T U : State) (p : Place) → J.alike S T → passes K c g o.clause ≡ true → match_at T o ≡ At p
        → AreUnknownIf K.asks_of_objects J (K.env_of g) c p.state (trait_by c o.clause.head) (reference_by c o.clause) (object_bounds K c g) U
        → ObjectJudged o (asked J U o.source AMBIGUOUS)

  -- of clauses, one after the other
  pub data ObjectsAnswer : List OwnClause → Listed → Type 0 where
    none_left : ObjectsAnswer [] (Lists [])
    one : {o : OwnClause} {j : Judged} {os : List OwnClause} {l : Listed} → ObjectJudged o j → ObjectsAnswer os l → ObjectsAnswer (o ∷ os) (together (listed j) l)
    stopped : {o : OwnClause} {s : Stop} {os : List OwnClause} → ObjectJudged o (Stopped s) → ObjectsAnswer (o ∷ os) (Stops s)

  -- All that the object's own bounds give, if they give anything for the goal's trait.
  pub data ObjectList : Listed → Type 0 where
    nothing : has_own_clauses c (K.reference_of c g).trait (self_type K c g) ≡ false → ObjectList (Lists [])
    answer : {l : Listed} (supers : List Tree) → has_own_clauses c (K.reference_of c g).trait (self_type K c g) ≡ true
        → ArePrincipalSupers c (self_type K c g) supers → ObjectsAnswer (own_clauses (self_type K c g) supers) l → ObjectList l
