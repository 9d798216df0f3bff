-- Derivations: finite trees of rules of goals of traits under values, without an evaluator, a preference and a table.
use Rattle.std.specs.Prelude.{◌≡◌, ℕ, true, false, not, Bool, Option, Some, List, [], ◌∷◌, ◌++◌, map}
use Rattle.std.specs.List.{All, Contains}
use Rattle.ir_trees.specs.declared.decl.contents.AliasBoundKind.{AliasBoundKind}
use Rattle.ir_trees.specs.declared.decl.contents.AliasBoundKind.TheVariants.{NonSelfBounds, SelfBounds}
use Rattle.ir_trees.specs.declared.decl.contents.ImplId.{ImplId}
use Rattle.ir_trees.specs.declared.decl.contents.LangItem.TheVariants as L
use Rattle.ir_trees.specs.declared.ir.heads.ClauseHead.TheVariants as Cl
use Rattle.ir_trees.specs.declared.ir.heads.Head.{Head}
use Rattle.ir_trees.specs.declared.ir.heads.Head.TheVariants as H
use Rattle.ir_trees.specs.declared.ir.heads.PartHead.TheVariants as P
use Rattle.ir_trees.specs.declared.ir.kinds.AssocId.{AssocId}
use Rattle.ir_trees.specs.declared.ir.kinds.GoalSource.{GoalSource}
use Rattle.ir_trees.specs.Declarations.Context.{Context, Grows}
use Rattle.ir_trees.specs.Instantiation.Folding.{substituted, substituted_tree}
use Rattle.ir_trees.specs.Unification.Impls.{relevant_impls}
use Rattle.ir_trees.specs.Instantiation.Opening.{opened_clause}
use Rattle.ir_trees.specs.Unification.Substitutions.{Universes, alone, fits_sort}
use Rattle.ir_trees.specs.Hierarchy.Supers.{after_first}
use Rattle.ir_trees.specs.Syntax.Trees.{Kind, TypeKind, ConstantKind, RegionKind, Forest, none, Tree, holds, is_param, join}
use Rattle.ir_trees.specs.Declarations.Worlds.{kinds_of}
use Rattle.candidate_eval.specs.declared.eval.certainty.Certainty.TheVariants.{Yes}
use Rattle.candidate_eval.specs.declared.eval.mode.TypingMode.{TypingMode}
use Rattle.candidate_eval.specs.Builtins.Callable.{all_but_last}
use Rattle.candidate_eval.specs.Derivations.Characterization.{bound_kinds}
use Rattle.candidate_eval.specs.Derivations.ImplRules.{TraitGoal}
use Rattle.candidate_eval.specs.Dynamic.ObjectRequirements.{arguments_of, first_tree}
use Rattle.candidate_eval.specs.Dynamic.ObjectRules.{named_clauses, picks_of, projections_in}
use Rattle.candidate_eval.specs.Knowability.Orphan.{is_general}
use Rattle.candidate_eval.specs.Dynamic.Replacing.{own_projection}
use Rattle.candidate_eval.specs.Dynamic.Required.{AreRequirements, each_of, own_bounds}
use Rattle.candidate_eval.specs.Derivations.Rules.{Match, Pick, Step, fresh, enter, equate, quick, add, settle, pick, nested, Ending, ask, characterise, Rule}
use Rattle.candidate_eval.specs.Judges.Instances.{Instance, instance}
use Rattle.candidate_eval.specs.Judges.States.{Env, Values, placeholders, valued, valued_tree}
use Rattle.candidate_assembly.specs.Rules.AliasBounds.{bound_rules, has_bounds, is_projection}
use Rattle.candidate_assembly.specs.Answers.Assembled.{impl_rule, rule_name, trait_of, where_rule}
use Rattle.candidate_assembly.specs.Rules.DynBounds.{ArePrincipalSupers}
use Rattle.candidate_assembly.specs.Goals.KindBounds.{KindBounds}
use Rattle.candidate_assembly.specs.Goals.Kinds.{BuiltinRule, KindRules, passes, self_type}
use Rattle.candidate_assembly.specs.Rules.ObjectBounds.{OwnClause, has_own_clauses, own_clauses, reference_by, trait_by}
use Rattle.candidate_assembly.specs.Rules.Opaques.{non_default_impls}
use Rattle.candidate_assembly.specs.Goals.TraitGoals.{is_item}
use Rattle.candidate_assembly.specs.Goals.TraitRules.{trait_bounds, trait_rules}
use Rattle.candidate_assembly.specs.Rules.Unsizing.{AreUnsizingSupers}
use Rattle.projection_goals.specs.Normalizing.{NormalizesGoal, normalizes_bounds, normalizes_rules}
use Rattle.rounds_judge.specs.Aliases.Congruence.{AreListed, Same, SameBy}
use Rattle.rounds_judge.specs.Obligations.Granted.{IsFreshFor, facts_in}
use Rattle.rounds_judge.specs.Table.Keys.{goal_trees}
use Rattle.rounds_judge.specs.Aliases.Listed.{Listing}
use Rattle.rounds_judge.specs.Obligations.Settling.{alias_of, first_fact, term_of}
use Rattle.derivations.specs.Clean.{IsClean}
use Rattle.derivations.specs.Ordinary.{IsOfVariables, IsUnordinary}

-- Values are of variables of types and constants, since regions count for nothing. A variable's value is a tree of its sort.

abbrev pub suits : Option Tree → Head → Bool
suits (Some t) (H.Infer v) = fits_sort v.sort t.head
suits _ _ = true

abbrev pub Suits : Instance → Forest → Type 0
Suits v ts = holds (λ h. not (suits (instance v h) h)) ts ≡ false

-- what stands for a parameter of a kind is of that kind
abbrev pub shown : Kind → Kind
shown ConstantKind = ConstantKind
shown RegionKind = RegionKind
shown _ = TypeKind

-- A goal's environment and its trees, and the values under which its rules are read: what a rule derives is the goal with these put in. What
-- stands for a rule's own variables may mention further variables, with values, too.
pub record Reading : Type 0 where
  pub env : Env
  pub trees : Forest
  pub values : Instance

abbrev pub read : Reading → Forest → Forest
read n ts = valued (instance n.values) ts

-- trees of a rule whose variables so far stand for these
abbrev pub read_in : Reading → Forest → Forest → Forest
read_in n locals ts = read n (substituted locals 0 ts)

-- all that is mentioned so far
abbrev pub mentioned : Reading → Forest → Forest
mentioned n locals = join n.env (join n.trees locals)

-- Which trees are one under an environment, where variables are of these universes.
abbrev pub Pairs : Type 1
Pairs = Universes → Env → Tree → Tree → Type 0

-- Two trees are equal modulo pairs.
abbrev pub AreOne : (Tree → Tree → Type 0) → Tree → Tree → Type 0
AreOne E t u = SameBy E (alone t) (alone u)

-- The rules of a goal, modulo the pairs of its environment.

module _ {G : Type 0} (K : KindRules G) (B : KindBounds G) (c : Context) (E : Tree → Tree → Type 0) (v : Instance) (g : G) where
  -- An alias of the chain that the self type begins, and which of its bounds count: the self type; and what the own self type of a projection
  -- on the chain is equal to.
  pub data IsLinked : AliasBoundKind → Tree → Type 0 where
    first : IsLinked SelfBounds (self_type K c g)
    further : {b : AliasBoundKind} {t : Tree} (u : Tree) → IsLinked b t → is_projection t.head ≡ true → AreOne E (valued_tree (instance v) (first_tree t.children)) (valued_tree (instance v) u)
        → IsLinked NonSelfBounds u

  -- By a clause of the environment; by a bound of an alias; the language's; by unsizing, to what the target is equal to; and by an impl.
  pub data IsRuleUnder : Rule → Type 0 where
    by_clause : (t : Tree) → Contains (each_of (K.env_of g)) t → IsRuleUnder (where_rule K c g t)
    by_bound : {r : Rule} (b : AliasBoundKind) (t : Tree) → IsLinked b t → has_bounds t.head ≡ true → Contains (bound_rules K c g b t) r → IsRuleUnder r
    by_addition : {r : Rule} (b : AliasBoundKind) (t : Tree) → IsLinked b t → has_bounds t.head ≡ true → Contains (B.additional c g t) r → IsRuleUnder r
    by_language : (n : BuiltinRule) → rule_name K c g ≡ Some n → IsRuleUnder (K.builtin_rule n c g)
    by_unsizing : {r : Rule} (t u : Tree) (supers : List Tree) → is_item c L.Unsize (trait_of K c g) ≡ true → B.unsizing_target g ≡ Some t
        → AreOne E (valued_tree (instance v) t) (valued_tree (instance v) u) → AreUnsizingSupers c (self_type K c g) u supers → Contains (B.unsizing_rules c supers g u) r → IsRuleUnder r
    by_impl : (m : TypingMode) (n : ImplId) → Contains (non_default_impls c (relevant_impls c (trait_of K c g) (self_type K c g))) n → IsRuleUnder (impl_rule K c m g n)

  -- A clause that an object states of itself, and that passes quick rejection.
  pub record IsOwnClause (own : OwnClause) : Type 0 where
    pub supers : List Tree
    pub has_own : has_own_clauses c (trait_of K c g) (self_type K c g) ≡ true
    pub are_supers : ArePrincipalSupers c (self_type K c g) supers
    pub is_own : Contains (own_clauses (self_type K c g) supers) own
    pub passes : passes K c g own.clause ≡ true

  -- It, an instance of it, and what an object of the instance's trait has to fulfil.
  pub record IsOwn (own : OwnClause) (more : Forest) (required : List Tree) : Type 0 where
    pub clause : IsOwnClause own
    pub kinds : kinds_of (valued (instance v) more) ≡ map shown (bound_kinds own.clause.children)
    pub are : AreRequirements c (trait_by c own.clause.head) (arguments_of (opened_clause more (reference_by c own.clause))) required
    -- so that it may be read as a rule's
    pub no_parameter : All (λ (t : Tree). holds is_param (alone t) ≡ false) required

-- Each projection of the object's own in what is required is the term of one of the object's bounds; and all that is required holds.
abbrev pub own_steps : Tree → Forest → List Tree → List Step
own_steps object bounds required =
    let bs = own_bounds object bounds in
    picks_of 0 bs (projections_in (own_projection object bs) required) ++ nested (named_clauses (own_projection object bs) 0 required)

-- A rule that asks for less than Yes derives nothing. What characterising a clause finds counts for nothing.
abbrev pub CanBeSure : Ending → Type 0
CanBeSure (ask s c) = c ≡ Yes
CanBeSure (characterise c) = Unit {0}

-- the head of a clause that says what the goal does
abbrev pub said_by : TraitGoal → Head
said_by g = H.Part (P.Clause (Cl.Trait (record { 0 = g.reference.trait }) g.polarity))

abbrev pub reading_of : TraitGoal → Instance → Reading
reading_of g v = record { env = g.env; trees = g.reference.arguments; values = v }

-- The same of a goal that a projection is a type: its trees are the projection's arguments and the type.

abbrev pub said_of : NormalizesGoal → Head
said_of g = H.Part (P.Clause (Cl.Projection (record { 0 = g.item })))

abbrev pub projection_trees : NormalizesGoal → Forest
projection_trees g = join g.arguments g.term

abbrev pub projection_reading : NormalizesGoal → Instance → Reading
projection_reading g v = record { env = g.env; trees = projection_trees g; values = v }

-- The rules of a goal with its own environment and trees may be read under the values: no parameter stands in it, no error of regions stands in its
-- trees, its self type is no general variable, and the values suit it. With the values put in it is of this environment, modulo the listed pairs, and of these trees, modulo those
-- that are one there.
pub record IsReadAs (l : Listing) (E : Tree → Tree → Type 0) (own : Env) (trees : Forest) (v : Instance) (e : Env) (ts : Forest) : Type 0 where
  pub no_parameter : holds is_param (join own trees) ≡ false
  pub clean : IsClean trees
  pub is_known : is_general (first_tree trees).head ≡ false
  pub suits : Suits v (join own trees)
  pub env : Same l (valued (instance v) own) e
  pub arguments : SameBy E (valued (instance v) trees) ts

-- A match of a bound, as steps.
abbrev pub steps_of : Match → List Step
steps_of m = enter m.entered ∷ fresh m.instantiated ∷ equate m.left m.right ∷ []

mutual
  -- What a clause with the head says of the trees holds in an environment, by what is declared and modulo pairs of trees that are one there.
  -- `w` says of which universe a variable is that is left open. What a context has that grew from the declarations is what is declared.
  -- Outlives clauses are assumed, and so is an object's own clause of which what an object has to fulfil isn't ordinary; nothing else is.
  pub data DerivationModulo (d : Context) (l : Listing) (E : Pairs) (w : Universes) : Env → Head → Forest → Type 0 where
    -- outlives clauses are assumed
    type_outlives : (e : Env) (ts : Forest) → DerivationModulo d l E w e (H.Part (P.Clause Cl.TypeOutlives)) ts
    region_outlives : (e : Env) (ts : Forest) → DerivationModulo d l E w e (H.Part (P.Clause Cl.RegionOutlives)) ts
    -- a projection is an equation
    equation : (e : Env) (i : AssocId) (ts : Forest) → AreOne (E w e) (alias_of i ts) (term_of ts) → DerivationModulo d l E w e (H.Part (P.Clause (Cl.Projection i))) ts
    -- so is that two types are one, or two constants
    types_are_one : (e : Env) (ts : Forest) → AreOne (E w e) (first_fact ts) (term_of ts) → DerivationModulo d l E w e (H.Part (P.Clause Cl.AliasRelate)) ts
    constants_are_one : (e : Env) (ts : Forest) → AreOne (E w e) (first_fact ts) (term_of ts) → DerivationModulo d l E w e (H.Part (P.Clause Cl.ConstEquate)) ts
    -- a rule of a goal of a trait, under values
    by_rule : {e : Env} {ts : Forest} (c : Context) (g : TraitGoal) (v : Instance) (r : Rule) (end : Forest) → Grows d c → IsReadAs l (E w e) g.env g.reference.arguments v e ts
        → IsRuleUnder trait_rules trait_bounds c (E w (valued (instance v) g.env)) v g r → r.applies ≡ true → CanBeSure r.ending → PremisesModulo d l E w (reading_of g v) none r.steps end → DerivationModulo d l E w e (said_by g) ts
    -- an object's own clause is matched, and what an object of an instance of it has to fulfil is derived
    by_object : {e : Env} {ts : Forest} (c : Context) (g : TraitGoal) (v : Instance) (own : OwnClause) (more : Forest) (required : List Tree) (first last : Forest) → Grows d c → IsReadAs l (E w e) g.env g.reference.arguments v e ts
        → IsOwn trait_rules trait_bounds c (E w (valued (instance v) g.env)) v g own more required → PremisesModulo d l E w (reading_of g v) none (trait_rules.match_steps g own.clause) first
        → PremisesModulo d l E w (reading_of g v) none (own_steps (first_tree (arguments_of (opened_clause more (reference_by c own.clause)))) (all_but_last (first_tree g.reference.arguments).children) required) last
        → DerivationModulo d l E w e (said_by g) ts
    -- a projection is a type by a rule of goals that it is one
    by_projection_rule : {e : Env} {ts : Forest} (c : Context) (g : NormalizesGoal) (v : Instance) (r : Rule) (end : Forest) → Grows d c → IsReadAs l (E w e) g.env (projection_trees g) v e ts
        → IsRuleUnder normalizes_rules normalizes_bounds c (E w (valued (instance v) g.env)) v g r → r.applies ≡ true → CanBeSure r.ending → PremisesModulo d l E w (projection_reading g v) none r.steps end
        → DerivationModulo d l E w e (said_of g) ts
    -- or by a clause that an object states of itself
    by_own_projection : {e : Env} {ts : Forest} (c : Context) (g : NormalizesGoal) (v : Instance) (own : OwnClause) (end : Forest) → Grows d c → IsReadAs l (E w e) g.env (projection_trees g) v e ts
        → IsOwnClause normalizes_rules normalizes_bounds c (E w (valued (instance v) g.env)) v g own → PremisesModulo d l E w (projection_reading g v) none (normalizes_rules.match_steps g own.clause) end
        → DerivationModulo d l E w e (said_of g) ts
    -- an object's own clause of which that isn't ordinary is assumed
    object_assumed : {e : Env} {ts : Forest} (c : Context) (g : TraitGoal) (v : Values) → Grows d c → IsOfVariables v → IsUnordinary c g → Same l (valued v g.env) e → SameBy (E w e) (valued v g.reference.arguments) ts
        → DerivationModulo d l E w e (said_by g) ts

  -- What the steps of a rule ask, where its variables stand for these trees, before the steps and after them.
  pub data PremisesModulo (d : Context) (l : Listing) (E : Pairs) (w : Universes) : Reading → Forest → List Step → Forest → Type 0 where
    done : {n : Reading} {ls : Forest} → PremisesModulo d l E w n ls [] ls
    -- trees of these kinds stand for the next variables
    with_variables : {n : Reading} {ls last : Forest} {ss : List Step} (ks : List Kind) (more : Forest) → kinds_of (read n more) ≡ map shown ks
        → PremisesModulo d l E w n (join ls more) ss last → PremisesModulo d l E w n ls (fresh ks ∷ ss) last
    -- placeholders of a fresh universe do
    with_placeholders : {n : Reading} {ls last : Forest} {ss : List Step} (ks : List Kind) (u : ℕ) → IsFreshFor w ks u (read n (mentioned n ls))
        → PremisesModulo d l E w n (join ls (placeholders u 0 ks)) ss last → PremisesModulo d l E w n ls (enter ks ∷ ss) last
    with_equation : {n : Reading} {ls last : Forest} {ss : List Step} (a b : Forest) → SameBy (E w (read n n.env)) (read_in n ls a) (read_in n ls b)
        → PremisesModulo d l E w n ls ss last → PremisesModulo d l E w n ls (equate a b ∷ ss) last
    -- quick rejection, and evaluating what is pending, ask nothing
    with_quick : {n : Reading} {ls last : Forest} {ss : List Step} (a b : Forest) → PremisesModulo d l E w n ls ss last → PremisesModulo d l E w n ls (quick a b ∷ ss) last
    with_settle : {n : Reading} {ls last : Forest} {ss : List Step} → PremisesModulo d l E w n ls ss last → PremisesModulo d l E w n ls (settle ∷ ss) last
    -- a nested goal is derived, with placeholders of a fresh universe for what its binder binds
    with_goal : {n : Reading} {ls last : Forest} {ss : List Step} (s : GoalSource) (x : Tree) (u : ℕ)
        → IsFreshFor w (bound_kinds (substituted_tree ls x).children) u (read n (join n.env (after_first (substituted_tree ls x).children)))
        → DerivationModulo d l E w (read n n.env) (substituted_tree ls x).head (read n (facts_in u (substituted_tree ls x)))
        → PremisesModulo d l E w n ls ss last → PremisesModulo d l E w n ls (add s x ∷ ss) last
    -- one of the bounds is matched, and its term is the next variable
    with_match : {n : Reading} {ls last : Forest} {ss : List Step} (k : Pick) (ms : List Match) (m : Match) (there : Forest) → Contains ms m
        → PremisesModulo d l E w n ls (steps_of m) there → PremisesModulo d l E w n (join ls (alone (substituted_tree there m.term))) ss last
        → PremisesModulo d l E w n ls (pick k ms ∷ ss) last

-- Modulo the listed pairs, whatever the environment is.

abbrev pub ListedPairs : Listing → Pairs
ListedPairs l w e = AreListed l

abbrev pub Derivation : Context → Listing → Universes → Env → Head → Forest → Type 0
Derivation d l = DerivationModulo d l (ListedPairs l)

abbrev pub Premises : Context → Listing → Universes → Reading → Forest → List Step → Forest → Type 0
Premises d l = PremisesModulo d l (ListedPairs l)

-- What is derived stays so with values put in for variables that were left open. `u` says of which universe each of those is, and `w` of which
-- those are that the values leave open.
abbrev pub StaysDerived : Context → Listing → Universes → Universes → Instance → Type 0
StaysDerived d l u w o = (e : Env) (h : Head) (ts : Forest) → Derivation d l u e h ts → Derivation d l w (valued (instance o) e) h (valued (instance o) ts)
