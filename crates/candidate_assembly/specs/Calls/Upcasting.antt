-- How a bound of a `dyn` type is met by one of another, step by step, and what the rule then comes to.
use Rattle.std.specs.Prelude.{◌≡◌, ◌≤◌, ℕ, All, Bool, true, false, not, ◌&&◌, Option, Some, None, Result, IfOk, IfErr, List, [], ◌∷◌, ◌++◌, length, map}
use Rattle.std.specs.List.{list_any}
use Rattle.ir_trees.specs.declared.ir.heads.ClauseHead.TheVariants as Cl
use Rattle.ir_trees.specs.declared.ir.heads.Head.{Head}
use Rattle.ir_trees.specs.declared.ir.heads.Head.TheVariants as H
use Rattle.ir_trees.specs.declared.ir.heads.PartHead.TheVariants as P
use Rattle.ir_trees.specs.declared.ir.heads.PredHead.TheVariants as PH
use Rattle.ir_trees.specs.declared.ir.kinds.Args.{Args}
use Rattle.ir_trees.specs.declared.ir.kinds.Binder.{Binder}
use Rattle.ir_trees.specs.declared.ir.kinds.Clause.{Clause}
use Rattle.ir_trees.specs.declared.ir.kinds.Pred.{Pred}
use Rattle.ir_trees.specs.declared.ir.kinds.TraitRef.{TraitRef}
use Rattle.ir_trees.specs.Declarations.Context.{Context}
use Rattle.ir_trees.specs.Hierarchy.Elaboration.{number_listed}
use Rattle.ir_trees.specs.Instantiation.Opening.{opened}
use Rattle.ir_trees.specs.Hierarchy.Supers.{after_first}
use Rattle.ir_trees.specs.Syntax.Trees.{Kind, Forest, none, Tree, count}
use Rattle.ir_trees.specs.Syntax.Words.{IsArgs, IsClause, IsPred, IsVars, args_forest, clause_tree, pred_tree, vars_tree}
use Rattle.candidate_eval.specs.declared.eval.refusal.NoSolutionOrStop.{NoSolutionOrStop}
use Rattle.candidate_eval.specs.declared.eval.refusal.NoSolutionOrStop.TheVariants as N
use Rattle.candidate_eval.specs.declared.eval.certainty.Certainty.TheVariants.{Yes}
use Rattle.candidate_eval.specs.declared.eval.source.CandidateSource.{CandidateSource}
use Rattle.candidate_eval.specs.Outcomes.Certainties.{AMBIGUOUS}
use Rattle.candidate_eval.specs.Derivations.Characterization.{binder_kinds}
use Rattle.candidate_eval.specs.Interface.Evaluators.{accepted, rigid, with_rigid}
use Rattle.candidate_eval.specs.Derivations.ImplRules.{TraitGoal}
use Rattle.candidate_eval.specs.Derivations.Judging.{Judged, Refused, asked, comes_to, source_of, start}
use Rattle.candidate_eval.specs.Derivations.Mentions.{IsBelow, StepsBelow, EndingBelow}
use Rattle.candidate_eval.specs.Derivations.Rules.{Step, Ending, Rule, ask, nested}
use Rattle.candidate_eval.specs.Dynamic.ObjectRules.{IsRuleTree}
use Rattle.candidate_eval.specs.Judges.States.{Env, State, Judge, fresh_variables, is_some, next, with_fresh_variables}
use Rattle.candidate_assembly.specs.declared.trait_goals.bounds_met.Meeting.{Meeting}
use Rattle.candidate_assembly.specs.declared.trait_goals.bounds_met.Meeting.TheVariants as M
use Rattle.candidate_assembly.specs.declared.trait_goals.upcasting.Upcast.{Upcast}
use Rattle.candidate_assembly.specs.Rules.DynBounds.{ArePrincipalSupers, auto_of, bound_said, bounds_in, projects, region_in, same_number, trait_of_bound}
use Rattle.candidate_assembly.specs.Answers.Telling.{standing}
use Rattle.candidate_assembly.specs.Rules.Unsizing.{Met, bound_met, bounds_met, dyn_to_dyn, kinds_bound, numbered_upcasts, outlives}

-- What stands under a binder: the kinds of the binder's variables, and a row of trees.
pub record Row : Type 0 where
  pub kinds : List Kind
  pub trees : Forest

-- by its numbers
abbrev pub row_at : List Tree → Binder Args → Row
row_at ts b = record { kinds = binder_kinds (vars_tree ts b.vars).children; trees = args_forest ts b.value }

abbrev pub IsRow : List Tree → Binder Args → Type 0
IsRow ts b = IsVars ts b.vars × IsArgs ts b.value

-- of a bound of a `dyn` type, and of a trait clause without its self type
abbrev pub row_under : Tree → Row
row_under b = record { kinds = kinds_bound b; trees = after_first b.children }

abbrev pub row_without_self : Tree → Row
row_without_self c = record { kinds = kinds_bound c; trees = after_first (after_first c.children) }

-- whether a principal, if there is one, is of the trait of that number
abbrev pub is_principal_of : ℕ → Option Tree → Bool
is_principal_of n None = false
is_principal_of n (Some c) = same_number (trait_of_bound c.head) (Some n)

-- What is read of one: its reference under its binder, of which the row is that of all its arguments.
abbrev pub reference_row : List Tree → Binder TraitRef → Row
reference_row ts b = row_at ts (record { vars = b.vars; value = b.value.args })

abbrev pub principal_row : Option Tree → Row
principal_row None = record { kinds = []; trees = none }
principal_row (Some c) = row_under c

pub record IsReferenceOf (ts : List Tree) (b : Binder TraitRef) (n : ℕ) (principal : Option Tree) : Type 0 where
  pub vars : IsVars ts b.vars
  pub arguments : IsArgs ts b.value.args
  pub is : is_principal_of n principal ≡ true
  pub row : reference_row ts b ≡ principal_row principal

-- a row without its first tree
abbrev pub rest_of : Row → Row
rest_of r = record { kinds = r.kinds; trees = after_first r.trees }

-- A row that was made, by its numbers.
abbrev pub IsRowOf : List Tree → Binder Args → Row → Type 0
IsRowOf ts b r = IsRow ts b × (row_at ts b ≡ r)

-- The target's row with placeholders for its variables, then the source's with fresh ones, and the state with them.

abbrev pub rows_state : State → Row → Row → State
rows_state S source target = with_fresh_variables (with_rigid S target.kinds) source.kinds

abbrev pub target_trees : State → Row → Forest
target_trees S target = opened (rigid S target.kinds) target.trees

abbrev pub source_trees : State → Row → Row → Forest
source_trees S source target = opened (fresh_variables (with_rigid S target.kinds) source.kinds) source.trees

-- They are equated, and what is pending evaluated: the state then.
abbrev pub rows_met : Judge → Env → State → Row → Row → Option State
rows_met J e S source target =
    next (accepted J (rows_state S source target) e (source_trees S source target) (target_trees S target)) (λ T. next (J.settled T) (λ q. Some q.1))

-- A tree of which a rule may speak, by its number: of a trait clause, and of a bound.

abbrev pub IsRuleClause : List Tree → ℕ → Clause → Type 0
IsRuleClause ts n c = IsClause ts c × IsRuleTree n (clause_tree ts c)

abbrev pub IsRulePred : List Tree → ℕ → Pred → Type 0
IsRulePred ts n p = IsPred ts p × IsRuleTree n (pred_tree ts p)

-- a bound that names the auto trait of that number
abbrev pub names_auto : ℕ → Tree → Bool
names_auto n b = number_listed (auto_of b.head) n

-- whether one of these does
abbrev pub names_by : List Tree → List Pred → ℕ → Bool
names_by ts sources n = list_any (λ p. names_auto n (pred_tree ts p)) sources

-- A bound of the target that names an auto trait which the source's own bounds don't name; and whether there is one.

abbrev pub lacks_auto : (ℕ → Bool) → Head → Bool
lacks_auto named (H.Part (P.Pred (PH.AutoTrait i))) = not (named i.0)
lacks_auto named _ = false

abbrev pub lacks_autos : List Tree → List Pred → List Pred → Bool
lacks_autos ts sources targets = list_any (λ p. lacks_auto (names_by ts sources) (pred_tree ts p).head) targets

-- a bound about the associated type, whose row meets the target's
abbrev pub meets_projection : Judge → Env → State → ℕ → Tree → Tree → Bool
meets_projection J e S item target source = projects item source.head && is_some (rows_met J e S (row_under source) (row_under target))

-- A bound is met, from a state on and whatever stands for the rule's variables: what is left of the rule comes to the same at the other
-- state, where it has the bound's next number of variables.
pub record GoesOn (J : Judge) (e : Env) (S T : State) (met : ℕ → Met) : Type 0 where
  pub locals : Forest → Forest
  pub longer : length S.variables ≤ length T.variables
  pub below : (ls : Forest) → IsBelow (length S.variables) ls → IsBelow (length T.variables) (locals ls)
  pub number : (ls : Forest) → count (locals ls) ≡ (met (count ls)).next
  pub comes : (ls : Forest) → IsBelow (length S.variables) ls → (more : List Step) (end : Ending) → StepsBelow (length S.variables) more → EndingBelow (length S.variables) end
      → comes_to J e (standing S ls) ((met (count ls)).steps ++ more) end ≡ comes_to J e (standing T (locals ls)) more end

-- It ends the rule, whatever is left of it.
abbrev pub EndsThere : Judge → Env → State → (ℕ → List Step) → (Ending → Judged) → Type 0
EndsThere J e S steps judged =
    (ls : Forest) → IsBelow (length S.variables) ls → (more : List Step) (end : Ending) → StepsBelow (length S.variables) more → EndingBelow (length S.variables) end
    → comes_to J e (standing S ls) (steps (count ls) ++ more) end ≡ judged end

-- What a call says of a bound of the target: it is met, it is met in several ways, or it isn't.
pub record Meets (J : Judge) (e : Env) (S T : State) (met : ℕ → Met) (answer : Result Meeting NoSolutionOrStop) : Type 0 where
  pub surely : IfOk answer (λ m. m ≡ M.Surely → GoesOn J e S T met)
  pub ambiguously : IfOk answer (λ m. m ≡ M.Ambiguously → EndsThere J e S (λ n. (met n).steps) (λ end. asked J T (source_of end) AMBIGUOUS))
  pub refused : IfErr answer (λ r. r ≡ N.NoSolution → EndsThere J e S (λ n. (met n).steps) (λ end. Refused))

-- one bound of the target, by the numbers of variables from which it is met
abbrev pub one_met : Context → List Tree → List Tree → Option Tree → Tree → ℕ → Met
one_met c supers sources principal target n = bound_met c supers sources principal n target target.head

-- A rule that began at a state stands at another before steps that depend on how many variables it has: they come to what the whole does.
pub record StandsBefore (J : Judge) (e : Env) (S T : State) (whole : List Step) (left : ℕ → List Step) : Type 0 where
  pub locals : Forest
  pub longer : length S.variables ≤ length T.variables
  pub below : IsBelow (length T.variables) locals
  pub comes : (end : Ending) → EndingBelow (length S.variables) end → comes_to J e (start S) whole end ≡ comes_to J e (standing T locals) (left (count locals)) end

-- The first bounds of the target are met, and these are left; whatever follows them.
abbrev pub MetUntil : Context → List Tree → List Tree → Option Tree → Judge → Env → State → State → List Tree → List Tree → Type 0
MetUntil c supers sources principal J e S T all left =
    (more : List Step) → StepsBelow (length S.variables) more
    → StandsBefore J e S T (bounds_met c supers sources principal 0 all ++ more) (λ n. bounds_met c supers sources principal n left ++ more)

-- What a call says of all bounds of the target: before what follows them stands the rule, or it has ended.
pub record MeetsAll (J : Judge) (e : Env) (S T : State) (steps : List Step) (answer : Result Meeting NoSolutionOrStop) : Type 0 where
  pub surely : IfOk answer (λ m. m ≡ M.Surely → (more : List Step) → StepsBelow (length S.variables) more → StandsBefore J e S T (steps ++ more) (λ _. more))
  pub ambiguously : IfOk answer (λ m. m ≡ M.Ambiguously → (more : List Step) → StepsBelow (length S.variables) more → (end : Ending) → EndingBelow (length S.variables) end
      → comes_to J e (start S) (steps ++ more) end ≡ asked J T (source_of end) AMBIGUOUS)
  pub refused : IfErr answer (λ r. r ≡ N.NoSolution → (more : List Step) → StepsBelow (length S.variables) more → (end : Ending) → EndingBelow (length S.variables) end
      → comes_to J e (start S) (steps ++ more) end ≡ Refused)

-- What an upcast is made of, by its numbers: a rule may speak of it.
pub record IsUpcast (ts : List Tree) (n : ℕ) (u : Upcast) : Type 0 where
  pub sources : All (IsRulePred ts n) u.sources.items
  pub targets : All (IsRulePred ts n) u.targets.items
  pub supers : All (IsRuleClause ts n) u.supers.items
  pub outlives : IsRuleClause ts n u.outlives

-- The rule that takes one of the supertraits for the principal.
abbrev pub upcast_by : Context → Env → Upcast → Option Tree → CandidateSource → Rule
upcast_by c e u principal s = record {
  env = e;
  applies = true;
  steps = bounds_met c (map (clause_tree c.trees) u.supers.items) (map (pred_tree c.trees) u.sources.items) principal 0 (map (pred_tree c.trees) u.targets.items) ++ nested (clause_tree c.trees u.outlives ∷ []);
  ending = ask s Yes;
}

-- the rules that take each of these, numbered from there on
abbrev pub upcasts_by : Context → Env → Upcast → ℕ → List Tree → List Rule
upcasts_by c e u n ts = numbered_upcasts (λ s p. upcast_by c e u p s) n ts

-- the principal of a `dyn` type, as a clause about the type; nothing without one
abbrev pub principal_said : Tree → Option Tree → List Tree
principal_said type None = []
principal_said type (Some b) = bound_said type b ∷ []

-- Clauses that serve for all supertraits of the source's principal: the rules by them are those by all.
pub record ServeAsSupers (c : Context) (from to : Tree) (ts : List Tree) : Type 0 where
  pub supers : List Tree
  pub are : ArePrincipalSupers c from supers
  pub same : (g : TraitGoal) → dyn_to_dyn c ts g from to ≡ dyn_to_dyn c supers g from to

-- What an upcast from the one `dyn` type to the other is made of. Where a rule may speak of both, it may speak of this.
pub record IsUpcastOf (old new : Context) (u : Upcast) (from to : Tree) : Type 0 where
  pub sources : map (pred_tree new.trees) u.sources.items ≡ bounds_in from
  pub targets : map (pred_tree new.trees) u.targets.items ≡ bounds_in to
  pub supers : ServeAsSupers old from to (map (clause_tree new.trees) u.supers.items)
  pub outlives : clause_tree new.trees u.outlives ≡ outlives Cl.RegionOutlives (region_in from) (region_in to)
  pub may_stand : (n : ℕ) → IsRuleTree n from → IsRuleTree n to → IsUpcast new.trees n u
