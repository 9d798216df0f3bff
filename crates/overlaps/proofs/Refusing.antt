-- Refusals of goals, of clauses and of one among several, said of earlier evaluators.
use Rattle.std.proofs.Common.{◌≡◌, ℕ, zero, suc, List, [], ◌∷◌, Some, ◌<◌, arith, length, slice_get, slice_index_or, refl, sym, ap, subst, ◌∙◌}
use Rattle.ir_trees.specs.declared.ir.kinds.Args.{Args}
use Rattle.ir_trees.specs.declared.ir.kinds.Clause.{Clause}
use Rattle.ir_trees.specs.declared.ir.kinds.ParamEnv.{ParamEnv}
use Rattle.ir_trees.specs.declared.ir.kinds.TraitPredicate.{TraitPredicate}
use Rattle.ir_trees.specs.Declarations.Context.{Context, Grows}
use Rattle.ir_trees.specs.Instantiation.Folding.{substituted_tree}
use Rattle.ir_trees.specs.Syntax.Trees.{none, Tree}
use Rattle.ir_trees.specs.Syntax.Words.{ClauseListFits, IsArgs, IsClause, IsParamEnv, args_forest, clause_tree, env_forest}
use Rattle.ir_trees.proofs.Growth.Kept.{args-kept, grows-trans}
use Rattle.ir_folds.proofs.Instantiation.Joining.{clause-kept}
use Rattle.candidate_eval.specs.Derivations.ImplRules.{TraitGoal}
use Rattle.candidate_eval.specs.Dynamic.ObjectRequirements.{arguments_of, trait_said}
use Rattle.candidate_eval.specs.Judges.States.{Env, State, resolved_tree}
use Rattle.candidate_assembly.specs.Goals.TraitGoals.{trait_goal}
use Rattle.candidate_assembly.proofs.Calls.Keeping.{trait-goal-says}
use Rattle.candidate_rounds.specs.Evaluators.Interface.{Fixed, fixed, judge_of}
use Rattle.candidate_rounds.specs.Evaluators.Known.{Evaluator, state}
use Rattle.overlaps.specs.Goals.{WasRefused}
use Rattle.overlaps.specs.PartTraits.{HaveVariable, RestsOnPart}
use Rattle.overlaps.specs.Refused.{ClauseWasRefused, RefusesHere, RefusesInstances, RefusesOne, RefusesPredicate, StaysBesideSteps, goal_alone}

-- the goal of an environment without clauses
pub goal-is-alone : (old new : Context) (env : ParamEnv) (p : TraitPredicate) → Grows old new → IsParamEnv old.trees env → IsArgs old.trees p.trait_ref.args → env_forest old.trees env ≡ none
    → trait_goal new.trees env p ≡ goal_alone old.trees p
goal-is-alone old new env p g e a empty =
    let with : Env → TraitGoal
    = λ x. record { env = x; reference = record { trait = p.trait_ref.def_id.0; arguments = args_forest old.trees p.trait_ref.args }; polarity = p.polarity } in
    (trait-goal-says old new env p g e a).seen ∙ ap with empty

pub predicate-refused : (old mid new : Evaluator) (env : ParamEnv) (p : TraitPredicate) → Grows old.context mid.context → state mid ≡ state old → fixed new ≡ fixed mid
    → IsParamEnv old.context.trees env → IsArgs old.context.trees p.trait_ref.args → env_forest old.context.trees env ≡ none
    → WasRefused (judge_of (fixed mid)) mid.context (state mid) (trait_goal mid.context.trees env p) → RefusesPredicate old new p
predicate-refused old mid new env p grows s f e a empty h =
    let z = sym f in
    let g = goal-is-alone old.context mid.context env p grows e a empty in
    record {
      context = mid.context;
      earlier = grows;
      refused = subst (λ (q : Fixed × State × TraitGoal). WasRefused (judge_of q.0) mid.context q.1 q.2) (λ i. (z i, s i, g i)) h;
    }

-- The predicate is what a clause says, with all values put in.
-- And each of its instances, by what is asked of the context that is left.
pub instances-refused : (old mid new : Evaluator) (env : ParamEnv) (p : TraitPredicate) → StaysBesideSteps old mid → Grows mid.context new.context → fixed new ≡ fixed mid
    → IsParamEnv old.context.trees env → IsArgs old.context.trees p.trait_ref.args → env_forest old.context.trees env ≡ none
    → WasRefused (judge_of (fixed mid)) mid.context (state mid) (trait_goal mid.context.trees env p)
    → (HaveVariable (args_forest new.context.trees p.trait_ref.args) → RestsOnPart new.context p.trait_ref.def_id → ⊥) → RefusesInstances old new p
unfolding predicate-refused
instances-refused old mid new env p stays g f e a empty h never = record {
  refuses = predicate-refused old mid new env p stays.grows stays.state_same f e a empty h;
  of_instances = λ some. record {
    later = new.context;
    grows = g;
    never = never (subst HaveVariable (sym (args-kept old.context new.context p.trait_ref.args (grows-trans old.context mid.context new.context stays.grows g) a).1) some);
  };
}

pub clause-refused : (old mid new : Evaluator) (t : Tree) (x : Clause) (p : TraitPredicate) → Grows old.context mid.context → state mid ≡ state old
    → clause_tree mid.context.trees x ≡ resolved_tree (state old) t → trait_said (clause_tree mid.context.trees x).head ≡ Some (p.trait_ref.def_id, p.polarity)
    → arguments_of (clause_tree mid.context.trees x) ≡ args_forest mid.context.trees p.trait_ref.args → RefusesInstances mid new p → RefusesHere old new t
clause-refused old mid new t x p g same is said fits h = record {
  context = h.refuses.context;
  earlier = grows-trans old.context mid.context h.refuses.context g h.refuses.earlier;
  refused = record {
    goal = goal_alone mid.context.trees p;
    says = ap (λ (u : Tree). trait_said u.head) (sym is) ∙ said;
    arguments = sym fits ∙ ap arguments_of is;
    no_environment = refl;
    refused = subst (λ (S : State). WasRefused (judge_of (fixed new)) h.refuses.context S (goal_alone mid.context.trees p)) same h.refuses.refused;
    of_instances = h.of_instances;
  };
}

-- A probe that was open meanwhile changes nothing of it.
pub here-probed : (old began ran new : Evaluator) (t : Tree) → began.context ≡ old.context → state began ≡ state old → fixed new ≡ fixed ran → RefusesHere began ran t → RefusesHere old new t
here-probed old began ran new t cx same f h =
    let z = sym f in
    record {
      context = h.context;
      earlier = subst (λ (c : Context). Grows c h.context) cx h.earlier;
      refused = subst (λ (q : Fixed × State). ClauseWasRefused (judge_of q.0) h.context q.1 (resolved_tree q.1 t)) (λ i. (z i, same i)) h.refused;
    }

-- It is so of an earlier evaluator, from which all stayed but the table.
here-earlier : (old mid new : Evaluator) (t u : Tree) → StaysBesideSteps old mid → u ≡ t → RefusesHere mid new u → RefusesHere old new t
here-earlier old mid new t u stays e h =
    let s = stays.state_same in
    record {
      context = h.context;
      earlier = grows-trans old.context mid.context h.context stays.grows h.earlier;
      refused = subst (λ (q : State × Tree). ClauseWasRefused (judge_of (fixed new)) h.context q.0 (resolved_tree q.0 q.1)) (λ i. (s i, e i)) h.refused;
    }

-- a clause with what stands for the parameters, by a later context
pub instance-kept : (old new : Context) (locals : Args) (x : Clause) → Grows old new → IsArgs old.trees locals → IsClause old.trees x
    → substituted_tree (args_forest new.trees locals) (clause_tree new.trees x) ≡ substituted_tree (args_forest old.trees locals) (clause_tree old.trees x)
instance-kept old new locals x g a f =
    ap (λ ls. substituted_tree ls (clause_tree new.trees x)) (args-kept old new locals g a).1
    ∙ ap (substituted_tree (args_forest old.trees locals)) (clause-kept old new x g f).1

pub got-fits : (ts : List Tree) (xs : List Clause) (n : ℕ) (x : Clause) → ClauseListFits ts xs → slice_get xs n ≡ Some x → IsClause ts x
got-fits ts [] n x fit is = absurd cc
got-fits ts (y ∷ ys) zero x fit is =
    let there : IsClause ts y = cc in
    let same : y ≡ x = cc in
    subst (IsClause ts) same there
got-fits ts (y ∷ ys) (suc n) x fit is =
    let rest : ClauseListFits ts ys = cc in
    got-fits ts ys n x rest is

-- what stands in a place of a list
pub got-there : (xs : List Clause) (n : ℕ) (d : Clause) → n < length xs → slice_get xs n ≡ Some (slice_index_or xs n d)
got-there [] n d l = absurd (omega (arith, l))
got-there (x ∷ xs) zero d l = refl
got-there (x ∷ xs) (suc n) d l = let m : n < length xs = omega (arith, l) in got-there xs n d m

-- One of several clauses

pub one-refused : (old mid new : Evaluator) (locals : Args) (xs : List Clause) (n : ℕ) (x : Clause) → StaysBesideSteps old mid → IsArgs old.context.trees locals → ClauseListFits old.context.trees xs
    → slice_get xs n ≡ Some x → RefusesHere mid new (substituted_tree (args_forest mid.context.trees locals) (clause_tree mid.context.trees x))
    → RefusesOne old new (args_forest old.context.trees locals) xs n
one-refused old mid new locals xs n x stays a fit is h =
    let same = instance-kept old.context mid.context locals x stays.grows a (got-fits old.context.trees xs n x fit is) in
    record {
      clause = x;
      is = is;
      refuses = here-earlier old mid new (substituted_tree (args_forest old.context.trees locals) (clause_tree old.context.trees x)) _ stays same h;
    }

pub one-earlier : (old mid new : Evaluator) (locals : Args) (xs : List Clause) (n : ℕ) → StaysBesideSteps old mid → IsArgs old.context.trees locals → ClauseListFits old.context.trees xs
    → RefusesOne mid new (args_forest mid.context.trees locals) xs n → RefusesOne old new (args_forest old.context.trees locals) xs n
one-earlier old mid new locals xs n stays a fit h = one-refused old mid new locals xs n h.clause stays a fit h.is h.refuses
