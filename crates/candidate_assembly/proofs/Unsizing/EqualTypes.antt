-- What comes of a rule that equates two types and nests clauses.
use Rattle.std.proofs.Common.{◌≡◌, false, refl, sym, ap, subst, ◌∙◌, List, map, Some, None, Result}
use Rattle.ir_trees.specs.declared.ir.kinds.Clause.{Clause}
use Rattle.ir_trees.specs.declared.ir.kinds.GoalSource.TheVariants.{ImplWhereBound}
use Rattle.ir_trees.specs.declared.ir.kinds.ParamEnv.{ParamEnv}
use Rattle.ir_trees.specs.Declarations.Context.{Context, Grows}
use Rattle.ir_trees.specs.Instantiation.Folding.{substituted}
use Rattle.ir_trees.specs.Unification.Substitutions.{alone}
use Rattle.ir_trees.specs.Syntax.Trees.{none, Tree, is_param, tree_holds}
use Rattle.ir_trees.specs.Syntax.Words.{ClauseListFits, IsParamEnv, clause_tree, env_forest}
use Rattle.ir_trees.proofs.Instantiation.Folding.{substituted-nothing, or-left, or-right}
use Rattle.candidate_eval.specs.declared.eval.certainty.Certainty.TheVariants.{Yes}
use Rattle.candidate_eval.specs.declared.eval.refusal.NoSolutionOrStop.{NoSolutionOrStop}
use Rattle.candidate_eval.specs.declared.eval.response.Candidate.{Candidate}
use Rattle.candidate_eval.specs.Interface.Evaluators.{accepted, with_goals_of}
use Rattle.candidate_eval.specs.Derivations.Judging.{Refused, asked, comes_to, concluded, continued, judged, start}
use Rattle.candidate_eval.specs.Dynamic.ObjectRequirements.{goals_in}
use Rattle.candidate_eval.specs.Derivations.Rules.{ask, equate, nested}
use Rattle.candidate_eval.specs.Judges.States.{Env, Judge, State}
use Rattle.candidate_eval.proofs.Marks.Marking.{unmarked}
use Rattle.candidate_eval.proofs.Dynamic.Objects.{env-kept}
use Rattle.candidate_eval.proofs.Outcomes.Responding.{clauses-kept}
use Rattle.candidate_assembly.specs.Rules.BuiltinRules.{misc}
use Rattle.candidate_assembly.specs.Answers.Telling.{HaveNoParameter, Told, standing}
use Rattle.candidate_assembly.specs.Rules.Unsizing.{equal_rule}
use Rattle.candidate_assembly.proofs.Rules.Flat.{flat-comes, free-kept}
use Rattle.candidate_assembly.proofs.Calls.Stepping.{comes-refused, equation-reaches, equation-refuses, run-first}

pub put-alone : (t : Tree) → tree_holds is_param t ≡ false → substituted none 0 (alone t) ≡ alone t
put-alone t h = substituted-nothing none 0 (alone t) (unmarked is_param t.head t.children none (or-left _ _ h) (or-right _ _ h) refl)

-- the types are the same by then, and what is left are the clauses
equal-comes : (J : Judge) (S U : State) (e : Env) (t u : Tree) (cs : List Tree) → tree_holds is_param t ≡ false → tree_holds is_param u ≡ false
    → accepted J S e (alone t) (alone u) ≡ Some U → judged J S (equal_rule e t u cs) ≡ comes_to J e (standing U none) (nested cs) (ask misc Yes)
equal-comes J S U e t u cs f h is =
    ap (λ z. continued J (ask misc Yes) z (λ q. concluded J e (ask misc Yes) q.state))
    (run-first J e (start S) (standing U none) (equate (alone t) (alone u)) (nested cs) (equation-reaches J e (start S) (alone t) (alone u) (alone t) (alone u) U (put-alone t f) (put-alone u h) is))

pub equal-refused : (J : Judge) (S : State) (e : Env) (t u : Tree) (cs : List Tree) → tree_holds is_param t ≡ false → tree_holds is_param u ≡ false
    → accepted J S e (alone t) (alone u) ≡ None → judged J S (equal_rule e t u cs) ≡ Refused
equal-refused J S e t u cs f h is =
    comes-refused J e (start S) (equate (alone t) (alone u)) (nested cs) (ask misc Yes)
    (equation-refuses J e (start S) (alone t) (alone u) (alone t) (alone u) (put-alone t f) (put-alone u h) is)

-- What is told after the equation, with the clauses pending, is told of the rule as it was before.
pub equal-told : (J : Judge) (old mid : Context) (ran : List Tree) (S U : State) (env : ParamEnv) (t u : Tree) (xs : List Clause) (r : Result Candidate NoSolutionOrStop)
    → Grows old mid → IsParamEnv old.trees env → ClauseListFits old.trees xs → HaveNoParameter old.trees xs → tree_holds is_param t ≡ false → tree_holds is_param u ≡ false
    → accepted J S (env_forest old.trees env) (alone t) (alone u) ≡ Some U
    → Told ran r (asked J (with_goals_of mid.trees U ImplWhereBound (goals_in env xs)) misc Yes)
    → Told ran r (judged J S (equal_rule (env_forest old.trees env) t u (map (clause_tree old.trees) xs)))
equal-told J old mid ran S U env t u xs r grows e fits free f h is told =
    let xs-are = (clauses-kept old mid xs grows fits).1 in
    let comes : comes_to J (env_forest old.trees env) (standing U none) (nested (map (clause_tree old.trees) xs)) (ask misc Yes) ≡ asked J (with_goals_of mid.trees U ImplWhereBound (goals_in env xs)) misc Yes
    = ap (λ z. comes_to J z (standing U none) (nested (map (clause_tree old.trees) xs)) (ask misc Yes)) (sym (env-kept old mid env grows e).1)
    ∙ (ap (λ z. comes_to J (env_forest mid.trees env) (standing U none) (nested z) (ask misc Yes)) (sym xs-are)
    ∙ flat-comes J mid.trees env ImplWhereBound misc Yes U none xs (free-kept old.trees mid.trees xs xs-are free)) in
    subst (λ j. Told ran r j) (sym (equal-comes J S U (env_forest old.trees env) t u (map (clause_tree old.trees) xs) f h is ∙ comes)) told

-- the rule of what is the same
pub equal-same : (d e : Env) (t v u w : Tree) (cs ds : List Tree) → d ≡ e → t ≡ v → u ≡ w → cs ≡ ds → equal_rule d t u cs ≡ equal_rule e v w ds
equal-same d e t v u w cs ds p q r s = ap (λ x. equal_rule x t u cs) p ∙ (ap (λ x. equal_rule e x u cs) q ∙ (ap (λ x. equal_rule e v x cs) r ∙ ap (equal_rule e v w) s))
