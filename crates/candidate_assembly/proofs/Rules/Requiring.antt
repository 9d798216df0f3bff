-- What a rule requires besides the clause that it matches becomes pending.
use Rattle.std.proofs.Common.{◌≡◌, ℕ, suc, ◌+◌, ◌<◌, ◌≤◌, refl, sym, ap, subst, ◌∙◌, Result, List, [], ◌∷◌, ◌++◌, append_assoc, arith, get_or, length, map, take}
use Rattle.std.proofs.lemmas.List.{append-nil, map_more, take_all}
use Rattle.ir_trees.specs.declared.ir.kinds.ParamEnv.{ParamEnv}
use Rattle.ir_trees.specs.Declarations.Context.{Context, Grows}
use Rattle.ir_trees.specs.Syntax.Trees.{Forest, Tree, is_param, none, tree_holds}
use Rattle.ir_trees.specs.Syntax.Words.{IsClause, IsParamEnv, clause_tree, env_forest}
use Rattle.ir_folds.proofs.Instantiation.Joining.{clause-kept}
use Rattle.candidate_eval.specs.declared.eval.certainty.Certainty.{Certainty}
use Rattle.candidate_eval.specs.declared.eval.certainty.Certainty.TheVariants.{Yes}
use Rattle.candidate_eval.specs.declared.eval.refusal.NoSolutionOrStop.{NoSolutionOrStop}
use Rattle.candidate_eval.specs.declared.eval.response.CanonicalResponse.{CanonicalResponse}
use Rattle.candidate_eval.specs.declared.eval.source.BuiltinImplSource.TheVariants.{Misc}
use Rattle.candidate_eval.specs.declared.eval.source.CandidateSource.{CandidateSource}
use Rattle.candidate_eval.specs.declared.eval.source.CandidateSource.TheVariants.{BuiltinImpl}
use Rattle.candidate_eval.specs.Derivations.Judging.{asked, comes_to, judged}
use Rattle.candidate_eval.specs.Derivations.Rules.{add, ask}
use Rattle.candidate_eval.specs.Judges.States.{Env, Judge, Pending, State, added, with_pending}
use Rattle.candidate_eval.proofs.Dynamic.Objects.{env-kept}
use Rattle.candidate_assembly.specs.Answers.Closures.{Responds}
use Rattle.candidate_assembly.specs.Rules.Requirements.{RequireNoParameter, Requirement, RequirementsFit, required_goal, requirement_steps, requiring_rule, with_requirements}
use Rattle.candidate_assembly.specs.Answers.Telling.{ToldAs, standing}
use Rattle.candidate_assembly.proofs.Rules.Flat.{nothing-put}
use Rattle.candidate_assembly.proofs.Calls.Stepping.{responds-told}

abbrev pending-with : Requirement → Env → Tree → Pending
pending-with r e t = record { source = r.0; goal = record { env = e; clause = t } }

-- A requirement becomes the same goal where a context has grown; so do all.

pub goal-kept : (old new : Context) (env : ParamEnv) (r : Requirement) → Grows old new → IsParamEnv old.trees env → IsClause old.trees r.1 → required_goal new.trees env r ≡ required_goal old.trees env r
goal-kept old new env r grows e c =
    ap (λ x. pending-with r x (clause_tree new.trees r.1)) (env-kept old new env grows e).1 ∙ ap (pending-with r (env_forest old.trees env)) (clause-kept old new r.1 grows c).1

goals-kept : (old new : Context) (env : ParamEnv) (rs : List Requirement) → Grows old new → IsParamEnv old.trees env → RequirementsFit old.trees rs
    → map (required_goal new.trees env) rs ≡ map (required_goal old.trees env) rs
goals-kept old new env [] grows e fits = refl
goals-kept old new env (r ∷ rs) grows e fits =
    ap (λ x. x ∷ map (required_goal new.trees env) rs) (goal-kept old new env r grows e (fits 0 r (omega arith)))
    ∙ ap (λ xs. required_goal old.trees env r ∷ xs) (goals-kept old new env rs grows e (λ k d l. fits (suc k) d (omega (arith, l))))

pub requirements-kept : (old new : Context) (env : ParamEnv) (S : State) (rs : List Requirement) → Grows old new → IsParamEnv old.trees env → RequirementsFit old.trees rs
    → with_requirements new.trees env S rs ≡ with_requirements old.trees env S rs
requirements-kept old new env S rs grows e fits = ap (λ ps. with_pending S (S.pending ++ ps)) (goals-kept old new env rs grows e fits)

pub fits-kept : (old new : Context) (rs : List Requirement) → Grows old new → RequirementsFit old.trees rs → RequirementsFit new.trees rs
fits-kept old new rs grows fits = λ k d l. (clause-kept old new (get_or rs k d).1 grows (fits k d l)).0

-- None is pending yet; then one more.

pub none-required : (ts : List Tree) (env : ParamEnv) (S : State) → S ≡ with_requirements ts env S []
none-required ts env S = ap (with_pending S) (sym (append-nil S.pending))

pub one-required : (old mid : Context) (env : ParamEnv) (S T U : State) (rs : List Requirement) (i : ℕ) (d : Requirement) → Grows old mid → IsParamEnv old.trees env → RequirementsFit old.trees rs → i < length rs
    → T ≡ with_requirements old.trees env S (take i rs) → U ≡ added T (required_goal mid.trees env (get_or rs i d)) → U ≡ with_requirements old.trees env S (take (i + 1) rs)
one-required old mid env S T U rs i d grows e fits l is next =
    let x = required_goal old.trees env (get_or rs i d) in
    let before = map (required_goal old.trees env) (take i rs) in
    next
    ∙ (ap (added T) (goal-kept old mid env (get_or rs i d) grows e (fits i d l))
    ∙ (ap (λ (z : State). added z x) is
    ∙ (ap (with_pending S) (append_assoc S.pending before (x ∷ [])) ∙ ap (λ ps. with_pending S (S.pending ++ ps)) (sym (map_more (required_goal old.trees env) rs i d l)))))

-- and in the end all
pub all-required : (ts : List Tree) (env : ParamEnv) (S T : State) (rs : List Requirement) (i : ℕ) → T ≡ with_requirements ts env S (take i rs) → length rs ≤ i → T ≡ with_requirements ts env S rs
all-required ts env S T rs i is past = is ∙ ap (with_requirements ts env S) (take_all i rs past)

-- The steps come to what is asked for with them pending, whatever stands for the rule's variables.
pub requirements-come : (J : Judge) (ts : List Tree) (env : ParamEnv) (source : CandidateSource) (c : Certainty) (S : State) (ls : Forest) (rs : List Requirement) → RequireNoParameter ts rs
    → comes_to J (env_forest ts env) (standing S ls) (requirement_steps ts rs) (ask source c) ≡ asked J (with_requirements ts env S rs) source c
requirements-come J ts env source c S ls [] free = ap (λ ps. asked J (with_pending S ps) source c) (sym (append-nil S.pending))
requirements-come J ts env source c S ls (r ∷ rs) free =
    let g = required_goal ts env r in
    ap (λ t. comes_to J (env_forest ts env) (standing (added S (pending-with r (env_forest ts env) t)) ls) (requirement_steps ts rs) (ask source c)) (nothing-put ls (clause_tree ts r.1) (free 0 r (omega arith)))
    ∙ (requirements-come J ts env source c (added S g) ls rs (λ k d l. free (suc k) d (omega (arith, l)))
    ∙ ap (λ ps. asked J (with_pending S ps) source c) (append_assoc S.pending (g ∷ []) (map (required_goal ts env) rs)))

-- The steps are the same where a context has grown, and no parameter stands in them then.

step-kept : (old new : Context) (r : Requirement) → Grows old new → IsClause old.trees r.1 → add r.0 (clause_tree new.trees r.1) ≡ add r.0 (clause_tree old.trees r.1)
step-kept old new r grows c = ap (add r.0) (clause-kept old new r.1 grows c).1

pub steps-kept : (old new : Context) (rs : List Requirement) → Grows old new → RequirementsFit old.trees rs → requirement_steps new.trees rs ≡ requirement_steps old.trees rs
steps-kept old new [] grows fits = refl
steps-kept old new (r ∷ rs) grows fits =
    ap (λ x. x ∷ requirement_steps new.trees rs) (step-kept old new r grows (fits 0 r (omega arith)))
    ∙ ap (λ xs. add r.0 (clause_tree old.trees r.1) ∷ xs) (steps-kept old new rs grows (λ k d l. fits (suc k) d (omega (arith, l))))

pub required-free : (old new : Context) (rs : List Requirement) → Grows old new → RequirementsFit old.trees rs → RequireNoParameter old.trees rs → RequireNoParameter new.trees rs
required-free old new rs grows fits free = λ k d l. ap (tree_holds is_param) (clause-kept old new (get_or rs k d).1 grows (fits k d l)).1 ∙ free k d l

pub rule-kept : (old new : Context) (env : ParamEnv) (rs : List Requirement) → Grows old new → IsParamEnv old.trees env → RequirementsFit old.trees rs
    → requiring_rule (env_forest new.trees env) (requirement_steps new.trees rs) ≡ requiring_rule (env_forest old.trees env) (requirement_steps old.trees rs)
rule-kept old new env rs grows e fits =
    ap (λ x. requiring_rule x (requirement_steps new.trees rs)) (env-kept old new env grows e).1 ∙ ap (requiring_rule (env_forest old.trees env)) (steps-kept old new rs grows fits)

-- An answer by the requirements is what is judged of the rule.
pub requiring-told : (J : Judge) (ts us : List Tree) (env : ParamEnv) (S : State) (rs : List Requirement) (r : Result CanonicalResponse NoSolutionOrStop) → RequireNoParameter ts rs
    → Responds us r (J.responded (with_requirements ts env S rs) Yes) → ToldAs us (BuiltinImpl Misc) r (judged J S (requiring_rule (env_forest ts env) (requirement_steps ts rs)))
requiring-told J ts us env S rs r free h =
    subst (λ j. ToldAs us (BuiltinImpl Misc) r j) (sym (requirements-come J ts env (BuiltinImpl Misc) Yes S none rs free))
    (responds-told us (BuiltinImpl Misc) r (J.responded (with_requirements ts env S rs) Yes) h)
