-- What clauses that become pending come to.
use Rattle.std.proofs.Common.{◌≡◌, zero, suc, Bool, true, false, refl, subst, Result, ap, sym, ◌∙◌, List, [], ◌∷◌, map, append_assoc, arith}
use Rattle.std.specs.Prelude.{if◌then◌else◌}
use Rattle.std.proofs.lemmas.List.{append-nil}
use Rattle.ir_trees.specs.declared.ir.kinds.Clause.{Clause}
use Rattle.ir_trees.specs.declared.ir.kinds.Goal.{Goal as OfNumbers}
use Rattle.ir_trees.specs.declared.ir.kinds.GoalSource.{GoalSource}
use Rattle.ir_trees.specs.declared.ir.kinds.ParamEnv.{ParamEnv}
use Rattle.ir_trees.specs.Declarations.Context.{Context, Grows}
use Rattle.ir_trees.specs.Instantiation.Folding.{substituted_tree, argument}
use Rattle.ir_trees.specs.Unification.Substitutions.{alone}
use Rattle.ir_trees.specs.Syntax.Trees.{Forest, none, Tree, holds, is_param, tree_holds}
use Rattle.ir_trees.specs.Syntax.Words.{ClauseListFits, IsParamEnv, clause_tree, env_forest}
use Rattle.ir_trees.proofs.Instantiation.Folding.{substituted-nothing, or-left, or-right}
use Rattle.candidate_eval.specs.declared.eval.certainty.Certainty.{Certainty}
use Rattle.candidate_eval.specs.declared.eval.refusal.NoSolutionOrStop.{NoSolutionOrStop}
use Rattle.candidate_eval.specs.declared.eval.response.Candidate.{Candidate}
use Rattle.candidate_eval.specs.declared.eval.source.CandidateSource.{CandidateSource}
use Rattle.candidate_eval.specs.Interface.Evaluators.{with_goals_of, pending_of}
use Rattle.candidate_eval.specs.Derivations.Judging.{Refused, asked, comes_to, start, judged, goal_at}
use Rattle.candidate_eval.specs.Dynamic.ObjectRequirements.{goals_in}
use Rattle.candidate_eval.specs.Derivations.Rules.{add, ask}
use Rattle.candidate_eval.specs.Judges.States.{Env, State, Pending, Judge, added, with_pending}
use Rattle.candidate_eval.proofs.Marks.Marking.{unmarked}
use Rattle.candidate_eval.proofs.Dynamic.Objects.{env-kept}
use Rattle.candidate_eval.proofs.Outcomes.Responding.{clauses-kept}
use Rattle.candidate_assembly.specs.Answers.Telling.{HaveNoParameter, Told, flat_rule, standing}

-- what names no parameter stays
pub nothing-put : (ls : Forest) (t : Tree) → tree_holds is_param t ≡ false → substituted_tree ls t ≡ t
nothing-put ls t h =
    let whole : holds is_param (alone t) ≡ false = unmarked is_param t.head t.children none (or-left _ _ h) (or-right _ _ h) refl in
    ap (λ (ts : Forest). argument ts 0) (substituted-nothing ls 0 (alone t) whole)

-- where trees are the same, so is that they name no parameter
pub free-kept : (old new : List Tree) (xs : List Clause) → map (clause_tree new) xs ≡ map (clause_tree old) xs → HaveNoParameter old xs → HaveNoParameter new xs
free-kept old new [] e h = λ k d l. absurd (omega (arith, l))
free-kept old new (x ∷ xs) e h =
    let here : clause_tree new x ≡ clause_tree old x = cc in
    let rest : map (clause_tree new) xs ≡ map (clause_tree old) xs = cc in
    begins (ap (tree_holds is_param) here ∙ h 0 x (omega arith)) (free-kept old new xs rest (λ k d l. h (suc k) d (omega (arith, l))))
  where
    begins : tree_holds is_param (clause_tree new x) ≡ false → HaveNoParameter new xs → HaveNoParameter new (x ∷ xs)
    begins now more zero d l = now
    begins now more (suc k) d l = more k d (omega (arith, l))

-- Clauses of a rule become pending as the clauses that they are where trees are put in for its variables.
pub nested-comes : (J : Judge) (ts : List Tree) (env : ParamEnv) (s : GoalSource) (source : CandidateSource) (c : Certainty) (S : State) (ls : Forest) (cs : List Tree) (xs : List Clause)
    → map (substituted_tree ls) cs ≡ map (clause_tree ts) xs
    → comes_to J (env_forest ts env) (standing S ls) (map (add s) cs) (ask source c) ≡ asked J (with_goals_of ts S s (goals_in env xs)) source c
nested-comes J ts env s source c S ls [] [] h = ap (λ ps. asked J (with_pending S ps) source c) (sym (append-nil S.pending))
nested-comes J ts env s source c S ls [] (x ∷ xs) h = absurd cc
nested-comes J ts env s source c S ls (t ∷ cs) [] h = absurd cc
nested-comes J ts env s source c S ls (t ∷ cs) (x ∷ xs) h =
    let here : substituted_tree ls t ≡ clause_tree ts x = cc in
    let rest : map (substituted_tree ls) cs ≡ map (clause_tree ts) xs = cc in
    let g : OfNumbers Clause = record { param_env = env; predicate = x } in
    let same : goal_at (env_forest ts env) (standing S ls) s t ≡ pending_of ts s g
    = ap (λ u. let p : Pending = record { source = s; goal = record { env = env_forest ts env; clause = u } } in p) here in
    ap (λ p. comes_to J (env_forest ts env) (standing (added S p) ls) (map (add s) cs) (ask source c)) same
    ∙ nested-comes J ts env s source c (added S (pending_of ts s g)) ls cs xs rest
    ∙ ap (λ ps. asked J (with_pending S ps) source c) (append_assoc S.pending (pending_of ts s g ∷ []) (map (pending_of ts s) (goals_in env xs)))

-- clauses without parameters stay
all-put : (ts : List Tree) (ls : Forest) (xs : List Clause) → HaveNoParameter ts xs → map (substituted_tree ls) (map (clause_tree ts) xs) ≡ map (clause_tree ts) xs
all-put ts ls [] h = refl
all-put ts ls (x ∷ xs) h =
    ap (λ t. t ∷ map (substituted_tree ls) (map (clause_tree ts) xs)) (nothing-put ls (clause_tree ts x) (h 0 x (omega arith)))
    ∙ ap (λ us. clause_tree ts x ∷ us) (all-put ts ls xs (λ k d l. h (suc k) d (omega (arith, l))))

pub flat-comes : (J : Judge) (ts : List Tree) (env : ParamEnv) (s : GoalSource) (source : CandidateSource) (c : Certainty) (S : State) (ls : Forest) (xs : List Clause) → HaveNoParameter ts xs
    → comes_to J (env_forest ts env) (standing S ls) (map (add s) (map (clause_tree ts) xs)) (ask source c) ≡ asked J (with_goals_of ts S s (goals_in env xs)) source c
flat-comes J ts env s source c S ls xs h = nested-comes J ts env s source c S ls (map (clause_tree ts) xs) xs (all-put ts ls xs h)

-- A probe in which clauses became pending: what is told by them as they are there is told of the rule as it was before.
pub flat-told : (J : Judge) (old began : Context) (ran : List Tree) (S : State) (applies : Bool) (env : ParamEnv) (s : GoalSource) (source : CandidateSource) (c : Certainty) (xs : List Clause) (r : Result Candidate NoSolutionOrStop)
    → applies ≡ true → Grows old began → IsParamEnv old.trees env → ClauseListFits old.trees xs → HaveNoParameter old.trees xs
    → Told ran r (asked J (with_goals_of began.trees S s (goals_in env xs)) source c)
    → Told ran r (judged J S (flat_rule (env_forest old.trees env) applies s (map (clause_tree old.trees) xs) source c))
flat-told J old began ran S applies env s source c xs r applied grows e fits free told =
    let e-is = (env-kept old began env grows e).1 in
    let xs-are = (clauses-kept old began xs grows fits).1 in
    let comes : comes_to J (env_forest old.trees env) (start S) (map (add s) (map (clause_tree old.trees) xs)) (ask source c) ≡ asked J (with_goals_of began.trees S s (goals_in env xs)) source c
    = ap (λ z. comes_to J z (start S) (map (add s) (map (clause_tree old.trees) xs)) (ask source c)) (sym e-is)
    ∙ (ap (λ z. comes_to J (env_forest began.trees env) (start S) (map (add s) z) (ask source c)) (sym xs-are)
    ∙ flat-comes J began.trees env s source c S none xs (free-kept old.trees began.trees xs xs-are free)) in
    subst (λ j. Told ran r j) (sym (ap (λ b. if b then comes_to J (env_forest old.trees env) (start S) (map (add s) (map (clause_tree old.trees) xs)) (ask source c) else Refused) applied ∙ comes)) told

-- One that doesn't apply is refused.
pub flat-refused : (J : Judge) (S : State) (e : Env) (applies : Bool) (s : GoalSource) (cs : List Tree) (source : CandidateSource) (c : Certainty) → applies ≡ false → judged J S (flat_rule e applies s cs source c) ≡ Refused
flat-refused J S e applies s cs source c n = ap (λ b. if b then comes_to J e (start S) (map (add s) cs) (ask source c) else Refused) n
