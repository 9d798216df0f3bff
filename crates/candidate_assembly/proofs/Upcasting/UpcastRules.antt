-- The rule of one upcast: what is told of it, what it mentions, and that it stays the same where a context has grown.
use Rattle.std.proofs.Common.{◌≡◌, ◌≤◌, ◌<◌, ◌+◌, ◌-◌, ℕ, zero, suc, true, false, Option, Some, Result, List, [], ◌∷◌, ◌++◌, arith, get_or, length, map, refl, sym, ap, subst, ◌∙◌}
use Rattle.std.specs.Prelude.{IfSome, option_map}
use Rattle.std.proofs.lemmas.List.Elements.{All-cons, All-nil}
use Rattle.ir_trees.specs.declared.ir.kinds.Clause.{Clause}
use Rattle.ir_trees.specs.declared.ir.kinds.ParamEnv.{ParamEnv}
use Rattle.ir_trees.specs.declared.ir.kinds.Pred.{Pred}
use Rattle.ir_trees.specs.Declarations.Context.{Context, Grows}
use Rattle.ir_trees.specs.Syntax.Trees.{Tree, is_param, tree_holds}
use Rattle.ir_trees.specs.Syntax.Words.{ClauseListFits, IsClause, IsParamEnv, clause_tree, env_forest, pred_tree}
use Rattle.ir_folds.proofs.Instantiation.Joining.{clause-kept}
use Rattle.candidate_eval.specs.declared.eval.certainty.Certainty.TheVariants.{Yes}
use Rattle.candidate_eval.specs.declared.eval.refusal.NoSolutionOrStop.{NoSolutionOrStop}
use Rattle.candidate_eval.specs.declared.eval.response.Candidate.{Candidate}
use Rattle.candidate_eval.specs.declared.eval.source.CandidateSource.{CandidateSource}
use Rattle.candidate_eval.specs.declared.eval.source.BuiltinImplSource.TheVariants.{TraitUpcasting}
use Rattle.candidate_eval.specs.declared.eval.source.CandidateSource.TheVariants.{BuiltinImpl}
use Rattle.candidate_eval.specs.Judges.Alike.{JudgesAlike}
use Rattle.candidate_eval.specs.Interface.Evaluators.{with_goals_of}
use Rattle.candidate_eval.specs.Derivations.Judging.{asked, comes_to, judged, start}
use Rattle.candidate_eval.specs.Derivations.Mentions.{IsBelow, RuleBelow, StepsBelow}
use Rattle.candidate_eval.specs.Dynamic.ObjectRequirements.{goals_in}
use Rattle.candidate_eval.specs.Dynamic.Replacing.{without_first}
use Rattle.candidate_eval.specs.Derivations.Rules.{Rule, Step, ask, nested}
use Rattle.candidate_eval.specs.Judges.States.{Env, Judge, State}
use Rattle.candidate_eval.proofs.Dynamic.Objects.{env-kept}
use Rattle.candidate_eval.proofs.Outcomes.Responding.{clauses-kept}
use Rattle.ir_trees.specs.declared.ir.kinds.GoalSource.TheVariants.{ImplWhereBound}
use Rattle.candidate_assembly.specs.declared.trait_goals.bounds_met.Meeting.{Meeting}
use Rattle.candidate_assembly.specs.declared.trait_goals.upcasting.Upcast.{Upcast}
use Rattle.candidate_assembly.specs.Answers.Telling.{HaveNoParameter, Told, standing}
use Rattle.candidate_assembly.specs.Rules.Unsizing.{bounds_met}
use Rattle.candidate_assembly.specs.Laws.UnsizingLaws.{bounds_met_stay}
use Rattle.candidate_assembly.specs.Calls.Upcasting.{IsRuleClause, IsUpcast, MeetsAll, StandsBefore, upcast_by, upcasts_by}
use Rattle.candidate_assembly.proofs.Unsizing.DynRequirements.{alone-free}
use Rattle.candidate_assembly.proofs.Rules.Flat.{flat-comes, free-kept}
use Rattle.candidate_assembly.proofs.Lists.Listing.{judged-alike}
use Rattle.candidate_assembly.proofs.Rules.MatchesBelow.{steps-joined}
use Rattle.candidate_assembly.proofs.Upcasting.UpcastBounds.{bounds-low, clauses-same, preds-same, principal-same, rule-clause-later, rule-pred-later}
use Rattle.candidate_assembly.proofs.Upcasting.UpcastMet.{principal-is, principal-trees, rule-are, rule-trees}

-- One clause, alone.

pub one-clause : (ts : List Tree) (x : Clause) → IsClause ts x → ClauseListFits ts (x ∷ [])
one-clause ts x i = cc

one-free : (ts : List Tree) (n : ℕ) (x : Clause) → IsRuleClause ts n x → HaveNoParameter ts (x ∷ [])
one-free ts n x h = All-cons (λ (c : Clause). tree_holds is_param (clause_tree ts c) ≡ false) x [] (alone-free (clause_tree ts x) h.1.no_parameter) (All-nil (λ (c : Clause). tree_holds is_param (clause_tree ts c) ≡ false))

-- what is said of the bounds of lists that were read
pub met-read : (J : Judge) (e : Env) (S T : State) (c : Context) (principal : Option Tree) (u : Upcast) (supers : List Clause) (sources targets : List Pred) (r : Result Meeting NoSolutionOrStop) → supers ≡ u.supers.items → sources ≡ u.sources.items → targets ≡ u.targets.items
    → MeetsAll J e S T (bounds_met c (map (clause_tree c.trees) supers) (map (pred_tree c.trees) sources) principal 0 (map (pred_tree c.trees) targets)) r
    → MeetsAll J e S T (bounds_met c (map (clause_tree c.trees) u.supers.items) (map (pred_tree c.trees) u.sources.items) principal 0 (map (pred_tree c.trees) u.targets.items)) r
met-read J e S T c principal u supers sources targets r a b d m =
    subst (λ (ss : List Step). MeetsAll J e S T ss r) (λ j. bounds_met c (map (clause_tree c.trees) (a j)) (map (pred_tree c.trees) (b j)) principal 0 (map (pred_tree c.trees) (d j))) m

-- What is told after all bounds are met is told of the rule.
pub upcast-told : (J : Judge) (old mid : Context) (ran : List Tree) (S T : State) (env : ParamEnv) (steps : List Step) (x : Clause) (source : CandidateSource) (r : Result Candidate NoSolutionOrStop) → Grows old mid → IsParamEnv old.trees env
    → IsRuleClause old.trees (length S.variables) x
    → ((more : List Step) → StepsBelow (length S.variables) more → StandsBefore J (env_forest old.trees env) S T (steps ++ more) (λ _. more))
    → Told ran r (asked J (with_goals_of mid.trees T ImplWhereBound (goals_in env (x ∷ []))) source Yes)
    → Told ran r (comes_to J (env_forest old.trees env) (start S) (steps ++ nested (clause_tree old.trees x ∷ [])) (ask source Yes))
upcast-told J old mid ran S T env steps x source r g e h surely told =
    let s = surely (nested (clause_tree old.trees x ∷ [])) (h.1.below, tt) in
    let fits = one-clause old.trees x h.0 in
    let xs-are = (clauses-kept old mid (x ∷ []) g fits).1 in
    let comes : comes_to J (env_forest old.trees env) (standing T s.locals) (nested (clause_tree old.trees x ∷ [])) (ask source Yes) ≡ asked J (with_goals_of mid.trees T ImplWhereBound (goals_in env (x ∷ []))) source Yes
    = ap (λ z. comes_to J z (standing T s.locals) (nested (clause_tree old.trees x ∷ [])) (ask source Yes)) (sym (env-kept old mid env g e).1)
    ∙ (ap (λ z. comes_to J (env_forest mid.trees env) (standing T s.locals) (nested z) (ask source Yes)) (sym xs-are)
    ∙ flat-comes J mid.trees env ImplWhereBound source Yes T s.locals (x ∷ []) (free-kept old.trees mid.trees (x ∷ []) xs-are (one-free old.trees (length S.variables) x h))) in
    subst (λ j. Told ran r j) (sym (s.comes (ask source Yes) tt ∙ comes)) told

-- The rule mentions what it is made of.
pub upcast-low : (c : Context) (n : ℕ) (env : ParamEnv) (u : Upcast) (principal : Option Clause) (source : CandidateSource) → IsBelow n (env_forest c.trees env) → IsUpcast c.trees n u → IfSome principal (IsRuleClause c.trees n)
    → RuleBelow n (upcast_by c (env_forest c.trees env) u (option_map (clause_tree c.trees) principal) source)
upcast-low c n env u principal source e h p =
    let sources = rule-trees c.trees n u.sources.items h.sources in
    let targets = rule-trees c.trees n u.targets.items h.targets in
    let supers = map (clause_tree c.trees) u.supers.items in
    let held = option_map (clause_tree c.trees) principal in
    record {
      env = e;
      steps = steps-joined n (bounds_met c supers (map (pred_tree c.trees) u.sources.items) held 0 (map (pred_tree c.trees) u.targets.items)) (nested (clause_tree c.trees u.outlives ∷ []))
          (bounds-low n c supers (map (pred_tree c.trees) u.sources.items) held sources (principal-trees c.trees n principal p) 0 (map (pred_tree c.trees) u.targets.items) targets) (h.outlives.1.below, tt);
      ending = tt;
    }

-- Later, where there are no fewer variables.

module _ (old new : Context) (g : Grows old new) (n m : ℕ) (l : n ≤ m) where
  pub upcast-later : (u : Upcast) → IsUpcast old.trees n u → IsUpcast new.trees m u
  upcast-later u h = record {
    sources = λ k d i. rule-pred-later old new g n m l (get_or u.sources.items k d) (h.sources k d i);
    targets = λ k d i. rule-pred-later old new g n m l (get_or u.targets.items k d) (h.targets k d i);
    supers = λ k d i. rule-clause-later old new g n m l (get_or u.supers.items k d) (h.supers k d i);
    outlives = rule-clause-later old new g n m l u.outlives h.outlives;
  }

  pub upcast-stays : (env : ParamEnv) (u : Upcast) (principal : Option Clause) (source : CandidateSource) → IsParamEnv old.trees env → IsUpcast old.trees n u → IfSome principal (IsRuleClause old.trees n)
      → upcast_by new (env_forest new.trees env) u (option_map (clause_tree new.trees) principal) source ≡ upcast_by old (env_forest old.trees env) u (option_map (clause_tree old.trees) principal) source
  upcast-stays env u principal source e h p =
      let supers = clauses-same old new g u.supers.items (λ k d i. (h.supers k d i).0) in
      let sources = preds-same old new g u.sources.items (rule-are old.trees n u.sources.items h.sources) in
      let targets = preds-same old new g u.targets.items (rule-are old.trees n u.targets.items h.targets) in
      let held = principal-same old new g principal (principal-is old.trees n principal p) in
      let outlives = (clause-kept old new u.outlives g h.outlives.0).1 in
      let more = nested (clause_tree old.trees u.outlives ∷ []) in
      (λ j. record {
        env = (env-kept old new env g e).1 j;
        applies = true;
        steps = bounds_met new (supers j) (sources j) (held j) 0 (targets j) ++ nested (outlives j ∷ []);
        ending = ask source Yes;
      })
      ∙ (λ j. record {
        env = env_forest old.trees env;
        applies = true;
        steps = bounds_met_stay old new g (map (clause_tree old.trees) u.supers.items) (map (pred_tree old.trees) u.sources.items) (option_map (clause_tree old.trees) principal) 0 (map (pred_tree old.trees) u.targets.items) j ++ more;
        ending = ask source Yes;
      })

pub as-many : (S T : State) → T ≡ S → length S.variables ≤ length T.variables
as-many S T e = subst (λ (x : State). length S.variables ≤ length x.variables) (sym e) (omega arith)

-- What is judged of it later, at a state that is alike.
pub upcast-judged : {F : Type 0} (judge : F → Judge) (law : (f : F) → JudgesAlike (judge f)) (f h : F) (old new : Context) (S T : State) (env : ParamEnv) (u : Upcast) (principal : Option Clause) (source : CandidateSource) → h ≡ f → Grows old new
    → (judge f).alike S T → IsParamEnv old.trees env → IsBelow (length S.variables) (env_forest old.trees env) → IsUpcast old.trees (length S.variables) u → IfSome principal (IsRuleClause old.trees (length S.variables))
    → judged (judge h) T (upcast_by new (env_forest new.trees env) u (option_map (clause_tree new.trees) principal) source) ≡ judged (judge f) S (upcast_by old (env_forest old.trees env) u (option_map (clause_tree old.trees) principal) source)
upcast-judged judge law f h old new S T env u principal source same g a e low up held =
    let rule = upcast_by old (env_forest old.trees env) u (option_map (clause_tree old.trees) principal) source in
    ap (λ x. judged (judge x) T (upcast_by new (env_forest new.trees env) u (option_map (clause_tree new.trees) principal) source)) same
    ∙ (ap (judged (judge f) T) (upcast-stays old new g (length S.variables) (length S.variables) (omega arith) env u principal source e up held)
    ∙ judged-alike (judge f) (law f) S T rule a (upcast-low old (length S.variables) env u principal source low up held))

-- The rules by the proper supertraits, with their numbers.

abbrev pub numbered : ℕ → List Clause → List (ℕ × Clause)
numbered n [] = []
numbered n (x ∷ xs) = (n, x) ∷ numbered (suc n) xs

abbrev pub rule-by : Context → Env → Upcast → ℕ × Clause → Rule
rule-by c e u x = upcast_by c e u (Some (clause_tree c.trees x.1)) (BuiltinImpl (TraitUpcasting x.0))

abbrev pub proper : List Clause → List (ℕ × Clause)
proper [] = []
proper (x ∷ xs) = numbered 1 xs

upcasts-numbered : (c : Context) (e : Env) (u : Upcast) (n : ℕ) (xs : List Clause) → upcasts_by c e u n (map (clause_tree c.trees) xs) ≡ map (rule-by c e u) (numbered n xs)
upcasts-numbered c e u n [] = refl
upcasts-numbered c e u n (x ∷ xs) = ap (λ (rs : List Rule). rule-by c e u (n, x) ∷ rs) (upcasts-numbered c e u (suc n) xs)

pub upcasts-proper : (c : Context) (e : Env) (u : Upcast) (xs : List Clause) → upcasts_by c e u 1 (without_first (map (clause_tree c.trees) xs)) ≡ map (rule-by c e u) (proper xs)
upcasts-proper c e u [] = refl
upcasts-proper c e u (x ∷ xs) = upcasts-numbered c e u 1 xs

length-numbered : (n : ℕ) (xs : List Clause) → length (numbered n xs) ≡ length xs
length-numbered n [] = refl
length-numbered n (x ∷ xs) = ap suc (length-numbered (suc n) xs)

numbered-at : (n : ℕ) (xs : List Clause) (k : ℕ) (d : Clause) → k < length xs → get_or (numbered n xs) k (0, d) ≡ (n + k, get_or xs k d)
numbered-at n [] k d l = absurd (omega (arith, l))
numbered-at n (x ∷ xs) zero d l = ap (λ m. (m, x)) (omega arith)
numbered-at n (x ∷ xs) (suc k) d l = numbered-at (suc n) xs k d (omega (arith, l)) ∙ ap (λ m. (m, get_or xs k d)) (omega arith)

pub proper-within : (xs : List Clause) (i : ℕ) → 1 ≤ i → i < length xs → i - 1 < length (proper xs)
proper-within [] i a l = absurd (omega (arith, l))
proper-within (x ∷ xs) i a l = let n = length-numbered 1 xs in omega (arith, a, l, n)

pub proper-past : (xs : List Clause) (i : ℕ) → 1 ≤ i → length xs ≤ i → length (proper xs) ≤ i - 1
proper-past [] i a l = omega (arith, a)
proper-past (x ∷ xs) i a l = let n = length-numbered 1 xs in omega (arith, a, l, n)

pub proper-at : (xs : List Clause) (i : ℕ) (d : Clause) → 1 ≤ i → i < length xs → get_or (proper xs) (i - 1) (0, d) ≡ (i, get_or xs i d)
proper-at [] i d a l = absurd (omega (arith, l))
proper-at (x ∷ xs) zero d a l = absurd (omega (arith, a))
proper-at (x ∷ xs) (suc i) d a l =
    let same : suc i - 1 ≡ i = omega arith in
    ap (λ k. get_or (numbered 1 xs) k (0, d)) same ∙ (numbered-at 1 xs i d (omega (arith, l)) ∙ ap (λ m. (m, get_or xs i d)) (omega arith))

pub one-further : (i : ℕ) → 1 ≤ i → i - 1 + 1 ≡ i + 1 - 1
one-further i a = omega (arith, a)
