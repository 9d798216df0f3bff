-- All bounds of the target, met in their order.
use Rattle.std.proofs.Common.{◌≡◌, ◌≤◌, ◌<◌, ◌+◌, ℕ, Bool, true, false, Option, Some, None, Result, Ok, Err, List, [], ◌∷◌, ◌++◌, arith, append_assoc, drop, get_or, length, map, refl, sym, ap, subst, ◌∙◌}
use Rattle.std.specs.Prelude.{if◌then◌else◌, IfSome, option_map}
use Rattle.std.specs.List.{All}
use Rattle.std.proofs.lemmas.List.{drop_all, drop_more}
use Rattle.std.proofs.lemmas.List.Elements.{All-drop, All-head, All-map, All-tail}
use Rattle.ir_trees.specs.declared.ir.heads.Head.{Head}
use Rattle.ir_trees.specs.declared.ir.heads.Head.TheVariants as H
use Rattle.ir_trees.specs.declared.ir.heads.PartHead.TheVariants as P
use Rattle.ir_trees.specs.declared.ir.heads.PredHead.TheVariants as PH
use Rattle.ir_trees.specs.declared.ir.kinds.Clause.{Clause}
use Rattle.ir_trees.specs.declared.ir.kinds.ParamEnv.{ParamEnv}
use Rattle.ir_trees.specs.declared.ir.kinds.Pred.{Pred}
use Rattle.ir_trees.specs.Declarations.Context.{Context, Grows}
use Rattle.ir_trees.specs.Hierarchy.Elaboration.{number_listed}
use Rattle.ir_trees.specs.Unification.Substitutions.{alone}
use Rattle.ir_trees.specs.Syntax.Trees.{none, Tree, count}
use Rattle.ir_trees.specs.Syntax.Words.{IsClause, IsParamEnv, IsPred, clause_tree, env_forest, pred_tree}
use Rattle.ir_folds.proofs.Instantiation.Joining.{clause-kept}
use Rattle.candidate_eval.specs.declared.eval.refusal.NoSolutionOrStop.{NoSolutionOrStop}
use Rattle.candidate_eval.specs.declared.eval.refusal.NoSolutionOrStop.TheVariants as N
use Rattle.candidate_eval.specs.Outcomes.Certainties.{AMBIGUOUS}
use Rattle.candidate_eval.specs.Derivations.Judging.{Judged, Refused, asked, comes_to, source_of, start}
use Rattle.candidate_eval.specs.Derivations.Mentions.{EndingBelow, IsBelow, MatchesBelow, StepBelow, StepsBelow, is_from}
use Rattle.candidate_eval.specs.Derivations.Naming.{named}
use Rattle.candidate_eval.specs.Derivations.Rules.{Ending, Match, Step, add, ask, characterise, enter, equate, fresh, pick, quick, settle, still_general, unknowable}
use Rattle.candidate_eval.specs.Judges.States.{Env, Judge, State}
use Rattle.candidate_eval.proofs.Marks.Marking.{after-unmarked, below-more}
use Rattle.candidate_eval.proofs.Derivations.Naming.{named-row-below}
use Rattle.candidate_eval.proofs.Dynamic.Objects.{env-kept}
use Rattle.candidate_eval.specs.Dynamic.ObjectRules.{IsRuleTree}
use Rattle.candidate_assembly.specs.declared.trait_goals.bounds_met.Meeting.{Meeting}
use Rattle.candidate_assembly.specs.declared.trait_goals.bounds_met.Meeting.TheVariants as M
use Rattle.candidate_assembly.specs.Rules.DynBounds.{same_number, trait_of_bound}
use Rattle.candidate_assembly.specs.Answers.Telling.{standing}
use Rattle.candidate_assembly.specs.Rules.Unsizing.{Met, autos, bound_met, bounds_met, kinds_bound, met_by, principal_met, principal_steps, unmet}
use Rattle.candidate_assembly.specs.Laws.UnsizingLaws.{bound_met_stays}
use Rattle.candidate_assembly.specs.Calls.Upcasting.{EndsThere, GoesOn, IsRuleClause, IsRulePred, Meets, MeetsAll, MetUntil, StandsBefore, one_met, row_under}
use Rattle.candidate_assembly.proofs.Rules.MatchesBelow.{steps-joined}
use Rattle.candidate_assembly.proofs.Upcasting.UpcastMatches.{under-below}
use Rattle.candidate_assembly.proofs.Upcasting.UpcastMeetings.{matches-low}
use Rattle.candidate_assembly.proofs.Upcasting.UpcastMet.{principal-is, rule-are}
use Rattle.candidate_assembly.proofs.Upcasting.UpcastRows.{pred-kept}

-- What mentions the first n variables alone mentions the first m alone, where m is no less.

module _ (n m : ℕ) (l : n ≤ m) where
  matches-more : (ms : List Match) → MatchesBelow n ms → MatchesBelow m ms
  matches-more [] b = tt
  matches-more (x ∷ ms) b = (below-more n m x.left l b.0, below-more n m x.right l b.1, below-more n m (alone x.term) l b.2, matches-more ms b.3)

  step-more : (s : Step) → StepBelow n s → StepBelow m s
  step-more (fresh ks) b = tt
  step-more (enter ks) b = tt
  step-more (equate x y) b = (below-more n m x l b.0, below-more n m y l b.1)
  step-more (quick x y) b = (below-more n m x l b.0, below-more n m y l b.1)
  step-more (add s c) b = below-more n m (alone c) l b
  step-more settle b = tt
  step-more (pick k ms) b = matches-more ms b
  step-more (still_general t) b = below-more n m (alone t) l b
  step-more (unknowable r) b = below-more n m r.arguments l b

  pub steps-more : (ss : List Step) → StepsBelow n ss → StepsBelow m ss
  steps-more [] b = tt
  steps-more (s ∷ ss) b = (step-more s b.0, steps-more ss b.1)

  pub ending-more : (end : Ending) → EndingBelow n end → EndingBelow m end
  ending-more (ask s c) b = tt
  ending-more (characterise c) b = below-more n m (alone c) l b

  pub rule-tree-more : (t : Tree) → IsRuleTree n t → IsRuleTree m t
  rule-tree-more t h = record { no_parameter = h.no_parameter; below = below-more n m (alone t) l h.below }

-- The steps by which a bound is met mention what it does, and the source's bounds and principal.

module _ (m : ℕ) where
  principal-low : (k : ℕ) (o : Option Tree) (target : Tree) → IfSome o (IsRuleTree m) → IsBelow m (alone target) → StepsBelow m (principal_met k o target).steps
  principal-low k None target s t = (tt, tt)
  principal-low k (Some c) target s t = at (same_number (trait_of_bound c.head) (trait_of_bound target.head))
    where
      at : (b : Bool) → StepsBelow m (if b then met_by (principal_steps k c target) (k + length (kinds_bound target) + length (kinds_bound c)) else unmet k).steps
      at true =
          let own = after-unmarked (is_from m) (named (k + length (kinds_bound target)) (kinds_bound c) (row_under c).trees) (named-row-below m (k + length (kinds_bound target)) (kinds_bound c) (row_under c).trees (under-below m c s.below)) in
          (tt, (tt, ((own, named-row-below m k (kinds_bound target) (row_under target).trees (under-below m target t)), (tt, tt))))
      at false = (tt, tt)

  module _ (c : Context) (supers sources : List Tree) (principal : Option Tree) (all : All (IsRuleTree m) sources) (p : IfSome principal (IsRuleTree m)) where
    bound-low : (k : ℕ) (b : Tree) (h : Head) → IsRuleTree m b → StepsBelow m (bound_met c supers sources principal k b h).steps
    bound-low k b (H.Part (P.Pred (PH.Trait i))) t = principal-low k principal b p t.below
    bound-low k b (H.Part (P.Pred (PH.Projection i))) t = (matches-low m k i.0 b t.below sources all, tt)
    bound-low k b (H.Part (P.Pred (PH.AutoTrait i))) t = at (number_listed (autos c supers sources) i.0)
      where
        at : (x : Bool) → StepsBelow m (if x then met_by [] k else unmet k).steps
        at true = tt
        at false = (tt, tt)
    bound-low k b _ t = (tt, tt)

    pub bounds-low : (k : ℕ) (bs : List Tree) → All (IsRuleTree m) bs → StepsBelow m (bounds_met c supers sources principal k bs)
    bounds-low k [] a = tt
    bounds-low k (b ∷ bs) a =
        let met = bound_met c supers sources principal k b b.head in
        steps-joined m met.steps (bounds_met c supers sources principal met.next bs) (bound-low k b b.head (All-head (IsRuleTree m) b bs a)) (bounds-low met.next bs (All-tail (IsRuleTree m) b bs a))

-- Bounds are met one after the other, from a state on at which the rule began.
module _ (c : Context) (supers sources : List Tree) (principal : Option Tree) (J : Judge) (e : Env) (S : State) (own : All (IsRuleTree (length S.variables)) sources) (p : IfSome principal (IsRuleTree (length S.variables)))
    (f : Pred → Tree) (xs : List Pred) (all : All (λ x. IsRuleTree (length S.variables) (f x)) xs) where
  abbrev left-from : ℕ → List Pred → List Step
  left-from n ys = bounds_met c supers sources principal n (map f ys)

  abbrev whole : List Step
  whole = left-from 0 xs

  -- none is met yet
  pub none-met-yet : MetUntil c supers sources principal J e S S (map f xs) (map f xs)
  none-met-yet more low = record { locals = none; longer = omega arith; below = refl; comes = λ end b. refl }

  module _ (T : State) (k : ℕ) (d : Pred) (until : MetUntil c supers sources principal J e S T (map f xs) (map f (drop k xs))) where
    abbrev one : Tree
    one = f (get_or xs k d)

    abbrev others : List Pred
    others = drop (k + 1) xs

    -- how the rule stands before one more bound
    module _ (l : k < length xs) (more : List Step) (low : StepsBelow (length S.variables) more) where
      there : StandsBefore J e S T (whole ++ more) (λ n. bounds_met c supers sources principal n (one ∷ map f others) ++ more)
      there = subst (λ (bs : List Tree). StandsBefore J e S T (whole ++ more) (λ n. bounds_met c supers sources principal n bs ++ more)) (ap (map f) (drop_more xs k d l)) (until more low)

      abbrev here : Met
      here = one_met c supers sources principal one (count there.locals)

      after-low : StepsBelow (length T.variables) (left-from here.next others ++ more)
      after-low =
          steps-more (length S.variables) (length T.variables) there.longer (left-from here.next others ++ more)
          (steps-joined (length S.variables) (left-from here.next others) more
          (bounds-low (length S.variables) c supers sources principal own p here.next (map f others) (All-map (IsRuleTree (length S.variables)) f others (All-drop (λ x. IsRuleTree (length S.variables) (f x)) (k + 1) xs all))) low)

      from-here : (end : Ending) → EndingBelow (length S.variables) end → comes_to J e (start S) (whole ++ more) end ≡ comes_to J e (standing T there.locals) (here.steps ++ (left-from here.next others ++ more)) end
      from-here end b = there.comes end b ∙ ap (λ (ss : List Step). comes_to J e (standing T there.locals) ss end) (append_assoc here.steps (left-from here.next others) more)

      on : (end : Ending) → EndingBelow (length S.variables) end → EndingBelow (length T.variables) end
      on end b = ending-more (length S.variables) (length T.variables) there.longer end b

      stands-after : (U : State) → GoesOn J e T U (one_met c supers sources principal one) → StandsBefore J e S U (whole ++ more) (λ n. left-from n others ++ more)
      stands-after U g = record {
        locals = g.locals there.locals;
        longer = let h = there.longer in let m = g.longer in omega (arith, h, m);
        below = g.below there.locals there.below;
        comes = λ end b. from-here end b
            ∙ (g.comes there.locals there.below (left-from here.next others ++ more) end after-low (on end b)
            ∙ ap (λ n. comes_to J e (standing U (g.locals there.locals)) (left-from n others ++ more) end) (sym (g.number there.locals)));
      }

      ends-whole : (ends : Ending → Judged) → EndsThere J e T (λ n. (one_met c supers sources principal one n).steps) ends → (end : Ending) → EndingBelow (length S.variables) end → comes_to J e (start S) (whole ++ more) end ≡ ends end
      ends-whole ends h end b = from-here end b ∙ h there.locals there.below (left-from here.next others ++ more) end after-low (on end b)

    -- one more is met
    pub next-met : (U : State) → k < length xs → GoesOn J e T U (one_met c supers sources principal one) → MetUntil c supers sources principal J e S U (map f xs) (map f others)
    next-met U l g more low = stands-after l more low U g

    -- it is met in several ways
    pub bounds-ambiguous : (U : State) → k < length xs → EndsThere J e T (λ n. (one_met c supers sources principal one n).steps) (λ end. asked J U (source_of end) AMBIGUOUS) → MeetsAll J e S U whole (Ok M.Ambiguously)
    bounds-ambiguous U l h = record { surely = λ n. absurd cc; ambiguously = λ n more low end b. ends-whole l more low (λ end. asked J U (source_of end) AMBIGUOUS) h end b; refused = tt }

    -- it isn't met
    pub bounds-refused : (U : State) (r : Result Meeting NoSolutionOrStop) (x : NoSolutionOrStop) → r ≡ Err x → k < length xs → (x ≡ N.NoSolution → EndsThere J e T (λ n. (one_met c supers sources principal one n).steps) (λ end. Refused))
        → MeetsAll J e S U whole r
    bounds-refused U r x is l h =
        subst (λ (y : Result Meeting NoSolutionOrStop). MeetsAll J e S U whole y) (sym is)
        (record { surely = tt; ambiguously = tt; refused = λ n more low end b. ends-whole l more low (λ end. Refused) (h n) end b })

    -- all are met
    pub bounds-all-met : length xs ≤ k → MeetsAll J e S T whole (Ok M.Surely)
    bounds-all-met l = record {
      surely = λ n more low. subst (λ (ys : List Pred). StandsBefore J e S T (whole ++ more) (λ m. left-from m ys ++ more)) (drop_all k xs l) (until more low);
      ambiguously = λ n. absurd cc;
      refused = tt;
    }

-- What is said of a bound later, where a context has grown.

map-same : {X : Type 0} (h k : X → Tree) (xs : List X) → All (λ x. h x ≡ k x) xs → map h xs ≡ map k xs
map-same h k [] a = refl
map-same h k (x ∷ xs) a = ap (λ t. t ∷ map h xs) (All-head (λ x. h x ≡ k x) x xs a) ∙ ap (λ (ts : List Tree). k x ∷ ts) (map-same h k xs (All-tail (λ x. h x ≡ k x) x xs a))

module _ (old new : Context) (g : Grows old new) where
  pub clauses-same : (xs : List Clause) → All (IsClause old.trees) xs → map (clause_tree new.trees) xs ≡ map (clause_tree old.trees) xs
  clauses-same xs a = map-same (clause_tree new.trees) (clause_tree old.trees) xs (λ k d l. (clause-kept old new (get_or xs k d) g (a k d l)).1)

  pub preds-same : (xs : List Pred) → All (IsPred old.trees) xs → map (pred_tree new.trees) xs ≡ map (pred_tree old.trees) xs
  preds-same xs a = map-same (pred_tree new.trees) (pred_tree old.trees) xs (λ k d l. (pred-kept old new (get_or xs k d) g (a k d l)).1)

  pub principal-same : (o : Option Clause) → IfSome o (IsClause old.trees) → option_map (clause_tree new.trees) o ≡ option_map (clause_tree old.trees) o
  principal-same None a = refl
  principal-same (Some x) a = ap (λ (t : Tree). Some t) (clause-kept old new x g a).1

  pub met-later : (supers : List Clause) (sources : List Pred) (principal : Option Clause) (target : Pred) → All (IsClause old.trees) supers → All (IsPred old.trees) sources → IfSome principal (IsClause old.trees) → IsPred old.trees target
      → one_met new (map (clause_tree new.trees) supers) (map (pred_tree new.trees) sources) (option_map (clause_tree new.trees) principal) (pred_tree new.trees target)
      ≡ one_met old (map (clause_tree old.trees) supers) (map (pred_tree old.trees) sources) (option_map (clause_tree old.trees) principal) (pred_tree old.trees target)
  met-later supers sources principal target a b p t =
      let before = pred_tree old.trees target in
      (λ j n. one_met new (clauses-same supers a j) (preds-same sources b j) (principal-same principal p j) ((pred-kept old new target g t).1 j) n)
      ∙ (λ j n. bound_met_stays old new g (map (clause_tree old.trees) supers) (map (pred_tree old.trees) sources) (option_map (clause_tree old.trees) principal) n before before.head j)

  -- Bounds and clauses of which a rule may speak, where there are no fewer variables.
  module _ (n m : ℕ) (l : n ≤ m) where
    pub rule-pred-later : (x : Pred) → IsRulePred old.trees n x → IsRulePred new.trees m x
    rule-pred-later x h =
        let k = pred-kept old new x g h.0 in
        (k.0, subst (IsRuleTree m) (sym k.1) (rule-tree-more n m l (pred_tree old.trees x) h.1))

    pub rule-preds-later : (xs : List Pred) → All (IsRulePred old.trees n) xs → All (IsRulePred new.trees m) xs
    rule-preds-later xs a = λ k d i. rule-pred-later (get_or xs k d) (a k d i)

    pub rule-clause-later : (x : Clause) → IsRuleClause old.trees n x → IsRuleClause new.trees m x
    rule-clause-later x h =
        let k = clause-kept old new x g h.0 in
        (k.0, subst (IsRuleTree m) (sym k.1) (rule-tree-more n m l (clause_tree old.trees x) h.1))

    pub rule-principal-later : (o : Option Clause) → IfSome o (IsRuleClause old.trees n) → IfSome o (IsRuleClause new.trees m)
    rule-principal-later None h = tt
    rule-principal-later (Some x) h = rule-clause-later x h

  pub clauses-later : (xs : List Clause) → All (IsClause old.trees) xs → All (IsClause new.trees) xs
  clauses-later xs a = λ k d l. (clause-kept old new (get_or xs k d) g (a k d l)).0

  -- What a call says of a bound later.
  pub meets-later : {F : Type 0} (judge : F → Judge) (f h : F) (env : ParamEnv) (n : ℕ) (T U : State) (supers : List Clause) (sources : List Pred) (principal : Option Clause) (target : Pred) (r : Result Meeting NoSolutionOrStop) → h ≡ f
      → IsParamEnv old.trees env → All (IsClause old.trees) supers → All (IsRulePred old.trees n) sources → IfSome principal (IsRuleClause old.trees n) → IsRulePred old.trees n target
      → Meets (judge h) (env_forest new.trees env) T U (one_met new (map (clause_tree new.trees) supers) (map (pred_tree new.trees) sources) (option_map (clause_tree new.trees) principal) (pred_tree new.trees target)) r
      → Meets (judge f) (env_forest old.trees env) T U (one_met old (map (clause_tree old.trees) supers) (map (pred_tree old.trees) sources) (option_map (clause_tree old.trees) principal) (pred_tree old.trees target)) r
  meets-later judge f h env n T U supers sources principal target r same i a b p t m =
      let met = met-later supers sources principal target a (rule-are old.trees n sources b) (principal-is old.trees n principal p) t.0 in
      let before = one_met old (map (clause_tree old.trees) supers) (map (pred_tree old.trees) sources) (option_map (clause_tree old.trees) principal) (pred_tree old.trees target) in
      subst (λ x. Meets (judge x) (env_forest old.trees env) T U before r) same
      (subst (λ (x : Env). Meets (judge h) x T U before r) (env-kept old new env g i).1 (subst (λ (x : ℕ → Met). Meets (judge h) (env_forest new.trees env) T U x r) met m))

-- the environment later
pub env-later : (old new : Context) → Grows old new → (n m : ℕ) → n ≤ m → (env : ParamEnv) → IsParamEnv old.trees env → IsBelow n (env_forest old.trees env) → IsBelow m (env_forest new.trees env)
env-later old new g n m l env i h = subst (IsBelow m) (sym (env-kept old new env g i).1) (below-more n m (env_forest old.trees env) l h)

pub rule-trees-each : (ts : List Tree) (n : ℕ) (xs : List Pred) → All (IsRulePred ts n) xs → All (λ x. IsRuleTree n (pred_tree ts x)) xs
rule-trees-each ts n xs a = λ k d l. (a k d l).1
