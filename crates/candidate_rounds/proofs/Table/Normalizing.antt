-- The goal that a projection is a new variable: it may be asked where the goal of the projection's trait may, with the variable beside those
-- of that goal's key.
use Rattle.std.proofs.Common.{◌≡◌, ℕ, zero, suc, Bool, true, false, not, ◌&&◌, ◌||◌, List, [], ◌∷◌, ◌++◌, map, length, max, slice_get, Option, Some, None, Result, Ok, Err, IfOk, IfSome, refl, sym, ◌∙◌, ap, subst, arith}
use Rattle.std.proofs.lemmas.Bool.{and_from}
use Rattle.ir_trees.specs.declared.ir.heads.Head.{Head}
use Rattle.ir_trees.specs.declared.ir.heads.Head.TheVariants as H
use Rattle.ir_trees.specs.declared.ir.heads.ConstHead.TheVariants as C
use Rattle.ir_trees.specs.declared.ir.heads.VariableSort.TheVariants.{General}
use Rattle.ir_trees.specs.declared.ir.kinds.RegionKind.TheVariants as R
use Rattle.ir_trees.specs.Syntax.Binders.{escapes}
use Rattle.ir_trees.specs.Syntax.Trees.{Tree, TypeKind, holds, is_param, join, tree_holds}
use Rattle.ir_trees.specs.Unification.Substitutions.{alone}
use Rattle.candidate_eval.specs.declared.eval.mode.TypingMode.{TypingMode}
use Rattle.candidate_eval.specs.declared.eval.mode.TypingMode.TheVariants.{PostAnalysis}
use Rattle.candidate_eval.specs.declared.eval.variable.CanonicalVar.{CanonicalVar}
use Rattle.candidate_eval.specs.declared.eval.variable.VariableKind.{VariableKind}
use Rattle.candidate_eval.specs.declared.eval.variable.VariableKind.TheVariants.{Term, Region}
use Rattle.candidate_eval.specs.Judges.Soundness.{AreTreesOf, is_strange}
use Rattle.candidate_eval.specs.Judges.States.{has_kind, variable}
use Rattle.candidate_eval.proofs.Marks.Holds.{holds_imply}
use Rattle.candidate_assembly.specs.Goals.Standing.{GoalIsValid}
use Rattle.ir_trees.specs.declared.ir.kinds.ParamEnv.{ParamEnv}
use Rattle.ir_trees.proofs.Growth.Kept.{grows-trans}
use Rattle.candidate_eval.specs.declared.eval.refusal.NoSolutionOrStop.{NoSolutionOrStop}
use Rattle.candidate_eval.specs.declared.eval.refusal.NoSolutionOrStop.TheVariants as N
use Rattle.candidate_eval.specs.declared.eval.response.Candidate.{Candidate as OfNumbers}
use Rattle.candidate_eval.specs.declared.eval.response.CanonicalResponse.{CanonicalResponse}
use Rattle.candidate_eval.specs.Interface.Evaluators.{Keeps, KeepsBut}
use Rattle.candidate_eval.specs.Outcomes.Responses.{Candidate}
use Rattle.candidate_eval.specs.Outcomes.ResponseTrees.{IsResponse}
use Rattle.candidate_assembly.specs.Answers.MergedKinds.{response_in}
use Rattle.candidate_assembly.specs.declared.assembly.merging.TraitGoalProvenVia.TheVariants as W
use Rattle.candidate_assembly.specs.declared.assembly.opaques.AssembleCandidatesFrom.{AssembleCandidatesFrom}
use Rattle.candidate_assembly.specs.Answers.MergedKinds.AfterAssumptions.{are_merged, is_ambiguous, is_rigid}
use Rattle.candidate_assembly.specs.Answers.MergedKinds.AfterList.{assembled, unassembled}
use Rattle.candidate_assembly.specs.Answers.Shown.{AfterAssumptions, AfterList, Answers, IsAnsweredBy}
use Rattle.candidate_assembly.specs.Rules.AliasBounds.{ChainEnd}
use Rattle.candidate_assembly.specs.Rules.AliasFaults.{PutsOffOnce, none, once}
use Rattle.projection_goals.specs.declared.kind.NormalizesTo.{NormalizesTo}
use Rattle.projection_goals.specs.Closures.{always, answers_rigid}
use Rattle.projection_goals.specs.Equations.{rigid_response}
use Rattle.projection_goals.specs.Normalizing.{normalizes_goal, normalizes_kind, normalizes_rules, trait_named}
use Rattle.candidate_rounds.specs.Evaluators.Interface.{fixed}
use Rattle.candidate_rounds.specs.Evaluators.Known.{Evaluator, probes, table_of}
use Rattle.candidate_rounds.specs.Table.Running.{StaysBesideTable, judged_by, with_table}
use Rattle.candidate_rounds.specs.Table.Goals.{IsKeyOf, IsTraitGoal, Via, goal_seen, key_seen}
use Rattle.ir_trees.specs.declared.ir.kinds.AliasTy.{AliasTy}
use Rattle.ir_trees.specs.declared.ir.kinds.TraitPredicate.{TraitPredicate}
use Rattle.ir_trees.specs.declared.ir.kinds.Ty.{Ty}
use Rattle.ir_trees.specs.Declarations.Context.{Context, Grows, world}
use Rattle.ir_trees.specs.Declarations.Worlds.{TraitSort, alias_kinds, joined, parameters}
use Rattle.ir_trees.specs.Syntax.Nodes.{Extends}
use Rattle.ir_trees.specs.Syntax.Words.{IsTy, args_forest, ty_tree}
use Rattle.candidate_eval.specs.Derivations.ImplRules.{TraitGoal}
use Rattle.candidate_assembly.specs.Goals.KindShown.{IsGoal, trait_kind}
use Rattle.candidate_assembly.specs.Goals.TraitGoals.{trait_goal}
use Rattle.projection_goals.proofs.MayBeAsked.{goal-of-parts}
use Rattle.candidate_rounds.specs.declared.rounds.goals.GoalKey.{GoalKey}
use Rattle.candidate_rounds.proofs.Table.Tabled.{goal-sees, trait-goal-stays}
use Rattle.projection_goals.specs.Rows.{escaping-join}
use Rattle.projection_goals.proofs.Changing.{held-either}
use Rattle.rounds_judge.specs.Table.GoalTable.{may_be_asked}
use Rattle.rounds_judge.specs.Table.Keys.{Key, every, fresh_state, goal_trees, greatest_named, greatest_of, newest_of, root_of, start_of}
use Rattle.candidate_rounds.specs.Table.Normalizing.{IsProjection, TakesAsTrait, rounds_shown, term_goal, term_variable, with_term}
use Rattle.rounds_judge.specs.Table.Verdicts.{Verdict, Maybe, Refused, Yes}
use Rattle.candidate_rounds.specs.Table.Normalized.{as_answer, proved_via}
use Rattle.candidate_rounds.proofs.Table.Starting.{goal-trees-stand, is-asked, trees-stand}

-- The newest universe is the same with the variable.

greatest-after : (vs : List CanonicalVar) (v : CanonicalVar) (u : ℕ) → v.universe ≡ max u (greatest_of vs) → max u (greatest_of (vs ++ v ∷ [])) ≡ max u (greatest_of vs)
greatest-after [] v u e = omega (arith, e)
greatest-after (w ∷ vs) v u e = omega (arith, greatest-after vs v (max u w.universe) (omega (arith, e)))

pub newest-with-term : (k : Key) → newest_of (with_term k) ≡ newest_of k
newest-with-term k = greatest-after k.variables (term_variable k) (greatest_named (goal_trees k.goal)) refl

-- What isn't strange stays so.

kind-stays : (k : VariableKind) (n : ℕ) (vs ws : List CanonicalVar) → has_kind k (slice_get (map root_of vs) n) ≡ true → has_kind k (slice_get (map root_of (vs ++ ws)) n) ≡ true
kind-stays k n [] ws e = absurd cc
kind-stays k zero (v ∷ vs) ws e = e
kind-stays k (suc n) (v ∷ vs) ws e = kind-stays k n vs ws e

known-stays : (k : VariableKind) (n : ℕ) (vs ws : List CanonicalVar) → not (has_kind k (slice_get (map root_of vs) n)) ≡ false → not (has_kind k (slice_get (map root_of (vs ++ ws)) n)) ≡ false
known-stays k n vs ws e = ap not (kind-stays k n vs ws (not-false (has_kind k (slice_get (map root_of vs) n)) e))
  where
    not-false : (b : Bool) → not b ≡ false → b ≡ true
    not-false true e = refl
    not-false false e = absurd cc

strange-less : (m : TypingMode) (u : ℕ) (vs ws : List CanonicalVar) (h : Head) → is_strange (fresh_state m u vs) every h ≡ false → is_strange (fresh_state m u (vs ++ ws)) every h ≡ false
strange-less m u vs ws (H.Infer v) e = known-stays (Term v.sort) v.number vs ws e
strange-less m u vs ws (H.Region (R.Var n)) e = known-stays Region n vs ws e
strange-less m u vs ws (H.Placeholder p) e = e
strange-less m u vs ws (H.Const (C.Placeholder p)) e = e
strange-less m u vs ws (H.Region (R.Placeholder p)) e = e
strange-less m u vs ws _ e = refl

pub asked-with-term : (k : Key) → may_be_asked k ≡ true → may_be_asked (with_term k) ≡ true
asked-with-term k e =
    let a = is-asked k e in
    let ts = goal_trees k.goal in
    let less = holds_imply (is_strange (fresh_state PostAnalysis (newest_of k) k.variables) every) (is_strange (fresh_state PostAnalysis (newest_of k) (with_term k).variables) every)
    (strange-less PostAnalysis (newest_of k) k.variables (term_variable k ∷ [])) ts a.known in
    let known = ap (λ u. holds (is_strange (fresh_state PostAnalysis u (with_term k).variables) every) ts) (newest-with-term k) ∙ less in
    and_from (not (holds (is_strange (fresh_state PostAnalysis (newest_of (with_term k)) (with_term k).variables) every) ts)) (not (escapes 0 ts) && not (holds is_param ts)) (ap not known)
    (and_from (not (escapes 0 ts)) (not (holds is_param ts)) (ap not a.is_closed) (ap not a.no_parameter))

-- The variable itself.

last-there : (k : VariableKind) (vs : List CanonicalVar) (v : CanonicalVar) → has_kind k (Some (root_of v)) ≡ true → has_kind k (slice_get (map root_of (vs ++ v ∷ [])) (length vs)) ≡ true
last-there k [] v e = e
last-there k (w ∷ vs) v e = last-there k vs v e

term-known : (m : TypingMode) (k : Key) → tree_holds (is_strange (start_of m (with_term k)) every) (variable (Term General) (length k.variables)) ≡ false
term-known m k = ap (λ b. not b || false) (last-there (Term General) k.variables (term_variable k) refl)

-- The goal stands where it is computed.
-- The projection's arguments and the variable are trees of the state at which the goal is computed.
pub term-trees : (m : TypingMode) (k : Key) → may_be_asked k ≡ true → AreTreesOf (start_of m (with_term k)) every (join k.goal.reference.arguments (alone (variable (Term General) (length k.variables))))
term-trees m k e =
    let there = goal-trees-stand m (with_term k) (asked-with-term k e) in
    let args = k.goal.reference.arguments in
    let t = variable (Term General) (length k.variables) in
    record {
      known = held-either (is_strange (start_of m (with_term k)) every) args t false false (sym there.arguments.known) (sym (term-known m k));
      is_closed = escaping-join 0 args (alone t) there.arguments.is_closed refl;
    }

pub term-stands : (m : TypingMode) (k : Key) (item : ℕ) → may_be_asked k ≡ true → GoalIsValid normalizes_rules (start_of m (with_term k)) (term_goal item k)
term-stands m k item e =
    let there = goal-trees-stand m (with_term k) (asked-with-term k e) in
    let args = k.goal.reference.arguments in
    let t = variable (Term General) (length k.variables) in
    trees-stand m (with_term k) k.goal.env (join args (alone t)) there.env (term-trees m k e) there.env_free (held-either is_param args t false false (sym there.arguments_free) refl)

-- What a projection takes stays as a context grows.
pub takes-grown : (c d : Context) (a : AliasTy) → Grows c d → TakesAsTrait c a → TakesAsTrait d a
takes-grown c d a g h = record {
  projection = h.projection;
  takes = subst (λ (y : Context). alias_kinds (world y) a.kind a.id.0 ≡ joined (Some (TypeKind ∷ [])) (parameters (world y) TraitSort (trait_named y a.id.0))) (sym g.same) h.takes;
}

-- What computing the goal keeps: of faults it puts off at most the one of the end of a chain of aliases.

abbrev pub Keeping : Evaluator → Evaluator → Type 0
Keeping = KeepsBut (PutsOffOnce (λ end. Unit {0})) fixed probes (λ e. e.context)

off-once : {F : ChainEnd → Type 0} {xs ys : List (List ℕ)} → PutsOffOnce F xs ys → PutsOffOnce (λ end. Unit {0}) xs ys
off-once (none e) = none e
off-once (once so e) = once tt e

pub keeping-of : {F : ChainEnd → Type 0} (x y : Evaluator) → KeepsBut (PutsOffOnce F) fixed probes (λ e. e.context) x y → Keeping x y
keeping-of x y k = record { fixed_same = k.fixed_same; probes_same = k.probes_same; grows = k.grows; faults = off-once k.faults }

keeping-quiet : (x y : Evaluator) → Keeps fixed probes (λ e. e.context) x y → Keeping x y
keeping-quiet x y k = record { fixed_same = k.fixed_same; probes_same = k.probes_same; grows = k.grows; faults = none k.faults }

keeping-then : (x y z : Evaluator) → Keeping x y → Keeps fixed probes (λ e. e.context) y z → Keeping x z
keeping-then x y z k l = record {
  fixed_same = l.fixed_same ∙ k.fixed_same;
  probes_same = l.probes_same ∙ k.probes_same;
  grows = grows-trans x.context y.context z.context k.grows l.grows;
  faults = subst (λ bs. PutsOffOnce (λ end. Unit {0}) x.context.delayed_bugs bs) (sym l.faults) k.faults;
}

module _ (env : ParamEnv) (goal : NormalizesTo) where
  abbrev Response : Type 0
  Response = Result CanonicalResponse NoSolutionOrStop

  abbrev pub After : Evaluator → List Candidate → Response → Evaluator → Type 0
  After = AfterAssumptions rounds_shown (always None) tt (answers_rigid rounds_shown env goal) tt

  assumptions-keep : (x : Evaluator) (xs : List Candidate) (r : Response) (y : Evaluator) → After x xs r y → Keeps fixed probes (λ e. e.context) x y
  assumptions-keep x xs r y (is_rigid empty m) =
      let a : Answers rounds_shown m.shown.now m.left.now (λ V. rigid_response V env goal) r = m.met in
      subst (λ (p : Evaluator × Evaluator). Keeps fixed probes (λ e. e.context) p.0 p.1) (λ i. (m.shows i, m.leaves i)) a.kept
  assumptions-keep x xs r y (is_ambiguous some m) = absurd (let p : None ≡ Some r = sym m.met.0 in cc)
  assumptions-keep x xs r y (are_merged {x = z} some m joined) =
      let same : z ≡ x = sym m.leaves ∙ m.met.1 ∙ m.shows in
      subst (λ w. Keeps fixed probes (λ e. e.context) w y) same joined.kept

  listed-keep : (x : Evaluator) (from : AssembleCandidatesFrom) (R : Evaluator → List Candidate → Response → Evaluator → Type 0) (r : Response) (y : Evaluator)
      → ((z : Evaluator) (xs : List Candidate) (q : Response) → R z xs q y → Keeps fixed probes (λ e. e.context) z y) → AfterList rounds_shown normalizes_kind x env goal from R r y → Keeping x y
  listed-keep x from R r y f (unassembled p) = keeping-of x y p.kept
  listed-keep x from R r y f (assembled {xs = xs} {x = z} kept p after) = keeping-then x z y (keeping-of x z kept) (f z xs r after)

  pub normalizing-keeps : (x : Evaluator) (way : Option Via) (r : Response) (y : Evaluator) → IsAnsweredBy rounds_shown (always None) tt (answers_rigid rounds_shown env goal) tt normalizes_kind x env goal way r y → Keeping x y
  normalizing-keeps x None r y p = keeping-quiet x y p.considers.kept
  normalizing-keeps x (Some W.Misc) r y p = listed-keep x _ _ r y (λ z xs q a. a.kept) p
  normalizing-keeps x (Some W.ParamEnv) r y p = listed-keep x _ _ r y (λ z xs q a. assumptions-keep z xs q y a) p
  normalizing-keeps x (Some W.AliasBound) r y p = listed-keep x _ _ r y (λ z xs q a. assumptions-keep z xs q y a) p

-- The goal by its numbers.

module _ (ts us : List Tree) (x : Extends ts us) (k kn : GoalKey) (n : ℕ) (i : IsKeyOf ts k) (newest : n ≡ newest_of (key_seen ts k)) (same : kn.goal ≡ k.goal)
    (more : kn.variables.items ≡ k.variables.items ++ record { kind = Term General; universe = n } ∷ []) where
  pub seen-with-term : key_seen us kn ≡ with_term (key_seen ts k)
  seen-with-term =
      let goal = ap (goal_seen us) same ∙ goal-sees ts us x k.goal i.goal.goal in
      let vs = more ∙ ap (λ u. k.variables.items ++ record { kind = Term General; universe = u } ∷ []) newest in
      λ j. record { goal = goal j; variables = vs j }

  pub key-with-term : IsKeyOf us kn
  key-with-term = record {
    goal = subst (IsTraitGoal us) (sym same) (trait-goal-stays ts us x k.goal i.goal);
    asked = ap may_be_asked seen-with-term ∙ asked-with-term (key_seen ts k) i.asked;
  }

module _ (c : Context) (env : ParamEnv) (key : Key) (a : AliasTy) (t : Ty) (p : TraitPredicate) (valid : IsGoal trait_kind c env p) (says : trait_goal c.trees env p ≡ key.goal) (takes : TakesAsTrait c a)
    (of : key.goal.reference.trait ≡ trait_named c a.id.0) (sort : IsTy c.trees t) (is : ty_tree c.trees t ≡ variable (Term General) (length key.variables)) where
  abbrev made : NormalizesTo
  made = record { alias = record { kind = a.kind; id = a.id; args = p.trait_ref.args }; term = t }

  named : p.trait_ref.def_id.0 ≡ trait_named c a.id.0
  named = ap (λ (g : TraitGoal). g.reference.trait) says ∙ of

  pub term-goal-is : IsGoal normalizes_kind c env made
  term-goal-is =
      let args = args_forest c.trees p.trait_ref.args in
      goal-of-parts c env made valid.env valid.arguments sort
      (record {
        projection = takes.projection;
        of = p.trait_ref.def_id;
        named = named;
        alias_fits = takes.takes ∙ (ap (λ n. joined (Some (TypeKind ∷ [])) (parameters (world c) TraitSort n)) (sym named) ∙ valid.fit);
        reference_fits = valid.fit;
      })
      (record {
        no_parameter = held-either is_param args (ty_tree c.trees t) false false (sym valid.no_parameter) (sym (ap (tree_holds is_param) is));
        closed = escaping-join 0 args (alone (ty_tree c.trees t)) valid.is_closed (ap (λ y. escapes 0 (alone y)) is);
      })

  pub term-goal-says : normalizes_goal c.trees env made ≡ term_goal a.id.0 key
  term-goal-says = λ i. record { env = (says i).env; item = a.id.0; arguments = (says i).reference.arguments; term = alone (is i) }

-- What is answered is of the context that is left.

module _ (env : ParamEnv) (goal : NormalizesTo) where
  abbrev Fits : Evaluator → Result CanonicalResponse NoSolutionOrStop → Type 0
  Fits y r = IfOk r (λ p. IsResponse y.context.trees p)

  assumptions-fit : (x : Evaluator) (xs : List Candidate) (r : Result CanonicalResponse NoSolutionOrStop) (y : Evaluator) → After env goal x xs r y → Fits y r
  assumptions-fit x xs r y (is_rigid empty m) =
      let a : Answers rounds_shown m.shown.now m.left.now (λ V. rigid_response V env goal) r = m.met in
      subst (λ (p : Evaluator). Fits p r) m.leaves a.fits
  assumptions-fit x xs r y (is_ambiguous some m) = absurd (let p : None ≡ Some r = sym m.met.0 in cc)
  assumptions-fit x xs r y (are_merged some m joined) = joined.fits

  listed-fit : (x : Evaluator) (from : AssembleCandidatesFrom) (R : Evaluator → List Candidate → Result CanonicalResponse NoSolutionOrStop → Evaluator → Type 0) (r : Result CanonicalResponse NoSolutionOrStop) (y : Evaluator)
      → ((z : Evaluator) (xs : List Candidate) (q : Result CanonicalResponse NoSolutionOrStop) → R z xs q y → Fits y q) → AfterList rounds_shown normalizes_kind x env goal from R r y → Fits y r
  listed-fit x from R _ y f (unassembled p) = tt
  listed-fit x from R r y f (assembled {xs = xs} {x = z} kept p after) = f z xs r after

  unproved-fits : (y : Evaluator) (r : Result CanonicalResponse NoSolutionOrStop) (a : Result OfNumbers NoSolutionOrStop) → r ≡ response_in a → IfOk a (λ c. IsResponse y.context.trees c.result) → Fits y r
  unproved-fits y r (Ok c) e h = subst (Fits y) (sym e) h
  unproved-fits y r (Err s) e h = subst (Fits y) (sym e) tt

  pub normalizing-fits : (x : Evaluator) (way : Option Via) (r : Result CanonicalResponse NoSolutionOrStop) (y : Evaluator)
      → IsAnsweredBy rounds_shown (always None) tt (answers_rigid rounds_shown env goal) tt normalizes_kind x env goal way r y → IfOk r (λ p. IsResponse y.context.trees p)
  normalizing-fits x None r y p = unproved-fits y r p.answer p.response p.considers.told.fits
  normalizing-fits x (Some W.Misc) r y p = listed-fit x _ _ r y (λ z xs q a. a.fits) p
  normalizing-fits x (Some W.ParamEnv) r y p = listed-fit x _ _ r y (λ z xs q a. assumptions-fit z xs q y a) p
  normalizing-fits x (Some W.AliasBound) r y p = listed-fit x _ _ r y (λ z xs q a. assumptions-fit z xs q y a) p

pub answer-fits : (ts : List Tree) (r : Result CanonicalResponse NoSolutionOrStop) → IfOk r (λ p. IsResponse ts p) → IfOk (as_answer r) (λ o. IfSome o (IsResponse ts))
answer-fits ts (Ok p) h = h
answer-fits ts (Err N.NoSolution) h = tt
answer-fits ts (Err (N.Stop s)) h = tt

-- By what the evaluator answers that stays beside its table.
pub fixed-there : (r m : Evaluator) → StaysBesideTable r m → table_of m ≡ table_of r → judged_by m ≡ with_table (fixed r) (table_of r)
fixed-there r m h e = (λ i. with_table (h.fixed_same i) (e i))

-- How a goal was proved that may hold.
pub refused-via : (v : Verdict Via) → None ≡ proved_via v → v ≡ Refused
refused-via (Yes r way) e = absurd cc
refused-via (Maybe r way) e = absurd cc
refused-via Refused e = refl

-- A projection of the context takes what its trait does.
pub takes-of : (c : Context) (e : ParamEnv) (a : AliasTy) → IsProjection c e a → TakesAsTrait c a
takes-of c e a h = record { projection = h.projection; takes = h.fits ∙ sym h.goal.fit }
