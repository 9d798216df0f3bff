-- The rules of the language for associated types: what is judged of them, and that they are the same where a context has grown.
use Rattle.std.proofs.Common.{◌≡◌, ◌∙◌, Bool, true, false, Option, Some, None, List, [], ◌∷◌, refl, sym, ap, if◌then◌else◌}
use Rattle.ir_trees.specs.declared.ir.kinds.GoalSource.TheVariants.{ImplWhereBound}
use Rattle.ir_trees.specs.declared.ir.kinds.ParamEnv.{ParamEnv}
use Rattle.ir_trees.specs.declared.ir.kinds.PredicatePolarity.TheVariants.{Positive}
use Rattle.ir_trees.specs.declared.ir.kinds.TraitId.{TraitId}
use Rattle.ir_trees.specs.declared.ir.unify.RightSide.TheVariants as R
use Rattle.ir_trees.specs.Declarations.Context.{Context, Grows}
use Rattle.ir_trees.specs.Declarations.Worlds.{Reference}
use Rattle.ir_trees.specs.Instantiation.Folding.{substituted}
use Rattle.ir_trees.specs.Instantiation.Opening.{opened_tree}
use Rattle.ir_trees.specs.Syntax.Trees.{Forest, Kind, Tree, holds, is_param, none, tree_holds}
use Rattle.ir_trees.specs.Syntax.Words.{env_forest}
use Rattle.ir_trees.specs.Unification.Substitutions.{alone}
use Rattle.ir_trees.specs.Unification.Unify.{may_unify}
use Rattle.ir_trees.proofs.Instantiation.Folding.{substituted-nothing}
use Rattle.candidate_eval.specs.declared.eval.certainty.Certainty.TheVariants.{Yes}
use Rattle.candidate_eval.specs.Builtins.Callable.{Callable, CalledWith, Calls, Refused as NotCalled, Undetermined}
use Rattle.candidate_eval.specs.Derivations.Characterization.{binder_kinds}
use Rattle.candidate_eval.specs.Derivations.ImplRules.{TraitGoal}
use Rattle.candidate_eval.specs.Derivations.Judging.{Place, Refused, asked, at_state, comes_to, concluded, continued, goal_at, judged, run, start}
use Rattle.candidate_eval.specs.Derivations.Naming.{named_tree}
use Rattle.candidate_eval.specs.Derivations.Rules.{Step, ask, equate, nested, quick}
use Rattle.candidate_eval.specs.Interface.Evaluators.{accepted}
use Rattle.candidate_eval.specs.Judges.States.{Env, Judge, State, added, fresh_variables, next, with_fresh_variables}
use Rattle.candidate_eval.specs.Outcomes.Certainties.{AMBIGUOUS}
use Rattle.candidate_eval.proofs.Derivations.Naming.{binder-kinds, named-fresh-tree}
use Rattle.candidate_assembly.specs.Answers.Telling.{asking_rule, standing}
use Rattle.candidate_assembly.specs.Calls.Calling.{matched_quickly, nested_goal}
use Rattle.candidate_assembly.specs.Goals.KindShown.{IsGoal}
use Rattle.candidate_assembly.specs.Rules.BuiltinRules.{call_arguments, meets, misc, pair_of, self_of}
use Rattle.candidate_assembly.proofs.Calls.Stepping.{comes-refused, comes-so-far, equation-reaches, equation-refuses, run-first}
use Rattle.candidate_assembly.proofs.Rules.CallSteps.{clause-put, goal-put, quick-by, row-put}
use Rattle.projection_goals.specs.declared.kind.NormalizesTo.{NormalizesTo}
use Rattle.projection_goals.specs.declared.named.NamedType.{NamedType}
use Rattle.projection_goals.specs.declared.named.NamedType.TheVariants as N
use Rattle.projection_goals.specs.LanguageTypes.{equal_rule, known_rule, named_type, output_rule, output_steps}
use Rattle.projection_goals.specs.Normalizing.{goal_of_trait, normalizes_goal, normalizes_kind}
use Rattle.projection_goals.specs.NormalizingLaws.{normalizes_goal_stays}

-- A goal's trait and term, where a context has grown.

pub trait-same : (old new : Context) (env : ParamEnv) (p : NormalizesTo) → Grows old new → IsGoal normalizes_kind old env p
    → goal_of_trait new (normalizes_goal new.trees env p) ≡ goal_of_trait old (normalizes_goal old.trees env p)
trait-same old new env p g h =
    let same = normalizes_goal_stays old new env p g h in
    ap (goal_of_trait new) same.seen ∙ ap (λ (q : Reference). record { env = env_forest old.trees env; reference = q; polarity = Positive }) same.reference

pub term-same : (old new : Context) (env : ParamEnv) (p : NormalizesTo) → Grows old new → IsGoal normalizes_kind old env p
    → (normalizes_goal new.trees env p).term ≡ (normalizes_goal old.trees env p).term
term-same old new env p g h = ap (λ x. x.term) (normalizes_goal_stays old new env p g h).seen

pub says-same : {X : Type 0} (says : TraitGoal → Forest → X) (old new : Context) (env : ParamEnv) (p : NormalizesTo) → Grows old new → IsGoal normalizes_kind old env p
    → says (goal_of_trait new (normalizes_goal new.trees env p)) (normalizes_goal new.trees env p).term ≡ says (goal_of_trait old (normalizes_goal old.trees env p)) (normalizes_goal old.trees env p).term
says-same says old new env p g h =
    ap (λ x. says x (normalizes_goal new.trees env p).term) (trait-same old new env p g h) ∙ ap (says (goal_of_trait old (normalizes_goal old.trees env p))) (term-same old new env p g h)

-- A named type holds no parameter.
named-put : (ls : Forest) (k : NamedType) → substituted ls 0 (alone (named_type k)) ≡ alone (named_type k)
named-put ls N.Error = refl
named-put ls N.Unit = refl
named-put ls N.Usize = refl
named-put ls N.U8 = refl

-- The rule by which the term is such a type.
module _ (J : Judge) (S : State) (g : TraitGoal) (term : Forest) (k : NamedType) (bare : holds is_param term ≡ false) where
  abbrev equal_step : Step
  equal_step = equate term (alone (named_type k))

  pub equal-judged : (U : State) → accepted J S g.env term (alone (named_type k)) ≡ Some U → judged J S (equal_rule g term true k) ≡ asked J U misc Yes
  equal-judged U h =
      let q = at_state (start S) U in
      comes-so-far J g.env (start S) q q equal_step [] (ask misc Yes)
      (equation-reaches J g.env (start S) term (alone (named_type k)) term (alone (named_type k)) U (substituted-nothing none 0 term bare) (named-put none k) h) refl

  pub equal-refused : accepted J S g.env term (alone (named_type k)) ≡ None → judged J S (equal_rule g term true k) ≡ Refused
  equal-refused h =
      comes-refused J g.env (start S) equal_step [] (ask misc Yes)
      (equation-refuses J g.env (start S) term (alone (named_type k)) term (alone (named_type k)) (substituted-nothing none 0 term bare) (named-put none k) h)

pub refused-unheld : (J : Judge) (S : State) (g : TraitGoal) (term : Forest) (b : Bool) (k : NamedType) → b ≡ false → judged J S (equal_rule g term b k) ≡ Refused
refused-unheld J S g term b k e = ap (λ x. judged J S (equal_rule g term x k)) e

-- The rule for what is called so.
module _ (J : Judge) (S : State) (g : TraitGoal) (term : Forest) (c : Callable) (sized : TraitId)
    (free : holds is_param g.reference.arguments ≡ false) (bare : holds is_param term ≡ false) (inputs : tree_holds is_param c.inputs ≡ false) (output : tree_holds is_param c.output ≡ false) where
  abbrev ks : List Kind
  ks = binder_kinds c.variables

  abbrev ls : Forest
  ls = fresh_variables S ks

  abbrev fresh_state : State
  fresh_state = with_fresh_variables S ks

  abbrev goal_row : Forest
  goal_row = g.reference.arguments

  abbrev called_row : Forest
  called_row = pair_of (self_of g) (opened_tree ls c.inputs)

  abbrev out : Tree
  out = opened_tree ls c.output

  abbrev out_named : Tree
  out_named = named_tree 0 ks c.output

  abbrev here : Place
  here = standing fresh_state ls

  abbrev quick_step : Step
  quick_step = quick goal_row (call_arguments g ks c.inputs)

  abbrev equate_step : Step
  equate_step = equate goal_row (call_arguments g ks c.inputs)

  abbrev term_step : Step
  term_step = equate term (alone out_named)

  abbrev clauses : List Step
  clauses = nested (meets sized out_named ∷ [])

  out-put : substituted ls 0 (alone out_named) ≡ alone out
  out-put = ap alone (named-fresh-tree S none ks c.output (binder-kinds c.variables) output)

  rows-run : (U : State) → may_unify R.Plain goal_row called_row ≡ true → accepted J fresh_state g.env goal_row called_row ≡ Some U
      → run J g.env here (quick_step ∷ equate_step ∷ term_step ∷ clauses) ≡ run J g.env (standing U ls) (term_step ∷ clauses)
  rows-run U m h =
      run-first J g.env here here quick_step (equate_step ∷ term_step ∷ clauses) (quick-by J S g c sized free inputs output true m)
      ∙ run-first J g.env here (standing U ls) equate_step (term_step ∷ clauses)
      (equation-reaches J g.env here goal_row (call_arguments g ks c.inputs) goal_row called_row U (goal-put J S g c sized free inputs output) (row-put J S g c sized free inputs output) h)

  all-run : (U V : State) (b : Bool) → may_unify R.Plain goal_row called_row ≡ b → (if b then accepted J fresh_state g.env goal_row called_row else None) ≡ Some U → accepted J U g.env term (alone out) ≡ Some V
      → comes_to J g.env (start S) (output_steps g term c sized) (ask misc Yes) ≡ asked J (added V (nested_goal g.env (meets sized out))) misc Yes
  all-run U V false m h k = absurd cc
  all-run U V true m h k =
      let q = standing U ls in
      let last = standing (added V (goal_at g.env (standing V ls) ImplWhereBound (meets sized out_named))) ls in
      ap (λ z. continued J (ask misc Yes) z (λ x. concluded J g.env (ask misc Yes) x.state))
      (rows-run U m h
      ∙ run-first J g.env q (standing V ls) term_step clauses (equation-reaches J g.env q term (alone out_named) term (alone out) V (substituted-nothing ls 0 term bare) out-put k))
      ∙ ap (λ t. asked J (added V (nested_goal g.env t)) misc Yes) (clause-put J S g c sized free inputs output)

  rows-refused : (b : Bool) → may_unify R.Plain goal_row called_row ≡ b → (if b then accepted J fresh_state g.env goal_row called_row else None) ≡ None
      → comes_to J g.env (start S) (output_steps g term c sized) (ask misc Yes) ≡ Refused
  rows-refused false m h = comes-refused J g.env here quick_step (equate_step ∷ term_step ∷ clauses) (ask misc Yes) (quick-by J S g c sized free inputs output false m)
  rows-refused true m h =
      ap (λ z. continued J (ask misc Yes) z (λ q. concluded J g.env (ask misc Yes) q.state))
      (run-first J g.env here here quick_step (equate_step ∷ term_step ∷ clauses) (quick-by J S g c sized free inputs output true m))
      ∙ comes-refused J g.env here equate_step (term_step ∷ clauses) (ask misc Yes)
      (equation-refuses J g.env here goal_row (call_arguments g ks c.inputs) goal_row called_row (goal-put J S g c sized free inputs output) (row-put J S g c sized free inputs output) h)

  term-refused : (U : State) (b : Bool) → may_unify R.Plain goal_row called_row ≡ b → (if b then accepted J fresh_state g.env goal_row called_row else None) ≡ Some U → accepted J U g.env term (alone out) ≡ None
      → comes_to J g.env (start S) (output_steps g term c sized) (ask misc Yes) ≡ Refused
  term-refused U false m h k = absurd cc
  term-refused U true m h k =
      let q = standing U ls in
      ap (λ z. continued J (ask misc Yes) z (λ x. concluded J g.env (ask misc Yes) x.state)) (rows-run U m h)
      ∙ comes-refused J g.env q term_step clauses (ask misc Yes) (equation-refuses J g.env q term (alone out_named) term (alone out) (substituted-nothing ls 0 term bare) out-put k)

  -- both equations, one after the other
  abbrev after_both : Option State
  after_both = next (matched_quickly J fresh_state g.env goal_row called_row) (λ T. accepted J T g.env term (alone out))

  pub output-judged : (V : State) → after_both ≡ Some V → judged J S (output_rule g term (CalledWith c) (Some sized)) ≡ asked J (added V (nested_goal g.env (meets sized out))) misc Yes
  output-judged V h = of (matched_quickly J fresh_state g.env goal_row called_row) refl h
    where
      of : (o : Option State) → matched_quickly J fresh_state g.env goal_row called_row ≡ o → next o (λ T. accepted J T g.env term (alone out)) ≡ Some V
          → comes_to J g.env (start S) (output_steps g term c sized) (ask misc Yes) ≡ asked J (added V (nested_goal g.env (meets sized out))) misc Yes
      of None e k = absurd cc
      of (Some U) e k = all-run U V (may_unify R.Plain goal_row called_row) refl e k

  pub output-refused : after_both ≡ None → judged J S (output_rule g term (CalledWith c) (Some sized)) ≡ Refused
  output-refused h = of (matched_quickly J fresh_state g.env goal_row called_row) refl h
    where
      of : (o : Option State) → matched_quickly J fresh_state g.env goal_row called_row ≡ o → next o (λ T. accepted J T g.env term (alone out)) ≡ None
          → comes_to J g.env (start S) (output_steps g term c sized) (ask misc Yes) ≡ Refused
      of None e k = rows-refused (may_unify R.Plain goal_row called_row) refl e
      of (Some U) e k = term-refused U (may_unify R.Plain goal_row called_row) refl e k

-- Where the rule refuses what can't be called, and where no trait is `Sized`.

pub refused-uncalled : (J : Judge) (S : State) (g : TraitGoal) (term : Forest) (x : Calls) (o : Option TraitId) → x ≡ NotCalled → judged J S (output_rule g term x o) ≡ Refused
refused-uncalled J S g term x o e = ap (λ y. judged J S (output_rule g term y o)) e

pub refused-unsized : (J : Judge) (S : State) (g : TraitGoal) (term : Forest) (x : Calls) (c : Callable) (o : Option TraitId) → x ≡ CalledWith c → o ≡ None → judged J S (output_rule g term x o) ≡ Refused
refused-unsized J S g term x c o e n = ap (λ y. judged J S (output_rule g term y o)) e ∙ ap (λ y. judged J S (output_rule g term (CalledWith c) y)) n

-- The rule where that isn't known yet, and where the self type is called so.

pub rule-undetermined : (g : TraitGoal) (term : Forest) (e : Env) (x : Calls) (o : Option TraitId) → e ≡ g.env → x ≡ Undetermined → asking_rule e true AMBIGUOUS ≡ output_rule g term x o
rule-undetermined g term e x o q is = ap (λ y. asking_rule y true AMBIGUOUS) q ∙ ap (λ y. output_rule g term y o) (sym is)

pub rule-called : (g : TraitGoal) (term : Forest) (x : Calls) (c d : Callable) (o : Option TraitId) (i : TraitId) → d ≡ c → x ≡ CalledWith c → o ≡ Some i
    → output_rule g term (CalledWith d) (Some i) ≡ output_rule g term x o
rule-called g term x c d o i q is s =
    ap (λ y. output_rule g term (CalledWith y) (Some i)) q ∙ (ap (λ y. output_rule g term y (Some i)) (sym is) ∙ ap (output_rule g term x) (sym s))

-- an ambiguous rule in the place of one that knows no type
pub rule-unknown : (g : TraitGoal) (term : Forest) (e : Env) (o : Option NamedType) → e ≡ g.env → o ≡ None → asking_rule e true AMBIGUOUS ≡ known_rule g term o
rule-unknown g term e o q is = ap (λ y. asking_rule y true AMBIGUOUS) q ∙ ap (known_rule g term) (sym is)
