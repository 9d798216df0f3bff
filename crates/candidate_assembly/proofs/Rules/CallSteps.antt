-- Steps of the rule for what can be called.
use Rattle.std.proofs.Common.{◌≡◌, ℕ, [], ◌∷◌, List, Bool, true, false, Option, Some, None, refl, sym, ap, ◌∙◌}
use Rattle.std.specs.Prelude.{if◌then◌else◌}
use Rattle.ir_trees.specs.declared.ir.kinds.Args.{Args}
use Rattle.ir_trees.specs.declared.ir.kinds.GenericArg.TheVariants as G
use Rattle.ir_trees.specs.declared.ir.kinds.GoalSource.TheVariants.{ImplWhereBound}
use Rattle.ir_trees.specs.declared.ir.kinds.PredicatePolarity.TheVariants.{Positive}
use Rattle.ir_trees.specs.declared.ir.kinds.TraitId.{TraitId}
use Rattle.ir_trees.specs.declared.ir.kinds.Ty.{Ty}
use Rattle.ir_trees.specs.declared.ir.unify.RightSide.TheVariants as R
use Rattle.ir_trees.specs.Syntax.Binders.{escapes}
use Rattle.ir_trees.specs.Declarations.Context.{Context, Grows}
use Rattle.ir_trees.specs.Instantiation.Folding.{substituted, substituted_tree}
use Rattle.ir_trees.specs.Instantiation.Opening.{opened_tree}
use Rattle.ir_trees.specs.Unification.Substitutions.{alone}
use Rattle.ir_trees.specs.Syntax.Trees.{Kind, TypeKind, Forest, none, tree, Tree, holds, is_param, tree_holds}
use Rattle.ir_trees.specs.Unification.Unify.{may_unify}
use Rattle.ir_trees.specs.Syntax.Words.{IsArgs, IsTy, args_forest, list_forest, ty_tree}
use Rattle.ir_trees.proofs.Growth.Kept.{args-kept, ty-kept}
use Rattle.ir_trees.proofs.Instantiation.Folding.{substituted-nothing}
use Rattle.ir_trees.proofs.Syntax.Rows.{row-single}
use Rattle.candidate_eval.specs.declared.eval.certainty.Certainty.TheVariants.{Yes}
use Rattle.candidate_eval.specs.declared.eval.variable.VariableKind.{VariableKind}
use Rattle.candidate_eval.specs.declared.eval.variable.VariableKind.TheVariants.{Term, Region}
use Rattle.candidate_eval.specs.Builtins.Callable.{Callable, CalledWith}
use Rattle.candidate_eval.specs.Derivations.Characterization.{binder_kinds}
use Rattle.candidate_eval.specs.Interface.Evaluators.{accepted}
use Rattle.candidate_eval.specs.Derivations.ImplRules.{TraitGoal}
use Rattle.candidate_eval.specs.Derivations.Judging.{Place, Refused, asked, at_if, comes_to, concluded, continued, goal_at, judged, start, step}
use Rattle.candidate_eval.specs.Derivations.Naming.{named_tree}
use Rattle.candidate_eval.specs.Derivations.Rules.{Step, ask, equate, nested, quick}
use Rattle.candidate_eval.specs.Judges.States.{Env, Judge, State, added, fresh_variables, variable, variable_kind, with_fresh, with_fresh_variables}
use Rattle.candidate_eval.proofs.Marks.Closed.{closed, closed-parts}
use Rattle.candidate_eval.proofs.Derivations.Naming.{binder-kinds, named-fresh-tree}
use Rattle.candidate_assembly.specs.Rules.BuiltinRules.{call_arguments, call_rule, call_steps, holds_of, meets, misc, positive, self_of, pair_of}
use Rattle.candidate_assembly.specs.Calls.Calling.{matched_quickly, nested_goal}
use Rattle.candidate_assembly.specs.Answers.Telling.{standing}
use Rattle.candidate_assembly.proofs.Rules.Flat.{nothing-put}
use Rattle.candidate_assembly.proofs.Rules.MeetingClauses.{one-type}
use Rattle.candidate_assembly.proofs.Rules.PartClauses.{put-anywhere}
use Rattle.candidate_assembly.proofs.Rules.PartsTold.{first-parameterless}
use Rattle.candidate_assembly.proofs.Calls.Stepping.{comes-refused, comes-so-far, equation-reaches, equation-refuses, run-first}

pub two-types : (ts : List Tree) (t u : Ty) → IsTy ts t → IsTy ts u → list_forest ts (G.Ty t ∷ (G.Ty u ∷ [])) ≡ pair_of (ty_tree ts t) (ty_tree ts u)
two-types ts t u k l = row-single ts t.0 TypeKind (list_forest ts (G.Ty u ∷ [])) refl refl k ∙ ap (tree (ty_tree ts t).head (ty_tree ts t).children) (one-type ts u l)

-- What stood under a binder and was opened later is what it was before, opened.
pub opened-since : (old mid made : Context) (t r : Ty) (values : Args) (trees : Forest) → Grows old mid → IsTy old.trees t → args_forest mid.trees values ≡ trees
    → ty_tree made.trees r ≡ opened_tree (args_forest mid.trees values) (ty_tree mid.trees t) → ty_tree made.trees r ≡ opened_tree trees (ty_tree old.trees t)
opened-since old mid made t r values trees g i v m = m ∙ (ap (λ x. opened_tree x (ty_tree mid.trees t)) v ∙ ap (opened_tree trees) (ty-kept old mid t g i).1)

pub opened-still : (made last : Context) (r : Ty) (u : Tree) → Grows made last → IsTy made.trees r → ty_tree made.trees r ≡ u → IsTy last.trees r × (ty_tree last.trees r ≡ u)
opened-still made last r u g i e = let k = ty-kept made last r g i in (k.0, k.1 ∙ e)

-- Rows that are equated where they pass quick rejection.

pub quickly-accepted : (J : Judge) (S : State) (e : Env) (a b : Forest) (o : Option State) → may_unify R.Plain a b ≡ true → accepted J S e a b ≡ o → matched_quickly J S e a b ≡ o
quickly-accepted J S e a b o m h = ap (λ q. if q then accepted J S e a b else None) m ∙ h

pub quickly-rejected : (J : Judge) (S : State) (e : Env) (a b : Forest) → may_unify R.Plain a b ≡ false → matched_quickly J S e a b ≡ None
quickly-rejected J S e a b m = ap (λ q. if q then accepted J S e a b else None) m

-- the row that was made of two types, where the first is this tree
pub row-made : (old mid : Context) (t u : Ty) (made : Args) (first : Tree) → IsTy old.trees t → IsTy old.trees u → ty_tree old.trees t ≡ first → args_forest mid.trees made ≡ list_forest old.trees (G.Ty t ∷ (G.Ty u ∷ []))
    → args_forest mid.trees made ≡ pair_of first (ty_tree old.trees u)
row-made old mid t u made first k l is m = m ∙ (two-types old.trees t u k l ∙ ap (λ x. pair_of x (ty_tree old.trees u)) is)

-- what was tested of two rows is said of their trees as they were before
pub row-test : (old mid : Context) (a b : Args) (x : Forest) → Grows old mid → IsArgs old.trees a → args_forest mid.trees b ≡ x → (r said : Bool) → r ≡ said → r ≡ may_unify R.Plain (args_forest mid.trees a) (args_forest mid.trees b)
    → may_unify R.Plain (args_forest old.trees a) x ≡ said
row-test old mid a b x g i list r said is tested =
    ap (λ y. may_unify R.Plain y x) (sym (args-kept old mid a g i).1) ∙ (ap (may_unify R.Plain (args_forest mid.trees a)) (sym list) ∙ (sym tested ∙ is))

-- Fresh variables let nothing escape.
pub variables-closed : (S : State) (ks : List Kind) → escapes 0 (fresh_variables S ks) ≡ false
variables-closed S [] = refl
variables-closed S (k ∷ ks) =
    let t = variable (variable_kind k) _ in
    let p = closed-parts 0 t.head t.children none (one (variable_kind k) _) in
    closed 0 t.head t.children (fresh_variables (with_fresh S (variable_kind k)) ks) p.here p.under (variables-closed (with_fresh S (variable_kind k)) ks)
  where
    one : (w : VariableKind) (n : ℕ) → escapes 0 (alone (variable w n)) ≡ false
    one (Term s) n = refl
    one Region n = refl

-- The steps, for what is called so.
module _ (J : Judge) (S : State) (g : TraitGoal) (c : Callable) (sized : TraitId)
    (free : holds is_param g.reference.arguments ≡ false) (inputs : tree_holds is_param c.inputs ≡ false) (output : tree_holds is_param c.output ≡ false) where
  abbrev ks : List Kind
  ks = binder_kinds c.variables

  abbrev ls : Forest
  ls = fresh_variables S ks

  abbrev fresh_state : State
  fresh_state = with_fresh_variables S ks

  abbrev goal_row : Forest
  goal_row = g.reference.arguments

  abbrev called_row : Forest
  called_row = pair_of (self_of g) (opened_tree ls c.inputs)

  -- what the rule's rows and its clause are with the variables put in

  pub goal-put : substituted ls 0 goal_row ≡ goal_row
  goal-put = substituted-nothing ls 0 goal_row free

  pub row-put : substituted ls 0 (call_arguments g ks c.inputs) ≡ called_row
  row-put =
      ap (λ u. pair_of u (substituted_tree ls (named_tree 0 ks c.inputs))) (nothing-put ls (self_of g) (first-parameterless goal_row free))
      ∙ ap (pair_of (self_of g)) (named-fresh-tree S none ks c.inputs (binder-kinds c.variables) inputs)

  row-put-under : substituted ls 1 (call_arguments g ks c.inputs) ≡ called_row
  row-put-under = put-anywhere ls (variables-closed S ks) 1 0 (call_arguments g ks c.inputs) ∙ row-put

  pub clause-put : substituted_tree ls (meets sized (named_tree 0 ks c.output)) ≡ meets sized (opened_tree ls c.output)
  clause-put =
      ap (holds_of sized Positive none) (put-anywhere ls (variables-closed S ks) 1 0 (alone (named_tree 0 ks c.output))
      ∙ ap alone (named-fresh-tree S none ks c.output (binder-kinds c.variables) output))

  -- the steps after the variables

  abbrev here : Place
  here = standing fresh_state ls

  abbrev quick_step : Step
  quick_step = quick goal_row (call_arguments g ks c.inputs)

  abbrev equate_step : Step
  equate_step = equate goal_row (call_arguments g ks c.inputs)

  abbrev clauses : List Step
  clauses = nested (meets sized (named_tree 0 ks c.output) ∷ [])

  pub quick-by : (b : Bool) → may_unify R.Plain goal_row called_row ≡ b → step J g.env here quick_step ≡ at_if here b
  quick-by b m =
      ap (λ u. at_if here (may_unify R.Plain u (substituted ls 1 (call_arguments g ks c.inputs)))) goal-put
      ∙ (ap (λ u. at_if here (may_unify R.Plain goal_row u)) row-put-under ∙ ap (at_if here) m)

  all-run : (U : State) (b : Bool) → may_unify R.Plain goal_row called_row ≡ b → (if b then accepted J fresh_state g.env goal_row called_row else None) ≡ Some U
      → comes_to J g.env (start S) (call_steps g c sized) (ask misc Yes) ≡ asked J (added U (nested_goal g.env (meets sized (opened_tree ls c.output)))) misc Yes
  all-run U false m h = absurd cc
  all-run U true m h =
      let q = standing U ls in
      let clause = meets sized (named_tree 0 ks c.output) in
      let r = standing (added U (goal_at g.env q ImplWhereBound clause)) ls in
      comes-so-far J g.env here here r quick_step (equate_step ∷ clauses) (ask misc Yes) (quick-by true m)
      (run-first J g.env here q equate_step clauses (equation-reaches J g.env here goal_row (call_arguments g ks c.inputs) goal_row called_row U goal-put row-put h))
      ∙ ap (λ t. asked J (added U (nested_goal g.env t)) misc Yes) clause-put

  all-refused : (b : Bool) → may_unify R.Plain goal_row called_row ≡ b → (if b then accepted J fresh_state g.env goal_row called_row else None) ≡ None
      → comes_to J g.env (start S) (call_steps g c sized) (ask misc Yes) ≡ Refused
  all-refused false m h = comes-refused J g.env here quick_step (equate_step ∷ clauses) (ask misc Yes) (quick-by false m)
  all-refused true m h =
      ap (λ z. continued J (ask misc Yes) z (λ q. concluded J g.env (ask misc Yes) q.state)) (run-first J g.env here here quick_step (equate_step ∷ clauses) (quick-by true m))
      ∙ comes-refused J g.env here equate_step clauses (ask misc Yes) (equation-refuses J g.env here goal_row (call_arguments g ks c.inputs) goal_row called_row goal-put row-put h)

  -- what is judged of the rule

  pub call-judged : (U : State) → positive g ≡ true → matched_quickly J fresh_state g.env goal_row called_row ≡ Some U
      → judged J S (call_rule g (CalledWith c) (Some sized)) ≡ asked J (added U (nested_goal g.env (meets sized (opened_tree ls c.output)))) misc Yes
  call-judged U p h =
      ap (λ b. if b then comes_to J g.env (start S) (call_steps g c sized) (ask misc Yes) else Refused) p ∙ all-run U (may_unify R.Plain goal_row called_row) refl h

  pub call-refused : positive g ≡ true → matched_quickly J fresh_state g.env goal_row called_row ≡ None → judged J S (call_rule g (CalledWith c) (Some sized)) ≡ Refused
  call-refused p h =
      ap (λ b. if b then comes_to J g.env (start S) (call_steps g c sized) (ask misc Yes) else Refused) p ∙ all-refused (may_unify R.Plain goal_row called_row) refl h
