-- What is read of an impl for a projection, and the steps of its rule.
use Rattle.std.proofs.Common.{◌≡◌, ◌∙◌, Bool, true, false, refl, sym, ap, List, [], ◌∷◌, ◌++◌, map, Option, Some, None}
use Rattle.std.specs.Prelude.{IfSome, ◌&&◌, option_map}
use Rattle.ir_trees.specs.declared.decl.contents.ImplId.{ImplId}
use Rattle.ir_trees.specs.declared.ir.kinds.AssocId.{AssocId}
use Rattle.ir_trees.specs.declared.ir.kinds.Clause.{Clause}
use Rattle.ir_trees.specs.declared.ir.kinds.ParamEnv.{ParamEnv}
use Rattle.ir_trees.specs.declared.ir.kinds.Ty.{Ty}
use Rattle.ir_trees.specs.declared.ir.unify.RightSide.TheVariants as R
use Rattle.ir_trees.specs.Declarations.Context.{Context, Grows, parameter_kind}
use Rattle.ir_trees.specs.Declarations.Contents.{Impl}
use Rattle.ir_trees.specs.Declarations.Declaring.{impl_at}
use Rattle.ir_trees.specs.Declarations.Lookups.{maybe, value_of}
use Rattle.ir_trees.specs.Syntax.Trees.{Forest, Tree}
use Rattle.ir_trees.specs.Syntax.Words.{args_forest, clause_tree, env_forest, ty_tree}
use Rattle.ir_trees.specs.Validity.WellFormed.{ImplIsGiven}
use Rattle.ir_trees.specs.Unification.Substitutions.{alone}
use Rattle.ir_trees.specs.Unification.Unify.{may_unify}
use Rattle.candidate_eval.specs.declared.eval.certainty.Certainty.TheVariants.{Yes}
use Rattle.candidate_eval.specs.declared.eval.mode.TypingMode.{TypingMode}
use Rattle.candidate_eval.specs.Derivations.Judging.{Place, Reached, Over, Refused, go_on, run, start}
use Rattle.candidate_eval.specs.Derivations.Rules.{Step, equate, fresh, nested}
use Rattle.candidate_eval.specs.Judges.States.{Env, Judge, State, fresh_variables, with_fresh_variables}
use Rattle.candidate_eval.proofs.Derivations.RuleRuns.{run_append}
use Rattle.candidate_eval.proofs.Dynamic.Objects.{env-kept}
use Rattle.candidate_assembly.specs.Answers.Telling.{standing}
use Rattle.candidate_assembly.specs.Calls.Impls.{impl_kinds}
use Rattle.candidate_assembly.specs.Goals.KindShown.{IsGoal}
use Rattle.candidate_assembly.specs.Goals.Projections.{part_with, serves}
use Rattle.candidate_assembly.specs.Goals.TraitGoals.{no_impl}
use Rattle.candidate_assembly.proofs.Rules.ImplSteps.{impl-same}
use Rattle.projection_goals.specs.declared.impls.Declared.{Declared}
use Rattle.projection_goals.specs.declared.kind.NormalizesTo.{NormalizesTo}
use Rattle.projection_goals.specs.ImplLaws.{part-kept}
use Rattle.projection_goals.specs.Impls.{IsDeclared, declared_steps}
use Rattle.projection_goals.specs.Normalizing.{NormalizesGoal, as_projection, impl_part, normalizes_goal, normalizes_kind, value_in, values}
use Rattle.projection_goals.specs.NormalizingLaws.{normalizes_goal_stays}

-- Where no value is declared.

pub no-value : (ts : List Tree) (item : AssocId) (o : Option Impl) → None ≡ maybe None (value_of item) o → value_in ts item.0 o ≡ None
no-value ts item None e = refl
no-value ts item (Some i) e = ap (option_map (ty_tree ts)) (sym e)

pub no-impl-no-value : (ts : List Tree) (item : AssocId) (o : Option Impl) → None ≡ o → value_in ts item.0 o ≡ None
no-impl-no-value ts item o e = ap (value_in ts item.0) (sym e)

-- the rule doesn't apply then
pub applies-by-value : (c : Context) (m : TypingMode) (g : NormalizesGoal) (n : ImplId) → (impl_part c m g n).applies ≡ true → values c n g.item ≡ None → ⊥
applies-by-value c m g n = at (impl_at c n)
  where
    with-value : (i : Impl) (v : Option Tree) → (part_with c.trees (as_projection g) i v).applies ≡ true → v ≡ None → ⊥
    with-value i None e k = absurd cc
    with-value i (Some t) e k = absurd cc

    at : (o : Option Impl) → (maybe no_impl (λ i. part_with c.trees (as_projection g) i (value_in c.trees g.item o)) o).applies ≡ true → value_in c.trees g.item o ≡ None → ⊥
    at None e k = absurd cc
    at (Some i) e k = with-value i (value_in c.trees g.item (Some i)) e k

-- A rule that applies is certain.
pub part-certain : (c : Context) (m : TypingMode) (g : NormalizesGoal) (n : ImplId) → (impl_part c m g n).certainty ≡ Yes
part-certain c m g n = at (impl_at c n)
  where
    with-value : (i : Impl) (v : Option Tree) → (part_with c.trees (as_projection g) i v).certainty ≡ Yes
    with-value i None = refl
    with-value i (Some t) = refl

    at : (o : Option Impl) → (maybe no_impl (λ i. part_with c.trees (as_projection g) i (value_in c.trees g.item o)) o).certainty ≡ Yes
    at None = refl
    at (Some i) = with-value i (value_in c.trees g.item (Some i))

-- What applies, by tests: of what is no impl nothing does; else what the impl says, its polarity and its header.

pub applies-not : (c : Context) (m : TypingMode) (g : NormalizesGoal) (n : ImplId) → None ≡ impl_at c n → (impl_part c m g n).applies ≡ false
applies-not c m g n e = ap (λ (o : Option Impl). (maybe no_impl (λ i. part_with c.trees (as_projection g) i (value_in c.trees g.item o)) o).applies) (sym e)

abbrev pub is_there : {X : Type 0} → Option X → Bool
is_there None = false
is_there (Some x) = true

pub applies-so : (c : Context) (m : TypingMode) (g : NormalizesGoal) (n : ImplId) (i : Impl) → Some i ≡ impl_at c n
    → (impl_part c m g n).applies ≡ (is_there (value_of (record { 0 = g.item }) i) && (serves i.polarity && may_unify R.Header g.arguments (args_forest c.trees i.trait_ref.args)))
applies-so c m g n i e =
    ap (λ (o : Option Impl). (maybe no_impl (λ j. part_with c.trees (as_projection g) j (value_in c.trees g.item o)) o).applies) (sym e) ∙ with-value (value_of (record { 0 = g.item }) i)
  where
    with-value : (u : Option Ty) → (part_with c.trees (as_projection g) i (option_map (ty_tree c.trees) u)).applies ≡ (is_there u && (serves i.polarity && may_unify R.Header g.arguments (args_forest c.trees i.trait_ref.args)))
    with-value None = refl
    with-value (Some v) = refl

-- Runs of the steps of its rule, after the variables.

module _ (c : Context) (n : ImplId) (p : NormalizesTo) (env : ParamEnv) (m : TypingMode) (args : Forest) (d : Declared) (is : IsDeclared c n (record { 0 = p.alias.id.0 }) args d) where
  abbrev g : NormalizesGoal
  g = normalizes_goal c.trees env p

  steps-of : Option Impl → List Step
  steps-of o = (maybe no_impl (λ i. part_with c.trees (as_projection g) i (value_in c.trees g.item o)) o).steps

  declared-part : (ws : List Clause) → ws ≡ d.wheres.items → (impl_part c m g n).steps ≡ fresh (map parameter_kind is.by.parameters) ∷ declared_steps c.trees p d.header d.value ws
  declared-part ws w =
      ap (λ (o : Option Impl). (maybe no_impl (λ i. part_with c.trees (as_projection g) i (value_in c.trees g.item o)) o).steps) is.is
      ∙ (ap (λ (u : Option Ty). (part_with c.trees (as_projection g) is.by (option_map (ty_tree c.trees) u)).steps) is.value
      ∙ (ap (λ a. fresh (map parameter_kind is.by.parameters) ∷ equate g.arguments (args_forest c.trees a) ∷ equate (alone (ty_tree c.trees d.value)) g.term ∷ nested (map (clause_tree c.trees) is.by.wheres)) (sym is.header)
      ∙ ap (λ (ys : List Clause). fresh (map parameter_kind is.by.parameters) ∷ equate g.arguments (args_forest c.trees d.header) ∷ equate (alone (ty_tree c.trees d.value)) g.term ∷ nested (map (clause_tree c.trees) ys)) (sym (w ∙ is.wheres))))

  pub declared-run : (J : Judge) (e : Env) (S T : State) (ws : List Clause) (r : Reached) → ws ≡ d.wheres.items → T ≡ with_fresh_variables S (impl_kinds c n) → args ≡ fresh_variables S (impl_kinds c n)
      → run J e (standing T args) (declared_steps c.trees p d.header d.value ws) ≡ r → run J e (start S) (impl_part c m g n).steps ≡ r
  declared-run J e S T ws r w t l h =
      let rest = declared_steps c.trees p d.header d.value ws in
      let same = t ∙ ap (λ (o : Option Impl). with_fresh_variables S (map parameter_kind (maybe [] (λ (x : Impl). x.parameters) o))) is.is in
      let those = l ∙ ap (λ (o : Option Impl). fresh_variables S (map parameter_kind (maybe [] (λ (x : Impl). x.parameters) o))) is.is in
      ap (λ (xs : List Step). run J e (start S) xs) (declared-part ws w)
      ∙ (ap (λ U. run J e (standing U (fresh_variables S (map parameter_kind is.by.parameters))) rest) (sym same) ∙ (ap (λ fs. run J e (standing T fs) rest) (sym those) ∙ h))

-- Steps that are refused, and others after them.
pub refused-first : (J : Judge) (e : Env) (p : Place) (xs ys : List Step) → run J e p xs ≡ Over Refused → run J e p (xs ++ ys) ≡ Over Refused
refused-first J e p xs ys h = run_append J e p xs ys ∙ ap (λ z. go_on z (λ x. run J e x ys)) h

-- The rule of an impl stays where the context grows, and so does the goal.
pub part-here : (old new : Context) (env : ParamEnv) (p : NormalizesTo) (m : TypingMode) (n : ImplId) → Grows old new → IsGoal normalizes_kind old env p → IfSome (impl_at old n) (ImplIsGiven old)
    → impl_part new m (normalizes_goal new.trees env p) n ≡ impl_part old m (normalizes_goal old.trees env p) n
part-here old new env p m n grows h given =
    ap (λ (x : NormalizesGoal). impl_part new m x n) (normalizes_goal_stays old new env p grows h).seen ∙ part-kept old new m (normalizes_goal old.trees env p) n grows given

-- A run of its steps, by what is read of the impl later.
pub followed-here : {X : Type 0} (judge : X → Judge) (f h : X) (old new : Context) (env : ParamEnv) (p : NormalizesTo) (n : ImplId) (args : Forest) (d : Declared) → Grows old new → IsGoal normalizes_kind old env p
    → IfSome (impl_at old n) (ImplIsGiven old) → IsDeclared new n (record { 0 = p.alias.id.0 }) args d → (S T : State) (ws : List Clause) (r : Reached) → h ≡ f → ws ≡ d.wheres.items
    → T ≡ with_fresh_variables S (impl_kinds old n) → args ≡ fresh_variables S (impl_kinds old n) → run (judge h) (env_forest new.trees env) (standing T args) (declared_steps new.trees p d.header d.value ws) ≡ r
    → run (judge f) (env_forest old.trees env) (start S) (impl_part old S.mode (normalizes_goal old.trees env p) n).steps ≡ r
followed-here judge f h old new env p n args d grows goal given is S T ws r same w t l run-is =
    let e = env_forest old.trees env in
    let kinds : impl_kinds old n ≡ impl_kinds new n = ap (λ (o : Option Impl). map parameter_kind (maybe [] (λ (i : Impl). i.parameters) o)) (sym (impl-same old new n grows)) in
    ap (λ x. run (judge f) e (start S) x.steps) (sym (part-here old new env p S.mode n grows goal given))
    ∙ declared-run new n p env S.mode args d is (judge f) e S T ws r w (t ∙ ap (with_fresh_variables S) kinds) (l ∙ ap (fresh_variables S) kinds)
    (ap (λ z. run (judge z) e (standing T args) (declared_steps new.trees p d.header d.value ws)) (sym same)
    ∙ (ap (λ z. run (judge h) z (standing T args) (declared_steps new.trees p d.header d.value ws)) (sym (env-kept old new env grows goal.env).1) ∙ run-is))
