-- The goal that is entered in the table: its clause stands under an empty binder.
use Rattle.std.proofs.Common.{◌≡◌, inl, inr, length, List, true, refl, sym, ◌∙◌, ap, subst, [], arith}
use Rattle.ir_trees.specs.declared.ir.heads.ClauseHead.TheVariants as Cl
use Rattle.ir_trees.specs.declared.ir.heads.Head.{Head}
use Rattle.ir_trees.specs.declared.ir.heads.Head.TheVariants as H
use Rattle.ir_trees.specs.declared.ir.heads.PartHead.TheVariants as P
use Rattle.ir_trees.specs.declared.ir.kinds.Clause.{Clause}
use Rattle.ir_trees.specs.declared.ir.kinds.Goal.{Goal}
use Rattle.ir_trees.specs.declared.ir.kinds.ParamEnv.{ParamEnv}
use Rattle.ir_trees.specs.declared.ir.kinds.TraitPredicate.{TraitPredicate}
use Rattle.ir_trees.specs.declared.ir.kinds.Vars.{Vars}
use Rattle.ir_trees.specs.declared.ir.stop.Stop.{Stop}
use Rattle.ir_trees.specs.Declarations.Context.{Context, Grows}
use Rattle.ir_trees.specs.Instantiation.Folding.{few_numbers, no_memory}
use Rattle.ir_trees.specs.Hierarchy.Supers.{after_first}
use Rattle.ir_trees.specs.Syntax.Trees.{Forest, Tree, height, none, tree}
use Rattle.ir_trees.specs.Syntax.Words.{IsArgs, IsClause, IsMkListStop, IsMkStop, IsParamEnv, IsVars, args_forest, binder_tree, clause_kind_tree, clause_tree, env_forest, vars_tree}
use Rattle.ir_trees.proofs.Growth.Kept.{args-kept, grows-trans}
use Rattle.candidate_eval.specs.Derivations.ImplRules.{TraitGoal}
use Rattle.candidate_eval.specs.Dynamic.ObjectRequirements.{trait_fact, trait_said}
use Rattle.candidate_eval.specs.Judges.States.{Env, State, is_some}
use Rattle.candidate_assembly.specs.Rules.BuiltinRules.{holds_of}
use Rattle.candidate_assembly.specs.Goals.TraitGoals.{trait_goal}
use Rattle.candidate_assembly.proofs.Goals.TraitClauses.{fact-is}
use Rattle.candidate_rounds.specs.Table.Goals.{IsTraitGoal, SaysTrait, goal_by, goal_said, goal_seen}
use Rattle.candidate_rounds.specs.Evaluators.Stopping.{IsGoalKeyStop, IsKeyStop, IsTreeStop, clause_saying, of_key_then}
use Rattle.candidate_rounds.proofs.Table.Keying.{env-seen}
use Rattle.candidate_rounds.proofs.Snapshots.Knowing.{kind-stays, tree-stays}
use Rattle.candidate_rounds.proofs.Stops.SettlingStops.{type-unmade}

-- The clause that is made is the one that says the goal.
module _ (old mid : Context) (v : Vars) (e : ParamEnv) (p : TraitPredicate) (g : Grows old mid) (args : IsArgs old.trees p.trait_ref.args) (vars : IsVars mid.trees v) (empty : vars_tree mid.trees v ≡ binder_tree []) where
  saying : clause_kind_tree mid.trees (trait_fact v p) ≡ clause_saying (trait_goal old.trees e p)
  saying =
      let there = args-kept old mid p.trait_ref.args g args in
      fact-is mid.trees v p vars there.0
      ∙ (ap (λ (b : Tree). holds_of p.trait_ref.def_id p.polarity b.children (args_forest mid.trees p.trait_ref.args)) empty
      ∙ ap (holds_of p.trait_ref.def_id p.polarity none) there.1)

  -- it wasn't made
  pub saying-unmade : (new : Context) (s : Stop) → new ≡ mid → IsMkStop mid.trees (height (clause_kind_tree mid.trees (trait_fact v p))) s → IsTreeStop new.trees (clause_saying (trait_goal old.trees e p)) s
  saying-unmade new s same k = type-unmade mid new (clause_saying (trait_goal old.trees e p)) s same (subst (λ t. IsMkStop mid.trees (height t) s) saying k)

module _ (old mid new : Context) (v : Vars) (e : ParamEnv) (p : TraitPredicate) (x : Clause) (g : Grows old mid) (h : Grows mid new) (env : IsParamEnv old.trees e) (args : IsArgs old.trees p.trait_ref.args)
    (vars : IsVars mid.trees v) (empty : vars_tree mid.trees v ≡ binder_tree []) where
  said : clause_tree new.trees x ≡ clause_kind_tree mid.trees (trait_fact v p) → clause_tree new.trees x ≡ clause_saying (trait_goal old.trees e p)
  said made = made ∙ saying old mid v e p g args vars empty

  pub goal-made : IsClause new.trees x → clause_tree new.trees x ≡ clause_kind_tree mid.trees (trait_fact v p) → IsTraitGoal new.trees (record { param_env = e; predicate = x })
  goal-made i made = record {
    goal = (kind-stays old.trees new.trees e.0 _ (grows-trans old mid new g h).kept refl env, i);
    says = subst SaysTrait (sym (said made)) (record { is_trait = refl; unbound = refl });
  }

  pub goal-seen : clause_tree new.trees x ≡ clause_kind_tree mid.trees (trait_fact v p) → goal_seen new.trees (record { param_env = e; predicate = x }) ≡ trait_goal old.trees e p
  goal-seen made =
      let t = tree-stays old.trees new.trees e.0 _ (grows-trans old mid new g h).kept refl env in
      let s = said made in
      λ i. goal_said (t i).children (s i)

-- the binder without variables wasn't made
pub binder-unmade : (a b : Context) (t : Tree) (s : Stop) → b ≡ a → IsMkListStop a.trees 1 (height (binder_tree [])) s → IsTreeStop b.trees t s
binder-unmade a b t s e (inl z) = subst (IsTreeStop b.trees t) (sym z) no_memory
binder-unmade a b t s e (inr (z, inl few)) = let same = ap (λ (c : Context). length c.trees) e in subst (IsTreeStop b.trees t) (sym z) (few_numbers (omega (arith, few, same)))
binder-unmade a b t s e (inr (z, inr tall)) = absurd (omega (arith, tall))

-- A clause of a trait is the one that says its goal.

says-by : (e : Env) (h : Head) (below : Forest) → is_some (trait_said h) ≡ true → below ≡ tree (H.Part P.Vars) none (after_first below) → record { head = h; children = below } ≡ clause_saying (goal_by e h (after_first below))
says-by e (H.Part (P.Clause (Cl.Trait i p))) below t u = ap (λ (b : Forest). record { head = H.Part (P.Clause (Cl.Trait i p)); children = b }) u
says-by e h below t u = cc

pub clause-says : (e : Env) (c : Tree) → SaysTrait c → c ≡ clause_saying (goal_said e c)
clause-says e c s = says-by e c.head c.children s.is_trait s.unbound

-- the key of the goal wasn't made
pub key-unmade : (ts us : List Tree) (S T : State) (g : Goal Clause) (h : TraitGoal) (s : Stop) → IsTraitGoal us g → goal_seen us g ≡ h → T ≡ S
    → IsKeyStop ts T (env_forest us g.param_env) (clause_tree us g.predicate) s → IsGoalKeyStop ts S h s
key-unmade ts us S T g h s i is same k =
    let env : env_forest us g.param_env ≡ h.env = sym (env-seen us g) ∙ ap (λ (x : TraitGoal). x.env) is in
    let clause = clause-says (env_forest us g.param_env) (clause_tree us g.predicate) i.says ∙ ap clause_saying is in
    of_key_then (subst (λ (x : State × Env × Tree). IsKeyStop ts x.0 x.1 x.2 s) (λ j. (same j, env j, clause j)) k)
