-- Each rule of the language and each rule of unsizing is of its goal: it has the goal's environment, and its steps serve.
use Rattle.std.proofs.Common.{◌≡◌, ◌+◌, ℕ, suc, Bool, true, false, Option, Some, None, List, [], ◌∷◌, ◌++◌, map, length, refl, if◌then◌else◌}
use Rattle.std.specs.List.{All, filter}
use Rattle.std.specs.Prelude.{◌&&◌, not}
use Rattle.std.proofs.lemmas.List.Elements.{All-append, All-cons, All-nil}
use Rattle.ir_trees.specs.declared.decl.contents.LangItem.TheVariants as Item
use Rattle.ir_trees.specs.declared.ir.heads.ClauseHead.TheVariants as Cl
use Rattle.ir_trees.specs.declared.ir.heads.Head.{Head}
use Rattle.ir_trees.specs.declared.ir.heads.Head.TheVariants as H
use Rattle.ir_trees.specs.declared.ir.heads.PartHead.TheVariants as P
use Rattle.ir_trees.specs.declared.ir.heads.PredHead.TheVariants as PH
use Rattle.ir_trees.specs.declared.ir.kinds.GoalSource.{GoalSource}
use Rattle.ir_trees.specs.declared.ir.kinds.GoalSource.TheVariants.{ImplWhereBound, Misc}
use Rattle.ir_trees.specs.declared.ir.kinds.TraitId.{TraitId}
use Rattle.ir_trees.specs.Declarations.Context.{Context}
use Rattle.ir_trees.specs.Hierarchy.Elaboration.{number_listed}
use Rattle.ir_trees.specs.Syntax.Trees.{Tree}
use Rattle.ir_trees.specs.Unification.Substitutions.{alone}
use Rattle.candidate_eval.specs.declared.eval.source.BuiltinImplSource.TheVariants as Builtin
use Rattle.candidate_eval.specs.declared.eval.source.BuiltinImplSource.TheVariants.{TraitUpcasting}
use Rattle.candidate_eval.specs.declared.eval.source.CandidateSource.{CandidateSource}
use Rattle.candidate_eval.specs.declared.eval.source.CandidateSource.TheVariants.{BuiltinImpl}
use Rattle.candidate_eval.specs.declared.structural.Column.TheVariants as Co
use Rattle.candidate_eval.specs.Builtins.Callable.{CalledWith, Calls, Undetermined, calls}
use Rattle.candidate_eval.specs.Builtins.Tables.{Asks, Cell, cell, row_of}
use Rattle.candidate_eval.specs.Derivations.Characterization.{binder_kinds}
use Rattle.candidate_eval.specs.Derivations.ImplRules.{TraitGoal}
use Rattle.candidate_eval.specs.Derivations.Naming.{named_tree}
use Rattle.candidate_eval.specs.Derivations.Rules.{Rule, Step, Upcast, add, enter, equate, fresh, nested, nested_misc, pick, quick, refuse, settle}
use Rattle.candidate_eval.specs.Dynamic.ObjectRequirements.{first_tree}
use Rattle.candidate_eval.specs.Dynamic.Replacing.{without_first}
use Rattle.candidate_assembly.specs.Goals.Kinds.{AutoTraitRule, BuiltinRule, CopyCloneRule, DestructRule, DiscriminantKindRule, ErrorRule, FnPtrTraitRule, FnTraitRule, NoDropRule, PointeeRule, SizednessRule, TraitAliasRule, TupleRule}
use Rattle.candidate_assembly.specs.Goals.TraitGoals.{item_trait}
use Rattle.candidate_assembly.specs.Rules.BuiltinRules.{ambiguous_rule, auto_refused, call_arguments, call_rule, copy_rule, for_types, is_numeric_variable, meets, misc, parts_rule, positive, self_of, trait_rule, with_names}
use Rattle.candidate_assembly.specs.Rules.DynBounds.{bound_said, bounds_in, first_listed, principal_in, projects, region_in, same_number, trait_of_bound}
use Rattle.candidate_assembly.specs.Rules.Unsizing.{Met, any_to_dyn, array_to_slice, autos, bound_match, bound_met, bound_row, bounds_met, keeps_principal, kinds_bound, met_by, outlives, principal_met, principal_steps, struct_to_struct, tail_unsizes, trait_row, unmet, unsizing_rules, upcast_rule, upcasts}
use Rattle.candidate_assembly.proofs.Sense.SenseLanguage.{of-needs}
use Rattle.candidate_assembly.proofs.Sense.SenseUnsizing.{of-rows}
use Rattle.derivations.proofs.Steps.{Serves}

-- of a rule: its environment is the goal's, and its steps serve
pub record IsOfGoal (g : TraitGoal) (r : Rule) : Type 0 where
  pub env : r.env ≡ g.env
  pub serves : All Serves r.steps

-- Clauses that nest serve.
pub adds_serve : (s : GoalSource) (xs : List Tree) → All Serves (map (add s) xs)
adds_serve s [] = All-nil Serves
adds_serve s (x ∷ xs) = All-cons Serves (add s x) (map (add s) xs) tt (adds_serve s xs)

pub one_serves : (s : Step) → Serves s → All Serves (s ∷ [])
one_serves s v = All-cons Serves s [] v (All-nil Serves)

module _ (g : TraitGoal) where
  -- The language's.

  cell_of_goal : (applies : Bool) (s : CandidateSource) (x : Cell) → IsOfGoal g (parts_rule g applies s x)
  cell_of_goal applies s (Asks p) =
      let ks = binder_kinds p.variables in
      let cs = for_types g (map (with_names ks) p.types) in
      record { env = refl; serves = All-cons Serves (enter ks) (nested cs) tt (adds_serve ImplWhereBound cs) }
  cell_of_goal applies s _ = record { env = refl; serves = All-nil Serves }

  call_of_goal : (x : Calls) (o : Option TraitId) → IsOfGoal g (call_rule g x o)
  call_of_goal (CalledWith s) (Some sized) =
      let ks = binder_kinds s.variables in
      let args = call_arguments g ks s.inputs in
      let cs = meets sized (named_tree 0 ks s.output) ∷ [] in
      let q = quick g.reference.arguments args in
      let e = equate g.reference.arguments args in
      record { env = refl; serves = All-cons Serves (fresh ks) (q ∷ e ∷ nested cs) tt (All-cons Serves q (e ∷ nested cs) tt (All-cons Serves e (nested cs) tt (adds_serve ImplWhereBound cs))) }
  call_of_goal (CalledWith s) None = record { env = refl; serves = All-nil Serves }
  call_of_goal Undetermined o = record { env = refl; serves = All-nil Serves }
  call_of_goal _ o = record { env = refl; serves = All-nil Serves }

  copy_of_goal : (o : Option TraitId) → IsOfGoal g (copy_rule g o)
  copy_of_goal None = record { env = refl; serves = All-nil Serves }
  copy_of_goal (Some i) = record { env = refl; serves = adds_serve ImplWhereBound (meets i (self_of g) ∷ []) }

  auto_of_goal : (c : Context) (b : Bool) → IsOfGoal g (if b then ambiguous_rule g (positive g) else parts_rule g (positive g && not (auto_refused c g.reference (self_of g).head)) misc (cell Co.Auto (row_of c (self_of g))))
  auto_of_goal c true = record { env = refl; serves = All-nil Serves }
  auto_of_goal c false = cell_of_goal (positive g && not (auto_refused c g.reference (self_of g).head)) misc (cell Co.Auto (row_of c (self_of g)))

  pub language_of_goal : (c : Context) (n : BuiltinRule) → IsOfGoal g (trait_rule n c g)
  language_of_goal c ErrorRule = record { env = refl; serves = All-nil Serves }
  language_of_goal c AutoTraitRule = auto_of_goal c (is_numeric_variable (self_of g).head)
  language_of_goal c TraitAliasRule = record { env = refl; serves = adds_serve Misc _ }
  language_of_goal c (SizednessRule s) = cell_of_goal (positive g) (BuiltinImpl Builtin.Trivial) (cell (Co.Sizedness s) (row_of c (self_of g)))
  language_of_goal c CopyCloneRule = cell_of_goal (positive g) misc (cell Co.CopyClone (row_of c (self_of g)))
  language_of_goal c (FnTraitRule k) = call_of_goal (calls c k (self_of g)) (item_trait c Item.Sized)
  language_of_goal c FnPtrTraitRule = record { env = refl; serves = All-nil Serves }
  language_of_goal c TupleRule = record { env = refl; serves = All-nil Serves }
  language_of_goal c PointeeRule = record { env = refl; serves = All-nil Serves }
  language_of_goal c DiscriminantKindRule = record { env = refl; serves = All-nil Serves }
  language_of_goal c DestructRule = record { env = refl; serves = All-nil Serves }
  language_of_goal c NoDropRule =
      of-needs (IsOfGoal g) c g (record { env = refl; serves = All-nil Serves }) (cell_of_goal (positive g) misc (cell Co.Auto (row_of c (self_of g)))) (copy_of_goal (item_trait c Item.Copy))

  -- Those of unsizing.

  abbrev OfGoal : List Rule → Type 0
  OfGoal rs = All (IsOfGoal g) rs

  no_rules : OfGoal []
  no_rules = All-nil (IsOfGoal g)

  one_rule : (r : Rule) → IsOfGoal g r → OfGoal (r ∷ [])
  one_rule r a = All-cons (IsOfGoal g) r [] a no_rules

  met_if : (b : Bool) (x y : Met) → All Serves x.steps → All Serves y.steps → All Serves (if b then x else y).steps
  met_if true x y a b = a
  met_if false x y a b = b

  unmet_serves : (n : ℕ) → All Serves (unmet n).steps
  unmet_serves n = one_serves refuse tt

  principal_serves : (n : ℕ) (o : Option Tree) (target : Tree) → All Serves (principal_met n o target).steps
  principal_serves n None target = unmet_serves n
  principal_serves n (Some source) target =
      let e = equate (trait_row (n + length (kinds_bound target)) source) (bound_row n target) in
      let k = enter (kinds_bound target) in
      let f = fresh (kinds_bound source) in
      met_if (same_number (trait_of_bound source.head) (trait_of_bound target.head)) (met_by (principal_steps n source target) (n + length (kinds_bound target) + length (kinds_bound source))) (unmet n)
      (All-cons Serves k (f ∷ e ∷ settle ∷ []) tt (All-cons Serves f (e ∷ settle ∷ []) tt (All-cons Serves e (settle ∷ []) tt (one_serves settle tt)))) (unmet_serves n)

  bound_serves : (c : Context) (supers sources : List Tree) (principal : Option Tree) (n : ℕ) (target : Tree) (h : Head) → All Serves (bound_met c supers sources principal n target h).steps
  bound_serves c supers sources principal n target (H.Part (P.Pred (PH.Trait i))) = principal_serves n principal target
  bound_serves c supers sources principal n target (H.Part (P.Pred (PH.Projection i))) = one_serves (pick Upcast (map (bound_match n target) (filter (λ b. projects i.0 b.head) sources))) tt
  bound_serves c supers sources principal n target (H.Part (P.Pred (PH.AutoTrait i))) = met_if (number_listed (autos c supers sources) i.0) (met_by [] n) (unmet n) (All-nil Serves) (unmet_serves n)
  bound_serves c supers sources principal n target _ = unmet_serves n

  bounds_serve : (c : Context) (supers sources : List Tree) (principal : Option Tree) (n : ℕ) (bs : List Tree) → All Serves (bounds_met c supers sources principal n bs)
  bounds_serve c supers sources principal n [] = All-nil Serves
  bounds_serve c supers sources principal n (b ∷ bs) =
      let m = bound_met c supers sources principal n b b.head in
      All-append Serves m.steps (bounds_met c supers sources principal m.next bs) (bound_serves c supers sources principal n b b.head) (bounds_serve c supers sources principal m.next bs)

  module _ (c : Context) (supers : List Tree) (from to : Tree) where
    upcast_of_goal : (s : CandidateSource) (o : Option Tree) → IsOfGoal g (upcast_rule c supers g s from to o)
    upcast_of_goal s o =
        let cs = outlives Cl.RegionOutlives (region_in from) (region_in to) ∷ [] in
        record { env = refl; serves = All-append Serves (bounds_met c supers (bounds_in from) o 0 (bounds_in to)) (nested cs) (bounds_serve c supers (bounds_in from) o 0 (bounds_in to)) (adds_serve ImplWhereBound cs) }

    upcasts_of_goal : (n : ℕ) (ts : List Tree) → OfGoal (upcasts c supers g from to n ts)
    upcasts_of_goal n [] = no_rules
    upcasts_of_goal n (t ∷ ts) =
        All-cons (IsOfGoal g) (upcast_rule c supers g (BuiltinImpl (TraitUpcasting n)) from to (Some t)) (upcasts c supers g from to (suc n) ts) (upcast_of_goal (BuiltinImpl (TraitUpcasting n)) (Some t)) (upcasts_of_goal (suc n) ts)

    dyn_of_goal : (b : Bool) → OfGoal (if b then upcast_rule c supers g misc from to (first_listed supers) ∷ [] else upcasts c supers g from to 1 (without_first supers))
    dyn_of_goal true = one_rule (upcast_rule c supers g misc from to (first_listed supers)) (upcast_of_goal misc (first_listed supers))
    dyn_of_goal false = upcasts_of_goal 1 (without_first supers)

    any_of_goal : (o : Option TraitId) → OfGoal (any_to_dyn c g from to o)
    any_of_goal None = no_rules
    any_of_goal (Some sized) =
        let cs = map (bound_said from) (bounds_in to) ++ meets sized from ∷ [] in
        let ds = outlives Cl.TypeOutlives from (region_in to) ∷ [] in
        one_rule _ (record { env = refl; serves = All-append Serves (nested cs) (nested_misc ds) (adds_serve ImplWhereBound cs) (adds_serve Misc ds) })

    array_of_goal : IsOfGoal g (array_to_slice g from to)
    array_of_goal = record { env = refl; serves = one_serves (equate (alone (first_tree from.children)) (alone (first_tree to.children))) tt }

    struct_of_goal : (n : ℕ) → IsOfGoal g (struct_to_struct c g n from to)
    struct_of_goal n = record { env = refl; serves = All-cons Serves _ (nested (tail_unsizes c g n from to ∷ [])) tt (adds_serve ImplWhereBound (tail_unsizes c g n from to ∷ [])) }

  pub unsizing_of_goal : (c : Context) (supers : List Tree) (to : Tree) → OfGoal (unsizing_rules c supers g to)
  unsizing_of_goal c supers to =
      let from = self_of g in
      of-rows OfGoal c supers g to (one_rule (ambiguous_rule g true) (record { env = refl; serves = All-nil Serves })) (dyn_of_goal c supers from to (keeps_principal (principal_in from) (principal_in to)))
      (any_of_goal c supers from to (item_trait c Item.Sized)) (one_rule (array_to_slice g from to) (array_of_goal c supers from to))
      (λ n. one_rule (struct_to_struct c g n from to) (struct_of_goal c supers from to n)) no_rules
