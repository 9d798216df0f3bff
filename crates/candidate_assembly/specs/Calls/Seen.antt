-- What the contracts of private calls say by numbers and by what is seen of an evaluator (`View`), where definitions take trees.
use Rattle.std.specs.Prelude.{◌≡◌, [], ◌++◌, ℕ, Option, Result, List, map, option_map}
use Rattle.std.specs.List.{flat_map}
use Rattle.ir_trees.specs.declared.decl.contents.ImplId.{ImplId}
use Rattle.ir_trees.specs.declared.decl.contents.LangItem.TheVariants as item
use Rattle.ir_trees.specs.declared.ir.heads.Head.TheVariants as H
use Rattle.ir_trees.specs.declared.ir.kinds.AdtId.{AdtId}
use Rattle.ir_trees.specs.declared.ir.kinds.AliasTy.{AliasTy}
use Rattle.ir_trees.specs.declared.ir.kinds.Args.{Args}
use Rattle.ir_trees.specs.declared.ir.kinds.Binder.{Binder}
use Rattle.ir_trees.specs.declared.ir.kinds.Clause.{Clause}
use Rattle.ir_trees.specs.declared.ir.kinds.ParamEnv.{ParamEnv}
use Rattle.ir_trees.specs.declared.ir.kinds.Pred.{Pred}
use Rattle.ir_trees.specs.declared.ir.kinds.PredicatePolarity.TheVariants as Pol
use Rattle.ir_trees.specs.declared.ir.kinds.TraitId.{TraitId}
use Rattle.ir_trees.specs.declared.ir.kinds.TraitPredicate.{TraitPredicate}
use Rattle.ir_trees.specs.declared.ir.kinds.TraitRef.{TraitRef}
use Rattle.ir_trees.specs.declared.ir.kinds.Ty.{Ty}
use Rattle.ir_trees.specs.Declarations.Context.{Context}
use Rattle.ir_trees.specs.Declarations.Declaring.{trait_at}
use Rattle.ir_trees.specs.Declarations.Lookups.{maybe}
use Rattle.ir_trees.specs.Declarations.References.{reference_of}
use Rattle.ir_trees.specs.Instantiation.Folding.{substituted_tree}
use Rattle.ir_trees.specs.Instantiation.Opening.{opened_tree}
use Rattle.ir_trees.specs.Syntax.Trees.{Forest, Tree, none}
use Rattle.ir_trees.specs.Syntax.Words.{args_forest, clause_tree, env_forest, pred_tree, ty_tree}
use Rattle.candidate_eval.specs.declared.eval.refusal.NoSolutionOrStop.{NoSolutionOrStop}
use Rattle.candidate_eval.specs.declared.eval.response.Candidate.{Candidate as OfNumbers}
use Rattle.candidate_eval.specs.declared.eval.source.CandidateSource.{CandidateSource}
use Rattle.candidate_eval.specs.Builtins.Callable.{callable_of}
use Rattle.candidate_eval.specs.Derivations.Characterization.{Walk, binder_kinds, bound_kinds}
use Rattle.candidate_eval.specs.Derivations.ImplRules.{declared_steps}
use Rattle.candidate_eval.specs.Derivations.Judging.{At, Judged, Reached, run, start, step}
use Rattle.candidate_eval.specs.Derivations.Rules.{Rule, Step, unknowable}
use Rattle.candidate_eval.specs.Dynamic.ObjectRequirements.{first_tree}
use Rattle.candidate_eval.specs.Dynamic.Replacing.{clauses_at, without_first}
use Rattle.candidate_eval.specs.Interface.Evaluators.{alias_trees}
use Rattle.candidate_eval.specs.Interface.Shown.{View}
use Rattle.candidate_eval.specs.Judges.States.{State, fresh_variables}
use Rattle.candidate_eval.specs.Outcomes.Responses.{Candidate, Response}
use Rattle.candidate_assembly.specs.declared.assembly.characterize.Nesting.{Nesting}
use Rattle.candidate_assembly.specs.declared.assembly.opaques.AssembleCandidatesFrom.{AssembleCandidatesFrom}
use Rattle.candidate_assembly.specs.declared.assembly.specialization.AllowInferenceConstraints.TheVariants as Allow
use Rattle.candidate_assembly.specs.declared.trait_goals.unsizing_rows.UnsizingRow.{UnsizingRow}
use Rattle.candidate_assembly.specs.declared.trait_goals.bounds_met.Meeting.{Meeting}
use Rattle.candidate_assembly.specs.declared.trait_goals.upcasting.Upcast.{Upcast}
use Rattle.candidate_assembly.specs.Answers.Assembled.{Assembled, OfNormalSelfType}
use Rattle.candidate_assembly.specs.Answers.AssembledCalls.{TypedChainEnds}
use Rattle.candidate_assembly.specs.Answers.Listing.{Listed, answers_at}
use Rattle.candidate_assembly.specs.Answers.MergedKinds.{only_where_bounds}
use Rattle.candidate_assembly.specs.Answers.Preference.{Class, least_global, prefer_objects}
use Rattle.candidate_assembly.specs.Answers.Specialization.{unspecialized}
use Rattle.candidate_assembly.specs.Answers.Telling.{standing}
use Rattle.candidate_assembly.specs.Calls.AliasChains.{ChainFollows}
use Rattle.candidate_assembly.specs.Calls.Calling.{matched_quickly}
use Rattle.candidate_assembly.specs.Calls.Characterizing.{visited_at}
use Rattle.candidate_assembly.specs.Calls.Earlier.{AtEachEarlier}
use Rattle.candidate_assembly.specs.Calls.Impls.{steps_at}
use Rattle.candidate_assembly.specs.Calls.ObjectCalls.{ObjectsFollow, own_clause_of}
use Rattle.candidate_assembly.specs.Calls.Upcasting.{Meets, MeetsAll, one_met, row_under, rows_met, upcasts_by}
use Rattle.candidate_assembly.specs.Goals.Kinds.{steps_judged}
use Rattle.candidate_assembly.specs.Goals.KindShown.{Kind}
use Rattle.candidate_assembly.specs.Goals.TraitGoals.{item_trait, trait_goal}
use Rattle.candidate_assembly.specs.Rules.AliasBounds.{ChainEnd, Link, link_rules}
use Rattle.candidate_assembly.specs.Rules.AliasFaults.{ChainEnds}
use Rattle.candidate_assembly.specs.Rules.BuiltinRules.{holds_of, opened_by, said_of_type, self_of, values_at, pair_of}
use Rattle.candidate_assembly.specs.Rules.Opaques.{opaque_rules, open_impl_rules}
use Rattle.candidate_assembly.specs.Rules.Unsizing.{Met, any_to_dyn, bounds_met, mixed, rules_of_row, tail_of, unsizing_parameters}

-- Numbers and the trees that they stand for.

-- clauses with arguments put in
abbrev pub clauses_with_arguments : List Tree → Args → List Clause → List Tree
clauses_with_arguments ts args xs = map (λ x. substituted_tree (args_forest ts args) (clause_tree ts x)) xs

-- the where clauses of the trait of a reference, with its arguments
abbrev pub wheres_of : Context → TraitRef → List Tree
wheres_of c r = clauses_with_arguments c.trees r.args (maybe [] (λ t. t.wheres) (trait_at c r.def_id.0))

-- what a predicate says of a part of its type, which is taken out of its binder
abbrev pub said_of_part : List Tree → TraitPredicate → Option Args → Tree → Tree
said_of_part ts p under t = said_of_type (args_forest ts p.trait_ref.args) p (opened_by (values_at ts under) t)

-- a structure with the arguments of another in the places that unsizing may change
abbrev pub mixed_struct : Context → AdtId → Args → Args → Tree
mixed_struct c adt from to =
    record { head = H.Adt adt; children = mixed (unsizing_parameters c adt.0) 0 (args_forest c.trees from) (args_forest c.trees to) }

-- that its last field unsizes from the one to the other
abbrev pub tail_unsizes : Context → TraitId → AdtId → Args → Args → Tree
tail_unsizes c unsize adt from to =
    holds_of unsize Pol.Positive none (pair_of (tail_of c adt.0 (args_forest c.trees from)) (tail_of c adt.0 (args_forest c.trees to)))

-- Where an evaluator stands.

module _ (V : View) where
  -- a type in the place of the variables of a callable's binder
  abbrev pub with_variables : Binder (Ty × Ty) → Tree → Tree
  with_variables x t = opened_tree (fresh_variables V.state (binder_kinds (callable_of V.trees x).variables)) t

  -- values for the variables of a clause's binder
  abbrev pub variables_for : Clause → Forest
  variables_for x = fresh_variables V.state (bound_kinds (clause_tree V.trees x).children)

  -- where clauses alone, but for those that others leave out
  abbrev pub only_where_bounds_left : List Candidate → List Candidate
  only_where_bounds_left xs = unspecialized V.context V.state.mode Allow.Yes (only_where_bounds xs)

  -- the impls that are left, or the least of what is global
  abbrev pub impls_or_global : List Candidate → Class
  impls_or_global xs = least_global (prefer_objects V.state.mode (unspecialized V.context V.state.mode Allow.No xs))

  -- the steps of an impl for arguments
  abbrev pub impl_steps : Args → ImplId → List Step
  impl_steps args n = steps_at V.context (args_forest V.trees args) n

  -- the steps by what was read of an impl
  abbrev pub steps_declared : Args → Args → List Clause → List Clause → List Step
  steps_declared args header wheres outlives =
      declared_steps (args_forest V.trees args) (args_forest V.trees header) (clauses_at V.trees wheres) (clauses_at V.trees outlives)

  module _ (env : ParamEnv) where
    -- what a step, and what steps come to at the state, with values that a rule has so far
    abbrev pub stepped : Forest → Step → Reached
    stepped values x = step V.judge (env_forest V.trees env) (standing V.state values) x

    abbrev pub ran : Forest → List Step → Reached
    ran values xs = run V.judge (env_forest V.trees env) (standing V.state values) xs

    -- the steps come to the state that is left, with the same values
    abbrev pub RunsTo : Forest → List Step → State → Type 0
    RunsTo values xs S = ran values xs ≡ At (standing S values)

    -- the same at the start of a rule
    abbrev pub started : List Step → Reached
    started xs = run V.judge (env_forest V.trees env) (start V.state) xs

    -- what the steps of an impl come to, where the rest of its rule answers so
    abbrev pub judged_by_steps : Args → CandidateSource → ImplId → (State → Option Response) → Judged
    judged_by_steps args s n = steps_judged V.judge (env_forest V.trees env) V.state s (impl_steps args n)

    -- what comes of asking whether all impls are known
    abbrev pub asked_for_unknowable : TraitRef → Reached
    asked_for_unknowable r = step V.judge (env_forest V.trees env) (start V.state) (unknowable (reference_of V.trees r))

    -- the visit of a tree of a clause that stands so deep
    abbrev pub visit : Nesting → State → Tree → Walk
    visit nesting = visited_at V.judge (env_forest V.trees env) nesting.types nesting.constants

    -- a reference's arguments are matched with its type and the inputs of a call
    abbrev pub matched_with_inputs : TraitRef → Ty → Option State
    matched_with_inputs r inputs =
        let values = args_forest V.trees r.args in
        matched_quickly V.judge V.state (env_forest V.trees env) values (pair_of (first_tree values) (ty_tree V.trees inputs))

    -- A bound of a `dyn` type, or all of them, are met, and this state is left.

    abbrev pub IsMet : State → (ℕ → Met) → Result Meeting NoSolutionOrStop → Type 0
    IsMet = Meets V.judge (env_forest V.trees env) V.state

    abbrev pub AreMet : State → List Step → Result Meeting NoSolutionOrStop → Type 0
    AreMet = MeetsAll V.judge (env_forest V.trees env) V.state

    -- two bounds are made equal, under their binders
    abbrev pub bounds_equated : Pred → Pred → Option State
    bounds_equated source target =
        rows_met V.judge (env_forest V.trees env) V.state (row_under (pred_tree V.trees source)) (row_under (pred_tree V.trees target))

    -- the rules by the super traits of the source's principal, from the second on
    abbrev pub upcasts_of : Upcast → List Rule
    upcasts_of u = upcasts_by V.context (env_forest V.trees env) u 1 (without_first (clauses_at V.trees u.supers.items))

  -- one bound of the target, and all of them, by the bounds of the source, its super traits and its principal
  abbrev pub met_by : List Clause → List Pred → Option Clause → Pred → ℕ → Met
  met_by supers sources principal target =
      one_met V.context (clauses_at V.trees supers) (map (pred_tree V.trees) sources) (option_map (clause_tree V.trees) principal) (pred_tree V.trees target)

  abbrev pub all_met_by : List Clause → List Pred → Option Clause → List Pred → List Step
  all_met_by supers sources principal targets =
      bounds_met V.context (clauses_at V.trees supers) (map (pred_tree V.trees) sources) (option_map (clause_tree V.trees) principal) 0
      (map (pred_tree V.trees) targets)

  -- Goals of traits.

  module _ (env : ParamEnv) (p : TraitPredicate) where
    -- the rules by which its type unsizes to a `dyn` type, and by a row of the table of unsizing
    abbrev pub rules_to_dyn : Ty → List Rule
    rules_to_dyn target =
        let g = trait_goal V.trees env p in any_to_dyn V.context g (self_of g) (ty_tree V.trees target) (item_trait V.context item.Sized)

    abbrev pub rules_by_row : Ty → UnsizingRow → List Rule
    rules_by_row target row =
        let g = trait_goal V.trees env p in rules_of_row V.context [] g (self_of g) (ty_tree V.trees target) row

-- Goals of a kind where an evaluator stands.

module _ {P : Type 0} (k : Kind P) (V : View) (env : ParamEnv) (p : P) where
  -- the answers by the bounds of an alias of a chain, and those at its end
  abbrev pub link_answers : Link → Listed
  link_answers l = answers_at V.judge (link_rules k.rules k.bounds.additional V.context (k.seen V.trees env p) l)

  -- how the chain of the goal ends; and where its self type has that normal form
  abbrev pub ChainEndsHere : ChainEnd → Type 0
  ChainEndsHere = ChainEnds k.rules V.judge V.context (k.seen V.trees env p) V.state

  abbrev pub TypedChainEndsHere : Ty → ChainEnd → Type 0
  TypedChainEndsHere ty = TypedChainEnds k.rules k.bounds V.context V.judge V.state (k.seen V.trees env p) (ty_tree V.trees ty)

  -- the rules by opaque types that a variable may be, and by impls for any type
  abbrev pub rules_by_opaques : List AliasTy → AssembleCandidatesFrom → List Rule
  rules_by_opaques opaques from =
      let g = k.seen V.trees env p in
      flat_map (opaque_rules k.rules V.context g) (alias_trees V.trees opaques) ++ open_impl_rules k.rules V.judge V.context V.state.mode g from

  -- the candidates by a chain of aliases follow others, as each earlier context has them
  abbrev pub ChainFollowsEarlier : List Candidate → Listed → Type 0
  ChainFollowsEarlier xs =
      AtEachEarlier V.context (λ c. ChainFollows k.rules k.bounds.additional V.judge c (k.seen V.trees env p) V.state xs)

  -- the candidates of a goal in normal form, as each earlier context has them
  abbrev pub AssembledEarlier : AssembleCandidatesFrom → Listed → Type 0
  AssembledEarlier from = AtEachEarlier V.context (λ c. Assembled k.rules k.bounds c V.judge V.state (k.seen V.trees env p) from)

  -- the candidates of a goal whose type is normalised to this one, as each earlier context has them
  abbrev pub OfNormalSelfTypeEarlier : Ty → AssembleCandidatesFrom → Listed → Type 0
  OfNormalSelfTypeEarlier ty from =
      AtEachEarlier V.context (λ c. OfNormalSelfType k.rules k.bounds c V.judge V.state (k.seen V.trees env p) (ty_tree V.trees ty) from)

  -- the candidates by the bounds of a `dyn` type follow others
  abbrev pub OwnClausesFollow : List OfNumbers → List (CandidateSource × Clause) → Listed → Type 0
  OwnClausesFollow before xs =
      ObjectsFollow k.rules V.judge V.context V.state (k.seen V.trees env p) before (map (own_clause_of V.trees) xs)
