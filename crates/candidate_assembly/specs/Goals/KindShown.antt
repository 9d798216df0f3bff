-- A kind of goals, as one value: what its goals are, and what it says of them.
use Rattle.std.specs.Prelude.{Bool, List, Option}
use Rattle.ir_trees.specs.declared.decl.contents.ImplId.{ImplId}
use Rattle.ir_trees.specs.declared.ir.kinds.Clause.{Clause}
use Rattle.ir_trees.specs.declared.ir.kinds.Args.{Args}
use Rattle.ir_trees.specs.declared.ir.kinds.ParamEnv.{ParamEnv}
use Rattle.ir_trees.specs.declared.ir.kinds.TraitPredicate.{TraitPredicate}
use Rattle.ir_trees.specs.declared.ir.kinds.Ty.{Ty}
use Rattle.ir_trees.specs.Declarations.Context.{Context}
use Rattle.ir_trees.specs.Syntax.Trees.{Tree}
use Rattle.ir_trees.specs.Syntax.Words.{clause_tree, env_forest}
use Rattle.candidate_eval.specs.Derivations.ImplRules.{TraitGoal}
use Rattle.candidate_eval.specs.declared.eval.certainty.Certainty.{Certainty}
use Rattle.candidate_eval.specs.declared.eval.source.CandidateSource.TheVariants as source
use Rattle.candidate_eval.specs.Derivations.Judging.{Judged, Reached, run, start}
use Rattle.candidate_eval.specs.Derivations.Rules.{Rule}
use Rattle.candidate_eval.specs.Outcomes.Responses.{Response}
use Rattle.candidate_eval.specs.Interface.Shown.{View}
use Rattle.candidate_eval.specs.Judges.States.{Judge, State, resolved}
use Rattle.candidate_assembly.specs.Goals.KindBounds.{KindBounds}
use Rattle.candidate_assembly.specs.Goals.Kinds as kinds
use Rattle.candidate_assembly.specs.Goals.Kinds.{KindRules, part_judged, rule_of_part}
use Rattle.candidate_assembly.specs.Goals.TraitGoals.{arguments_held, trait_goal, types_held}
use Rattle.candidate_assembly.specs.Goals.TraitRules.{trait_bounds, trait_rules}
use Rattle.candidate_assembly.specs.Rules.Unknowable.{UnknowableJudged}

-- Of predicates of a type: the goal as its rules see it, what is seen of an environment and a predicate, the list of arguments that a
-- predicate holds, the types that it holds besides, the rules, and what is said besides of aliases, of unsizing and of other trees.
pub record Kind (P : Type 0) : Type 1 where
  pub Seen : Type 0
  pub seen : List Tree → ParamEnv → P → Seen
  pub arguments : P → Args
  pub types : P → List Ty
  pub rules : KindRules Seen
  pub bounds : KindBounds Seen

-- The numbers are a goal of the context: its arguments fit, and neither a parameter nor an escaping bound variable stands in it.
abbrev pub IsGoal : {P : Type 0} → Kind P → Context → ParamEnv → P → Type 0
IsGoal k = kinds.IsGoal k.rules k.arguments k.types k.seen

-- Goals of traits.
abbrev pub trait_kind : Kind TraitPredicate
trait_kind = record { Seen = TraitGoal; seen = trait_goal; arguments = arguments_held; types = types_held; rules = trait_rules; bounds = trait_bounds }

-- A goal where an evaluator stands.

module _ {P : Type 0} (k : Kind P) where
  -- what is said of a goal in a context by its rules
  abbrev pub of_goal : {R : Type 0} → (KindRules k.Seen → Context → k.Seen → R) → View → ParamEnv → P → R
  of_goal says V env p = says k.rules V.context (k.seen V.trees env p)

  -- what is said of it besides by bounds, the judge and the state
  abbrev pub at_goal : {R : Type 1} → (KindRules k.Seen → KindBounds k.Seen → Context → Judge → State → k.Seen → R) → View → ParamEnv → P → R
  at_goal says V env p = says k.rules k.bounds V.context V.judge V.state (k.seen V.trees env p)

  -- the goal with all values put into its trees, and in another environment
  abbrev pub resolved_goal : View → ParamEnv → P → ParamEnv → k.Seen
  resolved_goal V env p other =
      let g = k.seen V.trees env p in k.bounds.with_trees g (env_forest V.trees other) (resolved V.state (k.rules.trees_of g))

  -- what the steps come to that match the goal with a clause
  abbrev pub matched : View → ParamEnv → P → Clause → Reached
  matched V env p x =
      let g = k.seen V.trees env p in run V.judge (k.rules.env_of g) (start V.state) (k.rules.match_steps g (clause_tree V.trees x))

  module _ (V : View) (env : ParamEnv) (p : P) where
    -- the rule by an impl
    abbrev pub impl_rule : ImplId → Rule
    impl_rule n =
        let g = k.seen V.trees env p in rule_of_part (k.rules.env_of g) (source.Impl n) (k.rules.impl_part V.context V.state.mode g n)

    -- whether that applies, and what its steps come to
    abbrev pub impl_applies : ImplId → Bool
    impl_applies n = (k.rules.impl_part V.context V.state.mode (k.seen V.trees env p) n).applies

    abbrev pub impl_reached : ImplId → Reached
    impl_reached n =
        let g = k.seen V.trees env p in run V.judge (k.rules.env_of g) (start V.state) (k.rules.impl_part V.context V.state.mode g n).steps

    -- how certain an impl may be
    abbrev pub impl_certainty : ImplId → Certainty
    impl_certainty n = (k.rules.impl_part V.context V.state.mode (k.seen V.trees env p) n).certainty

    -- a candidate by an impl, where the rest of its rule answers so
    abbrev pub judged_by_impl : ImplId → (State → Option Response) → Judged
    judged_by_impl n =
        let g = k.seen V.trees env p in
        part_judged V.judge (k.rules.env_of g) V.state (source.Impl n) (k.rules.impl_part V.context V.state.mode g n)

    -- what is judged of a goal of which not all impls are known
    abbrev pub IsJudgedUnknowable : Judged → Type 0
    IsJudgedUnknowable =
        let g = k.seen V.trees env p in UnknowableJudged V.judge V.context V.state (k.rules.env_of g) (k.rules.reference_of V.context g)
