-- Goals of traits: that a trait holds of some trees, or that it doesn't.
use Rattle.std.specs.Prelude.{Bool, true, false, ◌&&◌, ◌||◌, ◌==◌, ℕ, Option, Some, None, List, [], ◌∷◌, slice_index_or}
use Rattle.ir_trees.specs.declared.decl.contents.ImplId.{ImplId}
use Rattle.ir_trees.specs.declared.decl.contents.LangItem.{LangItem}
use Rattle.ir_trees.specs.declared.decl.contents.LangItem.TheVariants as L
use Rattle.ir_trees.specs.declared.ir.heads.ClauseHead.TheVariants as Cl
use Rattle.ir_trees.specs.declared.ir.heads.Head.{Head}
use Rattle.ir_trees.specs.declared.ir.heads.Head.TheVariants as H
use Rattle.ir_trees.specs.declared.ir.heads.PartHead.TheVariants as P
use Rattle.ir_trees.specs.declared.ir.kinds.Args.{Args}
use Rattle.ir_trees.specs.declared.ir.kinds.ParamEnv.{ParamEnv}
use Rattle.ir_trees.specs.declared.ir.kinds.PredicatePolarity.{PredicatePolarity}
use Rattle.ir_trees.specs.declared.ir.kinds.PredicatePolarity.TheVariants as Pol
use Rattle.ir_trees.specs.declared.ir.kinds.TraitId.{TraitId}
use Rattle.ir_trees.specs.declared.ir.kinds.TraitPredicate.{TraitPredicate}
use Rattle.ir_trees.specs.declared.ir.kinds.Ty.{Ty}
use Rattle.ir_trees.specs.declared.ir.unify.RightSide.TheVariants as S
use Rattle.ir_trees.specs.Declarations.Context.{Context}
use Rattle.ir_trees.specs.Declarations.Contents.{Impl}
use Rattle.ir_trees.specs.Declarations.Declaring.{impl_at, item_number}
use Rattle.ir_trees.specs.Declarations.Lookups.{maybe}
use Rattle.ir_trees.specs.Hierarchy.Supers.{after_first}
use Rattle.ir_trees.specs.Syntax.Trees.{Forest, tree, Tree}
use Rattle.ir_trees.specs.Unification.Unify.{may_unify}
use Rattle.ir_trees.specs.Syntax.Words.{args_forest, env_forest}
use Rattle.candidate_eval.specs.declared.eval.mode.TypingMode.{TypingMode}
use Rattle.candidate_eval.specs.declared.eval.certainty.Certainty.TheVariants.{Yes}
use Rattle.candidate_eval.specs.Derivations.Characterization.{bound_kinds}
use Rattle.candidate_eval.specs.Derivations.ImplRules.{TraitGoal, impl_steps, impl_certainty, or_yes}
use Rattle.candidate_eval.specs.Derivations.Naming.{named_clause}
use Rattle.candidate_eval.specs.Derivations.Rules.{Step, quick, fresh, equate}
use Rattle.candidate_eval.specs.Judges.States.{is_some}
use Rattle.candidate_assembly.specs.Goals.Kinds.{ImplPart}

-- the goal of an environment and a predicate
abbrev pub trait_goal : List Tree → ParamEnv → TraitPredicate → TraitGoal
trait_goal ts env p = record {
  env = env_forest ts env;
  reference = record { trait = p.trait_ref.def_id.0; arguments = args_forest ts p.trait_ref.args };
  polarity = p.polarity;
}

-- the numbers that it holds: a list of arguments, and no types besides
abbrev pub arguments_held : TraitPredicate → Args
arguments_held p = p.trait_ref.args

abbrev pub types_held : TraitPredicate → List Ty
types_held p = []

-- a row with another tree in the place of the first
abbrev pub with_first : Tree → Forest → Forest
with_first t ts = tree t.head t.children (after_first ts)

abbrev pub with_self_type : TraitGoal → Tree → TraitGoal
with_self_type g t = record g { reference = record { trait = g.reference.trait; arguments = with_first t g.reference.arguments } }

abbrev pub is_positive : PredicatePolarity → Bool
is_positive Pol.Positive = true
is_positive Pol.Negative = false

abbrev pub same_polarity : PredicatePolarity → PredicatePolarity → Bool
same_polarity Pol.Positive p = is_positive p
same_polarity Pol.Negative Pol.Negative = true
same_polarity Pol.Negative Pol.Positive = false

-- Lang items.

abbrev pub item_trait : Context → LangItem → Option TraitId
item_trait c i = slice_index_or c.contents.lang_items (item_number i) None

abbrev pub is_trait : ℕ → Option TraitId → Bool
is_trait n None = false
is_trait n (Some i) = i.0 == n

-- whether the trait of that number is the lang item
abbrev pub is_item : Context → LangItem → ℕ → Bool
is_item c i n = is_trait n (item_trait c i)

-- Quick rejection: a clause of equal polarity and of the same trait, or, for a positive goal `MetaSized`, of the trait `Sized`.

abbrev pub serves : Context → TraitGoal → ℕ → Bool
serves c g n = n == g.reference.trait || (is_positive g.polarity && (is_item c L.Sized n && is_item c L.MetaSized g.reference.trait))

abbrev pub fits : Context → TraitGoal → Head → Bool
fits c g (H.Part (P.Clause (Cl.Trait i p))) = same_polarity p g.polarity && serves c g i.0
fits c g _ = false

-- Quick rejection of the arguments, fresh variables for the clause's binder, and the arguments equated.
abbrev pub match_trait : TraitGoal → Tree → List Step
match_trait g c =
    quick g.reference.arguments (after_first c.children)
    ∷ fresh (bound_kinds c.children)
    ∷ equate g.reference.arguments (after_first (named_clause 0 c).children)
    ∷ []

-- The rule of an impl; of what is no impl there is none.

abbrev pub no_impl : ImplPart
no_impl = record { applies = false; steps = []; certainty = Yes }

abbrev pub impl_part : List Tree → TypingMode → TraitGoal → Impl → ImplPart
impl_part ts m g i =
    let certainty = impl_certainty m g.polarity i.polarity in
    record {
      applies = may_unify S.Header g.reference.arguments (args_forest ts i.trait_ref.args) && is_some certainty;
      steps = impl_steps ts g.reference.arguments i;
      certainty = or_yes certainty;
    }

abbrev pub impl_part_at : Context → TypingMode → TraitGoal → ImplId → ImplPart
impl_part_at c m g n = maybe no_impl (impl_part c.trees m g) (impl_at c n)
