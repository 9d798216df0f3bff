-- The rule of an impl mentions no other variables than the goal of a trait, and stays where a context grows: the laws that kinds of goals
-- have.
use Rattle.std.proofs.Common.{◌≡◌, ℕ, suc, arith, false, refl, ap, ◌∙◌, List, [], ◌∷◌, ◌++◌, ◌&&◌, map, Option, Some, None}
use Rattle.std.specs.Prelude.{All, IfSome}
use Rattle.ir_trees.specs.declared.decl.contents.ImplId.{ImplId}
use Rattle.ir_trees.specs.declared.ir.kinds.Clause.{Clause}
use Rattle.ir_trees.specs.declared.ir.kinds.GoalSource.{GoalSource}
use Rattle.ir_trees.specs.declared.ir.kinds.VarKind.{VarKind}
use Rattle.ir_trees.specs.declared.ir.kinds.VarKind.TheVariants as V
use Rattle.ir_trees.specs.declared.ir.heads.VariableSort.TheVariants.{General, Constant}
use Rattle.ir_trees.specs.declared.ir.unify.RightSide.TheVariants as R
use Rattle.ir_trees.specs.Declarations.Context.{Context, Grows, parameter_kind}
use Rattle.ir_trees.specs.Declarations.Contents.{Impl}
use Rattle.ir_trees.specs.Declarations.Declaring.{impl_at}
use Rattle.ir_trees.specs.Declarations.Lookups.{maybe}
use Rattle.ir_trees.specs.Instantiation.Owned.{ImplIsOwned, is_unsolved}
use Rattle.ir_trees.specs.Syntax.Trees.{TypeKind, ConstantKind, RegionKind, Forest, Tree, tree_holds}
use Rattle.ir_trees.specs.Unification.Unify.{may_unify}
use Rattle.ir_trees.specs.Validity.WellFormed.{ImplIsGiven, IsWellFormedTable}
use Rattle.ir_trees.specs.Syntax.Words.{args_forest, clause_tree}
use Rattle.ir_trees.specs.Declarations.Worlds.{kinds_of}
use Rattle.ir_context.proofs.Instantiation.Declared.{impl_owned}
use Rattle.ir_context.proofs.Validity.Given.{impl_given}
use Rattle.ir_trees.proofs.Growth.Kept.{args-kept}
use Rattle.candidate_eval.specs.declared.eval.mode.TypingMode.{TypingMode}
use Rattle.candidate_eval.specs.declared.eval.mode.TypingMode.TheVariants.{Coherence}
use Rattle.candidate_eval.specs.declared.eval.variable.VariableKind.TheVariants.{Term, Region}
use Rattle.candidate_eval.specs.Interface.Evaluators.{kinds_listed}
use Rattle.candidate_eval.specs.Derivations.ImplRules.{TraitGoal, impl_certainty, or_yes}
use Rattle.candidate_eval.specs.Derivations.Mentions.{IsBelow, StepsBelow}
use Rattle.candidate_eval.specs.Derivations.Rules.{Step, add, equate, fresh, nested, nested_misc}
use Rattle.candidate_eval.specs.Judges.States.{State, fresh_variables, is_some, with_fresh}
use Rattle.candidate_eval.proofs.Marks.Declared.{unsolved-below, unsolved-tree-below}
use Rattle.candidate_eval.proofs.Outcomes.Responding.{clauses-kept}
use Rattle.candidate_assembly.specs.Calls.Impls.{impl_kinds}
use Rattle.candidate_assembly.specs.Goals.Kinds.{ImplPart}
use Rattle.candidate_assembly.specs.Goals.TraitGoals.{impl_part, impl_part_at, no_impl}

-- What it mentions.

-- what stands for parameters is of their kinds
fresh_kinds : (S : State) (ks : List VarKind) → kinds_of (fresh_variables S (kinds_listed ks)) ≡ kinds_listed ks
fresh_kinds S [] = refl
fresh_kinds S (V.Ty ∷ ks) = ap (λ xs. TypeKind ∷ xs) (fresh_kinds (with_fresh S (Term General)) ks)
fresh_kinds S (V.Const ∷ ks) = ap (λ xs. ConstantKind ∷ xs) (fresh_kinds (with_fresh S (Term Constant)) ks)
fresh_kinds S (V.Region ∷ ks) = ap (λ xs. RegionKind ∷ xs) (fresh_kinds (with_fresh S Region) ks)

steps_join : (n : ℕ) (xs ys : List Step) → StepsBelow n xs → StepsBelow n ys → StepsBelow n (xs ++ ys)
steps_join n [] ys a b = b
steps_join n (x ∷ xs) ys a b = (a.0, steps_join n xs ys a.1 b)

-- clauses in which no variable stands
closed_below : (n : ℕ) (source : GoalSource) (ts : List Tree) (xs : List Clause) → All (λ x. tree_holds is_unsolved (clause_tree ts x) ≡ false) xs
    → StepsBelow n (map (add source) (map (clause_tree ts) xs))
closed_below n source ts [] h = tt
closed_below n source ts (x ∷ xs) h = (unsolved-tree-below n (clause_tree ts x) (h 0 x (omega arith)), closed_below n source ts xs (λ k d l. h (suc k) d (omega (arith, l))))

-- arguments for the impl's parameters: there are some
abbrev no_state : State
no_state = record { newest_universe = 0; variables = []; regions = []; pending = []; mode = Coherence }

abbrev some_args : Context → ImplId → Forest
some_args c of = fresh_variables no_state (impl_kinds c of)

owned_impl : (c : Context) → IsWellFormedTable c → (of : ImplId) → IfSome (impl_at c of) (ImplIsOwned c.trees (some_args c of))
owned_impl c t of = impl_owned c t of (some_args c of) (fresh_kinds no_state (maybe [] (λ (i : Impl). i.parameters) (impl_at c of))) (impl_at c of) refl (impl_given c t of)

pub impl_steps_below : (c : Context) → IsWellFormedTable c → (n : ℕ) (m : TypingMode) (g : TraitGoal) (of : ImplId) → IsBelow n g.reference.arguments → StepsBelow n (impl_part_at c m g of).steps
impl_steps_below c t n m g of a = at (impl_at c of) (owned_impl c t of)
  where
    at : (o : Option Impl) → IfSome o (ImplIsOwned c.trees (some_args c of)) → StepsBelow n (maybe no_impl (impl_part c.trees m g) o).steps
    at None h = tt
    at (Some i) h =
        let nested = steps_join n _ _ (closed_below n _ c.trees i.wheres h.wheres.closed) (closed_below n _ c.trees i.super_outlives h.super_outlives.closed) in
        (tt, ((a, unsolved-below n (args_forest c.trees i.trait_ref.args) h.closed), nested))

-- What stays.

abbrev part_with : TypingMode → TraitGoal → Impl → Forest → List Tree → List Tree → ImplPart
part_with m g i a ws os =
    let certainty = impl_certainty m g.polarity i.polarity in
    record {
      applies = may_unify R.Header g.reference.arguments a && is_some certainty;
      steps = fresh (map parameter_kind i.parameters) ∷ equate g.reference.arguments a ∷ (nested ws ++ nested_misc os);
      certainty = or_yes certainty;
    }

part_kept : (old new : Context) (m : TypingMode) (g : TraitGoal) (n : ImplId) → Grows old new → IfSome (impl_at old n) (ImplIsGiven old) → impl_part_at new m g n ≡ impl_part_at old m g n
part_kept old new m g n grows given = ap (λ (c : Context). maybe no_impl (impl_part new.trees m g) (impl_at c n)) grows.same ∙ of (impl_at old n) given
  where
    of : (o : Option Impl) → IfSome o (ImplIsGiven old) → maybe no_impl (impl_part new.trees m g) o ≡ maybe no_impl (impl_part old.trees m g) o
    of None t = refl
    of (Some i) t =
        let a = args-kept old new i.trait_ref.args grows t.header.list in
        let w = clauses-kept old new i.wheres grows t.wheres in
        let o = clauses-kept old new i.super_outlives grows t.super_outlives in
        ap (λ x. part_with m g i x (map (clause_tree new.trees) i.wheres) (map (clause_tree new.trees) i.super_outlives)) a.1
        ∙ (ap (λ x. part_with m g i (args_forest old.trees i.trait_ref.args) x (map (clause_tree new.trees) i.super_outlives)) w.1
        ∙ ap (λ x. part_with m g i (args_forest old.trees i.trait_ref.args) (map (clause_tree old.trees) i.wheres) x) o.1)

pub impl_part_stays : (old new : Context) → IsWellFormedTable old → Grows old new → (m : TypingMode) (g : TraitGoal) (n : ImplId) → impl_part_at new m g n ≡ impl_part_at old m g n
impl_part_stays old new t grows m g n = part_kept old new m g n grows (impl_given old t n)
