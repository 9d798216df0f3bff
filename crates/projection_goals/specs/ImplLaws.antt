-- The rule of an impl mentions no other variables than the goal, and stays where a context grows: the laws that kinds of goals have.
use Rattle.std.proofs.Common.{◌≡◌, ◌∙◌, ℕ, zero, suc, arith, Bool, true, false, refl, ap, List, [], ◌∷◌, map, Option, Some, None}
use Rattle.std.specs.Prelude.{All, IfSome, ◌&&◌, ◌==◌, find, option_map}
use Rattle.ir_trees.specs.declared.decl.contents.AssocValue.{AssocValue}
use Rattle.ir_trees.specs.declared.decl.contents.ImplId.{ImplId}
use Rattle.ir_trees.specs.declared.ir.kinds.AssocId.{AssocId}
use Rattle.ir_trees.specs.declared.ir.kinds.Clause.{Clause}
use Rattle.ir_trees.specs.declared.ir.kinds.Ty.{Ty}
use Rattle.ir_trees.specs.declared.ir.unify.RightSide.TheVariants as R
use Rattle.ir_trees.specs.Declarations.Context.{Context, Grows, parameter_kind}
use Rattle.ir_trees.specs.Declarations.Contents.{Impl}
use Rattle.ir_trees.specs.Declarations.Declaring.{impl_at}
use Rattle.ir_trees.specs.Declarations.Lookups.{maybe, value_of}
use Rattle.ir_trees.specs.Instantiation.Owned.{ImplIsOwned, is_unsolved}
use Rattle.ir_trees.specs.Syntax.Trees.{Forest, Tree, join, tree_holds}
use Rattle.ir_trees.specs.Syntax.Words.{IsTy, args_forest, clause_tree, ty_tree}
use Rattle.ir_trees.specs.Unification.Substitutions.{alone}
use Rattle.ir_trees.specs.Unification.Unify.{may_unify}
use Rattle.ir_trees.specs.Validity.WellFormed.{ImplIsGiven, IsWellFormedTable, TypesFit, types_of_values}
use Rattle.ir_trees.proofs.Growth.Kept.{args-kept, ty-kept}
use Rattle.ir_context.proofs.Instantiation.Declared.{impl_owned}
use Rattle.ir_context.proofs.Validity.Given.{impl_given}
use Rattle.candidate_eval.specs.declared.eval.certainty.Certainty.TheVariants.{Yes}
use Rattle.candidate_eval.specs.declared.eval.mode.TypingMode.{TypingMode}
use Rattle.candidate_eval.specs.declared.eval.mode.TypingMode.TheVariants.{Coherence}
use Rattle.candidate_eval.specs.Derivations.Mentions.{IsBelow, StepsBelow, is_from}
use Rattle.candidate_eval.specs.Derivations.Rules.{equate, fresh, nested}
use Rattle.candidate_eval.specs.Judges.States.{State, fresh_variables}
use Rattle.candidate_eval.proofs.Marks.Declared.{unsolved-below, unsolved-tree-below}
use Rattle.candidate_eval.proofs.Outcomes.Responding.{clauses-kept}
use Rattle.candidate_assembly.specs.Calls.Impls.{impl_kinds}
use Rattle.candidate_assembly.specs.Goals.Kinds.{ImplPart}
use Rattle.candidate_assembly.specs.Goals.Projections.{ProjectionGoal, part_with, serves}
use Rattle.candidate_assembly.specs.Goals.TraitGoals.{no_impl}
use Rattle.candidate_assembly.proofs.Calls.Stepping.{fresh-kinds}
use Rattle.projection_goals.specs.Normalizing.{NormalizesGoal, as_projection, impl_part, value_in}
use Rattle.projection_goals.specs.Rows.{first-held, held-parts}

-- What an impl says that an associated type is, is one of its types.

each-first : {X : Type 0} (P : X → Type 0) (x : X) (xs : List X) → P x → All P xs → All P (x ∷ xs)
each-first P x xs p a zero d l = p
each-first P x xs p a (suc k) d l = a k d (omega (arith, l))

types-each : (ts : List Tree) (xs : List Ty) → TypesFit ts xs → All (IsTy ts) xs
types-each ts [] f = λ n d l. absurd (omega (arith, l))
types-each ts (x ∷ xs) f =
    let here : IsTy ts x = cc in
    let others : TypesFit ts xs = cc in
    each-first (IsTy ts) x xs here (types-each ts xs others)

value-among : (P : Ty → Type 0) (n : AssocId) (vs : List AssocValue) → All P (types_of_values vs)
    → IfSome (option_map (λ (v : AssocValue). v.ty) (find (λ (v : AssocValue). v.assoc.0 == n.0) vs)) P
value-among P n [] a = tt
value-among P n (v ∷ vs) a = of (v.assoc.0 == n.0) refl (value-among P n vs (λ k d l. a (suc k) d (omega (arith, l))))
  where
    of : (b : Bool) → v.assoc.0 == n.0 ≡ b → IfSome (option_map (λ (w : AssocValue). w.ty) (find (λ (w : AssocValue). w.assoc.0 == n.0) vs)) P
        → IfSome (option_map (λ (w : AssocValue). w.ty) (find (λ (w : AssocValue). w.assoc.0 == n.0) (v ∷ vs))) P
    of true e more = rw e (a 0 v.ty (omega arith))
    of false e more = rw e more

-- What it mentions.

-- clauses in which no variable stands
closed-below : (n : ℕ) (ts : List Tree) (xs : List Clause) → All (λ x. tree_holds is_unsolved (clause_tree ts x) ≡ false) xs → StepsBelow n (nested (map (clause_tree ts) xs))
closed-below n ts [] h = tt
closed-below n ts (x ∷ xs) h = (unsolved-tree-below n (clause_tree ts x) (h 0 x (omega arith)), closed-below n ts xs (λ k d l. h (suc k) d (omega (arith, l))))

-- arguments for the impl's parameters: there are some
abbrev no_state : State
no_state = record { newest_universe = 0; variables = []; regions = []; pending = []; mode = Coherence }

abbrev some_args : Context → ImplId → Forest
some_args c of = fresh_variables no_state (impl_kinds c of)

owned-impl : (c : Context) → IsWellFormedTable c → (of : ImplId) → IfSome (impl_at c of) (ImplIsOwned c.trees (some_args c of))
owned-impl c t of = impl_owned c t of (some_args c of) (fresh-kinds no_state (maybe [] (λ (i : Impl). i.parameters) (impl_at c of))) (impl_at c of) refl (impl_given c t of)

pub impls-below : (c : Context) → IsWellFormedTable c → (n : ℕ) (m : TypingMode) (g : NormalizesGoal) (of : ImplId) → IsBelow n (join g.arguments g.term) → StepsBelow n (impl_part c m g of).steps
impls-below c t n m g of b = at (impl_at c of) (owned-impl c t of)
  where
    own : IsBelow n g.arguments × IsBelow n g.term
    own = held-parts (is_from n) g.arguments g.term b

    with-value : (i : Impl) → ImplIsOwned c.trees (some_args c of) i → (u : Option Ty) → IfSome u (λ v. tree_holds is_unsolved (ty_tree c.trees v) ≡ false)
        → StepsBelow n (part_with c.trees (as_projection g) i (option_map (ty_tree c.trees) u)).steps
    with-value i h None k = tt
    with-value i h (Some v) k = (
      tt,
      (
        (own.0, unsolved-below n (args_forest c.trees i.trait_ref.args) h.closed),
        ((unsolved-tree-below n (ty_tree c.trees v) k, first-held (is_from n) g.term refl own.1), closed-below n c.trees i.wheres h.wheres.closed),
      ),
    )

    at : (o : Option Impl) → IfSome o (ImplIsOwned c.trees (some_args c of)) → StepsBelow n (maybe no_impl (λ i. part_with c.trees (as_projection g) i (value_in c.trees g.item o)) o).steps
    at None h = tt
    at (Some i) h =
        with-value i h (value_of (record { 0 = g.item }) i)
        (value-among (λ v. tree_holds is_unsolved (ty_tree c.trees v) ≡ false) (record { 0 = g.item }) i.values h.values.closed)

-- What stays.

abbrev part-as : ProjectionGoal → Impl → Forest → Tree → List Tree → ImplPart
part-as p i a v ws = record {
  applies = serves i.polarity && may_unify R.Header p.arguments a;
  steps = fresh (map parameter_kind i.parameters) ∷ equate p.arguments a ∷ equate (alone v) (alone p.term) ∷ nested ws;
  certainty = Yes;
}

pub part-kept : (old new : Context) (m : TypingMode) (g : NormalizesGoal) (n : ImplId) → Grows old new → IfSome (impl_at old n) (ImplIsGiven old) → impl_part new m g n ≡ impl_part old m g n
part-kept old new m g n grows given =
    ap (λ (c : Context). maybe no_impl (λ i. part_with new.trees (as_projection g) i (value_in new.trees g.item (impl_at c n))) (impl_at c n)) grows.same ∙ at (impl_at old n) given
  where
    p : ProjectionGoal
    p = as_projection g

    with-value : (i : Impl) → ImplIsGiven old i → (u : Option Ty) → IfSome u (IsTy old.trees)
        → part_with new.trees p i (option_map (ty_tree new.trees) u) ≡ part_with old.trees p i (option_map (ty_tree old.trees) u)
    with-value i t None k = refl
    with-value i t (Some v) k =
        ap (λ x. part-as p i x (ty_tree new.trees v) (map (clause_tree new.trees) i.wheres)) (args-kept old new i.trait_ref.args grows t.header.list).1
        ∙ (ap (λ x. part-as p i (args_forest old.trees i.trait_ref.args) x (map (clause_tree new.trees) i.wheres)) (ty-kept old new v grows k).1
        ∙ ap (λ (x : List Tree). part-as p i (args_forest old.trees i.trait_ref.args) (ty_tree old.trees v) x) (clauses-kept old new i.wheres grows t.wheres).1)

    at : (o : Option Impl) → IfSome o (ImplIsGiven old)
        → maybe no_impl (λ i. part_with new.trees p i (value_in new.trees g.item o)) o ≡ maybe no_impl (λ i. part_with old.trees p i (value_in old.trees g.item o)) o
    at None t = refl
    at (Some i) t =
        with-value i t (value_of (record { 0 = g.item }) i) (value-among (IsTy old.trees) (record { 0 = g.item }) i.values (types-each old.trees (types_of_values i.values) t.values))

pub impls-stay : (old new : Context) → IsWellFormedTable old → Grows old new → (m : TypingMode) (g : NormalizesGoal) (n : ImplId) → impl_part new m g n ≡ impl_part old m g n
impls-stay old new t grows m g n = part-kept old new m g n grows (impl_given old t n)
