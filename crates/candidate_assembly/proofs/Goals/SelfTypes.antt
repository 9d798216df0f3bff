-- Lists of arguments with another self type.
use Rattle.std.proofs.Common.{◌≡◌, Bool, false, List, [], ◌∷◌, Option, Some, None, refl, sym, ap, ◌∙◌, slice_set}
use Rattle.ir_trees.specs.declared.ir.heads.Head.{Head}
use Rattle.ir_trees.specs.declared.ir.kinds.GenericArg.{GenericArg}
use Rattle.ir_trees.specs.declared.ir.kinds.GenericArg.TheVariants as G
use Rattle.ir_trees.specs.declared.ir.kinds.ParamEnv.{ParamEnv}
use Rattle.ir_trees.specs.declared.ir.kinds.PredicatePolarity.{PredicatePolarity}
use Rattle.ir_trees.specs.declared.ir.kinds.TraitId.{TraitId}
use Rattle.ir_trees.specs.declared.ir.kinds.TraitPredicate.{TraitPredicate}
use Rattle.ir_trees.specs.declared.ir.kinds.TraitRef.{TraitRef}
use Rattle.ir_trees.specs.declared.ir.kinds.Ty.{Ty}
use Rattle.ir_trees.specs.Syntax.Binders.{escapes}
use Rattle.ir_trees.specs.Declarations.Context.{Context, Grows, world}
use Rattle.ir_trees.specs.Syntax.Nodes.{kind_at}
use Rattle.ir_trees.specs.Declarations.References.{ArgumentsFit}
use Rattle.ir_trees.specs.Unification.Substitutions.{alone}
use Rattle.ir_trees.specs.Hierarchy.Supers.{after_first}
use Rattle.ir_trees.specs.Syntax.Trees.{Kind, TypeKind, ConstantKind, RegionKind, Forest, none, tree, Tree, holds, is_param, kind_of}
use Rattle.ir_trees.specs.Syntax.Words.{IsArgs, IsParamEnv, IsTy, ListFits, args_forest, env_forest, list_forest, ty_tree}
use Rattle.ir_trees.specs.Declarations.Worlds.{World, TraitSort, joined, kinds_of, parameters}
use Rattle.ir_trees.proofs.Growth.Kept.{world-kept}
use Rattle.ir_trees.proofs.Syntax.Rows.{kind-of, row-single}
use Rattle.candidate_eval.specs.Derivations.ImplRules.{TraitGoal}
use Rattle.candidate_eval.specs.Dynamic.ObjectRequirements.{first_tree}
use Rattle.candidate_eval.specs.Judges.States.{Env, State, resolved}
use Rattle.candidate_eval.proofs.Marks.Closed.{after-closed, closed, closed-parts}
use Rattle.candidate_eval.proofs.Marks.Holds.{holds_parts}
use Rattle.candidate_eval.proofs.Marks.Marking.{after-unmarked}
use Rattle.candidate_eval.proofs.Dynamic.Objects.{env-kept}
use Rattle.candidate_eval.proofs.Builtins.Types.{types_kept}
use Rattle.candidate_assembly.specs.Goals.Kinds.{IsGoal}
use Rattle.candidate_assembly.specs.Goals.Standing.{GoalIsValid}
use Rattle.candidate_assembly.specs.Goals.TraitGoals.{arguments_held, trait_goal, types_held, with_first, with_self_type}
use Rattle.candidate_assembly.specs.Goals.TraitRules.{trait_rules, with_arguments}
use Rattle.candidate_assembly.proofs.Goals.Standing.{kinds-resolved, stands-resolved}

first-row : (ts : List Tree) (x : GenericArg) (rest : List GenericArg) → ListFits ts (x ∷ rest) → after_first (list_forest ts (x ∷ rest)) ≡ list_forest ts rest
first-row ts (G.Ty t) rest h = let k : kind_at ts t.0 ≡ TypeKind = cc in ap after_first (row-single ts t.0 TypeKind (list_forest ts rest) refl refl k)
first-row ts (G.Const t) rest h = let k : kind_at ts t.0 ≡ ConstantKind = cc in ap after_first (row-single ts t.0 ConstantKind (list_forest ts rest) refl refl k)
first-row ts (G.Region t) rest h = let k : kind_at ts t.0 ≡ RegionKind = cc in ap after_first (row-single ts t.0 RegionKind (list_forest ts rest) refl refl k)

no-first : (o : Option (List Kind)) (args : Forest) → joined (Some (TypeKind ∷ [])) o ≡ Some (kinds_of args) → none ≡ args → ⊥
no-first None args f e = absurd cc
no-first (Some ks) args f e = let g : Some (TypeKind ∷ ks) ≡ Some (kinds_of none) = f ∙ ap (λ a. Some (kinds_of a)) (sym e) in absurd cc

-- A list of arguments of which the first is another type.
pub first-set : (c : Context) (r : TraitRef) (xs ys : List GenericArg) (t : Ty) → ArgumentsFit c r → ListFits c.trees xs → list_forest c.trees xs ≡ args_forest c.trees r.args → IsTy c.trees t → ys ≡ slice_set xs 0 (G.Ty t)
    → list_forest c.trees ys ≡ with_first (ty_tree c.trees t) (args_forest c.trees r.args)
first-set c r [] ys t f h e k s = absurd (no-first (parameters (world c) TraitSort r.def_id.0) (args_forest c.trees r.args) f e)
first-set c r (x ∷ rest) ys t f h e k s =
    let ts = c.trees in
    ap (list_forest ts) s ∙ (row-single ts t.0 TypeKind (list_forest ts rest) refl refl k
    ∙ ap (tree (ty_tree ts t).head (ty_tree ts t).children) (sym (first-row ts x rest h) ∙ ap after_first e))

-- It has the kinds that it had.
kinds-stay : (o : Option (List Kind)) (t : Tree) (args : Forest) → kind_of t.head ≡ TypeKind → joined (Some (TypeKind ∷ [])) o ≡ Some (kinds_of args) → joined (Some (TypeKind ∷ [])) o ≡ Some (kinds_of (with_first t args))
kinds-stay None t args k e = absurd cc
kinds-stay (Some ks) t none k e = absurd cc
kinds-stay (Some ks) t (tree h below rest) k e =
    let same : ks ≡ kinds_of rest = cc in
    ap (λ js. Some (TypeKind ∷ js)) same ∙ ap (λ j. Some (j ∷ kinds_of rest)) (sym k)

pub fits-still : (old new : Context) (r s : TraitRef) (t : Ty) → Grows old new → s.def_id ≡ r.def_id → IsTy old.trees t → ArgumentsFit old r → args_forest new.trees s.args ≡ with_first (ty_tree old.trees t) (args_forest old.trees r.args)
    → ArgumentsFit new s
fits-still old new r s t g i k f e =
    ap (λ n. joined (Some (TypeKind ∷ [])) (parameters (world new) TraitSort n.0)) i
    ∙ (ap (λ (w : World). joined (Some (TypeKind ∷ [])) (parameters w TraitSort r.def_id.0)) (world-kept old new g).0
    ∙ (kinds-stay (parameters (world old) TraitSort r.def_id.0) (ty_tree old.trees t) (args_forest old.trees r.args) (kind-of old.trees t.0 TypeKind refl k) f
    ∙ ap (λ a. Some (kinds_of a)) (sym e)))

-- A goal with another self type.

abbrev goal-with : Env → TraitId → Forest → PredicatePolarity → TraitGoal
goal-with e i a o = record { env = e; reference = record { trait = i.0; arguments = a }; polarity = o }

pub same-trait-goal : (old new : Context) (env : ParamEnv) (p q : TraitPredicate) (t : Tree) → env_forest new.trees env ≡ env_forest old.trees env → q.trait_ref.def_id ≡ p.trait_ref.def_id → q.polarity ≡ p.polarity
    → args_forest new.trees q.trait_ref.args ≡ with_first t (args_forest old.trees p.trait_ref.args) → trait_goal new.trees env q ≡ with_self_type (trait_goal old.trees env p) t
same-trait-goal old new env p q t e i o a =
    ap (λ x. goal-with x q.trait_ref.def_id (args_forest new.trees q.trait_ref.args) q.polarity) e
    ∙ (ap (λ x. goal-with (env_forest old.trees env) x (args_forest new.trees q.trait_ref.args) q.polarity) i
    ∙ (ap (λ x. goal-with (env_forest old.trees env) p.trait_ref.def_id x q.polarity) a
    ∙ ap (goal-with (env_forest old.trees env) p.trait_ref.def_id (with_first t (args_forest old.trees p.trait_ref.args))) o))

-- The self type of a reference is a type.
pub first-is-type : (c : Context) (r : TraitRef) → ArgumentsFit c r → kind_of (first_tree (args_forest c.trees r.args)).head ≡ TypeKind
first-is-type c r f = at (parameters (world c) TraitSort r.def_id.0) (args_forest c.trees r.args) f
  where
    at : (o : Option (List Kind)) (args : Forest) → joined (Some (TypeKind ∷ [])) o ≡ Some (kinds_of args) → kind_of (first_tree args).head ≡ TypeKind
    at None args f = absurd cc
    at (Some ks) none f = absurd cc
    at (Some ks) (tree h below rest) f = let same : TypeKind ≡ kind_of h = cc in sym same

first-unmarked : (mark : Head → Bool) (t : Tree) (ts : Forest) → holds mark (alone t) ≡ false → holds mark ts ≡ false → holds mark (with_first t ts) ≡ false
first-unmarked mark t ts e a = let p = holds_parts mark t.head t.children none e in rw (p.here, p.under) (after-unmarked mark ts a)

first-closed : (t : Tree) (ts : Forest) → escapes 0 (alone t) ≡ false → escapes 0 ts ≡ false → escapes 0 (with_first t ts) ≡ false
first-closed t ts e a = let p = closed-parts 0 t.head t.children none e in closed 0 t.head t.children (after_first ts) p.here p.under (after-closed 0 ts a)

pub other-goal : (old new : Context) (env : ParamEnv) (p q : TraitPredicate) (t : Ty) → Grows old new → IsGoal trait_rules arguments_held types_held trait_goal old env p
    → IsArgs new.trees q.trait_ref.args → ArgumentsFit new q.trait_ref → args_forest new.trees q.trait_ref.args ≡ with_first (ty_tree old.trees t) (args_forest old.trees p.trait_ref.args)
    → holds is_param (alone (ty_tree old.trees t)) ≡ false → escapes 0 (alone (ty_tree old.trees t)) ≡ false → IsGoal trait_rules arguments_held types_held trait_goal new env q
other-goal old new env p q t g h i f a free e =
    let args = args_forest old.trees p.trait_ref.args in
    record {
      env = (env-kept old new env g h.env).0;
      arguments = i;
      types = (types_kept old.trees new.trees (types_held p) g.kept h.types).0;
      fit = f;
      no_parameter = ap (holds is_param) a ∙ first-unmarked is_param (ty_tree old.trees t) args free h.no_parameter;
      is_closed = ap (escapes 0) a ∙ first-closed (ty_tree old.trees t) args e h.is_closed;
    }

-- A goal with values put in.

pub resolved-trait-goal : (old new : Context) (env other : ParamEnv) (p q : TraitPredicate) (ts : Forest) → env_forest new.trees other ≡ env_forest old.trees other → q.trait_ref.def_id ≡ p.trait_ref.def_id → q.polarity ≡ p.polarity
    → args_forest new.trees q.trait_ref.args ≡ ts → trait_goal new.trees other q ≡ with_arguments (trait_goal old.trees env p) (env_forest old.trees other) ts
resolved-trait-goal old new env other p q ts e i o a =
    ap (λ x. goal-with x q.trait_ref.def_id (args_forest new.trees q.trait_ref.args) q.polarity) e
    ∙ (ap (λ x. goal-with (env_forest old.trees other) x (args_forest new.trees q.trait_ref.args) q.polarity) i
    ∙ (ap (λ x. goal-with (env_forest old.trees other) p.trait_ref.def_id x q.polarity) a
    ∙ ap (goal-with (env_forest old.trees other) p.trait_ref.def_id ts) o))

pub resolved-goal : (old new : Context) (S : State) (env other : ParamEnv) (p q : TraitPredicate) → Grows old new → IsGoal trait_rules arguments_held types_held trait_goal old env p
    → IsParamEnv old.trees other → IsArgs new.trees q.trait_ref.args → q.trait_ref.def_id ≡ p.trait_ref.def_id → args_forest new.trees q.trait_ref.args ≡ resolved S (args_forest old.trees p.trait_ref.args)
    → GoalIsValid trait_rules S (trait_goal old.trees env p) → IsGoal trait_rules arguments_held types_held trait_goal new other q
resolved-goal old new S env other p q g h w i same a s =
    let args = args_forest old.trees p.trait_ref.args in
    let r = stands-resolved S (env_forest old.trees env) args s in
    record {
      env = (env-kept old new other g w).0;
      arguments = i;
      types = (types_kept old.trees new.trees (types_held p) g.kept h.types).0;
      fit = ap (λ n. joined (Some (TypeKind ∷ [])) (parameters (world new) TraitSort n.0)) same
          ∙ (ap (λ (w : World). joined (Some (TypeKind ∷ [])) (parameters w TraitSort p.trait_ref.def_id.0)) (world-kept old new g).0
          ∙ (h.fit ∙ ap Some (sym (ap kinds_of a ∙ kinds-resolved S s.live s.fits args s.trees.known))));
      no_parameter = ap (holds is_param) a ∙ r.trees_free;
      is_closed = ap (escapes 0) a ∙ r.trees.is_closed;
    }
