-- Clauses that a trait without parameters holds of a type.
use Rattle.std.proofs.Common.{◌≡◌, false, [], ◌∷◌, List, Option, Some, None, sym, refl, ap, ◌∙◌}
use Rattle.ir_trees.specs.declared.ir.kinds.GenericArg.TheVariants as G
use Rattle.ir_trees.specs.declared.ir.kinds.GoalSource.TheVariants.{ImplWhereBound}
use Rattle.ir_trees.specs.declared.ir.kinds.PredicatePolarity.TheVariants as Pol
use Rattle.ir_trees.specs.declared.ir.kinds.TraitId.{TraitId}
use Rattle.ir_trees.specs.declared.ir.kinds.TraitPredicate.{TraitPredicate}
use Rattle.ir_trees.specs.declared.ir.kinds.TraitRef.{TraitRef}
use Rattle.ir_trees.specs.declared.ir.kinds.Ty.{Ty}
use Rattle.ir_trees.specs.declared.ir.kinds.Vars.{Vars}
use Rattle.ir_trees.specs.Declarations.Context.{Context, Grows, world}
use Rattle.ir_trees.specs.Declarations.References.{ArgumentsFit}
use Rattle.ir_trees.specs.Unification.Substitutions.{alone}
use Rattle.ir_trees.specs.Syntax.Trees.{Kind, TypeKind, none, Tree}
use Rattle.ir_trees.specs.Syntax.Words.{IsArgs, IsTy, IsVars, args_forest, binder_tree, clause_kind_tree, list_forest, ty_tree, vars_tree}
use Rattle.ir_trees.specs.Declarations.Worlds.{World, TraitSort, joined, kinds_of, parameters}
use Rattle.ir_trees.proofs.Growth.Kept.{world-kept}
use Rattle.ir_trees.proofs.Syntax.Rows.{kind-of, row-single}
use Rattle.candidate_eval.specs.declared.eval.certainty.Certainty.TheVariants.{Yes}
use Rattle.candidate_eval.specs.Derivations.ImplRules.{TraitGoal}
use Rattle.candidate_eval.specs.Derivations.Judging.{Refused, judged}
use Rattle.candidate_eval.specs.Dynamic.ObjectRequirements.{trait_fact}
use Rattle.candidate_eval.specs.Judges.States.{Judge, State}
use Rattle.candidate_assembly.specs.Rules.BuiltinRules.{copy_rule, holds_of, meets, misc, positive, self_of}
use Rattle.candidate_assembly.proofs.Goals.TraitClauses.{fact-is}
use Rattle.candidate_assembly.proofs.Rules.Flat.{flat-refused}

pub one-type : (ts : List Tree) (t : Ty) → IsTy ts t → list_forest ts (G.Ty t ∷ []) ≡ alone (ty_tree ts t)
one-type ts t k = row-single ts t.0 TypeKind none refl refl k

-- A type alone is what a trait without parameters takes.
pub fits-alone : (old new : Context) (r : TraitRef) (t : Ty) → Grows old new → IsTy old.trees t → parameters (world old) TraitSort r.def_id.0 ≡ Some [] → args_forest new.trees r.args ≡ alone (ty_tree old.trees t) → ArgumentsFit new r
fits-alone old new r t g k p a =
    ap (λ (w : World). joined (Some (TypeKind ∷ [])) (parameters w TraitSort r.def_id.0)) (world-kept old new g).0
    ∙ (ap (joined (Some (TypeKind ∷ []))) p
    ∙ (ap (λ (x : Kind). Some (x ∷ [])) (sym (kind-of old.trees t.0 TypeKind refl k)) ∙ ap (λ x. Some (kinds_of x)) (sym a)))

pub made-to-meet : (mid : Context) (v : Vars) (p : TraitPredicate) (t : Tree) → vars_tree mid.trees v ≡ binder_tree [] → IsVars mid.trees v → IsArgs mid.trees p.trait_ref.args → p.polarity ≡ Pol.Positive
    → args_forest mid.trees p.trait_ref.args ≡ alone t → clause_kind_tree mid.trees (trait_fact v p) ≡ meets p.trait_ref.def_id t
made-to-meet mid v p t e i a o s =
    fact-is mid.trees v p i a
    ∙ (ap (λ (b : Tree). holds_of p.trait_ref.def_id p.polarity b.children (args_forest mid.trees p.trait_ref.args)) e
    ∙ (ap (λ x. holds_of p.trait_ref.def_id x none (args_forest mid.trees p.trait_ref.args)) o
    ∙ ap (holds_of p.trait_ref.def_id Pol.Positive none) s))

-- That the type is `Copy` isn't asked for a goal that isn't positive.
pub copy-refused : (J : Judge) (S : State) (g : TraitGoal) (o : Option TraitId) → positive g ≡ false → judged J S (copy_rule g o) ≡ Refused
copy-refused J S g None n = refl
copy-refused J S g (Some copy) n = flat-refused J S g.env (positive g) ImplWhereBound (meets copy (self_of g) ∷ []) misc Yes n
