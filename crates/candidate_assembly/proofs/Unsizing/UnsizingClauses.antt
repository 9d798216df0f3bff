-- Clauses that one type unsizes to another.
use Rattle.std.proofs.Common.{◌≡◌, [], ◌∷◌, Some, sym, refl, ap, ◌∙◌}
use Rattle.ir_trees.specs.declared.ir.kinds.PredicatePolarity.TheVariants as Pol
use Rattle.ir_trees.specs.declared.ir.kinds.TraitPredicate.{TraitPredicate}
use Rattle.ir_trees.specs.declared.ir.kinds.TraitRef.{TraitRef}
use Rattle.ir_trees.specs.declared.ir.kinds.Ty.{Ty}
use Rattle.ir_trees.specs.declared.ir.kinds.Vars.{Vars}
use Rattle.ir_trees.specs.Declarations.Context.{Context, Grows, world}
use Rattle.ir_trees.specs.Declarations.References.{ArgumentsFit}
use Rattle.ir_trees.specs.Syntax.Trees.{Kind, TypeKind, Forest, none, Tree, kind_of}
use Rattle.ir_trees.specs.Syntax.Words.{IsArgs, IsTy, IsVars, args_forest, binder_tree, clause_kind_tree, ty_tree, vars_tree}
use Rattle.ir_trees.specs.Declarations.Worlds.{World, TraitSort, joined, kinds_of, parameters}
use Rattle.ir_trees.proofs.Growth.Kept.{world-kept}
use Rattle.ir_trees.proofs.Syntax.Rows.{kind-of}
use Rattle.candidate_eval.specs.Dynamic.ObjectRequirements.{trait_fact}
use Rattle.candidate_assembly.specs.Rules.BuiltinRules.{holds_of, pair_of}
use Rattle.candidate_assembly.proofs.Goals.TraitClauses.{fact-is}

-- Two types are what a trait with one type for its parameter takes.
pub fits-pair : (old new : Context) (r : TraitRef) (t u : Ty) → Grows old new → IsTy old.trees t → IsTy old.trees u → parameters (world old) TraitSort r.def_id.0 ≡ Some (TypeKind ∷ [])
    → args_forest new.trees r.args ≡ pair_of (ty_tree old.trees t) (ty_tree old.trees u) → ArgumentsFit new r
fits-pair old new r t u g k l p a =
    ap (λ (w : World). joined (Some (TypeKind ∷ [])) (parameters w TraitSort r.def_id.0)) (world-kept old new g).0
    ∙ (ap (joined (Some (TypeKind ∷ []))) p
    ∙ (ap (λ (x : Kind). Some (x ∷ (TypeKind ∷ []))) (sym (kind-of old.trees t.0 TypeKind refl k))
    ∙ (ap (λ (x : Kind). Some (kind_of (ty_tree old.trees t).head ∷ (x ∷ []))) (sym (kind-of old.trees u.0 TypeKind refl l)) ∙ ap (λ x. Some (kinds_of x)) (sym a))))

pub made-to-hold : (mid : Context) (v : Vars) (p : TraitPredicate) (args : Forest) → vars_tree mid.trees v ≡ binder_tree [] → IsVars mid.trees v → IsArgs mid.trees p.trait_ref.args → p.polarity ≡ Pol.Positive
    → args_forest mid.trees p.trait_ref.args ≡ args → clause_kind_tree mid.trees (trait_fact v p) ≡ holds_of p.trait_ref.def_id Pol.Positive none args
made-to-hold mid v p args e i a o s =
    fact-is mid.trees v p i a
    ∙ (ap (λ (b : Tree). holds_of p.trait_ref.def_id p.polarity b.children (args_forest mid.trees p.trait_ref.args)) e
    ∙ (ap (λ x. holds_of p.trait_ref.def_id x none (args_forest mid.trees p.trait_ref.args)) o
    ∙ ap (holds_of p.trait_ref.def_id Pol.Positive none) s))
