-- Clauses that a trait holds of something, or doesn't.
use Rattle.std.proofs.Common.{◌≡◌, List, [], ◌∷◌, Some, refl, sym, ap, subst, ◌∙◌}
use Rattle.ir_trees.specs.declared.ir.kinds.TraitPredicate.{TraitPredicate}
use Rattle.ir_trees.specs.declared.ir.kinds.TraitRef.{TraitRef}
use Rattle.ir_trees.specs.declared.ir.kinds.Vars.{Vars}
use Rattle.ir_trees.specs.Declarations.Context.{Context, Grows, world}
use Rattle.ir_trees.specs.Syntax.Nodes.{kind_at}
use Rattle.ir_trees.specs.Declarations.References.{ArgumentsFit, Takes}
use Rattle.ir_trees.specs.Syntax.Trees.{TypeKind, ArgumentsKind, BinderKind, Forest, none, Tree}
use Rattle.ir_trees.specs.Syntax.Words.{ClauseFits, IsArgs, IsVars, args_forest, binder_tree, clause_kind_tree, vars_tree}
use Rattle.ir_trees.specs.Declarations.Worlds.{World, TraitSort, joined, kinds_of, parameters}
use Rattle.ir_folds.proofs.Instantiation.Joining.{clause-over}
use Rattle.ir_trees.proofs.Growth.Kept.{args-kept, world-kept}
use Rattle.ir_trees.proofs.Syntax.Rows.{join-none, row-list}
use Rattle.candidate_eval.specs.Dynamic.ObjectRequirements.{trait_fact}
use Rattle.candidate_assembly.specs.Rules.BuiltinRules.{holds_of, said_of_type}
use Rattle.candidate_assembly.specs.Goals.TraitGoals.{with_first}

pub fact-fits : (ts : List Tree) (v : Vars) (p : TraitPredicate) → IsVars ts v → IsArgs ts p.trait_ref.args → ClauseFits ts (trait_fact v p)
fact-fits ts v p i a = ap (λ k. k ∷ kind_at ts p.trait_ref.args.0 ∷ []) i ∙ ap (λ k. BinderKind ∷ k ∷ []) a

pub fact-is : (ts : List Tree) (v : Vars) (p : TraitPredicate) → IsVars ts v → IsArgs ts p.trait_ref.args
    → clause_kind_tree ts (trait_fact v p) ≡ holds_of p.trait_ref.def_id p.polarity (vars_tree ts v).children (args_forest ts p.trait_ref.args)
fact-is ts v p i a =
    clause-over ts (trait_fact v p) (fact-fits ts v p i a)
    ∙ ap (holds_of p.trait_ref.def_id p.polarity (vars_tree ts v).children) (row-list ts p.trait_ref.args.0 ArgumentsKind none refl refl a ∙ join-none (args_forest ts p.trait_ref.args))

takes-by : (w : World) (p : TraitPredicate) (vs args : Forest) → joined (Some (TypeKind ∷ [])) (parameters w TraitSort p.trait_ref.def_id.0) ≡ Some (kinds_of args) → Takes w (holds_of p.trait_ref.def_id p.polarity vs args)
takes-by w p vs args f = λ e. ap (joined (Some (BinderKind ∷ []))) f

pub fact-takes : (c : Context) (v : Vars) (p : TraitPredicate) → IsVars c.trees v → IsArgs c.trees p.trait_ref.args → ArgumentsFit c p.trait_ref → Takes (world c) (clause_kind_tree c.trees (trait_fact v p))
fact-takes c v p i a f = subst (Takes (world c)) (sym (fact-is c.trees v p i a)) (takes-by (world c) p (vars_tree c.trees v).children (args_forest c.trees p.trait_ref.args) f)

-- Arguments that a trait takes are such still where a context has grown.
pub fit-kept : (old new : Context) (r : TraitRef) → Grows old new → IsArgs old.trees r.args → ArgumentsFit old r → ArgumentsFit new r
fit-kept old new r g i f =
    ap (λ (w : World). joined (Some (TypeKind ∷ [])) (parameters w TraitSort r.def_id.0)) (world-kept old new g).0
    ∙ (f ∙ ap (λ (t : Forest). Some (kinds_of t)) (sym (args-kept old new r.args g i).1))

-- A clause that was made over a predicate with another self type.
pub made-for-type : (mid : Context) (v : Vars) (p q : TraitPredicate) (t : Tree) (args : Forest) → vars_tree mid.trees v ≡ binder_tree [] → IsVars mid.trees v → IsArgs mid.trees q.trait_ref.args
    → q.trait_ref.def_id ≡ p.trait_ref.def_id → q.polarity ≡ p.polarity → args_forest mid.trees q.trait_ref.args ≡ with_first t args
    → clause_kind_tree mid.trees (trait_fact v q) ≡ said_of_type args p t
made-for-type mid v p q t args e i a d o s =
    fact-is mid.trees v q i a
    ∙ (ap (λ x. holds_of q.trait_ref.def_id q.polarity x (args_forest mid.trees q.trait_ref.args)) (ap (λ (b : Tree). b.children) e)
    ∙ (ap (λ x. holds_of x q.polarity none (args_forest mid.trees q.trait_ref.args)) d
    ∙ (ap (λ x. holds_of p.trait_ref.def_id x none (args_forest mid.trees q.trait_ref.args)) o
    ∙ ap (holds_of p.trait_ref.def_id p.polarity none) s)))
