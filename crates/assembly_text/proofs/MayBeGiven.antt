-- The clauses that an evaluator is given, and the goals that a text asks for.
use Rattle.std.proofs.Common.{◌≡◌, false, ◌∙◌, Some, map, List, [], ◌∷◌, All, refl, sym, ap, subst}
use Rattle.std.proofs.lemmas.List.Elements.{All-head, All-tail}
use Rattle.ir_trees.specs.Syntax.Trees.{Tree}
use Rattle.ir_trees.specs.declared.ir.kinds.Clause.{Clause}
use Rattle.ir_trees.specs.Syntax.Binders.{escapes}
use Rattle.ir_trees.specs.Declarations.Context.{Context, Grows}
use Rattle.ir_trees.specs.Syntax.Kinds.{numbers}
use Rattle.ir_trees.specs.Syntax.Nodes.{clause_child, kinds_at}
use Rattle.ir_trees.specs.Syntax.Trees.{ClauseKind, TypeKind, holds, is_param}
use Rattle.ir_trees.specs.Syntax.Words.{ClauseListFits, IsClause, IsParamEnv, args_forest}
use Rattle.ir_trees.specs.Declarations.Worlds.{World, TraitSort, joined, kinds_of, parameters}
use Rattle.ir_trees.proofs.Growth.Kept.{args-kept, header-kept, world-kept}
use Rattle.ir_trees.specs.declared.ir.kinds.ParamEnv.{ParamEnv}
use Rattle.ir_trees.specs.declared.ir.kinds.TraitPredicate.{TraitPredicate}
use Rattle.candidate_assembly.specs.Goals.Kinds.{IsGoal}
use Rattle.candidate_assembly.specs.Goals.TraitGoals.{arguments_held, trait_goal, types_held}
use Rattle.candidate_assembly.specs.Goals.TraitRules.{trait_rules}
use Rattle.candidate_rounds.specs.Evaluators.Known.{Evaluator}
use Rattle.assembly_notation.specs.declared.given.Given.{Given}
use Rattle.assembly_text.specs.Solving.{GivenIsListed, IsNewFor, IsReadGoal}

-- clauses, each of the context, are a list of it
pub clauses-fit : (ts : List Tree) (xs : List Clause) → All (IsClause ts) xs → ClauseListFits ts xs
clauses-fit ts [] a = refl
clauses-fit ts (x ∷ xs) a =
    ap (λ k. k ∷ kinds_at ts (numbers (map clause_child xs))) (All-head (IsClause ts) x xs a) ∙ ap (λ ks. ClauseKind ∷ ks) (clauses-fit ts xs (All-tail (IsClause ts) x xs a))

-- those that are given fit in an evaluator that is new for it
pub clauses-of-new : (c : Context) (g : Given) (r : Evaluator) (xs : List Clause) → IsNewFor c g r → GivenIsListed c.trees g → xs ≡ g.clauses.items → ClauseListFits r.context.trees xs
clauses-of-new c g r xs made fits e =
    subst (λ (x : Context). ClauseListFits x.trees xs) (sym made.context) (subst (ClauseListFits c.trees) (sym e) (clauses-fit c.trees g.clauses.items fits.fits.clauses))

-- A reference that a text gives is a goal, in an environment.
pub goal-of : (old new : Context) (env : ParamEnv) (p : TraitPredicate) → Grows old new → IsParamEnv new.trees env → IsReadGoal old p → escapes 0 (args_forest old.trees p.trait_ref.args) ≡ false
    → IsGoal trait_rules arguments_held types_held trait_goal new env p
goal-of old new env p g e read c =
    let k = args-kept old new p.trait_ref.args g read.args in
    record {
      env = e;
      arguments = k.0;
      types = refl;
      fit = ap (λ (w : World). joined (Some (TypeKind ∷ [])) (parameters w TraitSort p.trait_ref.def_id.0)) (world-kept old new g).0 ∙ (read.fit ∙ ap (λ ts. Some (kinds_of ts)) (sym k.1));
      no_parameter = ap (holds is_param) k.1 ∙ read.no_param;
      is_closed = ap (escapes 0) k.1 ∙ c;
    }

-- It is still one as the context grows.
pub read-kept : (old new : Context) (p : TraitPredicate) → Grows old new → IsReadGoal old p → IsReadGoal new p
read-kept old new p g read =
    let k = args-kept old new p.trait_ref.args g read.args in
    record { args = k.0; no_param = ap (holds is_param) k.1 ∙ read.no_param; fit = header-kept old new p.trait_ref g read.args read.fit }
