-- Environments with all values put in, clause by clause.
use Rattle.std.proofs.Common.{◌≡◌, List, [], ◌∷◌, refl, sym, ◌∙◌, ap, subst}
use Rattle.std.specs.Prelude.{map}
use Rattle.std.specs.List.{flat_map}
use Rattle.ir_trees.specs.declared.ir.kinds.Clause.{Clause}
use Rattle.ir_trees.specs.declared.ir.kinds.ParamEnv.{ParamEnv}
use Rattle.ir_trees.specs.Declarations.Context.{Context}
use Rattle.ir_trees.specs.Syntax.Nodes.{kind_at}
use Rattle.ir_trees.specs.Syntax.Trees.{ClauseKind, tree, Tree}
use Rattle.ir_trees.specs.Syntax.Words.{ClauseListFits, clause_list_forest, clause_tree, env_forest}
use Rattle.ir_trees.proofs.Syntax.Rows.{row-single}
use Rattle.candidate_eval.specs.Judges.States.{State, resolved, resolved_tree}

abbrev pub resolved_one : State → List Tree → Clause → List Tree
resolved_one S ts x = resolved_tree S (clause_tree ts x) ∷ []

pub resolved-env : (S : State) (old new : List Tree) (xs ys : List Clause) → ClauseListFits old xs → ClauseListFits new ys → map (clause_tree new) ys ≡ flat_map (resolved_one S old) xs
    → clause_list_forest new ys ≡ resolved S (clause_list_forest old xs)
resolved-env S old new [] [] f g e = refl
resolved-env S old new [] (y ∷ ys) f g e = absurd cc
resolved-env S old new (x ∷ xs) [] f g e = absurd cc
resolved-env S old new (x ∷ xs) (y ∷ ys) f g e =
    let here : clause_tree new y ≡ resolved_tree S (clause_tree old x) = cc in
    let others : map (clause_tree new) ys ≡ flat_map (resolved_one S old) xs = cc in
    let was : kind_at old x.0 ≡ ClauseKind = cc in
    let is : kind_at new y.0 ≡ ClauseKind = cc in
    let fits : ClauseListFits old xs = cc in
    let fit : ClauseListFits new ys = cc in
    let t = resolved_tree S (clause_tree old x) in
    row-single new y.0 ClauseKind (clause_list_forest new ys) refl refl is
    ∙ (ap (λ (u : Tree). tree u.head u.children (clause_list_forest new ys)) here
    ∙ (ap (tree t.head t.children) (resolved-env S old new xs ys fits fit others)
    ∙ ap (resolved S) (sym (row-single old x.0 ClauseKind (clause_list_forest old xs) refl refl was))))

-- what was read of it
pub read-env : (a b : Context) (e : ParamEnv) (xs ys : List Clause) → b ≡ a → ys ≡ xs → ClauseListFits b.trees xs → clause_list_forest b.trees xs ≡ env_forest b.trees e
    → ClauseListFits a.trees ys × (clause_list_forest a.trees ys ≡ env_forest a.trees e)
read-env a b e xs ys same is f t =
    subst (λ (x : Context). ClauseListFits x.trees ys × (clause_list_forest x.trees ys ≡ env_forest x.trees e)) same
    (subst (λ (zs : List Clause). ClauseListFits b.trees zs × (clause_list_forest b.trees zs ≡ env_forest b.trees e)) (sym is) (f, t))

pub one-resolved : (S T : State) (old now : List Tree) (x : Clause) (t : Tree) → T ≡ S → clause_tree now x ≡ clause_tree old x → t ≡ resolved_tree T (clause_tree now x)
    → t ≡ resolved_tree S (clause_tree old x)
one-resolved S T old now x t f s e = e ∙ (ap (λ (R : State). resolved_tree R (clause_tree now x)) f ∙ ap (resolved_tree S) s)
