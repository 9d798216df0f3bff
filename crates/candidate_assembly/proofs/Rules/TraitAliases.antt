-- Where clauses of traits, with arguments in the place of parameters.
use Rattle.std.proofs.Common.{◌≡◌, zero, suc, arith, Bool, false, List, [], ◌∷◌, map, refl, sym, ap, subst, ◌∙◌}
use Rattle.std.specs.List.{flat_map}
use Rattle.ir_trees.specs.declared.ir.kinds.Args.{Args}
use Rattle.ir_trees.specs.declared.ir.kinds.Clause.{Clause}
use Rattle.ir_trees.specs.declared.ir.kinds.GoalSource.TheVariants.{Misc}
use Rattle.candidate_eval.specs.declared.eval.certainty.Certainty.TheVariants.{Yes}
use Rattle.candidate_eval.specs.Derivations.ImplRules.{TraitGoal}
use Rattle.candidate_eval.specs.Judges.States.{Env}
use Rattle.candidate_assembly.specs.Rules.BuiltinRules.{misc, positive}
use Rattle.candidate_assembly.specs.Answers.Telling.{HaveNoParameter, flat_rule}
use Rattle.ir_trees.specs.Declarations.Context.{Context, Grows}
use Rattle.ir_trees.specs.Instantiation.Owned.{ClausesAreOwned}
use Rattle.ir_trees.specs.Instantiation.Folding.{lacks_argument, substituted_tree}
use Rattle.ir_trees.specs.Syntax.Trees.{Forest, Tree, is_param, tree_holds}
use Rattle.ir_trees.specs.Syntax.Words.{IsArgs, IsClause, args_forest, clause_tree}
use Rattle.ir_folds.proofs.Instantiation.Joining.{clause-kept}
use Rattle.ir_trees.proofs.Growth.Kept.{args-kept}

abbrev pub with_values : List Tree → Forest → Clause → List Tree
with_values ts args x = substituted_tree args (clause_tree ts x) ∷ []

pub all-values : (ts : List Tree) (args : Forest) (xs : List Clause) → flat_map (with_values ts args) xs ≡ map (λ x. substituted_tree args (clause_tree ts x)) xs
all-values ts args [] = refl
all-values ts args (x ∷ xs) = ap (λ us. substituted_tree args (clause_tree ts x) ∷ us) (all-values ts args xs)

-- Each parameter still has an argument, and the same is put in, where the context has grown.

pub there-still : (old new : Context) (a : Args) (x : Clause) → Grows old new → IsArgs old.trees a → IsClause old.trees x → tree_holds (lacks_argument (args_forest old.trees a)) (clause_tree old.trees x) ≡ false
    → tree_holds (lacks_argument (args_forest new.trees a)) (clause_tree new.trees x) ≡ false
there-still old new a x g i k h = ap (λ (f : Forest). tree_holds (lacks_argument f) (clause_tree new.trees x)) (args-kept old new a g i).1 ∙ (ap (tree_holds (lacks_argument (args_forest old.trees a))) (clause-kept old new x g k).1 ∙ h)

pub put-still : (old new : Context) (a : Args) (x : Clause) → Grows old new → IsArgs old.trees a → IsClause old.trees x
    → with_values new.trees (args_forest new.trees a) x ≡ with_values old.trees (args_forest old.trees a) x
put-still old new a x g i k = ap (λ (f : Forest). substituted_tree f (clause_tree new.trees x) ∷ []) (args-kept old new a g i).1 ∙ ap (λ (t : Tree). substituted_tree (args_forest old.trees a) t ∷ []) (clause-kept old new x g k).1

pub owned-read : (c d : Context) (a : Args) (xs ws : List Clause) → d ≡ c → xs ≡ ws → ClausesAreOwned d.trees (args_forest d.trees a) ws → ClausesAreOwned c.trees (args_forest c.trees a) xs
owned-read c d a xs ws e s o = subst (λ (y : Context). ClausesAreOwned y.trees (args_forest y.trees a) xs) e (subst (ClausesAreOwned d.trees (args_forest d.trees a)) (sym s) o)

-- clauses that are made by putting in trees without parameters have none
pub free-clauses : (ts : List Tree) (xs ws : List Clause) (f : Clause → Tree) → map (clause_tree ts) xs ≡ map f ws → ((w : Clause) → tree_holds is_param (f w) ≡ false) → HaveNoParameter ts xs
free-clauses ts [] ws f e h = λ k d l. absurd (omega (arith, l))
free-clauses ts (x ∷ xs) [] f e h = absurd cc
free-clauses ts (x ∷ xs) (w ∷ ws) f e h =
    let here : clause_tree ts x ≡ f w = cc in
    let rest : map (clause_tree ts) xs ≡ map f ws = cc in
    begins (ap (tree_holds is_param) here ∙ h w) (free-clauses ts xs ws f rest h)
  where
    begins : tree_holds is_param (clause_tree ts x) ≡ false → HaveNoParameter ts xs → HaveNoParameter ts (x ∷ xs)
    begins now more zero d l = now
    begins now more (suc k) d l = more k d (omega (arith, l))

-- the rule by the clauses that were made
pub alias-rule-is : (g : TraitGoal) (e : Env) (b : Bool) (cs ds : List Tree) → e ≡ g.env → b ≡ positive g → cs ≡ ds → flat_rule e b Misc cs misc Yes ≡ flat_rule g.env (positive g) Misc ds misc Yes
alias-rule-is g e b cs ds p q r = ap (λ z. flat_rule z b Misc cs misc Yes) p ∙ (ap (λ z. flat_rule g.env z Misc cs misc Yes) q ∙ ap (λ z. flat_rule g.env (positive g) Misc z misc Yes) r)
