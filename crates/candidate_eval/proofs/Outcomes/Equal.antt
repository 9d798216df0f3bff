-- What an answer whether two things are equal says in the words of definitions.
use Rattle.std.proofs.Common.{◌≡◌, refl, sym, ap, ◌∙◌, List, [], ◌∷◌, IsTrue, ◌↔◌, ◌&&◌, Bool, true, false}
use Rattle.std.specs.Cmp.Lexicographic.{pointwise}
use Rattle.ir_trees.specs.Syntax.Trees.{Forest, Tree, ArgumentsKind}
use Rattle.ir_trees.specs.Syntax.Nodes.{tree_at}
use Rattle.ir_trees.specs.Syntax.Words.{IsArgs, args_forest}
use Rattle.ir_trees.specs.declared.ir.kinds.Args.{Args}
use Rattle.ir_trees.proofs.Syntax.Splits.{lists-agree}
use Rattle.ir_trees.specs.Hierarchy.Elaboration.{same_forest, same_tree}
use Rattle.ir_context.proofs.Hierarchy.Elaboration.{forest_is, forest_itself, tree_is, tree_itself}

and-both : (a b : Bool) → (a && b) ≡ true → (a ≡ true) × (b ≡ true)
and-both true b e = (refl, e)
and-both false b e = cc

both : (a b : Bool) → a ≡ true → b ≡ true → (a && b) ≡ true
both true b e f = f
both false b e f = e

row_is : (ts us : List Tree) → pointwise same_tree ts us ≡ true → ts ≡ us
row_is [] [] e = refl
row_is [] (u ∷ us) e = cc
row_is (t ∷ ts) [] e = cc
row_is (t ∷ ts) (u ∷ us) e =
    let x = and-both (same_tree t u) (pointwise same_tree ts us) e in
    ap (λ z. z ∷ ts) (tree_is t u x.0) ∙ ap (λ zs. u ∷ zs) (row_is ts us x.1)

row_itself : (ts : List Tree) → pointwise same_tree ts ts ≡ true
row_itself [] = refl
row_itself (t ∷ ts) = both (same_tree t t) _ (tree_itself t) (row_itself ts)

-- an answer that is true exactly where two are equal is a test that is
says : {X : Type 0} (same : X → X → Bool) (x y : X) (b : Bool) → (same x y ≡ true → x ≡ y) → (x ≡ y → same x y ≡ true) → IsTrue b ↔ (x ≡ y) → b ≡ same x y
says same x y true is itself e = sym (itself (e.0 refl))
says same x y false is itself e = of (same x y) refl
  where
    of : (b : Bool) → same x y ≡ b → false ≡ same x y
    of true q = let t : IsTrue false = e.1 (is q) in absurd cc
    of false q = sym q

pub forest_says : (a b : Forest) (r : Bool) → IsTrue r ↔ (a ≡ b) → r ≡ same_forest a b
forest_says a b r e = says same_forest a b r (forest_is a b) (λ q. ap (same_forest a) (sym q) ∙ forest_itself a) e

-- the same of two lists of a context, which are equal as trees where their members are
pub lists_say : (ts : List Tree) (a b : Args) (r : Bool) → IsArgs ts a → IsArgs ts b → IsTrue r ↔ (tree_at ts a.0 ≡ tree_at ts b.0) → r ≡ same_forest (args_forest ts a) (args_forest ts b)
lists_say ts a b r x y e = forest_says (args_forest ts a) (args_forest ts b) r (
  (λ h. ap (λ (t : Tree). t.children) (e.0 h)),
  (λ h. e.1 (lists-agree ts a.0 b.0 ArgumentsKind _ refl refl x y h)),
)

pub row_says : (ts us : List Tree) (r : Bool) → IsTrue r ↔ (ts ≡ us) → r ≡ pointwise same_tree ts us
row_says ts us r e = says (pointwise same_tree) ts us r (row_is ts us) (λ q. ap (pointwise same_tree ts) (sym q) ∙ row_itself ts) e
