-- Keys that are the same are equal.
use Rattle.std.proofs.Common.{◌≡◌, ℕ, true, ◌&&◌, ◌==◌, List, [], ◌∷◌, refl, ap, ◌∙◌, rules}
use Rattle.std.specs.Cmp.Lexicographic.{pointwise}
use Rattle.std.proofs.lemmas.Bool.{and_parts}
use Rattle.ir_trees.specs.contracts.ir.kinds.PredicatePolarityPartialEq.TheImpl as polarity
use Rattle.ir_trees.specs.declared.ir.kinds.PredicatePolarity.{PredicatePolarity}
use Rattle.ir_trees.specs.Hierarchy.Elaboration.{same_forest}
use Rattle.ir_context.proofs.Hierarchy.Elaboration.{forest_is}
use Rattle.candidate_eval.specs.contracts.eval.variable.CanonicalVarPartialEq.TheImpl as variable
use Rattle.candidate_eval.specs.declared.eval.variable.CanonicalVar.{CanonicalVar}
use Rattle.candidate_eval.specs.Derivations.ImplRules.{TraitGoal}
use Rattle.rounds_judge.specs.Table.Keys.{Key, same_goal, same_key}

pub variable_is : (v c : CanonicalVar) → variable.eq-value.it v c ≡ true → v ≡ c
variable_is v c e = search rules

polarity_is : (p q : PredicatePolarity) → polarity.eq-value.it p q ≡ true → p ≡ q
polarity_is p q e = search rules

pub variables_are : (vs cs : List CanonicalVar) → pointwise variable.eq-value.it vs cs ≡ true → vs ≡ cs
variables_are [] [] e = refl
variables_are (v ∷ vs) (c ∷ cs) e =
    let p = and_parts (variable.eq-value.it v c) (pointwise variable.eq-value.it vs cs) e in
    ap (λ x. x ∷ vs) (variable_is v c p.0) ∙ ap (λ xs. c ∷ xs) (variables_are vs cs p.1)
variables_are [] (c ∷ cs) e = cc
variables_are (v ∷ vs) [] e = cc

number_is : (m n : ℕ) → (m == n) ≡ true → m ≡ n
number_is m n e = search rules

goal_is : (g h : TraitGoal) → same_goal g h ≡ true → g ≡ h
goal_is g h e =
    let a = and_parts (g.reference.trait == h.reference.trait) (polarity.eq-value.it g.polarity h.polarity && (same_forest g.env h.env && same_forest g.reference.arguments h.reference.arguments)) e in
    let b = and_parts (polarity.eq-value.it g.polarity h.polarity) (same_forest g.env h.env && same_forest g.reference.arguments h.reference.arguments) a.1 in
    let c = and_parts (same_forest g.env h.env) (same_forest g.reference.arguments h.reference.arguments) b.1 in
    rw (number_is g.reference.trait h.reference.trait a.0, polarity_is g.polarity h.polarity b.0, forest_is g.env h.env c.0, forest_is g.reference.arguments h.reference.arguments c.1) refl

pub key_is : (k m : Key) → same_key k m ≡ true → k ≡ m
key_is k m e =
    let p = and_parts (same_goal k.goal m.goal) (pointwise variable.eq-value.it k.variables m.variables) e in
    rw (goal_is k.goal m.goal p.0, variables_are k.variables m.variables p.1) refl
