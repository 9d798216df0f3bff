-- Goals of traits, and the clauses that they are matched with.
use Rattle.std.proofs.Common.{◌≡◌, refl, sym, ap, ◌∙◌, Bool, true, false, ◌&&◌, [], ◌∷◌, Some, None}
use Rattle.ir_trees.specs.declared.ir.heads.ClauseHead.TheVariants as Cl
use Rattle.ir_trees.specs.declared.ir.heads.Head.{Head}
use Rattle.ir_trees.specs.declared.ir.heads.Head.TheVariants as H
use Rattle.ir_trees.specs.declared.ir.heads.PartHead.TheVariants as P
use Rattle.ir_trees.specs.declared.ir.kinds.PredicatePolarity.{PredicatePolarity}
use Rattle.ir_trees.specs.declared.ir.kinds.TraitId.{TraitId}
use Rattle.ir_trees.specs.declared.ir.unify.RightSide.TheVariants as R
use Rattle.ir_trees.specs.Declarations.Context.{Context}
use Rattle.ir_trees.specs.Instantiation.Folding.{substituted}
use Rattle.ir_trees.specs.Hierarchy.Supers.{after_first}
use Rattle.ir_trees.specs.Syntax.Trees.{Forest, none, Tree, holds, is_param}
use Rattle.ir_trees.specs.Unification.Unify.{may_unify}
use Rattle.ir_trees.proofs.Instantiation.Folding.{substituted-nothing}
use Rattle.candidate_eval.specs.Derivations.Characterization.{bound_kinds}
use Rattle.candidate_eval.specs.Interface.Evaluators.{accepted}
use Rattle.candidate_eval.specs.Derivations.ImplRules.{TraitGoal}
use Rattle.candidate_eval.specs.Derivations.Judging.{Reached, At, Over, Refused, at_if, go_on, run, start, step}
use Rattle.candidate_eval.specs.Derivations.Naming.{named_clause}
use Rattle.candidate_eval.specs.Dynamic.ObjectRequirements.{arguments_of, trait_said}
use Rattle.candidate_eval.specs.Dynamic.Objects.{fresh_instance, with_instance}
use Rattle.candidate_eval.specs.Derivations.Rules.{quick, fresh, equate}
use Rattle.candidate_eval.specs.Judges.States.{State, Judge, fresh_variables}
use Rattle.candidate_eval.proofs.Marks.Marking.{after-unmarked}
use Rattle.candidate_eval.proofs.Derivations.Naming.{named-instance}
use Rattle.candidate_assembly.specs.Goals.Kinds.{arguments_by, passes}
use Rattle.candidate_assembly.specs.Answers.Telling.{standing}
use Rattle.candidate_assembly.specs.Goals.TraitGoals.{fits, match_trait}
use Rattle.candidate_assembly.specs.Goals.TraitRules.{trait_rules}
use Rattle.candidate_assembly.proofs.Calls.Stepping.{equation-reaches, equation-refuses}

-- Quick rejection, by what the clause says of a trait.

abbrev passes-by : Context → TraitGoal → Head → Forest → Bool
passes-by c g h below = fits c g h && may_unify R.Plain g.reference.arguments (arguments_by h below)

passes-so : (c : Context) (g : TraitGoal) (h : Head) (below : Forest) (i : TraitId) (p : PredicatePolarity) → trait_said h ≡ Some (i, p)
    → passes-by c g h below ≡ (fits c g (H.Part (P.Clause (Cl.Trait i p))) && may_unify R.Plain g.reference.arguments below)
passes-so c g (H.Part (P.Clause (Cl.Trait j q))) below i p e =
    let same : (j, q) ≡ (i, p) = cc in
    ap (λ (x : TraitId × PredicatePolarity). fits c g (H.Part (P.Clause (Cl.Trait x.0 x.1))) && may_unify R.Plain g.reference.arguments below) same
passes-so c g _ below i p e = absurd cc

-- one that says something of a trait passes by that and by its arguments
pub passes-said : (c : Context) (g : TraitGoal) (t : Tree) (i : TraitId) (p : PredicatePolarity) (fit unify : Bool) → trait_said t.head ≡ Some (i, p)
    → fit ≡ fits c g (H.Part (P.Clause (Cl.Trait i p))) → unify ≡ may_unify R.Plain g.reference.arguments (arguments_of t) → passes trait_rules c g t ≡ (fit && unify)
passes-said c g t i p fit unify said f u =
    passes-so c g t.head (after_first t.children) i p said ∙ (ap (λ x. x && may_unify R.Plain g.reference.arguments (arguments_of t)) (sym f) ∙ ap (λ x. fit && x) (sym u))

-- others don't pass
pub passes-nothing : (c : Context) (g : TraitGoal) (t : Tree) → trait_said t.head ≡ None → passes trait_rules c g t ≡ false
passes-nothing c g t e = at t.head (after_first t.children) e
  where
    at : (h : Head) (below : Forest) → trait_said h ≡ None → passes-by c g h below ≡ false
    at (H.Part (P.Clause (Cl.Trait j q))) below e = absurd cc
    at _ below e = refl

-- The steps that match a clause without parameters, for a goal without parameters.

module _ (J : Judge) (S : State) (g : TraitGoal) (c : Tree) (n : holds is_param g.reference.arguments ≡ false) (m : holds is_param c.children ≡ false) where
  abbrev a : Forest
  a = g.reference.arguments

  abbrev ls : Forest
  ls = fresh_variables S (bound_kinds c.children)

  quick-says : step J g.env (start S) (quick a (after_first c.children)) ≡ at_if (start S) (may_unify R.Plain a (after_first c.children))
  quick-says =
      ap (λ x. at_if (start S) (may_unify R.Plain x (substituted none 1 (after_first c.children)))) (substituted-nothing none 0 a n)
      ∙ ap (λ x. at_if (start S) (may_unify R.Plain a x)) (substituted-nothing none 1 (after_first c.children) (after-unmarked is_param c.children m))

  abbrev last : Reached
  last = step J g.env (standing (with_instance S c) ls) (equate a (after_first (named_clause 0 c).children))

  to-last : may_unify R.Plain a (after_first c.children) ≡ true → run J g.env (start S) (match_trait g c) ≡ go_on last (λ q. At q)
  to-last e =
      ap (λ z. go_on z (λ q. run J g.env q (fresh (bound_kinds c.children) ∷ equate a (after_first (named_clause 0 c).children) ∷ []))) (quick-says ∙ ap (at_if (start S)) e)

  -- Else the equation of the arguments with those of the clause's instance decides.

  pub matching-reaches : may_unify R.Plain a (after_first c.children) ≡ true → (T : State) → accepted J (with_instance S c) g.env a (arguments_of (fresh_instance S c)) ≡ Some T
      → run J g.env (start S) (match_trait g c) ≡ At (standing T ls)
  matching-reaches e T h =
      to-last e
      ∙ ap (λ z. go_on z (λ q. At q))
      (equation-reaches J g.env (standing (with_instance S c) ls) a (after_first (named_clause 0 c).children) a (arguments_of (fresh_instance S c)) T (substituted-nothing ls 0 a n) (named-instance S none c m) h)

  pub matching-refuses : may_unify R.Plain a (after_first c.children) ≡ true → accepted J (with_instance S c) g.env a (arguments_of (fresh_instance S c)) ≡ None
      → run J g.env (start S) (match_trait g c) ≡ Over Refused
  matching-refuses e h =
      to-last e
      ∙ ap (λ z. go_on z (λ q. At q))
      (equation-refuses J g.env (standing (with_instance S c) ls) a (after_first (named_clause 0 c).children) a (arguments_of (fresh_instance S c)) (substituted-nothing ls 0 a n) (named-instance S none c m) h)

-- Quick rejection in parts.

both-true : (a b : Bool) → (a && b) ≡ true → (a ≡ true) × (b ≡ true)
both-true true b e = (refl, e)
both-true false b e = absurd cc

-- a clause that fits says something of a trait
trait-by-fits : (c : Context) (g : TraitGoal) (h : Head) (below : Forest) → fits c g h ≡ true → arguments_by h below ≡ below
trait-by-fits c g (H.Part (P.Clause (Cl.Trait j q))) below e = refl
trait-by-fits c g (H.Part (P.Clause (Cl.Projection j))) below e = absurd cc
trait-by-fits c g _ below e = refl

pub passes-unified : (c : Context) (g : TraitGoal) (t : Tree) → passes trait_rules c g t ≡ true → (fits c g t.head ≡ true) × (may_unify R.Plain g.reference.arguments (after_first t.children) ≡ true)
passes-unified c g t e =
    let both = both-true (fits c g t.head) (may_unify R.Plain g.reference.arguments (arguments_by t.head (after_first t.children))) e in
    (both.0, ap (may_unify R.Plain g.reference.arguments) (sym (trait-by-fits c g t.head (after_first t.children) both.0)) ∙ both.1)
