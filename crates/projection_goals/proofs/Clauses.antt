-- Goals that a projection is a term, and the clauses that they are matched with.
use Rattle.std.proofs.Common.{◌≡◌, refl, sym, ap, ◌∙◌, Bool, true, false, ◌&&◌, [], ◌∷◌, Option, Some, None}
use Rattle.ir_trees.specs.declared.ir.heads.ClauseHead.TheVariants as Cl
use Rattle.ir_trees.specs.declared.ir.heads.Head.{Head}
use Rattle.ir_trees.specs.declared.ir.heads.Head.TheVariants as H
use Rattle.ir_trees.specs.declared.ir.heads.PartHead.TheVariants as P
use Rattle.ir_trees.specs.declared.ir.unify.RightSide.TheVariants as R
use Rattle.ir_trees.specs.Declarations.Context.{Context}
use Rattle.ir_trees.specs.Hierarchy.Supers.{after_first}
use Rattle.ir_trees.specs.Instantiation.Folding.{substituted}
use Rattle.ir_trees.specs.Syntax.Trees.{Forest, none, Tree, holds, is_param, join}
use Rattle.ir_trees.specs.Unification.Substitutions.{alone}
use Rattle.ir_trees.specs.Unification.Unify.{may_unify}
use Rattle.ir_trees.proofs.Instantiation.Folding.{substituted-nothing}
use Rattle.candidate_eval.specs.Builtins.Callable.{all_but_last}
use Rattle.candidate_eval.specs.Derivations.Characterization.{bound_kinds}
use Rattle.candidate_eval.specs.Derivations.Judging.{Place, Reached, At, Over, Refused, at_if, go_on, run, start, step}
use Rattle.candidate_eval.specs.Derivations.Naming.{named_clause}
use Rattle.candidate_eval.specs.Derivations.Rules.{equate, fresh, quick}
use Rattle.candidate_eval.specs.Dynamic.ObjectRequirements.{first_tree}
use Rattle.candidate_eval.specs.Dynamic.Objects.{arguments_in, fresh_instance, is_about, term_in, with_instance}
use Rattle.candidate_eval.specs.Interface.Evaluators.{accepted}
use Rattle.candidate_eval.specs.Judges.States.{Env, Judge, State, fresh_variables, next}
use Rattle.candidate_eval.proofs.Derivations.Naming.{named-arguments, named-term}
use Rattle.candidate_eval.proofs.Marks.Marking.{after-unmarked, but-last-unmarked}
use Rattle.candidate_assembly.specs.Answers.Telling.{standing}
use Rattle.candidate_assembly.specs.Goals.Kinds.{arguments_by, passes}
use Rattle.candidate_assembly.specs.Goals.Projections.{match_projection}
use Rattle.candidate_assembly.proofs.Calls.Stepping.{equation-reaches, equation-refuses}
use Rattle.projection_goals.specs.Equations.{both_accepted}
use Rattle.projection_goals.specs.Normalizing.{NormalizesGoal, as_projection, normalizes_rules}
use Rattle.projection_goals.specs.Rows.{first-held, held-parts}

-- Two equations, one after the other.

module _ (J : Judge) (e : Env) (p : Place) (a b x y c d u v : Forest) (l : substituted p.locals 0 a ≡ c) (r : substituted p.locals 0 b ≡ d) (m : substituted p.locals 0 x ≡ u) (n : substituted p.locals 0 y ≡ v) where
  second-reaches : (o : Option State) → accepted J p.state e c d ≡ o → (T : State) → next o (λ S. accepted J S e u v) ≡ Some T → run J e p (equate a b ∷ equate x y ∷ []) ≡ At (standing T p.locals)
  second-reaches None is T h = absurd cc
  second-reaches (Some S) is T h =
      ap (λ z. go_on z (λ q. run J e q (equate x y ∷ []))) (equation-reaches J e p a b c d S l r is)
      ∙ ap (λ z. go_on z (λ q. At q)) (equation-reaches J e (standing S p.locals) x y u v T m n h)

  second-refuses : (o : Option State) → accepted J p.state e c d ≡ o → next o (λ S. accepted J S e u v) ≡ None → run J e p (equate a b ∷ equate x y ∷ []) ≡ Over Refused
  second-refuses None is h = ap (λ z. go_on z (λ q. run J e q (equate x y ∷ []))) (equation-refuses J e p a b c d l r is)
  second-refuses (Some S) is h =
      ap (λ z. go_on z (λ q. run J e q (equate x y ∷ []))) (equation-reaches J e p a b c d S l r is)
      ∙ ap (λ z. go_on z (λ q. At q)) (equation-refuses J e (standing S p.locals) x y u v m n h)

  pub both-reach : (T : State) → both_accepted J p.state e c d u v ≡ Some T → run J e p (equate a b ∷ equate x y ∷ []) ≡ At (standing T p.locals)
  both-reach T h = second-reaches (accepted J p.state e c d) refl T h

  pub both-refuse : both_accepted J p.state e c d u v ≡ None → run J e p (equate a b ∷ equate x y ∷ []) ≡ Over Refused
  both-refuse h = second-refuses (accepted J p.state e c d) refl h

-- The steps that match a clause without parameters, for a goal without parameters.

module _ (J : Judge) (S : State) (g : NormalizesGoal) (c : Tree) (n : holds is_param (join g.arguments g.term) ≡ false) (m : holds is_param c.children ≡ false) where
  abbrev ls : Forest
  ls = fresh_variables S (bound_kinds c.children)

  abbrev term : Forest
  term = alone (first_tree g.term)

  abbrev under : Forest
  under = all_but_last (after_first c.children)

  quick-says : step J g.env (start S) (quick g.arguments under) ≡ at_if (start S) (may_unify R.Plain g.arguments under)
  quick-says =
      ap (λ x. at_if (start S) (may_unify R.Plain x (substituted none 1 under))) (substituted-nothing none 0 g.arguments (held-parts is_param g.arguments g.term n).0)
      ∙ ap (λ x. at_if (start S) (may_unify R.Plain g.arguments x)) (substituted-nothing none 1 under (but-last-unmarked is_param (after_first c.children) (after-unmarked is_param c.children m)))

  abbrev last : Reached
  last = run J g.env (standing (with_instance S c) ls) (equate g.arguments (arguments_in (named_clause 0 c)) ∷ equate term (alone (term_in (named_clause 0 c))) ∷ [])

  to-last : may_unify R.Plain g.arguments under ≡ true → run J g.env (start S) (match_projection (as_projection g) c) ≡ last
  to-last e = ap (λ z. go_on z (λ q. run J g.env q (fresh (bound_kinds c.children) ∷ equate g.arguments (arguments_in (named_clause 0 c)) ∷ equate term (alone (term_in (named_clause 0 c))) ∷ []))) (quick-says ∙ ap (at_if (start S)) e)

  own-arguments : substituted ls 0 g.arguments ≡ g.arguments
  own-arguments = substituted-nothing ls 0 g.arguments (held-parts is_param g.arguments g.term n).0

  own-term : substituted ls 0 term ≡ term
  own-term = substituted-nothing ls 0 term (first-held is_param g.term refl (held-parts is_param g.arguments g.term n).1)

  its-term : substituted ls 0 (alone (term_in (named_clause 0 c))) ≡ alone (term_in (fresh_instance S c))
  its-term = ap alone (named-term S none c m)

  -- Else the equations of the arguments and of the terms with those of the clause's instance decide.

  pub matching-reaches : may_unify R.Plain g.arguments under ≡ true → (T : State)
      → both_accepted J (with_instance S c) g.env g.arguments (arguments_in (fresh_instance S c)) term (alone (term_in (fresh_instance S c))) ≡ Some T
      → run J g.env (start S) (match_projection (as_projection g) c) ≡ At (standing T ls)
  matching-reaches e T h =
      to-last e
      ∙ both-reach J g.env (standing (with_instance S c) ls) g.arguments (arguments_in (named_clause 0 c)) term (alone (term_in (named_clause 0 c))) g.arguments (arguments_in (fresh_instance S c)) term (alone (term_in (fresh_instance S c)))
      own-arguments (named-arguments S none c m) own-term its-term T h

  pub matching-refuses : may_unify R.Plain g.arguments under ≡ true
      → both_accepted J (with_instance S c) g.env g.arguments (arguments_in (fresh_instance S c)) term (alone (term_in (fresh_instance S c))) ≡ None
      → run J g.env (start S) (match_projection (as_projection g) c) ≡ Over Refused
  matching-refuses e h =
      to-last e
      ∙ both-refuse J g.env (standing (with_instance S c) ls) g.arguments (arguments_in (named_clause 0 c)) term (alone (term_in (named_clause 0 c))) g.arguments (arguments_in (fresh_instance S c)) term (alone (term_in (fresh_instance S c)))
      own-arguments (named-arguments S none c m) own-term its-term h

-- Quick rejection in parts.

both-true : (a b : Bool) → (a && b) ≡ true → (a ≡ true) × (b ≡ true)
both-true true b e = (refl, e)
both-true false b e = absurd cc

about-by : (item : _) (h : Head) (below : Forest) → is_about item h ≡ true → arguments_by h below ≡ all_but_last below
about-by item (H.Part (P.Clause (Cl.Projection j))) below e = refl
about-by item _ below e = absurd cc

pub passes-unified : (c : Context) (g : NormalizesGoal) (t : Tree) → passes normalizes_rules c g t ≡ true
    → (is_about g.item t.head ≡ true) × (may_unify R.Plain g.arguments (all_but_last (after_first t.children)) ≡ true)
passes-unified c g t e =
    let both = both-true (is_about g.item t.head) (may_unify R.Plain g.arguments (arguments_by t.head (after_first t.children))) e in
    (both.0, ap (may_unify R.Plain g.arguments) (sym (about-by g.item t.head (after_first t.children) both.0)) ∙ both.1)

-- a clause that is about the associated type passes by its arguments
pub passes-about : (c : Context) (g : NormalizesGoal) (t : Tree) (b : Bool) → is_about g.item t.head ≡ true → b ≡ may_unify R.Plain g.arguments (arguments_in t) → passes normalizes_rules c g t ≡ b
passes-about c g t b e is =
    ap (λ x. x && may_unify R.Plain g.arguments (arguments_by t.head (after_first t.children))) e
    ∙ (ap (may_unify R.Plain g.arguments) (about-by g.item t.head (after_first t.children) e) ∙ sym is)

pub passes-not : (c : Context) (g : NormalizesGoal) (t : Tree) → is_about g.item t.head ≡ false → passes normalizes_rules c g t ≡ false
passes-not c g t e = ap (λ x. x && may_unify R.Plain g.arguments (arguments_by t.head (after_first t.children))) e
