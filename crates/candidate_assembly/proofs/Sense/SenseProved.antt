-- A goal that stands, with its self type in normal form and all values put in, stands at the state that normalising leaves.
use Rattle.std.proofs.Common.{◌≡◌, Some, refl, sym, subst}
use Rattle.ir_trees.specs.Declarations.Context.{Context}
use Rattle.ir_trees.specs.Unification.Substitutions.{alone}
use Rattle.ir_trees.specs.Hierarchy.Supers.{after_first}
use Rattle.ir_trees.specs.Syntax.Trees.{Forest, Tree, none, tree}
use Rattle.candidate_eval.specs.Derivations.ImplRules.{TraitGoal}
use Rattle.candidate_eval.specs.Judges.Lawful.{Lawful}
use Rattle.candidate_eval.specs.Dynamic.ObjectRequirements.{first_tree}
use Rattle.candidate_eval.specs.Judges.Soundness.{AreTreesOf, Follows, GoalsAreOf, Live, is_strange}
use Rattle.candidate_eval.specs.Judges.States.{Judge, State}
use Rattle.candidate_eval.proofs.Marks.Closed.{after-closed, closed, closed-parts}
use Rattle.candidate_eval.proofs.Marks.Holds.{holds_parts}
use Rattle.candidate_eval.proofs.Marks.Marking.{after-unmarked, unmarked}
use Rattle.candidate_assembly.specs.Answers.Assembled.{resolved_goal}
use Rattle.candidate_assembly.specs.Goals.Kinds.{self_type}
use Rattle.candidate_assembly.specs.Goals.Standing.{StandsWithPending}
use Rattle.candidate_assembly.specs.Goals.TraitGoals.{with_first, with_self_type}
use Rattle.candidate_assembly.specs.Goals.TraitRules.{trait_bounds, trait_rules}
use Rattle.candidate_assembly.proofs.Sense.Sense.{StaysKnown, goals-stay, trees-stay}
use Rattle.candidate_assembly.proofs.Goals.Standing.{strange-later, trees-resolved}

-- The goal with its self type in normal form and with all values put in stands at the state that normalising leaves, which follows.

pub first-trees : (S : State) (L : Live) (ts : Forest) → AreTreesOf S L ts → AreTreesOf S L (alone (first_tree ts))
first-trees S L none a = record { known = refl; is_closed = refl }
first-trees S L (tree h below rest) a =
    let p = holds_parts (is_strange S L) h below rest a.known in
    let q = closed-parts 0 h below rest a.is_closed in
    record { known = unmarked (is_strange S L) h below none p.here p.under refl; is_closed = closed 0 h below none q.here q.under refl }

pub changed-trees : (S : State) (L : Live) (t : Tree) (ts : Forest) → AreTreesOf S L (alone t) → AreTreesOf S L ts → AreTreesOf S L (with_first t ts)
changed-trees S L t ts a b =
    let p = holds_parts (is_strange S L) t.head t.children none a.known in
    let q = closed-parts 0 t.head t.children none a.is_closed in
    record {
      known = unmarked (is_strange S L) t.head t.children (after_first ts) p.here p.under (after-unmarked (is_strange S L) ts b.known);
      is_closed = closed 0 t.head t.children (after_first ts) q.here q.under (after-closed 0 ts b.is_closed);
    }

abbrev pub StandsNormal : Context → State → Live → TraitGoal → Tree → State → Type 0
StandsNormal c S L g u T = (f : Follows S T L) × StandsWithPending T f.live (resolved_goal trait_rules trait_bounds c T (with_self_type g u))

pub normal-stands : (J : Judge) → Lawful J → (c : Context) (S T : State) (L : Live) (g : TraitGoal) (u : Tree) → StandsWithPending S L g → J.normalized S g.env (self_type trait_rules c g) ≡ Some (u, T) → StandsNormal c S L g u T
normal-stands J law c S T L g u s is =
    let args = g.reference.arguments in
    let n = law.normal_forms.normalizing_follows S T L g.env (first_tree args) u s.sound s.fits s.env (first-trees S L args s.arguments) is in
    let f = n.follows in
    let M = f.live in
    let stays : StaysKnown S L T M = strange-later S T L M f.within f.later in
    let kept = law.normal_forms.normalizing_keeps_pending S T g.env (first_tree args) u is in (
      f,
      record {
        sound = f.sound;
        fits = f.fits;
        goals = subst (GoalsAreOf T M) (sym kept) (goals-stay S L T M stays S.pending s.goals);
        env = trees-resolved T M f.sound f.fits g.env (trees-stay S L T M stays g.env s.env);
        arguments = trees-resolved T M f.sound f.fits (with_first u args) (changed-trees T M u args n.tree (trees-stay S L T M stays args s.arguments));
      },
    )
