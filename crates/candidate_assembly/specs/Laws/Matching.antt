-- What a clause is matched by mentions no other variables than the goal of a trait and the clause: the law that kinds of goals have.
use Rattle.std.proofs.Common.{ℕ}
use Rattle.ir_trees.specs.Unification.Substitutions.{alone}
use Rattle.ir_trees.specs.Hierarchy.Supers.{after_first}
use Rattle.ir_trees.specs.Syntax.Trees.{Tree, none}
use Rattle.candidate_eval.specs.Derivations.Characterization.{bound_kinds}
use Rattle.candidate_eval.specs.Derivations.ImplRules.{TraitGoal}
use Rattle.candidate_eval.specs.Derivations.Mentions.{IsBelow, StepsBelow, is_from}
use Rattle.candidate_eval.proofs.Marks.Holds.{holds_parts}
use Rattle.candidate_eval.proofs.Marks.Marking.{after-unmarked}
use Rattle.candidate_eval.proofs.Derivations.Naming.{named-row-below}
use Rattle.candidate_assembly.specs.Goals.TraitGoals.{match_trait}

-- what stands under a clause's binder
under_clause : (n : ℕ) (c : Tree) → IsBelow n (alone c) → IsBelow n (after_first c.children)
under_clause n c e = after-unmarked (is_from n) c.children (holds_parts (is_from n) c.head c.children none e).under

pub match_below : (n : ℕ) (g : TraitGoal) (c : Tree) → IsBelow n g.reference.arguments → IsBelow n (alone c) → StepsBelow n (match_trait g c)
match_below n g c a e =
    let under = under_clause n c e in
    ((a, under), (tt, ((a, named-row-below n 0 (bound_kinds c.children) (after_first c.children) under), tt)))
