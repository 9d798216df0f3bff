-- A kind of goals that asks of objects what their traits require asks for all of it.
use Rattle.std.proofs.Common.{◌≡◌, ℕ, Bool, true, List}
use Rattle.ir_trees.specs.Declarations.Context.{Context}
use Rattle.ir_trees.specs.Syntax.Trees.{Forest, Tree}
use Rattle.candidate_eval.specs.Dynamic.ObjectRequirements.{AreAsked}
use Rattle.candidate_eval.specs.Judges.States.{Env, Goal, Judge, State}
use Rattle.candidate_assembly.specs.Rules.ObjectBounds.{AreAskedIf, all_asked, none_asked}
use Rattle.candidate_assembly.proofs.Calls.Considering.{not-both}

pub all-required : (asks : Bool) (J : Judge) (e : Env) (c : Context) (S : State) (n : ℕ) (reference : Tree) (bounds : Forest) (goals : List Goal) (T : State) → asks ≡ true
    → AreAskedIf asks J e c S n reference bounds goals T → AreAsked J e c S n reference bounds goals T
all-required asks J e c S n reference bounds goals T on (all_asked same a) = a
all-required asks J e c S n reference bounds _ _ on (none_asked off) = absurd (not-both asks on off)
