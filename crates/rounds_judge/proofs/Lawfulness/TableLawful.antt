-- The judge keeps all laws of an evaluator.
use Rattle.std.proofs.Common.{ℕ, List}
use Rattle.ir_trees.specs.Syntax.Trees.{Tree}
use Rattle.ir_trees.specs.declared.decl.limits.Limits.{Limits}
use Rattle.ir_trees.specs.Declarations.Worlds.{World}
use Rattle.candidate_eval.specs.Judges.Lawful.{ResponseLaws, GrantedLaws, Lawful}
use Rattle.rounds_judge.specs.Table.GoalTable.{GoalTable, well_entered}
use Rattle.rounds_judge.specs.Aliases.Listed.{Listing}
use Rattle.rounds_judge.specs.Equations.Standing.{IsListing}
use Rattle.rounds_judge.specs.Equations.WithErrors.{EquatesErrors}
use Rattle.rounds_judge.specs.Table.TableJudge.{table_judge}
use Rattle.rounds_judge.specs.Aliases.WellListed.{well_listed}
use Rattle.rounds_judge.proofs.Lawfulness.JudgeLaws.{alike_judged_alike}
use Rattle.rounds_judge.proofs.Lawfulness.NormalForms.{normal_form_laws}
use Rattle.rounds_judge.proofs.Table.TableDropped.{settling_drops_granted}
use Rattle.rounds_judge.proofs.Table.TableGranting.{granted_stays}
use Rattle.rounds_judge.proofs.Lawfulness.TableLaws.{empty_is_answered_with, empty_is_of_state_with, equations_with, errors_with, yes_was_asked_with}
use Rattle.rounds_judge.proofs.Parameters.TableParameterless.{responding_brings_none, settling_follows}
use Rattle.rounds_judge.proofs.Table.TableResponding.{yes_is_granted}
use Rattle.rounds_judge.proofs.Table.TableSettled.{ReadsWell, well_read}
use Rattle.rounds_judge.proofs.Table.TableVariables.{settling_keeps_variables}
use Rattle.rounds_judge.proofs.Aliases.WellListed.{well-listed}

module _ {W : Type 0} (w : World) (local : ℕ) (limits : Limits) (l : Listing) (os : List Tree) (listing : IsListing l) (K : GoalTable W) (reads : ReadsWell K) where
  pub response_laws : ResponseLaws (table_judge w local limits l os K)
  response_laws = record {
    empty_is_answered = λ S c e. empty_is_answered_with w local limits l os K S c e;
    empty_is_of_state = λ S L c r p e. empty_is_of_state_with w local limits l os K S L c r p e;
    yes_was_asked = λ S c r e y. yes_was_asked_with w local limits l os K S c r e y;
    yes_is_granted = λ S L c r sound fits of e y. yes_is_granted K reads w local limits l os listing S L c r sound fits of e y;
  }

  pub granted_laws : GrantedLaws (table_judge w local limits l os K)
  granted_laws = record {
    settling_keeps_variables = λ S T c e. settling_keeps_variables K l S T c e;
    settling_follows = λ S T L c sound fits of e. settling_follows K reads l listing S T L c sound fits of e;
    settling_drops_granted = λ S T U L c sound fits of e f goals g granted. settling_drops_granted K reads l listing S T U L c sound fits of e f g granted;
    responding_brings_none = λ S L c r sound fits of roots free goals e. responding_brings_none K reads l listing S L c r sound fits of roots free goals e;
    granted_stays = λ S T L g sound fits of f a. granted_stays K l listing S T L g sound fits of f a;
  }

  pub table_lawful : Lawful (table_judge w local limits l os K)
  table_lawful = record {
    normal_forms = normal_form_laws w local limits l os K listing;
    equations = equations_with w local limits l os K listing;
    responses = response_laws;
    granted = granted_laws;
    alike_judged_alike = alike_judged_alike w local limits l os K;
  }

-- Of what may be listed and what may be read no premise is left.
pub table_keeps_the_laws : {W : Type 0} (w : World) (local : ℕ) (limits : Limits) (pairs : Listing) (opaques : List Tree) (K : GoalTable W) → Lawful (table_judge w local limits (well_listed pairs) opaques (well_entered K))
table_keeps_the_laws w local limits pairs opaques K = table_lawful w local limits (well_listed pairs) opaques (well-listed pairs) (well_entered K) (well_read K)

pub table_equates_errors : {W : Type 0} (w : World) (local : ℕ) (limits : Limits) (pairs : Listing) (opaques : List Tree) (K : GoalTable W) → EquatesErrors (table_judge w local limits (well_listed pairs) opaques (well_entered K))
table_equates_errors w local limits pairs opaques K = errors_with w local limits (well_listed pairs) opaques (well_entered K) (well-listed pairs)
