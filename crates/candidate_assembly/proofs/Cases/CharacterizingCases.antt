-- Clauses characterised on the small judge, with the limits that are declared where none is set.
use Rattle.std.proofs.Common.{◌≡◌, refl, [], Option, Some}
use Rattle.ir_trees.specs.declared.ir.heads.Head.TheVariants as H
use Rattle.ir_trees.specs.declared.ir.heads.Builtin.TheVariants as B
use Rattle.ir_trees.specs.declared.ir.heads.PartHead.TheVariants as P
use Rattle.ir_trees.specs.declared.ir.heads.PredHead.TheVariants as PH
use Rattle.ir_trees.specs.declared.ir.kinds.RegionKind.TheVariants as R
use Rattle.ir_trees.specs.declared.ir.kinds.VarKind.TheVariants as K
use Rattle.ir_trees.specs.Declarations.Limits.{first_limits}
use Rattle.ir_trees.specs.Instantiation.Folding.{leaf}
use Rattle.ir_trees.specs.Unification.Substitutions.{alone}
use Rattle.ir_trees.specs.Syntax.Trees.{none, tree, Tree}
use Rattle.candidate_eval.specs.declared.eval.certainty.Certainty.{Certainty}
use Rattle.candidate_eval.specs.declared.eval.certainty.Certainty.TheVariants.{Yes}
use Rattle.candidate_eval.specs.declared.eval.mode.TypingMode.TheVariants.{PostAnalysis}
use Rattle.candidate_eval.specs.declared.eval.source.ParamEnvSource.{ParamEnvSource}
use Rattle.candidate_eval.specs.declared.eval.source.ParamEnvSource.TheVariants.{NonGlobal, Global}
use Rattle.candidate_eval.specs.Outcomes.Certainties.{AMBIGUOUS}
use Rattle.candidate_eval.specs.Derivations.Characterization.{characterization, too_deep}
use Rattle.candidate_eval.specs.Judges.States.{State, Judge, with_universe}
use Rattle.candidate_eval.proofs.Cases.RuleToy.{judge, start_with, u8, slice, rigid, rigid_above, bound, var, meets}
use Rattle.candidate_assembly.specs.Answers.Sources.{answer_of}

abbrev deep : Judge
deep = record (judge []) { limits = first_limits }

-- it goes down two types
abbrev shallow : Judge
shallow = judge []

abbrev start : State
start = start_with PostAnalysis 1

-- what is answered of the clause that a trait holds of the type, and the state that is left
abbrev answer : Judge → Tree → Option ((ParamEnvSource × Certainty) × State)
answer j t = answer_of (characterization j none start (meets 0 t))

-- `u8: Trait` says nothing of what is generic
pub u8_is_global : answer deep u8 ≡ Some ((Global, Yes), start)
u8_is_global = refl

pub slice_of_u8_is_global : answer deep (slice u8) ≡ Some ((Global, Yes), start)
slice_of_u8_is_global = refl

-- a placeholder of the root universe stands for a parameter
pub parameter_is_not_global : answer deep (rigid 0) ≡ Some ((NonGlobal, Yes), start)
parameter_is_not_global = refl

pub slice_of_parameter_is_not_global : answer deep (slice (rigid 0)) ≡ Some ((NonGlobal, Yes), start)
slice_of_parameter_is_not_global = refl

-- another placeholder stands for what a binder binds
pub bound_placeholder_is_global : answer deep (rigid_above 1) ≡ Some ((Global, Yes), start)
bound_placeholder_is_global = refl

pub variable_is_ambiguous : answer deep (var 0) ≡ Some ((NonGlobal, AMBIGUOUS), start)
variable_is_ambiguous = refl

pub bound_variable_is_not_global : answer deep (slice bound) ≡ Some ((NonGlobal, Yes), start)
bound_variable_is_not_global = refl

-- What binds a region that it doesn't name: a fresh universe is made where there is something to look for under it.

abbrev under : Tree → Tree
under t = record {
  head = H.Builtin B.UnsafeBinder;
  children = tree (H.Part P.Vars) (alone (leaf (H.Part (P.Var K.Region)))) (alone t);
}

pub nothing_under_a_binder : answer deep (under u8) ≡ Some ((Global, Yes), start)
nothing_under_a_binder = refl

pub universe_of_a_binder : answer deep (under (rigid_above 1)) ≡ Some ((Global, Yes), with_universe start)
universe_of_a_binder = refl

pub parameter_under_a_binder : answer deep (under (rigid 0)) ≡ Some ((NonGlobal, Yes), with_universe start)
parameter_under_a_binder = refl

-- the bound of a `dyn` type has a binder of its own, here with a region
abbrev object : Tree → Tree
object t = record {
  head = H.Dynamic;
  children = tree (H.Part (P.Pred (PH.Trait (record { 0 = 0 })))) (tree (H.Part P.Vars) (alone (leaf (H.Part (P.Var K.Region)))) (alone t)) (alone (leaf (H.Region R.Static)));
}

pub parameter_of_an_object : answer deep (object (rigid 0)) ≡ Some ((NonGlobal, Yes), with_universe start)
parameter_of_an_object = refl

pub universe_of_an_object : answer deep (object (rigid_above 1)) ≡ Some ((Global, Yes), with_universe start)
universe_of_an_object = refl

-- Types that are nested too deep: an overflow, where something may still be said.

pub deep_parameter_overflows : answer shallow (slice (slice (slice (rigid 0)))) ≡ Some ((NonGlobal, too_deep), start)
deep_parameter_overflows = refl

pub deep_u8_is_global : answer shallow (slice (slice (slice u8))) ≡ Some ((Global, Yes), start)
deep_u8_is_global = refl

pub last_level_is_looked_at : answer shallow (slice (slice (rigid 0))) ≡ Some ((NonGlobal, Yes), start)
last_level_is_looked_at = refl
