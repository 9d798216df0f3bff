-- What an evaluator of rounds is to generic code.
use Rattle.std.specs.Prelude.{◌≡◌, ℕ, Bool, false, List, Option, None, unwrap_or, refl, Some}
use Rattle.std.proofs.Common.{ap}
use Rattle.ir_trees.specs.declared.ir.heads.Head.{Head}
use Rattle.ir_trees.specs.declared.ir.heads.Head.TheVariants as H
use Rattle.ir_trees.specs.declared.ir.kinds.ParamEnv.{ParamEnv}
use Rattle.ir_trees.specs.declared.decl.limits.Limits.{Limits}
use Rattle.ir_trees.specs.Declarations.Context.{world}
use Rattle.ir_trees.specs.Unification.Substitutions.{is_variable}
use Rattle.ir_trees.specs.Syntax.Trees.{Forest, Tree}
use Rattle.ir_trees.specs.Syntax.Words.{env_forest}
use Rattle.ir_trees.specs.Declarations.Worlds.{World}
use Rattle.candidate_eval.specs.declared.eval.mode.TypingMode.{TypingMode}
use Rattle.candidate_eval.specs.Interface.Evaluators.{NoFault, accepted, alias_trees, resolved_root, root_value, with_left}
use Rattle.candidate_eval.specs.Interface.Knowing.{SeesStates}
use Rattle.candidate_eval.specs.Judges.States.{Judge, Pending, State, Env, next}
use Rattle.rounds_judge.specs.Aliases.Listed.{Listing}
use Rattle.rounds_judge.specs.Table.GoalTable.{GoalTable, well_entered}
use Rattle.rounds_judge.specs.Table.TableJudge.{table_judge}
use Rattle.rounds_judge.specs.Aliases.WellListed.{well_listed}
use Rattle.rounds_judge.specs.Equations.Opening.{equation}
use Rattle.candidate_rounds.specs.Table.Goals.{Via}
use Rattle.candidate_rounds.specs.Evaluators.Known.{Evaluator, listing, notes_of, probes, state, table_of}

-- What stays fixed while goals are computed: what is declared, the crate, where walks end, the mode, what it was given, and the table that the
-- last round left, by trees, with what is noted beside its goals.
pub record Fixed : Type 0 where
  pub world : World
  pub local_crate : ℕ
  pub limits : Limits
  pub mode : TypingMode
  pub listing : Listing
  pub opaques : List Tree
  pub table : GoalTable Via
  pub notes : List Bool

abbrev pub fixed : Evaluator → Fixed
fixed r = record { world = world r.context; local_crate = r.context.local.0; limits = r.context.limits; mode = r.mode; listing = listing r; opaques = alias_trees r.context.trees r.opaques; table = table_of r; notes = notes_of r }

-- The laws speak of all that could be given; an evaluator's listed pairs all may be listed, and of the table it reads what may be read.
abbrev pub judge_of : Fixed → Judge
judge_of f = table_judge f.world f.local_crate f.limits (well_listed f.listing) f.opaques (well_entered f.table)

-- What the evaluator's judge answers at its state, under an environment of its context: what an equation leaves, the state once that is
-- pending, and a normal form.

abbrev pub equation_at : Evaluator → ParamEnv → Forest → Forest → Option (List Pending × State)
equation_at r e a b = (judge_of (fixed r)).equated (state r) (env_forest r.context.trees e) a b

abbrev pub accepted_at : Evaluator → ParamEnv → Forest → Forest → Option State
accepted_at r e a b = accepted (judge_of (fixed r)) (state r) (env_forest r.context.trees e) a b

-- The same by all that is listed, whether it may be or not.
abbrev pub led_to : Evaluator → Env → Forest → Forest → Option State
led_to r e a b = next (equation (listing r) (state r) e a b) (λ q. Some (with_left q))

abbrev pub normal_form_at : Evaluator → ParamEnv → Tree → Option (Tree × State)
normal_form_at r e t = (judge_of (fixed r)).normalized (state r) (env_forest r.context.trees e) t

-- What making nodes leaves as it is.
pub record Rest : Type 0 where
  pub fixed : Fixed
  pub state : State
  pub probes : List State
  pub faults : List (List ℕ)

abbrev pub rest : Evaluator → Rest
rest r = record { fixed = fixed r; state = state r; probes = probes r; faults = r.context.delayed_bugs }

-- Three laws of the interface.

pub rest_parts : (r s : Evaluator) → rest s ≡ rest r → (fixed s ≡ fixed r) × (state s ≡ state r) × (probes s ≡ probes r) × NoFault r.context s.context
rest_parts r s e = (ap (λ (x : Rest). x.fixed) e, ap (λ (x : Rest). x.state) e, ap (λ (x : Rest). x.probes) e, ap (λ (x : Rest). x.faults) e)

pub root_stays : (S : State) (t : Tree) → is_variable t.head ≡ false → resolved_root S t ≡ t
root_stays S t e = ap (λ (o : Option Tree). unwrap_or o t) (at t.head e)
  where
    at : (h : Head) → is_variable h ≡ false → root_value S h ≡ None
    at (H.Infer v) e = cc
    at _ e = refl

pub state_seen : SeesStates state resolved_root fixed state
state_seen = record {
  seen_at = λ f S. S;
  state_of = λ S. S;
  sees = λ r. refl;
  shows = λ f S. refl;
  resolves = λ S t. refl;
}
