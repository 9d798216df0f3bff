-- A variable of a response that is open: what is known once it was added.
use Rattle.std.proofs.Common.{◌≡◌, ℕ, ◌≤◌, min, false, refl, None, List, [], ◌∷◌, ◌++◌, sym, ap, subst, arith}
use Rattle.std.proofs.lemmas.List.{map-append}
use Rattle.ir_trees.specs.Syntax.Trees.{Tree}
use Rattle.candidate_eval.specs.declared.eval.mode.TypingMode.{TypingMode}
use Rattle.candidate_eval.specs.declared.eval.variable.CanonicalVar.{CanonicalVar}
use Rattle.candidate_eval.specs.declared.eval.variable.VariableKind.{VariableKind}
use Rattle.candidate_rounds.specs.declared.rounds.inference.Change.TheVariants as C
use Rattle.candidate_rounds.specs.declared.rounds.inference.Entry.{Entry}
use Rattle.candidate_rounds.specs.Calls.Giving.{with_open_variable}
use Rattle.candidate_rounds.specs.Evaluators.Inferences.{Inference, IsFurther}
use Rattle.candidate_rounds.specs.Evaluators.Known.{HasResolvedValues, IsChange, IsConsistent, IsEntry, IsWithin, SuitsKind, info_of, state_of}
use Rattle.candidate_rounds.proofs.Evaluators.Going.{one-longer}
use Rattle.candidate_rounds.proofs.Snapshots.Holding.{one-more, tidy-now}
use Rattle.candidate_rounds.proofs.Snapshots.Knowing.{each-append, each-at-append}
use Rattle.candidate_rounds.proofs.Snapshots.Probing.{holds-after}
use Rattle.candidate_rounds.proofs.Snapshots.ResolvedValues.{another-resolved}
use Rattle.candidate_rounds.proofs.Snapshots.Undoing.{IsUndone, back-noted, shorter-append}
use Rattle.rounds_judge.specs.Equations.Standing.{AreResolved}
use Rattle.rounds_judge.specs.Table.TableSettling.{with_open}

abbrev opened : Inference → VariableKind → ℕ → Entry
opened s k u = record { kind = k; universe = min u s.newest_universe; value = None; is_root = false }

pub undo-open : (s : Inference) (k : VariableKind) (u : ℕ) → IsUndone s (with_open_variable s k u)
undo-open s k u n l = back-noted s (record s { variables = s.variables ++ opened s k u ∷ [] }) C.Variable n l refl (ap (λ x. record s { variables = x }) (shorter-append s.variables _))

pub further-open : (s : Inference) (k : VariableKind) (u : ℕ) → IsFurther s (with_open_variable s k u)
further-open s k u = (one-longer s _, undo-open s k u)

pub holds-open : (ts : List Tree) (s : Inference) (ks : List ℕ) (k : VariableKind) (u : ℕ) → IsConsistent ts s ks → IsConsistent ts (with_open_variable s k u) ks
holds-open ts s ks k u h =
    holds-after ts s (with_open_variable s k u) ks h (undo-open s k u) (one-more s.trail _)
    (record { values = each-append (IsEntry ts) s.variables _ h.known.values tt; regions = h.known.regions; goals = h.known.goals; changes = each-append (IsChange ts) s.trail _ h.known.changes tt })
    (let t = tidy-now ts s ks h in record {
      pending = t.pending;
      kinds = each-append (SuitsKind ts) s.variables _ t.kinds (λ v e. cc);
      room = each-at-append (IsWithin ts s.first_open s.end_open) 0 s.variables _ t.room (λ m v e. cc);
      universes = each-append (λ (e : Entry). e.universe ≤ s.newest_universe) s.variables _ t.universes (omega arith);
    })

pub resolved-open : (ts : List Tree) (s : Inference) (k : VariableKind) (u : ℕ) → HasResolvedValues ts s → HasResolvedValues ts (with_open_variable s k u)
resolved-open ts s k u h m =
    subst (λ vs. AreResolved (record (state_of ts m s) { variables = vs })) (sym (map-append (info_of ts) s.variables (opened s k u ∷ [])))
    (another-resolved (state_of ts m s) (info_of ts (opened s k u)) refl (h m))

pub state-open : (ts : List Tree) (mode : TypingMode) (s : Inference) (c : CanonicalVar) → state_of ts mode (with_open_variable s c.kind c.universe) ≡ with_open (state_of ts mode s) c
state-open ts mode s c = ap (λ vs. record (state_of ts mode s) { variables = vs }) (map-append (info_of ts) s.variables _)
