-- Why calls stop, as the evaluator's account.
use Rattle.std.proofs.Common.{◌≡◌, Result, Ok, Err, refl, sym, subst}
use Rattle.std.specs.Prelude.{IfErr}
use Rattle.ir_trees.specs.declared.ir.stop.Stop.{Stop}
use Rattle.candidate_eval.specs.declared.eval.refusal.NoSolutionOrStop.{NoSolutionOrStop}
use Rattle.candidate_eval.specs.declared.eval.refusal.NoSolutionOrStop.TheVariants as N
use Rattle.candidate_eval.specs.Interface.Accounts.{by_stop}
use Rattle.candidate_rounds.specs.Table.Goals.{Reads}
use Rattle.rounds_judge.specs.Aliases.Listed.{Listing}

-- what is said of pairs that are listed still

pub listed-error : (P : Listing → Stop → Type 0) (l m : Listing) → m ≡ l → (e : NoSolutionOrStop) → ((s : Stop) → e ≡ N.Stop s → P l s) → by_stop (P m) e
listed-error P l m is N.NoSolution f = tt
listed-error P l m is (N.Stop s) f = subst (λ (x : Listing). P x s) (sym is) (f s refl)

pub listed-stop : {A : Type 0} (P : Listing → Stop → Type 0) (l m : Listing) → m ≡ l → (r : Result A NoSolutionOrStop) → IfErr r (λ e. (s : Stop) → e ≡ N.Stop s → P l s) → IfErr r (by_stop (P m))
listed-stop P l m is (Ok v) f = tt
listed-stop P l m is (Err e) f = listed-error P l m is e f

-- the same of what is read still
pub read-error : (P : Reads → Stop → Type 0) (q r : Reads) → r ≡ q → (e : NoSolutionOrStop) → ((s : Stop) → e ≡ N.Stop s → P q s) → by_stop (P r) e
read-error P q r is N.NoSolution f = tt
read-error P q r is (N.Stop s) f = subst (λ (x : Reads). P x s) (sym is) (f s refl)
