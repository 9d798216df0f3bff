-- Goals that were asked for are entered, of which nothing is known yet; and what normalising answers is said of an evaluator before.
use Rattle.std.proofs.Common.{◌≡◌, ℕ, List, [], ◌∷◌, ◌++◌, map, Option, Result, Ok, Err, IfOk, sym, ◌∙◌, ap, subst, arith}
use Rattle.std.specs.List.{All}
use Rattle.std.proofs.lemmas.List.{length-append, map-append}
use Rattle.std.proofs.lemmas.List.Elements.{All-append, All-cons, All-nil, Contains-append_left}
use Rattle.ir_trees.specs.declared.ir.kinds.AliasTy.{AliasTy}
use Rattle.ir_trees.specs.declared.ir.stop.Stop.{Stop}
use Rattle.ir_trees.specs.Declarations.Context.{Context}
use Rattle.ir_trees.specs.Syntax.Trees.{Tree}
use Rattle.ir_trees.proofs.Growth.Kept.{grows-trans}
use Rattle.candidate_eval.specs.declared.eval.mode.TypingMode.{TypingMode}
use Rattle.candidate_eval.specs.declared.eval.refusal.NoSolutionOrStop.{NoSolutionOrStop}
use Rattle.candidate_eval.specs.declared.eval.response.CanonicalResponse.{CanonicalResponse}
use Rattle.candidate_eval.specs.Judges.States.{State}
use Rattle.candidate_eval.specs.Outcomes.Responses.{Response}
use Rattle.candidate_eval.specs.Outcomes.ResponseTrees.{response_of}
use Rattle.derivations.specs.DerivedTables.{AreDerived, ByDeclared, TableIsClean, TableIsDerived, VerdictIsDerived}
use Rattle.derivations.proofs.Declared.{as_derived, as_each, clean_among, derived_parts, of_derived_parts}
use Rattle.rounds_judge.specs.Aliases.Listed.{Listing}
use Rattle.rounds_judge.specs.Table.GoalTable.{Entry, GoalTable, AreNew, unanswered}
use Rattle.rounds_judge.specs.Table.Keys.{Key, start_of}
use Rattle.candidate_rounds.specs.Evaluators.Inferences.{Inference}
use Rattle.candidate_rounds.specs.Evaluators.Interface.{Fixed, fixed, judge_of}
use Rattle.candidate_rounds.specs.Evaluators.Known.{Evaluator, IsEvaluator, listing, table_of, NormalForms, listing_by}
use Rattle.candidate_rounds.specs.Table.DerivedNormals.{GrantedIsDerived, IsSureNormal, NormalIsDerived, SureIsDerived}
use Rattle.candidate_rounds.specs.Table.Entries.{new_entry}
use Rattle.candidate_rounds.specs.Table.Goals.{Goals, IsEntryOf, IsTabled, Via, entry_seen, keys_seen, table_seen}
use Rattle.candidate_rounds.specs.Table.Normalized.{IsNormalizedAt, begun, not_begun}
use Rattle.candidate_rounds.specs.Table.Normalizing.{term_goal, with_term}
use Rattle.candidate_rounds.specs.Table.Running.{StaysBesideTable, with_table}
use Rattle.candidate_rounds.proofs.Evaluators.Between.{of-parts, parts}
use Rattle.candidate_rounds.proofs.Table.Derived.{listing-beside}
use Rattle.candidate_rounds.proofs.Table.Rounding.{each-join, entries-new, length-new, seen-new}
use Rattle.candidate_rounds.proofs.Table.Tabled.{of-table-parts, table-parts}

-- The table with them.

abbrev kept : Goals → Goals
kept g = record { table = g.table ++ map new_entry g.asked; asked = []; asks = g.asks }

tabled-kept : (ts : List Tree) (g : Goals) → IsTabled ts g → IsTabled ts (kept g)
tabled-kept ts g t =
    let p = table-parts t in
    let one = length-append g.table (map new_entry g.asked) in
    let two = length-new g.asked in
    let room = p.room in
    of-table-parts (record {
      entries = each-join (IsEntryOf ts) g.table (map new_entry g.asked) p.entries (entries-new ts g.asked p.keys);
      keys = tt;
      are_new = tt;
      room = omega (arith, one, two, room);
    })

pub seen-kept : (ts : List Tree) (g : Goals) → table_seen ts (kept g).table ≡ table_seen ts g.table ++ map unanswered (keys_seen ts g.asked)
seen-kept ts g = map-append (entry_seen ts) g.table (map new_entry g.asked) ∙ ap (λ es. table_seen ts g.table ++ es) (seen-new ts g.asked)

module _ {W : Type 0} (d : Context) (l : Listing) where
  abbrev IsDerived : Entry W → Type 0
  IsDerived e = VerdictIsDerived d l e.key e.verdict

  none-written : (ks : List Key) → All IsDerived (map unanswered ks)
  none-written [] = All-nil IsDerived
  none-written (k ∷ ks) = All-cons IsDerived (unanswered k) (map unanswered ks) tt (none-written ks)

  more-derived : (T : GoalTable W) (ks : List Key) → AreDerived d l T → AreDerived d l (T ++ map unanswered ks)
  more-derived T ks h = as_derived d l (T ++ map unanswered ks) (All-append IsDerived T (map unanswered ks) (as_each d l T h) (none-written ks))

derived-kept : {W : Type 0} (c : Context) (l : Listing) (T : GoalTable W) (ks : List Key) → TableIsDerived c l T → TableIsDerived c l (T ++ map unanswered ks)
derived-kept c l T ks h =
    let p = derived_parts c l T h in
    of_derived_parts c l (T ++ map unanswered ks) (record { declared = p.declared; grows = p.grows; well_formed = p.well_formed; holds = λ x. more-derived p.declared l T ks (p.holds (clean_among l T (T ++ map unanswered ks) (λ e there. Contains-append_left T (map unanswered ks) e there) x)) })

pub evaluator-kept : (c : Context) (s : Inference) (ks : List ℕ) (ns : NormalForms) (os : List AliasTy) (g : Goals) → IsEvaluator c s ks ns os g → IsEvaluator c s ks ns os (kept g)
evaluator-kept c s ks ns os g h =
    let p = parts h in
    of-parts (record {
      consistent = p.consistent;
      resolved = p.resolved;
      given = p.given;
      tabled = tabled-kept c.trees g p.tabled;
      derived = subst (TableIsDerived c (listing_by c.trees ns)) (sym (seen-kept c.trees g)) (derived-kept c (listing_by c.trees ns) (table_seen c.trees g.table) (keys_seen c.trees g.asked) p.derived);
    })

-- What is asked for is new to the table.
pub asked-new : (c : Context) (s : Inference) (ks : List ℕ) (ns : NormalForms) (os : List AliasTy) (g : Goals) → IsEvaluator c s ks ns os g → AreNew (table_seen c.trees g.table) (keys_seen c.trees g.asked)
asked-new c s ks ns os g h = (table-parts (parts h).tabled).are_new

-- An answer for an evaluator is one for the evaluator before, from which all stayed but the table.

module _ {r s : Evaluator} (x : StaysBesideTable r s) (T : GoalTable Via) (k : Key) (item : ℕ) where
  fixed-before : with_table (fixed s) T ≡ with_table (fixed r) T
  fixed-before = ap (λ f. with_table f T) x.fixed_same

  mode-before : s.mode ≡ r.mode
  mode-before = ap (λ (S : State). S.mode) x.state_same

  derived-before : (a : Response) → NormalIsDerived s T k item a → NormalIsDerived r T k item a
  derived-before a h = record {
    context = h.context;
    grows = grows-trans r.context s.context h.context x.grows h.grows;
    rests = subst (λ (q : Fixed × TypingMode). IsSureNormal (judge_of q.0) h.context (start_of q.1 (with_term k)) (term_goal item k) a) (λ i. (fixed-before i, mode-before i)) h.rests;
    derived = subst (λ (q : Listing × Fixed). ByDeclared h.context (λ d. TableIsClean q.0 T → GrantedIsDerived d q.0 (judge_of q.1))) (λ i. (listing-beside x i, fixed-before i)) h.derived;
  }

  sure-before : (ts : List Tree) (a : Result CanonicalResponse NoSolutionOrStop) → IfOk a (λ p. SureIsDerived s T k item (response_of ts p)) → IfOk a (λ p. SureIsDerived r T k item (response_of ts p))
  sure-before ts (Ok p) h = λ sure. derived-before (response_of ts p) (h sure)
  sure-before ts (Err e) h = tt

  pub normalized-before : (ts : List Tree) (way : Option Via) (o : Result (Option CanonicalResponse) Stop) → IsNormalizedAt ts s T k item way o → IsNormalizedAt ts r T k item way o
  normalized-before ts way _ (not_begun h) = not_begun h
  normalized-before ts way _ (begun a h) = begun a (record {
    first = h.first;
    left = h.left;
    left_trees = h.left_trees;
    grows = grows-trans r.context s.context h.first.context x.grows h.grows;
    fixed_same = h.fixed_same ∙ fixed-before;
    begins = h.begins ∙ ap (λ (m : TypingMode). start_of m (with_term k)) mode-before;
    env = h.env;
    goal = h.goal;
    says = h.says;
    answered = h.answered;
    sure = sure-before ts a h.sure;
  })

-- The table of an evaluator is derived.
pub derived-here : (r : Evaluator) → IsEvaluator r.context r.inference r.marks r.normal r.opaques r.goals → TableIsDerived r.context (listing r) (table_of r)
derived-here r h = (parts h).derived
