-- What holds of the table stays as more numbers are given.
use Rattle.std.proofs.Common.{◌≡◌, false, Option, Some, None, List, [], ◌∷◌, map, refl, sym, ◌∙◌, ap, subst, arith}
use Rattle.std.specs.Option.{option_map}
use Rattle.ir_trees.specs.declared.ir.kinds.Clause.{Clause}
use Rattle.ir_trees.specs.declared.ir.kinds.Goal.{Goal}
use Rattle.ir_trees.specs.Syntax.Nodes.{Extends, clause_child, kinds_at}
use Rattle.ir_trees.specs.Syntax.Kinds.{numbers}
use Rattle.ir_trees.specs.Syntax.Trees.{Tree, ClauseKind}
use Rattle.ir_trees.specs.Syntax.Words.{IsClause, ClauseListFits, clause_tree}
use Rattle.candidate_eval.specs.Interface.Evaluators.{IsGoal}
use Rattle.candidate_eval.specs.Outcomes.ResponseTrees.{IsResponse, response_of}
use Rattle.candidate_eval.specs.declared.eval.response.CanonicalResponse.{CanonicalResponse}
use Rattle.rounds_judge.specs.Table.GoalTable.{AreNew, GoalTable, may_be_asked, may_be_read}
use Rattle.rounds_judge.specs.Table.Keys.{Key}
use Rattle.rounds_judge.specs.Table.Verdicts as J
use Rattle.candidate_rounds.specs.Table.Entries.{GoalEntry}
use Rattle.candidate_rounds.specs.declared.rounds.goals.GoalKey.{GoalKey}
use Rattle.candidate_rounds.specs.declared.rounds.goals.Verdict.{Verdict}
use Rattle.candidate_rounds.specs.declared.rounds.goals.Verdict.TheVariants as V
use Rattle.candidate_rounds.specs.Table.Goals.{Each, Goals, IsEntryOf, IsKeyOf, IsTabled, IsTraitGoal, IsVerdict, SaysTrait, TableParts, Via, entry_seen, goal_said, goal_seen, key_seen, keys_seen, table_seen, verdict_seen}
use Rattle.candidate_rounds.proofs.Snapshots.Knowing.{clause-stays, each-imply, each-map, is-clause-stays, is-goal-stays, kind-stays, tree-stays}

-- What holds of the table, taken apart and put together.

pub table-parts : {ts : List Tree} {g : Goals} → IsTabled ts g → TableParts ts g
unfolding IsTabled
table-parts h = h

pub of-table-parts : {ts : List Tree} {g : Goals} → TableParts ts g → IsTabled ts g
unfolding IsTabled
of-table-parts h = h

-- Clauses, goals and responses have their trees still.

pub clauses-stay : (ts us : List Tree) (xs : List Clause) → Extends ts us → ClauseListFits ts xs → (map (clause_tree us) xs ≡ map (clause_tree ts) xs) × ClauseListFits us xs
clauses-stay ts us [] g f = (refl, refl)
clauses-stay ts us (x ∷ xs) g f =
    let i : IsClause ts x = cc in
    let r : ClauseListFits ts xs = cc in
    let n = clauses-stay ts us xs g r in (
      ap (λ t. t ∷ map (clause_tree us) xs) (clause-stays ts us x g i) ∙ ap (λ zs. clause_tree ts x ∷ zs) n.0,
      ap (λ k. k ∷ kinds_at us (numbers (map clause_child xs))) (is-clause-stays ts us x g i) ∙ ap (λ ks. ClauseKind ∷ ks) n.1,
    )

module _ (ts us : List Tree) (x : Extends ts us) where
  pub goal-sees : (g : Goal Clause) → IsGoal ts g → goal_seen us g ≡ goal_seen ts g
  goal-sees g i =
      let e = ap (λ (t : Tree). t.children) (tree-stays ts us g.param_env.0 _ x refl i.0) in
      let c = clause-stays ts us g.predicate x i.1 in
      λ j. goal_said (e j) (c j)

  pub key-sees : (k : GoalKey) → IsGoal ts k.goal → key_seen us k ≡ key_seen ts k
  key-sees k i = ap (λ g. record { goal = g; variables = k.variables.items }) (goal-sees k.goal i)

  pub trait-goal-stays : (g : Goal Clause) → IsTraitGoal ts g → IsTraitGoal us g
  trait-goal-stays g i = record { goal = is-goal-stays ts us g x i.goal; says = subst SaysTrait (sym (clause-stays ts us g.predicate x i.goal.1)) i.says }

  pub key-stays : (k : GoalKey) → IsKeyOf ts k → IsKeyOf us k
  key-stays k i = record { goal = trait-goal-stays k.goal i.goal; asked = ap may_be_asked (key-sees k i.goal.goal) ∙ i.asked }

  pub response-sees : (r : CanonicalResponse) → IsResponse ts r → response_of us r ≡ response_of ts r
  response-sees r i =
      let v = ap (λ (t : Tree). t.children) (tree-stays ts us r.values.0 _ x refl i.values) in
      let g = (clauses-stay ts us r.regions.items x i.regions).0 in
      λ j. record { vars = r.vars.items; values = v j; regions = g j; certainty = r.certainty }

  pub response-stays : (r : CanonicalResponse) → IsResponse ts r → IsResponse us r
  response-stays r i = record { values = kind-stays ts us r.values.0 _ x refl i.values; regions = (clauses-stay ts us r.regions.items x i.regions).1 }

  pub verdict-sees : (v : Option Verdict) → IsVerdict ts v → option_map (verdict_seen us) v ≡ option_map (verdict_seen ts) v
  verdict-sees None i = refl
  verdict-sees (Some (V.Yes r w)) i = ap (λ a. Some (J.Yes a w)) (response-sees r i)
  verdict-sees (Some (V.Maybe r w)) i = ap (λ a. Some (J.Maybe a w)) (response-sees r i)
  verdict-sees (Some V.Refused) i = refl

  pub verdict-stays : (v : Option Verdict) → IsVerdict ts v → IsVerdict us v
  verdict-stays None i = tt
  verdict-stays (Some (V.Yes r w)) i = response-stays r i
  verdict-stays (Some (V.Maybe r w)) i = response-stays r i
  verdict-stays (Some V.Refused) i = tt

  pub entry-sees : (e : GoalEntry) → IsEntryOf ts e → entry_seen us e ≡ entry_seen ts e
  entry-sees e i =
      let k = key-sees e.0 i.key.goal.goal in
      let v = verdict-sees e.1.verdict i.verdict in
      λ j. record { key = k j; verdict = v j }

  pub entry-stays : (e : GoalEntry) → IsEntryOf ts e → IsEntryOf us e
  entry-stays e i =
      let k = key-sees e.0 i.key.goal.goal in
      let v = verdict-sees e.1.verdict i.verdict in
      record {
        key = key-stays e.0 i.key;
        verdict = verdict-stays e.1.verdict i.verdict;
        readable = i.readable ∙ sym (λ j. may_be_read (k j) (v j));
      }

  pub table-sees : (es : List GoalEntry) → Each (IsEntryOf ts) es → table_seen us es ≡ table_seen ts es
  table-sees es i = each-map (IsEntryOf ts) (entry_seen us) (entry_seen ts) es entry-sees i

  pub keys-see : (ks : List GoalKey) → Each (IsKeyOf ts) ks → keys_seen us ks ≡ keys_seen ts ks
  keys-see ks i = each-map (IsKeyOf ts) (key_seen us) (key_seen ts) ks (λ k h. key-sees k h.goal.goal) i

  pub tabled-grown : (g : Goals) → IsTabled ts g → IsTabled us g
  tabled-grown g h =
      let p = table-parts h in
      let t = table-sees g.table p.entries in
      let k = keys-see g.asked p.keys in
      of-table-parts (record {
        entries = each-imply (IsEntryOf ts) (IsEntryOf us) g.table entry-stays p.entries;
        keys = each-imply (IsKeyOf ts) (IsKeyOf us) g.asked key-stays p.keys;
        are_new = subst (λ (q : GoalTable Via × List Key). AreNew q.0 q.1) (sym (λ j. (t j, k j))) p.are_new;
        room = p.room;
      })

  -- so the table is what it was
  pub tabled-sees : (g : Goals) → IsTabled ts g → table_seen us g.table ≡ table_seen ts g.table
  tabled-sees g h = table-sees g.table (table-parts h).entries

-- there are no goals
pub none_tabled : (ts : List Tree) → IsTabled ts (record { table = []; asked = []; asks = false })
none_tabled ts = of-table-parts (record { entries = tt; keys = tt; are_new = tt; room = omega arith })
