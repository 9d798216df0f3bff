-- Where no region is an error in what goals say and in listed types, they are clean.
use Rattle.std.proofs.Common.{◌≡◌, ◌||◌, Bool, true, false, List, [], ◌∷◌, refl, subst, sym}
use Rattle.std.specs.List.{All, Contains}
use Rattle.std.proofs.lemmas.List.Elements.{All-cons, All-contains, All-contains_itself, All-head, All-nil, All-tail, All-weaker}
use Rattle.ir_trees.specs.declared.ir.heads.Flag.TheVariants as F
use Rattle.ir_trees.specs.declared.ir.heads.Head.{Head}
use Rattle.ir_trees.specs.declared.ir.heads.Head.TheVariants as H
use Rattle.ir_trees.specs.declared.ir.heads.PartHead.TheVariants as P
use Rattle.ir_trees.specs.declared.ir.kinds.RegionKind.TheVariants as R
use Rattle.ir_trees.specs.declared.ir.kinds.Ty.{Ty}
use Rattle.ir_trees.specs.Declarations.Context.{Context, world}
use Rattle.ir_trees.specs.Declarations.References.{IsWellFormed}
use Rattle.ir_trees.specs.Syntax.Flags.{mark}
use Rattle.ir_trees.specs.Hierarchy.Supers.{after_first}
use Rattle.ir_trees.specs.Syntax.Trees.{Forest, Tree, holds, none, tree, tree_holds}
use Rattle.ir_trees.specs.Syntax.Words.{clause_tree, ty_tree}
use Rattle.ir_trees.specs.Unification.Substitutions.{alone}
use Rattle.candidate_eval.specs.declared.eval.mode.TypingMode.{TypingMode}
use Rattle.candidate_eval.specs.Dynamic.ObjectRequirements.{trait_said}
use Rattle.candidate_eval.specs.Judges.States.{is_some}
use Rattle.candidate_eval.proofs.Marks.Holds.{holds_imply, holds_parts}
use Rattle.candidate_eval.proofs.Marks.Marking.{after-unmarked, unmarked}
use Rattle.candidate_assembly.proofs.Refusals.KnownHeaders.{fits-leaves}
use Rattle.candidate_assembly.specs.Laws.SuperLaws.{IsFitting}
use Rattle.rounds_judge.specs.Table.GoalTable.{Entry}
use Rattle.derivations.specs.Clean.{IsClean, is_error_region}
use Rattle.derivations.specs.DerivedTables.{TableIsClean}
use Rattle.derivations.proofs.Clean.{clean_without_errors}
use Rattle.candidate_rounds.specs.declared.rounds.goals.GoalKey.{GoalKey}
use Rattle.candidate_rounds.specs.Evaluators.Known.{AreTypes, NormalForms, listing_by, pairs_of}
use Rattle.candidate_rounds.specs.Table.Cleanness.{IsWithoutError, has_error}
use Rattle.candidate_rounds.specs.Table.Entries.{GoalEntry}
use Rattle.candidate_rounds.specs.Table.Goals.{Each, IsEntryOf, IsKeyOf, SaysTrait, Via, entry_seen, key_seen, table_seen}
use Rattle.candidate_rounds.proofs.Table.KeysStand.{key-stands-there, listed-fit}
use Rattle.candidate_rounds.proofs.Table.Keying.{arguments-seen}

-- What isn't marked as an error is none of regions.
not-of-regions : (h : Head) → mark F.Error h ≡ false → is_error_region h ≡ false
not-of-regions (H.Region R.Error) e = cc
not-of-regions _ e = refl

or-parts : (a b : Bool) → a || b ≡ false → (a ≡ false) × (b ≡ false)
or-parts true b e = cc
or-parts false b e = (refl, e)

of-both : (a b : Bool) → a ≡ false → b ≡ false → a || b ≡ false
of-both true b e f = cc
of-both false b e f = f

pub without-mark : (t : Tree) → tree_holds (mark F.Error) t ≡ false → tree_holds is_error_region t ≡ false
without-mark t e =
    let p = or-parts (mark F.Error t.head) (holds (mark F.Error) t.children) e in
    of-both (is_error_region t.head) (holds is_error_region t.children) (not-of-regions t.head p.0) (holds_imply (mark F.Error) is_error_region not-of-regions t.children p.1)

pub key-without-error : (ts : List Tree) (k : GoalKey) → has_error ts k ≡ false → holds is_error_region (key_seen ts k).goal.reference.arguments ≡ false
key-without-error ts k e =
    let t = clause_tree ts k.goal.predicate in
    let p = or-parts (is_error_region t.head) (holds is_error_region t.children) e in
    subst (λ us. holds is_error_region us ≡ false) (sym (arguments-seen ts k.goal)) (after-unmarked is_error_region t.children p.1)

-- And where they are clean no region is an error in them.

errors-none : (ts : Forest) → IsClean ts → holds is_error_region ts ≡ false
errors-none none x = refl
errors-none (tree h below rest) x = unmarked is_error_region h below rest x.0 (errors-none below x.2) (errors-none rest x.3)

tree-without : (t : Tree) → IsClean (alone t) → tree_holds is_error_region t ≡ false
tree-without t x = let p = holds_parts is_error_region t.head t.children none (errors-none (alone t) x) in of-both (is_error_region t.head) (holds is_error_region t.children) p.here p.under

no-region : (h : Head) → is_some (trait_said h) ≡ true → is_error_region h ≡ false
no-region (H.Region R.Error) e = cc
no-region _ e = refl

-- A goal's clause binds nothing, so all of it that may be an error stands in the goal's arguments.
goal-without : (ts : List Tree) (k : GoalKey) → SaysTrait (clause_tree ts k.goal.predicate) → IsClean (key_seen ts k).goal.reference.arguments → has_error ts k ≡ false
goal-without ts k says x =
    let t = clause_tree ts k.goal.predicate in
    let args = errors-none (after_first t.children) (subst IsClean (arguments-seen ts k.goal) x) in
    let below = subst (λ us. holds is_error_region us ≡ false) (sym says.unbound) (unmarked is_error_region (H.Part P.Vars) none (after_first t.children) refl refl args) in
    of-both (is_error_region t.head) (holds is_error_region t.children) (no-region t.head says.is_trait) below

pub goals-without : (ts : List Tree) (es : List GoalEntry) → Each (IsEntryOf ts) es → ((e : Entry Via) → Contains (table_seen ts es) e → IsClean e.key.goal.reference.arguments) → Each (λ (e : GoalEntry). has_error ts e.0 ≡ false) es
goals-without ts es entries keys =
    at es entries (All-weaker (Contains (table_seen ts es)) (λ (e : Entry Via). IsClean e.key.goal.reference.arguments) keys (table_seen ts es) (All-contains_itself (table_seen ts es)))
  where
    at : (es : List GoalEntry) → Each (IsEntryOf ts) es → All (λ (e : Entry Via). IsClean e.key.goal.reference.arguments) (table_seen ts es) → Each (λ (e : GoalEntry). has_error ts e.0 ≡ false) es
    at [] h x = tt
    at (e ∷ es) h x = (
      goal-without ts e.0 h.0.key.goal.says (All-head (λ (e : Entry Via). IsClean e.key.goal.reference.arguments) (entry_seen ts e) (table_seen ts es) x),
      at es h.1 (All-tail (λ (e : Entry Via). IsClean e.key.goal.reference.arguments) (entry_seen ts e) (table_seen ts es) x),
    )

pub types-without : (ts : List Tree) (ps : List (Ty × Ty)) → All (λ (p : Tree × Tree). IsClean (alone p.1)) (pairs_of ts ps) → Each (IsWithoutError ts) ps
types-without ts [] x = tt
types-without ts (p ∷ ps) x =
    let q : Tree × Tree = (ty_tree ts p.0, ty_tree ts p.1) in
    (tree-without q.1 (All-head (λ (p : Tree × Tree). IsClean (alone p.1)) q (pairs_of ts ps) x), types-without ts ps (All-tail (λ (p : Tree × Tree). IsClean (alone p.1)) q (pairs_of ts ps) x))

module _ (c : Context) (fit : IsWellFormed c) (m : TypingMode) where
  key-clean : (k : GoalKey) → IsKeyOf c.trees k → has_error c.trees k ≡ false → IsClean (key_seen c.trees k).goal.reference.arguments
  key-clean k i e = clean_without_errors (key_seen c.trees k).goal.reference.arguments (key-stands-there c fit m k i).stands.leaves (key-without-error c.trees k e)

  all-clean : (es : List GoalEntry) → Each (IsEntryOf c.trees) es → Each (λ (e : GoalEntry). has_error c.trees e.0 ≡ false) es → All (λ (e : Entry Via). IsClean e.key.goal.reference.arguments) (table_seen c.trees es)
  all-clean [] h x = All-nil (λ (e : Entry Via). IsClean e.key.goal.reference.arguments)
  all-clean (e ∷ es) h x = All-cons (λ (e : Entry Via). IsClean e.key.goal.reference.arguments) (entry_seen c.trees e) (table_seen c.trees es) (key-clean e.0 h.0.key x.0) (all-clean es h.1 x.1)

  keys-clean : (es : List GoalEntry) → Each (IsEntryOf c.trees) es → Each (λ (e : GoalEntry). has_error c.trees e.0 ≡ false) es → (e : Entry Via) → Contains (table_seen c.trees es) e → IsClean e.key.goal.reference.arguments
  keys-clean es h x e there = All-contains (λ (e : Entry Via). IsClean e.key.goal.reference.arguments) (table_seen c.trees es) e (all-clean es h x) there

  type-clean : (t : Tree) → IsFitting (world c) t → tree_holds is_error_region t ≡ false → IsClean (alone t)
  type-clean t f e =
      let p = or-parts (is_error_region t.head) (holds is_error_region t.children) e in
      clean_without_errors (alone t) (fits-leaves (world c) (alone t) (f.takes, f.below, tt)) (unmarked is_error_region t.head t.children none p.0 p.1 refl)

  types-clean : (ps : List (Ty × Ty)) → Each (AreTypes c.trees) ps → Each (IsWithoutError c.trees) ps → All (λ (p : Tree × Tree). IsClean (alone p.1)) (pairs_of c.trees ps)
  types-clean ps types without = at ps (listed-fit c fit ps types) without
    where
      at : (ps : List (Ty × Ty)) → All (λ (p : Tree × Tree). IsFitting (world c) p.1) (pairs_of c.trees ps) → Each (IsWithoutError c.trees) ps → All (λ (p : Tree × Tree). IsClean (alone p.1)) (pairs_of c.trees ps)
      at [] fits x = All-nil (λ (p : Tree × Tree). IsClean (alone p.1))
      at (p ∷ ps) fits x =
          let q : Tree × Tree = (ty_tree c.trees p.0, ty_tree c.trees p.1) in
          All-cons (λ (p : Tree × Tree). IsClean (alone p.1)) q (pairs_of c.trees ps) (type-clean q.1 (All-head (λ (p : Tree × Tree). IsFitting (world c) p.1) q (pairs_of c.trees ps) fits) x.0)
          (at ps (All-tail (λ (p : Tree × Tree). IsFitting (world c) p.1) q (pairs_of c.trees ps) fits) x.1)

  pub table-clean : (n : NormalForms) (es : List GoalEntry) → Each (AreTypes c.trees) n.pairs → Each (IsWithoutError c.trees) n.pairs → Each (IsEntryOf c.trees) es → Each (λ (e : GoalEntry). has_error c.trees e.0 ≡ false) es
      → TableIsClean (listing_by c.trees n) (table_seen c.trees es)
  table-clean n es types without entries clean = record { listed = types-clean n.pairs types without; keys = keys-clean es entries clean }
