-- Numbers that are noted again: below numbers that were walked there are none but those that are noted.
use Rattle.std.proofs.Common.{◌≡◌, ◌==◌, ℕ, Bool, true, false, not, List, [], ◌∷◌, ◌++◌, Option, Some, None, Result, Ok, Err, refl, sym, ◌∙◌, ap, subst, if◌then◌else◌}
use Rattle.std.specs.Prelude.{◌||◌, IfOk}
use Rattle.ir_trees.specs.declared.ir.heads.Head.{Head}
use Rattle.ir_trees.specs.Syntax.Nodes.{tree_at}
use Rattle.ir_trees.specs.Syntax.Trees.{Forest, none, tree, Tree, holds, variable_number}
use Rattle.candidate_eval.proofs.Marks.Holds.{holds_imply, holds_parts}
use Rattle.rounds_judge.specs.Obligations.Responding.{is_seen, with_number, with_numbers}
use Rattle.rounds_judge.specs.Table.TableSettling.{are_bare}
use Rattle.rounds_judge.proofs.Obligations.Renumbering.{all_seen, is_missing, is_missing_number}
use Rattle.candidate_rounds.specs.Calls.Walking.{AreGathered, IsGathered}
use Rattle.candidate_rounds.proofs.Resolution.Walking.{each-weaker}

-- What was seen stays so.

seen-longer : (ns ms : List ℕ) (n : ℕ) → is_seen ns n ≡ true → is_seen (ns ++ ms) n ≡ true
seen-longer [] ms n e = absurd cc
seen-longer (k ∷ ns) ms n e = at (k == n) (seen-longer ns ms n) e
  where
    at : (b : Bool) → (is_seen ns n ≡ true → is_seen (ns ++ ms) n ≡ true) → b || is_seen ns n ≡ true → b || is_seen (ns ++ ms) n ≡ true
    at true f e = refl
    at false f e = f e

seen-with : (ns : List ℕ) (o : Option ℕ) (n : ℕ) → is_seen ns n ≡ true → is_seen (with_number ns o) n ≡ true
seen-with ns None n e = e
seen-with ns (Some k) n e = at (is_seen ns k)
  where
    at : (b : Bool) → is_seen (if b then ns else ns ++ k ∷ []) n ≡ true
    at true = e
    at false = seen-longer ns (k ∷ []) n e

seen-by : (b : Bool) → not b ≡ false → b ≡ true
seen-by true e = refl
seen-by false e = absurd cc

fewer-missing : (ns ms : List ℕ) → ((n : ℕ) → is_seen ns n ≡ true → is_seen ms n ≡ true) → (h : Head) → is_missing ns h ≡ false → is_missing ms h ≡ false
fewer-missing ns ms f h e = at (variable_number h) e
  where
    at : (o : Option ℕ) → is_missing_number ns o ≡ false → is_missing_number ms o ≡ false
    at None e = refl
    at (Some n) e = ap not (f n (seen-by (is_seen ns n) e))

-- Where none is missing, none is new.

present : (ns : List ℕ) (o : Option ℕ) → is_missing_number ns o ≡ false → with_number ns o ≡ ns
present ns None e = refl
present ns (Some n) e = ap (λ (b : Bool). if b then ns else ns ++ n ∷ []) (seen-by (is_seen ns n) e)

none-new : (ns : List ℕ) (ts : Forest) → holds (is_missing ns) ts ≡ false → with_numbers ns ts ≡ ns
none-new ns none e = refl
none-new ns (tree h below rest) e =
    let p = holds_parts (is_missing ns) h below rest e in
    ap (λ ms. with_numbers (with_numbers ms below) rest) (present ns (variable_number h) p.here)
    ∙ (ap (λ ms. with_numbers ms rest) (none-new ns below p.under) ∙ none-new ns rest p.others)

still-none-new : (ns : List ℕ) (o : Option ℕ) (ts : Forest) → with_numbers ns ts ≡ ns → with_numbers (with_number ns o) ts ≡ with_number ns o
still-none-new ns o ts e =
    let all = subst (λ ms. holds (is_missing ms) ts ≡ false) e (all_seen ns ts) in
    none-new (with_number ns o) ts (holds_imply (is_missing ns) (is_missing (with_number ns o)) (fewer-missing ns (with_number ns o) (seen-with ns o)) ts all)

module _ (ts : List Tree) where
  -- one number more is noted
  pub gathered-later : (ns ms walked : List ℕ) (o : Option ℕ) → ms ≡ with_number ns o → AreGathered ns ts walked → AreGathered ms ts walked
  gathered-later ns ms walked o e a =
      subst (λ xs. AreGathered xs ts walked) (sym e)
      (each-weaker (IsGathered ns ts) (IsGathered (with_number ns o) ts)
      (λ n g. record { none_new = still-none-new ns o (tree_at ts n).children g.none_new; bare = g.bare }) walked a)

  pub gathered-call : {A S : Type 0} (ns ms walked : List ℕ) (o : Option ℕ) (r : Result A S) → IfOk r (λ _. ms ≡ with_number ns o) → AreGathered ns ts walked → IfOk r (λ _. AreGathered ms ts walked)
  gathered-call ns ms walked o (Ok x) e a = gathered-later ns ms walked o e a
  gathered-call ns ms walked o (Err s) e a = tt

  -- all below a number is noted
  pub gathered : (from ns : List ℕ) (n : ℕ) → ns ≡ with_numbers from (tree_at ts n).children → are_bare (tree_at ts n).children ≡ true → IsGathered ns ts n
  gathered from ns n e b = record {
    none_new =
        subst (λ xs. with_numbers xs (tree_at ts n).children ≡ xs) (sym e)
        (none-new (with_numbers from (tree_at ts n).children) (tree_at ts n).children (all_seen from (tree_at ts n).children));
    bare = b;
  }
