-- Variables that are numbered anew: what an instance says of the new ones, another says of the old ones.
use Rattle.std.proofs.Common.{◌≡◌, ◌<◌, ℕ, suc, ◌==◌, ◌||◌, Bool, true, false, not, List, [], ◌∷◌, ◌++◌, Option, Some, None, slice_get, arith, refl, sym, ap, subst, ◌∙◌, if◌then◌else◌}
use Rattle.std.specs.Option.{unwrap_or}
use Rattle.std.proofs.lemmas.Bool.{eqb-true, eq-eqb, lt-leb}
use Rattle.ir_trees.specs.declared.ir.heads.Head.{Head}
use Rattle.ir_trees.specs.declared.ir.heads.Head.TheVariants as H
use Rattle.ir_trees.specs.declared.ir.heads.Builtin.TheVariants as B
use Rattle.ir_trees.specs.declared.ir.heads.ConstHead.TheVariants as C
use Rattle.ir_trees.specs.declared.ir.heads.Variable.{Variable}
use Rattle.ir_trees.specs.declared.ir.heads.VariableSort.{VariableSort}
use Rattle.ir_trees.specs.declared.ir.heads.VariableSort.TheVariants as V
use Rattle.ir_trees.specs.declared.ir.kinds.FloatTy.TheVariants as F
use Rattle.ir_trees.specs.declared.ir.kinds.RegionKind.TheVariants as R
use Rattle.ir_trees.specs.declared.ir.kinds.UintTy.TheVariants as U
use Rattle.ir_trees.specs.Syntax.Trees.{Forest, none, tree, Tree, erase, erased_head, holds, variable_number}
use Rattle.ir_trees.specs.Syntax.Binders.{escapes}
use Rattle.ir_trees.specs.Instantiation.Folding.{leaf}
use Rattle.ir_trees.specs.Unification.Substitutions.{Universes, alone, fits_sort, is_variable}
use Rattle.ir_trees.proofs.Instantiation.Folding.{begin}
use Rattle.candidate_eval.specs.Judges.States.{valued}
use Rattle.candidate_eval.specs.Judges.Instances.{Instance, instance, is_of_universe, IsAllowedInto}
use Rattle.candidate_eval.proofs.Marks.Holds.{holds_parts, holds_imply}
use Rattle.rounds_judge.specs.Obligations.Responding.{is_seen, with_number, with_numbers, with_numbers_of, place_of, renumbering, renumbered_region, renumbered_regions, renumbered}
use Rattle.rounds_judge.proofs.States.Marks.{whole, valued_node}

-- Numbers that were seen

abbrev pub is_missing_number : List ℕ → Option ℕ → Bool
is_missing_number ns None = false
is_missing_number ns (Some n) = not (is_seen ns n)

-- a variable whose number is not among these
abbrev pub is_missing : List ℕ → Head → Bool
is_missing ns h = is_missing_number ns (variable_number h)

seen_longer : (ns ms : List ℕ) (n : ℕ) → is_seen ns n ≡ true → is_seen (ns ++ ms) n ≡ true
seen_longer [] ms n e = cc
seen_longer (k ∷ ns) ms n e = at (k == n) (seen_longer ns ms n) e
  where
    at : (b : Bool) → (is_seen ns n ≡ true → is_seen (ns ++ ms) n ≡ true) → b || is_seen ns n ≡ true → b || is_seen (ns ++ ms) n ≡ true
    at true f e = refl
    at false f e = f e

seen_last : (ns : List ℕ) (n : ℕ) → is_seen (ns ++ n ∷ []) n ≡ true
seen_last [] n = ap (λ b. b || false) (eq-eqb n n refl)
seen_last (k ∷ ns) n = at (k == n) (seen_last ns n)
  where
    at : (b : Bool) → is_seen (ns ++ n ∷ []) n ≡ true → b || is_seen (ns ++ n ∷ []) n ≡ true
    at true e = refl
    at false e = e

seen_with : (ns : List ℕ) (o : Option ℕ) (n : ℕ) → is_seen ns n ≡ true → is_seen (with_number ns o) n ≡ true
seen_with ns None n e = e
seen_with ns (Some k) n e = at (is_seen ns k)
  where
    at : (b : Bool) → is_seen (if b then ns else ns ++ k ∷ []) n ≡ true
    at true = e
    at false = seen_longer ns (k ∷ []) n e

seen_after : (ns : List ℕ) (ts : Forest) (n : ℕ) → is_seen ns n ≡ true → is_seen (with_numbers ns ts) n ≡ true
seen_after ns none n e = e
seen_after ns (tree h below rest) n e = seen_after (with_numbers (with_number ns (variable_number h)) below) rest n (seen_after (with_number ns (variable_number h)) below n (seen_with ns (variable_number h) n e))

seen_after_all : (ns : List ℕ) (ts : List Tree) (n : ℕ) → is_seen ns n ≡ true → is_seen (with_numbers_of ns ts) n ≡ true
seen_after_all ns [] n e = e
seen_after_all ns (t ∷ ts) n e = seen_after_all (with_numbers ns (alone t)) ts n (seen_after ns (alone t) n e)

fewer_missing : (ns ms : List ℕ) → ((n : ℕ) → is_seen ns n ≡ true → is_seen ms n ≡ true) → (h : Head) → is_missing ns h ≡ false → is_missing ms h ≡ false
fewer_missing ns ms f h e = at (variable_number h) e
  where
    seen : (b : Bool) → not b ≡ false → b ≡ true
    seen true e = refl
    seen false e = cc

    at : (o : Option ℕ) → is_missing_number ns o ≡ false → is_missing_number ms o ≡ false
    at None e = refl
    at (Some n) e = ap not (f n (seen (is_seen ns n) e))

none_missing : (ns : List ℕ) (o : Option ℕ) → is_missing_number (with_number ns o) o ≡ false
none_missing ns None = refl
none_missing ns (Some n) = at (is_seen ns n) refl
  where
    at : (b : Bool) → is_seen ns n ≡ b → not (is_seen (if b then ns else ns ++ n ∷ []) n) ≡ false
    at true e = ap not e
    at false e = ap not (seen_last ns n)

pub all_seen : (ns : List ℕ) (ts : Forest) → holds (is_missing (with_numbers ns ts)) ts ≡ false
all_seen ns none = refl
all_seen ns (tree h below rest) =
    let a : List ℕ = with_number ns (variable_number h) in
    let b : List ℕ = with_numbers a below in
    let c : List ℕ = with_numbers b rest in
    whole (is_missing c) h below rest (fewer_missing a c (λ n e. seen_after b rest n (seen_after a below n e)) h (none_missing ns (variable_number h)))
    (holds_imply (is_missing b) (is_missing c) (fewer_missing b c (seen_after b rest)) below (all_seen a below)) (all_seen b rest)

-- the numbers of trees, and then of others
pub none_is_missing : (ts : Forest) (us : List Tree) → holds (is_missing (with_numbers_of (with_numbers [] ts) us)) ts ≡ false
none_is_missing ts us =
    let ns : List ℕ = with_numbers [] ts in
    holds_imply (is_missing ns) (is_missing (with_numbers_of ns us)) (fewer_missing ns (with_numbers_of ns us) (seen_after_all ns us)) ts (all_seen [] ts)

-- at the place of a number stands that number
pub place_is : (ns : List ℕ) (n : ℕ) → is_seen ns n ≡ true → slice_get ns (place_of ns n) ≡ Some n
place_is [] n e = cc
place_is (m ∷ ns) n e = at (m == n) refl (place_is ns n) e
  where
    at : (b : Bool) → (m == n) ≡ b → (is_seen ns n ≡ true → slice_get ns (place_of ns n) ≡ Some n) → b || is_seen ns n ≡ true → slice_get (m ∷ ns) (if b then 0 else suc (place_of ns n)) ≡ Some n
    at true f ih e = ap Some (eqb-true m n f)
    at false f ih e = ih e

-- Instances

-- some closed tree of each sort, in which nothing is of any universe
abbrev plain_tree : VariableSort → Tree
plain_tree V.General = leaf H.Error
plain_tree V.Integer = leaf (H.Builtin (B.Uint U.U8))
plain_tree V.Floating = leaf (H.Builtin (B.Float F.F32))
plain_tree V.Constant = leaf (H.Const C.Error)

abbrev pub new_variable : List ℕ → Variable → Variable
new_variable ns v = record { sort = v.sort; number = place_of ns v.number }

module _ (ns : List ℕ) (i : Instance) where
  -- what the instance says of the new variable, or that variable
  abbrev pub said_of : Variable → Tree
  said_of v = unwrap_or (i (new_variable ns v)) (leaf (H.Infer (new_variable ns v)))

  -- the same of the old variables; and of those that have no new number, something plain
  abbrev pub of_old : Instance
  of_old v = Some (if is_seen ns v.number then said_of v else plain_tree v.sort)

  -- What is said of the old variables is allowed.
  module _ (u r w : Universes) (old : (v : Variable) → is_seen ns v.number ≡ true → r (new_variable ns v) ≡ u v) (allowed : IsAllowedInto r w i) where
    said_fits : (v : Variable) → fits_sort v.sort (said_of v).head ≡ true
    said_fits v = at (i (new_variable ns v)) refl
      where
        own : (s : VariableSort) (n : ℕ) → fits_sort s (H.Infer (record { sort = s; number = n })) ≡ true
        own V.General n = refl
        own V.Integer n = refl
        own V.Floating n = refl
        own V.Constant n = refl

        at : (o : Option Tree) → i (new_variable ns v) ≡ o → fits_sort v.sort (unwrap_or o (leaf (H.Infer (new_variable ns v)))).head ≡ true
        at None e = own v.sort (place_of ns v.number)
        at (Some t) e = allowed.fits (new_variable ns v) t e

    said_closed : (v : Variable) → escapes 0 (alone (said_of v)) ≡ false
    said_closed v = at (i (new_variable ns v)) refl
      where
        at : (o : Option Tree) → i (new_variable ns v) ≡ o → escapes 0 (alone (unwrap_or o (leaf (H.Infer (new_variable ns v))))) ≡ false
        at None e = refl
        at (Some t) e = allowed.is_closed (new_variable ns v) t e

    said_low : (v : Variable) (n : ℕ) → is_seen ns v.number ≡ true → u v < n → holds (is_of_universe w n) (alone (said_of v)) ≡ false
    said_low v n seen less = at (i (new_variable ns v)) refl
      where
        lower : r (new_variable ns v) < n
        lower = subst (λ k. k < n) (sym (old v seen)) less

        at : (o : Option Tree) → i (new_variable ns v) ≡ o → holds (is_of_universe w n) (alone (unwrap_or o (leaf (H.Infer (new_variable ns v))))) ≡ false
        at None e =
            let stays = allowed.stays (new_variable ns v) e in
            whole (is_of_universe w n) (H.Infer (new_variable ns v)) none none (lt-leb n (w (new_variable ns v)) (omega (arith, stays, lower))) refl refl
        at (Some t) e = allowed.in_universe (new_variable ns v) t n e lower

    plain_fits : (s : VariableSort) → fits_sort s (plain_tree s).head ≡ true
    plain_fits V.General = refl
    plain_fits V.Integer = refl
    plain_fits V.Floating = refl
    plain_fits V.Constant = refl

    plain_closed : (s : VariableSort) → escapes 0 (alone (plain_tree s)) ≡ false
    plain_closed V.General = refl
    plain_closed V.Integer = refl
    plain_closed V.Floating = refl
    plain_closed V.Constant = refl

    plain_low : (s : VariableSort) (n : ℕ) → holds (is_of_universe w n) (alone (plain_tree s)) ≡ false
    plain_low V.General n = refl
    plain_low V.Integer n = refl
    plain_low V.Floating n = refl
    plain_low V.Constant n = refl

    pub old_allowed : IsAllowedInto u w of_old
    old_allowed = record {
      fits = λ v t e. subst (λ (t : Tree). fits_sort v.sort t.head ≡ true) (let is : (if is_seen ns v.number then said_of v else plain_tree v.sort) ≡ t = cc in is) (fits v (is_seen ns v.number));
      is_closed = λ v t e. subst (λ (t : Tree). escapes 0 (alone t) ≡ false) (let is : (if is_seen ns v.number then said_of v else plain_tree v.sort) ≡ t = cc in is) (closed v (is_seen ns v.number));
      in_universe = λ v t n e less. subst (λ (t : Tree). holds (is_of_universe w n) (alone t) ≡ false) (let is : (if is_seen ns v.number then said_of v else plain_tree v.sort) ≡ t = cc in is) (low v n less (is_seen ns v.number) refl);
      stays = λ v e. absurd (let clash : Some (if is_seen ns v.number then said_of v else plain_tree v.sort) ≡ None = e in cc);
    }
      where
        fits : (v : Variable) (b : Bool) → fits_sort v.sort (if b then said_of v else plain_tree v.sort).head ≡ true
        fits v true = said_fits v
        fits v false = plain_fits v.sort

        closed : (v : Variable) (b : Bool) → escapes 0 (alone (if b then said_of v else plain_tree v.sort)) ≡ false
        closed v true = said_closed v
        closed v false = plain_closed v.sort

        low : (v : Variable) (n : ℕ) → u v < n → (b : Bool) → is_seen ns v.number ≡ b → holds (is_of_universe w n) (alone (if b then said_of v else plain_tree v.sort)) ≡ false
        low v n less true e = said_low v n e less
        low v n less false e = plain_low v.sort n

  -- Trees

  other_node : (j : Instance) (h : Head) (below rest : Forest) → is_variable h ≡ false → valued (instance j) (tree h below rest) ≡ tree h (valued (instance j) below) (valued (instance j) rest)
  other_node j h below rest e = valued_node (instance j) h below rest ∙ ap (λ o. begin (unwrap_or o (record { head = h; children = valued (instance j) below })) (valued (instance j) rest)) (nothing h e)
    where
      nothing : (h : Head) → is_variable h ≡ false → instance j h ≡ None
      nothing (H.Infer v) e = cc
      nothing _ e = refl

  new_head : (h : Head) → is_variable h ≡ false → is_variable (renumbered_region ns h) ≡ false
  new_head (H.Region (R.Var n)) e = refl
  new_head h e = e

  new_erased : (h : Head) → erased_head (renumbered_region ns h) ≡ erased_head h
  new_erased (H.Region (R.Var n)) = refl
  new_erased h = refl

  -- what the instance says of the renumbered trees is what is said of the trees
  pub renumbered_same : (ts : Forest) → holds (is_missing ns) ts ≡ false → erase (valued (instance i) (renumbered ns ts)) ≡ erase (valued (instance of_old) ts)
  renumbered_same none m = refl
  renumbered_same (tree h below rest) m =
      let p = holds_parts (is_missing ns) h below rest m in
      node h p.here (renumbered_same below p.under) (renumbered_same rest p.others)
    where
      seen : (b : Bool) → not b ≡ false → b ≡ true
      seen true e = refl
      seen false e = cc

      other : (h : Head) → is_variable h ≡ false → erase (valued (instance i) (renumbered ns below)) ≡ erase (valued (instance of_old) below) → erase (valued (instance i) (renumbered ns rest)) ≡ erase (valued (instance of_old) rest)
          → erase (valued (instance i) (renumbered ns (tree h below rest))) ≡ erase (valued (instance of_old) (tree h below rest))
      other h e under others =
          ap (λ ts. erase (valued (instance i) (renumbered_regions ns ts))) (other_node (renumbering ns) h below rest e)
          ∙ ap erase (other_node i (renumbered_region ns h) (renumbered ns below) (renumbered ns rest) (new_head h e))
          ∙ ap (λ g. tree g (erase (valued (instance i) (renumbered ns below))) (erase (valued (instance i) (renumbered ns rest)))) (new_erased h)
          ∙ ap (λ b. tree (erased_head h) b (erase (valued (instance i) (renumbered ns rest)))) under ∙ ap (tree (erased_head h) (erase (valued (instance of_old) below))) others
          ∙ ap erase (sym (other_node of_old h below rest e))

      node : (h : Head) → is_missing ns h ≡ false → erase (valued (instance i) (renumbered ns below)) ≡ erase (valued (instance of_old) below) → erase (valued (instance i) (renumbered ns rest)) ≡ erase (valued (instance of_old) rest)
          → erase (valued (instance i) (renumbered ns (tree h below rest))) ≡ erase (valued (instance of_old) (tree h below rest))
      node (H.Infer v) e under others =
          ap (λ ts. tree (erased_head (said_of v).head) (erase (said_of v).children) ts) others
          ∙ ap (λ b. let t : Tree = if b then said_of v else plain_tree v.sort in erase (begin t (valued (instance of_old) rest))) (sym (seen (is_seen ns v.number) e))
      node h e under others = other h refl under others
