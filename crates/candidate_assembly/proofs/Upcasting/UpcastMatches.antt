-- Rows that are equated, and what is pending evaluated, by calls and by steps of a rule.
use Rattle.std.proofs.Common.{◌≡◌, ◌≤◌, ◌<◌, ◌+◌, ◌&&◌, ℕ, suc, Bool, true, false, Option, Some, None, List, [], ◌∷◌, arith, length, map, refl, sym, ap, subst, ◌∙◌}
use Rattle.std.specs.Prelude.{if◌then◌else◌, ◌||◌}
use Rattle.std.specs.List.{All, filter}
use Rattle.std.proofs.lemmas.List.{length-append}
use Rattle.std.proofs.lemmas.List.Elements.{All-head, All-tail}
use Rattle.ir_trees.specs.Instantiation.Folding.{substituted}
use Rattle.ir_trees.specs.Unification.Substitutions.{alone}
use Rattle.ir_trees.specs.Hierarchy.Supers.{after_first}
use Rattle.ir_trees.specs.Syntax.Trees.{Kind, ConstantKind, RegionKind, Forest, none, tree, Tree, count, holds, is_param, join}
use Rattle.ir_trees.proofs.Syntax.Rows.{join-none}
use Rattle.ir_trees.proofs.Syntax.Splits.{count-join, holds-join}
use Rattle.candidate_eval.specs.declared.eval.certainty.Certainty.{Certainty}
use Rattle.candidate_eval.specs.declared.eval.variable.VariableKind.{VariableKind}
use Rattle.candidate_eval.specs.declared.eval.variable.VariableKind.TheVariants.{Term, Region}
use Rattle.candidate_eval.specs.Judges.Alike.{JudgesAlike}
use Rattle.candidate_eval.specs.Interface.Evaluators.{accepted, rigid, with_left, with_rigid}
use Rattle.candidate_eval.specs.Derivations.Judging.{Place, At, Refused, at_state, equated_at, go_on, is_at, made_fresh, made_rigid, matched_and_settled, matches, put_in, reached, run, settled_at, start, with_goals}
use Rattle.candidate_eval.specs.Judges.Lawful.{Lawful}
use Rattle.candidate_eval.specs.Derivations.Mentions.{IsBelow, is_from}
use Rattle.candidate_eval.specs.Derivations.Naming.{named}
use Rattle.candidate_eval.specs.Derivations.Rules.{Match, Upcast, Step, enter, equate, fresh, settle}
use Rattle.candidate_eval.specs.Judges.States.{Env, State, Judge, Pending, fresh_info, fresh_variables, is_some, next, placeholder, placeholders, variable, variable_kind, with_fresh, with_fresh_variables}
use Rattle.candidate_eval.proofs.Marks.Holds.{holds_parts}
use Rattle.candidate_eval.proofs.Marks.Marking.{after-unmarked, below-more, unmarked}
use Rattle.candidate_eval.proofs.Derivations.Naming.{AreOfVariables, kinds-bound, named-fresh, named-row-below, opened-below, placeholders-stand}
use Rattle.candidate_eval.specs.Dynamic.ObjectRules.{IsRuleTree}
use Rattle.candidate_assembly.specs.Rules.DynBounds.{projects}
use Rattle.candidate_assembly.specs.Answers.Telling.{standing}
use Rattle.candidate_assembly.specs.Rules.Unsizing.{bound_match, kinds_bound, principal_steps}
use Rattle.candidate_assembly.specs.Calls.Upcasting.{Row, meets_projection, row_under, row_without_self, rows_met, rows_state, source_trees, target_trees}
use Rattle.candidate_assembly.proofs.Objects.NamesWithin.{named-within}

-- By calls.

abbrev settled_next : Judge → State → Option State
settled_next J T = next (J.settled T) (λ q. Some q.1)

pub accepted-then : {F : Type 0} (judge : F → Judge) (f h : F) (e d : Env) (S T : State) (a b x y : Forest) (o : Option State) → h ≡ f → d ≡ e → T ≡ S → x ≡ a → y ≡ b → accepted (judge h) T d x y ≡ o → accepted (judge f) S e a b ≡ o
accepted-then judge f h e d S T a b x y o p q r s t is =
    sym (ap (λ z. accepted (judge z) T d x y) p
    ∙ (ap (λ z. accepted (judge f) T z x y) q
    ∙ (ap (λ z. accepted (judge f) z e x y) r ∙ (ap (λ z. accepted (judge f) S e z y) s ∙ ap (accepted (judge f) S e a) t))))
    ∙ is

module _ (J : Judge) (e : Env) (S : State) (source target : Row) where
  abbrev equation : Option State
  equation = accepted J (rows_state S source target) e (source_trees S source target) (target_trees S target)

  pub rows-apart : equation ≡ None → rows_met J e S source target ≡ None
  rows-apart h = ap (λ o. next o (settled_next J)) h

  pub rows-refused : (T : State) → equation ≡ Some T → J.settled T ≡ None → rows_met J e S source target ≡ None
  rows-refused T h s = ap (λ o. next o (settled_next J)) h ∙ ap (λ o. next o (λ q. Some q.1)) s

  pub rows-settled : (T U : State) (c : Certainty) → equation ≡ Some T → J.settled T ≡ Some (c, U) → rows_met J e S source target ≡ Some U
  rows-settled T U c h s = ap (λ o. next o (settled_next J)) h ∙ ap (λ o. next o (λ q. Some q.1)) s

-- what is settled later
pub settled-then : {F : Type 0} (judge : F → Judge) (f h : F) (T : State) (o : Option (Certainty × State)) → h ≡ f → (judge h).settled T ≡ o → (judge f).settled T ≡ o
settled-then judge f h T o p is = sym (ap (λ z. (judge z).settled T) p) ∙ is

-- what is said of rows later
pub met-then : {F : Type 0} (judge : F → Judge) (f h : F) (e d : Env) (S T : State) (s t x y : Row) (o : Option State) → h ≡ f → d ≡ e → T ≡ S → x ≡ s → y ≡ t → rows_met (judge h) d T x y ≡ o → rows_met (judge f) e S s t ≡ o
met-then judge f h e d S T s t x y o p q r i j is =
    sym (ap (λ z. rows_met (judge z) d T x y) p
    ∙ (ap (λ z. rows_met (judge f) z T x y) q
    ∙ (ap (λ z. rows_met (judge f) e z x y) r ∙ (ap (λ z. rows_met (judge f) e S z y) i ∙ ap (rows_met (judge f) e S s) j))))
    ∙ is

-- Fresh variables and placeholders.

pub count-fresh : (S : State) (ks : List Kind) → count (fresh_variables S ks) ≡ length ks
count-fresh S [] = refl
count-fresh S (k ∷ ks) = let more = count-fresh (with_fresh S (variable_kind k)) ks in omega (arith, more)

count-placeholders : (u n : ℕ) (ks : List Kind) → count (placeholders u n ks) ≡ length ks
count-placeholders u n [] = refl
count-placeholders u n (k ∷ ks) = let more = count-placeholders u (suc n) ks in omega (arith, more)

pub count-rigid : (S : State) (ks : List Kind) → count (rigid S ks) ≡ length ks
count-rigid S ks = count-placeholders (suc S.newest_universe) 0 ks

placeholders-below : (m u n : ℕ) (ks : List Kind) → IsBelow m (placeholders u n ks)
placeholders-below m u n [] = refl
placeholders-below m u n (k ∷ ks) = unmarked (is_from m) (placeholder k u n) none (placeholders u (suc n) ks) (at k) refl (placeholders-below m u (suc n) ks)
  where
    at : (k : Kind) → is_from m (placeholder k u n) ≡ false
    at ConstantKind = refl
    at RegionKind = refl
    at _ = refl

pub fresh-longer : (S : State) (ks : List Kind) → length S.variables ≤ length (with_fresh_variables S ks).variables
fresh-longer S [] = omega arith
fresh-longer S (k ∷ ks) =
    let more = fresh-longer (with_fresh S (variable_kind k)) ks in
    let one = length-append S.variables (fresh_info S (variable_kind k) ∷ []) in
    omega (arith, more, one)

variable-below : (m : ℕ) (w : VariableKind) (n : ℕ) → n < m → IsBelow m (alone (variable w n))
variable-below m (Term s) n l = of (grind (arith, l))
  where
    of : Rattle.std.specs.Prelude.nat_le m n ≡ false → IsBelow m (alone (variable (Term s) n))
    of e = ap (λ b. b || false) e
variable-below m Region n l = of (grind (arith, l))
  where
    of : Rattle.std.specs.Prelude.nat_le m n ≡ false → IsBelow m (alone (variable Region n))
    of e = ap (λ b. b || false) e

pub fresh-below : (S : State) (ks : List Kind) (m : ℕ) → length (with_fresh_variables S ks).variables ≤ m → IsBelow m (fresh_variables S ks)
fresh-below S [] m l = refl
fresh-below S (k ∷ ks) m l =
    let t : Tree = variable (variable_kind k) (length S.variables) in
    let more = fresh-longer (with_fresh S (variable_kind k)) ks in
    let one = length-append S.variables (fresh_info S (variable_kind k) ∷ []) in
    let inside : length S.variables < m = omega (arith, more, one, l) in
    let p = holds_parts (is_from m) t.head t.children none (variable-below m (variable_kind k) (length S.variables) inside) in
    unmarked (is_from m) t.head t.children (fresh_variables (with_fresh S (variable_kind k)) ks) p.here p.under (fresh-below (with_fresh S (variable_kind k)) ks m l)

pub rigid-longer : (S : State) (ks : List Kind) → length (with_rigid S ks).variables ≡ length S.variables
rigid-longer S [] = refl
rigid-longer S (k ∷ ks) = refl

pub below-join : (m : ℕ) (a b : Forest) → IsBelow m a → IsBelow m b → IsBelow m (join a b)
below-join m a b x y = holds-join (is_from m) a b ∙ (ap (λ z. z || holds (is_from m) b) x ∙ y)

-- Rows of a rule at a place.

abbrev pub substituted-in : Forest → Forest → Forest
substituted-in ls ts = substituted ls 0 ts

pub entered-place : (S : State) (ls : Forest) (ks : List Kind) → made_rigid (standing S ls) ks ≡ standing (with_rigid S ks) (join ls (rigid S ks))
entered-place S ls [] = ap (standing S) (sym (join-none ls))
entered-place S ls (k ∷ ks) = refl

-- the rule's variables after both rows were opened
abbrev pub after_rows : State → Forest → Row → Row → Forest
after_rows S ls source target = join (join ls (rigid S target.kinds)) (fresh_variables (with_rigid S target.kinds) source.kinds)

-- rows that stand under binders, in which no parameter stands
pub record IsPlainRow (r : Row) : Type 0 where
  pub kinds : AreOfVariables r.kinds
  pub free : holds is_param r.trees ≡ false

module _ (J : Judge) (e : Env) (S : State) (ls : Forest) (source target : Row) (s : IsPlainRow source) (t : IsPlainRow target) where
  abbrev opened_place : Place
  opened_place = made_fresh (made_rigid (standing S ls) target.kinds) source.kinds

  abbrev pub source_named : Forest
  source_named = named (count ls + length target.kinds) source.kinds source.trees

  abbrev pub target_named : Forest
  target_named = named (count ls) target.kinds target.trees

  pub source-put : substituted-in (after_rows S ls source target) source_named ≡ source_trees S source target
  source-put =
      let number : count (join ls (rigid S target.kinds)) ≡ count ls + length target.kinds = count-join ls (rigid S target.kinds) ∙ ap (λ n. count ls + n) (count-rigid S target.kinds) in
      ap (λ n. substituted-in (after_rows S ls source target) (named n source.kinds source.trees)) (sym number)
      ∙ named-fresh (with_rigid S target.kinds) (join ls (rigid S target.kinds)) source.kinds source.trees s.kinds s.free

  target-put : substituted-in (after_rows S ls source target) target_named ≡ target_trees S target
  target-put =
      named-within (rigid S target.kinds) ls (fresh_variables (with_rigid S target.kinds) source.kinds) target.kinds target.trees
      (placeholders-stand (suc S.newest_universe) 0 target.kinds t.kinds) (count-rigid S target.kinds) t.free

  pub rows-equated : equated_at J e opened_place source_named target_named
      ≡ next (accepted J (rows_state S source target) e (source_trees S source target) (target_trees S target)) (λ T. Some (standing T (after_rows S ls source target)))
  rows-equated =
      let p = standing (rows_state S source target) (after_rows S ls source target) in
      ap (λ q. equated_at J e (made_fresh q source.kinds) source_named target_named) (entered-place S ls target.kinds)
      ∙ (ap (λ x. next (J.equated p.state e x (put_in p target_named)) (λ q. Some (with_goals p q))) source-put
      ∙ (ap (λ x. next (J.equated p.state e (source_trees S source target) x) (λ q. Some (with_goals p q))) target-put
      ∙ by (J.equated p.state e (source_trees S source target) (target_trees S target))))
    where
      by : (o : Option (List Pending × State)) → next o (λ q. Some (with_goals (standing (rows_state S source target) (after_rows S ls source target)) q))
          ≡ next (next o (λ q. Some (with_left q))) (λ T. Some (standing T (after_rows S ls source target)))
      by None = refl
      by (Some q) = refl

  settled-from : (o : Option State) → next (next o (λ T. Some (standing T (after_rows S ls source target)))) (settled_at J) ≡ next (next o (λ T. next (J.settled T) (λ q. Some q.1))) (λ T. Some (standing T (after_rows S ls source target)))
  settled-from None = refl
  settled-from (Some T) = at (J.settled T)
    where
      at : (o : Option (Certainty × State)) → next o (λ q. Some (at_state (standing T (after_rows S ls source target)) q.1)) ≡ next (next o (λ q. Some q.1)) (λ U. Some (standing U (after_rows S ls source target)))
      at None = refl
      at (Some q) = refl

  -- where they lead
  pub rows-lead : next (equated_at J e opened_place source_named target_named) (settled_at J) ≡ next (rows_met J e S source target) (λ T. Some (standing T (after_rows S ls source target)))
  rows-lead = ap (λ o. next o (settled_at J)) rows-equated ∙ settled-from (accepted J (rows_state S source target) e (source_trees S source target) (target_trees S target))

  -- as steps
  abbrev pub row_steps : List Step
  row_steps = enter target.kinds ∷ fresh source.kinds ∷ equate source_named target_named ∷ settle ∷ []

  pub rows-run : run J e (standing S ls) row_steps ≡ reached Refused (next (rows_met J e S source target) (λ T. Some (standing T (after_rows S ls source target))))
  rows-run = at (equated_at J e opened_place source_named target_named) ∙ ap (reached Refused) rows-lead
    where
      so : (o : Option Place) → go_on (reached Refused o) (λ q. At q) ≡ reached Refused o
      so None = refl
      so (Some q) = refl

      at : (o : Option Place) → go_on (reached Refused o) (λ q. go_on (reached Refused (settled_at J q)) (λ r. At r)) ≡ reached Refused (next o (settled_at J))
      at None = refl
      at (Some q) = so (settled_at J q)

  is-there : (o : Option State) → is_at (reached Refused (next o (λ T. Some (standing T (after_rows S ls source target))))) ≡ is_some o
  is-there None = refl
  is-there (Some T) = refl

  pub rows-tried : is_at (run J e (standing S ls) row_steps) ≡ is_some (rows_met J e S source target)
  rows-tried = ap is_at rows-run ∙ is-there (rows_met J e S source target)

-- States that are alike try rows alike.
pub rows-alike : (J : Judge) → JudgesAlike J → (e : Env) (S T : State) (source target : Row) → IsPlainRow source → IsPlainRow target → J.alike S T → IsBelow (length S.variables) e
    → IsBelow (length S.variables) source.trees → IsBelow (length S.variables) target.trees → is_some (rows_met J e T source target) ≡ is_some (rows_met J e S source target)
rows-alike J law e S T source target s t a env left right =
    let n = length S.variables in
    sym (rows-tried J e T none source target s t)
    ∙ (law.same_refusals n (start S) (start T) e (row_steps J e S none source target s t) (law.alike_places S T none a refl) env
    (tt, (tt, ((named-row-below n (0 + length target.kinds) source.kinds source.trees left, named-row-below n 0 target.kinds target.trees right), (tt, tt))))
    ∙ rows-tried J e S none source target s t)

-- The rows of bounds and of principals.

-- a tree of whose row a rule may speak
pub under-plain : (b : Tree) → holds is_param (alone b) ≡ false → IsPlainRow (row_under b)
under-plain b e = record { kinds = kinds-bound b.children; free = after-unmarked is_param b.children (holds_parts is_param b.head b.children none e).under }

pub under-below : (n : ℕ) (b : Tree) → IsBelow n (alone b) → IsBelow n (row_under b).trees
under-below n b e = after-unmarked (is_from n) b.children (holds_parts (is_from n) b.head b.children none e).under

pub principal-plain : (b : Tree) → holds is_param (alone b) ≡ false → IsPlainRow (row_without_self b)
principal-plain b e = record { kinds = kinds-bound b.children; free = after-unmarked is_param (after_first b.children) (under-plain b e).free }

pub principal-below : (n : ℕ) (b : Tree) → IsBelow n (alone b) → IsBelow n (row_without_self b).trees
principal-below n b e = after-unmarked (is_from n) (after_first b.children) (under-below n b e)

named-after : (n : ℕ) (ks : List Kind) (ts : Forest) → after_first (named n ks ts) ≡ named n ks (after_first ts)
named-after n ks none = refl
named-after n ks (tree h below rest) = refl

-- The steps of a principal are those of its row.
pub principal-run : (J : Judge) (e : Env) (S : State) (ls : Forest) (source target : Tree) → holds is_param (alone source) ≡ false → holds is_param (alone target) ≡ false
    → run J e (standing S ls) (principal_steps (count ls) source target)
    ≡ reached Refused (next (rows_met J e S (row_without_self source) (row_under target)) (λ T. Some (standing T (after_rows S ls (row_without_self source) (row_under target)))))
principal-run J e S ls source target s t =
    ap (λ x. run J e (standing S ls) (enter (kinds_bound target) ∷ fresh (kinds_bound source) ∷ equate x (named (count ls) (kinds_bound target) (after_first target.children)) ∷ settle ∷ []))
    (named-after (count ls + length (kinds_bound target)) (kinds_bound source) (after_first source.children))
    ∙ rows-run J e S ls (row_without_self source) (row_under target) (principal-plain source s) (under-plain target t)

-- A match of a bound leads where its row does.
pub match-leads : (J : Judge) (e : Env) (S : State) (ls : Forest) (source target : Tree) → holds is_param (alone source) ≡ false → holds is_param (alone target) ≡ false
    → matched_and_settled J e (standing S ls) (bound_match (count ls) target source)
    ≡ next (rows_met J e S (row_under source) (row_under target)) (λ T. Some (standing T (after_rows S ls (row_under source) (row_under target))))
match-leads J e S ls source target s t = rows-lead J e S ls (row_under source) (row_under target) (under-plain source s) (under-plain target t)

some-there : (o : Option State) (f : State → Place) → is_some (next o (λ T. Some (f T))) ≡ is_some o
some-there None f = refl
some-there (Some T) f = refl

-- Which bounds match at a state alike the first.
module _ (J : Judge) (law : JudgesAlike J) (e : Env) (S T : State) (a : J.alike S T) (env : IsBelow (length S.variables) e) (item : ℕ) (target : Tree) (free : holds is_param (alone target) ≡ false)
    (low : IsBelow (length S.variables) (alone target)) where
  pub bound-matches : (ls : Forest) (b : Tree) → holds is_param (alone b) ≡ false → IsBelow (length S.variables) (alone b)
      → matches J e Upcast (standing T ls) (bound_match (count ls) target b) ≡ is_some (rows_met J e S (row_under b) (row_under target))
  bound-matches ls b f l =
      ap is_some (match-leads J e T ls b target f free)
      ∙ (some-there (rows_met J e T (row_under b) (row_under target)) (λ U. standing U (after_rows T ls (row_under b) (row_under target)))
      ∙ rows-alike J law e S T (row_under b) (row_under target) (under-plain b f) (under-plain target free) a env (under-below (length S.variables) b l) (under-below (length S.variables) target low))

  pub bounds-match : (ls : Forest) (bs : List Tree) → All (IsRuleTree (length S.variables)) bs
      → filter (matches J e Upcast (standing T ls)) (map (bound_match (count ls) target) (filter (λ b. projects item b.head) bs)) ≡ map (bound_match (count ls) target) (filter (meets_projection J e S item target) bs)
  bounds-match ls [] all = refl
  bounds-match ls (b ∷ bs) all =
      let here = All-head (IsRuleTree (length S.variables)) b bs all in
      at (projects item b.head) (is_some (rows_met J e S (row_under b) (row_under target))) (bound-matches ls b here.no_parameter here.below) (bounds-match ls bs (All-tail (IsRuleTree (length S.variables)) b bs all))
    where
      M : Match → Bool
      M = matches J e Upcast (standing T ls)

      m : Tree → Match
      m = bound_match (count ls) target

      about : Tree → Bool
      about c = projects item c.head

      both : Tree → Bool
      both c = meets_projection J e S item target c

      at : (x y : Bool) → M (m b) ≡ y → filter M (map m (filter about bs)) ≡ map m (filter both bs)
          → filter M (map m (if x then b ∷ filter about bs else filter about bs)) ≡ map m (if x && y then b ∷ filter both bs else filter both bs)
      at false y g more = more
      at true true g more = ap (λ z. if z then m b ∷ filter M (map m (filter about bs)) else filter M (map m (filter about bs))) g ∙ ap (λ ms. m b ∷ ms) more
      at true false g more = ap (λ z. if z then m b ∷ filter M (map m (filter about bs)) else filter M (map m (filter about bs))) g ∙ more

-- The state after rows were met has all variables that were there, and those that stand for the rule's.
module _ (J : Judge) (laws : Lawful J) (e : Env) (S T : State) (source target : Row) (met : rows_met J e S source target ≡ Some T) where
  pub rows-longer : length (rows_state S source target).variables ≤ length T.variables
  rows-longer = at (J.equated (rows_state S source target) e (source_trees S source target) (target_trees S target)) refl met
    where
      settled : (R : State) → length (rows_state S source target).variables ≤ length R.variables → (o : Option (Certainty × State)) → J.settled R ≡ o → next o (λ q. Some q.1) ≡ Some T
          → length (rows_state S source target).variables ≤ length T.variables
      settled R l None h m = absurd cc
      settled R l (Some q) h m =
          let same : q.1 ≡ T = cc in
          let more = laws.granted.settling_keeps_variables R q.1 q.0 h in
          subst (λ (U : State). length (rows_state S source target).variables ≤ length U.variables) same (omega (arith, l, more))

      at : (o : Option (List Pending × State)) → J.equated (rows_state S source target) e (source_trees S source target) (target_trees S target) ≡ o
          → next (next o (λ q. Some (with_left q))) (settled_next J) ≡ Some T → length (rows_state S source target).variables ≤ length T.variables
      at None h m = absurd cc
      at (Some q) h m =
          settled (with_left q) (laws.equations.equating_keeps_variables (rows_state S source target) q.1 e (source_trees S source target) (target_trees S target) q.0 h)
          (J.settled (with_left q)) refl m

  pub all-longer : length S.variables ≤ length T.variables
  all-longer =
      let rigid = rigid-longer S target.kinds in
      let fresh = fresh-longer (with_rigid S target.kinds) source.kinds in
      let more = rows-longer in
      omega (arith, rigid, fresh, more)

  pub after-below : (ls : Forest) → IsBelow (length S.variables) ls → IsBelow (length T.variables) (after_rows S ls source target)
  after-below ls l =
      let m = length T.variables in
      below-join m (join ls (rigid S target.kinds)) (fresh_variables (with_rigid S target.kinds) source.kinds)
      (below-join m ls (rigid S target.kinds) (below-more (length S.variables) m ls all-longer l) (placeholders-below m (suc S.newest_universe) 0 target.kinds))
      (fresh-below (with_rigid S target.kinds) source.kinds m rows-longer)

  pub source-below : IsBelow (length S.variables) source.trees → IsBelow (length T.variables) (source_trees S source target)
  source-below l =
      opened-below (length T.variables) (fresh_variables (with_rigid S target.kinds) source.kinds) (fresh-below (with_rigid S target.kinds) source.kinds (length T.variables) rows-longer) source.trees
      (below-more (length S.variables) (length T.variables) source.trees all-longer l)

pub count-after : (S : State) (ls : Forest) (source target : Row) → count (after_rows S ls source target) ≡ count ls + length target.kinds + length source.kinds
count-after S ls source target =
    count-join (join ls (rigid S target.kinds)) (fresh_variables (with_rigid S target.kinds) source.kinds)
    ∙ (ap (λ n. n + count (fresh_variables (with_rigid S target.kinds) source.kinds)) (count-join ls (rigid S target.kinds) ∙ ap (λ n. count ls + n) (count-rigid S target.kinds))
    ∙ ap (λ n. count ls + length target.kinds + n) (count-fresh (with_rigid S target.kinds) source.kinds))
