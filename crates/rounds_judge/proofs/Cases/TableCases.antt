-- Worked cases of a table of goals, by computation.
use Rattle.std.proofs.Common.{◌≡◌, ◌<◌, ◌≤◌, inl, inr, ℕ, zero, suc, ◌==◌, Bool, true, false, refl, ap, subst, arith, List, [], ◌∷◌, Option, Some, None, if◌then◌else◌}
use Rattle.ir_trees.specs.declared.ir.heads.Head.{Head}
use Rattle.ir_trees.specs.declared.ir.heads.Head.TheVariants as H
use Rattle.ir_trees.specs.declared.ir.heads.Builtin.TheVariants as B
use Rattle.ir_trees.specs.declared.ir.heads.PartHead.TheVariants as P
use Rattle.ir_trees.specs.declared.ir.heads.ClauseHead.{ClauseHead}
use Rattle.ir_trees.specs.declared.ir.heads.ClauseHead.TheVariants as Cl
use Rattle.ir_trees.specs.declared.ir.heads.ConstHead.TheVariants as Co
use Rattle.ir_trees.specs.declared.ir.heads.Variable.{Variable}
use Rattle.ir_trees.specs.declared.ir.heads.VariableSort.{VariableSort}
use Rattle.ir_trees.specs.declared.ir.heads.VariableSort.TheVariants as V
use Rattle.ir_trees.specs.declared.ir.kinds.FloatTy.TheVariants as F
use Rattle.ir_trees.specs.declared.ir.kinds.AliasKind.TheVariants as A
use Rattle.ir_trees.specs.declared.ir.kinds.GoalSource.TheVariants.{Misc}
use Rattle.ir_trees.specs.declared.ir.kinds.PredicatePolarity.TheVariants.{Positive}
use Rattle.ir_trees.specs.declared.ir.kinds.Placeholder.{Placeholder}
use Rattle.ir_trees.specs.declared.ir.kinds.RegionKind.TheVariants as R
use Rattle.ir_trees.specs.declared.ir.kinds.UintTy.TheVariants as U
use Rattle.ir_trees.specs.declared.ir.kinds.VarKind.TheVariants as K
use Rattle.ir_trees.specs.Syntax.Binders.{escapes}
use Rattle.ir_trees.specs.Syntax.Trees as Trees
use Rattle.ir_trees.specs.Syntax.Trees.{Forest, none, tree, Tree}
use Rattle.ir_trees.specs.Instantiation.Folding.{leaf}
use Rattle.ir_trees.specs.Unification.Substitutions.{alone, fits_sort}
use Rattle.candidate_eval.specs.declared.eval.certainty.Certainty.{Certainty}
use Rattle.candidate_eval.specs.declared.eval.certainty.Certainty.TheVariants as C
use Rattle.candidate_eval.specs.declared.eval.mode.TypingMode.TheVariants.{PostAnalysis}
use Rattle.candidate_eval.specs.declared.eval.variable.CanonicalVar.{CanonicalVar}
use Rattle.candidate_eval.specs.declared.eval.variable.VariableKind.TheVariants.{Term, Region}
use Rattle.candidate_eval.specs.Outcomes.Certainties.{AMBIGUOUS}
use Rattle.candidate_eval.specs.Derivations.ImplRules.{TraitGoal}
use Rattle.candidate_eval.specs.Judges.Instances.{is_of_universe}
use Rattle.candidate_eval.specs.Outcomes.Responses.{Response}
use Rattle.candidate_eval.specs.Judges.Soundness.{universes}
use Rattle.candidate_eval.specs.Judges.States.{State, VariableInfo, Pending, with_pending, next}
use Rattle.rounds_judge.specs.Aliases.Congruence.{same}
use Rattle.rounds_judge.specs.Aliases.Listed.{Listing}
use Rattle.rounds_judge.specs.Table.Keys.{Key, key_at, newest_of, start_of}
use Rattle.rounds_judge.specs.Table.Verdicts.{Verdict, Yes, Maybe, Refused, Answer}
use Rattle.rounds_judge.specs.Table.GoalTable.{Entry, GoalTable, unanswered, well_entered}
use Rattle.rounds_judge.specs.Table.TableSettling.{greatest_said, lift_to, lifted, with_universes, settled_with, responded_with}
use Rattle.rounds_judge.specs.Table.TableGranted.{IsGrantedWith}
use Rattle.rounds_judge.specs.Table.Rounds.{PureFolder, Changes, nothing, stays, computed, IsRound, IsSettled, IsStep, IsStill, most_steps, no_step, one_more, used_up, enough, still, round, IsRun}
use Rattle.rounds_judge.proofs.States.Marks.{whole}
use Rattle.rounds_judge.proofs.Table.RoundLaws.{round_is_step}

-- an alias that isn't listed is rigid
abbrev rigid : List (Tree × Tree) → Listing
rigid ps = record { pairs = ps; is_open = false }

abbrev none_listed : Listing
none_listed = rigid []

-- Trees and states

abbrev open_in : ℕ → CanonicalVar
open_in u = record { kind = Term V.General; universe = u }

abbrev root : Option Tree → VariableInfo
root v = record { kind = Term V.General; universe = 0; value = v; is_root = true }

abbrev other : Option Tree → VariableInfo
other v = record { kind = Term V.General; universe = 0; value = v; is_root = false }

abbrev start : List VariableInfo → List Pending → State
start is ps = record { newest_universe = 0; variables = is; regions = []; pending = ps; mode = PostAnalysis }

abbrev var : ℕ → Tree
var n = leaf (H.Infer (record { sort = V.General; number = n }))

abbrev u8 : Tree
u8 = leaf (H.Builtin (B.Uint U.U8))

abbrev u16 : Tree
u16 = leaf (H.Builtin (B.Uint U.U16))

abbrev placed : ℕ → Tree
placed u = leaf (H.Placeholder (record { universe = u; index = 0 }))

abbrev over : Head → List Tree → Tree
over h ts = record { head = h; children = go ts }
  where
    go : List Tree → Forest
    go [] = none
    go (t ∷ ts) = tree t.head t.children (go ts)

abbrev row : List Tree → Forest
row ts = (over H.Error ts).children

abbrev pair : Tree → Tree → Tree
pair t u = over (H.Builtin B.Tuple) (t ∷ u ∷ [])

abbrev clause : ClauseHead → List Tree → List Tree → Tree
clause h vars ts = over (H.Part (P.Clause h)) (over (H.Part P.Vars) vars ∷ ts)

abbrev wanted : Tree → Pending
wanted c = record { source = Misc; goal = record { env = none; clause = c } }

abbrev holds : ℕ → List Tree → Pending
holds n ts = wanted (clause (Cl.Trait (record { 0 = n }) Positive) [] ts)

abbrev projects : Tree → Tree → Pending
projects t u = wanted (clause (Cl.Projection (record { 0 = 0 })) [] (t ∷ u ∷ []))

abbrev listing : Listing
listing = rigid ((over (H.Alias A.Projection (record { 0 = 0 })) (u8 ∷ []), u16) ∷ [])

-- Keys, responses, entries

abbrev Way : Type 0
Way = Unit {0}

abbrev key : ℕ → List Tree → List CanonicalVar → Key
key n ts vs = record { goal = record { env = none; reference = record { trait = n; arguments = row ts }; polarity = Positive }; variables = vs }

abbrev says : List CanonicalVar → List Tree → Certainty → Response
says vs ts c = record { vars = vs; values = row ts; regions = []; certainty = c }

abbrev entry : Key → Verdict Way → Entry Way
entry k v = record { key = k; verdict = Some v }

abbrev yes : List CanonicalVar → List Tree → Verdict Way
yes vs ts = Yes (says vs ts C.Yes) None

abbrev maybe : List CanonicalVar → List Tree → Verdict Way
maybe vs ts = Maybe (says vs ts AMBIGUOUS) None

-- The key of a goal at a state: values are put in, and variables and what they are go by first occurrence.

key_of_goal : key_at (record (start (root (Some u8) ∷ root None ∷ record (other None) { universe = 2 } ∷ []) []) { newest_universe = 2 })
    (record { env = none; reference = record { trait = 0; arguments = row (var 2 ∷ var 0 ∷ var 1 ∷ var 2 ∷ []) }; polarity = Positive })
    ≡ key 0 (var 0 ∷ u8 ∷ var 1 ∷ var 0 ∷ []) (open_in 2 ∷ open_in 0 ∷ [])
key_of_goal = refl

-- its newest universe is the greatest of its variables and placeholders
start_of_key : start_of PostAnalysis (key 0 (var 0 ∷ placed 3 ∷ []) (open_in 2 ∷ []))
    ≡ record (start (record (root None) { universe = 2 } ∷ []) []) { newest_universe = 3 }
start_of_key = refl

-- Rounds over small declarations: trait 0 holds of all types; trait n holds where trait n - 1 does; traits 3 and 4 ask each other; trait 5
-- holds of the type for which an alias is listed.

abbrev nested : ℕ → List Tree → List Pending
nested n ts =
    if n == 0 then [] else (if n == 1 then holds 0 ts ∷ [] else (if n == 2 then holds 1 ts ∷ [] else (if n == 3 then holds 4 ts ∷ [] else holds 3 ts ∷ [])))

abbrev first_of : Forest → List Tree
first_of none = []
first_of (tree h below rest) = record { head = h; children = below } ∷ []

abbrev asks : TraitGoal → List Pending
asks g =
    let ts = first_of g.reference.arguments in
    if g.reference.trait == 5 then alias_of ts else nested g.reference.trait ts
  where
    alias_of : List Tree → List Pending
    alias_of [] = []
    alias_of (t ∷ ts) = projects u8 t ∷ []

abbrev with_no_way : Option Response → Answer Way
with_no_way o = next o (λ r. Some (r, None))

abbrev small : PureFolder Way
small T k a = with_no_way (responded_with T listing (with_pending (start_of PostAnalysis k) (asks k.goal)) C.Yes) ≡ a

abbrev of_u8 : ℕ → Key
of_u8 n = key n (u8 ∷ []) []

abbrev sure : ℕ → Entry Way
sure n = entry (of_u8 n) (yes [] [])

abbrev unsure : ℕ → Entry Way
unsure n = entry (of_u8 n) (maybe [] [])

abbrev left : Certainty → Answer Way
left c = Some (says [] [] c, None)

-- Goals that are final in the first, the second and the third round.

abbrev three : GoalTable Way
three = unanswered (of_u8 0) ∷ unanswered (of_u8 1) ∷ unanswered (of_u8 2) ∷ []

first_round : IsRound small three (sure 0 ∷ unsure 1 ∷ unsure 2 ∷ [])
first_round = record {
  written = sure 0 ∷ unsure 1 ∷ unsure 2 ∷ [];
  writes = computed (unanswered (of_u8 0)) (left C.Yes) refl refl (computed (unanswered (of_u8 1)) (left AMBIGUOUS) refl refl (computed (unanswered (of_u8 2)) (left AMBIGUOUS) refl refl nothing));
  asked = [];
  are_new = tt;
  is = refl;
}

second_round : IsRound small (sure 0 ∷ unsure 1 ∷ unsure 2 ∷ []) (sure 0 ∷ sure 1 ∷ unsure 2 ∷ [])
second_round = record {
  written = sure 0 ∷ sure 1 ∷ unsure 2 ∷ [];
  writes = stays (sure 0) refl (computed (unsure 1) (left C.Yes) refl refl (computed (unsure 2) (left AMBIGUOUS) refl refl nothing));
  asked = [];
  are_new = tt;
  is = refl;
}

third_round : IsRound small (sure 0 ∷ sure 1 ∷ unsure 2 ∷ []) (sure 0 ∷ sure 1 ∷ sure 2 ∷ [])
third_round = record {
  written = sure 0 ∷ sure 1 ∷ sure 2 ∷ [];
  writes = stays (sure 0) refl (stays (sure 1) refl (computed (unsure 2) (left C.Yes) refl refl nothing));
  asked = [];
  are_new = tt;
  is = refl;
}

-- what is written at a place, as a number; tables that differ there differ

abbrev number_of : Option (Verdict Way) → ℕ
number_of None = 0
number_of (Some (Maybe r w)) = 1
number_of (Some (Yes r w)) = 2
number_of (Some Refused) = 3

abbrev number_at : ℕ → GoalTable Way → ℕ
number_at n [] = 0
number_at zero (e ∷ es) = number_of e.verdict
number_at (suc n) (e ∷ es) = number_at n es

changes_at : (n : ℕ) (T U : GoalTable Way) → (number_at n U ≡ number_at n T → ⊥) → Changes T U
changes_at n T U f e = f (ap (number_at n) e)

was_none : suc (suc zero) ≡ zero → ⊥
was_none q = cc

was_unsure : suc (suc zero) ≡ suc zero → ⊥
was_unsure q = cc

still_unsure : suc zero ≡ zero → ⊥
still_unsure q = cc

-- a run ends when its goal is final, be there rounds left or not
three_rounds : IsRun small (of_u8 2) 5 three (sure 0 ∷ sure 1 ∷ sure 2 ∷ [])
three_rounds = round refl first_round (changes_at 0 _ _ was_none) (round refl second_round (changes_at 1 _ _ was_unsure) (round refl third_round (changes_at 2 _ _ was_unsure) (enough 2 refl)))

one_round : IsRun small (of_u8 0) 5 three (sure 0 ∷ unsure 1 ∷ unsure 2 ∷ [])
one_round = round refl first_round (changes_at 0 _ _ was_none) (enough 4 refl)

-- A goal first asked in the last round of a run has no verdict then; the next run takes it up.

asking : IsRound small (unanswered (of_u8 1) ∷ []) (unsure 1 ∷ unanswered (of_u8 0) ∷ [])
asking = record { written = unsure 1 ∷ []; writes = computed (unanswered (of_u8 1)) (left AMBIGUOUS) refl refl nothing; asked = of_u8 0 ∷ []; are_new = (refl, tt); is = refl }

first_run : IsRun small (of_u8 1) 1 [] (unsure 1 ∷ unanswered (of_u8 0) ∷ [])
first_run = round refl asking (λ e. cc) (used_up refl)

taking_up : IsRound small (unsure 1 ∷ unanswered (of_u8 0) ∷ []) (unsure 1 ∷ sure 0 ∷ [])
taking_up = record {
  written = unsure 1 ∷ sure 0 ∷ [];
  writes = computed (unsure 1) (left AMBIGUOUS) refl refl (computed (unanswered (of_u8 0)) (left C.Yes) refl refl nothing);
  asked = [];
  are_new = tt;
  is = refl;
}

reading : IsRound small (unsure 1 ∷ sure 0 ∷ []) (sure 1 ∷ sure 0 ∷ [])
reading = record {
  written = sure 1 ∷ sure 0 ∷ [];
  writes = computed (unsure 1) (left C.Yes) refl refl (stays (sure 0) refl nothing);
  asked = [];
  are_new = tt;
  is = refl;
}

next_run : IsRun small (of_u8 1) 2 (unsure 1 ∷ unanswered (of_u8 0) ∷ []) (sure 1 ∷ sure 0 ∷ [])
next_run = round refl taking_up (changes_at 1 _ _ was_none) (round refl reading (changes_at 0 _ _ was_unsure) (enough 0 refl))

-- Two goals that ask each other stay open: no round changes the table.

each_other : IsRound small (unanswered (of_u8 3) ∷ unanswered (of_u8 4) ∷ []) (unsure 3 ∷ unsure 4 ∷ [])
each_other = record {
  written = unsure 3 ∷ unsure 4 ∷ [];
  writes = computed (unanswered (of_u8 3)) (left AMBIGUOUS) refl refl (computed (unanswered (of_u8 4)) (left AMBIGUOUS) refl refl nothing);
  asked = [];
  are_new = tt;
  is = refl;
}

unchanged : IsStill small (unsure 3 ∷ unsure 4 ∷ [])
unchanged = record {
  written = unsure 3 ∷ unsure 4 ∷ [];
  writes = computed (unsure 3) (left AMBIGUOUS) refl refl (computed (unsure 4) (left AMBIGUOUS) refl refl nothing);
  asked = [];
  are_new = tt;
  is = refl;
}

-- however many there may be, the second is the last
stuck : IsRun small (of_u8 3) 65535 (unanswered (of_u8 3) ∷ unanswered (of_u8 4) ∷ []) (unsure 3 ∷ unsure 4 ∷ [])
stuck = round refl each_other (changes_at 0 _ _ still_unsure) (still refl unchanged)

-- Steps compute the goals alone that may come to something else: here those that read what became final. The others stay as they are.

second_step : IsStep small (sure 0 ∷ unsure 1 ∷ unsure 2 ∷ []) (sure 0 ∷ sure 1 ∷ unsure 2 ∷ [])
second_step = record {
  written = sure 0 ∷ sure 1 ∷ unsure 2 ∷ [];
  writes = stays (sure 0) tt (computed (unsure 1) (left C.Yes) refl refl (stays (unsure 2) tt nothing));
  asked = [];
  are_new = tt;
  is = refl;
}

third_step : IsStep small (sure 0 ∷ sure 1 ∷ unsure 2 ∷ []) (sure 0 ∷ sure 1 ∷ sure 2 ∷ [])
third_step = record {
  written = sure 0 ∷ sure 1 ∷ sure 2 ∷ [];
  writes = stays (sure 0) tt (stays (sure 1) tt (computed (unsure 2) (left C.Yes) refl refl nothing));
  asked = [];
  are_new = tt;
  is = refl;
}

-- the goal is final
settled : IsSettled small (of_u8 2) most_steps three (sure 0 ∷ sure 1 ∷ sure 2 ∷ [])
settled = record {
  done = record { count = 3; within = omega arith; steps = one_more (one_more (one_more no_step refl (round_is_step first_round)) refl second_step) refl third_step };
  ends = λ l. inl refl;
}

-- a round of all goals would leave the table as it is
settled_open : IsSettled small (of_u8 3) most_steps (unanswered (of_u8 3) ∷ unanswered (of_u8 4) ∷ []) (unsure 3 ∷ unsure 4 ∷ [])
settled_open = record {
  done = record { count = 1; within = omega arith; steps = one_more no_step refl (round_is_step each_other) };
  ends = λ l. inr unchanged;
}

-- A refusal is final, and so is a value.

abbrev five : List Tree → List CanonicalVar → Key
five ts vs = key 5 ts vs

refuses_and_gives : IsRound small (unanswered (of_u8 5) ∷ unanswered (five (var 0 ∷ []) (open_in 0 ∷ [])) ∷ [])
    (entry (of_u8 5) Refused ∷ entry (five (var 0 ∷ []) (open_in 0 ∷ [])) (yes [] (u16 ∷ [])) ∷ [])
refuses_and_gives = record {
  written = entry (of_u8 5) Refused ∷ entry (five (var 0 ∷ []) (open_in 0 ∷ [])) (yes [] (u16 ∷ [])) ∷ [];
  writes = computed (unanswered (of_u8 5)) None refl refl (computed (unanswered (five (var 0 ∷ []) (open_in 0 ∷ []))) (Some (says [] (u16 ∷ []) C.Yes, None)) refl refl nothing);
  asked = [];
  are_new = tt;
  is = refl;
}

-- Pending goals with a table.

abbrev table : GoalTable Way
table =
    entry (key 0 (u16 ∷ []) []) (yes [] [])
    ∷ entry (of_u8 5) Refused
    ∷ entry (five (var 0 ∷ []) (open_in 0 ∷ [])) (yes [] (u16 ∷ []))
    ∷ unsure 1
    ∷ entry (key 6 (var 0 ∷ []) (open_in 0 ∷ [])) (yes (open_in 0 ∷ []) (pair (var 0) u8 ∷ []))
    ∷ entry (key 7 (var 0 ∷ var 1 ∷ []) (open_in 0 ∷ open_in 0 ∷ [])) (yes (open_in 0 ∷ []) (var 0 ∷ var 0 ∷ []))
    ∷ entry (key 8 (var 0 ∷ []) (open_in 1 ∷ [])) (yes (open_in 0 ∷ []) (var 0 ∷ []))
    ∷ entry (key 9 (placed 1 ∷ []) []) (yes [] [])
    ∷ []

-- a value that a Yes gives lets a goal before it be done in the next pass
value_given : settled_with table listing (start (root (Some u8) ∷ root None ∷ []) (holds 0 (var 1 ∷ []) ∷ holds 5 (var 1 ∷ []) ∷ []))
    ≡ Some (C.Yes, start (root (Some u8) ∷ root (Some u16) ∷ []) [])
value_given = refl

-- or be refused
value_refuses : settled_with table listing (start (root None ∷ []) (holds 5 (u8 ∷ []) ∷ holds 5 (var 0 ∷ []) ∷ [])) ≡ None
value_refuses = refl

-- what isn't there, and what may be, stays
stays_open : settled_with table listing (start [] (holds 0 (u8 ∷ []) ∷ holds 1 (u8 ∷ []) ∷ [])) ≡ Some (AMBIGUOUS, start [] (holds 0 (u8 ∷ []) ∷ holds 1 (u8 ∷ []) ∷ []))
stays_open = refl

-- a variable that stands in a value is made anew
value_with_variable : settled_with table listing (start (root None ∷ []) (holds 6 (var 0 ∷ []) ∷ []))
    ≡ Some (C.Yes, start (root (Some (pair (var 1) u8)) ∷ other None ∷ []) [])
value_with_variable = refl

-- two variables become one, and none is made
become_one : settled_with table listing (start (root None ∷ root None ∷ []) (holds 7 (var 1 ∷ var 0 ∷ []) ∷ []))
    ≡ Some (C.Yes, start (root (Some (var 1)) ∷ root None ∷ []) [])
become_one = refl

-- one whose universe has fallen gets a variable of the lower universe
lower_universe : settled_with table listing (record (start (record (root None) { universe = 1 } ∷ []) (holds 8 (var 0 ∷ []) ∷ [])) { newest_universe = 1 })
    ≡ Some (C.Yes, record (start (record (root (Some (var 1))) { universe = 1 } ∷ other None ∷ []) []) { newest_universe = 1 })
lower_universe = refl

-- a goal under a binder goes by its instance
under_binder : settled_with table listing (start [] (wanted (clause (Cl.Trait (record { 0 = 9 }) Positive) (leaf (H.Part (P.Var K.Ty)) ∷ []) (leaf (H.Bound (record { depth = 0; index = 0 })) ∷ [])) ∷ []))
    ≡ Some (C.Yes, record (start [] []) { newest_universe = 1 })
under_binder = refl

-- Constraints of a Yes are recorded, of the goal's own regions; a variable that stands in constraints alone is made anew.

abbrev region : ℕ → Tree
region n = leaf (H.Region (R.Var n))

abbrev region_info : VariableInfo
region_info = record { kind = Region; universe = 0; value = None; is_root = false }

abbrev outlives : ℕ → ℕ → Tree
outlives m n = clause Cl.RegionOutlives [] (region m ∷ region n ∷ [])

abbrev open_region : CanonicalVar
open_region = record { kind = Region; universe = 0 }

abbrev constrained : GoalTable Way
constrained =
    entry (key 0 (region 0 ∷ []) (open_region ∷ []))
    (Yes (record (says (open_region ∷ open_region ∷ []) (region 0 ∷ []) C.Yes) { regions = outlives 0 1 ∷ [] }) None)
    ∷ []

constraints_given : settled_with constrained none_listed (start (root None ∷ region_info ∷ []) (holds 0 (region 1 ∷ []) ∷ []))
    ≡ Some (C.Yes, record (start (root None ∷ region_info ∷ region_info ∷ []) []) { regions = outlives 1 2 ∷ [] })
constraints_given = refl

-- A Yes is read whose value has a region of a universe that its key doesn't have. The state that asks gets new universes, up to the greatest
-- that is named, and the region is of the first of them.

abbrev region_of : ℕ → Tree
region_of u = leaf (H.Region (R.Placeholder (record { universe = u; index = 0 })))

abbrev renewed : GoalTable Way
renewed =
    entry (key 0 (var 0 ∷ placed 1 ∷ []) (open_in 0 ∷ []))
    (Yes (record (says [] (pair (region_of 1) (region_of 2) ∷ []) C.Yes) { regions = clause Cl.RegionOutlives [] (region_of 3 ∷ region_of 1 ∷ []) ∷ [] }) None)
    ∷ []

renewed_read : well_entered renewed ≡ renewed
renewed_read = refl

universes_renewed : settled_with renewed none_listed (record (start (root None ∷ []) (holds 0 (var 0 ∷ placed 1 ∷ []) ∷ [])) { newest_universe = 5 })
    ≡ Some (C.Yes, record (start (root (Some (pair (region_of 1) (region_of 6))) ∷ []) []) { newest_universe = 7; regions = clause Cl.RegionOutlives [] (region_of 7 ∷ region_of 1 ∷ []) ∷ [] })
universes_renewed = refl

-- each of them is one that the state didn't have
lifted_is_new : (S : State) (k : Key) (r : Response) (p : Placeholder) → newest_of k < p.universe → p.universe ≤ greatest_said r → S.newest_universe < (lifted (lift_to (with_universes S k r) k r) p).universe
lifted_is_new S k r p above named = omega (arith, above, named)

-- An instance of a Yes is granted: of one that leaves its variable open, with a type in its place. Another variable than that is given some
-- tree of its sort.

abbrev stand_in : VariableSort → Tree
stand_in V.Floating = leaf (H.Builtin (B.Float F.F32))
stand_in V.Constant = leaf (H.Const Co.Error)
stand_in _ = u8

abbrev instance_of : Variable → Tree
instance_of v = stand_in v.sort

fits_in : (s : VariableSort) → fits_sort s (stand_in s).head ≡ true
fits_in V.General = refl
fits_in V.Integer = refl
fits_in V.Floating = refl
fits_in V.Constant = refl

closed_in : (s : VariableSort) → escapes 0 (alone (stand_in s)) ≡ false
closed_in V.Floating = refl
closed_in V.Constant = refl
closed_in _ = refl

marked_in : (mark : Head → Bool) → mark (H.Builtin (B.Uint U.U8)) ≡ false → mark (H.Builtin (B.Float F.F32)) ≡ false → mark (H.Const Co.Error) ≡ false
    → (s : VariableSort) → Trees.holds mark (alone (stand_in s)) ≡ false
marked_in mark a b c V.Floating = whole mark (H.Builtin (B.Float F.F32)) none none b refl refl
marked_in mark a b c V.Constant = whole mark (H.Const Co.Error) none none c refl refl
marked_in mark a b c _ = whole mark (H.Builtin (B.Uint U.U8)) none none a refl refl

of_sort : (P : Tree → Type 0) (v : Variable) (t : Tree) → Some (instance_of v) ≡ Some t → P (instance_of v) → P t
of_sort P v t e x = subst P (let is : instance_of v ≡ t = cc in is) x

abbrev open_yes : GoalTable Way
open_yes = entry (key 0 (var 0 ∷ []) (open_in 0 ∷ [])) (yes (open_in 0 ∷ []) (var 0 ∷ [])) ∷ []

instance_granted : (S : State) → IsGrantedWith open_yes none_listed S (holds 0 (u8 ∷ [])).goal
instance_granted S = record {
  universe = 0;
  is_fresh = tt;
  facts = record {
    entry = entry (key 0 (var 0 ∷ []) (open_in 0 ∷ [])) (yes (open_in 0 ∷ []) (var 0 ∷ []));
    entered = (0, omega arith, refl);
    response = says (open_in 0 ∷ []) (var 0 ∷ []) C.Yes;
    way = None;
    is_yes = refl;
    values = instance_of;
    allowed = record {
      fits = λ v t e. of_sort (λ t. fits_sort v.sort t.head ≡ true) v t e (fits_in v.sort);
      is_closed = λ v t e. of_sort (λ t. escapes 0 (alone t) ≡ false) v t e (closed_in v.sort);
      in_universe = λ v t n e h. of_sort (λ t. Trees.holds (is_of_universe (universes S) n) (alone t) ≡ false) v t e (marked_in (is_of_universe (universes S) n) refl refl refl v.sort);
      stays = λ v e. absurd (let clash : Some (instance_of v) ≡ None = e in cc);
    };
    same_trait = refl;
    same_polarity = refl;
    env = same none;
    arguments = same (alone u8);
  };
}
