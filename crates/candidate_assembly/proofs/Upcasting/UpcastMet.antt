-- What calls say of one bound of the target, exit by exit.
use Rattle.std.proofs.Common.{◌≡◌, ◌≤◌, ◌<◌, ℕ, Bool, true, false, Option, Some, None, Result, Ok, Err, List, [], ◌∷◌, All, arith, get_or, length, map, refl, sym, ap, subst, ◌∙◌, slice_get}
use Rattle.std.specs.Prelude.{if◌then◌else◌, IfSome, option_map}
use Rattle.std.specs.List.{filter}
use Rattle.std.proofs.lemmas.List.Elements.{All-cons, All-filter, All-get_or, All-head, All-nil, All-tail}
use Rattle.std.proofs.lemmas.Option.{slice_get-get_or, slice_get_within}
use Rattle.ir_trees.specs.declared.ir.heads.Head.{Head}
use Rattle.ir_trees.specs.declared.ir.heads.Head.TheVariants as H
use Rattle.ir_trees.specs.declared.ir.heads.PartHead.TheVariants as P
use Rattle.ir_trees.specs.declared.ir.heads.PredHead.TheVariants as PH
use Rattle.ir_trees.specs.declared.ir.kinds.AssocId.{AssocId}
use Rattle.ir_trees.specs.declared.ir.kinds.Binder.{Binder}
use Rattle.ir_trees.specs.declared.ir.kinds.ExistentialPredicate.{ExistentialPredicate}
use Rattle.ir_trees.specs.declared.ir.kinds.TraitId.{TraitId}
use Rattle.ir_trees.specs.declared.ir.kinds.Clause.{Clause}
use Rattle.ir_trees.specs.declared.ir.kinds.Pred.{Pred}
use Rattle.ir_trees.specs.declared.ir.kinds.TraitRef.{TraitRef}
use Rattle.ir_trees.specs.Declarations.Context.{Context}
use Rattle.ir_trees.specs.Hierarchy.Elaboration.{number_listed}
use Rattle.ir_trees.specs.Syntax.Trees.{Tree}
use Rattle.ir_trees.specs.Syntax.Words.{IsClause, IsPred, clause_tree, pred_kind_tree, pred_tree}
use Rattle.candidate_eval.specs.declared.eval.refusal.NoSolutionOrStop.{NoSolutionOrStop}
use Rattle.candidate_eval.specs.declared.eval.refusal.NoSolutionOrStop.TheVariants as N
use Rattle.candidate_eval.specs.Judges.Alike.{JudgesAlike}
use Rattle.candidate_eval.specs.Outcomes.Certainties.{AMBIGUOUS}
use Rattle.candidate_eval.specs.Derivations.Judging.{Refused, asked, source_of}
use Rattle.candidate_eval.specs.Judges.Lawful.{Lawful}
use Rattle.candidate_eval.specs.Derivations.Mentions.{IsBelow}
use Rattle.candidate_eval.specs.Judges.States.{Env, Judge, State}
use Rattle.candidate_eval.specs.Dynamic.ObjectRules.{IsRuleTree}
use Rattle.candidate_assembly.specs.declared.trait_goals.bounds_met.Meeting.{Meeting}
use Rattle.candidate_assembly.specs.declared.trait_goals.bounds_met.Meeting.TheVariants as M
use Rattle.candidate_assembly.specs.Rules.DynBounds.{same_number, trait_of_bound}
use Rattle.candidate_assembly.specs.Rules.Unsizing.{Met, autos, bound_met, met_by, principal_met, projection_met, unmet}
use Rattle.candidate_assembly.specs.Calls.Upcasting.{EndsThere, GoesOn, IsReferenceOf, IsRuleClause, IsRulePred, Meets, Row, is_principal_of, meets_projection, one_met, principal_row, reference_row, rest_of, row_under, rows_met}
use Rattle.candidate_assembly.proofs.Upcasting.UpcastMeetings.{met-goes, no_principal, none-ends, only-ends, only-goes, other-principal, principal-ends, principal-goes, several-end, unmet-ends}

module _ {J : Judge} {e : Env} {S T : State} {met : ℕ → Met} where
  pub surely-met : GoesOn J e S T met → Meets J e S T met (Ok M.Surely)
  surely-met g = record { surely = λ h. g; ambiguously = λ h. absurd cc; refused = tt }

  pub ambiguously-met : EndsThere J e S (λ n. (met n).steps) (λ end. asked J T (source_of end) AMBIGUOUS) → Meets J e S T met (Ok M.Ambiguously)
  ambiguously-met g = record { surely = λ h. absurd cc; ambiguously = λ h. g; refused = tt }

  pub not-met : (r : Result Meeting NoSolutionOrStop) (x : NoSolutionOrStop) → r ≡ Err x → (x ≡ N.NoSolution → EndsThere J e S (λ n. (met n).steps) (λ end. Refused)) → Meets J e S T met r
  not-met r x is h = subst (λ (y : Result Meeting NoSolutionOrStop). Meets J e S T met y) (sym is) (record { surely = tt; ambiguously = tt; refused = h })

-- Those of a list's trees.

pub filter-map : (f : Tree → Bool) (h : Pred → Tree) (xs : List Pred) → filter f (map h xs) ≡ map h (filter (λ x. f (h x)) xs)
filter-map f h [] = refl
filter-map f h (x ∷ xs) = at (f (h x)) (filter-map f h xs)
  where
    at : (b : Bool) → filter f (map h xs) ≡ map h (filter (λ x. f (h x)) xs)
        → (if b then h x ∷ filter f (map h xs) else filter f (map h xs)) ≡ map h (if b then x ∷ filter (λ x. f (h x)) xs else filter (λ x. f (h x)) xs)
    at true more = ap (λ (ts : List Tree). h x ∷ ts) more
    at false more = more

pub rule-trees : (ts : List Tree) (n : ℕ) (xs : List Pred) → All (IsRulePred ts n) xs → All (IsRuleTree n) (map (pred_tree ts) xs)
rule-trees ts n [] a = All-nil (IsRuleTree n)
rule-trees ts n (x ∷ xs) a = All-cons (IsRuleTree n) (pred_tree ts x) (map (pred_tree ts) xs) (All-head (IsRulePred ts n) x xs a).1 (rule-trees ts n xs (All-tail (IsRulePred ts n) x xs a))

pub none-of : (h : Pred → Tree) (xs : List Pred) (us : List Tree) → us ≡ map h xs → length xs < 1 → us ≡ []
none-of h [] us e l = e
none-of h (x ∷ xs) us e l = absurd (omega (arith, l))

pub one-of : (h : Pred → Tree) (xs : List Pred) (us : List Tree) (d : Pred) → us ≡ map h xs → 1 ≤ length xs → length xs < 2 → us ≡ h (get_or xs 0 d) ∷ []
one-of h [] us d e l m = absurd (omega (arith, l))
one-of h (x ∷ []) us d e l m = e
one-of h (x ∷ y ∷ xs) us d e l m = absurd (omega (arith, m))

pub record AreSeveral (us : List Tree) : Type 0 where
  pub first : Tree
  pub second : Tree
  pub others : List Tree
  pub are : us ≡ first ∷ second ∷ others

pub several-of : (h : Pred → Tree) (xs : List Pred) (us : List Tree) → us ≡ map h xs → 2 ≤ length xs → AreSeveral us
several-of h [] us e l = absurd (omega (arith, l))
several-of h (x ∷ []) us e l = absurd (omega (arith, l))
several-of h (x ∷ y ∷ xs) us e l = record { first = h x; second = h y; others = map h xs; are = e }

-- A state alike has no fewer variables.

longer : {A : Type 0} (xs ys : List A) → ((n : ℕ) (i : A) → slice_get xs n ≡ Some i → slice_get ys n ≡ Some i) → length xs ≤ length ys
longer [] ys k = omega arith
longer (x ∷ xs) ys k =
    let h = slice_get_within ys (length xs) _ (k (length xs) _ (slice_get-get_or (x ∷ xs) (length xs) x (omega arith))) in
    omega (arith, h)

pub alike-longer : (J : Judge) → JudgesAlike J → (S T : State) → J.alike S T → length S.variables ≤ length T.variables
alike-longer J law S T a = longer S.variables T.variables (law.alike_looks S T a).kept

-- The bounds of the source that match, by their numbers.
module _ (J : Judge) (laws : Lawful J) (e : Env) (ts : List Tree) (S T : State) (a : J.alike S T) (env : IsBelow (length S.variables) e) (item : ℕ) (target : Pred) (t : IsRulePred ts (length S.variables) target)
    (xs found : List Pred) (all : All (IsRulePred ts (length S.variables)) xs) (are : found ≡ filter (λ p. meets_projection J e S item (pred_tree ts target) (pred_tree ts p)) xs) where
  abbrev trees : List Tree
  trees = map (pred_tree ts) xs

  abbrev met-by : ℕ → Met
  met-by n = projection_met n item trees (pred_tree ts target)

  found-trees : filter (meets_projection J e S item (pred_tree ts target)) trees ≡ map (pred_tree ts) found
  found-trees = filter-map (meets_projection J e S item (pred_tree ts target)) (pred_tree ts) xs ∙ ap (map (pred_tree ts)) (sym are)

  rules : All (IsRuleTree (length S.variables)) trees
  rules = rule-trees ts (length S.variables) xs all

  pub none-met : length found < 1 → Meets J e S T met-by (Err N.NoSolution)
  none-met l = not-met (Err N.NoSolution) N.NoSolution refl (λ h. none-ends J laws e S T a env item (pred_tree ts target) t.1 trees rules (none-of (pred_tree ts) found _ found-trees l))

  pub several-met : 2 ≤ length found → Meets J e S T met-by (Ok M.Ambiguously)
  several-met l = let s = several-of (pred_tree ts) found _ found-trees l in ambiguously-met (several-end J laws e S T a env item (pred_tree ts target) t.1 trees rules s.first s.second s.others s.are)

  pub only-met : (d : Pred) (U : State) → 1 ≤ length found → length found < 2 → rows_met J e T (row_under (pred_tree ts (get_or found 0 d))) (row_under (pred_tree ts target)) ≡ Some U → Meets J e S U met-by (Ok M.Surely)
  only-met d U l m met =
      surely-met (only-goes J laws e S T a env item (pred_tree ts target) t.1 trees rules (pred_tree ts (get_or found 0 d)) (one-of (pred_tree ts) found _ d found-trees l m) (alike-longer J laws.alike_judged_alike S T a) U met)

  pub only-refused : (d : Pred) (U : State) (r : Result Meeting NoSolutionOrStop) (x : NoSolutionOrStop) → 1 ≤ length found → length found < 2 → r ≡ Err x
      → (x ≡ N.NoSolution → rows_met J e T (row_under (pred_tree ts (get_or found 0 d))) (row_under (pred_tree ts target)) ≡ None) → Meets J e S U met-by r
  only-refused d U r x l m is met =
      not-met r x is (λ h. only-ends J laws e S T a env item (pred_tree ts target) t.1 trees rules (pred_tree ts (get_or found 0 d)) (one-of (pred_tree ts) found _ d found-trees l m) (met h))

-- of what was found each is one of the list
pub found-one : (P : Pred → Type 0) (f : Pred → Bool) (xs found : List Pred) (k : ℕ) (d : Pred) → All P xs → found ≡ filter f xs → k < length found → P (get_or found k d)
found-one P f xs found k d a e l = subst (λ (ys : List Pred). k < length ys → P (get_or ys k d)) (sym e) (λ m. All-get_or P (filter f xs) k d m (All-filter f P xs a)) l

-- The principal, as it is read.
module _ (J : Judge) (laws : Lawful J) (e : Env) (S : State) (n : ℕ) (principal : Option Tree) (target : Tree) (s : IfSome principal (IsRuleTree (length S.variables))) (t : IsRuleTree (length S.variables) target)
    (of : trait_of_bound target.head ≡ Some n) where
  abbrev principal-by : ℕ → Met
  principal-by k = principal_met k principal target

  pub other-met : is_principal_of n principal ≡ false → Meets J e S S principal-by (Err N.NoSolution)
  other-met h = not-met (Err N.NoSolution) N.NoSolution refl (λ x. other-principal J e S principal target (by principal h))
    where
      by : (o : Option Tree) → is_principal_of n o ≡ false → no_principal o target
      by None h = tt
      by (Some c) h = ap (same_number (trait_of_bound c.head)) of ∙ h

  module _ (ts : List Tree) (b : Binder TraitRef) (r : IsReferenceOf ts b n principal) where
    pub own-met : (T : State) → rows_met J e S (rest_of (reference_row ts b)) (row_under target) ≡ Some T → Meets J e S T principal-by (Ok M.Surely)
    own-met T met = surely-met (by principal s r.is r.row)
      where
        by : (o : Option Tree) → IfSome o (IsRuleTree (length S.variables)) → is_principal_of n o ≡ true → reference_row ts b ≡ principal_row o → GoesOn J e S T (λ k. principal_met k o target)
        by None s is row = absurd cc
        by (Some c) s is row = principal-goes J e laws S c target s.no_parameter t.no_parameter (ap (same_number (trait_of_bound c.head)) of ∙ is) T (ap (λ (x : Row). rows_met J e S (rest_of x) (row_under target)) (sym row) ∙ met)

    pub own-refused : (T : State) (y : Result Meeting NoSolutionOrStop) (x : NoSolutionOrStop) → y ≡ Err x → (x ≡ N.NoSolution → rows_met J e S (rest_of (reference_row ts b)) (row_under target) ≡ None) → Meets J e S T principal-by y
    own-refused T y x is met = not-met y x is (λ h. by principal s r.is r.row (met h))
      where
        by : (o : Option Tree) → IfSome o (IsRuleTree (length S.variables)) → is_principal_of n o ≡ true → reference_row ts b ≡ principal_row o → rows_met J e S (rest_of (reference_row ts b)) (row_under target) ≡ None
            → EndsThere J e S (λ k. (principal_met k o target).steps) (λ end. Refused)
        by None s is row met = absurd cc
        by (Some c) s is row met = principal-ends J e laws S c target s.no_parameter t.no_parameter (ap (same_number (trait_of_bound c.head)) of ∙ is) (ap (λ (x : Row). rows_met J e S (rest_of x) (row_under target)) (sym row) ∙ met)

-- a principal by its number
pub principal-trees : (ts : List Tree) (n : ℕ) (o : Option Clause) → IfSome o (IsRuleClause ts n) → IfSome (option_map (clause_tree ts) o) (IsRuleTree n)
principal-trees ts n None h = tt
principal-trees ts n (Some c) h = h.1

pub principal-is : (ts : List Tree) (n : ℕ) (o : Option Clause) → IfSome o (IsRuleClause ts n) → IfSome o (IsClause ts)
principal-is ts n None h = tt
principal-is ts n (Some c) h = h.0

-- By the head of the bound.

module _ (c : Context) (supers sources : List Tree) (principal : Option Tree) (J : Judge) (e : Env) (S T : State) (target : Tree) (r : Result Meeting NoSolutionOrStop) where
  pub as-principal : (i : TraitId) → target.head ≡ H.Part (P.Pred (PH.Trait i)) → Meets J e S T (λ n. principal_met n principal target) r → Meets J e S T (one_met c supers sources principal target) r
  as-principal i is m = subst (λ (h : Head). Meets J e S T (λ n. bound_met c supers sources principal n target h) r) (sym is) m

  pub as-projection : (i : AssocId) → target.head ≡ H.Part (P.Pred (PH.Projection i)) → Meets J e S T (λ n. projection_met n i.0 sources target) r → Meets J e S T (one_met c supers sources principal target) r
  as-projection i is m = subst (λ (h : Head). Meets J e S T (λ n. bound_met c supers sources principal n target h) r) (sym is) m

pub auto-met : (c : Context) (supers sources : List Tree) (principal : Option Tree) (J : Judge) (e : Env) (S : State) (target : Tree) (i : TraitId) → target.head ≡ H.Part (P.Pred (PH.AutoTrait i)) → number_listed (autos c supers sources) i.0 ≡ true
    → Meets J e S S (one_met c supers sources principal target) (Ok M.Surely)
auto-met c supers sources principal J e S target i is h =
    surely-met (subst (λ (k : Head). GoesOn J e S S (λ n. bound_met c supers sources principal n target k)) (sym is) (subst (λ (b : Bool). GoesOn J e S S (λ n. if b then met_by [] n else unmet n)) (sym h) (met-goes J e S)))

pub auto-not-met : (c : Context) (supers sources : List Tree) (principal : Option Tree) (J : Judge) (e : Env) (S : State) (target : Tree) (i : TraitId) → target.head ≡ H.Part (P.Pred (PH.AutoTrait i)) → number_listed (autos c supers sources) i.0 ≡ false
    → Meets J e S S (one_met c supers sources principal target) (Err N.NoSolution)
auto-not-met c supers sources principal J e S target i is h =
    not-met (Err N.NoSolution) N.NoSolution refl (λ x. subst (λ (k : Head). EndsThere J e S (λ n. (bound_met c supers sources principal n target k).steps) (λ end. Refused)) (sym is)
    (subst (λ (b : Bool). EndsThere J e S (λ n. (if b then met_by [] n else unmet n).steps) (λ end. Refused)) (sym h) (unmet-ends J e S)))

-- the head of a bound, as it is read
pub head-read : (ts : List Tree) (x : Pred) (b : Binder ExistentialPredicate) (v : ExistentialPredicate) → pred_kind_tree ts b ≡ pred_tree ts x → b.value ≡ v → (pred_tree ts x).head ≡ (pred_kind_tree ts (record { vars = b.vars; value = v })).head
head-read ts x b v s e = sym (ap (λ (t : Tree). t.head) s) ∙ ap (λ (y : ExistentialPredicate). (pred_kind_tree ts (record { vars = b.vars; value = y })).head) e

pub rule-are : (ts : List Tree) (n : ℕ) (xs : List Pred) → All (IsRulePred ts n) xs → All (IsPred ts) xs
rule-are ts n xs a = λ k d l. (a k d l).0
