-- What a bound of the target comes to, in a rule: by a principal, by a bound of the source, and by none.
use Rattle.std.proofs.Common.{◌≡◌, ◌≤◌, ◌+◌, ℕ, suc, Bool, true, false, Option, Some, None, List, [], ◌∷◌, ◌++◌, arith, length, map, refl, sym, ap, subst, ◌∙◌}
use Rattle.std.specs.Prelude.{if◌then◌else◌}
use Rattle.std.specs.List.{All, filter}
use Rattle.std.proofs.lemmas.List.Elements.{All-filter, All-head, All-same, All-tail}
use Rattle.ir_trees.specs.Unification.Substitutions.{alone}
use Rattle.ir_trees.specs.Syntax.Trees.{Forest, Tree, count, holds, is_param, join}
use Rattle.ir_trees.proofs.Syntax.Splits.{count-join}
use Rattle.candidate_eval.specs.Judges.Alike.{JudgesAlike}
use Rattle.candidate_eval.specs.Builtins.Callable.{last_tree}
use Rattle.candidate_eval.specs.Outcomes.Certainties.{AMBIGUOUS}
use Rattle.candidate_eval.specs.Derivations.Judging.{Place, Reached, At, Ambiguous, Over, Refused, asked, comes_to, concluded, continued, go_on, picked, put_in_tree, reached, run, source_of, step, taken}
use Rattle.candidate_eval.specs.Judges.Lawful.{Lawful}
use Rattle.candidate_eval.specs.Derivations.Mentions.{EndingBelow, IsBelow, MatchesBelow, StepsBelow, is_from}
use Rattle.candidate_eval.specs.Derivations.Naming.{named}
use Rattle.candidate_eval.specs.Derivations.Rules.{Ending, Step, Upcast, pick}
use Rattle.candidate_eval.specs.Judges.States.{Env, State, Judge, next}
use Rattle.candidate_eval.proofs.Marks.Marking.{below-more, last-unmarked}
use Rattle.candidate_eval.proofs.Derivations.Naming.{last-substituted, named-row-below}
use Rattle.candidate_eval.proofs.Derivations.RuleRuns.{comes_append, left_is_whole}
use Rattle.candidate_eval.specs.Dynamic.ObjectRules.{IsRuleTree}
use Rattle.candidate_assembly.specs.Rules.DynBounds.{projects, same_number, trait_of_bound}
use Rattle.candidate_assembly.specs.Answers.Telling.{standing}
use Rattle.candidate_assembly.specs.Rules.Unsizing.{Met, bound_match, kinds_bound, met_by, principal_met, principal_steps, projection_met, unmet}
use Rattle.candidate_assembly.specs.Calls.Upcasting.{EndsThere, GoesOn, Row, meets_projection, row_under, row_without_self, rows_met, source_trees}
use Rattle.candidate_assembly.proofs.Upcasting.UpcastMatches.{after-below, after_rows, all-longer, below-join, bounds-match, count-after, match-leads, principal-run, source-below, source-put, under-below, under-plain}

-- no principal is of the target's trait
abbrev pub no_principal : Option Tree → Tree → Type 0
no_principal None target = Unit {0}
no_principal (Some source) target = same_number (trait_of_bound source.head) (trait_of_bound target.head) ≡ false

module _ (J : Judge) (e : Env) where
  -- It isn't met.
  pub unmet-ends : (S : State) → EndsThere J e S (λ n. (unmet n).steps) (λ end. Refused)
  unmet-ends S ls l more end b c = refl

  -- It is met by itself.
  pub met-goes : (S : State) → GoesOn J e S S (λ n. met_by [] n)
  met-goes S = record { locals = λ ls. ls; longer = omega arith; below = λ ls l. l; number = λ ls. refl; comes = λ ls l more end b c. refl }

  run-reaches : (p q : Place) (xs : List Step) (o : Option State) (f : State → Place) (T : State) → run J e p xs ≡ reached Refused (next o (λ T. Some (f T))) → o ≡ Some T → q ≡ f T → run J e p xs ≡ At q
  run-reaches p q xs o f T h m is = h ∙ (ap (λ z. reached Refused (next z (λ T. Some (f T)))) m ∙ ap At (sym is))

  run-ends : (p : Place) (xs : List Step) (o : Option State) (f : State → Place) → run J e p xs ≡ reached Refused (next o (λ T. Some (f T))) → o ≡ None → run J e p xs ≡ Over Refused
  run-ends p xs o f h m = h ∙ ap (λ z. reached Refused (next z (λ T. Some (f T)))) m

  comes-over : (p : Place) (xs more : List Step) (end : Ending) → run J e p xs ≡ Over Refused → comes_to J e p (xs ++ more) end ≡ Refused
  comes-over p xs more end h = comes_append J e p xs more end ∙ ap (λ r. continued J end r (λ q. comes_to J e q more end)) h

  -- The principal of the same trait, whose row meets the bound's.
  module _ (laws : Lawful J) (S : State) (source target : Tree) (s : holds is_param (alone source) ≡ false) (t : holds is_param (alone target) ≡ false)
      (same : same_number (trait_of_bound source.head) (trait_of_bound target.head) ≡ true) where
    abbrev principal-next : ℕ → Met
    principal-next n = met_by (principal_steps n source target) (n + length (kinds_bound target) + length (kinds_bound source))

    pub principal-goes : (T : State) → rows_met J e S (row_without_self source) (row_under target) ≡ Some T → GoesOn J e S T (λ n. principal_met n (Some source) target)
    principal-goes T met = subst (λ (b : Bool). GoesOn J e S T (λ n. if b then principal-next n else unmet n)) (sym same) (record {
      locals = λ ls. after_rows S ls (row_without_self source) (row_under target);
      longer = all-longer J laws e S T (row_without_self source) (row_under target) met;
      below = λ ls l. after-below J laws e S T (row_without_self source) (row_under target) met ls l;
      number = λ ls. count-after S ls (row_without_self source) (row_under target);
      comes = λ ls l more end b c. left_is_whole J e (standing S ls) (standing T (after_rows S ls (row_without_self source) (row_under target))) (principal_steps (count ls) source target) more end
          (run-reaches (standing S ls) (standing T (after_rows S ls (row_without_self source) (row_under target))) (principal_steps (count ls) source target) (rows_met J e S (row_without_self source) (row_under target))
          (λ U. standing U (after_rows S ls (row_without_self source) (row_under target))) T (principal-run J e S ls source target s t) met refl);
    })

    pub principal-ends : rows_met J e S (row_without_self source) (row_under target) ≡ None → EndsThere J e S (λ n. (principal_met n (Some source) target).steps) (λ end. Refused)
    principal-ends met = subst (λ (b : Bool). EndsThere J e S (λ n. (if b then principal-next n else unmet n).steps) (λ end. Refused)) (sym same)
        (λ ls l more end b c. comes-over (standing S ls) (principal_steps (count ls) source target) more end
        (run-ends (standing S ls) (principal_steps (count ls) source target) (rows_met J e S (row_without_self source) (row_under target))
        (λ U. standing U (after_rows S ls (row_without_self source) (row_under target))) (principal-run J e S ls source target s t) met))

  pub other-principal : (S : State) (source : Option Tree) (target : Tree) → no_principal source target → EndsThere J e S (λ n. (principal_met n source target).steps) (λ end. Refused)
  other-principal S None target other = unmet-ends S
  other-principal S (Some source) target other = subst (λ (b : Bool). EndsThere J e S (λ n. (if b then met_by (principal_steps n source target) (n + length (kinds_bound target) + length (kinds_bound source)) else unmet n).steps) (λ end. Refused)) (sym other) (unmet-ends S)

-- Matches mention what their bounds do.
pub matches-low : (m k item : ℕ) (target : Tree) → IsBelow m (alone target) → (bs : List Tree) → All (IsRuleTree m) bs → MatchesBelow m (map (bound_match k target) (filter (λ b. projects item b.head) bs))
matches-low m k item target low [] all = tt
matches-low m k item target low (b ∷ bs) all = at (projects item b.head) (matches-low m k item target low bs (All-tail (IsRuleTree m) b bs all))
  where
    at : (x : Bool) → MatchesBelow m (map (bound_match k target) (filter (λ b. projects item b.head) bs))
        → MatchesBelow m (map (bound_match k target) (if x then b ∷ filter (λ b. projects item b.head) bs else filter (λ b. projects item b.head) bs))
    at true more =
        let here = All-head (IsRuleTree m) b bs all in
        let row = named-row-below m (k + length (kinds_bound target)) (kinds_bound b) (row_under b).trees (under-below m b here.below) in
        (row, named-row-below m k (kinds_bound target) (row_under target).trees (under-below m target low), last-unmarked (is_from m) (named (k + length (kinds_bound target)) (kinds_bound b) (row_under b).trees) refl row, more)
    at false more = more

-- Of the bounds that are about the associated type those that match, tried at states that are alike, and the state T after them.
module _ (J : Judge) (laws : Lawful J) (e : Env) (S T : State) (a : J.alike S T) (env : IsBelow (length S.variables) e) (item : ℕ) (target : Tree) (t : IsRuleTree (length S.variables) target)
    (bs : List Tree) (all : All (IsRuleTree (length S.variables)) bs) where
  abbrev law : JudgesAlike J
  law = laws.alike_judged_alike

  abbrev pick-of : Forest → Step
  pick-of ls = pick Upcast (map (bound_match (count ls) target) (filter (λ b. projects item b.head) bs))

  abbrev found-in : List Tree
  found-in = filter (meets_projection J e S item target) bs

  moved : (ls : Forest) → IsBelow (length S.variables) ls → (more : List Step) (end : Ending) → StepsBelow (length S.variables) more → EndingBelow (length S.variables) end
      → comes_to J e (standing S ls) (pick-of ls ∷ more) end ≡ comes_to J e (standing T ls) (pick-of ls ∷ more) end
  moved ls l more end b c =
      sym (law.same_answers (length S.variables) (standing S ls) (standing T ls) e (pick-of ls ∷ more) end (law.alike_places S T ls a l) env
      (matches-low (length S.variables) (count ls) item target t.below bs all, b) c)

  picks : (ls : Forest) (found : List Tree) (r : Reached) → found-in ≡ found → picked J e Upcast (standing T ls) (map (bound_match (count ls) target) found) ≡ r → step J e (standing T ls) (pick-of ls) ≡ r
  picks ls found r is h =
      ap (picked J e Upcast (standing T ls)) (bounds-match J law e S T a env item target t.no_parameter t.below ls bs all ∙ ap (map (bound_match (count ls) target)) is) ∙ h

  from-step : (ls : Forest) (more : List Step) (end : Ending) (r : Reached) → step J e (standing T ls) (pick-of ls) ≡ r
      → comes_to J e (standing T ls) (pick-of ls ∷ more) end ≡ continued J end (go_on r (λ q. run J e q more)) (λ q. concluded J e end q.state)
  from-step ls more end r h = ap (λ z. continued J end (go_on z (λ q. run J e q more)) (λ q. concluded J e end q.state)) h

  -- none matches
  pub none-ends : found-in ≡ [] → EndsThere J e S (λ n. (projection_met n item bs target).steps) (λ end. Refused)
  none-ends is ls l more end b c = moved ls l more end b c ∙ from-step ls more end (Over Refused) (picks ls [] (Over Refused) is refl)

  -- several do
  pub several-end : (x y : Tree) (more-found : List Tree) → found-in ≡ x ∷ y ∷ more-found → EndsThere J e S (λ n. (projection_met n item bs target).steps) (λ end. asked J T (source_of end) AMBIGUOUS)
  several-end x y others is ls l more end b c = moved ls l more end b c ∙ from-step ls more end (Ambiguous T) (picks ls (x ∷ y ∷ others) (Ambiguous T) is refl)

  -- the only one does, and its row meets the target's again, or not
  module _ (x : Tree) (is : found-in ≡ x ∷ []) where
    pub only-fits : IsRuleTree (length S.variables) x
    only-fits = All-head (IsRuleTree (length S.variables)) x [] (All-same (IsRuleTree (length S.variables)) (x ∷ []) found-in (sym is) (All-filter (meets_projection J e S item target) (IsRuleTree (length S.variables)) bs all))

    abbrev source-row : Row
    source-row = row_under x

    abbrev target-row : Row
    target-row = row_under target

    term-of : Forest → State → Tree
    term-of ls U = put_in_tree (standing U (after_rows T ls source-row target-row)) (bound_match (count ls) target x).term

    taken-so : (ls : Forest) (o : Option State) → rows_met J e T source-row target-row ≡ o
        → picked J e Upcast (standing T ls) (map (bound_match (count ls) target) (x ∷ []))
        ≡ taken Upcast (standing T ls) (bound_match (count ls) target x).term (next o (λ U. Some (standing U (after_rows T ls source-row target-row))))
    taken-so ls o met =
        ap (taken Upcast (standing T ls) (bound_match (count ls) target x).term)
        (match-leads J e T ls x target only-fits.no_parameter t.no_parameter ∙ ap (λ z. next z (λ U. Some (standing U (after_rows T ls source-row target-row)))) met)

    pub only-ends : rows_met J e T source-row target-row ≡ None → EndsThere J e S (λ n. (projection_met n item bs target).steps) (λ end. Refused)
    only-ends met ls l more end b c = moved ls l more end b c ∙ from-step ls more end (Over Refused) (picks ls (x ∷ []) (Over Refused) is (taken-so ls None met))

    pub only-goes : length S.variables ≤ length T.variables → (U : State) → rows_met J e T source-row target-row ≡ Some U → GoesOn J e S U (λ n. projection_met n item bs target)
    only-goes longer U met = record {
      locals = λ ls. join ls (alone (put_in_tree (standing U (after_rows T ls source-row target-row)) (bound_match (count ls) target x).term));
      longer = let more = all-longer J laws e T U source-row target-row met in omega (arith, longer, more);
      below = λ ls l. low ls l;
      number = λ ls. count-join ls (alone (put_in_tree (standing U (after_rows T ls source-row target-row)) (bound_match (count ls) target x).term)) ∙ one (count ls);
      comes = λ ls l more end b c. moved ls l more end b c
          ∙ from-step ls more end (At (standing U (join ls (alone (put_in_tree (standing U (after_rows T ls source-row target-row)) (bound_match (count ls) target x).term)))))
          (picks ls (x ∷ []) (At (standing U (join ls (alone (put_in_tree (standing U (after_rows T ls source-row target-row)) (bound_match (count ls) target x).term))))) is (taken-so ls (Some U) met));
    }
      where
        one : (n : ℕ) → n + 1 ≡ suc n
        one n = omega arith

        low : (ls : Forest) → IsBelow (length S.variables) ls → IsBelow (length U.variables) (join ls (alone (put_in_tree (standing U (after_rows T ls source-row target-row)) (bound_match (count ls) target x).term)))
        low ls l =
            let m = length U.variables in
            let more = all-longer J laws e T U source-row target-row met in
            let on : length S.variables ≤ m = omega (arith, longer, more) in
            let own = named (count ls + length (kinds_bound target)) (kinds_bound x) source-row.trees in
            let put : put_in_tree (standing U (after_rows T ls source-row target-row)) (last_tree own) ≡ last_tree (source_trees T source-row target-row) =
            last-substituted (after_rows T ls source-row target-row) own ∙ ap last_tree (source-put J e T ls source-row target-row (under-plain x only-fits.no_parameter) (under-plain target t.no_parameter)) in
            let row = source-below J laws e T U source-row target-row met (below-more (length S.variables) (length T.variables) source-row.trees longer (under-below (length S.variables) x only-fits.below)) in
            below-join m ls (alone (put_in_tree (standing U (after_rows T ls source-row target-row)) (last_tree own))) (below-more (length S.variables) m ls on l)
            (subst (λ (u : Tree). IsBelow m (alone u)) (sym put) (last-unmarked (is_from m) (source_trees T source-row target-row) refl row))
