-- Where a clause's rule mentions no other variables than those of a state, its answer is what the judge says at that very state.
use Rattle.std.proofs.Common.{◌≡◌, ◌+◌, ℕ, suc, Bool, true, false, List, [], ◌∷◌, All, ap, length, map, refl, sym, ◌∙◌}
use Rattle.std.specs.Prelude.{if◌then◌else◌}
use Rattle.std.specs.List.{filter}
use Rattle.std.proofs.lemmas.List.Elements.{All-append, All-head, All-nil, All-tail}
use Rattle.ir_trees.specs.Declarations.Context.{Context}
use Rattle.ir_trees.specs.Syntax.Trees.{Forest, Tree, none}
use Rattle.candidate_eval.specs.Derivations.Judging.{Ambiguous, At, Judged, Over, Place, Reached, Refused, comes_to, continued, is_at, judged, start}
use Rattle.candidate_eval.specs.Derivations.Mentions.{IsBelow, MatchesBelow, StepsBelow, is_from}
use Rattle.candidate_eval.specs.Derivations.Rules.{Rule, Step, nested}
use Rattle.candidate_eval.specs.Dynamic.ObjectRules.{IsRuleTree, match_of, matches_of, named_clauses, picks_of, projections_in}
use Rattle.candidate_eval.specs.Dynamic.Objects.{Projection, is_about}
use Rattle.candidate_eval.specs.Dynamic.Replacing.{own_projection, projections}
use Rattle.candidate_eval.specs.Dynamic.Required.{own_bounds}
use Rattle.candidate_eval.specs.Judges.Alike.{JudgesAlike}
use Rattle.candidate_eval.specs.Judges.States.{Judge, State}
use Rattle.candidate_eval.proofs.Derivations.Naming.{named-below}
use Rattle.candidate_eval.proofs.Derivations.RuleRuns.{comes_append}
use Rattle.candidate_eval.proofs.Marks.Holds.{holds_parts}
use Rattle.candidate_assembly.specs.Goals.Kinds.{KindRules, match_rule, passes}
use Rattle.candidate_assembly.specs.Rules.ObjectBounds.{OwnClause, finds_of, match_at, object_rule, required_steps, width}
use Rattle.candidate_assembly.specs.Rules.ObjectRule.{IsAskedAfter, IsJudgedByRule, MakesUpRule}
use Rattle.candidate_assembly.proofs.Lists.Listing.{judged-alike}
use Rattle.candidate_assembly.proofs.Objects.ObjectRuling.{asking-rule, bounds, ending, env, further, named-clauses-below}
use Rattle.candidate_assembly.proofs.Rules.PureFolder.{rule-refused}
use Rattle.candidate_assembly.proofs.Rules.MatchesBelow.{steps-joined}
use Rattle.candidate_assembly.proofs.Sense.SensePicks.{projections-unmarked}

-- What is required mentions no other variables, and so do the steps.

module _ (n : ℕ) where
  abbrev IsLow : Projection → Type 0
  IsLow p = IsBelow n p.arguments

  matches-low : (k : ℕ) (p : Projection) (bs : List Tree) → All (IsRuleTree n) bs → IsLow p → MatchesBelow n (matches_of k bs p)
  matches-low k p [] a l = tt
  matches-low k p (b ∷ bs) a l = at (is_about p.item b.head) (matches-low k p bs (All-tail (IsRuleTree n) b bs a) l)
    where
      at : (x : Bool) → MatchesBelow n (matches_of k bs p)
          → MatchesBelow n (map (match_of k p) (if x then b ∷ filter (λ c. is_about p.item c.head) bs else filter (λ c. is_about p.item c.head) bs))
      at true more = let named = named-below n k b (All-head (IsRuleTree n) b bs a).below in (named.0, l, named.1, more)
      at false more = more

  picks-low : (k : ℕ) (bs : List Tree) (ps : List Projection) → All (IsRuleTree n) bs → All IsLow ps → StepsBelow n (picks_of k bs ps)
  picks-low k bs [] a l = tt
  picks-low k bs (p ∷ ps) a l = (matches-low k p bs a (All-head IsLow p ps l), picks-low (suc k) bs ps a (All-tail IsLow p ps l))

  projections-low : (object : Tree) (bs cs : List Tree) → All (IsRuleTree n) cs → All IsLow (projections_in (own_projection object bs) cs)
  projections-low object bs [] a = All-nil IsLow
  projections-low object bs (c ∷ cs) a =
      let f = own_projection object bs in
      let below = holds_parts (is_from n) c.head c.children none (All-head (IsRuleTree n) c cs a).below in
      All-append IsLow (projections f c.children) (projections_in f cs) (projections-unmarked object bs (is_from n) c.children below.under)
      (projections-low object bs cs (All-tail (IsRuleTree n) c cs a))

  required-low : (object : Tree) (bounds : Forest) (k : ℕ) (cs : List Tree) → All (IsRuleTree n) (own_bounds object bounds) → All (IsRuleTree n) cs → StepsBelow n (required_steps object bounds k cs)
  required-low object bounds k cs b a =
      let bs = own_bounds object bounds in
      let f = finds_of object bounds in
      steps-joined n (picks_of k bs (projections_in f cs)) (nested (named_clauses f k cs)) (picks-low k bs (projections_in f cs) b (projections-low object bs cs a)) (named-clauses-below n f k cs a)

module _ {G : Type 0} (K : KindRules G) (J : Judge) (law : JudgesAlike J) (c : Context) (S : State) (g : G) where
  abbrev own_bounds_of : Tree → List Tree
  own_bounds_of object = own_bounds object (bounds K J law c S g)

  abbrev steps_of : OwnClause → List Step
  steps_of o = K.match_steps g o.clause

  -- Where the match comes to no place, what follows it counts for nothing.
  unmatched-rule : (T : State) (o : OwnClause) (more : List Step) → is_at (match_at K J c S g T o) ≡ false
      → judged J T (match_rule K c g o.clause more (ending K J law c S g o)) ≡ judged J T (match_rule K c g o.clause [] (ending K J law c S g o))
  unmatched-rule T o more e =
      let e0 = env K J law c S g in
      let end = ending K J law c S g o in
      ap (λ x. if passes K c g o.clause then x else Refused)
      (comes_append J e0 (start T) (steps_of o) more end ∙ (of (match_at K J c S g T o) e ∙ sym (comes_append J e0 (start T) (steps_of o) [] end)))
    where
      of : (r : Reached) → is_at r ≡ false
          → continued J (ending K J law c S g o) r (λ q. comes_to J (env K J law c S g) q more (ending K J law c S g o)) ≡ continued J (ending K J law c S g o) r (λ q. comes_to J (env K J law c S g) q [] (ending K J law c S g o))
      of (At p) e = absurd cc
      of (Ambiguous U) e = refl
      of (Over j) e = refl

  module _ (o : OwnClause) (j : Judged) (r : IsJudgedByRule K J c S g o j) (low : IsBelow (length S.variables) (env K J law c S g)) (match : StepsBelow (length S.variables) (steps_of o)) where
    abbrev n : ℕ
    n = length S.variables

    abbrev rule_with : List Step → Rule
    rule_with more = match_rule K c g o.clause more (ending K J law c S g o)

    abbrev after : List Step
    after = further K J law c S g o r.object r.required

    -- at both states the match comes to a place, or at none
    alike-places : is_at (match_at K J c S g r.at o) ≡ is_at (match_at K J c S g S o)
    alike-places = law.same_refusals n (start S) (start r.at) (env K J law c S g) (steps_of o) (law.alike_places S r.at none r.alike refl) low match

    plain-alike : judged J r.at (rule_with []) ≡ judged J S (rule_with [])
    plain-alike = judged-alike J law S r.at (rule_with []) r.alike (record { env = low; steps = steps-joined n (steps_of o) [] match tt; ending = tt })

    further-alike : All (IsRuleTree n) (own_bounds_of r.object) → All (IsRuleTree n) r.required → judged J r.at (rule_with after) ≡ judged J S (rule_with after)
    further-alike b a =
        judged-alike J law S r.at (rule_with after) r.alike
        (record { env = low; steps = steps-joined n (steps_of o) after match (tt, required-low n r.object (bounds K J law c S g) (width o.clause + width o.clause) r.required b a); ending = tt })

    -- What is answered is the judge's at the state, where that is so of what is required wherever something is.
    pub judged-at-first : ((p : Place) → IsAskedAfter K J c S g r.at o p → MakesUpRule (env K J law c S g) p o.clause r.object (bounds K J law c S g) r.required)
        → ((p : Place) → IsAskedAfter K J c S g r.at o p → All (IsRuleTree n) (own_bounds_of r.object) × All (IsRuleTree n) r.required)
        → j ≡ judged J S (object_rule K c g o r.object r.required)
    judged-at-first made below = r.is made ∙ by (passes K c g o.clause) refl K.asks_of_objects refl (match_at K J c S g r.at o) refl
      where
        past : is_at (match_at K J c S g r.at o) ≡ false → judged J r.at (rule_with after) ≡ judged J S (rule_with after)
        past e = unmatched-rule r.at o after e ∙ (plain-alike ∙ sym (unmatched-rule S o after (sym alike-places ∙ e)))

        asked-so : passes K c g o.clause ≡ true → K.asks_of_objects ≡ true → (x : Reached) → match_at K J c S g r.at o ≡ x → judged J r.at (rule_with after) ≡ judged J S (rule_with after)
        asked-so passed on (At p) is = let h = below p (record { asks = on; passed = passed; matched = is }) in further-alike h.0 h.1
        asked-so passed on (Ambiguous U) is = past (ap is_at is)
        asked-so passed on (Over i) is = past (ap is_at is)

        by : (a : Bool) → passes K c g o.clause ≡ a → (b : Bool) → K.asks_of_objects ≡ b → (x : Reached) → match_at K J c S g r.at o ≡ x
            → judged J r.at (object_rule K c g o r.object r.required) ≡ judged J S (object_rule K c g o r.object r.required)
        by false out b e x is = rule-refused K J c r.at g o.clause _ (ending K J law c S g o) out ∙ sym (rule-refused K J c S g o.clause _ (ending K J law c S g o) out)
        by true passed false off x is =
            asking-rule K J law c S g r.at o r.object r.required false off ∙ (plain-alike ∙ sym (asking-rule K J law c S g S o r.object r.required false off))
        by true passed true on x is =
            asking-rule K J law c S g r.at o r.object r.required true on ∙ (asked-so passed on x is ∙ sym (asking-rule K J law c S g S o r.object r.required true on))
