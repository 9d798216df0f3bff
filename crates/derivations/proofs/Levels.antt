-- Derivations by levels: what is derived at a level is derived at each further one, and pairs of a level keep what derivations ask of pairs.
use Rattle.std.proofs.Common.{◌≡◌, ◌⊎◌, inl, inr, ℕ, zero, suc, List, ap, refl, ◌∙◌}
use Rattle.ir_trees.specs.declared.decl.contents.AliasBoundKind.{AliasBoundKind}
use Rattle.ir_trees.specs.declared.ir.heads.Head.{Head}
use Rattle.ir_trees.specs.Declarations.Context.{Context}
use Rattle.ir_trees.specs.Instantiation.Folding.{substituted_tree}
use Rattle.ir_trees.specs.Syntax.Trees.{Forest, Tree, none}
use Rattle.ir_trees.specs.Unification.Substitutions.{Universes, alone}
use Rattle.candidate_eval.specs.Derivations.Rules.{Rule, Step}
use Rattle.candidate_eval.specs.Judges.Instances.{Instance, IsAllowedInto, instance}
use Rattle.candidate_eval.specs.Judges.States.{Env, valued, valued_tree}
use Rattle.candidate_assembly.specs.Goals.KindBounds.{KindBounds}
use Rattle.candidate_assembly.specs.Goals.Kinds.{KindRules}
use Rattle.candidate_assembly.specs.Goals.TraitRules.{trait_bounds, trait_rules}
use Rattle.candidate_assembly.specs.Rules.ObjectBounds.{OwnClause}
use Rattle.projection_goals.specs.Normalizing.{normalizes_bounds, normalizes_rules}
use Rattle.rounds_judge.specs.Aliases.Congruence.{AreListed, Same, SameBy, pair, same}
use Rattle.rounds_judge.specs.Aliases.Listed.{Listing}
use Rattle.rounds_judge.specs.Equations.Standing.{IsListing}
use Rattle.rounds_judge.specs.Obligations.Settling.{alias_of, term_of}
use Rattle.rounds_judge.proofs.Projections.Equality.{moved, wider}
use Rattle.derivations.specs.Derivations.{DerivationModulo, IsLinked, IsOwn, IsOwnClause, IsReadAs, IsRuleUnder, ListedPairs, Pairs, PremisesModulo, Reading, by_addition, by_bound, by_clause, by_impl, by_language, by_object, by_own_projection, by_projection_rule, by_rule, by_unsizing, constants_are_one, done, equation, first, further, object_assumed, read, region_outlives, type_outlives, types_are_one, with_equation, with_goal, with_match, with_placeholders, with_quick, with_settle, with_variables}
use Rattle.derivations.specs.Levels.{AreOneBelow, IsDerivedType, PairsAt}
use Rattle.derivations.proofs.Closing.{ClosesUnder, alias_valued, derivation_under, listed_closes, term_valued}
use Rattle.derivations.proofs.Sharing.{ArePairs, listed_pairs, shared}

-- With more pairs what is derived stays so.

module _ (d : Context) (l : Listing) (E F : Pairs) (more : (w : Universes) (e : Env) (t s : Tree) → E w e t s → F w e t s) (w : Universes) where
  equal_more : (e : Env) {a b : Forest} → SameBy (E w e) a b → SameBy (F w e) a b
  equal_more e h = wider (E w e) (F w e) (more w e) h

  read_more : (own : Env) (trees : Forest) (v : Instance) (e : Env) (ts : Forest) → IsReadAs l (E w e) own trees v e ts → IsReadAs l (F w e) own trees v e ts
  read_more own trees v e ts h = record { no_parameter = h.no_parameter; clean = h.clean; is_known = h.is_known; suits = h.suits; env = h.env; arguments = equal_more e h.arguments }

  module _ {G : Type 0} (K : KindRules G) (B : KindBounds G) (c : Context) (v : Instance) (e : Env) (g : G) where
    linked_more : {b : AliasBoundKind} {t : Tree} → IsLinked K B c (E w e) v g b t → IsLinked K B c (F w e) v g b t
    linked_more first = first
    linked_more (further x on is h) = further x (linked_more on) is (equal_more e h)

    rule_more : {r : Rule} → IsRuleUnder K B c (E w e) v g r → IsRuleUnder K B c (F w e) v g r
    rule_more (by_clause t there) = by_clause t there
    rule_more (by_bound b t on has there) = by_bound b t (linked_more on) has there
    rule_more (by_addition b t on has there) = by_addition b t (linked_more on) has there
    rule_more (by_language n is) = by_language n is
    rule_more (by_unsizing t x supers is target h are there) = by_unsizing t x supers is target (equal_more e h) are there
    rule_more (by_impl m n there) = by_impl m n there

    own_clause_more : (own : OwnClause) → IsOwnClause K B c (E w e) v g own → IsOwnClause K B c (F w e) v g own
    own_clause_more own h = record { supers = h.supers; has_own = h.has_own; are_supers = h.are_supers; is_own = h.is_own; passes = h.passes }

    own_more : (own : OwnClause) (more : Forest) (required : List Tree) → IsOwn K B c (E w e) v g own more required → IsOwn K B c (F w e) v g own more required
    own_more own more required h = record { clause = own_clause_more own h.clause; kinds = h.kinds; are = h.are; no_parameter = h.no_parameter }

  mutual
    pub derivation_more : {e : Env} {h : Head} {ts : Forest} → DerivationModulo d l E w e h ts → DerivationModulo d l F w e h ts
    derivation_more (type_outlives e ts) = type_outlives e ts
    derivation_more (region_outlives e ts) = region_outlives e ts
    derivation_more (types_are_one e ts h) = types_are_one e ts (equal_more e h)
    derivation_more (constants_are_one e ts h) = constants_are_one e ts (equal_more e h)
    derivation_more (equation e i ts h) = equation e i ts (equal_more e h)
    derivation_more (by_rule {e} {ts} c g v r end grows agrees is applies sure p) =
        by_rule c g v r end grows (read_more g.env g.reference.arguments v e ts agrees) (rule_more trait_rules trait_bounds c v (valued (instance v) g.env) g is) applies sure (premises_more p)
    derivation_more (by_object {e} {ts} c g v own more required start end grows agrees is p q) =
        by_object c g v own more required start end grows (read_more g.env g.reference.arguments v e ts agrees) (own_more trait_rules trait_bounds c v (valued (instance v) g.env) g own more required is) (premises_more p) (premises_more q)
    derivation_more (by_projection_rule {e} {ts} c g v r end grows agrees is applies sure p) =
        by_projection_rule c g v r end grows (read_more g.env _ v e ts agrees) (rule_more normalizes_rules normalizes_bounds c v (valued (instance v) g.env) g is) applies sure (premises_more p)
    derivation_more (by_own_projection {e} {ts} c g v own end grows agrees is p) =
        by_own_projection c g v own end grows (read_more g.env _ v e ts agrees) (own_clause_more normalizes_rules normalizes_bounds c v (valued (instance v) g.env) g own is) (premises_more p)
    derivation_more (object_assumed {e} {ts} c g v grows of is p q) = object_assumed c g v grows of is p (equal_more e q)

    premises_more : {n : Reading} {ls last : Forest} {ss : List Step} → PremisesModulo d l E w n ls ss last → PremisesModulo d l F w n ls ss last
    premises_more done = done
    premises_more (with_variables ks more e p) = with_variables ks more e (premises_more p)
    premises_more (with_placeholders ks k f p) = with_placeholders ks k f (premises_more p)
    premises_more (with_equation {n} a b e p) = with_equation a b (equal_more (read n n.env) e) (premises_more p)
    premises_more (with_quick a b p) = with_quick a b (premises_more p)
    premises_more (with_settle p) = with_settle (premises_more p)
    premises_more (with_goal s x k f g p) = with_goal s x k f (derivation_more g) (premises_more p)
    premises_more (with_match k ms m there is p q) = with_match k ms m there is (premises_more p) (premises_more q)

-- Pairs that are one a level below.

module _ (d : Context) (l : Listing) (E : Pairs) where
  pub are_pairs_below : ArePairs l E → ArePairs l (AreOneBelow d l E)
  are_pairs_below are = record { listed = λ w e t s x. inl x; moved = λ w e f p t s x. at w e f p t s x }
    where
      at : (w : Universes) (e f : Env) → Same l e f → (t s : Tree) → AreOneBelow d l E w e t s → AreOneBelow d l E w f t s
      at w e f p t s (inl x) = inl x
      at w e f p t s (inr x) = inr (record { item = x.item; facts = x.facts; derivation = shared d l E are w x.derivation f x.facts p (same x.facts); alias = x.alias; type = x.type })

  pub closes_below : IsListing l → (u w : Universes) (o : Instance) → IsAllowedInto u w o → ClosesUnder E u w o → ClosesUnder (AreOneBelow d l E) u w o
  closes_below listing u w o allowed closes e t s (inl c) = wider (AreListed l) (AreOneBelow d l E w (valued (instance o) e)) (λ x y h. inl h) (listed_closes l listing u w o e t s c)
  closes_below listing u w o allowed closes e t s (inr x) =
      let facts = valued (instance o) x.facts in
      moved (AreOneBelow d l E w (valued (instance o) e)) (alone (alias_of x.item facts)) (alone (term_of facts)) (alone (valued_tree (instance o) t)) (alone (valued_tree (instance o) s))
      (alias_valued o x.item x.facts ∙ ap (λ y. valued (instance o) (alone y)) x.alias) (term_valued o x.facts ∙ ap (λ y. valued (instance o) (alone y)) x.type)
      (pair (alias_of x.item facts) (term_of facts) (inr (record { item = x.item; facts = facts; derivation = derivation_under d l listing E u w o allowed closes x.derivation; alias = refl; type = refl })) (same none))

-- So it is at each level.

module _ (d : Context) (l : Listing) where
  pub are_pairs : (n : ℕ) → ArePairs l (PairsAt d l n)
  are_pairs zero = listed_pairs l
  are_pairs (suc n) = are_pairs_below d l (PairsAt d l n) (are_pairs n)

  pub level_closes : IsListing l → (n : ℕ) (u w : Universes) (o : Instance) → IsAllowedInto u w o → ClosesUnder (PairsAt d l n) u w o
  level_closes listing zero u w o allowed = listed_closes l listing u w o
  level_closes listing (suc n) u w o allowed = closes_below d l (PairsAt d l n) listing u w o allowed (level_closes listing n u w o allowed)

  pub at_next : (n : ℕ) (w : Universes) (e : Env) (t s : Tree) → PairsAt d l n w e t s → PairsAt d l (suc n) w e t s
  at_next zero w e t s x = inl x
  at_next (suc n) w e t s (inl x) = inl x
  at_next (suc n) w e t s (inr x) = inr (record { item = x.item; facts = x.facts; derivation = derivation_more d l (PairsAt d l n) (PairsAt d l (suc n)) (at_next n) w x.derivation; alias = x.alias; type = x.type })
