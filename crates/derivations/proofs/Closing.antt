-- A derivation stays one where an allowed instance of what is left open is put in.
use Rattle.std.proofs.Common.{◌≡◌, ℕ, List, refl, sym, ap, subst, ◌∙◌}
use Rattle.ir_trees.specs.declared.decl.contents.AliasBoundKind.{AliasBoundKind}
use Rattle.ir_trees.specs.declared.ir.heads.Head.{Head}
use Rattle.ir_trees.specs.declared.ir.kinds.AssocId.{AssocId}
use Rattle.ir_trees.specs.Declarations.Context.{Context}
use Rattle.ir_trees.specs.Instantiation.Folding.{substituted_tree}
use Rattle.ir_trees.specs.Unification.Substitutions.{Universes, alone}
use Rattle.ir_trees.specs.Syntax.Trees.{Forest, Kind, join, none, tree, Tree}
use Rattle.ir_trees.specs.Declarations.Worlds.{kinds_of}
use Rattle.ir_trees.proofs.Instantiation.Folding.{begin}
use Rattle.candidate_eval.specs.Derivations.ImplRules.{TraitGoal}
use Rattle.candidate_eval.specs.Judges.Instances.{Instance, IsAllowedInto, instance}
use Rattle.candidate_eval.specs.Dynamic.ObjectRequirements.{first_tree}
use Rattle.candidate_eval.specs.Derivations.Rules.{Rule, Step}
use Rattle.candidate_eval.specs.Judges.States.{Env, Values, valued, valued_tree}
use Rattle.candidate_assembly.specs.Goals.KindBounds.{KindBounds}
use Rattle.candidate_assembly.specs.Goals.Kinds.{KindRules}
use Rattle.candidate_assembly.specs.Rules.ObjectBounds.{OwnClause}
use Rattle.candidate_assembly.specs.Goals.TraitRules.{trait_bounds, trait_rules}
use Rattle.projection_goals.specs.Normalizing.{normalizes_bounds, normalizes_rules}
use Rattle.rounds_judge.specs.Aliases.Congruence.{Same, SameBy, pair, same}
use Rattle.rounds_judge.specs.Obligations.Granted.{IsFreshFor, facts_in}
use Rattle.rounds_judge.specs.Table.Keys.{goal_trees}
use Rattle.rounds_judge.specs.Aliases.Listed.{Listing}
use Rattle.rounds_judge.specs.Obligations.Settling.{alias_of, arguments_of, first_fact, last_or, term_of, without_last}
use Rattle.rounds_judge.specs.Equations.Standing.{IsListing}
use Rattle.rounds_judge.proofs.Aliases.Congruent.{same_instance}
use Rattle.rounds_judge.proofs.Projections.Equality.{Carries, carried, moved}
use Rattle.derivations.specs.Derivations.{AreOne, DerivationModulo, IsLinked, IsOwn, IsOwnClause, IsReadAs, IsRuleUnder, ListedPairs, Pairs, PremisesModulo, Reading, StaysDerived, by_addition, by_bound, by_clause, by_impl, by_language, by_object, by_own_projection, by_projection_rule, by_rule, by_unsizing, constants_are_one, done, equation, first, further, object_assumed, projection_trees, read, region_outlives, type_outlives, types_are_one, with_equation, with_goal, with_match, with_placeholders, with_quick, with_settle, with_variables}
use Rattle.derivations.proofs.Putting.{after, fresh_after, instance_kinds, instance_of_variables, put_after, suits_after, valued_after, valued_put, variables_put}

-- Values in the facts of a projection.

last_valued : (v : Values) (t : Tree) (ts : Forest) → last_or (valued_tree v t) (valued v ts) ≡ valued_tree v (last_or t ts)
last_valued v t none = refl
last_valued v t (tree h below rest) = last_valued v (record { head = h; children = below }) rest

without_last_valued : (v : Values) (t : Tree) (ts : Forest) → without_last (valued_tree v t) (valued v ts) ≡ valued v (without_last t ts)
without_last_valued v t none = refl
without_last_valued v t (tree h below rest) = ap (begin (valued_tree v t)) (without_last_valued v (record { head = h; children = below }) rest)

arguments_valued : (v : Values) (ts : Forest) → arguments_of (valued v ts) ≡ valued v (arguments_of ts)
arguments_valued v none = refl
arguments_valued v (tree h below rest) = without_last_valued v (record { head = h; children = below }) rest

module _ (i : Instance) where
  first_valued : (ts : Forest) → alone (first_fact (valued (instance i) ts)) ≡ valued (instance i) (alone (first_fact ts))
  first_valued none = refl
  first_valued (tree h below rest) = refl

  pub term_valued : (ts : Forest) → alone (term_of (valued (instance i) ts)) ≡ valued (instance i) (alone (term_of ts))
  term_valued none = refl
  term_valued (tree h below rest) = ap alone (last_valued (instance i) (record { head = h; children = below }) rest)

  pub alias_valued : (n : AssocId) (ts : Forest) → alone (alias_of n (valued (instance i) ts)) ≡ valued (instance i) (alone (alias_of n ts))
  alias_valued n ts = ap (λ xs. tree (alias_of n ts).head xs none) (arguments_valued (instance i) ts)

-- What is one stays so where the values are put in.
abbrev pub ClosesUnder : Pairs → Universes → Universes → Instance → Type 0
ClosesUnder E u w o = (e : Env) → Carries (E u e) (E w (valued (instance o) e)) o

pub listed_closes : (l : Listing) → IsListing l → (u w : Universes) (o : Instance) → ClosesUnder (ListedPairs l) u w o
listed_closes l listing u w o e t s there = same_instance l listing o (alone t) (alone s) (pair t s there (same none))

module _ (d : Context) (l : Listing) (listing : IsListing l) (E : Pairs) (u w : Universes) (o : Instance) (allowed : IsAllowedInto u w o) (closes : ClosesUnder E u w o) where
  abbrev put : Forest → Forest
  put ts = valued (instance o) ts

  abbrev under : Reading → Reading
  under n = record { env = n.env; trees = n.trees; values = after o n.values }

  read_under : (n : Reading) (ts : Forest) → put (read n ts) ≡ read (under n) ts
  read_under n ts = valued_after o n.values ts

  -- What is equal under an environment is so, with values put in, under the environment with values put in.
  put_equal : (e : Env) (a b : Forest) → SameBy (E u e) a b → SameBy (E w (put e)) (put a) (put b)
  put_equal e a b h = carried (E u e) (E w (put e)) o (closes e) a b h

  equal_under : (v : Instance) (e : Env) (a b : Forest) → SameBy (E u (valued (instance v) e)) (valued (instance v) a) (valued (instance v) b)
      → SameBy (E w (valued (instance (after o v)) e)) (valued (instance (after o v)) a) (valued (instance (after o v)) b)
  equal_under v e a b h =
      subst (λ f. SameBy (E w f) (valued (instance (after o v)) a) (valued (instance (after o v)) b)) (valued_after o v e)
      (moved (E w (put (valued (instance v) e))) (put (valued (instance v) a)) (put (valued (instance v) b)) (valued (instance (after o v)) a) (valued (instance (after o v)) b) (valued_after o v a) (valued_after o v b)
      (put_equal (valued (instance v) e) (valued (instance v) a) (valued (instance v) b) h))

  one_under : (v : Instance) (e : Env) (s t : Tree) → AreOne (E u (valued (instance v) e)) (valued_tree (instance v) s) (valued_tree (instance v) t)
      → AreOne (E w (valued (instance (after o v)) e)) (valued_tree (instance (after o v)) s) (valued_tree (instance (after o v)) t)
  one_under v e s t h = equal_under v e (alone s) (alone t) h

  fresh_under : (n : Reading) (ks : List Kind) (k : ℕ) (ts : Forest) → IsFreshFor u ks k (read n ts) → IsFreshFor w ks k (read (under n) ts)
  fresh_under n ks k ts f = subst (IsFreshFor w ks k) (read_under n ts) (fresh_after u w o allowed ks k (read n ts) f)

  kinds_under : (v : Instance) (ts : Forest) (ks : List Kind) → kinds_of (valued (instance v) ts) ≡ ks → kinds_of (valued (instance (after o v)) ts) ≡ ks
  kinds_under v ts ks e = ap kinds_of (sym (valued_after o v ts)) ∙ (instance_kinds u w o allowed (valued (instance v) ts) ∙ e)

  -- The rules of a goal.

  module _ {G : Type 0} (K : KindRules G) (B : KindBounds G) (c : Context) (v : Instance) (e : Env) (g : G) where
    abbrev Before : Tree → Tree → Type 0
    Before = E u (valued (instance v) e)

    abbrev After : Tree → Tree → Type 0
    After = E w (valued (instance (after o v)) e)

    linked_under : {b : AliasBoundKind} {t : Tree} → IsLinked K B c Before v g b t → IsLinked K B c After (after o v) g b t
    linked_under first = first
    linked_under (further {t = t} x on is h) = further x (linked_under on) is (one_under v e (first_tree t.children) x h)

    rule_under : {r : Rule} → IsRuleUnder K B c Before v g r → IsRuleUnder K B c After (after o v) g r
    rule_under (by_clause t there) = by_clause t there
    rule_under (by_bound b t on has there) = by_bound b t (linked_under on) has there
    rule_under (by_addition b t on has there) = by_addition b t (linked_under on) has there
    rule_under (by_language n is) = by_language n is
    rule_under (by_unsizing t x supers is target h are there) = by_unsizing t x supers is target (one_under v e t x h) are there
    rule_under (by_impl m n there) = by_impl m n there

    own_clause_under : (own : OwnClause) → IsOwnClause K B c Before v g own → IsOwnClause K B c After (after o v) g own
    own_clause_under own h = record { supers = h.supers; has_own = h.has_own; are_supers = h.are_supers; is_own = h.is_own; passes = h.passes }

    own_under : (own : OwnClause) (more : Forest) (required : List Tree) → IsOwn K B c Before v g own more required → IsOwn K B c After (after o v) g own more required
    own_under own more required h = record {
      clause = own_clause_under own h.clause;
      kinds = kinds_under v more _ h.kinds;
      are = h.are;
      no_parameter = h.no_parameter;
    }

  env_under : (v : Values) (f : Env) (e : Env) → Same l (valued v f) e → Same l (put (valued v f)) (put e)
  env_under v f e h = same_instance l listing o (valued v f) e h

  read_as_under : (f : Env) (us : Forest) (v : Instance) (e : Env) (ts : Forest) → IsReadAs l (E u e) f us v e ts → IsReadAs l (E w (put e)) f us (after o v) (put e) (put ts)
  read_as_under f us v e ts h = record {
    no_parameter = h.no_parameter;
    clean = h.clean;
    is_known = h.is_known;
    suits = suits_after u w o allowed v (join f us) h.suits;
    env = subst (λ x. Same l x (put e)) (valued_after o v f) (env_under (instance v) f e h.env);
    arguments = subst (λ x. SameBy (E w (put e)) x (put ts)) (valued_after o v us) (put_equal e (valued (instance v) us) ts h.arguments);
  }

  relation_under : (e : Env) (ts : Forest) → AreOne (E u e) (first_fact ts) (term_of ts) → AreOne (E w (put e)) (first_fact (put ts)) (term_of (put ts))
  relation_under e ts h =
      moved (E w (put e)) (put (alone (first_fact ts))) (put (alone (term_of ts))) (alone (first_fact (put ts))) (alone (term_of (put ts))) (sym (first_valued o ts)) (sym (term_valued o ts))
      (put_equal e (alone (first_fact ts)) (alone (term_of ts)) h)

  projection_under : (e : Env) (i : AssocId) (ts : Forest) → AreOne (E u e) (alias_of i ts) (term_of ts) → AreOne (E w (put e)) (alias_of i (put ts)) (term_of (put ts))
  projection_under e i ts h =
      moved (E w (put e)) (put (alone (alias_of i ts))) (put (alone (term_of ts))) (alone (alias_of i (put ts))) (alone (term_of (put ts))) (sym (alias_valued o i ts)) (sym (term_valued o ts))
      (put_equal e (alone (alias_of i ts)) (alone (term_of ts)) h)

  mutual
    pub derivation_under : {e : Env} {h : Head} {ts : Forest} → DerivationModulo d l E u e h ts → DerivationModulo d l E w (put e) h (put ts)
    derivation_under (type_outlives e ts) = type_outlives (put e) (put ts)
    derivation_under (region_outlives e ts) = region_outlives (put e) (put ts)
    derivation_under (types_are_one e ts h) = types_are_one (put e) (put ts) (relation_under e ts h)
    derivation_under (constants_are_one e ts h) = constants_are_one (put e) (put ts) (relation_under e ts h)
    derivation_under (equation e i ts h) = equation (put e) i (put ts) (projection_under e i ts h)
    derivation_under (by_rule {e} {ts} c g v r end grows agrees is applies sure p) =
        by_rule c g (after o v) r end grows (read_as_under g.env g.reference.arguments v e ts agrees) (rule_under trait_rules trait_bounds c v g.env g is) applies sure (premises_under p)
    derivation_under (by_object {e} {ts} c g v own more required start end grows agrees is p q) =
        by_object c g (after o v) own more required start end grows (read_as_under g.env g.reference.arguments v e ts agrees) (own_under trait_rules trait_bounds c v g.env g own more required is) (premises_under p) (premises_under q)
    derivation_under (by_projection_rule {e} {ts} c g v r end grows agrees is applies sure p) =
        by_projection_rule c g (after o v) r end grows (read_as_under g.env (projection_trees g) v e ts agrees) (rule_under normalizes_rules normalizes_bounds c v g.env g is) applies sure (premises_under p)
    derivation_under (by_own_projection {e} {ts} c g v own end grows agrees is p) =
        by_own_projection c g (after o v) own end grows (read_as_under g.env (projection_trees g) v e ts agrees) (own_clause_under normalizes_rules normalizes_bounds c v g.env g own is) (premises_under p)
    derivation_under (object_assumed {e} {ts} c g v grows of is p q) =
        object_assumed c g (put_after (instance o) v) grows (variables_put (instance o) v (instance_of_variables o) of) is (subst (λ x. Same l x (put e)) (valued_put (instance o) v g.env) (env_under v g.env e p))
        (subst (λ x. SameBy (E w (put e)) x (put ts)) (valued_put (instance o) v g.reference.arguments) (put_equal e (valued v g.reference.arguments) ts q))

    pub premises_under : {n : Reading} {ls last : Forest} {ss : List Step} → PremisesModulo d l E u n ls ss last → PremisesModulo d l E w (under n) ls ss last
    premises_under done = done
    premises_under (with_variables {n} ks more e p) = with_variables ks more (kinds_under n.values more _ e) (premises_under p)
    premises_under (with_placeholders {n} ks k f p) = with_placeholders ks k (fresh_under n ks k _ f) (premises_under p)
    premises_under (with_equation {n} a b e p) = with_equation a b (equal_under n.values n.env _ _ e) (premises_under p)
    premises_under (with_quick a b p) = with_quick a b (premises_under p)
    premises_under (with_settle p) = with_settle (premises_under p)
    premises_under (with_goal {n} {ls} s x k f g p) =
        let y = substituted_tree ls x in
        with_goal s x k (fresh_under n _ k _ f)
        (subst (λ e. DerivationModulo d l E w e y.head (read (under n) (facts_in k y))) (read_under n n.env)
        (subst (λ ts. DerivationModulo d l E w (put (read n n.env)) y.head ts) (read_under n (facts_in k y)) (derivation_under g)))
        (premises_under p)
    premises_under (with_match k ms m there is p q) = with_match k ms m there is (premises_under p) (premises_under q)

-- Modulo the listed pairs.
pub stays_derived : (d : Context) (l : Listing) → IsListing l → (u w : Universes) (o : Instance) → IsAllowedInto u w o → StaysDerived d l u w o
stays_derived d l listing u w o allowed e h ts x = derivation_under d l listing (ListedPairs l) u w o allowed (listed_closes l listing u w o) x
