-- Goals that are equal share derivations, and what a table of which each Yes is derived grants is derived.
use Rattle.std.proofs.Common.{◌≡◌, Some, refl, ap, subst, ◌∙◌}
use Rattle.ir_trees.specs.declared.ir.heads.ClauseHead.TheVariants as Cl
use Rattle.ir_trees.specs.declared.ir.heads.Head.{Head}
use Rattle.ir_trees.specs.declared.ir.heads.Head.TheVariants as H
use Rattle.ir_trees.specs.declared.ir.heads.PartHead.TheVariants as P
use Rattle.ir_trees.specs.declared.ir.kinds.AssocId.{AssocId}
use Rattle.ir_trees.specs.Declarations.Context.{Context}
use Rattle.ir_trees.specs.Unification.Substitutions.{Universes, alone}
use Rattle.ir_trees.specs.Syntax.Trees.{Forest, Tree}
use Rattle.candidate_eval.specs.Derivations.ImplRules.{TraitGoal}
use Rattle.candidate_eval.specs.Judges.Instances.{Instance}
use Rattle.candidate_eval.specs.Judges.States.{Env}
use Rattle.rounds_judge.specs.Aliases.Congruence.{AreListed, Same, SameBy, along, back}
use Rattle.rounds_judge.specs.Table.GoalTable.{GoalTable}
use Rattle.rounds_judge.specs.Table.Keys.{trait_goal_of}
use Rattle.rounds_judge.specs.Aliases.Listed.{Listing}
use Rattle.rounds_judge.specs.Obligations.Settling.{alias_of, first_fact, term_of}
use Rattle.rounds_judge.specs.Projections.ProjectionGranted.{FactsGrantedModulo}
use Rattle.rounds_judge.specs.Table.TableGranted.{FactsGrantedWith, IsGrantedByYes, answered}
use Rattle.rounds_judge.specs.Table.Verdicts.{Yes}
use Rattle.rounds_judge.proofs.Projections.Equality.{aliases_equal, firsts_equal, terms_equal, wider}
use Rattle.derivations.specs.Derivations.{AreOne, Derivation, DerivationModulo, IsReadAs, ListedPairs, Pairs, by_object, by_own_projection, by_projection_rule, by_rule, constants_are_one, equation, object_assumed, projection_trees, region_outlives, said_by, type_outlives, types_are_one}
use Rattle.derivations.specs.DerivedTables.{AreDerivedAs, AreDerivedModulo, VerdictIsDerivedAs}

-- Pairs are of an environment, whichever of those it is that are equal modulo the listed ones; and each listed one is among them.
pub record ArePairs (l : Listing) (E : Pairs) : Type 0 where
  pub listed : (w : Universes) (e : Env) (t s : Tree) → AreListed l t s → E w e t s
  pub moved : (w : Universes) (e f : Env) → Same l e f → (t s : Tree) → E w e t s → E w f t s

pub listed_pairs : (l : Listing) → ArePairs l (ListedPairs l)
listed_pairs l = record { listed = λ w e t s x. x; moved = λ w e f p t s x. x }

-- What a projection, or an equation, says of trees that are equal.
module _ (E : Tree → Tree → Type 0) where
  relation_shared : (a b : Forest) → SameBy E a b → AreOne E (first_fact a) (term_of a) → AreOne E (first_fact b) (term_of b)
  relation_shared a b e h = along (back (firsts_equal E e)) (along h (terms_equal E a b e))

  projection_shared : (i : AssocId) (a b : Forest) → SameBy E a b → AreOne E (alias_of i a) (term_of a) → AreOne E (alias_of i b) (term_of b)
  projection_shared i a b e h = along (back (aliases_equal E i a b e)) (along h (terms_equal E a b e))

-- Goals that are equal share derivations.

module _ (d : Context) (l : Listing) (E : Pairs) (are : ArePairs l E) (w : Universes) where
  module _ (e f : Env) (p : Same l e f) where
    onto : {a b : Forest} → SameBy (E w e) a b → SameBy (E w f) a b
    onto h = wider (E w e) (E w f) (are.moved w e f p) h

    read_as_shared : (own : Env) (trees : Forest) (v : Instance) (ts us : Forest) → IsReadAs l (E w e) own trees v e ts → SameBy (E w f) ts us → IsReadAs l (E w f) own trees v f us
    read_as_shared own trees v ts us h q = record { no_parameter = h.no_parameter; clean = h.clean; is_known = h.is_known; suits = h.suits; env = along h.env p; arguments = along (onto h.arguments) q }

  pub shared : {e : Env} {h : Head} {ts : Forest} → DerivationModulo d l E w e h ts → (f : Env) (us : Forest) → Same l e f → SameBy (E w f) ts us → DerivationModulo d l E w f h us
  shared (type_outlives e ts) f us p q = type_outlives f us
  shared (region_outlives e ts) f us p q = region_outlives f us
  shared (equation e i ts h) f us p q = equation f i us (projection_shared (E w f) i ts us q (onto e f p h))
  shared (types_are_one e ts h) f us p q = types_are_one f us (relation_shared (E w f) ts us q (onto e f p h))
  shared (constants_are_one e ts h) f us p q = constants_are_one f us (relation_shared (E w f) ts us q (onto e f p h))
  shared (by_rule {e} {ts} c g v r end grows agrees is applies sure x) f us p q = by_rule c g v r end grows (read_as_shared e f p g.env g.reference.arguments v ts us agrees q) is applies sure x
  shared (by_object {e} {ts} c g v own more required start end grows agrees is x y) f us p q = by_object c g v own more required start end grows (read_as_shared e f p g.env g.reference.arguments v ts us agrees q) is x y
  shared (by_projection_rule {e} {ts} c g v r end grows agrees is applies sure x) f us p q = by_projection_rule c g v r end grows (read_as_shared e f p g.env (projection_trees g) v ts us agrees q) is applies sure x
  shared (by_own_projection {e} {ts} c g v own end grows agrees is x) f us p q = by_own_projection c g v own end grows (read_as_shared e f p g.env (projection_trees g) v ts us agrees q) is x
  shared (object_assumed {e} {ts} c g v grows of is x y) f us p q = object_assumed c g v grows of is (along x p) (along (onto e f p y) q)

  -- modulo the listed pairs
  pub shared_listed : {e : Env} {h : Head} {ts : Forest} → DerivationModulo d l E w e h ts → (f : Env) (us : Forest) → Same l e f → Same l ts us → DerivationModulo d l E w f h us
  shared_listed x f us p q = shared x f us p (wider (AreListed l) (E w f) (are.listed w f) q)

-- What a table grants is derived, if each Yes of it is; and what goals say is known by their trait and their polarity.

module _ {W : Type 0} (says : TraitGoal → Head) (d : Context) (l : Listing) (E : Pairs) (are : ArePairs l E) (T : GoalTable W) (derived : AreDerivedAs says d l E T) (u : Universes)
    (alike : (g h : TraitGoal) → g.reference.trait ≡ h.reference.trait → g.polarity ≡ h.polarity → says g ≡ says h) where
  pub yes_derives : (g : TraitGoal) → IsGrantedByYes T l u g → DerivationModulo d l E u g.env (says g) g.reference.arguments
  yes_derives g a =
      let k = a.entry.key in
      let ts = answered a.response a.values k.goal.reference.arguments in
      let yes : VerdictIsDerivedAs says d l E k (Some (Yes a.response a.way)) = subst (VerdictIsDerivedAs says d l E k) a.is_yes (derived a.entry a.entered) in
      let own : DerivationModulo d l E u (answered a.response a.values k.goal.env) (says k.goal) ts = yes u a.values a.allowed in
      let said : DerivationModulo d l E u (answered a.response a.values k.goal.env) (says g) ts =
      subst (λ h. DerivationModulo d l E u (answered a.response a.values k.goal.env) h ts) (alike k.goal g a.same_trait a.same_polarity) own in
      shared_listed d l E are u said g.env g.reference.arguments a.env a.arguments

said_same : (g h : TraitGoal) → g.reference.trait ≡ h.reference.trait → g.polarity ≡ h.polarity → said_by g ≡ said_by h
said_same g h e f = ap (λ n. H.Part (P.Clause (Cl.Trait (record { 0 = n }) g.polarity))) e ∙ ap (λ p. H.Part (P.Clause (Cl.Trait (record { 0 = h.reference.trait }) p))) f

module _ {W : Type 0} (d : Context) (l : Listing) (E : Pairs) (are : ArePairs l E) (T : GoalTable W) (derived : AreDerivedModulo d l E T) (u : Universes) where
  pub facts_derive_modulo : (e : Env) (h : Head) (ts : Forest) → FactsGrantedModulo (E u e) T l u e h ts → DerivationModulo d l E u e h ts
  facts_derive_modulo e (H.Part (P.Clause (Cl.Trait i p))) ts a = yes_derives said_by d l E are T derived u said_same (trait_goal_of e i p ts) a
  facts_derive_modulo e (H.Part (P.Clause (Cl.Projection i))) ts a = equation e i ts a
  facts_derive_modulo e (H.Part (P.Clause Cl.AliasRelate)) ts a = types_are_one e ts a
  facts_derive_modulo e (H.Part (P.Clause Cl.ConstEquate)) ts a = constants_are_one e ts a
  facts_derive_modulo e (H.Part (P.Clause Cl.TypeOutlives)) ts a = type_outlives e ts
  facts_derive_modulo e (H.Part (P.Clause Cl.RegionOutlives)) ts a = region_outlives e ts
  facts_derive_modulo e _ ts a = absurd a

-- Modulo the listed pairs alone.
pub facts_derive : {W : Type 0} (d : Context) (l : Listing) (T : GoalTable W) → AreDerivedModulo d l (ListedPairs l) T → (u : Universes) (e : Env) (h : Head) (ts : Forest) → FactsGrantedWith T l u e h ts → Derivation d l u e h ts
facts_derive d l T derived u e h ts a = facts_derive_modulo d l (ListedPairs l) (listed_pairs l) T derived u e h ts (modulo h a)
  where
    modulo : (h : Head) → FactsGrantedWith T l u e h ts → FactsGrantedModulo (AreListed l) T l u e h ts
    modulo (H.Part (P.Clause (Cl.Trait i p))) a = a
    modulo (H.Part (P.Clause (Cl.Projection i))) a = a
    modulo (H.Part (P.Clause Cl.AliasRelate)) a = a
    modulo (H.Part (P.Clause Cl.ConstEquate)) a = a
    modulo (H.Part (P.Clause Cl.TypeOutlives)) a = a
    modulo (H.Part (P.Clause Cl.RegionOutlives)) a = a
    modulo _ a = absurd a

pub shared_alone : (d : Context) (l : Listing) (w : Universes) {e : Env} {h : Head} {ts : Forest} → Derivation d l w e h ts → (f : Env) (us : Forest) → Same l e f → Same l ts us → Derivation d l w f h us
shared_alone d l w x f us p q = shared d l (ListedPairs l) (listed_pairs l) w x f us p q
