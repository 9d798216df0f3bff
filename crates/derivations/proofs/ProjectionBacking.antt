-- The judge by tables of goals of traits and of projections: what it grants is derived at the level above that of the tables of projections.
use Rattle.std.proofs.Common.{◌≡◌, ◌⊎◌, inl, inr, ℕ, suc, false, List, [], Some, ap, subst}
use Rattle.std.proofs.lemmas.List.Elements.{All-contains}
use Rattle.ir_trees.specs.declared.decl.limits.Limits.{Limits}
use Rattle.ir_trees.specs.declared.ir.heads.ClauseHead.TheVariants as Cl
use Rattle.ir_trees.specs.declared.ir.heads.Head.{Head}
use Rattle.ir_trees.specs.declared.ir.heads.Head.TheVariants as H
use Rattle.ir_trees.specs.declared.ir.heads.PartHead.TheVariants as P
use Rattle.ir_trees.specs.declared.ir.kinds.AssocId.{AssocId}
use Rattle.ir_trees.specs.Declarations.Context.{Context}
use Rattle.ir_trees.specs.Declarations.Worlds.{World}
use Rattle.ir_trees.specs.Syntax.Binders.{escapes}
use Rattle.ir_trees.specs.Syntax.Trees.{ConstantKind, Forest, Kind, Tree, kind_of, none, tree}
use Rattle.ir_trees.specs.Unification.Substitutions.{Universes, alone}
use Rattle.candidate_eval.specs.Derivations.ImplRules.{TraitGoal}
use Rattle.candidate_eval.specs.Judges.Lawful.{AreGranted}
use Rattle.candidate_eval.specs.Judges.Soundness.{universes}
use Rattle.candidate_eval.specs.Judges.States.{Env, Pending, State, resolved}
use Rattle.rounds_judge.specs.Aliases.Congruence.{SameBy}
use Rattle.rounds_judge.specs.Aliases.Listed.{Listing}
use Rattle.rounds_judge.specs.Aliases.OpenParts.{relation, to_be_one}
use Rattle.rounds_judge.specs.Equations.Standing.{IsListing}
use Rattle.rounds_judge.specs.Obligations.Granted.{facts_in}
use Rattle.rounds_judge.specs.Obligations.Settling.{first_fact, term_of}
use Rattle.rounds_judge.specs.Projections.ProjectionGoals.{ProjectionTables, projection_goal}
use Rattle.rounds_judge.specs.Projections.ProjectionGranted.{AreOne, FactsGrantedModulo, IsGrantedBy}
use Rattle.rounds_judge.specs.Projections.ProjectionJudge.{projection_judge}
use Rattle.rounds_judge.specs.Table.GoalTable.{GoalTable}
use Rattle.rounds_judge.proofs.Lawfulness.OpenSides.{both_closed, sides_equal_modulo}
use Rattle.rounds_judge.proofs.Obligations.Granting.{first_resolved, term_resolved}
use Rattle.rounds_judge.proofs.Obligations.Opening.{closed_stays}
use Rattle.rounds_judge.proofs.Projections.Equality.{moved, wider}
use Rattle.rounds_judge.proofs.Projections.NormalForms.{IsEqualForm, normalized_equal}
use Rattle.rounds_judge.proofs.Projections.Sides.{AreEqualBy, HoldAt}
use Rattle.rounds_judge.proofs.Table.TableSettled.{ReadsWell}
use Rattle.derivations.specs.Derivations.{Pairs}
use Rattle.derivations.specs.DerivedTables.{AreDerivedAs, AreDerivedModulo}
use Rattle.derivations.specs.Levels.{PairsAt, said_of_type}
use Rattle.derivations.proofs.Backing.{Backs}
use Rattle.derivations.proofs.Levels.{are_pairs, level_closes}
use Rattle.derivations.proofs.Sharing.{facts_derive_modulo, yes_derives}

-- With more pairs facts are granted that were.
facts_more : {W : Type 0} (E F : Tree → Tree → Type 0) → ((t s : Tree) → E t s → F t s) → (T : GoalTable W) (l : Listing) (u : Universes) (e : Env) (h : Head) (ts : Forest) → FactsGrantedModulo E T l u e h ts → FactsGrantedModulo F T l u e h ts
facts_more E F more T l u e (H.Part (P.Clause (Cl.Trait i p))) ts a = a
facts_more E F more T l u e (H.Part (P.Clause (Cl.Projection i))) ts a = wider E F more a
facts_more E F more T l u e (H.Part (P.Clause Cl.AliasRelate)) ts a = wider E F more a
facts_more E F more T l u e (H.Part (P.Clause Cl.ConstEquate)) ts a = wider E F more a
facts_more E F more T l u e (H.Part (P.Clause Cl.TypeOutlives)) ts a = a
facts_more E F more T l u e (H.Part (P.Clause Cl.RegionOutlives)) ts a = a
facts_more E F more T l u e _ ts a = a

-- Where it is granted that two closed trees are one, they are equal.
granted_equal : {W : Type 0} (Q : ProjectionTables W) (K : GoalTable W) (l : Listing) (U : State) (e : Env) (t u : Tree) → escapes 0 (alone t) ≡ false → escapes 0 (alone u) ≡ false → IsGrantedBy Q K l U (to_be_one e t u).goal
    → AreEqualBy (AreOne Q l (universes U) (resolved U e)) U t u
granted_equal Q K l U e t u c d a =
    by (kind_of t.head) (subst (λ xs. FactsGrantedModulo One K l (universes U) (resolved U e) (relation (kind_of t.head)) (resolved U xs)) (closed_stays a.universe [] 0 facts (both_closed K l U t u c d)) a.facts)
  where
    One : Tree → Tree → Type 0
    One = AreOne Q l (universes U) (resolved U e)

    facts : Forest
    facts = tree t.head t.children (tree u.head u.children none)

    say : SameBy One (alone (first_fact (resolved U facts))) (alone (term_of (resolved U facts))) → AreEqualBy One U t u
    say s = moved One (alone (first_fact (resolved U facts))) (alone (term_of (resolved U facts))) (resolved U (alone t)) (resolved U (alone u)) (first_resolved U facts) (term_resolved U facts) s

    by : (k : Kind) → FactsGrantedModulo One K l (universes U) (resolved U e) (relation k) (resolved U facts) → AreEqualBy One U t u
    by ConstantKind s = say s
    by _ s = say s

-- what goals of projections say is known by the associated type
types_say : (g h : TraitGoal) → g.reference.trait ≡ h.reference.trait → g.polarity ≡ h.polarity → said_of_type g ≡ said_of_type h
types_say g h e p = ap (λ n. H.Part (P.Clause (Cl.Projection (record { 0 = n })))) e

module _ {W : Type 0} (Q : ProjectionTables W) (l : Listing) (d : Context) (n : ℕ) (derived : (i : AssocId) → AreDerivedAs said_of_type d l (PairsAt d l n) (Q i)) where
  -- What tables say to be one is so, a level above theirs.
  one_above : (u : Universes) (e : Env) (t s : Tree) → AreOne Q l u e t s → PairsAt d l (suc n) u e t s
  one_above u e t s (inl c) = inl c
  one_above u e t s (inr x) =
      inr (record { item = x.item; facts = x.facts; derivation = yes_derives said_of_type d l (PairsAt d l n) (are_pairs d l n) (Q x.item) (derived x.item) u types_say (projection_goal e x.item x.facts) x.by; alias = x.alias; type = x.type })

  module _ (world : World) (local : ℕ) (limits : Limits) (opaques : List Tree) (reads_terms : (i : AssocId) → ReadsWell (Q i)) (K : GoalTable W) (listing : IsListing l) (traits : AreDerivedModulo d l (PairsAt d l (suc n)) K) where
    holds_there : (U : State) (e : Env) (gs : List Pending) → AreGranted (projection_judge world local limits l opaques Q K) U gs → HoldAt (PairsAt d l (suc n) (universes U) (resolved U e)) U e gs
    holds_there U e gs all t u c f there =
        wider (AreOne Q l (universes U) (resolved U e)) (PairsAt d l (suc n) (universes U) (resolved U e)) (one_above (universes U) (resolved U e))
        (granted_equal Q K l U e t u c f (All-contains (λ (p : Pending). IsGrantedBy Q K l U p.goal) gs (to_be_one e t u) all there))

    pub projections_back : Backs (projection_judge world local limits l opaques Q K) d l (PairsAt d l (suc n))
    projections_back = record {
      pairs = are_pairs d l (suc n);
      closes = λ u w o allowed. level_closes d l listing (suc n) u w o allowed;
      alike = λ S R is. is;
      granted = λ S g is.
          let e = resolved S g.env in
          record {
            universe = is.universe;
            is_fresh = is.is_fresh;
            facts = facts_derive_modulo d l (PairsAt d l (suc n)) (are_pairs d l (suc n)) K traits (universes S) e g.clause.head (resolved S (facts_in is.universe g.clause))
                (facts_more (AreOne Q l (universes S) e) (PairsAt d l (suc n) (universes S) e) (one_above (universes S) e) K l (universes S) e g.clause.head (resolved S (facts_in is.universe g.clause)) is.facts);
          };
      equated = λ S R U L e a b gs sound fits env left right f of after all is.
          sides_equal_modulo (PairsAt d l (suc n) (universes U) (resolved U e)) l (λ t s c. inl c) listing S R U L e a b gs sound fits env left right f of after (holds_there U e gs all) is;
      normal = λ S R L e t u sound fits env known is.
          let f : IsEqualForm Q reads_terms l listing S L e sound fits env t known (u, R) = normalized_equal Q reads_terms l listing S L e sound fits env t known u R is in
          record {
            follows = f.form.follows;
            tree = f.form.tree;
            equal = λ k U after. wider (AreOne Q l (universes U) (resolved U e)) (PairsAt d l (suc n) (universes U) (resolved U e)) (one_above (universes U) (resolved U e)) (f.equal k U after);
          };
    }
