-- Common instances of two headers: with fresh variables for the parameters, a substitution that maps these to the arguments makes the instance.
use Rattle.std.proofs.Common.{◌≡◌, ℕ, false, List, [], ◌∷◌, length, map, Option, Some, refl, sym, ap, subst, ◌∙◌}
use Rattle.std.specs.Prelude.{IfSome}
use Rattle.ir_trees.specs.declared.decl.contents.ImplId.{ImplId}
use Rattle.ir_trees.specs.declared.ir.kinds.VarKind.{VarKind}
use Rattle.ir_trees.specs.declared.ir.kinds.VarKind.TheVariants as P
use Rattle.ir_trees.specs.Declarations.Contents.{Impl}
use Rattle.ir_trees.specs.Declarations.Context.{Context, parameter_kind}
use Rattle.ir_trees.specs.Declarations.Declaring.{impl_at}
use Rattle.ir_trees.specs.Declarations.Lookups.{maybe}
use Rattle.ir_trees.specs.Declarations.Worlds.{kinds_of}
use Rattle.ir_trees.specs.Instantiation.Folding.{lacks_argument, substituted}
use Rattle.ir_trees.specs.Instantiation.Owned.{ImplIsOwned}
use Rattle.ir_trees.specs.Syntax.Trees.{Forest, Kind, erase, holds, kind_of}
use Rattle.ir_trees.specs.Unification.Substitutions.{IsAllowed, Universes, apply, is_made}
use Rattle.ir_trees.specs.Validity.WellFormed.{ImplIsGiven, IsWellFormedTable}
use Rattle.ir_context.proofs.Instantiation.Declared.{impl_owned}
use Rattle.ir_context.proofs.Validity.Given.{impl_given}
use Rattle.candidate_eval.specs.Judges.Soundness.{universe_in, universes}
use Rattle.candidate_eval.specs.Judges.States.{State, fresh_variables, variable, variable_kind, with_fresh}
use Rattle.candidate_assembly.specs.Answers.KnownImpls.{header_at, header_of, kinds_of_impl}
use Rattle.candidate_assembly.proofs.Refusals.KnownFresh.{fresh-there, fresher}
use Rattle.candidate_assembly.proofs.Refusals.KnownHeaders.{fresh-closed, header-bare}
use Rattle.rounds_judge.specs.Aliases.Listed.{Listing}
use Rattle.rounds_judge.specs.Equations.Standing.{IsListing}
use Rattle.overlaps.specs.Apart.{AreApart, AreArguments, HaveCommonInstance, header_with, with_listed}
use Rattle.overlaps.proofs.Arguments.{AreIn, instance-filled, mapping, mapping-allowed, mapping-arguments}
use Rattle.overlaps.proofs.Readings.{itself_reads, read_itself}
use Rattle.overlaps.proofs.ListedHeaders.{listed-bare, listed-fresh, listed-has}

-- A common instance of the one and of the other is one of the other and of the one; so what is apart is so in both orders.

pub instance-symmetric : (c : Context) (l : Listing) (u : ℕ) (i j : Impl) → HaveCommonInstance c l u i j → HaveCommonInstance c l u j i
instance-symmetric c l u i j h = record {
  same_trait = sym h.same_trait;
  first = h.second;
  second = h.first;
  first_are = h.second_are;
  second_are = h.first_are;
  reading = h.reading;
  is_reading = h.is_reading;
  equal = sym h.equal;
}

pub apart-symmetric : (c : Context) (l : Listing) (S : State) (i j : Impl) → AreApart c l S i j → AreApart c l S j i
apart-symmetric c l S i j apart h = apart (instance-symmetric c l S.newest_universe j i h)

-- Where no listed alias stands in the headers, no arguments make these equal as they are given: an alias may be itself.
pub apart-as-given : (c : Context) (l : Listing) (S : State) (i j : Impl) → AreApart c l S i j → with_listed l (header_of c i) ≡ header_of c i → with_listed l (header_of c j) ≡ header_of c j
    → i.trait_ref.def_id ≡ j.trait_ref.def_id → (first second : Forest) → AreArguments S.newest_universe (kinds_of_impl i) first → AreArguments S.newest_universe (kinds_of_impl j) second
    → erase (substituted first 0 (header_of c i)) ≡ erase (substituted second 0 (header_of c j)) → ⊥
apart-as-given c l S i j apart one other same first second first_are second_are equal =
    apart
    (record {
      same_trait = same;
      first = first;
      second = second;
      first_are = first_are;
      second_are = second_are;
      reading = λ t. t;
      is_reading = itself_reads S.newest_universe;
      equal =
          ap erase (read_itself 0 (header_with c l i first)) ∙ (ap (λ f. erase (substituted first 0 f)) one
          ∙ (equal ∙ sym (ap erase (read_itself 0 (header_with c l j second)) ∙ ap (λ f. erase (substituted second 0 f)) other)));
    })

-- Fresh variables for parameters of these kinds are of the kinds.

kind-fresh : (p : VarKind) (n : ℕ) → kind_of (variable (variable_kind (parameter_kind p)) n).head ≡ parameter_kind p
kind-fresh P.Ty n = refl
kind-fresh P.Const n = refl
kind-fresh P.Region n = refl

kinds-fresh : (S : State) (ps : List VarKind) → kinds_of (fresh_variables S (map parameter_kind ps)) ≡ map parameter_kind ps
kinds-fresh S [] = refl
kinds-fresh S (p ∷ ps) =
    let ks = map parameter_kind ps in
    ap (λ k. k ∷ kinds_of (fresh_variables (with_fresh S (variable_kind (parameter_kind p))) ks)) (kind-fresh p (length S.variables))
    ∙ ap (λ xs. parameter_kind p ∷ xs) (kinds-fresh (with_fresh S (variable_kind (parameter_kind p))) ps)

-- The header of a declared impl: with fresh variables for its parameters, and with arguments for them.
module _ (c : Context) (table : IsWellFormedTable c) (n : ImplId) (i : Impl) (is : impl_at c n ≡ Some i) where
  -- the kinds of its parameters
  abbrev wanted : List Kind
  wanted = kinds_of_impl i

  owned : (ts : Forest) → kinds_of ts ≡ wanted → holds (lacks_argument ts) (header_of c i) ≡ false
  owned ts k =
      let given : ImplIsGiven c i = subst (λ (o : Option Impl). IfSome o (ImplIsGiven c)) is (impl_given c table n) in
      let kinds = k ∙ ap (λ (o : Option Impl). map parameter_kind (maybe [] (λ (x : Impl). x.parameters) o)) (sym is) in
      let it : ImplIsOwned c.trees ts i = impl_owned c table n ts kinds (Some i) (sym is) given in
      it.have

  module _ (l : Listing) (listing : IsListing l) where
    -- its aliases are listed all the same with fresh variables for its parameters
    pub listed-opened : (S : State) → with_listed l (header_at c S i).arguments ≡ substituted (fresh_variables S wanted) 0 (with_listed l (header_of c i))
    listed-opened S = listed-fresh l listing S wanted (header_of c i) (owned (fresh_variables S wanted) (kinds-fresh S i.parameters))

    pub header-listed-bare : holds is_made (with_listed l (header_of c i)) ≡ false
    header-listed-bare = listed-bare l listing (header_of c i) (header-bare c table n i is)

    -- a substitution that maps the variables to the arguments makes an instance of the header of them
    pub with-arguments : (S : State) (u : ℕ) (ts : Forest) → AreArguments u wanted ts
        → apply (mapping (length S.variables) ts) (substituted (fresh_variables S wanted) 0 (with_listed l (header_of c i))) ≡ header_with c l i ts
    with-arguments S u ts a =
        instance-filled (mapping (length S.variables) ts) (fresh_variables S wanted) ts (fresh-closed S wanted) a.are_closed (mapping-arguments S wanted ts a.kinds) 0 (with_listed l (header_of c i))
        header-listed-bare (listed-has l listing ts (header_of c i) (owned ts a.kinds))

  pub arguments-allowed : (universe : Universes) (S : State) (u : ℕ) (ts : Forest) → AreArguments u wanted ts → AreIn universe u (length S.variables) wanted
      → IsAllowed universe (mapping (length S.variables) ts)
  arguments-allowed universe S u ts a at = mapping-allowed universe u (length S.variables) i.parameters ts a.kinds a.are_closed a.in_universe at

-- Fresh variables of a state are of its newest universe.

pub fresh-in : (S : State) (ks : List Kind) → AreIn (universes (fresher S ks)) S.newest_universe (length S.variables) ks
fresh-in S ks j k z e = ap universe_in (fresh-there S (λ n. false) ks j k e)

pub all-in : (u n : ℕ) (ks : List Kind) → AreIn (λ v. u) u n ks
all-in u n ks j k z e = refl
