-- Where the principal of an upcast's source is all that is asked of its supertraits: they exist, though none of them is made, and the rules by
-- the principal alone are those by all of them.
use Rattle.std.proofs.Common.{◌≡◌, ◌<◌, ◌==◌, ℕ, suc, Bool, true, false, Option, Some, None, List, [], ◌∷◌, ◌++◌, map, refl, sym, ap, subst, ◌∙◌}
use Rattle.std.specs.Prelude.{IfSome, if◌then◌else◌, ◌||◌, not, option_map, slice_get}
use Rattle.std.specs.List.{filter, flat_map}
use Rattle.std.proofs.lemmas.List.Folds.{list_any-append}
use Rattle.std.proofs.lemmas.Option.{slice_get-map}
use Rattle.ir_trees.specs.declared.decl.definition.AssocKind.TheVariants as A
use Rattle.ir_trees.specs.declared.decl.definition.DefinitionKind.{DefinitionKind}
use Rattle.ir_trees.specs.declared.decl.definition.DefinitionKind.TheVariants as D
use Rattle.ir_trees.specs.declared.ir.heads.ClauseHead.TheVariants as Cl
use Rattle.ir_trees.specs.declared.ir.heads.Head.{Head}
use Rattle.ir_trees.specs.declared.ir.heads.Head.TheVariants as H
use Rattle.ir_trees.specs.declared.ir.heads.PartHead.TheVariants as P
use Rattle.ir_trees.specs.declared.ir.heads.PredHead.TheVariants as PH
use Rattle.ir_trees.specs.declared.ir.kinds.Clause.{Clause}
use Rattle.ir_trees.specs.declared.ir.kinds.Pred.{Pred}
use Rattle.ir_trees.specs.declared.ir.kinds.PredicatePolarity.TheVariants as Polarity
use Rattle.ir_trees.specs.declared.ir.kinds.Ty.{Ty}
use Rattle.ir_trees.specs.Declarations.Context.{Context, definition_of, parameter_kind, sort_of, world}
use Rattle.ir_trees.specs.Declarations.Declaration.{Declaration}
use Rattle.ir_trees.specs.Declarations.Declaring.{place_of, trait_at, trait_place}
use Rattle.ir_trees.specs.Declarations.References.{FitsAmong}
use Rattle.ir_trees.specs.Declarations.Worlds.{TraitSort, child_kinds, joined, kinds_of, parameters, parameters_of, sort_number}
use Rattle.ir_trees.specs.Hierarchy.Elaboration.{AreLower, AreSupertraits, Elaborates, IsLower, IsRank, SuperClauses, ended, implied, implied_by, is_there, is_trait_clause, number_listed, step, super_clauses, supers_if, supertraits, trait_of, traits_among, unlisted}
use Rattle.ir_trees.specs.Hierarchy.Supers.{supers_at, supers_of}
use Rattle.ir_trees.specs.Hierarchy.Supertraits.{IsAcyclic, clause_supertrait, declared_supers, head_trait}
use Rattle.ir_trees.specs.Syntax.Trees.{BinderKind, Forest, Kind, Tree, TypeKind}
use Rattle.ir_trees.specs.Syntax.Words.{clause_tree, pred_tree, ty_tree}
use Rattle.ir_trees.specs.Validity.WellFormed.{IsWellFormedTable}
use Rattle.ir_context.proofs.Hierarchy.Elaboration.{has_elaboration}
use Rattle.ir_context.proofs.Hierarchy.ElaborationLaws.{elaboration_begins}
use Rattle.ir_trees.proofs.Instantiation.Folding.{or-left, or-right}
use Rattle.ir_trees.proofs.Kinding.References.{fit-at}
use Rattle.candidate_eval.specs.declared.eval.certainty.Certainty.TheVariants.{Yes}
use Rattle.candidate_eval.specs.Derivations.ImplRules.{TraitGoal}
use Rattle.candidate_eval.specs.Derivations.Rules.{Rule, ask, nested}
use Rattle.candidate_eval.specs.Dynamic.Replacing.{without_first}
use Rattle.candidate_assembly.specs.Laws.BuiltinLaws.{nodes_fit}
use Rattle.candidate_assembly.specs.Laws.SuperLaws.{Each, TakeTheirs, TakesThem}
use Rattle.candidate_assembly.proofs.Objects.SuperLaws.{bounds_take, each_of_both, filtered_each, unlisted_each}
use Rattle.candidate_assembly.specs.Rules.BuiltinRules.{flag_of_trait, misc}
use Rattle.candidate_assembly.specs.Rules.DynBounds.{ArePrincipalSupers, AreSupersOf, auto_of, bound_said, bounds_in, clause_head_by, first_listed, is_principal, principal_in, region_in}
use Rattle.candidate_assembly.specs.Rules.Unsizing.{Met, autos, bound_met, bounds_met, dyn_to_dyn, keeps_principal, met_by, outlives, unmet, upcast_rule, upcasts}
use Rattle.candidate_assembly.specs.Calls.Upcasting.{ServeAsSupers, lacks_auto, lacks_autos, names_by, principal_said}
use Rattle.candidate_assembly.proofs.Upcasting.UpcastAutos.{bounds-list}
use Rattle.candidate_assembly.proofs.Upcasting.UpcastParts.{dynamic-fits}

-- The super clauses of what is declared as a trait are ranked.

abbrev declared_clauses : Context → SuperClauses
declared_clauses c i = map (clause_tree c.trees) (declared_supers c.contents (slice_get c.declarations i))

all-lower : (ts : List Tree) (rank : ℕ → ℕ) (n : ℕ) (xs : List Clause) → ((k j : ℕ) → slice_get (map (clause_supertrait ts) xs) k ≡ Some (Some j) → rank j < n) → AreLower rank n (map (clause_tree ts) xs)
all-lower ts rank n [] f = tt
all-lower ts rank n (x ∷ xs) f = (here (head_trait (clause_tree ts x).head) refl, all-lower ts rank n xs (λ k j e. f (suc k) j e))
  where
    here : (o : Option ℕ) → head_trait (clause_tree ts x).head ≡ o → IsLower rank n (head_trait (clause_tree ts x).head)
    here None q = subst (IsLower rank n) (sym q) tt
    here (Some j) q = subst (IsLower rank n) (sym q) (f 0 j (ap (λ (o : Option ℕ). Some o) q))

ranked : (c : Context) (a : IsAcyclic c) → IsRank (declared_clauses c) a.rank
ranked c a = record { lower = λ i. all-lower c.trees a.rank (a.rank i) (declared_supers c.contents (slice_get c.declarations i)) (λ k j e. a.falls i j (record { place = k; named = e })) }

-- These are the super clauses of each trait that is declared.

abbrev IsAsDeclared : Context → ℕ → Type 0
IsAsDeclared c n = super_clauses c n ≡ declared_clauses c n

of-kind : (c : Context) (k : DefinitionKind) (ps ks : List Kind) → (if sort_number (sort_of k) == sort_number TraitSort then Some ps else None) ≡ Some ks → supers_at (slice_get c.contents.traits (trait_place k)) ≡ supers_of c.contents k
of-kind c (D.Trait flags p) ps ks e = refl
of-kind c (D.Assoc of A.Type sized p) ps ks e = absurd cc
of-kind c (D.Assoc of A.Const sized p) ps ks e = absurd cc
of-kind c _ ps ks e = absurd cc

as-declared : (c : Context) (n : ℕ) (ks : List Kind) → parameters (world c) TraitSort n ≡ Some ks → IsAsDeclared c n
as-declared c n ks p = ap (map (clause_tree c.trees)) (of (slice_get c.declarations n) refl)
  where
    there : parameters_of TraitSort (option_map definition_of (slice_get c.declarations n)) ≡ Some ks
    there = sym (ap (parameters_of TraitSort) (slice_get-map definition_of c.declarations n)) ∙ p

    of : (o : Option Declaration) → slice_get c.declarations n ≡ o
        → supers_at (slice_get c.contents.traits (place_of trait_place (slice_get c.declarations n))) ≡ declared_supers c.contents (slice_get c.declarations n)
    of None q = let no : None ≡ Some ks = sym (ap (λ (o : Option Declaration). parameters_of TraitSort (option_map definition_of o)) q) ∙ there in absurd cc
    of (Some d) q =
        subst (λ (o : Option Declaration). supers_at (slice_get c.contents.traits (place_of trait_place o)) ≡ declared_supers c.contents o) (sym q)
        (of-kind c d.kind (map parameter_kind d.parameters) ks (sym (ap (λ (o : Option Declaration). parameters_of TraitSort (option_map definition_of o)) q) ∙ there))

-- What fits the world speaks of such traits.

abbrev NamesDeclared : Context → Head → Type 0
NamesDeclared c h = IfSome (trait_of h) (IsAsDeclared c)

abbrev IsNamed : Context → Tree → Type 0
IsNamed c t = NamesDeclared c t.head

module _ (c : Context) (w : IsWellFormedTable c) where
  takes-declared : (n : ℕ) (o : Option (List Kind)) (ks : List Kind) → parameters (world c) TraitSort n ≡ o → joined (Some (BinderKind ∷ [])) o ≡ Some ks → IsAsDeclared c n
  takes-declared n None ks q e = absurd cc
  takes-declared n (Some ps) ks q e = as-declared c n ps q

  says-declared : (n : ℕ) (o : Option (List Kind)) (ks : List Kind) → parameters (world c) TraitSort n ≡ o → joined (Some (BinderKind ∷ [])) (joined (Some (TypeKind ∷ [])) o) ≡ Some ks → IsAsDeclared c n
  says-declared n None ks q e = absurd cc
  says-declared n (Some ps) ks q e = as-declared c n ps q

  fitting-names : (h : Head) (below : Forest) → (let u : Tree = record { head = h; children = below } in FitsAmong (world c) u) → NamesDeclared c h
  fitting-names (H.Part (P.Clause (Cl.Trait i p))) below f = says-declared i.0 (parameters (world c) TraitSort i.0) (kinds_of below) refl f.0
  fitting-names _ below f = tt

  clauses-named : (xs : List Clause) → Each (IsNamed c) (map (clause_tree c.trees) xs)
  clauses-named [] = tt
  clauses-named (x ∷ xs) =
      let u = clause_tree c.trees x in
      (fitting-names u.head u.children (fit-at (world c) c.trees (nodes_fit c w) x.0), clauses-named xs)

  -- what is implied has the heads of super clauses
  implied-names : (u : Tree) (xs : List Clause) → Each (IsNamed c) (map (implied u) (map (clause_tree c.trees) xs))
  implied-names u [] = tt
  implied-names u (x ∷ xs) = let all = clauses-named (x ∷ xs) in (all.0, implied-names u xs)

  said-names : (h : Head) (ks : List Kind) → child_kinds (world c) h ks ≡ Some ks → NamesDeclared c (clause_head_by h)
  said-names (H.Part (P.Pred (PH.Trait i))) ks e = takes-declared i.0 (parameters (world c) TraitSort i.0) ks refl e
  said-names (H.Part (P.Pred (PH.AutoTrait i))) ks e = takes-declared i.0 (parameters (world c) TraitSort i.0) ks refl e
  said-names (H.Part (P.Clause (Cl.Trait i p))) ks e = says-declared i.0 (parameters (world c) TraitSort i.0) ks refl e
  said-names _ ks e = tt

  first-names : (bs : List Tree) → TakeTheirs (world c) bs → IfSome (first_listed bs) (λ b. NamesDeclared c (clause_head_by b.head))
  first-names [] a = tt
  first-names (b ∷ bs) a = said-names b.head (kinds_of b.children) a.0

  -- So an elaboration by the one is one by the other.

  held-trait : (h : Head) → NamesDeclared c h → IfSome (head_trait h) (IsAsDeclared c)
  held-trait (H.Part (P.Clause (Cl.Trait i Polarity.Positive))) f = f
  held-trait _ f = tt

  implied-same : (u : Tree) (o : Option ℕ) → IfSome o (IsAsDeclared c) → map (implied u) (supers_if (super_clauses c) o) ≡ map (implied u) (supers_if (declared_clauses c) o)
  implied-same u None f = refl
  implied-same u (Some n) f = ap (map (implied u)) f

  implied-named : (u : Tree) (o : Option ℕ) → Each (IsNamed c) (map (implied u) (supers_if (super_clauses c) o))
  implied-named u None = tt
  implied-named u (Some n) = implied-names u (supers_at (trait_at c n))

  walk : {walked left all : List Tree} → Elaborates (declared_clauses c) walked left all → Each (IsNamed c) walked → Each (IsNamed c) left → Elaborates (super_clauses c) walked left all
  walk ended a b = ended
  walk {walked} (step {left = left} {all = all} {t = u} e) a b =
      let same : implied_by (super_clauses c) u ≡ implied_by (declared_clauses c) u = implied-same u (head_trait u.head) (held-trait u.head b.0) in
      let more : Each (IsNamed c) (implied_by (declared_clauses c) u) = subst (Each (IsNamed c)) same (implied-named u (head_trait u.head)) in
      let seen = walked ++ u ∷ left in
      let rest = each_of_both (IsNamed c) left (unlisted seen (implied_by (declared_clauses c) u)) b.1 (unlisted_each (IsNamed c) seen (implied_by (declared_clauses c) u) more) in
      let r = walk e (each_of_both (IsNamed c) walked (u ∷ []) a (b.0, tt)) rest in
      step (subst (λ (ts : List Tree). Elaborates (super_clauses c) (walked ++ u ∷ []) (left ++ unlisted seen ts) all) (sym same) r)

-- A clause has supertraits, and is the first of them if it says whether a trait holds.

supertraits-exist : (c : Context) → IsWellFormedTable c → (u : Tree) → NamesDeclared c u.head → (ts : List Tree) × AreSupertraits c u ts
unfolding IsWellFormedTable
supertraits-exist c w u f =
    let e = has_elaboration (declared_clauses c) w.supertraits.rank (ranked c w.supertraits) [] (u ∷ []) in
    (supertraits e.all, record { all = e.all; elaborated = walk c w e.elaborates tt (f, tt); are = refl })

supertraits-begin : (c : Context) (u : Tree) (ts : List Tree) → is_trait_clause u ≡ true → AreSupertraits c u ts → first_listed ts ≡ Some u
supertraits-begin c u ts t s =
    let b = elaboration_begins s.elaborated in
    let test : Tree → Bool = λ v. is_there (trait_of v.head) in
    ap first_listed s.are
    ∙ (ap (λ (all : List Tree). first_listed (supertraits all)) b.is ∙ ap (λ x. first_listed (if x then u ∷ filter test b.more else filter test b.more)) t)

-- The principal is what its head says.

filtered-first : (test : Tree → Bool) (ts : List Tree) → IfSome (first_listed (filter test ts)) (λ b. test b ≡ true)
filtered-first test [] = tt
filtered-first test (t ∷ ts) = at (test t) refl (filtered-first test ts)
  where
    at : (b : Bool) → test t ≡ b → IfSome (first_listed (filter test ts)) (λ u. test u ≡ true) → IfSome (first_listed (if b then t ∷ filter test ts else filter test ts)) (λ u. test u ≡ true)
    at true e more = e
    at false e more = more

said-trait : (h : Head) → is_principal h ≡ true → is_there (trait_of (clause_head_by h)) ≡ true
said-trait (H.Part (P.Pred (PH.Trait i))) e = refl
said-trait _ e = absurd cc

-- Where the source's own bounds name each auto trait that the target's do, the supertraits don't matter.

own-autos : (c : Context) (supers sources : List Tree) (n : ℕ) → number_listed (flat_map (λ b. auto_of b.head) sources) n ≡ true → number_listed (autos c supers sources) n ≡ true
own-autos c supers sources n e =
    let others = filter (flag_of_trait (λ f. f.auto) c) (traits_among [] supers) in
    list_any-append (λ m. m == n) (flat_map (λ b. auto_of b.head) sources) others ∙ ap (λ b. b || number_listed others n) e

bound-same : (c : Context) (ts supers others : List Tree) (sources : List Pred) (principal : Option Tree) (n : ℕ) (target : Tree) (h : Head) → lacks_auto (names_by ts sources) h ≡ false
    → bound_met c supers (map (pred_tree ts) sources) principal n target h ≡ bound_met c others (map (pred_tree ts) sources) principal n target h
bound-same c ts supers others sources principal n target (H.Part (P.Pred (PH.AutoTrait i))) e =
    let own = bounds-list i.0 ts sources ∙ is-so (names_by ts sources i.0) e in
    ap (λ b. if b then met_by [] n else unmet n) (own-autos c supers (map (pred_tree ts) sources) i.0 own ∙ sym (own-autos c others (map (pred_tree ts) sources) i.0 own))
  where
    is-so : (b : Bool) → not b ≡ false → b ≡ true
    is-so true q = refl
    is-so false q = absurd cc
bound-same c ts supers others sources principal n target _ e = refl

bounds-same : (c : Context) (ts supers others : List Tree) (sources : List Pred) (principal : Option Tree) (n : ℕ) (targets : List Pred) → lacks_autos ts sources targets ≡ false
    → bounds_met c supers (map (pred_tree ts) sources) principal n (map (pred_tree ts) targets) ≡ bounds_met c others (map (pred_tree ts) sources) principal n (map (pred_tree ts) targets)
bounds-same c ts supers others sources principal n [] e = refl
bounds-same c ts supers others sources principal n (x ∷ xs) e =
    let t = pred_tree ts x in
    let ss = map (pred_tree ts) sources in
    let met = bound_met c others ss principal n t t.head in
    ap (λ (m : Met). m.steps ++ bounds_met c supers ss principal m.next (map (pred_tree ts) xs)) (bound-same c ts supers others sources principal n t t.head (or-left _ _ e))
    ∙ ap (λ us. met.steps ++ us) (bounds-same c ts supers others sources principal met.next xs (or-right _ _ e))

-- The rules by the principal alone.

module _ (c : Context) (w : IsWellFormedTable c) (from to : Tree) (sources targets : List Pred) (own : map (pred_tree c.trees) sources ≡ bounds_in from) (asked : map (pred_tree c.trees) targets ≡ bounds_in to)
    (keeps : keeps_principal (principal_in from) (principal_in to) ≡ true) (names : lacks_autos c.trees sources targets ≡ false) where
  steps-same : (ts us : List Tree) → first_listed ts ≡ first_listed us → bounds_met c ts (bounds_in from) (first_listed ts) 0 (bounds_in to) ≡ bounds_met c us (bounds_in from) (first_listed us) 0 (bounds_in to)
  steps-same ts us e =
      subst (λ (bs : List Tree). bounds_met c ts bs (first_listed ts) 0 (bounds_in to) ≡ bounds_met c us bs (first_listed ts) 0 (bounds_in to)) own
      (subst (λ (bs : List Tree). bounds_met c ts (map (pred_tree c.trees) sources) (first_listed ts) 0 bs ≡ bounds_met c us (map (pred_tree c.trees) sources) (first_listed ts) 0 bs) asked (bounds-same c c.trees ts us sources (first_listed ts) 0 targets names))
      ∙ ap (λ (p : Option Tree). bounds_met c us (bounds_in from) p 0 (bounds_in to)) e

  rule-same : (ts us : List Tree) → first_listed ts ≡ first_listed us → (g : TraitGoal) → dyn_to_dyn c ts g from to ≡ dyn_to_dyn c us g from to
  rule-same ts us e g =
      let steps = steps-same ts us e in
      let rules : upcast_rule c ts g misc from to (first_listed ts) ≡ upcast_rule c us g misc from to (first_listed us)
      = λ j. record {
        env = g.env;
        applies = true;
        steps = steps j ++ nested (outlives Cl.RegionOutlives (region_in from) (region_in to) ∷ []);
        ending = ask misc Yes;
      } in
      ap (λ b. if b then upcast_rule c ts g misc from to (first_listed ts) ∷ [] else upcasts c ts g from to 1 (without_first ts)) keeps
      ∙ (ap (λ (r : Rule). r ∷ []) rules ∙ sym (ap (λ b. if b then upcast_rule c us g misc from to (first_listed us) ∷ [] else upcasts c us g from to 1 (without_first us)) keeps))

  serves : (o : Option Tree) → principal_in from ≡ o → IfSome o (λ b. NamesDeclared c (clause_head_by b.head)) → IfSome o (λ b. is_principal b.head ≡ true) → ServeAsSupers c from to (principal_said from o)
  serves None q n p = record { supers = []; are = subst (λ (o : Option Tree). AreSupersOf c from o []) (sym q) refl; same = λ g. refl }
  serves (Some b) q n p =
      let u = bound_said from b in
      let all = supertraits-exist c w u n in
      record {
        supers = all.0;
        are = subst (λ (o : Option Tree). AreSupersOf c from o all.0) (sym q) all.1;
        same = rule-same (u ∷ []) all.0 (sym (supertraits-begin c u all.0 (said-trait b.head p) all.1));
      }

pub principal-serves : (c : Context) → IsWellFormedTable c → (t : Ty) (to : Tree) (sources targets : List Pred) (us : List Tree) → (let from = ty_tree c.trees t in from.head ≡ H.Dynamic → map (pred_tree c.trees) sources ≡ bounds_in from
    → map (pred_tree c.trees) targets ≡ bounds_in to → keeps_principal (principal_in from) (principal_in to) ≡ true → lacks_autos c.trees sources targets ≡ false → us ≡ principal_said from (principal_in from) → ServeAsSupers c from to us)
principal-serves c w t to sources targets us dynamic own asked keeps names are =
    let from = ty_tree c.trees t in
    let fits = bounds_take (world c) from (dynamic-fits (world c) from dynamic (fit-at (world c) c.trees (nodes_fit c w) t.0)) in
    let test : Tree → Bool = λ b. is_principal b.head in
    subst (ServeAsSupers c from to) (sym are)
    (serves c w from to sources targets own asked keeps names (principal_in from) refl (first-names c w (filter test (bounds_in from)) (filtered_each (TakesThem (world c)) test (bounds_in from) fits)) (filtered-first test (bounds_in from)))

-- All supertraits serve.
pub all-serve : (c : Context) (from to : Tree) (ts : List Tree) → ArePrincipalSupers c from ts → ServeAsSupers c from to ts
all-serve c from to ts are = record { supers = ts; are = are; same = λ g. refl }
