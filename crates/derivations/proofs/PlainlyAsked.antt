-- Where what is declared asks plainly, what an object has to fulfil is ordinary.
use Rattle.std.proofs.Common.{◌≤◌, ◌||◌, ◌≡◌, ◌+◌, ℕ, zero, suc, Bool, true, false, not, ◌&&◌, nat_lt, Option, Some, None, List, [], ◌∷◌, ◌++◌, map, refl, sym, ap, subst, ◌∙◌, arith, slice_get, if◌then◌else◌}
use Rattle.std.specs.Prelude.{IfSome, option_map, ◌==◌}
use Rattle.std.specs.List.{All, Contains, filter, list_any}
use Rattle.std.proofs.lemmas.List.Elements.{All-append, All-cons, All-contains, All-head, All-nil, All-tail}
use Rattle.std.proofs.lemmas.Bool.{lt-ltb}
use Rattle.std.proofs.lemmas.Option.{slice_get-map}
use Rattle.ir_trees.specs.declared.decl.definition.AssocKind.TheVariants as A
use Rattle.ir_trees.specs.declared.decl.definition.DefinitionKind.{DefinitionKind}
use Rattle.ir_trees.specs.declared.decl.definition.DefinitionKind.TheVariants as D
use Rattle.ir_trees.specs.declared.decl.definition.TraitFlags.{TraitFlags}
use Rattle.ir_trees.specs.declared.ir.heads.ConstHead.TheVariants as C
use Rattle.ir_trees.specs.declared.ir.heads.ClauseHead.{ClauseHead}
use Rattle.ir_trees.specs.declared.ir.heads.ClauseHead.TheVariants as Cl
use Rattle.ir_trees.specs.declared.ir.heads.Head.{Head}
use Rattle.ir_trees.specs.declared.ir.heads.Head.TheVariants as H
use Rattle.ir_trees.specs.declared.ir.heads.ListHead.{ListHead}
use Rattle.ir_trees.specs.declared.ir.heads.ListHead.TheVariants as LH
use Rattle.ir_trees.specs.declared.ir.heads.PartHead.TheVariants as P
use Rattle.ir_trees.specs.declared.ir.heads.PredHead.TheVariants as PH
use Rattle.ir_trees.specs.declared.ir.heads.VariableSort.{VariableSort}
use Rattle.ir_trees.specs.declared.ir.heads.VariableSort.TheVariants as VS
use Rattle.ir_trees.specs.declared.ir.kinds.AssocId.{AssocId}
use Rattle.ir_trees.specs.declared.ir.kinds.Clause.{Clause}
use Rattle.ir_trees.specs.declared.ir.kinds.PredicatePolarity.TheVariants as Pol
use Rattle.ir_trees.specs.declared.ir.kinds.VarKind.{VarKind}
use Rattle.ir_trees.specs.declared.ir.kinds.VarKind.TheVariants as VK
use Rattle.ir_trees.specs.Declarations.Contents.{TraitContents}
use Rattle.ir_trees.specs.Declarations.Context.{Context, definition_of, parameter_kind, sort_of, world}
use Rattle.ir_trees.specs.Declarations.Declaration.{Declaration}
use Rattle.ir_trees.specs.Declarations.Declaring.{place_of, trait_at, trait_place}
use Rattle.ir_trees.specs.Declarations.Lookups.{assoc_trait, definition}
use Rattle.ir_trees.specs.Declarations.References.{FitsAmong}
use Rattle.ir_trees.specs.Declarations.Worlds.{AssociatedTypeSort, TraitSort, World, child_kinds, clause_kinds, joined, kinds_of, parameters, parameters_of, sort_number}
use Rattle.ir_trees.specs.Hierarchy.Elaboration.{Elaborates, IsElaboration, ended, first_children, implied, implied_by, is_there, renumbered, step, super_clauses, supers_if, trait_of, under_binder, unlisted, variables_of}
use Rattle.ir_trees.specs.Hierarchy.Supers.{after_first, has_wrong_super, head_says_of_type, is_no_super, is_self, is_super_clause, subject, supers_at}
use Rattle.ir_trees.specs.Hierarchy.Supertraits.{head_trait}
use Rattle.ir_trees.specs.Instantiation.Folding.{argument, lacks_argument, substituted, substituted_tree}
use Rattle.ir_trees.specs.Instantiation.Opening.{is_bound_variable, opened}
use Rattle.ir_trees.specs.Syntax.Binders.{escapes}
use Rattle.ir_trees.specs.Syntax.Nodes.{kind_at}
use Rattle.ir_trees.specs.Syntax.Trees.{BinderKind, ClauseKind, Forest, Kind, PredicateKind, Tree, TypeKind, binders_of, count, holds, is_param, is_type, is_type_kind, join, kind_of, list_kind, none, sort_kind, tree, tree_holds}
use Rattle.ir_trees.specs.Syntax.Words.{ClauseListFits, clause_tree}
use Rattle.ir_trees.specs.Unification.Substitutions.{alone, is_constant_kind}
use Rattle.ir_trees.specs.Validity.Held.{definitions_held, held_clause, held_clauses, impls_held, trait_held}
use Rattle.ir_trees.specs.Validity.Faults.{all_that_is_held, has_wrong_value}
use Rattle.ir_trees.specs.Validity.Misplaced.{has_self, held_escapes, kinds_of_declared, kinds_of_owner, with_self}
use Rattle.ir_trees.specs.Validity.WellFormed.{IsWellFormedTable}
use Rattle.ir_context.proofs.Hierarchy.Walking.{all_supers_fit}
use Rattle.ir_trees.proofs.Instantiation.Folding.{or-left, or-right}
use Rattle.ir_folds.proofs.Instantiation.Joining.{binder-head}
use Rattle.ir_context.proofs.Instantiation.Owned.{none-past-them, none-stray, owned-tree}
use Rattle.ir_trees.proofs.Kinding.References.{fit-at}
use Rattle.ir_trees.proofs.Syntax.Rows.{kind-of}
use Rattle.ir_context.proofs.Validity.WellFormed.{any-of, definition-passes}
use Rattle.candidate_eval.specs.declared.eval.source.BuiltinImplSource.TheVariants.{Misc, Object}
use Rattle.candidate_eval.specs.declared.eval.source.CandidateSource.TheVariants.{BuiltinImpl}
use Rattle.candidate_eval.specs.Builtins.Callable.{all_but_last}
use Rattle.candidate_eval.specs.Dynamic.ObjectRequirements.{first_tree}
use Rattle.candidate_eval.specs.Dynamic.Replacing.{item_of, starts_with}
use Rattle.candidate_eval.specs.Judges.States.{is_some}
use Rattle.candidate_eval.specs.Dynamic.Required.{AreRequirements, each_of, own_bounds, required_bounds, with_arguments}
use Rattle.candidate_eval.proofs.Builtins.PartsFree.{put-parameterless}
use Rattle.candidate_eval.proofs.Dynamic.Requiring.{all_there}
use Rattle.candidate_eval.proofs.Marks.Closed.{after-closed, binder-one, closed, closed-on, closed-parts}
use Rattle.candidate_eval.proofs.Marks.Holds.{holds_imply, holds_parts, or_false}
use Rattle.candidate_eval.proofs.Marks.Marking.{after-unmarked, alone-unmarked, unmarked}
use Rattle.candidate_assembly.specs.Goals.Kinds.{arguments_by}
use Rattle.candidate_assembly.specs.Goals.Projections.{trait_number}
use Rattle.candidate_assembly.specs.Laws.BuiltinLaws.{nodes_fit}
use Rattle.candidate_assembly.specs.Laws.Given.{IsCounted}
use Rattle.candidate_assembly.specs.Laws.SuperLaws.{Each, IsFitting, TakeTheirs}
use Rattle.candidate_assembly.specs.Rules.DynBounds.{ArePrincipalSupers, AreSupersOf, bound_said, bounds_in, first_listed, is_dynamic, is_principal, principal_in}
use Rattle.candidate_assembly.specs.Rules.ObjectBounds.{OwnClause, numbered, own_clause, own_clauses, speaks_of_trait, trait_by}
use Rattle.candidate_assembly.proofs.Objects.ObjectFollowing.{dynamic-head}
use Rattle.candidate_assembly.proofs.Objects.ObjectLaws.{IsPredicate, are_predicates, dynamic_bounds, no_list, no_variable}
use Rattle.candidate_assembly.proofs.Objects.ObjectPlain.{ArePlain, Free, IsPlain, head-vars, implied-free, own-plain}
use Rattle.candidate_assembly.proofs.Objects.SuperLaws.{bounds_take, each_of_both, filtered_each, unlisted_each}
use Rattle.candidate_assembly.proofs.Sense.SenseShifts.{put-closed}
use Rattle.candidate_assembly.proofs.Sense.SenseClauses.{clause-filled}
use Rattle.derivations.specs.Ordinary.{AreBare, AsksPlainly, IsObjectType, IsOrdinary, IsUnbound, NamesThoseOf, ObjectsAreOrdinary, TypeIsOrdinary, is_another, is_of_kind, names_others}
use Rattle.derivations.proofs.OpenProjections.{after_size, but_last_closed, but_last_shut, but_last_size, closed_stays, filled_closed, filled_first, filled_kinds, filled_opened, filled_shut, first_shut, join_shut, open_in, opened_but_last, opened_closed, opened_kinds, opened_size, own_are_closed, after_shut, shut, shut_parts, size, small_shut, unbound_closed, unbound_renumbered, unbound_shut}

-- Clauses have a binder first, and under it what their heads take.

record Form (w : World) (t : Tree) : Type 0 where
  said : ClauseHead
  head : t.head ≡ H.Part (P.Clause said)
  row : t.children ≡ tree (H.Part P.Vars) (variables_of t) (under_binder t)
  kinds : clause_kinds w said ≡ Some (kinds_of (under_binder t))

-- a binder comes first
no-row : (o : Option (List Kind)) → joined (Some (BinderKind ∷ [])) o ≡ Some [] → ⊥
no-row None e = cc
no-row (Some ks) e = cc

-- and then what the head takes
record AfterBinder (o : Option (List Kind)) (k : Kind) (ks : List Kind) : Type 0 where
  first : k ≡ BinderKind
  others : o ≡ Some ks

after-binder : (o : Option (List Kind)) (k : Kind) (ks : List Kind) → joined (Some (BinderKind ∷ [])) o ≡ Some (k ∷ ks) → AfterBinder o k ks
after-binder None k ks e = absurd cc
after-binder (Some js) k ks e = record { first = cc; others = cc }

no-sort : (s : VariableSort) → sort_kind s ≡ ClauseKind → ⊥
no-sort VS.Constant e = absurd cc
no-sort _ e = absurd cc

no-clause-list : (l : ListHead) → list_kind l ≡ ClauseKind → ⊥
no-clause-list LH.Args e = absurd cc
no-clause-list LH.Preds e = absurd cc
no-clause-list LH.Clauses e = absurd cc

-- a clause of the context has that form
declared-form : (w : World) (h : Head) (below : Forest) → kind_of h ≡ ClauseKind → (let u : Tree = record { head = h; children = below } in FitsAmong w u → Form w u)
declared-form w (H.Part (P.Clause k)) none e f = absurd (no-row (clause_kinds w k) f.0)
declared-form w (H.Part (P.Clause k)) (tree g b r) e f =
    let p = after-binder (clause_kinds w k) (kind_of g) (kinds_of r) f.0 in
    record { said = k; head = refl; row = ap (λ (x : Head). tree x b r) (binder-head g p.first); kinds = p.others }
declared-form w (H.Infer v) below e f = absurd (no-sort v.sort e)
declared-form w (H.List l) below e f = absurd (no-clause-list l e)
declared-form w _ below e f = absurd cc

-- The trees are those that a trait takes: a type, and then one of the kind of each parameter.
abbrev ArgumentsFit : Context → ℕ → Forest → Type 0
ArgumentsFit d n F = joined (Some (TypeKind ∷ [])) (parameters (world d) TraitSort n) ≡ Some (kinds_of F)

-- There is an argument for each parameter, of its kind.

record HasArgument (args : Forest) (i : ℕ) (k : VarKind) : Type 0 where
  within : nat_lt i (count args) ≡ true
  kind : kind_of (argument args i).head ≡ parameter_kind k

argument-there : (args : Forest) (ks : List VarKind) (i : ℕ) (k : VarKind) → kinds_of args ≡ map parameter_kind ks → slice_get ks i ≡ Some k → HasArgument args i k
argument-there args [] i k e s = absurd cc
argument-there none (j ∷ ks) i k e s = absurd cc
argument-there (tree h below rest) (j ∷ ks) zero k e s = let same : j ≡ k = cc in record { within = lt-ltb 0 (1 + count rest) (omega arith); kind = cc }
argument-there (tree h below rest) (j ∷ ks) (suc i) k e s =
    let others : kinds_of rest ≡ map parameter_kind ks = cc in
    let r = argument-there rest ks i k others s in
    record { within = more i (count rest) r.within; kind = r.kind }
  where
    more : (m n : ℕ) → nat_lt m n ≡ true → nat_lt (suc m) (1 + n) ≡ true
    more m n e = grind (arith, e)

-- a parameter of that kind is there
of-same-kind : (k : VarKind) (o : Option VarKind) → not (is_of_kind k o) ≡ false → o ≡ Some k
of-same-kind VK.Ty (Some VK.Ty) e = refl
of-same-kind VK.Const (Some VK.Const) e = refl
of-same-kind VK.Region (Some VK.Region) e = refl
of-same-kind VK.Ty (Some VK.Const) e = absurd cc
of-same-kind VK.Ty (Some VK.Region) e = absurd cc
of-same-kind VK.Const (Some VK.Ty) e = absurd cc
of-same-kind VK.Const (Some VK.Region) e = absurd cc
of-same-kind VK.Region (Some VK.Ty) e = absurd cc
of-same-kind VK.Region (Some VK.Const) e = absurd cc
of-same-kind k None e = absurd cc

both-there : (a b : Bool) → a ≡ true → b ≡ true → not (a && b) ≡ false
both-there a b e f = rw (e, f) refl

-- so what names no others lacks no argument
head-has : (F : Forest) (ks : List VarKind) (h : Head) → kinds_of F ≡ map parameter_kind ks → is_another ks h ≡ false → lacks_argument F h ≡ false
head-has F ks (H.Param i) e f =
    let x = argument-there F ks i VK.Ty e (of-same-kind VK.Ty (slice_get ks i) f) in
    both-there (nat_lt i (count F)) (is_type (argument F i).head) x.within (ap is_type_kind x.kind)
head-has F ks (H.Const (C.Param i)) e f =
    let x = argument-there F ks i VK.Const e (of-same-kind VK.Const (slice_get ks i) f) in
    both-there (nat_lt i (count F)) (is_constant_kind (kind_of (argument F i).head)) x.within (ap is_constant_kind x.kind)
head-has F ks _ e f = refl

row-has : (F : Forest) (ks : List VarKind) → kinds_of F ≡ map parameter_kind ks → (ts : Forest) → holds (is_another ks) ts ≡ false → holds (lacks_argument F) ts ≡ false
row-has F ks e ts f = holds_imply (is_another ks) (lacks_argument F) (λ h q. head-has F ks h e q) ts f

module _ (d : Context) where
  -- A trait whose arguments these are.
  record TraitOf (n : ℕ) (F : Forest) : Type 0 where
    declaration : Declaration
    flags : TraitFlags
    place : ℕ
    there : slice_get d.declarations n ≡ Some declaration
    is : declaration.kind ≡ D.Trait flags place
    kinds : kinds_of F ≡ map parameter_kind (VK.Ty ∷ declaration.parameters)

  abbrev trait-if : DefinitionKind → List Kind → Option (List Kind)
  trait-if k ps = if sort_number (sort_of k) == sort_number TraitSort then Some ps else None

  -- arguments that a trait takes are of one that is declared
  trait-of-arguments : (n : ℕ) (F : Forest) → ArgumentsFit d n F → TraitOf n F
  trait-of-arguments n F fit = of (slice_get d.declarations n) refl
    where
      fits : joined (Some (TypeKind ∷ [])) (parameters_of TraitSort (option_map definition_of (slice_get d.declarations n))) ≡ Some (kinds_of F)
      fits = sym (ap (λ o. joined (Some (TypeKind ∷ [])) (parameters_of TraitSort o)) (slice_get-map definition_of d.declarations n)) ∙ fit

      by : (x : Declaration) → slice_get d.declarations n ≡ Some x → (k : DefinitionKind) → x.kind ≡ k → joined (Some (TypeKind ∷ [])) (trait-if k (map parameter_kind x.parameters)) ≡ Some (kinds_of F) → TraitOf n F
      by x q (D.Trait flags place) i e = record { declaration = x; flags = flags; place = place; there = q; is = i; kinds = cc }
      by x q (D.Adt shape flags p) i e = absurd cc
      by x q D.Foreign i e = absurd cc
      by x q (D.Assoc of A.Type sized p) i e = absurd cc
      by x q (D.Assoc of A.Const sized p) i e = absurd cc
      by x q (D.Alias shape) i e = absurd cc
      by x q (D.Opaque hidden p) i e = absurd cc
      by x q (D.Function flags sig) i e = absurd cc
      by x q (D.Closure k) i e = absurd cc

      of : (o : Option Declaration) → slice_get d.declarations n ≡ o → TraitOf n F
      of None q = let no : None ≡ Some (kinds_of F) = sym (ap (λ o. joined (Some (TypeKind ∷ [])) (parameters_of TraitSort (option_map definition_of o))) q) ∙ fits in absurd cc
      of (Some x) q = by x q x.kind refl (sym (ap (λ o. joined (Some (TypeKind ∷ [])) (parameters_of TraitSort (option_map definition_of o))) q) ∙ fits)

  -- what it declares may name `Self` and its parameters
  trait-parameters : (n : ℕ) (F : Forest) (x : TraitOf n F) → kinds_of_declared (slice_get d.declarations n) ≡ Some (VK.Ty ∷ x.declaration.parameters)
  trait-parameters n F x = ap kinds_of_declared x.there ∙ ap (λ (y : DefinitionKind). Some (with_self (has_self y) x.declaration.parameters)) x.is

  -- What names parameters of the trait alone has an argument for each.
  has-arguments : (n : ℕ) (F : Forest) → ArgumentsFit d n F → (t : Tree) → NamesThoseOf d n t → tree_holds (lacks_argument F) t ≡ false
  has-arguments n F fit t named =
      let x = trait-of-arguments n F fit in
      let ks = VK.Ty ∷ x.declaration.parameters in
      let p = or_false (is_another ks t.head) (holds (is_another ks) t.children) (sym (ap (names_others t) (trait-parameters n F x)) ∙ named) in
      let q = head-has F ks t.head x.kinds p.0 in
      let r = row-has F ks x.kinds t.children p.1 in
      rw (q, r) refl

module _ (d : Context) (well : IsWellFormedTable d) where
  -- What two tests find in nothing that is declared they find in no super clause of a trait, whose parameters these have.

  listed-both : (P : Clause → Type 0) (w : _) (f g : _) (ys : List Clause) → list_any f (held_clauses w ys) ≡ false → list_any g (held_clauses w ys) ≡ false → ((y : Clause) → f (held_clause w y) ≡ false → g (held_clause w y) ≡ false → P y) → All P ys
  listed-both P w f g [] a b has = All-nil P
  listed-both P w f g (y ∷ ys) a b has =
      let p = or_false (f (held_clause w y)) (list_any f (held_clauses w ys)) a in
      let q = or_false (g (held_clause w y)) (list_any g (held_clauses w ys)) b in
      All-cons P y ys (has y p.0 q.0) (listed-both P w f g ys p.1 q.1 has)

  held-both : (P : Clause → Type 0) (w : _) (f g : _) (a : TraitContents) → list_any f (trait_held w a) ≡ false → list_any g (trait_held w a) ≡ false → ((y : Clause) → f (held_clause w y) ≡ false → g (held_clause w y) ≡ false → P y) → All P a.supers
  held-both P w f g a e h has = listed-both P w f g a.supers (any-of f (held_clauses w a.supers) (held_clauses w a.wheres) e) (any-of g (held_clauses w a.supers) (held_clauses w a.wheres) h) has

  supers-pass : (P : Clause → Type 0) (f g : _) → list_any f (all_that_is_held d) ≡ false → list_any g (all_that_is_held d) ≡ false → (n : ℕ) (F : Forest) (x : TraitOf d n F)
      → ((w : _) (y : Clause) → kinds_of_owner d.declarations d.contents.impls w ≡ Some (VK.Ty ∷ x.declaration.parameters) → f (held_clause w y) ≡ false → g (held_clause w y) ≡ false → P y) → All P (supers_at (trait_at d n))
  supers-pass P f g e h n F x has = of (trait_at d n) refl
    where
      place : trait_at d n ≡ slice_get d.contents.traits x.place
      place = ap (λ (o : Option Declaration). slice_get d.contents.traits (place_of trait_place o)) x.there ∙ ap (λ (k : DefinitionKind). slice_get d.contents.traits (trait_place k)) x.is

      of : (o : Option TraitContents) → trait_at d n ≡ o → All P (supers_at o)
      of None q = All-nil P
      of (Some a) q =
          let at : slice_get d.contents.traits x.place ≡ Some a = sym place ∙ q in
          let kind = x.is in
          let first = definition-passes f d.contents 0 d.declarations n n x.declaration (any-of f (definitions_held d.contents 0 d.declarations) (impls_held 0 d.contents.impls) e) x.there (omega arith) in
          let second = definition-passes g d.contents 0 d.declarations n n x.declaration (any-of g (definitions_held d.contents 0 d.declarations) (impls_held 0 d.contents.impls) h) x.there (omega arith) in
          let p = rw (kind, at) at first in
          let s = rw (kind, at) at second in
          held-both P _ f g a p s (λ y b c. has _ y (trait-parameters d n F x) b c)

  abbrev Has : Forest → Clause → Type 0
  Has F y = tree_holds (lacks_argument F) (clause_tree d.trees y) ≡ false

  -- So each parameter of a super clause has an argument.
  supers-have : (n : ℕ) (F : Forest) → ArgumentsFit d n F → All (Has F) (supers_at (trait_at d n))
  supers-have n F fit =
      let x = trait-of-arguments d n F fit in
      supers-pass (Has F) _ _ (none-past-them d well) (none-stray d well) n F x
      (λ w y owner past stray. let p = rw owner at past in let q = rw owner at stray in owned-tree F (VK.Ty ∷ x.declaration.parameters) (clause_tree d.trees y) x.kinds p q)

  -- A super clause that arguments can be put into.
  record IsReady (F : Forest) (s : Tree) : Type 0 where
    form : Form (world d) s
    unbound : IsUnbound s
    has : tree_holds (lacks_argument F) s ≡ false
    vars : holds is_param (variables_of s) ≡ false
    self : is_self (subject s) ≡ true

  -- Super clauses speak of `Self`.

  -- of all that is declared
  none-wrong : list_any (λ x. has_wrong_super d.trees d.contents x.kind) d.declarations ≡ false
  unfolding IsWellFormedTable
  none-wrong =
      let hs = all_that_is_held d in
      let wrong = list_any (λ (x : Declaration). has_wrong_super d.trees d.contents x.kind) d.declarations in
      let values = list_any (has_wrong_value d.declarations) d.contents.impls in
      or-left wrong values (or-right (list_any (held_escapes d.trees) hs) (wrong || values) (or-right _ _ well.kinds))

  test-at : {X : Type 0} (f : X → Bool) (xs : List X) (n : ℕ) (x : X) → list_any f xs ≡ false → slice_get xs n ≡ Some x → f x ≡ false
  test-at f [] n x e s = absurd cc
  test-at f (y ∷ ys) zero x e s = let same : x ≡ y = cc in ap f same ∙ or-left (f y) (list_any f ys) e
  test-at f (y ∷ ys) (suc n) x e s = test-at f ys n x (or-right (f y) (list_any f ys) e) s

  super-self : (t : Tree) → not (is_super_clause t) ≡ false → is_self (subject t) ≡ true
  super-self t e = second (head_says_of_type t.head) (is_self (subject t)) e
    where
      second : (a b : Bool) → not (a && b) ≡ false → b ≡ true
      second true true e = refl
      second true false e = absurd cc
      second false b e = absurd cc

  abbrev SaysOfSelf : Clause → Type 0
  SaysOfSelf y = is_self (subject (clause_tree d.trees y)) ≡ true

  all-self : (ys : List Clause) → list_any (is_no_super d.trees) ys ≡ false → All SaysOfSelf ys
  all-self [] e = All-nil SaysOfSelf
  all-self (y ∷ ys) e =
      let p = or_false (is_no_super d.trees y) (list_any (is_no_super d.trees) ys) e in
      All-cons SaysOfSelf y ys (super-self (clause_tree d.trees y) p.0) (all-self ys p.1)

  -- of a trait whose arguments these are
  supers-self : (n : ℕ) (F : Forest) → ArgumentsFit d n F → All SaysOfSelf (supers_at (trait_at d n))
  supers-self n F fit =
      let x = trait-of-arguments d n F fit in
      let wrong : has_wrong_super d.trees d.contents x.declaration.kind ≡ false = test-at (λ x. has_wrong_super d.trees d.contents x.kind) d.declarations n x.declaration none-wrong x.there in
      let here : has_wrong_super d.trees d.contents (D.Trait x.flags x.place) ≡ false = subst (λ k. has_wrong_super d.trees d.contents k ≡ false) x.is wrong in
      let place : trait_at d n ≡ slice_get d.contents.traits x.place =
      ap (λ (o : Option Declaration). slice_get d.contents.traits (place_of trait_place o)) x.there ∙ ap (λ (k : DefinitionKind). slice_get d.contents.traits (trait_place k)) x.is in
      all-self (supers_at (trait_at d n)) (subst (λ o. list_any (is_no_super d.trees) (supers_at o) ≡ false) (sym place) here)

  -- what is declared of super clauses, of each
  all-ready : (F : Forest) (xs : List Clause) → ClauseListFits d.trees xs → All IsUnbound (map (clause_tree d.trees) xs) → All (Has F) xs → All SaysOfSelf xs → Each (IsReady F) (map (clause_tree d.trees) xs)
  all-ready F [] f u has self = tt
  all-ready F (x ∷ xs) f u has self =
      let here : kind_at d.trees x.0 ≡ ClauseKind = cc in
      let others : ClauseListFits d.trees xs = cc in
      let s = clause_tree d.trees x in
      let kind = kind-of d.trees x.0 ClauseKind refl here in
      let fits = fit-at (world d) d.trees (nodes_fit d well) x.0 in (
        record {
          form = declared-form (world d) s.head s.children kind fits;
          unbound = All-head IsUnbound s (map (clause_tree d.trees) xs) u;
          has = All-head (Has F) x xs has;
          vars = head-vars (world d) s.head s.children kind fits;
          self = All-head SaysOfSelf x xs self;
        },
        all-ready F xs others (All-tail IsUnbound s (map (clause_tree d.trees) xs) u) (All-tail (Has F) x xs has) (All-tail SaysOfSelf x xs self),
      )

  -- Of an object.
  module _ (object : Tree) where
    -- Clauses of which the arguments fit, are closed and hold no parameter, and with no projection from which a bound variable escapes.
    record Suits (t : Tree) : Type 0 where
      form : Form (world d) t
      is_closed : escapes 0 (under_binder t) ≡ false
      shut : open_in object t.children ≡ false
      free : Free t

    under-shut : (t : Tree) → Suits t → open_in object (under_binder t) ≡ false
    under-shut t a = after_shut object t.children a.shut

    -- what stands below a clause's head
    below-unbound : (s : Tree) → IsUnbound s → holds is_bound_variable s.children ≡ false
    below-unbound s u = or-right (is_bound_variable s.head) (holds is_bound_variable s.children) u

    below-has : (F : Forest) (s : Tree) → tree_holds (lacks_argument F) s ≡ false → holds (lacks_argument F) s.children ≡ false
    below-has F s e = or-right (lacks_argument F s.head) (holds (lacks_argument F) s.children) e

    -- one that such a clause implies is one
    implied-suits : (t s : Tree) → Suits t → IsReady (under_binder t) s → Suits (implied t s)
    implied-suits t s a r =
        let n = count (variables_of t) in
        let F = under_binder t in
        let ts = under_binder s in
        let quiet = below-unbound s r.unbound in
        let unbound : holds is_bound_variable ts ≡ false = after-unmarked is_bound_variable s.children quiet in
        let same : substituted F 0 (renumbered n ts) ≡ substituted F 0 ts = ap (substituted F 0) (unbound_renumbered object n ts unbound) in
        let body = substituted F 0 (renumbered n ts) in
        let vars = join (variables_of t) (variables_of s) in
        let kinds : kinds_of ts ≡ kinds_of body = sym (ap kinds_of same ∙ filled_kinds object F 0 ts (after-unmarked (lacks_argument F) s.children (below-has F s r.has))) in
        record {
          form = record { said = r.form.said; head = r.form.head; row = refl; kinds = r.form.kinds ∙ ap Some kinds };
          is_closed = ap (escapes 0) same ∙ filled_closed object F a.is_closed (under-shut t a) 0 ts unbound;
          shut = shut object (H.Part P.Vars) vars body refl (join_shut object (variables_of t) (variables_of s) (first_shut object t.children a.shut) (first_shut object s.children (unbound_shut object s.children quiet)))
              (ap (open_in object) same ∙ filled_shut object F a.is_closed (under-shut t a) 0 ts unbound);
          free = implied-free t s a.free r.vars;
        }

    -- Clauses of which the arguments fit, and are closed, with no projection from which a bound variable escapes, where trees are put in for what
    -- their binders bind.
    record Opens (more : Forest) (t : Tree) : Type 0 where
      form : Form (world d) t
      under : escapes 1 (under_binder t) ≡ false
      is_closed : escapes 0 (opened more (under_binder t)) ≡ false
      shut : open_in object (opened more (under_binder t)) ≡ false
      first : first_tree (opened more (under_binder t)) ≡ object

    -- and so it is of these
    implied-opens : (more : Forest) → AreBare more → (t s : Tree) → Opens more t → IsReady (under_binder t) s → Opens more (implied t s)
    implied-opens more is t s a r =
        let n = count (variables_of t) in
        let F = under_binder t in
        let ts = under_binder s in
        let unbound : holds is_bound_variable ts ≡ false = after-unmarked is_bound_variable s.children (below-unbound s r.unbound) in
        let same : substituted F 0 (renumbered n ts) ≡ substituted F 0 ts = ap (substituted F 0) (unbound_renumbered object n ts unbound) in
        let body = substituted F 0 (renumbered n ts) in
        let kinds : kinds_of ts ≡ kinds_of body = sym (ap kinds_of same ∙ filled_kinds object F 0 ts (after-unmarked (lacks_argument F) s.children (below-has F s r.has))) in
        let filled = filled_opened object more is F a.under a.is_closed a.shut 0 ts unbound in
        record {
          form = record { said = r.form.said; head = r.form.head; row = refl; kinds = r.form.kinds ∙ ap Some kinds };
          under = ap (escapes 1) same ∙ put-closed F 1 a.under 0 ts (unbound_closed object 1 ts unbound);
          is_closed = ap (λ b. escapes 0 (opened more b)) same ∙ filled.is_closed;
          shut = ap (λ b. open_in object (opened more b)) same ∙ filled.projections;
          first = ap (λ b. first_tree (opened more b)) same ∙ (filled_first object more is F a.under a.is_closed a.shut ts r.self ∙ a.first);
        }

    -- Arguments that fit a trait and are closed, with no projection from which a bound variable escapes.
    record GivenFor (n : ℕ) (F : Forest) : Type 0 where
      fit : ArgumentsFit d n F
      is_closed : escapes 0 F ≡ false
      shut : open_in object F ≡ false

    -- the arguments of a clause that a trait holds are those that it takes
    trait-fits : (t : Tree) (n : ℕ) → Form (world d) t → head_trait t.head ≡ Some n → ArgumentsFit d n (under_binder t)
    trait-fits t n a e = at t.head a.said a.head e a.kinds
      where
        at : (h : Head) (k : ClauseHead) → h ≡ H.Part (P.Clause k) → head_trait h ≡ Some n → clause_kinds (world d) k ≡ Some (kinds_of (under_binder t)) → ArgumentsFit d n (under_binder t)
        at (H.Part (P.Clause (Cl.Trait i Pol.Positive))) k q e f =
            let same : k ≡ Cl.Trait i Pol.Positive = cc in
            let number : i.0 ≡ n = cc in
            let fits : clause_kinds (world d) (Cl.Trait i Pol.Positive) ≡ Some (kinds_of (under_binder t)) = subst (λ (k : ClauseHead). clause_kinds (world d) k ≡ Some (kinds_of (under_binder t))) same f in
            subst (λ n. ArgumentsFit d n (under_binder t)) number fits
        at _ k q e f = absurd cc

    module _ (few : IsCounted d) (plain : AsksPlainly d) where
      ready : (n : ℕ) (F : Forest) → ArgumentsFit d n F → Each (IsReady F) (super_clauses d n)
      ready n F fit = all-ready F (supers_at (trait_at d n)) (all_supers_fit d well few.traits n) (plain.supers n) (supers-have n F fit) (supers-self n F fit)

      -- What holds of clauses, and so of what these imply, holds of all that they imply.
      module _ (P : Tree → Type 0) (form : (t : Tree) → P t → Form (world d) t) (next : (t s : Tree) → P t → IsReady (under_binder t) s → P (implied t s)) where
        each-implied : (t : Tree) → P t → (ss : List Tree) → Each (IsReady (under_binder t)) ss → Each P (map (implied t) ss)
        each-implied t a [] e = tt
        each-implied t a (s ∷ ss) e = (next t s a e.0, each-implied t a ss e.1)

        by-trait : (t : Tree) → P t → Each P (implied_by (super_clauses d) t)
        by-trait t a = at (head_trait t.head) refl
          where
            at : (o : Option ℕ) → head_trait t.head ≡ o → Each P (map (implied t) (supers_if (super_clauses d) o))
            at None e = tt
            at (Some n) e = each-implied t a (super_clauses d n) (ready n (under_binder t) (trait-fits t n (form t a) e))

        walk : {walked left all : List Tree} → Elaborates (super_clauses d) walked left all → Each P walked → Each P left → Each P all
        walk ended a b = a
        walk {walked} (step {left = left} {t = u} e) a b =
            let next = implied_by (super_clauses d) u in
            walk e (each_of_both P walked (u ∷ []) a (b.0, tt)) (each_of_both P left (unlisted (walked ++ u ∷ left) next) b.1 (unlisted_each P (walked ++ u ∷ left) next (by-trait u b.0)))

        elaborated : (start all : List Tree) → Each P start → IsElaboration d start all → Each P all
        elaborated start all a e = walk e tt (unlisted_each P [] start a)

      -- What an object has to fulfil.

      -- a super clause with an object's arguments
      filled-suits : (F : Forest) → escapes 0 F ≡ false → open_in object F ≡ false → holds is_param F ≡ false → (s : Tree) → IsReady F s → Suits (with_arguments F s)
      filled-suits F c o p s r =
          let quiet = below-unbound s r.unbound in
          let kept : substituted F 1 s.children ≡ tree (H.Part P.Vars) (substituted F 1 (variables_of s)) (substituted F 1 (under_binder s)) = ap (substituted F 1) r.form.row in
          let body = substituted F 1 (under_binder s) in
          let unbound = after-unmarked is_bound_variable s.children quiet in
          let is : substituted_tree F s ≡ record { head = s.head; children = substituted F 1 s.children } =
          clause-filled F s (ap kind_of r.form.head) ∙ ap (λ (h : Head). let u : Tree = record { head = s.head; children = substituted F (0 + binders_of h) s.children } in u) r.form.head in
          let made : Tree = record { head = s.head; children = tree (H.Part P.Vars) (substituted F 1 (variables_of s)) body } in
          let whole : with_arguments F s ≡ made = sym (all_there F s r.has) ∙ (is ∙ ap (λ (b : Forest). let u : Tree = record { head = s.head; children = b } in u) kept) in
          let free : tree_holds is_param (substituted_tree F s) ≡ false = put-parameterless F s p in
          let free-there : tree_holds is_param (with_arguments F s) ≡ false = subst (λ u. tree_holds is_param u ≡ false) (all_there F s r.has) free in
          let kinds : kinds_of (under_binder s) ≡ kinds_of body = sym (filled_kinds object F 1 (under_binder s) (after-unmarked (lacks_argument F) s.children (below-has F s r.has))) in
          subst Suits (sym whole)
          (record {
            form = record { said = r.form.said; head = r.form.head; row = refl; kinds = r.form.kinds ∙ ap Some kinds };
            is_closed = filled_closed object F c o 1 (under_binder s) unbound;
            shut = subst (λ b. open_in object b ≡ false) kept (filled_shut object F c o 1 s.children quiet);
            free = subst Free whole (or-right (is_param (with_arguments F s).head) (holds is_param (with_arguments F s).children) free-there);
          })

      -- one of them is ordinary
      record Asks (t : Tree) : Type 0 where
        shut : open_in object t.children ≡ false
        free : holds is_param (alone t) ≡ false

      suits-asks : (t : Tree) → Suits t → Asks t
      suits-asks t a = record { shut = a.shut; free = unmarked is_param t.head t.children none (subst (λ (h : Head). is_param h ≡ false) (sym a.form.head) refl) a.free refl }

      each-asks : (ts : List Tree) → Each Suits ts → Each Asks ts
      each-asks [] a = tt
      each-asks (t ∷ ts) a = (suits-asks t a.0, each-asks ts a.1)

      starts : (F : Forest) → escapes 0 F ≡ false → open_in object F ≡ false → holds is_param F ≡ false → (ss : List Tree) → Each (IsReady F) ss → Each Suits (map (with_arguments F) ss)
      starts F c o p [] e = tt
      starts F c o p (s ∷ ss) e = (filled-suits F c o p s e.0, starts F c o p ss e.1)

      -- a bound of an associated type with these
      bound-asks : (n : ℕ) (F : Forest) → GivenFor n F → holds is_param F ≡ false → (t : Tree) → IsUnbound t → NamesThoseOf d n t → Asks (with_arguments F t)
      bound-asks n F g p t u named =
          let has = has-arguments d n F g.fit t named in
          let row : open_in object (alone (substituted_tree F t)) ≡ false = filled_shut object F g.is_closed g.shut 0 (alone t) (alone-unmarked is_bound_variable t u) in
          let v = substituted_tree F t in
          subst Asks (all_there F t has) (record { shut = (shut_parts object v.head v.children none row).under; free = alone-unmarked is_param v (put-parameterless F t p) })

      bounds-ask : (n : ℕ) (F : Forest) → GivenFor n F → holds is_param F ≡ false → (ts : List Tree) → All IsUnbound ts → All (NamesThoseOf d n) ts → Each Asks (map (with_arguments F) ts)
      bounds-ask n F g p [] u named = tt
      bounds-ask n F g p (t ∷ ts) u named =
          (bound-asks n F g p t (All-head IsUnbound t ts u) (All-head (NamesThoseOf d n) t ts named), bounds-ask n F g p ts (All-tail IsUnbound t ts u) (All-tail (NamesThoseOf d n) t ts named))

      -- all of it
      required-ask : (n : ℕ) (F : Forest) (ts : List Tree) → GivenFor n F → holds is_param F ≡ false → AreRequirements d n F ts → Each Asks ts
      required-ask n F ts g p r =
          let supers = elaborated Suits (λ t a. a.form) implied-suits (map (with_arguments F) (super_clauses d n)) r.supers (starts F g.is_closed g.shut p (super_clauses d n) (ready n F g.fit)) r.elaborated in
          subst (Each Asks) (sym r.are)
          (each_of_both Asks r.supers (map (with_arguments F) (required_bounds d n)) (each-asks r.supers supers) (bounds-ask n F g p (required_bounds d n) (plain.bounds n) (plain.named n)))

      all-shut : (ts : List Tree) → Each Asks ts → Each (λ t. open_in object t.children ≡ false) ts
      all-shut [] a = tt
      all-shut (t ∷ ts) a = (a.0.shut, all-shut ts a.1)

      all-free : (ts : List Tree) → Each Asks ts → All (λ (t : Tree). holds is_param (alone t) ≡ false) ts
      all-free [] a = All-nil (λ (t : Tree). holds is_param (alone t) ≡ false)
      all-free (t ∷ ts) a = All-cons (λ (t : Tree). holds is_param (alone t) ≡ false) t ts a.0.free (all-free ts a.1)

      are-ordinary : (n : ℕ) (F : Forest) (bounds : Forest) (ts : List Tree) → GivenFor n F → holds is_param F ≡ false → AreRequirements d n F ts → IsOrdinary object bounds ts
      are-ordinary n F bounds ts g p r =
          let asks = required-ask n F ts g p r in
          (own_are_closed object (own_bounds object bounds) ts (all-shut ts asks), all-free ts asks)

      -- The clauses that objects of a type state of themselves.
      module _ (given : IsObjectType d object) where
        abbrev type : Tree
        type = object

        dynamic : is_dynamic type.head ≡ true
        dynamic = given.dynamic

        fits : IsFitting (world d) type
        fits = given.fits

        no_parameter : holds is_param (alone type) ≡ false
        no_parameter = given.no_parameter

        abbrev w : World
        w = world d

        record BoundIs (b : Tree) : Type 0 where
          predicate : IsPredicate b
          takes : child_kinds w b.head (kinds_of b.children) ≡ Some (kinds_of b.children)
          under : escapes 1 (after_first b.children) ≡ false
          small : size b.children ≤ size type.children

        type-closed : escapes 0 type.children ≡ false
        type-closed = subst (λ h. escapes (0 + binders_of h) type.children ≡ false) (dynamic-head type.head dynamic) (closed-parts 0 type.head type.children none given.is_closed).under

        bounds-are : (ts : Forest) → Each IsPredicate (each_of ts) → TakeTheirs w (each_of ts) → escapes 0 ts ≡ false → size ts ≤ size type.children → Each BoundIs (each_of ts)
        bounds-are none p t c s = tt
        bounds-are (tree h below rest) p t c s =
            let y = closed-parts 0 h below rest c in
            let few = binder-one h in (
              record { predicate = p.0; takes = t.0; under = after-closed 1 below (closed-on (0 + binders_of h) 1 below (omega (arith, few)) y.under); small = omega (arith, s) },
              bounds-are rest p.1 t.1 y.others (omega (arith, s)),
            )

        bounds : Each BoundIs (bounds_in type)
        bounds =
            let predicates = are_predicates type.children (dynamic_bounds w type.head (kinds_of type.children) dynamic fits.takes) in
            bounds-are (all_but_last type.children) predicates (bounds_take w type fits.below) (but_last_closed object 0 type.children type-closed) (but_last_size object type.children)

        -- a `dyn` type is no projection itself
        no-alias : is_some (item_of type.head) && (starts_with object type.children && escapes 0 type.children) ≡ false
        no-alias = subst (λ h. is_some (item_of h) && (starts_with object type.children && escapes 0 type.children) ≡ false) (sym (dynamic-head type.head dynamic)) refl

        after : (o : Option (List Kind)) (below : Forest) → joined (Some (BinderKind ∷ [])) o ≡ Some (kinds_of below) → o ≡ Some (kinds_of (after_first below))
        after o none e = absurd (no-row o e)
        after o (tree h b r) e = (after-binder o (kind_of h) (kinds_of r) e).others

        -- with the type before the bound's arguments
        type-kind : kind_of type.head ≡ TypeKind
        type-kind = ap kind_of (dynamic-head type.head dynamic)

        with-type : (o : Option (List Kind)) (below : Forest) → joined (Some (BinderKind ∷ [])) o ≡ Some (kinds_of below) → joined (Some (TypeKind ∷ [])) o ≡ Some (kind_of type.head ∷ kinds_of (after_first below))
        with-type o below e = ap (joined (Some (TypeKind ∷ []))) (after o below e) ∙ ap (λ k. Some (k ∷ kinds_of (after_first below))) (sym type-kind)

        regrouped : (p : Option (List Kind)) → joined (joined (Some (TypeKind ∷ [])) p) (Some (TypeKind ∷ [])) ≡ joined (Some (TypeKind ∷ [])) (joined p (Some (TypeKind ∷ [])))
        regrouped None = refl
        regrouped (Some ps) = refl

        module _ (more : Forest) (is-more : AreBare more) where
          -- a bound says such a clause of the type
          said-opens : (b : Tree) → BoundIs b → (h : Head) (k : ClauseHead) → h ≡ H.Part (P.Clause k) → clause_kinds w k ≡ Some (kind_of type.head ∷ kinds_of (after_first b.children))
              → (let t : Tree = record { head = h; children = tree (H.Part P.Vars) (first_children b.children) (tree type.head type.children (after_first b.children)) } in Opens more t)
          said-opens b x h k e f =
              let rest = after_first b.children in
              let row : Forest = tree type.head type.children rest in
              let p = closed-parts 1 type.head type.children none (closed-on 0 1 (alone type) (omega arith) given.is_closed) in
              let under : escapes 1 row ≡ false = closed 1 type.head type.children rest p.here p.under x.under in
              let still : opened more (alone type) ≡ alone type = closed_stays object more 0 (alone type) given.is_closed in
              let first : opened more row ≡ tree type.head type.children (opened more rest) = ap (λ (ts : Forest). let u = first_tree ts in tree u.head u.children (opened more rest)) still in
              let smaller = opened_size object more is-more 0 rest x.under in
              let less = after_size object b.children in
              let fewer = x.small in
              let others : open_in object (opened more rest) ≡ false = small_shut object (opened more rest) (omega (arith, smaller, less, fewer)) in
              let below : open_in object type.children ≡ false = small_shut object type.children (omega arith) in
              record {
                form = record { said = k; head = e; row = refl; kinds = f };
                under = under;
                is_closed = opened_closed object more is-more 0 row under;
                shut = ap (open_in object) first ∙ shut object type.head type.children (opened more rest) no-alias below others;
                first = ap first_tree first;
              }

          bound-opens : (h : Head) (below : Forest) → kind_of h ≡ PredicateKind → (let b : Tree = record { head = h; children = below } in BoundIs b → Opens more (bound_said type b))
          bound-opens (H.Part (P.Pred (PH.Trait i))) below e x =
              said-opens (record { head = H.Part (P.Pred (PH.Trait i)); children = below }) x (H.Part (P.Clause (Cl.Trait i Pol.Positive))) (Cl.Trait i Pol.Positive) refl (with-type (parameters w TraitSort i.0) below x.takes)
          bound-opens (H.Part (P.Pred (PH.AutoTrait i))) below e x =
              said-opens (record { head = H.Part (P.Pred (PH.AutoTrait i)); children = below }) x (H.Part (P.Clause (Cl.Trait i Pol.Positive))) (Cl.Trait i Pol.Positive) refl (with-type (parameters w TraitSort i.0) below x.takes)
          bound-opens (H.Part (P.Pred (PH.Projection i))) below e x =
              let ps = parameters w AssociatedTypeSort i.0 in
              said-opens (record { head = H.Part (P.Pred (PH.Projection i)); children = below }) x (H.Part (P.Clause (Cl.Projection i))) (Cl.Projection i) refl
              (regrouped ps ∙ with-type (joined ps (Some (TypeKind ∷ []))) below x.takes)
          bound-opens (H.Infer v) below e x = absurd (no_variable v.sort e)
          bound-opens (H.List l) below e x = absurd (no_list l e)
          bound-opens _ below e x = absurd cc

          abbrev SaidOpens : Tree → Type 0
          SaidOpens b = Opens more (bound_said type b)

          all-open : (bs : List Tree) → Each BoundIs bs → Each SaidOpens bs
          all-open [] a = tt
          all-open (b ∷ bs) a = (bound-opens b.head b.children a.0.predicate a.0, all-open bs a.1)

          first-of : (bs : List Tree) → Each SaidOpens bs → IfSome (first_listed bs) SaidOpens
          first-of [] a = tt
          first-of (b ∷ bs) a = a.0

          -- so do the supertraits of the principal
          supers-open : (o : Option Tree) (ts : List Tree) → IfSome o SaidOpens → AreSupersOf d type o ts → Each (Opens more) ts
          supers-open None ts a s = subst (Each (Opens more)) (sym s) tt
          supers-open (Some p) ts a s = subst (Each (Opens more)) (sym s.are) (filtered_each (Opens more) (λ u. is_there (trait_of u.head)) s.all (elaborated (Opens more) (λ t a. a.form) (implied-opens more is-more) (bound_said type p ∷ []) s.all (a, tt) s.elaborated))

          abbrev OwnOpens : OwnClause → Type 0
          OwnOpens o = Opens more o.clause

          said-own : (bs : List Tree) → Each SaidOpens bs → All OwnOpens (map (λ b. own_clause (BuiltinImpl Misc) (bound_said type b)) bs)
          said-own [] a = All-nil OwnOpens
          said-own (b ∷ bs) a = All-cons OwnOpens (own_clause (BuiltinImpl Misc) (bound_said type b)) (map (λ b. own_clause (BuiltinImpl Misc) (bound_said type b)) bs) a.0 (said-own bs a.1)

          numbered-own : (n : ℕ) (ts : List Tree) → Each (Opens more) ts → All OwnOpens (numbered n ts)
          numbered-own n [] a = All-nil OwnOpens
          numbered-own n (u ∷ us) a = All-cons OwnOpens (own_clause (BuiltinImpl (Object n)) u) (numbered (suc n) us) a.0 (numbered-own (suc n) us a.1)

          -- and each clause of its own
          own-opens : (supers : List Tree) (own : OwnClause) → ArePrincipalSupers d type supers → Contains (own_clauses type supers) own → Opens more own.clause
          own-opens supers own s there =
              let others = λ (b : Tree). not (is_principal b.head) in
              let first = λ (b : Tree). is_principal b.head in
              let said = all-open (bounds_in type) bounds in
              let up = supers-open (principal_in type) supers (first-of (filter first (bounds_in type)) (filtered_each SaidOpens first (bounds_in type) said)) s in
              let left = said-own (filter others (bounds_in type)) (filtered_each SaidOpens others (bounds_in type) said) in
              All-contains OwnOpens (own_clauses type supers) own (All-append OwnOpens (map (λ b. own_clause (BuiltinImpl Misc) (bound_said type b)) (filter others (bounds_in type))) (numbered 0 supers) left (numbered-own 0 supers up)) there

        -- The arguments of such a clause's trait.

        nothing-left : (ks : List Kind) (k : Kind) → [] ≡ ks ++ k ∷ [] → ⊥
        nothing-left [] k e = cc
        nothing-left (j ∷ ks) k e = cc

        -- a projection's arguments come before its term
        without-last : (ts : Forest) (ks : List Kind) (k : Kind) → kinds_of ts ≡ ks ++ k ∷ [] → kinds_of (all_but_last ts) ≡ ks
        without-last none ks k e = absurd (nothing-left ks k e)
        without-last (tree h b none) [] k e = refl
        without-last (tree h b none) (j ∷ ks) k e = let rest : [] ≡ ks ++ k ∷ [] = cc in absurd (nothing-left ks k rest)
        without-last (tree h b (tree g c r)) [] k e = absurd cc
        without-last (tree h b (tree g c r)) (j ∷ ks) k e =
            let rest : kinds_of (tree g c r) ≡ ks ++ k ∷ [] = cc in
            let first : kind_of h ≡ j = cc in
            ap (λ (k : Kind). k ∷ kinds_of (all_but_last (tree g c r))) first ∙ ap (λ (ks : List Kind). j ∷ ks) (without-last (tree g c r) ks k rest)

        item-fits : (i : AssocId) (o : Option (List Kind)) → parameters w AssociatedTypeSort i.0 ≡ o → (ts : Forest)
            → joined (joined (Some (TypeKind ∷ [])) o) (Some (TypeKind ∷ [])) ≡ Some (kinds_of ts)
            → ArgumentsFit d (trait_number (assoc_trait (definition d i.0))) (all_but_last ts)
        item-fits i None q ts e = absurd cc
        item-fits i (Some ps) q ts e =
            let whole : kinds_of ts ≡ (TypeKind ∷ ps) ++ TypeKind ∷ [] = cc in
            ap (joined (Some (TypeKind ∷ []))) (plain.items i ps q) ∙ ap Some (sym (without-last ts (TypeKind ∷ ps) TypeKind whole))

        -- the trait takes them
        given-by : (more : Forest) (h : Head) (k : ClauseHead) → h ≡ H.Part (P.Clause k) → speaks_of_trait h ≡ true → (ts : Forest) → clause_kinds w k ≡ Some (kinds_of ts) → escapes 0 (opened more ts) ≡ false
            → open_in object (opened more ts) ≡ false → GivenFor (trait_by d h) (opened more (arguments_by h ts))
        given-by more (H.Part (P.Clause (Cl.Trait i p))) k q s ts e c o =
            let same : k ≡ Cl.Trait i p = cc in
            record { fit = subst (λ (k : ClauseHead). clause_kinds w k ≡ Some (kinds_of ts)) same e ∙ ap Some (sym (opened_kinds object more ts)); is_closed = c; shut = o }
        given-by more (H.Part (P.Clause (Cl.Projection i))) k q s ts e c o =
            let same : k ≡ Cl.Projection i = cc in
            let fits = item-fits i (parameters w AssociatedTypeSort i.0) refl ts (subst (λ (k : ClauseHead). clause_kinds w k ≡ Some (kinds_of ts)) same e) in
            let last = opened_but_last object more ts in
            record {
              fit = fits ∙ ap Some (sym (opened_kinds object more (all_but_last ts)));
              is_closed = ap (escapes 0) last ∙ but_last_closed object 0 (opened more ts) c;
              shut = ap (open_in object) last ∙ but_last_shut object (opened more ts) o;
            }
        given-by more _ k q s ts e c o = absurd cc

        -- the object is the first of them
        first-by : (ts : Forest) (ps : List Kind) → kinds_of ts ≡ (TypeKind ∷ ps) ++ TypeKind ∷ [] → (more : Forest) → first_tree (opened more (all_but_last ts)) ≡ first_tree (opened more ts)
        first-by none ps e more = absurd cc
        first-by (tree h b none) ps e more = let rest : [] ≡ ps ++ TypeKind ∷ [] = cc in absurd (nothing-left ps TypeKind rest)
        first-by (tree h b (tree g c r)) ps e more = refl

        of-item : (o : Option (List Kind)) (ts : Forest) → joined (joined (Some (TypeKind ∷ [])) o) (Some (TypeKind ∷ [])) ≡ Some (kinds_of ts) → (more : Forest) → first_tree (opened more (all_but_last ts)) ≡ first_tree (opened more ts)
        of-item None ts e more = absurd cc
        of-item (Some ps) ts e more = let whole : kinds_of ts ≡ (TypeKind ∷ ps) ++ TypeKind ∷ [] = cc in first-by ts ps whole more

        object-by : (more : Forest) (h : Head) (k : ClauseHead) → h ≡ H.Part (P.Clause k) → speaks_of_trait h ≡ true → (ts : Forest) → clause_kinds w k ≡ Some (kinds_of ts) → first_tree (opened more (arguments_by h ts)) ≡ first_tree (opened more ts)
        object-by more (H.Part (P.Clause (Cl.Trait i p))) k q s ts e = refl
        object-by more (H.Part (P.Clause (Cl.Projection i))) k q s ts e =
            let same : k ≡ Cl.Projection i = cc in
            of-item (parameters w AssociatedTypeSort i.0) ts (subst (λ (k : ClauseHead). clause_kinds w k ≡ Some (kinds_of ts)) same e) more
        object-by more _ k q s ts e = absurd cc

        ordinary-type : TypeIsOrdinary d type
        ordinary-type supers own more required s there is-more =
            let t = own.clause in
            let a = own-opens more is-more supers own s there in
            let r = holds_parts is_param type.head type.children none no_parameter in
            let type-unmarked : tree_holds is_param type ≡ false = rw (r.here, r.under) refl in
            let speaks = (All-contains IsPlain (own_clauses type supers) own (all-plain (own_clauses type supers) (own-plain d well type supers dynamic fits type-unmarked s)) there).0 in
            let F = opened more (arguments_by t.head (under_binder t)) in
            let same = object-by more t.head a.form.said a.form.head speaks (under_binder t) a.form.kinds ∙ a.first in
            let g = given-by more t.head a.form.said a.form.head speaks (under_binder t) a.form.kinds a.is_closed a.shut in
            λ c p asked. subst (λ u. IsOrdinary u (all_but_last type.children) required) (sym same) (are-ordinary (trait_by d t.head) F (all_but_last type.children) required g p asked)
          where
            all-plain : (os : List OwnClause) → ArePlain os → All IsPlain os
            all-plain [] a = All-nil IsPlain
            all-plain (o ∷ os) a = All-cons IsPlain o os a.0 (all-plain os a.1)

-- Where what is declared asks plainly, it is ordinary.
pub plainly_ordinary : (d : Context) → IsWellFormedTable d → IsCounted d → AsksPlainly d → ObjectsAreOrdinary d
plainly_ordinary d well few plain = λ type given. ordinary-type d well type few plain given
