-- What an object states of itself and what it has to fulfil are clauses of a state, where its type and the arguments are of it.
use Rattle.std.proofs.Common.{◌≡◌, ◌≤◌, ℕ, Bool, true, false, not, Option, Some, None, List, [], ◌∷◌, ◌++◌, map, length, refl, sym, ap, subst, ◌∙◌, arith, slice_get, suc}
use Rattle.std.specs.List.{All, Contains, filter, list_any}
use Rattle.std.specs.Prelude.{IfSome}
use Rattle.std.proofs.lemmas.List.Elements.{All-append, All-cons, All-contains, All-head, All-nil, All-tail, All-weaker}
use Rattle.std.proofs.lemmas.Option.{slice_get_within}
use Rattle.ir_trees.specs.declared.decl.contents.AliasBoundKind.TheVariants.{NonSelfBounds, SelfBounds}
use Rattle.ir_trees.specs.declared.decl.definition.DefinitionKind.{DefinitionKind}
use Rattle.ir_trees.specs.declared.decl.definition.DefinitionKind.TheVariants as D
use Rattle.ir_trees.specs.declared.ir.kinds.AssocId.{AssocId}
use Rattle.ir_trees.specs.declared.ir.kinds.Clause.{Clause}
use Rattle.ir_trees.specs.declared.ir.kinds.VarKind.{VarKind}
use Rattle.ir_trees.specs.Declarations.Contents.{TraitContents}
use Rattle.ir_trees.specs.Declarations.Context.{Context, world}
use Rattle.ir_trees.specs.Declarations.Declaration.{Declaration}
use Rattle.ir_trees.specs.Declarations.Declaring.{no_place, place_of, trait_at, trait_place}
use Rattle.ir_trees.specs.Hierarchy.Elaboration.{Elaborates, IsElaboration, ended, implied, implied_by, is_there, step, super_clauses, supers_if, trait_of, unlisted}
use Rattle.ir_trees.specs.Hierarchy.Supers.{supers_at}
use Rattle.ir_trees.specs.Hierarchy.Supertraits.{head_trait}
use Rattle.ir_trees.specs.Syntax.Nodes.{kind_at}
use Rattle.ir_trees.specs.Syntax.Trees.{ClauseKind, Forest, Tree, none}
use Rattle.ir_trees.specs.Syntax.Words.{ClauseListFits, clause_tree}
use Rattle.ir_trees.specs.Unification.Substitutions.{alone}
use Rattle.ir_trees.specs.Validity.Faults.{all_that_is_held}
use Rattle.ir_trees.specs.Validity.Held.{definitions_held, held_clause, held_clauses, impls_held, trait_held}
use Rattle.ir_trees.specs.Validity.Misplaced.{has_self, kinds_of_declared, kinds_of_owner, with_self}
use Rattle.ir_trees.specs.Validity.WellFormed.{IsWellFormedTable}
use Rattle.ir_context.proofs.Hierarchy.Walking.{all_supers_fit}
use Rattle.ir_trees.proofs.Instantiation.Folding.{or-left, or-right}
use Rattle.ir_context.proofs.Instantiation.Owned.{none-stray}
use Rattle.ir_trees.proofs.Kinding.References.{fit-at}
use Rattle.ir_trees.proofs.Syntax.Rows.{kind-of}
use Rattle.ir_context.proofs.Validity.WellFormed.{any-of, definition-passes}
use Rattle.candidate_eval.specs.declared.eval.source.BuiltinImplSource.TheVariants.{Misc, Object}
use Rattle.candidate_eval.specs.declared.eval.source.CandidateSource.TheVariants.{BuiltinImpl}
use Rattle.candidate_eval.specs.Dynamic.Required.{AreRequirements, bounds_of_items, is_required, item_bounds, items_of, non_self_bounds, required_bounds, self_bounds, with_arguments}
use Rattle.candidate_eval.specs.Judges.Soundness.{AreTreesOf, Live}
use Rattle.candidate_eval.specs.Judges.States.{State}
use Rattle.candidate_eval.proofs.Dynamic.Requiring.{item_bounds_fit}
use Rattle.candidate_eval.proofs.Marks.Closed.{closed}
use Rattle.candidate_assembly.specs.Laws.BuiltinLaws.{nodes_fit}
use Rattle.candidate_assembly.specs.Laws.SuperLaws.{Each, IsFitting}
use Rattle.candidate_assembly.proofs.Objects.SuperLaws.{each_of_both, filtered_each, unlisted_each}
use Rattle.candidate_assembly.specs.Rules.DynBounds.{ArePrincipalSupers, AreSupersOf, bound_said, bounds_in, first_listed, is_dynamic, is_principal, principal_in}
use Rattle.candidate_assembly.specs.Rules.ObjectBounds.{OwnClause, numbered, own_clause, own_clauses}
use Rattle.candidate_assembly.proofs.Refusals.KnownHeaders.{none-escapes}
use Rattle.candidate_assembly.proofs.Sense.SenseBounds.{bounds-of}
use Rattle.candidate_assembly.proofs.Sense.SenseClauses.{IsClauseOf, all-with-arguments, bounds-of-type, clause-first, each-said, implied-of}
use Rattle.candidate_assembly.proofs.Sense.SenseKinds.{ClauseIsBare, ClauseIsClosed, declared-trees, each-held, made-free-tree}

-- The super clauses that are declared, where places of traits are below the number that says that there is none.

supers-listed : (P : Clause → Type 0) (w : _) (f : _) (a : TraitContents) → list_any f (trait_held w a) ≡ false → ((x : Clause) → f (held_clause w x) ≡ false → P x) → All P a.supers
supers-listed P w f a e has = All-weaker (λ x. f (held_clause w x) ≡ false) P has a.supers (each-held f (held_clause w) a.supers (any-of f (held_clauses w a.supers) (held_clauses w a.wheres) e))

module _ (c : Context) (t : IsWellFormedTable c) (few : length c.contents.traits ≤ no_place) where
  none-past : (a : TraitContents) → slice_get c.contents.traits no_place ≡ Some a → ⊥
  none-past a e = let past = slice_get_within c.contents.traits no_place a e in omega (arith, few, past)

  supers-have : (P : Clause → Type 0) (f : _) → list_any f (all_that_is_held c) ≡ false
      → ((w : _) (ks : List VarKind) (x : Clause) → kinds_of_owner c.declarations c.contents.impls w ≡ Some ks → f (held_clause w x) ≡ false → P x) → (n : ℕ) (a : TraitContents) → trait_at c n ≡ Some a
      → All P a.supers
  supers-have P f e has n a s = of (slice_get c.declarations n) refl
    where
      there : (d : Declaration) → slice_get c.declarations n ≡ Some d → (y : DefinitionKind) → d.kind ≡ y → slice_get c.contents.traits (trait_place y) ≡ Some a
      there d q y i = sym (ap (λ (o : Option Declaration). slice_get c.contents.traits (place_of trait_place o)) q ∙ ap (λ (z : DefinitionKind). slice_get c.contents.traits (trait_place z)) i) ∙ s

      kinds : (d : Declaration) → slice_get c.declarations n ≡ Some d → (y : DefinitionKind) → d.kind ≡ y → All P a.supers
      kinds d q (D.Trait g k) i =
          let at = there d q (D.Trait g k) i in
          let own = definition-passes f c.contents 0 c.declarations n n d (any-of f (definitions_held c.contents 0 c.declarations) (impls_held 0 c.contents.impls) e) q (omega arith) in
          let here = rw (i, at) at own in
          supers-listed P _ f a here (λ x h. has _ (with_self (has_self d.kind) d.parameters) x (ap kinds_of_declared q) h)
      kinds d q (D.Adt shape flags k) i = absurd (none-past a (there d q (D.Adt shape flags k) i))
      kinds d q D.Foreign i = absurd (none-past a (there d q D.Foreign i))
      kinds d q (D.Assoc of k sized p) i = absurd (none-past a (there d q (D.Assoc of k sized p) i))
      kinds d q (D.Alias x) i = absurd (none-past a (there d q (D.Alias x) i))
      kinds d q (D.Opaque hidden k) i = absurd (none-past a (there d q (D.Opaque hidden k) i))
      kinds d q (D.Function flags sig) i = absurd (none-past a (there d q (D.Function flags sig) i))
      kinds d q (D.Closure x) i = absurd (none-past a (there d q (D.Closure x) i))

      of : (o : Option Declaration) → slice_get c.declarations n ≡ o → All P a.supers
      of None q = absurd (none-past a (sym (ap (λ (o : Option Declaration). slice_get c.contents.traits (place_of trait_place o)) q) ∙ s))
      of (Some d) q = kinds d q d.kind refl

  all-supers : (P : Clause → Type 0) → ((n : ℕ) (a : TraitContents) → trait_at c n ≡ Some a → All P a.supers) → (n : ℕ) → All P (supers_at (trait_at c n))
  all-supers P have n = at (trait_at c n) refl
    where
      at : (o : Option TraitContents) → trait_at c n ≡ o → All P (supers_at o)
      at None e = All-nil P
      at (Some a) e = have n a e

  supers-bare : (n : ℕ) → All (ClauseIsBare c) (supers_at (trait_at c n))
  supers-bare =
      all-supers (ClauseIsBare c)
      (supers-have (ClauseIsBare c) _ (none-stray c t)
      (λ w ks x owner e. let none-is = rw owner at e in made-free-tree _ (clause_tree c.trees x) (or-right _ _ none-is) (or-left _ _ none-is) (λ v. refl) (λ k. refl) (λ p. refl) (λ p. refl) (λ p. refl)))

  supers-closed : (n : ℕ) → All (ClauseIsClosed c) (supers_at (trait_at c n))
  supers-closed =
      all-supers (ClauseIsClosed c)
      (supers-have (ClauseIsClosed c) _ (none-escapes c t)
      (λ w ks x owner e. let u = clause_tree c.trees x in closed 0 u.head u.children none (or-left _ _ e) (or-right _ _ e) refl))

  module _ (S : State) (L : Live) where
    abbrev IsOf : Tree → Type 0
    IsOf = IsClauseOf S L

    abbrev HasTrees : Clause → Type 0
    HasTrees x = AreTreesOf S L (alone (clause_tree c.trees x))

    -- a clause of the context
    declared-of : (x : Clause) → kind_at c.trees x.0 ≡ ClauseKind → HasTrees x → IsOf (clause_tree c.trees x)
    declared-of x k a =
        let u = clause_tree c.trees x in
        let kind = kind-of c.trees x.0 ClauseKind refl k in
        record { trees = a; head = kind; binder = clause-first (world c) u.head u.children kind (fit-at (world c) c.trees (nodes_fit c t) x.0) }

    all-declared : (xs : List Clause) → ClauseListFits c.trees xs → All HasTrees xs → Each IsOf (map (clause_tree c.trees) xs)
    all-declared [] f a = tt
    all-declared (x ∷ xs) f a =
        let here : kind_at c.trees x.0 ≡ ClauseKind = cc in
        let others : ClauseListFits c.trees xs = cc in
        (declared-of x here (All-head HasTrees x xs a), all-declared xs others (All-tail HasTrees x xs a))

    both-of : (xs : List Clause) → All (ClauseIsBare c) xs → All (ClauseIsClosed c) xs → All HasTrees xs
    both-of [] a b = All-nil HasTrees
    both-of (x ∷ xs) a b =
        All-cons HasTrees x xs (declared-trees S L (alone (clause_tree c.trees x)) (All-head (ClauseIsBare c) x xs a) (All-head (ClauseIsClosed c) x xs b))
        (both-of xs (All-tail (ClauseIsBare c) x xs a) (All-tail (ClauseIsClosed c) x xs b))

    supers-of : (n : ℕ) → Each IsOf (super_clauses c n)
    supers-of n = all-declared (supers_at (trait_at c n)) (all_supers_fit c t few n) (both-of (supers_at (trait_at c n)) (supers-bare n) (supers-closed n))

    -- What clauses of the state imply.

    all-implied : (u : Tree) → IsOf u → (ss : List Tree) → Each IsOf ss → Each IsOf (map (implied u) ss)
    all-implied u a [] e = tt
    all-implied u a (s ∷ ss) e = (implied-of S L u s a e.0, all-implied u a ss e.1)

    by-trait : (o : Option ℕ) → Each IsOf (supers_if (super_clauses c) o)
    by-trait None = tt
    by-trait (Some n) = supers-of n

    walk-of : {walked left all : List Tree} → Elaborates (super_clauses c) walked left all → Each IsOf walked → Each IsOf left → Each IsOf all
    walk-of ended a b = a
    walk-of {walked} (step {left = left} {t = u} e) a b =
        let next = implied_by (super_clauses c) u in
        let more = all-implied u b.0 (supers_if (super_clauses c) (head_trait u.head)) (by-trait (head_trait u.head)) in
        walk-of e (each_of_both IsOf walked (u ∷ []) a (b.0, tt)) (each_of_both IsOf left (unlisted (walked ++ u ∷ left) next) b.1 (unlisted_each IsOf (walked ++ u ∷ left) next more))

    pub elaborated-of : (start all : List Tree) → Each IsOf start → IsElaboration c start all → Each IsOf all
    elaborated-of start all a e = walk-of e tt (unlisted_each IsOf [] start a)

    -- What an object states of itself.

    principal-supers : (type : Tree) (o : Option Tree) (ts : List Tree) → IfSome o (λ p. IsOf (bound_said type p)) → AreSupersOf c type o ts → Each IsOf ts
    principal-supers type None ts a s = subst (Each IsOf) (sym s) tt
    principal-supers type (Some p) ts a s =
        subst (Each IsOf) (sym s.are) (filtered_each IsOf (λ u. is_there (trait_of u.head)) s.all (elaborated-of (bound_said type p ∷ []) s.all (a, tt) s.elaborated))

    first-of : (type : Tree) (bs : List Tree) → Each (λ b. IsOf (bound_said type b)) bs → IfSome (first_listed bs) (λ b. IsOf (bound_said type b))
    first-of type [] a = tt
    first-of type (b ∷ bs) a = a.0

    abbrev OwnIsOf : OwnClause → Type 0
    OwnIsOf o = IsOf o.clause

    said-own : (type : Tree) (bs : List Tree) → Each (λ b. IsOf (bound_said type b)) bs → All OwnIsOf (map (λ b. own_clause (BuiltinImpl Misc) (bound_said type b)) bs)
    said-own type [] a = All-nil OwnIsOf
    said-own type (b ∷ bs) a =
        All-cons OwnIsOf (own_clause (BuiltinImpl Misc) (bound_said type b)) (map (λ b. own_clause (BuiltinImpl Misc) (bound_said type b)) bs) a.0 (said-own type bs a.1)

    numbered-own : (n : ℕ) (ts : List Tree) → Each IsOf ts → All OwnIsOf (numbered n ts)
    numbered-own n [] a = All-nil OwnIsOf
    numbered-own n (u ∷ us) a = All-cons OwnIsOf (own_clause (BuiltinImpl (Object n)) u) (numbered (suc n) us) a.0 (numbered-own (suc n) us a.1)

    pub own-clause-of : (type : Tree) (supers : List Tree) (own : OwnClause) → is_dynamic type.head ≡ true → IsFitting (world c) type → AreTreesOf S L (alone type) → ArePrincipalSupers c type supers
        → Contains (own_clauses type supers) own → IsOf own.clause
    own-clause-of type supers own d f a s there =
        let Said = λ (b : Tree). IsOf (bound_said type b) in
        let others = λ (b : Tree). not (is_principal b.head) in
        let first = λ (b : Tree). is_principal b.head in
        let said : Each Said (bounds_in type) = each-said S L type a (bounds_in type) (bounds-of-type S L (world c) type d f a) in
        let up = principal-supers type (principal_in type) supers (first-of type (filter first (bounds_in type)) (filtered_each Said first (bounds_in type) said)) s in
        let left = said-own type (filter others (bounds_in type)) (filtered_each Said others (bounds_in type) said) in
        All-contains OwnIsOf (own_clauses type supers) own
        (All-append OwnIsOf (map (λ b. own_clause (BuiltinImpl Misc) (bound_said type b)) (filter others (bounds_in type))) (numbered 0 supers) left (numbered-own 0 supers up)) there

    -- What an object of a trait has to fulfil, where places of bounds are below that number too.
    module _ (few-bounds : length c.contents.bounds ≤ no_place) where
      item-of : (i : AssocId) → is_required c i ≡ true → Each IsOf (item_bounds c i)
      item-of i r =
          let f = item_bounds_fit c i t r in
          each_of_both IsOf (map (clause_tree c.trees) (self_bounds c i.0)) (map (clause_tree c.trees) (non_self_bounds c i.0))
          (all-declared (self_bounds c i.0) f.0 (bounds-of c t few-bounds S L SelfBounds i.0)) (all-declared (non_self_bounds c i.0) f.1 (bounds-of c t few-bounds S L NonSelfBounds i.0))

      items-are-of : (is : List AssocId) → Each IsOf (bounds_of_items c is)
      items-are-of [] = tt
      items-are-of (i ∷ is) = at (is_required c i) refl (items-are-of is)
        where
          at : (b : Bool) → is_required c i ≡ b → Each IsOf (bounds_of_items c is) → Each IsOf (bounds_of_items c (i ∷ is))
          at true e more = rw e (each_of_both IsOf (item_bounds c i) (bounds_of_items c is) (item-of i e) more)
          at false e more = rw e more

      pub required-of : (n : ℕ) (F : Forest) (ts : List Tree) → AreTreesOf S L F → AreRequirements c n F ts → Each IsOf ts
      required-of n F ts a r =
          subst (Each IsOf) (sym r.are)
          (each_of_both IsOf r.supers (map (with_arguments F) (required_bounds c n)) (elaborated-of (map (with_arguments F) (super_clauses c n)) r.supers (all-with-arguments S L F a (super_clauses c n) (supers-of n)) r.elaborated)
          (all-with-arguments S L F a (required_bounds c n) (items-are-of (items_of c n))))
