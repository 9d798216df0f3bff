-- What is declared of data types, opaque types, traits and functions: no variable and no placeholder stands in it, and no bound variable
-- escapes from it.
use Rattle.std.proofs.Common.{◌≡◌, ◌+◌, ◌≤◌, ◌++◌, ℕ, Bool, true, false, Option, Some, None, List, [], ◌∷◌, map, length, slice_get, refl, sym, ap, subst, ◌∙◌, arith}
use Rattle.std.specs.List.{All, list_any}
use Rattle.std.specs.Prelude.{IfSome}
use Rattle.std.proofs.lemmas.List.Elements.{All-cons, All-head, All-nil, All-tail, All-weaker}
use Rattle.std.proofs.lemmas.Option.{slice_get_within}
use Rattle.ir_trees.specs.declared.decl.contents.Sizedness.{Sizedness}
use Rattle.ir_trees.specs.declared.decl.contents.Sizedness.TheVariants as Size
use Rattle.ir_trees.specs.declared.decl.definition.DefinitionKind.{DefinitionKind}
use Rattle.ir_trees.specs.declared.decl.definition.DefinitionKind.TheVariants as D
use Rattle.ir_trees.specs.declared.ir.heads.Head.{Head}
use Rattle.ir_trees.specs.declared.ir.heads.Head.TheVariants as H
use Rattle.ir_trees.specs.declared.ir.heads.PartHead.{PartHead}
use Rattle.ir_trees.specs.declared.ir.heads.PartHead.TheVariants as P
use Rattle.ir_trees.specs.declared.ir.kinds.Binder.{Binder}
use Rattle.ir_trees.specs.declared.ir.kinds.Clause.{Clause}
use Rattle.ir_trees.specs.declared.ir.kinds.FnSig.{FnSig}
use Rattle.ir_trees.specs.declared.ir.kinds.Ty.{Ty}
use Rattle.ir_trees.specs.declared.ir.kinds.VarKind.{VarKind}
use Rattle.ir_trees.specs.Syntax.Binders.{escapes, tree_escapes}
use Rattle.ir_trees.specs.Declarations.Contents.{AdtContents, TraitContents}
use Rattle.ir_trees.specs.Declarations.Context.{Context}
use Rattle.ir_trees.specs.Declarations.Declaration.{Declaration}
use Rattle.ir_trees.specs.Declarations.Declaring.{adt_at, adt_place, no_place, place_of, trait_at, trait_place}
use Rattle.ir_trees.specs.Declarations.Lookups.{constraint, definition, fn_sig, hidden_type, kind_of_declared}
use Rattle.ir_trees.specs.Validity.Faults.{all_that_is_held}
use Rattle.ir_trees.specs.Validity.Held.{adt_held, definition_held, definitions_held, held_clause, held_clauses, held_sig, held_type, held_types, impls_held, option_held, trait_held}
use Rattle.ir_trees.specs.Validity.Misplaced.{has_self, kinds_of_declared, kinds_of_owner, with_self}
use Rattle.ir_trees.specs.Syntax.Nodes.{tree_at}
use Rattle.ir_trees.specs.Unification.Substitutions.{alone, is_made}
use Rattle.ir_trees.specs.Syntax.Trees.{ArgumentsKind, Forest, Tree, binders_of, holds, is_list, kind_of, none, put, row}
use Rattle.ir_trees.specs.Validity.WellFormed.{AreGiven, IsWellFormedTable, SignatureFits}
use Rattle.ir_trees.specs.Syntax.Words.{args_forest, clause_tree, ty_tree, vars_tree}
use Rattle.ir_trees.proofs.Instantiation.Folding.{or-left, or-right}
use Rattle.ir_context.proofs.Instantiation.Owned.{none-stray}
use Rattle.ir_trees.proofs.Syntax.Rows.{kind-of}
use Rattle.ir_context.proofs.Validity.Given.{definition_given, sig_fits}
use Rattle.ir_context.proofs.Validity.WellFormed.{any-of, any-right, definition-passes}
use Rattle.candidate_eval.specs.Builtins.Callable.{declared_signature, tuple_of}
use Rattle.candidate_eval.specs.Builtins.Tables.{optional}
use Rattle.candidate_eval.proofs.Marks.Closed.{closed, closed-on, closed-parts}
use Rattle.candidate_eval.proofs.Marks.Holds.{holds_parts, or_false}
use Rattle.candidate_eval.proofs.Marks.Marking.{unmarked}
use Rattle.candidate_assembly.proofs.Refusals.KnownHeaders.{none-escapes}
use Rattle.candidate_assembly.proofs.Sense.Sense.{join-closed, join-unmarked}
use Rattle.candidate_assembly.proofs.Sense.SenseKinds.{made-free-tree}

-- Neither a variable nor a placeholder stands in the trees, and no bound variable escapes that is none of the next n binders' out.
pub record AreBare (n : ℕ) (ts : Forest) : Type 0 where
  pub bare : holds is_made ts ≡ false
  pub is_closed : escapes n ts ≡ false

abbrev pub IsBare : Tree → Type 0
IsBare t = AreBare 0 (alone t)

each-of : {X H : Type 0} (f : H → Bool) (held : X → H) (xs : List X) → list_any f (map held xs) ≡ false → All (λ x. f (held x) ≡ false) xs
each-of f held [] e = All-nil (λ x. f (held x) ≡ false)
each-of f held (x ∷ xs) e = let p = or_false (f (held x)) (list_any f (map held xs)) e in All-cons (λ y. f (held y) ≡ false) x xs p.0 (each-of f held xs p.1)

each-of-both : {X : Type 0} (P Q R : X → Type 0) → ((x : X) → P x → Q x → R x) → (xs : List X) → All P xs → All Q xs → All R xs
each-of-both P Q R f [] a b = All-nil R
each-of-both P Q R f (x ∷ xs) a b = All-cons R x xs (f x (All-head P x xs a) (All-head Q x xs b)) (each-of-both P Q R f xs (All-tail P x xs a) (All-tail Q x xs b))

-- none of them is so
abbrev NoneIs : {X : Type 0} → (X → Bool) → List X → Type 0
NoneIs f [] = Unit {0}
NoneIs f (x ∷ xs) = (f x ≡ false) × NoneIs f xs

none-is-so : {X : Type 0} (f : X → Bool) (xs : List X) → list_any f xs ≡ false → NoneIs f xs
none-is-so f [] e = tt
none-is-so f (x ∷ xs) e = let p = or_false (f x) (list_any f xs) e in (p.0, none-is-so f xs p.1)

no-binder : (h : Head) → kind_of h ≡ ArgumentsKind → binders_of h ≡ 0
no-binder (H.List l) e = refl
no-binder (H.Infer v) e = refl
no-binder (H.Const x) e = refl
no-binder (H.Region r) e = refl
no-binder (H.Part p) e = part p e
  where
    part : (p : PartHead) → kind_of (H.Part p) ≡ ArgumentsKind → binders_of (H.Part p) ≡ 0
    part (P.Pred x) e = absurd cc
    part (P.Clause x) e = absurd cc
    part P.Sig e = absurd cc
    part _ e = refl
no-binder _ e = absurd cc

list-binds-nothing : (h : Head) → is_list h ≡ true → binders_of h ≡ 0
list-binds-nothing (H.List l) e = refl
list-binds-nothing (H.Infer v) e = refl
list-binds-nothing (H.Part p) e = part p e
  where
    part : (p : PartHead) → is_list (H.Part p) ≡ true → binders_of (H.Part p) ≡ 0
    part (P.Pred x) e = absurd cc
    part (P.Clause x) e = absurd cc
    part P.Sig e = absurd cc
    part _ e = refl
list-binds-nothing _ e = absurd cc

-- trees before others, or the children of a list
row-bare : (n : ℕ) (t : Tree) (rest : Forest) → AreBare n (alone t) → AreBare n rest → AreBare n (row t rest)
row-bare n t rest a b = of (is_list t.head) refl
  where
    of : (l : Bool) → is_list t.head ≡ l → AreBare n (put l t rest)
    of false e =
        let p = holds_parts is_made t.head t.children none a.bare in
        let q = closed-parts n t.head t.children none a.is_closed in
        record { bare = unmarked is_made t.head t.children rest p.here p.under b.bare; is_closed = closed n t.head t.children rest q.here q.under b.is_closed }
    of true e =
        let p = holds_parts is_made t.head t.children none a.bare in
        let q = closed-parts n t.head t.children none a.is_closed in
        let under : escapes n t.children ≡ false = closed-on (n + binders_of t.head) n t.children (few (binders_of t.head) (list-binds-nothing t.head e)) q.under in
        record { bare = join-unmarked is_made t.children rest p.under b.bare; is_closed = join-closed n t.children rest under b.is_closed }
      where
        few : (k : ℕ) → k ≡ 0 → n + k ≤ n
        few k z = omega (arith, z)

-- from all that a function holds
from-held : (c : Context) (s : Binder FnSig) (l : _) {o : _} → held_sig o s ≡ l → AreGiven c l → SignatureFits c.trees s
from-held c s l {o} e h = sig_fits c o s (subst (AreGiven c) (sym e) h)

module _ (c : Context) (t : IsWellFormedTable c) where
  -- What isn't so of anything that is held isn't so of what a definition holds, nor is what that says of types and clauses.
  module _ (f : _) (none-is : list_any f (all_that_is_held c) ≡ false) where
    own : (n : ℕ) (d : Declaration) → slice_get c.declarations n ≡ Some d → list_any f (definition_held c.contents n d.kind) ≡ false
    own n d q = definition-passes f c.contents 0 c.declarations n n d (any-of f (definitions_held c.contents 0 c.declarations) (impls_held 0 c.contents.impls) none-is) q (omega arith)

    -- of types
    module _ (P : Ty → Type 0) (has : (w : _) (ks : List VarKind) (x : Ty) → kinds_of_owner c.declarations c.contents.impls w ≡ Some ks → f (held_type w x) ≡ false → P x) where
      types-have : (w : _) (ks : List VarKind) → kinds_of_owner c.declarations c.contents.impls w ≡ Some ks → (xs : List Ty) → list_any f (held_types w xs) ≡ false → All P xs
      types-have w ks owner xs e = All-weaker (λ x. f (held_type w x) ≡ false) P (λ x h. has w ks x owner h) xs (each-of f (held_type w) xs e)

      option-has : (w : _) (ks : List VarKind) → kinds_of_owner c.declarations c.contents.impls w ≡ Some ks → (o : Option Ty) → list_any f (option_held w o) ≡ false → All P (optional o)
      option-has w ks owner None e = All-nil P
      option-has w ks owner (Some x) e = All-cons P x [] (has w ks x owner (or-left (f (held_type w x)) false e)) (All-nil P)

      adt-has : (w : _) (ks : List VarKind) → kinds_of_owner c.declarations c.contents.impls w ≡ Some ks → (a : AdtContents) → list_any f (adt_held w a) ≡ false → All P a.fields × ((s : Sizedness) → All P (optional (constraint s a)))
      adt-has w ks owner a e =
          let rest = any-right f (held_types w a.fields) (option_held w a.sized ++ option_held w a.meta_sized) e in
          let one = option-has w ks owner a.sized (any-of f (option_held w a.sized) (option_held w a.meta_sized) rest) in
          let other = option-has w ks owner a.meta_sized (any-right f (option_held w a.sized) (option_held w a.meta_sized) rest) in
          (types-have w ks owner a.fields (any-of f (held_types w a.fields) (option_held w a.sized ++ option_held w a.meta_sized) e), sized one other)
        where
          sized : All P (optional a.sized) → All P (optional a.meta_sized) → (s : Sizedness) → All P (optional (constraint s a))
          sized one other Size.Sized = one
          sized one other Size.MetaSized = other

      module _ (few : length c.contents.adts ≤ no_place) where
        no-adt : (a : AdtContents) → slice_get c.contents.adts no_place ≡ Some a → ⊥
        no-adt a e = let past = slice_get_within c.contents.adts no_place a e in omega (arith, few, past)

        adts-have : (n : ℕ) (a : AdtContents) → adt_at c n ≡ Some a → All P a.fields × ((s : Sizedness) → All P (optional (constraint s a)))
        adts-have n a s = of (slice_get c.declarations n) refl
          where
            there : (d : Declaration) → slice_get c.declarations n ≡ Some d → (y : DefinitionKind) → d.kind ≡ y → slice_get c.contents.adts (adt_place y) ≡ Some a
            there d q y i = sym (ap (λ (o : Option Declaration). slice_get c.contents.adts (place_of adt_place o)) q ∙ ap (λ (z : DefinitionKind). slice_get c.contents.adts (adt_place z)) i) ∙ s

            kinds : (d : Declaration) → slice_get c.declarations n ≡ Some d → (y : DefinitionKind) → d.kind ≡ y → All P a.fields × ((s : Sizedness) → All P (optional (constraint s a)))
            kinds d q (D.Adt shape flags k) i =
                let at = there d q (D.Adt shape flags k) i in
                let held = own n d q in
                let here = rw (i, at) at held in
                adt-has _ (with_self (has_self d.kind) d.parameters) (ap kinds_of_declared q) a here
            kinds d q (D.Trait flags k) i = absurd (no-adt a (there d q (D.Trait flags k) i))
            kinds d q D.Foreign i = absurd (no-adt a (there d q D.Foreign i))
            kinds d q (D.Assoc of k sized p) i = absurd (no-adt a (there d q (D.Assoc of k sized p) i))
            kinds d q (D.Alias x) i = absurd (no-adt a (there d q (D.Alias x) i))
            kinds d q (D.Opaque hidden k) i = absurd (no-adt a (there d q (D.Opaque hidden k) i))
            kinds d q (D.Function flags sig) i = absurd (no-adt a (there d q (D.Function flags sig) i))
            kinds d q (D.Closure x) i = absurd (no-adt a (there d q (D.Closure x) i))

            of : (o : Option Declaration) → slice_get c.declarations n ≡ o → All P a.fields × ((s : Sizedness) → All P (optional (constraint s a)))
            of None q = absurd (no-adt a (sym (ap (λ (o : Option Declaration). slice_get c.contents.adts (place_of adt_place o)) q) ∙ s))
            of (Some d) q = kinds d q d.kind refl

      hidden-has : (n : ℕ) → All P (optional (hidden_type (definition c n)))
      hidden-has n = of (slice_get c.declarations n) refl
        where
          kinds : (d : Declaration) → slice_get c.declarations n ≡ Some d → (y : DefinitionKind) → d.kind ≡ y → All P (optional (hidden_type (Some y)))
          kinds d q (D.Opaque hidden k) i =
              let held = own n d q in
              let here = rw i at held in
              All-cons P hidden [] (has _ (with_self (has_self d.kind) d.parameters) hidden (ap kinds_of_declared q) (or-left _ _ here)) (All-nil P)
          kinds d q _ i = All-nil P

          of : (o : Option Declaration) → slice_get c.declarations n ≡ o → All P (optional (hidden_type (definition c n)))
          of None q = subst (λ (y : Option Declaration). All P (optional (hidden_type (kind_of_declared y)))) (sym q) (All-nil P)
          of (Some d) q = subst (λ (y : Option Declaration). All P (optional (hidden_type (kind_of_declared y)))) (sym q) (kinds d q d.kind refl)

    -- of clauses
    module _ (P : Clause → Type 0) (has : (w : _) (ks : List VarKind) (x : Clause) → kinds_of_owner c.declarations c.contents.impls w ≡ Some ks → f (held_clause w x) ≡ false → P x) (few : length c.contents.traits ≤ no_place) where
      no-trait : (a : TraitContents) → slice_get c.contents.traits no_place ≡ Some a → ⊥
      no-trait a e = let past = slice_get_within c.contents.traits no_place a e in omega (arith, few, past)

      each-clause : (w : _) (ks : List VarKind) → kinds_of_owner c.declarations c.contents.impls w ≡ Some ks → (xs : List Clause) → list_any f (held_clauses w xs) ≡ false → All P xs
      each-clause w ks owner xs e = All-weaker (λ x. f (held_clause w x) ≡ false) P (λ x h. has w ks x owner h) xs (each-of f (held_clause w) xs e)

      trait-parts : (w : _) (ks : List VarKind) → kinds_of_owner c.declarations c.contents.impls w ≡ Some ks → (a : TraitContents) → list_any f (trait_held w a) ≡ false → All P a.supers × All P a.wheres
      trait-parts w ks owner a e = (each-clause w ks owner a.supers (any-of f (held_clauses w a.supers) (held_clauses w a.wheres) e), each-clause w ks owner a.wheres (any-right f (held_clauses w a.supers) (held_clauses w a.wheres) e))

      traits-have : (n : ℕ) (a : TraitContents) → trait_at c n ≡ Some a → All P a.supers × All P a.wheres
      traits-have n a s = of (slice_get c.declarations n) refl
        where
          there : (d : Declaration) → slice_get c.declarations n ≡ Some d → (y : DefinitionKind) → d.kind ≡ y → slice_get c.contents.traits (trait_place y) ≡ Some a
          there d q y i = sym (ap (λ (o : Option Declaration). slice_get c.contents.traits (place_of trait_place o)) q ∙ ap (λ (z : DefinitionKind). slice_get c.contents.traits (trait_place z)) i) ∙ s

          kinds : (d : Declaration) → slice_get c.declarations n ≡ Some d → (y : DefinitionKind) → d.kind ≡ y → All P a.supers × All P a.wheres
          kinds d q (D.Trait flags k) i =
              let at = there d q (D.Trait flags k) i in
              let held = own n d q in
              let here = rw (i, at) at held in
              trait-parts _ (with_self (has_self d.kind) d.parameters) (ap kinds_of_declared q) a here
          kinds d q (D.Adt shape flags k) i = absurd (no-trait a (there d q (D.Adt shape flags k) i))
          kinds d q D.Foreign i = absurd (no-trait a (there d q D.Foreign i))
          kinds d q (D.Assoc of k sized p) i = absurd (no-trait a (there d q (D.Assoc of k sized p) i))
          kinds d q (D.Alias x) i = absurd (no-trait a (there d q (D.Alias x) i))
          kinds d q (D.Opaque hidden k) i = absurd (no-trait a (there d q (D.Opaque hidden k) i))
          kinds d q (D.Function flags sig) i = absurd (no-trait a (there d q (D.Function flags sig) i))
          kinds d q (D.Closure x) i = absurd (no-trait a (there d q (D.Closure x) i))

          of : (o : Option Declaration) → slice_get c.declarations n ≡ o → All P a.supers × All P a.wheres
          of None q = absurd (no-trait a (sym (ap (λ (o : Option Declaration). slice_get c.contents.traits (place_of trait_place o)) q) ∙ s))
          of (Some d) q = kinds d q d.kind refl

    -- of a signature
    signature-has : (P : Binder FnSig → Type 0) → ((w : _) (ks : List VarKind) (s : Binder FnSig) → kinds_of_owner c.declarations c.contents.impls w ≡ Some ks → NoneIs f (held_sig w s) → P s)
        → (n : ℕ) (s : Binder FnSig) → fn_sig (definition c n) ≡ Some s → P s
    signature-has P has n s e = of (slice_get c.declarations n) refl
      where
        kinds : (d : Declaration) → slice_get c.declarations n ≡ Some d → (y : DefinitionKind) → d.kind ≡ y → fn_sig (Some y) ≡ Some s → P s
        kinds d q (D.Function flags g) i same =
            let it : g ≡ s = cc in
            let held = own n d q in
            let here = rw (i, it) at held in
            has _ (with_self (has_self d.kind) d.parameters) s (ap kinds_of_declared q) (none-is-so f (held_sig _ s) here)
        kinds d q (D.Adt _ _ _) i same = absurd cc
        kinds d q (D.Trait _ _) i same = absurd cc
        kinds d q D.Foreign i same = absurd cc
        kinds d q (D.Assoc _ _ _ _) i same = absurd cc
        kinds d q (D.Alias _) i same = absurd cc
        kinds d q (D.Opaque _ _) i same = absurd cc
        kinds d q (D.Closure _) i same = absurd cc

        of : (o : Option Declaration) → slice_get c.declarations n ≡ o → P s
        of None q = let z : None ≡ Some s = sym (ap (λ (y : Option Declaration). fn_sig (kind_of_declared y)) q) ∙ e in absurd cc
        of (Some d) q = kinds d q d.kind refl (sym (ap (λ (y : Option Declaration). fn_sig (kind_of_declared y)) q) ∙ e)

  -- So of what is declared.

  abbrev Clean : ℕ → Type 0
  Clean k = holds is_made (alone (tree_at c.trees k)) ≡ false

  abbrev Shut : ℕ → ℕ → Type 0
  Shut b k = escapes b (alone (tree_at c.trees k)) ≡ false

  shut-by : (b k : ℕ) → tree_escapes b (tree_at c.trees k) ≡ false → Shut b k
  shut-by b k e = let u = tree_at c.trees k in closed b u.head u.children none (or-left _ _ e) (or-right _ _ e) refl

  abbrev pub TypeIsBare : Ty → Type 0
  TypeIsBare x = IsBare (ty_tree c.trees x)

  abbrev pub ClauseIsBareToo : Clause → Type 0
  ClauseIsBareToo x = IsBare (clause_tree c.trees x)

  pub record AdtIsBare (a : AdtContents) : Type 0 where
    pub fields : All TypeIsBare a.fields
    pub constraints : (s : Sizedness) → All TypeIsBare (optional (constraint s a))

  both-types : (xs : List Ty) → All (λ x. Clean x.0) xs → All (λ x. Shut 0 x.0) xs → All TypeIsBare xs
  both-types xs a b = each-of-both (λ x. Clean x.0) (λ x. Shut 0 x.0) TypeIsBare (λ x p q. record { bare = p; is_closed = q }) xs a b

  both-clauses : (xs : List Clause) → All (λ x. Clean x.0) xs → All (λ x. Shut 0 x.0) xs → All ClauseIsBareToo xs
  both-clauses xs a b = each-of-both (λ x. Clean x.0) (λ x. Shut 0 x.0) ClauseIsBareToo (λ x p q. record { bare = p; is_closed = q }) xs a b

  pub adt-bare : length c.contents.adts ≤ no_place → (n : ℕ) (a : AdtContents) → adt_at c n ≡ Some a → AdtIsBare a
  adt-bare few n a s =
      let clean = adts-have _ (none-stray c t) (λ x. Clean x.0)
      (λ w ks x owner e. let none-is = rw owner at e in made-free-tree _ (ty_tree c.trees x) (or-right _ _ none-is) (or-left _ _ none-is) (λ v. refl) (λ i. refl) (λ i. refl) (λ i. refl) (λ i. refl)) few n a s in
      let shut = adts-have _ (none-escapes c t) (λ x. Shut 0 x.0) (λ w ks x owner e. shut-by 0 x.0 e) few n a s in
      record { fields = both-types a.fields clean.0 shut.0; constraints = λ z. both-types (optional (constraint z a)) (clean.1 z) (shut.1 z) }

  pub hidden-bare : (n : ℕ) → All TypeIsBare (optional (hidden_type (definition c n)))
  hidden-bare n =
      both-types (optional (hidden_type (definition c n)))
      (hidden-has _ (none-stray c t) (λ x. Clean x.0)
      (λ w ks x owner e. let none-is = rw owner at e in made-free-tree _ (ty_tree c.trees x) (or-right _ _ none-is) (or-left _ _ none-is) (λ v. refl) (λ i. refl) (λ i. refl) (λ i. refl) (λ i. refl)) n)
      (hidden-has _ (none-escapes c t) (λ x. Shut 0 x.0) (λ w ks x owner e. shut-by 0 x.0 e) n)

  pub record TraitIsBare (a : TraitContents) : Type 0 where
    pub supers : All ClauseIsBareToo a.supers
    pub wheres : All ClauseIsBareToo a.wheres

  pub trait-bare : length c.contents.traits ≤ no_place → (n : ℕ) (a : TraitContents) → trait_at c n ≡ Some a → TraitIsBare a
  trait-bare few n a s =
      let clean = traits-have _ (none-stray c t) (λ x. Clean x.0)
      (λ w ks x owner e. let none-is = rw owner at e in made-free-tree _ (clause_tree c.trees x) (or-right _ _ none-is) (or-left _ _ none-is) (λ v. refl) (λ i. refl) (λ i. refl) (λ i. refl) (λ i. refl)) few n a s in
      let shut = traits-have _ (none-escapes c t) (λ x. Shut 0 x.0) (λ w ks x owner e. shut-by 0 x.0 e) few n a s in
      record { supers = both-clauses a.supers clean.0 shut.0; wheres = both-clauses a.wheres clean.1 shut.1 }

  -- The signature of a function, as a closure's.

  record PartsClean (s : Binder FnSig) : Type 0 where
    vars : Clean s.vars.0
    inputs : Clean s.value.inputs.0
    output : Clean s.value.output.0

  record PartsShut (s : Binder FnSig) : Type 0 where
    vars : Shut 0 s.vars.0
    inputs : Shut 1 s.value.inputs.0
    output : Shut 1 s.value.output.0

  signature-parts : (s : Binder FnSig) → PartsClean s → PartsShut s → SignatureFits c.trees s → IsBare (declared_signature c.trees s)
  signature-parts s clean shut fit =
      let v = vars_tree c.trees s.vars in
      let list = tree_at c.trees s.value.inputs.0 in
      let out = ty_tree c.trees s.value.output in
      let ins = tuple_of (args_forest c.trees s.value.inputs) in
      let p = holds_parts is_made list.head list.children none clean.inputs in
      let q = closed-parts 1 list.head list.children none shut.inputs in
      let few = no-binder list.head (kind-of c.trees s.value.inputs.0 ArgumentsKind refl fit.inputs) in
      let under : escapes 1 list.children ≡ false = subst (λ k. escapes k list.children ≡ false) (ap (λ k. 1 + k) few) q.under in
      let tuple : AreBare 1 (alone ins) = record { bare = unmarked is_made ins.head ins.children none refl p.under refl; is_closed = closed 1 ins.head ins.children none refl under refl } in
      let low : AreBare 1 (alone v) = record { bare = clean.vars; is_closed = closed-on 0 1 (alone v) (omega arith) shut.vars } in
      let end : AreBare 1 (alone out) = record { bare = clean.output; is_closed = shut.output } in
      let nothing : AreBare 1 none = record { bare = refl; is_closed = refl } in
      let all = row-bare 1 v (row ins (row out none)) low (row-bare 1 ins (row out none) tuple (row-bare 1 out none end nothing)) in
      let u = declared_signature c.trees s in
      record { bare = unmarked is_made u.head u.children none refl all.bare refl; is_closed = closed 0 u.head u.children none refl all.is_closed refl }

  fits-there : (n : ℕ) (s : Binder FnSig) → fn_sig (definition c n) ≡ Some s → SignatureFits c.trees s
  fits-there n s e = of (definition c n) e (definition_given c t n)
    where
      of : (o : Option DefinitionKind) → fn_sig o ≡ Some s → IfSome o (λ k. AreGiven c (definition_held c.contents n k)) → SignatureFits c.trees s
      of None q h = absurd cc
      of (Some (D.Function flags g)) q h = let it : g ≡ s = cc in subst (SignatureFits c.trees) it (from-held c g (definition_held c.contents n (D.Function flags g)) refl h)
      of (Some (D.Adt _ _ _)) q h = absurd cc
      of (Some (D.Trait _ _)) q h = absurd cc
      of (Some D.Foreign) q h = absurd cc
      of (Some (D.Assoc _ _ _ _)) q h = absurd cc
      of (Some (D.Alias _)) q h = absurd cc
      of (Some (D.Opaque _ _)) q h = absurd cc
      of (Some (D.Closure _)) q h = absurd cc

  pub signature-bare : (n : ℕ) (s : Binder FnSig) → fn_sig (definition c n) ≡ Some s → IsBare (declared_signature c.trees s)
  signature-bare n s e =
      signature-parts s
      (signature-has _ (none-stray c t) PartsClean
      (λ w ks s owner e.
      let first = e.0 in
      let second = e.1.0 in
      let third = e.1.1.0 in
      let vars = rw owner at first in
      let inputs = rw owner at second in
      let output = rw owner at third in
      let list = tree_at c.trees s.value.inputs.0 in
      record {
        vars = made-free-tree _ (vars_tree c.trees s.vars) (or-right _ _ vars) (or-left _ _ vars) (λ v. refl) (λ i. refl) (λ i. refl) (λ i. refl) (λ i. refl);
        inputs = made-free-tree _ list (or-right _ _ inputs) (or-left _ _ inputs) (λ v. refl) (λ i. refl) (λ i. refl) (λ i. refl) (λ i. refl);
        output = made-free-tree _ (ty_tree c.trees s.value.output) (or-right _ _ output) (or-left _ _ output) (λ v. refl) (λ i. refl) (λ i. refl) (λ i. refl) (λ i. refl);
      }) n s e)
      (signature-has _ (none-escapes c t) PartsShut
      (λ w ks s owner e. record { vars = shut-by 0 s.vars.0 e.0; inputs = shut-by 1 s.value.inputs.0 e.1.0; output = shut-by 1 s.value.output.0 e.1.1.0 }) n s e)
      (fits-there n s e)
