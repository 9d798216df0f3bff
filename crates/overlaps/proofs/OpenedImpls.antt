-- Impls with fresh variables or placeholders in the place of their parameters, by earlier and by later contexts.
use Rattle.std.proofs.Common.{◌≡◌, ℕ, suc, false, List, [], ◌∷◌, Option, Some, None, map, refl, ap, subst, sym, ◌∙◌}
use Rattle.std.specs.Prelude.{IfSome, MatchOption}
use Rattle.ir_trees.specs.declared.decl.contents.ImplId.{ImplId}
use Rattle.ir_trees.specs.declared.ir.kinds.Args.{Args}
use Rattle.ir_trees.specs.declared.ir.kinds.VarKind.{VarKind}
use Rattle.ir_trees.specs.declared.ir.kinds.VarKind.TheVariants as V
use Rattle.ir_trees.specs.Declarations.Context.{Context, Grows, parameter_kind}
use Rattle.ir_trees.specs.Declarations.Contents.{Impl}
use Rattle.ir_trees.specs.Declarations.Declaring.{impl_at}
use Rattle.ir_trees.specs.Declarations.Lookups.{maybe}
use Rattle.ir_trees.specs.Instantiation.Folding.{lacks_argument, substituted}
use Rattle.ir_trees.specs.Instantiation.Owned.{ClausesAreOwned}
use Rattle.ir_trees.specs.Declarations.Worlds.{kinds_of}
use Rattle.ir_trees.specs.Syntax.Trees.{ConstantKind, Forest, Kind, RegionKind, TypeKind, holds}
use Rattle.ir_trees.specs.Syntax.Words.{IsArgs, args_forest}
use Rattle.ir_trees.specs.Validity.WellFormed.{ImplIsGiven}
use Rattle.ir_trees.proofs.Growth.Kept.{args-kept}
use Rattle.candidate_eval.specs.Interface.Evaluators.{rigid, with_rigid}
use Rattle.candidate_eval.specs.Judges.States.{State, fresh_variables, placeholders, with_fresh_variables}
use Rattle.candidate_assembly.specs.Answers.KnownImpls.{kinds_of_impl}
use Rattle.candidate_assembly.specs.Calls.Impls.{IsDeclared, impl_kinds}
use Rattle.candidate_assembly.specs.declared.trait_goals.impls.DeclaredImpl.{DeclaredImpl}
use Rattle.candidate_assembly.proofs.Rules.ImplSteps.{impl-same, owned-still}
use Rattle.overlaps.specs.Apart.{entered, opened}
use Rattle.overlaps.specs.Opening.{AreEntered, AreOpened, IsEntered, IsOpened, IsOpenedAs, IsOpenedOf, IsOpenedWith}
use Rattle.overlaps.specs.declared.opening.Opened.{Opened}

-- What was read of an impl.

module _ (c : Context) (n : ImplId) (args : Forest) (d : DeclaredImpl) (is : IsDeclared c n args d) where
  pub header-fits : IsArgs c.trees d.header
  header-fits = subst (IsArgs c.trees) (sym is.header) is.given.header.list

  pub header-has : holds (lacks_argument args) (args_forest c.trees d.header) ≡ false
  header-has = subst (λ (h : Args). holds (lacks_argument args) (args_forest c.trees h) ≡ false) (sym is.header) is.owned.have

  pub wheres-owned : ClausesAreOwned c.trees args d.wheres.items
  wheres-owned = subst (ClausesAreOwned c.trees args) (sym is.wheres) is.owned.wheres

-- the kinds of the parameters of an impl that is there
pub kinds-there : (c : Context) (n : ImplId) (i : Impl) → impl_at c n ≡ Some i → impl_kinds c n ≡ kinds_of_impl i
kinds-there c n i is = ap (λ (o : Option Impl). map parameter_kind (maybe [] (λ (x : Impl). x.parameters) o)) is

-- An impl is open once what stands for its parameters stands in its header.
pub is-opened : (old new : Context) (n : ImplId) (locals made : Args) (d : DeclaredImpl) → Grows old new → IsArgs old.trees locals → IsDeclared old n (args_forest old.trees locals) d
    → IsArgs new.trees made → args_forest new.trees made ≡ substituted (args_forest old.trees locals) 0 (args_forest old.trees d.header)
    → IsOpenedAs old (λ ks. args_forest old.trees locals) n new (record { of = n; def_id = d.def_id; locals = locals; header = made; wheres = d.wheres })
is-opened old new n locals made d g fit is sort m =
    let kept = args-kept old new locals g fit in
    record {
      by = is.by;
      is = is.is;
      number = refl;
      opens = record {
        given = is.given;
        of_trait = is.of_trait;
        locals_fit = kept.0;
        locals = kept.1;
        header_fits = sort;
        header = m ∙ ap (λ (h : Args). substituted (args_forest old.trees locals) 0 (args_forest old.trees h)) is.header;
        wheres = is.wheres;
        owned = owned-still old new locals d.wheres.items g fit (wheres-owned old n (args_forest old.trees locals) d is);
      };
    }

-- It is so in later contexts, and of an earlier one.

pub opened-later : (c mid new : Context) (ls : Forest) (i : Impl) (o : Opened) → Grows mid new → IsOpenedWith c ls i mid o → IsOpenedWith c ls i new o
opened-later c mid new ls i o g h =
    let locals = args-kept mid new o.locals g h.locals_fit in
    let header = args-kept mid new o.header g h.header_fits in
    record {
      given = h.given;
      of_trait = h.of_trait;
      locals_fit = locals.0;
      locals = locals.1 ∙ h.locals;
      header_fits = header.0;
      header = header.1 ∙ h.header;
      wheres = h.wheres;
      owned = owned-still mid new o.locals o.wheres.items g h.locals_fit h.owned;
    }

pub opened-earlier : (c mid new : Context) (ls : Forest) (i : Impl) (o : Opened) → Grows c mid → ImplIsGiven c i → IsOpenedWith mid ls i new o → IsOpenedWith c ls i new o
opened-earlier c mid new ls i o g given h = record {
  given = given;
  of_trait = h.of_trait;
  locals_fit = h.locals_fit;
  locals = h.locals;
  header_fits = h.header_fits;
  header = h.header ∙ ap (substituted ls 0) (args-kept c mid i.trait_ref.args g given.header.list).1;
  wheres = h.wheres;
  owned = h.owned;
}

pub given-early : (old mid : Context) (n : ImplId) (i : Impl) → Grows old mid → IfSome (impl_at old n) (ImplIsGiven old) → impl_at mid n ≡ Some i → (impl_at old n ≡ Some i) × ImplIsGiven old i
given-early old mid n i g given is =
    let here : impl_at old n ≡ Some i = sym (impl-same old mid n g) ∙ is in
    (here, subst (λ (x : Option Impl). IfSome x (ImplIsGiven old)) here given)

-- What stands for its parameters was made before.
pub opened-as : (old mid new : Context) (F : List Kind → Forest) (f : Forest) (n : ImplId) (o : Opened) → Grows old mid → IfSome (impl_at old n) (ImplIsGiven old) → f ≡ F (impl_kinds old n)
    → IsOpenedAs mid (λ ks. f) n new o → IsOpenedAs old F n new o
opened-as old mid new F f n o g given l h =
    let early = given-early old mid n h.by g given h.is in
    let e : f ≡ F (kinds_of_impl h.by) = l ∙ ap F (kinds-there old n h.by early.0) in
    record {
      by = h.by;
      is = early.0;
      number = h.number;
      opens = opened-earlier old mid new (F (kinds_of_impl h.by)) h.by o g early.1 (subst (λ (x : Forest). IsOpenedWith mid x h.by new o) e h.opens);
    }

-- The same of what is an impl, or none.
pub opened-or-none : (old mid new : Context) (F : List Kind → Forest) (f : Forest) (n : ImplId) → Grows old mid → IfSome (impl_at old n) (ImplIsGiven old) → f ≡ F (impl_kinds old n)
    → (o : Option Opened) → MatchOption o (impl_at mid n ≡ None) (IsOpenedAs mid (λ ks. f) n new) → MatchOption o (impl_at old n ≡ None) (IsOpenedAs old F n new)
opened-or-none old mid new F f n g given l None h = sym (impl-same old mid n g) ∙ h
opened-or-none old mid new F f n g given l (Some o) h = opened-as old mid new F f n o g given l h

-- placeholders are of the kinds that they are made for
placeholders-kinds : (u n : ℕ) (ks : List VarKind) → kinds_of (placeholders u n (map parameter_kind ks)) ≡ map parameter_kind ks
placeholders-kinds u n [] = refl
placeholders-kinds u n (V.Ty ∷ ks) = ap (λ xs. TypeKind ∷ xs) (placeholders-kinds u (suc n) ks)
placeholders-kinds u n (V.Const ∷ ks) = ap (λ xs. ConstantKind ∷ xs) (placeholders-kinds u (suc n) ks)
placeholders-kinds u n (V.Region ∷ ks) = ap (λ xs. RegionKind ∷ xs) (placeholders-kinds u (suc n) ks)

-- they fit the impl, as the grown context declares it
pub rigid-fit : (old new : Context) (n : ImplId) (S : State) (args : Forest) → Grows old new → args ≡ rigid S (impl_kinds old n) → kinds_of args ≡ impl_kinds new n
rigid-fit old new n S args g e =
    ap kinds_of e
    ∙ (placeholders-kinds (suc S.newest_universe) 0 (maybe [] (λ (i : Impl). i.parameters) (impl_at old n))
    ∙ ap (λ (o : Option Impl). map parameter_kind (maybe [] (λ (i : Impl). i.parameters) o)) (sym (impl-same old new n g)))

-- Two are, one after the other.

pub both-opened : (old mid new : Context) (S T U : State) (a b : ImplId) (p q : Opened) → Grows old mid → Grows mid new → IfSome (impl_at old b) (ImplIsGiven old)
    → T ≡ with_fresh_variables S (impl_kinds old a) → U ≡ with_fresh_variables T (impl_kinds mid b) → IsOpened old S a mid p → IsOpened mid T b new q
    → AreOpened old S a b new U (record { first = p; second = q })
both-opened old mid new S T U a b p q g h given t u x y =
    let first : T ≡ opened S x.by = t ∙ ap (with_fresh_variables S) (kinds-there old a x.by x.is) in
    let second : U ≡ opened T y.by = u ∙ ap (with_fresh_variables T) (kinds-there mid b y.by y.is) in
    let early = given-early old mid b y.by g given y.is in
    record {
      i = x.by;
      j = y.by;
      first_is = x.is;
      second_is = early.0;
      first_number = x.number;
      second_number = y.number;
      first = opened-later old mid new (fresh_variables S (kinds_of_impl x.by)) x.by p h x.opens;
      second = subst (λ V. IsOpenedOf old V y.by new q) first (opened-earlier old mid new (fresh_variables T (kinds_of_impl y.by)) y.by q g early.1 y.opens);
      left_is = second ∙ ap (λ V. opened V y.by) first;
    }

-- The first one with placeholders.
pub entered-and-opened : (old mid new : Context) (S T U : State) (a b : ImplId) (p q : Opened) → Grows old mid → Grows mid new → IfSome (impl_at old b) (ImplIsGiven old)
    → T ≡ with_rigid S (impl_kinds old a) → U ≡ with_fresh_variables T (impl_kinds mid b) → IsEntered old S a mid p → IsOpened mid T b new q
    → AreEntered old S a b new U (record { first = p; second = q })
entered-and-opened old mid new S T U a b p q g h given t u x y =
    let first : T ≡ entered S x.by = t ∙ ap (with_rigid S) (kinds-there old a x.by x.is) in
    let second : U ≡ opened T y.by = u ∙ ap (with_fresh_variables T) (kinds-there mid b y.by y.is) in
    let early = given-early old mid b y.by g given y.is in
    record {
      i = x.by;
      j = y.by;
      first_is = x.is;
      second_is = early.0;
      first = opened-later old mid new (rigid S (kinds_of_impl x.by)) x.by p h x.opens;
      second = subst (λ V. IsOpenedOf old V y.by new q) first (opened-earlier old mid new (fresh_variables T (kinds_of_impl y.by)) y.by q g early.1 y.opens);
      left_is = second ∙ ap (λ V. opened V y.by) first;
    }
