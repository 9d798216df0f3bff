-- The header of a declared impl, with fresh variables in the place of its parameters: its trees are those of the state with them.
use Rattle.std.proofs.Common.{◌≡◌, ◌+◌, ℕ, zero, suc, Bool, true, false, List, [], ◌∷◌, length, slice_get, Option, Some, None, refl, sym, ap, subst, ◌∙◌, arith, nat_lt, if◌then◌else◌}
use Rattle.std.specs.List.{list_any}
use Rattle.std.specs.Option.{unwrap_or}
use Rattle.std.proofs.lemmas.Bool.{le-ltb, ltb-false}
use Rattle.std.proofs.lemmas.List.{length-append}
use Rattle.ir_trees.specs.declared.decl.contents.ImplId.{ImplId}
use Rattle.ir_trees.specs.declared.ir.heads.ConstHead.TheVariants as C
use Rattle.ir_trees.specs.declared.ir.heads.Head.{Head}
use Rattle.ir_trees.specs.declared.ir.heads.Head.TheVariants as H
use Rattle.ir_trees.specs.declared.ir.heads.PartHead.{PartHead}
use Rattle.ir_trees.specs.declared.ir.heads.PartHead.TheVariants as P
use Rattle.ir_trees.specs.declared.ir.heads.Variable.{Variable}
use Rattle.ir_trees.specs.declared.ir.kinds.RegionKind.TheVariants as R
use Rattle.ir_trees.specs.Syntax.Binders.{escapes, is_beyond}
use Rattle.ir_trees.specs.Declarations.Contents.{Impl}
use Rattle.ir_trees.specs.Declarations.Context.{Context}
use Rattle.ir_trees.specs.Declarations.Declaring.{impl_at}
use Rattle.ir_trees.specs.Validity.Faults.{all_that_is_held}
use Rattle.ir_trees.specs.Instantiation.Folding.{argument, put, substituted}
use Rattle.ir_trees.specs.Validity.Held.{definitions_held, impl_held, impls_held}
use Rattle.ir_trees.specs.Validity.Misplaced.{held_escapes}
use Rattle.ir_trees.specs.Syntax.Nodes.{tree_at}
use Rattle.ir_trees.specs.Unification.Substitutions.{alone, is_made, same_sort}
use Rattle.ir_trees.specs.Syntax.Trees.{ArgumentsKind, Forest, Kind, none, tree, Tree, binders_of, holds, is_alias, kind_of}
use Rattle.ir_trees.specs.Validity.WellFormed.{IsWellFormedTable}
use Rattle.ir_trees.specs.Syntax.Words.{IsArgs}
use Rattle.ir_trees.specs.Declarations.Worlds.{Fits, World, child_kinds, kinds_of}
use Rattle.ir_trees.proofs.Instantiation.Folding.{begin, or-left, or-right}
use Rattle.ir_context.proofs.Instantiation.Owned.{none-stray}
use Rattle.ir_trees.proofs.Syntax.Rows.{kind-of}
use Rattle.ir_context.proofs.Validity.WellFormed.{any-of, any-right}
use Rattle.candidate_eval.specs.declared.eval.variable.VariableKind.{VariableKind}
use Rattle.candidate_eval.specs.declared.eval.variable.VariableKind.TheVariants.{Term, Region}
use Rattle.candidate_eval.specs.Judges.Alike.{info}
use Rattle.candidate_eval.specs.Judges.Soundness.{AreLeaves, AreTreesOf, IsResolved, Live, has_value, is_leaf, is_strange}
use Rattle.candidate_eval.specs.Judges.States.{State, fresh_info, fresh_variables, has_kind, is_some, value_in, variable, variable_kind, with_fresh}
use Rattle.candidate_eval.proofs.Marks.Closed.{closed, closed-on, closed-parts, closed-shift}
use Rattle.candidate_eval.proofs.Marks.Holds.{holds_imply}
use Rattle.candidate_eval.proofs.Marks.Marking.{IsUnmarked, argument-unmarked, fold-unmarked, shift-unmarked, unmarked}
use Rattle.candidate_assembly.specs.Answers.KnownImpls.{header_of}
use Rattle.candidate_assembly.proofs.Refusals.KnownFresh.{counts, counts-fresh, fresh-there, fresher, wider}
use Rattle.candidate_assembly.proofs.Refusals.KnownInstances.{same_sort_itself}

-- What stands in the header of a declared impl: neither a variable nor a placeholder, and no bound variable escapes.

pub impl-passes : (f : _) (i : ℕ) (xs : List Impl) (n j : ℕ) (x : Impl) → list_any f (impls_held i xs) ≡ false → slice_get xs n ≡ Some x → j ≡ n + i
    → list_any f (impl_held j x) ≡ false
impl-passes f i [] n j x g e q = absurd cc
impl-passes f i (y ∷ ys) zero j x g e q =
    let same : x ≡ y = cc in
    let at : j ≡ i = omega (arith, q) in
    ap (λ (z : Impl). list_any f (impl_held j z)) same ∙ (ap (λ (m : ℕ). list_any f (impl_held m y)) at ∙ any-of f (impl_held i y) (impls_held (suc i) ys) g)
impl-passes f i (y ∷ ys) (suc n) j x g e q = impl-passes f (suc i) ys n j x (any-right f (impl_held i y) (impls_held (suc i) ys) g) e (omega (arith, q))

pub none-escapes : (c : Context) → IsWellFormedTable c → list_any (held_escapes c.trees) (all_that_is_held c) ≡ false
unfolding IsWellFormedTable
none-escapes c t = or-left _ _ (or-right _ _ t.kinds)

no-binder : (h : Head) → kind_of h ≡ ArgumentsKind → binders_of h ≡ 0
no-binder (H.List l) e = refl
no-binder (H.Infer v) e = refl
no-binder (H.Const x) e = refl
no-binder (H.Region r) e = refl
no-binder (H.Part p) e = part p e
  where
    part : (p : PartHead) → kind_of (H.Part p) ≡ ArgumentsKind → binders_of (H.Part p) ≡ 0
    part (P.Pred x) e = absurd cc
    part (P.Clause x) e = absurd cc
    part P.Sig e = absurd cc
    part _ e = refl
no-binder _ e = absurd cc

-- what an evaluator makes doesn't stand in trees without a mark that all of that bears
pub made-free : (mark : Head → Bool) (ts : Forest) → ((v : Variable) → mark (H.Infer v) ≡ true) → ((n : ℕ) → mark (H.Region (R.Var n)) ≡ true)
    → ((p : _) → mark (H.Placeholder p) ≡ true) → ((p : _) → mark (H.Const (C.Placeholder p)) ≡ true) → ((p : _) → mark (H.Region (R.Placeholder p)) ≡ true)
    → holds mark ts ≡ false → holds is_made ts ≡ false
made-free mark ts terms regions types constants others e = holds_imply mark is_made here ts e
  where
    here : (h : Head) → mark h ≡ false → is_made h ≡ false
    here (H.Infer v) n = let z : true ≡ false = sym (terms v) ∙ n in absurd cc
    here (H.Region (R.Var k)) n = let z : true ≡ false = sym (regions k) ∙ n in absurd cc
    here (H.Placeholder p) n = let z : true ≡ false = sym (types p) ∙ n in absurd cc
    here (H.Const (C.Placeholder p)) n = let z : true ≡ false = sym (constants p) ∙ n in absurd cc
    here (H.Region (R.Placeholder p)) n = let z : true ≡ false = sym (others p) ∙ n in absurd cc
    here _ n = refl

module _ (c : Context) (t : IsWellFormedTable c) (n : ImplId) (i : Impl) (is : impl_at c n ≡ Some i) where
  by-held : (R : Type 0) (f : _) → list_any f (all_that_is_held c) ≡ false → (list_any f (impl_held n.0 i) ≡ false → R) → R
  by-held R f e k = k (impl-passes f 0 c.contents.impls n.0 n.0 i (any-right f (definitions_held c.contents 0 c.declarations) (impls_held 0 c.contents.impls) e) is (omega arith))

  pub header-bare : holds is_made (header_of c i) ≡ false
  header-bare =
      by-held (holds is_made (header_of c i) ≡ false) _ (none-stray c t)
      (λ e.
      let none-is = rw is at e in
      made-free _ (header_of c i) (λ v. refl) (λ k. refl) (λ p. refl) (λ p. refl) (λ p. refl) (or-right _ _ (or-left _ _ none-is)))

  pub header-closed : IsArgs c.trees i.trait_ref.args → escapes 0 (header_of c i) ≡ false
  header-closed a =
      let u = tree_at c.trees i.trait_ref.args.0 in
      by-held (escapes 0 (header_of c i) ≡ false) _ (none-escapes c t)
      (λ e. subst (λ b. escapes b (header_of c i) ≡ false) (ap (λ b. 0 + b) (no-binder u.head (kind-of c.trees i.trait_ref.args.0 ArgumentsKind refl a))) (or-right (is_beyond 0 u.head) (escapes (0 + binders_of u.head) u.children) (or-left _ _ e)))

-- A mark that no fresh variable bears, no error and no bound variable.

pub fresh-unmarked : (mark : Head → Bool) (S : State) (ks : List Kind) → ((j : ℕ) (k : Kind) → slice_get ks j ≡ Some k → mark (variable (variable_kind k) (length S.variables + j)).head ≡ false)
    → holds mark (fresh_variables S ks) ≡ false
fresh-unmarked mark S [] h = refl
fresh-unmarked mark S (k ∷ ks) h =
    let U = with_fresh S (variable_kind k) in
    let x = variable (variable_kind k) (length S.variables) in
    unmarked mark x.head x.children (fresh_variables U ks) (subst (λ n. mark (variable (variable_kind k) n).head ≡ false) (no-more (length S.variables)) (h 0 k refl))
    (ap (holds mark) (leafy (variable_kind k) (length S.variables)))
    (fresh-unmarked mark U ks (λ j l e. subst (λ n. mark (variable (variable_kind l) n).head ≡ false) (one-more (length U.variables) (length S.variables) j (length-append S.variables (fresh_info S (variable_kind k) ∷ []))) (h (suc j) l e)))
  where
    no-more : (n : ℕ) → n + 0 ≡ n
    no-more n = omega arith

    one-more : (m n j : ℕ) → m ≡ n + 1 → n + suc j ≡ m + j
    one-more m n j e = omega (arith, e)

    leafy : (w : VariableKind) (n : ℕ) → (variable w n).children ≡ none
    leafy (Term s) n = refl
    leafy Region n = refl

module _ (mark : Head → Bool) (error : mark H.Error ≡ false) (ty : (v : _) → mark (H.Bound v) ≡ false) (constant : (v : _) → mark (H.Const (C.Bound v)) ≡ false) (region : (v : _) → mark (H.Region (R.Bound v)) ≡ false) (F : Forest) (free : holds mark F ≡ false) where
  put-unmarked : (d : ℕ) (h : Head) → IsUnmarked mark (put F d h)
  put-unmarked d (H.Param i) = shift-unmarked mark ty constant region d (argument F i) (argument-unmarked mark F i error free)
  put-unmarked d (H.Const (C.Param i)) = shift-unmarked mark ty constant region d (argument F i) (argument-unmarked mark F i error free)
  put-unmarked d _ = tt

  pub filled-unmarked : (bare : Head → Bool) → ((h : Head) → bare h ≡ false → mark h ≡ false) → (ts : Forest) → holds bare ts ≡ false → holds mark (substituted F 0 ts) ≡ false
  filled-unmarked bare implied ts e = fold-unmarked (put F) bare mark implied put-unmarked 0 ts e

-- Closed trees put for parameters; trees whose variables and regions are leaves.

pub argument-closed : (F : Forest) (i : ℕ) → escapes 0 F ≡ false → escapes 0 (alone (argument F i)) ≡ false
argument-closed none i e = refl
argument-closed (tree h below rest) zero e = let p = closed-parts 0 h below rest e in closed 0 h below none p.here p.under refl
argument-closed (tree h below rest) (suc i) e = argument-closed rest i (closed-parts 0 h below rest e).others

argument-leaves : (F : Forest) (i : ℕ) → AreLeaves F → AreLeaves (alone (argument F i))
argument-leaves none i a = ((λ e. refl), tt, tt)
argument-leaves (tree h below rest) zero a = (a.0, a.1, tt)
argument-leaves (tree h below rest) (suc i) a = argument-leaves rest i a.2

module _ (F : Forest) (e : escapes 0 F ≡ false) where
  -- what is put there is an argument, if anything is
  data IsPut (h : Head) : Option Tree → Type 0 where
    an_argument : (i : ℕ) → IsPut h (Some (argument F i))
    stays : IsPut h None

  is-put : (d : ℕ) (h : Head) → IsPut h (put F d h)
  is-put d (H.Param i) = subst (λ t. IsPut (H.Param i) (Some t)) (sym (closed-shift d (argument F i) (argument-closed F i e))) (an_argument i)
  is-put d (H.Const (C.Param i)) = subst (λ t. IsPut (H.Const (C.Param i)) (Some t)) (sym (closed-shift d (argument F i) (argument-closed F i e))) (an_argument i)
  is-put d _ = stays

  pub filled-closed : (n d : ℕ) (ts : Forest) → escapes n ts ≡ false → escapes n (substituted F d ts) ≡ false
  filled-closed n d none k = refl
  filled-closed n d (tree h below rest) k =
      let p = closed-parts n h below rest k in
      node (put F d h) (is-put d h) p.here (filled-closed (n + binders_of h) (d + binders_of h) below p.under) (filled-closed n d rest p.others)
    where
      node : (o : Option Tree) → IsPut h o → is_beyond n h ≡ false → escapes (n + binders_of h) (substituted F (d + binders_of h) below) ≡ false → escapes n (substituted F d rest) ≡ false
          → escapes n (begin (unwrap_or o (record { head = h; children = substituted F (d + binders_of h) below })) (substituted F d rest)) ≡ false
      node None x here under others = closed n h (substituted F (d + binders_of h) below) (substituted F d rest) here under others
      node _ (an_argument i) here under others =
          let u = argument F i in
          let z = closed-parts n u.head u.children none (closed-on 0 n (alone u) (omega arith) (argument-closed F i e)) in
          closed n u.head u.children (substituted F d rest) z.here z.under others

  pub filled-leaves : AreLeaves F → (d : ℕ) (ts : Forest) → AreLeaves ts → AreLeaves (substituted F d ts)
  filled-leaves a d none k = tt
  filled-leaves a d (tree h below rest) k = node (put F d h) (is-put d h) (filled-leaves a (d + binders_of h) below k.1) (filled-leaves a d rest k.2)
    where
      node : (o : Option Tree) → IsPut h o → AreLeaves (substituted F (d + binders_of h) below) → AreLeaves (substituted F d rest)
          → AreLeaves (begin (unwrap_or o (record { head = h; children = substituted F (d + binders_of h) below })) (substituted F d rest))
      node None x under others = ((λ l. ap (substituted F (d + binders_of h)) (k.0 l)), under, others)
      node _ (an_argument i) under others = let z = argument-leaves F i a in (z.0, z.1, others)

-- Trees that fit a world have leaves.
pub fits-leaves : (w : World) (ts : Forest) → Fits w ts → AreLeaves ts
fits-leaves w none f = tt
fits-leaves w (tree h below rest) f = (at h f.0, fits-leaves w below f.1, fits-leaves w rest f.2)
  where
    nothing : (ts : Forest) → Some [] ≡ Some (kinds_of ts) → ts ≡ none
    nothing none e = refl
    nothing (tree g a b) e = absurd cc

    at : (h : Head) → child_kinds w h (kinds_of below) ≡ Some (kinds_of below) → is_leaf h ≡ true → below ≡ none
    at (H.Infer v) f e = nothing below f
    at (H.Region r) f e = nothing below f
    at h f e = absurd cc

-- Fresh variables.

pub fresh-closed : (S : State) (ks : List Kind) → escapes 0 (fresh_variables S ks) ≡ false
fresh-closed S [] = refl
fresh-closed S (k ∷ ks) =
    let x = variable (variable_kind k) (length S.variables) in
    let p = alone-closed (variable_kind k) (length S.variables) in
    closed 0 x.head x.children (fresh_variables (with_fresh S (variable_kind k)) ks) (closed-parts 0 x.head x.children none p).here (closed-parts 0 x.head x.children none p).under (fresh-closed (with_fresh S (variable_kind k)) ks)
  where
    alone-closed : (w : VariableKind) (n : ℕ) → escapes 0 (alone (variable w n)) ≡ false
    alone-closed (Term s) n = refl
    alone-closed Region n = refl

fresh-leaves : (S : State) (ks : List Kind) → AreLeaves (fresh_variables S ks)
fresh-leaves S [] = tt
fresh-leaves S (k ∷ ks) = let p = leafy (variable_kind k) (length S.variables) in (p.0, p.1, fresh-leaves (with_fresh S (variable_kind k)) ks)
  where
    leafy : (w : VariableKind) (n : ℕ) → AreLeaves (alone (variable w n))
    leafy (Term s) n = ((λ e. refl), tt, tt)
    leafy Region n = ((λ e. refl), tt, tt)

-- a variable of the first ones
abbrev pub is_old : ℕ → Head → Bool
is_old n (H.Infer v) = nat_lt v.number n
is_old n _ = false

pub root-is-low : (n u : ℕ) → nat_lt 0 u ≡ false → nat_lt n u ≡ false
root-is-low n u e = let low = ltb-false 0 u e in le-ltb n u (omega (arith, low))

none-either : (o : Option Tree) → o ≡ None → (b : Bool) → is_some (if b then o else o) ≡ false
none-either None e true = refl
none-either None e false = refl
none-either (Some t) e b = absurd cc

-- A header without what evaluators make, with fresh variables for its parameters.
module _ (S : State) (L : Live) (ks : List Kind) (header : Forest) (bare : holds is_made header ≡ false) where
  abbrev T : State
  T = fresher S ks

  abbrev M : Live
  M = wider S L

  abbrev N : ℕ
  N = length S.variables

  abbrev F : Forest
  F = fresh_variables S ks

  pub strange-fresh : (w : VariableKind) (n : ℕ) → info T n ≡ Some (fresh_info S w) → M n ≡ true → is_strange T M (variable w n).head ≡ false
  strange-fresh (Term s) n e c = counts (M n) (Term s) (info T n) c (ap (has_kind (Term s)) e ∙ same_sort_itself s)
  strange-fresh Region n e c = counts (M n) Region (info T n) c (ap (has_kind Region) e)

  strange-others : (h : Head) → is_made h ≡ false → is_strange T M h ≡ false
  strange-others (H.Infer v) e = absurd cc
  strange-others (H.Region (R.Var n)) e = absurd cc
  strange-others (H.Placeholder p) e = root-is-low S.newest_universe p.universe e
  strange-others (H.Const (C.Placeholder p)) e = root-is-low S.newest_universe p.universe e
  strange-others (H.Region (R.Placeholder p)) e = root-is-low S.newest_universe p.universe e
  strange-others _ e = refl

  pub header-known : holds (is_strange T M) (substituted F 0 header) ≡ false
  header-known =
      filled-unmarked (is_strange T M) refl (λ v. refl) (λ v. refl) (λ v. refl) F (fresh-unmarked (is_strange T M) S ks (λ j k e. strange-fresh (variable_kind k) (N + j) (fresh-there S L ks j k e) (counts-fresh S L ks j)))
      is_made strange-others header bare

  value-fresh : (w : VariableKind) (n : ℕ) → info T n ≡ Some (fresh_info S w) → has_value T (variable w n).head ≡ false
  value-fresh (Term s) n e = ap (λ o. is_some (if has_kind (Term s) o then value_in o else None)) e ∙ none-either None refl (same_sort s s)
  value-fresh Region n e = ap (λ o. is_some (if has_kind Region o then value_in o else None)) e

  value-others : (h : Head) → is_made h ≡ false → has_value T h ≡ false
  value-others (H.Infer v) e = absurd cc
  value-others (H.Region (R.Var n)) e = absurd cc
  value-others _ e = refl

  pub header-resolved : IsResolved T (substituted F 0 header)
  header-resolved =
      filled-unmarked (has_value T) refl (λ v. refl) (λ v. refl) (λ v. refl) F (fresh-unmarked (has_value T) S ks (λ j k e. value-fresh (variable_kind k) (N + j) (fresh-there S L ks j k e)))
      is_made value-others header bare

  alias-fresh : (w : VariableKind) (n : ℕ) → is_alias (variable w n).head ≡ false
  alias-fresh (Term s) n = refl
  alias-fresh Region n = refl

  pub header-no-alias : holds is_alias header ≡ false → holds is_alias (substituted F 0 header) ≡ false
  header-no-alias e = filled-unmarked is_alias refl (λ v. refl) (λ v. refl) (λ v. refl) F (fresh-unmarked is_alias S ks (λ j k _. alias-fresh (variable_kind k) (N + j))) is_alias (λ h x. x) header e

  new-fresh : (w : VariableKind) (n : ℕ) → nat_lt n N ≡ false → is_old N (variable w n).head ≡ false
  new-fresh (Term s) n e = e
  new-fresh Region n e = refl

  new-others : (h : Head) → is_made h ≡ false → is_old N h ≡ false
  new-others (H.Infer v) e = absurd cc
  new-others _ e = refl

  pub header-new : holds (is_old N) (substituted F 0 header) ≡ false
  header-new =
      filled-unmarked (is_old N) refl (λ v. refl) (λ v. refl) (λ v. refl) F (fresh-unmarked (is_old N) S ks (λ j k e. new-fresh (variable_kind k) (N + j) (le-ltb (N + j) N (omega arith))))
      is_made new-others header bare

  pub header-trees : escapes 0 header ≡ false → AreTreesOf T M (substituted F 0 header)
  header-trees e = record { known = header-known; is_closed = filled-closed F (fresh-closed S ks) 0 0 header e }

  pub header-leaves : AreLeaves header → AreLeaves (substituted F 0 header)
  header-leaves a = filled-leaves F (fresh-closed S ks) (fresh-leaves S ks) 0 header a
