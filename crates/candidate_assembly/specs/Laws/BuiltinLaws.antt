-- The rules of the language say the same where a context has grown: what they read of it is what is declared.
use Rattle.std.proofs.Common.{◌≡◌, ℕ, Bool, true, false, Option, Some, None, List, [], ◌∷◌, map, refl, sym, ap, subst, ◌∙◌}
use Rattle.std.specs.List.{filter, list_any}
use Rattle.std.specs.Prelude.{IfSome, ◌&&◌, ◌||◌, not, if◌then◌else◌}
use Rattle.ir_trees.specs.declared.decl.contents.ImplId.{ImplId}
use Rattle.ir_trees.specs.declared.decl.contents.LangItem.TheVariants as L
use Rattle.ir_trees.specs.declared.decl.contents.Sizedness.{Sizedness}
use Rattle.ir_trees.specs.declared.decl.definition.DefinitionKind.{DefinitionKind}
use Rattle.ir_trees.specs.declared.decl.definition.DefinitionKind.TheVariants as D
use Rattle.ir_trees.specs.declared.ir.heads.Head.{Head}
use Rattle.ir_trees.specs.declared.ir.heads.Head.TheVariants as H
use Rattle.ir_trees.specs.declared.ir.heads.PartHead.TheVariants as P
use Rattle.ir_trees.specs.declared.ir.kinds.AliasKind.TheVariants as AK
use Rattle.ir_trees.specs.declared.ir.kinds.Binder.{Binder}
use Rattle.ir_trees.specs.declared.ir.kinds.Clause.{Clause}
use Rattle.ir_trees.specs.declared.ir.kinds.ClosureKind.{ClosureKind}
use Rattle.ir_trees.specs.declared.ir.kinds.FnSig.{FnSig}
use Rattle.ir_trees.specs.declared.ir.kinds.Ty.{Ty}
use Rattle.ir_trees.specs.Declarations.Contents.{Impl}
use Rattle.ir_trees.specs.Declarations.Context.{Context, Grows, world}
use Rattle.ir_trees.specs.Declarations.Declaring.{adt_at, bounds_at, impl_at, trait_at}
use Rattle.ir_trees.specs.Instantiation.Folding.{substituted_tree}
use Rattle.ir_trees.specs.Validity.Held.{definition_held, held_sig}
use Rattle.ir_trees.specs.Unification.ImplLists.{head_impls, may_have_head}
use Rattle.ir_trees.specs.Unification.Impls.{impls_of, is_relevant, listed_type, may_be_for, relevant_impls, self_type}
use Rattle.ir_trees.specs.Syntax.Kinds.{is_fn_trait_compatible}
use Rattle.ir_trees.specs.Declarations.Lookups.{constraint, definition, fn_flags, fn_sig, hidden_type, maybe, adt_flags}
use Rattle.ir_trees.specs.Syntax.Nodes.{kind_at}
use Rattle.ir_trees.specs.Declarations.References.{IsWellFormed}
use Rattle.ir_trees.specs.Syntax.Trees.{Kind, TypeKind, BinderKind, Forest, none, tree, Tree, row}
use Rattle.ir_trees.specs.Validity.WellFormed.{AreGiven, ImplIsGiven, IsWellFormedTable, SignatureFits, TypesFit}
use Rattle.ir_trees.specs.Syntax.Words.{IsTy, clause_tree, ty_tree}
use Rattle.ir_trees.specs.Declarations.Worlds.{Fits, Reference, TraitSort, child_kinds, joined, kinds_of, parameters}
use Rattle.ir_context.proofs.Validity.Given.{definition_given, hidden_fits, impl_given, sig_fits}
use Rattle.ir_trees.proofs.Growth.Kept.{args-kept, number-kept, ty-kept}
use Rattle.ir_trees.proofs.Syntax.Lists.{below_kind}
use Rattle.candidate_eval.specs.declared.eval.certainty.Certainty.TheVariants.{Yes}
use Rattle.candidate_eval.specs.declared.eval.source.BuiltinImplSource.TheVariants.{Trivial}
use Rattle.candidate_eval.specs.declared.eval.source.CandidateSource.TheVariants.{BuiltinImpl}
use Rattle.candidate_eval.specs.declared.structural.Column.{Column}
use Rattle.candidate_eval.specs.declared.structural.Column.TheVariants as C
use Rattle.candidate_eval.specs.Builtins.Callable.{CalledWith, Excluded, calls, can_be_called, are_types, declared_signature, head_calls, instance_calls, is_unknown, signature_callable, signature_if_callable, tuple_of}
use Rattle.candidate_eval.specs.Derivations.ImplRules.{TraitGoal}
use Rattle.candidate_eval.specs.Dynamic.ObjectRequirements.{first_tree}
use Rattle.candidate_eval.specs.Derivations.Rules.{ask, nested_misc}
use Rattle.candidate_eval.specs.Builtins.Tables.{Refused, asks, cell, cells, always, constraint_types, dropped_types, field_types, first_of, hidden_types, is_manually_drop, is_phantom, optional, owned_types, row_of, with_args}
use Rattle.candidate_eval.specs.Builtins.Tables as table
use Rattle.candidate_eval.proofs.Outcomes.Responding.{clauses-kept}
use Rattle.candidate_eval.proofs.Builtins.Types.{types_kept}
use Rattle.candidate_assembly.specs.declared.trait_goals.no_drop.NoDrop.{NoDrop}
use Rattle.candidate_assembly.specs.declared.trait_goals.no_drop.NoDrop.TheVariants as N
use Rattle.candidate_assembly.specs.Rules.BuiltinRules.{ambiguous_rule, auto_barred, auto_refused, auto_rule, bounds_name, call_rule, copy_rule, flag_of_trait, has_barring_impl, is_nonempty, is_numeric_variable, is_of_trait, may_have_impls, misc, no_drop_needs, parts_rule, positive, rule_by_needs, self_of, trait_alias_rule, trait_rule}
use Rattle.candidate_assembly.specs.Laws.Given.{AdtIsGiven, BoundsAreGiven, IsCounted, TraitIsGiven, AllIsGiven, all_is_given, declared_adt, declared_opaque, declared_trait}
use Rattle.candidate_assembly.specs.Goals.KindLaws.{ReferenceFits}
use Rattle.candidate_assembly.specs.Goals.Kinds.{BuiltinRule, ErrorRule, AutoTraitRule, TraitAliasRule, SizednessRule, CopyCloneRule, FnTraitRule, FnPtrTraitRule, TupleRule, PointeeRule, DiscriminantKindRule, DestructRule, NoDropRule}
use Rattle.candidate_assembly.specs.Goals.TraitGoals.{item_trait}
use Rattle.candidate_assembly.specs.Goals.TraitRules.{trait_rules}

-- Lists of which each element comes to the same.

map-then : {X Y Z : Type 0} (a b : X → Y) (f : Y → Z) (xs : List X) → map a xs ≡ map b xs → map (λ x. f (a x)) xs ≡ map (λ x. f (b x)) xs
map-then a b f [] e = refl
map-then a b f (x ∷ xs) e =
    let here : a x ≡ b x = cc in
    let rest : map a xs ≡ map b xs = cc in
    λ j. f (here j) ∷ map-then a b f xs rest j

any-then : {X Y : Type 0} (a b : X → Y) (f : Y → Bool) (xs : List X) → map a xs ≡ map b xs → list_any (λ x. f (a x)) xs ≡ list_any (λ x. f (b x)) xs
any-then a b f [] e = refl
any-then a b f (x ∷ xs) e =
    let here : a x ≡ b x = cc in
    let rest : map a xs ≡ map b xs = cc in
    λ j. f (here j) || any-then a b f xs rest j

-- Types that are declared, with arguments put in.

args-stay : (old new : Context) (args : Forest) (ts : List Ty) → Grows old new → TypesFit old.trees ts → with_args new args ts ≡ with_args old args ts
args-stay old new args ts g f = map-then (ty_tree new.trees) (ty_tree old.trees) (substituted_tree args) ts (types_kept old.trees new.trees ts g.kept f).1

pub field_types_stay : (old new : Context) (n : ℕ) (args : Forest) → Grows old new → AdtIsGiven old n → field_types new n args ≡ field_types old n args
field_types_stay old new n args g f =
    ap (λ (c : Context). with_args new args (maybe [] (λ a. a.fields) (adt_at c n))) g.same ∙ args-stay old new args (maybe [] (λ a. a.fields) (adt_at old n)) g f.fields

optional-fits : (ts : List Tree) (o : Option Ty) → IfSome o (λ t. IsTy ts t) → TypesFit ts (optional o)
optional-fits ts None e = refl
optional-fits ts (Some t) e = λ j. e j ∷ []

constraints-stay : (old new : Context) (n : ℕ) (args : Forest) (s : Sizedness) → Grows old new → AdtIsGiven old n → constraint_types new n args s ≡ constraint_types old n args s
constraints-stay old new n args s g f =
    let declared : Option Ty = maybe None (constraint s) (adt_at old n) in
    ap (λ (c : Context). with_args new args (optional (maybe None (constraint s) (adt_at c n)))) g.same
    ∙ args-stay old new args (optional declared) g (optional-fits old.trees declared (f.constraints s))

hidden-given : (c : Context) (n : ℕ) (o : Option DefinitionKind) → IfSome o (λ k. AreGiven c (definition_held c.contents n k)) → IfSome (hidden_type o) (λ t. IsTy c.trees t)
hidden-given c n (Some (D.Opaque hidden p)) g = hidden_fits c n p hidden g
hidden-given c n _ g = tt

hidden-stay : (old new : Context) (n : ℕ) (args : Forest) → IsWellFormedTable old → Grows old new → hidden_types new n args ≡ hidden_types old n args
hidden-stay old new n args t g =
    let declared : Option Ty = hidden_type (definition old n) in
    ap (λ (c : Context). with_args new args (optional (hidden_type (definition c n)))) g.same
    ∙ args-stay old new args (optional declared) g (optional-fits old.trees declared (hidden-given old n (definition old n) (definition_given old t n)))

owned-stay : (old new : Context) (n : ℕ) (args : Forest) → Grows old new → AdtIsGiven old n → owned_types new n args ≡ owned_types old n args
owned-stay old new n args g f =
    ap (λ (c : Context). if is_phantom (adt_flags (definition c n)) then first_of args else field_types new n args) g.same
    ∙ ap (λ ts. if is_phantom (adt_flags (definition old n)) then first_of args else ts) (field_types_stay old new n args g f)

dropped-stay : (old new : Context) (n : ℕ) (args : Forest) → Grows old new → AdtIsGiven old n → dropped_types new n args ≡ dropped_types old n args
dropped-stay old new n args g f =
    ap (λ (c : Context). if is_manually_drop (adt_flags (definition c n)) then [] else field_types new n args) g.same
    ∙ ap (λ ts. if is_manually_drop (adt_flags (definition old n)) then [] else ts) (field_types_stay old new n args g f)

-- What a type's head names holds what is given: a data type its fields and constraints, an opaque type its bounds.
abbrev pub HeadIsGiven : Context → Head → Type 0
HeadIsGiven c (H.Adt i) = AdtIsGiven c i.0
HeadIsGiven c (H.Alias AK.Opaque i) = BoundsAreGiven c i.0
HeadIsGiven c _ = Unit {0}

-- the signature of a function, from all that it holds
signature-fits : (c : Context) (s : Binder FnSig) (l : _) {o : _} → held_sig o s ≡ l → AreGiven c l → SignatureFits c.trees s
signature-fits c s l {o} e h = sig_fits c o s (subst (AreGiven c) (sym e) h)

module _ (old new : Context) (t : IsWellFormedTable old) (g : Grows old new) where
  -- The tables.

  row-stays : (h : Head) (below : Forest) → HeadIsGiven old h → table.row new h below ≡ table.row old h below
  row-stays (H.Adt i) below f =
      let owned = owned-stay old new i.0 below g f in
      let dropped = dropped-stay old new i.0 below g f in
      λ j. cells (asks (owned j)) (λ s. asks (constraints-stay old new i.0 below s g f j)) Refused (asks (dropped j))
  row-stays (H.Alias AK.Opaque i) below f = λ j. cells (asks (hidden-stay old new i.0 below t g j)) (always Refused) Refused Refused
  row-stays _ below f = refl

  cell-stays : (k : Column) (u : Tree) → HeadIsGiven old u.head → cell k (row_of new u) ≡ cell k (row_of old u)
  cell-stays k u f = ap (cell k) (row-stays u.head u.children f)

  -- Impls that may be for a type.

  self-type-stays : (i : ImplId) → self_type new.trees (impl_at new i) ≡ self_type old.trees (impl_at old i)
  self-type-stays i = ap (λ (c : Context). self_type new.trees (impl_at c i)) g.same ∙ of (impl_at old i) (impl_given old t i)
    where
      of : (o : Option Impl) → IfSome o (ImplIsGiven old) → self_type new.trees o ≡ self_type old.trees o
      of None h = refl
      of (Some x) h =
          let a = args-kept old new x.trait_ref.args g h.header.list in
          let k : kind_at new.trees x.trait_ref.args.0 ≡ kind_at old.trees x.trait_ref.args.0 = a.0 ∙ sym h.header.list in
          λ j. listed_type (k j) (a.1 j)

  relevant-among : (u : Tree) (is : List ImplId) → filter (is_relevant new u) is ≡ filter (is_relevant old u) is
  relevant-among u [] = refl
  relevant-among u (i ∷ is) = λ j. if may_be_for u (self-type-stays i j) then i ∷ relevant-among u is j else relevant-among u is j

  pub relevant_stay : (n : ℕ) (u : Tree) → relevant_impls new n u ≡ relevant_impls old n u
  relevant_stay n u = ap (λ (c : Context). filter (is_relevant new u) (impls_of c n)) g.same ∙ relevant-among u (impls_of old n)

  among-head : (h : Head) (is : List ImplId)
      → filter (λ (n : ImplId). may_have_head h (self_type new.trees (impl_at old n))) is ≡ filter (λ (n : ImplId). may_have_head h (self_type old.trees (impl_at old n))) is
  among-head h [] = refl
  among-head h (i ∷ is) =
      let stays = ap (λ (c : Context). self_type new.trees (impl_at c i)) (sym g.same) ∙ self-type-stays i in
      λ j. if may_have_head h (stays j) then i ∷ among-head h is j else among-head h is j

  head-stays : (n : ℕ) (h : Head) → head_impls new n h ≡ head_impls old n h
  head-stays n h = ap (λ (c : Context). filter (λ (m : ImplId). may_have_head h (self_type new.trees (impl_at c m))) (impls_of c n)) g.same ∙ among-head h (impls_of old n)

  barring-stays : (r : Reference) → has_barring_impl new r ≡ has_barring_impl old r
  barring-stays r =
      let flag = ap (λ (c : Context). flag_of_trait (λ f. f.by_head) c r.trait) g.same in
      λ j. if flag j then is_nonempty (head-stays r.trait (first_tree r.arguments).head j) else is_nonempty (relevant_stay r.trait (first_tree r.arguments) j)

  -- Auto traits.

  bounds-stay : (a n : ℕ) → BoundsAreGiven old a → bounds_name new a n ≡ bounds_name old a n
  bounds-stay a n f =
      let xs = maybe [] (λ b. b.self_bounds) (bounds_at old a) in
      ap (λ (c : Context). list_any (λ (x : Clause). is_of_trait n (clause_tree new.trees x).head) (maybe [] (λ b. b.self_bounds) (bounds_at c a))) g.same
      ∙ any-then (clause_tree new.trees) (clause_tree old.trees) (λ u. is_of_trait n u.head) xs (clauses-kept old new xs g f).1

  barred-stays : (n : ℕ) (h : Head) → HeadIsGiven old h → auto_barred new n h ≡ auto_barred old n h
  barred-stays n (H.Alias AK.Opaque i) f = bounds-stay i.0 n f
  barred-stays n (H.Foreign i) f = ap (λ (c : Context). auto_barred c n (H.Foreign i)) g.same
  barred-stays n (H.Adt i) f = ap (λ (c : Context). auto_barred c n (H.Adt i)) g.same
  barred-stays n _ f = refl

  refused-stays : (r : Reference) (h : Head) → HeadIsGiven old h → auto_refused new r h ≡ auto_refused old r h
  refused-stays r h f =
      let barred = barred-stays r.trait h f in
      λ j. barred j || (may_have_impls h && barring-stays r j)

  auto-stays : (p : TraitGoal) → HeadIsGiven old (self_of p).head → auto_rule new p ≡ auto_rule old p
  auto-stays p f =
      let u = self_of p in
      let refused = refused-stays p.reference u.head f in
      let asked = cell-stays C.Auto u f in
      λ j. if is_numeric_variable u.head then ambiguous_rule p (positive p) else parts_rule p (positive p && not (refused j)) misc (asked j)

  -- Trait aliases.

  alias-stays : (p : TraitGoal) → TraitIsGiven old p.reference.trait → trait_alias_rule new p ≡ trait_alias_rule old p
  alias-stays p f =
      let ws = maybe [] (λ a. a.wheres) (trait_at old p.reference.trait) in
      let put = substituted_tree p.reference.arguments in
      let clauses : map (λ (x : Clause). put (clause_tree new.trees x)) (maybe [] (λ a. a.wheres) (trait_at new p.reference.trait)) ≡ map (λ (x : Clause). put (clause_tree old.trees x)) ws =
      ap (λ (c : Context). map (λ (x : Clause). put (clause_tree new.trees x)) (maybe [] (λ a. a.wheres) (trait_at c p.reference.trait))) g.same
      ∙ map-then (clause_tree new.trees) (clause_tree old.trees) put ws (clauses-kept old new ws g f.wheres).1 in
      λ j. record { env = p.env; applies = positive p; steps = nested_misc (clauses j); ending = ask misc Yes }

  -- What is called.

  function-stays : (args : Forest) (i : ℕ) (o : Option DefinitionKind) → IfSome o (λ k. AreGiven old (definition_held old.contents i k))
      → instance_calls new.trees args (signature_if_callable new.trees (fn_flags o) (fn_sig o)) ≡ instance_calls old.trees args (signature_if_callable old.trees (fn_flags o) (fn_sig o))
  function-stays args i (Some (D.Function flags sig)) h =
      let fits = signature-fits old sig (definition_held old.contents i (D.Function flags sig)) refl h in
      let inputs = args-kept old new sig.value.inputs g fits.inputs in
      let output = ty-kept old new sig.value.output g fits.output in
      let v : kind_at old.trees sig.vars.0 ≡ BinderKind = fits.vars in
      let vars = number-kept old.trees new.trees sig.vars.0 g.kept (below_kind old.trees sig.vars.0 BinderKind refl v) in
      let whole : declared_signature new.trees sig ≡ declared_signature old.trees sig =
      λ j. record { head = H.Part P.Sig; children = row (vars.1 j) (row (tuple_of (inputs.1 j)) (row (output.1 j) none)) } in
      let can : can_be_called new.trees flags sig.value ≡ can_be_called old.trees flags sig.value =
      λ j. is_fn_trait_compatible sig.value && (not flags.target_features && are_types (inputs.1 j)) in
      ap (λ b. instance_calls new.trees args (if b then Some sig else None)) can ∙ by (can_be_called old.trees flags sig.value) whole
    where
      by : (b : Bool) → declared_signature new.trees sig ≡ declared_signature old.trees sig → instance_calls new.trees args (if b then Some sig else None) ≡ instance_calls old.trees args (if b then Some sig else None)
      by true e = λ j. CalledWith (signature_callable (substituted_tree args (e j)))
      by false e = refl
  function-stays args i _ h = refl

  head-calls-stay : (k : ClosureKind) (h : Head) (below : Forest) → head_calls new k h below ≡ head_calls old k h below
  head-calls-stay k (H.FnDef i) below =
      ap (λ (c : Context). instance_calls new.trees below (signature_if_callable new.trees (fn_flags (definition c i.0)) (fn_sig (definition c i.0)))) g.same
      ∙ function-stays below i.0 (definition old i.0) (definition_given old t i.0)
  head-calls-stay k _ below = refl

  pub calls_stay : (k : ClosureKind) (u : Tree) → calls new k u ≡ calls old k u
  calls_stay k u = ap (λ x. if is_unknown u.head then Excluded else x) (head-calls-stay k u.head u.children)

  -- No drop.

  needs-stay : (h : Head) → no_drop_needs new h ≡ no_drop_needs old h
  needs-stay (H.Adt i) = ap (λ (c : Context). no_drop_needs c (H.Adt i)) g.same
  needs-stay _ = refl

  no-drop-stays : (p : TraitGoal) (n : NoDrop) → HeadIsGiven old (self_of p).head → rule_by_needs new p n ≡ rule_by_needs old p n
  no-drop-stays p N.Nothing f = refl
  no-drop-stays p N.Elements f = ap (parts_rule p (positive p) misc) (cell-stays C.Auto (self_of p) f)
  no-drop-stays p N.Copy f = ap (λ (c : Context). copy_rule p (item_trait c L.Copy)) g.same

  -- The rules, where what the goal's self type and trait name holds what is given.
  pub builtin_stays_at : (r : BuiltinRule) (p : TraitGoal) → HeadIsGiven old (self_of p).head → TraitIsGiven old p.reference.trait → trait_rule r new p ≡ trait_rule r old p
  builtin_stays_at ErrorRule p f h = refl
  builtin_stays_at AutoTraitRule p f h = auto-stays p f
  builtin_stays_at TraitAliasRule p f h = alias-stays p h
  builtin_stays_at (SizednessRule s) p f h = ap (parts_rule p (positive p) (BuiltinImpl Trivial)) (cell-stays (C.Sizedness s) (self_of p) f)
  builtin_stays_at CopyCloneRule p f h = ap (parts_rule p (positive p) misc) (cell-stays C.CopyClone (self_of p) f)
  builtin_stays_at (FnTraitRule k) p f h =
      ap (λ x. call_rule p x (item_trait new L.Sized)) (calls_stay k (self_of p)) ∙ ap (λ (c : Context). call_rule p (calls old k (self_of p)) (item_trait c L.Sized)) g.same
  builtin_stays_at FnPtrTraitRule p f h = refl
  builtin_stays_at TupleRule p f h = refl
  builtin_stays_at PointeeRule p f h = refl
  builtin_stays_at DiscriminantKindRule p f h = refl
  builtin_stays_at DestructRule p f h = refl
  builtin_stays_at NoDropRule p f h = ap (rule_by_needs new p) (needs-stay (self_of p).head) ∙ no-drop-stays p (no_drop_needs old (self_of p).head) f

-- Of any trees, where lists of contents are no longer than a machine counts.

head_of_all : (c : Context) → AllIsGiven c → (h : Head) → HeadIsGiven c h
head_of_all c a (H.Adt i) = a.adts i.0
head_of_all c a (H.Alias AK.Opaque i) = a.bounds i.0
head_of_all c a _ = tt

pub builtin_stays : (old new : Context) → IsWellFormedTable old → IsCounted old → Grows old new → (r : BuiltinRule) (p : TraitGoal) → trait_rule r new p ≡ trait_rule r old p
builtin_stays old new t l g r p =
    let all = all_is_given old t l in
    builtin_stays_at old new t g r p (head_of_all old all (self_of p).head) (all.traits p.reference.trait)

-- Of a goal of the context, however long they are: its self type names what is declared as it is named, and so does its trait.

pub head_is_given : (c : Context) → IsWellFormedTable c → (h : Head) (ks : List Kind) → child_kinds (world c) h ks ≡ Some ks → HeadIsGiven c h
head_is_given c t (H.Adt i) ks e = declared_adt c t i.0 ks e
head_is_given c t (H.Alias AK.Opaque i) ks e = declared_opaque c t i.0 ks e
head_is_given c t _ ks e = tt

first_is_given : (c : Context) → IsWellFormedTable c → (ts : Forest) → Fits (world c) ts → HeadIsGiven c (first_tree ts).head
first_is_given c t none f = tt
first_is_given c t (tree h below rest) f = head_is_given c t h (kinds_of below) f.0

pub takes_declared : (c : Context) → IsWellFormedTable c → (n : ℕ) (ks : List Kind) → joined (Some (TypeKind ∷ [])) (parameters (world c) TraitSort n) ≡ Some ks → TraitIsGiven c n
takes_declared c t n ks e = of (parameters (world c) TraitSort n) refl
  where
    of : (o : Option (List Kind)) → parameters (world c) TraitSort n ≡ o → TraitIsGiven c n
    of None q = let z = sym (ap (joined (Some (TypeKind ∷ []))) q) ∙ e in absurd cc
    of (Some ps) q = declared_trait c t n ps q

pub nodes_fit : (c : Context) → IsWellFormedTable c → IsWellFormed c
unfolding IsWellFormedTable
nodes_fit c t = t.arguments.nodes

pub goal_builtin_stays : (old new : Context) → IsWellFormedTable old → Grows old new → (p : TraitGoal) → ReferenceFits trait_rules old p → (r : BuiltinRule) → trait_rule r new p ≡ trait_rule r old p
goal_builtin_stays old new t g p h r =
    builtin_stays_at old new t g r p (first_is_given old t p.reference.arguments h.fits) (takes_declared old t p.reference.trait (kinds_of p.reference.arguments) h.takes)
