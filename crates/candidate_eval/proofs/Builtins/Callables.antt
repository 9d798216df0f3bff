-- What can be called, over the trees of kinds.
use Rattle.std.proofs.Common.{◌≡◌, ◌↔◌, IsTrue, ◌+◌, ◌≤◌, ℕ, List, [], ◌∷◌, Bool, true, false, not, Option, Some, None, inl, inr, refl, sym, ◌∙◌, ap, subst, arith}
use Rattle.std.specs.Prelude.{length, drop, ◌&&◌, ◌||◌, if◌then◌else◌}
use Rattle.std.specs.List.{list_all}
use Rattle.ir_trees.specs.declared.decl.definition.FnFlags.{FnFlags}
use Rattle.ir_trees.specs.declared.ir.heads.Builtin.TheVariants as B
use Rattle.ir_trees.specs.declared.ir.heads.Head.{Head}
use Rattle.ir_trees.specs.declared.ir.heads.Head.TheVariants as H
use Rattle.ir_trees.specs.declared.ir.heads.PartHead.TheVariants as P
use Rattle.ir_trees.specs.declared.ir.kinds.Args.{Args}
use Rattle.ir_trees.specs.declared.ir.kinds.Binder.{Binder}
use Rattle.ir_trees.specs.declared.ir.kinds.ClosureArgs.{ClosureArgs}
use Rattle.ir_trees.specs.declared.ir.kinds.ClosureId.{ClosureId}
use Rattle.ir_trees.specs.declared.ir.kinds.ClosureKind.{ClosureKind}
use Rattle.ir_trees.specs.declared.ir.kinds.ClosureSig.{ClosureSig}
use Rattle.ir_trees.specs.declared.ir.kinds.FnId.{FnId}
use Rattle.ir_trees.specs.declared.ir.kinds.FnSig.{FnSig}
use Rattle.ir_trees.specs.declared.ir.kinds.GenericArg.{GenericArg}
use Rattle.ir_trees.specs.declared.ir.kinds.GenericArg.TheVariants as G
use Rattle.ir_trees.specs.declared.ir.kinds.InferTy.TheVariants as V
use Rattle.ir_trees.specs.declared.ir.kinds.Pattern.TheVariants as Pat
use Rattle.ir_trees.specs.declared.ir.kinds.Sig.{Sig}
use Rattle.ir_trees.specs.declared.ir.kinds.Ty.{Ty}
use Rattle.ir_trees.specs.declared.ir.kinds.TyKind.{TyKind}
use Rattle.ir_trees.specs.declared.ir.kinds.TyKind.TheVariants as K
use Rattle.ir_trees.specs.declared.ir.stop.Stop.{Stop}
use Rattle.ir_trees.specs.Syntax.Trees.{Kind, TypeKind, ConstantKind, RegionKind, BinderKind, ArgumentsKind, SignatureKind, Forest, none, tree, Tree, is_list_kind, is_type_kind, height, heights, holds, tree_holds, row, join, kind_of}
use Rattle.ir_trees.specs.Syntax.Nodes.{tree_at, kind_at}
use Rattle.ir_trees.specs.Declarations.Context.{Context, Grows, world}
use Rattle.ir_trees.specs.Hierarchy.Elaboration.{first_children}
use Rattle.ir_trees.specs.Instantiation.Folding.{IsSubstStop, no_memory, few_numbers, high_tree, argument, lacks_argument, substituted_tree}
use Rattle.ir_trees.specs.Syntax.Kinds.{is_fn_trait_compatible}
use Rattle.ir_trees.specs.Declarations.Lookups.{definition, fn_flags, fn_sig, is_const_closure}
use Rattle.ir_trees.specs.Declarations.Parameters.{is_type_arg}
use Rattle.ir_trees.specs.Declarations.References.{Takes}
use Rattle.ir_context.specs.Instantiation.Signatures.{SignatureHas}
use Rattle.ir_trees.specs.Unification.Substitutions.{alone}
use Rattle.ir_trees.specs.Validity.WellFormed.{SignatureFits}
use Rattle.ir_trees.specs.Syntax.Words.{IsTy, IsArgs, SigFits, KindFits, ListFits, IsMkStop, list_forest, ty_tree, kind_tree, sig_tree, sig_kind_tree, args_forest}
use Rattle.ir_trees.specs.Declarations.Worlds.{FunctionSort, all_of, kinds_of, parameters}
use Rattle.ir_trees.proofs.Instantiation.Folding.{or-right}
use Rattle.ir_trees.proofs.Syntax.Lists.{below_kind}
use Rattle.ir_trees.specs.Syntax.Trees.{there}
use Rattle.ir_trees.proofs.Growth.Kept.{number-kept, args-kept}
use Rattle.ir_trees.proofs.Syntax.Rows.{join-none, kind-of, row-single, row-list}
use Rattle.candidate_eval.specs.declared.structural.callable.CallableId.TheVariants as I
use Rattle.candidate_eval.specs.declared.structural.callable.Called.{Called}
use Rattle.candidate_eval.specs.Builtins.Asked.{kind_known}
use Rattle.candidate_eval.specs.Builtins.Tables.{IsTypesStop}
use Rattle.candidate_eval.specs.Builtins.Callable.{Callable, Calls, Refused, CalledWith, ConstCalls, ConstRefused, ConstCalledWith, IsMadeStop, IsCallStop, IsConstCallStop, IsCallable, CalledFits, calls, makes, const_calls, const_makes, is_unknown, signature_callable, pointer_callable, pointer_calls, pointer_makes, callable_of, tuple_of, all_but_last, last_tree, last_but_one, are_types, can_be_called, signature_if_callable, function_signature, declared_signature, instance_calls, instance_makes, function_calls, function_makes, closure_calls, called_of, called_calls, called_makes, called_const_calls, called_const_makes, is_const_function, called_there, const_function_calls, const_function_makes, const_closure_calls}

-- A closure's signature

sig-row : (ts : List Tree) (v i o : ℕ) → kind_at ts v ≡ BinderKind → kind_at ts i ≡ TypeKind → kind_at ts o ≡ TypeKind
    → row (tree_at ts v) (row (tree_at ts i) (row (tree_at ts o) none))
    ≡ tree (tree_at ts v).head (tree_at ts v).children (tree (tree_at ts i).head (tree_at ts i).children (tree (tree_at ts o).head (tree_at ts o).children none))
sig-row ts v i o e f g =
    row-single ts v BinderKind _ refl refl e
    ∙ ap (tree (tree_at ts v).head (tree_at ts v).children)
    (row-single ts i TypeKind _ refl refl f ∙ ap (tree (tree_at ts i).head (tree_at ts i).children) (row-single ts o TypeKind none refl refl g))

abbrev forest-callable : Forest → Callable
forest-callable f = record { variables = first_children f; inputs = argument f 1; output = argument f 2 }

pub signature_read : (ts : List Tree) (s : Sig) (b : Binder ClosureSig) (r : Binder (Ty × Ty)) → SigFits ts b → sig_kind_tree ts b ≡ sig_tree ts s → r ≡ record { vars = b.vars; value = (b.value.inputs, b.value.output) }
    → callable_of ts r ≡ signature_callable (sig_tree ts s)
signature_read ts s b r f e q =
    let v : kind_at ts b.vars.0 ≡ BinderKind = cc in
    let i : kind_at ts b.value.inputs.0 ≡ TypeKind = cc in
    let o : kind_at ts b.value.output.0 ≡ TypeKind = cc in
    ap (callable_of ts) q
    ∙ (sym (ap forest-callable (sig-row ts b.vars.0 b.value.inputs.0 b.value.output.0 v i o)) ∙ ap signature_callable e)

pub signature_fits : (ts : List Tree) (b : Binder ClosureSig) (r : Binder (Ty × Ty)) → SigFits ts b → r ≡ record { vars = b.vars; value = (b.value.inputs, b.value.output) } → IsCallable ts r
signature_fits ts b r f q = subst (IsCallable ts) (sym q) (record { vars = cc; inputs = cc; output = cc })

-- A function pointer

last-alone : (a : Forest) (h : Head) (x : Forest) → all_but_last (join a (tree h x none)) ≡ a
last-alone none h x = refl
last-alone (tree g b none) h x = refl
last-alone (tree g b (tree k c rest)) h x = ap (tree g b) (last-alone (tree k c rest) h x)

last-is : (a : Forest) (h : Head) (x : Forest) → last_tree (join a (tree h x none)) ≡ record { head = h; children = x }
last-is none h x = refl
last-is (tree g b none) h x = refl
last-is (tree g b (tree k c rest)) h x = last-is (tree k c rest) h x

pointer-row : (ts : List Tree) (v i o : ℕ) → kind_at ts v ≡ BinderKind → kind_at ts i ≡ ArgumentsKind → kind_at ts o ≡ TypeKind
    → row (tree_at ts v) (row (tree_at ts i) (row (tree_at ts o) none))
    ≡ tree (tree_at ts v).head (tree_at ts v).children (join (tree_at ts i).children (tree (tree_at ts o).head (tree_at ts o).children none))
pointer-row ts v i o e f g =
    row-single ts v BinderKind _ refl refl e
    ∙ ap (tree (tree_at ts v).head (tree_at ts v).children)
    (row-list ts i ArgumentsKind _ refl refl f ∙ ap (join (tree_at ts i).children) (row-single ts o TypeKind none refl refl g))

pub pointer_is : (ts : List Tree) (s : Binder FnSig) → KindFits ts (K.FnPtr s)
    → pointer_callable (kind_tree ts (K.FnPtr s)).children ≡ record { variables = (tree_at ts s.vars.0).children; inputs = tuple_of (args_forest ts s.value.inputs); output = tree_at ts s.value.output.0 }
pointer_is ts s f =
    let v : kind_at ts s.vars.0 ≡ BinderKind = cc in
    let i : kind_at ts s.value.inputs.0 ≡ ArgumentsKind = cc in
    let o : kind_at ts s.value.output.0 ≡ TypeKind = cc in
    let inputs = args_forest ts s.value.inputs in
    let out = tree_at ts s.value.output.0 in
    ap pointer_callable (pointer-row ts s.vars.0 s.value.inputs.0 s.value.output.0 v i o)
    ∙ (λ j. record { variables = (tree_at ts s.vars.0).children; inputs = tuple_of (last-alone inputs out.head out.children j); output = last-is inputs out.head out.children j })

-- trees whose kinds are all those of types, and then one more
types-before : (a : Forest) (h : Head) (x : Forest) → kinds_of (join a (tree h x none)) ≡ all_of TypeKind (kinds_of (join a (tree h x none))) → kinds_of a ≡ all_of TypeKind (kinds_of a)
types-before none h x e = refl
types-before (tree g b rest) h x e =
    let one : kind_of g ≡ TypeKind = cc in
    let others : kinds_of (join rest (tree h x none)) ≡ all_of TypeKind (kinds_of (join rest (tree h x none))) = cc in
    let r = types-before rest h x others in
    ap (λ (k : Kind). k ∷ kinds_of rest) one ∙ ap (λ (ks : List Kind). TypeKind ∷ ks) r

all-types : (ks : List Kind) (k : Kind) → k ∷ ks ≡ TypeKind ∷ all_of TypeKind ks → k ∷ ks ≡ all_of TypeKind (k ∷ ks)
all-types ks k e = e

drop-one : (a : Forest) (h : Head) (x : Forest) → kinds_of (join a (tree h x none)) ≡ TypeKind ∷ all_of TypeKind (drop 1 (kinds_of (join a (tree h x none))))
    → kinds_of (join a (tree h x none)) ≡ all_of TypeKind (kinds_of (join a (tree h x none)))
drop-one none h x e = e
drop-one (tree g b rest) h x e = e

pub inputs_taken : (c : Context) (s : Binder FnSig) → KindFits c.trees (K.FnPtr s) → Takes (world c) (kind_tree c.trees (K.FnPtr s)) → Takes (world c) (kind_tree c.trees (K.Tuple s.value.inputs))
inputs_taken c s f t = λ l.
    let ts = c.trees in
    let v : kind_at ts s.vars.0 ≡ BinderKind = cc in
    let i : kind_at ts s.value.inputs.0 ≡ ArgumentsKind = cc in
    let o : kind_at ts s.value.output.0 ≡ TypeKind = cc in
    let inputs = args_forest ts s.value.inputs in
    let out = tree_at ts s.value.output.0 in
    let below : Forest → Type 0 = λ (x : Forest). Some (BinderKind ∷ (TypeKind ∷ all_of TypeKind (drop 2 (kinds_of x)))) ≡ Some (kinds_of x) in
    let there = subst below (pointer-row ts s.vars.0 s.value.inputs.0 s.value.output.0 v i o) (t refl) in
    let kinds : TypeKind ∷ all_of TypeKind (drop 1 (kinds_of (join inputs (tree out.head out.children none)))) ≡ kinds_of (join inputs (tree out.head out.children none)) = cc in
    let all = types-before inputs out.head out.children (drop-one inputs out.head out.children (sym kinds)) in
    let row-is : row (tree_at ts s.value.inputs.0) none ≡ inputs = row-list ts s.value.inputs.0 ArgumentsKind none refl refl i ∙ join-none inputs in
    subst (λ (x : Forest). Some (all_of TypeKind (kinds_of x)) ≡ Some (kinds_of x)) (sym row-is) (ap Some (sym all))

pub tuple-tree : (ts : List Tree) (s : Binder FnSig) → KindFits ts (K.FnPtr s) → kind_tree ts (K.Tuple s.value.inputs) ≡ (pointer_callable (kind_tree ts (K.FnPtr s)).children).inputs
tuple-tree ts s f =
    let i : kind_at ts s.value.inputs.0 ≡ ArgumentsKind = cc in
    ap tuple_of (row-list ts s.value.inputs.0 ArgumentsKind none refl refl i ∙ join-none (args_forest ts s.value.inputs))
    ∙ sym (ap (λ (c : Callable). c.inputs) (pointer_is ts s f))

pub unmade : (old new : Context) (t : Tree) (s : Stop) → new ≡ old → IsMkStop old.trees (height t) s → IsTypesStop (length new.trees) (t ∷ []) s
unmade old new t s e (inl m) = inl m
unmade old new t s e (inr (f, inl n)) =
    let same : length new.trees ≡ 4294967295 = ap (λ (c : Context). length c.trees) e ∙ n in
    inr (record { place = 0; type = t; is = refl; stop = subst (IsSubstStop (length new.trees) (alone t)) (sym f) (few_numbers (omega (arith, same))) })
unmade old new t s e (inr (f, inr h)) =
    inr (record { place = 0; type = t; is = refl; stop = subst (IsSubstStop (length new.trees) (alone t)) (sym f) (high_tree (omega (arith, h))) })

pub tuple_unmade : (old new : Context) (g : Binder FnSig) (s : Stop) → KindFits old.trees (K.FnPtr g) → new ≡ old → IsMkStop old.trees (height (kind_tree old.trees (K.Tuple g.value.inputs))) s
    → IsTypesStop (length new.trees) ((pointer_callable (kind_tree old.trees (K.FnPtr g)).children).inputs ∷ []) s
tuple_unmade old new g s f e m =
    subst (λ (t : Tree). IsTypesStop (length new.trees) (t ∷ []) s) (tuple-tree old.trees g f) (unmade old new (kind_tree old.trees (K.Tuple g.value.inputs)) s e m)

pub tupled_fits : (old new : Context) (g : Binder FnSig) (t : Ty) → Grows old new → KindFits old.trees (K.FnPtr g) → IsTy new.trees t
    → IsCallable new.trees (record { vars = g.vars; value = (t, g.value.output) })
tupled_fits old new g t w f i =
    let v : kind_at old.trees g.vars.0 ≡ BinderKind = cc in
    let o : kind_at old.trees g.value.output.0 ≡ TypeKind = cc in
    record {
      vars = (number-kept old.trees new.trees g.vars.0 w.kept (below_kind old.trees g.vars.0 BinderKind refl v)).0 ∙ v;
      inputs = i;
      output = (number-kept old.trees new.trees g.value.output.0 w.kept (below_kind old.trees g.value.output.0 TypeKind refl o)).0 ∙ o;
    }

pub tupled_callable : (old new : Context) (g : Binder FnSig) (t : Ty) → Grows old new → KindFits old.trees (K.FnPtr g) → ty_tree new.trees t ≡ kind_tree old.trees (K.Tuple g.value.inputs)
    → callable_of new.trees (record { vars = g.vars; value = (t, g.value.output) }) ≡ pointer_callable (kind_tree old.trees (K.FnPtr g)).children
tupled_callable old new g t w f e =
    let v : kind_at old.trees g.vars.0 ≡ BinderKind = cc in
    let o : kind_at old.trees g.value.output.0 ≡ TypeKind = cc in
    let v-new : tree_at new.trees g.vars.0 ≡ tree_at old.trees g.vars.0 = (number-kept old.trees new.trees g.vars.0 w.kept (below_kind old.trees g.vars.0 BinderKind refl v)).1 in
    let o-new : tree_at new.trees g.value.output.0 ≡ tree_at old.trees g.value.output.0 = (number-kept old.trees new.trees g.value.output.0 w.kept (below_kind old.trees g.value.output.0 TypeKind refl o)).1 in
    let inputs = e ∙ (tuple-tree old.trees g f ∙ ap (λ (c : Callable). c.inputs) (pointer_is old.trees g f)) in
    let made : callable_of new.trees (record { vars = g.vars; value = (t, g.value.output) })
    ≡ record { variables = (tree_at old.trees g.vars.0).children; inputs = tuple_of (args_forest old.trees g.value.inputs); output = tree_at old.trees g.value.output.0 } =
    λ j. record { variables = (v-new j).children; inputs = inputs j; output = o-new j } in
    made ∙ sym (pointer_is old.trees g f)

-- what a pointer says
abbrev if-called : Callable → Bool → Calls
if-called s b = if b then CalledWith s else Refused

pub compatible_calls : (ts : List Tree) (g : Binder FnSig) (s : Callable) → is_fn_trait_compatible g.value ≡ true → s ≡ pointer_callable (kind_tree ts (K.FnPtr g)).children → pointer_calls ts g ≡ CalledWith s
compatible_calls ts g s e q = ap (if-called (pointer_callable (kind_tree ts (K.FnPtr g)).children)) e ∙ ap CalledWith (sym q)

pub incompatible_calls : (ts : List Tree) (g : Binder FnSig) → is_fn_trait_compatible g.value ≡ false → pointer_calls ts g ≡ Refused
incompatible_calls ts g e = ap (if-called (pointer_callable (kind_tree ts (K.FnPtr g)).children)) e

pub pointer_stop : (ts : List Tree) (g : Binder FnSig) (given : ℕ) (s : Stop) → is_fn_trait_compatible g.value ≡ true
    → IsTypesStop given ((pointer_callable (kind_tree ts (K.FnPtr g)).children).inputs ∷ []) s → IsMadeStop given (pointer_makes ts g) s
pointer_stop ts g given s e h =
    let made = (pointer_callable (kind_tree ts (K.FnPtr g)).children).inputs ∷ [] in
    subst (λ (b : Bool). IsMadeStop given (if b then made else []) s) (sym e) h

-- The inputs of a function

type-row : (ts : List Tree) (n : ℕ) (k : Kind) (f : Forest) → there k ≡ true → is_list_kind k ≡ false → kind_at ts n ≡ k → are_types (row (tree_at ts n) f) ≡ is_type_kind k && are_types f
type-row ts n k f h l e = ap are_types (row-single ts n k f h l e) ∙ ap (λ (x : Kind). is_type_kind x && are_types f) (kind-of ts n k h e)

pub types_read : (ts : List Tree) (a : Args) (xs : List GenericArg) → ListFits ts xs → list_forest ts xs ≡ args_forest ts a → list_all is_type_arg xs ≡ are_types (args_forest ts a)
types_read ts a xs f e = of xs f ∙ ap are_types e
  where
    of : (ys : List GenericArg) → ListFits ts ys → list_all is_type_arg ys ≡ are_types (list_forest ts ys)
    of [] g = refl
    of (G.Ty t ∷ ys) g =
        let here : kind_at ts t.0 ≡ TypeKind = cc in
        let others : ListFits ts ys = cc in
        of ys others ∙ sym (type-row ts t.0 TypeKind (list_forest ts ys) refl refl here)
    of (G.Const t ∷ ys) g = let here : kind_at ts t.0 ≡ ConstantKind = cc in sym (type-row ts t.0 ConstantKind (list_forest ts ys) refl refl here)
    of (G.Region t ∷ ys) g = let here : kind_at ts t.0 ≡ RegionKind = cc in sym (type-row ts t.0 RegionKind (list_forest ts ys) refl refl here)

-- The declared signature, if it can be called

pub no_flags : (c : Context) (i : ℕ) → None ≡ fn_flags (definition c i) → None ≡ function_signature c i
no_flags c i e = ap (λ (o : Option FnFlags). signature_if_callable c.trees o (fn_sig (definition c i))) e

pub no_signature : (c : Context) (i : ℕ) (f : FnFlags) → Some f ≡ fn_flags (definition c i) → None ≡ fn_sig (definition c i) → None ≡ function_signature c i
no_signature c i f e q = λ j. signature_if_callable c.trees (e j) (q j)

pub called_signature : (c : Context) (i : ℕ) (f : FnFlags) (s : Binder FnSig) → Some f ≡ fn_flags (definition c i) → Some s ≡ fn_sig (definition c i) → can_be_called c.trees f s.value ≡ true
    → Some s ≡ function_signature c i
called_signature c i f s e q h = sym (ap (λ (b : Bool). if b then Some s else None) h) ∙ (λ j. signature_if_callable c.trees (e j) (q j))

pub uncalled_signature : (c : Context) (i : ℕ) (f : FnFlags) (s : Binder FnSig) → Some f ≡ fn_flags (definition c i) → Some s ≡ fn_sig (definition c i) → can_be_called c.trees f s.value ≡ false
    → None ≡ function_signature c i
uncalled_signature c i f s e q h = sym (ap (λ (b : Bool). if b then Some s else None) h) ∙ (λ j. signature_if_callable c.trees (e j) (q j))

and-right : (a b : Bool) → a && b ≡ true → b ≡ true
and-right true b e = e
and-right false b e = absurd cc

pub called_types : (ts : List Tree) (f : FnFlags) (s : FnSig) → can_be_called ts f s ≡ true → are_types (args_forest ts s.inputs) ≡ true
called_types ts f s e = and-right (not f.target_features) (are_types (args_forest ts s.inputs)) (and-right (is_fn_trait_compatible s) (not f.target_features && are_types (args_forest ts s.inputs)) e)

-- The signature as a closure's

is-type-kind : (k : Kind) → is_type_kind k ≡ true → k ≡ TypeKind
is-type-kind TypeKind e = refl
is-type-kind _ e = absurd cc

and-left : (a b : Bool) → a && b ≡ true → a ≡ true
and-left true b e = refl
and-left false b e = absurd cc

types-kinds : (f : Forest) → are_types f ≡ true → all_of TypeKind (kinds_of f) ≡ kinds_of f
types-kinds none e = refl
types-kinds (tree h below rest) e =
    let here = is-type-kind (kind_of h) (and-left (is_type_kind (kind_of h)) (are_types rest) e) in
    let others = types-kinds rest (and-right (is_type_kind (kind_of h)) (are_types rest) e) in
    λ j. sym here j ∷ others j

args-row : (ts : List Tree) (a : Args) → IsArgs ts a → row (tree_at ts a.0) none ≡ args_forest ts a
args-row ts a i = row-list ts a.0 ArgumentsKind none refl refl i ∙ join-none (args_forest ts a)

pub tuple_fits : (ts : List Tree) (a : Args) → IsArgs ts a → KindFits ts (K.Tuple a)
tuple_fits ts a i = cc

pub tuple_takes : (c : Context) (a : Args) → IsArgs c.trees a → are_types (args_forest c.trees a) ≡ true → Takes (world c) (kind_tree c.trees (K.Tuple a))
tuple_takes c a i e = λ l. subst (λ (x : Forest). Some (all_of TypeKind (kinds_of x)) ≡ Some (kinds_of x)) (sym (args-row c.trees a i)) (ap Some (types-kinds (args_forest c.trees a) e))

pub declared_fits : (old new : Context) (g : Binder FnSig) (t : Ty) → Grows old new → SignatureFits old.trees g → IsTy new.trees t
    → SigFits new.trees (record { vars = g.vars; value = record { inputs = t; output = g.value.output } })
declared_fits old new g t w f i =
    let v : kind_at old.trees g.vars.0 ≡ BinderKind = f.vars in
    let o : kind_at old.trees g.value.output.0 ≡ TypeKind = f.output in
    let v-new : kind_at new.trees g.vars.0 ≡ BinderKind = (number-kept old.trees new.trees g.vars.0 w.kept (below_kind old.trees g.vars.0 BinderKind refl v)).0 ∙ v in
    let o-new : kind_at new.trees g.value.output.0 ≡ TypeKind = (number-kept old.trees new.trees g.value.output.0 w.kept (below_kind old.trees g.value.output.0 TypeKind refl o)).0 ∙ o in
    let i-new : kind_at new.trees t.0 ≡ TypeKind = i in
    λ j. v-new j ∷ i-new j ∷ o-new j ∷ []

pub declared_tree : (old new : Context) (g : Binder FnSig) (t : Ty) → Grows old new → SignatureFits old.trees g → ty_tree new.trees t ≡ kind_tree old.trees (K.Tuple g.value.inputs)
    → sig_kind_tree new.trees (record { vars = g.vars; value = record { inputs = t; output = g.value.output } }) ≡ declared_signature old.trees g
declared_tree old new g t w f e =
    let v-new : tree_at new.trees g.vars.0 ≡ tree_at old.trees g.vars.0 = (number-kept old.trees new.trees g.vars.0 w.kept (below_kind old.trees g.vars.0 BinderKind refl f.vars)).1 in
    let o-new : tree_at new.trees g.value.output.0 ≡ tree_at old.trees g.value.output.0 = (number-kept old.trees new.trees g.value.output.0 w.kept (below_kind old.trees g.value.output.0 TypeKind refl f.output)).1 in
    let i-new : tree_at new.trees t.0 ≡ tuple_of (args_forest old.trees g.value.inputs) = e ∙ ap tuple_of (args-row old.trees g.value.inputs f.inputs) in
    λ j. record { head = H.Part P.Sig; children = row (v-new j) (row (i-new j) (row (o-new j) none)) }

declared-row : (ts : List Tree) (g : Binder FnSig) → SignatureFits ts g → (declared_signature ts g).children
    ≡ tree (tree_at ts g.vars.0).head (tree_at ts g.vars.0).children (tree (H.Builtin B.Tuple) (args_forest ts g.value.inputs) (tree (tree_at ts g.value.output.0).head (tree_at ts g.value.output.0).children none))
declared-row ts g f =
    row-single ts g.vars.0 BinderKind _ refl refl f.vars
    ∙ ap (λ (x : Forest). tree (tree_at ts g.vars.0).head (tree_at ts g.vars.0).children (tree (H.Builtin B.Tuple) (args_forest ts g.value.inputs) x)) (row-single ts g.value.output.0 TypeKind none refl refl f.output)

mk-stop : (old new : Context) (made : Tree) (high : ℕ) (s : Stop) → new ≡ old → high ≤ heights (alone made) → IsMkStop old.trees high s → IsSubstStop (length new.trees) (alone made) s
mk-stop old new made high s e l (inl m) = subst (IsSubstStop (length new.trees) (alone made)) (sym m) no_memory
mk-stop old new made high s e l (inr (f, inl n)) =
    let same : length new.trees ≡ 4294967295 = ap (λ (c : Context). length c.trees) e ∙ n in
    subst (IsSubstStop (length new.trees) (alone made)) (sym f) (few_numbers (omega (arith, same)))
mk-stop old new made high s e l (inr (f, inr h)) = subst (IsSubstStop (length new.trees) (alone made)) (sym f) (high_tree (omega (arith, h, l)))

pub tuple_stop : (old new : Context) (g : Binder FnSig) (s : Stop) → SignatureFits old.trees g → new ≡ old → IsMkStop old.trees (height (kind_tree old.trees (K.Tuple g.value.inputs))) s
    → IsSubstStop (length new.trees) (alone (declared_signature old.trees g)) s
tuple_stop old new g s f e m =
    let inputs = args_forest old.trees g.value.inputs in
    let high : height (kind_tree old.trees (K.Tuple g.value.inputs)) ≡ 1 + heights inputs = ap (λ (x : Forest). 1 + heights x) (args-row old.trees g.value.inputs f.inputs) in
    let all = ap heights (declared-row old.trees g f) in
    mk-stop old new (declared_signature old.trees g) (height (kind_tree old.trees (K.Tuple g.value.inputs))) s e (omega (arith, high, all)) m

pub signature_stop : (old mid new : Context) (g : Binder FnSig) (t : Ty) (s : Stop) → Grows old mid → SignatureFits old.trees g → ty_tree mid.trees t ≡ kind_tree old.trees (K.Tuple g.value.inputs) → new ≡ mid
    → IsMkStop mid.trees (height (sig_kind_tree mid.trees (record { vars = g.vars; value = record { inputs = t; output = g.value.output } }))) s
    → IsSubstStop (length new.trees) (alone (declared_signature old.trees g)) s
signature_stop old mid new g t s w f e q m =
    let same = ap height (declared_tree old mid g t w f e) in
    mk-stop mid new (declared_signature old.trees g) _ s q (omega (arith, same)) m

-- Its instance

or-both : (a b c : Bool) → a || b ≡ false → c ≡ false → a || (b || c) ≡ false
or-both true b c e f = absurd cc
or-both false true c e f = absurd cc
or-both false false c e f = f

declared-lacks : (ts : List Tree) (g : Binder FnSig) (args : Forest) → SignatureFits ts g → SignatureHas ts args g → tree_holds (lacks_argument args) (declared_signature ts g) ≡ false
declared-lacks ts g args f h =
    let m = lacks_argument args in
    let v = tree_at ts g.vars.0 in
    let i = tree_at ts g.value.inputs.0 in
    let o = tree_at ts g.value.output.0 in
    let last = or-both (m o.head) (holds m o.children) false h.output refl in
    let both = or-both false (holds m i.children) (holds m (tree o.head o.children none)) (or-right (m i.head) (holds m i.children) h.inputs) last in
    ap (holds m) (declared-row ts g f) ∙ or-both (m v.head) (holds m v.children) (holds m (tree (H.Builtin B.Tuple) i.children (tree o.head o.children none))) h.vars both

pub declared_has : (old mid : Context) (g : Binder FnSig) (s : Sig) (a : Args) → Grows old mid → IsArgs old.trees a → SignatureFits old.trees g → SignatureHas old.trees (args_forest old.trees a) g
    → sig_tree mid.trees s ≡ declared_signature old.trees g → tree_holds (lacks_argument (args_forest mid.trees a)) (sig_tree mid.trees s) ≡ false
declared_has old mid g s a w i f h e =
    (λ j. tree_holds (lacks_argument ((args-kept old mid a w i).1 j)) (e j)) ∙ declared-lacks old.trees g (args_forest old.trees a) f h

pub instance_read : (old mid : Context) (g : Binder FnSig) (t : Tree) (a : Args) → Grows old mid → IsArgs old.trees a → t ≡ declared_signature old.trees g
    → substituted_tree (args_forest mid.trees a) t ≡ substituted_tree (args_forest old.trees a) (declared_signature old.trees g)
instance_read old mid g t a w i e = λ j. substituted_tree ((args-kept old mid a w i).1 j) (e j)

pub first_stop : (given : ℕ) (t u : Tree) (s : Stop) → IsSubstStop given (alone t) s → IsTypesStop given (t ∷ u ∷ []) s
first_stop given t u s h = inr (record { place = 0; type = t; is = refl; stop = h })

pub second_stop : (given : ℕ) (t u : Tree) (s : Stop) → IsSubstStop given (alone u) s → IsTypesStop given (t ∷ u ∷ []) s
second_stop given t u s h = inr (record { place = 1; type = u; is = refl; stop = h })

-- What a function says

pub function_called : (c : Context) (i : ℕ) (f : Forest) (g : Binder FnSig) (s : Callable) → Some g ≡ function_signature c i → s ≡ signature_callable (substituted_tree f (declared_signature c.trees g))
    → function_calls c i f ≡ CalledWith s
function_called c i f g s e q = ap (instance_calls c.trees f) (sym e) ∙ ap CalledWith (sym q)

pub function_refused : (c : Context) (i : ℕ) (f : Forest) → None ≡ function_signature c i → function_calls c i f ≡ Refused
function_refused c i f e = ap (instance_calls c.trees f) (sym e)

pub function_stop : (c : Context) (i : ℕ) (f : Forest) (g : Binder FnSig) (given : ℕ) (s : Stop) → Some g ≡ function_signature c i
    → IsTypesStop given (declared_signature c.trees g ∷ substituted_tree f (declared_signature c.trees g) ∷ []) s → IsMadeStop given (function_makes c i f) s
function_stop c i f g given s e h = subst (λ (o : Option (Binder FnSig)). IsMadeStop given (instance_makes c.trees f o) s) e h

-- What a kind says

join-join : (a b c : Forest) → join (join a b) c ≡ join a (join b c)
join-join none b c = refl
join-join (tree h below rest) b c = ap (tree h below) (join-join rest b c)

but-one : (a : Forest) (s u : Tree) → last_but_one (join a (tree s.head s.children (tree u.head u.children none))) ≡ s
but-one none s u = refl
but-one (tree h below none) s u = refl
but-one (tree h below (tree g b none)) s u = refl
but-one (tree h below (tree g b (tree k c rest))) s u = but-one (tree g b (tree k c rest)) s u

but-two : (a : Forest) (s u : Tree) → all_but_last (all_but_last (join a (tree s.head s.children (tree u.head u.children none)))) ≡ a
but-two a s u =
    ap (λ (x : Forest). all_but_last (all_but_last x)) (sym (join-join a (tree s.head s.children none) (tree u.head u.children none)))
    ∙ (ap all_but_last (last-alone (join a (tree s.head s.children none)) u.head u.children) ∙ last-alone a s.head s.children)

closure-row : (ts : List Tree) (p s u : ℕ) → kind_at ts p ≡ ArgumentsKind → kind_at ts s ≡ SignatureKind → kind_at ts u ≡ TypeKind → row (tree_at ts p) (row (tree_at ts s) (row (tree_at ts u) none))
    ≡ join (tree_at ts p).children (tree (tree_at ts s).head (tree_at ts s).children (tree (tree_at ts u).head (tree_at ts u).children none))
closure-row ts p s u e f g =
    row-list ts p ArgumentsKind _ refl refl e
    ∙ ap (join (tree_at ts p).children) (row-single ts s SignatureKind _ refl refl f ∙ ap (tree (tree_at ts s).head (tree_at ts s).children) (row-single ts u TypeKind none refl refl g))

closure-children : (ts : List Tree) (i : ClosureId) (a : ClosureArgs) → KindFits ts (K.Closure i a) → (kind_tree ts (K.Closure i a)).children
    ≡ join (tree_at ts a.parent.0).children (tree (tree_at ts a.sig.0).head (tree_at ts a.sig.0).children (tree (tree_at ts a.upvars.0).head (tree_at ts a.upvars.0).children none))
closure-children ts i a f =
    let e : kind_at ts a.parent.0 ≡ ArgumentsKind = cc in
    let g : kind_at ts a.sig.0 ≡ SignatureKind = cc in
    let h : kind_at ts a.upvars.0 ≡ TypeKind = cc in
    closure-row ts a.parent.0 a.sig.0 a.upvars.0 e g h

closure-sig : (ts : List Tree) (i : ClosureId) (a : ClosureArgs) → KindFits ts (K.Closure i a) → last_but_one (kind_tree ts (K.Closure i a)).children ≡ tree_at ts a.sig.0
closure-sig ts i a f = ap last_but_one (closure-children ts i a f) ∙ but-one (tree_at ts a.parent.0).children (tree_at ts a.sig.0) (tree_at ts a.upvars.0)

closure-parent : (ts : List Tree) (i : ClosureId) (a : ClosureArgs) → KindFits ts (K.Closure i a) → all_but_last (all_but_last (kind_tree ts (K.Closure i a)).children) ≡ args_forest ts a.parent
closure-parent ts i a f = ap (λ (x : Forest). all_but_last (all_but_last x)) (closure-children ts i a f) ∙ but-two (tree_at ts a.parent.0).children (tree_at ts a.sig.0) (tree_at ts a.upvars.0)

fits-of : (c : Context) (k : TyKind) → KindFits c.trees k → Takes (world c) (kind_tree c.trees k) → CalledFits c (called_of k)
fits-of c (K.FnDef i a) f t =
    let e : IsArgs c.trees a = cc in
    (e, subst (λ (x : Forest). parameters (world c) FunctionSort i.0 ≡ Some (kinds_of x)) (args-row c.trees a e) (t refl))
fits-of c (K.FnPtr s) f t = (f, t)
fits-of c (K.Closure i a) f t = (cc, cc)
fits-of c _ f t = tt

pub kind_fits : (c : Context) (k : TyKind) (r : Called) → KindFits c.trees k → Takes (world c) (kind_tree c.trees k) → r ≡ called_of k → CalledFits c r
kind_fits c k r f t q = subst (CalledFits c) (sym q) (fits-of c k f t)

calls-of : (c : Context) (asked : ClosureKind) (k : TyKind) → KindFits c.trees k → is_unknown (kind_tree c.trees k).head ≡ false → calls c asked (kind_tree c.trees k) ≡ called_calls c asked (called_of k)
calls-of c asked (K.FnDef i a) f x = let e : IsArgs c.trees a = cc in ap (function_calls c i.0) (args-row c.trees a e)
calls-of c asked (K.FnPtr s) f x = refl
calls-of c asked (K.Closure i a) f x = ap (λ (t : Tree). closure_calls a.kind asked (signature_callable t)) (closure-sig c.trees i a f)
calls-of c asked (K.Pat t Pat.NotNull) f x = refl
calls-of c asked (K.Pat t (Pat.Range from to)) f x = refl
calls-of c asked (K.Bound v) f x = absurd cc
calls-of c asked (K.Infer (V.TyVar n)) f x = absurd cc
calls-of c asked (K.Infer (V.IntVar n)) f x = refl
calls-of c asked (K.Infer (V.FloatVar n)) f x = refl
calls-of c asked _ f x = refl

makes-of : (c : Context) (k : TyKind) → KindFits c.trees k → makes c (kind_tree c.trees k).head (kind_tree c.trees k).children ≡ called_makes c (called_of k)
makes-of c (K.FnDef i a) f = let e : IsArgs c.trees a = cc in ap (function_makes c i.0) (args-row c.trees a e)
makes-of c (K.Pat t Pat.NotNull) f = refl
makes-of c (K.Pat t (Pat.Range from to)) f = refl
makes-of c _ f = refl

const-calls-of : (c : Context) (k : TyKind) → KindFits c.trees k → is_unknown (kind_tree c.trees k).head ≡ false → const_calls c (kind_tree c.trees k) ≡ called_const_calls c (called_of k)
const-calls-of c (K.FnDef i a) f x = let e : IsArgs c.trees a = cc in ap (const_function_calls c i) (args-row c.trees a e)
const-calls-of c (K.Closure i a) f x = λ j. const_closure_calls c i (closure-parent c.trees i a f j) (signature_callable (closure-sig c.trees i a f j))
const-calls-of c (K.Pat t Pat.NotNull) f x = refl
const-calls-of c (K.Pat t (Pat.Range from to)) f x = refl
const-calls-of c (K.Bound v) f x = absurd cc
const-calls-of c (K.Infer (V.TyVar n)) f x = absurd cc
const-calls-of c (K.Infer (V.IntVar n)) f x = refl
const-calls-of c (K.Infer (V.FloatVar n)) f x = refl
const-calls-of c _ f x = refl

const-makes-of : (c : Context) (k : TyKind) → KindFits c.trees k → const_makes c (kind_tree c.trees k).head (kind_tree c.trees k).children ≡ called_const_makes c (called_of k)
const-makes-of c (K.FnDef i a) f = let e : IsArgs c.trees a = cc in ap (const_function_makes c i) (args-row c.trees a e)
const-makes-of c (K.Pat t Pat.NotNull) f = refl
const-makes-of c (K.Pat t (Pat.Range from to)) f = refl
const-makes-of c _ f = refl

-- so of a type of that kind
pub kind_calls : (c : Context) (asked : ClosureKind) (t : Ty) (k : TyKind) (r : Called) → KindFits c.trees k → kind_tree c.trees k ≡ ty_tree c.trees t → is_unknown (ty_tree c.trees t).head ≡ false → r ≡ called_of k
    → calls c asked (ty_tree c.trees t) ≡ called_calls c asked r
kind_calls c asked t k r f e x q =
    sym (ap (calls c asked) e)
    ∙ (calls-of c asked k f (ap (λ (u : Tree). is_unknown u.head) e ∙ x) ∙ ap (called_calls c asked) (sym q))

pub kind_makes : (c : Context) (t : Ty) (k : TyKind) (r : Called) → KindFits c.trees k → kind_tree c.trees k ≡ ty_tree c.trees t → r ≡ called_of k
    → makes c (ty_tree c.trees t).head (ty_tree c.trees t).children ≡ called_makes c r
kind_makes c t k r f e q = sym (ap (λ (u : Tree). makes c u.head u.children) e) ∙ (makes-of c k f ∙ ap (called_makes c) (sym q))

pub kind_const_calls : (c : Context) (t : Ty) (k : TyKind) (r : Called) → KindFits c.trees k → kind_tree c.trees k ≡ ty_tree c.trees t → is_unknown (ty_tree c.trees t).head ≡ false → r ≡ called_of k
    → const_calls c (ty_tree c.trees t) ≡ called_const_calls c r
kind_const_calls c t k r f e x q =
    sym (ap (const_calls c) e)
    ∙ (const-calls-of c k f (ap (λ (u : Tree). is_unknown u.head) e ∙ x) ∙ ap (called_const_calls c) (sym q))

pub kind_const_makes : (c : Context) (t : Ty) (k : TyKind) (r : Called) → KindFits c.trees k → kind_tree c.trees k ≡ ty_tree c.trees t → r ≡ called_of k
    → const_makes c (ty_tree c.trees t).head (ty_tree c.trees t).children ≡ called_const_makes c r
kind_const_makes c t k r f e q = sym (ap (λ (u : Tree). const_makes c u.head u.children) e) ∙ (const-makes-of c k f ∙ ap (called_const_makes c) (sym q))

-- which kinds nothing is asked about
known-is : (ts : List Tree) (k : TyKind) → is_unknown (kind_tree ts k).head ≡ not (kind_known k)
known-is ts (K.Pat t Pat.NotNull) = refl
known-is ts (K.Pat t (Pat.Range from to)) = refl
known-is ts (K.Infer (V.TyVar n)) = refl
known-is ts (K.Infer (V.IntVar n)) = refl
known-is ts (K.Infer (V.FloatVar n)) = refl
known-is ts _ = refl

known-of : (b x : Bool) → x ≡ not b → IsTrue b ↔ (x ≡ false)
known-of true x e = (λ t. e, λ t. refl)
known-of false x e = (λ t. absurd cc, λ t. absurd (let z = sym e ∙ t in cc))

pub known_kind : (ts : List Tree) (t : Ty) (k : TyKind) (b : Bool) → kind_tree ts k ≡ ty_tree ts t → b ≡ kind_known k → IsTrue b ↔ (is_unknown (ty_tree ts t).head ≡ false)
known_kind ts t k b e q = known-of b (is_unknown (ty_tree ts t).head) (sym (ap (λ (u : Tree). is_unknown u.head) e) ∙ (known-is ts k ∙ sym (ap not q)))

-- The two calls

pub call_given : (c : Context) (asked : ClosureKind) (t : Tree) (r x : Calls) → calls c asked t ≡ r → r ≡ x → calls c asked t ≡ x
call_given c asked t r x e q = e ∙ q

pub call_refused : (c : Context) (asked : ClosureKind) (t : Tree) (r : Calls) → calls c asked t ≡ r → r ≡ Refused → calls c asked t ≡ Refused
call_refused c asked t r e q = e ∙ q

pub call_stop : (c : Context) (given : ℕ) (t : Tree) (r : List Tree) (s : Stop) → makes c t.head t.children ≡ r → IsMadeStop given r s → IsCallStop c given t s
call_stop c given t r s e h = subst (λ (ts : List Tree). IsMadeStop given ts s) (sym e) h

pub const_given : (c : Context) (t : Tree) (r x : ConstCalls) → const_calls c t ≡ r → r ≡ x → const_calls c t ≡ x
const_given c t r x e q = e ∙ q

pub const_refused : (c : Context) (t : Tree) (r : ConstCalls) → const_calls c t ≡ r → r ≡ ConstRefused → const_calls c t ≡ ConstRefused
const_refused c t r e q = e ∙ q

pub const_stop : (c : Context) (given : ℕ) (t : Tree) (r : List Tree) (s : Stop) → const_makes c t.head t.children ≡ r → IsMadeStop given r s → IsConstCallStop c given t s
const_stop c given t r s e h = subst (λ (ts : List Tree). IsMadeStop given ts s) (sym e) h

abbrev if-const : ConstCalls → Bool → ConstCalls
if-const x b = if b then x else ConstRefused

pub const_function_called : (c new : Context) (i : FnId) (a : Args) (s : Callable) → Grows c new → IsArgs c.trees a → is_const_function (fn_flags (definition c i.0)) ≡ true
    → function_calls c i.0 (args_forest c.trees a) ≡ CalledWith s
    → const_function_calls c i (args_forest c.trees a) ≡ ConstCalledWith (record { id = I.Function i; callable = s; args = args_forest new.trees a })
const_function_called c new i a s w h e q =
    let f = args_forest c.trees a in
    ap (if-const (called_there (I.Function i) f (function_calls c i.0 f))) e
    ∙ (ap (called_there (I.Function i) f) q ∙ ap (λ (x : Forest). ConstCalledWith (record { id = I.Function i; callable = s; args = x })) (sym (args-kept c new a w h).1))

pub no_const_function : (c : Context) (i : FnId) (f : Forest) → is_const_function (fn_flags (definition c i.0)) ≡ false → const_function_calls c i f ≡ ConstRefused
no_const_function c i f e = ap (if-const (called_there (I.Function i) f (function_calls c i.0 f))) e

pub const_function_refused : (c : Context) (i : FnId) (f : Forest) → is_const_function (fn_flags (definition c i.0)) ≡ true → function_calls c i.0 f ≡ Refused → const_function_calls c i f ≡ ConstRefused
const_function_refused c i f e q = ap (if-const (called_there (I.Function i) f (function_calls c i.0 f))) e ∙ ap (called_there (I.Function i) f) q

pub const_function_stop : (c : Context) (i : FnId) (f : Forest) (given : ℕ) (s : Stop) → is_const_function (fn_flags (definition c i.0)) ≡ true → IsMadeStop given (function_makes c i.0 f) s
    → IsMadeStop given (const_function_makes c i f) s
const_function_stop c i f given s e h = subst (λ (b : Bool). IsMadeStop given (if b then function_makes c i.0 f else []) s) (sym e) h

pub const_closure_called : (c : Context) (i : ClosureId) (f : Forest) (s t : Callable) → is_const_closure (definition c i.0) ≡ true → s ≡ t
    → const_closure_calls c i f t ≡ ConstCalledWith (record { id = I.Closure i; callable = s; args = f })
const_closure_called c i f s t e q =
    ap (if-const (ConstCalledWith (record { id = I.Closure i; callable = t; args = f }))) e
    ∙ ap (λ (x : Callable). ConstCalledWith (record { id = I.Closure i; callable = x; args = f })) (sym q)

pub no_const_closure : (c : Context) (i : ClosureId) (f : Forest) (s : Callable) → is_const_closure (definition c i.0) ≡ false → const_closure_calls c i f s ≡ ConstRefused
no_const_closure c i f s e = ap (if-const (ConstCalledWith (record { id = I.Closure i; callable = s; args = f }))) e
