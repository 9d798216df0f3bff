-- Rows of arguments: the headers of declared impls are, with fresh variables for their parameters, too.
use Rattle.std.proofs.Common.{◌≡◌, ℕ, zero, suc, ◌==◌, Bool, true, false, Option, Some, None, List, [], ◌∷◌, length, map, slice_get, if◌then◌else◌, refl, ap, subst, ◌∙◌}
use Rattle.std.specs.List.{All}
use Rattle.std.proofs.lemmas.List.Elements.{All-cons, All-head, All-nil, All-tail}
use Rattle.ir_trees.specs.declared.ir.heads.ConstHead.TheVariants as C
use Rattle.ir_trees.specs.declared.ir.heads.Head.{Head}
use Rattle.ir_trees.specs.declared.ir.heads.Head.TheVariants as H
use Rattle.ir_trees.specs.declared.ir.kinds.VarKind.{VarKind}
use Rattle.ir_trees.specs.declared.ir.kinds.VarKind.TheVariants as P
use Rattle.ir_trees.specs.Declarations.Declaration.{Declaration}
use Rattle.ir_trees.specs.Declarations.Contents.{Impl}
use Rattle.ir_trees.specs.Declarations.Context.{Context, parameter_kind, sort_of, world, world_of}
use Rattle.ir_trees.specs.Declarations.Worlds.{DefinitionSort, TraitSort, joined, kinds_of, parameters, parameters_of, sort_number}
use Rattle.ir_trees.specs.Instantiation.Folding.{argument, shift_tree, substituted}
use Rattle.ir_trees.specs.Syntax.Binders.{escapes}
use Rattle.ir_trees.specs.Syntax.Trees.{Kind, TypeKind, Forest, none, tree, Tree, kind_of}
use Rattle.ir_trees.specs.Validity.WellFormed.{ImplIsGiven}
use Rattle.candidate_eval.specs.Judges.States.{State, fresh_variables, variable, variable_kind, with_fresh}
use Rattle.candidate_eval.proofs.Marks.Closed.{closed-shift}
use Rattle.candidate_assembly.specs.Answers.KnownImpls.{header_of}
use Rattle.candidate_assembly.proofs.Refusals.KnownHeaders.{argument-closed}
use Rattle.overlaps.proofs.ReadSides.{AreArguments, is_argument}

-- Rows of the kinds of a trait's arguments are rows of arguments.

parameter-argument : (p : VarKind) → is_argument (parameter_kind p) ≡ true
parameter-argument P.Ty = refl
parameter-argument P.Const = refl
parameter-argument P.Region = refl

abbrev AllArguments : List Kind → Type 0
AllArguments ks = All (λ k. is_argument k ≡ true) ks

parameters-arguments : (ps : List VarKind) → AllArguments (map parameter_kind ps)
parameters-arguments [] = All-nil (λ k. is_argument k ≡ true)
parameters-arguments (p ∷ ps) = All-cons (λ k. is_argument k ≡ true) (parameter_kind p) (map parameter_kind ps) (parameter-argument p) (parameters-arguments ps)

-- those that a definition of some declarations has, if it is there
defined-arguments : (ds : List Declaration) (s : DefinitionSort) (n : ℕ) (ks : List Kind) → parameters_of s (slice_get (world_of ds) n) ≡ Some ks → AllArguments ks
defined-arguments [] s n ks e = absurd cc
defined-arguments (d ∷ ds) s zero ks e = at (sort_number (sort_of d.kind) == sort_number s) e
  where
    at : (b : Bool) → (if b then Some (map parameter_kind d.parameters) else None) ≡ Some ks → AllArguments ks
    at true e = let same : map parameter_kind d.parameters ≡ ks = cc in subst AllArguments same (parameters-arguments d.parameters)
    at false e = absurd cc
defined-arguments (d ∷ ds) s (suc n) ks e = defined-arguments ds s n ks e

header-arguments : (o : Option (List Kind)) (ks : List Kind) → ((xs : List Kind) → o ≡ Some xs → AllArguments xs) → joined (Some (TypeKind ∷ [])) o ≡ Some ks → AllArguments ks
header-arguments None ks f e = absurd cc
header-arguments (Some xs) ks f e =
    let same : TypeKind ∷ xs ≡ ks = cc in
    subst AllArguments same (All-cons (λ k. is_argument k ≡ true) TypeKind xs refl (f xs refl))

arguments-of-kinds : (ts : Forest) → AllArguments (kinds_of ts) → AreArguments ts
arguments-of-kinds none a = tt
arguments-of-kinds (tree h below rest) a =
    (All-head (λ k. is_argument k ≡ true) (kind_of h) (kinds_of rest) a, arguments-of-kinds rest (All-tail (λ k. is_argument k ≡ true) (kind_of h) (kinds_of rest) a))

pub given-arguments : (c : Context) (i : Impl) → ImplIsGiven c i → AreArguments (header_of c i)
given-arguments c i g =
    arguments-of-kinds (header_of c i)
    (header-arguments (parameters (world c) TraitSort i.trait_ref.def_id.0) (kinds_of (header_of c i)) (λ xs e. defined-arguments c.declarations TraitSort i.trait_ref.def_id.0 xs e) g.header.fit)

-- They are so with fresh variables in the place of parameters.

row-argument : (F : Forest) (i : ℕ) → AreArguments F → is_argument (kind_of (argument F i).head) ≡ true
row-argument none i a = refl
row-argument (tree h below rest) zero a = a.0
row-argument (tree h below rest) (suc i) a = row-argument rest i a.1

pub fresh-arguments : (S : State) (ps : List VarKind) → AreArguments (fresh_variables S (map parameter_kind ps))
fresh-arguments S [] = tt
fresh-arguments S (p ∷ ps) = (at p (length S.variables), fresh-arguments (with_fresh S (variable_kind (parameter_kind p))) ps)
  where
    at : (p : VarKind) (n : ℕ) → is_argument (kind_of (variable (variable_kind (parameter_kind p)) n).head) ≡ true
    at P.Ty n = refl
    at P.Const n = refl
    at P.Region n = refl

pub filled-arguments : (F : Forest) → escapes 0 F ≡ false → AreArguments F → (ts : Forest) → AreArguments ts → AreArguments (substituted F 0 ts)
filled-arguments F shut a none k = tt
filled-arguments F shut a (tree h below rest) k = at h k.0 (filled-arguments F shut a rest k.1)
  where
    put-there : (i : ℕ) → is_argument (kind_of (shift_tree 0 (argument F i)).head) ≡ true
    put-there i = ap (λ (t : Tree). is_argument (kind_of t.head)) (closed-shift 0 (argument F i) (argument-closed F i shut)) ∙ row-argument F i a

    at : (h : Head) → is_argument (kind_of h) ≡ true → AreArguments (substituted F 0 rest) → AreArguments (substituted F 0 (tree h below rest))
    at (H.Param i) k others = (put-there i, others)
    at (H.Const (C.Param i)) k others = (put-there i, others)
    at h k others = (k, others)
