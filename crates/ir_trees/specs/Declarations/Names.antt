-- Which crate a definition belongs to, and which crates a reference names.
use Rattle.std.specs.Prelude.{ℕ, ◌+◌, Bool, true, false, cond, Option, Some, None, slice_get, ◌==◌, ◌||◌, nat_le}
use Rattle.ir_trees.specs.declared.ir.kinds.TraitId.{TraitId}
use Rattle.ir_trees.specs.declared.ir.heads.Head.{Head}
use Rattle.ir_trees.specs.declared.ir.heads.Head.TheVariants as H
use Rattle.ir_trees.specs.declared.ir.heads.ConstHead.TheVariants as C
use Rattle.ir_trees.specs.declared.ir.heads.PartHead.TheVariants as P
use Rattle.ir_trees.specs.declared.ir.heads.PredHead.TheVariants as PH
use Rattle.ir_trees.specs.declared.ir.heads.ClauseHead.TheVariants as Cl
use Rattle.ir_trees.specs.Syntax.Trees.{Forest, none, tree, holds, erase}
use Rattle.ir_trees.specs.Declarations.Worlds.{World, Definition, Reference}

-- The crate that counts as local, if any.
abbrev pub CrateTest : Type 0
CrateTest = Option ℕ

abbrev pub passes_test : CrateTest → ℕ → Bool
passes_test None crate = false
passes_test (Some c) crate = crate == c

abbrev pub crate_passes : CrateTest → Option Definition → Bool
crate_passes test None = false
crate_passes test (Some d) = passes_test test d.crate

-- whether the definition belongs to the crate that counts as local
abbrev pub is_local : World → CrateTest → ℕ → Bool
is_local w test i = crate_passes test (slice_get w i)

abbrev pub fundamental_flag : Option Definition → Bool
fundamental_flag None = false
fundamental_flag (Some d) = d.is_fundamental

-- whether the definition has the flag `fundamental`
abbrev pub is_fundamental : World → ℕ → Bool
is_fundamental w i = fundamental_flag (slice_get w i)

-- the definition that a head names, if any
abbrev pub named : Head → Option ℕ
named (H.Adt i) = Some i.0
named (H.Foreign i) = Some i.0
named (H.FnDef i) = Some i.0
named (H.Closure i k) = Some i.0
named (H.Alias k i) = Some i.0
named (H.Const (C.Unevaluated i)) = Some i.0
named (H.Part (P.Pred (PH.Trait i))) = Some i.0
named (H.Part (P.Pred (PH.Projection i))) = Some i.0
named (H.Part (P.Pred (PH.AutoTrait i))) = Some i.0
named (H.Part (P.Clause (Cl.Trait i p))) = Some i.0
named (H.Part (P.Clause (Cl.Projection i))) = Some i.0
named _ = None

-- whether it is none of the first so many
abbrev pub is_past : ℕ → Option ℕ → Bool
is_past n None = false
is_past n (Some i) = nat_le n i

abbrev pub names_unknown : ℕ → Head → Bool
names_unknown n h = is_past n (named h)

-- whether a definition in the head belongs to the crate
abbrev pub names_here : World → CrateTest → Head → Bool
names_here w test (H.Adt i) = is_local w test i.0
names_here w test (H.Foreign i) = is_local w test i.0
names_here w test (H.FnDef i) = is_local w test i.0
names_here w test (H.Closure i k) = is_local w test i.0
names_here w test (H.Alias k i) = is_local w test i.0
names_here w test (H.Const (C.Unevaluated i)) = is_local w test i.0
names_here w test (H.Part (P.Pred (PH.Trait i))) = is_local w test i.0
names_here w test (H.Part (P.Pred (PH.Projection i))) = is_local w test i.0
names_here w test (H.Part (P.Pred (PH.AutoTrait i))) = is_local w test i.0
names_here w test (H.Part (P.Clause (Cl.Trait i p))) = is_local w test i.0
names_here w test (H.Part (P.Clause (Cl.Projection i))) = is_local w test i.0
names_here w test _ = false

-- A reference names a crate where its trait, or a definition in its erased trees, belongs to the crate.
abbrev pub names : World → Reference → ℕ → Bool
names w r c = is_local w (Some c) r.trait || holds (names_here w (Some c)) (erase r.arguments)

abbrev pub by_bound : Head → Option TraitId → Option TraitId
by_bound (H.Part (P.Pred (PH.Trait i))) others = Some i
by_bound _ others = others

-- the trait of the first bound among the trees that has one
abbrev pub principal_of : Forest → Option TraitId
principal_of none = None
principal_of (tree h below rest) = by_bound h (principal_of rest)

-- whether it is a bound by a trait that isn't an auto trait
abbrev pub is_principal : Head → Bool
is_principal (H.Part (P.Pred (PH.Trait i))) = true
is_principal _ = false

-- how many such bounds there are among the trees
abbrev pub principals : Forest → ℕ
principals none = 0
principals (tree h below rest) = cond (is_principal h) 1 0 + principals rest
