-- Worked cases of elaboration, by computation.
use Rattle.std.proofs.Common.{◌≡◌, ℕ, [], ◌∷◌, get_or, true, false, refl}
use Rattle.ir_trees.specs.declared.ir.kinds.VarKind.TheVariants as V
use Rattle.ir_trees.specs.declared.ir.kinds.UintTy.TheVariants as U
use Rattle.ir_trees.specs.declared.ir.kinds.PredicatePolarity.{PredicatePolarity}
use Rattle.ir_trees.specs.declared.ir.kinds.PredicatePolarity.TheVariants as Polarity
use Rattle.ir_trees.specs.declared.ir.heads.Head.TheVariants as H
use Rattle.ir_trees.specs.declared.ir.heads.Builtin.TheVariants as B
use Rattle.ir_trees.specs.declared.ir.heads.PartHead.TheVariants as P
use Rattle.ir_trees.specs.declared.ir.heads.ClauseHead.TheVariants as Cl
use Rattle.ir_trees.specs.Syntax.Trees.{Forest, none, tree, Tree}
use Rattle.ir_trees.specs.Hierarchy.Elaboration.{SuperClauses, implied, Elaborates, ended, step, supertrait_ids}

abbrev byte : Forest → Forest
byte = tree (H.Builtin (B.Uint U.U8)) none

abbrev param : ℕ → Forest → Forest
param i = tree (H.Param i) none

-- a variable of the binder that stands so many further out
abbrev var : ℕ → ℕ → Forest → Forest
var d i = tree (H.Bound (record { depth = d; index = i })) none

-- a function pointer, whose binder has no variables
abbrev pointer : Forest → Forest → Forest
pointer output = tree (H.Builtin (B.FnPtr (record { safe = true; rust_abi = true; variadic = false }))) (tree (H.Part P.Vars) none output)

abbrev types : Forest → Forest
types = tree (H.Part (P.Var V.Ty)) none

abbrev holds : PredicatePolarity → ℕ → Forest → Forest → Tree
holds p i vars args = record { head = H.Part (P.Clause (Cl.Trait (record { 0 = i }) p)); children = tree (H.Part P.Vars) vars args }

abbrev says : ℕ → Forest → Tree
says i args = holds Polarity.Positive i none args

-- Of `for<T> u8: Trait7<T>` a super clause `for<U> Self: Trait8<#1, U, fn() -> #1>` says `for<T, U> u8: Trait8<T, U, fn() -> T>`.
two_binders_are_one :
    implied (holds Polarity.Positive 7 (types none) (byte (var 0 0 none))) (holds Polarity.Positive 8 (types none) (param 0 (param 1 (var 0 0 (pointer (param 1 none) none)))))
    ≡ holds Polarity.Positive 8 (types (types none)) (byte (var 0 0 (var 0 1 (pointer (var 1 0 none) none))))
two_binders_are_one = refl

-- Trait 0 has the super clauses `Self: 1` and `Self: 2`, each of these `Self: 3`, and trait 4 asks for itself.
abbrev supers : SuperClauses
supers n = get_or ((says 1 (param 0 none) ∷ says 2 (param 0 none) ∷ []) ∷ (says 3 (param 0 none) ∷ []) ∷ (says 3 (param 0 none) ∷ []) ∷ [] ∷ (says 4 (param 0 none) ∷ []) ∷ []) n []

pub diamond : Elaborates supers [] (says 0 (byte none) ∷ []) (says 0 (byte none) ∷ says 1 (byte none) ∷ says 2 (byte none) ∷ says 3 (byte none) ∷ [])
diamond = step (step (step (step ended)))

its_traits : supertrait_ids (says 0 (byte none) ∷ says 1 (byte none) ∷ says 2 (byte none) ∷ says 3 (byte none) ∷ []) ≡ 0 ∷ 1 ∷ 2 ∷ 3 ∷ []
its_traits = refl

-- where a trait asks for itself, nothing new comes
itself : Elaborates supers [] (says 4 (byte none) ∷ []) (says 4 (byte none) ∷ [])
itself = step ended

-- a clause that a trait doesn't hold implies nothing
negative : Elaborates supers [] (holds Polarity.Negative 0 none (byte none) ∷ []) (holds Polarity.Negative 0 none (byte none) ∷ [])
negative = step ended
