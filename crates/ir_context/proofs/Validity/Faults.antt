-- The lowest fault of declarations.
use Rattle.std.proofs.Common.{◌≡◌, ◌<◌, ◌⊎◌, inl, inr, true, false, sym, subst, arith}
use Rattle.ir_trees.specs.declared.decl.fault.DeclFault.{DeclFault}
use Rattle.ir_trees.specs.declared.decl.fault.DeclFault.TheVariants as F
use Rattle.ir_trees.specs.Declarations.Context.{Context}
use Rattle.ir_trees.specs.Declarations.Limits.{has_bad_limit}
use Rattle.ir_trees.specs.Validity.Faults.{has_unknown_id, has_wrong_parameters, has_wrong_kind, AllArgumentsFit, lacks_tail, item_has_wrong_arity, all_items, HasFault, IsLowestFault, IsFaultless, fault_number}
use Rattle.ir_trees.specs.Hierarchy.Supertraits.{supers_in, HasSupertraitCycle, IsAcyclic}
use Rattle.ir_context.proofs.Hierarchy.Supertraits.{ranked_has_no_cycle}
use Rattle.std.specs.List.{list_any}

no-unknown : (c : Context) → has_unknown_id c ≡ false → HasFault c F.UnknownId → ⊥
no-unknown c u f = cc

no-arity : (c : Context) → has_wrong_parameters c ≡ false → AllArgumentsFit c → HasFault c F.WrongArity → ⊥
no-arity c p a (inl t) = cc
no-arity c p a (inr n) = n a

no-kind : (c : Context) → has_wrong_kind c ≡ false → HasFault c F.WrongKind → ⊥
no-kind c k f = cc

no-cycle : (c : Context) → IsAcyclic c → HasFault c F.SupertraitCycle → ⊥
no-cycle c a f = ranked_has_no_cycle (supers_in c) a f

no-tail : (c : Context) → list_any (λ d. lacks_tail c.contents d.kind) c.declarations ≡ false → HasFault c F.NoTail → ⊥
no-tail c k f = cc

no-item : (c : Context) → list_any (item_has_wrong_arity c.declarations c.contents.lang_items) all_items ≡ false → HasFault c F.LangArity → ⊥
no-item c k f = cc

no-bad-limit : (c : Context) → has_bad_limit c.limits ≡ false → HasFault c F.BadLimit → ⊥
no-bad-limit c k f = cc

-- an unknown number comes before all else
pub unknown_lowest : (c : Context) → has_unknown_id c ≡ true → IsLowestFault c F.UnknownId
unknown_lowest c u = record { there = u; lowest = lower }
  where
    lower : (g : DeclFault) → fault_number g < 1 → HasFault c g → ⊥
    lower F.UnknownId b f = omega (arith, b)
    lower F.WrongArity b f = omega (arith, b)
    lower F.WrongKind b f = omega (arith, b)
    lower F.SupertraitCycle b f = omega (arith, b)
    lower F.NoTail b f = omega (arith, b)
    lower F.LangArity b f = omega (arith, b)
    lower F.Memory b f = f
    lower F.BadLimit b f = omega (arith, b)

-- wrong arity, where no number is unknown
pub arity_lowest : (c : Context) → has_unknown_id c ≡ false → HasFault c F.WrongArity → IsLowestFault c F.WrongArity
arity_lowest c u h = record { there = h; lowest = lower }
  where
    lower : (g : DeclFault) → fault_number g < 2 → HasFault c g → ⊥
    lower F.UnknownId b f = no-unknown c u f
    lower F.WrongArity b f = omega (arith, b)
    lower F.WrongKind b f = omega (arith, b)
    lower F.SupertraitCycle b f = omega (arith, b)
    lower F.NoTail b f = omega (arith, b)
    lower F.LangArity b f = omega (arith, b)
    lower F.Memory b f = f
    lower F.BadLimit b f = omega (arith, b)

-- something of another kind, where all arguments fit
pub kind_lowest : (c : Context) → has_unknown_id c ≡ false → has_wrong_parameters c ≡ false → AllArgumentsFit c → has_wrong_kind c ≡ true
    → IsLowestFault c F.WrongKind
kind_lowest c u p a k = record { there = k; lowest = lower }
  where
    lower : (g : DeclFault) → fault_number g < 3 → HasFault c g → ⊥
    lower F.UnknownId b f = no-unknown c u f
    lower F.WrongArity b f = no-arity c p a f
    lower F.WrongKind b f = omega (arith, b)
    lower F.SupertraitCycle b f = omega (arith, b)
    lower F.NoTail b f = omega (arith, b)
    lower F.LangArity b f = omega (arith, b)
    lower F.Memory b f = f
    lower F.BadLimit b f = omega (arith, b)

-- a trait that is its own supertrait, where all is of its kind, or a growth that was refused
pub cycle_lowest : (c : Context) (g : DeclFault) → has_unknown_id c ≡ false → has_wrong_parameters c ≡ false → AllArgumentsFit c → has_wrong_kind c ≡ false
    → (g ≡ F.Memory) ⊎ ((g ≡ F.SupertraitCycle) × HasSupertraitCycle c) → (g ≡ F.Memory) ⊎ IsLowestFault c g
cycle_lowest c g u p a k (inl m) = inl m
cycle_lowest c g u p a k (inr s) = inr (subst (IsLowestFault c) (sym s.0) (record { there = s.1; lowest = lower }))
  where
    lower : (g : DeclFault) → fault_number g < 4 → HasFault c g → ⊥
    lower F.UnknownId b f = no-unknown c u f
    lower F.WrongArity b f = no-arity c p a f
    lower F.WrongKind b f = no-kind c k f
    lower F.SupertraitCycle b f = omega (arith, b)
    lower F.NoTail b f = omega (arith, b)
    lower F.LangArity b f = omega (arith, b)
    lower F.Memory b f = f
    lower F.BadLimit b f = omega (arith, b)

-- no tail, where no trait is its own supertrait
pub tail_lowest : (c : Context) → has_unknown_id c ≡ false → has_wrong_parameters c ≡ false → AllArgumentsFit c → has_wrong_kind c ≡ false → IsAcyclic c
    → list_any (λ d. lacks_tail c.contents d.kind) c.declarations ≡ true → IsLowestFault c F.NoTail
tail_lowest c u p a k y t = record { there = t; lowest = lower }
  where
    lower : (g : DeclFault) → fault_number g < 5 → HasFault c g → ⊥
    lower F.UnknownId b f = no-unknown c u f
    lower F.WrongArity b f = no-arity c p a f
    lower F.WrongKind b f = no-kind c k f
    lower F.SupertraitCycle b f = no-cycle c y f
    lower F.NoTail b f = omega (arith, b)
    lower F.LangArity b f = omega (arith, b)
    lower F.Memory b f = f
    lower F.BadLimit b f = omega (arith, b)

-- wrong parameters of a lang item, where nothing else is wrong
pub item_lowest : (c : Context) → has_unknown_id c ≡ false → has_wrong_parameters c ≡ false → AllArgumentsFit c → has_wrong_kind c ≡ false → IsAcyclic c
    → list_any (λ d. lacks_tail c.contents d.kind) c.declarations ≡ false → list_any (item_has_wrong_arity c.declarations c.contents.lang_items) all_items ≡ true
    → IsLowestFault c F.LangArity
item_lowest c u p a k y t i = record { there = i; lowest = lower }
  where
    lower : (g : DeclFault) → fault_number g < 6 → HasFault c g → ⊥
    lower F.UnknownId b f = no-unknown c u f
    lower F.WrongArity b f = no-arity c p a f
    lower F.WrongKind b f = no-kind c k f
    lower F.SupertraitCycle b f = no-cycle c y f
    lower F.NoTail b f = no-tail c t f
    lower F.LangArity b f = omega (arith, b)
    lower F.Memory b f = f
    lower F.BadLimit b f = omega (arith, b)

-- a limit of 0, where nothing else is wrong
pub limit_lowest : (c : Context) → has_unknown_id c ≡ false → has_wrong_parameters c ≡ false → AllArgumentsFit c → has_wrong_kind c ≡ false → IsAcyclic c
    → list_any (λ d. lacks_tail c.contents d.kind) c.declarations ≡ false → list_any (item_has_wrong_arity c.declarations c.contents.lang_items) all_items ≡ false
    → has_bad_limit c.limits ≡ true → IsLowestFault c F.BadLimit
limit_lowest c u p a k y t i l = record { there = l; lowest = lower }
  where
    lower : (g : DeclFault) → fault_number g < 8 → HasFault c g → ⊥
    lower F.UnknownId b f = no-unknown c u f
    lower F.WrongArity b f = no-arity c p a f
    lower F.WrongKind b f = no-kind c k f
    lower F.SupertraitCycle b f = no-cycle c y f
    lower F.NoTail b f = no-tail c t f
    lower F.LangArity b f = no-item c i f
    lower F.Memory b f = f
    lower F.BadLimit b f = omega (arith, b)

-- and nothing is wrong
pub faultless : (c : Context) → has_unknown_id c ≡ false → has_wrong_parameters c ≡ false → AllArgumentsFit c → has_wrong_kind c ≡ false → IsAcyclic c
    → list_any (λ d. lacks_tail c.contents d.kind) c.declarations ≡ false → list_any (item_has_wrong_arity c.declarations c.contents.lang_items) all_items ≡ false → has_bad_limit c.limits ≡ false
    → IsFaultless c
faultless c u p a k y t i l F.UnknownId f = no-unknown c u f
faultless c u p a k y t i l F.WrongArity f = no-arity c p a f
faultless c u p a k y t i l F.WrongKind f = no-kind c k f
faultless c u p a k y t i l F.SupertraitCycle f = no-cycle c y f
faultless c u p a k y t i l F.NoTail f = no-tail c t f
faultless c u p a k y t i l F.LangArity f = no-item c i f
faultless c u p a k y t i l F.Memory f = f
faultless c u p a k y t i l F.BadLimit f = no-bad-limit c l f
