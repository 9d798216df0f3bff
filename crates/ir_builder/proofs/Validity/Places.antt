-- Whose content has a fault.
use Rattle.std.proofs.Common.{◌≡◌, ◌⊎◌, inl, inr, Option, Some, None, MatchOption, refl, sym, ap, subst}
use Rattle.ir_trees.specs.declared.decl.fault.DeclFault.{DeclFault}
use Rattle.ir_trees.specs.declared.decl.fault.DeclFault.TheVariants as F
use Rattle.ir_builder.specs.declared.decl.fault_places.FaultPlace.{FaultPlace}
use Rattle.ir_trees.specs.Declarations.Context.{Context}
use Rattle.ir_trees.specs.Validity.Faults.{IsLowestFault}
use Rattle.ir_builder.specs.Validity.Places.{fault_place, IsOtherPlace, IsPlaceOf, IsDeclError}

-- a growth was refused
pub refused_growth : (c : Context) (f : DeclFault) → f ≡ F.Memory → IsDeclError c (record { fault = f; place = None })
refused_growth c f e = inl (ap (λ (g : DeclFault). record { fault = g; place = None }) e)

-- another fault has a place
by-fault : (c : Context) (f : DeclFault) (place : Option FaultPlace) → (f ≡ F.Memory) ⊎ IsLowestFault c f → (f ≡ F.Memory → ⊥) → IsPlaceOf c f place
    → IsDeclError c (record { fault = f; place = place })
by-fault c f place (inl m) other at = absurd (other m)
by-fault c f place (inr lowest) other at = inr (lowest, at)

pub placed : (c : Context) (f : DeclFault) (p : FaultPlace) → (f ≡ F.Memory) ⊎ IsLowestFault c f → (f ≡ F.Memory → ⊥) → fault_place c f ≡ Some p
    → IsDeclError c (record { fault = f; place = Some p })
placed c f p fault other e = by-fault c f (Some p) fault other (subst (λ (o : Option FaultPlace). MatchOption o (IsOtherPlace c f (Some p)) (λ q. Some p ≡ Some q)) (sym e) refl)

pub otherwise_placed : (c : Context) (f : DeclFault) (place : Option FaultPlace) → (f ≡ F.Memory) ⊎ IsLowestFault c f → (f ≡ F.Memory → ⊥) → fault_place c f ≡ None → IsOtherPlace c f place
    → IsDeclError c (record { fault = f; place = place })
otherwise_placed c f place fault other e o = by-fault c f place fault other (subst (λ (x : Option FaultPlace). MatchOption x (IsOtherPlace c f place) (λ q. place ≡ Some q)) (sym e) o)
