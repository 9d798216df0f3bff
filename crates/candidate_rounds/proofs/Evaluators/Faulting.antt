-- A context in which a fault was put off, or none, has grown.
use Rattle.std.proofs.Common.{◌≡◌, ℕ, List, [], ◌∷◌, ◌++◌, Result, Ok, Err, IfOk, IfErr, sym, subst}
use Rattle.ir_trees.specs.declared.ir.stop.Stop.{Stop}
use Rattle.ir_trees.specs.Declarations.Context.{Context, Grows}
use Rattle.ir_trees.proofs.Growth.Kept.{faults-grow, grows-refl}

pub fault-grows : {A : Type 0} (b c : Context) (text : List ℕ) (q : Result A Stop) → IfOk q (λ _. c ≡ record b { delayed_bugs = b.delayed_bugs ++ text ∷ [] }) → IfErr q (λ _. c ≡ b) → Grows b c
fault-grows b c text (Ok a) p e = subst (Grows b) (sym p) (faults-grow b text)
fault-grows b c text (Err s) p e = subst (Grows b) (sym e) (grows-refl b)
