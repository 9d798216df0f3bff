-- Words are added one after the other; and values stay types of a context that grows.
use Rattle.std.proofs.Common.{◌≡◌, ◌∙◌, ◌++◌, ℕ, List, [], Option, Some, None, ap, sym}
use Rattle.std.specs.Prelude.{All, IfSome}
use Rattle.std.proofs.lemmas.List.{append-nil, append_assoc}
use Rattle.std.proofs.lemmas.List.Elements.{All-weaker}
use Rattle.ir_trees.specs.declared.ir.kinds.Args.{Args}
use Rattle.ir_trees.specs.declared.ir.kinds.Ty.{Ty}
use Rattle.ir_trees.specs.Declarations.Context.{Context, Grows}
use Rattle.ir_trees.specs.Syntax.Words.{IsArgs, IsTy}
use Rattle.ir_trees.proofs.Growth.Kept.{args-kept, ty-kept}
use Rattle.ir_folds.proofs.Instantiation.Joining.{clause-kept}
use Rattle.assembly_text.specs.declared.explaining.AskedGoal.{AskedGoal}
use Rattle.assembly_text.specs.Explaining.{IsAsked}
use Rattle.assembly_text.specs.Printing.{AddsWord}
use Rattle.assembly_text.specs.Solving.{AreValues}

pub word-none : (old : List ℕ) → AddsWord [] old old
word-none old = ([], sym (append-nil old))

pub word-then : (xs ys old mid new : List ℕ) → mid ≡ old ++ xs → AddsWord ys mid new → AddsWord [] old new
word-then xs ys old mid new e a = (xs ++ (ys ++ a.0), a.1 ∙ (ap (λ zs. zs ++ (ys ++ a.0)) e ∙ append_assoc old xs (ys ++ a.0)))

pub word-along : (old mid new : List ℕ) → AddsWord [] old mid → AddsWord [] mid new → AddsWord [] old new
word-along old mid new a b = word-then a.0 [] old mid new a.1 b

pub values-grown : (b c : Context) (xs : List (ℕ × Ty)) → Grows b c → AreValues b.trees xs → AreValues c.trees xs
values-grown b c xs g = All-weaker (λ (x : ℕ × Ty). IsTy b.trees x.1) (λ (x : ℕ × Ty). IsTy c.trees x.1) (λ x h. (ty-kept b c x.1 g h).0) xs

pub asked-on : (b c : Context) (x : AskedGoal) → Grows b c → IsAsked b.trees x → IsAsked c.trees x
asked-on b c x g h = record { clause = (clause-kept b c x.clause g h.clause).0; values = found-grown x.values h.values }
  where
    found-grown : (o : Option Args) → IfSome o (IsArgs b.trees) → IfSome o (IsArgs c.trees)
    found-grown None h = tt
    found-grown (Some a) h = (args-kept b c a g h).0

pub asked-grown : (b c : Context) (xs : List AskedGoal) → Grows b c → All (IsAsked b.trees) xs → All (IsAsked c.trees) xs
asked-grown b c xs g = All-weaker (IsAsked b.trees) (IsAsked c.trees) (λ x h. asked-on b c x g h) xs
