-- Words that are added to a text, one behind the other.
use Rattle.std.proofs.Common.{◌≡◌, ◌∙◌, ◌++◌, ℕ, List, [], Result, Ok, Err, OnOk, ap, sym}
use Rattle.std.proofs.lemmas.List.{append-nil, append_assoc}
use Rattle.ir_trees.specs.declared.ir.stop.Stop.{Stop}
use Rattle.assembly_text.specs.Reasons.{AddsMore}

pub nothing-more : (old : List ℕ) → AddsMore old old
nothing-more old = ([], sym (append-nil old))

pub more-then : (a b c : List ℕ) → AddsMore a b → AddsMore b c → AddsMore a c
more-then a b c m n = (m.0 ++ n.0, n.1 ∙ (ap (λ x. x ++ n.0) m.1 ∙ append_assoc a m.0 n.0))

pub more-made : (made : Result (Unit {0}) Stop) (a b c : List ℕ) → AddsMore a b → OnOk made (AddsMore b c) → OnOk made (AddsMore a c)
more-made (Ok x) a b c m n = more-then a b c m n
more-made (Err s) a b c m n = tt
