-- What is said of answers: what follows from it, and two things of one.
use Rattle.std.proofs.Common.{Result, Ok, Err, IfOk, OnOk}

pub on-ok-weaker : {A E : Type 0} {P Q : Type 0} (r : Result A E) → (P → Q) → OnOk r P → OnOk r Q
on-ok-weaker (Ok x) f h = f h
on-ok-weaker (Err e) f h = tt

pub ok-both : {A E : Type 0} (P Q : A → Type 0) (r : Result A E) → IfOk r P → IfOk r Q → IfOk r (λ x. P x × Q x)
ok-both P Q (Ok x) p q = (p, q)
ok-both P Q (Err e) p q = tt
