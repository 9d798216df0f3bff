-- How steps follow steps.
use Rattle.std.proofs.Common.{◌≡◌, List, [], ◌∷◌, ◌++◌, refl, ap, sym, ◌∙◌}
use Rattle.candidate_eval.specs.Judges.States.{Env, Judge}
use Rattle.candidate_eval.specs.Derivations.Rules.{Step, Ending}
use Rattle.candidate_eval.specs.Derivations.Judging.{Place, Reached, At, Ambiguous, Over, go_on, step, run, continued, concluded, comes_to}

go_on_twice : (r : Reached) (f h : Place → Reached) → go_on (go_on r f) h ≡ go_on r (λ p. go_on (f p) h)
go_on_twice (At p) f h = refl
go_on_twice (Ambiguous S) f h = refl
go_on_twice (Over o) f h = refl

go_on_alike : (r : Reached) (f h : Place → Reached) → ((p : Place) → f p ≡ h p) → go_on r f ≡ go_on r h
go_on_alike (At p) f h e = e p
go_on_alike (Ambiguous S) f h e = refl
go_on_alike (Over o) f h e = refl

-- Steps and then others are one row of steps.
pub run_append : (J : Judge) (e : Env) (p : Place) (xs ys : List Step) → run J e p (xs ++ ys) ≡ go_on (run J e p xs) (λ q. run J e q ys)
run_append J e p [] ys = refl
run_append J e p (x ∷ xs) ys = go_on_alike (step J e p x) _ _ (λ q. run_append J e q xs ys) ∙ sym (go_on_twice (step J e p x) (λ q. run J e q xs) (λ q. run J e q ys))

then_continued : (J : Judge) (e : Env) (end : Ending) (r : Reached) (ys : List Step)
    → continued J end (go_on r (λ q. run J e q ys)) (λ q. concluded J e end q.state) ≡ continued J end r (λ q. comes_to J e q ys end)
then_continued J e end (At p) ys = refl
then_continued J e end (Ambiguous S) ys = refl
then_continued J e end (Over o) ys = refl

-- What the whole comes to is what the rest comes to at the place that the first steps reach.
pub comes_append : (J : Judge) (e : Env) (p : Place) (xs ys : List Step) (end : Ending)
    → comes_to J e p (xs ++ ys) end ≡ continued J end (run J e p xs) (λ q. comes_to J e q ys end)
comes_append J e p xs ys end = ap (λ r. continued J end r (λ q. concluded J e end q.state)) (run_append J e p xs ys) ∙ then_continued J e end (run J e p xs) ys

pub left_is_whole : (J : Judge) (e : Env) (p q : Place) (xs ys : List Step) (end : Ending) → run J e p xs ≡ At q
    → comes_to J e p (xs ++ ys) end ≡ comes_to J e q ys end
left_is_whole J e p q xs ys end reaches = comes_append J e p xs ys end ∙ ap (λ r. continued J end r (λ z. comes_to J e z ys end)) reaches
