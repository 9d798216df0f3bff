use Rattle.std.proofs.Common.{◌≡◌, Bool, true, false, List, [], ◌∷◌, Option, Some, None, refl, sym, ◌∙◌, ap, subst, if◌then◌else◌}
use Rattle.ir_trees.specs.Syntax.Trees.{Tree}
use Rattle.candidate_eval.specs.Knowability.Orphan.{Item, Step, Class, IsNonLocal, IsSkipped, IsEmpty, IsLocal, IsUncovered, IsBroken, Refused, Stopped, decides, first_step, Answer, Passes, Faulty, Checked, uncovered, second, decided, judged}
use Rattle.candidate_eval.proofs.Frontier.Walks.{Clear, Good, goes}

uncovered_fails : {E : Type 0} (t : Tree) (c : Class E) → uncovered t c ≡ Passes → ⊥
uncovered_fails t (IsLocal u) e = cc
uncovered_fails t (IsBroken (Stopped n)) e = cc
uncovered_fails t (IsBroken (Refused f)) e = cc
uncovered_fails t _ e = cc

pub second_fails : {S E : Type 0} (k : Item E → Class E) (t : Tree) (s : S) (steps : List (Step S E)) (o : Option (Step S E))
    → (second k t s steps o).answer ≡ Passes → ⊥
second_fails k t s steps None e = cc
second_fails k t s steps (Some x) e = uncovered_fails t (k x.item) e

pub judged_if : {S E : Type 0} (k : Item E → Class E) (again : S → List (Step S E)) (s : S) (steps : List (Step S E))
    (b : Bool) (x : Step S E) (o : Option (Step S E))
    → judged k again s steps (if b then Some x else o) ≡ (if b then decided k again x.after (k x.item) else judged k again s steps o)
judged_if k again s steps true x o = refl
judged_if k again s steps false x o = refl

-- a class by which the check passes, or goes on
passing : {S E : Type 0} (k : Item E → Class E) (again : S → List (Step S E)) (s : S) (o : Checked S (Answer E)) (P : Type 0) (c : Class E)
    → (o.answer ≡ Passes → P)
    → (if decides c then decided k again s c else o).answer ≡ Passes → goes c P
passing k again s o P (IsNonLocal t) next e = next e
passing k again s o P IsSkipped next e = next e
passing k again s o P IsEmpty next e = next e
passing k again s o P (IsLocal t) next e = tt
passing k again s o P (IsUncovered t) next e = second_fails k t s (again s) _ e
passing k again s o P (IsBroken f) next e = cc

-- where the check passes, the frontier doesn't go wrong
pub passes_good : {S E : Type 0} (k : Item E → Class E) (again : S → List (Step S E)) (s : S) (all steps : List (Step S E))
    → (judged k again s all (first_step decides k steps)).answer ≡ Passes → Good k steps
passes_good k again s all [] e = tt
passes_good k again s all (x ∷ xs) e =
    passing k again x.after (judged k again s all (first_step decides k xs)) (Good k xs) (k x.item)
    (passes_good k again s all xs)
    (sym (ap (λ c. c.answer) (judged_if k again s all (decides (k x.item)) x (first_step decides k xs))) ∙ e)

clear_none : {S E : Type 0} (k : Item E → Class E) (steps : List (Step S E)) → Clear k steps → first_step decides k steps ≡ None
clear_none k [] c = refl
clear_none k (x ∷ xs) c = rw c.0 (clear_none k xs c.1)

-- and something in it decides
pub clear_fails : {S E : Type 0} (k : Item E → Class E) (again : S → List (Step S E)) (s : S) (all steps : List (Step S E))
    → (judged k again s all (first_step decides k steps)).answer ≡ Passes → Clear k steps → ⊥
clear_fails k again s all steps e c =
    let f : (judged k again s all None).answer ≡ Passes = rw (clear_none k steps c) at e in cc

-- neither passed nor broken off
abbrev pub Refuses : {E : Type 0} → Answer E → Type 0
Refuses Passes = ⊥
Refuses (Faulty f) = ⊥
Refuses _ = Unit {0}

abbrev pub Covers : {E : Type 0} → Class E → Type 0
Covers (IsUncovered t) = ⊥
Covers _ = Unit {0}

refusing : {S E : Type 0} (k : Item E → Class E) (again : S → List (Step S E)) (s : S) (o : Checked S (Answer E)) (P : Type 0) (c : Class E)
    → Covers c → (Refuses o.answer → P)
    → Refuses (if decides c then decided k again s c else o).answer → (decides c ≡ false) × P
refusing k again s o P (IsNonLocal t) v next r = (refl, next r)
refusing k again s o P IsSkipped v next r = (refl, next r)
refusing k again s o P IsEmpty v next r = (refl, next r)
refusing k again s o P (IsLocal t) v next r = absurd r
refusing k again s o P (IsUncovered t) v next r = absurd v
refusing k again s o P (IsBroken f) v next r = absurd r

-- where the check refuses, and no class is uncovered, nothing decides
pub refuses_clear : {S E : Type 0} (k : Item E → Class E) → ((i : Item E) → Covers (k i))
    → (again : S → List (Step S E)) (s : S) (all steps : List (Step S E))
    → Refuses (judged k again s all (first_step decides k steps)).answer → Clear k steps
refuses_clear k v again s all [] r = tt
refuses_clear k v again s all (x ∷ xs) r =
    refusing k again x.after (judged k again s all (first_step decides k xs)) (Clear k xs) (k x.item) (v x.item)
    (refuses_clear k v again s all xs)
    (subst (λ c. Refuses c.answer) (judged_if k again s all (decides (k x.item)) x (first_step decides k xs)) r)
