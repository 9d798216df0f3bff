-- The laws of the orphan check: what passes in one mode passes in another, what covers, and the first input.
use Rattle.std.proofs.Common.{◌≡◌, Bool, true, false, List, [], ◌∷◌, ◌++◌, Option, Some, None, refl, sym, ◌∙◌, ap, subst, if◌then◌else◌}
use Rattle.ir_trees.specs.Syntax.Trees.{Forest, Tree, holds, is_loose}
use Rattle.ir_trees.specs.Declarations.Worlds.{World}
use Rattle.ir_trees.specs.declared.ir.heads.Head.{Head}
use Rattle.ir_trees.specs.declared.ir.kinds.AliasKind.{AliasKind}
use Rattle.ir_trees.specs.declared.ir.heads.Head.TheVariants as H
use Rattle.ir_trees.specs.declared.ir.kinds.AliasKind.TheVariants as AK
use Rattle.candidate_eval.specs.Knowability.Orphan.{CrateTest, Item, Viewed, Empty, Broken, Step, Class, IsNonLocal, IsSkipped, IsEmpty, IsLocal, IsUncovered, IsBroken, Refused, Stopped, decides, first_step, Answer, Passes, NonLocalInput, UncoveredInput, Checked, uncovered, second, decided, judged, entry, entries, Entry, frontier, class_of, view_class, alias_class, owned_class, Local, Proper, Compat, Remote, crate_test}
use Rattle.candidate_eval.specs.Knowability.Laws.{ProperThenCompat, RemoteLaw, FirstInputLaw, NoneFirst, OnlyFirst}
use Rattle.candidate_eval.proofs.Knowability.Answers.{second_fails, judged_if, Covers}

-- the class that decides is a local one
abbrev wins : {E : Type 0} → Class E → Type 0 → Type 0
wins (IsNonLocal t) P = P
wins IsSkipped P = P
wins IsEmpty P = P
wins (IsLocal t) P = Unit {0}
wins _ P = ⊥

abbrev Wins : {S E : Type 0} → (Item E → Class E) → List (Step S E) → Type 0
Wins k [] = ⊥
Wins k (x ∷ xs) = wins (k x.item) (Wins k xs)

winning : {S E : Type 0} (k : Item E → Class E) (again : S → List (Step S E)) (s : S) (o : Checked S (Answer E)) (P : Type 0) (c : Class E)
    → (o.answer ≡ Passes → P)
    → (if decides c then decided k again s c else o).answer ≡ Passes → wins c P
winning k again s o P (IsNonLocal t) next e = next e
winning k again s o P IsSkipped next e = next e
winning k again s o P IsEmpty next e = next e
winning k again s o P (IsLocal t) next e = tt
winning k again s o P (IsUncovered t) next e = second_fails k t s (again s) _ e
winning k again s o P (IsBroken f) next e = cc

passes_wins : {S E : Type 0} (k : Item E → Class E) (again : S → List (Step S E)) (s : S) (all steps : List (Step S E))
    → (judged k again s all (first_step decides k steps)).answer ≡ Passes → Wins k steps
passes_wins k again s all [] e = cc
passes_wins k again s all (x ∷ xs) e =
    winning k again x.after (judged k again s all (first_step decides k xs)) (Wins k xs) (k x.item)
    (passes_wins k again s all xs)
    (sym (ap (λ c. c.answer) (judged_if k again s all (decides (k x.item)) x (first_step decides k xs))) ∙ e)

won : {S E : Type 0} (k : Item E → Class E) (again : S → List (Step S E)) (s : S) (o : Checked S (Answer E)) (P : Type 0) (c : Class E)
    → (P → o.answer ≡ Passes) → wins c P → (if decides c then decided k again s c else o).answer ≡ Passes
won k again s o P (IsNonLocal t) next p = next p
won k again s o P IsSkipped next p = next p
won k again s o P IsEmpty next p = next p
won k again s o P (IsLocal t) next p = refl
won k again s o P _ next p = absurd p

wins_passes : {S E : Type 0} (k : Item E → Class E) (again : S → List (Step S E)) (s : S) (all steps : List (Step S E))
    → Wins k steps → (judged k again s all (first_step decides k steps)).answer ≡ Passes
wins_passes k again s all [] p = absurd p
wins_passes k again s all (x ∷ xs) p =
    ap (λ c. c.answer) (judged_if k again s all (decides (k x.item)) x (first_step decides k xs))
    ∙ won k again x.after (judged k again s all (first_step decides k xs)) (Wins k xs) (k x.item) (wins_passes k again s all xs) p

-- where one table has an item win, or passes over it, so does the other
wins_map : {S E : Type 0} (k l : Item E → Class E) → ((i : Item E) (P Q : Type 0) → (P → Q) → wins (k i) P → wins (l i) Q)
    → (steps : List (Step S E)) → Wins k steps → Wins l steps
wins_map k l h [] p = p
wins_map k l h (x ∷ xs) p = h x.item _ _ (wins_map k l h xs) p

same_wins : {E : Type 0} (c : Class E) (P Q : Type 0) → (P → Q) → wins c P → wins c Q
same_wins (IsNonLocal t) P Q f p = f p
same_wins IsSkipped P Q f p = f p
same_wins IsEmpty P Q f p = f p
same_wins (IsLocal t) P Q f p = tt
same_wins _ P Q f p = absurd p

alias_wins : (E : Type 0) (b : Bool) (k : AliasKind) (t : Tree) (P Q : Type 0) → (P → Q)
    → wins {E = E} (if b then alias_class (Local Proper) k t else IsNonLocal t) P
    → wins {E = E} (if b then alias_class (Local Compat) k t else IsNonLocal t) Q
alias_wins E false k t P Q f p = f p
alias_wins E true AK.Projection t P Q f p = absurd p
alias_wins E true _ t P Q f p = absurd p

compat_wins : {E : Type 0} (w : World) (x : CrateTest) (i : Item E) (P Q : Type 0) → (P → Q)
    → wins (class_of w x (Local Proper) i) P → wins (class_of w x (Local Compat) i) Q
compat_wins w x Empty P Q f p = f p
compat_wins w x (Broken e) P Q f p = absurd p
compat_wins {E} w x (Viewed t) P Q f p = at t.head t.children p
  where
    at : (h : Head) (a : Forest) → wins {E = E} (view_class w x (Local Proper) h a) P → wins {E = E} (view_class w x (Local Compat) h a) Q
    at (H.Alias k i) a p = alias_wins E (holds is_loose a) k _ P Q f p
    at (H.Adt i) a p = same_wins _ P Q f p
    at (H.Foreign i) a p = same_wins _ P Q f p
    at H.Dynamic a p = same_wins _ P Q f p
    at h a p = same_wins {E = E} (view_class w x (Local Proper) h a) P Q f p

pub proper_then_compat : (S E : Type 0) → ProperThenCompat S E
proper_then_compat S E = record {
  passes = λ w c limit see s a e.
      let walk = λ (s : S). frontier w (Some c) see limit s a in
      wins_passes (class_of w (Some c) (Local Compat)) walk s (walk s) (walk s)
      (wins_map (class_of w (Some c) (Local Proper)) (class_of w (Some c) (Local Compat)) (compat_wins w (Some c)) (walk s)
      (passes_wins (class_of w (Some c) (Local Proper)) walk s (walk s) (walk s) e));
}

-- nothing is uncovered in the remote check
alias_covers : (E : Type 0) (b : Bool) (k : AliasKind) (t : Tree) → Covers {E = E} (if b then alias_class Remote k t else IsNonLocal t)
alias_covers E false k t = tt
alias_covers E true AK.Projection t = tt
alias_covers E true _ t = tt

owned_covers : (E : Type 0) (b : Bool) (t : Tree) → Covers {E = E} (owned_class b t)
owned_covers E true t = tt
owned_covers E false t = tt

pub remote_covers : {E : Type 0} (w : World) (i : Item E) → Covers (class_of w None Remote i)
remote_covers w Empty = tt
remote_covers w (Broken f) = tt
remote_covers {E} w (Viewed t) = at t.head t.children
  where
    at : (h : Head) (a : Forest) → Covers {E = E} (view_class w None Remote h a)
    at (H.Adt i) a = owned_covers E _ _
    at (H.Foreign i) a = owned_covers E _ _
    at H.Dynamic a = owned_covers E _ _
    at (H.Alias k i) a = alias_covers E (holds is_loose a) k _
    at _ a = tt

not_uncovered : {S E : Type 0} (k : Item E → Class E) → ((i : Item E) → Covers (k i))
    → (again : S → List (Step S E)) (s : S) (all : List (Step S E)) (x : Option (Step S E)) (t : Tree) (o : Option Tree)
    → (judged k again s all x).answer ≡ UncoveredInput t o → ⊥
not_uncovered k v again s all None t o e = cc
not_uncovered {S} {E} k v again s all (Some x) t o e = at (k x.item) (v x.item) e
  where
    at : (c : Class E) → Covers c → (decided k again x.after c).answer ≡ UncoveredInput t o → ⊥
    at (IsLocal u) v e = cc
    at (IsUncovered u) v e = absurd v
    at (IsBroken f) v e = cc
    at _ v e = cc

pub remote_law : (S E : Type 0) → RemoteLaw S E
remote_law S E = record {
  same = λ w c d limit see s a. refl;
  never_uncovered = λ w c limit see s a t o e.
      not_uncovered (class_of w None Remote) (remote_covers w) (λ (s : S). frontier w None see limit s a) s
      (frontier w None see limit s a) (first_step decides (class_of w None Remote) (frontier w None see limit s a)) t o e;
}

later_entry : {E : Type 0} (c : Class E) (l : List Entry) → NoneFirst l → NoneFirst (entry false c ++ l)
later_entry (IsNonLocal t) l n = (refl, n)
later_entry _ l n = n

later : {S E : Type 0} (k : Item E → Class E) (steps : List (Step S E)) → NoneFirst (entries false k steps)
later k [] = tt
later k (x ∷ xs) = later_entry (k x.item) _ (later k xs)

none_only : (l : List Entry) → NoneFirst l → OnlyFirst l
none_only [] n = tt
none_only (e ∷ es) n = n.1

first_entry : {E : Type 0} (c : Class E) (l : List Entry) → NoneFirst l → OnlyFirst (entry true c ++ l)
first_entry (IsNonLocal t) l n = n
first_entry _ l n = none_only l n

only_first : {S E : Type 0} (k : Item E → Class E) (steps : List (Step S E)) → OnlyFirst (entries true k steps)
only_first k [] = tt
only_first k (x ∷ xs) = first_entry (k x.item) _ (later k xs)

-- the entries of an answer
abbrev listed : {E : Type 0} → Answer E → List Entry
listed (NonLocalInput l) = l
listed _ = []

uncovered_lists : {E : Type 0} (t : Tree) (c : Class E) → OnlyFirst (listed (uncovered t c))
uncovered_lists t (IsLocal u) = tt
uncovered_lists t (IsBroken (Stopped n)) = tt
uncovered_lists t (IsBroken (Refused f)) = tt
uncovered_lists t _ = tt

second_lists : {S E : Type 0} (k : Item E → Class E) (t : Tree) (s : S) (steps : List (Step S E)) (o : Option (Step S E))
    → OnlyFirst (listed (second k t s steps o).answer)
second_lists k t s steps None = tt
second_lists k t s steps (Some x) = uncovered_lists t (k x.item)

decided_lists : {S E : Type 0} (k : Item E → Class E) (again : S → List (Step S E)) (s : S) (c : Class E)
    → OnlyFirst (listed (decided k again s c).answer)
decided_lists k again s (IsLocal t) = tt
decided_lists k again s (IsUncovered t) = second_lists k t s (again s) _
decided_lists k again s (IsBroken f) = tt
decided_lists k again s _ = tt

judged_lists : {S E : Type 0} (k : Item E → Class E) (again : S → List (Step S E)) (s : S) (all : List (Step S E)) (x : Option (Step S E))
    → OnlyFirst (listed (judged k again s all x).answer)
judged_lists k again s all None = only_first k all
judged_lists k again s all (Some x) = decided_lists k again x.after (k x.item)

pub first_input_law : (S E : Type 0) → FirstInputLaw S E
first_input_law S E = record {
  once = λ w c limit m see s a l e.
      let k = class_of {E = E} w (crate_test m c) m in
      let walk = λ (s : S). frontier w (crate_test m c) see limit s a in
      subst (λ (z : Answer E). OnlyFirst (listed z)) e (judged_lists k walk s (walk s) (first_step decides k (walk s)));
}
