-- What a walk comes to makes the answer.
use Rattle.std.proofs.Common.{◌≡◌, ℕ, Bool, true, false, List, [], ◌++◌, Option, None, Result, Ok, Err, sym, ◌∙◌, ap, subst}
use Rattle.std.specs.Prelude.{IfOk, IfErr, IfSome}
use Rattle.ir_trees.specs.declared.ir.kinds.Ty.{Ty}
use Rattle.ir_trees.specs.declared.ir.kinds.Args.{Args}
use Rattle.ir_trees.specs.declared.ir.stop.Stop.{Stop}
use Rattle.ir_trees.specs.Declarations.Context.{Context, Grows, world}
use Rattle.ir_trees.specs.Syntax.Trees.{Forest, Tree}
use Rattle.ir_trees.specs.Syntax.Words.{IsArgs, IsTy, args_forest, ty_tree}
use Rattle.ir_trees.proofs.Growth.Kept.{args-kept, ty-kept}
use Rattle.candidate_eval.specs.declared.coherence.IsFirstInputType.{IsFirstInputType}
use Rattle.candidate_eval.specs.declared.coherence.OrphanStop.{OrphanStop}
use Rattle.candidate_eval.specs.declared.coherence.OrphanStop.TheVariants as O
use Rattle.candidate_eval.specs.declared.coherence.walk.EarlyExit.{EarlyExit}
use Rattle.candidate_eval.specs.declared.coherence.walk.EarlyExit.TheVariants as X
use Rattle.candidate_eval.specs.declared.coherence.walk.Walk.{Walk}
use Rattle.candidate_eval.specs.Knowability.Answers.{answer_of, entries_of, second_answer}
use Rattle.candidate_eval.specs.Calls.Exits.{local_ty_of}
use Rattle.candidate_eval.specs.Knowability.Normalizer.{Untold, IsUntold}
use Rattle.candidate_eval.specs.Knowability.Orphan.{InCrate, View, Step, Class, IsUncovered, Entry, Answer, Passes, NonLocalInput, UncoveredInput, Checked, orphan_answer, judged, decided, second, uncovered, entries, decides_again, first_step}
use Rattle.candidate_eval.specs.Knowability.Laws.{OnlyFirst}
use Rattle.candidate_eval.specs.Calls.Second.{IsSecond}
use Rattle.candidate_eval.specs.Calls.Walk.{Setting, setting, classes, list_steps, deciding, exit_class, IsExit, Passed, Found, Outcome}
use Rattle.candidate_eval.proofs.Interface.Stops.{local-is-no-stop, uncovered-is-no-stop}
use Rattle.candidate_eval.proofs.Frontier.Walking.{setting-kept}

module _ {S E : Type 0} (c0 : Context) (m : InCrate) (see : View S E) (n : ℕ) (a : Forest) (s s1 : S) (ts : List Tree) where
  -- nothing decides
  pub passed-checked : (old new : Walk) → old.seeks_local ≡ false → old.is_first ≡ true → old.non_local.items ≡ []
      → Passed ts (classes (setting c0 m)) old new s s1 (list_steps (setting c0 m) see n s a)
      → orphan_answer (world c0) c0.local.0 m see n s a ≡ record { answer = NonLocalInput (entries_of ts new.non_local.items); after = s1 }
  passed-checked old new again first z passed =
      let p = setting c0 m in
      let walk : S → List (Step S E) = λ x. list_steps p see n x a in
      ap (λ (o : Option (Step S E)). judged (classes p) walk s (walk s) o) (subst (λ (b : Bool). first_step (deciding b) (classes p) (walk s) ≡ None) again passed.none)
      ∙ (ap (λ (x : S). let k : Checked S (Answer E) = record { answer = NonLocalInput (entries true (classes p) (walk s)); after = x } in k) passed.leaves
      ∙ ap (λ (l : List Entry). let k : Checked S (Answer E) = record { answer = NonLocalInput l; after = s1 } in k)
      (ap (λ (b : Bool). entries b (classes p) (walk s)) (sym first)
      ∙ sym (passed.recorded ∙ ap (λ (o : List (Ty × IsFirstInputType)). entries_of ts o ++ entries old.is_first (classes p) (walk s)) z)))

  -- an item decides
  found-checked : (k : Class E) → Found (classes (setting c0 m)) false (list_steps (setting c0 m) see n s a) k s1
      → orphan_answer (world c0) c0.local.0 m see n s a ≡ decided (classes (setting c0 m)) (λ x. list_steps (setting c0 m) see n x a) s1 k
  found-checked k f =
      let p = setting c0 m in
      let walk : S → List (Step S E) = λ x. list_steps p see n x a in
      ap (λ (o : Option (Step S E)). judged (classes p) walk s (walk s) o) f.is
      ∙ (ap (λ (x : S). decided (classes p) walk x (classes p f.step.item)) f.leaves
      ∙ ap (λ (c : Class E). decided (classes p) walk s1 c) f.class_is)

  pub local-checked : (t : Ty) → Found (classes (setting c0 m)) false (list_steps (setting c0 m) see n s a) (exit_class ts (X.Local t)) s1
      → orphan_answer (world c0) c0.local.0 m see n s a ≡ record { answer = Passes; after = s1 }
  local-checked t f = found-checked _ f

  pub broken-checked : (o : OrphanStop E) → Found (classes (setting c0 m)) false (list_steps (setting c0 m) see n s a) (exit_class ts (X.Broken o)) s1
      → orphan_answer (world c0) c0.local.0 m see n s a ≡ record { answer = answer_of ts (Err o); after = s1 }
  broken-checked (O.Normalize e) f = found-checked _ f
  broken-checked (O.Stop z) f = found-checked _ f

-- what decides the second walk makes the answer
second-found : {S E : Type 0} (p : Setting) (see : View S E) (n : ℕ) (a : Forest) (s s1 : S) (again : Bool) → again ≡ true → (k : Class E)
    → Found (classes p) again (list_steps p see n s a) k s1 → (t : Tree) → IsSecond p see n s a t (record { answer = uncovered t k; after = s1 })
second-found {S} {E} p see n a s s1 again e k found t =
    let steps = list_steps p see n s a in
    let P : Bool → Type 0 = λ b. Found (classes p) b steps k s1 in
    let f : Found (classes p) true steps k s1 = subst P e found in
    ap (λ (o : Option (Step S E)). second (classes p) t s steps o) f.is
    ∙ (ap (λ (c : Class E). let x : Checked S (Answer E) = record { answer = uncovered t c; after = f.step.after } in x) f.class_is
    ∙ ap (λ (x : S). let y : Checked S (Answer E) = record { answer = uncovered t k; after = x } in y) f.leaves)

pub second-answered : {S E : Type 0} (p : Setting) (see : View S E) (n : ℕ) (a : Forest) (s s1 : S) (ts : List Tree) (untold : Untold) (old new : Walk)
    (r : Result (Unit {0}) (EarlyExit E)) → old.seeks_local ≡ true → Outcome untold ts (classes p) old new s s1 (list_steps p see n s a) r
    → ((z : Stop) → IsUntold untold z → local_ty_of r ≡ Err z → ⊥)
    → (t : Tree) → IsSecond p see n s a t (record { answer = second_answer ts t (local_ty_of r); after = s1 })
second-answered {S} {E} p see n a s s1 ts untold old new (Ok u) e o told t =
    let steps = list_steps p see n s a in
    let none : first_step decides_again (classes p) steps ≡ None = subst (λ (b : Bool). first_step (deciding b) (classes p) steps ≡ None) e o.none in
    ap (λ (x : Option (Step S E)). second (classes p) t s steps x) none
    ∙ ap (λ (x : S). let y : Checked S (Answer E) = record { answer = UncoveredInput t None; after = x } in y) o.leaves
second-answered p see n a s s1 ts untold old new (Err (X.Local u)) e o told t =
    second-found p see n a s s1 old.seeks_local e _ (o (λ z i. local-is-no-stop u z)) t
second-answered p see n a s s1 ts untold old new (Err (X.Uncovered u)) e o told t =
    second-found p see n a s s1 old.seeks_local e _ (o (λ z i. uncovered-is-no-stop u z)) t
second-answered p see n a s s1 ts untold old new (Err (X.Broken (O.Normalize x))) e o told t =
    second-found p see n a s s1 old.seeks_local e _ (o (λ z i q. told z i cc)) t
second-answered p see n a s s1 ts untold old new (Err (X.Broken (O.Stop x))) e o told t =
    second-found p see n a s s1 old.seeks_local e _ (o (λ z i q. told z i cc)) t

-- its stop is the walk's
pub stop-of-local : {E : Type 0} (r : Result (Unit {0}) (EarlyExit E)) (s : Stop) → local_ty_of r ≡ Err s → r ≡ Err (X.Broken (O.Stop s))
stop-of-local (Ok u) s e = cc
stop-of-local (Err (X.Local t)) s e = cc
stop-of-local (Err (X.Uncovered t)) s e = cc
stop-of-local (Err (X.Broken (O.Normalize x))) s e = cc
stop-of-local (Err (X.Broken (O.Stop z))) s e = let k : z ≡ s = cc in ap (λ (x : Stop). Err (X.Broken (O.Stop x))) k

-- and its type one that broke the walk off
pub local-type : {E : Type 0} (ts : List Tree) (r : Result (Unit {0}) (EarlyExit E)) → IfErr r (λ x. IsExit ts x) → IfOk (local_ty_of r) (λ o. IfSome o (λ t. IsTy ts t))
local-type ts (Ok u) i = tt
local-type ts (Err (X.Local t)) i = i
local-type ts (Err (X.Uncovered t)) i = tt
local-type ts (Err (X.Broken (O.Normalize x))) i = tt
local-type ts (Err (X.Broken (O.Stop z))) i = tt

-- of the answers only one has a list
pub only-list : {E : Type 0} (k l : List Entry) → OnlyFirst k → (let a : Answer E = NonLocalInput k in a ≡ NonLocalInput l) → OnlyFirst l
only-list k l o e = let i : k ≡ l = cc in subst (λ (x : List Entry). OnlyFirst x) i o

pub passes-no-list : {E : Type 0} (l : List Entry) → (let a : Answer E = Passes in a ≡ NonLocalInput l) → ⊥
passes-no-list l e = cc

pub uncovered-no-list : {E : Type 0} (t : Tree) (o : Option Tree) (l : List Entry) → (let a : Answer E = UncoveredInput t o in a ≡ NonLocalInput l) → ⊥
uncovered-no-list t o l e = cc

pub stop-no-list : {E : Type 0} (ts : List Tree) (o : OrphanStop E) (l : List Entry) → answer_of ts (Err o) ≡ NonLocalInput l → ⊥
stop-no-list ts (O.Normalize x) l e = cc
stop-no-list ts (O.Stop z) l e = cc

-- an uncovered view and the second walk make the answer
pub uncovered-checked : {S E : Type 0} (c0 c1 c2 : Context) → Grows c0 c1 → Grows c1 c2 → (m : InCrate) (see : View S E) (n : ℕ) (a : Args) → IsArgs c0.trees a
    → (s s1 : S) (u : Ty) → IsTy c1.trees u
    → Found (classes (setting c0 m)) false (list_steps (setting c0 m) see n s (args_forest c0.trees a)) (IsUncovered (ty_tree c1.trees u)) s1
    → (checked : Tree → Checked S (Answer E))
    → ((t : Tree) → IsSecond (setting c1 m) see n s1 (args_forest c1.trees a) t (checked t))
    → orphan_answer (world c0) c0.local.0 m see n s (args_forest c0.trees a) ≡ checked (ty_tree c2.trees u)
uncovered-checked {S} {E} c0 c1 c2 g h m see n a i s s1 u j f checked second =
    let p = setting c0 m in
    let args = args_forest c0.trees a in
    let walk : S → List (Step S E) = λ x. list_steps p see n x args in
    let t = ty_tree c1.trees u in
    let P : Setting → Type 0 = λ q. IsSecond q see n s1 (args_forest c1.trees a) t (checked t) in
    let Q : Forest → Type 0 = λ x. IsSecond p see n s1 x t (checked t) in
    let again : IsSecond p see n s1 args t (checked t) = subst Q (args-kept c0 c1 a g i).1 (subst P (setting-kept c0 c1 m g) (second t)) in
    ap (λ (o : Option (Step S E)). judged (classes p) walk s (walk s) o) f.is
    ∙ (ap (λ (x : S). decided (classes p) walk x (classes p f.step.item)) f.leaves
    ∙ (ap (λ (c : Class E). decided (classes p) walk s1 c) f.class_is
    ∙ (again
    ∙ ap checked (sym (ty-kept c1 c2 u h j).1))))
