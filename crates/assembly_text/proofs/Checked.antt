-- What is printed for the orphan check's answer.
use Rattle.std.proofs.Common.{◌≡◌, ◌++◌, ◌∷◌, [], ℕ, Bool, List, Option, Some, None, Result, Ok, Err, OnOk, refl, sym, ap, subst, ◌∙◌}
use Rattle.std.specs.Prelude.{All, IfSome, option_map}
use Rattle.std.proofs.lemmas.List.Elements.{All-head, All-tail, All-weaker}
use Rattle.std.proofs.lemmas.List.{append-nil, append_assoc}
use Rattle.std.proofs.Common.{inl, inr}
use Rattle.ir_trees.specs.declared.decl.contents.ImplId.{ImplId}
use Rattle.ir_trees.specs.declared.ir.kinds.TraitRef.{TraitRef}
use Rattle.ir_trees.specs.declared.ir.stop.Stop.{Stop}
use Rattle.ir_trees.specs.declared.ir.stop.Stop.TheVariants.{Memory}
use Rattle.ir_trees.specs.declared.ir.kinds.Ty.{Ty}
use Rattle.ir_trees.specs.Declarations.Context.{Context, Grows}
use Rattle.ir_trees.specs.Syntax.Trees.{Tree}
use Rattle.ir_trees.specs.Syntax.Words.{IsArgs, IsTy, ty_tree}
use Rattle.ir_trees.proofs.Growth.Kept.{args-kept, limits-kept, ty-kept, world-kept}
use Rattle.candidate_eval.specs.declared.coherence.IsFirstInputType.{IsFirstInputType}
use Rattle.candidate_eval.specs.declared.coherence.OrphanCheckErr.{OrphanCheckErr}
use Rattle.candidate_eval.specs.declared.coherence.OrphanCheckErr.TheVariants as C
use Rattle.candidate_eval.specs.declared.coherence.UncoveredTyParams.{UncoveredTyParams}
use Rattle.candidate_eval.specs.declared.coherence.InCrate.{InCrate}
use Rattle.candidate_eval.specs.declared.coherence.InCrate.TheVariants.{Local}
use Rattle.candidate_eval.specs.declared.coherence.OrphanCheckMode.TheVariants.{Compat, Proper}
use Rattle.candidate_eval.specs.declared.coherence.OrphanStop.TheVariants as O
use Rattle.assembly_notation.specs.declared.names.NamedImpl.{NamedImpl}
use Rattle.assembly_notation.specs.declared.names.Names.{Names}
use Rattle.assembly_text.specs.Paired.{IsOpenHeader}
use Rattle.assembly_text.specs.Checking.{Adds, AddsFailure, AddsOfRefused, HasError, Refuses, SaysOfImpl, SaysOfRefused, StoppedBy, compatible_stop, lint, lint_text, orphan, orphan_stop, orphan_text, passes, refused, stop_text}
use Rattle.assembly_text.proofs.Finding.{adds-nothing, adds-text, adds-weaker}
use Rattle.candidate_eval.specs.Knowability.Answers.{AreAnswerTypes, CheckResult, OutOfMemory, answer_of, entries_of, is_first_input}
use Rattle.candidate_eval.specs.Knowability.Calls.{plain_check_of}
use Rattle.candidate_eval.specs.Knowability.Orphan.{Answer, Entry, Faulty, NonLocalInput, Passes, Stopped, UncoveredInput, bare_answer, plain_check}
use Rattle.assembly_text.specs.Asking.{AddsSomeCheck}
use Rattle.assembly_text.specs.Printing.{AddsAnswer, AddsEntries, AddsEntry, AddsError, AddsLocal, AddsWord, AreEntries, IsCheckText, IsLocalWord, and_one, first_text, none, nonlocal, nothing, ok, some, uncovered}

-- a fault has no text
no-fault : {E : Type 0} (a : Answer E) (f : _) (text : List ℕ) → a ≡ Faulty f → IsCheckText a text → ⊥
no-fault _ f _ e ok = cc
no-fault _ f _ e (nonlocal es) = cc
no-fault _ f _ e (uncovered t w l) = cc

bare-text : {E : Type 0} (a : Answer E) (text : List ℕ) → IsCheckText a text → IsCheckText (bare_answer a) text
bare-text _ _ ok = ok
bare-text _ _ (nonlocal es) = nonlocal es
bare-text _ _ (uncovered t w l) = uncovered t w l

pub check-printed : {E : Type 0} (k : CheckResult E) (made : Result (Unit {0}) Stop) (b c d : Context) (ts : List Tree) (m : InCrate) (t : TraitRef) (old new : List ℕ) → Grows b c → Grows c d
    → (¬ (OutOfMemory k) → bare_answer (answer_of ts k) ≡ plain_check_of c m t) → OnOk made (AddsAnswer (answer_of ts k) old new) → OnOk made (AddsSomeCheck b d old new)
check-printed k (Err x) b c d ts m t old new g h is p = tt
check-printed k (Ok x) b c d ts m t old new g h is (text, says, added) =
    let enough : ¬ (OutOfMemory k) = λ e. no-fault (answer_of ts k) _ text (ap (answer_of ts) e) says in
    record { context = c; read = g; left = h; in_crate = m; trait_ref = t; text = text; is = subst (λ a. IsCheckText a text) (is enough) (bare-text (answer_of ts k) text says); added = added }

-- only what passes has that answer
only-passing : {E : Type 0} (ts : List Tree) (k : CheckResult E) → bare_answer (answer_of ts k) ≡ Passes → (u : Unit {0}) × (k ≡ Ok (Ok u))
only-passing ts (Ok (Ok u)) e = (u, refl)
only-passing ts (Ok (Err (C.NonLocalInputType v))) e = absurd cc
only-passing ts (Ok (Err (C.UncoveredTyParams u))) e = absurd cc
only-passing ts (Err (O.Stop s)) e = absurd cc
only-passing ts (Err (O.Normalize n)) e = absurd cc

-- A check that passes says nothing.
pub adds-passing : {E : Type 0} (k : CheckResult E) (names : Names) (b c : Context) (ts : List Tree) (a : ImplId) (t : TraitRef) (old new : List ℕ) → Grows b c → IsOpenHeader c a t → k ≡ Ok (Ok tt)
    → (¬ (OutOfMemory k) → bare_answer (answer_of ts k) ≡ plain_check_of c (Local Proper) t) → new ≡ old → Adds (SaysOfImpl names b a) old new
adds-passing k names b c ts a t old new g h is p e =
    let enough : ¬ (OutOfMemory k) = λ m. let clash : Ok (Ok tt) ≡ Err (O.Stop Memory) = sym is ∙ m in cc in
    adds-nothing (SaysOfImpl names b a) old new (passes c t g h (sym (p enough) ∙ ap (λ r. bare_answer (answer_of ts r)) is)) e

-- It stopped, and not for want of memory.
pub failure-stopped : {E : Type 0} (k : CheckResult E) (made : Result (Unit {0}) Stop) (ts : List Tree) (s : Stop) (old new : List ℕ) → k ≡ Err (O.Stop s) → (s ≡ Memory → ⊥) → OnOk made (new ≡ old ++ stop_text s)
    → OnOk made (AddsFailure (answer_of ts k) old new)
failure-stopped k (Err x) ts s old new is m e = tt
failure-stopped k (Ok x) ts s old new is m e = inr (s, record { is = ap (answer_of ts) is; has_memory = m }, e)

pub failure-answered : {E : Type 0} (a : Answer E) (made : Result (Unit {0}) Stop) (old new : List ℕ) → OnOk made (AddsAnswer a old new) → OnOk made (AddsFailure a old new)
failure-answered a (Err x) old new e = tt
failure-answered a (Ok x) old new e = inl e

-- what stopped it is no want of memory
stopped-enough : {E : Type 0} (ts : List Tree) (k : CheckResult E) (s : Stop) → StoppedBy (answer_of ts k) s → ¬ (OutOfMemory k)
stopped-enough ts k s by m =
    let e : Faulty (Stopped Memory) ≡ Faulty (Stopped s) = sym (ap (answer_of ts) m) ∙ by.is in
    by.has_memory cc

-- What has a text passes or is an error.
no-text : {E : Type 0} (ts : List Tree) (k : CheckResult E) (text : List ℕ) → (HasError k → ⊥) → ((u : Unit {0}) → k ≡ Ok (Ok u) → ⊥) → IsCheckText (answer_of ts k) text → ⊥
no-text ts (Ok (Ok u)) text e p says = p u refl
no-text ts (Ok (Err x)) text e p says = e tt
no-text ts (Err (O.Stop s)) text e p says = no-fault (answer_of ts (Err (O.Stop s))) _ text refl says
no-text ts (Err (O.Normalize n)) text e p says = no-fault (answer_of ts (Err (O.Normalize n))) _ text refl says

-- A check that stops says so.
pub adds-stop : {E : Type 0} (k : CheckResult E) (made : Result (Unit {0}) Stop) (names : Names) (b c : Context) (ts : List Tree) (a : ImplId) (t : TraitRef) (old mid new : List ℕ)
    → Grows b c → IsOpenHeader c a t → (HasError k → ⊥) → ((u : Unit {0}) → k ≡ Ok (Ok u) → ⊥) → (¬ (OutOfMemory k) → bare_answer (answer_of ts k) ≡ plain_check_of c (Local Proper) t)
    → mid ≡ old ++ orphan_text names.impls.items a → OnOk made (AddsFailure (answer_of ts k) mid new) → OnOk made (Adds (SaysOfImpl names b a) old new)
adds-stop k (Err x) names b c ts a t old mid new g h e fails is at p = tt
adds-stop k (Ok x) names b c ts a t old mid new g h e fails is at (inl (text, says, added)) = absurd (no-text ts k text e fails says)
adds-stop k (Ok x) names b c ts a t old mid new g h e fails is at (inr (s, by, added)) =
    adds-text (SaysOfImpl names b a) old (orphan_text names.impls.items a ++ stop_text s) new
    (orphan_stop c t s g h (record { is = sym (is (stopped-enough ts k s by)) ∙ ap bare_answer by.is; has_memory = by.has_memory }))
    (added ∙ (ap (λ w. w ++ stop_text s) at ∙ append_assoc old (orphan_text names.impls.items a) (stop_text s)))

-- What a check answered is the same by a context that has grown.

entries-kept : (c d : Context) (es : List (Ty × IsFirstInputType)) → Grows c d → All (λ e. IsTy c.trees e.0) es → entries_of d.trees es ≡ entries_of c.trees es
entries-kept c d [] g h = refl
entries-kept c d (e ∷ es) g h =
    let one = (ty-kept c d e.0 g (All-head (λ (x : Ty × IsFirstInputType). IsTy c.trees x.0) e es h)).1 in
    let rest = entries-kept c d es g (All-tail (λ (x : Ty × IsFirstInputType). IsTy c.trees x.0) e es h) in
    λ i. record { type = one i; is_first_input = is_first_input e.1 } ∷ rest i

local-kept : (c d : Context) (o : Option Ty) → Grows c d → IfSome o (λ t. IsTy c.trees t) → IfSome o (λ t. IsTy d.trees t) × (option_map (ty_tree d.trees) o ≡ option_map (ty_tree c.trees) o)
local-kept c d None g h = (tt, refl)
local-kept c d (Some t) g h = let k = ty-kept c d t g h in (k.0, ap (λ (x : Tree). Some x) k.1)

pub answer-kept : {E : Type 0} (c d : Context) (k : CheckResult E) → Grows c d → AreAnswerTypes c.trees k → AreAnswerTypes d.trees k × (answer_of d.trees k ≡ answer_of c.trees k)
answer-kept c d (Ok (Ok u)) g h = (tt, refl)
answer-kept c d (Ok (Err (C.NonLocalInputType v))) g h = (
  All-weaker (λ (x : Ty × IsFirstInputType). IsTy c.trees x.0) (λ (x : Ty × IsFirstInputType). IsTy d.trees x.0) (λ x k. (ty-kept c d x.0 g k).0) v.items h,
  ap (λ (es : List Entry). NonLocalInput es) (entries-kept c d v.items g h),
)
answer-kept c d (Ok (Err (C.UncoveredTyParams u))) g h =
    let one = ty-kept c d u.uncovered g h.0 in
    let local = local-kept c d u.local_ty g h.1 in
    let same = one.1 in
    let other = local.1 in
    ((one.0, local.0), λ i. UncoveredInput (same i) (other i))
answer-kept c d (Err (O.Stop s)) g h = (tt, refl)
answer-kept c d (Err (O.Normalize e)) g h = (tt, refl)

-- So is what a check answers of a header.
pub plain-check-kept : (c d : Context) (m : InCrate) (t : TraitRef) → Grows c d → IsArgs c.trees t.args → plain_check_of d m t ≡ plain_check_of c m t
plain-check-kept c d m t g h =
    let w = (world-kept c d g).0 in
    let l = (world-kept c d g).1 in
    let n = limits-kept c d g in
    let a = (args-kept c d t.args g h).1 in
    λ i. plain_check (w i) ((l i).0) m ((n i).orphan_walk) (a i)

-- Where the proper check refuses a header.

error-enough : {E : Type 0} (k : CheckResult E) → HasError k → ¬ (OutOfMemory k)
error-enough (Ok r) h = λ e. cc
error-enough (Err o) h = absurd h

bare-refuses : {E : Type 0} (ts : List Tree) (k : CheckResult E) → HasError k → Refuses (bare_answer (answer_of ts k))
bare-refuses ts (Ok (Ok u)) h = absurd h
bare-refuses ts (Ok (Err (C.NonLocalInputType v))) h = tt
bare-refuses ts (Ok (Err (C.UncoveredTyParams u))) h = tt
bare-refuses ts (Err o) h = absurd h

bare-refused : {E F : Type 0} (names : List NamedImpl) (a : ImplId) (p : Answer E) (q : Answer F) (text : List ℕ) → SaysOfRefused names a p q text → SaysOfRefused names a (bare_answer p) q text
bare-refused names a p q _ (lint {text = text} same says) = lint same (bare-text p text says)
bare-refused names a p q _ (orphan fails says) = orphan fails says
bare-refused names a p q _ (compatible_stop s by) = compatible_stop s by

pub adds-refused : {E : Type 0} (k : CheckResult E) (made : Result (Unit {0}) Stop) (names : Names) (b c : Context) (ts : List Tree) (a : ImplId) (t : TraitRef) (other : Answer (Unit {0})) (old new : List ℕ)
    → Grows b c → IsOpenHeader c a t → HasError k → (¬ (OutOfMemory k) → bare_answer (answer_of ts k) ≡ plain_check_of c (Local Proper) t) → other ≡ plain_check_of c (Local Compat) t
    → OnOk made (AddsOfRefused names.impls.items a (answer_of ts k) other old new) → OnOk made (Adds (SaysOfImpl names b a) old new)
adds-refused k (Err x) names b c ts a t other old new g h error is same p = tt
adds-refused k (Ok x) names b c ts a t other old new g h error is same p =
    let e = is (error-enough k error) in
    adds-weaker old new
    (λ text s.
    refused c t g h (subst (λ (r : Answer (Unit {0})). Refuses r) e (bare-refuses ts k error))
    (subst (λ (q : Answer (Unit {0}) × Answer (Unit {0})). SaysOfRefused names.impls.items a q.0 q.1 text) (λ i. (e i, same i)) (bare-refused names.impls.items a (answer_of ts k) other text s)))
    p

-- The compatible check passes, or doesn't.

pub adds-lint : {E F : Type 0} (k : CheckResult F) (made : Result (Unit {0}) Stop) (names : List NamedImpl) (c : Context) (ts : List Tree) (a : ImplId) (t : TraitRef) (proper : Answer E) (old mid new : List ℕ)
    → k ≡ Ok (Ok tt) → (¬ (OutOfMemory k) → bare_answer (answer_of ts k) ≡ plain_check_of c (Local Compat) t) → mid ≡ old ++ lint_text names a → OnOk made (AddsAnswer proper mid new)
    → OnOk made (AddsOfRefused names a proper (plain_check_of c (Local Compat) t) old new)
adds-lint k (Err x) names c ts a t proper old mid new is p at h = tt
adds-lint k (Ok x) names c ts a t proper old mid new is p at (text, says, added) =
    let enough : ¬ (OutOfMemory k) = λ m. let clash : Ok (Ok tt) ≡ Err (O.Stop Memory) = sym is ∙ m in cc in
    adds-text (SaysOfRefused names a proper (plain_check_of c (Local Compat) t)) old (lint_text names a ++ text) new
    (lint (sym (p enough) ∙ ap (λ r. bare_answer (answer_of ts r)) is) says)
    (added ∙ (ap (λ w. w ++ text) at ∙ append_assoc old (lint_text names a) text))

pub adds-compatible : {E F : Type 0} (k : CheckResult F) (made : Result (Unit {0}) Stop) (names : List NamedImpl) (c : Context) (ts : List Tree) (a : ImplId) (t : TraitRef) (proper : Answer E) (old mid new : List ℕ)
    → ((u : Unit {0}) → k ≡ Ok (Ok u) → ⊥) → (¬ (OutOfMemory k) → bare_answer (answer_of ts k) ≡ plain_check_of c (Local Compat) t) → mid ≡ old ++ orphan_text names a
    → OnOk made (AddsFailure (answer_of ts k) mid new) → OnOk made (AddsOfRefused names a proper (plain_check_of c (Local Compat) t) old new)
adds-compatible k (Err x) names c ts a t proper old mid new fails is at p = tt
adds-compatible k (Ok x) names c ts a t proper old mid new fails is at (inl (text, says, added)) =
    let enough : ¬ (OutOfMemory k) = λ e. no-fault (answer_of ts k) _ text (ap (answer_of ts) e) says in
    let said : IsCheckText (plain_check_of c (Local Compat) t) text = subst (λ w. IsCheckText w text) (is enough) (bare-text (answer_of ts k) text says) in
    adds-text (SaysOfRefused names a proper (plain_check_of c (Local Compat) t)) old (orphan_text names a ++ text) new
    (orphan (λ e. let p = only-passing ts k (is enough ∙ e) in fails p.0 p.1) said)
    (added ∙ (ap (λ w. w ++ text) at ∙ append_assoc old (orphan_text names a) text))
adds-compatible k (Ok x) names c ts a t proper old mid new fails is at (inr (s, by, added)) =
    adds-text (SaysOfRefused names a proper (plain_check_of c (Local Compat) t)) old (orphan_text names a ++ stop_text s) new
    (compatible_stop s (record { is = sym (is (stopped-enough ts k s by)) ∙ ap bare_answer by.is; has_memory = by.has_memory }))
    (added ∙ (ap (λ w. w ++ stop_text s) at ∙ append_assoc old (orphan_text names a) (stop_text s)))

-- What is added for each answer by numbers.

pub adds-ok : {E : Type 0} (ts : List Tree) (k : CheckResult E) (u : Unit {0}) (old new : List ℕ) → k ≡ Ok (Ok u) → new ≡ old ++ 111 ∷ 107 ∷ 10 ∷ [] → AddsAnswer (answer_of ts k) old new
adds-ok ts k u old new is added = subst (λ x. AddsAnswer (answer_of ts x) old new) (sym is) (111 ∷ 107 ∷ 10 ∷ [], ok, added)

-- an error has the same text whatever else a check may answer
other-error : (E : Type 0) (ts : List Tree) (e : OrphanCheckErr Ty) (text : List ℕ) → IsCheckText (answer_of {E = Unit {0}} ts (Ok (Err e))) text → IsCheckText (answer_of {E = E} ts (Ok (Err e))) text
other-error E ts (C.NonLocalInputType v) _ (nonlocal es) = nonlocal es
other-error E ts (C.UncoveredTyParams u) _ (uncovered t w l) = uncovered t w l

pub adds-error : {E : Type 0} (ts : List Tree) (k : CheckResult E) (e : OrphanCheckErr Ty) (old new : List ℕ) → k ≡ Ok (Err e) → AddsError ts e old new → AddsAnswer (answer_of ts k) old new
adds-error {E = E} ts k e old new is (text, says, added) = subst (λ x. AddsAnswer (answer_of ts x) old new) (sym is) (text, other-error E ts e text says, added)

-- `uncovered `, a word, ` local ` and a word or `none`, and the end of the line, one after the other

abbrev word_uncovered : List ℕ
word_uncovered = 117 ∷ 110 ∷ 99 ∷ 111 ∷ 118 ∷ 101 ∷ 114 ∷ 101 ∷ 100 ∷ 32 ∷ []

abbrev word_local : List ℕ
word_local = 32 ∷ 108 ∷ 111 ∷ 99 ∷ 97 ∷ 108 ∷ 32 ∷ []

joined-text : (old a word b local end : List ℕ) → (((old ++ (a ++ word)) ++ (b ++ local)) ++ end) ≡ old ++ (a ++ (word ++ (b ++ (local ++ end))))
joined-text old a word b local end =
    append_assoc (old ++ (a ++ word)) (b ++ local) end
    ∙ (append_assoc old (a ++ word) ((b ++ local) ++ end)
    ∙ ap (λ x. old ++ x) (append_assoc a word ((b ++ local) ++ end) ∙ ap (λ x. a ++ (word ++ x)) (append_assoc b local end)))

local-mapped : {A B : Type 0} (f : A → B) (o : Option A) (local : List ℕ) → IsLocalWord o local → IsLocalWord (option_map f o) local
local-mapped f _ _ nothing = nothing
local-mapped f _ _ (some x word) = some (f x) word

pub adds-uncovered : (ts : List Tree) (u : UncoveredTyParams Ty) (old mid then last : List ℕ) → AddsWord word_uncovered old mid → AddsLocal u.local_ty mid then → last ≡ then ++ 10 ∷ [] → AddsError ts (C.UncoveredTyParams u) old last
adds-uncovered ts u old mid then last (word, first) (local, says, second) third = (
  word_uncovered ++ (word ++ (word_local ++ (local ++ 10 ∷ []))),
  uncovered (ty_tree ts u.uncovered) word (local-mapped (ty_tree ts) u.local_ty local says),
  third ∙ (ap (λ x. x ++ 10 ∷ []) (second ∙ ap (λ x. x ++ (word_local ++ local)) first) ∙ joined-text old word_uncovered word word_local local (10 ∷ [])),
)

adds-local : (ty : Ty) (o : Option Ty) (old new : List ℕ) → o ≡ Some ty → AddsWord word_local old new → AddsLocal o old new
adds-local ty o old new is (word, added) = (word, subst (λ x. IsLocalWord x word) (sym is) (some ty word), added)

pub adds-local-if : (r : Result (Unit {0}) Stop) (ty : Ty) (o : Option Ty) (old new : List ℕ) → o ≡ Some ty → OnOk r (AddsWord word_local old new) → OnOk r (AddsLocal o old new)
adds-local-if (Ok x) ty o old new is added = adds-local ty o old new is added
adds-local-if (Err e) ty o old new is added = tt

pub adds-none : (o : Option Ty) (old new : List ℕ) → o ≡ None → new ≡ old ++ (word_local ++ 110 ∷ 111 ∷ 110 ∷ 101 ∷ []) → AddsLocal o old new
adds-none o old new is added = (110 ∷ 111 ∷ 110 ∷ 101 ∷ [], subst (λ x. IsLocalWord x (110 ∷ 111 ∷ 110 ∷ 101 ∷ [])) (sym is) nothing, added)

-- Entries that were printed behind a text.

abbrev word_nonlocal : List ℕ
word_nonlocal = 110 ∷ 111 ∷ 110 ∷ 108 ∷ 111 ∷ 99 ∷ 97 ∷ 108 ∷ []

abbrev pub EntriesSoFar : List Entry → List ℕ → List ℕ → Type 0
EntriesSoFar es old new = (text : List ℕ) × AreEntries es text × (new ≡ old ++ (word_nonlocal ++ text))

pub no-entries : (old new : List ℕ) → new ≡ old ++ word_nonlocal → EntriesSoFar [] old new
no-entries old new e = ([], none, e ∙ ap (λ w. old ++ w) (sym (append-nil word_nonlocal)))

-- one entry more
pub entry-more : (es : List Entry) (e : Entry) (old new last : List ℕ) → EntriesSoFar es old new → AddsEntry e.is_first_input new last → EntriesSoFar (es ++ e ∷ []) old last
entry-more es e old new last (text, is, at) (word, then) =
    let piece = (32 ∷ 40 ∷ []) ++ (word ++ first_text e.is_first_input) in
    (text ++ piece, and_one e word is, then ∙ (ap (λ x. x ++ piece) at ∙ (append_assoc old (word_nonlocal ++ text) piece ∙ ap (λ x. old ++ x) (append_assoc word_nonlocal text piece))))

-- a word that was added, and the place
pub entry-added : (b : Bool) (old mid new : List ℕ) → AddsWord (32 ∷ 40 ∷ []) old mid → new ≡ mid ++ first_text b → AddsEntry b old new
entry-added b old mid new (word, is) then =
    (word, then ∙ (ap (λ x. x ++ first_text b) is ∙ (append_assoc old ((32 ∷ 40 ∷ []) ++ word) (first_text b) ∙ ap (λ x. old ++ x) (append_assoc (32 ∷ 40 ∷ []) word (first_text b)))))

-- and the end of the line
pub entries-end : (es : List Entry) (old new last : List ℕ) → EntriesSoFar es old new → last ≡ new ++ 10 ∷ [] → AddsEntries es old last
entries-end es old new last (text, is, at) ends = (
  word_nonlocal ++ (text ++ 10 ∷ []),
  nonlocal is,
  ends ∙ (ap (λ x. x ++ 10 ∷ []) at ∙ (append_assoc old (word_nonlocal ++ text) (10 ∷ []) ∙ ap (λ x. old ++ x) (append_assoc word_nonlocal text (10 ∷ [])))),
)
