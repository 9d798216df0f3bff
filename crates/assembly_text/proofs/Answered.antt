-- What holds of each answer, and what a new evaluator answers by.
use Rattle.std.proofs.Common.{◌≡◌, ◌≢◌, ◌++◌, ℕ, Bool, true, List, [], Option, Result, Ok, Err, IfErr, IfOk, OnOk, map, refl, sym, ◌∙◌, ap, subst}
use Rattle.std.proofs.lemmas.Bool.{and_parts}
use Rattle.ir_trees.specs.declared.decl.contents.ImplId.{ImplId}
use Rattle.ir_trees.specs.declared.ir.kinds.AliasTy.{AliasTy}
use Rattle.ir_trees.specs.declared.ir.kinds.TraitPredicate.{TraitPredicate}
use Rattle.ir_trees.specs.declared.ir.kinds.TraitRef.{TraitRef}
use Rattle.ir_trees.specs.declared.ir.kinds.Ty.{Ty}
use Rattle.ir_trees.specs.declared.ir.stop.Stop.{Stop}
use Rattle.ir_trees.specs.declared.ir.stop.Stop.TheVariants.{Memory}
use Rattle.ir_trees.specs.Declarations.Context.{Context, Grows, world}
use Rattle.ir_trees.specs.Syntax.Words.{IsArgs}
use Rattle.candidate_eval.specs.declared.coherence.Conflict.{Conflict}
use Rattle.candidate_eval.specs.declared.coherence.Conflict.TheVariants as C
use Rattle.candidate_eval.specs.declared.coherence.OrphanStop.TheVariants as O
use Rattle.candidate_eval.specs.declared.eval.mode.TypingMode.{TypingMode}
use Rattle.candidate_eval.specs.Interface.Evaluators.{alias_trees}
use Rattle.candidate_eval.specs.Judges.Modes.{is_coherence}
use Rattle.candidate_eval.specs.Judges.States.{State}
use Rattle.candidate_eval.specs.Knowability.Answers.{KnownResult, knowledge_of}
use Rattle.candidate_eval.specs.Knowability.Calls.{plain_knowledge_about}
use Rattle.candidate_eval.specs.Knowability.Orphan.{bare_knowledge}
use Rattle.candidate_rounds.specs.declared.rounds.goals.Verdict.{Verdict}
use Rattle.candidate_rounds.specs.Evaluators.Interface.{Fixed, fixed}
use Rattle.candidate_rounds.specs.Evaluators.Known.{Evaluator, listing, listing_by, listing_of, notes_of, pairs_of, state}
use Rattle.candidate_rounds.specs.Table.Entries.{GoalEntry}
use Rattle.candidate_rounds.specs.Table.Goals.{table_seen}
use Rattle.rounds_judge.specs.Aliases.Listed.{Listing}
use Rattle.rounds_judge.specs.Aliases.WellListed.{well_listed}
use Rattle.rounds_judge.specs.Equations.Opening.{are_open}
use Rattle.overlaps.specs.declared.overlap.Overlap.{Overlap}
use Rattle.overlaps.specs.declared.overlap.Overlap.TheVariants as V
use Rattle.assembly_notation.specs.declared.given.Given.{Given}
use Rattle.assembly_text.specs.Asking.{AddsSomeKnown}
use Rattle.assembly_text.specs.Overlapping.{IsOverlapAnyway, IsOverlapSolved, IsPrintable}
use Rattle.assembly_text.specs.Printing.{known_text}
use Rattle.assembly_text.specs.Solving.{ComesBefore, IsNewFor, IsOpenFor, IsSolvedBefore, fixed_for, nothing_known}
use Rattle.candidate_rounds.specs.declared.rounds.effort.Effort.{Effort}

pub on-answer : {A E : Type 0} {P Q : A → Type 0} (r : Result A E) → ((x : A) → P x → Q x) → IfOk r P → IfOk r Q
on-answer (Ok x) f h = f x h
on-answer (Err e) f h = tt

pub each-answer : {A E : Type 0} {Q : A → Type 0} (r : Result A E) → ((x : A) → r ≡ Ok x → Q x) → IfOk r Q
each-answer (Ok x) f = f x refl
each-answer (Err e) f = tt

-- in that mode, with these pairs listed, and other aliases open or rigid
abbrev pub fixed_with : Bool → TypingMode → Context → Given → Fixed
fixed_with b m c g = record (fixed_for c g) { mode = m; listing = record { pairs = (fixed_for c g).listing.pairs; is_open = b } }

pub fixed-new : (b : Bool) (m : TypingMode) (c : Context) (g : Given) (r : Evaluator) (ps : List (Ty × Ty)) (os : List AliasTy) → r.context ≡ c → r.normal ≡ record { pairs = ps; is_open = b }
    → listing_of c.trees ps ≡ well_listed (listing_of c.trees g.normal_forms.items) → r.opaques ≡ os → os ≡ [] → r.goals.table ≡ []
    → state r ≡ nothing_known m → fixed r ≡ fixed_with b m c g
fixed-new b m c g r ps os e n l o none t s =
    let listed : listing_by r.context.trees r.normal ≡ (fixed_with b m c g).listing =
    ap (listing_by r.context.trees) n ∙ (ap (λ (d : Context). let x : Listing = record { pairs = pairs_of d.trees ps; is_open = b } in x) e ∙ ap (λ (y : Listing). let x : Listing = record { pairs = y.pairs; is_open = b } in x) l) in
    let hidden : alias_trees r.context.trees r.opaques ≡ [] = ap (alias_trees r.context.trees) (o ∙ none) in
    let read : table_seen r.context.trees r.goals.table ≡ [] = ap (table_seen r.context.trees) t in
    let noted : notes_of r ≡ [] = ap (map (λ (x : GoalEntry). x.1.leaks)) t in
    let asked : r.mode ≡ m = ap (λ (S : State). S.mode) s in
    λ i. record { world = world (e i); local_crate = (e i).local.0; limits = (e i).limits; mode = asked i; listing = listed i; opaques = hidden i; table = read i; notes = noted i }

-- What a goal came to in an evaluator that is new for what is given it comes to by that, also where the evaluator has gone on since.
pub solved-before : (c : Context) (g : Given) (p : TraitPredicate) (effort : Effort) (r last : Evaluator) (d : Context) (v : Option Verdict) → IsNewFor c g r → d ≡ last.context
    → ComesBefore r last g.clauses.items p effort v → IsSolvedBefore c g p effort d v
solved-before c g p effort r last d v made leaves h = (
  h.0.context,
  record { first = r; left = h.0; context = made.context; fixed_is = made.fixed_is; state_is = made.state_is; comes = h.1; leaves = refl },
  subst (Grows h.0.context) (sym leaves) h.2,
)

-- Where aliases are open for a new evaluator the given mode is coherence.
pub open-in-coherence : (c : Context) (g : Given) (r : Evaluator) → IsOpenFor c g r → are_open (listing r) (state r) ≡ true → is_coherence g.mode ≡ true
open-in-coherence c g r made e = ap (λ (s : State). is_coherence s.mode) (sym made.state_is) ∙ (and_parts (listing r).is_open (is_coherence (state r).mode) e).1

-- An answer is printed, or its stop handed on.
pub printed-as : {A E : Type 0} {P : A → Type 0} {Q : Type 0} (answer : Result A E) (made : Result (Unit {0}) E) (says : A → Type 0) → IfOk answer P → ((v : A) → answer ≡ Ok v → OnOk made (says v))
    → IfErr answer (λ s. made ≡ Err s) → ((v : A) → P v → says v → Q) → OnOk made Q
printed-as (Ok v) (Ok x) says h p e f = f v h (p v refl)
printed-as (Ok v) (Err s) says h p e f = tt
printed-as (Err s) (Ok x) says h p e f = absurd cc
printed-as (Err s) (Err t) says h p e f = tt

-- there is one answer
pub answer-is : {A E : Type 0} {r : Result A E} {x y : A} → r ≡ Ok x → r ≡ Ok y → x ≡ y
answer-is {x = x} {y = y} p q = let e : Ok x ≡ Ok y = sym p ∙ q in cc

-- What is an instance of both impls is of the context that is left.
pub overlap-prints : (c : Context) (g : Given) (a b : ImplId) (effort : Effort) (last : Context) (o : Overlap) → IsOverlapSolved c g a b effort last o → IsPrintable last.trees o
overlap-prints c g a b effort last V.NoCommonTrait h = tt
overlap-prints c g a b effort last (V.Allowed w) h = tt
overlap-prints c g a b effort last V.DisjointHeaders h = tt
overlap-prints c g a b effort last (V.DisjointClause w) h = tt
overlap-prints c g a b effort last (V.May x) h = subst (λ (d : Context). IsArgs d.trees x.trait_ref.args) h.leaves h.is.holds.is.sort

pub anyway-prints : (c : Context) (g : Given) (a b : ImplId) (effort : Effort) (last : Context) (o : Overlap) → IsOverlapAnyway c g a b effort last o → IsPrintable last.trees o
anyway-prints c g a b effort last V.NoCommonTrait h = tt
anyway-prints c g a b effort last (V.Allowed w) h = tt
anyway-prints c g a b effort last V.DisjointHeaders h = tt
anyway-prints c g a b effort last (V.DisjointClause w) h = tt
anyway-prints c g a b effort last (V.May x) h = subst (λ (d : Context). IsArgs d.trees x.trait_ref.args) h.leaves h.is.holds.is.sort

-- What is known is printed.

bare-same : (r : Result (Unit {0}) Conflict) → bare_knowledge {E = Unit {0}} (knowledge_of (Ok r)) ≡ knowledge_of (Ok r)
bare-same (Ok x) = refl
bare-same (Err C.Upstream) = refl
bare-same (Err C.Downstream) = refl

bare-other : (E : Type 0) (r : Result (Unit {0}) Conflict) → bare_knowledge {E = E} (knowledge_of (Ok r)) ≡ bare_knowledge {E = Unit {0}} (knowledge_of (Ok r))
bare-other E (Ok x) = refl
bare-other E (Err C.Upstream) = refl
bare-other E (Err C.Downstream) = refl

pub known-printed : {E : Type 0} (k : KnownResult E) (made : Result (Unit {0}) Stop) (b c d : Context) (t : TraitRef) (old new : List ℕ) → Grows b c → Grows c d → (k ≢ Err (O.Stop Memory) → bare_knowledge (knowledge_of k) ≡ plain_knowledge_about c t)
    → ((r : Result (Unit {0}) Conflict) → k ≡ Ok r → OnOk made (new ≡ old ++ known_text r)) → IfErr k (λ _. IfOk made (λ _. ⊥)) → OnOk made (AddsSomeKnown b d old new)
known-printed (Ok r) (Ok x) b c d t old new g h is p s = record { context = c; read = g; left = h; trait_ref = t; known = r; is = sym (is (λ e. cc)) ∙ (bare-other _ r ∙ bare-same r); added = p r refl }
known-printed (Ok r) (Err x) b c d t old new g h is p s = tt
known-printed (Err f) (Ok x) b c d t old new g h is p s = absurd s
known-printed (Err f) (Err x) b c d t old new g h is p s = tt

-- What holds of the context and of what is given as they were taken out, and of the context that is put in again.
pub over-all : (P : Context → Given → Context → Type 0) (c x y d : Context) (g h : Given) → x ≡ c → h ≡ g → d ≡ y → P x h y → P c g d
over-all P c x y d g h a b e p = subst (λ (z : Context). P c g z) (sym e) (subst (λ (z : Given). P c z y) b (subst (λ (z : Context). P z h y) a p))
