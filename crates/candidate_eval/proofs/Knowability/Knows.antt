-- What is known of a reference by the two checks.
use Rattle.std.proofs.Common.{◌≡◌, ℕ, Bool, true, false, List, Result, Ok, Err, refl, sym, ◌∙◌, ap, if◌then◌else◌}
use Rattle.std.specs.Prelude.{is_ok}
use Rattle.ir_trees.specs.declared.ir.kinds.Args.{Args}
use Rattle.ir_trees.specs.declared.ir.kinds.Ty.{Ty}
use Rattle.ir_trees.specs.declared.ir.kinds.TraitRef.{TraitRef}
use Rattle.ir_trees.specs.Declarations.Context.{Context, Grows, world}
use Rattle.ir_trees.specs.Syntax.Trees.{Forest, Tree}
use Rattle.ir_trees.specs.Declarations.Worlds.{World, Reference}
use Rattle.ir_trees.specs.Syntax.Words.{IsArgs, args_forest}
use Rattle.ir_trees.proofs.Growth.Kept.{args-kept, world-kept}
use Rattle.candidate_eval.specs.declared.coherence.OrphanCheckErr.{OrphanCheckErr}
use Rattle.candidate_eval.specs.declared.coherence.OrphanCheckErr.TheVariants as C
use Rattle.candidate_eval.specs.declared.coherence.OrphanStop.{OrphanStop}
use Rattle.candidate_eval.specs.declared.coherence.OrphanStop.TheVariants as O
use Rattle.ir_trees.specs.Declarations.References.{reference_of}
use Rattle.candidate_eval.specs.Knowability.Answers.{CheckResult, answer_of, knowledge_of}
use Rattle.candidate_eval.specs.Knowability.Orphan.{InCrate, Local, Remote, Proper, View, Answer, Checked, orphan_answer, Knowability, Knowable, Upstream, Downstream, knowability, local_or_fundamental, by_answer, by_proper_check, by_remote_check}

-- a check in a context that has grown is the check from the begin
pub check-there : {S E : Type 0} (c0 c1 : Context) (g : Grows c0 c1) (m : InCrate) (see : View S E) (n : ℕ) (s : S) (a : Args) → IsArgs c0.trees a
    → orphan_answer (world c0) c0.local.0 m see n s (args_forest c0.trees a) ≡ orphan_answer (world c1) c1.local.0 m see n s (args_forest c1.trees a)
check-there c0 c1 g m see n s a i =
    let w = world-kept c0 c1 g in
    ap (λ (x : World). orphan_answer x c0.local.0 m see n s (args_forest c0.trees a)) (sym w.0)
    ∙ (ap (λ (x : _). orphan_answer (world c1) x m see n s (args_forest c0.trees a)) (ap (λ c. c.0) (sym w.1))
    ∙ ap (λ (x : Forest). orphan_answer (world c1) c1.local.0 m see n s x) (sym (args-kept c0 c1 a g i).1))

remote-fails : {S E : Type 0} (ts : List Tree) (own : Bool) (proper : S → Checked S (Answer E)) (s : S) (remote : Result (Unit {0}) (OrphanCheckErr Ty))
    → is_ok remote ≡ false → own ≡ false → by_remote_check own proper s (answer_of ts (Ok remote)) ≡ by_proper_check (proper s)
remote-fails ts own proper s (Ok u) e o = cc
remote-fails ts own proper s (Err (C.NonLocalInputType v)) e o =
    ap (λ (b : Bool). if b then record { answer = Knowable; after = s } else by_proper_check (proper s)) o
remote-fails ts own proper s (Err (C.UncoveredTyParams v)) e o =
    ap (λ (b : Bool). if b then record { answer = Knowable; after = s } else by_proper_check (proper s)) o

-- the remote check decides, or the trait
module _ {S E : Type 0} (w : World) (c n : ℕ) (see : View S E) (s s1 : S) (r : Reference) (ts : List Tree) where
  decided-at : (a : Answer E) (k : Checked S (Knowability E)) → orphan_answer w c Remote see n s r.arguments ≡ record { answer = a; after = s1 }
      → by_remote_check (local_or_fundamental w c r.trait) (λ t. orphan_answer w c (Local Proper) see n t r.arguments) s1 a ≡ k → knowability w c see n s r ≡ k
  decided-at a k f e =
      ap (λ (x : Checked S (Answer E)). by_remote_check (local_or_fundamental w c r.trait) (λ t. orphan_answer w c (Local Proper) see n t r.arguments) x.after x.answer) f ∙ e

  pub knows-stop : (o : OrphanStop E) → orphan_answer w c Remote see n s r.arguments ≡ record { answer = answer_of ts (Err o); after = s1 }
      → knowability w c see n s r ≡ record { answer = knowledge_of (Err o); after = s1 }
  knows-stop (O.Normalize e) f = decided-at _ _ f refl
  knows-stop (O.Stop z) f = decided-at _ _ f refl

  pub knows-downstream : (remote : Result (Unit {0}) (OrphanCheckErr Ty)) → is_ok remote ≡ true
      → orphan_answer w c Remote see n s r.arguments ≡ record { answer = answer_of ts (Ok remote); after = s1 }
      → knowability w c see n s r ≡ record { answer = Downstream; after = s1 }
  knows-downstream (Ok u) i f = decided-at _ _ f refl
  knows-downstream (Err x) i f = cc

  pub knows-own : (remote : Result (Unit {0}) (OrphanCheckErr Ty)) → is_ok remote ≡ false → local_or_fundamental w c r.trait ≡ true
      → orphan_answer w c Remote see n s r.arguments ≡ record { answer = answer_of ts (Ok remote); after = s1 }
      → knowability w c see n s r ≡ record { answer = Knowable; after = s1 }
  knows-own (Ok u) i o f = cc
  knows-own (Err (C.NonLocalInputType v)) i o f =
      decided-at _ _ f (ap (λ (b : Bool). if b then record { answer = Knowable; after = s1 } else by_proper_check (orphan_answer w c (Local Proper) see n s1 r.arguments)) o)
  knows-own (Err (C.UncoveredTyParams v)) i o f =
      decided-at _ _ f (ap (λ (b : Bool). if b then record { answer = Knowable; after = s1 } else by_proper_check (orphan_answer w c (Local Proper) see n s1 r.arguments)) o)

-- neither the remote check nor the trait decides
pub by-local-check : {S E : Type 0} (w : World) (c n : ℕ) (see : View S E) (s s1 s2 : S) (r : Reference) (ts us : List Tree)
    (remote : Result (Unit {0}) (OrphanCheckErr Ty)) (local : CheckResult E)
    → is_ok remote ≡ false → local_or_fundamental w c r.trait ≡ false
    → orphan_answer w c Remote see n s r.arguments ≡ record { answer = answer_of ts (Ok remote); after = s1 }
    → orphan_answer w c (Local Proper) see n s1 r.arguments ≡ record { answer = answer_of us local; after = s2 }
    → knowability w c see n s r ≡ record { answer = by_answer (answer_of us local); after = s2 }
by-local-check {S} {E} w c n see s s1 s2 r ts us remote local e o f g =
    let own = local_or_fundamental w c r.trait in
    let proper : S → Checked S (Answer E) = λ t. orphan_answer w c (Local Proper) see n t r.arguments in
    ap (λ (x : Checked S (Answer E)). by_remote_check own proper x.after x.answer) f
    ∙ (remote-fails ts own proper s1 remote e o
    ∙ ap by_proper_check g)

pub local-passes : {E : Type 0} (ts : List Tree) (l : Result (Unit {0}) (OrphanCheckErr Ty)) → is_ok l ≡ true → by_answer {E = E} (answer_of ts (Ok l)) ≡ Knowable
local-passes ts (Ok u) e = refl
local-passes ts (Err x) e = cc

pub local-fails : {E : Type 0} (ts : List Tree) (l : Result (Unit {0}) (OrphanCheckErr Ty)) → is_ok l ≡ false → by_answer {E = E} (answer_of ts (Ok l)) ≡ Upstream
local-fails ts (Ok u) e = cc
local-fails ts (Err (C.NonLocalInputType v)) e = refl
local-fails ts (Err (C.UncoveredTyParams v)) e = refl

pub local-stops : {E : Type 0} (ts : List Tree) (o : OrphanStop E) → by_answer (answer_of ts (Err o)) ≡ knowledge_of (Err o)
local-stops ts (O.Normalize e) = refl
local-stops ts (O.Stop s) = refl

-- what is said of a trait in a context that has grown was so before
pub own-kept : (c0 c1 : Context) → Grows c0 c1 → (i : ℕ) (b : Bool) → local_or_fundamental (world c1) c1.local.0 i ≡ b → local_or_fundamental (world c0) c0.local.0 i ≡ b
own-kept c0 c1 g i b o =
    let w = world-kept c0 c1 g in
    ap (λ (x : World). local_or_fundamental x c0.local.0 i) (sym w.0)
    ∙ (ap (λ (x : _). local_or_fundamental (world c1) x i) (ap (λ c. c.0) (sym w.1)) ∙ o)

-- the same in the contexts of the two checks
pub knows-locally : {S E : Type 0} (c0 c1 : Context) → Grows c0 c1 → (see : View S E) (n : ℕ) (s s1 s2 : S) (r : TraitRef) → IsArgs c0.trees r.args → (us : List Tree)
    (remote : Result (Unit {0}) (OrphanCheckErr Ty)) (local : CheckResult E)
    → is_ok remote ≡ false → local_or_fundamental (world c1) c1.local.0 r.def_id.0 ≡ false
    → orphan_answer (world c0) c0.local.0 Remote see n s (args_forest c0.trees r.args) ≡ record { answer = answer_of c1.trees (Ok remote); after = s1 }
    → orphan_answer (world c1) c1.local.0 (Local Proper) see n s1 (args_forest c1.trees r.args) ≡ record { answer = answer_of us local; after = s2 }
    → knowability (world c0) c0.local.0 see n s (reference_of c0.trees r) ≡ record { answer = by_answer (answer_of us local); after = s2 }
knows-locally c0 c1 g see n s s1 s2 r i us remote local e o f k =
    by-local-check (world c0) c0.local.0 n see s s1 s2 (reference_of c0.trees r) c1.trees us remote local e (own-kept c0 c1 g r.def_id.0 false o) f
    (check-there c0 c1 g (Local Proper) see n s1 r.args i ∙ k)
