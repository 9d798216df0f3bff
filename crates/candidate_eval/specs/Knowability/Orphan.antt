-- The orphan check and knowability, by the frontier of a reference.
use Rattle.std.specs.Prelude.{◌≡◌, ℕ, suc, zero, Bool, true, false, Option, Some, None, List, [], ◌∷◌, ◌++◌, ◌||◌, if◌then◌else◌}
use Rattle.ir_trees.specs.Syntax.Trees.{Forest, none, tree, Tree, is_type, is_alias, is_error, is_loose, holds}
use Rattle.ir_trees.specs.Declarations.Worlds.{World, Reference}
pub use Rattle.ir_trees.specs.Declarations.Names.{CrateTest, passes_test, crate_passes, is_local, fundamental_flag, is_fundamental, names_here, names}
pub use Rattle.ir_trees.specs.Unification.Substitutions.{is_variable}
use Rattle.ir_trees.specs.declared.ir.stop.Stop.{Stop}
use Rattle.ir_trees.specs.declared.ir.stop.Stop.TheVariants.{WalkDepth, Unnameable}
pub use Rattle.candidate_eval.specs.declared.coherence.InCrate.{InCrate}
pub use Rattle.candidate_eval.specs.declared.coherence.InCrate.TheVariants.{Local, Remote}
pub use Rattle.candidate_eval.specs.declared.coherence.OrphanCheckMode.TheVariants.{Proper, Compat}
use Rattle.ir_trees.specs.declared.ir.heads.Head.{Head}
use Rattle.ir_trees.specs.declared.ir.heads.VariableSort.{VariableSort}
use Rattle.ir_trees.specs.declared.ir.kinds.AliasKind.{AliasKind}
use Rattle.ir_trees.specs.declared.ir.heads.PartHead.TheVariants as P
use Rattle.ir_trees.specs.declared.ir.heads.PredHead.TheVariants as PH
use Rattle.ir_trees.specs.declared.ir.heads.Head.TheVariants as H
use Rattle.ir_trees.specs.declared.ir.heads.VariableSort.TheVariants as V
use Rattle.ir_trees.specs.declared.ir.kinds.AliasKind.TheVariants as AK

-- Why a check is broken off.
pub data Fault (E : Type 0) : Type 0 where
  Refused : E → Fault E
  Stopped : Stop → Fault E

-- whether a type with the head stands in no header
abbrev pub is_unnameable : Head → Bool
is_unnameable (H.FnDef i) = true
is_unnameable (H.Closure i k) = true
is_unnameable (H.Param n) = true
is_unnameable _ = false

-- What a normaliser answers.
pub data Seen (E : Type 0) : Type 0 where
  Sees : Tree → Seen E
  Fails : Fault E → Seen E

pub record Sight (S E : Type 0) : Type 0 where
  pub seen : Seen E
  pub after : S

-- Sees a tree in a context, and leaves a context.
abbrev pub View : Type 0 → Type 0 → Type 0
View S E = S → Tree → Sight S E

abbrev pub is_general_sort : VariableSort → Bool
is_general_sort V.General = true
is_general_sort _ = false

abbrev pub is_general : Head → Bool
is_general (H.Infer v) = is_general_sort v.sort
is_general _ = false

abbrev pub unless_general : {E : Type 0} → Tree → Seen E → Seen E
unless_general t (Sees u) = if is_general u.head then Sees t else Sees u
unless_general t (Fails f) = Fails f

-- The normaliser's answer at the resolved tree, or that tree where the answer is a general variable.
abbrev pub view : {S E : Type 0} → (S → Tree → Tree) → View S E → View S E
view resolve normalise s t =
    record { seen = unless_general (resolve s t) (normalise s (resolve s t)).seen; after = (normalise s (resolve s t)).after }

-- The normaliser that answers by the tree alone and changes nothing.
abbrev pub stateless : {S E : Type 0} → (Tree → Seen E) → View S E
stateless look s t = record { seen = look t; after = s }

-- The normaliser that answers its input and changes nothing, on trees without values to resolve.
abbrev pub plain : {S E : Type 0} → View S E
plain s t = record { seen = Sees t; after = s }

-- What stands in a frontier: a view, a fundamental type without type arguments, or why the walk was broken off.
pub data Item (E : Type 0) : Type 0 where
  Viewed : Tree → Item E
  Empty : Item E
  Broken : Fault E → Item E

-- An item, and the context that its view left.
pub record Step (S E : Type 0) : Type 0 where
  pub item : Item E
  pub after : S

-- the context that the last step left
abbrev pub left : {S E : Type 0} → S → List (Step S E) → S
left s [] = s
left s (x ∷ xs) = left x.after xs

-- Visits the types among the trees, each in the context that the one before it left.
abbrev pub over : {S E : Type 0} → (S → Tree → List (Step S E)) → S → Forest → List (Step S E)
over visit s none = []
over visit s (tree h below rest) =
    let steps = visit s (record { head = h; children = below }) in
    if is_type h then steps ++ over visit (left s steps) rest else over visit s rest

abbrev pub or_empty : {S E : Type 0} → S → List (Step S E) → List (Step S E)
or_empty s [] = record { item = Empty; after = s } ∷ []
or_empty s (x ∷ xs) = x ∷ xs

-- A reference and a fundamental type outside the crate test are walked; every other view is an item.
abbrev pub walked : {S E : Type 0} → World → CrateTest → (S → Forest → List (Step S E)) → S → Head → Forest → List (Step S E)
walked w test deeper s (H.Ref m) below = deeper s below
walked w test deeper s (H.Adt i) below =
    if is_local w test i.0 then record { item = Viewed (record { head = H.Adt i; children = below }); after = s } ∷ []
    else (if is_fundamental w i.0 then or_empty s (deeper s below)
    else record { item = Viewed (record { head = H.Adt i; children = below }); after = s } ∷ [])
walked w test deeper s h below = record { item = Viewed (record { head = h; children = below }); after = s } ∷ []

abbrev pub looked : {S E : Type 0} → World → CrateTest → (S → Forest → List (Step S E)) → S → Seen E → List (Step S E)
looked w test deeper s (Sees t) = walked w test deeper s t.head t.children
looked w test deeper s (Fails f) = record { item = Broken f; after = s } ∷ []

-- The frontier of one type, with `limit` levels left.
abbrev pub visit : {S E : Type 0} → World → CrateTest → View S E → ℕ → S → Tree → List (Step S E)
visit w test see zero s t = record { item = Broken (Stopped WalkDepth); after = s } ∷ []
visit w test see (suc limit) s t =
    looked w test (over (visit w test see limit)) (see s t).after (see s t).seen

-- The frontier of the types among the trees, each with so many levels left.
abbrev pub frontier : {S E : Type 0} → World → CrateTest → View S E → ℕ → S → Forest → List (Step S E)
frontier w test see limit = over (visit w test see limit)

-- what is local, where `c` is the local crate
abbrev pub crate_test : InCrate → ℕ → CrateTest
crate_test (Local m) c = Some c
crate_test Remote c = None

-- How an item counts.
pub data Class (E : Type 0) : Type 0 where
  IsNonLocal : Tree → Class E
  IsSkipped : Class E
  IsEmpty : Class E
  IsLocal : Tree → Class E
  IsUncovered : Tree → Class E
  IsBroken : Fault E → Class E

-- the class of a variable, a placeholder, a bound variable
abbrev pub loose_class : {E : Type 0} → InCrate → Tree → Class E
loose_class (Local m) t = IsUncovered t
loose_class Remote t = IsLocal t

abbrev pub projection_class : {E : Type 0} → InCrate → Tree → Class E
projection_class (Local Proper) t = IsUncovered t
projection_class (Local Compat) t = IsSkipped
projection_class Remote t = IsLocal t

abbrev pub alias_class : {E : Type 0} → InCrate → AliasKind → Tree → Class E
alias_class in_crate AK.Projection t = projection_class in_crate t
alias_class in_crate _ t = loose_class in_crate t

abbrev pub by_bound : World → CrateTest → Head → Bool → Bool
by_bound w test (H.Part (P.Pred (PH.Trait i))) others = is_local w test i.0
by_bound w test _ others = others

-- whether the principal among the children of a `dyn` type is local
abbrev pub principal_passes : World → CrateTest → Forest → Bool
principal_passes w test none = false
principal_passes w test (tree h below rest) = by_bound w test h (principal_passes w test rest)

abbrev pub owned_class : {E : Type 0} → Bool → Tree → Class E
owned_class true t = IsLocal t
owned_class false t = IsNonLocal t

-- the table, on a view with its head and its children
abbrev pub view_class : {E : Type 0} → World → CrateTest → InCrate → Head → Forest → Class E
view_class w test in_crate (H.Placeholder u) below = loose_class in_crate (record { head = H.Placeholder u; children = below })
view_class w test in_crate (H.Bound d) below = loose_class in_crate (record { head = H.Bound d; children = below })
view_class w test in_crate (H.Infer v) below = loose_class in_crate (record { head = H.Infer v; children = below })
view_class w test in_crate (H.Alias k i) below =
    let t : Tree = record { head = H.Alias k i; children = below } in
    if holds is_loose below then alias_class in_crate k t else IsNonLocal t
view_class w test in_crate (H.Adt i) below = owned_class (is_local w test i.0) (record { head = H.Adt i; children = below })
view_class w test in_crate (H.Foreign i) below = owned_class (is_local w test i.0) (record { head = H.Foreign i; children = below })
view_class w test in_crate H.Dynamic below = owned_class (principal_passes w test below) (record { head = H.Dynamic; children = below })
view_class w test in_crate H.Error below = IsLocal (record { head = H.Error; children = below })
view_class w test in_crate (H.FnDef i) below = IsBroken (Stopped Unnameable)
view_class w test in_crate (H.Closure i k) below = IsBroken (Stopped Unnameable)
view_class w test in_crate (H.Param n) below = IsBroken (Stopped Unnameable)
view_class w test in_crate h below = IsNonLocal (record { head = h; children = below })

-- The class of an item.
abbrev pub class_of : {E : Type 0} → World → CrateTest → InCrate → Item E → Class E
class_of w test in_crate (Viewed t) = view_class w test in_crate t.head t.children
class_of w test in_crate Empty = IsEmpty
class_of w test in_crate (Broken f) = IsBroken f

-- A type that isn't local, and whether it is item 0 of the frontier.
pub record Entry : Type 0 where
  pub type : Tree
  pub is_first_input : Bool

-- What a check says.
pub data Answer (E : Type 0) : Type 0 where
  Passes : Answer E
  NonLocalInput : List Entry → Answer E
  UncoveredInput : Tree → Option Tree → Answer E
  Faulty : Fault E → Answer E

-- An answer, and the context that it leaves.
pub record Checked (S A : Type 0) : Type 0 where
  pub answer : A
  pub after : S

-- whether an item of the class decides the check
abbrev pub decides : {E : Type 0} → Class E → Bool
decides (IsNonLocal t) = false
decides IsSkipped = false
decides IsEmpty = false
decides _ = true

-- whether it decides the second walk, which passes over uncovered items
abbrev pub decides_again : {E : Type 0} → Class E → Bool
decides_again (IsUncovered t) = false
decides_again c = decides c

-- the first step whose class the test takes
abbrev pub first_step : {S E : Type 0} → (Class E → Bool) → (Item E → Class E) → List (Step S E) → Option (Step S E)
first_step test classify [] = None
first_step test classify (x ∷ xs) = if test (classify x.item) then Some x else first_step test classify xs

abbrev pub entry : {E : Type 0} → Bool → Class E → List Entry
entry is_first (IsNonLocal t) = record { type = t; is_first_input = is_first } ∷ []
entry is_first _ = []

-- the views that aren't local, in order
abbrev pub entries : {S E : Type 0} → Bool → (Item E → Class E) → List (Step S E) → List Entry
entries is_first classify [] = []
entries is_first classify (x ∷ xs) = entry is_first (classify x.item) ++ entries false classify xs

-- the answer for an uncovered view, by the class of what decides the second frontier
abbrev pub uncovered : {E : Type 0} → Tree → Class E → Answer E
uncovered t (IsLocal u) = UncoveredInput t (Some u)
uncovered t (IsBroken (Stopped n)) = Faulty (Stopped n)
uncovered t _ = UncoveredInput t None

-- the answer for an uncovered view, by what decides the second walk, if anything does
abbrev pub second : {S E : Type 0} → (Item E → Class E) → Tree → S → List (Step S E) → Option (Step S E) → Checked S (Answer E)
second classify t s steps None = record { answer = UncoveredInput t None; after = left s steps }
second classify t s steps (Some x) = record { answer = uncovered t (classify x.item); after = x.after }

-- the answer by the class of the deciding item; the second walk begins where that item was left
abbrev pub decided : {S E : Type 0} → (Item E → Class E) → (S → List (Step S E)) → S → Class E → Checked S (Answer E)
decided classify again s (IsLocal t) = record { answer = Passes; after = s }
decided classify again s (IsUncovered t) = second classify t s (again s) (first_step decides_again classify (again s))
decided classify again s (IsBroken f) = record { answer = Faulty f; after = s }
decided classify again s _ = record { answer = NonLocalInput []; after = s }

-- the answer by the deciding item, if there is one, and else by all items
abbrev pub judged : {S E : Type 0} → (Item E → Class E) → (S → List (Step S E)) → S → List (Step S E) → Option (Step S E) → Checked S (Answer E)
judged classify again s steps None = record { answer = NonLocalInput (entries true classify steps); after = left s steps }
judged classify again s steps (Some x) = decided classify again x.after (classify x.item)

-- The orphan check of the types among the trees, where `c` is the local crate.
abbrev pub orphan_answer : {S E : Type 0} → World → ℕ → InCrate → View S E → ℕ → S → Forest → Checked S (Answer E)
orphan_answer w c in_crate see limit s args =
    let test = crate_test in_crate c in
    let walk = λ (x : _). frontier w test see limit x args in
    judged (class_of w test in_crate) walk s (walk s) (first_step decides (class_of w test in_crate) (walk s))

-- What may be known of the impls of a reference.
pub data Knowability (E : Type 0) : Type 0 where
  Knowable : Knowability E
  Upstream : Knowability E
  Downstream : Knowability E
  Unknown : Fault E → Knowability E

abbrev pub local_or_fundamental : World → ℕ → ℕ → Bool
local_or_fundamental w c i = is_local w (Some c) i || is_fundamental w i

abbrev pub by_answer : {E : Type 0} → Answer E → Knowability E
by_answer Passes = Knowable
by_answer (Faulty f) = Unknown f
by_answer _ = Upstream

abbrev pub by_proper_check : {S E : Type 0} → Checked S (Answer E) → Checked S (Knowability E)
by_proper_check a = record { answer = by_answer a.answer; after = a.after }

-- by the remote check, then by the trait, then by the local check
abbrev pub by_remote_check : {S E : Type 0} → Bool → (S → Checked S (Answer E)) → S → Answer E → Checked S (Knowability E)
by_remote_check own proper s Passes = record { answer = Downstream; after = s }
by_remote_check own proper s (Faulty f) = record { answer = Unknown f; after = s }
by_remote_check own proper s _ =
    if own then record { answer = Knowable; after = s } else by_proper_check (proper s)

-- What may be known of a reference's impls, where `c` is the local crate.
abbrev pub knowability : {S E : Type 0} → World → ℕ → View S E → ℕ → S → Reference → Checked S (Knowability E)
knowability w c see limit s r =
    let remote = orphan_answer w c Remote see limit s r.arguments in
    by_remote_check (local_or_fundamental w c r.trait)
    (λ t. orphan_answer w c (Local Proper) see limit t r.arguments) remote.after remote.answer

-- Neither an alias nor an error stands in the trees.
pub record IsPlainForest (args : Forest) : Type 0 where
  pub no_alias : holds is_alias args ≡ false
  pub no_error : holds is_error args ≡ false

-- The plain checks: there is nothing to leave, and nothing is refused.
abbrev pub plain_check : World → ℕ → InCrate → ℕ → Forest → Answer (Unit {0})
plain_check w c in_crate limit args = (orphan_answer {E = Unit {0}} w c in_crate plain limit (let s : Unit {0} = tt in s) args).answer

abbrev pub plain_knowability : World → ℕ → ℕ → Reference → Knowability (Unit {0})
plain_knowability w c limit r = (knowability {E = Unit {0}} w c plain limit (let s : Unit {0} = tt in s) r).answer

-- The same answer, whatever else the normaliser's error says.
abbrev pub bare_fault : {E : Type 0} → Fault E → Fault (Unit {0})
bare_fault (Refused e) = Refused tt
bare_fault (Stopped s) = Stopped s

abbrev pub bare_answer : {E : Type 0} → Answer E → Answer (Unit {0})
bare_answer Passes = Passes
bare_answer (NonLocalInput l) = NonLocalInput l
bare_answer (UncoveredInput t o) = UncoveredInput t o
bare_answer (Faulty f) = Faulty (bare_fault f)

abbrev pub bare_knowledge : {E : Type 0} → Knowability E → Knowability (Unit {0})
bare_knowledge Knowable = Knowable
bare_knowledge Upstream = Upstream
bare_knowledge Downstream = Downstream
bare_knowledge (Unknown f) = Unknown (bare_fault f)

-- Crate `c` may write the header.
pub record MayWrite (w : World) (c : ℕ) (r : Reference) : Type 0 where
  pub is_plain : IsPlainForest r.arguments
  pub limit : ℕ
  pub passes : plain_check w c (Local Proper) limit r.arguments ≡ Passes

-- the first step that decides the remote check
abbrev pub remote_decision : World → ℕ → Reference → Option (Step (Unit {0}) (Unit {0}))
remote_decision w limit r =
    first_step decides (class_of w None Remote) (frontier {E = Unit {0}} w None plain limit (let s : Unit {0} = tt in s) r.arguments)

abbrev pub shows_variable : {E : Type 0} → Item E → Bool
shows_variable (Viewed t) = is_variable t.head
shows_variable _ = false

abbrev pub any_variable : {S E : Type 0} → List (Step S E) → Bool
any_variable [] = false
any_variable (x ∷ xs) = shows_variable x.item || any_variable xs

-- No variable stands in the remote frontier of the header as deep as the limit, and neither alias nor error in it.
pub record IsCovered (w : World) (limit : ℕ) (r : Reference) : Type 0 where
  pub is_plain : IsPlainForest r.arguments
  pub covered : any_variable (frontier {E = Unit {0}} w None plain limit (let s : Unit {0} = tt in s) r.arguments) ≡ false
