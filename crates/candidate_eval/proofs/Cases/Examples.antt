-- Examples of the definitions, by computation: a wrong definition would show here.
use Rattle.std.proofs.Common.{◌≡◌, ℕ, zero, suc, Bool, true, false, List, [], ◌∷◌, Some, None, refl, ◌==◌, if◌then◌else◌}
use Rattle.ir_trees.specs.declared.ir.stop.Stop.TheVariants.{WalkDepth, EvaluatorLimit}
use Rattle.ir_trees.specs.declared.ir.heads.Head.{Head}
use Rattle.ir_trees.specs.declared.ir.heads.Head.TheVariants as H
use Rattle.ir_trees.specs.declared.ir.heads.Builtin.TheVariants as B
use Rattle.ir_trees.specs.declared.ir.heads.PartHead.TheVariants as Part
use Rattle.ir_trees.specs.declared.ir.heads.PredHead.TheVariants as PH
use Rattle.ir_trees.specs.declared.ir.heads.VariableSort.TheVariants as V
use Rattle.ir_trees.specs.declared.ir.kinds.UintTy.TheVariants as U
use Rattle.ir_trees.specs.declared.ir.kinds.RegionKind.TheVariants as R
use Rattle.ir_trees.specs.declared.ir.kinds.Mutability.TheVariants as M
use Rattle.ir_trees.specs.declared.ir.kinds.AliasKind.TheVariants as AK
use Rattle.ir_trees.specs.Syntax.Trees.{Kind, TypeKind, Forest, none, tree, Tree}
use Rattle.ir_trees.specs.Declarations.Worlds.{AdtSort, TraitSort, AssociatedTypeSort, ForeignSort, Definition, DefinitionSort, World}
use Rattle.candidate_eval.specs.Knowability.Orphan.{plain_check, plain_knowability, Knowability, Knowable, Upstream, Downstream, Answer, Passes, NonLocalInput, UncoveredInput, Faulty, Stopped, Refused, Local, Remote, Proper, Compat, orphan_answer, knowability, View, Sees, Fails, Entry}

abbrev pub def : DefinitionSort → ℕ → List Kind → Bool → Definition
def s c ks f = record { sort = s; crate = c; parameters = ks; is_fundamental = f }

abbrev pub P : World
P = def AdtSort 1 (TypeKind ∷ []) false  -- 0 Vec
    ∷ def AdtSort 1 (TypeKind ∷ []) true  -- 1 Box
    ∷ def AdtSort 1 (TypeKind ∷ TypeKind ∷ []) true  -- 2 Pair
    ∷ def AdtSort 1 [] true  -- 3 Unit0
    ∷ def AdtSort 0 [] false  -- 4 LocalType
    ∷ def AdtSort 0 (TypeKind ∷ []) false  -- 5 Wrap
    ∷ def TraitSort 1 [] false  -- 6 Trait
    ∷ def TraitSort 0 [] false  -- 7 LocalTrait
    ∷ def AssociatedTypeSort 1 (TypeKind ∷ []) false  -- 8 Out
    ∷ def ForeignSort 0 [] false  -- 9 LF
    ∷ def AdtSort 0 (TypeKind ∷ []) true  -- 10 LBox
    ∷ []

infixr 20 ◌&◌
abbrev pub ◌&◌ : Forest → Forest → Forest
none & b = b
tree h a rest & b = tree h a (rest & b)

abbrev pub one : Head → Forest → Forest
one h a = tree h a none

abbrev pub Vec : Forest → Forest
Vec a = one (H.Adt (record { 0 = 0 })) a

abbrev pub Box : Forest → Forest
Box a = one (H.Adt (record { 0 = 1 })) a

abbrev pub Pair : Forest → Forest → Forest
Pair a b = one (H.Adt (record { 0 = 2 })) (a & b)

abbrev pub Unit0 : Forest
Unit0 = one (H.Adt (record { 0 = 3 })) none

abbrev pub LocalType : Forest
LocalType = one (H.Adt (record { 0 = 4 })) none

abbrev pub Wrap : Forest → Forest
Wrap a = one (H.Adt (record { 0 = 5 })) a

abbrev pub Out : Forest → Forest
Out a = one (H.Alias AK.Projection (record { 0 = 8 })) a

abbrev pub u8 : Forest
u8 = one (H.Builtin (B.Uint U.U8)) none

abbrev pub u16 : Forest
u16 = one (H.Builtin (B.Uint U.U16)) none

abbrev pub var : ℕ → Forest
var n = one (H.Infer (record { sort = V.General; number = n })) none

abbrev pub empty : Forest
empty = one (H.Builtin B.Tuple) none

abbrev pub ref : Forest → Forest
ref a = one (H.Ref M.Not) (one (H.Region R.Static) none & a)

abbrev pub it : Forest → Tree
it (tree h a rest) = record { head = h; children = a }
it none = record { head = H.Error; children = none }

abbrev pub no : Forest → Bool → Entry
no a b = record { type = it a; is_first_input = b }

abbrev pub local : Forest → Answer (Unit {0})
local a = plain_check P 0 (Local Proper) 256 a

abbrev pub compat : Forest → Answer (Unit {0})
compat a = plain_check P 0 (Local Compat) 256 a

abbrev pub remote : Forest → Answer (Unit {0})
remote a = plain_check P 0 Remote 256 a

local_inside_fundamental_pair : local (Pair (Vec empty) (Box LocalType)) ≡ Passes
local_inside_fundamental_pair = refl

local_inside_other_type : local (Vec LocalType) ≡ NonLocalInput (no (Vec LocalType) true ∷ [])
local_inside_other_type = refl

variable_covered_before_local : local (Vec (var 0) & LocalType) ≡ Passes
variable_covered_before_local = refl

variable_uncovered_before_local : local (Box (var 0) & LocalType) ≡ UncoveredInput (it (var 0)) (Some (it LocalType))
variable_uncovered_before_local = refl

local_before_variable : local (Pair (Wrap (var 0)) (var 0)) ≡ Passes
local_before_variable = refl

variable_inside_local : local (Wrap (Vec (var 0))) ≡ Passes
variable_inside_local = refl

local_inside_covered : local (Box (Vec (Wrap (var 0)))) ≡ NonLocalInput (no (Vec (Wrap (var 0))) true ∷ [])
local_inside_covered = refl

two_foreign_types : local (Pair u8 u16) ≡ NonLocalInput (no u8 true ∷ no u16 false ∷ [])
two_foreign_types = refl

fundamental_without_arguments : local Unit0 ≡ NonLocalInput []
fundamental_without_arguments = refl

projection_uncovered : local (Out (var 0) & LocalType) ≡ UncoveredInput (it (Out (var 0))) (Some (it LocalType))
projection_uncovered = refl

projection_skipped_in_compat : compat (Out (var 0) & LocalType) ≡ Passes
projection_skipped_in_compat = refl

abbrev pub know : ℕ → Forest → Knowability (Unit {0})
know t a = plain_knowability P 0 256 (record { trait = t; arguments = a })

variable_is_downstream : know 6 (var 0) ≡ Downstream
variable_is_downstream = refl

covered_variable_is_upstream : know 6 (Vec (var 0)) ≡ Upstream
covered_variable_is_upstream = refl

local_is_knowable : know 6 LocalType ≡ Knowable
local_is_knowable = refl

local_trait_of_boxed_variable : know 7 (Box (var 0)) ≡ Downstream
local_trait_of_boxed_variable = refl

local_trait_of_covered_variable : know 7 (Vec (var 0)) ≡ Knowable
local_trait_of_covered_variable = refl

-- a normaliser that answers `& u8` for `u8`
abbrev pub is_u8 : Head → Bool
is_u8 (H.Builtin (B.Uint U.U8)) = true
is_u8 _ = false

abbrev pub grow : View (Unit {0}) ℕ
grow s t = record { seen = if is_u8 t.head then Sees (it (ref u8)) else Sees t; after = s }

endless_normaliser : (orphan_answer P 0 (Local Proper) grow 256 tt u8).answer ≡ Faulty (Stopped WalkDepth)
endless_normaliser = refl

local_before_endless_normaliser : (orphan_answer P 0 (Local Proper) grow 256 tt (LocalType & u8)).answer ≡ Passes
local_before_endless_normaliser = refl

abbrev pub fail : View (Unit {0}) ℕ
fail s t = record { seen = if is_u8 t.head then Fails (Refused 7) else Sees t; after = s }

failing_normaliser_after_variable : (orphan_answer P 0 (Local Proper) fail 256 tt (Box (var 0) & u8 & LocalType)).answer ≡ UncoveredInput (it (var 0)) None
failing_normaliser_after_variable = refl

abbrev pub refs : ℕ → Forest → Forest
refs zero a = a
refs (suc n) a = ref (refs n a)

deepest_walk : local (refs 255 LocalType) ≡ Passes
deepest_walk = refl

too_deep_walk : local (refs 256 LocalType) ≡ Faulty (Stopped WalkDepth)
too_deep_walk = refl

remote_records_in_order : remote (Wrap u8 & Vec (var 0)) ≡ NonLocalInput (no (Wrap u8) true ∷ no (Vec (var 0)) false ∷ [])
remote_records_in_order = refl

error_is_local : local (one H.Error none) ≡ Passes
error_is_local = refl

second_input_is_not_first : local (Unit0 & u8) ≡ NonLocalInput (no u8 false ∷ [])
second_input_is_not_first = refl

skipped_in_compat_alone : compat (Out (var 0)) ≡ NonLocalInput []
skipped_in_compat_alone = refl

local_foreign_type : local (one (H.Foreign (record { 0 = 9 })) none) ≡ Passes
local_foreign_type = refl

remote_foreign_type : remote (one (H.Foreign (record { 0 = 9 })) none) ≡ NonLocalInput (no (one (H.Foreign (record { 0 = 9 })) none) true ∷ [])
remote_foreign_type = refl

local_principal : local (one H.Dynamic (one (H.Part (Part.Pred (PH.Trait (record { 0 = 7 })))) (one (H.Part Part.Vars) none) & one (H.Region R.Static) none)) ≡ Passes
local_principal = refl

local_fundamental_of_variable : know 6 (one (H.Adt (record { 0 = 10 })) (var 0)) ≡ Downstream
local_fundamental_of_variable = refl

projection_of_known_type : know 6 (Out u8) ≡ Upstream
projection_of_known_type = refl

error_is_downstream : know 7 (one H.Error none) ≡ Downstream
error_is_downstream = refl

remote_walks_fundamental : remote (Box LocalType) ≡ NonLocalInput (no LocalType true ∷ [])
remote_walks_fundamental = refl

-- a normaliser that counts its calls in the context, and answers a local type from the second `u16` on
abbrev pub is_u16 : Head → Bool
is_u16 (H.Builtin (B.Uint U.U16)) = true
is_u16 _ = false

abbrev pub changing : View ℕ ℕ
changing s t =
    if is_u16 t.head then record { seen = if s == 0 then Sees (it u8) else Sees (it LocalType); after = suc s }
    else record { seen = Sees t; after = s }

changing_normaliser : (orphan_answer P 0 (Local Proper) changing 256 0 (Pair u16 u16)).answer ≡ Passes
changing_normaliser = refl

changing_normaliser_is_knowable : (knowability P 0 changing 256 0 (record { trait = 6; arguments = u16 })).answer ≡ Knowable
changing_normaliser_is_knowable = refl

abbrev pub stops : View (Unit {0}) ℕ
stops s t = record { seen = if is_u16 t.head then Fails (Stopped EvaluatorLimit) else Sees t; after = s }

stopping_normaliser : (orphan_answer P 0 (Local Proper) stops 256 tt (Box (var 0) & u16)).answer ≡ Faulty (Stopped EvaluatorLimit)
stopping_normaliser = refl

-- La of crate 1, Lb of crate 2, Pair and a trait of crate 3, and New of crate 4
abbrev pub Q : World
Q = def AdtSort 1 [] false ∷ def AdtSort 2 [] false ∷ def AdtSort 3 (TypeKind ∷ TypeKind ∷ []) true ∷ def TraitSort 3 [] false
    ∷ def AdtSort 4 [] false ∷ []

abbrev pub La : Forest
La = one (H.Adt (record { 0 = 0 })) none

abbrev pub Lb : Forest
Lb = one (H.Adt (record { 0 = 1 })) none

abbrev pub New : Forest
New = one (H.Adt (record { 0 = 4 })) none

foreign_pair_uncovered : plain_check Q 2 (Local Proper) 256 (Pair La (var 0)) ≡ UncoveredInput (it (var 0)) None
foreign_pair_uncovered = refl

foreign_pair_uncovered_then_local : plain_check Q 2 (Local Proper) 256 (Pair (var 0) Lb) ≡ UncoveredInput (it (var 0)) (Some (it Lb))
foreign_pair_uncovered_then_local = refl

foreign_pair_passes : plain_check Q 2 (Local Proper) 256 (Pair Lb (var 0)) ≡ Passes
foreign_pair_passes = refl

first_of_two_crates_passes : plain_check Q 1 (Local Proper) 256 (Pair La (var 0)) ≡ Passes
first_of_two_crates_passes = refl

second_of_two_crates_passes : plain_check Q 2 (Local Proper) 256 (Pair La Lb) ≡ Passes
second_of_two_crates_passes = refl

pair_of_two_crates_is_downstream : plain_knowability Q 2 256 (record { trait = 3; arguments = Pair La (var 0) }) ≡ Downstream
pair_of_two_crates_is_downstream = refl

newcomer_passes : plain_check Q 4 (Local Proper) 256 (Pair La New) ≡ Passes
newcomer_passes = refl
