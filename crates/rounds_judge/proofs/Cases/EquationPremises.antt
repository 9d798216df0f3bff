-- Why the laws on equations ask of sides and values what they ask.
use Rattle.std.proofs.Common.{◌≡◌, ℕ, zero, suc, refl, sym, ap, ◌∙◌, true, false, List, [], ◌∷◌, Option, Some, None}
use Rattle.ir_trees.specs.declared.ir.heads.Head.TheVariants as H
use Rattle.ir_trees.specs.declared.ir.heads.Builtin.TheVariants as B
use Rattle.ir_trees.specs.declared.ir.heads.Variable.{Variable}
use Rattle.ir_trees.specs.declared.ir.heads.VariableSort.{VariableSort}
use Rattle.ir_trees.specs.declared.ir.heads.VariableSort.TheVariants as V
use Rattle.ir_trees.specs.declared.ir.kinds.RegionKind.TheVariants as R
use Rattle.ir_trees.specs.declared.ir.kinds.UintTy.TheVariants as U
use Rattle.ir_trees.specs.Syntax.Trees.{Forest, none, tree, Tree, erase}
use Rattle.ir_trees.specs.Instantiation.Folding.{leaf}
use Rattle.ir_trees.specs.Unification.Substitutions.{Substitution, apply, alone}
use Rattle.candidate_eval.specs.declared.eval.mode.TypingMode.TheVariants.{PostAnalysis}
use Rattle.candidate_eval.specs.declared.eval.variable.VariableKind.{VariableKind}
use Rattle.candidate_eval.specs.declared.eval.variable.VariableKind.TheVariants.{Term, Region}
use Rattle.candidate_eval.specs.Judges.States.{State, VariableInfo, resolved}
use Rattle.candidate_eval.specs.Judges.Alike.{info}
use Rattle.candidate_eval.specs.Judges.Soundness.{Live, variable_tree}
use Rattle.candidate_eval.specs.Judges.Lawful.{Solves, IsKept}
use Rattle.rounds_judge.specs.Aliases.Listed.{Listing}
use Rattle.rounds_judge.specs.Equations.Equating.{equated, outlives}

-- an alias that isn't listed is rigid
abbrev rigid : List (Tree × Tree) → Listing
rigid ps = record { pairs = ps; is_open = false }

abbrev nothing : Listing
nothing = rigid []

abbrev start : List VariableInfo → State
start is = record { newest_universe = 0; variables = is; regions = []; pending = []; mode = PostAnalysis }

abbrev info_of : VariableKind → Option Tree → VariableInfo
info_of k t = record { kind = k; universe = 0; value = t; is_root = true }

abbrev u8 : Tree
u8 = leaf (H.Builtin (B.Uint U.U8))

abbrev u16 : Tree
u16 = leaf (H.Builtin (B.Uint U.U16))

abbrev static_over : Tree → Forest
static_over t = tree (H.Region R.Static) (alone t) none

-- Regions that are no leaves are accepted as equal, and aren't.
accepted_over_children : equated nothing (start []) (static_over u8) (static_over u16) ≡ Some (start [])
accepted_over_children = refl

children_differ : erase (resolved (start []) (static_over u8)) ≡ erase (resolved (start []) (static_over u16)) → ⊥
children_differ e = cc

-- So are a region variable whose value is no region, and a region.
abbrev odd_value : State
odd_value = start (info_of Region (Some u8) ∷ [])

abbrev region_variable : Tree
region_variable = leaf (H.Region (R.Var 0))

abbrev static : Tree
static = leaf (H.Region R.Static)

abbrev odd_end : State
odd_end = record odd_value { regions = outlives region_variable static ∷ outlives static region_variable ∷ [] }

accepted_at_odd_value : equated nothing odd_value (alone region_variable) (alone static) ≡ Some odd_end
accepted_at_odd_value = refl

odd_value_differs : erase (resolved odd_end (alone region_variable)) ≡ erase (resolved odd_end (alone static)) → ⊥
odd_value_differs e = cc

-- Where a variable with a value has children, a solution may be lost: the first variable's value is the second one, and a solution gives the
-- first one itself to the second, and the first one with its child to the third.

abbrev variable : ℕ → Variable
variable n = record { sort = V.General; number = n }

abbrev var : ℕ → Tree
var n = leaf (H.Infer (variable n))

abbrev with_child : Forest
with_child = tree (H.Infer (variable 0)) (alone u8) none

abbrev before : State
before = start (info_of (Term V.General) (Some (var 1)) ∷ info_of (Term V.General) None ∷ info_of (Term V.General) None ∷ [])

abbrev after : State
after = start (info_of (Term V.General) (Some (var 2)) ∷ info_of (Term V.General) (Some (var 2)) ∷ info_of (Term V.General) None ∷ [])

abbrev all : Live
all n = true

abbrev lost : Substitution
lost = record { variable = variable 1; value = var 0 } ∷ record { variable = variable 2; value = record { head = H.Infer (variable 0); children = alone u8 } } ∷ []

accepted_with_child : equated nothing before with_child (alone (var 2)) ≡ Some after
accepted_with_child = refl

lost_extends : (z : VariableSort) (n : ℕ) (i : VariableInfo) (t : Tree) → info before n ≡ Some i → i.kind ≡ Term z → i.value ≡ Some t
    → erase (apply lost (variable_tree (record { sort = z; number = n }))) ≡ erase (apply lost (alone t))
lost_extends V.General zero i t e k f =
    let same : info_of (Term V.General) (Some (var 1)) ≡ i = cc in
    let value : Some (var 1) ≡ Some t = ap (λ (i : VariableInfo). i.value) same ∙ f in
    let is : var 1 ≡ t = cc in
    ap (λ t. erase (apply lost (alone t))) is
lost_extends z zero i t e k f =
    let same : info_of (Term V.General) (Some (var 1)) ≡ i = cc in
    let clash : Term V.General ≡ Term z = ap (λ (i : VariableInfo). i.kind) same ∙ k in
    cc
lost_extends z (suc zero) i t e k f =
    let same : info_of (Term V.General) None ≡ i = cc in
    let clash : None ≡ Some t = ap (λ (i : VariableInfo). i.value) same ∙ f in
    cc
lost_extends z (suc (suc zero)) i t e k f =
    let same : info_of (Term V.General) None ≡ i = cc in
    let clash : None ≡ Some t = ap (λ (i : VariableInfo). i.value) same ∙ f in
    cc
lost_extends z (suc (suc (suc n))) i t e k f = cc

lost_solves : Solves before all with_child (alone (var 2)) lost
lost_solves = record {
  solution = record {
    allowed = (record { fits = refl; is_closed = refl; in_universe = refl }, (record { fits = refl; is_closed = refl; in_universe = refl }, tt));
    extends = λ v i t c there kind value. lost_extends v.sort v.number i t there kind value;
  };
  equal = refl;
}

lost_is_lost : IsKept before after all all lost → ⊥
lost_is_lost k =
    let first = k.agrees (variable 0) (info_of (Term V.General) (Some (var 1))) refl refl refl in
    let third = k.agrees (variable 2) (info_of (Term V.General) None) refl refl refl in
    let value = k.solution.extends (variable 0) (info_of (Term V.General) (Some (var 2))) (var 2) refl refl refl refl in
    let clash : tree (H.Infer (variable 0)) none none ≡ tree (H.Infer (variable 0)) (alone u8) none = sym first ∙ value ∙ third in
    cc
