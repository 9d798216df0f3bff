-- Whether two impls of a text overlap: an evaluator is made for it, and some rounds are done for each of their where clauses.
use Rattle.std.specs.Prelude.{◌≡◌, ◌==◌, ◌++◌, ◌∷◌, [], ℕ, List, Some, if◌then◌else◌}
use Rattle.std.specs.Fmt.{decimal}
use Rattle.ir_trees.specs.declared.decl.contents.ImplId.{ImplId}
use Rattle.ir_trees.specs.declared.ir.stop.Stop.{Stop}
use Rattle.ir_trees.specs.declared.ir.stop.Stop.TheVariants as S
use Rattle.ir_trees.specs.Declarations.Context.{Context}
use Rattle.ir_trees.specs.Syntax.Trees.{Forest, Tree}
use Rattle.assembly_notation.specs.Spelling.{AddsNamed}
use Rattle.ir_trees.specs.Syntax.Words.{IsArgs}
use Rattle.candidate_rounds.specs.Evaluators.Interface.{fixed}
use Rattle.candidate_rounds.specs.Evaluators.Known.{Evaluator, state, table_of}
use Rattle.overlaps.specs.declared.allowance.Allowance.{Allowance}
use Rattle.overlaps.specs.declared.allowance.Allowance.TheVariants as A
use Rattle.overlaps.specs.declared.instance.CommonInstance.{CommonInstance}
use Rattle.overlaps.specs.declared.overlap.Overlap.{Overlap}
use Rattle.overlaps.specs.declared.overlap.Overlap.TheVariants as O
use Rattle.overlaps.specs.declared.overlap.WhereClause.{WhereClause}
use Rattle.overlaps.specs.Allowed.{allowance_of}
use Rattle.overlaps.specs.Asked.{ClausesBeforeWereAsked, ClausesWereAsked, OfClause, WhereMay}
use Rattle.overlaps.specs.Found.{IsNotAllowed, IsOverlap}
use Rattle.overlaps.specs.Refused.{StaysBesideSteps}
use Rattle.overlaps.specs.Stopping.{IsOverlapStop}
use Rattle.assembly_notation.specs.declared.given.Given.{Given}
use Rattle.assembly_text.specs.Solving.{IsOpenFor, fixed_openly, nothing_known}
use Rattle.candidate_rounds.specs.declared.rounds.effort.Effort.{Effort}

-- What a new evaluator, which knows nothing yet and is in the given mode, and for which an alias that isn't listed may be any type in coherence,
-- says of two impls, and the evaluator that is left: all stays but its
-- table, and what keeps the two apart is there, or what is an instance of both; and it says that their overlap is allowed wherever it is. Where
-- they may overlap each where clause was run in so many rounds or decides nothing; and where one keeps them apart, so was each before it.
pub record IsOverlapSolved (c : Context) (g : Given) (a b : ImplId) (effort : Effort) (last : Context) (o : Overlap) : Type 0 where
  pub first : Evaluator
  pub left : Evaluator
  pub context : first.context ≡ c
  pub fixed_is : fixed first ≡ fixed_openly c g
  pub state_is : state first ≡ nothing_known g.mode
  pub stays : StaysBesideSteps first left
  pub is : IsOverlap first left a b o
  pub allowed : (w : Allowance) → allowance_of first.context a b ≡ Some w → o ≡ O.Allowed w
  pub asked : WhereMay (ClausesWereAsked first effort (table_of left) a b) o
  pub before : OfClause (ClausesBeforeWereAsked first effort a b) o
  pub leaves : left.context ≡ last

-- The same whatever the two declare.
pub record IsOverlapAnyway (c : Context) (g : Given) (a b : ImplId) (effort : Effort) (last : Context) (o : Overlap) : Type 0 where
  pub first : Evaluator
  pub left : Evaluator
  pub new : IsOpenFor c g first
  pub stays : StaysBesideSteps first left
  pub is : IsOverlap first left a b o
  pub decided : IsNotAllowed o
  pub asked : WhereMay (ClausesWereAsked first effort (table_of left) a b) o
  pub before : OfClause (ClausesBeforeWereAsked first effort a b) o
  pub leaves : left.context ≡ last

-- Why it stops to ask such an evaluator: the call stopped, and accounts for it; or memory was refused before that.
pub data IsOverlapStopped (c : Context) (g : Given) (last : Context) (s : Stop) : Type 0 where
  asking_stopped : (first left : Evaluator) → first.context ≡ c → fixed first ≡ fixed_openly c g → state first ≡ nothing_known g.mode → IsOverlapStop first left s → left.context ≡ last
      → IsOverlapStopped c g last s
  not_made : s ≡ S.Memory → IsOverlapStopped c g last s

-- what is printed of it is of a context
abbrev pub IsPrintable : List Tree → Overlap → Type 0
IsPrintable ts (O.May x) = IsArgs ts x.trait_ref.args
IsPrintable ts _ = Unit {0}

-- In words: `disjoint` and by what, `traits`, `headers` or a `clause`, which is of the `first` or of the `second` and has a number; `allowed`
-- and why; or `overlap`, or else `maybe`, and the reference that is an instance of both. The first is the one that a line names first.

abbrev pub side_text : ImplId → ImplId → List ℕ
side_text a n = if n.0 == a.0 then 102 ∷ 105 ∷ 114 ∷ 115 ∷ 116 ∷ 32 ∷ [] else 115 ∷ 101 ∷ 99 ∷ 111 ∷ 110 ∷ 100 ∷ 32 ∷ []

abbrev pub clause_text : ImplId → WhereClause → List ℕ
clause_text a w =
    (100 ∷ 105 ∷ 115 ∷ 106 ∷ 111 ∷ 105 ∷ 110 ∷ 116 ∷ 32 ∷ 99 ∷ 108 ∷ 97 ∷ 117 ∷ 115 ∷ 101 ∷ 32 ∷ [])
    ++ (side_text a w.of ++ (decimal w.number ++ 10 ∷ []))

-- what is said of an impl that specialises another
abbrev pub specializes_text : ImplId → ImplId → List ℕ
specializes_text a n =
    if n.0 == a.0
    then 97 ∷ 108 ∷ 108 ∷ 111 ∷ 119 ∷ 101 ∷ 100 ∷ 32 ∷ 115 ∷ 112 ∷ 101 ∷ 99 ∷ 105 ∷ 97 ∷ 108 ∷ 105 ∷ 122 ∷ 101 ∷ 115 ∷ 32 ∷ 102 ∷ 105 ∷ 114 ∷ 115 ∷ 116 ∷ 10 ∷ []
    else 97 ∷ 108 ∷ 108 ∷ 111 ∷ 119 ∷ 101 ∷ 100 ∷ 32 ∷ 115 ∷ 112 ∷ 101 ∷ 99 ∷ 105 ∷ 97 ∷ 108 ∷ 105 ∷ 122 ∷ 101 ∷ 115 ∷ 32 ∷ 115 ∷ 101 ∷ 99 ∷ 111 ∷ 110 ∷ 100 ∷ 10 ∷ []

abbrev pub allowance_text : ImplId → Allowance → List ℕ
allowance_text a A.Reservation = 97 ∷ 108 ∷ 108 ∷ 111 ∷ 119 ∷ 101 ∷ 100 ∷ 32 ∷ 114 ∷ 101 ∷ 115 ∷ 101 ∷ 114 ∷ 118 ∷ 97 ∷ 116 ∷ 105 ∷ 111 ∷ 110 ∷ 10 ∷ []
allowance_text a A.Marker = 97 ∷ 108 ∷ 108 ∷ 111 ∷ 119 ∷ 101 ∷ 100 ∷ 32 ∷ 109 ∷ 97 ∷ 114 ∷ 107 ∷ 101 ∷ 114 ∷ 10 ∷ []
allowance_text a (A.Specializes n) = specializes_text a n

abbrev pub instance_text : CommonInstance → List ℕ
instance_text x = if x.is_certain then 111 ∷ 118 ∷ 101 ∷ 114 ∷ 108 ∷ 97 ∷ 112 ∷ 32 ∷ [] else 109 ∷ 97 ∷ 121 ∷ 98 ∷ 101 ∷ 32 ∷ []

-- these words, and some for the reference

abbrev pub AddsAfter : List ℕ → List ℕ → List ℕ → Type 0
AddsAfter words old new = (word : List ℕ) × (new ≡ old ++ (words ++ (word ++ 10 ∷ [])))

abbrev pub AddsInstance : CommonInstance → List ℕ → List ℕ → Type 0
AddsInstance x = AddsAfter (instance_text x)

-- Of its arguments each is whole, or where it has too many words its first ones alone.

abbrev pub AddsSpelledAfter : List ℕ → Forest → List ℕ → List ℕ → Type 0
AddsSpelledAfter words ts old new = (word : List ℕ) × AddsNamed ts [] word × (new ≡ old ++ (words ++ (word ++ 10 ∷ [])))

abbrev pub AddsReferenceAfter : CommonInstance → Forest → List ℕ → List ℕ → Type 0
AddsReferenceAfter x = AddsSpelledAfter (instance_text x)

abbrev pub AddsOverlapWords : ImplId → Overlap → List ℕ → List ℕ → Type 0
AddsOverlapWords a O.NoCommonTrait old new = new ≡ old ++ 100 ∷ 105 ∷ 115 ∷ 106 ∷ 111 ∷ 105 ∷ 110 ∷ 116 ∷ 32 ∷ 116 ∷ 114 ∷ 97 ∷ 105 ∷ 116 ∷ 115 ∷ 10 ∷ []
AddsOverlapWords a (O.Allowed w) old new = new ≡ old ++ allowance_text a w
AddsOverlapWords a O.DisjointHeaders old new = new ≡ old ++ 100 ∷ 105 ∷ 115 ∷ 106 ∷ 111 ∷ 105 ∷ 110 ∷ 116 ∷ 32 ∷ 104 ∷ 101 ∷ 97 ∷ 100 ∷ 101 ∷ 114 ∷ 115 ∷ 10 ∷ []
AddsOverlapWords a (O.DisjointClause w) old new = new ≡ old ++ clause_text a w
AddsOverlapWords a (O.May x) old new = AddsInstance x old new
