-- Whether an impl of a text specialises another one, and what is found of two impls by that and by whether they overlap.
use Rattle.std.specs.Prelude.{◌≡◌, ◌⊎◌, ℕ, Bool, false, true, List, [], Option, Some, IfSome}
use Rattle.ir_trees.specs.declared.decl.contents.ImplId.{ImplId}
use Rattle.ir_trees.specs.declared.ir.stop.Stop.{Stop}
use Rattle.ir_trees.specs.declared.ir.stop.Stop.TheVariants as S
use Rattle.ir_trees.specs.Declarations.Context.{Context, Grows}
use Rattle.ir_trees.specs.Declarations.Declaring.{impl_at}
use Rattle.ir_trees.specs.Declarations.Lookups.{maybe}
use Rattle.ir_trees.specs.Syntax.Trees.{Tree}
use Rattle.ir_trees.specs.Syntax.Words.{IsArgs}
use Rattle.candidate_eval.specs.declared.eval.mode.TypingMode.TheVariants.{PostAnalysis}
use Rattle.candidate_rounds.specs.Evaluators.Interface.{fixed}
use Rattle.candidate_rounds.specs.Evaluators.Known.{Evaluator, state, sure_of}
use Rattle.overlaps.specs.declared.allowance.Allowance.TheVariants as A
use Rattle.overlaps.specs.declared.instance.CommonInstance.{CommonInstance}
use Rattle.overlaps.specs.declared.overlap.Overlap.{Overlap}
use Rattle.overlaps.specs.declared.overlap.Overlap.TheVariants as O
use Rattle.overlaps.specs.declared.specializing.Specialization.{Specialization}
use Rattle.overlaps.specs.declared.specializing.Specialization.TheVariants as answer
use Rattle.overlaps.specs.declared.overlap.WhereClause.{WhereClause}
use Rattle.overlaps.specs.Allowed.{lists}
use Rattle.overlaps.specs.Negated.{IsKeptApart}
use Rattle.overlaps.specs.Refused.{StaysBesideSteps}
use Rattle.overlaps.specs.Specialized.{IsSpecialization}
use Rattle.overlaps.specs.Stopping.{IsOverlapStop}
use Rattle.assembly_notation.specs.declared.given.Given.{Given}
use Rattle.assembly_text.specs.declared.comparing.Found.{Found}
use Rattle.assembly_text.specs.declared.comparing.Found.TheVariants as found
use Rattle.assembly_text.specs.Overlapping.{IsOverlapAnyway, IsOverlapSolved, IsOverlapStopped}
use Rattle.assembly_text.specs.Solving.{fixed_for, nothing_known}
use Rattle.assembly_text.specs.Together.{IsApart}
use Rattle.candidate_rounds.specs.declared.rounds.effort.Effort.{Effort}

-- A new evaluator over the context: it answers by what is given, knows nothing yet, and asks goals outside coherence, whatever the given mode is.
pub record IsTesterFor (c : Context) (g : Given) (r : Evaluator) : Type 0 where
  pub context : r.context ≡ c
  pub fixed_is : fixed r ≡ record (fixed_for c g) { mode = PostAnalysis }
  pub state_is : state r ≡ nothing_known PostAnalysis

-- What such an evaluator says of whether the first impl specialises the second one, and the evaluator that is left.
pub record IsTested (c : Context) (g : Given) (a b : ImplId) (last : Context) (o : Specialization) : Type 0 where
  pub first : Evaluator
  pub left : Evaluator
  pub tester : IsTesterFor c g first
  pub stays : StaysBesideSteps first left
  pub is : IsSpecialization first left a b o
  pub leaves : left.context ≡ last

-- Why it stops to ask such an evaluator: the call stopped, and accounts for it; or memory was refused before that.
pub data IsTestStopped (c : Context) (g : Given) (last : Context) (s : Stop) : Type 0 where
  test_stopped : (first left : Evaluator) → IsTesterFor c g first → IsOverlapStop first left s → left.context ≡ last → IsTestStopped c g last s
  test_not_made : s ≡ S.Memory → IsTestStopped c g last s

-- Which where clause of the two such an evaluator says not to hold where the other impl does, if any, and the evaluator that is left.
pub record IsNegationAnswered (c : Context) (g : Given) (a b : ImplId) (last : Context) (o : Option WhereClause) : Type 0 where
  pub first : Evaluator
  pub left : Evaluator
  pub tester : IsTesterFor c g first
  pub stays : StaysBesideSteps first left
  pub is : IfSome o (IsKeptApart first (sure_of left) a b)
  pub leaves : left.context ≡ last

-- It is asked for, and a new evaluator names that clause, over a context that comes after that one.
pub record IsNegatedClause (first : Context) (g : Given) (a b : ImplId) (w : WhereClause) : Type 0 where
  pub asked : g.negative ≡ true
  pub context : Context
  pub last : Context
  pub grows : Grows first context
  pub answered : IsNegationAnswered context g a b last (Some w)

-- the impls that lines say the impl to specialise, and whether that one is among them

abbrev pub specialized_by : Context → ImplId → List ImplId
specialized_by c a = maybe [] (λ i. i.specializes) (impl_at c a)

abbrev pub is_declared_special : Context → ImplId → ImplId → Bool
is_declared_special c a b = lists (specialized_by c a) b

-- A new evaluator answers, over a context that comes after that one, that the first impl specialises the second one; or another one that it
-- doesn't.

pub record IsSpecial (first : Context) (g : Given) (a b : ImplId) : Type 0 where
  pub context : Context
  pub last : Context
  pub grows : Grows first context
  pub tested : IsTested context g a b last answer.Specializes

pub record IsNotSpecial (first : Context) (g : Given) (a b : ImplId) : Type 0 where
  pub context : Context
  pub last : Context
  pub grows : Grows first context
  pub other : Specialization
  pub isnt : other ≡ answer.Specializes → ⊥
  pub tested : IsTested context g a b last other

-- The first one specialises the second one, and that one doesn't specialise it; and where a line is asked for, one says so.
pub record IsSpecialAlone (first : Context) (g : Given) (by_line : Bool) (a b : ImplId) : Type 0 where
  pub special : IsSpecial first g a b
  pub back : IsNotSpecial first g b a
  pub line : by_line ≡ true → is_declared_special first a b ≡ true

-- they are the two, in either order
abbrev pub AreThose : ImplId → ImplId → ImplId → ImplId → Type 0
AreThose a b s t = (s ≡ a) × (t ≡ b) ⊎ (s ≡ b) × (t ≡ a)

-- One of the two specialises the other one.
pub record IsSpecialOfThem (first : Context) (g : Given) (by_line : Bool) (a b s t : ImplId) : Type 0 where
  pub those : AreThose a b s t
  pub special : IsSpecialAlone first g by_line s t

-- They are the two as they are, of which the second one doesn't specialise the first one; or the other way round, where it does. Where a line is
-- asked for, one says so.

pub record IsOneBy (first : Context) (g : Given) (by_line : Bool) (a b : ImplId) (p : ImplId × ImplId) : Type 0 where
  pub those : p ≡ (a, b)
  pub back : IsNotSpecial first g b a
  pub line : by_line ≡ true → is_declared_special first a b ≡ true

pub record IsOtherBy (first : Context) (g : Given) (by_line : Bool) (a b : ImplId) (p : ImplId × ImplId) : Type 0 where
  pub those : p ≡ (b, a)
  pub special : IsSpecial first g b a
  pub line : by_line ≡ true → is_declared_special first b a ≡ true

-- Neither of the two specialises the other one alone.
pub data NoneSpecializesAlone (first : Context) (g : Given) (by_line : Bool) (a b : ImplId) : Type 0 where
  -- each of them specialises the other one
  each_special : IsSpecial first g a b → IsSpecial first g b a → NoneSpecializesAlone first g by_line a b
  -- neither of them does
  neither_special : IsNotSpecial first g a b → IsNotSpecial first g b a → NoneSpecializesAlone first g by_line a b
  -- one of them does, and the other one doesn't; but a line is asked for, and none says so
  special_unsaid : (s t : ImplId) → AreThose a b s t → IsSpecial first g s t → IsNotSpecial first g t s → by_line ≡ true → is_declared_special first s t ≡ false
      → NoneSpecializesAlone first g by_line a b

-- What is known of the second one where the first one, which specialises it, isn't the one.
pub data IsNotOneBy (first : Context) (g : Given) (by_line : Bool) (a b : ImplId) : Type 0 where
  -- it specialises the first one, too
  other_special : IsSpecial first g b a → IsNotOneBy first g by_line a b
  -- it doesn't; but a line is asked for, and none says that the first one specialises it
  one_unsaid : IsNotSpecial first g b a → by_line ≡ true → is_declared_special first a b ≡ false → IsNotOneBy first g by_line a b

-- What is known of the second one where it isn't the one, and the first one doesn't specialise it.
pub data IsNotOtherBy (first : Context) (g : Given) (by_line : Bool) (a b : ImplId) : Type 0 where
  -- it doesn't specialise the first one, either
  other_not_special : IsNotSpecial first g b a → IsNotOtherBy first g by_line a b
  -- it does; but a line is asked for, and none says so
  other_unsaid : IsSpecial first g b a → by_line ≡ true → is_declared_special first b a ≡ false → IsNotOtherBy first g by_line a b

-- It is what a new evaluator answers of whether the two overlap, over a context that comes after that one, as they are declared or anyway.
pub data IsAnswerOf (first : Context) (g : Given) (effort : Effort) (a b : ImplId) (o : Overlap) : Type 0 where
  as_declared : (c last : Context) → Grows first c → IsOverlapSolved c g a b effort last o → IsAnswerOf first g effort a b o
  anyway : (c last : Context) → Grows first c → IsOverlapAnyway c g a b effort last o → IsAnswerOf first g effort a b o

-- they are disjoint, or one of them is a reservation
abbrev pub KeepsQuiet : Overlap → Type 0
KeepsQuiet (O.May x) = ⊥
KeepsQuiet (O.Allowed (A.Specializes n)) = ⊥
KeepsQuiet _ = Unit {0}

-- There is nothing to find of the two: such an answer; or one of them specialises the other one, and a line says so; or they may overlap, but their
-- where clauses can't hold together, or one of them is known not to hold where the other impl does, and that is asked for.
pub data HasNothing (first : Context) (g : Given) (effort : Effort) (a b : ImplId) : Type 0 where
  by_answer : (o : Overlap) → IsAnswerOf first g effort a b o → KeepsQuiet o → HasNothing first g effort a b
  by_line : (s t : ImplId) → IsSpecialOfThem first g true a b s t → HasNothing first g effort a b
  by_clauses : (x : CommonInstance) → IsAnswerOf first g effort a b (O.May x) → IsApart first g a b → HasNothing first g effort a b
  by_negation : (x : CommonInstance) (w : WhereClause) → IsAnswerOf first g effort a b (O.May x) → IsNegatedClause first g a b w → HasNothing first g effort a b

-- The first one specialises the second one, and the feature is used.
pub record IsFoundSpecial (first : Context) (g : Given) (a b s t : ImplId) : Type 0 where
  pub feature : g.specialization ≡ true
  pub special : IsSpecialOfThem first g false a b s t

-- Where the feature is used, neither of the two specialises the other one alone.
abbrev pub NoneIfUsed : Context → Given → ImplId → ImplId → Type 0
NoneIfUsed first g a b = g.specialization ≡ true → NoneSpecializesAlone first g false a b

-- What is found of the two.
abbrev pub IsFoundOf : Context → Given → Effort → ImplId → ImplId → Found → Type 0
IsFoundOf first g effort a b found.Nothing = HasNothing first g effort a b
IsFoundOf first g effort a b (found.Instance x) = IsAnswerOf first g effort a b (O.May x) × NoneIfUsed first g a b
IsFoundOf first g effort a b (found.Specializes s t) = IsFoundSpecial first g a b s t

-- That instance, and that neither specialises the other one alone where the feature is used; or one that specialises the other one.
abbrev pub IsInstanceOr : Context → Given → ImplId → ImplId → CommonInstance → Found → Type 0
IsInstanceOr first g a b x found.Nothing = ⊥
IsInstanceOr first g a b x (found.Instance y) = (y ≡ x) × NoneIfUsed first g a b
IsInstanceOr first g a b x (found.Specializes s t) = IsFoundSpecial first g a b s t

-- The same, or nothing, since a where clause is known not to hold.
abbrev pub IsInstanceUnless : Context → Given → ImplId → ImplId → CommonInstance → Found → Type 0
IsInstanceUnless first g a b x found.Nothing = (w : WhereClause) × IsNegatedClause first g a b w
IsInstanceUnless first g a b x f = IsInstanceOr first g a b x f

-- The same, or nothing, since their where clauses can't hold together.
abbrev pub IsInstanceUnlessApart : Context → Given → ImplId → ImplId → CommonInstance → Found → Type 0
IsInstanceUnlessApart first g a b x found.Nothing = IsApart first g a b ⊎ IsInstanceUnless first g a b x found.Nothing
IsInstanceUnlessApart first g a b x f = IsInstanceOr first g a b x f

-- A call stopped that was asked of the two over a context that comes after that one.
pub data IsPairStop (first : Context) (g : Given) (s : Stop) : Type 0 where
  overlap_stopped : (c last : Context) → Grows first c → IsOverlapStopped c g last s → IsPairStop first g s
  test_stopped_there : (c last : Context) → Grows first c → IsTestStopped c g last s → IsPairStop first g s

-- what is printed of it is of a context
abbrev pub IsPrintableFound : List Tree → Found → Type 0
IsPrintableFound ts (found.Instance x) = IsArgs ts x.trait_ref.args
IsPrintableFound ts _ = Unit {0}
