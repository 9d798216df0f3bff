-- What `check` finds: of each impl alone, and of it with later ones, a line that names them and says what a call answered of them; or nothing, where
-- a call has answered that there is nothing to find.
use Rattle.std.specs.Prelude.{◌≡◌, ◌<◌, ◌==◌, ◌&&◌, ◌++◌, ◌∷◌, [], ℕ, zero, suc, Bool, true, false, not, if◌then◌else◌, Option, Some, None, List, Result, Ok, Err, ◌⊎◌, length, slice_get, string_bytes, take}
use Rattle.std.specs.Fmt.{decimal}
use Rattle.ir_trees.specs.declared.decl.contents.ImplId.{ImplId}
use Rattle.ir_trees.specs.declared.decl.contents.ImplPolarity.{ImplPolarity}
use Rattle.ir_trees.specs.declared.decl.contents.ImplPolarity.TheVariants as polarity
use Rattle.ir_trees.specs.declared.ir.kinds.TraitRef.{TraitRef}
use Rattle.ir_trees.specs.declared.ir.stop.Stop.{Stop}
use Rattle.ir_trees.specs.declared.ir.stop.Stop.TheVariants as S
use Rattle.ir_trees.specs.declared.decl.definition.CrateId.{CrateId}
use Rattle.ir_trees.specs.Declarations.Context.{Context, Grows, world}
use Rattle.ir_trees.specs.Declarations.Declaring.{impl_at}
use Rattle.ir_trees.specs.Declarations.Lookups.{maybe}
use Rattle.ir_trees.specs.Declarations.Names.{is_local}
use Rattle.candidate_eval.specs.declared.coherence.InCrate.TheVariants.{Local}
use Rattle.candidate_eval.specs.declared.coherence.OrphanCheckMode.TheVariants.{Compat, Proper}
use Rattle.candidate_eval.specs.Knowability.Answers.{CheckResult}
use Rattle.candidate_eval.specs.Knowability.Calls.{plain_check_of}
use Rattle.candidate_eval.specs.Knowability.Orphan.{Answer, Faulty, NonLocalInput, Passes, Stopped, UncoveredInput}
use Rattle.overlaps.specs.declared.instance.CommonInstance.{CommonInstance}
use Rattle.overlaps.specs.declared.specializing.Specialization.{Specialization}
use Rattle.overlaps.specs.declared.specializing.Specialization.TheVariants as answer
use Rattle.assembly_text.specs.declared.asking.Asking.{Asking}
use Rattle.assembly_text.specs.declared.comparing.Found.{Found}
use Rattle.assembly_text.specs.declared.comparing.Found.TheVariants as found
use Rattle.assembly_notation.specs.declared.given.Given.{Given}
use Rattle.assembly_notation.specs.declared.names.NamedImpl.{NamedImpl}
use Rattle.assembly_notation.specs.declared.names.Origin.{Origin}
use Rattle.assembly_notation.specs.declared.names.Origin.TheVariants as origin
use Rattle.assembly_notation.specs.declared.names.Names.{Names}
use Rattle.assembly_text.specs.Efforts.{effort_of_line}
use Rattle.assembly_text.specs.Overlapping.{AddsAfter, instance_text}
use Rattle.assembly_text.specs.Paired.{IsOpenHeader, IsPairedHere}
use Rattle.assembly_text.specs.Printing.{AddsAnswer, IsCheckText}
use Rattle.assembly_text.specs.Specializing.{IsFoundOf, IsPairStop, IsTestStopped, IsTested, specialized_by}
use Rattle.candidate_rounds.specs.declared.rounds.effort.Effort.{Effort}

-- the impl of that number is one of the prelude

abbrev pub is_prelude : Origin → Bool
is_prelude origin.Prelude = true
is_prelude (origin.Line n) = false

abbrev pub is_of_prelude : List NamedImpl → ImplId → Bool
is_of_prelude names a = maybe false (λ p. is_prelude p.origin) (slice_get names a.0)

-- ` (prelude)`, or ` (line `, the number of the line, and `)`
abbrev pub origin_text : Origin → List ℕ
origin_text origin.Prelude = 32 ∷ 40 ∷ 112 ∷ 114 ∷ 101 ∷ 108 ∷ 117 ∷ 100 ∷ 101 ∷ 41 ∷ []
origin_text (origin.Line n) = (32 ∷ 40 ∷ 108 ∷ 105 ∷ 110 ∷ 101 ∷ 32 ∷ []) ++ (decimal n ++ 41 ∷ [])

-- `impl `, its name, and where it is declared
abbrev pub impl_text : NamedImpl → List ℕ
impl_text p = (105 ∷ 109 ∷ 112 ∷ 108 ∷ 32 ∷ []) ++ (p.name.now ++ origin_text p.origin)

-- the same of the impl of that number, where it has a name
abbrev pub named_text : Option NamedImpl → List ℕ
named_text None = []
named_text (Some p) = impl_text p

abbrev pub place_text : List NamedImpl → ImplId → List ℕ
place_text names a = named_text (slice_get names a.0)

-- `impl A (line N): orphan `
abbrev pub orphan_text : List NamedImpl → ImplId → List ℕ
orphan_text names a = place_text names a ++ 58 ∷ 32 ∷ 111 ∷ 114 ∷ 112 ∷ 104 ∷ 97 ∷ 110 ∷ 32 ∷ []

-- `impl A (line N): lint orphan `
abbrev pub lint_text : List NamedImpl → ImplId → List ℕ
lint_text names a = place_text names a ++ 58 ∷ 32 ∷ 108 ∷ 105 ∷ 110 ∷ 116 ∷ 32 ∷ 111 ∷ 114 ∷ 112 ∷ 104 ∷ 97 ∷ 110 ∷ 32 ∷ []

-- `impl A (line N) and impl B (line M): `
abbrev pub pair_text : List NamedImpl → ImplId → ImplId → List ℕ
pair_text names a b = place_text names a ++ ((32 ∷ 97 ∷ 110 ∷ 100 ∷ 32 ∷ []) ++ (place_text names b ++ 58 ∷ 32 ∷ []))

-- the impl says that its trait holds

abbrev pub says_yes : ImplPolarity → Bool
says_yes polarity.Positive = true
says_yes _ = false

abbrev pub is_positive_impl : Context → ImplId → Bool
is_positive_impl c a = maybe false (λ i. says_yes i.polarity) (impl_at c a)

-- `lint leak `, where the headers of two positive impls leak a region; and else what `overlap` says
abbrev pub found_text : Context → ImplId → ImplId → CommonInstance → List ℕ
found_text c a b x =
    if x.leaks && (is_positive_impl c a && is_positive_impl c b)
    then 108 ∷ 105 ∷ 110 ∷ 116 ∷ 32 ∷ 108 ∷ 101 ∷ 97 ∷ 107 ∷ 32 ∷ []
    else instance_text x

-- `impl A (line N) specializes impl B (line M)`
abbrev pub special_text : List NamedImpl → ImplId → ImplId → List ℕ
special_text names a b =
    place_text names a ++ ((32 ∷ 115 ∷ 112 ∷ 101 ∷ 99 ∷ 105 ∷ 97 ∷ 108 ∷ 105 ∷ 122 ∷ 101 ∷ 115 ∷ 32 ∷ []) ++ (place_text names b ++ 10 ∷ []))

-- `impl A (line N): not specialized`
abbrev pub line_text : List NamedImpl → ImplId → List ℕ
line_text names a =
    place_text names a ++ 58 ∷ 32 ∷ 110 ∷ 111 ∷ 116 ∷ 32 ∷ 115 ∷ 112 ∷ 101 ∷ 99 ∷ 105 ∷ 97 ∷ 108 ∷ 105 ∷ 122 ∷ 101 ∷ 100 ∷ 10 ∷ []

-- `impl A (line N): `, before what a call stopped by
abbrev pub stopped_text : List NamedImpl → ImplId → List ℕ
stopped_text names a = place_text names a ++ 58 ∷ 32 ∷ []

-- `stop N`
abbrev pub stop_number : Stop → ℕ
stop_number S.Memory = 1
stop_number S.WalkDepth = 2
stop_number S.AliasDepth = 3
stop_number S.ConstDepth = 4
stop_number S.Unnameable = 5
stop_number S.NodesFull = 6
stop_number S.EvaluatorLimit = 7

abbrev pub stop_text : Stop → List ℕ
stop_text s = (115 ∷ 116 ∷ 111 ∷ 112 ∷ 32 ∷ []) ++ (decimal (stop_number s) ++ 10 ∷ [])

-- Such a text is added to another one.
abbrev pub Adds : (List ℕ → Type 0) → List ℕ → List ℕ → Type 0
Adds P old new = (text : List ℕ) × P text × (new ≡ old ++ text)

-- What is added of two impls: nothing; who they are, and what is an instance of both, as a lint or not; that one specialises the other one; or that a
-- call stopped, and not for want of memory.
abbrev pub AddsFound : Context → List NamedImpl → ImplId → ImplId → Result Found Stop → List ℕ → List ℕ → Type 0
AddsFound c names a b (Ok found.Nothing) old new = new ≡ old
AddsFound c names a b (Ok (found.Instance x)) old new = AddsAfter (found_text c a b x) (old ++ pair_text names a b) new
AddsFound c names a b (Ok (found.Specializes s t)) old new = new ≡ old ++ special_text names s t
AddsFound c names a b (Err s) old new = (s ≡ S.Memory → ⊥) × (new ≡ (old ++ pair_text names a b) ++ stop_text s)

-- What is added of a line by which an impl specialises another one.
abbrev pub AddsTest : List NamedImpl → ImplId → Result Specialization Stop → List ℕ → List ℕ → Type 0
AddsTest names a (Ok answer.Specializes) old new = new ≡ old
AddsTest names a (Ok _) old new = new ≡ old ++ line_text names a
AddsTest names a (Err s) old new = (s ≡ S.Memory → ⊥) × (new ≡ (old ++ stopped_text names a) ++ stop_text s)

-- The orphan check answers with an error.

abbrev pub HasError : {E : Type 0} → CheckResult E → Type 0
HasError (Ok (Err e)) = Unit {0}
HasError _ = ⊥

-- The same of what it answers: it refuses the header, and doesn't stop.
abbrev pub Refuses : {E : Type 0} → Answer E → Type 0
Refuses (NonLocalInput es) = Unit {0}
Refuses (UncoveredInput t o) = Unit {0}
Refuses _ = ⊥

-- That is what the orphan check stopped by, and it isn't want of memory.
pub record StoppedBy {E : Type 0} (a : Answer E) (s : Stop) : Type 0 where
  pub is : a ≡ Faulty (Stopped s)
  pub has_memory : s ≡ S.Memory → ⊥

-- what the orphan check answers, or that it stopped, and by what
abbrev pub AddsFailure : {E : Type 0} → Answer E → List ℕ → List ℕ → Type 0
AddsFailure a old new = AddsAnswer a old new ⊎ ((s : Stop) × StoppedBy a s × (new ≡ old ++ stop_text s))

-- Whether the orphan check is asked of an impl for that trait: the impl is one of the local crate, and the trait isn't.
abbrev pub is_checked_alone : Context → CrateId → ImplId → TraitRef → Bool
is_checked_alone c local a t = maybe false (λ i. (i.crate.0 == local.0) && not (is_local (world c) (Some c.local.0) t.def_id.0)) (impl_at c a)

-- What is said of an impl whose header the proper check refuses, by the answers of the proper and of the compatible one: that there is a lint, and
-- the first answer, where the other one passes; or else the other answer; or that this one stopped, and by what.
pub data SaysOfRefused {E F : Type 0} (names : List NamedImpl) (a : ImplId) (proper : Answer E) (compatible : Answer F) : List ℕ → Type 0 where
  lint : {text : List ℕ} → compatible ≡ Passes → IsCheckText proper text → SaysOfRefused names a proper compatible (lint_text names a ++ text)
  orphan : {text : List ℕ} → (compatible ≡ Passes → ⊥) → IsCheckText compatible text → SaysOfRefused names a proper compatible (orphan_text names a ++ text)
  compatible_stop : (s : Stop) → StoppedBy compatible s → SaysOfRefused names a proper compatible (orphan_text names a ++ stop_text s)

-- What is said of an impl alone, over what is declared: nothing, where the orphan check isn't asked of its header or the proper one passes; what the
-- two checks give, where the proper one refuses it; or that this one stopped, and by what.
pub data SaysOfImpl (names : Names) (first : Context) (a : ImplId) : List ℕ → Type 0 where
  not_asked : (c : Context) (t : TraitRef) → Grows first c → IsOpenHeader c a t → is_checked_alone c names.local_crate a t ≡ false → SaysOfImpl names first a []
  passes : (c : Context) (t : TraitRef) → Grows first c → IsOpenHeader c a t → plain_check_of c (Local Proper) t ≡ Passes → SaysOfImpl names first a []
  refused : (c : Context) (t : TraitRef) {text : List ℕ} → Grows first c → IsOpenHeader c a t → Refuses (plain_check_of c (Local Proper) t)
      → SaysOfRefused names.impls.items a (plain_check_of c (Local Proper) t) (plain_check_of c (Local Compat) t) text → SaysOfImpl names first a text
  orphan_stop : (c : Context) (t : TraitRef) (s : Stop) → Grows first c → IsOpenHeader c a t → StoppedBy (plain_check_of c (Local Proper) t) s
      → SaysOfImpl names first a (orphan_text names.impls.items a ++ stop_text s)

-- What is said of two impls, over what is declared, under what is given, by what is found of them in so many rounds for each where clause: nothing,
-- also where both are of the prelude and nothing was asked; that there is an instance of both; that one of them specialises the other one; or that a call stopped, and by what.
pub data SaysOfPair (names : Names) (first : Context) (g : Given) (effort : Effort) (a b : ImplId) : List ℕ → Type 0 where
  quiet : IsFoundOf first g effort a b found.Nothing → SaysOfPair names first g effort a b []
  of_prelude : (is_of_prelude names.impls.items a && is_of_prelude names.impls.items b) ≡ true → SaysOfPair names first g effort a b []
  overlap : (x : CommonInstance) (word : List ℕ) → IsFoundOf first g effort a b (found.Instance x)
      → SaysOfPair names first g effort a b (pair_text names.impls.items a b ++ (found_text first a b x ++ (word ++ 10 ∷ [])))
  special : (s t : ImplId) → IsFoundOf first g effort a b (found.Specializes s t) → SaysOfPair names first g effort a b (special_text names.impls.items s t)
  overlap_stop : (s : Stop) → IsPairStop first g s → (s ≡ S.Memory → ⊥) → SaysOfPair names first g effort a b (pair_text names.impls.items a b ++ stop_text s)

-- What is said of a line by which the first impl specialises the second one: nothing, where it does; that it doesn't; or that the call stopped, and
-- by what.
pub data SaysOfLine (names : Names) (first : Context) (g : Given) (a b : ImplId) : List ℕ → Type 0 where
  so : (c last : Context) → Grows first c → IsTested c g a b last answer.Specializes → SaysOfLine names first g a b []
  not_so : (c last : Context) (o : Specialization) → Grows first c → IsTested c g a b last o → (o ≡ answer.Specializes → ⊥) → SaysOfLine names first g a b (line_text names.impls.items a)
  line_stop : (c last : Context) (s : Stop) → Grows first c → IsTestStopped c g last s → (s ≡ S.Memory → ⊥) → SaysOfLine names first g a b (stopped_text names.impls.items a ++ stop_text s)

-- That of so many of the lines of the impl, one after the other.
pub data SaysOfLines (names : Names) (first : Context) (g : Given) (a : ImplId) : ℕ → List ℕ → Type 0 where
  no_line : SaysOfLines names first g a zero []
  and_line : {n : ℕ} {text line : List ℕ} (b : ImplId) → SaysOfLines names first g a n text → slice_get (specialized_by first a) n ≡ Some b → SaysOfLine names first g a b line
      → SaysOfLines names first g a (suc n) (text ++ line)

-- That of the impl with each of so many of the others, one after the other.
pub data SaysOfPairs (names : Names) (first : Context) (g : Given) (effort : Effort) (a : ImplId) (others : List ImplId) : ℕ → List ℕ → Type 0 where
  no_pair : SaysOfPairs names first g effort a others zero []
  and_pair : {n : ℕ} {text line : List ℕ} (b : ImplId) → SaysOfPairs names first g effort a others n text → slice_get others n ≡ Some b
      → SaysOfPair names first g effort a b line → SaysOfPairs names first g effort a others (suc n) (text ++ line)

-- What is said of an impl alone, of the lines by which it specialises others, and then of it with each of the others with a number below that one that
-- it is paired with.
pub record SaysWithOthers (names : Names) (first : Context) (g : Given) (effort : Effort) (number : ℕ) (a : ImplId) (said : List ℕ) : Type 0 where
  pub others : List ImplId
  pub paired : IsPairedHere first number a others
  pub alone : List ℕ
  pub of_alone : SaysOfImpl names first a alone
  pub lines : List ℕ
  pub of_lines : SaysOfLines names first g a (length (specialized_by first a)) lines
  pub pairs : List ℕ
  pub of_pairs : SaysOfPairs names first g effort a others (length others) pairs
  pub is : said ≡ alone ++ (lines ++ pairs)

-- That of so many of the impls with numbers below that one, in their order.
pub data SaysOfImpls (names : Names) (first : Context) (g : Given) (effort : Effort) (number : ℕ) : ℕ → List ℕ → Type 0 where
  no_impl : SaysOfImpls names first g effort number zero []
  and_impl : {n : ℕ} {text line : List ℕ} → SaysOfImpls names first g effort number n text → SaysWithOthers names first g effort number (record { 0 = n }) line
      → SaysOfImpls names first g effort number (suc n) (text ++ line)

-- The names and what is given stay, and the context goes on.
pub record Stays (old new : Asking) : Type 0 where
  pub grows : Grows old.scope.maker new.scope.maker
  pub names : new.scope.names ≡ old.scope.names
  pub given : new.given ≡ old.given

-- Each of these is added to the answer, over the context before.

abbrev pub AddsOfRefused : {E F : Type 0} → List NamedImpl → ImplId → Answer E → Answer F → List ℕ → List ℕ → Type 0
AddsOfRefused names a proper compatible = Adds (SaysOfRefused names a proper compatible)

-- of a header of the context before, by what the proper check answered of it
abbrev pub AddsWhereRefused : {E : Type 0} → Asking → ImplId → TraitRef → Answer E → List ℕ → Type 0
AddsWhereRefused old a t proper new = AddsOfRefused old.scope.names.impls.items a proper (plain_check_of old.scope.maker (Local Compat) t) (string_bytes old.answer) new

abbrev pub AddsOfImpl : ImplId → Asking → Asking → Type 0
AddsOfImpl a old new = Adds (SaysOfImpl old.scope.names old.scope.maker a) (string_bytes old.answer) (string_bytes new.answer)

abbrev pub AddsOfLine : ImplId → ImplId → Asking → Asking → Type 0
AddsOfLine a b old new = Adds (SaysOfLine old.scope.names old.scope.maker old.given a b) (string_bytes old.answer) (string_bytes new.answer)

abbrev pub AddsOfLines : ImplId → ℕ → Asking → Asking → Type 0
AddsOfLines a n old new = Adds (SaysOfLines old.scope.names old.scope.maker old.given a n) (string_bytes old.answer) (string_bytes new.answer)

abbrev pub AddsOfPair : Effort → ImplId → ImplId → Asking → Asking → Type 0
AddsOfPair effort a b old new = Adds (SaysOfPair old.scope.names old.scope.maker old.given effort a b) (string_bytes old.answer) (string_bytes new.answer)

abbrev pub AddsOfPairs : Effort → ImplId → List ImplId → ℕ → Asking → Asking → Type 0
AddsOfPairs effort a others n old new = Adds (SaysOfPairs old.scope.names old.scope.maker old.given effort a others n) (string_bytes old.answer) (string_bytes new.answer)

abbrev pub AddsWithOthers : Effort → ℕ → ImplId → Asking → Asking → Type 0
AddsWithOthers effort number a old new = Adds (SaysWithOthers old.scope.names old.scope.maker old.given effort number a) (string_bytes old.answer) (string_bytes new.answer)

abbrev pub AddsOfImpls : Effort → ℕ → ℕ → Asking → Asking → Type 0
AddsOfImpls effort number n old new = Adds (SaysOfImpls old.scope.names old.scope.maker old.given effort number n) (string_bytes old.answer) (string_bytes new.answer)

-- That is the length of a list, if a number of 32 bits can be.
abbrev pub IsLength : ℕ → ℕ → Type 0
IsLength len n = len < 4294967296 → n ≡ len

-- each impl that has a name
pub record AddsOfAll (effort : Effort) (old new : Asking) : Type 0 where
  pub number : ℕ
  pub are_all : IsLength (length old.scope.names.impls.items) number
  pub adds : AddsOfImpls effort number number old new

-- `ok` in the place of nothing
abbrev pub or_ok : List ℕ → List ℕ
or_ok [] = 111 ∷ 107 ∷ 10 ∷ []
or_ok text = text

-- All that is said of each impl, or `ok`.
pub record SaysFindings (names : Names) (first : Context) (g : Given) (effort : Effort) (said : List ℕ) : Type 0 where
  pub number : ℕ
  pub are_all : IsLength (length names.impls.items) number
  pub text : List ℕ
  pub are : SaysOfImpls names first g effort number number text
  pub is : said ≡ or_ok text

-- The same by the effort that the line names.
abbrev pub SaysFindingsOfLine : List ℕ → Names → Context → Given → List ℕ → Type 0
SaysFindingsOfLine line names first g said = SaysFindings names first g (effort_of_line line) said

-- The context has nothing but what is declared.
abbrev pub IsDeclaredAlone : Context → Type 0
IsDeclaredAlone c = take c.declared_nodes c.trees ≡ c.trees
