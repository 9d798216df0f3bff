-- How many words types are spelled in, and what is printed of one.
use Rattle.std.specs.Prelude.{◌≡◌, ◌<◌, ◌+◌, ◌++◌, ℕ, Bool, true, false, List, [], ◌∷◌, Result, Ok, Err, cond, nat_le}
use Rattle.std.specs.List.{count_by}
use Rattle.ir_trees.specs.declared.ir.heads.Head.{Head}
use Rattle.ir_trees.specs.declared.ir.heads.Head.TheVariants as H
use Rattle.ir_trees.specs.declared.ir.heads.Builtin.TheVariants as B
use Rattle.ir_trees.specs.declared.ir.heads.PartHead.TheVariants as P
use Rattle.ir_trees.specs.declared.ir.kinds.TyKind.{TyKind}
use Rattle.ir_trees.specs.declared.ir.kinds.TyKind.TheVariants as K
use Rattle.ir_trees.specs.declared.ir.kinds.RegionKind.TheVariants as R
use Rattle.ir_trees.specs.Syntax.Trees.{Forest, none, tree, Tree}
use Rattle.ir_trees.specs.Syntax.Nodes.{tree_at}
use Rattle.ir_trees.specs.Syntax.Words.{vars_tree}
use Rattle.assembly_notation.specs.Lines.{is_space}
use Rattle.assembly_notation.specs.declared.counting.Uncounted.{Uncounted}
use Rattle.assembly_notation.specs.declared.counting.Uncounted.TheVariants.{TooMany, NodesFull}

abbrev pub is_static : Head → Bool
is_static (H.Region R.Static) = true
is_static _ = false

-- The first of the trees is the static region.
abbrev pub begins_static : Forest → Bool
begins_static none = false
begins_static (tree h below rest) = is_static h

-- A region behind `&` has a word, but for the static one.
abbrev pub region_words : Tree → ℕ
region_words t = cond (is_static t.head) 0 1

-- `unsafe` and `extern`, which may stand before `fn(N)`
abbrev pub qualifier_words : Bool → Bool → ℕ
qualifier_words safe rust_abi = cond safe 0 1 + cond rust_abi 0 1

-- `for(K)`, if any variable is bound
abbrev pub binder_words : Forest → ℕ
binder_words none = 0
binder_words _ = 1

-- The words that are spelled for a head alone. Those for an array and a `dyn` type are counted at the length and at the region below
-- them, which have no other word. Nor has a static region behind `&`, which is counted there.
abbrev pub head_words : Head → Forest → ℕ
head_words (H.Ref _) below = cond (begins_static below) 0 1
head_words (H.Builtin (B.FnPtr s)) below = 1 + qualifier_words s.safe s.rust_abi
head_words (H.Builtin B.Array) below = 0
head_words H.Dynamic below = 0
head_words (H.List _) below = 0
head_words (H.Part P.Vars) below = binder_words below
head_words _ below = 1

-- What stands below it isn't spelled.
abbrev pub is_closed : Head → Bool
is_closed (H.Builtin (B.Pat _)) = true
is_closed (H.Builtin B.UnsafeBinder) = true
is_closed (H.FnDef _) = true
is_closed (H.Closure _ _) = true
is_closed (H.Const _) = true
is_closed (H.Region _) = true
is_closed (H.Infer _) = true
is_closed (H.Part P.Vars) = true
is_closed _ = false

-- the words of a head, and those of what stands below it
abbrev pub words_over : Head → Forest → ℕ → ℕ
words_over h below n = head_words h below + cond (is_closed h) 0 n

-- How many words trees are spelled in, and one.
abbrev pub words : Forest → ℕ
words none = 0
words (tree h below rest) = words_over h below (words below) + words rest

abbrev pub tree_words : Tree → ℕ
tree_words t = words_over t.head t.children (words t.children)

abbrev pub words_at : List Tree → ℕ → ℕ
words_at ts n = tree_words (tree_at ts n)

-- That number, if it is no more than 65,535.
abbrev pub IsCount : ℕ → Result ℕ Uncounted → Type 0
IsCount n (Ok m) = m ≡ n
IsCount n (Err TooMany) = 65535 < n
IsCount n (Err NodesFull) = Unit {0}

-- Beside each number stands how many words its tree is spelled in.
abbrev pub AreCounted : List Tree → List (ℕ × ℕ) → Type 0
AreCounted ts [] = Unit {0}
AreCounted ts (e ∷ es) = (e.1 ≡ words_at ts e.0) × AreCounted ts es

-- how many spaces a text has: one between two words
abbrev pub spaces : List ℕ → ℕ
spaces text = count_by is_space text

-- So many spaces are added, among other bytes.
abbrev pub AddsSpaces : ℕ → List ℕ → List ℕ → Type 0
AddsSpaces n old new = (more : List ℕ) × (new ≡ old ++ more) × (spaces more ≡ n)

-- So many words are added.
abbrev pub AddsWords : ℕ → List ℕ → List ℕ → Type 0
AddsWords n old new = (more : List ℕ) × (new ≡ old ++ more) × (spaces more + 1 ≡ n)

-- The first words of a type are added, four at most, and ` ..`.
abbrev pub AddsFirstWords : List ℕ → List ℕ → Type 0
AddsFirstWords old new = (first : List ℕ) × (new ≡ old ++ (first ++ (32 ∷ 46 ∷ 46 ∷ []))) × (spaces first < 4)

-- How many spaces stand among the words with which a type of the kind begins: these are one, but for those of a function pointer.
abbrev pub first_spaces : List Tree → TyKind → ℕ
first_spaces ts (K.FnPtr s) = binder_words (vars_tree ts s.vars).children + qualifier_words s.value.safe s.value.rust_abi
first_spaces ts _ = 0

-- All words of a type are added, or the first ones alone.
abbrev pub AddsAll : Bool → ℕ → List ℕ → List ℕ → Type 0
AddsAll true n old new = AddsWords n old new
AddsAll false n old new = AddsFirstWords old new

-- What is printed of a type is all of its words, if they are no more than 65,535.
abbrev pub has_few_words : Tree → Bool
has_few_words t = nat_le (tree_words t) 65535

abbrev pub AddsType : Tree → List ℕ → List ℕ → Type 0
AddsType t old new = AddsAll (has_few_words t) (tree_words t) old new

-- Each of the trees is printed so after a space.
abbrev pub AddsEach : Forest → List ℕ → List ℕ → Type 0
AddsEach none old new = new ≡ old
AddsEach (tree h below rest) old new =
    (mid : List ℕ) × AddsType (record { head = h; children = below }) (old ++ 32 ∷ []) mid × AddsEach rest mid new

-- A word, and then each of the trees.
abbrev pub AddsNamed : Forest → List ℕ → List ℕ → Type 0
AddsNamed ts old new = (mid : List ℕ) × AddsWords 1 old mid × AddsEach ts mid new
