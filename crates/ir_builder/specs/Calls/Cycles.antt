-- The search for a trait that is its own supertrait: it goes from trait to direct supertrait, as deep as it can first.
use Rattle.std.specs.Prelude.{◌≡◌, ℕ, suc, ◌+◌, ◌-◌, ◌<◌, ◌≤◌, Bool, true, false, ◌⊎◌, List, [], ◌∷◌, length, Option, Some, None, slice_get, slice_set}
use Rattle.std.specs.Bool.{MatchBool}
use Rattle.ir_builder.specs.declared.decl.cycles.Visit.{Visit}
use Rattle.ir_builder.specs.declared.decl.cycles.Visit.TheVariants as V
use Rattle.ir_builder.specs.declared.decl.cycles.Frame.{Frame}
use Rattle.ir_trees.specs.Hierarchy.Supertraits.{Names, IsDirectSupertrait, IsCyclic}

-- What a search has come to: how far it is with each definition, and the traits that it is in, the last first.
pub record Search : Type 0 where
  pub visits : List Visit
  pub frames : List Frame

abbrev pub visit_of : Search → ℕ → Option Visit
visit_of s i = slice_get s.visits i

-- No search has to begin there: it is done, or no definition.
abbrev pub is_past : Option Visit → Bool
is_past None = true
is_past (Some V.Done) = true
is_past _ = false

abbrev pub is_open : Option Visit → Bool
is_open (Some V.Open) = true
is_open _ = false

-- the search with one more frame
abbrev pub framed : Frame → Search → Search
framed f s = record { visits = s.visits; frames = f ∷ s.frames }

-- the search in one more trait, whose super clauses are all to be looked at
abbrev pub opened : ℕ → Search → Search
opened i s = record { visits = slice_set s.visits i V.Open; frames = record { number = i; looked = 0 } ∷ s.frames }

-- the search with one trait done
abbrev pub closed : ℕ → Search → Search
closed i s = record { visits = slice_set s.visits i V.Done; frames = s.frames }

-- A trait that isn't seen is opened.
abbrev pub met_as : ℕ → Search → Option Visit → Search
met_as i s (Some V.Unseen) = opened i s
met_as i s _ = s

abbrev pub met : ℕ → Search → Search
met i s = met_as i s (visit_of s i)

abbrev pub IsIn : ℕ → List Frame → Type 0
IsIn i [] = ⊥
IsIn i (f ∷ fs) = (i ≡ f.number) ⊎ IsIn i fs

abbrev pub LeadsTo : Names → ℕ → Option ℕ → Type 0
LeadsTo names i None = Unit {0}
LeadsTo names i (Some j) = IsDirectSupertrait names i j

-- A trait that the search is in, and the direct supertrait of it that the search is in next, if there is one: what
-- else its super clauses named so far is past.
pub record IsFrame (names : Names) (s : Search) (next : Option ℕ) (f : Frame) : Type 0 where
  pub entered : visit_of s f.number ≡ Some V.Open
  pub leads : LeadsTo names f.number next
  pub before : (k j : ℕ) → k < f.looked → slice_get (names f.number) k ≡ Some (Some j) → (is_past (visit_of s j) ≡ true) ⊎ (next ≡ Some j)

-- The frames are those of a path, on which no trait stands twice.
abbrev pub ArePath : Names → Search → Option ℕ → List Frame → Type 0
ArePath names s next [] = Unit {0}
ArePath names s next (f ∷ fs) = IsFrame names s next f × ((IsIn f.number fs → ⊥) × ArePath names s (Some f.number) fs)

-- What the search knows, where it goes to `next` from its last frame: the open ones are those on its path, and ranks fall from what
-- is done to the direct supertraits, which are past.
pub record Knows (names : Names) (s : Search) (next : Option ℕ) : Type 0 where
  pub path : ArePath names s next s.frames
  pub entered : (i : ℕ) → visit_of s i ≡ Some V.Open → IsIn i s.frames
  pub rank : ℕ → ℕ
  pub highest : ℕ
  pub bounded : (i : ℕ) → rank i ≤ highest
  pub done : (i j : ℕ) → visit_of s i ≡ Some V.Done → IsDirectSupertrait names i j → (is_past (visit_of s j) ≡ true) × (rank j < rank i)

-- How much is left to do: of what isn't seen, to open it, to look at each super clause and to close it.
abbrev pub unseen_work : Visit → List (Option ℕ) → ℕ
unseen_work V.Unseen xs = suc (suc (length xs))
unseen_work _ xs = 0

abbrev pub unseen_left : Names → ℕ → List Visit → ℕ
unseen_left names i [] = 0
unseen_left names i (v ∷ vs) = unseen_work v (names i) + unseen_left names (suc i) vs

abbrev pub frames_left : Names → List Frame → ℕ
frames_left names [] = 0
frames_left names (f ∷ fs) = suc (length (names f.number) - f.looked) + frames_left names fs

abbrev pub left : Names → Search → ℕ
left names s = unseen_left names 0 s.visits + frames_left names s.frames

-- What was seen stays so.
pub record KeepsSeen (s t : Search) : Type 0 where
  pub same : length t.visits ≡ length s.visits
  pub seen : (i : ℕ) → visit_of t i ≡ Some V.Unseen → visit_of s i ≡ Some V.Unseen

-- Less is left to do than before.
pub record IsNearer (names : Names) (s t : Search) : Type 0 where
  pub knows : Knows names t None
  pub less : left names t < left names s
  pub kept : KeepsSeen s t

-- a step of the search, by whether it finds a cycle
abbrev pub Steps : Names → Search → Search → Bool → Type 0
Steps names s t found = MatchBool found (IsCyclic names) (IsNearer names s t)

-- The search is in no trait any more.
pub record HasEnded (names : Names) (s t : Search) : Type 0 where
  pub knows : Knows names t None
  pub ended : t.frames ≡ []
  pub kept : KeepsSeen s t

abbrev pub Ends : Names → Search → Search → Bool → Type 0
Ends names s t found = MatchBool found (IsCyclic names) (HasEnded names s t)
