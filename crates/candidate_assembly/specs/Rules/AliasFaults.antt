-- The fault that is put off where a chain of aliases ends at one without bounds.
use Rattle.std.specs.Prelude.{◌≡◌, ℕ, suc, true, false, Some, None, List, [], ◌∷◌, ◌++◌, Result, OnOk, OnErr}
use Rattle.ir_trees.specs.declared.decl.contents.AliasBoundKind.{AliasBoundKind}
use Rattle.ir_trees.specs.declared.decl.contents.AliasBoundKind.TheVariants.{SelfBounds, NonSelfBounds}
use Rattle.ir_trees.specs.Declarations.Context.{Context}
use Rattle.ir_trees.specs.Syntax.Trees.{Tree}
use Rattle.candidate_eval.specs.Dynamic.ObjectRequirements.{first_tree}
use Rattle.candidate_eval.specs.Judges.States.{Env, State, Judge}
use Rattle.candidate_assembly.specs.Goals.Kinds.{KindRules, self_type}
use Rattle.candidate_assembly.specs.Rules.AliasBounds.{ChainEnd, Done, Misplaced, end_at, has_bounds, is_opaque, is_projection}

-- Its text, as bytes: "a normal form is an alias without bounds".
abbrev pub misplaced_text : List ℕ
misplaced_text =
    97 ∷ 32 ∷ 110 ∷ 111 ∷ 114 ∷ 109 ∷ 97 ∷ 108 ∷ 32 ∷ 102 ∷ 111 ∷ 114 ∷ 109 ∷ 32 ∷ 105 ∷ 115 ∷ 32 ∷ 97 ∷ 110 ∷ 32
    ∷ 97 ∷ 108 ∷ 105 ∷ 97 ∷ 115 ∷ 32 ∷ 119 ∷ 105 ∷ 116 ∷ 104 ∷ 111 ∷ 117 ∷ 116 ∷ 32 ∷ 98 ∷ 111 ∷ 117 ∷ 110 ∷ 100 ∷ 115 ∷ []

-- What is put off where a chain ends so.
abbrev pub faults_at : ChainEnd → List (List ℕ)
faults_at Misplaced = misplaced_text ∷ []
faults_at _ = []

-- How the chain from a type on ends that isn't stopped, with so many aliases to go. Normal forms are asked for at states alike.
module _ (J : Judge) (e : Env) where
  pub data Ends : ℕ → AliasBoundKind → State → Tree → ChainEnd → Type 0 where
    at_other : {n : ℕ} {b : AliasBoundKind} {S : State} {t : Tree} → has_bounds t.head ≡ false → Ends n b S t (end_at b S t.head)
    at_opaque : {n : ℕ} {b : AliasBoundKind} {S : State} {t : Tree} → is_opaque t.head ≡ true → Ends (suc n) b S t Done
    at_refusal : {n : ℕ} {b : AliasBoundKind} {S : State} {t : Tree} (T : State) → is_projection t.head ≡ true → J.alike S T
        → J.normalized T e (first_tree t.children) ≡ None → Ends (suc n) b S t Done
    beyond : {n : ℕ} {b : AliasBoundKind} {S U : State} {t u : Tree} {end : ChainEnd} (T : State) → is_projection t.head ≡ true → J.alike S T
        → J.normalized T e (first_tree t.children) ≡ Some (u, U) → Ends n NonSelfBounds U u end → Ends (suc n) b S t end

  -- the whole chain, from a type on, at a state alike this one
  pub record EndsFrom (S : State) (t : Tree) (end : ChainEnd) : Type 0 where
    pub at : State
    pub alike : J.alike S at
    pub ends : Ends J.limits.alias_chain SelfBounds at t end

-- The chain of a goal's self type ends so.
abbrev pub ChainEnds : {G : Type 0} → KindRules G → Judge → Context → G → State → ChainEnd → Type 0
ChainEnds K J c g S end = EndsFrom J (K.env_of g) S (self_type K c g) end

-- What is put off by a chain that ends somehow: before it, and after it.
pub record PutsOffSo (EndsSo : ChainEnd → Type 0) (old new : List (List ℕ)) : Type 0 where
  pub end : ChainEnd
  pub ends : EndsSo end
  pub are : new ≡ old ++ faults_at end

-- That, by a call that answers; nothing by one that stops.
pub record PutsOffAtEnd {A S : Type 0} (EndsSo : ChainEnd → Type 0) (result : Result A S) (old new : List (List ℕ)) : Type 0 where
  pub ok : OnOk result (PutsOffSo EndsSo old new)
  pub stopped : OnErr result (new ≡ old)

-- At most the one fault is put off, and only where a chain ends so.
pub data PutsOffOnce (EndsSo : ChainEnd → Type 0) (old new : List (List ℕ)) : Type 0 where
  none : new ≡ old → PutsOffOnce EndsSo old new
  once : EndsSo Misplaced → new ≡ old ++ misplaced_text ∷ [] → PutsOffOnce EndsSo old new

-- A call that walks the chain first, and then stops or answers: where it answers, what the chain's end says.
pub record PutsOffFirst {A S : Type 0} (EndsSo : ChainEnd → Type 0) (result : Result A S) (old new : List (List ℕ)) : Type 0 where
  pub once : PutsOffOnce EndsSo old new
  pub ok : OnOk result (PutsOffSo EndsSo old new)

-- Of what closures put off nothing is said.
abbrev pub PutsOffAny : List (List ℕ) → List (List ℕ) → Type 0
PutsOffAny old new = Unit {0}
