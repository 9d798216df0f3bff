-- What checks promise of all worlds, and of crates that nobody declared.
use Rattle.std.specs.Prelude.{◌≡◌, ℕ, true, false, Option, Some, List, [], ◌∷◌, Result}
use Rattle.std.specs.Fn.{Mut}
use Rattle.std.specs.Borrow.{MutBor}
use Rattle.ir_trees.specs.declared.ir.kinds.Ty.{Ty}
use Rattle.ir_trees.specs.declared.ir.kinds.TraitRef.{TraitRef}
use Rattle.ir_trees.specs.Declarations.Context.{Context}
use Rattle.ir_trees.specs.Syntax.Words.{args_forest}
use Rattle.ir_trees.specs.Syntax.Trees.{Forest, none, tree, Tree, is_type}
use Rattle.ir_trees.specs.Declarations.Worlds.{IsOf, World, Reference, Extends}
use Rattle.candidate_eval.specs.declared.coherence.NormalizeErr.{NormalizeErr}
use Rattle.ir_trees.specs.Unification.Substitutions.{Universes, Overlap}
use Rattle.candidate_eval.specs.Knowability.Normalizer.{IsPlain}
use Rattle.candidate_eval.specs.Knowability.Orphan.{MayWrite, IsCovered, View, InCrate, Local, Proper, Compat, Remote, Passes, NonLocalInput, UncoveredInput, Entry, orphan_answer, Step, Viewed, is_general, remote_decision, names}

-- Two crates that name nothing of each other write no headers that overlap.
pub record LinkSafety : Type 0 where
  pub apart : (w : World) (c d : ℕ) (a b : Reference) (u v : Universes)
      → (c ≡ d → ⊥)
      → MayWrite w c a → names w a d ≡ false
      → MayWrite w d b → names w b c ≡ false
      → Overlap u v a b → ⊥

-- No header that another crate may write, in any world that extends the declared one, overlaps the local crate's header, where neither names
-- anything of the other's crate.
pub record NoForeignHeader (declared : World) (local : ℕ) (a : Reference) : Type 0 where
  pub apart : (w : World) (d : ℕ) (b : Reference) (u v : Universes)
      → Extends declared w → (local ≡ d → ⊥)
      → names w a d ≡ false → MayWrite w d b → names w b local ≡ false
      → Overlap u v a b → ⊥

-- No header that a crate which the reference doesn't name may write, in any world that extends the declared one, overlaps
-- it.
pub record NoUnnamedHeader (declared : World) (r : Reference) : Type 0 where
  pub apart : (w : World) (c : ℕ) (h : Reference) (u v : Universes)
      → Extends declared w → names w r c ≡ false → MayWrite w c h
      → Overlap u v r h → ⊥

-- No covered header that names nothing of the local crate, in any world that extends the declared one, overlaps the
-- reference, whoever may write it.
pub record NoCoveredHeader (declared : World) (local limit : ℕ) (r : Reference) : Type 0 where
  pub apart : (w : World) (h : Reference) (u v : Universes)
      → Extends declared w → IsCovered w limit h → names w h local ≡ false
      → Overlap u v r h → ⊥

-- A crate of some world that extends the declared one, which the reference doesn't name, and a header that it may write
-- and that overlaps, whatever the universes of variables are.
pub record HasDownstream (declared : World) (r : Reference) : Type 0 where
  pub world : World
  pub crate : ℕ
  pub header : Reference
  pub extends : Extends declared world
  pub of_world : IsOf world header
  pub unnamed : names world r crate ≡ false
  pub written : MayWrite world crate header
  pub overlap : (u v : Universes) → Overlap u v r header

-- A general variable decides the remote check.
pub record IsDecidedByGeneral (w : World) (limit : ℕ) (r : Reference) : Type 0 where
  pub step : Step (Unit {0}) (Unit {0})
  pub variable : Tree
  pub decides : remote_decision w limit r ≡ Some step
  pub shows : step.item ≡ Viewed variable
  pub general : is_general variable.head ≡ true

-- What passes in `Proper` passes in `Compat`, whatever the definitions, the depth limit and the normaliser.
pub record ProperThenCompat (S E : Type 0) : Type 0 where
  pub passes : (w : World) (c limit : ℕ) (see : View S E) (s : S) (a : Forest)
      → (orphan_answer w c (Local Proper) see limit s a).answer ≡ Passes
      → (orphan_answer w c (Local Compat) see limit s a).answer ≡ Passes

-- In `Remote` the local crate doesn't count, and nothing is uncovered.
pub record RemoteLaw (S E : Type 0) : Type 0 where
  pub same : (w : World) (c d limit : ℕ) (see : View S E) (s : S) (a : Forest)
      → orphan_answer w c Remote see limit s a ≡ orphan_answer w d Remote see limit s a
  pub never_uncovered : (w : World) (c limit : ℕ) (see : View S E) (s : S) (a : Forest) (t : Tree) (o : Option Tree)
      → (orphan_answer w c Remote see limit s a).answer ≡ UncoveredInput t o → ⊥

abbrev pub NoneFirst : List Entry → Type 0
NoneFirst [] = Unit {0}
NoneFirst (e ∷ es) = (e.is_first_input ≡ false) × NoneFirst es

-- none of the entries but the first is the first input
abbrev pub OnlyFirst : List Entry → Type 0
OnlyFirst [] = Unit {0}
OnlyFirst (e ∷ es) = NoneFirst es

-- At most one entry, and then the first, is the first input.
pub record FirstInputLaw (S E : Type 0) : Type 0 where
  pub once : (w : World) (c limit : ℕ) (m : InCrate) (see : View S E) (s : S) (a : Forest) (l : List Entry)
      → (orphan_answer w c m see limit s a).answer ≡ NonLocalInput l → OnlyFirst l

-- No type among the trees has a value that stands for it.
abbrev pub AreResolved : (Tree → Tree) → Forest → Type 0
AreResolved resolve none = Unit {0}
AreResolved resolve (tree h below rest) =
    (is_type h ≡ true → resolve (record { head = h; children = below }) ≡ record { head = h; children = below })
    × AreResolved resolve below × AreResolved resolve rest

-- A call with the plain normaliser, and a reference in which nothing has a value.
module _ {C F V E : Type 0} (context : C → Context) (shows : C → V) (resolve : V → Tree → Tree) (g : Mut F (MutBor C × (Ty × Unit {0})) (Result Ty (NormalizeErr E) × (MutBor C × Unit {0}))) where
  pub record IsPlainCall (f : F) (c : C) (r : TraitRef) : Type 0 where
    pub normaliser : IsPlain context g shows resolve f c
    pub resolved : AreResolved (resolve (shows c)) (args_forest (context c).trees r.args)
