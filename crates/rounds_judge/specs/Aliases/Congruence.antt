-- Equality of rows of trees modulo pairs of trees, as the listed ones. Regions count for nothing.
use Rattle.std.specs.Prelude.{◌≡◌, true, false}
use Rattle.std.specs.List.{Contains}
use Rattle.ir_trees.specs.declared.ir.heads.Head.{Head}
use Rattle.ir_trees.specs.declared.ir.heads.Flag.TheVariants as F
use Rattle.ir_trees.specs.Syntax.Flags.{mark}
use Rattle.ir_trees.specs.Syntax.Trees.{Forest, tree, Tree, holds}
use Rattle.ir_trees.specs.Unification.Substitutions.{alone}
use Rattle.candidate_eval.specs.Judges.Soundness.{is_region}
use Rattle.rounds_judge.specs.Aliases.Listed.{Listing}

-- The least equality, closed under heads, in which the sides of each of these pairs are equal, and any two regions are.
pub data SameBy (P : Tree → Tree → Type 0) : Forest → Forest → Type 0 where
  same : (ts : Forest) → SameBy P ts ts
  heads : (h : Head) {a b r s : Forest} → SameBy P a b → SameBy P r s → SameBy P (tree h a r) (tree h b s)
  regions : (g h : Head) (a b : Forest) {r s : Forest} → is_region g ≡ true → is_region h ≡ true → SameBy P r s → SameBy P (tree g a r) (tree h b s)
  pair : (t u : Tree) {r s : Forest} → P t u → SameBy P r s → SameBy P (tree t.head t.children r) (tree u.head u.children s)
  back : {a b : Forest} → SameBy P a b → SameBy P b a
  along : {a b c : Forest} → SameBy P a b → SameBy P b c → SameBy P a c

-- The listed pairs. They hold no variables, so they are their only instances. A pair with an error counts for nothing: an error fulfils each
-- trait, so a type that is equal to an alias of one would fulfil each trait, too.
pub record AreListed (l : Listing) (t u : Tree) : Type 0 where
  pub is_among : Contains l.pairs (t, u)
  pub alias_has_no_error : holds (mark F.Error) (alone t) ≡ false
  pub type_has_no_error : holds (mark F.Error) (alone u) ≡ false

abbrev pub Same : Listing → Forest → Forest → Type 0
Same l = SameBy (AreListed l)

abbrev pub SameTree : Listing → Tree → Tree → Type 0
SameTree l t u = Same l (alone t) (alone u)
