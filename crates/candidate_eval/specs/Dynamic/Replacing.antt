-- Projections of an object's own type in what it has to fulfil, and the terms that its bounds give in their place.
use Rattle.std.specs.Prelude.{◌≡◌, ℕ, Bool, true, false, ◌&&◌, Option, Some, None, List, [], ◌∷◌, ◌++◌, map}
use Rattle.std.specs.List.{list_any}
use Rattle.ir_trees.specs.declared.ir.heads.Head.{Head}
use Rattle.ir_trees.specs.declared.ir.heads.Head.TheVariants as H
use Rattle.ir_trees.specs.declared.ir.kinds.AliasKind.TheVariants as A
use Rattle.ir_trees.specs.declared.ir.kinds.AliasTerm.{AliasTerm}
use Rattle.ir_trees.specs.declared.ir.kinds.Clause.{Clause}
use Rattle.ir_trees.specs.Hierarchy.Elaboration.{same_tree}
use Rattle.ir_trees.specs.Instantiation.Folds.{node}
use Rattle.ir_trees.specs.Syntax.Trees.{Forest, none, tree, Tree}
use Rattle.ir_trees.specs.Syntax.Words.{IsArgs, clause_tree, ty_tree}
use Rattle.ir_trees.specs.declared.ir.kinds.Ty.{Ty}
use Rattle.ir_trees.specs.declared.ir.kinds.AliasTy.{AliasTy}
use Rattle.ir_trees.specs.declared.ir.kinds.TyKind.{TyKind}
use Rattle.ir_trees.specs.declared.ir.kinds.TyKind.TheVariants as K
use Rattle.candidate_eval.specs.Dynamic.Objects.{Projection, is_about, projection_at, IsPicked, IsAmbiguous}
use Rattle.candidate_eval.specs.Judges.States.{Env, State, Judge}

-- The projection that a node is, where it is of the object's own type and one of the bounds is about its associated type.

-- whether the first of the trees is that one
abbrev pub starts_with : Tree → Forest → Bool
starts_with t none = false
starts_with t (tree h below rest) = same_tree (node h below) t

abbrev pub any_is_about : ℕ → List Tree → Bool
any_is_about i bounds = list_any (λ c. is_about i c.head) bounds

-- the associated type that a node is a projection of
abbrev pub item_of : Head → Option ℕ
item_of (H.Alias A.Projection i) = Some i.0
item_of _ = None

abbrev pub projection_if : Bool → ℕ → Forest → Option Projection
projection_if false i args = None
projection_if true i args = Some (record { item = i; arguments = args })

abbrev pub own_item : Tree → List Tree → Forest → Option ℕ → Option Projection
own_item object bounds args None = None
own_item object bounds args (Some i) = projection_if (starts_with object args && any_is_about i bounds) i args

abbrev pub own_projection : Tree → List Tree → Head → Forest → Option Projection
own_projection object bounds h args = own_item object bounds args (item_of h)

-- which projection a node is, if it is one
abbrev pub Finds : Type 0
Finds = Head → Forest → Option Projection

-- The projections in a row of trees, from the top and from the left; nothing is looked for inside one.

abbrev pub found_or : Option Projection → List Projection → List Projection
found_or None below = below
found_or (Some p) below = p ∷ []

abbrev pub projections : Finds → Forest → List Projection
projections f none = []
projections f (tree h below rest) = found_or (f h below) (projections f below) ++ projections f rest

-- The trees with a term in the place of each of these projections, in their order, and the terms that are left.

pub record Filled : Type 0 where
  pub trees : Forest
  pub left : List Tree

abbrev pub first_or : Tree → List Tree → Tree
first_or t [] = t
first_or t (u ∷ us) = u

abbrev pub without_first : {X : Type 0} → List X → List X
without_first [] = []
without_first (u ∷ us) = us

abbrev pub then_filled : Tree → Filled → Filled
then_filled t rest = record { trees = tree t.head t.children rest.trees; left = rest.left }

-- What comes of a row that begins with the tree: of what is below it with these terms, and of the rest with what is then left.
abbrev pub filled_from : Option Projection → Tree → Filled → List Tree → (List Tree → Filled) → Filled
filled_from None t below us rest = then_filled (node t.head below.trees) (rest below.left)
filled_from (Some p) t below us rest = then_filled (first_or t us) (rest (without_first us))

abbrev pub filled : Finds → Forest → List Tree → Filled
filled f none us = record { trees = none; left = us }
filled f (tree h below rest) us = filled_from (f h below) (node h below) (filled f below us) us (filled f rest)

-- what stands for one node, and the terms that are left then
abbrev pub answered : Option Projection → Tree → List Tree → Option Tree
answered None t us = None
answered (Some p) t us = Some (first_or t us)

abbrev pub left_by : {X : Type 0} → Option Projection → List X → List X
left_by None us = us
left_by (Some p) us = without_first us

-- a clause is no projection itself
abbrev pub filled_clause : Finds → List Tree → Tree → Tree
filled_clause f us c = node c.head (filled f c.children us).trees

-- The bounds give a term for each of some projections, one after the other: from that state on, which terms, and the state then.
pub data Picks (J : Judge) (e : Env) (bounds : List Tree) : State → List Projection → List Tree → State → Type 0 where
  none_left : {S : State} → Picks J e bounds S [] [] S
  one : {S T U : State} {p : Projection} {ps : List Projection} {u : Tree} {us : List Tree} → IsPicked J e p S bounds u T → Picks J e bounds T ps us U → Picks J e bounds S (p ∷ ps) (u ∷ us) U

-- For one of them too little is known, after those before it; the state then.
pub record IsStuck (J : Judge) (e : Env) (bounds : List Tree) (S : State) (ps : List Projection) (T : State) : Type 0 where
  pub before : List Projection
  pub terms : List Tree
  pub last : State
  pub projection : Projection
  pub after : List Projection
  pub are : ps ≡ before ++ projection ∷ after
  pub picked : Picks J e bounds S before terms last
  pub ambiguous : IsAmbiguous J e projection last bounds T

-- One clause, with the terms in it, and the state then.
pub record IsReplaced (J : Judge) (e : Env) (object : Tree) (bounds : List Tree) (S : State) (c d : Tree) (T : State) : Type 0 where
  pub terms : List Tree
  pub picked : Picks J e bounds S (projections (own_projection object bounds) c.children) terms T
  pub is : d ≡ filled_clause (own_projection object bounds) terms c

-- Clauses, one after the other.
pub data AreReplaced (J : Judge) (e : Env) (object : Tree) (bounds : List Tree) : State → List Tree → List Tree → State → Type 0 where
  none_left : {S : State} → AreReplaced J e object bounds S [] [] S
  one : {S T U : State} {c d : Tree} {cs ds : List Tree} → IsReplaced J e object bounds S c d T → AreReplaced J e object bounds T cs ds U → AreReplaced J e object bounds S (c ∷ cs) (d ∷ ds) U

-- In one of them too little is known, after those before it; the state then.
pub record AreStuck (J : Judge) (e : Env) (object : Tree) (bounds : List Tree) (S : State) (cs : List Tree) (T : State) : Type 0 where
  pub before : List Tree
  pub replaced : List Tree
  pub last : State
  pub clause : Tree
  pub after : List Tree
  pub are : cs ≡ before ++ clause ∷ after
  pub first : AreReplaced J e object bounds S before replaced last
  pub stuck : IsStuck J e bounds last (projections (own_projection object bounds) clause.children) T

-- Projections by their numbers.

abbrev pub AreProjections : List Tree → List AliasTerm → Type 0
AreProjections ts [] = Unit {0}
AreProjections ts (p ∷ ps) = IsArgs ts p.args × AreProjections ts ps

abbrev pub projections_at : List Tree → List AliasTerm → List Projection
projections_at ts ps = map (projection_at ts) ps

abbrev pub clauses_at : List Tree → List Clause → List Tree
clauses_at ts cs = map (clause_tree ts) cs

abbrev pub types_at : List Tree → List Ty → List Tree
types_at ts us = map (ty_tree ts) us

-- the alias that a type is
abbrev pub alias_in : TyKind → Option AliasTy
alias_in (K.Alias a) = Some a
alias_in _ = None

-- which projections of the object's own are found
abbrev pub finds_own : List Tree → Ty → List Clause → Finds
finds_own ts object bounds = own_projection (ty_tree ts object) (clauses_at ts bounds)

-- the projection of the object's own that a tree is
abbrev pub own_at : List Tree → Ty → List Clause → Tree → Option Projection
own_at ts object bounds t = finds_own ts object bounds t.head t.children

-- those in a clause
abbrev pub own_projections_in : List Tree → Ty → List Clause → Clause → List Projection
own_projections_in ts object bounds c = projections (finds_own ts object bounds) (clause_tree ts c).children
