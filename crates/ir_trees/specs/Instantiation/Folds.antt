-- Folds by a closure: which trees come of which calls, and why a fold stopped.
use Rattle.std.specs.Prelude.{◌≡◌, ◌⊎◌, ℕ, ◌+◌, ◌<◌, ◌^◌, Bool, true, false, ◌&&◌, Option, Some, None, List, length, Result, Ok, Err, IfOk, IfErr, option_map}
use Rattle.std.specs.Fn.{Mut, Called}
use Rattle.std.specs.Borrow.{MutBor}
use Rattle.ir_trees.specs.declared.ir.heads.Head.{Head}
use Rattle.ir_trees.specs.declared.ir.kinds.GenericArg.{GenericArg}
use Rattle.ir_trees.specs.declared.ir.stop.Stop.{Stop}
use Rattle.ir_trees.specs.declared.ir.stop.Stop.TheVariants.{Memory, NodesFull}
use Rattle.ir_trees.specs.Syntax.Trees.{Kind, TypeKind, ConstantKind, RegionKind, Forest, none, tree, Tree, kind_of, join, row, count, heights, binders_of}
use Rattle.ir_trees.specs.Syntax.Kinds.{arg_number, arg_kind, Child, numbers, sorts}
use Rattle.ir_trees.specs.Syntax.Nodes.{tree_at, kind_at, trees_at, kinds_at, rows, is_bound_kind}
use Rattle.ir_trees.specs.Declarations.Context.{Context, Grows}

-- what a fold asks about
abbrev pub is_asked_kind : Kind → Bool
is_asked_kind TypeKind = true
is_asked_kind ConstantKind = true
is_asked_kind RegionKind = true
is_asked_kind _ = false

abbrev pub is_asked : Head → Bool
is_asked h = is_asked_kind (kind_of h)

-- a type, constant or region of a context, and its tree
abbrev pub IsArg : List Tree → GenericArg → Type 0
IsArg ts a = kind_at ts (arg_number a) ≡ arg_kind a

abbrev pub arg_tree : List Tree → GenericArg → Tree
arg_tree ts a = tree_at ts (arg_number a)

abbrev pub node : Head → Forest → Tree
node h below = record { head = h; children = below }

-- From one state, under so many binders, a row of trees becomes another, and a state is left. Each tree is asked about from
-- the top: what is answered stands in its place; without an answer its head stays, and its children follow, under the
-- binders of the head. What is no type, constant or region isn't asked about. In between nodes may be made.
pub data Folds {S : Type 0} (asks : S → ℕ → Tree → Option Tree → S → Type 0) (makes : S → S → Type 0) : S → ℕ → Forest → Forest → S → Type 0 where
  ended : {s : S} {d : ℕ} → Folds asks makes s d none none s
  made : {s m e : S} {d : ℕ} {ts us : Forest} → makes s m → Folds asks makes m d ts us e → Folds asks makes s d ts us e
  replaced : {s m e : S} {d : ℕ} {h g : Head} {below inner rest us : Forest} → is_asked h ≡ true → asks s d (node h below) (Some (node g inner)) m
      → Folds asks makes m d rest us e → Folds asks makes s d (tree h below rest) (tree g inner us) e
  opened : {s m n e : S} {d : ℕ} {h : Head} {below inner rest us : Forest} → is_asked h ≡ true → asks s d (node h below) None m
      → Folds asks makes m (d + binders_of h) below inner n → Folds asks makes n d rest us e → Folds asks makes s d (tree h below rest) (tree h inner us) e
  passed : {s n e : S} {d : ℕ} {h : Head} {below inner rest us : Forest} → is_asked h ≡ false
      → Folds asks makes s (d + binders_of h) below inner n → Folds asks makes n d rest us e → Folds asks makes s d (tree h below rest) (tree h inner us) e

-- a row of bounds of `dyn` types
abbrev pub are_bounds : Forest → Bool
are_bounds none = true
are_bounds (tree h below rest) = is_bound_kind (kind_of h) && are_bounds rest

-- Why such a fold stopped, and which state it left, where so many numbers are given: a growth was refused; the closure stopped;
-- what came of the first trees of a row is higher than 1,024; no number is left; or fewer are left than a list of bounds
-- takes, one for each that came and one more.
module _ {S : Type 0} (asks : S → ℕ → Tree → Option Tree → S → Type 0) (refuses : S → ℕ → Tree → Stop → S → Type 0) (makes leads : S → S → Type 0) (given : S → ℕ) where
  pub data Stops : S → ℕ → Forest → Stop → S → Type 0 where
    memory : {s e : S} {d : ℕ} {ts : Forest} → leads s e → Stops s d ts Memory e
    refused : {s e : S} {d : ℕ} {h : Head} {below rest : Forest} {x : Stop} → is_asked h ≡ true → refuses s d (node h below) x e → Stops s d (tree h below rest) x e
    too_high : {s e : S} {d : ℕ} {ts first made : Forest} (others : Forest) → ts ≡ join first others → Folds asks makes s d first made e → 1024 < heights made
        → Stops s d ts NodesFull e
    full : {s e : S} {d : ℕ} {ts : Forest} → leads s e → given e ≡ 4294967295 → Stops s d ts NodesFull e
    too_few : {s e : S} {d : ℕ} {ts first made : Forest} (others : Forest) → ts ≡ join first others → Folds asks makes s d first made e → are_bounds made ≡ true
        → 4294967295 < given e + (count made + 1) → Stops s d ts NodesFull e
    after : {s m e : S} {d : ℕ} {ts : Forest} {x : Stop} → makes s m → Stops m d ts x e → Stops s d ts x e
    below_asked : {s m e : S} {d : ℕ} {h : Head} {below rest : Forest} {x : Stop} → is_asked h ≡ true → asks s d (node h below) None m
        → Stops m (d + binders_of h) below x e → Stops s d (tree h below rest) x e
    below_passed : {s e : S} {d : ℕ} {h : Head} {below rest : Forest} {x : Stop} → is_asked h ≡ false
        → Stops s (d + binders_of h) below x e → Stops s d (tree h below rest) x e
    later : {s m e : S} {d : ℕ} {h : Head} {below us rest : Forest} {x : Stop} → Folds asks makes s d (tree h below none) us m
        → Stops m d rest x e → Stops s d (tree h below rest) x e

-- an answer is of the kind of what it stands for
abbrev pub IsOfKind : List Tree → GenericArg → Option GenericArg → Type 0
IsOfKind ts x None = Unit {0}
IsOfKind ts x (Some y) = IsArg ts y × (arg_kind y ≡ arg_kind x)

-- how many numbers are given in a state
abbrev pub numbers_given : {M F : Type 0} → (M → Context) → F × M → ℕ
numbers_given context s = length (context s.1).trees

module _ {M Rest F : Type 0} (context : M → Context) (others : M → Rest)
    (g : Mut F (MutBor M × (GenericArg × (ℕ × Unit {0}))) (Result (Option GenericArg) Stop × (MutBor M × Unit {0}))) where
  -- Called in a state, which is the closure and what makes nodes, the closure may say this, and leave that state.
  pub record Says (s : F × M) (x : GenericArg) (d : ℕ) (r : Result (Option GenericArg) Stop) (e : F × M) : Type 0 where
    pub lent : MutBor M
    pub lends : lent.now ≡ s.1
    pub left : MutBor M
    pub called : Called g s.0 (lent, (x, (d, tt))) (r, (left, tt)) e.0
    pub leaves : left.now ≡ e.1

  -- so it answers a tree, or nothing
  pub record Asks (s : F × M) (d : ℕ) (t : Tree) (o : Option Tree) (e : F × M) : Type 0 where
    pub of : GenericArg
    pub is : IsArg (context s.1).trees of
    pub tree : arg_tree (context s.1).trees of ≡ t
    pub answer : Option GenericArg
    pub says : Says s of d (Ok answer) e
    pub grows : Grows (context s.1) (context e.1)
    pub of_kind : IsOfKind (context e.1).trees of answer
    pub seen : option_map (arg_tree (context e.1).trees) answer ≡ o

  -- or stops
  pub record Refuses (s : F × M) (d : ℕ) (t : Tree) (x : Stop) (e : F × M) : Type 0 where
    pub of : GenericArg
    pub is : IsArg (context s.1).trees of
    pub tree : arg_tree (context s.1).trees of ≡ t
    pub says : Says s of d (Err x) e

  -- Nodes are made, and nothing else is changed.
  pub record OnlyMakes (s e : F × M) : Type 0 where
    pub same : e.0 ≡ s.0
    pub grows : Grows (context s.1) (context e.1)
    pub rest : others e.1 ≡ others s.1

  -- The fold by the closure's calls.
  abbrev pub FoldsBy : F × M → ℕ → Forest → Forest → F × M → Type 0
  FoldsBy = Folds Asks OnlyMakes

  -- Calls that are answered, and nodes that are made, lead from one state to another.
  pub data IsReached (s : F × M) : F × M → Type 0 where
    here : IsReached s s
    by_call : {m e : F × M} {d : ℕ} {t : Tree} {o : Option Tree} → IsReached s m → Asks m d t o e → IsReached s e
    by_nodes : {m e : F × M} → IsReached s m → OnlyMakes m e → IsReached s e

  -- The fold stopped, and left the last state.
  abbrev pub StopsBy : F × M → ℕ → Forest → Stop → F × M → Type 0
  StopsBy = Stops Asks Refuses OnlyMakes IsReached (numbers_given context)

  -- From here on the closure may be called at any type, constant or region.
  pub record MayFold (s0 : F × M) : Type 0 where
    pub at : (s : F × M) (x : GenericArg) (d : ℕ) (lent : MutBor M) → lent.now ≡ s.1 → IsReached s0 s → Grows (context s0.1) (context s.1)
        → IsArg (context s.1).trees x → arg_number x < 2 ^ 32 → d < 2 ^ 32 → g.pre s.0 (lent, (x, (d, tt)))

  -- There it keeps the numbers, and answers what is of the kind asked about.
  pub record KeepsKinds (s0 : F × M) : Type 0 where
    pub at : (s : F × M) (x : GenericArg) (d : ℕ) (r : Result (Option GenericArg) Stop) (e : F × M) → IsReached s0 s → Grows (context s0.1) (context s.1)
        → IsArg (context s.1).trees x → arg_number x < 2 ^ 32 → d < 2 ^ 32 → Says s x d r e
        → Grows (context s.1) (context e.1) × IfOk r (λ o. IsOfKind (context e.1).trees x o)

  -- There it keeps all of what makes nodes but the context.
  pub record KeepsRest (s0 : F × M) : Type 0 where
    pub at : (s : F × M) (x : GenericArg) (d : ℕ) (r : Result (Option GenericArg) Stop) (e : F × M) → IsReached s0 s → Grows (context s0.1) (context s.1)
        → IsArg (context s.1).trees x → Says s x d r e → others e.1 ≡ others s.1

  -- From here on it answers what the function says, which answers types, constants and regions alone.
  pub record IsFunction (a : ℕ → Tree → Option Tree) (s0 : F × M) : Type 0 where
    pub at : (s : F × M) (d : ℕ) (t : Tree) (o : Option Tree) (e : F × M) → IsReached s0 s → Asks s d t o e → a d t ≡ o
    pub only : (d : ℕ) (t : Tree) → is_asked t.head ≡ false → a d t ≡ None

  -- A fold of a row came to this, and left that state: the trees of the result come of it, or it has its cause.
  pub record Outcome {A : Type 0} (seen : List Tree → A → Forest) (s : F × M) (d : ℕ) (ts : Forest) (result : Result A Stop) (e : F × M) : Type 0 where
    pub grows : Grows (context s.1) (context e.1)
    pub folded : IfOk result (λ r. FoldsBy s d ts (seen (context e.1).trees r) e)
    pub stopped : IfErr result (λ x. StopsBy s d ts x e)

  -- What was said about one number: an answer of its kind, or nothing; nothing is asked about most kinds.
  abbrev pub IsSaid : F × M → ℕ → ℕ → Option ℕ → F × M → Type 0
  IsSaid s d n None e =
      ((is_asked (tree_at (context s.1).trees n).head ≡ true) × Asks s d (tree_at (context s.1).trees n) None e)
      ⊎ ((is_asked (tree_at (context s.1).trees n).head ≡ false) × (e ≡ s))
  IsSaid s d n (Some k) e =
      (is_asked (tree_at (context s.1).trees n).head ≡ true) × Asks s d (tree_at (context s.1).trees n) (Some (tree_at (context e.1).trees k)) e
      × (kind_at (context e.1).trees k ≡ kind_at (context s.1).trees n)

  pub record Said (s : F × M) (d n : ℕ) (result : Result (Option ℕ) Stop) (e : F × M) : Type 0 where
    pub grows : Grows (context s.1) (context e.1)
    pub said : IfOk result (λ o. IsSaid s d n o e)
    pub stopped : IfErr result (λ x. (is_asked (tree_at (context s.1).trees n).head ≡ true) × Refuses s d (tree_at (context s.1).trees n) x e)

  -- A fold from one number to another of its kind.
  pub record Renumbers (s : F × M) (d n : ℕ) (result : Result ℕ Stop) (e : F × M) : Type 0 where
    pub grows : Grows (context s.1) (context e.1)
    pub sort : IfOk result (λ k. kind_at (context e.1).trees k ≡ kind_at (context s.1).trees n)
    pub folded : IfOk result (λ k. FoldsBy s d (row (tree_at (context s.1).trees n) none) (row (tree_at (context e.1).trees k) none) e)
    pub stopped : IfErr result (λ x. StopsBy s d (row (tree_at (context s.1).trees n) none) x e)

  -- A fold of a list's members, or of a node's children: the numbers that come are of the same kinds.
  pub record Relists {A : Type 0} (listed : A → List ℕ) (s : F × M) (d : ℕ) (cs : List Child) (result : Result A Stop) (e : F × M) : Type 0 where
    pub grows : Grows (context s.1) (context e.1)
    pub sorts_are : IfOk result (λ v. kinds_at (context e.1).trees (listed v) ≡ sorts cs)
    pub folded : IfOk result (λ v. FoldsBy s d (rows (trees_at (context s.1).trees (numbers cs))) (rows (trees_at (context e.1).trees (listed v))) e)
    pub stopped : IfErr result (λ x. StopsBy s d (rows (trees_at (context s.1).trees (numbers cs))) x e)
