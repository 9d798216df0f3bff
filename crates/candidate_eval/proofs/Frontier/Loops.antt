-- The loop over a list of arguments, in contexts that grow.
use Rattle.std.proofs.Common.{◌≡◌, ◌+◌, ◌<◌, ℕ, true, false, List, length, get_or, Result, Err, sym, ◌∙◌, ap, subst, arith}
use Rattle.ir_trees.specs.declared.ir.kinds.Ty.{Ty}
use Rattle.ir_trees.specs.declared.ir.kinds.Args.{Args}
use Rattle.ir_trees.specs.declared.ir.kinds.GenericArg.{GenericArg}
use Rattle.ir_trees.specs.declared.ir.kinds.GenericArg.TheVariants as A
use Rattle.ir_trees.specs.Declarations.Context.{Context, Grows}
use Rattle.ir_trees.specs.Syntax.Kinds.{arg_number}
use Rattle.ir_trees.specs.Syntax.Nodes.{tree_at}
use Rattle.ir_trees.specs.Syntax.Trees.{Forest, Tree, count, tree, skip}
use Rattle.ir_trees.specs.Syntax.Words.{IsArgs, ListFits, list_forest, args_forest, ty_tree}
use Rattle.ir_trees.proofs.Growth.Kept.{args-kept}
use Rattle.ir_trees.proofs.Syntax.Members.{count-members}
use Rattle.candidate_eval.specs.declared.coherence.walk.EarlyExit.{EarlyExit}
use Rattle.candidate_eval.specs.declared.coherence.walk.Walk.{Walk}
use Rattle.candidate_eval.specs.Knowability.Normalizer.{Untold}
use Rattle.candidate_eval.specs.Knowability.Orphan.{View}
use Rattle.candidate_eval.specs.Calls.Walk.{Setting, setting, classes, type_steps, list_steps, still, AreTypes, exit_class, Passed, Outcome, SameWalk}
use Rattle.candidate_eval.proofs.Frontier.Lists.{Sofar, sofar-skip, sofar-visit, sofar-found, member-at, type-at, no-type-at}
use Rattle.candidate_eval.proofs.Frontier.Walking.{setting-kept, types-kept, entries-kept}

-- an index is below the length of the list in every later context
pub index-below : (c0 c1 : Context) (a : Args) (xs : List GenericArg) (i n : ℕ) → Grows c0 c1 → IsArgs c0.trees a
    → ListFits c1.trees xs → list_forest c1.trees xs ≡ args_forest c1.trees a → n ≡ count (args_forest c0.trees a) → i < n → i < length xs
index-below c0 c1 a xs i n g s l f e h =
    let k : count (list_forest c1.trees xs) ≡ count (args_forest c0.trees a) = ap count (f ∙ (args-kept c0 c1 a g s).1) in
    omega (arith, k, count-members c1.trees xs l)

module _ {S E : Type 0} (see : View S E) (n : ℕ) (c0 c1 : Context) (g : Grows c0 c1) (a : Args) (s : IsArgs c0.trees a)
    (xs : List GenericArg) (i : ℕ) (d : GenericArg) (fits : ListFits c1.trees xs) (list : list_forest c1.trees xs ≡ args_forest c1.trees a) (below : i < length xs)
    (old now : Walk) (same : SameWalk old now) (start here : S) where
  all : Forest
  all = args_forest c0.trees a

  place : setting c1 now.in_crate ≡ setting c0 old.in_crate
  place = ap (setting c1) same.in_crate ∙ setting-kept c0 c1 old.in_crate g

  whole : list_forest c1.trees xs ≡ args_forest c0.trees a
  whole = list ∙ (args-kept c0 c1 a g s).1

  -- a region or a constant
  pub next-skip : ((u : Ty) → get_or xs i d ≡ A.Ty u → ⊥)
      → Sofar (setting c0 old.in_crate) see n c1.trees old now start here (args_forest c0.trees a) (skip i (args_forest c0.trees a))
      → Sofar (setting c0 old.in_crate) see n c1.trees old now start here (args_forest c0.trees a) (skip (i + 1) (args_forest c0.trees a))
  next-skip never so =
      sofar-skip (setting c0 old.in_crate) see n c1.trees old now start here (args_forest c0.trees a) (skip i (args_forest c0.trees a)) (skip (i + 1) (args_forest c0.trees a))
      (tree_at c1.trees (arg_number (get_or xs i d))) (member-at c1.trees xs i d (args_forest c0.trees a) whole fits below) (no-type-at c1.trees xs i d fits below never) so

  type-here : (u : Ty) → get_or xs i d ≡ A.Ty u
      → skip i (args_forest c0.trees a) ≡ tree (ty_tree c1.trees u).head (ty_tree c1.trees u).children (skip (i + 1) (args_forest c0.trees a))
  type-here u e =
      member-at c1.trees xs i d (args_forest c0.trees a) whole fits below
      ∙ ap (λ (t : Tree). tree t.head t.children (skip (i + 1) (args_forest c0.trees a))) (type-at c1.trees xs i d u fits below e).1

  -- a type that was visited
  pub next-visit : (u : Ty) → get_or xs i d ≡ A.Ty u → (c2 : Context) → Grows c1 c2 → (next : Walk) (after : S)
      → AreTypes c0.trees old.non_local.items → AreTypes c1.trees now.non_local.items → next.is_first ≡ false
      → still true (type_steps (setting c1 now.in_crate) see n here (ty_tree c1.trees u)) ≡ false
      → Passed c2.trees (classes (setting c1 now.in_crate)) now next here after (type_steps (setting c1 now.in_crate) see n here (ty_tree c1.trees u))
      → Sofar (setting c0 old.in_crate) see n c1.trees old now start here (args_forest c0.trees a) (skip i (args_forest c0.trees a))
      → Sofar (setting c0 old.in_crate) see n c2.trees old next start after (args_forest c0.trees a) (skip (i + 1) (args_forest c0.trees a))
  next-visit u e c2 h next after t0 t1 first some passed so =
      let p = setting c0 old.in_crate in
      let P : Setting → Type 0 = λ q. still true (type_steps q see n here (ty_tree c1.trees u)) ≡ false in
      let Q : Setting → Type 0 = λ q. Passed c2.trees (classes q) now next here after (type_steps q see n here (ty_tree c1.trees u)) in
      sofar-visit p see n c1.trees c2.trees old now next start here after (args_forest c0.trees a) (skip i (args_forest c0.trees a)) (skip (i + 1) (args_forest c0.trees a))
      (ty_tree c1.trees u) (type-here u e) (type-at c1.trees xs i d u fits below e).2
      (entries-kept c1 c2 old.non_local.items h (types-kept c0 c1 old.non_local.items g t0)) (entries-kept c1 c2 now.non_local.items h t1)
      same.seeks_local first (subst P place some) (subst Q place passed) so

  -- a type that broke the walk off
  pub next-found : (u : Ty) → get_or xs i d ≡ A.Ty u → (ts : List Tree) (next : Walk) (after : S) (x y : EarlyExit E) (r : Result (Unit {0}) (EarlyExit E)) → r ≡ Err y → y ≡ x
      → (untold : Untold) → Outcome untold ts (classes (setting c1 now.in_crate)) now next here after (type_steps (setting c1 now.in_crate) see n here (ty_tree c1.trees u)) (Err x)
      → Sofar (setting c0 old.in_crate) see n c1.trees old now start here (args_forest c0.trees a) (skip i (args_forest c0.trees a))
      → Outcome untold ts (classes (setting c0 old.in_crate)) old next start after (list_steps (setting c0 old.in_crate) see n start (args_forest c0.trees a)) r
  next-found u e ts next after x y r j k untold o so =
      let p = setting c0 old.in_crate in
      let P : Setting → Type 0 = λ q. Outcome untold ts (classes q) now next here after (type_steps q see n here (ty_tree c1.trees u)) (Err x) in
      let R : Result (Unit {0}) (EarlyExit E) → Type 0 = λ z. Outcome untold ts (classes p) old next start after (list_steps p see n start (args_forest c0.trees a)) z in
      let f = subst P place o in
      subst R (sym (j ∙ ap Err k)) (λ ne.
      sofar-found p see n c1.trees old now start here after (args_forest c0.trees a) (skip i (args_forest c0.trees a)) (skip (i + 1) (args_forest c0.trees a))
      (ty_tree c1.trees u) (exit_class ts x) (type-here u e) (type-at c1.trees xs i d u fits below e).2 same.seeks_local (f ne) so)
