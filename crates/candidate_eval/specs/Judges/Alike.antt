-- States that differ only in what nothing mentions, and what a judge answers at them.
use Rattle.std.specs.Prelude.{◌≡◌, ℕ, false, Option, Some, None, List, [], length, slice_get}
use Rattle.ir_trees.specs.Syntax.Trees.{Forest, Tree}
use Rattle.ir_trees.specs.Unification.Substitutions.{alone}
use Rattle.ir_trees.specs.Declarations.Worlds.{kinds_of}
use Rattle.candidate_eval.specs.Judges.States.{Env, State, VariableInfo, Judge, with_pending}
use Rattle.candidate_eval.specs.Derivations.Rules.{Step, Ending}
use Rattle.candidate_eval.specs.Derivations.Judging.{Place, Normal, normal_at, is_at, run, comes_to}
use Rattle.candidate_eval.specs.Derivations.Mentions.{IsBelow, StepsBelow, EndingBelow}

abbrev pub info : State → ℕ → Option VariableInfo
info S n = slice_get S.variables n

-- The second state has the variables of the first as they are. It may have others, none of them a root.
pub record LooksAlike (S T : State) : Type 0 where
  pub newest_universe : T.newest_universe ≡ S.newest_universe
  pub regions : T.regions ≡ S.regions
  pub pending : T.pending ≡ S.pending
  pub mode : T.mode ≡ S.mode
  pub kept : (n : ℕ) (i : VariableInfo) → info S n ≡ Some i → info T n ≡ Some i
  pub no_root : (n : ℕ) (i : VariableInfo) → info S n ≡ None → info T n ≡ Some i → i.is_root ≡ false

-- Both are refused; or both are there with one head, with children of the same kinds, at places that are related.
pub data BothNormal (R : Place → Place → Type 0) : Option Normal → Option Normal → Type 0 where
  refused : BothNormal R None None
  normal : {m n : Normal} → n.head ≡ m.head → kinds_of n.place.locals ≡ kinds_of m.place.locals → R m.place n.place → BothNormal R (Some m) (Some n)

abbrev pub AlikeIn : Judge → ℕ → Place → Place → Type 0
AlikeIn J n p q = J.alike_in n p.state p.locals q.state q.locals

-- The judge answers the same at states that are alike.
pub record JudgesAlike (J : Judge) : Type 0 where
  -- a state is alike itself, and so on along states
  pub alike_same : (S : State) → J.alike S S
  pub alike_along : (S T U : State) → J.alike S T → J.alike T U → J.alike S U
  -- so are states that are alike, with what is pending set aside in both
  pub alike_aside : (S T : State) → J.alike S T → J.alike (with_pending S []) (with_pending T [])
  -- states that are alike differ only in variables that nothing mentions
  pub alike_looks : (S T : State) → J.alike S T → LooksAlike S T
  -- at both, trees of the first stand at places that are alike in its variables
  pub alike_places : (S T : State) (ls : Forest) → J.alike S T → IsBelow (length S.variables) ls → J.alike_in (length S.variables) S ls T ls
  -- at places that are alike in the first n variables, steps that mention no others come to the same
  pub same_answers : (n : ℕ) (p q : Place) (e : Env) (steps : List Step) (end : Ending) → AlikeIn J n p q → IsBelow n e → StepsBelow n steps → EndingBelow n end
      → comes_to J e q steps end ≡ comes_to J e p steps end
  -- they are refused alike, whatever is asked for in the end
  pub same_refusals : (n : ℕ) (p q : Place) (e : Env) (steps : List Step) → AlikeIn J n p q → IsBelow n e → StepsBelow n steps
      → is_at (run J e q steps) ≡ is_at (run J e p steps)
  -- normal forms have one head, and children that are alike again
  pub same_normal_forms : (n : ℕ) (p q : Place) (e : Env) (t : Tree) → AlikeIn J n p q → IsBelow n e → IsBelow n (alone t)
      → BothNormal (AlikeIn J n) (normal_at J e p t) (normal_at J e q t)
