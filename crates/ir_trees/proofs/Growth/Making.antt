-- What the table of a context adds, the context makes.
use Rattle.std.proofs.Common.{◌≡◌, ℕ, List, refl, sym, ◌∙◌, ap, subst, Result, Ok, Err}
use Rattle.std.specs.Prelude.{IfErr}
use Rattle.ir_trees.specs.declared.ir.stop.Stop.{Stop}
use Rattle.ir_trees.specs.Syntax.Trees.{Tree}
use Rattle.ir_trees.specs.Declarations.Context.{Context}
use Rattle.ir_trees.specs.Syntax.Making.{Making, Adds, Makes, numbered}
use Rattle.ir_trees.proofs.Growth.Kept.{faults-same}

unchanged : {N : Type 0} (v : Context) (ts : List Tree) (r : Result N Stop) → IfErr r (λ _. ts ≡ v.trees)
    → IfErr r (λ _. let x : Context = record v { trees = ts } in x ≡ v)
unchanged v ts (Ok n) e = tt
unchanged v ts (Err s) e = ap (λ (us : List Tree). let x : Context = record v { trees = us } in x) e

pub added-made : {N T : Type 0} (m : Making N T) (old v : Context) (ts : List Tree) (r : Result N Stop) → v ≡ old
    → Adds m v.trees ts r → Makes m old (record v { trees = ts }) r
added-made m old v ts r e a =
    subst (λ (x : Context). Makes m x (record v { trees = ts }) r) e
    (record {
      kept = record { same = refl; kept = a.kept; faults = faults-same v (record v { trees = ts }) refl };
      faults = refl;
      sort = a.sort;
      tree = a.tree;
      unchanged = unchanged v ts r a.unchanged;
      cause = a.cause;
    })

-- What was made as a number alone, or wasn't, was as a typed one.
pub made-number : {N T : Type 0} (of : ℕ → N) (m : Making N T) (old new : Context) (n : ℕ) → Makes (numbered of m) old new (Ok n) → Makes m old new (Ok (of n))
made-number of m old new n a = record { kept = a.kept; faults = a.faults; sort = a.sort; tree = a.tree; unchanged = tt; cause = tt }

pub made-nothing : {N T : Type 0} (of : ℕ → N) (m : Making N T) (old new : Context) (s : Stop) → Makes (numbered of m) old new (Err s) → Makes m old new (Err s)
made-nothing of m old new s a = record { kept = a.kept; faults = a.faults; sort = tt; tree = tt; unchanged = a.unchanged; cause = a.cause }

-- The same the other way, of a table.
pub added-number : {N T : Type 0} (number : N → ℕ) (of : ℕ → N) (m : Making N T) (old new : List Tree) (x : N) → of (number x) ≡ x
    → Adds m old new (Ok x) → Adds (numbered of m) old new (Ok (number x))
added-number number of m old new x e a = record {
  kept = a.kept;
  fit = a.fit;
  sort = subst (m.is new) (sym e) a.sort;
  tree = ap (m.seen new) e ∙ a.tree;
  unchanged = tt;
  cause = tt;
}

pub added-nothing : {N T : Type 0} (of : ℕ → N) (m : Making N T) (old new : List Tree) (s : Stop) → Adds m old new (Err s) → Adds (numbered of m) old new (Err s)
added-nothing of m old new s a = record { kept = a.kept; fit = a.fit; sort = tt; tree = tt; unchanged = a.unchanged; cause = a.cause }
