-- Folds by a closure, call by call.
use Rattle.std.proofs.Common.{◌≡◌, ℕ, ◌<◌, ◌^◌, Option, Some, None, Result, Ok, Err, true, refl, sym, ◌∙◌, ap, inl}
use Rattle.std.specs.Prelude.{IfOk}
use Rattle.std.specs.Fn.{Mut, Called}
use Rattle.std.specs.Borrow.{MutBor}
use Rattle.ir_trees.specs.declared.ir.kinds.GenericArg.{GenericArg}
use Rattle.ir_trees.specs.declared.ir.stop.Stop.{Stop}
use Rattle.ir_trees.specs.Syntax.Kinds.{arg_number}
use Rattle.ir_trees.specs.Syntax.Nodes.{tree_at, kind_at}
use Rattle.ir_trees.specs.Declarations.Context.{Context, Grows}
use Rattle.ir_trees.specs.Instantiation.Folds.{here, is_asked, IsArg, arg_tree, IsOfKind, Says, MayFold, KeepsKinds, Said}
use Rattle.ir_trees.proofs.Growth.Kept.{grows-refl}

module _ {M Rest F : Type 0} (context : M → Context) (others : M → Rest)
    (g : Mut F (MutBor M × (GenericArg × (ℕ × Unit {0}))) (Result (Option GenericArg) Stop × (MutBor M × Unit {0}))) where
  pub call_may : (f : F) (lent : MutBor M) (x : GenericArg) (d : ℕ) → MayFold context others g (f, lent.now) → IsArg (context lent.now).trees x
      → arg_number x < 2 ^ 32 → d < 2 ^ 32 → g.pre f (lent, (x, (d, tt)))
  call_may f lent x d may i n b = may.at (f, lent.now) x d lent refl here (grows-refl (context lent.now)) i n b

  pub call-says : (f : F) (lent : MutBor M) (x : GenericArg) (d : ℕ) (r : Result (Option GenericArg) Stop) (left : MutBor M) (f' : F)
      → Called g f (lent, (x, (d, tt))) (r, (left, tt)) f' → Says context others g (f, lent.now) x d r (f', left.now)
  call-says f lent x d r left f' h = record { lent = lent; lends = refl; left = left; called = h; leaves = refl }

  pub call-keeps : (f : F) (lent : MutBor M) (x : GenericArg) (d : ℕ) (r : Result (Option GenericArg) Stop) (left : MutBor M) (f' : F)
      → KeepsKinds context others g (f, lent.now) → IsArg (context lent.now).trees x → arg_number x < 2 ^ 32 → d < 2 ^ 32
      → Called g f (lent, (x, (d, tt))) (r, (left, tt)) f'
      → Grows (context lent.now) (context left.now) × IfOk r (λ o. IsOfKind (context left.now).trees x o)
  call-keeps f lent x d r left f' k i n b h =
      k.at (f, lent.now) x d r (f', left.now) here (grows-refl (context lent.now)) i n b (call-says f lent x d r left f' h)

  -- what one call says of a number
  module _ (s e : F × M) (x : GenericArg) (d n : ℕ) (is_n : arg_number x ≡ n) (i : IsArg (context s.1).trees x)
      (a : is_asked (tree_at (context s.1).trees n).head ≡ true) (grows : Grows (context s.1) (context e.1)) where
    tree-is : arg_tree (context s.1).trees x ≡ tree_at (context s.1).trees n
    tree-is = ap (tree_at (context s.1).trees) is_n

    pub said-some : (y : GenericArg) → Says context others g s x d (Ok (Some y)) e → IsOfKind (context e.1).trees x (Some y)
        → Said context others g s d n (Ok (Some (arg_number y))) e
    said-some y h k = record {
      grows = grows;
      said = (
        a,
        record { of = x; is = i; tree = tree-is; answer = Some y; says = h; grows = grows; of_kind = k; seen = refl },
        k.0 ∙ (k.1 ∙ (sym i ∙ ap (kind_at (context s.1).trees) is_n)),
      );
      stopped = tt;
    }

    pub said-none : Says context others g s x d (Ok None) e → Said context others g s d n (Ok None) e
    said-none h = record {
      grows = grows;
      said = inl (a, record { of = x; is = i; tree = tree-is; answer = None; says = h; grows = grows; of_kind = tt; seen = refl });
      stopped = tt;
    }

    pub said-stop : (z : Stop) → Says context others g s x d (Err z) e → Said context others g s d n (Err z) e
    said-stop z h = record {
      grows = grows;
      said = tt;
      stopped = (a, record { of = x; is = i; tree = tree-is; says = h });
    }
