-- Folds of rows, one after the other.
use Rattle.std.proofs.Common.{◌≡◌, ℕ, ◌+◌, ◌<◌, List, [], ◌∷◌, ◌++◌, Option, Bool, true, false, refl, sym, ◌∙◌, ap}
use Rattle.ir_trees.specs.declared.ir.stop.Stop.{Stop}
use Rattle.ir_trees.specs.declared.ir.stop.Stop.TheVariants.{NodesFull}
use Rattle.ir_trees.specs.Syntax.Trees.{Forest, none, tree, Tree, join, count, heights, row, put, is_list}
use Rattle.ir_trees.specs.Syntax.Nodes.{rows}
use Rattle.ir_trees.specs.Instantiation.Folds.{Folds, ended, made, replaced, opened, passed, are_bounds, Stops, memory, refused, too_high, full, too_few, after, below_asked, below_passed, later}
use Rattle.ir_trees.proofs.Syntax.Rows.{join-none}

pub join-assoc : (a b c : Forest) → join (join a b) c ≡ join a (join b c)
join-assoc none b c = refl
join-assoc (tree h below rest) b c = ap (tree h below) (join-assoc rest b c)

module _ {S : Type 0} (asks : S → ℕ → Tree → Option Tree → S → Type 0) (makes : S → S → Type 0) where
  pub folds-join : {s m e : S} {d : ℕ} {a us b vs : Forest} → Folds asks makes s d a us m → Folds asks makes m d b vs e → Folds asks makes s d (join a b) (join us vs) e
  folds-join ended q = q
  folds-join (made i p) q = made i (folds-join p q)
  folds-join (replaced h i p) q = replaced h i (folds-join p q)
  folds-join (opened h i p r) q = opened h i p (folds-join r q)
  folds-join (passed h p r) q = passed h p (folds-join r q)

  pub folds-made : {s m e : S} {d : ℕ} {a us : Forest} → Folds asks makes s d a us m → makes m e → Folds asks makes s d a us e
  folds-made ended q = made q ended
  folds-made (made i p) q = made i (folds-made p q)
  folds-made (replaced h i p) q = replaced h i (folds-made p q)
  folds-made (opened h i p r) q = opened h i p (folds-made r q)
  folds-made (passed h p r) q = passed h p (folds-made r q)

  module _ (refuses : S → ℕ → Tree → Stop → S → Type 0) (leads : S → S → Type 0) (given : S → ℕ) where
    abbrev Stop_at : S → ℕ → Forest → Stop → S → Type 0
    Stop_at = Stops asks refuses makes leads given

    pub stops-first : {s e : S} {d : ℕ} {a : Forest} {x : Stop} (b : Forest) → Stop_at s d a x e → Stop_at s d (join a b) x e
    stops-first b (memory l) = memory l
    stops-first b (refused h i) = refused h i
    stops-first b (too_high {first = f} others e p h) = too_high (join others b) (ap (λ (y : Forest). join y b) e ∙ join-assoc f others b) p h
    stops-first b (full l e) = full l e
    stops-first b (too_few {first = f} others e p k h) = too_few (join others b) (ap (λ (y : Forest). join y b) e ∙ join-assoc f others b) p k h
    stops-first b (after i p) = after i (stops-first b p)
    stops-first b (below_asked h i p) = below_asked h i p
    stops-first b (below_passed h p) = below_passed h p
    stops-first b (later p q) = later p (stops-first b q)

    pub stops-then : {s m e : S} {d : ℕ} {a us b : Forest} {x : Stop} → Folds asks makes s d a us m → Stop_at m d b x e → Stop_at s d (join a b) x e
    stops-then ended q = q
    stops-then (made i p) q = after i (stops-then p q)
    stops-then (replaced h i p) q = later (replaced h i ended) (stops-then p q)
    stops-then (opened h i p r) q = later (opened h i p ended) (stops-then r q)
    stops-then (passed h p r) q = later (passed h p ended) (stops-then r q)

    -- a whole row is too high, or there are too few numbers for its bounds
    pub row-high : {s e : S} {d : ℕ} {ts us : Forest} → Folds asks makes s d ts us e → 1024 < heights us → Stop_at s d ts NodesFull e
    row-high {ts = ts} p h = too_high none (sym (join-none ts)) p h

    pub row-few : {s e : S} {d : ℕ} {ts us : Forest} → Folds asks makes s d ts us e → are_bounds us ≡ true → 4294967295 < given e + (count us + 1)
        → Stop_at s d ts NodesFull e
    row-few {ts = ts} p k h = too_few none (sym (join-none ts)) p k h

-- rows of trees, joined
put-join : (b : Bool) (t : Tree) (f g : Forest) → join (put b t f) g ≡ put b t (join f g)
put-join true t f g = join-assoc t.children f g
put-join false t f g = refl

pub rows-append : (ts us : List Tree) → rows (ts ++ us) ≡ join (rows ts) (rows us)
rows-append [] us = refl
rows-append (t ∷ ts) us = ap (row t) (rows-append ts us) ∙ sym (put-join (is_list t.head) t (rows ts) (rows us))
