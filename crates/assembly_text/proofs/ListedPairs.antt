-- What goals of a text come to: the pairs that may be listed, one after another, and evaluators that are made ready.
use Rattle.std.proofs.Common.{◌≡◌, Bool, true, false, List, [], ◌∷◌, ◌++◌, refl, sym, ◌∙◌, ap, if◌then◌else◌}
use Rattle.std.proofs.lemmas.List.{map-append}
use Rattle.ir_trees.specs.declared.ir.kinds.Ty.{Ty}
use Rattle.ir_trees.specs.Syntax.Trees.{Tree}
use Rattle.ir_trees.specs.Syntax.Words.{ty_tree}
use Rattle.candidate_rounds.specs.Evaluators.Known.{listing_of, pairs_of, rigid_otherwise}
use Rattle.rounds_judge.specs.Aliases.Listed.{Listing}
use Rattle.rounds_judge.specs.Aliases.WellListed.{may_be_listed, well_listed, which_may_be}

-- one pair more
may-be-more : (ps : List (Tree × Tree)) (p : Tree × Tree) → which_may_be (ps ++ p ∷ []) ≡ which_may_be ps ++ (if may_be_listed p then p ∷ [] else [])
may-be-more [] p = at (may_be_listed p)
  where
    at : (b : Bool) → ◌≡◌ {A = List (Tree × Tree)} (if b then p ∷ [] else []) ([] ++ (if b then p ∷ [] else []))
    at true = refl
    at false = refl
may-be-more (q ∷ l) p = at (may_be_listed q) (may-be-more l p)
  where
    more : List (Tree × Tree)
    more = if may_be_listed p then p ∷ [] else []

    at : (b : Bool) → which_may_be (l ++ p ∷ []) ≡ which_may_be l ++ more
        → ◌≡◌ {A = List (Tree × Tree)} (if b then q ∷ which_may_be (l ++ p ∷ []) else which_may_be (l ++ p ∷ [])) ((if b then q ∷ which_may_be l else which_may_be l) ++ more)
    at true e = ap (λ (xs : List (Tree × Tree)). q ∷ xs) e
    at false e = e

module _ (ts : List Tree) (done : List (Ty × Ty)) (p : Ty × Ty) (list : List (Ty × Ty)) (is : listing_of ts list ≡ well_listed (listing_of ts done)) where
  abbrev seen : Tree × Tree
  seen = (ty_tree ts p.0, ty_tree ts p.1)

  pairs : pairs_of ts list ≡ which_may_be (pairs_of ts done)
  pairs = ap (λ (l : Listing). l.pairs) is

  whole : pairs_of ts (done ++ p ∷ []) ≡ pairs_of ts done ++ seen ∷ []
  whole = map-append (λ (q : Ty × Ty). (ty_tree ts q.0, ty_tree ts q.1)) done (p ∷ [])

  -- It may be listed.
  pub listed-on : may_be_listed seen ≡ true → listing_of ts (list ++ p ∷ []) ≡ well_listed (listing_of ts (done ++ p ∷ []))
  listed-on may =
      ap rigid_otherwise
      (map-append (λ (q : Ty × Ty). (ty_tree ts q.0, ty_tree ts q.1)) list (p ∷ [])
      ∙ (ap (λ (l : List (Tree × Tree)). l ++ seen ∷ []) pairs
      ∙ (ap (λ b. which_may_be (pairs_of ts done) ++ (if b then seen ∷ [] else [])) (sym may)
      ∙ (sym (may-be-more (pairs_of ts done) seen) ∙ ap which_may_be (sym whole)))))

  -- It may not.
  pub passed-over : may_be_listed seen ≡ false → listing_of ts list ≡ well_listed (listing_of ts (done ++ p ∷ []))
  passed-over not =
      ap rigid_otherwise
      (pairs ∙ (sym (nothing (which_may_be (pairs_of ts done)))
      ∙ (ap (λ b. which_may_be (pairs_of ts done) ++ (if b then seen ∷ [] else [])) (sym not)
      ∙ (sym (may-be-more (pairs_of ts done) seen) ∙ ap which_may_be (sym whole)))))
    where
      nothing : (l : List (Tree × Tree)) → l ++ [] ≡ l
      nothing [] = refl
      nothing (q ∷ l) = ap (λ (xs : List (Tree × Tree)). q ∷ xs) (nothing l)
