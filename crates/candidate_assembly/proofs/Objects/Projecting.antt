-- The projections of an object's own in a row of trees, and the terms put in their place: both walks meet the same nodes in the same order. With
-- the projections themselves as the terms the row is as it was, and the terms that follow them are left.
use Rattle.std.proofs.Common.{◌≡◌, ◌&&◌, Bool, true, false, Option, Some, None, List, [], ◌++◌, ap, append_assoc, map, refl, sym, ◌∙◌}
use Rattle.std.proofs.lemmas.List.{append-nil, map-append}
use Rattle.ir_trees.specs.declared.ir.heads.Head.{Head}
use Rattle.ir_trees.specs.declared.ir.heads.Head.TheVariants as H
use Rattle.ir_trees.specs.declared.ir.kinds.AliasKind.TheVariants as A
use Rattle.ir_trees.specs.Instantiation.Folds.{node}
use Rattle.ir_trees.specs.Syntax.Trees.{Forest, Tree, none, tree}
use Rattle.candidate_eval.specs.Dynamic.Objects.{Projection}
use Rattle.candidate_eval.specs.Dynamic.Replacing.{Filled, Finds, any_is_about, filled, filled_clause, filled_from, found_or, own_projection, projection_if, projections, starts_with, then_filled}

-- so many trees, and terms that are left
abbrev are : Forest → List Tree → Filled
are ts us = record { trees = ts; left = us }

module _ (f : Finds) (back : Projection → Tree) (own : (h : Head) (b : Forest) (p : Projection) → f h b ≡ Some p → back p ≡ node h b) where
  abbrev terms : Forest → List Tree
  terms ts = map back (projections f ts)

  pub filled-back : (ts : Forest) (more : List Tree) → filled f ts (terms ts ++ more) ≡ are ts more
  filled-back none more = refl
  filled-back (tree h below rest) more = at (f h below) refl (filled-back below (terms rest ++ more)) (filled-back rest more)
    where
      parts : (ps : List Projection) → map back (ps ++ projections f rest) ++ more ≡ map back ps ++ (terms rest ++ more)
      parts ps = ap (λ us. us ++ more) (map-append back ps (projections f rest)) ∙ append_assoc (map back ps) (terms rest) more

      at : (o : Option Projection) → f h below ≡ o → filled f below (terms below ++ (terms rest ++ more)) ≡ are below (terms rest ++ more) → filled f rest (terms rest ++ more) ≡ are rest more
          → (let us = map back (found_or o (projections f below) ++ projections f rest) ++ more in filled_from o (node h below) (filled f below us) us (filled f rest)) ≡ are (tree h below rest) more
      at None e b r =
          ap (λ (us : List Tree). filled_from None (node h below) (filled f below us) us (filled f rest)) (parts (projections f below))
          ∙ (ap (λ (v : Filled). then_filled (node h v.trees) (filled f rest v.left)) b ∙ ap (then_filled (node h below)) r)
      at (Some p) e b r = ap (then_filled (back p)) r ∙ ap (λ t. then_filled t (are rest more)) (own h below p e)

-- the projection as a tree
abbrev pub projected : Projection → Tree
projected p = node (H.Alias A.Projection (record { 0 = p.item })) p.arguments

own-projected : (object : Tree) (bounds : List Tree) (h : Head) (b : Forest) (p : Projection) → own_projection object bounds h b ≡ Some p → projected p ≡ node h b
own-projected object bounds (H.Alias A.Projection i) b p e = of (starts_with object b && any_is_about i.0 bounds) e
  where
    of : (x : Bool) → projection_if x i.0 b ≡ Some p → projected p ≡ node (H.Alias A.Projection i) b
    of false e = absurd cc
    of true e = let same : record { item = i.0; arguments = b } ≡ p = cc in sym (ap projected same)
own-projected object bounds _ b p e = absurd cc

-- So a clause with the projections of an object's own in their own place is as it was.
pub filled-with-own : (object : Tree) (bounds : List Tree) (c : Tree) → (let f = own_projection object bounds in filled_clause f (map projected (projections f c.children)) c ≡ c)
filled-with-own object bounds c =
    let f = own_projection object bounds in
    let us = map projected (projections f c.children) in
    ap (λ (v : List Tree). node c.head (filled f c.children v).trees) (sym (append-nil us))
    ∙ ap (λ (v : Filled). node c.head v.trees) (filled-back f projected (own-projected object bounds) c.children [])
