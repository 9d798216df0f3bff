-- Clauses that are filled with names, and with trees.
use Rattle.std.proofs.Common.{◌≡◌, ℕ, zero, suc, ◌+◌, false, List, [], ◌∷◌, ◌++◌, length, Option, Some, None, arith, refl, ap, append_assoc, ◌∙◌}
use Rattle.std.specs.List.{All}
use Rattle.std.specs.Option.{unwrap_or}
use Rattle.ir_trees.specs.declared.ir.heads.ConstHead.{ConstHead}
use Rattle.ir_trees.specs.declared.ir.heads.ConstHead.TheVariants as C
use Rattle.ir_trees.specs.declared.ir.heads.Head.{Head}
use Rattle.ir_trees.specs.declared.ir.heads.Head.TheVariants as H
use Rattle.ir_trees.specs.Syntax.Binders.{escapes}
use Rattle.ir_trees.specs.Instantiation.Folding.{argument, fold_tree, put, shift_tree, substituted, substituted_tree}
use Rattle.ir_trees.specs.Instantiation.Folds.{node}
use Rattle.ir_trees.specs.Unification.Substitutions.{alone}
use Rattle.ir_trees.specs.Syntax.Trees.{Forest, none, tree, Tree, binders_of, count, holds, is_param, join, skip}
use Rattle.ir_trees.proofs.Instantiation.Folding.{begin, by_head, substituted-nothing}
use Rattle.candidate_eval.specs.Dynamic.Objects.{Projection}
use Rattle.candidate_eval.specs.Dynamic.Replacing.{Filled, Finds, filled, filled_clause, filled_from, first_or, without_first}
use Rattle.candidate_eval.proofs.Marks.Holds.{holds_parts}
use Rattle.candidate_eval.proofs.Marks.Closed.{closed-shift}
use Rattle.candidate_eval.specs.Derivations.Naming.{names_from, row_of}

put-nothing : (args : Forest) (d : ℕ) (h : Head) → is_param h ≡ false → put args d h ≡ None
put-nothing args d (H.Param i) e = absurd cc
put-nothing args d (H.Const c) e = of c e
  where
    of : (c : ConstHead) → is_param (H.Const c) ≡ false → put args d (H.Const c) ≡ None
    of (C.Param i) e = absurd cc
    of _ e = refl
put-nothing args d _ e = refl

-- With these arguments put in, each of some trees is the other of its place, under however many binders.
abbrev pub StandFor : Forest → List Tree → List Tree → Type 0
StandFor args [] [] = Unit {0}
StandFor args (n ∷ ns) (u ∷ us) = ((d : ℕ) → fold_tree (by_head (put args)) d n ≡ u) × StandFor args ns us
StandFor args _ _ = ⊥

stand-after : (args : Forest) (ns us : List Tree) → StandFor args ns us → StandFor args (without_first ns) (without_first us)
stand-after args [] [] s = s
stand-after args [] (u ∷ us) s = absurd s
stand-after args (n ∷ ns) [] s = absurd s
stand-after args (n ∷ ns) (u ∷ us) s = s.1

-- What was filled becomes what was filled with the other trees.
pub record Becomes (args : Forest) (d : ℕ) (a b : Filled) : Type 0 where
  pub trees : substituted args d a.trees ≡ b.trees
  pub left : StandFor args a.left b.left

pub filled-put : (f : Finds) (args : Forest) (d : ℕ) (ts : Forest) (ns us : List Tree) → holds is_param ts ≡ false → StandFor args ns us → Becomes args d (filled f ts ns) (filled f ts us)
filled-put f args d none ns us e s = record { trees = refl; left = s }
filled-put f args d (tree h below rest) ns us e s =
    let p = holds_parts is_param h below rest e in
    at (f h below) (put-nothing args d h p.here) (substituted-nothing args d (tree h below none) (alone-below p.here p.under))
    (filled-put f args (d + binders_of h) below ns us p.under s) (λ ms vs t. filled-put f args d rest ms vs p.others t)
  where
    alone-below : is_param h ≡ false → holds is_param below ≡ false → holds is_param (tree h below none) ≡ false
    alone-below a b = rw (a, b) refl

    first : (ns us : List Tree) → substituted args d (tree h below none) ≡ tree h below none → StandFor args ns us → fold_tree (by_head (put args)) d (first_or (node h below) ns) ≡ first_or (node h below) us
    first [] [] itself s = ap (λ (ts : Forest). argument ts 0) itself
    first [] (u ∷ us) itself s = absurd s
    first (n ∷ ns) [] itself s = absurd s
    first (n ∷ ns) (u ∷ us) itself s = s.0 d

    at : (o : Option Projection) → put args d h ≡ None → substituted args d (tree h below none) ≡ tree h below none → Becomes args (d + binders_of h) (filled f below ns) (filled f below us)
        → ((ms vs : List Tree) → StandFor args ms vs → Becomes args d (filled f rest ms) (filled f rest vs))
        → Becomes args d (filled_from o (node h below) (filled f below ns) ns (filled f rest)) (filled_from o (node h below) (filled f below us) us (filled f rest))
    at None quiet itself under others =
        let r = others (filled f below ns).left (filled f below us).left under.left in
        record {
          trees =
              ap (λ (o : Option Tree). begin (unwrap_or o (node h (substituted args (d + binders_of h) (filled f below ns).trees))) (substituted args d (filled f rest (filled f below ns).left).trees)) quiet
              ∙ (ap (λ (b : Forest). tree h b (substituted args d (filled f rest (filled f below ns).left).trees)) under.trees ∙ ap (tree h (filled f below us).trees) r.trees);
          left = r.left;
        }
    at (Some p) quiet itself under others =
        let r = others (without_first ns) (without_first us) (stand-after args ns us s) in
        record {
          trees =
              ap (λ (t : Tree). begin t (substituted args d (filled f rest (without_first ns)).trees)) (first ns us itself s)
              ∙ ap (begin (first_or (node h below) us)) r.trees;
          left = r.left;
        }

pub filled-clause-put : (f : Finds) (args : Forest) (c : Tree) (ns us : List Tree) → holds is_param (alone c) ≡ false → StandFor args ns us
    → substituted_tree args (filled_clause f ns c) ≡ filled_clause f us c
filled-clause-put f args c ns us e s =
    let p = holds_parts is_param c.head c.children none e in
    let below = filled-put f args (0 + binders_of c.head) c.children ns us p.under s in
    ap (λ (o : Option Tree). unwrap_or o (node c.head (substituted args (0 + binders_of c.head) (filled f c.children ns).trees))) (put-nothing args 0 c.head p.here)
    ∙ ap (node c.head) below.trees

-- Rows.

skip-next : (j : ℕ) (args : Forest) (h : Head) (below rest : Forest) → skip j args ≡ tree h below rest → skip (suc j) args ≡ rest
skip-next zero none h below rest e = absurd cc
skip-next zero (tree g inner others) h below rest e = cc
skip-next (suc j) none h below rest e = absurd cc
skip-next (suc j) (tree g inner others) h below rest e = skip-next j others h below rest e

argument-skip : (j : ℕ) (args : Forest) (h : Head) (below rest : Forest) → skip j args ≡ tree h below rest → argument args j ≡ node h below
argument-skip zero none h below rest e = absurd cc
argument-skip zero (tree g inner others) h below rest e = ap (λ (ts : Forest). argument ts 0) e
argument-skip (suc j) none h below rest e = absurd cc
argument-skip (suc j) (tree g inner others) h below rest e = argument-skip j others h below rest e

pub skip-join : (a b : Forest) (n : ℕ) → skip (count a + n) (join a b) ≡ skip n b
skip-join none b n = let e : 0 + n ≡ n = omega arith in ap (λ (m : ℕ). skip m b) e
skip-join (tree h below rest) b n =
    let e : 1 + count rest + n ≡ suc (count rest + n) = omega arith in
    ap (λ (m : ℕ). skip m (tree h below (join rest b))) e ∙ skip-join rest b n

pub row-skip : (vs us : List Tree) → skip (length vs) (row_of (vs ++ us)) ≡ row_of us
row-skip [] us = refl
row-skip (v ∷ vs) us = row-skip vs us

pub row-join : (us ws : List Tree) → row_of (us ++ ws) ≡ join (row_of us) (row_of ws)
row-join [] ws = refl
row-join (u ∷ us) ws = ap (begin u) (row-join us ws)

-- a tree at the end
pub row-push : (ls : Forest) (us : List Tree) (u : Tree) → join (join ls (row_of us)) (alone u) ≡ join ls (row_of (us ++ u ∷ []))
row-push none us u = of us
  where
    of : (us : List Tree) → join (row_of us) (alone u) ≡ row_of (us ++ u ∷ [])
    of [] = refl
    of (v ∷ vs) = ap (begin v) (of vs)
row-push (tree h below rest) us u = ap (tree h below) (row-push rest us u)

pub count-row : (us : List Tree) → count (row_of us) ≡ length us
count-row [] = refl
count-row (u ∷ us) = let more = count-row us in omega (arith, more)

pub count-join : (a b : Forest) → count (join a b) ≡ count a + count b
count-join none b = omega arith
count-join (tree h below rest) b = let more = count-join rest b in omega (arith, more)

-- Names of closed trees stand for them.

abbrev pub AreClosed : List Tree → Type 0
AreClosed us = All (λ u. escapes 0 (alone u) ≡ false) us

names-stand : (args : Forest) (us : List Tree) (j : ℕ) (more : Forest) → skip j args ≡ join (row_of us) more → AreClosed us → StandFor args (names_from j (length us)) us
names-stand args [] j more e a = tt
names-stand args (u ∷ us) j more e a =
    let own : escapes 0 (alone u) ≡ false = a 0 u (omega arith) in
    let is = argument-skip j args u.head u.children (join (row_of us) more) e in (
      λ d. ap (shift_tree d) is ∙ closed-shift d u own,
      names-stand args us (suc j) more (skip-next j args u.head u.children (join (row_of us) more) e) (λ k d l. a (suc k) d (omega (arith, l))),
    )

-- With the trees in the row, from that place on, the clause that is filled with their names is the one that is filled with them.
pub filled-names-from : (f : Finds) (args more : Forest) (j : ℕ) (us : List Tree) (c : Tree) → holds is_param (alone c) ≡ false → AreClosed us → skip j args ≡ join (row_of us) more
    → substituted_tree args (filled_clause f (names_from j (length us)) c) ≡ filled_clause f us c
filled-names-from f args more j us c e a s = filled-clause-put f args c (names_from j (length us)) us e (names-stand args us j more s a)

-- where other trees stand before and after them
pub filled-names-among : (f : Finds) (ls : Forest) (vs us ws : List Tree) (c : Tree) → holds is_param (alone c) ≡ false → AreClosed us
    → substituted_tree (join ls (row_of (vs ++ us ++ ws))) (filled_clause f (names_from (count ls + length vs) (length us)) c) ≡ filled_clause f us c
filled-names-among f ls vs us ws c e a =
    filled-names-from f (join ls (row_of (vs ++ us ++ ws))) (row_of ws) (count ls + length vs) us c e a
    (skip-join ls (row_of (vs ++ us ++ ws)) (length vs) ∙ (ap (λ (ts : List Tree). skip (length vs) (row_of ts)) (append_assoc vs us ws) ∙ (row-skip vs (us ++ ws) ∙ row-join us ws)))

-- where they are the last
pub filled-names : (f : Finds) (ls : Forest) (us : List Tree) (c : Tree) → holds is_param (alone c) ≡ false → AreClosed us
    → substituted_tree (join ls (row_of us)) (filled_clause f (names_from (count ls) (length us)) c) ≡ filled_clause f us c
filled-names f ls us c e a =
    let here : count ls ≡ count ls + 0 = omega arith in
    filled-names-from f (join ls (row_of us)) none (count ls) us c e a
    (ap (λ (m : ℕ). skip m (join ls (row_of us))) here ∙ (skip-join ls (row_of us) 0 ∙ whole (row_of us)))
  where
    whole : (ts : Forest) → ts ≡ join ts none
    whole none = refl
    whole (tree h below rest) = ap (tree h below) (whole rest)
