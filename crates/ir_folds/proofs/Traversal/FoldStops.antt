-- What a fold leaves, and why it stopped.
use Rattle.std.proofs.Common.{◌≡◌, ℕ, ◌+◌, ◌<◌, ◌≤◌, Bool, true, false, Option, Some, None, Result, Ok, Err, refl, sym, ◌∙◌, ap, subst, arith, inl, inr}
use Rattle.std.specs.Prelude.{IfErr, ◌||◌, ◌&&◌, length, nat_le, nat_lt, if◌then◌else◌}
use Rattle.std.specs.Option.{unwrap_or}
use Rattle.std.specs.Fn.{Mut}
use Rattle.std.specs.Borrow.{MutBor}
use Rattle.ir_trees.specs.declared.ir.kinds.GenericArg.{GenericArg}
use Rattle.ir_trees.specs.declared.ir.kinds.BoundVar.{BoundVar}
use Rattle.ir_trees.specs.declared.ir.heads.Head.{Head}
use Rattle.ir_trees.specs.declared.ir.heads.Head.TheVariants as H
use Rattle.ir_trees.specs.declared.ir.heads.ConstHead.TheVariants as C
use Rattle.ir_trees.specs.declared.ir.kinds.RegionKind.TheVariants as R
use Rattle.ir_trees.specs.declared.ir.stop.Stop.{Stop}
use Rattle.ir_trees.specs.declared.ir.stop.Stop.TheVariants.{NodesFull}
use Rattle.ir_trees.specs.Syntax.Trees.{Forest, none, tree, Tree, kind_of, join, count, heights, holds, binders_of}
use Rattle.ir_trees.specs.Syntax.Nodes.{is_bound_kind}
use Rattle.ir_trees.specs.Unification.Substitutions.{alone}
use Rattle.ir_trees.specs.Syntax.Words.{IsMkStop}
use Rattle.ir_trees.specs.Declarations.Context.{Context, Grows}
use Rattle.ir_trees.specs.Instantiation.Folding.{Answers, fold, fold_tree, leaf, further, moved, moved_leaf, is_too_far, bounds_in, most_bounds, IsSubstStop, no_memory, few_numbers, high_tree, far_variable, IsAnswerStop}
pub use Rattle.ir_folds.specs.Instantiation.PureFolder.{IsCause, SaidOfAnswer}
use Rattle.ir_trees.specs.Instantiation.Folds.{node, IsArg, arg_tree, are_bounds, numbers_given, Says, Refuses, OnlyMakes, FoldsBy, StopsBy, memory, refused, too_high, full, too_few, after, below_asked, below_passed, later, IsReached, here, by_call, by_nodes, IsFunction, KeepsRest, Renumbers}
use Rattle.ir_trees.proofs.Growth.Kept.{grows-refl, grows-trans}
use Rattle.ir_trees.proofs.Syntax.Splits.{heights-join}
use Rattle.ir_trees.proofs.Instantiation.Folding.{begin}
use Rattle.ir_folds.proofs.Traversal.FoldLaws.{IsTowards, folds-towards, by-function, opened-row}
use Rattle.ir_folds.proofs.Traversal.FoldSteps.{folds-reached, reached-then}

or-true : (b : Bool) → b || true ≡ true
or-true true = refl
or-true false = refl

-- what stops a part stops the whole
below-cause : (given : ℕ) (h : Head) (below rest : Forest) (x : Stop) → IsSubstStop given below x → IsSubstStop given (tree h below rest) x
below-cause given h below rest x no_memory = no_memory
below-cause given h below rest x (few_numbers l) = few_numbers (omega (arith, l))
below-cause given h below rest x (high_tree l) = high_tree (omega (arith, l))
below-cause given h below rest x (far_variable e) =
    far_variable (ap (λ (b : Bool). is_too_far h || (b || holds is_too_far rest)) e ∙ or-true (is_too_far h))

rest-cause : (given : ℕ) (h : Head) (below rest : Forest) (x : Stop) → IsSubstStop given rest x → IsSubstStop given (tree h below rest) x
rest-cause given h below rest x no_memory = no_memory
rest-cause given h below rest x (few_numbers l) = few_numbers (omega (arith, l))
rest-cause given h below rest x (high_tree l) = high_tree (omega (arith, l))
rest-cause given h below rest x (far_variable e) =
    far_variable (ap (λ (b : Bool). is_too_far h || (holds is_too_far below || b)) e ∙ (ap (λ (b : Bool). is_too_far h || b) (or-true (holds is_too_far below)) ∙ or-true (is_too_far h)))

first-cause : (given : ℕ) (h : Head) (below rest : Forest) (x : Stop) → IsSubstStop given (tree h below none) x → IsSubstStop given (tree h below rest) x
first-cause given h below rest x no_memory = no_memory
first-cause given h below rest x (few_numbers l) = few_numbers (omega (arith, l))
first-cause given h below rest x (high_tree l) = high_tree (omega (arith, l))
first-cause given h below rest x (far_variable e) = far_variable (more (is_too_far h) (holds is_too_far below) (holds is_too_far rest) e)
  where
    more : (a b c : Bool) → a || (b || false) ≡ true → a || (b || c) ≡ true
    more true b c e = refl
    more false true c e = refl
    more false false c e = absurd cc

pub subst-cause : IsCause IsSubstStop
subst-cause = record {
  of_memory = λ given made. no_memory;
  of_numbers = λ given made l. few_numbers l;
  of_height = λ given made l. high_tree l;
  of_below = below-cause;
  of_rest = rest-cause;
  of_first = first-cause;
}

said-alone : (C : ℕ → Forest → Stop → Type 0) (given : ℕ) (o : Option Tree) (kept : Tree) (x : Stop) → SaidOfAnswer C given o x → C given (alone (unwrap_or o kept)) x
said-alone C given None kept x c = absurd c
said-alone C given (Some t) kept x c = c

pub said-of-answer : (given : ℕ) (o : Option Tree) (x : Stop) → IsAnswerStop given o x → SaidOfAnswer IsSubstStop given o x
said-of-answer given None x c = c
said-of-answer given (Some t) x c = c

-- rows, one after the other
fold-join : (a : Answers) (d : ℕ) (ts us : Forest) → fold a d (join ts us) ≡ join (fold a d ts) (fold a d us)
fold-join a d none us = refl
fold-join a d (tree h below rest) us = ap (begin (unwrap_or (a d (node h below)) (node h (fold a (d + binders_of h) below)))) (fold-join a d rest us)

bounds-join : (ts us : Forest) → bounds_in (join ts us) ≡ bounds_in ts + bounds_in us
bounds-join none us = omega arith
bounds-join (tree h below rest) us = omega (arith, bounds-join rest us)

most-join : (ts us : Forest) → most_bounds ts ≤ most_bounds (join ts us)
most-join none us = omega arith
most-join (tree h below rest) us = omega (arith, bounds-join rest us, most-join rest us)

pub row-bounds : (ts : Forest) → bounds_in ts ≤ most_bounds ts
row-bounds none = omega arith
row-bounds (tree h below rest) = omega arith

count-bounds : (ts : Forest) → are_bounds ts ≡ true → count ts ≤ bounds_in ts
count-bounds none e = omega arith
count-bounds (tree h below rest) e = at (is_bound_kind (kind_of h)) refl e (λ k. count-bounds rest k)
  where
    at : (b : Bool) → is_bound_kind (kind_of h) ≡ b → b && are_bounds rest ≡ true → (are_bounds rest ≡ true → count rest ≤ bounds_in rest) → count (tree h below rest) ≤ bounds_in (tree h below rest)
    at true k e more =
        let one_of : Bool → ℕ = λ b. if b then 1 else 0 in
        let one : one_of (is_bound_kind (kind_of h)) ≡ 1 = ap one_of k in
        omega (arith, one, more e)
    at false k e more = absurd cc

-- a bound variable that can't be moved
pub leaf-stop : (old new : Context) (high : ℕ) (made : Forest) (x : Stop) → new ≡ old → high ≤ 1 → IsMkStop old.trees high x → IsSubstStop (length new.trees) made x
leaf-stop old new high made x e l (inl z) = let P : Stop → Type 0 = λ y. IsSubstStop (length new.trees) made y in subst P (sym z) no_memory
leaf-stop old new high made x e l (inr (z, inl few)) =
    let P : Stop → Type 0 = λ y. IsSubstStop (length new.trees) made y in
    let same = ap (λ (c : Context). length c.trees) e in
    subst P (sym z) (few_numbers (omega (arith, few, same)))
leaf-stop old new high made x e l (inr (z, inr tall)) = absurd (omega (arith, l, tall))

-- a head that is a bound variable
pub record IsVariable (h : Head) (v : BoundVar) : Type 0 where
  pub head : BoundVar → Head
  pub is : h ≡ head v
  pub moves : (n d : ℕ) → moved n d (head v) ≡ moved_leaf n d v head
  pub far : (w : BoundVar) → is_too_far (head w) ≡ nat_lt 4294967295 w.depth

pub type-variable : (h : Head) (v : BoundVar) → h ≡ H.Bound v → IsVariable h v
type-variable h v e = record { head = H.Bound; is = e; moves = λ n d. refl; far = λ w. refl }

pub constant-variable : (h : Head) (v : BoundVar) → h ≡ H.Const (C.Bound v) → IsVariable h v
constant-variable h v e = record { head = λ w. H.Const (C.Bound w); is = e; moves = λ n d. refl; far = λ w. refl }

pub region-variable : (h : Head) (v : BoundVar) → h ≡ H.Region (R.Bound v) → IsVariable h v
region-variable h v e = record { head = λ w. H.Region (R.Bound w); is = e; moves = λ n d. refl; far = λ w. refl }

pub variable-unmade : (given n d : ℕ) (h : Head) (v w : BoundVar) (x : Stop) → IsVariable h v → Some w ≡ (if nat_le d v.depth then Some (further n v) else None)
    → ((made : Forest) → IsSubstStop given made x) → IsAnswerStop given (moved n d h) x
variable-unmade given n d h v w x i e c =
    let P : Option Tree → Type 0 = λ o. IsAnswerStop given o x in
    subst P (sym (ap (moved n d) i.is ∙ i.moves n d)) (at (nat_le d v.depth) e)
  where
    at : (b : Bool) → Some w ≡ (if b then Some (further n v) else None) → IsAnswerStop given (if b then Some (leaf (i.head (further n v))) else None) x
    at true e = c (alone (leaf (i.head (further n v))))
    at false e = absurd cc

lt-true : (i n : ℕ) → i < n → nat_lt i n ≡ true
lt-true i n h = grind (arith, h)

pub variable-too-far : (given n d : ℕ) (h : Head) (v : BoundVar) (x : Stop) → IsVariable h v → (x ≡ NodesFull) × (nat_le d v.depth ≡ true) × (4294967295 < v.depth + n)
    → IsAnswerStop given (moved n d h) x
variable-too-far given n d h v x i (is, deep, far) =
    let P : Option Tree → Type 0 = λ o. IsAnswerStop given o x in
    let Q : Stop → Type 0 = λ y. IsSubstStop given (alone (leaf (i.head (further n v)))) y in
    let here = ap (λ (b : Bool). b || false) (i.far (further n v) ∙ lt-true 4294967295 (v.depth + n) far) in
    subst P (sym (ap (moved n d) i.is ∙ (i.moves n d ∙ ap (λ (b : Bool). if b then Some (leaf (i.head (further n v))) else None) deep))) (subst Q (sym is) (far_variable here))

module _ {M Rest F : Type 0} (context : M → Context) (others : M → Rest)
    (g : Mut F (MutBor M × (GenericArg × (ℕ × Unit {0}))) (Result (Option GenericArg) Stop × (MutBor M × Unit {0}))) where
  -- What each call keeps beside the context, a fold keeps: `Q` is what the calls need of the closure for it.
  module _ (Q : F → Type 0) (s0 : F × M)
      (call : (t : F × M) (x : GenericArg) (d : ℕ) (r : Result (Option GenericArg) Stop) (u : F × M) → Says context others g t x d r u → IsArg (context t.1).trees x
      → IsReached context others g s0 t → Grows (context s0.1) (context t.1) → Q t.0 → Q u.0 × (others u.1 ≡ others t.1)) where
    record Keeps (e : F × M) : Type 0 where
      reached : IsReached context others g s0 e
      grows : Grows (context s0.1) (context e.1)
      held : Q e.0
      rest : others e.1 ≡ others s0.1

    made-keeps : (s e : F × M) → OnlyMakes context others g s e → Keeps s → Keeps e
    made-keeps s e o k = record {
      reached = by_nodes k.reached o;
      grows = grows-trans (context s0.1) (context s.1) (context e.1) k.grows o.grows;
      held = subst Q (sym o.same) k.held;
      rest = o.rest ∙ k.rest;
    }

    reached-keeps-rest : (s e : F × M) → IsReached context others g s e → Keeps s → Keeps e
    reached-keeps-rest s e here k = k
    reached-keeps-rest s e (by_call {m = m} {d = d} l a) k =
        let p = reached-keeps-rest s m l k in
        let q = call m a.of d (Ok a.answer) e a.says a.is p.reached p.grows p.held in
        record {
          reached = by_call p.reached a;
          grows = grows-trans (context s0.1) (context m.1) (context e.1) p.grows a.grows;
          held = q.0;
          rest = q.1 ∙ p.rest;
        }
    reached-keeps-rest s e (by_nodes {m = m} l o) k = made-keeps m e o (reached-keeps-rest s m l k)

    folds-keep-rest : {s e : F × M} {d : ℕ} {ts us : Forest} → FoldsBy context others g s d ts us e → Keeps s → Keeps e
    folds-keep-rest {s} {e} p k = reached-keeps-rest s e (folds-reached context others g p) k

    stops-keep-rest : {s e : F × M} {d : ℕ} {ts : Forest} {x : Stop} → StopsBy context others g s d ts x e → Keeps s → others e.1 ≡ others s0.1
    stops-keep-rest {s} {e} (memory l) k = (reached-keeps-rest s e l k).rest
    stops-keep-rest {s} {e} {d = d} {x = x} (refused h a) k = (call s a.of d (Err x) e a.says a.is k.reached k.grows k.held).1 ∙ k.rest
    stops-keep-rest (too_high rest i p h) k = (folds-keep-rest p k).rest
    stops-keep-rest {s} {e} (full l h) k = (reached-keeps-rest s e l k).rest
    stops-keep-rest (too_few rest i p b h) k = (folds-keep-rest p k).rest
    stops-keep-rest {s} (after {m = m} o p) k = stops-keep-rest p (made-keeps s m o k)
    stops-keep-rest {s} (below_asked {m = m} h a p) k = stops-keep-rest p (reached-keeps-rest s m (by_call here a) k)
    stops-keep-rest (below_passed h p) k = stops-keep-rest p k
    stops-keep-rest (later p q) k = stops-keep-rest q (folds-keep-rest p k)

    begin-keeps : Q s0.0 → Keeps s0
    begin-keeps q = record { reached = here; grows = grows-refl (context s0.1); held = q; rest = refl }

    -- so a fold of a number does
    pub number-keeps-rest : (e : F × M) (d n : ℕ) (r : Result ℕ Stop) → Q s0.0 → Renumbers context others g s0 d n r e → others e.1 ≡ others s0.1
    number-keeps-rest e d n (Ok k) q r = (folds-keep-rest r.folded (begin-keeps q)).rest
    number-keeps-rest e d n (Err x) q r = stops-keep-rest r.stopped (begin-keeps q)

  pub number-rest : (s e : F × M) (d n : ℕ) (r : Result ℕ Stop) → Renumbers context others g s d n r e → KeepsRest context others g s → others e.1 ≡ others s.1
  number-rest s e d n r h k = number-keeps-rest (λ f. Unit {0}) s (λ t x d r u n i l grown q. (tt, k.at t x d r u l grown i n)) e d n r tt h

  reached-grows : (s e : F × M) → IsReached context others g s e → Grows (context s.1) (context e.1)
  reached-grows s e here = grows-refl (context s.1)
  reached-grows s e (by_call {m = m} l k) = grows-trans (context s.1) (context m.1) (context e.1) (reached-grows s m l) k.grows
  reached-grows s e (by_nodes {m = m} l k) = grows-trans (context s.1) (context m.1) (context e.1) (reached-grows s m l) k.grows

  -- A fold, whose calls answer what a function's fold makes, and stop where that can't be made, stops where its trees can't be.
  module _ (C : ℕ → Forest → Stop → Type 0) (cause : IsCause C) (a : Answers) (s0 : F × M) (f : IsTowards context others g a s0)
      (refusal : (t u : F × M) (d : ℕ) (w : Tree) (x : Stop) → IsReached context others g s0 t → Refuses context others g t d w x u
      → C (numbers_given context u) (alone (fold_tree a d w)) x) where
    pub stops-towards : {s e : F × M} {d : ℕ} {ts : Forest} {x : Stop} → IsReached context others g s0 s → StopsBy context others g s d ts x e
        → C (numbers_given context e) (fold a d ts) x
    stops-towards {s} {e} {d = d} {ts = ts} l (memory k) = cause.of_memory (numbers_given context e) (fold a d ts)
    stops-towards {s} {e} {d = d} {x = x} l (refused {h = h} {below = below} {rest = rest} i r) =
        let t = fold_tree a d (node h below) in
        cause.of_first (numbers_given context e) t.head t.children (fold a d rest) x (refusal s e d (node h below) x l r)
    stops-towards {s} {e} {d = d} {ts = all} l (too_high {first = ts} {made = us} rest i p h) =
        let same = ap (fold a d) i ∙ (fold-join a d ts rest ∙ ap (λ (y : Forest). join y (fold a d rest)) (sym (folds-towards context others g a s0 f l p))) in
        cause.of_height (numbers_given context e) (fold a d all) (omega (arith, h, heights-join us (fold a d rest), ap heights same))
    stops-towards {s} {e} {d = d} {ts = ts} l (full k few) = cause.of_numbers (numbers_given context e) (fold a d ts) (omega (arith, few))
    stops-towards {s} {e} {d = d} {ts = all} l (too_few {first = ts} {made = us} rest i p b h) =
        let same = ap (fold a d) i ∙ (fold-join a d ts rest ∙ ap (λ (y : Forest). join y (fold a d rest)) (sym (folds-towards context others g a s0 f l p))) in
        cause.of_numbers (numbers_given context e) (fold a d all) (omega (arith, h, count-bounds us b, row-bounds us, most-join us (fold a d rest), ap most_bounds same))
    stops-towards l (after o p) = stops-towards (by_nodes l o) p
    stops-towards {s} {e} {d = d} {x = x} l (below_asked {m = m} {h = h} {below = below} {rest = rest} i k p) =
        let P : Forest → Type 0 = λ ts. C (numbers_given context e) ts x in
        let inner = fold a (d + binders_of h) below in
        subst P (opened-row context others g a d h below inner rest (fold a d rest) (f.at s d (node h below) None m l k) refl refl)
        (cause.of_below (numbers_given context e) h inner (fold a d rest) x (stops-towards (by_call l k) p))
    stops-towards {s} {e} {d = d} {x = x} l (below_passed {h = h} {below = below} {rest = rest} i p) =
        let P : Forest → Type 0 = λ ts. C (numbers_given context e) ts x in
        let inner = fold a (d + binders_of h) below in
        subst P (opened-row context others g a d h below inner rest (fold a d rest) (f.only d (node h below) i) refl refl)
        (cause.of_below (numbers_given context e) h inner (fold a d rest) x (stops-towards l p))
    stops-towards {s} {e} {d = d} {x = x} l (later {h = h} {below = below} {rest = rest} p q) =
        let t = unwrap_or (a d (node h below)) (node h (fold a (d + binders_of h) below)) in
        cause.of_rest (numbers_given context e) t.head t.children (fold a d rest) x (stops-towards (reached-then context others g l (folds-reached context others g p)) q)

  -- so does one by a function
  stops-cause : (C : ℕ → Forest → Stop → Type 0) → IsCause C → (a : Answers) (s0 : F × M) → IsFunction context others g a s0
      → ((t u : F × M) (d : ℕ) (w : Tree) (x : Stop) → IsReached context others g s0 t → Refuses context others g t d w x u → SaidOfAnswer C (numbers_given context u) (a d w) x)
      → {s e : F × M} {d : ℕ} {ts : Forest} {x : Stop} → IsReached context others g s0 s → StopsBy context others g s d ts x e → C (numbers_given context e) (fold a d ts) x
  stops-cause C cause a s0 f refusal l p =
      stops-towards C cause a s0 (by-function context others g a s0 f)
      (λ t u d w x k r. said-alone C (numbers_given context u) (a d w) (node w.head (fold a (d + binders_of w.head) w.children)) x (refusal t u d w x k r)) l p

  -- So a fold of a row has the causes of the trees that would have come, where calls that stop have those of their answers.
  pub fold-stop : {A : Type 0} (C : ℕ → Forest → Stop → Type 0) → IsCause C → (a : Answers) (s e : F × M) (d : ℕ) (ts : Forest) (r : Result A Stop) → IsFunction context others g a s
      → ((t : F × M) (y : GenericArg) (n : ℕ) (x : Stop) (u : F × M) → Says context others g t y n (Err x) u → IsArg (context t.1).trees y → Grows (context s.1) (context t.1)
      → IsReached context others g s t → SaidOfAnswer C (numbers_given context u) (a n (arg_tree (context t.1).trees y)) x)
      → IfErr r (λ x. StopsBy context others g s d ts x e) → IfErr r (λ x. C (numbers_given context e) (fold a d ts) x)
  fold-stop C cause a s e d ts (Ok v) f stops p = tt
  fold-stop C cause a s e d ts (Err x) f stops p =
      stops-cause C cause a s f
      (λ t u n w z l k. let A : Tree → Type 0 = λ v. SaidOfAnswer C (numbers_given context u) (a n v) z in
      subst A k.tree (stops t k.of n z u k.says k.is (reached-grows s t l) l))
      here p

  -- where no call stops, those of the trees alone
  pub fold-cause : {A : Type 0} (a : Answers) (s e : F × M) (d : ℕ) (ts : Forest) (r : Result A Stop) → IsFunction context others g a s
      → ((t : F × M) (y : GenericArg) (n : ℕ) (q : Result (Option GenericArg) Stop) (u : F × M) → Says context others g t y n q u → IsArg (context t.1).trees y → Grows (context s.1) (context t.1)
      → IfErr q (λ _. ⊥))
      → IfErr r (λ x. StopsBy context others g s d ts x e) → IfErr r (λ x. IsSubstStop (numbers_given context e) (fold a d ts) x)
  fold-cause a s e d ts r f never p = fold-stop IsSubstStop subst-cause a s e d ts r f (λ t y n x u k i l h. absurd (never t y n (Err x) u k i l)) p
