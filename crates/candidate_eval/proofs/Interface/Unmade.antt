-- Why nodes weren't made: of each call its cause, and that it stays one where the context grows.
use Rattle.std.proofs.Common.{◌≡◌, ◌∙◌, ◌<◌, ◌≤◌, ℕ, zero, suc, max, Bool, true, false, ◌&&◌, if◌then◌else◌, List, [], ◌∷◌, ◌++◌, length, Option, Some, None, Result, Ok, Err, inl, inr, arith, refl, sym, ap, subst}
use Rattle.std.proofs.lemmas.List.{length-append}
use Rattle.std.specs.Prelude.{IfErr, option_map}
use Rattle.std.specs.Fn.{Mut}
use Rattle.std.specs.Borrow.{MutBor}
use Rattle.ir_trees.specs.declared.ir.heads.Head.{Head}
use Rattle.ir_trees.specs.declared.ir.kinds.Binder.{Binder}
use Rattle.ir_trees.specs.declared.ir.kinds.ClauseKind.{ClauseKind}
use Rattle.ir_trees.specs.declared.ir.kinds.GenericArg.{GenericArg}
use Rattle.ir_trees.specs.declared.ir.kinds.TyKind.{TyKind}
use Rattle.ir_trees.specs.declared.ir.node.Node.{Node}
use Rattle.ir_trees.specs.declared.ir.node.Node.TheVariants as N
use Rattle.ir_trees.specs.declared.ir.stop.Stop.{Stop}
use Rattle.ir_trees.specs.declared.ir.stop.Stop.TheVariants.{Memory}
use Rattle.ir_trees.specs.Declarations.Context.{Context, Grows}
use Rattle.ir_trees.specs.Declarations.Worlds.{Reference}
use Rattle.ir_trees.specs.Hierarchy.Elaboration.{IsElaborationStop, IsInstanceStop, IsRenumberStop, SuperClauses}
use Rattle.ir_trees.specs.Instantiation.Folding.{IsSubstStop, bounds_in}
use Rattle.ir_trees.specs.Instantiation.Folds.{FoldsBy, IsOfKind, IsReached, StopsBy, Says, are_bounds, arg_tree, by_call, by_nodes, here, node, memory, refused, too_high, full, too_few, after, below_asked, below_passed, later, ended, made, replaced, opened, passed}
use Rattle.ir_trees.specs.Syntax.Nodes.{Extends, children_of, head_of, is_bound_kind, node_tree, rows, tallest, tree_at, trees_at}
use Rattle.ir_trees.specs.Syntax.Trees.{Forest, Kind, TypeKind, ConstantKind, none, tree, Tree, count, height, heights, join, kind_of, kind_weight, there}
use Rattle.ir_trees.specs.Syntax.Kinds.{arg_number, arg_there, numbers}
use Rattle.ir_trees.specs.Syntax.Words.{IsMkListStop, IsMkStop, clause_kind_tree, kind_tree}
use Rattle.ir_trees.specs.Unification.Substitutions.{row_of}
use Rattle.ir_trees.proofs.Growth.Kept.{grows-refl, grows-trans, number-kept}
use Rattle.ir_trees.proofs.Syntax.Splits.{rows-height}
use Rattle.ir_trees.proofs.Syntax.Lists.{kind_at-present}
use Rattle.ir_folds.proofs.Traversal.FoldSteps.{folds-reached}
use Rattle.ir_folds.proofs.Traversal.FoldStops.{row-bounds}
use Rattle.candidate_eval.specs.Builtins.Callable.{IsMadeStop}
use Rattle.candidate_eval.specs.Builtins.Destruct.{IsConditionsStop}
use Rattle.candidate_eval.specs.Builtins.Tables.{Asks as AsksTypes, Cell, Excluded, IsCellStop, IsTypesStop, Refused}
use Rattle.candidate_eval.specs.Interface.Evaluators.{IsMakingStop}
use Rattle.candidate_eval.specs.Interface.Noting.{HasWideNode, IsNotingStop}
use Rattle.candidate_eval.specs.Interface.Unmade.{IsFilled, IsMade, IsUnmade}
use Rattle.candidate_eval.proofs.Interface.StopKinds.{elaboration_making, subst_making}

-- No tree is higher than the highest, but for the error that stands for a number that isn't there.

tree-low : (ts : List Tree) (n : ℕ) → height (tree_at ts n) ≤ max 1 (tallest ts)
tree-low [] n = omega arith
tree-low (t ∷ ts) zero = omega arith
tree-low (t ∷ ts) (suc n) = omega (arith, tree-low ts n)

trees-low : (ts : List Tree) (ns : List ℕ) → tallest (trees_at ts ns) ≤ max 1 (tallest ts)
trees-low ts [] = omega arith
trees-low ts (n ∷ ns) = omega (arith, tree-low ts n, trees-low ts ns)

pub row-low : (ts : List Tree) (ns : List ℕ) → heights (rows (trees_at ts ns)) ≤ suc (max 1 (tallest ts))
row-low ts ns = omega (arith, rows-height (trees_at ts ns), trees-low ts ns)

node-low : (ts : List Tree) (d : Node) → height (node_tree ts d) ≤ suc (max 1 (tallest ts))
node-low ts d = omega (arith, weight-low (kind_of (head_of d)), rows-height (trees_at ts (numbers (children_of d))), trees-low ts (numbers (children_of d)))
  where
    weight-low : (k : Kind) → kind_weight k ≤ 1
    weight-low TypeKind = omega arith
    weight-low ConstantKind = omega arith
    weight-low _ = omega arith

-- There are no fewer numbers where the trees are more, and the highest is no lower.

pub longer : (ts us : List Tree) → Extends ts us → length ts ≤ length us
longer ts us e = omega (arith, ap length e.is, length-append ts e.added)

tallest-more : (ts us : List Tree) → tallest ts ≤ tallest (ts ++ us)
tallest-more [] us = omega arith
tallest-more (t ∷ ts) us = omega (arith, tallest-more ts us)

taller : (ts us : List Tree) → Extends ts us → tallest ts ≤ tallest us
taller ts us e = omega (arith, ap tallest e.is, tallest-more ts e.added)

-- A node over trees that are there.
pub mk-unmade : {first old new : Context} {high : ℕ} {s : Stop} → Grows old new → high ≤ suc (max 1 (tallest old.trees)) → IsMkStop old.trees high s → IsUnmade first new s
mk-unmade g l (inl e) = subst (IsUnmade _ _) (sym e) IsUnmade.no_memory
mk-unmade {first} {old} {new} g l (inr e) = subst (IsUnmade first new) (sym e.0) (elim e.1 [ inl f ↦ IsUnmade.no_number (omega (arith, f, longer old.trees new.trees g.kept)) | inr h ↦ IsUnmade.high_tree (omega (arith, h, l, taller old.trees new.trees g.kept)) ])

-- The same of the members of a row of arguments or clauses, of a clause, of a type, and of an empty binder.

pub members-unmade : {first old new : Context} {s : Stop} (ns : List ℕ) → Grows old new → IsMkStop old.trees (heights (rows (trees_at old.trees ns))) s → IsUnmade first new s
members-unmade {old = old} ns g c = mk-unmade g (row-low old.trees ns) c

pub clause-unmade : {first old new : Context} {s : Stop} (x : Binder ClauseKind) → Grows old new → IsMkStop old.trees (height (clause_kind_tree old.trees x)) s → IsUnmade first new s
clause-unmade {old = old} x g c = mk-unmade g (node-low old.trees (N.Clause x)) c

pub type-unmade : {first old new : Context} {s : Stop} (k : TyKind) → Grows old new → IsMkStop old.trees (height (kind_tree old.trees k)) s → IsUnmade first new s
type-unmade {old = old} k g c = mk-unmade g (node-low old.trees (N.Ty k)) c

pub binder-unmade : {first old new : Context} {s : Stop} → Grows old new → IsMkListStop old.trees 1 0 s → IsUnmade first new s
binder-unmade g (inl e) = subst (IsUnmade _ _) (sym e) IsUnmade.no_memory
binder-unmade {first} {old} {new} g (inr e) =
    subst (IsUnmade first new) (sym e.0) (elim e.1 [ inl f ↦ IsUnmade.no_number (omega (arith, f, longer old.trees new.trees g.kept)) | inr h ↦ absurd (omega (arith, h)) ])

pub memory-unmade : {b c : Context} {s : Stop} → s ≡ Memory → IsUnmade b c s
memory-unmade e = subst (IsUnmade _ _) (sym e) IsUnmade.no_memory

pub noting-unmade : {b c : Context} {s : Stop} → IsNotingStop c.trees s → IsUnmade b c s
noting-unmade IsNotingStop.refused_note = IsUnmade.no_memory
noting-unmade (IsNotingStop.at_wide_node w) = IsUnmade.wide_node w

-- These are stops of making nodes.

made-making : (given : ℕ) (ts : List Tree) (s : Stop) → IsMadeStop given ts s → IsMakingStop s
made-making given [] s h = absurd h
made-making given (t ∷ ts) s (inl e) = subst IsMakingStop (sym e) tt
made-making given (t ∷ ts) s (inr m) = subst_making given _ s m.stop

cell-making : (given : ℕ) (c : Cell) (s : Stop) → IsCellStop given c s → IsMakingStop s
cell-making given Excluded s h = absurd h
cell-making given Refused s h = absurd h
cell-making given (AsksTypes p) s (inl e) = subst IsMakingStop (sym e) tt
cell-making given (AsksTypes p) s (inr m) = subst_making given _ s m.stop

conditions-making : (given : ℕ) (rs : Option (List Reference)) (s : Stop) → IsConditionsStop given rs s → IsMakingStop s
conditions-making given None s h = absurd h
conditions-making given (Some rs) s (inl e) = subst IsMakingStop (sym e) tt
conditions-making given (Some rs) s (inr m) = subst_making given _ s m.stop

pub unmade-making : {b c : Context} {s : Stop} → IsUnmade b c s → IsMakingStop s
unmade-making IsUnmade.no_memory = tt
unmade-making (IsUnmade.no_number l) = tt
unmade-making (IsUnmade.high_tree l) = tt
unmade-making (IsUnmade.wide_node w) = tt
unmade-making {b} {c} {s} (IsUnmade.of_trees {made = us} old f g m k) = subst_making (length c.trees) us s k
unmade-making {b} {c} {s} (IsUnmade.of_elaboration old start f g k) = elaboration_making _ _ (length c.trees) s k
unmade-making {b} {c} {s} (IsUnmade.of_cell old column n f g k) = cell-making (length c.trees) _ s k
unmade-making {b} {c} {s} (IsUnmade.of_conditions old n f g k) = conditions-making (length c.trees) _ s k
unmade-making {b} {c} {s} (IsUnmade.of_call old n f g k) = made-making (length c.trees) _ s k
unmade-making {b} {c} {s} (IsUnmade.of_const_call old n f g k) = made-making (length c.trees) _ s k

-- Where more numbers are given, they stay.

pub subst-more : {a b : ℕ} {us : Forest} {s : Stop} → a ≤ b → IsSubstStop a us s → IsSubstStop b us s
subst-more l IsSubstStop.no_memory = IsSubstStop.no_memory
subst-more l (IsSubstStop.few_numbers f) = IsSubstStop.few_numbers (omega (arith, f, l))
subst-more l (IsSubstStop.high_tree h) = IsSubstStop.high_tree h
subst-more l (IsSubstStop.far_variable e) = IsSubstStop.far_variable e

renumber-more : {a b : ℕ} {us : Forest} {s : Stop} → a ≤ b → IsRenumberStop a us s → IsRenumberStop b us s
renumber-more l (IsRenumberStop.unput k) = IsRenumberStop.unput (subst-more l k)
renumber-more l (IsRenumberStop.high_variable e) = IsRenumberStop.high_variable e

instance-more : {a b : ℕ} {t : Tree} {s : Stop} → a ≤ b → IsInstanceStop a t s → IsInstanceStop b t s
instance-more l (inl k) = inl (renumber-more l k)
instance-more l (inr k) = inr (k.0, omega (arith, k.1, l))

elaboration-more : {supers : SuperClauses} {start : List Tree} {a b : ℕ} {s : Stop} → a ≤ b → IsElaborationStop supers start a s → IsElaborationStop supers start b s
elaboration-more l IsElaborationStop.no_memory = IsElaborationStop.no_memory
elaboration-more l (IsElaborationStop.unmade i k) = IsElaborationStop.unmade i (instance-more l k)

types-more : {a b : ℕ} {ts : List Tree} {s : Stop} → a ≤ b → IsTypesStop a ts s → IsTypesStop b ts s
types-more l (inl e) = inl e
types-more l (inr m) = inr (record { place = m.place; type = m.type; is = m.is; stop = subst-more l m.stop })

cell-more : {a b : ℕ} (c : Cell) (s : Stop) → a ≤ b → IsCellStop a c s → IsCellStop b c s
cell-more Excluded s l h = absurd h
cell-more Refused s l h = absurd h
cell-more (AsksTypes p) s l k = types-more l k

made-more : {a b : ℕ} (ts : List Tree) (s : Stop) → a ≤ b → IsMadeStop a ts s → IsMadeStop b ts s
made-more [] s l h = absurd h
made-more (t ∷ ts) s l k = types-more l k

conditions-more : {a b : ℕ} (rs : Option (List Reference)) (s : Stop) → a ≤ b → IsConditionsStop a rs s → IsConditionsStop b rs s
conditions-more None s l h = absurd h
conditions-more (Some rs) s l (inl e) = inl e
conditions-more (Some rs) s l (inr m) = inr (record { place = m.place; reference = m.reference; is = m.is; stop = subst-more l m.stop })

pub wide-later : {c d : Context} → Grows c d → HasWideNode c.trees → HasWideNode d.trees
wide-later {c} {d} g w =
    let k = number-kept c.trees d.trees w.number g.kept w.inside in
    record { number = w.number; inside = omega (arith, w.inside, longer c.trees d.trees g.kept); wide = subst (λ (t : Tree). 18446744073709551615 ≤ count t.children) (sym k.1) w.wide }

-- where the call ends with a later context
pub unmade-later : {b c d : Context} {s : Stop} → Grows c d → IsUnmade b c s → IsUnmade b d s
unmade-later g IsUnmade.no_memory = IsUnmade.no_memory
unmade-later {b} {c} {d} g (IsUnmade.no_number l) = IsUnmade.no_number (omega (arith, l, longer c.trees d.trees g.kept))
unmade-later {b} {c} {d} g (IsUnmade.high_tree l) = IsUnmade.high_tree (omega (arith, l, taller c.trees d.trees g.kept))
unmade-later g (IsUnmade.wide_node w) = IsUnmade.wide_node (wide-later g w)
unmade-later {b} {c} {d} g (IsUnmade.of_trees old f h m k) = IsUnmade.of_trees old f (grows-trans old c d h g) m (subst-more (longer c.trees d.trees g.kept) k)
unmade-later {b} {c} {d} g (IsUnmade.of_elaboration old start f h k) =
    IsUnmade.of_elaboration old start f (grows-trans old c d h g) (elaboration-more (longer c.trees d.trees g.kept) k)
unmade-later {b} {c} {d} g (IsUnmade.of_cell old column n f h k) = IsUnmade.of_cell old column n f (grows-trans old c d h g) (cell-more _ _ (longer c.trees d.trees g.kept) k)
unmade-later {b} {c} {d} g (IsUnmade.of_conditions old n f h k) = IsUnmade.of_conditions old n f (grows-trans old c d h g) (conditions-more _ _ (longer c.trees d.trees g.kept) k)
unmade-later {b} {c} {d} g (IsUnmade.of_call old n f h k) = IsUnmade.of_call old n f (grows-trans old c d h g) (made-more _ _ (longer c.trees d.trees g.kept) k)
unmade-later {b} {c} {d} g (IsUnmade.of_const_call old n f h k) = IsUnmade.of_const_call old n f (grows-trans old c d h g) (made-more _ _ (longer c.trees d.trees g.kept) k)

-- where the call begins with an earlier context
pub unmade-before : {a b c : Context} {s : Stop} → Grows a b → IsUnmade b c s → IsUnmade a c s
unmade-before g IsUnmade.no_memory = IsUnmade.no_memory
unmade-before g (IsUnmade.no_number l) = IsUnmade.no_number l
unmade-before g (IsUnmade.high_tree l) = IsUnmade.high_tree l
unmade-before g (IsUnmade.wide_node w) = IsUnmade.wide_node w
unmade-before {a} {b} g (IsUnmade.of_trees old f h m k) = IsUnmade.of_trees old (grows-trans a b old g f) h m k
unmade-before {a} {b} g (IsUnmade.of_elaboration old start f h k) = IsUnmade.of_elaboration old start (grows-trans a b old g f) h k
unmade-before {a} {b} g (IsUnmade.of_cell old column n f h k) = IsUnmade.of_cell old column n (grows-trans a b old g f) h k
unmade-before {a} {b} g (IsUnmade.of_conditions old n f h k) = IsUnmade.of_conditions old n (grows-trans a b old g f) h k
unmade-before {a} {b} g (IsUnmade.of_call old n f h k) = IsUnmade.of_call old n (grows-trans a b old g f) h k
unmade-before {a} {b} g (IsUnmade.of_const_call old n f h k) = IsUnmade.of_const_call old n (grows-trans a b old g f) h k

-- where it begins earlier and ends later
pub unmade-within : {a b c d : Context} {s : Stop} → Grows a b → IsUnmade b c s → Grows c d → IsUnmade a d s
unmade-within g u h = unmade-before g (unmade-later h u)

-- Of folds by a closure that never stops: what it answers is there then.

filled-later : {c d : Context} {ts us : Forest} → Grows c d → IsFilled c.trees ts us → IsFilled d.trees ts us
filled-later g IsFilled.ended = IsFilled.ended
filled-later g (IsFilled.stays b r) = IsFilled.stays (filled-later g b) (filled-later g r)
filled-later {c} {d} g (IsFilled.put_in {h = h} {below = below} {rest = rest} {us = us} n l r) =
    let k = number-kept c.trees d.trees n g.kept l in
    subst (λ (t : Tree). IsFilled d.trees (tree h below rest) (tree t.head t.children us)) k.1
    (IsFilled.put_in n (omega (arith, l, longer c.trees d.trees g.kept)) (filled-later g r))
filled-later g (IsFilled.within p) = IsFilled.within (filled-later g p)
filled-later g (IsFilled.later p) = IsFilled.later (filled-later g p)

filled-first : {ts : List Tree} (first others : Forest) {us : Forest} → IsFilled ts first us → IsFilled ts (join first others) us
filled-first none others IsFilled.ended = IsFilled.ended
filled-first (tree h below rest) others IsFilled.ended = IsFilled.ended
filled-first (tree h below rest) others (IsFilled.stays b r) = IsFilled.stays b (filled-first rest others r)
filled-first (tree h below rest) others (IsFilled.put_in n l r) = IsFilled.put_in n l (filled-first rest others r)
filled-first (tree h below rest) others (IsFilled.within p) = IsFilled.within p
filled-first (tree h below rest) others (IsFilled.later p) = IsFilled.later (filled-first rest others p)

count-bounds : (ts : Forest) → are_bounds ts ≡ true → count ts ≤ bounds_in ts
count-bounds none e = omega arith
count-bounds (tree h below rest) e = at (is_bound_kind (kind_of h)) refl e (λ k. count-bounds rest k)
  where
    at : (b : Bool) → is_bound_kind (kind_of h) ≡ b → b && are_bounds rest ≡ true → (are_bounds rest ≡ true → count rest ≤ bounds_in rest) → count (tree h below rest) ≤ bounds_in (tree h below rest)
    at true k e more =
        let one_of : Bool → ℕ = λ b. if b then 1 else 0 in
        let one : one_of (is_bound_kind (kind_of h)) ≡ 1 = ap one_of k in
        omega (arith, one, more e)
    at false k e more = absurd cc

some-same : {A : Type 0} {a b : A} → Some a ≡ Some b → a ≡ b
some-same {a = a} e = ap (λ (o : Option _). get_some a o) e
  where
    get_some : {A : Type 0} → A → Option A → A
    get_some d None = d
    get_some d (Some x) = x

-- what is answered is there
answer-there : (ts : List Tree) (x : GenericArg) (y : Option GenericArg) {h : Head} {inner : Forest} → IsOfKind ts x y → option_map (arg_tree ts) y ≡ Some (node h inner)
    → (n : ℕ) × ((n < length ts) × (tree_at ts n ≡ node h inner))
answer-there ts x None k e = absurd cc
answer-there ts x (Some y) k e = (arg_number y, (kind_at-present ts (arg_number y) (ap there k.0 ∙ arg_there y), some-same e))

put-there : {c d : Context} {h top : Head} {below inner rest us : Forest} (n : ℕ) → Grows c d → n < length c.trees → tree_at c.trees n ≡ node top inner → IsFilled d.trees rest us
    → IsFilled d.trees (tree h below rest) (tree top inner us)
put-there {c} {d} {h} {top} {below} {inner} {rest} {us} n g l e r =
    let k = number-kept c.trees d.trees n g.kept l in
    subst (λ (t : Tree). IsFilled d.trees (tree h below rest) (tree t.head t.children us)) (k.1 ∙ e) (IsFilled.put_in n (omega (arith, l, longer c.trees d.trees g.kept)) r)

module _ {M Rest F : Type 0} (context : M → Context) (others : M → Rest)
    (g : Mut F (MutBor M × (GenericArg × (ℕ × Unit {0}))) (Result (Option GenericArg) Stop × (MutBor M × Unit {0}))) where
  reached-grows : (s0 s : F × M) → IsReached context others g s0 s → Grows (context s0.1) (context s.1)
  reached-grows s0 s here = grows-refl (context s0.1)
  reached-grows s0 s (by_call {m = m} l k) = grows-trans (context s0.1) (context m.1) (context s.1) (reached-grows s0 m l) k.grows
  reached-grows s0 s (by_nodes {m = m} l k) = grows-trans (context s0.1) (context m.1) (context s.1) (reached-grows s0 m l) k.grows

  folds-grow : {s e : F × M} {d : ℕ} {ts us : Forest} → FoldsBy context others g s d ts us e → Grows (context s.1) (context e.1)
  folds-grow {s} {e} p = reached-grows s e (folds-reached context others g p)

  folds-filled : {s e : F × M} {d : ℕ} {ts us : Forest} → FoldsBy context others g s d ts us e → IsFilled (context e.1).trees ts us
  folds-filled ended = IsFilled.ended
  folds-filled (made i p) = folds-filled p
  folds-filled (replaced {m = m} i a p) =
      let x = answer-there (context m.1).trees a.of a.answer a.of_kind a.seen in
      put-there x.0 (folds-grow p) x.1.0 x.1.1 (folds-filled p)
  folds-filled (opened i a p q) = IsFilled.stays (filled-later (folds-grow q) (folds-filled p)) (folds-filled q)
  folds-filled (passed i p q) = IsFilled.stays (filled-later (folds-grow q) (folds-filled p)) (folds-filled q)

  -- a part of the row, filled, that wasn't made
  abbrev IsUnfilled : Context → Forest → Stop → Type 0
  IsUnfilled c ts x = (us : Forest) × (IsFilled c.trees ts us × IsSubstStop (length c.trees) us x)

  module _ (never : (t u : F × M) (y : GenericArg) (n : ℕ) (z : Stop) → Says context others g t y n (Err z) u → ⊥) where
    stops-unfilled : {s e : F × M} {d : ℕ} {ts : Forest} {x : Stop} → StopsBy context others g s d ts x e → IsUnfilled (context e.1) ts x
    stops-unfilled (memory l) = (none, (IsFilled.ended, IsSubstStop.no_memory))
    stops-unfilled {s} {e} {d = d} {x = x} (refused h r) = absurd (never s e r.of d x r.says)
    stops-unfilled {e = e} (too_high {first = first} {made = us} rest i p h) =
        (us, (subst (λ (ts : Forest). IsFilled (context e.1).trees ts us) (sym i) (filled-first first rest (folds-filled p)), IsSubstStop.high_tree h))
    stops-unfilled (full l h) = (none, (IsFilled.ended, IsSubstStop.few_numbers (omega (arith, h))))
    stops-unfilled {e = e} (too_few {first = first} {made = us} rest i p b h) =
        (us, (subst (λ (ts : Forest). IsFilled (context e.1).trees ts us) (sym i) (filled-first first rest (folds-filled p)), IsSubstStop.few_numbers (omega (arith, h, count-bounds us b, row-bounds us))))
    stops-unfilled (after o p) = stops-unfilled p
    stops-unfilled (below_asked h a p) = let u = stops-unfilled p in (u.0, (IsFilled.within u.1.0, u.1.1))
    stops-unfilled (below_passed h p) = let u = stops-unfilled p in (u.0, (IsFilled.within u.1.0, u.1.1))
    stops-unfilled (later p q) = let u = stops-unfilled q in (u.0, (IsFilled.later u.1.0, u.1.1))

    pub fold-unmade : {A : Type 0} (s e : F × M) (d : ℕ) (k : Kind) (n : ℕ) (r : Result A Stop) → n < length (context s.1).trees → Grows (context s.1) (context e.1)
        → IfErr r (λ x. StopsBy context others g s d (row_of k (tree_at (context s.1).trees n)) x e) → IfErr r (IsUnmade (context s.1) (context e.1))
    fold-unmade s e d k n (Ok v) l grown p = tt
    fold-unmade s e d k n (Err x) l grown p =
        let u = stops-unfilled p in
        let same = number-kept (context s.1).trees (context e.1).trees n grown.kept l in
        IsUnmade.of_trees (context e.1) grown (grows-refl (context e.1)) (IsMade.filled k n (subst (λ (t : Tree). IsFilled (context e.1).trees (row_of k t) u.0) (sym same.1) u.1.0)) u.1.1
