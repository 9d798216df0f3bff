-- Region constraints that are made and recorded.
use Rattle.std.proofs.Common.{◌≡◌, ℕ, suc, Bool, false, List, [], ◌∷◌, ◌++◌, length, map, Result, Ok, Err, IfOk, IfErr, OnOk, append_assoc, refl, sym, ◌∙◌, ap, arith, if◌then◌else◌, inr}
use Rattle.std.proofs.lemmas.List.{length-append, map-append}
use Rattle.ir_trees.specs.declared.ir.heads.Head.TheVariants as H
use Rattle.ir_trees.specs.declared.ir.heads.PartHead.TheVariants as P
use Rattle.ir_trees.specs.declared.ir.heads.ClauseHead.TheVariants as Cl
use Rattle.ir_trees.specs.declared.ir.kinds.Binder.{Binder}
use Rattle.ir_trees.specs.declared.ir.kinds.Clause.{Clause}
use Rattle.ir_trees.specs.declared.ir.kinds.ClauseKind.{ClauseKind}
use Rattle.ir_trees.specs.declared.ir.kinds.ClauseKind.TheVariants as K
use Rattle.ir_trees.specs.declared.ir.kinds.Region.{Region}
use Rattle.ir_trees.specs.declared.ir.kinds.Vars.{Vars}
use Rattle.ir_trees.specs.declared.ir.stop.Stop.{Stop}
use Rattle.ir_trees.specs.Declarations.Context.{Context, Grows}
use Rattle.ir_trees.specs.Syntax.Nodes.{Extends, tree_at}
use Rattle.ir_trees.specs.Declarations.References.{Takes}
use Rattle.ir_trees.specs.Syntax.Trees.{Forest, none, tree, Tree, BinderKind, RegionKind, row}
use Rattle.ir_trees.specs.Unification.Unify.{same_head}
use Rattle.ir_trees.specs.Syntax.Words.{ClauseFits, IsClause, IsRegion, IsVars, binder_tree, clause_kind_tree, clause_tree, region_tree, vars_tree}
use Rattle.ir_trees.specs.Declarations.Worlds.{World}
use Rattle.ir_trees.proofs.Kinding.Arity.{either-outlives}
use Rattle.ir_trees.proofs.Syntax.Rows.{row-single}
use Rattle.candidate_eval.specs.declared.eval.mode.TypingMode.{TypingMode}
use Rattle.candidate_eval.specs.Judges.States.{State}
use Rattle.rounds_judge.specs.Equations.Equating.{outlives, with_equal_regions}
use Rattle.candidate_rounds.specs.Evaluators.Inferences.{Inference, IsFurther, record_region, back_to}
use Rattle.candidate_rounds.specs.Evaluators.Known.{IsChange, IsConsistent, IsKnown, state_of}
use Rattle.candidate_rounds.proofs.Evaluators.Going.{back-to-before, further-call, further-region, further-trans, region-kept}
use Rattle.candidate_rounds.proofs.Snapshots.Holding.{change-holds, tidy-now}
use Rattle.candidate_rounds.proofs.Snapshots.Knowing.{clause-stays, each-append, is-clause-stays, state-stays}
use Rattle.candidate_rounds.proofs.Snapshots.Probing.{holds-after, holds-grown}
use Rattle.candidate_rounds.proofs.Snapshots.Undoing.{undo-region}

-- The clause that one region outlives another is made.

abbrev pub said : Vars → Region → Region → Binder ClauseKind
said vs a b = record { vars = vs; value = K.RegionOutlives a b }

pub outlives-fits : (ts : List Tree) (vs : Vars) (a b : Region) → IsVars ts vs → IsRegion ts a → IsRegion ts b → ClauseFits ts (said vs a b)
outlives-fits ts vs a b v i j = λ n. v n ∷ i n ∷ j n ∷ []

pub outlives-takes : (w : World) (ts : List Tree) (vs : Vars) (a b : Region) → IsVars ts vs → IsRegion ts a → IsRegion ts b → Takes w (clause_kind_tree ts (said vs a b))
outlives-takes w ts vs a b v i j = either-outlives w ts (said vs a b) (inr (a, b, refl)) (outlives-fits ts vs a b v i j)

outlives-tree : (ts : List Tree) (vs : Vars) (a b : Region) → IsVars ts vs → IsRegion ts a → IsRegion ts b → vars_tree ts vs ≡ binder_tree []
    → clause_kind_tree ts (said vs a b) ≡ outlives (region_tree ts a) (region_tree ts b)
outlives-tree ts vs a b v i j e =
    let f : Forest = row (tree_at ts a.0) (row (tree_at ts b.0) none) in
    ap over
    (row-single ts vs.0 BinderKind f refl refl v
    ∙ (ap (λ (t : Tree). tree t.head t.children f) e
    ∙ ap (tree (H.Part P.Vars) none)
    (row-single ts a.0 RegionKind (row (tree_at ts b.0) none) refl refl i
    ∙ ap (tree (tree_at ts a.0).head (tree_at ts a.0).children) (row-single ts b.0 RegionKind none refl refl j))))
  where
    over : Forest → Tree
    over f = record { head = H.Part (P.Clause Cl.RegionOutlives); children = f }

-- the same in the context before its binder was made
pub outlives-before : (old mid : Context) (vs : Vars) (a b : Region) → Grows old mid → IsVars mid.trees vs → IsRegion old.trees a → IsRegion old.trees b → vars_tree mid.trees vs ≡ binder_tree []
    → clause_kind_tree mid.trees (said vs a b) ≡ outlives (region_tree old.trees a) (region_tree old.trees b)
outlives-before old mid vs a b g v i j e =
    let x = region-kept old mid a g i in
    let y = region-kept old mid b g j in
    outlives-tree mid.trees vs a b v x.0 y.0 e ∙ (ap (λ t. outlives t (region_tree mid.trees b)) x.1 ∙ ap (outlives (region_tree old.trees a)) y.1)

pub outlives-made : (old mid : Context) (ts : List Tree) (vs : Vars) (a b : Region) (r : Result Clause Stop) → Grows old mid → IsVars mid.trees vs → IsRegion old.trees a → IsRegion old.trees b
    → vars_tree mid.trees vs ≡ binder_tree [] → IfOk r (λ c. clause_tree ts c ≡ clause_kind_tree mid.trees (said vs a b))
    → IfOk r (λ c. clause_tree ts c ≡ outlives (region_tree old.trees a) (region_tree old.trees b))
outlives-made old mid ts vs a b (Err s) g v i j e k = tt
outlives-made old mid ts vs a b (Ok c) g v i j e k = k ∙ outlives-before old mid vs a b g v i j e

-- one that was made stays, with its tree
pub clause-kept : (old new : Context) (c : Clause) (t : Tree) → Grows old new → IsClause old.trees c → clause_tree old.trees c ≡ t → IsClause new.trees c × (clause_tree new.trees c ≡ t)
clause-kept old new c t g i e = (is-clause-stays old.trees new.trees c g.kept i, clause-stays old.trees new.trees c g.kept i ∙ e)

pub outlives-kept : (old new : Context) (c : Clause) (ts : List Tree) (a b : Region) → Grows old new → IsRegion old.trees a → IsRegion old.trees b → IsClause ts c
    → clause_tree ts c ≡ outlives (region_tree new.trees a) (region_tree new.trees b) → IsClause ts c × (clause_tree ts c ≡ outlives (region_tree old.trees a) (region_tree old.trees b))
outlives-kept old new c ts a b g i j k e =
    let x = region-kept old new a g i in
    let y = region-kept old new b g j in
    (k, e ∙ (ap (λ t. outlives t (region_tree new.trees b)) x.1 ∙ ap (outlives (region_tree old.trees a)) y.1))

-- A constraint is recorded.

one-more : {A : Type 0} (xs : List A) (x : A) → length (xs ++ x ∷ []) ≡ suc (length xs)
one-more xs x = length-append xs (x ∷ []) ∙ omega arith

pub holds-region : (ts : List Tree) (s : Inference) (ks : List ℕ) (c : Clause) → IsConsistent ts s ks → IsClause ts c → IsConsistent ts (record_region s c) ks
holds-region ts s ks c h i =
    holds-after ts s (record_region s c) ks h (undo-region s c) (one-more s.trail _)
    (record { values = h.known.values; regions = each-append (IsClause ts) s.regions c h.known.regions i; goals = h.known.goals; changes = each-append (IsChange ts) s.trail _ h.known.changes tt })
    (let t = tidy-now ts s ks h in record { pending = t.pending; kinds = t.kinds; room = t.room; universes = t.universes })

-- Two are.

abbrev pub both : Inference → Clause → Clause → Inference
both s c d = record_region (record_region s c) d

pub both-undone : (s t u : Inference) (n : ℕ) (c : Clause) → n ≡ length s.trail → t ≡ record_region s c → u ≡ back_to n t → u ≡ s
both-undone s t u n c e p q = q ∙ (ap (back_to n) p ∙ (ap (λ k. back_to k (record_region s c)) e ∙ back-to-before s (record_region s c) (further-region s c)))

pub further-both : {A : Type 0} (s t : Inference) (c d : Clause) (r : Result A Stop) → IfOk r (λ _. t ≡ both s c d) → IfErr r (λ _. t ≡ s) → IsFurther s t
further-both s t c d r p q = further-call s t (both s c d) r (further-trans s (record_region s c) (both s c d) (further-region s c) (further-region (record_region s c) d)) p q

pub holds-both : {A : Type 0} (ts us : List Tree) (s t : Inference) (ks : List ℕ) (c d : Clause) (r : Result A Stop) → Extends ts us → IsConsistent ts s ks → IsClause us c → IsClause us d
    → IfOk r (λ _. t ≡ both s c d) → IfErr r (λ _. t ≡ s) → IsConsistent us t ks
holds-both ts us s t ks c d r x h i j p q =
    let grown = holds-grown ts us s ks x h in
    change-holds us s t (both s c d) ks r grown (holds-region us (record_region s c) ks d (holds-region us s ks c grown i) j) p q

state-both : (ts : List Tree) (m : TypingMode) (s : Inference) (c d : Clause) → state_of ts m (both s c d) ≡ record (state_of ts m s) { regions = (state_of ts m s).regions ++ clause_tree ts c ∷ clause_tree ts d ∷ [] }
state-both ts m s c d =
    ap (λ rs. record (state_of ts m s) { regions = rs })
    (map-append (clause_tree ts) (s.regions ++ c ∷ []) (d ∷ [])
    ∙ (ap (λ xs. xs ++ clause_tree ts d ∷ []) (map-append (clause_tree ts) s.regions (c ∷ []))
    ∙ append_assoc (map (clause_tree ts) s.regions) (clause_tree ts c ∷ []) (clause_tree ts d ∷ [])))

pub equal-recorded : {A : Type 0} (ts us : List Tree) (m : TypingMode) (s t : Inference) (c d : Clause) (x y : Tree) (r : Result A Stop) → Extends ts us → IsKnown ts s → same_head x.head y.head ≡ false
    → clause_tree us c ≡ outlives x y → clause_tree us d ≡ outlives y x → IfOk r (λ _. t ≡ both s c d) → OnOk r (state_of us m t ≡ with_equal_regions (state_of ts m s) x y)
equal-recorded ts us m s t c d x y (Err e) g k n f h p = tt
equal-recorded ts us m s t c d x y (Ok a) g k n f h p =
    let S = state_of ts m s in
    ap (state_of us m) p
    ∙ (state-both us m s c d
    ∙ (ap (λ (T : State). record T { regions = T.regions ++ clause_tree us c ∷ clause_tree us d ∷ [] }) (state-stays ts us m s g k)
    ∙ (ap (λ z. record S { regions = S.regions ++ z ∷ clause_tree us d ∷ [] }) f
    ∙ (ap (λ z. record S { regions = S.regions ++ outlives x y ∷ z ∷ [] }) h
    ∙ sym (ap (λ (b : Bool). if b then S else record S { regions = S.regions ++ outlives x y ∷ outlives y x ∷ [] }) n)))))
