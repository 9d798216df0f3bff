-- An evaluator that goes on: what it was is kept, and what is known can be undone.
use Rattle.std.proofs.Common.{◌≡◌, ℕ, ◌≤◌, Bool, true, false, List, ◌∷◌, [], ◌++◌, length, Result, Ok, Err, IfOk, IfErr, refl, sym, ◌∙◌, ap, subst, arith}
use Rattle.std.proofs.lemmas.List.{length-append}
use Rattle.ir_trees.specs.declared.ir.kinds.Clause.{Clause}
use Rattle.ir_trees.specs.declared.ir.kinds.Const.{Const}
use Rattle.ir_trees.specs.declared.ir.kinds.GenericArg.{GenericArg}
use Rattle.ir_trees.specs.declared.ir.kinds.Goal.{Goal}
use Rattle.ir_trees.specs.declared.ir.kinds.GoalSource.{GoalSource}
use Rattle.ir_trees.specs.declared.ir.kinds.Region.{Region}
use Rattle.ir_trees.specs.declared.ir.kinds.VarKind.{VarKind}
use Rattle.ir_trees.specs.declared.ir.stop.Stop.{Stop}
use Rattle.ir_trees.specs.Declarations.Context.{Context, Grows, parameter_kind}
use Rattle.ir_trees.specs.Syntax.Trees.{Kind, ConstantKind, RegionKind}
use Rattle.ir_trees.specs.Syntax.Nodes.{kind_at, tree_at}
use Rattle.ir_trees.specs.Syntax.Words.{IsConst, IsRegion, const_tree, region_tree}
use Rattle.ir_trees.proofs.Growth.Kept.{grows-refl, grows-trans, number-kept}
use Rattle.ir_trees.proofs.Syntax.Lists.{below_kind}
use Rattle.ir_trees.specs.Syntax.Trees.{there}
use Rattle.candidate_eval.specs.declared.eval.variable.VariableKind.{VariableKind}
use Rattle.candidate_eval.specs.Judges.States.{variable_kind}
use Rattle.candidate_rounds.specs.declared.rounds.inference.Change.{Change}
use Rattle.candidate_rounds.specs.Evaluators.Inferences.{Inference, IsFurther, with_variable, with_variables, assign, lower, with_newest, record_region, add, add_all, widen, begin_pending, back_to}
use Rattle.candidate_rounds.specs.Table.Goals.{IsTabled, table_seen}
use Rattle.rounds_judge.specs.Table.GoalTable.{well_entered}
use Rattle.candidate_rounds.proofs.Table.Tabled.{tabled-sees}
use Rattle.candidate_eval.specs.Interface.Evaluators.{NoFault}
use Rattle.candidate_rounds.specs.Evaluators.Known.{Evaluator, GoesOn, KeepsGiven, IsKnown, IsGiven, IsEvaluator, AreMarks, state, state_of, states_at, probes, listing, reads, table_of, listing_by}
use Rattle.candidate_rounds.proofs.Evaluators.Between.{parts}
use Rattle.candidate_rounds.proofs.Snapshots.Undoing.{undo-variable, undo-assign, undo-lower, undo-newest, undo-region, undo-goal, undo-pending, undo-widen, back-to-now}
use Rattle.candidate_rounds.proofs.Snapshots.Knowing.{probes-stay, probes-grow, state-stays, normals-extend}

-- What is known goes further, and further from there.

pub further-refl : (s : Inference) → IsFurther s s
further-refl s = (omega arith, λ n l. refl)

pub further-trans : (s t u : Inference) → IsFurther s t → IsFurther t u → IsFurther s u
further-trans s t u f g = (omega (arith, f.0, g.0), λ n l. g.1 n (omega (arith, l, f.0)) ∙ f.1 n l)

pub one-longer : (s : Inference) (c : Change) → length s.trail ≤ length (s.trail ++ c ∷ [])
one-longer s c = let n = length-append s.trail (c ∷ []) in omega (arith, n)

pub further-variable : (s : Inference) (k : VariableKind) (r : Bool) → IsFurther s (with_variable s k r)
further-variable s k r = (one-longer s _, undo-variable s k r)

pub further-assign : (s : Inference) (i : ℕ) (v : GenericArg) → IsFurther s (assign s i v)
further-assign s i v = (one-longer s _, undo-assign s i v)

pub further-lower : (s : Inference) (i u : ℕ) → IsFurther s (lower s i u)
further-lower s i u = (one-longer s _, undo-lower s i u)

pub further-newest : (s : Inference) (u : ℕ) → IsFurther s (with_newest s u)
further-newest s u = (one-longer s _, undo-newest s u)

pub further-region : (s : Inference) (c : Clause) → IsFurther s (record_region s c)
further-region s c = (one-longer s _, undo-region s c)

pub further-goal : (s : Inference) (f : GoalSource) (g : Goal Clause) → IsFurther s (add s f g)
further-goal s f g = (one-longer s _, undo-goal s f g)

pub further-pending : (s : Inference) (n : ℕ) → IsFurther s (begin_pending s n)
further-pending s n = (one-longer s _, undo-pending s n)

pub further-widen : (s : Inference) (n : ℕ) → IsFurther s (widen s n)
further-widen s n = (one-longer s _, undo-widen s n)

pub further-goals : (s : Inference) (f : GoalSource) (gs : List (Goal Clause)) → IsFurther s (add_all s f gs)
further-goals s f [] = further-refl s
further-goals s f (g ∷ gs) = further-trans s (add s f g) (add_all (add s f g) f gs) (further-goal s f g) (further-goals (add s f g) f gs)

pub further-variables : (s : Inference) (ks : List VarKind) → IsFurther s (with_variables s ks)
further-variables s [] = further-refl s
further-variables s (k ∷ ks) =
    let one = with_variable s (variable_kind (parameter_kind k)) false in
    further-trans s one (with_variables one ks) (further-variable s (variable_kind (parameter_kind k)) false) (further-variables one ks)

-- A call that made one change or none.
pub further-call : {A : Type 0} (s t u : Inference) (r : Result A Stop) → IsFurther s u → IfOk r (λ _. t ≡ u) → IfErr r (λ _. t ≡ s) → IsFurther s t
further-call s t u (Ok a) k p q = subst (IsFurther s) (sym p) k
further-call s t u (Err e) k p q = subst (IsFurther s) (sym q) (further-refl s)

-- To go back to what was known before.
pub back-to-before : (s t : Inference) → IsFurther s t → back_to (length s.trail) t ≡ s
back-to-before s t f = f.1 (length s.trail) (omega arith) ∙ back-to-now s

-- The evaluator goes on.

pub goes-refl : (r : Evaluator) → GoesOn r r
goes-refl r = (grows-refl r.context, (refl, refl, refl, refl), refl, refl, further-refl r.inference, refl)

pub goes-trans : (r s t : Evaluator) → GoesOn r s → GoesOn s t → GoesOn r t
goes-trans r s t g h = (
  grows-trans r.context s.context t.context g.0 h.0,
  (h.1.0 ∙ g.1.0, h.1.1 ∙ g.1.1, h.1.2 ∙ g.1.2, h.1.3 ∙ g.1.3),
  h.2 ∙ g.2,
  h.3 ∙ g.3,
  further-trans r.inference s.inference t.inference g.4 h.4,
  h.5 ∙ g.5,
)

-- where the context alone is another
pub goes-context : (r : Evaluator) (x : Context) → Grows r.context x → NoFault r.context x → GoesOn r (record r { context = x })
goes-context r x g n = (g, (refl, refl, refl, refl), refl, refl, further-refl r.inference, n)

-- where what is known alone is more
pub goes-further : (r : Evaluator) (t : Inference) → IsFurther r.inference t → GoesOn r (record r { inference = t })
goes-further r t f = (grows-refl r.context, (refl, refl, refl, refl), refl, refl, f, refl)

-- where both are
pub goes-both : (r : Evaluator) (x : Context) (t : Inference) → Grows r.context x → NoFault r.context x → IsFurther r.inference t → GoesOn r (record r { context = x; inference = t })
goes-both r x t g n f = (g, (refl, refl, refl, refl), refl, refl, f, n)

-- What it was can be come back to.
pub goes-back : (r s : Evaluator) → GoesOn r s → back_to (length r.inference.trail) s.inference ≡ r.inference
goes-back r s g = back-to-before r.inference s.inference g.4

-- once what is known is taken back, it has gone on all the same
pub goes-undone : (r s t : Evaluator) → GoesOn r s → Grows s.context t.context → NoFault s.context t.context → KeepsGiven s t → t.mode ≡ s.mode → t.marks ≡ s.marks
    → t.inference ≡ back_to (length r.inference.trail) s.inference → GoesOn r t × (t.inference ≡ r.inference)
goes-undone r s t g x q k m n e =
    let same : t.inference ≡ r.inference = e ∙ goes-back r s g in (
      (
        grows-trans r.context s.context t.context g.0 x,
        (k.0 ∙ g.1.0, k.1 ∙ g.1.1, k.2 ∙ g.1.2, k.3 ∙ g.1.3),
        m ∙ g.2,
        n ∙ g.3,
        subst (IsFurther r.inference) (sym same) (further-refl r.inference),
        q ∙ g.5,
      ),
      same,
    )

-- The trees of what was known are what they were.
pub goes-before : (r s : Evaluator) → GoesOn r s → IsKnown r.context.trees r.inference → state_of s.context.trees r.mode r.inference ≡ state r
goes-before r s g k = state-stays r.context.trees s.context.trees r.mode r.inference g.0.kept k

-- where nothing more is known, the state is what it was
pub goes-same : (r s : Evaluator) → GoesOn r s → s.inference ≡ r.inference → IsKnown r.context.trees r.inference → state s ≡ state r
goes-same r s g e k =
    ap (λ i. state_of s.context.trees s.mode i) e
    ∙ (ap (λ m. state_of s.context.trees m r.inference) g.2
    ∙ goes-before r s g k)

-- Open probes are where they were.
pub goes-probes : (r s : Evaluator) → GoesOn r s → IsKnown r.context.trees r.inference → AreMarks (length r.inference.trail) r.marks → probes s ≡ probes r
goes-probes r s g k m =
    ap (λ ks. states_at s.context.trees s.mode s.inference ks) g.3
    ∙ (ap (λ x. states_at s.context.trees x s.inference r.marks) g.2
    ∙ (probes-stay s.context.trees r.mode r.inference s.inference r.marks m g.4.1
    ∙ probes-grow r.context.trees s.context.trees r.mode r.inference r.marks g.0.kept k))

-- What is listed is what it was.
pub goes-listing : (r s : Evaluator) → GoesOn r s → IsGiven r.context.trees r.normal.pairs r.opaques → listing s ≡ listing r
goes-listing r s g k =
    ap (listing_by s.context.trees) g.1.0 ∙ normals-extend r.context.trees s.context.trees r.normal g.0.kept k.types

-- What is read is what it was.

pub goes-table : (r s : Evaluator) → GoesOn r s → IsTabled r.context.trees r.goals → table_of s ≡ table_of r
goes-table r s g h = ap (table_seen s.context.trees) g.1.2 ∙ tabled-sees r.context.trees s.context.trees g.0.kept r.goals h

pub goes-reads : (r s : Evaluator) → GoesOn r s → IsEvaluator r.context r.inference r.marks r.normal r.opaques r.goals → reads s ≡ reads r
goes-reads r s g h =
    let l = goes-listing r s g (parts h).given in
    let t = goes-table r s g (parts h).tabled in
    λ i. record { listing = l i; table = well_entered (t i) }

-- The same, of one of which all is known that always holds.

pub goes-all : (r s : Evaluator) → GoesOn r s → IsEvaluator r.context r.inference r.marks r.normal r.opaques r.goals
    → (state_of s.context.trees r.mode r.inference ≡ state r) × (probes s ≡ probes r) × (listing s ≡ listing r)
goes-all r s g h = (
  goes-before r s g (parts h).consistent.known,
  goes-probes r s g (parts h).consistent.known (parts h).consistent.marks,
  goes-listing r s g (parts h).given,
)

-- Numbers have their kinds and trees still.

pub number-stays : (old new : Context) (n : ℕ) (k : Kind) → Grows old new → there k ≡ true → kind_at old.trees n ≡ k → (kind_at new.trees n ≡ k) × (tree_at new.trees n ≡ tree_at old.trees n)
number-stays old new n k g t i =
    let p = number-kept old.trees new.trees n g.kept (below_kind old.trees n k t i) in
    (p.0 ∙ i, p.1)

pub const-kept : (old new : Context) (c : Const) → Grows old new → IsConst old.trees c → IsConst new.trees c × (const_tree new.trees c ≡ const_tree old.trees c)
const-kept old new c g i = number-stays old new c.0 ConstantKind g refl i

pub region-kept : (old new : Context) (c : Region) → Grows old new → IsRegion old.trees c → IsRegion new.trees c × (region_tree new.trees c ≡ region_tree old.trees c)
region-kept old new c g i = number-stays old new c.0 RegionKind g refl i
