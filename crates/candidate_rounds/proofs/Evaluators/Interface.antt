-- What an evaluator of rounds is to generic code stays so.
use Rattle.std.proofs.Common.{◌≡◌, ◌≢◌, List, [], ◌∷◌, Option, Some, None, Result, Ok, Err, IfErr, IfOk, OnErr, OnOk, map, refl, sym, ◌∙◌, ap, subst}
use Rattle.std.specs.List.{All}
use Rattle.std.proofs.lemmas.List.Elements.{All-cons, All-nil}
use Rattle.ir_trees.specs.declared.ir.kinds.AliasTy.{AliasTy}
use Rattle.ir_trees.specs.declared.ir.kinds.Clause.{Clause}
use Rattle.ir_trees.specs.declared.ir.kinds.Goal.{Goal}
use Rattle.ir_trees.specs.declared.ir.kinds.GoalSource.{GoalSource}
use Rattle.ir_trees.specs.declared.ir.kinds.TyKind.TheVariants as K
use Rattle.ir_trees.specs.Declarations.Context.{Context, Grows, world, world_of}
use Rattle.ir_trees.specs.Syntax.Nodes.{Extends}
use Rattle.ir_trees.specs.Syntax.Trees.{Forest, Tree}
use Rattle.ir_trees.specs.Syntax.Words.{KindFits, kind_tree}
use Rattle.ir_trees.proofs.Growth.Kept.{grows-refl}
use Rattle.candidate_eval.specs.Interface.Evaluators.{IsGoal, Keeps, NoFault, accepted, alias_trees, with_left}
use Rattle.candidate_eval.specs.declared.eval.refusal.NoSolutionOrStop.{NoSolutionOrStop}
use Rattle.candidate_eval.specs.Judges.States.{Env, State, next, Pending}
use Rattle.rounds_judge.specs.Aliases.WellListed.{well_listed}
use Rattle.rounds_judge.proofs.Aliases.WellListed.{all-listed}
use Rattle.rounds_judge.specs.Equations.Opening.{equation}
use Rattle.candidate_rounds.specs.Table.Entries.{GoalEntry}
use Rattle.candidate_rounds.specs.Table.Goals.{IsTabled, table_seen}
use Rattle.candidate_rounds.proofs.Table.Tabled.{tabled-sees}
use Rattle.candidate_rounds.specs.Evaluators.Interface.{fixed, judge_of, rest, led_to}
use Rattle.candidate_rounds.specs.Evaluators.Known.{Each, Evaluator, GoesOn, IsEvaluator, IsGiven, KeepsGiven, listing, notes_of, probes, state, table_of, listing_by}
use Rattle.candidate_rounds.proofs.Evaluators.Between.{parts}
use Rattle.candidate_rounds.proofs.Evaluators.Going.{goes-context, goes-probes, goes-same}
use Rattle.candidate_rounds.proofs.Snapshots.Knowing.{alias-stays, each-map, normals-extend}

-- What is fixed stays so as nodes are made and more is known.

pub opaques-kept : (ts us : List Tree) (xs : List AliasTy) → Extends ts us → Each (λ a. KindFits ts (K.Alias a)) xs → alias_trees us xs ≡ alias_trees ts xs
opaques-kept ts us xs e k = each-map (λ a. KindFits ts (K.Alias a)) (λ a. kind_tree us (K.Alias a)) (λ a. kind_tree ts (K.Alias a)) xs (λ a i. alias-stays ts us a e i) k

pub table-kept : (old new : Evaluator) → Grows old.context new.context → KeepsGiven old new → IsTabled old.context.trees old.goals → table_of new ≡ table_of old
table-kept old new g k tabled = ap (table_seen new.context.trees) k.2 ∙ tabled-sees old.context.trees new.context.trees g.kept old.goals tabled

pub notes-kept : (old new : Evaluator) → KeepsGiven old new → notes_of new ≡ notes_of old
notes-kept old new k = ap (map (λ (e : GoalEntry). e.1.leaks)) k.2

pub fixed-kept : (old new : Evaluator) → Grows old.context new.context → KeepsGiven old new → IsGiven old.context.trees old.normal.pairs old.opaques → IsTabled old.context.trees old.goals → fixed new ≡ fixed old
fixed-kept old new g k given tabled =
    let declared : world new.context ≡ world old.context = ap world g.same in
    let local : new.context.local.0 ≡ old.context.local.0 = ap (λ (c : Context). c.local.0) g.same in
    let bounded : new.context.limits ≡ old.context.limits = ap (λ (c : Context). c.limits) g.same in
    let listed : listing new ≡ listing old = ap (listing_by new.context.trees) k.0 ∙ normals-extend old.context.trees new.context.trees old.normal g.kept given.types in
    let hidden : alias_trees new.context.trees new.opaques ≡ alias_trees old.context.trees old.opaques = ap (alias_trees new.context.trees) k.1 ∙ opaques-kept old.context.trees new.context.trees old.opaques g.kept given.opaques_fit in
    let read = table-kept old new g k tabled in
    let noted = notes-kept old new k in
    λ i. record { world = declared i; local_crate = local i; limits = bounded i; mode = k.3 i; listing = listed i; opaques = hidden i; table = read i; notes = noted i }

-- where no node is made
pub fixed-same : (old new : Evaluator) → KeepsGiven old new → new.context.declarations ≡ old.context.declarations → new.context.local ≡ old.context.local → new.context.limits ≡ old.context.limits → new.context.trees ≡ old.context.trees → fixed new ≡ fixed old
fixed-same old new k d n b t =
    let listed : listing new ≡ listing old = ap (listing_by new.context.trees) k.0 ∙ ap (λ ts. listing_by ts old.normal) t in
    let hidden : alias_trees new.context.trees new.opaques ≡ alias_trees old.context.trees old.opaques = ap (alias_trees new.context.trees) k.1 ∙ ap (λ ts. alias_trees ts old.opaques) t in
    let read : table_of new ≡ table_of old = ap (table_seen new.context.trees) k.2 ∙ ap (λ ts. table_seen ts old.goals.table) t in
    let noted = notes-kept old new k in
    λ i. record { world = world_of (d i); local_crate = (n i).0; limits = b i; mode = k.3 i; listing = listed i; opaques = hidden i; table = read i; notes = noted i }

pub keeps-all : (old new : Evaluator) → Grows old.context new.context → KeepsGiven old new → IsGiven old.context.trees old.normal.pairs old.opaques → IsTabled old.context.trees old.goals → probes new ≡ probes old
    → NoFault old.context new.context → Keeps fixed probes (λ r. r.context) old new
keeps-all old new g k given tabled p n = record { fixed_same = fixed-kept old new g k given tabled; probes_same = p; grows = g; faults = n }

pub keeps-going : (old new : Evaluator) → GoesOn old new → IsEvaluator old.context old.inference old.marks old.normal old.opaques old.goals → Keeps fixed probes (λ r. r.context) old new
keeps-going old new g h = keeps-all old new g.0 g.1 (parts h).given (parts h).tabled (goes-probes old new g (parts h).consistent.known (parts h).consistent.marks) g.5

-- All that nodes leave is what it was.
pub rest-kept : (old new : Evaluator) → fixed new ≡ fixed old → state new ≡ state old → probes new ≡ probes old → new.context.delayed_bugs ≡ old.context.delayed_bugs → rest new ≡ rest old
rest-kept old new f s p d = λ i. record { fixed = f i; state = s i; probes = p i; faults = d i }

-- An equation's answer, as the judge of the interface has it.

pub as-judged : (r : Evaluator) (S : State) (e : Env) (a b : Forest) → IsGiven r.context.trees r.normal.pairs r.opaques → equation (well_listed (listing r)) S e a b ≡ equation (listing r) S e a b
as-judged r S e a b given = ap (λ l. equation l S e a b) (all-listed (listing r) given.listing)

pub accepted-as-led : (r : Evaluator) (e : Env) (a b : Forest) → IsGiven r.context.trees r.normal.pairs r.opaques → accepted (judge_of (fixed r)) (state r) e a b ≡ led_to r e a b
accepted-as-led r e a b given = ap (λ (o : Option (List Pending × State)). next o (λ q. Some (with_left q))) (as-judged r (state r) e a b given)

-- Nodes are made, and nothing else.
pub made-rest : (r : Evaluator) (x : Context) → Grows r.context x → x.delayed_bugs ≡ r.context.delayed_bugs → IsEvaluator r.context r.inference r.marks r.normal r.opaques r.goals
    → rest (record r { context = x }) ≡ rest r
made-rest r x g d h =
    let goes = goes-context r x g d in
    rest-kept r (record r { context = x }) (fixed-kept r (record r { context = x }) g (refl, refl, refl, refl) (parts h).given (parts h).tabled) (goes-same r (record r { context = x }) goes refl (parts h).consistent.known)
    (goes-probes r (record r { context = x }) goes (parts h).consistent.known (parts h).consistent.marks) d

-- A call that makes nodes, and nothing else, of an evaluator that is as its fields say.

pub made-goes : {old v : Evaluator} {x : Context} → v ≡ old → Grows v.context x → NoFault v.context x → GoesOn old (record v { context = x })
made-goes {old} {v} {x} e g n = subst (λ (r : Evaluator). GoesOn r (record v { context = x })) e (goes-context v x g n)

pub made-kept : {old v : Evaluator} {x : Context} → v ≡ old → Grows v.context x → NoFault v.context x → IsEvaluator v.context v.inference v.marks v.normal v.opaques v.goals → Keeps fixed probes (λ r. r.context) old (record v { context = x })
made-kept {old} {v} {x} e g n h = subst (λ (r : Evaluator). Keeps fixed probes (λ s. s.context) r (record v { context = x })) e (keeps-going v (record v { context = x }) (goes-context v x g n) h)

pub made-same : {old v : Evaluator} {x : Context} → v ≡ old → Grows v.context x → NoFault v.context x → IsEvaluator v.context v.inference v.marks v.normal v.opaques v.goals → state (record v { context = x }) ≡ state old
made-same {old} {v} {x} e g n h = goes-same v (record v { context = x }) (goes-context v x g n) refl (parts h).consistent.known ∙ ap state e

-- nothing happens
pub keeps-refl : (r : Evaluator) → Keeps fixed probes (λ s. s.context) r r
keeps-refl r = record { fixed_same = refl; probes_same = refl; grows = grows-refl r.context; faults = refl }

-- a call that changes what is known, and makes no node
pub keeps-same : (old new : Evaluator) → new.context ≡ old.context → KeepsGiven old new → probes new ≡ probes old → Keeps fixed probes (λ r. r.context) old new
keeps-same old new e k p = record {
  fixed_same = fixed-same old new k (ap (λ (c : Context). c.declarations) e) (ap (λ (c : Context). c.local) e) (ap (λ (c : Context). c.limits) e) (ap (λ (c : Context). c.trees) e);
  probes_same = p;
  grows = subst (Grows old.context) (sym e) (grows-refl old.context);
  faults = ap (λ (c : Context). c.delayed_bugs) e;
}

-- An answer of a call by its result.

pub eq-ok : {A : Type 0} (q : Result A NoSolutionOrStop) (r : Evaluator) (e : Env) (a b : Forest) (T : State) → IsGiven r.context.trees r.normal.pairs r.opaques → OnOk q (led_to r e a b ≡ Some T)
    → IfOk q (λ _. accepted (judge_of (fixed r)) (state r) e a b ≡ Some T)
eq-ok (Ok x) r e a b T given h = accepted-as-led r e a b given ∙ h
eq-ok (Err x) r e a b T given h = tt

pub eq-refused : {A : Type 0} (q : Result A NoSolutionOrStop) (r : Evaluator) (e : Env) (a b : Forest) → IsGiven r.context.trees r.normal.pairs r.opaques → IfErr q (λ f. f ≡ NoSolutionOrStop.NoSolution → led_to r e a b ≡ None)
    → IfErr q (λ f. f ≡ NoSolutionOrStop.NoSolution → accepted (judge_of (fixed r)) (state r) e a b ≡ None)
eq-refused (Ok x) r e a b given h = tt
eq-refused (Err x) r e a b given h = λ n. accepted-as-led r e a b given ∙ h n

pub equation-some : {A F : Type 0} (q : Result A F) (r : Evaluator) (e : Env) (a b : Forest) (f : A → List Pending) (T : State) → IsGiven r.context.trees r.normal.pairs r.opaques → IfOk q (λ v. equation (listing r) (state r) e a b ≡ Some (f v, T))
    → IfOk q (λ v. (judge_of (fixed r)).equated (state r) e a b ≡ Some (f v, T))
equation-some (Ok v) r e a b f T given h = as-judged r (state r) e a b given ∙ h
equation-some (Err x) r e a b f T given h = tt

pub equation-none : {A : Type 0} (q : Result A NoSolutionOrStop) (r : Evaluator) (e : Env) (a b : Forest) → IsGiven r.context.trees r.normal.pairs r.opaques → IfErr q (λ f. f ≡ NoSolutionOrStop.NoSolution → equation (listing r) (state r) e a b ≡ None)
    → IfErr q (λ f. f ≡ NoSolutionOrStop.NoSolution → (judge_of (fixed r)).equated (state r) e a b ≡ None)
equation-none (Ok v) r e a b given h = tt
equation-none (Err x) r e a b given h = λ n. as-judged r (state r) e a b given ∙ h n

-- goals of the context, each of a list
goals-each : (P : GoalSource × Goal Clause → Type 0) (gs : List (GoalSource × Goal Clause)) → Each P gs → All P gs
goals-each P [] h = All-nil P
goals-each P (g ∷ gs) h = All-cons P g gs h.0 (goals-each P gs h.1)

pub goals-all : {A F : Type 0} (q : Result A F) (r : Evaluator) (f : A → List (GoalSource × Goal Clause)) → IfOk q (λ v. Each (λ g. IsGoal r.context.trees g.1) (f v)) → IfOk q (λ v. All (λ g. IsGoal r.context.trees g.1) (f v))
goals-all (Ok v) r f h = goals-each (λ g. IsGoal r.context.trees g.1) (f v) h
goals-all (Err x) r f h = tt

pub eq-stopped : {A : Type 0} (q : Result A NoSolutionOrStop) (old new : Evaluator) → GoesOn old new → IsEvaluator old.context old.inference old.marks old.normal old.opaques old.goals → OnErr q (new.inference ≡ old.inference)
    → IfErr q (λ f. f ≢ NoSolutionOrStop.NoSolution → state new ≡ state old)
eq-stopped (Ok x) old new g h u = tt
eq-stopped (Err x) old new g h u = λ n. goes-same old new g u (parts h).consistent.known
