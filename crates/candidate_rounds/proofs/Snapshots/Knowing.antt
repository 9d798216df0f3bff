-- States as numbers get trees, and as changes are undone.
use Rattle.std.proofs.Common.{◌≡◌, ℕ, zero, suc, ◌+◌, ◌≤◌, true, List, [], ◌∷◌, ◌++◌, length, take, drop, map, slice_get, Option, Some, None, All, refl, sym, ◌∙◌, ap, subst, arith}
use Rattle.std.specs.Option.{option_map}
use Rattle.ir_trees.specs.declared.ir.kinds.Clause.{Clause}
use Rattle.ir_trees.specs.declared.ir.kinds.GenericArg.{GenericArg}
use Rattle.ir_trees.specs.declared.ir.kinds.GenericArg.TheVariants as A
use Rattle.ir_trees.specs.declared.ir.kinds.Goal.{Goal}
use Rattle.ir_trees.specs.declared.ir.kinds.GoalSource.{GoalSource}
use Rattle.ir_trees.specs.Instantiation.Folds.{arg_tree}
use Rattle.ir_trees.specs.Syntax.Kinds.{arg_number, arg_kind}
use Rattle.ir_trees.specs.Syntax.Nodes.{Extends, kind_at, tree_at}
use Rattle.ir_trees.specs.Syntax.Trees.{Kind, Tree, tree_holds}
use Rattle.ir_trees.specs.declared.ir.kinds.AliasTy.{AliasTy}
use Rattle.ir_trees.specs.declared.ir.kinds.Ty.{Ty}
use Rattle.ir_trees.specs.declared.ir.kinds.TyKind.TheVariants as K
use Rattle.ir_trees.specs.declared.ir.node.Node.TheVariants as N
use Rattle.ir_trees.specs.Syntax.Words.{IsClause, KindFits, ty_tree, kind_tree, clause_tree}
use Rattle.ir_trees.proofs.Syntax.Lists.{below_kind, kind_at-append, tree_at-append, Fits-append, node_tree-append}
use Rattle.ir_trees.specs.Syntax.Trees.{there}
use Rattle.candidate_eval.specs.declared.eval.mode.TypingMode.{TypingMode}
use Rattle.candidate_eval.specs.Judges.Soundness.{fits_kind}
use Rattle.candidate_eval.specs.Interface.Evaluators.{IsGoal, pending_of}
use Rattle.rounds_judge.specs.Aliases.Listed.{Listing}
use Rattle.candidate_rounds.specs.declared.rounds.inference.Change.{Change}
use Rattle.candidate_rounds.specs.declared.rounds.inference.Change.TheVariants as C
use Rattle.candidate_rounds.specs.declared.rounds.inference.Entry.{Entry}
use Rattle.candidate_rounds.specs.Evaluators.Inferences.{Inference, shorter, with_entry, with_value, with_universe, before, undone, back_to}
use Rattle.candidate_rounds.specs.Evaluators.Known.{info_of, rigid_otherwise, state_of, states_at, Each, IsValue, IsEntry, IsChange, IsKnown, AreMarks, AreTypes, IsGiven, SuitsKind, EachAt, IsWithin, is_open, IsType, MayBeHidden, listing_of, NormalForms, listing_by}
use Rattle.rounds_judge.specs.Equations.Standing.{IsListing}
use Rattle.candidate_rounds.proofs.Snapshots.Undoing.{IsUndone}

-- Probes stay where they were, whatever is changed.
pub probes-stay : (ts : List Tree) (mode : TypingMode) (s t : Inference) (ks : List ℕ) → AreMarks (length s.trail) ks → IsUndone s t → states_at ts mode t ks ≡ states_at ts mode s ks
probes-stay ts mode s t ks m u = go ks (length s.trail) m (omega arith)
  where
    go : (ks : List ℕ) (n : ℕ) → AreMarks n ks → n ≤ length s.trail → states_at ts mode t ks ≡ states_at ts mode s ks
    go [] n m l = refl
    go (k ∷ ks) n m l =
        ap (λ x. state_of ts mode x ∷ states_at ts mode t ks) (u k (omega (arith, m.0, l)))
        ∙ ap (λ xs. state_of ts mode (back_to k s) ∷ xs) (go ks k m.1 (omega (arith, m.0, l)))

-- Of each member

pub each-of-all : {A : Type 0} (P : A → Type 0) (xs : List A) → All P xs → Each P xs
each-of-all P [] a = tt
each-of-all P (x ∷ xs) a = (a 0 x (omega arith), each-of-all P xs (λ k d l. a (suc k) d (omega (arith, l))))

pub each-imply : {A : Type 0} (P Q : A → Type 0) (xs : List A) → ((x : A) → P x → Q x) → Each P xs → Each Q xs
each-imply P Q [] f e = tt
each-imply P Q (x ∷ xs) f e = (f x e.0, each-imply P Q xs f e.1)

pub each-map : {A B : Type 0} (P : A → Type 0) (f g : A → B) (xs : List A) → ((x : A) → P x → f x ≡ g x) → Each P xs → map f xs ≡ map g xs
each-map P f g [] h e = refl
each-map P f g (x ∷ xs) h e = ap (λ y. y ∷ map f xs) (h x e.0) ∙ ap (λ ys. g x ∷ ys) (each-map P f g xs h e.1)

pub each-append : {A : Type 0} (P : A → Type 0) (xs : List A) (x : A) → Each P xs → P x → Each P (xs ++ x ∷ [])
each-append P [] x e p = (p, tt)
each-append P (y ∷ ys) x e p = (e.0, each-append P ys x e.1 p)

pub each-drop : {A : Type 0} (P : A → Type 0) (n : ℕ) (xs : List A) → Each P xs → Each P (drop n xs)
each-drop P zero xs e = e
each-drop P (suc n) [] e = tt
each-drop P (suc n) (x ∷ xs) e = each-drop P n xs e.1

pub each-take : {A : Type 0} (P : A → Type 0) (n : ℕ) (xs : List A) → Each P xs → Each P (take n xs)
each-take P zero xs e = tt
each-take P (suc n) [] e = tt
each-take P (suc n) (x ∷ xs) e = (e.0, each-take P n xs e.1)

each-shorter : {A : Type 0} (P : A → Type 0) (xs : List A) → Each P xs → Each P (shorter xs)
each-shorter P [] e = tt
each-shorter P (x ∷ []) e = tt
each-shorter P (x ∷ y ∷ ys) e = (e.0, each-shorter P (y ∷ ys) e.1)

pub each-entry : (P : Entry → Type 0) (es : List Entry) (n : ℕ) (f : Entry → Entry) → ((e : Entry) → P e → P (f e)) → Each P es → Each P (with_entry es n f)
each-entry P [] n f h e = tt
each-entry P (x ∷ xs) zero f h e = (h x e.0, e.1)
each-entry P (x ∷ xs) (suc n) f h e = (e.0, each-entry P xs n f h e.1)

pub each-get : {A : Type 0} (P : A → Type 0) (xs : List A) (n : ℕ) (x : A) → Each P xs → slice_get xs n ≡ Some x → P x
each-get P [] n x e g = cc
each-get P (y ∷ ys) zero x e g = let h : y ≡ x = cc in subst P h e.0
each-get P (y ∷ ys) (suc n) x e g = each-get P ys n x e.1 g

-- Numbers have their trees still.

pub kind-stays : (ts us : List Tree) (n : ℕ) (k : Kind) → Extends ts us → there k ≡ true → kind_at ts n ≡ k → kind_at us n ≡ k
kind-stays ts us n k x t i = ap (λ ys. kind_at ys n) x.is ∙ (kind_at-append ts x.added n (below_kind ts n k t i) ∙ i)

pub tree-stays : (ts us : List Tree) (n : ℕ) (k : Kind) → Extends ts us → there k ≡ true → kind_at ts n ≡ k → tree_at us n ≡ tree_at ts n
tree-stays ts us n k x t i = ap (λ ys. tree_at ys n) x.is ∙ tree_at-append ts x.added n (below_kind ts n k t i)

pub there-arg : (v : GenericArg) → there (arg_kind v) ≡ true
there-arg (A.Ty t) = refl
there-arg (A.Const c) = refl
there-arg (A.Region r) = refl

value-stays : (ts us : List Tree) (v : Option GenericArg) → Extends ts us → IsValue ts v → IsValue us v
value-stays ts us None x i = tt
value-stays ts us (Some v) x i = kind-stays ts us (arg_number v) (arg_kind v) x (there-arg v) i

info-stays : (ts us : List Tree) (e : Entry) → Extends ts us → IsEntry ts e → info_of us e ≡ info_of ts e
info-stays ts us e x i = ap (λ v. record { kind = e.kind; universe = e.universe; value = v; is_root = e.is_root }) (at e.value i)
  where
    at : (v : Option GenericArg) → IsValue ts v → option_map (arg_tree us) v ≡ option_map (arg_tree ts) v
    at None i = refl
    at (Some v) i = ap Some (tree-stays ts us (arg_number v) (arg_kind v) x (there-arg v) i)

change-stays : (ts us : List Tree) (c : Change) → Extends ts us → IsChange ts c → IsChange us c
change-stays ts us (C.Value n v) x i = value-stays ts us v x i
change-stays ts us C.Variable x i = tt
change-stays ts us (C.Universe n u) x i = tt
change-stays ts us (C.NewestUniverse u) x i = tt
change-stays ts us C.Region x i = tt
change-stays ts us C.Goal x i = tt
change-stays ts us (C.Pending n) x i = tt
change-stays ts us (C.Open n m) x i = tt

pub clause-stays : (ts us : List Tree) (c : Clause) → Extends ts us → IsClause ts c → clause_tree us c ≡ clause_tree ts c
clause-stays ts us c x i = tree-stays ts us c.0 _ x refl i

pub is-clause-stays : (ts us : List Tree) (c : Clause) → Extends ts us → IsClause ts c → IsClause us c
is-clause-stays ts us c x i = kind-stays ts us c.0 _ x refl i

pub is-goal-stays : (ts us : List Tree) (g : Goal Clause) → Extends ts us → IsGoal ts g → IsGoal us g
is-goal-stays ts us g x i = (kind-stays ts us g.param_env.0 _ x refl i.0, is-clause-stays ts us g.predicate x i.1)

pending-stays : (ts us : List Tree) (g : GoalSource × Goal Clause) → Extends ts us → IsGoal ts g.1 → pending_of us g.0 g.1 ≡ pending_of ts g.0 g.1
pending-stays ts us g x i =
    let e = tree-stays ts us g.1.param_env.0 _ x refl i.0 in
    let c = clause-stays ts us g.1.predicate x i.1 in
    λ j. record { source = g.0; goal = record { env = (e j).children; clause = c j } }

-- The trees of numbers stay as more are given.
pub state-stays : (ts us : List Tree) (mode : TypingMode) (s : Inference) → Extends ts us → IsKnown ts s → state_of us mode s ≡ state_of ts mode s
state-stays ts us mode s x k =
    let v = each-map (IsEntry ts) (info_of us) (info_of ts) s.variables (λ e i. info-stays ts us e x i) k.values in
    let r = each-map (IsClause ts) (clause_tree us) (clause_tree ts) s.regions (λ c i. clause-stays ts us c x i) k.regions in
    let p = each-map (λ (g : GoalSource × Goal Clause). IsGoal ts g.1) (λ g. pending_of us g.0 g.1) (λ g. pending_of ts g.0 g.1) (drop s.first_pending s.goals) (λ g i. pending-stays ts us g x i) (each-drop _ s.first_pending s.goals k.goals) in
    λ i. record { newest_universe = s.newest_universe; variables = v i; regions = r i; pending = p i; mode = mode }

pub known-stays : (ts us : List Tree) (s : Inference) → Extends ts us → IsKnown ts s → IsKnown us s
known-stays ts us s x k = record {
  values = each-imply (IsEntry ts) (IsEntry us) s.variables (λ e i. value-stays ts us e.value x i) k.values;
  regions = each-imply (IsClause ts) (IsClause us) s.regions (λ c i. is-clause-stays ts us c x i) k.regions;
  goals = each-imply (λ (g : GoalSource × Goal Clause). IsGoal ts g.1) (λ g. IsGoal us g.1) s.goals (λ g i. is-goal-stays ts us g.1 x i) k.goals;
  changes = each-imply (IsChange ts) (IsChange us) s.trail (λ c i. change-stays ts us c x i) k.changes;
}

-- Values are of their variables' kinds still.
pub kinds-grown : (ts us : List Tree) (es : List Entry) → Extends ts us → Each (IsEntry ts) es → Each (SuitsKind ts) es → Each (SuitsKind us) es
kinds-grown ts us [] x i k = tt
kinds-grown ts us (e ∷ es) x i k = (one, kinds-grown ts us es x i.1 k.1)
  where
    one : SuitsKind us e
    one v q = ap (λ (t : Tree). fits_kind e.kind t.head) (tree-stays ts us (arg_number v) (arg_kind v) x (there-arg v) (subst (IsValue ts) q i.0)) ∙ k.0 v q

-- Of each member, told its number

pub each-at-append : {A : Type 0} (P : ℕ → A → Type 0) (n : ℕ) (xs : List A) (x : A) → EachAt P n xs → ((m : ℕ) → P m x) → EachAt P n (xs ++ x ∷ [])
each-at-append P n [] x e p = (p n, tt)
each-at-append P n (y ∷ ys) x e p = (e.0, each-at-append P (suc n) ys x e.1 p)

pub each-at-imply : {A : Type 0} (P Q : ℕ → A → Type 0) (n : ℕ) (xs : List A) → ((m : ℕ) (x : A) → P m x → Q m x) → EachAt P n xs → EachAt Q n xs
each-at-imply P Q n [] f e = tt
each-at-imply P Q n (x ∷ xs) f e = (f n x e.0, each-at-imply P Q (suc n) xs f e.1)

pub each-at-get : {A : Type 0} (P : ℕ → A → Type 0) (n : ℕ) (xs : List A) (i : ℕ) (x : A) → EachAt P n xs → slice_get xs i ≡ Some x → P (n + i) x
each-at-get P n [] i x e g = cc
each-at-get P n (y ∷ ys) zero x e g =
    let h : y ≡ x = cc in
    let z : n ≡ n + 0 = omega arith in
    subst (λ m. P m x) z (subst (P n) h e.0)
each-at-get P n (y ∷ ys) (suc i) x e g =
    let z : suc n + i ≡ n + suc i = omega arith in
    subst (λ m. P m x) z (each-at-get P (suc n) ys i x e.1 g)

pub each-at-entry : (P : ℕ → Entry → Type 0) (n : ℕ) (es : List Entry) (i : ℕ) (f : Entry → Entry) → ((e : Entry) → slice_get es i ≡ Some e → P (n + i) e → P (n + i) (f e)) → EachAt P n es → EachAt P n (with_entry es i f)
each-at-entry P n [] i f h k = tt
each-at-entry P n (e ∷ es) zero f h k =
    let z : n + 0 ≡ n = omega arith in
    (subst (λ m. P m (f e)) z (h e refl (subst (λ m. P m e) (sym z) k.0)), k.1)
each-at-entry P n (e ∷ es) (suc i) f h k =
    let z : n + suc i ≡ suc n + i = omega arith in
    (k.0, each-at-entry P (suc n) es i f (λ d g p. subst (λ m. P m (f d)) z (h d g (subst (λ m. P m d) (sym z) p))) k.1)

-- Values in which a variable stands are where they were said to be.
pub open-grown : (ts us : List Tree) (first end n : ℕ) (es : List Entry) → Extends ts us → Each (IsEntry ts) es → EachAt (IsWithin ts first end) n es → EachAt (IsWithin us first end) n es
open-grown ts us first end n [] x i k = tt
open-grown ts us first end n (e ∷ es) x i k = (one, open-grown ts us first end (suc n) es x i.1 k.1)
  where
    one : IsWithin us first end n e
    one v q h = k.0 v q (sym (ap (tree_holds is_open) (tree-stays ts us (arg_number v) (arg_kind v) x (there-arg v) (subst (IsValue ts) q i.0))) ∙ h)

-- What was before is known, too.

known-before : (ts : List Tree) (c : Change) (s : Inference) → IsChange ts c → IsKnown ts s → IsKnown ts (before c s)
known-before ts C.Variable s i k = record { values = each-shorter (IsEntry ts) s.variables k.values; regions = k.regions; goals = k.goals; changes = k.changes }
known-before ts (C.Value n v) s i k = record { values = each-entry (IsEntry ts) s.variables n (with_value v) (λ e j. i) k.values; regions = k.regions; goals = k.goals; changes = k.changes }
known-before ts (C.Universe n u) s i k = record { values = each-entry (IsEntry ts) s.variables n (with_universe u) (λ e j. j) k.values; regions = k.regions; goals = k.goals; changes = k.changes }
known-before ts (C.NewestUniverse u) s i k = record { values = k.values; regions = k.regions; goals = k.goals; changes = k.changes }
known-before ts C.Region s i k = record { values = k.values; regions = each-shorter (IsClause ts) s.regions k.regions; goals = k.goals; changes = k.changes }
known-before ts C.Goal s i k = record { values = k.values; regions = k.regions; goals = each-shorter (λ (g : GoalSource × Goal Clause). IsGoal ts g.1) s.goals k.goals; changes = k.changes }
known-before ts (C.Pending n) s i k = record { values = k.values; regions = k.regions; goals = k.goals; changes = k.changes }
known-before ts (C.Open n m) s i k = record { values = k.values; regions = k.regions; goals = k.goals; changes = k.changes }

known-undone : (ts : List Tree) (cs : List Change) (s : Inference) → Each (IsChange ts) cs → IsKnown ts s → IsKnown ts (undone cs s)
known-undone ts [] s e k = k
known-undone ts (c ∷ cs) s e k = known-before ts c (undone cs s) e.0 (known-undone ts cs s e.1 k)

pub known-back : (ts : List Tree) (s : Inference) (n : ℕ) → IsKnown ts s → IsKnown ts (back_to n s)
known-back ts s n k =
    let u = known-undone ts (drop n s.trail) s (each-drop _ n s.trail k.changes) k in
    record { values = u.values; regions = u.regions; goals = u.goals; changes = each-take _ n s.trail k.changes }

-- The states of probes stay as more numbers are given.
pub probes-grow : (ts us : List Tree) (mode : TypingMode) (s : Inference) (ks : List ℕ) → Extends ts us → IsKnown ts s → states_at us mode s ks ≡ states_at ts mode s ks
probes-grow ts us mode s [] x k = refl
probes-grow ts us mode s (n ∷ ks) x k =
    ap (λ y. y ∷ states_at us mode s ks) (state-stays ts us mode (back_to n s) x (known-back ts s n k))
    ∙ ap (λ ys. state_of ts mode (back_to n s) ∷ ys) (probes-grow ts us mode s ks x k)

-- an alias type is what it was
pub alias-stays : (ts us : List Tree) (a : AliasTy) → Extends ts us → KindFits ts (K.Alias a) → kind_tree us (K.Alias a) ≡ kind_tree ts (K.Alias a)
alias-stays ts us a x i = ap (λ zs. kind_tree zs (K.Alias a)) x.is ∙ node_tree-append ts x.added (N.Ty (K.Alias a)) i

-- aliases that are types are so still
types-stay : (ts us : List Tree) (xs : List AliasTy) → Extends ts us → Each (λ a. KindFits ts (K.Alias a)) xs → Each (IsType ts) xs → Each (IsType us) xs
types-stay ts us [] x f e = tt
types-stay ts us (a ∷ rest) x f e =
    let i = e.0 in
    (record { ty = i.ty; sort = kind-stays ts us i.ty.0 _ x refl i.sort; tree = tree-stays ts us i.ty.0 _ x refl i.sort ∙ (i.tree ∙ sym (alias-stays ts us a x f.0)) }, types-stay ts us rest x f.1 e.1)

-- listed pairs are of types still, and their trees stay

pub types-extend : (ts us : List Tree) (ps : List (Ty × Ty)) → Extends ts us → Each (AreTypes ts) ps → Each (AreTypes us) ps
types-extend ts us ps x k = each-imply (AreTypes ts) (AreTypes us) ps (λ p i. (kind-stays ts us p.0.0 _ x refl i.0, kind-stays ts us p.1.0 _ x refl i.1)) k

pub listing-extend : (ts us : List Tree) (ps : List (Ty × Ty)) → Extends ts us → Each (AreTypes ts) ps → listing_of us ps ≡ listing_of ts ps
listing-extend ts us ps x k = ap rigid_otherwise (each-map (AreTypes ts) (pair us) (pair ts) ps stays k)
  where
    pair : List Tree → Ty × Ty → Tree × Tree
    pair zs p = (ty_tree zs p.0, ty_tree zs p.1)

    stays : (p : Ty × Ty) → AreTypes ts p → pair us p ≡ pair ts p
    stays p i = let a = tree-stays ts us p.0.0 _ x refl i.0 in let b = tree-stays ts us p.1.0 _ x refl i.1 in λ j. (a j, b j)

pub normals-extend : (ts us : List Tree) (ns : NormalForms) → Extends ts us → Each (AreTypes ts) ns.pairs → listing_by us ns ≡ listing_by ts ns
normals-extend ts us ns x k = ap (λ (l : Listing). record { pairs = l.pairs; is_open = ns.is_open }) (listing-extend ts us ns.pairs x k)

-- What was given stays as more numbers are given.
pub given-grown : (ts us : List Tree) (ps : List (Ty × Ty)) (xs : List AliasTy) → Extends ts us → IsGiven ts ps xs → IsGiven us ps xs
given-grown ts us ps xs x g = record {
  types = types-extend ts us ps x g.types;
  listing = subst IsListing (sym (listing-extend ts us ps x g.types)) g.listing;
  opaques_fit = each-imply (λ a. KindFits ts (K.Alias a)) (λ a. KindFits us (K.Alias a)) xs (λ a i. subst (λ zs. KindFits zs (K.Alias a)) (sym x.is) (Fits-append ts x.added (N.Ty (K.Alias a)) i)) g.opaques_fit;
  opaques_are = types-stay ts us xs x g.opaques_fit g.opaques_are;
  opaques_hidden = subst (Each MayBeHidden) (sym (each-map (λ a. KindFits ts (K.Alias a)) (λ a. kind_tree us (K.Alias a)) (λ a. kind_tree ts (K.Alias a)) xs (λ a i. alias-stays ts us a x i) g.opaques_fit)) g.opaques_hidden;
}
