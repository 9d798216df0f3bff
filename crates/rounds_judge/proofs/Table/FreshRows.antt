-- A state with fresh variables for parameters of some kinds leads on, and the variables are trees of it.
use Rattle.std.proofs.Common.{◌≡◌, ◌≤◌, ℕ, List, [], ◌∷◌, ◌++◌, length, min, not, ◌&&◌, false, None, refl, ap, subst, arith}
use Rattle.ir_trees.specs.declared.ir.heads.Head.TheVariants as H
use Rattle.ir_trees.specs.declared.ir.kinds.RegionKind.TheVariants as R
use Rattle.ir_trees.specs.Unification.Substitutions.{alone}
use Rattle.ir_trees.specs.Syntax.Binders.{escapes}
use Rattle.ir_trees.specs.Syntax.Trees.{Kind, Forest, none, tree, Tree, holds, is_param}
use Rattle.candidate_eval.specs.declared.eval.variable.CanonicalVar.{CanonicalVar}
use Rattle.candidate_eval.specs.declared.eval.variable.VariableKind.{VariableKind}
use Rattle.candidate_eval.specs.declared.eval.variable.VariableKind.TheVariants.{Term, Region}
use Rattle.candidate_eval.specs.Judges.Alike.{info}
use Rattle.candidate_eval.specs.Judges.Lawful.{HasNoParameter}
use Rattle.candidate_eval.specs.Judges.Soundness.{Live, IsSound, AreTreesOf, is_strange}
use Rattle.candidate_eval.specs.Judges.States.{State, fresh_variables, has_kind, variable, variable_kind, with_fresh, with_fresh_variables}
use Rattle.candidate_eval.proofs.Marks.Holds.{holds_parts}
use Rattle.rounds_judge.specs.Table.TableSettling.{with_open}
use Rattle.rounds_judge.proofs.Equations.Looks.{SoundLater}
use Rattle.rounds_judge.proofs.Obligations.Settling.{lead_along, lead_itself}
use Rattle.rounds_judge.proofs.Parameters.TableParameterless.{free_open}
use Rattle.rounds_judge.proofs.States.Later.{trees_later}
use Rattle.rounds_judge.proofs.States.Marks.{escape_parts, escape_whole, whole}
use Rattle.rounds_judge.proofs.Table.TableFresh.{CountsNew, IsNumberOf, lead_open, new_info, new_there, one_longer}
use Rattle.rounds_judge.proofs.Table.TableGiving.{number_known}

-- a variable of the kind, of the newest universe
abbrev newest : State → VariableKind → CanonicalVar
newest S k = record { kind = k; universe = S.newest_universe }

lower_itself : (u : ℕ) → min u u ≡ u
lower_itself u = omega arith

fresh_is : (S : State) (k : VariableKind) → with_open S (newest S k) ≡ with_fresh S k
fresh_is S k = ap (λ u. record S { variables = S.variables ++ record { kind = k; universe = u; value = None; is_root = false } ∷ [] }) (lower_itself S.newest_universe)

pub lead_fresh : (S : State) (L : Live) (k : VariableKind) → IsSound S L → SoundLater S L (with_fresh S k)
lead_fresh S L k sound = subst (SoundLater S L) (fresh_is S k) (lead_open S (newest S k) L sound)

pub lead_rows : (S : State) (L : Live) (ks : List Kind) → IsSound S L → SoundLater S L (with_fresh_variables S ks)
lead_rows S L [] sound = lead_itself S L sound
lead_rows S L (k ∷ ks) sound =
    let R : State = with_fresh S (variable_kind k) in
    let first = lead_fresh S L (variable_kind k) sound in
    lead_along S R (with_fresh_variables R ks) L sound first (lead_rows R L ks first.sound)

-- What is not of the variables stays.

pub rows_pending : (S : State) (ks : List Kind) → (with_fresh_variables S ks).pending ≡ S.pending
rows_pending S [] = refl
rows_pending S (k ∷ ks) = rows_pending (with_fresh S (variable_kind k)) ks

pub rows_regions : (S : State) (ks : List Kind) → (with_fresh_variables S ks).regions ≡ S.regions
rows_regions S [] = refl
rows_regions S (k ∷ ks) = rows_regions (with_fresh S (variable_kind k)) ks

-- No variable goes away.

pub fresh_many : (S : State) (k : VariableKind) → length S.variables ≤ length (with_fresh S k).variables
fresh_many S k = subst (λ (R : State). length S.variables ≤ length R.variables) (fresh_is S k) (let longer = one_longer (new_info S (newest S k)) S.variables in omega (arith, longer))

pub rows_many : (S : State) (ks : List Kind) → length S.variables ≤ length (with_fresh_variables S ks).variables
rows_many S [] = omega arith
rows_many S (k ∷ ks) = let one = fresh_many S (variable_kind k) in let more = rows_many (with_fresh S (variable_kind k)) ks in omega (arith, one, more)

-- The variables are trees of the state.

pub fresh_known : (S : State) (L : Live) (k : VariableKind) → CountsNew S L → AreTreesOf (with_fresh S k) L (alone (variable k (length S.variables)))
fresh_known S L k new = at k (number_known (with_fresh S k) L k (length S.variables) here)
  where
    here : IsNumberOf (with_fresh S k) L k (length S.variables)
    here = subst (λ R. IsNumberOf R L k (length S.variables)) (fresh_is S k)
        (record { entry = new_info S (newest S k); there = new_there (new_info S (newest S k)) S.variables; kind = refl; live = new (length S.variables) (omega arith) })

    at : (j : VariableKind) → not (L (length S.variables) && has_kind j (info (with_fresh S k) (length S.variables))) ≡ false → AreTreesOf (with_fresh S k) L (alone (variable j (length S.variables)))
    at (Term s) e = record { known = whole (is_strange (with_fresh S k) L) (H.Infer (record { sort = s; number = length S.variables })) none none e refl refl; is_closed = refl }
    at Region e = record { known = whole (is_strange (with_fresh S k) L) (H.Region (R.Var (length S.variables))) none none e refl refl; is_closed = refl }

new_on : (S : State) (L : Live) (k : VariableKind) → CountsNew S L → CountsNew (with_fresh S k) L
new_on S L k new n h = new n (let longer = fresh_many S k in omega (arith, longer, h))

-- a leaf, and then a row
leaf_row : (T : State) (L : Live) (t : Tree) (rest : Forest) → AreTreesOf T L (alone t) → AreTreesOf T L rest → AreTreesOf T L (tree t.head t.children rest)
leaf_row T L t rest a b =
    let p = holds_parts (is_strange T L) t.head t.children none a.known in
    let q = escape_parts 0 t.head t.children none a.is_closed in
    record { known = whole (is_strange T L) t.head t.children rest p.here p.under b.known; is_closed = escape_whole 0 t.head t.children rest q.here q.under b.is_closed }

pub rows_known : (S : State) (L : Live) (ks : List Kind) → IsSound S L → CountsNew S L → AreTreesOf (with_fresh_variables S ks) L (fresh_variables S ks)
rows_known S L [] sound new = record { known = refl; is_closed = refl }
rows_known S L (k ∷ ks) sound new =
    let R : State = with_fresh S (variable_kind k) in
    let first = lead_fresh S L (variable_kind k) sound in
    let more = lead_rows R L ks first.sound in
    let t : Tree = variable (variable_kind k) (length S.variables) in
    leaf_row (with_fresh_variables R ks) L t (fresh_variables R ks) (trees_later R (with_fresh_variables R ks) L L (λ n l c. c) more.later (alone t) (fresh_known S L (variable_kind k) new))
    (rows_known R L ks first.sound (new_on S L (variable_kind k) new))

-- No parameter comes in.

pub fresh_free : (S : State) (L : Live) (k : VariableKind) → HasNoParameter S L → HasNoParameter (with_fresh S k) L
fresh_free S L k free = subst (λ R. HasNoParameter R L) (fresh_is S k) (free_open S (newest S k) L free)

pub rows_free : (S : State) (L : Live) (ks : List Kind) → HasNoParameter S L → HasNoParameter (with_fresh_variables S ks) L
rows_free S L [] free = free
rows_free S L (k ∷ ks) free = rows_free (with_fresh S (variable_kind k)) L ks (fresh_free S L (variable_kind k) free)

pub variable_free : (k : VariableKind) (n : ℕ) → holds is_param (alone (variable k n)) ≡ false
variable_free (Term s) n = refl
variable_free Region n = refl

pub variables_free : (S : State) (ks : List Kind) → holds is_param (fresh_variables S ks) ≡ false
variables_free S [] = refl
variables_free S (k ∷ ks) =
    let t : Tree = variable (variable_kind k) (length S.variables) in
    let p = holds_parts is_param t.head t.children none (variable_free (variable_kind k) (length S.variables)) in
    whole is_param t.head t.children (fresh_variables (with_fresh S (variable_kind k)) ks) p.here p.under (variables_free (with_fresh S (variable_kind k)) ks)

-- No bound variable stands in them.

variable_closed : (k : VariableKind) (n : ℕ) → escapes 0 (alone (variable k n)) ≡ false
variable_closed (Term s) n = refl
variable_closed Region n = refl

pub rows_closed : (S : State) (ks : List Kind) → escapes 0 (fresh_variables S ks) ≡ false
rows_closed S [] = refl
rows_closed S (k ∷ ks) =
    let t : Tree = variable (variable_kind k) (length S.variables) in
    let p = escape_parts 0 t.head t.children none (variable_closed (variable_kind k) (length S.variables)) in
    escape_whole 0 t.head t.children (fresh_variables (with_fresh S (variable_kind k)) ks) p.here p.under (rows_closed (with_fresh S (variable_kind k)) ks)
