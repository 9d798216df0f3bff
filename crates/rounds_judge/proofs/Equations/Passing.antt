-- Two equal rows in which nothing is active: each look there leaves the state, and so they are passed over.
use Rattle.std.proofs.Common.{◌≡◌, ◌<◌, ◌+◌, ◌&&◌, ◌||◌, ℕ, Bool, true, false, not, Some, None, List, [], ◌∷◌, ◌++◌, refl, ◌∙◌, ap, arith, if◌then◌else◌}
use Rattle.std.specs.Option.{unwrap_or}
use Rattle.std.proofs.lemmas.Bool.{eq-eqb}
use Rattle.ir_trees.specs.declared.ir.heads.Head.{Head}
use Rattle.ir_trees.specs.declared.ir.heads.Head.TheVariants as H
use Rattle.ir_trees.specs.declared.ir.heads.Variable.{Variable}
use Rattle.ir_trees.specs.Syntax.Trees.{Forest, none, tree, Tree, holds, is_alias, is_number, binders_of}
use Rattle.ir_trees.specs.Instantiation.Folding.{fold}
use Rattle.ir_trees.specs.Unification.Substitutions.{fits_sort}
use Rattle.ir_trees.specs.Unification.Unify.{same_head}
use Rattle.ir_trees.proofs.Syntax.Equal.{head_itself}
use Rattle.candidate_eval.specs.declared.eval.variable.VariableKind.TheVariants.{Term}
use Rattle.candidate_eval.specs.Interface.Evaluators.{root_value}
use Rattle.candidate_eval.specs.Judges.States.{State, value_at, resolved_tree, has_kind, is_some, with_universe}
use Rattle.candidate_eval.specs.Judges.Soundness.{is_region}
use Rattle.candidate_eval.proofs.Marks.Holds.{holds_parts}
use Rattle.rounds_judge.specs.Aliases.Listed.{Listing, listed, normalized_tree, current}
use Rattle.rounds_judge.specs.Equations.Active.{is_active}
use Rattle.rounds_judge.specs.Equations.Scopes.{Scope, placed_tree, entered, has_binder, has_variables}
use Rattle.rounds_judge.specs.Equations.Binding.{bound, may_take, occurs}
use Rattle.rounds_judge.specs.Equations.Equating.{Pair, Visit, Refused, Left, count_unbound, first_of, looks, matched, met, offered, outlives, size_of_pairs, unified, value_for, visited, with_equal_regions}
use Rattle.rounds_judge.specs.Equations.Standing.{AreResolved, IsListing}
use Rattle.rounds_judge.proofs.States.Later.{no_value}
use Rattle.rounds_judge.proofs.Equations.Offered.{no_listed}
use Rattle.rounds_judge.proofs.Equations.Sizes.{enough_fewer}
use Rattle.rounds_judge.proofs.Equations.Stepping.{unified-left}

-- What has a head at which nothing is active

-- one that isn't active has no binder, is no alias, and has no value
record IsPassive (S : State) (h : Head) : Type 0 where
  no_binder : has_binder h ≡ false
  no_alias : is_alias h ≡ false
  no_root : root_value S h ≡ None

passive : (S : State) (h : Head) → is_active S h ≡ false → IsPassive S h
passive S h e = at (has_binder h) (is_alias h) (is_some (root_value S h)) refl refl refl e
  where
    at : (a b c : Bool) → has_binder h ≡ a → is_alias h ≡ b → is_some (root_value S h) ≡ c → a || (b || c) ≡ false → IsPassive S h
    at false false false f g k e = record { no_binder = f; no_alias = g; no_root = no_value (root_value S h) k }
    at false false true f g k e = cc
    at false true c f g k e = cc
    at true b c f g k e = cc

-- such a tree is itself at the state
current-itself : (l : Listing) (S : State) (h : Head) (a : Forest) → IsPassive S h → current l S (record { head = h; children = a }) ≡ record { head = h; children = a }
current-itself l S h a p =
    let t : Tree = record { head = h; children = a } in
    ap (λ o. let u : Tree = unwrap_or o t in if is_alias u.head then unwrap_or (listed l (resolved_tree S u)) u else u) p.no_root
    ∙ ap (λ b. if b then unwrap_or (listed l (resolved_tree S t)) t else t) p.no_alias

-- two rows of one forest
abbrev pub twice : Scope → Forest → Pair
twice us f = record { scope = us; left = f; right = f }

module _ (l : Listing) (listing : IsListing l) (S : State) (us : Scope) where
  -- a variable without a value isn't offered itself: it would stand in its own value
  own-value : (v : Variable) (a : Forest) → root_value S (H.Infer v) ≡ None → (value_for l S us (record { head = H.Infer v; children = a })).head ≡ H.Infer v
  own-value v a e =
      let t : Tree = record { head = H.Infer v; children = fold (λ d u. value_at S u.head) (0 + binders_of (H.Infer v)) a } in
      ap (λ o. (placed_tree us (normalized_tree l (unwrap_or o t))).head) e
      ∙ ap (λ o. (placed_tree us (unwrap_or o (record { head = H.Infer v; children = fold (λ d u. listed l u) (0 + binders_of (H.Infer v)) t.children }))).head) (no_listed l listing t refl)

  declined : (v : Variable) (t : Tree) → t.head ≡ H.Infer v → may_take S v t ≡ false
  declined v t e =
      let stands : occurs v.number t ≡ true = ap (λ h. is_number v.number h || (holds (is_number v.number) t.children || false)) e ∙ ap (λ b. b || (holds (is_number v.number) t.children || false)) (eq-eqb v.number v.number refl) in
      both (has_kind (Term v.sort) _) (fits_sort v.sort t.head) (occurs v.number t) _ stands
    where
      both : (a b c d : Bool) → c ≡ true → a && (b && (not c && d)) ≡ false
      both true true true d e = refl
      both true false c d e = refl
      both false b c d e = refl
      both true true false d e = cc

  pub offered-itself : (h : Head) (a : Forest) (more : List Pair) → root_value S h ≡ None → offered l S us h (record { head = h; children = a }) more ≡ None
  offered-itself (H.Infer v) a more e =
      let t = value_for l S us (record { head = H.Infer v; children = a }) in
      ap (λ b. if b then Some (Left (bound S v t) more) else None) (declined v t (own-value v a e))
  offered-itself _ a more e = refl

  -- Regions that are equal aren't recorded, and what is below a tree without a binder is looked at next.

  regions-itself : (r : Tree) → with_equal_regions S r r ≡ S
  regions-itself r = ap (λ b. if b then S else record S { regions = S.regions ++ outlives r r ∷ outlives r r ∷ [] }) (head_itself r.head)

  abbrev after : Head → Forest → List Pair → List Pair
  after h a more = if is_region h then more else twice us a ∷ more

  matched-itself : (h : Head) (a : Forest) (more : List Pair) → has_binder h ≡ false → matched S us (record { head = h; children = a }) (record { head = h; children = a }) more ≡ Left S (after h a more)
  matched-itself h a more e =
      let t = placed_tree us (record { head = h; children = a }) in
      at (with_equal_regions S t t) (with_universe S) (entered S h a).newest_universe (is_region h) (same_head h h) (has_binder h) (regions-itself t) (head_itself h) e
    where
      at : (R T : State) (u : ℕ) (b c d : Bool) → R ≡ S → c ≡ true → d ≡ false
          → ◌≡◌ {A = Visit} (if b && b then Left R more else (if c then Left (if d && has_variables a then T else S) (record { scope = if d then u ∷ us else us; left = a; right = a } ∷ more) else Refused)) (Left S (if b then more else twice us a ∷ more))
      at R T u true c d e f g = ap (λ R. Left R more) e
      at R T u false true false e f g = refl
      at R T u false false d e f g = cc
      at R T u false true true e f g = cc

  visited-itself : (h : Head) (a r : Forest) (more : List Pair) → is_active S h ≡ false → visited l S (twice us (tree h a r) ∷ more) ≡ Left S (after h a (twice us r ∷ more))
  visited-itself h a r more e =
      let p = passive S h e in
      let t : Tree = record { head = h; children = a } in
      let rest = twice us r ∷ more in
      let no = offered-itself h a rest p.no_root in
      ap (λ u. met l S us u u rest) (current-itself l S h a p)
      ∙ (ap (λ o. first_of o o (matched S us t t rest)) no ∙ matched-itself h a rest p.no_binder)

  -- What is kept where a look leaves the state is kept where the rows are passed over.
  pub passed : (P : List Pair → Type 0) → ((ps qs : List Pair) → visited l S ps ≡ Left S qs → P qs → P ps) → (f : Forest) (more : List Pair) → holds (is_active S) f ≡ false → P more → P (twice us f ∷ more)
  passed P back none more e p = back (twice us none ∷ more) more refl p
  passed P back (tree h a r) more e p =
      let k = holds_parts (is_active S) h a r e in
      back (twice us (tree h a r) ∷ more) (after h a (twice us r ∷ more)) (visited-itself h a r more k.here)
      (at (is_region h) (λ q. passed P back a (twice us r ∷ more) k.under q) (passed P back r more k.others p))
    where
      at : (b : Bool) → (P (twice us r ∷ more) → P (twice us a ∷ (twice us r ∷ more))) → P (twice us r ∷ more) → P (if b then twice us r ∷ more else twice us a ∷ (twice us r ∷ more))
      at true f q = q
      at false f q = f q

  -- What is unified is what comes after such rows.
  pub unified-passed : AreResolved S → (f : Forest) (more : List Pair) → holds (is_active S) f ≡ false → unified l S (twice us f ∷ more) ≡ unified l S more
  unified-passed r f more e = passed (λ ps. unified l S ps ≡ unified l S more) (λ ps qs v k. unified-left l listing S S ps qs r v ∙ k) f more e refl

-- Fewer looks are left without a pair.
pub looks-fewer : (l : Listing) (S : State) (p : Pair) (more : List Pair) → looks l S more < looks l S (p ∷ more)
looks-fewer l S p more = enough_fewer (count_unbound S.variables) (size_of_pairs l S more) (size_of_pairs l S (p ∷ more)) (omega arith)
