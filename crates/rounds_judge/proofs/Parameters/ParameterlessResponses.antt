-- No parameter stands in the values that a response says, where none stands in those of its state.
use Rattle.std.proofs.Common.{◌≡◌, ℕ, suc, ◌+◌, Bool, true, false, List, [], ◌∷◌, Option, Some, None, slice_get, if◌then◌else◌, arith, refl, sym, ap, subst, ◌∙◌}
use Rattle.ir_trees.specs.declared.ir.heads.Head.{Head}
use Rattle.ir_trees.specs.declared.ir.heads.Head.TheVariants as H
use Rattle.ir_trees.specs.declared.ir.kinds.RegionKind.TheVariants as R
use Rattle.ir_trees.specs.Syntax.Trees.{Forest, none, tree, Tree, holds, is_param}
use Rattle.ir_trees.specs.Instantiation.Folding.{leaf}
use Rattle.ir_trees.specs.Unification.Substitutions.{alone}
use Rattle.ir_trees.proofs.Instantiation.Folding.{begin}
use Rattle.candidate_eval.specs.declared.eval.variable.VariableKind.{VariableKind}
use Rattle.candidate_eval.specs.declared.eval.variable.VariableKind.TheVariants.{Term, Region}
use Rattle.candidate_eval.specs.Judges.States.{State, VariableInfo, variable, valued, has_kind, same_kind}
use Rattle.candidate_eval.specs.Judges.Alike.{info}
use Rattle.candidate_eval.specs.Judges.Soundness.{Live, IsSound, IsLater, Stays, is_strange}
use Rattle.candidate_eval.specs.Judges.Instances.{instance}
use Rattle.candidate_eval.specs.Judges.Lawful.{HasNoParameter, RootsCount}
use Rattle.candidate_eval.proofs.Marks.Holds.{holds_parts}
use Rattle.rounds_judge.specs.Aliases.Listed.{Listing}
use Rattle.rounds_judge.specs.Equations.Standing.{IsListing}
use Rattle.rounds_judge.specs.Obligations.Responding.{place_of, renumbered, renumbered_region, renumbered_regions, renumbering, root_values, roots_from}
use Rattle.rounds_judge.proofs.States.Bound.{same_sort_itself}
use Rattle.rounds_judge.proofs.States.Later.{counted}
use Rattle.rounds_judge.proofs.States.Marks.{fold_marked, whole}
use Rattle.rounds_judge.proofs.Parameters.Parameterless.{resolved-free}

-- Roots that count do so at a later state.
pub roots-later : (S T : State) (L : Live) → IsLater S T L → RootsCount S L → RootsCount T L
roots-later S T L later roots n j there is = at (info S n) refl
  where
    same : (i : VariableInfo) → Stays i (info T n) → i.is_root ≡ true
    same i stays =
        let one : Some j ≡ Some stays.now = sym there ∙ stays.there in
        let is-now : j ≡ stays.now = cc in
        sym stays.is_root ∙ (sym (ap (λ (k : VariableInfo). k.is_root) is-now) ∙ is)

    at : (o : Option VariableInfo) → info S n ≡ o → L n ≡ true
    at None e = let no : true ≡ false = sym is ∙ later.no_root n j e there in absurd cc
    at (Some i) e = roots n i e (same i (later.infos n i e))

-- Root variables are of the state, and no parameters.
module _ (T : State) (L : Live) (roots : RootsCount T L) where
  known : (k : VariableKind) (n : ℕ) → L n ≡ true → has_kind k (info T n) ≡ true → is_strange T L (variable k n).head ≡ false
  known (Term s) n c k = counted (L n) (has_kind (Term s) (info T n)) c k
  known Region n c k = counted (L n) (has_kind Region (info T n)) c k

  itself : (k : VariableKind) → same_kind k k ≡ true
  itself (Term s) = same_sort_itself s
  itself Region = refl

  bare : (mark : Head → Bool) (k : VariableKind) (n : ℕ) (rest : Forest) → mark (variable k n).head ≡ false → holds mark rest ≡ false → holds mark (begin (variable k n) rest) ≡ false
  bare mark (Term s) n rest a b = whole mark (variable (Term s) n).head none rest a refl b
  bare mark Region n rest a b = whole mark (variable Region n).head none rest a refl b

  no-param : (k : VariableKind) (n : ℕ) → is_param (variable k n).head ≡ false
  no-param (Term s) n = refl
  no-param Region n = refl

  roots-known : (b : ℕ) (is : List VariableInfo) → ((n : ℕ) (i : VariableInfo) → slice_get is n ≡ Some i → info T (b + n) ≡ Some i) → holds (is_strange T L) (roots_from b is) ≡ false
  roots-known b [] there = refl
  roots-known b (i ∷ is) there = at i.is_root refl (roots-known (suc b) is (λ n j e. subst (λ k. info T k ≡ Some j) (let s : b + suc n ≡ suc b + n = omega arith in s) (there (suc n) j e)))
    where
      here : info T b ≡ Some i
      here = subst (λ k. info T k ≡ Some i) (let s : b + 0 ≡ b = omega arith in s) (there 0 i refl)

      at : (root : Bool) → i.is_root ≡ root → holds (is_strange T L) (roots_from (suc b) is) ≡ false
          → holds (is_strange T L) (if root then begin (variable i.kind b) (roots_from (suc b) is) else roots_from (suc b) is) ≡ false
      at true e more = bare (is_strange T L) i.kind b (roots_from (suc b) is) (known i.kind b (roots b i here e) (ap (has_kind i.kind) here ∙ itself i.kind)) more
      at false e more = more

  roots-free : (b : ℕ) (is : List VariableInfo) → holds is_param (roots_from b is) ≡ false
  roots-free b [] = refl
  roots-free b (i ∷ is) = at i.is_root (roots-free (suc b) is)
    where
      at : (root : Bool) → holds is_param (roots_from (suc b) is) ≡ false → holds is_param (if root then begin (variable i.kind b) (roots_from (suc b) is) else roots_from (suc b) is) ≡ false
      at true more = bare is_param i.kind b (roots_from (suc b) is) (no-param i.kind b) more
      at false more = more

  pub values-free : (l : Listing) → IsListing l → IsSound T L → HasNoParameter T L → holds is_param (root_values T) ≡ false
  values-free l listing sound free =
      resolved-free l listing T L sound free (roots_from 0 T.variables)
      (roots-known 0 T.variables (λ n i e. subst (λ k. info T k ≡ Some i) (let s : n ≡ 0 + n = omega arith in s) e)) (roots-free 0 T.variables)

-- New numbers bring none in.

regions-renumbered : (ns : List ℕ) (ts : Forest) → holds is_param ts ≡ false → holds is_param (renumbered_regions ns ts) ≡ false
regions-renumbered ns none n = refl
regions-renumbered ns (tree h below rest) n =
    let p = holds_parts is_param h below rest n in
    whole is_param (renumbered_region ns h) (renumbered_regions ns below) (renumbered_regions ns rest) (at h p.here) (regions-renumbered ns below p.under) (regions-renumbered ns rest p.others)
  where
    at : (h : Head) → is_param h ≡ false → is_param (renumbered_region ns h) ≡ false
    at (H.Region (R.Var k)) e = refl
    at _ e = e

pub renumbered-free : (ns : List ℕ) (ts : Forest) → holds is_param ts ≡ false → holds is_param (renumbered ns ts) ≡ false
renumbered-free ns ts n =
    regions-renumbered ns (valued (instance (renumbering ns)) ts)
    (fold_marked (λ _ t. instance (renumbering ns) t.head) is_param is_param is_param (λ d t a b e. a) (λ d t u a b e. one t.head u e) 0 ts n n)
  where
    one : (h : Head) (u : Tree) → instance (renumbering ns) h ≡ Some u → holds is_param (alone u) ≡ false
    one (H.Infer v) u e =
        let t : Tree = leaf (H.Infer (record { sort = v.sort; number = place_of ns v.number })) in
        let is : t ≡ u = cc in
        subst (λ t. holds is_param (alone t) ≡ false) is refl
    one _ u e = cc
