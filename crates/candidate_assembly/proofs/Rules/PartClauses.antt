-- Clauses about the parts of a type.
use Rattle.std.proofs.Common.{◌≡◌, ℕ, zero, suc, ◌+◌, List, [], ◌∷◌, map, Option, Some, None, Bool, false, refl, sym, ap, ◌∙◌, arith}
use Rattle.std.specs.Prelude.{◌||◌, All, IfSome}
use Rattle.std.specs.List.{flat_map}
use Rattle.std.specs.Option.{unwrap_or}
use Rattle.ir_trees.specs.declared.ir.heads.ConstHead.TheVariants as C
use Rattle.ir_trees.specs.declared.ir.heads.Head.{Head}
use Rattle.ir_trees.specs.declared.ir.heads.Head.TheVariants as H
use Rattle.ir_trees.specs.declared.ir.kinds.Args.{Args}
use Rattle.ir_trees.specs.declared.ir.kinds.PredicatePolarity.{PredicatePolarity}
use Rattle.ir_trees.specs.declared.ir.kinds.TraitId.{TraitId}
use Rattle.ir_trees.specs.declared.ir.kinds.TraitPredicate.{TraitPredicate}
use Rattle.ir_trees.specs.declared.ir.kinds.Ty.{Ty}
use Rattle.ir_trees.specs.declared.ir.kinds.VarKind.{VarKind}
use Rattle.ir_trees.specs.declared.ir.kinds.VarKind.TheVariants as V
use Rattle.ir_trees.specs.Syntax.Binders.{escapes, is_beyond}
use Rattle.ir_trees.specs.Declarations.Context.{Context, Grows}
use Rattle.ir_trees.specs.Instantiation.Folding.{argument, put, substituted, substituted_tree}
use Rattle.ir_trees.specs.Unification.Substitutions.{alone}
use Rattle.ir_trees.specs.Hierarchy.Supers.{after_first}
use Rattle.ir_trees.specs.Syntax.Trees.{Kind, ConstantKind, RegionKind, Forest, none, tree, Tree, binders_of, holds, is_param, tree_holds}
use Rattle.ir_trees.specs.Syntax.Words.{IsArgs, IsTy, args_forest, ty_tree}
use Rattle.ir_trees.proofs.Instantiation.Folding.{begin, or-left, or-right, substituted-nothing}
use Rattle.ir_trees.proofs.Growth.Kept.{args-kept, ty-kept}
use Rattle.candidate_eval.specs.Interface.Evaluators.{kinds_listed, rigid, with_rigid}
use Rattle.candidate_eval.specs.Judges.States.{State, placeholder, placeholders}
use Rattle.candidate_eval.proofs.Marks.Closed.{closed, closed-parts, closed-shift}
use Rattle.candidate_eval.proofs.Derivations.Naming.{AreOfVariables, named-rigid-tree}
use Rattle.candidate_assembly.specs.Rules.BuiltinRules.{entered_values, holds_of, opened_by, said_of_type, values_at, with_names}
use Rattle.candidate_eval.specs.Derivations.Judging.{made_rigid, start}
use Rattle.candidate_assembly.specs.Answers.Telling.{standing}
use Rattle.candidate_assembly.specs.Goals.TraitGoals.{with_first}
use Rattle.candidate_assembly.proofs.Rules.Flat.{nothing-put}

abbrev pub said_of_part : List Tree → TraitPredicate → Option Args → Ty → List Tree
said_of_part ts p under t = said_of_type (args_forest ts p.trait_ref.args) p (opened_by (values_at ts under) (ty_tree ts t)) ∷ []

pub parts-said : (ts : List Tree) (p : TraitPredicate) (under : Option Args) (xs : List Ty)
    → flat_map (said_of_part ts p under) xs ≡ map (λ t. said_of_type (args_forest ts p.trait_ref.args) p (opened_by (values_at ts under) t)) (map (ty_tree ts) xs)
parts-said ts p under [] = refl
parts-said ts p under (x ∷ xs) = ap (λ us. said_of_type (args_forest ts p.trait_ref.args) p (opened_by (values_at ts under) (ty_tree ts x)) ∷ us) (parts-said ts p under xs)

-- What stands for a binder's variables stays while a context grows, and so does what is said of a part.

pub under-kept : (old new : Context) (under : Option Args) → Grows old new → IfSome under (λ a. IsArgs old.trees a) → IfSome under (λ a. IsArgs new.trees a) × (values_at new.trees under ≡ values_at old.trees under)
under-kept old new None g h = (tt, refl)
under-kept old new (Some a) g h = let k = args-kept old new a g h in (k.0, ap Some k.1)

pub part-kept : (old new : Context) (p : TraitPredicate) (under : Option Args) (t : Ty) → Grows old new → IsArgs old.trees p.trait_ref.args → IfSome under (λ a. IsArgs old.trees a) → IsTy old.trees t
    → said_of_part new.trees p under t ≡ said_of_part old.trees p under t
part-kept old new p under t g a u i =
    ap (λ (x : Forest). said_of_type x p (opened_by (values_at new.trees under) (ty_tree new.trees t)) ∷ []) (args-kept old new p.trait_ref.args g a).1
    ∙ (ap (λ (x : Option Forest). said_of_type (args_forest old.trees p.trait_ref.args) p (opened_by x (ty_tree new.trees t)) ∷ []) (under-kept old new under g u).1
    ∙ ap (λ (x : Tree). said_of_type (args_forest old.trees p.trait_ref.args) p (opened_by (values_at old.trees under) x) ∷ []) (ty-kept old new t g i).1)

-- Trees from which nothing escapes are put in alike at any depth.

argument-closed : (ls : Forest) (i : ℕ) → escapes 0 ls ≡ false → escapes 0 (alone (argument ls i)) ≡ false
argument-closed none i e = refl
argument-closed (tree h below rest) zero e = let p = closed-parts 0 h below rest e in closed 0 h below none p.here p.under refl
argument-closed (tree h below rest) (suc i) e = argument-closed rest i (closed-parts 0 h below rest e).others

module _ (ls : Forest) (e : escapes 0 ls ≡ false) where
  put-same : (d c : ℕ) (h : Head) → put ls d h ≡ put ls c h
  put-same d c (H.Param i) = let t = argument-closed ls i e in ap Some (closed-shift d (argument ls i) t ∙ sym (closed-shift c (argument ls i) t))
  put-same d c (H.Const (C.Param i)) = let t = argument-closed ls i e in ap Some (closed-shift d (argument ls i) t ∙ sym (closed-shift c (argument ls i) t))
  put-same d c _ = refl

  pub put-anywhere : (d c : ℕ) (ts : Forest) → substituted ls d ts ≡ substituted ls c ts
  put-anywhere d c none = refl
  put-anywhere d c (tree h below rest) =
      ap (λ o. begin (unwrap_or o (record { head = h; children = substituted ls (d + binders_of h) below })) (substituted ls d rest)) (put-same d c h)
      ∙ (ap (λ b. begin (unwrap_or (put ls c h) (record { head = h; children = b })) (substituted ls d rest)) (put-anywhere (d + binders_of h) (c + binders_of h) below)
      ∙ ap (begin (unwrap_or (put ls c h) (record { head = h; children = substituted ls (c + binders_of h) below }))) (put-anywhere d c rest))

placeholder-closed : (k : Kind) (u n : ℕ) → is_beyond 0 (placeholder k u n) ≡ false
placeholder-closed ConstantKind u n = refl
placeholder-closed RegionKind u n = refl
placeholder-closed _ u n = refl

pub placeholders-closed : (u n : ℕ) (ks : List Kind) → escapes 0 (placeholders u n ks) ≡ false
placeholders-closed u n [] = refl
placeholders-closed u n (k ∷ ks) = closed 0 (placeholder k u n) none (placeholders u (suc n) ks) (placeholder-closed k u n) refl (placeholders-closed u (suc n) ks)

pub listed-kinds : (ks : List VarKind) → AreOfVariables (kinds_listed ks)
listed-kinds [] = tt
listed-kinds (V.Ty ∷ ks) = (λ n. refl, listed-kinds ks)
listed-kinds (V.Const ∷ ks) = (λ n. refl, listed-kinds ks)
listed-kinds (V.Region ∷ ks) = (λ n. refl, listed-kinds ks)

-- What a trait says of a tree names no parameter, where that and the trait's other arguments name none.

pub none-of : (a b : Bool) → a ≡ false → b ≡ false → (a || b) ≡ false
none-of a b e h = rw (e, h) refl

after-free : (ts : Forest) → holds is_param ts ≡ false → holds is_param (after_first ts) ≡ false
after-free none e = refl
after-free (tree h below rest) e = or-right _ _ (or-right _ _ e)

pub first-free : (t : Tree) (args : Forest) → tree_holds is_param t ≡ false → holds is_param args ≡ false → holds is_param (with_first t args) ≡ false
first-free t args e h = none-of _ _ (or-left _ _ e) (none-of _ _ (or-right _ _ e) (after-free args h))

-- A clause about a part, with the placeholders put in for its names, is the clause about the part with the placeholders.

put-first : (ls : Forest) (t : Tree) (args : Forest) → escapes 0 ls ≡ false → holds is_param args ≡ false → substituted ls 1 (with_first t args) ≡ with_first (substituted_tree ls t) args
put-first ls t args e h = put-anywhere ls e 1 0 (with_first t args) ∙ ap (tree (substituted_tree ls t).head (substituted_tree ls t).children) (substituted-nothing ls 0 (after_first args) (after-free args h))

module _ (S : State) (i : TraitId) (p : PredicatePolarity) (args : Forest) (free : holds is_param args ≡ false) where
  entered-part : (ks : List Kind) → AreOfVariables ks → (t : Tree) → tree_holds is_param t ≡ false
      → substituted_tree (rigid S ks) (holds_of i p none (with_first (with_names ks t) args)) ≡ holds_of i p none (with_first (opened_by (entered_values S ks) t) args)
  entered-part [] a t e = nothing-put none (holds_of i p none (with_first t args)) (first-free t args e free)
  entered-part (k ∷ ks) a t e =
      ap (holds_of i p none) (put-first (rigid S (k ∷ ks)) (with_names (k ∷ ks) t) args (placeholders-closed _ 0 (k ∷ ks)) free
      ∙ ap (λ u. with_first u args) (named-rigid-tree S none (k ∷ ks) t a e))

  pub entered-parts : (ks : List Kind) → AreOfVariables ks → (ts : List Tree) → All (λ t. tree_holds is_param t ≡ false) ts
      → map (substituted_tree (rigid S ks)) (map (λ t. holds_of i p none (with_first t args)) (map (with_names ks) ts)) ≡ map (λ t. holds_of i p none (with_first (opened_by (entered_values S ks) t) args)) ts
  entered-parts ks a [] h = refl
  entered-parts ks a (t ∷ ts) h =
      ap (λ u. u ∷ map (substituted_tree (rigid S ks)) (map (λ t. holds_of i p none (with_first t args)) (map (with_names ks) ts))) (entered-part ks a t (h 0 t (omega arith)))
      ∙ ap (λ us. holds_of i p none (with_first (opened_by (entered_values S ks) t) args) ∷ us) (entered-parts ks a ts (λ k d l. h (suc k) d (omega (arith, l))))

pub rigid-start : (S : State) (ks : List Kind) → made_rigid (start S) ks ≡ standing (with_rigid S ks) (rigid S ks)
rigid-start S [] = refl
rigid-start S (k ∷ ks) = refl
