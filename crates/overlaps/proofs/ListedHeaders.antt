-- Trees with listed types in the place of their aliases: fresh variables for parameters may be put in before or after.
use Rattle.std.proofs.Common.{◌≡◌, ◌<◌, ℕ, zero, suc, ◌+◌, Bool, true, false, not, ◌&&◌, List, [], ◌∷◌, length, Option, Some, None, refl, sym, ap, subst, ◌∙◌, arith, nat_lt}
use Rattle.std.specs.Option.{unwrap_or}
use Rattle.std.proofs.lemmas.Bool.{and_parts, ltb-true}
use Rattle.std.proofs.lemmas.List.Elements.{All-weaker}
use Rattle.ir_trees.specs.declared.ir.heads.ConstHead.TheVariants as C
use Rattle.ir_trees.specs.declared.ir.heads.Head.{Head}
use Rattle.ir_trees.specs.declared.ir.heads.Head.TheVariants as H
use Rattle.ir_trees.specs.Instantiation.Folding.{argument, lacks_argument, put, shift_tree, substituted}
use Rattle.ir_trees.specs.Instantiation.Folds.{node}
use Rattle.ir_trees.specs.Syntax.Binders.{escapes}
use Rattle.ir_trees.specs.Syntax.Trees.{Kind, Forest, none, tree, Tree, binders_of, count, holds, is_alias, is_param, is_type, kind_of}
use Rattle.ir_trees.specs.Unification.Substitutions.{alone, is_constant_kind, is_made}
use Rattle.ir_trees.proofs.Instantiation.Folding.{begin, fold-nothing, substituted-nothing}
use Rattle.candidate_eval.specs.declared.eval.variable.VariableKind.{VariableKind}
use Rattle.candidate_eval.specs.declared.eval.variable.VariableKind.TheVariants.{Term, Region}
use Rattle.candidate_eval.specs.Judges.States.{State, fresh_variables, variable, variable_kind, with_fresh}
use Rattle.candidate_eval.proofs.Marks.Closed.{closed-shift}
use Rattle.candidate_eval.proofs.Marks.Holds.{holds_imply, holds_parts}
use Rattle.candidate_eval.proofs.Marks.Marking.{argument-unmarked}
use Rattle.candidate_assembly.proofs.Refusals.KnownHeaders.{argument-closed, fresh-closed, fresh-unmarked}
use Rattle.rounds_judge.specs.Aliases.Listed.{Listing, listed}
use Rattle.rounds_judge.specs.Equations.Standing.{IsFixed, IsListed, IsListing}
use Rattle.rounds_judge.proofs.Aliases.OpenedParts.{pair_found}
use Rattle.rounds_judge.proofs.States.Marks.{fold_marked, whole}
use Rattle.overlaps.specs.Apart.{with_listed}
use Rattle.overlaps.proofs.ReadSides.{placed}

-- Fresh variables are made by an evaluator, and have no alias.

made-there : (S : State) (ks : List Kind) (i : ℕ) → i < count (fresh_variables S ks) → is_made (argument (fresh_variables S ks) i).head ≡ true
made-there S [] i l = absurd (omega (arith, l))
made-there S (k ∷ ks) zero l = at (variable_kind k) (length S.variables)
  where
    at : (w : VariableKind) (n : ℕ) → is_made (variable w n).head ≡ true
    at (Term s) n = refl
    at Region n = refl
made-there S (k ∷ ks) (suc i) l = made-there (with_fresh S (variable_kind k)) ks i (omega (arith, l))

fresh-no-alias : (S : State) (ks : List Kind) → holds is_alias (fresh_variables S ks) ≡ false
fresh-no-alias S ks = fresh-unmarked is_alias S ks (λ j k e. at (variable_kind k) (length S.variables + j))
  where
    at : (w : VariableKind) (n : ℕ) → is_alias (variable w n).head ≡ false
    at (Term s) n = refl
    at Region n = refl

-- what is no parameter lacks no argument
no-lack : (F : Forest) (h : Head) → is_param h ≡ false → lacks_argument F h ≡ false
no-lack F (H.Param i) e = absurd cc
no-lack F (H.Const (C.Param i)) e = absurd cc
no-lack F _ e = refl

-- a parameter has its argument
has-argument : (F : Forest) (i : ℕ) (b : Bool) → not (nat_lt i (count F) && b) ≡ false → i < count F
has-argument F i b e = ltb-true i (count F) (and_parts (nat_lt i (count F)) b (not-false (nat_lt i (count F) && b) e)).0
  where
    not-false : (x : Bool) → not x ≡ false → x ≡ true
    not-false true e = refl
    not-false false e = absurd cc

module _ (l : Listing) (listing : IsListing l) where
  -- What is listed, and the alias that it is listed for.

  alias-fixed : (t u : Tree) → listed l t ≡ Some u → IsFixed t
  alias-fixed t u e = pair_found (λ t u. IsFixed t) l.pairs t u e (All-weaker IsListed (λ (p : Tree × Tree). IsFixed p.0) (λ (p : Tree × Tree) k. k.alias) l.pairs listing)

  type-fixed : (t u : Tree) → listed l t ≡ Some u → IsFixed u
  type-fixed t u e = pair_found (λ t u. IsFixed u) l.pairs t u e (All-weaker IsListed (λ (p : Tree × Tree). IsFixed p.1) (λ (p : Tree × Tree) k. k.type) l.pairs listing)

  listed-alias : (t u : Tree) → listed l t ≡ Some u → is_alias t.head ≡ true
  listed-alias t u e =
      pair_found (λ t u. is_alias t.head ≡ true) l.pairs t u e (All-weaker IsListed (λ (p : Tree × Tree). is_alias p.0.head ≡ true) (λ (p : Tree × Tree) k. k.is_alias) l.pairs listing)

  not-listed : (t : Tree) → is_alias t.head ≡ false → listed l t ≡ None
  not-listed t m = at (listed l t) refl
    where
      at : (o : Option Tree) → listed l t ≡ o → o ≡ None
      at None e = refl
      at (Some u) e = absurd (let clash : true ≡ false = sym (listed-alias t u e) ∙ m in cc)

  -- Nothing made stands in them, if none did, and what had an argument for each parameter has it still.

  pub listed-bare : (ts : Forest) → holds is_made ts ≡ false → holds is_made (with_listed l ts) ≡ false
  listed-bare ts e = fold_marked (λ d u. listed l u) is_made is_made is_made (λ d t x y f. x) (λ d t u x y f. (type-fixed t u f).not_made) 0 ts e e

  pub listed-has : (F : Forest) (ts : Forest) → holds (lacks_argument F) ts ≡ false → holds (lacks_argument F) (with_listed l ts) ≡ false
  listed-has F ts e =
      fold_marked (λ d u. listed l u) (lacks_argument F) (lacks_argument F) (lacks_argument F) (λ d t x y f. x)
      (λ d t u x y f. holds_imply is_param (lacks_argument F) (no-lack F) (alone u) (type-fixed t u f).no_parameter) 0 ts e e

  -- nothing is put into trees without aliases
  pub nothing-listed : (d : ℕ) (ts : Forest) → holds is_alias ts ≡ false → placed l.pairs d ts ≡ ts
  nothing-listed d ts m = fold-nothing (λ d u. listed l u) is_alias (λ d t e. not-listed t e) d ts m

  module _ (V : Forest) (shut : escapes 0 V ≡ false) (plain : holds is_alias V ≡ false) (made : (i : ℕ) → i < count V → is_made (argument V i).head ≡ true) where
    -- what is put there
    stands-there : (d i : ℕ) → shift_tree d (argument V i) ≡ argument V i
    stands-there d i = closed-shift d (argument V i) (argument-closed V i shut)

    -- Where nothing made stands once these are put in, no parameter stood.
    no-parameter : (d : ℕ) (ts : Forest) → holds (lacks_argument V) ts ≡ false → holds is_made (substituted V d ts) ≡ false → holds is_param ts ≡ false
    no-parameter d none q m = refl
    no-parameter d (tree h below rest) q m =
        let p = holds_parts (lacks_argument V) h below rest q in
        at h p.here m (no-parameter (d + binders_of h) below p.under) (no-parameter d rest p.others)
      where
        one : (i : ℕ) → i < count V → holds is_made (begin (shift_tree d (argument V i)) (substituted V d rest)) ≡ false → ⊥
        one i l m =
            let t = argument V i in
            let p = holds_parts is_made t.head t.children (substituted V d rest) (subst (λ (x : Tree). holds is_made (begin x (substituted V d rest)) ≡ false) (stands-there d i) m) in
            let clash : true ≡ false = sym (made i l) ∙ p.here in
            cc

        at : (h : Head) → lacks_argument V h ≡ false → holds is_made (begin (unwrap_or (put V d h) (node h (substituted V (d + binders_of h) below))) (substituted V d rest)) ≡ false
            → (holds is_made (substituted V (d + binders_of h) below) ≡ false → holds is_param below ≡ false) → (holds is_made (substituted V d rest) ≡ false → holds is_param rest ≡ false)
            → holds is_param (tree h below rest) ≡ false
        at (H.Param i) l m under others = absurd (one i (has-argument V i (is_type (argument V i).head) l) m)
        at (H.Const (C.Param i)) l m under others = absurd (one i (has-argument V i (is_constant_kind (kind_of (argument V i).head)) l) m)
        at h l m under others =
            let p = holds_parts is_made h (substituted V (d + binders_of h) below) (substituted V d rest) m in
            whole is_param h below rest refl (under p.under) (others p.others)

    -- A node is listed with these in the place of its parameters where it is listed without.
    same-listed : (d : ℕ) (h : Head) (below : Forest) → holds (lacks_argument V) below ≡ false → listed l (node h (substituted V d below)) ≡ listed l (node h below)
    same-listed d h below q = at (listed l (node h below)) (listed l (node h (substituted V d below))) refl refl
      where
        same : holds is_param below ≡ false → listed l (node h (substituted V d below)) ≡ listed l (node h below)
        same e = ap (λ x. listed l (node h x)) (substituted-nothing V d below e)

        at : (o p : Option Tree) → listed l (node h below) ≡ o → listed l (node h (substituted V d below)) ≡ p → listed l (node h (substituted V d below)) ≡ listed l (node h below)
        at (Some u) p e f = same (holds_parts is_param h below none (alias-fixed (node h below) u e).no_parameter).under
        at None (Some u) e f = same (no-parameter d below q (holds_parts is_made h (substituted V d below) none (alias-fixed (node h (substituted V d below)) u f).not_made).under)
        at None None e f = f ∙ sym e

    -- trees that neither changes

    placed-quiet : (e : ℕ) (t : Tree) (rest : Forest) → holds is_alias (alone t) ≡ false → placed l.pairs e (begin t rest) ≡ begin t (placed l.pairs e rest)
    placed-quiet e t rest m =
        let p = holds_parts is_alias t.head t.children none m in
        ap (λ o. begin (unwrap_or o (node t.head (placed l.pairs (e + binders_of t.head) t.children))) (placed l.pairs e rest)) (not-listed t p.here)
        ∙ ap (λ b. tree t.head b (placed l.pairs e rest)) (nothing-listed (e + binders_of t.head) t.children p.under)

    put-quiet : (d : ℕ) (h : Head) → is_param h ≡ false → put V d h ≡ None
    put-quiet d (H.Param i) e = absurd cc
    put-quiet d (H.Const (C.Param i)) e = absurd cc
    put-quiet d _ e = refl

    substituted-quiet : (d : ℕ) (t : Tree) (rest : Forest) → holds is_param (alone t) ≡ false → substituted V d (begin t rest) ≡ begin t (substituted V d rest)
    substituted-quiet d t rest m =
        let p = holds_parts is_param t.head t.children none m in
        ap (λ o. begin (unwrap_or o (node t.head (substituted V (d + binders_of t.head) t.children))) (substituted V d rest)) (put-quiet d t.head p.here)
        ∙ ap (λ b. tree t.head b (substituted V d rest)) (substituted-nothing V (d + binders_of t.head) t.children p.under)

    -- a parameter
    parameter-same : (d e i : ℕ) (rest : Forest) → placed l.pairs e (substituted V d rest) ≡ substituted V d (placed l.pairs e rest)
        → placed l.pairs e (begin (shift_tree d (argument V i)) (substituted V d rest)) ≡ begin (shift_tree d (argument V i)) (substituted V d (placed l.pairs e rest))
    parameter-same d e i rest others =
        let t = shift_tree d (argument V i) in
        placed-quiet e t (substituted V d rest) (ap (λ (x : Tree). holds is_alias (alone x)) (stands-there d i) ∙ argument-unmarked is_alias V i refl plain) ∙ ap (begin t) others

    -- any other node
    other-same : (d e : ℕ) (h : Head) (below rest : Forest) → put V d h ≡ None → holds (lacks_argument V) below ≡ false
        → placed l.pairs (e + binders_of h) (substituted V (d + binders_of h) below) ≡ substituted V (d + binders_of h) (placed l.pairs (e + binders_of h) below)
        → placed l.pairs e (substituted V d rest) ≡ substituted V d (placed l.pairs e rest)
        → placed l.pairs e (substituted V d (tree h below rest)) ≡ substituted V d (placed l.pairs e (tree h below rest))
    other-same d e h below rest n q under others =
        ap (λ o. placed l.pairs e (begin (unwrap_or o (node h A)) B)) n
        ∙ (ap (λ o. begin (unwrap_or o (node h (placed l.pairs (e + binders_of h) A))) (placed l.pairs e B)) (same-listed (d + binders_of h) h below q) ∙ at (listed l (node h below)) refl)
      where
        A : Forest
        A = substituted V (d + binders_of h) below

        B : Forest
        B = substituted V d rest

        at : (o : Option Tree) → listed l (node h below) ≡ o
            → begin (unwrap_or (listed l (node h below)) (node h (placed l.pairs (e + binders_of h) A))) (placed l.pairs e B)
            ≡ substituted V d (begin (unwrap_or (listed l (node h below)) (node h (placed l.pairs (e + binders_of h) below))) (placed l.pairs e rest))
        at (Some u) f =
            ap (λ o. begin (unwrap_or o (node h (placed l.pairs (e + binders_of h) A))) (placed l.pairs e B)) f
            ∙ (ap (begin u) others
            ∙ (sym (substituted-quiet d u (placed l.pairs e rest) (type-fixed (node h below) u f).no_parameter)
            ∙ sym (ap (λ o. substituted V d (begin (unwrap_or o (node h (placed l.pairs (e + binders_of h) below))) (placed l.pairs e rest))) f)))
        at None f =
            ap (λ o. begin (unwrap_or o (node h (placed l.pairs (e + binders_of h) A))) (placed l.pairs e B)) f
            ∙ ((λ i. tree h (under i) (others i))
            ∙ (sym (ap (λ o. begin (unwrap_or o (node h (substituted V (d + binders_of h) (placed l.pairs (e + binders_of h) below)))) (substituted V d (placed l.pairs e rest))) n)
            ∙ sym (ap (λ o. substituted V d (begin (unwrap_or o (node h (placed l.pairs (e + binders_of h) below))) (placed l.pairs e rest))) f)))

    pub placed-put : (d e : ℕ) (ts : Forest) → holds (lacks_argument V) ts ≡ false → placed l.pairs e (substituted V d ts) ≡ substituted V d (placed l.pairs e ts)
    placed-put d e none q = refl
    placed-put d e (tree h below rest) q =
        let p = holds_parts (lacks_argument V) h below rest q in
        at h p.under (placed-put (d + binders_of h) (e + binders_of h) below p.under) (placed-put d e rest p.others)
      where
        at : (h : Head) → holds (lacks_argument V) below ≡ false
            → placed l.pairs (e + binders_of h) (substituted V (d + binders_of h) below) ≡ substituted V (d + binders_of h) (placed l.pairs (e + binders_of h) below)
            → placed l.pairs e (substituted V d rest) ≡ substituted V d (placed l.pairs e rest)
            → placed l.pairs e (substituted V d (tree h below rest)) ≡ substituted V d (placed l.pairs e (tree h below rest))
        at (H.Param i) k under others =
            parameter-same d e i rest others
            ∙ sym (ap (λ o. substituted V d (begin (unwrap_or o (node (H.Param i) (placed l.pairs (e + binders_of (H.Param i)) below))) (placed l.pairs e rest))) (not-listed (node (H.Param i) below) refl))
        at (H.Const (C.Param i)) k under others =
            let h : Head = H.Const (C.Param i) in
            parameter-same d e i rest others
            ∙ sym (ap (λ o. substituted V d (begin (unwrap_or o (node h (placed l.pairs (e + binders_of h) below))) (placed l.pairs e rest))) (not-listed (node h below) refl))
        at h k under others = other-same d e h below rest refl k under others

  -- Listed types put in after fresh variables, and before.
  pub listed-fresh : (S : State) (ks : List Kind) (ts : Forest) → holds (lacks_argument (fresh_variables S ks)) ts ≡ false
      → with_listed l (substituted (fresh_variables S ks) 0 ts) ≡ substituted (fresh_variables S ks) 0 (with_listed l ts)
  listed-fresh S ks ts q = placed-put (fresh_variables S ks) (fresh-closed S ks) (fresh-no-alias S ks) (made-there S ks) 0 0 ts q
