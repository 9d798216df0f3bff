-- The side conditions of auto traits.
use Rattle.std.proofs.Common.{◌≡◌, ℕ, Bool, true, false, List, [], refl, sym, ap, ◌∙◌}
use Rattle.std.specs.Prelude.{◌||◌, ◌&&◌, not, if◌then◌else◌}
use Rattle.std.specs.List.{list_any}
use Rattle.ir_trees.specs.declared.ir.heads.Builtin.{Builtin}
use Rattle.ir_trees.specs.declared.ir.heads.Builtin.TheVariants as B
use Rattle.ir_trees.specs.declared.ir.heads.Head.{Head}
use Rattle.ir_trees.specs.declared.ir.heads.Head.TheVariants as H
use Rattle.ir_trees.specs.declared.ir.heads.ListHead.TheVariants as L
use Rattle.ir_trees.specs.declared.ir.heads.PartHead.TheVariants as P
use Rattle.ir_trees.specs.declared.ir.kinds.AliasId.{AliasId}
use Rattle.ir_trees.specs.declared.ir.kinds.AliasKind.{AliasKind}
use Rattle.ir_trees.specs.declared.ir.kinds.AliasKind.TheVariants as AK
use Rattle.ir_trees.specs.declared.ir.kinds.Clause.{Clause}
use Rattle.ir_trees.specs.declared.ir.kinds.TraitId.{TraitId}
use Rattle.ir_trees.specs.Declarations.Context.{Context}
use Rattle.ir_trees.specs.Declarations.Contents.{Bounds}
use Rattle.ir_trees.specs.Declarations.Declaring.{bounds_at}
use Rattle.ir_trees.specs.Declarations.Lookups.{maybe}
use Rattle.ir_trees.specs.Syntax.Trees.{TypeKind, Tree, kind_of}
use Rattle.ir_trees.specs.Syntax.Words.{clause_tree}
use Rattle.ir_trees.specs.Declarations.Worlds.{Reference}
use Rattle.candidate_eval.specs.declared.structural.Column.TheVariants as C
use Rattle.candidate_eval.specs.Builtins.Callable.{is_unknown}
use Rattle.candidate_eval.specs.Derivations.ImplRules.{TraitGoal}
use Rattle.candidate_eval.specs.Builtins.Tables.{Asks, Cell, cell, is_excluded, row_of}
use Rattle.candidate_eval.specs.Derivations.Judging.{Refused, judged}
use Rattle.candidate_eval.specs.Judges.States.{Judge, State}
use Rattle.candidate_assembly.specs.Rules.BuiltinRules.{ambiguous_rule, auto_barred, auto_refused, auto_rule, bounds_name, is_numeric_variable, is_of_trait, misc, parts_rule, positive, self_of}

abbrev pub speaks : List Tree → TraitId → Clause → Bool
speaks ts of x = is_of_trait of.0 (clause_tree ts x).head

pub bounds-speak : (c : Context) (o : AliasId) (of : TraitId) (xs : List Clause) → xs ≡ maybe [] (λ (a : Bounds). a.self_bounds) (bounds_at c o.0) → list_any (speaks c.trees of) xs ≡ bounds_name c o.0 of.0
bounds-speak c o of xs e = ap (list_any (speaks c.trees of)) e

-- The parts of a type that isn't barred are asked about.

or-first : (a b : Bool) → (a || b) ≡ false → a ≡ false
or-first true b e = absurd cc
or-first false b e = refl

builtin-known : (c : Context) (b : Builtin) (t : Tree) → t.head ≡ H.Builtin b → is_excluded (cell C.Auto (row_of c t)) ≡ false
builtin-known c b t e = at b t e
  where
    at : (b : Builtin) (t : Tree) → t.head ≡ H.Builtin b → is_excluded (cell C.Auto (row_of c t)) ≡ false
    at B.Bool t e = rw e refl
    at B.Char t e = rw e refl
    at (B.Int x) t e = rw e refl
    at (B.Uint x) t e = rw e refl
    at (B.Float x) t e = rw e refl
    at B.Str t e = rw e refl
    at B.Never t e = rw e refl
    at B.Array t e = rw e refl
    at B.Slice t e = rw e refl
    at (B.Pat x) t e = rw e refl
    at (B.RawPtr x) t e = rw e refl
    at (B.FnPtr x) t e = rw e refl
    at B.UnsafeBinder t e = rw e refl
    at B.Tuple t e = rw e refl

alias-known : (c : Context) (of : ℕ) (k : AliasKind) (i : AliasId) (t : Tree) → t.head ≡ H.Alias k i → auto_barred c of (H.Alias k i) ≡ false → is_excluded (cell C.Auto (row_of c t)) ≡ false
alias-known c of AK.Projection i t e b = absurd cc
alias-known c of AK.Opaque i t e b = rw e refl
alias-known c of AK.Inherent i t e b = absurd cc
alias-known c of AK.Free i t e b = absurd cc

unbarred-known : (c : Context) (of : ℕ) (t : Tree) (h : Head) → t.head ≡ h → kind_of h ≡ TypeKind → is_unknown h ≡ false → is_numeric_variable h ≡ false → auto_barred c of h ≡ false → is_excluded (cell C.Auto (row_of c t)) ≡ false
unbarred-known c of t (H.Builtin b) e k u n a = builtin-known c b t e
unbarred-known c of t (H.Ref m) e k u n a = rw e refl
unbarred-known c of t (H.Adt i) e k u n a = rw e refl
unbarred-known c of t (H.Foreign i) e k u n a = rw e refl
unbarred-known c of t H.Dynamic e k u n a = absurd cc
unbarred-known c of t (H.FnDef i) e k u n a = rw e refl
unbarred-known c of t (H.Closure i j) e k u n a = rw e refl
unbarred-known c of t (H.Param i) e k u n a = absurd cc
unbarred-known c of t (H.Alias j i) e k u n a = alias-known c of j i t e a
unbarred-known c of t (H.Placeholder p) e k u n a = absurd cc
unbarred-known c of t (H.Bound v) e k u n a = absurd cc
unbarred-known c of t (H.Infer v) e k u n a = absurd cc
unbarred-known c of t H.Error e k u n a = rw e refl
unbarred-known c of t (H.Const x) e k u n a = absurd cc
unbarred-known c of t (H.Region x) e k u n a = absurd cc
unbarred-known c of t (H.Part x) e k u n a = part x k
  where
    part : (x : _) → kind_of (H.Part x) ≡ TypeKind → is_excluded (cell C.Auto (row_of c t)) ≡ false
    part (P.Pred x) k = absurd cc
    part (P.Clause x) k = absurd cc
    part P.Sig k = absurd cc
    part P.Vars k = absurd cc
    part (P.Var x) k = absurd cc
unbarred-known c of t (H.List x) e k u n a = list x k
  where
    list : (x : _) → kind_of (H.List x) ≡ TypeKind → is_excluded (cell C.Auto (row_of c t)) ≡ false
    list L.Args k = absurd cc
    list L.Preds k = absurd cc
    list L.Clauses k = absurd cc

pub auto-known : (c : Context) (r : Reference) (t : Tree) → kind_of t.head ≡ TypeKind → is_unknown t.head ≡ false → is_numeric_variable t.head ≡ false → auto_refused c r t.head ≡ false
    → is_excluded (cell C.Auto (row_of c t)) ≡ false
auto-known c r t k u n a = unbarred-known c r.trait t t.head refl k u n (or-first _ _ a)

-- where the rule doesn't ask for ambiguity, it is that over the column
pub auto-is : (c : Context) (g : TraitGoal) (applies : Bool) → is_numeric_variable (self_of g).head ≡ false → applies ≡ (positive g && not (auto_refused c g.reference (self_of g).head))
    → parts_rule g applies misc (cell C.Auto (row_of c (self_of g))) ≡ auto_rule c g
auto-is c g applies n a =
    ap (λ b. parts_rule g b misc (cell C.Auto (row_of c (self_of g)))) a
    ∙ sym (ap (λ b. if b then ambiguous_rule g (positive g) else parts_rule g (positive g && not (auto_refused c g.reference (self_of g).head)) misc (cell C.Auto (row_of c (self_of g)))) n)

pub auto-ambiguous : (c : Context) (g : TraitGoal) → is_numeric_variable (self_of g).head ≡ true → ambiguous_rule g (positive g) ≡ auto_rule c g
auto-ambiguous c g n =
    sym (ap (λ b. if b then ambiguous_rule g (positive g) else parts_rule g (positive g && not (auto_refused c g.reference (self_of g).head)) misc (cell C.Auto (row_of c (self_of g)))) n)

-- applying, nothing is refused
pub not-refused : (p r : Bool) → (p && not r) ≡ true → r ≡ false
not-refused true true e = absurd cc
not-refused true false e = refl
not-refused false r e = absurd cc

-- A goal that isn't positive is refused.
pub auto-negative : (J : Judge) (S : State) (c : Context) (g : TraitGoal) → positive g ≡ false → judged J S (auto_rule c g) ≡ Refused
auto-negative J S c g n =
    let t = self_of g in
    ap (λ b. judged J S (if is_numeric_variable t.head then ambiguous_rule g b else parts_rule g (b && not (auto_refused c g.reference t.head)) misc (cell C.Auto (row_of c t)))) n
    ∙ of (is_numeric_variable t.head) (cell C.Auto (row_of c t))
  where
    of : (b : Bool) (x : Cell) → judged J S (if b then ambiguous_rule g false else parts_rule g false misc x) ≡ Refused
    of true x = refl
    of false (Asks p) = refl
    of false _ = refl
