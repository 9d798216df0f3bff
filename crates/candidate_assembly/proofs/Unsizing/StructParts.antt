-- The parts of the row by which a structure unsizes.
use Rattle.std.proofs.Common.{◌≡◌, ℕ, ◌==◌, Bool, true, false, List, [], ◌∷◌, length, map, refl, sym, ap, ◌∙◌}
use Rattle.std.specs.Prelude.{if◌then◌else◌}
use Rattle.ir_trees.specs.declared.ir.heads.Head.TheVariants as H
use Rattle.ir_trees.specs.declared.ir.kinds.AdtId.{AdtId}
use Rattle.ir_trees.specs.declared.ir.kinds.Args.{Args}
use Rattle.ir_trees.specs.declared.ir.kinds.Clause.{Clause}
use Rattle.ir_trees.specs.declared.ir.kinds.TraitId.{TraitId}
use Rattle.ir_trees.specs.declared.ir.kinds.PredicatePolarity.TheVariants as Pol
use Rattle.ir_trees.specs.Declarations.Context.{Context, Grows}
use Rattle.ir_trees.specs.Instantiation.Folding.{substituted_tree}
use Rattle.ir_trees.specs.Syntax.Nodes.{error_tree}
use Rattle.ir_trees.specs.Unification.Substitutions.{alone}
use Rattle.ir_trees.specs.Syntax.Trees.{Forest, none, tree, Tree, holds, is_param, tree_holds}
use Rattle.ir_trees.specs.Syntax.Words.{ClauseListFits, IsArgs, IsClause, args_forest, clause_tree, ty_tree}
use Rattle.ir_trees.specs.declared.ir.kinds.Ty.{Ty}
use Rattle.ir_trees.specs.Declarations.Contents.{AdtContents}
use Rattle.ir_trees.specs.Declarations.Declaring.{adt_at}
use Rattle.ir_trees.specs.Declarations.Lookups.{maybe}
use Rattle.ir_trees.proofs.Instantiation.Folding.{or-left, or-right}
use Rattle.ir_trees.proofs.Growth.Kept.{args-kept}
use Rattle.candidate_eval.specs.Derivations.Judging.{Refused, comes_to, judged, start}
use Rattle.candidate_eval.specs.Derivations.ImplRules.{TraitGoal}
use Rattle.candidate_eval.specs.Dynamic.ObjectRequirements.{first_tree}
use Rattle.candidate_eval.specs.Dynamic.Replacing.{first_or}
use Rattle.candidate_eval.specs.declared.eval.certainty.Certainty.TheVariants.{Yes}
use Rattle.candidate_eval.specs.Derivations.Rules.{Rule, ask, equate, nested}
use Rattle.candidate_eval.specs.Judges.States.{Env, Judge, State}
use Rattle.candidate_eval.specs.Builtins.Tables.{last_of}
use Rattle.candidate_eval.proofs.Marks.Holds.{holds_parts}
use Rattle.candidate_eval.proofs.Marks.Marking.{unmarked}
use Rattle.candidate_eval.proofs.Builtins.PartsFree.{put-parameterless}
use Rattle.candidate_eval.proofs.Outcomes.Responding.{clauses-kept}
use Rattle.candidate_assembly.specs.Rules.BuiltinRules.{holds_of, is_nonempty, misc, pair_of}
use Rattle.candidate_assembly.specs.Rules.Unsizing.{equal_rule, mixed, struct_to_struct, tail_of, unsizing_parameters}
use Rattle.candidate_assembly.proofs.Unsizing.EqualTypes.{equal-same}

-- What stays where a context has grown.

pub clause-still : (old new : Context) (x : Clause) → Grows old new → IsClause old.trees x → IsClause new.trees x × (clause_tree new.trees x ≡ clause_tree old.trees x)
clause-still old new x g h =
    let k = clauses-kept old new (x ∷ []) g (ap (λ k. k ∷ []) h) in
    (of (k.0), same (k.1))
  where
    of : ClauseListFits new.trees (x ∷ []) → IsClause new.trees x
    of e = cc

    same : map (clause_tree new.trees) (x ∷ []) ≡ map (clause_tree old.trees) (x ∷ []) → clause_tree new.trees x ≡ clause_tree old.trees x
    same e = cc

abbrev mixed-tree : AdtId → List ℕ → Forest → Forest → Tree
mixed-tree i ns f g = record { head = H.Adt i; children = mixed ns 0 f g }

pub mixed-still : (old new : Context) (i : AdtId) (a b : Args) → Grows old new → IsArgs old.trees a → IsArgs old.trees b
    → mixed-tree i (unsizing_parameters new i.0) (args_forest new.trees a) (args_forest new.trees b) ≡ mixed-tree i (unsizing_parameters old i.0) (args_forest old.trees a) (args_forest old.trees b)
mixed-still old new i a b g h k =
    ap (λ (c : Context). mixed-tree i (unsizing_parameters c i.0) (args_forest new.trees a) (args_forest new.trees b)) g.same
    ∙ (ap (λ f. mixed-tree i (unsizing_parameters old i.0) f (args_forest new.trees b)) (args-kept old new a g h).1
    ∙ ap (mixed-tree i (unsizing_parameters old i.0) (args_forest old.trees a)) (args-kept old new b g k).1)

-- No parameter stands in the clause.

last-free : (ts : List Tree) (args : Forest) → holds is_param args ≡ false → (xs : List Ty) → tree_holds is_param (first_or error_tree (last_of (map (λ t. substituted_tree args (ty_tree ts t)) xs))) ≡ false
last-free ts args f [] = refl
last-free ts args f (x ∷ []) = put-parameterless args (ty_tree ts x) f
last-free ts args f (x ∷ (y ∷ ys)) = last-free ts args f (y ∷ ys)

pub first-free : (t : Tree) (ts : Forest) → holds is_param ts ≡ false → first_tree ts ≡ t → holds is_param t.children ≡ false
first-free t none h is = ap (λ (x : Tree). holds is_param x.children) (sym is)
first-free t (tree g below rest) h is = ap (λ (x : Tree). holds is_param x.children) (sym is) ∙ (holds_parts is_param g below rest h).under

pub tail-free : (c : Context) (n : ℕ) (args : Forest) → holds is_param args ≡ false → tree_holds is_param (tail_of c n args) ≡ false
tail-free c n args f = last-free c.trees args f (maybe [] (λ (a : AdtContents). a.fields) (adt_at c n))

pub pair-free : (i : TraitId) (t u : Tree) → tree_holds is_param t ≡ false → tree_holds is_param u ≡ false → tree_holds is_param (holds_of i Pol.Positive none (pair_of t u)) ≡ false
pair-free i t u p q =
    unmarked is_param t.head t.children (tree u.head u.children none) (or-left _ _ p) (or-right _ _ p) (unmarked is_param u.head u.children none (or-left _ _ q) (or-right _ _ q) refl)

-- The rule.

abbrev rule-if : Bool → Env → Tree → Tree → Tree → Rule
rule-if b e t u x = record { env = e; applies = b; steps = equate (alone t) (alone u) ∷ nested (x ∷ []); ending = ask misc Yes }

pub struct-refused : (J : Judge) (S : State) (c : Context) (g : TraitGoal) (n : ℕ) (from to : Tree) → unsizing_parameters c n ≡ [] → judged J S (struct_to_struct c g n from to) ≡ Refused
struct-refused J S c g n from to e =
    let r : Rule = struct_to_struct c g n from to in
    ap (λ (b : Bool). if b then comes_to J r.env (start S) r.steps r.ending else Refused) (ap is_nonempty e)

nonempty-list : (xs : List ℕ) → (length xs == 0) ≡ false → is_nonempty xs ≡ true
nonempty-list [] e = absurd cc
nonempty-list (x ∷ xs) e = refl

-- With parameters that unsizing may change it is the rule that equates the mixed type with the target.
pub struct-same : (c : Context) (g : TraitGoal) (i : AdtId) (f h : Forest) (from to : Tree) (ns : List ℕ) → ns ≡ unsizing_parameters c i.0 → (length ns == 0) ≡ false
    → from ≡ record { head = H.Adt i; children = f } → to ≡ record { head = H.Adt i; children = h }
    → (e : Env) (t u x : Tree) → e ≡ g.env → t ≡ mixed-tree i (unsizing_parameters c i.0) f h → u ≡ to
    → x ≡ holds_of (record { 0 = g.reference.trait }) Pol.Positive none (pair_of (tail_of c i.0 f) (tail_of c i.0 h))
    → equal_rule e t u (x ∷ []) ≡ struct_to_struct c g i.0 from to
struct-same c g i f h from to ns are some p q e t u x a b d s =
    let F : Tree = record { head = H.Adt i; children = f } in
    let T : Tree = record { head = H.Adt i; children = h } in
    let clause = holds_of (record { 0 = g.reference.trait }) Pol.Positive none (pair_of (tail_of c i.0 f) (tail_of c i.0 h)) in
    let applies : is_nonempty (unsizing_parameters c i.0) ≡ true = ap is_nonempty (sym are) ∙ nonempty-list ns some in
    equal-same e g.env t (mixed-tree i (unsizing_parameters c i.0) f h) u T (x ∷ []) (clause ∷ []) a b (d ∙ q) (ap (λ y. y ∷ []) s)
    ∙ (ap (λ (y : Bool). rule-if y g.env (mixed-tree i (unsizing_parameters c i.0) f h) T clause) (sym applies)
    ∙ (ap (λ y. struct_to_struct c g i.0 F y) (sym q) ∙ ap (λ y. struct_to_struct c g i.0 y to) (sym p)))
