-- No parameter stands in what an object states of itself, in what its bounds say of an instance, and in what it has to fulfil.
use Rattle.std.proofs.Common.{◌≡◌, Bool, true, false, List, [], ◌∷◌, refl, if◌then◌else◌}
use Rattle.std.specs.List.{All, Contains, flat_map}
use Rattle.std.proofs.lemmas.List.Elements.{All-cons, All-contains, All-nil}
use Rattle.ir_trees.specs.declared.ir.heads.Head.{Head}
use Rattle.ir_trees.specs.declared.ir.heads.Head.TheVariants as H
use Rattle.ir_trees.specs.declared.ir.heads.PartHead.TheVariants as P
use Rattle.ir_trees.specs.declared.ir.heads.PredHead.TheVariants as PH
use Rattle.ir_trees.specs.declared.ir.kinds.BoundVar.{BoundVar}
use Rattle.ir_trees.specs.declared.ir.kinds.VarKind.{VarKind}
use Rattle.ir_trees.specs.declared.ir.kinds.VarKind.TheVariants as V
use Rattle.ir_trees.specs.Declarations.Context.{Context, world}
use Rattle.ir_trees.specs.Hierarchy.Elaboration.{first_children}
use Rattle.ir_trees.specs.Hierarchy.Supers.{after_first}
use Rattle.ir_trees.specs.Instantiation.Opening.{bound_head, error_of}
use Rattle.ir_trees.specs.Syntax.Trees.{Forest, Tree, holds, is_param, none, tree, tree_holds}
use Rattle.ir_trees.specs.Unification.Substitutions.{alone}
use Rattle.ir_trees.specs.Validity.WellFormed.{IsWellFormedTable}
use Rattle.ir_context.proofs.Instantiation.Owned.{or-none}
use Rattle.candidate_eval.specs.declared.eval.variable.VariableKind.{VariableKind}
use Rattle.candidate_eval.specs.declared.eval.variable.VariableKind.TheVariants.{Region, Term}
use Rattle.candidate_eval.specs.Builtins.Callable.{all_but_last}
use Rattle.candidate_eval.specs.Derivations.Characterization.{bound_kinds}
use Rattle.candidate_eval.specs.Dynamic.ObjectRequirements.{first_tree, fresh_arguments}
use Rattle.candidate_eval.specs.Dynamic.Required.{clause_head_of, each_of, is_projection_bound, own_bound, own_bounds, said_of}
use Rattle.candidate_eval.specs.Judges.States.{State, fresh_variables, variable, variable_kind}
use Rattle.candidate_eval.proofs.Marks.Holds.{holds_parts}
use Rattle.candidate_eval.proofs.Marks.Marking.{after-unmarked, but-last-unmarked, unmarked}
use Rattle.candidate_assembly.specs.Goals.Kinds.{arguments_by}
use Rattle.candidate_assembly.specs.Laws.SuperLaws.{Each, IsFitting}
use Rattle.candidate_assembly.proofs.Objects.SuperLaws.{each_of_both}
use Rattle.candidate_assembly.specs.Rules.DynBounds.{ArePrincipalSupers, is_dynamic}
use Rattle.candidate_assembly.specs.Rules.ObjectBounds.{OwnClause, own_clauses, reference_by}
use Rattle.candidate_assembly.proofs.Objects.ObjectPlain.{ArePlain, Free, IsPlain, own-plain}
use Rattle.candidate_assembly.proofs.Refusals.KnownHeaders.{fresh-closed, fresh-unmarked}
use Rattle.candidate_assembly.proofs.Sense.SenseClauses.{first-unmarked}
use Rattle.candidate_assembly.proofs.Sense.SenseObjects.{arguments-unmarked}
use Rattle.candidate_assembly.proofs.Sense.SenseWalks.{opened-unmarked}

abbrev pub IsFree : Tree → Type 0
IsFree t = holds is_param (alone t) ≡ false

-- Its own clauses.

all-plain : (os : List OwnClause) → ArePlain os → All IsPlain os
all-plain [] a = All-nil IsPlain
all-plain (o ∷ os) a = All-cons IsPlain o os a.0 (all-plain os a.1)

pub own-free : (c : Context) → IsWellFormedTable c → (type : Tree) (supers : List Tree) (own : OwnClause) → is_dynamic type.head ≡ true → IsFitting (world c) type → IsFree type → ArePrincipalSupers c type supers → Contains (own_clauses type supers) own
    → Free own.clause
own-free c w type supers own d f e s there =
    let p = holds_parts is_param type.head type.children none e in
    let free : tree_holds is_param type ≡ false = or-none (is_param type.head) (holds is_param type.children) p.here p.under in
    (All-contains IsPlain (own_clauses type supers) own (all-plain (own_clauses type supers) (own-plain c w type supers d f free s)) there).1

-- Their arguments, with fresh variables for what their binders bind.

error-free : (k : VarKind) → is_param (error_of k) ≡ false
error-free V.Ty = refl
error-free V.Const = refl
error-free V.Region = refl

bound-free : (k : VarKind) (v : BoundVar) → is_param (bound_head k v) ≡ false
bound-free V.Ty v = refl
bound-free V.Const v = refl
bound-free V.Region v = refl

variable-free : (k : VariableKind) (n : _) → is_param (variable k n).head ≡ false
variable-free (Term s) n = refl
variable-free Region n = refl

pub instance-free : (c : Context) (T : State) (t : Tree) → Free t → holds is_param (fresh_arguments T (reference_by c t)) ≡ false
instance-free c T t e =
    let ks = bound_kinds (reference_by c t).children in
    let F = fresh_variables T ks in
    let more = arguments_by t.head (after_first t.children) in
    opened-unmarked F (fresh-closed T ks) is_param error-free bound-free (fresh-unmarked is_param T ks (λ j k q. variable-free (variable_kind k) _)) 0 more (arguments-unmarked is_param t.head (after_first t.children) (after-unmarked is_param t.children e))

pub first-free : (ts : Forest) → holds is_param ts ≡ false → IsFree (first_tree ts)
first-free none e = refl
first-free (tree h below rest) e = let p = holds_parts is_param h below rest e in unmarked is_param h below none p.here p.under refl

-- What its bounds say of an instance.

head-free : (h : Head) → is_param h ≡ false → is_param (clause_head_of h) ≡ false
head-free (H.Part (P.Pred (PH.Projection i))) e = refl
head-free _ e = e

said-free : (object b : Tree) → IsFree object → IsFree b → IsFree (said_of object b)
said-free object b e f =
    let p = holds_parts is_param object.head object.children none e in
    let q = holds_parts is_param b.head b.children none f in
    let vars = first_children b.children in
    let more = after_first b.children in
    unmarked is_param (clause_head_of b.head) (tree (H.Part P.Vars) vars (tree object.head object.children more)) none (head-free b.head q.here)
    (unmarked is_param (H.Part P.Vars) vars (tree object.head object.children more) refl (first-unmarked is_param b.children q.under)
    (unmarked is_param object.head object.children more p.here p.under (after-unmarked is_param b.children q.under))) refl

one-free : (object b : Tree) → IsFree object → IsFree b → Each IsFree (own_bound object b)
one-free object b e f = at (is_projection_bound b.head)
  where
    at : (x : Bool) → Each IsFree (if x then said_of object b ∷ [] else [])
    at true = (said-free object b e f, tt)
    at false = tt

bounds-free : (object : Tree) → IsFree object → (bs : List Tree) → Each IsFree bs → Each IsFree (flat_map (own_bound object) bs)
bounds-free object e [] a = tt
bounds-free object e (b ∷ bs) a = each_of_both IsFree (own_bound object b) (flat_map (own_bound object) bs) (one-free object b e a.0) (bounds-free object e bs a.1)

row-free : (ts : Forest) → holds is_param ts ≡ false → Each IsFree (each_of ts)
row-free none e = tt
row-free (tree h below rest) e = let p = holds_parts is_param h below rest e in (unmarked is_param h below none p.here p.under refl, row-free rest p.others)

pub own-bounds-free : (object type : Tree) → IsFree object → IsFree type → Each IsFree (own_bounds object (all_but_last type.children))
own-bounds-free object type e f =
    bounds-free object e (each_of (all_but_last type.children)) (row-free (all_but_last type.children) (but-last-unmarked is_param type.children (holds_parts is_param type.head type.children none f).under))
