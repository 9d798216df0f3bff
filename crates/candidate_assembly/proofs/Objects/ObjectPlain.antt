-- The clauses that an object's own bounds give speak of traits, and no parameter stands in them where none stands in the type.
use Rattle.std.proofs.Common.{◌≡◌, arith, suc, ℕ, Bool, true, false, not, refl, sym, ap, subst, ◌∙◌, Option, Some, None, List, [], ◌∷◌, ◌++◌, map, All}
use Rattle.std.specs.List.{filter}
use Rattle.std.specs.Prelude.{IfSome, if◌then◌else◌}
use Rattle.std.proofs.lemmas.List.Elements.{All-cons, All-nil}
use Rattle.ir_trees.specs.declared.ir.heads.ClauseHead.TheVariants as Cl
use Rattle.ir_trees.specs.declared.ir.heads.Head.{Head}
use Rattle.ir_trees.specs.declared.ir.heads.Head.TheVariants as H
use Rattle.ir_trees.specs.declared.ir.heads.PartHead.TheVariants as P
use Rattle.ir_trees.specs.declared.ir.heads.PredHead.TheVariants as PH
use Rattle.ir_trees.specs.declared.ir.kinds.PredicatePolarity.TheVariants as Pol
use Rattle.ir_trees.specs.declared.ir.heads.ListHead.{ListHead}
use Rattle.ir_trees.specs.declared.ir.heads.ListHead.TheVariants as LH
use Rattle.ir_trees.specs.declared.ir.heads.VariableSort.{VariableSort}
use Rattle.ir_trees.specs.declared.ir.heads.VariableSort.TheVariants as VS
use Rattle.ir_trees.specs.declared.ir.kinds.Clause.{Clause}
use Rattle.ir_trees.specs.declared.ir.kinds.Pred.{Pred}
use Rattle.ir_trees.specs.declared.ir.kinds.Preds.{Preds}
use Rattle.ir_trees.specs.declared.ir.kinds.Ty.{Ty}
use Rattle.ir_trees.specs.Declarations.Context.{Context, Grows, world}
use Rattle.ir_trees.specs.Hierarchy.Elaboration.{Elaborates, ended, first_children, implied, implied_by, is_there, lists, renumbered, step, super_clauses, supers_if, trait_of, under_binder, unlisted, variables_of}
use Rattle.ir_trees.specs.Instantiation.Folding.{substituted}
use Rattle.ir_trees.specs.Declarations.Declaring.{trait_at}
use Rattle.ir_trees.specs.Syntax.Nodes.{kind_at}
use Rattle.ir_trees.specs.Declarations.References.{FitsAmong}
use Rattle.ir_trees.specs.Unification.Substitutions.{alone}
use Rattle.ir_trees.specs.Hierarchy.Supers.{after_first, supers_at}
use Rattle.ir_trees.specs.Hierarchy.Supertraits.{head_trait}
use Rattle.ir_trees.specs.Syntax.Trees.{Kind, BinderKind, ClauseKind, PredicateKind, VariableKind, Forest, none, tree, Tree, count, holds, is_param, join, kind_of, list_kind, sort_kind, tree_holds}
use Rattle.ir_trees.specs.Validity.WellFormed.{IsWellFormedTable}
use Rattle.ir_trees.specs.Syntax.Words.{ClauseListFits, IsClause, IsTy, PredListFits, clause_tree, pred_list_forest, pred_tree, preds_forest, ty_tree}
use Rattle.ir_trees.specs.Declarations.Worlds.{Fits, World, all_of, child_kinds, clause_kinds, joined, kinds_of}
use Rattle.ir_trees.proofs.Instantiation.Folding.{or-right}
use Rattle.ir_folds.proofs.Instantiation.Joining.{binder-head}
use Rattle.ir_trees.proofs.Kinding.References.{fit-at}
use Rattle.ir_trees.proofs.Growth.Kept.{ty-kept}
use Rattle.ir_trees.proofs.Syntax.Rows.{kind-of}
use Rattle.std.proofs.lemmas.List.{map-append}
use Rattle.candidate_eval.specs.declared.eval.source.BuiltinImplSource.TheVariants.{Misc}
use Rattle.candidate_eval.specs.declared.eval.source.CandidateSource.{CandidateSource}
use Rattle.candidate_eval.specs.declared.eval.source.CandidateSource.TheVariants.{BuiltinImpl}
use Rattle.candidate_eval.specs.Builtins.Callable.{all_but_last}
use Rattle.candidate_eval.specs.Dynamic.Required.{each_of}
use Rattle.candidate_eval.proofs.Marks.Holds.{holds_parts}
use Rattle.candidate_eval.proofs.Marks.Marking.{but-last-unmarked, unmarked}
use Rattle.candidate_eval.proofs.Builtins.PartsFree.{put-parameterless}
use Rattle.candidate_assembly.specs.Laws.BuiltinLaws.{nodes_fit}
use Rattle.candidate_assembly.specs.Rules.DynBounds.{ArePrincipalSupers, AreSupersOf, bound_said, bounds_in, clause_head_by, first_listed, is_dynamic, is_principal, principal_in}
use Rattle.candidate_assembly.specs.Laws.Given.{TraitIsGiven}
use Rattle.candidate_assembly.specs.Rules.ObjectBounds.{OwnClause, numbered, own_clause, own_clauses, speaks_of_trait}
use Rattle.candidate_assembly.specs.Calls.ObjectCalls.{AreOwnClauses, IsOwnClause, bound_clauses, numbered_from, own_clause_of}
use Rattle.candidate_assembly.proofs.Objects.ObjectLaws.{IsPredicate, SaysATrait, are_predicates, dynamic_bounds, no_list, no_variable, supers_say}
use Rattle.candidate_assembly.specs.Laws.SuperLaws.{Each, IsFitting, NamesGiven, TakeTheirs}
use Rattle.candidate_assembly.proofs.Objects.SuperLaws.{bounds_take, declared_name, filtered_each, said_names}
use Rattle.candidate_eval.proofs.Outcomes.Responding.{clauses-kept}
use Rattle.candidate_assembly.proofs.Objects.BoundClauses.{said-free}
use Rattle.candidate_assembly.proofs.Objects.ObjectClauses.{PairsFit, each-listed, numbered-fit, own-numbered, pairs-joined, pred-list-kept}
use Rattle.candidate_assembly.proofs.Objects.ObjectFollowing.{type-fits}

abbrev pub Free : Tree → Type 0
Free t = holds is_param t.children ≡ false

-- Trees in rows.

pub children-free : (t : Tree) → tree_holds is_param t ≡ false → Free t
children-free t e = or-right (is_param t.head) (holds is_param t.children) e

joined-free : (a b : Forest) → holds is_param a ≡ false → holds is_param b ≡ false → holds is_param (join a b) ≡ false
joined-free none b e f = f
joined-free (tree h below rest) b e f = let p = holds_parts is_param h below rest e in unmarked is_param h below (join rest b) p.here p.under (joined-free rest b p.others f)

each-free : (ts : Forest) → holds is_param ts ≡ false → Each (λ t. tree_holds is_param t ≡ false) (each_of ts)
each-free none e = tt
each-free (tree h below rest) e = let p = holds_parts is_param h below rest e in (rw (p.here, p.under) refl, each-free rest p.others)

first-free : (ts : Forest) → holds is_param ts ≡ false → holds is_param (first_children ts) ≡ false
first-free none e = refl
first-free (tree h below rest) e = (holds_parts is_param h below rest e).under

after-free : (ts : Forest) → holds is_param ts ≡ false → holds is_param (after_first ts) ≡ false
after-free none e = refl
after-free (tree h below rest) e = (holds_parts is_param h below rest e).others

-- The variables of a clause's binder are no parameters.

no-variable-sort : (s : VariableSort) → sort_kind s ≡ VariableKind → ⊥
no-variable-sort VS.Constant e = absurd cc
no-variable-sort _ e = absurd cc

no-variable-list : (l : ListHead) → list_kind l ≡ VariableKind → ⊥
no-variable-list LH.Args e = absurd cc
no-variable-list LH.Preds e = absurd cc
no-variable-list LH.Clauses e = absurd cc

no-clause-sort : (s : VariableSort) → sort_kind s ≡ ClauseKind → ⊥
no-clause-sort VS.Constant e = absurd cc
no-clause-sort _ e = absurd cc

no-clause-list : (l : ListHead) → list_kind l ≡ ClauseKind → ⊥
no-clause-list LH.Args e = absurd cc
no-clause-list LH.Preds e = absurd cc
no-clause-list LH.Clauses e = absurd cc

not-param : (h : Head) → kind_of h ≡ VariableKind → is_param h ≡ false
not-param (H.Part p) e = refl
not-param (H.Infer v) e = absurd (no-variable-sort v.sort e)
not-param (H.List l) e = absurd (no-variable-list l e)
not-param _ e = absurd cc

no-children : (w : World) (h : Head) (below : Forest) → kind_of h ≡ VariableKind → child_kinds w h (kinds_of below) ≡ Some (kinds_of below) → below ≡ none
no-children w (H.Part (P.Var k)) none e f = refl
no-children w (H.Part (P.Var k)) (tree g b r) e f = absurd cc
no-children w (H.Part (P.Clause k)) below e f = absurd cc
no-children w (H.Part (P.Pred k)) below e f = absurd cc
no-children w (H.Part P.Sig) below e f = absurd cc
no-children w (H.Part P.Vars) below e f = absurd cc
no-children w (H.Infer v) below e f = absurd (no-variable-sort v.sort e)
no-children w (H.List l) below e f = absurd (no-variable-list l e)
no-children w _ below e f = absurd cc

variable-row : (w : World) (ts : Forest) → Fits w ts → all_of VariableKind (kinds_of ts) ≡ kinds_of ts → holds is_param ts ≡ false
variable-row w none f e = refl
variable-row w (tree h below rest) f e =
    let here : kind_of h ≡ VariableKind = cc in
    let others : all_of VariableKind (kinds_of rest) ≡ kinds_of rest = cc in
    unmarked is_param h below rest (not-param h here) (ap (holds is_param) (no-children w h below here f.0)) (variable-row w rest f.2 others)

binder-first : (o : Option (List Kind)) (k : Kind) (ks : List Kind) → joined (Some (BinderKind ∷ [])) o ≡ Some (k ∷ ks) → k ≡ BinderKind
binder-first None k ks e = absurd cc
binder-first (Some js) k ks e = cc

under-vars : (w : World) (h : Head) (below : Forest) → h ≡ H.Part P.Vars → child_kinds w h (kinds_of below) ≡ Some (kinds_of below) → all_of VariableKind (kinds_of below) ≡ kinds_of below
under-vars w h below e f = let g : Some (all_of VariableKind (kinds_of below)) ≡ Some (kinds_of below) = sym (ap (λ x. child_kinds w x (kinds_of below)) e) ∙ f in cc

under-clause : (w : World) (o : Option (List Kind)) (below : Forest) → joined (Some (BinderKind ∷ [])) o ≡ Some (kinds_of below) → Fits w below → holds is_param (first_children below) ≡ false
under-clause w o none e f = refl
under-clause w o (tree h below rest) e f = variable-row w below f.1 (under-vars w h below (binder-head h (binder-first o (kind_of h) (kinds_of rest) e)) f.0)

pub head-vars : (w : World) (h : Head) (below : Forest) → kind_of h ≡ ClauseKind → (let u : Tree = record { head = h; children = below } in FitsAmong w u) → holds is_param (first_children below) ≡ false
head-vars w (H.Part (P.Clause k)) below e f = under-clause w (clause_kinds w k) below f.0 f.1
head-vars w (H.Infer v) below e f = absurd (no-clause-sort v.sort e)
head-vars w (H.List l) below e f = absurd (no-clause-list l e)
head-vars w _ below e f = absurd cc

-- What is implied holds none.

put-free : (args ts : Forest) → holds is_param args ≡ false → holds is_param (substituted args 0 ts) ≡ false
put-free args ts e = put-parameterless args (record { head = H.Part P.Vars; children = ts }) e

pub implied-free : (t s : Tree) → Free t → holds is_param (variables_of s) ≡ false → Free (implied t s)
implied-free t s e f =
    unmarked is_param (H.Part P.Vars) (join (variables_of t) (variables_of s)) (substituted (under_binder t) 0 (renumbered (count (variables_of t)) (under_binder s))) refl (joined-free (variables_of t) (variables_of s) (first-free t.children e) f)
    (put-free (under_binder t) (renumbered (count (variables_of t)) (under_binder s)) (after-free t.children e))

either : {A : Type 0} (P : A → Type 0) (b : Bool) (x y : A) → P x → P y → P (if b then x else y)
either P true x y p q = p
either P false x y p q = q

each-join : (P : Tree → Type 0) (ts us : List Tree) → Each P ts → Each P us → Each P (ts ++ us)
each-join P [] us a b = b
each-join P (t ∷ ts) us a b = (a.0, each-join P ts us a.1 b)

each-unlisted : (P : Tree → Type 0) (seen ts : List Tree) → Each P ts → Each P (unlisted seen ts)
each-unlisted P seen [] a = tt
each-unlisted P seen (t ∷ ts) a = either (Each P) (lists seen t) (unlisted seen ts) (t ∷ unlisted (seen ++ t ∷ []) ts) (each-unlisted P seen ts a.1) (a.0, each-unlisted P (seen ++ t ∷ []) ts a.1)

-- a clause that speaks of a trait that is given, and holds none
abbrev Good : Context → Tree → Type 0
Good c t = NamesGiven c t.head × Free t

pub held : (c : Context) (h : Head) → NamesGiven c h → IfSome (head_trait h) (TraitIsGiven c)
held c (H.Part (P.Clause (Cl.Trait i Pol.Positive))) f = f
held c _ f = tt

module _ (c : Context) (t : IsWellFormedTable c) where
  each-implied : (u : Tree) (xs : List Clause) → Free u → ClauseListFits c.trees xs → Each (Good c) (map (implied u) (map (clause_tree c.trees) xs))
  each-implied u [] e f = tt
  each-implied u (x ∷ xs) e f =
      let here : kind_at c.trees x.0 ≡ ClauseKind = cc in
      let others : ClauseListFits c.trees xs = cc in
      let s = clause_tree c.trees x in
      let vars = head-vars (world c) s.head s.children (kind-of c.trees x.0 ClauseKind refl here) (fit-at (world c) c.trees (nodes_fit c t) x.0) in
      (((declared_name c t (x ∷ xs)).0, implied-free u s e vars), each-implied u xs e others)

  by-trait : (u : Tree) (o : Option ℕ) → Free u → IfSome o (TraitIsGiven c) → Each (Good c) (map (implied u) (supers_if (super_clauses c) o))
  by-trait u None e f = tt
  by-trait u (Some n) e f = each-implied u (supers_at (trait_at c n)) e f.supers

  walk-good : {walked left all : List Tree} → Elaborates (super_clauses c) walked left all → Each (Good c) walked → Each (Good c) left → Each (Good c) all
  walk-good ended a b = a
  walk-good {walked} (step {left = left} {t = u} e) a b =
      let more = by-trait u (head_trait u.head) b.0.1 (held c u.head b.0.0) in
      walk-good e (each-join (Good c) walked (u ∷ []) a (b.0, tt)) (each-join (Good c) left (unlisted (walked ++ u ∷ left) (implied_by (super_clauses c) u)) b.1 (each-unlisted (Good c) (walked ++ u ∷ left) (implied_by (super_clauses c) u) more))

  supers-good : (type : Tree) (o : Option Tree) (ts : List Tree) → IfSome o (λ p. Good c (bound_said type p)) → AreSupersOf c type o ts → Each (Good c) ts
  supers-good type None ts g s = subst (Each (Good c)) (sym s) tt
  supers-good type (Some p) ts g s =
      let all = walk-good s.elaborated tt (each-unlisted (Good c) [] (bound_said type p ∷ []) (g, tt)) in
      subst (Each (Good c)) (sym s.are) (filtered_each (Good c) (λ u. is_there (trait_of u.head)) s.all all)

  first-good : (type : Tree) (bs : List Tree) → Each (λ b. Good c (bound_said type b)) bs → IfSome (first_listed bs) (λ b. Good c (bound_said type b))
  first-good type [] a = tt
  first-good type (b ∷ bs) a = a.0

  bounds-good : (type : Tree) (bs : List Tree) → tree_holds is_param type ≡ false → TakeTheirs (world c) bs → Each (λ b. tree_holds is_param b ≡ false) bs → Each (λ b. Good c (bound_said type b)) bs
  bounds-good type [] e f a = tt
  bounds-good type (b ∷ bs) e f a = ((said_names c t b.head (kinds_of b.children) f.0, children-free (bound_said type b) (said-free type b e a.0)), bounds-good type bs e f.1 a.1)

-- All of them.

abbrev pub IsPlain : OwnClause → Type 0
IsPlain o = (speaks_of_trait o.clause.head ≡ true) × Free o.clause

abbrev pub ArePlain : List OwnClause → Type 0
ArePlain [] = Unit {0}
ArePlain (o ∷ os) = IsPlain o × ArePlain os

bound-speaks : (h : Head) → kind_of h ≡ PredicateKind → speaks_of_trait (clause_head_by h) ≡ true
bound-speaks (H.Part (P.Pred (PH.Trait i))) e = refl
bound-speaks (H.Part (P.Pred (PH.AutoTrait i))) e = refl
bound-speaks (H.Part (P.Pred (PH.Projection i))) e = refl
bound-speaks (H.Infer v) e = absurd (no_variable v.sort e)
bound-speaks (H.List l) e = absurd (no_list l e)
bound-speaks _ e = absurd cc

trait-speaks : (h : Head) → is_there (trait_of h) ≡ true → speaks_of_trait h ≡ true
trait-speaks (H.Part (P.Clause (Cl.Trait i p))) e = refl
trait-speaks _ e = absurd cc

bounds-plain : (c : Context) (type : Tree) (bs : List Tree) (more : List OwnClause) → Each IsPredicate bs → Each (λ b. Good c (bound_said type b)) bs → ArePlain more → ArePlain (map (λ b. own_clause (BuiltinImpl Misc) (bound_said type b)) bs ++ more)
bounds-plain c type [] more p g m = m
bounds-plain c type (b ∷ bs) more p g m = ((bound-speaks b.head p.0, g.0.1), bounds-plain c type bs more p.1 g.1 m)

numbered-plain : (c : Context) (n : ℕ) (ts : List Tree) → Each SaysATrait ts → Each (Good c) ts → ArePlain (numbered n ts)
numbered-plain c n [] s g = tt
numbered-plain c n (u ∷ us) s g = ((trait-speaks u.head s.0, g.0.1), numbered-plain c (suc n) us s.1 g.1)

pub own-plain : (c : Context) → IsWellFormedTable c → (type : Tree) (supers : List Tree) → is_dynamic type.head ≡ true → IsFitting (world c) type → tree_holds is_param type ≡ false → ArePrincipalSupers c type supers → ArePlain (own_clauses type supers)
own-plain c t type supers d f e s =
    let w = world c in
    let others = λ (b : Tree). not (is_principal b.head) in
    let first = λ (b : Tree). is_principal b.head in
    let P = λ (b : Tree). Good c (bound_said type b) in
    let predicates = are_predicates type.children (dynamic_bounds w type.head (kinds_of type.children) d f.takes) in
    let good = bounds-good c t type (bounds_in type) e (bounds_take w type f.below) (each-free (all_but_last type.children) (but-last-unmarked is_param type.children (children-free type e))) in
    let super = supers-good c t type (principal_in type) supers (first-good c t type (filter first (bounds_in type)) (filtered_each P first (bounds_in type) good)) s in
    bounds-plain c type (filter others (bounds_in type)) (numbered 0 supers) (filtered_each IsPredicate others (bounds_in type) predicates) (filtered_each P others (bounds_in type) good)
    (numbered-plain c 0 supers (supers_say c t type (principal_in type) supers s) super)

pub own-each : (ts : List Tree) (xs : List (CandidateSource × Clause)) → All (λ x. IsClause ts x.1) xs → ArePlain (map (own_clause_of ts) xs) → All (IsOwnClause ts) xs
own-each ts [] h p = All-nil (IsOwnClause ts)
own-each ts (x ∷ xs) h p =
    All-cons (IsOwnClause ts) x xs (record { clause = h 0 x (omega arith); speaks = p.0.0; free = p.0.1 }) (own-each ts xs (λ i d l. h (suc i) d (omega (arith, l))) p.1)

-- The bounds of a type, as they were read.
pub bounds-of : (c seen read : Context) (ty : Ty) (b : Preds) (xs ys : List Pred) → seen ≡ c → read ≡ c → ys ≡ xs → PredListFits read.trees xs → pred_list_forest read.trees xs ≡ preds_forest read.trees b
    → bounds_in (ty_tree seen.trees ty) ≡ each_of (preds_forest seen.trees b) → PredListFits c.trees ys × (bounds_in (ty_tree c.trees ty) ≡ map (pred_tree c.trees) ys)
bounds-of c seen read ty b xs ys is-seen is-read same fit forest bounds =
    let f = subst (λ (x : Context). PredListFits x.trees xs) is-read fit in
    let e = subst (λ (x : Context). pred_list_forest x.trees xs ≡ preds_forest x.trees b) is-read forest in
    let i = subst (λ (x : Context). bounds_in (ty_tree x.trees ty) ≡ each_of (preds_forest x.trees b)) is-seen bounds in
    (subst (PredListFits c.trees) (sym same) f, i ∙ (ap each_of (sym e) ∙ (each-listed c.trees xs f ∙ ap (map (pred_tree c.trees)) (sym same))))

pub own-clauses-are : (old mid new : Context) (ty : Ty) (bs : List Pred) (supers : List Clause) (said items : List (CandidateSource × Clause)) → IsWellFormedTable old → Grows old mid → Grows mid new → IsTy old.trees ty → (ty_tree old.trees ty).head ≡ H.Dynamic
    → holds is_param (alone (ty_tree old.trees ty)) ≡ false → PredListFits old.trees bs → bounds_in (ty_tree old.trees ty) ≡ map (pred_tree old.trees) bs → ArePrincipalSupers old (ty_tree old.trees ty) (map (clause_tree mid.trees) supers)
    → ClauseListFits mid.trees supers → PairsFit new.trees said → map (own_clause_of new.trees) said ≡ bound_clauses (ty_tree mid.trees ty) (map (pred_tree mid.trees) bs) → items ≡ said ++ numbered_from 0 supers → AreOwnClauses old new (ty_tree old.trees ty) items
own-clauses-are old mid new ty bs supers said items table g h is dynamic free fit bounds are fits pairs say whole =
    let type = ty_tree old.trees ty in
    let more = clauses-kept mid new supers h fits in
    let rest = numbered_from 0 supers in
    let same : map (own_clause_of new.trees) items ≡ own_clauses type (map (clause_tree mid.trees) supers) =
    ap (map (own_clause_of new.trees)) whole
    ∙ (map-append (own_clause_of new.trees) said rest
    ∙ (ap (λ os. os ++ map (own_clause_of new.trees) rest) (say ∙ (ap (λ u. bound_clauses u (map (pred_tree mid.trees) bs)) (ty-kept old mid ty g is).1 ∙ (ap (bound_clauses type) (pred-list-kept old mid bs g fit).1 ∙ ap (bound_clauses type) (sym bounds))))
    ∙ ap (λ os. bound_clauses type (bounds_in type) ++ os) (own-numbered new.trees 0 supers ∙ ap (numbered 0) more.1))) in
    let there = subst (PairsFit new.trees) (sym whole) (pairs-joined new.trees said rest pairs (numbered-fit new.trees 0 supers more.0)) in
    let none-there = holds_parts is_param type.head type.children none free in
    let plain = own-plain old table type (map (clause_tree mid.trees) supers) (ap is_dynamic dynamic) (type-fits old table ty dynamic) (rw (none-there.here, none-there.under) refl) are in
    record {
      supers = map (clause_tree mid.trees) supers;
      are_supers = are;
      are = same;
      each = own-each new.trees items there (subst ArePlain (sym same) plain);
    }
