-- The reference of the trait that a clause speaks of.
use Rattle.std.proofs.Common.{◌≡◌, ℕ, ◌==◌, Option, Some, None, List, [], ◌∷◌, refl, sym, ap, subst, ◌∙◌, map, option_map, slice_get, if◌then◌else◌}
use Rattle.std.proofs.lemmas.Option.{slice_get-map}
use Rattle.ir_trees.specs.declared.decl.definition.AssocKind.TheVariants as A
use Rattle.ir_trees.specs.declared.decl.definition.DefinitionKind.{DefinitionKind}
use Rattle.ir_trees.specs.declared.decl.definition.DefinitionKind.TheVariants as D
use Rattle.ir_trees.specs.declared.ir.heads.ClauseHead.TheVariants as Cl
use Rattle.ir_trees.specs.declared.ir.heads.Head.TheVariants as H
use Rattle.ir_trees.specs.declared.ir.heads.PartHead.TheVariants as P
use Rattle.ir_trees.specs.declared.ir.kinds.Binder.{Binder}
use Rattle.ir_trees.specs.declared.ir.kinds.Clause.{Clause}
use Rattle.ir_trees.specs.declared.ir.kinds.ClauseKind.{ClauseKind}
use Rattle.ir_trees.specs.declared.ir.kinds.ClauseKind.TheVariants as K
use Rattle.ir_trees.specs.declared.ir.kinds.PredicatePolarity.TheVariants as Pol
use Rattle.ir_trees.specs.declared.ir.kinds.Preds.{Preds}
use Rattle.ir_trees.specs.declared.ir.kinds.ProjectionPredicate.{ProjectionPredicate}
use Rattle.ir_trees.specs.declared.ir.kinds.TraitId.{TraitId}
use Rattle.ir_trees.specs.declared.ir.kinds.TraitPredicate.{TraitPredicate}
use Rattle.ir_trees.specs.declared.ir.kinds.TraitRef.{TraitRef}
use Rattle.ir_trees.specs.declared.ir.kinds.Ty.{Ty}
use Rattle.ir_trees.specs.declared.ir.kinds.Vars.{Vars}
use Rattle.ir_trees.specs.Declarations.Context.{Context, Grows, definition_of, parameter_kind, sort_of, world}
use Rattle.ir_trees.specs.Declarations.Declaration.{Declaration}
use Rattle.ir_trees.specs.Instantiation.Folds.{node}
use Rattle.ir_trees.specs.Syntax.Kinds.{clause_head, fact_children, numbers}
use Rattle.ir_trees.specs.Declarations.Lookups.{assoc_trait, definition, kind_of_declared}
use Rattle.ir_trees.specs.Syntax.Nodes.{kind_at, rows, tree_at, trees_at}
use Rattle.ir_trees.specs.Declarations.References.{ArgumentsFit, FitsAmong, IsWellFormed, Takes}
use Rattle.ir_trees.specs.Unification.Substitutions.{alone}
use Rattle.ir_trees.specs.Syntax.Trees.{Kind, ArgumentsKind, BinderKind, PredicatesKind, TypeKind, Forest, none, tree, Tree, join}
use Rattle.ir_trees.specs.Syntax.Words.{ClauseFits, IsArgs, IsPreds, IsVars, args_forest, clause_kind_tree, clause_tree, preds_forest, ty_tree, vars_tree}
use Rattle.ir_trees.specs.Declarations.Worlds.{AssociatedTypeSort, TraitSort, joined, kinds_of, parameters, parameters_of, sort_number}
use Rattle.ir_folds.proofs.Instantiation.Joining.{below_binder, clause-over, over}
use Rattle.ir_trees.proofs.Growth.Kept.{args-kept, number-kept}
use Rattle.ir_trees.proofs.Syntax.Lists.{below_kind}
use Rattle.ir_context.proofs.Hierarchy.Listing.{vars_kept}
use Rattle.ir_trees.proofs.Kinding.References.{fit-at}
use Rattle.ir_trees.proofs.Syntax.Rows.{join-none, row-list, row-single}
use Rattle.candidate_eval.specs.Builtins.Callable.{all_but_last}
use Rattle.candidate_eval.specs.Dynamic.ObjectRequirements.{held_predicate, reference_clause}
use Rattle.candidate_eval.specs.Dynamic.Required.{each_of}
use Rattle.candidate_assembly.specs.Rules.BuiltinRules.{holds_of}
use Rattle.candidate_assembly.specs.Rules.DynBounds.{bounds_in}
use Rattle.candidate_assembly.specs.Goals.Kinds.{compared_arguments}
use Rattle.candidate_assembly.specs.Rules.ObjectBounds.{HasArguments, reference_by, trait_by}
use Rattle.candidate_assembly.specs.Calls.ObjectCalls.{IsReferenceBy}
use Rattle.candidate_assembly.proofs.Goals.TraitClauses.{fact-fits, fact-is, fact-takes, fit-kept}

abbrev about : Binder ClauseKind → ClauseKind → Binder ClauseKind
about b v = record { vars = b.vars; value = v }

abbrev under : Vars → TraitRef → Binder TraitRef
under vs r = record { vars = vs; value = r }

-- a clause, where what it says is known
clause-is : (ts : List Tree) (x : Clause) (b : Binder ClauseKind) (v : ClauseKind) (below : Forest) → ClauseFits ts b → clause_kind_tree ts b ≡ clause_tree ts x → b.value ≡ v → rows (trees_at ts (numbers (fact_children v))) ≡ below
    → clause_tree ts x ≡ over (clause_head (about b v)) (vars_tree ts b.vars).children below
clause-is ts x b v below f s e q =
    let vs = (vars_tree ts b.vars).children in
    sym s ∙ (clause-over ts b f ∙ (ap (λ (y : ClauseKind). over (clause_head (about b y)) vs (below_binder ts (about b y))) e ∙ ap (over (clause_head (about b v)) vs) q))

-- A reference under the clause's binder, by the clause as a tree.
made-by : (c : Context) (t : Tree) (vs : Vars) (r : TraitRef) (u : Tree) → t ≡ u → IsVars c.trees vs → IsArgs c.trees r.args → r.def_id.0 ≡ trait_by c u.head → args_forest c.trees r.args ≡ compared_arguments u
    → holds_of r.def_id Pol.Positive (vars_tree c.trees vs).children (args_forest c.trees r.args) ≡ reference_by c u → IsReferenceBy c t (under vs r)
made-by c t vs r u is i a of same by = record {
  vars = i;
  args = a;
  trait = of ∙ sym (ap (λ (x : Tree). trait_by c x.head) is);
  arguments = same ∙ sym (ap compared_arguments is);
  tree = fact-is c.trees vs (held_predicate r) i a ∙ (by ∙ sym (ap (reference_by c) is));
}

pub reference-of-trait : (c : Context) (x : Clause) (b : Binder ClauseKind) (p : TraitPredicate) (r : TraitRef) → ClauseFits c.trees b → clause_kind_tree c.trees b ≡ clause_tree c.trees x → b.value ≡ K.Trait p → r ≡ p.trait_ref
    → IsReferenceBy c (clause_tree c.trees x) (under b.vars r)
reference-of-trait c x b p r f s e q =
    let ts = c.trees in
    let a = args_forest ts p.trait_ref.args in
    let g : ClauseFits ts (about b (K.Trait p)) = subst (λ (y : ClauseKind). ClauseFits ts (about b y)) e f in
    let v : kind_at ts b.vars.0 ≡ BinderKind = cc in
    let i : kind_at ts p.trait_ref.args.0 ≡ ArgumentsKind = cc in
    let is = clause-is ts x b (K.Trait p) a f s e (row-list ts p.trait_ref.args.0 ArgumentsKind none refl refl i ∙ join-none a) in
    subst (λ (y : TraitRef). IsReferenceBy c (clause_tree ts x) (under b.vars y)) (sym q)
    (made-by c (clause_tree ts x) b.vars p.trait_ref (over (Cl.Trait p.trait_ref.def_id p.polarity) (vars_tree ts b.vars).children a) is v i refl refl refl)

last-alone : (a : Forest) (t : Tree) → all_but_last (join a (alone t)) ≡ a
last-alone none t = refl
last-alone (tree g b none) t = refl
last-alone (tree g b (tree k c rest)) t = ap (tree g b) (last-alone (tree k c rest) t)

-- the trait of an item that is known
trait-there : (c : Context) (n : ℕ) (i : TraitId) (o : Option TraitId) → o ≡ assoc_trait (definition c n) → o ≡ Some i → i.0 ≡ trait_by c (H.Part (P.Clause (Cl.Projection (record { 0 = n }))))
trait-there c n i o is e = ap of (sym e ∙ is)
  where
    of : Option TraitId → ℕ
    of None = 0
    of (Some j) = j.0

pub reference-of-item : (c : Context) (x : Clause) (b : Binder ClauseKind) (p : ProjectionPredicate) (i : TraitId) (o : Option TraitId) (r : TraitRef) → ClauseFits c.trees b → clause_kind_tree c.trees b ≡ clause_tree c.trees x
    → b.value ≡ K.Projection p → o ≡ assoc_trait (definition c p.projection_term.def_id.0) → o ≡ Some i → r ≡ record { def_id = i; args = p.projection_term.args } → IsReferenceBy c (clause_tree c.trees x) (under b.vars r)
reference-of-item c x b p i o r f s e is there q =
    let ts = c.trees in
    let a = args_forest ts p.projection_term.args in
    let t = ty_tree ts p.term in
    let g : ClauseFits ts (about b (K.Projection p)) = subst (λ (y : ClauseKind). ClauseFits ts (about b y)) e f in
    let v : kind_at ts b.vars.0 ≡ BinderKind = cc in
    let k : kind_at ts p.projection_term.args.0 ≡ ArgumentsKind = cc in
    let h : kind_at ts p.term.0 ≡ TypeKind = cc in
    let below = row-list ts p.projection_term.args.0 ArgumentsKind (rows (tree_at ts p.term.0 ∷ [])) refl refl k ∙ ap (join a) (row-single ts p.term.0 TypeKind none refl refl h) in
    let u = over (Cl.Projection p.projection_term.def_id) (vars_tree ts b.vars).children (join a (alone t)) in
    let whole = clause-is ts x b (K.Projection p) (join a (alone t)) f s e below in
    let of = trait-there c p.projection_term.def_id.0 i o is there in
    let same = sym (last-alone a t) in
    let ref : TraitRef = record { def_id = i; args = p.projection_term.args } in
    let vs = (vars_tree ts b.vars).children in
    subst (λ (y : TraitRef). IsReferenceBy c (clause_tree ts x) (under b.vars y)) (sym q)
    (made-by c (clause_tree ts x) b.vars ref u whole v k of same (ap (λ n. holds_of (record { 0 = n }) Pol.Positive vs a) of ∙ ap (holds_of (record { 0 = trait_by c u.head }) Pol.Positive vs) same))

-- A projection's item has a trait.

no-trait-kind : (k : DefinitionKind) (ps ks : List Kind) → (if sort_number (sort_of k) == sort_number AssociatedTypeSort then Some ps else None) ≡ Some ks → assoc_trait (Some k) ≡ None → ⊥
no-trait-kind (D.Assoc i A.Type sized place) ps ks e n = absurd cc
no-trait-kind (D.Assoc i A.Const sized place) ps ks e n = absurd cc
no-trait-kind _ ps ks e n = absurd cc

no-trait-at : (o : Option Declaration) (ks : List Kind) → parameters_of AssociatedTypeSort (option_map definition_of o) ≡ Some ks → assoc_trait (kind_of_declared o) ≡ None → ⊥
no-trait-at None ks e n = absurd cc
no-trait-at (Some d) ks e n = no-trait-kind d.kind (map parameter_kind d.parameters) ks e n

item-parameters : (o : Option (List Kind)) (ks : List Kind) → joined (Some (BinderKind ∷ [])) (joined (joined (Some (TypeKind ∷ [])) o) (Some (TypeKind ∷ []))) ≡ Some ks → (ps : List Kind) × (o ≡ Some ps)
item-parameters None ks e = absurd cc
item-parameters (Some ps) ks e = (ps, refl)

pub item-has-trait : (c : Context) (x : Clause) (b : Binder ClauseKind) (p : ProjectionPredicate) (o : Option TraitId) → IsWellFormed c → ClauseFits c.trees b → clause_kind_tree c.trees b ≡ clause_tree c.trees x → b.value ≡ K.Projection p
    → o ≡ assoc_trait (definition c p.projection_term.def_id.0) → o ≡ None → ⊥
item-has-trait c x b p o w f s e is missing =
    let n = p.projection_term.def_id.0 in
    let vs = (vars_tree c.trees b.vars).children in
    let u = over (Cl.Projection p.projection_term.def_id) vs (rows (trees_at c.trees (numbers (fact_children (K.Projection p))))) in
    let fit : FitsAmong (world c) u = subst (FitsAmong (world c)) (clause-is c.trees x b (K.Projection p) _ f s e refl) (fit-at (world c) c.trees w x.0) in
    let ps = item-parameters (parameters (world c) AssociatedTypeSort n) (kinds_of u.children) fit.0 in
    no-trait-at (slice_get c.declarations n) ps.0 (sym (ap (parameters_of AssociatedTypeSort) (slice_get-map definition_of c.declarations n)) ∙ ps.1) (sym is ∙ missing)

-- The reference where a context has grown: it may be asked for there, and it is the same.
pub record IsThere (old now : Context) (t : Tree) (r : Binder TraitRef) : Type 0 where
  pub fits : ClauseFits now.trees (reference_clause r)
  pub takes : Takes (world now) (clause_kind_tree now.trees (reference_clause r))
  pub is : clause_kind_tree now.trees (reference_clause r) ≡ reference_by old t

pub reference-there : (old now : Context) (t : Tree) (r : Binder TraitRef) → Grows old now → HasArguments old t → IsReferenceBy old t r → IsThere old now t r
reference-there old now t r g h b =
    let p = held_predicate r.value in
    let vs = vars_kept old now r.vars g b.vars in
    let row = args-kept old now r.value.args g b.args in
    let fit : ArgumentsFit old r.value = ap (λ n. joined (Some (TypeKind ∷ [])) (parameters (world old) TraitSort n)) b.trait ∙ (h ∙ ap (λ x. Some (kinds_of x)) (sym b.arguments)) in
    record {
      fits = fact-fits now.trees r.vars p vs.0 row.0;
      takes = fact-takes now r.vars p vs.0 row.0 (fit-kept old now r.value g b.args fit);
      is = fact-is now.trees r.vars p vs.0 row.0
          ∙ (ap (λ (x : Tree). holds_of r.value.def_id Pol.Positive x.children (args_forest now.trees r.value.args)) vs.1
          ∙ (ap (holds_of r.value.def_id Pol.Positive (vars_tree old.trees r.vars).children) row.1
          ∙ (sym (fact-is old.trees r.vars p b.vars b.args) ∙ b.tree)));
    }

-- The bounds of an object, as a list of the context.

pub each-same : (xs ys : Forest) → each_of xs ≡ each_of ys → xs ≡ ys
each-same none none e = refl
each-same none (tree h below rest) e = absurd cc
each-same (tree h below rest) none e = absurd cc
each-same (tree h below rest) (tree g inner others) e =
    let first : node h below ≡ node g inner = cc in
    let later : each_of rest ≡ each_of others = cc in
    ap (λ (t : Tree). tree t.head t.children rest) first ∙ ap (tree g inner) (each-same rest others later)

pub preds-kept : (old now : Context) (b : Preds) → Grows old now → IsPreds old.trees b → IsPreds now.trees b × (preds_forest now.trees b ≡ preds_forest old.trees b)
preds-kept old now b g i =
    let k = number-kept old.trees now.trees b.0 g.kept (below_kind old.trees b.0 PredicatesKind refl i) in
    (k.0 ∙ i, ap (λ (t : Tree). t.children) k.1)

-- those of its type, as they were read
pub bounds-read : (c seen read : Context) (ty : Ty) (b : Preds) (t : Tree) → seen ≡ c → read ≡ c → ty_tree seen.trees ty ≡ t → bounds_in (ty_tree read.trees ty) ≡ each_of (preds_forest read.trees b) → preds_forest c.trees b ≡ all_but_last t.children
bounds-read c seen read ty b t s r is e =
    let there = subst (λ (x : Context). bounds_in (ty_tree x.trees ty) ≡ each_of (preds_forest x.trees b)) r e in
    sym (each-same _ _ there) ∙ ap (λ (u : Tree). all_but_last u.children) (sym (ap (λ (x : Context). ty_tree x.trees ty) s) ∙ is)
