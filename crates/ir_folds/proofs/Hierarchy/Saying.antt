-- Clauses that say that a trait holds, as they are read.
use Rattle.std.proofs.Common.{◌≡◌, ℕ, List, [], ◌∷◌, ◌++◌, Option, Some, None, refl, sym, ◌∙◌, ap, subst}
use Rattle.std.specs.Prelude.{map}
use Rattle.std.proofs.lemmas.List.{append-nil}
use Rattle.ir_trees.specs.declared.ir.heads.Head.TheVariants as H
use Rattle.ir_trees.specs.declared.ir.heads.PartHead.TheVariants as P
use Rattle.ir_trees.specs.declared.ir.heads.ClauseHead.TheVariants as Cl
use Rattle.ir_trees.specs.declared.ir.kinds.Binder.{Binder}
use Rattle.ir_trees.specs.declared.ir.kinds.Clause.{Clause}
use Rattle.ir_trees.specs.declared.ir.kinds.ClauseKind.{ClauseKind}
use Rattle.ir_trees.specs.declared.ir.kinds.ClauseKind.TheVariants as K
use Rattle.ir_trees.specs.declared.ir.kinds.TraitRef.{TraitRef}
use Rattle.ir_trees.specs.declared.ir.kinds.TraitPredicate.{TraitPredicate}
use Rattle.ir_trees.specs.declared.ir.kinds.PredicatePolarity.{PredicatePolarity}
use Rattle.ir_trees.specs.declared.ir.kinds.PredicatePolarity.TheVariants as Polarity
use Rattle.ir_trees.specs.Syntax.Trees.{Kind, TypeKind, BinderKind, ArgumentsKind, none, Tree}
use Rattle.ir_trees.specs.Syntax.Kinds.{clause_head, fact_children, numbers}
use Rattle.ir_trees.specs.Syntax.Nodes.{kind_at, trees_at, rows}
use Rattle.ir_trees.specs.Declarations.Context.{Context, world}
use Rattle.ir_trees.specs.Declarations.Worlds.{TraitSort, joined, parameters, kinds_of}
use Rattle.ir_trees.specs.Declarations.References.{IsWellFormed, ArgumentsFit, FitsAmong}
use Rattle.ir_trees.specs.Hierarchy.Supertraits.{head_trait}
use Rattle.ir_trees.specs.Hierarchy.Elaboration.{held_reference, held_if, implied, instance, implied_by, super_clauses, supers_if, unlisted}
use Rattle.ir_trees.specs.Syntax.Words.{IsVars, IsArgs, ClauseFits, args_forest, vars_tree, clause_tree, clause_kind_tree}
use Rattle.ir_trees.proofs.Syntax.Rows.{row-list, join-none}
use Rattle.ir_trees.proofs.Kinding.References.{fit-at}
use Rattle.ir_folds.proofs.Instantiation.Joining.{over, below_binder, read-clause}

abbrev about : Binder ClauseKind → ClauseKind → Binder ClauseKind
about b x = record { vars = b.vars; value = x }

-- a clause that says that a trait holds says so of its reference
positive : (v : ClauseKind) (r : TraitRef) → held_reference v ≡ Some r → v ≡ K.Trait (record { trait_ref = r; polarity = Polarity.Positive })
positive (K.Trait p) r e = of p.polarity refl
  where
    of : (q : PredicatePolarity) → p.polarity ≡ q → K.Trait p ≡ K.Trait (record { trait_ref = r; polarity = Polarity.Positive })
    of Polarity.Positive i =
        let some : Some p.trait_ref ≡ Some r = sym (ap (held_if p.trait_ref) i) ∙ e in
        let same : p.trait_ref ≡ r = cc in
        ap (λ (s : TraitRef). K.Trait (record { trait_ref = s; polarity = p.polarity })) same ∙ ap (λ (q : PredicatePolarity). K.Trait (record { trait_ref = r; polarity = q })) i
    of Polarity.Negative i = let some : None ≡ Some r = sym (ap (held_if p.trait_ref) i) ∙ e in absurd cc
positive (K.Projection _) r e = absurd cc
positive (K.TypeOutlives _ _) r e = absurd cc
positive (K.RegionOutlives _ _) r e = absurd cc
positive (K.AliasRelate _ _) r e = absurd cc
positive (K.ConstEquate _ _) r e = absurd cc

fits-said : (ts : List Tree) (b : Binder ClauseKind) (v : ClauseKind) → b.value ≡ v → ClauseFits ts b → ClauseFits ts (about b v)
fits-said ts b v e f = subst (λ (y : ClauseKind). ClauseFits ts (about b y)) e f

-- its variables and its arguments are of the context
pub said_fits : (c d : Context) (b : Binder ClauseKind) (r : TraitRef) → d ≡ c → ClauseFits d.trees b → held_reference b.value ≡ Some r → IsVars c.trees b.vars × IsArgs c.trees r.args
said_fits c d b r q f e =
    let p : TraitPredicate = record { trait_ref = r; polarity = Polarity.Positive } in
    let g : ClauseFits c.trees (about b (K.Trait p)) = fits-said c.trees b (K.Trait p) (positive b.value r e) (subst (λ (y : Context). ClauseFits y.trees b) q f) in
    let v : kind_at c.trees b.vars.0 ≡ BinderKind = cc in
    let i : kind_at c.trees r.args.0 ≡ ArgumentsKind = cc in
    (v, i)

-- and its tree is over these
said-over : (c d : Context) (x : Clause) (b : Binder ClauseKind) (r : TraitRef) → d ≡ c → ClauseFits d.trees b → clause_kind_tree d.trees b ≡ clause_tree d.trees x
    → held_reference b.value ≡ Some r → clause_tree c.trees x ≡ over (Cl.Trait r.def_id Polarity.Positive) (vars_tree c.trees b.vars).children (args_forest c.trees r.args)
said-over c d x b r q f s e =
    let p : TraitPredicate = record { trait_ref = r; polarity = Polarity.Positive } in
    let is = positive b.value r e in
    let i = (said_fits c d b r q f e).1 in
    let below : below_binder c.trees b ≡ args_forest c.trees r.args =
    ap (λ (y : ClauseKind). rows (trees_at c.trees (numbers (fact_children y)))) is
    ∙ (row-list c.trees r.args.0 ArgumentsKind none refl refl i ∙ join-none (args_forest c.trees r.args)) in
    read-clause c d x b q f s
    ∙ (ap (λ (y : ClauseKind). over (clause_head (about b y)) (vars_tree c.trees b.vars).children (below_binder c.trees b)) is
    ∙ ap (over (Cl.Trait r.def_id Polarity.Positive) (vars_tree c.trees b.vars).children) below)

-- the arguments fit the trait
pub said_takes : (c d : Context) (x : Clause) (b : Binder ClauseKind) (r : TraitRef) → IsWellFormed c → d ≡ c → ClauseFits d.trees b → clause_kind_tree d.trees b ≡ clause_tree d.trees x
    → held_reference b.value ≡ Some r → ArgumentsFit c r
said_takes c d x b r w q f s e =
    let o = said-over c d x b r q f s e in
    let t = over (Cl.Trait r.def_id Polarity.Positive) (vars_tree c.trees b.vars).children (args_forest c.trees r.args) in
    let g : FitsAmong (world c) t = subst (FitsAmong (world c)) o (fit-at (world c) c.trees w x.0) in
    takes (parameters (world c) TraitSort r.def_id.0) (kinds_of (args_forest c.trees r.args)) g.0
  where
    takes : (ps : Option (List Kind)) (ks : List Kind) → joined (Some (BinderKind ∷ [])) (joined (Some (TypeKind ∷ [])) ps) ≡ Some (BinderKind ∷ ks) → joined (Some (TypeKind ∷ [])) ps ≡ Some ks
    takes None ks h = absurd cc
    takes (Some ps) ks h = let same : TypeKind ∷ ps ≡ ks = cc in ap (λ (us : List Kind). Some us) same

-- what it implies
pub said_implies : (c d : Context) (x : Clause) (b : Binder ClauseKind) (r : TraitRef) → d ≡ c → ClauseFits d.trees b → clause_kind_tree d.trees b ≡ clause_tree d.trees x
    → held_reference b.value ≡ Some r
    → map (instance (vars_tree c.trees b.vars).children (args_forest c.trees r.args)) (super_clauses c r.def_id.0) ≡ implied_by (super_clauses c) (clause_tree c.trees x)
said_implies c d x b r q f s e = sym (ap (implied_by (super_clauses c)) (said-over c d x b r q f s e))

-- any other clause implies nothing
unsaid : (b : Binder ClauseKind) (v : ClauseKind) → held_reference v ≡ None → head_trait (H.Part (P.Clause (clause_head (about b v)))) ≡ None
unsaid b (K.Trait p) e = of p.polarity refl
  where
    of : (q : PredicatePolarity) → p.polarity ≡ q → head_trait (H.Part (P.Clause (clause_head (about b (K.Trait p))))) ≡ None
    of Polarity.Positive i = let some : Some p.trait_ref ≡ None = sym (ap (held_if p.trait_ref) i) ∙ e in absurd cc
    of Polarity.Negative i = rw i refl
unsaid b (K.Projection _) e = refl
unsaid b (K.TypeOutlives _ _) e = refl
unsaid b (K.RegionOutlives _ _) e = refl
unsaid b (K.AliasRelate _ _) e = refl
unsaid b (K.ConstEquate _ _) e = refl

pub unsaid_implies : (c d : Context) (x : Clause) (b : Binder ClauseKind) (ts : List Tree) → d ≡ c → ClauseFits d.trees b → clause_kind_tree d.trees b ≡ clause_tree d.trees x
    → held_reference b.value ≡ None → ts ≡ ts ++ unlisted ts (implied_by (super_clauses c) (clause_tree c.trees x))
unsaid_implies c d x b ts q f s e =
    let o = read-clause c d x b q f s in
    let h : head_trait (clause_tree c.trees x).head ≡ None = ap (λ (t : Tree). head_trait t.head) o ∙ unsaid b b.value e in
    let nothing : implied_by (super_clauses c) (clause_tree c.trees x) ≡ [] = ap (λ (n : Option ℕ). map (implied (clause_tree c.trees x)) (supers_if (super_clauses c) n)) h in
    sym (ap (λ (us : List Tree). ts ++ unlisted ts us) nothing ∙ append-nil ts)
