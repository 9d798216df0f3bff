-- What object candidates ask for.
use Rattle.std.proofs.Common.{rules, ◌≡◌, ℕ, List, [], ◌∷◌, Option, Some, None, All, map, refl, sym, ◌∙◌, ap, subst}
use Rattle.std.proofs.lemmas.List.Elements.{All-cons}
use Rattle.ir_trees.specs.declared.ir.heads.ClauseHead.TheVariants as Cl
use Rattle.ir_trees.specs.declared.ir.kinds.Binder.{Binder}
use Rattle.ir_trees.specs.declared.ir.kinds.Clause.{Clause}
use Rattle.ir_trees.specs.declared.ir.kinds.ClauseKind.{ClauseKind}
use Rattle.ir_trees.specs.declared.ir.kinds.ClauseKind.TheVariants as K
use Rattle.ir_trees.specs.declared.ir.kinds.GenericArg.{GenericArg}
use Rattle.ir_trees.specs.declared.ir.kinds.GenericArg.TheVariants as G
use Rattle.ir_trees.specs.declared.ir.kinds.Goal.{Goal as OfNumbers}
use Rattle.ir_trees.specs.declared.ir.kinds.ParamEnv.{ParamEnv}
use Rattle.ir_trees.specs.declared.ir.kinds.TraitPredicate.{TraitPredicate}
use Rattle.ir_trees.specs.declared.ir.kinds.TraitRef.{TraitRef}
use Rattle.ir_trees.specs.declared.ir.kinds.Ty.{Ty}
use Rattle.ir_trees.specs.Declarations.Context.{Context, world}
use Rattle.ir_trees.specs.Syntax.Kinds.{clause_head, fact_children, numbers}
use Rattle.ir_trees.specs.Syntax.Nodes.{kind_at, rows, tree_at, trees_at}
use Rattle.ir_trees.specs.Declarations.References.{ArgumentsFit, FitsAmong, IsWellFormed}
use Rattle.ir_trees.specs.Syntax.Trees.{Kind, BinderKind, TypeKind, ConstantKind, RegionKind, ArgumentsKind, Forest, none, tree, Tree, kind_of}
use Rattle.ir_trees.specs.Syntax.Words.{IsArgs, IsClause, IsParamEnv, IsTy, ClauseFits, ClauseListFits, ListFits, args_forest, clause_kind_tree, clause_tree, env_forest, list_forest, ty_tree, vars_tree}
use Rattle.ir_trees.specs.Declarations.Worlds.{TraitSort, joined, kinds_of, parameters}
use Rattle.ir_folds.proofs.Instantiation.Joining.{below_binder, clause-over, over}
use Rattle.ir_trees.proofs.Kinding.References.{fit-at}
use Rattle.ir_trees.proofs.Syntax.Rows.{join-none, kind-of, row-list, row-single}
use Rattle.candidate_eval.specs.Builtins.Asked.{first_ty}
use Rattle.candidate_eval.specs.Interface.Evaluators.{IsGoal, goal_of}
use Rattle.candidate_eval.specs.Dynamic.ObjectRequirements.{arguments_of, first_tree, goal_in, goals_in}
use Rattle.candidate_eval.specs.Dynamic.Replacing.{AreReplaced, AreStuck, clauses_at}
use Rattle.candidate_eval.specs.Judges.States.{Env, State, Judge}

abbrev about : Binder ClauseKind → ClauseKind → Binder ClauseKind
about b v = record { vars = b.vars; value = v }

-- What is read of a clause that speaks of a trait.
pub predicate-read : (c : Context) (x : Clause) (b : Binder ClauseKind) (p : TraitPredicate) → IsWellFormed c → ClauseFits c.trees b → clause_kind_tree c.trees b ≡ clause_tree c.trees x → b.value ≡ K.Trait p
    → IsArgs c.trees p.trait_ref.args × ArgumentsFit c p.trait_ref × (arguments_of (clause_tree c.trees x) ≡ args_forest c.trees p.trait_ref.args)
predicate-read c x b p w f s e =
    let r = p.trait_ref in
    let g : ClauseFits c.trees (about b (K.Trait p)) = subst (λ (y : ClauseKind). ClauseFits c.trees (about b y)) e f in
    let i : kind_at c.trees r.args.0 ≡ ArgumentsKind = cc in
    let below : rows (trees_at c.trees (numbers (fact_children (K.Trait p)))) ≡ args_forest c.trees r.args =
    row-list c.trees r.args.0 ArgumentsKind none refl refl i ∙ join-none (args_forest c.trees r.args) in
    let vs = (vars_tree c.trees b.vars).children in
    let o : clause_tree c.trees x ≡ over (Cl.Trait r.def_id p.polarity) vs (args_forest c.trees r.args) =
    sym s ∙ (clause-over c.trees b f ∙ (ap (λ (y : ClauseKind). over (clause_head (about b y)) vs (below_binder c.trees (about b y))) e ∙ ap (over (Cl.Trait r.def_id p.polarity) vs) below)) in
    let fit : FitsAmong (world c) (over (Cl.Trait r.def_id p.polarity) vs (args_forest c.trees r.args)) = subst (FitsAmong (world c)) o (fit-at (world c) c.trees w x.0) in
    (i, takes (parameters (world c) TraitSort r.def_id.0) (kinds_of (args_forest c.trees r.args)) fit.0, ap arguments_of o)
  where
    takes : (ps : Option (List Kind)) (ks : List Kind) → joined (Some (BinderKind ∷ [])) (joined (Some (TypeKind ∷ [])) ps) ≡ Some (BinderKind ∷ ks) → joined (Some (TypeKind ∷ [])) ps ≡ Some ks
    takes None ks h = absurd cc
    takes (Some ps) ks h = let same : TypeKind ∷ ps ≡ ks = cc in ap (λ (us : List Kind). Some us) same

-- The first of a reference's arguments is a type.

abbrev first-kind : List Kind → Kind
first-kind [] = ArgumentsKind
first-kind (k ∷ ks) = k

first-of : (ps : Option (List Kind)) (ks : List Kind) → joined (Some (TypeKind ∷ [])) ps ≡ Some ks → first-kind ks ≡ TypeKind
first-of None ks e = absurd cc
first-of (Some ps) ks e = let same : TypeKind ∷ ps ≡ ks = cc in ap first-kind (sym same)

pub first-there : (c : Context) (r : TraitRef) (xs : List GenericArg) → ListFits c.trees xs → list_forest c.trees xs ≡ args_forest c.trees r.args → ArgumentsFit c r → first_ty xs ≡ None → ⊥
first-there c r xs l s f n = at xs l n (ap (λ (a : Forest). first-kind (kinds_of a)) s ∙ first-of (parameters (world c) TraitSort r.def_id.0) (kinds_of (args_forest c.trees r.args)) f)
  where
    other : (m : ℕ) (k : Kind) (rest : Forest) (a : Forest) → a ≡ tree (tree_at c.trees m).head (tree_at c.trees m).children rest
        → kind_of (tree_at c.trees m).head ≡ k → first-kind (kinds_of a) ≡ TypeKind → k ≡ TypeKind
    other m k rest a e q h = sym q ∙ (sym (ap (λ (b : Forest). first-kind (kinds_of b)) e) ∙ h)

    at : (ys : List GenericArg) → ListFits c.trees ys → first_ty ys ≡ None → first-kind (kinds_of (list_forest c.trees ys)) ≡ TypeKind → ⊥
    at [] l n h = absurd cc
    at (G.Ty t ∷ ys) l n h = absurd cc
    at (G.Const t ∷ ys) l n h =
        let i : kind_at c.trees t.0 ≡ ConstantKind = cc in
        let z = other t.0 ConstantKind (list_forest c.trees ys) (list_forest c.trees (G.Const t ∷ ys)) (row-single c.trees t.0 ConstantKind (list_forest c.trees ys) refl refl i) (kind-of c.trees t.0 ConstantKind refl i) h in
        absurd cc
    at (G.Region t ∷ ys) l n h =
        let i : kind_at c.trees t.0 ≡ RegionKind = cc in
        let z = other t.0 RegionKind (list_forest c.trees ys) (list_forest c.trees (G.Region t ∷ ys)) (row-single c.trees t.0 RegionKind (list_forest c.trees ys) refl refl i) (kind-of c.trees t.0 RegionKind refl i) h in
        absurd cc

pub first-is : (ts : List Tree) (xs : List GenericArg) (a : Forest) (f : Ty) → ListFits ts xs → list_forest ts xs ≡ a → first_ty xs ≡ Some f → ty_tree ts f ≡ first_tree a
first-is ts [] a f l s e = absurd cc
first-is ts (G.Ty g ∷ xs) a f l s e =
    let same : g ≡ f = cc in
    let i : IsTy ts g = cc in
    ap (ty_tree ts) (sym same) ∙ (sym (ap first_tree (row-single ts g.0 TypeKind (list_forest ts xs) refl refl i)) ∙ ap first_tree s)
first-is ts (G.Const g ∷ xs) a f l s e = absurd cc
first-is ts (G.Region g ∷ xs) a f l s e = absurd cc

-- Clauses as goals.

abbrev pub goal_with : ParamEnv → Clause → OfNumbers Clause
goal_with env c = record { param_env = env; predicate = c }

pub goals-are : (ts : List Tree) (env : ParamEnv) (e : Env) (cs : List Clause) → env_forest ts env ≡ e → map (goal_of ts) (goals_in env cs) ≡ map (goal_in e) (clauses_at ts cs)
goals-are ts env e [] q = refl
goals-are ts env e (c ∷ cs) q =
    ap (λ (y : Env). goal_in y (clause_tree ts c) ∷ map (goal_of ts) (goals_in env cs)) q ∙ ap (λ (ys : List _). goal_in e (clause_tree ts c) ∷ ys) (goals-are ts env e cs q)

pub goals-fit : (ts : List Tree) (env : ParamEnv) (cs : List Clause) → IsParamEnv ts env → ClauseListFits ts cs → All (IsGoal ts) (goals_in env cs)
goals-fit ts env [] i f = search rules
goals-fit ts env (c ∷ cs) i f =
    let here : IsClause ts c = cc in
    let rest : ClauseListFits ts cs = cc in
    All-cons (IsGoal ts) (goal_with env c) (goals_in env cs) (i, here) (goals-fit ts env cs i rest)

-- What is said at the end of the start.
module _ {F : Type 0} (judge : F → Judge) where
  pub are-replaced-at : (f g : F) (e d : Env) (o p : Tree) (bs xs cs ds : List Tree) (S R T : State) → g ≡ f → d ≡ e → p ≡ o → xs ≡ bs → R ≡ S → AreReplaced (judge g) d p xs R cs ds T
      → AreReplaced (judge f) e o bs S cs ds T
  are-replaced-at f g e d o p bs xs cs ds S R T h i j k l r =
      subst (λ (y : F). AreReplaced (judge y) e o bs S cs ds T) h
      (subst (λ (y : Env). AreReplaced (judge g) y o bs S cs ds T) i
      (subst (λ (y : Tree). AreReplaced (judge g) d y bs S cs ds T) j
      (subst (λ (y : List Tree). AreReplaced (judge g) d p y S cs ds T) k (subst (λ (y : State). AreReplaced (judge g) d p xs y cs ds T) l r))))

  pub are-stuck-at : (f g : F) (e d : Env) (o p : Tree) (bs xs cs : List Tree) (S R T : State) → g ≡ f → d ≡ e → p ≡ o → xs ≡ bs → R ≡ S → AreStuck (judge g) d p xs R cs T → AreStuck (judge f) e o bs S cs T
  are-stuck-at f g e d o p bs xs cs S R T h i j k l r =
      subst (λ (y : F). AreStuck (judge y) e o bs S cs T) h
      (subst (λ (y : Env). AreStuck (judge g) y o bs S cs T) i
      (subst (λ (y : Tree). AreStuck (judge g) d y bs S cs T) j
      (subst (λ (y : List Tree). AreStuck (judge g) d p y S cs T) k (subst (λ (y : State). AreStuck (judge g) d p xs y cs T) l r))))
