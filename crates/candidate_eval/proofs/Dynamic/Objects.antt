-- Bounds of objects, as they are read and instantiated.
use Rattle.std.proofs.Common.{rules, ◌≡◌, ℕ, Bool, true, ◌==◌, ◌&&◌, List, Option, [], ◌∷◌, ◌++◌, map, refl, sym, ◌∙◌, ap, subst}
use Rattle.ir_trees.specs.declared.ir.heads.Head.{Head}
use Rattle.ir_trees.specs.declared.ir.heads.ClauseHead.TheVariants as Cl
use Rattle.ir_trees.specs.declared.ir.kinds.Binder.{Binder}
use Rattle.ir_trees.specs.declared.ir.kinds.Clause.{Clause}
use Rattle.ir_trees.specs.declared.ir.kinds.ClauseKind.{ClauseKind}
use Rattle.ir_trees.specs.declared.ir.kinds.ClauseKind.TheVariants as K
use Rattle.ir_trees.specs.declared.ir.kinds.ParamEnv.{ParamEnv}
use Rattle.ir_trees.specs.declared.ir.kinds.ProjectionPredicate.{ProjectionPredicate}
use Rattle.ir_trees.specs.declared.ir.kinds.VarKind.{VarKind}
use Rattle.ir_trees.specs.Declarations.Context.{Context, Grows}
use Rattle.ir_trees.specs.Syntax.Kinds.{clause_head, fact_children, numbers}
use Rattle.ir_trees.specs.Syntax.Nodes.{tree_at, trees_at, rows}
use Rattle.ir_trees.specs.Instantiation.Opening.{under_variables}
use Rattle.ir_trees.specs.Unification.Substitutions.{alone}
use Rattle.ir_trees.specs.Syntax.Trees.{TypeKind, ArgumentsKind, ClausesKind, Forest, none, tree, Tree, join}
use Rattle.ir_trees.specs.Syntax.Words.{IsArgs, IsClause, IsTy, IsParamEnv, ClauseFits, args_forest, binder_tree, clause_tree, clause_kind_tree, env_forest, ty_tree, vars_tree, var_kind_tree}
use Rattle.ir_folds.proofs.Instantiation.Joining.{below_binder, clause-kept, clause-over, over}
use Rattle.ir_trees.proofs.Growth.Kept.{number-kept}
use Rattle.ir_trees.proofs.Syntax.Lists.{below_kind}
use Rattle.ir_trees.proofs.Syntax.Rows.{row-list, row-single}
use Rattle.candidate_eval.specs.Builtins.Callable.{all_but_last, last_tree}
use Rattle.candidate_eval.specs.Derivations.Characterization.{binder_kinds, bound_kinds}
use Rattle.candidate_eval.specs.Interface.Evaluators.{accepted, kinds_listed}
use Rattle.candidate_eval.specs.Dynamic.Objects.{IsBound, arguments_in, term_in, is_about, bound_equated, bound_matches, fresh_instance, is_equated, with_instance}
use Rattle.candidate_eval.specs.Judges.States.{Env, State, Judge, with_pending, is_some}

-- The last of several trees, and those before it.

last-alone : (a : Forest) (h : Head) (x : Forest) → all_but_last (join a (tree h x none)) ≡ a
last-alone none h x = refl
last-alone (tree g b none) h x = refl
last-alone (tree g b (tree k c rest)) h x = ap (tree g b) (last-alone (tree k c rest) h x)

last-is : (a : Forest) (h : Head) (x : Forest) → last_tree (join a (tree h x none)) ≡ record { head = h; children = x }
last-is none h x = refl
last-is (tree g b none) h x = refl
last-is (tree g b (tree k c rest)) h x = last-is (tree k c rest) h x

abbrev about : Binder ClauseKind → ClauseKind → Binder ClauseKind
about b v = record { vars = b.vars; value = v }

-- What is read of a bound.
pub bound-read : (ts : List Tree) (x : Clause) (b : Binder ClauseKind) (p : ProjectionPredicate) → ClauseFits ts b → clause_kind_tree ts b ≡ clause_tree ts x
    → b.value ≡ K.Projection p → IsBound ts (clause_tree ts x) p
bound-read ts x b p f s e = record {
  arguments = i;
  term = o;
  head = ap (λ (t : Tree). t.head) is;
  arguments_are = ap (λ (t : Tree). arguments_in t) is ∙ last-alone a t.head t.children;
  term_is = ap (λ (t : Tree). term_in t) is ∙ last-is a t.head t.children;
}
  where
    a : Forest
    a = args_forest ts p.projection_term.args

    t : Tree
    t = ty_tree ts p.term

    g : ClauseFits ts (about b (K.Projection p))
    g = subst (λ (y : ClauseKind). ClauseFits ts (about b y)) e f

    i : IsArgs ts p.projection_term.args
    i = let h = g in cc

    o : IsTy ts p.term
    o = let h = g in cc

    below : rows (trees_at ts (numbers (fact_children (K.Projection p)))) ≡ join a (alone t)
    below = row-list ts p.projection_term.args.0 ArgumentsKind (rows (tree_at ts p.term.0 ∷ [])) refl refl i ∙ ap (join a) (row-single ts p.term.0 TypeKind none refl refl o)

    is : clause_tree ts x ≡ over (Cl.Projection p.projection_term.def_id) (vars_tree ts b.vars).children (join a (alone t))
    is =
        sym s
        ∙ (clause-over ts b f
        ∙ (ap (λ (y : ClauseKind). over (clause_head (about b y)) (vars_tree ts b.vars).children (below_binder ts (about b y))) e
        ∙ ap (over (Cl.Projection p.projection_term.def_id) (vars_tree ts b.vars).children) below))

-- The kinds of a binder's variables.

kinds-of-variables : (ks : List VarKind) → binder_kinds (rows (map var_kind_tree ks)) ≡ kinds_listed ks
kinds-of-variables [] = refl
kinds-of-variables (k ∷ ks) = ap (λ js. kinds_listed (k ∷ []) ++ js) (kinds-of-variables ks)

pub kinds-read : (ks : List VarKind) (c : Tree) → c.children ≡ under_variables ks c → kinds_listed ks ≡ bound_kinds c.children
kinds-read ks c e = sym (ap bound_kinds e ∙ kinds-of-variables ks)

pub variables-read : (ks : List VarKind) (vs : Forest) → vs ≡ (binder_tree ks).children → kinds_listed ks ≡ binder_kinds vs
variables-read ks vs e = sym (ap binder_kinds e ∙ kinds-of-variables ks)

-- What a bound says, as it is read, where it is about the associated type.
pub about_yes : (ts : List Tree) (x : Clause) (b : Binder ClauseKind) (p : ProjectionPredicate) (i : ℕ) → ClauseFits ts b → clause_kind_tree ts b ≡ clause_tree ts x
    → b.value ≡ K.Projection p → p.projection_term.def_id.0 ≡ i → IsBound ts (clause_tree ts x) p × (is_about i (clause_tree ts x).head ≡ true)
about_yes ts x b p i f s e k =
    let r = bound-read ts x b p f s e in
    let n : (p.projection_term.def_id.0 == i) ≡ true = search rules in
    (r, ap (is_about i) r.head ∙ n)

-- an environment of a context that has grown
pub env-kept : (a b : Context) (e : ParamEnv) → Grows a b → IsParamEnv a.trees e → IsParamEnv b.trees e × (env_forest b.trees e ≡ env_forest a.trees e)
env-kept a b e g i =
    let k = number-kept a.trees b.trees e.0 g.kept (below_kind a.trees e.0 ClausesKind refl i) in
    (k.0 ∙ i, ap (λ (t : Tree). t.children) k.1)

module _ {F : Type 0} (judge : F → Judge) where
  -- what equating an instance's arguments comes to
  pub instance-accepted : (f g : F) (S T : State) (e d : Env) (c x : Tree) (args a b : Forest) → g ≡ f → T ≡ with_instance S c → d ≡ e → x ≡ fresh_instance S c → a ≡ arguments_in x → b ≡ args
      → accepted (judge g) T d a b ≡ bound_equated (judge f) e S c args
  instance-accepted f g S T e d c x args a b p q r s u v =
      ap (λ (h : F). accepted (judge h) T d a b) p
      ∙ (ap (λ (U : State). accepted (judge f) U d a b) q
      ∙ (ap (λ (h : Env). accepted (judge f) (with_instance S c) h a b) r
      ∙ (ap (λ (y : Forest). accepted (judge f) (with_instance S c) e y b) (u ∙ ap arguments_in s)
      ∙ ap (accepted (judge f) (with_instance S c) e (arguments_in (fresh_instance S c))) v)))

  -- what a probe with nothing pending says of a bound
  pub probe-answer : (f g : F) (S T : State) (e d : Env) (c x : Tree) (args b : Forest) (i : ℕ) (r : Bool) → g ≡ f → T ≡ with_pending S [] → d ≡ e → x ≡ c → b ≡ args → is_about i c.head ≡ true
      → is_equated (judge g) (bound_equated (judge g) d T x b) ≡ r → r ≡ bound_matches (judge f) e S c (record { item = i; arguments = args })
  probe-answer f g S T e d c x args b i r p q s u v w h =
      sym h
      ∙ (ap (λ (k : F). is_equated (judge k) (bound_equated (judge k) d T x b)) p
      ∙ (ap (λ (U : State). is_equated (judge f) (bound_equated (judge f) d U x b)) q
      ∙ (ap (λ (k : Env). is_equated (judge f) (bound_equated (judge f) k (with_pending S []) x b)) s
      ∙ (ap (λ (k : Tree). is_equated (judge f) (bound_equated (judge f) e (with_pending S []) k b)) u
      ∙ (ap (λ (k : Forest). is_equated (judge f) (bound_equated (judge f) e (with_pending S []) c k)) v
      ∙ ap (λ (k : Bool). k && is_equated (judge f) (bound_equated (judge f) e (with_pending S []) c args)) (sym w))))))

  -- what a probe with what is pending says of a bound's equation
  pub kept-answer : (f g : F) (S T : State) (e d : Env) (c x : Tree) (args b : Forest) (o : Option State) → g ≡ f → T ≡ S → d ≡ e → x ≡ c → b ≡ args
      → bound_equated (judge g) d T x b ≡ o → is_some (bound_equated (judge f) e S c args) ≡ is_some o
  kept-answer f g S T e d c x args b o p q s u v h =
      ap is_some
      (sym (ap (λ (k : F). bound_equated (judge k) d T x b) p
      ∙ (ap (λ (U : State). bound_equated (judge f) d U x b) q
      ∙ (ap (λ (k : Env). bound_equated (judge f) k S x b) s
      ∙ (ap (λ (k : Tree). bound_equated (judge f) e S k b) u
      ∙ ap (bound_equated (judge f) e S c) v))))
      ∙ h)

-- a bound is still about the associated type in a context that has grown
pub about-kept : (a b : Context) (x : Clause) (i : ℕ) → Grows a b → IsClause a.trees x → is_about i (clause_tree a.trees x).head ≡ true → is_about i (clause_tree b.trees x).head ≡ true
about-kept a b x i g c e = ap (λ (t : Tree). is_about i t.head) (clause-kept a b x g c).1 ∙ e
