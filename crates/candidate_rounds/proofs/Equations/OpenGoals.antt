-- Clauses that two types are one, or two constants, as they are made; and the goals of pairs.
use Rattle.std.proofs.Common.{◌≡◌, ◌<◌, ◌≤◌, ◌+◌, ℕ, zero, suc, List, [], ◌∷◌, ◌++◌, Result, Ok, Err, IfOk, append_assoc, arith, drop, length, slice_index_or, refl, subst, sym, ◌∙◌, ap}
use Rattle.std.specs.List.{Contains}
use Rattle.std.proofs.lemmas.List.{append-nil, length-map, map-append}
use Rattle.std.proofs.lemmas.List.Elements.{Contains-get_or}
use Rattle.ir_trees.specs.declared.ir.heads.Head.TheVariants as H
use Rattle.ir_trees.specs.declared.ir.heads.PartHead.TheVariants as P
use Rattle.ir_trees.specs.declared.ir.heads.ClauseHead.TheVariants as Cl
use Rattle.ir_trees.specs.declared.ir.kinds.Binder.{Binder}
use Rattle.ir_trees.specs.declared.ir.kinds.Clause.{Clause}
use Rattle.ir_trees.specs.declared.ir.kinds.ClauseKind.{ClauseKind}
use Rattle.ir_trees.specs.declared.ir.kinds.ClauseKind.TheVariants as K
use Rattle.ir_trees.specs.declared.ir.kinds.Const.{Const}
use Rattle.ir_trees.specs.declared.ir.kinds.GenericArg.{GenericArg}
use Rattle.ir_trees.specs.declared.ir.kinds.Goal.{Goal}
use Rattle.ir_trees.specs.declared.ir.kinds.GoalSource.{GoalSource}
use Rattle.ir_trees.specs.declared.ir.kinds.GoalSource.TheVariants.{Misc}
use Rattle.ir_trees.specs.declared.ir.kinds.ParamEnv.{ParamEnv}
use Rattle.ir_trees.specs.declared.ir.kinds.Ty.{Ty}
use Rattle.ir_trees.specs.Hierarchy.Supers.{after_first}
use Rattle.ir_trees.specs.Instantiation.Folds.{arg_tree}
use Rattle.candidate_eval.specs.Interface.Evaluators.{IsGoal, NoFault, pending_of, pendings_of}
use Rattle.candidate_eval.proofs.Dynamic.Objects.{env-kept}
use Rattle.ir_folds.proofs.Hierarchy.Implying.{arg-kept}
use Rattle.candidate_rounds.specs.Calls.Opening.{ArePaired, IsPair, pairs_at, trees_of}
use Rattle.candidate_rounds.specs.Table.Goals.{Each}
use Rattle.candidate_rounds.proofs.Equations.OpenParts.{pair-at}
use Rattle.candidate_rounds.proofs.Obligations.Evaluating.{goals-kept, pendings-kept}
use Rattle.candidate_rounds.proofs.Obligations.Noting.{arg-row}
use Rattle.candidate_rounds.proofs.Snapshots.Knowing.{each-append}
use Rattle.candidate_rounds.proofs.Snapshots.Undoing.{drop-beyond, drop-one}
use Rattle.ir_trees.specs.declared.ir.kinds.Vars.{Vars}
use Rattle.ir_trees.specs.declared.ir.stop.Stop.{Stop}
use Rattle.ir_trees.specs.Declarations.Context.{Context, Grows}
use Rattle.ir_trees.specs.Declarations.References.{Takes}
use Rattle.ir_trees.specs.Declarations.Worlds.{World}
use Rattle.ir_trees.specs.Syntax.Nodes.{tree_at}
use Rattle.ir_trees.specs.Syntax.Trees.{BinderKind, ConstantKind, Forest, Kind, TypeKind, none, row, tree, Tree}
use Rattle.ir_trees.specs.Syntax.Words.{ClauseFits, IsClause, IsConst, IsParamEnv, IsTy, IsVars, binder_tree, clause_kind_tree, clause_tree, const_tree, env_forest, list_forest, ty_tree, vars_tree}
use Rattle.ir_trees.proofs.Growth.Kept.{grows-trans, ty-kept}
use Rattle.ir_trees.proofs.Kinding.Arity.{equate-takes, relate-takes}
use Rattle.ir_trees.proofs.Syntax.Rows.{kind-of, row-single}
use Rattle.rounds_judge.specs.Aliases.OpenParts.{all_to_be, are_one, first_or, paired, relation, to_be_one}
use Rattle.candidate_rounds.proofs.Evaluators.Going.{const-kept}

abbrev pub types_said : Vars → Ty → Ty → Binder ClauseKind
types_said vs a b = record { vars = vs; value = K.AliasRelate a b }

abbrev pub constants_said : Vars → Const → Const → Binder ClauseKind
constants_said vs a b = record { vars = vs; value = K.ConstEquate a b }

pub types-fit : (ts : List Tree) (vs : Vars) (a b : Ty) → IsVars ts vs → IsTy ts a → IsTy ts b → ClauseFits ts (types_said vs a b)
types-fit ts vs a b v i j = λ n. v n ∷ i n ∷ j n ∷ []

pub types-take : (w : World) (ts : List Tree) (vs : Vars) (a b : Ty) → IsVars ts vs → IsTy ts a → IsTy ts b → Takes w (clause_kind_tree ts (types_said vs a b))
types-take w ts vs a b v i j = relate-takes w ts (types_said vs a b) a b refl (types-fit ts vs a b v i j)

pub constants-fit : (ts : List Tree) (vs : Vars) (a b : Const) → IsVars ts vs → IsConst ts a → IsConst ts b → ClauseFits ts (constants_said vs a b)
constants-fit ts vs a b v i j = λ n. v n ∷ i n ∷ j n ∷ []

pub constants-take : (w : World) (ts : List Tree) (vs : Vars) (a b : Const) → IsVars ts vs → IsConst ts a → IsConst ts b → Takes w (clause_kind_tree ts (constants_said vs a b))
constants-take w ts vs a b v i j = equate-takes w ts (constants_said vs a b) a b refl (constants-fit ts vs a b v i j)

-- their trees

types-tree : (ts : List Tree) (vs : Vars) (a b : Ty) → IsVars ts vs → IsTy ts a → IsTy ts b → vars_tree ts vs ≡ binder_tree []
    → clause_kind_tree ts (types_said vs a b) ≡ are_one (ty_tree ts a) (ty_tree ts b)
types-tree ts vs a b v i j e =
    let f : Forest = row (tree_at ts a.0) (row (tree_at ts b.0) none) in
    ap over
    (row-single ts vs.0 BinderKind f refl refl v
    ∙ (ap (λ (t : Tree). tree t.head t.children f) e
    ∙ ap (tree (H.Part P.Vars) none)
    (row-single ts a.0 TypeKind (row (tree_at ts b.0) none) refl refl i
    ∙ ap (tree (tree_at ts a.0).head (tree_at ts a.0).children) (row-single ts b.0 TypeKind none refl refl j))))
    ∙ ap (λ (k : Kind). record { head = relation k; children = facts }) (sym (kind-of ts a.0 TypeKind refl i))
  where
    over : Forest → Tree
    over f = record { head = H.Part (P.Clause Cl.AliasRelate); children = f }

    facts : Forest
    facts = tree (H.Part P.Vars) none (tree (tree_at ts a.0).head (tree_at ts a.0).children (tree (tree_at ts b.0).head (tree_at ts b.0).children none))

constants-tree : (ts : List Tree) (vs : Vars) (a b : Const) → IsVars ts vs → IsConst ts a → IsConst ts b → vars_tree ts vs ≡ binder_tree []
    → clause_kind_tree ts (constants_said vs a b) ≡ are_one (const_tree ts a) (const_tree ts b)
constants-tree ts vs a b v i j e =
    let f : Forest = row (tree_at ts a.0) (row (tree_at ts b.0) none) in
    ap over
    (row-single ts vs.0 BinderKind f refl refl v
    ∙ (ap (λ (t : Tree). tree t.head t.children f) e
    ∙ ap (tree (H.Part P.Vars) none)
    (row-single ts a.0 ConstantKind (row (tree_at ts b.0) none) refl refl i
    ∙ ap (tree (tree_at ts a.0).head (tree_at ts a.0).children) (row-single ts b.0 ConstantKind none refl refl j))))
    ∙ ap (λ (k : Kind). record { head = relation k; children = facts }) (sym (kind-of ts a.0 ConstantKind refl i))
  where
    over : Forest → Tree
    over f = record { head = H.Part (P.Clause Cl.ConstEquate); children = f }

    facts : Forest
    facts = tree (H.Part P.Vars) none (tree (tree_at ts a.0).head (tree_at ts a.0).children (tree (tree_at ts b.0).head (tree_at ts b.0).children none))

-- the same in the context before the binder was made

pub types-before : (old mid : Context) (vs : Vars) (a b : Ty) → Grows old mid → IsVars mid.trees vs → IsTy old.trees a → IsTy old.trees b → vars_tree mid.trees vs ≡ binder_tree []
    → clause_kind_tree mid.trees (types_said vs a b) ≡ are_one (ty_tree old.trees a) (ty_tree old.trees b)
types-before old mid vs a b g v i j e =
    let x = ty-kept old mid a g i in
    let y = ty-kept old mid b g j in
    types-tree mid.trees vs a b v x.0 y.0 e ∙ (ap (λ t. are_one t (ty_tree mid.trees b)) x.1 ∙ ap (are_one (ty_tree old.trees a)) y.1)

pub types-made : (old mid : Context) (ts : List Tree) (vs : Vars) (a b : Ty) (r : Result Clause Stop) → Grows old mid → IsVars mid.trees vs → IsTy old.trees a → IsTy old.trees b
    → vars_tree mid.trees vs ≡ binder_tree [] → IfOk r (λ c. clause_tree ts c ≡ clause_kind_tree mid.trees (types_said vs a b))
    → IfOk r (λ c. clause_tree ts c ≡ are_one (ty_tree old.trees a) (ty_tree old.trees b))
types-made old mid ts vs a b (Err s) g v i j e k = tt
types-made old mid ts vs a b (Ok c) g v i j e k = k ∙ types-before old mid vs a b g v i j e

pub constants-before : (old mid : Context) (vs : Vars) (a b : Const) → Grows old mid → IsVars mid.trees vs → IsConst old.trees a → IsConst old.trees b → vars_tree mid.trees vs ≡ binder_tree []
    → clause_kind_tree mid.trees (constants_said vs a b) ≡ are_one (const_tree old.trees a) (const_tree old.trees b)
constants-before old mid vs a b g v i j e =
    let x = const-kept old mid a g i in
    let y = const-kept old mid b g j in
    constants-tree mid.trees vs a b v x.0 y.0 e ∙ (ap (λ t. are_one t (const_tree mid.trees b)) x.1 ∙ ap (are_one (const_tree old.trees a)) y.1)

pub constants-made : (old mid : Context) (ts : List Tree) (vs : Vars) (a b : Const) (r : Result Clause Stop) → Grows old mid → IsVars mid.trees vs → IsConst old.trees a → IsConst old.trees b
    → vars_tree mid.trees vs ≡ binder_tree [] → IfOk r (λ c. clause_tree ts c ≡ clause_kind_tree mid.trees (constants_said vs a b))
    → IfOk r (λ c. clause_tree ts c ≡ are_one (const_tree old.trees a) (const_tree old.trees b))
constants-made old mid ts vs a b (Err s) g v i j e k = tt
constants-made old mid ts vs a b (Ok c) g v i j e k = k ∙ constants-before old mid vs a b g v i j e

-- The goals of pairs, one after the other

pub pairs-kept : (a b : Context) (xs ys : List GenericArg) → Grows a b → ArePaired a.trees xs ys → ArePaired b.trees xs ys
pairs-kept a b [] [] g k = tt
pairs-kept a b [] (y ∷ ys) g k = absurd k
pairs-kept a b (x ∷ xs) [] g k = absurd k
pairs-kept a b (x ∷ xs) (y ∷ ys) g k =
    (record { part = (arg-kept a b x g k.0.part).0; other = (arg-kept a b y g k.0.other).0; kind = k.0.kind; is_term = k.0.is_term }, pairs-kept a b xs ys g k.1)

pairs-drop : (ts : List Tree) (xs ys : List GenericArg) (i : ℕ) (d e : GenericArg) → ArePaired ts xs ys → i < length xs
    → drop i (pairs_at ts xs ys) ≡ (arg_tree ts (slice_index_or xs i d), arg_tree ts (slice_index_or ys i e)) ∷ drop (suc i) (pairs_at ts xs ys)
pairs-drop ts [] ys i d e a l = absurd (omega (arith, l))
pairs-drop ts (x ∷ xs) [] i d e a l = absurd a
pairs-drop ts (x ∷ xs) (y ∷ ys) i d e a l = at i l (λ j k. pairs-drop ts xs ys j d e a.1 k)
  where
    first : pairs_at ts (x ∷ xs) (y ∷ ys) ≡ (arg_tree ts x, arg_tree ts y) ∷ pairs_at ts xs ys
    first = ap (λ (r : Forest). (arg_tree ts x, first_or (arg_tree ts x) r) ∷ paired (trees_of ts xs) (after_first r)) (arg-row ts y (list_forest ts ys) a.0.other)

    at : (i : ℕ) → i < length (x ∷ xs) → ((j : ℕ) → j < length xs → drop j (pairs_at ts xs ys) ≡ (arg_tree ts (slice_index_or xs j d), arg_tree ts (slice_index_or ys j e)) ∷ drop (suc j) (pairs_at ts xs ys))
        → drop i (pairs_at ts (x ∷ xs) (y ∷ ys)) ≡ (arg_tree ts (slice_index_or (x ∷ xs) i d), arg_tree ts (slice_index_or (y ∷ ys) i e)) ∷ drop (suc i) (pairs_at ts (x ∷ xs) (y ∷ ys))
    at zero l f = first ∙ ap (λ (r : List (Tree × Tree)). (arg_tree ts x, arg_tree ts y) ∷ r) (sym (ap (drop 1) first))
    at (suc j) l f =
        ap (drop (suc j)) first
        ∙ (f j (omega (arith, l)) ∙ ap (λ (r : List (Tree × Tree)). (arg_tree ts (slice_index_or xs j d), arg_tree ts (slice_index_or ys j e)) ∷ r) (sym (ap (drop (suc (suc j))) first)))

pairs-length : (ps : List Tree) (vs : Forest) → length (paired ps vs) ≡ length ps
pairs-length [] vs = refl
pairs-length (p ∷ ps) vs = ap suc (pairs-length ps (after_first vs))

pub record GoalsTo (old now : Context) (env : ParamEnv) (xs ys : List GenericArg) (i : ℕ) (gs : List (GoalSource × Goal Clause)) : Type 0 where
  pub grows : Grows old now
  pub faults : NoFault old now
  pub fit : Each (λ g. IsGoal now.trees g.1) gs
  pub are : pendings_of now.trees gs ++ all_to_be (env_forest old.trees env) (drop i (pairs_at old.trees xs ys)) ≡ all_to_be (env_forest old.trees env) (pairs_at old.trees xs ys)

module _ (old mid : Context) (env : ParamEnv) (xs ys : List GenericArg) (i : ℕ) (d e : GenericArg) (paired : ArePaired old.trees xs ys) (l : i < length xs) (g : Grows old mid) where
  abbrev x : GenericArg
  x = slice_index_or xs i d

  abbrev y : GenericArg
  y = slice_index_or ys i e

  abbrev pub pair : Tree × Tree
  pair = (arg_tree old.trees x, arg_tree old.trees y)

  pub pair-there : IsPair mid.trees x y
  pair-there = (pair-at mid.trees xs ys i d e (pairs-kept old mid xs ys g paired) l).1

  pub pair-same : are_one (arg_tree mid.trees x) (arg_tree mid.trees y) ≡ are_one (arg_tree old.trees x) (arg_tree old.trees y)
  pair-same =
      let p = (pair-at old.trees xs ys i d e paired l).1 in
      ap (λ t. are_one t (arg_tree mid.trees y)) (arg-kept old mid x g p.part).1 ∙ ap (are_one (arg_tree old.trees x)) (arg-kept old mid y g p.other).1

  pub pair-contained : Contains (pairs_at old.trees xs ys) pair
  pair-contained =
      let n : length (pairs_at old.trees xs ys) ≡ length xs = pairs-length (trees_of old.trees xs) (list_forest old.trees ys) ∙ length-map xs (arg_tree old.trees) in
      let k : i < length (pairs_at old.trees xs ys) = omega (arith, l, n) in
      let same : slice_index_or (pairs_at old.trees xs ys) i pair ∷ drop (suc i) (pairs_at old.trees xs ys) ≡ pair ∷ drop (suc i) (pairs_at old.trees xs ys) =
      sym (drop-one (pairs_at old.trees xs ys) i pair k) ∙ pairs-drop old.trees xs ys i d e paired l in
      let is : slice_index_or (pairs_at old.trees xs ys) i pair ≡ pair = cc in
      subst (Contains (pairs_at old.trees xs ys)) is (Contains-get_or (pairs_at old.trees xs ys) i pair k)

pub one-more-goal : (old mid new : Context) (env : ParamEnv) (xs ys : List GenericArg) (i : ℕ) (d e : GenericArg) (gs hs : List (GoalSource × Goal Clause)) (c : Clause)
    → ArePaired old.trees xs ys → i < length xs → IsParamEnv old.trees env → GoalsTo old mid env xs ys i gs → Grows mid new → NoFault mid new → IsClause new.trees c
    → clause_tree new.trees c ≡ are_one (arg_tree mid.trees (slice_index_or xs i d)) (arg_tree mid.trees (slice_index_or ys i e)) → hs ≡ gs ++ (Misc, record { param_env = env; predicate = c }) ∷ []
    → GoalsTo old new env xs ys (i + 1) hs
one-more-goal old mid new env xs ys i d e gs hs c paired l environment a grows faults sort is more =
    let all = grows-trans old mid new a.grows grows in
    let E = env_forest old.trees env in
    let g : GoalSource × Goal Clause = (Misc, record { param_env = env; predicate = c }) in
    let P = pairs_at old.trees xs ys in
    let rest = all_to_be E (drop (suc i) P) in
    let there = env-kept old new env all environment in
    let made : pending_of new.trees Misc g.1 ≡ to_be_one E (arg_tree old.trees (slice_index_or xs i d)) (arg_tree old.trees (slice_index_or ys i e)) =
    let clause = is ∙ pair-same old mid env xs ys i d e paired l a.grows in
    λ j. record { source = Misc; goal = record { env = there.1 j; clause = clause j } } in
    record {
      grows = all;
      faults = faults ∙ a.faults;
      fit = subst (Each (λ h. IsGoal new.trees h.1)) (sym more) (each-append (λ h. IsGoal new.trees h.1) gs g (goals-kept mid new gs grows a.fit) (there.0, sort));
      are =
          (let j : i + 1 ≡ suc i = omega arith in
          ap (λ n. pendings_of new.trees hs ++ all_to_be E (drop n P)) j
          ∙ (ap (λ zs. pendings_of new.trees zs ++ rest) more
          ∙ (ap (λ zs. zs ++ rest) (map-append (λ (h : GoalSource × Goal Clause). pending_of new.trees h.0 h.1) gs (g ∷ []))
          ∙ (append_assoc (pendings_of new.trees gs) (pending_of new.trees Misc g.1 ∷ []) rest
          ∙ (ap (λ zs. zs ++ pending_of new.trees Misc g.1 ∷ rest) (pendings-kept mid new gs grows a.fit)
          ∙ (ap (λ p. pendings_of mid.trees gs ++ p ∷ rest) made
          ∙ (sym (ap (λ zs. pendings_of mid.trees gs ++ all_to_be E zs) (pairs-drop old.trees xs ys i d e paired l)) ∙ a.are)))))));
    }

pub all-goals : (old now : Context) (env : ParamEnv) (xs ys : List GenericArg) (i : ℕ) (gs : List (GoalSource × Goal Clause)) → GoalsTo old now env xs ys i gs → length xs ≤ i
    → pendings_of now.trees gs ≡ all_to_be (env_forest old.trees env) (pairs_at old.trees xs ys)
all-goals old now env xs ys i gs a l =
    let n : length (pairs_at old.trees xs ys) ≡ length xs = pairs-length (trees_of old.trees xs) (list_forest old.trees ys) ∙ length-map xs (arg_tree old.trees) in
    let k : length (pairs_at old.trees xs ys) ≤ i = omega (arith, l, n) in
    sym (append-nil (pendings_of now.trees gs)) ∙ (sym (ap (λ zs. pendings_of now.trees gs ++ all_to_be (env_forest old.trees env) zs) (drop-beyond (pairs_at old.trees xs ys) i k)) ∙ a.are)
