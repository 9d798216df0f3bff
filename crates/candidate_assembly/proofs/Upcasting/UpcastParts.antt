-- What an upcast is made of, by what was read of both types.
use Rattle.std.proofs.Common.{◌≡◌, ◌==◌, ℕ, Bool, true, false, Option, Some, None, List, [], ◌∷◌, All, arith, get_or, map, refl, sym, ap, subst, ◌∙◌}
use Rattle.std.specs.Prelude.{IfSome, option_map}
use Rattle.std.specs.List.{filter}
use Rattle.std.proofs.lemmas.List.Elements.{All-cons, All-filter, All-head, All-nil, All-tail}
use Rattle.ir_trees.specs.declared.ir.heads.ClauseHead.{ClauseHead}
use Rattle.ir_trees.specs.declared.ir.heads.ClauseHead.TheVariants as Cl
use Rattle.ir_trees.specs.declared.ir.heads.Head.{Head}
use Rattle.ir_trees.specs.declared.ir.heads.Head.TheVariants as H
use Rattle.ir_trees.specs.declared.ir.heads.PartHead.{PartHead}
use Rattle.ir_trees.specs.declared.ir.heads.PartHead.TheVariants as P
use Rattle.ir_trees.specs.declared.ir.heads.PredHead.TheVariants as PH
use Rattle.ir_trees.specs.declared.ir.kinds.Binder.{Binder}
use Rattle.ir_trees.specs.declared.ir.kinds.Clause.{Clause}
use Rattle.ir_trees.specs.declared.ir.kinds.ClauseKind.{ClauseKind}
use Rattle.ir_trees.specs.declared.ir.kinds.ClauseKind.TheVariants as K
use Rattle.ir_trees.specs.declared.ir.kinds.Pred.{Pred}
use Rattle.ir_trees.specs.declared.ir.kinds.Preds.{Preds}
use Rattle.ir_trees.specs.declared.ir.kinds.Region.{Region}
use Rattle.ir_trees.specs.declared.ir.kinds.TraitId.{TraitId}
use Rattle.ir_trees.specs.declared.ir.kinds.Ty.{Ty}
use Rattle.ir_trees.specs.declared.ir.kinds.Vars.{Vars}
use Rattle.ir_trees.specs.Declarations.Context.{Context, Grows, world}
use Rattle.ir_trees.specs.Hierarchy.Elaboration.{AreSupertraits, under_binder}
use Rattle.ir_trees.specs.Declarations.Names.{principal_of}
use Rattle.ir_trees.specs.Syntax.Nodes.{kind_at}
use Rattle.ir_trees.specs.Declarations.References.{FitsAmong, Takes}
use Rattle.ir_trees.specs.Unification.Substitutions.{alone}
use Rattle.ir_trees.specs.Hierarchy.Supers.{after_first}
use Rattle.ir_trees.specs.Syntax.Trees.{Kind, BinderKind, RegionKind, Forest, none, tree, Tree, holds, is_param, kind_of}
use Rattle.ir_trees.specs.Validity.WellFormed.{IsWellFormedTable}
use Rattle.ir_trees.specs.Syntax.Words.{ClauseFits, ClauseListFits, IsClause, IsPred, IsRegion, IsVars, PredListFits, pred_list_forest, preds_forest, binder_tree, clause_kind_tree, clause_tree, pred_tree, region_tree, ty_tree, vars_tree}
use Rattle.ir_trees.specs.Declarations.Worlds.{Fits, World}
use Rattle.ir_folds.proofs.Instantiation.Joining.{clause-over, over}
use Rattle.ir_trees.proofs.Growth.Kept.{grows-trans}
use Rattle.ir_trees.proofs.Growth.Made.{IsClause-listed, IsPred-listed}
use Rattle.ir_trees.proofs.Kinding.References.{fit-at}
use Rattle.ir_trees.proofs.Syntax.Rows.{kind-of, row-single}
use Rattle.candidate_eval.specs.Builtins.Callable.{all_but_last}
use Rattle.candidate_eval.specs.Derivations.Mentions.{IsBelow, is_from}
use Rattle.candidate_eval.specs.Dynamic.Required.{each_of}
use Rattle.candidate_eval.proofs.Marks.Holds.{holds_parts}
use Rattle.candidate_eval.proofs.Marks.Marking.{after-unmarked, alone-unmarked, but-last-unmarked, last-unmarked, unmarked}
use Rattle.candidate_eval.specs.Dynamic.ObjectRules.{IsRuleTree}
use Rattle.candidate_assembly.specs.declared.trait_goals.upcasting.Upcast.{Upcast}
use Rattle.candidate_assembly.specs.Laws.BuiltinLaws.{nodes_fit}
use Rattle.candidate_assembly.proofs.Objects.ObjectClauses.{principal-among}
use Rattle.candidate_assembly.specs.Rules.DynBounds.{ArePrincipalSupers, AreSupersOf, bound_said, bounds_in, first_listed, is_principal, principal_in, region_in, same_number, trait_of_bound}
use Rattle.candidate_assembly.specs.Laws.SuperLaws.{Each}
use Rattle.candidate_assembly.proofs.Objects.SuperLaws.{filtered_each, principal_supers_back}
use Rattle.candidate_assembly.specs.Rules.Unsizing.{keeps_principal, outlives}
use Rattle.candidate_assembly.specs.Calls.Upcasting.{IsRuleClause, IsRulePred, IsUpcastOf, ServeAsSupers}
use Rattle.candidate_assembly.proofs.Unsizing.DynRequirements.{each-pred, region-still}
use Rattle.candidate_assembly.proofs.Objects.Elaborated.{IsFreeUnder, clauses-free, elaborated-under}
use Rattle.candidate_assembly.proofs.Objects.ElaboratedBelow.{IsDeclared, clause-declared, clauses-low, elaborated-low}
use Rattle.candidate_assembly.proofs.Upcasting.UpcastBounds.{clauses-same, preds-same, rule-clause-later, rule-preds-later}
use Rattle.candidate_assembly.specs.Rules.BuiltinRules.{pair_of}

-- That the one region outlives the other.

abbrev pub regions-clause : Vars → Region → Region → Binder ClauseKind
regions-clause v a b = record { vars = v; value = K.RegionOutlives a b }

pub regions-fits : (ts : List Tree) (v : Vars) (a b : Region) → IsVars ts v → IsRegion ts a → IsRegion ts b → ClauseFits ts (regions-clause v a b)
regions-fits ts v a b i k l = ap (λ x. x ∷ kind_at ts a.0 ∷ kind_at ts b.0 ∷ []) i ∙ (ap (λ x. BinderKind ∷ x ∷ kind_at ts b.0 ∷ []) k ∙ ap (λ x. BinderKind ∷ RegionKind ∷ x ∷ []) l)

pub regions-is : (ts : List Tree) (v : Vars) (a b : Region) → IsVars ts v → IsRegion ts a → IsRegion ts b → vars_tree ts v ≡ binder_tree []
    → clause_kind_tree ts (regions-clause v a b) ≡ outlives Cl.RegionOutlives (region_tree ts a) (region_tree ts b)
regions-is ts v a b i k l e =
    clause-over ts (regions-clause v a b) (regions-fits ts v a b i k l)
    ∙ (ap (over Cl.RegionOutlives (vars_tree ts v).children)
    (row-single ts a.0 RegionKind _ refl refl k ∙ ap (tree (region_tree ts a).head (region_tree ts a).children) (row-single ts b.0 RegionKind none refl refl l))
    ∙ ap (λ (x : Tree). over Cl.RegionOutlives x.children (pair_of (region_tree ts a) (region_tree ts b))) e)

regions-take-pair : (w : World) (vs : Forest) (a b : Tree) → kind_of a.head ≡ RegionKind → kind_of b.head ≡ RegionKind → Takes w (over Cl.RegionOutlives vs (pair_of a b))
regions-take-pair w vs a b k l = λ s. ap (λ (x : List Kind). Some (BinderKind ∷ x)) (ap (λ x. RegionKind ∷ x ∷ []) (sym l) ∙ ap (λ x. x ∷ kind_of b.head ∷ []) (sym k))

pub regions-takes : (c : Context) (v : Vars) (a b : Region) → IsVars c.trees v → IsRegion c.trees a → IsRegion c.trees b → vars_tree c.trees v ≡ binder_tree [] → Takes (world c) (clause_kind_tree c.trees (regions-clause v a b))
regions-takes c v a b i k l e =
    subst (Takes (world c)) (sym (regions-is c.trees v a b i k l e))
    (regions-take-pair (world c) none (region_tree c.trees a) (region_tree c.trees b) (kind-of c.trees a.0 RegionKind refl k) (kind-of c.trees b.0 RegionKind refl l))

-- The principal, as it was found in a context that is this one.
pub principal-found : (x c : Context) (bounds : List Pred) (type : Tree) (o p : Option Pred) → x ≡ c → map (pred_tree c.trees) bounds ≡ bounds_in type → option_map (pred_tree x.trees) o ≡ principal-among (map (pred_tree x.trees) bounds) → o ≡ p
    → principal_in type ≡ option_map (pred_tree c.trees) p
principal-found x c bounds type o p same are is e =
    sym (ap (option_map (pred_tree c.trees)) (sym e) ∙ (subst (λ (y : Context). option_map (pred_tree y.trees) o ≡ principal-among (map (pred_tree y.trees) bounds)) same is ∙ ap principal-among are))

-- The same as the trait that is read of a row of bounds.

abbrev pub IsPrincipal : Option TraitId → Option Tree → Type 0
IsPrincipal None None = Unit {0}
IsPrincipal (Some i) (Some p) = trait_of_bound p.head ≡ Some i.0
IsPrincipal _ _ = ⊥

principal-seen : (f : Forest) → IsPrincipal (principal_of f) (principal-among (each_of f))
principal-seen none = tt
principal-seen (tree (H.Part (P.Pred (PH.Trait i))) below rest) = refl
principal-seen (tree (H.Part (P.Pred (PH.Projection i))) below rest) = principal-seen rest
principal-seen (tree (H.Part (P.Pred (PH.AutoTrait i))) below rest) = principal-seen rest
principal-seen (tree (H.Part (P.Clause i)) below rest) = principal-seen rest
principal-seen (tree (H.Part P.Sig) below rest) = principal-seen rest
principal-seen (tree (H.Part P.Vars) below rest) = principal-seen rest
principal-seen (tree (H.Part (P.Var k)) below rest) = principal-seen rest
principal-seen (tree _ below rest) = principal-seen rest

pub principal-read : (t : Tree) (f : Forest) (o : Option TraitId) → bounds_in t ≡ each_of f → o ≡ principal_of f → IsPrincipal o (principal_in t)
principal-read t f o is e = subst (λ (x : Option TraitId). IsPrincipal x (principal_in t)) (sym e) (subst (λ (bs : List Tree). IsPrincipal (principal_of f) (principal-among bs)) (sym is) (principal-seen f))

pub keeps-none : (p q : Option Tree) → IsPrincipal None q → true ≡ keeps_principal p q
keeps-none p None w = refl
keeps-none p (Some q) w = absurd w

pub keeps-not : (i : TraitId) (p q : Option Tree) → IsPrincipal None p → IsPrincipal (Some i) q → false ≡ keeps_principal p q
keeps-not i None (Some q) w x = refl
keeps-not i None None w x = absurd x
keeps-not i (Some p) q w x = absurd w

pub keeps-same : (i j : TraitId) (p q : Option Tree) → IsPrincipal (Some i) p → IsPrincipal (Some j) q → (i.0 == j.0) ≡ keeps_principal p q
keeps-same i j (Some p) (Some q) e f = sym (ap (λ o. same_number o (trait_of_bound q.head)) e ∙ ap (same_number (Some i.0)) f)
keeps-same i j None q w x = absurd w
keeps-same i j (Some p) None w x = absurd x

-- What may stand in a rule.

module _ (n : ℕ) where
  each-stand : (f : Forest) → holds is_param f ≡ false → IsBelow n f → All (IsRuleTree n) (each_of f)
  each-stand none e l = All-nil (IsRuleTree n)
  each-stand (tree h below rest) e l =
      let p = holds_parts is_param h below rest e in
      let q = holds_parts (is_from n) h below rest l in
      All-cons (IsRuleTree n) (record { head = h; children = below }) (each_of rest)
      (record { no_parameter = unmarked is_param h below none p.here p.under refl; below = unmarked (is_from n) h below none q.here q.under refl }) (each-stand rest p.others q.others)

  pub bounds-stand : (t : Tree) → IsRuleTree n t → All (IsRuleTree n) (bounds_in t)
  bounds-stand t r =
      let p = holds_parts is_param t.head t.children none r.no_parameter in
      let q = holds_parts (is_from n) t.head t.children none r.below in
      each-stand (all_but_last t.children) (but-last-unmarked is_param t.children p.under) (but-last-unmarked (is_from n) t.children q.under)

  pub region-stands : (t : Tree) → IsRuleTree n t → IsRuleTree n (region_in t)
  region-stands t r =
      let p = holds_parts is_param t.head t.children none r.no_parameter in
      let q = holds_parts (is_from n) t.head t.children none r.below in
      record { no_parameter = last-unmarked is_param t.children refl p.under; below = last-unmarked (is_from n) t.children refl q.under }

  outlives-unmarked : (mark : Head → Bool) → ((p : PartHead) → mark (H.Part p) ≡ false) → (h : ClauseHead) (a b : Tree) → holds mark (alone a) ≡ false → holds mark (alone b) ≡ false → holds mark (alone (outlives h a b)) ≡ false
  outlives-unmarked mark parts h a b x y =
      let p = holds_parts mark a.head a.children none x in
      unmarked mark (H.Part (P.Clause h)) (tree (H.Part P.Vars) none (pair_of a b)) none (parts (P.Clause h))
      (unmarked mark (H.Part P.Vars) none (pair_of a b) (parts P.Vars) refl (unmarked mark a.head a.children (alone b) p.here p.under y)) refl

  pub outlives-stands : (h : ClauseHead) (a b : Tree) → IsRuleTree n a → IsRuleTree n b → IsRuleTree n (outlives h a b)
  outlives-stands h a b x y = record { no_parameter = outlives-unmarked is_param (λ p. refl) h a b x.no_parameter y.no_parameter; below = outlives-unmarked (is_from n) (λ p. refl) h a b x.below y.below }

  pub preds-stand : (ts : List Tree) (xs : List Pred) → All (IsPred ts) xs → All (IsRuleTree n) (map (pred_tree ts) xs) → All (IsRulePred ts n) xs
  preds-stand ts [] a b = All-nil (IsRulePred ts n)
  preds-stand ts (x ∷ xs) a b =
      All-cons (IsRulePred ts n) x xs (All-head (IsPred ts) x xs a, All-head (IsRuleTree n) (pred_tree ts x) (map (pred_tree ts) xs) b)
      (preds-stand ts xs (All-tail (IsPred ts) x xs a) (All-tail (IsRuleTree n) (pred_tree ts x) (map (pred_tree ts) xs) b))

  first-stands : (bs : List Tree) → All (IsRuleTree n) bs → IfSome (first_listed bs) (IsRuleTree n)
  first-stands [] a = tt
  first-stands (b ∷ bs) a = All-head (IsRuleTree n) b bs a

  pub principal-stands : (t b : Tree) → IsRuleTree n t → principal_in t ≡ Some b → IsRuleTree n b
  principal-stands t b r e = subst (λ (o : Option Tree). IfSome o (IsRuleTree n)) e (first-stands (filter (λ b. is_principal b.head) (bounds_in t)) (All-filter (λ b. is_principal b.head) (IsRuleTree n) (bounds_in t) (bounds-stand t r)))

  said-under : (mark : Head → Bool) (t b : Tree) → holds mark (alone t) ≡ false → holds mark (alone b) ≡ false → holds mark (under_binder (bound_said t b)) ≡ false
  said-under mark t b x y =
      let p = holds_parts mark t.head t.children none x in
      let q = holds_parts mark b.head b.children none y in
      unmarked mark t.head t.children (after_first b.children) p.here p.under (after-unmarked mark b.children q.under)

  abbrev Low : Tree → Type 0
  Low u = IsBelow n (under_binder u)

  seconds : (c : Context) (us : List Tree) → Each (λ v. IsDeclared c v.head × Low v) us → Each Low us
  seconds c [] a = tt
  seconds c (u ∷ us) a = (a.0.1, seconds c us a.1)

  -- the supertraits of a principal
  pub supers-stand : (mid new : Context) → IsWellFormedTable mid → IsWellFormedTable new → (type b : Tree) (x : Clause) (xs : List Clause) → clause_tree mid.trees x ≡ bound_said type b → IsRuleTree n type → IsRuleTree n b → ClauseListFits new.trees xs
      → AreSupertraits mid (clause_tree mid.trees x) (map (clause_tree new.trees) xs) → All (IsRuleClause new.trees n) xs
  supers-stand mid new t w type b x xs is r s fit supers =
      let u = clause_tree mid.trees x in
      let free : IsFreeUnder u = ap (λ (v : Tree). holds is_param (under_binder v)) is ∙ said-under is_param type b r.no_parameter s.no_parameter in
      let low : Low u = ap (λ (v : Tree). holds (is_from n) (under_binder v)) is ∙ said-under (is_from n) type b r.below s.below in
      let all-free = filtered_each IsFreeUnder _ supers.all (elaborated-under mid (u ∷ []) supers.all (free, tt) supers.elaborated) in
      let all-low = filtered_each Low _ supers.all (seconds mid supers.all (elaborated-low mid t n (u ∷ []) supers.all ((clause-declared mid t x, low), tt) supers.elaborated)) in
      let frees = clauses-free new w xs fit (subst (Each IsFreeUnder) (sym supers.are) all-free) in
      let lows = clauses-low new w n xs fit (subst (Each Low) (sym supers.are) all-low) in
      λ k d l. (IsClause-listed new.trees xs k d l fit, record { no_parameter = alone-unmarked is_param (clause_tree new.trees (get_or xs k d)) (frees k d l); below = lows k d l })

  -- So does the principal alone.
  pub alone-stands : (new : Context) → IsWellFormedTable new → (type b : Tree) (x : Clause) → clause_tree new.trees x ≡ bound_said type b → IsRuleTree n type → IsRuleTree n b → IsClause new.trees x → IsRuleClause new.trees n x
  alone-stands new w type b x is r s i =
      let u = clause_tree new.trees x in
      let fit : ClauseListFits new.trees (x ∷ []) = cc in
      let free : IsFreeUnder u = ap (λ (v : Tree). holds is_param (under_binder v)) is ∙ said-under is_param type b r.no_parameter s.no_parameter in
      let low : Low u = ap (λ (v : Tree). holds (is_from n) (under_binder v)) is ∙ said-under (is_from n) type b r.below s.below in
      let frees = clauses-free new w (x ∷ []) fit (free, tt) in
      let lows = clauses-low new w n (x ∷ []) fit (low, tt) in
      (i, record { no_parameter = alone-unmarked is_param u (frees 0 x (omega arith)); below = lows 0 x (omega arith) })

-- The supertraits, as they are listed.

pub dynamic-fits : (w : World) (t : Tree) → t.head ≡ H.Dynamic → FitsAmong w t → Fits w t.children
dynamic-fits w t e f = of (subst (λ (h : Head). let u : Tree = record { head = h; children = t.children } in FitsAmong w u) e f)
  where
    of : (let u : Tree = record { head = H.Dynamic; children = t.children } in FitsAmong w u) → Fits w t.children
    of g = g.1

pub supers-are : (old mid : Context) → IsWellFormedTable old → Grows old mid → (t : Ty) (b : Tree) (x : Clause) (ts : List Tree) → (let type = ty_tree old.trees t in type.head ≡ H.Dynamic → clause_tree mid.trees x ≡ bound_said type b
    → principal_in type ≡ Some b → AreSupertraits mid (clause_tree mid.trees x) ts → ArePrincipalSupers old type ts)
supers-are old mid w g t b x ts dynamic is found supers =
    let type = ty_tree old.trees t in
    let said = subst (λ (u : Tree). AreSupertraits mid u ts) is supers in
    (principal_supers_back old mid w g type (dynamic-fits (world old) type dynamic (fit-at (world old) old.trees (nodes_fit old w) t.0)) ts (subst (λ (p : Option Tree). AreSupersOf mid type p ts) (sym found) said)).0

pub no-supers-are : (c : Context) (type : Tree) (ts : List Tree) → principal_in type ≡ None → ts ≡ [] → ArePrincipalSupers c type ts
no-supers-are c type ts e f = subst (λ (p : Option Tree). AreSupersOf c type p ts) (sym e) f

-- Bounds, as they were read of a type.

pub parts-read : (x c : Context) (t : Ty) (p : Preds) (r : Region) → x ≡ c → bounds_in (ty_tree x.trees t) ≡ each_of (preds_forest x.trees p) → IsRegion x.trees r → region_in (ty_tree x.trees t) ≡ region_tree x.trees r
    → (bounds_in (ty_tree c.trees t) ≡ each_of (preds_forest c.trees p)) × IsRegion c.trees r × (region_in (ty_tree c.trees t) ≡ region_tree c.trees r)
parts-read x c t p r e a b d =
    subst (λ (y : Context). (bounds_in (ty_tree y.trees t) ≡ each_of (preds_forest y.trees p)) × IsRegion y.trees r × (region_in (ty_tree y.trees t) ≡ region_tree y.trees r)) e (a, b, d)

pub listed-bounds : (c : Context) (t : Ty) (p : Preds) (xs : List Pred) → bounds_in (ty_tree c.trees t) ≡ each_of (preds_forest c.trees p) → PredListFits c.trees xs × (pred_list_forest c.trees xs ≡ preds_forest c.trees p)
    → All (IsPred c.trees) xs × (map (pred_tree c.trees) xs ≡ bounds_in (ty_tree c.trees t))
listed-bounds c t p xs b f = (λ k d l. IsPred-listed c.trees xs k d l f.0, sym (each-pred c.trees xs f.0) ∙ (ap each_of f.1 ∙ sym b))

-- What was gathered.

pub between-is : (old mid new : Context) (u : Upcast) (from to : Tree) → Grows old mid → Grows mid new → All (IsPred old.trees) u.sources.items × (map (pred_tree old.trees) u.sources.items ≡ bounds_in from)
    → All (IsPred old.trees) u.targets.items × (map (pred_tree old.trees) u.targets.items ≡ bounds_in to) → ServeAsSupers old from to (map (clause_tree mid.trees) u.supers.items) → All (IsClause mid.trees) u.supers.items
    → ((n : ℕ) → IsRuleTree n from → All (IsRuleClause mid.trees n) u.supers.items) → IsClause new.trees u.outlives → clause_tree new.trees u.outlives ≡ outlives Cl.RegionOutlives (region_in from) (region_in to) → IsUpcastOf old new u from to
between-is old mid new u from to g h sources targets supers are stand i lives =
    let k = grows-trans old mid new g h in
    record {
      sources = preds-same old new k u.sources.items sources.0 ∙ sources.1;
      targets = preds-same old new k u.targets.items targets.0 ∙ targets.1;
      supers = subst (λ (ts : List Tree). ServeAsSupers old from to ts) (sym (clauses-same mid new h u.supers.items are)) supers;
      outlives = lives;
      may_stand = λ n r s. record {
        sources = rule-preds-later old new k n n (omega arith) u.sources.items (preds-stand n old.trees u.sources.items sources.0 (subst (All (IsRuleTree n)) (sym sources.1) (bounds-stand n from r)));
        targets = rule-preds-later old new k n n (omega arith) u.targets.items (preds-stand n old.trees u.targets.items targets.0 (subst (All (IsRuleTree n)) (sym targets.1) (bounds-stand n to s)));
        supers = λ a d l. rule-clause-later mid new h n n (omega arith) (get_or u.supers.items a d) (stand n r a d l);
        outlives = (i, subst (IsRuleTree n) (sym lives) (outlives-stands n Cl.RegionOutlives (region_in from) (region_in to) (region-stands n from r) (region-stands n to s)));
      };
    }

-- The clause of both regions, as they were read.
pub lives-read : (old mid : Context) (a b : Region) (from to : Tree) (t : Tree) → Grows old mid → IsRegion old.trees a → IsRegion old.trees b → region_in from ≡ region_tree old.trees a → region_in to ≡ region_tree old.trees b
    → t ≡ outlives Cl.RegionOutlives (region_tree mid.trees a) (region_tree mid.trees b) → t ≡ outlives Cl.RegionOutlives (region_in from) (region_in to)
lives-read old mid a b from to t g i j x y e =
    e ∙ (ap (λ (z : Tree). outlives Cl.RegionOutlives z (region_tree mid.trees b)) ((region-still old mid a g i).1 ∙ sym x) ∙ ap (outlives Cl.RegionOutlives (region_in from)) ((region-still old mid b g j).1 ∙ sym y))
