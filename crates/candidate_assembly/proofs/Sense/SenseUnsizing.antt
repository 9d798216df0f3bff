-- The rules of unsizing for a goal of a state and a target that is of it too, where both types take the children that they have: their trees
-- are of the state.
use Rattle.std.proofs.Common.{◌≡◌, ◌+◌, ◌==◌, ◌++◌, ℕ, suc, Bool, true, false, Option, Some, None, List, [], ◌∷◌, map, length, refl, sym, ap, subst, if◌then◌else◌}
use Rattle.std.specs.List.{All, filter}
use Rattle.std.specs.Prelude.{◌&&◌, IfSome}
use Rattle.std.proofs.lemmas.List.Elements.{All-append, All-cons, All-head, All-nil, All-tail}
use Rattle.ir_trees.specs.declared.decl.contents.LangItem.TheVariants as Item
use Rattle.ir_trees.specs.declared.ir.heads.Builtin.TheVariants as B
use Rattle.ir_trees.specs.declared.ir.heads.ClauseHead.{ClauseHead}
use Rattle.ir_trees.specs.declared.ir.heads.ClauseHead.TheVariants as Cl
use Rattle.ir_trees.specs.declared.ir.heads.Head.{Head}
use Rattle.ir_trees.specs.declared.ir.heads.Head.TheVariants as H
use Rattle.ir_trees.specs.declared.ir.heads.PartHead.TheVariants as P
use Rattle.ir_trees.specs.declared.ir.heads.PredHead.TheVariants as PH
use Rattle.ir_trees.specs.declared.ir.heads.VariableSort.{VariableSort}
use Rattle.ir_trees.specs.declared.ir.heads.VariableSort.TheVariants as V
use Rattle.ir_trees.specs.declared.ir.kinds.AdtId.{AdtId}
use Rattle.ir_trees.specs.declared.ir.kinds.GoalSource.TheVariants.{ImplWhereBound, Misc}
use Rattle.ir_trees.specs.declared.ir.kinds.PredicatePolarity.TheVariants as Pol
use Rattle.ir_trees.specs.declared.ir.kinds.TraitId.{TraitId}
use Rattle.ir_trees.specs.Syntax.Binders.{escapes}
use Rattle.ir_trees.specs.Declarations.Context.{Context, world}
use Rattle.ir_trees.specs.Declarations.Lookups.{adt_shape, definition}
use Rattle.ir_trees.specs.Declarations.Worlds.{Fits}
use Rattle.ir_trees.specs.Hierarchy.Elaboration.{number_listed}
use Rattle.ir_trees.specs.Hierarchy.Supers.{after_first}
use Rattle.ir_trees.specs.Syntax.Nodes.{error_tree}
use Rattle.ir_trees.specs.Unification.Substitutions.{alone}
use Rattle.ir_trees.specs.Syntax.Trees.{Forest, Tree, binders_of, none, tree}
use Rattle.ir_trees.specs.Validity.WellFormed.{IsWellFormedTable}
use Rattle.candidate_eval.specs.declared.eval.source.BuiltinImplSource.TheVariants.{TraitUpcasting}
use Rattle.candidate_eval.specs.declared.eval.source.CandidateSource.{CandidateSource}
use Rattle.candidate_eval.specs.declared.eval.source.CandidateSource.TheVariants.{BuiltinImpl}
use Rattle.candidate_eval.specs.Builtins.Callable.{last_tree}
use Rattle.candidate_eval.specs.Builtins.Tables.{field_types, last_of}
use Rattle.candidate_eval.specs.Derivations.ImplRules.{TraitGoal}
use Rattle.candidate_eval.specs.Derivations.Rules.{Rule, Step, Upcast, enter, equate, fresh, nested, nested_misc, pick, refuse, settle}
use Rattle.candidate_eval.specs.Dynamic.ObjectRequirements.{first_tree}
use Rattle.candidate_eval.specs.Dynamic.Replacing.{first_or, without_first}
use Rattle.candidate_eval.specs.Judges.Soundness.{AreTreesOf, Live, is_strange}
use Rattle.candidate_eval.specs.Judges.States.{State}
use Rattle.candidate_eval.proofs.Marks.Closed.{after-closed, closed, closed-parts, last-closed}
use Rattle.candidate_eval.proofs.Marks.Holds.{holds_parts}
use Rattle.candidate_eval.proofs.Marks.Marking.{after-unmarked, last-unmarked, unmarked}
use Rattle.candidate_assembly.specs.declared.trait_goals.unsizing_rows.UnsizingRow.{UnsizingRow}
use Rattle.candidate_assembly.specs.declared.trait_goals.unsizing_rows.UnsizingRow.TheVariants as R
use Rattle.candidate_assembly.specs.Goals.TraitGoals.{item_trait}
use Rattle.candidate_assembly.specs.Laws.Given.{IsCounted}
use Rattle.candidate_assembly.specs.Laws.SuperLaws.{Each}
use Rattle.candidate_assembly.proofs.Objects.SuperLaws.{filtered_each}
use Rattle.candidate_assembly.specs.Rules.BuiltinRules.{ambiguous_rule, meets, misc, pair_of, self_of}
use Rattle.candidate_assembly.specs.Rules.DynBounds.{ArePrincipalSupers, bound_said, bounds_in, first_listed, is_dynamic, principal_in, projects, region_in, same_number, trait_of_bound}
use Rattle.candidate_assembly.specs.Rules.Unsizing.{AreSupersIf, AreUnsizingSupers, Met, any_to_dyn, array_to_slice, autos, bound_match, bound_met, bound_row, bounds_met, dyn_to_dyn, is_array, is_struct, keeps_principal, kinds_bound, met_by, mixed, outlives, principal_met, principal_steps, row_to_adt, row_to_variable, rules_of_row, struct_to_struct, tail_of, tail_unsizes, trait_row, unmet, unsizing_parameters, unsizing_row, unsizing_rules, upcast_rule, upcasts}
use Rattle.candidate_assembly.proofs.Sense.Sense.{MatchIsOf, StepIsOf, StepsAreOf}
use Rattle.candidate_assembly.proofs.Sense.SenseLanguage.{before-under, clauses-added, holds-trees, meets-trees}
use Rattle.candidate_assembly.proofs.Sense.SenseNames.{named-from}
use Rattle.candidate_assembly.proofs.Sense.SenseParts.{IsUnderOne, below-plain, fields-of, under-one}
use Rattle.candidate_assembly.proofs.Sense.SenseProved.{first-trees}
use Rattle.candidate_assembly.proofs.Sense.SenseRules.{RuleIsOf}
use Rattle.candidate_assembly.proofs.Sense.SenseSupers.{IsBoundOf, IsClauseOf, bounds-are, principal-supers-of, said-of}

-- What holds of the rules of each row holds of the rules of unsizing.
pub of-rows : (P : List Rule → Type 0) (c : Context) (supers : List Tree) (g : TraitGoal) (to : Tree) → P (ambiguous_rule g true ∷ []) → P (dyn_to_dyn c supers g (self_of g) to)
    → P (any_to_dyn c g (self_of g) to (item_trait c Item.Sized)) → P (array_to_slice g (self_of g) to ∷ []) → ((n : ℕ) → P (struct_to_struct c g n (self_of g) to ∷ [])) → P [] → P (unsizing_rules c supers g to)
of-rows P c supers g to ambiguous upcast any array struct nothing = of (unsizing_row (self_of g).head to.head)
  where
    of_struct : (n : ℕ) (b : Bool) → P (if b then struct_to_struct c g n (self_of g) to ∷ [] else [])
    of_struct n true = struct n
    of_struct n false = nothing

    of : (r : UnsizingRow) → P (rules_of_row c supers g (self_of g) to r)
    of R.Ambiguous = ambiguous
    of R.DynToDyn = upcast
    of R.ToDyn = any
    of R.ArrayToSlice = array
    of (R.Struct i) = of_struct i.0 (is_struct (adt_shape (definition c i.0)))
    of R.Nothing = nothing

-- Which row there is says of the heads what binds nothing.

data RowOf (h g : Head) : UnsizingRow → Type 0 where
  ambiguous : RowOf h g R.Ambiguous
  dyn_to : is_dynamic h ≡ true → is_dynamic g ≡ true → RowOf h g R.DynToDyn
  any_to : is_dynamic g ≡ true → RowOf h g R.ToDyn
  array_to : binders_of h ≡ 0 → binders_of g ≡ 0 → RowOf h g R.ArrayToSlice
  struct_to : (i : AdtId) → binders_of h ≡ 0 → binders_of g ≡ 0 → RowOf h g (R.Struct i)
  nothing : RowOf h g R.Nothing

dynamic-plain : (h : Head) → is_dynamic h ≡ true → binders_of h ≡ 0
dynamic-plain H.Dynamic e = refl
dynamic-plain _ e = absurd cc

array-plain : (h : Head) → is_array h ≡ true → binders_of h ≡ 0
array-plain (H.Builtin B.Array) e = refl
array-plain _ e = absurd cc

row-of : (h g : Head) → RowOf h g (unsizing_row h g)
row-of h (H.Infer v) = of v.sort
  where
    of : (s : VariableSort) → RowOf h (H.Infer v) (row_to_variable s)
    of V.General = ambiguous
    of _ = nothing
row-of h H.Dynamic = of (is_dynamic h) refl
  where
    of : (b : Bool) → is_dynamic h ≡ b → RowOf h H.Dynamic (if b then R.DynToDyn else R.ToDyn)
    of true e = dyn_to e refl
    of false e = any_to refl
row-of h (H.Builtin B.Slice) = of (is_array h) refl
  where
    of : (b : Bool) → is_array h ≡ b → RowOf h (H.Builtin B.Slice) (if b then R.ArrayToSlice else R.Nothing)
    of true e = array_to (array-plain h e) refl
    of false e = nothing
row-of h (H.Adt j) = of h
  where
    same : (i : AdtId) (b : Bool) → RowOf (H.Adt i) (H.Adt j) (if b then R.Struct i else R.Nothing)
    same i true = struct_to i refl refl
    same i false = nothing

    of : (h : Head) → RowOf h (H.Adt j) (row_to_adt h j)
    of (H.Adt i) = same i (i.0 == j.0)
    of _ = nothing
row-of h _ = nothing

module _ (S : State) (L : Live) where
  abbrev IsTree : Tree → Type 0
  IsTree t = AreTreesOf S L (alone t)

  last-tree : (ts : Forest) → AreTreesOf S L ts → IsTree (last_tree ts)
  last-tree ts a = record { known = last-unmarked (is_strange S L) ts refl a.known; is_closed = last-closed 0 ts a.is_closed }

  pub after-trees : (ts : Forest) → AreTreesOf S L ts → AreTreesOf S L (after_first ts)
  after-trees ts a = record { known = after-unmarked (is_strange S L) ts a.known; is_closed = after-closed 0 ts a.is_closed }

  outlives-trees : (h : ClauseHead) (t u : Tree) → IsTree t → IsTree u → IsTree (outlives h t u)
  outlives-trees h t u a b =
      let mark = is_strange S L in
      let row = pair_of t u in
      let pair = before-under S L t (alone u) (under-one S L (alone t) a) (under-one S L (alone u) b) in
      let c = H.Part (P.Clause h) in
      let v = H.Part P.Vars in
      record {
        known = unmarked mark c (tree v none row) none refl (unmarked mark v none row refl refl pair.known) refl;
        is_closed = closed 0 c (tree v none row) none refl (closed 1 v none row refl refl pair.is_closed) refl;
      }

  -- arguments taken over from the second
  mixed-trees : (changed : List ℕ) (n : ℕ) (ts us : Forest) → AreTreesOf S L ts → AreTreesOf S L us → AreTreesOf S L (mixed changed n ts us)
  mixed-trees changed n none us a b = record { known = refl; is_closed = refl }
  mixed-trees changed n (tree h x rest) none a b = record { known = refl; is_closed = refl }
  mixed-trees changed n (tree h x rest) (tree g y more) a b =
      let mark = is_strange S L in
      let p = holds_parts mark h x rest a.known in
      let q = closed-parts 0 h x rest a.is_closed in
      let k = holds_parts mark g y more b.known in
      let l = closed-parts 0 g y more b.is_closed in
      of (number_listed changed n) (record { known = unmarked mark g y none k.here k.under refl; is_closed = closed 0 g y none l.here l.under refl })
      (record { known = unmarked mark h x none p.here p.under refl; is_closed = closed 0 h x none q.here q.under refl })
      (mixed-trees changed (suc n) rest more (record { known = p.others; is_closed = q.others }) (record { known = k.others; is_closed = l.others }))
    where
      of : (b : Bool) → IsTree (record { head = g; children = y }) → IsTree (record { head = h; children = x }) → AreTreesOf S L (mixed changed (suc n) rest more)
          → AreTreesOf S L (let t : Tree = if b then record { head = g; children = y } else record { head = h; children = x } in tree t.head t.children (mixed changed (suc n) rest more))
      of true first second others =
          let p = holds_parts (is_strange S L) g y none first.known in
          let q = closed-parts 0 g y none first.is_closed in
          record { known = unmarked (is_strange S L) g y (mixed changed (suc n) rest more) p.here p.under others.known; is_closed = closed 0 g y (mixed changed (suc n) rest more) q.here q.under others.is_closed }
      of false first second others =
          let p = holds_parts (is_strange S L) h x none second.known in
          let q = closed-parts 0 h x none second.is_closed in
          record { known = unmarked (is_strange S L) h x (mixed changed (suc n) rest more) p.here p.under others.known; is_closed = closed 0 h x (mixed changed (suc n) rest more) q.here q.under others.is_closed }

  last-has : (Q : Tree → Type 0) (xs : List Tree) → Q error_tree → All Q xs → Q (first_or error_tree (last_of xs))
  last-has Q [] e all = e
  last-has Q (x ∷ []) e all = All-head Q x [] all
  last-has Q (x ∷ (y ∷ ys)) e all = last-has Q (y ∷ ys) e (All-tail Q x (y ∷ ys) all)

  all-of-each : (Q : Tree → Type 0) (xs : List Tree) → Each Q xs → All Q xs
  all-of-each Q [] a = All-nil Q
  all-of-each Q (x ∷ xs) a = All-cons Q x xs a.0 (all-of-each Q xs a.1)

  -- Bounds that are met.

  met-if : (b : Bool) (x y : Met) → StepsAreOf S L x.steps → StepsAreOf S L y.steps → StepsAreOf S L (if b then x else y).steps
  met-if true x y a b = a
  met-if false x y a b = b

  none-matches : (n : ℕ) → StepsAreOf S L (unmet n).steps
  none-matches n = All-cons (StepIsOf S L) refuse [] (All-nil (MatchIsOf S L)) (All-nil (StepIsOf S L))

  principal-met : (n : ℕ) (o : Option Tree) (target : Tree) → IfSome o (IsClauseOf S L) → IsBoundOf S L target → StepsAreOf S L (principal_met n o target).steps
  principal-met n None target s b = none-matches n
  principal-met n (Some source) target s b =
      let P = StepIsOf S L in
      let m = n + length (kinds_bound target) in
      let left = after-trees (bound_row m source) (named-from S L m source s.tree) in
      let right = named-from S L n target b.tree in
      let e : Step = equate (trait_row m source) (bound_row n target) in
      met-if (same_number (trait_of_bound source.head) (trait_of_bound target.head)) (met_by (principal_steps n source target) (n + length (kinds_bound target) + length (kinds_bound source))) (unmet n)
      (All-cons P (enter (kinds_bound target)) (fresh (kinds_bound source) ∷ e ∷ settle ∷ []) tt
      (All-cons P (fresh (kinds_bound source)) (e ∷ settle ∷ []) tt (All-cons P e (settle ∷ []) (left, right) (All-cons P settle [] tt (All-nil P)))))
      (none-matches n)

  matches-are : (n : ℕ) (target : Tree) (sources : List Tree) → IsBoundOf S L target → Each (IsBoundOf S L) sources → All (MatchIsOf S L) (map (bound_match n target) sources)
  matches-are n target [] b s = All-nil (MatchIsOf S L)
  matches-are n target (x ∷ xs) b s =
      let m = n + length (kinds_bound target) in
      let own = named-from S L m x s.0.tree in
      All-cons (MatchIsOf S L) (bound_match n target x) (map (bound_match n target) xs) (record { left = own; right = named-from S L n target b.tree; term = last-tree (bound_row m x) own })
      (matches-are n target xs b s.1)

  module _ (c : Context) (supers sources : List Tree) (principal : Option Tree) (said : IfSome principal (IsClauseOf S L)) (bounds : Each (IsBoundOf S L) sources) where
    bound-met : (n : ℕ) (target : Tree) (h : Head) → IsBoundOf S L target → StepsAreOf S L (bound_met c supers sources principal n target h).steps
    bound-met n target (H.Part (P.Pred (PH.Trait i))) b = principal-met n principal target said b
    bound-met n target (H.Part (P.Pred (PH.Projection i))) b =
        let xs = filter (λ x. projects i.0 x.head) sources in
        All-cons (StepIsOf S L) (pick Upcast (map (bound_match n target) xs)) [] (matches-are n target xs b (filtered_each (IsBoundOf S L) (λ x. projects i.0 x.head) sources bounds)) (All-nil (StepIsOf S L))
    bound-met n target (H.Part (P.Pred (PH.AutoTrait i))) b = met-if (number_listed (autos c supers sources) i.0) (met_by [] n) (unmet n) (All-nil (StepIsOf S L)) (none-matches n)
    bound-met n target _ b = none-matches n

    bounds-met : (n : ℕ) (bs : List Tree) → Each (IsBoundOf S L) bs → StepsAreOf S L (bounds_met c supers sources principal n bs)
    bounds-met n [] a = All-nil (StepIsOf S L)
    bounds-met n (b ∷ bs) a =
        let m = bound_met c supers sources principal n b b.head in
        All-append (StepIsOf S L) m.steps (bounds_met c supers sources principal m.next bs) (bound-met n b b.head a.0) (bounds-met m.next bs a.1)

  said-all : (from : Tree) (bs : List Tree) → IsTree from → Each (IsBoundOf S L) bs → All IsTree (map (bound_said from) bs)
  said-all from [] a b = All-nil IsTree
  said-all from (x ∷ xs) a b = All-cons IsTree (bound_said from x) (map (bound_said from) xs) (said-of S L from x a b.0).tree (said-all from xs a b.1)

  module _ (g : TraitGoal) (env : AreTreesOf S L g.env) (arguments : AreTreesOf S L g.reference.arguments) (to : Tree) (target : AreTreesOf S L (alone to)) where
    abbrev from : Tree
    from = self_of g

    self : IsTree from
    self = first-trees S L g.reference.arguments arguments

    abbrev RulesAre : List Rule → Type 0
    RulesAre rs = All (RuleIsOf S L) rs

    just-one : (r : Rule) → RuleIsOf S L r → RulesAre (r ∷ [])
    just-one r a = All-cons (RuleIsOf S L) r [] a (All-nil (RuleIsOf S L))

    array-is-of : binders_of from.head ≡ 0 → binders_of to.head ≡ 0 → RuleIsOf S L (array_to_slice g from to)
    array-is-of a b =
        let x = first-trees S L from.children (below-plain S L from a self) in
        let y = first-trees S L to.children (below-plain S L to b target) in
        let e : Step = equate (alone (first_tree from.children)) (alone (first_tree to.children)) in
        record { env = env; steps = All-cons (StepIsOf S L) e [] (x, y) (All-nil (StepIsOf S L)); ending = tt }

    module _ (c : Context) (w : IsWellFormedTable c) (few : IsCounted c) where
      tail-under : (n : ℕ) (args : Forest) → AreTreesOf S L args → IsUnderOne S L (tail_of c n args)
      tail-under n args a = last-has (IsUnderOne S L) (field_types c n args) (record { known = refl; is_closed = refl }) (fields-of S L c w few.adts n args a)

      struct-is-of : (n : ℕ) → binders_of from.head ≡ 0 → binders_of to.head ≡ 0 → RuleIsOf S L (struct_to_struct c g n from to)
      struct-is-of n a b =
          let mark = is_strange S L in
          let xs = below-plain S L from a self in
          let ys = below-plain S L to b target in
          let row = mixed (unsizing_parameters c n) 0 from.children to.children in
          let both = mixed-trees (unsizing_parameters c n) 0 from.children to.children xs ys in
          let p = holds_parts mark from.head from.children none self.known in
          let q = closed-parts 0 from.head from.children none self.is_closed in
          let t : Tree = record { head = from.head; children = row } in
          let mix : IsTree t = record {
            known = unmarked mark from.head row none p.here both.known refl;
            is_closed = closed 0 from.head row none q.here (subst (λ m. escapes m row ≡ false) (sym (ap (λ m. 0 + m) a)) both.is_closed) refl;
          } in
          let first = tail_of c n from.children in
          let second = tail_of c n to.children in
          let pair = before-under S L first (alone second) (tail-under n from.children xs) (tail-under n to.children ys) in
          let tail : IsTree (tail_unsizes c g n from to) = holds-trees S L (record { 0 = g.reference.trait }) Pol.Positive (pair_of first second) pair in
          let e : Step = equate (alone t) (alone to) in
          record {
            env = env;
            steps = All-cons (StepIsOf S L) e (nested (tail_unsizes c g n from to ∷ [])) (mix, target)
                (clauses-added S L ImplWhereBound (tail_unsizes c g n from to ∷ []) (All-cons IsTree (tail_unsizes c g n from to) [] tail (All-nil IsTree)));
            ending = tt;
          }

      struct-if : (n : ℕ) (b : Bool) → binders_of from.head ≡ 0 → binders_of to.head ≡ 0 → RulesAre (if b then struct_to_struct c g n from to ∷ [] else [])
      struct-if n true x y = just-one (struct_to_struct c g n from to) (struct-is-of n x y)
      struct-if n false x y = All-nil (RuleIsOf S L)

      module _ (fits : Fits (world c) (pair_of from to)) where
        to-bounds : is_dynamic to.head ≡ true → Each (IsBoundOf S L) (bounds_in to)
        to-bounds d = bounds-are S L (world c) to d fits.2 (below-plain S L to (dynamic-plain to.head d) target)

        from-bounds : is_dynamic from.head ≡ true → Each (IsBoundOf S L) (bounds_in from)
        from-bounds d = bounds-are S L (world c) from d (fits.0, fits.1, tt) (below-plain S L from (dynamic-plain from.head d) self)

        region-of : (t : Tree) → is_dynamic t.head ≡ true → IsTree t → IsTree (region_in t)
        region-of t d a = last-tree t.children (below-plain S L t (dynamic-plain t.head d) a)

        any-is-of : (o : Option TraitId) → is_dynamic to.head ≡ true → RulesAre (any_to_dyn c g from to o)
        any-is-of None d = All-nil (RuleIsOf S L)
        any-is-of (Some sized) d =
            let P = StepIsOf S L in
            let said = map (bound_said from) (bounds_in to) in
            let last = outlives Cl.TypeOutlives from (region_in to) in
            let one : All IsTree (meets sized from ∷ []) = All-cons IsTree (meets sized from) [] (meets-trees S L sized from (under-one S L (alone from) self)) (All-nil IsTree) in
            let clauses = All-append IsTree said (meets sized from ∷ []) (said-all from (bounds_in to) self (to-bounds d)) one in
            let outlived : All IsTree (last ∷ []) = All-cons IsTree last [] (outlives-trees Cl.TypeOutlives from (region_in to) self (region-of to d target)) (All-nil IsTree) in
            All-cons (RuleIsOf S L) _ []
            (record {
              env = env;
              steps = All-append P (nested (said ++ meets sized from ∷ [])) (nested_misc (last ∷ [])) (clauses-added S L ImplWhereBound (said ++ meets sized from ∷ []) clauses) (clauses-added S L Misc (last ∷ []) outlived);
              ending = tt;
            }) (All-nil (RuleIsOf S L))

        module _ (supers : List Tree) (d : is_dynamic from.head ≡ true) (e : is_dynamic to.head ≡ true) (are : Each (IsClauseOf S L) supers) where
          upcast-is-of : (s : CandidateSource) (o : Option Tree) → IfSome o (IsClauseOf S L) → RuleIsOf S L (upcast_rule c supers g s from to o)
          upcast-is-of s o said =
              let P = StepIsOf S L in
              let last = outlives Cl.RegionOutlives (region_in from) (region_in to) in
              let met = bounds_met c supers (bounds_in from) o 0 (bounds_in to) in
              let outlived : All IsTree (last ∷ []) = All-cons IsTree last [] (outlives-trees Cl.RegionOutlives (region_in from) (region_in to) (region-of from d self) (region-of to e target)) (All-nil IsTree) in
              record {
                env = env;
                steps = All-append P met (nested (last ∷ [])) (bounds-met c supers (bounds_in from) o said (from-bounds d) 0 (bounds_in to) (to-bounds e)) (clauses-added S L ImplWhereBound (last ∷ []) outlived);
                ending = tt;
              }

          upcasts-are : (n : ℕ) (ts : List Tree) → Each (IsClauseOf S L) ts → RulesAre (upcasts c supers g from to n ts)
          upcasts-are n [] a = All-nil (RuleIsOf S L)
          upcasts-are n (t ∷ ts) a =
              All-cons (RuleIsOf S L) (upcast_rule c supers g (BuiltinImpl (TraitUpcasting n)) from to (Some t)) (upcasts c supers g from to (suc n) ts) (upcast-is-of (BuiltinImpl (TraitUpcasting n)) (Some t) a.0)
              (upcasts-are (suc n) ts a.1)

          first-super : (ts : List Tree) → Each (IsClauseOf S L) ts → IfSome (first_listed ts) (IsClauseOf S L)
          first-super [] a = tt
          first-super (t ∷ ts) a = a.0

          others : (ts : List Tree) → Each (IsClauseOf S L) ts → Each (IsClauseOf S L) (without_first ts)
          others [] a = tt
          others (t ∷ ts) a = a.1

          dyn-are : RulesAre (dyn_to_dyn c supers g from to)
          dyn-are = of (keeps_principal (principal_in from) (principal_in to))
            where
              of : (b : Bool) → RulesAre (if b then upcast_rule c supers g misc from to (first_listed supers) ∷ [] else upcasts c supers g from to 1 (without_first supers))
              of true = just-one (upcast_rule c supers g misc from to (first_listed supers)) (upcast-is-of misc (first_listed supers) (first-super supers are))
              of false = upcasts-are 1 (without_first supers) (others supers are)

        row-are : (supers : List Tree) → AreUnsizingSupers c from to supers → (r : UnsizingRow) → RowOf from.head to.head r → RulesAre (rules_of_row c supers g from to r)
        row-are supers s _ ambiguous = just-one (ambiguous_rule g true) (record { env = env; steps = All-nil (StepIsOf S L); ending = tt })
        row-are supers s _ (dyn_to d e) =
            let both : (is_dynamic from.head && is_dynamic to.head) ≡ true = rw (d, e) refl in
            let asked : ArePrincipalSupers c from supers = subst (λ b. AreSupersIf b c from supers) both s in
            dyn-are supers d e (principal-supers-of S L c w few from supers self (from-bounds d) asked)
        row-are supers s _ (any_to e) = any-is-of (item_trait c Item.Sized) e
        row-are supers s _ (array_to a b) = just-one (array_to_slice g from to) (array-is-of a b)
        row-are supers s _ (struct_to i a b) = struct-if i.0 (is_struct (adt_shape (definition c i.0))) a b
        row-are supers s _ nothing = All-nil (RuleIsOf S L)

        -- each rule of unsizing
        pub unsizing-are-of : (supers : List Tree) → AreUnsizingSupers c from to supers → All (RuleIsOf S L) (unsizing_rules c supers g to)
        unsizing-are-of supers s = row-are supers s (unsizing_row from.head to.head) (row-of from.head to.head)
