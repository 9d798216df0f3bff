-- Of a goal of a trait that stands at a state, what is required of an object makes up a rule wherever no parameter stands in it: so each answer to
-- a clause of the object's own is what the judge says to one rule.
use Rattle.std.proofs.Common.{◌≡◌, ◌≤◌, ℕ, Bool, true, false, Option, Some, None, List, [], ◌∷◌, All, ap, arith, length, refl, subst, sym, ◌∙◌}
use Rattle.std.specs.List.{Contains}
use Rattle.std.proofs.lemmas.List.Elements.{All-cons, All-head, All-nil, All-tail}
use Rattle.ir_trees.specs.Declarations.Context.{Context, world}
use Rattle.ir_trees.specs.Declarations.Declaring.{no_place}
use Rattle.ir_trees.specs.Hierarchy.Supers.{after_first}
use Rattle.ir_trees.specs.Instantiation.Opening.{opened}
use Rattle.ir_trees.specs.Syntax.Binders.{escapes}
use Rattle.ir_trees.specs.Syntax.Trees.{Forest, Kind, Tree, count, holds, is_param, none}
use Rattle.ir_trees.specs.Unification.Substitutions.{alone}
use Rattle.ir_trees.specs.Unification.Unify.{may_unify}
use Rattle.ir_trees.specs.declared.ir.unify.RightSide.TheVariants as R
use Rattle.ir_trees.specs.Instantiation.Folding.{substituted}
use Rattle.ir_trees.specs.Validity.WellFormed.{IsWellFormedTable}
use Rattle.candidate_eval.specs.Builtins.Callable.{all_but_last}
use Rattle.candidate_eval.specs.Derivations.Characterization.{bound_kinds}
use Rattle.candidate_eval.specs.Derivations.ImplRules.{TraitGoal}
use Rattle.candidate_eval.specs.Derivations.Judging.{At, Judged, Place, Refused, at_if, go_on, judged, made_fresh, put_in, reached, run, start, with_goals}
use Rattle.candidate_eval.specs.Derivations.Naming.{named_clause}
use Rattle.candidate_eval.specs.Derivations.Rules.{equate, fresh}
use Rattle.candidate_eval.specs.Dynamic.ObjectRequirements.{first_tree, fresh_arguments}
use Rattle.candidate_eval.specs.Dynamic.ObjectRules.{IsRuleAt, IsRuleTree}
use Rattle.candidate_eval.specs.Dynamic.Required.{AreRequirements, own_bounds}
use Rattle.candidate_eval.specs.Judges.Lawful.{Lawful}
use Rattle.candidate_eval.specs.Judges.Soundness.{AreTreesOf, Live}
use Rattle.candidate_eval.specs.Judges.States.{Env, Judge, Pending, State, fresh_variables, next}
use Rattle.candidate_assembly.specs.Goals.Standing.{StandsWithPending}
use Rattle.candidate_assembly.specs.Goals.TraitGoals.{match_trait}
use Rattle.candidate_assembly.specs.Goals.TraitRules.{trait_rules}
use Rattle.candidate_assembly.specs.Laws.Matching.{match_below}
use Rattle.candidate_assembly.proofs.Objects.ObjectLaws.{has_dynamic}
use Rattle.candidate_assembly.specs.Laws.SuperLaws.{Each, IsFitting}
use Rattle.candidate_assembly.specs.Rules.DynBounds.{ArePrincipalSupers, is_dynamic}
use Rattle.candidate_assembly.specs.Rules.ObjectBounds.{ObjectJudged, OwnClause, has_own_clauses, object_bounds, object_rule, own_clauses, reference_by, trait_by, width}
use Rattle.candidate_assembly.specs.Rules.ObjectRule.{IsAskedAfter, IsJudgedByRule, IsRequired, MakesUpRule}
use Rattle.candidate_assembly.proofs.Goals.Standing.{known-below}
use Rattle.candidate_assembly.proofs.Objects.ObjectRuleHere.{judged-at-first}
use Rattle.candidate_assembly.proofs.Objects.ObjectRuling.{judged-by-rule, kinds-by}
use Rattle.candidate_assembly.proofs.Sense.Sense.{MakesSense, run-makes, start-makes, trees-join, trees-stay}
use Rattle.candidate_assembly.proofs.Sense.SenseBounds.{alike-stands}
use Rattle.candidate_assembly.proofs.Sense.SenseClauses.{IsClauseOf, bounds-of-type, clause-stays-of, own-bounds-of}
use Rattle.candidate_assembly.proofs.Sense.SenseFree.{IsFree, first-free, instance-free, own-bounds-free, own-free}
use Rattle.candidate_assembly.proofs.Sense.SenseKinds.{match-steps}
use Rattle.candidate_assembly.proofs.Sense.SenseLater.{later-itself}
use Rattle.candidate_assembly.proofs.Sense.SenseObjects.{clauses-terms, reference-of}
use Rattle.candidate_assembly.proofs.Sense.SensePicks.{IsTerm, StandsAfter, fresh-moves, instance-of}
use Rattle.candidate_assembly.proofs.Sense.SenseProved.{first-trees}
use Rattle.candidate_assembly.proofs.Sense.SenseRequired.{own-clause-of, required-of}
use Rattle.candidate_assembly.proofs.Upcasting.UpcastMatches.{count-fresh}

-- A match of a trait makes the variables of its clause and no others.
module _ (J : Judge) (e : Env) (g : TraitGoal) (T : State) (t : Tree) (p : Place) where
  abbrev ks : List Kind
  ks = bound_kinds t.children

  abbrev with-variables : Place
  with-variables = made_fresh (start T) ks

  abbrev named : Forest
  named = after_first (named_clause 0 t).children

  pub match-count : run J e (start T) (match_trait g t) ≡ At p → count p.locals ≡ width t
  match-count is = at (may_unify R.Plain (put_in (start T) g.reference.arguments) (substituted (start T).locals 1 (after_first t.children))) is
    where
      of : (o : Option (List Pending × State)) → go_on (reached Refused (next o (λ r. Some (with_goals with-variables r)))) (λ r. At r) ≡ At p → count p.locals ≡ length ks
      of None g = absurd cc
      of (Some r) g = let same : with_goals with-variables r ≡ p = cc in sym (ap (λ (x : Place). count x.locals) same) ∙ count-fresh T ks

      at : (b : Bool) → go_on (at_if (start T) b) (λ x. run J e x (fresh ks ∷ equate g.reference.arguments named ∷ [])) ≡ At p → count p.locals ≡ length ks
      at true i = of (J.equated with-variables.state e (put_in with-variables g.reference.arguments) (put_in with-variables named)) i
      at false i = absurd cc

-- Trees of a state of which a rule may speak.

pub rule-trees-of : (S : State) (L : Live) (ts : List Tree) → Each (IsTerm S L) ts → All IsFree ts → All (IsRuleTree (length S.variables)) ts
rule-trees-of S L [] a f = All-nil (IsRuleTree (length S.variables))
rule-trees-of S L (t ∷ ts) a f =
    All-cons (IsRuleTree (length S.variables)) t ts (record { no_parameter = All-head IsFree t ts f; below = known-below S L (alone t) a.0 }) (rule-trees-of S L ts a.1 (All-tail IsFree t ts f))

pub all-free : (ts : List Tree) → Each IsFree ts → All IsFree ts
all-free [] a = All-nil IsFree
all-free (t ∷ ts) a = All-cons IsFree t ts a.0 (all-free ts a.1)

pub all-closed : (S : State) (L : Live) (ts : List Tree) → Each (IsTerm S L) ts → All (λ (t : Tree). escapes 0 (alone t) ≡ false) ts
all-closed S L [] a = All-nil (λ (t : Tree). escapes 0 (alone t) ≡ false)
all-closed S L (t ∷ ts) a = All-cons (λ (t : Tree). escapes 0 (alone t) ≡ false) t ts a.0.is_closed (all-closed S L ts a.1)

-- In an environment and of a type, be the goal of whatever kind.
module _ (J : Judge) (law : Lawful J) (c : Context) (w : IsWellFormedTable c) (few-traits : length c.contents.traits ≤ no_place) (few-bounds : length c.contents.bounds ≤ no_place) (e : Env) (type : Tree)
    (dynamic : is_dynamic type.head ≡ true) (fits : IsFitting (world c) type) (type-free : IsFree type) where
  abbrev bounds : Forest
  bounds = all_but_last type.children

  abbrev pub object_at : State → Tree → Tree
  object_at T t = first_tree (fresh_arguments T (reference_by c t))

  abbrev pub rule_at : Place → List Kind → Tree → List Tree → Type 0
  rule_at p ks object ts = (let q = made_fresh p ks in IsRuleAt q.state q.locals (length q.state.variables) e (own_bounds object bounds) ts)

  -- with fresh variables for those of the instance, from a place that makes sense on
  pub instance-rule : (T : State) (A : Live) → AreTreesOf T A e → AreTreesOf T A (alone type) → (p : Place) (m : MakesSense T A p) (t : Tree) → IsClauseOf T A t → holds is_param t.children ≡ false → (ts : List Tree)
      → AreRequirements c (trait_by c t.head) (fresh_arguments p.state (reference_by c t)) ts → All IsFree ts → rule_at p (bound_kinds (reference_by c t).children) (object_at p.state t) ts
  instance-rule T A env type-trees p m t own clause-free ts are required-free =
      let P = p.state in
      let reference = reference_by c t in
      let ks = bound_kinds reference.children in
      let F = fresh_variables P ks in
      let begins : StandsAfter J law P m.live m.sound P = record {
        live = m.live;
        sound = m.sound;
        fits = m.fits;
        goals = m.goals;
        stays = λ h x. x;
        longer = omega arith;
        within = λ n l k. k;
        later = λ x. later-itself P m.live m.sound;
      } in
      let y = fresh-moves J law P m.live m.sound P begins ks in
      let q = made_fresh p ks in
      let V = q.state in
      let M = y.moves.to.live in
      let still = λ (us : Forest) (a : AreTreesOf P m.live us). trees-stay P m.live V M y.moves.stays us a in
      let known = λ (us : Forest) (a : AreTreesOf T A us). still us (trees-stay T A P m.live m.stays us a) in
      let args = instance-of V M F reference y.trees (still (alone reference) (reference-of P m.live c t (clause-stays-of T A P m.live m.stays t own))) in
      let object = object_at P t in
      let bs = own_bounds object bounds in
      let bound-terms = clauses-terms V M bs
      (own-bounds-of V M object (first-trees V M (fresh_arguments P reference) args) bounds (bounds-of-type V M (world c) type dynamic fits (known (alone type) type-trees))) in
      let terms = clauses-terms V M ts (required-of c w few-traits V M few-bounds (trait_by c t.head) (fresh_arguments P reference) ts args are) in
      let object-free = first-free (fresh_arguments P reference) (instance-free c P t clause-free) in
      record {
        env = known-below V M e (known e env);
        bounds = rule-trees-of V M bs bound-terms (all-free bs (own-bounds-free object type object-free type-free));
        closed = all-closed V M bs bound-terms;
        required = rule-trees-of V M ts terms required-free;
        there = omega arith;
        locals = known-below V M q.locals (trees-join V M p.locals F (still p.locals m.locals) y.trees);
      }

module _ (J : Judge) (law : Lawful J) (c : Context) (w : IsWellFormedTable c) (few-traits : length c.contents.traits ≤ no_place) (few-bounds : length c.contents.bounds ≤ no_place)
    (S : State) (L : Live) (g : TraitGoal) (s : StandsWithPending S L g) (fits : IsFitting (world c) (first_tree g.reference.arguments)) (free : holds is_param g.reference.arguments ≡ false) where
  abbrev type : Tree
  type = first_tree g.reference.arguments

  abbrev type_bounds : Forest
  type_bounds = all_but_last type.children

  type-free : IsFree type
  type-free = first-free g.reference.arguments free

  module _ (supers : List Tree) (o : OwnClause) (has-own : has_own_clauses c g.reference.trait type ≡ true) (are-supers : ArePrincipalSupers c type supers) (is-own : Contains (own_clauses type supers) o) where
    -- What is required makes up a rule.
    pub makes-up-rule : (T : State) → J.alike S T → (p : Place) → IsAskedAfter trait_rules J c S g T o p → (object : Tree) (required : List Tree) → IsRequired c p.state o.clause object required → All IsFree required
        → MakesUpRule g.env p o.clause object (object_bounds trait_rules c g) required
    makes-up-rule T like p a object required r required-free =
        let dynamic = has_dynamic c g.reference.trait type has-own in
        let x = alike-stands J law S T L g type like s (first-trees S L g.reference.arguments s.arguments) in
        let A = x.after.live in
        let st = x.stands in
        let own = own-clause-of c w few-traits T A type supers o dynamic fits x.tree are-supers is-own in
        let m = run-makes J law T A g.env st.env (match_trait g o.clause) (match-steps T A g st.env st.arguments o.clause own.trees) (start T) (start-makes T A st.sound st.fits st.goals) p a.matched in
        let clause-free = own-free c w type supers o dynamic fits type-free are-supers is-own in
        let Rule : List Kind → Tree → Type 0 = λ ks u. rule_at J law c w few-traits few-bounds g.env type dynamic fits type-free p ks u required in
        let made = instance-rule J law c w few-traits few-bounds g.env type dynamic fits type-free T A st.env x.tree p m o.clause own clause-free required r.are required-free in
        record {
          matched = match-count J g.env g T o.clause p a.matched;
          trees = subst (λ ks. Rule ks object) (kinds-by c o.clause) (subst (λ u. Rule (bound_kinds (reference_by c o.clause).children) u) (sym r.object_is) made);
        }

    -- What is answered is what the judge says to the rule, where no parameter stands in what is required.
    pub object-by-rule : (j : Judged) (r : IsJudgedByRule trait_rules J c S g o j) → ((p : Place) → IsAskedAfter trait_rules J c S g r.at o p → All IsFree r.required)
        → j ≡ judged J r.at (object_rule trait_rules c g o r.object r.required)
    object-by-rule j r required-free = r.is (λ p a. makes-up-rule r.at r.alike p a r.object r.required (r.are_required p a) (required-free p a))

    pub object-as-rule : (j : Judged) → ObjectJudged trait_rules J c S g o j → IsJudgedByRule trait_rules J c S g o j
    object-as-rule j h = judged-by-rule trait_rules J law.alike_judged_alike c S g o j h

    -- Of a clause that binds no variable it is required at every state alike: so what is answered is what the judge says at this very state.
    pub object-here : (j : Judged) (r : IsJudgedByRule trait_rules J c S g o j) → bound_kinds o.clause.children ≡ [] → ((p : Place) → IsAskedAfter trait_rules J c S g r.at o p → All IsFree r.required)
        → j ≡ judged J S (object_rule trait_rules c g o r.object r.required)
    object-here j r unbound required-free =
        judged-at-first trait_rules J law.alike_judged_alike c S g o j r (known-below S L g.env s.env)
        (match_below n g o.clause (known-below S L g.reference.arguments s.arguments) (known-below S L (alone o.clause) own.trees))
        (λ p a. makes-up-rule r.at r.alike p a r.object r.required (r.are_required p a) (required-free p a)) (λ p a. low p (r.are_required p a) (required-free p a))
      where
        n : ℕ
        n = length S.variables

        dynamic : is_dynamic type.head ≡ true
        dynamic = has_dynamic c g.reference.trait type has-own

        type-trees : AreTreesOf S L (alone type)
        type-trees = first-trees S L g.reference.arguments s.arguments

        own : IsClauseOf S L o.clause
        own = own-clause-of c w few-traits S L type supers o dynamic fits type-trees are-supers is-own

        low : (p : Place) → IsRequired c p.state o.clause r.object r.required → All IsFree r.required → All (IsRuleTree (length S.variables)) (own_bounds r.object type_bounds) × All (IsRuleTree (length S.variables)) r.required
        low p i f =
            let reference = reference_by c o.clause in
            let row = opened none (after_first reference.children) in
            let same : fresh_arguments p.state reference ≡ row = ap (λ ks. opened (fresh_variables p.state ks) (after_first reference.children)) (kinds-by c o.clause ∙ unbound) in
            let args = instance-of S L none reference (record { known = refl; is_closed = refl }) (reference-of S L c o.clause own) in
            let is-object : r.object ≡ first_tree row = i.object_is ∙ ap first_tree same in
            let clause-free = own-free c w type supers o dynamic fits type-free are-supers is-own in
            let object-free = first-free row (subst (λ (ts : Forest). holds is_param ts ≡ false) same (instance-free c p.state o.clause clause-free)) in
            let bs = own_bounds (first_tree row) type_bounds in
            let bound-terms = clauses-terms S L bs (own-bounds-of S L (first_tree row) (first-trees S L row args) type_bounds (bounds-of-type S L (world c) type dynamic fits type-trees)) in
            let required = subst (λ ts. AreRequirements c (trait_by c o.clause.head) ts r.required) same i.are in (
              subst (λ u. All (IsRuleTree (length S.variables)) (own_bounds u type_bounds)) (sym is-object)
                  (rule-trees-of S L bs bound-terms (all-free bs (own-bounds-free (first_tree row) type object-free type-free))),
              rule-trees-of S L r.required (clauses-terms S L r.required (required-of c w few-traits S L few-bounds (trait_by c o.clause.head) row r.required args required)) f,
            )
