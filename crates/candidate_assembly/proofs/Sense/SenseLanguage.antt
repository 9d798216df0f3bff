-- The rules of the language for a goal of a state: their trees are of the state, those that nest clauses too.
use Rattle.std.proofs.Common.{◌≡◌, Bool, true, false, Option, Some, None, List, [], ◌∷◌, map, refl, if◌then◌else◌}
use Rattle.std.specs.List.{All}
use Rattle.std.specs.Prelude.{◌&&◌, not}
use Rattle.std.proofs.lemmas.List.Elements.{All-cons, All-head, All-nil, All-tail}
use Rattle.ir_trees.specs.declared.decl.contents.LangItem.TheVariants as Item
use Rattle.ir_trees.specs.declared.ir.heads.ClauseHead.TheVariants as Cl
use Rattle.ir_trees.specs.declared.ir.heads.Head.TheVariants as H
use Rattle.ir_trees.specs.declared.ir.heads.PartHead.TheVariants as P
use Rattle.ir_trees.specs.declared.ir.kinds.Clause.{Clause}
use Rattle.ir_trees.specs.declared.ir.kinds.GoalSource.{GoalSource}
use Rattle.ir_trees.specs.declared.ir.kinds.GoalSource.TheVariants.{ImplWhereBound, Misc}
use Rattle.ir_trees.specs.declared.ir.kinds.PredicatePolarity.{PredicatePolarity}
use Rattle.ir_trees.specs.declared.ir.kinds.PredicatePolarity.TheVariants as Pol
use Rattle.ir_trees.specs.declared.ir.kinds.TraitId.{TraitId}
use Rattle.ir_trees.specs.Declarations.Contents.{TraitContents}
use Rattle.ir_trees.specs.Declarations.Context.{Context}
use Rattle.ir_trees.specs.Declarations.Declaring.{trait_at}
use Rattle.ir_trees.specs.Declarations.Lookups.{maybe}
use Rattle.ir_trees.specs.Hierarchy.Supers.{after_first}
use Rattle.ir_trees.specs.Instantiation.Folding.{substituted_tree}
use Rattle.ir_trees.specs.Unification.Substitutions.{alone}
use Rattle.ir_trees.specs.Syntax.Trees.{Forest, Kind, Tree, none, tree}
use Rattle.ir_trees.specs.Validity.WellFormed.{IsWellFormedTable}
use Rattle.ir_trees.specs.Syntax.Words.{clause_tree}
use Rattle.candidate_eval.specs.declared.eval.certainty.Certainty.TheVariants.{Yes}
use Rattle.candidate_eval.specs.declared.eval.source.CandidateSource.{CandidateSource}
use Rattle.candidate_eval.specs.declared.eval.source.CandidateSource.TheVariants.{BuiltinImpl}
use Rattle.candidate_eval.specs.declared.eval.source.BuiltinImplSource.TheVariants as Builtin
use Rattle.candidate_eval.specs.declared.structural.Column.{Column}
use Rattle.candidate_eval.specs.declared.structural.Column.TheVariants as Co
use Rattle.candidate_eval.specs.Builtins.Callable.{Callable, CalledWith, Calls, Undetermined, calls}
use Rattle.candidate_eval.specs.Builtins.Tables.{Asks, Cell, Excluded, Parts, Refused, cell, row_of}
use Rattle.candidate_eval.specs.Derivations.Characterization.{binder_kinds}
use Rattle.candidate_eval.specs.Derivations.ImplRules.{TraitGoal}
use Rattle.candidate_eval.specs.Derivations.Naming.{named_tree}
use Rattle.candidate_eval.specs.Derivations.Rules.{Rule, add, enter, equate, fresh, nested, quick}
use Rattle.candidate_eval.specs.Judges.Soundness.{AreTreesOf, Live, is_strange}
use Rattle.candidate_eval.specs.Judges.States.{State}
use Rattle.candidate_eval.proofs.Marks.Closed.{after-closed, closed, closed-parts}
use Rattle.candidate_eval.proofs.Marks.Holds.{holds_parts}
use Rattle.candidate_eval.proofs.Marks.Marking.{after-unmarked, unmarked}
use Rattle.candidate_assembly.specs.declared.trait_goals.no_drop.NoDrop.{NoDrop}
use Rattle.candidate_assembly.specs.declared.trait_goals.no_drop.NoDrop.TheVariants as N
use Rattle.candidate_assembly.specs.Answers.Telling.{asking_rule}
use Rattle.candidate_assembly.specs.Goals.Kinds.{AutoTraitRule, BuiltinRule, CopyCloneRule, DestructRule, DiscriminantKindRule, ErrorRule, FnPtrTraitRule, FnTraitRule, NoDropRule, PointeeRule, SizednessRule, TraitAliasRule, TupleRule}
use Rattle.candidate_assembly.specs.Goals.TraitGoals.{item_trait, with_first}
use Rattle.candidate_assembly.specs.Laws.Given.{IsCounted}
use Rattle.candidate_assembly.specs.Rules.BuiltinRules.{ambiguous_rule, auto_refused, call_arguments, call_rule, copy_rule, for_type, for_types, holds_of, is_numeric_variable, meets, misc, no_drop_needs, parts_rule, plain_rule, positive, rule_by_needs, self_of, trait_rule, with_names}
use Rattle.candidate_assembly.proofs.Sense.Sense.{StepIsOf, StepsAreOf}
use Rattle.candidate_assembly.proofs.Sense.SenseDeclared.{ClauseIsBareToo, trait-bare}
use Rattle.candidate_assembly.proofs.Sense.SenseParts.{AreUnderOne, IsUnderOne, call-under, named-of, parts-under, put-trees, under-one}
use Rattle.candidate_assembly.proofs.Sense.SenseProved.{first-trees}
use Rattle.candidate_assembly.proofs.Sense.SenseRules.{RuleIsOf}

-- What holds of the rules for the three needs holds of the rule of no drop.
pub of-needs : (P : Rule → Type 0) (c : Context) (g : TraitGoal) → P (plain_rule g (positive g)) → P (parts_rule g (positive g) misc (cell Co.Auto (row_of c (self_of g)))) → P (copy_rule g (item_trait c Item.Copy)) → P (trait_rule NoDropRule c g)
of-needs P c g plain parts copy = of (no_drop_needs c (self_of g).head)
  where
    of : (x : NoDrop) → P (rule_by_needs c g x)
    of N.Nothing = plain
    of N.Elements = parts
    of N.Copy = copy

module _ (S : State) (L : Live) where
  -- trees that become pending
  pub clauses-added : (s : GoalSource) (ts : List Tree) → All (λ t. AreTreesOf S L (alone t)) ts → StepsAreOf S L (map (add s) ts)
  clauses-added s [] all = All-nil (StepIsOf S L)
  clauses-added s (t ∷ ts) all =
      All-cons (StepIsOf S L) (add s t) (map (add s) ts) (All-head (λ u. AreTreesOf S L (alone u)) t ts all) (clauses-added s ts (All-tail (λ u. AreTreesOf S L (alone u)) t ts all))

  -- that the trait holds of trees under its binder, which is empty
  pub holds-trees : (i : TraitId) (p : PredicatePolarity) (args : Forest) → AreUnderOne S L args → AreTreesOf S L (alone (holds_of i p none args))
  holds-trees i p args a =
      let mark = is_strange S L in
      let h = H.Part (P.Clause (Cl.Trait i p)) in
      let v = H.Part P.Vars in
      record {
        known = unmarked mark h (tree v none args) none refl (unmarked mark v none args refl refl a.known) refl;
        is_closed = closed 0 h (tree v none args) none refl (closed 1 v none args refl refl a.is_closed) refl;
      }

  -- a tree before others
  pub before-under : (t : Tree) (ts : Forest) → IsUnderOne S L t → AreUnderOne S L ts → AreUnderOne S L (tree t.head t.children ts)
  before-under t ts a b =
      let p = holds_parts (is_strange S L) t.head t.children none a.known in
      let q = closed-parts 1 t.head t.children none a.is_closed in
      record { known = unmarked (is_strange S L) t.head t.children ts p.here p.under b.known; is_closed = closed 1 t.head t.children ts q.here q.under b.is_closed }

  pub meets-trees : (i : TraitId) (t : Tree) → IsUnderOne S L t → AreTreesOf S L (alone (meets i t))
  meets-trees i t a = holds-trees i Pol.Positive (alone t) a

  with-names-under : (ks : List Kind) (t : Tree) → IsUnderOne S L t → IsUnderOne S L (with_names ks t)
  with-names-under [] t a = a
  with-names-under (k ∷ ks) t a = under-one S L (alone (named_tree 0 (k ∷ ks) t)) (named-of S L (k ∷ ks) t a)

  after-trees : (ts : Forest) → AreTreesOf S L ts → AreTreesOf S L (after_first ts)
  after-trees ts a = record { known = after-unmarked (is_strange S L) ts a.known; is_closed = after-closed 0 ts a.is_closed }

  module _ (g : TraitGoal) (env : AreTreesOf S L g.env) (arguments : AreTreesOf S L g.reference.arguments) where
    self-trees : AreTreesOf S L (alone (self_of g))
    self-trees = first-trees S L g.reference.arguments arguments

    at-once : (b : Bool) (d : _) → RuleIsOf S L (asking_rule g.env b d)
    at-once b d = record { env = env; steps = All-nil (StepIsOf S L); ending = tt }

    for-trees : (t : Tree) → IsUnderOne S L t → AreTreesOf S L (alone (for_type g t))
    for-trees t a =
        let rest = after_first g.reference.arguments in
        holds-trees (record { 0 = g.reference.trait }) g.polarity (with_first t g.reference.arguments) (before-under t rest a (under-one S L rest (after-trees g.reference.arguments arguments)))

    parts-meet : (ks : List Kind) (ts : List Tree) → All (IsUnderOne S L) ts → All (λ t. AreTreesOf S L (alone t)) (for_types g (map (with_names ks) ts))
    parts-meet ks [] all = All-nil (λ t. AreTreesOf S L (alone t))
    parts-meet ks (t ∷ ts) all =
        All-cons (λ u. AreTreesOf S L (alone u)) (for_type g (with_names ks t)) (for_types g (map (with_names ks) ts)) (for-trees (with_names ks t) (with-names-under ks t (All-head (IsUnderOne S L) t ts all)))
        (parts-meet ks ts (All-tail (IsUnderOne S L) t ts all))

    cell-is-of : (applies : Bool) (s : CandidateSource) (x : Cell) → ((p : Parts) → x ≡ Asks p → All (IsUnderOne S L) p.types) → RuleIsOf S L (parts_rule g applies s x)
    cell-is-of applies s (Asks p) h =
        let ks = binder_kinds p.variables in
        let cs = for_types g (map (with_names ks) p.types) in
        record { env = env; steps = All-cons (StepIsOf S L) (enter ks) (nested cs) tt (clauses-added ImplWhereBound cs (parts-meet ks p.types (h p refl))); ending = tt }
    cell-is-of applies s Excluded h = at-once false Yes
    cell-is-of applies s Refused h = at-once false Yes

    call-is-of : (x : Calls) (o : Option TraitId) → ((s : Callable) → x ≡ CalledWith s → IsUnderOne S L s.inputs × IsUnderOne S L s.output) → RuleIsOf S L (call_rule g x o)
    call-is-of (CalledWith s) (Some sized) h =
        let P = StepIsOf S L in
        let ks = binder_kinds s.variables in
        let args = call_arguments g ks s.inputs in
        let i = named_tree 0 ks s.inputs in
        let o = named_tree 0 ks s.output in
        let self = self_of g in
        let both = h s refl in
        let cs = meets sized o ∷ [] in
        let row : AreTreesOf S L args = before self (alone i) self-trees (named-of S L ks s.inputs both.0) in
        let met : AreTreesOf S L (alone (meets sized o)) = meets-trees sized o (under-one S L (alone o) (named-of S L ks s.output both.1)) in
        record {
          env = env;
          steps = All-cons P (fresh ks) (quick g.reference.arguments args ∷ equate g.reference.arguments args ∷ nested cs) tt
              (All-cons P (quick g.reference.arguments args) (equate g.reference.arguments args ∷ nested cs) tt
              (All-cons P (equate g.reference.arguments args) (nested cs) (arguments, row)
              (All-cons P (add ImplWhereBound (meets sized o)) [] met (All-nil P))));
          ending = tt;
        }
      where
        before : (t : Tree) (ts : Forest) → AreTreesOf S L (alone t) → AreTreesOf S L ts → AreTreesOf S L (tree t.head t.children ts)
        before t ts a b =
            let p = holds_parts (is_strange S L) t.head t.children none a.known in
            let q = closed-parts 0 t.head t.children none a.is_closed in
            record { known = unmarked (is_strange S L) t.head t.children ts p.here p.under b.known; is_closed = closed 0 t.head t.children ts q.here q.under b.is_closed }
    call-is-of (CalledWith s) None h = at-once false Yes
    call-is-of Undetermined o h = record { env = env; steps = All-nil (StepIsOf S L); ending = tt }
    call-is-of _ o h = record { env = env; steps = All-nil (StepIsOf S L); ending = tt }

    copy-is-of : (o : Option TraitId) → RuleIsOf S L (copy_rule g o)
    copy-is-of None = at-once false Yes
    copy-is-of (Some i) = record {
      env = env;
      steps = All-cons (StepIsOf S L) (add ImplWhereBound (meets i (self_of g))) [] (meets-trees i (self_of g) (under-one S L (alone (self_of g)) self-trees)) (All-nil (StepIsOf S L));
      ending = tt;
    }

    module _ (c : Context) (w : IsWellFormedTable c) (few : IsCounted c) where
      column-is-of : (o : Column) (applies : Bool) (s : CandidateSource) → RuleIsOf S L (parts_rule g applies s (cell o (row_of c (self_of g))))
      column-is-of o applies s = cell-is-of applies s (cell o (row_of c (self_of g))) (λ p e. parts-under S L c w few.adts o (self_of g) p self-trees e)

      wheres-put : (xs : List Clause) → All (ClauseIsBareToo c w) xs → All (λ t. AreTreesOf S L (alone t)) (map (λ (x : Clause). substituted_tree g.reference.arguments (clause_tree c.trees x)) xs)
      wheres-put [] all = All-nil (λ t. AreTreesOf S L (alone t))
      wheres-put (x ∷ xs) all =
          All-cons (λ t. AreTreesOf S L (alone t)) (substituted_tree g.reference.arguments (clause_tree c.trees x)) (map (λ (y : Clause). substituted_tree g.reference.arguments (clause_tree c.trees y)) xs)
          (put-trees S L g.reference.arguments (clause_tree c.trees x) arguments (All-head (ClauseIsBareToo c w) x xs all)) (wheres-put xs (All-tail (ClauseIsBareToo c w) x xs all))

      wheres-of : All (ClauseIsBareToo c w) (maybe [] (λ t. t.wheres) (trait_at c g.reference.trait))
      wheres-of = of (trait_at c g.reference.trait) refl
        where
          of : (o : Option TraitContents) → trait_at c g.reference.trait ≡ o → All (ClauseIsBareToo c w) (maybe [] (λ t. t.wheres) o)
          of None e = All-nil (ClauseIsBareToo c w)
          of (Some a) e = (trait-bare c w few.traits g.reference.trait a e).wheres

      -- Each rule of the language.
      pub language-rule-is-of : (n : BuiltinRule) → RuleIsOf S L (trait_rule n c g)
      language-rule-is-of ErrorRule = at-once _ _
      language-rule-is-of AutoTraitRule = of (is_numeric_variable (self_of g).head)
        where
          of : (b : Bool) → RuleIsOf S L (if b then ambiguous_rule g (positive g) else parts_rule g (positive g && not (auto_refused c g.reference (self_of g).head)) misc (cell Co.Auto (row_of c (self_of g))))
          of true = at-once _ _
          of false = column-is-of Co.Auto (positive g && not (auto_refused c g.reference (self_of g).head)) misc
      language-rule-is-of TraitAliasRule =
          let xs = maybe [] (λ t. t.wheres) (trait_at c g.reference.trait) in
          record { env = env; steps = clauses-added Misc (map (λ (x : Clause). substituted_tree g.reference.arguments (clause_tree c.trees x)) xs) (wheres-put xs wheres-of); ending = tt }
      language-rule-is-of (SizednessRule s) = column-is-of (Co.Sizedness s) (positive g) (BuiltinImpl Builtin.Trivial)
      language-rule-is-of CopyCloneRule = column-is-of Co.CopyClone (positive g) misc
      language-rule-is-of (FnTraitRule k) = call-is-of (calls c k (self_of g)) (item_trait c Item.Sized) (λ s e. let u = call-under S L c w k (self_of g) s self-trees e in (u.inputs, u.output))
      language-rule-is-of FnPtrTraitRule = at-once _ _
      language-rule-is-of TupleRule = at-once _ _
      language-rule-is-of PointeeRule = at-once _ _
      language-rule-is-of DiscriminantKindRule = at-once _ _
      language-rule-is-of DestructRule = at-once _ _
      language-rule-is-of NoDropRule = of-needs (RuleIsOf S L) c g (at-once _ _) (column-is-of Co.Auto (positive g) misc) (copy-is-of (item_trait c Item.Copy))
