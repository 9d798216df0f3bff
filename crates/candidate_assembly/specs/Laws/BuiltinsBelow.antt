-- The rules of the language for goals of traits mention no other variables than the goal: what is declared mentions none.
use Rattle.std.proofs.Common.{◌≡◌, ℕ, suc, arith, Bool, true, false, refl, List, [], ◌∷◌, map, Option, Some, None}
use Rattle.std.specs.Prelude.{All, ◌&&◌, if◌then◌else◌, not}
use Rattle.ir_trees.specs.declared.decl.contents.LangItem.TheVariants as L
use Rattle.ir_trees.specs.declared.decl.contents.Sizedness.{Sizedness}
use Rattle.ir_trees.specs.declared.ir.heads.ClauseHead.TheVariants as Cl
use Rattle.ir_trees.specs.declared.ir.heads.Head.TheVariants as H
use Rattle.ir_trees.specs.declared.ir.heads.PartHead.TheVariants as P
use Rattle.ir_trees.specs.declared.ir.kinds.Binder.{Binder}
use Rattle.ir_trees.specs.declared.ir.kinds.Clause.{Clause}
use Rattle.ir_trees.specs.declared.ir.kinds.ClosureKind.{ClosureKind}
use Rattle.ir_trees.specs.declared.ir.kinds.FnSig.{FnSig}
use Rattle.ir_trees.specs.declared.ir.kinds.ParamEnv.{ParamEnv}
use Rattle.ir_trees.specs.declared.ir.kinds.PredicatePolarity.{PredicatePolarity}
use Rattle.ir_trees.specs.declared.ir.kinds.PredicatePolarity.TheVariants as Pol
use Rattle.ir_trees.specs.declared.ir.kinds.TraitId.{TraitId}
use Rattle.ir_trees.specs.declared.ir.kinds.TraitPredicate.{TraitPredicate}
use Rattle.ir_trees.specs.Declarations.Context.{Context, world}
use Rattle.ir_trees.specs.Declarations.Declaring.{trait_at}
use Rattle.ir_trees.specs.Instantiation.Folding.{substituted_tree}
use Rattle.ir_trees.specs.Declarations.Lookups.{definition, fn_sig, maybe}
use Rattle.ir_trees.specs.Instantiation.Owned.{is_unsolved}
use Rattle.ir_trees.specs.Declarations.References.{IsWellFormed, Takes}
use Rattle.ir_trees.specs.Unification.Substitutions.{alone}
use Rattle.ir_trees.specs.Hierarchy.Supers.{after_first}
use Rattle.ir_trees.specs.Syntax.Trees.{Kind, TypeKind, Forest, none, tree, Tree, tree_holds}
use Rattle.ir_trees.specs.Validity.WellFormed.{IsWellFormedTable}
use Rattle.ir_trees.specs.Syntax.Words.{args_forest, clause_tree, env_forest}
use Rattle.ir_trees.specs.Declarations.Worlds.{Fits, IsOf, TraitSort, World, joined, kinds_of, parameters}
use Rattle.ir_trees.proofs.Kinding.References.{is-reference}
use Rattle.candidate_eval.specs.declared.eval.source.CandidateSource.{CandidateSource}
use Rattle.candidate_eval.specs.declared.eval.source.CandidateSource.TheVariants.{BuiltinImpl}
use Rattle.candidate_eval.specs.declared.eval.source.BuiltinImplSource.TheVariants.{Trivial}
use Rattle.candidate_eval.specs.declared.structural.Column.{Column}
use Rattle.candidate_eval.specs.declared.structural.Column.TheVariants as C
use Rattle.candidate_eval.specs.Builtins.Callable.{Calls, Callable, CalledWith, Undetermined, calls, declared_signature}
use Rattle.candidate_eval.specs.Derivations.Characterization.{binder_kinds}
use Rattle.candidate_eval.specs.Derivations.ImplRules.{TraitGoal}
use Rattle.candidate_eval.specs.Derivations.Mentions.{IsBelow, RuleBelow, StepsBelow, is_from}
use Rattle.candidate_eval.specs.Derivations.Naming.{named, named_tree}
use Rattle.candidate_eval.specs.Dynamic.ObjectRequirements.{first_tree}
use Rattle.candidate_eval.specs.Derivations.Rules.{nested, nested_misc}
use Rattle.candidate_eval.specs.Builtins.Tables.{Asks, Cell, Excluded, Parts, Refused, cell, row_of}
use Rattle.candidate_eval.proofs.Marks.Holds.{holds_parts}
use Rattle.candidate_eval.proofs.Marks.Marking.{after-unmarked, alone-unmarked, last-unmarked, unmarked}
use Rattle.candidate_eval.proofs.Derivations.Naming.{named-row-below}
use Rattle.candidate_eval.proofs.Builtins.PartsFree.{parts-below, put-below}
use Rattle.candidate_assembly.specs.Rules.BuiltinRules.{ambiguous_rule, auto_refused, auto_rule, call_rule, copy_clone_rule, copy_rule, error_rule, fn_ptr_rule, fn_rule, for_types, holds_of, is_numeric_variable, meets, misc, no_drop_needs, no_drop_rule, parts_rule, plain_rule, positive, rule_by_needs, self_of, sizedness_rule, trait_alias_rule, trait_rule, tuple_rule, with_names}
use Rattle.candidate_assembly.specs.Goals.Kinds.{IsGoal, BuiltinRule, ErrorRule, AutoTraitRule, TraitAliasRule, SizednessRule, CopyCloneRule, FnTraitRule, FnPtrTraitRule, TupleRule, PointeeRule, DiscriminantKindRule, DestructRule, NoDropRule}
use Rattle.candidate_assembly.specs.Goals.TraitGoals.{arguments_held, item_trait, trait_goal, types_held, with_first}
use Rattle.candidate_assembly.specs.Goals.TraitRules.{trait_rules}
use Rattle.candidate_assembly.specs.declared.trait_goals.no_drop.NoDrop.{NoDrop}
use Rattle.candidate_assembly.specs.declared.trait_goals.no_drop.NoDrop.TheVariants as D
use Rattle.candidate_assembly.specs.Laws.CallMarks.{BearsNo, call-unmarked}
use Rattle.candidate_assembly.specs.Laws.DeclaredClosed.{signature-closed, wheres-closed}

-- Trees.

named-tree-below : (n : ℕ) (ks : List Kind) (t : Tree) → IsBelow n (alone t) → IsBelow n (alone (named_tree 0 ks t))
named-tree-below n ks t e = last-unmarked (is_from n) (named 0 ks (alone t)) refl (named-row-below n 0 ks (alone t) e)

with-names-below : (n : ℕ) (ks : List Kind) (t : Tree) → IsBelow n (alone t) → IsBelow n (alone (with_names ks t))
with-names-below n [] t e = e
with-names-below n (k ∷ ks) t e = named-tree-below n (k ∷ ks) t e

-- a tree before others
before-below : (n : ℕ) (t : Tree) (rest : Forest) → IsBelow n (alone t) → IsBelow n rest → IsBelow n (tree t.head t.children rest)
before-below n t rest e f = let p = holds_parts (is_from n) t.head t.children none e in unmarked (is_from n) t.head t.children rest p.here p.under f

first-below : (n : ℕ) (ts : Forest) → IsBelow n ts → IsBelow n (alone (first_tree ts))
first-below n none e = refl
first-below n (tree h below rest) e = let p = holds_parts (is_from n) h below rest e in unmarked (is_from n) h below none p.here p.under refl

-- a trait that holds of trees, under an empty binder
holds-below : (n : ℕ) (i : TraitId) (p : PredicatePolarity) (ts : Forest) → IsBelow n ts → IsBelow n (alone (holds_of i p none ts))
holds-below n i p ts e = unmarked (is_from n) (H.Part (P.Clause (Cl.Trait i p))) (tree (H.Part P.Vars) none ts) none refl (unmarked (is_from n) (H.Part P.Vars) none ts refl refl e) refl

meets-below : (n : ℕ) (i : TraitId) (t : Tree) → IsBelow n (alone t) → IsBelow n (alone (meets i t))
meets-below n i t e = holds-below n i Pol.Positive (alone t) e

-- Where clauses, with the goal's arguments in the place of parameters.
wheres-below : (n : ℕ) (ts : List Tree) (args : Forest) (xs : List Clause) → IsBelow n args → All (λ x. tree_holds is_unsolved (clause_tree ts x) ≡ false) xs
    → StepsBelow n (nested_misc (map (λ x. substituted_tree args (clause_tree ts x)) xs))
wheres-below n ts args [] a h = tt
wheres-below n ts args (x ∷ xs) a h = (
  alone-unmarked (is_from n) (substituted_tree args (clause_tree ts x)) (put-below n args (clause_tree ts x) a (h 0 x (omega arith))),
  wheres-below n ts args xs a (λ k d l. h (suc k) d (omega (arith, l))),
)

-- what the first of trees that fit takes
fits-first : (w : World) (ts : Forest) → Fits w ts → Takes w (first_tree ts)
fits-first w none f l = refl
fits-first w (tree h below rest) f l = f.0

module _ (n : ℕ) (g : TraitGoal) (env : IsBelow n g.env) (args : IsBelow n g.reference.arguments) where
  self-below : IsBelow n (alone (self_of g))
  self-below = first-below n g.reference.arguments args

  -- Parts.

  parts-meet : (ks : List Kind) (ts : List Tree) → All (λ t. IsBelow n (alone t)) ts → StepsBelow n (nested (for_types g (map (with_names ks) ts)))
  parts-meet ks [] h = tt
  parts-meet ks (t ∷ ts) h =
      let u = with_names ks t in
      let below : IsBelow n (alone u) = with-names-below n ks t (h 0 t (omega arith)) in (
        holds-below n (record { 0 = g.reference.trait }) g.polarity (with_first u g.reference.arguments) (before-below n u (after_first g.reference.arguments) below (after-unmarked (is_from n) g.reference.arguments args)),
        parts-meet ks ts (λ k d l. h (suc k) d (omega (arith, l))),
      )

  cell-below : (applies : Bool) (s : CandidateSource) (x : Cell) → ((p : Parts) → x ≡ Asks p → All (λ t. IsBelow n (alone t)) p.types) → RuleBelow n (parts_rule g applies s x)
  cell-below applies s (Asks p) h = record { env = env; steps = (tt, parts-meet (binder_kinds p.variables) p.types (h p refl)); ending = tt }
  cell-below applies s Excluded h = record { env = env; steps = tt; ending = tt }
  cell-below applies s Refused h = record { env = env; steps = tt; ending = tt }

  -- What is called.

  call-below : (x : Calls) (o : Option TraitId) → ((s : Callable) → x ≡ CalledWith s → BearsNo (is_from n) s) → RuleBelow n (call_rule g x o)
  call-below (CalledWith s) (Some i) h =
      let ks = binder_kinds s.variables in
      let bears = h s refl in
      let inputs = before-below n (self_of g) (alone (named_tree 0 ks s.inputs)) self-below (named-tree-below n ks s.inputs bears.inputs) in
      let output = meets-below n i (named_tree 0 ks s.output) (named-tree-below n ks s.output bears.output) in
      record { env = env; steps = (tt, ((args, inputs), ((args, inputs), (output, tt)))); ending = tt }
  call-below (CalledWith s) None h = record { env = env; steps = tt; ending = tt }
  call-below Undetermined o h = record { env = env; steps = tt; ending = tt }
  call-below _ o h = record { env = env; steps = tt; ending = tt }

  -- The rows that need nothing of the context.

  pub error-below : RuleBelow n (error_rule g)
  error-below = record { env = env; steps = tt; ending = tt }

  pub fn-ptr-below : RuleBelow n (fn_ptr_rule g)
  fn-ptr-below = record { env = env; steps = tt; ending = tt }

  pub tuple-below : RuleBelow n (tuple_rule g)
  tuple-below = record { env = env; steps = tt; ending = tt }

  -- a rule that asks at once
  pub plain-below : (applies : Bool) → RuleBelow n (plain_rule g applies)
  plain-below applies = record { env = env; steps = tt; ending = tt }

  copy-below : (o : Option TraitId) → RuleBelow n (copy_rule g o)
  copy-below None = record { env = env; steps = tt; ending = tt }
  copy-below (Some i) = record { env = env; steps = (meets-below n i (self_of g) self-below, tt); ending = tt }

  -- The others, of a reference of a well-formed context.
  module _ (c : Context) (w : IsWellFormedTable c) (is : IsOf (world c) g.reference) where
    column-below : (o : Column) (applies : Bool) (s : CandidateSource) → RuleBelow n (parts_rule g applies s (cell o (row_of c (self_of g))))
    column-below o applies s =
        cell-below applies s (cell o (row_of c (self_of g))) (λ p e. parts-below n c o (self_of g) p w (fits-first (world c) g.reference.arguments is.fits) self-below e)

    pub auto-below : RuleBelow n (auto_rule c g)
    auto-below = of (is_numeric_variable (self_of g).head)
      where
        of : (b : Bool) → RuleBelow n (if b then ambiguous_rule g (positive g) else parts_rule g (positive g && not (auto_refused c g.reference (self_of g).head)) misc (cell C.Auto (row_of c (self_of g))))
        of true = record { env = env; steps = tt; ending = tt }
        of false = column-below C.Auto (positive g && not (auto_refused c g.reference (self_of g).head)) misc

    pub trait-alias-below : RuleBelow n (trait_alias_rule c g)
    trait-alias-below =
        let xs = maybe [] (λ t. t.wheres) (trait_at c g.reference.trait) in
        record { env = env; steps = wheres-below n c.trees g.reference.arguments xs args (of (parameters (world c) TraitSort g.reference.trait) refl is.takes); ending = tt }
      where
        of : (o : Option (List Kind)) → parameters (world c) TraitSort g.reference.trait ≡ o → joined (Some (TypeKind ∷ [])) o ≡ Some (kinds_of g.reference.arguments)
            → All (λ x. tree_holds is_unsolved (clause_tree c.trees x) ≡ false) (maybe [] (λ t. t.wheres) (trait_at c g.reference.trait))
        of None q e = absurd cc
        of (Some ks) q e = wheres-closed c w g.reference.trait ks q

    pub sizedness-below : (s : Sizedness) → RuleBelow n (sizedness_rule s c g)
    sizedness-below s = column-below (C.Sizedness s) (positive g) (BuiltinImpl Trivial)

    pub copy-clone-below : RuleBelow n (copy_clone_rule c g)
    copy-clone-below = column-below C.CopyClone (positive g) misc

    pub fn-below : (k : ClosureKind) → RuleBelow n (fn_rule k c g)
    fn-below k = call-below (calls c k (self_of g)) (item_trait c L.Sized) (λ s e. call-unmarked (is_from n) refl refl c put-in k (self_of g) s self e)
      where
        self : tree_holds (is_from n) (self_of g) ≡ false
        self = let p = holds_parts (is_from n) (self_of g).head (self_of g).children none self-below in rw (p.here, p.under) refl

        put-in : (a : Forest) (i : ℕ) (s : Binder FnSig) → IsBelow n a → fn_sig (definition c i) ≡ Some s → tree_holds (is_from n) (substituted_tree a (declared_signature c.trees s)) ≡ false
        put-in a i s e q = put-below n a (declared_signature c.trees s) e (signature-closed c w i s q)

    needs-below : (x : NoDrop) → RuleBelow n (rule_by_needs c g x)
    needs-below D.Nothing = record { env = env; steps = tt; ending = tt }
    needs-below D.Elements = column-below C.Auto (positive g) misc
    needs-below D.Copy = copy-below (item_trait c L.Copy)

    pub no-drop-below : RuleBelow n (no_drop_rule c g)
    no-drop-below = needs-below (no_drop_needs c (self_of g).head)

-- Each rule of the language.
pub builtin-below : (n : ℕ) (r : BuiltinRule) (c : Context) (g : TraitGoal) → IsWellFormedTable c → IsOf (world c) g.reference → IsBelow n g.env → IsBelow n g.reference.arguments
    → RuleBelow n (trait_rule r c g)
builtin-below n ErrorRule c g w is e a = error-below n g e a
builtin-below n AutoTraitRule c g w is e a = auto-below n g e a c w is
builtin-below n TraitAliasRule c g w is e a = trait-alias-below n g e a c w is
builtin-below n (SizednessRule s) c g w is e a = sizedness-below n g e a c w is s
builtin-below n CopyCloneRule c g w is e a = copy-clone-below n g e a c w is
builtin-below n (FnTraitRule k) c g w is e a = fn-below n g e a c w is k
builtin-below n FnPtrTraitRule c g w is e a = fn-ptr-below n g e a
builtin-below n TupleRule c g w is e a = tuple-below n g e a
builtin-below n PointeeRule c g w is e a = plain-below n g e a (positive g)
builtin-below n DiscriminantKindRule c g w is e a = plain-below n g e a (positive g)
builtin-below n DestructRule c g w is e a = plain-below n g e a (positive g)
builtin-below n NoDropRule c g w is e a = no-drop-below n g e a c w is

-- Each rule of the language, of a goal of a well-formed context.
pub goal-rule-below : (n : ℕ) (r : BuiltinRule) (c : Context) (e : ParamEnv) (p : TraitPredicate) → IsWellFormedTable c → IsWellFormed c → IsGoal trait_rules arguments_held types_held trait_goal c e p
    → IsBelow n (env_forest c.trees e) → IsBelow n (args_forest c.trees p.trait_ref.args) → RuleBelow n (trait_rule r c (trait_goal c.trees e p))
goal-rule-below n r c e p w f is env args = builtin-below n r c (trait_goal c.trees e p) w (is-reference c p.trait_ref f is.arguments is.fit) env args
