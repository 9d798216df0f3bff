-- The rules of the language for associated types mention no other variables than the goal, and stay where a context grows: the laws that kinds of
-- goals have.
use Rattle.std.proofs.Common.{◌≡◌, ◌∙◌, ℕ, Bool, refl, ap, Option, Some, None}
use Rattle.ir_trees.specs.declared.decl.contents.LangItem.TheVariants as L
use Rattle.ir_trees.specs.declared.ir.heads.ClauseHead.TheVariants as Cl
use Rattle.ir_trees.specs.declared.ir.heads.Head.{Head}
use Rattle.ir_trees.specs.declared.ir.heads.Head.TheVariants as H
use Rattle.ir_trees.specs.declared.ir.heads.PartHead.TheVariants as P
use Rattle.ir_trees.specs.declared.ir.kinds.PredicatePolarity.TheVariants as Pol
use Rattle.ir_trees.specs.declared.ir.kinds.TraitId.{TraitId}
use Rattle.ir_trees.specs.Declarations.Context.{Context, Grows, world}
use Rattle.ir_trees.specs.Declarations.Worlds.{IsOf}
use Rattle.ir_trees.specs.Syntax.Trees.{Forest, Tree, none, tree}
use Rattle.ir_trees.specs.Unification.Substitutions.{alone}
use Rattle.ir_trees.specs.Validity.WellFormed.{IsWellFormedTable}
use Rattle.candidate_eval.specs.Builtins.Callable.{CalledWith, Calls, Undetermined, calls}
use Rattle.candidate_eval.specs.Derivations.Characterization.{binder_kinds}
use Rattle.candidate_eval.specs.Derivations.ImplRules.{TraitGoal}
use Rattle.candidate_eval.specs.Derivations.Mentions.{IsBelow, RuleBelow, is_from}
use Rattle.candidate_eval.specs.Derivations.Naming.{named_tree}
use Rattle.candidate_eval.proofs.Marks.Holds.{holds_parts}
use Rattle.candidate_assembly.specs.Goals.Kinds.{BuiltinRule, DiscriminantKindRule, ErrorRule, FnTraitRule, PointeeRule}
use Rattle.candidate_assembly.specs.Goals.TraitGoals.{item_trait}
use Rattle.candidate_assembly.specs.Laws.BuiltinLaws.{calls_stay}
use Rattle.candidate_assembly.specs.Laws.BuiltinsBelow.{builtin-below}
use Rattle.candidate_assembly.specs.Rules.BuiltinRules.{ambiguous_rule, call_rule, meets, self_of}
use Rattle.projection_goals.specs.declared.named.NamedType.{NamedType}
use Rattle.projection_goals.specs.declared.named.NamedType.TheVariants as N
use Rattle.projection_goals.specs.LanguageTypes.{discriminant, equal_rule, known_rule, language_rule, metadata, named_type, output_rule}

-- What they mention.

named-below : (n : ℕ) (k : NamedType) → IsBelow n (alone (named_type k))
named-below n N.Error = refl
named-below n N.Unit = refl
named-below n N.Usize = refl
named-below n N.U8 = refl

-- a type of which a trait holds
met-below : (n : ℕ) (i : TraitId) (t : Tree) → IsBelow n (alone (meets i t)) → IsBelow n (alone t)
met-below n i t e =
    let p = holds_parts (is_from n) (H.Part (P.Clause (Cl.Trait i Pol.Positive))) (tree (H.Part P.Vars) none (alone t)) none e in
    (holds_parts (is_from n) (H.Part P.Vars) none (alone t) p.under).others

module _ (n : ℕ) (g : TraitGoal) (term : Forest) (env : IsBelow n g.env) (below : IsBelow n term) where
  equal-below : (b : Bool) (k : NamedType) → RuleBelow n (equal_rule g term b k)
  equal-below b k = record { env = env; steps = ((below, named-below n k), tt); ending = tt }

  open-below : (b : Bool) → RuleBelow n (ambiguous_rule g b)
  open-below b = record { env = env; steps = tt; ending = tt }

  known-below : (o : Option NamedType) → RuleBelow n (known_rule g term o)
  known-below None = open-below _
  known-below (Some k) = equal-below _ k

  -- as the rule of the trait
  output-below : (x : Calls) (o : Option TraitId) → RuleBelow n (call_rule g x o) → RuleBelow n (output_rule g term x o)
  output-below (CalledWith s) (Some i) h =
      let output = named_tree 0 (binder_kinds s.variables) s.output in
      let fresh = h.steps.1 in
      let quick = fresh.1 in
      let nested = quick.1 in
      record { env = env; steps = (tt, (fresh.0, (quick.0, ((below, met-below n i output nested.0), (nested.0, tt))))); ending = tt }
  output-below (CalledWith s) None h = record { env = env; steps = tt; ending = tt }
  output-below Undetermined o h = open-below _
  output-below _ o h = record { env = env; steps = tt; ending = tt }

  pub language-below : (r : BuiltinRule) (c : Context) → IsWellFormedTable c → IsOf (world c) g.reference → IsBelow n g.reference.arguments → RuleBelow n (language_rule r c g term)
  language-below ErrorRule c w is a = equal-below _ N.Error
  language-below (FnTraitRule k) c w is a = output-below (calls c k (self_of g)) (item_trait c L.Sized) (builtin-below n (FnTraitRule k) c g w is env a)
  language-below PointeeRule c w is a = known-below (metadata c (self_of g).head (self_of g).children)
  language-below DiscriminantKindRule c w is a = known-below (discriminant c (self_of g).head)
  language-below _ c w is a = open-below _

-- They stay.

module _ (old new : Context) (t : IsWellFormedTable old) (g : Grows old new) where
  metadata-stays : (h : Head) (below : Forest) → metadata new h below ≡ metadata old h below
  metadata-stays (H.Adt i) below = ap (λ (c : Context). metadata c (H.Adt i) below) g.same
  metadata-stays _ below = refl

  discriminant-stays : (h : Head) → discriminant new h ≡ discriminant old h
  discriminant-stays (H.Adt i) = ap (λ (c : Context). discriminant c (H.Adt i)) g.same
  discriminant-stays _ = refl

  pub language-stays : (r : BuiltinRule) (p : TraitGoal) (term : Forest) → language_rule r new p term ≡ language_rule r old p term
  language-stays (FnTraitRule k) p term =
      ap (λ x. output_rule p term x (item_trait new L.Sized)) (calls_stay old new t g k (self_of p)) ∙ ap (λ (c : Context). output_rule p term (calls old k (self_of p)) (item_trait c L.Sized)) g.same
  language-stays PointeeRule p term = ap (known_rule p term) (metadata-stays (self_of p).head (self_of p).children)
  language-stays DiscriminantKindRule p term = ap (known_rule p term) (discriminant-stays (self_of p).head)
  language-stays _ p term = refl
