-- What nothing was declared of isn't derived: no region is read as an error, which would fulfil any trait.
use Rattle.std.proofs.Common.{◌≡◌, ℕ, Bool, true, false, ◌||◌, Some, None, List, [], if◌then◌else◌, refl, sym, ap, subst, ◌∙◌, arith}
use Rattle.std.specs.List.{Contains, filter}
use Rattle.std.specs.Option.{unwrap_or}
use Rattle.ir_trees.specs.declared.decl.contents.AliasBoundKind.{AliasBoundKind}
use Rattle.ir_trees.specs.declared.decl.contents.LangItem.TheVariants as L
use Rattle.ir_trees.specs.declared.ir.heads.Builtin.TheVariants as B
use Rattle.ir_trees.specs.declared.ir.heads.ClauseHead.TheVariants as Cl
use Rattle.ir_trees.specs.declared.ir.heads.Flag.TheVariants as F
use Rattle.ir_trees.specs.declared.ir.heads.Head.{Head}
use Rattle.ir_trees.specs.declared.ir.heads.Head.TheVariants as H
use Rattle.ir_trees.specs.declared.ir.heads.PartHead.TheVariants as P
use Rattle.ir_trees.specs.declared.ir.kinds.Mutability.TheVariants as M
use Rattle.ir_trees.specs.declared.ir.kinds.PredicatePolarity.{PredicatePolarity}
use Rattle.ir_trees.specs.declared.ir.kinds.RegionKind.{RegionKind}
use Rattle.ir_trees.specs.declared.ir.kinds.RegionKind.TheVariants as R
use Rattle.ir_trees.specs.Declarations.Context.{Context, Grows}
use Rattle.ir_trees.specs.Declarations.Limits.{first_limits}
use Rattle.ir_trees.specs.Syntax.Flags.{mark}
use Rattle.ir_trees.specs.Syntax.Trees.{Forest, none, tree, Tree, holds}
use Rattle.ir_trees.specs.Unification.Impls.{impls_of, is_relevant}
use Rattle.ir_trees.specs.Unification.Substitutions.{Universes}
use Rattle.ir_trees.proofs.Instantiation.Folding.{begin}
use Rattle.candidate_eval.specs.Derivations.ImplRules.{TraitGoal}
use Rattle.candidate_eval.specs.Dynamic.ObjectRequirements.{first_tree}
use Rattle.candidate_eval.specs.Dynamic.Required.{each_of}
use Rattle.candidate_eval.specs.Derivations.Rules.{Rule}
use Rattle.candidate_eval.specs.Judges.Instances.{Instance, instance}
use Rattle.candidate_eval.specs.Judges.Soundness.{is_leaf, is_region}
use Rattle.candidate_eval.specs.Judges.States.{Env, Values, valued}
use Rattle.candidate_eval.proofs.Marks.Holds.{holds_parts}
use Rattle.candidate_assembly.specs.Answers.Assembled.{rule_of_trait}
use Rattle.candidate_assembly.specs.Goals.Kinds.{BuiltinRule, ErrorRule}
use Rattle.candidate_assembly.specs.Goals.TraitGoals.{is_item}
use Rattle.candidate_assembly.specs.Goals.TraitRules.{trait_bounds, trait_rules}
use Rattle.candidate_assembly.proofs.Objects.ObjectLaws.{has_dynamic}
use Rattle.candidate_assembly.specs.Rules.AliasBounds.{has_bounds, is_opaque}
use Rattle.candidate_assembly.specs.Rules.DynBounds.{is_dynamic}
use Rattle.candidate_assembly.specs.Rules.ObjectBounds.{OwnClause}
use Rattle.candidate_assembly.specs.Rules.Opaques.{non_default_impls}
use Rattle.rounds_judge.specs.Aliases.Congruence.{AreListed, Same, same, heads, regions, pair, back, along}
use Rattle.rounds_judge.specs.Aliases.Listed.{Listing}
use Rattle.rounds_judge.proofs.States.Marks.{valued_node, whole}
use Rattle.derivations.specs.Clean.{IsClean, is_error_region}
use Rattle.derivations.specs.Ordinary.{IsOfVariables}
use Rattle.derivations.specs.Derivations.{Derivation, IsLinked, IsOwn, IsReadAs, IsRuleUnder, by_addition, by_bound, by_clause, by_impl, by_language, by_object, by_own_projection, by_projection_rule, by_rule, by_unsizing, constants_are_one, equation, first, further, object_assumed, region_outlives, said_by, type_outlives, types_are_one}

none_there : {A : Type 0} (x : A) → Contains [] x → ⊥
none_there x c = let l = c.1 in absurd (omega (arith, l))

-- Trees but for their regions.

abbrev placed : Bool → Head → Forest → Forest → Forest
placed b h below rest = if b then tree (H.Region R.Static) none rest else tree h below rest

abbrev shape : Forest → Forest
shape none = none
shape (tree h below rest) = placed (is_region h) h (shape below) (shape rest)

-- Where nothing is listed, they are all that equality sees.
module _ (l : Listing) (none_listed : l.pairs ≡ []) where
  same_shape : {a b : Forest} → Same l a b → shape a ≡ shape b
  same_shape (same ts) = refl
  same_shape (heads h {a = a} {b = b} {r = r} {s = s} p q) = ap (λ x. placed (is_region h) h x (shape r)) (same_shape p) ∙ ap (placed (is_region h) h (shape b)) (same_shape q)
  same_shape (regions g h a b {r = r} {s = s} x y q) =
      ap (λ z. placed z g (shape a) (shape r)) x ∙ (ap (tree (H.Region R.Static) none) (same_shape q) ∙ sym (ap (λ z. placed z h (shape b) (shape s)) y))
  same_shape (pair t u there q) = absurd (none_there (t, u) (subst (λ ps. Contains ps (t, u)) none_listed there.is_among))
  same_shape (back q) = sym (same_shape q)
  same_shape (along p q) = same_shape p ∙ same_shape q

-- `&'static !`
abbrev pub reference : Forest
reference = tree (H.Ref M.Not) (tree (H.Region R.Static) none (tree (H.Builtin B.Never) none none)) none

abbrev pub goal_of : ℕ → PredicatePolarity → TraitGoal
goal_of n p = record { env = none; reference = record { trait = n; arguments = reference }; polarity = p }

-- What is read as that is no alias and no object, under no clauses.

abbrev head_of : Forest → Head
head_of none = H.Error
head_of (tree h below rest) = h

shape_row : (t : Tree) (rest : Forest) → shape (tree t.head t.children rest) ≡ none → ⊥
shape_row t rest e = at (is_region t.head) e
  where
    at : (b : Bool) → placed b t.head (shape t.children) (shape rest) ≡ none → ⊥
    at true e = cc
    at false e = cc

module _ (v : Instance) where
  bounded_head : (h : Head) (below rest : Forest) → shape (valued (instance v) (tree h below rest)) ≡ shape reference → has_bounds h ≡ false
  bounded_head (H.Alias k i) below rest e = let f : H.Alias k i ≡ H.Ref M.Not = ap head_of (sym (ap shape (valued_node (instance v) (H.Alias k i) below rest)) ∙ e) in cc
  bounded_head _ below rest e = refl

  dynamic_head : (h : Head) (below rest : Forest) → shape (valued (instance v) (tree h below rest)) ≡ shape reference → is_dynamic h ≡ false
  dynamic_head H.Dynamic below rest e = let f : H.Dynamic ≡ H.Ref M.Not = ap head_of (sym (ap shape (valued_node (instance v) H.Dynamic below rest)) ∙ e) in cc
  dynamic_head _ below rest e = refl

  no_alias : (ts : Forest) → shape (valued (instance v) ts) ≡ shape reference → has_bounds (first_tree ts).head ≡ false
  no_alias none e = refl
  no_alias (tree h below rest) e = bounded_head h below rest e

  no_object : (ts : Forest) → shape (valued (instance v) ts) ≡ shape reference → is_dynamic (first_tree ts).head ≡ false
  no_object none e = refl
  no_object (tree h below rest) e = dynamic_head h below rest e

  no_clauses : (ts : Forest) → shape (valued (instance v) ts) ≡ none → each_of ts ≡ []
  no_clauses none e = refl
  no_clauses (tree h below rest) e =
      absurd (shape_row (unwrap_or (instance v h) (record { head = h; children = valued (instance v) below })) (valued (instance v) rest) (sym (ap shape (valued_node (instance v) h below rest)) ∙ e))

  -- and there is no error in it
  region_mark : (r : RegionKind) → is_error_region (H.Region r) ≡ false → mark F.Error (H.Region r) ≡ false
  region_mark R.Error e = cc
  region_mark _ e = refl

  region_leaf : (r : RegionKind) → is_leaf (H.Region r) ≡ true
  region_leaf (R.Var n) = refl
  region_leaf _ = refl

  beside : (t : Tree) (rest : Forest) → holds (mark F.Error) (shape (tree t.head t.children rest)) ≡ false → holds (mark F.Error) (shape rest) ≡ false
  beside t rest e = at (is_region t.head) e
    where
      at : (b : Bool) → holds (mark F.Error) (placed b t.head (shape t.children) (shape rest)) ≡ false → holds (mark F.Error) (shape rest) ≡ false
      at true e = e
      at false e = (holds_parts (mark F.Error) t.head (shape t.children) (shape rest) e).others

  no_error : (ts : Forest) → IsClean ts → holds (mark F.Error) (shape (valued (instance v) ts)) ≡ false → holds (mark F.Error) ts ≡ false
  no_error none x e = refl
  no_error (tree h below rest) x e =
      node h x.0 x.1 (subst (λ us. holds (mark F.Error) (shape us) ≡ false) (valued_node (instance v) h below rest) e) (no_error below x.2) (no_error rest x.3)
    where
      node : (h : Head) → is_error_region h ≡ false → (is_leaf h ≡ true → holds (mark F.Error) below ≡ false)
          → holds (mark F.Error) (shape (begin (unwrap_or (instance v h) (record { head = h; children = valued (instance v) below })) (valued (instance v) rest))) ≡ false
          → (holds (mark F.Error) (shape (valued (instance v) below)) ≡ false → holds (mark F.Error) below ≡ false)
          → (holds (mark F.Error) (shape (valued (instance v) rest)) ≡ false → holds (mark F.Error) rest ≡ false) → holds (mark F.Error) (tree h below rest) ≡ false
      node (H.Infer y) a leaf e under others =
          whole (mark F.Error) (H.Infer y) below rest refl (leaf refl) (others (beside (unwrap_or (v y) (record { head = H.Infer y; children = valued (instance v) below })) (valued (instance v) rest) e))
      node (H.Region r) a leaf e under others =
          whole (mark F.Error) (H.Region r) below rest (region_mark r a) (leaf (region_leaf r)) (others (beside (record { head = H.Region r; children = valued (instance v) below }) (valued (instance v) rest) e))
      node h a leaf e under others =
          let p = holds_parts (mark F.Error) h (shape (valued (instance v) below)) (shape (valued (instance v) rest)) e in
          whole (mark F.Error) h below rest p.here (under p.under) (others p.others)

-- Nor is there an object in it whatever stands for variables.
no_object_put : (v : Values) → IsOfVariables v → (ts : Forest) → shape (valued v ts) ≡ shape reference → is_dynamic (first_tree ts).head ≡ false
no_object_put v of none e = refl
no_object_put v of (tree h below rest) e = at h e
  where
    at : (h : Head) → shape (valued v (tree h below rest)) ≡ shape reference → is_dynamic h ≡ false
    at H.Dynamic e =
        let stays : valued v (tree H.Dynamic below rest) ≡ tree H.Dynamic (valued v below) (valued v rest) =
        valued_node v H.Dynamic below rest ∙ ap (λ o. begin (unwrap_or o (record { head = H.Dynamic; children = valued v below })) (valued v rest)) (of H.Dynamic refl) in
        let f : H.Dynamic ≡ H.Ref M.Not = ap head_of (sym (ap shape stays) ∙ e) in cc
    at _ e = refl

-- No rule and no impl is declared of a trait, nor is it that of unsizing.
pub record HasNoRules (c : Context) (n : ℕ) : Type 0 where
  pub language : rule_of_trait c n ≡ None
  pub unsizing : is_item c L.Unsize n ≡ false
  pub impls : impls_of c n ≡ []

rules_grown : (d c : Context) (n : ℕ) → Grows d c → HasNoRules d n → HasNoRules c n
rules_grown d c n grows h = subst (λ x. HasNoRules x n) (sym grows.same) (record { language = h.language; unsizing = h.unsizing; impls = h.impls })

abbrev trait_in : Head → ℕ
trait_in (H.Part (P.Clause (Cl.Trait i p))) = i.0
trait_in _ = 0

module _ (d : Context) (l : Listing) (none_listed : l.pairs ≡ []) (n : ℕ) (p : PredicatePolarity) (no_rules : HasNoRules d n) where
  module _ (c : Context) (grows : Grows d c) (g : TraitGoal) (v : Instance) (read : IsReadAs l (AreListed l) g.env g.reference.arguments v none reference) (is_of : g.reference.trait ≡ n) where
    rules : HasNoRules c g.reference.trait
    rules = subst (HasNoRules c) (sym is_of) (rules_grown d c n grows no_rules)

    alike : shape (valued (instance v) g.reference.arguments) ≡ shape reference
    alike = same_shape l none_listed read.arguments

    self_no_alias : has_bounds (first_tree g.reference.arguments).head ≡ false
    self_no_alias = no_alias v g.reference.arguments alike

    linked_no_alias : {b : AliasBoundKind} {t : Tree} → IsLinked trait_rules trait_bounds c (AreListed l) v g b t → has_bounds t.head ≡ false
    linked_no_alias first = self_no_alias
    linked_no_alias (further {t = t} u on is e) = let no : true ≡ false = sym (ap (λ (b : Bool). b || is_opaque t.head) is) ∙ linked_no_alias on in cc

    no_name : (x : Bool) (m : BuiltinRule) → holds (mark F.Error) g.reference.arguments ≡ x → (if x then Some ErrorRule else rule_of_trait c g.reference.trait) ≡ Some m → ⊥
    no_name true m e f =
        let clear : holds (mark F.Error) g.reference.arguments ≡ false = no_error v g.reference.arguments read.clean (subst (λ us. holds (mark F.Error) us ≡ false) (sym alike) refl) in
        let no : true ≡ false = sym e ∙ clear in cc
    no_name false m e f = let no : None ≡ Some m = sym rules.language ∙ f in cc

    no_rule : {r : Rule} → IsRuleUnder trait_rules trait_bounds c (AreListed l) v g r → ⊥
    no_rule (by_clause t there) = none_there t (subst (λ ts. Contains ts t) (no_clauses v g.env (same_shape l none_listed read.env)) there)
    no_rule (by_bound b t on has there) = let no : true ≡ false = sym has ∙ linked_no_alias on in cc
    no_rule (by_addition b t on has there) = let no : true ≡ false = sym has ∙ linked_no_alias on in cc
    no_rule (by_language m is) = no_name (holds (mark F.Error) g.reference.arguments) m refl is
    no_rule (by_unsizing t u supers is target e are there) = let no : true ≡ false = sym is ∙ rules.unsizing in cc
    no_rule (by_impl m i there) = none_there i (subst (λ ms. Contains ms i) (ap (λ ms. non_default_impls c (filter (is_relevant c (first_tree g.reference.arguments)) ms)) rules.impls) there)

    no_own : {own : OwnClause} {more : Forest} {required : List Tree} → IsOwn trait_rules trait_bounds c (AreListed l) v g own more required → ⊥
    no_own h = let no : true ≡ false = sym (has_dynamic c g.reference.trait (first_tree g.reference.arguments) h.clause.has_own) ∙ no_object v g.reference.arguments alike in cc

  reads : (g : TraitGoal) (v : Instance) {e : Env} {ts : Forest} → e ≡ none → ts ≡ reference → IsReadAs l (AreListed l) g.env g.reference.arguments v e ts → IsReadAs l (AreListed l) g.env g.reference.arguments v none reference
  reads g v {e} {ts} a b h = subst (λ e. IsReadAs l (AreListed l) g.env g.reference.arguments v e reference) a (subst (IsReadAs l (AreListed l) g.env g.reference.arguments v e) b h)

  none_derived : (w : Universes) {e : Env} {h : Head} {ts : Forest} → Derivation d l w e h ts → e ≡ none → h ≡ said_by (goal_of n p) → ts ≡ reference → ⊥
  none_derived w (type_outlives e ts) a is b = cc
  none_derived w (region_outlives e ts) a is b = cc
  none_derived w (equation e i ts x) a is b = cc
  none_derived w (types_are_one e ts x) a is b = cc
  none_derived w (constants_are_one e ts x) a is b = cc
  none_derived w (by_rule c g v r end grows agrees rule applies sure x) a is b = no_rule c grows g v (reads g v a b agrees) (ap trait_in is) rule
  none_derived w (by_object c g v own more required start end grows agrees o x y) a is b = no_own c grows g v (reads g v a b agrees) (ap trait_in is) o
  none_derived w (by_projection_rule c g v r end grows agrees rule applies sure x) a is b = cc
  none_derived w (by_own_projection c g v own end grows agrees o x) a is b = cc
  none_derived w (object_assumed {e} {ts} c g v grows of o x y) a is b =
      let no : true ≡ false = sym (has_dynamic c g.reference.trait (first_tree g.reference.arguments) o.has_own) ∙ no_object_put v of g.reference.arguments (same_shape l none_listed (subst (Same l (valued v g.reference.arguments)) b y)) in
      cc

-- A trait of which nothing is declared doesn't hold of `&'static !`, where nothing is listed.
pub not_derived : (d : Context) (l : Listing) (w : Universes) (n : ℕ) (p : PredicatePolarity) → l.pairs ≡ [] → HasNoRules d n → Derivation d l w none (said_by (goal_of n p)) reference → ⊥
not_derived d l w n p none_listed no_rules x = none_derived d l none_listed n p no_rules w x refl refl refl

-- So it is of each trait where nothing is declared at all.

abbrev pub nothing : Context
nothing = record {
  crates = 0;
  local = record { 0 = 0 };
  limits = first_limits;
  declarations = [];
  contents = record { adts = []; traits = []; bounds = []; impls = []; lang_items = []; misnamed = false };
  trees = [];
  declared_nodes = 0;
  delayed_bugs = [];
}

pub nothing_derived : (b : Bool) (w : Universes) (n : ℕ) (p : PredicatePolarity) → Derivation nothing (record { pairs = []; is_open = b }) w none (said_by (goal_of n p)) reference → ⊥
nothing_derived b w n p x = not_derived nothing (record { pairs = []; is_open = b }) w n p refl (record { language = refl; unsizing = refl; impls = refl }) x
