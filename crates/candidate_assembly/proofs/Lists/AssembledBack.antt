-- The list of a goal's candidates, as it is where the context hadn't grown yet, and at the state before.
use Rattle.std.proofs.Common.{◌≡◌, ◌∙◌, ℕ, refl, sym, ap, subst, List, [], ◌∷◌, length, map}
use Rattle.std.specs.Prelude.{Option, Some, None, if◌then◌else◌}
use Rattle.std.specs.List.{All}
use Rattle.std.proofs.lemmas.List.Elements.{All-cons, All-nil}
use Rattle.ir_trees.specs.declared.decl.contents.ImplId.{ImplId}
use Rattle.ir_trees.specs.declared.decl.contents.LangItem.TheVariants as L
use Rattle.ir_trees.specs.declared.ir.heads.Flag.TheVariants as F
use Rattle.ir_trees.specs.declared.ir.heads.Head.{Head}
use Rattle.ir_trees.specs.declared.ir.kinds.Args.{Args}
use Rattle.ir_trees.specs.declared.ir.kinds.ParamEnv.{ParamEnv}
use Rattle.ir_trees.specs.declared.ir.kinds.Ty.{Ty}
use Rattle.ir_trees.specs.Declarations.Context.{Context, Grows, world}
use Rattle.ir_trees.specs.Syntax.Flags.{mark}
use Rattle.ir_trees.specs.Unification.Impls.{relevant_impls}
use Rattle.ir_trees.specs.Unification.Substitutions.{alone}
use Rattle.ir_trees.specs.Syntax.Trees.{Forest, none, tree, Tree, TypeKind, holds}
use Rattle.ir_trees.specs.Validity.WellFormed.{IsWellFormedTable}
use Rattle.ir_trees.specs.Declarations.Worlds.{Fits, Reference, TraitSort, World, joined, kinds_of, parameters}
use Rattle.ir_trees.proofs.Growth.Kept.{world-kept}
use Rattle.candidate_eval.specs.declared.eval.mode.TypingMode.{TypingMode}
use Rattle.candidate_eval.specs.declared.eval.source.CandidateSource.TheVariants as Source
use Rattle.candidate_eval.specs.Judges.Alike.{JudgesAlike}
use Rattle.candidate_eval.specs.Derivations.Judging.{Judged}
use Rattle.candidate_eval.specs.Derivations.Mentions.{IsBelow, RuleBelow, is_from}
use Rattle.candidate_eval.specs.Dynamic.ObjectRequirements.{first_tree}
use Rattle.candidate_eval.specs.Dynamic.Required.{each_of}
use Rattle.candidate_eval.specs.Outcomes.Responses.{Candidate}
use Rattle.candidate_eval.specs.Derivations.Rules.{Rule, characterise, settle}
use Rattle.candidate_eval.specs.Judges.States.{Judge, State}
use Rattle.candidate_eval.proofs.Marks.Holds.{holds_parts}
use Rattle.candidate_eval.proofs.Marks.Marking.{unmarked}
use Rattle.candidate_assembly.specs.declared.assembly.opaques.AssembleCandidatesFrom.{AssembleCandidatesFrom}
use Rattle.candidate_assembly.specs.Answers.Assembled.{AfterWhereBounds, IfUnsizing, ThenImplsAndObjects, ThenUnsizing, asked, by_clauses, by_objects, everything, followed, impl_rule, impl_rules, language_rules, leaves_out, left_out, named_rules, not_asked, rule_name, rule_of_trait, stopped as impls_stop, trait_of, where_rule, where_rules}
use Rattle.candidate_assembly.specs.Laws.BuiltinLaws.{nodes_fit, relevant_stay}
use Rattle.candidate_assembly.specs.Goals.KindBounds.{KindBounds, UnsizingList, no_target, refused, rules as by_rules}
use Rattle.candidate_assembly.specs.Calls.Earlier.{IsEarlier}
use Rattle.candidate_assembly.specs.Goals.KindLaws.{KindLaws, ReferenceFits}
use Rattle.candidate_assembly.specs.Goals.Kinds.{BuiltinRule, ErrorRule, GoalBelow, IsGoal, KindRules, rule_of_part, self_type}
use Rattle.candidate_assembly.specs.Answers.Listing.{GoesOn, Listed, Lists, answers, lists, stops, together}
use Rattle.candidate_assembly.specs.Rules.ObjectBounds.{ObjectJudged, ObjectList, ObjectsAnswer, OwnClause, answer, none_left, nothing, one, own_clauses, rejected, required, stopped, unknown, unmatched}
use Rattle.candidate_assembly.proofs.Objects.ObjectLaws.{object_list_back}
use Rattle.candidate_assembly.specs.Rules.Opaques.{non_default_impls}
use Rattle.candidate_assembly.proofs.Objects.SuperLaws.{first_fits, unsizing_supers_back}
use Rattle.candidate_assembly.specs.Goals.TraitGoals.{is_item}
use Rattle.candidate_assembly.specs.Rules.BuiltinRules.{pair_of}
use Rattle.candidate_assembly.specs.Rules.Unsizing.{AreUnsizingSupers}
use Rattle.candidate_assembly.proofs.Aliases.AliasChains.{answers-alike}
use Rattle.candidate_assembly.proofs.Rules.PureFolder.{rule-moved}
use Rattle.candidate_assembly.proofs.Rules.MatchesBelow.{steps-joined}

-- A context that has grown, and a state alike one of whose variables the goal is, which is d as the grown context has it.
pub record MovesOn {G : Type 0} (K : KindRules G) (J : Judge) (old new : Context) (S T : State) (g d : G) : Type 0 where
  pub law : JudgesAlike J
  pub table : IsWellFormedTable old
  pub grows : Grows old new
  pub fits : ReferenceFits K old g
  pub same_goal : d ≡ g
  pub alike : J.alike S T
  pub below : GoalBelow K (length S.variables) g
  pub builtins : (r : BuiltinRule) → RuleBelow (length S.variables) (K.builtin_rule r old g)

-- A goal's reference fits in each earlier context.
pub fits-before : {G P : Type 0} {K : KindRules G} {B : KindBounds G} {arguments : P → Args} {types : P → List Ty} {see : List Tree → ParamEnv → P → G} → KindLaws K B arguments types see → (c now : Context) (env : ParamEnv) (p : P)
    → IsEarlier c now → IsWellFormedTable now → IsGoal K arguments types see now env p → ReferenceFits K c (see now.trees env p)
fits-before {K = K} {see = see} laws c now env p e table goal =
    let g = see now.trees env p in
    let same : K.reference_of now g ≡ K.reference_of c g = laws.stay.reference c now e.table e.grows g in
    let w : world now ≡ world c = (world-kept c now e.grows).0 in
    record {
      takes = subst (λ (r : Reference). joined (Some (TypeKind ∷ [])) (parameters (world c) TraitSort r.trait) ≡ Some (kinds_of r.arguments)) same
          (subst (λ (v : World). joined (Some (TypeKind ∷ [])) (parameters v TraitSort (K.reference_of now g).trait) ≡ Some (kinds_of (K.reference_of now g).arguments)) w goal.fit);
      fits = subst (λ (r : Reference). Fits (world c) r.arguments) same (subst (λ (v : World). Fits v (K.reference_of now g).arguments) w (laws.arguments now table env p goal));
    }

-- The rules of the language mention no other variables than the goal, in each earlier context.
pub builtins-before : {G P : Type 0} {K : KindRules G} {B : KindBounds G} {arguments : P → Args} {types : P → List Ty} {see : List Tree → ParamEnv → P → G} → KindLaws K B arguments types see → (c now : Context) (env : ParamEnv) (p : P)
    → IsEarlier c now → IsWellFormedTable now → IsGoal K arguments types see now env p → (n : ℕ) → GoalBelow K n (see now.trees env p) → (r : BuiltinRule) → RuleBelow n (K.builtin_rule r c (see now.trees env p))
builtins-before {see = see} laws c now env p e table goal n below r =
    subst (RuleBelow n) (laws.stay.builtins c now e.table e.grows (see now.trees env p) (fits-before laws c now env p e table goal) r)
    (laws.below.builtins now table (nodes_fit now table) n r env p goal below)

-- An object's own bounds, at a state that is alike.
module _ {G : Type 0} (K : KindRules G) (J : Judge) (law : JudgesAlike J) (c : Context) (S T : State) (g : G) (like : J.alike S T) where
  clause-alike : (o : OwnClause) (j : Judged) → ObjectJudged K J c T g o j → ObjectJudged K J c S g o j
  clause-alike o j (rejected e) = rejected e
  clause-alike o j (unmatched U a q m) = unmatched U (law.alike_along S T U like a) q m
  clause-alike o j (required U V p goals a q m k) = required U V p goals (law.alike_along S T U like a) q m k
  clause-alike o j (unknown U V p a q m k) = unknown U V p (law.alike_along S T U like a) q m k

  clauses-alike : (os : List OwnClause) (l : Listed) → ObjectsAnswer K J c T g os l → ObjectsAnswer K J c S g os l
  clauses-alike [] l none_left = none_left
  clauses-alike (o ∷ os) l (one {j = j} {l = rest} h r) = one (clause-alike o j h) (clauses-alike os rest r)
  clauses-alike (o ∷ os) l (stopped h) = stopped (clause-alike o _ h)

  object-list-alike : (l : Listed) → ObjectList K J c T g l → ObjectList K J c S g l
  object-list-alike l (nothing e) = nothing e
  object-list-alike l (answer supers e s a) = answer supers e s (clauses-alike (own_clauses (self_type K c g) supers) l a)

-- Rules mention the goal's variables.

all-in : {X : Type 0} (f : X → Rule) (n : ℕ) (xs : List X) → ((x : X) → RuleBelow n (f x)) → All (RuleBelow n) (map f xs)
all-in f n [] h = All-nil (RuleBelow n)
all-in f n (x ∷ xs) h = All-cons (RuleBelow n) (f x) (map f xs) (h x) (all-in f n xs h)

module _ {G P : Type 0} (K : KindRules G) (B : KindBounds G) {arguments : P → Args} {types : P → List Ty} {see : List Tree → ParamEnv → P → G} (laws : KindLaws K B arguments types see)
    {J : Judge} {old new : Context} {S T : State} {seen later : G} (m : MovesOn K J old new S T seen later) where
  same-mode : T.mode ≡ S.mode
  same-mode = (m.law.alike_looks S T m.alike).mode

  same-reference : K.reference_of new seen ≡ K.reference_of old seen
  same-reference = laws.stay.reference old new m.table m.grows seen

  same-fits : (h : Head) → K.fits new seen h ≡ K.fits old seen h
  same-fits = laws.stay.fits old new m.table m.grows seen

  same-trait : trait_of K new seen ≡ trait_of K old seen
  same-trait = ap (λ (r : Reference). r.trait) same-reference

  same-self : self_type K new seen ≡ self_type K old seen
  same-self = ap (λ (r : Reference). first_tree r.arguments) same-reference

  -- Clauses of the environment.

  abbrev env-rules : Context → Forest → List Rule
  env-rules c e = map (where_rule K c seen) (each_of e)

  where-stay : (ts : Forest) → env-rules new ts ≡ env-rules old ts
  where-stay none = refl
  where-stay (tree h below rest) =
      let t : Tree = record { head = h; children = below } in
      ap (λ r. r ∷ env-rules new rest) (rule-moved K old new seen seen t t (settle ∷ []) (characterise t) (characterise t) refl refl same-fits refl)
      ∙ ap (λ rs. where_rule K old seen t ∷ rs) (where-stay rest)

  where-below : (ts : Forest) → IsBelow (length S.variables) ts → All (RuleBelow (length S.variables)) (env-rules old ts)
  where-below none e = All-nil (RuleBelow (length S.variables))
  where-below (tree h below rest) e =
      let t : Tree = record { head = h; children = below } in
      let q = holds_parts (is_from (length S.variables)) h below rest e in
      let there : IsBelow (length S.variables) (alone t) = unmarked (is_from (length S.variables)) h below none q.here q.under refl in
      let first : RuleBelow (length S.variables) (where_rule K old seen t) = record {
        env = m.below.env;
        steps = steps-joined (length S.variables) (K.match_steps seen t) (settle ∷ []) (laws.below.matches (length S.variables) seen t m.below.trees there) (tt, tt);
        ending = there;
      } in
      All-cons (RuleBelow (length S.variables)) (where_rule K old seen t) (env-rules old rest) first (where-below rest q.others)

  pub where-back : answers J T (where_rules K new later) ≡ answers J S (where_rules K old seen)
  where-back =
      ap (λ x. answers J T (where_rules K new x)) m.same_goal
      ∙ (ap (answers J T) (where-stay (K.env_of seen))
      ∙ answers-alike J m.law S T (where_rules K old seen) m.alike (where-below (K.env_of seen) m.below.env))

  -- The rule of the language.

  item-stays : (i : _) → is_item new i (trait_of K new seen) ≡ is_item old i (trait_of K old seen)
  item-stays i = ap (is_item new i) same-trait ∙ ap (λ (c : Context). is_item c i (trait_of K old seen)) m.grows.same

  name-stays : rule_name K new seen ≡ rule_name K old seen
  name-stays =
      ap (λ o. if holds (mark F.Error) (K.trees_of seen) then Some ErrorRule else o)
      (ap (rule_of_trait new) same-trait ∙ ap (λ (c : Context). rule_of_trait c (trait_of K old seen)) m.grows.same)

  named-stay : (o : Option BuiltinRule) → named_rules K new seen o ≡ named_rules K old seen o
  named-stay None = refl
  named-stay (Some r) =
      ap (λ x. x ∷ []) (laws.stay.builtins old new m.table m.grows seen m.fits r)

  named-below : (o : Option BuiltinRule) → All (RuleBelow (length S.variables)) (named_rules K old seen o)
  named-below None = All-nil (RuleBelow (length S.variables))
  named-below (Some r) =
      All-cons (RuleBelow (length S.variables)) (K.builtin_rule r old seen) []
      (m.builtins r) (All-nil (RuleBelow (length S.variables)))

  pub language-back : answers J T (language_rules K new later) ≡ answers J S (language_rules K old seen)
  language-back =
      ap (λ x. answers J T (language_rules K new x)) m.same_goal
      ∙ (ap (λ o. answers J T (named_rules K new seen o)) name-stays
      ∙ (ap (answers J T) (named-stay (rule_name K old seen))
      ∙ answers-alike J m.law S T (language_rules K old seen) m.alike (named-below (rule_name K old seen))))

  -- Impls.

  impls-stay : (d : TypingMode) (xs : List ImplId) → map (impl_rule K new d seen) xs ≡ map (impl_rule K old d seen) xs
  impls-stay d [] = refl
  impls-stay d (x ∷ xs) =
      ap (λ r. r ∷ map (impl_rule K new d seen) xs) (ap (rule_of_part (K.env_of seen) (Source.Impl x)) (laws.stay.impls old new m.table m.grows d seen x))
      ∙ ap (λ rs. impl_rule K old d seen x ∷ rs) (impls-stay d xs)

  impl-below : (d : TypingMode) (x : ImplId) → RuleBelow (length S.variables) (impl_rule K old d seen x)
  impl-below d x = record { env = m.below.env; steps = laws.below.impls old m.table (length S.variables) d seen x m.below.trees; ending = tt }

  impl-rules-stay : (d : TypingMode) → impl_rules K new d seen ≡ impl_rules K old d seen
  impl-rules-stay d =
      let n = trait_of K old seen in
      let u = self_type K old seen in
      ap (map (impl_rule K new d seen))
      (ap (λ (r : Reference). non_default_impls new (relevant_impls new r.trait (first_tree r.arguments))) same-reference
      ∙ (ap (non_default_impls new) (relevant_stay old new m.table m.grows n u) ∙ ap (λ (c : Context). non_default_impls c (relevant_impls old n u)) m.grows.same))
      ∙ impls-stay d (non_default_impls old (relevant_impls old n u))

  pub impls-back : answers J T (impl_rules K new T.mode later) ≡ answers J S (impl_rules K old S.mode seen)
  impls-back =
      ap (λ x. answers J T (impl_rules K new T.mode x)) m.same_goal
      ∙ (ap (λ d. answers J T (impl_rules K new d seen)) same-mode
      ∙ (ap (answers J T) (impl-rules-stay S.mode)
      ∙ answers-alike J m.law S T (impl_rules K old S.mode seen) m.alike (all-in (impl_rule K old S.mode seen) (length S.variables) (non_default_impls old (relevant_impls old (trait_of K old seen) (self_type K old seen))) (impl-below S.mode))))

  -- An object's own bounds.
  pub objects-back : (l : Listed) → ObjectList K J new T later l → ObjectList K J old S seen l
  objects-back l x =
      object-list-alike K J m.law old S T seen m.alike l
      (object_list_back K J old new m.table m.grows T seen same-reference same-fits m.fits.fits l (subst (λ g. ObjectList K J new T g l) m.same_goal x))

  -- Unsizing.

  supers-back : (u : Tree) (supers : List Tree) → AreUnsizingSupers new (self_type K new seen) u supers → AreUnsizingSupers old (self_type K old seen) u supers
  supers-back u supers s =
      unsizing_supers_back old new m.table m.grows (self_type K old seen) u (first_fits (world old) (K.reference_of old seen).arguments m.fits.fits).below supers
      (subst (λ v. AreUnsizingSupers new v u supers) same-self s)

  fits-back : (u : Tree) → Fits (world new) (pair_of (self_type K new seen) u) → Fits (world old) (pair_of (self_type K old seen) u)
  fits-back u f =
      subst (λ (x : Tree). Fits (world old) (pair_of x u)) same-self
      (subst (λ (c : Context). Fits (world c) (pair_of (self_type K new seen) u)) m.grows.same f)

  pub unsizing-back : (l : Listed) → UnsizingList K B J new T later l → UnsizingList K B J old S seen l
  unsizing-back l x = of l (subst (λ g. UnsizingList K B J new T g l) m.same_goal x)
    where
      of : (l : Listed) → UnsizingList K B J new T seen l → UnsizingList K B J old S seen l
      of _ (no_target e) = no_target e
      of _ (refused U e a n) = refused U e (m.law.alike_along S T U m.alike a) n
      of _ (by_rules {u = u} {U = V} U supers e a n s f) =
          subst (λ rs. UnsizingList K B J old S seen (answers J V rs)) (sym (laws.stay.unsizing old new m.table m.grows supers seen u))
          (by_rules U supers e (m.law.alike_along S T U m.alike a) n (supers-back u supers s) (fits-back u f))

  item-now : is_item new L.Unsize (trait_of K new later) ≡ is_item old L.Unsize (trait_of K old seen)
  item-now = ap (λ g. is_item new L.Unsize (trait_of K new g)) m.same_goal ∙ item-stays L.Unsize

  pub if-unsizing-back : (l : Listed) → IfUnsizing K B new J T later l → IfUnsizing K B old J S seen l
  if-unsizing-back _ (not_asked e) = not_asked (sym item-now ∙ e)
  if-unsizing-back l (asked e u) = asked (sym item-now ∙ e) (unsizing-back l u)

  -- All that goes on from a list.

  pub with-impls-back : (xs : List Candidate) (l : Listed) → ThenImplsAndObjects K B new J T later xs l → ThenImplsAndObjects K B old J S seen xs l
  with-impls-back xs _ (left_out e) = left_out (sym (ap (λ d. leaves_out d xs) same-mode) ∙ e)
  with-impls-back xs _ (impls_stop e q) = impls_stop (sym (ap (λ d. leaves_out d xs) same-mode) ∙ e) (sym impls-back ∙ q)
  with-impls-back xs _ (followed {l = l} e o) =
      subst (λ a. ThenImplsAndObjects K B old J S seen xs (together (Lists xs) (together a l))) (sym impls-back)
      (followed (sym (ap (λ d. leaves_out d xs) same-mode) ∙ e) (objects-back l o))

  goes-back : (R Q : List Candidate → Listed → Type 0) → ((xs : List Candidate) (l : Listed) → R xs l → Q xs l) → (a l : Listed) → GoesOn R a l → GoesOn Q a l
  goes-back R Q f _ _ stops = stops
  goes-back R Q f _ l (lists {xs = xs} r) = lists (f xs l r)

  pub with-unsizing-back : (xs : List Candidate) (l : Listed) → ThenUnsizing K B new J T later xs l → ThenUnsizing K B old J S seen xs l
  with-unsizing-back xs l w = record {
    unsized = w.unsized;
    by_unsizing = if-unsizing-back w.unsized w.by_unsizing;
    further = goes-back (ThenImplsAndObjects K B new J T later) (ThenImplsAndObjects K B old J S seen) with-impls-back (together (Lists xs) w.unsized) l w.further;
  }

  pub further-back : (xs : List Candidate) (from : AssembleCandidatesFrom) (l : Listed) → AfterWhereBounds K B new J T later xs from l → AfterWhereBounds K B old J S seen xs from l
  further-back xs _ l (everything o) =
      everything (subst (λ a. GoesOn (ThenUnsizing K B old J S seen) (together (Lists xs) a) l) language-back
      (goes-back (ThenUnsizing K B new J T later) (ThenUnsizing K B old J S seen) with-unsizing-back (together (Lists xs) (answers J T (language_rules K new later))) l o))
  further-back xs _ _ (by_clauses e) = by_clauses e
  further-back xs _ _ (by_objects {l = l} e o) = by_objects e (objects-back l o)
