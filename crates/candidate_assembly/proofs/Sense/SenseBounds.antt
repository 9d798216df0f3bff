-- The rules of the bounds of aliases: along the chain of a goal's self type the goal stands, and the trees of these rules are of the state.
use Rattle.std.proofs.Common.{◌≡◌, ◌+◌, ◌≤◌, ◌++◌, ℕ, true, false, Option, Some, None, List, [], ◌∷◌, map, length, slice_get, refl, sym, ap, subst, ◌∙◌, arith}
use Rattle.std.specs.List.{All, Contains, list_any}
use Rattle.std.proofs.lemmas.List.Elements.{All-append, All-contains, All-map, All-nil, All-cons, All-head, All-tail, All-weaker}
use Rattle.std.proofs.lemmas.Option.{slice_get_within}
use Rattle.ir_trees.specs.declared.decl.contents.AliasBoundKind.{AliasBoundKind}
use Rattle.ir_trees.specs.declared.decl.contents.AliasBoundKind.TheVariants.{NonSelfBounds, SelfBounds}
use Rattle.ir_trees.specs.declared.decl.definition.AssocKind.TheVariants as A
use Rattle.ir_trees.specs.declared.decl.definition.DefinitionKind.{DefinitionKind}
use Rattle.ir_trees.specs.declared.decl.definition.DefinitionKind.TheVariants as D
use Rattle.ir_trees.specs.declared.ir.heads.Head.{Head}
use Rattle.ir_trees.specs.declared.ir.heads.Head.TheVariants as H
use Rattle.ir_trees.specs.declared.ir.kinds.Clause.{Clause}
use Rattle.ir_trees.specs.declared.ir.kinds.VarKind.{VarKind}
use Rattle.ir_trees.specs.Syntax.Binders.{escapes}
use Rattle.ir_trees.specs.Declarations.Contents.{Bounds}
use Rattle.ir_trees.specs.Declarations.Context.{Context}
use Rattle.ir_trees.specs.Declarations.Declaration.{Declaration}
use Rattle.ir_trees.specs.Declarations.Declaring.{bounds_at, bounds_place, no_place, place_of}
use Rattle.ir_trees.specs.Validity.Faults.{all_that_is_held}
use Rattle.ir_trees.specs.Instantiation.Folding.{substituted_tree}
use Rattle.ir_trees.specs.Declarations.Lookups.{maybe}
use Rattle.ir_trees.specs.Validity.Held.{bounds_held, definitions_held, held_clause, held_clauses, impls_held}
use Rattle.ir_trees.specs.Validity.Misplaced.{has_self, kinds_of_declared, kinds_of_owner, with_self}
use Rattle.ir_trees.specs.Unification.Substitutions.{alone}
use Rattle.ir_trees.specs.Syntax.Trees.{Tree, binders_of, none}
use Rattle.ir_trees.specs.Validity.WellFormed.{IsWellFormedTable}
use Rattle.ir_trees.specs.Syntax.Words.{clause_tree}
use Rattle.ir_trees.proofs.Instantiation.Folding.{or-left, or-right}
use Rattle.ir_context.proofs.Instantiation.Owned.{none-stray}
use Rattle.ir_context.proofs.Validity.WellFormed.{any-of, any-right, definition-passes}
use Rattle.candidate_eval.specs.declared.eval.certainty.Certainty.TheVariants.{Yes}
use Rattle.candidate_eval.specs.declared.eval.source.CandidateSource.TheVariants.{AliasBound}
use Rattle.candidate_eval.specs.Derivations.ImplRules.{TraitGoal}
use Rattle.candidate_eval.specs.Judges.Lawful.{Lawful}
use Rattle.candidate_eval.specs.Dynamic.ObjectRequirements.{first_tree}
use Rattle.candidate_eval.specs.Derivations.Rules.{Rule, ask}
use Rattle.candidate_eval.specs.Judges.Soundness.{AreTreesOf, GoalsAreOf, IsSound, Live, is_strange}
use Rattle.candidate_eval.specs.Judges.States.{Judge, State}
use Rattle.candidate_eval.proofs.Marks.Closed.{closed, closed-parts}
use Rattle.candidate_eval.proofs.Marks.Holds.{holds_parts}
use Rattle.candidate_assembly.specs.Rules.AliasBounds.{alias_bounds, bounds_by, bounds_of_kind, has_bounds, link, link_rules}
use Rattle.candidate_assembly.specs.Goals.Kinds.{match_rule}
use Rattle.candidate_assembly.specs.Answers.SureAnswers.{ComesAfter, IsOnChain, first, further}
use Rattle.candidate_assembly.specs.Goals.TraitRules.{trait_bounds, trait_rules}
use Rattle.candidate_assembly.proofs.Answers.SureAnswers.{projection-has}
use Rattle.candidate_assembly.proofs.Refusals.KnownHeaders.{filled-closed, filled-unmarked, none-escapes}
use Rattle.candidate_assembly.proofs.Sense.Sense.{StaysKnown, goals-stay, trees-stay}
use Rattle.candidate_assembly.proofs.Sense.SenseKinds.{ClauseIsBare, ClauseIsClosed, bound-is-of, declared-trees, each-held, made-free-tree}
use Rattle.candidate_assembly.specs.Goals.Standing.{StandsWithPending}
use Rattle.candidate_assembly.proofs.Sense.SenseAfter.{after-along, alike-after, follows-after}
use Rattle.candidate_assembly.proofs.Sense.SenseProved.{first-trees}
use Rattle.candidate_assembly.proofs.Sense.SenseRules.{RuleIsOf}
use Rattle.candidate_assembly.proofs.Goals.Standing.{fits-alike, sound-alike, still, strange-alike, strange-later, trees-alike}

-- What is declared of the bounds of an alias, where places of bounds are below the number that says that there is none.

clauses-of-bounds : (P : Clause → Type 0) (w : _) (b : Bounds) (f : _) → list_any f (bounds_held w b) ≡ false → ((x : Clause) → f (held_clause w x) ≡ false → P x) → All P b.self_bounds × All P b.non_self_bounds
clauses-of-bounds P w b f e has =
    let ws = held_clauses w b.self_bounds in
    let os = held_clauses w b.non_self_bounds in
    let weaker = All-weaker (λ x. f (held_clause w x) ≡ false) P has in
    (weaker b.self_bounds (each-held f (held_clause w) b.self_bounds (any-of f ws os e)), weaker b.non_self_bounds (each-held f (held_clause w) b.non_self_bounds (any-right f ws os e)))

module _ (c : Context) (t : IsWellFormedTable c) (few : length c.contents.bounds ≤ no_place) where
  none-past : (b : Bounds) → slice_get c.contents.bounds no_place ≡ Some b → ⊥
  none-past b e = let past = slice_get_within c.contents.bounds no_place b e in omega (arith, few, past)

  bounds-have : (P : Clause → Type 0) (f : _) → list_any f (all_that_is_held c) ≡ false
      → ((w : _) (ks : List VarKind) (x : Clause) → kinds_of_owner c.declarations c.contents.impls w ≡ Some ks → f (held_clause w x) ≡ false → P x) → (n : ℕ) (b : Bounds) → bounds_at c n ≡ Some b
      → All P b.self_bounds × All P b.non_self_bounds
  bounds-have P f e has n b s = of (slice_get c.declarations n) refl
    where
      there : (d : Declaration) → slice_get c.declarations n ≡ Some d → (y : DefinitionKind) → d.kind ≡ y → slice_get c.contents.bounds (bounds_place y) ≡ Some b
      there d q y i = sym (ap (λ (o : Option Declaration). slice_get c.contents.bounds (place_of bounds_place o)) q ∙ ap (λ (z : DefinitionKind). slice_get c.contents.bounds (bounds_place z)) i) ∙ s

      kinds : (d : Declaration) → slice_get c.declarations n ≡ Some d → (y : DefinitionKind) → d.kind ≡ y → All P b.self_bounds × All P b.non_self_bounds
      kinds d q (D.Assoc of A.Type sized k) i =
          let at = there d q (D.Assoc of A.Type sized k) i in
          let own = definition-passes f c.contents 0 c.declarations n n d (any-of f (definitions_held c.contents 0 c.declarations) (impls_held 0 c.contents.impls) e) q (omega arith) in
          let here = rw (i, at) at own in
          clauses-of-bounds P _ b f here (λ x h. has _ (with_self (has_self d.kind) d.parameters) x (ap kinds_of_declared q) h)
      kinds d q (D.Opaque hidden k) i =
          let at = there d q (D.Opaque hidden k) i in
          let own = definition-passes f c.contents 0 c.declarations n n d (any-of f (definitions_held c.contents 0 c.declarations) (impls_held 0 c.contents.impls) e) q (omega arith) in
          let here = rw (i, at) at own in
          clauses-of-bounds P _ b f (or-right _ _ here) (λ x h. has _ (with_self (has_self d.kind) d.parameters) x (ap kinds_of_declared q) h)
      kinds d q (D.Assoc of A.Const sized k) i = absurd (none-past b (there d q (D.Assoc of A.Const sized k) i))
      kinds d q (D.Adt shape flags k) i = absurd (none-past b (there d q (D.Adt shape flags k) i))
      kinds d q (D.Trait flags k) i = absurd (none-past b (there d q (D.Trait flags k) i))
      kinds d q D.Foreign i = absurd (none-past b (there d q D.Foreign i))
      kinds d q (D.Alias x) i = absurd (none-past b (there d q (D.Alias x) i))
      kinds d q (D.Function flags sig) i = absurd (none-past b (there d q (D.Function flags sig) i))
      kinds d q (D.Closure x) i = absurd (none-past b (there d q (D.Closure x) i))

      of : (o : Option Declaration) → slice_get c.declarations n ≡ o → All P b.self_bounds × All P b.non_self_bounds
      of None q = absurd (none-past b (sym (ap (λ (o : Option Declaration). slice_get c.contents.bounds (place_of bounds_place o)) q) ∙ s))
      of (Some d) q = kinds d q d.kind refl

  bounds-bare : (n : ℕ) (b : Bounds) → bounds_at c n ≡ Some b → All (ClauseIsBare c) b.self_bounds × All (ClauseIsBare c) b.non_self_bounds
  bounds-bare =
      bounds-have (ClauseIsBare c) _ (none-stray c t)
      (λ w ks x owner e. let none-is = rw owner at e in made-free-tree _ (clause_tree c.trees x) (or-right _ _ none-is) (or-left _ _ none-is) (λ v. refl) (λ k. refl) (λ p. refl) (λ p. refl) (λ p. refl))

  bounds-closed : (n : ℕ) (b : Bounds) → bounds_at c n ≡ Some b → All (ClauseIsClosed c) b.self_bounds × All (ClauseIsClosed c) b.non_self_bounds
  bounds-closed =
      bounds-have (ClauseIsClosed c) _ (none-escapes c t)
      (λ w ks x owner e. let u = clause_tree c.trees x in closed 0 u.head u.children none (or-left _ _ e) (or-right _ _ e) refl)

  -- each is of every state
  module _ (S : State) (L : Live) where
    abbrev IsOf : Clause → Type 0
    IsOf x = AreTreesOf S L (alone (clause_tree c.trees x))

    both-of : (xs : List Clause) → All (ClauseIsBare c) xs → All (ClauseIsClosed c) xs → All IsOf xs
    both-of [] a b = All-nil IsOf
    both-of (x ∷ xs) a b =
        All-cons IsOf x xs (declared-trees S L (alone (clause_tree c.trees x)) (All-head (ClauseIsBare c) x xs a) (All-head (ClauseIsClosed c) x xs b))
        (both-of xs (All-tail (ClauseIsBare c) x xs a) (All-tail (ClauseIsClosed c) x xs b))

    pub bounds-of : (k : AliasBoundKind) (n : ℕ) → All IsOf (bounds_of_kind c k n)
    bounds-of SelfBounds n = at (bounds_at c n) refl
      where
        at : (o : Option Bounds) → bounds_at c n ≡ o → All IsOf (maybe [] (λ b. b.self_bounds) o)
        at None e = All-nil IsOf
        at (Some b) e = both-of b.self_bounds (bounds-bare n b e).0 (bounds-closed n b e).0
    bounds-of NonSelfBounds n = at (bounds_at c n) refl
      where
        at : (o : Option Bounds) → bounds_at c n ≡ o → All IsOf (maybe [] (λ b. b.non_self_bounds) o)
        at None e = All-nil IsOf
        at (Some b) e = both-of b.non_self_bounds (bounds-bare n b e).1 (bounds-closed n b e).1

    bounds-by : (k : AliasBoundKind) (h : Head) → All IsOf (bounds_by c k h)
    bounds-by k (H.Alias a i) = bounds-of k i.0
    bounds-by k _ = All-nil IsOf

    -- with the alias's arguments for the parameters
    alias-bounds-of : (k : AliasBoundKind) (u : Tree) → AreTreesOf S L u.children → All (λ x. AreTreesOf S L (alone x)) (alias_bounds c k u)
    alias-bounds-of k u args =
        All-map (λ x. AreTreesOf S L (alone x)) (λ (x : Clause). substituted_tree u.children (clause_tree c.trees x)) (bounds_by c k u.head)
        (All-weaker IsOf (λ (x : Clause). AreTreesOf S L (alone (substituted_tree u.children (clause_tree c.trees x))))
        (λ x a. record {
          known = filled-unmarked (is_strange S L) refl (λ v. refl) (λ v. refl) (λ v. refl) u.children args.known (is_strange S L) (λ h z. z) (alone (clause_tree c.trees x)) a.known;
          is_closed = filled-closed u.children args.is_closed 0 0 (alone (clause_tree c.trees x)) a.is_closed;
        })
        (bounds_by c k u.head) (bounds-by k u.head))

-- Along the chain.

no-binders : (h : Head) → has_bounds h ≡ true → binders_of h ≡ 0
no-binders (H.Alias k i) e = refl
no-binders _ e = absurd cc

pub arguments-of : (S : State) (L : Live) (t : Tree) → has_bounds t.head ≡ true → AreTreesOf S L (alone t) → AreTreesOf S L t.children
arguments-of S L t has a =
    let p = holds_parts (is_strange S L) t.head t.children none a.known in
    let q = closed-parts 0 t.head t.children none a.is_closed in
    record { known = p.under; is_closed = subst (λ n. escapes n t.children ≡ false) (ap (λ n. 0 + n) (no-binders t.head has)) q.under }

-- The goal stands at a state that comes after the first, and the tree is of it.
pub record StandsAfter (S : State) (L : Live) (T : State) (g : TraitGoal) (t : Tree) : Type 0 where
  pub after : ComesAfter S T L
  pub stands : StandsWithPending T after.live g
  pub tree : AreTreesOf T after.live (alone t)

module _ (J : Judge) (law : Lawful J) where
  -- at a state alike one
  pub alike-stands : (S T : State) (L : Live) (g : TraitGoal) (t : Tree) → J.alike S T → StandsWithPending S L g → AreTreesOf S L (alone t) → StandsAfter S L T g t
  alike-stands S T L g t like s a =
      let looks = law.alike_judged_alike.alike_looks S T like in
      let M = still S L in
      let stays : StaysKnown S L T M = strange-alike S T looks L in
      record {
        after = alike-after S T looks L s.sound s.fits;
        stands = record {
          sound = sound-alike S T looks L s.sound;
          fits = fits-alike S T looks L s.fits;
          goals = subst (GoalsAreOf T M) (sym looks.pending) (goals-stay S L T M stays S.pending s.goals);
          env = trees-alike S T looks L g.env s.env;
          arguments = trees-alike S T looks L g.reference.arguments s.arguments;
        };
        tree = trees-alike S T looks L (alone t) a;
      }

  -- with the tree in normal form
  pub form-stands : (V U : State) (M : Live) (g : TraitGoal) (t u : Tree) → StandsWithPending V M g → AreTreesOf V M (alone t) → J.normalized V g.env t ≡ Some (u, U) → StandsAfter V M U g u
  form-stands V U M g t u s a is =
      let n = law.normal_forms.normalizing_follows V U M g.env t u s.sound s.fits s.env a is in
      let f = n.follows in
      let N = f.live in
      let stays : StaysKnown V M U N = strange-later V U M N f.within f.later in
      let kept = law.normal_forms.normalizing_keeps_pending V U g.env t u is in
      record {
        after = follows-after V U M f;
        stands = record {
          sound = f.sound;
          fits = f.fits;
          goals = subst (GoalsAreOf U N) (sym kept) (goals-stay V M U N stays V.pending s.goals);
          env = trees-stay V M U N stays g.env s.env;
          arguments = trees-stay V M U N stays g.reference.arguments s.arguments;
        };
        tree = n.tree;
      }

  pub stands-along : (S T U : State) (L : Live) (g : TraitGoal) (t u : Tree) → IsSound S L → (x : StandsAfter S L T g t) → StandsAfter T x.after.live U g u → StandsAfter S L U g u
  stands-along S T U L g t u sound x y = record { after = after-along S T U L sound x.after y.after; stands = y.stands; tree = y.tree }

  -- and so along the chain
  pub chain-stands : (c : Context) (S : State) (L : Live) (g : TraitGoal) → StandsWithPending S L g → (b : AliasBoundKind) (T : State) (t : Tree) → IsOnChain trait_rules trait_bounds J c S g b T t → StandsAfter S L T g t
  chain-stands c S L g s _ T _ (first like) = alike-stands S T L g (first_tree g.reference.arguments) like s (first-trees S L g.reference.arguments s.arguments)
  chain-stands c S L g s _ U u (further b T V t on proj like is) =
      let x = chain-stands c S L g s b T t on in
      let y = alike-stands T V x.after.live g t like x.stands x.tree in
      let z = form-stands V U y.after.live g (first_tree t.children) u y.stands (first-trees V y.after.live t.children (arguments-of V y.after.live t (projection-has t.head proj) y.tree)) is in
      stands-along S T U L g t u s.sound x (stands-along T V U x.after.live g t u x.stands.sound y z)

  -- So the rule of a bound has its trees of the state at which the alias stands.
  pub bound-rule-is-of : (c : Context) → IsWellFormedTable c → length c.contents.bounds ≤ no_place → (T : State) (M : Live) (g : TraitGoal) (b : AliasBoundKind) (t : Tree) → has_bounds t.head ≡ true → StandsWithPending T M g
      → AreTreesOf T M (alone t) → (r : Rule) → Contains (link_rules trait_rules trait_bounds.additional c g (link b T t)).rules r → RuleIsOf T M r
  bound-rule-is-of c w few T M g b t has s a r there =
      let rule = λ (x : Tree). match_rule trait_rules c g x [] (ask (AliasBound b) Yes) in
      let rules = map rule (alias_bounds c b t) in
      let all : All (RuleIsOf T M) rules =
      All-map (RuleIsOf T M) rule (alias_bounds c b t)
      (All-weaker (λ x. AreTreesOf T M (alone x)) (λ x. RuleIsOf T M (rule x)) (λ x h. bound-is-of T M g s.env s.arguments c x (AliasBound b) Yes h) (alias_bounds c b t) (alias-bounds-of c w few T M b t (arguments-of T M t has a))) in
      All-contains (RuleIsOf T M) (rules ++ []) r (All-append (RuleIsOf T M) rules [] all (All-nil (RuleIsOf T M))) there
