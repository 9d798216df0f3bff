-- The list of a goal whose self type is a general variable, from one context to the next.
use Rattle.std.proofs.Common.{◌≡◌, arith, ℕ, suc, All, List, [], ◌∷◌, ◌++◌, length, map, refl, sym, ap, subst, ◌∙◌, Result, Ok, Err}
use Rattle.std.specs.Prelude.{IfSome, Option, Some, None, if◌then◌else◌}
use Rattle.std.specs.List.{filter, flat_map}
use Rattle.std.proofs.lemmas.List.{map-append}
use Rattle.std.proofs.lemmas.List.Elements.{All-map, All-nil}
use Rattle.ir_trees.specs.declared.decl.contents.AliasBoundKind.TheVariants.{SelfBounds}
use Rattle.ir_trees.specs.declared.decl.contents.ImplId.{ImplId}
use Rattle.ir_trees.specs.declared.ir.heads.Head.{Head}
use Rattle.ir_trees.specs.declared.ir.kinds.AliasTy.{AliasTy}
use Rattle.ir_trees.specs.declared.ir.kinds.Args.{Args}
use Rattle.ir_trees.specs.declared.ir.kinds.Clause.{Clause}
use Rattle.ir_trees.specs.declared.ir.kinds.ParamEnv.{ParamEnv}
use Rattle.ir_trees.specs.declared.ir.kinds.Ty.{Ty}
use Rattle.ir_trees.specs.declared.ir.kinds.TyKind.TheVariants as TK
use Rattle.ir_trees.specs.declared.ir.stop.Stop.{Stop}
use Rattle.ir_trees.specs.Declarations.Context.{Context, Grows}
use Rattle.ir_trees.specs.Declarations.Contents.{Impl}
use Rattle.ir_trees.specs.Declarations.Declaring.{impl_at}
use Rattle.ir_trees.specs.Unification.Impls.{blanket_impls, impls_of, is_blanket, is_for_parameter, listed_type, self_type as type_of_impl}
use Rattle.ir_trees.specs.Syntax.Nodes.{kind_at}
use Rattle.ir_trees.specs.Syntax.Trees.{Tree}
use Rattle.ir_trees.specs.Validity.WellFormed.{ImplIsGiven, IsWellFormedTable}
use Rattle.ir_trees.specs.Syntax.Words.{clause_tree, kind_tree}
use Rattle.ir_trees.specs.Declarations.Worlds.{Reference}
use Rattle.ir_context.proofs.Validity.Given.{impl_given}
use Rattle.ir_trees.proofs.Growth.Kept.{args-kept, grows-trans}
use Rattle.candidate_eval.specs.declared.eval.mode.TypingMode.{TypingMode}
use Rattle.candidate_eval.specs.declared.eval.response.Candidate.{Candidate as OfNumbers}
use Rattle.candidate_eval.specs.declared.eval.source.CandidateSource.TheVariants as Source
use Rattle.candidate_eval.specs.Interface.Accounts.{Account}
use Rattle.candidate_eval.specs.Judges.Alike.{JudgesAlike}
use Rattle.candidate_eval.specs.Outcomes.Certainties.{AMBIGUOUS}
use Rattle.candidate_eval.specs.Interface.Evaluators.{Keeps, alias_trees}
use Rattle.candidate_eval.specs.Derivations.Mentions.{RuleBelow, is_from}
use Rattle.candidate_eval.specs.Dynamic.ObjectRequirements.{first_tree}
use Rattle.candidate_eval.specs.Dynamic.Required.{self_bounds}
use Rattle.candidate_eval.specs.Outcomes.ResponseTrees.{AreCandidates, candidates_of}
use Rattle.candidate_eval.specs.Derivations.Rules.{Rule, ask, still_general}
use Rattle.candidate_eval.specs.Judges.States.{Judge, State}
use Rattle.candidate_eval.proofs.Interface.Accounts.{reaches}
use Rattle.candidate_eval.proofs.Interface.Probing.{then as after}
use Rattle.candidate_assembly.specs.declared.assembly.opaques.AssembleCandidatesFrom.{AssembleCandidatesFrom}
use Rattle.candidate_assembly.specs.declared.assembly.opaques.AssembleCandidatesFrom.TheVariants as From
use Rattle.candidate_assembly.specs.Rules.AliasBounds.{alias_bounds}
use Rattle.candidate_assembly.specs.Calls.AliasChains.{IsBoundedAlias}
use Rattle.candidate_assembly.specs.Calls.Earlier.{AtEachEarlier, IsEarlier}
use Rattle.candidate_assembly.specs.Goals.KindBounds.{KindBounds}
use Rattle.candidate_assembly.specs.Goals.KindLaws.{KindLaws}
use Rattle.candidate_assembly.specs.Goals.Kinds.{GoalBelow, KindRules, self_type}
use Rattle.candidate_assembly.specs.Answers.Listing.{ConsidersAll, Listed, Lists, Stops, after_these, answers, together}
use Rattle.candidate_assembly.specs.Rules.Opaques.{ambiguous_rule, bounds_said, hidden_behind, open_impl_rule, open_impl_rules, open_rule_of, open_rules, opaque_rules, non_default_impls, with_type_for}
use Rattle.candidate_assembly.proofs.Aliases.AliasChains.{alike-then, answers-alike, bounds-fit, list-as, same-bounds}
use Rattle.candidate_assembly.proofs.Rules.PureFolder.{rule-moved}
use Rattle.candidate_assembly.proofs.Calls.Causes.{later, so-err}
use Rattle.candidate_assembly.proofs.Aliases.Chains.{together-empty}
use Rattle.candidate_assembly.proofs.Lists.Listing.{answers-joined}
use Rattle.candidate_assembly.proofs.Rules.MatchesBelow.{steps-joined}
use Rattle.candidate_assembly.proofs.Opaques.SaidBounds.{put, put-kept}

-- Impls for any type, where a context has grown.
module _ (old new : Context) (t : IsWellFormedTable old) (g : Grows old new) where
  header-stays : (i : ImplId) → type_of_impl new.trees (impl_at new i) ≡ type_of_impl old.trees (impl_at old i)
  header-stays i = ap (λ (c : Context). type_of_impl new.trees (impl_at c i)) g.same ∙ of (impl_at old i) (impl_given old t i)
    where
      of : (o : Option Impl) → IfSome o (ImplIsGiven old) → type_of_impl new.trees o ≡ type_of_impl old.trees o
      of None h = refl
      of (Some x) h =
          let a = args-kept old new x.trait_ref.args g h.header.list in
          let k : kind_at new.trees x.trait_ref.args.0 ≡ kind_at old.trees x.trait_ref.args.0 = a.0 ∙ sym h.header.list in
          λ j. listed_type (k j) (a.1 j)

  blanket-among : (is : List ImplId) → filter (is_blanket new) is ≡ filter (is_blanket old) is
  blanket-among [] = refl
  blanket-among (i ∷ is) = λ j. if is_for_parameter (header-stays i j) then i ∷ blanket-among is j else blanket-among is j

  blanket-stay : (n : ℕ) → non_default_impls new (blanket_impls new n) ≡ non_default_impls old (blanket_impls old n)
  blanket-stay n =
      ap (λ (c : Context). non_default_impls c (blanket_impls new n)) g.same
      ∙ ap (non_default_impls old) (ap (λ (c : Context). filter (is_blanket new) (impls_of c n)) g.same ∙ blanket-among (impls_of old n))

module _ {G P : Type 0} (K : KindRules G) (B : KindBounds G) {arguments : P → Args} {types : P → List Ty} {see : List Tree → ParamEnv → P → G} (laws : KindLaws K B arguments types see) (old new : Context) (t : IsWellFormedTable old) (grows : Grows old new)
    (g d : G) (seen : d ≡ g) (refers : K.reference_of new g ≡ K.reference_of old g) where
  open-among : (m : TypingMode) (is : List ImplId) → map (open_rule_of K new m g) is ≡ map (open_rule_of K old m g) is
  open-among m [] = refl
  open-among m (i ∷ is) =
      ap (λ r. r ∷ map (open_rule_of K new m g) is)
      (ap (λ (r : Reference). open_impl_rule (K.env_of g) i (first_tree r.arguments) (K.impl_part new m g i)) refers ∙ ap (open_impl_rule (K.env_of g) i (self_type K old g)) (laws.stay.impls old new t grows m g i))
      ∙ ap (λ rs. open_rule_of K old m g i ∷ rs) (open-among m is)

  open-stay : (m : TypingMode) → open_rules K new m d ≡ open_rules K old m g
  open-stay m =
      ap (open_rules K new m) seen
      ∙ (ap (λ (r : Reference). map (open_rule_of K new m g) (non_default_impls new (blanket_impls new r.trait))) refers
      ∙ (ap (map (open_rule_of K new m g)) (blanket-stay old new t grows (K.reference_of old g).trait) ∙ open-among m (non_default_impls old (blanket_impls old (K.reference_of old g).trait))))

  pub open-impls-stay : (J L : Judge) (m : TypingMode) (from : AssembleCandidatesFrom) → open_impl_rules K L new m d from ≡ open_impl_rules K J old m g from
  open-impls-stay J L m From.All = open-stay m
  open-impls-stay J L m From.EnvAndBounds = refl

  open-below : (n : ℕ) → GoalBelow K n g → (J : Judge) (m : TypingMode) (from : AssembleCandidatesFrom) → All (RuleBelow n) (open_impl_rules K J old m g from)
  open-below n below J m From.EnvAndBounds = All-nil (RuleBelow n)
  open-below n below J m From.All =
      All-map (RuleBelow n) (open_rule_of K old m g) (non_default_impls old (blanket_impls old (K.reference_of old g).trait)) (λ k e l. of _)
    where
      of : (i : ImplId) → RuleBelow n (open_rule_of K old m g i)
      of i = record {
        env = below.env;
        steps = steps-joined n (K.impl_part old m g i).steps (still_general (self_type K old g) ∷ []) (laws.below.impls old t n m g i below.trees) (laws.change.self_type_holds (is_from n) old g refl below.trees, tt);
        ending = tt;
      }

  -- What they come to at a state that is alike.
  pub open-answers : {X : Type 0} (judge : X → Judge) (f h : X) → JudgesAlike (judge f) → h ≡ f → (S T : State) → (judge f).alike S T → GoalBelow K (length S.variables) g → (from : AssembleCandidatesFrom)
      → answers (judge h) T (open_impl_rules K (judge h) new T.mode d from) ≡ answers (judge f) S (open_impl_rules K (judge f) old S.mode g from)
  open-answers judge f h law same S T like below from =
      ap (λ z. answers (judge z) T (open_impl_rules K (judge h) new T.mode d from)) same
      ∙ (ap (λ m. answers (judge f) T (open_impl_rules K (judge h) new m d from)) (law.alike_looks S T like).mode
      ∙ (ap (answers (judge f) T) (open-impls-stay (judge f) (judge h) S.mode from)
      ∙ answers-alike (judge f) law S T (open_impl_rules K (judge f) old S.mode g from) like (open-below (length S.variables) below (judge f) S.mode from)))

-- What opaque types say, as rules.
module _ {G : Type 0} (K : KindRules G) (old now : Context) (g d : G) (seen : d ≡ g) (fits : (h : Head) → K.fits now g h ≡ K.fits old g h) where
  ambiguous-moved : (us : List Tree) → map (ambiguous_rule K now d) us ≡ map (ambiguous_rule K old g) us
  ambiguous-moved [] = refl
  ambiguous-moved (u ∷ us) =
      let end = ask (Source.AliasBound SelfBounds) AMBIGUOUS in
      ap (λ r. r ∷ map (ambiguous_rule K now d) us) (rule-moved K old now g d u u [] end end seen refl fits refl) ∙ ap (λ rs. ambiguous_rule K old g u ∷ rs) (ambiguous-moved us)

  said-rules : (ts : List Tree) → map (ambiguous_rule K old g) (flat_map (bounds_said old (self_type K old g)) ts) ≡ flat_map (opaque_rules K old g) ts
  said-rules [] = refl
  said-rules (t ∷ ts) =
      map-append (ambiguous_rule K old g) (bounds_said old (self_type K old g) t) (flat_map (bounds_said old (self_type K old g)) ts) ∙ ap (λ rs. opaque_rules K old g t ++ rs) (said-rules ts)

  listed-rules : (xs : List Clause) → map (λ x. ambiguous_rule K now d (clause_tree now.trees x)) xs ≡ map (ambiguous_rule K now d) (map (clause_tree now.trees) xs)
  listed-rules [] = refl
  listed-rules (x ∷ xs) = ap (λ rs. ambiguous_rule K now d (clause_tree now.trees x) ∷ rs) (listed-rules xs)

  -- those by clauses that were gathered
  pub gathered-rules : (xs : List Clause) (ts : List Tree) (t : Tree) → t ≡ self_type K old g → map (clause_tree now.trees) xs ≡ flat_map (bounds_said old t) ts
      → map (λ x. ambiguous_rule K now d (clause_tree now.trees x)) xs ≡ flat_map (opaque_rules K old g) ts
  gathered-rules xs ts t self are =
      listed-rules xs
      ∙ (ap (map (ambiguous_rule K now d)) (are ∙ ap (λ x. flat_map (bounds_said old x) ts) self)
      ∙ (ambiguous-moved (flat_map (bounds_said old (self_type K old g)) ts) ∙ said-rules ts))

  -- those of opaque types of a context that has grown
  module _ (table : IsWellFormedTable old) (grows : Grows old now) (refers : K.reference_of now g ≡ K.reference_of old g) where
    opaque-moved : (a : AliasTy) → IsBoundedAlias now a → opaque_rules K now d (kind_tree now.trees (TK.Alias a)) ≡ opaque_rules K old g (kind_tree now.trees (TK.Alias a))
    opaque-moved a b =
        let u = kind_tree now.trees (TK.Alias a) in
        let s = self_type K old g in
        let self : self_type K now d ≡ s = ap (self_type K now) seen ∙ ap (λ (r : Reference). first_tree r.arguments) refers in
        let bounds : alias_bounds now SelfBounds u ≡ alias_bounds old SelfBounds u
        = ap (map (put now.trees u.children)) (same-bounds old now SelfBounds a.id.0 grows) ∙ put-kept old now u.children (self_bounds old a.id.0) grows (bounds-fit old now a SelfBounds table grows b) in
        ap (λ (x : Tree). map (ambiguous_rule K now d) (bounds_said now x u)) self
        ∙ (ap (λ (us : List Tree). map (ambiguous_rule K now d) (map (with_type_for u s) us)) bounds ∙ ambiguous-moved (bounds_said old s u))

    pub opaques-moved : (aliases : List AliasTy) → All (IsBoundedAlias now) aliases → flat_map (opaque_rules K now d) (alias_trees now.trees aliases) ≡ flat_map (opaque_rules K old g) (alias_trees now.trees aliases)
    opaques-moved [] h = refl
    opaques-moved (a ∷ aliases) h =
        ap (λ rs. rs ++ flat_map (opaque_rules K now d) (alias_trees now.trees aliases)) (opaque-moved a (h 0 a (omega arith)))
        ∙ ap (λ rs. opaque_rules K old g (kind_tree now.trees (TK.Alias a)) ++ rs) (opaques-moved aliases (λ k e l. h (suc k) e (omega (arith, l))))

-- What opaque types say, and impls for any type, of a context that has grown at the same state: as each earlier context has it.
module _ {G P X : Type 0} (K : KindRules G) (B : KindBounds G) {arguments : P → Args} {types : P → List Ty} {see : List Tree → ParamEnv → P → G} (laws : KindLaws K B arguments types see) (old now : Context) (grows : Grows old now)
    (g d : G) (seen : d ≡ g) (judge : X → Judge) (f h : X) (same : h ≡ f) (S T : State) (rests : T ≡ S) where
  said-back : (aliases : List AliasTy) → All (IsBoundedAlias now) aliases → (from : AssembleCandidatesFrom) → (c : Context) → IsEarlier c old
      → answers (judge h) T (flat_map (opaque_rules K now d) (alias_trees now.trees aliases) ++ open_impl_rules K (judge h) now T.mode d from)
      ≡ answers (judge f) S (flat_map (opaque_rules K c g) (alias_trees now.trees aliases) ++ open_impl_rules K (judge f) c S.mode g from)
  said-back aliases bounded from c w =
      let ts = alias_trees now.trees aliases in
      let q = grows-trans c old now w.grows grows in
      let refers = laws.stay.reference c now w.table q g in
      ap (λ z. answers (judge z) T (flat_map (opaque_rules K now d) ts ++ open_impl_rules K (judge h) now T.mode d from)) same
      ∙ (ap (λ (s : State). answers (judge f) s (flat_map (opaque_rules K now d) ts ++ open_impl_rules K (judge h) now s.mode d from)) rests
      ∙ ap (answers (judge f) S)
      (ap (λ rs. rs ++ open_impl_rules K (judge h) now S.mode d from) (opaques-moved K c now g d seen (laws.stay.fits c now w.table q g) w.table q refers aliases bounded)
      ∙ ap (λ rs. flat_map (opaque_rules K c g) ts ++ rs) (open-impls-stay K B laws c now w.table q g d seen refers (judge f) (judge h) S.mode from)))

-- The opaque types that were found behind the goal's self type are those that are hidden behind it as each earlier context has it.
pub hidden-each : {G P : Type 0} (K : KindRules G) (B : KindBounds G) {arguments : P → Args} {types : P → List Ty} {see : List Tree → ParamEnv → P → G} → KindLaws K B arguments types see → (J : Judge) (S : State) (old : Context) (g : G) (t : Tree) (us : List Tree)
    → us ≡ hidden_behind J S t S.mode → t ≡ self_type K old g → (c : Context) → IsEarlier c old → us ≡ hidden_behind J S (self_type K c g) S.mode
hidden-each K B laws J S old g t us are is c w =
    are ∙ ap (λ (x : Tree). hidden_behind J S x S.mode) (is ∙ ap (λ (r : Reference). first_tree r.arguments) (laws.stay.reference c old w.table w.grows g))

-- A state that is the same is alike.
pub like-first : {E X : Type 0} (fixed : E → X) (judge : X → Judge) (state : E → State) → ((f : X) → JudgesAlike (judge f)) → (first mid : E) → state mid ≡ state first → (judge (fixed first)).alike (state first) (state mid)
like-first fixed judge state law first mid rests = subst (λ (x : State). (judge (fixed first)).alike (state first) x) (sym rests) ((law (fixed first)).alike_same (state first))

-- The same in other words.
module _ {E X : Type 0} {fixed : E → X} {judge : X → Judge} {state : E → State} {probes : E → List State} {context : E → Context} {stops : Account E} where
  -- the same stop
  pub stops-as : {A C : Type 0} {left : A → List OfNumbers} {next : C → List OfNumbers} {R Q : Listed → Type 0} (first new : E) (S : State) (z : Stop) (result : Result C Stop) → result ≡ Err z → (R (Stops z) → Q (Stops z))
      → ConsidersAll fixed judge state probes context stops first new S left R (Err z) → ConsidersAll fixed judge state probes context stops first new S next Q result
  stops-as first new S z result is weaker c = rw is (record { kept = c.kept; alike = c.alike; told = record { ok = tt; fits = tt; stopped = λ own. weaker (c.told.stopped own) }; cause = c.cause })

  -- the same list
  pub lists-as : {A C : Type 0} {left : A → List OfNumbers} {next : C → List OfNumbers} {R : Listed → Type 0} (first new : E) (S : State) (x : A) (y : C) → next y ≡ left x
      → ConsidersAll fixed judge state probes context stops first new S left R (Ok x) → ConsidersAll fixed judge state probes context stops first new S next R (Ok y)
  lists-as {R = R} first new S x y is c = record {
    kept = c.kept;
    alike = c.alike;
    told = record {
      ok = subst (λ (xs : List OfNumbers). R (Lists (candidates_of (context new).trees xs))) (sym is) c.told.ok;
      fits = subst (AreCandidates (context new).trees) (sym is) c.told.fits;
      stopped = tt;
    };
    cause = tt;
  }

  -- the same candidates, of which something else is known
  pub lists-so : {A : Type 0} {left : A → List OfNumbers} {R Q : Listed → Type 0} (first new : E) (S : State) (x : A) → ConsidersAll fixed judge state probes context stops first new S left R (Ok x) → Q (Lists (candidates_of (context new).trees (left x)))
      → ConsidersAll fixed judge state probes context stops first new S left Q (Ok x)
  lists-so first new S x c q = record { kept = c.kept; alike = c.alike; told = record { ok = q; fits = c.told.fits; stopped = tt }; cause = tt }

-- Parts of the list, one after the other.
module _ {E X : Type 0} {fixed : E → X} {judge : X → Judge} {state : E → State} {probes : E → List State} {context : E → Context} {stops : Account E} (law : (f : X) → JudgesAlike (judge f)) where
  -- What is told of a later evaluator at a state that is alike is told of the first.
  pub moved-back : {A : Type 0} {items : A → List OfNumbers} {R Q : Listed → Type 0} (first mid new : E) (result : Result A Stop) → Keeps fixed probes context first mid → (judge (fixed first)).alike (state first) (state mid)
      → ((l : Listed) → R l → Q l) → ConsidersAll fixed judge state probes context stops mid new (state mid) items R result → ConsidersAll fixed judge state probes context stops first new (state first) items Q result
  moved-back first mid new result kept like weaker c = record {
    kept = after kept c.kept;
    alike = alike-then judge law (fixed first) (fixed mid) (state first) (state mid) (state new) kept.fixed_same like c.alike;
    told = list-as _ (context new).trees result weaker c.told;
    cause = so-err result (λ s h. later (reaches kept) h) c.cause;
  }

  -- After rules that were considered others are, as what is added to what these gave.
  pub added-behind : {A C : Type 0} {left : C → List OfNumbers} (first mid new : E) (xs : List OfNumbers) (x : A) (firsts bs : List Rule) (last : Listed) (result : Result C Stop)
      → ConsidersAll {A = A} fixed judge state probes context stops first mid (state first) (λ _. xs) (λ l. l ≡ answers (judge (fixed first)) (state first) firsts) (Ok x)
      → ConsidersAll fixed judge state probes context stops mid new (state mid) left (λ l. l ≡ after_these (context mid).trees xs last) result
      → last ≡ answers (judge (fixed first)) (state first) bs
      → ConsidersAll fixed judge state probes context stops first new (state first) left (λ l. l ≡ answers (judge (fixed first)) (state first) (firsts ++ bs)) result
  added-behind first mid new xs x firsts bs last result f c same =
      let J = judge (fixed first) in
      let S = state first in
      moved-back first mid new result f.kept f.alike
      (λ l e. e ∙ (ap (together (Lists (candidates_of (context mid).trees xs))) same ∙ (ap (λ m. together m (answers J S bs)) f.told.ok ∙ sym (answers-joined J S firsts bs)))) c

  -- The first rules were considered after nodes were made, and nothing was there.
  pub begun-with : {A : Type 0} {left : A → List OfNumbers} (first mid new : E) (before : List OfNumbers) (firsts bs : List Rule) (result : Result A Stop) → Keeps fixed probes context first mid → state mid ≡ state first → before ≡ [] → bs ≡ firsts
      → ConsidersAll fixed judge state probes context stops mid new (state mid) left (λ l. l ≡ after_these (context mid).trees before (answers (judge (fixed mid)) (state mid) bs)) result
      → ConsidersAll fixed judge state probes context stops first new (state first) left (λ l. l ≡ answers (judge (fixed first)) (state first) firsts) result
  begun-with first mid new before firsts bs result kept rests none are c =
      moved-back first mid new result kept (like-first fixed judge state law first mid rests)
      (λ l e.
      e
      ∙ (ap (λ (xs : List OfNumbers). after_these (context mid).trees xs (answers (judge (fixed mid)) (state mid) bs)) none
      ∙ (together-empty (answers (judge (fixed mid)) (state mid) bs)
      ∙ (ap (λ f. answers (judge f) (state mid) bs) kept.fixed_same ∙ (ap (λ (s : State). answers (judge (fixed first)) s bs) rests ∙ ap (answers (judge (fixed first)) (state first)) are))))) c

  -- What opaque types say, and impls for any type, was considered after opaque types were found: as each earlier context has it.
  pub said-each : {G P A : Type 0} (K : KindRules G) (B : KindBounds G) {arguments : P → Args} {types : P → List Ty} {see : List Tree → ParamEnv → P → G} {items : A → List OfNumbers} → KindLaws K B arguments types see
      → (first mid new : E) (g d : G) (aliases : List AliasTy) (from : AssembleCandidatesFrom) (result : Result A Stop) → Keeps fixed probes context first mid → state mid ≡ state first → d ≡ g → All (IsBoundedAlias (context mid)) aliases
      → ConsidersAll fixed judge state probes context stops mid new (state mid) items
      (λ l. l ≡ answers (judge (fixed mid)) (state mid) (flat_map (opaque_rules K (context mid) d) (alias_trees (context mid).trees aliases) ++ open_impl_rules K (judge (fixed mid)) (context mid) (state mid).mode d from)) result
      → ConsidersAll fixed judge state probes context stops first new (state first) items
      (AtEachEarlier (context first) (λ c l. l ≡ answers (judge (fixed first)) (state first) (flat_map (opaque_rules K c g) (alias_trees (context mid).trees aliases) ++ open_impl_rules K (judge (fixed first)) c (state first).mode g from))) result
  said-each K B laws first mid new g d aliases from result kept rests seen bounded c =
      moved-back first mid new result kept (like-first fixed judge state law first mid rests)
      (λ l e x w. e ∙ said-back K B laws (context first) (context mid) kept.grows g d seen judge (fixed first) (fixed mid) kept.fixed_same (state first) (state mid) rests aliases bounded from x w) c

-- a stop of the first rules is where the whole stops
pub stops-before : (J : Judge) (S : State) (firsts bs : List Rule) (z : Stop) → Stops z ≡ answers J S firsts → Stops z ≡ answers J S (firsts ++ bs)
stops-before J S firsts bs z e = sym (answers-joined J S firsts bs ∙ ap (λ l. together l (answers J S bs)) (sym e))
