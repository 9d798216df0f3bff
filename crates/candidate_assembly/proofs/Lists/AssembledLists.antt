-- What calls say that go on from one list to the next, exit by exit.
use Rattle.std.proofs.Common.{◌≡◌, ℕ, Bool, false, true, refl, sym, ap, subst, ◌∙◌, List, [], ◌++◌, length, Result, Ok, Err}
use Rattle.std.proofs.lemmas.List.{append-nil, map-append}
use Rattle.ir_trees.specs.declared.decl.contents.LangItem.TheVariants as L
use Rattle.ir_trees.specs.declared.ir.kinds.Args.{Args}
use Rattle.ir_trees.specs.declared.ir.kinds.ParamEnv.{ParamEnv}
use Rattle.ir_trees.specs.declared.ir.kinds.Ty.{Ty}
use Rattle.ir_trees.specs.declared.ir.stop.Stop.{Stop}
use Rattle.ir_trees.specs.Declarations.Context.{Context, Grows}
use Rattle.ir_trees.specs.Syntax.Trees.{Tree}
use Rattle.ir_trees.specs.Validity.WellFormed.{IsWellFormedTable}
use Rattle.ir_trees.specs.Declarations.Worlds.{Reference}
use Rattle.ir_trees.proofs.Growth.Kept.{grows-refl}
use Rattle.candidate_eval.specs.declared.eval.response.Candidate.{Candidate as OfNumbers}
use Rattle.candidate_eval.specs.declared.eval.mode.TypingMode.{TypingMode}
use Rattle.candidate_eval.specs.Interface.Accounts.{Account}
use Rattle.candidate_eval.specs.Judges.Alike.{JudgesAlike}
use Rattle.candidate_eval.specs.Builtins.Callable.{is_unknown}
use Rattle.candidate_eval.specs.Interface.Knowing.{is_evaluator_stop}
use Rattle.candidate_eval.specs.Dynamic.ObjectRequirements.{first_tree}
use Rattle.candidate_eval.specs.Outcomes.ResponseTrees.{AreCandidates, candidate_of, candidates_of}
use Rattle.candidate_eval.specs.Outcomes.Responses.{Candidate}
use Rattle.candidate_eval.specs.Judges.States.{Judge, State}
use Rattle.candidate_eval.proofs.Interface.Accounts.{reaches}
use Rattle.candidate_eval.proofs.Interface.Probing.{then-keeps}
use Rattle.candidate_assembly.specs.declared.assembly.opaques.AssembleCandidatesFrom.{AssembleCandidatesFrom}
use Rattle.candidate_assembly.specs.declared.assembly.opaques.AssembleCandidatesFrom.TheVariants.{All, EnvAndBounds}
use Rattle.candidate_assembly.specs.Answers.Assembled.{AfterWhereBounds, ThenImplsAndObjects, ThenUnsizing, asked, by_clauses, by_objects, everything, followed, has_where_bound, impl_rules, language_rules, leaves_out, not_asked, stopped, trait_of}
use Rattle.candidate_assembly.specs.Calls.Assembling.{UnsizingFollows}
use Rattle.candidate_assembly.specs.Calls.Earlier.{IsEarlier}
use Rattle.candidate_assembly.specs.Goals.KindBounds.{KindBounds, UnsizingList}
use Rattle.candidate_assembly.specs.Goals.KindLaws.{KindLaws}
use Rattle.candidate_assembly.specs.Goals.Kinds.{GoalBelow, IsGoal, HasKnownSelfType, KindRules, SaysTheSame, self_type}
use Rattle.candidate_assembly.specs.Answers.Listing.{ConsidersAll, ConsidersAllBut, GoesOn, Listed, Lists, Stops, answers, lists, stops as none_follow, together}
use Rattle.candidate_assembly.specs.Rules.ObjectBounds.{ObjectList}
use Rattle.candidate_assembly.specs.Calls.ObjectCalls.{ObjectFollows}
use Rattle.candidate_assembly.specs.Goals.Standing.{GoalIsValid}
use Rattle.candidate_assembly.specs.Goals.TraitGoals.{is_item}
use Rattle.candidate_assembly.proofs.Aliases.AliasChains.{alike-then, candidates-joined, told-as}
use Rattle.candidate_assembly.proofs.Aliases.AliasWalks.{after-stops}
use Rattle.candidate_assembly.proofs.Lists.AssembledBack.{MovesOn, builtins-before, fits-before, objects-back, with-impls-back, with-unsizing-back}
use Rattle.candidate_assembly.proofs.Calls.Causes.{later, memory-here, so-err}
use Rattle.candidate_assembly.proofs.Aliases.Chains.{together-joined}
use Rattle.candidate_assembly.proofs.Calls.Considering.{not-both}
use Rattle.candidate_assembly.proofs.Calls.Keeping.{goal-kept}
use Rattle.candidate_assembly.proofs.Lists.Listing.{candidates-kept}
use Rattle.candidate_assembly.proofs.Goals.Standing.{stands-alike, stands-below}
use Rattle.candidate_assembly.proofs.Calls.Stepping.{memory-own}
use Rattle.ir_trees.specs.declared.ir.stop.Stop.TheVariants.{Memory}

-- One call after the other.
module _ {E X : Type 0} {fixed : E → X} {judge : X → Judge} {state : E → State} {probes : E → List State} {context : E → Context} {stops : Account E} (law : (f : X) → JudgesAlike (judge f)) where
  -- Nothing is added.
  pub nothing-added : {A : Type 0} {R : Listed → Type 0} (first : E) (before : List OfNumbers) (x : A) → AreCandidates (context first).trees before → R (Lists (candidates_of (context first).trees before))
      → ConsidersAll fixed judge state probes context stops first first (state first) (λ _. before) R (Ok x)
  nothing-added first before x fit r = record {
    kept = record { fixed_same = refl; probes_same = refl; grows = grows-refl (context first); faults = refl };
    alike = (law (fixed first)).alike_same (state first);
    told = record { ok = r; fits = fit; stopped = tt };
    cause = tt;
  }

  -- The first call stops.
  pub first-stops : {A C : Type 0} {left : A → List OfNumbers} {next : C → List OfNumbers} {R Q : Listed → Type 0} (first mid : E) (z : Stop) (result : Result C Stop) → result ≡ Err z → (R (Stops z) → Q (Stops z))
      → ConsidersAll {A = A} fixed judge state probes context stops first mid (state first) left R (Err z) → ConsidersAll fixed judge state probes context stops first mid (state first) next Q result
  first-stops first mid z result is weaker c = rw is (record {
    kept = c.kept;
    alike = c.alike;
    told = record { ok = tt; fits = tt; stopped = λ own. weaker (c.told.stopped own) };
    cause = c.cause;
  })

  -- The second call comes after the first.
  pub list-goes-on : {A C : Type 0} {P : List (List ℕ) → List (List ℕ) → Type 0} {next : C → List OfNumbers} {R Q Z : Listed → Type 0} (first mid new : E) (xs : List OfNumbers) (x : A) (result : Result C Stop)
      → ConsidersAllBut {A = A} P fixed judge state probes context stops first mid (state first) (λ _. xs) R (Ok x) → ((l : Listed) → Q l → Z l) → ConsidersAll fixed judge state probes context stops mid new (state mid) next Q result
      → ConsidersAllBut P fixed judge state probes context stops first new (state first) next Z result
  list-goes-on first mid new xs x result f weaker c =
      let d = told-as mid new (state mid) result weaker c in
      record {
        kept = then-keeps fixed probes context first mid new (λ us vs e. e) f.kept c.kept;
        alike = alike-then judge law (fixed first) (fixed mid) (state first) (state mid) (state new) f.kept.fixed_same f.alike c.alike;
        told = d.told;
        cause = so-err result (λ z. later (reaches f.kept)) c.cause;
      }

  -- A list that was answered comes after candidates that are there.
  pub list-appended : {A C : Type 0} {R Q : Listed → Type 0} (first new : E) (left : A → List OfNumbers) (before items : List OfNumbers) (y : A) (x : C) → AreCandidates (context first).trees before → items ≡ before ++ left y
      → ((l : Listed) → R l → Q (together (Lists (candidates_of (context first).trees before)) l))
      → ConsidersAll {A = A} fixed judge state probes context stops first new (state first) left R (Ok y) → ConsidersAll {A = C} fixed judge state probes context stops first new (state first) (λ _. items) Q (Ok x)
  list-appended {Q = Q} first new left before items y x fit is weaker c =
      let ts = (context new).trees in
      let ys = left y in
      let k = candidates-kept (context first) (context new) before c.kept.grows fit in
      let joined : candidates_of ts (before ++ ys) ≡ candidates_of (context first).trees before ++ candidates_of ts ys
      = map-append (candidate_of ts) before ys ∙ ap (λ cs. cs ++ candidates_of ts ys) k.1 in
      rw is (record {
        kept = c.kept;
        alike = c.alike;
        told = record {
          ok = subst (λ cs. Q (Lists cs)) (sym joined) (weaker (Lists (candidates_of ts ys)) c.told.ok);
          fits = candidates-joined ts before ys k.0 c.told.fits;
          stopped = tt;
        };
        cause = tt;
      })

  -- A list that was answered isn't added.
  pub list-not-added : {A C : Type 0} {left : A → List OfNumbers} {next : C → List OfNumbers} {R Q : Listed → Type 0} (first new : E) (y : A) (z : Stop) (result : Result C Stop) → result ≡ Err z → z ≡ Memory
      → ConsidersAll {A = A} fixed judge state probes context stops first new (state first) left R (Ok y) → ConsidersAll fixed judge state probes context stops first new (state first) next Q result
  list-not-added first new y z result is m c = rw is (record {
    kept = c.kept;
    alike = c.alike;
    told = record { ok = tt; fits = tt; stopped = λ other. absurd (not-both (is_evaluator_stop z) (memory-own z m) other) };
    cause = memory-here m;
  })

-- whether candidates are left out, by what a call answered
pub left-out-said : (m d : TypingMode) (c now : Context) (xs ys : List OfNumbers) (answer v : Bool) → m ≡ d → now ≡ c → ys ≡ xs → answer ≡ leaves_out m (candidates_of now.trees ys) → answer ≡ v → leaves_out d (candidates_of c.trees xs) ≡ v
left-out-said m d c now xs ys answer v same at are is said =
    sym (ap (λ x. leaves_out x (candidates_of now.trees ys)) same ∙ (ap (λ (x : Context). leaves_out d (candidates_of x.trees ys)) at ∙ ap (λ zs. leaves_out d (candidates_of c.trees zs)) are))
    ∙ (sym is ∙ said)

-- whether the goal's trait is the one for unsizing, by what a call answered
pub item-said : {G P : Type 0} (K : KindRules G) (see : List Tree → ParamEnv → P → G) (c read now : Context) (env : ParamEnv) (p : P) (n : ℕ) (answer v : Bool) → read ≡ c → now ≡ c → n ≡ trait_of K read (see read.trees env p)
    → answer ≡ is_item now L.Unsize n → answer ≡ v → is_item c L.Unsize (trait_of K c (see c.trees env p)) ≡ v
item-said K see c read now env p n answer v at there is said e =
    let number : n ≡ trait_of K c (see c.trees env p) = subst (λ (x : Context). n ≡ trait_of K x (see x.trees env p)) at is in
    sym (ap (is_item c L.Unsize) number) ∙ (sym (ap (λ (x : Context). is_item x L.Unsize n) there) ∙ (sym said ∙ e))

-- Parts of the list, at the state and the context at which they are listed.
module _ {G : Type 0} {K : KindRules G} {B : KindBounds G} {c : Context} {J : Judge} {S : State} {g : G} where
  pub impls-stop : (xs : List Candidate) (z : Stop) → leaves_out S.mode xs ≡ false → Stops z ≡ together (Lists xs) (answers J S (impl_rules K c S.mode g)) → ThenImplsAndObjects K B c J S g xs (Stops z)
  impls-stop xs z e is = stopped e (after-stops xs (answers J S (impl_rules K c S.mode g)) z is)

  pub not-unsized : (xs : List Candidate) → is_item c L.Unsize (trait_of K c g) ≡ false → UnsizingFollows K B c J S g xs (Lists xs)
  not-unsized xs e = record { unsized = Lists []; by_unsizing = not_asked e; is = ap Lists (sym (append-nil xs)) }

  pub unsized-after : (xs : List Candidate) → is_item c L.Unsize (trait_of K c g) ≡ true → (l : Listed) → UnsizingList K B J c S g l → UnsizingFollows K B c J S g xs (together (Lists xs) l)
  unsized-after xs e l u = record { unsized = l; by_unsizing = asked e u; is = refl }

  pub unsizing-stops : (xs : List Candidate) (z : Stop) → is_item c L.Unsize (trait_of K c g) ≡ true → UnsizingList K B J c S g (Stops z) → UnsizingFollows K B c J S g xs (Stops z)
  unsizing-stops xs z e u = record { unsized = Stops z; by_unsizing = asked e u; is = refl }

  pub stops-unsizing : (xs : List Candidate) (z : Stop) → UnsizingFollows K B c J S g xs (Stops z) → ThenUnsizing K B c J S g xs (Stops z)
  stops-unsizing xs z u = record { unsized = u.unsized; by_unsizing = u.by_unsizing; further = subst (λ a. GoesOn (ThenImplsAndObjects K B c J S g) a (Stops z)) u.is none_follow }

  pub language-stops : (xs : List Candidate) (from : AssembleCandidatesFrom) (z : Stop) → from ≡ All → Stops z ≡ together (Lists xs) (answers J S (language_rules K c g)) → AfterWhereBounds K B c J S g xs from (Stops z)
  language-stops xs from z a is = subst (λ f. AfterWhereBounds K B c J S g xs f (Stops z)) (sym a) (everything (subst (λ l. GoesOn (ThenUnsizing K B c J S g) l (Stops z)) is none_follow))

  pub clause-serves : (xs : List Candidate) (from : AssembleCandidatesFrom) → from ≡ EnvAndBounds → has_where_bound xs ≡ true → AfterWhereBounds K B c J S g xs from (Lists xs)
  clause-serves xs from a e = subst (λ f. AfterWhereBounds K B c J S g xs f (Lists xs)) (sym a) (by_clauses e)

  pub objects-alone : (before : List OfNumbers) (from : AssembleCandidatesFrom) → from ≡ EnvAndBounds → has_where_bound (candidates_of c.trees before) ≡ false → (l : Listed) → ObjectFollows K J c S g before l
      → AfterWhereBounds K B c J S g (candidates_of c.trees before) from l
  objects-alone before from a e l o =
      let xs = candidates_of c.trees before in
      subst (λ f. AfterWhereBounds K B c J S g xs f l) (sym a) (subst (AfterWhereBounds K B c J S g xs EnvAndBounds) (sym o.is) (by_objects e o.list))

-- What follows them is listed in a grown context, at a state alike.
module _ {G P : Type 0} {K : KindRules G} {B : KindBounds G} {arguments : P → Args} {types : P → List Ty} {see : List Tree → ParamEnv → P → G} (laws : KindLaws K B arguments types see)
    {J : Judge} {old new : Context} {S T : State} {there now : G} (m : MovesOn K J old new S T there now) (L : Judge) (same : L ≡ J) (xs : List Candidate) (ys : List OfNumbers) where
  abbrev found : List Candidate
  found = candidates_of new.trees ys

  pub objects-after : leaves_out S.mode xs ≡ false → Lists found ≡ together (Lists xs) (answers J S (impl_rules K old S.mode there)) → (l : Listed) → ObjectFollows K L new T now ys l → ThenImplsAndObjects K B old J S there xs l
  objects-after e is l o =
      let impls = answers J S (impl_rules K old S.mode there) in
      subst (ThenImplsAndObjects K B old J S there xs) (sym (o.is ∙ (ap (λ a. together a o.by_bounds) is ∙ together-joined (Lists xs) impls o.by_bounds)))
      (followed e (objects-back K B laws m o.by_bounds (subst (λ j. ObjectList K j new T now o.by_bounds) same o.list)))

  pub impls-after : UnsizingFollows K B old J S there xs (Lists found) → (l : Listed) → ThenImplsAndObjects K B new L T now found l → ThenUnsizing K B old J S there xs l
  impls-after u l w = record {
    unsized = u.unsized;
    by_unsizing = u.by_unsizing;
    further = subst (λ a. GoesOn (ThenImplsAndObjects K B old J S there) a l) u.is (lists (with-impls-back K B laws m found l (subst (λ j. ThenImplsAndObjects K B new j T now found l) same w)));
  }

  pub unsizing-after : (from : AssembleCandidatesFrom) → from ≡ All → Lists found ≡ together (Lists xs) (answers J S (language_rules K old there)) → (l : Listed) → ThenUnsizing K B new L T now found l → AfterWhereBounds K B old J S there xs from l
  unsizing-after from a is l w =
      subst (λ f. AfterWhereBounds K B old J S there xs f l) (sym a) (everything (subst (λ a. GoesOn (ThenUnsizing K B old J S there) a l) is (lists (with-unsizing-back K B laws m found l (subst (λ j. ThenUnsizing K B new j T now found l) same w)))))

-- a goal that stands mentions only the state's variables
pub below-here : {G : Type 0} (K : KindRules G) {S : State} {g : G} → GoalIsValid K S g → GoalBelow K (length S.variables) g
below-here K {S} {g} s = let b = stands-below S (K.env_of g) (K.trees_of g) s in record { env = b.0; trees = b.1 }

-- A goal that stands where a call begins, and where the next one does.
pub record StandsHere {G P : Type 0} (K : KindRules G) (arguments : P → Args) (types : P → List Ty) (see : List Tree → ParamEnv → P → G) (c : Context) (S : State) (env : ParamEnv) (p : P) : Type 0 where
  pub table : IsWellFormedTable c
  pub goal : IsGoal K arguments types see c env p
  pub stands : GoalIsValid K S (see c.trees env p)

module _ {E X G P : Type 0} {fixed : E → X} {judge : X → Judge} {state : E → State} {probes : E → List State} {context : E → Context} {stops : Account E} {K : KindRules G} {arguments : P → Args} {types : P → List Ty} {see : List Tree → ParamEnv → P → G}
    (law : (f : X) → JudgesAlike (judge f)) (stays : (old new : Context) (env : ParamEnv) (p : P) → Grows old new → IsGoal K arguments types see old env p → SaysTheSame K see old new env p)
    {A : Type 0} {F : List (List ℕ) → List (List ℕ) → Type 0} {left : A → List OfNumbers} {R : Listed → Type 0} {answer : Result A Stop} (first mid : E) (env : ParamEnv) (p : P) (h : StandsHere K arguments types see (context first) (state first) env p)
    (f : ConsidersAllBut F fixed judge state probes context stops first mid (state first) left R answer) where
  says : SaysTheSame K see (context first) (context mid) env p
  says = stays (context first) (context mid) env p f.kept.grows h.goal

  pub moves-on : {B : KindBounds G} → KindLaws K B arguments types see → MovesOn K (judge (fixed first)) (context first) (context mid) (state first) (state mid) (see (context first).trees env p) (see (context mid).trees env p)
  moves-on laws =
      let below = below-here K h.stands in
      let here : IsEarlier (context first) (context first) = record { grows = grows-refl (context first); table = h.table } in
      record {
        law = law (fixed first);
        table = h.table;
        grows = f.kept.grows;
        fits = fits-before laws (context first) (context first) env p here h.table h.goal;
        same_goal = says.seen;
        alike = f.alike;
        below = below;
        builtins = builtins-before laws (context first) (context first) env p here h.table h.goal (length (state first).variables) below;
      }

  pub goal-later : IsGoal K arguments types see (context mid) env p
  goal-later = goal-kept f.kept.grows says h.goal

  pub typed-later : HasKnownSelfType K (context first) (see (context first).trees env p) → HasKnownSelfType K (context mid) (see (context mid).trees env p)
  typed-later e =
      let same : self_type K (context mid) (see (context mid).trees env p) ≡ self_type K (context first) (see (context first).trees env p)
      = ap (self_type K (context mid)) says.seen ∙ ap (λ (r : Reference). first_tree r.arguments) says.reference in
      ap (λ (t : Tree). is_unknown t.head) same ∙ e

  pub stands-later : GoalIsValid K (state mid) (see (context mid).trees env p)
  stands-later =
      let g = see (context first).trees env p in
      subst (GoalIsValid K (state mid)) (sym says.seen) (stands-alike (judge (fixed first)) (law (fixed first)) (state first) (state mid) (K.env_of g) (K.trees_of g) f.alike h.stands)
