-- Lists that are asked for after other calls, as each earlier context has them.
use Rattle.std.proofs.Common.{◌≡◌, ℕ, Bool, refl, sym, ap, subst, ◌∙◌, true, false, length, None, Some, List, [], ◌∷◌, Result, Ok, Err, Vec, Global}
use Rattle.std.specs.Prelude.{IfErr, IfOk}
use Rattle.std.proofs.lemmas.List.Elements.{All-cons, All-nil}
use Rattle.ir_trees.specs.declared.ir.kinds.Args.{Args}
use Rattle.ir_trees.specs.declared.ir.kinds.ParamEnv.{ParamEnv}
use Rattle.ir_trees.specs.declared.ir.kinds.Ty.{Ty}
use Rattle.ir_trees.specs.declared.ir.kinds.TyKind.{TyKind}
use Rattle.ir_trees.specs.declared.ir.stop.Stop.{Stop}
use Rattle.ir_trees.specs.declared.ir.stop.Stop.TheVariants.{Memory}
use Rattle.ir_trees.specs.Declarations.Context.{Context, Grows}
use Rattle.ir_trees.specs.Syntax.Binders.{escapes}
use Rattle.ir_trees.specs.Unification.Substitutions.{alone}
use Rattle.ir_trees.specs.Syntax.Trees.{Tree, TypeKind, holds, is_param, kind_of}
use Rattle.ir_trees.specs.Syntax.Kinds.{is_general_variable}
use Rattle.ir_trees.specs.Validity.WellFormed.{IsWellFormedTable}
use Rattle.ir_trees.specs.Syntax.Words.{IsTy, kind_tree, ty_tree}
use Rattle.ir_trees.specs.Declarations.Worlds.{Reference, kinds_of}
use Rattle.ir_trees.proofs.Instantiation.Folding.{begin}
use Rattle.ir_trees.proofs.Growth.Kept.{grows-trans, ty-kept}
use Rattle.candidate_eval.specs.declared.eval.refusal.NoSolutionOrStop.TheVariants as N
use Rattle.candidate_eval.specs.declared.eval.response.Candidate.{Candidate as OfNumbers}
use Rattle.candidate_eval.specs.Interface.Accounts.{Account, Question, StopsSomehow}
use Rattle.candidate_eval.specs.Judges.Alike.{JudgesAlike}
use Rattle.candidate_eval.specs.Builtins.Callable.{is_unknown}
use Rattle.candidate_eval.specs.Interface.Evaluators.{IsEvaluatorStop, Keeps}
use Rattle.candidate_eval.specs.Derivations.Judging.{Judged, Refused, Stopped}
use Rattle.candidate_eval.specs.Interface.Knowing.{is_evaluator_stop}
use Rattle.candidate_eval.specs.Dynamic.ObjectRequirements.{first_tree}
use Rattle.candidate_eval.specs.Judges.Lawful.{NormalFormLaws}
use Rattle.candidate_eval.specs.Knowability.Orphan.{is_general}
use Rattle.candidate_eval.specs.Outcomes.ResponseTrees.{AreCandidates, IsResponse, candidates_of}
use Rattle.candidate_eval.specs.Judges.States.{Env, Judge, State, resolved, resolved_tree}
use Rattle.candidate_eval.proofs.Interface.Accounts.{reaches}
use Rattle.candidate_eval.proofs.Interface.Probing.{keeps-as, keeps-but, keeps-then, then as after}
use Rattle.candidate_assembly.specs.declared.assembly.opaques.AssembleCandidatesFrom.{AssembleCandidatesFrom}
use Rattle.candidate_assembly.specs.Answers.Assembled.{Assembled, OfNormalSelfType, AllKnown, Unknowable, is_coherence, resolved_goal}
use Rattle.candidate_assembly.specs.Answers.Assembled.OfNormalSelfType.{others, variable as by_variable}
use Rattle.candidate_assembly.specs.Answers.Assembled.IsAssembled.{refused, normal as by_normal}
use Rattle.candidate_assembly.specs.Answers.AssembledCalls.{Assembles, IsAssembledAt, NormalChainEnds, TypedChainEnds}
use Rattle.candidate_assembly.specs.Answers.AssembledCalls.IsLeftAlike.{before, normal}
use Rattle.candidate_assembly.specs.Answers.Assembled.Assembled.{alone as by_unknowable, knowable, outside, stops as unknowable_stops}
use Rattle.candidate_assembly.specs.Calls.Assembling.{ListsKnown, WasAsked}
use Rattle.candidate_assembly.specs.Laws.BuiltinLaws.{takes_declared}
use Rattle.candidate_assembly.specs.Calls.Earlier.{AtEachEarlier, IsEarlier}
use Rattle.candidate_assembly.specs.Goals.KindBounds.{KindBounds}
use Rattle.candidate_assembly.specs.Goals.KindLaws.{KindLaws, ReferenceFits, TreesChange}
use Rattle.candidate_assembly.specs.Goals.Kinds.{GoalBelow, IsGoal, HasKnownSelfType, KindRules, self_type}
use Rattle.candidate_assembly.specs.Answers.Listing.{ConsidersAll, ConsidersAllBut, Listed, Lists}
use Rattle.candidate_assembly.specs.Rules.AliasBounds.{ChainEnd}
use Rattle.candidate_assembly.specs.Rules.AliasFaults.{ChainEnds, EndsFrom, PutsOffOnce}
use Rattle.candidate_assembly.specs.Rules.Opaques.{variable_answers}
use Rattle.candidate_assembly.specs.Goals.Standing.{GoalIsValid, IsValidAt, IsValidBeside}
use Rattle.candidate_assembly.proofs.Objects.SuperLaws.{elaboration_back}
use Rattle.candidate_assembly.specs.Answers.Telling.{ConsidersSome}
use Rattle.candidate_assembly.specs.Rules.Unknowable.{UnknowableJudged, known, positive_clause, unknown}
use Rattle.candidate_assembly.proofs.Aliases.AliasChains.{alike-then, list-as}
use Rattle.candidate_assembly.proofs.Aliases.AliasWalks.{once-as, told-at-each}
use Rattle.candidate_assembly.proofs.Lists.AssembledBack.{fits-before}
use Rattle.candidate_assembly.proofs.Calls.Causes.{asked-here, later, memory-here, so-err, somehow-here}
use Rattle.candidate_assembly.proofs.Calls.Considering.{not-both}
use Rattle.candidate_assembly.proofs.Opaques.OpaqueRules.{general-kind}
use Rattle.candidate_assembly.proofs.Goals.ResolvedTypes.{resolved-known}
use Rattle.candidate_assembly.proofs.Goals.Standing.{first-stands, first-there, replaced-stands, second-dropped, self-type-beside, stands-below, stands-normal, stands-resolved}
use Rattle.candidate_assembly.proofs.Calls.Stepping.{evaluator-own, somehow-own}

-- What is unknowable of a reference is what it was before the context grew.
pub unknowable-before : {G : Type 0} (K : KindRules G) (J : Judge) (c now : Context) (S : State) (g : G) (j : Judged) → IsEarlier c now → K.reference_of now g ≡ K.reference_of c g → ReferenceFits K c g
    → UnknowableJudged J now S (K.env_of g) (K.reference_of now g) j → UnknowableJudged J c S (K.env_of g) (K.reference_of c g) j
unknowable-before K J c now S g j e same fit h = of j (subst (λ (r : Reference). UnknowableJudged J now S (K.env_of g) r j) same h)
  where
    of : (j : Judged) → UnknowableJudged J now S (K.env_of g) (K.reference_of c g) j → UnknowableJudged J c S (K.env_of g) (K.reference_of c g) j
    of j (known r) = known r
    of _ (unknown implied x) = unknown implied (elaboration_back c now e.table e.grows (positive_clause (K.reference_of c g) ∷ []) implied (takes_declared c e.table (K.reference_of c g).trait (kinds_of (K.reference_of c g).arguments) fit.takes, tt) x).0

module _ {E X : Type 0} {fixed : E → X} {judge : X → Judge} {state : E → State} {probes : E → List State} {context : E → Context} {stops : Account E}
    (itself : (x : E) (S : State) (q : Question) (s : Stop) → stops x S q s → IsEvaluatorStop s) (law : (f : X) → JudgesAlike (judge f)) where
  -- A call before the list stopped, at the state.
  pub list-not-reached : {A : Type 0} {items : A → List OfNumbers} {R : Listed → Type 0} (first mid new : E) (r : Result A Stop) (s : Stop) → r ≡ Err s → Keeps fixed probes context first mid → state mid ≡ state first → Keeps fixed probes context mid new → state new ≡ state mid
      → StopsSomehow fixed context state stops mid new s → ConsidersAll fixed judge state probes context stops first new (state first) items R r
  list-not-reached first mid new r s is kept same goes rests why = rw is (record {
    kept = after kept goes;
    alike = subst (λ (x : State). (judge (fixed first)).alike (state first) x) (sym (rests ∙ same)) ((law (fixed first)).alike_same (state first));
    told = record { ok = tt; fits = tt; stopped = λ other. absurd (not-both (is_evaluator_stop s) (somehow-own itself s why) other) };
    cause = later (reaches kept) (somehow-here why);
  })

module _ {E X : Type 0} {fixed : E → X} {judge : X → Judge} {state : E → State} {probes : E → List State} {context : E → Context} {stops : Account E} (law : (f : X) → JudgesAlike (judge f)) where
  -- A list that was asked for at a state alike, in a grown context.
  pub moved-each : {A : Type 0} {F H : List (List ℕ) → List (List ℕ) → Type 0} {items : A → List OfNumbers} {R Q : Context → Listed → Type 0} (first mid new : E) (r : Result A Stop)
      → ((xs ys : List (List ℕ)) → F xs ys → H xs ys) → Keeps fixed probes context first mid → (judge (fixed first)).alike (state first) (state mid)
      → ((c : Context) (l : Listed) → IsEarlier c (context first) → R c l → Q c l) → ConsidersAllBut F fixed judge state probes context stops mid new (state mid) items (AtEachEarlier (context mid) R) r
      → ConsidersAllBut H fixed judge state probes context stops first new (state first) items (AtEachEarlier (context first) Q) r
  moved-each {items = items} first mid new r faults kept like weaker c = record {
    kept = keeps-then fixed probes context first mid new faults kept c.kept;
    alike = alike-then judge law (fixed first) (fixed mid) (state first) (state mid) (state new) kept.fixed_same like c.alike;
    told = list-as items (context new).trees r (λ l h x e. weaker x l e (h x (record { grows = grows-trans x (context first) (context mid) e.grows kept.grows; table = e.table }))) c.told;
    cause = so-err r (λ s h. later (reaches kept) h) c.cause;
  }

-- The same of a goal of the context.
goal-unknowable : {G P : Type 0} {K : KindRules G} {B : KindBounds G} {arguments : P → Args} {types : P → List Ty} {see : List Tree → ParamEnv → P → G} → KindLaws K B arguments types see → (J : Judge) (now : Context) (S : State) (env : ParamEnv) (p : P)
    → IsWellFormedTable now → IsGoal K arguments types see now env p → (c : Context) (j : Judged) → IsEarlier c now → UnknowableJudged J now S (K.env_of (see now.trees env p)) (K.reference_of now (see now.trees env p)) j
    → Unknowable K B c J S (see now.trees env p) j
goal-unknowable {K = K} {see = see} laws J now S env p table goal c j e h =
    unknowable-before K J c now S (see now.trees env p) j e (laws.stay.reference c now e.table e.grows (see now.trees env p)) (fits-before laws c now env p e table goal) h

-- What is unknowable of a goal, and what follows it.
module _ {E X G P : Type 0} {fixed : E → X} {judge : X → Judge} {state : E → State} {probes : E → List State} {context : E → Context} {stops : Account E}
    {K : KindRules G} {B : KindBounds G} {arguments : P → Args} {types : P → List Ty} {see : List Tree → ParamEnv → P → G} (law : (f : X) → JudgesAlike (judge f)) (laws : KindLaws K B arguments types see)
    (old mid : E) (env : ParamEnv) (p : P) (from : AssembleCandidatesFrom) (table : IsWellFormedTable (context old)) (goal : IsGoal K arguments types see (context old) env p) (coherence : is_coherence (state old).mode ≡ true) where
  -- It gave the candidate.
  pub alone-listed : (x : OfNumbers) (r : Result (Vec OfNumbers Global) Stop)
      → ConsidersSome fixed judge state probes context stops old mid (UnknowableJudged (judge (fixed old)) (context old) (state old) (K.env_of (see (context old).trees env p)) (K.reference_of (context old) (see (context old).trees env p))) (Ok x)
      → IfOk r (λ v. v.items ≡ x ∷ []) → IfErr r (λ s. s ≡ Memory)
      → ConsidersAllBut (PutsOffOnce (ChainEnds K (judge (fixed old)) (context old) (see (context old).trees env p) (state old))) fixed judge state probes context stops old mid (state old) (λ v. v.items) (AtEachEarlier (context old) (λ c. Assembled K B c (judge (fixed old)) (state old) (see (context old).trees env p) from)) r
  alone-listed x (Ok v) h is _ = record {
    kept = keeps-but fixed probes context old mid (λ us vs e. PutsOffOnce.none e) h.kept;
    alike = h.alike;
    told = record {
      ok = λ c e. subst (λ (xs : List OfNumbers). Assembled K B c (judge (fixed old)) (state old) (see (context old).trees env p) from (Lists (candidates_of (context mid).trees xs))) (sym is)
          (by_unknowable coherence (goal-unknowable laws (judge (fixed old)) (context old) (state old) env p table goal c _ e h.told.ok));
      fits = subst (AreCandidates (context mid).trees) (sym is) (All-cons (λ y. IsResponse (context mid).trees y.result) x [] h.told.fits (All-nil (λ y. IsResponse (context mid).trees y.result)));
      stopped = tt;
    };
    cause = tt;
  }
  alone-listed x (Err s) h _ why = record {
    kept = keeps-but fixed probes context old mid (λ us vs e. PutsOffOnce.none e) h.kept;
    alike = h.alike;
    told = record { ok = tt; fits = tt; stopped = λ other. absurd (not-both (is_evaluator_stop s) (ap is_evaluator_stop why) other) };
    cause = memory-here why;
  }

  -- It stopped.
  pub unknowable-stopped : {A : Type 0} {items : A → List OfNumbers} (s : Stop) (r : Result A Stop) → r ≡ Err s
      → ConsidersSome fixed judge state probes context stops old mid (UnknowableJudged (judge (fixed old)) (context old) (state old) (K.env_of (see (context old).trees env p)) (K.reference_of (context old) (see (context old).trees env p))) (Err (N.Stop s))
      → ConsidersAllBut (PutsOffOnce (ChainEnds K (judge (fixed old)) (context old) (see (context old).trees env p) (state old))) fixed judge state probes context stops old mid (state old) items (AtEachEarlier (context old) (λ c. Assembled K B c (judge (fixed old)) (state old) (see (context old).trees env p) from)) r
  unknowable-stopped s r is h = rw is (record {
    kept = keeps-but fixed probes context old mid (λ us vs e. PutsOffOnce.none e) h.kept;
    alike = h.alike;
    told = record { ok = tt; fits = tt; stopped = λ own c e. unknowable_stops coherence (goal-unknowable laws (judge (fixed old)) (context old) (state old) env p table goal c (Stopped s) e (h.told.stopped own)) };
    cause = h.cause;
  })

  -- It refused, and what is known was listed.
  pub known-listed : {A : Type 0} {items : A → List OfNumbers} (new : E) (r : Result A Stop)
      → ConsidersSome fixed judge state probes context stops old mid (UnknowableJudged (judge (fixed old)) (context old) (state old) (K.env_of (see (context old).trees env p)) (K.reference_of (context old) (see (context old).trees env p))) (Err N.NoSolution)
      → see (context mid).trees env p ≡ see (context old).trees env p → GoalIsValid K (state old) (see (context old).trees env p) → ListsKnown fixed judge state probes context stops K B see mid new env p from items r
      → ConsidersAllBut (PutsOffOnce (ChainEnds K (judge (fixed old)) (context old) (see (context old).trees env p) (state old))) fixed judge state probes context stops old new (state old) items (AtEachEarlier (context old) (λ c. Assembled K B c (judge (fixed old)) (state old) (see (context old).trees env p) from)) r
  known-listed {items = items} new r h seen stands k = record {
    kept = keeps-then fixed probes context old mid new (λ us vs e. once-as ends-before us vs e.once) h.kept k.kept;
    alike = alike-then judge law (fixed old) (fixed mid) (state old) (state mid) (state new) h.kept.fixed_same h.alike k.alike;
    told = told-at-each items (context new).trees (context old) (λ c. Assembled K B c (judge (fixed old)) (state old) (see (context old).trees env p) from) r table (λ c e. list-as items (context new).trees r
        (λ l x. knowable coherence (goal-unknowable laws (judge (fixed old)) (context old) (state old) env p table goal c Refused e (h.told.refused refl))
        (subst (λ (j : Judge). AllKnown K B c j (state old) (see (context old).trees env p) from l) (ap judge h.kept.fixed_same) (subst (λ (d : G). AllKnown K B c (judge (fixed mid)) (state old) d from l) seen x)))
        (k.told c (state old) (asked-then c e)));
    cause = so-err r (λ s x. later (reaches h.kept) x) k.cause;
  }
    where
      ends-before : (end : ChainEnd) → ChainEnds K (judge (fixed mid)) (context mid) (see (context mid).trees env p) (state mid) end → ChainEnds K (judge (fixed old)) (context old) (see (context old).trees env p) (state old) end
      ends-before end x =
          let g = see (context old).trees env p in
          let y = subst (λ (d : G). EndsFrom (judge (fixed mid)) (K.env_of d) (state mid) (self_type K (context mid) d) end) seen x in
          let z = subst (λ (r : Reference). EndsFrom (judge (fixed mid)) (K.env_of g) (state mid) (first_tree r.arguments) end) (laws.stay.reference (context old) (context mid) table h.kept.grows g) y in
          let w = subst (λ (f : X). EndsFrom (judge f) (K.env_of g) (state mid) (self_type K (context old) g) end) h.kept.fixed_same z in
          record { at = w.at; alike = (law (fixed old)).alike_along (state old) (state mid) w.at h.alike w.alike; ends = w.ends }

      asked-then : (c : Context) → IsEarlier c (context old) → WasAsked K (judge (fixed mid)) c (context mid) (state old) (state mid) (see (context mid).trees env p)
      asked-then c e = record {
        earlier = record { grows = grows-trans c (context old) (context mid) e.grows h.kept.grows; table = e.table };
        alike = subst (λ (f : X). (judge f).alike (state old) (state mid)) (sym h.kept.fixed_same) h.alike;
        below = subst (λ (d : G). GoalBelow K (length (state old).variables) d) (sym seen)
            (let b = stands-below (state old) (K.env_of (see (context old).trees env p)) (K.trees_of (see (context old).trees env p)) stands in record { env = b.0; trees = b.1 });
      }

-- Outside of coherence there is what is known.
module _ {E X G P : Type 0} {fixed : E → X} {judge : X → Judge} {state : E → State} {probes : E → List State} {context : E → Context} {stops : Account E}
    {K : KindRules G} {B : KindBounds G} {see : List Tree → ParamEnv → P → G} (law : (f : X) → JudgesAlike (judge f)) where
  pub outside-listed : {A : Type 0} {items : A → List OfNumbers} (old new : E) (env : ParamEnv) (p : P) (from : AssembleCandidatesFrom) (r : Result A Stop) → IsWellFormedTable (context old) → is_coherence (state old).mode ≡ false
      → GoalIsValid K (state old) (see (context old).trees env p) → ListsKnown fixed judge state probes context stops K B see old new env p from items r
      → ConsidersAllBut (PutsOffOnce (ChainEnds K (judge (fixed old)) (context old) (see (context old).trees env p) (state old))) fixed judge state probes context stops old new (state old) items (AtEachEarlier (context old) (λ c. Assembled K B c (judge (fixed old)) (state old) (see (context old).trees env p) from)) r
  outside-listed {items = items} old new env p from r table out stands k =
      let g = see (context old).trees env p in
      let b = stands-below (state old) (K.env_of g) (K.trees_of g) stands in
      record {
        kept = keeps-as fixed probes context old new (λ us vs e. e.once) k.kept;
        alike = k.alike;
        told = told-at-each items (context new).trees (context old) (λ c. Assembled K B c (judge (fixed old)) (state old) g from) r table (λ c e. list-as items (context new).trees r (λ l x. outside out x)
            (k.told c (state old) (record { earlier = e; alike = (law (fixed old)).alike_same (state old); below = record { env = b.0; trees = b.1 } })));
        cause = k.cause;
      }

-- A goal whose self type is in normal form.
module _ {G : Type 0} (K : KindRules G) (B : KindBounds G) (change : TreesChange K B) (S : State) (g : G) (t : Tree) (beside : IsValidBeside K S g t) where
  -- the goal with that self type stands there, too
  pub normal-stands : (T : State) (d : G) → T ≡ S → d ≡ K.with_self_type g t → GoalIsValid K T d
  normal-stands T d same is = subst (λ x. GoalIsValid K T x) (sym is) (subst (λ U. GoalIsValid K U (K.with_self_type g t)) (sym same) (replaced-stands K B change S g t beside))

  pub normal-below : (T : State) (d : G) → T ≡ S → d ≡ K.with_self_type g t → GoalBelow K (length T.variables) d
  normal-below T d same is = let b = stands-below T (K.env_of d) (K.trees_of d) (normal-stands T d same is) in record { env = b.0; trees = b.1 }

  -- neither a parameter nor an escaping bound variable stands in it
  pub normal-free : holds is_param (alone t) ≡ false
  normal-free = (first-there S (K.env_of g) t (K.trees_of g) beside).free

  pub normal-closed : escapes 0 (alone t) ≡ false
  normal-closed = (first-there S (K.env_of g) t (K.trees_of g) beside).trees.is_closed

  -- The goal with values put in: it is the one that is defined, it stands, and its self type is known.

  pub resolved-is : (T : State) (d x : G) (e : Env) → T ≡ S → d ≡ K.with_self_type g t → e ≡ resolved T (K.env_of d) → x ≡ B.with_trees d e (resolved T (K.trees_of d))
      → x ≡ B.with_trees (K.with_self_type g t) (resolved S (K.env_of (K.with_self_type g t))) (resolved S (K.trees_of (K.with_self_type g t)))
  resolved-is T d x e same is env put =
      put
      ∙ (ap (λ y. B.with_trees d y (resolved T (K.trees_of d))) env
      ∙ (ap (λ y. B.with_trees y (resolved T (K.env_of y)) (resolved T (K.trees_of y))) is ∙ ap (λ U. let h = K.with_self_type g t in B.with_trees h (resolved U (K.env_of h)) (resolved U (K.trees_of h))) same))

  pub resolved-stands : (U : State) (x : G) → U ≡ S → x ≡ B.with_trees (K.with_self_type g t) (resolved S (K.env_of (K.with_self_type g t))) (resolved S (K.trees_of (K.with_self_type g t))) → GoalIsValid K U x
  resolved-stands U x same is =
      let h = K.with_self_type g t in
      let e = resolved S (K.env_of h) in
      let ts = resolved S (K.trees_of h) in
      subst (λ y. GoalIsValid K U y) (sym is)
      (subst (λ V. GoalIsValid K V (B.with_trees h e ts)) (sym same)
      (subst (λ us. IsValidAt S (K.env_of (B.with_trees h e ts)) us) (sym (change.put_trees h e ts))
      (subst (λ f. IsValidAt S f ts) (sym (change.put_env h e ts)) (stands-resolved S (K.env_of h) (K.trees_of h) (replaced-stands K B change S g t beside)))))

  pub resolved-typed : (c : Context) (x : G) → x ≡ B.with_trees (K.with_self_type g t) (resolved S (K.env_of (K.with_self_type g t))) (resolved S (K.trees_of (K.with_self_type g t))) → kind_of t.head ≡ TypeKind → is_general t.head ≡ false
      → HasKnownSelfType K c x
  resolved-typed c x is kind general =
      let h = K.with_self_type g t in
      ap (λ y. is_unknown (self_type K c y).head) is
      ∙ (ap (λ (u : Tree). is_unknown u.head) (change.put_self_type S c h (resolved S (K.env_of h)) ∙ ap (resolved_tree S) (change.self_type_is c g t))
      ∙ resolved-known S (K.env_of g) t (first-stands S (K.env_of g) t (K.trees_of g) beside) kind general)

-- what is found out of a type in a grown context
pub general-told : (old mid read : Context) → read ≡ mid → Grows old mid → (ty : Ty) → IsTy old.trees ty → (k : TyKind) (b : Bool) → b ≡ is_general_variable k → kind_tree read.trees k ≡ ty_tree read.trees ty → is_general (ty_tree old.trees ty).head ≡ b
general-told old mid read same grows ty sort k b is tree =
    ap (λ (u : Tree). is_general u.head) (sym (ty-kept old mid ty grows sort).1)
    ∙ (ap (λ (u : Tree). is_general u.head) (ap (λ (x : Context). ty_tree x.trees ty) (sym same) ∙ sym tree) ∙ (sym (general-kind read.trees k) ∙ sym is))

variable-same : {G : Type 0} (K : KindRules G) (J L : Judge) (c : Context) (S T : State) (d g : G) (from : AssembleCandidatesFrom) → L ≡ J → T ≡ S → d ≡ g → variable_answers K L c T d from ≡ variable_answers K J c S g from
variable-same K J L c S T d g from a b e =
    subst (λ (M : Judge). variable_answers K M c T d from ≡ variable_answers K J c S g from) (sym a)
    (subst (λ (U : State). variable_answers K J c U d from ≡ variable_answers K J c S g from) (sym b)
    (subst (λ x. variable_answers K J c S x from ≡ variable_answers K J c S g from) (sym e) refl))

-- Lists of a goal whose self type is in normal form.
module _ {E X G : Type 0} {fixed : E → X} {judge : X → Judge} {state : E → State} {probes : E → List State} {context : E → Context} {stops : Account E}
    {K : KindRules G} {B : KindBounds G} (law : (f : X) → JudgesAlike (judge f)) (old mid new : E) (g d : G) (t : Tree) (from : AssembleCandidatesFrom) where
  -- The self type is a general variable.
  pub variable-listed : {A : Type 0} {items : A → List OfNumbers} (r : Result A Stop) → Keeps fixed probes context old mid → state mid ≡ state old → d ≡ K.with_self_type g t → is_general t.head ≡ true
      → ConsidersAll fixed judge state probes context stops mid new (state mid) items (AtEachEarlier (context mid) (λ c l. l ≡ variable_answers K (judge (fixed mid)) c (state mid) d from)) r
      → ConsidersAllBut (PutsOffOnce (TypedChainEnds K B (context old) (judge (fixed old)) (state old) g t)) fixed judge state probes context stops old new (state old) items
      (AtEachEarlier (context old) (λ c. OfNormalSelfType K B c (judge (fixed old)) (state old) g t from)) r
  variable-listed r kept same is general h =
      moved-each law {R = λ c l. l ≡ variable_answers K (judge (fixed mid)) c (state mid) d from} {Q = λ c. OfNormalSelfType K B c (judge (fixed old)) (state old) g t from} old mid new r (λ us vs e. PutsOffOnce.none e) kept
      (subst (λ (x : State). (judge (fixed old)).alike (state old) x) (sym same) ((law (fixed old)).alike_same (state old))) (λ c l e q. variable-so c l q) h
    where
      variable-so : (c : Context) (l : Listed) → l ≡ variable_answers K (judge (fixed mid)) c (state mid) d from → OfNormalSelfType K B c (judge (fixed old)) (state old) g t from l
      variable-so c l q =
          let all : l ≡ variable_answers K (judge (fixed old)) c (state old) (K.with_self_type g t) from
          = q ∙ variable-same K (judge (fixed old)) (judge (fixed mid)) c (state old) (state mid) d (K.with_self_type g t) from (ap judge kept.fixed_same) same is in
          subst (λ (m : Listed). OfNormalSelfType K B c (judge (fixed old)) (state old) g t from m) (sym all) (by_variable general)

  -- It's another type.
  pub others-listed : {A : Type 0} {items : A → List OfNumbers} (r : Result A Stop) → K.reference_of (context mid) d ≡ K.reference_of (context old) d → Keeps fixed probes context old mid → state mid ≡ state old
      → d ≡ B.with_trees (K.with_self_type g t) (resolved (state old) (K.env_of (K.with_self_type g t))) (resolved (state old) (K.trees_of (K.with_self_type g t))) → is_general t.head ≡ false
      → ConsidersAllBut (PutsOffOnce (ChainEnds K (judge (fixed mid)) (context mid) d (state mid))) fixed judge state probes context stops mid new (state mid) items (AtEachEarlier (context mid) (λ c. Assembled K B c (judge (fixed mid)) (state mid) d from)) r
      → ConsidersAllBut (PutsOffOnce (TypedChainEnds K B (context old) (judge (fixed old)) (state old) g t)) fixed judge state probes context stops old new (state old) items
      (AtEachEarlier (context old) (λ c. OfNormalSelfType K B c (judge (fixed old)) (state old) g t from)) r
  others-listed r reference kept same is general h =
      moved-each law old mid new r (λ us vs e. once-as typed us vs e) kept (subst (λ (x : State). (judge (fixed old)).alike (state old) x) (sym same) ((law (fixed old)).alike_same (state old)))
      (λ c l e q. others general
      (subst (λ x. Assembled K B c (judge (fixed old)) (state old) x from l) is
      (subst (λ (S : State). Assembled K B c (judge (fixed old)) S d from l) same (subst (λ f. Assembled K B c (judge f) (state mid) d from l) kept.fixed_same q)))) h
    where
      typed : (end : ChainEnd) → ChainEnds K (judge (fixed mid)) (context mid) d (state mid) end → TypedChainEnds K B (context old) (judge (fixed old)) (state old) g t end
      typed end x = record {
        other = general;
        ends = subst (λ (y : G). ChainEnds K (judge (fixed old)) (context old) y (state old) end) is
            (subst (λ (S : State). ChainEnds K (judge (fixed old)) (context old) d S end) same
            (subst (λ (f : X). ChainEnds K (judge f) (context old) d (state mid) end) kept.fixed_same
            (subst (λ (r : Reference). EndsFrom (judge (fixed mid)) (K.env_of d) (state mid) (first_tree r.arguments) end) reference x)));
      }

-- The same list as another answer holds it, and the same stop.
module _ {E X : Type 0} {fixed : E → X} {judge : X → Judge} {state : E → State} {probes : E → List State} {context : E → Context} {stops : Account E} {old new : E} {left : State} {R : Listed → Type 0} {P : List (List ℕ) → List (List ℕ) → Type 0} where
  pub held-in : {A C : Type 0} {items : A → List OfNumbers} (holding : C → List OfNumbers) (a : A) (x : C) → holding x ≡ items a → ConsidersAllBut P fixed judge state probes context stops old new left items R (Ok a)
      → ConsidersAllBut P fixed judge state probes context stops old new left holding R (Ok x)
  held-in holding a x same h = record {
    kept = h.kept;
    alike = h.alike;
    told = record {
      ok = subst (λ (xs : List OfNumbers). R (Lists (candidates_of (context new).trees xs))) (sym same) h.told.ok;
      fits = subst (λ (xs : List OfNumbers). AreCandidates (context new).trees xs) (sym same) h.told.fits;
      stopped = tt;
    };
    cause = tt;
  }

  pub stop-handed : {A C : Type 0} {items : A → List OfNumbers} {holding : C → List OfNumbers} (s : Stop) → ConsidersAllBut {A = A} P fixed judge state probes context stops old new left items R (Err s) → ConsidersAllBut {A = C} P fixed judge state probes context stops old new left holding R (Err s)
  stop-handed s h = record { kept = h.kept; alike = h.alike; told = record { ok = tt; fits = tt; stopped = h.told.stopped }; cause = h.cause }

-- The whole list, by the normal form of the goal's self type.
module _ {E X G : Type 0} {fixed : E → X} {judge : X → Judge} {state : E → State} {probes : E → List State} {context : E → Context} {stops : Account E}
    {K : KindRules G} {B : KindBounds G} (law : (f : X) → JudgesAlike (judge f)) (old mid : E) (g : G) (from : AssembleCandidatesFrom) (kept : Keeps fixed probes context old mid) where
  -- It was refused, which leaves the state.
  pub refused-listed : {A : Type 0} {items : A → List OfNumbers} (x : A) → items x ≡ [] → (judge (fixed old)).normalized (state old) (K.env_of g) (self_type K (context old) g) ≡ None → state mid ≡ state old
      → Assembles fixed judge state probes context stops K B old mid g from items (Ok x)
  refused-listed {items = items} x none is same = record {
    kept = keeps-but fixed probes context old mid (λ us vs e. PutsOffOnce.none e) kept;
    told = record {
      ok = subst (λ (xs : List OfNumbers). IsAssembledAt K B (context old) (judge (fixed old)) (state old) g from (state mid) (Lists (candidates_of (context mid).trees xs))) (sym none)
          (record { left = state old; assembled = refused is; alike = subst (λ (y : State). (judge (fixed old)).alike (state old) y) (sym same) ((law (fixed old)).alike_same (state old)) });
      fits = subst (λ (xs : List OfNumbers). AreCandidates (context mid).trees xs) (sym none) (All-nil (λ y. IsResponse (context mid).trees y.result));
      stopped = tt;
    };
    stopped = tt;
    cause = tt;
  }

  -- It stopped.
  pub normalizing-stopped : {A : Type 0} {items : A → List OfNumbers} (s : Stop) (r : Result A Stop) → r ≡ Err s → (q : Question) → ((x : E) (S : State) (p : Question) (z : Stop) → stops x S p z → IsEvaluatorStop z) → (judge (fixed old)).alike (state old) (state mid) → stops mid (state old) q s
      → Assembles fixed judge state probes context stops K B old mid g from items r
  normalizing-stopped s r is q itself like why = rw is (record {
    kept = keeps-but fixed probes context old mid (λ us vs e. PutsOffOnce.none e) kept;
    told = record { ok = tt; fits = tt; stopped = λ other. absurd (not-both (is_evaluator_stop s) (evaluator-own s (itself mid (state old) q s why)) other) };
    stopped = before like;
    cause = asked-here q kept why;
  })

  -- There is one, and the list was asked for at the state that it leaves.
  pub normal-listed : {A : Type 0} {items : A → List OfNumbers} (new : E) (d : G) (t : Tree) (r : Result A Stop) → IsWellFormedTable (context old)
      → ((x : G) → K.reference_of (context mid) x ≡ K.reference_of (context old) x) → d ≡ g → (judge (fixed old)).normalized (state old) (K.env_of g) (self_type K (context old) g) ≡ Some (t, state mid)
      → ConsidersAllBut (PutsOffOnce (TypedChainEnds K B (context mid) (judge (fixed mid)) (state mid) d t)) fixed judge state probes context stops mid new (state mid) items
      (AtEachEarlier (context mid) (λ c. OfNormalSelfType K B c (judge (fixed mid)) (state mid) d t from)) r
      → Assembles fixed judge state probes context stops K B old new g from items r
  normal-listed {items = items} new d t r table reference same is h = record {
    kept = keeps-then fixed probes context old mid new (λ us vs e. once-as ends-normal us vs e) kept h.kept;
    told = list-as items (context new).trees r (λ l x. listed-at l (x (context old) (record { grows = kept.grows; table = table }))) h.told;
    stopped = so-err r (λ s x. normal is like) h.cause;
    cause = so-err r (λ s x. later (reaches kept) x) h.cause;
  }
    where
      like : (judge (fixed old)).alike (state mid) (state new)
      like = subst (λ (f : X). (judge f).alike (state mid) (state new)) kept.fixed_same h.alike

      ends-normal : (end : ChainEnd) → TypedChainEnds K B (context mid) (judge (fixed mid)) (state mid) d t end → NormalChainEnds K B (context old) (judge (fixed old)) (state old) g end
      ends-normal end x = record {
        self = t;
        left = state mid;
        normal = is;
        typed = record {
          other = x.other;
          ends = subst (λ (f : X). ChainEnds K (judge f) (context old) (resolved_goal K B (context old) (state mid) (K.with_self_type g t)) (state mid) end) kept.fixed_same
              (subst (λ (y : G). ChainEnds K (judge (fixed mid)) (context old) (resolved_goal K B (context old) (state mid) (K.with_self_type y t)) (state mid) end) same
              (let q = resolved_goal K B (context mid) (state mid) (K.with_self_type d t) in
              subst (λ (z : Reference). EndsFrom (judge (fixed mid)) (K.env_of q) (state mid) (first_tree z.arguments) end) (reference q) x.ends));
        };
      }

      listed-at : (l : Listed) → OfNormalSelfType K B (context old) (judge (fixed mid)) (state mid) d t from l → IsAssembledAt K B (context old) (judge (fixed old)) (state old) g from (state new) l
      listed-at l x = record {
        left = state mid;
        assembled = by_normal is (subst (λ (y : G). OfNormalSelfType K B (context old) (judge (fixed old)) (state mid) y t from l) same (subst (λ (f : X). OfNormalSelfType K B (context old) (judge f) (state mid) d t from l) kept.fixed_same x));
        alike = like;
      }

-- a goal and the normal form of its self type stand at the state that normalising leaves
pub normal-form-stands : {G : Type 0} (K : KindRules G) (B : KindBounds G) → TreesChange K B → (J : Judge) → NormalFormLaws J → (S T : State) (c : Context) (g d : G) (t : Tree) → d ≡ g → GoalIsValid K S g → J.normalized S (K.env_of g) (self_type K c g) ≡ Some (t, T)
    → IsValidBeside K T d t
normal-form-stands K B change J law S T c g d t same stands is =
    let s = self-type-beside K B change S c g stands in
    let u = self_type K c g in
    subst (λ x. IsValidBeside K T x t) (sym same) (second-dropped T (K.env_of g) t u (K.trees_of g) (stands-normal J law S T (K.env_of g) u t (begin u (K.trees_of g)) s (first-there S (K.env_of g) u (K.trees_of g) s) is))
