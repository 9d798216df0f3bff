-- How far a walk along a chain of aliases has come, and what it comes to.
use Rattle.std.proofs.Common.{◌≡◌, ◌-◌, arith, ℕ, zero, suc, true, false, Option, Some, None, List, ◌∷◌, ◌++◌, refl, sym, ap, subst, ◌∙◌}
use Rattle.std.proofs.lemmas.List.{append-nil}
use Rattle.std.specs.Prelude.{IfErr, Result, Ok, Err}
use Rattle.ir_trees.specs.declared.decl.contents.AliasBoundKind.{AliasBoundKind}
use Rattle.ir_trees.specs.declared.decl.contents.AliasBoundKind.TheVariants.{SelfBounds, NonSelfBounds}
use Rattle.ir_trees.specs.declared.ir.heads.Head.{Head}
use Rattle.ir_trees.specs.declared.ir.heads.Head.TheVariants as H
use Rattle.ir_trees.specs.declared.ir.kinds.AliasKind.TheVariants as AK
use Rattle.ir_trees.specs.declared.ir.kinds.AliasTy.{AliasTy}
use Rattle.ir_trees.specs.declared.ir.kinds.Args.{Args}
use Rattle.ir_trees.specs.declared.ir.kinds.ParamEnv.{ParamEnv}
use Rattle.ir_trees.specs.declared.ir.kinds.Ty.{Ty}
use Rattle.ir_trees.specs.declared.ir.kinds.TyKind.TheVariants as TK
use Rattle.ir_trees.specs.declared.ir.stop.Stop.{Stop}
use Rattle.ir_trees.specs.declared.ir.stop.Stop.TheVariants.{AliasDepth}
use Rattle.ir_trees.specs.Declarations.Context.{Context, Grows}
use Rattle.ir_trees.specs.Syntax.Trees.{Tree, binders_of}
use Rattle.ir_trees.specs.Validity.WellFormed.{IsWellFormedTable}
use Rattle.ir_trees.specs.Syntax.Words.{IsTy, env_forest, kind_tree, ty_tree}
use Rattle.ir_trees.proofs.Growth.Kept.{grows-refl, grows-trans}
use Rattle.candidate_eval.specs.declared.eval.response.Candidate.{Candidate as OfNumbers}
use Rattle.candidate_eval.specs.Interface.Accounts.{Account, Question}
use Rattle.candidate_eval.specs.Judges.Alike.{JudgesAlike}
use Rattle.candidate_eval.specs.Interface.Evaluators.{IsEvaluatorStop, Keeps, KeepsBut, NoFault, PutsOffIfOk}
use Rattle.candidate_eval.specs.Interface.Knowing.{is_evaluator_stop}
use Rattle.candidate_eval.specs.Judges.Lawful.{Lawful}
use Rattle.candidate_eval.specs.Dynamic.ObjectRequirements.{first_tree}
use Rattle.candidate_eval.specs.Outcomes.ResponseTrees.{AreCandidates, candidates_of}
use Rattle.candidate_eval.specs.Outcomes.Responses.{Candidate}
use Rattle.candidate_eval.specs.Judges.States.{Env, Judge, State}
use Rattle.candidate_eval.proofs.Interface.Accounts.{reaches}
use Rattle.candidate_eval.proofs.Dynamic.Objects.{env-kept}
use Rattle.candidate_eval.proofs.Interface.Probing.{alike-probe, keeps-as, keeps-but, keeps-but-probe, keeps-then, then as after}
use Rattle.candidate_assembly.specs.Rules.AliasBounds.{AtVariable, ChainEnd, Done, Misplaced, TooLong, end_answers, end_at, has_bounds, is_projection, link, link_rules}
use Rattle.candidate_assembly.specs.Rules.AliasFaults.{ChainEnds, Ends, EndsFrom, PutsOffAtEnd, PutsOffFirst, PutsOffOnce, PutsOffSo, at_opaque, at_other, at_refusal, beyond, faults_at, once}
use Rattle.candidate_assembly.specs.Calls.AliasChains.{ChainFollows, Comes, Continues, GoesTo, IsBoundedAlias, WalksChain, answers_of_link, no_bounds, opaque, projection, refused, stopped, too_long}
use Rattle.candidate_assembly.proofs.Aliases.Chains.{chain-found}
use Rattle.candidate_assembly.specs.Calls.AliasChains.GoesTo.{ends, further, nowhere}
use Rattle.candidate_assembly.specs.Goals.KindBounds.{Additional, KindBounds}
use Rattle.candidate_assembly.specs.Calls.Earlier.{AtEachEarlier, IsEarlier}
use Rattle.candidate_assembly.specs.Goals.KindLaws.{KindLaws}
use Rattle.candidate_assembly.specs.Goals.Kinds.{IsGoal, KindRules, SaysTheSame, self_type}
use Rattle.candidate_assembly.specs.Answers.Listing.{ConsidersAll, ConsidersAllBut, Listed, Lists, Stops, ToldList, after_these, answers, answers_at, together}
use Rattle.candidate_assembly.specs.Goals.Standing.{GoalIsValid, IsValidBeside}
use Rattle.candidate_assembly.specs.Answers.Telling.{StopsOfItself}
use Rattle.candidate_assembly.proofs.Aliases.AliasChains.{alias-kept, beside-alike, link-kept, list-as}
use Rattle.candidate_assembly.proofs.Calls.Causes.{asked-here, later, so-err, within}
use Rattle.candidate_assembly.proofs.Aliases.Chains.{together-joined}
use Rattle.candidate_assembly.proofs.Calls.Considering.{not-both}
use Rattle.candidate_assembly.proofs.Lists.Listing.{candidates-kept}
use Rattle.candidate_assembly.proofs.Goals.Standing.{normal-beside, self-type-beside}
use Rattle.candidate_assembly.proofs.Calls.Stepping.{evaluator-own}

-- What is left comes to what the whole comes to, after the candidates that are there. The type where the walk stands is one of the context's,
-- and stands beside the goal.
pub record ChainSoFar {E X G P : Type 0} (fixed : E → X) (judge : X → Judge) (state : E → State) (probes : E → List State) (context : E → Context)
    (K : KindRules G) (B : KindBounds G) (arguments : P → Args) (types : P → List Ty) (see : List Tree → ParamEnv → P → G) (env : ParamEnv) (p : P)
    (first now : E) (before items : List OfNumbers) (ty : Ty) (kind : AliasBoundKind) (left : ℕ) : Type 0 where
  pub kept : Keeps fixed probes context first now
  pub goal : IsGoal K arguments types see (context first) env p
  pub fits : AreCandidates (context now).trees items
  pub sort : IsTy (context now).trees ty
  pub stands : IsValidBeside K (state now) (see (context now).trees env p) (ty_tree (context now).trees ty)
  pub whole : (c : Context) → IsEarlier c (context first) → (rest : Listed) → Comes K B.additional (judge (fixed first)) c (see (context first).trees env p) left kind (state now) (ty_tree (context now).trees ty) rest
      → ChainFollows K B.additional (judge (fixed first)) c (see (context first).trees env p) (state first) (candidates_of (context first).trees before) (together (Lists (candidates_of (context now).trees items)) rest)
  pub ends : (end : ChainEnd) → Ends (judge (fixed first)) (K.env_of (see (context first).trees env p)) left kind (state now) (ty_tree (context now).trees ty) end
      → ChainEnds K (judge (fixed first)) (context first) (see (context first).trees env p) (state first) end

-- what is left of the chain, after the candidates that are there
pub record IsLeft {G : Type 0} (K : KindRules G) (B : KindBounds G) (J : Judge) (c : Context) (g : G) (n : ℕ) (b : AliasBoundKind) (S : State) (t : Tree) (xs : List Candidate) (l : Listed) : Type 0 where
  pub rest : Listed
  pub comes : Comes K B.additional J c g n b S t rest
  pub is : l ≡ together (Lists xs) rest

pub one-less : (n : ℕ) → (n ≡ 0 → ⊥) → n ≡ suc (n - 1)
one-less zero h = absurd (h refl)
one-less (suc n) h = omega arith

pub after-stops : (xs : List Candidate) (l : Listed) (s : Stop) → Stops s ≡ together (Lists xs) l → l ≡ Stops s
after-stops xs (Lists ys) s e = absurd cc
after-stops xs (Stops z) s e = sym e

projection-binders : (h : Head) → is_projection h ≡ true → binders_of h ≡ 0
projection-binders (H.Alias k i) e = refl
projection-binders h e = absurd cc

has-projection : (h : Head) → is_projection h ≡ true → has_bounds h ≡ true
has-projection (H.Alias AK.Projection i) e = refl
has-projection h e = absurd cc

-- What comes of where the chain goes on.
module _ {G : Type 0} (K : KindRules G) (more : Additional G) {J : Judge} {c : Context} {g : G} where
  comes-ended : {n : ℕ} {b : AliasBoundKind} {S T U : State} {t : Tree} → J.alike S T → GoesTo J (K.env_of g) T t None U → Comes K more J c g (suc n) b S t (answers_of_link K more J c g b S t)
  comes-ended like (ends o) = opaque o
  comes-ended {T = T} like (nowhere p e) = refused T p like e

  comes-further : {n : ℕ} {b : AliasBoundKind} {S T U : State} {t u : Tree} {rest : Listed} → J.alike S T → GoesTo J (K.env_of g) T t (Some u) U → Comes K more J c g n NonSelfBounds U u rest
      → Comes K more J c g (suc n) b S t (together (answers_of_link K more J c g b S t) rest)
  comes-further {T = T} like (further p e) rest = projection T p like e rest

-- How it ends, by where it goes on.

ends-there : {J : Judge} {e : Env} {n : ℕ} {b : AliasBoundKind} {S T U : State} {t : Tree} → J.alike S T → GoesTo J e T t None U → Ends J e (suc n) b S t Done
ends-there like (ends o) = at_opaque o
ends-there {T = T} like (nowhere p e) = at_refusal T p like e

ends-further : {J : Judge} {e : Env} {n : ℕ} {b : AliasBoundKind} {S T U : State} {t u : Tree} {end : ChainEnd} → J.alike S T → GoesTo J e T t (Some u) U → Ends J e n NonSelfBounds U u end → Ends J e (suc n) b S t end
ends-further {T = T} like (further p e) rest = beyond T p like e rest

-- What is put off, by another relation of ends that holds where the one does.

pub end-so : {F G : ChainEnd → Type 0} → ((end : ChainEnd) → F end → G end) → (xs ys : List (List ℕ)) → PutsOffSo F xs ys → PutsOffSo G xs ys
end-so f xs ys p = record { end = p.end; ends = f p.end p.ends; are = p.are }

pub end-as : {F G : ChainEnd → Type 0} → ((end : ChainEnd) → F end → G end) → {A : Type 0} (r : Result A Stop) (xs ys : List (List ℕ)) → PutsOffAtEnd F r xs ys → PutsOffAtEnd G r xs ys
end-as f (Ok x) xs ys p = record { ok = end-so f xs ys p.ok; stopped = tt }
end-as f (Err s) xs ys p = record { ok = tt; stopped = p.stopped }

-- At most the one fault is put off, where a chain's end says what is.
pub once-so : {F : ChainEnd → Type 0} (end : ChainEnd) → F end → (xs ys : List (List ℕ)) → ys ≡ xs ++ faults_at end → PutsOffOnce F xs ys
once-so Misplaced so xs ys e = once so e
once-so Done so xs ys e = PutsOffOnce.none (e ∙ append-nil xs)
once-so (AtVariable S) so xs ys e = PutsOffOnce.none (e ∙ append-nil xs)
once-so TooLong so xs ys e = PutsOffOnce.none (e ∙ append-nil xs)

pub first-put-off : {F : ChainEnd → Type 0} {A : Type 0} (r : Result A Stop) (xs ys : List (List ℕ)) → PutsOffSo F xs ys → PutsOffFirst F r xs ys
first-put-off (Ok x) xs ys p = record { once = once-so p.end p.ends xs ys p.are; ok = p }
first-put-off (Err s) xs ys p = record { once = once-so p.end p.ends xs ys p.are; ok = tt }

pub once-as : {F G : ChainEnd → Type 0} → ((end : ChainEnd) → F end → G end) → (xs ys : List (List ℕ)) → PutsOffOnce F xs ys → PutsOffOnce G xs ys
once-as f xs ys (PutsOffOnce.none e) = PutsOffOnce.none e
once-as f xs ys (once so e) = once (f Misplaced so) e

-- a call that stops, and puts off none
pub nothing-at-end : {F : ChainEnd → Type 0} {A : Type 0} (r : Result A Stop) (s : Stop) → r ≡ Err s → (xs ys : List (List ℕ)) → ys ≡ xs → PutsOffAtEnd F r xs ys
nothing-at-end {F = F} {A = A} r s is xs ys e = subst (λ (x : Result A Stop). PutsOffAtEnd F x xs ys) (sym is) (record { ok = tt; stopped = e })

put-off-there : {F : ChainEnd → Type 0} (end : ChainEnd) → F end → {A : Type 0} (r : Result A Stop) (xs ys : List (List ℕ)) → PutsOffIfOk (faults_at end) r xs ys → PutsOffAtEnd F r xs ys
put-off-there end so (Ok x) xs ys p = record { ok = record { end = end; ends = so; are = p.0 }; stopped = tt }
put-off-there end so (Err s) xs ys p = record { ok = tt; stopped = p.1 }

goes-projection : {J : Judge} {e : Env} {S T : State} {t u : Tree} → GoesTo J e S t (Some u) T → (is_projection t.head ≡ true) × (J.normalized S e (first_tree t.children) ≡ Some (u, T))
goes-projection (further p e) = (p, e)

module _ {E X G P : Type 0} {fixed : E → X} {judge : X → Judge} {state : E → State} {probes : E → List State} {context : E → Context} {K : KindRules G} {B : KindBounds G} {arguments : P → Args} {types : P → List Ty} {see : List Tree → ParamEnv → P → G}
    (lawful : (f : X) → Lawful (judge f)) (laws : KindLaws K B arguments types see) (stays : (old new : Context) (env : ParamEnv) (p : P) → Grows old new → IsGoal K arguments types see old env p → SaysTheSame K see old new env p)
    (given : (ts : List Tree) (env : ParamEnv) (p : P) → K.env_of (see ts env p) ≡ env_forest ts env) (env : ParamEnv) (p : P) where
  -- The walk begins at the self type.
  pub chain-begins : (first : E) (before : List OfNumbers) (ty : Ty) (left : ℕ) → IsGoal K arguments types see (context first) env p → AreCandidates (context first).trees before → IsTy (context first).trees ty → ty_tree (context first).trees ty ≡ self_type K (context first) (see (context first).trees env p)
      → GoalIsValid K (state first) (see (context first).trees env p) → (judge (fixed first)).limits.alias_chain ≡ left → ChainSoFar fixed judge state probes context K B arguments types see env p first first before before ty SelfBounds left
  chain-begins first before ty left goal fit sort is stands limit =
      let c1 = context first in
      let J = judge (fixed first) in
      record {
        kept = record { fixed_same = refl; probes_same = refl; grows = grows-refl c1; faults = refl };
        goal = goal;
        fits = fit;
        sort = sort;
        stands = subst (λ t. IsValidBeside K (state first) (see c1.trees env p) t) (sym is) (self-type-beside K B laws.change (state first) c1 (see c1.trees env p) stands);
        whole = λ c w rest comes.
            let same : ty_tree c1.trees ty ≡ self_type K c (see (context first).trees env p) = is ∙ ap (λ r. first_tree r.arguments) (laws.stay.reference c c1 w.table w.grows (see c1.trees env p)) in
            record {
              by_aliases = rest;
              chain = chain-found K B.additional J c (see (context first).trees env p) ((lawful (fixed first)).alike_judged_alike.alike_same) (state first) rest
                  (subst (λ n. Comes K B.additional J c (see (context first).trees env p) n SelfBounds (state first) (self_type K c (see (context first).trees env p)) rest) (sym limit)
                  (subst (λ t. Comes K B.additional J c (see (context first).trees env p) left SelfBounds (state first) t rest) same comes));
              is = refl;
            };
        ends = λ end x. record {
          at = state first;
          alike = (lawful (fixed first)).alike_judged_alike.alike_same (state first);
          ends = subst (λ n. Ends J (K.env_of (see c1.trees env p)) n SelfBounds (state first) (self_type K c1 (see c1.trees env p)) end) (sym limit)
              (subst (λ t. Ends J (K.env_of (see c1.trees env p)) left SelfBounds (state first) t end) is x);
        };
      }

  module _ (first now : E) (before items : List OfNumbers) (ty : Ty) (kind : AliasBoundKind) (left : ℕ) (s : ChainSoFar fixed judge state probes context K B arguments types see env p first now before items ty kind left) where
    -- A goal of an earlier context, as it is now.
    earlier : (c : Context) → IsEarlier c (context first) → Grows c (context now)
    earlier c w = grows-trans c (context first) (context now) w.grows s.kept.grows

    same-goal : see (context now).trees env p ≡ see (context first).trees env p
    same-goal = (stays (context first) (context now) env p s.kept.grows s.goal).seen

    -- What a call tells of what is left.
    walked : {A : Type 0} {stops : Account E} (new : E) (xs : List OfNumbers) (answer : Result A Stop)
        → KeepsBut (PutsOffAtEnd (Ends (judge (fixed first)) (K.env_of (see (context first).trees env p)) left kind (state now) (ty_tree (context now).trees ty)) answer) fixed probes context now new
        → ((c : Context) → IsEarlier c (context first) → ToldList (λ _. xs) (context new).trees (IsLeft K B (judge (fixed first)) c (see (context first).trees env p) left kind (state now) (ty_tree (context now).trees ty) (candidates_of (context now).trees items)) answer)
        → IfErr answer (StopsOfItself fixed context state stops now new)
        → WalksChain fixed judge state probes context stops K B see first new env p before xs answer
    walked new xs answer kept tells cause = record {
      kept = keeps-then fixed probes context first now new (λ ys zs. end-as s.ends answer ys zs) s.kept kept;
      told = λ c w. list-as (λ _. xs) (context new).trees answer (λ l x. subst (ChainFollows K B.additional (judge (fixed first)) c (see (context first).trees env p) (state first) (candidates_of (context first).trees before)) (sym x.is) (s.whole c w x.rest x.comes)) (tells c w);
      cause = so-err answer (λ z. later (reaches s.kept)) cause;
    }

    -- There is one alias too many.
    pub too-deep : {A : Type 0} {stops : Account E} (result : Result A Stop) → result ≡ Err AliasDepth → left ≡ 0 → has_bounds (ty_tree (context now).trees ty).head ≡ true
        → WalksChain fixed judge state probes context stops K B see first now env p before items result
    too-deep result is none has = rw is (walked now items (Err AliasDepth) (record { fixed_same = refl; probes_same = refl; grows = grows-refl (context now); faults = record { ok = tt; stopped = refl } })
        (λ c w. record {
          ok = tt;
          fits = tt;
          stopped = λ own. record {
            rest = Stops AliasDepth;
            comes = subst (λ n. Comes K B.additional (judge (fixed first)) c (see (context first).trees env p) n kind (state now) (ty_tree (context now).trees ty) (Stops AliasDepth)) (sym none) (too_long has);
            is = refl;
          };
        }) (λ own. absurd cc))

    -- The chain ends at a type that is no alias with bounds.
    pub ended-there : {A : Type 0} {stops : Account E} (new : E) (xs : List OfNumbers) (result : Result A Stop) → has_bounds (ty_tree (context now).trees ty).head ≡ false
        → ConsidersAllBut (PutsOffIfOk (faults_at (end_at kind (state now) (ty_tree (context now).trees ty).head)) result) fixed judge state probes context stops now new (state now) (λ _. xs)
        (λ l. l ≡ after_these (context now).trees items (end_answers K (judge (fixed now)) (see (context now).trees env p) (end_at kind (state now) (ty_tree (context now).trees ty).head))) result
        → WalksChain fixed judge state probes context stops K B see first new env p before xs result
    ended-there new xs result other c = walked new xs result (keeps-as fixed probes context now new (λ ys zs. put-off-there _ (at_other other) result ys zs) c.kept)
        (λ x w. list-as (λ _. xs) (context new).trees result (λ l e. record {
          rest = end_answers K (judge (fixed first)) (see (context first).trees env p) (end_at kind (state now) (ty_tree (context now).trees ty).head);
          comes = no_bounds other;
          is = e ∙ ap (together (Lists (candidates_of (context now).trees items)))
              (ap (λ j. end_answers K (judge j) (see (context now).trees env p) (end_at kind (state now) (ty_tree (context now).trees ty).head)) s.kept.fixed_same
              ∙ ap (λ g. end_answers K (judge (fixed first)) g (end_at kind (state now) (ty_tree (context now).trees ty).head)) same-goal);
        }) c.told) c.cause

    module _ (a : AliasTy) (n : ℕ) (bounded : IsBoundedAlias (context now) a) (tree-is : kind_tree (context now).trees (TK.Alias a) ≡ ty_tree (context now).trees ty) (goes-left : left ≡ suc n) where
      has : has_bounds (ty_tree (context now).trees ty).head ≡ true
      has = subst (λ t. has_bounds t.head ≡ true) tree-is bounded.has

      abbrev link-now : Listed
      link-now = answers_at (judge (fixed now)) (link_rules K B.additional (context now) (see (context now).trees env p) (link kind (state now) (kind_tree (context now).trees (TK.Alias a))))

      -- what the alias gives is what it gives in each earlier context
      link-is : (c : Context) → IsEarlier c (context first) → link-now ≡ answers_of_link K B.additional (judge (fixed first)) c (see (context first).trees env p) kind (state now) (ty_tree (context now).trees ty)
      link-is c w =
          let q = earlier c w in
          let g = see (context first).trees env p in
          ap (λ j. answers_at (judge j) (link_rules K B.additional (context now) (see (context now).trees env p) (link kind (state now) (kind_tree (context now).trees (TK.Alias a))))) s.kept.fixed_same
          ∙ (ap (answers (judge (fixed first)) (state now)) (link-kept K B laws.stay c (context now) g (see (context now).trees env p) kind a w.table q bounded same-goal (laws.stay.fits c (context now) w.table q g))
          ∙ ap (λ t. answers_of_link K B.additional (judge (fixed first)) c g kind (state now) t) tree-is)

      abbrev Considered : {A : Type 0} → Account E → E → List OfNumbers → Result A Stop → Type 0
      Considered stops mid xs answer = ConsidersAll fixed judge state probes context stops now mid (state now) (λ _. xs) (λ l. l ≡ after_these (context now).trees items link-now) answer

      -- A rule of the alias stops.
      pub stopped-there : {A C : Type 0} {stops : Account E} (mid : E) (xs ys : List OfNumbers) (z : Stop) (result : Result C Stop) → result ≡ Err z → Considered {A = A} stops mid xs (Err z)
          → WalksChain fixed judge state probes context stops K B see first mid env p before ys result
      stopped-there mid xs ys z result is c = rw is (walked mid ys (Err z) (keeps-but fixed probes context now mid (λ us vs e. record { ok = tt; stopped = e }) c.kept)
          (λ x w. record {
            ok = tt;
            fits = tt;
            stopped = λ own.
                let e = after-stops (candidates_of (context now).trees items) link-now z (c.told.stopped own) in
                record {
                  rest = Stops z;
                  comes = subst (λ m. Comes K B.additional (judge (fixed first)) x (see (context first).trees env p) m kind (state now) (ty_tree (context now).trees ty) (Stops z)) (sym goes-left) (stopped has (sym (link-is x w) ∙ e));
                  is = refl;
                };
          }) c.cause)

      module _ {A : Type 0} {stops : Account E} (mid : E) (xs : List OfNumbers) (y : A) (considered : Considered {A = A} stops mid xs (Ok y)) where
        like : (judge (fixed first)).alike (state now) (state mid)
        like = subst (λ j. (judge j).alike (state now) (state mid)) s.kept.fixed_same considered.alike

        same-fixed : fixed mid ≡ fixed first
        same-fixed = considered.kept.fixed_same ∙ s.kept.fixed_same

        -- where it goes on
        goes-so : (o : Option Tree) (U : State) → GoesTo (judge (fixed mid)) (env_forest (context mid).trees env) (state mid) (kind_tree (context mid).trees (TK.Alias a)) o U
            → GoesTo (judge (fixed first)) (K.env_of (see (context first).trees env p)) (state mid) (ty_tree (context now).trees ty) o U
        goes-so o U h =
            let grows = grows-trans (context first) (context now) (context mid) s.kept.grows considered.kept.grows in
            let e : env_forest (context mid).trees env ≡ K.env_of (see (context first).trees env p) = (env-kept (context first) (context mid) env grows s.goal.env).1 ∙ sym (given (context first).trees env p) in
            let t : kind_tree (context mid).trees (TK.Alias a) ≡ ty_tree (context now).trees ty = (alias-kept (context now) (context mid) a considered.kept.grows bounded).1 ∙ tree-is in
            subst (λ j. GoesTo (judge j) (K.env_of (see (context first).trees env p)) (state mid) (ty_tree (context now).trees ty) o U) same-fixed
            (subst (λ u. GoesTo (judge (fixed mid)) (K.env_of (see (context first).trees env p)) (state mid) u o U) t (subst (λ d. GoesTo (judge (fixed mid)) d (state mid) (kind_tree (context mid).trees (TK.Alias a)) o U) e h))

        -- the same in an earlier context
        goes-there : (c : Context) → IsEarlier c (context first) → (o : Option Tree) (U : State) → GoesTo (judge (fixed mid)) (env_forest (context mid).trees env) (state mid) (kind_tree (context mid).trees (TK.Alias a)) o U
            → GoesTo (judge (fixed first)) (K.env_of (see (context first).trees env p)) (state mid) (ty_tree (context now).trees ty) o U
        goes-there c w o U h = goes-so o U h

        -- the candidates so far, after those by the alias
        so-many : (c : Context) → IsEarlier c (context first) → (new : E) → Keeps fixed probes context mid new
            → Lists (candidates_of (context new).trees xs) ≡ together (Lists (candidates_of (context now).trees items)) (answers_of_link K B.additional (judge (fixed first)) c (see (context first).trees env p) kind (state now) (ty_tree (context now).trees ty))
        so-many c w new kept = ap Lists (candidates-kept (context mid) (context new) xs kept.grows considered.told.fits).1 ∙ (considered.told.ok ∙ ap (together (Lists (candidates_of (context now).trees items))) (link-is c w))

        -- The evaluator stops where the chain would go on.
        pub stopped-after : {C : Type 0} (new : E) (z : Stop) (result : Result C Stop) → result ≡ Err z → Continues fixed judge state probes context stops mid new (env_forest (context mid).trees env) (kind_tree (context mid).trees (TK.Alias a)) (Err z)
            → WalksChain fixed judge state probes context stops K B see first new env p before xs result
        stopped-after new z result is h = rw is (walked new xs (Err z) (keeps-but fixed probes context now new (λ us vs e. record { ok = tt; stopped = e }) (after considered.kept h.kept))
            (λ x w. record { ok = tt; fits = tt; stopped = λ own. absurd (not-both (is_evaluator_stop z) h.own own) }) (later (reaches considered.kept) h.cause))

        -- The chain ends after the alias.
        pub ended-after : {C : Type 0} (new : E) (x : C) → Continues fixed judge state probes context stops mid new (env_forest (context mid).trees env) (kind_tree (context mid).trees (TK.Alias a)) (Ok None)
            → WalksChain {A = C} fixed judge state probes context stops K B see first new env p before xs (Ok x)
        ended-after new x h = walked new xs (Ok x)
            (keeps-but fixed probes context now new (λ ys zs e. record {
              ok = record {
                end = Done;
                ends = subst (λ m. Ends (judge (fixed first)) (K.env_of (see (context first).trees env p)) m kind (state now) (ty_tree (context now).trees ty) Done) (sym goes-left)
                    (ends-there like (goes-so None (state new) h.goes));
                are = e ∙ sym (append-nil ys);
              };
              stopped = tt;
            }) (after considered.kept h.kept))
            (λ c w. record {
              ok = record {
                rest = answers_of_link K B.additional (judge (fixed first)) c (see (context first).trees env p) kind (state now) (ty_tree (context now).trees ty);
                comes = subst (λ m. Comes K B.additional (judge (fixed first)) c (see (context first).trees env p) m kind (state now) (ty_tree (context now).trees ty) (answers_of_link K B.additional (judge (fixed first)) c (see (context first).trees env p) kind (state now) (ty_tree (context now).trees ty))) (sym goes-left)
                    (comes-ended K B.additional like (goes-there c w None (state new) h.goes));
                is = so-many c w new h.kept;
              };
              fits = (candidates-kept (context mid) (context new) xs h.kept.grows considered.told.fits).0;
              stopped = tt;
            }) tt

        -- It goes on.
        pub goes-on : (goal : IsGoal K arguments types see (context now) env p) (new : E) (next : Ty) → Continues fixed judge state probes context stops mid new (env_forest (context mid).trees env) (kind_tree (context mid).trees (TK.Alias a)) (Ok (Some next))
            → ChainSoFar fixed judge state probes context K B arguments types see env p first new before xs next NonSelfBounds n
        goes-on goal new next h =
            let says = stays (context now) (context mid) env p considered.kept.grows goal in
            let beyond = stays (context now) (context new) env p (grows-trans (context now) (context mid) (context new) considered.kept.grows h.kept.grows) goal in
            let J = judge (fixed first) in
            let t = kind_tree (context mid).trees (TK.Alias a) in
            let there = beside-alike K J (lawful (fixed first)).alike_judged_alike (state now) (state mid) (see (context now).trees env p) (see (context mid).trees env p) (ty_tree (context now).trees ty) t says.seen
            ((alias-kept (context now) (context mid) a considered.kept.grows bounded).1 ∙ tree-is) like s.stands in
            let q = goes-projection h.goes in
            let normal : J.normalized (state mid) (K.env_of (see (context mid).trees env p)) (first_tree t.children) ≡ Some (ty_tree (context new).trees next, state new)
            = ap (λ e. J.normalized (state mid) e (first_tree t.children)) (given (context mid).trees env p) ∙ (ap (λ j. (judge j).normalized (state mid) (env_forest (context mid).trees env) (first_tree t.children)) (sym same-fixed) ∙ q.1) in
            record {
              kept = after s.kept (after considered.kept h.kept);
              goal = s.goal;
              fits = (candidates-kept (context mid) (context new) xs h.kept.grows considered.told.fits).0;
              sort = h.sort;
              stands = normal-beside K J (lawful (fixed first)).normal_forms (state mid) (state new) (see (context mid).trees env p) (see (context new).trees env p) t (ty_tree (context new).trees next) (beyond.seen ∙ sym says.seen) (projection-binders t.head q.0) there normal;
              whole = λ c w rest comes.
                  let given-by = answers_of_link K B.additional J c (see (context first).trees env p) kind (state now) (ty_tree (context now).trees ty) in
                  let link-comes = comes-further K B.additional like (goes-there c w (Some (ty_tree (context new).trees next)) (state new) h.goes) comes in
                  subst (ChainFollows K B.additional J c (see (context first).trees env p) (state first) (candidates_of (context first).trees before))
                  (sym (together-joined (Lists (candidates_of (context now).trees items)) given-by rest) ∙ ap (λ l. together l rest) (sym (so-many c w new h.kept)))
                  (s.whole c w (together given-by rest) (subst (λ m. Comes K B.additional J c (see (context first).trees env p) m kind (state now) (ty_tree (context now).trees ty) (together given-by rest)) (sym goes-left) link-comes));
              ends = λ end x. s.ends end (subst (λ m. Ends J (K.env_of (see (context first).trees env p)) m kind (state now) (ty_tree (context now).trees ty) end) (sym goes-left)
                  (ends-further like (goes-so (Some (ty_tree (context new).trees next)) (state new) h.goes) x));
            }

-- A walk in a probe.

pub list-grown : {A : Type 0} (items : A → List OfNumbers) (ran new : Context) {R : Listed → Type 0} (r : Result A Stop) → Grows ran new → ToldList items ran.trees R r → ToldList items new.trees R r
list-grown items ran new {R} (Ok a) grows t =
    let k = candidates-kept ran new (items a) grows t.fits in
    record { ok = subst (λ cs. R (Lists cs)) (sym k.1) t.ok; fits = k.0; stopped = tt }
list-grown items ran new (Err s) grows t = record { ok = tt; fits = tt; stopped = t.stopped }

-- what is told as each earlier context has it
pub told-at-each : {A : Type 0} (items : A → List OfNumbers) (ts : List Tree) (now : Context) (R : Context → Listed → Type 0) (r : Result A Stop) → IsWellFormedTable now
    → ((c : Context) → IsEarlier c now → ToldList items ts (R c) r) → ToldList items ts (AtEachEarlier now R) r
told-at-each items ts now R (Ok a) t h = record { ok = λ c w. (h c w).ok; fits = (h now (record { grows = grows-refl now; table = t })).fits; stopped = tt }
told-at-each items ts now R (Err s) t h = record { ok = tt; fits = tt; stopped = λ own c w. (h c w).stopped own }

module _ {E X A : Type 0} {fixed : E → X} {judge : X → Judge} {state : E → State} {probes : E → List State} {context : E → Context} {stops : Account E} where
  -- What it tells is told at the state at which the probe began.
  pub chain-listed : {G P : Type 0} {K : KindRules G} {B : KindBounds G} {see : List Tree → ParamEnv → P → G} (old began ran new : E) (env : ParamEnv) (p : P) (before xs : List OfNumbers) (answer : Result A Stop)
      → IsWellFormedTable (context old) → see (context began).trees env p ≡ see (context old).trees env p
      → self_type K (context began) (see (context began).trees env p) ≡ self_type K (context old) (see (context old).trees env p) → AreCandidates (context old).trees before
      → fixed began ≡ fixed old → state began ≡ state old → probes began ≡ state old ∷ probes old → Grows (context old) (context began) → NoFault (context old) (context began)
      → WalksChain fixed judge state probes context stops K B see began ran env p before xs answer → fixed new ≡ fixed ran → Grows (context ran) (context new) → NoFault (context ran) (context new)
      → ((T : State) (others : List State) → probes ran ≡ T ∷ others → probes new ≡ others)
      → ((T : State) (others : List State) → probes ran ≡ T ∷ others → (judge (fixed ran)).alike T (state new))
      → ConsidersAllBut (PutsOffAtEnd (ChainEnds K (judge (fixed old)) (context old) (see (context old).trees env p) (state old)) answer) fixed judge state probes context stops old new (state old) (λ _. xs)
      (AtEachEarlier (context old) (λ c. ChainFollows K B.additional (judge (fixed old)) c (see (context old).trees env p) (state old) (candidates_of (context old).trees before))) answer
  chain-listed {K = K} {B = B} {see = see} old began ran new env p before xs answer table seen self fit f same opens grows n w ends-same after-grows m left closed =
      let more = B.additional in
      let g = see (context old).trees env p in
      record {
        kept = keeps-but-probe fixed probes context old began ran new (state old) (end-as (λ end x. ends-same-from end x) answer) f grows n opens w.kept ends-same after-grows m left;
        alike = alike-probe fixed probes judge state old began ran new f opens w.kept.fixed_same w.kept.probes_same closed;
        told = list-grown (λ _. xs) (context ran) (context new) answer after-grows
            (told-at-each (λ _. xs) (context ran).trees (context old) (λ c. ChainFollows K more (judge (fixed old)) c g (state old) (candidates_of (context old).trees before)) answer table
            (λ c e. list-as (λ _. xs) (context ran).trees answer (λ l h.
            subst (λ cs. ChainFollows K more (judge (fixed old)) c g (state old) cs l) (candidates-kept (context old) (context began) before grows fit).1
            (subst (λ S. ChainFollows K more (judge (fixed old)) c g S (candidates_of (context began).trees before) l) same
            (subst (λ j. ChainFollows K more (judge j) c g (state began) (candidates_of (context began).trees before) l) f
            (subst (λ d. ChainFollows K more (judge (fixed began)) c d (state began) (candidates_of (context began).trees before) l) seen h))))
            (w.told c (record { grows = grows-trans c (context old) (context began) e.grows grows; table = e.table }))));
        cause = so-err answer (λ z h. within (record { same = f; grows = grows }) h (record { same = ends-same; grows = after-grows })) w.cause;
      }
    where
      ends-same-from : (end : ChainEnd) → ChainEnds K (judge (fixed began)) (context began) (see (context began).trees env p) (state began) end → ChainEnds K (judge (fixed old)) (context old) (see (context old).trees env p) (state old) end
      ends-same-from end x =
          subst (λ t. EndsFrom (judge (fixed old)) (K.env_of (see (context old).trees env p)) (state old) t end) self
          (subst (λ d. EndsFrom (judge (fixed old)) (K.env_of d) (state old) (self_type K (context began) (see (context began).trees env p)) end) seen
          (subst (λ S. EndsFrom (judge (fixed old)) (K.env_of (see (context began).trees env p)) S (self_type K (context began) (see (context began).trees env p)) end) same
          (subst (λ j. EndsFrom (judge j) (K.env_of (see (context began).trees env p)) (state began) (self_type K (context began) (see (context began).trees env p)) end) f x)))

  -- The probe wasn't begun.
  pub list-not-begun : {left : A → List OfNumbers} {R : Listed → Type 0} → ((x : E) (S : State) (q : Question) (s : Stop) → stops x S q s → IsEvaluatorStop s) → ((f : X) → JudgesAlike (judge f)) → (old new : E) (q : Question) (r : Result A Stop) (s : Stop)
      → r ≡ Err s → fixed new ≡ fixed old → Grows (context old) (context new) → NoFault (context old) (context new) → (state new ≡ state old) × (probes new ≡ probes old) → stops new (state old) q s
      → ConsidersAll fixed judge state probes context stops old new (state old) left R r
  list-not-begun itself law old new q r s is f grows n rests why =
      let kept : Keeps fixed probes context old new = record { fixed_same = f; probes_same = rests.1; grows = grows; faults = n } in
      rw is (record {
        kept = kept;
        alike = subst (λ (x : State). (judge (fixed old)).alike (state old) x) (sym rests.0) ((law (fixed old)).alike_same (state old));
        told = record { ok = tt; fits = tt; stopped = λ other. absurd (not-both (is_evaluator_stop s) (evaluator-own s (itself new (state old) q s why)) other) };
        cause = asked-here q kept why;
      })
