-- The laws of the definitions, for the calls.
use Rattle.std.proofs.Common.{◌≡◌, ℕ, false, Result, Ok, Err, refl, sym, ◌∙◌, ap, subst}
use Rattle.std.specs.Fn.{Mut}
use Rattle.std.specs.Borrow.{MutBor}
use Rattle.ir_trees.specs.declared.decl.limits.Limits.{Limits}
use Rattle.ir_trees.specs.declared.ir.kinds.TraitRef.{TraitRef}
use Rattle.ir_trees.specs.declared.ir.kinds.Ty.{Ty}
use Rattle.ir_trees.specs.Declarations.Context.{Context, world}
use Rattle.ir_trees.specs.Declarations.References.{reference_of, IsReference}
use Rattle.ir_trees.specs.Syntax.Trees.{Tree, holds, is_alias}
use Rattle.ir_trees.specs.Syntax.Words.{args_forest}
use Rattle.ir_trees.specs.Declarations.Worlds.{World, Reference, IsOf}
use Rattle.candidate_eval.specs.declared.coherence.Conflict.TheVariants as K
use Rattle.candidate_eval.specs.declared.coherence.NormalizeErr.{NormalizeErr}
use Rattle.candidate_eval.specs.declared.coherence.OrphanStop.{OrphanStop}
use Rattle.candidate_eval.specs.Knowability.Answers.{CheckResult, answer_of, IsAnswer, KnownResult, knowledge_of}
use Rattle.candidate_eval.specs.Knowability.Calls.{depth_limit, check_of, check_where, IsChecked, IsKnown, HasNoAlias, HasNoAliasOrError, IsOfForeignTrait, IsDecidedByGeneralHere, NoForeignHeaderHere, NoUnnamedHeaderHere, NoCoveredHeaderHere, HasDownstreamHere}
use Rattle.candidate_eval.specs.Knowability.Laws.{AreResolved, IsPlainCall, NoForeignHeader, NoUnnamedHeader, NoCoveredHeader, IsDecidedByGeneral, HasDownstream}
use Rattle.candidate_eval.specs.Knowability.Normalizer.{any_stop, IsTold, Description, exactly, StopsWith, IsFunction, IsLeftByCalls, IsChangedByCalls}
use Rattle.candidate_eval.specs.Knowability.Orphan.{InCrate, Local, Remote, Proper, Compat, View, view, plain, orphan_answer, Passes, knowability, Knowability, Knowable, Downstream, local_or_fundamental, plain_knowability, bare_answer, bare_knowledge, IsPlainForest}
use Rattle.candidate_eval.proofs.Knowability.CheckLaws.{compat-passes, any-local}
use Rattle.candidate_eval.proofs.Knowability.Lowering.{plain_answer, plain_knowledge}
use Rattle.candidate_eval.proofs.Knowability.Newcomer.{downstream_world}
use Rattle.candidate_eval.proofs.Knowability.Safety.{own_header, open_world, covered_world}

-- the limit that was read of a context is the one of its calls
pub limit-read : (l : Limits) (k c : Context) → l ≡ k.limits → k ≡ c → l.orphan_walk ≡ depth_limit c
limit-read l k c read same = ap (λ (x : Limits). x.orphan_walk) read ∙ ap depth_limit same

-- for the plain normaliser, in a context where nothing of the reference has a value
module _ {S E : Type 0} (w : World) (c limit : ℕ) (resolve : S → Tree → Tree) (s : S) (r : Reference) (there : IsOf w r) (settled : AreResolved (resolve s) r.arguments) where
  pub no-foreign-header : (m : InCrate) → m ≡ Local Proper → IsPlainForest r.arguments
      → (orphan_answer {S = S} {E = E} w c m (view resolve plain) limit s r.arguments).answer ≡ Passes → NoForeignHeader w c r
  no-foreign-header m e ok p =
      own_header w c limit r there ok
      (sym (plain_answer E w c (Local Proper) limit resolve s r.arguments settled)
      ∙ ap bare_answer (subst (λ n. (orphan_answer {S = S} {E = E} w c n (view resolve plain) limit s r.arguments).answer ≡ Passes) e p))

  known-plainly : (a : Knowability E) → (knowability {S = S} {E = E} w c (view resolve plain) limit s r).answer ≡ a → plain_knowability w c limit r ≡ bare_knowledge a
  known-plainly a e = sym (plain_knowledge E w c limit resolve s r settled) ∙ ap bare_knowledge e

  pub no-unnamed-header : holds is_alias r.arguments ≡ false → (knowability {S = S} {E = E} w c (view resolve plain) limit s r).answer ≡ Knowable → NoUnnamedHeader w r
  no-unnamed-header na e = open_world w c limit r there na (known-plainly Knowable e)

  pub no-covered-header : holds is_alias r.arguments ≡ false → (knowability {S = S} {E = E} w c (view resolve plain) limit s r).answer ≡ Knowable
      → local_or_fundamental w c r.trait ≡ false → NoCoveredHeader w c limit r
  no-covered-header na e o = covered_world w c limit r there na (known-plainly Knowable e) o

  pub downstream-header : IsPlainForest r.arguments → (knowability {S = S} {E = E} w c (view resolve plain) limit s r).answer ≡ Downstream
      → IsDecidedByGeneral w limit r → HasDownstream w r
  downstream-header ok e d = downstream_world w c limit r there ok (known-plainly Downstream e) d

abbrev by_roots : {F V E : Type 0} → (V → Tree → Tree) → View (F × V) E → View (F × V) E
by_roots resolve normal = view (λ s t. resolve s.1 t) normal

-- What follows for a call from what it says for each normaliser.
module _ {C F V E : Type 0} {context : C → Context} {shows : C → V} {resolve : V → Tree → Tree} {g : Mut F (MutBor C × (Ty × Unit {0})) (Result Ty (NormalizeErr E) × (MutBor C × Unit {0}))}
    {f f' : F} {c c' : C} {r : TraitRef} where
  module _ {m : InCrate} {result : CheckResult E} (said : IsChecked context shows resolve g (depth_limit (context c)) f c m r result f' c') where
    pub no-foreign-header-said : IsReference (context c) r → IsPlainCall context shows resolve g f c r → HasNoAliasOrError (context c) r → m ≡ Local Proper → result ≡ Ok (Ok tt) → NoForeignHeaderHere (context c) r
    no-foreign-header-said there p ok e passes =
        no-foreign-header (world (context c)) (context c).local.0 (depth_limit (context c)) (λ (s : F × V) t. resolve s.1 t) (f, shows c) (reference_of (context c).trees r) there p.resolved m e ok
        (ap (λ x. x.answer) (said.at (exactly shows any_stop refl plain) p.normaliser (λ s u x. cc)) ∙ ap (answer_of (context c').trees) passes)

    pub answer-said : (d : Description F C V E) → IsFunction context g shows resolve d f c → IsTold d.untold result
        → IsAnswer (context c').trees d.stands result c' (check_of context shows resolve d m (f, c) r)
    answer-said d h told = let k = said.at d h told in record { answer = ap (λ x. x.answer) k; last = f'; leaves = ap (λ x. x.after) k }

    pub proper-passes-compat-said : (d : Description F C V E) → IsFunction context g shows resolve d f c → m ≡ Local Proper → result ≡ Ok (Ok tt)
        → (check_of context shows resolve d (Local Compat) (f, c) r).answer ≡ Passes
    proper-passes-compat-said d h e passes =
        compat-passes (world (context c)) (context c).local.0 (depth_limit (context c)) (by_roots resolve d.normal) (d.stands (f, c)) (args_forest (context c).trees r.args) m e
        (ap (λ x. x.answer) (said.at d h (λ s v x. cc)) ∙ ap (answer_of (context c').trees) passes)

    pub remote-said : (d : Description F C V E) → IsFunction context g shows resolve d f c → m ≡ Remote → IsTold d.untold result → (local : ℕ)
        → IsAnswer (context c').trees d.stands result c' (check_where context shows resolve d local Remote (f, c) r)
    remote-said d h e told local =
        let k = any-local (world (context c)) (context c).local.0 (depth_limit (context c)) (by_roots resolve d.normal) (d.stands (f, c)) (args_forest (context c).trees r.args) m e local ∙ said.at d h told in
        record { answer = ap (λ x. x.answer) k; last = f'; leaves = ap (λ x. x.after) k }

  module _ {result : KnownResult E} (said : IsKnown context shows resolve g (depth_limit (context c)) f c r result f' c') (there : IsReference (context c) r) (p : IsPlainCall context shows resolve g f c r) where
    pub no-unnamed-header-said : HasNoAlias (context c) r → result ≡ Ok (Ok tt) → NoUnnamedHeaderHere (context c) r
    no-unnamed-header-said ok known =
        no-unnamed-header (world (context c)) (context c).local.0 (depth_limit (context c)) (λ (s : F × V) t. resolve s.1 t) (f, shows c) (reference_of (context c).trees r) there p.resolved ok
        ((said.at (exactly shows any_stop refl plain) p.normaliser (λ s u x. cc)).answer ∙ ap knowledge_of known)

    pub no-covered-header-said : HasNoAlias (context c) r → result ≡ Ok (Ok tt) → IsOfForeignTrait (context c) r → NoCoveredHeaderHere (context c) r
    no-covered-header-said ok known foreign =
        no-covered-header (world (context c)) (context c).local.0 (depth_limit (context c)) (λ (s : F × V) t. resolve s.1 t) (f, shows c) (reference_of (context c).trees r) there p.resolved ok
        ((said.at (exactly shows any_stop refl plain) p.normaliser (λ s u x. cc)).answer ∙ ap knowledge_of known) foreign

    pub downstream-header-said : HasNoAliasOrError (context c) r → result ≡ Ok (Err K.Downstream) → IsDecidedByGeneralHere (context c) r
        → HasDownstreamHere (context c) r
    downstream-header-said ok known decided =
        downstream-header (world (context c)) (context c).local.0 (depth_limit (context c)) (λ (s : F × V) t. resolve s.1 t) (f, shows c) (reference_of (context c).trees r) there p.resolved ok
        ((said.at (exactly shows any_stop refl plain) p.normaliser (λ s u x. cc)).answer ∙ ap knowledge_of known) decided

pub changed-by-calls : {C F E A : Type 0} {context : C → Context} {g : Mut F (MutBor C × (Ty × Unit {0})) (Result Ty (NormalizeErr E) × (MutBor C × Unit {0}))}
    {levels : ℕ} {f : F} {c : C} {result : Result A (OrphanStop E)} {f' : F} {c' : C}
    → IsLeftByCalls context g levels f c f' c' (StopsWith result) → IsChangedByCalls context g levels f c c' result
changed-by-calls {f' = f'} h = record { last = f'; left = h }
