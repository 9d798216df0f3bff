-- What makes a call a plain one. A caller over a `Cx` that hands in `|_, ty| Ok(ty)` writes
-- `search (rules, answers-its-input)` where `IsPlainCall` is asked; nothing else is to be shown. Named by `using(..)` alone,
-- the lemma leaves a promise of the two calls open: `grind` stops at its limit there, since the calls' laws over all worlds
-- give it too many instances.
--
-- What else the two calls and their promises ask of a reference has a test at run time: `Cx::trait_ref_args_fit`
-- (`ArgumentsFit`), `Cx::has_param` (`HasNoParam`), `trait_ref_is_plain` (`HasNoAliasOrError`), `Trees::has` with
-- `Flag::Alias` (`HasNoAlias`), and `trait_ref_is_local_or_fundamental` (`IsOfForeignTrait`). None has
-- `IsDecidedByGeneralHere`, nor `IsArgs`, which the call that made the list ensures.
use Rattle.std.proofs.Common.{◌≡◌, refl, sym, ◌∙◌}
use Rattle.std.specs.Prelude.{Result, Ok}
use Rattle.std.specs.Fn.{Mut, Called}
use Rattle.std.specs.Borrow.{MutBor}
use Rattle.ir_trees.specs.declared.ir.kinds.Ty.{Ty}
use Rattle.ir_trees.specs.declared.ir.kinds.TraitRef.{TraitRef}
use Rattle.ir_trees.specs.Declarations.Context.{Context}
use Rattle.ir_trees.specs.Syntax.Trees.{Tree}
use Rattle.ir_trees.specs.Syntax.Words.{args_forest}
use Rattle.candidate_eval.specs.declared.coherence.NormalizeErr.{NormalizeErr}
use Rattle.candidate_eval.specs.Knowability.Laws.{IsPlainCall}
use Rattle.candidate_eval.specs.Knowability.Normalizer.{IsPlain}
use Rattle.candidate_eval.proofs.Knowability.Resolved.{all-resolved}

-- each call answers its type, and changes neither the normaliser nor the context
abbrev pub AnswersItsInput : {C F E : Type 0} → Mut F (MutBor C × (Ty × Unit {0})) (Result Ty (NormalizeErr E) × (MutBor C × Unit {0})) → Type 0
AnswersItsInput {C} {F} {E} g =
    (by : F) (lent left : MutBor C) (t : Ty) (answer : Result Ty (NormalizeErr E)) (next : F)
    → Called g by (lent, (t, tt)) (answer, (left, tt)) next → (answer ≡ Ok t) × ((left.now ≡ lent.now) × (next ≡ by))

module _ {C F V E : Type 0} {context : C → Context} {shows : C → V} {resolve : V → Tree → Tree} {g : Mut F (MutBor C × (Ty × Unit {0})) (Result Ty (NormalizeErr E) × (MutBor C × Unit {0}))}
    {f : F} {c : C} where
  pub is-plain : AnswersItsInput g → IsPlain context g shows resolve f c
  is-plain h = record {
    at = λ by x t answer next x' q grows i small n told.
        let p = h by n.lent n.left t answer next n.called in
        let e : x' ≡ x = sym n.leaves ∙ (p.1.0 ∙ n.lends) in
        rw (p.0, e, p.1.1) refl;
    values = λ by x t q grows. refl;
  }

-- over a context in which nothing has a value
module _ {F E : Type 0} {g : Mut F (MutBor Context × (Ty × Unit {0})) (Result Ty (NormalizeErr E) × (MutBor Context × Unit {0}))}
    {f : F} {c : Context} {r : TraitRef} where
  pub answers-its-input : AnswersItsInput g → IsPlainCall (λ x. x) (λ x. x) (λ _ t. t) g f c r
  answers-its-input h = record { normaliser = is-plain h; resolved = all-resolved (args_forest c.trees r.args) }
