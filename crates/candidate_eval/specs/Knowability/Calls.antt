-- What a call says by the definitions, and what holds of its reference.
use Rattle.std.specs.Prelude.{◌≡◌, ℕ, false, Result, Ok}
use Rattle.std.specs.Fn.{Mut}
use Rattle.std.specs.Borrow.{MutBor}
use Rattle.ir_trees.specs.declared.ir.kinds.Ty.{Ty}
use Rattle.ir_trees.specs.declared.ir.kinds.TraitRef.{TraitRef}
use Rattle.candidate_eval.specs.declared.coherence.NormalizeErr.{NormalizeErr}
use Rattle.candidate_eval.specs.Knowability.Answers.{CheckResult, KnownResult, IsAnswer, IsKnowledge, answer_of}
use Rattle.candidate_eval.specs.Knowability.Normalizer.{IsTold, IsToldAnswer, Description, IsFunction, shown}
use Rattle.ir_trees.specs.Syntax.Trees.{Tree, holds, is_alias, is_param}
use Rattle.ir_trees.specs.Declarations.Context.{Context, world}
use Rattle.ir_trees.specs.Syntax.Words.{args_forest, ty_tree}
use Rattle.ir_trees.specs.Declarations.References.{reference_of}
use Rattle.candidate_eval.specs.Knowability.Orphan.{InCrate, Local, Remote, Proper, Compat, view, Checked, Answer, Passes, orphan_answer, Knowability, knowability, plain_check, plain_knowability, local_or_fundamental, IsPlainForest}
use Rattle.candidate_eval.specs.Knowability.Laws.{IsPlainCall, NoForeignHeader, NoUnnamedHeader, NoCoveredHeader, IsDecidedByGeneral, HasDownstream}

-- Visits may be nested as deep as is declared.
abbrev pub depth_limit : Context → ℕ
depth_limit c = c.limits.orphan_walk

module _ {C F V E : Type 0} (context : C → Context) (shows : C → V) (resolve : V → Tree → Tree) (d : Description F C V E) where
  -- The check of a reference of the context, where this crate is local and so many visits may be nested.
  abbrev pub check_within : ℕ → ℕ → InCrate → F × C → TraitRef → Checked (F × V) (Answer E)
  check_within levels local m s r =
      orphan_answer (world (context s.1)) local m (view (λ x t. resolve x.1 t) d.normal) levels (d.stands s) (args_forest (context s.1).trees r.args)

  -- The same with the context's own limit.
  abbrev pub check_where : ℕ → InCrate → F × C → TraitRef → Checked (F × V) (Answer E)
  check_where local m s r = check_within (depth_limit (context s.1)) local m s r

  -- The same, for the context's own local crate.
  abbrev pub check_of : InCrate → F × C → TraitRef → Checked (F × V) (Answer E)
  check_of m s r = check_where (context s.1).local.0 m s r

  -- What may be known of a reference of the context, where so many visits may be nested.
  abbrev pub knowledge_within : ℕ → F × C → TraitRef → Checked (F × V) (Knowability E)
  knowledge_within levels s r =
      knowability (world (context s.1)) (context s.1).local.0 (view (λ x t. resolve x.1 t) d.normal) levels (d.stands s) (reference_of (context s.1).trees r)

  -- The same with the context's own limit.
  abbrev pub knowledge_about : F × C → TraitRef → Checked (F × V) (Knowability E)
  knowledge_about s r = knowledge_within (depth_limit (context s.1)) s r

-- The same by the plain normaliser, where nothing has a value.
abbrev pub plain_check_of : Context → InCrate → TraitRef → Answer (Unit {0})
plain_check_of c m r = plain_check (world c) c.local.0 m (depth_limit c) (args_forest c.trees r.args)

abbrev pub plain_knowledge_about : Context → TraitRef → Knowability (Unit {0})
plain_knowledge_about c r = plain_knowability (world c) c.local.0 (depth_limit c) (reference_of c.trees r)

-- For each normaliser that is a function but for what is left open, what a call says and leaves is what the definition
-- says, unless its result is left open.
module _ {C F V E : Type 0} (context : C → Context) (shows : C → V) (resolve : V → Tree → Tree) (g : Mut F (MutBor C × (Ty × Unit {0})) (Result Ty (NormalizeErr E) × (MutBor C × Unit {0}))) where
  -- What holds for each description by which the normaliser is a function from here on.
  abbrev pub IfDescribed : F → C → (Description F C V E → Type 0) → Type 0
  IfDescribed f c P = (d : Description F C V E) → IsFunction context g shows resolve d f c → P d

  pub record IsChecked (levels : ℕ) (f : F) (c : C) (m : InCrate) (r : TraitRef) (result : CheckResult E) (f' : F) (c' : C) : Type 0 where
    pub at : (d : Description F C V E) → IsFunction context g shows resolve d f c → IsTold d.untold result
        → check_within context shows resolve d levels (context c).local.0 m (f, c) r ≡ record { answer = answer_of (context c').trees result; after = d.stands (f', c') }

  pub record IsKnown (levels : ℕ) (f : F) (c : C) (r : TraitRef) (result : KnownResult E) (f' : F) (c' : C) : Type 0 where
    pub at : (d : Description F C V E) → IsFunction context g shows resolve d f c → IsTold d.untold result
        → IsKnowledge d.stands result c' (knowledge_within context shows resolve d levels (f, c) r)

  -- The normaliser's answer at a type, and what it leaves, are as described, unless the answer is left open; and so are a view and what
  -- taking it leaves.

  abbrev pub AnswersAsDescribed : F → C → Ty → Result Ty (NormalizeErr E) → F → C → Type 0
  AnswersAsDescribed f c t r f' c' =
      IfDescribed f c (λ d. IsToldAnswer d.untold r
      → d.normal (d.stands (f, c)) (ty_tree (context c).trees t) ≡ record { seen = shown (context c').trees r; after = d.stands (f', c') })

  abbrev pub ViewsAsDescribed : F → C → Ty → Result Ty (NormalizeErr E) → F → C → Type 0
  ViewsAsDescribed f c t r f' c' =
      IfDescribed f c (λ d. IsToldAnswer d.untold r
      → view (λ x u. resolve x.1 u) d.normal (d.stands (f, c)) (ty_tree (context c).trees t)
      ≡ record { seen = shown (context c').trees r; after = d.stands (f', c') })

  -- The result of a check of the reference, and what it leaves, are those of the definition, unless the result is left open.
  abbrev pub ChecksAsDefined : F → C → InCrate → TraitRef → CheckResult E → C → Type 0
  ChecksAsDefined f c m r result c' =
      IfDescribed f c (λ d. IsTold d.untold result
      → IsAnswer (context c').trees d.stands result c' (check_of context shows resolve d m (f, c) r))

  -- In `Remote` they are those of the definition whichever crate is local.
  abbrev pub ChecksWherever : F → C → InCrate → TraitRef → CheckResult E → C → Type 0
  ChecksWherever f c m r result c' =
      IfDescribed f c (λ d. m ≡ Remote → IsTold d.untold result → (local : ℕ)
      → IsAnswer (context c').trees d.stands result c' (check_where context shows resolve d local Remote (f, c) r))

  -- A reference that passes in `Proper` passes in `Compat` by the definition.
  abbrev pub PassesInCompat : F → C → InCrate → TraitRef → CheckResult E → Type 0
  PassesInCompat f c m r result =
      IfDescribed f c (λ d. m ≡ Local Proper → result ≡ Ok (Ok tt)
      → (check_of context shows resolve d (Local Compat) (f, c) r).answer ≡ Passes)

  -- What is known of the reference's impls, and what the test leaves, are those of the definition, unless the result is left open.
  abbrev pub KnowsAsDefined : F → C → TraitRef → KnownResult E → C → Type 0
  KnowsAsDefined f c r result c' =
      IfDescribed f c (λ d. IsTold d.untold result
      → IsKnowledge d.stands result c' (knowledge_about context shows resolve d (f, c) r))

-- What holds of a reference of a context.
abbrev pub HasNoParam : Context → TraitRef → Type 0
HasNoParam c r = holds is_param (args_forest c.trees r.args) ≡ false

abbrev pub HasNoAlias : Context → TraitRef → Type 0
HasNoAlias c r = holds is_alias (args_forest c.trees r.args) ≡ false

abbrev pub HasNoAliasOrError : Context → TraitRef → Type 0
HasNoAliasOrError c r = IsPlainForest (args_forest c.trees r.args)

-- What holds, in the call's context, of a call with the plain normaliser and a reference in which nothing has a value and no alias stands;
-- or neither alias nor error.
module _ {C F V E : Type 0} (context : C → Context) (shows : C → V) (resolve : V → Tree → Tree) (g : Mut F (MutBor C × (Ty × Unit {0})) (Result Ty (NormalizeErr E) × (MutBor C × Unit {0}))) where
  abbrev pub if_no_alias : F → C → TraitRef → (Context → Type 0) → Type 0
  if_no_alias f c r P = IsPlainCall context shows resolve g f c r → HasNoAlias (context c) r → P (context c)

  abbrev pub if_plain : F → C → TraitRef → (Context → Type 0) → Type 0
  if_plain f c r P = IsPlainCall context shows resolve g f c r → HasNoAliasOrError (context c) r → P (context c)

-- Its trait is neither of the local crate nor fundamental.
abbrev pub IsOfForeignTrait : Context → TraitRef → Type 0
IsOfForeignTrait c r = local_or_fundamental (world c) c.local.0 r.def_id.0 ≡ false

abbrev pub NoForeignHeaderHere : Context → TraitRef → Type 0
NoForeignHeaderHere c r = NoForeignHeader (world c) c.local.0 (reference_of c.trees r)

abbrev pub NoUnnamedHeaderHere : Context → TraitRef → Type 0
NoUnnamedHeaderHere c r = NoUnnamedHeader (world c) (reference_of c.trees r)

abbrev pub NoCoveredHeaderHere : Context → TraitRef → Type 0
NoCoveredHeaderHere c r = NoCoveredHeader (world c) c.local.0 (depth_limit c) (reference_of c.trees r)

abbrev pub IsDecidedByGeneralHere : Context → TraitRef → Type 0
IsDecidedByGeneralHere c r = IsDecidedByGeneral (world c) (depth_limit c) (reference_of c.trees r)

abbrev pub HasDownstreamHere : Context → TraitRef → Type 0
HasDownstreamHere c r = HasDownstream (world c) (reference_of c.trees r)
