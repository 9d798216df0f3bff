-- Link safety, and that no header of a crate which a knowable reference doesn't name overlaps it.
use Rattle.std.proofs.Common.{ap, ◌≡◌, ℕ, Bool, true, false, Some, None, refl, sym, ◌∙◌}
use Rattle.ir_trees.specs.Syntax.Trees.{Forest, holds, is_alias}
use Rattle.ir_trees.specs.Declarations.Worlds.{World, Reference, IsOf}
use Rattle.candidate_eval.specs.Knowability.Orphan.{MayWrite, names, names_here, plain_check, plain, Local, Proper, Answer, Passes, NonLocalInput, UncoveredInput, Faulty, Checked, by_remote_check, by_proper_check, by_answer, Knowable, plain_knowability, local_or_fundamental, orphan_answer, IsPlainForest}
use Rattle.ir_trees.specs.Unification.Substitutions.{Universes, Overlap}
use Rattle.candidate_eval.specs.Knowability.Laws.{LinkSafety, NoForeignHeader, NoUnnamedHeader, NoCoveredHeader}
use Rattle.candidate_eval.proofs.Knowability.OrphanLaws.{remote_covers}
use Rattle.candidate_eval.proofs.Frontier.Carry.{Remote_class, carry, names_none, erased_names}
use Rattle.candidate_eval.proofs.Knowability.Covered.{cover}
use Rattle.candidate_eval.proofs.Knowability.Worlds.{check_same, knowability_same}
use Rattle.candidate_eval.proofs.Knowability.Fitting.{still_there, fits_there, trait_there}
use Rattle.candidate_eval.proofs.Marks.Holds.{or_false, holds_erase}
use Rattle.candidate_eval.proofs.Frontier.Walks.{Clear, Good, clear_good}
use Rattle.candidate_eval.proofs.Knowability.Answers.{passes_good, clear_fails, Refuses, refuses_clear}
use Rattle.candidate_eval.proofs.Knowability.Agree.{agree, Proper_class, Steps}

-- what a reference that names nothing of a crate holds
pub unnamed : (w : World) (r : Reference) (c : ℕ) → names w r c ≡ false → holds (names_here w (Some c)) r.arguments ≡ false
unnamed w r c e =
    sym (holds_erase (names_here w (Some c)) (erased_names w (Some c)) r.arguments) ∙ (or_false _ _ e).1

pub written_good : (w : World) (c limit : ℕ) (a : Forest) → plain_check w c (Local Proper) limit a ≡ Passes
    → Good (Proper_class w (Some c)) (Steps w (Some c) limit tt a)
written_good w c limit a e =
    passes_good (Proper_class w (Some c)) (λ s. Steps w (Some c) limit s a) tt (Steps w (Some c) limit tt a) (Steps w (Some c) limit tt a) e

pub written_decides : (w : World) (c limit : ℕ) (a : Forest) → plain_check w c (Local Proper) limit a ≡ Passes
    → Clear (Proper_class w (Some c)) (Steps w (Some c) limit tt a) → ⊥
written_decides w c limit a e =
    clear_fails (Proper_class w (Some c)) (λ s. Steps w (Some c) limit s a) tt (Steps w (Some c) limit tt a) (Steps w (Some c) limit tt a) e

apart : (w : World) (c d : ℕ) (a b : Reference) (u v : Universes) → (c ≡ d → ⊥) → MayWrite w c a → names w a d ≡ false
    → MayWrite w d b → names w b c ≡ false → Overlap u v a b → ⊥
apart w c d a b u v ne wa na wb nb o =
    written_decides w c wa.limit a.arguments wa.passes
    (agree w (Some c) (Some d) u v o.left o.right o.left_allowed o.right_allowed a.arguments b.arguments o.common
    (unnamed w a d na) (unnamed w b c nb) wa.is_plain.no_alias wa.is_plain.no_error
    wa.limit wb.limit tt tt
    (written_good w c wa.limit a.arguments wa.passes) (written_good w d wb.limit b.arguments wb.passes)).0

pub link_safety : LinkSafety
link_safety = record { apart = apart }

knowable_refuses : {S : Type 0} (own : Bool) (proper : S → Checked S (Answer (Unit {0}))) (s : S) (a : Answer (Unit {0}))
    → (by_remote_check own proper s a).answer ≡ Knowable → Refuses a
knowable_refuses own proper s Passes e = cc
knowable_refuses own proper s (Faulty f) e = cc
knowable_refuses own proper s _ e = tt

-- where a reference is knowable, nothing decides its remote check
pub knowable_clear : (w : World) (local limit : ℕ) (r : Reference) → plain_knowability w local limit r ≡ Knowable
    → Clear (Remote_class w) (Steps w None limit tt r.arguments)
knowable_clear w local limit r e =
    refuses_clear (Remote_class w) (remote_covers w) (λ s. Steps w None limit s r.arguments) tt
    (Steps w None limit tt r.arguments) (Steps w None limit tt r.arguments)
    (knowable_refuses (local_or_fundamental w local r.trait)
    (λ t. orphan_answer {E = Unit {0}} w local (Local Proper) plain limit t r.arguments) _ _ e)

-- A reference of the declared world that is knowable is overlapped by no header of a crate that it doesn't name.
pub open_world : (declared : World) (local limit : ℕ) (r : Reference) → IsOf declared r → holds is_alias r.arguments ≡ false
    → plain_knowability declared local limit r ≡ Knowable → NoUnnamedHeader declared r
open_world declared local limit r there na know = record {
  apart = λ w c h u v ext nm wh o.
      let known = sym (knowability_same declared w ext local limit r there) ∙ know in
      let clear = carry w (Steps w None limit tt r.arguments) (knowable_clear w local limit r known) in
      written_decides w c wh.limit h.arguments wh.passes
      (agree w (Some c) None v u o.right o.left o.right_allowed o.left_allowed h.arguments r.arguments (sym o.common)
      (names_none w h.arguments) (unnamed w r c nm) wh.is_plain.no_alias wh.is_plain.no_error
      wh.limit limit tt tt
      (written_good w c wh.limit h.arguments wh.passes) (clear_good (Proper_class w None) _ clear)).0;
}

proper_passes : {S : Type 0} (a : Checked S (Answer (Unit {0}))) → (by_proper_check a).answer ≡ Knowable → a.answer ≡ Passes
proper_passes a e = at a.answer e
  where
    at : (a : Answer (Unit {0})) → by_answer a ≡ Knowable → a ≡ Passes
    at Passes e = refl
    at (Faulty f) e = cc
    at (NonLocalInput l) e = cc
    at (UncoveredInput t o) e = cc

knowable_passes : {S : Type 0} (own : Bool) (proper : S → Checked S (Answer (Unit {0}))) (s : S) (a : Answer (Unit {0}))
    → own ≡ false → (by_remote_check own proper s a).answer ≡ Knowable → (proper s).answer ≡ Passes
knowable_passes own proper s Passes o e = cc
knowable_passes own proper s (Faulty f) o e = cc
knowable_passes true proper s _ o e = cc
knowable_passes false proper s _ o e = proper_passes (proper s) e

-- A knowable reference whose trait is neither local nor fundamental is overlapped by no covered header that names
-- nothing of the local crate.
pub covered_world : (declared : World) (local limit : ℕ) (r : Reference) → IsOf declared r → holds is_alias r.arguments ≡ false
    → plain_knowability declared local limit r ≡ Knowable → local_or_fundamental declared local r.trait ≡ false
    → NoCoveredHeader declared local limit r
covered_world declared local limit r there na know trait = record {
  apart = λ w h u v ext cov nm o.
      let known = sym (knowability_same declared w ext local limit r there) ∙ know in
      let own : local_or_fundamental w local r.trait ≡ false = rw (← still_there declared w ext r.trait (trait_there declared r there)) trait in
      let passes : plain_check w local (Local Proper) limit r.arguments ≡ Passes =
      knowable_passes (local_or_fundamental w local r.trait)
      (λ t. orphan_answer {E = Unit {0}} w local (Local Proper) plain limit t r.arguments) _ _ own known in
      written_decides w local limit r.arguments passes
      (cover w (Some local) u v o.left o.right o.left_allowed o.right_allowed r.arguments h.arguments o.common
      (unnamed w h local nm) cov.is_plain.no_alias cov.is_plain.no_error limit tt tt
      (written_good w local limit r.arguments passes) cov.covered);
}

-- A header of the declared world that the local crate's check passes is safe from those of all other crates.
pub own_header : (declared : World) (local limit : ℕ) (a : Reference) → IsOf declared a → IsPlainForest a.arguments
    → plain_check declared local (Local Proper) limit a.arguments ≡ Passes → NoForeignHeader declared local a
own_header declared local limit a there ok passes = record {
  apart = λ w d b u v ext ne na wb nb o.
      apart w local d a b u v ne
      (record { is_plain = ok; limit = limit; passes = ap (λ c. c.answer) (sym (check_same declared w ext local (Local Proper) limit a.arguments (fits_there declared a.arguments there.fits) tt)) ∙ passes })
      na wb nb o;
}
