-- The laws of the definition, for a check in any mode.
use Rattle.std.proofs.Common.{◌≡◌, ℕ, sym, ◌∙◌, ap}
use Rattle.ir_trees.specs.Syntax.Trees.{Forest}
use Rattle.ir_trees.specs.Declarations.Worlds.{World}
use Rattle.candidate_eval.specs.Knowability.Orphan.{InCrate, Local, Remote, Proper, Compat, View, Passes, orphan_answer}
use Rattle.candidate_eval.proofs.Knowability.OrphanLaws.{proper_then_compat, remote_law}

module _ {S E : Type 0} (w : World) (c n : ℕ) (see : View S E) (s : S) (a : Forest) where
  pub compat-passes : (m : InCrate) → m ≡ Local Proper → (orphan_answer w c m see n s a).answer ≡ Passes
      → (orphan_answer w c (Local Compat) see n s a).answer ≡ Passes
  compat-passes m e p = (proper_then_compat S E).passes w c n see s a (ap (λ (x : InCrate). (orphan_answer w c x see n s a).answer) (sym e) ∙ p)

  pub any-local : (m : InCrate) → m ≡ Remote → (d : ℕ) → orphan_answer w d Remote see n s a ≡ orphan_answer w c m see n s a
  any-local m e d = (remote_law S E).same w d c n see s a ∙ ap (λ (x : InCrate). orphan_answer w c x see n s a) (sym e)
