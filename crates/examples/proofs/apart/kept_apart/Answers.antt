use Rattle.std.proofs.Common.{◌≡◌, ◌⊎◌, inl, inr, ℕ, subst}
use Rattle.ir_trees.specs.declared.decl.contents.ImplId.{ImplId}
use Rattle.candidate_rounds.specs.Evaluators.Known.{Evaluator, table_of}
use Rattle.overlaps.specs.Asked.{ClausesWereAsked, WhereMay}
use Rattle.overlaps.specs.Found.{IsOverlap}
use Rattle.overlaps.specs.declared.allowance.Allowance.{Allowance}
use Rattle.overlaps.specs.declared.instance.CommonInstance.{CommonInstance}
use Rattle.overlaps.specs.declared.overlap.Overlap.{Overlap}
use Rattle.overlaps.specs.declared.overlap.Overlap.TheVariants as O
use Rattle.examples.specs.Apart.{AreNotKeptApart, clauses_stay, is_allowed, other_traits}
use Rattle.candidate_rounds.specs.declared.rounds.effort.Effort.{Effort}
use Rattle.examples.proofs.apart.kept_apart.Goals as goal

pub returns-in-DisjointHeaders-clause-apart : goal.returns-in-DisjointHeaders-clause-apart
returns-in-DisjointHeaders-clause-apart c = subst (IsOverlap c.args.rounds.now c.impls_overlap.new.rounds c.args.first c.args.second) c.in-DisjointHeaders.is c.in_ok-impls_overlap.ensures.is

-- What an answer says that names nothing.
module _ (old new : Evaluator) (effort : Effort) (a b : ImplId) (o : Overlap) (is : IsOverlap old new a b o) (asked : WhereMay (ClausesWereAsked old effort (table_of new) a b) o) where
  together : (o ≡ O.NoCommonTrait) ⊎ (((w : Allowance) × (o ≡ O.Allowed w)) ⊎ ((x : CommonInstance) × (o ≡ O.May x))) → AreNotKeptApart old new effort a b
  together (inl e) = other_traits (subst (IsOverlap old new a b) e is)
  together (inr (inl (w, e))) = is_allowed w (subst (IsOverlap old new a b) e is)
  together (inr (inr (x, e))) = clauses_stay (subst (WhereMay (ClausesWereAsked old effort (table_of new) a b)) e asked)

pub returns-in-NoCommonTrait : goal.returns-in-NoCommonTrait
returns-in-NoCommonTrait c = record {
  apart = tt;
  together = λ _.
      together c.args.rounds.now c.impls_overlap.new.rounds c.args.effort c.args.first c.args.second c.in_ok-impls_overlap.field-0 c.in_ok-impls_overlap.ensures.is c.in_ok-impls_overlap.ensures.asked
      c.in-NoCommonTrait.is;
}
