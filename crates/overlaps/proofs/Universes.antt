-- Opening impls enters no universe.
use Rattle.std.proofs.Common.{◌≡◌, List, [], ◌∷◌, refl, ◌∙◌}
use Rattle.ir_trees.specs.Declarations.Contents.{Impl}
use Rattle.ir_trees.specs.Syntax.Trees.{Kind}
use Rattle.candidate_eval.specs.Judges.States.{State, variable_kind, with_fresh, with_fresh_variables}
use Rattle.candidate_assembly.specs.Answers.KnownImpls.{kinds_of_impl}
use Rattle.overlaps.specs.Apart.{opened}

fresh-universe : (S : State) (ks : List Kind) → (with_fresh_variables S ks).newest_universe ≡ S.newest_universe
fresh-universe S [] = refl
fresh-universe S (k ∷ ks) = fresh-universe (with_fresh S (variable_kind k)) ks

pub opened-universe : (S : State) (i : Impl) → (opened S i).newest_universe ≡ S.newest_universe
opened-universe S i = fresh-universe S (kinds_of_impl i)

pub both-universe : (S : State) (i j : Impl) → (opened (opened S i) j).newest_universe ≡ S.newest_universe
both-universe S i j = opened-universe (opened S i) j ∙ opened-universe S i
