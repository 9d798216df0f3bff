use Rattle.std.proofs.Common.{IfErr, IfOk}
use Rattle.ir_trees.specs.Declarations.Context.{Grows}
use Rattle.assembly_text.specs.Overlapping.{IsOverlapStopped}
use Rattle.assembly_text.specs.Together.{IsApartAnswered}
use Rattle.assembly_text.proofs.Answered.{over-all}
use Rattle.assembly_text.proofs.Giving.{given_declared, declared_grows}
use Rattle.assembly_text.proofs.asking.Asking.kept_apart.Goals as goal

pub apart_by_clauses-maker-requires-clause-given : goal.apart_by_clauses-maker-requires-clause-given
apart_by_clauses-maker-requires-clause-given c = given_declared c.apart-maker.result.0 _ c.apart-maker.ensures.given_is_declared

pub with-requires : goal.with-requires
with-requires c = declared_grows _ _ _ c.apart_by_clauses-maker.ensures.grows c.apart-maker.ensures.given_is_declared

pub returns-clause-grows : goal.returns-clause-grows
returns-clause-grows c = over-all (λ x g y. Grows x y) _ _ _ _ _ _ c.apart-maker.ensures.context c.apart-maker.ensures.given c.with.ensures.context c.apart_by_clauses-maker.ensures.grows

pub returns-clause-is : goal.returns-clause-is
returns-clause-is c =
    over-all (λ x g y. IfOk c.apart_by_clauses-maker.result.1 (IsApartAnswered x g c.args.first c.args.second y)) _ _ _ _ _ _ c.apart-maker.ensures.context c.apart-maker.ensures.given c.with.ensures.context c.apart_by_clauses-maker.ensures.is

pub returns-clause-stopped : goal.returns-clause-stopped
returns-clause-stopped c =
    over-all (λ x g y. IfErr c.apart_by_clauses-maker.result.1 (IsOverlapStopped x g y)) _ _ _ _ _ _ c.apart-maker.ensures.context c.apart-maker.ensures.given c.with.ensures.context c.apart_by_clauses-maker.ensures.stopped
