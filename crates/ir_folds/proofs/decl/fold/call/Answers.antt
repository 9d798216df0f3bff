use Rattle.std.proofs.Common.{arith, rules}
use Rattle.ir_folds.proofs.Traversal.Folds.{call_may, call-keeps, call-says}
use Rattle.ir_folds.proofs.decl.fold.call.Goals as goal

pub returns : goal.returns
returns g c =
    let k = call-keeps g.M.Build.context g.M.Build.rest g.F.FnMut _ _ c.args.arg c.args.binders _ _ _ c.requires.keeps c.requires.arg c.requires.number (omega arith) c.fold.ensures in
    record {
      grows = k.0;
      says = call-says g.M.Build.context g.M.Build.rest g.F.FnMut _ _ c.args.arg c.args.binders _ _ _ c.fold.ensures;
      kind = k.1;
    }

pub fold-requires : goal.fold-requires
fold-requires g c = search (rules, call_may)
