use Rattle.std.proofs.Common.{◌≡◌, Err, Ok, rules, subst}
use Rattle.ir_trees.proofs.Growth.Kept.{grows-refl}
use Rattle.assembly_text.specs.Specializing.{IsTested, test_stopped_there}
use Rattle.assembly_text.proofs.Compared.{err-value, ok-value}
use Rattle.assembly_text.proofs.asking.Asking.is_special.Goals as goal

pub returns-in-Ok-clause-special : goal.returns-in-Ok-clause-special
returns-in-Ok-clause-special c = λ e.
    let first = c.args.self.scope.maker in
    let last = c.tested-asking.result.0.scope.maker in
    let is : c.tested-asking.result.1 ≡ Ok c.in-Ok.answer = search rules in
    record {
      context = first;
      last = last;
      grows = grows-refl first;
      tested = subst (IsTested first c.args.self.given c.args.special c.args.general last) (c.is_positive.ensures.yes e) (ok-value _ c.tested-asking.result.1 c.in-Ok.answer is c.tested-asking.ensures.is);
    }

pub returns-in-Ok-clause-other : goal.returns-in-Ok-clause-other
returns-in-Ok-clause-other c = λ e.
    let first = c.args.self.scope.maker in
    let last = c.tested-asking.result.0.scope.maker in
    let is : c.tested-asking.result.1 ≡ Ok c.in-Ok.answer = search rules in
    record {
      context = first;
      last = last;
      grows = grows-refl first;
      other = c.in-Ok.answer;
      isnt = c.is_positive.ensures.no e;
      tested = ok-value _ c.tested-asking.result.1 c.in-Ok.answer is c.tested-asking.ensures.is;
    }

pub returns-in-Err-clause-stopped : goal.returns-in-Err-clause-stopped
returns-in-Err-clause-stopped c =
    let first = c.args.self.scope.maker in
    let is : c.tested-asking.result.1 ≡ Err c.in-Err.stop = search rules in
    test_stopped_there first c.tested-asking.result.0.scope.maker (grows-refl first) (err-value _ c.tested-asking.result.1 c.in-Err.stop is c.tested-asking.ensures.stopped)
