use Rattle.std.proofs.Common.{ℕ, ◌≡◌, nat_eq, sym, subst, ap, ◌∙◌}
use Rattle.std.specs.Map.{lookup}
use Rattle.std.specs.Prelude.{IfSome, Option}
use Rattle.assembly_notation.specs.Spelling.{words_at}
use Rattle.assembly_notation.proofs.Spelling.{noted-found}
use Rattle.assembly_notation.proofs.counting.Counted.get.Goals as goal

pub returns : goal.returns
returns c = λ ts a.
    let found : Option ℕ = lookup (nat_eq c.args.number) c.args.self.now in
    let is : c.copied.result ≡ found = c.copied.ensures ∙ (c.get.ensures.value ∙ ap (lookup (nat_eq c.args.number)) c.self.view_is) in
    subst (λ (o : Option ℕ). IfSome o (λ n. n ≡ words_at ts c.args.number)) (sym is) (noted-found ts c.args.number c.args.self.now a)
