use Rattle.std.proofs.Common.{rules, ◌≡◌, ◌∙◌, false, sym}
use Rattle.candidate_assembly.proofs.Upcasting.UpcastAutos.{autos-list, by-bound, by-none, by-supertrait}
use Rattle.candidate_assembly.proofs.trait_goals.bounds_met.has_auto_trait.Goals as goal

pub returns-then-is_auto_bound : goal.returns-then-is_auto_bound
returns-then-is_auto_bound c = c.if-is_auto_bound.true ∙ (by-bound _ _ (sym c.is_auto_bound.ensures ∙ c.if-is_auto_bound.true) ∙ sym (autos-list c.args.cx.now c.args.of.0 c.args.supers.now c.args.sources.now))

pub returns-then-is_auto_trait : goal.returns-then-is_auto_trait
returns-then-is_auto_trait c =
    let other : c.is_auto_bound.result ≡ false = search rules in
    c.is_supertrait.ensures ∙ (by-supertrait _ _ _ (sym c.is_auto_bound.ensures ∙ other) (sym c.is_auto_trait.ensures ∙ c.if-is_auto_trait.true) ∙ sym (autos-list c.args.cx.now c.args.of.0 c.args.supers.now c.args.sources.now))

pub returns-else-is_auto_trait : goal.returns-else-is_auto_trait
returns-else-is_auto_trait c =
    let other : c.is_auto_bound.result ≡ false = search rules in
    let none : c.is_auto_trait.result ≡ false = search rules in
    none ∙ (by-none _ _ _ (sym c.is_auto_bound.ensures ∙ other) (sym c.is_auto_trait.ensures ∙ none) ∙ sym (autos-list c.args.cx.now c.args.of.0 c.args.supers.now c.args.sources.now))
