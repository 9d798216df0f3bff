use Rattle.std.proofs.Common.{refl, ◌∙◌}
use Rattle.ir_trees.proofs.Growth.Made.{IsTy-grows}
use Rattle.assembly_notation.proofs.Giving.{alias_kept, form_given}
use Rattle.assembly_text.proofs.declaring.Declaring.norm.Goals as goal

pub invariant_of-draft-2 : goal.invariant_of-draft-2
invariant_of-draft-2 c =
    let draft = c.read_type-2.new.self.maker in
    let grows = c.read_type-2.ensures.grows in
    let sort = IsTy-grows _ _ c.in_ok-alias.alias grows c.in_ok-alias.ensures.sort in
    let alias = alias_kept _ _ c.in_ok-alias.alias grows.kept c.in_ok-alias.ensures.sort ∙ (c.in_ok-alias.ensures.alias ∙ c.if-not-self.false) in
    let no_alias = c.in_ok-ty.ensures.alias ∙ draft.alias_is_noted c.if-self.false in
    record {
      given_fits = form_given draft.builder.trees draft.given _ (c.in_ok-alias.alias, c.in_ok-ty.ty) _ refl c.push.ensures.items
          (record { sort = sort; alias = alias; ty = c.in_ok-ty.ensures.sort; no_alias = no_alias }) draft.given_fits;
      alias_is_noted = draft.alias_is_noted;
    }
