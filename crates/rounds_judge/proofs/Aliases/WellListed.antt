-- Pairs that may be listed are listed, and those that are may be.
use Rattle.std.proofs.Common.{◌≡◌, Bool, List, true, false, not, [], ◌∷◌, if◌then◌else◌, refl, ◌∙◌, ap}
use Rattle.std.specs.List.{All}
use Rattle.std.proofs.lemmas.Bool.{and_parts, not-true}
use Rattle.std.proofs.lemmas.List.Elements.{All-cons, All-head, All-nil, All-tail}
use Rattle.ir_trees.specs.declared.ir.heads.Flag.TheVariants as F
use Rattle.ir_trees.specs.Syntax.Binders.{escapes}
use Rattle.ir_trees.specs.Syntax.Flags.{mark}
use Rattle.ir_trees.specs.Unification.Substitutions.{alone}
use Rattle.ir_trees.specs.Syntax.Trees.{Tree, holds, is_alias, is_param, is_type}
use Rattle.rounds_judge.specs.Aliases.Listed.{Listing}
use Rattle.rounds_judge.specs.Equations.Standing.{IsFixed, IsListed, IsListing, is_made}
use Rattle.rounds_judge.specs.Aliases.WellListed.{is_fixed, may_be_listed, well_listed, which_may_be}

fixed-is : (t : Tree) → is_fixed t ≡ true → IsFixed t
fixed-is t e =
    let p = and_parts (not (escapes 0 (alone t))) _ e in
    let q = and_parts (not (holds is_made (alone t))) _ p.1 in
    let r = and_parts (not (holds is_param (alone t))) _ q.1 in
    record {
      is_closed = not-true (escapes 0 (alone t)) p.0;
      not_made = not-true (holds is_made (alone t)) q.0;
      no_parameter = not-true (holds is_param (alone t)) r.0;
      no_error = not-true (holds (mark F.Error) (alone t)) r.1;
    }

is-fixed : (t : Tree) → IsFixed t → is_fixed t ≡ true
is-fixed t f = rw (f.is_closed, f.not_made, f.no_parameter, f.no_error) refl

listed-is : (p : Tree × Tree) → may_be_listed p ≡ true → IsListed p
listed-is p e =
    let a = and_parts (is_fixed p.0) _ e in
    let b = and_parts (is_fixed p.1) _ a.1 in
    let c = and_parts (is_type p.1.head) _ b.1 in
    let d = and_parts (not (holds is_alias (alone p.1))) _ c.1 in
    record { alias = fixed-is p.0 a.0; type = fixed-is p.1 b.0; is_type = c.0; no_alias = not-true (holds is_alias (alone p.1)) d.0; is_alias = d.1 }

is-listed : (p : Tree × Tree) → IsListed p → may_be_listed p ≡ true
is-listed p i = rw (is-fixed p.0 i.alias, is-fixed p.1 i.type, i.is_type, i.no_alias, i.is_alias) refl

cons-listed : (p : Tree × Tree) (ps : List (Tree × Tree)) (b : Bool) → may_be_listed p ≡ b → All IsListed ps → All IsListed (if b then p ∷ ps else ps)
cons-listed p ps true e a = All-cons IsListed p ps (listed-is p e) a
cons-listed p ps false e a = a

those-listed : (ps : List (Tree × Tree)) → All IsListed (which_may_be ps)
those-listed [] = All-nil IsListed
those-listed (p ∷ ps) = cons-listed p (which_may_be ps) (may_be_listed p) refl (those-listed ps)

pub well-listed : (l : Listing) → IsListing (well_listed l)
well-listed l = those-listed l.pairs

all-may-be : (ps : List (Tree × Tree)) → All IsListed ps → which_may_be ps ≡ ps
all-may-be [] a = refl
all-may-be (p ∷ ps) a =
    ap (λ b. if b then p ∷ which_may_be ps else which_may_be ps) (is-listed p (All-head IsListed p ps a))
    ∙ ap (λ qs. p ∷ qs) (all-may-be ps (All-tail IsListed p ps a))

pub all-listed : (l : Listing) → IsListing l → well_listed l ≡ l
all-listed l a = ap (λ ps. record l { pairs = ps }) (all-may-be l.pairs a)
