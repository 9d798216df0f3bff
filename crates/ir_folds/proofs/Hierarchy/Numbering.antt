-- The traits of a list of clauses, each once.
use Rattle.std.proofs.Common.{◌≡◌, ℕ, ◌+◌, ◌<◌, ◌≤◌, List, [], ◌∷◌, ◌++◌, length, get_or, take, Bool, true, false, Option, Some, refl, sym, ◌∙◌, ap}
use Rattle.std.specs.Prelude.{map, ◌||◌, ◌==◌, if◌then◌else◌, option_map}
use Rattle.std.specs.List.{list_any}
use Rattle.std.proofs.lemmas.List.{map_push, take_more, take_all}
use Rattle.ir_trees.specs.declared.ir.kinds.Clause.{Clause}
use Rattle.ir_trees.specs.declared.ir.kinds.TraitId.{TraitId}
use Rattle.ir_trees.specs.Syntax.Trees.{Tree}
use Rattle.ir_trees.specs.Declarations.Context.{Context}
use Rattle.ir_trees.specs.Syntax.Words.{clause_tree}
use Rattle.ir_trees.specs.Hierarchy.Elaboration.{number_listed, with_number, traits_among, trait_of, id_numbers, AreSupertraits, AreSupertraitIds}

listed-number : (ids : List TraitId) (n : ℕ) → list_any (λ (i : TraitId). i.0 == n) ids ≡ number_listed (id_numbers ids) n
listed-number [] n = refl
listed-number (i ∷ ids) n = ap (λ (b : Bool). (i.0 == n) || b) (listed-number ids n)

pub added_number : (old new : List TraitId) (of : TraitId) → list_any (λ (i : TraitId). i.0 == of.0) old ≡ false → new ≡ old ++ of ∷ []
    → id_numbers new ≡ with_number (id_numbers old) (Some of.0)
added_number old new of n p =
    let none : number_listed (id_numbers old) of.0 ≡ false = sym (listed-number old of.0) ∙ n in
    ap id_numbers p ∙ (map_push (λ (i : TraitId). i.0) old of ∙ sym (ap (λ (b : Bool). if b then id_numbers old else id_numbers old ++ of.0 ∷ []) none))

pub left_number : (old : List TraitId) (of : TraitId) → list_any (λ (i : TraitId). i.0 == of.0) old ≡ true → id_numbers old ≡ with_number (id_numbers old) (Some of.0)
left_number old of n =
    let there : number_listed (id_numbers old) of.0 ≡ true = sym (listed-number old of.0) ∙ n in
    sym (ap (λ (b : Bool). if b then id_numbers old else id_numbers old ++ of.0 ∷ []) there)

-- the traits of the clauses so far
pub record Numbered (ts : List Tree) (list : List Clause) (i : ℕ) (ids : List TraitId) : Type 0 where
  pub are : id_numbers ids ≡ traits_among [] (map (clause_tree ts) (take i list))

pub none_numbered : (ts : List Tree) (list : List Clause) → Numbered ts list 0 []
none_numbered ts list = record { are = refl }

among-more : (ns : List ℕ) (us : List Tree) (t : Tree) → traits_among ns (us ++ t ∷ []) ≡ with_number (traits_among ns us) (trait_of t.head)
among-more ns [] t = refl
among-more ns (u ∷ us) t = among-more (with_number ns (trait_of u.head)) us t

pub one_numbered : (ts : List Tree) (list : List Clause) (old new : List TraitId) (i : ℕ) (c : Clause) (o : Option TraitId) → Numbered ts list i old → i < length list → c ≡ get_or list i c
    → option_map (λ (x : TraitId). x.0) o ≡ trait_of (clause_tree ts c).head → id_numbers new ≡ with_number (id_numbers old) (option_map (λ (x : TraitId). x.0) o)
    → Numbered ts list (i + 1) new
one_numbered ts list old new i c o s l e t n =
    let next : map (clause_tree ts) (take (i + 1) list) ≡ map (clause_tree ts) (take i list) ++ clause_tree ts c ∷ [] =
    ap (map (clause_tree ts)) (take_more list i c l ∙ ap (λ (x : Clause). take i list ++ x ∷ []) (sym e)) ∙ map_push (clause_tree ts) (take i list) c in
    record {
      are = n ∙ (ap (with_number (id_numbers old)) t ∙ (ap (λ (ns : List ℕ). with_number ns (trait_of (clause_tree ts c).head)) s.are
          ∙ sym (ap (traits_among []) next ∙ among-more [] (map (clause_tree ts) (take i list)) (clause_tree ts c))));
    }

pub all_numbered : (ts : List Tree) (list : List Clause) (ids : List TraitId) (i : ℕ) → Numbered ts list i ids → length list ≤ i → id_numbers ids ≡ traits_among [] (map (clause_tree ts) list)
all_numbered ts list ids i n l = n.are ∙ ap (λ (xs : List Clause). traits_among [] (map (clause_tree ts) xs)) (take_all i list l)

pub are_ids : (c : Context) (t : Tree) (list : List Tree) (ns : List ℕ) → AreSupertraits c t list → ns ≡ traits_among [] list → AreSupertraitIds c t ns
are_ids c t list ns s e = record { all = s.all; elaborated = s.elaborated; are = e ∙ ap (traits_among []) s.are }
