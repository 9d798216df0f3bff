-- A goal that leaves nothing open stands where variables without values alone count: of their values nothing is to be shown.
use Rattle.std.proofs.Common.{◌≡◌, ◌&&◌, ℕ, Bool, true, false, not, Option, Some, None, refl, ap, ◌∙◌, if◌then◌else◌}
use Rattle.std.proofs.lemmas.Bool.{and_parts}
use Rattle.ir_trees.specs.declared.ir.heads.ConstHead.TheVariants as C
use Rattle.ir_trees.specs.declared.ir.heads.Head.{Head}
use Rattle.ir_trees.specs.declared.ir.heads.Head.TheVariants as H
use Rattle.ir_trees.specs.declared.ir.kinds.RegionKind.TheVariants as R
use Rattle.ir_trees.specs.Syntax.Trees.{Forest, Tree}
use Rattle.candidate_eval.specs.declared.eval.variable.VariableKind.TheVariants.{Term, Region}
use Rattle.candidate_eval.specs.Judges.Alike.{info}
use Rattle.candidate_eval.specs.Derivations.ImplRules.{TraitGoal}
use Rattle.candidate_eval.specs.Judges.Lawful.{HasLeafValues}
use Rattle.candidate_eval.specs.Judges.Soundness.{AreTreesOf, IsResolved, IsSound, Live, ValuesFit, has_value, is_strange}
use Rattle.candidate_eval.specs.Judges.States.{State, VariableInfo, has_kind, is_some, value_in, value_of}
use Rattle.candidate_assembly.specs.Answers.KnownImpls.{HasLeafyValues}
use Rattle.candidate_assembly.specs.Goals.Standing.{GoalIsValid}
use Rattle.candidate_assembly.specs.Goals.TraitRules.{trait_rules}
use Rattle.candidate_assembly.proofs.Goals.Standing.{neither}

abbrev pub unvalued : State → Live → Live
unvalued S L n = L n && not (is_some (value_of S n))

still-counts : (x b : Bool) (o : Option Tree) → not (x && b) ≡ false → is_some (if b then o else None) ≡ false → not ((x && not (is_some o)) && b) ≡ false
still-counts true true None e f = refl
still-counts true true (Some u) e f = absurd cc
still-counts true false o e f = absurd cc
still-counts false b o e f = absurd cc

module _ (S : State) (L : Live) where
  none-valued : (n : ℕ) (i : VariableInfo) (t : Tree) → unvalued S L n ≡ true → info S n ≡ Some i → i.value ≡ Some t → ⊥
  none-valued n i t c e v = at (L n) (value_of S n) (ap value_in e ∙ v) c
    where
      at : (x : Bool) (o : Option Tree) → o ≡ Some t → (x && not (is_some o)) ≡ true → ⊥
      at true None f c = absurd cc
      at true (Some u) f c = absurd cc
      at false o f c = absurd cc

  counted-then : (n : ℕ) → unvalued S L n ≡ true → L n ≡ true
  counted-then n c = (and_parts (L n) (not (is_some (value_of S n))) c).0

  pub unvalued-sound : IsSound S L → IsSound S (unvalued S L)
  unvalued-sound sound = record {
    allowed = λ s n i t c e v k. absurd (none-valued n i t c e v);
    no_higher = λ n i t c e v. absurd (none-valued n i t c e v);
    is_resolved = λ n i t c e v. absurd (none-valued n i t c e v);
    known = λ n i t c e v. absurd (none-valued n i t c e v);
    universes = λ n i c e. sound.universes n i (counted-then n c) e;
  }

  pub unvalued-fits : ValuesFit S (unvalued S L)
  unvalued-fits n c = record {
    kind = λ i t e v. absurd (none-valued n i t c e v);
    is_closed = λ i t e v. absurd (none-valued n i t c e v);
  }

  pub unvalued-leaves : HasLeafValues S (unvalued S L)
  unvalued-leaves n i t c e v = absurd (none-valued n i t c e v)

  strange-still : (h : Head) → is_strange S L h ≡ false → has_value S h ≡ false → is_strange S (unvalued S L) h ≡ false
  strange-still (H.Infer v) e f = still-counts (L v.number) (has_kind (Term v.sort) (info S v.number)) (value_of S v.number) e f
  strange-still (H.Region (R.Var n)) e f = still-counts (L n) (has_kind Region (info S n)) (value_of S n) e f
  strange-still (H.Placeholder p) e f = e
  strange-still (H.Const (C.Placeholder p)) e f = e
  strange-still (H.Region (R.Placeholder p)) e f = e
  strange-still _ e f = refl

  pub unvalued-trees : (ts : Forest) → AreTreesOf S L ts → IsResolved S ts → AreTreesOf S (unvalued S L) ts
  unvalued-trees ts a r = record { known = neither (is_strange S L) (has_value S) (is_strange S (unvalued S L)) strange-still ts a.known r; is_closed = a.is_closed }

pub leafy : (S : State) (g : TraitGoal) → GoalIsValid trait_rules S g → IsResolved S g.reference.arguments → HasLeafyValues S g
leafy S g s r = record {
  live = unvalued S s.live;
  sound = unvalued-sound S s.live s.sound;
  fits = unvalued-fits S s.live;
  leaves = unvalued-leaves S s.live;
  trees = unvalued-trees S s.live g.reference.arguments s.trees r;
}
