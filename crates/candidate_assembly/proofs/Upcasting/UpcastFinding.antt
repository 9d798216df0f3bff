-- Bounds of the source that are tried one after the other.
use Rattle.std.proofs.Common.{◌≡◌, ◌<◌, ◌+◌, ◌&&◌, ℕ, Bool, true, false, List, [], ◌∷◌, ◌++◌, get_or, length, take, refl, sym, ap, ◌∙◌}
use Rattle.std.specs.Prelude.{if◌then◌else◌}
use Rattle.std.specs.List.{filter}
use Rattle.std.proofs.lemmas.List.{append-nil, take_more}
use Rattle.std.proofs.lemmas.List.Elements.{filter-append}
use Rattle.ir_trees.specs.declared.ir.kinds.Pred.{Pred}
use Rattle.ir_trees.specs.Declarations.Context.{Context, Grows}
use Rattle.ir_trees.specs.Syntax.Trees.{Tree}
use Rattle.ir_trees.specs.Syntax.Words.{IsPred, pred_tree}
use Rattle.candidate_eval.specs.Judges.Alike.{JudgesAlike}
use Rattle.candidate_eval.specs.Derivations.Mentions.{IsBelow}
use Rattle.candidate_eval.specs.Judges.States.{Env, Judge, State, is_some}
use Rattle.candidate_assembly.specs.Rules.DynBounds.{projects}
use Rattle.candidate_assembly.specs.Calls.Upcasting.{IsRulePred, row_under, rows_met}
use Rattle.candidate_assembly.proofs.Upcasting.UpcastMatches.{met-then, rows-alike, under-below, under-plain}
use Rattle.candidate_assembly.proofs.Upcasting.UpcastRows.{pred-kept}

-- One more of a list, where some are left out.

pub one-more-kept : {X : Type 0} (f : X → Bool) (xs found new : List X) (k : ℕ) (d : X) → k < length xs → found ≡ filter f (take k xs) → f (get_or xs k d) ≡ true → new ≡ found ++ get_or xs k d ∷ [] → new ≡ filter f (take (k + 1) xs)
one-more-kept {X = X} f xs found new k d l so kept is =
    is
    ∙ (ap (λ (ys : List X). ys ++ get_or xs k d ∷ []) so
    ∙ sym (ap (filter f) (take_more xs k d l) ∙ (filter-append f (take k xs) (get_or xs k d ∷ []) ∙ ap (λ (b : Bool). filter f (take k xs) ++ (if b then get_or xs k d ∷ [] else [])) kept)))

pub one-more-left : {X : Type 0} (f : X → Bool) (xs found : List X) (k : ℕ) (d : X) → k < length xs → found ≡ filter f (take k xs) → f (get_or xs k d) ≡ false → found ≡ filter f (take (k + 1) xs)
one-more-left f xs found k d l so left =
    so
    ∙ sym (ap (filter f) (take_more xs k d l)
    ∙ (filter-append f (take k xs) (get_or xs k d ∷ []) ∙ (ap (λ (b : Bool). filter f (take k xs) ++ (if b then get_or xs k d ∷ [] else [])) left ∙ append-nil (filter f (take k xs)))))

-- What is said of one bound later, at a state alike the first, is said of it at the first.

pub both-so : (a b c : Bool) → a ≡ true → b ≡ c → (a && b) ≡ c
both-so true b c h m = m
both-so false b c h m = absurd cc

pub not-first : (a b : Bool) → a ≡ false → (a && b) ≡ false
not-first false b h = refl
not-first true b h = cc

pub projects-then : (start now : Context) (x : Context) (p : Pred) (item : ℕ) (b : Bool) → Grows start now → IsPred start.trees p → x ≡ now → b ≡ projects item (pred_tree x.trees p).head → projects item (pred_tree start.trees p).head ≡ b
projects-then start now x p item b g i same said =
    sym (said ∙ (ap (λ (y : Context). projects item (pred_tree y.trees p).head) same ∙ ap (λ (t : Tree). projects item t.head) (pred-kept start now p g i).1))

pub meets-then : {F : Type 0} (judge : F → Judge) (law : (f : F) → JudgesAlike (judge f)) (f h : F) (start now : Context) (S T : State) (e d : Env) (source target : Pred) (b : Bool) → Grows start now
    → IsRulePred start.trees (length S.variables) source → IsRulePred start.trees (length S.variables) target → IsBelow (length S.variables) e → (judge f).alike S T → h ≡ f → d ≡ e
    → is_some (rows_met (judge h) d T (row_under (pred_tree now.trees source)) (row_under (pred_tree now.trees target))) ≡ b
    → is_some (rows_met (judge f) e S (row_under (pred_tree start.trees source)) (row_under (pred_tree start.trees target))) ≡ b
meets-then judge law f h start now S T e d source target b g s t env a same env-same is =
    let s-is = ap row_under (pred-kept start now source g s.0).1 in
    let t-is = ap row_under (pred-kept start now target g t.0).1 in
    let own = row_under (pred_tree start.trees source) in
    let goal = row_under (pred_tree start.trees target) in
    sym (rows-alike (judge f) (law f) e S T own goal (under-plain (pred_tree start.trees source) s.1.no_parameter) (under-plain (pred_tree start.trees target) t.1.no_parameter) a env
    (under-below (length S.variables) (pred_tree start.trees source) s.1.below) (under-below (length S.variables) (pred_tree start.trees target) t.1.below))
    ∙ (ap is_some (met-then judge f h e d T T own goal (row_under (pred_tree now.trees source)) (row_under (pred_tree now.trees target)) _ same env-same refl s-is t-is refl) ∙ is)
