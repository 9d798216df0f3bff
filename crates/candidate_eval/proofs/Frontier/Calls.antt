-- Calls of a normaliser.
use Rattle.std.proofs.Common.{◌≡◌, true, ◌<◌, ◌^◌, List, [], ◌∷◌, ◌++◌, Result, Err, IfOk, refl, sym, ◌∙◌, ap, subst}
use Rattle.std.specs.Fn.{Mut, Called}
use Rattle.std.specs.Borrow.{MutBor}
use Rattle.ir_trees.specs.declared.ir.kinds.Ty.{Ty}
use Rattle.ir_trees.specs.declared.ir.stop.Stop.{Stop}
use Rattle.ir_trees.specs.declared.ir.stop.Stop.TheVariants.{Memory}
use Rattle.ir_trees.specs.Declarations.Context.{Context, Grows}
use Rattle.ir_trees.specs.Syntax.Trees.{Tree}
use Rattle.ir_trees.specs.Syntax.Words.{IsTy, ty_tree}
use Rattle.ir_trees.proofs.Growth.Kept.{grows-refl, grows-trans}
use Rattle.candidate_eval.specs.declared.coherence.NormalizeErr.{NormalizeErr}
use Rattle.candidate_eval.specs.declared.coherence.OrphanStop.{OrphanStop}
use Rattle.candidate_eval.specs.declared.coherence.OrphanStop.TheVariants as O
use Rattle.candidate_eval.specs.Knowability.Orphan.{View}
use Rattle.candidate_eval.specs.Knowability.Normalizer.{shown, Untold, refused_growth, any_stop, IsUntold, IsToldAnswer, IsTold, Description, exactly, Call, NoneStops, Normalizes, Lead, IsReached, MayNormalize, KeepsNumbers, IsNormalizer, IsFunction}

memory-is : (s : Stop) → refused_growth s ≡ true → s ≡ Memory
memory-is Memory e = refl
memory-is _ e = cc

-- a result is told where no growth was refused, or where it is no stop
pub told-unless-refused : {A E : Type 0} (r : Result A (OrphanStop E)) → (r ≡ Err (O.Stop Memory) → ⊥) → IsTold refused_growth r
told-unless-refused {A} {E} r ne s u e = ne (e ∙ ap (λ (x : Stop). let y : Result A (OrphanStop E) = Err (O.Stop x) in y) (memory-is s u))

pub told-unless-stopped : {A E : Type 0} (r : Result A (OrphanStop E)) → ((s : Stop) → r ≡ Err (O.Stop s) → ⊥) → IsTold any_stop r
told-unless-stopped r ne s u e = ne s e

pub none-then : {F C E : Type 0} (xs ys : List (Call F C E)) → NoneStops xs → NoneStops ys → NoneStops (xs ++ ys)
none-then [] ys a b = b
none-then (x ∷ xs) ys a b = (a.0, none-then xs ys a.1 b)

module _ {C F E : Type 0} (context : C → Context) (g : Mut F (MutBor C × (Ty × Unit {0})) (Result Ty (NormalizeErr E) × (MutBor C × Unit {0}))) where
  pub normalizes : (f : F) (lent : MutBor C) (t : Ty) (r : Result Ty (NormalizeErr E)) (left : MutBor C) (f' : F)
      → Called g f (lent, (t, tt)) (r, (left, tt)) f' → Normalizes context g f lent.now t r f' left.now
  normalizes f lent t r left f' h = record { lent = lent; lends = refl; left = left; called = h; leaves = refl }

  pub lead-then : (xs ys : List (Call F C E)) (f : F) (c : C) (f1 : F) (c1 : C) (f2 : F) (c2 : C) → Lead context g f c xs f1 c1 → Lead context g f1 c1 ys f2 c2
      → Lead context g f c (xs ++ ys) f2 c2
  lead-then [] ys f c f1 c1 f2 c2 a b = subst (λ x. Lead context g x c ys f2 c2) a.0 (subst (λ x. Lead context g f1 x ys f2 c2) a.1 b)
  lead-then (x ∷ xs) ys f c f1 c1 f2 c2 a b = (a.0, a.1, a.2, lead-then xs ys x.next x.after f1 c1 f2 c2 a.3 b)

  pub reached-same : (f : F) (c : C) → IsReached context g f c f c
  reached-same f c = record { calls = []; lead = (refl, refl); none = tt }

  pub reached-then : (f : F) (c : C) (f1 : F) (c1 : C) (f2 : F) (c2 : C) → IsReached context g f c f1 c1 → IsReached context g f1 c1 f2 c2 → IsReached context g f c f2 c2
  reached-then f c f1 c1 f2 c2 a b = record {
    calls = a.calls ++ b.calls;
    lead = lead-then a.calls b.calls f c f1 c1 f2 c2 a.lead b.lead;
    none = none-then a.calls b.calls a.none b.none;
  }

  -- what each call keeps of the normaliser
  lead-keeps : (P : F → Type 0) → ((f : F) (c : C) (t : Ty) (r : Result Ty (NormalizeErr E)) (f' : F) (c' : C) → Normalizes context g f c t r f' c' → P f → P f')
      → (ks : List (Call F C E)) (f : F) (c : C) (f' : F) (c' : C) → Lead context g f c ks f' c' → P f → P f'
  lead-keeps P h [] f c f' c' l p = subst P (sym l.0) p
  lead-keeps P h (k ∷ ks) f c f' c' l p =
      lead-keeps P h ks k.next k.after f' c' l.3 (h k.by k.before k.type k.answer k.next k.after l.2.call (subst P (sym l.0) p))

  pub reached-keeps : (P : F → Type 0) → ((f : F) (c : C) (t : Ty) (r : Result Ty (NormalizeErr E)) (f' : F) (c' : C) → Normalizes context g f c t r f' c' → P f → P f')
      → (f : F) (c : C) (f' : F) (c' : C) → IsReached context g f c f' c' → P f → P f'
  reached-keeps P h f c f' c' l p = lead-keeps P h l.calls f c f' c' l.lead p

  -- what a call leaves and answers
  pub call-keeps : (f : F) (lent : MutBor C) (t : Ty) (r : Result Ty (NormalizeErr E)) (left : MutBor C) (f' : F)
      → KeepsNumbers context g f lent.now → IsTy (context lent.now).trees t → t.0 < 2 ^ 32 → Called g f (lent, (t, tt)) (r, (left, tt)) f'
      → Grows (context lent.now) (context left.now) × IfOk r (λ u. IsTy (context left.now).trees u)
  call-keeps f lent t r left f' k s n h =
      k.at f lent.now t r f' left.now (reached-same f lent.now) (grows-refl (context lent.now)) s n (normalizes f lent t r left f' h)

  pub call-shows : (f : F) (lent : MutBor C) (t : Ty) (r : Result Ty (NormalizeErr E)) (left : MutBor C) (f' : F)
      → IsTy (context lent.now).trees t → t.0 < 2 ^ 32 → Called g f (lent, (t, tt)) (r, (left, tt)) f'
      → {V : Type 0} (shows : C → V) (resolve : V → Tree → Tree) (d : Description F C V E) → IsFunction context g shows resolve d f lent.now → IsToldAnswer d.untold r
      → d.normal (d.stands (f, lent.now)) (ty_tree (context lent.now).trees t) ≡ record { seen = shown (context left.now).trees r; after = d.stands (f', left.now) }
  call-shows f lent t r left f' s n h shows resolve d k told =
      k.at f lent.now t r f' left.now (reached-same f lent.now) (grows-refl (context lent.now)) s n (normalizes f lent t r left f' h) told

  -- what stands for the context gives variables the same values
  pub values-here : (f : F) (c : C) {V : Type 0} (shows : C → V) (resolve : V → Tree → Tree) (d : Description F C V E) → IsFunction context g shows resolve d f c → (t : Tree) → resolve (d.stands (f, c)).1 t ≡ resolve (shows c) t
  values-here f c shows resolve d k t = k.values f c t (reached-same f c) (grows-refl (context c))

  pub call-may : (f : F) (lent : MutBor C) (t : Ty) → MayNormalize context g f lent.now → IsTy (context lent.now).trees t → t.0 < 2 ^ 32 → g.pre f (lent, (t, tt))
  call-may f lent t k s n = k.at f lent.now t lent refl (reached-same f lent.now) (grows-refl (context lent.now)) s n

  -- what is asked of a normaliser is asked where its calls lead
  module _ (f : F) (c : C) (f1 : F) (c1 : C) (l : IsReached context g f c f1 c1) (h : Grows (context c) (context c1)) where
    may-later : MayNormalize context g f c → MayNormalize context g f1 c1
    may-later m = record { at = λ e x t lent i q k s n. m.at e x t lent i (reached-then f c f1 c1 e x l q) (grows-trans (context c) (context c1) (context x) h k) s n }

    keeps-later : KeepsNumbers context g f c → KeepsNumbers context g f1 c1
    keeps-later m = record { at = λ e x t r e' x' q k s n w. m.at e x t r e' x' (reached-then f c f1 c1 e x l q) (grows-trans (context c) (context c1) (context x) h k) s n w }

    pub normalizer-later : IsNormalizer context g f c → IsNormalizer context g f1 c1
    normalizer-later n = record { callable = may-later n.callable; keeps = keeps-later n.keeps }

    pub function-later : {V : Type 0} (shows : C → V) (resolve : V → Tree → Tree) (d : Description F C V E) → IsFunction context g shows resolve d f c → IsFunction context g shows resolve d f1 c1
    function-later shows resolve d m = record {
      at = λ e x t r e' x' q k s n w told. m.at e x t r e' x' (reached-then f c f1 c1 e x l q) (grows-trans (context c) (context c1) (context x) h k) s n w told;
      values = λ e x t q k. m.values e x t (reached-then f c f1 c1 e x l q) (grows-trans (context c) (context c1) (context x) h k);
    }

  -- a function but for refused growths is one but for all stops
  pub function-unless-stopped : {V : Type 0} (shows : C → V) (resolve : V → Tree → Tree) (u : Untold) (e : IsUntold u Memory) (normal : View (F × V) E) (f : F) (c : C)
      → IsFunction context g shows resolve (exactly shows u e normal) f c → IsFunction context g shows resolve (exactly shows any_stop refl normal) f c
  function-unless-stopped shows resolve u y normal f c m = record { at = λ e x t r e' x' q k s n w told. m.at e x t r e' x' q k s n w (λ z h i. told z refl i); values = m.values }
