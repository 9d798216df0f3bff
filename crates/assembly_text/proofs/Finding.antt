-- Findings that are added one after the other, over a context that goes on.
use Rattle.std.proofs.Common.{◌≡◌, ◌∙◌, ◌++◌, ◌∷◌, ◌&&◌, if◌then◌else◌, false, arith, ◌+◌, ◌<◌, ℕ, zero, suc, List, [], Option, Result, Some, Ok, Err, OnOk, IfErr, IfOk, length, slice_get, slice_index_or, refl, sym, ap, subst, take}
use Rattle.std.specs.Prelude.{string_bytes}
use Rattle.std.proofs.lemmas.List.{append-nil, append_assoc, take-take}
use Rattle.std.proofs.Math.Nat.{le_refl}
use Rattle.ir_trees.specs.declared.decl.contents.ImplId.{ImplId}
use Rattle.ir_trees.specs.declared.ir.stop.Stop.{Stop}
use Rattle.ir_trees.specs.Syntax.Nodes.{Extends}
use Rattle.ir_trees.specs.Syntax.Trees.{Tree}
use Rattle.ir_trees.specs.Declarations.Context.{Context, Grows}
use Rattle.ir_trees.proofs.Growth.Kept.{grows-refl, grows-trans}
use Rattle.ir_trees.specs.Declarations.Contents.{Impl}
use Rattle.ir_trees.specs.Declarations.Lookups.{maybe}
use Rattle.candidate_assembly.proofs.Rules.ImplSteps.{impl-same}
use Rattle.overlaps.specs.declared.specializing.Specialization.{Specialization}
use Rattle.overlaps.specs.declared.specializing.Specialization.TheVariants as answer
use Rattle.assembly_text.specs.declared.comparing.Found.{Found}
use Rattle.assembly_text.specs.declared.comparing.Found.TheVariants as found
use Rattle.assembly_text.specs.Specializing.{IsFoundOf, IsPairStop, IsTestStopped, IsTested, specialized_by}
use Rattle.assembly_text.proofs.Compared.{found-before, stop-before}
use Rattle.assembly_text.specs.declared.asking.Asking.{Asking}
use Rattle.assembly_notation.specs.declared.given.Given.{Given}
use Rattle.assembly_notation.specs.declared.names.NamedImpl.{NamedImpl}
use Rattle.assembly_notation.specs.declared.names.Names.{Names}
use Rattle.assembly_text.specs.Asking.{declared_part}
use Rattle.assembly_text.specs.Checking.{Adds, AddsFound, AddsOfAll, AddsOfImpl, AddsOfImpls, AddsOfLine, AddsOfLines, AddsOfPair, AddsOfPairs, AddsTest, AddsWithOthers, IsDeclaredAlone, SaysFindings, SaysFindingsOfLine, SaysOfImpl, SaysOfImpls, SaysOfLine, SaysOfLines, SaysOfPair, SaysOfPairs, SaysWithOthers, Stays, and_impl, and_line, and_pair, found_text, line_stop, no_impl, no_line, no_pair, not_asked, not_so, of_prelude, or_ok, orphan, orphan_stop, overlap, overlap_stop, pair_text, passes, quiet, refused, so, says_yes, special, stop_text, stopped_text}
use Rattle.overlaps.specs.declared.instance.CommonInstance.{CommonInstance}
use Rattle.assembly_text.specs.Overlapping.{AddsAfter, instance_text}
use Rattle.assembly_text.specs.Paired.{IsPairedHere}
use Rattle.assembly_text.specs.Efforts.{effort_of_line}
use Rattle.assembly_notation.proofs.Giving.{take-extends}
use Rattle.candidate_rounds.specs.declared.rounds.effort.Effort.{Effort}
use Rattle.candidate_rounds.specs.declared.rounds.effort.Effort.TheVariants.{AsNeeded}

-- Declared contexts.

pub alone-again : (b c : Context) → c ≡ declared_part b → IsDeclaredAlone c
alone-again b c e = subst IsDeclaredAlone (sym e) (take-take b.declared_nodes b.declared_nodes b.trees (le_refl _))

pub grows-alone : (a b c : Context) → IsDeclaredAlone a → Grows a b → c ≡ declared_part b → Grows a c
grows-alone a b c alone g e =
    let n : b.declared_nodes ≡ a.declared_nodes = ap (λ (x : Context). x.declared_nodes) g.same in
    let kept : Extends (take a.declared_nodes a.trees) (take a.declared_nodes b.trees) = subst (λ (ts : List Tree). Extends (take a.declared_nodes a.trees) (take a.declared_nodes ts)) (sym g.kept.is) (take-extends a.declared_nodes a.trees g.kept.added) in
    subst (Grows a) (sym e) (record {
      same = ap declared_part g.same ∙ ap (λ (i : ℕ). record a { trees = take i b.trees; delayed_bugs = b.delayed_bugs }) (sym n);
      kept = subst (λ (i : ℕ). Extends a.trees (take i b.trees)) (sym n) (subst (λ (ts : List Tree). Extends ts (take a.declared_nodes b.trees)) alone kept);
      faults = record { added = g.faults.added; is = g.faults.is };
    })

-- Texts that are added.

module _ {P Q : List ℕ → Type 0} where
  -- what is added is so in other words
  pub adds-weaker : (old new : List ℕ) → ((text : List ℕ) → P text → Q text) → Adds P old new → Adds Q old new
  adds-weaker old new f (text, p, e) = (text, f text p, e)

  -- one behind another
  pub adds-both : {R : List ℕ → Type 0} → (old mid new : List ℕ) → ((xs ys : List ℕ) → P xs → Q ys → R (xs ++ ys)) → Adds P old mid → Adds Q mid new → Adds R old new
  adds-both old mid new f (xs, p, e) (ys, q, h) = (xs ++ ys, f xs ys p q, h ∙ (ap (λ z. z ++ ys) e ∙ append_assoc old xs ys))

pub adds-nothing : (P : List ℕ → Type 0) (old new : List ℕ) → P [] → new ≡ old → Adds P old new
adds-nothing P old new p e = ([], p, e ∙ sym (append-nil old))

pub adds-text : (P : List ℕ → Type 0) (old text new : List ℕ) → P text → new ≡ old ++ text → Adds P old new
adds-text P old text new p e = (text, p, e)

-- What is said over a context is said over one before it.

impl-before : (names : Names) (a b : Context) (i : ImplId) (text : List ℕ) → Grows a b → SaysOfImpl names b i text → SaysOfImpl names a i text
impl-before names a b i _ w (not_asked c t v h e) = not_asked c t (grows-trans a b c w v) h e
impl-before names a b i _ w (passes c t v h e) = passes c t (grows-trans a b c w v) h e
impl-before names a b i _ w (refused c t v h is says) = refused c t (grows-trans a b c w v) h is says
impl-before names a b i _ w (orphan_stop c t s v h by) = orphan_stop c t s (grows-trans a b c w v) h by

-- an impl says the same of whether its trait holds, so that an instance is told in the same words
words-before : (a b : Context) → Grows a b → (x : CommonInstance) (i j : ImplId) → found_text a i j x ≡ found_text b i j x
words-before a b w x i j =
    let p = impl-same a b i w in
    let q = impl-same a b j w in
    ap (λ (o : Option Impl × Option Impl).
    if x.leaks && (maybe false (λ (y : Impl). says_yes y.polarity) o.0 && maybe false (λ (y : Impl). says_yes y.polarity) o.1) then 108 ∷ 105 ∷ 110 ∷ 116 ∷ 32 ∷ 108 ∷ 101 ∷ 97 ∷ 107 ∷ 32 ∷ [] else instance_text x) (λ n. (sym p n, sym q n))

-- What is added of two impls by a later context is so by an earlier one.
pub adds-earlier : (c d : Context) (names : List NamedImpl) (a b : ImplId) (r : Result Found Stop) (made : Result (Unit {0}) Stop) (old new : List ℕ) → Grows c d → OnOk made (AddsFound d names a b r old new)
    → OnOk made (AddsFound c names a b r old new)
adds-earlier c d names a b r (Err s) old new w e = tt
adds-earlier c d names a b (Ok found.Nothing) (Ok x) old new w e = e
adds-earlier c d names a b (Ok (found.Instance i)) (Ok x) old new w e = subst (λ (t : List ℕ). AddsAfter t (old ++ pair_text names a b) new) (sym (words-before c d w i a b)) e
adds-earlier c d names a b (Ok (found.Specializes s t)) (Ok x) old new w e = e
adds-earlier c d names a b (Err s) (Ok x) old new w e = e

module _ (names : Names) (g : Given) (effort : Effort) (a b : Context) (w : Grows a b) where
  pair-before : (i j : ImplId) (text : List ℕ) → SaysOfPair names b g effort i j text → SaysOfPair names a g effort i j text
  pair-before i j _ (quiet h) = quiet (found-before a b w g effort i j found.Nothing h)
  pair-before i j _ (of_prelude e) = of_prelude e
  pair-before i j _ (overlap x word h) =
      subst (λ (t : List ℕ). SaysOfPair names a g effort i j (pair_text names.impls.items i j ++ (t ++ (word ++ 10 ∷ [])))) (words-before a b w x i j) (overlap x word (found-before a b w g effort i j (found.Instance x) h))
  pair-before i j _ (special s t h) = special s t (found-before a b w g effort i j (found.Specializes s t) h)
  pair-before i j _ (overlap_stop s h m) = overlap_stop s (stop-before a b w g s h) m

  line-before : (i j : ImplId) (text : List ℕ) → SaysOfLine names b g i j text → SaysOfLine names a g i j text
  line-before i j _ (so c d v h) = so c d (grows-trans a b c w v) h
  line-before i j _ (not_so c d o v h n) = not_so c d o (grows-trans a b c w v) h n
  line-before i j _ (line_stop c d s v h m) = line_stop c d s (grows-trans a b c w v) h m

  -- the lines that are declared
  declared-before : (i : ImplId) → specialized_by b i ≡ specialized_by a i
  declared-before i = ap (λ (o : Option Impl). maybe [] (λ (x : Impl). x.specializes) o) (impl-same a b i w)

  lines-before : (i : ImplId) (n : ℕ) (text : List ℕ) → SaysOfLines names b g i n text → SaysOfLines names a g i n text
  lines-before i _ _ no_line = no_line
  lines-before i _ _ (and_line {n = n} {text = text} {line = line} j before is h) =
      and_line j (lines-before i n text before) (subst (λ (js : List ImplId). slice_get js n ≡ Some j) (declared-before i) is) (line-before i j line h)

  pairs-before : (i : ImplId) (js : List ImplId) (n : ℕ) (text : List ℕ) → SaysOfPairs names b g effort i js n text → SaysOfPairs names a g effort i js n text
  pairs-before i js _ _ no_pair = no_pair
  pairs-before i js _ _ (and_pair {n = n} {text = text} {line = line} j before is h) = and_pair j (pairs-before i js n text before) is (pair-before i j line h)

  others-before : (number : ℕ) (i : ImplId) (text : List ℕ) → SaysWithOthers names b g effort number i text → SaysWithOthers names a g effort number i text
  others-before number i text h = record {
    others = h.others;
    paired = (h.paired.0, grows-trans a b h.paired.0 w h.paired.1, h.paired.2);
    alone = h.alone;
    of_alone = impl-before names a b i h.alone w h.of_alone;
    lines = h.lines;
    of_lines = subst (λ (js : List ImplId). SaysOfLines names a g i (length js) h.lines) (declared-before i) (lines-before i (length (specialized_by b i)) h.lines h.of_lines);
    pairs = h.pairs;
    of_pairs = pairs-before i h.others (length h.others) h.pairs h.of_pairs;
    is = h.is;
  }

-- What is said of two impls.
pub adds-pair : (names : Names) (g : Given) (effort : Effort) (c : Context) (a b : ImplId) (r : Result Found Stop) (made : Result (Unit {0}) Stop) (old new : List ℕ) → IfOk r (IsFoundOf c g effort a b)
    → IfErr r (IsPairStop c g) → OnOk made (AddsFound c names.impls.items a b r old new) → OnOk made (Adds (SaysOfPair names c g effort a b) old new)
adds-pair names g effort c a b r (Err s) old new is why e = tt
adds-pair names g effort c a b (Ok found.Nothing) (Ok x) old new is why e = adds-nothing _ old new (quiet is) e
adds-pair names g effort c a b (Ok (found.Instance i)) (Ok x) old new is why (word, e) =
    adds-text (SaysOfPair names c g effort a b) old _ new (overlap i word is) (e ∙ append_assoc old (pair_text names.impls.items a b) (found_text c a b i ++ (word ++ 10 ∷ [])))
adds-pair names g effort c a b (Ok (found.Specializes s t)) (Ok x) old new is why e = adds-text (SaysOfPair names c g effort a b) old _ new (special s t is) e
adds-pair names g effort c a b (Err s) (Ok x) old new is why (m, e) =
    adds-text (SaysOfPair names c g effort a b) old _ new (overlap_stop s why m) (e ∙ append_assoc old (pair_text names.impls.items a b) (stop_text s))

-- What is said of a line.
pub adds-line : (names : Names) (g : Given) (c d : Context) (a b : ImplId) (r : Result Specialization Stop) (made : Result (Unit {0}) Stop) (old new : List ℕ) → IfOk r (IsTested c g a b d)
    → IfErr r (IsTestStopped c g d) → OnOk made (AddsTest names.impls.items a r old new) → OnOk made (Adds (SaysOfLine names c g a b) old new)
adds-line names g c d a b r (Err s) old new is why e = tt
adds-line names g c d a b (Ok answer.Specializes) (Ok x) old new is why e = adds-nothing _ old new (so c d (grows-refl c) is) e
adds-line names g c d a b (Ok answer.Unlike) (Ok x) old new is why e = adds-text (SaysOfLine names c g a b) old _ new (not_so c d answer.Unlike (grows-refl c) is (λ q. absurd cc)) e
adds-line names g c d a b (Ok answer.NoInstance) (Ok x) old new is why e = adds-text (SaysOfLine names c g a b) old _ new (not_so c d answer.NoInstance (grows-refl c) is (λ q. absurd cc)) e
adds-line names g c d a b (Ok (answer.Unanswered n)) (Ok x) old new is why e = adds-text (SaysOfLine names c g a b) old _ new (not_so c d (answer.Unanswered n) (grows-refl c) is (λ q. absurd cc)) e
adds-line names g c d a b (Err s) (Ok x) old new is why (m, e) =
    adds-text (SaysOfLine names c g a b) old _ new (line_stop c d s (grows-refl c) why m) (e ∙ append_assoc old (stopped_text names.impls.items a) (stop_text s))

-- The same between askings.

pub stays-then : (a b c : Asking) → Stays a b → Stays b c → Stays a c
stays-then a b c s t = record { grows = grows-trans _ _ _ s.grows t.grows; names = t.names ∙ s.names; given = t.given ∙ s.given }

pub stays-refl : (a : Asking) → Stays a a
stays-refl a = record { grows = grows-refl _; names = refl; given = refl }

-- nodes were forgotten behind that
pub stays-forgot : (a b c : Asking) → IsDeclaredAlone a.scope.maker → Stays a b → c.scope.maker ≡ declared_part b.scope.maker → c.scope.names ≡ b.scope.names → c.given ≡ b.given → Stays a c
stays-forgot a b c alone s e n g = record { grows = grows-alone _ _ _ alone s.grows e; names = n ∙ s.names; given = g ∙ s.given }

-- the answer stays from there on
pub adds-same : (P : List ℕ → Type 0) (made : Result (Unit {0}) Stop) (old : List ℕ) (b c : Asking) → c.answer ≡ b.answer → OnOk made (Adds P old (string_bytes b.answer)) → OnOk made (Adds P old (string_bytes c.answer))
adds-same P (Ok x) old b c e f = subst (λ t. Adds P old (string_bytes t)) (sym e) f
adds-same P (Err s) old b c e f = tt

-- the answer was the same before
pub adds-of-impl-then : (i : ImplId) (a b c : Asking) → Stays a b → b.answer ≡ a.answer → AddsOfImpl i b c → AddsOfImpl i a c
adds-of-impl-then i a b c s e h =
    subst (λ t. Adds (SaysOfImpl a.scope.names a.scope.maker i) (string_bytes t) (string_bytes c.answer)) e
    (adds-weaker (string_bytes b.answer) (string_bytes c.answer)
    (λ text p. subst (λ (n : Names). SaysOfImpl n a.scope.maker i text) s.names (impl-before b.scope.names a.scope.maker b.scope.maker i text s.grows p)) h)

-- no pair, and one more
pub no-pairs : (effort : Effort) (i : ImplId) (js : List ImplId) (a : Asking) → AddsOfPairs effort i js 0 a a
no-pairs effort i js a = adds-nothing (SaysOfPairs a.scope.names a.scope.maker a.given effort i js 0) (string_bytes a.answer) (string_bytes a.answer) no_pair refl

-- what stands in a place of a list
pub got-there : (xs : List ImplId) (n : ℕ) (d : ImplId) → n < length xs → slice_get xs n ≡ Some (slice_index_or xs n d)
got-there [] n d l = absurd (omega (arith, l))
got-there (x ∷ xs) zero d l = refl
got-there (x ∷ xs) (suc n) d l = let m : n < length xs = omega (arith, l) in got-there xs n d m

pub pair-more : (effort : Effort) (i j : ImplId) (js : List ImplId) (n : ℕ) (a b c : Asking) → Stays a b → slice_get js n ≡ Some j → AddsOfPairs effort i js n a b → AddsOfPair effort i j b c
    → AddsOfPairs effort i js (n + 1) a c
pair-more effort i j js n a b c s is before h =
    let next : suc n ≡ n + 1 = omega (arith) in
    adds-both (string_bytes a.answer) (string_bytes b.answer) (string_bytes c.answer)
    (λ xs ys p q.
    subst (λ k. SaysOfPairs a.scope.names a.scope.maker a.given effort i js k (xs ++ ys)) next
    (and_pair j p is
    (subst (λ (x : Names × Given). SaysOfPair x.0 a.scope.maker x.1 effort i j ys) (λ k. (s.names k, s.given k)) (pair-before b.scope.names b.given effort a.scope.maker b.scope.maker s.grows i j ys q))))
    before h

-- no line, and one more

pub no-lines : (i : ImplId) (a : Asking) → AddsOfLines i 0 a a
no-lines i a = adds-nothing (SaysOfLines a.scope.names a.scope.maker a.given i 0) (string_bytes a.answer) (string_bytes a.answer) no_line refl

pub line-more : (i j : ImplId) (n : ℕ) (a b c : Asking) → Stays a b → slice_get (specialized_by a.scope.maker i) n ≡ Some j → AddsOfLines i n a b → AddsOfLine i j b c → AddsOfLines i (n + 1) a c
line-more i j n a b c s is before h =
    let next : suc n ≡ n + 1 = omega (arith) in
    adds-both (string_bytes a.answer) (string_bytes b.answer) (string_bytes c.answer)
    (λ xs ys p q.
    subst (λ k. SaysOfLines a.scope.names a.scope.maker a.given i k (xs ++ ys)) next
    (and_line j p is
    (subst (λ (x : Names × Given). SaysOfLine x.0 a.scope.maker x.1 i j ys) (λ k. (s.names k, s.given k)) (line-before b.scope.names b.given AsNeeded a.scope.maker b.scope.maker s.grows i j ys q))))
    before h

-- an impl alone, its lines, and then with others
pub with-others : (made : Result (Unit {0}) Stop) (effort : Effort) (number : ℕ) (i : ImplId) (js : List ImplId) (a b c d : Asking) → Stays a b → Stays b c → AddsOfImpl i a b
    → AddsOfLines i (length (specialized_by b.scope.maker i)) b c → IsPairedHere a.scope.maker number i js → OnOk made (AddsOfPairs effort i js (length js) c d) → OnOk made (AddsWithOthers effort number i a d)
with-others (Ok x) effort number i js a b c d s t alone (lines, of-lines, f) paired (pairs, of-pairs, h) =
    let u = stays-then a b c s t in
    let here = subst (λ (x : Names × Given). SaysOfLines x.0 a.scope.maker x.1 i (length (specialized_by b.scope.maker i)) lines) (λ k. (s.names k, s.given k))
    (lines-before b.scope.names b.given effort a.scope.maker b.scope.maker s.grows i (length (specialized_by b.scope.maker i)) lines of-lines) in
    let both : Adds (λ ys. ys ≡ lines ++ pairs) (string_bytes b.answer) (string_bytes d.answer) = (lines ++ pairs, refl, h ∙ (ap (λ z. z ++ pairs) f ∙ append_assoc (string_bytes b.answer) lines pairs)) in
    adds-both (string_bytes a.answer) (string_bytes b.answer) (string_bytes d.answer)
    (λ xs ys p q. record {
      others = js;
      paired = paired;
      alone = xs;
      of_alone = p;
      lines = lines;
      of_lines =
          subst (λ (ks : List ImplId). SaysOfLines a.scope.names a.scope.maker a.given i (length ks) lines)
          (declared-before b.scope.names b.given effort a.scope.maker b.scope.maker s.grows i) here;
      pairs = pairs;
      of_pairs =
          subst (λ (x : Names × Given). SaysOfPairs x.0 a.scope.maker x.1 effort i js (length js) pairs) (λ k. (u.names k, u.given k))
          (pairs-before c.scope.names c.given effort a.scope.maker c.scope.maker u.grows i js (length js) pairs of-pairs);
      is = ap (λ zs. xs ++ zs) q;
    })
    alone both
with-others (Err e) effort number i js a b c d s t alone lines paired h = tt

-- no impl, and one more
pub no-impls : (effort : Effort) (number : ℕ) (a : Asking) → AddsOfImpls effort number 0 a a
no-impls effort number a = adds-nothing (SaysOfImpls a.scope.names a.scope.maker a.given effort number 0) (string_bytes a.answer) (string_bytes a.answer) no_impl refl

pub impl-more : (effort : Effort) (number n : ℕ) (a b c : Asking) → Stays a b → AddsOfImpls effort number n a b → AddsWithOthers effort number (record { 0 = n }) b c → AddsOfImpls effort number (n + 1) a c
impl-more effort number n a b c s before h =
    let next : suc n ≡ n + 1 = omega (arith) in
    let i : ImplId = record { 0 = n } in
    adds-both (string_bytes a.answer) (string_bytes b.answer) (string_bytes c.answer)
    (λ xs ys p q.
    subst (λ k. SaysOfImpls a.scope.names a.scope.maker a.given effort number k (xs ++ ys)) next
    (and_impl p
    (subst (λ (x : Names × Given). SaysWithOthers x.0 a.scope.maker x.1 effort number i ys) (λ k. (s.names k, s.given k)) (others-before b.scope.names b.given effort a.scope.maker b.scope.maker s.grows number i ys q))))
    before h

-- all of it is said
pub says-all : (effort : Effort) (a b c : Asking) (made : Result (Unit {0}) Stop) → string_bytes a.answer ≡ [] → AddsOfAll effort a b → OnOk made (string_bytes c.answer ≡ or_ok (string_bytes b.answer))
    → OnOk made (SaysFindings a.scope.names a.scope.maker a.given effort (string_bytes c.answer))
says-all effort a b c (Ok x) nothing h e =
    let a = h.adds in
    record { number = h.number; are_all = h.are_all; text = a.0; are = a.1; is = e ∙ ap or_ok (a.2 ∙ ap (λ t. t ++ a.0) nothing) }
says-all effort a b c (Err s) nothing h e = tt

pub says-of-line : (made : Result (Unit {0}) Stop) (names : Names) (c : Context) (g : Given) (effort : Effort) (line said : List ℕ) → effort ≡ effort_of_line line → OnOk made (SaysFindings names c g effort said)
    → OnOk made (SaysFindingsOfLine line names c g said)
says-of-line made names c g effort line said e h = subst (λ n. OnOk made (SaysFindings names c g n said)) e h
