-- The clauses of two impls that may overlap, asked: said of an earlier evaluator, and of the declared impls.
use Rattle.std.proofs.Common.{◌≡◌, ◌||◌, Bool, false, true, ℕ, List, Some, length, sym, ap, subst, ◌∙◌}
use Rattle.ir_trees.specs.declared.decl.contents.ImplId.{ImplId}
use Rattle.ir_trees.specs.declared.ir.kinds.Clause.{Clause}
use Rattle.ir_trees.specs.Declarations.Context.{Context}
use Rattle.ir_trees.specs.Declarations.Contents.{Impl}
use Rattle.ir_trees.specs.Declarations.Declaring.{impl_at}
use Rattle.ir_trees.specs.Syntax.Trees.{Forest, none, holds, is_alias}
use Rattle.ir_trees.specs.Syntax.Words.{args_forest, clause_tree}
use Rattle.candidate_eval.specs.Interface.Evaluators.{accepted}
use Rattle.candidate_eval.specs.Judges.States.{State}
use Rattle.candidate_rounds.specs.Evaluators.Interface.{Fixed, fixed, judge_of}
use Rattle.candidate_rounds.specs.Evaluators.Known.{Evaluator, state, table_of}
use Rattle.candidate_rounds.specs.Table.Goals.{Via}
use Rattle.rounds_judge.specs.Equations.Opening.{are_open}
use Rattle.rounds_judge.specs.Table.GoalTable.{GoalTable}
use Rattle.overlaps.specs.Apart.{OfDeclared, aside, opened}
use Rattle.overlaps.specs.Asked.{AllStay, BothImplsStay, BothStay, FirstStay, ImplStays, ImplsStayBefore, OfClause, PairWasAsked, PairWasAskedBefore, SoManyStay, StayBefore, WereAsked, WereAskedBefore, WhereMay, before_of_first, before_of_second, declared_first, declared_second, pair_asked, pair_undecided, impls_asked, impls_undecided}
use Rattle.overlaps.specs.Instance.{first_header, second_header, unless_leaking}
use Rattle.overlaps.specs.Opening.{AreOpened, IsOpenedOf}
use Rattle.overlaps.specs.Refused.{AreOpen, MakesHeadersEqual, headers_equated, locals_of}
use Rattle.overlaps.specs.Stopping.{IsLater}
use Rattle.overlaps.specs.declared.opening.Opened.{Opened}
use Rattle.overlaps.specs.declared.opening.Pair.{Pair}
use Rattle.overlaps.specs.declared.overlap.Overlap.{Overlap}
use Rattle.overlaps.specs.declared.overlap.Overlap.TheVariants as O
use Rattle.overlaps.specs.declared.overlap.WhereClause.{WhereClause}
use Rattle.overlaps.proofs.AskedClauses.{AreClausesOf, before-earlier, both-earlier, clauses-kept, so-many-said}
use Rattle.candidate_rounds.specs.declared.rounds.effort.Effort.{Effort}

-- what follows where two impls may overlap
pub may-weaker : {P Q : Type 0} → (P → Q) → (o : Overlap) → WhereMay P o → WhereMay Q o
may-weaker f (O.May x) p = f p
may-weaker f O.NoCommonTrait p = tt
may-weaker f (O.Allowed w) p = tt
may-weaker f O.DisjointHeaders p = tt
may-weaker f (O.DisjointClause w) p = tt

-- The same where nothing is certain since a region leaks.

pub unless-asked : (P : Type 0) (leaks : Bool) (o : Overlap) → WhereMay P o → WhereMay P (unless_leaking leaks o)
unless-asked P leaks (O.May x) h = h
unless-asked P leaks O.NoCommonTrait h = tt
unless-asked P leaks (O.Allowed w) h = tt
unless-asked P leaks O.DisjointHeaders h = tt
unless-asked P leaks (O.DisjointClause w) h = tt

pub unless-before : (P : WhereClause → Type 0) (leaks : Bool) (o : Overlap) → OfClause P o → OfClause P (unless_leaking leaks o)
unless-before P leaks (O.May x) h = tt
unless-before P leaks O.NoCommonTrait h = tt
unless-before P leaks (O.Allowed w) h = tt
unless-before P leaks O.DisjointHeaders h = tt
unless-before P leaks (O.DisjointClause w) h = h

-- Asked where the headers are equal, in a probe that began then with nothing pending, and that has ended.
pub pair-asked : (old began ran new : Evaluator) (effort : Effort) (p : Pair) (after : State) → IsLater old began → table_of began ≡ table_of old → AreOpen old.context.trees p
    → headers_equated old p ≡ Some after → state began ≡ aside after → fixed new ≡ fixed ran → BothStay began (state began) effort p (table_of began) (table_of ran)
    → PairWasAsked old effort p (table_of new)
pair-asked old began ran new effort p after l t known equal s f h =
    let u : table_of ran ≡ table_of new = ap (λ (x : Fixed). x.table) (sym f) in
    pair_asked after equal
    (both-earlier old began (aside after) effort p (table_of old) (table_of new) l known
    (subst (λ (q : State × GoalTable Via × GoalTable Via). BothStay began q.0 effort p q.1 q.2) (λ i. (s i, t i, u i)) h))

-- What was said of an open impl, said of the declared one.
impl-declared : (old mid : Evaluator) (S T : State) (effort : Effort) (i : Impl) (o : Opened) (U V : GoalTable Via) → IsLater old mid → IsOpenedOf old.context S i mid.context o
    → ImplStays mid T effort o U V → AllStay old T effort (locals_of S i) i.wheres U V
impl-declared old mid S T effort i o U V l h all =
    let a = h.locals in
    let b = h.wheres in
    so-many-said old mid T effort (locals_of S i) i.wheres U (length i.wheres) V l (clauses-kept old.context mid.context i.wheres l.grows h.given.wheres)
    (subst (λ (q : Forest × List Clause). AllStay mid T effort q.0 q.1 U V) (λ i. (a i, b i)) all)

-- The same of both, which were opened where the first evaluator stood.
pub pair-declared : (old mid : Evaluator) (effort : Effort) (a b : ImplId) (p : Pair) (U : GoalTable Via) → IsLater old mid → fixed mid ≡ fixed old
    → AreOpened old.context (state old) a b mid.context (state mid) p → PairWasAsked mid effort p U → OfDeclared old.context a b (WereAsked old (state old) effort U)
pair-declared old mid effort a b p U l same o h = record { i = o.i; j = o.j; first_is = o.first_is; second_is = o.second_is; holds = at h }
  where
    c : Context
    c = old.context

    at : PairWasAsked mid effort p U → WereAsked old (state old) effort U o.i o.j
    at (pair_asked after e both) =
        let s = o.left_is in
        let f = o.first.header in
        let g = o.second.header in
        let t : table_of mid ≡ table_of old = ap (λ (x : Fixed). x.table) same in
        impls_asked after (subst (λ (q : Fixed × State × Forest × Forest). accepted (judge_of q.0) q.1 none q.2 q.3 ≡ Some after) (λ i. (same i, s i, f i, g i)) e)
        (record {
          between = both.between;
          first = subst (λ (T : GoalTable Via). AllStay old (aside after) effort (locals_of (state old) o.i) o.i.wheres T both.between) t
              (impl-declared old mid (state old) (aside after) effort o.i p.first (table_of mid) both.between l o.first both.first);
          second = impl-declared old mid (opened (state old) o.i) (aside after) effort o.j p.second both.between U l o.second both.second;
        })
    at (pair_undecided rigid alias u) =
        let s = o.left_is in
        let f = o.first.header in
        let g = o.second.header in
        impls_undecided (subst (λ (q : Fixed × State). are_open q.0.listing q.1 ≡ false) (λ i. (same i, s i)) rigid)
        (subst (λ (q : Forest × Forest). holds is_alias q.0 || holds is_alias q.1 ≡ true) (λ i. (f i, g i)) alias) (u ∙ ap (λ (x : Fixed). x.table) same)

-- A probe that was open meanwhile, in which nothing was pending at first, changes nothing of it.

both-probed : (old began : Evaluator) (S after : State) (effort : Effort) (i j : Impl) (T U : GoalTable Via) → began.context ≡ old.context → IsLater old began
    → BothImplsStay began S after effort i j T U → BothImplsStay old S after effort i j T U
both-probed old began S after effort i j T U cx l h = record {
  between = h.between;
  first = so-many-said old began after effort (locals_of S i) i.wheres T (length i.wheres) h.between l (same i.wheres) h.first;
  second = so-many-said old began after effort (locals_of (opened S i) j) j.wheres h.between (length j.wheres) U l (same j.wheres) h.second;
}
  where
    same : (xs : List Clause) → AreClausesOf old.context began.context xs
    same xs = λ n x is. ap (λ (c : Context). clause_tree c.trees x) cx

pub asked-probed : (old began ran new : Evaluator) (T : State) (effort : Effort) (a b : ImplId) → began.context ≡ old.context → IsLater old began → fixed began ≡ fixed old → state began ≡ T
    → fixed new ≡ fixed ran → OfDeclared began.context a b (WereAsked began (state began) effort (table_of ran)) → OfDeclared old.context a b (WereAsked old T effort (table_of new))
asked-probed old began ran new T effort a b cx l f s g h = record {
  i = h.i;
  j = h.j;
  first_is = ap (λ (c : Context). impl_at c a) (sym cx) ∙ h.first_is;
  second_is = ap (λ (c : Context). impl_at c b) (sym cx) ∙ h.second_is;
  holds = at h.holds;
}
  where
    at : WereAsked began (state began) effort (table_of ran) h.i h.j → WereAsked old T effort (table_of new) h.i h.j
    at (impls_asked after e both) =
        let u : table_of ran ≡ table_of new = ap (λ (x : Fixed). x.table) (sym g) in
        let t : table_of began ≡ table_of old = ap (λ (x : Fixed). x.table) f in
        impls_asked after (subst (λ (q : Fixed × Context × State). MakesHeadersEqual (judge_of q.0) q.1 q.2 h.i h.j after) (λ i. (f i, cx i, s i)) e)
        (both-probed old began T (aside after) effort h.i h.j (table_of old) (table_of new) cx l
        (subst (λ (q : State × GoalTable Via × GoalTable Via). BothImplsStay began q.0 (aside after) effort h.i h.j q.1 q.2) (λ i. (s i, t i, u i)) both))
    at (impls_undecided rigid alias e) =
        let u : table_of new ≡ table_of ran = ap (λ (x : Fixed). x.table) g in
        impls_undecided (subst (λ (q : Fixed × State). are_open q.0.listing (opened (opened q.1 h.i) h.j) ≡ false) (λ i. (f i, s i)) rigid)
        (subst (λ (q : Context × State). holds is_alias (first_header q.0 q.1 h.i h.j) || holds is_alias (second_header q.0 q.1 h.i h.j) ≡ true) (λ i. (cx i, s i)) alias)
        (u ∙ (e ∙ ap (λ (x : Fixed). x.table) f))

-- The same of the clauses before one that keeps the two apart.

pub of-clause-weaker : {P Q : WhereClause → Type 0} → ((w : WhereClause) → P w → Q w) → (o : Overlap) → OfClause P o → OfClause Q o
of-clause-weaker f (O.DisjointClause w) p = f w p
of-clause-weaker f O.NoCommonTrait p = tt
of-clause-weaker f (O.Allowed w) p = tt
of-clause-weaker f O.DisjointHeaders p = tt
of-clause-weaker f (O.May x) p = tt

pub pair-asked-before : (old began : Evaluator) (effort : Effort) (p : Pair) (after : State) → IsLater old began → table_of began ≡ table_of old → AreOpen old.context.trees p
    → headers_equated old p ≡ Some after → state began ≡ aside after → (w : WhereClause) → StayBefore began (state began) effort p (table_of began) w → PairWasAskedBefore old effort p w
pair-asked-before old began effort p after l t known equal s w h = record {
  after = after;
  equal = equal;
  stay =
      before-earlier old began (aside after) effort p (table_of old) w l known
      (subst (λ (q : State × GoalTable Via). StayBefore began q.0 effort p q.1 w) (λ i. (s i, t i)) h);
}

first-declared : (old mid : Evaluator) (S T : State) (effort : Effort) (i : Impl) (o : Opened) (U : GoalTable Via) (n : ℕ) → IsLater old mid → IsOpenedOf old.context S i mid.context o
    → FirstStay mid T effort (args_forest mid.context.trees o.locals) o.wheres.items U n → FirstStay old T effort (locals_of S i) i.wheres U n
first-declared old mid S T effort i o U n l h (V, some) =
    let a = h.locals in
    let b = h.wheres in (
      V,
      so-many-said old mid T effort (locals_of S i) i.wheres U n V l (clauses-kept old.context mid.context i.wheres l.grows h.given.wheres)
          (subst (λ (q : Forest × List Clause). SoManyStay mid T effort q.0 q.1 U n V) (λ i. (a i, b i)) some),
    )

pub pair-declared-before : (old mid : Evaluator) (effort : Effort) (a b : ImplId) (p : Pair) → IsLater old mid → fixed mid ≡ fixed old → AreOpened old.context (state old) a b mid.context (state mid) p
    → (w : WhereClause) → PairWasAskedBefore mid effort p w → OfDeclared old.context a b (WereAskedBefore old (state old) effort a b w)
pair-declared-before old mid effort a b p l same o w h = record { i = o.i; j = o.j; first_is = o.first_is; second_is = o.second_is; holds = record { after = h.after; equal = equal; stay = at h.stay } }
  where
    t : table_of mid ≡ table_of old
    t = ap (λ (x : Fixed). x.table) same

    equal : MakesHeadersEqual (judge_of (fixed old)) old.context (state old) o.i o.j h.after
    equal =
        let s = o.left_is in
        let f = o.first.header in
        let g = o.second.header in
        subst (λ (q : Fixed × State × Forest × Forest). accepted (judge_of q.0) q.1 none q.2 q.3 ≡ Some h.after) (λ i. (same i, s i, f i, g i)) h.equal

    at : StayBefore mid (aside h.after) effort p (table_of mid) w → ImplsStayBefore old (state old) (aside h.after) effort a b w o.i o.j
    at (before_of_first of some) =
        declared_first (of ∙ o.first_number)
        (subst (λ (T : GoalTable Via). FirstStay old (aside h.after) effort (locals_of (state old) o.i) o.i.wheres T w.number) t
        (first-declared old mid (state old) (aside h.after) effort o.i p.first (table_of mid) w.number l o.first some))
    at (before_of_second U of all some) =
        declared_second U (of ∙ o.second_number)
        (subst (λ (T : GoalTable Via). AllStay old (aside h.after) effort (locals_of (state old) o.i) o.i.wheres T U) t
        (impl-declared old mid (state old) (aside h.after) effort o.i p.first (table_of mid) U l o.first all))
        (first-declared old mid (opened (state old) o.i) (aside h.after) effort o.j p.second U w.number l o.second some)

pub before-probed : (old began : Evaluator) (T : State) (effort : Effort) (a b : ImplId) → began.context ≡ old.context → IsLater old began → fixed began ≡ fixed old → state began ≡ T
    → (w : WhereClause) → OfDeclared began.context a b (WereAskedBefore began (state began) effort a b w) → OfDeclared old.context a b (WereAskedBefore old T effort a b w)
before-probed old began T effort a b cx l f s w h = record {
  i = h.i;
  j = h.j;
  first_is = ap (λ (c : Context). impl_at c a) (sym cx) ∙ h.first_is;
  second_is = ap (λ (c : Context). impl_at c b) (sym cx) ∙ h.second_is;
  holds = record {
    after = h.holds.after;
    equal = subst (λ (q : Fixed × Context × State). MakesHeadersEqual (judge_of q.0) q.1 q.2 h.i h.j h.holds.after) (λ i. (f i, cx i, s i)) h.holds.equal;
    stay = subst (λ (S : State). ImplsStayBefore old S (aside h.holds.after) effort a b w h.i h.j) s (at h.holds.stay);
  };
}
  where
    S : State
    S = state began

    same : (xs : List Clause) → AreClausesOf old.context began.context xs
    same xs = λ n x is. ap (λ (c : Context). clause_tree c.trees x) cx

    t : table_of began ≡ table_of old
    t = ap (λ (x : Fixed). x.table) f

    some-stay : (ls : Forest) (xs : List Clause) (U : GoalTable Via) (n : ℕ) → FirstStay began (aside h.holds.after) effort ls xs U n → FirstStay old (aside h.holds.after) effort ls xs U n
    some-stay ls xs U n (V, some) = (V, so-many-said old began (aside h.holds.after) effort ls xs U n V l (same xs) some)

    at : ImplsStayBefore began S (aside h.holds.after) effort a b w h.i h.j → ImplsStayBefore old S (aside h.holds.after) effort a b w h.i h.j
    at (declared_first of some) =
        declared_first of
        (subst (λ (U : GoalTable Via). FirstStay old (aside h.holds.after) effort (locals_of S h.i) h.i.wheres U w.number) t (some-stay (locals_of S h.i) h.i.wheres (table_of began) w.number some))
    at (declared_second U of all some) =
        declared_second U of
        (subst (λ (V : GoalTable Via). AllStay old (aside h.holds.after) effort (locals_of S h.i) h.i.wheres V U) t
        (so-many-said old began (aside h.holds.after) effort (locals_of S h.i) h.i.wheres (table_of began) (length h.i.wheres) U l (same h.i.wheres) all))
        (some-stay (locals_of (opened S h.i) h.j) h.j.wheres U w.number some)
