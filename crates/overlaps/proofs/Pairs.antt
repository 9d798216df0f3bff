-- Two impls that are open, by the impls that are declared.
use Rattle.std.proofs.Common.{◌≡◌, ◌&&◌, Bool, true, ℕ, inl, inr, List, [], ◌∷◌, Option, Some, None, slice_get, sym, ap, subst, ◌∙◌}
use Rattle.std.proofs.lemmas.List.Elements.{All-cons, All-nil}
use Rattle.ir_trees.specs.declared.decl.contents.ImplId.{ImplId}
use Rattle.ir_trees.specs.declared.ir.kinds.Clause.{Clause}
use Rattle.ir_trees.specs.declared.ir.kinds.ParamEnv.{ParamEnv}
use Rattle.ir_trees.specs.declared.ir.kinds.Ty.{Ty}
use Rattle.ir_trees.specs.Declarations.Context.{Context, Grows, world}
use Rattle.ir_trees.specs.Declarations.Contents.{Impl}
use Rattle.ir_trees.specs.Declarations.Declaring.{impl_at}
use Rattle.ir_trees.specs.Instantiation.Folding.{substituted_tree}
use Rattle.ir_trees.specs.Syntax.Trees.{Forest, none, Tree, holds, is_alias}
use Rattle.ir_trees.specs.Syntax.Words.{args_forest, clause_tree, env_forest, ty_tree}
use Rattle.ir_trees.specs.Unification.Substitutions.{alone}
use Rattle.ir_trees.specs.Validity.WellFormed.{IsWellFormedTable}
use Rattle.ir_trees.proofs.Growth.Kept.{args-kept, grows-trans}
use Rattle.ir_folds.proofs.Instantiation.Joining.{clause-kept}
use Rattle.candidate_eval.specs.Interface.Evaluators.{accepted}
use Rattle.candidate_eval.specs.Judges.Lawful.{Lawful}
use Rattle.candidate_eval.specs.Judges.Modes.{is_coherence}
use Rattle.candidate_eval.specs.Judges.States.{Env, State, resolved_tree}
use Rattle.candidate_assembly.specs.Answers.KnownImpls.{header_at, kinds_of_impl}
use Rattle.candidate_assembly.proofs.Refusals.KnownFresh.{fresh-all}
use Rattle.candidate_assembly.proofs.Refusals.KnownHeaders.{fits-leaves}
use Rattle.candidate_assembly.proofs.Rules.ImplSteps.{owned-still}
use Rattle.candidate_assembly.proofs.Unsizing.UnsizedTargets.{type-fits}
use Rattle.candidate_rounds.specs.Evaluators.Interface.{Fixed, Rest, fixed, judge_of, rest}
use Rattle.candidate_rounds.specs.Evaluators.Known.{AreTypes, Each, Evaluator, IsGiven, listing, pairs_of, state}
use Rattle.rounds_judge.specs.Equations.WithErrors.{EquatesErrors}
use Rattle.rounds_judge.proofs.Lawfulness.TableLawful.{table_equates_errors, table_keeps_the_laws}
use Rattle.rounds_judge.specs.Aliases.WellListed.{well_listed}
use Rattle.rounds_judge.specs.Aliases.Listed.{Listing}
use Rattle.rounds_judge.specs.Equations.Opening.{equation}
use Rattle.rounds_judge.specs.Equations.Standing.{IsListing}
use Rattle.rounds_judge.proofs.Aliases.OpenedParts.{AllPairs}
use Rattle.rounds_judge.proofs.Aliases.WellListed.{all-listed}
use Rattle.overlaps.specs.Apart.{AreApart, IfDeclared, aside, opened}
use Rattle.overlaps.specs.Opening.{AreOpened, IsOpenedOf}
use Rattle.overlaps.specs.Refused.{AreDecided, AreOpen, ClauseIsRefused, ClauseWasRefused, EqualAndRefused, HeadersAreRefused, IsOpen, MakesHeadersEqual, RefusesHere, RefusesOfPair, Side, aliases_are_open, clause_at, headers_equated, locals_of, locals_on, of_first, of_second, on_side, opened_on, without_aliases}
use Rattle.overlaps.specs.declared.opening.Opened.{Opened}
use Rattle.overlaps.specs.declared.opening.Pair.{Pair}
use Rattle.overlaps.specs.declared.overlap.WhereClause.{WhereClause}
use Rattle.overlaps.proofs.Headers.{Decides, refused-apart}
use Rattle.overlaps.proofs.ReadSides.{LeafyValue}
use Rattle.overlaps.proofs.Refusing.{got-fits}

-- They stay open in later contexts.

open-later : (old new : Context) (o : Opened) → Grows old new → IsOpen old.trees o → IsOpen new.trees o
open-later old new o g h = ((args-kept old new o.locals g h.0).0, (args-kept old new o.header g h.1).0, owned-still old new o.locals o.wheres.items g h.0 h.2)

pub pair-later : (old new : Context) (p : Pair) → Grows old new → AreOpen old.trees p → AreOpen new.trees p
pair-later old new p g h = (open-later old new p.first g h.0, open-later old new p.second g h.1)

is-open : (c : Context) (S : State) (i : Impl) (later : Context) (o : Opened) → IsOpenedOf c S i later o → IsOpen later.trees o
is-open c S i later o h = (h.locals_fit, h.header_fits, h.owned)

pub are-open : (c : Context) (S : State) (a b : ImplId) (later : Context) (left : State) (p : Pair) → AreOpened c S a b later left p → AreOpen later.trees p
are-open c S a b later left p h = (is-open c S h.i later p.first h.first, is-open c (opened S h.i) h.j later p.second h.second)

-- With variables nothing more is pending.

opened-pending : (S : State) (i : Impl) → (opened S i).pending ≡ S.pending
opened-pending S i = ap (λ (T : State). T.pending) (fresh-all S (kinds_of_impl i))

pub pair-pending : (c : Context) (S : State) (a b : ImplId) (later : Context) (left : State) (p : Pair) → AreOpened c S a b later left p → S.pending ≡ [] → left.pending ≡ []
pair-pending c S a b later left p h e = ap (λ (T : State). T.pending) h.left_is ∙ (opened-pending (opened S h.i) h.j ∙ (opened-pending S h.i ∙ e))

pub lawful : (f : Fixed) → Lawful (judge_of f)
lawful f = table_keeps_the_laws f.world f.local_crate f.limits f.listing f.opaques f.table

-- and takes an error for no other type
pub errors-alone : (f : Fixed) → EquatesErrors (judge_of f)
errors-alone f = table_equates_errors f.world f.local_crate f.limits f.listing f.opaques f.table

-- What an evaluator is given: listed types are types of its context, whose regions are leaves; and its judge takes the listing as it is.

pub listed-leaves : (c : Context) → IsWellFormedTable c → (ns : List (Ty × Ty)) → Each (AreTypes c.trees) ns → AllPairs LeafyValue (pairs_of c.trees ns)
listed-leaves c table [] e = All-nil (λ (p : Tree × Tree). LeafyValue p.0 p.1)
listed-leaves c table (n ∷ ns) e =
    All-cons (λ (p : Tree × Tree). LeafyValue p.0 p.1) (ty_tree c.trees n.0, ty_tree c.trees n.1) (pairs_of c.trees ns)
    (fits-leaves (world c) (alone (ty_tree c.trees n.1)) (type-fits c table n.1 e.0.1)) (listed-leaves c table ns e.1)

pub same-listing : (old mid : Evaluator) → IsGiven old.context.trees old.normal.pairs old.opaques → fixed mid ≡ fixed old → well_listed (fixed mid).listing ≡ listing old
same-listing old mid given same = ap (λ (f : Fixed). well_listed f.listing) same ∙ all-listed (listing old) given.listing

-- What was said of the equation once the environment was made.
pub equated-as-made : (old mid : Evaluator) (env : ParamEnv) (p : Pair) (r : Option State) → Grows old.context mid.context → rest mid ≡ rest old → env_forest mid.context.trees env ≡ none
    → AreOpen old.context.trees p
    → accepted (judge_of (fixed mid)) (state mid) (env_forest mid.context.trees env) (args_forest mid.context.trees p.first.header) (args_forest mid.context.trees p.second.header) ≡ r
    → headers_equated old p ≡ r
equated-as-made old mid env p r g e empty fit h =
    let f = ap (λ (x : Rest). x.fixed) e in
    let s = ap (λ (x : Rest). x.state) e in
    let one = (args-kept old.context mid.context p.first.header g fit.0.1).1 in
    let other = (args-kept old.context mid.context p.second.header g fit.1.1).1 in
    subst (λ (q : Fixed × State × Env × Forest × Forest). accepted (judge_of q.0) q.1 q.2 q.3 q.4 ≡ r) (λ i. (f i, s i, empty i, one i, other i)) h

-- By the declared impls

the-same : {A : Type 0} (o : Option A) (x y : A) → o ≡ Some x → o ≡ Some y → x ≡ y
the-same o x y p q = let e : Some x ≡ Some y = sym p ∙ q in cc

for-declared : (c : Context) (a b : ImplId) (i j : Impl) (P : Impl → Impl → Type 0) → impl_at c a ≡ Some i → impl_at c b ≡ Some j → P i j → IfDeclared c a b P
for-declared c a b i j P first second h k l x y =
    let one = the-same (impl_at c a) i k first x in
    let other = the-same (impl_at c b) j l second y in
    subst (λ (q : Impl × Impl). P q.0 q.1) (λ n. (one n, other n)) h

module _ (c : Context) (S : State) (a b : ImplId) (mid : Evaluator) (p : Pair) (o : AreOpened c S a b mid.context (state mid) p) where
  -- the headers' equation, by the declared impls
  pub equated-declared : (r : Option State) → headers_equated mid p ≡ r → accepted (judge_of (fixed mid)) (opened (opened S o.i) o.j) none (header_at c S o.i).arguments (header_at c (opened S o.i) o.j).arguments ≡ r
  equated-declared r h =
      let s = o.left_is in
      let one = o.first.header in
      let other = o.second.header in
      subst (λ (q : State × Forest × Forest). accepted (judge_of (fixed mid)) q.0 none q.1 q.2 ≡ r) (λ i. (s i, one i, other i)) h

  pub headers-apart : (l : Listing) → IsListing l → AllPairs LeafyValue l.pairs → well_listed (fixed mid).listing ≡ l → IsWellFormedTable c → HeadersAreRefused mid p → IfDeclared c a b (AreApart c l S)
  headers-apart l listing leaves is table h =
      for-declared c a b o.i o.j (AreApart c l S) o.first_is o.second_is
      (refused-apart l listing leaves (judge_of (fixed mid)) (λ U e x y. ap (λ k. equation k U e x y) is) c table S a b o.i o.j o.first_is o.second_is none (decides h.decided) (equated-declared None h.refused))
    where
      decides : AreDecided mid p → Decides l (opened (opened S o.i) o.j) (header_at c S o.i).arguments (header_at c (opened S o.i) o.j).arguments
      decides (aliases_are_open e) =
          let b : (fixed mid).listing.is_open ≡ l.is_open = ap (λ (x : Listing). x.is_open) is in
          let s = o.left_is in
          inl (subst (λ (q : Bool × State). q.0 && is_coherence q.1.mode ≡ true) (λ n. (b n, s n)) e)
      decides (without_aliases x y) = inr (ap (holds is_alias) (sym o.first.header) ∙ x, ap (holds is_alias) (sym o.second.header) ∙ y)

  -- a clause of a side: it is the impl's, and its instance is that of the declared clause
  module _ (between new : Evaluator) (grows : Grows c mid.context) (further : Grows mid.context between.context) where
    one-side : (T : State) (i : Impl) (w : Opened) (n : ℕ) → IsOpenedOf c T i mid.context w → (x : Clause) → slice_get w.wheres.items n ≡ Some x
        → (slice_get i.wheres n ≡ Some x)
        × (substituted_tree (args_forest between.context.trees w.locals) (clause_tree between.context.trees x) ≡ substituted_tree (locals_of T i) (clause_tree c.trees x))
    one-side T i w n h x is =
        let there : slice_get i.wheres n ≡ Some x = ap (λ (xs : List Clause). slice_get xs n) (sym h.wheres) ∙ is in
        let kept = (clause-kept c between.context x (grows-trans c mid.context between.context grows further) (got-fits c.trees i.wheres n x h.given.wheres there)).1 in (
          there,
          ap (λ ls. substituted_tree ls (clause_tree between.context.trees x)) ((args-kept mid.context between.context w.locals further h.locals_fit).1 ∙ h.locals)
              ∙ ap (substituted_tree (locals_of T i)) kept,
        )

    by-side : (s : Side) (n : ℕ) (x : Clause) → slice_get (opened_on s p).wheres.items n ≡ Some x
        → (slice_get (on_side s o.i o.j).wheres n ≡ Some x)
        × (substituted_tree (args_forest between.context.trees (opened_on s p).locals) (clause_tree between.context.trees x) ≡ substituted_tree (locals_on s S o.i o.j) (clause_tree c.trees x))
    by-side of_first n x is = one-side S o.i p.first n o.first x is
    by-side of_second n x is = one-side (opened S o.i) o.j p.second n o.second x is

  -- and the number is the impl's
  number-on : (s : Side) → (opened_on s p).of ≡ on_side s a b
  number-on of_first = o.first_number
  number-on of_second = o.second_number

pub clause-declared : (old mid new : Evaluator) (a b : ImplId) (p : Pair) (w : WhereClause) → Grows old.context mid.context → fixed mid ≡ fixed old → AreOpened old.context (state old) a b mid.context (state mid) p
    → EqualAndRefused mid new p w → IfDeclared old.context a b (ClauseIsRefused old (state old) new a b w)
clause-declared old mid new a b p w grows f o h =
    let c = old.context in
    let S = state old in
    let between = h.between in
    let side = h.refused.side in
    let one = h.refused.refuses in
    let at = by-side c S a b mid p o between new grows h.grows side w.number one.clause one.is in
    let same = at.1 in
    let t = h.is_aside in
    for-declared c a b o.i o.j (ClauseIsRefused old S new a b w) o.first_is o.second_is
    (record {
      after = h.after;
      equal = subst (λ (x : Fixed). accepted (judge_of x) (opened (opened S o.i) o.j) none (header_at c S o.i).arguments (header_at c (opened S o.i) o.j).arguments ≡ Some h.after) f
          (equated-declared c S a b mid p o (Some h.after) h.equal);
      side = side;
      of = h.refused.of ∙ number-on c S a b mid p o side;
      clause = one.clause;
      is = at.0;
      context = one.refuses.context;
      earlier = grows-trans c between.context one.refuses.context (grows-trans c mid.context between.context grows h.grows) one.refuses.earlier;
      refused = subst (λ (q : State × Tree). ClauseWasRefused (judge_of (fixed new)) one.refuses.context q.0 (resolved_tree q.0 q.1)) (λ n. (t n, same n)) one.refuses.refused;
    })

-- A probe that was open meanwhile, in which nothing was pending at first, changes nothing of it.
pub clause-probed : (old began ran new : Evaluator) (T : State) (a b : ImplId) (w : WhereClause) → began.context ≡ old.context → fixed began ≡ fixed old → state began ≡ T → fixed new ≡ fixed ran
    → IfDeclared began.context a b (ClauseIsRefused began (state began) ran a b w) → IfDeclared old.context a b (ClauseIsRefused old T new a b w)
clause-probed old began ran new T a b w cx f s g h i j x y =
    let z = sym g in
    let k = h i j (ap (λ (c : Context). impl_at c a) cx ∙ x) (ap (λ (c : Context). impl_at c b) cx ∙ y) in
    record {
      after = k.after;
      equal = subst (λ (q : Fixed × Context × State). MakesHeadersEqual (judge_of q.0) q.1 q.2 i j k.after) (λ n. (f n, cx n, s n)) k.equal;
      side = k.side;
      of = k.of;
      clause = k.clause;
      is = k.is;
      context = k.context;
      earlier = subst (λ (c : Context). Grows c k.context) cx k.earlier;
      refused = subst (λ (q : Fixed × Context × State). ClauseWasRefused (judge_of q.0) k.context (aside k.after) (clause_at q.1 (aside k.after) (locals_on k.side q.2 i j) k.clause)) (λ n. (z n, cx n, s n)) k.refused;
    }

-- What was said of a pair's clause by an evaluator, said by one that has the same fixed parts.

here-left : (old ran new : Evaluator) (t : Tree) → fixed new ≡ fixed ran → RefusesHere old ran t → RefusesHere old new t
here-left old ran new t f h = record {
  context = h.context;
  earlier = h.earlier;
  refused = subst (λ x. ClauseWasRefused (judge_of x) h.context (state old) (resolved_tree (state old) t)) (sym f) h.refused;
}

pub pair-left : (old ran new : Evaluator) (p : Pair) (w : WhereClause) → fixed new ≡ fixed ran → RefusesOfPair old ran p w → RefusesOfPair old new p w
pair-left old ran new p w f h =
    let one = h.refuses in
    record {
      side = h.side;
      of = h.of;
      refuses = record {
        clause = one.clause;
        is = one.is;
        refuses = here-left old ran new (substituted_tree (args_forest old.context.trees (opened_on h.side p).locals) (clause_tree old.context.trees one.clause)) f one.refuses;
      };
    }
