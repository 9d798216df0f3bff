-- Instances of the headers of two impls, from what is said where they are open to what is said of those that are declared.
use Rattle.std.proofs.Common.{◌≡◌, ◌||◌, not, Bool, true, false, List, Some, refl, sym, ap, subst, ◌∙◌, ℕ}
use Rattle.std.proofs.lemmas.Bool.{and_parts}
use Rattle.ir_trees.specs.declared.decl.contents.ImplId.{ImplId}
use Rattle.ir_trees.specs.declared.ir.kinds.TraitId.{TraitId}
use Rattle.ir_trees.specs.declared.ir.kinds.TraitRef.{TraitRef}
use Rattle.ir_trees.specs.Declarations.Context.{Context, Grows}
use Rattle.ir_trees.specs.Declarations.Contents.{Impl}
use Rattle.ir_trees.specs.Declarations.Declaring.{impl_at}
use Rattle.ir_trees.specs.Syntax.Trees.{Forest, Tree, none, holds, is_alias}
use Rattle.ir_trees.specs.Syntax.Words.{args_forest}
use Rattle.ir_trees.specs.Validity.WellFormed.{IsWellFormedTable}
use Rattle.ir_trees.proofs.Growth.Kept.{args-kept, grows-trans}
use Rattle.candidate_eval.specs.Interface.Evaluators.{accepted}
use Rattle.candidate_eval.specs.Judges.States.{State}
use Rattle.candidate_rounds.specs.Evaluators.Interface.{Fixed, fixed, judge_of}
use Rattle.candidate_rounds.specs.Evaluators.Known.{Evaluator, IsGiven, listing, state, sure_of}
use Rattle.candidate_rounds.specs.Evaluators.Leaking.{Leaks}
use Rattle.candidate_rounds.specs.Table.Goals.{Via}
use Rattle.candidate_rounds.proofs.Table.Noted.{sure-fixed}
use Rattle.rounds_judge.specs.Aliases.Listed.{Listing}
use Rattle.rounds_judge.specs.Equations.Opening.{are_open}
use Rattle.rounds_judge.specs.Table.GoalTable.{GoalTable}
use Rattle.overlaps.specs.Answered.{BothHold}
use Rattle.overlaps.specs.Allowed.{allowance_of_ordered}
use Rattle.overlaps.specs.Apart.{AreApart, AreOfOneTrait, AreOfOtherTraits, IfDeclared, OfDeclared, aside, opened}
use Rattle.overlaps.specs.Found.{IsFoundAt, IsFoundOfPair, IsFoundWhereEqual, IsNotAllowed}
use Rattle.overlaps.specs.Instance.{AreOneAt, BothImplsHold, CountAsEqual, HaveNoAlias, TellsLeak, IsCommonInstance, IsInstanceOfPair, IsInstanceWhereEqual, IsReferenceAt, equation_of, first_header, left_open, made_equal, second_header, unless_leaking}
use Rattle.overlaps.specs.Opening.{AreOpened}
use Rattle.overlaps.specs.Refused.{AreOpen, StaysBesideSteps, headers_equated}
use Rattle.overlaps.specs.declared.instance.CommonInstance.{CommonInstance}
use Rattle.overlaps.specs.declared.opening.Pair.{Pair}
use Rattle.overlaps.specs.declared.overlap.Overlap.{Overlap}
use Rattle.overlaps.specs.declared.overlap.Overlap.TheVariants as O
use Rattle.overlaps.proofs.PureFolder.{all-declared, both-said}
use Rattle.overlaps.proofs.Headers.{accepted-one}
use Rattle.overlaps.proofs.Pairs.{clause-declared, clause-probed, errors-alone, headers-apart, listed-leaves, pair-left, same-listing}
use Rattle.overlaps.proofs.Universes.{both-universe}

-- a reference of a header that is the same by an earlier context, at the same state
reference-said : (S T : State) (t u : TraitId) (f g : Forest) (ts : List Tree) (r : TraitRef) → T ≡ S → u ≡ t → g ≡ f → IsReferenceAt T u g ts r → IsReferenceAt S t f ts r
reference-said S T t u f g ts r s o e h = subst (λ (q : State × TraitId × Forest). IsReferenceAt q.0 q.1 q.2 ts r) (λ i. (s i, o i, e i)) h

-- what was said of headers by a later context
no-alias-before : (old new : Context) (p : Pair) → Grows old new → AreOpen old.trees p → HaveNoAlias (args_forest new.trees p.first.header) (args_forest new.trees p.second.header)
    → HaveNoAlias (args_forest old.trees p.first.header) (args_forest old.trees p.second.header)
no-alias-before old new p g known h =
    let f = (args-kept old new p.first.header g known.0.1).1 in
    let s = (args-kept old new p.second.header g known.1.1).1 in
    subst (λ (q : Forest × Forest). HaveNoAlias q.0 q.1) (λ i. (f i, s i)) h

-- Headers are equal, and clauses were answered then, of which this evaluator is left: an instance where they are.
pub instance-where-equal : (old mid between new : Evaluator) (p : Pair) (x : CommonInstance) (b : _) → StaysBesideSteps old mid → StaysBesideSteps mid between → sure_of new ≡ sure_of mid → AreOpen old.context.trees p
    → (b ≡ true → BothHold mid.context.trees (sure_of mid) (state mid) p) → (b ≡ true → HaveNoAlias (args_forest mid.context.trees p.first.header) (args_forest mid.context.trees p.second.header)) → x.is_certain ≡ b
    → IsReferenceAt (state between) p.first.def_id (args_forest between.context.trees p.first.header) new.context.trees x.trait_ref → IsInstanceWhereEqual old new (state old) p x
instance-where-equal old mid between new p x b one two sure known hold plain certain at =
    let g = sym sure in
    let s = one.state_same in
    let header = (args-kept old.context between.context p.first.header (grows-trans old.context mid.context between.context one.grows two.grows) known.0.1).1 in
    record {
      is = reference-said (state old) (state between) p.first.def_id p.first.def_id (args_forest old.context.trees p.first.header) (args_forest between.context.trees p.first.header) new.context.trees x.trait_ref (two.state_same ∙ s) refl
          header at;
      hold = λ e.
          both-said old.context mid.context (sure_of new) (state old) p one.grows known
          (subst (λ (q : GoalTable Via × State). BothHold mid.context.trees q.0 q.1 p) (λ i. (g i, s i)) (hold (sym certain ∙ e)));
      no_alias = λ e. no-alias-before old.context mid.context p one.grows known (plain (sym certain ∙ e));
    }

-- Where an alias stands in a header, and decides nothing, nothing is made equal.
pub instance-with-aliases : (old new : Evaluator) (p : Pair) (x : CommonInstance) → are_open (listing old) (state old) ≡ false → holds is_alias (args_forest old.context.trees p.first.header) || holds is_alias (args_forest old.context.trees p.second.header) ≡ true
    → x.is_certain ≡ false → x.leaks ≡ false → IsReferenceAt (state old) p.first.def_id (args_forest old.context.trees p.first.header) new.context.trees x.trait_ref → IsInstanceOfPair old new p x
instance-with-aliases old new p x rigid alias unsure untold at = record {
  after = state old;
  equal = left_open rigid alias refl;
  at = record { is = record { of_trait = at.of_trait; sort = at.sort; is = at.is }; hold = λ e. never e; no_alias = λ e. never e };
  no_leak = λ e. never e;
  leak = λ e. absurd (let no : false ≡ true = sym untold ∙ e in cc);
  leaks_not = λ plain e. absurd (let no : false ≡ true = sym (none-there plain) ∙ alias in cc);
}
  where
    none-there : HaveNoAlias (args_forest old.context.trees p.first.header) (args_forest old.context.trees p.second.header)
        → holds is_alias (args_forest old.context.trees p.first.header) || holds is_alias (args_forest old.context.trees p.second.header) ≡ false
    none-there plain = rw (plain.first, plain.second) refl

    never : {A : Type 0} → x.is_certain ≡ true → A
    never e = absurd (let no : false ≡ true = sym unsure ∙ e in cc)

-- An instance where headers are equal, in a probe that began then with nothing pending, and that has ended.
instance-aside : (old began ran new : Evaluator) (p : Pair) (x : CommonInstance) (after : State) → Grows old.context began.context → AreOpen old.context.trees p → state began ≡ aside after → fixed new ≡ fixed ran
    → new.context ≡ ran.context → IsInstanceWhereEqual began ran (state began) p x → IsInstanceWhereEqual old new (aside after) p x
instance-aside old began ran new p x after g known s f n h =
    let z : (ran.context ≡ new.context) = sym n in
    let t : sure_of ran ≡ sure_of new = sym (sure-fixed f) in
    let k = reference-said (aside after) (state began) p.first.def_id p.first.def_id (args_forest old.context.trees p.first.header) (args_forest began.context.trees p.first.header) ran.context.trees x.trait_ref s refl
    (args-kept old.context began.context p.first.header g known.0.1).1 h.is in
    record {
      is = subst (λ (c : Context). IsReferenceAt (aside after) p.first.def_id (args_forest old.context.trees p.first.header) c.trees x.trait_ref) z k;
      hold = λ e.
          both-said old.context began.context (sure_of new) (aside after) p g known
          (subst (λ (q : GoalTable Via × State). BothHold began.context.trees q.0 q.1 p) (λ i. (t i, s i)) (h.hold e));
      no_alias = λ e. no-alias-before old.context began.context p g known (h.no_alias e);
    }

-- What is found is so where it is told whether a region leaks.
pub unless-found : (old new : Evaluator) (p : Pair) (leaks : Bool) (o : Overlap) → IsFoundWhereEqual old new p o → IsFoundWhereEqual old new p (unless_leaking leaks o) × TellsLeak leaks (unless_leaking leaks o)
unless-found old new p leaks O.NoCommonTrait h = (h, tt)
unless-found old new p leaks (O.Allowed w) h = (h, tt)
unless-found old new p leaks O.DisjointHeaders h = (h, tt)
unless-found old new p leaks (O.DisjointClause w) h = (h, tt)
unless-found old new p leaks (O.May x) h = (
  record {
    is = record { of_trait = h.is.of_trait; sort = h.is.sort; is = h.is.is };
    hold = λ e. h.hold (and_parts x.is_certain (not leaks) e).0;
    no_alias = λ e. h.no_alias (and_parts x.is_certain (not leaks) e).0;
  },
  ((λ e. isnt leaks (and_parts x.is_certain (not leaks) e).1), refl),
)
  where
    isnt : (b : Bool) → not b ≡ true → b ≡ false
    isnt false e = refl
    isnt true e = absurd cc

-- What is found where the headers are equal, by what their equation left.
pub found-of-pair : (old began ran new : Evaluator) (p : Pair) (after : State) → Grows old.context began.context → AreOpen old.context.trees p → headers_equated old p ≡ Some after → (leaks : Bool)
    → (leaks ≡ true → Leaks (state old).newest_universe after) → (leaks ≡ false → Leaks (state old).newest_universe after → ⊥) → state began ≡ aside after → fixed new ≡ fixed ran
    → new.context ≡ ran.context → (o : Overlap)
    → IsFoundWhereEqual began ran p o × TellsLeak leaks o → IsFoundOfPair old new p o
found-of-pair old began ran new p after g known equal leaks leak kept s f n O.NoCommonTrait h = absurd h.0
found-of-pair old began ran new p after g known equal leaks leak kept s f n (O.Allowed w) h = absurd h.0
found-of-pair old began ran new p after g known equal leaks leak kept s f n O.DisjointHeaders h = absurd h.0
found-of-pair old began ran new p after g known equal leaks leak kept s f n (O.DisjointClause w) h =
    record { after = after; equal = equal; between = began; grows = g; is_aside = s; refused = pair-left began ran new p w f h.0 }
found-of-pair old began ran new p after g known equal leaks leak kept s f n (O.May x) h =
    record { after = after; equal = made_equal equal; at = instance-aside old began ran new p x after g known s f n h.0; no_leak = λ e. kept (h.1.0 e); leak = λ e. leak (sym h.1.1 ∙ e); leaks_not = λ plain e. kept (sym h.1.1 ∙ e) }

-- It isn't that what is declared allows an overlap.
pub found-decides : (old new : Evaluator) (p : Pair) (o : Overlap) → IsFoundOfPair old new p o → IsNotAllowed o
found-decides old new p O.NoCommonTrait h = tt
found-decides old new p (O.Allowed w) h = h
found-decides old new p O.DisjointHeaders h = tt
found-decides old new p (O.DisjointClause w) h = tt
found-decides old new p (O.May x) h = tt

-- Headers that count as equal are one, unless an alias stands in one.
counted-one : (r : Evaluator) (c : Context) → IsWellFormedTable c → (S after : State) (a b : ImplId) (i j : Impl) → impl_at c a ≡ Some i → impl_at c b ≡ Some j
    → CountAsEqual (are_open (listing r) (opened (opened S i) j)) (equation_of (judge_of (fixed r)) c S i j) (opened (opened S i) j) (first_header c S i j) (second_header c S i j) after → AreOneAt after (first_header c S i j) (second_header c S i j)
counted-one r c table S after a b i j first second (made_equal e) plain =
    accepted-one (judge_of (fixed r)) (errors-alone (fixed r)) c table S after a b i j first second none e plain.first plain.second
counted-one r c table S after a b i j first second (left_open rigid alias same) plain =
    let none-there : holds is_alias (first_header c S i j) || holds is_alias (second_header c S i j) ≡ false = rw (plain.first, plain.second) refl in
    let both : true ≡ false = sym alias ∙ none-there in
    absurd cc

-- What is found of two impls that were opened, by those that are declared.

module _ (old mid new : Evaluator) (a b : ImplId) (p : Pair) (grows : Grows old.context mid.context) (same : fixed mid ≡ fixed old) (o : AreOpened old.context (state old) a b mid.context (state mid) p) where
  abbrev c : Context
  c = old.context

  abbrev S : State
  S = state old

  instance-declared : IsWellFormedTable c → AreOfOneTrait c a b → (x : CommonInstance) → IsInstanceOfPair mid new p x → OfDeclared c a b (IsCommonInstance old S new x)
  instance-declared table one x h =
      let s = o.left_is in
      let f = o.first.header in
      let g = o.second.header in
      let equal = subst (λ (q : Fixed × State × Forest × Forest). CountAsEqual (are_open q.0.listing q.1) (accepted (judge_of q.0) q.1 none q.2 q.3) q.1 q.2 q.3 h.after) (λ i. (same i, s i, f i, g i)) h.equal in
      record {
        i = o.i;
        j = o.j;
        first_is = o.first_is;
        second_is = o.second_is;
        holds = record {
          one_trait = one o.i o.j o.first_is o.second_is;
          after = h.after;
          equal = equal;
          one = counted-one old c table S h.after a b o.i o.j o.first_is o.second_is equal;
          is = reference-said (aside h.after) (aside h.after) o.i.trait_ref.def_id p.first.def_id (first_header c S o.i o.j) (args_forest mid.context.trees p.first.header) new.context.trees x.trait_ref refl o.first.of_trait f h.at.is;
          certain = λ e. record {
            no_alias = subst (λ (q : Forest × Forest). HaveNoAlias q.0 q.1) (λ i. (f i, g i)) (h.at.no_alias e);
            first = all-declared c mid.context (sure_of new) S (aside h.after) o.i p.first grows o.first (h.at.hold e).first;
            second = all-declared c mid.context (sure_of new) (opened S o.i) (aside h.after) o.j p.second grows o.second (h.at.hold e).second;
          };
          no_leak = λ e l. h.no_leak e (subst (λ (u : ℕ). Leaks u h.after) (sym (ap (λ (U : State). U.newest_universe) s ∙ both-universe S o.i o.j)) l);
          leak = λ e. subst (λ (u : ℕ). Leaks u h.after) (ap (λ (U : State). U.newest_universe) s ∙ both-universe S o.i o.j) (h.leak e);
          leaks_not = λ plain e l.
              h.leaks_not (subst (λ (q : Forest × Forest). HaveNoAlias q.0 q.1) (λ i. (sym f i, sym g i)) plain) e
              (subst (λ (u : ℕ). Leaks u h.after) (sym (ap (λ (U : State). U.newest_universe) s ∙ both-universe S o.i o.j)) l);
        };
      }

  pub found-here : IsWellFormedTable c → IsGiven c.trees old.normal.pairs old.opaques → AreOfOneTrait c a b → (x : Overlap) → IsFoundOfPair mid new p x → IsFoundAt old S new a b x
  found-here table given one O.NoCommonTrait h = absurd h
  found-here table given one (O.Allowed w) h = absurd h
  found-here table given one O.DisjointHeaders h =
      headers-apart c S a b mid p o (listing old) given.listing (listed-leaves c table old.normal.pairs given.types) (same-listing old mid given same) table h
  found-here table given one (O.DisjointClause w) h = clause-declared old mid new a b p w grows same o h
  found-here table given one (O.May x) h = instance-declared table one x h

-- A probe that was open meanwhile, in which nothing was pending at first, changes nothing of it.
instance-probed : (old began ran new : Evaluator) (T : State) (a b : ImplId) (x : CommonInstance) → began.context ≡ old.context → fixed began ≡ fixed old → state began ≡ T → fixed new ≡ fixed ran
    → new.context ≡ ran.context → OfDeclared began.context a b (IsCommonInstance began (state began) ran x) → OfDeclared old.context a b (IsCommonInstance old T new x)
instance-probed old began ran new T a b x cx f s g n h =
    let k = h.holds in
    let z : (ran.context ≡ new.context) = sym n in
    let t : sure_of ran ≡ sure_of new = sym (sure-fixed g) in
    record {
      i = h.i;
      j = h.j;
      first_is = ap (λ (c : Context). impl_at c a) (sym cx) ∙ h.first_is;
      second_is = ap (λ (c : Context). impl_at c b) (sym cx) ∙ h.second_is;
      holds = record {
        one_trait = k.one_trait;
        after = k.after;
        equal = subst
            (λ (q : Fixed × Context × State). CountAsEqual (are_open q.0.listing (opened (opened q.2 h.i) h.j)) (equation_of (judge_of q.0) q.1 q.2 h.i h.j) (opened (opened q.2 h.i) h.j) (first_header q.1 q.2 h.i h.j) (second_header q.1 q.2 h.i h.j) k.after)
            (λ i. (f i, cx i, s i)) k.equal;
        one = subst (λ (q : Context × State). AreOneAt k.after (first_header q.0 q.1 h.i h.j) (second_header q.0 q.1 h.i h.j)) (λ i. (cx i, s i)) k.one;
        is = subst (λ (q : Context × State × Context). IsReferenceAt (aside k.after) h.i.trait_ref.def_id (first_header q.0 q.1 h.i h.j) q.2.trees x.trait_ref) (λ i. (cx i, s i, z i)) k.is;
        certain = λ e. subst (λ (q : Context × GoalTable Via × State). BothImplsHold q.0 q.1 q.2 (aside k.after) h.i h.j) (λ i. (cx i, t i, s i)) (k.certain e);
        no_leak = λ e l. k.no_leak e (subst (λ (U : State). Leaks U.newest_universe k.after) (sym s) l);
        leak = λ e. subst (λ (U : State). Leaks U.newest_universe k.after) s (k.leak e);
        leaks_not = λ plain e l.
            k.leaks_not (subst (λ (q : Context × State). HaveNoAlias (first_header q.0 q.1 h.i h.j) (second_header q.0 q.1 h.i h.j)) (λ i. (sym cx i, sym s i)) plain) e
            (subst (λ (U : State). Leaks U.newest_universe k.after) (sym s) l);
      };
    }

pub found-probed : (old began ran new : Evaluator) (T : State) (a b : ImplId) → began.context ≡ old.context → fixed began ≡ fixed old → state began ≡ T → fixed new ≡ fixed ran
    → new.context ≡ ran.context → (o : Overlap) → IsFoundAt began (state began) ran a b o → IsFoundAt old T new a b o
found-probed old began ran new T a b cx f s g n O.NoCommonTrait h = subst (λ (c : Context). AreOfOtherTraits c a b) cx h
found-probed old began ran new T a b cx f s g n (O.Allowed w) h = subst (λ (c : Context). allowance_of_ordered c a b ≡ Some w) cx h
found-probed old began ran new T a b cx f s g n O.DisjointHeaders h =
    let l : listing began ≡ listing old = ap (λ (y : Fixed). y.listing) f in
    subst (λ (q : Context × Listing × State). IfDeclared q.0 a b (AreApart q.0 q.1 q.2)) (λ i. (cx i, l i, s i)) h
found-probed old began ran new T a b cx f s g n (O.DisjointClause w) h = clause-probed old began ran new T a b w cx f s g h
found-probed old began ran new T a b cx f s g n (O.May x) h = instance-probed old began ran new T a b x cx f s g n h
