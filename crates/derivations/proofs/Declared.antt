-- What is derived by what is declared stays so: as a context grows, as goals are entered, and of what is read of a table.
use Rattle.std.proofs.Common.{sym, ◌≡◌, Bool, true, false, Option, [], ◌∷◌, ◌++◌, refl, subst, ap}
use Rattle.std.specs.Prelude.{if◌then◌else◌}
use Rattle.std.specs.List.{All, Contains}
use Rattle.std.proofs.lemmas.List.Elements.{All-append, All-cons, All-contains, All-contains_itself, All-head, All-nil, All-tail, All-weaker, Contains-append_left}
use Rattle.ir_trees.specs.Declarations.Context.{Context, Grows}
use Rattle.ir_trees.specs.Syntax.Trees.{Tree}
use Rattle.ir_trees.specs.Validity.WellFormed.{IsWellFormedTable}
use Rattle.ir_trees.specs.Instantiation.Opening.{opened_clause}
use Rattle.ir_trees.proofs.Growth.Kept.{grows-refl, grows-trans, world-kept}
use Rattle.candidate_eval.specs.Builtins.Callable.{all_but_last}
use Rattle.candidate_eval.specs.Dynamic.ObjectRequirements.{arguments_of}
use Rattle.candidate_assembly.specs.Laws.Given.{IsCounted, all_is_given}
use Rattle.candidate_assembly.proofs.Objects.ObjectLaws.{requirements_back}
use Rattle.candidate_assembly.specs.Laws.SuperLaws.{IsFitting}
use Rattle.candidate_assembly.proofs.Objects.SuperLaws.{principal_supers_back}
use Rattle.candidate_assembly.specs.Rules.ObjectBounds.{reference_by, trait_by}
use Rattle.rounds_judge.specs.Aliases.Listed.{Listing}
use Rattle.rounds_judge.specs.Table.GoalTable.{Entry, GoalTable, may_be_read, unanswered, verdict_in, well_entered}
use Rattle.rounds_judge.specs.Table.Keys.{Key, same_key}
use Rattle.rounds_judge.specs.Table.Verdicts.{Verdict}
use Rattle.rounds_judge.proofs.Table.TableKeys.{key_is}
use Rattle.derivations.specs.DerivedTables.{AnswerIsDerived, AreDerived, ByDeclared, EachIsDerived, ListedAreClean, TableIsClean, TableIsDerived, VerdictIsDerived}
use Rattle.derivations.specs.Ordinary.{IsObjectType, IsOrdinaryOf, ObjectsAreOrdinary, TypeIsOrdinary}

-- The facts taken apart and put together.

pub derived_parts : {W : Type 0} (c : Context) (l : Listing) (T : GoalTable W) → TableIsDerived c l T → ByDeclared c (λ d. TableIsClean l T → AreDerived d l T)
unfolding TableIsDerived
derived_parts c l T h = h

pub of_derived_parts : {W : Type 0} (c : Context) (l : Listing) (T : GoalTable W) → ByDeclared c (λ d. TableIsClean l T → AreDerived d l T) → TableIsDerived c l T
unfolding TableIsDerived
of_derived_parts c l T h = h

pub each_parts : {W : Type 0} (c : Context) (l : Listing) (T : GoalTable W) → EachIsDerived c l T → ByDeclared c (λ d. ListedAreClean l → AreDerived d l T)
unfolding EachIsDerived
each_parts c l T h = h

pub of_each_parts : {W : Type 0} (c : Context) (l : Listing) (T : GoalTable W) → ByDeclared c (λ d. ListedAreClean l → AreDerived d l T) → EachIsDerived c l T
unfolding EachIsDerived
of_each_parts c l T h = h

-- What is derived whatever stands in other goals is derived where nothing wrong stands in them.
pub each_table : {W : Type 0} (c : Context) (l : Listing) (T : GoalTable W) → EachIsDerived c l T → TableIsDerived c l T
each_table c l T h =
    let p = each_parts c l T h in
    of_derived_parts c l T (record { declared = p.declared; grows = p.grows; well_formed = p.well_formed; holds = λ x. p.holds x.listed })

of_answer_parts : {W : Type 0} (c : Context) (l : Listing) (T : GoalTable W) (k : Key) (v : Option (Verdict W)) → ByDeclared c (λ d. TableIsClean l T → VerdictIsDerived d l k v) → AnswerIsDerived c l T k v
unfolding AnswerIsDerived
of_answer_parts c l T k v h = h

-- A table with fewer goals is clean, if one with more is.
pub clean_among : {W : Type 0} (l : Listing) (T U : GoalTable W) → ((e : Entry W) → Contains T e → Contains U e) → TableIsClean l U → TableIsClean l T
clean_among l T U there x = record { listed = x.listed; keys = λ e h. x.keys e (there e h) }

-- A type stays ordinary as the context grows.
pub type_grown : (d c : Context) → IsWellFormedTable d → IsCounted d → Grows d c → (type : Tree) → IsObjectType c type → (IsObjectType d type → TypeIsOrdinary d type) → TypeIsOrdinary c type
type_grown d c well few grows type is o = λ supers own more required are there bare.
    let bounds = all_but_last type.children in
    let before = subst (λ w. IsFitting w type) (world-kept d c grows).0 is.fits in
    let ps = principal_supers_back d c well grows type before.below supers are in
    let n = trait_by d own.clause.head in
    let r = reference_by d own.clause in
    let here : IsOrdinaryOf c bounds n r more required =
    λ shut none asked.
    o (record { dynamic = is.dynamic; fits = before; no_parameter = is.no_parameter; is_closed = is.is_closed }) supers own more required ps.0 there bare shut none
    (requirements_back d c well grows n (arguments_of (opened_clause more r)) required ((all_is_given d well few).traits n) asked) in
    let by_reference : IsOrdinaryOf c bounds n (reference_by c own.clause) more required =
    subst (λ x. IsOrdinaryOf c bounds n x more required) (sym (ap (λ (x : Context). reference_by x own.clause) grows.same)) here in
    subst (λ m. IsOrdinaryOf c bounds m (reference_by c own.clause) more required) (sym (ap (λ (x : Context). trait_by x own.clause.head) grows.same)) by_reference

-- So does what is declared.
pub ordinary_grown : (d c : Context) → IsWellFormedTable d → IsCounted d → Grows d c → ObjectsAreOrdinary d → ObjectsAreOrdinary c
ordinary_grown d c well few grows o = λ type is. type_grown d c well few grows type is (o type)

-- Lists that are counted in one context are so in each that grew from it, and in each from which it grew.

pub counted_grown : (d c : Context) → Grows d c → IsCounted d → IsCounted c
counted_grown d c grows few = subst IsCounted (sym grows.same) (record { adts = few.adts; traits = few.traits; bounds = few.bounds })

pub counted_before : (d c : Context) → Grows d c → IsCounted c → IsCounted d
counted_before d c grows few = let back : IsCounted (record d { trees = c.trees; delayed_bugs = c.delayed_bugs }) = subst IsCounted grows.same few in record { adts = back.adts; traits = back.traits; bounds = back.bounds }

-- The context may have grown.
pub table_grown : {W : Type 0} (b c : Context) → Grows b c → (l : Listing) (T : GoalTable W) → TableIsDerived b l T → TableIsDerived c l T
table_grown b c g l T h =
    let p = derived_parts b l T h in
    of_derived_parts c l T (record { declared = p.declared; grows = grows-trans p.declared b c p.grows g; well_formed = p.well_formed; holds = p.holds })

pub each_grown : {W : Type 0} (b c : Context) → Grows b c → (l : Listing) (T : GoalTable W) → EachIsDerived b l T → EachIsDerived c l T
each_grown b c g l T h =
    let p = each_parts b l T h in
    of_each_parts c l T (record { declared = p.declared; grows = grows-trans p.declared b c p.grows g; well_formed = p.well_formed; holds = p.holds })

module _ {W : Type 0} (d : Context) (l : Listing) where
  abbrev IsDerived : Entry W → Type 0
  IsDerived e = VerdictIsDerived d l e.key e.verdict

  pub as_each : (T : GoalTable W) → AreDerived d l T → All IsDerived T
  as_each T h = All-weaker (Contains T) IsDerived h T (All-contains_itself T)

  pub as_derived : (T : GoalTable W) → All IsDerived T → AreDerived d l T
  as_derived T h = λ e there. All-contains IsDerived T e h there

  more_derived : (T : GoalTable W) (k : Key) → AreDerived d l T → AreDerived d l (T ++ unanswered k ∷ [])
  more_derived T k h = as_derived (T ++ unanswered k ∷ []) (All-append IsDerived T (unanswered k ∷ []) (as_each T h) (All-cons IsDerived (unanswered k) [] tt (All-nil IsDerived)))

  each_read : (T : GoalTable W) → All IsDerived T → All IsDerived (well_entered T)
  each_read [] h = All-nil IsDerived
  each_read (e ∷ T) h = at (may_be_read e.key e.verdict) (each_read T (All-tail IsDerived e T h))
    where
      at : (b : Bool) → All IsDerived (well_entered T) → All IsDerived (if b then e ∷ well_entered T else well_entered T)
      at true more = All-cons IsDerived e (well_entered T) (All-head IsDerived e T h) more
      at false more = more

  -- What is read of a table.
  pub read_derived : (T : GoalTable W) → AreDerived d l T → AreDerived d l (well_entered T)
  read_derived T h = as_derived (well_entered T) (each_read T (as_each T h))

  each_found : (T : GoalTable W) (k : Key) → All IsDerived T → VerdictIsDerived d l k (verdict_in T k)
  each_found [] k h = tt
  each_found (e ∷ T) k h = at (same_key e.key k) refl (each_found T k (All-tail IsDerived e T h))
    where
      at : (b : Bool) → same_key e.key k ≡ b → VerdictIsDerived d l k (verdict_in T k) → VerdictIsDerived d l k (if b then e.verdict else verdict_in T k)
      at true q more = subst (λ m. VerdictIsDerived d l m e.verdict) (key_is e.key k q) (All-head IsDerived e T h)
      at false q more = more

  -- What is written for a key.
  found_derived : (T : GoalTable W) (k : Key) → AreDerived d l T → VerdictIsDerived d l k (verdict_in T k)
  found_derived T k h = each_found T k (as_each T h)

-- A table without goals.
pub none_derived : (W : Type 0) (c : Context) (l : Listing) → IsWellFormedTable c → TableIsDerived {W = W} c l []
none_derived W c l w = of_derived_parts c l [] (record { declared = c; grows = grows-refl c; well_formed = w; holds = λ x. as_derived c l [] (All-nil (IsDerived {W = W} c l)) })

pub no_each : (W : Type 0) (c : Context) (l : Listing) → IsWellFormedTable c → EachIsDerived {W = W} c l []
no_each W c l w = of_each_parts c l [] (record { declared = c; grows = grows-refl c; well_formed = w; holds = λ x. as_derived c l [] (All-nil (IsDerived {W = W} c l)) })

-- Of fewer goals it is as of more.
pub each_among : {W : Type 0} (c : Context) (l : Listing) (T U : GoalTable W) → ((e : Entry W) → Contains U e → Contains T e) → EachIsDerived c l T → EachIsDerived c l U
each_among c l T U among h =
    let p = each_parts c l T h in
    of_each_parts c l U (record { declared = p.declared; grows = p.grows; well_formed = p.well_formed; holds = λ x e there. p.holds x e (among e there) })

-- A goal more, of which nothing is known.
pub one_unanswered : {W : Type 0} (c : Context) (l : Listing) (T : GoalTable W) (k : Key) → TableIsDerived c l T → TableIsDerived c l (T ++ unanswered k ∷ [])
one_unanswered c l T k h =
    let p = derived_parts c l T h in
    of_derived_parts c l (T ++ unanswered k ∷ []) (record { declared = p.declared; grows = p.grows; well_formed = p.well_formed; holds = λ x. more_derived p.declared l T k (p.holds (clean_among l T (T ++ unanswered k ∷ []) (λ e there. Contains-append_left T (unanswered k ∷ []) e there) x)) })

-- What a derived table says of a goal.
pub answer_derived : {W : Type 0} (c : Context) (l : Listing) (T : GoalTable W) (k : Key) → TableIsDerived c l T → AnswerIsDerived c l T k (verdict_in T k)
answer_derived c l T k h =
    let p = derived_parts c l T h in
    of_answer_parts c l T k (verdict_in T k) (record { declared = p.declared; grows = p.grows; well_formed = p.well_formed; holds = λ x. found_derived p.declared l T k (p.holds x) })
