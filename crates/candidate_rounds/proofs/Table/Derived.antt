-- A round or a step that reads a derived table leaves one.
use Rattle.std.proofs.Common.{◌≡◌, Option, Some, None, List, [], ◌++◌, map, refl, sym, ◌∙◌, ap, subst}
use Rattle.std.specs.List.{All, Contains}
use Rattle.std.proofs.lemmas.List.Elements.{All-contains, All-contains_itself, All-weaker}
use Rattle.ir_trees.specs.Declarations.Context.{Context, Grows, world}
use Rattle.ir_trees.specs.Declarations.References.{IsWellFormed}
use Rattle.ir_trees.specs.Syntax.Trees.{Tree}
use Rattle.ir_trees.specs.Validity.WellFormed.{IsWellFormedTable}
use Rattle.ir_trees.proofs.Growth.Kept.{grows-trans, world-kept}
use Rattle.candidate_eval.specs.declared.eval.certainty.Certainty.{Certainty}
use Rattle.candidate_eval.specs.declared.eval.certainty.Certainty.TheVariants as C
use Rattle.candidate_eval.specs.Dynamic.ObjectRequirements.{first_tree}
use Rattle.candidate_eval.specs.Judges.Lawful.{Lawful}
use Rattle.candidate_eval.specs.Outcomes.Responses.{Candidate, Response}
use Rattle.candidate_assembly.specs.declared.assembly.opaques.AssembleCandidatesFrom.TheVariants.{All as FromAll}
use Rattle.candidate_assembly.specs.Answers.Listing.{Lists}
use Rattle.candidate_assembly.specs.Goals.TraitRules.{trait_bounds, trait_rules}
use Rattle.candidate_assembly.specs.Laws.Given.{IsCounted}
use Rattle.candidate_assembly.specs.Laws.SuperLaws.{IsFitting}
use Rattle.candidate_assembly.proofs.Answers.SureAnswers.{IsProvedThere, list-proves, yes-is-proved}
use Rattle.rounds_judge.specs.Aliases.Listed.{Listing}
use Rattle.rounds_judge.specs.Aliases.Normalizing.{normalized}
use Rattle.rounds_judge.specs.Aliases.WellListed.{well_listed}
use Rattle.rounds_judge.specs.Table.GoalTable.{Entry, GoalTable, well_entered}
use Rattle.rounds_judge.specs.Table.Keys.{Key, start_of}
use Rattle.rounds_judge.specs.Table.Rounds.{IsWriting, Stays}
use Rattle.rounds_judge.specs.Table.Verdicts.{Answer, by_certainty, verdict_of}
use Rattle.rounds_judge.proofs.Aliases.WellListed.{all-listed, well-listed}
use Rattle.rounds_judge.proofs.Lawfulness.TableLawful.{table_keeps_the_laws}
use Rattle.derivations.specs.Clean.{IsClean}
use Rattle.derivations.specs.DerivedTables.{AreDerived, EachIsDerived, ListedAreClean, TableIsDerived, VerdictIsDerived, YesIsDerived}
use Rattle.derivations.proofs.Declared.{counted_grown, derived_parts, each_grown, of_derived_parts, read_derived, table_grown}
use Rattle.derivations.proofs.Fitting.{ListedFit, normal_fits}
use Rattle.derivations.proofs.Rounds.{resolved_first, proved_derived as proved_here}
use Rattle.derivations.proofs.Tables.{round_clean, round_derives}
use Rattle.candidate_rounds.specs.Evaluators.Interface.{Fixed, fixed, judge_of}
use Rattle.candidate_rounds.specs.Evaluators.Known.{Evaluator, IsEvaluator, IsGiven, listing, table_of}
use Rattle.candidate_rounds.specs.Table.Entries.{all_written_into, new_entry}
use Rattle.candidate_rounds.specs.Table.Goals.{Via}
use Rattle.candidate_rounds.specs.declared.rounds.writing.Written.{Written}
use Rattle.candidate_rounds.specs.Table.Steps.{IsListed}
use Rattle.candidate_rounds.specs.Table.Running.{AreWritten, StaysBesideTable, computing, with_table}
use Rattle.candidate_rounds.proofs.Evaluators.Between.{parts}
use Rattle.candidate_rounds.proofs.Table.KeysStand.{KeyFits, keys-stand, listed-fit}
use Rattle.candidate_rounds.proofs.Table.Rounding.{evaluator-written, round-written}
use Rattle.candidate_rounds.proofs.Table.Tabled.{table-parts}

-- What is listed stays beside the table, and so does what is derived.

pub listing-beside : {r s : Evaluator} → StaysBesideTable r s → listing s ≡ listing r
listing-beside h = ap (λ (f : Fixed). f.listing) h.fixed_same

pub derived-beside : (r s : Evaluator) → StaysBesideTable r s → (T : GoalTable Via) → TableIsDerived r.context (listing r) T → TableIsDerived s.context (listing s) T
derived-beside r s h T d = subst (λ l. TableIsDerived s.context l T) (sym (listing-beside h)) (table_grown r.context s.context h.grows (listing r) T d)

pub each-beside : (r s : Evaluator) → StaysBesideTable r s → (T : GoalTable Via) → EachIsDerived r.context (listing r) T → EachIsDerived s.context (listing s) T
each-beside r s h T d = subst (λ l. EachIsDerived s.context l T) (sym (listing-beside h)) (each_grown r.context s.context h.grows (listing r) T d)

module _ (r : Evaluator) (fit : IsWellFormed r.context) (few : IsCounted r.context) (given : IsGiven r.context.trees r.normal.pairs r.opaques) (d : Context) (well : IsWellFormedTable d) (grows : Grows d r.context)
    (tidy : ListedAreClean (listing r)) where
  -- What is proved of a key's goal by a derived table is derived.
  proved-derived : (T : GoalTable Via) → AreDerived d (listing r) T → (k : Key) → KeyFits (world r.context) r.mode k → IsClean k.goal.reference.arguments → (c : Context) → Grows r.context c → IsWellFormedTable c → (x : Response)
      → IsProvedThere (judge_of (with_table (fixed r) T)) c (start_of r.mode k) k.goal x → x.certainty ≡ C.Yes → YesIsDerived d (listing r) k x
  proved-derived T derived k good clean c g w x proved sure =
      subst (λ (l : Listing). YesIsDerived d l k x) same
      (proved_here f.world f.local_crate f.limits (well_listed f.listing) f.opaques (well_entered T) (well-listed f.listing) (table_keeps_the_laws f.world f.local_crate f.limits f.listing f.opaques T) d
      (subst (λ (l : Listing). AreDerived d l (well_entered T)) (sym same) (read_derived d (listing r) T derived)) r.mode k good.stands (subst ListedAreClean (sym same) tidy) clean c (grows-trans d r.context c grows g) w (counted_grown r.context c g few) fits x proved sure)
    where
      f : Fixed
      f = fixed r

      same : well_listed f.listing ≡ listing r
      same = all-listed (listing r) given.listing

      worlds : world c ≡ world r.context
      worlds = (world-kept r.context c g).0

      fits : (t : Tree) → normalized (well_listed f.listing) (start_of r.mode k) k.goal.env (first_tree k.goal.reference.arguments) ≡ Some (t, start_of r.mode k) → IsFitting (world c) t
      fits t e =
          subst (λ w. IsFitting w t) (sym worlds)
          (normal_fits (world r.context) (well_listed f.listing) (subst (ListedFit (world r.context)) (sym same) (listed-fit r.context fit r.normal.pairs given.types)) (start_of r.mode k) k.goal.env (first_tree k.goal.reference.arguments) t
          (subst (IsFitting (world r.context)) (sym (resolved_first r.mode k k.goal.reference.arguments)) good.self_type) e)

  -- the judge that reads the table keeps the laws
  lawful-there : (T : GoalTable Via) → Lawful (judge_of (with_table (fixed r) T))
  lawful-there T = let f : Fixed = fixed r in table_keeps_the_laws f.world f.local_crate f.limits f.listing f.opaques T

  -- what is asked of a key
  abbrev pub Good : Key → Type 0
  Good k = KeyFits (world r.context) r.mode k × IsClean k.goal.reference.arguments

  -- What the goal of a key comes to by a derived table is derived.
  pub computed-derived : (T : GoalTable Via) → AreDerived d (listing r) T → (k : Key) (a : Answer Via) → Good k → computing r T k a → VerdictIsDerived d (listing r) k (Some (verdict_of a))
  computed-derived T derived k None stands h = tt
  computed-derived T derived k (Some a) good h = at a.0.certainty refl
    where
      at : (y : Certainty) → a.0.certainty ≡ y → VerdictIsDerived d (listing r) k (Some (by_certainty y a.0 a.1))
      at C.Yes e =
          let proved = yes-is-proved (judge_of (with_table (fixed r) T)) (lawful-there T) h.context (start_of r.mode k) k.goal h.left a.0 a.1 h.comes e in
          proved-derived T derived k good.0 good.1 h.context h.grows h.well_formed a.0 proved e
      at (C.Maybe i) e = tt

  -- So is each sure candidate of its list.
  pub listed-derived : (T : GoalTable Via) → AreDerived d (listing r) T → (k : Key) (xs : List Candidate) → KeyFits (world r.context) r.mode k → IsClean k.goal.reference.arguments → IsListed r T k xs → (x : Candidate) → Contains xs x → x.result.certainty ≡ C.Yes
      → YesIsDerived d (listing r) k x.result
  listed-derived T derived k xs good clean h x there sure =
      let J = judge_of (with_table (fixed r) T) in
      let each = list-proves trait_rules trait_bounds J (lawful-there T) h.context (start_of r.mode k) h.list.left k.goal FromAll (Lists xs) h.list.assembled in
      let proved = All-contains (λ (y : Candidate). y.result.certainty ≡ C.Yes → IsProvedThere J h.context (start_of r.mode k) k.goal y.result) xs x each there sure in
      proved-derived T derived k good clean h.context h.grows h.well_formed x.result proved sure

  round-left : {P : Stays Via} (T U : GoalTable Via) → IsWriting P (computing r) T U → All (λ (e : Entry Via). Good e.key) T → AreDerived d (listing r) T → AreDerived d (listing r) U
  round-left T U round keys derived = round_derives d (listing r) (computing r) Good computed-derived T U round keys derived

-- So a round or a step leaves a derived table, over the context as it is then.
pub round-derived : {P : Stays Via} (r s : Evaluator) → IsWellFormed r.context → IsCounted r.context → IsEvaluator r.context r.inference r.marks r.normal r.opaques r.goals → StaysBesideTable r s → (U : GoalTable Via) → IsWriting P (computing r) (table_of r) U
    → TableIsDerived s.context (listing s) U
round-derived r s fit few h stays U round =
    let p = parts h in
    let q = derived_parts r.context (listing r) (table_of r) p.derived in
    let KeysFit = λ (e : Entry Via). KeyFits (world r.context) r.mode e.key in
    let keys = keys-stand r.context fit r.mode r.goals.table (table-parts p.tabled).entries in
    derived-beside r s stays U
    (of_derived_parts r.context (listing r) U (record {
      declared = q.declared;
      grows = q.grows;
      well_formed = q.well_formed;
      holds = λ x.
          let before = round_clean (listing r) (computing r) (table_of r) U round x in
          let good : (e : Entry Via) → Contains (table_of r) e → Good r fit few p.given q.declared q.well_formed q.grows before.listed e.key = λ e there. (All-contains KeysFit (table_of r) e keys there, before.keys e there) in
          round-left r fit few p.given q.declared q.well_formed q.grows before.listed (table_of r) U round
          (All-weaker (Contains (table_of r)) (λ (e : Entry Via). Good r fit few p.given q.declared q.well_formed q.grows before.listed e.key) good (table_of r) (All-contains_itself (table_of r))) (q.holds before);
    }))

-- What always holds of an evaluator holds of it once it has written a round or a step.
pub left-evaluator : (P : Stays Via) (r n v : Evaluator) (ws : List (Option Written)) → IsWellFormed r.context → IsCounted r.context → IsEvaluator r.context r.inference r.marks r.normal r.opaques r.goals
    → v ≡ n → StaysBesideTable r n → table_of n ≡ table_of r → AreWritten P n.context.trees (computing r) (table_of r) (table_of r) ws → IsEvaluator v.context v.inference v.marks v.normal v.opaques v.goals
    → IsEvaluator v.context v.inference v.marks v.normal v.opaques (record v.goals { table = all_written_into v.goals.table ws ++ map new_entry v.goals.asked; asked = [] })
left-evaluator P r n v ws fit few h e stays table written k =
    let ts = v.context.trees in
    let same = ap table_of e ∙ table in
    let all = subst (λ (x : Evaluator). AreWritten P x.context.trees (computing r) (table_of r) (table_of r) ws) (sym e) written in
    let round = round-written P ts (computing r) (table_of r) v.goals ws same all (parts k).tabled in
    evaluator-written P ts (computing r) (table_of r) v.goals ws same all v.context refl v.inference v.marks v.normal v.opaques k (round-derived r v fit few h (subst (StaysBesideTable r) (sym e) stays) _ round)
