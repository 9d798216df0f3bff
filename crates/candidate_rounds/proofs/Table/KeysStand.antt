-- Goals of the table stand where they are computed, as derivations ask it: variables and regions in them are leaves, and each has a self type.
use Rattle.std.proofs.Common.{◌≡◌, true, Option, Some, None, List, [], ◌∷◌, refl, sym, ◌∙◌, subst}
use Rattle.std.specs.List.{All}
use Rattle.std.proofs.lemmas.List.Elements.{All-cons, All-nil}
use Rattle.ir_trees.specs.declared.ir.heads.ClauseHead.TheVariants as Cl
use Rattle.ir_trees.specs.declared.ir.heads.Head.{Head}
use Rattle.ir_trees.specs.declared.ir.heads.Head.TheVariants as H
use Rattle.ir_trees.specs.declared.ir.heads.PartHead.TheVariants as P
use Rattle.ir_trees.specs.declared.ir.kinds.ParamEnv.{ParamEnv}
use Rattle.ir_trees.specs.declared.ir.kinds.Ty.{Ty}
use Rattle.ir_trees.specs.Declarations.Context.{Context, world}
use Rattle.ir_trees.specs.Declarations.References.{FitsAmong, IsWellFormed}
use Rattle.ir_trees.specs.Declarations.Worlds.{Fits, TraitSort, World, joined, kinds_of, parameters}
use Rattle.ir_trees.specs.Hierarchy.Supers.{after_first}
use Rattle.ir_trees.specs.Syntax.Trees.{BinderKind, Forest, Kind, Tree, TypeKind, join, none, row, tree}
use Rattle.ir_trees.specs.Syntax.Nodes.{tree_at}
use Rattle.ir_trees.specs.Syntax.Words.{IsParamEnv, clause_tree, env_forest, ty_tree}
use Rattle.ir_trees.proofs.Kinding.References.{fit-at}
use Rattle.ir_trees.proofs.Syntax.Rows.{join-none, row-list, row-single}
use Rattle.candidate_eval.specs.declared.eval.mode.TypingMode.{TypingMode}
use Rattle.candidate_eval.specs.Judges.Soundness.{AreLeaves}
use Rattle.candidate_eval.specs.Judges.States.{is_some}
use Rattle.candidate_eval.specs.Dynamic.ObjectRequirements.{first_tree, trait_said}
use Rattle.candidate_assembly.specs.Laws.SuperLaws.{IsFitting}
use Rattle.candidate_assembly.proofs.Objects.SuperLaws.{first_fits}
use Rattle.candidate_assembly.proofs.Refusals.KnownHeaders.{fits-leaves}
use Rattle.rounds_judge.specs.Table.GoalTable.{Entry}
use Rattle.rounds_judge.specs.Table.Keys.{Key}
use Rattle.derivations.proofs.Fitting.{ListedFit}
use Rattle.derivations.proofs.Rounds.{Begins, KeyStands}
use Rattle.candidate_rounds.specs.Evaluators.Known.{AreTypes, listing_of, pairs_of}
use Rattle.candidate_rounds.specs.Table.Entries.{GoalEntry}
use Rattle.candidate_rounds.specs.Table.Goals.{Each, IsEntryOf, IsKeyOf, Via, entry_seen, key_seen, table_seen}
use Rattle.candidate_rounds.specs.declared.rounds.goals.GoalKey.{GoalKey}
use Rattle.candidate_rounds.proofs.Table.Keying.{arguments-seen, env-seen}
use Rattle.candidate_rounds.proofs.Table.Starting.{key-stands}

-- The members of an environment fit what is declared.
env-fits : (c : Context) (e : ParamEnv) → IsWellFormed c → IsParamEnv c.trees e → Fits (world c) (env_forest c.trees e)
env-fits c e f i =
    let members : row (tree_at c.trees e.0) none ≡ join (tree_at c.trees e.0).children none =
    row-list c.trees e.0 _ none refl refl i in
    subst (Fits (world c)) (members ∙ join-none (tree_at c.trees e.0).children) (fit-at (world c) c.trees f e.0)

-- What a clause says of a trait fits, and begins with a self type.
record SaysFitting (w : World) (ts : Forest) : Type 0 where
  fits : Fits w ts
  begins : Begins ts

after-binder : (w : World) (o : Option (List Kind)) (below : Forest) → joined (Some (BinderKind ∷ [])) (joined (Some (TypeKind ∷ [])) o) ≡ Some (kinds_of below) → Fits w below → SaysFitting w (after_first below)
after-binder w None below e f = absurd cc
after-binder w (Some ks) none e f = absurd cc
after-binder w (Some ks) (tree h a none) e f = absurd cc
after-binder w (Some ks) (tree h a (tree g b r)) e f = record { fits = f.2; begins = record { head = g; below = b; rest = r; is = refl } }

clause-fits : (w : World) (h : Head) (below : Forest) → FitsAmong w (record { head = h; children = below }) → is_some (trait_said h) ≡ true → SaysFitting w (after_first below)
clause-fits w (H.Part (P.Clause (Cl.Trait i p))) below f e = after-binder w (parameters w TraitSort i.0) below f.0 f.1
clause-fits w _ below f e = absurd cc

-- A goal of a key stands, and its self type fits what is declared.
pub record KeyFits (w : World) (m : TypingMode) (k : Key) : Type 0 where
  pub stands : KeyStands m k
  pub self_type : IsFitting w (first_tree k.goal.reference.arguments)

module _ (c : Context) (fit : IsWellFormed c) (m : TypingMode) where
  pub key-stands-there : (k : GoalKey) → IsKeyOf c.trees k → KeyFits (world c) m (key_seen c.trees k)
  key-stands-there k i =
      let g = k.goal in
      let t = clause_tree c.trees g.predicate in
      let said = clause-fits (world c) t.head t.children (fit-at (world c) c.trees fit g.predicate.0) i.goal.says.is_trait in
      let stands : KeyStands m (key_seen c.trees k) = record {
        stands = key-stands m (key_seen c.trees k) (key_seen c.trees k).goal i.asked refl;
        env_leaves = subst AreLeaves (sym (env-seen c.trees g)) (fits-leaves (world c) (env_forest c.trees g.param_env) (env-fits c g.param_env fit i.goal.goal.0));
        leaves = subst AreLeaves (sym (arguments-seen c.trees g)) (fits-leaves (world c) (after_first t.children) said.fits);
        begins = subst Begins (sym (arguments-seen c.trees g)) said.begins;
      } in
      record { stands = stands; self_type = first_fits (world c) (key_seen c.trees k).goal.reference.arguments (subst (Fits (world c)) (sym (arguments-seen c.trees g)) said.fits) }

  -- All keys of a table do.
  pub keys-stand : (es : List GoalEntry) → Each (IsEntryOf c.trees) es → All (λ (e : Entry Via). KeyFits (world c) m e.key) (table_seen c.trees es)
  keys-stand [] h = All-nil (λ (e : Entry Via). KeyFits (world c) m e.key)
  keys-stand (e ∷ es) h = All-cons (λ (x : Entry Via). KeyFits (world c) m x.key) (entry_seen c.trees e) (table_seen c.trees es) (key-stands-there e.0 h.0.key) (keys-stand es h.1)

-- Each type that is listed fits, too.
pub listed-fit : (c : Context) → IsWellFormed c → (ps : List (Ty × Ty)) → Each (AreTypes c.trees) ps → ListedFit (world c) (listing_of c.trees ps)
listed-fit c fit [] types = All-nil (λ (p : Tree × Tree). IsFitting (world c) p.1)
listed-fit c fit (p ∷ ps) types =
    let there = subst (Fits (world c)) (row-single c.trees p.1.0 TypeKind none refl refl types.0.1) (fit-at (world c) c.trees fit p.1.0) in
    All-cons (λ (q : Tree × Tree). IsFitting (world c) q.1) (ty_tree c.trees p.0, ty_tree c.trees p.1) (pairs_of c.trees ps) (record { takes = there.0; below = there.1 }) (listed-fit c fit ps types.1)
