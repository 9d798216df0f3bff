-- Characterisation: parts that wait while what stands below one of them is visited.
use Rattle.std.proofs.Common.{Err, List, None, Ok, Option, Result, Some, [], ap, arith, length, refl, subst, suc, sym, ℕ, ◌+◌, ◌-◌, ◌<◌, ◌∙◌, ◌∷◌, ◌++◌, ◌≡◌, ◌≤◌}
use Rattle.ir_trees.specs.declared.ir.stop.Stop.TheVariants.{Memory, NodesFull}
use Rattle.ir_trees.specs.Declarations.Context.{Context}
use Rattle.ir_trees.specs.Syntax.Nodes.{tree_at}
use Rattle.ir_trees.specs.Syntax.Trees.{none, skip, tree}
use Rattle.candidate_eval.specs.declared.eval.certainty.Certainty.{Certainty}
use Rattle.candidate_eval.specs.declared.eval.refusal.NoSolutionOrStop.{NoSolutionOrStop}
use Rattle.candidate_eval.specs.declared.eval.refusal.NoSolutionOrStop.TheVariants as N
use Rattle.candidate_eval.specs.Derivations.Characterization.{Walk, Goes, and_then}
use Rattle.candidate_eval.specs.Interface.Accounts.{Account}
use Rattle.candidate_eval.specs.Interface.Evaluators.{Keeps}
use Rattle.candidate_eval.specs.Interface.Unmade.{IsUnmade}
use Rattle.candidate_eval.specs.Judges.States.{Env, Judge, State}
use Rattle.candidate_eval.proofs.Frontier.Weights.{less-below, less-next, total, weighed}
use Rattle.candidate_eval.proofs.Interface.Probing.{keeps-trans}
use Rattle.candidate_assembly.specs.declared.assembly.characterize.Parts.{Parts}
use Rattle.candidate_assembly.specs.Calls.Characterizing.{AreParts, LeadsBelow, Walks, first_visited, parts_visited, rank_of, visited_at}
use Rattle.candidate_assembly.proofs.Rules.Characterizing.{ends-walk, error-ends, found-ends, found-here, making-walk, next-visited, none-visited, nothing-done, place-there, then-goes, then-then, walked-later, wide-walk}

module _ {E F : Type 0} (fixed : E → F) (probes : E → List State) (context : E → Context) (state : E → State) (stops : Account E) (judge : F → Judge) (e : Env) where
  abbrev WalksTo : E → E → Walk → Result (Option Certainty) NoSolutionOrStop → Type 0
  WalksTo = Walks fixed probes context state stops

  abbrev KeptTo : E → E → Type 0
  KeptTo = Keeps fixed probes context

  abbrev then-kept : {a b c : E} → KeptTo a b → KeptTo b c → KeptTo a c
  then-kept {a} {b} {c} = keeps-trans fixed probes context a b c

  -- the parts as they are at an evaluator
  abbrev visited_from : E → Parts → State → Walk
  visited_from a p = parts_visited (judge (fixed a)) e (context a).trees p

  abbrev MayBe : E → Parts → Type 0
  MayBe a p = AreParts (judge (fixed a)) (context a).trees p

  -- Of parts whose visit begins there, after which that follows: what has to be known for what surrounds them.
  abbrev Surrounds : Type 1
  Surrounds = E → (State → Walk) → Type 0

  -- nothing follows
  pub record IsLast (first x : E) (after : State → Walk) : Type 0 where
    pub kept : KeptTo first x
    pub ends : (S : State) → after S ≡ Goes S

  -- These parts follow, as they were when their visit began.
  pub record Waits (around : Surrounds) (p : Parts) (x : E) (after : State → Walk) : Type 0 where
    pub begun : E
    pub kept : KeptTo begun x
    pub parts : MayBe begun p
    pub then : State → Walk
    pub is : (S : State) → after S ≡ and_then (visited_from begun p S) then
    pub around_it : around begun then

  -- the parts that wait, those that come last first
  pub AllWait : Surrounds → List Parts → Surrounds
  AllWait around [] = around
  AllWait around (p ∷ ps) = AllWait (Waits around p) ps

  wait-last : (around : Surrounds) (ps : List Parts) (p : Parts) → AllWait around (ps ++ p ∷ []) ≡ Waits (AllWait around ps) p
  unfolding AllWait
  wait-last around [] p = refl
  wait-last around (q ∷ qs) p = wait-last (Waits around q) qs p

  nothing-there : {T : Type 0} (xs : List T) → length xs ≡ 0 → xs ≡ []
  nothing-there [] i = refl
  nothing-there (x ∷ xs) i = absurd (omega (arith, i))

  module _ (first : E) (whole : Walk) where
    abbrev KeepsFirst : Surrounds → Type 0
    KeepsFirst around = (x : E) (after : State → Walk) → around x after → KeptTo first x

    all-kept : (around : Surrounds) → KeepsFirst around → (ps : List Parts) → KeepsFirst (AllWait around ps)
    unfolding AllWait
    all-kept around h [] = h
    all-kept around h (p ∷ ps) = all-kept (Waits around p) (λ x after w. then-kept (h w.begun w.then w.around_it) w.kept) ps

    -- Parts that are visited, and those that wait for them: together they come to the whole.
    pub record AreVisited (ps : List Parts) (p : Parts) (now : E) : Type 0 where
      pub begun : E
      pub kept : KeptTo begun now
      pub parts : MayBe begun p
      pub after : State → Walk
      pub is : whole ≡ and_then (visited_from begun p (state now)) after
      pub waiting : AllWait (IsLast first) ps begun after

    pub from-first : {ps : List Parts} {p : Parts} {now : E} → AreVisited ps p now → KeptTo first now
    from-first {ps} here = then-kept (all-kept (IsLast first) (λ x after l. l.kept) ps here.begun here.after here.waiting) here.kept

    -- they begin
    pub parts-begun : (p : Parts) → MayBe first p → whole ≡ visited_from first p (state first) → AreVisited [] p first
    unfolding AllWait
    parts-begun p may h = record {
      begun = first;
      kept = nothing-done fixed probes context state stops first;
      parts = may;
      after = λ S. Goes S;
      is = h ∙ sym (then-goes (visited_from first p (state first)));
      waiting = record { kept = nothing-done fixed probes context state stops first; ends = λ S. refl };
    }

    module _ (ps : List Parts) (p : Parts) (now : E) (here : AreVisited ps p now) where
      -- no part is left
      module _ (cx : Context) (is_now : cx ≡ context now) (ended : skip p.place (tree_at cx.trees p.number).children ≡ none) where
        goes : whole ≡ here.after (state now)
        goes =
            here.is
            ∙ ap (λ (w : Walk). and_then w here.after)
            (none-visited fixed probes context state stops judge e p.nesting.types p.nesting.constants cx p.number p.values p.place is_now here.kept here.parts.number refl ended)

        -- and none wait
        pub parts-end : length ps ≡ 0 → WalksTo first now whole (Ok None)
        unfolding AllWait
        parts-end i =
            let last : AllWait (IsLast first) [] here.begun here.after = subst (λ (qs : List Parts). AllWait (IsLast first) qs here.begun here.after) (nothing-there ps i) here.waiting in
            found-here fixed probes context state stops None (from-first here) (goes ∙ last.ends (state now))

        -- those that waited last go on
        pub parts-back : (qs : List Parts) (q : Parts) → ps ≡ qs ++ q ∷ [] → AreVisited qs q now
        parts-back qs q last =
            let w : Waits (AllWait (IsLast first) qs) q here.begun here.after = subst (λ (x : Surrounds). x here.begun here.after) (ap (AllWait (IsLast first)) last ∙ wait-last (IsLast first) qs q) here.waiting in
            record {
              begun = w.begun;
              kept = then-kept w.kept here.kept;
              parts = w.parts;
              after = w.then;
              is = goes ∙ w.is (state now);
              waiting = w.around_it;
            }

      -- more places were visited than can be counted
      pub parts-wide : 18446744073709551615 ≤ p.place → WalksTo first now whole (Err (N.Stop NodesFull))
      parts-wide h =
          walked-later fixed probes context state stops (Err (N.Stop NodesFull)) (all-kept (IsLast first) (λ x after l. l.kept) ps here.begun here.after here.waiting) refl
          (wide-walk fixed probes context state stops p.number p.place here.kept here.parts.number h here.parts.place)

      -- The next part.
      module _ (cx : Context) (child : ℕ) (is_now : cx ≡ context now)
          (there : skip p.place (tree_at cx.trees p.number).children ≡ tree (tree_at cx.trees child).head (tree_at cx.trees child).children (skip (suc p.place) (tree_at cx.trees p.number).children)) where
        abbrev others : Parts
        others = record p { place = p.place + 1 }

        abbrev the_first : Walk
        the_first = first_visited (visited_at (judge (fixed now)) e p.nesting.types p.nesting.constants) (context now).trees p.values (state now) (tree_at (context now).trees child)

        abbrev then_others : State → Walk
        then_others S = and_then (visited_from here.begun others S) here.after

        next-is : whole ≡ and_then the_first then_others
        next-is =
            here.is
            ∙ (ap (λ (w : Walk). and_then w here.after)
            (next-visited fixed probes context state stops judge e p.nesting.types p.nesting.constants cx p.number p.values p.place child is_now here.kept here.parts.values here.parts.number refl there)
            ∙ then-then the_first (visited_from here.begun others) here.after)

        others-may-be : MayBe here.begun others
        others-may-be =
            let beyond = place-there fixed probes context state stops cx p.number p.place child is_now here.kept here.parts.number there in
            record {
              number = here.parts.number;
              place = omega (arith, beyond);
              values = here.parts.values;
              types = here.parts.types;
              constants = here.parts.constants;
            }

        module _ (new : E) where
          -- it says nothing
          pub parts-next : WalksTo now new the_first (Ok None) → AreVisited ps others new
          parts-next v = record {
            begun = here.begun;
            kept = then-kept here.kept v.kept;
            parts = others-may-be;
            after = here.after;
            is = next-is ∙ ap (λ (w : Walk). and_then w then_others) v.told;
            waiting = here.waiting;
          }

          -- it is found
          pub parts-found : (c : Certainty) → WalksTo now new the_first (Ok (Some c)) → WalksTo first new whole (Ok (Some c))
          parts-found c v = ends-walk fixed probes context state stops then_others (Ok (Some c)) (from-first here) next-is (found-ends fixed probes context state stops the_first then_others c) v

          -- it is an error
          pub parts-error : (x : NoSolutionOrStop) → WalksTo now new the_first (Err x) → WalksTo first new whole (Err x)
          parts-error x v = ends-walk fixed probes context state stops then_others (Err x) (from-first here) next-is (error-ends fixed probes context state stops the_first then_others x) v

          module _ (bound : ℕ) (q : Parts) (v : LeadsBelow fixed probes context state stops judge e bound now new the_first q) where
            -- what stands below it is visited, and the others wait
            pub parts-below : AreVisited (ps ++ others ∷ []) q new
            parts-below =
                let waits : Waits (AllWait (IsLast first) ps) others new then_others = record {
                  begun = here.begun;
                  kept = then-kept here.kept v.kept;
                  parts = others-may-be;
                  then = here.after;
                  is = λ S. refl;
                  around_it = here.waiting;
                } in
                record {
                  begun = new;
                  kept = nothing-done fixed probes context state stops new;
                  parts = v.parts;
                  after = then_others;
                  is = next-is ∙ ap (λ (w : Walk). and_then w then_others) v.is;
                  waiting = subst (λ (x : Surrounds). x new then_others) (sym (wait-last (IsLast first) ps others)) waits;
                }

            -- they can't wait, since a growth was refused
            pub parts-refused : WalksTo first new whole (Err (N.Stop Memory))
            parts-refused = making-walk fixed probes context state stops Memory (Err (N.Stop Memory)) refl (then-kept (from-first here) v.kept) IsUnmade.no_memory

-- How much is left to visit.

abbrev pub places_left : Parts → ℕ
places_left p = 18446744073709551615 - p.place

abbrev pub left_of : Parts → ℕ
left_of p = weighed places_left rank_of p

abbrev pub left_of_all : List Parts → ℕ
left_of_all ps = total places_left rank_of ps

-- one part fewer
pub one-fewer : (ps : List Parts) (p : Parts) → p.place < 18446744073709551615 → left_of (record p { place = p.place + 1 }) + left_of_all ps < left_of p + left_of_all ps
one-fewer ps p h =
    let i : 18446744073709551615 - p.place ≡ suc (18446744073709551615 - (p.place + 1)) = omega (arith, h) in
    less-next places_left rank_of ps p (record p { place = p.place + 1 }) i refl

-- parts below
pub fewer-below : (ps : List Parts) (p q : Parts) → p.place < 18446744073709551615 → rank_of q < rank_of p
    → left_of q + left_of_all (ps ++ record p { place = p.place + 1 } ∷ []) < left_of p + left_of_all ps
fewer-below ps p q h deep =
    let i : 18446744073709551615 - p.place ≡ suc (18446744073709551615 - (p.place + 1)) = omega (arith, h) in
    less-below places_left rank_of ps p (record p { place = p.place + 1 }) q i refl (omega arith) deep
