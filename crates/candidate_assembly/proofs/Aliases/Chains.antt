-- What a walk along a chain of aliases finds is what the chain comes to; where closed probes leave the very state before, there is one chain.
use Rattle.std.proofs.Common.{◌≡◌, refl, ap, subst, sym, ◌∙◌, ℕ, zero, suc, Bool, true, false, Option, Some, None, [], map}
use Rattle.std.specs.Prelude.{◌||◌}
use Rattle.std.proofs.lemmas.List.{append-nil, append_assoc}
use Rattle.ir_trees.specs.declared.decl.contents.AliasBoundKind.{AliasBoundKind}
use Rattle.ir_trees.specs.declared.ir.heads.Head.{Head}
use Rattle.ir_trees.specs.declared.ir.heads.Head.TheVariants as H
use Rattle.ir_trees.specs.declared.ir.kinds.AliasKind.TheVariants as AK
use Rattle.ir_trees.specs.declared.decl.contents.AliasBoundKind.TheVariants.{NonSelfBounds, SelfBounds}
use Rattle.ir_trees.specs.declared.ir.stop.Stop.{Stop}
use Rattle.ir_trees.specs.Declarations.Context.{Context}
use Rattle.ir_trees.specs.Syntax.Trees.{Tree}
use Rattle.candidate_eval.specs.Dynamic.Objects.{IsExact}
use Rattle.candidate_eval.specs.Dynamic.ObjectRequirements.{first_tree}
use Rattle.candidate_eval.specs.Judges.States.{Env, State, Judge}
use Rattle.candidate_assembly.specs.Goals.KindBounds.{Additional}
use Rattle.candidate_assembly.specs.Rules.AliasBounds.{Chain, ChainComes, Done, IsChain, TooLong, at_opaque, at_projection, by_alias, chain, chain_answers, chain_at_once, end_answers, end_at, ended, go_on, has_bounds, is_opaque, is_projection, link, link_rules, no_alias, no_normal_form, one_too_many, with_link}
use Rattle.candidate_assembly.specs.Calls.AliasChains.{Comes, no_bounds, opaque, projection, refused, stopped, too_long}
use Rattle.candidate_assembly.specs.Goals.Kinds.{KindRules, self_type}
use Rattle.candidate_assembly.specs.Answers.Listing.{Listed, Lists, Stops, all_answers, answers_at, together}

by-other : (a b o : Chain) (h : Head) → has_bounds h ≡ false → by_alias a b o h ≡ o
by-other a b o (H.Alias AK.Projection i) e = absurd cc
by-other a b o (H.Alias AK.Opaque i) e = absurd cc
by-other a b o (H.Alias k i) e = refl
by-other a b o h e = refl

by-opaque : (a b o : Chain) (h : Head) → is_opaque h ≡ true → by_alias a b o h ≡ b
by-opaque a b o (H.Alias AK.Opaque i) e = refl
by-opaque a b o h e = absurd cc

by-projection : (a b o : Chain) (h : Head) → is_projection h ≡ true → by_alias a b o h ≡ a
by-projection a b o (H.Alias AK.Projection i) e = refl
by-projection a b o h e = absurd cc

-- what is said of both chains of an alias with bounds
by-bounds : (P : Chain → Type 0) (a b o : Chain) (h : Head) → has_bounds h ≡ true → P a → P b → P (by_alias a b o h)
by-bounds P a b o (H.Alias AK.Projection i) e p q = p
by-bounds P a b o (H.Alias AK.Opaque i) e p q = q
by-bounds P a b o h e p q = absurd cc

pub together-empty : (l : Listed) → together (Lists []) l ≡ l
together-empty (Lists xs) = refl
together-empty (Stops s) = refl

pub together-last : (l : Listed) → together l (Lists []) ≡ l
together-last (Lists xs) = ap Lists (append-nil xs)
together-last (Stops s) = refl

pub together-joined : (a b d : Listed) → together (together a b) d ≡ together a (together b d)
together-joined (Stops s) b d = refl
together-joined (Lists xs) (Stops s) d = refl
together-joined (Lists xs) (Lists ys) (Stops s) = refl
together-joined (Lists xs) (Lists ys) (Lists zs) = ap Lists (append_assoc xs ys zs)

-- The chain that a type begins.
module _ (J : Judge) (e : Env) where
  -- with so many aliases to go
  abbrev pub from : ℕ → AliasBoundKind → State → Tree → Chain
  from n b S t = chain J e n b S t

  -- what follows a projection
  abbrev after : ℕ → AliasBoundKind → State → Tree → Chain
  after n b S t = with_link (link b S t) (go_on (J.normalized S e (first_tree t.children)) (from n NonSelfBounds))

  -- a chain of one alias
  abbrev only : AliasBoundKind → State → Tree → Chain
  only b S t = with_link (link b S t) (ended Done)

  ends-here : (n : ℕ) (b : AliasBoundKind) (S : State) (t : Tree) → has_bounds t.head ≡ false → from n b S t ≡ ended (end_at b S t.head)
  ends-here zero b S t w = by-other (ended TooLong) (ended TooLong) (ended (end_at b S t.head)) t.head w
  ends-here (suc n) b S t w = by-other (after n b S t) (only b S t) (ended (end_at b S t.head)) t.head w

  ends-after : (n : ℕ) (b : AliasBoundKind) (S : State) (t : Tree) → is_opaque t.head ≡ true → from (suc n) b S t ≡ only b S t
  ends-after n b S t w = by-opaque (after n b S t) (only b S t) (ended (end_at b S t.head)) t.head w

  goes-on : (n : ℕ) (b : AliasBoundKind) (S : State) (t : Tree) → is_projection t.head ≡ true → from (suc n) b S t ≡ after n b S t
  goes-on n b S t w = by-projection (after n b S t) (only b S t) (ended (end_at b S t.head)) t.head w

  -- It is a chain, where each state is alike itself.
  chain-is : ((S : State) → J.alike S S) → (n : ℕ) (b : AliasBoundKind) (S : State) (t : Tree) → IsChain J e n b S t (from n b S t)
  chain-is same zero b S t = of (has_bounds t.head) refl
    where
      of : (x : Bool) → has_bounds t.head ≡ x → IsChain J e zero b S t (from zero b S t)
      of true w = by-bounds (IsChain J e zero b S t) (ended TooLong) (ended TooLong) (ended (end_at b S t.head)) t.head w (one_too_many w) (one_too_many w)
      of false w = subst (IsChain J e zero b S t) (sym (ends-here zero b S t w)) (no_alias w)
  chain-is same (suc n) b S t = of (chain-is same n NonSelfBounds) (is_projection t.head) (is_opaque t.head) refl refl
    where
      goes : ((T : State) (u : Tree) → IsChain J e n NonSelfBounds T u (from n NonSelfBounds T u)) → (o : Option (Tree × State)) → J.normalized S e (first_tree t.children) ≡ o → is_projection t.head ≡ true
          → IsChain J e (suc n) b S t (with_link (link b S t) (go_on o (from n NonSelfBounds)))
      goes more None w p = no_normal_form S p (same S) w
      goes more (Some u) w p = at_projection S p (same S) w (more u.1 u.0)

      of : ((T : State) (u : Tree) → IsChain J e n NonSelfBounds T u (from n NonSelfBounds T u)) → (x y : Bool) → is_projection t.head ≡ x → is_opaque t.head ≡ y → IsChain J e (suc n) b S t (from (suc n) b S t)
      of more true y p o = subst (IsChain J e (suc n) b S t) (sym (goes-on n b S t p)) (goes more (J.normalized S e (first_tree t.children)) refl p)
      of more false true p o = subst (IsChain J e (suc n) b S t) (sym (ends-after n b S t o)) (at_opaque o)
      of more false false p o =
          let other : has_bounds t.head ≡ false = ap (λ x. x || is_opaque t.head) p ∙ o in
          subst (IsChain J e (suc n) b S t) (sym (ends-here (suc n) b S t other)) (no_alias other)

  -- Where alike states are one, it is the only chain.
  module _ (exact : IsExact J) where
    goes-by : (n : ℕ) (b : AliasBoundKind) (S T : State) (t : Tree) (o : Option (Tree × State)) → is_projection t.head ≡ true → J.alike S T
        → J.normalized T e (first_tree t.children) ≡ o → from (suc n) b S t ≡ with_link (link b S t) (go_on o (from n NonSelfBounds))
    goes-by n b S T t o p alike w =
        goes-on n b S t p ∙ ap (λ x. with_link (link b S t) (go_on x (from n NonSelfBounds))) (ap (λ x. J.normalized x e (first_tree t.children)) (sym (exact S T alike)) ∙ w)

    only-chain : {n : ℕ} {b : AliasBoundKind} {S : State} {t : Tree} {ch : Chain} → IsChain J e n b S t ch → ch ≡ from n b S t
    only-chain {n = n} {b = b} {S = S} {t = t} (no_alias w) = sym (ends-here n b S t w)
    only-chain {b = b} {S = S} {t = t} (one_too_many w) = by-bounds (λ x. ended TooLong ≡ x) (ended TooLong) (ended TooLong) (ended (end_at b S t.head)) t.head w refl refl
    only-chain {n = suc n} {b = b} {S = S} {t = t} (at_opaque w) = sym (ends-after n b S t w)
    only-chain {n = suc n} {b = b} {S = S} {t = t} (no_normal_form T p alike w) = sym (goes-by n b S T t None p alike w)
    only-chain {n = suc n} {b = b} {S = S} {t = t} (at_projection {U = U} {u = u} T p alike w further) =
        sym (goes-by n b S T t (Some (u, U)) p alike w ∙ ap (with_link (link b S t)) (sym (only-chain further)))

-- What a chain comes to.
module _ {G : Type 0} (K : KindRules G) (more : Additional G) (J : Judge) (c : Context) (g : G) where
  abbrev comes_to : Chain → Listed
  comes_to ch = chain_answers K more J c g ch

  one-link : (b : AliasBoundKind) (S : State) (t : Tree) → comes_to (with_link (link b S t) (ended Done)) ≡ answers_at J (link_rules K more c g (link b S t))
  one-link b S t = together-last (together (answers_at J (link_rules K more c g (link b S t))) (Lists [])) ∙ together-last (answers_at J (link_rules K more c g (link b S t)))

  first-link : (b : AliasBoundKind) (S : State) (t : Tree) (ch : Chain)
      → comes_to (with_link (link b S t) ch) ≡ together (answers_at J (link_rules K more c g (link b S t))) (comes_to ch)
  first-link b S t ch = together-joined (answers_at J (link_rules K more c g (link b S t))) (all_answers J (map (link_rules K more c g) ch.links)) (end_answers K J g ch.end)

  stopped-there : (b : AliasBoundKind) (S : State) (t : Tree) (s : Stop) (ch : Chain) → answers_at J (link_rules K more c g (link b S t)) ≡ Stops s
      → Stops s ≡ comes_to (with_link (link b S t) ch)
  stopped-there b S t s ch e = sym (first-link b S t ch ∙ ap (λ x. together x (comes_to ch)) e)

  -- A chain of which these are the answers.
  record Chained (n : ℕ) (b : AliasBoundKind) (S : State) (t : Tree) (l : Listed) : Type 0 where
    aliases : Chain
    is_chain : IsChain J (K.env_of g) n b S t aliases
    is : l ≡ comes_to aliases

  -- What the walk finds is what a chain comes to; where a rule stops, that is so whatever the chain is further on.
  module _ (same : (S : State) → J.alike S S) where
    chained : {n : ℕ} {b : AliasBoundKind} {S : State} {t : Tree} {l : Listed} → Comes K more J c g n b S t l → Chained n b S t l
    chained {b = b} {S = S} {t = t} (no_bounds e) = record { aliases = ended (end_at b S t.head); is_chain = no_alias e; is = sym (together-empty (end_answers K J g (end_at b S t.head))) }
    chained (too_long e) = record { aliases = ended TooLong; is_chain = one_too_many e; is = refl }
    chained {n = suc n} {b = b} {S = S} {t = t} (stopped {s = s} e w) = record {
      aliases = from J (K.env_of g) (suc n) b S t;
      is_chain = chain-is J (K.env_of g) same (suc n) b S t;
      is =
          by-bounds (λ x. Stops s ≡ comes_to x) (after J (K.env_of g) n b S t) (only J (K.env_of g) b S t) (ended (end_at b S t.head)) t.head e
          (stopped-there b S t s (go_on (J.normalized S (K.env_of g) (first_tree t.children)) (from J (K.env_of g) n NonSelfBounds)) w) (stopped-there b S t s (ended Done) w);
    }
    chained {b = b} {S = S} {t = t} (opaque e) = record { aliases = with_link (link b S t) (ended Done); is_chain = at_opaque e; is = sym (one-link b S t) }
    chained {b = b} {S = S} {t = t} (refused T p alike e) = record { aliases = with_link (link b S t) (ended Done); is_chain = no_normal_form T p alike e; is = sym (one-link b S t) }
    chained {b = b} {S = S} {t = t} (projection T p alike e further) =
        let r = chained further in
        record {
          aliases = with_link (link b S t) r.aliases;
          is_chain = at_projection T p alike e r.is_chain;
          is = ap (together (answers_at J (link_rules K more c g (link b S t)))) r.is ∙ sym (first-link b S t r.aliases);
        }

    pub chain-found : (S : State) (l : Listed) → Comes K more J c g J.limits.alias_chain SelfBounds S (self_type K c g) l → ChainComes K more J c g S l
    chain-found S l comes = let r = chained comes in record { at = S; alike = same S; aliases = r.aliases; is_chain = r.is_chain; is = r.is }

  pub comes-at-once : IsExact J → (S : State) (l : Listed) → ChainComes K more J c g S l → l ≡ chain_at_once K more J c g S
  comes-at-once exact S l k =
      k.is ∙ ap comes_to (only-chain J (K.env_of g) exact k.is_chain ∙ ap (λ x. from J (K.env_of g) J.limits.alias_chain SelfBounds x (self_type K c g)) (exact S k.at k.alike))
