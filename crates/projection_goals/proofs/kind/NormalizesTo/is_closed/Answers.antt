use Rattle.std.proofs.Common.{◌≡◌, ◌∙◌, ◌||◌, ◌+◌, ℕ, false, true, not, refl, sym, ap}
use Rattle.std.proofs.lemmas.Bool.{not-true}
use Rattle.ir_trees.specs.Syntax.Binders.{escapes, is_beyond, tree_escapes}
use Rattle.ir_trees.specs.Syntax.Trees.{Tree, binders_of, is_param, tree_holds}
use Rattle.ir_trees.specs.Syntax.Words.{args_forest, ty_tree}
use Rattle.ir_trees.specs.Unification.Substitutions.{alone}
use Rattle.projection_goals.specs.Rows.{escaping-join, escaping-parts}
use Rattle.projection_goals.proofs.Changing.{held-either, or-nothing}
use Rattle.projection_goals.proofs.kind.NormalizesTo.is_closed.Goals as goal

escapes-alone : (n : ℕ) (t : Tree) → escapes n (alone t) ≡ tree_escapes n t
escapes-alone n t = ap (λ z. is_beyond n t.head || z) (or-nothing (escapes (n + binders_of t.head) t.children))

pub returns-then-has-clause-all : goal.returns-then-has-clause-all
returns-then-has-clause-all c = λ s.
    let ts = c.args.cx.now.trees in
    let args = args_forest ts c.args.self.alias.args in
    let term = ty_tree ts c.args.self.term in
    sym s.no_parameter ∙ held-either is_param args term true (tree_holds is_param term) (sym c.if-has.true ∙ c.has.ensures.list refl) refl

pub returns-then-has-2-clause-all : goal.returns-then-has-2-clause-all
returns-then-has-2-clause-all c = λ s.
    let ts = c.args.cx.now.trees in
    let args = args_forest ts c.args.self.alias.args in
    let term = ty_tree ts c.args.self.term in
    sym s.no_parameter ∙ held-either is_param args term false true (sym c.if-has.false ∙ c.has.ensures.list refl) (sym c.if-has-2.true ∙ c.has-2.ensures.is)

pub returns-then-has_escaping_bound_vars-clause-all : goal.returns-then-has_escaping_bound_vars-clause-all
returns-then-has_escaping_bound_vars-clause-all c = λ s.
    let ts = c.args.cx.now.trees in
    let args = args_forest ts c.args.self.alias.args in
    let term = ty_tree ts c.args.self.term in
    sym (escaping-parts 0 args (alone term) s.closed).0 ∙ (sym (c.has_escaping_bound_vars.ensures.list refl) ∙ c.if-has_escaping_bound_vars.true)

pub returns-clause-all : goal.returns-clause-all
returns-clause-all c = λ s.
    let ts = c.args.cx.now.trees in
    let args = args_forest ts c.args.self.alias.args in
    let term = ty_tree ts c.args.self.term in
    ap not (c.has_escaping_bound_vars-2.ensures.is ∙ (sym (escapes-alone 0 term) ∙ (escaping-parts 0 args (alone term) s.closed).1))

pub returns-clause-closed : goal.returns-clause-closed
returns-clause-closed c = λ e.
    let ts = c.args.cx.now.trees in
    let args = args_forest ts c.args.self.alias.args in
    let term = ty_tree ts c.args.self.term in
    record {
      no_parameter = held-either is_param args term false false (sym (sym (c.has.ensures.list refl) ∙ c.if-has.false)) (sym (sym c.has-2.ensures.is ∙ c.if-has-2.false));
      closed = escaping-join 0 args (alone term) (sym (c.has_escaping_bound_vars.ensures.list refl) ∙ c.if-has_escaping_bound_vars.false)
          (escapes-alone 0 term ∙ (sym c.has_escaping_bound_vars-2.ensures.is ∙ not-true c.has_escaping_bound_vars-2.result e));
    }
