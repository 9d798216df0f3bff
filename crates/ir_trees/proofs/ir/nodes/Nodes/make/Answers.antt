use Rattle.std.proofs.Common.{◌≡◌, Ok, rules, refl, subst, sym}
use Rattle.std.proofs.lemmas.Result.{err_from_is_err_and}
use Rattle.ir_trees.specs.declared.ir.kinds.Vars.{Vars}
use Rattle.ir_trees.specs.declared.ir.kinds.Preds.{Preds}
use Rattle.ir_trees.specs.Syntax.Making.{Adds, what, numbered, a_list, an_environment}
use Rattle.ir_trees.proofs.Growth.Making.{added-number, added-nothing}
use Rattle.ir_trees.proofs.Kinding.References.{signature-takes}
use Rattle.ir_trees.proofs.Growth.Sorts.{ty_is_type}
use Rattle.ir_trees.proofs.ir.nodes.Nodes.make.Goals as goal

pub add-requires-clause-fits : goal.add-requires-clause-fits
add-requires-clause-fits c = subst (λ n. (what n).making.fits c.args.self.now) c.in-Ty.is c.requires

pub add-requires-in-Const-clause-fits : goal.add-requires-in-Const-clause-fits
add-requires-in-Const-clause-fits c = subst (λ n. (what n).making.fits c.args.self.now) c.in-Const.is c.requires

pub add-requires-in-Sig-clause-fits : goal.add-requires-in-Sig-clause-fits
add-requires-in-Sig-clause-fits c = subst (λ n. (what n).making.fits c.args.self.now) c.in-Sig.is c.requires

pub add-requires-in-Clause-clause-fits : goal.add-requires-in-Clause-clause-fits
add-requires-in-Clause-clause-fits c = subst (λ n. (what n).making.fits c.args.self.now) c.in-Clause.is c.requires

pub mk_preds-requires-clause-fit : goal.mk_preds-requires-clause-fit
mk_preds-requires-clause-fit c = (subst (λ n. (what n).making.fits c.args.self.now) c.in-Preds.is c.requires).0

pub mk_preds-requires-clause-principal : goal.mk_preds-requires-clause-principal
mk_preds-requires-clause-principal c = (subst (λ n. (what n).making.fits c.args.self.now) c.in-Preds.is c.requires).1

pub returns-in-Ty : goal.returns-in-Ty
returns-in-Ty c =
    subst (λ n. Adds (what n).making c.args.self.now c.add.new.self c.add.result) (sym c.in-Ty.is)
    (record {
      kept = c.add.ensures.kept;
      fit = c.add.ensures.fit;
      sort = rw (sym (ty_is_type c.in-Ty.kind)) c.add.ensures.sort;
      tree = c.add.ensures.tree;
      unchanged = c.add.ensures.unchanged;
      cause = c.add.ensures.cause;
    })

pub returns-in-Region : goal.returns-in-Region
returns-in-Region c =
    subst (λ n. Adds (what n).making c.args.self.now c.add-in-Region.new.self c.add-in-Region.result) (sym c.in-Region.is)
    (record {
      kept = c.add-in-Region.ensures.kept;
      fit = λ w f u. c.add-in-Region.ensures.fit w f (λ e. refl);
      sort = c.add-in-Region.ensures.sort;
      tree = c.add-in-Region.ensures.tree;
      unchanged = c.add-in-Region.ensures.unchanged;
      cause = c.add-in-Region.ensures.cause;
    })

pub returns-in_ok-mk_vars-in-Vars : goal.returns-in_ok-mk_vars-in-Vars
returns-in_ok-mk_vars-in-Vars c =
    subst (λ n. Adds (what n).making c.args.self.now c.mk_vars.new.self (Ok c.in_ok-mk_vars-in-Vars.field-0.0)) (sym c.in-Vars.is)
    (added-number (λ (v : Vars). v.0) (λ n. record { 0 = n }) _ _ _ _ refl c.in_ok-mk_vars-in-Vars.ensures)

pub returns-in_err-mk_vars-in-Vars : goal.returns-in_err-mk_vars-in-Vars
returns-in_err-mk_vars-in-Vars c =
    let p = err_from_is_err_and c.from_residual-in_err-mk_vars-in-Vars.result c.from_residual-in_err-mk_vars-in-Vars.ensures.1 in
    subst (λ n. Adds (what n).making c.args.self.now c.mk_vars.new.self c.from_residual-in_err-mk_vars-in-Vars.result) (sym c.in-Vars.is)
    (rw (p.1, p.2) (added-nothing (λ n. record { 0 = n }) _ _ _ _ c.in_err-mk_vars-in-Vars.ensures))

pub returns-in_ok-mk_preds-in-Preds : goal.returns-in_ok-mk_preds-in-Preds
returns-in_ok-mk_preds-in-Preds c =
    subst (λ n. Adds (what n).making c.args.self.now c.mk_preds.new.self (Ok c.in_ok-mk_preds-in-Preds.field-0.0)) (sym c.in-Preds.is)
    (added-number (λ (v : Preds). v.0) (λ n. record { 0 = n }) _ _ _ _ refl c.in_ok-mk_preds-in-Preds.ensures)

pub returns-in_err-list-in-Args : goal.returns-in_err-list-in-Args
returns-in_err-list-in-Args c =
    subst (λ n. Adds (what n).making c.args.self.now c.args.self.now c.from_residual.result) (sym c.in-Args.is) (search rules)

pub returns-in_ok-list-in-Args : goal.returns-in_ok-list-in-Args
returns-in_ok-list-in-Args c =
    let e : c.in_ok-list-in-Args.list.items ≡ c.in-Args.list.now = search rules in
    subst (λ n. Adds (what n).making c.args.self.now c.add-in-Args.new.self c.add-in-Args.result) (sym c.in-Args.is)
    (subst (λ xs. Adds (numbered (λ n. record { 0 = n }) (a_list xs)) c.args.self.now c.add-in-Args.new.self c.add-in-Args.result) e
    (record {
      kept = c.add-in-Args.ensures.kept;
      fit = λ w f u. c.add-in-Args.ensures.fit w f (λ e. cc);
      sort = c.add-in-Args.ensures.sort;
      tree = search rules;
      unchanged = c.add-in-Args.ensures.unchanged;
      cause = search rules;
    }))

pub returns-in_ok-clauses-in-ParamEnv : goal.returns-in_ok-clauses-in-ParamEnv
returns-in_ok-clauses-in-ParamEnv c =
    let e : c.in_ok-clauses-in-ParamEnv.clauses.items ≡ c.in-ParamEnv.clauses.now = search rules in
    subst (λ n. Adds (what n).making c.args.self.now c.add-in-ParamEnv.new.self c.add-in-ParamEnv.result) (sym c.in-ParamEnv.is)
    (subst (λ xs. Adds (numbered (λ n. record { 0 = n }) (an_environment xs)) c.args.self.now c.add-in-ParamEnv.new.self c.add-in-ParamEnv.result) e
    (record {
      kept = c.add-in-ParamEnv.ensures.kept;
      fit = λ w f u. c.add-in-ParamEnv.ensures.fit w f (λ e. cc);
      sort = c.add-in-ParamEnv.ensures.sort;
      tree = search rules;
      unchanged = c.add-in-ParamEnv.ensures.unchanged;
      cause = search rules;
    }))

pub returns-in-Sig : goal.returns-in-Sig
returns-in-Sig c =
    subst (λ n. Adds (what n).making c.args.self.now c.add-in-Sig.new.self c.add-in-Sig.result) (sym c.in-Sig.is)
    (record {
      kept = c.add-in-Sig.ensures.kept;
      fit = λ w f u. c.add-in-Sig.ensures.fit w f (signature-takes w c.args.self.now c.in-Sig.sig (subst (λ n. (what n).making.fits c.args.self.now) c.in-Sig.is c.requires));
      sort = c.add-in-Sig.ensures.sort;
      tree = c.add-in-Sig.ensures.tree;
      unchanged = c.add-in-Sig.ensures.unchanged;
      cause = c.add-in-Sig.ensures.cause;
    })

pub returns-in-Clause : goal.returns-in-Clause
returns-in-Clause c =
    subst (λ n. Adds (what n).making c.args.self.now c.add-in-Clause.new.self c.add-in-Clause.result) (sym c.in-Clause.is)
    (record {
      kept = c.add-in-Clause.ensures.kept;
      fit = c.add-in-Clause.ensures.fit;
      sort = c.add-in-Clause.ensures.sort;
      tree = c.add-in-Clause.ensures.tree;
      unchanged = c.add-in-Clause.ensures.unchanged;
      cause = c.add-in-Clause.ensures.cause;
    })
