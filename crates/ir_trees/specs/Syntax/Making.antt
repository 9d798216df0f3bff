-- What a call that makes nodes comes to: said once, for tables, contexts and all that makes nodes.
use Rattle.std.specs.Prelude.{◌≡◌, ◌+◌, ℕ, List, Result, IfOk, IfErr, length, map}
use Rattle.ir_trees.specs.declared.ir.kinds.Ty.{Ty}
use Rattle.ir_trees.specs.declared.ir.kinds.Const.{Const}
use Rattle.ir_trees.specs.declared.ir.kinds.Region.{Region}
use Rattle.ir_trees.specs.declared.ir.kinds.Args.{Args}
use Rattle.ir_trees.specs.declared.ir.kinds.Preds.{Preds}
use Rattle.ir_trees.specs.declared.ir.kinds.Sig.{Sig}
use Rattle.ir_trees.specs.declared.ir.kinds.Clause.{Clause}
use Rattle.ir_trees.specs.declared.ir.kinds.ParamEnv.{ParamEnv}
use Rattle.ir_trees.specs.declared.ir.kinds.Vars.{Vars}
use Rattle.ir_trees.specs.declared.ir.kinds.VarKind.{VarKind}
use Rattle.ir_trees.specs.declared.ir.kinds.Binder.{Binder}
use Rattle.ir_trees.specs.declared.ir.kinds.GenericArg.{GenericArg}
use Rattle.ir_trees.specs.declared.ir.kinds.ExistentialPredicate.{ExistentialPredicate}
use Rattle.ir_trees.specs.declared.ir.kinds.ClosureSig.{ClosureSig}
use Rattle.ir_trees.specs.declared.ir.kinds.ClauseKind.{ClauseKind}
use Rattle.ir_trees.specs.declared.ir.kinds.TyKind.{TyKind}
use Rattle.ir_trees.specs.declared.ir.kinds.ConstKind.{ConstKind}
use Rattle.ir_trees.specs.declared.ir.kinds.RegionKind.{RegionKind}
use Rattle.ir_trees.specs.declared.ir.making.New.{New}
use Rattle.ir_trees.specs.declared.ir.making.New.TheVariants as W
use Rattle.ir_trees.specs.declared.ir.stop.Stop.{Stop}
use Rattle.ir_trees.specs.Syntax.Trees.{Forest, Tree, height, heights}
use Rattle.ir_trees.specs.Syntax.Nodes.{Extends}
use Rattle.ir_trees.specs.Declarations.Worlds.{World}
use Rattle.ir_trees.specs.Declarations.Context.{Context, Grows}
use Rattle.ir_trees.specs.Declarations.References.{Takes, AllTake, AllFit}
use Rattle.ir_trees.specs.Syntax.Words.{IsTy, IsConst, IsRegion, IsArgs, IsPreds, IsSig, IsClause, IsParamEnv, IsVars, ty_tree, const_tree, region_tree, args_forest, preds_forest, sig_tree, clause_tree, env_forest, vars_tree, kind_tree, const_kind_tree, region_kind_tree, list_forest, pred_kind_tree, bounds_forest, sig_kind_tree, clause_kind_tree, clause_list_forest, binder_tree, IsMkStop, IsMkListStop, KindFits, ConstKindFits, ListFits, BoundsFit, AtMostOnePrincipal, SigFits, ClauseFits, ClauseListFits}

-- One thing to be made: what has to stand in the table for it, what a number of it is and which trees it stands for, the
-- trees that are made over those of a table, what these need so as to fit a world, and why they may not be made.
pub record Making (N T : Type 0) : Type 1 where
  pub fits : List Tree → Type 0
  pub is : List Tree → N → Type 0
  pub seen : List Tree → N → T
  pub made : List Tree → T
  pub takes : World → List Tree → Type 0
  pub causes : List Tree → Stop → Type 0

-- The table only grows, and fits a world if what is made takes its children there. The number answered is of its kind and
-- stands for what is made. A stop has its cause, and leaves the table as it was.
pub record Adds {N T : Type 0} (m : Making N T) (old new : List Tree) (result : Result N Stop) : Type 0 where
  pub kept : Extends old new
  pub fit : (w : World) → AllFit w old → m.takes w old → AllFit w new
  pub sort : IfOk result (λ n. m.is new n)
  pub tree : IfOk result (λ n. m.seen new n ≡ m.made old)
  pub unchanged : IfErr result (λ _. new ≡ old)
  pub cause : IfErr result (λ s. m.causes old s)

-- The same of a context, whose declarations stay, and no fault is put off.
pub record Makes {N T : Type 0} (m : Making N T) (old new : Context) (result : Result N Stop) : Type 0 where
  pub kept : Grows old new
  pub faults : new.delayed_bugs ≡ old.delayed_bugs
  pub sort : IfOk result (λ n. m.is new.trees n)
  pub tree : IfOk result (λ n. m.seen new.trees n ≡ m.made old.trees)
  pub unchanged : IfErr result (λ _. new ≡ old)
  pub cause : IfErr result (λ s. m.causes old.trees s)

-- No other number of its kind stands for the same.
unfoldable pub IsOne : {N T : Type 0} → Making N T → List Tree → N → Type 0
IsOne {N} m ts n = (x : N) → m.is ts x → m.seen ts x ≡ m.seen ts n → x ≡ n

abbrev pub a_type : TyKind → Making Ty Tree
a_type kind = record {
  fits = λ ts. KindFits ts kind;
  is = IsTy;
  seen = ty_tree;
  made = λ ts. kind_tree ts kind;
  takes = λ w ts. Takes w (kind_tree ts kind);
  causes = λ ts. IsMkStop ts (height (kind_tree ts kind));
}

abbrev pub a_constant : ConstKind → Making Const Tree
a_constant kind = record {
  fits = λ ts. ConstKindFits ts kind;
  is = IsConst;
  seen = const_tree;
  made = λ ts. const_kind_tree ts kind;
  takes = λ w ts. Takes w (const_kind_tree ts kind);
  causes = λ ts. IsMkStop ts (height (const_kind_tree ts kind));
}

abbrev pub a_region : RegionKind → Making Region Tree
a_region kind = record {
  fits = λ ts. Unit {0};
  is = IsRegion;
  seen = region_tree;
  made = λ ts. region_kind_tree kind;
  takes = λ w ts. Unit {0};
  causes = λ ts. IsMkStop ts (height (region_kind_tree kind));
}

abbrev pub a_list : List GenericArg → Making Args Forest
a_list list = record {
  fits = λ ts. ListFits ts list;
  is = IsArgs;
  seen = args_forest;
  made = λ ts. list_forest ts list;
  takes = λ w ts. Unit {0};
  causes = λ ts. IsMkStop ts (heights (list_forest ts list));
}

-- They take a number each, and one more.
abbrev pub a_binder : List VarKind → Making Vars Tree
a_binder kinds = record {
  fits = λ ts. Unit {0};
  is = IsVars;
  seen = vars_tree;
  made = λ ts. binder_tree kinds;
  takes = λ w ts. Unit {0};
  causes = λ ts. IsMkListStop ts (length kinds + 1) (height (binder_tree kinds));
}

-- These too.
abbrev pub some_bounds : List (Binder ExistentialPredicate) → Making Preds Forest
some_bounds bounds = record {
  fits = λ ts. BoundsFit ts bounds × AtMostOnePrincipal bounds;
  is = IsPreds;
  seen = preds_forest;
  made = λ ts. bounds_forest ts bounds;
  takes = λ w ts. AllTake w (map (pred_kind_tree ts) bounds);
  causes = λ ts. IsMkListStop ts (length bounds + 1) (heights (bounds_forest ts bounds));
}

abbrev pub a_signature : Binder ClosureSig → Making Sig Tree
a_signature sig = record {
  fits = λ ts. SigFits ts sig;
  is = IsSig;
  seen = sig_tree;
  made = λ ts. sig_kind_tree ts sig;
  takes = λ w ts. Unit {0};
  causes = λ ts. IsMkStop ts (height (sig_kind_tree ts sig));
}

abbrev pub a_clause : Binder ClauseKind → Making Clause Tree
a_clause clause = record {
  fits = λ ts. ClauseFits ts clause;
  is = IsClause;
  seen = clause_tree;
  made = λ ts. clause_kind_tree ts clause;
  takes = λ w ts. Takes w (clause_kind_tree ts clause);
  causes = λ ts. IsMkStop ts (height (clause_kind_tree ts clause));
}

abbrev pub an_environment : List Clause → Making ParamEnv Forest
an_environment clauses = record {
  fits = λ ts. ClauseListFits ts clauses;
  is = IsParamEnv;
  seen = env_forest;
  made = λ ts. clause_list_forest ts clauses;
  takes = λ w ts. Unit {0};
  causes = λ ts. IsMkStop ts (heights (clause_list_forest ts clauses));
}

-- The same, where a number of it is a number alone.
abbrev pub numbered : {N T : Type 0} → (ℕ → N) → Making N T → Making ℕ T
numbered of m = record {
  fits = m.fits;
  is = λ ts n. m.is ts (of n);
  seen = λ ts n. m.seen ts (of n);
  made = m.made;
  takes = m.takes;
  causes = m.causes;
}

-- What is to be made, whatever sort of trees it stands for.
pub record What : Type 1 where
  pub trees : Type 0
  pub making : Making ℕ trees

-- What each thing to be made is.
abbrev pub what : New → What
what (W.Ty kind) = record { trees = Tree; making = numbered (λ n. record { 0 = n }) (a_type kind) }
what (W.Const kind) = record { trees = Tree; making = numbered (λ n. record { 0 = n }) (a_constant kind) }
what (W.Region kind) = record { trees = Tree; making = numbered (λ n. record { 0 = n }) (a_region kind) }
what (W.Args list) = record { trees = Forest; making = numbered (λ n. record { 0 = n }) (a_list list.now) }
what (W.Vars kinds) = record { trees = Tree; making = numbered (λ n. record { 0 = n }) (a_binder kinds.now) }
what (W.Preds bounds) = record { trees = Forest; making = numbered (λ n. record { 0 = n }) (some_bounds bounds.now) }
what (W.Sig sig) = record { trees = Tree; making = numbered (λ n. record { 0 = n }) (a_signature sig) }
what (W.Clause clause) = record { trees = Tree; making = numbered (λ n. record { 0 = n }) (a_clause clause) }
what (W.ParamEnv clauses) = record { trees = Forest; making = numbered (λ n. record { 0 = n }) (an_environment clauses.now) }
