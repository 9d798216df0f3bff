use Rattle.std.proofs.Common.{◌≡◌, false, refl}
use Rattle.ir_trees.specs.declared.ir.kinds.TyKind.{TyKind}
use Rattle.ir_trees.specs.declared.ir.kinds.TyKind.TheVariants as K
use Rattle.ir_trees.specs.Declarations.Context.{world_of}
use Rattle.ir_trees.proofs.Kinding.Arity.{adt-tests, function-tests, alias-tests, closure-tests, tuple-tests, pointer-tests, bounds-take, asks, plain-takes, surely}
use Rattle.ir_trees.proofs.decl.arity.ty_fits.Goals as goal

pub returns-in-Adt : goal.returns-in-Adt
returns-in-Adt c =
    adt-tests (world_of c.args.definitions.now) _ _ _ c.in-Adt.id _ _ c.in-Adt.is c.requires (c.args-in-Adt.ensures.fits, c.args-in-Adt.ensures.tree) c.takes.ensures

pub returns-in-FnDef : goal.returns-in-FnDef
returns-in-FnDef c =
    function-tests (world_of c.args.definitions.now) _ _ _ c.in-FnDef.id _ _ c.in-FnDef.is c.requires (c.args-in-FnDef.ensures.fits, c.args-in-FnDef.ensures.tree) c.takes-in-FnDef.ensures

pub returns-in-Closure : goal.returns-in-Closure
returns-in-Closure c =
    closure-tests (world_of c.args.definitions.now) _ _ _ c.in-Closure.id c.in-Closure.closure _ c.in-Closure.is c.requires (c.args-in-Closure.ensures.fits, c.args-in-Closure.ensures.tree) c.takes-in-Closure.ensures

pub returns-in-Alias : goal.returns-in-Alias
returns-in-Alias c =
    alias-tests (world_of c.args.definitions.now) _ _ _ c.in-Alias.alias _ c.in-Alias.is c.requires (c.args-in-Alias.ensures.fits, c.args-in-Alias.ensures.tree) c.alias_takes.ensures

pub returns-in-Tuple : goal.returns-in-Tuple
returns-in-Tuple c =
    tuple-tests (world_of c.args.definitions.now) _ _ _ c.in-Tuple.args _ c.in-Tuple.is c.requires (c.args-in-Tuple.ensures.fits, c.args-in-Tuple.ensures.tree) c.are_type_args.ensures

pub returns-in-FnPtr : goal.returns-in-FnPtr
returns-in-FnPtr c =
    pointer-tests (world_of c.args.definitions.now) _ _ _ c.in-FnPtr.sig _ c.in-FnPtr.is c.requires (c.args-in-FnPtr.ensures.fits, c.args-in-FnPtr.ensures.tree) c.are_type_args-in-FnPtr.ensures

pub returns-in-Dynamic : goal.returns-in-Dynamic
returns-in-Dynamic c =
    surely _ c.holds_bounds.ensures.is (bounds-take (world_of c.args.definitions.now) _ _ _ _ c.in-Dynamic.is c.requires c.holds_bounds.ensures.kinds)

pub returns-in_default : goal.returns-in_default
returns-in_default c = surely _ refl (plain-takes (world_of c.args.definitions.now) _ _ (at c.args.kind refl) c.requires)
  where
    at : (k : TyKind) → c.args.kind ≡ k → asks k ≡ false
    at (K.Adt d a) e = absurd (c.in_default.not-Adt d a e)
    at (K.Foreign d) e = absurd (c.in_default.not-Foreign d e)
    at (K.FnDef d a) e = absurd (c.in_default.not-FnDef d a e)
    at (K.FnPtr s) e = absurd (c.in_default.not-FnPtr s e)
    at (K.Dynamic p r) e = absurd (c.in_default.not-Dynamic p r e)
    at (K.Closure d a) e = absurd (c.in_default.not-Closure d a e)
    at (K.Tuple a) e = absurd (c.in_default.not-Tuple a e)
    at (K.Alias a) e = absurd (c.in_default.not-Alias a e)
    at _ e = refl
