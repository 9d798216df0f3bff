use Rattle.ir_builder.proofs.Hierarchy.Supers.{term_subject, type_subject, region_subject, related_subject, equated_subject}
use Rattle.ir_builder.proofs.decl.supers.subject.Goals as goal

pub returns-in-None-first : goal.returns-in-None-first
returns-in-None-first c = term_subject c.args.nodes.now c.args.clause c.in-Projection.predicate c.in-Projection.is c.requires c.in-None-first.ensures

pub returns-in-TypeOutlives : goal.returns-in-TypeOutlives
returns-in-TypeOutlives c = type_subject c.args.nodes.now c.args.clause c.in-TypeOutlives.ty c.in-TypeOutlives.field-1 c.in-TypeOutlives.is c.requires

pub returns-in-RegionOutlives : goal.returns-in-RegionOutlives
returns-in-RegionOutlives c = region_subject c.args.nodes.now c.args.clause c.in-RegionOutlives.region c.in-RegionOutlives.field-1 c.in-RegionOutlives.is c.requires

pub returns-in-AliasRelate : goal.returns-in-AliasRelate
returns-in-AliasRelate c = related_subject c.args.nodes.now c.args.clause c.in-AliasRelate.left c.in-AliasRelate.field-1 c.in-AliasRelate.is c.requires

pub returns-in-ConstEquate : goal.returns-in-ConstEquate
returns-in-ConstEquate c = equated_subject c.args.nodes.now c.args.clause c.in-ConstEquate.left c.in-ConstEquate.field-1 c.in-ConstEquate.is c.requires
