use Rattle.std.proofs.Common.{refl}
use Rattle.assembly_text.proofs.Giving.{listed-alone}
use Rattle.assembly_text.proofs.solving.with_listed_alone.Goals as goal

pub returns-clause-ready : goal.returns-clause-ready
returns-clause-ready c = listed-alone _ c.args.given _ refl c.requires c.in_ok-normal_forms.ensures.forms

pub returns-clause-listed : goal.returns-clause-listed
returns-clause-listed c = c.in_ok-normal_forms.ensures.listed
