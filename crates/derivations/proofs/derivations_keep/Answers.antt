use Rattle.derivations.proofs.Assumed.{none_assumed}
use Rattle.derivations.proofs.Closing.{stays_derived}
use Rattle.derivations.proofs.PlainlyAsked.{plainly_ordinary}
use Rattle.derivations.proofs.Sharing.{facts_derive, shared_alone}
use Rattle.derivations.proofs.derivations_keep.Goals as goal

pub returns-clause-shared : goal.returns-clause-shared
returns-clause-shared g c = λ d l w e f h ts us x p q. shared_alone d l w x f us p q

pub returns-clause-instances : goal.returns-clause-instances
returns-clause-instances g c = λ d l u w o listing allowed e h ts x. stays_derived d l listing u w o allowed e h ts x

pub returns-clause-granted : goal.returns-clause-granted
returns-clause-granted g c = λ d l T u e h ts derived a. facts_derive d l T derived u e h ts a

pub returns-clause-ordinary : goal.returns-clause-ordinary
returns-clause-ordinary g c = λ d k a well few grows o x. none_assumed d k well few grows o a x

pub returns-clause-plain : goal.returns-clause-plain
returns-clause-plain g c = λ d well few asks. plainly_ordinary d well few asks
