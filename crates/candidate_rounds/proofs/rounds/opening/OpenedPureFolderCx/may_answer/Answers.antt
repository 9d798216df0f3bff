use Rattle.candidate_rounds.proofs.rounds.opening.OpenedPureFolderCx.may_answer.Goals as goal

pub returns : goal.returns
returns c = λ ts d t are off. absurd cc
