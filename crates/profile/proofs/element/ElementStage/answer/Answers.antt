use Rattle.profile.proofs.element.ElementStage.answer.Goals as goal

pub returns-in-Lut8 : goal.returns-in-Lut8
returns-in-Lut8 c = rw c.in-Lut8.is c.answer.ensures

pub returns-in-Lut16 : goal.returns-in-Lut16
returns-in-Lut16 c = rw c.in-Lut16.is c.answer-in-Lut16.ensures
