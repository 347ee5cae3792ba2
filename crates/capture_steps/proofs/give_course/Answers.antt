-- `capture_steps::give_course` meets its contract: words, or the line of a write that was refused (`Giving`). Assumes nothing.
use Rattle.capture_steps.proofs.Giving.{course-refused, course-words}
use Rattle.capture_steps.proofs.give_course.Goals as goal

pub returns-then-passed-ne-ACCEPTED : goal.returns-then-passed-ne-ACCEPTED
returns-then-passed-ne-ACCEPTED c = let both = course-refused _ _ _ c.pass_due-passed.ensures c.if-passed-ne-ACCEPTED.true (c.give_last_line.ensures.answer, c.give_last_line.ensures.buffer) in record { answer = both.0; buffer = both.1 }

pub returns : goal.returns
returns c = let a = c.args in let both = course-words a.text.now a.out.now a.player c.pass_due-passed.ensures c.if-passed-ne-ACCEPTED.false (c.give_words.ensures.answer, c.give_words.ensures.buffer) in record { answer = both.0; buffer = both.1 }
