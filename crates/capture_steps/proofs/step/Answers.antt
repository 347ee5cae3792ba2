-- `capture_steps::step` meets its contract: a law of `Giving` for each return. Assumes nothing.
use Rattle.capture_steps.proofs.Giving.{too_short, first_step_lem, all-given, last_step_lem, course-step}
use Rattle.capture_steps.proofs.step.Goals as goal

pub returns-then-out-lt-LEAST_ROOM : goal.returns-then-out-lt-LEAST_ROOM
returns-then-out-lt-LEAST_ROOM c = let both = too_short _ _ _ c.if-out-lt-LEAST_ROOM.true in record { answer = both.0; buffer = both.1 }

pub returns-then-not-player : goal.returns-then-not-player
returns-then-not-player c = let both = first_step_lem _ _ _ c.if-out-lt-LEAST_ROOM.false c.if-not-player.true (c.give_first_line.ensures.answer, c.give_first_line.ensures.buffer) in record { answer = both.0; buffer = both.1 }

pub returns-then-player : goal.returns-then-player
returns-then-player c = let both = all-given _ _ _ c.if-out-lt-LEAST_ROOM.false c.if-not-player.false c.if-player.true in record { answer = both.0; buffer = both.1 }

pub returns-then-player-eq0 : goal.returns-then-player-eq0
returns-then-player-eq0 c = let both = last_step_lem _ _ _ c.if-out-lt-LEAST_ROOM.false c.if-not-player.false c.if-player.false c.if-player-eq0.true (c.give_last_line.ensures.answer, c.give_last_line.ensures.buffer) in record { answer = both.0; buffer = both.1 }

pub returns : goal.returns
returns c = let a = c.args in let both = course-step a.text.now a.out.now a.player c.if-out-lt-LEAST_ROOM.false c.if-not-player.false c.if-player.false c.if-player-eq0.false (c.give_course.ensures.answer, c.give_course.ensures.buffer) in record { answer = both.0; buffer = both.1 }
