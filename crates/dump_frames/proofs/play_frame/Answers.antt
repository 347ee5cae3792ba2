-- `dump_frames::play_frame` meets its contract: a law of `Playing` for each return. Assumes nothing.
use Rattle.dump_frames.proofs.Few.{changed-fits, restarted-fits}
use Rattle.dump_frames.proofs.Playing.{load-refused, block_refused_lem, frame-played}
use Rattle.dump_frames.proofs.play_frame.Goals as goal

pub returns-then-loaded-ne-ACCEPTED : goal.returns-then-loaded-ne-ACCEPTED
returns-then-loaded-ne-ACCEPTED c = let both = load-refused _ _ _ _ c.load_frame-loaded.ensures c.if-loaded-ne-ACCEPTED.true c.refused.ensures in record { answer = both.0; buffer = both.1 }

pub returns-then-played-ne-ACCEPTED : goal.returns-then-played-ne-ACCEPTED
returns-then-played-ne-ACCEPTED c = let both = block_refused_lem _ _ _ _ c.load_frame-loaded.ensures c.if-loaded-ne-ACCEPTED.false c.block-played.ensures.answer c.block-played.ensures.buffer c.if-played-ne-ACCEPTED.true c.refused-then-played-ne-ACCEPTED.ensures in record { answer = both.0; buffer = both.1 }

pub with_load-answer-requires : goal.with_load-answer-requires
with_load-answer-requires c = let loads = c.load_frame-loaded.ensures in record { changed_bound = changed-fits _ _ _ loads c.block-played.ensures.answer; restarted_bound = restarted-fits _ _ _ loads c.block-played.ensures.answer }

pub returns : goal.returns
returns c = let both = frame-played _ _ _ _ c.load_frame-loaded.ensures c.if-loaded-ne-ACCEPTED.false c.block-played.ensures.answer c.block-played.ensures.buffer c.if-played-ne-ACCEPTED.false c.with_load-answer.ensures in record { answer = both.0; buffer = both.1 }
