-- `dump_frames::load_value` meets its contract: 22, then 8, then the frame's writes, counted (`Loading`). Assumes nothing.
use mathlib.Core.Path.{sym, ◌∙◌}
use Rattle.laws.proofs.Tests.{on-no, on-yes}
use Rattle.dump_frames.proofs.Loading.{load-reports, not-false, reported}
use mathlib.Core.Bool.{not}
use mathlib.Core.Path.{ap}
use Rattle.dump_frames.proofs.load_value.Goals as goal

pub returns-then-not-in_range : goal.returns-then-not-in_range
returns-then-not-in_range c = on-no _ _ _ _ _ c.in_range.ensures (ap not c.if-not-in_range.true) c.not_loaded.ensures ∙ sym (reported _ _)

pub returns-then-not-is_frame : goal.returns-then-not-is_frame
returns-then-not-is_frame c = on-yes _ _ _ _ _ c.in_range.ensures (ap not c.if-not-in_range.false) (on-no _ _ _ _ _ c.is_frame.ensures (ap not c.if-not-is_frame.true) c.not_loaded-then-not-is_frame.ensures)
    ∙ sym (reported _ _)

pub write_frame-after-requires : goal.write_frame-after-requires
write_frame-after-requires c = not-false _ c.is_frame.ensures (ap not c.if-not-is_frame.false)

pub restarts-requires : goal.restarts-requires
restarts-requires c = not-false _ c.is_frame.ensures (ap not c.if-not-is_frame.false)

pub returns : goal.returns
returns c = on-yes _ _ _ _ _ c.in_range.ensures (ap not c.if-not-in_range.false)
    (on-yes _ _ _ _ _ c.is_frame.ensures (ap not c.if-not-is_frame.false)
    (load-reports _ _ c.write_frame-after.ensures c.differences.ensures c.restarts.ensures c.with_voice-chip.ensures))
    ∙ sym (reported _ _)
