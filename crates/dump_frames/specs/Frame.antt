-- Playing a frame. 01, "The dump player": "Each frame writes R0..R13 at once in order, then renders its words". Which registers those are,
-- request 02 amends: `frame_writes`. What its writes changed is reported: 02, request 03. Assumes nothing.
use Rattle.std.specs.Prelude.{cond, List, ℕ, ◌+◌, eqb}
use Rattle.refusals.specs.Numbers.{accepted, line_not_of_form, out_of_range}
use Rattle.dump_lines.specs.OneLine.{is_frame}
use Rattle.dump_writes.specs.Writes.{frame_writes}
use Rattle.registers.specs.Writes.{RegisterWrite, applied_in_order}
use Rattle.write_effects.specs.Effects.{changes_in, restarts_in}
use Rattle.chip.specs.declared.Chip.{Chip}
use Rattle.chip.specs.Range.{chip_in}
use Rattle.chip_parts.specs.Parts.{on_voice}
use Rattle.answers.specs.Answers.{answered, unless22}
use Rattle.answers.specs.Reports.{applied, bytes_of, counts}
use Rattle.answers.specs.declared.Answered.{Answered}
use Rattle.answers.specs.declared.Applied.{Applied}
use Rattle.answers.specs.declared.Blocked.{Blocked}
use Rattle.answers.specs.declared.Played.{Played}
use Rattle.calls_words.specs.Blocks.{block_refused, blocked, block_buffer}

-- at once: past the queue
unfoldable pub frame_chip : List ℕ → Chip → Chip
frame_chip value c = on_voice (applied_in_order (frame_writes value)) c

unfoldable pub frame_loaded : List ℕ → Chip → Answered
frame_loaded value c = unless22 c (cond (is_frame value) (answered accepted (frame_chip value c)) (answered line_not_of_form c))

-- its writes counted
unfoldable pub frame_reported : List ℕ → Chip → Applied
frame_reported value c = applied (frame_writes value) c (frame_loaded value c)

-- "A refused call reports 0 and 0."
abbrev pub load_refused : ℕ → Chip → Applied
load_refused number c = record { chip = c; answer = counts number 0 0 }

-- then renders its words: a frame is refused or played whole. It reports its own writes and those that its words apply, together.
abbrev pub added : ℕ → ℕ → Played → Played
added changed restarted p =
    record {
      no = p.no;
      words = p.words;
      ticks = p.ticks;
      changed = changed + p.changed;
      restarted = restarted + p.restarted;
    }

abbrev pub together : List RegisterWrite → Chip → Blocked → Blocked
together writes c b = record { chip = b.chip; answer = added (changes_in writes (bytes_of c)) (restarts_in writes) b.answer }

abbrev pub kept_if : List RegisterWrite → Chip → Blocked → Blocked
kept_if writes c b = cond (eqb b.answer.no accepted) (together writes c b) (block_refused b.answer.no c)

unfoldable pub frame_played : List ℕ → ℕ → Chip → Blocked
frame_played value n c =
    cond (chip_in c)
    (cond (is_frame value) (kept_if (frame_writes value) c (blocked n (frame_chip value c))) (block_refused line_not_of_form c))
    (block_refused out_of_range c)

unfoldable pub frame_buffer : List ℕ → List ℕ → Chip → List ℕ
frame_buffer value out c = cond (chip_in c) (cond (is_frame value) (block_buffer out (frame_chip value c)) out) out
