-- One line of a dump. 01, "The dump player": "line by line, form before range". Assumes nothing.
use Rattle.std.specs.Prelude.{ℕ, Bool, false, cond, List, ltb, eqb, length, Option, None, Some, Result, Ok, Err}
use Rattle.refusals.specs.declared.Refusal.{Refusal}
use Rattle.refusals.specs.declared.Refusal.TheVariants.{LineNotOfForm, SizeOutOfRange}
use Rattle.clocks.specs.Clocks.{accept_master, accept_rate}
use Rattle.text_fields.specs.Fields.{all_hex}
use Rattle.text_lines.specs.Bytes.{bytes}
use Rattle.text_lines.specs.Lines.{value_at}

-- the value that a test accepted
abbrev pub accepted_value : ℕ → Result (Unit {0}) Refusal → Result ℕ Refusal
accepted_value n (Ok _) = Ok n
accepted_value n (Err why) = Err why

-- line 1, `master=`: 1
unfoldable pub master_line : Option ℕ → Result ℕ Refusal
master_line None = Err LineNotOfForm
master_line (Some master) = accepted_value master (accept_master master)

-- line 2, `rate=`: 2, 3
unfoldable pub rate_line : ℕ → Option ℕ → Result ℕ Refusal
rate_line master None = Err LineNotOfForm
rate_line master (Some rate) = accepted_value rate (accept_rate master rate)

-- line 3, `words=` (1..4,096 per frame)
unfoldable pub words_line : Option ℕ → Result ℕ Refusal
words_line None = Err LineNotOfForm
words_line (Some words) =
    cond (eqb words 0) (Err SizeOutOfRange)
    (cond (ltb 4096 words) (Err SizeOutOfRange)
    (Ok words))

-- line 4, `frames=` (0..1,900)
unfoldable pub frames_line : Option ℕ → Result ℕ Refusal
frames_line None = Err LineNotOfForm
frames_line (Some frames) = cond (ltb 1900 frames) (Err SizeOutOfRange) (Ok frames)

-- a frame's value: 28 lower-case hex digits
unfoldable pub is_frame : List ℕ → Bool
is_frame value = cond (eqb (length value) 28) (all_hex value) false

-- a frame's line at a place: `regs=` and its value
unfoldable pub frame_at : List ℕ → ℕ → Bool
frame_at text at = is_frame (value_at (bytes "regs=") text at)
