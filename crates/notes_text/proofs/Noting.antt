-- One line: the master's number, and a note. Assumes nothing.
use mathlib.Core.Bool.{false}
use mathlib.Core.List.{List}
use mathlib.Core.Path.{◌≡◌, refl}
use Prim.Native.Nat.{ℕ, ◌+◌, ◌≤◌, ◌<◌}
use native.Mathlib.Omega.{arith}
use borrow.Author.Tests.{lt-leb, ne_eqb}
use lib.ListN.{length}
use Rattle.std.specs.Prelude.{Option, Some, None, Ok}
use Rattle.text_lines.specs.Bytes.{bytes}
use Rattle.text_entries.specs.Entries.{line_entry_at}
use Rattle.pitch.specs.Pitch.{pitch_in, nearest_period}
use Rattle.notes_text.specs.Checked.{master_line, period_line, note_at}
use Rattle.notes_text.proofs.Long.{read-long}

-- a number past 32 bits is refused as the highest of 32 bits is
pitch-high : (pitch : ℕ) → 20000000 < pitch → pitch_in pitch ≡ false
unfolding pitch_in
pitch-high pitch h = rw (ne_eqb pitch 0 (λ e. omega arith), lt-leb pitch 20000000 h)

pub high-same : (master pitch : ℕ) → 4294967295 < pitch → nearest_period master 4294967295 ≡ nearest_period master pitch
unfolding nearest_period
high-same master pitch h = rw (pitch-high 4294967295 (omega arith), pitch-high pitch (omega arith))

-- an accepted line was read
module _ {value : Option ℕ} {n : ℕ} where
  pub master-read : master_line value ≡ Ok n → value ≡ Some n
  unfolding master_line
  master-read e = grind arith

pub period-read : (master : ℕ) (value : Option ℕ) {n : ℕ} → period_line master value ≡ Ok n → (pitch : ℕ) × (value ≡ Some pitch) × (nearest_period master pitch ≡ Ok n)
unfolding period_line
period-read master None e = absurd cc
period-read master (Some pitch) e = (pitch, refl, e)

-- an accepted note's line has 8 bytes or more, inside the text
pub record Moved (t : List ℕ) (at next : ℕ) : Type 0 where
  pub after : at + 8 ≤ next
  pub inside : next ≤ length t

pub note-moves : (master : ℕ) (t : List ℕ) (at : ℕ) {n : ℕ} → (note_at master t at).value ≡ Ok n → Moved t at (note_at master t at).next
unfolding note_at
note-moves master t at e =
    let l = read-long (bytes "pitch=") t at (period-read master (line_entry_at (bytes "pitch=") t at).value e).1 in record { after = omega (arith, l.after); inside = omega (arith, l.inside) }

pub master-inside : (t : List ℕ) {n : ℕ} → master_line (line_entry_at (bytes "master=") t 0).value ≡ Ok n → (line_entry_at (bytes "master=") t 0).next ≤ length t
master-inside t e = (read-long (bytes "master=") t 0 (master-read e)).inside
