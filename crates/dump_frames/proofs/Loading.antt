-- What loading a frame reports, by the two tests that it makes, and the law for the last return of `load_value`. Assumes nothing.
use mathlib.Core.Bool.{Bool, true, false, not, cond}
use mathlib.Core.Path.{◌≡◌, refl, sym, ◌∙◌}
use mathlib.Core.List.{List}
use Prim.Native.Nat.{ℕ}
use Rattle.refusals.specs.Numbers.{accepted, line_not_of_form, out_of_range}
use Rattle.registers.specs.declared.Voice.{Voice}
use Rattle.registers.specs.Writes.{RegisterWrite, applied_in_order}
use Rattle.write_effects.specs.Effects.{changes_in, differences, restarts_in}
use Rattle.dump_lines.specs.OneLine.{is_frame}
use Rattle.dump_writes.specs.Writes.{frame_writes}
use Rattle.dump_writes.proofs.Counted.{frame-changes}
use Rattle.chip.specs.declared.Chip.{Chip}
use Rattle.chip.specs.Range.{chip_in}
use Rattle.chip_parts.specs.Parts.{with_voice}
use Rattle.answers.specs.Answers.{answered}
use Rattle.answers.specs.Reports.{applied, bytes_of, counts}
use Rattle.answers.specs.declared.Applied.{Applied}
use Rattle.answers.proofs.Laws.{of_some, some_is}
use Rattle.dump_frames.specs.Frame.{frame_chip, frame_loaded, frame_reported, load_refused}

pub not-false : (r : Bool) {t : Bool} → r ≡ t → not r ≡ false → t ≡ true
not-false true e n = sym e
not-false false e n = let z : true ≡ false = n in sym e ∙ sym z

-- a chip d in place of c, and the writes that made it counted
abbrev pub reports : List RegisterWrite → Chip → Chip → Applied
reports writes c d = record { chip = d; answer = counts accepted (changes_in writes (bytes_of c)) (restarts_in writes) }

module _ (value : List ℕ) (c : Chip) where
  -- the number and the chip are the load's own
  pub reported-is : frame_loaded value c ≡ of_some (frame_reported value c)
  unfolding frame_reported
  reported-is = some_is (frame_writes value) c (frame_loaded value c)

  by_tests : (t s : Bool)
      → applied (frame_writes value) c (cond t (cond s (answered accepted (frame_chip value c)) (answered line_not_of_form c)) (answered out_of_range c))
      ≡ cond t (cond s (reports (frame_writes value) c (frame_chip value c)) (load_refused line_not_of_form c)) (load_refused out_of_range c)
  by_tests true true = refl
  by_tests true false = refl
  by_tests false s = refl

  pub reported : frame_reported value c ≡ cond (chip_in c) (cond (is_frame value) (reports (frame_writes value) c (frame_chip value c)) (load_refused line_not_of_form c)) (load_refused out_of_range c)
  unfolding frame_reported frame_loaded
  reported = by_tests (chip_in c) (is_frame value)

  -- the voice after the frame's writes, the bytes that differ, and its restarts
  pub load-reports : {v : Voice} {changed restarted : ℕ} {d : Chip} → v ≡ applied_in_order (frame_writes value) c.core.voice
      → changed ≡ differences 14 0 (bytes_of c) v.registers → restarted ≡ restarts_in (frame_writes value) → d ≡ with_voice v c
      → record { chip = d; answer = counts accepted changed restarted } ≡ reports (frame_writes value) c (frame_chip value c)
  unfolding frame_chip
  load-reports {v} e f g h =
      let made = rw e at h in
      let changes = frame-changes value c.core.voice e f in
      λ i. record { chip = made i; answer = counts accepted (changes i) (g i) }
