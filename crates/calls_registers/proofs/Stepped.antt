-- The register writes are what their steps make of the chip's voice and report of it. Assumes nothing.
use mathlib.Core.Path.{◌≡◌, refl}
use mathlib.Core.Bool.{Bool, true, false, cond}
use mathlib.Core.List.{List}
use Prim.Native.Nat.{ℕ}
use Rattle.refusals.specs.Numbers.{accepted, out_of_range}
use Rattle.registers.specs.declared.Voice.{Voice}
use Rattle.registers.specs.Registers.{apply_register}
use Rattle.registers.specs.Writes.{RegisterWrite, loaded, load_writes}
use Rattle.write_effects.specs.Effects.{changed_by, changes_in, restarted_by, restarts_in}
use Rattle.chip.specs.declared.Chip.{Chip}
use Rattle.chip.specs.Range.{chip_in}
use Rattle.chip_parts.specs.Parts.{with_voice}
use Rattle.answers.specs.Answers.{answered}
use Rattle.answers.specs.Reports.{applied, bytes_of, counts, written, wrote}
use Rattle.answers.specs.declared.Applied.{Applied}
use Rattle.answers.specs.declared.Written.{Written}
use Rattle.answers.specs.declared.Wrote.{Wrote}
use Rattle.answers.specs.declared.Counts.{Counts}
use Rattle.steps_voice.specs.declared.Voiced.{Voiced}
use Rattle.steps_voice.specs.VoiceSteps.{voiced, voiced_all}
use Rattle.calls_registers.specs.Stored.{loaded_registers, load_registers, write_register, wrote_register}

-- the chip after a step, and the step's answer
abbrev pub with-voiced : Voiced Wrote → Chip → Written
with-voiced r c = record { chip = with_voice r.voice c; answer = r.answer }

abbrev pub with-loaded : Voiced Counts → Chip → Applied
with-loaded r c = record { chip = with_voice r.voice c; answer = r.answer }

write_same : (ok : Bool) (c : Chip) (w : Voice) (changed restarted : Bool)
    → with-voiced (cond ok (record { voice = w; answer = wrote accepted changed restarted }) (record { voice = c.core.voice; answer = wrote out_of_range false false })) c
    ≡ written changed restarted (cond ok (answered accepted (with_voice w c)) (answered out_of_range c))
write_same true c w changed restarted = refl
write_same false c w changed restarted = refl

pub write-set : (register value : ℕ) (c : Chip) → with-voiced (voiced (chip_in c) register value c.core.voice) c ≡ wrote_register register value c
unfolding wrote_register write_register voiced
write-set register value c = write_same (chip_in c) c (apply_register register value c.core.voice) (changed_by register value (bytes_of c)) (restarted_by register)

load_same : (ok : Bool) (c : Chip) (w : Voice) (writes : List RegisterWrite)
    → with-loaded (cond ok (record { voice = w; answer = counts accepted (changes_in writes (bytes_of c)) (restarts_in writes) }) (record { voice = c.core.voice; answer = counts out_of_range 0 0 })) c
    ≡ applied writes c (cond ok (answered accepted (with_voice w c)) (answered out_of_range c))
load_same true c w writes = refl
load_same false c w writes = refl

pub load_set : (bytes : List ℕ) (c : Chip) → with-loaded (voiced_all (chip_in c) bytes c.core.voice) c ≡ loaded_registers bytes c
unfolding loaded_registers load_registers voiced_all
load_set bytes c = load_same (chip_in c) c (loaded bytes c.core.voice) (load_writes bytes)
