-- What a call that applies register writes reports beside its number. 02, request 03: "Words and state are as before": each of these has the
-- chip and the number that the call's own definition gives. Assumes nothing.
use Rattle.std.specs.Prelude.{ℕ, Bool, cond, false, List, eqb}
use Rattle.answers.specs.declared.Answered.{Answered}
use Rattle.answers.specs.declared.Applied.{Applied}
use Rattle.answers.specs.declared.Counts.{Counts}
use Rattle.answers.specs.declared.Written.{Written}
use Rattle.answers.specs.declared.Wrote.{Wrote}
use Rattle.chip.specs.declared.Chip.{Chip}
use Rattle.refusals.specs.Numbers.{accepted}
use Rattle.registers.specs.Writes.{RegisterWrite}
use Rattle.write_effects.specs.Effects.{changes_in, restarts_in}

abbrev pub wrote : ℕ → Bool → Bool → Wrote
wrote number changed restarted = record { no = number; changed = changed; restarted = restarted }

abbrev pub counts : ℕ → ℕ → ℕ → Counts
counts number changed restarted = record { no = number; changed = changed; restarted = restarted }

-- One write. "A refused call reports 0 and 0": no and no.
abbrev pub written : Bool → Bool → Answered → Written
written changed restarted a =
    record {
      chip = a.chip;
      answer = cond (eqb a.no accepted) (wrote a.no changed restarted) (wrote a.no false false);
    }

-- the stored bytes that a call finds
abbrev pub bytes_of : Chip → List ℕ
bytes_of c = c.core.voice.registers

-- The writes that a call applies to a chip, counted.
abbrev pub applied : List RegisterWrite → Chip → Answered → Applied
applied writes c a =
    record {
      chip = a.chip;
      answer = cond (eqb a.no accepted) (counts a.no (changes_in writes (bytes_of c)) (restarts_in writes)) (counts a.no 0 0);
    }
