-- What the IRQ flag's call and the envelope's trigger change of a lent record. 01, "Registers and ports". Assumes nothing.
use Rattle.std.specs.Prelude.{ℕ, Bool, cond, false, true}
use Rattle.envelope.specs.Envelope.{restarted}
use Rattle.envelope.specs.declared.Envelope.{Envelope}
use Rattle.generators.specs.Generators.{tones_released}
use Rattle.generators.specs.declared.Generators.{Generators}
use Rattle.refusals.specs.Numbers.{accepted, out_of_range}
use Rattle.steps_effects.specs.declared.Flagged.{Flagged}
use Rattle.steps_effects.specs.declared.Triggered.{Triggered}

-- `trigger_envelope` restarts at -64, counter 0, same shape.
unfoldable pub trigger_set : Bool → Envelope → Triggered
trigger_set ok envelope = cond ok (record { envelope = restarted envelope; no = accepted }) (record { envelope = envelope; no = out_of_range })

abbrev pub flagged : Generators → Bool → ℕ → Flagged
flagged generators irq number = record { generators = generators; irq = irq; no = number }

-- A call setting the IRQ flag off flips each pending channel once, clears its counter, and unmarks it.
unfoldable pub flag_set : Bool → Generators → Bool → Bool → Flagged
flag_set ok generators irq on =
    cond ok
    (cond on (flagged generators true accepted) (flagged (tones_released generators) false accepted))
    (flagged generators irq out_of_range)
