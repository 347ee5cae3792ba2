-- The calls are what their steps make of the chip's envelope, and of its generators and IRQ flag. Assumes nothing.
use mathlib.Core.Path.{◌≡◌, refl}
use mathlib.Core.Bool.{Bool, true, false, cond}
use Rattle.refusals.specs.Numbers.{accepted, out_of_range}
use Rattle.envelope.specs.Envelope.{restarted}
use Rattle.generators.specs.Generators.{tones_released}
use Rattle.registers.specs.Registers.{with_envelope, with_generators}
use Rattle.chip.specs.declared.Chip.{Chip}
use Rattle.chip.specs.Range.{chip_in}
use Rattle.chip_parts.specs.Parts.{on_voice}
use Rattle.answers.specs.Answers.{answered}
use Rattle.answers.specs.declared.Answered.{Answered}
use Rattle.steps_effects.specs.declared.Flagged.{Flagged}
use Rattle.steps_effects.specs.declared.Triggered.{Triggered}
use Rattle.steps_effects.specs.EffectSteps.{flagged, flag_set, trigger_set}
use Rattle.calls_effects.specs.Effects.{irq_set, set_timer_irq_state, triggered, trigger_envelope, with_irq}

-- the chip after a step, and its number
abbrev pub flags : Flagged → Chip → Answered
flags r c = answered r.no (on_voice (λ v. with_irq r.irq (with_generators r.generators v)) c)

flags-same : (ok on : Bool) (c : Chip)
    → flags (cond ok (cond on (flagged c.core.voice.generators true accepted) (flagged (tones_released c.core.voice.generators) false accepted)) (flagged c.core.voice.generators c.core.voice.irq out_of_range)) c
    ≡ cond ok (answered accepted (on_voice (λ v. cond on (with_irq true v) (with_irq false (with_generators (tones_released v.generators) v))) c)) (answered out_of_range c)
flags-same true true c = refl
flags-same true false c = refl
flags-same false on c = refl

pub flags-set : (on : Bool) (c : Chip) → flags (flag_set (chip_in c) c.core.voice.generators c.core.voice.irq on) c ≡ set_timer_irq_state on c
unfolding flag_set irq_set set_timer_irq_state
flags-set on c = flags-same (chip_in c) on c

abbrev pub triggers : Triggered → Chip → Answered
triggers r c = answered r.no (on_voice (with_envelope r.envelope) c)

triggers-same : (ok : Bool) (c : Chip)
    → triggers (cond ok (record { envelope = restarted c.core.voice.generators.envelope; no = accepted }) (record { envelope = c.core.voice.generators.envelope; no = out_of_range })) c ≡ cond ok (answered accepted (on_voice triggered c)) (answered out_of_range c)
triggers-same true c = refl
triggers-same false c = refl

pub triggers-set : (c : Chip) → triggers (trigger_set (chip_in c) c.core.voice.generators.envelope) c ≡ trigger_envelope c
unfolding trigger_set trigger_envelope
triggers-set c = triggers-same (chip_in c) c
