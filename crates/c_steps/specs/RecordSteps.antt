-- What the calls change of a lent record, and its drums with it. 01, "Numbers a call can answer". Assumes nothing.
use Rattle.std.specs.Prelude.{ℕ, cond, eqb, Bool}
use Rattle.refusals.specs.Numbers.{accepted}
use Rattle.answers.specs.declared.Counts.{Counts}
use Rattle.answers.specs.declared.Wrote.{Wrote}
use Rattle.channel.specs.declared.Drum.{Drum}
use Rattle.c_record.specs.declared.RecordDrum.{RecordDrum}
use Rattle.c_record.specs.Record.{drum_of, record_drum}
use Rattle.steps_channels.specs.declared.Three.{Three}
use Rattle.steps_channels.specs.declared.ThreeSet.{ThreeSet}
use Rattle.steps_cycles.specs.declared.Stamped.{Stamped}
use Rattle.steps_cycles.specs.declared.Synced.{Synced}
use Rattle.steps_effects.specs.declared.Flagged.{Flagged}
use Rattle.steps_effects.specs.declared.Triggered.{Triggered}
use Rattle.steps_voice.specs.declared.PortWritten.{PortWritten}
use Rattle.steps_voice.specs.declared.Voiced.{Voiced}
use Rattle.steps_ports.specs.declared.PortQueued.{PortQueued}
use Rattle.c_steps.specs.declared.RecordStep.{RecordStep}

-- A refused call changes nothing; an accepted one leaves the drum that the record holds, and one that is off has no level.
unfoldable pub settled : ℕ → RecordDrum → RecordDrum
settled number d = cond (eqb number accepted) (record_drum (drum_of d)) d

-- the three drums, by the call's number, beside what the step says
abbrev pub recorded : {S : Type 0} → ℕ → Three RecordDrum → S → RecordStep S
recorded number d step = record { drums = record { a = settled number d.a; b = settled number d.b; c = settled number d.c }; step = step }

abbrev pub record_stamped : Three RecordDrum → Stamped → RecordStep Stamped
record_stamped d s = recorded s.no d s

abbrev pub record_synced : Three RecordDrum → Synced → RecordStep Synced
record_synced d s = recorded s.no d s

abbrev pub record_voiced : Three RecordDrum → Voiced Wrote → RecordStep (Voiced Wrote)
record_voiced d v = recorded v.answer.no d v

abbrev pub record_loaded : Three RecordDrum → Voiced Counts → RecordStep (Voiced Counts)
record_loaded d l = recorded l.answer.no d l

abbrev pub record_port : Three RecordDrum → PortWritten → RecordStep PortWritten
record_port d p = recorded p.answer.no d p

abbrev pub record_flagged : Three RecordDrum → Flagged → RecordStep Flagged
record_flagged d f = recorded f.no d f

abbrev pub record_triggered : Three RecordDrum → Triggered → RecordStep Triggered
record_triggered d t = recorded t.no d t

abbrev pub record_muted : Three RecordDrum → ThreeSet Bool → RecordStep (ThreeSet Bool)
record_muted d m = recorded m.no d m

abbrev pub record_queued : Three RecordDrum → PortQueued → RecordStep PortQueued
record_queued d p = recorded p.no d p

abbrev pub drums_of : Three RecordDrum → Three Drum
drums_of d = record { a = drum_of d.a; b = drum_of d.b; c = drum_of d.c }

-- the drums themselves: an accepted call leaves those of the step, a refused one those that were there
unfoldable pub record_drummed : Three RecordDrum → ThreeSet Drum → ThreeSet RecordDrum
record_drummed d s =
    cond (eqb s.no accepted)
    (record { values = record { a = record_drum s.values.a; b = record_drum s.values.b; c = record_drum s.values.c }; no = s.no })
    (record { values = d; no = s.no })
