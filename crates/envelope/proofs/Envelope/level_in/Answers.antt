-- `envelope::Envelope::level_in` meets its contract: its place is below 128, and there the wave gives the rule's entry. Assumes nothing.
use mathlib.Core.Path.{◌∙◌}
use Rattle.envelope_wave.proofs.Entries.{wave-entry}
use Rattle.envelope.specs.Envelope.{envelope_level}
use Rattle.envelope.proofs.Places.{place-lt, placed}
use Rattle.envelope.proofs.Envelope.level_in.Goals as goal

pub returns : goal.returns
unfolding envelope_level
returns c = let e = c.requires.envelope_in_range in
    c.entry.ensures
    ∙ rw (placed _ e.position c.place.ensures, c.requires.wave_value) (wave-entry _ _ e.offset (place-lt _ e.position))
