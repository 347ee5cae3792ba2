-- `envelope_wave::Wave::entry` meets its contract: a shift to the right divides by a power of two. Assumes nothing.
use mathlib.Core.Path.{refl}
use Rattle.envelope_wave.specs.Wave.{wave_entry}
use Rattle.envelope_wave.proofs.Wave.entry.Goals as goal

pub returns : goal.returns
unfolding wave_entry
returns c = refl
