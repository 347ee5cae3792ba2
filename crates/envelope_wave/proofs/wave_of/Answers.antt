-- `envelope_wave::wave_of` meets its contract. Assumes nothing.
use Rattle.envelope_wave.specs.Wave.{wave_of}
use Rattle.envelope_wave.proofs.wave_of.Goals as goal

pub returns : goal.returns
unfolding wave_of
returns c = rw (c.at_step-last.ensures, c.at_step-first.ensures)
