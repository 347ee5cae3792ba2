-- `envelope_wave::wave_after` meets its contract: where the offsets are equal, so are their waves. Assumes nothing.
use Rattle.envelope_wave.proofs.Entries.{same_shape}
use Rattle.envelope_wave.proofs.wave_after.Goals as goal

pub returns-then-offset-wave : goal.returns-then-offset-wave
returns-then-offset-wave c = search same_shape
