-- What a handed-in record must be, where its type does not settle it. 01, "What changes shape". Assumes nothing.
use Rattle.tone.specs.Range.{ToneInRange}
use Rattle.noise.specs.Range.{NoiseInRange}
use Rattle.envelope.specs.Range.{EnvelopeInRange}
use Rattle.generators.specs.declared.Generators.{Generators}

pub record GeneratorsInRange (g : Generators) : Type 0 where
  pub a : ToneInRange 0 g.a
  pub b : ToneInRange 1 g.b
  pub c : ToneInRange 2 g.c
  pub noise : NoiseInRange g.noise
  pub envelope : EnvelopeInRange g.envelope
