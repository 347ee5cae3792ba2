-- The test that answers 22. 01, "What changes shape": "As a caller can hand in any record, calls test it"; 02, request 05, for the variant.
-- From "stored bytes within masks" to "gate masks to 0x7fff" it is `voice_in`, on the page of `voice_range`. Assumes nothing.
use Rattle.std.specs.Prelude.{Bool, List, [], ◌∷◌, ℕ, ◌*◌, ◌/◌, ◌<◌, leb, ltb, eqb}
use Rattle.laws.specs.All.{holds}
use Rattle.refusals.specs.Numbers.{accepted}
use Rattle.registers.specs.declared.Voice.{Voice}
use Rattle.registers.specs.Range.{VoiceInRange}
use Rattle.voice_range.specs.Range.{voice_in}
use Rattle.queue.specs.Waiting.{bare, queue_in}
use Rattle.chip.specs.declared.Clocks.{Clocks}
use Rattle.chip.specs.declared.Core.{Core}
use Rattle.chip.specs.declared.Chip.{Chip}
use Rattle.clocks.specs.Range.{ClocksRun}
use Rattle.clocks.specs.Clocks.{clocks_no}
use Rattle.variants.specs.Variants.{variant_in}

-- accepted clocks and their quotients, accumulator below the rate,
unfoldable pub clocks_in : Clocks → ℕ → Bool
clocks_in k accumulator =
    holds (
    eqb (clocks_no k.master k.rate) accepted
    ∷ eqb k.internal (k.master / 8)
    ∷ eqb k.cycles (4 * k.master / k.rate)
    ∷ ltb accumulator k.rate
    ∷ []
    )

-- 02: "a record with a variant above 2 gives 22"; stored bytes [...] gate masks to 0x7fff, the selection [...] to 15,
unfoldable pub core_in : Core → Bool
core_in c = holds (clocks_in c.clocks c.accumulator ∷ variant_in c.variant ∷ voice_in c.voice ∷ leb c.selected 15 ∷ [])

-- each waiting write's register to 15, at most 256 waiting, the ring's place below 256.
unfoldable pub chip_in : Chip → Bool
chip_in c = holds (core_in c.core ∷ queue_in c.queue ∷ [])

-- The same, by the parts of the record that it looks at.
unfoldable pub parts_in : Clocks → ℕ → ℕ → Voice → ℕ → List ℕ → ℕ → ℕ → Bool
parts_in clocks accumulator variant voice selected registers head count =
    holds (clocks_in clocks accumulator ∷ variant_in variant ∷ voice_in voice ∷ leb selected 15 ∷ queue_in (bare registers head count) ∷ [])

-- What the test gives, and an inner call asks of its caller: accepted clocks and their quotients, accumulator below the rate.
pub record CoreInRange (c : Core) : Type 0 where
  pub run : ClocksRun c.accumulator c.clocks.rate c.clocks.internal
  pub cycles : c.clocks.cycles < 4294967296
  pub voice : VoiceInRange c.voice
