-- The test of a record by its parts is the test of the record. Assumes nothing.
use mathlib.Core.Bool.{Bool, true, false}
use mathlib.Core.List.{[], ◌∷◌}
use mathlib.Core.Path.{◌≡◌, refl, ap, ◌∙◌}
use lib.Dec.{leb}
use Rattle.laws.specs.All.{holds}
use Rattle.variants.specs.Variants.{variant_in}
use Rattle.voice_range.specs.Range.{voice_in}
use Rattle.queue.specs.Waiting.{queue_in}
use Rattle.queue.proofs.Range.{bare-same}
use Rattle.chip.specs.declared.Chip.{Chip}
use Rattle.chip.specs.Range.{clocks_in, core_in, chip_in, parts_in}

four-and-one : (a b c d e : Bool) → holds (a ∷ b ∷ c ∷ d ∷ e ∷ []) ≡ holds (holds (a ∷ b ∷ c ∷ d ∷ []) ∷ e ∷ [])
four-and-one false b c d e = refl
four-and-one true false c d e = refl
four-and-one true true false d e = refl
four-and-one true true true false e = refl
four-and-one true true true true e = refl

pub by_parts : (c : Chip) → parts_in c.core.clocks c.core.accumulator c.core.variant c.core.voice c.core.selected c.queue.registers c.queue.head c.queue.count ≡ chip_in c
unfolding chip_in core_in parts_in
by_parts c =
    ap (λ (t : Bool). holds (clocks_in c.core.clocks c.core.accumulator ∷ variant_in c.core.variant ∷ voice_in c.core.voice ∷ leb c.core.selected 15 ∷ t ∷ [])) (bare-same c.queue)
    ∙ four-and-one (clocks_in c.core.clocks c.core.accumulator) (variant_in c.core.variant) (voice_in c.core.voice) (leb c.core.selected 15) (queue_in c.queue)
