-- A record whose variant is above 2 gives 22, whatever is called. Assumes nothing.
use mathlib.Core.Bool.{Bool, true, false}
use mathlib.Core.List.{List, [], ◌∷◌}
use mathlib.Core.Path.{◌≡◌, refl, ap, ◌∙◌}
use Prim.Native.Nat.{◌<◌}
use borrow.Author.Tests.{lt-leb}
use lib.Dec.{leb}
use Rattle.refusals.specs.Numbers.{out_of_range}
use Rattle.laws.specs.All.{holds}
use Rattle.voice_range.specs.Range.{voice_in}
use Rattle.chip.specs.declared.Chip.{Chip}
use Rattle.chip.specs.Range.{clocks_in, core_in, chip_in}
use Rattle.variants.specs.Variants.{variant_in}
use Rattle.answers.specs.Answers.{answered}
use Rattle.answers.specs.declared.Answered.{Answered}
use Rattle.laws_promises.specs.History.{Call, answers, after}
use Rattle.laws_promises.proofs.OutOfRange.{out_of_range_lem}

-- the test fails at the variant, whatever the clocks are
second-fails : (a b : Bool) (l : List Bool) → b ≡ false → holds (a ∷ b ∷ l) ≡ false
second-fails false b l e = refl
second-fails true b l e = rw e

core-out : (c : Chip) → 2 < c.core.variant → core_in c.core ≡ false
unfolding core_in variant_in
core-out c h =
    let k = c.core in
    second-fails (clocks_in k.clocks k.accumulator) (leb k.variant 2) (voice_in k.voice ∷ leb k.selected 15 ∷ []) (lt-leb k.variant 2 h)

not_in : (c : Chip) → 2 < c.core.variant → chip_in c ≡ false
unfolding chip_in
not_in c h = rw (core-out c h)

pub gives-22 : (x : Call) (c : Chip) → 2 < c.core.variant → answers x c ≡ answered out_of_range c
gives-22 x c h = out_of_range_lem x c (not_in c h)

pub stays : (calls : List Call) (c : Chip) → 2 < c.core.variant → after calls c ≡ c
unfolding after
stays [] c h = refl
stays (x ∷ calls) c h = ap (λ (a : Answered). after calls a.chip) (gives-22 x c h) ∙ stays calls c h
