-- What a variant changes, claim by claim. 02, request 05. Nothing here is proved; `variants : Variants` is, in `proofs/Variants.antt`. That
-- chips of two variants share all else is on the page of `laws_alike`. Assumes nothing.
use Rattle.std.specs.Prelude.{true, false, cond, List, ◌≡◌, ℕ, ◌+◌, ◌*◌, ◌/◌, ◌%◌, ◌≤◌, ◌<◌, eqb}
use Rattle.refusals.specs.Numbers.{accepted, no_such_variant, out_of_range}
use Rattle.levels.specs.Levels.{level_used}
use Rattle.clocks.specs.Clocks.{clocks_no}
use Rattle.chip.specs.declared.Chip.{Chip}
use Rattle.chip.specs.Clocks.{clocks_of}
use Rattle.answers.specs.Answers.{answered}
use Rattle.calls_making.specs.Making.{made_of, fresh, with_clocks, with_variant}
use Rattle.laws_promises.specs.History.{Call, answers, after}

-- bit 4 of a volume is set: its level is the envelope's
abbrev pub ByEnvelope : ℕ → Type 0
ByEnvelope volume = eqb (volume / 16 % 2) 1 ≡ true

abbrev pub Fixed : ℕ → Type 0
Fixed volume = eqb (volume / 16 % 2) 1 ≡ false

pub record Variants : Type 0 where
  -- Variant 0 is 01's rule, as it was: "the envelope's if bit 4 of its volume is set, else twice the volume".
  pub variant-0 : (volume envelope : ℕ) → level_used 0 volume envelope ≡ cond (eqb (volume / 16 % 2) 1) envelope (volume % 16 * 2)
  -- Variant 1: "volume v uses level 2v + 1 for v from 1 to 15 and 0 for 0"; the envelope's levels are variant 0's.
  pub lifted : (volume envelope : ℕ) → Fixed volume → 0 < volume % 16 → level_used 1 volume envelope ≡ volume % 16 * 2 + 1
  pub silent : (volume envelope : ℕ) → Fixed volume → volume % 16 ≡ 0 → level_used 1 volume envelope ≡ 0
  pub as-it-is : (volume envelope : ℕ) → ByEnvelope volume → level_used 1 volume envelope ≡ envelope
  -- Variant 2: "an envelope level is used with its lowest bit cleared and fixed levels stay 2v".
  pub cleared : (volume envelope : ℕ) → ByEnvelope volume → level_used 2 volume envelope ≡ envelope / 2 * 2
  pub fixed : (volume envelope : ℕ) → Fixed volume → level_used 2 volume envelope ≡ volume % 16 * 2
  -- Inside the layers a variant above 2 is taken as 0, and in each a level that is used is one of the 32.
  pub above : (variant volume envelope : ℕ) → 2 < variant → level_used variant volume envelope ≡ level_used 0 volume envelope
  pub below-32 : (variant volume envelope : ℕ) → envelope < 32 → level_used variant volume envelope < 32
  -- Making a chip: 1, 2 and 3 first, then 13, and either leaves the same fresh default chip; else it is of that variant.
  pub clocks-first : (master rate variant : ℕ) → (clocks_no master rate ≡ accepted → ⊥)
      → with_variant master rate variant ≡ answered (clocks_no master rate) fresh
  pub thirteen : (master rate variant : ℕ) → clocks_no master rate ≡ accepted → 2 < variant
      → with_variant master rate variant ≡ answered no_such_variant fresh
  pub makes : (master rate variant : ℕ) → clocks_no master rate ≡ accepted → variant ≤ 2
      → with_variant master rate variant ≡ answered accepted (made_of (clocks_of master rate) variant)
  -- `with_clocks` is the making of variant 0, and a default chip is of variant 0.
  pub by-clocks : (master rate : ℕ) → with_clocks master rate ≡ with_variant master rate 0
  pub default : fresh.core.variant ≡ 0
  -- "a record with a variant above 2 gives 22", by every call, and nothing changes.
  pub gives-22 : (x : Call) (c : Chip) → 2 < c.core.variant → answers x c ≡ answered out_of_range c
  -- So no call changes the variant: not of a record in range (`Beyond`, in demand 3), nor of one that is not.
  pub stays : (calls : List Call) (c : Chip) → 2 < c.core.variant → after calls c ≡ c
