-- New chips and reset. 01, "Numbers a call can answer" and "Power-on and reset"; 02, request 05, for the variant. Assumes nothing.
use Rattle.std.specs.Prelude.{ℕ, eqb, cond}
use Rattle.answers.specs.Answers.{answered, does}
use Rattle.answers.specs.declared.Answered.{Answered}
use Rattle.chip.specs.declared.Chip.{Chip}
use Rattle.chip_parts.specs.Parts.{at_start}
use Rattle.chip.specs.declared.Clocks.{Clocks}
use Rattle.three_channels.specs.Channels.{all_quiet, channels_reset}
use Rattle.clocks.specs.Clocks.{clocks_no}
use Rattle.chip.specs.Clocks.{clocks_of}
use Rattle.variants.specs.Variants.{making_no}
use Rattle.refusals.specs.Numbers.{accepted}
use Rattle.all_registers.specs.Reset.{voice_new, voice_reset}

-- A new chip: power-on is the reset of a blank.
unfoldable pub made_of : Clocks → ℕ → Chip
made_of clocks variant = at_start clocks variant voice_new all_quiet

-- The default clocks are 2,000,000 and, by 02's request 07, 250,000: one tick to a word. The default variant is the crate's.
abbrev pub default_master : ℕ
default_master = 2000000

abbrev pub default_rate : ℕ
default_rate = 250000

abbrev pub default_variant : ℕ
default_variant = 0

unfoldable pub fresh : Chip
fresh = made_of (clocks_of default_master default_rate) default_variant

-- Refused by 1, 2, 3 or 13, a making gives "a fresh default chip of variant 0".
unfoldable pub with_variant : ℕ → ℕ → ℕ → Answered
with_variant master rate variant =
    cond (eqb (making_no master rate variant) accepted) (answered accepted (made_of (clocks_of master rate) variant))
    (answered (making_no master rate variant) fresh)

-- Refused clocks give a fresh default chip.
unfoldable pub with_clocks : ℕ → ℕ → Answered
with_clocks master rate =
    cond (eqb (clocks_no master rate) accepted) (answered accepted (made_of (clocks_of master rate) default_variant))
    (answered (clocks_no master rate) fresh)

-- Reset: registers, generators and channels as reset; selection, accumulator, stamp and the next word's start to 0; queue empty.
-- It keeps noise period, envelope period, mutes and each channel's last amplitude; 02: "Reset keeps the variant."
unfoldable pub reset_of : Chip → Chip
reset_of c = at_start c.core.clocks c.core.variant (voice_reset c.core.voice) (channels_reset c.core.channels)

unfoldable pub reset_call : Chip → Answered
reset_call c = does reset_of c
