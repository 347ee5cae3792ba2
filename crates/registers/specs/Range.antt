-- What a handed-in record's voice must be, where its type does not settle it. 01, "What changes shape". Assumes nothing.
use Rattle.std.specs.Prelude.{List, ◌≡◌, ℕ, ◌≤◌, ◌<◌, length, get_or}
use Rattle.tables.specs.Masks.{register_mask}
use Rattle.generators.specs.Range.{GeneratorsInRange}
use Rattle.gates.specs.declared.Gates.{Gates}
use Rattle.registers.specs.declared.Voice.{Voice}

-- stored bytes within masks: every mask is all ones, so a byte within it is at most it; the length is the type's
pub record BytesInRange (bytes : List ℕ) : Type 0 where
  pub long : length bytes ≡ 14
  pub within : (register : ℕ) → register < 14 → get_or bytes register 0 ≤ register_mask register

-- gate masks to 0x7fff
pub record GatesInRange (gates : Gates) : Type 0 where
  pub tone : gates.tone ≤ 0x7fff
  pub noise : gates.noise ≤ 0x7fff

pub record VoiceInRange (v : Voice) : Type 0 where
  pub bytes : BytesInRange v.registers
  pub generators : GeneratorsInRange v.generators
  pub gates : GatesInRange v.gates
