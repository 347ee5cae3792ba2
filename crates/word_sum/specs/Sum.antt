-- The word of three channels, by where each one's level comes from. 01, "One tick, one word"; that it is the word of `mixed` is `sum-mixed`
-- (proofs/Summing.antt). Assumes nothing.
use Rattle.std.specs.Prelude.{Bool, false, List, ℕ, ◌+◌, ◌/◌, ◌≤◌, get_or}
use Rattle.levels.specs.Levels.{gated_level}
use Rattle.level_scale.specs.Scale.{picked}
use Rattle.channel.specs.declared.Channel.{Channel}
use Rattle.channel.specs.Channel.{heard}
use Rattle.three_channels.specs.declared.Channels.{Channels}

-- each of three sources is a level or 32
pub record AreSources (sources : List ℕ) : Type 0 where
  pub a : get_or sources 0 0 ≤ 32
  pub b : get_or sources 1 0 ≤ 32
  pub c : get_or sources 2 0 ≤ 32

-- what a channel gives: its level, AND-ed with the gate
unfoldable pub part_by : Channel → ℕ → Bool → ℕ → ℕ → ℕ
part_by c source half used gate =
    let ungated = picked source used in
    (heard c (gated_level ungated gate) ungated half).out

-- the sum of three channel outputs
unfoldable pub sum_by : Channels → List ℕ → List Bool → ℕ → ℕ → ℕ
sum_by s sources halves used gate =
    part_by s.a (get_or sources 0 0) (get_or halves 0 false) used gate
    + part_by s.b (get_or sources 1 0) (get_or halves 1 false) used (gate / 32)
    + part_by s.c (get_or sources 2 0) (get_or halves 2 false) used (gate / 1024)
