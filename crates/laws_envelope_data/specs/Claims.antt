-- What holds of the crate's 1,280 numbers. 01, "One tick, one word". No contract cites this page. Assumes nothing.
use Rattle.std.specs.Prelude.{List, ◌≡◌, ℕ, ◌*◌, ◌/◌, ◌%◌, ◌<◌, length, get_or}
use Rattle.envelope_shapes.specs.Shapes.{envelope_entry}

-- entries laid out row after row, each by the rule
pub record FollowsRule (entries : List ℕ) : Type 0 where
  pub rows : length entries ≡ 1280
  pub entry : (i : ℕ) → i < 1280 → get_or entries i 0 ≡ envelope_entry (i / 128 * 128) (i % 128)
