-- The crate's numbers are 01's rule: one test that the checker computes over all 1,280, and a law that carries it to each. Assumes nothing.
use mathlib.Core.List.{List}
use mathlib.Core.Path.{◌≡◌, refl}
use Prim.Native.Nat.{ℕ, ◌*◌, ◌/◌, ◌%◌}
use lib.Dec.{T}
use lib.ListN.{length}
use Rattle.laws.proofs.Table.{passes, follows, entry}
use Rattle.envelope_shapes.specs.Shapes.{shape_entry, envelope_entry}
use Rattle.laws_envelope_data.specs.Data.{env_data}
use Rattle.laws_envelope_data.specs.Claims.{FollowsRule}

abbrev rule : ℕ → ℕ
rule i = envelope_entry (i / 128 * 128) (i % 128)

by-test : (entries : List ℕ) → length entries ≡ 1280 → T (passes (follows rule) 0 entries) → FollowsRule entries
by-test entries n t = record { rows = n; entry = λ i h. entry rule entries t i (rw n h) }

pub data-follows : FollowsRule env_data
unfolding shape_entry envelope_entry
data-follows = by-test env_data refl tt
