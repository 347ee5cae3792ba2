-- A read into a room's part behind what stands there: the room's start grows by what was read. Assumes nothing.
use Rattle.std.proofs.Common.{◌≡◌, ℕ, ◌+◌, ◌≤◌, List, ◌++◌, length, take, ap, ◌∙◌, le_refl, drop_at, length-take-le}
use Rattle.std.proofs.lemmas.Slice.{take-put_mid_below}
use borrow.Rule.Slice.PartMut.{put_mid, post_of}
use lib.Seq.{take-add, take-append-le}

pub filled_on : (at k n : ℕ) (room part : List ℕ) → at ≤ length room → n ≤ length part → take (at + n) (put_mid at k room part) ≡ take at room ++ take n part
filled_on at k n room part within fits =
    let after = post_of at k room in
    take-add at n (put_mid at k room part)
    ∙ (λ i. take-put_mid_below at k room part at (le_refl at) within i
    ++ (ap (take n) (drop_at (take at room) (part ++ after) at (length-take-le at room within)) ∙ take-append-le n part after fits) i)
