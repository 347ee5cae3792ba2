-- The test of every stored byte, told by the bytes. Assumes nothing.
use mathlib.Core.Bool.{Bool}
use mathlib.Core.List.{List}
use mathlib.Core.Path.{◌≡◌}
use Prim.Native.Nat.{ℕ, ◌≤◌, ◌<◌}
use borrow.Author.Tests.{le-leb, leb-true}
use lib.Dec.{leb}
use lib.ListN.{get_or, length}
use Rattle.std.specs.Bool.{Decides}
use Rattle.std.proofs.lemmas.Bool.Decides.{same_from_decides}
use Rattle.laws.proofs.Lists.{below_parts, parts_below}
use Rattle.tables.specs.Masks.{register_mask}
use Rattle.voice_range.specs.Range.{bytes_in}

pub bytes-in : (bytes : List ℕ) (r : Bool) → length bytes ≡ 14
    → Decides r ((k : ℕ) → k < length bytes → get_or bytes k 0 ≤ register_mask k) → r ≡ bytes_in bytes
unfolding bytes_in
bytes-in bytes r long h =
    let within : ℕ → Bool = λ k. leb (get_or bytes k 0) (register_mask k) in
    same_from_decides r _ (rw long at h)
    ((λ e k l. leb-true _ _ (below_parts within 14 e k l)), (λ f. parts_below within 14 (λ k l. le-leb _ _ (f k l))))
