-- A giver's piece, at a buffer's start, is one of `Pieces`. Assumes nothing.
use mathlib.Core.List.{List, [], ◌++◌}
use mathlib.Core.Path.{◌≡◌, refl}
use Prim.Native.Nat.{ℕ, ◌≤◌}
use native.Mathlib.Omega.{arith}
use lib.ListN.{length, take, length-append}
use lib.Seq.{take_at}
use Rattle.laws_pieces.specs.Pieces.{Giver}
use Rattle.laws_pieces.proofs.Pieces.{Gives, is-empty}

module _ {S : Type 0} {g : Giver S} {Stands : S → Type 0} {rest : S → List ℕ} {least : ℕ} (gives : Gives g Stands rest least) {s : S} (stands : Stands s)
    {room : ℕ} (roomy : least ≤ room) {n : ℕ} (count : n ≡ length (g.piece room s)) where
  abbrev piece : List ℕ
  piece = g.piece room s

  pub given-last : n ≡ 0 → rest s ≡ []
  given-last z = gives.last room s roomy stands (is-empty piece (omega (arith, count)))

  module _ {buffer : List ℕ} (more : List ℕ) (b : buffer ≡ g.piece room s ++ more) where
    front : take n buffer ≡ piece
    front = rw (count, b) (take_at piece more (length piece) refl)

    pub given-within : n ≤ length buffer
    given-within = rw (count, b) (omega (arith, length-append piece more))

    pub given-part : take n buffer ++ rest (g.next room s) ≡ rest s
    given-part = rw front (gives.part room s roomy stands)
