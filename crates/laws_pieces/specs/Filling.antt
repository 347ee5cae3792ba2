-- Filling a buffer with the pieces of a giver, one behind the other, until one is empty. Assumes nothing.
use Rattle.std.specs.Prelude.{cond, List, [], ◌++◌, ℕ, zero, suc, ◌-◌, eqb, length}
use Rattle.laws_pieces.specs.Pieces.{Giver}

pub record Filled (S : Type 0) : Type 0 where
  pub bytes : List ℕ
  pub next : S

module _ {S : Type 0} (g : Giver S) where
  -- Up to k pieces, each into the room that those before it left. A piece that is not empty takes a byte or more, so a buffer of k bytes
  -- has room for no more than k of them.
  unfoldable pub fills : ℕ → ℕ → S → Filled S
  fills zero room s = record { bytes = []; next = s }
  fills (suc k) room s =
      let piece = g.piece room s in
      let more = fills k (room - length piece) (g.next room s) in
      cond (eqb (length piece) 0) (record { bytes = []; next = s }) (record { bytes = piece ++ more.bytes; next = more.next })

  abbrev pub filling : Giver S
  filling = record { piece = λ room s. (fills room room s).bytes; next = λ room s. (fills room room s).next }
