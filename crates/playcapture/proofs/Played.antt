-- A piece of the player, at a buffer's start, is the next part of what has yet to be handed out. Assumes nothing.
use mathlib.Core.List.{List, [], ◌++◌}
use mathlib.Core.Path.{◌≡◌, ap, ◌∙◌}
use Prim.Native.Nat.{ℕ, ◌+◌, ◌≤◌}
use lib.ListN.{length, take, drop}
use Rattle.text_put.specs.Text.{overlaid}
use Rattle.pieces_out.proofs.Given.{given-last, given-within, given-part}
use Rattle.capture_steps.specs.declared.Player.{Player}
use Rattle.capture_steps.specs.declared.Piece.{Piece}
use Rattle.capture_player.specs.Player.{bytes_of, piece_of}
use Rattle.laws_capture_player.proofs.Standing.{Stands, rest_of}
use Rattle.laws_capture_player.proofs.Piece.{answers-give, piece-count}

module _ {text : List ℕ} (out : List ℕ) {p : Player} (stands : Stands text p) (room : 32 ≤ length out) {x : Piece} (e : x ≡ piece_of text (length out) p) where
  count : x.length ≡ length (bytes_of text (length out) p)
  count = ap (λ (y : Piece). y.length) e ∙ piece-count text (length out) p

  pub played-stands : Stands text x.player
  played-stands = rw (ap (λ (y : Piece). y.player) e) ((answers-give text).stands (length out) p room stands)

  pub played-last : x.length ≡ 0 → rest_of text p ≡ []
  played-last = given-last (answers-give text) stands room count

  module _ {now : List ℕ} (b : now ≡ overlaid out 0 (bytes_of text (length out) p)) where
    pub played-within : x.length ≤ length now
    played-within = given-within (answers-give text) stands room count (drop (0 + length (bytes_of text (length out) p)) out) b

    pub played-part : take x.length now ++ rest_of text x.player ≡ rest_of text p
    played-part =
        let part = given-part (answers-give text) stands room count (drop (0 + length (bytes_of text (length out) p)) out) b in
        rw (ap (λ (y : Piece). y.player) e) part
