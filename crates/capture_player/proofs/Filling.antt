-- How the loop of `next_piece` fills the buffer: the bytes so far, and with them what is yet to be put there, are the whole piece.
-- Assumes nothing.
use mathlib.Core.List.{List, [], ◌++◌, append_assoc, append-nil}
use mathlib.Core.Path.{◌≡◌, refl, sym, ap, ◌∙◌}
use Prim.Native.Nat.{ℕ, ◌+◌, ◌-◌, ◌≤◌, ◌<◌}
use native.Mathlib.Omega.{arith}
use borrow.Rule.Slice.PartMut.{put_mid}
use lib.ListN.{length, take, drop, length-append, length-drop, drop_of_length-le}
use lib.Seq.{take_all, drop-drop}
use Rattle.text_put.specs.Text.{overlaid}
use Rattle.text_put.proofs.Laying.{over_none, over-long, over-over}
use Rattle.capture_steps.specs.declared.Player.{Player}
use Rattle.capture_steps.specs.declared.Piece.{Piece}
use Rattle.capture_steps.specs.Steps.{step_lines, step_of}
use Rattle.capture_steps.proofs.Counting.{step_count}
use Rattle.laws_pieces.specs.Filling.{Filled, fills}
use Rattle.laws_pieces.proofs.Pieces.{is-empty}
use Rattle.laws_pieces.proofs.Filling.{FilledTo, filled-start, filled_on, filled-ends}
use Rattle.capture_player.specs.Player.{stepper, bytes_of, piece_of}

-- the buffer behind what is filled, and lines put there
abbrev pub behind : List ℕ → ℕ → List ℕ
behind out filled = take (length out - filled) (drop filled out)

abbrev pub with_behind : List ℕ → ℕ → List ℕ → List ℕ
with_behind out filled after = put_mid filled (length out - filled) out after

module _ (out : List ℕ) (filled : ℕ) where
  behind-is : behind out filled ≡ drop filled out
  behind-is = take_all (length out - filled) (drop filled out) (omega (arith, length-drop filled out))

  pub behind-long : length (behind out filled) ≡ length out - filled
  behind-long = ap length behind-is ∙ length-drop filled out

  none-behind : drop (length out - filled) (drop filled out) ≡ []
  none-behind = drop_of_length-le (drop filled out) {i = length out - filled} (omega (arith, length-drop filled out))

  pub laid-behind : (lines : List ℕ) → with_behind out filled (overlaid (behind out filled) 0 lines) ≡ overlaid out filled lines
  laid-behind lines =
      let z : filled + (0 + length lines) ≡ filled + length lines = omega arith in
      let more : drop (0 + length lines) (drop filled out) ≡ drop (filled + length lines) out = rw z at (drop-drop (0 + length lines) filled out) in
      rw (behind-is, none-behind, append-nil (lines ++ drop (0 + length lines) (drop filled out)), more) (sym (append_assoc (take filled out) lines (drop (filled + length lines) out)))

pub record Filling (text out₀ : List ℕ) (p₀ : Player) (out : List ℕ) (p : Player) (filled : ℕ) : Type 0 where
  pub bytes : List ℕ
  pub to : FilledTo (stepper text) (length out₀) p₀ bytes p
  pub count : filled ≡ length bytes
  pub buffer : out ≡ overlaid out₀ 0 bytes

-- the piece, of what fills the buffer
module _ (text : List ℕ) (room : ℕ) (p : Player) {f : Filled Player} (whole : fills (stepper text) room room p ≡ f) where
  bytes-are : bytes_of text room p ≡ f.bytes
  unfolding bytes_of
  bytes-are = ap (λ (g : Filled Player). g.bytes) whole

  piece_is : piece_of text room p ≡ record { player = f.next; length = length f.bytes }
  unfolding piece_of
  piece_is =
      ap (λ (g : Filled Player). record { player = g.next; length = length (bytes_of text room p) }) whole
      ∙ ap (λ (l : List ℕ). record { player = f.next; length = length l }) bytes-are

pub filling-start : (text out : List ℕ) (p : Player) → Filling text out p out p 0
filling-start text out p = record { bytes = []; to = filled-start; count = refl; buffer = over_none out 0 }

module _ {text out₀ : List ℕ} {p₀ : Player} {out : List ℕ} {p : Player} {filled : ℕ} (m : Filling text out₀ p₀ out p filled) where
  pub filling-within : filled ≤ length out₀
  filling-within = omega (arith, m.count, m.to.within)

  pub filling-long : length out ≡ length out₀
  filling-long = ap length m.buffer ∙ over-long out₀ 0 m.bytes (omega (arith, m.to.within))

  -- a step more
  module _ {x : Piece} (e : x ≡ step_of text (length (behind out filled)) p) {after : List ℕ}
      (a : after ≡ overlaid (behind out filled) 0 (step_lines text (length (behind out filled)) p)) (same : length after ≡ length (behind out filled)) where
    abbrev room : ℕ
    room = length out₀ - length m.bytes

    abbrev lines : List ℕ
    lines = step_lines text room p

    room-is : length (behind out filled) ≡ room
    room-is = behind-long out filled ∙ omega (arith, filling-long, m.count)

    step_is : x ≡ step_of text room p
    step_is = rw room-is at e

    after_is : after ≡ overlaid (behind out filled) 0 lines
    after_is = a ∙ ap (λ (n : ℕ). overlaid (behind out filled) 0 (step_lines text n p)) room-is

    length-is : x.length ≡ length lines
    length-is = ap (λ (y : Piece). y.length) step_is ∙ step_count text room p

    fits : length lines ≤ room
    fits =
        let long : length after ≡ length lines + length (drop (0 + length lines) (behind out filled)) = ap length after_is ∙ length-append lines (drop (0 + length lines) (behind out filled)) in
        omega (arith, long, same, room-is)

    -- the buffer then
    put : with_behind out filled after ≡ overlaid out₀ 0 (m.bytes ++ lines)
    put =
        let z : filled ≡ 0 + length m.bytes = omega (arith, m.count) in
        ap (with_behind out filled) after_is
        ∙ laid-behind out filled lines
        ∙ rw (m.buffer, z) (over-over out₀ 0 m.bytes lines (omega (arith, m.to.within)))

    pub filling-ends : x.length ≡ 0
        → (record { player = p; length = filled } ≡ piece_of text (length out₀) p₀) × (with_behind out filled after ≡ overlaid out₀ 0 (bytes_of text (length out₀) p₀))
    filling-ends z =
        let none : lines ≡ [] = is-empty lines (omega (arith, length-is)) in
        let whole : fills (stepper text) (length out₀) (length out₀) p₀ ≡ record { bytes = m.bytes; next = p } = filled-ends m.to (sym length-is ∙ z) in
        let all : m.bytes ++ lines ≡ bytes_of text (length out₀) p₀ = ap (λ (l : List ℕ). m.bytes ++ l) none ∙ append-nil m.bytes ∙ sym (bytes-are text (length out₀) p₀ whole) in
        (rw m.count (sym (piece_is text (length out₀) p₀ whole)), put ∙ ap (λ (l : List ℕ). overlaid out₀ 0 l) all)

    pub filling-on : (x.length ≡ 0 → ⊥) → Filling text out₀ p₀ (with_behind out filled after) x.player (filled + x.length)
    filling-on z =
        rw step_is
        (record {
          bytes = m.bytes ++ lines;
          to = filled_on m.to (λ y. z (length-is ∙ y)) fits;
          count = omega (arith, m.count, step_count text room p, length-append m.bytes lines);
          buffer = put;
        })

    pub filling-fits : filled + x.length ≤ length out₀
    filling-fits = omega (arith, m.count, m.to.within, length-is, fits)

    pub filling-less : (x.length ≡ 0 → ⊥) → length out₀ - (filled + x.length) < length out₀ - filled
    filling-less z = omega (arith, m.count, m.to.within, length-is, fits, z)
