-- A frame played: laws for the returns of `play_frame`. Assumes nothing.
use mathlib.Core.Bool.{Bool, true, false, cond}
use mathlib.Core.Path.{◌≡◌, refl, ap, ◌∙◌}
use mathlib.Core.List.{List}
use Prim.Native.Nat.{ℕ}
use native.Mathlib.Omega.{arith}
use borrow.Author.Tests.{eq-eqb, ne_eqb}
use Rattle.refusals.specs.Numbers.{line_not_of_form, out_of_range}
use Rattle.registers.specs.Writes.{RegisterWrite}
use Rattle.dump_lines.specs.OneLine.{is_frame}
use Rattle.dump_writes.specs.Writes.{frame_writes}
use Rattle.chip.specs.declared.Chip.{Chip}
use Rattle.chip.specs.Range.{chip_in}
use Rattle.answers.specs.declared.Applied.{Applied}
use Rattle.answers.specs.declared.Blocked.{Blocked}
use Rattle.answers.specs.declared.Played.{Played}
use Rattle.calls_words.specs.Blocks.{block_refused, blocked, block_buffer}
use Rattle.dump_frames.specs.Frame.{added, frame_buffer, frame_chip, frame_played, frame_reported, load_refused, together}
use Rattle.dump_frames.proofs.Loading.{reported, reports}

-- the two tests of a frame, and the chip that its writes leave
module _ (writes : List RegisterWrite) (c d : Chip) (l : Applied) where
  abbrev Loaded : Bool → Bool → Type 0
  Loaded t s = l ≡ cond t (cond s (reports writes c d) (load_refused line_not_of_form c)) (load_refused out_of_range c)

  loaded-not : (t s : Bool) → Loaded t s → (l.answer.no ≡ 0 → ⊥) → (x : Blocked)
      → block_refused l.answer.no c ≡ cond t (cond s x (block_refused line_not_of_form c)) (block_refused out_of_range c)
  loaded-not true true e z x = absurd (z (ap (λ (a : Applied). a.answer.no) e))
  loaded-not true false e z x = ap (λ (a : Applied). block_refused a.answer.no c) e
  loaded-not false s e z x = ap (λ (a : Applied). block_refused a.answer.no c) e

  loaded-left : (t s : Bool) → Loaded t s → (l.answer.no ≡ 0 → ⊥) → (out words : List ℕ) → out ≡ cond t (cond s words out) out
  loaded-left true true e z out words = absurd (z (ap (λ (a : Applied). a.answer.no) e))
  loaded-left true false e z out words = refl
  loaded-left false s e z out words = refl

  record Good (t s : Bool) : Type 0 where
    ranged : t ≡ true
    framed : s ≡ true
    loads : l ≡ reports writes c d

  loaded-good : (t s : Bool) → Loaded t s → l.answer.no ≡ 0 → Good t s
  loaded-good true true e z = record { ranged = refl; framed = refl; loads = e }
  loaded-good true false e z = let n : l.answer.no ≡ 8 = ap (λ (a : Applied). a.answer.no) e in absurd (omega (arith, n, z))
  loaded-good false s e z = let n : l.answer.no ≡ 22 = ap (λ (a : Applied). a.answer.no) e in absurd (omega (arith, n, z))

  -- what the frame reports and what its words do
  both_told : l ≡ reports writes c d → {p b : Blocked} → p ≡ b → {a : Played} → a ≡ added l.answer.changed l.answer.restarted p.answer
      → record { chip = p.chip; answer = a } ≡ together writes c b
  both_told e {p} f g =
      let counted = ap (λ (x : Applied). added x.answer.changed x.answer.restarted p.answer) e in
      (λ i. record { chip = p.chip; answer = (g ∙ counted) i }) ∙ ap (together writes c) f

module _ (value : List ℕ) (n : ℕ) (out : List ℕ) (c : Chip) {l : Applied} (q : l ≡ frame_reported value c) where
  is : Loaded (frame_writes value) c (frame_chip value c) l (chip_in c) (is_frame value)
  is = q ∙ reported value c

  pub load-refused : {b : Blocked} → (l.answer.no ≡ 0 → ⊥) → b ≡ block_refused l.answer.no c → (b ≡ frame_played value n c) × (out ≡ frame_buffer value out c)
  unfolding frame_played frame_buffer
  load-refused z e =
      (e ∙ loaded-not (frame_writes value) c (frame_chip value c) l (chip_in c) (is_frame value) is z _, loaded-left (frame_writes value) c (frame_chip value c) l (chip_in c) (is_frame value) is z out _)

  module _ (z : l.answer.no ≡ 0) {p : Blocked} (e : p ≡ blocked n l.chip) {after : List ℕ} (w : after ≡ block_buffer out l.chip) where
    good : Good (frame_writes value) c (frame_chip value c) l (chip_in c) (is_frame value)
    good = loaded-good (frame_writes value) c (frame_chip value c) l (chip_in c) (is_frame value) is z

    played : p ≡ blocked n (frame_chip value c)
    played = rw good.loads at e

    buffer : after ≡ frame_buffer value out c
    unfolding frame_buffer
    buffer = rw (good.ranged, good.framed) (rw good.loads at w)

    pub block_refused_lem : {b : Blocked} → (p.answer.no ≡ 0 → ⊥) → b ≡ block_refused p.answer.no c → (b ≡ frame_played value n c) × (after ≡ frame_buffer value out c)
    unfolding frame_played
    block_refused_lem t f =
        (rw (good.ranged, good.framed, ne_eqb (blocked n (frame_chip value c)).answer.no 0 (λ y. t (rw played y))) (rw played at f), buffer)

    pub frame-played : {a : Played} → p.answer.no ≡ 0 → a ≡ added l.answer.changed l.answer.restarted p.answer
        → (record { chip = p.chip; answer = a } ≡ frame_played value n c) × (after ≡ frame_buffer value out c)
    unfolding frame_played
    frame-played t f =
        (rw (good.ranged, good.framed, eq-eqb (blocked n (frame_chip value c)).answer.no 0 (rw played at t)) (both_told (frame_writes value) c (frame_chip value c) l good.loads played f), buffer)
