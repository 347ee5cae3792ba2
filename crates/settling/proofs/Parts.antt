-- What is settled, part by part. Assumes nothing.
use mathlib.Core.Bool.{cond}
use mathlib.Core.List.{List}
use mathlib.Core.Path.{◌≡◌}
use Prim.Native.Nat.{ℕ}
use lib.Bits.{bit_and}
use lib.Dec.{eqb}
use lib.ListN.{get_or}
use Rattle.envelope.specs.declared.Envelope.{Envelope}
use Rattle.gates.specs.declared.Gates.{Gates}
use Rattle.registers.specs.Registers.{pair_in}
use Rattle.settling.specs.declared.Pitch.{Pitch}
use Rattle.settling.specs.declared.Settings.{Settings}
use Rattle.settling.specs.Settling.{pitch_after, gates_after, envelope_period_after, shape_after, settled_of}
use Rattle.stored_bytes.proofs.Marks.{some-unwritten, others-unwritten}

-- all but the volumes are unwritten: nothing changes
pub settled-none : (bytes : List ℕ) (marks : ℕ) (s : Settings) → bit_and marks 0x38ff ≡ 0 → s ≡ settled_of bytes marks s
unfolding settled_of
settled-none bytes marks s none =
    let a = some-unwritten 0x3 0x38fc marks none in
    let later = others-unwritten 0x3 0x38fc marks none in
    let b = some-unwritten 0xc 0x38f0 marks later in
    let later = others-unwritten 0xc 0x38f0 marks later in
    let c = some-unwritten 0x30 0x38c0 marks later in
    let later = others-unwritten 0x30 0x38c0 marks later in
    let noise = some-unwritten 0x40 0x3880 marks later in
    let later = others-unwritten 0x40 0x3880 marks later in
    let gates = some-unwritten 0x80 0x3800 marks later in
    let later = others-unwritten 0x80 0x3800 marks later in
    let period = some-unwritten 0x1800 0x2000 marks later in
    let shape = others-unwritten 0x1800 0x2000 marks later in
    rw (a, b, c, noise, gates, period, shape)

-- each part made by itself
pub settled-made : (bytes : List ℕ) (marks : ℕ) (s : Settings) {a b c : Pitch} {noise : ℕ} {gates : Gates} {ticking envelope : Envelope}
    → a ≡ pitch_after (eqb (bit_and marks 0x3) 0) (pair_in 0 bytes) s.a
    → b ≡ pitch_after (eqb (bit_and marks 0xc) 0) (pair_in 2 bytes) s.b
    → c ≡ pitch_after (eqb (bit_and marks 0x30) 0) (pair_in 4 bytes) s.c
    → noise ≡ cond (eqb (bit_and marks 0x40) 0) s.noise (get_or bytes 6 0)
    → gates ≡ gates_after (eqb (bit_and marks 0x80) 0) (get_or bytes 7 0) s.gates
    → ticking ≡ envelope_period_after (eqb (bit_and marks 0x1800) 0) (pair_in 11 bytes) s.envelope
    → envelope ≡ shape_after (eqb (bit_and marks 0x2000) 0) (get_or bytes 13 0) ticking
    → record { a = a; b = b; c = c; noise = noise; envelope = envelope; gates = gates } ≡ settled_of bytes marks s
unfolding settled_of
settled-made bytes marks s a b c noise gates ticking envelope = rw (a, b, c, noise, gates, envelope, ticking)
