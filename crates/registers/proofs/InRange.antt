-- A register write keeps a voice in range, whatever its number and byte. Assumes nothing.
use mathlib.Core.List.{List, [], ◌∷◌}
use Prim.Native.Nat.{ℕ, zero, suc, ◌*◌, ◌/◌, ◌≤◌, ◌<◌}
use native.Mathlib.Omega.{arith}
use lib.Bits.{and_le_r}
use lib.ListN.{set, length, length-set}
use lib.Seq.{get_or-set_same, get_or-set_other}
use Rattle.laws.proofs.Tests.{by_le, by-eq, by-same}
use Rattle.tables.specs.Masks.{register_mask}
use Rattle.noise.proofs.Hissing.{noise-set-in}
use Rattle.envelope.proofs.Circling.{envelope-set-in, shaped_in}
use Rattle.generators.proofs.InRange.{tones-set-in}
use Rattle.gates.proofs.Laws.{gates-in-range}
use Rattle.registers.specs.declared.Voice.{Voice}
use Rattle.registers.specs.Registers.{byte_at, pair_at, tone_period_set, noise_period_set, gates_set, envelope_period_set, shape_set, voice_set, masked, stored, apply_register}
use Rattle.registers.specs.Writes.{RegisterWrite, applied_in_order, loaded}
use Rattle.registers.specs.Range.{BytesInRange, VoiceInRange}

-- a stored byte is within its mask, and the others stay
bytes-set-in : (bytes : List ℕ) (r x : ℕ) → r < 14 → BytesInRange bytes → BytesInRange (set bytes r (masked r x))
unfolding masked
bytes-set-in bytes r x h b =
    let room : r < length bytes = rw b.long h in
    record {
      long = simp length-set b.long;
      within = λ i k.
          by-same i r
          (λ e. rw e (rw (get_or-set_same bytes r (masked r x) 0 room) (and_le_r x (register_mask r))))
          (λ n. rw (get_or-set_other bytes r i (masked r x) 0 n) (b.within i k));
    }

module _ {v : Voice} (h : VoiceInRange v) where
  pub stored-in : (r x : ℕ) → r < 14 → VoiceInRange (stored r x v)
  stored-in r x k = record { bytes = bytes-set-in v.registers r x k h.bytes; generators = h.generators; gates = h.gates }

  -- twelve bits make a tone period
  tone-period-le : (channel : ℕ) → channel < 3 → pair_at (channel * 2) v ≤ 4095
  unfolding pair_at
  tone-period-le zero k = omega (arith, h.bytes.within 0 (omega arith), h.bytes.within 1 (omega arith))
  tone-period-le (suc zero) k = omega (arith, h.bytes.within 2 (omega arith), h.bytes.within 3 (omega arith))
  tone-period-le (suc (suc zero)) k = omega (arith, h.bytes.within 4 (omega arith), h.bytes.within 5 (omega arith))
  tone-period-le (suc (suc (suc n))) k = absurd (omega arith)

  tone-in : (channel : ℕ) → channel < 3 → VoiceInRange (tone_period_set channel v)
  unfolding tone_period_set
  tone-in channel k =
      record {
        bytes = h.bytes;
        generators = tones-set-in h.generators channel (pair_at (channel * 2) v) v.irq (tone-period-le channel k);
        gates = h.gates;
      }

  noise-in : VoiceInRange (noise_period_set v)
  unfolding noise_period_set
  noise-in =
      let g = h.generators in
      record {
        bytes = h.bytes;
        generators = record { a = g.a; b = g.b; c = g.c; noise = noise-set-in g.noise (byte_at 6 v) (h.bytes.within 6 (omega arith)); envelope = g.envelope };
        gates = h.gates;
      }

  gates-in : VoiceInRange (gates_set v)
  unfolding gates_set
  gates-in =
      let (tone, noise) = gates-in-range (byte_at 7 v) in
      record { bytes = h.bytes; generators = h.generators; gates = record { tone = tone; noise = noise } }

  envelope-in : VoiceInRange (envelope_period_set v)
  unfolding envelope_period_set
  envelope-in =
      let g = h.generators in
      record {
        bytes = h.bytes;
        generators = record { a = g.a; b = g.b; c = g.c; noise = g.noise; envelope = envelope-set-in g.envelope (pair_at 11 v) };
        gates = h.gates;
      }

  shape-in : VoiceInRange (shape_set v)
  unfolding shape_set
  shape-in =
      let g = h.generators in
      record {
        bytes = h.bytes;
        generators = record { a = g.a; b = g.b; c = g.c; noise = g.noise; envelope = shaped_in (byte_at 13 v) v.generators.envelope };
        gates = h.gates;
      }

  set-in : (r : ℕ) → VoiceInRange (voice_set r v)
  unfolding voice_set
  set-in r =
      by_le VoiceInRange r 5 (λ k. tone-in (r / 2) (omega arith))
      (λ _. by-eq VoiceInRange r 6 (λ _. noise-in)
      (λ _. by-eq VoiceInRange r 7 (λ _. gates-in)
      (λ _. by-eq VoiceInRange r 11 (λ _. envelope-in)
      (λ _. by-eq VoiceInRange r 12 (λ _. envelope-in)
      (λ _. by-eq VoiceInRange r 13 (λ _. shape-in)
      (λ _. h))))))

pub apply-in : {v : Voice} (r x : ℕ) → VoiceInRange v → VoiceInRange (apply_register r x v)
unfolding apply_register
apply-in r x h = by_le VoiceInRange 14 r (λ _. h) (λ k. set-in (stored-in h r x k) r)

pub applied-in : (ws : List RegisterWrite) {v : Voice} → VoiceInRange v → VoiceInRange (applied_in_order ws v)
unfolding applied_in_order
applied-in [] h = h
applied-in (w ∷ ws) h = applied-in ws (apply-in w.register w.value h)

pub loaded-in : (bytes : List ℕ) {v : Voice} → VoiceInRange v → VoiceInRange (loaded bytes v)
loaded-in bytes h = applied-in _ h
