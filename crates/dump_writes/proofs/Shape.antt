-- A frame of ff leaves the shape alone, and any other restarts the envelope: `specs/Shape.antt` holds. Assumes nothing.
use mathlib.Core.Path.{◌≡◌, refl, sym, ◌∙◌}
use mathlib.Core.List.{List}
use Prim.Native.Nat.{ℕ, zero, suc, ◌+◌, ◌≤◌}
use native.Mathlib.Omega.{arith}
use lib.Seq.{get_or-set_other}
use Rattle.laws.proofs.Tests.{by_le, by-eq, by-same}
use Rattle.text_fields.specs.Fields.{hex_byte}
use Rattle.generators.specs.Generators.{tones_set, put_tone}
use Rattle.registers.specs.Registers.{byte_at, pair_at, tone_period_set, noise_period_set, gates_set, envelope_period_set, shape_set, voice_set, masked, apply_register}
use Rattle.registers.specs.Writes.{applied_in_order, registers_from}
use Rattle.registers.specs.declared.Voice.{Voice}
use Rattle.dump_writes.specs.Shape.{envelope_of, after_frame, Untouched, Restarted, Shape}
use Rattle.dump_writes.proofs.Writing.{first, of-ff, of_other}

-- what a write sets leaves the stored bytes
bytes-stay : (r : ℕ) (v : Voice) → (voice_set r v).registers ≡ v.registers
unfolding voice_set tone_period_set noise_period_set gates_set envelope_period_set shape_set
bytes-stay r v =
    let P : Voice → Type 0 = λ (x : Voice). x.registers ≡ v.registers in
    by_le P r 5 (λ _. refl)
    (λ _. by-eq P r 6 (λ _. refl)
    (λ _. by-eq P r 7 (λ _. refl)
    (λ _. by-eq P r 11 (λ _. refl)
    (λ _. by-eq P r 12 (λ _. refl)
    (λ _. by-eq P r 13 (λ _. refl) (λ _. refl))))))

-- a write to one register leaves the byte of another
other-stays : (r x k : ℕ) (v : Voice) → (k ≡ r → ⊥) → byte_at k (apply_register r x v) ≡ byte_at k v
unfolding apply_register
other-stays r x k v n =
    by_le (λ (w : Voice). byte_at k w ≡ byte_at k v) 14 r (λ _. refl)
    (λ _. rw (bytes-stay r _) (get_or-set_other v.registers r k (masked r x) 0 n))

above-stays : (n r k : ℕ) (byte : ℕ → ℕ) (v : Voice) → r + n ≤ k → byte_at k (applied_in_order (registers_from n r byte) v) ≡ byte_at k v
unfolding registers_from applied_in_order
above-stays zero r k byte v h = refl
above-stays (suc n) r k byte v h =
    above-stays n (r + 1) k byte (apply_register r (byte r) v) (omega arith) ∙ other-stays r (byte r) k v (λ e. omega arith)

-- R13
module _ (x : ℕ) (v : Voice) where
  restarts : Restarted (apply_register 13 x v)
  unfolding apply_register voice_set shape_set
  restarts = record { position = refl; counter = refl; shape = refl }

  period-stays : (envelope_of (apply_register 13 x v)).period ≡ (envelope_of v).period
  unfolding apply_register voice_set shape_set
  period-stays = refl

  pair-stays : pair_at 11 (apply_register 13 x v) ≡ pair_at 11 v
  unfolding pair_at
  pair-stays = rw (other-stays 13 x 11 v (λ e. omega arith), other-stays 13 x 12 v (λ e. omega arith))

-- a frame's registers
module _ (value : List ℕ) (v : Voice) where
  -- R0 to R12
  thirteen : Untouched v (first 13 value v)
  unfolding registers_from applied_in_order apply_register voice_set tone_period_set tones_set put_tone noise_period_set gates_set envelope_period_set
  thirteen = record { stored = above-stays 13 0 13 (hex_byte value) v (omega arith); position = refl; counter = refl; shape = refl }

  thirteen-period : (envelope_of (first 13 value v)).period ≡ pair_at 11 (first 13 value v)
  unfolding registers_from applied_in_order apply_register voice_set envelope_period_set pair_at
  thirteen-period = refl

  untouched : hex_byte value 13 ≡ 255 → Untouched v (after_frame value v)
  untouched e = rw (of-ff value v e) thirteen

  restarted : (hex_byte value 13 ≡ 255 → ⊥) → Restarted (after_frame value v)
  restarted n = rw (of_other value v n) (restarts (hex_byte value 13) (first 13 value v))

  period : (envelope_of (after_frame value v)).period ≡ pair_at 11 (after_frame value v)
  period =
      let r13 = hex_byte value 13 in
      let before = first 13 value v in
      by-same r13 255
      (λ e. rw (of-ff value v e) thirteen-period)
      (λ n. rw (of_other value v n) (period-stays r13 before ∙ thirteen-period ∙ sym (pair-stays r13 before)))

pub shape : Shape
shape = record { of-ff = untouched; of_other = restarted; period = period }
