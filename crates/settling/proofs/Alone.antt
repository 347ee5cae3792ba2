-- One register alone: what it sets, by its number, and that a write with the IRQ flag off is no more. Assumes nothing.
use mathlib.Core.Bool.{false}
use mathlib.Core.List.{List}
use mathlib.Core.Path.{◌≡◌, refl}
use Prim.Native.Nat.{ℕ, ◌+◌, ◌^◌, ◌≤◌, ◌<◌}
use native.Mathlib.Omega.{arith}
use lib.ListN.{get_or, set}
use Rattle.laws.proofs.Tests.{on-gt, by-same}
use Rattle.envelope.specs.declared.Envelope.{Envelope}
use Rattle.envelope.specs.Envelope.{envelope_set, shaped}
use Rattle.gates.specs.declared.Gates.{Gates}
use Rattle.gates.specs.Gates.{gates_from}
use Rattle.registers.specs.declared.Voice.{Voice}
use Rattle.registers.specs.Registers.{pair_in, masked, apply_register}
use Rattle.settling.specs.declared.Settings.{Settings}
use Rattle.settling.specs.Settling.{settings_of, pitch_after, settled_of, generators_with, with_settings}
use Rattle.settling.proofs.OneWrite.{write-settled}

module _ (bytes : List ℕ) (r : ℕ) (s : Settings) where
  abbrev Sets : Settings → Type 0
  Sets after = after ≡ settled_of bytes (2 ^ r) s

  -- the register is one of two
  one_of : (low high : ℕ) {x : Settings} → low ≤ r → r ≤ high → high ≡ low + 1
      → x ≡ settled_of bytes (2 ^ low) s → x ≡ settled_of bytes (2 ^ high) s → Sets x
  one_of low high h k next e f =
      by-same r low (λ same. rw same e) (λ another. let same : r ≡ high = omega arith in rw same f)

  pub alone-a : {period : ℕ} → r ≤ 1 → period ≡ pair_in 0 bytes
      → Sets (record { a = pitch_after false period s.a; b = s.b; c = s.c; noise = s.noise; envelope = s.envelope; gates = s.gates })
  unfolding settled_of
  alone-a k e = one_of 0 1 (omega arith) k refl (rw e) (rw e)

  pub alone-b : {period : ℕ} → 2 ≤ r → r ≤ 3 → period ≡ pair_in 2 bytes
      → Sets (record { a = s.a; b = pitch_after false period s.b; c = s.c; noise = s.noise; envelope = s.envelope; gates = s.gates })
  unfolding settled_of
  alone-b h k e = one_of 2 3 h k refl (rw e) (rw e)

  pub alone-c : {period : ℕ} → 4 ≤ r → r ≤ 5 → period ≡ pair_in 4 bytes
      → Sets (record { a = s.a; b = s.b; c = pitch_after false period s.c; noise = s.noise; envelope = s.envelope; gates = s.gates })
  unfolding settled_of
  alone-c h k e = one_of 4 5 h k refl (rw e) (rw e)

  pub alone-noise : r ≡ 6 → Sets (record { a = s.a; b = s.b; c = s.c; noise = get_or bytes 6 0; envelope = s.envelope; gates = s.gates })
  unfolding settled_of
  alone-noise h = rw h refl

  pub alone-gates : {gates : Gates} → r ≡ 7 → gates ≡ gates_from (get_or bytes 7 0)
      → Sets (record { a = s.a; b = s.b; c = s.c; noise = s.noise; envelope = s.envelope; gates = gates })
  unfolding settled_of
  alone-gates h e = rw (h, e)

  pub alone-period : {period : ℕ} → 11 ≤ r → r ≤ 12 → period ≡ pair_in 11 bytes
      → Sets (record { a = s.a; b = s.b; c = s.c; noise = s.noise; envelope = envelope_set period s.envelope; gates = s.gates })
  unfolding settled_of
  alone-period h k e = one_of 11 12 h k refl (rw e) (rw e)

  pub alone-shape : {envelope : Envelope} → r ≡ 13 → envelope ≡ shaped (get_or bytes 13 0) s.envelope
      → Sets (record { a = s.a; b = s.b; c = s.c; noise = s.noise; envelope = envelope; gates = s.gates })
  unfolding settled_of
  alone-shape h e = rw (h, e)

  -- 8..10 only store
  pub alone-none : 8 ≤ r → r ≤ 10 → Sets s
  unfolding settled_of
  alone-none h k =
      by-same r 8 (λ same. rw same refl) (λ not8. by-same r 9 (λ same. rw same refl) (λ not9. let same : r ≡ 10 = omega arith in rw same refl))

-- The byte stored and its register settled: with the IRQ flag off that is the write.
applied-alone : (v : Voice) (register value : ℕ) → v.irq ≡ false → register < 14
    → let bytes = set v.registers register (masked register value) in
    with_settings bytes (settled_of bytes (2 ^ register) (settings_of v.generators v.gates)) v ≡ apply_register register value v
unfolding apply_register generators_with with_settings
applied-alone v register value off h =
    on-gt 14 register _ _ _ h (write-settled (set v.registers register (masked register value)) (settings_of v.generators v.gates) v off register h)

-- the same as calls do it
pub applied-so : (v : Voice) (register value : ℕ) {after : Voice} {byte : ℕ} {bytes : List ℕ} {before settings : Settings} → v.irq ≡ false → register < 14
    → byte ≡ masked register value → bytes ≡ set v.registers register byte → before ≡ settings_of v.generators v.gates
    → settings ≡ settled_of bytes (2 ^ register) before → after ≡ with_settings bytes settings v → after ≡ apply_register register value v
applied-so v register value off h e f g k m = rw (m, k, g, f, e) (applied-alone v register value off h)
