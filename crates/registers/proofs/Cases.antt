-- What a write to each register sets, from the register's number. Assumes nothing.
use mathlib.Core.Path.{◌≡◌, refl}
use Prim.Native.Nat.{ℕ, ◌/◌, ◌≤◌}
use native.Mathlib.Omega.{arith}
use Rattle.laws.proofs.Tests.{on-le, on-gt, on-eq, on-ne, by-eq}
use Rattle.registers.specs.declared.Voice.{Voice}
use Rattle.registers.specs.Registers.{tone_period_set, noise_period_set, gates_set, envelope_period_set, shape_set, voice_set}

module _ (r : ℕ) (v : Voice) {x : Voice} where
  pub to-tone : r ≤ 5 → x ≡ tone_period_set (r / 2) v → x ≡ voice_set r v
  unfolding voice_set
  to-tone h e = on-le r 5 _ _ _ h e

  pub to-noise : r ≡ 6 → x ≡ noise_period_set v → x ≡ voice_set r v
  unfolding voice_set
  to-noise h e = rw h e

  pub to-gates : r ≡ 7 → x ≡ gates_set v → x ≡ voice_set r v
  unfolding voice_set
  to-gates h e = rw h e

  pub to-envelope : 11 ≤ r → r ≤ 12 → x ≡ envelope_period_set v → x ≡ voice_set r v
  unfolding voice_set
  to-envelope h k e =
      on-gt r 5 _ _ _ (omega arith)
      (on-ne r 6 _ _ _ (omega arith)
      (on-ne r 7 _ _ _ (omega arith) (by-eq (λ (y : Voice). x ≡ y) r 11 (λ _. e) (λ n. on-eq r 12 _ _ _ (omega arith) e))))

  pub to-shape : r ≡ 13 → x ≡ shape_set v → x ≡ voice_set r v
  unfolding voice_set
  to-shape h e = rw h e

pub to_none : (r : ℕ) (v : Voice) → 8 ≤ r → (r ≡ 11 → ⊥) → (r ≡ 12 → ⊥) → (r ≡ 13 → ⊥) → v ≡ voice_set r v
unfolding voice_set
to_none r v h a b d =
    on-gt r 5 _ _ _ (omega arith)
    (on-ne r 6 _ _ _ (omega arith) (on-ne r 7 _ _ _ (omega arith) (on-ne r 11 _ _ _ a (on-ne r 12 _ _ _ b (on-ne r 13 _ _ _ d refl)))))
