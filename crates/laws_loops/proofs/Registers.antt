-- The register's loop: `Return` has that 131,071 steps return; a smaller return would bring one after the remainder of 131,071 by it, and
-- so on down to one step, as 131,071 is prime; and one step fixes 0 alone. Assumes nothing.
use mathlib.Core.Path.{◌≡◌, refl, sym, ap, ◌∙◌}
use Prim.Native.Nat.{ℕ, zero, suc, ◌+◌, ◌*◌, ◌/◌, ◌%◌, ◌^◌, ◌≤◌, ◌<◌, suc-le-suc}
use native.Mathlib.Nat.{add-zero, div-add-mod', le_of_suc-le-suc, le_refl, le_trans, lt_irrefl, lt_trans, mod-lt, pos_of_ne-zero, suc-mul, zero-lt-suc, zero-mul}
use native.Mathlib.Omega.{arith}
use lib.Bits.{bit_and, bit_xor, and_block, and_zero_r, xor_add_and}
use lib.Dec.{lit<}
use Rattle.laws.proofs.Tests.{by-eq}
use Rattle.noise.specs.Noise.{register_step}
use Rattle.laws_loops.specs.Loop.{steps, Back, RegisterLoop}
use Rattle.laws_loops.proofs.Times.{first_then, none}
use Rattle.laws_loops.proofs.Return.{returns, steps-one}
use Rattle.laws_loops.proofs.Prime.{prime}

again : (k s q : ℕ) → steps k s ≡ s → steps (q * k) s ≡ s
again k s zero e = ap (λ (m : ℕ). steps m s) (zero-mul k) ∙ none register_step s
again k s (suc q) e = ap (λ (m : ℕ). steps m s) (suc-mul q k) ∙ first_then register_step (q * k) k s ∙ ap (steps k) (again k s q e) ∙ e

remainder : (k s : ℕ) → s < 2 ^ 17 → steps k s ≡ s → steps (131071 % k) s ≡ s
remainder k s h e =
    let q = 131071 / k in
    let r = 131071 % k in
    ap (steps r) (sym (again k s q e)) ∙ sym (first_then register_step (q * k) r s) ∙ ap (λ (m : ℕ). steps m s) (div-add-mod' 131071 k) ∙ returns s h

-- One step fixes 0 alone. An odd s = 2h + 1 that stays is h XOR 0x12000, and then the top three bits m of h have m + 2 × (m AND 9) = 8;
-- no m has.
no_nine : (m : ℕ) → m < 8 → m + bit_and m 9 * 2 ≡ 8 → ⊥
no_nine zero h e = omega arith
no_nine (suc zero) h e = omega arith
no_nine (suc (suc zero)) h e = omega arith
no_nine (suc (suc (suc zero))) h e = omega arith
no_nine (suc (suc (suc (suc zero)))) h e = omega arith
no_nine (suc (suc (suc (suc (suc zero))))) h e = omega arith
no_nine (suc (suc (suc (suc (suc (suc zero)))))) h e = omega arith
no_nine (suc (suc (suc (suc (suc (suc (suc zero))))))) h e = omega arith
no_nine (suc (suc (suc (suc (suc (suc (suc (suc m)))))))) h e = omega arith

odd-moves : (h s : ℕ) → h < 65536 → s ≡ h * 2 + 1 → bit_xor h 0x12000 ≡ s → ⊥
odd-moves h s l p e = no_nine m (top h l) (solve h s m (bit_and m 9) (bit_and h 0x12000) p sums part refl)
  where
    m : ℕ
    m = h / 8192

    top : (x : ℕ) → x < 65536 → x / 8192 < 8
    top x k = omega arith

    part : bit_and h 0x12000 ≡ bit_and m 9 * 8192
    part =
        ap (λ (x : ℕ). bit_and x 0x12000) (sym (div-add-mod' h 8192))
        ∙ and_block 13 m 9 (h % 8192) 0 (mod-lt h (lit< tt)) (lit< tt)
        ∙ ap (λ (x : ℕ). bit_and m 9 * 8192 + x) (and_zero_r (h % 8192))
        ∙ add-zero (bit_and m 9 * 8192)

    sums : s + bit_and h 0x12000 * 2 ≡ h + 0x12000
    sums = ap (λ (x : ℕ). x + bit_and h 0x12000 * 2) (sym e) ∙ xor_add_and h 0x12000

    solve : (x t y b a : ℕ) → t ≡ x * 2 + 1 → t + a * 2 ≡ x + 0x12000 → a ≡ b * 8192 → y ≡ x / 8192 → y + b * 2 ≡ 8
    solve x t y b a p q r u = omega arith

fixed : (s : ℕ) → s < 2 ^ 17 → register_step s ≡ s → s ≡ 0
unfolding register_step
fixed s h =
    by-eq (λ (x : ℕ). x ≡ s → s ≡ 0) (s % 2) 1 (λ odd e. absurd (odd-moves (s / 2) s (omega arith) (omega arith) e)) (λ even e. omega arith)

-- down to one step
down : (n k s : ℕ) → k ≤ n → 0 < k → k < 131071 → s < 2 ^ 17 → steps k s ≡ s → register_step s ≡ s
down zero k s l a b h e = absurd (omega (arith, l, a))
down (suc n) zero s l a b h e = absurd (lt_irrefl 0 a)
down (suc n) (suc zero) s l a b h e = sym (steps-one s) ∙ e
down (suc n) (suc (suc k)) s l a b h e =
    let less : 131071 % suc (suc k) < suc (suc k) = mod-lt 131071 a in
    down n (131071 % suc (suc k)) s (le_of_suc-le-suc (le_trans less l)) (pos_of_ne-zero (prime (suc (suc k)) (suc-le-suc (zero-lt-suc k)) b))
    (lt_trans less b) h (remainder (suc (suc k)) s h e)

no-sooner : (s k : ℕ) → 0 < s → s < 2 ^ 17 → 0 < k → k < 131071 → steps k s ≡ s → ⊥
no-sooner s k some h a b e = let z = fixed s h (down k k s (le_refl k) a b h e) in omega arith

pub register-back : (s : ℕ) → 0 < s → s < 2 ^ 17 → Back steps 131071 s
register-back s some h = record { returns = returns s h; no-sooner = λ k a b e. no-sooner s k some h a b e }

pub register-loop : RegisterLoop
register-loop = register-back
