-- The noise's loop in ticks. Where the noise stands k ticks after a counter of 0 with the half-tick off has a closed form (`at`): from
-- there it is the register's loop. Assumes nothing.
use mathlib.Core.Bool.{Bool, true, false, cond}
use mathlib.Core.Path.{◌≡◌, refl, sym, ap, ap₂, subst, ◌∙◌}
use Prim.Native.Nat.{ℕ, zero, suc, ◌+◌, ◌*◌, ◌/◌, ◌%◌, ◌^◌, ◌≤◌, ◌<◌, max}
use native.Mathlib.Nat.{div-add-mod', div-eq_of_lt, div-lt_iff_lt-mul, mod-eq_of_lt, mod-lt, mul-div_cancel, mul-mod_left, pos_of_ne-zero, suc-mul, zero-mul}
use native.Mathlib.Omega.{arith}
use borrow.Author.Tests.{eqb-false}
use lib.Arith.{digits_div, digits_mod}
use lib.Dec.{eqb}
use Rattle.laws.proofs.Tests.{by-eq, by_order, on-true}
use Rattle.noise.specs.declared.Noise.{Noise}
use Rattle.noise.specs.Noise.{noise_tick, output_by, register_step, turned_off}
use Rattle.noise.proofs.Hiss.{counts, steps as steps_on}
use Rattle.noise.proofs.Hissing.{top_bit}
use Rattle.laws_loops.specs.Loop.{times, steps, ticks, Back, Ready, NoiseLoop, ReadyAgain}
use Rattle.laws_loops.proofs.Times.{none}
use Rattle.laws_loops.proofs.Return.{steps-lt, steps-some}
use Rattle.laws_loops.proofs.Registers.{register-back}

-- the output that agrees with the register
abbrev out_of : ℕ → ℕ
out_of s = cond (eqb (s / 65536) 1) 0xffff_ffff 0

-- how often the half-tick turns on in k ticks, and whether it is on then
abbrev turns : ℕ → ℕ
turns k = (k + 1) / 2

abbrev on : ℕ → Bool
on k = eqb (k % 2) 1

abbrev stepping : ℕ → ℕ → ℕ → ℕ → Bool → Noise
stepping p s counter n half = record { counter = counter; period = p; register = steps n s; output = out_of (steps n s); half = half }

abbrev at : ℕ → ℕ → ℕ → Noise
at p s k = stepping p s (turns k % p) (turns k / p) (on k)

-- one more: in the same round of p, or the first of the next
module _ (p m : ℕ) (some : 0 < p) where
  same-round : m % p + 1 < p → ((m + 1) % p ≡ m % p + 1) × ((m + 1) / p ≡ m / p)
  same-round h =
      let whole = div-add-mod' m p in
      let moved : m + 1 ≡ m / p * p + (m % p + 1) = omega (arith, whole) in
      (ap (λ (x : ℕ). x % p) moved ∙ digits_mod (m / p) h, ap (λ (x : ℕ). x / p) moved ∙ digits_div (m / p) h)

  next-round : p ≤ m % p + 1 → ((m + 1) % p ≡ 0) × ((m + 1) / p ≡ suc (m / p))
  next-round h =
      let whole = div-add-mod' m p in
      let moved : m + 1 ≡ suc (m / p) * p + 0 = omega (arith, whole, suc-mul (m / p) p, mod-lt m some) in
      (ap (λ (x : ℕ). x % p) moved ∙ digits_mod (suc (m / p)) some, ap (λ (x : ℕ). x / p) moved ∙ digits_div (suc (m / p)) some)

module _ (p s : ℕ) (some : 0 < p) (seventeen : s < 2 ^ 17) where
  stepped-at : (n : ℕ) → record { counter = 0; period = p; register = register_step (steps n s); output = output_by (steps n s); half = true } ≡ stepping p s 0 (suc n) true
  unfolding output_by times
  stepped-at n =
      let h = steps-lt n s seventeen in
      ap (λ (d : ℕ). record { counter = 0; period = p; register = register_step (steps n s); output = cond (eqb d 1) 0xffff_ffff 0; half = true }) (sym (top_bit (steps n s) (omega arith)))

  turns-on : (k : ℕ) → k % 2 ≡ 0 → noise_tick (at p s k) ≡ stepping p s ((turns k + 1) % p) ((turns k + 1) / p) true
  turns-on k e =
      let off : on k ≡ false = ap (λ (x : ℕ). eqb x 1) e in
      let is : p ≡ max p 1 = omega arith in
      by_order p (turns k % p + 1)
      (λ g.
      let (a, b) = next-round p (turns k) some g in
      sym (steps_on (at p s k) off is g refl refl) ∙ stepped-at (turns k / p) ∙ ap₂ (λ (x y : ℕ). stepping p s x y true) (sym a) (sym b))
      (λ l.
      let (a, b) = same-round p (turns k) some l in
      sym (counts (at p s k) off is l) ∙ ap₂ (λ (x y : ℕ). stepping p s x y true) (sym a) (sym b))

  turns-off : (k : ℕ) → on k ≡ true → noise_tick (at p s k) ≡ turned_off (at p s k)
  unfolding noise_tick
  turns-off k e = sym (on-true (on k) _ _ _ e refl)

  one-tick : (k : ℕ) → noise_tick (at p s k) ≡ at p s (suc k)
  one-tick k =
      by-eq (λ (b : Bool). noise_tick (at p s k) ≡ at p s (suc k)) (k % 2) 1 {a = true} {b = false}
      (λ e.
      let same : turns k ≡ turns (suc k) = omega arith in
      let even : 0 ≡ suc k % 2 = omega arith in
      turns-off k (ap (λ (x : ℕ). eqb x 1) e) ∙ ap₂ (λ (m d : ℕ). stepping p s (m % p) (m / p) (eqb d 1)) same even)
      (λ e.
      let more : turns k + 1 ≡ turns (suc k) = omega arith in
      let odd : 1 ≡ suc k % 2 = omega arith in
      turns-on k (omega arith) ∙ ap₂ (λ (m d : ℕ). stepping p s (m % p) (m / p) (eqb d 1)) more odd)

  all-ticks : (k : ℕ) → ticks k (at p s 0) ≡ at p s k
  unfolding times
  all-ticks zero = refl
  all-ticks (suc k) = ap noise_tick (all-ticks k) ∙ one-tick k

module _ (n : Noise) (r : Ready n) where
  abbrev p : ℕ
  p = n.period

  abbrev s : ℕ
  s = n.register

  first : stepping p s 0 0 false ≡ n
  first =
      ap (λ (x : ℕ). record { counter = 0; period = p; register = x; output = out_of x; half = false }) (none register_step s)
      ∙ ap₂ (λ (x y : ℕ). record { counter = x; period = p; register = s; output = y; half = false }) (sym r.counter) (sym r.agrees)
      ∙ ap (λ (b : Bool). record { counter = n.counter; period = p; register = s; output = n.output; half = b }) (sym r.half)

  begins : at p s 0 ≡ n
  begins = ap₂ (λ (x y : ℕ). stepping p s x y false) (mod-eq_of_lt r.period) (div-eq_of_lt r.period) ∙ first

  after-ticks : (k : ℕ) → ticks k n ≡ at p s k
  after-ticks k = ap (ticks k) (sym begins) ∙ all-ticks p s r.period r.seventeen k

  loop : Back steps 131071 s
  loop = register-back s r.some r.seventeen

  -- after j rounds of 2 × p ticks
  rounds : (j : ℕ) → ticks (2 * (j * p)) n ≡ stepping p s 0 j false
  rounds j =
      let half : turns (2 * (j * p)) ≡ j * p = omega arith in
      let even : 2 * (j * p) % 2 ≡ 0 = omega arith in
      after-ticks (2 * (j * p))
      ∙ ap₂ (λ (m d : ℕ). stepping p s (m % p) (m / p) (eqb d 1)) half even
      ∙ ap₂ (λ (c q : ℕ). stepping p s c q false) (mul-mod_left j p) (mul-div_cancel j r.period)

  again : (j : ℕ) → Ready (ticks (2 * (j * p)) n)
  again j =
      subst Ready (sym (rounds j)) (record {
        period = r.period;
        counter = refl;
        half = refl;
        some = steps-some j s r.seventeen r.some;
        seventeen = steps-lt j s r.seventeen;
        agrees = refl;
      })

  returns : ticks (131071 * 2 * p) n ≡ n
  returns =
      let all : 131071 * 2 * p ≡ 2 * (131071 * p) = omega arith in
      ap (λ (k : ℕ). ticks k n) all
      ∙ rounds 131071
      ∙ ap (λ (x : ℕ). record { counter = 0; period = p; register = x; output = out_of x; half = false }) (loop.returns ∙ sym (none register_step s))
      ∙ first

  no-sooner : (k : ℕ) → 0 < k → k < 131071 * 2 * p → ticks k n ≡ n → ⊥
  no-sooner k pos under e =
      let back : at p s k ≡ n = sym (after-ticks k) ∙ e in
      let counter : turns k % p ≡ 0 = ap (λ (x : Noise). x.counter) back ∙ r.counter in
      let even : k % 2 ≡ 1 → ⊥ = eqb-false (k % 2) 1 (ap (λ (x : Noise). x.half) back ∙ r.half) in
      loop.no-sooner (turns k / p) (positive k pos counter) ((div-lt_iff_lt-mul r.period).1 (below k p even under)) (ap (λ (x : Noise). x.register) back)
    where
      below : (i q : ℕ) → (i % 2 ≡ 1 → ⊥) → i < 131071 * 2 * q → turns i < 131071 * q
      below i q o h = omega arith

      positive : (k : ℕ) → 0 < k → turns k % p ≡ 0 → 0 < turns k / p
      positive k pos counter =
          pos_of_ne-zero (λ (z : turns k / p ≡ 0).
          let no-round : turns k / p * p ≡ 0 = ap (λ (x : ℕ). x * p) z ∙ zero-mul p in
          omega (arith, div-add-mod' (turns k) p, no-round, counter, pos))

pub ready-again : ReadyAgain
ready-again = again

pub noise-back : (n : Noise) → Ready n → Back ticks (131071 * 2 * n.period) n
noise-back n r = record { returns = returns n r; no-sooner = no-sooner n r }

pub noise-loop : NoiseLoop
noise-loop = noise-back
