-- A period of 0 runs as 1; and a noise whose output does not agree with its register never comes back. Assumes nothing.
use mathlib.Core.Bool.{Bool, true, false, cond}
use mathlib.Core.Path.{◌≡◌, refl, sym, ap, subst, ◌∙◌}
use Prim.Native.Nat.{ℕ, zero, suc, ◌+◌, ◌*◌, ◌<◌, max}
use native.Mathlib.Omega.{arith}
use lib.Dec.{leb}
use mathlib.Core.Logic.{inl, inr}
use Rattle.laws.proofs.Tests.{by_cond, by_le}
use Rattle.noise.specs.declared.Noise.{Noise}
use Rattle.noise.specs.Noise.{counted, noise_set, noise_tick, output_by, register_step, stepped, turned_off}
use Rattle.noise.specs.Course.{Agrees}
use Rattle.noise.specs.Range.{NoiseInRange}
use Rattle.noise.proofs.Hissing.{noise-tick-in, tick-agrees}
use Rattle.laws_loops.specs.Loop.{times, ticks, Ready, Back, ZeroLoop, disagreeing, NeverBack}
use Rattle.laws_loops.proofs.Ticks.{noise-back}

-- a tick leaves the period
tick-period : (n : Noise) → (noise_tick n).period ≡ n.period
unfolding noise_tick
tick-period n =
    let P : Noise → Type 0 = λ x. x.period ≡ n.period in
    by_cond P n.half _ _ (λ _. refl) (λ _. by_le P (max n.period 1) (n.counter + 1) (λ _. refl) (λ _. refl))

pub ticks-period : (k : ℕ) (n : Noise) → (ticks k n).period ≡ n.period
unfolding times
ticks-period zero n = refl
ticks-period (suc k) n = tick-period (ticks k n) ∙ ticks-period k n

pub set_same : (p : ℕ) (n : Noise) → n.period ≡ p → noise_set p n ≡ n
set_same p n e = ap (λ (x : ℕ). noise_set x n) (sym e)

-- ---- period 0
zero-tick : (n : Noise) → noise_tick (noise_set 0 n) ≡ noise_set 0 (noise_tick (noise_set 1 n))
unfolding noise_tick
zero-tick n = by_both n.half (leb 1 (n.counter + 1))
  where
    by_both : (half step : Bool)
        → cond half (turned_off (noise_set 0 n)) (cond step (stepped (noise_set 0 n)) (counted (noise_set 0 n)))
        ≡ noise_set 0 (cond half (turned_off (noise_set 1 n)) (cond step (stepped (noise_set 1 n)) (counted (noise_set 1 n))))
    by_both true step = refl
    by_both false true = refl
    by_both false false = refl

zero-ticks : (k : ℕ) (n : Noise) → ticks k (noise_set 0 n) ≡ noise_set 0 (ticks k (noise_set 1 n))
unfolding times
zero-ticks zero n = refl
zero-ticks (suc k) n =
    let m = ticks k (noise_set 1 n) in
    ap noise_tick (zero-ticks k n) ∙ zero-tick m ∙ ap (λ (x : Noise). noise_set 0 (noise_tick x)) (set_same 1 m (ticks-period k (noise_set 1 n)))

pub zero-back : (n : Noise) → n.period ≡ 0 → Ready (noise_set 1 n) → Back ticks (131071 * 2 * 1) n
zero-back n zero-period r =
    record {
      returns = as_one (131071 * 2 * 1) ∙ ap (noise_set 0) loop.returns ∙ is_zero;
      no-sooner = λ k pos under e. loop.no-sooner k pos under
          (sym (set_same 1 (ticks k (noise_set 1 n)) (ticks-period k (noise_set 1 n))) ∙ ap (noise_set 1) (sym (as_one k) ∙ e));
    }
  where
    loop : Back ticks (131071 * 2 * 1) (noise_set 1 n)
    loop = noise-back (noise_set 1 n) r

    is_zero : noise_set 0 n ≡ n
    is_zero = set_same 0 n zero-period

    as_one : (k : ℕ) → ticks k n ≡ noise_set 0 (ticks k (noise_set 1 n))
    as_one k = ap (ticks k) (sym is_zero) ∙ zero-ticks k n

pub zero-loop : ZeroLoop
zero-loop = zero-back

-- ---- an output that does not agree
abbrev agreeing : Noise
agreeing = record { counter = 0; period = 1; register = 1; output = 0; half = false }

-- the first tick steps, and what the output was is gone
same-ticks : (k : ℕ) → ticks (suc k) disagreeing ≡ ticks (suc k) agreeing
unfolding times noise_tick register_step output_by
same-ticks zero = refl
same-ticks (suc k) = ap noise_tick (same-ticks k)

stays-agreeing : (k : ℕ) (n : Noise) → NoiseInRange n → Agrees n → NoiseInRange (ticks k n) × Agrees (ticks k n)
unfolding times
stays-agreeing zero n h a = (h, a)
stays-agreeing (suc k) n h a = let (r, b) = stays-agreeing k n h a in (noise-tick-in r, tick-agrees (ticks k n) b r)

never : (k : ℕ) → 0 < k → ticks k disagreeing ≡ disagreeing → ⊥
never zero pos e = omega arith
never (suc k) pos e =
    let in-range : NoiseInRange agreeing = record { period = omega arith; some = omega arith; narrow = omega arith; output = inl refl } in
    let a : Agrees disagreeing = subst Agrees (sym (same-ticks k) ∙ e) (stays-agreeing (suc k) agreeing in-range refl).1 in
    omega arith

pub never_back : NeverBack
never_back = (record { period = omega arith; some = omega arith; narrow = omega arith; output = inr refl }, never)
