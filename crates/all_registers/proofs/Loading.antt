-- The loading loop, a byte at a time: what is left to write from here gives what the whole does. Assumes nothing.
use mathlib.Core.List.{List}
use mathlib.Core.Path.{◌≡◌, refl, ap, ◌∙◌, sym}
use Prim.Native.Nat.{ℕ, suc, ◌+◌, ◌-◌, ◌≤◌, ◌<◌}
use native.Mathlib.Omega.{arith}
use lib.ListN.{get_or}
use Rattle.registers.specs.declared.Voice.{Voice}
use Rattle.registers.specs.Registers.{apply_register}
use Rattle.registers.specs.Writes.{applied_in_order, registers_from, loaded}

-- n bytes from register i on, written in order
abbrev written_from : ℕ → ℕ → List ℕ → Voice → Voice
written_from n i bytes v = applied_in_order (registers_from n i (λ register. get_or bytes register 0)) v

pub record Loading (bytes : List ℕ) (v₀ v : Voice) (i : ℕ) : Type 0 where
  pub rest : written_from (14 - i) i bytes v ≡ loaded bytes v₀

next : (n i : ℕ) (bytes : List ℕ) (v : Voice) → written_from (suc n) i bytes v ≡ written_from n (i + 1) bytes (apply_register i (get_or bytes i 0) v)
unfolding applied_in_order registers_from
next n i bytes v = refl

module _ {bytes : List ℕ} {v₀ v : Voice} {i : ℕ} (l : Loading bytes v₀ v i) where
  pub loading-on : {w : Voice} → i < 14 → w ≡ apply_register i (get_or bytes i 0) v → Loading bytes v₀ w (i + 1)
  loading-on {w} h e =
      let more : 14 - i ≡ suc (14 - (i + 1)) = omega arith in
      record {
        rest = rw e (sym (next (14 - (i + 1)) i bytes v) ∙ sym (ap (λ (n : ℕ). written_from n i bytes v) more) ∙ l.rest);
      }

  pub loading-end : 14 ≤ i → v ≡ loaded bytes v₀
  unfolding applied_in_order registers_from
  loading-end h =
      let none : 14 - i ≡ 0 = omega arith in
      rw none at l.rest
