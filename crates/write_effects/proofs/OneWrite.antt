-- What one write changes, by whether its register is one of the fourteen. Assumes nothing.
use mathlib.Core.Bool.{false, not}
use mathlib.Core.List.{List}
use mathlib.Core.Path.{◌≡◌, refl, sym}
use Prim.Native.Nat.{ℕ, ◌≤◌, ◌<◌}
use native.Mathlib.Omega.{arith}
use borrow.Author.Tests.{eq-eqb, ne_eqb}
use lib.Dec.{eqb}
use lib.ListN.{get_or, length, set}
use lib.Seq.{get_or-set_same}
use Rattle.laws.proofs.Tests.{on-gt, on-le}
use Rattle.registers.specs.Registers.{masked}
use Rattle.write_effects.specs.Effects.{bytes_after, changed_by, effect_of}

module _ (register value : ℕ) (bytes : List ℕ) where
  pub after_none : 14 ≤ register → bytes ≡ bytes_after register value bytes
  unfolding bytes_after
  after_none h = on-le 14 register _ _ _ h refl

  pub after-stored : register < 14 → set bytes register (masked register value) ≡ bytes_after register value bytes
  unfolding bytes_after
  after-stored h = on-gt 14 register _ _ _ h refl

  -- 14 and up: neither
  pub effect-none : 14 ≤ register → record { changed = false; restarted = false } ≡ effect_of register value bytes
  unfolding changed_by
  effect-none h = rw (sym (after_none h), eq-eqb (get_or bytes register 0) (get_or bytes register 0) refl, ne_eqb register 13 (omega arith))

  pub effect-stored : register < 14 → length bytes ≡ 14
      → record { changed = not (eqb (masked register value) (get_or bytes register 0)); restarted = eqb register 13 } ≡ effect_of register value bytes
  unfolding changed_by
  effect-stored h long = rw (sym (after-stored h), get_or-set_same bytes register (masked register value) 0 (rw long h))
