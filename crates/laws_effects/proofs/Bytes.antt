-- A write that changes no byte leaves all of them, and one that changes its own leaves another there; so of lists. Assumes nothing.
use mathlib.Core.Bool.{Bool, true, false}
use mathlib.Core.List.{List, [], ◌∷◌, ◌++◌}
use mathlib.Core.Path.{◌≡◌, refl, ap, ◌∙◌}
use Prim.Native.Nat.{ℕ, zero, suc, ◌+◌}
use native.Mathlib.Omega.{arith}
use borrow.Author.Tests.{eq-eqb, eqb-true, not-false}
use lib.Dec.{eqb}
use lib.ListN.{get_or, length, set}
use Rattle.laws.proofs.Tests.{by_le}
use Rattle.registers.specs.Registers.{masked}
use Rattle.registers.specs.Writes.{RegisterWrite}
use Rattle.write_effects.specs.Effects.{bytes_after, changed_by, changes_in, one}
use Rattle.write_effects.proofs.Laws.{bytes_left}
use Rattle.queue.specs.declared.Write.{Write}
use Rattle.queue_flush.specs.Applied.{register_writes}

-- the byte at a place is as before, so all are
set-kept : (bytes : List ℕ) (i x : ℕ) → get_or (set bytes i x) i 0 ≡ get_or bytes i 0 → set bytes i x ≡ bytes
set-kept [] i x e = refl
set-kept (b ∷ bytes) zero x e = ap (λ (y : ℕ). y ∷ bytes) e
set-kept (b ∷ bytes) (suc i) x e = ap (λ (l : List ℕ). b ∷ l) (set-kept bytes i x e)

module _ (register value : ℕ) (bytes : List ℕ) where
  same_byte : get_or (bytes_after register value bytes) register 0 ≡ get_or bytes register 0 → bytes_after register value bytes ≡ bytes
  unfolding bytes_after
  same_byte =
      by_le (λ (l : List ℕ). get_or l register 0 ≡ get_or bytes register 0 → l ≡ bytes) 14 register (λ _ _. refl)
      (λ _ e. set-kept bytes register (masked register value) e)

  pub unchanged : changed_by register value bytes ≡ false → bytes_after register value bytes ≡ bytes
  unfolding changed_by
  unchanged e = same_byte (eqb-true _ _ (not-false _ e))

  pub changed : changed_by register value bytes ≡ true → get_or (bytes_after register value bytes) register 0 ≡ get_or bytes register 0 → ⊥
  unfolding changed_by
  changed e same =
      let z : false ≡ true = rw (eq-eqb _ _ same) at e in
      let n : ◌≡◌ {A = ℕ} 0 1 = cc in
      omega arith

-- none of two
pub none_of : (happened : Bool) (n : ℕ) → one happened + n ≡ 0 → (happened ≡ false) × (n ≡ 0)
none_of true n e = absurd (omega arith)
none_of false n e = (refl, omega arith)

pub none-changed : (writes : List RegisterWrite) (bytes : List ℕ) → changes_in writes bytes ≡ 0 → bytes_left writes bytes ≡ bytes
unfolding changes_in
none-changed [] bytes e = refl
none-changed (w ∷ writes) bytes e =
    let (first, rest) = none_of (changed_by w.register w.value bytes) (changes_in writes (bytes_after w.register w.value bytes)) e in
    none-changed writes (bytes_after w.register w.value bytes) rest ∙ unchanged w.register w.value bytes first

-- writes and then more
pub left-append : (xs ys : List RegisterWrite) (bytes : List ℕ) → bytes_left (xs ++ ys) bytes ≡ bytes_left ys (bytes_left xs bytes)
left-append [] ys bytes = refl
left-append (x ∷ xs) ys bytes = left-append xs ys (bytes_after x.register x.value bytes)

-- as many register writes as waiting ones
pub length-writes : (l : List Write) → length (register_writes l) ≡ length l
unfolding register_writes
length-writes [] = refl
length-writes (w ∷ l) = ap suc (length-writes l)
