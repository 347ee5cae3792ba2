-- The counts over lists: joined, at most as long, and by the bytes that differ where no register is written twice. Assumes nothing.
use mathlib.Core.Bool.{Bool, true, false, cond, not}
use mathlib.Core.List.{List, [], ◌∷◌, ◌++◌}
use mathlib.Core.Logic.{◌≢◌}
use mathlib.Core.Path.{◌≡◌, refl, sym, ap, ap₂, ◌∙◌}
use Prim.Native.Nat.{ℕ, zero, suc, ◌+◌, ◌-◌, ◌≤◌, ◌<◌}
use native.Mathlib.Omega.{arith}
use borrow.Author.Tests.{eq-eqb}
use lib.Dec.{eqb, leb}
use lib.ListN.{get_or, length, set}
use lib.Seq.{get_or-set_other}
use Rattle.laws.proofs.Tests.{by_le, by-eq}
use Rattle.registers.specs.declared.Voice.{Voice}
use Rattle.registers.specs.Registers.{apply_register, envelope_period_set, gates_set, masked, noise_period_set, shape_set, stored, tone_period_set, voice_set}
use Rattle.registers.specs.Writes.{RegisterWrite, applied_in_order, registers_from}
use Rattle.write_effects.specs.Effects.{bytes_after, changed_by, changes_in, differences, one, restarted_by, restarts_in}
use Rattle.write_effects.proofs.Differing.{one-le}

-- ---- what a register sets is no stored byte
kept : (register : ℕ) (v : Voice) → (voice_set register v).registers ≡ v.registers
unfolding voice_set tone_period_set noise_period_set gates_set envelope_period_set shape_set
kept register v =
    by_le (λ (w : Voice). w.registers ≡ v.registers) register 5 (λ _. refl)
    (λ _. by-eq (λ (w : Voice). w.registers ≡ v.registers) register 6 (λ _. refl)
    (λ _. by-eq (λ (w : Voice). w.registers ≡ v.registers) register 7 (λ _. refl)
    (λ _. by-eq (λ (w : Voice). w.registers ≡ v.registers) register 11 (λ _. refl)
    (λ _. by-eq (λ (w : Voice). w.registers ≡ v.registers) register 12 (λ _. refl)
    (λ _. by-eq (λ (w : Voice). w.registers ≡ v.registers) register 13 (λ _. refl)
    (λ _. refl))))))

-- the bytes after a write are those of the voice after it
pub applied-bytes : (register value : ℕ) (v : Voice) → (apply_register register value v).registers ≡ bytes_after register value v.registers
unfolding apply_register bytes_after
applied-bytes register value v = by_both (leb 14 register)
  where
    by_both : (t : Bool) → (cond t v (voice_set register (stored register value v))).registers ≡ cond t v.registers (set v.registers register (masked register value))
    by_both true = refl
    by_both false = kept register (stored register value v)

-- the bytes after some
abbrev pub bytes_left : List RegisterWrite → List ℕ → List ℕ
bytes_left [] bytes = bytes
bytes_left (w ∷ writes) bytes = bytes_left writes (bytes_after w.register w.value bytes)

pub bytes_left_lem : (writes : List RegisterWrite) (v : Voice) → (applied_in_order writes v).registers ≡ bytes_left writes v.registers
unfolding applied_in_order
bytes_left_lem [] v = refl
bytes_left_lem (w ∷ writes) v =
    bytes_left_lem writes (apply_register w.register w.value v) ∙ ap (bytes_left writes) (applied-bytes w.register w.value v)

-- ---- writes and then more
pub changes-append : (xs ys : List RegisterWrite) (bytes : List ℕ) → changes_in (xs ++ ys) bytes ≡ changes_in xs bytes + changes_in ys (bytes_left xs bytes)
unfolding changes_in
changes-append [] ys bytes = omega arith
changes-append (x ∷ xs) ys bytes = let more = changes-append xs ys (bytes_after x.register x.value bytes) in omega arith

pub restarts-append : (xs ys : List RegisterWrite) → restarts_in (xs ++ ys) ≡ restarts_in xs + restarts_in ys
unfolding restarts_in
restarts-append [] ys = omega arith
restarts-append (x ∷ xs) ys = let more = restarts-append xs ys in omega arith

-- ---- at most as many as writes
pub changes-few : (writes : List RegisterWrite) (bytes : List ℕ) → changes_in writes bytes ≤ length writes
unfolding changes_in
changes-few [] bytes = omega arith
changes-few (w ∷ writes) bytes =
    let more = changes-few writes (bytes_after w.register w.value bytes) in
    let first = one-le (changed_by w.register w.value bytes) in
    omega arith

pub restarts-few : (writes : List RegisterWrite) → restarts_in writes ≤ length writes
unfolding restarts_in
restarts-few [] = omega arith
restarts-few (w ∷ writes) = let more = restarts-few writes in let first = one-le (restarted_by w.register) in omega arith

-- ---- registers in order, none twice
after-other : (register value j : ℕ) (bytes : List ℕ) → j ≢ register → get_or (bytes_after register value bytes) j 0 ≡ get_or bytes j 0
unfolding bytes_after
after-other register value j bytes other =
    by_le (λ (l : List ℕ). get_or l j 0 ≡ get_or bytes j 0) 14 register (λ _. refl) (λ _. get_or-set_other bytes register j (masked register value) 0 other)

same-differences : (m k : ℕ) (before before' after : List ℕ) → ((j : ℕ) → k ≤ j → get_or before j 0 ≡ get_or before' j 0) → differences m k before after ≡ differences m k before' after
unfolding differences
same-differences zero k before before' after same = refl
same-differences (suc m) k before before' after same =
    ap₂ (λ (b rest : ℕ). one (not (eqb (get_or after k 0) b)) + rest) (same k (omega arith)) (same-differences m (k + 1) before before' after (λ j h. same j (omega arith)))

pub no-differences : (m k : ℕ) (bytes : List ℕ) → differences m k bytes bytes ≡ 0
unfolding differences
no-differences zero k bytes = refl
no-differences (suc m) k bytes = let more = no-differences m (k + 1) bytes in rw (eq-eqb (get_or bytes k 0) (get_or bytes k 0) refl) (omega arith)

module _ (byte : ℕ → ℕ) where
  -- those from k on leave the bytes below
  left_below : (n k j : ℕ) (bytes : List ℕ) → j < k → get_or (bytes_left (registers_from n k byte) bytes) j 0 ≡ get_or bytes j 0
  unfolding registers_from
  left_below zero k j bytes h = refl
  left_below (suc n) k j bytes h = left_below n (k + 1) j (bytes_after k (byte k) bytes) (omega arith) ∙ after-other k (byte k) j bytes (omega arith)

  pub each-once : (n k : ℕ) (bytes : List ℕ) → n + k ≤ 14 → changes_in (registers_from n k byte) bytes ≡ differences (14 - k) k bytes (bytes_left (registers_from n k byte) bytes)
  unfolding registers_from changes_in differences changed_by
  each-once zero k bytes h = sym (no-differences (14 - k) k bytes)
  each-once (suc n) k bytes h =
      let more : 14 - k ≡ suc (14 - (k + 1)) = omega arith in
      let next : List ℕ = bytes_after k (byte k) bytes in
      let last : List ℕ = bytes_left (registers_from n (k + 1) byte) next in
      let here : get_or last k 0 ≡ get_or next k 0 = left_below n (k + 1) k next (omega arith) in
      ap₂ ◌+◌ (ap (λ (b : ℕ). one (not (eqb b (get_or bytes k 0)))) (sym here))
      (each-once n (k + 1) next (omega arith) ∙ same-differences (14 - (k + 1)) (k + 1) next bytes last (λ j l. after-other k (byte k) j bytes (omega arith)))
      ∙ sym (ap (λ (m : ℕ). differences m k bytes last) more)
