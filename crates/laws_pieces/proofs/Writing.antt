-- A caller that passes pieces on, one after another: how many bytes it has passed on, and what it passes on next. Assumes nothing.
use mathlib.Core.List.{List, [], ◌++◌}
use mathlib.Core.Path.{◌≡◌, sym, ap, ◌∙◌, refl}
use Prim.Native.Nat.{ℕ, ◌+◌, ◌≤◌, ◌<◌}
use native.Mathlib.Omega.{arith}
use lib.ListN.{length, take, drop, length-append}
use lib.Seq.{take_at, drop-drop, drop_at}
use Rattle.std.proofs.Common.{length-take-le}

-- so many bytes of the whole are passed on, and the others are what the giver has yet to hand out
pub record Writing {S : Type 0} (Stands : S → Type 0) (rest : S → List ℕ) (whole : List ℕ) (s : S) (bytes : ℕ) : Type 0 where
  pub stands : Stands s
  pub left : rest s ≡ drop bytes whole
  pub long : bytes + length (rest s) ≡ length whole

pub writing_start : {S : Type 0} {Stands : S → Type 0} {rest : S → List ℕ} {whole : List ℕ} {s : S} → Stands s → rest s ≡ whole → Writing Stands rest whole s 0
writing_start st e = record { stands = st; left = e; long = omega (arith, ap length e) }

module _ {S : Type 0} {Stands : S → Type 0} {rest : S → List ℕ} {whole : List ℕ} {s : S} {bytes : ℕ} (m : Writing Stands rest whole s bytes) where
  -- all is passed on
  pub writing-ends : rest s ≡ [] → bytes ≡ length whole
  writing-ends e = omega (arith, m.long, ap length e)

  -- a piece stands at the buffer's start, and behind it the giver stands at t
  module _ (t : S) {n : ℕ} (now : List ℕ) (fits : n ≤ length now) (part : take n now ++ rest t ≡ rest s) where
    count : length (take n now) ≡ n
    count = length-take-le n now fits

    parts : n + length (rest t) ≡ length (rest s)
    parts = omega (arith, count, length-append (take n now) (rest t), ap length part)

    -- it is what comes next
    pub piece-next : take n now ≡ take (length (take n now)) (drop bytes whole)
    piece-next = rw (← m.left, ← part) (sym (take_at (take n now) (rest t) (length (take n now)) refl))

    pub writing-within : bytes + n ≤ length whole
    writing-within = omega (arith, parts, m.long)

    pub writing-on : Stands t → Writing Stands rest whole t (bytes + n)
    writing-on st =
        let later : rest t ≡ drop (bytes + n) whole
        = sym (drop_at (take n now) (rest t) n count) ∙ ap (λ (l : List ℕ). drop n l) (part ∙ m.left) ∙ drop-drop n bytes whole
        in
        record { stands = st; left = later; long = omega (arith, parts, m.long) }

    pub writing-less : (n ≡ 0 → ⊥) → length (rest t) < length (rest s)
    writing-less z = omega (arith, parts, z)
