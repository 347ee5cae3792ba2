-- A line whose number was read has its key, a digit or more and its LF, all inside the text. Assumes nothing.
use mathlib.Core.Bool.{true}
use mathlib.Core.List.{List}
use mathlib.Core.Path.{◌≡◌, refl}
use Prim.Native.Nat.{ℕ, ◌+◌, ◌-◌, ◌≤◌, ◌<◌}
use native.Mathlib.Omega.{arith}
use lib.Dec.{ltb}
use lib.ListN.{length, drop, length-take, length-drop}
use Rattle.laws.proofs.Tests.{by_cond, by-eq}
use Rattle.text_fields.specs.Fields.{decimal_of}
use Rattle.std.specs.Prelude.{Option, Some}
use Rattle.text_lines.specs.Lines.{bytes_at, end_at, line_at, starts_with, value_at}
use Rattle.text_lines.specs.declared.Line.{Line}
use Rattle.text_lines.proofs.Values.{whole-inside}
use Rattle.text_entries.specs.Entries.{line_entry_at}

some-digits : (ds : List ℕ) {n : ℕ} → decimal_of ds ≡ Some n → 0 < length ds
unfolding decimal_of
some-digits ds {n} =
    by-eq (λ (o : Option ℕ). o ≡ Some n → 0 < length ds) (length ds) 0 (λ _ e. absurd cc) (λ h _. some (length ds) h)
  where
    some : (n : ℕ) → (n ≡ 0 → ⊥) → 0 < n
    some n h = omega arith

module _ (key t : List ℕ) (at : ℕ) where
  abbrev line : Line
  line = line_at t at

  record Ended : Type 0 where
    whole : line.whole ≡ true
    after : at + length key < line.end

  ended : 0 < length (value_at key t at) → Ended
  unfolding value_at
  ended =
      by_cond (λ (l : List ℕ). 0 < length l → Ended) line.whole _ _
      (λ w. by_cond (λ (l : List ℕ). 0 < length l → Ended) (starts_with key (bytes_at t at)) _ _
      (λ _ h. record { whole = w; after = omega (arith, h, length-drop (length key) (bytes_at t at), length-take (line.end - at) (drop at t)) })
      (λ _ h. absurd (omega arith)))
      (λ _ h. absurd (omega arith))

  next-line : line.whole ≡ true → line.next ≡ line.end + 1
  unfolding line_at
  next-line =
      by_cond (λ (l : Line). l.whole ≡ true → l.next ≡ l.end + 1) (ltb (end_at t at) (length t)) _ _ (λ _ _. refl)
      (λ _ e. absurd (let z : ◌≡◌ {A = ℕ} 0 1 = cc in omega arith))

  pub record Long : Type 0 where
    pub after : at + length key + 2 ≤ (line_entry_at key t at).next
    pub inside : (line_entry_at key t at).next ≤ length t

  pub read-long : {n : ℕ} → (line_entry_at key t at).value ≡ Some n → Long
  unfolding line_entry_at
  read-long e =
      let m = ended (some-digits (value_at key t at) e) in
      let n = next-line m.whole in
      record { after = omega (arith, n, m.after); inside = omega (arith, n, whole-inside t at m.whole) }
