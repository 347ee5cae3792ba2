-- What callers lean on: the values of any entry fit their types, and the next place is the next line's. Assumes nothing.
use mathlib.Core.Path.{◌≡◌, refl}
use mathlib.Core.List.{List}
use Prim.Native.Nat.{ℕ, ◌≤◌}
use Rattle.std.specs.Prelude.{Option, IfSome, IfOk}
use Rattle.laws.proofs.Tests.{by_cond}
use Rattle.text_stamps.proofs.Stamping.{stamp-held}
use Rattle.text_lines.specs.Lines.{line_at, value_at}
use Rattle.text_entries.specs.Entries.{is_byte, line_entry_at, long_entry_at, byte_entry_at}
use Rattle.text_entries.proofs.Bytes.{byte-top}

module _ (key text : List ℕ) (at : ℕ) where
  pub long-held : IfOk (long_entry_at key text at).value (λ (n : ℕ). n ≤ 18446744073709551615)
  unfolding long_entry_at
  long-held = stamp-held (value_at key text at)

  pub byte-held : IfSome (byte_entry_at key text at).value (λ (n : ℕ). n ≤ 255)
  unfolding byte_entry_at
  byte-held =
      let value = value_at key text at in
      by_cond (λ (o : Option ℕ). IfSome o (λ (n : ℕ). n ≤ 255)) (is_byte value) _ _ (λ h. byte-top value refl h) (λ _. tt)

  pub line-next : (line_entry_at key text at).next ≡ (line_at text at).next
  unfolding line_entry_at
  line-next = refl

  pub long-next : (long_entry_at key text at).next ≡ (line_at text at).next
  unfolding long_entry_at
  long-next = refl

  pub byte_next : (byte_entry_at key text at).next ≡ (line_at text at).next
  unfolding byte_entry_at
  byte_next = refl
