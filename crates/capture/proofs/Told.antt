-- What any verdict's numbers are, a refusal's too. Assumes nothing.
use mathlib.Core.Path.{◌≡◌, refl}
use mathlib.Core.List.{List}
use Prim.Native.Nat.{ℕ, zero, suc, ◌+◌, ◌*◌, ◌≤◌, ◌<◌}
use native.Mathlib.Omega.{arith}
use lib.ListN.{length}
use Rattle.std.specs.Prelude.{Result, Err}
use Rattle.laws.proofs.Tests.{by-lt}
use Rattle.text_lines.specs.Bytes.{bytes}
use Rattle.text_entries.specs.Entries.{line_entry_at}
use Rattle.dump_clocks.specs.Clocks.{clock_lines}
use Rattle.dump_clocks.specs.declared.LineRefused.{LineRefused}
use Rattle.dump_clocks.proofs.Paced.{numbered, refused-early}
use Rattle.capture_lines.specs.OneLine.{writes_line, words_line}
use Rattle.capture_lines.proofs.Ranges.{writes-range, words-range}
use Rattle.capture_writes.proofs.Ranged.{refused-line}
use Rattle.capture_writes.proofs.Steps.{by-step, by-line}
use Rattle.capture_body.specs.Walk.{writes_read}
use Rattle.capture_body.proofs.Walking.{by-write}
use Rattle.capture.specs.Checked.{told_capture, checked, capture_of}
use Rattle.capture.specs.declared.Capture.{Capture}
use Rattle.capture.specs.declared.Captured.{Captured}

-- line 5 + 3 × 1,500 is the last that a refusal can name: bytes after as many writes as there may be
pub record Told (v : Captured) : Type 0 where
  pub no : v.no < 256
  pub line : v.line ≤ 4505
  pub writes : v.writes ≤ 1500
  pub words : v.words ≤ 65536
  -- a refusal has no writes and no words, and an accepted capture has words
  pub none : (v.no ≡ 0 → ⊥) → v.writes ≡ 0
  pub silent : (v.no ≡ 0 → ⊥) → v.words ≡ 0
  pub some : v.no ≡ 0 → 0 < v.words

told-refusal : (refused : LineRefused) → refused.line ≤ 4505 → Told (told_capture (Err refused))
told-refusal refused l =
    let n = numbered refused.why in
    record {
      no = n.1;
      line = l;
      writes = omega arith;
      words = omega arith;
      none = λ _. refl;
      silent = λ _. refl;
      some = λ e. absurd (omega (arith, n.0));
    }

-- the walk names no line past the last
told-walk : (t : List ℕ) (k line before at : ℕ) (refused : LineRefused) → line + 3 * k ≤ 4505 → writes_read t k line before at ≡ Err refused → refused.line ≤ 4505
unfolding writes_read
told-walk t zero line before at refused h =
    by-lt (λ (r : Result (Unit {0}) LineRefused). r ≡ Err refused → refused.line ≤ 4505) at (length t)
    (λ _ e. let same : line ≡ refused.line = cc in omega arith) (λ _ e. cc)
told-walk t (suc k) line before at refused h =
    by-write (λ (r : Result (Unit {0}) LineRefused). r ≡ Err refused → refused.line ≤ 4505) t line before at
    (λ lines _ e. told-walk t k (line + 3) lines.write.stamp lines.next refused (omega arith) e)
    (λ one is e. let same : line + one.line ≡ refused.line = cc in omega (arith, refused-line t before at one is))

pub told : (t : List ℕ) → Told (capture_of t)
unfolding capture_of checked
told t =
    let P = λ (r : Result Capture LineRefused). Told (told_capture r) in
    by-step P (clock_lines t)
    (λ k _.
    let three = line_entry_at (bytes "writes=") t k.third in
    let four = line_entry_at (bytes "words=") t k.fourth in
    by-line P (writes_line three.value) 3
    (λ writes h. by-line P (words_line four.value) 4
    (λ words g. by-step P (writes_read t writes 5 0 four.next)
    (λ _ _.
    let w = words-range four.value words g in
    record {
      no = omega arith;
      line = omega arith;
      writes = writes-range three.value writes h;
      words = w.1;
      none = λ z. absurd (z refl);
      silent = λ z. absurd (z refl);
      some = λ _. w.0;
    })
    (λ refused e. told-refusal refused (told-walk t writes 5 0 four.next refused (omega (arith, writes-range three.value writes h)) e)))
    (λ why. told-refusal (record { why = why; line = 4 }) (omega arith)))
    (λ why. told-refusal (record { why = why; line = 3 }) (omega arith)))
    (λ refused e. told-refusal refused (omega (arith, refused-early t refused e)))
