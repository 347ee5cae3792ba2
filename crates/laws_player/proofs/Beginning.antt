-- A dump that is too long is refused, whatever follows (`enough`). Assumes nothing.
use mathlib.Core.List.{List}
use mathlib.Core.Path.{◌≡◌, sym, ap, ◌∙◌}
use Prim.Native.Nat.{ℕ, ◌<◌}
use native.Mathlib.Omega.{arith}
use borrow.Author.Tests.{lt-ltb}
use lib.ListN.{length, take}
use lib.Seq.{length-take-le, take_all}
use Rattle.laws.proofs.Tests.{by_order}
use Rattle.dump_clocks.specs.Clocks.{clock_lines}
use Rattle.dump.specs.Checked.{checked, told}
use Rattle.output_lines.specs.Lines.{refusal_text}
use Rattle.dump_input.specs.Enough.{enough}
use Rattle.dump_played.specs.Whole.{printed}

too_long : (text : List ℕ) → 65536 < length text → printed text ≡ refusal_text 11 0
unfolding printed told checked clock_lines
too_long text h = rw (lt-ltb 65536 (length text) h)

pub same-beginning : (text : List ℕ) → printed (take enough text) ≡ printed text
same-beginning text =
    by_order (length text) enough (λ h. ap printed (take_all enough text h))
    (λ h. too_long (take enough text) (omega (arith, length-take-le enough text (omega arith))) ∙ sym (too_long text (omega arith)))
