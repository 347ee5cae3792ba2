-- Each piece is the next part of what is yet to be handed out (`Piece`), so together they are the whole. Assumes nothing.
use mathlib.Core.List.{List}
use mathlib.Core.Path.{◌≡◌, sym, ap, ◌∙◌}
use Prim.Native.Nat.{ℕ, ◌<◌}
use native.Mathlib.Omega.{arith}
use borrow.Author.Tests.{lt-ltb}
use lib.ListN.{length, take}
use lib.Seq.{length-take-le, take_all}
use Rattle.laws.proofs.Tests.{by_order}
use Rattle.dump_clocks.specs.Clocks.{clock_lines}
use Rattle.output_lines.specs.Lines.{refusal_text}
use Rattle.dump_input.specs.Enough.{enough}
use Rattle.capture.specs.Checked.{checked, capture_of}
use Rattle.capture_output.specs.Ends.{first_line}
use Rattle.capture_steps.specs.Steps.{start_of}
use Rattle.capture_played.specs.Whole.{printed}
use Rattle.laws_pieces.proofs.Pieces.{hands_out}
use Rattle.laws_capture_player.specs.Claims.{Claims}
use Rattle.laws_capture_player.proofs.Standing.{start-stands, rest-start}
use Rattle.laws_capture_player.proofs.Piece.{steps-give, gives, piece-count}

too_long : (text : List ℕ) → 65536 < length text → printed text ≡ refusal_text 11 0
unfolding printed capture_of checked clock_lines first_line
too_long text h = rw (lt-ltb 65536 (length text) h)

same-beginning : (text : List ℕ) → printed (take enough text) ≡ printed text
same-beginning text =
    by_order (length text) enough (λ h. ap printed (take_all enough text h))
    (λ h. too_long (take enough text) (omega (arith, length-take-le enough text (omega arith))) ∙ sym (too_long text (omega arith)))

pub claims : (text : List ℕ) → Claims text
claims text =
    record {
      pieces = λ rooms roomy. rw (← rest-start text) (hands_out (gives text) rooms roomy (start_of text) (start-stands text));
      steps = λ rooms roomy. rw (← rest-start text) (hands_out (steps-give text) rooms roomy (start_of text) (start-stands text));
      counts = piece-count text;
      beginning = same-beginning text;
    }
