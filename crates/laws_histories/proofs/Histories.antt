-- All of `specs/Claims.antt`. Assumes nothing.
use mathlib.Core.Bool.{true}
use mathlib.Core.Path.{◌≡◌}
use Rattle.chip.specs.declared.Chip.{Chip}
use Rattle.chip.specs.Range.{chip_in}
use Rattle.chip.proofs.InRange.{InRange, passed}
use Rattle.laws_histories.specs.Histories.{joined, OfItsType}
use Rattle.laws_histories.specs.Claims.{Histories}
use Rattle.laws_histories.proofs.Appending.{after-append, ledger-append}
use Rattle.laws_histories.proofs.Loads.{load-is-calls}
use Rattle.laws_histories.proofs.Frames.{frame-in-range, frame-is-calls}
use Rattle.laws_histories.proofs.Accepted.{block-in-range}
use Rattle.laws_histories.proofs.Reported.{frame-reports}
use Rattle.laws_histories.proofs.Blocks.{blocks-join}
use Rattle.laws_histories.proofs.Plays.{plays-after, plays-hold}
use Rattle.laws_histories.proofs.Parts.{frame-in-parts}
use Rattle.laws_histories.proofs.Dumps.{dump-is-calls, dump-prints}
use Rattle.laws_histories.proofs.Flush.{flush-applies}
use Rattle.laws_histories.proofs.Resets.{reset-holds}
use Rattle.laws_histories.proofs.HandedIn.{handed-in}

tested : (c : Chip) → OfItsType c → chip_in c ≡ true → InRange c
tested c t e = passed (record { registers = t.registers; stamps = t.stamps; numbers = t.numbers; values = t.values }) e

pub histories : Histories
histories =
    record {
      appended = λ a b c l. record { chip = after-append a b c; entries = ledger-append a b c l };
      load = λ value c l t. load-is-calls value c l (tested c t);
      frame = λ value out c l t. frame-is-calls value out c l (tested c t);
      frame-reports = frame-reports;
      blocks-join = λ outs c l t e. blocks-join outs c (tested c t (block-in-range (joined outs) c e)) e l;
      frame-in-parts = λ value outs c l t e. frame-in-parts value outs c (tested c t (frame-in-range value (joined outs) c e)) e l;
      plays = λ plays c t. plays-after plays c (tested c t);
      plays-hold = plays-hold;
      dump = dump-is-calls;
      prints = dump-prints;
      flush = flush-applies;
      handed-in = λ c t e calls. handed-in c (tested c t e) calls;
      reset = λ c t e earlier later. reset-holds c (tested c t e) earlier later;
    }
