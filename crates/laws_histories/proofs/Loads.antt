-- Loading a frame is its writes where it is accepted, and no call where it is refused. Assumes nothing.
use mathlib.Core.Bool.{Bool, true, false, not, cond}
use mathlib.Core.List.{List, []}
use mathlib.Core.Path.{◌≡◌, refl, sym, ◌∙◌}
use Prim.Native.Nat.{ℕ}
use native.Mathlib.Omega.{arith}
use borrow.Author.Tests.{eq-eqb, ne_eqb}
use lib.Dec.{eqb}
use Rattle.refusals.specs.Numbers.{accepted, line_not_of_form, out_of_range}
use Rattle.laws.proofs.Tests.{by-same}
use Rattle.text_fields.specs.Fields.{hex_byte}
use Rattle.dump_lines.specs.OneLine.{is_frame}
use Rattle.chip.specs.declared.Chip.{Chip}
use Rattle.chip.specs.Range.{chip_in}
use Rattle.chip.proofs.InRange.{InRange}
use Rattle.answers.specs.Answers.{answered}
use Rattle.answers.specs.declared.Answered.{Answered}
use Rattle.dump_frames.specs.Frame.{frame_chip, frame_loaded}
use Rattle.laws_promises.specs.History.{after, Ledger, restarts, ledger}
use Rattle.laws_histories.specs.Histories.{write_calls, load_calls}
use Rattle.laws_histories.specs.Claims.{LoadIsCalls}
use Rattle.laws_histories.proofs.Writes.{write-number, written}

-- the two tests of a load
abbrev tested : Chip → Chip → Bool → Bool → Answered
tested c d range frame = cond range (cond frame (answered accepted d) (answered line_not_of_form c)) (answered out_of_range c)

passed : (c d : Chip) (range frame : Bool) → (tested c d range frame).no ≡ accepted → (range ≡ true) × (frame ≡ true)
passed c d true true e = (refl, refl)
passed c d true false e = absurd (omega arith)
passed c d false frame e = absurd (omega arith)

stays : (c d : Chip) (range frame : Bool) → ((tested c d range frame).no ≡ accepted → ⊥) → (tested c d range frame).chip ≡ c
stays c d true true f = absurd (f refl)
stays c d true false f = refl
stays c d false frame f = refl

module _ (value : List ℕ) (c : Chip) (l : Ledger) (h : chip_in c ≡ true → InRange c) where
  abbrev d : Chip
  d = frame_chip value c

  taken : (frame_loaded value c).no ≡ accepted → LoadIsCalls value c l
  unfolding frame_loaded load_calls
  taken e =
      let (range, frame) = passed c d (chip_in c) (is_frame value) e in
      let are : load_calls value c ≡ write_calls value = rw (eq-eqb _ accepted e) in
      let w = written value c l (h range) in
      let leaves : (frame_loaded value c).chip ≡ d = rw (range, frame) in
      let is : ledger (load_calls value c) c l ≡ restarts (not (eqb (hex_byte value 13) 255)) l = rw are w.entries in
      record {
        chip = rw are (leaves ∙ sym w.chip);
        each = rw are w.each;
        taken = λ _. are;
        none = λ f. absurd (f e);
        number = write-number value;
        restart = λ _. is;
        refused = λ f. absurd (f e);
        counted = rw is;
        ran = rw is;
        writes = rw is;
      }

  refused : ((frame_loaded value c).no ≡ accepted → ⊥) → LoadIsCalls value c l
  unfolding frame_loaded load_calls after ledger
  refused f =
      let none : load_calls value c ≡ [] = rw (ne_eqb _ accepted f) in
      record {
        chip = rw none (stays c d (chip_in c) (is_frame value) f);
        each = rw none tt;
        taken = λ e. absurd (f e);
        none = λ _. none;
        number = write-number value;
        restart = λ e. absurd (f e);
        refused = λ _. rw none;
        counted = rw none;
        ran = rw none;
        writes = rw none;
      }

  pub load-is-calls : LoadIsCalls value c l
  load-is-calls = by-same (frame_loaded value c).no accepted taken refused
