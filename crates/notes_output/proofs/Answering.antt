-- The whole output: a law for each return of `answer`. Assumes nothing.
use mathlib.Core.Path.{◌≡◌, refl, ◌∙◌}
use mathlib.Core.List.{List, ◌++◌}
use Prim.Native.Nat.{ℕ, ◌+◌, ◌*◌, ◌^◌, ◌≤◌, ◌<◌}
use native.Mathlib.Omega.{arith}
use borrow.Author.Tests.{lt-ltb, le-ltb}
use lib.ListN.{length, take, drop}
use lib.Seq.{take_at}
use Rattle.text_put.specs.Text.{overlaid, laid, place_after}
use Rattle.text_put.proofs.Laying.{laid-over, place-over, over_none}
use Rattle.output_lines.specs.Lines.{refusal_text}
use Rattle.output_lines.proofs.Saying.{refusal-few}
use Rattle.std.specs.Prelude.{Ok, Err}
use Rattle.refusals.specs.Numbers.{number_of}
use Rattle.dump_clocks.specs.declared.LineRefused.{LineRefused}
use Rattle.notes_text.specs.Checked.{asked_in}
use Rattle.notes_text.specs.declared.Asked.{Asked}
use Rattle.notes_text.proofs.Few.{asked-few}
use Rattle.notes_output.specs.Printed.{lines_from, most, printed, printed_in}

-- the answer and the buffer at exit
abbrev pub Answered : List ℕ → List ℕ → ℕ → List ℕ → Type 0
Answered t out r after = (r ≡ length (printed_in (length out) t)) × (after ≡ overlaid out 0 (printed_in (length out) t))

module _ (t out : List ℕ) where
  pub no_room : length out < most → Answered t out 0 out
  unfolding printed_in
  no_room h = rw (lt-ltb (length out) most h) (refl, over_none out 0)

  module _ (h : most ≤ length out) where
    whole : {text : List ℕ} → text ≡ printed t → {r : ℕ} {after : List ℕ} → r ≡ length text → after ≡ overlaid out 0 text → Answered t out r after
    unfolding printed_in
    whole e p q = rw (le-ltb (length out) most h) (rw e at p, rw e at q)

    pub refused-told : {e : LineRefused} → asked_in t ≡ Err e → number_of e.why < 256 → e.line < 2 ^ 32 → {r : ℕ} {after : List ℕ}
        → (r ≡ place_after out 0 (refusal_text (number_of e.why) e.line)) × (after ≡ laid out 0 (refusal_text (number_of e.why) e.line))
        → Answered t out r after
    unfolding printed
    refused-told {e} a k l {r} {after} p =
        let text = refusal_text (number_of e.why) e.line in
        let few = refusal-few (number_of e.why) e.line k l in
        whole {text = text} (rw a) (p.0 ∙ place-over out 0 text (omega (arith, few)) ∙ omega arith) (p.1 ∙ laid-over out 0 text (omega (arith, few)))

    module _ {asked : Asked} (a : asked_in t ≡ Ok asked) where
      pub notes-fit : 12 * asked.notes ≤ length out
      notes-fit = omega (arith, asked-few t a)

      pub notes-told : {r : ℕ} {after : List ℕ}
          → (r ≡ length (lines_from asked.master t asked.notes asked.body)) × (after ≡ overlaid out 0 (lines_from asked.master t asked.notes asked.body))
          → Answered t out r after
      unfolding printed
      notes-told p = whole {text = lines_from asked.master t asked.notes asked.body} (rw a) p.0 p.1

-- what a caller with that room finds: the whole output at the buffer's start
module _ (t out : List ℕ) (long : most ≡ length out) where
  all_in : printed_in (length out) t ≡ printed t
  unfolding printed_in
  all_in = rw (le-ltb (length out) most (omega (arith, long)))

  module _ {r : ℕ} {after : List ℕ} (a : Answered t out r after) where
    count : r ≡ length (printed t)
    count = rw all_in at a.0

    buffer : after ≡ printed t ++ drop (length (printed t)) out
    buffer = let z : 0 + length (printed t) ≡ length (printed t) = omega arith in rw z at (rw all_in at a.1)

    pub answer-whole : take r after ≡ printed t
    answer-whole = rw (count, buffer) (take_at (printed t) (drop (length (printed t)) out) (length (printed t)) refl)
