-- A dump's frames are calls on the chip of its clocks, so demand 3 speaks of it. Assumes nothing.
use mathlib.Core.List.{List, [], ◌∷◌, ◌++◌}
use mathlib.Core.Path.{◌≡◌, refl, sym, ap, ◌∙◌}
use Prim.Native.Nat.{ℕ, zero, suc, ◌+◌, ◌*◌, ◌≤◌, ◌<◌}
use native.Mathlib.Nat.{mul_comm}
use native.Mathlib.Omega.{arith}
use borrow.Author.Tests.{eq-eqb}
use lib.ListN.{length, length-replicate, replicate}
use Rattle.refusals.specs.Numbers.{accepted}
use Rattle.laws.proofs.Tests.{by-eq}
use Rattle.queue.specs.declared.Write.{Write}
use Rattle.clocks.specs.Clocks.{clocks_no}
use Rattle.answers.specs.declared.Answered.{Answered}
use Rattle.answers.specs.declared.Blocked.{Blocked}
use Rattle.calls_making.specs.Making.{default_variant, with_clocks}
use Rattle.dump.specs.Checked.{verdict_of}
use Rattle.dump_frames.specs.Frame.{frame_played}
use Rattle.dump_words.specs.Words.{lines_of}
use Rattle.output_lines.specs.Lines.{total_text}
use Rattle.dump_played.specs.Whole.{value_of, chip_before, frame_words, words_in, printed}
use Rattle.dump_played.proofs.Whole.{chip-range, plays, leaves, fills, makes}
use Rattle.laws_promises.specs.History.{Call, after, Ledger, empty_ledger, ledger}
use Rattle.laws_promises.specs.Demand.{N, Holds}
use Rattle.laws_promises.proofs.Demand.{clocks-demand}
use Rattle.laws_histories.specs.Histories.{AllAccepted, values, write_then_render, made_for, dump_calls}
use Rattle.laws_histories.specs.Claims.{dump_ledger, whole_ledger, DumpIsCalls}
use Rattle.laws_histories.proofs.Appending.{after-append, ledger-append, accepted-append}
use Rattle.laws_histories.proofs.Frames.{frame-after, frame-each, frame-words, frame-counted, frame-queues-none}

-- frame f of a checked dump
abbrev zeros : List ℕ → List ℕ
zeros text = replicate (verdict_of text).words 0

abbrev grown : List ℕ → ℕ → Ledger → Ledger
grown text f l = ledger (write_then_render (value_of text f) (zeros text)) (chip_before text f) l

module _ (text : List ℕ) (ok : (verdict_of text).no ≡ accepted) (f : ℕ) (h : f < (verdict_of text).frames) where
  long : length (zeros text) ≡ (verdict_of text).words
  long = length-replicate (verdict_of text).words 0

  fine : (frame_played (value_of text f) (length (zeros text)) (chip_before text f)).answer.no ≡ accepted
  fine = rw long (ap (λ (b : Blocked). b.answer.no) (plays text ok f h))

  next-chip : after (write_then_render (value_of text f) (zeros text)) (chip_before text f) ≡ chip_before text (suc f)
  next-chip = frame-after (value_of text f) (zeros text) (chip_before text f) fine (chip-range text f) ∙ rw long (leaves text ok f h)

  module _ (l : Ledger) where
    next-words : values (grown text f l).words ≡ values l.words ++ frame_words text f
    next-words =
        frame-words (value_of text f) (zeros text) (chip_before text f) fine (chip-range text f) l
        ∙ ap (λ (ws : List ℕ). values l.words ++ ws) (fills text ok f h (zeros text) long)

    next-counted : N (grown text f l) ≡ N l + (verdict_of text).words
    next-counted =
        frame-counted (value_of text f) (zeros text) (chip_before text f) fine (chip-range text f) l
        ∙ rw long (ap (λ (b : Blocked). N l + b.answer.words) (plays text ok f h))

    next-queues-none : (grown text f l).accepted ≡ l.accepted
    next-queues-none = frame-queues-none (value_of text f) (zeros text) (chip_before text f) fine (chip-range text f) l

-- the first f frames, and one more
record Played (text : List ℕ) (f : ℕ) (calls : List Call) (l : Ledger) : Type 0 where
  chip : after calls (made_for text) ≡ chip_before text f
  each : AllAccepted calls (made_for text)
  words : values l.words ≡ words_in text f
  counted : N l ≡ f * (verdict_of text).words
  writes : l.accepted ≡ []

nothing_yet : (text : List ℕ) → Played text 0 (dump_calls text 0) (dump_ledger text 0)
unfolding dump_calls chip_before words_in after ledger
nothing_yet text = record { chip = refl; each = tt; words = refl; counted = omega arith; writes = refl }

one_more : (text : List ℕ) → (verdict_of text).no ≡ accepted → (f : ℕ) → f < (verdict_of text).frames → {calls : List Call} {l : Ledger}
    → Played text f calls l
    → Played text (suc f) (calls ++ write_then_render (value_of text f) (zeros text)) (grown text f l)
unfolding words_in
one_more text ok f h {calls} {l} b =
    let more = write_then_render (value_of text f) (zeros text) in
    record {
      chip = after-append calls more (made_for text) ∙ ap (after more) b.chip ∙ next-chip text ok f h;
      each = accepted-append calls more (made_for text) b.each
          (rw b.chip (frame-each (value_of text f) (zeros text) (chip_before text f) (fine text ok f h) (chip-range text f)));
      words = next-words text ok f h l ∙ ap (λ (ws : List ℕ). ws ++ frame_words text f) b.words;
      counted = omega (arith, next-counted text ok f h l, b.counted);
      writes = next-queues-none text ok f h l ∙ b.writes;
    }

more-calls : (text : List ℕ) (f : ℕ) → dump_calls text (suc f) ≡ dump_calls text f ++ write_then_render (value_of text f) (zeros text)
unfolding dump_calls
more-calls text f = refl

abbrev PlayedTo : List ℕ → ℕ → Type 0
PlayedTo text f = Played text f (dump_calls text f) (dump_ledger text f)

next-played : (text : List ℕ) → (verdict_of text).no ≡ accepted → (f : ℕ) → f < (verdict_of text).frames → PlayedTo text f → PlayedTo text (suc f)
next-played text ok f h b =
    rw (more-calls text f, ledger-append (dump_calls text f) _ (made_for text) empty_ledger, b.chip) (one_more text ok f h b)

played : (text : List ℕ) → (verdict_of text).no ≡ accepted → (f : ℕ) → f ≤ (verdict_of text).frames → PlayedTo text f
played text ok zero h = nothing_yet text
played text ok (suc f) h = next-played text ok f h (played text ok f (omega arith))

clocks-accepted : (master rate : ℕ) → (with_clocks master rate).no ≡ accepted → clocks_no master rate ≡ accepted
unfolding with_clocks
clocks-accepted master rate =
    by-eq (λ (a : Answered). a.no ≡ accepted → clocks_no master rate ≡ accepted) (clocks_no master rate) accepted (λ e _. e) (λ _ e. e)

last_none : (a b : List Write) → [] ≡ a ++ b → b ≡ []
last_none [] b e = sym e
last_none (w ∷ a) b e = cc

pub dump-is-calls : (text : List ℕ) → (verdict_of text).no ≡ accepted → (f : ℕ) → f ≤ (verdict_of text).frames → DumpIsCalls text f
dump-is-calls text ok f h =
    let b = played text ok f h in
    let number = clocks-accepted _ _ (ap (λ (a : Answered). a.no) (makes text ok)) in
    let holds : Holds (verdict_of text).master (verdict_of text).rate default_variant (chip_before text f) (dump_ledger text f)
    = rw b.chip at (clocks-demand _ _ number (dump_calls text f))
    in
    record {
      chip = sym b.chip;
      each = b.each;
      words = b.words;
      counted = omega (arith, b.counted);
      holds = holds;
      writes = b.writes;
      none = last_none (dump_ledger text f).applied _ (sym b.writes ∙ holds.kept.writes);
    }

pub dump-prints : (text : List ℕ) → (verdict_of text).no ≡ accepted
    → printed text ≡ total_text (N (whole_ledger text)) ++ lines_of (values (whole_ledger text).words)
unfolding printed
dump-prints text ok =
    let d = dump-is-calls text ok (verdict_of text).frames (omega arith) in
    rw (eq-eqb (verdict_of text).no accepted ok, d.words, d.counted, mul_comm (verdict_of text).frames (verdict_of text).words)
