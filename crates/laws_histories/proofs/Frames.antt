-- A frame that is accepted is its writes and a block, one that is refused is no call. Assumes nothing.
use mathlib.Core.Bool.{Bool, true, false, not, cond}
use mathlib.Core.List.{List, [], ◌∷◌, ◌++◌}
use mathlib.Core.Path.{◌≡◌, refl, sym, ap, ◌∙◌}
use Prim.Native.Nat.{ℕ, ◌+◌}
use native.Mathlib.Omega.{arith}
use borrow.Author.Tests.{eq-eqb, ne_eqb}
use lib.Dec.{eqb}
use lib.ListN.{length}
use Rattle.refusals.specs.Numbers.{accepted, line_not_of_form, out_of_range}
use Rattle.laws.proofs.Tests.{by_cond, by-eq, by-same}
use Rattle.text_fields.specs.Fields.{hex_byte}
use Rattle.dump_lines.specs.OneLine.{is_frame}
use Rattle.registers.specs.Writes.{RegisterWrite}
use Rattle.dump_writes.specs.Writes.{frame_writes}
use Rattle.chip.specs.declared.Chip.{Chip}
use Rattle.chip.specs.Range.{chip_in}
use Rattle.chip.proofs.InRange.{InRange}
use Rattle.answers.specs.Answers.{answered}
use Rattle.answers.specs.declared.Blocked.{Blocked}
use Rattle.calls_words.specs.Blocks.{block_refused, blocked, block_buffer}
use Rattle.dump_frames.specs.Frame.{frame_chip, frame_loaded, kept_if, frame_played, frame_buffer, together}
use Rattle.laws_promises.specs.History.{block, answers, after, Ledger, empty_ledger, restarts, enters, is_accepted, entered, ledger}
use Rattle.laws_promises.specs.Demand.{N, T}
use Rattle.laws_promises.proofs.Handed.{block-adds, block_words}
use Rattle.laws_histories.specs.Histories.{AllAccepted, values, write_calls, write_then_render, frame_calls}
use Rattle.laws_histories.specs.Claims.{FrameIsCalls}
use Rattle.laws_histories.proofs.Appending.{after-append, ledger-append, accepted-append}
use Rattle.laws_histories.proofs.Writes.{written}

-- what an accepted frame has passed
kept-taken : (writes : List RegisterWrite) (c : Chip) (b : Blocked) → (kept_if writes c b).answer.no ≡ accepted → b.answer.no ≡ accepted
kept-taken writes c b =
    by_cond (λ (x : Blocked). x.answer.no ≡ accepted → b.answer.no ≡ accepted) (eqb b.answer.no accepted) _ _ (λ _ e. e) (λ _ e. e)

record Passed (tested formed : Bool) (b : Blocked) : Type 0 where
  range : tested ≡ true
  frame : formed ≡ true
  block : b.answer.no ≡ accepted

passed : (writes : List RegisterWrite) (c : Chip) (b : Blocked) (range frame : Bool)
    → (cond range (cond frame (kept_if writes c b) (block_refused line_not_of_form c)) (block_refused out_of_range c)).answer.no ≡ accepted
    → Passed range frame b
passed writes c b true true e = record { range = refl; frame = refl; block = kept-taken writes c b e }
passed writes c b true false e = absurd (omega arith)
passed writes c b false frame e = absurd (omega arith)

-- one call
block-chip : (out : List ℕ) (c : Chip) → (answers (block out) c).chip ≡ (blocked (length out) c).chip
unfolding answers
block-chip out c = refl

block-queues-none : (out : List ℕ) (c : Chip) (l : Ledger) → (entered (block out) c l).accepted ≡ l.accepted
unfolding entered enters
block-queues-none out c l =
    by_cond (λ (m : Ledger). m.accepted ≡ l.accepted) (is_accepted (answers (block out) c).no) _ _ (λ _. refl) (λ _. refl)

module _ (value out : List ℕ) (c : Chip) (e : (frame_played value (length out) c).answer.no ≡ accepted) where
  abbrev d : Chip
  d = frame_chip value c

  was : Passed (chip_in c) (is_frame value) (blocked (length out) d)
  unfolding frame_played
  was = passed (frame_writes value) c (blocked (length out) d) (chip_in c) (is_frame value) e

  pub frame-in-range : chip_in c ≡ true
  frame-in-range = was.range

  pub load-taken : frame_loaded value c ≡ answered accepted d
  unfolding frame_loaded
  load-taken = rw (was.range, was.frame)

  pub played : frame_played value (length out) c ≡ together (frame_writes value) c (blocked (length out) d)
  unfolding frame_played
  played = rw (was.range, was.frame, eq-eqb _ accepted was.block)

  pub buffer : frame_buffer value out c ≡ block_buffer out d
  unfolding frame_buffer
  buffer = rw (was.range, was.frame)

  pub renders-fine : (answers (block out) d).no ≡ accepted
  unfolding answers
  renders-fine = was.block

  pub frame_is : frame_calls value out c ≡ write_then_render value out
  unfolding frame_calls
  frame_is = rw (eq-eqb _ accepted e)

  module _ (h : InRange c) where
    pub frame-after : after (write_then_render value out) c ≡ (frame_played value (length out) c).chip
    unfolding after
    frame-after =
        after-append (write_calls value) (block out ∷ []) c
        ∙ ap (λ (x : Chip). (answers (block out) x).chip) (written value c empty_ledger h).chip
        ∙ block-chip out d
        ∙ sym (ap (λ (b : Blocked). b.chip) played)

    pub frame-each : AllAccepted (write_then_render value out) c
    frame-each =
        let w = written value c empty_ledger h in
        accepted-append (write_calls value) (block out ∷ []) c w.each (rw w.chip renders-fine, tt)

    module _ (l : Ledger) where
      -- the ledger behind the writes
      abbrev m : Ledger
      m = restarts (not (eqb (hex_byte value 13) 255)) l

      frame-ledger : ledger (write_then_render value out) c l ≡ entered (block out) d m
      unfolding ledger
      frame-ledger =
          let w = written value c l h in
          ledger-append (write_calls value) (block out ∷ []) c l ∙ rw (w.entries, w.chip)

      pub frame-words : values (ledger (write_then_render value out) c l).words ≡ values l.words ++ frame_buffer value out c
      frame-words = rw (frame-ledger, buffer) (block_words out d m renders-fine)

      pub frame-counted : N (ledger (write_then_render value out) c l) ≡ N l + (frame_played value (length out) c).answer.words
      frame-counted = rw (frame-ledger, played) (block-adds out d m).counted

      pub frame-ran : T (ledger (write_then_render value out) c l) ≡ T l + (frame_played value (length out) c).answer.ticks
      frame-ran = rw (frame-ledger, played) (block-adds out d m).ran

      pub frame-queues-none : (ledger (write_then_render value out) c l).accepted ≡ l.accepted
      frame-queues-none = rw frame-ledger (block-queues-none out d m)

-- a refused frame
refused-by : (writes : List RegisterWrite) (c : Chip) (b : Blocked) (range frame : Bool)
    → let r = cond range (cond frame (kept_if writes c b) (block_refused line_not_of_form c)) (block_refused out_of_range c) in
    (r.answer.no ≡ accepted → ⊥) → r ≡ block_refused r.answer.no c
refused-by writes c b true true f =
    by-eq (λ (x : Blocked). (x.answer.no ≡ accepted → ⊥) → x ≡ block_refused x.answer.no c) b.answer.no accepted
    (λ e g. absurd (g e)) (λ _ _. refl) f
refused-by writes c b true false f = refl
refused-by writes c b false frame f = refl

module _ (value out : List ℕ) (c : Chip) (f : (frame_played value (length out) c).answer.no ≡ accepted → ⊥) where
  none_is : frame_calls value out c ≡ []
  unfolding frame_calls
  none_is = rw (ne_eqb _ accepted f)

  pub stays : frame_played value (length out) c ≡ block_refused (frame_played value (length out) c).answer.no c
  unfolding frame_played
  stays = refused-by (frame_writes value) c (blocked (length out) (frame_chip value c)) (chip_in c) (is_frame value) f

  refused-is-calls : (l : Ledger) → FrameIsCalls value out c l
  unfolding after ledger
  refused-is-calls l =
      record {
        chip = rw none_is (ap (λ (b : Blocked). b.chip) stays);
        each = rw none_is tt;
        counted = rw (none_is, ap (λ (b : Blocked). b.answer.words) stays) (omega arith);
        ran = rw (none_is, ap (λ (b : Blocked). b.answer.ticks) stays) (omega arith);
        words = λ e. absurd (f e);
        refused = λ _. rw none_is;
        writes = rw none_is;
      }

pub frame-is-calls : (value out : List ℕ) (c : Chip) (l : Ledger) → (chip_in c ≡ true → InRange c) → FrameIsCalls value out c l
frame-is-calls value out c l tested =
    by-same (frame_played value (length out) c).answer.no accepted
    (λ e.
    let i = frame_is value out c e in
    let h = tested (frame-in-range value out c e) in
    record {
      chip = rw i (sym (frame-after value out c e h));
      each = rw i (frame-each value out c e h);
      counted = rw i (frame-counted value out c e h l);
      ran = rw i (frame-ran value out c e h l);
      words = λ _. rw i (frame-words value out c e h l);
      refused = λ f. absurd (f e);
      writes = rw i (frame-queues-none value out c e h l);
    })
    (λ f. refused-is-calls value out c f l)
