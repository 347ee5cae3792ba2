-- A turn reads the line at the reader's place and asks whether it is a frame's (`Turns`).
use mathlib.Core.Path.{◌≡◌, refl, ap, sym, ◌∙◌}
use mathlib.Core.Bool.{Bool}
use mathlib.Core.List.{List}
use Prim.Native.Nat.{ℕ}
use Rattle.text_lines.specs.Lines.{line_at}
use Rattle.text_lines.specs.declared.Line.{Line}
use Rattle.dump_lines.specs.OneLine.{frame_at}
use Rattle.dump_reader.proofs.Places.{line-start}
use Rattle.dump_body.proofs.Turns.{read-on, read-bad, read_all, read_none}
use Rattle.dump_body.proofs.frames_read.Goals as goal

module _ {text read : List ℕ} (p : ℕ) {line : Line} (same : read ≡ text) (e : line ≡ line_at read p) where
  found : line ≡ line_at text p
  found = e ∙ ap (λ (t : List ℕ). line_at t p) same

  onward : {next : ℕ} → next ≡ line.next → next ≡ (line_at text p).next
  onward f = f ∙ ap (λ (l : Line). l.next) found

  -- what is asked of the line's start is asked of the place
  asked : {answer given : Bool} → answer ≡ frame_at text line.start → answer ≡ given → frame_at text p ≡ given
  asked f g = sym (f ∙ ap (λ (l : Line). frame_at text l.start) found ∙ ap (frame_at text) (line-start text p)) ∙ g

pub loop-count-init : goal.loop-count-init
loop-count-init c = record { same_text = refl; rest = read_none _ _ 0 _ }

pub loop-count-preserved : goal.loop-count-preserved
loop-count-preserved c =
    let e = c.next_line-line.ensures in
    let kept = c.loop-count.invariant in
    record {
      same_text = rw e.1 kept.same_text;
      rest = rw (onward _ kept.same_text e.0 e.2) (sym (read-on _ _ _ _ c.loop-count-test.true (asked _ kept.same_text e.0 c.frame_at.ensures c.if-not-frame_at.false)) ∙ kept.rest);
    }

pub returns : goal.returns
returns c = sym (read_all _ _ _ _ c.loop-count.auto.count-end c.loop-count-test.false) ∙ c.loop-count.invariant.rest

pub returns-then-not-frame_at : goal.returns-then-not-frame_at
returns-then-not-frame_at c =
    let e = c.next_line-line.ensures in
    let kept = c.loop-count.invariant in
    rw (onward _ kept.same_text e.0 e.2) (sym (read-bad _ _ _ _ c.loop-count-test.true (asked _ kept.same_text e.0 c.frame_at.ensures c.if-not-frame_at.true)) ∙ kept.rest)
