-- What callers lean on: an accepted capture's numbers are in range, and each of its writes has its form and its order. Assumes nothing.
use mathlib.Core.Path.{◌≡◌, refl, sym, ◌∙◌, ap}
use mathlib.Core.List.{List}
use Prim.Native.Nat.{ℕ, zero, suc, ◌+◌, ◌/◌, ◌≤◌, ◌<◌}
use native.Mathlib.Omega.{arith}
use borrow.Author.Tests.{le-ltb, ne_eqb}
use lib.ListN.{length}
use Rattle.std.specs.Prelude.{Result, Ok, Err}
use Rattle.laws.proofs.Tests.{by-lt}
use Rattle.refusals.specs.Numbers.{accepted}
use Rattle.text_lines.specs.Bytes.{bytes}
use Rattle.text_lines.specs.Lines.{line_at}
use Rattle.text_entries.specs.Entries.{line_entry_at}
use Rattle.text_entries.proofs.Ranges.{line-next}
use Rattle.clocks.specs.Clocks.{accept_clocks, clocks_no}
use Rattle.dump_lines.specs.OneLine.{master_line, rate_line}
use Rattle.dump_clocks.specs.Clocks.{clock_lines}
use Rattle.dump_clocks.specs.declared.ClockLines.{ClockLines}
use Rattle.dump_clocks.specs.declared.LineRefused.{LineRefused}
use Rattle.dump_clocks.proofs.Paced.{numbered, accepted-paced}
use Rattle.capture_lines.specs.OneLine.{writes_line, words_line}
use Rattle.capture_lines.proofs.Ranges.{writes-range, words-range}
use Rattle.capture_writes.specs.Writes.{write_at, writes_from, place_from}
use Rattle.capture_writes.proofs.Listed.{place-on}
use Rattle.capture_writes.proofs.Ranged.{same_after, not_lower, accepted-at}
use Rattle.capture_writes.proofs.Steps.{by-step, by-line}
use Rattle.capture_body.specs.Walk.{writes_read}
use Rattle.capture_body.proofs.Walking.{by-write}
use Rattle.capture.specs.Checked.{told_capture, checked, capture_of}
use Rattle.capture.specs.Rising.{Rising, line_from}
use Rattle.capture.specs.declared.Capture.{Capture}
use Rattle.capture.specs.declared.Captured.{Captured}

pub record Laid (t : List ℕ) (r : Captured) : Type 0 where
  pub top : r.master ≤ 1073741823
  pub some : 0 < r.rate
  pub slow : r.rate ≤ r.master / 8
  pub writes : r.writes ≤ 1500
  pub sounds : 0 < r.words
  pub words : r.words ≤ 65536
  -- four lines stand before the first write
  pub body : r.body ≡ line_from t 4 0
  -- the k-th write stands where the walk says
  pub write : (k : ℕ) → k < r.writes → (write_at t 0 (place_from t k r.body)).no ≡ accepted
  pub rising : Rising 0 (writes_from t r.writes r.body)

module _ (t : List ℕ) where
  record Run (k before at : ℕ) : Type 0 where
    write : (f : ℕ) → f < k → (write_at t 0 (place_from t f at)).no ≡ 0
    rising : Rising before (writes_from t k at)

  one_more : (at k : ℕ) → (write_at t 0 at).no ≡ 0 → ((f : ℕ) → f < k → (write_at t 0 (place_from t f (write_at t 0 at).next)).no ≡ 0)
      → (f : ℕ) → f < suc k → (write_at t 0 (place_from t f at)).no ≡ 0
  one_more at k g more zero h = g
  one_more at k g more (suc f) h = rw (← place-on t f at) (more f (omega arith))

  -- after an accepted write, what holds from its end on holds from its place on
  run_on : (k before at : ℕ) → (write_at t before at).no ≡ 0 → Run k (write_at t before at).write.stamp (write_at t before at).next → Run (suc k) before at
  unfolding writes_from
  run_on k before at e r =
      let s = same_after t before at e in
      record { write = one_more at k (rw s at e) (rw s at r.write); rising = rw (← s) (not_lower t before at e, r.rising) }

  run : (k line before at : ℕ) {u : Unit {0}} → writes_read t k line before at ≡ Ok u → Run k before at
  unfolding writes_read writes_from
  run zero line before at {u} = λ _. record { write = λ f h. absurd (omega arith); rising = tt }
  run (suc k) line before at {u} =
      by-write (λ (r : Result (Unit {0}) LineRefused). r ≡ Ok u → Run (suc k) before at) t line before at
      (λ lines is e.
      let w = accepted-at t before at lines is in
      let more : Run k lines.write.stamp lines.next = run k (line + 3) lines.write.stamp lines.next e in
      run_on k before at (rw w refl) (rw w more))
      (λ one is e. cc)

  -- accepted clocks stand on two lines, so that line 4 is three lines on
  fourth-at : (k : ClockLines) → clock_lines t ≡ Ok k → k.fourth ≡ line_from t 3 0
  unfolding clock_lines
  fourth-at k =
      let one = line_entry_at (bytes "master=") t 0 in
      let two = line_entry_at (bytes "rate=") t one.next in
      let P = λ (r : Result ClockLines LineRefused). r ≡ Ok k → k.fourth ≡ line_from t 3 0 in
      by-lt P 65536 (length t) (λ _ e. cc)
      (λ _. by-line P (master_line one.value) 1
      (λ master _. by-line P (rate_line master two.value) 2
      (λ rate _ e.
      let is : (line_at t two.next).next ≡ k.fourth = cc in
      sym is ∙ ap (λ (p : ℕ). (line_at t p).next) (line-next _ t one.next ∙ ap (λ (p : ℕ). (line_at t p).next) (line-next _ t 0)))
      (λ _ e. cc)) (λ _ e. cc))

  checked-laid : (c : Capture) → checked t ≡ Ok c → Laid t (told_capture (Ok c))
  unfolding checked
  checked-laid c =
      let P = λ (r : Result Capture LineRefused). r ≡ Ok c → Laid t (told_capture (Ok c)) in
      by-step P (clock_lines t)
      (λ k q.
      let three = line_entry_at (bytes "writes=") t k.third in
      let four = line_entry_at (bytes "words=") t k.fourth in
      by-line P (writes_line three.value) 3
      (λ writes h. by-line P (words_line four.value) 4
      (λ words g. by-step P (writes_read t writes 5 0 four.next)
      (λ u w e.
      let is : c ≡ record { master = k.master; rate = k.rate; writes = writes; words = words; body = four.next } = cc in
      let p = accepted-paced t k q in
      let r = run writes 5 0 four.next w in
      rw is
      (record {
        top = p.top;
        some = p.some;
        slow = p.slow;
        writes = writes-range three.value writes h;
        sounds = (words-range four.value words g).0;
        words = (words-range four.value words g).1;
        body = line-next _ t k.fourth ∙ ap (λ (p : ℕ). (line_at t p).next) (fourth-at k q);
        write = r.write;
        rising = r.rising;
      }))
      (λ _ _ e. cc)) (λ _ e. cc)) (λ _ e. cc))
      (λ _ _ e. cc)

  -- number 0 is an accepted capture
  told-laid : (r : Result Capture LineRefused) → checked t ≡ r → (told_capture r).no ≡ 0 → Laid t (told_capture r)
  told-laid (Ok c) q e = checked-laid c q
  told-laid (Err refused) q e = absurd (omega (arith, numbered refused.why))

  pub accepted-laid : (capture_of t).no ≡ 0 → Laid t (capture_of t)
  unfolding capture_of
  accepted-laid = told-laid (checked t) refl

  -- a chip takes the clocks
  pub laid-clocks : (r : Captured) → Laid t r → clocks_no r.master r.rate ≡ accepted
  unfolding clocks_no accept_clocks
  laid-clocks r l =
      let some : r.rate ≡ 0 → ⊥ = λ e. absurd (omega (arith, l.some)) in
      rw (le-ltb 1073741823 _ l.top, ne_eqb _ 0 some, le-ltb _ _ l.slow)

  -- of two writes that follow each other, the later is not lower
  pub rising-next : (before n k at : ℕ) → Rising before (writes_from t n at) → suc k < n
      → (write_at t 0 (place_from t k at)).write.stamp ≤ (write_at t 0 (place_from t (suc k) at)).write.stamp
  unfolding writes_from
  rising-next before zero k at r h = absurd (omega arith)
  rising-next before (suc zero) k at r h = absurd (omega arith)
  rising-next before (suc (suc n)) zero at r h = r.1.0
  rising-next before (suc (suc n)) (suc k) at r h =
      let w = write_at t 0 at in
      rw (← place-on t k at, ← place-on t (suc k) at) (rising-next w.write.stamp (suc n) k w.next r.1 (omega arith))
