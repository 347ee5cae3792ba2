-- A checked dump plays: no frame of it is refused, and each gives its words. Assumes nothing.
use mathlib.Core.Bool.{true}
use mathlib.Core.Path.{◌≡◌, refl, ap, ◌∙◌}
use mathlib.Core.List.{List}
use Prim.Native.Nat.{ℕ, zero, suc, ◌+◌, ◌*◌, ◌^◌, ◌≤◌, ◌<◌}
use native.Mathlib.Nat.{mul-le-mul}
use native.Mathlib.Omega.{arith}
use borrow.Author.Tests.{le-ltb, lt-leb, ne_eqb}
use lib.Dec.{eqb}
use lib.ListN.{length}
use Rattle.laws.proofs.Tests.{by_cond}
use Rattle.text_lines.specs.Lines.{line_at}
use Rattle.dump_lines.specs.OneLine.{frame_at, is_frame}
use Rattle.dump.specs.Checked.{verdict_of}
use Rattle.dump.proofs.Accepted.{place_from, accepted-laid}
use Rattle.registers.proofs.InRange.{applied-in}
use Rattle.chip.specs.declared.Chip.{Chip}
use Rattle.clocking_word.specs.Word.{word_of}
use Rattle.clocking_block.specs.Block.{after_one, after_words}
use Rattle.chip.proofs.InRange.{InRange, passes, core-runs}
use Rattle.clocks.specs.Clocks.{accept_clocks, clocks_no}
use Rattle.chip.specs.Clocks.{clocks_of}
use Rattle.answers.specs.Answers.{answered}
use Rattle.answers.specs.declared.Answered.{Answered}
use Rattle.answers.specs.declared.Blocked.{Blocked}
use Rattle.calls_making.specs.Making.{with_clocks, made_of, default_variant, fresh}
use Rattle.calls_words.specs.Blocks.{block_no, block_played, blocked, block_buffer}
use Rattle.block_limits.specs.Limits.{accept_block, block_number}
use Rattle.laws_in_range.proofs.Parts.{voice-kept}
use Rattle.laws_in_range.proofs.CallsInRange.{with-clocks-kept, words-kept}
use Rattle.dump_writes.specs.Writes.{frame_writes}
use Rattle.dump_frames.specs.Frame.{frame_chip, frame_played, frame_buffer, together}
use Rattle.dump_played.specs.Whole.{frame_place, value_of, chip_before, frame_words}

-- a frame's writes keep the chip in range, its clocks and its start
pub frame-kept : (value : List ℕ) {c : Chip} → InRange c → InRange (frame_chip value c)
unfolding frame_chip
frame-kept value h = voice-kept h (applied-in (frame_writes value) h.voice)

-- where the next word starts, and that the clocks stay
pub record On (c d : Chip) (n : ℕ) : Type 0 where
  pub cycles : d.core.clocks.cycles ≡ c.core.clocks.cycles
  pub start : d.core.start ≡ c.core.start + n * c.core.clocks.cycles

frame_on : (value : List ℕ) (c : Chip) → On c (frame_chip value c) 0
unfolding frame_chip
frame_on value c = record { cycles = refl; start = omega arith }

one_on : (c : Chip) → On c (after_one c) 1
unfolding word_of
one_on c = record { cycles = refl; start = omega arith }

joined : {c d e : Chip} (m n : ℕ) → On c d m → On d e n → On c e (m + n)
joined {c} {d} {e} m n a b =
    let k = c.core.clocks.cycles in
    let z : (m + n) * k ≡ m * k + n * k = omega arith in
    let s : e.core.start ≡ d.core.start + n * k = rw a.cycles at b.start in
    record { cycles = b.cycles ∙ a.cycles; start = rw z (omega (arith, s, a.start)) }

pub words-on : (n : ℕ) (c : Chip) → On c (after_words n c) n
unfolding after_words
words-on zero c = record { cycles = refl; start = omega arith }
words-on (suc n) c = let z : 1 + n ≡ suc n = omega arith in rw z at (joined 1 n (one_on c) (words-on n (after_one c)))

place_is : (t : List ℕ) (f : ℕ) → frame_place t f ≡ place_from t (verdict_of t).body f
unfolding frame_place
place_is t zero = refl
place_is t (suc f) = ap (λ (p : ℕ). (line_at t p).next) (place_is t f)

-- the first chip of a dump
abbrev made : List ℕ → Chip
made t = (with_clocks (verdict_of t).master (verdict_of t).rate).chip

pub made-start : (master rate : ℕ) → (with_clocks master rate).chip.core.start ≡ 0
unfolding with_clocks made_of fresh
made-start master rate =
    by_cond (λ (x : Answered). x.chip.core.start ≡ 0) (eqb (clocks_no master rate) 0) _ _ (λ _. refl) (λ _. refl)

-- the chip before frame f
record Before (t : List ℕ) (f : ℕ) : Type 0 where
  range : InRange (chip_before t f)
  on : On (made t) (chip_before t f) (f * (verdict_of t).words)

before : (t : List ℕ) (f : ℕ) → Before t f
unfolding chip_before
before t zero =
    let z : 0 * (verdict_of t).words ≡ 0 = omega arith in
    record { range = with-clocks-kept (verdict_of t).master (verdict_of t).rate; on = rw z (record { cycles = refl; start = omega arith }) }
before t (suc f) =
    let b = before t f in
    let n = (verdict_of t).words in
    let d = frame_chip (value_of t f) (chip_before t f) in
    let z : f * n + 0 + n ≡ suc f * n = omega arith in
    record {
      range = words-kept n (frame-kept (value_of t f) b.range);
      on = rw z at (joined (f * n + 0) n (joined (f * n) 0 b.on (frame_on (value_of t f) (chip_before t f))) (words-on n d));
    }

-- it is in range
pub chip-range : (t : List ℕ) (f : ℕ) → InRange (chip_before t f)
chip-range t f = (before t f).range

module _ (t : List ℕ) (ok : (verdict_of t).no ≡ 0) (f : ℕ) (h : f < (verdict_of t).frames) where
  abbrev n : ℕ
  n = (verdict_of t).words

  abbrev c : Chip
  c = chip_before t f

  abbrev d : Chip
  d = frame_chip (value_of t f) c

  pub good : is_frame (value_of t f) ≡ true
  unfolding frame_at
  good = rw (← place_is t f) at ((accepted-laid t ok).frame f h)

  -- 1,900 frames of 4,096 words end long before cycle 2^64
  pub soon : d.core.start + n * d.core.clocks.cycles < 2 ^ 64
  soon =
      let l = accepted-laid t ok in
      let b = before t f in
      let o : On (made t) d (f * n + 0) = joined (f * n) 0 b.on (frame_on (value_of t f) c) in
      let k = (made t).core.clocks.cycles in
      let small : k ≤ 4294967296 = let s : k < 4294967296 = (core-runs (with-clocks-kept (verdict_of t).master (verdict_of t).rate)).cycles in omega arith in
      let m : f * n + n ≤ 1900 * 4096 = let z : f * n + n ≡ suc f * n = omega arith in rw z (mul-le-mul {n₁ = suc f} {m₁ = n} {n₂ = 1900} {m₂ = 4096} (omega (arith, l.frames)) l.words) in
      let all : (f * n + n) * k ≤ 1900 * 4096 * 4294967296 = mul-le-mul {n₁ = f * n + n} {m₁ = k} {n₂ = 1900 * 4096} {m₂ = 4294967296} m small in
      let split : (f * n + n) * k ≡ (f * n + 0) * k + n * k = omega arith in
      let from-0 : (made t).core.start ≡ 0 = made-start (verdict_of t).master (verdict_of t).rate in
      let e : d.core.clocks.cycles ≡ k = o.cycles in
      rw e (omega (arith, all, split, o.start, from-0))

  number : block_no n d ≡ 0
  unfolding block_number accept_block
  number =
      let l : n ≤ 65536 = let w : n ≤ 4096 = (accepted-laid t ok).words in omega arith in
      rw (le-ltb 65536 n l, lt-leb (2 ^ 64) _ soon)

  -- frame f is accepted, and leaves the chip before the next
  pub plays : frame_played (value_of t f) n c ≡ together (frame_writes (value_of t f)) c (block_played n d)
  unfolding frame_played blocked
  plays = rw (passes (before t f).range, good, passes (frame-kept (value_of t f) (before t f).range), number)

  pub leaves : (frame_played (value_of t f) n c).chip ≡ chip_before t (suc f)
  unfolding chip_before
  leaves = ap (λ (b : Blocked). b.chip) plays

  -- and its words fill the buffer
  pub fills : (out : List ℕ) → length out ≡ n → frame_buffer (value_of t f) out c ≡ frame_words t f
  unfolding frame_buffer block_buffer frame_words
  fills out e = rw (passes (before t f).range, good, passes (frame-kept (value_of t f) (before t f).range), e, number)

-- the dump's clocks are accepted, so its chip is made of them and not of the default ones
pub makes : (t : List ℕ) → (verdict_of t).no ≡ 0
    → with_clocks (verdict_of t).master (verdict_of t).rate ≡ answered 0 (made_of (clocks_of (verdict_of t).master (verdict_of t).rate) default_variant)
unfolding with_clocks clocks_no accept_clocks
makes t ok =
    let l = accepted-laid t ok in
    let some : (verdict_of t).rate ≡ 0 → ⊥ = λ e. absurd (omega (arith, l.some)) in
    rw (le-ltb 1073741823 _ l.top, ne_eqb _ 0 some, le-ltb _ _ l.slow)
