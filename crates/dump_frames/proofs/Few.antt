-- The counts of a frame and of its words fit: a frame writes at most 14 registers, and at most 256 writes wait. Assumes nothing.
use mathlib.Core.Bool.{true}
use mathlib.Core.Path.{◌≡◌, refl, ap}
use mathlib.Core.List.{List}
use Prim.Native.Nat.{ℕ, zero, suc, ◌+◌, ◌-◌, ◌≤◌, ◌<◌}
use native.Mathlib.Omega.{arith}
use borrow.Author.Tests.{leb-true}
use lib.Dec.{eqb, leb, ltb}
use lib.ListN.{length}
use Rattle.laws.proofs.Lists.{both-parts}
use Rattle.laws.proofs.Tests.{by_cond}
use Rattle.refusals.specs.Numbers.{accepted}
use Rattle.write_effects.proofs.Laws.{changes-few, restarts-few}
use Rattle.dump_lines.specs.OneLine.{is_frame}
use Rattle.dump_writes.specs.Writes.{frame_writes}
use Rattle.dump_writes.proofs.Counted.{frame-few}
use Rattle.queue.specs.Waiting.{queue_in, writes_from}
use Rattle.queue_flush.specs.Applied.{register_writes}
use Rattle.queue_effects.specs.Slots.{writes_at}
use Rattle.chip.specs.declared.Chip.{Chip}
use Rattle.chip.specs.Range.{chip_in, core_in}
use Rattle.clocking_block.specs.Block.{after_words}
use Rattle.answers.specs.Reports.{bytes_of}
use Rattle.answers.specs.declared.Applied.{Applied}
use Rattle.answers.specs.declared.Blocked.{Blocked}
use Rattle.steps_blocks.specs.BlockSteps.{writes_of}
use Rattle.steps_blocks.proofs.Front.{applied-front}
use Rattle.calls_words.specs.Blocks.{block_no, blocked}
use Rattle.dump_frames.specs.Frame.{frame_reported}
use Rattle.dump_frames.proofs.Loading.{reported}

slots-many : (registers values : List ℕ) (i n : ℕ) → length (writes_at registers values i n) ≡ n
unfolding register_writes writes_from
slots-many registers values i zero = refl
slots-many registers values i (suc n) = ap suc (slots-many registers values (i + 1) n)

waiting_few : (c : Chip) → chip_in c ≡ true → c.queue.count ≤ 256
unfolding chip_in queue_in
waiting_few c e =
    let (_, q) = both-parts (core_in c.core) _ e in
    let (ring, _) = both-parts _ _ q in
    let (_, more) = both-parts (ltb c.queue.head 256) _ ring in
    let (count, _) = both-parts (leb c.queue.count 256) _ more in
    leb-true _ _ count

-- a block applies no more than waited
applied-few : (n : ℕ) (c : Chip) → chip_in c ≡ true → length (writes_of n c) ≤ 256
applied-few n c e =
    let waited = waiting_few c e in
    let many = slots-many c.queue.registers c.queue.values c.queue.head (c.queue.count - (after_words n c).queue.count) in
    rw (applied-front n c) (omega arith)

module _ (n : ℕ) (c : Chip) where
  abbrev Small : Blocked → Type 0
  Small b = (b.answer.changed ≤ 256) × (b.answer.restarted ≤ 256)

  pub block-few : Small (blocked n c)
  unfolding blocked
  block-few =
      by_cond Small (chip_in c) _ _
      (λ e. by_cond Small (eqb (block_no n c) accepted) _ _
      (λ _. (omega (arith, changes-few (writes_of n c) (bytes_of c), applied-few n c e), omega (arith, restarts-few (writes_of n c), applied-few n c e)))
      (λ _. (omega arith, omega arith)))
      (λ _. (omega arith, omega arith))

module _ (value : List ℕ) (c : Chip) where
  abbrev Short : Applied → Type 0
  Short a = (a.answer.changed ≤ 14) × (a.answer.restarted ≤ 14)

  pub load-few : Short (frame_reported value c)
  load-few =
      rw (reported value c)
      (by_cond Short (chip_in c) _ _
      (λ _. by_cond Short (is_frame value) _ _
      (λ _. (omega (arith, changes-few (frame_writes value) (bytes_of c), frame-few value), omega (arith, restarts-few (frame_writes value), frame-few value)))
      (λ _. (omega arith, omega arith)))
      (λ _. (omega arith, omega arith)))

-- and together they are far below their type's end
module _ (value : List ℕ) (n : ℕ) (c : Chip) {l : Applied} (q : l ≡ frame_reported value c) {p : Blocked} (e : p ≡ blocked n l.chip) where
  pub changed-fits : l.answer.changed + p.answer.changed < 4294967296
  changed-fits = rw (e, q) (omega (arith, load-few value c, block-few n (frame_reported value c).chip))

  pub restarted-fits : l.answer.restarted + p.answer.restarted < 4294967296
  restarted-fits = rw (e, q) (omega (arith, load-few value c, block-few n (frame_reported value c).chip))
