-- The writes that a block applied stand at the front of the ring as it was before. Assumes nothing.
use mathlib.Core.List.{List, [], ◌++◌}
use mathlib.Core.Path.{◌≡◌, refl, ap, ap₂, ◌∙◌}
use Prim.Native.Nat.{ℕ, zero, suc, ◌+◌, ◌-◌, ◌≤◌}
use native.Mathlib.Omega.{arith}
use lib.ListN.{length}
use Rattle.registers.specs.Writes.{RegisterWrite}
use Rattle.queue.specs.Waiting.{writes_from}
use Rattle.queue_flush.specs.Applied.{register_writes}
use Rattle.queue_drain.specs.Drain.{drain}
use Rattle.queue_effects.specs.Slots.{writes_at}
use Rattle.queue_effects.proofs.Front.{at-append, at-round, due-few, due-writes, writes-append}
use Rattle.chip.specs.declared.Chip.{Chip}
use Rattle.clocking_word.specs.Word.{applied_by, drained, end_of, word_of}
use Rattle.clocking_block.specs.Block.{after_one, after_words, applied_of}
use Rattle.steps_blocks.specs.BlockSteps.{writes_of}

abbrev left : ℕ → Chip → ℕ
left n c = (after_words n c).queue.count

-- as many wait after a word as waited before, but for those that it applied
one_left : (c : Chip) → (after_one c).queue.count ≡ c.queue.count - length (applied_by c.core c.queue)
unfolding word_of drained drain
one_left c = refl

pub no_more : (n : ℕ) (c : Chip) → (after_words n c).queue.count ≤ c.queue.count
unfolding after_words
no_more zero c = omega arith
no_more (suc n) c = omega (arith, no_more n (after_one c), one_left c)

-- the writes of n slots from the ring's place on
abbrev pub front : Chip → ℕ → List RegisterWrite
front c n = writes_at c.queue.registers c.queue.values c.queue.head n

next-front : (c : Chip) (n : ℕ) → front (after_one c) n ≡ writes_at c.queue.registers c.queue.values (c.queue.head + length (applied_by c.core c.queue)) n
unfolding word_of drained drain
next-front c n = at-round c.queue.registers c.queue.values (c.queue.head + length (applied_by c.core c.queue)) n

pub applied-front : (n : ℕ) (c : Chip) → writes_of n c ≡ front c (c.queue.count - (after_words n c).queue.count)
unfolding applied_of after_words register_writes writes_from
applied-front zero c = let none : 0 ≡ c.queue.count - c.queue.count = omega arith in nothing ∙ ap (front c) none
  where
    nothing : register_writes [] ≡ front c 0
    nothing = refl
applied-front (suc n) c =
    let k : ℕ = length (applied_by c.core c.queue) in
    let m : ℕ = (after_one c).queue.count - left n (after_one c) in
    let few = due-few (end_of c.core) c.queue in
    let less = no_more n (after_one c) in
    let all : k + m ≡ c.queue.count - left n (after_one c) = omega (arith, one_left c) in
    writes-append (applied_by c.core c.queue) (applied_of n (after_one c))
    ∙ ap₂ (λ (xs ys : List RegisterWrite). xs ++ ys) (due-writes (end_of c.core) c.queue) (applied-front n (after_one c) ∙ next-front c m)
    ∙ at-append c.queue.registers c.queue.values c.queue.head k m
    ∙ ap (front c) all
