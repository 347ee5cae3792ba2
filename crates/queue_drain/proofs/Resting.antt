-- A drain where nothing is due changes nothing. Assumes nothing.
use mathlib.Core.List.{[], ◌∷◌}
use mathlib.Core.Path.{◌≡◌, ap, ◌∙◌}
use Prim.Native.Nat.{ℕ, ◌+◌, ◌-◌, ◌%◌, ◌<◌}
use native.Mathlib.Omega.{arith}
use lib.ListN.{get_or}
use Rattle.registers.specs.declared.Voice.{Voice}
use Rattle.registers.specs.Writes.{applied_in_order}
use Rattle.queue.specs.declared.Write.{Write}
use Rattle.queue.specs.declared.Queue.{Queue}
use Rattle.queue.specs.Waiting.{writes_from, waiting, due, dropped, QueueInRange}
use Rattle.queue.proofs.Ring.{waiting-front}
use Rattle.queue.proofs.Due.{due-stops}
use Rattle.queue_flush.specs.Applied.{register_writes}
use Rattle.queue_drain.specs.Drain.{drain}

-- the write at the head, as the code reads it
abbrev pub front : Queue → Write
front q = record { stamp = get_or q.stamps q.head 0; register = get_or q.registers q.head 0; value = get_or q.values q.head 0 }

pub front-waits : (q : Queue) → QueueInRange q → 0 < q.count → waiting q ≡ front q ∷ waiting (dropped 1 q)
front-waits q h some =
    let e : q.head % 256 ≡ q.head = omega (arith, h.head) in
    waiting-front q some ∙ rw e

-- none dropped
pub dropped-none : (q : Queue) → QueueInRange q → dropped 0 q ≡ q
dropped-none q h =
    let a : (q.head + 0) % 256 ≡ q.head = omega (arith, h.head) in
    let b : q.count - 0 ≡ q.count = omega arith in
    rw (a, b)

-- nothing due: the drain changes nothing
pub drain-rests : (end : ℕ) (v : Voice) (q : Queue) → QueueInRange q → due end (waiting q) ≡ [] → drain end v q ≡ record { voice = v; queue = q }
unfolding drain applied_in_order register_writes
drain-rests end v q h e = rw e (rw (dropped-none q h))

-- the first waiting write is later
pub drain-late : (end : ℕ) (v : Voice) (q : Queue) → QueueInRange q → 0 < q.count → end < (front q).stamp → drain end v q ≡ record { voice = v; queue = q }
drain-late end v q h some late = drain-rests end v q h (ap (due end) (front-waits q h some) ∙ due-stops end (front q) (waiting (dropped 1 q)) late)

-- no write waits
pub drain-none : (end : ℕ) (v : Voice) (q : Queue) → QueueInRange q → q.count ≡ 0 → drain end v q ≡ record { voice = v; queue = q }
unfolding waiting writes_from due
drain-none end v q h none = drain-rests end v q h (ap (λ (n : ℕ). due end (writes_from n q.head q)) none)
