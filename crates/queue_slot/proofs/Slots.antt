-- What the three arrays of a ring become, a slot of each put, beside what the ring means to become.
use Rattle.std.proofs.Common.{◌≡◌, refl, ℕ, ◌+◌, ◌%◌, ◌<◌, List, set, arith}
use borrow.Author.Tests.{lt-ltb}
use Rattle.queue.specs.declared.Queue.{Queue}
use Rattle.queue.specs.declared.Write.{Write}
use Rattle.queue.specs.Waiting.{pushed, ring}
use Rattle.queue_slot.specs.Slot.{put_at}

put-nowhere : (x : ℕ) (slots : List ℕ) → put_at 256 x slots ≡ slots
unfolding put_at
put-nowhere x slots = refl

put-slot : (n x : ℕ) (slots : List ℕ) → put_at (n % 256) x slots ≡ set slots (n % 256) x
unfolding put_at
put-slot n x slots = let below : n % 256 < 256 = omega arith in rw (lt-ltb (n % 256) 256 below) refl

-- the ring with the write w put at a place of each array, and this count
abbrev pub put_ring : ℕ → ℕ → Write → Queue → Queue
put_ring at count w q =
    ring (put_at at w.stamp q.stamps) (put_at at w.register q.registers) (put_at at w.value q.values) q.head count

pub ring-kept : (w : Write) (q : Queue) → put_ring 256 q.count w q ≡ q
ring-kept w q = rw (put-nowhere w.stamp q.stamps, put-nowhere w.register q.registers, put-nowhere w.value q.values) refl

pub ring-pushed : (w : Write) (q : Queue) → put_ring ((q.head + q.count) % 256) (q.count + 1) w q ≡ pushed w q
ring-pushed w q =
    let n : ℕ = q.head + q.count in
    rw (put-slot n w.stamp q.stamps, put-slot n w.register q.registers, put-slot n w.value q.values) refl
