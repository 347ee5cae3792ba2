-- The due writes stored, a write at a time: settled from here, and drained on, they give what the whole drain does. Assumes nothing.
use mathlib.Core.Bool.{false}
use mathlib.Core.List.{List}
use mathlib.Core.Path.{◌≡◌}
use Prim.Native.Nat.{ℕ, ◌+◌, ◌-◌, ◌%◌, ◌≤◌, ◌<◌}
use lib.ListN.{set}
use Rattle.registers.specs.declared.Voice.{Voice}
use Rattle.registers.specs.Registers.{masked}
use Rattle.stored_bytes.specs.Marks.{marked}
use Rattle.settling.specs.Settling.{settings_of, settled_of, with_settings}
use Rattle.settling.proofs.Stored.{stored-none, stored_on, past-registers}
use Rattle.queue.specs.declared.Queue.{Queue}
use Rattle.queue.specs.Waiting.{dropped, QueueInRange}
use Rattle.queue_drain.specs.Due.{Stores}
use Rattle.queue_drain.proofs.Resting.{front}
use Rattle.queue_drain.proofs.Draining.{Draining, draining-start, draining-on, draining-late, draining-end}

-- a voice, were the writes so far settled now
abbrev settled_now : List ℕ → ℕ → Voice → Voice
settled_now kept marks v = with_settings kept (settled_of kept marks (settings_of v.generators v.gates)) v

-- the first i writes are stored
pub record Storing (end : ℕ) (bytes kept : List ℕ) (marks : ℕ) (q : Queue) (i : ℕ) : Type 0 where
  pub each : (v : Voice) → v.irq ≡ false → v.registers ≡ bytes → Draining end v (settled_now kept marks v) q i

pub storing-start : {end : ℕ} {bytes : List ℕ} {q : Queue} → QueueInRange q → Storing end bytes bytes 0 q 0
storing-start {end} {bytes} {q} h = record { each = λ v off same. rw (← same) (rw (stored-none v) (draining-start end v q h)) }

module _ {end i : ℕ} {bytes kept : List ℕ} {marks : ℕ} {q : Queue} (s : Storing end bytes kept marks q i) where
  -- the write is stored, and its register marked
  pub storing-on : {byte marks' : ℕ} {kept' : List ℕ} → i < q.count → (front (dropped i q)).stamp ≤ end → (front (dropped i q)).register < 14
      → byte ≡ masked (front (dropped i q)).register (front (dropped i q)).value → kept' ≡ set kept (front (dropped i q)).register byte
      → marks' ≡ marked (front (dropped i q)).register marks → Storing end bytes kept' marks' q (i + 1)
  storing-on some due low e f g =
      let w = front (dropped i q) in
      record {
        each = λ v off same.
            draining-on (s.each v off same) some due
            (rw (f, e, g) (stored_on kept marks (settings_of v.generators v.gates) v w.register w.value off low));
      }

  -- there is no such register
  pub storing-past : {marks' : ℕ} {kept' : List ℕ} → i < q.count → (front (dropped i q)).stamp ≤ end → 14 ≤ (front (dropped i q)).register
      → kept' ≡ kept → marks' ≡ marks → Storing end bytes kept' marks' q (i + 1)
  storing-past some due high f g =
      let w = front (dropped i q) in
      record {
        each = λ v off same.
            draining-on (s.each v off same) some due (rw (f, g) (past-registers w.register w.value (settled_now kept marks v) high));
      }

  -- the first later stamp stops it
  pub storing-late : i < q.count → end < (front (dropped i q)).stamp
      → Stores end bytes q (record { bytes = kept; marks = marks; head = (q.head + i) % 256; count = q.count - i })
  storing-late some late = record { drains = λ v off same. draining-late (s.each v off same) some late }

  -- no write waits
  pub storing-end : i ≤ q.count → q.count ≤ i → Stores end bytes q (record { bytes = kept; marks = marks; head = (q.head + q.count) % 256; count = 0 })
  storing-end few none = record { drains = λ v off same. draining-end (s.each v off same) few none }
