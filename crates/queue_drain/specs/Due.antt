-- What is due, told by the bytes and the settings that it leaves. 01, "Registers and ports". Assumes nothing.
use Rattle.std.specs.Prelude.{false, List, ◌≡◌, ℕ}
use Rattle.registers.specs.declared.Voice.{Voice}
use Rattle.settling.specs.Settling.{settings_of, settled_of, with_settings}
use Rattle.queue.specs.declared.Queue.{Queue}
use Rattle.queue_drain.specs.declared.Drained.{Drained}
use Rattle.queue_drain.specs.declared.Due.{Due}
use Rattle.queue_drain.specs.declared.Stored.{Stored}
use Rattle.queue_drain.specs.Drain.{Drains}

-- the voice with those bytes and settings
abbrev pub drained_with : Voice → Due → Drained
drained_with v d = record { voice = with_settings d.bytes d.settings v; head = d.head; count = d.count }

-- the stored writes settled once, at the end
abbrev pub settled_with : Voice → Stored → Due
settled_with v s =
    record { bytes = s.bytes; settings = settled_of s.bytes s.marks (settings_of v.generators v.gates); head = s.head; count = s.count }

-- With the IRQ flag off that is a drain, for each voice that had the bytes.
pub record Stores (end : ℕ) (bytes : List ℕ) (q : Queue) (s : Stored) : Type 0 where
  pub drains : (v : Voice) → v.irq ≡ false → v.registers ≡ bytes → Drains end v q (drained_with v (settled_with v s))
