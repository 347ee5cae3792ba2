-- A drain removes what is due, and keeps the ring and the voice in range. Assumes nothing.
use mathlib.Core.Path.{◌≡◌, sym, ◌∙◌}
use Prim.Native.Nat.{ℕ}
use lib.ListN.{length}
use Rattle.registers.specs.declared.Voice.{Voice}
use Rattle.registers.specs.Range.{VoiceInRange}
use Rattle.queue.specs.declared.Queue.{Queue}
use Rattle.queue.specs.Waiting.{waiting, due, late, QueueInRange}
use Rattle.queue.proofs.Ring.{waiting-dropped}
use Rattle.queue.proofs.Due.{late-drop}
use Rattle.queue.proofs.Laws.{dropped-kept}
use Rattle.queue_flush.proofs.Applying.{applied-in}
use Rattle.queue_drain.specs.Drain.{drain}

-- a drain removes what is due
pub waiting-drain : (end : ℕ) (v : Voice) (q : Queue) → waiting (drain end v q).queue ≡ late end (waiting q)
unfolding drain
waiting-drain end v q = waiting-dropped (length (due end (waiting q))) q ∙ sym (late-drop end (waiting q))

pub drain_kept : (end : ℕ) (v : Voice) (q : Queue) → QueueInRange q → QueueInRange (drain end v q).queue
unfolding drain
drain_kept end v q h = dropped-kept (length (due end (waiting q))) q h

pub drained-in : (end : ℕ) {v : Voice} (q : Queue) → VoiceInRange v → VoiceInRange (drain end v q).voice
unfolding drain
drained-in end q h = applied-in (due end (waiting q)) h
