-- What is due, applied. 01, "One tick, one word". Assumes nothing.
use Rattle.std.specs.Prelude.{◌≡◌, ℕ, length}
use Rattle.registers.specs.declared.Voice.{Voice}
use Rattle.queue_flush.specs.Applied.{apply_all}
use Rattle.queue.specs.declared.Queue.{Queue}
use Rattle.queue.specs.Waiting.{ring, waiting, due, late, dropped}
use Rattle.queue_drain.specs.declared.Drained.{Drained}

-- What a drain gives: the registers after what is due, and the ring without it.
pub record AfterDrain : Type 0 where
  pub voice : Voice
  pub queue : Queue

unfoldable pub drain : ℕ → Voice → Queue → AfterDrain
drain end v q = record { voice = apply_all (due end (waiting q)) v; queue = dropped (length (due end (waiting q))) q }

-- A drained ring's arrays stay; its place and count come back.
pub record Drains (end : ℕ) (v : Voice) (q : Queue) (r : Drained) : Type 0 where
  pub small : r ≡ record { voice = (drain end v q).voice; head = (drain end v q).queue.head; count = (drain end v q).queue.count }
  pub list : waiting (ring q.stamps q.registers q.values r.head r.count) ≡ late end (waiting q)
