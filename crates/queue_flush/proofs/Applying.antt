-- Applied writes keep the voice in range. Assumes nothing.
use mathlib.Core.List.{List, [], ◌∷◌}
use Rattle.registers.specs.declared.Voice.{Voice}
use Rattle.registers.specs.Range.{VoiceInRange}
use Rattle.registers.proofs.InRange.{apply-in}
use Rattle.queue.specs.declared.Write.{Write}
use Rattle.registers.specs.Writes.{applied_in_order}
use Rattle.queue_flush.specs.Applied.{apply_all, register_writes}

-- writes keep the voice in range, however many
pub applied-in : (l : List Write) {v : Voice} → VoiceInRange v → VoiceInRange (apply_all l v)
unfolding applied_in_order register_writes
applied-in [] h = h
applied-in (w ∷ l) h = applied-in l (apply-in w.register w.value h)
