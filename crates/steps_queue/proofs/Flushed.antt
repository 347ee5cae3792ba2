-- An accepted flush: the voice that it makes, the ring emptied, and the counts over what waited. Assumes nothing.
use mathlib.Core.Bool.{Bool, false, not}
use mathlib.Core.List.{List}
use mathlib.Core.Path.{◌≡◌, refl, sym, ap, ◌∙◌}
use Prim.Native.Nat.{◌+◌, ◌%◌}
use Rattle.laws.proofs.Tests.{on-yes}
use Rattle.refusals.specs.Numbers.{accepted}
use Rattle.registers.specs.declared.Voice.{Voice}
use Rattle.registers.specs.Writes.{RegisterWrite}
use Rattle.write_effects.specs.declared.Effects.{Effects}
use Rattle.write_effects.specs.Effects.{effects_of}
use Rattle.queue.specs.declared.Queue.{Queue}
use Rattle.queue.specs.Waiting.{waiting}
use Rattle.queue_flush.specs.Applied.{apply_all}
use Rattle.queue_effects.specs.Slots.{writes_at}
use Rattle.queue_effects.proofs.Front.{waiting-writes}
use Rattle.answers.specs.Reports.{counts}
use Rattle.steps_queue.specs.QueueSteps.{flush_step}

pub flush-yes : (ok : Bool) (voice : Voice) (q : Queue) {made : Voice} {told : Effects} → not ok ≡ false
    → told ≡ effects_of (writes_at q.registers q.values q.head q.count) voice.registers → made ≡ apply_all (waiting q) voice
    → record { voice = made; head = (q.head + q.count) % 256; count = 0; answer = counts accepted told.changed told.restarted } ≡ flush_step ok voice q
unfolding flush_step
flush-yes ok voice q {made} {told} n t e =
    let t' = t ∙ ap (λ (l : List RegisterWrite). effects_of l voice.registers) (sym (waiting-writes q)) in
    on-yes ok ok _ _ _ refl n (λ i. record { voice = e i; head = (q.head + q.count) % 256; count = 0; answer = counts accepted (t' i).changed (t' i).restarted })
