-- Writes applied one by one are told by the bytes and the settings that they leave. Assumes nothing.
use mathlib.Core.Path.{◌≡◌, subst}
use Prim.Native.Nat.{ℕ}
use Rattle.settling.specs.declared.Settings.{Settings}
use Rattle.settling.specs.Settling.{settings_of}
use Rattle.settling.proofs.Rest.{SameRest, applied-rest}
use Rattle.registers.specs.declared.Voice.{Voice}
use Rattle.queue.specs.declared.Queue.{Queue}
use Rattle.queue_drain.specs.declared.Drained.{Drained}
use Rattle.queue_drain.specs.Drain.{drain, Drains}
use Rattle.queue_drain.specs.Due.{drained_with}

drain_rest : (end : ℕ) (v : Voice) (q : Queue) → SameRest v (drain end v q).voice
unfolding drain
drain_rest end v q = applied-rest _ v

-- what a drain leaves, told so, is what it leaves
pub drains-told : {end : ℕ} {v : Voice} {q : Queue} {d : Drained} {s : Settings} → Drains end v q d → s ≡ settings_of d.voice.generators d.voice.gates
    → Drains end v q (drained_with v (record { bytes = d.voice.registers; settings = s; head = d.head; count = d.count }))
drains-told {end} {v} {q} {d} {s} i e =
    let kept : SameRest v d.voice = rw i.small (drain_rest end v q) in
    rw e (subst (λ (x : Voice). Drains end v q (record { voice = x; head = d.head; count = d.count })) kept.same i)
