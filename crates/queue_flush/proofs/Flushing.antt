-- The flush's loop, a write at a time: what is left to apply from here gives what the whole does. Assumes nothing.
use mathlib.Core.List.{List}
use mathlib.Core.Path.{◌≡◌, sym, ap, ◌∙◌}
use Prim.Native.Nat.{ℕ, ◌+◌, ◌-◌, ◌≤◌, ◌<◌}
use native.Mathlib.Omega.{arith}
use Rattle.registers.specs.declared.Voice.{Voice}
use Rattle.registers.specs.Registers.{apply_register}
use Rattle.queue.specs.declared.Write.{Write}
use Rattle.queue.specs.declared.Queue.{Queue}
use Rattle.queue.specs.Waiting.{slot, writes_from, waiting}
use Rattle.registers.specs.Writes.{applied_in_order}
use Rattle.queue_flush.specs.Applied.{apply_all, register_writes}
use Rattle.queue.proofs.Ring.{from-next, from-same}

-- the first i writes are applied
pub record Flushing (q : Queue) (v₀ v : Voice) (i : ℕ) : Type 0 where
  pub rest : apply_all (writes_from (q.count - i) (q.head + i) q) v ≡ apply_all (waiting q) v₀

pub flushing-start : (q : Queue) (v : Voice) → Flushing q v v 0
unfolding waiting
flushing-start q v = record { rest = ap (λ (l : List Write). apply_all l v) (from-same q _ _ _ _ (omega arith) (omega arith)) }

module _ {q : Queue} {v₀ v : Voice} {i : ℕ} (f : Flushing q v₀ v i) where
  pub flushing-on : {v' : Voice} → i < q.count → v' ≡ apply_register (slot q (q.head + i)).register (slot q (q.head + i)).value v
      → Flushing q v₀ v' (i + 1)
  unfolding applied_in_order register_writes
  flushing-on some e = record { rest = rw e (sym (ap (λ (l : List Write). apply_all l v) (from-next q q.count i q.head some)) ∙ f.rest) }

  pub flushing-end : q.count ≤ i → v ≡ apply_all (waiting q) v₀
  unfolding applied_in_order register_writes writes_from
  flushing-end h =
      let none : q.count - i ≡ 0 = omega arith in
      rw none at f.rest
