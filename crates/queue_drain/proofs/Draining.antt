-- The drain's loop, a write at a time: what is left to do from here gives what the whole does. Assumes nothing.
use mathlib.Core.List.{◌∷◌}
use mathlib.Core.Path.{◌≡◌, refl, sym, ap, ◌∙◌}
use Prim.Native.Nat.{ℕ, suc, ◌+◌, ◌-◌, ◌%◌, ◌≤◌, ◌<◌}
use native.Mathlib.Omega.{arith}
use lib.ListN.{length}
use Rattle.registers.specs.declared.Voice.{Voice}
use Rattle.registers.specs.Registers.{apply_register}
use Rattle.queue.specs.declared.Queue.{Queue}
use Rattle.queue.specs.Waiting.{waiting, due, dropped, emptied, ring, QueueInRange}
use Rattle.registers.specs.Writes.{applied_in_order}
use Rattle.queue_flush.specs.Applied.{register_writes}
use Rattle.queue_drain.specs.Drain.{AfterDrain, drain, Drains}
use Rattle.queue.proofs.Due.{due-on}
use Rattle.queue.proofs.Laws.{dropped-kept, emptied-dropped, emptied-kept}
use Rattle.queue_drain.proofs.Resting.{dropped-none, front, front-waits, drain-late, drain-none}
use Rattle.queue_drain.proofs.Ruled.{waiting-drain}

-- one more dropped
dropped-more : (i : ℕ) (q : Queue) → dropped (i + 1) q ≡ dropped 1 (dropped i q)
dropped-more i q =
    let place : (q.head + (i + 1)) % 256 ≡ ((q.head + i) % 256 + 1) % 256 = omega arith in
    let count : q.count - (i + 1) ≡ q.count - i - 1 = omega arith in
    rw (place, count)

-- the front is due: a drain applies it and goes on behind it
drain-on : (end : ℕ) (v : Voice) (q : Queue) → QueueInRange q → 0 < q.count → (front q).stamp ≤ end
    → drain end v q ≡ drain end (apply_register (front q).register (front q).value v) (dropped 1 q)
unfolding drain applied_in_order register_writes
drain-on end v q ok some h =
    let e : due end (waiting q) ≡ front q ∷ due end (waiting (dropped 1 q))
    = ap (due end) (front-waits q ok some) ∙ due-on end (front q) (waiting (dropped 1 q)) h
    in
    let k = length (due end (waiting (dropped 1 q))) in
    let a : (q.head + suc k) % 256 ≡ ((q.head + 1) % 256 + k) % 256 = omega arith in
    let b : q.count - suc k ≡ q.count - 1 - k = omega arith in
    rw e (rw (a, b))

-- the first i writes are applied
pub record Draining (end : ℕ) (v₀ v : Voice) (q : Queue) (i : ℕ) : Type 0 where
  pub ok : QueueInRange q
  pub rest : drain end v (dropped i q) ≡ drain end v₀ q

pub draining-start : (end : ℕ) (v : Voice) (q : Queue) → QueueInRange q → Draining end v v q 0
draining-start end v q h = record { ok = h; rest = ap (drain end v) (dropped-none q h) }

-- the ring is lent: its arrays stay, and its place and count come back
pub drained : {end h n : ℕ} {v₀ v : Voice} {q : Queue} → record { voice = v; queue = ring q.stamps q.registers q.values h n } ≡ drain end v₀ q
    → Drains end v₀ q (record { voice = v; head = h; count = n })
drained {end} {h} {n} {v₀} {v} {q} e =
    record {
      small = ap (λ (r : AfterDrain). record { voice = r.voice; head = r.queue.head; count = r.queue.count }) e;
      list = ap (λ (r : AfterDrain). waiting r.queue) e ∙ waiting-drain end v₀ q;
    }

module _ {end i : ℕ} {v₀ v : Voice} {q : Queue} (d : Draining end v₀ v q i) where
  pub draining-on : {v' : Voice} → i < q.count → (front (dropped i q)).stamp ≤ end
      → v' ≡ apply_register (front (dropped i q)).register (front (dropped i q)).value v → Draining end v₀ v' q (i + 1)
  draining-on {v'} some due e =
      let more : 0 < q.count - i = omega arith in
      record {
        ok = d.ok;
        rest = rw e (ap (drain end _) (dropped-more i q) ∙ sym (drain-on end v (dropped i q) (dropped-kept i q d.ok) more due) ∙ d.rest);
      }

  -- the first later stamp stops it
  pub draining-late : i < q.count → end < (front (dropped i q)).stamp → Drains end v₀ q (record { voice = v; head = (q.head + i) % 256; count = q.count - i })
  draining-late some late =
      let more : 0 < q.count - i = omega arith in
      drained (sym (drain-late end v (dropped i q) (dropped-kept i q d.ok) more late) ∙ d.rest)

  -- no write waits
  pub draining-end : i ≤ q.count → q.count ≤ i → Drains end v₀ q (record { voice = v; head = (q.head + q.count) % 256; count = 0 })
  draining-end few h =
      let all : i ≡ q.count = omega arith in
      let rest = rw (all, ← emptied-dropped q) at d.rest in
      drained (sym (drain-none end v (emptied q) (emptied-kept q d.ok) refl) ∙ rest)
