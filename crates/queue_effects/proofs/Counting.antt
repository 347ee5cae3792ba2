-- The counting loop, a write at a time: what is counted so far and what is left to count give what the whole does. Assumes nothing.
use mathlib.Core.Bool.{false, not}
use mathlib.Core.List.{List, [], ◌∷◌}
use mathlib.Core.Path.{◌≡◌, ap, ◌∙◌}
use Prim.Native.Nat.{ℕ, ◌+◌, ◌-◌, ◌%◌, ◌≤◌, ◌<◌}
use native.Mathlib.Omega.{arith}
use borrow.Author.Tests.{ne_eqb}
use lib.Dec.{eqb}
use lib.ListN.{get_or, length, length-set, set}
use Rattle.registers.specs.Registers.{masked}
use Rattle.registers.specs.Writes.{RegisterWrite}
use Rattle.write_effects.specs.declared.Effect.{Effect}
use Rattle.write_effects.specs.Effects.{bytes_after, changed_by, changes_in, effect_of, effects_of, one, restarted_by, restarts_in}
use Rattle.write_effects.proofs.Differing.{one-le}
use Rattle.write_effects.proofs.OneWrite.{after_none, after-stored, effect-none, effect-stored}
use Rattle.queue.specs.Waiting.{ring, writes_from}
use Rattle.queue.proofs.Ring.{from-next}
use Rattle.queue_flush.specs.Applied.{register_writes}
use Rattle.queue_effects.specs.Slots.{writes_at}

-- the first i writes are counted
pub record Counting (registers values : List ℕ) (head applied : ℕ) (bytes₀ bytes : List ℕ) (changed restarted i : ℕ) : Type 0 where
  pub long : length bytes ≡ 14
  pub changed-few : changed ≤ i
  pub restarted-few : restarted ≤ i
  pub changes : changed + changes_in (writes_at registers values (head + i) (applied - i)) bytes ≡ changes_in (writes_at registers values head applied) bytes₀
  pub restarts : restarted + restarts_in (writes_at registers values (head + i) (applied - i)) ≡ restarts_in (writes_at registers values head applied)

module _ {registers values : List ℕ} {head applied : ℕ} {bytes₀ bytes : List ℕ} {changed restarted i : ℕ}
    (s : Counting registers values head applied bytes₀ bytes changed restarted i) where
  abbrev register : ℕ
  register = get_or registers ((head + i) % 256) 0

  abbrev value : ℕ
  value = get_or values ((head + i) % 256) 0

  next : i < applied → writes_at registers values (head + i) (applied - i)
      ≡ record { register = register; value = value } ∷ writes_at registers values (head + (i + 1)) (applied - (i + 1))
  unfolding register_writes
  next some = ap register_writes (from-next (ring [] registers values 0 0) applied i head some)

  -- the next write counted, and the bytes that it leaves
  counting-on : {effect : Effect} {c r : ℕ} {after : List ℕ} → i < applied → effect ≡ effect_of register value bytes
      → c ≡ changed + one effect.changed → r ≡ restarted + one effect.restarted → after ≡ bytes_after register value bytes → length after ≡ 14
      → Counting registers values head applied bytes₀ after c r (i + 1)
  unfolding changes_in restarts_in
  counting-on {effect} {c} {r} {after} some e ec er ea long =
      let c' : c ≡ changed + one (changed_by register value bytes) = rw e at ec in
      let r' : r ≡ restarted + one (restarted_by register) = rw e at er in
      let more-changes = ap (λ (l : List RegisterWrite). changes_in l bytes) (next some) in
      let more-restarts = ap restarts_in (next some) in
      let changes = s.changes in
      let restarts = s.restarts in
      let one-change = one-le (changed_by register value bytes) in
      let one-restart = one-le (restarted_by register) in
      record {
        long = long;
        changed-few = omega (arith, s.changed-few);
        restarted-few = omega (arith, s.restarted-few);
        changes = rw ea (omega arith);
        restarts = omega arith;
      }

  -- it is stored, or its register is none of the fourteen
  pub counting-stored : {byte c r : ℕ} {after : List ℕ} → i < applied → register < 14 → byte ≡ masked register value
      → c ≡ changed + one (not (eqb byte (get_or bytes register 0))) → after ≡ set bytes register byte → r ≡ restarted + one (eqb register 13)
      → Counting registers values head applied bytes₀ after c r (i + 1)
  counting-stored {byte} {c} {r} {after} some h eb ec ea er =
      let stored : after ≡ set bytes register (masked register value) = rw eb at ea in
      let long : length after ≡ 14 = rw stored (simp length-set s.long) in
      counting-on some (effect-stored register value bytes h s.long) (rw eb at ec) er (stored ∙ after-stored register value bytes h) long

  pub counting-past : {c r : ℕ} {after : List ℕ} → i < applied → 14 ≤ register → c ≡ changed → after ≡ bytes → r ≡ restarted + one (eqb register 13)
      → Counting registers values head applied bytes₀ after c r (i + 1)
  counting-past {c} {r} {after} some h ec ea er =
      let none : eqb register 13 ≡ false = ne_eqb register 13 (omega arith) in
      let same : c ≡ changed + 0 = omega arith in
      counting-on some (effect-none register value bytes h) same (rw none at er) (ea ∙ after_none register value bytes h) (rw ea s.long)

  pub counting-end : applied ≤ i → record { changed = changed; restarted = restarted } ≡ effects_of (writes_at registers values head applied) bytes₀
  unfolding changes_in restarts_in register_writes writes_from
  counting-end h =
      let none : applied - i ≡ 0 = omega arith in
      let c : changed + 0 ≡ changes_in (writes_at registers values head applied) bytes₀ = rw none at s.changes in
      let r : restarted + 0 ≡ restarts_in (writes_at registers values head applied) = rw none at s.restarts in
      let c' : changed ≡ changes_in (writes_at registers values head applied) bytes₀ = omega arith in
      let r' : restarted ≡ restarts_in (writes_at registers values head applied) = omega arith in
      rw (c', r')
