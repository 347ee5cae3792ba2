-- The two calls of many writes, a load and a flush, by whether the record passes its test. Assumes nothing.
use mathlib.Core.Bool.{Bool, true, false, cond}
use mathlib.Core.List.{List}
use mathlib.Core.Path.{◌≡◌, refl, sym, ap, ◌∙◌}
use Prim.Native.Nat.{ℕ, ◌≤◌}
use native.Mathlib.Omega.{arith}
use borrow.Author.Tests.{eq-eqb}
use lib.ListN.{get_or, length}
use Rattle.refusals.specs.Numbers.{accepted, out_of_range}
use Rattle.registers.specs.declared.Voice.{Voice}
use Rattle.registers.specs.Writes.{RegisterWrite, applied_in_order, loaded, load_writes, registers_from}
use Rattle.write_effects.specs.Effects.{differences, restarts_in}
use Rattle.write_effects.proofs.Laws.{bytes_left, bytes_left_lem, changes-few, each-once, no-differences, restarts-few}
use Rattle.queue.specs.Waiting.{waiting}
use Rattle.queue.proofs.Ring.{length-waiting}
use Rattle.queue_flush.specs.Applied.{register_writes}
use Rattle.chip.specs.declared.Chip.{Chip}
use Rattle.chip.specs.Range.{chip_in}
use Rattle.chip_parts.specs.Parts.{on_voice, voice_of}
use Rattle.answers.specs.Answers.{answered}
use Rattle.answers.specs.Reports.{applied, bytes_of}
use Rattle.calls_registers.specs.Stored.{load_registers, loaded_registers}
use Rattle.calls_cycles.specs.Cycles.{flushed, flush_pending_writes, flushed_pending_writes, pending_write_count}
use Rattle.laws_effects.specs.Claims.{Listed, waits}
use Rattle.laws_effects.proofs.Bytes.{length-writes, none-changed}
use Rattle.laws_effects.proofs.Restarts.{none-restarts, same, some-restart}

-- what the counts say of the writes holds of the call: a record that fails the test stays as it is, with 0 and 0
module _ (c d : Chip) (writes : List RegisterWrite) where
  abbrev Does : Type 0
  Does = voice_of d ≡ applied_in_order writes (voice_of c)

  bytes : Does → bytes_of d ≡ bytes_left writes (bytes_of c)
  bytes e = ap (λ (v : Voice). v.registers) e ∙ bytes_left_lem writes (voice_of c)

  -- at most as many as `most`, which is the list's length where the record passes
  told : (t : Bool) (most : ℕ) → Does → (t ≡ true → length writes ≤ most)
      → let a = cond t (answered accepted d) (answered out_of_range c) in Listed c most a (applied writes c a)
  told true most e few =
      let enough = few refl in
      record {
        as_before = refl;
        counted = record {
          refused = λ n. absurd (n refl);
          few-changed = omega (arith, changes-few writes (bytes_of c));
          few-restarted = omega (arith, restarts-few writes);
          unchanged = λ none. bytes e ∙ none-changed writes (bytes_of c) none;
        };
        runs_on = λ none. rw e (none-restarts writes (voice_of c) none);
        restarted = λ some. rw e (some-restart writes (voice_of c) some);
      }
  told false most e few =
      record {
        as_before = refl;
        counted = record { refused = λ _. (refl, refl); few-changed = omega arith; few-restarted = omega arith; unchanged = λ _. refl };
        runs_on = λ _. same (voice_of c);
        restarted = λ some. absurd (omega arith);
      }

module _ (bytes : List ℕ) (c : Chip) where
  fourteen : length (load_writes bytes) ≡ 14
  unfolding registers_from
  fourteen = refl

  pub load-registers : Listed c 14 (load_registers bytes c) (loaded_registers bytes c)
  unfolding load_registers loaded_registers
  load-registers =
      told c (on_voice (loaded bytes) c) (load_writes bytes) (chip_in c) 14 refl (λ _. omega (arith, fourteen))

  pub load-restarts : (load_registers bytes c).no ≡ accepted → (loaded_registers bytes c).answer.restarted ≡ 1
  unfolding loaded_registers registers_from restarts_in
  load-restarts e = rw (eq-eqb (load_registers bytes c).no accepted e)

  pub load-changes : (loaded_registers bytes c).answer.changed ≡ differences 14 0 (bytes_of c) (bytes_of (loaded_registers bytes c).chip)
  unfolding load_registers loaded_registers
  load-changes = by_both (chip_in c)
    where
      by_both : (t : Bool) → let w = applied (load_writes bytes) c (cond t (answered accepted (on_voice (loaded bytes) c)) (answered out_of_range c)) in
          w.answer.changed ≡ differences 14 0 (bytes_of c) (bytes_of w.chip)
      by_both true =
          each-once (λ register. get_or bytes register 0) 14 0 (bytes_of c) (omega arith)
          ∙ ap (differences 14 0 (bytes_of c)) (sym (bytes_left_lem (load_writes bytes) (voice_of c)))
      by_both false = sym (no-differences 14 0 (bytes_of c))

-- as many as wait
pub waits-all : (c : Chip) → chip_in c ≡ true → waits c ≡ length (waiting c.queue)
unfolding pending_write_count
waits-all c e = rw (e, waits) (sym (length-waiting c.queue))

pub flush : (c : Chip) → Listed c (waits c) (flush_pending_writes c) (flushed_pending_writes c)
unfolding flush_pending_writes flushed_pending_writes
flush c =
    told c (flushed c) (register_writes (waiting c.queue)) (chip_in c) (waits c) refl
    (λ passed. omega (arith, length-writes (waiting c.queue), waits-all c passed))
