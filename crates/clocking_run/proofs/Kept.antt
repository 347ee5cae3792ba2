-- What words with no write between them keep, and how far they come. Assumes nothing.
use mathlib.Core.Path.{◌≡◌, refl, ◌∙◌}
use Prim.Native.Nat.{ℕ, zero, suc, ◌+◌, ◌*◌, ◌≤◌}
use native.Mathlib.Nat.{suc-mul}
use native.Mathlib.Omega.{arith}
use Rattle.chip.specs.declared.Core.{Core}
use Rattle.chip.specs.Range.{CoreInRange}
use Rattle.clocking_ticks.proofs.Ranging.{ticked-shape}
use Rattle.clocking_word.specs.Word.{ran_of, offset_in}
use Rattle.clocking_word.proofs.Stepping.{Ticked, ticks-kept}
use Rattle.clocking_run.specs.Run.{next_core, core_after, ticks_from}

pub record Kept (n : ℕ) (c : Core) : Type 0 where
  pub ok : CoreInRange (core_after n c)
  pub few : ticks_from n c ≤ n * 268435456
  pub shape : offset_in (core_after n c) ≡ offset_in c
  pub clocks : (core_after n c).clocks ≡ c.clocks
  pub channels : (core_after n c).channels ≡ c.channels
  pub start : (core_after n c).start ≡ c.start + n * c.clocks.cycles

next-shape : (c : Core) → offset_in (next_core c) ≡ offset_in c
unfolding next_core ran_of
next-shape c = ticked-shape c.voice.gates c.clocks.rate c.clocks.internal c.voice.generators c.accumulator

pub run-kept : (n : ℕ) (c : Core) → CoreInRange c → Kept n c
unfolding core_after ticks_from next_core
run-kept zero c h = record { ok = h; few = omega arith; shape = refl; clocks = refl; channels = refl; start = omega arith }
run-kept (suc n) c h =
    let k : Kept n c = run-kept n c h in
    let d = core_after n c in
    let t : Ticked d d.voice d.channels = ticks-kept d d.channels k.ok k.ok.voice in
    record {
      ok = t.core;
      few = omega (arith, t.few, k.few);
      shape = next-shape d ∙ k.shape;
      clocks = k.clocks;
      channels = k.channels;
      start = rw (k.start, k.clocks, suc-mul) (omega arith);
    }
