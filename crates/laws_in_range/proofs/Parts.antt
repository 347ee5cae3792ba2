-- A chip with one part changed, and that part in range, is in range. Assumes nothing.
use mathlib.Core.Bool.{Bool, cond}
use Prim.Native.Nat.{ℕ, ◌≤◌}
use Rattle.laws.proofs.Tests.{by_cond}
use Rattle.three_channels.specs.declared.Channels.{Channels}
use Rattle.registers.specs.declared.Voice.{Voice}
use Rattle.registers.specs.Range.{VoiceInRange}
use Rattle.queue.specs.declared.Queue.{Queue}
use Rattle.queue.specs.Waiting.{QueueInRange}
use Rattle.chip.specs.declared.Chip.{Chip}
use Rattle.chip.proofs.InRange.{InRange}
use Rattle.answers.specs.declared.Answered.{Answered}
use Rattle.chip_parts.specs.Parts.{with_queue, with_voice, with_selection, with_times, with_channels}

module _ {c : Chip} (h : InRange c) where
  pub voice-kept : {v : Voice} → VoiceInRange v → InRange (with_voice v c)
  voice-kept k =
      record {
        clocks = h.clocks;
        internal = h.internal;
        cycles = h.cycles;
        accumulator = h.accumulator;
        variant = h.variant;
        voice = k;
        selected = h.selected;
        queue = h.queue;
      }

  pub queue-kept : {q : Queue} → QueueInRange q → InRange (with_queue q c)
  queue-kept k =
      record {
        clocks = h.clocks;
        internal = h.internal;
        cycles = h.cycles;
        accumulator = h.accumulator;
        variant = h.variant;
        voice = h.voice;
        selected = h.selected;
        queue = k;
      }

  pub selection-kept : (selected : ℕ) → selected ≤ 15 → InRange (with_selection selected c)
  selection-kept selected k =
      record {
        clocks = h.clocks;
        internal = h.internal;
        cycles = h.cycles;
        accumulator = h.accumulator;
        variant = h.variant;
        voice = h.voice;
        selected = k;
        queue = h.queue;
      }

  pub times-kept : (stamp start : ℕ) → InRange (with_times stamp start c)
  times-kept stamp start =
      record {
        clocks = h.clocks;
        internal = h.internal;
        cycles = h.cycles;
        accumulator = h.accumulator;
        variant = h.variant;
        voice = h.voice;
        selected = h.selected;
        queue = h.queue;
      }

  pub channels-kept : (channels : Channels) → InRange (with_channels channels c)
  channels-kept channels =
      record {
        clocks = h.clocks;
        internal = h.internal;
        cycles = h.cycles;
        accumulator = h.accumulator;
        variant = h.variant;
        voice = h.voice;
        selected = h.selected;
        queue = h.queue;
      }

-- an answer chosen by a test
pub chosen-kept : (t : Bool) (a b : Answered) → InRange a.chip → InRange b.chip → InRange (cond t a b).chip
chosen-kept t a b k l = by_cond (λ (x : Answered). InRange x.chip) t a b (λ _. k) (λ _. l)
