-- One word is what its step leaves of a chip's parts, and the step's answer. Assumes nothing.
use mathlib.Core.Bool.{Bool, true, false, cond}
use mathlib.Core.List.{List, [], ◌∷◌, ◌++◌, append-nil}
use mathlib.Core.Path.{◌≡◌, refl, sym, ap₂}
use Prim.Native.Nat.{ℕ, ◌+◌}
use native.Mathlib.Omega.{arith}
use lib.Dec.{eqb}
use lib.ListN.{get_or}
use Rattle.refusals.specs.Numbers.{accepted, out_of_range}
use Rattle.registers.specs.Writes.{RegisterWrite}
use Rattle.write_effects.specs.Effects.{changes_in, restarts_in}
use Rattle.queue.specs.declared.Write.{Write}
use Rattle.queue_flush.specs.Applied.{register_writes}
use Rattle.queue_drain.specs.Drain.{drain}
use Rattle.chip.specs.declared.Chip.{Chip}
use Rattle.chip.specs.Range.{chip_in}
use Rattle.answers.specs.Reports.{bytes_of}
use Rattle.answers.specs.declared.Blocked.{Blocked}
use Rattle.answers.specs.declared.Sampled.{Sampled}
use Rattle.clocking_word.specs.Word.{Word, applied_by, drained, ran_of, word_of}
use Rattle.clocking_block.specs.Block.{after_words, applied_of, ticks_of, words_of}
use Rattle.steps_words.specs.declared.WordStep.{WordStep}
use Rattle.steps_words.specs.WordSteps.{played_word, refused_word, word_step, writes_of}
use Rattle.steps_words.proofs.Playable.{parts}
use Rattle.calls_words.specs.Blocks.{block_no, block_refused, blocked, block_buffer, sampled}

-- a chip with the parts that a word changes
abbrev pub stored : WordStep → Chip → Chip
stored w c =
    record {
      core = record {
        clocks = c.core.clocks;
        voice = w.voice;
        channels = w.channels;
        selected = c.core.selected;
        variant = c.core.variant;
        accumulator = w.accumulator;
        stamp = c.core.stamp;
        start = w.start;
      };
      queue = record { stamps = c.queue.stamps; registers = c.queue.registers; values = c.queue.values; head = w.head; count = w.count };
    }

abbrev pub sampled_by : WordStep → Chip → Sampled
sampled_by w c = record { chip = stored w c; answer = w.answer }

-- the word's step, and the block of one with its list of writes, by their cases
abbrev played : Word → Chip → WordStep
played w c = played_word (writes_of (parts c)) (bytes_of c) w

abbrev block_by : Bool → Bool → Word → List RegisterWrite → ℕ → Chip → Blocked
block_by ok soon w writes n c =
    cond ok
    (cond soon
    (record {
      chip = stored (played w c) c;
      answer = record { no = accepted; words = 1; ticks = w.ticks + 0; changed = changes_in writes (bytes_of c); restarted = restarts_in writes };
    })
    (block_refused n c))
    (block_refused out_of_range c)

abbrev buffer_by : Bool → Bool → Word → List ℕ
buffer_by ok soon w = cond ok (cond soon (w.word ∷ []) (0 ∷ [])) (0 ∷ [])

abbrev sample_by : Blocked → List ℕ → Sampled
sample_by b out = record { chip = b.chip; answer = record { no = b.answer.no; word = get_or out 0 0; ticks = b.answer.ticks; changed = b.answer.changed; restarted = b.answer.restarted } }

plain : (t : ℕ) → t ≡ t + 0
plain t = omega arith

by_cases : (c : Chip) (w : Word) (ok soon : Bool) (n : ℕ)
    → sampled_by (cond ok (cond soon (played w c) (refused_word n (parts c))) (refused_word out_of_range (parts c))) c ≡ sample_by (block_by ok soon w (register_writes (applied_by c.core c.queue ++ [])) n c) (buffer_by ok soon w)
by_cases c w true true n =
    ap₂ (λ (t : ℕ) (l : List Write). record {
      chip = stored (played w c) c;
      answer = record { no = accepted; word = w.word; ticks = t; changed = changes_in (register_writes l) (bytes_of c); restarted = restarts_in (register_writes l) };
    }) (plain w.ticks) (sym (append-nil (applied_by c.core c.queue)))
by_cases c w true false n = refl
by_cases c w false soon n = refl

pub sampled-by : (c : Chip) → sampled_by (word_step (chip_in c) (parts c)) c ≡ sampled c
unfolding sampled blocked block_buffer after_words applied_of ticks_of words_of word_of drained drain ran_of word_step
sampled-by c = by_cases c (word_of (parts c).core c.queue) (chip_in c) (eqb (block_no 1 c) accepted) (block_no 1 c)
