-- The cases that 01 marks P, in 01's order. 01, "Benchmarks for the bench rules". Assumes nothing.
use Rattle.std.specs.Prelude.{[], ◌∷◌, map, ◌≡◌, pos}
use Rattle.envelope_shapes.specs.Shapes.{offset_of, envelope_entry}
use Rattle.envelope.specs.Envelope.{row_place, envelope_level}
use Rattle.generators.specs.Generators.{edges_of}
use Rattle.power_on.specs.Seed.{seeded, power_on_edges}
use Rattle.drums.specs.Drums.{float, drum_out}
use Rattle.answers.specs.Answers.{answered, byte_answer}
use Rattle.calls_making.specs.Making.{fresh, with_clocks}
use Rattle.calls_registers.specs.Stored.{read_register}
use Rattle.calls_words.specs.Blocks.{blocked, sampled}
use Rattle.text_lines.specs.Bytes.{bytes}
use Rattle.dump_played.specs.Whole.{printed}
use Rattle.laws_bench_rules.specs.Setups.{noise_after, envelope_after, ticks_after, at44100, shape8, drum_alone, reset_after31}

pub record Table : Type 0 where
  -- P seed 41, edges 0x3ff.
  pub seed : seeded 1 ≡ 41
  pub edges : (power_on_edges ≡ 0x3ff) × (edges_of fresh.core.voice.generators ≡ 0x3ff)
  -- P noise 1, 0x12000, 0x9000. A fresh chip's noise steps at ticks 1, 3, 5 and so on.
  pub noise : map (λ n. noise_after n fresh) (0 ∷ 1 ∷ 2 ∷ 3 ∷ []) ≡ 1 ∷ 0x12000 ∷ 0x12000 ∷ 0x9000 ∷ []
  -- P default clocks: words take 6, 6, 6, 5 ticks; accumulator then 14,300. By 02's request 07 a case with 44,100 named.
  pub ticks : map (λ n. ticks_after n at44100) (0 ∷ 1 ∷ 2 ∷ 3 ∷ []) ≡ 6 ∷ 6 ∷ 6 ∷ 5 ∷ []
  pub accumulator : (blocked 4 at44100).chip.core.accumulator ≡ 14300
  -- P fresh chip: first word 75.
  pub first_word : (sampled fresh).answer ≡ record { no = 0; word = 75; ticks = 1; changed = 0; restarted = 0 }
  -- P the dump above.
  pub dump :
      printed (bytes "master=2000000\nrate=250000\nwords=4\nframes=1\nregs=020000000000003e0f0000000000\n")
      ≡ bytes "words=4\n9234\n100\n100\n9234\n"
  -- No case of 01's, but of 02's request 02: a fall of the envelope goes on through R13 of ff, and the same byte 00 again restarts it.
  pub ripped-dump :
      printed (bytes "master=2000000\nrate=250000\nwords=2\nframes=3\nregs=000000000000003f100000010000\nregs=000000000000003f1000000100ff\nregs=000000000000003f100000010000\n")
      ≡ bytes "words=6\n4642\n3911\n3297\n2780\n4642\n3911\n"
  -- P rate 250,000 at 2,000,000 accepted, 250,001 gives 3. A refusal leaves a fresh default chip.
  pub rate-250000 : (with_clocks 2000000 250000).no ≡ 0
  pub rate-250001 : with_clocks 2000000 250001 ≡ answered 3 fresh
  -- P master 1,073,741,824 with rate 0 gives 1.
  pub master-1073741824 : with_clocks 1073741824 0 ≡ answered 1 fresh
  -- P master 7, rate 1 gives 3.
  pub master-7 : with_clocks 7 1 ≡ answered 3 fresh
  -- P shape 8: position 63 is 0, then position 0 is 31. The entries, and a chip's envelope 127 and 128 ticks after R13 = 8.
  pub shape-8 : (envelope_entry (offset_of 8) (row_place (pos 63)) ≡ 0) × (envelope_entry (offset_of 8) (row_place (pos 0)) ≡ 31)
  pub position-63 : ((envelope_after 127 shape8).position ≡ pos 63) × (envelope_level (envelope_after 127 shape8) ≡ 0)
  pub position-0 : ((envelope_after 128 shape8).position ≡ pos 0) × (envelope_level (envelope_after 128 shape8) ≡ 31)
  -- P drum 1.0 gives 2730.
  pub drum-1 : (drum_out (float 1) ≡ 2730) × ((sampled (drum_alone (float 1))).answer.word ≡ 2730)
  -- P drum 8.0 gives 10922.
  pub drum-8 : (drum_out (float 8) ≡ 10922) × ((sampled (drum_alone (float 8))).answer.word ≡ 10922)
  -- P R6 = 31, reset: R6 reads 0, first noise step at tick 61.
  pub r6 : read_register 6 reset_after31 ≡ byte_answer 0 0
  pub tick-60 : noise_after 60 reset_after31 ≡ 1
  pub tick-61 : noise_after 61 reset_after31 ≡ 0x12000
