-- Worked histories, computed from the definitions: the demand is not empty, and 01's figures come out. Assumes nothing.
use mathlib.Core.Bool.{true}
use mathlib.Core.List.{List, [], ◌∷◌, ◌++◌, map}
use mathlib.Core.Path.{◌≡◌, refl}
use Prim.Native.Nat.{ℕ}
use lib.IntN.{negsuc}
use lib.ListN.{length}
use Rattle.envelope_shapes.specs.Shapes.{shape_entry, envelope_entry}
use Rattle.tone.specs.Tone.{tone_set, tone_step, tone_tick}
use Rattle.noise.specs.Noise.{register_step, output_by, noise_tick}
use Rattle.envelope.specs.Envelope.{next_position, envelope_tick, row_place, envelope_level}
use Rattle.generators.specs.Generators.{tick, edges_of, tone_at, put_tone, tones_set}
use Rattle.power_on.specs.Seed.{seeded, power_on_edges}
use Rattle.generators.specs.Reset.{generators_reset}
use Rattle.gates.specs.Gates.{gates_from, gate_of}
use Rattle.channel.specs.Channel.{heard, sounded}
use Rattle.levels.specs.Levels.{fixed_level, envelope_used, level_used, gated_level, loudness_of}
use Rattle.mixer.specs.Mix.{mixed}
use Rattle.registers.specs.Registers.{pair_at, tone_period_set, noise_period_set, gates_set, envelope_period_set, shape_set, voice_set, masked, apply_register}
use Rattle.all_registers.specs.Reset.{voice_reset}
use Rattle.queue.specs.Waiting.{writes_from, waiting, due, late, push, queue_in}
use Rattle.registers.specs.Writes.{applied_in_order}
use Rattle.queue_flush.specs.Applied.{register_writes}
use Rattle.queue_drain.specs.Drain.{drain}
use Rattle.clocking_ticks.specs.Ticks.{ticking, ticked}
use Rattle.clocking_word.specs.Word.{drained, ran_of, mixed_of, word_of}
use Rattle.clocking_block.specs.Block.{after_words, ticks_of}
use Rattle.clocks.specs.Clocks.{accept_clocks, clocks_no}
use Rattle.voice_range.specs.Range.{bytes_in, tone_in, all_or_none, noise_in, envelope_in, generators_in, gates_in, voice_in}
use Rattle.chip.specs.declared.Chip.{Chip}
use Rattle.chip.specs.Range.{clocks_in, core_in, chip_in}
use Rattle.variants.specs.Variants.{variant_in}
use Rattle.calls_making.specs.Making.{made_of, with_clocks, reset_of, reset_call}
use Rattle.calls_ports.specs.Ports.{write_port}
use Rattle.calls_cycles.specs.Cycles.{set_cpu_cycle, sync_sample_cycle, flush_pending_writes}
use Rattle.calls_words.specs.Blocks.{blocked, sampled}
use Rattle.block_limits.specs.Limits.{accept_block, block_number}
use Rattle.laws_promises.specs.History.{Call, write-port, set-cpu-cycle, sync-sample-cycle, flush-pending-writes, reset, compute-next-sample, block, answers, after, Entry, entries, empty_ledger, enters, entered, ledger}
use Rattle.laws_promises.specs.Demand.{position_of, reach, Holds}
use Rattle.laws_promises.proofs.Demand.{clocks-demand}

-- the chip that they begin on
abbrev at44100 : Chip
at44100 = (with_clocks 2000000 44100).chip

abbrev words : List Call → List Entry
words calls = (ledger calls at44100 empty_ledger).words

-- each word's end, and how many writes it applies
abbrev served : List Call → List (ℕ × ℕ)
served calls = map (λ (w : Entry). (w.end, length w.applied)) (words calls)

abbrev three-words : List Call
three-words = block (0 ∷ 0 ∷ 0 ∷ []) ∷ []

abbrev four-words : List Call
four-words = block (0 ∷ 0 ∷ 0 ∷ 0 ∷ []) ∷ []

-- 01: "Stamps 500 then 100, default clocks: both applied by the third word (end 543)." By 02's request 07 a case with 44,100 named.
abbrev late-then-early : List Call
late-then-early = set-cpu-cycle 500 ∷ write-port 2 1 ∷ set-cpu-cycle 100 ∷ write-port 2 2 ∷ []

-- the demand at this history
pub held : Holds 2000000 44100 0 (after late-then-early at44100) (ledger late-then-early at44100 empty_ledger)
unfolding clocks_no accept_clocks
held = clocks-demand 2000000 44100 refl late-then-early

pub cases : (map (λ (w : Entry). w.ticks) (words four-words) ≡ 6 ∷ 6 ∷ 6 ∷ 5 ∷ []) × ((after four-words at44100).core.accumulator ≡ 14300)
    × (served (late-then-early ++ three-words) ≡ (181, 0) ∷ (362, 0) ∷ (543, 2) ∷ [])
    × (served (late-then-early ++ compute-next-sample ∷ sync-sample-cycle 0 ∷ compute-next-sample ∷ sync-sample-cycle 400 ∷ compute-next-sample ∷ [])
    ≡ (181, 0) ∷ (181, 0) ∷ (581, 2) ∷ [])
    × (reach 1 (waiting (after late-then-early at44100).queue) ≡ 500)
    × (length (ledger (late-then-early ++ flush-pending-writes ∷ []) at44100 empty_ledger).applied ≡ 2)
    × ((ledger (late-then-early ++ reset ∷ compute-next-sample ∷ []) at44100 empty_ledger).accepted ≡ [])
    × ((ledger (write-port 0 13 ∷ write-port 2 8 ∷ three-words) at44100 empty_ledger).restarted ≡ true)
    × (position_of (after (write-port 0 13 ∷ write-port 2 8 ∷ four-words) at44100) ≡ negsuc 40)
unfolding shape_entry envelope_entry tone_set tone_step tone_tick register_step output_by noise_tick next_position envelope_tick row_place envelope_level tick edges_of tone_at put_tone tones_set seeded power_on_edges generators_reset gates_from gate_of heard sounded fixed_level envelope_used level_used gated_level loudness_of mixed pair_at tone_period_set noise_period_set gates_set envelope_period_set shape_set voice_set masked apply_register voice_reset writes_from waiting due late applied_in_order register_writes push drain queue_in ticking ticked drained ran_of mixed_of word_of after_words ticks_of clocks_no accept_clocks clocks_in bytes_in tone_in all_or_none noise_in envelope_in generators_in gates_in voice_in variant_in core_in chip_in made_of with_clocks reset_of reset_call write_port set_cpu_cycle sync_sample_cycle flush_pending_writes block_number accept_block blocked sampled answers after entries enters entered ledger reach
cases = (refl, refl, refl, refl, refl, refl, refl, refl, refl)
