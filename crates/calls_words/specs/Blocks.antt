-- One word, and a block. 01, "Numbers a call can answer" and "One tick, one word". Assumes nothing.
use Rattle.std.specs.Prelude.{ℕ, eqb, get_or, length, cond, List, [], ◌∷◌}
use Rattle.write_effects.specs.Effects.{changes_in, restarts_in}
use Rattle.queue_flush.specs.Applied.{register_writes}
use Rattle.answers.specs.Reports.{bytes_of}
use Rattle.answers.specs.declared.Blocked.{Blocked}
use Rattle.answers.specs.declared.Sampled.{Sampled}
use Rattle.block_limits.specs.Limits.{block_number}
use Rattle.clocking_block.specs.Block.{after_words, applied_of, ticks_of, words_of}
use Rattle.chip.specs.declared.Chip.{Chip}
use Rattle.chip.specs.Range.{chip_in}
use Rattle.refusals.specs.Numbers.{accepted, out_of_range}

abbrev pub block_no : ℕ → Chip → ℕ
block_no n c = block_number n c.core.start c.core.clocks.cycles

-- nothing changes: 0 words, 0 ticks, 0 and 0
abbrev pub block_refused : ℕ → Chip → Blocked
block_refused number c = record { chip = c; answer = record { no = number; words = 0; ticks = 0; changed = 0; restarted = 0 } }

-- A block of n words answers the words and the ticks run, and counts over the writes that its words apply (02, request 03).
abbrev pub block_played : ℕ → Chip → Blocked
block_played n c =
    let writes = register_writes (applied_of n c) in
    record {
      chip = after_words n c;
      answer = record {
        no = accepted;
        words = n;
        ticks = ticks_of n c;
        changed = changes_in writes (bytes_of c);
        restarted = restarts_in writes;
      };
    }

unfoldable pub blocked : ℕ → Chip → Blocked
blocked n c =
    cond (chip_in c) (cond (eqb (block_no n c) accepted) (block_played n c) (block_refused (block_no n c) c))
    (block_refused out_of_range c)

-- It fills the lent buffer, or leaves every word of it.
unfoldable pub block_buffer : List ℕ → Chip → List ℕ
block_buffer out c = cond (chip_in c) (cond (eqb (block_no (length out) c) accepted) (words_of (length out) c) out) out

-- One word is a block of one; refused, its word is 0.
unfoldable pub sampled : Chip → Sampled
sampled c =
    let b = blocked 1 c in
    record {
      chip = b.chip;
      answer = record {
        no = b.answer.no;
        word = get_or (block_buffer (0 ∷ []) c) 0 0;
        ticks = b.answer.ticks;
        changed = b.answer.changed;
        restarted = b.answer.restarted;
      };
    }
