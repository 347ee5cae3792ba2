-- What calls report of the register writes that they apply, claim by claim. 02, request 03. Nothing here is proved; `reports : Reports` is,
-- in `proofs/Reports.antt`. Assumes nothing.
use Rattle.std.specs.Prelude.{Bool, true, false, List, [], ◌∷◌, ◌≡◌, ℕ, zero, suc, ◌+◌, ◌≤◌, ◌<◌, get_or, length}
use Rattle.refusals.specs.Numbers.{accepted}
use Rattle.registers.specs.Writes.{RegisterWrite}
use Rattle.write_effects.specs.Effects.{changes_in, differences, one, restarts_in}
use Rattle.chip.specs.declared.Chip.{Chip}
use Rattle.chip.specs.Range.{chip_in}
use Rattle.chip_parts.specs.Parts.{voice_of}
use Rattle.clocking_block.specs.Block.{applied_of}
use Rattle.answers.specs.Answers.{answered}
use Rattle.answers.specs.Reports.{bytes_of, counts}
use Rattle.answers.specs.declared.Answered.{Answered}
use Rattle.answers.specs.declared.Applied.{Applied}
use Rattle.answers.specs.declared.Counts.{Counts}
use Rattle.answers.specs.declared.Written.{Written}
use Rattle.answers.specs.declared.Wrote.{Wrote}
use Rattle.calls_registers.specs.Stored.{load_registers, loaded_registers, write_register, wrote_register}
use Rattle.calls_ports.specs.Ports.{write_port_immediate, wrote_port_immediate}
use Rattle.calls_cycles.specs.Cycles.{flush_pending_writes, flushed_pending_writes, pending_write_count}
use Rattle.calls_words.specs.Blocks.{blocked, sampled}
use Rattle.dump_writes.specs.Shape.{Untouched, Restarted}
use Rattle.laws_histories.specs.Histories.{OfItsType}

-- A call of one write, to a register of the chip c: `plain` is what it does by 01, and w what it does and reports.
pub record OneWrite (c : Chip) (register : ℕ) (plain : Answered) (w : Written) : Type 0 where
  -- "Words and state are as before", and so is the number.
  pub as_before : answered w.answer.no w.chip ≡ plain
  -- "A refused call reports 0 and 0": no and no.
  pub refused : (w.answer.no ≡ accepted → ⊥) → (w.answer.changed ≡ false) × (w.answer.restarted ≡ false)
  -- "whether the stored byte changed": if not, all fourteen are as before; if so, the register's is another.
  pub unchanged : w.answer.changed ≡ false → bytes_of w.chip ≡ bytes_of c
  pub changed : w.answer.changed ≡ true → get_or (bytes_of w.chip) register 0 ≡ get_or (bytes_of c) register 0 → ⊥
  -- "whether the envelope restarted": if not, its position, counter and shape are as before; if so, it is at -64 with counter 0.
  pub runs_on : w.answer.restarted ≡ false → Untouched (voice_of c) (voice_of w.chip)
  pub restarted : w.answer.restarted ≡ true → Restarted (voice_of w.chip)

-- A call of `most` writes or fewer: it finds the chip c, leaves d and reports a.
pub record Counted (c d : Chip) (most : ℕ) (a : Counts) : Type 0 where
  pub refused : (a.no ≡ accepted → ⊥) → (a.changed ≡ 0) × (a.restarted ≡ 0)
  pub few-changed : a.changed ≤ most
  pub few-restarted : a.restarted ≤ most
  -- If none changed a byte, all fourteen are as before. (If some did they may be so too: 5, 6, 5.)
  pub unchanged : a.changed ≡ 0 → bytes_of d ≡ bytes_of c

-- A call that runs no tick: the rest as of one write. After a list's last restart no write moves the envelope.
pub record Listed (c : Chip) (most : ℕ) (plain : Answered) (w : Applied) : Type 0 where
  pub as_before : answered w.answer.no w.chip ≡ plain
  pub counted : Counted c w.chip most w.answer
  pub runs_on : w.answer.restarted ≡ 0 → Untouched (voice_of c) (voice_of w.chip)
  pub restarted : 0 < w.answer.restarted → Restarted (voice_of w.chip)

-- The reports of `write_register` that say yes, one write after the other.
abbrev pub reported : (Wrote → Bool) → List RegisterWrite → Chip → ℕ
reported said [] c = 0
reported said (write ∷ writes) c =
    let w = wrote_register write.register write.value c in
    one (said w.answer) + reported said writes w.chip

-- Counts over a list are those yeses.
pub record OneByOne (writes : List RegisterWrite) (c : Chip) : Type 0 where
  pub changed : changes_in writes (bytes_of c) ≡ reported (λ a. a.changed) writes c
  pub restarted : restarts_in writes ≡ reported (λ a. a.restarted) writes c

-- What a word and a block report, as counts.
abbrev pub of_word : Chip → Counts
of_word c = let a = (sampled c).answer in counts a.no a.changed a.restarted

abbrev pub of_block : ℕ → Chip → Counts
of_block n c = let a = (blocked n c).answer in counts a.no a.changed a.restarted

-- how many writes wait, by `pending_write_count`
abbrev pub waits : Chip → ℕ
waits c = (pending_write_count c).count

-- n calls for a word each, one after the other; and the sum of a number for each of n
abbrev pub after_samples : ℕ → Chip → Chip
after_samples zero c = c
after_samples (suc n) c = (sampled (after_samples n c)).chip

abbrev pub sum : ℕ → (ℕ → ℕ) → ℕ
sum zero number = 0
sum (suc n) number = sum n number + number n

-- A block is its words, each accepted, and its counts are the sums of theirs.
pub record WordByWord (n : ℕ) (c : Chip) : Type 0 where
  pub each : (i : ℕ) → i < n → (of_word (after_samples i c)).no ≡ accepted
  pub chip : (blocked n c).chip ≡ after_samples n c
  pub changed : (of_block n c).changed ≡ sum n (λ i. (of_word (after_samples i c)).changed)
  pub restarted : (of_block n c).restarted ≡ sum n (λ i. (of_word (after_samples i c)).restarted)

-- A block is a block of its first m words, and one of the n others on the chip that those leave.
pub record InTwo (m n : ℕ) (c : Chip) : Type 0 where
  pub first : (of_block m c).no ≡ accepted
  pub second : (of_block n (blocked m c).chip).no ≡ accepted
  pub chip : (blocked (m + n) c).chip ≡ (blocked n (blocked m c).chip).chip
  pub changed : (of_block (m + n) c).changed ≡ (of_block m c).changed + (of_block n (blocked m c).chip).changed
  pub restarted : (of_block (m + n) c).restarted ≡ (of_block m c).restarted + (of_block n (blocked m c).chip).restarted

pub record Reports : Type 0 where
  pub write-register : (register value : ℕ) (c : Chip) → OneWrite c register (write_register register value c) (wrote_register register value c)
  pub write-port-immediate : (port value : ℕ) (c : Chip)
      → OneWrite c c.core.selected (write_port_immediate port value c) (wrote_port_immediate port value c)
  -- A load is fourteen writes. Accepted, it restarts the envelope once. It writes no register twice, so it counts the places, of 14 from
  -- R0 on, at which the bytes differ before and after.
  pub load-registers : (bytes : List ℕ) (c : Chip) → Listed c 14 (load_registers bytes c) (loaded_registers bytes c)
  pub load-restarts : (bytes : List ℕ) (c : Chip) → (load_registers bytes c).no ≡ accepted → (loaded_registers bytes c).answer.restarted ≡ 1
  pub load-changes : (bytes : List ℕ) (c : Chip)
      → (loaded_registers bytes c).answer.changed ≡ differences 14 0 (bytes_of c) (bytes_of (loaded_registers bytes c).chip)
  -- A flush, a word and a block count at most as many as wait; a block no more than its words apply.
  pub flush : (c : Chip) → Listed c (waits c) (flush_pending_writes c) (flushed_pending_writes c)
  pub word : (c : Chip) → Counted c (sampled c).chip (waits c) (of_word c)
  pub block : (n : ℕ) (c : Chip) → Counted c (blocked n c).chip (waits c) (of_block n c)
  pub block-applies : (n : ℕ) (c : Chip) → Counted c (blocked n c).chip (length (applied_of n c)) (of_block n c)
  -- Of every record of its type that passes the test: writes one by one, and an accepted block word by word and in two.
  pub one_by_one : (writes : List RegisterWrite) (c : Chip) → OfItsType c → chip_in c ≡ true → OneByOne writes c
  pub one_word : (c : Chip) → of_word c ≡ of_block 1 c
  pub words : (n : ℕ) (c : Chip) → OfItsType c → (of_block n c).no ≡ accepted → WordByWord n c
  pub in_two : (m n : ℕ) (c : Chip) → OfItsType c → (of_block (m + n) c).no ≡ accepted → InTwo m n c
