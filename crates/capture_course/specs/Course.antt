-- The course of a capture. 02, request 01: "Before each word, the writes stamped at or before its end are passed to the ports in file
-- order with their stamps." Assumes nothing.
use Rattle.std.specs.Prelude.{cond, List, [], ◌∷◌, ℕ, zero, suc, eqb}
use Rattle.refusals.specs.Numbers.{accepted}
use Rattle.chip.specs.declared.Chip.{Chip}
use Rattle.clocking_word.specs.Word.{end_of, word_of}
use Rattle.clocking_block.specs.Block.{after_one}
use Rattle.bus.specs.Passing.{pass_write}
use Rattle.bus_writes.specs.Due.{is_due}
use Rattle.bus_writes.specs.declared.BusWrite.{BusWrite}

-- What passing leaves: the chip, the writes that are yet to be passed, and the number that stopped it, 0 where none did.
pub record Passed : Type 0 where
  pub chip : Chip
  pub rest : List BusWrite
  pub no : ℕ

-- The writes stamped at or before `end`, in file order: the first later one stops it, and so does one that the port refuses.
unfoldable pub pass_due : ℕ → List BusWrite → Chip → Passed
pass_due end [] c = record { chip = c; rest = []; no = accepted }
pass_due end (w ∷ ws) c =
    let p = pass_write w c in
    let more = pass_due end ws p.chip in
    cond (is_due end w) (cond (eqb p.no accepted) more (record { chip = c; rest = w ∷ ws; no = p.no }))
    (record { chip = c; rest = w ∷ ws; no = accepted })

-- The words, then the writes that are left and the number of the one that was refused (0: all words were rendered).
pub record Course : Type 0 where
  pub words : List ℕ
  pub rest : List BusWrite
  pub no : ℕ
  pub chip : Chip

abbrev pub and_then : ℕ → Course → Course
and_then word more = record { words = word ∷ more.words; rest = more.rest; no = more.no; chip = more.chip }

-- n words: before each the writes due by its end are passed, then it is rendered.
unfoldable pub course : ℕ → List BusWrite → Chip → Course
course zero ws c = record { words = []; rest = ws; no = accepted; chip = c }
course (suc n) ws c =
    let p = pass_due (end_of c.core) ws c in
    let word = (word_of p.chip.core p.chip.queue).word in
    let more = course n p.rest (after_one p.chip) in
    cond (eqb p.no accepted) (and_then word more)
    (record { words = []; rest = p.rest; no = p.no; chip = p.chip })
