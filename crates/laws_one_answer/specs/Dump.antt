-- The calls of the dump player are settled, what they leave in lent buffers included (`Settled`). Assumes nothing.
use Rattle.text_fields.specs.contracts.decimal
use Rattle.text_fields.specs.contracts.decimal_up_to
use Rattle.text_fields.specs.contracts.leading_zero
use Rattle.text_fields.specs.contracts.all_hex
use Rattle.text_fields.specs.contracts.hex_byte
use Rattle.text_lines.specs.contracts.line_at
use Rattle.text_lines.specs.contracts.value_at
use Rattle.dump_reader.specs.contracts.reader
use Rattle.dump_reader.specs.contracts.next_line
use Rattle.dump_reader.specs.contracts.first_lines
use Rattle.dump_clocks.specs.contracts.at_line
use Rattle.dump_clocks.specs.contracts.clock_lines
use Rattle.dump_body.specs.contracts.frames_read
use Rattle.dump.specs.contracts.check
use Rattle.dump.specs.contracts.VerdictFromResultDumpLineRefused.from as verdict
use Rattle.dump_lines.specs.contracts.is_frame
use Rattle.text_entries.specs.contracts.line_entry_at
use Rattle.dump_lines.specs.contracts.master_line
use Rattle.dump_lines.specs.contracts.rate_line
use Rattle.dump_lines.specs.contracts.words_line
use Rattle.dump_lines.specs.contracts.frames_line
use Rattle.dump_lines.specs.contracts.frame_at
use Rattle.dump_writes.specs.contracts.restarts
use Rattle.dump_writes.specs.contracts.write_frame
use Rattle.dump_frames.specs.contracts.load_frame
use Rattle.dump_frames.specs.contracts.play_frame
use Rattle.text_put.specs.contracts.put_bytes
use Rattle.text_put.specs.contracts.put_number
use Rattle.text_put.specs.contracts.put_decimal
use Rattle.text_put.specs.contracts.put_hex
use Rattle.dump_words.specs.contracts.put_words
use Rattle.dump_output.specs.contracts.put_first_line
use Rattle.dump_progress.specs.contracts.first_line_given
use Rattle.dump_progress.specs.contracts.frame_due
use Rattle.dump_progress.specs.contracts.frame_begins
use Rattle.dump_progress.specs.contracts.words_for
use Rattle.dump_progress.specs.contracts.words_in
use Rattle.dump_progress.specs.contracts.words_given
use Rattle.dump_player.specs.contracts.start
use Rattle.dump_player.specs.contracts.next_piece
use Rattle.dump_input.specs.contracts.room
use Rattle.laws_one_answer.specs.Settled.{Settles, SettlesAs}

pub record Played : Type 2 where
  pub decimal : Settles decimal.ended (λ M 𝓤. decimal.clauses)
  pub decimal_up_to : Settles decimal_up_to.ended (λ M 𝓤. decimal_up_to.clauses)
  pub leading_zero : Settles leading_zero.ended (λ M 𝓤. leading_zero.clauses)
  pub all_hex : Settles all_hex.ended (λ M 𝓤. all_hex.clauses)
  pub hex_byte : Settles hex_byte.ended (λ M 𝓤. hex_byte.clauses)
  pub line_at : Settles line_at.ended (λ M 𝓤. line_at.clauses)
  -- a part of the caller's text: its bytes are settled; where they lie, no promise says
  pub value_at : SettlesAs value_at.ended (λ M 𝓤. value_at.clauses) (λ h x. x.0.now)
  pub reader : Settles reader.ended (λ M 𝓤. reader.clauses)
  pub next_line : Settles next_line.ended (λ M 𝓤. next_line.clauses)
  pub first_lines : Settles first_lines.ended (λ M 𝓤. first_lines.clauses)
  -- what is read of a line may itself be lent: the answer is settled
  pub at_line : (g : _) → SettlesAs (at_line.ended g) (λ M 𝓤. at_line.clauses g) (λ h x. x.0)
  pub clock_lines : Settles clock_lines.ended (λ M 𝓤. clock_lines.clauses)
  pub frames_read : Settles frames_read.ended (λ M 𝓤. frames_read.clauses)
  pub check : Settles check.ended (λ M 𝓤. check.clauses)
  pub verdict : Settles verdict.ended (λ M 𝓤. verdict.clauses)
  pub is_frame : Settles is_frame.ended (λ M 𝓤. is_frame.clauses)
  pub line_entry_at : Settles line_entry_at.ended (λ M 𝓤. line_entry_at.clauses)
  pub master_line : Settles master_line.ended (λ M 𝓤. master_line.clauses)
  pub rate_line : Settles rate_line.ended (λ M 𝓤. rate_line.clauses)
  pub words_line : Settles words_line.ended (λ M 𝓤. words_line.clauses)
  pub frames_line : Settles frames_line.ended (λ M 𝓤. frames_line.clauses)
  pub frame_at : Settles frame_at.ended (λ M 𝓤. frame_at.clauses)
  pub restarts : Settles restarts.ended (λ M 𝓤. restarts.clauses)
  pub write_frame : Settles write_frame.ended (λ M 𝓤. write_frame.clauses)
  pub load_frame : Settles load_frame.ended (λ M 𝓤. load_frame.clauses)
  pub play_frame : Settles play_frame.ended (λ M 𝓤. play_frame.clauses)
  pub put_bytes : Settles put_bytes.ended (λ M 𝓤. put_bytes.clauses)
  pub put_number : Settles put_number.ended (λ M 𝓤. put_number.clauses)
  pub put_decimal : Settles put_decimal.ended (λ M 𝓤. put_decimal.clauses)
  pub put_hex : Settles put_hex.ended (λ M 𝓤. put_hex.clauses)
  pub put_words : Settles put_words.ended (λ M 𝓤. put_words.clauses)
  pub put_first_line : Settles put_first_line.ended (λ M 𝓤. put_first_line.clauses)
  pub first_line_given : Settles first_line_given.ended (λ M 𝓤. first_line_given.clauses)
  pub frame_due : Settles frame_due.ended (λ M 𝓤. frame_due.clauses)
  pub frame_begins : Settles frame_begins.ended (λ M 𝓤. frame_begins.clauses)
  pub words_in : Settles words_in.ended (λ M 𝓤. words_in.clauses)
  pub words_for : Settles words_for.ended (λ M 𝓤. words_for.clauses)
  pub words_given : Settles words_given.ended (λ M 𝓤. words_given.clauses)
  pub start : Settles start.ended (λ M 𝓤. start.clauses)
  pub next_piece : Settles next_piece.ended (λ M 𝓤. next_piece.clauses)
  pub room : Settles room.ended (λ M 𝓤. room.clauses)
