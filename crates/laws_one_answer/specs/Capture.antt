-- The calls of the player of captures are settled, what they leave in lent buffers included (`Settled`). Assumes nothing.
use Rattle.text_stamps.specs.contracts.long_decimal
use Rattle.text_entries.specs.contracts.long_entry_at
use Rattle.text_entries.specs.contracts.byte_entry_at
use Rattle.capture_lines.specs.contracts.writes_line
use Rattle.capture_lines.specs.contracts.words_line
use Rattle.capture_lines.specs.contracts.stamp_line
use Rattle.capture_lines.specs.contracts.port_line
use Rattle.capture_lines.specs.contracts.value_line
use Rattle.capture_writes.specs.contracts.write_at
use Rattle.capture_body.specs.contracts.writes_read
use Rattle.capture.specs.contracts.check
use Rattle.capture.specs.contracts.CapturedFromResultCaptureLineRefused.from as captured
use Rattle.bus_writes.specs.contracts.is_due
use Rattle.bus_writes.specs.contracts.words_before
use Rattle.bus.specs.contracts.pass_write
use Rattle.capture_passing.specs.contracts.pass_due
use Rattle.capture_passing.specs.contracts.free_words
use Rattle.output_lines.specs.contracts.put_refusal
use Rattle.output_lines.specs.contracts.put_total
use Rattle.output_lines.specs.contracts.put_left
use Rattle.capture_output.specs.contracts.put_first_line
use Rattle.capture_output.specs.contracts.put_last_line
use Rattle.capture_steps.specs.contracts.start
use Rattle.capture_steps.specs.contracts.step
use Rattle.capture_player.specs.contracts.next_piece
use Rattle.laws_one_answer.specs.Settled.{Settles}

pub record Captures : Type 2 where
  pub long_decimal : Settles long_decimal.ended (λ M 𝓤. long_decimal.clauses)
  pub long_entry_at : Settles long_entry_at.ended (λ M 𝓤. long_entry_at.clauses)
  pub byte_entry_at : Settles byte_entry_at.ended (λ M 𝓤. byte_entry_at.clauses)
  pub writes_line : Settles writes_line.ended (λ M 𝓤. writes_line.clauses)
  pub words_line : Settles words_line.ended (λ M 𝓤. words_line.clauses)
  pub stamp_line : Settles stamp_line.ended (λ M 𝓤. stamp_line.clauses)
  pub port_line : Settles port_line.ended (λ M 𝓤. port_line.clauses)
  pub value_line : Settles value_line.ended (λ M 𝓤. value_line.clauses)
  pub write_at : Settles write_at.ended (λ M 𝓤. write_at.clauses)
  pub writes_read : Settles writes_read.ended (λ M 𝓤. writes_read.clauses)
  pub check : Settles check.ended (λ M 𝓤. check.clauses)
  pub captured : Settles captured.ended (λ M 𝓤. captured.clauses)
  pub is_due : Settles is_due.ended (λ M 𝓤. is_due.clauses)
  pub words_before : Settles words_before.ended (λ M 𝓤. words_before.clauses)
  pub pass_write : Settles pass_write.ended (λ M 𝓤. pass_write.clauses)
  pub pass_due : Settles pass_due.ended (λ M 𝓤. pass_due.clauses)
  pub free_words : Settles free_words.ended (λ M 𝓤. free_words.clauses)
  pub put_refusal : Settles put_refusal.ended (λ M 𝓤. put_refusal.clauses)
  pub put_total : Settles put_total.ended (λ M 𝓤. put_total.clauses)
  pub put_left : Settles put_left.ended (λ M 𝓤. put_left.clauses)
  pub put_first_line : Settles put_first_line.ended (λ M 𝓤. put_first_line.clauses)
  pub put_last_line : Settles put_last_line.ended (λ M 𝓤. put_last_line.clauses)
  pub start : Settles start.ended (λ M 𝓤. start.clauses)
  pub step : Settles step.ended (λ M 𝓤. step.clauses)
  pub next_piece : Settles next_piece.ended (λ M 𝓤. next_piece.clauses)
