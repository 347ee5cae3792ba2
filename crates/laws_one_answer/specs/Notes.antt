-- The calls of the nearest period, and of lists of pitches, are settled (`Settled`). Assumes nothing.
use Rattle.pitch.specs.contracts.nearest_period
use Rattle.pitch.specs.contracts.are_nearest
use Rattle.pitch.specs.contracts.FoundFromResultU16Refusal.from as found
use Rattle.pitch.specs.contracts.CheckedFromResultBoolRefusal.from as checked
use Rattle.notes_text.specs.contracts.check
use Rattle.notes_text.specs.contracts.note_at
use Rattle.notes_output.specs.contracts.room
use Rattle.notes_output.specs.contracts.answer
use Rattle.laws_one_answer.specs.Settled.{Settles}

pub record Notes : Type 2 where
  pub nearest_period : Settles nearest_period.ended (λ M 𝓤. nearest_period.clauses)
  pub are_nearest : Settles are_nearest.ended (λ M 𝓤. are_nearest.clauses)
  pub found : Settles found.ended (λ M 𝓤. found.clauses)
  pub checked : Settles checked.ended (λ M 𝓤. checked.clauses)
  pub check : Settles check.ended (λ M 𝓤. check.clauses)
  pub note_at : Settles note_at.ended (λ M 𝓤. note_at.clauses)
  pub room : Settles room.ended (λ M 𝓤. room.clauses)
  pub answer : Settles answer.ended (λ M 𝓤. answer.clauses)
