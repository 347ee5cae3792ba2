-- What a call reports beside what the ledger of a history enters for it (`laws_promises`). 02, request 03: "equal to counts over the
-- definition's list of applied writes". Each claim is of every chip and ledger, so it holds in any history. Nothing here is proved;
-- `ledgers : Ledgers` is, in `proofs/Ledger.antt`. Assumes nothing.
use Rattle.std.specs.Prelude.{cond, true, List, ◌++◌, ◌≡◌, ℕ, ltb, length}
use Rattle.write_effects.specs.Effects.{changes_in, restarts_in}
use Rattle.queue.specs.declared.Write.{Write}
use Rattle.queue_flush.specs.Applied.{register_writes}
use Rattle.chip.specs.declared.Chip.{Chip}
use Rattle.answers.specs.Reports.{bytes_of}
use Rattle.answers.specs.declared.Counts.{Counts}
use Rattle.calls_registers.specs.Stored.{loaded_registers, wrote_register}
use Rattle.calls_ports.specs.Ports.{wrote_port_immediate}
use Rattle.calls_cycles.specs.Cycles.{flushed_pending_writes}
use Rattle.laws_promises.specs.History.{Call, Ledger, answers, block, compute-next-sample, entered, flush-pending-writes, load-registers, restarts, write-port-immediate, write-register}
use Rattle.laws_effects.specs.Claims.{of_block, of_word}

-- The writes that a call enters as applied, behind those that stand there, and its counts over just these. A refused call enters none.
pub record OverEntered (x : Call) (c : Chip) (l : Ledger) (a : Counts) : Type 0 where
  pub number : a.no ≡ (answers x c).no
  pub writes : List Write
  pub applied : (entered x c l).applied ≡ l.applied ++ writes
  pub changed : a.changed ≡ changes_in (register_writes writes) (bytes_of c)
  pub restarted : a.restarted ≡ restarts_in (register_writes writes)
  -- The ledger notes a restart just where one is reported, or was noted before.
  pub noted : (entered x c l).restarted ≡ cond (ltb 0 a.restarted) true l.restarted

pub record Ledgers : Type 0 where
  pub flush : (c : Chip) (l : Ledger) → OverEntered flush-pending-writes c l (flushed_pending_writes c).answer
  pub word : (c : Chip) (l : Ledger) → OverEntered compute-next-sample c l (of_word c)
  pub words : (out : List ℕ) (c : Chip) (l : Ledger) → OverEntered (block out) c l (of_block (length out) c)
  -- Writes that do not wait are not entered; but their restarts are noted.
  pub write : (register value : ℕ) (c : Chip) (l : Ledger)
      → entered (write-register register value) c l ≡ restarts (wrote_register register value c).answer.restarted l
  pub port : (port value : ℕ) (c : Chip) (l : Ledger)
      → entered (write-port-immediate port value) c l ≡ restarts (wrote_port_immediate port value c).answer.restarted l
  pub load : (bytes : List ℕ) (c : Chip) (l : Ledger)
      → entered (load-registers bytes) c l ≡ restarts (ltb 0 (loaded_registers bytes c).answer.restarted) l
