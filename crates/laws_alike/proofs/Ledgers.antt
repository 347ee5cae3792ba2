-- What a call enters in the ledger, the words' values aside, it takes from what is shared. Assumes nothing.
use mathlib.Core.Bool.{true}
use mathlib.Core.List.{List, [], ◌∷◌, ◌++◌, map, map-append}
use mathlib.Core.Path.{◌≡◌, refl, sym, ap, ap₂, ◌∙◌}
use Prim.Native.Nat.{ℕ}
use lib.Dec.{eqb}
use lib.ListN.{length}
use Rattle.queue.specs.Waiting.{waiting}
use Rattle.chip.specs.declared.Chip.{Chip}
use Rattle.calls_ports.specs.Ports.{stamped}
use Rattle.laws_promises.specs.History
use Rattle.laws_promises.specs.History.{Call, Entry, entries, applied_in, Ledger, accepts, restarts, applies, renders, restart_in, data_write, enters}
use Rattle.laws_alike.specs.Claims.{shared, shared_entry, shared_ledger}
use Rattle.laws_alike.proofs.Words.{entries-alike}

-- what words apply is shared
applied-shared : (ws : List Entry) → applied_in (map shared_entry ws) ≡ applied_in ws
applied-shared [] = refl
applied-shared (w ∷ ws) = ap (λ l. w.applied ++ l) (applied-shared ws)

renders-shared : (ws : List Entry) (l : Ledger) → shared_ledger (renders ws l) ≡ renders (map shared_entry ws) (shared_ledger l)
renders-shared ws l = rw (applied-shared ws, map-append)

module _ (c d : Chip) (l m : Ledger) (e : shared c ≡ shared d) (f : shared_ledger l ≡ shared_ledger m) where
  renders-alike : (n : ℕ) → shared_ledger (renders (entries n c) l) ≡ shared_ledger (renders (entries n d) m)
  renders-alike n = renders-shared (entries n c) l ∙ ap₂ renders (entries-alike n c d e) f ∙ sym (renders-shared (entries n d) m)

  -- what a call enters beside words it takes from what is shared
  pub enters-alike : (x : Call) → shared_ledger (enters x c l) ≡ shared_ledger (enters x d m)
  unfolding enters
  enters-alike History.reset = refl
  enters-alike (History.write-register register value) = ap (restarts (eqb register 13)) f
  enters-alike (History.load-registers bytes) = ap (restarts true) f
  enters-alike (History.write-port port value) = ap₂ (λ (x : Chip) (k : Ledger). accepts (data_write port (stamped value x)) k) e f
  enters-alike (History.write-port-immediate port value) =
      ap₂ (λ (x : Chip) (k : Ledger). restarts (restart_in (data_write port (stamped value x))) k) e f
  enters-alike (History.set-cpu-cycle cycle) = f
  enters-alike (History.sync-sample-cycle cycle) = f
  enters-alike History.flush-pending-writes = ap₂ (λ (x : Chip) (k : Ledger). applies (waiting x.queue) k) e f
  enters-alike (History.set-timer-irq-state on) = f
  enters-alike (History.inside-timer-irq inside) = f
  enters-alike History.trigger-envelope = ap (restarts true) f
  enters-alike (History.set-channel-mute channel muted) = f
  enters-alike (History.set-drum-sample-override channel drum) = f
  enters-alike History.compute-next-sample = renders-alike 1
  enters-alike (History.block out) = renders-alike (length out)
  enters-alike (History.read-register register) = f
  enters-alike History.dump-registers = f
  enters-alike (History.read-port port) = f
  enters-alike History.cpu-cycle = f
  enters-alike History.pending-write-count = f
  enters-alike (History.is-channel-muted channel) = f
  enters-alike History.get-channel-outputs = f
