-- The noise's loop in calls that a bench makes: as long as they hold the period, the noise is where the ticks of their words took it. 02,
-- request 11. Nothing here is proved; `runs_on : RunsOn` and `played-loop : PlayedLoop` are, in `proofs/Playing.antt`. Assumes nothing.
use Rattle.std.specs.Prelude.{cond, List, [], ◌∷◌, ◌≡◌, ℕ, ◌*◌, ◌≤◌, ◌<◌, length}
use Rattle.laws.specs.All.{All}
use Rattle.registers.specs.Registers.{masked}
use Rattle.registers.specs.Writes.{RegisterWrite, load_writes}
use Rattle.queue.specs.Waiting.{waiting}
use Rattle.queue_flush.specs.Applied.{register_writes}
use Rattle.chip.specs.declared.Chip.{Chip}
use Rattle.clocking_block.specs.Block.{applied_of}
use Rattle.calls_ports.specs.Ports.{stamped}
use Rattle.laws_promises.specs.History
use Rattle.laws_promises.specs.History.{Call, answers, after, data_write, empty_ledger, is_accepted, ledger}
use Rattle.laws_promises.specs.Demand.{T, noise_of}
use Rattle.laws_hiss.specs.Chips.{OnReached, Starts, noise_after}

-- The register writes that an accepted call applies: at once, or those that wait and that it or its words come to. (A write to the port
-- that waits is applied by a later call. Were a write left out here, `RunsOn` would be false.)
unfoldable pub writes_of : Call → Chip → List RegisterWrite
writes_of History.reset c = []
writes_of (History.write-register register value) c = record { register = register; value = value } ∷ []
writes_of (History.load-registers bytes) c = load_writes bytes
writes_of (History.write-port port value) c = []
writes_of (History.write-port-immediate port value) c = register_writes (data_write port (stamped value c))
writes_of (History.set-cpu-cycle cycle) c = []
writes_of (History.sync-sample-cycle cycle) c = []
writes_of History.flush-pending-writes c = register_writes (waiting c.queue)
writes_of (History.set-timer-irq-state on) c = []
writes_of (History.inside-timer-irq inside) c = []
writes_of History.trigger-envelope c = []
writes_of (History.set-channel-mute channel muted) c = []
writes_of (History.set-drum-sample-override channel drum) c = []
writes_of History.compute-next-sample c = register_writes (applied_of 1 c)
writes_of (History.block out) c = register_writes (applied_of (length out) c)
writes_of (History.read-register register) c = []
writes_of History.dump-registers c = []
writes_of (History.read-port port) c = []
writes_of History.cpu-cycle c = []
writes_of History.pending-write-count c = []
writes_of (History.is-channel-muted channel) c = []
writes_of History.get-channel-outputs c = []

-- A refused call applies none.
abbrev pub writes_by : Call → Chip → List RegisterWrite
writes_by x c = cond (is_accepted (answers x c).no) (writes_of x c) []

-- "a noise period p .. held unchanged": no call is a reset, and a write that is applied to R6 stores p there.
abbrev pub StoresPeriod : ℕ → RegisterWrite → Type 0
StoresPeriod p w = w.register ≡ 6 → masked 6 w.value ≡ p

abbrev pub Held : ℕ → List Call → Chip → Type 0
Held p [] c = Unit {0}
Held p (x ∷ calls) c = (x ≡ History.reset → ⊥) × All (StoresPeriod p) (writes_by x c) × Held p calls (answers x c).chip

-- the ticks that the words of some calls run
abbrev pub ticks_by : List Call → Chip → ℕ
ticks_by calls c = T (ledger calls c empty_ledger)

-- Over such calls the noise runs on by just those ticks, whatever else they write.
abbrev pub RunsOn : Type 0
RunsOn = OnReached (λ c. (later : List Call) → Held (noise_of c).period later c → noise_of (after later c) ≡ noise_after (ticks_by later c) c)

-- So n ticks of such calls lead "back to the whole noise state, and no smaller positive number".
pub record PlayedBack (p n : ℕ) (c : Chip) : Type 0 where
  pub returns : (later : List Call) → Held p later c → ticks_by later c ≡ n → noise_of (after later c) ≡ noise_of c
  pub no-sooner : (later : List Call) → Held p later c → 0 < ticks_by later c → ticks_by later c < n → noise_of (after later c) ≡ noise_of c → ⊥

abbrev pub PlayedLoop : Type 0
PlayedLoop = OnReached (λ c. (p : ℕ) → 1 ≤ p → Starts p (noise_of c) → PlayedBack p (131071 * 2 * p) c)
