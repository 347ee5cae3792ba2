-- Calls have no reset among them, or a last one. Assumes nothing.
use mathlib.Core.List.{List, [], ◌∷◌, ◌++◌}
use mathlib.Core.Logic.{◌⊎◌, inl, inr, ⊎_elim}
use mathlib.Core.Path.{◌≡◌, refl, ap}
use Prim.Native.Nat.{ℕ}
use native.Mathlib.Omega.{arith}
use Rattle.laws.specs.All.{All}
use Rattle.laws_promises.specs.History
use Rattle.laws_promises.specs.History.{Call, reset}
use Rattle.laws_histories.specs.Histories.{NoReset}

-- a call is a reset or not
never : ◌≡◌ {A = ℕ} 0 1 → ⊥
never e = omega arith

is-reset : (x : Call) → (x ≡ reset) ⊎ NoReset x
is-reset History.reset = inl refl
is-reset (History.write-register register value) = inr (λ e. never cc)
is-reset (History.load-registers bytes) = inr (λ e. never cc)
is-reset (History.write-port port value) = inr (λ e. never cc)
is-reset (History.write-port-immediate port value) = inr (λ e. never cc)
is-reset (History.set-cpu-cycle cycle) = inr (λ e. never cc)
is-reset (History.sync-sample-cycle cycle) = inr (λ e. never cc)
is-reset History.flush-pending-writes = inr (λ e. never cc)
is-reset (History.set-timer-irq-state on) = inr (λ e. never cc)
is-reset (History.inside-timer-irq inside) = inr (λ e. never cc)
is-reset History.trigger-envelope = inr (λ e. never cc)
is-reset (History.set-channel-mute channel muted) = inr (λ e. never cc)
is-reset (History.set-drum-sample-override channel drum) = inr (λ e. never cc)
is-reset History.compute-next-sample = inr (λ e. never cc)
is-reset (History.block out) = inr (λ e. never cc)
is-reset (History.read-register register) = inr (λ e. never cc)
is-reset History.dump-registers = inr (λ e. never cc)
is-reset (History.read-port port) = inr (λ e. never cc)
is-reset History.cpu-cycle = inr (λ e. never cc)
is-reset History.pending-write-count = inr (λ e. never cc)
is-reset (History.is-channel-muted channel) = inr (λ e. never cc)
is-reset History.get-channel-outputs = inr (λ e. never cc)

-- calls with no reset among them, or the last of them
pub record Split (calls : List Call) : Type 0 where
  pub earlier : List Call
  pub later : List Call
  pub split : calls ≡ earlier ++ reset ∷ later
  pub last : All NoReset later

pub split-last : (calls : List Call) → All NoReset calls ⊎ Split calls
split-last [] = inl tt
split-last (x ∷ calls) =
    ⊎_elim
    (λ none. ⊎_elim
    (λ e. inr (record { earlier = []; later = calls; split = ap (λ (y : Call). y ∷ calls) e; last = none }))
    (λ other. inl (other, none))
    (is-reset x))
    (λ s. inr (record {
      earlier = x ∷ s.earlier;
      later = s.later;
      split = ap (λ (l : List Call). x ∷ l) s.split;
      last = s.last;
    }))
    (split-last calls)
