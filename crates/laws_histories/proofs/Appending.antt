-- Calls, and then more calls: the chip, the ledger and the numbers answered. Assumes nothing.
use mathlib.Core.List.{List, [], ◌∷◌, ◌++◌}
use mathlib.Core.Path.{◌≡◌, refl}
use Rattle.chip.specs.declared.Chip.{Chip}
use Rattle.laws_promises.specs.History.{Call, answers, after, Ledger, entered, ledger}
use Rattle.laws_histories.specs.Histories.{AllAccepted}

pub after-append : (a b : List Call) (c : Chip) → after (a ++ b) c ≡ after b (after a c)
unfolding after
after-append [] b c = refl
after-append (x ∷ a) b c = after-append a b (answers x c).chip

pub ledger-append : (a b : List Call) (c : Chip) (l : Ledger) → ledger (a ++ b) c l ≡ ledger b (after a c) (ledger a c l)
unfolding after ledger
ledger-append [] b c l = refl
ledger-append (x ∷ a) b c l = ledger-append a b (answers x c).chip (entered x c l)

pub accepted-append : (a b : List Call) (c : Chip) → AllAccepted a c → AllAccepted b (after a c) → AllAccepted (a ++ b) c
unfolding after
accepted-append [] b c h k = k
accepted-append (x ∷ a) b c h k = (h.0, accepted-append a b (answers x c).chip h.1 k)
