-- What is due before a word, as calls: those of the writes passed, and of no other. Assumes nothing.
use mathlib.Core.Bool.{Bool, true, false, cond}
use mathlib.Core.List.{List, [], ◌∷◌, ◌++◌}
use mathlib.Core.Path.{◌≡◌, refl, sym, ap, ◌∙◌}
use Prim.Native.Nat.{ℕ, ◌%◌, ◌≤◌, ◌<◌}
use Rattle.refusals.specs.Numbers.{accepted}
use Rattle.laws.proofs.Tests.{by_order, by-same, on-gt, tests}
use Rattle.queue.specs.declared.Write.{Write}
use Rattle.chip.specs.declared.Chip.{Chip}
use Rattle.chip.proofs.InRange.{InRange}
use Rattle.calls_ports.specs.Ports.{bit1_clear}
use Rattle.bus.specs.Passing.{pass_write}
use Rattle.bus_writes.specs.declared.BusWrite.{BusWrite}
use Rattle.capture_course.specs.Course.{Passed, pass_due}
use Rattle.capture_course.proofs.Passed.{write_kept, due-passes, due-refused, due-none}
use Rattle.laws_promises.specs.History.{Call, after, Ledger, accepts, ledger}
use Rattle.laws_histories.specs.Histories.{AllAccepted}
use Rattle.laws_histories.proofs.Appending.{after-append, ledger-append, accepted-append}
use Rattle.laws_captures.specs.Captures.{pass_calls, due_calls, data_writes}
use Rattle.laws_captures.proofs.OneWrite.{accepts-none, accepts-append, pass-selects, pass-chip, pass-each, pass-enters}

-- the number selected after some writes
abbrev pub selected_by : ℕ → List BusWrite → ℕ
selected_by selected [] = selected
selected_by selected (w ∷ ws) = selected_by (cond (bit1_clear w.port) (w.value % 16) selected) ws

-- the data writes of some writes and then more
chosen : (clear : Bool) (x : Write) (v s : ℕ) (whole part rest : ℕ → List Write) → ((n : ℕ) → whole n ≡ part n ++ rest n)
    → cond clear (whole v) (x ∷ whole s) ≡ cond clear (part v) (x ∷ part s) ++ rest (cond clear v s)
chosen true x v s whole part rest f = f v
chosen false x v s whole part rest f = ap (λ (l : List Write). x ∷ l) (f s)

pub data-append : (selected : ℕ) (a b : List BusWrite) → data_writes selected (a ++ b) ≡ data_writes selected a ++ data_writes (selected_by selected a) b
data-append selected [] b = refl
data-append selected (w ∷ a) b =
    chosen (bit1_clear w.port) _ (w.value % 16) selected (λ (n : ℕ). data_writes n (a ++ b)) (λ (n : ℕ). data_writes n a)
    (λ (n : ℕ). data_writes (selected_by n a) b) (λ n. data-append n a b)

pub selected-append : (selected : ℕ) (a b : List BusWrite) → selected_by selected (a ++ b) ≡ selected_by (selected_by selected a) b
selected-append selected [] b = refl
selected-append selected (w ∷ a) b = selected-append (cond (bit1_clear w.port) (w.value % 16) selected) a b

-- the calls of the next write
module _ (end : ℕ) (w : BusWrite) (ws : List BusWrite) (c : Chip) where
  calls-on : w.stamp ≤ end → (pass_write w c).no ≡ accepted → due_calls end (w ∷ ws) c ≡ pass_calls w ++ due_calls end ws (pass_write w c).chip
  unfolding due_calls
  calls-on soon e = let on : pass_calls w ++ due_calls end ws (pass_write w c).chip ≡ due_calls end (w ∷ ws) c = search tests in sym on

  calls-refused : w.stamp ≤ end → ((pass_write w c).no ≡ accepted → ⊥) → due_calls end (w ∷ ws) c ≡ []
  unfolding due_calls
  calls-refused soon n = let none : ◌≡◌ {A = List Call} [] (due_calls end (w ∷ ws) c) = search tests in sym none

  calls-late : end < w.stamp → due_calls end (w ∷ ws) c ≡ []
  unfolding due_calls
  calls-late late = sym (on-gt _ _ _ _ _ late refl)

-- the calls `calls` pass some writes and leave the chip and the writes of p
pub record Passes (ws : List BusWrite) (c : Chip) (l : Ledger) (calls : List Call) (p : Passed) : Type 0 where
  pub passed : List BusWrite
  pub split : ws ≡ passed ++ p.rest
  pub chip : after calls c ≡ p.chip
  pub each : AllAccepted calls c
  pub entries : ledger calls c l ≡ accepts (data_writes c.core.selected passed) l
  pub selected : p.chip.core.selected ≡ selected_by c.core.selected passed

passes_none : (ws : List BusWrite) (c : Chip) (l : Ledger) (number : ℕ) → Passes ws c l [] (record { chip = c; rest = ws; no = number })
unfolding after ledger
passes_none ws c l number =
    record { passed = []; split = refl; chip = refl; each = tt; entries = sym (accepts-none l); selected = refl }

-- the next write's calls, and those of the writes behind it
passes_on : (end : ℕ) (w : BusWrite) (ws : List BusWrite) (c : Chip) (l : Ledger) → InRange c → (pass_write w c).no ≡ accepted
    → Passes ws (pass_write w c).chip (accepts (data_writes c.core.selected (w ∷ [])) l) (due_calls end ws (pass_write w c).chip)
    (pass_due end ws (pass_write w c).chip)
    → Passes (w ∷ ws) c l (pass_calls w ++ due_calls end ws (pass_write w c).chip) (pass_due end ws (pass_write w c).chip)
passes_on end w ws c l h e more =
    let d = (pass_write w c).chip in
    let calls = due_calls end ws d in
    let first = data_writes c.core.selected (w ∷ []) in
    let left = pass-chip w c h e in
    record {
      passed = w ∷ more.passed;
      split = ap (λ (xs : List BusWrite). w ∷ xs) more.split;
      chip = after-append (pass_calls w) calls c ∙ ap (after calls) left ∙ more.chip;
      each = accepted-append (pass_calls w) calls c (pass-each w c h e) (rw left more.each);
      entries =
          ledger-append (pass_calls w) calls c l
          ∙ ap (λ (x : Chip). ledger calls x (ledger (pass_calls w) c l)) left
          ∙ ap (ledger calls d) (pass-enters w c h e l)
          ∙ more.entries
          ∙ ap (λ (n : ℕ). accepts (data_writes n more.passed) (accepts first l)) (pass-selects w c h)
          ∙ accepts-append first (data_writes (selected_by c.core.selected (w ∷ [])) more.passed) l
          ∙ ap (λ (xs : List Write). accepts xs l) (sym (data-append c.core.selected (w ∷ []) more.passed));
      selected = more.selected ∙ ap (λ (n : ℕ). selected_by n more.passed) (pass-selects w c h);
    }

calls-none : (end : ℕ) (c : Chip) → due_calls end [] c ≡ []
unfolding due_calls
calls-none end c = refl

-- the next write, whichever way it goes
next-calls : (end : ℕ) (w : BusWrite) (ws : List BusWrite) (c : Chip) (l : Ledger) → InRange c
    → Passes ws (pass_write w c).chip (accepts (data_writes c.core.selected (w ∷ [])) l) (due_calls end ws (pass_write w c).chip)
    (pass_due end ws (pass_write w c).chip)
    → Passes (w ∷ ws) c l (due_calls end (w ∷ ws) c) (pass_due end (w ∷ ws) c)
next-calls end w ws c l h more =
    by_order w.stamp end
    (λ soon. by-same (pass_write w c).no accepted
    (λ e. rw (calls-on end w ws c soon e, due-passes end w ws c soon e) (passes_on end w ws c l h e more))
    (λ n. rw (calls-refused end w ws c soon n, due-refused end w ws c soon n) (passes_none (w ∷ ws) c l (pass_write w c).no)))
    (λ late. rw (calls-late end w ws c late, due-none end (w ∷ ws) c late) (passes_none (w ∷ ws) c l accepted))

no-calls : (end : ℕ) (c : Chip) (l : Ledger) → Passes [] c l (due_calls end [] c) (pass_due end [] c)
no-calls end c l = rw (calls-none end c, due-none end [] c tt) (passes_none [] c l accepted)

pub due-calls : (end : ℕ) (ws : List BusWrite) (c : Chip) (l : Ledger) → InRange c → Passes ws c l (due_calls end ws c) (pass_due end ws c)
due-calls end [] c l h = no-calls end c l
due-calls end (w ∷ ws) c l h =
    next-calls end w ws c l h
    (due-calls end ws (pass_write w c).chip (accepts (data_writes c.core.selected (w ∷ [])) l) (write_kept w c h).range)
