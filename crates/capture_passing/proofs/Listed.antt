-- What is due, out of the text, is what is due of the writes as a list: `pass_from` beside `pass_due`. Assumes nothing.
use mathlib.Core.List.{List, []}
use mathlib.Core.Path.{◌≡◌, refl}
use Prim.Native.Nat.{ℕ, zero, suc, ◌≤◌, ◌<◌}
use native.Mathlib.Omega.{arith}
use Rattle.refusals.specs.Numbers.{accepted}
use Rattle.laws.proofs.Tests.{on-eq}
use Rattle.chip.specs.declared.Chip.{Chip}
use Rattle.clocking_word.specs.Word.{end_of}
use Rattle.bus.specs.Passing.{pass_write}
use Rattle.capture_writes.specs.Writes.{write_at, writes_from, place_from}
use Rattle.capture_writes.proofs.Listed.{place-on}
use Rattle.capture_course.specs.Course.{Passed, pass_due}
use Rattle.capture_course.proofs.Passed.{by-due, due-none}
use Rattle.capture_passing.specs.Due.{stopped, pass_from, word_no, pass_due_from}
use Rattle.capture_passing.specs.declared.Passing.{Passing}
use Rattle.capture_passing.proofs.Walking.{from-later, from-refused, from-passes}

-- the lines of n writes from a place on are good, as those of a checked capture are
abbrev pub Good : List ℕ → ℕ → ℕ → Type 0
Good text n at = (k : ℕ) → k < n → (write_at text 0 (place_from text k at)).no ≡ accepted

-- the same chip and number, and the same writes left
pub record Listed (text : List ℕ) (n : ℕ) (p : Passing) (q : Passed) : Type 0 where
  pub chip : p.chip ≡ q.chip
  pub no : p.no ≡ q.no
  pub rest : writes_from text p.writes p.at ≡ q.rest
  pub good : Good text p.writes p.at
  pub few : p.writes ≤ n

good-on : (text : List ℕ) (n at : ℕ) → Good text (suc n) at → Good text n (write_at text 0 at).next
good-on text n at g k h = rw (place-on text k at) (g (suc k) (omega arith))

pub from-listed : (text : List ℕ) (end left at : ℕ) (c : Chip) → Good text left at
    → Listed text left (pass_from text end left at c) (pass_due end (writes_from text left at) c)
unfolding pass_from writes_from
from-listed text end zero at c g = rw (due-none end [] c tt) (record { chip = refl; no = refl; rest = refl; good = g; few = omega arith })
from-listed text end (suc left) at c g =
    let lines = write_at text 0 at in
    let first = g 0 (omega arith) in
    by-due (Listed text (suc left) (pass_from text end (suc left) at c)) end lines.write (writes_from text left lines.next) c
    (λ soon e.
    let more = from-listed text end left lines.next (pass_write lines.write c).chip (good-on text left at g) in
    rw (← from-passes text end left at c first soon e)
    (record { chip = more.chip; no = more.no; rest = more.rest; good = more.good; few = omega (arith, more.few) }))
    (λ soon n. rw (← from-refused text end left at c first soon n) (record { chip = refl; no = refl; rest = refl; good = g; few = omega arith }))
    (λ late. rw (← from-later text end left at c first late) (record { chip = refl; no = refl; rest = refl; good = g; few = omega arith }))

-- before a word that can be rendered
pub due-listed : (text : List ℕ) (writes at : ℕ) (c : Chip) → word_no c ≡ accepted → Good text writes at
    → Listed text writes (pass_due_from text writes at c) (pass_due (end_of c.core) (writes_from text writes at) c)
unfolding pass_due_from
due-listed text writes at c e g =
    let all = pass_from text (end_of c.core) writes at c in
    rw (← on-eq (word_no c) accepted all all (stopped c at writes (word_no c)) e refl) (from-listed text (end_of c.core) writes at c g)
