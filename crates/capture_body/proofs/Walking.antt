-- The writes, one after another: `writes_read`'s invariant and its moves. Assumes nothing.
use mathlib.Core.Path.{◌≡◌, refl, ◌∙◌}
use mathlib.Core.List.{List}
use Prim.Native.Nat.{ℕ, suc, ◌+◌, ◌-◌, ◌*◌, ◌≤◌, ◌<◌}
use native.Mathlib.Omega.{arith}
use lib.ListN.{length}
use Rattle.std.specs.Prelude.{Result, Ok, Err}
use Rattle.refusals.specs.declared.Refusal.TheVariants.{BytesAfterTheEnd}
use Rattle.dump_clocks.specs.Clocks.{and_then}
use Rattle.dump_clocks.specs.declared.LineRefused.{LineRefused}
use Rattle.laws.proofs.Tests.{on-lt, on-ge}
use Rattle.capture_writes.specs.Writes.{lines_at}
use Rattle.capture_writes.specs.declared.WriteLines.{WriteLines}
use Rattle.capture_body.specs.Walk.{from_line, writes_read}

-- what holds of both outcomes of a write's lines holds of what is made of them
pub by-write : {B : Type 0} (P : Result B LineRefused → Type 0) (t : List ℕ) (line before at : ℕ) {f : WriteLines → Result B LineRefused}
    → ((lines : WriteLines) → lines_at t before at ≡ Ok lines → P (f lines))
    → ((refused : LineRefused) → lines_at t before at ≡ Err refused → P (Err (record { why = refused.why; line = line + refused.line })))
    → P (and_then (from_line line (lines_at t before at)) f)
by-write P t line before at {f} g h = of_either (lines_at t before at) g h
  where
    of_either : (r : Result WriteLines LineRefused) → ((lines : WriteLines) → r ≡ Ok lines → P (f lines))
        → ((refused : LineRefused) → r ≡ Err refused → P (Err (record { why = refused.why; line = line + refused.line })))
        → P (and_then (from_line line r) f)
    of_either (Ok lines) g h = g lines refl
    of_either (Err refused) g h = h refused refl

-- what is left from write k on gives the whole
pub record Walking (t : List ℕ) (writes body k before at : ℕ) : Type 0 where
  pub same : writes_read t (writes - k) (5 + 3 * k) before at ≡ writes_read t writes 5 0 body

module _ {t : List ℕ} {writes body k before at : ℕ} (m : Walking t writes body k before at) where
  module _ (l : k < writes) where
    one : writes_read t (suc (writes - suc k)) (5 + 3 * k) before at ≡ writes_read t writes 5 0 body
    one = let z : writes - k ≡ suc (writes - suc k) = omega arith in rw z at m.same

    pub walking-refused : {refused : LineRefused} → lines_at t before at ≡ Err refused
        → Err (record { why = refused.why; line = 5 + 3 * k + refused.line }) ≡ writes_read t writes 5 0 body
    unfolding writes_read
    walking-refused e = rw e at one

    pub walking_on : {lines : WriteLines} → lines_at t before at ≡ Ok lines → Walking t writes body (k + 1) lines.write.stamp lines.next
    unfolding writes_read
    walking_on e =
        let z : k + 1 ≡ suc k = omega arith in
        let y : 5 + 3 * suc k ≡ 5 + 3 * k + 3 = omega arith in
        record { same = rw (z, y) (rw e at one) }

  module _ (l : writes ≤ k) (h : k ≤ writes) where
    ended : writes_read t 0 (5 + 3 * writes) before at ≡ writes_read t writes 5 0 body
    ended =
        let z : writes - k ≡ 0 = omega arith in
        let y : k ≡ writes = omega arith in
        rw y at (rw z at m.same)

    pub walking-over : at < length t → Err (record { why = BytesAfterTheEnd; line = 5 + 3 * writes }) ≡ writes_read t writes 5 0 body
    unfolding writes_read
    walking-over h = on-lt at (length t) _ _ _ h refl ∙ ended

    pub walking-ends : length t ≤ at → Ok tt ≡ writes_read t writes 5 0 body
    unfolding writes_read
    walking-ends h = on-ge at (length t) _ _ _ h refl ∙ ended
