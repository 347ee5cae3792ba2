-- The moves of `frames_read`'s loop: of n lines i are read and have their form, and the next stands at p. Assumes nothing.
use mathlib.Core.Bool.{true, false}
use mathlib.Core.Path.{◌≡◌}
use mathlib.Core.List.{List}
use Prim.Native.Nat.{ℕ, suc, ◌+◌, ◌-◌, ◌≤◌, ◌<◌}
use native.Mathlib.Omega.{arith}
use Rattle.text_lines.specs.Lines.{line_at}
use Rattle.dump_lines.specs.OneLine.{frame_at}
use Rattle.dump_body.specs.Frames.{counted, frames_read}
use Rattle.dump_body.specs.declared.FramesRead.{FramesRead}

recount : (p : ℕ) {m n : ℕ} → m ≡ n → ◌≡◌ {A = FramesRead} (record { count = m; at = p }) (record { count = n; at = p })
recount p e j = record { count = e j; at = p }

module _ (t : List ℕ) (n i p : ℕ) where
  pub read-on : i < n → frame_at t p ≡ true → counted i (frames_read t (n - i) p) ≡ counted (i + 1) (frames_read t (n - (i + 1)) (line_at t p).next)
  unfolding frames_read
  read-on h e =
      let z : n - i ≡ suc (n - (i + 1)) = omega arith in
      rw (z, e) (recount (frames_read t (n - (i + 1)) (line_at t p).next).at (omega arith))

  pub read-bad : i < n → frame_at t p ≡ false → counted i (frames_read t (n - i) p) ≡ record { count = i; at = (line_at t p).next }
  unfolding frames_read
  read-bad h e =
      let z : n - i ≡ suc (n - (i + 1)) = omega arith in
      rw (z, e) (recount (line_at t p).next (omega arith))

  pub read_all : i ≤ n → n ≤ i → counted i (frames_read t (n - i) p) ≡ record { count = n; at = p }
  unfolding frames_read
  read_all l h =
      let z : n - i ≡ 0 = omega arith in
      rw z (recount p (omega arith))

  pub read_none : counted 0 (frames_read t (n - 0) p) ≡ frames_read t n p
  read_none =
      let z : n - 0 ≡ n = omega arith in
      rw z (recount (frames_read t n p).at (omega arith))
