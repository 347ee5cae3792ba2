-- When a frame is due. Assumes nothing.
use mathlib.Core.Bool.{false}
use mathlib.Core.Path.{◌≡◌, refl}
use Prim.Native.Nat.{ℕ, ◌≤◌, ◌<◌}
use borrow.Author.Tests.{le-ltb, lt-ltb}
use lib.Dec.{ltb}
use Rattle.laws.proofs.Tests.{on-true, on-false}
use Rattle.dump_progress.specs.declared.Progress.{Progress}
use Rattle.dump_progress.specs.Progress.{frame_due}

module _ (frames : ℕ) (p : Progress) where
  pub not_yet : 0 < p.left → false ≡ frame_due frames p
  unfolding frame_due
  not_yet h = on-true (ltb 0 p.left) _ _ _ (lt-ltb 0 p.left h) refl

  pub if-any : p.left ≤ 0 → ltb p.frames frames ≡ frame_due frames p
  unfolding frame_due
  if-any h = on-false (ltb 0 p.left) _ _ _ (le-ltb 0 p.left h) refl
