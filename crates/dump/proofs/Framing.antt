-- What was read of the frames' lines tells the answer: a law for each of `all_frames`' returns. Assumes nothing.
use mathlib.Core.Bool.{cond}
use mathlib.Core.Path.{◌≡◌, ◌∙◌, ap}
use mathlib.Core.List.{List}
use Prim.Native.Nat.{ℕ, zero, suc, ◌+◌}
use native.Mathlib.Omega.{arith}
use borrow.Author.Tests.{lt-ltb, le-ltb}
use lib.Dec.{ltb}
use lib.ListN.{length}
use Rattle.std.specs.Prelude.{Result, Ok, Err}
use Rattle.laws.proofs.Tests.{by_cond}
use Rattle.refusals.specs.declared.Refusal.{Refusal}
use Rattle.refusals.specs.declared.Refusal.TheVariants.{LineNotOfForm, BytesAfterTheEnd}
use Rattle.text_lines.specs.Lines.{line_at}
use Rattle.dump_lines.specs.OneLine.{frame_at}
use Rattle.dump_clocks.specs.declared.LineRefused.{LineRefused}
use Rattle.dump.specs.Checked.{frames_from}
use Rattle.dump_body.specs.Frames.{frames_read}
use Rattle.dump_body.specs.declared.FramesRead.{FramesRead}

abbrev Framed : Type 0
Framed = Result (Unit {0}) LineRefused

abbrev refused_at : Refusal → ℕ → Framed
refused_at why line = Err (record { why = why; line = line })

module _ (t : List ℕ) (n : ℕ) where
  -- the answer on n lines, of which the first `count` have their form; the last one read ends at p
  abbrev answer : ℕ → ℕ → Framed
  answer count p = cond (ltb count n) (refused_at LineNotOfForm (5 + count)) (cond (ltb p (length t)) (refused_at BytesAfterTheEnd (5 + n)) (Ok tt))

  -- i lines are read, and k are left
  tells : (k i p : ℕ) → i + k ≡ n → frames_from t k (5 + i) p ≡ answer (i + (frames_read t k p).count) (frames_read t k p).at
  unfolding frames_from frames_read
  tells zero i p e =
      let s : i ≡ n = omega (arith, e) in
      let z : n + 0 ≡ n = omega arith in
      rw (s, z, le-ltb n n (omega arith))
  tells (suc k) i p e =
      let next = (line_at t p).next in
      let more = frames_read t k next in
      let s : 5 + i + 1 ≡ 5 + (i + 1) = omega arith in
      let z : i + 0 ≡ i = omega arith in
      let a : i + 1 + more.count ≡ i + (1 + more.count) = omega arith in
      by_cond (λ (v : Framed). v ≡ answer (i + (frames_read t (suc k) p).count) (frames_read t (suc k) p).at) (frame_at t p) _ _
      (λ g. rw (g, s) (tells k (i + 1) next (omega (arith, e)) ∙ ap (λ (m : ℕ). answer m more.at) a)) (λ g. rw (g, z, lt-ltb i n (omega (arith, e))))

module _ (t : List ℕ) (frames body : ℕ) {r : FramesRead} (q : r ≡ frames_read t frames body) where
  pub whole : frames_from t frames 5 body ≡ answer t frames r.count r.at
  whole =
      let z : 0 + (frames_read t frames body).count ≡ (frames_read t frames body).count = omega arith in
      rw q (tells t frames frames 0 body (omega arith) ∙ ap (λ (m : ℕ). answer t frames m (frames_read t frames body).at) z)
