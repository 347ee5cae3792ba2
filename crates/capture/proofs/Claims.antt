-- An accepted capture's writes stand on their lines, in range and in order: its laws (`Accepted`), and three lines to a write. Assumes nothing.
use mathlib.Core.List.{List}
use mathlib.Core.Path.{◌≡◌, ◌∙◌, ap}
use Prim.Native.Nat.{ℕ, zero, suc, ◌+◌, ◌*◌, ◌<◌}
use native.Mathlib.Numerals.{add-one}
use native.Mathlib.Omega.{arith}
use Rattle.refusals.specs.Numbers.{accepted}
use Rattle.capture_writes.specs.Writes.{write_at, place_from}
use Rattle.capture_writes.proofs.Listed.{how-many, kth}
use Rattle.capture_writes.proofs.Ranged.{ranged-at, three-on}
use Rattle.capture.specs.Checked.{capture_of}
use Rattle.capture.specs.Rising.{line_from}
use Rattle.capture.specs.Claims.{place_of, AcceptedWrites}
use Rattle.capture.proofs.Accepted.{accepted-laid, rising-next}

-- three lines to a write: so many lines on from the top
three-lines : (t : List ℕ) (at n k : ℕ) → at ≡ line_from t n 0 → ((f : ℕ) → f < k → (write_at t 0 (place_from t f at)).no ≡ 0)
    → place_from t k at ≡ line_from t (n + 3 * k) 0
three-lines t at n zero q all = let z : n + 3 * 0 ≡ n = omega arith in rw z q
three-lines t at n (suc k) q all =
    let z : n + 3 * suc k ≡ suc (suc (suc (n + 3 * k))) = omega arith in
    let more = three-lines t at n k q (λ f h. all f (omega arith)) in
    rw z (three-on t 0 (place_from t k at) (all k (omega arith)) ∙ ap (λ (p : ℕ). line_from t 3 p) more)

pub accepted-writes : (t : List ℕ) → (capture_of t).no ≡ accepted → AcceptedWrites t
accepted-writes t ok =
    let l = accepted-laid t ok in
    let v = capture_of t in
    record {
      count = how-many t v.writes v.body;
      most = l.writes;
      rising = l.rising;
      next = λ k h. rw add-one (rising-next t 0 v.writes k v.body l.rising (rw add-one at h));
      each = λ k h.
          let r = ranged-at t 0 (place_of t k) in
          record {
            line = three-lines t v.body 4 k l.body (λ f g. l.write f (omega arith));
            form = l.write k h;
            stamp = r.stamp;
            port = r.port;
            value = r.value;
            listed = λ other. kth t v.writes k v.body other h;
          };
    }
