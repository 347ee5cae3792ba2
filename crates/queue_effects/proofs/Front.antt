-- The writes that are due stand at the ring's front, and those due after them behind. Assumes nothing.
use mathlib.Core.List.{List, [], ◌∷◌, ◌++◌}
use mathlib.Core.Path.{◌≡◌, refl, ap, ◌∙◌}
use Prim.Native.Nat.{ℕ, zero, suc, ◌+◌, ◌%◌, ◌≤◌}
use native.Mathlib.Omega.{arith}
use lib.ListN.{get_or, length}
use Rattle.laws.proofs.Tests.{by_le}
use Rattle.registers.specs.Writes.{RegisterWrite}
use Rattle.queue.specs.declared.Queue.{Queue}
use Rattle.queue.specs.declared.Write.{Write}
use Rattle.queue.specs.Waiting.{due, ring, slot, waiting, writes_from}
use Rattle.queue.proofs.Ring.{from, from-round}
use Rattle.queue_flush.specs.Applied.{register_writes}
use Rattle.queue_effects.specs.Slots.{writes_at}

-- what a ring's slots say but for their stamps
pub slots_at : (q : Queue) (n i : ℕ) → register_writes (from q n i) ≡ writes_at q.registers q.values i n
unfolding register_writes writes_from
slots_at q zero i = refl
slots_at q (suc n) i = ap (λ (l : List RegisterWrite). record { register = (slot q i).register; value = (slot q i).value } ∷ l) (slots_at q n (i + 1))

due-from : (end : ℕ) (q : Queue) (n i : ℕ) → due end (from q n i) ≡ from q (length (due end (from q n i))) i
unfolding due writes_from
due-from end q zero i = refl
due-from end q (suc n) i =
    by_le (λ (l : List Write). l ≡ from q (length l) i) (slot q i).stamp end
    (λ _. ap (λ (l : List Write). slot q i ∷ l) (due-from end q n (i + 1)))
    (λ _. refl)

-- all that wait, and as many as are due, from the front on
pub waiting-writes : (q : Queue) → register_writes (waiting q) ≡ writes_at q.registers q.values q.head q.count
unfolding waiting
waiting-writes q = slots_at q q.count q.head

pub due-writes : (end : ℕ) (q : Queue) → register_writes (due end (waiting q)) ≡ writes_at q.registers q.values q.head (length (due end (waiting q)))
unfolding waiting
due-writes end q = ap register_writes (due-from end q q.count q.head) ∙ slots_at q (length (due end (from q q.count q.head))) q.head

due-few-from : (end : ℕ) (q : Queue) (n i : ℕ) → length (due end (from q n i)) ≤ n
unfolding due writes_from
due-few-from end q zero i = omega arith
due-few-from end q (suc n) i =
    by_le (λ (l : List Write). length l ≤ suc n) (slot q i).stamp end
    (λ _. let few = due-few-from end q n (i + 1) in omega arith)
    (λ _. omega arith)

pub due-few : (end : ℕ) (q : Queue) → length (due end (waiting q)) ≤ q.count
unfolding waiting
due-few end q = due-few-from end q q.count q.head

-- ---- writes, and those behind them
pub writes-append : (xs ys : List Write) → register_writes (xs ++ ys) ≡ register_writes xs ++ register_writes ys
unfolding register_writes
writes-append [] ys = refl
writes-append (x ∷ xs) ys = ap (λ (l : List RegisterWrite). record { register = x.register; value = x.value } ∷ l) (writes-append xs ys)

module _ (registers values : List ℕ) where
  pub at-round : (i n : ℕ) → writes_at registers values (i % 256) n ≡ writes_at registers values i n
  at-round i n = ap register_writes (from-round (ring [] registers values 0 0) n (i % 256) i (omega arith))

  pub at-append : (i m n : ℕ) → writes_at registers values i m ++ writes_at registers values (i + m) n ≡ writes_at registers values i (m + n)
  unfolding register_writes writes_from
  at-append i zero n = at_same (i + 0) i n (0 + n) (omega arith) (omega arith)
    where
      at_same : (a b m n : ℕ) → a ≡ b → m ≡ n → writes_at registers values a m ≡ writes_at registers values b n
      at_same a b m n d e = rw (d, e)
  at-append i (suc m) n =
      let all : suc m + n ≡ suc (m + n) = omega arith in
      let place : i + suc m ≡ i + 1 + m = omega arith in
      rw (all, place) (ap (λ (l : List RegisterWrite). record { register = get_or registers (i % 256) 0; value = get_or values (i % 256) 0 } ∷ l) (at-append (i + 1) m n))
