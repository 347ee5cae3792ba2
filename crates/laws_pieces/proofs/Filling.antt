-- A buffer filled with pieces takes the next part of what is left, as each piece does; and how a loop fills it. Assumes nothing.
use mathlib.Core.List.{List, [], ◌++◌, append_assoc, append-nil}
use mathlib.Core.Path.{◌≡◌, refl, sym, ap, ◌∙◌}
use Prim.Native.Nat.{ℕ, zero, suc, ◌+◌, ◌-◌, ◌≤◌, ◌<◌}
use native.Mathlib.Omega.{arith}
use borrow.Author.Tests.{eq-eqb, ne_eqb}
use lib.Dec.{eqb}
use lib.ListN.{length, length-append}
use Rattle.laws.proofs.Tests.{by_order, by-same}
use Rattle.laws_pieces.specs.Pieces.{Giver}
use Rattle.laws_pieces.specs.Filling.{Filled, fills, filling}
use Rattle.laws_pieces.proofs.Pieces.{Gives, is-empty}

-- an empty piece ends it, and any other is followed by what fills the room that it left
abbrev nothing : {S : Type 0} → S → Filled S
nothing s = record { bytes = []; next = s }

abbrev following : {S : Type 0} → List ℕ → Filled S → Filled S
following piece more = record { bytes = piece ++ more.bytes; next = more.next }

module _ {S : Type 0} (g : Giver S) (room : ℕ) (s : S) where
  -- behind a piece: the room that it left, and where the giver stands
  abbrev room_behind : ℕ
  room_behind = room - length (g.piece room s)

  abbrev behind : S
  behind = g.next room s

module _ {S : Type 0} (g : Giver S) where
  fills-none : (k room : ℕ) (s : S) → length (g.piece room s) ≡ 0 → fills g k room s ≡ nothing s
  unfolding fills
  fills-none zero room s e = refl
  fills-none (suc k) room s e = rw (eq-eqb (length (g.piece room s)) 0 e)

  fills-more : (k room : ℕ) (s : S) → (length (g.piece room s) ≡ 0 → ⊥)
      → fills g (suc k) room s ≡ following (g.piece room s) (fills g k (room_behind g room s) (behind g room s))
  unfolding fills
  fills-more k room s e = rw (ne_eqb (length (g.piece room s)) 0 e)

-- what a filled buffer has taken of what was left
record Taken {S : Type 0} (Stands : S → Type 0) (rest : S → List ℕ) (room : ℕ) (s : S) (f : Filled S) : Type 0 where
  part : f.bytes ++ rest f.next ≡ rest s
  stands : Stands f.next
  within : length f.bytes ≤ room

module _ {S : Type 0} {g : Giver S} {Stands : S → Type 0} {rest : S → List ℕ} {least : ℕ} (gives : Gives g Stands rest least)
    (below : (room : ℕ) (s : S) → room < least → g.piece room s ≡ []) (some : 0 < least) where
  -- a piece that is not empty had the least room
  roomy : (room : ℕ) (s : S) → (length (g.piece room s) ≡ 0 → ⊥) → least ≤ room
  roomy room s e = by_order least room (λ h. h) (λ h. absurd (e (ap length (below room s h))))

  taken_none : (room : ℕ) (s : S) → Stands s → Taken Stands rest room s (nothing s)
  taken_none room s st = record { part = refl; stands = st; within = omega arith }

  taken_more : (room : ℕ) (s : S) → Stands s → least ≤ room → (f : Filled S)
      → Taken Stands rest (room_behind g room s) (behind g room s) f → Taken Stands rest room s (following (g.piece room s) f)
  taken_more room s st h f more =
      let piece = g.piece room s in
      record {
        part = append_assoc piece f.bytes (rest f.next) ∙ ap (λ (l : List ℕ). piece ++ l) more.part ∙ gives.part room s h st;
        stands = more.stands;
        within = omega (arith, length-append piece f.bytes, more.within, gives.within room s h st);
      }

  taken : (k room : ℕ) (s : S) → Stands s → Taken Stands rest room s (fills g k room s)
  unfolding fills
  taken zero room s st = taken_none room s st
  taken (suc k) room s st =
      let piece = g.piece room s in
      by-same (length piece) 0 (λ e. rw (fills-none g (suc k) room s e) (taken_none room s st))
      (λ e.
      let h = roomy room s e in
      let more = taken k (room_behind g room s) (behind g room s) (gives.stands room s h st) in
      rw (fills-more g k room s e) (taken_more room s st h (fills g k (room_behind g room s) (behind g room s)) more))

  -- a buffer that has the least room takes nothing only where nothing is left
  last : (k room : ℕ) (s : S) → 0 < k → least ≤ room → Stands s → (fills g k room s).bytes ≡ [] → rest s ≡ []
  last zero room s i h st e = absurd (omega arith)
  last (suc k) room s i h st e =
      let piece = g.piece room s in
      gives.last room s h st
      (by-same (length piece) 0 (λ z. is-empty piece (omega arith))
      (λ z.
      let f = fills g k (room_behind g room s) (behind g room s) in
      let none : length (piece ++ f.bytes) ≡ 0 = ap length (rw (fills-more g k room s z) at e) in
      absurd (omega (arith, none, z, length-append piece f.bytes))))

  pub filling-gives : Gives (filling g) Stands rest least
  filling-gives =
      record {
        part = λ room s h st. (taken room room s st).part;
        stands = λ room s h st. (taken room room s st).stands;
        last = λ room s h st e. last room room s (omega arith) h st e;
        within = λ room s h st. (taken room room s st).within;
      }

-- how a loop fills it: the bytes so far, and with them what has yet to be put there, are the whole filling
pub record FilledTo {S : Type 0} (g : Giver S) (room : ℕ) (start : S) (bytes : List ℕ) (s : S) : Type 0 where
  pub left : ℕ
  pub within : length bytes ≤ room
  -- as no piece is empty, there are never more to come than bytes of room
  pub enough : room ≤ length bytes + left
  pub whole : fills g room room start ≡ following bytes (fills g left (room - length bytes) s)

module _ {S : Type 0} {g : Giver S} {room : ℕ} {start : S} where
  pub filled-start : FilledTo g room start [] start
  filled-start = let z : room - 0 ≡ room = omega arith in record { left = room; within = omega arith; enough = omega arith; whole = rw z }

  module _ {bytes : List ℕ} {s : S} (m : FilledTo g room start bytes s) where
    abbrev piece : List ℕ
    piece = g.piece (room - length bytes) s

    abbrev next : S
    next = g.next (room - length bytes) s

    on : (k : ℕ) → m.left ≡ k → (length piece ≡ 0 → ⊥) → length piece ≤ room - length bytes → FilledTo g room start (bytes ++ piece) next
    on zero n e h = absurd (omega (arith, m.enough))
    on (suc k) n e h =
        let long = length-append bytes piece in
        let z : room - length bytes - length piece ≡ room - length (bytes ++ piece) = omega (arith, long) in
        let more = fills g k (room - length (bytes ++ piece)) next in
        record {
          left = k;
          within = omega (arith, long, m.within);
          enough = omega (arith, long, m.enough);
          whole = (rw (n, fills-more g k (room - length bytes) s e, z) at m.whole) ∙ ap (λ (l : List ℕ). record { bytes = l; next = more.next }) (sym (append_assoc bytes piece more.bytes));
        }

    -- a piece more
    pub filled_on : (length (g.piece (room - length bytes) s) ≡ 0 → ⊥) → length (g.piece (room - length bytes) s) ≤ room - length bytes
        → FilledTo g room start (bytes ++ g.piece (room - length bytes) s) (g.next (room - length bytes) s)
    filled_on e h = on m.left refl e h

    -- the empty piece ends it
    pub filled-ends : length (g.piece (room - length bytes) s) ≡ 0 → fills g room room start ≡ record { bytes = bytes; next = s }
    filled-ends e = (rw (fills-none g m.left (room - length bytes) s e) at m.whole) ∙ ap (λ (l : List ℕ). record { bytes = l; next = s }) (append-nil bytes)
