-- Words and then more words: what they give, the chip that they leave and what is entered. Assumes nothing.
use mathlib.Core.Bool.{Bool, true, false, cond}
use mathlib.Core.List.{List, [], ◌∷◌, ◌++◌, append_assoc, append-nil}
use mathlib.Core.Path.{◌≡◌, refl, sym, ap, ◌∙◌}
use Prim.Native.Nat.{ℕ}
use lib.Dec.{eqb}
use lib.ListN.{length, length-append}
use Rattle.queue.specs.declared.Write.{Write}
use Rattle.chip.specs.declared.Chip.{Chip}
use Rattle.clocking_block.proofs.Joined.{words-split, after-split}
use Rattle.clocking_block.specs.Block.{after_one, after_words, words_of}
use Rattle.laws_promises.specs.History.{Entry, entry_of, entries, applied_in, restart_in, Ledger, renders}

-- the words of a buffer, and then those of another
pub words_append : (a b : List ℕ) (c : Chip) → words_of (length (a ++ b)) c ≡ words_of (length a) c ++ words_of (length b) (after_words (length a) c)
words_append a b c = rw (length-append a b) (words-split (length a) (length b) c)

pub chip-append : (a b : List ℕ) (c : Chip) → after_words (length (a ++ b)) c ≡ after_words (length b) (after_words (length a) c)
chip-append a b c = rw (length-append a b) (after-split (length a) (length b) c)

pub entries-append : (a b : List ℕ) (c : Chip) → entries (length (a ++ b)) c ≡ entries (length a) c ++ entries (length b) (after_words (length a) c)
unfolding entries after_words
entries-append [] b c = refl
entries-append (x ∷ a) b c = ap (λ (ws : List Entry). entry_of c ∷ ws) (entries-append a b (after_one c))

-- the words `a` and then `b` are entered as `a ++ b`
applied-append : (a b : List Entry) → applied_in (a ++ b) ≡ applied_in a ++ applied_in b
applied-append [] b = refl
applied-append (w ∷ a) b =
    ap (λ (ws : List Write). w.applied ++ ws) (applied-append a b) ∙ sym (append_assoc w.applied (applied_in a) (applied_in b))

either-assoc : (p q r : Bool) → cond (cond p true q) true r ≡ cond p true (cond q true r)
either-assoc true q r = refl
either-assoc false q r = refl

pub either-swap : (p q r : Bool) → cond (cond p true q) true r ≡ cond q true (cond p true r)
either-swap true true r = refl
either-swap true false r = refl
either-swap false true r = refl
either-swap false false r = refl

restart-append : (a b : List Write) → restart_in (a ++ b) ≡ cond (restart_in a) true (restart_in b)
restart-append [] b = refl
restart-append (w ∷ a) b =
    ap (λ (t : Bool). cond (eqb w.register 13) true t) (restart-append a b)
    ∙ sym (either-assoc (eqb w.register 13) (restart_in a) (restart_in b))

pub renders-append : (a b : List Entry) (l : Ledger) → renders (a ++ b) l ≡ renders b (renders a l)
renders-append a b l =
    rw (
      applied-append a b,
      restart-append (applied_in a) (applied_in b),
      either-swap (restart_in (applied_in a)) (restart_in (applied_in b)) l.restarted,
      append_assoc l.words a b,
      append_assoc l.applied (applied_in a) (applied_in b),
    )

-- no word is entered as nothing
pub renders-none : (l : Ledger) → renders [] l ≡ l
renders-none l = rw (append-nil l.words, append-nil l.applied)
