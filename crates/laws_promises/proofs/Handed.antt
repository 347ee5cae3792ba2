-- What the ledger enters of a word is what the chip does: its writes are applied, its ticks are run, and a call hands over its value and
-- answers its ticks. Assumes nothing.
use mathlib.Core.Bool.{cond}
use mathlib.Core.List.{List, [], ◌∷◌, ◌++◌, map, map-append}
use mathlib.Core.Path.{◌≡◌, refl, sym, ap, ◌∙◌}
use Prim.Native.Nat.{ℕ, zero, suc, ◌+◌}
use native.Mathlib.Omega.{arith}
use borrow.Author.Tests.{eq-eqb, ne_eqb}
use lib.ListN.{length, length-append, get_or}
use Rattle.refusals.specs.Numbers.{accepted}
use Rattle.laws.proofs.Tests.{by_cond, by-eq, by_le}
use Rattle.generators.specs.declared.Generators.{Generators}
use Rattle.generators.specs.Generators.{tick}
use Rattle.gates.specs.declared.Gates.{Gates}
use Rattle.queue.specs.Waiting.{dropped}
use Rattle.queue_flush.specs.Applied.{apply_all}
use Rattle.queue_drain.specs.Drain.{drain}
use Rattle.chip.specs.declared.Chip.{Chip}
use Rattle.clocking_ticks.specs.declared.Ran.{Ran}
use Rattle.clocking_ticks.specs.Ticks.{one_more, ticking, ticked}
use Rattle.clocking_block.specs.Block.{after_one, ticks_of, words_of}
use Rattle.clocking_word.specs.Word.{drained, ran_of, word_of, word_from}
use Rattle.chip.specs.Range.{chip_in}
use Rattle.answers.specs.declared.Blocked.{Blocked}
use Rattle.calls_words.specs.Blocks.{block_no, blocked, block_buffer, sampled}
use Rattle.calls_words.proofs.Accepted.{buffer-words}
use Rattle.laws_promises.specs.History.{Call, compute-next-sample, block, answers, Entry, entry_of, entries, ticks_in, Ledger, renders, enters, is_accepted, entered}
use Rattle.laws_promises.specs.Demand.{N, T}
use Rattle.laws_promises.proofs.DemandKept.{ticks-append}

-- the writes entered are those applied, and taken off the front
pub word-applies : (c : Chip)
    → word_of c.core c.queue ≡ word_from c.core (record { voice = apply_all (entry_of c).applied c.core.voice; queue = dropped (length (entry_of c).applied) c.queue })
unfolding word_of drained drain
word-applies c = refl

-- the end entered is the next word's start
pub word-ends : (c : Chip) → (after_one c).core.start ≡ (entry_of c).end
unfolding word_of
word-ends c = refl

-- n ticks of the generators
abbrev pub ticks_run : ℕ → Generators → Generators
ticks_run zero g = g
ticks_run (suc n) g = ticks_run n (tick g)

record Ticks (r s : Ran) : Type 0 where
  more : ℕ
  ticks : s.ticks ≡ r.ticks + more
  generators : s.generators ≡ ticks_run more r.generators

ticking-runs : (k : ℕ) (gates : Gates) (rate internal : ℕ) (r : Ran) → Ticks r (ticking k gates rate internal r)
unfolding ticking
ticking-runs zero gates rate internal r = record { more = 0; ticks = omega arith; generators = refl }
ticking-runs (suc k) gates rate internal r =
    by_le (Ticks r) internal (r.accumulator + rate)
    (λ _. record { more = 1; ticks = refl; generators = refl })
    (λ _.
    let t = ticking-runs k gates rate internal (one_more gates rate r) in
    record { more = suc t.more; ticks = omega (arith, t.ticks); generators = t.generators })

ticked-runs : (gates : Gates) (rate internal : ℕ) (g : Generators) (accumulator : ℕ)
    → (ticked gates rate internal g accumulator).generators ≡ ticks_run (ticked gates rate internal g accumulator).ticks g
unfolding ticked
ticked-runs gates rate internal g accumulator =
    let t = ticking-runs internal gates rate internal (record { generators = g; gate = 0; accumulator = accumulator; ticks = 0 }) in
    let e : t.more ≡ (ticking internal gates rate internal (record { generators = g; gate = 0; accumulator = accumulator; ticks = 0 })).ticks
    = omega (arith, t.ticks)
    in
    t.generators ∙ ap (λ (n : ℕ). ticks_run n g) e

-- the ticks entered are those that the generators run
pub word-ticks : (c : Chip)
    → (after_one c).core.voice.generators ≡ ticks_run (entry_of c).ticks (apply_all (entry_of c).applied c.core.voice).generators
unfolding word_of drained drain ran_of
word-ticks c = ticked-runs _ _ _ _ _

-- n words
abbrev pub values : List Entry → List ℕ
values ws = map (λ (w : Entry). w.value) ws

pub entries-length : (n : ℕ) (c : Chip) → length (entries n c) ≡ n
unfolding entries
entries-length zero c = refl
entries-length (suc n) c = ap suc (entries-length n (after_one c))

entries-ticks : (n : ℕ) (c : Chip) → ticks_in (entries n c) ≡ ticks_of n c
unfolding entries ticks_of
entries-ticks zero c = refl
entries-ticks (suc n) c = ap (λ (t : ℕ). (entry_of c).ticks + t) (entries-ticks n (after_one c))

entries-words : (n : ℕ) (c : Chip) → values (entries n c) ≡ words_of n c
unfolding entries words_of
entries-words zero c = refl
entries-words (suc n) c = ap (λ (l : List ℕ). (entry_of c).value ∷ l) (entries-words n (after_one c))

-- N and T grow by the words and ticks that a call answers, refused or not
pub record Adds (l m : Ledger) (words ticks : ℕ) : Type 0 where
  pub counted : N m ≡ N l + words
  pub ran : T m ≡ T l + ticks

adds_none : (l : Ledger) → Adds l l 0 0
adds_none l = record { counted = omega arith; ran = omega arith }

adds : (n : ℕ) (c : Chip) (l : Ledger)
    → Adds l (cond (is_accepted (blocked n c).answer.no) (renders (entries n c) l) l) (blocked n c).answer.words (blocked n c).answer.ticks
unfolding blocked
adds n c l =
    let P : Blocked → Type 0 = λ b. Adds l (cond (is_accepted b.answer.no) (renders (entries n c) l) l) b.answer.words b.answer.ticks in
    by_cond P (chip_in c) _ _
    (λ _. by-eq P (block_no n c) accepted
    (λ _. record {
      counted = length-append l.words (entries n c) ∙ ap (λ (k : ℕ). N l + k) (entries-length n c);
      ran = ticks-append l.words (entries n c) ∙ ap (λ (k : ℕ). T l + k) (entries-ticks n c);
    })
    (λ e. rw (ne_eqb (block_no n c) accepted e) (adds_none l)))
    (λ _. adds_none l)

pub block-adds : (out : List ℕ) (c : Chip) (l : Ledger)
    → Adds l (entered (block out) c l) (blocked (length out) c).answer.words (blocked (length out) c).answer.ticks
unfolding entered answers enters
block-adds out c l = adds (length out) c l

pub sample-adds : (c : Chip) (l : Ledger) → Adds l (entered compute-next-sample c l) (blocked 1 c).answer.words (sampled c).answer.ticks
unfolding entered answers enters sampled
sample-adds c l = adds 1 c l

-- an accepted block leaves its words in the buffer, an accepted sample answers its word
entered-words : (x : Call) (c : Chip) (l : Ledger) (n : ℕ) → (answers x c).no ≡ accepted → enters x c l ≡ renders (entries n c) l
    → values (entered x c l).words ≡ values l.words ++ words_of n c
unfolding entered
entered-words x c l n e f =
    rw (eq-eqb (answers x c).no accepted e, f)
    (map-append (λ (w : Entry). w.value) l.words (entries n c) ∙ ap (λ (ws : List ℕ). values l.words ++ ws) (entries-words n c))

pub block_words : (out : List ℕ) (c : Chip) (l : Ledger) → (answers (block out) c).no ≡ accepted
    → values (entered (block out) c l).words ≡ values l.words ++ block_buffer out c
unfolding answers enters
block_words out c l e =
    entered-words (block out) c l (length out) e refl ∙ ap (λ (ws : List ℕ). values l.words ++ ws) (sym (buffer-words out c e))

pub sample-word : (c : Chip) (l : Ledger) → (answers compute-next-sample c).no ≡ accepted
    → values (entered compute-next-sample c l).words ≡ values l.words ++ (sampled c).answer.word ∷ []
unfolding answers enters sampled words_of
sample-word c l e =
    entered-words compute-next-sample c l 1 e refl
    ∙ ap (λ (ws : List ℕ). values l.words ++ get_or ws 0 0 ∷ []) (sym (buffer-words (0 ∷ []) c e))
