-- Settled answers. 01, "How much each promise says": "For every input, refused ones too, a public call's promise settles the answer
-- and each lent byte after the call; two answers that satisfy it are shown equal". Assumes nothing.
use Rattle.std.specs.Prelude.{◌≡◌}
use seplogic.Ra.Ura.{Ura}
use base.Logic.{SProp, ent}
use contract.Lifetimes.{Lfts}
use contract.Monad.{Fun, conj, fact}
use denote.Triple.Clauses.{Clauses, Ended, Lasts, at_exit}
use denote.Triple.Entry.{Args, Res}
use types.Logic.{Logic}
use prog.Memory.{Memory}
use prog.Routine.{Routine}

-- a call's promise, as it is generated from its `ensures`: it stands in every model of the logic
abbrev pub Promise : Ended → Type 2
Promise T = (M : Type 1) (𝓤 : Ura M) → Logic 𝓤 → (Memory → SProp 𝓤) → (Routine → Fun 𝓤) → Clauses 𝓤 T

module _ (T : Ended) (promise : Promise T) where
  -- a model, and what is handed in
  pub record Handed : Type 2 where
    pub M : Type 1
    pub 𝓤 : Ura M
    pub 𝓛 : Logic 𝓤
    pub mem : Memory → SProp 𝓤
    pub run : Routine → Fun 𝓤
    pub κs : Lfts T.signature.lifetimes
    pub args : Args T.signature κs
    pub ghost : (promise M 𝓤 𝓛 mem run κs args).ghost

  -- the answer, and what each place that was lent to be written holds at the end
  abbrev pub Left : Handed → Type 0
  Left h = Res T.signature h.κs × Lasts T h.κs h.args

  -- the promise holds of them
  abbrev pub Says : (h : Handed) → Left h → SProp h.𝓤
  Says h x =
      (promise h.M h.𝓤 h.𝓛 h.mem h.run h.κs h.args).ensures h.ghost x.0 (at_exit T h.κs h.args x.1)

  -- Where the promise holds of two, it is a fact that what is seen of them is equal.
  abbrev pub SettlesAs : {See : Handed → Type 0} → ((h : Handed) → Left h → See h) → Type 2
  SettlesAs see = (h : Handed) (x y : Left h) → ent h.𝓤 (conj h.𝓤 (Says h x) (Says h y)) (fact h.𝓤 (see h x ≡ see h y))

  -- All of it is seen: the two are equal.
  abbrev pub Settles : Type 2
  Settles = SettlesAs (λ h x. x)
