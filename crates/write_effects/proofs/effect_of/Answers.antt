-- `write_effects::effect_of` meets its contract: a law of `OneWrite` for each return. Assumes nothing.
use borrow.Author.Rules.{rules}
use Rattle.write_effects.proofs.OneWrite.{effect-none, effect-stored}
use Rattle.write_effects.proofs.effect_of.Goals as goal

pub returns-then-register-ge-REGISTERS : goal.returns-then-register-ge-REGISTERS
returns-then-register-ge-REGISTERS c = effect-none _ _ _ c.if-register-ge-REGISTERS.true

pub returns : goal.returns
returns c = rw c.masked_byte-byte.ensures (effect-stored _ _ _ c.if-register-ge-REGISTERS.false (search rules))
