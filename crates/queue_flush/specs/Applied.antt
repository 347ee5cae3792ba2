-- Waiting writes applied. 01, "Registers and ports": "A flush applies all waiting writes in order". Assumes nothing.
use Rattle.std.specs.Prelude.{List, [], ◌∷◌}
use Rattle.registers.specs.declared.Voice.{Voice}
use Rattle.registers.specs.Writes.{RegisterWrite, applied_in_order}
use Rattle.queue.specs.declared.Write.{Write}

-- A write's stamp says when it is applied; its register and its value say what it does.
unfoldable pub register_writes : List Write → List RegisterWrite
register_writes [] = []
register_writes (w ∷ l) = record { register = w.register; value = w.value } ∷ register_writes l

abbrev pub apply_all : List Write → Voice → Voice
apply_all l v = applied_in_order (register_writes l) v
