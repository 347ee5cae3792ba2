-- `put_number` meets its contract: the digits stand in the buffer, and the byte that ends them after them. Assumes nothing.
use Rattle.std.proofs.Common.{arith}
use Rattle.text_put.proofs.Putting.{last-inside, number-put}
use Rattle.text_put.proofs.put_number.Goals as goal

pub bounds-out-last : goal.bounds-out-last
bounds-out-last c =
    let inside = last-inside c.args.out.now c.decimal-k.new.out c.args.at (omega arith) c.decimal-k.ensures.len c.decimal-k.ensures.digits (omega arith) c.put_bytes-last.ensures.place in
    omega (arith, inside, c.put_bytes-last.auto.out)

pub overflow_add-result : goal.overflow_add-result
overflow_add-result c =
    let inside = last-inside c.args.out.now c.decimal-k.new.out c.args.at (omega arith) c.decimal-k.ensures.len c.decimal-k.ensures.digits (omega arith) c.put_bytes-last.ensures.place in
    omega (arith, inside)

pub returns : goal.returns
returns c =
    let both = number-put c.args.out.now c.decimal-k.new.out c.args.at (omega arith) c.decimal-k.ensures.len c.decimal-k.ensures.digits (omega arith) c.put_bytes-last.ensures.place c.args.end c.put_bytes-last.ensures.text in
    record { place = both.0; text = both.1 }
