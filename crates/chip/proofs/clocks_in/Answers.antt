-- `chip::clocks_in` meets its contract. Assumes nothing.
use Rattle.laws.proofs.Tests.{tests}
use Rattle.clocks.proofs.Accepted.{accepts, accepted-when, refused-when}
use Rattle.chip.specs.Range.{clocks_in}
use Rattle.chip.proofs.clocks_in.Goals as goal

pub returns-then-is_err : goal.returns-then-is_err
unfolding clocks_in
returns-then-is_err c = let f = refused-when _ _ c.accept_clocks.ensures c.is_err.ensures.value c.if-is_err.true in search tests

pub returns-then-clocks : goal.returns-then-clocks
unfolding clocks_in
returns-then-clocks c = let e = accepted-when _ _ c.accept_clocks.ensures c.is_err.ensures.value c.if-is_err.false in search tests

pub nonzero_div-clocks-2 : goal.nonzero_div-clocks-2
nonzero_div-clocks-2 c = (accepts _ _ (accepted-when _ _ c.accept_clocks.ensures c.is_err.ensures.value c.if-is_err.false)).some

pub returns-then-clocks-2 : goal.returns-then-clocks-2
unfolding clocks_in
returns-then-clocks-2 c = let e = accepted-when _ _ c.accept_clocks.ensures c.is_err.ensures.value c.if-is_err.false in search tests

pub returns-then-accumulator-clocks : goal.returns-then-accumulator-clocks
unfolding clocks_in
returns-then-accumulator-clocks c = let e = accepted-when _ _ c.accept_clocks.ensures c.is_err.ensures.value c.if-is_err.false in search tests

pub returns : goal.returns
unfolding clocks_in
returns c = let e = accepted-when _ _ c.accept_clocks.ensures c.is_err.ensures.value c.if-is_err.false in search tests
