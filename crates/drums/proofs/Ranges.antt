-- The code's float constants, as MIR has them. Assumes nothing.
use lib.Ieee.{Float, binary32, of_bits}

-- 10922.0 and 1.0
abbrev pub top : Float
top = of_bits binary32 0x462a_a800

abbrev pub one : Float
one = of_bits binary32 0x3f80_0000
