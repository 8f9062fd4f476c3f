-- How a stored state is laid out: 30 numbers of 64 bits and 4,407 floats, the first number naming the layout; the floats begin with the window, the carry and the warm-up.
use Rattle.std.specs.Prelude.{ℕ}

abbrev pub layout_name : ℕ
layout_name = 0x4641_4C4C_4F57_0001

abbrev pub numbers_most : ℕ
numbers_most = 30

abbrev pub floats_most : ℕ
floats_most = 4407

abbrev pub carry_first : ℕ
carry_first = 2048

abbrev pub warmup_first : ℕ
warmup_first = 4096

-- what is no array
abbrev pub singles_first : ℕ
singles_first = 4396
