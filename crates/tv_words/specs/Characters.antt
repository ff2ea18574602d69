-- The characters that lines and their words go by.
use Rattle.std.specs.Prelude.{ℕ}

-- what ends a line
abbrev pub line_feed : ℕ
line_feed = 10

-- ` `
abbrev pub space : ℕ
space = 32

-- `"`
abbrev pub quote : ℕ
quote = 34

-- `#`
abbrev pub number_sign : ℕ
number_sign = 35

-- `\`
abbrev pub backslash : ℕ
backslash = 92

-- `n`, which after a backslash stands for a line feed
abbrev pub letter_n : ℕ
letter_n = 110
