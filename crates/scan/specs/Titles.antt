-- The title of a card: what it shows of a file's name.
use Rattle.std.specs.Prelude.{Bool, true, cond, ℕ, eqb, ltb}

-- what could end a title or its line for a reader: a control byte, a quote, #, a backslash
abbrev pub is_odd : ℕ → Bool
is_odd c = cond (ltb c 32) true (cond (eqb c 34) true (cond (eqb c 35) true (cond (eqb c 92) true (eqb c 127))))

-- a byte of a title, with `_` for an odd one
abbrev pub title_byte : ℕ → ℕ
title_byte c = cond (is_odd c) 95 c
