-- What the bytes of a text are to its tokens.
use Rattle.std.specs.Prelude.{ℕ, Bool, ◌==◌, ◌||◌, not}

-- space, tab, line feed, carriage return
abbrev pub is_blank : ℕ → Bool
is_blank b = b == 32 || b == 9 || b == 10 || b == 13

-- ( ) , . ; = * + - @
abbrev pub is_sign : ℕ → Bool
is_sign b = b == 40 || b == 41 || b == 44 || b == 46 || b == 59 || b == 61 || b == 42 || b == 43 || b == 45 || b == 64

-- all but a line feed
abbrev pub is_inside_line : ℕ → Bool
is_inside_line b = not (b == 10)
