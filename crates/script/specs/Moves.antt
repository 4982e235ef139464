-- The strings of a line, byte by byte: where a reader goes, and what it does on the way.
use Rattle.std.specs.Prelude.{ℕ, ◌+◌, ◌-◌, ◌*◌, ◌%◌, cond, Some, None, Option, ◌==◌}
use Rattle.script.specs.declared.moves.Place.{Place}
use Rattle.script.specs.declared.moves.Place.TheVariants.{Gap, Inside, Escape, High, Low, Closed, Star, Count}
use Rattle.script.specs.declared.moves.Act.{Act}
use Rattle.script.specs.declared.moves.Act.TheVariants.{Wait, Add, Join}
use Rattle.script.specs.declared.moves.Move.{Move}
use Rattle.script.specs.Number.{within, grown}

-- the value of a hexadecimal digit, of either case
abbrev pub hex_of : ℕ → Option ℕ
hex_of b =
    cond (within 48 b 57) (Some (b - 48))
    (cond (within 65 b 70) (Some (b - 65 + 10))
    (cond (within 97 b 102) (Some (b - 97 + 10)) None))

abbrev pub on_to : Place → Act → Option Move
on_to p a = Some (record { place = p; act = a })

-- the first digit of \x is remembered
abbrev pub high_to : Option ℕ → Option Move
high_to None = None
high_to (Some h) = on_to (Low h) Wait

-- the second digit of \x makes the byte; the first is below 16, so that the remainder is the number itself
abbrev pub low_to : ℕ → Option ℕ → Option Move
low_to h None = None
low_to h (Some l) = on_to Inside (Add ((h * 16 + l) % 256))

-- the number behind a star, one digit on
abbrev pub count_to : Option ℕ → Option Move
count_to None = None
count_to (Some n) = on_to (Count n) Wait

-- what the byte b means at each place: space is 32, the quote 34, the star 42, the backslash 92
abbrev pub moved : Place → ℕ → Option Move
moved Gap b = cond (b == 32) (on_to Gap Wait) (cond (b == 34) (on_to Inside Wait) None)
moved Inside b = cond (b == 34) (on_to Closed Wait) (cond (b == 92) (on_to Escape Wait) (on_to Inside (Add b)))
moved Escape b =
    cond (b == 34) (on_to Inside (Add 34))
    (cond (b == 92) (on_to Inside (Add 92))
    (cond (b == 110) (on_to Inside (Add 10))
    (cond (b == 116) (on_to Inside (Add 9))
    (cond (b == 120) (on_to High Wait) None))))
moved High b = high_to (hex_of b)
moved (Low h) b = low_to h (hex_of b)
moved Closed b = cond (b == 32) (on_to Gap (Join 1)) (cond (b == 42) (on_to Star Wait) None)
moved Star b = count_to (grown 0 b)
moved (Count n) b = cond (b == 32) (on_to Gap (Join n)) (count_to (grown n b))
