-- Which characters may stand in a text.
use Rattle.std.specs.Prelude.{ℕ, Bool, true, false, not, ◌&&◌, ◌||◌, ◌==◌, nat_le, nat_lt}
use Rattle.chars.specs.declared.control.Breaks.{Breaks}
use Rattle.chars.specs.declared.control.Breaks.TheVariants.{Refused, Allowed}

-- a character that steers a device: below 32, or 127 to 159
abbrev pub control : ℕ → Bool
control c = nat_lt c 32 || (nat_le 127 c && nat_le c 159)

-- tab or newline
abbrev pub is_break : ℕ → Bool
is_break c = c == 9 || c == 10

-- a character that may stand in a text: no control, but tab and newline where breaks may stand there
abbrev pub allowed : Bool → ℕ → Bool
allowed breaks c = not (control c) || (breaks && is_break c)

-- whether breaks may stand in the text
abbrev pub breaks_in : Breaks → Bool
breaks_in Refused = false
breaks_in Allowed = true
