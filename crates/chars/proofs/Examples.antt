-- The definitions at bytes that are written out.
use Rattle.std.proofs.Common.{◌≡◌, true, false, [], ◌∷◌, Some, None, refl}
use lib.Utf8.{encode}
use Rattle.std.specs.Str.{chars}
use Rattle.chars.specs.Begins.{char_at}
use Rattle.chars.specs.Clean.{first_bad}
use Rattle.chars.specs.Ranges.{wide_columns}
use Rattle.chars.specs.Widths.{text_width}

nothing : first_bad false [] ≡ None
nothing = refl

letters : first_bad false (0x70 ∷ 0xC3 ∷ 0xA9 ∷ 0xE6 ∷ 0xB8 ∷ 0xAF ∷ 0xF0 ∷ 0x9F ∷ 0x9A ∷ 0xA2 ∷ 0x70 ∷ 0xC3 ∷ 0xA9 ∷ 0xE6 ∷ 0xB8 ∷ 0xAF ∷ 0xF0 ∷ 0x9F ∷ 0x9A ∷ 0xA2 ∷ []) ≡ None
unfolding chars encode
letters = refl

tab_refused : first_bad false (0x61 ∷ 9 ∷ []) ≡ Some 1
unfolding chars encode
tab_refused = refl

tab_allowed : first_bad true (0x61 ∷ 9 ∷ 10 ∷ 13 ∷ []) ≡ Some 3
unfolding chars encode
tab_allowed = refl

overlong : first_bad true (0x61 ∷ 0xC0 ∷ 0x80 ∷ []) ≡ Some 1
unfolding chars encode
overlong = refl

surrogate : first_bad true (0xED ∷ 0xA0 ∷ 0x80 ∷ []) ≡ Some 0
unfolding chars encode
surrogate = refl

cut_off : first_bad true (0xC3 ∷ 0xA9 ∷ 0xC3 ∷ []) ≡ Some 2
unfolding chars encode
cut_off = refl

late_control : first_bad true (0xC2 ∷ 0xA0 ∷ 0xC2 ∷ 0x9F ∷ []) ≡ Some 2
unfolding chars encode
late_control = refl

ship : char_at (0xF0 ∷ 0x9F ∷ 0x9A ∷ 0xA2 ∷ 0xFF ∷ []) ≡ Some 0x1F6A2
unfolding chars encode
ship = refl

harbour : text_width wide_columns (0xE6 ∷ 0xB8 ∷ 0xAF ∷ 0x20 ∷ 0x31 ∷ []) ≡ 4
unfolding chars
harbour = refl
