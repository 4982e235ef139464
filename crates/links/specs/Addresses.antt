-- Lists of addresses.
use Rattle.std.specs.Prelude.{ℕ, ◌+◌, Bool, true, false, cond, not, ◌&&◌, ◌||◌, List, [], ◌∷◌, ◌++◌, length, Some, None, Option, nat_le, nat_lt, slice_index_or}
use Rattle.std.specs.Str.{bytes_eq}

-- how many bytes the addresses have together
abbrev pub bytes_in : List (List ℕ) → ℕ
bytes_in [] = 0
bytes_in (a ∷ all) = length a + bytes_in all

-- the address at a place, or the empty one where there is none
abbrev pub address_at : List (List ℕ) → ℕ → List ℕ
address_at all place = slice_index_or all place []

-- the place of the first address that equals this one, where the list's first place has that number
abbrev pub place_from : ℕ → List (List ℕ) → List ℕ → Option ℕ
place_from n [] a = None
place_from n (b ∷ bs) a = cond (bytes_eq b a) (Some n) (place_from (n + 1) bs a)

-- the place of the first address that equals this one
abbrev pub place_of : List (List ℕ) → List ℕ → Option ℕ
place_of all a = place_from 0 all a

-- an address stands among others
abbrev pub amid : List (List ℕ) → List ℕ → Bool
amid [] a = false
amid (b ∷ bs) a = bytes_eq b a || amid bs a

-- no two addresses are equal
abbrev pub distinct : List (List ℕ) → Bool
distinct [] = true
distinct (a ∷ all) = not (amid all a) && distinct all

-- another address of that length fits: there are at most 256, with 16,384 bytes together
abbrev pub room_for : List (List ℕ) → ℕ → Bool
room_for all n = nat_lt (length all) 256 && nat_le (bytes_in all + n) 16384

-- the place that an address gets: its own, if it has one, or the next, if it fits
abbrev pub placed : Option ℕ → List (List ℕ) → List ℕ → Option ℕ
placed (Some place) all a = Some place
placed None all a = cond (room_for all (length a)) (Some (length all)) None

-- the place that an address gets among these
abbrev pub interned : List (List ℕ) → List ℕ → Option ℕ
interned all a = placed (place_of all a) all a

-- the addresses then: one more, if it had no place and fits
abbrev pub held_by : Option ℕ → List (List ℕ) → List ℕ → List (List ℕ)
held_by (Some place) all a = all
held_by None all a = cond (room_for all (length a)) (all ++ a ∷ []) all

-- the addresses once this one is looked up and, if need be, added
abbrev pub held : List (List ℕ) → List ℕ → List (List ℕ)
held all a = held_by (place_of all a) all a
