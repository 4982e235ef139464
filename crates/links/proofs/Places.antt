-- The place of an address. Assumes nothing.
use Rattle.std.proofs.Common.{◌≡◌, ℕ, suc, ◌+◌, ◌<◌, true, cond, List, [], ◌∷◌, ◌++◌, length, get_or, None, refl, arith, ap, ◌∙◌}
use Rattle.std.specs.Str.{bytes_eq}
use Rattle.std.specs.List.{find, range_with_len}
use Rattle.links.specs.Addresses.{address_at, place_from, place_of, room_for, held_by, held}

-- the first place whose address is this one, sought among the places of these addresses
place_sought : (read : ℕ → List ℕ) (a : List ℕ) (n : ℕ) (bs : List (List ℕ)) → ((i : ℕ) → i < length bs → read (n + i) ≡ get_or bs i []) → find (λ i. bytes_eq (read i) a) (range_with_len n (length bs)) ≡ place_from n bs a
place_sought read a n [] h = refl
place_sought read a n (b ∷ bs) h =
    let here : read n ≡ b = ap read (omega arith) ∙ h 0 (omega arith) in
    let later = place_sought read a (n + 1) bs (λ i l. ap read (omega arith) ∙ h (suc i) (omega arith)) in
    cc

pub place_found : (all : List (List ℕ)) (a : List ℕ) (n : ℕ) → n ≡ length all → find (λ i. bytes_eq (address_at all i) a) (range_with_len 0 n) ≡ place_of all a
place_found all a n e = ap (λ m. find (λ i. bytes_eq (address_at all i) a) (range_with_len 0 m)) e ∙ place_sought (address_at all) a 0 all (λ i l. ap (address_at all) (omega arith))

-- an address that was not there and fits
pub one_more : (all : List (List ℕ)) (a : List ℕ) → None ≡ place_of all a → true ≡ room_for all (length a) → all ++ a ∷ [] ≡ held all a
one_more all a none room = ap (λ b. cond b (all ++ a ∷ []) all) room ∙ ap (λ o. held_by o all a) none
