-- The longest front of bytes that is text, and the character that it begins with.
use Rattle.std.proofs.Common.{◌≡◌, ℕ, ◌+◌, ◌-◌, min, true, List, [], ◌∷◌, ◌++◌, length, take, drop, Some, None, IsUtf8, Option, sym, refl, ap, ◌∙◌, subst, append_assoc, arith, length-append, length-drop, take-append-drop, length-take, take-add, MatchOption}
use lib.Seq.{take-append_seam, take-append-add}
use lib.Utf8.{scalar, scalars, encode}
use Rattle.std.specs.Str.{StartsWithNoChar, IsValidUpTo}
use Rattle.std.proofs.lemmas.Bool.{and_parts}
use Rattle.std.proofs.lemmas.Str.{IsUtf8-append, IsUtf8-encode, length-encode, len_utf8_bounds, cons_from_encodes}
use Rattle.chars.specs.Begins.{char_at, Begins}
use Rattle.chars.proofs.Beginning.{char_begins, char_of, no_char_of}

-- a text that begins with the bytes of a character begins with that of a scalar value
pub sound_char : (bs rest : List ℕ) (c : ℕ) → IsUtf8 bs → bs ≡ encode c ++ rest → scalar c ≡ true
sound_char bs rest c u e =
    let k = cons_from_encodes u.0 rest c (u.1.1 ∙ e) in
    (and_parts (scalar c) (scalars k.0) (sym (ap scalars k.1) ∙ u.1.0)).0

no_char_in_nothing : (bs : List ℕ) → length bs ≡ 0 → StartsWithNoChar bs
no_char_in_nothing bs h c rest s e =
    omega (arith, ap length e ∙ length-append (encode c) rest, length-encode c, (len_utf8_bounds c).0)

abbrev pub Front : List ℕ → List ℕ → Type 0
Front bs text = (bs ≡ text ++ drop (length text) bs) × StartsWithNoChar (drop (length text) bs)

pub front_whole : (bs text : List ℕ) → text ≡ bs → Front bs text
front_whole bs text e = subst (Front bs) (sym e) (sym (whole bs), no_char_in_nothing (drop (length bs) bs) (rest_none bs))
  where
    rest_none : (bs : List ℕ) → length (drop (length bs) bs) ≡ 0
    rest_none bs = length-drop (length bs) bs ∙ omega arith

    whole : (bs : List ℕ) → bs ++ drop (length bs) bs ≡ bs
    whole [] = refl
    whole (b ∷ bs) = ap (λ xs. b ∷ xs) (whole bs)

pub front_cut : (bs text : List ℕ) (k n : ℕ) → text ≡ take (k - 0) bs → k ≡ n → IsValidUpTo bs n → Front bs text
front_cut bs text k n t m v =
    let z : k - 0 ≡ n = omega arith in
    let e : text ≡ take n bs = t ∙ ap (λ j. take j bs) z in
    let l : length text ≡ n = ap length e ∙ length-take n bs ∙ omega (arith, v.short) in
    let P : ℕ → Type 0 = λ m. (bs ≡ text ++ drop m bs) × StartsWithNoChar (drop m bs) in
    subst P (sym l) (sym (take-append-drop n bs) ∙ ap (λ xs. xs ++ drop n bs) (sym e), none_behind)
  where
    none_behind : StartsWithNoChar (drop n bs)
    none_behind c rest s w =
        let one : take (length (encode c)) (drop n bs) ≡ encode c = ap (take (length (encode c))) w ∙ take-append_seam (encode c) rest in
        let longer : take (n + length (encode c)) bs ≡ take n bs ++ encode c = take-add n (length (encode c)) bs ∙ ap (λ xs. take n bs ++ xs) one in
        v.longest (n + length (encode c)) (omega (arith, length-encode c, (len_utf8_bounds c).0)) (subst IsUtf8 (sym longer) (IsUtf8-append (take n bs) (encode c) v.front (IsUtf8-encode c s)))

-- no character begins the bytes if none begins their first four
pub no_char_in_four : (bs part : List ℕ) (n : ℕ) → part ≡ take n bs → n ≡ min (length bs) 4 → StartsWithNoChar part → StartsWithNoChar bs
no_char_in_four bs part n e m h c rest s w =
    let l : length bs ≡ length (encode c) + length rest = ap length w ∙ length-append (encode c) rest in
    let k : n ≡ length (encode c) + (n - length (encode c)) = omega (arith, length-encode c, (len_utf8_bounds c).1) in
    h c (take (n - length (encode c)) rest) s (e ∙ ap (λ xs. take n xs) w ∙ ap (λ j. take j (encode c ++ rest)) k ∙ take-append-add (encode c) rest (n - length (encode c)))

-- what the first character of the front says of the bytes
first_of_part : (bs part text rest : List ℕ) (n : ℕ) (r : Option ℕ) (X : Type 0) → part ≡ take n bs → n ≡ min (length bs) 4 → IsUtf8 text → Front part text → MatchOption r ((length text ≡ 0) × X) (λ c. text ≡ encode c ++ rest) → (r ≡ char_at bs) × MatchOption r (StartsWithNoChar bs) (λ c. Begins c bs)
first_of_part bs part text rest n None X e m u f h =
    let P : List ℕ → Type 0 = λ xs. StartsWithNoChar xs in
    let z : drop (length text) part ≡ part = ap (λ k. drop k part) h.0 in
    let none = no_char_in_four bs part n e m (subst P z f.1) in
    (sym (no_char_of bs none), none)
first_of_part bs part text rest n (Some c) X e m u f h =
    let behind : List ℕ = drop (length text) part in
    let s : scalar c ≡ true = sound_char text rest c u h in
    let w : bs ≡ encode c ++ ((rest ++ behind) ++ drop n bs) = sym (take-append-drop n bs) ∙ ap (λ xs. xs ++ drop n bs) (sym e ∙ f.0 ∙ ap (λ xs. xs ++ behind) h ∙ append_assoc (encode c) rest behind) ∙ append_assoc (encode c) (rest ++ behind) (drop n bs) in
    let k = char_of bs ((rest ++ behind) ++ drop n bs) c s w in
    let p = char_begins bs c k in
    (sym k, record { sound = p.0; spell = p.1 })

pub first_of_front : (bs text front rest : List ℕ) (n : ℕ) (r : Option ℕ) (X : Type 0) → n ≡ min (length bs) 4 → IsUtf8 text → Front (take (n - 0) bs) text → front ≡ text → MatchOption r ((length front ≡ 0) × X) (λ c. front ≡ encode c ++ rest) → (r ≡ char_at bs) × MatchOption r (StartsWithNoChar bs) (λ c. Begins c bs)
first_of_front bs text front rest n r X m u f e h =
    let z : n - 0 ≡ n = omega arith in
    let P : List ℕ → Type 0 = λ xs. MatchOption r ((length xs ≡ 0) × X) (λ c. xs ≡ encode c ++ rest) in
    first_of_part bs (take (n - 0) bs) text rest n r X (ap (λ k. take k bs) z) m u f (subst P e h)
