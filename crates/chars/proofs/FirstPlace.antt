-- The first bad place: how a search from the front finds it, and what it means.
use Rattle.std.proofs.Common.{◌≡◌, ℕ, zero, suc, ◌+◌, ◌-◌, ◌<◌, ◌≤◌, Bool, true, false, cond, List, [], ◌∷◌, ◌++◌, length, take, drop, Some, None, IsUtf8, Option, sym, refl, ap, ◌∙◌, subst, append_assoc, append-nil, add-zero, zero-add, arith, length-append, length-drop, take-append-drop, length-take}
use lib.Seq.{take-append-add, drop-append-add}
use lib.Utf8.{scalar, scalars, encode, encodes}
use Rattle.std.specs.Char.{len_utf8}
use Rattle.std.proofs.lemmas.Bool.{and_from, and_parts, both_ways, false≢true, cond-true, cond-false}
use Rattle.std.proofs.lemmas.Str.{length-encode, len_utf8_bounds}
use Rattle.chars.specs.Begins.{char_at}
use Rattle.chars.specs.Controls.{allowed}
use Rattle.chars.specs.Clean.{stands, tail_bytes, bad_from, first_bad, all_allowed, Clean, FirstBad}
use Rattle.chars.proofs.Beginning.{char_begins, char_of, char_of_bytes}

-- the bytes of a character after its first are passed over
tail_passed : (b : Bool) (xs ys : List ℕ) (p : ℕ) → bad_from b (length xs) p (xs ++ ys) ≡ bad_from b 0 (p + length xs) ys
tail_passed b [] ys p = ap (λ n. bad_from b 0 n ys) (sym (add-zero p))
tail_passed b (x ∷ xs) ys p =
    let e : suc p + length xs ≡ p + suc (length xs) = omega arith in
    tail_passed b xs ys (suc p) ∙ ap (λ n. bad_from b 0 n ys) e

-- a character that may stand in a text is passed over
pub char_passed : (b : Bool) (c : ℕ) (ys : List ℕ) (p : ℕ) → scalar c ≡ true → allowed b c ≡ true → bad_from b 0 p (encode c ++ ys) ≡ bad_from b 0 (p + length (encode c)) ys
char_passed b c ys p s a = go (encode c) (length-encode c) (char_of_bytes c ys s)
  where
    go : (xs : List ℕ) → length xs ≡ len_utf8 c → char_at (xs ++ ys) ≡ Some c → bad_from b 0 p (xs ++ ys) ≡ bad_from b 0 (p + length xs) ys
    go [] l e = absurd (omega (arith, (len_utf8_bounds c).0))
    go (x ∷ xs) l e =
        let n : len_utf8 c - 1 ≡ length xs = omega arith in
        let m : suc p + length xs ≡ p + suc (length xs) = omega arith in
        ap (λ o. cond (stands b o) (bad_from b (tail_bytes o) (suc p) (xs ++ ys)) (Some p)) e
        ∙ cond-true (allowed b c) (bad_from b (len_utf8 c - 1) (suc p) (xs ++ ys)) (Some p) a
        ∙ ap (λ k. bad_from b k (suc p) (xs ++ ys)) n
        ∙ tail_passed b xs ys (suc p)
        ∙ ap (λ k. bad_from b 0 k ys) m

-- the search ends at a place where no character stands
pub bad_here : (b : Bool) (p : ℕ) (bs : List ℕ) → 0 < length bs → stands b (char_at bs) ≡ false → bad_from b 0 p bs ≡ Some p
bad_here b p [] h e = absurd (omega arith)
bad_here b p (x ∷ xs) h e =
    cond-false (stands b (char_at (x ∷ xs))) (bad_from b (tail_bytes (char_at (x ∷ xs))) (suc p) xs) (Some p) e

standing : (b : Bool) (o : Option ℕ) → stands b o ≡ true → (c : ℕ) × (o ≡ Some c) × (allowed b c ≡ true)
standing b None h = absurd (false≢true h)
standing b (Some c) h = (c, refl, h)

-- what the answer of a search from p says of the bytes
abbrev Found : Bool → ℕ → List ℕ → Option ℕ → Type 0
Found b p bs None = Clean b bs
Found b p bs (Some q) = (k : ℕ) × (q ≡ p + k) × FirstBad b bs k

nothing_is_clean : (b : Bool) → Clean b []
nothing_is_clean b = record { chars = []; sound = refl; stand = refl; spell = refl }

clean_by_char : (b : Bool) (c : ℕ) (rest : List ℕ) → scalar c ≡ true → allowed b c ≡ true → Clean b rest → Clean b (encode c ++ rest)
clean_by_char b c rest s a h =
    record {
      chars = c ∷ h.chars;
      sound = and_from (scalar c) (scalars h.chars) s h.sound;
      stand = and_from (allowed b c) (all_allowed b h.chars) a h.stand;
      spell = ap (λ xs. encode c ++ xs) h.spell;
    }

-- what is found behind a character is found with the character
found_past_char : (b : Bool) (p c : ℕ) (rest : List ℕ) (o : Option ℕ) → scalar c ≡ true → allowed b c ≡ true → Found b (p + length (encode c)) rest o → Found b p (encode c ++ rest) o
found_past_char b p c rest None s a h = clean_by_char b c rest s a h
found_past_char b p c rest (Some q) s a h =
    let n : ℕ = length (encode c) in
    let k : ℕ = h.0 in
    let e : q ≡ p + (n + k) = omega (arith, h.1) in (
      n + k,
      e,
      record {
        inside = omega (arith, length-append (encode c) rest, h.2.inside);
        before = subst (Clean b) (sym (take-append-add (encode c) rest k)) (clean_by_char b c (take k rest) s a h.2.before);
        here = λ d more t u w. h.2.here d more t u (sym (drop-append-add (encode c) rest k) ∙ w);
      },
    )

-- at a place where no character stands
found_here : (b : Bool) (p : ℕ) (bs : List ℕ) → 0 < length bs → stands b (char_at bs) ≡ false → Found b p bs (Some p)
found_here b p bs h e = (
  0,
  sym (add-zero p),
  record {
    inside = h;
    before = nothing_is_clean b;
    here = λ c rest s a w. both_ways (stands b (char_at bs)) e (ap (stands b) (char_of bs rest c s w) ∙ a);
  },
)

found : (n : ℕ) (b : Bool) (p : ℕ) (bs : List ℕ) → length bs ≤ n → Found b p bs (bad_from b 0 p bs)
found n b p [] h = nothing_is_clean b
found zero b p (x ∷ xs) h = absurd (omega arith)
found (suc n) b p (x ∷ xs) h = go (stands b (char_at (x ∷ xs))) refl (λ q rest l. found n b q rest l)
  where
    go : (t : Bool) → stands b (char_at (x ∷ xs)) ≡ t → ((q : ℕ) (rest : List ℕ) → length rest ≤ n → Found b q rest (bad_from b 0 q rest)) → Found b p (x ∷ xs) (bad_from b 0 p (x ∷ xs))
    go true e ih =
        let w = standing b (char_at (x ∷ xs)) e in
        let c : ℕ = w.0 in
        let r = char_begins (x ∷ xs) c w.1 in
        let rest : List ℕ = drop (len_utf8 c) (x ∷ xs) in
        let l : length rest ≤ n = omega (arith, ap length r.1 ∙ length-append (encode c) rest, length-encode c, (len_utf8_bounds c).0) in
        let P : List ℕ → Type 0 = λ bs. Found b p bs (bad_from b 0 p bs) in
        subst P (sym r.1)
        (subst (Found b p (encode c ++ rest)) (sym (char_passed b c rest p r.0 w.2))
        (found_past_char b p c rest (bad_from b 0 (p + length (encode c)) rest) r.0 w.2 (ih (p + length (encode c)) rest l)))
    go false e ih =
        subst (Found b p (x ∷ xs)) (sym (bad_here b p (x ∷ xs) (omega arith) e)) (found_here b p (x ∷ xs) (omega arith) e)

-- bytes with no bad place are a clean text
pub clean_from_none : (b : Bool) (bs : List ℕ) → first_bad b bs ≡ None → Clean b bs
clean_from_none b bs e = subst (Found b 0 bs) e (found (length bs) b 0 bs (omega arith))

-- and so they are text
pub utf8_from_none : (b : Bool) (bs : List ℕ) → first_bad b bs ≡ None → IsUtf8 bs
utf8_from_none b bs e = let h = clean_from_none b bs e in (h.chars, (h.sound, h.spell))

-- the first bad place is one at which no character starts that may stand in a text, and the bytes before it are clean
pub first_bad_from_some : (b : Bool) (bs : List ℕ) (p : ℕ) → first_bad b bs ≡ Some p → FirstBad b bs p
first_bad_from_some b bs p e =
    let h = subst (Found b 0 bs) e (found (length bs) b 0 bs (omega arith)) in
    let k : h.0 ≡ p = omega (arith, h.1) in
    subst (FirstBad b bs) k h.2

-- a clean text is passed over whole
chars_passed : (b : Bool) (cs ys : List ℕ) (p : ℕ) → scalars cs ≡ true → all_allowed b cs ≡ true → bad_from b 0 p (encodes cs ++ ys) ≡ bad_from b 0 (p + length (encodes cs)) ys
chars_passed b [] ys p s a = ap (λ n. bad_from b 0 n ys) (sym (add-zero p))
chars_passed b (c ∷ cs) ys p s a =
    let t = and_parts (scalar c) (scalars cs) s in
    let u = and_parts (allowed b c) (all_allowed b cs) a in
    let m : p + length (encode c) + length (encodes cs) ≡ p + length (encode c ++ encodes cs) = omega (arith, length-append (encode c) (encodes cs)) in
    ap (bad_from b 0 p) (append_assoc (encode c) (encodes cs) ys)
    ∙ char_passed b c (encodes cs ++ ys) p t.0 u.0
    ∙ chars_passed b cs ys (p + length (encode c)) t.1 u.1
    ∙ ap (λ n. bad_from b 0 n ys) m

-- and back: a clean text has no bad place
pub none_from_clean : (b : Bool) (bs : List ℕ) → Clean b bs → first_bad b bs ≡ None
none_from_clean b bs h =
    ap (first_bad b) (sym h.spell ∙ sym (append-nil (encodes h.chars)))
    ∙ chars_passed b h.chars [] 0 h.sound h.stand

-- and a place with these properties is the first bad one
pub some_from_first_bad : (b : Bool) (bs : List ℕ) (p : ℕ) → FirstBad b bs p → first_bad b bs ≡ Some p
some_from_first_bad b bs p h =
    ap (first_bad b) split
    ∙ chars_passed b h.before.chars (drop p bs) 0 h.before.sound h.before.stand
    ∙ bad_here b (0 + length before) (drop p bs) (omega (arith, length-drop p bs, h.inside)) (none_stands (stands b (char_at (drop p bs))) refl)
    ∙ ap Some place
  where
    before : List ℕ
    before = encodes h.before.chars

    split : bs ≡ before ++ drop p bs
    split = sym (take-append-drop p bs) ∙ ap (λ xs. xs ++ drop p bs) (sym h.before.spell)

    place : 0 + length before ≡ p
    place = zero-add (length before) ∙ ap length h.before.spell ∙ length-take p bs ∙ omega (arith, h.inside)

    none_stands : (t : Bool) → stands b (char_at (drop p bs)) ≡ t → stands b (char_at (drop p bs)) ≡ false
    none_stands false e = e
    none_stands true e =
        let w = standing b (char_at (drop p bs)) e in
        let r = char_begins (drop p bs) w.0 w.1 in
        absurd (h.here w.0 (drop (len_utf8 w.0) (drop p bs)) r.0 w.2 r.1)
