-- Laws of the percent form. Assumes nothing.
use Rattle.std.proofs.Common.{◌≡◌, ℕ, suc, ◌+◌, ◌-◌, ◌/◌, ◌%◌, ◌<◌, ◌≤◌, Bool, true, false, cond, leb, List, [], ◌∷◌, ◌++◌, length, get_or, take, drop, Some, None, Option, sym, refl, ap, ◌∙◌, subst, arith, length-append}
use borrow.Rule.Slice.PartMut.{put_mid}
use Rattle.std.proofs.lemmas.List.{take_at, drop_at, drop-drop, take_all, drop_all, length-drop, at_drop_more, take_more, flat_map_more, append_assoc, append-nil}
use Rattle.std.proofs.ByRecursion.{All-append}
use Rattle.std.proofs.lemmas.Bool.{lt-leb, leb-true}
use Rattle.std.proofs.lemmas.Bool.Decides.{nat_tests}
use Rattle.chars.specs.Hex.{hex_digit}
use Rattle.address.specs.Percent.{printable, percent_byte, percent, Printable}

-- one byte more of what is left
pub percent_left : (xs : List ℕ) (i : ℕ) → i < length xs → length (percent (drop i xs)) ≡ length (percent_byte (get_or xs i 0)) + length (percent (drop (i + 1) xs))
percent_left xs i h = at_drop_more (λ l. length (percent l)) xs i 0 h ∙ length-append (percent_byte (get_or xs i 0)) (percent (drop (i + 1) xs))

-- one byte more of what is done
pub percent_done : (xs : List ℕ) (i : ℕ) → i < length xs → percent (take (i + 1) xs) ≡ percent (take i xs) ++ percent_byte (get_or xs i 0)
percent_done xs i h = ap percent (take_more xs i 0 h) ∙ sym (flat_map_more percent_byte [] (take i xs) (get_or xs i 0))

pub byte_grows : (b : ℕ) → (t : Bool) → printable b ≡ t → length (percent_byte b) ≡ cond t 1 3
byte_grows b true e = rw e
byte_grows b false e = rw e

pub no_shorter : (xs : List ℕ) → length xs ≤ length (percent xs)
no_shorter [] = omega arith
no_shorter (b ∷ bs) = go (printable b) refl (no_shorter bs)
  where
    go : (t : Bool) → printable b ≡ t → length bs ≤ length (percent bs) → suc (length bs) ≤ length (percent_byte b ++ percent bs)
    go true e ih = omega (arith, length-append (percent_byte b) (percent bs), byte_grows b true e)
    go false e ih = omega (arith, length-append (percent_byte b) (percent bs), byte_grows b false e)

-- printable bytes are their own percent form
pub printable_same : (xs : List ℕ) → Printable xs → percent xs ≡ xs
printable_same [] h = refl
printable_same (b ∷ bs) h = rw h.0 (ap (λ l. b ∷ l) (printable_same bs h.1))

-- and no others are
pub same_printable : (xs : List ℕ) → percent xs ≡ xs → Printable xs
same_printable [] e = tt
same_printable (b ∷ bs) e = go (printable b) refl (same_printable bs)
  where
    go : (t : Bool) → printable b ≡ t → (percent bs ≡ bs → Printable bs) → Printable (b ∷ bs)
    go true h ih = (h, ih (let k : b ∷ percent bs ≡ percent_byte b ++ percent bs = rw h refl in cc))
    go false h ih = absurd (omega (arith, no_shorter bs, byte_grows b false h, length-append (percent_byte b) (percent bs), ap length e))

-- the answer of a count that ends above the room
pub counted_over : (n room : ℕ) → room < n → ◌≡◌ {A = Option ℕ} None (cond (leb n room) (Some n) None)
counted_over n room h = rw (lt-leb n room h)

-- a byte's percent form is printable, and so is that of bytes
byte_printable : (b : ℕ) → b < 256 → Printable (percent_byte b)
byte_printable b h = go (printable b) refl
  where
    digit : (n : ℕ) → n < 16 → printable (hex_digit n) ≡ true
    digit n k = grind (arith, nat_tests)

    go : (t : Bool) → printable b ≡ t → Printable (percent_byte b)
    go true e = rw e (e, tt)
    go false e = rw e (refl, (digit (b / 16) (omega arith), (digit (b % 16) (omega arith), tt)))

pub percent_printable : (xs : List ℕ) → ((i : ℕ) → get_or xs i 0 < 256) → Printable (percent xs)
percent_printable [] h = tt
percent_printable (b ∷ bs) h =
    All-append (λ x. printable x ≡ true) (percent_byte b) (percent bs) (byte_printable b (h 0)) (percent_printable bs (λ i. h (suc i)))

-- the same of the written output, and that it is the address exactly where that is printable
abbrev pub Written : List ℕ → List ℕ → Option ℕ → Type 0
Written xs out r =
    ((n : ℕ) → r ≡ Some n → Printable (take n out))
    × ((n : ℕ) → r ≡ Some n → (take n out ≡ xs → Printable xs) × (Printable xs → take n out ≡ xs))

pub written_form : (xs out out' : List ℕ) (m : ℕ) → ((i : ℕ) → get_or xs i 0 < 256) → m ≡ length (percent xs) → out' ≡ percent xs ++ drop m out → Written xs out' (Some m)
written_form xs out out' m h k e = (
  (λ n p. subst (λ ys. Printable ys) (sym (front n p)) (percent_printable xs h)),
  (λ n p. ((λ q. same_printable xs (sym (front n p) ∙ q)), (λ q. front n p ∙ printable_same xs q))),
)
  where
    front : (n : ℕ) → Some m ≡ Some n → take n out' ≡ percent xs
    front n p =
        let z : n ≡ m = cc in
        rw (z, e) (take_at (percent xs) (drop m out) m (sym k))

-- what a byte written behind the percent form of others leaves
pub put_more : (xs out left new : List ℕ) (i at count : ℕ) → i < length xs →
    at ≡ length (percent (take i xs)) → left ≡ percent (take i xs) ++ drop at out →
    count ≡ length (percent_byte (get_or xs i 0)) →
    new ≡ percent_byte (get_or xs i 0) ++ drop (length (percent_byte (get_or xs i 0))) (take (length left - at) (drop at left)) →
    put_mid at (length left - at) left new ≡ percent (take (i + 1) xs) ++ drop (at + count) out
put_more xs out left new i at count h a l e w =
    ap (λ ys. ys ++ (new ++ drop (length left - at) (drop at left))) front
    ∙ ap (λ ys. percent (take i xs) ++ (ys ++ drop (length left - at) (drop at left))) written
    ∙ ap (λ ys. percent (take i xs) ++ ((percent_byte (get_or xs i 0) ++ drop (at + count) out) ++ ys)) (drop_all _ (drop at left) (omega (arith, length-drop at left)))
    ∙ ap (λ ys. percent (take i xs) ++ ys) (append-nil (percent_byte (get_or xs i 0) ++ drop (at + count) out))
    ∙ sym (append_assoc (percent (take i xs)) (percent_byte (get_or xs i 0)) (drop (at + count) out))
    ∙ ap (λ ys. ys ++ drop (at + count) out) (sym (percent_done xs i h))
  where
    front : take at left ≡ percent (take i xs)
    front = ap (take at) l ∙ take_at (percent (take i xs)) (drop at out) at (sym a)

    behind : drop at left ≡ drop at out
    behind = ap (drop at) l ∙ drop_at (percent (take i xs)) (drop at out) at (sym a)

    written : new ≡ percent_byte (get_or xs i 0) ++ drop (at + count) out
    written =
        w ∙ ap (λ ys. percent_byte (get_or xs i 0) ++ drop (length (percent_byte (get_or xs i 0))) ys) (take_all _ (drop at left) (omega (arith, length-drop at left)) ∙ behind)
        ∙ ap (λ n. percent_byte (get_or xs i 0) ++ drop n (drop at out)) (sym e)
        ∙ ap (λ ys. percent_byte (get_or xs i 0) ++ ys) (drop-drop count at out)

-- the place behind that byte
pub place_more : (xs : List ℕ) (i at count : ℕ) → i < length xs → at ≡ length (percent (take i xs)) → count ≡ length (percent_byte (get_or xs i 0)) → at + count ≡ length (percent (take (i + 1) xs))
place_more xs i at count h a e =
    omega (arith, length-append (percent (take i xs)) (percent_byte (get_or xs i 0)), ap length (percent_done xs i h))

-- what an answered count says
pub counted_some : (m n room : ℕ) → Some m ≡ cond (leb n room) (Some n) None → (m ≡ n) × (n ≤ room)
counted_some m n room e = go (leb n room) refl
  where
    go : (t : Bool) → leb n room ≡ t → (m ≡ n) × (n ≤ room)
    go true h = (let k : Some m ≡ Some n = e ∙ rw h in cc, leb-true n room h)
    go false h = let k : ◌≡◌ {A = Option ℕ} (Some m) None = e ∙ rw h in let z : ◌≡◌ {A = ℕ} 0 1 = cc in absurd (omega arith)
