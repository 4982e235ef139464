-- What is printed of bytes reads back as the same bytes.
use Rattle.std.proofs.Common.{◌≡◌, ℕ, zero, suc, ◌+◌, ◌-◌, ◌*◌, ◌/◌, ◌%◌, ◌<◌, Bool, true, false, cond, ◌||◌, eqb, ltb, leb, List, [], ◌∷◌, ◌++◌, length, get_or, drop, Some, None, Option, sym, refl, ap, ◌∙◌, subst, append_assoc, append-nil, arith}
use Rattle.std.specs.Char.{len_utf8}
use Rattle.std.specs.List.{AllByRecursion}
use Rattle.std.proofs.ByRecursion.{All-from_get_or}
use Rattle.std.proofs.lemmas.List.{drop_at}
use Rattle.std.proofs.lemmas.Bool.{eq-eqb, ne_eqb, eqb-true, ltb-true, ltb-false, le-leb, lt-leb, or_parts, and_from, and_right, cond-true, cond-false, true≢false}
use Rattle.std.proofs.lemmas.Str.{length-encode, inside_one}
use Rattle.chars.specs.Begins.{char_at}
use Rattle.chars.specs.Controls.{control}
use Rattle.chars.proofs.Beginning.{char_begins}
use Rattle.script.specs.declared.moves.Place.TheVariants.{Inside}
use Rattle.script.specs.declared.moves.Act.TheVariants.{Add}
use Rattle.script.specs.Number.{within}
use Rattle.script.specs.Moves.{hex_of, on_to, high_to, low_to, moved}
use Rattle.script.specs.Strings.{Reading, reading, taken, read_on, settled, string_of}
use Rattle.chars.specs.Hex.{hex_digit}
use Rattle.script.specs.Printed.{special, plain_bytes, plain, escaped, inner, printed, ReadsBack}

-- a digit that was printed is read
digit_back : (n : ℕ) → n < 16 → hex_of (hex_digit n) ≡ Some n
digit_back n h = go (ltb n 10) refl
  where
    go : (t : Bool) → ltb n 10 ≡ t → hex_of (cond t (48 + n) (55 + n)) ≡ Some n
    go true e =
        let small = ltb-true n 10 e in
        let same : 48 + n - 48 ≡ n = omega arith in
        cond-true (within 48 (48 + n) 57) _ _ (and_from (leb 48 (48 + n)) (leb (48 + n) 57) (le-leb _ _ (omega arith)) (le-leb _ _ (omega arith))) ∙ ap (λ k. Some k) same
    go false e =
        let large = ltb-false n 10 e in
        let same : 55 + n - 65 + 10 ≡ n = omega arith in
        cond-false (within 48 (55 + n) 57) _ _ (and_right (leb 48 (55 + n)) (leb (55 + n) 57) (lt-leb _ _ (omega arith)))
        ∙ cond-true (within 65 (55 + n) 70) _ _ (and_from (leb 65 (55 + n)) (leb (55 + n) 70) (le-leb _ _ (omega arith)) (le-leb _ _ (omega arith)))
        ∙ ap (λ k. Some k) same

-- inside a string, with these bytes of it read
abbrev inside : List ℕ → Option Reading
inside s = Some (reading Inside [] s)

-- \xNN reads as its byte
hex_back : (b : ℕ) (s rest : List ℕ) → b < 256 → read_on (inside s) (92 ∷ 120 ∷ hex_digit (b / 16) ∷ hex_digit (b % 16) ∷ rest) ≡ read_on (inside (s ++ b ∷ [])) rest
hex_back b s rest h =
    let same : ((b / 16) * 16 + b % 16) % 256 ≡ b = omega arith in
    ap (λ o. read_on (taken (high_to o) [] s) (hex_digit (b % 16) ∷ rest)) (digit_back (b / 16) (omega arith))
    ∙ ap (λ o. read_on (taken (low_to (b / 16) o) [] s) rest) (digit_back (b % 16) (omega arith))
    ∙ ap (λ k. read_on (inside (s ++ k ∷ [])) rest) same

-- an escaped byte reads as that byte
escape_back : (b : ℕ) (s rest : List ℕ) → b < 256 → read_on (inside s) (escaped b ++ rest) ≡ read_on (inside (s ++ b ∷ [])) rest
escape_back b s rest h = quote (eqb b 34) refl
  where
    tab : (t : Bool) → eqb b 9 ≡ t → read_on (inside s) (cond t (92 ∷ 116 ∷ []) (92 ∷ 120 ∷ hex_digit (b / 16) ∷ hex_digit (b % 16) ∷ []) ++ rest) ≡ read_on (inside (s ++ b ∷ [])) rest
    tab true e = ap (λ k. read_on (inside (s ++ k ∷ [])) rest) (sym (eqb-true b 9 e))
    tab false e = hex_back b s rest h

    newline : (t : Bool) → eqb b 10 ≡ t → read_on (inside s) (cond t (92 ∷ 110 ∷ []) (cond (eqb b 9) (92 ∷ 116 ∷ []) (92 ∷ 120 ∷ hex_digit (b / 16) ∷ hex_digit (b % 16) ∷ [])) ++ rest) ≡ read_on (inside (s ++ b ∷ [])) rest
    newline true e = ap (λ k. read_on (inside (s ++ k ∷ [])) rest) (sym (eqb-true b 10 e))
    newline false e = tab (eqb b 9) refl

    backslash : (t : Bool) → eqb b 92 ≡ t → read_on (inside s) (cond t (92 ∷ 92 ∷ []) (cond (eqb b 10) (92 ∷ 110 ∷ []) (cond (eqb b 9) (92 ∷ 116 ∷ []) (92 ∷ 120 ∷ hex_digit (b / 16) ∷ hex_digit (b % 16) ∷ []))) ++ rest) ≡ read_on (inside (s ++ b ∷ [])) rest
    backslash true e = ap (λ k. read_on (inside (s ++ k ∷ [])) rest) (sym (eqb-true b 92 e))
    backslash false e = newline (eqb b 10) refl

    quote : (t : Bool) → eqb b 34 ≡ t → read_on (inside s) (cond t (92 ∷ 34 ∷ []) (cond (eqb b 92) (92 ∷ 92 ∷ []) (cond (eqb b 10) (92 ∷ 110 ∷ []) (cond (eqb b 9) (92 ∷ 116 ∷ []) (92 ∷ 120 ∷ hex_digit (b / 16) ∷ hex_digit (b % 16) ∷ [])))) ++ rest) ≡ read_on (inside (s ++ b ∷ [])) rest
    quote true e = ap (λ k. read_on (inside (s ++ k ∷ [])) rest) (sym (eqb-true b 34 e))
    quote false e = backslash (eqb b 92) refl

-- a byte that may stand as it is: no quote and no backslash
abbrev Fine : ℕ → Type 0
Fine b = (b ≡ 34 → ⊥) × (b ≡ 92 → ⊥)

-- such a byte reads as itself
fine_moves : (b : ℕ) → Fine b → moved Inside b ≡ on_to Inside (Add b)
fine_moves b fine = cond-false _ _ _ (ne_eqb b 34 fine.0) ∙ cond-false _ _ _ (ne_eqb b 92 fine.1)

byte_back : (b : ℕ) (s rest : List ℕ) → Fine b → read_on (inside s) (b ∷ rest) ≡ read_on (inside (s ++ b ∷ [])) rest
byte_back b s rest fine = ap (λ o. read_on (taken o [] s) rest) (fine_moves b fine)

-- the first k bytes may stand as they are
abbrev FineTo : ℕ → List ℕ → Type 0
FineTo k bs = (i : ℕ) → i < k → Fine (get_or bs i 0)

special_not : (c b : ℕ) → special c ≡ false → c ≡ b → (eqb b 34 || eqb b 92) ≡ false
special_not c b e same = subst (λ x. (eqb x 34 || eqb x 92) ≡ false) same (or_parts (control c) (eqb c 34 || eqb c 92) e).1

-- a byte of a character that is not special may stand as it is
char_fine : (bs : List ℕ) (c i : ℕ) → char_at bs ≡ Some c → special c ≡ false → i < len_utf8 c → Fine (get_or bs i 0)
char_fine bs c i is e h =
    let begins = (char_begins bs c is).1 in
    let one : get_or bs i 0 < 128 → c ≡ get_or bs i 0 = λ low. inside_one c (drop (len_utf8 c) bs) bs i begins (omega (arith, length-encode c)) low in (
      (λ q. true≢false (sym (eq-eqb _ 34 q) ∙ (or_parts (eqb (get_or bs i 0) 34) (eqb (get_or bs i 0) 92) (special_not c _ e (one (omega arith)))).0)),
      (λ q. true≢false (sym (eq-eqb _ 92 q) ∙ (or_parts (eqb (get_or bs i 0) 34) (eqb (get_or bs i 0) 92) (special_not c _ e (one (omega arith)))).1)),
    )

-- bytes that stand as they are may do so
plain_fine : (bs : List ℕ) → FineTo (plain bs) bs
plain_fine bs = go (char_at bs) refl
  where
    one : (c : ℕ) → char_at bs ≡ Some c → (t : Bool) → special c ≡ t → FineTo (cond t 0 (len_utf8 c)) bs
    one c is true e i h = absurd (omega arith)
    one c is false e i h = char_fine bs c i is e h

    go : (o : Option ℕ) → char_at bs ≡ o → FineTo (plain_bytes o) bs
    go None is i h = absurd (omega arith)
    go (Some c) is i h = one c is (special c) refl i h

-- what is printed between the quotes reads as the bytes
inner_back : (bs : List ℕ) (k : ℕ) (s rest : List ℕ) → FineTo k bs → AllByRecursion (λ b. b < 256) bs → read_on (inside s) (inner k bs ++ rest) ≡ read_on (inside (s ++ bs)) rest
inner_back [] k s rest fine small = ap (λ l. read_on (inside l) rest) (sym (append-nil s))
inner_back (b ∷ bs) zero s rest fine small = go (plain (b ∷ bs)) (plain_fine (b ∷ bs)) (λ j t r f. inner_back bs j t r f small.1)
  where
    onward : (j : ℕ) → FineTo j bs → ((j : ℕ) (t r : List ℕ) → FineTo j bs → read_on (inside t) (inner j bs ++ r) ≡ read_on (inside (t ++ bs)) r) → read_on (inside (s ++ b ∷ [])) (inner j bs ++ rest) ≡ read_on (inside (s ++ b ∷ bs)) rest
    onward j f ih = ih j (s ++ b ∷ []) rest f ∙ ap (λ l. read_on (inside l) rest) (append_assoc s (b ∷ []) bs)

    go : (n : ℕ) → FineTo n (b ∷ bs) → ((j : ℕ) (t r : List ℕ) → FineTo j bs → read_on (inside t) (inner j bs ++ r) ≡ read_on (inside (t ++ bs)) r) → read_on (inside s) (cond (eqb n 0) (escaped b ++ inner 0 bs) (b ∷ inner (n - 1) bs) ++ rest) ≡ read_on (inside (s ++ b ∷ bs)) rest
    go zero f ih =
        ap (λ l. read_on (inside s) l) (append_assoc (escaped b) (inner 0 bs) rest)
        ∙ escape_back b s (inner 0 bs ++ rest) small.0
        ∙ onward 0 (λ i h. absurd (omega arith)) ih
    go (suc m) f ih =
        let apart : eqb (suc m) 0 ≡ false = ne_eqb (suc m) 0 (λ e. omega arith) in
        let less : suc m - 1 ≡ m = omega arith in
        ap (λ t. read_on (inside s) (cond t (escaped b ++ inner 0 bs) (b ∷ inner (suc m - 1) bs) ++ rest)) apart
        ∙ ap (λ j. read_on (inside s) (b ∷ (inner j bs ++ rest))) less
        ∙ byte_back b s (inner m bs ++ rest) (f 0 (omega arith))
        ∙ onward m (λ i h. f (suc i) (omega arith)) ih
inner_back (b ∷ bs) (suc k) s rest fine small =
    byte_back b s (inner k bs ++ rest) (fine 0 (omega arith))
    ∙ inner_back bs k (s ++ b ∷ []) rest (λ i h. fine (suc i) (omega arith)) small.1
    ∙ ap (λ l. read_on (inside l) rest) (append_assoc s (b ∷ []) bs)

pub reads_back_lem : ReadsBack
reads_back_lem bs small =
    ap (λ l. settled (read_on (inside []) l)) (append_assoc (inner 0 bs) (34 ∷ []) (32 ∷ []))
    ∙ ap settled (inner_back bs 0 [] (34 ∷ 32 ∷ []) (λ i h. absurd (omega arith)) small)
    ∙ ap (λ l. Some l) (append-nil bs)

-- what stands behind a text, and is printed of bytes, reads back as these
pub written_back : (was is bs : List ℕ) → ((i : ℕ) → get_or bs i 0 < 256) → is ≡ was ++ printed bs → string_of (drop (length was) is) ≡ Some bs
written_back was is bs small e =
    ap (λ l. string_of (drop (length was) l)) e ∙ ap string_of (drop_at was (printed bs) (length was) refl) ∙ reads_back_lem bs (All-from_get_or (λ b. b < 256) bs 0 (λ i h. small i))
