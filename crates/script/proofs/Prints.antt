-- Printing goes on by characters that stand as they are, and by single bytes.
use Rattle.std.proofs.Common.{◌≡◌, ℕ, zero, suc, ◌+◌, ◌-◌, ◌<◌, ◌≤◌, true, cond, eqb, List, [], ◌∷◌, ◌++◌, length, get_or, take, drop, Some, None, IsUtf8, false, sym, refl, ap, ◌∙◌, subst, append_assoc, encode_utf8, Option, Bool, arith}
use Rattle.std.proofs.lemmas.Bool.{ne_eqb, cond-true, cond-false}
use Rattle.std.proofs.lemmas.List.{take_at, take_rest, take-append-drop, length-take-le, length-drop, drop-drop}
use Rattle.std.proofs.lemmas.Str.{IsUtf8-append, IsUtf8-encode, length-encode, encode_ascii}
use lib.Seq.{take-append-add}
use lib.Utf8.{low_scalar}
use Rattle.std.specs.Char.{len_utf8}
use Rattle.chars.specs.Begins.{char_at}
use Rattle.chars.proofs.Beginning.{char_begins, char_of}
use Rattle.script.specs.Printed.{special, plain, plain_bytes, escaped, inner, printed, Stands}

pub inner_copies : (k : ℕ) (bs : List ℕ) → k ≤ length bs → inner k bs ≡ take k bs ++ inner 0 (drop k bs)
inner_copies zero bs h = refl
inner_copies (suc k) [] h = absurd (omega arith)
inner_copies (suc k) (b ∷ bs) h = ap (λ l. b ∷ l) (inner_copies k bs (omega arith))

inner_plain : (n : ℕ) (bs : List ℕ) → plain bs ≡ n → 0 < n → n ≤ length bs → inner 0 bs ≡ take n bs ++ inner 0 (drop n bs)
inner_plain zero bs e some h = absurd (omega arith)
inner_plain (suc m) [] e some h = absurd (omega arith)
inner_plain (suc m) (b ∷ bs) e some h =
    let less : suc m - 1 ≡ m = omega arith in
    ap (λ n. cond (eqb n 0) (escaped b ++ inner 0 bs) (b ∷ inner (n - 1) bs)) e
    ∙ cond-false _ _ _ (ne_eqb (suc m) 0 (λ e. omega arith))
    ∙ ap (λ k. b ∷ inner k bs) less
    ∙ ap (λ l. b ∷ l) (inner_copies m bs (omega arith))

inner_escaped : (bs : List ℕ) → plain bs ≡ 0 → 0 < length bs → inner 0 bs ≡ escaped (get_or bs 0 0) ++ inner 0 (drop 1 bs)
inner_escaped [] e some = absurd (omega arith)
inner_escaped (b ∷ bs) e some = ap (λ n. cond (eqb n 0) (escaped b ++ inner 0 bs) (b ∷ inner (n - 1) bs)) e

onward : (done front behind bs whole : List ℕ) → inner 0 bs ≡ front ++ inner 0 behind → done ++ inner 0 bs ≡ whole → (done ++ front) ++ inner 0 behind ≡ whole
onward done front behind bs whole e inv = append_assoc done front (inner 0 behind) ∙ ap (λ l. done ++ l) (sym e) ∙ inv

-- then one byte, and what is behind it
pub prints_escaped : (done bs whole : List ℕ) → plain bs ≡ 0 → 1 ≤ length bs → done ++ inner 0 bs ≡ whole → (done ++ escaped (get_or bs 0 0)) ++ inner 0 (take (length bs - 1) (drop 1 bs)) ≡ whole
prints_escaped done bs whole e some inv =
    ap (λ l. (done ++ escaped (get_or bs 0 0)) ++ inner 0 l) (take_rest bs 1)
    ∙ onward done (escaped (get_or bs 0 0)) (drop 1 bs) bs whole (inner_escaped bs e (omega arith)) inv

-- a character of ASCII at the front
plain_ascii : (bs : List ℕ) (b : ℕ) (rest : List ℕ) → bs ≡ b ∷ rest → b < 128 → char_at bs ≡ Some b
plain_ascii bs b rest e h = char_of bs rest b (low_scalar b (omega arith)) (e ∙ ap (λ l. l ++ rest) (sym (encode_ascii b h)))

pub plain_first : (bs : List ℕ) → 1 ≤ length bs → get_or bs 0 0 < 128 → plain bs ≡ cond (special (get_or bs 0 0)) 0 1
plain_first [] some h = absurd (omega arith)
plain_first (b ∷ bs) some h =
    ap plain_bytes (plain_ascii (b ∷ bs) b bs refl h)
    ∙ ap (λ (n : ℕ). cond (special b) 0 n) (sym (length-encode b) ∙ ap length (encode_ascii b h))

-- what stands as it is at the front is text
plain_text : (bs : List ℕ) (n : ℕ) → n ≡ plain bs → 0 < n → IsUtf8 (take n bs)
plain_text bs n e some = at_front (char_at bs) refl
  where
    stands : (c : ℕ) (t : Bool) → char_at bs ≡ Some c → special c ≡ t → IsUtf8 (take n bs)
    stands c true at s = absurd (omega (arith, e ∙ ap plain_bytes at ∙ cond-true _ _ _ s))
    stands c false at s =
        let is : n ≡ len_utf8 c = e ∙ ap plain_bytes at ∙ cond-false _ _ _ s in
        let spell = char_begins bs c at in
        let cut : take n bs ≡ encode_utf8 c = ap (take n) spell.1 ∙ take_at (encode_utf8 c) (drop (len_utf8 c) bs) n (length-encode c ∙ sym is) in
        subst IsUtf8 (sym cut) (IsUtf8-encode c spell.0)

    at_front : (o : Option ℕ) → char_at bs ≡ o → IsUtf8 (take n bs)
    at_front None at = absurd (omega (arith, e ∙ ap plain_bytes at))
    at_front (Some c) at = stands c (special c) at refl

take_on : (k n : ℕ) (bs : List ℕ) → k ≤ length bs → take (k + n) bs ≡ take k bs ++ take n (drop k bs)
take_on k n bs h =
    let long : length (take k bs) ≡ k = length-take-le k bs h in
    ap (take (k + n)) (sym (take-append-drop k bs))
    ∙ ap (λ (m : ℕ). take (m + n) (take k bs ++ drop k bs)) (sym long)
    ∙ take-append-add (take k bs) (drop k bs) n

-- where the first k bytes stand as they are, those of the next character do too
pub run_more : (bs rest : List ℕ) (k n : ℕ) → Stands bs k → rest ≡ drop k bs → n ≡ plain rest → 0 < n → n ≤ length rest → Stands bs (k + n)
run_more bs rest k n run behind is some fits =
    let more : take (k + n) bs ≡ take k bs ++ take n rest = take_on k n bs run.0 ∙ ap (λ l. take k bs ++ take n l) (sym behind) in
    let less : drop (k + n) bs ≡ drop n rest = sym (drop-drop n k bs) ∙ ap (drop n) (sym behind) in
    let long : length rest ≡ length bs - k = ap length behind ∙ length-drop k bs in (
      omega (arith, run.0),
      subst IsUtf8 (sym more) (IsUtf8-append (take k bs) (take n rest) run.1 (plain_text rest n is some)),
      run.2
          ∙ ap (λ l. take k bs ++ inner 0 l) (sym behind)
          ∙ ap (λ l. take k bs ++ l) (inner_plain n rest (sym is) some fits)
          ∙ sym (append_assoc (take k bs) (take n rest) (inner 0 (drop n rest)))
          ∙ ap (λ l. l ++ inner 0 (drop n rest)) (sym more)
          ∙ ap (λ l. take (k + n) bs ++ inner 0 l) (sym less),
    )

-- what stands as it is is printed in one piece
pub prints_run : (done bs whole front behind : List ℕ) (n : ℕ) → Stands bs n → front ≡ take n bs → behind ≡ drop n bs → done ++ inner 0 bs ≡ whole → (done ++ front) ++ inner 0 behind ≡ whole
prints_run done bs whole front behind n run f b inv =
    ap (λ l. (done ++ l) ++ inner 0 behind) f ∙ ap (λ l. (done ++ take n bs) ++ inner 0 l) b ∙ onward done (take n bs) (drop n bs) bs whole run.2 inv

pub prints_between : (a b c d bs : List ℕ) → b ≡ a ++ 34 ∷ [] → c ≡ b ++ inner 0 bs → d ≡ c ++ 34 ∷ [] → d ≡ a ++ printed bs
prints_between a b c d bs e f g =
    g ∙ ap (λ l. l ++ 34 ∷ []) (f ∙ ap (λ l. l ++ inner 0 bs) e) ∙ append_assoc (a ++ 34 ∷ []) (inner 0 bs) (34 ∷ []) ∙ append_assoc a (34 ∷ []) (inner 0 bs ++ 34 ∷ [])
