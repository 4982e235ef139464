-- The character that bytes begin with is the one whose bytes they begin with.
use Rattle.std.proofs.Common.{◌≡◌, ℕ, Bool, true, false, cond, ◌&&◌, eqb, List, [], ◌∷◌, ◌++◌, length, drop, Some, None, Option, sym, refl, ap, ◌∙◌, subst, append-nil, arith}
use lib.Utf8.{scalar, encode}
use Rattle.std.specs.Str.{StartsWithNoChar, chars}
use Rattle.std.specs.Char.{len_utf8}
use Rattle.std.proofs.lemmas.Bool.{and_from, and_parts, eq-eqb, eqb-true, false≢true, cond-true}
use Rattle.std.proofs.lemmas.Str.{chars-append, chars-encodes, IsUtf8-encode, length-encode}
use Rattle.chars.specs.Begins.{begins, confirmed, char_at}

begins_own : (xs rest : List ℕ) → begins xs (xs ++ rest) ≡ true
begins_own [] rest = refl
begins_own (x ∷ xs) rest = and_from (eqb x x) (begins xs (xs ++ rest)) (eq-eqb x x refl) (begins_own xs rest)

begins_is : (xs bs : List ℕ) → begins xs bs ≡ true → bs ≡ xs ++ drop (length xs) bs
begins_is [] bs h = refl
begins_is (x ∷ xs) [] h = absurd (false≢true h)
begins_is (x ∷ xs) (b ∷ bs) h =
    let p = and_parts (eqb x b) (begins xs bs) h in
    let e = eqb-true x b p.0 in
    let i = begins_is xs bs p.1 in
    cc

pub none_is_not_some : {c : ℕ} → None ≡ Some c → ⊥
none_is_not_some {c} h = let z : ◌≡◌ {A = ℕ} 0 1 = cc in omega arith

confirmed_some : (cs bs : List ℕ) (c : ℕ) → confirmed cs bs ≡ Some c → (scalar c ≡ true) × (begins (encode c) bs ≡ true)
confirmed_some [] bs c h = absurd (none_is_not_some h)
confirmed_some (d ∷ cs) bs c h = go (scalar d && begins (encode d) bs) refl h
  where
    go : (t : Bool) → (scalar d && begins (encode d) bs) ≡ t → cond t (Some d) None ≡ Some c → (scalar c ≡ true) × (begins (encode c) bs ≡ true)
    go true e h =
        let k : d ≡ c = cc in
        let P : ℕ → Type 0 = λ x. (scalar x ≡ true) × (begins (encode x) bs ≡ true) in
        subst P k (and_parts (scalar d) (begins (encode d) bs) e)
    go false e h = absurd (none_is_not_some h)

-- where a character begins the bytes, they are its bytes and what follows
pub char_begins : (bs : List ℕ) (c : ℕ) → char_at bs ≡ Some c → (scalar c ≡ true) × (bs ≡ encode c ++ drop (len_utf8 c) bs)
char_begins bs c h =
    let p = confirmed_some (chars bs) bs c h in
    (p.0, begins_is (encode c) bs p.1 ∙ ap (λ n. encode c ++ drop n bs) (length-encode c))

-- a character's bytes begin with that character, whatever follows
pub char_of_bytes : (c : ℕ) (rest : List ℕ) → scalar c ≡ true → char_at (encode c ++ rest) ≡ Some c
char_of_bytes c rest s =
    ap (λ cs. confirmed cs (encode c ++ rest)) first
    ∙ cond-true (scalar c && begins (encode c) (encode c ++ rest)) (Some c) None (and_from (scalar c) (begins (encode c) (encode c ++ rest)) s (begins_own (encode c) rest))
  where
    alone : chars (encode c) ≡ c ∷ []
    alone = ap chars (sym (append-nil (encode c))) ∙ chars-encodes (c ∷ []) (and_from (scalar c) true s refl)

    first : chars (encode c ++ rest) ≡ c ∷ chars rest
    first = chars-append (encode c) rest (IsUtf8-encode c s) ∙ ap (λ cs. cs ++ chars rest) alone

-- the same of bytes that are given by an equation
pub char_of : (bs rest : List ℕ) (c : ℕ) → scalar c ≡ true → bs ≡ encode c ++ rest → char_at bs ≡ Some c
char_of bs rest c s e = ap char_at e ∙ char_of_bytes c rest s

-- where no character begins the bytes, there is none
pub no_char_of : (bs : List ℕ) → StartsWithNoChar bs → char_at bs ≡ None
no_char_of bs h = go (char_at bs) refl
  where
    go : (o : Option ℕ) → char_at bs ≡ o → o ≡ None
    go None e = refl
    go (Some c) e = let p = char_begins bs c e in absurd (h c (drop (len_utf8 c) bs) p.0 p.1)

pub no_char_from : (bs : List ℕ) → char_at bs ≡ None → StartsWithNoChar bs
no_char_from bs h c rest s e = none_is_not_some (sym h ∙ char_of bs rest c s e)
