-- Trimming from the end, byte by byte. Assumes nothing.
use Rattle.std.proofs.Common.{◌≡◌, ℕ, ◌+◌, ◌-◌, ◌<◌, ◌≤◌, Bool, true, cond, List, [], ◌∷◌, ◌++◌, length, get_or, take, sym, refl, ap, ◌∙◌, append_assoc, arith, length-append}
use Rattle.std.proofs.lemmas.List.{take_all, take-take, take_more, length-take-le}
use Rattle.std.proofs.Math.Seq.{take-append_seam}
use Rattle.std.proofs.lemmas.Bool.{ne_eqb}
use Rattle.std.specs.Fmt.{digits}
use Rattle.style.specs.Switches.{reset_bytes}
use Rattle.paint.specs.Rows.{kept, trim}

-- trimming two parts
abbrev pub trim_joined : List ℕ → List ℕ → List ℕ
trim_joined a [] = trim a
trim_joined a (x ∷ xs) = a ++ x ∷ xs

pub trim-append : (a f : List ℕ) → trim (a ++ f) ≡ trim_joined a (trim f)
trim-append [] f = go (trim f)
  where
    go : (t : List ℕ) → t ≡ trim_joined [] t
    go [] = refl
    go (x ∷ xs) = refl
trim-append (c ∷ a) f = ap (λ t. kept c t) (trim-append a f) ∙ go (trim f)
  where
    full : (a : List ℕ) (x : ℕ) (xs : List ℕ) → kept c (a ++ x ∷ xs) ≡ c ∷ (a ++ x ∷ xs)
    full [] x xs = refl
    full (y ∷ a) x xs = refl

    go : (t : List ℕ) → kept c (trim_joined a t) ≡ trim_joined (c ∷ a) t
    go [] = refl
    go (x ∷ xs) = full a x xs

trim_solid : (a : List ℕ) (z : ℕ) → (z ≡ 32 → ⊥) → trim (a ++ z ∷ []) ≡ a ++ z ∷ []
trim_solid a z h = trim-append a (z ∷ []) ∙ ap (λ t. trim_joined a (cond t [] (z ∷ []))) (ne_eqb z 32 h)

last_byte : (bs : List ℕ) (n : ℕ) → 0 < n → n ≤ length bs → take n bs ≡ take (n - 1) bs ++ get_or bs (n - 1) 0 ∷ []
last_byte bs n h k =
    let e : n - 1 + 1 ≡ n = omega arith in ap (λ m. take m bs) (sym e) ∙ take_more bs (n - 1) 0 (omega arith)

pub trim_less : (bs front : List ℕ) → bs ≡ front ++ 32 ∷ [] → trim bs ≡ trim front
trim_less bs front e = ap trim e ∙ trim-append front (32 ∷ [])

pub front_stays : (bs rest front : List ℕ) → take (length rest) bs ≡ rest → rest ≡ front ++ 32 ∷ [] → take (length front) bs ≡ front
front_stays bs rest front h e =
    sym (take-take (length front) (length rest) bs (omega (arith, ap length e, length-append front (32 ∷ []))))
    ∙ ap (take (length front)) (h ∙ e)
    ∙ take-append_seam front (32 ∷ [])

-- bytes that do not end in a space
pub trim_same : (bs : List ℕ) → ((front : List ℕ) → bs ≡ front ++ 32 ∷ [] → ⊥) → trim bs ≡ bs
trim_same [] none = refl
trim_same (b ∷ bs) none =
    let xs = b ∷ bs in
    let n = length xs in
    let e : xs ≡ take (n - 1) xs ++ get_or xs (n - 1) 0 ∷ [] =
    sym (take_all n xs (omega arith)) ∙ last_byte xs n (omega arith) (omega arith) in
    ap trim e
    ∙ trim_solid (take (n - 1) xs) (get_or xs (n - 1) 0) (λ is. none (take (n - 1) xs) (e ∙ ap (λ z. take (n - 1) xs ++ z ∷ []) is))
    ∙ sym e

pub trimmed-length : (bs : List ℕ) (n : ℕ) → n ≤ length bs → take n bs ≡ trim bs → n ≡ length (trim bs)
trimmed-length bs n h e = sym (length-take-le n bs h) ∙ ap length e

pub reset_length : length reset_bytes ≡ 4
unfolding digits
reset_length = refl

-- bytes, and two parts behind them, each of which fits
pub filled : (none row linked styled one two three : List ℕ) (a b c : Bool) → none ≡ [] → one ≡ cond a (none ++ row) none → a ≡ true → two ≡ cond b (one ++ linked) one → b ≡ true → three ≡ cond c (two ++ styled) two → c ≡ true → three ≡ row ++ (linked ++ styled)
filled none row linked styled one two three a b c en e1 ea e2 eb e3 ec =
    e3
    ∙ ap (λ t. cond t (two ++ styled) two) ec
    ∙ ap (λ xs. xs ++ styled) (e2 ∙ ap (λ t. cond t (one ++ linked) one) eb ∙ ap (λ xs. xs ++ linked) (e1 ∙ ap (λ t. cond t (none ++ row) none) ea ∙ ap (λ xs. xs ++ row) en))
    ∙ append_assoc row linked styled
