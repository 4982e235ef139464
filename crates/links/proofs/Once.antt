-- An address that is not among others leaves them apart. Assumes nothing.
use Rattle.std.proofs.Common.{◌≡◌, ℕ, ◌+◌, Bool, true, false, cond, not, ◌||◌, List, [], ◌∷◌, ◌++◌, Some, None, Option, sym, refl, ◌∙◌, arith}
use Rattle.std.specs.Str.{bytes_eq}
use Rattle.std.proofs.lemmas.Slice.Eq.{bytes_eq-Decides}
use Rattle.std.proofs.lemmas.Bool.Decides.{same_from_decides}
use Rattle.std.proofs.lemmas.Bool.{and_parts, and_from, or_parts, or_from, not-true, not_from_false}
use Rattle.links.specs.Addresses.{place_from, place_of, amid, distinct}

same_flip : (a b : List ℕ) → bytes_eq a b ≡ bytes_eq b a
same_flip a b =
    let d = bytes_eq-Decides b a in same_from_decides (bytes_eq a b) (bytes_eq b a) (bytes_eq-Decides a b) ((λ t. sym (d.0 t)), λ e. d.1 (sym e))

not_here : (t m : Bool) (n : ℕ) (later : Option ℕ) → None ≡ cond t (Some n) later → (None ≡ later → m ≡ false) → (t || m) ≡ false
not_here true m n later h ih = let z : ◌≡◌ {A = ℕ} 0 1 = cc in absurd (omega arith)
not_here false m n later h ih = ih h

no_place : (n : ℕ) (all : List (List ℕ)) (a : List ℕ) → None ≡ place_from n all a → amid all a ≡ false
no_place n [] a h = refl
no_place n (b ∷ bs) a h = not_here (bytes_eq b a) (amid bs a) n (place_from (n + 1) bs a) h (no_place (n + 1) bs a)

not_amid_push : (all : List (List ℕ)) (x a : List ℕ) → amid all a ≡ false → bytes_eq x a ≡ false → amid (all ++ x ∷ []) a ≡ false
not_amid_push [] x a h s = or_from (bytes_eq x a) false s refl
not_amid_push (b ∷ bs) x a h s =
    let p = or_parts (bytes_eq b a) (amid bs a) h in or_from (bytes_eq b a) (amid (bs ++ x ∷ []) a) p.0 (not_amid_push bs x a p.1 s)

distinct_push : (all : List (List ℕ)) (a : List ℕ) → amid all a ≡ false → distinct all ≡ true → distinct (all ++ a ∷ []) ≡ true
distinct_push [] a h d = refl
distinct_push (b ∷ bs) a h d =
    let p = or_parts (bytes_eq b a) (amid bs a) h in
    let q = and_parts (not (amid bs b)) (distinct bs) d in
    and_from (not (amid (bs ++ a ∷ []) b)) (distinct (bs ++ a ∷ []))
    (not_from_false (amid (bs ++ a ∷ []) b) (not_amid_push bs a b (not-true (amid bs b) q.0) (same_flip a b ∙ p.0)))
    (distinct_push bs a p.1 q.1)

pub once_more : (all : List (List ℕ)) (a : List ℕ) → None ≡ place_of all a → distinct all ≡ true → distinct (all ++ a ∷ []) ≡ true
once_more all a h d = distinct_push all a (no_place 0 all a h) d
