-- Where an address is cut, if it is put together from texts. Assumes nothing.
use Rattle.std.proofs.Common.{◌≡◌, ℕ, Bool, true, false, not, eqb, List, [], ◌∷◌, ◌++◌, refl, ap, ◌∙◌}
use Rattle.std.proofs.lemmas.Bool.{and_parts, and_from, not-true}
use Rattle.address.specs.Reference.{before, since, path_of, query_of, anchor_of}
use Rattle.address.specs.Laws.{lacks, stays_in_path}

-- a text without the mark is not cut
pub before-append : (mark : ℕ) (xs ys : List ℕ) → lacks mark xs ≡ true → before mark (xs ++ ys) ≡ xs ++ before mark ys
before-append mark [] ys h = refl
before-append mark (b ∷ bs) ys h =
    let p = and_parts (not (eqb b mark)) (lacks mark bs) h in
    rw (not-true (eqb b mark) p.0) (ap (λ l. b ∷ l) (before-append mark bs ys p.1))

pub since-append : (mark : ℕ) (xs ys : List ℕ) → lacks mark xs ≡ true → since mark (xs ++ ys) ≡ since mark ys
since-append mark [] ys h = refl
since-append mark (b ∷ bs) ys h =
    let p = and_parts (not (eqb b mark)) (lacks mark bs) h in
    rw (not-true (eqb b mark) p.0) (since-append mark bs ys p.1)

-- the two parts of a cut are the text
pub before-since : (mark : ℕ) (xs : List ℕ) → before mark xs ++ since mark xs ≡ xs
before-since mark [] = refl
before-since mark (b ∷ bs) = go (eqb b mark) refl (before-since mark bs)
  where
    go : (t : Bool) → eqb b mark ≡ t → before mark bs ++ since mark bs ≡ bs → before mark (b ∷ bs) ++ since mark (b ∷ bs) ≡ b ∷ bs
    go true h ih = rw h
    go false h ih = rw h (ap (λ l. b ∷ l) ih)

-- a text of the path stands in the path, and changes neither query nor anchor
pub path_append : (xs ys : List ℕ) → stays_in_path xs ≡ true → path_of (xs ++ ys) ≡ xs ++ path_of ys
path_append xs ys h =
    let p = and_parts (lacks 63 xs) (lacks 35 xs) h in
    ap (before 63) (before-append 35 xs ys p.1) ∙ before-append 63 xs (before 35 ys) p.0

pub query_append : (xs ys : List ℕ) → stays_in_path xs ≡ true → query_of (xs ++ ys) ≡ query_of ys
query_append xs ys h =
    let p = and_parts (lacks 63 xs) (lacks 35 xs) h in
    ap (since 63) (before-append 35 xs ys p.1) ∙ since-append 63 xs (before 35 ys) p.0

pub anchor_append : (xs ys : List ℕ) → stays_in_path xs ≡ true → anchor_of (xs ++ ys) ≡ anchor_of ys
anchor_append xs ys h = since-append 35 xs ys (and_parts (lacks 63 xs) (lacks 35 xs) h).1

lacks-append : (mark : ℕ) (xs ys : List ℕ) → lacks mark xs ≡ true → lacks mark ys ≡ true → lacks mark (xs ++ ys) ≡ true
lacks-append mark [] ys h k = k
lacks-append mark (b ∷ bs) ys h k =
    let p = and_parts (not (eqb b mark)) (lacks mark bs) h in
    and_from (not (eqb b mark)) (lacks mark (bs ++ ys)) p.0 (lacks-append mark bs ys p.1 k)

pub in_path_append : (xs ys : List ℕ) → stays_in_path xs ≡ true → stays_in_path ys ≡ true → stays_in_path (xs ++ ys) ≡ true
in_path_append xs ys h k =
    let p = and_parts (lacks 63 xs) (lacks 35 xs) h in
    let q = and_parts (lacks 63 ys) (lacks 35 ys) k in
    and_from (lacks 63 (xs ++ ys)) (lacks 35 (xs ++ ys)) (lacks-append 63 xs ys p.0 q.0) (lacks-append 35 xs ys p.1 q.1)
