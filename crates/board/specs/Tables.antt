-- What entries that lie one behind the other give. Assumes nothing.
use Rattle.std.specs.Prelude.{◌≡◌, ℕ, zero, suc, ◌+◌, ◌<◌, ◌≤◌, true, List, [], ◌∷◌, ◌++◌, length, take, drop, Some, slice_index_or, refl}
use Rattle.std.proofs.Common.{sym, ap, ◌∙◌, arith, length-append}
use Rattle.std.proofs.lemmas.List.{drop-append-le, take-append-le, length-drop, length-take-le, take-append-drop}
use Rattle.std.proofs.lemmas.Bool.{and_parts, and_from, eqb-true, eq-eqb}
use Rattle.std.proofs.lemmas.List.{get_or-take, get_or-drop}
use Rattle.std.proofs.lemmas.Option.{none-some, same_Some, slice_get-get_or}
use Rattle.std.specs.List.{slice_get}
use Rattle.std.specs.Option.{option_map}
use Rattle.board.specs.Row.{length_at, bytes_of}
use Rattle.board.specs.Table.{chained, rows_of}
use Rattle.board.specs.declared.entry.Entry.{Entry}

pub chained-first : (at : ℕ) (e : Entry) (es : List Entry) (end : ℕ) → chained at (e ∷ es) end ≡ true → (e.start ≡ at) × (chained ((at + e.length) + 1) es end ≡ true)
chained-first at e es end h = let p = and_parts _ _ h in (eqb-true _ _ p.0, p.1)

pub chained_le : (at : ℕ) (es : List Entry) (end : ℕ) → chained at es end ≡ true → at ≤ end
chained_le at [] end h = omega (arith, eqb-true at end h)
chained_le at (e ∷ es) end h =
    let p = chained-first at e es end h in omega (arith, chained_le ((at + e.length) + 1) es end p.1)

pub chained-push : (at : ℕ) (es : List Entry) (end : ℕ) (e : Entry) → chained at es end ≡ true → e.start ≡ end → chained at (es ++ e ∷ []) ((end + e.length) + 1) ≡ true
chained-push at [] end e h s =
    and_from _ _ (eq-eqb e.start at (omega (arith, eqb-true at end h))) (eq-eqb _ _ (omega (arith, eqb-true at end h)))
chained-push at (f ∷ es) end e h s =
    let p = and_parts _ _ h in and_from _ _ p.0 (chained-push ((at + f.length) + 1) es end e p.1 s)

-- the part of a list that ends before its own end is not changed by what is added
pub part_append : (bs more : List ℕ) (start len : ℕ) → start + len ≤ length bs → take len (drop start (bs ++ more)) ≡ take len (drop start bs)
part_append bs more start len h =
    let a : start ≤ length bs = omega arith in
    let b : len ≤ length (drop start bs) = simp length-drop (omega arith) in
    rw drop-append-le (rw take-append-le refl)

pub length_part : (bs : List ℕ) (start len : ℕ) → start + len ≤ length bs → length (take len (drop start bs)) ≡ len
length_part bs start len h = let b : len ≤ length (drop start bs) = simp length-drop (omega arith) in length-take-le len (drop start bs) b

-- a byte of a part is one of the list
pub byte_part : (bs : List ℕ) (start len place d : ℕ) → start + len ≤ length bs → place < len → Some (slice_index_or bs (start + place) d) ≡ slice_get (take len (drop start bs)) place
byte_part bs start len place d h l =
    sym (slice_get-get_or (take len (drop start bs)) place d (omega (arith, length_part bs start len h)) ∙ ap (λ x. Some x) (get_or-take len (drop start bs) place d l ∙ get_or-drop start bs place d))

pub first_within : (at : ℕ) (e : Entry) (es : List Entry) (end : ℕ) → chained at (e ∷ es) end ≡ true → e.start + e.length < end
first_within at e es end h =
    let p = chained-first at e es end h in omega (arith, chained_le ((at + e.length) + 1) es end p.1)

pub rows_append : (at : ℕ) (es : List Entry) (bs more : List ℕ) → chained at es (length bs) ≡ true → rows_of es (bs ++ more) ≡ rows_of es bs
rows_append at [] bs more h = refl
rows_append at (e ∷ es) bs more h =
    let w = first_within at e es (length bs) h in
    let l : e.start + e.length ≤ length bs = omega arith in
    let a = part_append bs more e.start e.length l in
    let b = rows_append ((at + e.length) + 1) es bs more (chained-first at e es (length bs) h).1 in
    cc

pub bytes_fill : (at : ℕ) (es : List Entry) (bs : List ℕ) → chained at es (length bs) ≡ true → at + length (bytes_of (rows_of es bs)) ≡ length bs
bytes_fill at [] bs h = omega (arith, eqb-true at (length bs) h)
bytes_fill at (e ∷ es) bs h =
    let w = first_within at e es (length bs) h in
    let l : e.start + e.length ≤ length bs = omega arith in
    omega (arith, length_part bs e.start e.length l, length-append (take e.length (drop e.start bs)) (10 ∷ bytes_of (rows_of es bs)), bytes_fill ((at + e.length) + 1) es bs (chained-first at e es (length bs) h).1)

-- the entry at a place: those before it end where it starts, and it ends within the area
pub chained-cut : (at : ℕ) (es : List Entry) (end n : ℕ) (e : Entry) → chained at es end ≡ true → slice_get es n ≡ Some e → chained at (take n es) e.start ≡ true
chained-cut at [] end n e h g = absurd (none-some e g)
chained-cut at (f ∷ es) end zero e h g =
    eq-eqb _ _ (sym (ap (λ (x : Entry). x.start) (sym (same_Some f e g)) ∙ (chained-first at f es end h).0))
chained-cut at (f ∷ es) end (suc n) e h g =
    let p = and_parts _ _ h in and_from _ _ p.0 (chained-cut ((at + f.length) + 1) es end n e p.1 g)

pub entry_within : (at : ℕ) (es : List Entry) (end n : ℕ) (e : Entry) → chained at es end ≡ true → slice_get es n ≡ Some e → e.start + e.length < end
entry_within at [] end n e h g = absurd (none-some e g)
entry_within at (f ∷ es) end zero e h g = rw (same_Some f e g) at (first_within at f es end h)
entry_within at (f ∷ es) end (suc n) e h g = entry_within ((at + f.length) + 1) es end n e (chained-first at f es end h).1 g

-- a row is as long as its entry says
pub length_told : (at : ℕ) (es : List Entry) (bs : List ℕ) (n : ℕ) → chained at es (length bs) ≡ true → length_at (rows_of es bs) n ≡ option_map (λ e. e.length) (slice_get es n)
length_told at [] bs n h = refl
length_told at (e ∷ es) bs zero h =
    let w = first_within at e es (length bs) h in ap (λ k. Some k) (length_part bs e.start e.length (omega arith))
length_told at (e ∷ es) bs (suc n) h = length_told ((at + e.length) + 1) es bs n (chained-first at e es (length bs) h).1

pub rows_cut : (at : ℕ) (es : List Entry) (bs : List ℕ) (n : ℕ) → n ≤ length bs → chained at es n ≡ true → rows_of es (take n bs) ≡ rows_of es bs
rows_cut at es bs n l h =
    let k : length (take n bs) ≡ n = length-take-le n bs l in
    let g : chained at es (length (take n bs)) ≡ true = rw (length-take-le n bs l) h in
    sym (rows_append at es (take n bs) (drop n bs) g) ∙ ap (λ x. rows_of es x) (take-append-drop n bs)
