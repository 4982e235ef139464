-- What spans that lie one behind the other give. Assumes nothing.
use Rattle.std.proofs.Common.{◌≡◌, ℕ, zero, suc, ◌+◌, ◌<◌, ◌≤◌, true, List, [], ◌∷◌, ◌++◌, length, get_or, take, drop, sym, refl, arith}
use Rattle.std.proofs.lemmas.List.{drop-append-le, take-append-le, length-drop, length-take-le, map_push, take_all, drop_at}
use Rattle.std.proofs.lemmas.Bool.{and_parts, and_from, eqb-true, eq-eqb}
use Rattle.links.specs.Addresses.{bytes_in}
use Rattle.links.specs.Spans.{chained, address_in, addresses_in}
use Rattle.links.specs.declared.span.Span.{Span}

chained-first : (at : ℕ) (s : Span) (ss : List Span) (end : ℕ) → chained at (s ∷ ss) end ≡ true → (s.start ≡ at) × (chained (at + s.length) ss end ≡ true)
chained-first at s ss end h = let p = and_parts _ _ h in (eqb-true _ _ p.0, p.1)

chained_le : (at : ℕ) (ss : List Span) (end : ℕ) → chained at ss end ≡ true → at ≤ end
chained_le at [] end h = omega (arith, eqb-true at end h)
chained_le at (s ∷ ss) end h = omega (arith, chained_le (at + s.length) ss end (chained-first at s ss end h).1)

pub chained-push : (at : ℕ) (ss : List Span) (end : ℕ) (s : Span) → chained at ss end ≡ true → s.start ≡ end → chained at (ss ++ s ∷ []) (end + s.length) ≡ true
chained-push at [] end s h e =
    let i = eqb-true at end h in and_from _ _ (eq-eqb s.start at (omega arith)) (eq-eqb (at + s.length) (end + s.length) (omega arith))
chained-push at (f ∷ ss) end s h e =
    let p = and_parts _ _ h in and_from _ _ p.0 (chained-push (at + f.length) ss end s p.1 e)

first_within : (at : ℕ) (s : Span) (ss : List Span) (end : ℕ) → chained at (s ∷ ss) end ≡ true → s.start + s.length ≤ end
first_within at s ss end h =
    let p = chained-first at s ss end h in omega (arith, chained_le (at + s.length) ss end p.1)

-- where a span of the table lies
pub span_within : (at : ℕ) (ss : List Span) (end : ℕ) (n : ℕ) (d : Span) → chained at ss end ≡ true → n < length ss → (get_or ss n d).start + (get_or ss n d).length ≤ end
span_within at [] end n d h l = absurd (omega arith)
span_within at (s ∷ ss) end zero d h l = first_within at s ss end h
span_within at (s ∷ ss) end (suc n) d h l = span_within (at + s.length) ss end n d (chained-first at s ss end h).1 (omega arith)

-- a part that ends before the bytes do is not changed by what is added
part_append : (bs more : List ℕ) (start len : ℕ) → start + len ≤ length bs → take len (drop start (bs ++ more)) ≡ take len (drop start bs)
part_append bs more start len h =
    let a : start ≤ length bs = omega arith in
    let b : len ≤ length (drop start bs) = simp length-drop (omega arith) in
    rw drop-append-le (rw take-append-le refl)

length_part : (bs : List ℕ) (start len : ℕ) → start + len ≤ length bs → length (take len (drop start bs)) ≡ len
length_part bs start len h = let b : len ≤ length (drop start bs) = simp length-drop (omega arith) in length-take-le len (drop start bs) b

addresses_stay : (at : ℕ) (ss : List Span) (bs more : List ℕ) → chained at ss (length bs) ≡ true → addresses_in ss (bs ++ more) ≡ addresses_in ss bs
addresses_stay at [] bs more h = refl
addresses_stay at (s ∷ ss) bs more h =
    let a = part_append bs more s.start s.length (first_within at s ss (length bs) h) in
    let b = addresses_stay (at + s.length) ss bs more (chained-first at s ss (length bs) h).1 in
    cc

-- the addresses have all the bytes
pub bytes_fill : (at : ℕ) (ss : List Span) (bs : List ℕ) → chained at ss (length bs) ≡ true → at + bytes_in (addresses_in ss bs) ≡ length bs
bytes_fill at [] bs h = omega (arith, eqb-true at (length bs) h)
bytes_fill at (s ∷ ss) bs h =
    omega (arith, length_part bs s.start s.length (first_within at s ss (length bs) h), bytes_fill (at + s.length) ss bs (chained-first at s ss (length bs) h).1)

-- one more address behind the others
pub addresses-push : (ss : List Span) (bs xs : List ℕ) (s : Span) → chained 0 ss (length bs) ≡ true → s.start ≡ length bs → s.length ≡ length xs → addresses_in (ss ++ s ∷ []) (bs ++ xs) ≡ addresses_in ss bs ++ xs ∷ []
addresses-push ss bs xs s h e l =
    let b = map_push (address_in (bs ++ xs)) ss s in
    let d = addresses_stay 0 ss bs xs h in
    let f : drop s.start (bs ++ xs) ≡ xs = drop_at bs xs s.start (sym e) in
    let g : take s.length xs ≡ xs = take_all s.length xs (omega arith) in
    cc
