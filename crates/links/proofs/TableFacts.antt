-- What a table holds, read from its spans. Assumes nothing.
use Rattle.std.proofs.Common.{◌≡◌, ℕ, ◌+◌, ◌-◌, ◌≤◌, true, ltb, leb, List, [], ◌∷◌, ◌++◌, length, get_or, None, sym, ap, ◌∙◌, arith}
use Rattle.std.proofs.lemmas.List.{length-map, length-append}
use Rattle.std.proofs.lemmas.Bool.{and_parts, ltb-true, leb-true, le-leb, lt-ltb}
use Rattle.links.specs.Addresses.{place_of, room_for, bytes_in, distinct}
use Rattle.links.specs.Spans.{chained, address_in, addresses_in}
use Rattle.links.specs.Tables.{addresses}
use Rattle.links.specs.declared.span.Span.{Span}
use Rattle.links.specs.declared.table.AddressTable.{AddressTable}
use Rattle.links.proofs.Once.{once_more}
use Rattle.links.proofs.Spanning.{span_within, bytes_fill, chained-push, addresses-push}

pub count_is : (t : AddressTable) → length (addresses t) ≡ length t.spans
count_is t = length-map t.spans (address_in t.bytes)

pub bytes_count : (t : AddressTable) → bytes_in (addresses t) ≡ length t.bytes
bytes_count t = omega (arith, bytes_fill 0 t.spans t.bytes t.joined)

-- what room for one more address says of both lists
pub room_parts : (t : AddressTable) (n : ℕ) → true ≡ room_for (addresses t) n → (ltb (length t.spans) 256 ≡ true) × (leb n (16384 - length t.bytes) ≡ true)
room_parts t n h =
    let p = and_parts _ _ (sym h) in
    let a = ltb-true (length (addresses t)) 256 p.0 in
    let b = leb-true (bytes_in (addresses t) + n) 16384 p.1 in
    (lt-ltb (length t.spans) 256 (omega (arith, count_is t)), le-leb n (16384 - length t.bytes) (omega (arith, bytes_count t)))

-- the span at a place, as it is read
pub span_in : (t : AddressTable) (ss : List Span) (n : ℕ) (s : Span) → ss ≡ t.spans → true ≡ ltb n (length ss) → s ≡ get_or ss n s → s.start + s.length ≤ length t.bytes
span_in t ss n s e h r =
    let l = ltb-true n (length ss) (sym h) in
    let m = ap length e in
    let w = span_within 0 t.spans (length t.bytes) n s t.joined (omega arith) in
    let g = r ∙ ap (λ xs. get_or xs n s) e in rw g w

-- as many spans and bytes as there is room for, one more address included
pub push_few : (t : AddressTable) (ss : List Span) (s : Span) → ltb (length t.spans) 256 ≡ true → ss ≡ t.spans ++ s ∷ [] → length ss ≤ 256
push_few t ss s h r = omega (arith, ltb-true (length t.spans) 256 h, ap length r, length-append t.spans (s ∷ []))

pub push_short : (t : AddressTable) (bs xs : List ℕ) → leb (length xs) (16384 - length t.bytes) ≡ true → bs ≡ t.bytes ++ xs → length bs ≤ 16384
push_short t bs xs h q = omega (arith, leb-true (length xs) (16384 - length t.bytes) h, ap length q, length-append t.bytes xs, t.short)

-- the spans with one more address
pub push_joined : (t : AddressTable) (ss : List Span) (bs xs : List ℕ) (s : Span) → s.start ≡ length t.bytes → s.length ≡ length xs → bs ≡ t.bytes ++ xs → ss ≡ t.spans ++ s ∷ [] → chained 0 ss (length bs) ≡ true
push_joined t ss bs xs s p l q r =
    let w = chained-push 0 t.spans (length t.bytes) s t.joined p in
    let k : length bs ≡ length t.bytes + s.length = ap length q ∙ length-append t.bytes xs ∙ ap (λ n. length t.bytes + n) (sym l) in
    rw (r, k) w

-- the table with one more address
pub push_held : (t : AddressTable) (ss : List Span) (bs xs : List ℕ) (s : Span) → s.start ≡ length t.bytes → s.length ≡ length xs → bs ≡ t.bytes ++ xs → ss ≡ t.spans ++ s ∷ [] → addresses_in ss bs ≡ addresses t ++ xs ∷ []
push_held t ss bs xs s p l q r =
    let w = addresses-push t.spans t.bytes xs s t.joined p l in
    cc

pub push_once : (t : AddressTable) (ss : List Span) (bs xs : List ℕ) (s : Span) → s.start ≡ length t.bytes → s.length ≡ length xs → bs ≡ t.bytes ++ xs → ss ≡ t.spans ++ s ∷ [] → None ≡ place_of (addresses t) xs → distinct (addresses_in ss bs) ≡ true
push_once t ss bs xs s p l q r none = ap distinct (push_held t ss bs xs s p l q r) ∙ once_more (addresses t) xs none t.once
