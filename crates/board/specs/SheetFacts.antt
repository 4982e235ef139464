-- What a sheet holds, read from its table. Assumes nothing.
use Rattle.std.specs.Prelude.{◌≡◌, ℕ, zero, suc, ◌+◌, ◌^◌, ◌<◌, true, List, [], ◌∷◌, ◌++◌, length, take, drop, Some, None, vec_items, vec_len, vec_capacity}
use Rattle.std.proofs.Common.{sym, ap, ◌∙◌, arith, length-append}
use Rattle.std.specs.List.{slice_get}
use Rattle.std.specs.Option.{option_map}
use Rattle.std.proofs.lemmas.Option.{slice_get-map, none-some}
use Rattle.std.proofs.lemmas.List.{append_assoc, length-map, map_push, take_all, take_at, drop_at, take-map, take-append-drop, length-take-le}
use Rattle.std.proofs.lemmas.Bool.{and_from, lt-ltb}
use Rattle.board.specs.Bytes.{bytes_append}
use Rattle.board.specs.Tables.{bytes_fill, entry_within, rows_append, chained-cut, rows_cut}
use Rattle.board.specs.Row.{Row, mk_row, bytes_of}
use Rattle.board.specs.Table.{chained, row_of, rows_of}
use Rattle.board.specs.Sheets.{sheet_rows, sheet_fits}
use Rattle.board.specs.declared.entry.Entry.{Entry}
use Rattle.board.specs.declared.sheet.Sheet.{Sheet}

pub joined_at : (s : Sheet) → chained 0 (vec_items s.entries) (length (vec_items s.area)) ≡ true
joined_at s = rw (← s.area.ok.0) s.joined

pub count_is : (s : Sheet) → length (sheet_rows s) ≡ vec_len s.entries
count_is s = length-map (vec_items s.entries) (row_of (vec_items s.area)) ∙ sym s.entries.ok.0

pub bytes_count : (s : Sheet) → length (bytes_of (sheet_rows s)) ≡ vec_len s.area
bytes_count s = ap length s.packed ∙ sym s.area.ok.0

-- what a table and an area hold with one more row
pub rows_put : (es : List Entry) (bs xs : List ℕ) (e : Entry) → chained 0 es (length bs) ≡ true → e.start ≡ length bs → e.length ≡ length xs → rows_of (es ++ e ∷ []) ((bs ++ xs) ++ 10 ∷ []) ≡ rows_of es bs ++ mk_row e.margin xs ∷ []
rows_put es bs xs e h s l =
    let more : List ℕ = xs ++ 10 ∷ [] in
    let a : (bs ++ xs) ++ 10 ∷ [] ≡ bs ++ more = simp append_assoc in
    let b = map_push (row_of (bs ++ more)) es e in
    let d = rows_append 0 es bs more h in
    let f : drop e.start (bs ++ more) ≡ more = drop_at bs more e.start (sym s) in
    let g : take e.length more ≡ xs = take_at xs (10 ∷ []) e.length (sym l) in
    cc

-- the entry at a place
pub entry_in : (s : Sheet) (n : ℕ) (e : Entry) → slice_get (vec_items s.entries) n ≡ Some e → e.start + e.length < vec_len s.area
entry_in s n e g = entry_within 0 (vec_items s.entries) (vec_len s.area) n e s.joined g

pub row_in : (s : Sheet) (n : ℕ) (e : Entry) → slice_get (vec_items s.entries) n ≡ Some e → slice_get (sheet_rows s) n ≡ Some (row_of (vec_items s.area) e)
row_in s n e g = slice_get-map (row_of (vec_items s.area)) (vec_items s.entries) n ∙ ap (option_map (row_of (vec_items s.area))) g

-- a table and an area cut back to the entry at a place
pub cut_joined : (s : Sheet) (n : ℕ) (e : Entry) → slice_get (vec_items s.entries) n ≡ Some e → chained 0 (take n (vec_items s.entries)) e.start ≡ true
cut_joined s n e g = chained-cut 0 (vec_items s.entries) (vec_len s.area) n e s.joined g

pub cut_rows : (s : Sheet) (n : ℕ) (e : Entry) → slice_get (vec_items s.entries) n ≡ Some e → rows_of (take n (vec_items s.entries)) (take e.start (vec_items s.area)) ≡ take n (sheet_rows s)
cut_rows s n e g =
    let w = entry_in s n e g in
    rows_cut 0 (take n (vec_items s.entries)) (vec_items s.area) e.start (omega (arith, s.area.ok.0)) (cut_joined s n e g)
    ∙ sym (take-map (row_of (vec_items s.area)) n (vec_items s.entries))

-- the same, over what the calls left: es', b₁ and bs' stand for what they hold
pub put_held : (s : Sheet) (es' : List Entry) (b₁ bs' xs : List ℕ) (e : Entry) → e.start ≡ vec_len s.area → e.length ≡ length xs → b₁ ≡ vec_items s.area ++ xs → bs' ≡ b₁ ++ 10 ∷ [] → es' ≡ vec_items s.entries ++ e ∷ [] → rows_of es' bs' ≡ sheet_rows s ++ mk_row e.margin xs ∷ []
put_held s es' b₁ bs' xs e p l q r t =
    let w = rows_put (vec_items s.entries) (vec_items s.area) xs e (joined_at s) (omega (arith, s.area.ok.0)) l in
    cc

pub cut_held : (s : Sheet) (es' : List Entry) (bs' : List ℕ) (n : ℕ) (e : Entry) → slice_get (vec_items s.entries) n ≡ Some e → es' ≡ take n (vec_items s.entries) → bs' ≡ take e.start (vec_items s.area) → rows_of es' bs' ≡ take n (sheet_rows s)
cut_held s es' bs' n e g p q = let w = cut_rows s n e g in cc

cut_nothing : (es : List Entry) (bs : List ℕ) (n : ℕ) → slice_get es n ≡ None → rows_of es bs ≡ take n (rows_of es bs)
cut_nothing [] bs n g = sym (take_all n [] (omega arith))
cut_nothing (e ∷ es) bs zero g = absurd (none-some e (sym g))
cut_nothing (e ∷ es) bs (suc n) g = ap (λ rs. row_of bs e ∷ rs) (cut_nothing es bs n g)

-- no entry at a place: there is nothing to cut
pub cut_none : (s : Sheet) (n : ℕ) → slice_get (vec_items s.entries) n ≡ None → sheet_rows s ≡ take n (sheet_rows s)
cut_none s n g = cut_nothing (vec_items s.entries) (vec_items s.area) n g

-- the area is still the bytes of the rows
pub put_packed : (s : Sheet) (es' : List Entry) (b₁ bs' xs : List ℕ) (e : Entry) → e.start ≡ vec_len s.area → e.length ≡ length xs → b₁ ≡ vec_items s.area ++ xs → bs' ≡ b₁ ++ 10 ∷ [] → es' ≡ vec_items s.entries ++ e ∷ [] → bytes_of (rows_of es' bs') ≡ bs'
put_packed s es' b₁ bs' xs e p l q r t =
    ap bytes_of (put_held s es' b₁ bs' xs e p l q r t)
    ∙ bytes_append (sheet_rows s) (mk_row e.margin xs ∷ [])
    ∙ ap (λ bs. bs ++ (xs ++ 10 ∷ [])) s.packed
    ∙ sym (r ∙ ap (λ bs. bs ++ 10 ∷ []) q ∙ append_assoc (vec_items s.area) xs (10 ∷ []))

pub cut_packed : (s : Sheet) (es' : List Entry) (bs' : List ℕ) (n : ℕ) (e : Entry) → slice_get (vec_items s.entries) n ≡ Some e → es' ≡ take n (vec_items s.entries) → bs' ≡ take e.start (vec_items s.area) → bytes_of (rows_of es' bs') ≡ bs'
cut_packed s es' bs' n e g p q =
    let front : List Row = take n (sheet_rows s) in
    let back : List Row = drop n (sheet_rows s) in
    let w = entry_in s n e g in
    let k = length-take-le e.start (vec_items s.area) (omega (arith, s.area.ok.0)) in
    let f = bytes_fill 0 (take n (vec_items s.entries)) (take e.start (vec_items s.area)) (rw k (cut_joined s n e g)) in
    let l : length (bytes_of front) ≡ e.start = ap (λ rs. length (bytes_of rs)) (sym (cut_rows s n e g)) ∙ omega (arith, f, k) in
    let t = sym s.packed ∙ ap bytes_of (sym (take-append-drop n (sheet_rows s))) ∙ bytes_append front back in
    ap bytes_of (cut_held s es' bs' n e g p q) ∙ sym (q ∙ ap (take e.start) t ∙ take_at (bytes_of front) (bytes_of back) e.start l)

-- the bytes of a sheet are those of its area
pub sheet_countable : (s : Sheet) → length (bytes_of (sheet_rows s)) < 2 ^ 64
sheet_countable s = omega (arith, bytes_count s, s.area.small)

-- each row of a sheet would fit behind those before it again
pub sheet_regains_each : (s : Sheet) (front : List Row) (row : Row) (rest : List Row) → sheet_rows s ≡ front ++ row ∷ rest → sheet_fits s front (length row.bytes) ≡ true
sheet_regains_each s front row rest e =
    let n = ap length e ∙ length-append front (row ∷ rest) in
    let b = ap (λ rs. length (bytes_of rs)) e ∙ ap length (bytes_append front (row ∷ rest)) ∙ length-append (bytes_of front) (bytes_of (row ∷ rest)) in
    let l = length-append row.bytes (10 ∷ bytes_of rest) in
    and_from _ _
    (lt-ltb (length front) (vec_capacity s.entries) (omega (arith, count_is s, s.entries.ok.1)))
    (lt-ltb (length (bytes_of front) + length row.bytes) s.bytes_most (omega (arith, bytes_count s, s.bytes_held)))
