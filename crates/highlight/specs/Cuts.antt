-- Where a text may be cut: the first token of a text in TOML ends there. Assumes nothing.
use Rattle.std.specs.Prelude.{◌≡◌, ℕ, ◌+◌, ◌-◌, ◌<◌, ◌≤◌, List, [], ◌∷◌, ◌++◌, length, drop, Some, None, IsUtf8, Option, ◌==◌, slice_index, slice_index_or, refl}
use Rattle.std.proofs.Common.{sym, ap, subst, ◌∙◌, arith, lit<, length-append, length-drop}
use Rattle.std.proofs.Math.Utf8.{encodes, encode}
use Rattle.std.specs.Option.{unwrap_or}
use Rattle.std.specs.Char.{len_utf8}
use Rattle.std.specs.Str.{IsCharBoundary}
use Rattle.std.proofs.lemmas.List.{get_or-drop, get_or_append_left}
use Rattle.std.proofs.lemmas.Bool.{cond_both}
use Rattle.std.proofs.lemmas.Str.{IsUtf8-drop, IsCharBoundary-end, IsCharBoundary-after_ascii, IsCharBoundary-from_rest, IsCharBoundary-past_char, chars_past_char, len_utf8_bounds}
use Rattle.highlight.specs.declared.piece.Mode.{Mode}
use Rattle.highlight.specs.declared.piece.Mode.TheVariants.{Outside, Inside}
use Rattle.highlight.specs.declared.piece.Piece.{Piece}
use Rattle.highlight.specs.Marks.{begins, through}
use Rattle.highlight.specs.Toml.{quote, quotes, long_end, long_string, short_string, alone, outside, first_char, piece_in}
use Rattle.highlight.specs.MarksLemmas.{begins-split, through_place}

-- a text may be cut behind so many of its bytes, one or more
abbrev pub Cut : List ℕ → ℕ → Type 0
Cut text n = (1 ≤ n) × IsCharBoundary text n

pub cut_end : (text : List ℕ) → 0 < length text → Cut text (length text)
cut_end text some = (omega arith, IsCharBoundary-end text)

-- behind a mark that ends in an ASCII byte
pub cut_behind_mark : (mark text rest : List ℕ) (k : ℕ) → IsUtf8 text → drop k text ≡ mark ++ rest → 0 < length mark → slice_index mark (length mark - 1) < 128 → Cut text (k + length mark)
cut_behind_mark mark text rest k u e some low =
    let n : length mark + length rest ≡ length text - k = sym (length-append mark rest) ∙ sym (ap length e) ∙ length-drop k text in
    let g : slice_index_or text (k + (length mark - 1)) 0 ≡ slice_index_or mark (length mark - 1) 0 =
    sym (get_or-drop k text (length mark - 1) 0) ∙ ap (λ xs. slice_index xs (length mark - 1)) e ∙ get_or_append_left mark rest 0 (length mark - 1) (omega arith) in
    let b = IsCharBoundary-after_ascii text (k + (length mark - 1)) u (omega arith) (omega (arith, g)) in
    let same : k + (length mark - 1) + 1 ≡ k + length mark = omega arith in
    let P : ℕ → Type 0 = λ i. IsCharBoundary text i in (omega arith, subst P same b)

-- a text behind the bytes that opened a string
pub cut_in_rest : (text : List ℕ) (opened n : ℕ) → opened ≤ length text → Cut (drop opened text) n → Cut text (opened + n)
cut_in_rest text opened n l c = (omega (arith, c.0), IsCharBoundary-from_rest text opened n l c.1)

pub cut_through : (mark inner : List ℕ) (n : ℕ) → IsUtf8 inner → 0 < length mark → slice_index mark (length mark - 1) < 128 → through mark inner ≡ Some n → Cut inner n
cut_through mark inner n u some low e =
    let r = through_place mark inner n e in
    let P : ℕ → Type 0 = λ i. Cut inner i in subst P (sym r.2) (cut_behind_mark mark inner r.1 r.0 u r.3 some low)

-- to the end, behind the bytes that opened a string
pub cut_rest_end : (text : List ℕ) (opened : ℕ) → 0 < length text → opened ≤ length text → Cut text (opened + length (drop opened text))
cut_rest_end text opened some l =
    let e : length text ≡ opened + length (drop opened text) = omega (arith, length-drop opened text) in
    let P : ℕ → Type 0 = λ i. Cut text i in subst P e (cut_end text some)

pub cut_long : (text : List ℕ) (opened : ℕ) → 0 < length text → opened ≤ length text → IsUtf8 (drop opened text) → Cut text (long_string opened (drop opened text)).token.length
cut_long text opened some l u = go (through quotes (drop opened text)) refl
  where
    go : (o : Option ℕ) → through quotes (drop opened text) ≡ o → Cut text (long_end opened (length (drop opened text)) o).token.length
    go (Some n) e = cut_in_rest text opened n l (cut_through quotes (drop opened text) n u (lit< tt) (lit< tt) e)
    go None e = cut_rest_end text opened some l

pub cut_short : (text : List ℕ) → 0 < length text → IsUtf8 (drop 1 text) → Cut text (short_string (drop 1 text)).token.length
cut_short text some u = go (through quote (drop 1 text)) refl
  where
    go : (o : Option ℕ) → through quote (drop 1 text) ≡ o → Cut text (1 + unwrap_or o (length (drop 1 text)))
    go (Some n) e = cut_in_rest text 1 n (omega arith) (cut_through quote (drop 1 text) n u (lit< tt) (lit< tt) e)
    go None e = cut_rest_end text 1 some (omega arith)

-- a text that is not empty begins with its first character
pub first_splits : (text : List ℕ) → IsUtf8 text → 0 < length text → (rest : List ℕ) × (text ≡ encode (first_char text) ++ rest)
first_splits text u some = go u.0 u.1.1
  where
    go : (cs : List ℕ) → encodes cs ≡ text → (rest : List ℕ) × (text ≡ encode (first_char text) ++ rest)
    go [] e = absurd (omega (arith, ap length e))
    go (c ∷ cs) e =
        let f : first_char text ≡ c = ap (λ xs. slice_index xs 0) (chars_past_char text (encodes cs) c u (sym e)) in
        (encodes cs, sym e ∙ ap (λ x. encode x ++ encodes cs) (sym f))

pub cut_alone : (text : List ℕ) → IsUtf8 text → 0 < length text → Cut text (alone (first_char text)).token.length
cut_alone text u some =
    let r = first_splits text u some in
    let b = IsCharBoundary-past_char text r.0 0 (first_char text) (omega arith) u r.1 in
    let z : 0 + len_utf8 (first_char text) ≡ len_utf8 (first_char text) = omega arith in
    let P : ℕ → Type 0 = λ i. IsCharBoundary text i in ((len_utf8_bounds (first_char text)).0, subst P z b)

pub cut_outside : (text : List ℕ) → IsUtf8 text → 0 < length text → Cut text (outside (first_char text) text).token.length
cut_outside text u some =
    let P : Piece → Type 0 = λ p. Cut text p.token.length in
    cond_both (first_char text == 35) _ _ P (λ e. cut_end text some)
    (λ e. cond_both (begins quotes text) _ _ P
    (λ t. let c = cut_behind_mark quotes text (drop 3 text) 0 u (begins-split quotes text t) (lit< tt) (lit< tt) in
    cut_long text 3 some c.1.0 (IsUtf8-drop text 3 u c.1))
    (λ f. cond_both (begins quote text) _ _ P
    (λ t. let c = cut_behind_mark quote text (drop 1 text) 0 u (begins-split quote text t) (lit< tt) (lit< tt) in
    cut_short text some (IsUtf8-drop text 1 u c.1))
    (λ g. cut_alone text u some)))

-- the first token of a text ends where the text may be cut
pub piece_cuts : (mode : Mode) (text : List ℕ) → IsUtf8 text → 0 < length text → Cut text (piece_in mode text).token.length
piece_cuts Outside text u some = cut_outside text u some
piece_cuts Inside text u some = cut_long text 0 some (omega arith) u
