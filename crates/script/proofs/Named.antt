-- A line's name decides what is read behind it.
use Rattle.std.proofs.Common.{◌≡◌, ℕ, List, length, codes, ap, sym, ◌∙◌}
use Rattle.std.proofs.lemmas.Slice.Eq.{HasBytesAt, text_from_reads}
use Rattle.script.specs.declared.fault.Expected.TheVariants.{Strings}
use Rattle.script.specs.declared.lines.LineError.{LineError}
use Rattle.script.specs.declared.lines.LineError.TheVariants.{Memory, Refused}
use Rattle.script.specs.Lines.{Order, refused, base, directory, with_strings, with_room, named, Misses, Refuses}
use Rattle.script.specs.Number.{number_of}
use Rattle.script.specs.Strings.{string_of}
use Rattle.script.specs.Words.{trimmed_start, first_word}

pub named_base : (word rest : List ℕ) → length word ≡ 4 → HasBytesAt word 0 (codes "base") → named word rest ≡ with_strings base rest (string_of rest)
named_base word rest len bytes = ap (λ w. named w rest) (text_from_reads word (codes "base") len bytes)

pub named_directory : (word rest : List ℕ) → length word ≡ 9 → HasBytesAt word 0 (codes "directory") → named word rest ≡ with_strings directory rest (string_of rest)
named_directory word rest len bytes = ap (λ w. named w rest) (text_from_reads word (codes "directory") len bytes)

pub named_resolve : (word rest : List ℕ) → length word ≡ 7 → HasBytesAt word 0 (codes "resolve") → named word rest ≡ with_room (trimmed_start rest) (number_of (first_word (trimmed_start rest)))
named_resolve word rest len bytes = ap (λ w. named w rest) (text_from_reads word (codes "resolve") len bytes)

-- a line without its strings is refused
pub strings_missed : (e : LineError) (order : List ℕ → Order) (rest : List ℕ) → Misses e (string_of rest) (trimmed_start rest) Strings → Refuses e (with_strings order rest (string_of rest))
strings_missed Memory order rest h = tt
strings_missed (Refused r x) order rest h = ap (with_strings order rest) h.0 ∙ (λ i. refused (sym h.1 i) (sym h.2 i))
