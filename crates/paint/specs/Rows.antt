-- The row in hand, text by text, up to its limit.
use Rattle.std.specs.Prelude.{ℕ, ◌+◌, ◌-◌, ◌^◌, min, Bool, cond, not, List, [], ◌∷◌, ◌++◌, length, Ok, Err, Result, ◌==◌, nat_le}
use Rattle.style.specs.Switches.{reset_bytes}
use Rattle.paint.specs.declared.fault.RowFault.{RowFault}
use Rattle.paint.specs.declared.open_line.OpenLine.{OpenLine}
use Rattle.paint.specs.Looks.{Looks, looks_of, linked, bare}
use Rattle.paint.specs.Switching.{restyled}
use Rattle.paint.specs.Linking.{link_bytes, relinked}

-- bytes behind those of a row, if there is room for them: 8,192 less what the row has
abbrev pub put : List ℕ → List ℕ → Result (List ℕ) RowFault
put more row = cond (nat_le (length more) (8192 - length row)) (Ok (row ++ more)) (Err (record {}))

-- what a call answered, with what it left in the place of its result
abbrev pub leaving : {A S E : Type 0} → Result A E → S → Result S E
leaving (Ok x) s = Ok s
leaving (Err e) s = Err e

-- a row in hand: its bytes, how many of them are margin, its columns so far, and what is in force at its end
pub record Open : Type 0 where
  pub bytes : List ℕ
  pub margin : ℕ
  pub column : ℕ
  pub emitted : Looks

abbrev pub mk_open : List ℕ → ℕ → ℕ → Looks → Open
mk_open bytes margin column emitted = record { bytes = bytes; margin = margin; column = column; emitted = emitted }

abbrev pub open_of : OpenLine → Open
open_of o = mk_open o.row o.margin o.column (looks_of o.emitted)

-- two counts together, up to the largest number there is
abbrev pub counted : ℕ → ℕ → ℕ
counted m n = min (m + n) (2 ^ 64 - 1)

-- an empty row
abbrev pub blank : Open
blank = mk_open [] 0 0 bare

-- a part of its margin behind what a row has, so many columns wide
abbrev pub indented : Open → ℕ → Result (List ℕ) RowFault → Result Open RowFault
indented o width (Ok bytes) = Ok (mk_open bytes (length bytes) (counted o.column width) o.emitted)
indented o width (Err e) = Err e

abbrev pub indent : List ℕ → ℕ → Open → Result Open RowFault
indent text width o = indented o width (put text o.bytes)

-- what leads from the looks in force to the desired ones: first the styles, then the link
abbrev pub synced : Looks → Looks → List ℕ → List ℕ
synced emitted desired address =
    restyled emitted.styles desired.styles ++ relinked emitted.link desired.link address

abbrev pub wrote : Open → ℕ → Looks → Result (List ℕ) RowFault → Result Open RowFault
wrote o width desired (Ok bytes) = Ok (mk_open bytes o.margin (counted o.column width) desired)
wrote o width desired (Err e) = Err e

-- a text of the desired looks, so many columns wide, behind what the row has
abbrev pub write : List ℕ → ℕ → Looks → List ℕ → Open → Result Open RowFault
write text width desired address o =
    wrote o width desired (put (synced o.emitted desired address ++ text) o.bytes)

-- a list without the spaces at its end
abbrev pub kept : ℕ → List ℕ → List ℕ
kept b [] = cond (b == 32) [] (b ∷ [])
kept b (c ∷ cs) = b ∷ c ∷ cs

abbrev pub trim : List ℕ → List ℕ
trim [] = []
trim (b ∷ bs) = kept b (trim bs)

-- what closes a row: the end of its link, and a reset
abbrev pub ending : Bool → Bool → List ℕ
ending linked styled = cond linked (link_bytes []) [] ++ cond styled reset_bytes []

abbrev pub finished : Open → List ℕ
finished o = trim o.bytes ++ ending (linked o.emitted.link) (not (length o.emitted.styles == 0))

-- the margin's bytes that trimming left
abbrev pub margin_left : Open → ℕ
margin_left o = min o.margin (length (trim o.bytes))
