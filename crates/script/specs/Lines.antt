-- What a line of a script asks for.
use Rattle.std.specs.Prelude.{◌≡◌, ℕ, cond, List, [], ◌∷◌, Some, None, vec_items, codes, Option, ◌==◌}
use Rattle.std.specs.Str.{bytes_eq}
use Rattle.script.specs.declared.command.Command.{Command}
use Rattle.script.specs.declared.command.Command.TheVariants as command
use Rattle.script.specs.declared.fault.Expected.{Expected}
use Rattle.script.specs.declared.fault.Expected.TheVariants as expected
use Rattle.script.specs.declared.lines.LineError.{LineError}
use Rattle.script.specs.declared.lines.LineError.TheVariants.{Memory, Refused}
use Rattle.script.specs.Number.{number_of}
use Rattle.script.specs.Strings.{string_of}
use Rattle.script.specs.Words.{trimmed_start, trimmed, first_word, behind_word}

-- a setting, or a call
pub data Order : Type 0 where
  base : List ℕ → Order
  directory : List ℕ → Order
  resolve : ℕ → List ℕ → Order

-- a line is skipped, asks for something, or is refused: what was read, and what was expected there
pub data Meaning : Type 0 where
  skipped : Meaning
  asks : Order → Meaning
  refused : List ℕ → Expected → Meaning

-- the code's command as an order
abbrev pub order_of : Command → Order
order_of (command.Base b) = base (vec_items b)
order_of (command.Directory d) = directory (vec_items d)
order_of (command.Resolve n a) = resolve n (vec_items a)

-- what the code makes of a line that it does not refuse
abbrev pub meaning_of : Option Command → Meaning
meaning_of None = skipped
meaning_of (Some c) = asks (order_of c)

-- the strings of a line, if they are such, in an order
abbrev pub with_strings : (List ℕ → Order) → List ℕ → Option (List ℕ) → Meaning
with_strings order rest None = refused (trimmed_start rest) expected.Strings
with_strings order rest (Some s) = asks (order s)

-- the room of a resolve call, if it is a number
abbrev pub with_room : List ℕ → Option ℕ → Meaning
with_room rest None = refused (first_word rest) expected.Room
with_room rest (Some n) = with_strings (resolve n) (behind_word rest) (string_of (behind_word rest))

-- a line by its name, the word, where rest is what follows
abbrev pub named : List ℕ → List ℕ → Meaning
named word rest =
    cond (bytes_eq word (codes "base")) (with_strings base rest (string_of rest))
    (cond (bytes_eq word (codes "directory")) (with_strings directory rest (string_of rest))
    (cond (bytes_eq word (codes "resolve")) (with_room (trimmed_start rest) (number_of (first_word (trimmed_start rest))))
    (refused word expected.Call)))

-- a line with nothing around it: empty and % lines are skipped
abbrev pub bare : List ℕ → Meaning
bare [] = skipped
bare (b ∷ bs) = cond (b == 37) skipped (named (first_word (b ∷ bs)) (behind_word (b ∷ bs)))

-- what a line means
abbrev pub line_of : List ℕ → Meaning
line_of bs = bare (trimmed bs)

-- an error says how a line is refused, but for want of memory, which says nothing of the line
abbrev pub Refuses : LineError → Meaning → Type 0
Refuses Memory m = Unit {0}
Refuses (Refused r x) m = m ≡ refused r.items x

-- it says what was read and what was expected there, since what is asked for is missing
abbrev pub Misses : {A : Type 0} → LineError → Option A → List ℕ → Expected → Type 0
Misses Memory o read x = Unit {0}
Misses (Refused r y) o read x = (o ≡ None) × (r.items ≡ read) × (y ≡ x)
