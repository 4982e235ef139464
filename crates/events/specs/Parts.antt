-- What a record says of a text.
use Rattle.std.specs.Prelude.{ℕ, ◌+◌, Bool, true, false, cond, ◌&&◌, ◌||◌, Some, None, Option, ◌==◌, nat_le}
use Rattle.events.specs.Kinds.{same, event_of}
use Rattle.events.specs.declared.element.Element.TheVariants.{CodeBlock, NumberedList, Link}
use Rattle.events.specs.declared.element.Event.{Event}
use Rattle.events.specs.declared.element.Event.TheVariants.{Start, End, Text, Code, SoftBreak, HardBreak}
use Rattle.events.specs.declared.part.Part.{Part}
use Rattle.events.specs.declared.record.Record.{Record}

-- only a numbered list's start has a number
abbrev pub has_number : Event → Bool
has_number (Start e) = same e NumberedList
has_number (End e) = false
has_number Text = false
has_number Code = false
has_number SoftBreak = false
has_number HardBreak = false

-- a code block's start, a link's start, a text and a code span have a part of the text: a language, an address, what is written
abbrev pub has_part : Event → Bool
has_part (Start e) = same e CodeBlock || same e Link
has_part (End e) = false
has_part Text = true
has_part Code = true
has_part SoftBreak = false
has_part HardBreak = false

-- a number is at most 999,999,999, and 0 where it says nothing
abbrev pub number_serves : Event → ℕ → Bool
number_serves event number = cond (has_number event) (nat_le number 999999999) (number == 0)

-- the start and the length of a part are 0 where they say nothing
abbrev pub part_serves : Event → ℕ → ℕ → Bool
part_serves event start length = cond (has_part event) true (start == 0 && length == 0)

-- its fields serve its event, and its part ends inside the text
abbrev pub serves : Record → ℕ → Event → Bool
serves r n event = number_serves event r.number && part_serves event r.start r.length && nat_le (r.start + r.length) n

-- what a record of a known event says of a text of n bytes
abbrev pub part_from : Record → ℕ → Option Event → Option Part
part_from r n None = None
part_from r n (Some event) = cond (serves r n event) (Some (record { event = event; start = r.start; end = r.start + r.length })) None

-- what a record says of a text of n bytes: nothing, if its kind is unknown
abbrev pub part_of : Record → ℕ → Option Part
part_of r n = part_from r n (event_of r.kind)
