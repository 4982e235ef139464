-- The numbers of elements and of events.
use Rattle.std.specs.Prelude.{ℕ, ◌-◌, Bool, cond, ◌&&◌, List, [], ◌∷◌, Some, None, Option, ◌==◌, nat_le}
use Rattle.std.specs.Option.{option_map}
use Rattle.std.specs.List.{slice_get}
use Rattle.events.specs.declared.element.Element.{Element}
use Rattle.events.specs.declared.element.Element.TheVariants.{Paragraph, Heading, Quote, CodeBlock, BulletList, NumberedList, Item, DefinitionList, Title, Definition, Emphasis, Strong, Strikethrough, Link}
use Rattle.events.specs.declared.element.Event.{Event}
use Rattle.events.specs.declared.element.Event.TheVariants.{Start, End, Text, Code, SoftBreak, HardBreak}

-- the elements in the order of their numbers, from 1
abbrev pub elements : List Element
elements = Paragraph ∷ Heading ∷ Quote ∷ CodeBlock ∷ BulletList ∷ NumberedList ∷ Item ∷ DefinitionList ∷ Title ∷ Definition ∷ Emphasis ∷ Strong ∷ Strikethrough ∷ Link ∷ []

-- the number of an element
abbrev pub number_of : Element → ℕ
number_of Paragraph = 1
number_of Heading = 2
number_of Quote = 3
number_of CodeBlock = 4
number_of BulletList = 5
number_of NumberedList = 6
number_of Item = 7
number_of DefinitionList = 8
number_of Title = 9
number_of Definition = 10
number_of Emphasis = 11
number_of Strong = 12
number_of Strikethrough = 13
number_of Link = 14

-- two elements are the same
abbrev pub same : Element → Element → Bool
same e f = number_of e == number_of f

-- a number from one to another, both included
abbrev pub within : ℕ → ℕ → ℕ → Bool
within low n high = nat_le low n && nat_le n high

-- the element of a number: 1 to 14
abbrev pub element_of : ℕ → Option Element
element_of number = cond (within 1 number 14) (slice_get elements (number - 1)) None

-- kinds 1 to 14 start an element, 101 to 114 end it, 201 is a text, 202 a code span, 203 a soft and 204 a hard break
abbrev pub event_of : ℕ → Option Event
event_of kind =
    cond (within 1 kind 14) (option_map (λ e. Start e) (slice_get elements (kind - 1)))
    (cond (within 101 kind 114) (option_map (λ e. End e) (slice_get elements (kind - 101)))
    (cond (kind == 201) (Some Text)
    (cond (kind == 202) (Some Code)
    (cond (kind == 203) (Some SoftBreak)
    (cond (kind == 204) (Some HardBreak) None)))))
