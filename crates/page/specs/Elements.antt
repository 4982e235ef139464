-- What each element does to the rows: its style, its part of the margin, and the blank rows around it.
use Rattle.std.specs.Prelude.{Bool, true, false, not, Some, None, Option}
use Rattle.events.specs.declared.element.Element.{Element}
use Rattle.events.specs.declared.element.Element.TheVariants.{Paragraph, Heading, Quote, CodeBlock, BulletList, NumberedList, Item, DefinitionList, Title, Definition, Emphasis, Strong, Strikethrough, Link}
use Rattle.events.specs.declared.element.Event.{Event}
use Rattle.events.specs.declared.element.Event.TheVariants.{Start, End, Text, Code, SoftBreak, HardBreak}
use Rattle.style.specs.declared.palette.Style.{Style}
use Rattle.style.specs.declared.palette.Style.TheVariants as style
use Rattle.line.specs.declared.segment.Segment.{Segment}
use Rattle.line.specs.declared.segment.Segment.TheVariants as segment

-- a link's style counts only where links are on, so it is not here
abbrev pub style_of : Element → Option Style
style_of Paragraph = None
style_of Heading = Some style.Heading
style_of Quote = None
style_of CodeBlock = Some style.Code
style_of BulletList = None
style_of NumberedList = None
style_of Item = None
style_of DefinitionList = None
style_of Title = Some style.Term
style_of Definition = None
style_of Emphasis = Some style.Emphasis
style_of Strong = Some style.Strong
style_of Strikethrough = Some style.Strikethrough
style_of Link = None

-- an item's part is as wide as its marker, so it is not here
abbrev pub segment_of : Element → Option Segment
segment_of Paragraph = None
segment_of Heading = None
segment_of Quote = Some segment.Quote
segment_of CodeBlock = Some (segment.Indent 4)
segment_of BulletList = None
segment_of NumberedList = None
segment_of Item = None
segment_of DefinitionList = None
segment_of Title = None
segment_of Definition = Some (segment.Indent 4)
segment_of Emphasis = None
segment_of Strong = None
segment_of Strikethrough = None
segment_of Link = None

-- a blank row stands before a heading and a title
abbrev pub due_before : Element → Bool
due_before Paragraph = false
due_before Heading = true
due_before Quote = false
due_before CodeBlock = false
due_before BulletList = false
due_before NumberedList = false
due_before Item = false
due_before DefinitionList = false
due_before Title = true
due_before Definition = false
due_before Emphasis = false
due_before Strong = false
due_before Strikethrough = false
due_before Link = false

-- and behind every block but an item, a title and a definition list
abbrev pub due_after : Element → Bool
due_after Paragraph = true
due_after Heading = true
due_after Quote = true
due_after CodeBlock = true
due_after BulletList = true
due_after NumberedList = true
due_after Item = false
due_after DefinitionList = false
due_after Title = false
due_after Definition = true
due_after Emphasis = false
due_after Strong = false
due_after Strikethrough = false
due_after Link = false

-- an element that stands in a row of text
abbrev pub inline : Element → Bool
inline Paragraph = false
inline Heading = false
inline Quote = false
inline CodeBlock = false
inline BulletList = false
inline NumberedList = false
inline Item = false
inline DefinitionList = false
inline Title = false
inline Definition = false
inline Emphasis = true
inline Strong = true
inline Strikethrough = true
inline Link = true

-- a forced row end: a hard break, and the start or end of an element that stands in no row of text
abbrev pub forces : Event → Bool
forces (Start e) = not (inline e)
forces (End e) = not (inline e)
forces Text = false
forces Code = false
forces SoftBreak = false
forces HardBreak = true

abbrev pub is_item : Element → Bool
is_item Paragraph = false
is_item Heading = false
is_item Quote = false
is_item CodeBlock = false
is_item BulletList = false
is_item NumberedList = false
is_item Item = true
is_item DefinitionList = false
is_item Title = false
is_item Definition = false
is_item Emphasis = false
is_item Strong = false
is_item Strikethrough = false
is_item Link = false
