-- The start of an element, behind the row end that it forces.
use Rattle.std.specs.Prelude.{ℕ, cond, List, [], ◌∷◌, ◌++◌, length, Some, None, Ok, Option, nat_lt}
use Rattle.chars.specs.Widths.{total_columns}
use Rattle.events.specs.declared.element.Element.{Element}
use Rattle.events.specs.declared.element.Element.TheVariants.{Paragraph, Heading, Quote, CodeBlock, BulletList, NumberedList, Item, DefinitionList, Title, Definition, Emphasis, Strong, Strikethrough, Link}
use Rattle.events.specs.declared.frame.ListFrame.{ListFrame}
use Rattle.events.specs.Lists.{top_frame, raised}
use Rattle.style.specs.declared.palette.Style.{Style}
use Rattle.line.specs.declared.segment.Segment.{Segment}
use Rattle.line.specs.declared.segment.Segment.TheVariants.{Indent}
use Rattle.line.specs.Folding.{and_then}
use Rattle.line.specs.Markers.{bullet, numbered}
use Rattle.line.specs.Writer.{Writer}
use Rattle.line.specs.Steps.{end_block}
use Rattle.line.specs.Flow.{marker_row, push_style, push_prefix, set_marker}
use Rattle.page.specs.declared.block.BlockContext.{BlockContext}
use Rattle.page.specs.declared.block.BlockContext.TheVariants.{Normal, Code}
use Rattle.page.specs.declared.block.CodeBlockState.{CodeBlockState}
use Rattle.page.specs.declared.block.InlineContext.TheVariants.{Term}
use Rattle.page.specs.Elements.{style_of, segment_of, due_before, is_item}
use Rattle.page.specs.Hands.{Context, mk_context, Hand, mk_hand, Work, Outcome, on_lines, quietly}

abbrev pub styled : Option Style → Writer → Writer
styled None w = w
styled (Some style) w = push_style style w

abbrev pub margined : Option Segment → Writer → Writer
margined None w = w
margined (Some segment) w = push_prefix segment w

-- the frame of a list: a numbered one has its first number
abbrev pub frame_of : Element → ℕ → Option ListFrame
frame_of Paragraph n = None
frame_of Heading n = None
frame_of Quote n = None
frame_of CodeBlock n = None
frame_of BulletList n = Some (record { ordinal = None })
frame_of NumberedList n = Some (record { ordinal = Some n })
frame_of Item n = None
frame_of DefinitionList n = None
frame_of Title n = None
frame_of Definition n = None
frame_of Emphasis n = None
frame_of Strong n = None
frame_of Strikethrough n = None
frame_of Link n = None

-- one more list, unless 32 are open
abbrev pub listed : Option ListFrame → List ListFrame → List ListFrame
listed None lists = lists
listed (Some frame) lists = cond (nat_lt (length lists) 32) (lists ++ frame ∷ []) lists

-- a code block and a title are blocks of their own for the text in them
abbrev pub block_in : {S : Type 0} → Element → CodeBlockState S → BlockContext S → BlockContext S
block_in Paragraph state block = block
block_in Heading state block = block
block_in Quote state block = block
block_in CodeBlock state block = Code state
block_in BulletList state block = block
block_in NumberedList state block = block
block_in Item state block = block
block_in DefinitionList state block = block
block_in Title state block = Normal Term
block_in Definition state block = block
block_in Emphasis state block = block
block_in Strong state block = block
block_in Strikethrough state block = block
block_in Link state block = block

-- one more element, unless 32 are open
abbrev pub nested : Element → List Element → List Element
nested e elements = cond (nat_lt (length elements) 32) (elements ++ e ∷ []) elements

-- an element is open: its style, its part of the margin, its list, its block
abbrev pub entered : {S : Type 0} → Element → CodeBlockState S → ℕ → Hand S → Hand S
entered e state n h =
    mk_hand (margined (segment_of e) (styled (style_of e) h.writer))
    (mk_context (nested e h.context.elements) (listed (frame_of e n) h.context.lists) (block_in e state h.context.block) h.context.line)

-- the marker of a list's next item
abbrev pub marker_by : Option ℕ → List ℕ
marker_by None = bullet
marker_by (Some n) = numbered n

abbrev pub marker_of : Option ListFrame → List ℕ
marker_of None = bullet
marker_of (Some frame) = marker_by frame.ordinal

-- the item is counted
abbrev pub counted_up : {S : Type 0} → Context S → Context S
counted_up c = mk_context c.elements (raised c.lists) c.block c.line

-- an item's first row has its marker, and all its rows as many spaces
abbrev pub marked : {S : Type 0} → (ℕ → ℕ) → Hand S → Hand S
marked columns h =
    mk_hand (push_prefix (Indent (total_columns columns (marker_of (top_frame h.context.lists)))) (set_marker (marker_of (top_frame h.context.lists)) h.writer))
    (counted_up h.context)

-- a marker that no row has taken gets one before the next item
abbrev pub start_item : {S : Type 0} → (ℕ → ℕ) → Work S → Outcome S
start_item columns w = and_then (on_lines (marker_row columns) w) (λ v. Ok (quietly (marked columns) v))

-- what comes before an element is open
abbrev pub prepared : {S : Type 0} → (ℕ → ℕ) → Element → Work S → Outcome S
prepared columns e w = cond (due_before e) (on_lines end_block w) (cond (is_item e) (start_item columns w) (Ok w))

abbrev pub started : {S : Type 0} → (ℕ → ℕ) → Element → CodeBlockState S → ℕ → Work S → Outcome S
started columns e state n w = and_then (prepared columns e w) (λ v. Ok (quietly (entered e state n) v))
