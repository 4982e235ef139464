-- Where an event may stand.
use Rattle.std.specs.Prelude.{ℕ, ◌-◌, Bool, false, not, ◌&&◌, ◌||◌, List, [], ◌∷◌, length, Some, None, Option, ◌==◌}
use Rattle.std.specs.List.{slice_get}
use Rattle.events.specs.Kinds.{same}
use Rattle.events.specs.declared.element.Element.{Element}
use Rattle.events.specs.declared.element.Element.TheVariants.{Paragraph, Heading, Quote, CodeBlock, BulletList, NumberedList, Item, DefinitionList, Title, Definition, Emphasis, Strong, Strikethrough, Link}
use Rattle.events.specs.declared.element.Event.{Event}
use Rattle.events.specs.declared.element.Event.TheVariants.{Start, End, Text, Code, SoftBreak, HardBreak}
use Rattle.events.specs.declared.nesting.Content.{Content}
use Rattle.events.specs.declared.nesting.Content.TheVariants.{Blocks, Inlines, Both, Entries, Terms, Letters}
use Rattle.events.specs.declared.nesting.Role.{Role}
use Rattle.events.specs.declared.nesting.Role.TheVariants.{Block, Inline, Plain, Entry, Term}

-- what each element holds
abbrev pub content_of : Element → Content
content_of Paragraph = Inlines
content_of Heading = Inlines
content_of Quote = Blocks
content_of CodeBlock = Letters
content_of BulletList = Entries
content_of NumberedList = Entries
content_of Item = Both
content_of DefinitionList = Terms
content_of Title = Inlines
content_of Definition = Both
content_of Emphasis = Inlines
content_of Strong = Inlines
content_of Strikethrough = Inlines
content_of Link = Inlines

-- as what each element stands in another
abbrev pub role_of : Element → Role
role_of Paragraph = Block
role_of Heading = Block
role_of Quote = Block
role_of CodeBlock = Block
role_of BulletList = Block
role_of NumberedList = Block
role_of Item = Entry
role_of DefinitionList = Block
role_of Title = Term
role_of Definition = Term
role_of Emphasis = Inline
role_of Strong = Inline
role_of Strikethrough = Inline
role_of Link = Inline

-- the roles that each content takes
abbrev pub taken : Content → List Role
taken Blocks = Block ∷ []
taken Inlines = Inline ∷ Plain ∷ []
taken Both = Block ∷ Inline ∷ Plain ∷ []
taken Entries = Entry ∷ []
taken Terms = Term ∷ []
taken Letters = Plain ∷ []

-- a number for each role, to compare them by
abbrev pub rank : Role → ℕ
rank Block = 0
rank Inline = 1
rank Plain = 2
rank Entry = 3
rank Term = 4

-- a role stands in a list of roles
abbrev pub amid : List Role → Role → Bool
amid [] role = false
amid (r ∷ rs) role = rank r == rank role || amid rs role

-- a content takes a role
abbrev pub takes : Content → Role → Bool
takes content role = amid (taken content) role

-- the element that was opened last
abbrev pub innermost : List Element → Option Element
innermost es = slice_get es (length es - 1)

-- what an element holds, or, without one, the page itself
abbrev pub content_within : Option Element → Content
content_within None = Blocks
content_within (Some e) = content_of e

-- what may stand next, by the innermost open element
abbrev pub content_in : List Element → Content
content_in es = content_within (innermost es)

-- there is an element, and it is this one
abbrev pub is_element : Option Element → Element → Bool
is_element None e = false
is_element (Some f) e = same f e

-- the innermost open element is this one
abbrev pub is_innermost : List Element → Element → Bool
is_innermost es e = is_element (innermost es) e

-- a link is open
abbrev pub any_link : List Element → Bool
any_link [] = false
any_link (e ∷ es) = same e Link || any_link es

-- an event stands where the innermost open element takes it, a link in no other link; an end only right inside its element
abbrev pub has_place : List Element → Event → Bool
has_place es (Start e) = takes (content_in es) (role_of e) && not (same e Link && any_link es)
has_place es (End e) = is_innermost es e
has_place es Text = takes (content_in es) Plain
has_place es Code = takes (content_in es) Inline
has_place es SoftBreak = takes (content_in es) Inline
has_place es HardBreak = takes (content_in es) Inline
