-- Elements and their numbers. Assumes nothing.
use Rattle.std.proofs.Common.{◌≡◌, ◌-◌, get_or, sym, refl, ap, ◌∙◌}
use Rattle.events.specs.Kinds.{elements, number_of}
use Rattle.events.specs.declared.element.Element.{Element}
use Rattle.events.specs.declared.element.Element.TheVariants.{Paragraph, Heading, Quote, CodeBlock, BulletList, NumberedList, Item, DefinitionList, Title, Definition, Emphasis, Strong, Strikethrough, Link}

at_number : (e : Element) → get_or elements (number_of e - 1) Link ≡ e
at_number Paragraph = refl
at_number Heading = refl
at_number Quote = refl
at_number CodeBlock = refl
at_number BulletList = refl
at_number NumberedList = refl
at_number Item = refl
at_number DefinitionList = refl
at_number Title = refl
at_number Definition = refl
at_number Emphasis = refl
at_number Strong = refl
at_number Strikethrough = refl
at_number Link = refl

pub one_number_each : (e f : Element) → number_of e ≡ number_of f → e ≡ f
one_number_each e f n = sym (at_number e) ∙ ap (λ k. get_or elements (k - 1) Link) n ∙ at_number f
