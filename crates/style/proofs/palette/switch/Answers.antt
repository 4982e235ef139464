use Rattle.style.specs.declared.palette.Style.TheVariants.{Heading, Emphasis, Strong, Strikethrough, Code, Term, Link, Comment, Table, Text, Number}
use Rattle.style.proofs.Switching.{spelt_is}
use Rattle.style.proofs.palette.switch.Goals as goal

pub returns-in-Heading : goal.returns-in-Heading
returns-in-Heading c = rw c.in-Heading.is (spelt_is Heading)

pub returns-in-Emphasis : goal.returns-in-Emphasis
returns-in-Emphasis c = rw c.in-Emphasis.is (spelt_is Emphasis)

pub returns-in-Strong : goal.returns-in-Strong
returns-in-Strong c = rw c.in-Strong.is (spelt_is Strong)

pub returns-in-Strikethrough : goal.returns-in-Strikethrough
returns-in-Strikethrough c = rw c.in-Strikethrough.is (spelt_is Strikethrough)

pub returns-in-Code : goal.returns-in-Code
returns-in-Code c = rw c.in-Code.is (spelt_is Code)

pub returns-in-Term : goal.returns-in-Term
returns-in-Term c = rw c.in-Term.is (spelt_is Term)

pub returns-in-Link : goal.returns-in-Link
returns-in-Link c = rw c.in-Link.is (spelt_is Link)

pub returns-in-Comment : goal.returns-in-Comment
returns-in-Comment c = rw c.in-Comment.is (spelt_is Comment)

pub returns-in-Table : goal.returns-in-Table
returns-in-Table c = rw c.in-Table.is (spelt_is Table)

pub returns-in-Text : goal.returns-in-Text
returns-in-Text c = rw c.in-Text.is (spelt_is Text)

pub returns-in-Number : goal.returns-in-Number
returns-in-Number c = rw c.in-Number.is (spelt_is Number)
