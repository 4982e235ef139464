-- What an event may change.
use Rattle.std.specs.Prelude.{ℕ, Bool, List, Ok, Err, Option, Result}
use Rattle.board.specs.Row.{Row}
use Rattle.events.specs.declared.element.Element.{Element}
use Rattle.events.specs.declared.frame.ListFrame.{ListFrame}
use Rattle.highlight.specs.declared.token.Token.{Token}
use Rattle.line.specs.declared.fault.LineFault.{LineFault}
use Rattle.line.specs.Writer as line
use Rattle.line.specs.Writer.{Writer, Ground, mk_state}
use Rattle.page.specs.declared.block.BlockContext.{BlockContext}

-- the character table, the highlighter, the page's addresses, and what fits its board
pub record Desk (S : Type 0) : Type 0 where
  pub columns : ℕ → ℕ
  pub blank : ℕ → Bool
  pub first : List ℕ → Option S
  pub falls : S → List ℕ → List Token
  pub next : S → List ℕ → S
  pub addresses : List (List ℕ)
  pub fits : List Row → ℕ → Bool

-- the open elements and lists, the block that the text stands in, and a code line that no newline has ended yet
pub record Context (S : Type 0) : Type 0 where
  pub elements : List Element
  pub lists : List ListFrame
  pub block : BlockContext S
  pub line : List ℕ

abbrev pub mk_context : {S : Type 0} → List Element → List ListFrame → BlockContext S → List ℕ → Context S
mk_context elements lists block line = record { elements = elements; lists = lists; block = block; line = line }

pub record Hand (S : Type 0) : Type 0 where
  pub writer : Writer
  pub context : Context S

abbrev pub mk_hand : {S : Type 0} → Writer → Context S → Hand S
mk_hand writer context = record { writer = writer; context = context }

-- with the board
pub record Work (S : Type 0) : Type 0 where
  pub hand : Hand S
  pub ground : Ground

abbrev pub mk_work : {S : Type 0} → Hand S → Ground → Work S
mk_work hand ground = record { hand = hand; ground = ground }

-- what comes next, or a refusal with the board as it was left and the context as it was
abbrev pub Outcome : Type 0 → Type 0
Outcome S = Result (Work S) (LineFault × Ground × Context S)

-- what the line writer does
abbrev pub written : {S : Type 0} → Work S → line.Outcome → Outcome S
written w (Ok s) = Ok (mk_work (mk_hand s.hand w.hand.context) s.ground)
written w (Err e) = Err (e.0, e.1, w.hand.context)

abbrev pub on_lines : {S : Type 0} → (line.State → line.Outcome) → Work S → Outcome S
on_lines f w = written w (f (mk_state w.hand.writer w.ground))

-- what the writer holds next, or a refusal
abbrev pub worded_in : {S : Type 0} → Work S → Result Writer LineFault → Outcome S
worded_in w (Ok writer) = Ok (mk_work (mk_hand writer w.hand.context) w.ground)
worded_in w (Err e) = Err (e, w.ground, w.hand.context)

-- a step that puts no row and is not refused
abbrev pub quietly : {S : Type 0} → (Hand S → Hand S) → Work S → Work S
quietly f w = mk_work (f w.hand) w.ground
