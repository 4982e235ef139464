-- The code's renderer as what it holds.
use Rattle.std.specs.Prelude.{ℕ, Bool, List, Ok, Err, string_bytes, Result}
use Rattle.board.specs.Row.{Row}
use Rattle.line.specs.declared.fault.LineFault.{LineFault}
use Rattle.line.specs.Reads.{writer_of}
use Rattle.line.specs.Writer.{mk_ground}
use Rattle.page.specs.declared.renderer.Renderer.{Renderer}
use Rattle.page.specs.Hands.{Context, mk_context, Hand, mk_hand, Work, mk_work, Outcome}

abbrev pub context_of : {S : Type 0} → Renderer S → Context S
context_of r = mk_context r.elements r.list_stack r.block (string_bytes r.held)

abbrev pub hand_of : {S : Type 0} → Renderer S → Hand S
hand_of r = mk_hand (writer_of r.writer) (context_of r)

abbrev pub work_of : {S : Type 0} → Renderer S → List Row → (List Row → ℕ → Bool) → Work S
work_of r rows fits = mk_work (hand_of r) (mk_ground rows fits)

-- what a call answered, with what it left: the work, or at a refusal the board and the context
abbrev pub left_of : {A S : Type 0} → Result A LineFault → Work S → Outcome S
left_of (Ok x) w = Ok w
left_of (Err e) w = Err (e, w.ground, w.hand.context)
