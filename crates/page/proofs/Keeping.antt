-- The start of an element changes nothing of what fits on the board, and a refused one leaves what is open as it was. Assumes
-- nothing.
use Rattle.std.proofs.Common.{◌≡◌, ℕ, Bool, true, false, cond, List, Ok, Err, Result, sym, refl, ap, subst, ◌∙◌}
use Rattle.board.specs.Row.{Row}
use Rattle.events.specs.declared.element.Element.{Element}
use Rattle.line.specs.declared.fault.LineFault.{LineFault}
use Rattle.line.specs.Folding.{and_then}
use Rattle.line.specs.Writer as line
use Rattle.line.specs.Writer.{mk_state}
use Rattle.line.specs.Steps.{end_block}
use Rattle.line.specs.Flow.{marker_row}
use Rattle.line.proofs.Keeping as lines
use Rattle.page.specs.declared.block.CodeBlockState.{CodeBlockState}
use Rattle.page.specs.Elements.{due_before, is_item}
use Rattle.page.specs.Hands.{Context, Hand, Work, Outcome, written, on_lines, quietly}
use Rattle.page.specs.Opening.{marked, entered, start_item, prepared, started}
use Rattle.page.specs.Reads.{left_of}

-- what fits where a step ends
abbrev pub fits_at : {S : Type 0} → Outcome S → List Row → ℕ → Bool
fits_at (Ok w) = w.ground.fits
fits_at (Err e) = e.1.fits

-- a refused step leaves this context
abbrev pub Stays : {S : Type 0} → Context S → Outcome S → Type 0
Stays c (Ok w) = Unit {0}
Stays c (Err e) = e.2 ≡ c

-- it leaves what fits and, refused, the context as they are in the work
abbrev pub KeptIn : {S : Type 0} → Work S → Outcome S → Type 0
KeptIn w o = (fits_at o ≡ w.ground.fits) × Stays w.hand.context o

abbrev pub Keeps : {S : Type 0} → (Work S → Outcome S) → Type 0
Keeps {S} f = (w : Work S) → KeptIn w (f w)

written_keeps : {S : Type 0} (w : Work S) (o : line.Outcome) → lines.fits_at o ≡ w.ground.fits → KeptIn w (written w o)
written_keeps w (Ok s) h = (h, tt)
written_keeps w (Err e) h = (h, refl)

on_lines_keeps : {S : Type 0} (f : line.State → line.Outcome) → lines.Keeps f → Keeps {S = S} (on_lines f)
on_lines_keeps f k w = written_keeps w (f (mk_state w.hand.writer w.ground)) (k (mk_state w.hand.writer w.ground))

quietly_keeps : {S : Type 0} (w : Work S) (r : Outcome S) (f : Hand S → Hand S) → KeptIn w r → KeptIn w (and_then r (λ v. Ok (quietly f v)))
quietly_keeps w (Ok v) f h = (h.0, tt)
quietly_keeps w (Err e) f h = h

chosen : {S : Type 0} (w : Work S) (t : Bool) (a b : Outcome S) → KeptIn w a → KeptIn w b → KeptIn w (cond t a b)
chosen w true a b h k = h
chosen w false a b h k = k

pub start_item_keeps : {S : Type 0} (columns : ℕ → ℕ) → Keeps {S = S} (start_item columns)
start_item_keeps columns w =
    quietly_keeps w (on_lines (marker_row columns) w) (marked columns) (on_lines_keeps (marker_row columns) (lines.marker_row_keeps columns) w)

pub prepared_keeps : {S : Type 0} (columns : ℕ → ℕ) (e : Element) → Keeps {S = S} (prepared columns e)
prepared_keeps columns e w =
    chosen w (due_before e) (on_lines end_block w) (cond (is_item e) (start_item columns w) (Ok w)) (on_lines_keeps end_block lines.end_block_keeps w)
    (chosen w (is_item e) (start_item columns w) (Ok w) (start_item_keeps columns w) (refl, tt))

pub started_keeps : {S : Type 0} (columns : ℕ → ℕ) (e : Element) (state : CodeBlockState S) (n : ℕ) → Keeps (started columns e state n)
started_keeps columns e state n w = quietly_keeps w (prepared columns e w) (entered e state n) (prepared_keeps columns e w)

-- so where a call left what a step makes, what fits is what fitted before, and at a refusal the context is what it was
fits_left : {A S : Type 0} (r : Result A LineFault) (w : Work S) → fits_at (left_of r w) ≡ w.ground.fits
fits_left (Ok x) w = refl
fits_left (Err e) w = refl

pub fits_kept : {A S : Type 0} (f : Work S → Outcome S) → Keeps f → (r : Result A LineFault) (old new : Work S) → left_of r new ≡ f old → new.ground.fits ≡ old.ground.fits
fits_kept f k r old new e = sym (fits_left r new) ∙ ap fits_at e ∙ (k old).0

pub context_kept : (A : Type 0) {S : Type 0} (f : Work S → Outcome S) → Keeps f → (e : LineFault) (old new : Work S) → left_of {A = A} (Err e) new ≡ f old → new.hand.context ≡ old.hand.context
context_kept A f k e old new h = subst (Stays old.hand.context) (sym h) (k old).1
