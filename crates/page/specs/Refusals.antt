-- What each refusal carries: its number, its layer and the place of the bad character.
use Rattle.std.specs.Prelude.{ℕ}
use Rattle.address.specs.declared.fault.Layer.{Layer}
use Rattle.address.specs.declared.fault.Layer.TheVariants as layer
use Rattle.line.specs.declared.fault.LineFault.{LineFault}
use Rattle.line.specs.declared.fault.LineFault.TheVariants.{Held, Row, Board}
use Rattle.page.specs.declared.fault.PageFault.{PageFault}
use Rattle.page.specs.declared.fault.PageFault.TheVariants.{Closed, Long, Record, Text, Nesting, Deep, Site, Address, Open, Line}

-- 10 a held word or code line, 11 a row, 12 the board
abbrev pub line_number : LineFault → ℕ
line_number Held = 10
line_number (Row e) = 11
line_number (Board e) = 12

-- 1 closed, 2 long, 3 record, 4 text, 5 nesting, 6 deep, 7 site, 8 address, 9 open
abbrev pub number_of : PageFault → ℕ
number_of Closed = 1
number_of Long = 2
number_of Record = 3
number_of (Text place) = 4
number_of Nesting = 5
number_of Deep = 6
number_of Site = 7
number_of Address = 8
number_of Open = 9
number_of (Line e) = line_number e

abbrev pub line_layer : LineFault → Layer
line_layer Held = layer.Line
line_layer (Row e) = layer.Line
line_layer (Board e) = layer.Board

-- 10 and 11 are of the line, 12 of the board, all others of the page
abbrev pub layer_of : PageFault → Layer
layer_of Closed = layer.Page
layer_of Long = layer.Page
layer_of Record = layer.Page
layer_of (Text place) = layer.Page
layer_of Nesting = layer.Page
layer_of Deep = layer.Page
layer_of Site = layer.Page
layer_of Address = layer.Page
layer_of Open = layer.Page
layer_of (Line e) = line_layer e

-- where the bad character stands, else 0
abbrev pub place_of : PageFault → ℕ
place_of Closed = 0
place_of Long = 0
place_of Record = 0
place_of (Text place) = place
place_of Nesting = 0
place_of Deep = 0
place_of Site = 0
place_of Address = 0
place_of Open = 0
place_of (Line e) = 0
