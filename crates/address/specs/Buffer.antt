-- An address of at most 512 bytes, written from its end to its front.
use Rattle.std.specs.Prelude.{ℕ, ◌+◌, cond, List, ◌++◌, length, drop, Some, None, Option, nat_le}
use Rattle.std.specs.Option.{option_map}
use Rattle.address.specs.declared.buffer.Address.{Address}
use Rattle.address.specs.declared.buffer.Draft.{Draft}

-- the bytes that it has
abbrev pub bytes_of : Address → List ℕ
bytes_of a = drop a.start a.bytes

-- what was written, or nothing once that was more than fits
abbrev pub held : Draft → Option (List ℕ)
held d = option_map bytes_of d.0

-- a text put before what is held
abbrev pub prepended : List ℕ → Option (List ℕ) → Option (List ℕ)
prepended text None = None
prepended text (Some bytes) = cond (nat_le (length text + length bytes) 512) (Some (text ++ bytes)) None
