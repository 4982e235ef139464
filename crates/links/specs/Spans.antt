-- Where addresses lie in bytes.
use Rattle.std.specs.Prelude.{ℕ, ◌+◌, Bool, ◌&&◌, List, [], ◌∷◌, map, take, drop, ◌==◌}
use Rattle.links.specs.declared.span.Span.{Span}

-- the spans lie one behind the other from a place to an end
abbrev pub chained : ℕ → List Span → ℕ → Bool
chained place [] end = place == end
chained place (s ∷ ss) end = s.start == place && chained (place + s.length) ss end

-- the address that a span cuts out of the bytes
abbrev pub address_in : List ℕ → Span → List ℕ
address_in bytes s = take s.length (drop s.start bytes)

-- the addresses of all spans, in order
abbrev pub addresses_in : List Span → List ℕ → List (List ℕ)
addresses_in ss bytes = map (address_in bytes) ss
