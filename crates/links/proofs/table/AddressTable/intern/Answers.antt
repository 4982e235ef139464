use Rattle.std.proofs.Common.{◌≡◌, ◌∷◌, ◌++◌, [], length, refl, ◌∙◌, rules}
use Rattle.links.specs.Tables.{addresses}
use Rattle.links.specs.declared.span.Span.{Span}
use Rattle.links.proofs.Places.{one_more}
use Rattle.links.proofs.TableFacts.{room_parts, push_few, push_short, push_joined, push_held, push_once}
use Rattle.links.proofs.table.AddressTable.intern.Goals as goal

pub invariant_of-self : goal.invariant_of-self
invariant_of-self c =
    let t = c.args.self.now in
    let a = c.args.address.now in
    let fits = room_parts t (length a) c.if-not-has_room.ensures in
    let s : Span = record { start = c.len-start.result; length = length a } in
    let bs : c.extend_from_slice.new.self ≡ t.bytes ++ a = search rules in
    let ss : c.push.new.self ≡ t.spans ++ s ∷ [] = search rules in record {
      few = push_few t _ s fits.0 ss;
      short = push_short t _ a fits.1 bs;
      joined = push_joined t _ _ a s c.len-start.ensures.value refl bs ss;
      once = push_once t _ _ a s c.len-start.ensures.value refl bs ss c.in_default.ensures;
    }

pub returns-clause-after : goal.returns-clause-after
returns-clause-after c =
    let t = c.args.self.now in
    let a = c.args.address.now in
    let room = c.if-not-has_room.ensures in
    let fits = room_parts t (length a) room in
    let s : Span = record { start = c.len-start.result; length = length a } in
    let bs : c.extend_from_slice.new.self ≡ t.bytes ++ a = search rules in
    let ss : c.push.new.self ≡ t.spans ++ s ∷ [] = search rules in
    push_held t _ _ a s c.len-start.ensures.value refl bs ss ∙ one_more (addresses t) a c.in_default.ensures room
