-- The line of an answer, by the space that the address was resolved into. Assumes nothing.
use Rattle.std.proofs.Common.{◌≡◌, ℕ, ◌<◌, ◌≤◌, min, Bool, true, false, cond, leb, List, ◌++◌, length, take, drop, Some, None, Ok, Err, Option, Result, sym, refl, ap, ◌∙◌, arith}
use borrow.Rule.Slice.PartMut.{put_mid, post_of}
use Rattle.std.proofs.lemmas.List.{append_assoc, take_at}
use Rattle.std.proofs.lemmas.Bool.{le-leb, lt-leb, leb-true, leb-false}
use Rattle.address.specs.declared.fault.ResolveFault.{ResolveFault}
use Rattle.address.specs.declared.fault.ResolveFault.TheVariants.{Output}
use Rattle.address.specs.Resolved.{Outcome}
use Rattle.address.specs.Resolve.{answered, written}
use Rattle.berth.specs.Answers.{line_for, answer_line, address_line, fault_line}

-- the front of the space is what was written, and the room decides as the script says
pub line_for_lem : (o : Outcome) (space out : List ℕ) (room lent : ℕ) (r : Result (Option ℕ) ResolveFault) →
    lent ≡ min room 512 → length (take lent space) ≡ lent → ((found : List ℕ) → o ≡ Ok (Some found) → length found ≤ 512) →
    r ≡ answered o (length (take lent space)) → out ≡ written o (take lent space) →
    line_for r (put_mid 0 lent space out) ≡ answer_line o room
line_for_lem (Err f) space out room lent r l n h a w = rw a
line_for_lem (Ok None) space out room lent r l n h a w = rw a
line_for_lem (Ok (Some found)) space out room lent r l n h a w = go (leb (length found) lent) refl (h found refl)
  where
    go : (t : Bool) → leb (length found) lent ≡ t → length found ≤ 512 → line_for r (put_mid 0 lent space out) ≡ answer_line (Ok (Some found)) room
    go true e s =
        let f : length found ≤ lent = leb-true (length found) lent e in
        let k : leb (length found) (length (take lent space)) ≡ true = le-leb (length found) (length (take lent space)) (omega arith) in
        let a' : r ≡ Ok (Some (length found)) = a ∙ ap (λ t. cond t (Ok (Some (length found))) (Err Output)) k in
        let w' : out ≡ found ++ drop (length found) (take lent space) = w ∙ ap (λ t. cond t (found ++ drop (length found) (take lent space)) (take lent space)) k in
        let front : take (length found) (put_mid 0 lent space out) ≡ found =
        ap (λ ys. take (length found) (ys ++ post_of 0 lent space)) w' ∙ ap (take (length found)) (append_assoc found (drop (length found) (take lent space)) (post_of 0 lent space))
        ∙ take_at found (drop (length found) (take lent space) ++ post_of 0 lent space) (length found) refl in
        ap (λ q. line_for q (put_mid 0 lent space out)) a' ∙ ap address_line front
        ∙ sym (ap (λ t. cond t (address_line found) (fault_line Output)) (le-leb (length found) room (omega arith)))
    go false e s =
        let f : lent < length found = leb-false (length found) lent e in
        let k : leb (length found) (length (take lent space)) ≡ false = lt-leb (length found) (length (take lent space)) (omega arith) in
        let a' : r ≡ Err Output = a ∙ ap (λ t. cond t (Ok (Some (length found))) (Err Output)) k in
        ap (λ q. line_for q (put_mid 0 lent space out)) a'
        ∙ sym (ap (λ t. cond t (address_line found) (fault_line Output)) (lt-leb (length found) room (omega arith)))
