-- A count that is given up above a room, over an iterator. Assumes nothing.
use Rattle.std.proofs.Common.{◌≡◌, ℕ, ◌+◌, ◌<◌, ◌≤◌, Bool, true, false, cond, leb, List, [], ◌∷◌, length, Some, None, Option, MatchOption, Bor, sym, refl, ap, ◌∙◌, subst, arith, length-append}
use denote.Param.Members.{Mut}
use Rattle.std.specs.Fn.{Called}
use Rattle.std.specs.Iterator.{AlwaysYields, YieldsThen}
use Rattle.std.specs.List.{FoldsTo}
use Rattle.std.proofs.lemmas.Bool.{le-leb, leb-false}
use Rattle.std.proofs.lemmas.Option.{none-some}
use Rattle.address.specs.Percent.{percent_byte, percent}
use Rattle.address.proofs.Percents.{counted_over, counted_some}

-- a number, or none where it is above the room
abbrev pub within : ℕ → ℕ → Option ℕ
within room n = cond (leb n room) (Some n) None

above : (n room : ℕ) → None ≡ within room n → room < n
above n room e = go (leb n room) refl
  where
    go : (t : Bool) → leb n room ≡ t → room < n
    go true h = absurd (none-some n (e ∙ rw h refl))
    go false h = leb-false n room h

byte_more : (b : ℕ) (bs : List ℕ) → length (percent (b ∷ bs)) ≡ length (percent_byte b) + length (percent bs)
byte_more b bs = length-append (percent_byte b) (percent bs)

-- a turn that goes on
abbrev pub GoesOn : {F : Type 0} → Mut F (ℕ × (Bor ℕ × Unit {0})) (Option ℕ) → F × ℕ → Bor ℕ → F × ℕ → Type 0
GoesOn g p x q = (v : Option ℕ) × Called g p.0 (p.1, (x, tt)) v q.0 × (v ≡ Some q.1)

-- each turn adds a byte's length and goes on within the room
module _ {S F : Type 0} (E : Type 0) (steps : S → Option (Bor ℕ) → S → Type 0) (g : Mut F (ℕ × (Bor ℕ × Unit {0})) (Option ℕ)) (room : ℕ) (f : F)
    (turn : (a : ℕ) (x : Bor ℕ) (r : Option ℕ) (q : F) → Called g f (a, (x, tt)) r q → (q ≡ f) × (r ≡ within room (a + length (percent_byte x.now)))) where
  pub try_count : (all : List ℕ) (a : ℕ) (s u : S) (xs : List (Bor ℕ)) (o : Option (Bor ℕ)) (h : F) (b : ℕ) (r : Option ℕ) →
      AlwaysYields steps (λ y. y.now) s all → YieldsThen steps s xs o u → FoldsTo (GoesOn g) (f, a) xs (h, b) →
      MatchOption o (r ≡ Some b) (λ x. (v : Option ℕ) × (k : F) × (e : E) × Called g h (b, (x, tt)) v k × (v ≡ None) × (r ≡ None)) →
      a ≤ room → r ≡ within room (a + length (percent all))
  try_count [] a s u [] None h b r y t k m l =
      let e : b ≡ a + 0 = omega (arith, ap (λ p. p.1) k) in
      m ∙ ap Some e ∙ sym (rw (le-leb (a + 0) room (omega arith)) refl)
  try_count [] a s u [] (Some x) h b r y t k m l = absurd (y x u (subst (λ j. steps j (Some x) u) (sym t.1) t.2))
  try_count [] a s u (x ∷ xs) o h b r y t k m l = absurd (y x t.1.0 t.1.1)
  try_count (c ∷ cs) a s u [] None h b r y t k m l = absurd (y.0 u (subst (λ j. steps j None u) (sym t.1) t.2))
  try_count (c ∷ cs) a s u [] (Some x) h b r y t k m l =
      let n = (y.1 x u (subst (λ j. steps j (Some x) u) (sym t.1) t.2)).0 in
      let P : F × ℕ → Type 0 = λ p. Called g p.0 (p.1, (x, tt)) m.0 m.1 in
      let w = turn a x m.0 m.1 (subst P (sym k) m.3) in
      let over = above (a + length (percent_byte x.now)) room (sym m.4 ∙ w.1) in
      m.5 ∙ counted_over (a + length (percent (c ∷ cs))) room (omega (arith, over, byte_more c cs, ap (λ d. length (percent_byte d)) n))
  try_count (c ∷ cs) a s u (x ∷ xs) o h b r y t k m l =
      let n = y.1 x t.1.0 t.1.1 in
      let w = turn a x k.1.0 k.0.0 k.1.1 in
      let some = counted_some k.0.1 (a + length (percent_byte x.now)) room (sym k.1.2 ∙ w.1) in
      let P : F → Type 0 = λ q. FoldsTo (GoesOn g) (q, k.0.1) xs (h, b) in
      let rest = try_count cs k.0.1 t.1.0 u xs o h b r n.1 (t.0, t.1.2, t.2) (subst P w.0 k.2) m (omega (arith, some)) in
      let e : k.0.1 + length (percent cs) ≡ a + length (percent (c ∷ cs)) = omega (arith, some, byte_more c cs, ap (λ d. length (percent_byte d)) n.0) in
      rest ∙ ap (within room) e
