-- What follows for a text with no bad place.
use Rattle.std.proofs.Common.{◌≡◌, ℕ, ◌<◌, Bool, true, false, not, List, [], ◌∷◌, ◌++◌, length, get_or, None, ap, ◌∙◌, ⊎_elim}
use lib.Utf8.{scalar, scalars, encodes}
use Rattle.std.specs.Str.{NonePass}
use Rattle.std.proofs.lemmas.Bool.{and_from, and_parts, or_cases, or_left, false≢true, not-false, not_from_true}
use Rattle.std.proofs.lemmas.Str.{encodes-append, NoCharPasses-byte}
use Rattle.chars.specs.Controls.{control, is_break, allowed}
use Rattle.chars.specs.Clean.{first_bad, all_allowed}
use Rattle.chars.proofs.FirstPlace.{clean_from_none, none_from_clean}

-- two texts with no bad place have none when joined
pub none_append : (b : Bool) (xs ys : List ℕ) → first_bad b xs ≡ None → first_bad b ys ≡ None → first_bad b (xs ++ ys) ≡ None
none_append b xs ys d e =
    let h = clean_from_none b xs d in
    let k = clean_from_none b ys e in
    none_from_clean b (xs ++ ys)
    (record {
      chars = h.chars ++ k.chars;
      sound = all_sound h.chars k.chars h.sound k.sound;
      stand = all_stand h.chars k.chars h.stand k.stand;
      spell = encodes-append h.chars k.chars ∙ ap (λ zs. zs ++ encodes k.chars) h.spell ∙ ap (λ zs. xs ++ zs) k.spell;
    })
  where
    all_sound : (cs ds : List ℕ) → scalars cs ≡ true → scalars ds ≡ true → scalars (cs ++ ds) ≡ true
    all_sound [] ds s t = t
    all_sound (c ∷ cs) ds s t =
        let u = and_parts (scalar c) (scalars cs) s in
        and_from (scalar c) (scalars (cs ++ ds)) u.0 (all_sound cs ds u.1 t)

    all_stand : (cs ds : List ℕ) → all_allowed b cs ≡ true → all_allowed b ds ≡ true → all_allowed b (cs ++ ds) ≡ true
    all_stand [] ds s t = t
    all_stand (c ∷ cs) ds s t =
        let u = and_parts (allowed b c) (all_allowed b cs) s in
        and_from (allowed b c) (all_allowed b (cs ++ ds)) u.0 (all_stand cs ds u.1 t)

-- a byte below 128 of a text with no bad place is a character that may stand in it
pub byte_stands : (b : Bool) (bs : List ℕ) (i : ℕ) → first_bad b bs ≡ None → i < length bs → get_or bs i 0 < 128 → allowed b (get_or bs i 0) ≡ true
byte_stands b bs i e l a =
    let h = clean_from_none b bs e in
    not-false (allowed b (get_or bs i 0)) (NoCharPasses-byte (λ c. not (allowed b c)) bs i (h.chars, h.spell, none_refused h.chars h.stand) l a)
  where
    none_refused : (cs : List ℕ) → all_allowed b cs ≡ true → NonePass (λ c. not (allowed b c)) cs
    none_refused [] s = tt
    none_refused (c ∷ cs) s =
        let u = and_parts (allowed b c) (all_allowed b cs) s in
        (not_from_true (allowed b c) u.0, none_refused cs u.1)

-- a text that is clean with no breaks is clean where breaks are allowed
pub none_where_allowed : (bs : List ℕ) → first_bad false bs ≡ None → first_bad true bs ≡ None
none_where_allowed bs e =
    let h = clean_from_none false bs e in
    none_from_clean true bs (record { chars = h.chars; sound = h.sound; stand = all_stand h.chars h.stand; spell = h.spell })
  where
    stays : (c : ℕ) → allowed false c ≡ true → allowed true c ≡ true
    stays c a = ⊎_elim (λ l. or_left (not (control c)) (is_break c) l) (λ r. absurd (false≢true r)) (or_cases (not (control c)) false a)

    all_stand : (cs : List ℕ) → all_allowed false cs ≡ true → all_allowed true cs ≡ true
    all_stand [] s = s
    all_stand (c ∷ cs) s =
        let u = and_parts (allowed false c) (all_allowed false cs) s in
        and_from (allowed true c) (all_allowed true cs) (stays c u.0) (all_stand cs u.1)
