-- What the search of a front says of the bytes that it is the longest front of.
use Rattle.std.proofs.Common.{◌≡◌, ℕ, ◌<◌, ◌≤◌, Bool, true, not, List, [], ◌∷◌, ◌++◌, length, take, drop, IsUtf8, sym, refl, ap, ◌∙◌, subst, append_assoc, append-nil, arith, length-append, length-drop}
use Rattle.std.proofs.lemmas.List.{drop-append-le, take-append-le}
use lib.Seq.{take-append_seam}
use lib.Utf8.{scalars, encode}
use Rattle.std.specs.Str.{NonePass, NoCharPasses, IsCharBoundary}
use Rattle.std.specs.Str.Pattern.{HasPassingCharAt}
use Rattle.std.proofs.lemmas.Bool.{and_from, not-false, both_ways, not-true}
use Rattle.std.proofs.lemmas.Str.{encodes_same, encode_same, IsUtf8-take, length-encode, len_utf8_bounds}
use Rattle.chars.specs.Controls.{allowed}
use Rattle.chars.specs.Clean.{all_allowed, Clean, FirstBad}
use Rattle.chars.proofs.Fronts.{Front}

-- a text none of whose characters is refused is clean
clean_text : (b : Bool) (text : List ℕ) → IsUtf8 text → NoCharPasses (λ c. not (allowed b c)) text → Clean b text
clean_text b text u n =
    record {
      chars = n.0;
      sound = ap scalars (encodes_same n.0 u.0 (n.1 ∙ sym u.1.1)) ∙ u.1.0;
      stand = stand n.0 n.2;
      spell = n.1;
    }
  where
    stand : (cs : List ℕ) → NonePass (λ c. not (allowed b c)) cs → all_allowed b cs ≡ true
    stand [] h = refl
    stand (c ∷ cs) h = and_from (allowed b c) (all_allowed b cs) (not-false (allowed b c) h.0) (stand cs h.1)

-- a front that ends before the bytes do is clean up to where no character begins
pub bad_behind : (b : Bool) (part text : List ℕ) → IsUtf8 text → NoCharPasses (λ c. not (allowed b c)) text → Front part text → length text < length part → FirstBad b part (length text)
bad_behind b part text u n f l =
    record {
      inside = l;
      before = subst (Clean b) (sym (ap (take (length text)) f.0 ∙ take-append_seam text (drop (length text) part))) (clean_text b text u n);
      here = λ c rest s a e. f.1 c rest s e;
    }

-- a front that is all of the bytes
pub clean_whole : (b : Bool) (part text : List ℕ) → IsUtf8 text → NoCharPasses (λ c. not (allowed b c)) text → text ≡ part → Clean b part
clean_whole b part text u n e = subst (Clean b) e (clean_text b text u n)

pub whole_text : (part text : List ℕ) → part ≡ text ++ drop (length text) part → length part ≤ length text → text ≡ part
whole_text part text e l =
    sym (e ∙ ap (λ xs. text ++ xs) (nothing (drop (length text) part) (omega (arith, length-drop (length text) part))) ∙ append-nil text)
  where
    nothing : (xs : List ℕ) → length xs ≡ 0 → xs ≡ []
    nothing [] e = refl
    nothing (x ∷ xs) e = absurd (omega arith)

-- a refused character in a front is the first bad one of the bytes
pub bad_within : (b : Bool) (part text : List ℕ) (i j : ℕ) → IsUtf8 text → NoCharPasses (λ c. not (allowed b c)) (take i text) → HasPassingCharAt (λ c. not (allowed b c)) text i j → IsCharBoundary text i → part ≡ text ++ drop (length text) part → FirstBad b part i
bad_within b part text i j u n h cut e =
    let c : ℕ = h.0 in
    let l : i < length text = omega (arith, length-drop i text, ap length h.2.split, length-append (encode c) (drop j text), length-encode c, (len_utf8_bounds c).0) in
    let t : take i part ≡ take i text = ap (take i) e ∙ take-append-le i text (drop (length text) part) (omega arith) in
    let d : drop i part ≡ encode c ++ (drop j text ++ drop (length text) part) =
    ap (drop i) e ∙ drop-append-le i text (drop (length text) part) (omega arith) ∙ ap (λ xs. xs ++ drop (length text) part) h.2.split ∙ append_assoc (encode c) (drop j text) (drop (length text) part) in
    record {
      inside = omega (arith, ap length e, length-append text (drop (length text) part));
      before = subst (Clean b) (sym t) (clean_text b (take i text) (IsUtf8-take text i u cut) n);
      here = λ k rest s a w.
          let m = (encode_same c k (drop j text ++ drop (length text) part) rest (sym d ∙ w)).0 in
          both_ways (allowed b c) (not-true (allowed b c) h.1) (ap (allowed b) m ∙ a);
    }
