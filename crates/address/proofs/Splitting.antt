-- A text taken apart at its slashes, from the back. Assumes nothing.
use Rattle.std.proofs.Common.{◌≡◌, ℕ, ◌+◌, ◌<◌, ◌≤◌, Bool, true, false, cond, eqb, List, [], ◌∷◌, ◌++◌, length, take, drop, Some, None, Option, sym, refl, ap, ◌∙◌, arith, lit<, length-append, length-drop, Bor, MatchOption}
use Rattle.std.specs.Option.{unwrap_or}
use Rattle.std.specs.Str.Pattern.{RFindsChar, IsSplitAtLastMatch}
use Rattle.std.proofs.lemmas.List.{take-append-drop}
use Rattle.std.proofs.lemmas.Str.Pattern.{NoCharPasses-char, drop_at_char}
use Rattle.address.specs.Sources.{Source, Path}
use Rattle.address.specs.declared.path.Step.{Step}
use Rattle.address.specs.Laying.{laid}
use Rattle.address.specs.declared.path.Step.TheVariants.{Stay}
use Rattle.chars.specs.Parts.{on_first}
use Rattle.address.specs.Segments.{Stack, parts_of, step_of, entered, walked, leading_of, last_of}
use Rattle.address.proofs.Marks.{Lacks, lacks_tail, lacks_head}

-- the clause of `rsplit_once` at a character
abbrev pub SplitLast : ℕ → List ℕ → Option (Bor (List ℕ) × Bor (List ℕ)) → Type 0
SplitLast c bs r =
    MatchOption r (RFindsChar c bs None) (λ x. (i : ℕ) × (j : ℕ) × RFindsChar c bs (Some (i, j)) × (x.0.now ≡ take i bs) × (x.1.now ≡ drop j bs) × (i ≤ j) × (length x.0.now ≡ i) × (length x.1.now + j ≡ length bs))

-- what it says by bytes: the last of the characters, with none behind it
pub split_last_parts : (c : ℕ) (bs : List ℕ) (r : Option (Bor (List ℕ) × Bor (List ℕ))) → SplitLast c bs r → c < 128 →
    MatchOption r (Lacks c bs) (λ x. (bs ≡ x.0.now ++ (c ∷ x.1.now)) × Lacks c x.1.now)
split_last_parts c bs None h l = λ i k e. NoCharPasses-char c bs i h l k e
split_last_parts c bs (Some x) h l = (
  sym (take-append-drop h.0 bs) ∙ ap (λ ys. take h.0 bs ++ ys) (drop_at_char c bs h.0 h.1 h.2.1 l) ∙ ap (λ ys. ys ++ (c ∷ drop h.1 bs)) (sym h.3) ∙ ap (λ ys. x.0.now ++ (c ∷ ys)) (sym h.4),
  rw h.4 (λ i k e. NoCharPasses-char c (drop h.1 bs) i h.2.0 l k e),
)

-- a text without a slash is one part
pub parts_one : (bs : List ℕ) → Lacks 47 bs → parts_of bs ≡ bs ∷ []
parts_one [] h = refl
parts_one (b ∷ bs) h = rw (lacks_head 47 b bs h) (ap (on_first b) (parts_one bs (lacks_tail 47 b bs h)))

-- there is always a part
pub some_part : (bs : List ℕ) → (part : List ℕ) × (parts : List (List ℕ)) × (parts_of bs ≡ part ∷ parts)
some_part [] = ([], [], refl)
some_part (b ∷ bs) = go (eqb b 47) refl (some_part bs)
  where
    go : (t : Bool) → eqb b 47 ≡ t → (part : List ℕ) × (parts : List (List ℕ)) × (parts_of bs ≡ part ∷ parts) → (part : List ℕ) × (parts : List (List ℕ)) × (parts_of (b ∷ bs) ≡ part ∷ parts)
    go true e r = ([], parts_of bs, rw e)
    go false e r = (b ∷ r.0, r.1, rw e (ap (on_first b) r.2))

pub on_first_append : (b : ℕ) (ps qs : List (List ℕ)) (front : List ℕ) → ps ≡ parts_of front → on_first b (ps ++ qs) ≡ on_first b ps ++ qs
on_first_append b [] qs front e =
    let r = some_part front in
    let k : [] ≡ r.0 ∷ r.1 = e ∙ r.2 in
    let z : ◌≡◌ {A = ℕ} 0 1 = cc in absurd (omega arith)
on_first_append b (p ∷ ps) qs front e = refl

-- the part behind the last slash is the last part
pub parts_last : (front part : List ℕ) → Lacks 47 part → parts_of (front ++ 47 ∷ part) ≡ parts_of front ++ part ∷ []
parts_last [] part h = ap (λ ps. [] ∷ ps) (parts_one part h)
parts_last (b ∷ bs) part h = go (eqb b 47) refl (parts_last bs part h)
  where
    go : (t : Bool) → eqb b 47 ≡ t → parts_of (bs ++ 47 ∷ part) ≡ parts_of bs ++ part ∷ [] → parts_of ((b ∷ bs) ++ 47 ∷ part) ≡ parts_of (b ∷ bs) ++ part ∷ []
    go true e ih = rw e (ap (λ ps. [] ∷ ps) ih)
    go false e ih = rw e (ap (on_first b) ih ∙ on_first_append b (parts_of bs) (part ∷ []) bs refl)

pub walked-last : (source : Source) (stack : Stack) (ps : List (List ℕ)) (part : List ℕ) → walked source stack (ps ++ part ∷ []) ≡ entered (walked source stack ps) (step_of source part) part
walked-last source stack [] part = refl
walked-last source stack (p ∷ ps) part = walked-last source (entered stack (step_of source p) p) ps part

-- the last part of some parts, and those before it
pub last_of_append : (ps : List (List ℕ)) (part : List ℕ) → last_of (ps ++ part ∷ []) ≡ part
last_of_append [] part = refl
last_of_append (p ∷ []) part = refl
last_of_append (p ∷ (q ∷ ps)) part = last_of_append (q ∷ ps) part

pub leading_of_append : (ps : List (List ℕ)) (part : List ℕ) → leading_of (ps ++ part ∷ []) ≡ ps
leading_of_append [] part = refl
leading_of_append (p ∷ []) part = refl
leading_of_append (p ∷ (q ∷ ps)) part = ap (λ qs. p ∷ qs) (leading_of_append (q ∷ ps) part)

-- the parts that a split from the back has still to give, and the bytes that they and their slashes take
abbrev pub parts_left : Bool → List ℕ → List (List ℕ)
parts_left live text = cond live (parts_of text) []

abbrev pub bytes_left : Bool → List ℕ → ℕ
bytes_left live text = cond live (length text + 1) 0

-- each turn gives the last of them
pub turn_parts : (text part rest : List ℕ) (live : Bool) → IsSplitAtLastMatch (RFindsChar 47) text part live rest →
    (parts_of text ≡ parts_left live rest ++ part ∷ []) × (bytes_left live rest ≤ length text)
turn_parts text part rest live h = go h.1.0 h.1.1 h.1.2
  where
    go : (o : Option (ℕ × ℕ)) → RFindsChar 47 text o → MatchOption o ((part ≡ text) × (live ≡ false)) (λ q. q.0 < length text → (part ≡ drop q.1 text) × (live ≡ true) × (rest ≡ take q.0 text)) →
        (parts_of text ≡ parts_left live rest ++ part ∷ []) × (bytes_left live rest ≤ length text)
    go None f m = rw m.1 (parts_one text (λ i k e. NoCharPasses-char 47 text i f (lit< tt) k e) ∙ ap (λ t. t ∷ []) (sym m.0), omega arith)
    go (Some q) f m =
        let d : drop q.0 text ≡ 47 ∷ drop q.1 text = drop_at_char 47 text q.0 q.1 f.1 (lit< tt) in
        let l : q.0 < length text = omega (arith, ap length d, length-drop q.0 text) in
        let p = m l in
        let w : text ≡ rest ++ (47 ∷ part) = sym (take-append-drop q.0 text) ∙ ap (λ ys. take q.0 text ++ ys) d ∙ ap (λ ys. ys ++ (47 ∷ drop q.1 text)) (sym p.2) ∙ ap (λ ys. rest ++ (47 ∷ ys)) (sym p.0) in
        let k : Lacks 47 part = rw p.0 (λ i j e. NoCharPasses-char 47 (drop q.1 text) i f.0 (lit< tt) j e) in
        rw p.1 (ap parts_of w ∙ parts_last rest part k, omega (arith, ap length w, length-append rest (47 ∷ part)))

-- and a part that is taken leaves the walk over the others
pub turn_lays : (source : Source) (stack : Stack) (text part rest : List ℕ) (more live : Bool) (taken : Step) (u v : ℕ) (w x : Option (List ℕ)) (y : Option (Option (List ℕ))) →
    parts_of text ≡ parts_left live rest ++ part ∷ [] → taken ≡ step_of source part → true ≡ more →
    ((stack : Stack) → laid v stack x ≡ laid u (entered stack taken part) w) →
    laid u (walked source stack (parts_left more text)) w ≡ y → laid v (walked source stack (parts_left live rest)) x ≡ y
turn_lays source stack text part rest more live taken u v w x y p t m lays h =
    lays (walked source stack (parts_left live rest))
    ∙ ap (λ s. laid u (entered (walked source stack (parts_left live rest)) s part) w) t
    ∙ ap (λ s. laid u s w) (sym (ap (walked source stack) p ∙ walked-last source stack (parts_left live rest) part))
    ∙ ap (λ b. laid u (walked source stack (parts_left b text)) w) m
    ∙ h

-- the parts of a text that has a slash, and of one that has none
pub split_leading : (text front part : List ℕ) → text ≡ front ++ (47 ∷ part) → Lacks 47 part → parts_of front ≡ leading_of (parts_of text)
split_leading text front part e h = sym (ap (λ t. leading_of (parts_of t)) e ∙ ap leading_of (parts_last front part h) ∙ leading_of_append (parts_of front) part)

pub split_final : (text front part : List ℕ) → text ≡ front ++ (47 ∷ part) → Lacks 47 part → part ≡ last_of (parts_of text)
split_final text front part e h = sym (ap (λ t. last_of (parts_of t)) e ∙ ap last_of (parts_last front part h) ∙ last_of_append (parts_of front) part)

pub one_leading : (text : List ℕ) (stack : Stack) → Lacks 47 text → entered stack Stay [] ≡ walked Path stack (leading_of (parts_of text))
one_leading text None h = sym (ap (λ ps. walked Path None (leading_of ps)) (parts_one text h))
one_leading text (Some ss) h = sym (ap (λ ps. walked Path (Some ss) (leading_of ps)) (parts_one text h))

pub one_final : (text : List ℕ) → Lacks 47 text → text ≡ last_of (parts_of text)
one_final text h = sym (ap last_of (parts_one text h))

-- what a text is split into at its last slash, or where it has none into nothing and itself
pub last_split : (text : List ℕ) (r : Option (Bor (List ℕ) × Bor (List ℕ))) (d s : Bor (List ℕ) × Bor (List ℕ)) → SplitLast 47 text r → d.0.now ≡ [] → d.1.now ≡ text → s ≡ unwrap_or r d →
    ((stack : Stack) → walked Path stack (parts_of s.0.now) ≡ walked Path stack (leading_of (parts_of text)))
    × (s.1.now ≡ last_of (parts_of text))
    × (0 < length s.0.now → length s.0.now + length s.1.now < length text)
last_split text None d s h n w e =
    let l = split_last_parts 47 text None h (lit< tt) in
    let f : s.0.now ≡ [] = ap (λ x. x.0.now) e ∙ n in
    let b : s.1.now ≡ text = ap (λ x. x.1.now) e ∙ w in (
      (λ stack. ap (λ t. walked Path stack (parts_of t)) f ∙ one_leading text stack l),
      b ∙ one_final text l,
      (λ k. absurd (omega (arith, ap length f))),
    )
last_split text (Some x) d s h n w e =
    let l = split_last_parts 47 text (Some x) h (lit< tt) in
    let f : s.0.now ≡ x.0.now = ap (λ y. y.0.now) e in
    let b : s.1.now ≡ x.1.now = ap (λ y. y.1.now) e in (
      (λ stack. ap (λ t. walked Path stack (parts_of t)) f ∙ ap (walked Path stack) (split_leading text x.0.now x.1.now l.0 l.1)),
      b ∙ split_final text x.0.now x.1.now l.0 l.1,
      (λ k. omega (arith, ap length f, ap length b, ap length l.0 ∙ length-append x.0.now (47 ∷ x.1.now))),
    )
