-- A line as its first token and what follows. Assumes nothing.
use Rattle.std.specs.Prelude.{◌≡◌, ℕ, zero, suc, ◌+◌, ◌-◌, ◌<◌, ◌≤◌, Bool, true, cond, List, [], ◌∷◌, ◌++◌, length, drop, IsUtf8, nat_lt, refl}
use Rattle.std.proofs.Common.{sym, ap, subst, ◌∙◌, append_assoc, arith, length-append}
use Rattle.std.proofs.Math.Utf8.{encode}
use Rattle.std.proofs.lemmas.Str.{IsUtf8-take, IsUtf8-drop, length-encode, len_utf8_bounds}
use Rattle.std.proofs.lemmas.Bool.{lt-ltb, cond-true}
use Rattle.highlight.specs.declared.token.Token.{Token}
use Rattle.highlight.specs.declared.piece.Mode.{Mode}
use Rattle.highlight.specs.declared.piece.Piece.{Piece}
use Rattle.highlight.specs.Lines.{Covers}
use Rattle.highlight.specs.Toml.{piece_in, tokens_from, mode_from}
use Rattle.highlight.specs.Cuts.{Cut, piece_cuts}

-- nothing is left of nothing
pub drop_none : {X : Type 0} (n : ℕ) → drop {A = X} n [] ≡ []
drop_none zero = refl
drop_none (suc n) = refl

-- to pass over bytes is to begin behind them
pub tokens_skip : (mode : Mode) (skip : ℕ) (line : List ℕ) → tokens_from mode skip line ≡ tokens_from mode 0 (drop skip line)
tokens_skip mode zero line = refl
tokens_skip mode (suc n) [] = refl
tokens_skip mode (suc n) (b ∷ line) = tokens_skip mode n line

pub mode_skip : (mode : Mode) (skip : ℕ) (line : List ℕ) → mode_from mode skip line ≡ mode_from mode 0 (drop skip line)
mode_skip mode zero line = refl
mode_skip mode (suc n) [] = refl
mode_skip mode (suc n) (b ∷ line) = mode_skip mode n line

-- behind the first byte
pub drop-first : (b n : ℕ) (line : List ℕ) → 1 ≤ n → drop n (b ∷ line) ≡ drop (n - 1) line
drop-first b n line l = ap (λ k. drop k (b ∷ line)) e
  where
    e : n ≡ suc (n - 1)
    e = omega arith

-- the tokens of a text that is not empty, and the mode behind it
pub tokens_more : (mode : Mode) (text : List ℕ) → 0 < length text → 1 ≤ (piece_in mode text).token.length → tokens_from mode 0 text ≡ (piece_in mode text).token ∷ tokens_from (piece_in mode text).next 0 (drop (piece_in mode text).token.length text)
tokens_more mode [] some l = absurd (omega arith)
tokens_more mode (b ∷ text) some l =
    let p = piece_in mode (b ∷ text) in
    ap (λ ts. (piece_in mode (b ∷ text)).token ∷ ts) (tokens_skip p.next (p.token.length - 1) text ∙ ap (tokens_from p.next 0) (sym (drop-first b p.token.length text l)))

pub mode_more : (mode : Mode) (text : List ℕ) → 0 < length text → 1 ≤ (piece_in mode text).token.length → mode_from mode 0 text ≡ mode_from (piece_in mode text).next 0 (drop (piece_in mode text).token.length text)
mode_more mode [] some l = absurd (omega arith)
mode_more mode (b ∷ text) some l =
    let p = piece_in mode (b ∷ text) in
    mode_skip p.next (p.token.length - 1) text ∙ ap (mode_from p.next 0) (sym (drop-first b p.token.length text l))

-- the tokens cover the line
pub tokens_cover : (mode : Mode) (skip : ℕ) (line : List ℕ) → IsUtf8 (drop skip line) → Covers (tokens_from mode skip line) (drop skip line)
tokens_cover mode skip [] u = drop_none skip
tokens_cover mode (suc n) (b ∷ line) u = tokens_cover mode n line u
tokens_cover mode zero (b ∷ line) u =
    let p = piece_in mode (b ∷ line) in
    let c = piece_cuts mode (b ∷ line) u (omega arith) in
    let e = drop-first b p.token.length line c.0 in
    let P : List ℕ → Type 0 = λ rest. Covers (tokens_from p.next (p.token.length - 1) line) rest in
    let Q : List ℕ → Type 0 = λ rest. IsUtf8 rest in (
      c.0,
      c.1.0,
      IsUtf8-take (b ∷ line) p.token.length u c.1,
      subst P (sym e) (tokens_cover p.next (p.token.length - 1) line (subst Q e (IsUtf8-drop (b ∷ line) p.token.length u c.1))),
    )

pub some_bytes : (text read rest : List ℕ) (c : ℕ) → read ≡ text → read ≡ encode c ++ rest → 0 < length text
some_bytes text read rest c same e =
    omega (arith, ap length same, ap length e, length-append (encode c) rest, length-encode c, (len_utf8_bounds c).0)

-- one token more: there is room for it, and what is done and what is left make the same tokens as before
pub room_for_one : (done : List Token) (text : List ℕ) (r : Bool) → 0 < length text → length done + length text ≤ 4096 → r ≡ nat_lt (length done) 4096 → r ≡ true
room_for_one done text r some fits e = e ∙ lt-ltb (length done) 4096 (omega arith)

pub one_more : (done after : List Token) (r : Bool) (mode : Mode) (text rest : List ℕ) (p : Piece) → IsUtf8 text → 0 < length text → p ≡ piece_in mode text → rest ≡ drop p.token.length text → r ≡ true → after ≡ cond r (done ++ p.token ∷ []) done → after ++ tokens_from p.next 0 rest ≡ done ++ tokens_from mode 0 text
one_more done after r mode text rest p u some e left t a =
    ap (λ ts. ts ++ tokens_from p.next 0 rest) (a ∙ cond-true r (done ++ p.token ∷ []) done t)
    ∙ append_assoc done (p.token ∷ []) (tokens_from p.next 0 rest)
    ∙ ap (λ xs. done ++ (p.token ∷ tokens_from p.next 0 xs)) left
    ∙ ap (λ q. done ++ (q.token ∷ tokens_from q.next 0 (drop q.token.length text))) e
    ∙ ap (λ ts. done ++ ts) (sym (tokens_more mode text some (piece_cuts mode text u some).0))

pub same_mode : (mode : Mode) (text rest : List ℕ) (p : Piece) → IsUtf8 text → 0 < length text → p ≡ piece_in mode text → rest ≡ drop p.token.length text → mode_from p.next 0 rest ≡ mode_from mode 0 text
same_mode mode text rest p u some e left =
    ap (mode_from p.next 0) left
    ∙ ap (λ q. mode_from q.next 0 (drop q.token.length text)) e
    ∙ sym (mode_more mode text some (piece_cuts mode text u some).0)

-- a piece of a text ends where the text may be cut
pub piece_is_cut : (mode : Mode) (text : List ℕ) (p : Piece) → IsUtf8 text → 0 < length text → p ≡ piece_in mode text → Cut text p.token.length
piece_is_cut mode text p u some e =
    let P : Piece → Type 0 = λ q. Cut text q.token.length in subst P (sym e) (piece_cuts mode text u some)

pub room_kept : (done after : List Token) (r : Bool) (token : Token) (text rest : List ℕ) → r ≡ true → after ≡ cond r (done ++ token ∷ []) done → length done + length text ≤ 4096 → length rest < length text → length after + length rest ≤ 4096
room_kept done after r token text rest t a fits less =
    omega (arith, ap length (a ∙ cond-true r (done ++ token ∷ []) done t), length-append done (token ∷ []))
