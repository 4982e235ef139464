-- An address that is held only as far as it fits, and its limits. Assumes nothing.
use Rattle.std.proofs.Common.{◌≡◌, ℕ, ◌+◌, ◌<◌, Bool, true, false, cond, ltb, leb, List, [], ◌++◌, length, MatchOption, Some, None, Ok, Err, Option, Result, sym, refl, ap, ◌∙◌, subst, arith}
use Rattle.std.specs.Bool.{⊤, then_some}
use Rattle.std.specs.Option.{option_map}
use Rattle.std.proofs.lemmas.List.{append-nil}
use Rattle.std.proofs.lemmas.Bool.{leb-false, lt-ltb}
use Rattle.address.specs.declared.fault.ResolveFault.{ResolveFault}
use Rattle.address.specs.declared.fault.ResolveFault.TheVariants.{Address}
use Rattle.address.specs.declared.buffer.Address.{Address as Written}
use Rattle.address.specs.Buffer.{bytes_of, prepended}
use Rattle.address.specs.Laying.{laid, ended_as}
use Rattle.address.specs.Percent.{percent}
use Rattle.address.specs.Segments.{Stack, path_text}
use Rattle.address.specs.Resolved.{Outcome, joined_up, limited}
use Rattle.address.specs.Answers.{Bounded, bounded}
use Rattle.address.proofs.Percents.{no_shorter}
use Rattle.address.proofs.Writing.{prepended-append}

-- what is held of a text: the text, or nothing where it is above 512 bytes
pub held_text : (bytes text : List ℕ) → Some bytes ≡ prepended text (Some []) → bytes ≡ text
held_text bytes text e = go (leb (length text + 0) 512) refl
  where
    go : (t : Bool) → leb (length text + 0) 512 ≡ t → bytes ≡ text
    go true h = let k : Some bytes ≡ Some (text ++ []) = e ∙ rw h in let j : bytes ≡ text ++ [] = cc in j ∙ append-nil text
    go false h = let k : Some bytes ≡ None = e ∙ rw h in let z : ◌≡◌ {A = ℕ} 0 1 = cc in absurd (omega arith)

pub held_none : (text : List ℕ) → None ≡ prepended text (Some []) → 512 < length text
held_none text e = go (leb (length text + 0) 512) refl
  where
    go : (t : Bool) → leb (length text + 0) 512 ≡ t → 512 < length text
    go true h = let k : None ≡ Some (text ++ []) = e ∙ rw h in let z : ◌≡◌ {A = ℕ} 0 1 = cc in absurd (omega arith)
    go false h = omega (arith, leb-false (length text + 0) 512 h)

-- texts written one before the other
pub laid_text : (base end query anchor : List ℕ) (stack : Stack) (done : Result (Unit {0}) ResolveFault) (w : Option (List ℕ)) →
    ended_as done w ≡ option_map (prepended base) (laid 0 stack (prepended end (prepended query (prepended anchor (Some []))))) →
    ended_as done w ≡ option_map (λ text. prepended text (Some [])) (option_map (λ segments. base ++ (path_text segments ++ (end ++ (query ++ anchor)))) stack)
laid_text base end query anchor None done w e = e
laid_text base end query anchor (Some ss) done w e = e ∙ ap Some (sym joined)
  where
    joined : prepended (base ++ (path_text ss ++ (end ++ (query ++ anchor)))) (Some []) ≡ prepended base (prepended (path_text ss) (prepended end (prepended query (prepended anchor (Some [])))))
    joined =
        prepended-append base (path_text ss ++ (end ++ (query ++ anchor))) (Some [])
        ∙ ap (prepended base) (prepended-append (path_text ss) (end ++ (query ++ anchor)) (Some [])
        ∙ ap (prepended (path_text ss)) (prepended-append end (query ++ anchor) (Some [])
        ∙ ap (prepended end) (prepended-append query anchor (Some []))))

-- a path that was laid
pub laid_ok : (base tail : List ℕ) (stack : Stack) (w : Option (List ℕ)) → Some w ≡ option_map (λ text. prepended text (Some [])) (option_map (λ segments. base ++ (path_text segments ++ tail)) stack) →
    ◌≡◌ {A = Bounded} (Ok (Some w)) (bounded (joined_up base stack tail))
laid_ok base tail None w e = let z : ◌≡◌ {A = ℕ} 0 1 = cc in absurd (omega arith)
laid_ok base tail (Some ss) w e = ap Ok e

-- one that is too long is refused
pub limit_long : (o : Outcome) (w : Option (List ℕ)) (base : List ℕ) → ◌≡◌ {A = Bounded} (Ok (Some w)) (bounded o) →
    MatchOption w ⊤ (λ bytes. 512 < length (percent bytes)) → ◌≡◌ {A = Outcome} (Err Address) (limited base o)
limit_long (Err f) w base e h = cc
limit_long (Ok None) w base e h = cc
limit_long (Ok (Some text)) w base e h =
    rw (lt-ltb 512 (length (percent text)) (long w (let k : w ≡ prepended text (Some []) = cc in k) h)) (both (ltb 128 (length base)))
  where
    long : (w : Option (List ℕ)) → w ≡ prepended text (Some []) → MatchOption w ⊤ (λ bytes. 512 < length (percent bytes)) → 512 < length (percent text)
    long None k h = omega (arith, held_none text k, no_shorter text)
    long (Some bytes) k h = subst (λ t. 512 < length (percent t)) (held_text bytes text k) h

    both : (t : Bool) → ◌≡◌ {A = Outcome} (Err Address) (cond t (Err Address) (Err Address))
    both true = refl
    both false = refl

-- an address that is not kept is too long
pub not_kept : (d r : Option Written) {P : Written → Bool → Type 0} → MatchOption d (r ≡ None) (λ x. (b : Bool) × P x b × (r ≡ then_some b x)) →
    ((x : Written) (b : Bool) → P x b → b ≡ leb (length (percent (bytes_of x))) 512) → r ≡ None →
    MatchOption (option_map bytes_of d) ⊤ (λ bytes. 512 < length (percent bytes))
not_kept None r m f e = tt
not_kept (Some x) r m f e = leb-false (length (percent (bytes_of x))) 512 (sym (f x m.0 m.1) ∙ no m.0 (sym m.2 ∙ e))
  where
    no : (b : Bool) → ◌≡◌ {A = Option Written} (then_some b x) None → b ≡ false
    no true k = cc
    no false k = refl
