-- What an answer within the limits says. Assumes nothing.
use Rattle.std.proofs.Common.{◌≡◌, ℕ, Bool, true, false, ltb, List, length, Some, None, Ok, Err, sym, refl, ap, ◌∙◌, arith}
use Rattle.address.specs.declared.fault.ResolveFault.TheVariants.{Address}
use Rattle.address.specs.Percent.{percent}
use Rattle.address.specs.Resolved.{Outcome, limited}

-- what was found was so before the limits, and both limits let it pass
pub record Found (base found : List ℕ) (before : Outcome) : Type 0 where
  pub outcome : before ≡ Ok (Some found)
  pub base_passes : ltb 128 (length base) ≡ false
  pub found_passes : ltb 512 (length (percent found)) ≡ false

pub found_before : (base found : List ℕ) (o : Outcome) → limited base o ≡ Ok (Some found) → Found base found o
found_before base found (Err f) e = let z : ◌≡◌ {A = ℕ} 0 1 = cc in absurd (omega arith)
found_before base found (Ok answer) e = go (ltb 128 (length base)) refl answer e
  where
    inner : (t : Bool) (text : List ℕ) → ltb 512 (length (percent text)) ≡ t → ltb 128 (length base) ≡ false → limited base (Ok (Some text)) ≡ Ok (Some found) → Found base found (Ok (Some text))
    inner true text h b k = let j : ◌≡◌ {A = Outcome} (Err Address) (Ok (Some found)) = sym (rw (b, h)) ∙ k in let z : ◌≡◌ {A = ℕ} 0 1 = cc in absurd (omega arith)
    inner false text h b k =
        let j : ◌≡◌ {A = Outcome} (Ok (Some text)) (Ok (Some found)) = sym (rw (b, h)) ∙ k in
        let s : text ≡ found = cc in
        record { outcome = j; base_passes = b; found_passes = rw (← s) h }

    go : (t : Bool) → ltb 128 (length base) ≡ t → (a : _) → limited base (Ok a) ≡ Ok (Some found) → Found base found (Ok a)
    go true b a k = let j : ◌≡◌ {A = Outcome} (Err Address) (Ok (Some found)) = sym (rw b) ∙ k in let z : ◌≡◌ {A = ℕ} 0 1 = cc in absurd (omega arith)
    go false b None k = let j : ◌≡◌ {A = Outcome} (Ok None) (Ok (Some found)) = sym (rw b) ∙ k in let z : ◌≡◌ {A = ℕ} 0 1 = cc in absurd (omega arith)
    go false b (Some text) k = inner (ltb 512 (length (percent text))) text refl b k

-- and so it passes them again
pub passes_again : (base found : List ℕ) (o p : Outcome) → Found base found o → p ≡ Ok (Some found) → limited base p ≡ Ok (Some found)
passes_again base found o p f e = ap (limited base) e ∙ rw (f.base_passes, f.found_passes)
