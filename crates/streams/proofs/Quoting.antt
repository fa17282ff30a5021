-- Values in quotes, stretch by stretch.
-- Assumes nothing.
use Prim.Native.Nat.{ℕ, suc, ◌+◌, ◌-◌, ◌*◌, ◌≤◌, ◌<◌}
use mathlib.Core.Path.{◌≡◌, refl, ap, sym, ◌∙◌}
use mathlib.Core.Bool.{Bool, true, false, cond}
use mathlib.Core.List.{[], ◌∷◌, ◌++◌, append_assoc, flat_map}
use native.Mathlib.Numerals.{add-one}
use native.Mathlib.Omega.{arith}
use lib.Dec.{eqb}
use lib.ListN.{length, get_or, take, drop, length-take, length-drop}
use lib.Seq.{take_all, length-take-le, take-suc, take-add, get_or-drop}
use Rattle.chars.specs.Bytes.{ascii}
use Rattle.chars.specs.Lists.{first_passing, index_of}
use Rattle.chars.proofs.Searches.{index_le}
use Rattle.output.specs.Sends.{Sent}
use Rattle.output.proofs.Sending.{sent_more, sent_as}
use Rattle.model.specs.Sets.{Bytes}
use Rattle.chars.proofs.FirstBytes.{at_index}
use Rattle.model.specs.Texts.{ampersand, quoted_byte, quoted}
use Rattle.model.proofs.Joins.{flat_map_append}
use Rattle.model.proofs.Lengths.{quoted_length}

quoted_append : (a b : Bytes) → quoted (a ++ b) ≡ quoted a ++ quoted b
unfolding quoted
quoted_append a b = flat_map_append quoted_byte a b

-- up to the first & a value stands as it is
quoted_plain : (s : Bytes) → quoted (take (index_of ampersand s) s) ≡ take (index_of ampersand s) s
unfolding quoted flat_map first_passing
quoted_plain [] = refl
quoted_plain (x ∷ s) = go (eqb x ampersand) refl (quoted_plain s)
  where
    go : (b : Bool) → eqb x ampersand ≡ b → quoted (take (index_of ampersand s) s) ≡ take (index_of ampersand s) s
        → quoted (take (cond b 0 (suc (index_of ampersand s))) (x ∷ s)) ≡ take (cond b 0 (suc (index_of ampersand s))) (x ∷ s)
    go true e ih = refl
    go false e ih = rw e (ap (λ (l : Bytes). x ∷ l) ih)

-- i bytes of s are passed, and k is the place of the next &
module _ (s : Bytes) (i k : ℕ) (ek : k ≡ i + index_of ampersand (drop i s)) (l : i ≤ length s) where
  pub next_le : k ≤ length s
  next_le = omega (arith, index_le ampersand (drop i s), length-drop i s)

  pub next_from : i ≤ k
  next_from = omega arith

  index : index_of ampersand (drop i s) ≡ k - i
  index = omega arith

  pub stretch_length : k - i ≡ length (take (k - i) (drop i s))
  stretch_length = sym (length-take-le (k - i) (drop i s) (omega (arith, length-drop i s, next_le)))

  plain : quoted (take (k - i) (drop i s)) ≡ take (k - i) (drop i s)
  plain = ap (λ (n : ℕ). quoted (take n (drop i s))) (sym index) ∙ quoted_plain (drop i s) ∙ ap (λ (n : ℕ). take n (drop i s)) index

  upto : quoted (take k s) ≡ quoted (take i s) ++ take (k - i) (drop i s)
  upto =
      let z : k ≡ i + (k - i) = omega arith in
      ap (λ (n : ℕ). quoted (take n s)) z ∙ ap quoted (take-add i (k - i) s) ∙ quoted_append (take i s) (take (k - i) (drop i s)) ∙ ap (λ (t : Bytes). quoted (take i s) ++ t) plain

  module _ (h : k < length s) where
    here : get_or s k 0 ≡ ampersand
    here =
        let j : index_of ampersand (drop i s) < length (drop i s) = omega (arith, length-drop i s) in
        let z : i + index_of ampersand (drop i s) ≡ k = omega arith in
        sym (get_or_drop_at z) ∙ at_index ampersand (drop i s) j
      where
        get_or_drop_at : i + index_of ampersand (drop i s) ≡ k → get_or (drop i s) (index_of ampersand (drop i s)) 0 ≡ get_or s k 0
        get_or_drop_at z = get_or-drop i s (index_of ampersand (drop i s)) 0 ∙ ap (λ (n : ℕ). get_or s n 0) z

    -- the stretch up to it, and the & itself
    stretch : quoted (take (k + 1) s) ≡ quoted (take i s) ++ (take (k - i) (drop i s) ++ ascii "&amp;")
    unfolding quoted flat_map
    stretch =
        ap (λ (n : ℕ). quoted (take n s)) (add-one k)
        ∙ ap quoted (take-suc s k 0 h)
        ∙ quoted_append (take k s) (get_or s k 0 ∷ [])
        ∙ ap (λ (b : ℕ). quoted (take k s) ++ quoted (b ∷ [])) here
        ∙ ap (λ (t : Bytes). t ++ ascii "&amp;") upto
        ∙ append_assoc (quoted (take i s)) (take (k - i) (drop i s)) (ascii "&amp;")

    pub sent_stretch : (o o₁ o₂ : Bytes) (from at next : ℕ) → length o₁ ≡ length o → Sent o from (quoted (take i s)) at o₁ → Sent o₁ at (take (k - i) (drop i s) ++ ascii "&amp;") next o₂
        → Sent o from (quoted (take (k + 1) s)) next o₂
    sent_stretch o o₁ o₂ from at next same a b =
        sent_as o o₂ _ (quoted (take (k + 1) s)) from next stretch (sent_more o o₁ o₂ (quoted (take i s)) (take (k - i) (drop i s) ++ ascii "&amp;") from at next a same b)

  -- the rest, where there is none any more
  pub sent_rest : length s ≤ k → (o o₁ o₂ : Bytes) (from at next : ℕ) → length o₁ ≡ length o → Sent o from (quoted (take i s)) at o₁ → Sent o₁ at (take (length s - i) (drop i s)) next o₂
      → Sent o from (quoted s) next o₂ × (next ≤ from + 5 * length s)
  sent_rest h o o₁ o₂ from at next same a b =
      let z : k - i ≡ length s - i = omega (arith, next_le) in
      let e : quoted s ≡ quoted (take i s) ++ take (length s - i) (drop i s) =
      ap quoted (sym (take_all k s h)) ∙ upto ∙ ap (λ (n : ℕ). quoted (take i s) ++ take n (drop i s)) z in
      let w = sent_as o o₂ _ (quoted s) from next e (sent_more o o₁ o₂ (quoted (take i s)) (take (length s - i) (drop i s)) from at next a same b) in
      (w, omega (arith, w.next_is, quoted_length s))

-- what was sent of a value is not long
pub taken_near : (o o' : Bytes) (s : Bytes) (i from at : ℕ) → Sent o from (quoted (take i s)) at o' → at ≤ from + 5 * length s
taken_near o o' s i from at x = omega (arith, x.next_is, quoted_length (take i s), length-take i s)
