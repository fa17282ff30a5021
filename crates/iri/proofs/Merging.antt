-- The path of a relative reference: merged, and without dot segments.
-- Assumes nothing.
use Prim.Native.Nat.{ℕ, ◌≤◌, ◌+◌}
use mathlib.Core.Path.{◌≡◌, sym, ◌∙◌, ap}
use mathlib.Core.Bool.{Bool, ◌&&◌, true, false, cond}
use mathlib.Core.List.{List, ◌∷◌, [], ◌++◌}
use native.Mathlib.Omega.{arith}
use lib.Dec.{eqb}
use lib.ListN.{length, take, get_or, length-append}
use lib.Seq.{length-take-le}
use borrow.Author.Tests.{eq-eqb, ne_eqb}
use Rattle.chars.specs.Bytes.{slash}
use Rattle.chars.specs.Lists.{after_last}
use Rattle.chars.proofs.Searches.{last_le}
use Rattle.iri.specs.References.{merge, merged_path, relative_path, remove_dot_segments}
use Rattle.output.specs.Sends.{Sent}
use Rattle.iri.specs.Scratch.{DotsRemoved, Reached}
use Rattle.base.proofs.Lists.{length_take_le_length}
use Rattle.output.proofs.Sending.{sent_as, sent_more, sent_text}

pub last_length : (b : ℕ) (s : List ℕ) (q : ℕ) → q ≡ after_last b s → q ≡ length (take q s)
last_length b s q e = sym (length-take-le q s (omega (arith, last_le b s)))

pub last_in : (b : ℕ) (s : List ℕ) (q : ℕ) → q ≡ after_last b s → q ≤ length s
last_in b s q e = omega (arith, last_le b s)

module _ (a : Bool) (base r : List ℕ) (x : ℕ) (ex : x ≡ get_or r 0 0) where
  pub merge_absolute : (o o' : List ℕ) (k : ℕ) → x ≡ slash → Sent o 0 r k o' → Sent o 0 (merged_path a base r) k o'
  merge_absolute o o' k q s = sent_as o o' r _ 0 k (rw (eq-eqb (get_or r 0 0) slash (sym ex ∙ q))) s

  module _ (q : x ≡ slash → ⊥) (o o₁ o₂ : List ℕ) (m k : ℕ) where
    pub merge_empty : (a && eqb (length base) 0) ≡ true → Sent o 0 (slash ∷ []) m o₁ → length o₁ ≡ length o → Sent o₁ m r k o₂ → Sent o 0 (merged_path a base r) k o₂
    unfolding merge
    merge_empty e s l t = sent_as o o₂ (slash ∷ r) _ 0 k (rw (ne_eqb (get_or r 0 0) slash (λ f. q (ex ∙ f)), e)) (sent_more o o₁ o₂ (slash ∷ []) r 0 m k s l t)

    pub merge_folder : (p : ℕ) → (a && eqb (length base) 0) ≡ false → p ≡ after_last slash base → Sent o 0 (take p base) m o₁ → length o₁ ≡ length o → Sent o₁ m r k o₂ → Sent o 0 (merged_path a base r) k o₂
    unfolding merge
    merge_folder p e f s l t = sent_as o o₂ (take p base ++ r) _ 0 k (rw (ne_eqb (get_or r 0 0) slash (λ f. q (ex ∙ f)), e, f)) (sent_more o o₁ o₂ (take p base) r 0 m k s l t)

-- a merged path is at most as long as both, and one more
merged_few : (a : Bool) (base r : List ℕ) → length (merged_path a base r) ≤ length base + length r + 1
unfolding merge
merged_few a base r = go (eqb (get_or r 0 0) slash) (a && eqb (length base) 0)
  where
    go : (p q : Bool) → length (cond p r (cond q (slash ∷ r) (take (after_last slash base) base ++ r))) ≤ length base + length r + 1
    go true q = omega arith
    go false true = omega arith
    go false false = omega (arith, length-append (take (after_last slash base) base) r, length_take_le_length (after_last slash base) base)

module _ (a : Bool) (base r o o₁ : List ℕ) (n : ℕ) (s : Sent o 0 (merged_path a base r) n o₁) where
  pub merged_end_few : n ≤ length base + length r + 1
  merged_end_few = omega (arith, s.next_is, merged_few a base r)

  pub reached : (k : ℕ) (out' : List ℕ) → n ≤ length o → DotsRemoved (take n o₁) k out' → Reached a base r k out'
  unfolding relative_path
  reached k out' l d =
      record {
        text = d.text ∙ ap remove_dot_segments (sent_text o o₁ (merged_path a base r) n s l);
        few = omega (arith, d.few, length_take_le_length n o₁, merged_end_few, ap length (sent_text o o₁ (merged_path a base r) n s l), s.next_is);
      }
