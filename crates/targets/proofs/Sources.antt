-- The name of a Relationships part, and back to its source.
-- Assumes nothing.
use Prim.Native.Nat.{◌-◌, ℕ, ◌+◌, ◌<◌, ◌≤◌}
use mathlib.Core.Path.{◌≡◌, ap, ◌∙◌, refl, sym}
use mathlib.Core.Bool.{Bool, not, true, false, false≢true}
use mathlib.Core.List.{List, [], ◌++◌, append_assoc}
use native.Mathlib.Omega.{arith}
use lib.Dec.{leb, eqb}
use lib.ListN.{take, length, drop, length-drop}
use borrow.Author.Tests.{lt-leb, not-true, leb-true, eqb-true, eqb-false, le-leb, ne_eqb, eq-eqb}
use Rattle.chars.specs.Bytes.{slash, ascii}
use Rattle.chars.specs.Folding.{ends_in, equivalent}
use Rattle.chars.specs.Lists.{after_last}
use Rattle.base.proofs.Bools.{and_false, and_left, and_right}
use Rattle.base.proofs.Lists.{take_rest, length_take_few}
use Rattle.names.specs.Names.{reserved, last_segment, folder}
use Rattle.names.proofs.Reserved.{reserved_none, second_le}
use Rattle.output.specs.Answers.{Refused, Text}
use Rattle.targets.specs.Relationships.{relationships_of, relationships_part, source_part, source_of}
use Rattle.output.specs.Sends.{Sent}
use Rattle.targets.specs.Targets.{source_refusal}
use Rattle.output.proofs.Answering.{unless_refused}
use Rattle.output.proofs.Sending.{sent_as, sent_more, sent_text}

pub rels_sent : (s : List ℕ) (q : ℕ) (o o₁ o₂ o₃ o₄ : List ℕ) (a b c d : ℕ) → q ≡ after_last slash s → Sent o 0 (take q s) a o₁ → length o₁ ≡ length o → Sent o₁ a (ascii "_rels/") b o₂ → length o₂ ≡ length o₁
    → Sent o₂ b (take (length s - q) (drop q s)) c o₃ → length o₃ ≡ length o₂ → Sent o₃ c (ascii ".rels") d o₄ → Sent o 0 (relationships_of s) d o₄
unfolding relationships_of
rels_sent s q o o₁ o₂ o₃ o₄ a b c d e s₁ l₁ s₂ l₂ s₃ l₃ s₄ =
    sent_as o o₄ (((take q s ++ ascii "_rels/") ++ take (length s - q) (drop q s)) ++ ascii ".rels") _ 0 d
    (rw (take_rest s q, ← e, append_assoc (take q s ++ ascii "_rels/") (drop q s) (ascii ".rels"), append_assoc (take q s) (ascii "_rels/") (drop q s ++ ascii ".rels")))
    (sent_more o o₃ o₄ _ (ascii ".rels") 0 c d
    (sent_more o o₂ o₃ _ (take (length s - q) (drop q s)) 0 b c (sent_more o o₁ o₂ (take q s) (ascii "_rels/") 0 a b s₁ l₁ s₂) (l₂ ∙ l₁) s₃)
    (l₃ ∙ l₂ ∙ l₁) s₄)

module _ (s : List ℕ) (k : ℕ) (e : k ≡ source_refusal s) where
  pub rels_no : (k ≡ 0 → ⊥) → relationships_part s ≡ Refused k
  unfolding relationships_part
  rels_no z = rw (← e) (unless_refused k _ z)

  pub rels_text : k ≡ 0 → relationships_part s ≡ Text (relationships_of s) []
  unfolding relationships_part
  rels_text z = rw (← e, z)

pub back_long : (s : List ℕ) → 266 < length s → source_part s ≡ Refused 4
unfolding source_part
back_long s h = rw (lt-leb (length s) 266 h)

pub back_no : (s : List ℕ) (x : Bool) → x ≡ reserved s → not x ≡ true → source_part s ≡ Refused 4
unfolding source_part
back_no s x e q = rw (← e, not-true x q, and_false)

-- a reserved name: its last two segments
module _ (s : List ℕ) (form : reserved s ≡ true) (q : ℕ) (eq : q ≡ after_last slash s) where
  pub last_five : q + 5 ≤ length s
  unfolding reserved ends_in
  last_five =
      let l = last_segment s in
      let f : leb 5 (length l) ≡ true = and_left (leb 5 (length l)) (equivalent (drop (length l - 5) l) (ascii ".rels")) (and_right (equivalent (last_segment (folder s)) (ascii "_rels")) (ends_in (ascii ".rels") l) form) in
      omega (arith, leb-true 5 (length l) f, length-drop (after_last slash s) s)

  pub last_slash : 1 ≤ q
  last_slash = go (eqb q 0) refl
    where
      go : (b : Bool) → eqb q 0 ≡ b → 1 ≤ q
      go true e = absurd (false≢true (sym (reserved_none s q eq (eqb-true q 0 e)) ∙ form))
      go false e = let z : q ≡ 0 → ⊥ = eqb-false q 0 e in omega arith

  module _ (p : ℕ) (ep : p ≡ after_last slash (take (q - 1) s)) where
    pub segment_le : p ≤ q - 1
    segment_le = second_le s q eq p ep

    folder_is : folder s ≡ take (q - 1) s
    folder_is = ap (λ (n : ℕ). take (n - 1) s) (sym eq)

    text_is : take p s ++ take (length s - 5 - q) (drop q s) ≡ source_of s
    unfolding source_of
    text_is =
        let e : length s - 5 - q ≡ length s - q - 5 = omega arith in
        rw (folder_is, ← ep, ← eq, length-drop q s, e)

    module _ (few : length s ≤ 266) (o o₁ o₂ : List ℕ) (a k : ℕ) (s₁ : Sent o 0 (take p s) a o₁) (l₁ : length o₁ ≡ length o) (s₂ : Sent o₁ a (take (length s - 5 - q) (drop q s)) k o₂) (l₂ : length o₂ ≡ length o₁) (lo : length o ≡ 266) where
      both_sent : Sent o 0 (source_of s) k o₂
      both_sent = sent_as o o₂ _ (source_of s) 0 k (sym text_is) (sent_more o o₁ o₂ (take p s) (take (length s - 5 - q) (drop q s)) 0 a k s₁ l₁ s₂)

      pub source_length : k ≤ length o₂
      source_length = omega (arith, s₂.next_is, s₁.next_is, length_take_few p s, length_take_few (length s - 5 - q) (drop q s), segment_le, last_five, l₂)

      pub source_text : take k o₂ ≡ source_of s
      source_text = sent_text o o₂ (source_of s) k both_sent (omega (arith, source_length, l₂))

      module _ (j : ℕ) (ej : j ≡ source_refusal (take k o₂)) where
        j_is : source_refusal (source_of s) ≡ j
        j_is = ap source_refusal (sym source_text) ∙ sym ej

        pub back_refused : (j ≡ 0 → ⊥) → source_part s ≡ Refused 4
        unfolding source_part
        back_refused z = rw (le-leb (length s) 266 few, form, j_is, ne_eqb j 0 z)

        pub back_text : j ≡ 0 → source_part s ≡ Text (take k o₂) []
        unfolding source_part
        back_text z = rw (le-leb (length s) 266 few, form, j_is, eq-eqb j 0 z, source_text)
