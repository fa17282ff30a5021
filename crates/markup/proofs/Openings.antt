-- A comment and end tags, and what is read up to them.
-- Assumes nothing.
use Prim.Native.Nat.{ℕ, zero, suc}
use native.Mathlib.Omega.{arith}
use mathlib.Core.Path.{◌≡◌, refl, sym, ap, ap₂, ◌∙◌, subst}
use mathlib.Core.Bool.{Bool, true, false, true≢false}
use mathlib.Core.List.{List, [], ◌∷◌, ◌++◌, flat_map, append_assoc}
use lib.Dec.{eqb}
use lib.ListN.{length, get_or, take, drop, length-append}
use lib.Seq.{take-append_seam}
use borrow.Author.Tests.{ne_eqb}
use Rattle.base.proofs.Bools.{and_left, and_right, and_true}
use Rattle.chars.specs.Bytes.{ascii, letter}
use Rattle.chars.specs.Lists.{same, begins, all}
use Rattle.chars.proofs.Equivalence.{same_eq, eq_same}
use Rattle.markup.specs.Marks.{Outcome, On, Not, name_first, name_at, comment_mark, dashes, comment}
use Rattle.markup.specs.Tags.{Tag, Started, Begun, NoTag, start_tag}
use Rattle.markup.specs.Elements.{gaps, between, content}
use Rattle.markup.specs.Depth.{end_tags, is_name}
use Rattle.markup.proofs.Fronts.{begins_not}
use Rattle.markup.proofs.FrontTags.{onward, start_front}
use Rattle.markup.proofs.EndTags.{name_bytes, name_bytes_lem, name_again}
use Rattle.markup.proofs.FrontGaps.{empty_comment, gap_step, gap_less, gaps_less, gaps_front, gaps_past}
use Rattle.markup.proofs.Contents.{gap_on}

-- the same end taken off
pub same_front : (p q z : List ℕ) → p ++ z ≡ q ++ z → p ≡ q
same_front p q z e =
    let n : length p ≡ length q = omega (arith, ap length e, length-append p z, length-append q z) in
    sym (take-append_seam p z) ∙ ap₂ take n e ∙ take-append_seam q z

-- a name's first byte is no other mark
pub first_not_lem : (c : ℕ) → name_first c ≡ false → (b : ℕ) → name_first b ≡ true → eqb b c ≡ false
first_not_lem c f b e = ne_eqb b c (λ z. true≢false (sym e ∙ ap name_first z ∙ f))

-- BETWEEN TAGS stands nothing before a `<` that no `!` follows,
pub gap_stops : (k : ℕ) (text : Bool) (r : List ℕ) → eqb (get_or r 0 0) 33 ≡ false → gaps k text (60 ∷ r) ≡ On (60 ∷ r)
unfolding gaps
gap_stops zero text r n = refl
gap_stops (suc k) text r n = gap_step k text (60 ∷ r) ∙ rw (gap_less text r, begins_not 33 (ascii "--") r n)

-- and a comment is passed over
empty_read : (e : List ℕ) → comment (empty_comment ++ e) ≡ On e
unfolding comment dashes begins same
empty_read e = refl

empty_begins : (e : List ℕ) → begins comment_mark (empty_comment ++ e) ≡ true
unfolding begins same
empty_begins e = refl

pub gap_passes : (k : ℕ) (text : Bool) (e : List ℕ) → gaps (suc k) text (empty_comment ++ e) ≡ gaps k text e
gap_passes k text e = gap_step k text (empty_comment ++ e) ∙ rw (gap_less text (drop 1 (empty_comment ++ e)), empty_begins e, empty_read e)

-- what was read before a `<`, by itself
pub gap_back : (text : Bool) (p q r : List ℕ) → between text (p ++ (60 ∷ r)) ≡ On (q ++ (60 ∷ r)) → between text p ≡ On q
gap_back text p q r e = go (between text p) refl
  where
    go : (o : Outcome) → between text p ≡ o → o ≡ On q
    go (On []) f =
        let g : gaps (length (60 ∷ r)) text (60 ∷ r) ≡ On (q ++ (60 ∷ r)) =
        sym (gaps_front (length p) (length (p ++ (60 ∷ r))) (length (60 ∷ r)) text p r [] (omega arith) (omega arith) (omega arith) f) ∙ e in
        let n : length q ≡ 0 = omega (arith, gaps_less (length (60 ∷ r)) text (60 ∷ r) (q ++ (60 ∷ r)) g, length-append q (60 ∷ r)) in
        ap On (none q n)
      where
        none : (l : List ℕ) → length l ≡ 0 → [] ≡ l
        none [] h = refl
        none (b ∷ l) h = absurd (omega arith)
    go (On (b ∷ a)) f =
        let d : On ((b ∷ a) ++ (60 ∷ r)) ≡ On (q ++ (60 ∷ r)) = sym (gap_on text p b a f r) ∙ e in
        let i : (b ∷ a) ++ (60 ∷ r) ≡ q ++ (60 ∷ r) = cc in
        ap On (same_front (b ∷ a) q (60 ∷ r) i)
    go (Not n) f =
        absurd (omega (arith, gaps_past (length p) (length (p ++ (60 ∷ r))) text p r n (q ++ (60 ∷ r)) (omega arith) f e, length-append q (60 ∷ r)))

pub start_back : (p q r : List ℕ) (g : Tag) → start_tag (p ++ (60 ∷ r)) ≡ Begun g (q ++ (60 ∷ r)) → start_tag p ≡ Begun g q
start_back p q r g e = go (start_tag p) refl
  where
    go : (x : Started) → start_tag p ≡ x → x ≡ Begun g q
    go (Begun h s) f =
        let d : Begun h (s ++ (60 ∷ r)) ≡ Begun g (q ++ (60 ∷ r)) = sym (start_front p r ∙ ap (onward (60 ∷ r)) f) ∙ e in
        let i : s ++ (60 ∷ r) ≡ q ++ (60 ∷ r) = cc in
        let j : h ≡ g = cc in
        ap₂ Begun j (same_front s q (60 ∷ r) i)
    go NoTag f =
        let d : NoTag ≡ Begun g (q ++ (60 ∷ r)) = sym (start_front p r ∙ ap (onward (60 ∷ r)) f) ∙ e in
        absurd (let z : ◌≡◌ {A = ℕ} 0 1 = cc in omega arith)

-- content stops at an end tag
pub content_stops : (k left : ℕ) (text : Bool) (e : List ℕ) → content k left text (60 ∷ 47 ∷ e) ≡ On (60 ∷ 47 ∷ e)
unfolding content letter
content_stops zero left text e = refl
content_stops (suc k) left text e = rw (gap_stops (suc (suc (length e))) text (47 ∷ e) refl)

-- END TAGS one after the other
pub ends_first : (n : List ℕ) (ns : List (List ℕ)) (e : List ℕ) → end_tags (n ∷ ns) ++ e ≡ 60 ∷ 47 ∷ (n ++ (62 ∷ (end_tags ns ++ e)))
unfolding flat_map
ends_first n ns e = ap (λ (l : List ℕ). 60 ∷ 47 ∷ l) (append_assoc (n ++ ascii ">") (end_tags ns) e ∙ append_assoc n (ascii ">") (end_tags ns ++ e))

pub ends_last : (ns : List (List ℕ)) (n e : List ℕ) → end_tags (ns ++ (n ∷ [])) ++ e ≡ end_tags ns ++ (60 ∷ 47 ∷ (n ++ (62 ∷ e)))
unfolding flat_map
ends_last [] n e = ends_first n [] e
ends_last (m ∷ ns) n e =
    ends_first m (ns ++ (n ∷ [])) e ∙ ap (λ (l : List ℕ). 60 ∷ 47 ∷ (m ++ (62 ∷ l))) (ends_last ns n e) ∙ sym (ends_first m ns (60 ∷ 47 ∷ (n ++ (62 ∷ e))))

pub all_last : (f : List ℕ → Bool) (ns : List (List ℕ)) (n : List ℕ) → all f ns ≡ true → f n ≡ true → all f (ns ++ (n ∷ [])) ≡ true
all_last f [] n e g = rw g
all_last f (m ∷ ns) n e g = and_true (f m) (all f (ns ++ (n ∷ []))) (and_left (f m) (all f ns) e) (all_last f ns n (and_right (f m) (all f ns) e) g)

-- NAMES
pub name_is : (p : List ℕ) → is_name (name_at p) ≡ true
name_is p = eq_same (name_at (name_at p)) (name_at p) (name_again p)

pub is_bytes : (n : List ℕ) → is_name n ≡ true → name_bytes n ≡ true
is_bytes n e = subst (λ (m : List ℕ). name_bytes m ≡ true) (same_eq (name_at n) n e) (name_bytes_lem n)
