-- The names of tags, and the end tags that they are matched by.
-- Assumes nothing.
use Prim.Native.Nat.{ℕ, zero, suc, ◌≤◌, ◌<◌}
use native.Mathlib.Omega.{arith}
use mathlib.Core.Path.{◌≡◌, refl, sym, ap, ◌∙◌}
use mathlib.Core.Bool.{Bool, true, false, not, ◌&&◌, ◌||◌, cond, false≢true, true≢false}
use mathlib.Core.List.{List, [], ◌∷◌, ◌++◌, append-nil}
use lib.Dec.{eqb}
use lib.ListN.{length, get_or, take, drop, length-drop}
use lib.Seq.{take-append_seam, drop-append_seam, drop-length}
use borrow.Author.Tests.{ne_eqb}
use Rattle.base.proofs.Bools.{and_left, and_right, and_true}
use Rattle.chars.specs.Bytes.{ascii, colon, letter, digit, member}
use Rattle.chars.specs.Lists.{same, begins, every, first_passing, first_not}
use Rattle.chars.specs.declared.search.Alphabet.TheVariants.{Id}
use Rattle.chars.proofs.FirstBytes.{every_before, first_not_append}
use Rattle.chars.proofs.Derivability.{begins_append}
use Rattle.markup.specs.Marks.{Outcome, On, Not, either, and_then, expected, blank, after_blanks, name_first, id_at, after_colon, parted, name_at, after_name}
use Rattle.markup.specs.Tags.{Attribute, Attributed, Has, HasNot, next_attribute, attributes_at, behind_attribute, after_attributes, distinct, Tag, Begun, NoTag, begun, closing, start_tag, end_tag}
use Rattle.markup.proofs.Rests.{begins_within}
use Rattle.markup.proofs.NameTexts.{id_head, id_none}
use Rattle.markup.proofs.FrontTags.{next_less}
use Rattle.markup.proofs.Fronts.{length_after, blanks_front, clear, begins_front, begins_other, farther, expected_front}

-- THE BYTES OF NAMES
abbrev name_byte : ℕ → Bool
name_byte b = member Id b || eqb b colon

abbrev pub name_bytes : List ℕ → Bool
name_bytes n = every name_byte n

every_of : (f g : ℕ → Bool) → ((x : ℕ) → f x ≡ true → g x ≡ true) → (s : List ℕ) → every f s ≡ true → every g s ≡ true
unfolding every
every_of f g h [] e = refl
every_of f g h (x ∷ s) e = and_true (g x) (every g s) (h x (and_left (f x) (every f s) e)) (every_of f g h s (and_right (f x) (every f s) e))

every_append : (f : ℕ → Bool) (s t : List ℕ) → every f s ≡ true → every f t ≡ true → every f (s ++ t) ≡ true
unfolding every
every_append f [] t e g = g
every_append f (x ∷ s) t e g = and_true (f x) (every f (s ++ t)) (and_left (f x) (every f s) e) (every_append f s t (and_right (f x) (every f s) e) g)

id_every : (p : List ℕ) → every (member Id) (id_at p) ≡ true
unfolding id_at every
id_every p = go (name_first (get_or p 0 0))
  where
    go : (q : Bool) → every (member Id) (cond q (take (first_not (member Id) p) p) []) ≡ true
    go true = every_before (member Id) p
    go false = refl

id_bytes : (p : List ℕ) → name_bytes (id_at p) ≡ true
id_bytes p = every_of (member Id) name_byte (λ x e. rw e) (id_at p) (id_every p)

colon_bytes : (p : List ℕ) → name_bytes (after_colon p) ≡ true
unfolding every
colon_bytes p = go (eqb (get_or p 0 0) colon)
  where
    go : (q : Bool) → name_bytes (cond q (id_at (drop 1 p)) []) ≡ true
    go true = id_bytes (drop 1 p)
    go false = refl

parted_bytes : (p n : List ℕ) → name_bytes p ≡ true → name_bytes n ≡ true → name_bytes (parted p n) ≡ true
unfolding every member letter digit
parted_bytes [] n e f = refl
parted_bytes (x ∷ p) [] e f = e
parted_bytes (x ∷ p) (y ∷ n) e f = every_append name_byte (x ∷ p) (colon ∷ y ∷ n) e f

pub name_bytes_lem : (p : List ℕ) → name_bytes (name_at p) ≡ true
unfolding name_at
name_bytes_lem p = parted_bytes (id_at p) (after_colon (drop (length (id_at p)) p)) (id_bytes p) (colon_bytes (drop (length (id_at p)) p))

-- other bytes are in none
byte_not : (c : ℕ) → name_byte c ≡ false → (b : ℕ) → name_byte b ≡ true → eqb b c ≡ false
byte_not c f b e = ne_eqb b c (λ z. true≢false (sym e ∙ ap name_byte z ∙ f))

not_byte : (c : ℕ) → name_byte c ≡ false → (b : ℕ) → name_byte b ≡ true → eqb c b ≡ false
not_byte c f b e = ne_eqb c b (λ z. true≢false (sym e ∙ ap name_byte (sym z) ∙ f))

pub name_clear : (n : List ℕ) → name_bytes n ≡ true → clear n ≡ true
unfolding member letter digit
name_clear n e = every_of name_byte (λ (x : ℕ). not (eqb x 60)) (λ x f. ap not (byte_not 60 refl x f)) n e

-- END TAGS before a `<` that no `/` follows
pub end_front : (n : List ℕ) → clear n ≡ true → (p r : List ℕ) → eqb (get_or r 0 0) 47 ≡ false → end_tag n (p ++ (60 ∷ r)) ≡ farther (60 ∷ r) (end_tag n p)
unfolding end_tag every
end_front n c p r h =
    ap (λ (o : Outcome). and_then o (λ (t : List ℕ). expected (ascii ">") (after_blanks t)))
    (expected_front (ascii "</" ++ n) p r (begins_other 47 n c p r h)) ∙ go (expected (ascii "</" ++ n) p)
  where
    go : (o : Outcome) → and_then (farther (60 ∷ r) o) (λ (t : List ℕ). expected (ascii ">") (after_blanks t))
        ≡ farther (60 ∷ r) (and_then o (λ (t : List ℕ). expected (ascii ">") (after_blanks t)))
    go (On t) =
        ap (expected (ascii ">")) (blanks_front t r) ∙ expected_front (ascii ">") (after_blanks t) r (begins_front (ascii ">") refl (after_blanks t) r)
    go (Not m) = refl

-- the bytes behind `</`
abbrev name_end : List ℕ → List ℕ → Outcome
name_end n s = and_then (expected n s) (λ (t : List ℕ). expected (ascii ">") (after_blanks t))

end_tail : (n s : List ℕ) → end_tag n (60 ∷ 47 ∷ s) ≡ name_end n s
unfolding end_tag begins same
end_tail n s = refl

close_here : (e : List ℕ) → expected (ascii ">") (after_blanks (62 ∷ e)) ≡ On e
unfolding first_passing begins same
close_here e = refl

-- the end tag of a name is read as such,
pub end_own : (n e : List ℕ) → end_tag n (60 ∷ 47 ∷ (n ++ (62 ∷ e))) ≡ On e
end_own n e = end_tail n (n ++ (62 ∷ e)) ∙ rw (begins_append n (62 ∷ e), drop-append_seam n (62 ∷ e)) (close_here e)

-- and no other one is
close_not : (b : ℕ) (s : List ℕ) → name_byte b ≡ true → expected (ascii ">") (after_blanks (b ∷ s)) ≡ Not 19
unfolding first_passing begins same member letter digit
close_not b s e =
    rw (byte_not 32 refl b e, byte_not 9 refl b e, byte_not 13 refl b e, byte_not 10 refl b e, byte_not 62 refl b e)

tail_same : (n m e t : List ℕ) → name_bytes n ≡ true → name_bytes m ≡ true → name_end n (m ++ (62 ∷ e)) ≡ On t → t ≡ e
unfolding begins same every member letter digit
tail_same [] [] e t f g h = let k : On e ≡ On t = sym (close_here e) ∙ h in cc
tail_same [] (y ∷ m) e t f g h =
    let k : Not 19 ≡ On t = sym (close_not y (m ++ (62 ∷ e)) (and_left (name_byte y) (name_bytes m) g)) ∙ h in
    absurd (let z : ◌≡◌ {A = ℕ} 0 1 = cc in omega arith)
tail_same (x ∷ n) [] e t f g h =
    let d : eqb 62 x ≡ false = not_byte 62 refl x (and_left (name_byte x) (name_bytes n) f) in
    let k : Not 19 ≡ On t = rw d at h in
    absurd (let z : ◌≡◌ {A = ℕ} 0 1 = cc in omega arith)
tail_same (x ∷ n) (y ∷ m) e t f g h = go (eqb y x) h (tail_same n m e t)
  where
    go : (q : Bool) → and_then (either (q && begins n (m ++ (62 ∷ e))) (On (drop (length n) (m ++ (62 ∷ e)))) (Not 19))
        (λ (t : List ℕ). expected (ascii ">") (after_blanks t)) ≡ On t
        → (name_bytes n ≡ true → name_bytes m ≡ true → name_end n (m ++ (62 ∷ e)) ≡ On t → t ≡ e) → t ≡ e
    go true k w = w (and_right (name_byte x) (name_bytes n) f) (and_right (name_byte y) (name_bytes m) g) k
    go false k w = absurd (let z : ◌≡◌ {A = ℕ} 0 1 = cc in omega arith)

pub end_same : (n m e t : List ℕ) → name_bytes n ≡ true → name_bytes m ≡ true → end_tag n (60 ∷ 47 ∷ (m ++ (62 ∷ e))) ≡ On t → t ≡ e
end_same n m e t f g h = tail_same n m e t f g (sym (end_tail n (m ++ (62 ∷ e))) ∙ h)

-- THE NAME OF A TAG is the one at its start, and a tag takes bytes
closing_begun : (name : List ℕ) (xs : List Attribute) (s : List ℕ) (g : Tag) (q : List ℕ) → closing name xs s ≡ Begun g q
    → (g.name ≡ name) × (length q < length s)
closing_begun name xs s g q e = go (begins (ascii "/>") s) (begins (ascii ">") s) refl refl e
  where
    go : (a b : Bool) → begins (ascii "/>") s ≡ a → begins (ascii ">") s ≡ b
        → cond a (begun name xs true (drop 2 s)) (cond b (begun name xs false (drop 1 s)) NoTag) ≡ Begun g q → (g.name ≡ name) × (length q < length s)
    go true b f h k =
        let d : drop 2 s ≡ q = cc in
        let t : record { name = name; attributes = xs; empty = true } ≡ g = cc in
        (sym (ap (λ (x : Tag). x.name) t), omega (arith, ap length d, length-drop 2 s, begins_within (ascii "/>") s f))
    go false true f h k =
        let d : drop 1 s ≡ q = cc in
        let t : record { name = name; attributes = xs; empty = false } ≡ g = cc in
        (sym (ap (λ (x : Tag). x.name) t), omega (arith, ap length d, length-drop 1 s, begins_within (ascii ">") s h))
    go false false f h k = absurd (let z : ◌≡◌ {A = ℕ} 0 1 = cc in omega arith)

behind_less : (k : ℕ) (s : List ℕ) → length (after_attributes k s) ≤ length s
unfolding after_attributes
behind_less zero s = omega arith
behind_less (suc k) s = go (next_attribute s) refl (λ (t : List ℕ). behind_less k t)
  where
    go : (x : Attributed) → next_attribute s ≡ x → ((t : List ℕ) → length (after_attributes k t) ≤ length t)
        → length (behind_attribute (λ (t : List ℕ). after_attributes k t) s x) ≤ length s
    go (Has a t) e f = omega (arith, f t, next_less s a t e)
    go HasNot e f = omega arith

pub start_named : (p : List ℕ) (g : Tag) (q : List ℕ) → start_tag p ≡ Begun g q → (g.name ≡ name_at p) × (length q < length p)
unfolding start_tag
start_named p g q e = go (name_first (get_or p 0 0)) (distinct (attributes_at (length s) s)) e
  where
    s : List ℕ
    s = after_name p

    w : List ℕ
    w = after_blanks (after_attributes (length s) s)

    go : (a b : Bool) → cond a (cond b (closing (name_at p) (attributes_at (length s) s) w) NoTag) NoTag ≡ Begun g q
        → (g.name ≡ name_at p) × (length q < length p)
    go true true f =
        let k : (g.name ≡ name_at p) × (length q < length w) = closing_begun (name_at p) (attributes_at (length s) s) w g q f in (
          k.0,
          omega (
            arith,
            k.1,
            length_after (λ (x : ℕ). not (blank x)) (after_attributes (length s) s),
            behind_less (length s) s,
            length-drop (length (name_at p)) p,
          ),
        )
    go true false f = absurd (let z : ◌≡◌ {A = ℕ} 0 1 = cc in omega arith)
    go false b f = absurd (let z : ◌≡◌ {A = ℕ} 0 1 = cc in omega arith)

-- A NAME that is taken from a text is one by itself
abbrev Ident : List ℕ → Type 0
Ident [] = Unit {0}
Ident (x ∷ w) = (name_first x ≡ true) × (every (member Id) (x ∷ w) ≡ true)

id_ident : (p : List ℕ) → Ident (id_at p)
unfolding letter
id_ident p = go (name_first (get_or p 0 0)) refl p refl
  where
    go : (q : Bool) → name_first (get_or p 0 0) ≡ q → (s : List ℕ) → s ≡ p → Ident (id_at p)
    go false e s f = rw (id_none p e) tt
    go true e [] f = absurd (false≢true (ap (λ (l : List ℕ). name_first (get_or l 0 0)) f ∙ e))
    go true e (x ∷ l) f =
        let h : name_first x ≡ true = ap (λ (l : List ℕ). name_first (get_or l 0 0)) f ∙ e in
        let i : id_at p ≡ x ∷ take (first_not (member Id) l) l = ap id_at (sym f) ∙ id_head x l h in
        rw i (h, ap (every (member Id)) (sym i) ∙ id_every p)

colon_ident : (p : List ℕ) → Ident (after_colon p)
colon_ident p = go (eqb (get_or p 0 0) colon)
  where
    go : (q : Bool) → Ident (cond q (id_at (drop 1 p)) [])
    go true = id_ident (drop 1 p)
    go false = tt

id_whole : (x : ℕ) (w z : List ℕ) → Ident (x ∷ w) → (0 < length z → member Id (get_or z 0 0) ≡ false) → id_at ((x ∷ w) ++ z) ≡ x ∷ w
unfolding id_at
id_whole x w z f g =
    rw f.0 (ap (λ (n : ℕ). take n ((x ∷ w) ++ z)) (first_not_append (member Id) (x ∷ w) z f.1 g) ∙ take-append_seam (x ∷ w) z)

id_alone : (x : ℕ) (w : List ℕ) → Ident (x ∷ w) → id_at (x ∷ w) ≡ x ∷ w
id_alone x w f = ap id_at (sym (append-nil (x ∷ w))) ∙ id_whole x w [] f (λ h. absurd (omega arith))

parts_are : (l i r : List ℕ) → id_at l ≡ i → drop (length i) l ≡ r → name_at l ≡ parted i (after_colon r)
unfolding name_at
parts_are l i r e f = rw (e, f)

parted_again : (i n : List ℕ) → Ident i → Ident n → name_at (parted i n) ≡ parted i n
unfolding name_at id_at member letter digit
parted_again [] n f g = refl
parted_again (x ∷ w) [] f g = parts_are (x ∷ w) (x ∷ w) [] (id_alone x w f) (drop-length (x ∷ w))
parted_again (x ∷ w) (y ∷ n) f g =
    parts_are ((x ∷ w) ++ (colon ∷ y ∷ n)) (x ∷ w) (colon ∷ y ∷ n) (id_whole x w (colon ∷ y ∷ n) f (λ h. refl)) (drop-append_seam (x ∷ w) (colon ∷ y ∷ n))
    ∙ ap (parted (x ∷ w)) (id_alone y n g)

pub name_again : (p : List ℕ) → name_at (name_at p) ≡ name_at p
name_again p = ap name_at is ∙ parted_again (id_at p) (after_colon (drop (length (id_at p)) p)) (id_ident p) (colon_ident (drop (length (id_at p)) p)) ∙ sym is
  where
    is : name_at p ≡ parted (id_at p) (after_colon (drop (length (id_at p)) p))
    is = parts_are p (id_at p) (drop (length (id_at p)) p) refl refl
