-- An item name put together in lower case is taken apart into what it was made of.
-- Assumes nothing.
use mathlib.Core.Path.{◌≡◌, refl, ap, ◌∙◌}
use mathlib.Core.Bool.{Bool, true, false, not, ◌&&◌, ◌||◌, cond}
use mathlib.Core.List.{List, [], ◌∷◌, ◌++◌}
use Prim.Native.Nat.{ℕ, zero, suc, ◌+◌, ◌-◌, ◌*◌, ◌/◌, ◌%◌, ◌^◌, ◌≤◌, ◌<◌}
use native.Mathlib.Nat.{pow-suc}
use native.Mathlib.Omega.{arith}
use native.Mathlib.Numerals.{add-one}
use lib.Dec.{leb, ltb, eqb, eqb-suc-zero}
use lib.ListN.{length, take, drop, get_or, length-append, get_or-append}
use lib.Seq.{take-append_seam, drop-append_seam, drop-append-add, get_or-drop}
use borrow.Author.Tests.{le-leb, lt-ltb, ltb-true, ltb-false, ne_eqb, not-true}
use Rattle.chars.specs.Bytes.{ascii, slash, open_bracket, close_bracket, digit, letter, hex_digit, unreserved, segment_byte}
use Rattle.chars.specs.Lists.{same, every, first_passing, index_of, after_last}
use Rattle.chars.specs.Folding.{lower, equivalent}
use Rattle.base.proofs.Bools.{and_true, or_true}
use Rattle.chars.proofs.Searches.{index_append, last_none, last_append, last_pos, every_append, every_imp, every_get_or}
use Rattle.chars.proofs.UnitBytes.{but, class_but}
use Rattle.names.specs.Numbers.{value, numeral, digits, decimal4}
use Rattle.names.specs.Items.{suffix, item_name, last_text, WholeItemsReturn, PiecesReturn}
use Rattle.names.specs.declared.items.Suffix.TheVariants.{Piece}
use Rattle.names.proofs.NameBytes.{name_slash, name_but}

-- DIGITS
digit_is : (d : ℕ) → d < 10 → digit (48 + d) ≡ true
unfolding digit
digit_is d h = rw (le-leb 48 (48 + d) (omega arith), le-leb (48 + d) 57 (omega arith))

pub digits_every : (f n : ℕ) → every digit (digits f n) ≡ true
unfolding every digits
digits_every zero n = refl
digits_every (suc f) n = go (ltb n 10) refl (digits_every f (n / 10))
  where
    go : (q : Bool) → ltb n 10 ≡ q → every digit (digits f (n / 10)) ≡ true → every digit (cond q ((48 + n) ∷ []) (digits f (n / 10) ++ (48 + n % 10) ∷ [])) ≡ true
    go true e ih = rw (digit_is n (ltb-true n 10 e))
    go false e ih = every_append digit (digits f (n / 10)) ((48 + n % 10) ∷ []) ih (rw (digit_is (n % 10) (omega arith)))

value_snoc : (v : ℕ) (s : List ℕ) (d : ℕ) → value v (s ++ d ∷ []) ≡ value v s * 10 + (d - 48)
unfolding value
value_snoc v [] d = refl
value_snoc v (x ∷ s) d = value_snoc (v * 10 + (x - 48)) s d

pub digits_value : (f n : ℕ) → n < 10 ^ f → value 0 (digits f n) ≡ n
unfolding value digits
digits_value zero n h = omega arith
digits_value (suc f) n h = go (ltb n 10) refl (λ l. digits_value f (n / 10) l)
  where
    go : (q : Bool) → ltb n 10 ≡ q → (n / 10 < 10 ^ f → value 0 (digits f (n / 10)) ≡ n / 10) → value 0 (cond q ((48 + n) ∷ []) (digits f (n / 10) ++ (48 + n % 10) ∷ [])) ≡ n
    go true e ih = omega arith
    go false e ih =
        let p : 10 ^ suc f ≡ 10 ^ f * 10 = pow-suc 10 f in
        value_snoc 0 (digits f (n / 10)) (48 + n % 10) ∙ rw (ih (omega arith)) (omega arith)

-- a number above 0 has digits, and the first is not 0
digits_first : (f n : ℕ) → 0 < n → n < 10 ^ f → (0 < length (digits f n)) × (eqb (get_or (digits f n) 0 0) 48 ≡ false)
unfolding digits
digits_first zero n z h = absurd (omega arith)
digits_first (suc f) n z h = go (ltb n 10) refl (λ a b. digits_first f (n / 10) a b)
  where
    go : (q : Bool) → ltb n 10 ≡ q → (0 < n / 10 → n / 10 < 10 ^ f → (0 < length (digits f (n / 10))) × (eqb (get_or (digits f (n / 10)) 0 0) 48 ≡ false))
        → (0 < length (cond q ((48 + n) ∷ []) (digits f (n / 10) ++ (48 + n % 10) ∷ []))) × (eqb (get_or (cond q ((48 + n) ∷ []) (digits f (n / 10) ++ (48 + n % 10) ∷ [])) 0 0) 48 ≡ false)
    go true e ih = (omega arith, ne_eqb (48 + n) 48 (λ k. omega arith))
    go false e ih =
        let p : 10 ^ suc f ≡ 10 ^ f * 10 = pow-suc 10 f in
        let l : 10 ≤ n = ltb-false n 10 e in
        let k = ih (omega arith) (omega arith) in
        (simp length-append (omega (arith, k.0)), rw (get_or-append (digits f (n / 10)) ((48 + n % 10) ∷ []) 0 0 k.0) k.1)

digits_one : (f n : ℕ) → n < 10 → length (digits (suc f) n) ≡ 1
unfolding digits
digits_one f n h = rw (lt-ltb n 10 h)

pub decimal_numeral : (k : ℕ) → k ≤ 9999 → numeral (decimal4 k) ≡ true
unfolding numeral
decimal_numeral k h =
    let v : value 0 (decimal4 k) ≡ k = digits_value 4 k (omega arith) in
    go (ltb k 10) refl v
  where
    go : (q : Bool) → ltb k 10 ≡ q → value 0 (decimal4 k) ≡ k
        → (not (eqb (length (decimal4 k)) 0) && (eqb (length (decimal4 k)) 1 || not (eqb (get_or (decimal4 k) 0 0) 48)) && every digit (decimal4 k) && leb (value 0 (decimal4 k)) 9999) ≡ true
    go true e v = rw (digits_one 3 k (ltb-true k 10 e), digits_every 4 k, v, le-leb k 9999 h)
    go false e v =
        let l : 10 ≤ k = ltb-false k 10 e in
        let d = digits_first 4 k (omega arith) (omega arith) in
        rw (ne_eqb (length (decimal4 k)) 0 (λ z. omega (arith, d.0)), d.1, digits_every 4 k, v, le-leb k 9999 h, or_true)

-- THE SUFFIX. What follows the last slash of a piece's name
abbrev tail : ℕ → Bool → List ℕ
tail k l = open_bracket ∷ (decimal4 k ++ last_text l)

tail_but : (c k : ℕ) (l : Bool) → digit c ≡ false → eqb open_bracket c ≡ false → every (but c) (last_text l) ≡ true → every (but c) (tail k l) ≡ true
unfolding every
tail_but c k l d o e =
    and_true (but c open_bracket) (every (but c) (decimal4 k ++ last_text l)) (ap not o)
    (every_append (but c) (decimal4 k) (last_text l) (every_imp digit (but c) (class_but digit c d) (decimal4 k) (digits_every 4 k)) e)

no_slash : (l : Bool) → every (but slash) (last_text l) ≡ true
unfolding every
no_slash true = refl
no_slash false = refl

rest : Bool → List ℕ
rest true = ascii ".last.piece"
rest false = ascii ".piece"

last_text_lem : (l : Bool) → last_text l ≡ close_bracket ∷ rest l
unfolding rest
last_text_lem true = refl
last_text_lem false = refl

bracket_at : (k : ℕ) (l : Bool) → index_of close_bracket (tail k l) ≡ suc (length (decimal4 k))
unfolding first_passing digit
bracket_at k l =
    ap suc (ap (λ (t : List ℕ). index_of close_bracket (decimal4 k ++ t)) (last_text_lem l)
    ∙ index_append close_bracket (decimal4 k) (rest l) (every_imp digit (but close_bracket) (class_but digit close_bracket refl) (decimal4 k) (digits_every 4 k)))

one_last : (l : Bool) → (equivalent (last_text l) (ascii "].last.piece") ≡ l) × ((equivalent (last_text l) (ascii "].piece") || equivalent (last_text l) (ascii "].last.piece")) ≡ true)
unfolding equivalent lower same
one_last true = (refl, refl)
one_last false = (refl, refl)

pub suffix_spelled : (k : ℕ) (l : Bool) → k ≤ 9999 → suffix (tail k l) ≡ Piece k l
unfolding suffix
suffix_spelled k l h =
    let d = decimal4 k in
    let z : suc (length d) - 1 ≡ length d = omega arith in
    rw (bracket_at k l, z, take-append_seam d (last_text l), drop-append_seam d (last_text l), decimal_numeral k h, (one_last l).1, (one_last l).0, digits_value 4 k (omega arith))

-- THE LAW
pub pieces_return : PiecesReturn
unfolding item_name digit
pieces_return p k l h b =
    let s = p ++ slash ∷ tail k l in
    let a : after_last slash s ≡ suc (length p) = last_append slash p (tail k l) (last_none slash (tail k l) (tail_but slash k l refl refl (no_slash l))) in
    let d : drop (suc (length p)) s ≡ tail k l = rw add-one at (drop-append-add p (slash ∷ tail k l) 1) in
    let t : take (suc (length p) - 1) s ≡ p =
    let z : suc (length p) - 1 ≡ length p = omega arith in
    rw z (take-append_seam p (slash ∷ tail k l)) in
    rw (a, eqb-suc-zero, d, a, d, suffix_spelled k l b, t, h)

pub whole_items_return : WholeItemsReturn
unfolding item_name segment_byte unreserved letter digit hex_digit
whole_items_return p h =
    let a : 0 < after_last slash p = last_pos slash p (omega arith) (name_slash p h) in
    let n : every (but open_bracket) p ≡ true = name_but p h open_bracket refl refl refl (omega arith) refl in
    let f : eqb (get_or (drop (after_last slash p) p) 0 0) open_bracket ≡ false =
    rw (get_or-drop (after_last slash p) p 0 0) (not-true (eqb (get_or p (after_last slash p + 0) 0) open_bracket) (every_get_or (but open_bracket) refl p (after_last slash p + 0) n)) in
    rw (ne_eqb (after_last slash p) 0 (λ z. omega arith), f, h)
