-- The turns of remove_dot_segments: how many there are does not count, and what each rule does at a position.
-- Assumes nothing.
use Prim.Native.Nat.{◌-◌, ℕ, ◌≤◌, ◌<◌, zero, suc, ◌+◌}
use mathlib.Core.Path.{◌≡◌, refl, ap, ◌∙◌, sym}
use mathlib.Core.Bool.{Bool, true, false, ◌||◌}
use mathlib.Core.List.{List, [], ◌++◌, append-nil, ◌∷◌}
use native.Mathlib.Nat.{not-suc-le-zero}
use native.Mathlib.Numerals.{add-one}
use native.Mathlib.Omega.{arith}
use lib.ListN.{length, take, drop, length-drop, set}
use lib.Seq.{length-take-le, drop-drop, take-take, take-suc-set}
use Rattle.chars.specs.Bytes.{slash, ascii}
use Rattle.chars.specs.Lists.{begins, same, first_passing, after_last}
use Rattle.chars.proofs.Equivalence.{same_eq}
use Rattle.chars.proofs.Searches.{index_le, last_le}
use Rattle.base.proofs.Lists.{take_rest, length_take_le_length}
use Rattle.iri.specs.References.{Rule, rule, rule_pick, Skip, Root, Up, UpRoot, Finish, Copy, turn, first_segment, turns, buffers, remove_dot_segments}
use Rattle.iri.specs.Scratch.{of_move, DotsRemoved}
use Rattle.output.specs.Sends.{Sent}
use Rattle.iri.specs.declared.dots.Move.{Move}
use Rattle.output.proofs.Sending.{sent_front}
use Rattle.iri.specs.declared.dots.Move.TheVariants as move

picked : (P : Rule → Type 0) (q : Bool) (r s : Rule) → (q ≡ true → P r) → P s → P (rule_pick q r s)
picked P true r s f g = f refl
picked P false r s f g = g

begins_fits : (t i : List ℕ) → begins t i ≡ true → length t ≤ length i
unfolding begins
begins_fits t i e = omega (arith, ap length (same_eq (take (length t) i) t e), length_take_le_length (length t) i)

-- how many bytes of the input a turn takes at least
abbrev size : Rule → ℕ
size (Skip n) = n
size Root = 1
size (Up n) = n
size UpRoot = 1
size Finish = 1
size (Copy n) = n

module _ (i o : List ℕ) (h : 0 < length i) where
  abbrev Good : Rule → Type 0
  Good r = (size r ≤ length i) × (0 < size r) × (length (turn r i o).input ≤ length i - 1)

  skips : (n : ℕ) → 0 < n → n ≤ length i → length (drop n i) ≤ length i - 1
  skips n z l = omega (arith, length-drop n i)

  skip_good : (n : ℕ) → 0 < n → n ≤ length i → Good (Skip n)
  unfolding turn
  skip_good n z l = (l, z, skips n z l)

  up_good : (n : ℕ) → 0 < n → n ≤ length i → Good (Up n)
  unfolding turn
  up_good n z l = (l, z, skips n z l)

  copy_good : (n : ℕ) → 0 < n → n ≤ length i → Good (Copy n)
  unfolding turn
  copy_good n z l = (l, z, skips n z l)

  root_good : 2 ≤ length i → Good Root
  unfolding turn
  root_good l = (omega arith, omega arith, omega arith)

  up_root_good : 2 ≤ length i → Good UpRoot
  unfolding turn
  up_root_good l = (omega arith, omega arith, omega arith)

  finish_good : Good Finish
  unfolding turn
  finish_good = (omega arith, omega arith, omega arith)

  segment_fits : first_segment i ≤ length i
  unfolding first_segment
  segment_fits = omega (arith, index_le slash (drop 1 i), length-drop 1 i)

  segment_some : 0 < first_segment i
  unfolding first_segment
  segment_some = omega arith

  good : Good (rule i)
  unfolding rule
  good =
      picked Good (begins (ascii "../") i) (Skip 3) _ (λ e. skip_good 3 (omega arith) (begins_fits (ascii "../") i e))
      (picked Good (begins (ascii "./") i) (Skip 2) _ (λ e. skip_good 2 (omega arith) (begins_fits (ascii "./") i e))
      (picked Good (begins (ascii "/./") i) (Skip 2) _ (λ e. let l : 3 ≤ length i = begins_fits (ascii "/./") i e in skip_good 2 (omega arith) (omega arith))
      (picked Good (same i (ascii "/.")) Root _ (λ e. root_good (omega (arith, ap length (same_eq i (ascii "/.") e))))
      (picked Good (begins (ascii "/../") i) (Up 3) _ (λ e. let l : 4 ≤ length i = begins_fits (ascii "/../") i e in up_good 3 (omega arith) (omega arith))
      (picked Good (same i (ascii "/..")) UpRoot _ (λ e. up_root_good (omega (arith, ap length (same_eq i (ascii "/..") e))))
      (picked Good (same i (ascii ".") || same i (ascii "..")) Finish _ (λ e. finish_good)
      (copy_good (first_segment i) segment_some segment_fits)))))))

-- an empty input stays empty
turns_none : (n : ℕ) (o : List ℕ) → turns n (buffers [] o) ≡ o
unfolding turns turn rule begins same first_segment first_passing
turns_none zero o = refl
turns_none (suc n) o = turns_none n (o ++ []) ∙ append-nil o

turns_empty : (n : ℕ) (i o : List ℕ) → length i ≤ 0 → turns n (buffers i o) ≡ o
turns_empty n [] o h = turns_none n o
turns_empty n (x ∷ i) o h = absurd (not-suc-le-zero h)

shrinks : (n : ℕ) (i o : List ℕ) → length i ≤ suc n → length (turn (rule i) i o).input ≤ n
unfolding turn rule begins same first_segment first_passing
shrinks n [] o h = omega arith
shrinks n (x ∷ i) o h = let l : length (turn (rule (x ∷ i)) (x ∷ i) o).input ≤ suc (length i) - 1 = (good (x ∷ i) o (omega arith)).2 in omega arith

turns_enough : (n m : ℕ) (i o : List ℕ) → length i ≤ n → length i ≤ m → turns n (buffers i o) ≡ turns m (buffers i o)
unfolding turns
turns_enough zero m i o h g = sym (turns_empty m i o h)
turns_enough (suc n) zero i o h g = turns_empty (suc n) i o g
turns_enough (suc n) (suc m) i o h g =
    turns_enough n m (turn (rule i) i o).input (turn (rule i) i o).output (shrinks n i o h) (shrinks m i o g)

-- what is written in the end, from an input and an output
unfoldable pub whole : List ℕ → List ℕ → List ℕ
whole i o = turns (length i) (buffers i o)

next : (i o : List ℕ) → 0 < length i → (r : Rule) → rule i ≡ r → whole i o ≡ whole (turn r i o).input (turn r i o).output
unfolding whole turns
next [] o h r e = absurd (not-suc-le-zero h)
next (x ∷ i) o h r e =
    turns_enough (length i) (length (turn (rule (x ∷ i)) (x ∷ i) o).input) (turn (rule (x ∷ i)) (x ∷ i) o).input (turn (rule (x ∷ i)) (x ∷ i) o).output (shrinks (length i) (x ∷ i) o (omega arith)) (omega arith)
    ∙ ap (λ (q : Rule). turns (length (turn q (x ∷ i) o).input) (turn q (x ∷ i) o)) e

whole_root : (o : List ℕ) → whole (ascii "/") o ≡ o ++ slash ∷ []
unfolding whole turns turn rule begins same first_segment first_passing
whole_root o = refl

pub whole_none : (s o : List ℕ) (i : ℕ) → length s ≤ i → whole (drop i s) o ≡ o
unfolding whole
whole_none s o i h = go (drop i s) (let e : length (drop i s) ≡ 0 = length-drop i s ∙ (let z : length s - i ≡ 0 = omega arith in z) in e)
  where
    go : (l : List ℕ) → length l ≡ 0 → turns (length l) (buffers l o) ≡ o
    go [] e = turns_none 0 o
    go (x ∷ l) e = absurd (omega arith)

pub whole_all : (s : List ℕ) → remove_dot_segments s ≡ whole s []
unfolding remove_dot_segments whole
whole_all s = refl

-- a turn at the position i of s, the output being the first o bytes of out
module _ (s out : List ℕ) (i o : ℕ) (h : i < length s) (m : Move) (em : of_move m ≡ rule (take (length s - i) (drop i s))) where
  some : 0 < length (drop i s)
  some = omega (arith, length-drop i s)

  rule_is : rule (drop i s) ≡ of_move m
  rule_is = ap rule (sym (take_rest s i)) ∙ sym em

  pub fits : size (of_move m) ≤ length s - i
  fits = rw (← rule_is) (omega (arith, (good (drop i s) [] some).0, length-drop i s))

  pub moves : 0 < size (of_move m)
  moves = rw (← rule_is) (good (drop i s) [] some).1

  pub fits_skip : (n : ℕ) → m ≡ move.Skip n → (i + n ≤ length s) × (0 < n)
  fits_skip n e = let f : n ≤ length s - i = rw e at fits in let g : 0 < n = rw e at moves in (omega arith, g)

  pub fits_up : (n : ℕ) → m ≡ move.Up n → (i + n ≤ length s) × (0 < n)
  fits_up n e = let f : n ≤ length s - i = rw e at fits in let g : 0 < n = rw e at moves in (omega arith, g)

  pub fits_copy : (n : ℕ) → m ≡ move.Copy n → (i + n ≤ length s) × (0 < n)
  fits_copy n e = let f : n ≤ length s - i = rw e at fits in let g : 0 < n = rw e at moves in (omega arith, g)

  pub after_skip : (n : ℕ) → m ≡ move.Skip n → whole (drop i s) (take o out) ≡ whole (drop (i + n) s) (take o out)
  unfolding turn
  after_skip n e = next (drop i s) (take o out) some (Skip n) (rule_is ∙ ap of_move e) ∙ ap (λ (l : List ℕ). whole l (take o out)) (drop-drop n i s)

  pub after_up : (n q : ℕ) → m ≡ move.Up n → q ≡ after_last slash (take o out) - 1 → q ≤ o → whole (drop i s) (take o out) ≡ whole (drop (i + n) s) (take q out)
  unfolding turn
  after_up n q e f g =
      next (drop i s) (take o out) some (Up n) (rule_is ∙ ap of_move e)
      ∙ ap (λ (l : List ℕ). whole l (take (after_last slash (take o out) - 1) (take o out))) (drop-drop n i s)
      ∙ ap (whole (drop (i + n) s)) (ap (λ (k : ℕ). take k (take o out)) (sym f) ∙ take-take q o out g)

  pub after_root : m ≡ move.Root → whole (drop i s) (take o out) ≡ take o out ++ slash ∷ []
  unfolding turn
  after_root e = next (drop i s) (take o out) some Root (rule_is ∙ ap of_move e) ∙ whole_root (take o out)

  pub after_up_root : (q : ℕ) → m ≡ move.UpRoot → q ≡ after_last slash (take o out) - 1 → q ≤ o → whole (drop i s) (take o out) ≡ take q out ++ slash ∷ []
  unfolding turn
  after_up_root q e f g =
      next (drop i s) (take o out) some UpRoot (rule_is ∙ ap of_move e) ∙ whole_root _
      ∙ ap (λ (l : List ℕ). l ++ slash ∷ []) (ap (λ (k : ℕ). take k (take o out)) (sym f) ∙ take-take q o out g)

  pub after_finish : m ≡ move.Finish → whole (drop i s) (take o out) ≡ take o out
  unfolding turn
  after_finish e = next (drop i s) (take o out) some Finish (rule_is ∙ ap of_move e) ∙ whole_none [] (take o out) 0 (omega arith)

  pub after_copy : (n k : ℕ) (out' : List ℕ) → m ≡ move.Copy n → o + n ≤ length out → Sent out o (take (i + n - i) (drop i s)) k out' → whole (drop i s) (take o out) ≡ whole (drop (i + n) s) (take k out')
  unfolding turn
  after_copy n k out' e g w =
      let c : i + n - i ≡ n = omega arith in
      let w' : Sent out o (take n (drop i s)) k out' = rw c at w in
      let r : rule (drop i s) ≡ Copy n = rule_is ∙ ap of_move e in
      let f : n ≤ length (drop i s) = rw r at (good (drop i s) [] some).0 in
      let l : length (take n (drop i s)) ≡ n = length-take-le n (drop i s) f in
      let t : take k out' ≡ take o out ++ take n (drop i s) = sent_front out out' (take n (drop i s)) o k w' (omega (arith, w'.next_is)) in
      next (drop i s) (take o out) some (Copy n) r
      ∙ ap (λ (x : List ℕ). whole x (take o out ++ take n (drop i s))) (drop-drop n i s)
      ∙ ap (whole (drop (i + n) s)) (sym t)

pub chop_le : (out : List ℕ) (o q : ℕ) → o ≤ length out → q ≡ after_last slash (take o out) - 1 → q ≤ o
chop_le out o q h e = omega (arith, last_le slash (take o out), length-take-le o out h)

-- the last byte is a slash
pub root_done : (s out : List ℕ) (o : ℕ) → remove_dot_segments s ≡ take o out ++ slash ∷ [] → o < length out → o < length s → DotsRemoved s (o + 1) (set out o slash)
root_done s out o e h g = record { text = ap (λ (k : ℕ). take k (set out o slash)) (add-one o) ∙ take-suc-set out o slash h ∙ sym e; few = omega arith }

pub done : (s out : List ℕ) (o : ℕ) → remove_dot_segments s ≡ take o out → o ≤ length s → DotsRemoved s o out
done s out o e g = record { text = sym e; few = g }
