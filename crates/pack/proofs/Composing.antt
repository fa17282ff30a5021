-- Composing a pack IRI, from what the parts of the code ensure.
-- Assumes nothing.
use Prim.Native.Nat.{ℕ, ◌+◌, ◌≤◌, ◌-◌, ◌<◌}
use mathlib.Core.Path.{◌≡◌, ◌∙◌, sym, ap, ap₂}
use mathlib.Core.Bool.{Bool, not, true, false}
use mathlib.Core.List.{List, ◌++◌, [], append-nil, append_assoc}
use native.Mathlib.Nat.{zero-add}
use native.Mathlib.Omega.{arith}
use lib.ListN.{length, drop, take, length-drop, drop_of_length-le, length-append}
use lib.Seq.{drop-append_seam, drop-drop, take-append_seam, length-take-le}
use borrow.Author.Tests.{not-true, not-false}
use Rattle.chars.specs.Bytes.{number_sign, ascii}
use Rattle.chars.specs.Lists.{index_of}
use Rattle.base.proofs.Lists.{take_rest}
use Rattle.chars.proofs.Searches.{index_le}
use Rattle.names.specs.Iris.{package_iri}
use Rattle.output.specs.Answers.{Refused, Text}
use Rattle.pack.specs.Pack.{compose, part_or_root, escaped, pack_iri, unfragmented}
use Rattle.output.specs.Sends.{Sent, Fitted}
use Rattle.pack.proofs.Escapes.{escaped_few}
use Rattle.names.proofs.Lengths.{package_few}
use Rattle.pack.proofs.Locating.{part_or_root_few}
use Rattle.output.proofs.Sending.{sent_start, append_none}

-- a text h at the start of an output, and n written into the rest after it
module _ (h n out o₂ zs : List ℕ) (a m : ℕ) (ea : a ≡ length h) (l : a + length n ≤ length out) (e₂ : o₂ ≡ h ++ drop (length h) out) (s : Sent (take (length o₂ - a) (drop a o₂)) 0 n m zs) where
  cut : drop a o₂ ≡ drop (length h) out
  cut = rw (e₂, ea, drop-append_seam h (drop (length h) out))

  rest_is : take (length o₂ - a) (drop a o₂) ≡ drop (length h) out
  rest_is = take_rest o₂ a ∙ cut

  zs_is : zs ≡ n ++ drop (length h + length n) out
  zs_is = sent_start _ zs n m s (rw (rest_is, length-drop) (omega arith)) ∙ rw (rest_is, drop-drop (length n) (length h) out)

  pub seam : take a o₂ ++ (zs ++ drop (length o₂ - a) (drop a o₂)) ≡ (h ++ n) ++ drop (length (h ++ n)) out
  seam =
      let g : length (drop a o₂) ≤ length o₂ - a = omega (arith, length-drop a o₂) in
      let e : drop (length o₂ - a) (drop a o₂) ≡ [] = drop_of_length-le (drop a o₂) g in
      let t : take a o₂ ≡ h = rw (e₂, ea, take-append_seam h (drop (length h) out)) in
      rw (e, t, append-nil zs, zs_is, length-append h n, append_assoc h n (drop (length h + length n) out))

-- the pack IRI, from a package IRI and a path that are judged
module _ (p n : List ℕ) (lp : length p ≤ 255) (ln : length n ≤ 511) (k : ℕ) (ek : k ≡ 0 + index_of number_sign p) where
  k_is : k ≡ index_of number_sign p
  k_is = omega arith

  pub k_le : k ≤ length p
  k_le = omega (arith, index_le number_sign p)

  pub unfragmented_length : k ≡ length (take k p)
  unfragmented_length = sym (length-take-le k p k_le)

  pub unfragmented_few : length (take k p) ≤ 4096
  unfragmented_few = omega (arith, unfragmented_length, k_le)

  abbrev head : List ℕ
  head = ascii "pack://" ++ escaped (take k p)

  text_is : pack_iri p n ≡ head ++ n
  unfolding pack_iri unfragmented
  text_is = rw (← k_is)

  module _ (w ys : List ℕ) (a : ℕ) (s : Sent w 0 head a ys) where
    a_is : a ≡ length head
    a_is = s.next_is ∙ zero-add (length head)

    pub head_end_few : a ≤ 20000
    head_end_few = omega (arith, a_is, length-append (ascii "pack://") (escaped (take k p)), escaped_few (take k p), unfragmented_few)

    need_is : a + length n ≡ length (head ++ n)
    need_is = rw (length-append head n, a_is)

    length_is : a + length n ≡ length (pack_iri p n)
    length_is = need_is ∙ ap length (sym text_is)

    module _ (out : List ℕ) (z : length ys ≡ 0) where
      kept_out : ys ++ out ≡ out
      kept_out = append_none ys out z

      pub pack_none : length (ys ++ out) < a + length n → Fitted out (pack_iri p n) (a + length n) (ys ++ out)
      pack_none l =
          let l' : length out < a + length n = rw kept_out at l in
          record { is = length_is; fits = λ f. absurd (omega arith); short = λ _. kept_out }

      module _ (l : a + length n ≤ length (ys ++ out)) (b : ℕ) (o₂ : List ℕ) (s₂ : Sent (ys ++ out) 0 head b o₂) (m : ℕ) (zs : List ℕ) (s₃ : Sent (take (length o₂ - a) (drop a o₂)) 0 n m zs) where
        l' : a + length n ≤ length out
        l' = rw kept_out at l

        o₂_is : o₂ ≡ head ++ drop (length head) out
        o₂_is = sent_start (ys ++ out) o₂ head b s₂ (omega (arith, a_is)) ∙ rw kept_out

        pub pack_sent : Fitted out (pack_iri p n) (a + length n) (take a o₂ ++ (zs ++ drop (length o₂ - a) (drop a o₂)))
        pack_sent = record {
          is = length_is;
          fits = λ _. seam head n out o₂ zs a m a_is l' o₂_is s₃ ∙ ap₂ (λ (t : List ℕ) (i : ℕ). t ++ drop i out) (sym text_is) (sym need_is);
          short = λ f. absurd (omega (arith, l'));
        }

-- a package IRI and a name, judged
module _ (p n : List ℕ) (x : Bool) (ex : x ≡ package_iri p) where
  pub compose_9 : not x ≡ true → compose p n ≡ Refused 9
  unfolding compose
  compose_9 q = rw (← ex, not-true x q)

  module _ (gx : not x ≡ false) (y : Bool) (ey : y ≡ part_or_root n) where
    hx : x ≡ true
    hx = not-false x gx

    pub compose_4 : not y ≡ true → compose p n ≡ Refused 4
    unfolding compose
    compose_4 q = rw (← ex, hx, ← ey, not-true y q)

    pub package_short : length p ≤ 255
    package_short = package_few p (sym ex ∙ hx)

    module _ (gy : not y ≡ false) where
      hy : y ≡ true
      hy = not-false y gy

      pub part_few : length n ≤ 511
      part_few = omega (arith, part_or_root_few n (sym ey ∙ hy))

      pub compose_text : compose p n ≡ Text (pack_iri p n) []
      unfolding compose
      compose_text = rw (← ex, hx, ← ey, hy)
