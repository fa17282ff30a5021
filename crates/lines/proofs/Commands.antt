-- What a line reads as, by its first letter and the places of its spaces: a law for each way out of `parse`.
-- Assumes nothing.
use Prim.Native.Nat.{ℕ, suc, ◌+◌, ◌-◌, ◌≤◌, ◌<◌}
use Prim.Native.Char.{code}
use mathlib.Core.Path.{◌≡◌, refl, sym, ap, ◌∙◌, subst}
use mathlib.Core.Bool.{Bool, true, false, ◌&&◌, cond, false≢true}
use mathlib.Core.List.{List, [], ◌∷◌}
use mathlib.Core.Logic.{⊎_elim}
use native.Mathlib.Nat.{eq-or-lt_of_le}
use native.Mathlib.Omega.{arith}
use lib.Dec.{eqb}
use lib.ListN.{length, take, drop, get_or, length-drop}
use lib.Seq.{drop-drop, length-take-le, take_all}
use borrow.Author.Tests.{le-ltb, lt-ltb, eq-eqb, ne_eqb}
use Rattle.chars.specs.Bytes.{ascii}
use Rattle.chars.specs.Lists.{same, index_of, split, cut}
use Rattle.base.proofs.Bools.{and_false}
use Rattle.chars.proofs.Searches.{index_le}
use Rattle.chars.proofs.Splits.{split_last, split_more}
use Rattle.model.specs.Sets.{Bytes}
use Rattle.model.specs.Calls.{PutItem, PutDefault, PutOverride}
use Rattle.model.specs.Sheet.{Does, Unreadable, space, line_read, by_fields, readable, filled_in}
use Rattle.lines.specs.Reading.{Parsed, two_fields, field_to, field_after}
use Rattle.std.specs.Prelude.{Option, Some, None}
use Rattle.lines.specs.declared.parsing.Command.{Command}
use Rattle.lines.specs.declared.parsing.Command.TheVariants as command

-- FIELDS. From i on: the next space stands at e, or e is the end
module _ (l : Bytes) (i e : ℕ) (here : e ≡ i + index_of space (drop i l)) (h : i ≤ length l) where
  field_last : length l ≤ e → split space (drop i l) ≡ drop i l ∷ []
  field_last g = split_last space (drop i l) (omega (arith, index_le space (drop i l), length-drop i l))

  field_more : e < length l → split space (drop i l) ≡ take (e - i) (drop i l) ∷ split space (drop (e + 1) l)
  field_more g =
      let k : index_of space (drop i l) < length (drop i l) = simp length-drop (omega arith) in
      let far : e - i ≡ index_of space (drop i l) = omega arith in
      let d : i + suc (index_of space (drop i l)) ≡ e + 1 = omega arith in
      rw (split_more space (drop i l) k, ← far, drop-drop, far, d)

  stretch_le : e ≤ length l
  stretch_le = omega (arith, index_le space (drop i l), length-drop i l)

pub split_length : (b : ℕ) (s : List ℕ) → 0 < length (split b s)
unfolding split
split_length b [] = omega arith
split_length b (x ∷ s) = go (eqb x b) (split b s)
  where
    go : (q : Bool) (r : List Bytes) → 0 < length (cut q x r)
    go true r = omega arith
    go false [] = omega arith
    go false (y ∷ r) = omega arith

-- LETTERS. A first field that is no letter alone
letter_not : (c : ℕ) (a : Bytes) → (length a ≡ 1 → ⊥) → same a (c ∷ []) ≡ false
unfolding same
letter_not c [] h = refl
letter_not c (x ∷ []) h = absurd (h refl)
letter_not c (x ∷ y ∷ a) h = and_false (eqb x c)

no_letter : (l a : Bytes) (r : List Bytes) → (length a ≡ 1 → ⊥) → by_fields l (a ∷ r) ≡ Unreadable
no_letter l a [] h = rw (letter_not (code "L") a h)
no_letter l a (b ∷ []) h = rw (letter_not (code "X") a h)
no_letter l a (b ∷ c ∷ []) h = rw (letter_not (code "P") a h, letter_not (code "D") a h, letter_not (code "O") a h)
no_letter l a (b ∷ c ∷ d ∷ r) h = rw (letter_not (code "P") a h)

letter_other : (x c : ℕ) → (x ≡ c → ⊥) → same (x ∷ []) (c ∷ []) ≡ false
unfolding same
letter_other x c n = rw (ne_eqb x c n)

take_one : (l : Bytes) → 1 ≤ length l → take 1 l ≡ get_or l 0 0 ∷ []
take_one [] h = absurd (omega arith)
take_one (x ∷ l) h = refl

-- a letter, and an empty second field
second_empty : (l : Bytes) (x : ℕ) (b : Bytes) (r : List Bytes) → length b ≡ 0 → by_fields l ((x ∷ []) ∷ b ∷ r) ≡ Unreadable
second_empty l x (y ∷ b) r h = absurd (omega arith)
second_empty l x [] [] h = rw (and_false (same (x ∷ []) (ascii "X")))
second_empty l x [] (c ∷ []) h = go (same (x ∷ []) (ascii "P")) (same (x ∷ []) (ascii "D")) (same (x ∷ []) (ascii "O"))
  where
    go : (p d o : Bool) → cond p Unreadable (cond d Unreadable (readable (o && false && filled_in c) (Does (PutOverride [] c)))) ≡ Unreadable
    go true d o = refl
    go false true o = refl
    go false false true = refl
    go false false false = refl
second_empty l x [] (c ∷ d ∷ r) h = rw (and_false (same (x ∷ []) (ascii "P")))

-- an empty third field, which only P may have
third_empty : (l : Bytes) (x : ℕ) → (x ≡ code "P" → ⊥) → (b c : Bytes) → length c ≡ 0 → by_fields l ((x ∷ []) ∷ b ∷ c ∷ []) ≡ Unreadable
third_empty l x n b (y ∷ c) h = absurd (omega arith)
third_empty l x n b [] h = go (same (x ∷ []) (ascii "P")) (letter_other x (code "P") n) (same (x ∷ []) (ascii "D")) (same (x ∷ []) (ascii "O")) (filled_in b)
  where
    go : (p : Bool) → p ≡ false → (d o f : Bool)
        → cond p (readable f (Does (PutItem b []))) (cond d (readable (f && false) (Does (PutDefault b []))) (readable (o && f && false) (Does (PutOverride b [])))) ≡ Unreadable
    go true z d o f = absurd (false≢true (sym z))
    go false z true o f = rw (and_false f)
    go false z false o f = rw (and_false (o && f))

-- a fourth field, which only P may have
four_is : (l : Bytes) (x : ℕ) → (x ≡ code "P" → ⊥) → (b c : Bytes) (r : List Bytes) → 0 < length r → by_fields l ((x ∷ []) ∷ b ∷ c ∷ r) ≡ Unreadable
four_is l x n b c [] h = absurd (omega arith)
four_is l x n b c (d ∷ r) h = rw (letter_other x (code "P") n)

-- P: the content is what follows the second space
put_is : (l : Bytes) (x : ℕ) → x ≡ code "P" → (e : ℕ) → 2 < e → (b : Bytes) → length b ≡ e - 2 → (c : Bytes) (r : List Bytes) → (r ≡ [] → c ≡ drop (e + 1) l)
    → by_fields l ((x ∷ []) ∷ b ∷ c ∷ r) ≡ Does (PutItem b (drop (e + 1) l))
unfolding same
put_is l x h e far b n c [] k = rw (eq-eqb x (code "P") h, ne_eqb (length b) 0 (λ z. omega arith), k refl)
put_is l x h e far b n c (d ∷ r) k =
    let z : 1 + 1 + length b + 1 ≡ e + 1 = omega arith in
    rw (eq-eqb x (code "P") h, ne_eqb (length b) 0 (λ z. omega arith), z)

-- an unreadable line
unreadable : (l : Bytes) → line_read l ≡ Unreadable → Parsed l None
unreadable l e = record { reads = sym e; inside = tt }

pub long_unreadable : (l : Bytes) → 1024 < length l → line_read l ≡ Unreadable
unfolding line_read
long_unreadable l h = rw (lt-ltb 1024 (length l) h)

pub parse_long : (l : Bytes) → 1024 < length l → Parsed l None
parse_long l h = unreadable l (long_unreadable l h)

module _ (l : Bytes) (few : length l ≤ 1024) where
  by_fields_lem : (r : List Bytes) → split space (drop 0 l) ≡ r → line_read l ≡ by_fields l r
  unfolding line_read
  by_fields_lem r e = rw (le-ltb 1024 (length l) few, e)

  -- the first field has i bytes
  module _ (i : ℕ) (here : i ≡ 0 + index_of space (drop 0 l)) where
    pub parse_first : (i ≡ 1 → ⊥) → Parsed l None
    parse_first h = unreadable l (⊎_elim
        (λ g. by_fields_lem _ (field_last l 0 i here (omega arith) (omega arith)) ∙ no_letter l l [] (λ z. h (g ∙ z)))
        (λ (g : i < length l).
        let n : length (take (i - 0) l) ≡ i - 0 = length-take-le (i - 0) l (omega arith) in
        by_fields_lem _ (field_more l 0 i here (omega arith) g) ∙ no_letter l (take (i - 0) l) (split space (drop (i + 1) l)) (λ z. h (omega arith)))
        (eq-or-lt_of_le (stretch_le l 0 i here (omega arith))))

    -- it is a letter
    module _ (one : i ≡ 1) (x : ℕ) (letter : x ≡ get_or l 0 0) where
      front : 1 ≤ length l
      front = omega (arith, stretch_le l 0 i here (omega arith))

      letter_is : take 1 l ≡ x ∷ []
      letter_is = take_one l front ∙ ap (λ (y : ℕ). y ∷ []) (sym letter)

      alone : length l ≡ 1 → line_read l ≡ by_fields l ((x ∷ []) ∷ [])
      alone n = by_fields_lem _ (field_last l 0 i here (omega arith) (omega arith) ∙ ap (λ (a : Bytes). a ∷ []) (sym (take_all 1 l (omega arith)) ∙ letter_is))

      pub parse_list : length l ≡ 1 → x ≡ code "L" → Parsed l (Some command.List)
      unfolding same
      parse_list n h = record { reads = sym (alone n ∙ rw (eq-eqb x (code "L") h)); inside = tt }

      pub parse_alone : length l ≡ 1 → (x ≡ code "L" → ⊥) → Parsed l None
      unfolding same
      parse_alone n h = unreadable l (alone n ∙ rw (ne_eqb x (code "L") h))

      -- the second field goes up to e
      module _ (more : length l ≡ 1 → ⊥) (e : ℕ) (second : e ≡ 2 + index_of space (drop 2 l)) where
        two : 2 ≤ length l
        two = omega (arith, front)

        inside_e : e ≤ length l
        inside_e = stretch_le l 2 e second two

        fields : (r : List Bytes) → split space (drop 2 l) ≡ r → line_read l ≡ by_fields l ((x ∷ []) ∷ r)
        fields r k =
            by_fields_lem _ (field_more l 0 1 (sym one ∙ here) (omega arith) two
            ∙ ap (λ (a : Bytes). a ∷ split space (drop 2 l)) letter_is
            ∙ ap (λ (q : List Bytes). (x ∷ []) ∷ q) k)

        pub parse_empty : e ≡ 2 → Parsed l None
        parse_empty h = unreadable l (⊎_elim
            (λ (g : e ≡ length l). fields _ (field_last l 2 e second two (omega arith)) ∙ second_empty l x (drop 2 l) [] (simp length-drop (omega arith)))
            (λ g. fields _ (field_more l 2 e second two g) ∙ second_empty l x (field_to e l) (split space (drop (e + 1) l)) (length-take-le (e - 2) (drop 2 l) (omega arith) ∙ omega arith))
            (eq-or-lt_of_le inside_e))

        module _ (given : e ≡ 2 → ⊥) where
          far : 2 < e
          far = omega arith

          -- to the end of the line
          module _ (last : length l ≤ e) where
            pair : line_read l ≡ by_fields l ((x ∷ []) ∷ drop 2 l ∷ [])
            pair = fields _ (field_last l 2 e second two last)

            pub parse_drop : x ≡ code "X" → Parsed l (Some command.Drop)
            unfolding same
            parse_drop h = record {
              reads = sym (pair ∙ rw (eq-eqb x (code "X") h, ne_eqb (length (drop 2 l)) 0 (λ z. omega (arith, far, inside_e, length-drop 2 l))));
              inside = omega (arith, far, inside_e);
            }

            pub parse_two : (x ≡ code "X" → ⊥) → Parsed l None
            unfolding same
            parse_two h = unreadable l (pair ∙ rw (ne_eqb x (code "X") h))

          -- a third one follows
          module _ (third : e < length l) where
            field_length : length (field_to e l) ≡ e - 2
            field_length = length-take-le (e - 2) (drop 2 l) (simp length-drop (omega arith))

            field_given : eqb (length (field_to e l)) 0 ≡ false
            field_given = ne_eqb (length (field_to e l)) 0 (λ z. omega (arith, far, field_length))

            from_third : (r : List Bytes) → split space (drop (e + 1) l) ≡ r → line_read l ≡ by_fields l ((x ∷ []) ∷ field_to e l ∷ r)
            from_third r k = fields _ (field_more l 2 e second two third ∙ ap (λ (q : List Bytes). field_to e l ∷ q) k)

            pub parse_put : x ≡ code "P" → Parsed l (Some (command.Put e))
            parse_put h = record {
              reads = sym (⊎_elim
                  (λ g. from_third _ (field_last l (e + 1) f refl (omega arith) (omega arith)) ∙ put_is l x h e far (field_to e l) field_length (field_after e l) [] (λ z. refl))
                  (λ g. from_third _ (field_more l (e + 1) f refl (omega arith) g)
                  ∙ put_is l x h e far (field_to e l) field_length _ (split space (drop (f + 1) l)) (λ z. absurd (omega (arith, split_length space (drop (f + 1) l), ap length z))))
                  (eq-or-lt_of_le (stretch_le l (e + 1) f refl (omega arith))));
              inside = (far, third);
            }
              where
                f : ℕ
                f = e + 1 + index_of space (drop (e + 1) l)

            module _ (other : x ≡ code "P" → ⊥) where
              pub parse_short : length l ≤ e + 1 → Parsed l None
              parse_short h =
                  unreadable l (from_third _ (field_last l (e + 1) (e + 1 + index_of space (drop (e + 1) l)) refl (omega arith) (omega arith))
                  ∙ third_empty l x other (field_to e l) (field_after e l) (simp length-drop (omega arith)))

              module _ (f : ℕ) (fourth : f ≡ e + 1 + index_of space (drop (e + 1) l)) where
                pub parse_four : f < length l → Parsed l None
                parse_four h =
                    unreadable l (from_third _ (field_more l (e + 1) f fourth (omega arith) h)
                    ∙ four_is l x other (field_to e l) _ (split space (drop (f + 1) l)) (split_length space (drop (f + 1) l)))

                pub parse_typed : e + 1 < length l → length l ≤ f → (r : Option Command) → r ≡ two_fields x e → Parsed l r
                unfolding same
                parse_typed g h r q = subst (Parsed l) (sym q) (go (eqb x (code "D")) (eqb x (code "O")) refl refl)
                  where
                    whole : line_read l ≡ by_fields l ((x ∷ []) ∷ field_to e l ∷ field_after e l ∷ [])
                    whole = from_third _ (field_last l (e + 1) f fourth (omega arith) h)

                    last_given : eqb (length (field_after e l)) 0 ≡ false
                    last_given = ne_eqb (length (field_after e l)) 0 (λ z. omega (arith, length-drop (e + 1) l))

                    go : (d o : Bool) → eqb x (code "D") ≡ d → eqb x (code "O") ≡ o → Parsed l (cond d (Some (command.Default e)) (cond o (Some (command.Override e)) None))
                    go true o u v = record { reads = sym (whole ∙ rw (ne_eqb x (code "P") other, u, field_given, last_given)); inside = (far, third) }
                    go false true u v = record { reads = sym (whole ∙ rw (ne_eqb x (code "P") other, u, v, field_given, last_given)); inside = (far, third) }
                    go false false u v = unreadable l (whole ∙ rw (ne_eqb x (code "P") other, u, v))
