-- "20 where all before a start tag of depth 17 .. begins an accepted stream": where a stream gives 20, that is so.
-- Assumes nothing.
use Prim.Native.Nat.{ℕ}
use native.Mathlib.Omega.{arith}
use mathlib.Core.Path.{◌≡◌, refl, sym, ap, ◌∙◌}
use mathlib.Core.Bool.{Bool, true, false}
use mathlib.Core.List.{List, [], ◌∷◌, ◌++◌, append_assoc, append-nil}
use lib.ListN.{length, get_or, take, drop}
use Rattle.chars.specs.Bytes.{letter}
use Rattle.markup.specs.Marks.{Outcome, On, Not, either, and_then, name_first}
use Rattle.markup.specs.Tags.{Tag, Started, Begun, NoTag, start_tag, end_tag, opens}
use Rattle.markup.specs.Elements.{between}
use Rattle.markup.specs.Streams.{is_root, after_declaration, said, form_of}
use Rattle.markup.specs.Depth.{end_tags, Overdeep, TwentyMeansDeep}
use Rattle.markup.specs.declared.entries.Kind.{Kind}
use Rattle.markup.proofs.FrontTags.{onward, start_front}
use Rattle.markup.proofs.EndTags.{end_own}
use Rattle.markup.proofs.FrontGaps.{empty_comment, gaps_nil}
use Rattle.markup.proofs.Remains.{remains_split}
use Rattle.markup.proofs.Contents.{opens_front, gap_on}
use Rattle.markup.proofs.Openings.{same_front, first_not_lem}
use Rattle.markup.proofs.Refusals.{gaps_never, end_never, Refused, Early, Late, and_not}
use Rattle.markup.proofs.DepthTwenty.{Deep, closed, closed_last, deep_tag, before, whole, gap_is, opens_is}
use Rattle.markup.proofs.PiecesTwenty.{outcome_of, entries_end}
use Rattle.markup.proofs.StreamsTwenty.{EntriesClose, Opening, opening, entries_deep}
use Rattle.markup.proofs.RootsTwenty.{stop_end, closed_end, root_end, root_on, said_outcome, form_on, form_twenty, declaration_front, declaration_remains}

-- 20 comes from the root's content
stop_twenty : (o : Outcome) → stop_end o ≡ Not 20 → o ≡ Not 20
stop_twenty (On []) e = absurd (let z : ◌≡◌ {A = ℕ} 0 1 = cc in omega arith)
stop_twenty (On (b ∷ s)) e = let z : ◌≡◌ {A = ℕ} 19 20 = cc in absurd (omega arith)
stop_twenty (Not n) e = e

closed_twenty : (g : Tag) (o : Outcome) → closed_end g o ≡ Not 20 → o ≡ Not 20
closed_twenty g o e = last (and_not (and_then o (end_tag g.name)) (between false) (stop_twenty _ e))
  where
    first : Refused o (end_tag g.name) → o ≡ Not 20
    first (Early z) = z
    first (Late s f z) = absurd (end_never g.name s z)

    last : Refused (and_then o (end_tag g.name)) (between false) → o ≡ Not 20
    last (Early z) = first (and_not o (end_tag g.name) z)
    last (Late s f z) = absurd (gaps_never (length s) false s z)

-- THE ROOT with its end tag, and nothing behind it
abbrev RootCloses : Kind → List ℕ → List (List ℕ) → Type 0
RootCloses K p names = root_end K (start_tag (p ++ closed names [])) ≡ On []

root_closes : (K : Kind) (p : List ℕ) (g : Tag) (q : List ℕ) → start_tag p ≡ Begun g q → is_root K g ≡ true → g.empty ≡ false → (names : List (List ℕ))
    → EntriesClose K q names → RootCloses K p (names ++ (g.name ∷ []))
root_closes K p g q f i m names w =
    let n : List ℕ = g.name ++ (62 ∷ []) in
    let x : List ℕ = closed names (60 ∷ 47 ∷ n) in
    ap (λ (l : List ℕ). root_end K (start_tag (p ++ l))) (closed_last names g.name [])
    ∙ ap (root_end K) (start_front p (drop 1 x) ∙ ap (onward x) f)
    ∙ rw (i, m) (ap (closed_end g) (w (length (q ++ x)) n (omega arith))
    ∙ ap (λ (o : Outcome). stop_end (and_then o (between false))) (end_own g.name []) ∙ ap stop_end (gaps_nil 0 false))

-- THE STREAM
module _ (K : Kind) (s q : List ℕ) (f : between false (after_declaration s) ≡ On (60 ∷ q)) (first : name_first (get_or q 0 0) ≡ true)
    (d : Deep q 16 (RootCloses K)) where
  front : List ℕ
  front = before 16 false (after_declaration s) q f first ++ (60 ∷ d.front)

  begin : List ℕ
  begin = take (declaration_remains s).read s ++ front

  begin_is : s ≡ begin ++ (60 ∷ d.tag)
  unfolding front begin
  begin_is =
      remains_split s (after_declaration s) (declaration_remains s)
      ∙ ap (λ (l : List ℕ). take (declaration_remains s).read s ++ l) (whole 16 false (after_declaration s) q f first d.front d.tag d.is)
      ∙ sym (append_assoc (take (declaration_remains s).read s) front (60 ∷ d.tag))

  after_is : after_declaration begin ≡ front
  unfolding front letter
  after_is =
      same_front (after_declaration begin) front (60 ∷ d.tag)
      (sym (declaration_front begin d.tag (first_not_lem 63 refl (get_or d.tag 0 0) d.first)) ∙ ap after_declaration (sym begin_is)
      ∙ whole 16 false (after_declaration s) q f first d.front d.tag d.is)

  accepted : outcome_of (said K (begin ++ closed d.names [])) ≡ On []
  unfolding front
  accepted =
      let x : List ℕ = closed d.names [] in
      let g : between false front ≡ On (60 ∷ d.front) = gap_is 16 false (after_declaration s) q f first d.front d.tag d.is in
      let o : opens (60 ∷ d.front) ≡ true = opens_is 16 false (after_declaration s) q f first d.front d.tag d.is in
      said_outcome K (begin ++ x)
      ∙ ap (λ (l : List ℕ). and_then (between false l) (root_on K)) (declaration_front begin (drop 1 x) refl ∙ ap (λ (l : List ℕ). l ++ x) after_is)
      ∙ ap (λ (u : Outcome). and_then u (root_on K)) (gap_on false front 60 d.front g (drop 1 x)) ∙ rw (opens_front 60 d.front (drop 1 x), o) d.closes

  overdeep : Overdeep K s
  overdeep =
      record {
        begin = begin;
        tag = 60 ∷ d.tag;
        is = begin_is;
        starts = d.first;
        names = d.names;
        named = d.named;
        sixteen = d.count;
        begins =
            ap (λ (l : List ℕ). form_of (said K (begin ++ (empty_comment ++ l)))) (sym (append-nil (end_tags d.names)))
            ∙ form_on (said K (begin ++ closed d.names [])) [] accepted;
      }

pub twenty_means_deep : TwentyMeansDeep
twenty_means_deep K s e = start (and_not (between false (after_declaration s)) (root_on K) (sym (said_outcome K s) ∙ form_twenty (said K s) e))
  where
    root : (q : List ℕ) → between false (after_declaration s) ≡ On (60 ∷ q) → name_first (get_or q 0 0) ≡ true → (x : Started) → start_tag q ≡ x
        → root_end K x ≡ Not 20 → Overdeep K s
    root q f a (Begun g u) t z = held (is_root K g) g.empty refl refl z
      where
        held : (i m : Bool) → is_root K g ≡ i → g.empty ≡ m
            → either i (either m (stop_end (between false u)) (closed_end g (entries_end K (length u) u))) (Not 19) ≡ Not 20 → Overdeep K s
        held true true i m y = absurd (gaps_never (length u) false u (stop_twenty (between false u) y))
        held true false i m y =
            overdeep K s q f a (deep_tag (EntriesClose K) (RootCloses K) 15 q g u t
            (λ (p v : List ℕ) (names : List (List ℕ)) h c. root_closes K p g v h i m names c)
            (entries_deep K (length u) u (omega arith) (closed_twenty g (entries_end K (length u) u) y)))
        held false m i m1 y = let z : ◌≡◌ {A = ℕ} 19 20 = cc in absurd (omega arith)
    root q f a NoTag t z = let u : ◌≡◌ {A = ℕ} 19 20 = cc in absurd (omega arith)

    opened : (t : List ℕ) → between false (after_declaration s) ≡ On t → (x : Bool) → opens t ≡ x → either x (root_end K (start_tag (drop 1 t))) (Not 19) ≡ Not 20
        → Overdeep K s
    opened t f true o z =
        let w : Opening t = opening t o in
        root w.rest (f ∙ ap On w.is) w.first (start_tag w.rest) refl (ap (λ (l : List ℕ). root_end K (start_tag (drop 1 l))) (sym w.is) ∙ z)
    opened t f false o z = let u : ◌≡◌ {A = ℕ} 19 20 = cc in absurd (omega arith)

    start : Refused (between false (after_declaration s)) (root_on K) → Overdeep K s
    start (Early z) = absurd (gaps_never (length (after_declaration s)) false (after_declaration s) z)
    start (Late t f z) = opened t f (opens t) refl z
